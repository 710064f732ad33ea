-- A request is refused on a clean connection only where the peer had a reason, in every history that follows the machine. For
-- proofs only.
use Rattle.std.proofs.Common.{◌≡◌, ℕ, zero, suc, ◌==◌, ◌&&◌, not, Bool, true, false, List, [], ◌∷◌, Option, None, Some, is_some, slice_get, refl, ap, sym, subst, ◌∙◌, true≢false}
use Rattle.std.proofs.lemmas.Bool.{and_parts, eqb-true}
use Rattle.std.proofs.lemmas.Option.{same_Some}
use Rattle.std.specs.List.{AllByRecursion, list_any}
use Rattle.std.specs.Option.{option_map_or}
use Rattle.ca_law_endings.specs.Agreement.{HoldsAlong, peer_named}
use Rattle.ca_law_endings.specs.Runs.{Comes}
use Rattle.ca_law_keys.proofs.Posts.GrantLemmas.{both-true}
use Rattle.ca_base.specs.Configuration.{Configuration}
use Rattle.ca_base.specs.declared.completion.Completion.{Completion}
use Rattle.ca_base.specs.declared.completion.WcStatus.{WcStatus}
use Rattle.ca_base.specs.declared.completion.WcStatus.TheVariants as statuses
use Rattle.ca_base.specs.declared.mail_envelope.MailEnvelope.{MailEnvelope}
use Rattle.ca_base.specs.declared.refusals.OpRefusal.{OpRefusal}
use Rattle.ca_base.specs.objects.Mailbox.{bytes_lent, later_than}
use Rattle.ca_law_caused.proofs.Caused.PassLemmas.{or-left, or-right}
use Rattle.ca_law_caused.proofs.Caused.EventLemmas.{complete-with-causes}
use Rattle.ca_law_caused.specs.Causes.{completes_with_cause, has_own_cause}
use Rattle.ca_law_caused.proofs.Link.EntryLemmas.{IsDelivered, entry-passes}
use Rattle.ca_law_caused.proofs.Link.FaultLemmas.{left_by, none-at}
use Rattle.ca_law_caused.proofs.Link.ReasonWalks.{event-reasons-agree, opening-reasons-agree}
use Rattle.ca_law_caused.specs.Linked.{DoCompleteSo, completes_so, has_peers_reason}
use Rattle.ca_law_caused.specs.Refused.{HasBefallen, ReasonsAgree, SpellReason}
use Rattle.ca_keys.specs.Memory.{ByteMap}
use Rattle.ca_keys.specs.declared.names.QueueId.{QueueId}
use Rattle.ca_model.specs.Caused.{Told, is_peers_if_clean, is_refused_by, makes_access_error, makes_invalid, makes_operational_error, told_at_hand}
use Rattle.ca_model.specs.Entries.{EntryValue}
use Rattle.ca_model.specs.Once.{is_clean}
use Rattle.ca_model.specs.Past.{Fault, Naming, Past, after_entry, at_begin, each_entry, each_mark, opening_past, present_incarnation}
use Rattle.ca_model.specs.Progress.{Acknowledges, Answers, AsksAgain, FindsNoReceive, Refuses, Response}
use Rattle.ca_model.specs.declared.mark.Mark.{Mark}
use Rattle.ca_model.specs.machine.Frame.{Afterwards}
use Rattle.ca_model.specs.machine.Respond.{nak_of}
use Rattle.ca_model.specs.machine.Run.{Follows}
use Rattle.ca_model.specs.machine.Sound.{AreLimited, CanBeMade}
use Rattle.ca_model.specs.machine.World.{World, opening_world}
use Rattle.ca_law_once.proofs.Once.RunLemmas.{Stands, Steps, Walk, walk-along}
use Rattle.ca_law_once.proofs.Ties.EntryLemmas.{IsLent, lent-envelope}
use Rattle.ca_law_once.specs.Sides.{reason_of}
use Rattle.ca_wire.specs.Syndrome.{nak_code}
use Rattle.ca_wire.specs.declared.syndrome.NakCode.{NakCode}
use Rattle.ca_wire.specs.declared.syndrome.NakCode.TheVariants as codes

-- ---- a NAK that is told of a request

code-back : (code : NakCode) → nak_of (nak_code code) ≡ code
code-back codes.PsnSequenceError = refl
code-back codes.InvalidRequest = refl
code-back codes.RemoteAccessError = refl
code-back codes.RemoteOperationalError = refl

same-code : (a b : NakCode) → (nak_code a == nak_code b) ≡ true → a ≡ b
same-code a b is = sym (code-back a) ∙ ap nak_of (eqb-true (nak_code a) (nak_code b) is) ∙ code-back b

-- which it is
record IsRefusal (code : NakCode) (s : Past) (x : Completion) : Type 0 where
  told : Told
  is : told_at_hand s x ≡ Some told
  response : told.response ≡ Refuses code

is-refusal : (code : NakCode) (s : Past) (x : Completion) → is_refused_by code s x ≡ true → IsRefusal code s x
is-refusal code s x refused = by (told_at_hand s x) refl (and_parts (not x.receive) _ refused).1
  where
    is_nak : Response → Bool
    is_nak (Refuses found) = nak_code found == nak_code code
    is_nak response = false

    of : (r : Response) → is_nak r ≡ true → r ≡ Refuses code
    of (Refuses found) is = ap (λ c. Refuses c) (same-code found code is)
    of Acknowledges is = absurd (true≢false (sym is))
    of AsksAgain is = absurd (true≢false (sym is))
    of FindsNoReceive is = absurd (true≢false (sym is))
    of Answers is = absurd (true≢false (sym is))

    by : (o : Option Told) → told_at_hand s x ≡ o → option_map_or (λ (t : Told). is_nak t.response) o false ≡ true → IsRefusal code s x
    by None e is = absurd (true≢false (sym is))
    by (Some t) e is = record { told = t; is = e; response = of t.response is }

-- ---- the peer

all-at : {A : Type 0} (P : A → Type 0) (xs : List A) (k : ℕ) (x : A) → AllByRecursion P xs → slice_get xs k ≡ Some x → P x
all-at P [] k x all is = absurd (true≢false (sym (ap is_some is)))
all-at P (y ∷ ys) zero x all is = subst P (same_Some y x is) all.0
all-at P (y ∷ ys) (suc k) x all is = all-at P ys k x all.1 is

-- a queue pair to which a packet is delivered has named a peer, which its mailbox accepts
record HasNamed (past : Past) (w : World) (name : QueueId) : Type 0 where
  naming : Naming
  is : past.naming name ≡ Some naming
  accepts : (w.mailbox name).peer ≡ Some naming.peer

has-named : (c : Configuration) (past : Past) (w : World) (name : QueueId) (index : ℕ) (bytes : List ℕ) → Stands c past w → bytes_lent index (w.mailbox name) ≡ Some bytes → HasNamed past w name
has-named c past w name index bytes stands lends = by (past.naming name) refl
  where
    lent : IsLent index (w.mailbox name) bytes
    lent = lent-envelope index (w.mailbox name) bytes lends

    by : (o : Option Naming) → past.naming name ≡ o → HasNamed past w name
    by None e = absurd (none-at (w.mailbox name).envelopes (later_than index (w.mailbox name)) lent.envelope (stands.empty.mail name (stands.paths.peers name ∙ ap peer_named e)) lent.at)
    by (Some n) e = record { naming = n; is = e; accepts = stands.paths.accepted name ∙ ap peer_named e }

-- ---- an entry

module _ (c : Configuration) (past : Past) (w : World) (stands : Stands c past w) (agree : ReasonsAgree past w) where
  befell : (code : NakCode) (faulty : Fault → Bool) (name : QueueId) (index : ℕ) (s : Past) (x : Completion) (t : Told) → ((fs : List Fault) → HasBefallen (reason_of code) fs → list_any faulty fs ≡ true) → IsDelivered past w name index s x t
      → t.response ≡ Refuses code → is_peers_if_clean faulty s x.queue ≡ true
  befell code faulty name index s x t of d refuses = or-right (not (is_clean s (present_incarnation s x.queue))) _
      (ap (λ o. option_map_or (λ (n : Naming). list_any faulty (s.faults n.peer)) o false) (ap (λ (f : QueueId → Option Naming). f x.queue) d.behind.naming ∙ ap past.naming d.own ∙ named.is)
      ∙ d.behind.befall named.naming.peer faulty (of (past.faults named.naming.peer) reason))
    where
      named : HasNamed past w name
      named = has-named c past w name index d.bytes stands d.lent

      lent : IsLent index (w.mailbox name) d.bytes
      lent = lent-envelope index (w.mailbox name) d.bytes d.lent

      spells : SpellReason (past.faults named.naming.peer) d.bytes
      spells = subst (SpellReason (past.faults named.naming.peer)) lent.brings
          (all-at (λ (e : MailEnvelope). SpellReason (past.faults named.naming.peer) e.bytes) (w.mailbox name).envelopes (later_than index (w.mailbox name)) lent.envelope (agree.mail name named.naming.peer named.accepts) lent.at)

      reason : HasBefallen (reason_of code) (past.faults named.naming.peer)
      reason = spells t.packet d.decodes d.told.response code (d.told.says ∙ ap (λ r. Some r) refuses)

  told-same : (s : Past) (x : Completion) (t u : Told) → told_at_hand s x ≡ Some t → told_at_hand s x ≡ Some u → t ≡ u
  told-same s x t u one other = same_Some t u (sym one ∙ other)

  untold : (s : Past) (x : Completion) (cause : Option OpRefusal) (status : WcStatus) → told_at_hand s x ≡ None → has_own_cause s x cause status ≡ true → has_peers_reason s x status ≡ true
  untold s x cause statuses.RemoteInvalidRequest none own = absurd (true≢false (sym (ap is_some (sym none ∙ (is-refusal codes.InvalidRequest s x own).is))))
  untold s x cause statuses.RemoteAccess none own = absurd (true≢false (sym (ap is_some (sym none ∙ (is-refusal codes.RemoteAccessError s x own).is))))
  untold s x cause statuses.RemoteOperation none own = absurd (true≢false (sym (ap is_some (sym none ∙ (is-refusal codes.RemoteOperationalError s x own).is))))
  untold s x cause statuses.Success none own = refl
  untold s x cause statuses.LocalLength none own = refl
  untold s x cause statuses.LocalProtection none own = refl
  untold s x cause statuses.MemoryManagement none own = refl
  untold s x cause statuses.RetryExceeded none own = refl
  untold s x cause statuses.RnrRetryExceeded none own = refl
  untold s x cause statuses.BadResponse none own = refl
  untold s x cause statuses.Flushed none own = refl

  unclean : (s : Past) (x : Completion) (status : WcStatus) → is_clean s (present_incarnation s x.queue) ≡ false → has_peers_reason s x status ≡ true
  unclean s x statuses.RemoteInvalidRequest none = or-left (not (is_clean s (present_incarnation s x.queue))) _ (ap not none)
  unclean s x statuses.RemoteAccess none = or-left (not (is_clean s (present_incarnation s x.queue))) _ (ap not none)
  unclean s x statuses.RemoteOperation none = or-left (not (is_clean s (present_incarnation s x.queue))) _ (ap not none)
  unclean s x statuses.Success none = refl
  unclean s x statuses.LocalLength none = refl
  unclean s x statuses.LocalProtection none = refl
  unclean s x statuses.MemoryManagement none = refl
  unclean s x statuses.RetryExceeded none = refl
  unclean s x statuses.RnrRetryExceeded none = refl
  unclean s x statuses.BadResponse none = refl
  unclean s x statuses.Flushed none = refl

  refused-so : (code : NakCode) (faulty : Fault → Bool) (name : QueueId) (index : ℕ) (s : Past) (x : Completion) (t : Told) → ((fs : List Fault) → HasBefallen (reason_of code) fs → list_any faulty fs ≡ true) → IsDelivered past w name index s x t
      → told_at_hand s x ≡ Some t → is_refused_by code s x ≡ true → is_peers_if_clean faulty s x.queue ≡ true
  refused-so code faulty name index s x t of d is own = let r = is-refusal code s x own in
      befell code faulty name index s x t of d (ap (λ (u : Told). u.response) (told-same s x t r.told is r.is) ∙ r.response)

  delivered : (name : QueueId) (index : ℕ) (s : Past) (x : Completion) (cause : Option OpRefusal) (t : Told) (status : WcStatus) → IsDelivered past w name index s x t → told_at_hand s x ≡ Some t → has_own_cause s x cause status ≡ true
      → has_peers_reason s x status ≡ true
  delivered name index s x cause t statuses.RemoteInvalidRequest d is own = refused-so codes.InvalidRequest makes_invalid name index s x t (λ fs has. has) d is own
  delivered name index s x cause t statuses.RemoteAccess d is own = refused-so codes.RemoteAccessError makes_access_error name index s x t (λ fs has. has) d is own
  delivered name index s x cause t statuses.RemoteOperation d is own = refused-so codes.RemoteOperationalError makes_operational_error name index s x t (λ fs has. has) d is own
  delivered name index s x cause t statuses.Success d is own = refl
  delivered name index s x cause t statuses.LocalLength d is own = refl
  delivered name index s x cause t statuses.LocalProtection d is own = refl
  delivered name index s x cause t statuses.MemoryManagement d is own = refl
  delivered name index s x cause t statuses.RetryExceeded d is own = refl
  delivered name index s x cause t statuses.RnrRetryExceeded d is own = refl
  delivered name index s x cause t statuses.BadResponse d is own = refl
  delivered name index s x cause t statuses.Flushed d is own = refl

-- ---- a history

-- the first entry passes a test, and the others do
pub first-entry : (test : Past → Mark → Bool) (past : Past) (e : EntryValue) (es : List EntryValue) → each_entry test (λ p. true) past (e ∷ es) ≡ true
    → (each_mark test (at_begin e.event past) e.marks ≡ true) × (each_entry test (λ p. true) (after_entry e past) es ≡ true)
first-entry test past e es all = let parts = and_parts (each_mark test (at_begin e.event past) e.marks && true) (each_entry test (λ p. true) (after_entry e past) es) all in
    ((and_parts (each_mark test (at_begin e.event past) e.marks) true parts.0).0, parts.1)

next-reasons : (c : Configuration) (past : Past) (w v : World) (e : EntryValue) → Stands c past w → Steps c past w e.event e.marks v → ReasonsAgree past w → ReasonsAgree (after_entry e past) v
next-reasons c past w v e stands steps agree = subst (Comes (λ v ms. ReasonsAgree (left_by past e.event ms) v)) steps.comes (event-reasons-agree c past w e.event stands.sound stands.paths stands.empty agree)

pub peers-along : (c : Configuration) (es : List EntryValue) (past : Past) (w : World) → Walk c past w es → ReasonsAgree past w → each_entry completes_with_cause (λ p. true) past es ≡ true
    → each_entry (completes_so has_peers_reason) (λ p. true) past es ≡ true
peers-along c [] past w walk agree own = refl
peers-along c (e ∷ es) past w walk agree own = both-true _ _
    (both-true (each_mark (completes_so has_peers_reason) (at_begin e.event past) e.marks) true
    (entry-passes c past w e.event e.marks walk.1.0 walk.0 walk.1.1 has_peers_reason (λ s x cause none has. untold c past w walk.0 agree s x cause x.status none has) (λ s x none. unclean c past w walk.0 agree s x x.status none)
    (λ name index event s x cause t d is has. delivered c past w walk.0 agree name index s x cause t x.status d is has) (first-entry completes_with_cause past e es own).0) refl)
    (peers-along c es (after_entry e past) walk.1.0 walk.1.2 (next-reasons c past w walk.1.0 e walk.0 walk.1.1 agree) (first-entry completes_with_cause past e es own).1)

-- the agreement along a history
pub reasons-along : (c : Configuration) (es : List EntryValue) (past : Past) (w : World) → Walk c past w es → ReasonsAgree past w → HoldsAlong ReasonsAgree c past w es
reasons-along c [] past w walk agree = agree
reasons-along c (e ∷ es) past w walk agree = (
  agree,
  subst (Afterwards (λ v. HoldsAlong ReasonsAgree c (after_entry e past) v es)) (sym walk.1.1.comes)
      (reasons-along c es (after_entry e past) walk.1.0 walk.1.2 (next-reasons c past w walk.1.0 e walk.0 walk.1.1 agree)),
)

pub histories-reasons : (c : Configuration) (bytes : ByteMap) (es : List EntryValue) → AreLimited c → AllByRecursion (λ e. CanBeMade e.event) es → Follows c bytes es
    → HoldsAlong ReasonsAgree c (opening_past bytes) (opening_world bytes) es
histories-reasons c bytes es limited made follows = reasons-along c es (opening_past bytes) (opening_world bytes) (walk-along c bytes es limited made follows) (opening-reasons-agree bytes)

-- every refused request of a history has its reason at the peer
pub peers-have-reasons : (c : Configuration) (bytes : ByteMap) (es : List EntryValue) → AreLimited c → AllByRecursion (λ e. CanBeMade e.event) es → Follows c bytes es → DoCompleteSo has_peers_reason bytes es
peers-have-reasons c bytes es limited made follows = peers-along c es (opening_past bytes) (opening_world bytes) (walk-along c bytes es limited made follows) (opening-reasons-agree bytes) (complete-with-causes c bytes es limited made follows)
