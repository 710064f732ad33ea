-- The numbers that atomics found, by the past and by the link, after an event. For proofs only.
use Rattle.std.proofs.Common.{◌≡◌, ℕ, zero, suc, ◌+◌, ◌-◌, ◌<◌, ◌≤◌, ◌==◌, ◌&&◌, ◌++◌, arith, cond, nat_lt, Bool, true, false, if◌then◌else◌, length, find, List, [], ◌∷◌, Option, None, Some, is_some, slice_get, refl, ap, ap₂, sym, subst, ◌∙◌, true≢false}
use Rattle.std.proofs.lemmas.Bool.Decides.{nat_tests}
use Rattle.std.proofs.lemmas.List.Sums.{sum_by-cons}
use Rattle.std.proofs.lemmas.Option.{same_Some}
use Rattle.std.specs.List.{count_by}
use Rattle.std.specs.Option.{option_and_then}
use Rattle.ca_law_endings.specs.Agreement.{AreLatest, AreNumbered, PathsAgree}
use Rattle.ca_law_carried.specs.Asked.{has_its_packet}
use Rattle.ca_base.specs.declared.correspondent.Correspondent.{Correspondent}
use Rattle.ca_base.specs.declared.mail_envelope.MailEnvelope.{MailEnvelope}
use Rattle.ca_base.specs.objects.Mailbox.{Mailbox, bytes_lent, is_lost, later_than}
use Rattle.ca_connection.proofs.OnceLemmas.{law-atomic-once}
use Rattle.ca_connection.specs.Layout.{Direction, is_atomic}
use Rattle.ca_connection.specs.Link.{Acceptance, Link, RequestPacket}
use Rattle.ca_connection.specs.Once.{acceptances_of_request}
use Rattle.ca_keys.specs.Equal.{queue_eq}
use Rattle.ca_keys.specs.declared.names.QueueId.{QueueId}
use Rattle.ca_law_world.proofs.Sound.SettledLemmas.{queue-path, queue-refl}
use Rattle.ca_model.specs.Judged.{is_judged}
use Rattle.ca_model.specs.Past.{Envelope, Past, after_mark, after_marks, at_begin, correspondent_eq, each_mark, found_of}
use Rattle.ca_model.specs.declared.event.Event.{Event}
use Rattle.ca_model.specs.declared.mark.Mark.{Mark}
use Rattle.ca_model.specs.declared.mark.Mark.TheVariants as marks
use Rattle.ca_model.specs.machine.World.{World}
use Rattle.ca_law_once.proofs.Once.ActedLemmas.{acted_onto, found-is, met-acted, none-onto, numbers_of, onto, other-onto, own-onto}
use Rattle.ca_law_once.proofs.Once.MailTolds.{correspondent-path}
use Rattle.ca_law_once.proofs.Once.ShapeLemmas.{Delivers}
use Rattle.ca_law_once.specs.OnceTold.{AreSentBy, IsSentBy, IsTold, LiesThere}
use Rattle.ca_law_once.proofs.Ties.EntryLemmas.{IsLent, lent-envelope}
use Rattle.ca_law_once.specs.Ties.{TiedAfter, found_by, found_by_delivery, written_by_delivery}
use Rattle.ca_law_once.specs.Links.{found_at}
use Rattle.ca_law_once.specs.Moves.{numbers_found}

-- ---- an event in which no atomic acts

pub found-same : (d : Direction) (s r : Correspondent) (past p : Past) (w v : World) (l : Link) (acted written : ℕ → List ℕ) (after : TiedAfter d s r w l acted written v) → IsTold d s r past w l → p.acted ≡ past.acted → ((place : ℕ) → acted place ≡ [])
    → (place : ℕ) → found_of p s place ≡ (if is_atomic (d.work place) then found_at place after.link.acceptances else [])
found-same d s r past p w v l acted written after told same none place =
    found-is p s place ∙ ap (numbers_of s place) same ∙ sym (found-is past s place) ∙ told.found place ∙ by (is_atomic (d.work place)) refl
  where
    by : (b : Bool) → is_atomic (d.work place) ≡ b → (if b then found_at place l.acceptances else []) ≡ (if b then found_at place after.link.acceptances else [])
    by true is = sym (after.found place is ∙ ap (λ ns. ns ++ found_at place l.acceptances) (none place))
    by false is = refl

-- ---- a delivery

-- the envelope of an index, at its place
pub record SentIn (es : List Envelope) (index later : ℕ) : Type 0 where
  pub envelope : Envelope
  pub at : slice_get es later ≡ Some envelope
  pub sent : find (λ e. e.index == index) es ≡ Some envelope
  pub uncut : envelope.cut ≡ false

pub same-number : (m n : ℕ) → m ≡ n → (m == n) ≡ true
same-number m n same = grind (arith, nat_tests)

later-number : (m n : ℕ) → n < m → (m == n) ≡ false
later-number m n less = grind (arith, nat_tests)

walk : (ms : List MailEnvelope) (es : List Envelope) (index later : ℕ) (m : MailEnvelope) → AreLatest ms es → AreNumbered es → length es ≡ suc (index + later) → slice_get ms later ≡ Some m → SentIn es index later
walk [] es index later m latest numbered long is = absurd (true≢false (sym (ap is_some is)))
walk (x ∷ xs) [] index later m latest numbered long is = absurd latest
walk (x ∷ xs) (e ∷ es) index zero m latest numbered long is = record {
  envelope = e;
  at = refl;
  sent = ap (λ b. if b then Some e else find (λ e. e.index == index) es) (same-number e.index index (omega (arith, numbered.0, long)));
  uncut = latest.0.uncut;
}
walk (x ∷ xs) (e ∷ es) index (suc later) m latest numbered long is = let rest = walk xs es index later m latest.1 numbered.1 (omega (arith, long)) is in record {
  envelope = rest.envelope;
  at = rest.at;
  sent = ap (λ b. if b then Some e else find (λ e. e.index == index) es) (later-number e.index index (omega (arith, numbered.0, long))) ∙ rest.sent;
  uncut = rest.uncut;
}

before-next : (index next : ℕ) → nat_lt index next ≡ true → next ≡ suc (index + (next - suc index))
before-next index next less = grind (arith, nat_tests)

pub lent-sent : (past : Past) (w : World) (name : QueueId) (index : ℕ) (bytes : List ℕ) → PathsAgree past w → bytes_lent index (w.mailbox name) ≡ Some bytes → SentIn (past.envelopes name) index (later_than index (w.mailbox name))
lent-sent past w name index bytes agree is = by (nat_lt index m.next) refl is
  where
    m : Mailbox
    m = w.mailbox name

    lent : IsLent index m bytes
    lent = lent-envelope index m bytes is

    by : (b : Bool) → nat_lt index m.next ≡ b → option_and_then (λ (e : MailEnvelope). if is_lost e.lot then None else Some e.bytes) (if b then slice_get m.envelopes (later_than index m) else None) ≡ Some bytes
        → SentIn (past.envelopes name) index (later_than index m)
    by false e is = absurd (true≢false (sym (ap is_some is)))
    by true e is = walk m.envelopes (past.envelopes name) index (later_than index m) lent.envelope (agree.latest name) (agree.numbered name) (sym (agree.counts name) ∙ before-next index m.next e) lent.at

-- an entry's envelope is its own
pub entry-sent : (s : Correspondent) (xs : List (Option RequestPacket)) (es : List Envelope) (k : ℕ) (x : Option RequestPacket) (e : Envelope) → AreSentBy s xs es → slice_get xs k ≡ Some x → slice_get es k ≡ Some e → IsSentBy s x e
entry-sent s [] es k x e sent at there = absurd (true≢false (sym (ap is_some at)))
entry-sent s (y ∷ ys) [] k x e sent at there = absurd sent
entry-sent s (y ∷ ys) (f ∷ fs) zero x e sent at there = subst (λ z. IsSentBy s z e) (same_Some y x at) (subst (IsSentBy s y) (same_Some f e there) sent.0)
entry-sent s (y ∷ ys) (f ∷ fs) (suc k) x e sent at there = entry-sent s ys fs k x e sent.1 at there

pub among-some : {A : Type 0} (xs : List A) (k : ℕ) → k < length xs → slice_get xs k ≡ None → ⊥
among-some [] k less is = omega (arith, less)
among-some (x ∷ xs) zero less is = true≢false (ap is_some is)
among-some (x ∷ xs) (suc k) less is = among-some xs k (omega (arith, less)) is

pub count-yes : {A : Type 0} (test : A → Bool) (x : A) (xs : List A) → test x ≡ true → count_by test (x ∷ xs) ≡ suc (count_by test xs)
count-yes test x xs passes = omega (arith, sum_by-cons (λ y. cond (test y) 1 0) x xs, ap {B = ℕ} (λ b. cond b 1 0) passes)

pub count-not : {A : Type 0} (test : A → Bool) (x : A) (xs : List A) → test x ≡ false → count_by test (x ∷ xs) ≡ count_by test xs
count-not test x xs fails = omega (arith, sum_by-cons (λ y. cond (test y) 1 0) x xs, ap {B = ℕ} (λ b. cond b 1 0) fails)

-- the numbers of a place are as many as the link's acceptances of it
pub found-count : (place : ℕ) (xs : List Acceptance) → length (found_at place xs) ≡ acceptances_of_request place xs
found-count place [] = refl
found-count place (x ∷ xs) = by (x.place == place) refl (found-count place xs)
  where
    by : (b : Bool) → (x.place == place) ≡ b → length (found_at place xs) ≡ acceptances_of_request place xs → length (if x.place == place then x.found ∷ found_at place xs else found_at place xs) ≡ acceptances_of_request place (x ∷ xs)
    by true is rest = ap (λ b. length (if b then x.found ∷ found_at place xs else found_at place xs)) is ∙ ap suc rest ∙ sym (count-yes (λ (m : Acceptance). m.place == place) x xs is)
    by false is rest = ap (λ b. length (if b then x.found ∷ found_at place xs else found_at place xs)) is ∙ rest ∙ sym (count-not (λ (m : Acceptance). m.place == place) x xs is)

onto-few : (ms ys : List ℕ) → length (ms ++ ys) ≤ 1 → onto ms ys ≡ ms ++ ys
onto-few [] ys few = refl
onto-few (m ∷ []) ys few = refl
onto-few (m ∷ n ∷ ms) ys few = absurd (omega (arith, few))

pub found-delivered : (d : Direction) (s r : Correspondent) (past : Past) (w v : World) (l : Link) (event : Event) (name : QueueId) (index : ℕ) (ms : List Mark) (after : TiedAfter d s r w l (found_by_delivery r w l name index ms) (written_by_delivery r w l name index ms) v)
    → IsTold d s r past w l → PathsAgree past w → Delivers w name index ms → each_mark has_its_packet (at_begin event past) ms ≡ true → each_mark is_judged (at_begin event past) ms ≡ true
    → (place : ℕ) → found_of (after_marks ms (at_begin event past)) s place ≡ (if is_atomic (d.work place) then found_at place after.link.acceptances else [])
found-delivered d s r past w v l event name index ms after told agree delivers carried judged place =
    found-is (after_marks ms begin) s place ∙ ap (numbers_of s place) acted ∙ by (queue_eq name r.queue) refl (correspondent_eq e.source s) refl
  where
    begin : Past
    begin = at_begin event past

    k : ℕ
    k = later_than index (w.mailbox name)

    sent : SentIn (past.envelopes name) index k
    sent = lent-sent past w name index delivers.bytes agree delivers.lent

    e : Envelope
    e = sent.envelope

    arrived : Past
    arrived = after_mark (marks.Arrived name (Some index)) begin

    numbers : List ℕ
    numbers = numbers_found ms

    acted : (after_marks ms begin).acted ≡ acted_onto e numbers past.acted
    acted = ap (λ xs. (after_marks xs begin).acted) delivers.are
        ∙ met-acted name index e delivers.rest arrived delivers.own (record { arrival = refl; sent = sent.sent })
        (subst (λ xs. each_mark has_its_packet begin xs ≡ true) delivers.are carried)
        (subst (λ xs. each_mark is_judged begin xs ≡ true) delivers.are judged)
        ∙ ap (λ xs. acted_onto e xs past.acted) (sym (ap numbers_found delivers.are))

    -- nothing was found for a request of the life that sends
    unchanged : numbers_of s place (acted_onto e numbers past.acted) ≡ numbers_of s place past.acted → found_by_delivery r w l name index ms place ≡ []
        → numbers_of s place (acted_onto e numbers past.acted) ≡ (if is_atomic (d.work place) then found_at place after.link.acceptances else [])
    unchanged same none = same ∙ sym (found-is past s place) ∙ told.found place ∙ at (is_atomic (d.work place)) refl
      where
        at : (b : Bool) → is_atomic (d.work place) ≡ b → (if b then found_at place l.acceptances else []) ≡ (if b then found_at place after.link.acceptances else [])
        at true is = sym (after.found place is ∙ ap (λ ns. ns ++ found_at place l.acceptances) none)
        at false is = refl

    lies : correspondent_eq e.source s ≡ true → LiesThere r l.requests name k
    lies mine = told.alone name k e sent.at sent.uncut (correspondent-path e.source s mine)

    here : queue_eq name r.queue ≡ true → slice_get (past.envelopes r.queue) k ≡ Some e
    here is = ap (λ n. slice_get (past.envelopes n) k) (sym (queue-path name r.queue is)) ∙ sent.at

    acted-here : queue_eq name r.queue ≡ true → (o : Option (Option RequestPacket)) → slice_get l.requests k ≡ o → found_by_delivery r w l name index ms place ≡ found_by o numbers place
    acted-here is o at = ap₂ (λ b x. if b then found_by x numbers place else []) is at

    -- the packet of one of its requests was delivered
    changed : (x : RequestPacket) → queue_eq name r.queue ≡ true → slice_get l.requests k ≡ Some (Some x) → correspondent_eq e.source s ≡ true
        → numbers_of s place (acted_onto e numbers past.acted) ≡ (if is_atomic (d.work place) then found_at place after.link.acceptances else [])
    changed x is at mine = own-onto s place x.place e numbers past.acted mine (entry-sent s l.requests (past.envelopes r.queue) k (Some x) e told.sources at (here is)).1
        ∙ ap (onto new) (sym (found-is past s place) ∙ told.found place) ∙ by (is_atomic (d.work place)) refl
      where
        new : List ℕ
        new = if x.place == place then numbers else []

        new_is : found_by_delivery r w l name index ms place ≡ new
        new_is = acted-here is (Some (Some x)) at

        by : (b : Bool) → is_atomic (d.work place) ≡ b → onto new (if b then found_at place l.acceptances else []) ≡ (if b then found_at place after.link.acceptances else [])
        by true atomic = onto-few new (found_at place l.acceptances) (omega (arith, ap length grew, found-count place after.link.acceptances, law-atomic-once d after.link place after.tied.reached atomic)) ∙ sym grew
          where
            grew : found_at place after.link.acceptances ≡ new ++ found_at place l.acceptances
            grew = after.found place atomic ∙ ap (λ ns. ns ++ found_at place l.acceptances) new_is
        by false none = ap (λ ns. onto ns []) (sym new_is ∙ after.plain place none)

    -- the entry, by who sent its envelope
    entry : queue_eq name r.queue ≡ true → (b : Bool) → correspondent_eq e.source s ≡ b → (o : Option (Option RequestPacket)) → slice_get l.requests k ≡ o
        → numbers_of s place (acted_onto e numbers past.acted) ≡ (if is_atomic (d.work place) then found_at place after.link.acceptances else [])
    entry is true mine None at = absurd (among-some l.requests k (lies mine).among at)
    entry is false other None at = unchanged (other-onto s place e numbers past.acted other) (acted-here is None at)
    entry is b whose (Some None) at = unchanged (ap (numbers_of s place) (none-onto e numbers past.acted (entry-sent s l.requests (past.envelopes r.queue) k None e told.sources at (here is)))) (acted-here is (Some None) at)
    entry is true mine (Some (Some x)) at = changed x is at mine
    entry is false other (Some (Some x)) at =
        absurd (true≢false (sym (ap (λ y. correspondent_eq y s) (entry-sent s l.requests (past.envelopes r.queue) k (Some x) e told.sources at (here is)).0 ∙ itself) ∙ other))
      where
        itself : correspondent_eq s s ≡ true
        itself = ap₂ (λ a b. a && b) (queue-refl s.queue) (same-number s.incarnation s.incarnation refl)

    by : (b : Bool) → queue_eq name r.queue ≡ b → (a : Bool) → correspondent_eq e.source s ≡ a
        → numbers_of s place (acted_onto e numbers past.acted) ≡ (if is_atomic (d.work place) then found_at place after.link.acceptances else [])
    by true is a whose = entry is a whose (slice_get l.requests k) refl
    by false not a whose = at a whose
      where
        nothing : found_by_delivery r w l name index ms place ≡ []
        nothing = ap (λ b. if b then found_by (slice_get l.requests k) numbers place else []) not

        at : (a : Bool) → correspondent_eq e.source s ≡ a → numbers_of s place (acted_onto e numbers past.acted) ≡ (if is_atomic (d.work place) then found_at place after.link.acceptances else [])
        at true mine = absurd (true≢false (sym (ap (λ n. queue_eq n r.queue) (lies mine).at ∙ queue-refl r.queue) ∙ not))
        at false other = unchanged (other-onto s place e numbers past.acted other) nothing
