-- A delivery keeps the receiver's tie, and the sender's.
use Rattle.std.proofs.Common.{◌≡◌, ℕ, ◌==◌, ◌++◌, ◌∷◌, inl, inr, ◌%◌, ◌^◌, Bool, true, false, if◌then◌else◌, List, [], Option, None, Some, slice_get, refl, ap, sym, subst, ◌∙◌, arith, true≢false, replicate}
use Rattle.std.proofs.lemmas.Bool.{eqb-true}
use Rattle.std.proofs.lemmas.Option.{same_Some}
use Rattle.ca_law_endings.proofs.InnerLemmas.{IsInner, arrival-inner}
use Rattle.ca_base.specs.declared.change.State.{State}
use Rattle.ca_base.specs.declared.change.State.TheVariants as states
use Rattle.ca_base.specs.declared.correspondent.Correspondent.{Correspondent}
use Rattle.ca_base.specs.objects.Mailbox.{Mailbox, after_delivery, later_than}
use Rattle.ca_base.specs.objects.QueuePair.{QueuePair, QueueSlot, Present, queue_in}
use Rattle.ca_base.specs.objects.SharedReceives.{SharedReceives}
use Rattle.ca_connection.specs.Layout.{Direction, is_atomic, is_write}
use Rattle.ca_connection.specs.Link.{Link, RequestPacket, Requester, Responder, Response, number_of, opening}
use Rattle.ca_connection.specs.Moves.{MayArrive, MayBeTaken, Reached, Reception}
use Rattle.ca_connection.specs.Once.{numbers_at}
use Rattle.ca_connection.specs.Moves.Reception.{Accepted, Neither, Rejected}
use Rattle.ca_model.specs.declared.mark.Mark.{Mark}
use Rattle.ca_model.specs.machine.Delivery.{arrival_row}
use Rattle.ca_model.specs.machine.Invariants.{IsMailbox, IsQueue, is_sending}
use Rattle.ca_model.specs.machine.Row.{Effects}
use Rattle.ca_psn.specs.Psn.{widened}
use Rattle.ca_law_once.proofs.Ties.DeliverWalk.{Ends, ends-as, ends-do}
use Rattle.ca_law_once.proofs.Ties.EntryLemmas.{EntryIs, IsLent, delivered-entries, entry-at, lent-recent}
use Rattle.ca_law_once.specs.Ties.{AreEntries, IsBefore, IsOver, IsPaired, ReceiverTie, RequesterTie, SenderTie, found_by, written_by_entry}
use Rattle.ca_law_once.specs.Ties.IsBefore.{sooner, unnamed}
use Rattle.ca_law_once.specs.Ties.IsOver.{later, vacant}
use Rattle.ca_law_once.specs.Ties.ReceiverTie.{before as receiver_before, standing as receiver_standing, gone as receiver_gone}
use Rattle.ca_law_once.specs.Ties.SenderTie.{before as sender_before, standing as sender_standing, gone as sender_gone}
use Rattle.ca_law_once.proofs.Rows.ArrivalLemmas.{arrival-state, other-request-stays, other-response-forgets, request-received, response-taken}
use Rattle.ca_law_once.proofs.Rows.LinkLemmas.{forgotten-moves, received-moves, taken-moves}
use Rattle.ca_law_once.specs.Entries.{SpellsRequest, SpellsResponse, SpellsSomeRequest, SpellsSomeResponse}
use Rattle.ca_law_once.specs.Links.{IsReceived, IsTaken, LeadsTo, found_at}
use Rattle.ca_law_once.specs.Moves.{ForgetsIn, LeavesState, ReceivesIn, StaysIn, TakesIn, found_in, numbers_found, writes_told, written_in}
use Rattle.ca_law_once.specs.Sides.{requester_in, responder_in}

pub present-same : (p q : QueuePair) → Present p ≡ Present q → p ≡ q
present-same p q is = same_Some p q (ap queue_in is)

-- a link that moves lead to, in which the receiver's tie holds, and the sender's side is as it was
pub record ReceiverStep (d : Direction) (s r : Correspondent) (l : Link) (acted written : ℕ → List ℕ) (slot : QueueSlot) (m : Mailbox) : Type 0 where
  pub link : Link
  pub reached : Reached d link
  pub requester_is : link.requester ≡ l.requester
  pub responses_are : link.responses ≡ l.responses
  pub tie : ReceiverTie d s r slot m link.responder link.requests
  pub found : (place : ℕ) → is_atomic (d.work place) ≡ true → found_at place link.acceptances ≡ acted place ++ found_at place l.acceptances
  pub plain : (place : ℕ) → is_atomic (d.work place) ≡ false → acted place ≡ []
  pub wrote : (place : ℕ) → is_write (d.work place) ≡ true → numbers_at place link.acceptances ≡ written place ++ numbers_at place l.acceptances
  pub unwritten : (place : ℕ) → is_write (d.work place) ≡ false → written place ≡ []
  pub requests_are : link.requests ≡ l.requests

-- what a delivery knows of the queue pair that it meets
pub record Delivered (index : ℕ) (q : QueuePair) (m : Mailbox) (bytes : List ℕ) (shared : Option SharedReceives) (e : Effects) : Type 0 where
  pub sound : IsQueue q
  pub box : IsMailbox m
  pub lent : IsLent index m bytes
  pub ends : Ends (arrival_row bytes (Some index) shared q) e

-- it leaves incarnation and peer
delivered-inner : (index : ℕ) (q : QueuePair) (m : Mailbox) (bytes : List ℕ) (shared : Option SharedReceives) (e : Effects) → Delivered index q m bytes shared e → IsInner q e
delivered-inner index q m bytes shared e x = ends-do (IsInner q) (arrival_row bytes (Some index) shared q) e x.ends (ends-as (IsInner q) (arrival_row bytes (Some index) shared q) (arrival-inner bytes (Some index) shared q))

delivered-state : (index : ℕ) (q : QueuePair) (m : Mailbox) (bytes : List ℕ) (shared : Option SharedReceives) (e : Effects) → Delivered index q m bytes shared e → LeavesState q e
delivered-state index q m bytes shared e x = ends-do (LeavesState q) (arrival_row bytes (Some index) shared q) e x.ends (arrival-state bytes (Some index) shared q)

pub before-after : (life : Correspondent) (q p : QueuePair) → p.incarnation ≡ q.incarnation → p.peer ≡ q.peer → IsBefore life (Present q) → IsBefore life (Present p)
before-after life q p incarnation peer (sooner less) = sooner (omega (arith, less, incarnation))
before-after life q p incarnation peer (unnamed t is same none) =
    unnamed p refl (incarnation ∙ ap (λ (x : QueuePair). x.incarnation) (present-same q t is) ∙ same) (peer ∙ ap (λ (x : QueuePair). x.peer) (present-same q t is) ∙ none)

pub over-after : (life : Correspondent) (q p : QueuePair) → p.incarnation ≡ q.incarnation → IsOver life (Present q) → IsOver life (Present p)
over-after life q p incarnation (later more) = later (omega (arith, more, incarnation))
over-after life q p incarnation (vacant none same) = absurd (true≢false none)

pub paired-after : (d : Direction) (life peer : Correspondent) (q p t : QueuePair) → p.incarnation ≡ q.incarnation → p.peer ≡ q.peer → p.responder.mtu ≡ d.mtu → IsPaired d life peer (Present q) t → IsPaired d life peer (Present p) p
paired-after d life peer q p t incarnation same mtu paired = record {
  present = refl;
  incarnation = incarnation ∙ ap (λ (x : QueuePair). x.incarnation) (present-same q t paired.present) ∙ paired.incarnation;
  names = same ∙ ap (λ (x : QueuePair). x.peer) (present-same q t paired.present) ∙ paired.names;
  mtu = mtu;
}

none-found : (requests : List (Option RequestPacket)) (k : ℕ) (numbers : List ℕ) (place : ℕ) → requests ≡ [] → found_by (slice_get requests k) numbers place ≡ []
none-found requests k numbers place none = ap (λ xs. found_by (slice_get xs k) numbers place) none

none-written : (requests : List (Option RequestPacket)) (k count place : ℕ) → requests ≡ [] → written_by_entry (slice_get requests k) count place ≡ []
none-written requests k count place none = ap (λ xs. written_by_entry (slice_get xs k) count place) none

-- nothing of the link changes
pub receiver-same : (d : Direction) (s r : Correspondent) (l : Link) (acted written : ℕ → List ℕ) (slot : QueueSlot) (m : Mailbox) → Reached d l → ((place : ℕ) → acted place ≡ []) → ((place : ℕ) → written place ≡ []) → ReceiverTie d s r slot m l.responder l.requests
    → ReceiverStep d s r l acted written slot m
receiver-same d s r l acted written slot m reached none unwritten tie = record {
  link = l;
  reached = reached;
  requester_is = refl;
  responses_are = refl;
  tie = tie;
  found = λ place is. ap (λ ns. ns ++ found_at place l.acceptances) (sym (none place));
  plain = λ place is. none place;
  wrote = λ place is. ap (λ ns. ns ++ numbers_at place l.acceptances) (sym (unwritten place));
  unwritten = λ place is. unwritten place;
  requests_are = refl;
}

-- what is no atomic finds nothing
nothing-found : (d : Direction) (p : RequestPacket) (place : ℕ) (x : Reception) (numbers : List ℕ) → is_atomic (d.work place) ≡ false → numbers ≡ found_in (d.work p.place) x → (if p.place == place then numbers else []) ≡ []
nothing-found d p place x numbers none are = by (p.place == place) refl
  where
    of : (y : Reception) → is_atomic (d.work p.place) ≡ false → found_in (d.work p.place) y ≡ []
    of Neither is = refl
    of (Rejected code) is = refl
    of (Accepted found) is = ap (λ b. if b then found ∷ [] else []) is

    by : (b : Bool) → (p.place == place) ≡ b → (if b then numbers else []) ≡ []
    by true e = are ∙ of x (ap (λ n. is_atomic (d.work n)) (eqb-true p.place place e) ∙ none)
    by false e = refl

-- what is no WRITE writes nothing
nothing-written : (d : Direction) (p : RequestPacket) (place : ℕ) (x : Reception) (count : ℕ) → is_write (d.work place) ≡ false → count ≡ written_in (d.work p.place) x → (if p.place == place then replicate count p.number else []) ≡ []
nothing-written d p place x count none are = by (p.place == place) refl
  where
    of : (y : Reception) → is_write (d.work p.place) ≡ false → written_in (d.work p.place) y ≡ 0
    of Neither is = refl
    of (Rejected code) is = refl
    of (Accepted found) is = ap (λ (b : Bool). if b then 1 else 0) is

    by : (b : Bool) → (p.place == place) ≡ b → (if b then replicate count p.number else []) ≡ []
    by true e = ap (λ (n : ℕ). replicate n p.number) (are ∙ of x (ap (λ n. is_write (d.work n)) (eqb-true p.place place e) ∙ none))
    by false e = refl

pub receiver-step : (d : Direction) (s r : Correspondent) (l : Link) (index : ℕ) (q : QueuePair) (m : Mailbox) (bytes : List ℕ) (shared : Option SharedReceives) (e : Effects) (ms : List Mark)
    → Delivered index q m bytes shared e → numbers_found ms ≡ numbers_found e.marks → writes_told ms ≡ writes_told e.marks → Reached d l → ReceiverTie d s r (Present q) m l.responder l.requests
    → ReceiverStep d s r l (found_by (slice_get l.requests (later_than index m)) (numbers_found ms)) (written_by_entry (slice_get l.requests (later_than index m)) (writes_told ms)) (Present e.queue) (after_delivery index m)
receiver-step d s r l index q m bytes shared e ms x told told_writes reached tie = by tie
  where
    inner : IsInner q e
    inner = delivered-inner index q m bytes shared e x

    k : ℕ
    k = later_than index m

    row_mtu : e.queue.responder.mtu ≡ q.responder.mtu
    row_mtu = (delivered-state index q m bytes shared e x).1

    meets : (t : QueuePair) → IsPaired d r s (Present q) t → l.responder ≡ responder_in t → AreEntries (SpellsRequest d) SpellsSomeResponse m.envelopes l.requests
        → (o : Option (Option RequestPacket)) → slice_get l.requests k ≡ o → EntryIs (SpellsRequest d) SpellsSomeResponse o bytes
        → ReceiverStep d s r l (found_by o (numbers_found ms)) (written_by_entry o (writes_told ms)) (Present e.queue) (after_delivery index m)
    meets t paired same entries None at entry = absurd entry
    meets t paired same entries (Some None) at entry = record {
      link = after.link;
      reached = after.reached;
      requester_is = after.requester_is;
      responses_are = after.responses_are;
      tie = receiver_standing e.queue (paired-after d r s q e.queue t inner.incarnation inner.peer does.mtu paired) after.responder_is
          (subst (AreEntries (SpellsRequest d) SpellsSomeResponse (after_delivery index m).envelopes) (sym after.requests_are) (delivered-entries (SpellsRequest d) SpellsSomeResponse k m.envelopes l.requests entries));
      found = λ place is. ap (found_at place) after.acceptances;
      plain = λ place is. refl;
      wrote = λ place is. ap (numbers_at place) after.acceptances;
      unwritten = λ place is. refl;
      requests_are = after.requests_are;
    }
      where
        is : l.responder ≡ responder_in q
        is = same ∙ ap responder_in (sym (present-same q t paired.present))

        mtu : q.responder.mtu ≡ d.mtu
        mtu = ap (λ (x : QueuePair). x.responder.mtu) (present-same q t paired.present) ∙ paired.mtu

        does : ForgetsIn d l.responder e
        does = subst (λ z. ForgetsIn d z e) (sym is) (ends-do (ForgetsIn d (responder_in q)) (arrival_row bytes (Some index) shared q) e x.ends (other-response-forgets d bytes (Some index) shared q mtu entry))

        after : LeadsTo d l l.requester (responder_in e.queue) l.requests l.responses
        after = forgotten-moves d l e reached does
    meets t paired same entries (Some (Some p)) at entry = record {
      link = after.link;
      reached = after.reached;
      requester_is = after.requester_is;
      responses_are = after.responses_are;
      tie = receiver_standing e.queue (paired-after d r s q e.queue t inner.incarnation inner.peer does.mtu paired) after.responder_is
          (subst (AreEntries (SpellsRequest d) SpellsSomeResponse (after_delivery index m).envelopes) (sym after.requests_are) (delivered-entries (SpellsRequest d) SpellsSomeResponse k m.envelopes l.requests entries));
      found = λ place is. after.found place is ∙ ap (λ ns. (if p.place == place then ns else []) ++ found_at place l.acceptances) (sym told);
      plain = λ place is. nothing-found d p place does.reception (numbers_found ms) is (told ∙ does.found);
      wrote = λ place is. after.wrote place is ∙ ap (λ (n : ℕ). (if p.place == place then replicate n p.number else []) ++ numbers_at place l.acceptances) (sym told_writes);
      unwritten = λ place is. nothing-written d p place does.reception (writes_told ms) is (told_writes ∙ does.wrote);
      requests_are = after.requests_are;
    }
      where
        is : l.responder ≡ responder_in q
        is = same ∙ ap responder_in (sym (present-same q t paired.present))

        mtu : q.responder.mtu ≡ d.mtu
        mtu = ap (λ (x : QueuePair). x.responder.mtu) (present-same q t paired.present) ∙ paired.mtu

        does : ReceivesIn d p (widened l.responder.expected (p.number % 2 ^ 24)) l.responder e
        does = subst (λ (z : Responder). ReceivesIn d p (widened z.expected (p.number % 2 ^ 24)) z e) (sym is)
            (ends-do (ReceivesIn d p (widened q.responder.expected (p.number % 2 ^ 24)) (responder_in q)) (arrival_row bytes (Some index) shared q) e x.ends (request-received d p bytes (Some index) shared q mtu entry))

        may : MayArrive l k p
        may = record { is = at; recent = lent-recent index m bytes x.box x.lent }

        after : IsReceived d l p (responder_in e.queue) e
        after = (received-moves d l k p e reached may does).1

    by : ReceiverTie d s r (Present q) m l.responder l.requests → ReceiverStep d s r l (found_by (slice_get l.requests k) (numbers_found ms)) (written_by_entry (slice_get l.requests k) (writes_told ms)) (Present e.queue) (after_delivery index m)
    by (receiver_before is responder none) = receiver-same d s r l _ _ (Present e.queue) (after_delivery index m) reached (λ place. none-found l.requests k (numbers_found ms) place none) (λ place. none-written l.requests k (writes_told ms) place none)
        (receiver_before (before-after r q e.queue inner.incarnation inner.peer is) responder none)
    by (receiver_gone is none) = receiver-same d s r l _ _ (Present e.queue) (after_delivery index m) reached (λ place. none-found l.requests k (numbers_found ms) place none) (λ place. none-written l.requests k (writes_told ms) place none)
        (receiver_gone (over-after r q e.queue inner.incarnation is) none)
    by (receiver_standing t paired same entries) = meets t paired same entries (slice_get l.requests k) refl
        (subst (EntryIs (SpellsRequest d) SpellsSomeResponse (slice_get l.requests k)) x.lent.brings (entry-at (SpellsRequest d) SpellsSomeResponse m.envelopes l.requests k x.lent.envelope entries x.lent.at))

-- ---- the sender

pub record SenderStep (d : Direction) (s r : Correspondent) (l : Link) (slot : QueueSlot) (m : Mailbox) : Type 0 where
  pub link : Link
  pub reached : Reached d link
  pub responder_is : link.responder ≡ l.responder
  pub requests_are : link.requests ≡ l.requests
  pub acceptances : link.acceptances ≡ l.acceptances
  pub tie : SenderTie d s r slot m link.requester link.responses

-- states are told apart by tests
abbrev is-rtr : State → Bool
is-rtr states.Reset = false
is-rtr states.Init = false
is-rtr states.Rtr = true
is-rtr states.Rts = false
is-rtr states.Sqd = false
is-rtr states.Error = false

-- where the queue pair is ready to receive, or sends, it was and did before
pub before-rtr : (q : QueuePair) (e : Effects) → LeavesState q e → e.queue.state ≡ states.Rtr → q.state ≡ states.Rtr
before-rtr q e (inl same, mtu) is = sym same ∙ is
before-rtr q e (inr error, mtu) is = absurd (true≢false (ap is-rtr (sym is ∙ error)))

pub before-sending : (q : QueuePair) (e : Effects) → LeavesState q e → is_sending e.queue.state ≡ true → is_sending q.state ≡ true
before-sending q e (inl same, mtu) is = ap is_sending (sym same) ∙ is
before-sending q e (inr error, mtu) is = absurd (true≢false (sym is ∙ ap is_sending error))

pub sender-same : (d : Direction) (s r : Correspondent) (l : Link) (slot : QueueSlot) (m : Mailbox) → Reached d l → SenderTie d s r slot m l.requester l.responses → SenderStep d s r l slot m
sender-same d s r l slot m reached tie = record { link = l; reached = reached; responder_is = refl; requests_are = refl; acceptances = refl; tie = tie }

pub sender-step : (d : Direction) (s r : Correspondent) (l : Link) (index : ℕ) (q : QueuePair) (m : Mailbox) (bytes : List ℕ) (shared : Option SharedReceives) (e : Effects)
    → Delivered index q m bytes shared e → Reached d l → SenderTie d s r (Present q) m l.requester l.responses → SenderStep d s r l (Present e.queue) (after_delivery index m)
sender-step d s r l index q m bytes shared e x reached tie = by tie
  where
    inner : IsInner q e
    inner = delivered-inner index q m bytes shared e x

    k : ℕ
    k = later_than index m

    state : LeavesState q e
    state = delivered-state index q m bytes shared e x

    -- where it sends no more, nothing of the requester is asked that was not so before
    silent : (requester : Requester) → (q.state ≡ states.Rtr → requester ≡ (opening d).requester) → is_sending q.state ≡ false → RequesterTie d e.queue requester
    silent requester fresh none = record {
      fresh = λ is. fresh (before-rtr q e state is);
      sending = λ is. absurd (true≢false (sym (before-sending q e state is) ∙ none));
      laid = λ is. absurd (true≢false (sym (before-sending q e state is) ∙ none));
    }

    meets : (t : QueuePair) → IsPaired d s r (Present q) t → RequesterTie d q l.requester → AreEntries SpellsResponse SpellsSomeRequest m.envelopes l.responses
        → (o : Option (Option Response)) → slice_get l.responses k ≡ o → EntryIs SpellsResponse SpellsSomeRequest o bytes → SenderStep d s r l (Present e.queue) (after_delivery index m)
    meets t paired own entries None at entry = absurd entry
    meets t paired own entries (Some None) at entry = sender-same d s r l (Present e.queue) (after_delivery index m) reached
        (sender_standing e.queue after_paired (record {
          fresh = λ is. own.fresh (before-rtr q e state is);
          sending = λ is. own.sending (before-sending q e state is) ∙ sym does.requester;
          laid = does.laid;
        }) (delivered-entries SpellsResponse SpellsSomeRequest k m.envelopes l.responses entries))
      where
        after_paired : IsPaired d s r (Present e.queue) e.queue
        after_paired = paired-after d s r q e.queue t inner.incarnation inner.peer (state.1 ∙ ap (λ (x : QueuePair). x.responder.mtu) (present-same q t paired.present) ∙ paired.mtu) paired

        does : StaysIn d (requester_in q) e
        does = ends-do (StaysIn d (requester_in q)) (arrival_row bytes (Some index) shared q) e x.ends (other-request-stays d bytes (Some index) shared q own.laid entry)
    meets t paired own entries (Some (Some a)) at entry = sends (is_sending q.state) refl
      where
        after_paired : IsPaired d s r (Present e.queue) e.queue
        after_paired = paired-after d s r q e.queue t inner.incarnation inner.peer (state.1 ∙ ap (λ (x : QueuePair). x.responder.mtu) (present-same q t paired.present) ∙ paired.mtu) paired

        sends : (b : Bool) → is_sending q.state ≡ b → SenderStep d s r l (Present e.queue) (after_delivery index m)
        sends false none = sender-same d s r l (Present e.queue) (after_delivery index m) reached
            (sender_standing e.queue after_paired (silent l.requester own.fresh none) (delivered-entries SpellsResponse SpellsSomeRequest k m.envelopes l.responses entries))
        sends true is = record {
          link = after.link;
          reached = after.reached;
          responder_is = after.responder_is;
          requests_are = after.requests_are;
          acceptances = after.acceptances;
          tie = sender_standing e.queue after_paired (record {
            fresh = λ rtr. absurd (true≢false (sym is ∙ ap is_sending (before-rtr q e state rtr)));
            sending = λ sending. after.requester_is;
            laid = does.laid;
          }) (subst (AreEntries SpellsResponse SpellsSomeRequest (after_delivery index m).envelopes) (sym after.responses_are) (delivered-entries SpellsResponse SpellsSomeRequest k m.envelopes l.responses entries));
        }
          where
            does : TakesIn d a (widened l.requester.una (number_of a % 2 ^ 24)) l.requester e
            does = subst (λ (z : Requester). TakesIn d a (widened z.una (number_of a % 2 ^ 24)) z e) (sym (own.sending is))
                (ends-do (TakesIn d a (widened q.requester.una (number_of a % 2 ^ 24)) (requester_in q)) (arrival_row bytes (Some index) shared q) e x.ends
                (response-taken d a bytes (Some index) shared q x.sound own.laid entry))

            may : MayBeTaken l k a
            may = record { is = at; recent = lent-recent index m bytes x.box x.lent }

            after : IsTaken d l (requester_in e.queue) does.completion
            after = (taken-moves d l k a e reached may does).1

    by : SenderTie d s r (Present q) m l.requester l.responses → SenderStep d s r l (Present e.queue) (after_delivery index m)
    by (sender_before is requester none) = sender-same d s r l (Present e.queue) (after_delivery index m) reached (sender_before (before-after s q e.queue inner.incarnation inner.peer is) requester none)
    by (sender_gone is none) = sender-same d s r l (Present e.queue) (after_delivery index m) reached (sender_gone (over-after s q e.queue inner.incarnation is) none)
    by (sender_standing t paired own entries) = meets t paired (subst (λ t. RequesterTie d t l.requester) (sym (present-same q t paired.present)) own) entries (slice_get l.responses k) refl
        (subst (EntryIs SpellsResponse SpellsSomeRequest (slice_get l.responses k)) x.lent.brings (entry-at SpellsResponse SpellsSomeRequest m.envelopes l.responses k x.lent.envelope entries x.lent.at))
