-- What a requester's turn needs, by what was found of it. For proofs only.
use Rattle.std.proofs.Common.{◌≡◌, ◌∙◌, refl, sym, ap, subst, Bool, true, false, [], ◌∷◌, Option, None, Some, if◌then◌else◌, true≢false, ℕ}
use Rattle.std.proofs.lemmas.Option.{none-some}
use Rattle.std.specs.Option.{option_map_or}
use Rattle.ca_base.specs.Configuration.{Configuration}
use Rattle.ca_base.specs.declared.correspondent.Correspondent.{Correspondent}
use Rattle.ca_base.specs.declared.request.SendRequest.{SendRequest}
use Rattle.ca_base.specs.declared.step.Reason.{Reason}
use Rattle.ca_base.specs.declared.step.Reason.TheVariants as reasons
use Rattle.ca_base.specs.objects.QueuePair.{QueuePair}
use Rattle.ca_keys.specs.Refusals.{first_of}
use Rattle.ca_model.specs.Requests.{is_local}
use Rattle.ca_model.specs.declared.part_name.PartName.TheVariants as names
use Rattle.ca_model.specs.machine.Numbering.{Numbered}
use Rattle.ca_model.specs.machine.Parts.{Enough, Part, operation_needs, part, request_needs, row_needs, where_some}
use Rattle.ca_model.specs.machine.Requester.{Performs, RequestTurn, Sends, Waits, is_too_much, next_request, packet_row, turn_of, turn_refusals}
use Rattle.ca_model.specs.machine.Row.{Does, Ending, NotPossible, plain_row}
use Rattle.ca_adapter_footprint.specs.Next.{waits_for_answers}
use Rattle.ca_requester.specs.ca_requester_sends.declared.turn.Found.{Found}
use Rattle.ca_requester.specs.ca_requester_sends.Turn.{IsWaiting, SendsFound, is_performing, operation_in, turn_row}

-- the turn performs this request's operation
pub performs : (c : Configuration) (q : QueuePair) (r : SendRequest) (drawn : Option ℕ) → operation_in (turn_of q) ≡ Some (r, drawn)
    → request_needs c q (turn_of q) ≡ operation_needs c q r.op
performs c q r drawn is = by (turn_of q) is
  where
    by : (t : RequestTurn) → operation_in t ≡ Some (r, drawn) → request_needs c q t ≡ operation_needs c q r.op
    by (Waits reason) is = absurd (none-some (r, drawn) is)
    by (Performs n) is = ap (λ o. operation_needs c q (option_map_or (λ x. x.0) o r).op) is
    by (Sends n) is = absurd (none-some (r, drawn) is)

-- the turn sends a packet
pub sends_none : (c : Configuration) (q : QueuePair) (f : Found) → SendsFound q f → q.peer ≡ None → request_needs c q (turn_of q) ≡ Enough
sends_none c q f s peer = rw (s.turn, peer) refl

pub sends_some : (c : Configuration) (q : QueuePair) (f : Found) (p : Correspondent) → SendsFound q f → q.peer ≡ Some p
    → request_needs c q (turn_of q) ≡ Part (names.Mailbox p.queue) (row_needs c (turn_row q true))
sends_some c q f p s peer = rw (s.turn, peer) refl

pub sends_no_key : (q : QueuePair) (f : Found) → SendsFound q f → None ≡ (turn_row q true).invalidation
sends_no_key q f s = rw (s.turn, s.sending.fits) refl

reason_of : Ending → Reason
reason_of (NotPossible reason) = reason
reason_of (Does e) = reasons.Empty

is_possible : Ending → Bool
is_possible (NotPossible reason) = false
is_possible (Does e) = true

reason_in : RequestTurn → Reason
reason_in (Waits reason) = reason
reason_in t = reasons.Empty

is_waiting : RequestTurn → Bool
is_waiting (Waits reason) = true
is_waiting t = false

not-full : (q : QueuePair) (reason : Reason) → first_of (turn_refusals q) ≡ Some reason → waits_for_answers reason ≡ false
not-full q reason is = by _ _ _ _ is
  where
    full : Option Reason → Bool
    full o = option_map_or waits_for_answers o false

    by : (a b c d : Bool) → first_of ((a, reasons.State) ∷ (b, reasons.RnrWait) ∷ (c, reasons.Empty) ∷ (d, reasons.Fence) ∷ []) ≡ Some reason → waits_for_answers reason ≡ false
    by true b c d is = ap full (sym is)
    by false true c d is = ap full (sym is)
    by false false true d is = ap full (sym is)
    by false false false true is = ap full (sym is)
    by false false false false is = absurd (none-some reason is)

waits-of : (q : QueuePair) (reason : Reason) → turn_of q ≡ Waits reason → waits_for_answers reason ≡ false
unfolding reason_in is_waiting
waits-of q reason is = by (first_of (turn_refusals q)) refl (next_request q) is
  where
    turn : Option Reason → Option Numbered → RequestTurn
    turn (Some r) n = Waits r
    turn None None = Waits reasons.Empty
    turn None (Some n) = if is_local n.request.op then Performs n else Sends n

    local : (b : Bool) (n : Numbered) → is_waiting (if b then Performs n else Sends n) ≡ false
    local true n = refl
    local false n = refl

    by : (o : Option Reason) → first_of (turn_refusals q) ≡ o → (n : Option Numbered) → turn o n ≡ Waits reason → waits_for_answers reason ≡ false
    by (Some r) e n is = subst (λ x. waits_for_answers x ≡ false) (ap reason_in is) (not-full q r e)
    by None e None is = ap (λ t. waits_for_answers (reason_in t)) (sym is)
    by None e (Some n) is = absurd (true≢false (sym (ap is_waiting is) ∙ local (is_local n.request.op) n))

module _ (c : Configuration) (q : QueuePair) (reason : Reason) (w : IsWaiting q reason) where
  -- a turn that waits has nothing to send, or would send too much
  waits-or : (r : Reason) → turn_of q ≡ Waits r → r ≡ reason
  unfolding reason_of
  waits-or r e = let same : turn_row q true ≡ plain_row (NotPossible r) = rw e refl in ap (λ row. reason_of (row.allowed [] None)) (sym same ∙ w.row true)

  performs-not : (n : Numbered) → turn_of q ≡ Performs n → ⊥
  performs-not n e = true≢false (ap is_performing (sym e) ∙ w.performs)

  -- a packet that waits would be too much
  sends-much : (n : Numbered) → turn_of q ≡ Sends n → (is_too_much q n ≡ true) × (reasons.Outstanding ≡ reason)
  unfolding reason_of is_possible
  sends-much n e = by (is_too_much q n) refl
    where
      same : turn_row q true ≡ packet_row q true n
      same = rw e refl

      by : (b : Bool) → is_too_much q n ≡ b → (is_too_much q n ≡ true) × (reasons.Outstanding ≡ reason)
      by true m = (
        m,
        (let plain : packet_row q true n ≡ plain_row (NotPossible reasons.Outstanding) = rw m refl in
            ap (λ row. reason_of (row.allowed [] None)) (sym plain ∙ sym same ∙ w.row true)),
      )
      by false m = absurd (true≢false (let does : is_possible ((packet_row q true n).allowed [] None) ≡ true = rw m refl in
          sym does ∙ ap (λ row. is_possible (row.allowed [] None)) (sym same ∙ w.row true)))

pub waits_full : (c : Configuration) (q : QueuePair) (reason : Reason) → IsWaiting q reason → waits_for_answers reason ≡ true
    → request_needs c q (turn_of q) ≡ where_some (λ p. part (names.Mailbox p.queue)) q.peer
waits_full c q reason w full = by (turn_of q) refl
  where
    by : (t : RequestTurn) → turn_of q ≡ t → request_needs c q t ≡ where_some (λ p. part (names.Mailbox p.queue)) q.peer
    by (Waits r) e = absurd (true≢false (sym full ∙ ap waits_for_answers (sym (waits-or c q reason w r e)) ∙ waits-of q r e))
    by (Performs n) e = absurd (performs-not c q reason w n e)
    by (Sends n) e = rw (sends-much c q reason w n e).0 refl

pub waits_other : (c : Configuration) (q : QueuePair) (reason : Reason) → IsWaiting q reason → waits_for_answers reason ≡ false → request_needs c q (turn_of q) ≡ Enough
waits_other c q reason w other = by (turn_of q) refl
  where
    by : (t : RequestTurn) → turn_of q ≡ t → request_needs c q t ≡ Enough
    by (Waits r) e = refl
    by (Performs n) e = absurd (performs-not c q reason w n e)
    by (Sends n) e = absurd (true≢false (ap waits_for_answers (sends-much c q reason w n e).1 ∙ other))
