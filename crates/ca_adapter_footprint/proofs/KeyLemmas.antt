-- Rows that end no key. For proofs only.
use Rattle.std.proofs.Common.{◌≡◌, refl, ℕ, ◌==◌, not, Bool, true, false, [], ◌∷◌, Option, None, Some, if◌then◌else◌, slice_get}
use Rattle.std.specs.Option.{option_and_then}
use Rattle.ca_base.specs.declared.change.State.TheVariants as states
use Rattle.ca_base.specs.declared.queue_numbers.Queued.{Queued}
use Rattle.ca_base.specs.declared.queue_numbers.Queued.TheVariants as queued
use Rattle.ca_base.specs.declared.step.Reason.{Reason}
use Rattle.ca_base.specs.declared.step.Reason.TheVariants as reasons
use Rattle.ca_base.specs.objects.QueuePair.{QueuePair}
use Rattle.ca_base.specs.objects.StateTable.{is_among}
use Rattle.ca_keys.specs.Refusals.{first_of}
use Rattle.ca_wire.specs.Packet.{Fields}
use Rattle.ca_wire.specs.declared.opcode.TheConstants.{ACKNOWLEDGE}
use Rattle.ca_wire.specs.Syndrome.{syndrome_in}
use Rattle.ca_model.specs.declared.mark.Drop1.TheVariants as drops
use Rattle.ca_base.specs.declared.completion.WcStatus.TheVariants.{BadResponse}
use Rattle.ca_model.specs.machine.Acknowledgements.{Acknowledgement, acknowledgement_below, and_then, failure_effects}
use Rattle.ca_model.specs.machine.Numbering.{Numbered, request_at}
use Rattle.ca_model.specs.machine.Respond.{answer_turn, respond_refusals, respond_row}
use Rattle.ca_model.specs.machine.Responses.{acknowledge_row, answer_row, drop_effects, fits_request, fitting_row, is_outstanding_at, outstanding_row, response_psn, response_row}
use Rattle.ca_model.specs.machine.Row.{Does, NotPossible, Row, plain_row}

pub respond_no_key : (q : QueuePair) → None ≡ (respond_row true q).invalidation
respond_no_key q = by (first_of (respond_refusals true q)) (slice_get q.responder.answers 0)
  where
    turn : (a : Queued) → None ≡ (answer_turn q a).invalidation
    turn (queued.Ack psn) = refl
    turn (queued.Rnr psn) = refl
    turn (queued.Nak psn code) = refl
    turn (queued.Read psn key address left first envelope duplicate) = refl
    turn (queued.Atomic psn found duplicate) = refl

    row : Option Reason → Option Queued → Row
    row (Some reason) a = plain_row (NotPossible reason)
    row None None = plain_row (NotPossible reasons.Empty)
    row None (Some a) = answer_turn q a

    by : (r : Option Reason) (o : Option Queued) → None ≡ (row r o).invalidation
    by (Some reason) o = refl
    by None None = refl
    by None (Some a) = turn a

-- a response ends no key
fitting-no-key : (psn : ℕ) (p : Fields) (a : Acknowledgement) → None ≡ (fitting_row psn p a).invalidation
fitting-no-key psn p a = back a.went_back
  where
    bad : Row
    bad = plain_row (Does (and_then a.effects (failure_effects BadResponse None)))

    at : Option Numbered → Row
    at None = bad
    at (Some n) = if fits_request psn p a.effects.queue n then answer_row psn p a.effects n else bad

    fits : (n : Numbered) (b : Bool) → None ≡ (if b then answer_row psn p a.effects n else bad).invalidation
    fits n true = refl
    fits n false = refl

    by : (n : Option Numbered) → None ≡ (at n).invalidation
    by None = refl
    by (Some n) = fits n (fits_request psn p a.effects.queue n)

    back : (b : Bool) → None ≡ (if b then plain_row (Does a.effects) else at (request_at psn a.effects.queue)).invalidation
    back true = refl
    back false = by (request_at psn a.effects.queue)

pub response_no_key : (p : Fields) (q : QueuePair) → None ≡ (response_row p q).invalidation
response_no_key p q = by (is_among (states.Rts ∷ states.Sqd ∷ []) q.state)
  where
    psn : ℕ
    psn = response_psn q p

    opcode : (b : Bool) → None ≡ (if b then plain_row (Does (acknowledge_row psn (option_and_then (λ a. syndrome_in a.syndrome) p.aeth) q))
        else fitting_row psn p (acknowledgement_below psn q)).invalidation
    opcode true = refl
    opcode false = fitting-no-key psn p (acknowledgement_below psn q)

    there : (b : Bool) → None ≡ (if not b then plain_row (Does (drop_effects q drops.Stale)) else outstanding_row psn p q).invalidation
    there true = opcode (p.opcode == ACKNOWLEDGE)
    there false = refl

    by : (b : Bool) → None ≡ (if not b then plain_row (Does (drop_effects q drops.State))
        else if not (is_outstanding_at psn q) then plain_row (Does (drop_effects q drops.Stale)) else outstanding_row psn p q).invalidation
    by true = there (is_outstanding_at psn q)
    by false = refl
