-- A request that was taken, as its row comes out: a READ, which is queued, and one that takes a receive.
use Rattle.std.proofs.Common.{◌≡◌, refl, ap, sym, ◌∙◌, ℕ, List, [], Bool, true, false, if◌then◌else◌, IfOk, Option, None, Some, Result, Ok, Err}
use Rattle.std.specs.Option.{option_map}
use Rattle.ca_keys.specs.declared.access.Ask.{Ask}
use Rattle.ca_keys.specs.declared.memory.Memory.{Memory}
use Rattle.ca_base.specs.Sight.{Invalidation, Sight}
use Rattle.ca_base.specs.objects.QueuePair.{QueuePair}
use Rattle.ca_base.specs.declared.request.PlacedReceive.{PlacedReceive}
use Rattle.ca_base.specs.objects.SharedReceives.{SharedReceives, after_receive_take}
use Rattle.ca_wire.specs.Packet.{Fields}
use Rattle.ca_wire.specs.declared.reth.Reth.{Reth}
use Rattle.ca_wire.specs.declared.shape.Shape.TheVariants as shapes
use Rattle.ca_wire.specs.declared.syndrome.NakCode.TheVariants.{InvalidRequest}
use Rattle.ca_model.specs.Marks.{MarkList}
use Rattle.ca_model.specs.machine.Arrivals.{refusal_effects}
use Rattle.ca_model.specs.machine.Expected.{read_queued, valid_row}
use Rattle.ca_model.specs.machine.Row.{Effects, Ending, NotPossible, Does, Row, plain_row, queue_and_marks}
use Rattle.ca_responder_operations.specs.ca_qp_rows.Made.{IsMade}
use Rattle.ca_responder_operations.specs.Taking.{HasArrived, HasTaken, IsTaken, is_taken, outcome_in}
use Rattle.ca_responder_operations.specs.declared.request.SharedReceive.{SharedReceive}
use Rattle.ca_responder_operations.specs.declared.request.SharedReceive.TheVariants.{Stays}
use Rattle.ca_responder_operations.specs.Access.{read_effects}

-- effects that write nothing, and take no receive of a shared receive queue
pub record IsPlain (e : Effects) : Type 0 where
  pub shared : e.takes_shared ≡ false
  pub writes : e.writes ≡ []

plain-made : (q : QueuePair) (ms : List _) → IsPlain (queue_and_marks q ms)
plain-made q ms = record { shared = refl; writes = refl }

-- a READ Request writes nothing, and takes no receive
pub plain_queued : (q : QueuePair) (p : Fields) (envelope : Option ℕ) → IsPlain (read_effects q p envelope)
plain_queued q p envelope = by p.reth
  where
    effects : Option Reth → Effects
    effects (Some h) = read_queued q p envelope h
    effects None = refusal_effects InvalidRequest q

    by : (h : Option Reth) → IsPlain (effects h)
    by (Some h) = plain-made _ _
    by None = plain-made _ _

pub queued_row : (q : QueuePair) (p : Fields) (envelope : Option ℕ) (next : Option PlacedReceive)
    → plain_row (Does (read_effects q p envelope)) ≡ valid_row q p envelope next shapes.Read
queued_row q p envelope next = by p.reth
  where
    effects : Option Reth → Effects
    effects (Some h) = read_queued q p envelope h
    effects None = refusal_effects InvalidRequest q

    row : Option Reth → Row
    row (Some h) = plain_row (Does (read_queued q p envelope h))
    row None = plain_row (Does (refusal_effects InvalidRequest q))

    by : (h : Option Reth) → plain_row (Does (effects h)) ≡ row h
    by (Some h) = refl
    by None = refl

-- what was made of a request that writes nothing and takes no receive
pub taken_plain : {S : Type 0} (written : S → Ask → List ℕ → S) (revoked : S → Invalidation → S) (sight : Sight) (r : Result SharedReceive Memory) (e : Effects)
    (queue_before queue_after : QueuePair) (before after : MarkList) (reach : S)
    → IsPlain e → IfOk r (λ shared. shared ≡ Stays) → IsMade r e queue_before queue_after before after
    → IsTaken written revoked r (outcome_in sight (plain_row (Does e))) queue_before queue_after before after reach reach
taken_plain written revoked sight (Ok shared) e queue_before queue_after before after reach plain stays made =
    (ap is_taken stays ∙ sym plain.shared, (made, rw plain.writes refl))
taken_plain written revoked sight (Err memory) e queue_before queue_after before after reach plain stays made = (made, refl)

-- what was taken of the expected packet, with the receive of the shared receive queue
pub arrives_taken : {S : Type 0} (written : S → Ask → List ℕ → S) (revoked : S → Invalidation → S) (shared : SharedReceive) (e : Ending) (ended : Option Invalidation)
    (queue_after : QueuePair) (before after : MarkList) (reach_before reach_after : S) (shared_before shared_after : Option SharedReceives)
    → shared_after ≡ (if is_taken shared then option_map after_receive_take shared_before else shared_before)
    → HasTaken written revoked shared e ended queue_after before after reach_before reach_after
    → HasArrived written revoked e ended queue_after before after reach_before reach_after shared_before shared_after
arrives_taken written revoked shared (NotPossible reason) ended queue_after before after reach_before reach_after shared_before shared_after is has = absurd has
arrives_taken written revoked shared (Does e) ended queue_after before after reach_before reach_after shared_before shared_after is has =
    (has.1.0, (has.1.1, rw (← has.0) is))

abbrev none : Option SharedReceives
none = None

-- without a shared receive queue none is left
pub none_taken : (shared : SharedReceive) → none ≡ (if is_taken shared then option_map after_receive_take none else none)
none_taken shared = by (is_taken shared)
  where
    by : (b : Bool) → none ≡ (if b then option_map after_receive_take none else none)
    by true = refl
    by false = refl

pub some_taken : (shared : SharedReceive) (before after : SharedReceives) → after ≡ (if is_taken shared then after_receive_take before else before)
    → Some after ≡ (if is_taken shared then option_map after_receive_take (Some before) else Some before)
some_taken shared before after is = by (is_taken shared) is
  where
    by : (b : Bool) → after ≡ (if b then after_receive_take before else before) → Some after ≡ (if b then option_map after_receive_take (Some before) else Some before)
    by true e = ap Some e
    by false e = ap Some e
