-- The verbs of the host: it writes and reads its own memory, and lets bytes arrive at a queue pair. They are not verbs of
-- the standard. Contracts cite it.
use Rattle.std.specs.Prelude.{ℕ, ◌+◌, ◌==◌, ◌||◌, nat_lt, Bool, List, [], ◌∷◌, None}
use Rattle.ca_base.specs.declared.change.Field.TheVariants as fields
use Rattle.ca_keys.specs.declared.names.QueueId.{QueueId}
use Rattle.ca_base.specs.declared.limits.TheConstants.{MAX_STORE_BYTES}
use Rattle.ca_keys.specs.declared.place.Run.{Run}
use Rattle.ca_base.specs.Configuration.{Configuration}
use Rattle.ca_base.specs.objects.QueuePair.{QueueSlot, NoQueue, Present}
use Rattle.ca_model.specs.declared.answer.Answer.TheVariants as answers
use Rattle.ca_model.specs.declared.answer.Refusal.{Refusal}
use Rattle.ca_model.specs.declared.answer.Refusal.TheVariants.{NoSuch, OutOfRange, OutsideBuffer}
use Rattle.ca_model.specs.declared.mark.Mark.TheVariants as marks
use Rattle.ca_model.specs.machine.Delivery.{Arrive}
use Rattle.ca_model.specs.machine.Plan.{Plan, Look, Read, Finish}
use Rattle.ca_model.specs.machine.VerbAnswers.{Call, Answer_plan, Refuse_plan, Unless_plan, answer_mark}
use Rattle.ca_model.specs.machine.World.{Queue_of}

-- why an access of the host to a buffer of this length is refused, in order
abbrev pub host_refusals : Run → ℕ → List (Bool × Refusal)
host_refusals at bytes =
    ((at.length == 0) || nat_lt MAX_STORE_BYTES at.length, OutOfRange fields.Length)
    ∷ (nat_lt bytes (at.offset + at.length), OutsideBuffer)
    ∷ []

-- Store
abbrev pub store_plan : Call → Run → ℕ → List ℕ → Plan
store_plan call at buffer bytes =
    Unless_plan call (host_refusals at buffer)
    (Finish [] (record { runs = at ∷ []; bytes = bytes } ∷ [])
    (answer_mark call answers.Fine
    ∷ marks.Stored (record { adapter = at.adapter; buffer = at.buffer; offset = at.offset }) bytes ∷ []))

-- Load
abbrev pub load_plan : Call → Run → ℕ → Plan
load_plan call at buffer =
    Unless_plan call (host_refusals at buffer) (Read (at ∷ []) (λ bytes. Answer_plan call (answers.Loaded bytes) [] []))

-- Inject
abbrev pub inject_plan : Configuration → Call → QueueId → List ℕ → Plan
inject_plan c call q bytes = Look (Queue_of q) by
  where
    by : QueueSlot → Plan
    by (NoQueue incarnation timers) = Refuse_plan call NoSuch
    by (Present queue) = Arrive c queue bytes None [] (answer_mark call answers.Fine ∷ [])
