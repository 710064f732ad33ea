-- The verbs on memory windows. Contracts cite it.
use Rattle.std.specs.Prelude.{ℕ, ◌-◌, ◌==◌, ◌||◌, not, List, [], ◌∷◌, ◌++◌, Option, None, Some}
use Rattle.ca_base.specs.declared.change.Field.TheVariants as fields
use Rattle.ca_keys.specs.declared.names.QueueId.{QueueId}
use Rattle.ca_keys.specs.declared.names.Slot.{Slot}
use Rattle.ca_base.specs.objects.Domain.{Domain, with_object, without_object}
use Rattle.ca_base.specs.objects.QueuePair.{QueueSlot, NoQueue, Present}
use Rattle.ca_base.specs.objects.Region.{with_window_unbound}
use Rattle.ca_base.specs.objects.Window.{Window, Binding, after_deallocation, after_window_allocation, key_of_window}
use Rattle.ca_model.specs.declared.answer.Answer.TheVariants as answers
use Rattle.ca_model.specs.declared.answer.Refusal.TheVariants.{NoDomain, NoSuch, OutOfRange, SlotTaken}
use Rattle.ca_model.specs.declared.mark.Mark.TheVariants as marks
use Rattle.ca_model.specs.machine.Plan.{Plan, Look, Update, ◌:=◌}
use Rattle.ca_model.specs.machine.Row.{region_under}
use Rattle.ca_model.specs.machine.VerbAnswers.{Call, Answer_plan, Unless_plan}
use Rattle.ca_model.specs.machine.World.{Domain_of, Queue_of, Region_of, Window_of}

-- AllocMw
abbrev pub alloc_mw_plan : Call → Slot → ℕ → Plan
alloc_mw_plan call s kind = Look (Domain_of s.domain) (λ domain. Look (Window_of s) (λ window.
    Unless_plan call
    ((not domain.allocated, NoDomain) ∷ (not (window.kind == 0), SlotTaken)
    ∷ (not ((kind == 1) || (kind == 2)), OutOfRange fields.Kind) ∷ [])
    (Answer_plan call answers.Fine
    ((Domain_of s.domain := with_object domain) ∷ (Window_of s := after_window_allocation kind window) ∷ []) [])))

-- the queue pair of a type 2 window has one window fewer
abbrev pub queue_updates : QueueId → QueueSlot → List Update
queue_updates q (NoQueue incarnation timers) = []
queue_updates q (Present p) = (Queue_of q := Present (record p { windows = p.windows - 1 })) ∷ []

-- looks at the queue pair through which a type 2 window is bound
abbrev pub With_binder : Option QueueId → (List Update → Plan) → Plan
With_binder None k = k []
With_binder (Some q) k = Look (Queue_of q) (λ slot. k (queue_updates q slot))

-- DeallocMw: a key that was in force is revoked
abbrev pub dealloc_mw_plan : Call → Slot → Plan
dealloc_mw_plan call s = Look (Domain_of s.domain) (λ domain. Look (Window_of s) (λ window.
    Unless_plan call ((window.kind == 0, NoSuch) ∷ []) (by domain window window.binding)))
  where
    changes : Domain → Window → List Update
    changes domain window =
        (Domain_of s.domain := without_object domain) ∷ (Window_of s := after_deallocation window) ∷ []

    by : Domain → Window → Option Binding → Plan
    by domain window None = Answer_plan call answers.Fine (changes domain window) []
    by domain window (Some b) = Look (Region_of (region_under window b)) (λ region. With_binder b.queue (λ more.
        Answer_plan call answers.Fine
        (changes domain window ++ (Region_of (region_under window b) := with_window_unbound region) ∷ more)
        (marks.Revoked s.domain.adapter (key_of_window window) ∷ [])))
