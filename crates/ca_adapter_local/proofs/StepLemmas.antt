-- An operation that was performed or refused, and then its end, are the effects and the changes to which it comes. For proofs only.
use Rattle.std.proofs.Common.{◌≡◌, ◌∙◌, refl, sym, ap, ℕ, List, [], ◌∷◌, ◌++◌, append_assoc, Box, Option, Some, Result, Ok, Err}
use Rattle.std.specs.Option.{option_map, option_map_or}
use Rattle.std.specs.declared.alloc.Global.{Global}
use Rattle.ca_adapter_turns.specs.ca_adapter_acts.Binders.{changed_by}
use Rattle.ca_adapter_local.specs.Local.{LocalEnd, end_changes, end_effects}
use Rattle.ca_adapter_local.specs.Made.{HasFailed, HasStepped, IsMadeBy}
use Rattle.ca_adapter_local.specs.declared.made.Made.{Made}
use Rattle.ca_base.specs.declared.completion.WcStatus.TheVariants.{MemoryManagement}
use Rattle.ca_base.specs.declared.refusals.OpRefusal.{OpRefusal}
use Rattle.ca_base.specs.objects.QueuePair.{Present, QueuePair, queue_in, vacant_queue}
use Rattle.ca_adapter_parts.specs.HeldView.{Holding, hold, holding}
use Rattle.ca_adapter_parts.specs.Parts.{slot_of}
use Rattle.ca_adapter_parts.specs.declared.held.Held.{Held}
use Rattle.ca_adapter_parts.specs.declared.part.QueueSlot.{QueueSlot}
use Rattle.ca_adapter_parts.specs.declared.part.QueueSlot.TheVariants as slots
use Rattle.ca_adapter_reach.specs.Seen.{or_vacant}
use Rattle.ca_adapter_reach.specs.declared.reached.Reached.{Reached}
use Rattle.ca_keys.specs.declared.key.Key.{Key}
use Rattle.ca_keys.specs.declared.grant.Grant.{Grant}
use Rattle.ca_keys.specs.declared.names.QueueId.{QueueId}
use Rattle.ca_keys.specs.Equal.{queue_eq}
use Rattle.ca_model.specs.Marks.{MarkList}
use Rattle.ca_model.specs.declared.mark.Mark.{Mark}
use Rattle.ca_model.specs.declared.mark.Mark.TheVariants as told
use Rattle.ca_model.specs.machine.Acknowledgements.{failure_effects}
use Rattle.ca_model.specs.machine.Completions.{success_marks}
use Rattle.ca_model.specs.machine.LocalOperations.{after_operation, operation_effects}
use Rattle.ca_model.specs.machine.Numbering.{Numbered}
use Rattle.ca_model.specs.machine.Row.{Effects, unless_none}
use Rattle.ca_model.specs.machine.World.{Queue_of}
use Rattle.ca_adapter_turns.specs.ca_adapter_reach_laws.Ties.{with_reached}
use Rattle.ca_adapter_reach.specs.Shelved.{thing_under}

-- the queue pair in a slot that is held
pub queue-here : (h : Held) (name : QueueId) (b : Box QueueSlot Global) (q : QueuePair) → Some b ≡ thing_under queue_eq name h.queues.things → b.value ≡ slots.Present q
    → (holding h).world.queue name ≡ Present q
unfolding holding
queue-here h name b q there is = ap (λ o. or_vacant vacant_queue (option_map (λ b. slot_of b.value) o)) (sym there) ∙ ap slot_of is

pub same-queue-pair : (h : Held) (name : QueueId) (p q : QueuePair) → (holding h).world.queue name ≡ Present p → (holding h).world.queue name ≡ Present q → p ≡ q
same-queue-pair h name p q first second = let some : Some p ≡ Some q = ap queue_in (sym first ∙ second) in cc

-- what keys reach is apart from queue pairs
pub queues-same : (h : Held) (r : Reached) (name : QueueId) → (holding (with_reached h r)).world.queue name ≡ (holding h).world.queue name
unfolding holding
queues-same h r name = refl

module _ (h : Held) (left : Reached) (name : QueueId) (q : QueuePair) (n : Numbered) (end : LocalEnd) where
  -- the marks of an operation
  abbrev pub told_by : ℕ → Option Key → Option Grant → List Mark
  told_by adapter revoked granted = option_map_or (λ key. told.Revoked adapter key ∷ []) revoked [] ++ option_map_or (λ g. told.Granted g ∷ []) granted []

  abbrev after_by : Option OpRefusal → Effects
  after_by o = operation_effects q n (record q { windows = end.windows }) end.marks o

  pub succeeded : (made : Made) (before between marks : List Mark) (new : Holding) → q.queue ≡ name → IsMadeBy made end h left
      → new ≡ hold (holding (with_reached h left)) (Queue_of name) (Present (after_operation n (record q { windows = made.windows.count })))
      → between ≡ before ++ told_by name.adapter made.marks.revoked made.marks.granted
      → marks ≡ between ++ success_marks q.queue n.place n.request
      → (new ≡ hold (changed_by (end_changes end) (holding h)) (Queue_of name) (Present (end_effects q n end).queue)) × (marks ≡ before ++ (end_effects q n end).marks)
  succeeded made before between marks new named is put first second = (
    put
        ∙ ap (λ g. hold g (Queue_of name) (Present (after_operation n (record q { windows = made.windows.count })))) is.changed
        ∙ ap (λ w. hold (changed_by end.changes (holding h)) (Queue_of name) (Present (after_operation n (record q { windows = w })))) is.windows
        ∙ ap (λ o. hold (changed_by (unless_none o end.changes) (holding h)) (Queue_of name) (Present (after_by o).queue)) (sym is.accepted),
    second ∙ ap (λ xs. xs ++ success_marks q.queue n.place n.request) first
        ∙ append_assoc before (told_by name.adapter made.marks.revoked made.marks.granted) (success_marks q.queue n.place n.request)
        ∙ ap (λ a. before ++ (told_by a.adapter made.marks.revoked made.marks.granted ++ success_marks q.queue n.place n.request)) (sym named)
        ∙ ap (λ k. before ++ (told_by q.queue.adapter k made.marks.granted ++ success_marks q.queue n.place n.request)) is.revoked
        ∙ ap (λ g. before ++ (told_by q.queue.adapter end.marks.revoked g ++ success_marks q.queue n.place n.request)) is.granted
        ∙ ap (λ o. before ++ (after_by o).marks) (sym is.accepted),
  )

  pub failed : {A E : Type 0} (result : Result A E) (cause : OpRefusal) (before between after : MarkList) (new : Holding) → end.refusal ≡ Some cause → left ≡ h.reached → between.marks ≡ before.marks
      → HasFailed result name (failure_effects MemoryManagement (Some cause) q) (holding (with_reached h left)) new between after
      → HasStepped result name (end_effects q n end) (end_changes end) (holding h) new before after
  failed (Err error) cause before between after new refused kept marks is = is ∙ ap (λ r. holding (with_reached h r)) kept
  failed (Ok done) cause before between after new refused kept marks is = (
    is.0
        ∙ ap (λ r. hold (holding (with_reached h r)) (Queue_of name) (Present (failure_effects MemoryManagement (Some cause) q).queue)) kept
        ∙ ap (λ o. hold (changed_by (unless_none o end.changes) (holding h)) (Queue_of name) (Present (after_by o).queue)) (sym refused),
    is.1 ∙ ap (λ xs. xs ++ (failure_effects MemoryManagement (Some cause) q).marks) marks ∙ ap (λ o. before.marks ++ (after_by o).marks) (sym refused),
  )
