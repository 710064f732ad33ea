-- What an event leaves as it was. For proofs only.
use Rattle.std.proofs.Common.{◌≡◌, ◌∙◌, refl, sym, ap, subst, Bool, true, false, true≢false, List, [], Option, None, Some, Result, Ok, Err}
use Rattle.ca_adapter.specs.ca_adapter_acts.Steps.{IsStepOf, Shows}
use Rattle.ca_adapter.proofs.WorldLemmas.{part-of-held}
use Rattle.ca_base.specs.Configuration.{Configuration, configuration_in}
use Rattle.ca_base.specs.declared.step.ActError.{ActError}
use Rattle.ca_base.specs.declared.step.ActError.TheVariants as steps
use Rattle.ca_base.specs.objects.Mailbox.{Mailbox}
use Rattle.ca_adapter_parts.specs.declared.held.Held.{Held}
use Rattle.ca_adapter_parts.specs.declared.part.Part.{Part}
use Rattle.ca_adapter_parts.specs.declared.part.QueueSlot.{QueueSlot}
use Rattle.ca_adapter_parts.specs.HeldView.{Holding, holding}
use Rattle.ca_keys.specs.declared.names.QueueId.{QueueId}
use Rattle.ca_model.specs.Marks.{MarkList}
use Rattle.ca_model.specs.declared.event.Event.{Event}
use Rattle.ca_model.specs.declared.part_name.PartName.{PartName}
use Rattle.ca_model.specs.declared.part_name.PartName.TheVariants as names
use Rattle.ca_model.specs.machine.Parts.{is_held, part_of}
use Rattle.ca_model.specs.machine.Plan.{Did, NotReady, Outcome}
use Rattle.ca_model.specs.machine.Step.{step}
use Rattle.ca_model.specs.machine.World.{Mailbox_of, Name, Queue_of, World}
use Rattle.ca_adapter_store.proofs.LookLemmas.{mailbox_seen, queue_seen}
use Rattle.ca_adapter_store.specs.Hand.{names_of}
use Rattle.ca_adapter_store.specs.Looks.{IsMailboxIn, IsQueueIn, mail_in, slot_in}
use Rattle.ca_adapter_store.specs.Rest.{KeepsRest, KeepsRow, LeavesRest, names_changed}
use Rattle.ca_adapter_store.specs.Rows.{AreTogether, IsMade, IsRowOf, part_at}
use Rattle.ca_adapter_store.specs.declared.hand.Taken.{Taken}
use Rattle.ca_adapter_store.specs.declared.row.Row.{Row}
use Rattle.ca_adapter.specs.ca_law_parts.Worlds.{IsWorldAfter}

-- ---- one row

same-slot : (w v : World) (q : QueueId) (o : Option QueueSlot) → IsQueueIn w q o → IsQueueIn v q o → v.queue q ≡ w.queue q
same-slot w v q None one other = other ∙ sym one
same-slot w v q (Some slot) one other = sym other ∙ one

same-mail : (w v : World) (q : QueueId) (o : Option Mailbox) → IsMailboxIn w q o → IsMailboxIn v q o → v.mailbox q ≡ w.mailbox q
same-mail w v q None one other = other ∙ sym one
same-mail w v q (Some m) one other = sym other ∙ one

-- the worlds for which one row stands have the same queue pairs and mailboxes
pub same_row : (changed : List PartName) (row : Row) (c : Configuration) (w v : World) → IsRowOf c w row → IsRowOf c v row → KeepsRest changed w v
same_row changed row c w v one other = record {
  queue = λ q free. same-slot w v q (slot_in (at (names.Queue q))) (queue_seen row q c w one (at (names.Queue q)) refl) (queue_seen row q c v other (at (names.Queue q)) refl);
  mailbox = λ q free. same-mail w v q (mail_in (at (names.Mailbox q))) (mailbox_seen row q c w one (at (names.Mailbox q)) refl) (mailbox_seen row q c v other (at (names.Mailbox q)) refl);
}
  where
    at : PartName → Option Part
    at name = part_at (configuration_in row.settings) row.parts.items name

-- a row with the same parts stands for the same worlds
pub row_kept : (changed : List PartName) (old new : Row) → new.settings ≡ old.settings → new.count ≡ old.count → new.parts.items ≡ old.parts.items
    → holding new.held ≡ holding old.held → KeepsRow changed old new
row_kept changed old new settings count parts held = λ c w v one other. same_row changed new c w v (stands c w one) other
  where
    stands : (c : Configuration) (w : World) → IsRowOf c w old → IsRowOf c w new
    stands c w one = record {
      settings = ap configuration_in settings ∙ one.settings;
      after = subst (λ n. IsWorldAfter c n w) (sym count) one.after;
      together = subst (λ ps. AreTogether c w ps (holding new.held)) (sym parts) (subst (AreTogether c w old.parts.items) (sym held) one.together);
      empty = λ p. ap (λ h. h.parts p) held ∙ one.empty p;
    }

-- ---- one event

-- what is not in hand is left
pub acted_rest : (c : Configuration) (event : Event) (w : World) (row : List Part) (h k : Held) (result : Result MarkList ActError) (held : List PartName) → AreTogether c w row (holding h)
    → ((w : World) → Shows w (holding h) → IsStepOf result (step c w event) w (holding h) (holding k)) → ((p : PartName) → (holding h).parts p ≡ is_held held p)
    → LeavesRest result (step c w event) w held
acted_rest c event w row h k result held one each named = by result (step c w event) (each w (λ n has. one.shows n (part-of-held h n has)))
  where
    absent : (n : Name) → is_held held (part_of n) ≡ false → (holding h).has n ≡ false
    absent n free = at ((holding h).has n) refl
      where
        at : (b : Bool) → (holding h).has n ≡ b → b ≡ false
        at true has = absurd (true≢false (sym (part-of-held h n has) ∙ named (part_of n) ∙ free))
        at false has = refl

    by : (r : Result MarkList ActError) (o : Outcome) → IsStepOf r o w (holding h) (holding k) → LeavesRest r o w held
    by (Ok m) (Did v ms) made = λ n free. made.4 n (absent n free)
    by (Ok m) (NotReady reason) made = record {}
    by (Err error) o made = record {}

-- the same of a row, with the room that the hand got before
pub rest_left : (event : Event) (old : Row) (h : Holding) (result by : Result MarkList ActError) (held : List PartName) → h ≡ holding old.held → by ≡ result
    → ((w : World) → AreTogether (configuration_in old.settings) w old.parts.items h → LeavesRest by (step (configuration_in old.settings) w event) w held)
    → (c : Configuration) (w : World) → IsRowOf c w old → LeavesRest result (step c w event) w held
rest_left event old h result by held same is all c w row =
    subst (λ r. LeavesRest r (step c w event) w held) is
    (subst (λ k. AreTogether k w old.parts.items h → LeavesRest by (step k w event) w held) row.settings (all w)
    (subst (AreTogether c w old.parts.items) (sym same) row.together))

-- the row that an event leaves
pub rest_kept : (c : Configuration) (w v : World) (new : Row) (result : Result MarkList ActError) (o : Outcome) (taken : List Taken) → IsRowOf c v new
    → IsMade result o w (λ u. IsRowOf c u new) → LeavesRest result o w (names_of taken) → KeepsRest (names_changed result taken) w v
rest_kept c w v new (Ok m) (Did u ms) taken stands made rest = record {
  queue = λ q free. (same_row (names_of taken) new c u v made.1 stands).queue q free ∙ rest (Queue_of q) free;
  mailbox = λ q free. (same_row (names_of taken) new c u v made.1 stands).mailbox q free ∙ rest (Mailbox_of q) free;
}
rest_kept c w v new (Ok m) (NotReady reason) taken stands made rest = absurd made
rest_kept c w v new (Err (steps.NotReady reason)) (Did u ms) taken stands made rest = absurd made
rest_kept c w v new (Err (steps.NotReady reason)) (NotReady why) taken stands made rest = same_row [] new c w v made.1 stands
rest_kept c w v new (Err steps.Memory) o taken stands made rest = same_row [] new c w v made stands
