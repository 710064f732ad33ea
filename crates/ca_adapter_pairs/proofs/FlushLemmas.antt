-- Completions that are put into two completion queues, which may be one. For proofs only.
use Rattle.std.proofs.Common.{◌≡◌, ◌∙◌, sym, subst, ap, true, false, List, Option}
use Rattle.std.specs.Option.{option_map}
use Rattle.ca_adapter_acts.proofs.DoneLemmas.{cq-twice}
use Rattle.ca_adapter_acts.specs.Binders.{changed_by}
use Rattle.ca_adapter_acts.specs.Room.{FitIn}
use Rattle.ca_base.specs.declared.completion.Completion.{Completion}
use Rattle.ca_base.specs.objects.CompletionQueue.{CompletionQueue, after_puts}
use Rattle.ca_adapter_parts.specs.HeldView.{Holding, hold}
use Rattle.ca_keys.specs.declared.names.Slot.{Slot}
use Rattle.ca_keys.specs.Equal.{slot_eq}
use Rattle.ca_model.proofs.ThingLemmas.{slot-path}
use Rattle.ca_model.specs.machine.World.{Cq_of}
use Rattle.ca_adapter_pairs.specs.declared.around.Around.{Around}
use Rattle.ca_adapter_pairs.specs.Changed.{flush_updates}
use Rattle.ca_adapter_pairs.proofs.DepartureLemmas.{elsewhere}

pub put_once : (h new : Holding) (a : Around) (sends receives : List Completion) → slot_eq a.send a.recv ≡ true → sends ≡ receives
    → new ≡ hold h (Cq_of a.send) (option_map (after_puts sends) (h.world.cq a.send))
    → new ≡ changed_by (flush_updates a sends receives h.world) h
put_once h new a sends receives one same is = is
    ∙ sym (cq-twice h a.send (option_map (after_puts sends) (h.world.cq a.send)) (option_map (after_puts sends) (h.world.cq a.send)))
    ∙ ap (λ t. hold (hold h (Cq_of a.send) (option_map (after_puts sends) (h.world.cq a.send))) (Cq_of t) (option_map (after_puts sends) (h.world.cq t)))
    (slot-path a.send a.recv one)
    ∙ ap (λ cs. hold (hold h (Cq_of a.send) (option_map (after_puts sends) (h.world.cq a.send))) (Cq_of a.recv) (option_map (after_puts cs) (h.world.cq a.recv))) same

pub put_both : (h mid new : Holding) (a : Around) (sends receives : List Completion) → slot_eq a.send a.recv ≡ false
    → mid ≡ hold h (Cq_of a.send) (option_map (after_puts sends) (h.world.cq a.send))
    → new ≡ hold mid (Cq_of a.recv) (option_map (after_puts receives) (mid.world.cq a.recv))
    → new ≡ changed_by (flush_updates a sends receives h.world) h
put_both h mid new a sends receives other first second = second
    ∙ ap (λ m. hold m (Cq_of a.recv) (option_map (after_puts receives) (m.world.cq a.recv))) first
    ∙ ap (λ o. hold (hold h (Cq_of a.send) (option_map (after_puts sends) (h.world.cq a.send))) (Cq_of a.recv) (option_map (after_puts receives) o))
    (elsewhere h.world.cq a.send a.recv (option_map (after_puts sends) (h.world.cq a.send)) other)

pub fit_still : (h mid : Holding) (s t : Slot) (v : Option CompletionQueue) (cs : List Completion) → slot_eq s t ≡ false → mid ≡ hold h (Cq_of s) v
    → FitIn (h.world.cq t) cs → FitIn (mid.world.cq t) cs
fit_still h mid s t v cs other is fit = subst (λ m. FitIn (m.world.cq t) cs) (sym is) (subst (λ o. FitIn o cs) (sym (elsewhere h.world.cq s t v other)) fit)
