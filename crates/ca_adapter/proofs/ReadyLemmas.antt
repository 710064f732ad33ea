-- What each act of a verb asks of the parts in hand, from what its caller shows of them. For proofs only.
use Rattle.std.proofs.Common.{Result, ◌≡◌, ◌∙◌, refl, sym, ap, subst, ℕ, suc, zero, ◌<◌, ◌-◌, ◌^◌, ◌&&◌, nat_lt, arith, Bool, true, false, List, [], ◌∷◌, Option, None, Some, IfSome, if◌then◌else◌, slice_get, true≢false}
use Rattle.std.proofs.lemmas.Bool.{and_parts, ltb-true}
use Rattle.std.specs.List.{AllByRecursion}
use Rattle.std.specs.Option.{option_map, option_map_or}
use Rattle.ca_adapter_acts.specs.Act.{Acts, Suffices}
use Rattle.ca_adapter_acts.proofs.StepLemmas.{act-steps}
use Rattle.ca_adapter_acts.specs.Steps.{IsStepOf, Shows}
use Rattle.ca_adapter_pairs.specs.Changed.{CanChange}
use Rattle.ca_adapter_pairs.specs.Departures.{CanDepart}
use Rattle.ca_adapter_creation.specs.Made.{shared_slot}
use Rattle.ca_adapter_pairs.specs.Names.{names_around}
use Rattle.ca_adapter_posts.specs.Drawing.{window_of_bind}
use Rattle.ca_adapter_posts.specs.Posting.{CanPostReceive, CanPostSend}
use Rattle.ca_adapter.proofs.WorldLemmas.{cq-is, has-thing, queue-is, shown, sound-thing, within}
use Rattle.ca_adapter.specs.Ready.{ArePartsOfWorld, IsReady}
use Rattle.ca_base.specs.Configuration.{Adapter, Configuration}
use Rattle.ca_base.specs.declared.change.Change.{Change}
use Rattle.ca_base.specs.declared.limits.TheConstants.{MAX_WINDOWS}
use Rattle.ca_base.specs.declared.request.SendOp.{SendOp}
use Rattle.ca_base.specs.declared.request.SendOp.TheVariants as ops
use Rattle.ca_base.specs.declared.request.SendRequest.{SendRequest}
use Rattle.ca_base.specs.declared.step.ActError.{ActError}
use Rattle.ca_base.specs.declared.reserve.Reserve.TheVariants.{Sends}
use Rattle.ca_base.specs.objects.CompletionQueue.{CompletionQueue}
use Rattle.ca_base.specs.objects.QueuePair.{NoQueue, Present, QueueSlot, incarnation_of, is_present, queue_in}
use Rattle.ca_base.specs.objects.Slices.{adapter_at, has_domain, has_slot}
use Rattle.ca_base.specs.objects.Window.{Binding, Window}
use Rattle.ca_cq.specs.Room.{is_new_side}
use Rattle.ca_adapter_parts.specs.declared.held.Held.{Held}
use Rattle.ca_adapter_parts.specs.HeldView.{holding}
use Rattle.ca_keys.specs.declared.names.DomainId.{DomainId}
use Rattle.ca_keys.specs.declared.names.QueueId.{QueueId}
use Rattle.ca_keys.specs.declared.names.Slot.{Slot}
use Rattle.ca_keys.specs.Numbers.{queue_of}
use Rattle.ca_law_parts.proofs.Names.PlacedLemmas as placed
use Rattle.ca_law_parts.specs.Placed.{IsConfigured}
use Rattle.ca_law_parts.specs.Raised.{IsThingWithin}
use Rattle.ca_law_parts.proofs.Numbers.LimitLemmas.{can-step, own-places, shared-places, slot-incarnation}
use Rattle.ca_adapter.proofs.HeldLemmas.{destroy-departs, modify-changes}
use Rattle.ca_law_parts.proofs.Parts.EventPartLemmas.{event-held}
use Rattle.ca_law_parts.proofs.Parts.NeedsLemmas.{next-same, none-held}
use Rattle.ca_law_parts.proofs.Room.FitLemmas.{vacant-new}
use Rattle.ca_adapter_parts.proofs.of_ca_law_world.Windows.BindingLemmas.{counted-binding}
use Rattle.ca_model.proofs.FrameLemmas.{event-touches-same}
use Rattle.ca_model.specs.Marks.{MarkList}
use Rattle.ca_model.specs.declared.answer.Answer.TheVariants as answers
use Rattle.ca_model.specs.declared.answer.Refusal.TheVariants as refusals
use Rattle.ca_model.specs.declared.event.Event.{Event}
use Rattle.ca_model.specs.declared.event.Event.TheVariants as events
use Rattle.ca_model.specs.declared.verb.Verb.{Verb}
use Rattle.ca_model.specs.declared.verb.Verb.TheVariants as verbs
use Rattle.ca_model.specs.declared.part_name.PartName.TheVariants as names
use Rattle.ca_model.specs.machine.CanStep.{CanStep}
use Rattle.ca_model.specs.machine.Invariants.{IsSharedReceives}
use Rattle.ca_model.specs.machine.Frame.{AllPass}
use Rattle.ca_model.specs.machine.Parts.{Enough, Needs, Part, event_needs, listed, next_part, part, part_of, verb_needs, where_some}
use Rattle.ca_model.specs.machine.Plan.{Did, perform, touches}
use Rattle.ca_model.specs.machine.QueuePairVerbs.{Creation, beside}
use Rattle.ca_model.specs.machine.Row.{region_under}
use Rattle.ca_model.specs.machine.Sound.{CanBeMade, IsLimitedAdapter, IsQueueOf}
use Rattle.ca_model.specs.machine.Step.{has_named_slot, is_named, plan, step, verb_plan}
use Rattle.ca_model.specs.machine.VerbAnswers.{Call, answer_mark}
use Rattle.ca_model.specs.machine.World.{World, Name, Domain_of, Region_of, Window_of, Srq_of, Queue_of}
use Rattle.ca_adapter_footprint.proofs.ReadyLemmas as slots

-- ---- what is in hand suffices

both-pass : (has : Name → Bool) (P Q : Name → Type 0) → ((n : Name) → P n → Q n → has n ≡ true) → (ns : List Name) → AllByRecursion P ns → AllByRecursion Q ns → AllPass has ns
both-pass has P Q one [] ps qs = record {}
both-pass has P Q one (n ∷ ns) ps qs = (one n ps.0 qs.0, both-pass has P Q one ns ps.1 qs.1)

pub ready-suffices : (c : Configuration) (event : Event) (h : Held) → IsReady c event h → Suffices h (plan c event)
ready-suffices c event h ready = subst (AllPass (holding h).has)
    (event-touches-same (holding h).has c event w (holding h).world (λ n has. sym (shown c h are n has)) touched) touched
  where
    are : ArePartsOfWorld c h
    are = ready.parts

    w : World
    w = are.world

    none : next_part (holding h).parts w (event_needs c event) ≡ None
    none = sym (next-same (holding h).parts (holding h).world w (event_needs c event) are.shows) ∙ ready.next

    touched : AllPass (holding h).has (touches w (plan c event))
    touched = both-pass (holding h).has (λ n. (holding h).parts (part_of n) ≡ true) (IsConfigured c) (λ n held configured. has-thing c h are n held configured)
        (touches w (plan c event)) (event-held c w event (holding h).parts are.after.sound none)
        (placed.event-touches c event w are.after.limited are.after.sound are.after.placed)

-- ---- a verb

abbrev call_by : ℕ → Verb → Call
call_by by verb = record { by = by; verb = verb }

-- what is in hand suffices for the act of a verb whose names are configured
pub verb_suffices : (c : Configuration) (by : ℕ) (verb : Verb) (h : Held) → IsReady c (events.Verb by verb) h → is_named c verb ≡ true
    → Suffices h (verb_plan c (record { by = by; verb = verb }) verb)
verb_suffices c by verb h ready named = subst (λ b. AllPass (holding h).has (if b then touches (holding h).world (verb_plan c (call_by by verb) verb) else [])) named
    (ready-suffices c (events.Verb by verb) h ready)

-- the parts that a verb needs whose names are configured are held
pub needs_held : (c : Configuration) (by : ℕ) (verb : Verb) (h : Held) → IsReady c (events.Verb by verb) h → is_named c verb ≡ true
    → AllByRecursion (λ p. (holding h).parts p ≡ true) (listed (holding h).world (verb_needs c verb))
needs_held c by verb h ready named = none-held (holding h).parts (holding h).world (verb_needs c verb)
    (subst (λ b. next_part (holding h).parts (holding h).world (if b then verb_needs c verb else Enough) ≡ None) named ready.next)

-- a verb one of whose names is not configured
pub verb_unnamed : (c : Configuration) (by : ℕ) (verb : Verb) (w : World) → is_named c verb ≡ false
    → perform w (plan c (events.Verb by verb)) ≡ Did w (answer_mark (record { by = by; verb = verb }) (answers.Refused refusals.NoSuch) ∷ [])
verb_unnamed c by verb w unnamed = ap (λ b. if b then perform w (verb_plan c (call_by by verb) verb)
    else Did w (answer_mark (call_by by verb) (answers.Refused refusals.NoSuch) ∷ [])) unnamed

-- and one whose names are
pub verb_named : (c : Configuration) (by : ℕ) (verb : Verb) (w : World) → is_named c verb ≡ true
    → perform w (plan c (events.Verb by verb)) ≡ perform w (verb_plan c (record { by = by; verb = verb }) verb)
verb_named c by verb w named = ap (λ b. if b then perform w (verb_plan c (call_by by verb) verb)
    else Did w (answer_mark (call_by by verb) (answers.Refused refusals.NoSuch) ∷ [])) named

-- an act is the step of each world that shows what is held
pub act_stepped : (c : Configuration) (event : Event) (result : Result MarkList ActError) (old new : Held) → IsReady c event old
    → Acts result (plan c event) old new → (w : World) → Shows w (holding old) → IsStepOf result (step c w event) w (holding old) (holding new)
act_stepped c event result old new ready act w shows =
    act-steps c event result (holding old) (holding new) w shows (ready-suffices c event old ready) act

-- a call of this verb, with what its caller shows
pub record IsCallOf (c : Configuration) (by : ℕ) (verb v : Verb) (h : Held) : Type 0 where
  pub suffices : Suffices h (verb_plan c (record { by = by; verb = verb }) v)
  pub ready : IsReady c (events.Verb by v) h
  pub made : CanBeMade (events.Verb by v)
  pub named : is_named c v ≡ true

pub of_verb : {c : Configuration} {by : ℕ} {verb v : Verb} {h : Held} → verb ≡ v → IsReady c (events.Verb by verb) h → CanBeMade (events.Verb by verb)
    → is_named c verb ≡ true → IsCallOf c by verb v h
of_verb {c} {by} {verb} {v} {h} is ready made named = record {
  suffices = subst (λ x. Suffices h (verb_plan c (call_by by verb) x)) is (verb_suffices c by verb h ready named);
  ready = subst (λ x. IsReady c (events.Verb by x) h) is ready;
  made = subst (λ x. CanBeMade (events.Verb by x)) is made;
  named = subst (λ x. is_named c x ≡ true) is named;
}

-- ---- numbers that can rise

pub objects_rise : (c : Configuration) (event : Event) (h : Held) (d : DomainId) → IsReady c event h → ((holding h).world.domain d).objects < 2 ^ 32 - 1
objects_rise c event h d ready = omega (arith, within c h ready.parts (Domain_of d), ready.parts.after.few)

pub users_rise : (c : Configuration) (event : Event) (h : Held) (x : Creation) → IsReady c event h
    → IfSome (shared_slot x (holding h).world) (λ s. s.users < 2 ^ 32 - 1)
users_rise c event h x ready = by x.srq
  where
    by : (o : Option ℕ) → IfSome (option_map (λ srq. (holding h).world.srq (beside x.slot srq)) o) (λ s. s.users < 2 ^ 32 - 1)
    by None = record {}
    by (Some srq) = omega (arith, (within c h ready.parts (Srq_of (beside x.slot srq))).0, ready.parts.after.few)

pub incarnation_rises : (c : Configuration) (event : Event) (h : Held) (q : QueueId) → IsReady c event h → incarnation_of ((holding h).world.queue q) < 2 ^ 32 - 1
incarnation_rises c event h q ready = slot-incarnation ready.parts.count (holding h).world q ready.parts.after.few (within c h ready.parts)

pub shared_place_rises : (c : Configuration) (event : Event) (h : Held) (s : Slot) → IsReady c event h
    → IfSome ((holding h).world.srq s).srq (λ r. suc r.next < 2 ^ 64)
shared_place_rises c event h s ready =
    shared-places ready.parts.count ((holding h).world.srq s).srq ready.parts.after.few (within c h ready.parts (Srq_of s)).1

pub send_place_rises : (c : Configuration) (event : Event) (h : Held) (q : QueueId) → IsReady c event h → IfSome (queue_in ((holding h).world.queue q)) CanPostSend
send_place_rises c event h q ready = by ((holding h).world.queue q) (within c h ready.parts (Queue_of q))
  where
    by : (o : QueueSlot) → IsThingWithin ready.parts.count (Queue_of q) o → IfSome (queue_in o) CanPostSend
    by (NoQueue incarnation timers) are = record {}
    by (Present p) are = omega (arith, are.sends, ready.parts.after.few)

pub receive_place_rises : (c : Configuration) (event : Event) (h : Held) (q : QueueId) → IsReady c event h
    → IfSome (queue_in ((holding h).world.queue q)) CanPostReceive
receive_place_rises c event h q ready = by ((holding h).world.queue q) (within c h ready.parts (Queue_of q))
  where
    by : (o : QueueSlot) → IsThingWithin ready.parts.count (Queue_of q) o → IfSome (queue_in o) CanPostReceive
    by (NoQueue incarnation timers) are = record {}
    by (Present p) are = own-places ready.parts.count p.receives ready.parts.after.few are.receives

-- ---- slots

pub queue_is_sound : (c : Configuration) (event : Event) (h : Held) (q : QueueId) → IsReady c event h → IsQueueOf q ((holding h).world.queue q)
queue_is_sound c event h q ready = sound-thing c h ready.parts (Queue_of q)

pub slot_is_small : (c : Configuration) (event : Event) (h : Held) (s : Slot) → IsReady c event h → has_slot c (λ a. a.qps) s ≡ true → s.slot < 256
slot_is_small c event h s ready has = slots.small_slot c s ready.parts.after.limited has

pub slot_and_small : (c : Configuration) (event : Event) (h : Held) (s : Slot) (b : Bool) → IsReady c event h → (has_slot c (λ a. a.qps) s && b) ≡ true → s.slot < 256
slot_and_small c event h s b ready has = slots.small_and c s b ready.parts.after.limited has

windows-few : (xs : List Adapter) (i : ℕ) (k : ℕ) → AllByRecursion IsLimitedAdapter xs
    → option_map_or (λ a. nat_lt k a.windows) (slice_get xs i) false ≡ true → k < MAX_WINDOWS
windows-few [] i k all e = absurd (true≢false (sym e))
windows-few (a ∷ xs) zero k all e = omega (arith, all.0.windows, ltb-true k a.windows e)
windows-few (a ∷ xs) (suc i) k all e = windows-few xs i k all.1 e

-- the window whose byte a request draws is one of few
pub window_is_small : (c : Configuration) (event : Event) (h : Held) (s : Slot) (request : SendRequest) → IsReady c event h
    → (has_slot c (λ a. a.qps) s && has_named_slot c s.domain request.op) ≡ true → IfSome (window_of_bind s request.op) (λ x. x.slot < 32768)
window_is_small c event h s request ready has =
    by request.op (and_parts (has_slot c (λ a. a.qps) s) (has_named_slot c s.domain request.op) has).1
  where
    one : (x : Slot) → has_slot c (λ a. a.windows) x ≡ true → x.slot < 32768
    one x is = omega (
      arith,
      windows-few c.adapters x.domain.adapter x.slot ready.parts.after.limited.adapters
          (and_parts (has_domain c x.domain) (option_map_or (λ a. nat_lt x.slot a.windows) (adapter_at c x.domain.adapter) false) is).1,
    )

    by : (op : SendOp) → has_named_slot c s.domain op ≡ true → IfSome (window_of_bind s op) (λ x. x.slot < 32768)
    by (ops.Send list) is = record {}
    by (ops.SendImm imm list) is = record {}
    by (ops.SendInv key list) is = record {}
    by (ops.Write address key list) is = record {}
    by (ops.WriteImm address key imm list) is = record {}
    by (ops.Read address key list) is = record {}
    by (ops.CmpSwap address key compare swap list) is = record {}
    by (ops.FetchAdd address key add list) is = record {}
    by (ops.Bind1 window region address count rights) is = one (beside s window) is
    by (ops.Bind2 window region low address count rights) is = record {}
    by (ops.FastReg region low buffer address count rights pages) is = record {}
    by (ops.LocalInv key) is = record {}

-- ---- windows and reservations

-- the region of a binding counts the window
pub window_is_counted : (c : Configuration) (by : ℕ) (h : Held) (s : Slot) → IsReady c (events.Verb by (verbs.DeallocMw s)) h
    → is_named c (verbs.DeallocMw s) ≡ true
    → IfSome ((holding h).world.window s).binding (λ b. 0 < ((holding h).world.region (region_under ((holding h).world.window s) b)).bound)
window_is_counted c by h s ready named = at window.binding refl (needs_held c by (verbs.DeallocMw s) h ready named)
  where
    are : ArePartsOfWorld c h
    are = ready.parts

    w : World
    w = are.world

    window : Window
    window = (holding h).world.window s

    needs : Option Binding → Needs
    needs o = where_some (λ b. Part (names.Region (region_under window b)) (where_some (λ q. part (names.Queue q)) b.queue)) o

    at : (o : Option Binding) → window.binding ≡ o
        → AllByRecursion (λ p. (holding h).parts p ≡ true) (names.Control s.domain ∷ names.Window s ∷ listed (holding h).world (needs o))
        → IfSome o (λ b. 0 < ((holding h).world.region (region_under window b)).bound)
    at None is held = record {}
    at (Some b) is held =
        let shown : window ≡ w.window s = are.shows (Window_of s) held.1.0
        in subst (λ r. 0 < r.bound) (sym (are.shows (Region_of (region_under window b)) held.1.1.0))
        (subst (λ x. 0 < (w.region (region_under x b)).bound) (sym shown)
        (counted-binding w.window w.region w.queue s b are.after.counted (ap (λ x. x.binding) (sym shown) ∙ is)).by_region)

-- the side of a new queue pair's sends is new
pub side_is_new : (c : Configuration) (by : ℕ) (h : Held) (x : Creation)
    → IsReady c (events.Verb by (verbs.CreateQp x.slot x.send_cq x.recv_cq x.send_depth x.recv_depth x.srq)) h
    → is_named c (verbs.CreateQp x.slot x.send_cq x.recv_cq x.send_depth x.recv_depth x.srq) ≡ true
    → is_present ((holding h).world.queue (queue_of x.slot)) ≡ false
    → IfSome ((holding h).world.cq (beside x.slot x.send_cq)) (λ q. is_new_side (Sends (queue_of x.slot)) q ≡ true)
side_is_new c by h x ready named vacant = cq-is h w are.shows at (λ o. IfSome o (λ q. is_new_side (Sends name) q ≡ true)) (record {})
    (of-slot (w.queue name) refl (subst (λ o. is_present o ≡ false) (are.shows (Queue_of name) held.1.0) vacant) (w.cq at) refl)
  where
    are : ArePartsOfWorld c h
    are = ready.parts

    w : World
    w = are.world

    name : QueueId
    name = queue_of x.slot

    at : Slot
    at = beside x.slot x.send_cq

    held : AllByRecursion (λ p. (holding h).parts p ≡ true)
        (listed (holding h).world (verb_needs c (verbs.CreateQp x.slot x.send_cq x.recv_cq x.send_depth x.recv_depth x.srq)))
    held = needs_held c by (verbs.CreateQp x.slot x.send_cq x.recv_cq x.send_depth x.recv_depth x.srq) h ready named

    of-slot : (z : QueueSlot) → w.queue name ≡ z → is_present z ≡ false → (o : Option CompletionQueue) → w.cq at ≡ o
        → IfSome o (λ q. is_new_side (Sends name) q ≡ true)
    of-slot (Present q) there vacant o is = absurd (true≢false vacant)
    of-slot (NoQueue incarnation timers) there vacant None is = record {}
    of-slot (NoQueue incarnation timers) there vacant (Some q) is = vacant-new w at q (Sends name) incarnation timers are.after.room there is

-- ---- queue pairs

-- a change of a queue pair's state can be made
pub change_can_be_made : (c : Configuration) (by : ℕ) (h : Held) (s : Slot) (change : Change) → IsReady c (events.Verb by (verbs.ModifyQp s change)) h
    → is_named c (verbs.ModifyQp s change) ≡ true → IfSome (queue_in ((holding h).world.queue (queue_of s))) (λ q. CanChange c change q (holding h).world)
change_can_be_made c by h s change ready named = modify-changes c ready.parts.count ready.parts.world (holding h) (call_by by (verbs.ModifyQp s change)) s change
    ready.parts.after (shown c h ready.parts) (verb_suffices c by (verbs.ModifyQp s change) h ready named)

-- a queue pair can leave what stands around it
pub end_can_be_made : (c : Configuration) (by : ℕ) (h : Held) (s : Slot) → IsReady c (events.Verb by (verbs.DestroyQp s)) h
    → is_named c (verbs.DestroyQp s) ≡ true → IfSome (queue_in ((holding h).world.queue (queue_of s))) (λ q. CanDepart (names_around q) (holding h).world)
end_can_be_made c by h s ready named = destroy-departs c ready.parts.count ready.parts.world (holding h) (call_by by (verbs.DestroyQp s)) s
    ready.parts.after (shown c h ready.parts) (verb_suffices c by (verbs.DestroyQp s) h ready named)

-- ---- what the next part asks

-- a queue pair in hand can step
pub queues_can_step : (c : Configuration) (h : Held) → ArePartsOfWorld c h → (q : QueueId) → IfSome (queue_in ((holding h).world.queue q)) CanStep
queues_can_step c h are q = queue-is h are.world are.shows q (λ o. IfSome (queue_in o) CanStep) (record {}) (by (are.world.queue q) refl)
  where
    by : (o : QueueSlot) → are.world.queue q ≡ o → IfSome (queue_in o) CanStep
    by (NoQueue incarnation timers) is = record {}
    by (Present p) is = can-step c are.count are.world q p are.after.few are.after.sound are.after.numbers is

-- a shared receive queue in hand can come up
pub shared_are_sound : (c : Configuration) (h : Held) → ArePartsOfWorld c h → (s : Slot) → IfSome ((holding h).world.srq s).srq IsSharedReceives
shared_are_sound c h are s = sound-thing c h are (Srq_of s)
