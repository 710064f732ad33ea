-- Local operations, and with them the requester's turn, keep a world sound.
use Rattle.std.proofs.Common.{◌≡◌, ℕ, suc, ◌+◌, ◌-◌, ◌^◌, nat_lt, Bool, true, false, List, [], ◌∷◌, ◌++◌, length, Option, None, Some, IfSome, ◌||◌, ◌==◌, not, ap, true≢false, if◌then◌else◌, is_some, refl}
use Rattle.std.proofs.lemmas.Bool.{eqb-true, not-false, or_parts}
use Rattle.std.specs.Option.{option_map_or}
use Rattle.ca_keys.specs.declared.key.Key.{Key}
use Rattle.ca_base.specs.declared.lot.Lot.{Lot}
use Rattle.ca_keys.specs.declared.names.DomainId.{DomainId}
use Rattle.ca_keys.specs.declared.names.QueueId.{QueueId}
use Rattle.ca_keys.specs.declared.names.Slot.{Slot}
use Rattle.ca_base.specs.declared.refusals.OpRefusal.{OpRefusal}
use Rattle.ca_base.specs.declared.refusals.WindowError.{WindowError}
use Rattle.ca_keys.specs.declared.rights.Rights.{Rights}
use Rattle.ca_base.specs.Configuration.{Configuration}
use Rattle.ca_keys.specs.Equal.{slot_eq}
use Rattle.ca_keys.specs.Refusals.{AllFail}
use Rattle.ca_base.specs.objects.LocalRequest.{bind1_request_refusals, bind2_request_refusals, fast_request_refusals, of_window}
use Rattle.ca_base.specs.objects.QueuePair.{QueuePair}
use Rattle.ca_base.specs.objects.Region.{Region, free_pages, has_repeat, pages_needed, with_window_bound, with_window_unbound}
use Rattle.ca_keys.specs.Numbers.{is_window_key}
use Rattle.ca_base.specs.objects.Slices.{buffer_length, slot_of_key}
use Rattle.ca_base.specs.objects.Window.{Binding, Window, after_binding, without_binding}
use Rattle.ca_model.specs.machine.Around.{updates_of}
use Rattle.ca_model.specs.machine.LocalOperations.{Bind1_plan, Bind2_plan, Fast_plan, Finishing, Perform_op, PlacedRegion, With_former, With_named, bind1_changes, bind1_marks, bind1_refusal, bind2_changes, bind2_marks, bind2_refusal, drawn_by, fast_changes, fast_marks, fast_refusal, former_updates, invalidate_row, named_slot, named_updates, operation_effects, region_slot, view_named, window_slot}
use Rattle.ca_model.specs.machine.Numbering.{Numbered}
use Rattle.ca_model.specs.machine.Plan.{Plan, Look, Finish, Update, ◌:=◌, Write}
use Rattle.ca_model.specs.machine.Requester.{Performs, packet_row, turn_of}
use Rattle.ca_model.specs.machine.Row.{Effects, queue_and_marks, region_under, unless_none}
use Rattle.ca_model.specs.machine.Turns.{has_room_for, request_plan}
use Rattle.ca_model.specs.machine.World.{World, Region_of, Window_of}
use Rattle.ca_model.specs.machine.Invariants.{IsQueue, IsWindow}
use Rattle.ca_model.specs.machine.Sound.{IsSoundWorld, IsSoundThing}
use Rattle.ca_law_world.proofs.Sound.EngineLemmas.{ends-left, packet-room, roomy, turn-change}
use Rattle.ca_law_world.proofs.Sound.GoodLemmas.{IsGood}
use Rattle.ca_law_world.proofs.Sound.ObjectLemmas.{bound-window, unbound-window}
use Rattle.ca_law_world.proofs.Sound.RegionLemmas.{sound-fast}
use Rattle.ca_law_world.proofs.Sound.TurnLemmas.{all-fail, nothing-good, operation-good, packet-good}
use Rattle.ca_law_world.proofs.Sound.WorldLemmas.{AreQuiet, EndsIn, IsGoodChange, IsThere, RowDoes, around_in, ends-row, quiet-append, row-does, shared_of}
use Rattle.ca_law_world.proofs.Sound.PlanWalks.{walk-perform, walk-request}

abbrev IsPlaced : Configuration → Option PlacedRegion → Type 0
IsPlaced c r = IfSome r (λ f. IsSoundThing c (Region_of f.slot) f.region)

ends-named : (c : Configuration) (w : World) (P : List Update → Type 0) (d : DomainId) (key : Key) (k : Option PlacedRegion → Plan) → IsSoundWorld c w
    → ((r : Option PlacedRegion) → IsPlaced c r → EndsIn w P (k r)) → EndsIn w P (With_named c d key k)
ends-named c w P d key k sound more = (λ named. more (Some (record { slot = slot_of_key d key; region = w.region (slot_of_key d key) })) (sound.things (Region_of (slot_of_key d key))), λ none. more None (record {}))

ends-former : (c : Configuration) (w : World) (P : List Update → Type 0) (x : Window) (k : Option PlacedRegion → Plan) → IsSoundWorld c w
    → ((r : Option PlacedRegion) → IsPlaced c r → EndsIn w P (k r)) → EndsIn w P (With_former x k)
ends-former c w P x k sound more = by x.binding
  where
    plan : Option Binding → Plan
    plan None = k None
    plan (Some b) = Look (Region_of (region_under x b)) (λ region. k (Some (record { slot = region_under x b; region = region })))

    by : (o : Option Binding) → EndsIn w P (plan o)
    by None = more None (record {})
    by (Some b) = more (Some (record { slot = region_under x b; region = w.region (region_under x b) })) (sound.things (Region_of (region_under x b)))

former-quiet : (c : Configuration) (former : Option PlacedRegion) → IsPlaced c former → AreQuiet c (former_updates former)
former-quiet c None placed = record {}
former-quiet c (Some f) placed = ((record {}, placed), record {})

named-quiet : (c : Configuration) (former named : Option PlacedRegion) → IsPlaced c named → AreQuiet c (named_updates former named)
named-quiet c former None placed = record {}
named-quiet c former (Some n) placed = by (option_map_or (λ f. slot_eq f.slot n.slot) former false)
  where
    by : (b : Bool) → AreQuiet c ((Region_of n.slot := with_window_bound (if b then with_window_unbound n.region else n.region)) ∷ [])
    by true = ((record {}, placed), record {})
    by false = ((record {}, placed), record {})

-- how an operation's plan may go on
abbrev GoesOn : Configuration → World → QueuePair → (List Update → Type 0) → Finishing → Type 0
GoesOn c w q P finish = (e : Effects) (cs : List Update) (ws : List Write) → IsGood q e → AreQuiet c cs → EndsIn w P (finish e cs ws)

-- the tests of a window, as those of a request
window-fails : (tests : List (Bool × WindowError)) → AllFail (of_window tests) → AllFail tests
window-fails [] fails = record {}
window-fails (t ∷ ts) fails = (fails.0, window-fails ts fails.1)

bind1-quiet : (c : Configuration) (s : Slot) (n : Numbered) (key : Key) (x : Window) (former named : Option PlacedRegion) (address count : ℕ) (rights : Rights)
    (refusal : Option OpRefusal) → bind1_refusal n key named address count rights x ≡ refusal → x.slot ≡ s → IsWindow x → IsPlaced c former → IsPlaced c named
    → AreQuiet c (unless_none refusal (bind1_changes s (drawn_by n) x former named address count rights))
bind1-quiet c s n key x former named address count rights (Some refusal) e slot sound former-sound named-sound = record {}
bind1-quiet c s n key x former named address count rights None e slot sound former-sound named-sound = (
  (record {}, (window (count == 0) refl (all-fail (bind1_request_refusals n.drawn (view_named key named) address count rights x) e))),
  quiet-append c (former_updates former) (if count == 0 then [] else named_updates former named) (former-quiet c former former-sound) (regions (count == 0)),
)
  where
    after : Bool → Window
    after b = if b then without_binding x else after_binding (drawn_by n) None (named_slot named) address count rights x

    one : AllFail (bind1_request_refusals n.drawn (view_named key named) address count rights x) → x.kind ≡ 1
    one fails = eqb-true x.kind 1 (not-false (x.kind == 1) fails.1.1.0)

    window : (b : Bool) → (count == 0) ≡ b → AllFail (bind1_request_refusals n.drawn (view_named key named) address count rights x) → ((after b).slot ≡ s) × IsWindow (after b)
    window true e fails = (slot, unbound-window x sound)
    window false e fails = (slot, bound-window (drawn_by n) None (named_slot named) address count rights x sound e (record {}) (λ none. one fails))

    regions : (b : Bool) → AreQuiet c (if b then [] else named_updates former named)
    regions true = record {}
    regions false = named-quiet c former named named-sound

bind2-quiet : (c : Configuration) (s : Slot) (low : ℕ) (queue : QueueId) (key : Key) (x : Window) (named : Option PlacedRegion) (address count : ℕ) (rights : Rights)
    (refusal : Option OpRefusal) → bind2_refusal key named address count rights x ≡ refusal → x.slot ≡ s → IsWindow x → IsPlaced c named
    → AreQuiet c (unless_none refusal (bind2_changes s low queue x named address count rights))
bind2-quiet c s low queue key x named address count rights (Some refusal) e slot sound named-sound = record {}
bind2-quiet c s low queue key x named address count rights None e slot sound named-sound =
    ((record {}, (slot, window (all-fail (bind2_request_refusals (view_named key named) address count rights x) e))), named-quiet c None named named-sound)
  where
    window : AllFail (bind2_request_refusals (view_named key named) address count rights x) → IsWindow (after_binding low (Some queue) (named_slot named) address count rights x)
    window fails = bound-window low (Some queue) (named_slot named) address count rights x sound fails.1.1.1.0
        (eqb-true x.kind 2 (not-false (x.kind == 2) fails.1.0)) (λ none. absurd (true≢false (ap is_some none)))

ends-bind1 : (c : Configuration) (w : World) (P : List Update → Type 0) (q : QueuePair) (n : Numbered) (window : ℕ) (key : Key) (address count : ℕ) (rights : Rights) (finish : Finishing)
    → IsSoundWorld c w → IsQueue q → turn_of q ≡ Performs n → GoesOn c w q P finish → EndsIn w P (Bind1_plan c q n window key address count rights finish)
ends-bind1 c w P q n window key address count rights finish sound s turn more =
    ends-named c w P q.domain key (λ named. With_former x (λ former. ending named former)) sound (λ named named-sound.
    ends-former c w P x (λ former. ending named former) sound (λ former former-sound.
    more (effects named) (unless_none (refusal named) (changed named former)) []
    (operation-good q n q.windows (bind1_marks q n window named address count rights x) (refusal named) s turn)
    (bind1-quiet c slot n key x former named address count rights (refusal named) refl (sound.things (Window_of slot)).0 (sound.things (Window_of slot)).1 former-sound named-sound)))
  where
    slot : Slot
    slot = window_slot q window

    x : Window
    x = w.window slot

    refusal : Option PlacedRegion → Option OpRefusal
    refusal named = bind1_refusal n key named address count rights x

    changed : Option PlacedRegion → Option PlacedRegion → List Update
    changed named former = bind1_changes slot (drawn_by n) x former named address count rights

    effects : Option PlacedRegion → Effects
    effects named = operation_effects q n q (bind1_marks q n window named address count rights x) (refusal named)

    ending : Option PlacedRegion → Option PlacedRegion → Plan
    ending named former = finish (effects named) (unless_none (refusal named) (changed named former)) []

ends-bind2 : (c : Configuration) (w : World) (P : List Update → Type 0) (q : QueuePair) (n : Numbered) (window : ℕ) (key : Key) (low address count : ℕ) (rights : Rights) (finish : Finishing)
    → IsSoundWorld c w → IsQueue q → turn_of q ≡ Performs n → GoesOn c w q P finish → EndsIn w P (Bind2_plan c q n window key low address count rights finish)
ends-bind2 c w P q n window key low address count rights finish sound s turn more =
    ends-named c w P q.domain key (λ named. With_former x (λ former. ending named)) sound (λ named named-sound.
    ends-former c w P x (λ former. ending named) sound (λ former former-sound.
    more (effects named) (unless_none (refusal named) (changed named)) []
    (operation-good q n (suc q.windows) (bind2_marks q window low named address count rights) (refusal named) s turn)
    (bind2-quiet c slot low q.queue key x named address count rights (refusal named) refl (sound.things (Window_of slot)).0 (sound.things (Window_of slot)).1 named-sound)))
  where
    slot : Slot
    slot = window_slot q window

    x : Window
    x = w.window slot

    refusal : Option PlacedRegion → Option OpRefusal
    refusal named = bind2_refusal key named address count rights x

    changed : Option PlacedRegion → List Update
    changed named = bind2_changes slot low q.queue x named address count rights

    effects : Option PlacedRegion → Effects
    effects named = operation_effects q n (record q { windows = suc q.windows }) (bind2_marks q window low named address count rights) (refusal named)

    ending : Option PlacedRegion → Plan
    ending named = finish (effects named) (unless_none (refusal named) (changed named)) []

fast-quiet : (c : Configuration) (q : QueuePair) (region low buffer address count : ℕ) (rights : Rights) (pages : List ℕ) (r : Region) (refusal : Option OpRefusal)
    → fast_refusal c q region buffer address count rights pages r ≡ refusal
    → AreQuiet c (unless_none refusal (fast_changes q region low buffer address count rights pages r))
fast-quiet c q region low buffer address count rights pages r (Some refusal) e = record {}
fast-quiet c q region low buffer address count rights pages r None e =
    by (all-fail (fast_request_refusals (region_slot q region) buffer (buffer_length c q.domain.adapter buffer) address count rights pages r) e)
  where
    most : Bool
    most =
        (count == 0) || nat_lt (2 ^ 64) (address + count) || nat_lt (option_map_or (λ n. n) (free_pages r.state) 0) (length pages)
        || has_repeat pages

    by : AllFail (fast_request_refusals (region_slot q region) buffer (buffer_length c q.domain.adapter buffer) address count rights pages r)
        → AreQuiet c (fast_changes q region low buffer address count rights pages r)
    by fails = (
      (
        record {},
        sound-fast c (region_slot q region) low buffer address count rights pages
            (eqb-true (length pages) (pages_needed address count)
            (not-false (length pages == pages_needed address count)
            (or_parts most (not (length pages == pages_needed address count)) fails.1.1.0).1))
            fails.1.1.1.0,
      ),
      record {},
    )

ends-fast : (c : Configuration) (w : World) (P : List Update → Type 0) (q : QueuePair) (n : Numbered) (region low buffer address count : ℕ) (rights : Rights) (pages : List ℕ) (finish : Finishing)
    → IsQueue q → turn_of q ≡ Performs n → GoesOn c w q P finish → EndsIn w P (Fast_plan c q n region low buffer address count rights pages finish)
ends-fast c w P q n region low buffer address count rights pages finish s turn more =
    more (operation_effects q n q (fast_marks q region low buffer address count rights pages) refusal) (unless_none refusal (fast_changes q region low buffer address count rights pages r)) []
    (operation-good q n q.windows (fast_marks q region low buffer address count rights pages) refusal s turn)
    (fast-quiet c q region low buffer address count rights pages r refusal refl)
  where
    r : Region
    r = w.region (region_slot q region)

    refusal : Option OpRefusal
    refusal = fast_refusal c q region buffer address count rights pages r

invalidate-does : (q : QueuePair) (n : Numbered) (key : Key) → IsQueue q → turn_of q ≡ Performs n → RowDoes (IsGood q) (invalidate_row q n key)
invalidate-does q n key s turn = record {
  denied = λ d. nothing-good q s;
  allowed = λ bytes refusal. operation-good q n (if is_window_key key then q.windows - 1 else q.windows) (record { revoked = Some key; granted = None }) refusal s turn;
}

pub ends-request : (c : Configuration) (w : World) (name : QueueId) (lot : Lot) → IsSoundWorld c w → EndsIn w (IsGoodChange c w) (request_plan c name lot)
ends-request c w name lot sound = walk-request c w P name lot sound performs
    (λ q n peer there turn. ends-left c w q peer lot (packet_row q (has_room_for q peer (w.mailbox peer.queue)) n) sound there
    (roomy q (has_room_for q peer (w.mailbox peer.queue)) (packet_row q (has_room_for q peer (w.mailbox peer.queue)) n)
    (row-does q _ (packet-good q (has_room_for q peer (w.mailbox peer.queue)) n there.sound turn)) (packet-room q (has_room_for q peer (w.mailbox peer.queue)) n)))
  where
    P : List Update → Type 0
    P = IsGoodChange c w

    finish : QueuePair → Finishing
    finish q e changes writes = Finish (updates_of q (around_in w q (shared_of w q)) e ++ changes) writes e.marks

    performs : (q : QueuePair) (n : Numbered) → IsThere w q → turn_of q ≡ Performs n → EndsIn w P (Perform_op c q n (finish q) n.request.op)
    performs q n there turn = walk-perform c w P q n (finish q) n.request.op (more (queue_and_marks q []) [] [] (nothing-good q there.sound) (record {}))
        (λ window key address count rights. ends-bind1 c w P q n window key address count rights (finish q) sound there.sound turn more)
        (λ window key low address count rights. ends-bind2 c w P q n window key low address count rights (finish q) sound there.sound turn more)
        (λ region low buffer address count rights pages. ends-fast c w P q n region low buffer address count rights pages (finish q) there.sound turn more)
        (λ key. ends-row c w P (IsGood q) (invalidate_row q n key) (finish q) sound (invalidate-does q n key there.sound turn) more)
      where
        more : GoesOn c w q P (finish q)
        more e cs ws good quiet = turn-change c w q e cs sound there good quiet
