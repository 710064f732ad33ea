-- What a local operation makes of ways. For proofs only.
use Rattle.std.proofs.Common.{◌≡◌, ℕ, ◌<◌, ◌==◌, Bool, true, false, if◌then◌else◌, List, [], ◌∷◌, ◌++◌, length, Option, None, Some, is_some, refl, sym, ap, ap₂, subst, ◌∙◌, true≢false}
use Rattle.std.specs.Option.{option_map, option_map_or}
use Rattle.ca_base.specs.Configuration.{Configuration}
use Rattle.ca_base.specs.Sight.{Invalidation}
use Rattle.ca_base.specs.declared.lot.Lot.{Lot}
use Rattle.ca_base.specs.declared.request.SendOp.{SendOp}
use Rattle.ca_base.specs.declared.request.SendOp.TheVariants as ops
use Rattle.ca_base.specs.objects.LocalRequest.{LocalMarks}
use Rattle.ca_base.specs.objects.QueuePair.{QueuePair}
use Rattle.ca_base.specs.objects.Region.{Region, with_window_unbound}
use Rattle.ca_base.specs.objects.Slices.{slot_of_key}
use Rattle.ca_base.specs.objects.Window.{Binding, Window, after_binding, without_binding}
use Rattle.ca_keys.specs.declared.grant.Grant.{Grant}
use Rattle.ca_keys.specs.declared.key.Key.{Key}
use Rattle.ca_keys.specs.declared.names.QueueId.{QueueId}
use Rattle.ca_keys.specs.declared.names.Slot.{Slot}
use Rattle.ca_law_world.proofs.Sound.WorldLemmas.{IsThere}
use Rattle.ca_law_world.specs.Steady.{IsSteadyWorld}
use Rattle.ca_model.specs.Past.{Past, Posted, after_marks, at_begin, next_operation, operation_performed, with_at}
use Rattle.ca_model.specs.Requests.{is_local}
use Rattle.ca_model.specs.declared.event.Event.{Event}
use Rattle.ca_model.specs.declared.event.Event.TheVariants as events
use Rattle.ca_model.specs.declared.mark.Mark.TheVariants as marks
use Rattle.ca_model.specs.machine.Completions.{success_marks}
use Rattle.ca_model.specs.machine.LocalOperations.{PlacedRegion, drawn_by, former_updates, named_slot, named_updates, region_slot, window_slot}
use Rattle.ca_model.specs.machine.Numbering.{Numbered}
use Rattle.ca_model.specs.machine.Plan.{Update, ◌:=◌, put_all}
use Rattle.ca_model.specs.machine.Row.{region_under}
use Rattle.ca_model.specs.machine.Seen.{ending_changes}
use Rattle.ca_model.specs.machine.Sound.{AreLimited, IsSoundWorld}
use Rattle.ca_law_parts.specs.Placed.{IsPlacedWorld}
use Rattle.ca_law_world.specs.Bindings.{IsBoundWorld}
use Rattle.ca_law_keys.specs.Posts.{PostsAgree}
use Rattle.ca_model.specs.machine.World.{Window_of, World}
use Rattle.ca_law_keys.proofs.Keys.ChangeLemmas.{none-granted, region-small, window-small}
use Rattle.ca_law_keys.proofs.Keys.KeyMade.{free-none}
use Rattle.ca_law_keys.proofs.Keys.SlotLemmas.{at-region, at-window}
use Rattle.ca_law_endings.proofs.Operations.{done_by, former_of, named_if, named_in}
use Rattle.ca_law_keys.proofs.Posts.PostMade.{performed-some}
use Rattle.ca_law_keys.proofs.Posts.GrantLemmas.{IsSeen, names-one, region-seen}
use Rattle.ca_law_keys.proofs.Ways.WayLemmas.{AreKept, agree-world, changes-kept, kept-append, kept-puts, region-granted, same-world, window-bound}
use Rattle.ca_law_keys.specs.Ways.{AgreeOnWays, WaysAgree}
use Rattle.ca_model.specs.declared.verb.Verb.TheVariants as verbs
use Rattle.ca_model.specs.declared.answer.Answer.TheVariants as answers
use Rattle.std.proofs.lemmas.Bool.{eqb-true}
use Rattle.std.proofs.lemmas.Option.{same_Some}
use Rattle.ca_law_keys.proofs.Posts.PostMade.{Performing}
use Rattle.ca_base.specs.Grants.{grant_of_bind, grant_of_fast_registration}
use Rattle.ca_base.specs.objects.LocalRequest.{bind1_request_refusals, bind2_request_refusals, fast_request_refusals, of_window}
use Rattle.ca_base.specs.objects.Region.{after_fast_registration, grant_of_region, is_fast_registered, with_window_bound}
use Rattle.ca_base.specs.objects.Slices.{buffer_length, names_region, slot_of_key}
use Rattle.ca_base.specs.objects.Window.{binding_refusals}
use Rattle.ca_keys.specs.Equal.{slot_eq}
use Rattle.ca_keys.specs.Numbers.{low_of}
use Rattle.ca_keys.specs.Refusals.{AllFail}
use Rattle.ca_keys.specs.declared.rights.Rights.{Rights}
use Rattle.ca_law_world.proofs.Sound.TurnLemmas.{all-fail}
use Rattle.ca_law_world.proofs.Windows.WindowBindLemmas.{named-region}
use Rattle.ca_model.specs.Past.{BindTo, FastRegistration, KeySlot, Registration, Way, key_slot_eq, key_slot_of, low_at_end, region_key_slot, slot_beside}
use Rattle.ca_model.specs.declared.answer.Answer.{Answer}
use Rattle.ca_model.specs.declared.verb.Verb.{Verb}
use Rattle.ca_model.specs.machine.LocalOperations.{bind_grant, view_named}
use Rattle.ca_model.specs.machine.Step.{has_named_slot}
use Rattle.ca_model.specs.machine.World.{put}

-- a world that comes up, and a past that agrees with it on posted requests and on ways
pub record IsFollowed (c : Configuration) (past : Past) (w : World) : Type 0 where
  pub limited : AreLimited c
  pub sound : IsSoundWorld c w
  pub steady : IsSteadyWorld w
  pub placed : IsPlacedWorld c w
  pub bound : IsBoundWorld w
  pub posts : PostsAgree past w
  pub agree : WaysAgree past w

-- the low bytes, behind a local operation that was performed
abbrev pub fast_lows : (KeySlot → ℕ) → QueueId → SendOp → KeySlot → ℕ
fast_lows lows queue (ops.FastReg region low buffer address length rights pages) = with_at key_slot_eq lows (region_key_slot (slot_beside queue region)) low
fast_lows lows queue op = lows

-- how the key of such an operation comes into force
abbrev pub way_of : SendOp → Way
way_of (ops.Bind1 window region address length rights) = BindTo region
way_of (ops.Bind2 window region low address length rights) = BindTo region
way_of op = FastRegistration

abbrev pub ways_after : (KeySlot → Way) → Option Grant → Way → KeySlot → Way
ways_after ways None way = ways
ways_after ways (Some g) way = with_at key_slot_eq ways (key_slot_of g) way

pub low-request : (r : Past) (name : QueueId) (lot : Lot) (o : Option Posted) → r.at_hand.event ≡ events.Request name lot → operation_performed r ≡ o → low_at_end r ≡ option_map_or (λ p. fast_lows r.low name p.request.op) o r.low
low-request r name lot o is was = ap (at r) is ∙ ap (λ o. option_map_or (λ p. fast_lows r.low name p.request.op) o r.low) was
  where
    registered : (KeySlot → ℕ) → Verb → Answer → KeySlot → ℕ
    registered lows (verbs.RegMr slot buffer offset length rights) (answers.Key key) = with_at key_slot_eq lows (region_key_slot slot) (low_of key)
    registered lows verb answer = lows

    at : Past → Event → KeySlot → ℕ
    at past (events.Verb consumer verb) = option_map_or (λ a. registered past.low a.verb a.answer) past.at_hand.answered past.low
    at past (events.Request queue lot) = option_map_or (λ p. fast_lows past.low queue p.request.op) (operation_performed past) past.low
    at past event = past.low

-- what an operation that was performed leaves
pub record IsPerforming (past r : Past) (name : QueueId) (op : SendOp) (g : Option Grant) : Type 0 where
  pub low : low_at_end r ≡ fast_lows past.low name op
  pub way : r.way ≡ ways_after past.way g (way_of op)

pub performing : (past : Past) (name : QueueId) (lot : Lot) (q : QueuePair) (n : Numbered) (m : LocalMarks) (p : Posted) → next_operation past name ≡ Some p → p.request ≡ n.request
    → IsPerforming past (Performing past name lot q n m) name n.request.op m.granted
performing past name lot q n m p next same = by m.revoked m.granted n.request.signalled (performed-some past name lot q n m p next)
  where
    after : Option Key → Option Grant → Bool → Past
    after k g b = after_marks ((option_map_or (λ key. marks.Revoked q.queue.adapter key ∷ []) k [] ++ option_map_or (λ g. marks.Granted g ∷ []) g [])
        ++ (if b then success_marks q.queue n.place (record n.request { signalled = true }) else [])) (at_begin (events.Request name lot) past)

    low : (r : Past) → r.at_hand.event ≡ events.Request name lot → r.low ≡ past.low → operation_performed r ≡ Some p → low_at_end r ≡ fast_lows past.low name n.request.op
    low r event lows some = low-request r name lot (Some p) event some ∙ ap₂ (λ f op. fast_lows f name op) lows (ap (λ x. x.op) same)

    of : Option Posted → Way
    of None = Registration
    of (Some p) = way_of p.request.op

    way : of (next_operation past name) ≡ way_of n.request.op
    way = ap of next ∙ ap (λ x. way_of x.op) same

    by : (k : Option Key) (g : Option Grant) (b : Bool) → operation_performed (after k g b) ≡ Some p → IsPerforming past (after k g b) name n.request.op g
    by None None true some = record { low = low (after None None true) refl refl some; way = refl }
    by None None false some = record { low = low (after None None false) refl refl some; way = refl }
    by None (Some g) true some = record { low = low (after None (Some g) true) refl refl some; way = ap (with_at key_slot_eq past.way (key_slot_of g)) way }
    by None (Some g) false some = record { low = low (after None (Some g) false) refl refl some; way = ap (with_at key_slot_eq past.way (key_slot_of g)) way }
    by (Some k) None true some = record { low = low (after (Some k) None true) refl refl some; way = refl }
    by (Some k) None false some = record { low = low (after (Some k) None false) refl refl some; way = refl }
    by (Some k) (Some g) true some = record { low = low (after (Some k) (Some g) true) refl refl some; way = ap (with_at key_slot_eq past.way (key_slot_of g)) way }
    by (Some k) (Some g) false some = record { low = low (after (Some k) (Some g) false) refl refl some; way = ap (with_at key_slot_eq past.way (key_slot_of g)) way }

-- a bind to the region that its key names
bound-ways : (c : Configuration) (past : Past) (w : World) (q : QueuePair) (window low : ℕ) (queue : Option QueueId) (key : Key) (address count : ℕ) (rights : Rights) (us : List Update) → IsFollowed c past w → IsThere w q
    → (window_slot q window).slot < 0x8000 → AllFail (of_window (binding_refusals (view_named key (named_in c w q key)) address count rights))
    → AreKept (put w (Window_of (window_slot q window)) (after_binding low queue (named_slot (named_in c w q key)) address count rights (w.window (window_slot q window)))) us
    → AgreeOnWays past.low (ways_after past.way (bind_grant (window_slot q window) low queue (named_in c w q key) address count rights) (BindTo key))
    (put_all ((Window_of (window_slot q window) := after_binding low queue (named_slot (named_in c w q key)) address count rights (w.window (window_slot q window))) ∷ us) w).region
    (put_all ((Window_of (window_slot q window) := after_binding low queue (named_slot (named_in c w q key)) address count rights (w.window (window_slot q window))) ∷ us) w).window
bound-ways c past w q window low queue key address count rights us up there small fails kept =
    agree-world past.low (ways_after past.way (bind_grant slot low queue (named_in c w q key) address count rights) (BindTo key)) v (put_all us v) (kept-puts v v us kept (same-world v))
    (subst (λ o. AgreeOnWays past.low (ways_after past.way o (BindTo key)) w.region v.window) (sym granted)
    (subst (λ k. AgreeOnWays past.low (with_at key_slot_eq past.way k (BindTo key)) w.region v.window) (sym (at-window made slot low refl refl))
    (window-bound past.low past.way w.region w.window slot y (BindTo key) up.agree small own)))
  where
    slot : Slot
    slot = window_slot q window

    at : Slot
    at = slot_of_key q.domain key

    x : Window
    x = w.window slot

    y : Window
    y = after_binding low queue (named_slot (named_in c w q key)) address count rights x

    v : World
    v = put w (Window_of slot) y

    has : names_region c q.domain key ≡ true
    has = names-one w q key address count rights (names_region c q.domain key) fails

    seen : IsSeen w at q.domain key address count rights
    seen = region-seen c w q key address count rights (names_region c q.domain key) up.sound refl fails

    made : Grant
    made = grant_of_bind slot low queue seen.grant address count rights

    granted : bind_grant slot low queue (named_in c w q key) address count rights ≡ Some made
    granted = ap (λ z. bind_grant slot low queue (named_if w q key z) address count rights) has ∙ ap (option_map (λ g. grant_of_bind slot low queue g address count rights)) seen.is

    under : (b : Binding) → y.binding ≡ Some b → region_under y b ≡ at
    under b is = λ i. record {
      domain = (ap (λ (s : Slot). s.domain) (up.sound.things (Window_of slot)).0 ∙ sym (named-region c w q.domain key has).domain) i;
      slot = (sym (ap (λ o. option_map_or (λ (b : Binding). b.region) o 0) is) ∙ ap (λ z. named_slot (named_if w q key z)) has) i;
    }

    own : (b : Binding) → y.binding ≡ Some b → (g : Grant) → grant_of_region (w.region (region_under y b)) ≡ Some g → BindTo key ≡ BindTo g.key
    own b is g grant = ap BindTo (sym (λ i. record { 0 = eqb-true seen.grant.key.0 key.0 seen.named i })
        ∙ ap (λ (h : Grant). h.key) (same_Some seen.grant g (sym seen.is ∙ ap (λ t. grant_of_region (w.region t)) (sym (under b is)) ∙ grant)))

-- regions that windows leave and come to keep their keys
former-kept : (w : World) (slot : Slot) (x y : Window) (o : Option Binding) → AreKept (put w (Window_of slot) y) (former_updates (former_of w x o))
former-kept w slot x y None = record {}
former-kept w slot x y (Some b) = ((refl, λ e. e, λ g e. e), record {})

former-same : (w : World) (x : Window) (o : Option Binding) → AreKept w (former_updates (former_of w x o))
former-same w x None = record {}
former-same w x (Some b) = ((refl, λ e. e, λ g e. e), record {})

named-kept : (w : World) (q : QueuePair) (key : Key) (slot : Slot) (y : Window) (former : Option PlacedRegion) (z : Bool) → AreKept (put w (Window_of slot) y) (named_updates former (named_if w q key z))
named-kept w q key slot y former false = record {}
named-kept w q key slot y former true = (left (option_map_or (λ f. slot_eq f.slot at) former false), record {})
  where
    at : Slot
    at = slot_of_key q.domain key

    left : (b : Bool) → ((with_window_bound (if b then with_window_unbound (w.region at) else w.region at)).low ≡ (w.region at).low)
        × (is_fast_registered (with_window_bound (if b then with_window_unbound (w.region at) else w.region at)).state ≡ true → is_fast_registered (w.region at).state ≡ true)
        × ((g : Grant) → grant_of_region (with_window_bound (if b then with_window_unbound (w.region at) else w.region at)) ≡ Some g → grant_of_region (w.region at) ≡ Some g)
    left true = (refl, λ e. e, λ g e. e)
    left false = (refl, λ e. e, λ g e. e)

-- what an operation that is not refused makes of ways
pub made-ways : (c : Configuration) (past : Past) (w : World) (q : QueuePair) (name : QueueId) (n : Numbered) (op : SendOp) → IsFollowed c past w → IsThere w q → q.queue ≡ name → has_named_slot c q.domain op ≡ true → is_local op ≡ true
    → (done_by c w q n op).refusal ≡ None
    → AgreeOnWays (fast_lows past.low name op) (ways_after past.way (done_by c w q n op).marks.granted (way_of op)) (put_all (done_by c w q n op).changes w).region (put_all (done_by c w q n op).changes w).window
made-ways c past w q name n (ops.Bind1 window key address count rights) up there own has local none = by (count == 0) fails.1.1.1
  where
    slot : Slot
    slot = window_slot q window

    small : slot.slot < 0x8000
    small = window-small c slot up.limited has

    x : Window
    x = w.window slot

    fails : AllFail (bind1_request_refusals n.drawn (view_named key (named_in c w q key)) address count rights x)
    fails = all-fail (bind1_request_refusals n.drawn (view_named key (named_in c w q key)) address count rights x) none

    made : Bool → Window
    made b = if b then without_binding x else after_binding (drawn_by n) None (named_slot (named_in c w q key)) address count rights x

    changes : Bool → List Update
    changes b = (Window_of slot := made b) ∷ former_updates (former_of w x x.binding) ++ (if b then [] else named_updates (former_of w x x.binding) (named_in c w q key))

    by : (b : Bool) → AllFail (of_window (if b then [] else binding_refusals (view_named key (named_in c w q key)) address count rights))
        → AgreeOnWays past.low (ways_after past.way (if b then None else bind_grant slot (drawn_by n) None (named_in c w q key) address count rights) (BindTo key)) (put_all (changes b) w).region (put_all (changes b) w).window
    by true fails = agree-world past.low past.way w (put_all (changes true) w) (kept-puts w w (changes true)
        ((refl, λ b e. absurd (true≢false (sym (ap is_some e)))), kept-append w (former_updates (former_of w x x.binding)) [] (former-same w x x.binding) (record {})) (same-world w)) up.agree
    by false fails = bound-ways c past w q window (drawn_by n) None key address count rights (former_updates (former_of w x x.binding) ++ named_updates (former_of w x x.binding) (named_in c w q key)) up there small fails
        (kept-append v (former_updates (former_of w x x.binding)) _ (former-kept w slot x (made false) x.binding) (named-kept w q key slot (made false) (former_of w x x.binding) (names_region c q.domain key)))
      where
        v : World
        v = put w (Window_of slot) (made false)
made-ways c past w q name n (ops.Bind2 window key low address count rights) up there own has local none =
    bound-ways c past w q window low (Some q.queue) key address count rights (named_updates None (named_in c w q key)) up there (window-small c slot up.limited has) fails.1.1.1.1
    (named-kept w q key slot (after_binding low (Some q.queue) (named_slot (named_in c w q key)) address count rights (w.window slot)) None (names_region c q.domain key))
  where
    slot : Slot
    slot = window_slot q window

    fails : AllFail (bind2_request_refusals (view_named key (named_in c w q key)) address count rights (w.window slot))
    fails = all-fail (bind2_request_refusals (view_named key (named_in c w q key)) address count rights (w.window slot)) none
made-ways c past w q name n (ops.FastReg region low buffer address count rights pages) up there own has local none =
    subst (λ s. AgreeOnWays (with_at key_slot_eq past.low (region_key_slot s) low) (with_at key_slot_eq past.way (key_slot_of made) FastRegistration) (with_at slot_eq w.region slot x) w.window)
    (ap (λ d. record { domain = d; slot = region }) there.domain ∙ ap (λ k. slot_beside k region) own)
    (subst (λ k. AgreeOnWays (with_at key_slot_eq past.low (region_key_slot slot) low) (with_at key_slot_eq past.way k FastRegistration) (with_at slot_eq w.region slot x) w.window) (sym (at-region made slot low refl refl))
    (region-granted past.low past.way w.region w.window slot x low FastRegistration up.agree (region-small c slot up.limited has) (λ t. none-granted w slot t up.bound free) refl (λ e. refl)))
  where
    slot : Slot
    slot = region_slot q region

    made : Grant
    made = grant_of_fast_registration slot low buffer address count rights pages

    x : Region
    x = after_fast_registration slot low buffer address count rights pages (w.region slot)

    free : grant_of_region (w.region slot) ≡ None
    free = free-none (w.region slot).state (all-fail (fast_request_refusals slot buffer (buffer_length c q.domain.adapter buffer) address count rights pages (w.region slot)) none).0
made-ways c past w q name n (ops.LocalInv key) up there own has local none =
    agree-world past.low past.way w (put_all (ending_changes c w gone) w) (kept-puts w w (ending_changes c w gone) (changes-kept c w (Some gone)) (same-world w)) up.agree
  where
    gone : Invalidation
    gone = record { queue = q.queue; domain = q.domain; key = key }
made-ways c past w q name n op up there own has local none = absurd (true≢false (sym local))
