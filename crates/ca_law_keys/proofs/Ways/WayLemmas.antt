-- What keeps the agreement on ways: marks that grant nothing, and changes of windows and regions that leave bindings and
-- grants, or end them. For proofs only.
use Rattle.std.proofs.Common.{◌≡◌, ℕ, ◌<◌, Bool, true, false, if◌then◌else◌, List, [], ◌∷◌, ◌++◌, Option, None, Some, is_some, refl, sym, ap, ap₂, subst, ◌∙◌, true≢false}
use Rattle.std.specs.Option.{option_map_or}
use Rattle.ca_law_keys.proofs.Keys.SlotLemmas.{region-kind, region-slots, window-kind, window-slots}
use Rattle.ca_law_keys.specs.InForce.{is_window_slot, slot_at}
use Rattle.ca_law_keys.proofs.Posts.PostFrame.{IsNoRequest}
use Rattle.ca_law_endings.proofs.Footprint.{AreOutside, AreUnheard, Frame, Kind, MarkKind, kind_of, kind_of_mark}
use Rattle.ca_law_keys.specs.Ways.{AgreeOnWays, WaysAgree}
use Rattle.ca_base.specs.Configuration.{Configuration}
use Rattle.ca_base.specs.Sight.{Invalidation}
use Rattle.ca_base.specs.declared.request.SendOp.{SendOp}
use Rattle.ca_base.specs.declared.request.SendOp.TheVariants as ops
use Rattle.ca_base.specs.objects.Region.{Region, RegionState, NoRegion, Free, Registered, FastRegistered, after_region_invalidation, grant_in_state, grant_of_region, is_fast_registered, state_after_invalidation, with_window_unbound}
use Rattle.ca_base.specs.objects.Slices.{names_region, names_window, slot_of_key}
use Rattle.ca_base.specs.objects.Window.{Binding, Window, without_binding}
use Rattle.ca_keys.specs.Equal.{slot_eq}
use Rattle.ca_keys.specs.Memory.{memory_after}
use Rattle.ca_keys.specs.Numbers.{low_of}
use Rattle.ca_keys.specs.declared.grant.Grant.{Grant}
use Rattle.ca_keys.specs.declared.names.QueueId.{QueueId}
use Rattle.ca_keys.specs.declared.names.Slot.{Slot}
use Rattle.ca_law_world.proofs.Sound.SettledLemmas.{slot-path, slot-refl}
use Rattle.ca_law_world.specs.Bindings.{is_bound_in}
use Rattle.ca_model.specs.Past.{FastRegistration, BindTo, KeySlot, Past, Way, after_mark, after_marks, at_begin, at_end, key_slot_eq, low_at_end, operation_performed, region_key_slot, slot_beside, window_key_slot, with_at}
use Rattle.ca_model.specs.declared.answer.Answer.{Answer}
use Rattle.ca_model.specs.declared.answer.Answer.TheVariants as answers
use Rattle.ca_model.specs.declared.event.Event.{Event}
use Rattle.ca_model.specs.declared.event.Event.TheVariants as events
use Rattle.ca_model.specs.declared.mark.Mark.{Mark}
use Rattle.ca_model.specs.declared.mark.Mark.TheVariants as marks
use Rattle.ca_model.specs.declared.verb.Verb.{Verb}
use Rattle.ca_model.specs.declared.verb.Verb.TheVariants as verbs
use Rattle.ca_model.specs.machine.Plan.{Update, ◌:=◌, Write, put_all, write_all}
use Rattle.ca_model.specs.machine.Row.{region_under}
use Rattle.ca_model.specs.machine.Seen.{ending_changes}
use Rattle.ca_model.specs.machine.World.{World, Name, Region_of, Window_of, Thing, put}

-- ---- what it reads and hears

abbrev pub reads : Kind → Bool
reads Kind.OfRegion = true
reads Kind.OfWindow = true
reads k = false

abbrev pub hears : MarkKind → Bool
hears MarkKind.Answered = true
hears MarkKind.Grants = true
hears k = false

-- ---- the past

-- two pasts that say the same of ways, and are of one event
pub record SameWays (p r : Past) : Type 0 where
  pub low : r.low ≡ p.low
  pub way : r.way ≡ p.way
  pub event : r.at_hand.event ≡ p.at_hand.event
  pub answered : r.at_hand.answered ≡ p.at_hand.answered

one-same : (m : Mark) → hears (kind_of_mark m) ≡ false → (p r : Past) → SameWays p r → SameWays p (after_mark m r)
one-same (marks.Verb by verb answer) un p r same = absurd (true≢false un)
one-same (marks.Granted g) un p r same = absurd (true≢false un)
one-same (marks.Lost target None) un p r same = record { low = same.low; way = same.way; event = same.event; answered = same.answered }
one-same m un p r same = record { low = same.low; way = same.way; event = same.event; answered = same.answered }

more-same : (ms : List Mark) → AreUnheard hears ms → (p r : Past) → SameWays p r → SameWays p (after_marks ms r)
more-same [] none p r same = same
more-same (m ∷ ms) none p r same = more-same ms none.1 p (after_mark m r) (one-same m none.0 p r same)

pub same-ways : (ms : List Mark) → AreUnheard hears ms → (p : Past) → SameWays p (after_marks ms p)
same-ways ms none p = more-same ms none p p (record { low = refl; way = refl; event = refl; answered = refl })

-- the low bytes, as an event ends that is no turn of a requester
pub low-end : (p r : Past) (event : Event) → IsNoRequest event → r.at_hand.event ≡ event → p.at_hand.event ≡ event → SameWays p r → low_at_end r ≡ low_at_end p
low-end p r event none is was same = ap (at r) is ∙ by event none ∙ sym (ap (at p) was)
  where
    registered : (KeySlot → ℕ) → Verb → Answer → KeySlot → ℕ
    registered lows (verbs.RegMr slot buffer offset length rights) (answers.Key key) = with_at key_slot_eq lows (region_key_slot slot) (low_of key)
    registered lows verb answer = lows

    fast_registered : (KeySlot → ℕ) → QueueId → SendOp → KeySlot → ℕ
    fast_registered lows queue (ops.FastReg region low buffer address length rights pages) = with_at key_slot_eq lows (region_key_slot (slot_beside queue region)) low
    fast_registered lows queue op = lows

    at : Past → Event → KeySlot → ℕ
    at past (events.Verb consumer verb) = option_map_or (λ a. registered past.low a.verb a.answer) past.at_hand.answered past.low
    at past (events.Request queue lot) = option_map_or (λ p. fast_registered past.low queue p.request.op) (operation_performed past) past.low
    at past event = past.low

    by : (event : Event) → IsNoRequest event → at r event ≡ at p event
    by (events.Request queue lot) none = absurd none
    by (events.Verb consumer verb) none = ap₂ (λ l o. option_map_or (λ a. registered l a.verb a.answer) o l) same.low same.answered
    by (events.Deliver queue index) none = same.low
    by (events.Respond queue lot) none = same.low
    by (events.Timeout queue hasten) none = same.low
    by (events.RnrWake queue) none = same.low

-- ---- the world

-- a world whose windows are bound, and whose regions are granted, as those of another, or no more
pub record KeepsWays (w v : World) : Type 0 where
  pub low : (s : Slot) → (v.region s).low ≡ (w.region s).low
  pub fast : (s : Slot) → is_fast_registered (v.region s).state ≡ true → is_fast_registered (w.region s).state ≡ true
  pub grant : (s : Slot) (g : Grant) → grant_of_region (v.region s) ≡ Some g → grant_of_region (w.region s) ≡ Some g
  pub slot : (s : Slot) → (v.window s).slot ≡ (w.window s).slot
  pub binding : (s : Slot) (b : Binding) → (v.window s).binding ≡ Some b → (w.window s).binding ≡ Some b

pub same-world : (w : World) → KeepsWays w w
same-world w = record { low = λ s. refl; fast = λ s e. e; grant = λ s g e. e; slot = λ s. refl; binding = λ s b e. e }

-- a change that leaves them so
abbrev pub IsKept : World → (n : Name) → Thing n → Type 0
IsKept w (Region_of s) x = (x.low ≡ (w.region s).low) × (is_fast_registered x.state ≡ true → is_fast_registered (w.region s).state ≡ true)
    × ((g : Grant) → grant_of_region x ≡ Some g → grant_of_region (w.region s) ≡ Some g)
IsKept w (Window_of s) x = (x.slot ≡ (w.window s).slot) × ((b : Binding) → x.binding ≡ Some b → (w.window s).binding ≡ Some b)
IsKept w n x = Unit {0}

abbrev pub AreKept : World → List Update → Type 0
AreKept w [] = Unit {0}
AreKept w (x ∷ xs) = IsKept w x.name x.thing × AreKept w xs

kept-put : (w v : World) (n : Name) (x : Thing n) → IsKept w n x → KeepsWays w v → KeepsWays w (put v n x)
kept-put w v (Region_of s) x kept keeps = record {
  low = λ t. low t (slot_eq s t) refl;
  fast = λ t. fast t (slot_eq s t) refl;
  grant = λ t. grant t (slot_eq s t) refl;
  slot = keeps.slot;
  binding = keeps.binding;
}
  where
    low : (t : Slot) (b : Bool) → slot_eq s t ≡ b → (if b then x else v.region t).low ≡ (w.region t).low
    low t true e = kept.0 ∙ ap (λ u. (w.region u).low) (slot-path s t e)
    low t false e = keeps.low t

    fast : (t : Slot) (b : Bool) → slot_eq s t ≡ b → is_fast_registered (if b then x else v.region t).state ≡ true → is_fast_registered (w.region t).state ≡ true
    fast t true e is = subst (λ u. is_fast_registered (w.region u).state ≡ true) (slot-path s t e) (kept.1 is)
    fast t false e is = keeps.fast t is

    grant : (t : Slot) (b : Bool) → slot_eq s t ≡ b → (g : Grant) → grant_of_region (if b then x else v.region t) ≡ Some g → grant_of_region (w.region t) ≡ Some g
    grant t true e g is = subst (λ u. grant_of_region (w.region u) ≡ Some g) (slot-path s t e) (kept.2 g is)
    grant t false e g is = keeps.grant t g is
kept-put w v (Window_of s) x kept keeps = record {
  low = keeps.low;
  fast = keeps.fast;
  grant = keeps.grant;
  slot = λ t. slot t (slot_eq s t) refl;
  binding = λ t. binding t (slot_eq s t) refl;
}
  where
    slot : (t : Slot) (b : Bool) → slot_eq s t ≡ b → (if b then x else v.window t).slot ≡ (w.window t).slot
    slot t true e = kept.0 ∙ ap (λ u. (w.window u).slot) (slot-path s t e)
    slot t false e = keeps.slot t

    binding : (t : Slot) (b : Bool) → slot_eq s t ≡ b → (o : Binding) → (if b then x else v.window t).binding ≡ Some o → (w.window t).binding ≡ Some o
    binding t true e o is = subst (λ u. (w.window u).binding ≡ Some o) (slot-path s t e) (kept.1 o is)
    binding t false e o is = keeps.binding t o is
kept-put w v n x kept keeps = record { low = keeps.low; fast = keeps.fast; grant = keeps.grant; slot = keeps.slot; binding = keeps.binding }

pub kept-puts : (w v : World) (us : List Update) → AreKept w us → KeepsWays w v → KeepsWays w (put_all us v)
kept-puts w v [] kept keeps = keeps
kept-puts w v (u ∷ us) kept keeps = kept-puts w (put v u.name u.thing) us kept.1 (kept-put w v u.name u.thing kept.0 keeps)

pub kept-writes : (w : World) (ws : List Write) (v : World) → KeepsWays w v → KeepsWays w (write_all ws v)
kept-writes w [] v keeps = keeps
kept-writes w (x ∷ xs) v keeps = kept-writes w xs (record v { byte = memory_after v.byte x.runs x.bytes })
    (record { low = keeps.low; fast = keeps.fast; grant = keeps.grant; slot = keeps.slot; binding = keeps.binding })

pub kept-append : (w : World) (us vs : List Update) → AreKept w us → AreKept w vs → AreKept w (us ++ vs)
kept-append w [] vs one other = other
kept-append w (u ∷ us) vs one other = (one.0, kept-append w us vs one.1 other)

-- changes of no region and of no window
pub outside-kept : (w : World) (us : List Update) → AreOutside reads us → AreKept w us
outside-kept w [] out = record {}
outside-kept w (u ∷ us) out = (by u.name u.thing out.0, outside-kept w us out.1)
  where
    by : (n : Name) (x : Thing n) → reads (kind_of n) ≡ false → IsKept w n x
    by (Region_of s) x is = absurd (true≢false is)
    by (Window_of s) x is = absurd (true≢false is)
    by n x is = record {}

pub none-some : {A : Type 0} (x : A) (P : Type 0) → None ≡ Some x → P
none-some x P e = absurd (true≢false (sym (ap is_some e)))

-- what the end of a key changes
pub ending-kept : (c : Configuration) (w : World) (i : Invalidation) → AreKept w (ending_changes c w i)
ending-kept c w i = by (names_region c i.domain i.key) (names_window c i.domain i.key)
  where
    slot : Slot
    slot = slot_of_key i.domain i.key

    changes : Option Binding → List Update
    changes None = []
    changes (Some b) =
        (Window_of slot := without_binding (w.window slot))
        ∷ (Region_of (region_under (w.window slot) b) := with_window_unbound (w.region (region_under (w.window slot) b))) ∷ []

    window : (o : Option Binding) → AreKept w (changes o)
    window None = record {}
    window (Some b) = ((refl, λ o e. none-some o _ e), ((refl, λ e. e, λ g e. e), record {}))

    fast : (s : RegionState) → is_fast_registered (state_after_invalidation s) ≡ true → is_fast_registered s ≡ true
    fast NoRegion e = e
    fast (Free pages) e = e
    fast (Registered g) e = e
    fast (FastRegistered pages g) e = refl

    grant : (s : RegionState) (g : Grant) → grant_in_state (state_after_invalidation s) ≡ Some g → grant_in_state s ≡ Some g
    grant NoRegion g e = e
    grant (Free pages) g e = e
    grant (Registered h) g e = e
    grant (FastRegistered pages h) g e = none-some g _ e

    by : (r y : Bool) → AreKept w (if r then (Region_of slot := after_region_invalidation (w.region slot)) ∷ [] else if y then changes (w.window slot).binding else [])
    by true y = ((refl, fast (w.region slot).state, grant (w.region slot).state), record {})
    by false true = window (w.window slot).binding
    by false false = record {}

pub changes-kept : (c : Configuration) (w : World) (i : Option Invalidation) → AreKept w (option_map_or (ending_changes c w) i [])
changes-kept c w None = record {}
changes-kept c w (Some i) = ending-kept c w i

-- ---- both

pub agree-world : (lows : KeySlot → ℕ) (ways : KeySlot → Way) (w v : World) → KeepsWays w v → AgreeOnWays lows ways w.region w.window → AgreeOnWays lows ways v.region v.window
agree-world lows ways w v keeps agree = record {
  low = λ k is. agree.low k is ∙ sym (keeps.low (slot_at k));
  fast = λ k is fast. agree.fast k is (keeps.fast (slot_at k) fast);
  bound = λ k is b bound g grant. agree.bound k is b (keeps.binding (slot_at k) b bound) g
      (subst (λ s. grant_of_region (w.region (record { domain = s.domain; slot = b.region })) ≡ Some g) (keeps.slot (slot_at k)) (keeps.grant (region_under (v.window (slot_at k)) b) g grant));
}

pub agree-fields : (lows low : KeySlot → ℕ) (ways way : KeySlot → Way) (w : World) → low ≡ lows → way ≡ ways → AgreeOnWays lows ways w.region w.window → AgreeOnWays low way w.region w.window
agree-fields lows low ways way w same other agree = subst (λ f. AgreeOnWays f way w.region w.window) (sym same) (subst (λ f. AgreeOnWays lows f w.region w.window) (sym other) agree)

-- what an event that ends so leaves of the agreement
abbrev pub Agrees : Past → Event → World → List Mark → Type 0
Agrees past event v ms = WaysAgree (at_end (after_marks ms (at_begin event past))) v

-- what an event that is no turn of a requester has left so far: its end changes no low byte
abbrev pub Left : Past → World → Type 0
Left p w = IsNoRequest p.at_hand.event × AgreeOnWays (low_at_end p) p.way w.region w.window

-- no change of another kind touches it, and no mark of another kind
pub left-frame : Frame Left reads hears
left-frame = record { put = puts; write = λ p w byte miss r. r; mark = heard }
  where
    puts : (p : Past) (w : World) (n : Name) (x : Thing n) → reads (kind_of n) ≡ false → Left p w → Left p (put w n x)
    puts p w (Region_of s) x miss r = absurd (true≢false miss)
    puts p w (Window_of s) x miss r = absurd (true≢false miss)
    puts p w n x miss r = r

    heard : (p : Past) (w : World) (m : Mark) → hears (kind_of_mark m) ≡ false → Left p w → Left (after_mark m p) w
    heard p w m un r = (
      subst IsNoRequest (sym same.event) r.0,
      agree-fields (low_at_end p) (low_at_end (after_mark m p)) p.way (after_mark m p).way w (low-end p (after_mark m p) p.at_hand.event r.0 same.event refl same) same.way r.1,
    )
      where
        same : SameWays p (after_mark m p)
        same = one-same m un p p (record { low = refl; way = refl; event = refl; answered = refl })

-- a region comes to stand for a grant
pub region-granted : (lows : KeySlot → ℕ) (ways : KeySlot → Way) (region : Slot → Region) (window : Slot → Window) (s : Slot) (x : Region) (low : ℕ) (way : Way) → AgreeOnWays lows ways region window → s.slot < 0x8000
    → ((t : Slot) → is_bound_in s (window t) ≡ false) → low ≡ x.low → (is_fast_registered x.state ≡ true → way ≡ FastRegistration)
    → AgreeOnWays (with_at key_slot_eq lows (region_key_slot s) low) (with_at key_slot_eq ways (region_key_slot s) way) (with_at slot_eq region s x) window
region-granted lows ways region window s x low way agree small free own fast = record {
  low = λ k is. low-at k is (slot_eq s (slot_at k)) (region-slots s k small is);
  fast = λ k is. fast-at k is (slot_eq s (slot_at k)) (region-slots s k small is);
  bound = λ k is b bound. bound-at k is b bound (key_slot_eq (region_key_slot s) k) refl (slot_eq s (region_under (window (slot_at k)) b)) refl;
}
  where
    low-at : (k : KeySlot) → is_window_slot k ≡ false → (z : Bool) → z ≡ key_slot_eq (region_key_slot s) k → with_at key_slot_eq lows (region_key_slot s) low k ≡ (if z then x else region (slot_at k)).low
    low-at k is true e = ap (λ b. if b then low else lows k) (sym e) ∙ own
    low-at k is false e = ap (λ b. if b then low else lows k) (sym e) ∙ agree.low k is

    fast-at : (k : KeySlot) → is_window_slot k ≡ false → (z : Bool) → z ≡ key_slot_eq (region_key_slot s) k → is_fast_registered (if z then x else region (slot_at k)).state ≡ true
        → with_at key_slot_eq ways (region_key_slot s) way k ≡ FastRegistration
    fast-at k is true e f = ap (λ b. if b then way else ways k) (sym e) ∙ fast f
    fast-at k is false e f = ap (λ b. if b then way else ways k) (sym e) ∙ agree.fast k is f

    turned : (a b : Slot) → slot_eq a b ≡ true → slot_eq b a ≡ true
    turned a b e = subst (λ y. slot_eq y a ≡ true) (slot-path a b e) (slot-refl a)

    bound-at : (k : KeySlot) → is_window_slot k ≡ true → (b : Binding) → (window (slot_at k)).binding ≡ Some b → (y : Bool) → key_slot_eq (region_key_slot s) k ≡ y → (z : Bool) → slot_eq s (region_under (window (slot_at k)) b) ≡ z
        → (g : Grant) → grant_of_region (if z then x else region (region_under (window (slot_at k)) b)) ≡ Some g → (if y then way else ways k) ≡ BindTo g.key
    bound-at k is b bound true e z f g grant = absurd (true≢false (sym is ∙ region-kind s k small e))
    bound-at k is b bound false e true f g grant = absurd (true≢false (sym (turned s (region_under (window (slot_at k)) b) f)
        ∙ ap (λ o. option_map_or (λ b. slot_eq (region_under (window (slot_at k)) b) s) o false) (sym bound) ∙ free (slot_at k)))
    bound-at k is b bound false e false f g grant = agree.bound k is b bound g grant

-- a window comes to be bound
pub window-bound : (lows : KeySlot → ℕ) (ways : KeySlot → Way) (region : Slot → Region) (window : Slot → Window) (s : Slot) (x : Window) (way : Way) → AgreeOnWays lows ways region window → s.slot < 0x8000
    → ((b : Binding) → x.binding ≡ Some b → (g : Grant) → grant_of_region (region (region_under x b)) ≡ Some g → way ≡ BindTo g.key)
    → AgreeOnWays lows (with_at key_slot_eq ways (window_key_slot s) way) region (with_at slot_eq window s x)
window-bound lows ways region window s x way agree small own = record {
  low = agree.low;
  fast = λ k is f. fast-at k is f (key_slot_eq (window_key_slot s) k) refl;
  bound = λ k is. bound-at k is (slot_eq s (slot_at k)) (window-slots s k small is);
}
  where
    fast-at : (k : KeySlot) → is_window_slot k ≡ false → is_fast_registered (region (slot_at k)).state ≡ true → (y : Bool) → key_slot_eq (window_key_slot s) k ≡ y → (if y then way else ways k) ≡ FastRegistration
    fast-at k is f true e = absurd (true≢false (sym (window-kind s k small e) ∙ is))
    fast-at k is f false e = agree.fast k is f

    bound-at : (k : KeySlot) → is_window_slot k ≡ true → (z : Bool) → z ≡ key_slot_eq (window_key_slot s) k → (b : Binding) → (if z then x else window (slot_at k)).binding ≡ Some b
        → (g : Grant) → grant_of_region (region (region_under (if z then x else window (slot_at k)) b)) ≡ Some g → with_at key_slot_eq ways (window_key_slot s) way k ≡ BindTo g.key
    bound-at k is true e b bound g grant = ap (λ y. if y then way else ways k) (sym e) ∙ own b bound g grant
    bound-at k is false e b bound g grant = ap (λ y. if y then way else ways k) (sym e) ∙ agree.bound k is b bound g grant
