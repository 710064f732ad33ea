-- What a bind makes of the parts in hand is what it comes to in their small world. For proofs only.
use Rattle.std.proofs.Common.{◌≡◌, ◌∙◌, refl, sym, ap, ℕ, ◌==◌, Bool, true, false, not, if◌then◌else◌, List, [], ◌∷◌, ◌++◌, Option, None, Some, IfSome, is_none, true≢false}
use Rattle.std.proofs.Math.Path.{fun_ext}
use Rattle.std.specs.Option.{option_and_then, option_map, option_map_or}
use Rattle.ca_adapter_turns.specs.ca_adapter_acts.Binders.{changed_by}
use Rattle.ca_adapter_local.specs.Local.{local_end}
use Rattle.ca_adapter_local.specs.Parts.{has_region, has_window, region_at}
use Rattle.ca_adapter_local.specs.Site.{after_bind, apart_from, refusal_over, key_of, slot_named, window_of}
use Rattle.ca_adapter_local.specs.declared.bind.Site.{Site}
use Rattle.ca_base.specs.Configuration.{Configuration}
use Rattle.ca_base.specs.declared.refusals.OpRefusal.TheVariants as refusals
use Rattle.ca_base.specs.declared.refusals.WindowError.{WindowError}
use Rattle.ca_base.specs.declared.refusals.WindowError.TheVariants.{Empty, NoBindRight, NoWindow, OutsideRegion, RegionNotValid, RightsNeedLocalWrite, StillBound, WrongType}
use Rattle.ca_base.specs.declared.region_view.RegionView.{RegionView}
use Rattle.ca_base.specs.declared.request.SendOp.{SendOp}
use Rattle.ca_base.specs.declared.request.SendOp.TheVariants as ops
use Rattle.ca_base.specs.objects.LocalRequest.{bind1_request_refusals, bind2_request_refusals, of_window, view_by_key}
use Rattle.ca_base.specs.objects.QueuePair.{QueuePair}
use Rattle.ca_base.specs.objects.Region.{Region, vacant_region, with_window_bound, with_window_unbound}
use Rattle.ca_base.specs.objects.Slices.{names_region, slot_of_key}
use Rattle.ca_base.specs.objects.Window.{Binding, Window, binding_refusals, exceeds_region, is_valid_view, is_within}
use Rattle.ca_adapter_parts.specs.HeldView.{Holding, hold, holding, with_region, with_window}
use Rattle.ca_adapter_parts.specs.declared.held.Held.{Held}
use Rattle.ca_adapter_parts.proofs.HoldLemmas as holds
use Rattle.ca_adapter_reach.specs.Changed.{put_region, put_window}
use Rattle.ca_adapter_reach.proofs.GrantLemmas.{region_put}
use Rattle.ca_adapter_reach.specs.Laws.{has-with}
use Rattle.ca_adapter_reach.specs.Seen.{region_in, slot_under, window_in}
use Rattle.ca_adapter_reach.specs.declared.reached.Reached.{Reached}
use Rattle.ca_keys.specs.declared.key.Key.{Key}
use Rattle.ca_keys.specs.declared.names.QueueId.{QueueId}
use Rattle.ca_keys.specs.declared.names.Slot.{Slot}
use Rattle.ca_keys.specs.declared.rights.Rights.{Rights}
use Rattle.ca_keys.specs.Equal.{slot_eq}
use Rattle.ca_keys.specs.Refusals.{first_of}
use Rattle.ca_localops.specs.Binds.{is_bound_in_named, named_after_bind, region_freed, window_after_bind}
use Rattle.ca_localops.specs.Requests.{IsBind, request_of}
use Rattle.ca_localops.specs.declared.request.BindRequest.{BindRequest}
use Rattle.ca_model.proofs.ThingLemmas.{slot-path}
use Rattle.ca_model.specs.Past.{with_at}
use Rattle.ca_model.specs.machine.LocalOperations.{PlacedRegion, former_updates, named_updates, view_named, window_slot}
use Rattle.ca_model.specs.machine.Plan.{Update, ◌:=◌}
use Rattle.ca_model.specs.machine.World.{Region_of, Window_of}
use Rattle.ca_adapter_turns.specs.ca_adapter_reach_laws.Ties.{with_reached}

seen-region : (h : Held) (s : Slot) → region_in h.reached s ≡ (holding h).world.region s
unfolding holding
seen-region h s = refl

-- what is put twice under a name stands there as it was put last
module _ {A : Type 0} (f : Slot → A) (s : Slot) (a b : A) where
  put-twice : with_at slot_eq (with_at slot_eq f s a) s b ≡ with_at slot_eq f s b
  put-twice = fun_ext (λ m. by m (slot_eq s m))
    where
      by : (m : Slot) (e : Bool) → (if e then b else if e then a else f m) ≡ (if e then b else f m)
      by m true = refl
      by m false = refl

  -- and what is put between under another name stays
  put-apart : (t : Slot) (c : A) → slot_eq s t ≡ false
      → with_at slot_eq (with_at slot_eq (with_at slot_eq f s a) t c) s b ≡ with_at slot_eq (with_at slot_eq f s b) t c
  put-apart t c apart = fun_ext (λ m. by m (slot_eq s m) refl (slot_eq t m) refl)
    where
      by : (m : Slot) (e : Bool) → slot_eq s m ≡ e → (g : Bool) → slot_eq t m ≡ g
          → (if e then b else if g then c else if e then a else f m) ≡ (if g then c else if e then b else f m)
      by m true se true te = absurd (true≢false (sym se ∙ ap (slot_eq s) (sym (slot-path t m te)) ∙ apart))
      by m true se false te = refl
      by m false se true te = refl
      by m false se false te = refl

-- another region
pub put-one : (h : Held) (s : Slot) (v : Region) → has_region h.reached s ≡ true → holding (with_reached h (put_region h.reached s v)) ≡ hold (holding h) (Region_of s) v
unfolding holding with_region
put-one h s v there = holds.put_region h s v there

-- a window with another value, and a region
module _ (h : Held) (ws : Slot) (x : Window) (has : has_window h.reached ws ≡ true) where
  pub bound-alone : holding (with_reached h (put_window h.reached ws x)) ≡ hold (holding h) (Window_of ws) x
  unfolding holding with_window
  bound-alone = holds.put_window h ws x has

  pub bound-with : (s : Slot) (v : Region) → has_region h.reached s ≡ true
      → holding (with_reached h (put_region (put_window h.reached ws x) s v)) ≡ hold (hold (holding h) (Window_of ws) x) (Region_of s) v
  unfolding holding with_window with_region
  bound-with s v there = holds.put_region (with_window h ws x) s v there ∙ ap (λ g. hold g (Region_of s) v) (holds.put_window h ws x has)

-- the same where the window leaves a region
module _ (h : Held) (ws : Slot) (x : Window) (has : has_window h.reached ws ≡ true) (f : Slot) (u : Region) (there : has_region h.reached f ≡ true) where
  abbrev out : Held
  out = with_reached h (put_region h.reached f vacant_region)

  out-is : holding out ≡ hold (holding h) (Region_of f) vacant_region
  out-is = put-one h f vacant_region there

  still : (s : Slot) → has_region h.reached s ≡ true → has_region (put_region h.reached f vacant_region) s ≡ true
  still s here = has-with slot_eq slot-path h.reached.regions.things f s vacant_region there ∙ here

  pub moved-alone : holding (with_reached h (put_region (put_window (put_region h.reached f vacant_region) ws x) f u))
      ≡ hold (hold (holding h) (Window_of ws) x) (Region_of f) u
  moved-alone = bound-with out ws x has f u (still f there)
      ∙ ap (λ g. hold (hold g (Window_of ws) x) (Region_of f) u) out-is
      ∙ ap (λ (g : Slot → Region). record (holding h) { world = record (hold (holding h) (Window_of ws) x).world { region = g } })
      (put-twice (holding h).world.region f vacant_region u)

  pub moved-with : (s : Slot) (v : Region) → has_region h.reached s ≡ true → slot_eq f s ≡ false
      → holding (with_reached h (put_region (put_region (put_window (put_region h.reached f vacant_region) ws x) s v) f u))
      ≡ hold (hold (hold (holding h) (Window_of ws) x) (Region_of f) u) (Region_of s) v
  moved-with s v here apart = back
      ∙ ap (λ g. hold g (Region_of f) u) (bound-with out ws x has s v (still s here))
      ∙ ap (λ g. hold (hold (hold g (Window_of ws) x) (Region_of s) v) (Region_of f) u) out-is
      ∙ ap (λ (g : Slot → Region). record (holding h) { world = record (hold (holding h) (Window_of ws) x).world { region = g } })
      (put-apart (holding h).world.region f vacant_region u s v apart)
    where
      mid : Held
      mid = with_reached h (put_region (put_window (put_region h.reached f vacant_region) ws x) s v)

      back : holding (with_reached mid (put_region mid.reached f u)) ≡ hold (holding mid) (Region_of f) u
      back = put-one mid f u (has-with slot_eq slot-path (put_region h.reached f vacant_region).regions.things s f v (still s here) ∙ still f there)

-- what is seen of the named region is the same in either words
views-same : (r : Reached) (key : Key) (s : Slot) (t : Bool)
    → option_and_then (view_by_key key) (region_at r (if t then Some s else None))
    ≡ view_named key (if t then Some (record { slot = s; region = region_in r s }) else None)
views-same r key s true = refl
views-same r key s false = refl

no-first : {A : Type 0} (a : A) → Some a ≡ None → ⊥
no-first a is = cc

-- a bind of a type 1 window that names no region asks for no bytes
pub no-bytes : (drawn : Option ℕ) (address count : ℕ) (rights : Rights) (x : Window)
    → first_of (bind1_request_refusals drawn None address count rights x) ≡ None → (count == 0) ≡ true
no-bytes drawn address count rights x accepted = by (is_none drawn) (x.kind == 0) (not (x.kind == 1)) (count == 0) accepted
  where
    rest : Bool → List (Bool × WindowError)
    rest z = if z then [] else binding_refusals None address count rights

    by : (d k l z : Bool) → first_of ((d, refusals.Window WrongType) ∷ of_window ((k, NoWindow) ∷ (l, WrongType) ∷ rest z)) ≡ None → z ≡ true
    by d k l true accepted = refl
    by true k l false accepted = absurd (no-first (refusals.Window WrongType) accepted)
    by false true l false accepted = absurd (no-first (refusals.Window NoWindow) accepted)
    by false false true false accepted = absurd (no-first (refusals.Window WrongType) accepted)
    by false false false false accepted = absurd (no-first (refusals.Window RegionNotValid) accepted)

-- a bind of a type 2 window that is not refused: the window is bound nowhere, some bytes are asked for, of a region
pub record IsFree (x : Window) (view : Option RegionView) (count : ℕ) : Type 0 where
  pub unbound : is_none x.binding ≡ true
  pub some : (count == 0) ≡ false
  pub valid : is_valid_view view ≡ true

pub free : (view : Option RegionView) (address count : ℕ) (rights : Rights) (x : Window)
    → first_of (bind2_request_refusals view address count rights x) ≡ None → IsFree x view count
free view address count rights x accepted =
    by (x.kind == 0) (not (x.kind == 2)) (is_none x.binding) refl (count == 0) refl (is_valid_view view) refl accepted
  where
    after : List (Bool × WindowError)
    after = (not (option_map_or (λ v. v.rights.window_bind) view false), NoBindRight)
        ∷ (option_map_or (exceeds_region rights) view true, RightsNeedLocalWrite)
        ∷ (not (option_map_or (is_within address count) view false), OutsideRegion) ∷ []

    by : (k l : Bool) (b : Bool) → is_none x.binding ≡ b → (z : Bool) → (count == 0) ≡ z → (v : Bool) → is_valid_view view ≡ v
        → first_of (of_window ((k, NoWindow) ∷ (l, WrongType) ∷ (not b, StillBound) ∷ (z, Empty) ∷ (not v, RegionNotValid) ∷ after)) ≡ None → IsFree x view count
    by true l b eb z ez v ev accepted = absurd (no-first (refusals.Window NoWindow) accepted)
    by false true b eb z ez v ev accepted = absurd (no-first (refusals.Window WrongType) accepted)
    by false false false eb z ez v ev accepted = absurd (no-first (refusals.Window StillBound) accepted)
    by false false true eb true ez v ev accepted = absurd (no-first (refusals.Window Empty) accepted)
    by false false true eb false ez false ev accepted = absurd (no-first (refusals.Window RegionNotValid) accepted)
    by false false true eb false ez true ev accepted = record { unbound = eb; some = ez; valid = ev }

-- a bind is refused for the same reason in either words
pub refusal-same : (c : Configuration) (h : Held) (q : QueuePair) (drawn : Option ℕ) (op : SendOp) → IsBind op
    → refusal_over (request_of op drawn q.queue) (window_in h.reached (window_slot q (window_of op))) (region_at h.reached (slot_named c q.domain (key_of op)))
    ≡ (local_end c (holding h).world q drawn op).refusal
unfolding holding
refusal-same c h q drawn (ops.Bind1 window key address count rights) is =
    ap (λ v. first_of (bind1_request_refusals drawn v address count rights (window_in h.reached (window_slot q window))))
    (views-same h.reached key (slot_of_key q.domain key) (names_region c q.domain key))
refusal-same c h q drawn (ops.Bind2 window key low address count rights) is =
    ap (λ v. first_of (bind2_request_refusals v address count rights (window_in h.reached (window_slot q window))))
    (views-same h.reached key (slot_of_key q.domain key) (names_region c q.domain key))
refusal-same c h q drawn op is = absurd is

-- a bind, where its key names a region or none, and its window is bound or not
module _ (h : Held) (ws s : Slot) (drawn : Option ℕ) (queue : QueueId) (b : BindRequest) (has : has_window h.reached ws ≡ true) where
  abbrev pub r : Reached
  r = h.reached

  abbrev pub x : Window
  x = window_in r ws

  abbrev pub bound : Window
  bound = window_after_bind b x

  -- the region that is named, and the one in which the window is bound
  abbrev pub slot_by : Bool → Option Slot
  slot_by t = if t then Some s else None

  abbrev pub named_by : Bool → Option PlacedRegion
  named_by t = if t then Some (record { slot = s; region = region_in r s }) else None

  abbrev pub former_by : Option Binding → Option PlacedRegion
  former_by o = option_map (λ y. record { slot = slot_under x y; region = region_in r (slot_under x y) }) o

  abbrev pub site_by : Bool → Option Binding → Site
  site_by t o = record {
    window = ws;
    former = apart_from (slot_by t) (option_map (slot_under x) o);
    named = slot_by t;
    drawn = drawn;
    queue = queue;
  }

  -- what the bind leaves in hand
  abbrev pub left_by : Bool → Option Binding → Option Slot → Reached
  left_by t o None = after_bind r (site_by t o) (is_bound_in_named (record x { binding = o }) None) b
  left_by t o (Some f) = put_region
      (after_bind (put_region r f vacant_region) (site_by t o) (is_bound_in_named (record x { binding = o }) (Some (region_in r f))) b)
      f (with_window_unbound (region_in r f))

  -- and what it changes
  abbrev pub changes_by : Bool → Option Binding → Bool → List Update
  changes_by t o z = (Window_of ws := bound) ∷ former_updates (former_by o) ++ (if z then [] else named_updates (former_by o) (named_by t))

  -- the named region, as the code counts its windows
  none-more : (was : Bool) (v : Region) → (b.length == 0) ≡ true → named_after_bind b.length was v ≡ region_freed was v
  none-more was v e = ap (λ z. if z then region_freed was v else with_window_bound (region_freed was v)) e

  one-more : (was : Bool) (v : Region) → (b.length == 0) ≡ false → named_after_bind b.length was v ≡ with_window_bound (region_freed was v)
  one-more was v e = ap (λ z. if z then region_freed was v else with_window_bound (region_freed was v)) e

  abbrev pub Is : Bool → Option Binding → Option Slot → Bool → Type 0
  Is t o former z = holding (with_reached h (left_by t o former)) ≡ changed_by (changes_by t o z) (holding h)

  -- the named region is the one that is left
  same-region : (y : Binding) (z : Bool) → (b.length == 0) ≡ z → has_region r s ≡ true → slot_eq (slot_under x y) s ≡ true → Is true (Some y) None z
  same-region y true e here same = bound-with h ws bound has s (named_after_bind b.length true (region_in r s)) here
      ∙ ap (λ v. hold (hold (holding h) (Window_of ws) bound) (Region_of s) v) (none-more true (region_in r s) e)
      ∙ ap (λ f. hold (hold (holding h) (Window_of ws) bound) (Region_of f) (with_window_unbound (region_in r f))) (sym (slot-path (slot_under x y) s same))
  same-region y false e here same = bound-with h ws bound has s (named_after_bind b.length true (region_in r s)) here
      ∙ ap (λ v. hold (hold (holding h) (Window_of ws) bound) (Region_of s) v) (one-more true (region_in r s) e)
      ∙ ap (λ g. record (holding h) { world = record (hold (holding h) (Window_of ws) bound).world { region = g } })
      (sym (put-twice (holding h).world.region s (with_window_unbound (region_in r s)) (with_window_bound (with_window_unbound (region_in r s)))))
      ∙ ap (λ f. hold (hold (hold (holding h) (Window_of ws) bound) (Region_of f) (with_window_unbound (region_in r f))) (Region_of s) (with_window_bound (with_window_unbound (region_in r s))))
      (sym (slot-path (slot_under x y) s same))
      ∙ ap (λ d. hold (hold (hold (holding h) (Window_of ws) bound) (Region_of (slot_under x y)) (with_window_unbound (region_in r (slot_under x y)))) (Region_of s)
      (with_window_bound (if d then with_window_unbound (region_in r s) else region_in r s))) (sym same)

  -- it is another one
  other-region : (y : Binding) (z : Bool) → (b.length == 0) ≡ z → has_region r s ≡ true → has_region r (slot_under x y) ≡ true → slot_eq (slot_under x y) s ≡ false
      → Is true (Some y) (Some (slot_under x y)) z
  unfolding holding
  other-region y z e here there apart = moved-with h ws bound has f u there s (named_after_bind b.length false (region_in (put_region r f vacant_region) s)) here apart
      ∙ ap (λ v. hold between (Region_of s) (named_after_bind b.length false v)) unmoved
      ∙ by z e
    where
      f : Slot
      f = slot_under x y

      u : Region
      u = with_window_unbound (region_in r f)

      between : Holding
      between = hold (hold (holding h) (Window_of ws) bound) (Region_of f) u

      unmoved : region_in (put_region r f vacant_region) s ≡ region_in r s
      unmoved = region_put r f vacant_region there s ∙ ap (λ d. if d then vacant_region else region_in r s) apart

      kept : region_in r s ≡ between.world.region s
      kept = sym (ap (λ d. if d then u else region_in r s) apart)

      by : (z : Bool) → (b.length == 0) ≡ z → hold between (Region_of s) (named_after_bind b.length false (region_in r s)) ≡ changed_by (changes_by true (Some y) z) (holding h)
      by true e = ap (λ v. hold between (Region_of s) v) (none-more false (region_in r s) e) ∙ holds.same_region between s (region_in r s) kept
      by false e = ap (λ v. hold between (Region_of s) v) (one-more false (region_in r s) e)
          ∙ ap (λ d. hold between (Region_of s) (with_window_bound (if d then with_window_unbound (region_in r s) else region_in r s))) (sym apart)

  -- what a bind leaves is what its changes leave; one that names no region asks for no bytes
  pub left-changed : (t : Bool) (o : Option Binding) (z : Bool) → (b.length == 0) ≡ z → (t ≡ false → z ≡ true) → (t ≡ true → has_region r s ≡ true)
      → IfSome o (λ y. has_region r (slot_under x y) ≡ true) → Is t o (site_by t o).former z
  left-changed false None z e empty here there = bound-alone h ws bound has ∙ ap (λ z. changed_by (changes_by false None z) (holding h)) (sym (empty refl))
  left-changed false (Some y) z e empty here there =
      moved-alone h ws bound has (slot_under x y) (with_window_unbound (region_in r (slot_under x y))) there
      ∙ ap (λ z. changed_by (changes_by false (Some y) z) (holding h)) (sym (empty refl))
  left-changed true None true e empty here there = bound-with h ws bound has s (named_after_bind b.length false (region_in r s)) (here refl)
      ∙ ap (λ v. hold (hold (holding h) (Window_of ws) bound) (Region_of s) v) (none-more false (region_in r s) e)
      ∙ holds.same_region (hold (holding h) (Window_of ws) bound) s (region_in r s) (seen-region h s)
  left-changed true None false e empty here there = bound-with h ws bound has s (named_after_bind b.length false (region_in r s)) (here refl)
      ∙ ap (λ v. hold (hold (holding h) (Window_of ws) bound) (Region_of s) v) (one-more false (region_in r s) e)
  left-changed true (Some y) z e empty here there = by (slot_eq (slot_under x y) s) refl
    where
      by : (d : Bool) → slot_eq (slot_under x y) s ≡ d → Is true (Some y) (if d then None else Some (slot_under x y)) z
      by true same = same-region y z e (here refl) same
      by false apart = other-region y z e (here refl) there apart
