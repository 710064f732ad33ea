-- What a local operation that is not refused makes of the grants in force. For proofs only.
use Rattle.std.proofs.Common.{◌≡◌, ℕ, ◌<◌, Bool, true, false, not, ◌==◌, if◌then◌else◌, List, [], ◌∷◌, ◌++◌, Option, None, Some, is_none, refl, sym, ap, subst, true≢false, ◌∙◌}
use Rattle.std.proofs.lemmas.Bool.{not-false}
use Rattle.std.specs.Option.{option_map, option_map_or}
use Rattle.ca_law_keys.proofs.Keys.ChangeLemmas.{region-small, window-small, grants-same}
use Rattle.ca_law_keys.proofs.Keys.EndLemmas.{region-granted, window-ended, window-granted, without_window}
use Rattle.ca_law_keys.proofs.Keys.KeyFrame.{Ends, IsUp, own-adapter}
use Rattle.ca_law_keys.proofs.Keys.EndLemmas.{key-ended}
use Rattle.ca_law_endings.proofs.Operations.{done_by}
use Rattle.ca_law_keys.proofs.Keys.SlotLemmas.{at-region, at-window, same-agrees, without_key}
use Rattle.ca_law_keys.proofs.Keys.ToldLemmas.{Leaves, leaves-append, leaves-granted, leaves-revoked}
use Rattle.ca_law_keys.specs.InForce.{AgreeOnGrants, grant_over_regions}
use Rattle.ca_base.specs.Configuration.{Configuration}
use Rattle.ca_base.specs.Grants.{grant_of_bind, grant_of_fast_registration, remote_rights}
use Rattle.ca_base.specs.declared.request.SendOp.{SendOp}
use Rattle.ca_base.specs.declared.request.SendOp.TheVariants as ops
use Rattle.ca_base.specs.objects.LocalRequest.{LocalMarks, bind1_request_refusals, bind2_request_refusals, fast_request_refusals, of_window}
use Rattle.ca_base.specs.objects.QueuePair.{QueuePair}
use Rattle.ca_base.specs.objects.Region.{Region, RegionState, NoRegion, Free, Registered, FastRegistered, after_fast_registration, free_pages, grant_in_state, grant_of_region, with_window_bound, with_window_unbound}
use Rattle.ca_base.specs.objects.Slices.{buffer_length, names_region, slot_of_key}
use Rattle.ca_base.specs.objects.Window.{Binding, Window, after_binding, binding_refusals, bound_key, grant_of_binding, is_within, key_of_window, without_binding}
use Rattle.ca_keys.specs.Equal.{slot_eq}
use Rattle.ca_keys.specs.Memory.{ByteMap}
use Rattle.ca_keys.specs.Refusals.{AllFail}
use Rattle.ca_keys.specs.declared.grant.Grant.{Grant}
use Rattle.ca_keys.specs.declared.key.Key.{Key}
use Rattle.ca_keys.specs.declared.names.QueueId.{QueueId}
use Rattle.ca_keys.specs.declared.names.Slot.{Slot}
use Rattle.ca_keys.specs.declared.rights.Rights.{Rights}
use Rattle.ca_law_world.proofs.Sound.TurnLemmas.{all-fail}
use Rattle.ca_law_world.proofs.Sound.WorldLemmas.{IsThere}
use Rattle.ca_law_world.proofs.Windows.BindingLemmas.{AreSameGrants}
use Rattle.ca_law_world.proofs.Windows.WindowBindLemmas.{IsInside, named-region, named-within}
use Rattle.ca_law_world.proofs.Windows.WindowWorldLemmas.{unbound-grants}
use Rattle.ca_model.specs.Past.{Past, with_at}
use Rattle.ca_model.specs.declared.mark.Mark.TheVariants as marks
use Rattle.ca_model.specs.machine.LocalOperations.{PlacedRegion, bind1_changes, bind1_marks, bind1_refusal, bind2_changes, bind2_marks, bind2_refusal, bind_grant, drawn_by, fast_changes, fast_marks, fast_refusal, former_updates, local_marks, named_slot, named_updates, region_slot, view_named, window_slot}
use Rattle.ca_model.specs.machine.Numbering.{Numbered}
use Rattle.ca_model.specs.machine.Plan.{Update, ◌:=◌, put_all}
use Rattle.ca_model.specs.machine.Row.{grant_over, region_under}
use Rattle.ca_model.specs.Requests.{is_local}
use Rattle.ca_model.specs.machine.Step.{has_named_slot}
use Rattle.ca_model.specs.machine.World.{Window_of, World}

-- what an operation that is not refused makes of the grants in force
pub record Made (w : World) (q : QueuePair) (g : List Grant) (m : LocalMarks) (cs : List Update) : Type 0 where
  pub grants : List Grant
  pub ends : Ends w cs grants
  pub leaves : (k : ByteMap) → Leaves g k (local_marks q m) grants k

abbrev named_of : World → QueuePair → Key → Bool → Option PlacedRegion
named_of w q key z = if z then Some (record { slot = slot_of_key q.domain key; region = w.region (slot_of_key q.domain key) }) else None

abbrev former_of : World → Window → Option Binding → Option PlacedRegion
former_of w x o = option_map (λ b. record { slot = region_under x b; region = w.region (region_under x b) }) o

-- the window that a bind leaves stands for the grant of the bind
bound-grant : (w : World) (slot at : Slot) (x : Window) (low : ℕ) (queue : Option QueueId) (address count : ℕ) (rights : Rights) (h : Grant) → x.slot ≡ slot
    → record { domain = x.slot.domain; slot = at.slot } ≡ at → grant_of_region (w.region at) ≡ Some h
    → grant_over_regions w.region (after_binding low queue at.slot address count rights x) ≡ Some (grant_of_bind slot low queue h address count rights)
bound-grant w slot at x low queue address count rights h own under is = ap (λ t. grant_over y b (w.region t)) under ∙ ap over is ∙ ap (λ s. Some (grant_of_bind s low queue h address count rights)) own
  where
    b : Binding
    b = record { region = at.slot; queue = queue; address = address; length = count; rights = remote_rights rights }

    y : Window
    y = after_binding low queue at.slot address count rights x

    over : Option Grant → Option Grant
    over None = None
    over (Some g) = Some (grant_of_binding y b g)

-- the mark of a window's former key, where it was bound
former-leaves : (q : QueuePair) (g : List Grant) (slot : Slot) (x : Window) (o : Option Binding) (k : ByteMap) → slot.domain.adapter ≡ q.queue.adapter → x.binding ≡ o
    → Leaves g k (option_map_or (λ key. marks.Revoked q.queue.adapter key ∷ []) (bound_key x) []) (without_window slot x o g) k
former-leaves q g slot x o k own is = subst (λ y. Leaves g k (option_map_or (λ key. marks.Revoked q.queue.adapter key ∷ []) (option_map (λ b. key_of_window x) y) []) (without_window slot x o g) k) (sym is) (by o)
  where
    by : (o : Option Binding) → Leaves g k (option_map_or (λ key. marks.Revoked q.queue.adapter key ∷ []) (option_map (λ b. key_of_window x) o) []) (without_window slot x o g) k
    by None = λ p at. at
    by (Some b) = subst (λ a. Leaves g k (marks.Revoked q.queue.adapter (key_of_window x) ∷ []) (without_key a (key_of_window x) g) k) (sym own) (leaves-revoked g k q.queue.adapter (key_of_window x))

-- regions that windows leave and come to grant what they granted
twice-same : (region : Slot → Region) (from at : Slot) (x y : Region) → grant_of_region x ≡ grant_of_region (region from) → grant_of_region y ≡ grant_of_region (region at)
    → AreSameGrants region (with_at slot_eq (with_at slot_eq region from x) at y)
twice-same region from at x y one other = λ r. unbound-grants (with_at slot_eq region from x) at y (other ∙ sym (unbound-grants region from x one at)) r ∙ unbound-grants region from x one r

left-same : (b : Bool) (r : Region) → grant_of_region (with_window_bound (if b then with_window_unbound r else r)) ≡ grant_of_region r
left-same true r = refl
left-same false r = refl

-- the changes of regions around a bind leave what they grant
former-same : (w : World) (s : Slot) (y x : Window) (o : Option Binding) → AreSameGrants w.region (put_all ((Window_of s := y) ∷ former_updates (former_of w x o) ++ []) w).region
former-same w s y x None = λ r. refl
former-same w s y x (Some b) = unbound-grants w.region (region_under x b) (with_window_unbound (w.region (region_under x b))) refl

named-same : (w : World) (s at : Slot) (y x : Window) (o : Option Binding)
    → AreSameGrants w.region (put_all ((Window_of s := y) ∷ former_updates (former_of w x o) ++ named_updates (former_of w x o) (Some (record { slot = at; region = w.region at }))) w).region
named-same w s at y x None = unbound-grants w.region at (with_window_bound (w.region at)) refl
named-same w s at y x (Some b) = twice-same w.region (region_under x b) at (with_window_unbound (w.region (region_under x b))) _ refl (left-same (slot_eq (region_under x b) at) (w.region at))

former-window : (w : World) (s : Slot) (y x : Window) (o : Option Binding) → (put_all ((Window_of s := y) ∷ former_updates (former_of w x o) ++ []) w).window ≡ with_at slot_eq w.window s y
former-window w s y x None = refl
former-window w s y x (Some b) = refl

named-window : (w : World) (s at : Slot) (y x : Window) (o : Option Binding)
    → (put_all ((Window_of s := y) ∷ former_updates (former_of w x o) ++ named_updates (former_of w x o) (Some (record { slot = at; region = w.region at }))) w).window ≡ with_at slot_eq w.window s y
named-window w s at y x None = refl
named-window w s at y x (Some b) = refl

former-bytes : (w : World) (s : Slot) (y x : Window) (o : Option Binding) → (put_all ((Window_of s := y) ∷ former_updates (former_of w x o) ++ []) w).byte ≡ w.byte
former-bytes w s y x None = refl
former-bytes w s y x (Some b) = refl

named-bytes : (w : World) (s at : Slot) (y x : Window) (o : Option Binding)
    → (put_all ((Window_of s := y) ∷ former_updates (former_of w x o) ++ named_updates (former_of w x o) (Some (record { slot = at; region = w.region at }))) w).byte ≡ w.byte
named-bytes w s at y x None = refl
named-bytes w s at y x (Some b) = refl

-- a bind of a type 1 window
bind1-made : (c : Configuration) (past : Past) (w : World) (q : QueuePair) (n : Numbered) (window : ℕ) (key : Key) (address count : ℕ) (rights : Rights) (z : Bool) (o : Option Binding) → IsUp c past w → IsThere w q
    → (window_slot q window).slot < 0x8000 → names_region c q.domain key ≡ z → (w.window (window_slot q window)).binding ≡ o
    → bind1_refusal n key (named_of w q key z) address count rights (w.window (window_slot q window)) ≡ None
    → Made w q past.grants (bind1_marks q n window (named_of w q key z) address count rights (w.window (window_slot q window)))
    (bind1_changes (window_slot q window) (drawn_by n) (w.window (window_slot q window)) (former_of w (w.window (window_slot q window)) o) (named_of w q key z) address count rights)
bind1-made c past w q n window key address count rights z o up there small has was none =
    by (count == 0) (all-fail (bind1_request_refusals n.drawn (view_named key (named_of w q key z)) address count rights x) none).1.1.1
  where
    slot : Slot
    slot = window_slot q window

    x : Window
    x = w.window slot

    g : List Grant
    g = past.grants

    cleared : AgreeOnGrants (without_window slot x o g) w.region (with_at slot_eq w.window slot (without_binding x))
    cleared = window-ended c w g slot (without_binding x) o up.sound up.bound up.agree.keys small was refl

    changed : Bool → Option PlacedRegion → List Update
    changed b named = (Window_of slot := (if b then without_binding x else after_binding (drawn_by n) None (named_slot named) address count rights x))
        ∷ former_updates (former_of w x o) ++ (if b then [] else named_updates (former_of w x o) named)

    told : Bool → Option PlacedRegion → LocalMarks
    told b named = record { revoked = bound_key x; granted = if b then None else bind_grant slot (drawn_by n) None named address count rights }

    gone : (k : ByteMap) → Leaves g k (option_map_or (λ key. marks.Revoked q.queue.adapter key ∷ []) (bound_key x) []) (without_window slot x o g) k
    gone k = former-leaves q g slot x o k (own-adapter w q there) was

    at : Slot
    at = slot_of_key q.domain key

    empty : (named : Option PlacedRegion) → Made w q g (told true named) (changed true named)
    empty named = record {
      grants = without_window slot x o g;
      ends = record {
        keys = subst (λ f. AgreeOnGrants (without_window slot x o g) (put_all (changed true named) w).region f) (sym (former-window w slot (without_binding x) x o))
            (same-agrees (without_window slot x o g) w.region (put_all (changed true named) w).region (with_at slot_eq w.window slot (without_binding x)) (with_at slot_eq w.window slot (without_binding x)) cleared
            (λ l. grants-same w.region (put_all (changed true named) w).region (with_at slot_eq w.window slot (without_binding x)) l (former-same w slot (without_binding x) x o)));
        bytes = former-bytes w slot (without_binding x) x o;
      };
      leaves = λ k. leaves-append g (without_window slot x o g) (without_window slot x o g) k k k (option_map_or (λ key. marks.Revoked q.queue.adapter key ∷ []) (bound_key x) []) [] (gone k) (λ p at. at);
    }

    some : names_region c q.domain key ≡ true → IsInside address count (w.region at) → Made w q g (told false (named_of w q key true)) (changed false (named_of w q key true))
    some has inside = record {
      grants = h ∷ without_window slot x o g;
      ends = record {
        keys = subst (λ f. AgreeOnGrants (h ∷ without_window slot x o g) (put_all (changed false (named_of w q key true)) w).region f) (sym (named-window w slot at y x o))
            (window-granted w (without_window slot x o g) slot (without_binding x) y h (put_all (changed false (named_of w q key true)) w).region cleared small refl
            (bound-grant w slot at x (drawn_by n) None address count rights inside.grant (up.sound.things (Window_of slot)).0 under inside.is)
            (at-window h slot (drawn_by n) refl refl) (named-same w slot at y x o));
        bytes = named-bytes w slot at y x o;
      };
      leaves = λ k. leaves-append g (without_window slot x o g) (h ∷ without_window slot x o g) k k k (option_map_or (λ key. marks.Revoked q.queue.adapter key ∷ []) (bound_key x) []) _ (gone k)
          (subst (λ r. Leaves (without_window slot x o g) k (option_map_or (λ g. marks.Granted g ∷ []) (option_map (λ g. grant_of_bind slot (drawn_by n) None g address count rights) r) []) (h ∷ without_window slot x o g) k)
          (sym inside.is) (leaves-granted (without_window slot x o g) k h));
    }
      where
        h : Grant
        h = grant_of_bind slot (drawn_by n) None inside.grant address count rights

        y : Window
        y = after_binding (drawn_by n) None at.slot address count rights x

        under : record { domain = x.slot.domain; slot = at.slot } ≡ at
        under = λ i. record { domain = (ap (λ (s : Slot). s.domain) (up.sound.things (Window_of slot)).0 ∙ sym (named-region c w q.domain key has).domain) i; slot = at.slot }

    bind : (z : Bool) → names_region c q.domain key ≡ z → AllFail (of_window (binding_refusals (view_named key (named_of w q key z)) address count rights))
        → Made w q g (told false (named_of w q key z)) (changed false (named_of w q key z))
    bind false has fails = absurd (true≢false (named-within key None address count (not-false (option_map_or (is_within address count) (view_named key None) false) fails.1.1.1.0)).1)
    bind true has fails = some has (named-within key (named_of w q key true) address count
        (not-false (option_map_or (is_within address count) (view_named key (named_of w q key true)) false) fails.1.1.1.0)).0

    by : (b : Bool) → AllFail (of_window (if b then [] else binding_refusals (view_named key (named_of w q key z)) address count rights))
        → Made w q g (told b (named_of w q key z)) (changed b (named_of w q key z))
    by true fails = empty (named_of w q key z)
    by false fails = bind z has fails

-- a bind of a type 2 window
bind2-made : (c : Configuration) (past : Past) (w : World) (q : QueuePair) (window : ℕ) (key : Key) (low address count : ℕ) (rights : Rights) (z : Bool) → IsUp c past w → IsThere w q
    → (window_slot q window).slot < 0x8000 → names_region c q.domain key ≡ z
    → bind2_refusal key (named_of w q key z) address count rights (w.window (window_slot q window)) ≡ None
    → Made w q past.grants (bind2_marks q window low (named_of w q key z) address count rights)
    (bind2_changes (window_slot q window) low q.queue (w.window (window_slot q window)) (named_of w q key z) address count rights)
bind2-made c past w q window key low address count rights z up there small has none =
    bind z has (free (w.window (window_slot q window)).binding fails.1.1.0) fails.1.1.1.1
  where
    slot : Slot
    slot = window_slot q window

    x : Window
    x = w.window slot

    g : List Grant
    g = past.grants

    fails : AllFail (bind2_request_refusals (view_named key (named_of w q key z)) address count rights x)
    fails = all-fail (bind2_request_refusals (view_named key (named_of w q key z)) address count rights x) none

    free : (o : Option Binding) → not (is_none o) ≡ false → o ≡ None
    free None e = refl
    free (Some b) e = absurd (true≢false e)

    at : Slot
    at = slot_of_key q.domain key

    some : names_region c q.domain key ≡ true → x.binding ≡ None → IsInside address count (w.region at)
        → Made w q g (bind2_marks q window low (named_of w q key true) address count rights) (bind2_changes slot low q.queue x (named_of w q key true) address count rights)
    some has empty inside = record {
      grants = h ∷ g;
      ends = record {
        keys = window-granted w g slot (without_binding x) y h _ (window-ended c w g slot (without_binding x) None up.sound up.bound up.agree.keys small empty refl) small refl
            (bound-grant w slot at x low (Some q.queue) address count rights inside.grant (up.sound.things (Window_of slot)).0 under inside.is)
            (at-window h slot low refl refl) (unbound-grants w.region at (with_window_bound (w.region at)) refl);
        bytes = refl;
      };
      leaves = λ k. subst (λ r. Leaves g k (option_map_or (λ g. marks.Granted g ∷ []) (option_map (λ g. grant_of_bind slot low (Some q.queue) g address count rights) r) []) (h ∷ g) k)
          (sym inside.is) (leaves-granted g k h);
    }
      where
        h : Grant
        h = grant_of_bind slot low (Some q.queue) inside.grant address count rights

        y : Window
        y = after_binding low (Some q.queue) at.slot address count rights x

        under : record { domain = x.slot.domain; slot = at.slot } ≡ at
        under = λ i. record { domain = (ap (λ (s : Slot). s.domain) (up.sound.things (Window_of slot)).0 ∙ sym (named-region c w q.domain key has).domain) i; slot = at.slot }

    bind : (z : Bool) → names_region c q.domain key ≡ z → x.binding ≡ None → AllFail (of_window (binding_refusals (view_named key (named_of w q key z)) address count rights))
        → Made w q g (bind2_marks q window low (named_of w q key z) address count rights) (bind2_changes slot low q.queue x (named_of w q key z) address count rights)
    bind false has empty fails = absurd (true≢false (named-within key None address count (not-false (option_map_or (is_within address count) (view_named key None) false) fails.1.1.1.0)).1)
    bind true has empty fails = some has empty (named-within key (named_of w q key true) address count
        (not-false (option_map_or (is_within address count) (view_named key (named_of w q key true)) false) fails.1.1.1.0)).0

-- a free region stands for no grant
pub free-none : (s : RegionState) → is_none (free_pages s) ≡ false → grant_in_state s ≡ None
free-none NoRegion e = absurd (true≢false e)
free-none (Free pages) e = refl
free-none (Registered g) e = absurd (true≢false e)
free-none (FastRegistered pages g) e = absurd (true≢false e)

fast-made : (c : Configuration) (past : Past) (w : World) (q : QueuePair) (region low buffer address count : ℕ) (rights : Rights) (pages : List ℕ) → IsUp c past w → (region_slot q region).slot < 0x8000
    → fast_refusal c q region buffer address count rights pages (w.region (region_slot q region)) ≡ None
    → Made w q past.grants (fast_marks q region low buffer address count rights pages) (fast_changes q region low buffer address count rights pages (w.region (region_slot q region)))
fast-made c past w q region low buffer address count rights pages up small none = record {
  grants = h ∷ past.grants;
  ends = record {
    keys = region-granted w past.grants slot (after_fast_registration slot low buffer address count rights pages (w.region slot)) h up.bound up.agree.keys small
        (free-none (w.region slot).state (all-fail (fast_request_refusals slot buffer (buffer_length c q.domain.adapter buffer) address count rights pages (w.region slot)) none).0)
        refl (at-region h slot low refl refl);
    bytes = refl;
  };
  leaves = λ k. leaves-granted past.grants k h;
}
  where
    slot : Slot
    slot = region_slot q region

    h : Grant
    h = grant_of_fast_registration slot low buffer address count rights pages

-- what each operation makes
pub operation-made : (c : Configuration) (past : Past) (w : World) (q : QueuePair) (n : Numbered) (op : SendOp) → IsUp c past w → IsThere w q → has_named_slot c q.domain op ≡ true → is_local op ≡ true
    → (done_by c w q n op).refusal ≡ None → Made w q past.grants (done_by c w q n op).marks (done_by c w q n op).changes
operation-made c past w q n (ops.Bind1 window key address count rights) up there has local none =
    bind1-made c past w q n window key address count rights (names_region c q.domain key) (w.window (window_slot q window)).binding up there (window-small c (window_slot q window) up.limited has) refl refl none
operation-made c past w q n (ops.Bind2 window key low address count rights) up there has local none =
    bind2-made c past w q window key low address count rights (names_region c q.domain key) up there (window-small c (window_slot q window) up.limited has) refl none
operation-made c past w q n (ops.FastReg region low buffer address count rights pages) up there has local none =
    fast-made c past w q region low buffer address count rights pages up (region-small c (region_slot q region) up.limited has) none
operation-made c past w q n (ops.LocalInv key) up there has local none = record {
  grants = without_key q.queue.adapter key past.grants;
  ends = key-ended c w past.grants (record { queue = q.queue; domain = q.domain; key = key }) up.sound up.bound up.agree.keys (own-adapter w q there) none;
  leaves = λ k. leaves-revoked past.grants k q.queue.adapter key;
}
operation-made c past w q n op up there has local none = absurd (true≢false (sym local))
