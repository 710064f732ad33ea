-- How plans end in a world in which bound windows are counted: the turns of an engine, and the end of a key.
use Rattle.std.proofs.Common.{◌≡◌, ◌⊎◌, inl, inr, ℕ, ◌+◌, ◌-◌, ◌≤◌, arith, Bool, true, false, List, [], ◌∷◌, ◌++◌, Option, None, Some, IfSome, subst, ◌∙◌, ◌&&◌, not, ap, sym, true≢false, if◌then◌else◌, is_none, refl}
use Rattle.std.proofs.lemmas.Bool.{and_parts, ltb-false, not-false, not-true}
use Rattle.std.specs.Option.{option_map, option_map_or}
use Rattle.ca_keys.specs.declared.grant.Grant.{Grant}
use Rattle.ca_keys.specs.declared.key.Key.{Key}
use Rattle.ca_keys.specs.declared.names.QueueId.{QueueId}
use Rattle.ca_keys.specs.declared.names.Slot.{Slot}
use Rattle.ca_base.specs.declared.refusals.OpRefusal.{OpRefusal}
use Rattle.ca_base.specs.Configuration.{Configuration}
use Rattle.ca_keys.specs.Equal.{queue_eq, slot_eq}
use Rattle.ca_keys.specs.Refusals.{AllFail}
use Rattle.ca_base.specs.declared.denied_ask.DeniedAsk.{DeniedAsk}
use Rattle.ca_base.specs.Sight.{Invalidation}
use Rattle.ca_base.specs.objects.LocalRequest.{of_region, of_window, region_refusal, window_refusal}
use Rattle.ca_base.specs.objects.QueuePair.{QueuePair, QueueSlot, Present, srq_of}
use Rattle.ca_base.specs.objects.Region.{Region, after_region_invalidation, grant_of_region, region_invalidation_refusals, with_window_unbound}
use Rattle.ca_base.specs.objects.SharedReceives.{SrqSlot, after_receive_take}
use Rattle.ca_keys.specs.Numbers.{is_window_key}
use Rattle.ca_base.specs.objects.Slices.{has_slot, is_key_of, names_region, names_window, slot_of_key}
use Rattle.ca_base.specs.objects.Window.{Binding, Window, is_of_other_queue, window_invalidation_refusals, without_binding}
use Rattle.ca_model.specs.Past.{with_at}
use Rattle.ca_model.specs.machine.Around.{Around, srq_updates, updates_of, cq_updates}
use Rattle.ca_model.specs.machine.Expected.{with_window_gone}
use Rattle.ca_model.specs.machine.Plan.{Plan, Look, Update, ◌:=◌, Write, put_all}
use Rattle.ca_model.specs.machine.Row.{Effects, Ending, NotPossible, Does, End_plan, Row, Row_plan, With_bytes, With_invalidation, first_denied_by, region_under, unless_none}
use Rattle.ca_model.specs.machine.World.{World, Name, Domain_of, Region_of, Window_of, Cq_of, Srq_of, Queue_of, Mailbox_of, Byte_at, Thing, put}
use Rattle.ca_law_world.specs.Bindings.{AreBound, IsBoundWorld, is_bound_by, is_bound_in, windows_of, LiesIn}
use Rattle.ca_law_world.proofs.Windows.BindingLemmas.{AreSameGrants, IsUnused, kept-bound, moved-bound, one}
use Rattle.ca_law_world.proofs.Windows.WindowRowLemmas.{RowCounts, windows_left}
use Rattle.ca_law_world.proofs.Sound.SettledLemmas.{queue-path, queue-refl, slot-path}
use Rattle.ca_law_world.proofs.Sound.TurnLemmas.{all-fail}
use Rattle.ca_law_world.proofs.Sound.WorldLemmas.{EndingDoes, EndsIn, ends-bytes, ends-grants, ends-writes}

-- changes that touch no window, no region and no queue pair
abbrev pub IsStillName : Name → Type 0
IsStillName (Window_of s) = ⊥
IsStillName (Region_of s) = ⊥
IsStillName (Queue_of q) = ⊥
IsStillName n = Unit {0}

abbrev pub AreStill : List Update → Type 0
AreStill [] = Unit {0}
AreStill (x ∷ xs) = IsStillName x.name × AreStill xs

-- two worlds with the same windows, regions and queue pairs
pub record SameParts (u v : World) : Type 0 where
  pub window : u.window ≡ v.window
  pub region : u.region ≡ v.region
  pub queue : u.queue ≡ v.queue

pub same-bound : (u v : World) → SameParts u v → IsBoundWorld u → IsBoundWorld v
same-bound u v same bound = subst (λ f. AreBound v.window v.region f) same.queue
    (subst (λ f. AreBound v.window f u.queue) same.region (subst (λ f. AreBound f u.region u.queue) same.window bound))

pub same-put : (u v : World) (n : Name) (t : Thing n) → SameParts u v → SameParts (put u n t) (put v n t)
same-put u v (Window_of s) t same = record { window = ap (λ f. with_at slot_eq f s t) same.window; region = same.region; queue = same.queue }
same-put u v (Region_of s) t same = record { window = same.window; region = ap (λ f. with_at slot_eq f s t) same.region; queue = same.queue }
same-put u v (Queue_of q) t same = record { window = same.window; region = same.region; queue = ap (λ f. with_at queue_eq f q t) same.queue }
same-put u v (Domain_of d) t same = record { window = same.window; region = same.region; queue = same.queue }
same-put u v (Cq_of s) t same = record { window = same.window; region = same.region; queue = same.queue }
same-put u v (Srq_of s) t same = record { window = same.window; region = same.region; queue = same.queue }
same-put u v (Mailbox_of q) t same = record { window = same.window; region = same.region; queue = same.queue }
same-put u v (Byte_at p) t same = record { window = same.window; region = same.region; queue = same.queue }

pub same-puts : (xs : List Update) (u v : World) → SameParts u v → SameParts (put_all xs u) (put_all xs v)
same-puts [] u v same = same
same-puts (x ∷ xs) u v same = same-puts xs (put u x.name x.thing) (put v x.name x.thing) (same-put u v x.name x.thing same)

still-put : (u v : World) (n : Name) (t : Thing n) → IsStillName n → SameParts u v → SameParts u (put v n t)
still-put u v (Window_of s) t still same = absurd still
still-put u v (Region_of s) t still same = absurd still
still-put u v (Queue_of q) t still same = absurd still
still-put u v (Domain_of d) t still same = record { window = same.window; region = same.region; queue = same.queue }
still-put u v (Cq_of s) t still same = record { window = same.window; region = same.region; queue = same.queue }
still-put u v (Srq_of s) t still same = record { window = same.window; region = same.region; queue = same.queue }
still-put u v (Mailbox_of q) t still same = record { window = same.window; region = same.region; queue = same.queue }
still-put u v (Byte_at p) t still same = record { window = same.window; region = same.region; queue = same.queue }

pub still-puts : (xs : List Update) (u v : World) → AreStill xs → SameParts u v → SameParts u (put_all xs v)
still-puts [] u v still same = same
still-puts (x ∷ xs) u v still same = still-puts xs u (put v x.name x.thing) still.1 (still-put u v x.name x.thing still.0 same)

pub same-world : (u : World) → SameParts u u
same-world u = record { window = refl; region = refl; queue = refl }

pub puts-append : (xs ys : List Update) (u : World) → put_all (xs ++ ys) u ≡ put_all ys (put_all xs u)
puts-append [] ys u = refl
puts-append (x ∷ xs) ys u = puts-append xs ys (put u x.name x.thing)

-- still changes alone
pub still-bound : (w : World) (cs : List Update) → IsBoundWorld w → AreStill cs → IsBoundWorld (put_all cs w)
still-bound w cs bound still = same-bound w (put_all cs w) (still-puts cs w w still (same-world w)) bound

srq-still : (q : QueuePair) (a : Around) (b : Bool) → AreStill (if b then srq_updates q a after_receive_take else [])
srq-still q a false = record {}
srq-still q a true = by q.srq a.shared
  where
    updates : Option ℕ → Option SrqSlot → List Update
    updates (Some srq) (Some slot) = (Srq_of (srq_of q srq) := record slot { srq = option_map after_receive_take slot.srq }) ∷ []
    updates srq slot = []

    by : (o : Option ℕ) (t : Option SrqSlot) → AreStill (updates o t)
    by None t = record {}
    by (Some srq) None = record {}
    by (Some srq) (Some slot) = (record {}, record {})

-- a turn's changes, with others behind: the queue pair changes, and then these
pub turn-parts : (q : QueuePair) (a : Around) (e : Effects) (more : List Update) (u : World)
    → SameParts (put_all more (put u (Queue_of q.queue) (Present e.queue))) (put_all (updates_of q a e ++ more) u)
turn-parts q a e more u = subst (SameParts (put_all more moved)) (sym (puts-append (updates_of q a e) more u))
    (same-puts more moved (put_all (updates_of q a e) u)
    (still-puts (if e.takes_shared then srq_updates q a after_receive_take else []) moved (put_all cqs moved) (srq-still q a e.takes_shared)
    (record { window = refl; region = refl; queue = refl })))
  where
    moved : World
    moved = put u (Queue_of q.queue) (Present e.queue)

    cqs : List Update
    cqs = cq_updates q a e.marks

-- changes that keep windows counted behind a queue pair that counts so many
abbrev pub Leaves : World → QueuePair → ℕ → List Update → Type 0
Leaves w q n more = (p : QueuePair) → p.windows ≡ n → IsBoundWorld (put_all more (put w (Queue_of q.queue) (Present p)))

-- a queue pair stands where another stood: so many windows less, at most
pub queue-counts : (w : World) (q p : QueuePair) (test : QueueId → Bool) → w.queue q.queue ≡ Present q → q.windows ≤ p.windows + one (test q.queue)
    → (name : QueueId) → windows_of (w.queue name) ≤ windows_of (with_at queue_eq w.queue q.queue (Present p) name) + one (test name)
queue-counts w q p test is least name = by (queue_eq q.queue name) refl
  where
    by : (b : Bool) → queue_eq q.queue name ≡ b → windows_of (w.queue name) ≤ windows_of (if b then Present p else w.queue name) + one (test name)
    by true e = subst (λ m. windows_of (w.queue m) ≤ p.windows + one (test m)) (queue-path q.queue name e)
        (omega (arith, ap windows_of is, least))
    by false e = omega arith

pub kept-leaves : (w : World) (q : QueuePair) → IsBoundWorld w → w.queue q.queue ≡ Present q → Leaves w q q.windows []
kept-leaves w q bound is p same = kept-bound w.window w.region w.region w.queue _ bound (λ r. inl (omega arith, refl))
    (λ name. omega (arith, queue-counts w q p (λ m. false) is (omega (arith, same)) name))

-- a region that no window is bound in changes
pub region-leaves : (w : World) (q : QueuePair) (s : Slot) (x : Region) → IsBoundWorld w → w.queue q.queue ≡ Present q → IsUnused (w.region s)
    → Leaves w q q.windows ((Region_of s := x) ∷ [])
region-leaves w q s x bound is unused p same = kept-bound w.window w.region _ w.queue _ bound (λ r. by r (slot_eq s r) refl)
    (λ name. omega (arith, queue-counts w q p (λ m. false) is (omega (arith, same)) name))
  where
    by : (r : Slot) (b : Bool) → slot_eq s r ≡ b
        → (((w.region r).bound ≤ (if b then x else w.region r).bound) × (grant_of_region (if b then x else w.region r) ≡ grant_of_region (w.region r))) ⊎ IsUnused (w.region r)
    by r true e = inr (subst (λ t. IsUnused (w.region t)) (slot-path s r e) unused)
    by r false e = inl (omega arith, refl)

-- the region of a window has one window fewer
unbound-counts : (w : World) (x : Window) (b : Binding) (r : Slot) → x.binding ≡ Some b
    → (w.region r).bound ≤ (with_at slot_eq w.region (region_under x b) (with_window_unbound (w.region (region_under x b))) r).bound + one (is_bound_in r x)
unbound-counts w x b r is = subst (λ o. (w.region r).bound ≤ (with_at slot_eq w.region at (with_window_unbound (w.region at)) r).bound + one (option_map_or (λ c. slot_eq (region_under x c) r) o false)) (sym is)
    (by (slot_eq at r) refl)
  where
    at : Slot
    at = region_under x b

    by : (z : Bool) → slot_eq at r ≡ z → (w.region r).bound ≤ (if z then with_window_unbound (w.region at) else w.region r).bound + one z
    by true e = subst (λ t. (w.region t).bound ≤ ((w.region at).bound - 1) + 1) (slot-path at r e) (omega arith)
    by false e = omega arith

-- it grants what it granted
pub unbound-grants : (region : Slot → Region) (s : Slot) (x : Region) → grant_of_region x ≡ grant_of_region (region s) → AreSameGrants region (with_at slot_eq region s x)
unbound-grants region s x same r = by (slot_eq s r) refl
  where
    by : (z : Bool) → slot_eq s r ≡ z → grant_of_region (if z then x else region r) ≡ grant_of_region (region r)
    by true e = same ∙ ap (λ t. grant_of_region (region t)) (slot-path s r e)
    by false e = refl

-- a window leaves its region, and its queue pair, if it is of type 2
pub window-leaves : (w : World) (s : Slot) (x : Window) (b : Binding) (queues : QueueId → QueueSlot) → IsBoundWorld w → (w.window s).binding ≡ Some b → x.binding ≡ None
    → ((name : QueueId) → windows_of (w.queue name) ≤ windows_of (queues name) + one (is_bound_by name (w.window s)))
    → AreBound (with_at slot_eq w.window s x)
    (with_at slot_eq w.region (region_under (w.window s) b) (with_window_unbound (w.region (region_under (w.window s) b)))) queues
window-leaves w s x b queues bound is none counts = moved-bound w.window w.region _ w.queue queues s x bound
    (λ r. omega (arith, ap (λ o. one (option_map_or (λ c. slot_eq (region_under x c) r) o false)) none, unbound-counts w (w.window s) b r is))
    (λ name. omega (arith, ap (λ o. one (option_map_or (λ c. option_map_or (λ p. queue_eq p name) c.queue false) o false)) none, counts name))
    (unbound-grants w.region (region_under (w.window s) b) (with_window_unbound (w.region (region_under (w.window s) b))) refl)
    (subst (λ o. IfSome o (λ c. LiesIn c (grant_of_region (w.region (region_under x c))))) (sym none) (record {}))

-- the count of windows where no key of a window ended
region-left : (q : QueuePair) (i : Invalidation) → is_window_key i.key ≡ false → (with_window_gone (Some i) q).windows ≡ q.windows
region-left q i e = ap (λ b. if b then q.windows - 1 else q.windows) e

window-left : (q : QueuePair) (i : Invalidation) → is_window_key i.key ≡ true → (with_window_gone (Some i) q).windows ≡ q.windows - 1
window-left q i is = ap (λ b. if b then q.windows - 1 else q.windows) is

-- why an invalidation was not refused, by the region and by the window
ended-region : (key : Key) (r : Region) → region_refusal key r ≡ None → IsUnused r
ended-region key r none = by (all-fail (of_region (region_invalidation_refusals key r)) none)
  where
    by : AllFail (of_region (region_invalidation_refusals key r)) → IsUnused r
    by fails = inr (omega (arith, ltb-false 0 r.bound fails.1.1.1.0))

ended-window : (key : Key) (queue : QueueId) (w : Window) → window_refusal key queue w ≡ None → (is_none w.binding ≡ false) × (is_of_other_queue queue w.binding ≡ false)
ended-window key queue w none = by (all-fail (of_window (window_invalidation_refusals key queue w)) none)
  where
    by : AllFail (of_window (window_invalidation_refusals key queue w)) → (is_none w.binding ≡ false) × (is_of_other_queue queue w.binding ≡ false)
    by fails = (fails.1.1.0, fails.1.1.1.1.0)

-- a binding that is not of another queue pair is through this one
pub of-this-queue : (queue : QueueId) (b : Binding) → is_of_other_queue queue (Some b) ≡ false → option_map_or (λ p. queue_eq p queue) b.queue false ≡ true
of-this-queue queue b e = by b.queue (not-false (option_map_or (queue_eq queue) b.queue false) e)
  where
    by : (o : Option QueueId) → option_map_or (queue_eq queue) o false ≡ true → option_map_or (λ p. queue_eq p queue) o false ≡ true
    by None is = absurd (true≢false (sym is))
    by (Some p) is = ap (λ m. queue_eq m queue) (sym (queue-path queue p is)) ∙ queue-refl queue

pub ends-key : (c : Configuration) (w : World) (P : List Update → Type 0) (q : QueuePair) (o : Option Invalidation) (k : Option OpRefusal → List Update → Plan) → IsBoundWorld w
    → w.queue q.queue ≡ Present q → IfSome o (λ i. i.queue ≡ q.queue)
    → ((r : Option OpRefusal) (cs : List Update) → Leaves w q (windows_left q.windows o r) (unless_none r cs) → EndsIn w P (k r cs)) → EndsIn w P (With_invalidation c o k)
ends-key c w P q None k bound is named more = more None [] (kept-leaves w q bound is)
ends-key c w P q (Some i) k bound is named more = (
  λ has. more (region_refusal i.key (w.region slot)) _ (region has (region_refusal i.key (w.region slot)) refl),
  λ none. (λ has. window has (w.window slot).binding refl, λ none. more _ [] (kept-leaves w q bound is)),
)
  where
    slot : Slot
    slot = slot_of_key i.domain i.key

    region : names_region c i.domain i.key ≡ true → (r : Option OpRefusal) → region_refusal i.key (w.region slot) ≡ r
        → Leaves w q (windows_left q.windows (Some i) r) (unless_none r ((Region_of slot := after_region_invalidation (w.region slot)) ∷ []))
    region has (Some cause) e = kept-leaves w q bound is
    region has None e = λ p same. region-leaves w q slot (after_region_invalidation (w.region slot)) bound is (ended-region i.key (w.region slot) e) p
        (same ∙ region-left q i (not-true (is_window_key i.key) (and_parts (not (is_window_key i.key)) (is_key_of i.domain i.key)
        (and_parts (not (is_window_key i.key) && is_key_of i.domain i.key) (has_slot c (λ a. a.regions) slot) has).0).0))

    plan : Option Binding → Plan
    plan None = k (window_refusal i.key i.queue (w.window slot)) []
    plan (Some b) = Look (Region_of (region_under (w.window slot) b)) (λ region.
        k (window_refusal i.key i.queue (w.window slot))
        ((Window_of slot := without_binding (w.window slot)) ∷ (Region_of (region_under (w.window slot) b) := with_window_unbound region) ∷ []))

    changes : Binding → List Update
    changes b = (Window_of slot := without_binding (w.window slot))
        ∷ (Region_of (region_under (w.window slot) b) := with_window_unbound (w.region (region_under (w.window slot) b))) ∷ []

    key : names_window c i.domain i.key ≡ true → is_window_key i.key ≡ true
    key has = (and_parts (is_window_key i.key) (is_key_of i.domain i.key)
        (and_parts (is_window_key i.key && is_key_of i.domain i.key) (has_slot c (λ a. a.windows) slot) has).0).0

    none-bound : (w.window slot).binding ≡ None → (r : Option OpRefusal) → window_refusal i.key i.queue (w.window slot) ≡ r → Leaves w q (windows_left q.windows (Some i) r) (unless_none r [])
    none-bound empty (Some cause) e = kept-leaves w q bound is
    none-bound empty None e = absurd (true≢false (sym (ap is_none empty) ∙ (ended-window i.key i.queue (w.window slot) e).0))

    this : (b : Binding) → (w.window slot).binding ≡ Some b → window_refusal i.key i.queue (w.window slot) ≡ None → is_bound_by q.queue (w.window slot) ≡ true
    this b bind e = ap (λ o. option_map_or (λ c. option_map_or (λ p. queue_eq p q.queue) c.queue false) o false) bind
        ∙ of-this-queue q.queue b (subst (λ m. is_of_other_queue m (Some b) ≡ false) named
        (ap (is_of_other_queue i.queue) (sym bind) ∙ (ended-window i.key i.queue (w.window slot) e).1))

    some-bound : names_window c i.domain i.key ≡ true → (b : Binding) → (w.window slot).binding ≡ Some b → (r : Option OpRefusal) → window_refusal i.key i.queue (w.window slot) ≡ r
        → Leaves w q (windows_left q.windows (Some i) r) (unless_none r (changes b))
    some-bound has b bind (Some cause) e = kept-leaves w q bound is
    some-bound has b bind None e = λ p same. window-leaves w slot (without_binding (w.window slot)) b _ bound bind refl
        (queue-counts w q p (λ name. is_bound_by name (w.window slot)) is (omega (arith, same ∙ window-left q i (key has), ap one (this b bind e))))

    window : names_window c i.domain i.key ≡ true → (o : Option Binding) → (w.window slot).binding ≡ o → EndsIn w P (plan o)
    window has None e = more _ [] (none-bound e (window_refusal i.key i.queue (w.window slot)) refl)
    window has (Some b) e = more _ (changes b) (some-bound has b e (window_refusal i.key i.queue (w.window slot)) refl)

-- a row's plan ends as its endings do, with the windows that its key leaves
pub ends-row-bound : (c : Configuration) (w : World) (P : List Update → Type 0) (q : QueuePair) (row : Row) (finish : Effects → List Update → List Write → Plan) → IsBoundWorld w
    → w.queue q.queue ≡ Present q → RowCounts q row
    → ((e : Effects) (cs : List Update) (ws : List Write) → Leaves w q e.queue.windows cs → EndsIn w P (finish e cs ws)) → EndsIn w P (Row_plan c row finish)
ends-row-bound c w P q row finish bound is counts more =
    ends-grants c w P row.asks _ (λ gs. by gs (first_denied_by row.asks gs))
  where
    ending : (n : ℕ) (cs : List Update) (e : Ending) → Leaves w q n cs → EndingDoes (λ e. e.queue.windows ≡ n) e → EndsIn w P (End_plan c finish cs e)
    ending n cs (NotPossible reason) leaves same = record {}
    ending n cs (Does e) leaves same = ends-writes c w P e.writes (λ writes. finish e cs writes)
        (λ ws. more e cs ws (subst (λ m. Leaves w q m cs) (sym same) leaves))

    plan : List (Option Grant) → Option DeniedAsk → Plan
    plan gs (Some d) = End_plan c finish [] (row.denied d)
    plan gs None = With_bytes row.asks gs (λ bytes. With_invalidation c row.invalidation (λ refusal cs.
        End_plan c finish (unless_none refusal cs) (row.allowed bytes refusal)))

    by : (gs : List (Option Grant)) (d : Option DeniedAsk) → EndsIn w P (plan gs d)
    by gs (Some d) = ending q.windows [] (row.denied d) (kept-leaves w q bound is) (counts.denied d)
    by gs None = ends-bytes w P row.asks gs (λ bytes. With_invalidation c row.invalidation (λ refusal cs. End_plan c finish (unless_none refusal cs) (row.allowed bytes refusal)))
        (λ bytes. ends-key c w P q row.invalidation (λ refusal cs. End_plan c finish (unless_none refusal cs) (row.allowed bytes refusal)) bound is counts.of_queue
        (λ refusal cs leaves. ending (windows_left q.windows row.invalidation refusal) (unless_none refusal cs) (row.allowed bytes refusal) leaves (counts.allowed bytes refusal)))

-- what an event's changes leave
abbrev pub Bounds : World → List Update → Type 0
Bounds w cs = IsBoundWorld (put_all cs w)
