-- Bound windows stay counted: where one window changes, and where none does.
use Rattle.std.proofs.Common.{◌≡◌, ◌⊎◌, inl, inr, ℕ, suc, ◌+◌, ◌≤◌, ◌<◌, arith, Bool, true, false, List, [], ◌∷◌, length, Option, None, Some, IfSome, subst, ◌∙◌, ap, sym, true≢false, if◌then◌else◌, refl}
use Rattle.std.specs.Option.{option_map_or}
use Rattle.ca_keys.specs.declared.names.QueueId.{QueueId}
use Rattle.ca_keys.specs.declared.names.Slot.{Slot}
use Rattle.ca_keys.specs.Equal.{queue_eq, slot_eq}
use Rattle.ca_base.specs.objects.QueuePair.{QueueSlot}
use Rattle.ca_base.specs.objects.Region.{Region, grant_of_region}
use Rattle.ca_base.specs.objects.Window.{Binding, Window}
use Rattle.ca_model.specs.Past.{with_at}
use Rattle.ca_model.specs.machine.Row.{region_under}
use Rattle.ca_law_world.specs.Bindings.{AreBound, AreCounted, IsCounted, IsOne, LiesIn, is_bound_by, is_bound_in, windows_of}
use Rattle.ca_law_world.proofs.Sound.SettledLemmas.{queue-refl, slot-path, slot-refl}

-- 1 where a test holds, and else 0
abbrev pub one : Bool → ℕ
one true = 1
one false = 0

-- a list without a slot that is in it
abbrev without_slot : Slot → List Slot → List Slot
without_slot s [] = []
without_slot s (x ∷ xs) = if slot_eq x s then xs else x ∷ without_slot s xs

shorter : (s : Slot) (xs : List Slot) → IsOne xs s → suc (length (without_slot s xs)) ≤ length xs
shorter s [] is = absurd is
shorter s (x ∷ xs) is = by (slot_eq x s) refl is (shorter s xs)
  where
    by : (b : Bool) → slot_eq x s ≡ b → (s ≡ x) ⊎ IsOne xs s → (IsOne xs s → suc (length (without_slot s xs)) ≤ length xs)
        → suc (length (if b then xs else x ∷ without_slot s xs)) ≤ suc (length xs)
    by true e is rest = omega arith
    by false e (inl same) rest = absurd (true≢false (sym (ap (λ t. slot_eq x t) same ∙ slot-refl x) ∙ e))
    by false e (inr more) rest = omega (arith, rest more)

still-one : (s t : Slot) (xs : List Slot) → slot_eq s t ≡ false → IsOne xs t → IsOne (without_slot s xs) t
still-one s t [] other is = is
still-one s t (x ∷ xs) other is = by (slot_eq x s) refl is (still-one s t xs other)
  where
    by : (b : Bool) → slot_eq x s ≡ b → (t ≡ x) ⊎ IsOne xs t → (IsOne xs t → IsOne (without_slot s xs) t) → IsOne (if b then xs else x ∷ without_slot s xs) t
    by true e (inr more) rest = more
    by true e (inl same) rest = absurd (true≢false (sym (slot-refl s) ∙ ap (λ u. slot_eq s u) (sym (same ∙ slot-path x s e)) ∙ other))
    by false e (inl same) rest = inl same
    by false e (inr more) rest = inr (rest more)

-- one window changes, and the count goes up with it, or at most down with it
pub moved-counted : (window : Slot → Window) (s : Slot) (x : Window) (test : Window → Bool) (count after : ℕ) → AreCounted window test count
    → count + one (test x) ≤ after + one (test (window s)) → AreCounted (with_at slot_eq window s x) test after
moved-counted window s x test count after counted least = by (test (window s)) refl (test x) refl least
  where
    Now : Type 0
    Now = AreCounted (with_at slot_eq window s x) test after

    gone : List Slot
    gone = without_slot s counted.slots

    old : (t : Slot) (b : Bool) → slot_eq s t ≡ b → test (if b then x else window t) ≡ true → (test x ≡ false) → IsOne counted.slots t
    old t true e holds fails = absurd (true≢false (sym holds ∙ fails))
    old t false e holds fails = counted.all t holds

    by : (a : Bool) → test (window s) ≡ a → (z : Bool) → test x ≡ z → count + one z ≤ after + one a → Now
    by false was false is least = record {
      slots = counted.slots;
      few = omega (arith, counted.few, least);
      all = λ t holds. old t (slot_eq s t) refl holds is;
    }
    by false was true is least = record {
      slots = s ∷ counted.slots;
      few = omega (arith, counted.few, least);
      all = λ t holds. at t (slot_eq s t) refl holds;
    }
      where
        at : (t : Slot) (b : Bool) → slot_eq s t ≡ b → test (if b then x else window t) ≡ true → IsOne (s ∷ counted.slots) t
        at t true e holds = inl (sym (slot-path s t e))
        at t false e holds = inr (counted.all t holds)
    by true was true is least = record {
      slots = counted.slots;
      few = omega (arith, counted.few, least);
      all = λ t holds. at t (slot_eq s t) refl holds;
    }
      where
        at : (t : Slot) (b : Bool) → slot_eq s t ≡ b → test (if b then x else window t) ≡ true → IsOne counted.slots t
        at t true e holds = subst (IsOne counted.slots) (slot-path s t e) (counted.all s was)
        at t false e holds = counted.all t holds
    by true was false is least = record {
      slots = gone;
      few = omega (arith, counted.few, least, shorter s counted.slots (counted.all s was));
      all = λ t holds. at t (slot_eq s t) refl holds;
    }
      where
        at : (t : Slot) (b : Bool) → slot_eq s t ≡ b → test (if b then x else window t) ≡ true → IsOne gone t
        at t true e holds = absurd (true≢false (sym holds ∙ is))
        at t false e holds = still-one s t counted.slots e (counted.all t holds)

pub more-counted : (window : Slot → Window) (test : Window → Bool) (count after : ℕ) → AreCounted window test count → count ≤ after → AreCounted window test after
more-counted window test count after counted more = record { slots = counted.slots; few = omega (arith, counted.few, more); all = counted.all }

-- the grants of all regions are as they were
abbrev pub AreSameGrants : (Slot → Region) → (Slot → Region) → Type 0
AreSameGrants region after = (r : Slot) → grant_of_region (after r) ≡ grant_of_region (region r)

-- one window changes, with the counts of regions and of queue pairs
pub moved-bound : (window : Slot → Window) (region after : Slot → Region) (queue queues : QueueId → QueueSlot) (s : Slot) (x : Window) → AreBound window region queue
    → ((r : Slot) → (region r).bound + one (is_bound_in r x) ≤ (after r).bound + one (is_bound_in r (window s)))
    → ((q : QueueId) → windows_of (queue q) + one (is_bound_by q x) ≤ windows_of (queues q) + one (is_bound_by q (window s)))
    → AreSameGrants region after → IfSome x.binding (λ b. LiesIn b (grant_of_region (region (region_under x b))))
    → AreBound (with_at slot_eq window s x) after queues
moved-bound window region after queue queues s x bound regions counts same lies = record {
  regions = λ r. moved-counted window s x (is_bound_in r) (region r).bound (after r).bound (bound.regions r) (regions r);
  queues = λ q. moved-counted window s x (is_bound_by q) (windows_of (queue q)) (windows_of (queues q)) (bound.queues q) (counts q);
  inside = λ t. by t (slot_eq s t);
}
  where
    at : (y : Window) (o : Option Binding) → IfSome o (λ b. LiesIn b (grant_of_region (region (region_under y b)))) → IfSome o (λ b. LiesIn b (grant_of_region (after (region_under y b))))
    at y None is = record {}
    at y (Some b) is = subst (LiesIn b) (sym (same (region_under y b))) is

    by : (t : Slot) (b : Bool) → IfSome (if b then x else window t).binding (λ c. LiesIn c (grant_of_region (after (region_under (if b then x else window t) c))))
    by t true = at x x.binding lies
    by t false = at (window t) (window t).binding (bound.inside t)

-- no window can be bound in such a region
abbrev pub IsUnused : Region → Type 0
IsUnused r = (grant_of_region r ≡ None) ⊎ (r.bound ≡ 0)

unused-none : (window : Slot → Window) (region : Slot → Region) (queue : QueueId → QueueSlot) (r t : Slot) → AreBound window region queue → IsUnused (region r) → is_bound_in r (window t) ≡ true → ⊥
unused-none window region queue r t bound (inr zero) is = by (bound.regions r)
  where
    no : (xs : List Slot) → length xs ≤ 0 → IsOne xs t → ⊥
    no [] few one = one
    no (x ∷ xs) few one = absurd (omega (arith, few))

    by : AreCounted window (is_bound_in r) (region r).bound → ⊥
    by counted = no counted.slots (omega (arith, counted.few, zero)) (counted.all t is)
unused-none window region queue r t bound (inl none) is = by (window t).binding is (bound.inside t)
  where
    by : (o : Option Binding) → option_map_or (λ b. slot_eq (region_under (window t) b) r) o false ≡ true
        → IfSome o (λ b. LiesIn b (grant_of_region (region (region_under (window t) b)))) → ⊥
    by None is lies = true≢false (sym is)
    by (Some b) is lies = subst (LiesIn b) (ap (λ u. grant_of_region (region u)) (slot-path (region_under (window t) b) r is) ∙ none) lies

-- no window changes: regions keep their grants and counts, or are used by no window
pub kept-bound : (window : Slot → Window) (region after : Slot → Region) (queue queues : QueueId → QueueSlot) → AreBound window region queue
    → ((r : Slot) → (((region r).bound ≤ (after r).bound) × (grant_of_region (after r) ≡ grant_of_region (region r))) ⊎ IsUnused (region r))
    → ((q : QueueId) → windows_of (queue q) ≤ windows_of (queues q)) → AreBound window after queues
kept-bound window region after queue queues bound regions counts = record {
  regions = λ r. count r (regions r);
  queues = λ q. more-counted window (is_bound_by q) (windows_of (queue q)) (windows_of (queues q)) (bound.queues q) (counts q);
  inside = λ t. by t (window t).binding refl (bound.inside t);
}
  where
    Keeps : Slot → Type 0
    Keeps r = (((region r).bound ≤ (after r).bound) × (grant_of_region (after r) ≡ grant_of_region (region r))) ⊎ IsUnused (region r)

    count : (r : Slot) → Keeps r → AreCounted window (is_bound_in r) (after r).bound
    count r (inl same) = more-counted window (is_bound_in r) (region r).bound (after r).bound (bound.regions r) same.0
    count r (inr unused) = record { slots = []; few = omega arith; all = λ t is. absurd (unused-none window region queue r t bound unused is) }

    at : (t : Slot) (b : Binding) → (window t).binding ≡ Some b → Keeps (region_under (window t) b) → LiesIn b (grant_of_region (region (region_under (window t) b)))
        → LiesIn b (grant_of_region (after (region_under (window t) b)))
    at t b is (inl same) lies = subst (LiesIn b) (sym same.1) lies
    at t b is (inr unused) lies = absurd (unused-none window region queue (region_under (window t) b) t bound unused
        (ap (λ o. option_map_or (λ c. slot_eq (region_under (window t) c) (region_under (window t) b)) o false) is ∙ slot-refl (region_under (window t) b)))

    by : (t : Slot) (o : Option Binding) → (window t).binding ≡ o → IfSome o (λ b. LiesIn b (grant_of_region (region (region_under (window t) b))))
        → IfSome o (λ b. LiesIn b (grant_of_region (after (region_under (window t) b))))
    by t None is lies = record {}
    by t (Some b) is lies = at t b is (regions (region_under (window t) b)) lies

one-some : (xs : List Slot) (s : Slot) → IsOne xs s → 1 ≤ length xs
one-some [] s is = absurd is
one-some (x ∷ xs) s is = omega arith

-- a bound window is counted by its region and by its queue pair
pub counted-binding : (window : Slot → Window) (region : Slot → Region) (queue : QueueId → QueueSlot) (s : Slot) (b : Binding) → AreBound window region queue → (window s).binding ≡ Some b
    → IsCounted (window s) b region queue
counted-binding window region queue s b bound is = record {
  by_region = omega (arith, one-some (bound.regions at).slots s ((bound.regions at).all s in-region), (bound.regions at).few);
  by_queue = by b.queue refl;
  inside = subst (λ o. IfSome o (λ c. LiesIn c (grant_of_region (region (region_under (window s) c))))) is (bound.inside s);
}
  where
    at : Slot
    at = region_under (window s) b

    in-region : is_bound_in at (window s) ≡ true
    in-region = ap (λ o. option_map_or (λ c. slot_eq (region_under (window s) c) at) o false) is ∙ slot-refl at

    through : (q : QueueId) → b.queue ≡ Some q → is_bound_by q (window s) ≡ true
    through q of = ap (λ o. option_map_or (λ c. option_map_or (λ p. queue_eq p q) c.queue false) o false) is
        ∙ ap (λ o. option_map_or (λ p. queue_eq p q) o false) of ∙ queue-refl q

    by : (o : Option QueueId) → b.queue ≡ o → IfSome o (λ q. 0 < windows_of (queue q))
    by None of = record {}
    by (Some q) of = omega (arith, one-some (bound.queues q).slots s ((bound.queues q).all s (through q of)), (bound.queues q).few)
