-- Grants in force by key slots: what a grant more and the end of a key make of them, and which key slot a window or a
-- region has. For proofs only.
use Rattle.std.proofs.Common.{◌≡◌, ℕ, ◌<◌, arith, Bool, true, false, ◌&&◌, not, ◌==◌, if◌then◌else◌, List, [], ◌∷◌, Option, None, Some, is_some, filter, refl, sym, ap, subst, true≢false, ◌∙◌}
use Rattle.std.proofs.lemmas.Bool.Decides.{nat_tests}
use Rattle.std.specs.List.{AllByRecursion}
use Rattle.ca_law_keys.specs.InForce.{AgreeOnGrants, grant_at, grant_in_force, is_window_slot, slot_at}
use Rattle.ca_grant.specs.KeySlot.{HaveSlotsApart, is_at_slot_of}
use Rattle.ca_keys.specs.Equal.{key_eq, slot_eq}
use Rattle.ca_keys.specs.Numbers.{key_at, index_of, region_index, window_index}
use Rattle.ca_keys.specs.declared.grant.Grant.{Grant}
use Rattle.ca_keys.specs.declared.key.Key.{Key}
use Rattle.ca_keys.specs.declared.names.Slot.{Slot}
use Rattle.ca_base.specs.objects.Region.{Region}
use Rattle.ca_base.specs.objects.Window.{Window}
use Rattle.ca_model.specs.Past.{KeySlot, key_slot, key_slot_eq, key_slot_of, region_key_slot, window_key_slot}

-- a key's index is that with which it was made
pub made-index : (index low : ℕ) → index_of (key_at index low) ≡ index
made-index index low = grind arith

-- a grant under a key of a slot's region, or of its window, stands in the key slot of this
pub at-region : (g : Grant) (s : Slot) (low : ℕ) → g.key ≡ key_at (region_index s) low → g.domain ≡ s.domain → key_slot_of g ≡ region_key_slot s
at-region g s low key domain = λ i. record { adapter = (domain i).adapter; index = (ap index_of key ∙ made-index (region_index s) low) i }

pub at-window : (g : Grant) (s : Slot) (low : ℕ) → g.key ≡ key_at (window_index s) low → g.domain ≡ s.domain → key_slot_of g ≡ window_key_slot s
at-window g s low key domain = λ i. record { adapter = (domain i).adapter; index = (ap index_of key ∙ made-index (window_index s) low) i }

-- a region's key slot is none of a window, and the other way round
pub region-kind : (s : Slot) (k : KeySlot) → s.slot < 0x8000 → key_slot_eq (region_key_slot s) k ≡ true → is_window_slot k ≡ false
region-kind s k small same = grind (arith, nat_tests, small, same)

pub window-kind : (s : Slot) (k : KeySlot) → s.slot < 0x8000 → key_slot_eq (window_key_slot s) k ≡ true → is_window_slot k ≡ true
window-kind s k small same = grind (arith, nat_tests, small, same)

-- a region's key slot is this one where this one's slot is the region's, and so for a window
pub region-slots : (s : Slot) (k : KeySlot) → s.slot < 0x8000 → is_window_slot k ≡ false → slot_eq s (slot_at k) ≡ key_slot_eq (region_key_slot s) k
region-slots s k small kind = grind (arith, nat_tests, small, kind)

pub window-slots : (s : Slot) (k : KeySlot) → s.slot < 0x8000 → is_window_slot k ≡ true → slot_eq s (slot_at k) ≡ key_slot_eq (window_key_slot s) k
window-slots s k small kind = grind (arith, nat_tests, small, kind)

pub slot-at-region : (s : Slot) → s.slot < 0x8000 → slot_at (region_key_slot s) ≡ s
slot-at-region s small = λ i. record { domain = record { adapter = s.domain.adapter; domain = domain i }; slot = slot i }
  where
    domain : (slot_at (region_key_slot s)).domain.domain ≡ s.domain.domain
    domain = grind (arith, small)

    slot : (slot_at (region_key_slot s)).slot ≡ s.slot
    slot = grind (arith, small)

pub slot-at-window : (s : Slot) → s.slot < 0x8000 → slot_at (window_key_slot s) ≡ s
slot-at-window s small = λ i. record { domain = record { adapter = s.domain.adapter; domain = domain i }; slot = slot i }
  where
    domain : (slot_at (window_key_slot s)).domain.domain ≡ s.domain.domain
    domain = grind (arith, small)

    slot : (slot_at (window_key_slot s)).slot ≡ s.slot
    slot = grind (arith, small)

pub key-slot-refl : (k : KeySlot) → key_slot_eq k k ≡ true
key-slot-refl k = grind (arith, nat_tests)

pub key-slot-path : (k l : KeySlot) → key_slot_eq k l ≡ true → k ≡ l
key-slot-path k l same = λ i. record { adapter = adapter i; index = index i }
  where
    adapter : k.adapter ≡ l.adapter
    adapter = grind (arith, nat_tests, same)

    index : k.index ≡ l.index
    index = grind (arith, nat_tests, same)

-- a list in which nothing is found has nothing that passes the test
none-found : (k : KeySlot) (gs : List Grant) → grant_in_force k gs ≡ None → AllByRecursion (λ g. key_slot_eq (key_slot_of g) k ≡ false) gs
none-found k [] none = record {}
none-found k (g ∷ gs) none = by (key_slot_eq (key_slot_of g) k) refl none (none-found k gs)
  where
    by : (b : Bool) → key_slot_eq (key_slot_of g) k ≡ b → (if b then Some g else grant_in_force k gs) ≡ None
        → (grant_in_force k gs ≡ None → AllByRecursion (λ g. key_slot_eq (key_slot_of g) k ≡ false) gs)
        → (key_slot_eq (key_slot_of g) k ≡ false) × AllByRecursion (λ g. key_slot_eq (key_slot_of g) k ≡ false) gs
    by true e none rest = absurd (true≢false (ap is_some none))
    by false e none rest = (e, rest none)

nothing-found : (k : KeySlot) (gs : List Grant) → AllByRecursion (λ g. key_slot_eq (key_slot_of g) k ≡ false) gs → grant_in_force k gs ≡ None
nothing-found k [] none = refl
nothing-found k (g ∷ gs) none = ap (λ b. if b then Some g else grant_in_force k gs) none.0 ∙ nothing-found k gs none.1

-- a grant more in a key slot that had none
pub granted-agrees : (gs : List Grant) (region after : Slot → Region) (window windows : Slot → Window) (g : Grant) (k : KeySlot) → AgreeOnGrants gs region window
    → key_slot_of g ≡ k → grant_at region window k ≡ None
    → ((l : KeySlot) → grant_at after windows l ≡ (if key_slot_eq k l then Some g else grant_at region window l))
    → AgreeOnGrants (g ∷ gs) after windows
granted-agrees gs region after window windows g k agree at none changed = record {
  apart = (none-found (key_slot_of g) gs (ap (λ l. grant_in_force l gs) at ∙ agree.same k ∙ none), agree.apart);
  same = λ l. ap (λ m. if key_slot_eq m l then Some g else grant_in_force l gs) at
      ∙ ap (λ o. if key_slot_eq k l then Some g else o) (agree.same l) ∙ sym (changed l);
}

-- nothing changes of any grant
pub same-agrees : (gs : List Grant) (region after : Slot → Region) (window windows : Slot → Window) → AgreeOnGrants gs region window
    → ((l : KeySlot) → grant_at after windows l ≡ grant_at region window l) → AgreeOnGrants gs after windows
same-agrees gs region after window windows agree same = record { apart = agree.apart; same = λ l. agree.same l ∙ sym (same l) }

-- the grants without those of a key of an adapter
abbrev pub without_key : ℕ → Key → List Grant → List Grant
without_key adapter key grants = filter (λ g. not ((g.domain.adapter == adapter) && key_eq g.key key)) grants

-- a grant of this key stands in the key slot of the key
ended-slot : (adapter : ℕ) (key : Key) (g : Grant) (k : KeySlot) → not ((g.domain.adapter == adapter) && key_eq g.key key) ≡ false
    → key_slot_eq (key_slot_of g) k ≡ key_slot_eq (key_slot adapter key) k
ended-slot adapter key g k ended = ap (λ l. key_slot_eq l k) (path)
  where
    adapters : g.domain.adapter ≡ adapter
    adapters = grind (arith, nat_tests, ended)

    numbers : g.key.0 ≡ key.0
    numbers = grind (arith, nat_tests, ended)

    path : key_slot_of g ≡ key_slot adapter key
    path = λ i. record { adapter = adapters i; index = index_of (record { 0 = numbers i }) }

all-filter : (P : Grant → Type 0) (test : Grant → Bool) (gs : List Grant) → AllByRecursion P gs → AllByRecursion P (filter test gs)
all-filter P test [] all = record {}
all-filter P test (g ∷ gs) all = by (test g) (all-filter P test gs all.1)
  where
    by : (b : Bool) → AllByRecursion P (filter test gs) → AllByRecursion P (if b then g ∷ filter test gs else filter test gs)
    by true rest = (all.0, rest)
    by false rest = rest

apart-filter : (test : Grant → Bool) (gs : List Grant) → HaveSlotsApart gs → HaveSlotsApart (filter test gs)
apart-filter test [] apart = record {}
apart-filter test (g ∷ gs) apart = by (test g) (apart-filter test gs apart.1)
  where
    by : (b : Bool) → HaveSlotsApart (filter test gs) → HaveSlotsApart (if b then g ∷ filter test gs else filter test gs)
    by true rest = (all-filter (λ h. is_at_slot_of g.domain g.key h ≡ false) test gs apart.0, rest)
    by false rest = rest

-- what is found in another key slot is found without the key
other-found : (adapter : ℕ) (key : Key) (k : KeySlot) (gs : List Grant) → key_slot_eq (key_slot adapter key) k ≡ false → grant_in_force k (without_key adapter key gs) ≡ grant_in_force k gs
other-found adapter key k [] other = refl
other-found adapter key k (g ∷ gs) other = by (not ((g.domain.adapter == adapter) && key_eq g.key key)) refl (other-found adapter key k gs other)
  where
    by : (b : Bool) → not ((g.domain.adapter == adapter) && key_eq g.key key) ≡ b → grant_in_force k (without_key adapter key gs) ≡ grant_in_force k gs
        → grant_in_force k (if b then g ∷ without_key adapter key gs else without_key adapter key gs) ≡ grant_in_force k (g ∷ gs)
    by true e rest = ap (λ o. if key_slot_eq (key_slot_of g) k then Some g else o) rest
    by false e rest = rest ∙ sym (ap (λ b. if b then Some g else grant_in_force k gs) (ended-slot adapter key g k e ∙ other))

some-path : (g h : Grant) → Some g ≡ Some h → g ≡ h
some-path g h e = ap by e
  where
    by : Option Grant → Grant
    by None = g
    by (Some x) = x

-- the key is gone from its key slot, where the grant there has this key
own-gone : (adapter : ℕ) (key : Key) (h : Grant) (gs : List Grant) → HaveSlotsApart gs → grant_in_force (key_slot adapter key) gs ≡ Some h
    → not ((h.domain.adapter == adapter) && key_eq h.key key) ≡ false → grant_in_force (key_slot adapter key) (without_key adapter key gs) ≡ None
own-gone adapter key h [] apart is ended = refl
own-gone adapter key h (g ∷ gs) apart is ended = by (key_slot_eq (key_slot_of g) k) refl is (λ e. own-gone adapter key h gs apart.1 e ended)
  where
    k : KeySlot
    k = key_slot adapter key

    kept : Grant → Bool
    kept g = not ((g.domain.adapter == adapter) && key_eq g.key key)

    left : (b : Bool) → kept g ≡ b → key_slot_eq (key_slot_of g) k ≡ false → grant_in_force k (without_key adapter key gs) ≡ None
        → grant_in_force k (if b then g ∷ without_key adapter key gs else without_key adapter key gs) ≡ None
    left true e other rest = ap (λ b. if b then Some g else grant_in_force k (without_key adapter key gs)) other ∙ rest
    left false e other rest = rest

    by : (b : Bool) → key_slot_eq (key_slot_of g) k ≡ b → (if b then Some g else grant_in_force k gs) ≡ Some h
        → (grant_in_force k gs ≡ Some h → grant_in_force k (without_key adapter key gs) ≡ None) → grant_in_force k (without_key adapter key (g ∷ gs)) ≡ None
    by true e is more = ap (λ b. grant_in_force k (if b then g ∷ without_key adapter key gs else without_key adapter key gs)) (ap kept (some-path g h is) ∙ ended)
        ∙ nothing-found k (without_key adapter key gs) (all-filter (λ x. key_slot_eq (key_slot_of x) k ≡ false) kept gs
        (subst (λ l. AllByRecursion (λ x. key_slot_eq (key_slot_of x) l ≡ false) gs) (key-slot-path (key_slot_of g) k e) apart.0))
    by false e is more = left (kept g) refl e (more is)

-- the key of a key slot ends
pub revoked-agrees : (gs : List Grant) (region after : Slot → Region) (window windows : Slot → Window) (adapter : ℕ) (key : Key) (h : Grant) → AgreeOnGrants gs region window
    → grant_at region window (key_slot adapter key) ≡ Some h → h.key ≡ key → h.domain.adapter ≡ adapter
    → ((l : KeySlot) → grant_at after windows l ≡ (if key_slot_eq (key_slot adapter key) l then None else grant_at region window l))
    → AgreeOnGrants (without_key adapter key gs) after windows
revoked-agrees gs region after window windows adapter key h agree is keys adapters changed = record {
  apart = apart-filter _ gs agree.apart;
  same = λ l. by l (key_slot_eq (key_slot adapter key) l) refl ∙ sym (changed l);
}
  where
    ended : not ((h.domain.adapter == adapter) && key_eq h.key key) ≡ false
    ended = ap (λ x. not ((x == adapter) && key_eq h.key key)) adapters ∙ ap (λ x. not ((adapter == adapter) && key_eq x key)) keys ∙ itself
      where
        itself : not ((adapter == adapter) && (key.0 == key.0)) ≡ false
        itself = grind (arith, nat_tests)

    by : (l : KeySlot) (b : Bool) → key_slot_eq (key_slot adapter key) l ≡ b
        → grant_in_force l (without_key adapter key gs) ≡ (if b then None else grant_at region window l)
    by l true e = subst (λ m. grant_in_force m (without_key adapter key gs) ≡ None) (key-slot-path (key_slot adapter key) l e)
        (own-gone adapter key h gs agree.apart (agree.same (key_slot adapter key) ∙ is) ended)
    by l false e = other-found adapter key l gs e ∙ agree.same l
