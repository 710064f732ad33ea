-- Grants that are equal, and the region's grant in force that a key names in a domain. For proofs only.
use Rattle.std.proofs.Common.{◌≡◌, ℕ, ◌+◌, ◌<◌, ◌==◌, ◌&&◌, ◌||◌, nat_le, Bool, true, false, not, if◌then◌else◌, List, [], ◌∷◌, find, Option, None, Some, is_some, refl, sym, ap, subst, ◌∙◌, true≢false}
use Rattle.std.proofs.lemmas.Bool.{and_parts, eq-eqb, eqb-true, not-false}
use Rattle.std.proofs.lemmas.Option.{same_Some}
use Rattle.std.specs.Cmp.Lexicographic.{pointwise}
use Rattle.std.specs.Option.{option_eq, option_map}
use Rattle.ca_law_keys.proofs.Keys.ChangeLemmas.{at-region-slot}
use Rattle.ca_law_keys.proofs.Keys.EndLemmas.{region-of}
use Rattle.ca_law_keys.proofs.Keys.SlotLemmas.{at-region}
use Rattle.ca_law_keys.specs.InForce.{AgreeOnGrants, grant_in_force}
use Rattle.ca_law_endings.proofs.Operations.{named_if}
use Rattle.ca_base.specs.Configuration.{Configuration}
use Rattle.ca_base.specs.objects.LocalRequest.{of_window}
use Rattle.ca_base.specs.objects.QueuePair.{QueuePair}
use Rattle.ca_base.specs.objects.Region.{RegionState, NoRegion, Free, Registered, FastRegistered, grant_in_state, grant_of_region, has_other_key, view_of_grant}
use Rattle.ca_base.specs.objects.Slices.{names_region, slot_of_key}
use Rattle.ca_base.specs.objects.Window.{Window, binding_refusals, is_within}
use Rattle.ca_keys.specs.Equal.{bool_eq, domain_eq, grant_eq, key_eq, queue_eq, rights_eq, run_eq}
use Rattle.ca_keys.specs.Numbers.{index_of, key_at, region_index}
use Rattle.ca_keys.specs.Refusals.{AllFail}
use Rattle.ca_keys.specs.declared.grant.Grant.{Grant}
use Rattle.ca_keys.specs.declared.key.Key.{Key}
use Rattle.ca_keys.specs.declared.names.DomainId.{DomainId}
use Rattle.ca_keys.specs.declared.names.QueueId.{QueueId}
use Rattle.ca_keys.specs.declared.names.Slot.{Slot}
use Rattle.ca_keys.specs.declared.place.Run.{Run}
use Rattle.ca_keys.specs.declared.rights.Rights.{Rights}
use Rattle.ca_law_world.proofs.Sound.SettledLemmas.{domain-refl, queue-refl}
use Rattle.ca_law_world.proofs.Windows.WindowBindLemmas.{named-region}
use Rattle.ca_model.specs.Licensed.{may_hold}
use Rattle.ca_model.specs.Past.{KeySlot, key_slot_eq, key_slot_of, region_key_slot}
use Rattle.ca_model.specs.machine.LocalOperations.{view_named}
use Rattle.ca_model.specs.machine.Sound.{IsSoundState, IsSoundWorld}
use Rattle.ca_model.specs.machine.World.{Region_of, World}

-- ---- equal grants

pub both-true : (a b : Bool) → a ≡ true → b ≡ true → (a && b) ≡ true
both-true true b one other = other
both-true false b one other = one

pub key-refl : (key : Key) → key_eq key key ≡ true
key-refl key = eq-eqb key.0 key.0 refl

same-bool : (b : Bool) → bool_eq b b ≡ true
same-bool true = refl
same-bool false = refl

rights-refl : (r : Rights) → rights_eq r r ≡ true
rights-refl r = both-true _ _ (both-true _ _ (both-true _ _ (both-true _ _ (same-bool r.local_write) (same-bool r.remote_read)) (same-bool r.remote_write)) (same-bool r.remote_atomic)) (same-bool r.window_bind)

pub runs-refl : (rs : List Run) → pointwise run_eq rs rs ≡ true
runs-refl [] = refl
runs-refl (r ∷ rs) = both-true _ _ (both-true _ _ (both-true _ _ (both-true _ _ (eq-eqb r.adapter r.adapter refl) (eq-eqb r.buffer r.buffer refl)) (eq-eqb r.offset r.offset refl)) (eq-eqb r.length r.length refl)) (runs-refl rs)

pub grant-refl : (g : Grant) → grant_eq g g ≡ true
grant-refl g = both-true _ _ (both-true _ _ (both-true _ _ (both-true _ _ (both-true _ _ (both-true _ _ (both-true _ _
    (key-refl g.key) (domain-refl g.domain)) (queues g.queue)) (same-bool g.local)) (eq-eqb g.address g.address refl)) (eq-eqb g.length g.length refl)) (rights-refl g.rights)) (runs-refl g.runs)
  where
    queues : (o : Option QueueId) → option_eq queue_eq o o ≡ true
    queues None = refl
    queues (Some q) = queue-refl q

-- ---- grants that are found

-- what is found first in a key slot is found by a test that it passes, and that only grants of this key slot pass
pub found-by : (test : Grant → Bool) (k : KeySlot) (gs : List Grant) (r : Grant) → grant_in_force k gs ≡ Some r → test r ≡ true → ((g : Grant) → test g ≡ true → key_slot_eq (key_slot_of g) k ≡ true)
    → find test gs ≡ Some r
found-by test k [] r is passes only = is
found-by test k (g ∷ gs) r is passes only = by (key_slot_eq (key_slot_of g) k) refl is (λ is. found-by test k gs r is passes only) (test g) refl
  where
    by : (b : Bool) → key_slot_eq (key_slot_of g) k ≡ b → (if b then Some g else grant_in_force k gs) ≡ Some r → (grant_in_force k gs ≡ Some r → find test gs ≡ Some r)
        → (z : Bool) → test g ≡ z → (if z then Some g else find test gs) ≡ Some r
    by true e is rest true t = is
    by true e is rest false t = absurd (true≢false (sym (ap test (same_Some g r is) ∙ passes) ∙ t))
    by false e is rest true t = absurd (true≢false (sym (only g t) ∙ e))
    by false e is rest false t = rest is

-- a region's grant in force is found by its key in its domain
pub is-local : (c : Configuration) (s : Slot) (low : ℕ) (state : RegionState) (h : Grant) → IsSoundState c s low state → grant_in_state state ≡ Some h → h.local ≡ true
is-local c s low NoRegion h sound is = absurd (true≢false (sym (ap is_some is)))
is-local c s low (Free pages) h sound is = absurd (true≢false (sym (ap is_some is)))
is-local c s low (Registered g) h sound is = ap (λ (x : Grant). x.local) (sym (same_Some g h is)) ∙ sound.local
is-local c s low (FastRegistered pages g) h sound is = ap (λ (x : Grant). x.local) (sym (same_Some g h is)) ∙ sound.local

pub slots-alike : (g r : Grant) (key : Key) (d : DomainId) → (g.local && key_eq g.key key && domain_eq g.domain d) ≡ true → (r.local && key_eq r.key key && domain_eq r.domain d) ≡ true → key_slot_eq (key_slot_of g) (key_slot_of r) ≡ true
slots-alike g r key d one other = both-true _ _
    (eq-eqb _ _ (eqb-true g.domain.adapter d.adapter (and_parts (g.domain.adapter == d.adapter) (g.domain.domain == d.domain) (and_parts (g.local && key_eq g.key key) (domain_eq g.domain d) one).1).0
    ∙ sym (eqb-true r.domain.adapter d.adapter (and_parts (r.domain.adapter == d.adapter) (r.domain.domain == d.domain) (and_parts (r.local && key_eq r.key key) (domain_eq r.domain d) other).1).0)))
    (eq-eqb _ _ (ap (λ n. index_of (record { 0 = n })) (eqb-true g.key.0 key.0 (and_parts g.local (key_eq g.key key) (and_parts (g.local && key_eq g.key key) (domain_eq g.domain d) one).0).1
    ∙ sym (eqb-true r.key.0 key.0 (and_parts r.local (key_eq r.key key) (and_parts (r.local && key_eq r.key key) (domain_eq r.domain d) other).0).1))))

-- the region that a key names is there, and a window may lie in it
pub record IsSeen (w : World) (at : Slot) (d : DomainId) (key : Key) (address count : ℕ) (rights : Rights) : Type 0 where
  pub grant : Grant
  pub is : grant_of_region (w.region at) ≡ Some grant
  pub named : key_eq grant.key key ≡ true
  pub beside : domain_eq grant.domain d ≡ true
  pub local : grant.local ≡ true
  pub holds : may_hold grant address count rights ≡ true

-- where it is found
pub region-found : (c : Configuration) (w : World) (gs : List Grant) (window : Slot → Window) (at : Slot) (d : DomainId) (key : Key) (address count : ℕ) (rights : Rights) → IsSoundWorld c w → AgreeOnGrants gs w.region window → at.slot < 0x8000
    → (seen : IsSeen w at d key address count rights) → find (λ g. g.local && key_eq g.key key && domain_eq g.domain d) gs ≡ Some seen.grant
region-found c w gs window at d key address count rights sound agree small seen = found-by (λ g. g.local && key_eq g.key key && domain_eq g.domain d) (region_key_slot at) gs seen.grant
    (agree.same (region_key_slot at) ∙ at-region-slot w.region window at small ∙ seen.is) passes
    (λ g one. subst (λ k. key_slot_eq (key_slot_of g) k ≡ true) (at-region seen.grant at (w.region at).low parts.0 parts.1) (slots-alike g seen.grant key d one passes))
  where
    parts : (seen.grant.key ≡ key_at (region_index at) (w.region at).low) × (seen.grant.domain ≡ at.domain)
    parts = region-of c at (w.region at).low (w.region at).state seen.grant (sound.things (Region_of at)) seen.is

    passes : (seen.grant.local && key_eq seen.grant.key key && domain_eq seen.grant.domain d) ≡ true
    passes = both-true _ _ (both-true _ _ seen.local seen.named) seen.beside

-- a bind that is not refused names a region in which its window may lie
pub region-seen : (c : Configuration) (w : World) (q : QueuePair) (key : Key) (address count : ℕ) (rights : Rights) (z : Bool) → IsSoundWorld c w → names_region c q.domain key ≡ z
    → AllFail (of_window (binding_refusals (view_named key (named_if w q key z)) address count rights)) → IsSeen w (slot_of_key q.domain key) q.domain key address count rights
region-seen c w q key address count rights false sound has fails = absurd (true≢false fails.0)
region-seen c w q key address count rights true sound has fails = by (grant_of_region (w.region at)) refl fails
  where
    at : Slot
    at = slot_of_key q.domain key

    right : (b lw : Bool) → (b && not lw) ≡ false → (not (b && true) || lw) ≡ true
    right true true e = refl
    right true false e = absurd (true≢false e)
    right false true e = refl
    right false false e = refl

    some : (g : Grant) → grant_of_region (w.region at) ≡ Some g → (b : Bool) → key_eq g.key key ≡ b → AllFail (of_window (binding_refusals (if not b then None else Some (view_of_grant g)) address count rights))
        → IsSeen w at q.domain key address count rights
    some g is false e fails = absurd (true≢false fails.0)
    some g is true e fails = record {
      grant = g;
      is = is;
      named = e;
      beside = subst (λ d. domain_eq d q.domain ≡ true) (sym ((region-of c at (w.region at).low (w.region at).state g (sound.things (Region_of at)) is).1 ∙ (named-region c w q.domain key has).domain)) (domain-refl q.domain);
      local = is-local c at (w.region at).low (w.region at).state g (sound.things (Region_of at)) is;
      holds = both-true _ _ (both-true _ _ (both-true _ _ (not-false g.rights.window_bind fails.1.0) within.0) within.1) (right (rights.remote_write || rights.remote_atomic) g.rights.local_write fails.1.1.0);
    }
      where
        within : (nat_le g.address address ≡ true) × (nat_le (address + count) (g.address + g.length) ≡ true)
        within = and_parts (nat_le g.address address) (nat_le (address + count) (g.address + g.length)) (not-false (is_within address count (view_of_grant g)) fails.1.1.1.0)

    by : (o : Option Grant) → grant_of_region (w.region at) ≡ o → AllFail (of_window (binding_refusals (if has_other_key key o then None else option_map view_of_grant o) address count rights))
        → IsSeen w at q.domain key address count rights
    by None is fails = absurd (true≢false fails.0)
    by (Some g) is fails = some g is (key_eq g.key key) refl fails

-- such a bind's key names a region
pub names-one : (w : World) (q : QueuePair) (key : Key) (address count : ℕ) (rights : Rights) (z : Bool) → AllFail (of_window (binding_refusals (view_named key (named_if w q key z)) address count rights)) → z ≡ true
names-one w q key address count rights false fails = absurd (true≢false fails.0)
names-one w q key address count rights true fails = refl
