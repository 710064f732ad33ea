-- Parts in hand that fit each other are as the key check wants them. For proofs only.
use Rattle.std.proofs.Common.{ℕ, ◌+◌, ◌<◌, ◌≤◌, ◌≡◌, ◌∙◌, refl, sym, ap, subst, List, Option, None, Some, IfSome}
use Rattle.std.specs.Option.{option_and_then, option_map}
use Rattle.ca_keys.specs.declared.access.Ask.{Ask}
use Rattle.ca_keys.specs.declared.grant.Grant.{Grant}
use Rattle.ca_keys.specs.declared.names.Slot.{Slot}
use Rattle.ca_base.specs.objects.Region.{Region, grant_of_region, vacant_region}
use Rattle.ca_base.specs.objects.Window.{Binding, Window, grant_of_binding}
use Rattle.ca_grant.specs.Parts.{IsOfAdapter, LiesWithin}
use Rattle.ca_keys.specs.Equal.{slot_eq}
use Rattle.ca_adapter_reach.specs.declared.shelf.Named.{Named}
use Rattle.ca_adapter_reach.specs.Shelved.{thing_under}
use Rattle.ca_adapter_reach.specs.AtHand.{LiesInValid}
use Rattle.ca_adapter_reach.specs.Seen.{or_vacant, slot_under}

-- a grant of a slot's domain is of its adapter
of-adapter : (ask : Ask) (s : Slot) (o : Option Grant) → s.domain.adapter ≡ ask.domain.adapter → IfSome o (λ g. g.domain ≡ s.domain) → IsOfAdapter ask o
of-adapter ask s None adapter fits = tt
of-adapter ask s (Some g) adapter fits = ap (λ d. d.adapter) fits ∙ adapter

-- the region in a slot that is in hand serves the key check
pub by_region : (ask : Ask) (s : Slot) (region : Region) (o : Option Region) → s.domain.adapter ≡ ask.domain.adapter
    → Some region ≡ o → IfSome (grant_of_region (or_vacant vacant_region o)) (λ g. g.domain ≡ s.domain) → IsOfAdapter ask (grant_of_region region)
by_region ask s region None adapter is fits = cc
by_region ask s region (Some other) adapter is fits =
    let P : Option Region → Type 0 = λ o. IfSome (grant_of_region (or_vacant vacant_region o)) (λ g. g.domain ≡ s.domain) in
    of-adapter ask s (grant_of_region region) adapter (subst P (sym is) fits)

module _ (ask : Ask) (w : Window) (regions : List (Named Slot Region)) where
  -- a window's grant over the region that was found under it is its grant over all regions
  pub grants_same : (o : Option Binding)
      → option_and_then (λ b. option_map (grant_of_binding w b) (option_and_then grant_of_region (option_and_then (λ b. thing_under slot_eq (slot_under w b) regions) o))) o
      ≡ option_and_then (λ b. option_map (grant_of_binding w b) (grant_of_region (or_vacant vacant_region (thing_under slot_eq (slot_under w b) regions)))) o
  grants_same None = refl
  grants_same (Some b) = ap (option_map (grant_of_binding w b)) (same (thing_under slot_eq (slot_under w b) regions))
    where
      same : (o : Option Region) → option_and_then grant_of_region o ≡ grant_of_region (or_vacant vacant_region o)
      same None = refl
      same (Some region) = refl

  -- a window's grant is of its adapter
  pub bound_of_adapter : w.slot.domain.adapter ≡ ask.domain.adapter → (o : Option Binding) (x : Option Grant)
      → IsOfAdapter ask (option_and_then (λ b. option_map (grant_of_binding w b) x) o)
  bound_of_adapter adapter None x = tt
  bound_of_adapter adapter (Some b) None = tt
  bound_of_adapter adapter (Some b) (Some g) = adapter

  -- a window lies in the region that was found under it
  pub lies_found : (o : Option Binding)
      → IfSome o (λ b. LiesInValid b (or_vacant vacant_region (thing_under slot_eq (slot_under w b) regions)))
      → LiesWithin o (option_and_then grant_of_region (option_and_then (λ b. thing_under slot_eq (slot_under w b) regions) o))
  lies_found None lies = tt
  lies_found (Some b) lies = by (thing_under slot_eq (slot_under w b) regions) lies
    where
      in-grant : (x : Option Grant) (n : ℕ) → IfSome x (λ g. ((g.address ≤ b.address) × (b.address + b.length ≤ g.address + g.length)) × (0 < n)) → LiesWithin (Some b) x
      in-grant None n lies = tt
      in-grant (Some g) n lies = lies.0

      by : (o : Option Region) → LiesInValid b (or_vacant vacant_region o) → LiesWithin (Some b) (option_and_then grant_of_region o)
      by None lies = tt
      by (Some region) lies = in-grant (grant_of_region region) region.bound lies
