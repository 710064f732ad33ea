-- The grants for which a window and a region stand, as parts that an ask's key names. Contracts cite it.
use Rattle.std.specs.Prelude.{◌≡◌, ◌+◌, ◌≤◌, List, Option, None, Some}
use Rattle.std.specs.Option.{option_map, option_and_then}
use Rattle.ca_keys.specs.declared.access.Ask.{Ask}
use Rattle.ca_keys.specs.declared.grant.Grant.{Grant}
use Rattle.ca_base.specs.objects.Region.{Region, grant_of_region}
use Rattle.ca_base.specs.objects.Window.{Window, Binding, grant_of_binding}
use Rattle.ca_grant.specs.KeySlot.{list_of_grant}

-- the grant for which a window stands, while it is bound, over what its region grants
abbrev pub grant_of_bound : Window → Option Grant → Option Grant
grant_of_bound w region = option_and_then (λ b. option_map (grant_of_binding w b) region) w.binding

-- the grant for which parts stand: the window's, where there is one, over its region; and else the region's
abbrev pub grant_of_parts : Option Window → Option Region → Option Grant
grant_of_parts None r = option_and_then grant_of_region r
grant_of_parts (Some w) r = grant_of_bound w (option_and_then grant_of_region r)

-- the grants for which parts stand, of which there is one at most
abbrev pub grants_of_parts : Option Window → Option Region → List Grant
grants_of_parts w r = list_of_grant (grant_of_parts w r)

-- the grant is of the ask's adapter, if there is one
abbrev pub IsOfAdapter : Ask → Option Grant → Type 0
IsOfAdapter ask None = Unit {0}
IsOfAdapter ask (Some g) = g.domain.adapter ≡ ask.domain.adapter

-- a binding's range is within what the region grants
abbrev pub LiesWithin : Option Binding → Option Grant → Type 0
LiesWithin None region = Unit {0}
LiesWithin (Some b) None = Unit {0}
LiesWithin (Some b) (Some g) = (g.address ≤ b.address) × (b.address + b.length ≤ g.address + g.length)

-- a window lies in its region
abbrev pub LiesInRegion : Option Window → Option Region → Type 0
LiesInRegion None r = Unit {0}
LiesInRegion (Some w) r = LiesWithin w.binding (option_and_then grant_of_region r)
