-- Key slots: each has one grant in force at most, so that an ask can be judged by the grant of its key's slot alone.
-- Contracts cite it.
use Rattle.std.specs.Prelude.{◌≡◌, Bool, false, ◌==◌, ◌&&◌, List, [], ◌∷◌, Option, find}
use Rattle.std.specs.List.{AllByRecursion}
use Rattle.std.specs.Option.{option_map_or}
use Rattle.ca_keys.specs.declared.access.Ask.{Ask}
use Rattle.ca_keys.specs.declared.grant.Grant.{Grant}
use Rattle.ca_keys.specs.declared.key.Key.{Key}
use Rattle.ca_keys.specs.declared.names.DomainId.{DomainId}
use Rattle.ca_keys.specs.Numbers.{index_of}

-- the grant's key stands in the key slot that this key has at a domain's adapter
abbrev pub is_at_slot_of : DomainId → Key → Grant → Bool
is_at_slot_of d key g = (g.domain.adapter == d.adapter) && (index_of g.key == index_of key)

-- each key slot has one of these grants at most
abbrev pub HaveSlotsApart : List Grant → Type 0
HaveSlotsApart [] = Unit {0}
HaveSlotsApart (g ∷ grants) = AllByRecursion (λ h. is_at_slot_of g.domain g.key h ≡ false) grants × HaveSlotsApart grants

-- the grant in the key slot of an ask's key, if there is one
abbrev pub grant_in_slot : Ask → List Grant → Option Grant
grant_in_slot ask grants = find (is_at_slot_of ask.domain ask.key) grants

-- a list of this grant, if there is one
abbrev pub list_of_grant : Option Grant → List Grant
list_of_grant g = option_map_or (λ g. g ∷ []) g []
