-- What is seen of keys and memory by the windows, the regions and the buffers in hand. Contracts cite it.
use Rattle.std.specs.Prelude.{ℕ, not, if◌then◌else◌, List, Option, None, Some}
use Rattle.std.specs.Option.{option_and_then, option_map, option_map_or}
use Rattle.ca_keys.specs.declared.grant.Grant.{Grant}
use Rattle.ca_keys.specs.declared.key.Key.{Key}
use Rattle.ca_keys.specs.declared.names.DomainId.{DomainId}
use Rattle.ca_keys.specs.declared.names.Slot.{Slot}
use Rattle.ca_keys.specs.Allowed.{grant_for}
use Rattle.ca_keys.specs.Equal.{slot_eq}
use Rattle.ca_keys.specs.Memory.{ByteMap}
use Rattle.ca_keys.specs.Numbers.{is_window_key}
use Rattle.ca_base.specs.declared.refusals.OpRefusal.{OpRefusal}
use Rattle.ca_base.specs.Sight.{Invalidation, Sight}
use Rattle.ca_base.specs.objects.LocalRequest.{region_refusal, unnamed_refusal, window_refusal}
use Rattle.ca_base.specs.objects.Region.{Region, grant_of_region, vacant_region}
use Rattle.ca_base.specs.objects.Slices.{is_key_of, slot_of_key}
use Rattle.ca_base.specs.objects.Window.{Binding, Window, grant_of_binding, vacant_window}
use Rattle.ca_grant.specs.KeySlot.{list_of_grant}
use Rattle.ca_grant.specs.ca_memory.Buffer.{memory_of}
use Rattle.ca_adapter_reach.specs.declared.shelf.Named.{Named}
use Rattle.ca_adapter_reach.specs.Shelved.{thing_under}
use Rattle.ca_adapter_reach.specs.declared.reached.BufferId.{BufferId}
use Rattle.ca_adapter_reach.specs.declared.reached.Reached.{Reached}
use Rattle.ca_adapter_reach.specs.Names.{buffer_eq, buffer_of}

-- what stands there, or else what is vacant
abbrev pub or_vacant : {A : Type 0} → A → Option A → A
or_vacant vacant o = option_map_or (λ v. v) o vacant

-- the region in a slot, vacant where none is in hand
abbrev pub region_in : Reached → Slot → Region
region_in r s = or_vacant vacant_region (thing_under slot_eq s r.regions.things)

-- the window in a slot, vacant where none is in hand
abbrev pub window_in : Reached → Slot → Window
window_in r s = or_vacant (vacant_window s) (thing_under slot_eq s r.windows.things)

-- the byte at a place, 0 where its buffer is not in hand
abbrev pub byte_in : List (Named BufferId (List ℕ)) → ByteMap
byte_in buffers p = option_map_or (λ bytes. memory_of bytes p) (thing_under buffer_eq (buffer_of p) buffers) 0

-- the slot of the region in which a window is bound
abbrev pub slot_under : Window → Binding → Slot
slot_under w b = record { domain = w.slot.domain; slot = b.region }

-- the region in which a window is bound, if it is bound and the region is in hand
abbrev pub found_under : List (Named Slot Region) → Window → Option Region
found_under regions w = option_and_then (λ b. thing_under slot_eq (slot_under w b) regions) w.binding

-- the grant for which a window stands, over that of the region in which it is bound
abbrev pub grant_of_window : (Slot → Region) → Window → Option Grant
grant_of_window region w =
    option_and_then (λ b. option_map (grant_of_binding w b) (grant_of_region (region (slot_under w b)))) w.binding

-- the grant for which the part stands that a key names in a domain; a key of another domain names none
abbrev pub grant_named : (Slot → Region) → (Slot → Window) → DomainId → Key → Option Grant
grant_named region window d key =
    if not (is_key_of d key) then None
    else if is_window_key key then grant_of_window region (window (slot_of_key d key))
    else grant_of_region (region (slot_of_key d key))

-- why the end of a key is refused, by the part that the key names in its domain
abbrev pub refusal_named : (Slot → Region) → (Slot → Window) → Invalidation → Option OpRefusal
refusal_named region window i =
    if not (is_key_of i.domain i.key) then Some (unnamed_refusal i.key)
    else if is_window_key i.key then window_refusal i.key i.queue (window (slot_of_key i.domain i.key))
    else region_refusal i.key (region (slot_of_key i.domain i.key))

-- what is seen of keys and memory by the parts in hand
abbrev pub sight_of : Reached → Sight
sight_of r = record {
  grant = λ ask. grant_for ask (list_of_grant (grant_named (region_in r) (window_in r) ask.domain ask.key));
  byte = byte_in r.buffers.things;
  refusal = refusal_named (region_in r) (window_in r);
}
