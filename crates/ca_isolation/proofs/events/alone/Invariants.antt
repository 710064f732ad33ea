use Rattle.std.proofs.Common.{◌≡◌, None, drop, map}
use Rattle.ca_isolation.specs.Groups.{group_of}
use Rattle.ca_keys.specs.Memory.{ByteMap}
use Rattle.ca_isolation.proofs.FollowLemmas.{WalksTo}
use Rattle.ca_isolation.specs.Cover.{covers}
use Rattle.ca_model.specs.Entries.{entry_of}
use Rattle.ca_model.specs.Past.{opening_past}
use Rattle.ca_isolation.proofs.events.alone.Given as goal

abbrev pub invariant-loop-entry : goal.invariant-loop-entry
invariant-loop-entry l = (l.stores.front ≡ None)
    × ((bytes : ByteMap) → WalksTo (group_of l.group) (covers l.cover.items) (map entry_of l.entries) (opening_past bytes) (map entry_of (drop l.entry-index l.entries)) l.stores.events.items l.in_force.items)
