-- The sender and the peer of a call, as correspondents. Contracts cite it.
use Rattle.std.specs.Prelude.{ℕ, Option}
use Rattle.std.specs.Option.{option_map}
use Rattle.ca_base.specs.ca_keys.declared.names.QueueId.{QueueId}
use Rattle.ca_base.specs.declared.correspondent.Correspondent.{Correspondent}

-- a queue pair with its incarnation
abbrev pub sender_of : QueueId × ℕ → Correspondent
sender_of s = record { queue = s.0; incarnation = s.1 }

-- the peer that is named, or none
abbrev pub peer_of : Option (QueueId × ℕ) → Option Correspondent
peer_of peer = option_map sender_of peer
