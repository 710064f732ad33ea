-- Before the first event a world is tied to the link before the first packet.
use Rattle.std.proofs.Common.{◌≡◌, ◌<◌, ◌≤◌, false, refl}
use Rattle.ca_base.specs.declared.correspondent.Correspondent.{Correspondent}
use Rattle.ca_base.specs.declared.limits.TheConstants.{MIN_PATH_MTU}
use Rattle.ca_connection.specs.Layout.{Direction}
use Rattle.ca_connection.specs.Link.{opening}
use Rattle.ca_connection.specs.Moves.Reached.{begin as reached_begin}
use Rattle.ca_keys.specs.Equal.{queue_eq}
use Rattle.ca_keys.specs.Memory.{ByteMap}
use Rattle.ca_model.specs.machine.World.{opening_world}
use Rattle.ca_law_once.specs.Ties.{IsTied}
use Rattle.ca_law_once.specs.Ties.IsBefore.{sooner}
use Rattle.ca_law_once.specs.Ties.ReceiverTie.{before as receiver_before}
use Rattle.ca_law_once.specs.Ties.SenderTie.{before as sender_before}

pub opening-tied : (d : Direction) (s r : Correspondent) (bytes : ByteMap) → MIN_PATH_MTU ≤ d.mtu → queue_eq s.queue r.queue ≡ false → 0 < s.incarnation → 0 < r.incarnation → IsTied d s r (opening_world bytes) (opening d)
opening-tied d s r bytes wide apart sends receives = record {
  apart = apart;
  reached = reached_begin wide;
  sender = sender_before (sooner sends) refl refl;
  receiver = receiver_before (sooner receives) refl refl;
}
