-- What the past of a history and a link say alike of one direction of a connection, where the link says the same of it as the
-- world. Laws cite it.
use Rattle.std.specs.Prelude.{◌≡◌, ℕ, ◌<◌, false, if◌then◌else◌, length, List, [], ◌∷◌, Option, None, Some, slice_get}
use Rattle.ca_base.specs.declared.correspondent.Correspondent.{Correspondent}
use Rattle.ca_connection.specs.Layout.{Direction, is_atomic}
use Rattle.ca_connection.specs.Link.{Link, RequestPacket}
use Rattle.ca_keys.specs.declared.names.QueueId.{QueueId}
use Rattle.ca_model.specs.Past.{Envelope, Past, found_of}
use Rattle.ca_model.specs.machine.World.{World}
use Rattle.ca_law_once.specs.Ties.{IsTied}
use Rattle.ca_law_once.specs.Links.{found_at}

-- an envelope that was sent is that of an entry: the life that sends has sent it, and it is of the entry's request; or it is of
-- no request, where the entry belongs to the other direction
abbrev pub IsSentBy : Correspondent → Option RequestPacket → Envelope → Type 0
IsSentBy s None e = e.request ≡ None
IsSentBy s (Some x) e = (e.source ≡ s) × (e.request ≡ Some x.place)

-- the entries of a link are those of the latest envelopes that were sent to a queue pair, in order
abbrev pub AreSentBy : Correspondent → List (Option RequestPacket) → List Envelope → Type 0
AreSentBy s [] es = Unit {0}
AreSentBy s (x ∷ xs) [] = ⊥
AreSentBy s (x ∷ xs) (e ∷ es) = IsSentBy s x e × AreSentBy s xs es

-- An envelope of the life that sends, which can still be delivered, lies at the life that receives, and has its entry.
pub record LiesThere (r : Correspondent) (requests : List (Option RequestPacket)) (n : QueueId) (k : ℕ) : Type 0 where
  pub at : n ≡ r.queue
  pub among : k < length requests

-- A link that moves lead to says the same of the direction from s to r as a world and as a past: the entries at the life that
-- receives are the envelopes that were sent there, no other envelope of the life that sends is under way, and for each of its
-- posted requests the numbers that atomics found are those of the link, for others none.
pub record IsTold (d : Direction) (s r : Correspondent) (past : Past) (w : World) (l : Link) : Type 0 where
  pub tied : IsTied d s r w l
  pub sources : AreSentBy s l.requests (past.envelopes r.queue)
  pub alone : (n : QueueId) (k : ℕ) (e : Envelope) → slice_get (past.envelopes n) k ≡ Some e → e.cut ≡ false
      → e.source ≡ s → LiesThere r l.requests n k
  pub found : (place : ℕ)
      → found_of past s place ≡ (if is_atomic (d.work place) then found_at place l.acceptances else [])
