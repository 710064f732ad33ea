-- When a world and a link say the same of one direction of a connection: of the life that sends and the life that receives.
-- Laws cite it.
use Rattle.std.specs.Prelude.{◌≡◌, ℕ, suc, ◌<◌, ◌==◌, ◌++◌, true, false, if◌then◌else◌, List, [], ◌∷◌, Option, None, Some, slice_get, replicate}
use Rattle.ca_law_endings.specs.Agreement.{peer_in}
use Rattle.ca_base.specs.declared.change.State.TheVariants as states
use Rattle.ca_base.specs.declared.correspondent.Correspondent.{Correspondent}
use Rattle.ca_base.specs.declared.mail_envelope.MailEnvelope.{MailEnvelope}
use Rattle.ca_base.specs.objects.Mailbox.{Mailbox, later_than}
use Rattle.ca_base.specs.objects.QueuePair.{QueuePair, QueueSlot, Present, incarnation_of, is_present}
use Rattle.ca_connection.specs.Layout.{Direction, is_atomic, is_write}
use Rattle.ca_connection.specs.Link.{Link, RequestPacket, Requester, Responder, Response, opening}
use Rattle.ca_connection.specs.Moves.{Reached}
use Rattle.ca_connection.specs.Once.{numbers_at}
use Rattle.ca_keys.specs.Equal.{queue_eq}
use Rattle.ca_keys.specs.declared.names.QueueId.{QueueId}
use Rattle.ca_model.specs.declared.mark.Mark.{Mark}
use Rattle.ca_model.specs.declared.mark.Mark.TheVariants as marks
use Rattle.ca_model.specs.declared.verb.Verb.{Verb}
use Rattle.ca_model.specs.declared.verb.Verb.TheVariants as verbs
use Rattle.ca_model.specs.machine.Invariants.{is_sending}
use Rattle.ca_model.specs.machine.World.{World}
use Rattle.ca_law_once.specs.Entries.{SpellsRequest, SpellsResponse, SpellsSomeRequest, SpellsSomeResponse}
use Rattle.ca_law_once.specs.Links.{found_at}
use Rattle.ca_law_once.specs.Moves.{numbers_found, writes_told}
use Rattle.ca_law_once.specs.Sides.{IsLaid, requester_in, responder_in}

-- the envelopes of a mailbox, the newest first, stand for entries of a link: each is of one of this direction's packets, or
-- of the other direction; a mailbox keeps fewer than a link
abbrev pub AreEntries : {X : Type 0} → (X → List ℕ → Type 0) → (List ℕ → Type 0) → List MailEnvelope → List (Option X) → Type 0
AreEntries Own Other [] xs = Unit {0}
AreEntries Own Other (m ∷ ms) [] = ⊥
AreEntries Own Other (m ∷ ms) (None ∷ xs) = Other m.bytes × AreEntries Own Other ms xs
AreEntries Own Other (m ∷ ms) (Some x ∷ xs) = Own x m.bytes × AreEntries Own Other ms xs

-- A life has no peer yet: it has not come, or it is there and has named none.
pub data IsBefore (life : Correspondent) (slot : QueueSlot) : Type 0 where
  sooner : incarnation_of slot < life.incarnation → IsBefore life slot
  unnamed : (q : QueuePair) → slot ≡ Present q → q.incarnation ≡ life.incarnation → q.peer ≡ None → IsBefore life slot

-- A life is over: a later one is there, or its queue pair was destroyed.
pub data IsOver (life : Correspondent) (slot : QueueSlot) : Type 0 where
  later : life.incarnation < incarnation_of slot → IsOver life slot
  vacant : is_present slot ≡ false → incarnation_of slot ≡ life.incarnation → IsOver life slot

-- A life is there, and has named this peer, with the path MTU of the direction.
pub record IsPaired (d : Direction) (life peer : Correspondent) (slot : QueueSlot) (q : QueuePair) : Type 0 where
  pub present : slot ≡ Present q
  pub incarnation : q.incarnation ≡ life.incarnation
  pub names : q.peer ≡ Some peer
  pub mtu : q.responder.mtu ≡ d.mtu

-- The life that receives, r, which names s: its responder, and the requests in its mailbox.
pub data ReceiverTie (d : Direction) (s r : Correspondent) (slot : QueueSlot) (m : Mailbox) (responder : Responder) (requests : List (Option RequestPacket)) : Type 0 where
  before : IsBefore r slot → responder ≡ (opening d).responder → requests ≡ [] → ReceiverTie d s r slot m responder requests
  standing : (q : QueuePair) → IsPaired d r s slot q → responder ≡ responder_in q → AreEntries (SpellsRequest d) SpellsSomeResponse m.envelopes requests
      → ReceiverTie d s r slot m responder requests
  gone : IsOver r slot → requests ≡ [] → ReceiverTie d s r slot m responder requests

-- what the link's requester is where the life that sends stands in its state: nothing is said of it in Error
pub record RequesterTie (d : Direction) (q : QueuePair) (requester : Requester) : Type 0 where
  pub fresh : q.state ≡ states.Rtr → requester ≡ (opening d).requester
  pub sending : is_sending q.state ≡ true → requester ≡ requester_in q
  pub laid : is_sending q.state ≡ true → IsLaid d q

-- The life that sends, s, which names r: its requester, and the responses in its mailbox.
pub data SenderTie (d : Direction) (s r : Correspondent) (slot : QueueSlot) (m : Mailbox) (requester : Requester) (responses : List (Option Response)) : Type 0 where
  before : IsBefore s slot → requester ≡ (opening d).requester → responses ≡ [] → SenderTie d s r slot m requester responses
  standing : (q : QueuePair) → IsPaired d s r slot q → RequesterTie d q requester → AreEntries SpellsResponse SpellsSomeRequest m.envelopes responses
      → SenderTie d s r slot m requester responses
  gone : IsOver s slot → responses ≡ [] → SenderTie d s r slot m requester responses

-- A link that moves lead to says the same of the direction from s to r as a world.
pub record IsTied (d : Direction) (s r : Correspondent) (w : World) (l : Link) : Type 0 where
  pub apart : queue_eq s.queue r.queue ≡ false
  pub reached : Reached d l
  pub sender : SenderTie d s r (w.queue s.queue) (w.mailbox s.queue) l.requester l.responses
  pub receiver : ReceiverTie d s r (w.queue r.queue) (w.mailbox r.queue) l.responder l.requests

-- How an event changes the requests under way to the life that receives, from one world to another: it leaves them; or none is
-- left, since the life that stood there is over; or one more was sent there.
pub data RequestsAfter (r : Correspondent) (w v : World) (before after : List (Option RequestPacket)) : Type 0 where
  same : after ≡ before → RequestsAfter r w v before after
  ended : after ≡ [] → is_present (w.queue r.queue) ≡ true → IsOver r (v.queue r.queue) → RequestsAfter r w v before after
  grown : (x : Option RequestPacket) → after ≡ x ∷ before → (v.mailbox r.queue).next ≡ suc (w.mailbox r.queue).next → RequestsAfter r w v before after

-- An event leads from one world to another with these numbers found by atomics, and these packets of WRITEs written, by the
-- place of their requests: a link says the same of the direction afterwards, its atomics found these more and no other request
-- found any, and of its WRITEs these packets more were accepted, and no packet of another request wrote.
pub record TiedAfter (d : Direction) (s r : Correspondent) (w : World) (l : Link) (acted written : ℕ → List ℕ) (v : World) : Type 0 where
  pub link : Link
  pub tied : IsTied d s r v link
  pub found : (place : ℕ) → is_atomic (d.work place) ≡ true → found_at place link.acceptances ≡ acted place ++ found_at place l.acceptances
  pub plain : (place : ℕ) → is_atomic (d.work place) ≡ false → acted place ≡ []
  pub wrote : (place : ℕ) → is_write (d.work place) ≡ true → numbers_at place link.acceptances ≡ written place ++ numbers_at place l.acceptances
  pub unwritten : (place : ℕ) → is_write (d.work place) ≡ false → written place ≡ []
  pub requests : RequestsAfter r w v l.requests link.requests

-- the packets that were sent to a queue pair with an index, by their marks: from which queue pair, and of which request
abbrev pub sent_to : QueueId → List Mark → List (QueueId × Option ℕ)
sent_to n [] = []
sent_to n (marks.Sent source target (Some index) request bytes ∷ ms) = if queue_eq target n then (source, request) ∷ sent_to n ms else sent_to n ms
sent_to n (m ∷ ms) = sent_to n ms

-- A packet that was sent, from this queue pair and of this request, is that of an entry: of the life that sends, which stands
-- there, and of the entry's request; or of no request, where the entry belongs to the other direction.
abbrev pub IsSentFor : Correspondent → World → Option RequestPacket → QueueId → Option ℕ → Type 0
IsSentFor s w None source request = request ≡ None
IsSentFor s w (Some x) source request = (source ≡ s.queue) × (incarnation_of (w.queue s.queue) ≡ s.incarnation) × (request ≡ Some x.place)

-- What the marks of a turn tell of the requests under way to the life that receives: the turn sends nothing to anybody; it
-- sends nothing there; the life is not there, or has not named the other one; or the one packet that it sends there is that of
-- the one entry more.
pub data RequestsTold (d : Direction) (s r : Correspondent) (w : World) (ms : List Mark) (before after : List (Option RequestPacket)) : Type 0 where
  silent : ((n : QueueId) → sent_to n ms ≡ []) → RequestsTold d s r w ms before after
  kept : after ≡ before → sent_to r.queue ms ≡ [] → RequestsTold d s r w ms before after
  absent : after ≡ before → ((q : QueuePair) → IsPaired d r s (w.queue r.queue) q → ⊥) → RequestsTold d s r w ms before after
  grown : (x : Option RequestPacket) (source : QueueId) (request : Option ℕ) → after ≡ x ∷ before → sent_to r.queue ms ≡ (source, request) ∷ []
      → IsSentFor s w x source request → RequestsTold d s r w ms before after

-- A turn leads so from one world to another, and its marks tell of the requests under way.
pub record TurnAfter (d : Direction) (s r : Correspondent) (w : World) (l : Link) (ms : List Mark) (v : World) : Type 0 where
  pub after : TiedAfter d s r w l (λ place. []) (λ place. []) v
  pub told : RequestsTold d s r w ms l.requests after.link.requests

-- the numbers found at the atomic of a place, where this entry was delivered and the marks tell of these
abbrev pub found_by : Option (Option RequestPacket) → List ℕ → ℕ → List ℕ
found_by (Some (Some x)) numbers place = if x.place == place then numbers else []
found_by entry numbers place = []

-- the same of a delivery by an index to a queue pair: only the packet of the request at this place finds them
abbrev pub found_by_delivery : Correspondent → World → Link → QueueId → ℕ → List Mark → ℕ → List ℕ
found_by_delivery r w l name index ms place =
    if queue_eq name r.queue then found_by (slice_get l.requests (later_than index (w.mailbox name))) (numbers_found ms) place else []

-- the numbers of the packets of a WRITE that wrote, where this entry was delivered and so many remote writes are told
abbrev pub written_by_entry : Option (Option RequestPacket) → ℕ → ℕ → List ℕ
written_by_entry (Some (Some x)) count place = if x.place == place then replicate count x.number else []
written_by_entry entry count place = []

-- the same of a delivery by an index to a queue pair
abbrev pub written_by_delivery : Correspondent → World → Link → QueueId → ℕ → List Mark → ℕ → List ℕ
written_by_delivery r w l name index ms place =
    if queue_eq name r.queue then written_by_entry (slice_get l.requests (later_than index (w.mailbox name))) (writes_told ms) place else []

-- Each mailbox accepts the peer that its queue pair has named, for the incarnation that stands there.
pub record MailFollows (w : World) : Type 0 where
  pub owners : (n : QueueId) → (w.mailbox n).incarnation ≡ incarnation_of (w.queue n)
  pub peers : (n : QueueId) → (w.mailbox n).peer ≡ peer_in (w.queue n)

-- the verbs that change no queue pair and no mailbox
abbrev pub LeavesPairs : Verb → Type 0
LeavesPairs (verbs.CreateQp slot send_cq recv_cq send_depth recv_depth srq) = ⊥
LeavesPairs (verbs.ModifyQp slot change) = ⊥
LeavesPairs (verbs.DestroyQp slot) = ⊥
LeavesPairs (verbs.PostSend slot request) = ⊥
LeavesPairs (verbs.PostRecv slot request) = ⊥
LeavesPairs (verbs.Poll slot n least) = ⊥
LeavesPairs (verbs.DeallocMw slot) = ⊥
LeavesPairs (verbs.Inject queue bytes) = ⊥
LeavesPairs verb = Unit {0}
