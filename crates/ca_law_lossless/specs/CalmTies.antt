-- When a world and a calm link say the same of one direction of a connection: the link's numbers are those of the two queue
-- pairs, and what is undelivered of it are the envelopes that the two mailboxes have not delivered. Laws cite it.
use Rattle.std.specs.Prelude.{◌≡◌, ℕ, zero, suc, ◌≤◌, true, false, List, [], ◌∷◌, Option, None}
use Rattle.ca_base.specs.declared.change.State.TheVariants as states
use Rattle.ca_base.specs.declared.correspondent.Correspondent.{Correspondent}
use Rattle.ca_base.specs.declared.lot.Lot.TheVariants.{Pass}
use Rattle.ca_base.specs.declared.mail_envelope.MailEnvelope.{MailEnvelope}
use Rattle.ca_base.specs.objects.Mailbox.{Mailbox, is_undelivered}
use Rattle.ca_base.specs.objects.QueuePair.{QueuePair, QueueSlot, Present}
use Rattle.ca_connection.specs.Layout.{Direction}
use Rattle.ca_connection.specs.Link.{RequestPacket, Requester, Responder, Response, opening}
use Rattle.ca_connection.specs.Moves.{Reached}
use Rattle.ca_connection.specs.Calm.{CalmLink, IsCalm, Standing}
use Rattle.ca_connection.specs.Calm.Standing.{Accepting}
use Rattle.ca_model.specs.machine.Invariants.{is_connected, is_fresh, is_sending}
use Rattle.ca_model.specs.machine.World.{World}
use Rattle.ca_law_lossless.specs.Standing.{SpellsPlainly, StandsIn}
use Rattle.ca_law_once.specs.Ties.{AreEntries, IsBefore, IsPaired}
use Rattle.ca_law_once.specs.Entries.{SpellsRequest, SpellsSomeRequest, SpellsSomeResponse}
use Rattle.ca_law_once.specs.Sides.{requester_in, responder_in}

-- Of the envelopes of a mailbox, the newest first, so many pass and had no delivery; all others had what they want.
abbrev pub AreFresh : ℕ → List MailEnvelope → Type 0
AreFresh zero [] = Unit {0}
AreFresh zero (e ∷ es) = (is_undelivered e ≡ false) × AreFresh zero es
AreFresh (suc k) [] = ⊥
AreFresh (suc k) (e ∷ es) = ((e.lot ≡ Pass) × (e.delivered ≡ 0)) × AreFresh k es

-- The queue pair that receives says what the link's responder says, stands as it does, and the undelivered requests are
-- the undelivered envelopes of its mailbox.
pub record HasReceiver (d : Direction) (q : QueuePair) (m : Mailbox) (responder : Responder) (requests : List (Option RequestPacket)) (k : ℕ) (standing : Standing) : Type 0 where
  pub same : responder ≡ responder_in q
  pub entries : AreEntries (SpellsRequest d) SpellsSomeResponse m.envelopes requests
  pub fresh : AreFresh k m.envelopes
  pub stands : StandsIn standing q

-- The life that receives: before it named the life that sends all is as it opens; from then on it says the same. A
-- queue pair without a peer has sent no NAK.
pub record ReceiverCalm (d : Direction) (s r : Correspondent) (slot : QueueSlot) (m : Mailbox) (responder : Responder) (requests : List (Option RequestPacket)) (k : ℕ) (standing : Standing) : Type 0 where
  pub before : IsBefore r slot → (responder ≡ (opening d).responder) × (requests ≡ []) × (k ≡ 0) × (standing ≡ Accepting)
  pub unnamed : (q : QueuePair) → slot ≡ Present q → q.peer ≡ None → q.responder.nak_sent ≡ false
  pub paired : (q : QueuePair) → IsPaired d r s slot q → HasReceiver d q m responder requests k standing

-- The queue pair that sends says what the link's requester says, and the undelivered responses are the undelivered
-- envelopes of its mailbox.
pub record HasSender (d : Direction) (q : QueuePair) (m : Mailbox) (requester : Requester) (responses : List (Option Response)) (k : ℕ) : Type 0 where
  pub opens : q.state ≡ states.Rtr → requester ≡ (opening d).requester
  pub sending : is_sending q.state ≡ true → requester ≡ requester_in q
  pub entries : AreEntries SpellsPlainly SpellsSomeRequest m.envelopes responses
  pub fresh : AreFresh k m.envelopes

-- The life that sends, until it is in Error or over.
pub record SenderCalm (d : Direction) (s r : Correspondent) (slot : QueueSlot) (m : Mailbox) (requester : Requester) (responses : List (Option Response)) (k : ℕ) : Type 0 where
  pub before : IsBefore s slot → (requester ≡ (opening d).requester) × (responses ≡ []) × (k ≡ 0)
  pub paired : (q : QueuePair) → IsPaired d s r slot q → is_connected q.state ≡ true → HasSender d q m requester responses k

-- A calm link that moves lead to says the same of the direction from s to r as a world.
pub record IsCalmlyTied (d : Direction) (s r : Correspondent) (w : World) (c : CalmLink) : Type 0 where
  pub reached : Reached d c.link
  pub calm : IsCalm d c
  pub sender : SenderCalm d s r (w.queue s.queue) (w.mailbox s.queue) c.link.requester c.link.responses c.responses
  pub receiver : ReceiverCalm d s r (w.queue r.queue) (w.mailbox r.queue) c.link.responder c.link.requests c.requests c.standing

-- The requester of a life goes on: once it sends, its cursor is not lowered from one world to the other.
abbrev pub CursorGoesOn : Correspondent → World → World → Type 0
CursorGoesOn s w v = (q p : QueuePair) → w.queue s.queue ≡ Present q → v.queue s.queue ≡ Present p → q.incarnation ≡ s.incarnation
    → p.incarnation ≡ s.incarnation → is_fresh q.state ≡ false → q.requester.cursor ≤ p.requester.cursor

-- A world is tied to a calm link after an event, and the requester's cursor was not lowered.
pub record CalmAfter (d : Direction) (s r : Correspondent) (w v : World) : Type 0 where
  pub link : CalmLink
  pub tied : IsCalmlyTied d s r v link
  pub cursor : CursorGoesOn s w v
