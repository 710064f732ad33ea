-- How much is still to be done in a world: at the queue pairs of some names, and in their mailboxes. Laws cite it.
use Rattle.std.specs.Prelude.{◌≡◌, ℕ, ◌+◌, ◌||◌, Bool, false, if◌then◌else◌, List, [], ◌∷◌, sum_by, Some, slice_get}
use Rattle.ca_base.specs.declared.correspondent.Correspondent.{Correspondent}
use Rattle.ca_base.specs.declared.lot.Lot.TheVariants.{Pass}
use Rattle.ca_base.specs.declared.mail_envelope.MailEnvelope.{MailEnvelope}
use Rattle.ca_base.specs.objects.Mailbox.{Mailbox, is_undelivered, later_than}
use Rattle.ca_base.specs.objects.QueuePair.{QueuePair, QueueSlot, NoQueue, Present}
use Rattle.ca_keys.specs.Equal.{queue_eq}
use Rattle.ca_keys.specs.declared.names.QueueId.{QueueId}
use Rattle.ca_model.specs.machine.World.{World}
use Rattle.ca_law_bounds.specs.Weights.{packet_weight, queue_weight}

-- an undelivered envelope weighs what its packet does
abbrev pub envelope_weight : ℕ → MailEnvelope → ℕ
envelope_weight mtu e = if is_undelivered e then packet_weight mtu e.bytes else 0

abbrev pub mail_weight : ℕ → List MailEnvelope → ℕ
mail_weight mtu es = sum_by (envelope_weight mtu) es

-- a queue pair and what is under way to it
abbrev pub pair_weight : QueueSlot → Mailbox → ℕ
pair_weight (NoQueue incarnation timers) m = 0
pair_weight (Present q) m = queue_weight q + mail_weight q.responder.mtu m.envelopes

-- all queue pairs of these names, with these slots and mailboxes
abbrev pub pairs_weight : List QueueId → (QueueId → QueueSlot) → (QueueId → Mailbox) → ℕ
pairs_weight names queues boxes = sum_by (λ n. pair_weight (queues n) (boxes n)) names

abbrev pub world_weight : List QueueId → World → ℕ
world_weight names w = pairs_weight names w.queue w.mailbox

-- a name is among others
abbrev pub is_among_names : QueueId → List QueueId → Bool
is_among_names n [] = false
is_among_names n (m ∷ ms) = queue_eq n m || is_among_names n ms

-- each name stands once
abbrev pub AreApart : List QueueId → Type 0
AreApart [] = Unit {0}
AreApart (n ∷ ns) = (is_among_names n ns ≡ false) × AreApart ns

-- the envelope of an index wants one delivery, and had none
pub record IsFreshAt (index : ℕ) (m : Mailbox) : Type 0 where
  pub envelope : MailEnvelope
  pub at : slice_get m.envelopes (later_than index m) ≡ Some envelope
  pub pass : envelope.lot ≡ Pass
  pub fresh : envelope.delivered ≡ 0

-- the next PSN that the queue pair of a slot sends
abbrev pub cursor_of : QueueSlot → ℕ
cursor_of (NoQueue incarnation timers) = 0
cursor_of (Present q) = q.requester.cursor

-- the peer that a queue pair named has the same path MTU
abbrev pub SharesWidth : World → QueuePair → Type 0
SharesWidth w q = (p : Correspondent) (t : QueuePair) → q.peer ≡ Some p → w.queue p.queue ≡ Present t → t.responder.mtu ≡ q.responder.mtu
