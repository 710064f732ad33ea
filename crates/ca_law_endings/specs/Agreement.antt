-- What the past of a history and the world of the machine say alike: of incarnations, of peers, and of what was sent to
-- whom. Laws cite it.
use Rattle.std.specs.Prelude.{◌≡◌, ℕ, ◌+◌, ◌≤◌, false, length, List, [], ◌∷◌, Option, Some}
use Rattle.std.specs.Option.{option_map, option_and_then}
use Rattle.ca_base.specs.Configuration.{Configuration}
use Rattle.ca_base.specs.declared.correspondent.Correspondent.{Correspondent}
use Rattle.ca_base.specs.declared.limits.TheConstants.{KEPT_ENVELOPES}
use Rattle.ca_base.specs.declared.mail_envelope.MailEnvelope.{MailEnvelope}
use Rattle.ca_base.specs.objects.Mailbox.{Mailbox, is_lost}
use Rattle.ca_base.specs.objects.QueuePair.{QueueSlot, incarnation_of, queue_in}
use Rattle.ca_keys.specs.declared.names.QueueId.{QueueId}
use Rattle.ca_model.specs.Entries.{EntryValue}
use Rattle.ca_model.specs.Past.{Envelope, Naming, Past, after_entry, envelope_sent}
use Rattle.ca_model.specs.machine.Frame.{Afterwards}
use Rattle.ca_model.specs.machine.Step.{step}
use Rattle.ca_model.specs.machine.World.{World}

-- the peer that the queue pair of a slot named
abbrev pub peer_in : QueueSlot → Option Correspondent
peer_in slot = option_and_then (λ q. q.peer) (queue_in slot)

-- the peer of an Rtr
abbrev pub peer_named : Option Naming → Option Correspondent
peer_named naming = option_map (λ n. n.peer) naming

-- the index of each envelope, of those that were ever sent to a queue pair, is how many came before it
abbrev pub AreNumbered : List Envelope → Type 0
AreNumbered [] = Unit {0}
AreNumbered (e ∷ es) = (e.index ≡ length es) × AreNumbered es

-- An envelope of a mailbox is one that was sent: it has its bytes, it is lost exactly where its lot says so, and its
-- target was neither reset nor destroyed since.
pub record IsMailOf (m : MailEnvelope) (e : Envelope) : Type 0 where
  pub bytes : e.bytes ≡ m.bytes
  pub lost : e.lost ≡ is_lost m.lot
  pub uncut : e.cut ≡ false

-- the envelopes of a mailbox are the latest of those that were sent, in order
abbrev pub AreLatest : List MailEnvelope → List Envelope → Type 0
AreLatest [] es = Unit {0}
AreLatest (m ∷ ms) [] = ⊥
AreLatest (m ∷ ms) (e ∷ es) = IsMailOf m e × AreLatest ms es

-- Each slot has the incarnation that was counted, and its queue pair the peer that it named. Its mailbox accepts this peer
-- alone, for this incarnation; its next index is how many envelopes were ever sent to it, of which it has the latest.
pub record AgreeOnPaths (incarnation : QueueId → ℕ) (naming : QueueId → Option Naming) (envelopes : QueueId → List Envelope) (queue : QueueId → QueueSlot) (mailbox : QueueId → Mailbox) : Type 0
  where
    pub incarnations : (q : QueueId) → incarnation_of (queue q) ≡ incarnation q
    pub peers : (q : QueueId) → peer_in (queue q) ≡ peer_named (naming q)
    pub owners : (q : QueueId) → (mailbox q).incarnation ≡ incarnation q
    pub accepted : (q : QueueId) → (mailbox q).peer ≡ peer_named (naming q)
    pub counts : (q : QueueId) → (mailbox q).next ≡ length (envelopes q)
    pub numbered : (q : QueueId) → AreNumbered (envelopes q)
    pub latest : (q : QueueId) → AreLatest (mailbox q).envelopes (envelopes q)

-- what a past and a world say of paths
abbrev pub PathsAgree : Past → World → Type 0
PathsAgree past w = AgreeOnPaths past.incarnation past.naming past.envelopes w.queue w.mailbox

-- bytes were sent to a queue pair with an index: by an envelope among the latest that are kept, which is not lost, and
-- whose target was neither reset nor destroyed since
pub record WereSent (past : Past) (q : QueueId) (index : ℕ) (arrived : List ℕ) : Type 0 where
  pub envelope : Envelope
  pub sent : envelope_sent past q index ≡ Some envelope
  pub bytes : envelope.bytes ≡ arrived
  pub whole : envelope.lost ≡ false
  pub uncut : envelope.cut ≡ false
  pub recent : length (past.envelopes q) ≤ index + KEPT_ENVELOPES

-- a relation of past and world holds before entries and after each of them, from a past and a world on
abbrev pub HoldsAlong : (Past → World → Type 0) → Configuration → Past → World → List EntryValue → Type 0
HoldsAlong R c past w [] = R past w
HoldsAlong R c past w (e ∷ es) = R past w × Afterwards (λ v. HoldsAlong R c (after_entry e past) v es) (step c w e.event)
