-- When what a verb did agrees with one direction of a connection: with the two lives, their path MTU, the first PSN and
-- the requests by place. Laws cite it.
use Rattle.std.specs.Prelude.{◌≡◌, ℕ, true, List, [], ◌∷◌}
use Rattle.ca_base.specs.declared.change.Change.{Change}
use Rattle.ca_base.specs.declared.change.Change.TheVariants as changes
use Rattle.ca_base.specs.declared.correspondent.Correspondent.{Correspondent}
use Rattle.ca_base.specs.declared.request.SendOp.{SendOp}
use Rattle.ca_base.specs.objects.QueuePair.{QueueSlot, NoQueue, Present, incarnation_of}
use Rattle.ca_base.specs.objects.WorkQueue.{next_place}
use Rattle.ca_connection.specs.Layout.{Direction}
use Rattle.ca_connection.specs.Link.{Link}
use Rattle.ca_keys.specs.Equal.{queue_eq}
use Rattle.ca_keys.specs.Numbers.{queue_of}
use Rattle.ca_keys.specs.declared.names.QueueId.{QueueId}
use Rattle.ca_model.specs.declared.answer.Answer.{Answer}
use Rattle.ca_model.specs.declared.answer.Answer.TheVariants as answers
use Rattle.ca_model.specs.declared.event.Event.{Event}
use Rattle.ca_model.specs.declared.event.Event.TheVariants as events
use Rattle.ca_model.specs.declared.mark.Mark.{Mark}
use Rattle.ca_model.specs.declared.mark.Mark.TheVariants as marks
use Rattle.ca_model.specs.declared.verb.Verb.{Verb}
use Rattle.ca_model.specs.declared.verb.Verb.TheVariants as verbs
use Rattle.ca_model.specs.machine.World.{World}
use Rattle.ca_law_once.specs.Ties.{found_by_delivery, written_by_delivery}
use Rattle.ca_law_once.specs.Sides.{work_of}

-- The queue pair of this name is in this life: it is its queue pair, and its slot has its incarnation.
pub record IsInLife (w : World) (life : Correspondent) (name : QueueId) : Type 0 where
  pub named : queue_eq name life.queue ≡ true
  pub incarnation : incarnation_of (w.queue name) ≡ life.incarnation

-- An Rtr of the life that sends names the life that receives, with the path MTU of the direction.
pub record SenderNames (d : Direction) (r : Correspondent) (peer : QueueId) (incarnation mtu : ℕ) : Type 0 where
  pub names : record { queue = peer; incarnation = incarnation } ≡ r
  pub same_mtu : mtu ≡ d.mtu

-- An Rtr of the life that receives names the life that sends, with this path MTU, and expects the first PSN of the
-- direction.
pub record ReceiverNames (d : Direction) (s : Correspondent) (peer : QueueId) (incarnation psn mtu : ℕ) : Type 0 where
  pub names : record { queue = peer; incarnation = incarnation } ≡ s
  pub same_mtu : mtu ≡ d.mtu
  pub same_psn : psn ≡ d.psn

-- The Rtr of each of the two lives agrees with the direction.
pub record RtrAgrees (d : Direction) (s r : Correspondent) (w : World) (name peer : QueueId)
    (incarnation psn mtu : ℕ) : Type 0 where
  pub sender : IsInLife w s name → SenderNames d r peer incarnation mtu
  pub receiver : IsInLife w r name → ReceiverNames d s peer incarnation psn mtu

-- a change of a queue pair's state agrees; the life that sends begins with the first PSN of the direction
abbrev pub ChangeAgrees : Direction → Correspondent → Correspondent → World → QueueId → Change → Type 0
ChangeAgrees d s r w name (changes.Rtr peer incarnation psn mtu rnr_code) =
    RtrAgrees d s r w name peer incarnation psn mtu
ChangeAgrees d s r w name (changes.Rts psn retry rnr_retry reads) = IsInLife w s name → psn ≡ d.psn
ChangeAgrees d s r w name change = Unit {0}

-- a request that is posted here is that of the direction at the place that it gets
abbrev pub PostAgrees : Direction → SendOp → QueueSlot → Type 0
PostAgrees d op (NoQueue incarnation timers) = Unit {0}
PostAgrees d op (Present q) = d.work (next_place q.sends) ≡ work_of op

-- No packet is injected at either of the two lives.
pub record InjectAgrees (s r : Correspondent) (w : World) (name : QueueId) : Type 0 where
  pub sender : IsInLife w s name → ⊥
  pub receiver : IsInLife w r name → ⊥

-- an answered verb agrees; a verb that was refused does
abbrev pub AnswerAgrees : Direction → Correspondent → Correspondent → World → Verb → Answer → Type 0
AnswerAgrees d s r w (verbs.ModifyQp slot change) answers.Fine = ChangeAgrees d s r w (queue_of slot) change
AnswerAgrees d s r w (verbs.PostSend slot request) (answers.Posted key) =
    IsInLife w s (queue_of slot) → PostAgrees d request.op (w.queue (queue_of slot))
AnswerAgrees d s r w (verbs.Inject queue bytes) answers.Fine = InjectAgrees s r w queue
AnswerAgrees d s r w verb answer = Unit {0}

-- the marks of an event in this world agree with the direction: its first mark tells of the verb and its answer
abbrev pub AgreesWith : Direction → Correspondent → Correspondent → World → List Mark → Type 0
AgreesWith d s r w (marks.Verb by verb answer ∷ ms) = AnswerAgrees d s r w verb answer
AgreesWith d s r w ms = Unit {0}

-- the numbers that an event found for the atomic of a place: those of the packet that it delivered, if it delivered one
abbrev pub acted_by : Correspondent → World → Link → Event → List Mark → ℕ → List ℕ
acted_by r w l (events.Deliver name index) ms place = found_by_delivery r w l name index ms place
acted_by r w l event ms place = []

-- the numbers of the packets of a place's WRITE that wrote in an event, likewise
abbrev pub written_by : Correspondent → World → Link → Event → List Mark → ℕ → List ℕ
written_by r w l (events.Deliver name index) ms place = written_by_delivery r w l name index ms place
written_by r w l event ms place = []
