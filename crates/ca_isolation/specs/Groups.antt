-- Groups of domains: whose an event is, which bytes a group's grants cover, whether it is closed, and its replies.
-- Contracts cite it.
use Rattle.std.specs.Prelude.{nat_lt, ◌&&◌, not, Bool, true, false, if◌then◌else◌, List, [], ◌∷◌, filter, Option, None, Some}
use Rattle.std.specs.List.{flat_map, list_any}
use Rattle.std.specs.Option.{option_map_or}
use Rattle.ca_base.specs.declared.change.Change.TheVariants as changes
use Rattle.ca_keys.specs.Equal.{domain_eq}
use Rattle.ca_keys.specs.Memory.{is_in}
use Rattle.ca_keys.specs.Numbers.{domain_of, queue_of}
use Rattle.ca_keys.specs.declared.names.DomainId.{DomainId}
use Rattle.ca_keys.specs.declared.names.QueueId.{QueueId}
use Rattle.ca_keys.specs.declared.place.Place.{Place}
use Rattle.ca_model.specs.Entries.{EntryValue}
use Rattle.ca_model.specs.Licensed.{is_empty}
use Rattle.ca_model.specs.declared.answer.Answer.TheVariants as answers
use Rattle.ca_model.specs.declared.entry.Entry.{Entry}
use Rattle.ca_model.specs.declared.event.Event.{Event}
use Rattle.ca_model.specs.declared.event.Event.TheVariants as events
use Rattle.ca_model.specs.declared.mark.Mark.{Mark}
use Rattle.ca_model.specs.declared.mark.Mark.TheVariants as marks
use Rattle.ca_model.specs.declared.verb.Verb.{Verb}
use Rattle.ca_model.specs.declared.verb.Verb.TheVariants as verbs

-- a group of domains, as a test
abbrev pub Group : Type 0
Group = DomainId → Bool

-- the domains of a list, as a group
abbrev pub group_of : List DomainId → Group
group_of domains d = list_any (λ x. domain_eq x d) domains

-- the domain of a queue pair's number; the first 256 numbers are of no domain
abbrev pub domain_of_queue : QueueId → Option DomainId
domain_of_queue q = if nat_lt q.number 256 then None else Some (domain_of q)

-- the queue pair is of this domain
abbrev pub is_of_domain : DomainId → QueueId → Bool
is_of_domain d q = option_map_or (domain_eq d) (domain_of_queue q) false

-- the domain that a verb's field `domain`, `slot` or `queue` names; Store and Load have none of these
abbrev pub domain_of_verb : Verb → Option DomainId
domain_of_verb (verbs.AllocPd domain) = Some domain
domain_of_verb (verbs.DeallocPd domain) = Some domain
domain_of_verb (verbs.RegMr slot buffer offset count rights) = Some slot.domain
domain_of_verb (verbs.AllocMr slot pages) = Some slot.domain
domain_of_verb (verbs.DeregMr slot) = Some slot.domain
domain_of_verb (verbs.AllocMw slot kind) = Some slot.domain
domain_of_verb (verbs.DeallocMw slot) = Some slot.domain
domain_of_verb (verbs.CreateCq slot capacity) = Some slot.domain
domain_of_verb (verbs.DestroyCq slot) = Some slot.domain
domain_of_verb (verbs.CreateSrq slot depth) = Some slot.domain
domain_of_verb (verbs.DestroySrq slot) = Some slot.domain
domain_of_verb (verbs.CreateQp slot send_cq recv_cq send_depth recv_depth srq) = Some slot.domain
domain_of_verb (verbs.ModifyQp slot change) = Some slot.domain
domain_of_verb (verbs.QueryQp slot) = Some slot.domain
domain_of_verb (verbs.DestroyQp slot) = Some slot.domain
domain_of_verb (verbs.PostSend slot request) = Some slot.domain
domain_of_verb (verbs.PostRecv slot request) = Some slot.domain
domain_of_verb (verbs.PostSrq slot request) = Some slot.domain
domain_of_verb (verbs.Poll slot n least) = Some slot.domain
domain_of_verb (verbs.Store adapter buffer offset bytes) = None
domain_of_verb (verbs.Load adapter buffer offset count) = None
domain_of_verb (verbs.Inject queue bytes) = domain_of_queue queue

-- the domain whose an event is: that of its verb, or of the queue pair whose turn it is
abbrev pub event_domain : Event → Option DomainId
event_domain (events.Verb by verb) = domain_of_verb verb
event_domain (events.Request queue lot) = domain_of_queue queue
event_domain (events.Deliver queue index) = domain_of_queue queue
event_domain (events.Respond queue lot) = domain_of_queue queue
event_domain (events.Timeout queue hasten) = domain_of_queue queue
event_domain (events.RnrWake queue) = domain_of_queue queue

-- the event is one of the group's; Store and Load are nobody's
abbrev pub is_of : Group → Event → Bool
is_of group event = option_map_or group (event_domain event) false

-- the queue pair is of the group
abbrev pub is_queue_of : Group → QueueId → Bool
is_queue_of group q = option_map_or group (domain_of_queue q) false

-- the queue pair of the group that by this mark named a peer outside the group, in an Rtr that succeeded
abbrev pub strays_by : Group → Mark → List QueueId
strays_by group (marks.Verb by (verbs.ModifyQp slot (changes.Rtr peer incarnation psn mtu rnr_code)) answers.Fine) =
    if is_queue_of group (queue_of slot) && not (is_queue_of group peer) then queue_of slot ∷ [] else []
strays_by group mark = []

-- the queue pairs of the group that named a peer outside it, in order
abbrev pub strays_of : Group → List EntryValue → List QueueId
strays_of group es = flat_map (λ e. flat_map (strays_by group) e.marks) es

-- the same of an entry as it is kept
unfoldable pub strays_in : Group → Entry → List QueueId
strays_in group e = flat_map (strays_by group) e.marks.marks

-- each peer that a queue pair of the group named in a history is of the group
abbrev pub is_closed : Group → List EntryValue → Bool
is_closed group es = is_empty (strays_of group es)

-- the place is one of a grant that this mark gives to the group
abbrev pub is_granted_by : Group → Place → Mark → Bool
is_granted_by group p (marks.Granted g) = group g.domain && list_any (λ r. is_in r p) g.runs
is_granted_by group p mark = false

-- the place is one of a grant that a history ever gives to the group
abbrev pub covered : Group → List EntryValue → Place → Bool
covered group es p = list_any (λ e. list_any (is_granted_by group p) e.marks) es

-- a consumer or a peer sees what this mark tells of
abbrev pub is_reply : Mark → Bool
is_reply (marks.Verb by verb answer) = true
is_reply (marks.Sent source target index request bytes) = true
is_reply (marks.Lost target index) = true
is_reply (marks.Arrived target index) = true
is_reply (marks.Dropped target cause) = true
is_reply mark = false

-- the replies to the group's events, in order
abbrev pub replies_of : Group → List EntryValue → List Mark
replies_of group es = flat_map (λ e. if is_of group e.event then filter is_reply e.marks else []) es
