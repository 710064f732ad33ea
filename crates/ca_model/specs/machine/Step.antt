-- The plan of each event, and what one step of the machine makes. Contracts cite it.
use Rattle.std.specs.Prelude.{ℕ, ◌&&◌, Bool, true, length, is_some}
use Rattle.std.specs.Option.{option_map_or}
use Rattle.ca_keys.specs.declared.place.Run.{Run}
use Rattle.ca_base.specs.declared.request.SendOp.{SendOp}
use Rattle.ca_base.specs.declared.request.SendOp.TheVariants as ops
use Rattle.ca_keys.specs.declared.names.DomainId.{DomainId}
use Rattle.ca_base.specs.Configuration.{Configuration}
use Rattle.ca_base.specs.objects.Slices.{buffer_length, has_domain, has_queue, has_slot}
use Rattle.ca_model.specs.declared.answer.Refusal.TheVariants.{NoSuch}
use Rattle.ca_model.specs.declared.event.Event.{Event}
use Rattle.ca_model.specs.declared.event.Event.TheVariants as events
use Rattle.ca_model.specs.declared.verb.Verb.{Verb}
use Rattle.ca_model.specs.declared.verb.Verb.TheVariants as verbs
use Rattle.ca_model.specs.machine.CompletionVerbs.{create_cq_plan, create_srq_plan, destroy_cq_plan, destroy_srq_plan, poll_plan}
use Rattle.ca_model.specs.machine.Delivery.{deliver_plan}
use Rattle.ca_model.specs.machine.DomainVerbs.{alloc_pd_plan, dealloc_pd_plan}
use Rattle.ca_model.specs.machine.HostVerbs.{inject_plan, load_plan, store_plan}
use Rattle.ca_model.specs.machine.Plan.{Plan, If, Outcome, perform}
use Rattle.ca_model.specs.machine.PostingVerbs.{post_recv_plan, post_send_plan, post_srq_plan}
use Rattle.ca_model.specs.machine.QueuePairVerbs.{create_qp_plan, destroy_qp_plan, modify_qp_plan, query_qp_plan}
use Rattle.ca_model.specs.machine.RegionVerbs.{alloc_mr_plan, dereg_mr_plan, reg_mr_plan}
use Rattle.ca_model.specs.machine.Turns.{request_plan, respond_plan, timeout_plan, wake_plan}
use Rattle.ca_model.specs.machine.VerbAnswers.{Call, Refuse_plan}
use Rattle.ca_model.specs.machine.WindowVerbs.{alloc_mw_plan, dealloc_mw_plan}
use Rattle.ca_model.specs.machine.World.{World}

-- the buffer is configured
abbrev pub has_buffer : Configuration → ℕ → ℕ → Bool
has_buffer c adapter buffer = is_some (buffer_length c adapter buffer)

-- the window or the region that a request names by slot is configured
abbrev pub has_named_slot : Configuration → DomainId → SendOp → Bool
has_named_slot c d (ops.Bind1 window region address count rights) = has_slot c (λ a. a.windows) (record { domain = d; slot = window })
has_named_slot c d (ops.Bind2 window region low address count rights) = has_slot c (λ a. a.windows) (record { domain = d; slot = window })
has_named_slot c d (ops.FastReg region low buffer address count rights pages) = has_slot c (λ a. a.regions) (record { domain = d; slot = region })
has_named_slot c d op = true

-- each name of a verb lies in the configured slices, but for the queues of a queue pair that is made
abbrev pub is_named : Configuration → Verb → Bool
is_named c (verbs.AllocPd domain) = has_domain c domain
is_named c (verbs.DeallocPd domain) = has_domain c domain
is_named c (verbs.RegMr slot buffer offset count rights) =
    has_slot c (λ a. a.regions) slot && has_buffer c slot.domain.adapter buffer
is_named c (verbs.AllocMr slot pages) = has_slot c (λ a. a.regions) slot
is_named c (verbs.DeregMr slot) = has_slot c (λ a. a.regions) slot
is_named c (verbs.AllocMw slot kind) = has_slot c (λ a. a.windows) slot
is_named c (verbs.DeallocMw slot) = has_slot c (λ a. a.windows) slot
is_named c (verbs.CreateCq slot capacity) = has_slot c (λ a. a.cqs) slot
is_named c (verbs.DestroyCq slot) = has_slot c (λ a. a.cqs) slot
is_named c (verbs.CreateSrq slot depth) = has_slot c (λ a. a.srqs) slot
is_named c (verbs.DestroySrq slot) = has_slot c (λ a. a.srqs) slot
is_named c (verbs.CreateQp slot send_cq recv_cq send_depth recv_depth srq) = has_slot c (λ a. a.qps) slot
is_named c (verbs.ModifyQp slot change) = has_slot c (λ a. a.qps) slot
is_named c (verbs.QueryQp slot) = has_slot c (λ a. a.qps) slot
is_named c (verbs.DestroyQp slot) = has_slot c (λ a. a.qps) slot
is_named c (verbs.PostSend slot request) = has_slot c (λ a. a.qps) slot && has_named_slot c slot.domain request.op
is_named c (verbs.PostRecv slot request) = has_slot c (λ a. a.qps) slot
is_named c (verbs.PostSrq slot request) = has_slot c (λ a. a.srqs) slot
is_named c (verbs.Poll slot n least) = has_slot c (λ a. a.cqs) slot
is_named c (verbs.Store adapter buffer offset bytes) = has_buffer c adapter buffer
is_named c (verbs.Load adapter buffer offset count) = has_buffer c adapter buffer
is_named c (verbs.Inject queue bytes) = has_queue c queue

-- the bytes of a buffer, none where it is not configured
abbrev pub bytes_of_buffer : Configuration → ℕ → ℕ → ℕ
bytes_of_buffer c adapter buffer = option_map_or (λ n. n) (buffer_length c adapter buffer) 0

-- so many bytes of a buffer from an offset on
abbrev pub run_of : ℕ → ℕ → ℕ → ℕ → Run
run_of adapter buffer offset count = record { adapter = adapter; buffer = buffer; offset = offset; length = count }

-- the plan of a verb whose names are configured
abbrev pub verb_plan : Configuration → Call → Verb → Plan
verb_plan c call (verbs.AllocPd domain) = alloc_pd_plan call domain
verb_plan c call (verbs.DeallocPd domain) = dealloc_pd_plan call domain
verb_plan c call (verbs.RegMr slot buffer offset count rights) =
    reg_mr_plan call slot (run_of slot.domain.adapter buffer offset count) (bytes_of_buffer c slot.domain.adapter buffer) rights
verb_plan c call (verbs.AllocMr slot pages) = alloc_mr_plan call slot pages
verb_plan c call (verbs.DeregMr slot) = dereg_mr_plan call slot
verb_plan c call (verbs.AllocMw slot kind) = alloc_mw_plan call slot kind
verb_plan c call (verbs.DeallocMw slot) = dealloc_mw_plan call slot
verb_plan c call (verbs.CreateCq slot capacity) = create_cq_plan call slot capacity
verb_plan c call (verbs.DestroyCq slot) = destroy_cq_plan call slot
verb_plan c call (verbs.CreateSrq slot depth) = create_srq_plan call slot depth
verb_plan c call (verbs.DestroySrq slot) = destroy_srq_plan call slot
verb_plan c call (verbs.CreateQp slot send_cq recv_cq send_depth recv_depth srq) = create_qp_plan c call (record {
  slot = slot;
  send_cq = send_cq;
  recv_cq = recv_cq;
  send_depth = send_depth;
  recv_depth = recv_depth;
  srq = srq;
})
verb_plan c call (verbs.ModifyQp slot change) = modify_qp_plan c call slot change
verb_plan c call (verbs.QueryQp slot) = query_qp_plan call slot
verb_plan c call (verbs.DestroyQp slot) = destroy_qp_plan call slot
verb_plan c call (verbs.PostSend slot request) = post_send_plan call slot request
verb_plan c call (verbs.PostRecv slot request) = post_recv_plan call slot request
verb_plan c call (verbs.PostSrq slot request) = post_srq_plan call slot request
verb_plan c call (verbs.Poll slot n least) = poll_plan call slot n least
verb_plan c call (verbs.Store adapter buffer offset bytes) =
    store_plan call (run_of adapter buffer offset (length bytes)) (bytes_of_buffer c adapter buffer) bytes
verb_plan c call (verbs.Load adapter buffer offset count) =
    load_plan call (run_of adapter buffer offset count) (bytes_of_buffer c adapter buffer)
verb_plan c call (verbs.Inject queue bytes) = inject_plan c call queue bytes

-- the plan of an event
abbrev pub plan : Configuration → Event → Plan
plan c (events.Verb by verb) =
    If (is_named c verb) (verb_plan c (record { by = by; verb = verb }) verb) (Refuse_plan (record { by = by; verb = verb }) NoSuch)
plan c (events.Request queue lot) = request_plan c queue lot
plan c (events.Deliver queue index) = deliver_plan c queue index
plan c (events.Respond queue lot) = respond_plan c queue lot
plan c (events.Timeout queue hasten) = timeout_plan c queue hasten
plan c (events.RnrWake queue) = wake_plan c queue

-- one step of the machine
abbrev pub step : Configuration → World → Event → Outcome
step c w event = perform w (plan c event)
