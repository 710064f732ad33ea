-- What the verbs touch lies in the table of parts.
use Rattle.std.proofs.Common.{rules, ◌≡◌, ℕ, suc, ◌-◌, min, nat_lt, arith, inl, inr, false, List, [], ◌∷◌, ◌++◌, length, take, Option, None, Some, IfSome, subst, ◌&&◌, ◌||◌, ◌==◌, not, ap₂, sym, true, if◌then◌else◌, is_none, refl}
use Rattle.std.proofs.lemmas.Bool.{ltb-false, or_parts}
use Rattle.std.specs.Option.{option_and_then, option_map, option_map_or}
use Rattle.ca_base.specs.declared.change.Change as state_change
use Rattle.ca_base.specs.declared.change.Change.TheVariants as changes
use Rattle.ca_base.specs.declared.change.Field.TheVariants as fields
use Rattle.ca_base.specs.declared.completion.Completion.{Completion}
use Rattle.ca_base.specs.declared.limits.TheConstants.{MAX_POLLED}
use Rattle.ca_keys.specs.declared.names.DomainId.{DomainId}
use Rattle.ca_keys.specs.declared.names.QueueId.{QueueId}
use Rattle.ca_keys.specs.declared.names.Slot.{Slot}
use Rattle.ca_keys.specs.declared.place.Run.{Run}
use Rattle.ca_base.specs.declared.request.RecvRequest.{RecvRequest}
use Rattle.ca_base.specs.declared.request.SendOp.{SendOp}
use Rattle.ca_base.specs.declared.request.SendOp.TheVariants as ops
use Rattle.ca_base.specs.declared.request.SendRequest.{SendRequest}
use Rattle.ca_keys.specs.declared.rights.Rights.{Rights}
use Rattle.ca_base.specs.Configuration.{Configuration}
use Rattle.ca_keys.specs.Numbers.{queue_of}
use Rattle.ca_base.specs.objects.CompletionQueue.{CompletionQueue, after_polls}
use Rattle.ca_base.specs.objects.Domain.{without_object}
use Rattle.ca_base.specs.objects.QueuePair.{QueuePair, QueueSlot, NoQueue, Present, recv_cq_of, send_cq_of, srq_of}
use Rattle.ca_base.specs.objects.Region.{with_window_unbound}
use Rattle.ca_base.specs.objects.SharedReceives.{SharedReceives, SrqSlot, after_receives_retire}
use Rattle.ca_base.specs.objects.StateTable.{modify_refusals, queue_after_change}
use Rattle.ca_base.specs.objects.Window.{Binding, Window, after_deallocation, after_draw, byte_drawn, key_of_window}
use Rattle.ca_model.specs.declared.answer.Answer.TheVariants as answers
use Rattle.ca_model.specs.declared.answer.Refusal.TheVariants.{CqTooSmall, NoSuch, OutOfRange, WindowsBound}
use Rattle.ca_model.specs.declared.mark.Mark.{Mark}
use Rattle.ca_model.specs.declared.mark.Mark.TheVariants as marks
use Rattle.ca_model.specs.declared.verb.Verb.{Verb}
use Rattle.ca_model.specs.declared.verb.Verb.TheVariants as verbs
use Rattle.ca_model.specs.machine.Around.{Around, With_around}
use Rattle.ca_model.specs.machine.CompletionVerbs.{Poll_of, With_place, With_places, create_cq_plan, create_srq_plan, destroy_cq_plan, destroy_srq_plan, poll_plan, receives_after_poll, slot_after_poll, source_of_completion}
use Rattle.ca_model.specs.machine.Completions.{flush_marks}
use Rattle.ca_model.specs.machine.DomainVerbs.{alloc_pd_plan, dealloc_pd_plan}
use Rattle.ca_model.specs.machine.HostVerbs.{load_plan, store_plan}
use Rattle.ca_model.specs.machine.Plan.{Finish, If, Look, Plan, Update, ◌:=◌, names_updated}
use Rattle.ca_model.specs.machine.PostingVerbs.{Posted_send, post_recv_refusals, post_send_refusals, post_recv_plan, post_send_plan, post_srq_plan}
use Rattle.ca_model.specs.machine.QueuePairVerbs.{Creation, With_present, beside, create_qp_plan, destroy_qp_plan, emptied_updates, has_bad_depth, has_queues, has_no_room, modify_qp_plan, new_queue, places_held, query_qp_plan}
use Rattle.ca_model.specs.machine.RegionVerbs.{alloc_mr_plan, dereg_mr_plan, reg_mr_plan}
use Rattle.ca_model.specs.machine.Row.{region_under}
use Rattle.ca_model.specs.machine.Step.{bytes_of_buffer, run_of, verb_plan}
use Rattle.ca_model.specs.machine.VerbAnswers.{Answer_plan, Call, Refuse_plan, Unless_plan, of_change_refusals}
use Rattle.ca_model.specs.machine.WindowVerbs.{With_binder, alloc_mw_plan, dealloc_mw_plan, queue_updates}
use Rattle.ca_model.specs.machine.World.{Cq_of, Domain_of, Queue_of, Region_of, Srq_of, Window_of, World}
use Rattle.ca_model.specs.declared.part_name.PartName.{PartName}
use Rattle.ca_model.specs.declared.part_name.PartName.TheVariants as names
use Rattle.ca_model.specs.machine.Parts.{Enough, IsAmong, Needs, Part, drawing_needs, emptying_needs, listed, part, place_part, places_needs, present_needs, queues_needs, verb_needs, where_some}
use Rattle.ca_model.specs.machine.Sound.{IsSoundWorld}
use Rattle.ca_law_parts.proofs.Parts.PartLemmas.{Given, In, Included, around-given, around-in, around_parts, inject-in, present-in, srq-in}
use Rattle.ca_law_parts.proofs.Parts.TouchLemmas.{InBuffers, NamesIn, TouchesIn, bytes-in, names-append, touches-call}
use Rattle.ca_law_world.proofs.Sound.WorldLemmas.{around_in, shared_of}
use Rattle.ca_law_world.proofs.Sound.PlanWalks.{changed_around, created, destroyed}

-- nothing is changed
nothing : (ps : List PartName) → NamesIn (In ps) [] × NamesIn (In ps) []
nothing ps = (record {}, record {})

alloc_pd-in : (w : World) (ps : List PartName) (call : Call) (d : DomainId) → IsAmong ps (names.Control d) → TouchesIn w (In ps) (alloc_pd_plan call d)
alloc_pd-in w ps call d domain = (domain, (λ is. nothing ps, λ is. ((domain, record {}), record {})))

dealloc_pd-in : (w : World) (ps : List PartName) (call : Call) (d : DomainId) → IsAmong ps (names.Control d) → TouchesIn w (In ps) (dealloc_pd_plan call d)
dealloc_pd-in w ps call d domain = (domain, (λ is. nothing ps, λ is. (λ is. nothing ps, λ is. ((domain, record {}), record {}))))

-- a verb on an object of a domain: it looks at both, and changes both or nothing
reg_mr-in : (c : Configuration) (w : World) (ps : List PartName) (call : Call) (s : Slot) (at : Run) (bytes : ℕ) (rights : Rights) → IsAmong ps (names.Control s.domain) → IsAmong ps (names.Region s)
    → TouchesIn w (In ps) (reg_mr_plan call s at bytes rights)
reg_mr-in c w ps call s at bytes rights domain region = search rules depth 12

alloc_mr-in : (c : Configuration) (w : World) (ps : List PartName) (call : Call) (s : Slot) (pages : ℕ) → IsAmong ps (names.Control s.domain) → IsAmong ps (names.Region s)
    → TouchesIn w (In ps) (alloc_mr_plan call s pages)
alloc_mr-in c w ps call s pages domain region = (domain, (region, (λ is. nothing ps, λ is. (λ is. nothing ps, λ is. (λ is. nothing ps, λ is. ((domain, (region, record {})), record {}))))))

dereg_mr-in : (c : Configuration) (w : World) (ps : List PartName) (call : Call) (s : Slot) → IsAmong ps (names.Control s.domain) → IsAmong ps (names.Region s)
    → TouchesIn w (In ps) (dereg_mr_plan call s)
dereg_mr-in c w ps call s domain region = (domain, (region, (λ is. nothing ps, λ is. (λ is. nothing ps, λ is. ((domain, (region, record {})), record {})))))

alloc_mw-in : (c : Configuration) (w : World) (ps : List PartName) (call : Call) (s : Slot) (kind : ℕ) → IsAmong ps (names.Control s.domain) → IsAmong ps (names.Window s)
    → TouchesIn w (In ps) (alloc_mw_plan call s kind)
alloc_mw-in c w ps call s kind domain window = (domain, (window, (λ is. nothing ps, λ is. (λ is. nothing ps, λ is. (λ is. nothing ps, λ is. ((domain, (window, record {})), record {}))))))

dealloc_mw-in : (c : Configuration) (w : World) (ps : List PartName) (call : Call) (s : Slot) → Given w ps (verb_needs c (verbs.DeallocMw s)) → TouchesIn w (In ps) (dealloc_mw_plan call s)
dealloc_mw-in c w ps call s inc = (domain, (window, (λ is. nothing ps, λ is. by x.binding (λ p among. inc p (inr (inr among))))))
  where
    x : Window
    x = w.window s

    domain : IsAmong ps (names.Control s.domain)
    domain = inc (names.Control s.domain) (inl refl)

    window : IsAmong ps (names.Window s)
    window = inc (names.Window s) (inr (inl refl))

    binding : Binding → Needs
    binding b = Part (names.Region (region_under x b)) (where_some (λ q. part (names.Queue q)) b.queue)

    two : List Update
    two = (Domain_of s.domain := without_object (w.domain s.domain)) ∷ (Window_of s := after_deallocation x) ∷ []

    plan : Option Binding → Plan
    plan None = Answer_plan call answers.Fine two []
    plan (Some b) = Look (Region_of (region_under x b)) (λ region. With_binder b.queue (λ more.
        Answer_plan call answers.Fine (two ++ (Region_of (region_under x b) := with_window_unbound region) ∷ more)
        (marks.Revoked s.domain.adapter (key_of_window x) ∷ [])))

    queues : (q : QueueId) (v : QueueSlot) → IsAmong ps (names.Queue q) → NamesIn (In ps) (names_updated (queue_updates q v))
    queues q (NoQueue incarnation timers) among = record {}
    queues q (Present p) among = (among, record {})

    binder : (at : Slot) (o : Option QueueId) → IsAmong ps (names.Region at) → Given w ps (where_some (λ q. part (names.Queue q)) o)
        → TouchesIn w (In ps) (With_binder o (λ more. Answer_plan call answers.Fine (two ++ (Region_of at := with_window_unbound (w.region at)) ∷ more) (marks.Revoked s.domain.adapter (key_of_window x) ∷ [])))
    binder at None region inc = ((domain, (window, (region, record {}))), record {})
    binder at (Some q) region inc = (inc (names.Queue q) (inl refl), ((domain, (window, (region, queues q (w.queue q) (inc (names.Queue q) (inl refl))))), record {}))

    by : (o : Option Binding) → Given w ps (where_some binding o) → TouchesIn w (In ps) (plan o)
    by None given = ((domain, (window, record {})), record {})
    by (Some b) given = (
      given (names.Region (region_under x b)) (inl refl),
      binder (region_under x b) b.queue (given (names.Region (region_under x b)) (inl refl)) (λ p among. given p (inr among)),
    )

create_cq-in : (c : Configuration) (w : World) (ps : List PartName) (call : Call) (s : Slot) (capacity : ℕ) → IsAmong ps (names.Control s.domain) → IsAmong ps (names.Cq s)
    → TouchesIn w (In ps) (create_cq_plan call s capacity)
create_cq-in c w ps call s capacity domain cq = (domain, (cq, (λ is. nothing ps, λ is. (λ is. nothing ps, λ is. (λ is. nothing ps, λ is. ((domain, (cq, record {})), record {}))))))

destroy_cq-in : (c : Configuration) (w : World) (ps : List PartName) (call : Call) (s : Slot) → IsAmong ps (names.Control s.domain) → IsAmong ps (names.Cq s)
    → TouchesIn w (In ps) (destroy_cq_plan call s)
destroy_cq-in c w ps call s domain cq = (domain, (cq, (λ is. nothing ps, λ is. (λ is. nothing ps, λ is. ((domain, (cq, record {})), record {})))))

create_srq-in : (c : Configuration) (w : World) (ps : List PartName) (call : Call) (s : Slot) (depth : ℕ) → IsAmong ps (names.Control s.domain) → IsAmong ps (names.Srq s)
    → TouchesIn w (In ps) (create_srq_plan call s depth)
create_srq-in c w ps call s depth domain srq = (domain, (srq, (λ is. nothing ps, λ is. (λ is. nothing ps, λ is. (λ is. nothing ps, λ is. ((domain, (srq, record {})), record {}))))))

destroy_srq-in : (c : Configuration) (w : World) (ps : List PartName) (call : Call) (s : Slot) → IsAmong ps (names.Control s.domain) → IsAmong ps (names.Srq s)
    → TouchesIn w (In ps) (destroy_srq_plan call s)
destroy_srq-in c w ps call s domain srq = (domain, (srq, (λ is. nothing ps, λ is. (λ is. nothing ps, λ is. ((domain, (srq, record {})), record {})))))

-- the bytes of one run lie in its buffer
run-buffer : (ps : List PartName) (adapter buffer offset count : ℕ) → IsAmong ps (names.Buffer adapter buffer) → InBuffers (In ps) (run_of adapter buffer offset count ∷ [])
run-buffer ps adapter buffer offset count among = (λ p a b. subst (λ x. IsAmong ps x) (sym (ap₂ (λ x y. names.Buffer x y) a b)) among, record {})

store-in : (c : Configuration) (w : World) (ps : List PartName) (call : Call) (adapter buffer offset : ℕ) (bytes : List ℕ) → IsAmong ps (names.Buffer adapter buffer)
    → TouchesIn w (In ps) (store_plan call (run_of adapter buffer offset (length bytes)) (bytes_of_buffer c adapter buffer) bytes)
store-in c w ps call adapter buffer offset bytes among = (
  λ is. nothing ps,
  λ is. (
    λ is. nothing ps,
    λ is. (
      record {},
      names-append (In ps) _ [] (bytes-in (In ps) (run_of adapter buffer offset (length bytes) ∷ []) (run-buffer ps adapter buffer offset (length bytes) among)) (record {}),
    ),
  ),
)

load-in : (c : Configuration) (w : World) (ps : List PartName) (call : Call) (adapter buffer offset count : ℕ) → IsAmong ps (names.Buffer adapter buffer)
    → TouchesIn w (In ps) (load_plan call (run_of adapter buffer offset count) (bytes_of_buffer c adapter buffer))
load-in c w ps call adapter buffer offset count among = (
  λ is. nothing ps,
  λ is. (
    λ is. nothing ps,
    λ is.
        (bytes-in (In ps) (run_of adapter buffer offset count ∷ []) (run-buffer ps adapter buffer offset count among), nothing ps),
  ),
)

-- a verb that names a queue pair
verb-present : (c : Configuration) (w : World) (ps : List PartName) (call : Call) (s : Slot) (more : QueuePair → Needs) (k : QueuePair → Plan) → IsSoundWorld c w
    → Given w ps (present_needs (queue_of s) more) → ((q : QueuePair) → IsAmong ps (names.Queue q.queue) → Given w ps (more q) → TouchesIn w (In ps) (k q)) → TouchesIn w (In ps) (With_present call s k)
verb-present c w ps call s more k sound inc there = present-in c w ps (queue_of s) more k (Refuse_plan call NoSuch) sound inc (nothing ps) there

query-in : (w : World) (ps : List PartName) (call : Call) (s : Slot) → IsAmong ps (names.Queue (queue_of s)) → TouchesIn w (In ps) (query_qp_plan call s)
query-in w ps call s among = search rules

-- what stands around a queue pair that is emptied, and its mailbox
record IsEmptied (w : World) (ps : List PartName) (q : QueuePair) : Type 0 where
  mailbox : IsAmong ps (names.Mailbox q.queue)
  around : Included (around_parts q) ps

emptied-given : (w : World) (ps : List PartName) (q : QueuePair) → Given w ps (emptying_needs q) → IsEmptied w ps q
emptied-given w ps q inc = record {
  mailbox = inc (names.Mailbox q.queue) (inl refl);
  around = (around-given w ps q (λ shared. Enough) (λ p among. inc p (inr among))).around;
}

modify-in : (c : Configuration) (w : World) (ps : List PartName) (call : Call) (s : Slot) (change : state_change.Change) → IsSoundWorld c w → Given w ps (verb_needs c (verbs.ModifyQp s change))
    → TouchesIn w (In ps) (modify_qp_plan c call s change)
modify-in c w ps call s change sound inc = verb-present c w ps call s emptying_needs _ sound inc
    (λ q queue given. at q queue (emptied-given w ps q given))
  where
    told : QueuePair → state_change.Change → List Mark
    told q changes.Error = flush_marks q
    told q change = []

    done : QueuePair → Around → state_change.Change → Plan
    done q a change = Answer_plan call answers.Fine ((Queue_of q.queue := Present (queue_after_change change q)) ∷ changed_around w q a change) (told q change)

    plan : QueuePair → Around → Plan
    plan q a = Unless_plan call (of_change_refusals (modify_refusals c q change)) (done q a change)

    emptied : (q : QueuePair) → Included (around_parts q) ps → NamesIn (In ps) (names_updated (emptied_updates q (around_in w q (shared_of w q))))
    emptied q around = (
      around (names.Cq (send_cq_of q)) (inl refl),
      (
        around (names.Cq (recv_cq_of q)) (inr (inl refl)),
        srq-in ps q (around_in w q (shared_of w q)) (after_receives_retire (places_held q (around_in w q (shared_of w q)))) around,
      ),
    )

    changed : (q : QueuePair) (change : state_change.Change) → IsAmong ps (names.Queue q.queue) → IsAmong ps (names.Mailbox q.queue) → Included (around_parts q) ps
        → TouchesIn w (In ps) (done q (around_in w q (shared_of w q)) change)
    changed q changes.Error queue mailbox around = ((queue, (around (names.Cq (send_cq_of q)) (inl refl), (around (names.Cq (recv_cq_of q)) (inr (inl refl)), record {}))), record {})
    changed q changes.Reset queue mailbox around = ((queue, (mailbox, emptied q around)), record {})
    changed q (changes.Rtr peer incarnation psn mtu rnr_code) queue mailbox around = ((queue, (mailbox, record {})), record {})
    changed q changes.Init queue mailbox around = ((queue, record {}), record {})
    changed q (changes.Rts psn retry rnr_retry reads) queue mailbox around = ((queue, record {}), record {})
    changed q changes.Sqd queue mailbox around = ((queue, record {}), record {})
    changed q changes.Resume queue mailbox around = ((queue, record {}), record {})

    at : (q : QueuePair) → IsAmong ps (names.Queue q.queue) → IsEmptied w ps q → IsAmong ps (names.Mailbox q.queue) × TouchesIn w (In ps) (With_around q (plan q))
    at q queue all = (
      all.mailbox,
      around-in w ps q (plan q) all.around
          (touches-call w (In ps) call (of_change_refusals (modify_refusals c q change)) (done q (around_in w q (shared_of w q)) change) (changed q change queue all.mailbox all.around)),
    )

destroy-in : (c : Configuration) (w : World) (ps : List PartName) (call : Call) (s : Slot) → IsSoundWorld c w → Given w ps (verb_needs c (verbs.DestroyQp s)) → TouchesIn w (In ps) (destroy_qp_plan call s)
destroy-in c w ps call s sound inc = (
  domain,
  verb-present c w ps call s emptying_needs _ sound (λ p among. inc p (inr among)) (λ q queue given. at q queue (emptied-given w ps q given)),
)
  where
    domain : IsAmong ps (names.Control s.domain)
    domain = inc (names.Control s.domain) (inl refl)

    left : QueuePair → Option ℕ → Option SrqSlot → List Update
    left q (Some srq) (Some slot) = (Srq_of (record { domain = q.domain; slot = srq }) := record {
      srq = option_map (after_receives_retire (places_held q (around_in w q (shared_of w q)))) slot.srq;
      users = slot.users - 1;
    }) ∷ []
    left q srq slot = []

    by : (q : QueuePair) (o : Option ℕ) (t : Option SrqSlot) → Included (option_map_or (λ srq. names.Srq (srq_of q srq) ∷ []) o []) ps → NamesIn (In ps) (names_updated (left q o t))
    by q None t inc = record {}
    by q (Some srq) None inc = record {}
    by q (Some srq) (Some slot) inc = (inc (names.Srq (srq_of q srq)) (inl refl), record {})

    gone : (q : QueuePair) → IsAmong ps (names.Queue q.queue) → IsAmong ps (names.Mailbox q.queue) → Included (around_parts q) ps
        → NamesIn (In ps) (names_updated (destroyed w s q (around_in w q (shared_of w q))))
    gone q queue mailbox around = (
      domain,
      (
        queue,
        (
          mailbox,
          (
            around (names.Cq (send_cq_of q)) (inl refl),
            (
              around (names.Cq (recv_cq_of q)) (inr (inl refl)),
              by q q.srq (shared_of w q) (λ p among. around p (inr (inr among))),
            ),
          ),
        ),
      ),
    )

    plan : QueuePair → Around → Plan
    plan q a = If (nat_lt 0 q.windows) (Refuse_plan call WindowsBound) (Answer_plan call answers.Fine (destroyed w s q a) [])

    at : (q : QueuePair) → IsAmong ps (names.Queue q.queue) → IsEmptied w ps q → IsAmong ps (names.Mailbox q.queue) × TouchesIn w (In ps) (With_around q (plan q))
    at q queue all = (all.mailbox, around-in w ps q (plan q) all.around (λ is. nothing ps, λ is. (gone q queue all.mailbox all.around, record {})))

-- the queues of a queue pair that is made, where they are configured
record AreQueues (ps : List PartName) (x : Creation) : Type 0 where
  send : IsAmong ps (names.Cq (beside x.slot x.send_cq))
  recv : IsAmong ps (names.Cq (beside x.slot x.recv_cq))
  shared : IfSome x.srq (λ srq. IsAmong ps (names.Srq (beside x.slot srq)))

queues-given : (c : Configuration) (w : World) (ps : List PartName) (x : Creation) → Given w ps (queues_needs c x) → has_queues c x ≡ true → AreQueues ps x
queues-given c w ps x inc has = record {
  send = all (names.Cq (beside x.slot x.send_cq)) (inl refl);
  recv = all (names.Cq (beside x.slot x.recv_cq)) (inr (inl refl));
  shared = by x.srq (λ p among. all p (inr (inr among)));
}
  where
    queues : Needs
    queues = Part (names.Cq (beside x.slot x.send_cq)) (Part (names.Cq (beside x.slot x.recv_cq)) (where_some (λ srq. part (names.Srq (beside x.slot srq))) x.srq))

    all : Given w ps queues
    all p among = inc p (subst (λ b. IsAmong (listed w (if b then queues else Enough)) p) (sym has) among)

    by : (o : Option ℕ) → Given w ps (where_some (λ srq. part (names.Srq (beside x.slot srq))) o) → IfSome o (λ srq. IsAmong ps (names.Srq (beside x.slot srq)))
    by None given = record {}
    by (Some srq) given = given (names.Srq (beside x.slot srq)) (inl refl)

create-in : (c : Configuration) (w : World) (ps : List PartName) (call : Call) (x : Creation) → IsAmong ps (names.Control x.slot.domain) → IsAmong ps (names.Queue (queue_of x.slot))
    → IsAmong ps (names.Mailbox (queue_of x.slot)) → Given w ps (queues_needs c x) → TouchesIn w (In ps) (create_qp_plan c call x)
create-in c w ps call x domain queue mailbox inc =
    (domain, (queue, (mailbox, (λ is. nothing ps, λ is. (λ is. nothing ps, λ is. (λ has. at (queues-given c w ps x inc has), λ is. nothing ps))))))
  where
    there_plan : Option CompletionQueue → Option CompletionQueue → Option SrqSlot → Option SharedReceives → Plan
    there_plan (Some send) (Some recv) srq shared = If (is_none shared && not (is_none x.srq)) (Refuse_plan call NoSuch)
        (If (has_bad_depth x) (Refuse_plan call (OutOfRange fields.Depth)) (If (has_no_room x shared send recv) (Refuse_plan call CqTooSmall)
        (Answer_plan call (answers.Queue (queue_of x.slot).number (new_queue x (w.queue (queue_of x.slot))).incarnation) (created w x send recv srq shared) [])))
    there_plan send recv srq shared = Refuse_plan call NoSuch

    plan : Option SrqSlot → Plan
    plan shared = there_plan (w.cq (beside x.slot x.send_cq)) (w.cq (beside x.slot x.recv_cq)) shared (option_and_then (λ s. s.srq) shared)

    shared_plan : Option ℕ → Plan
    shared_plan None = plan None
    shared_plan (Some srq) = Look (Srq_of (beside x.slot srq)) (λ slot. plan (Some slot))

    users : Option ℕ → Option SrqSlot → List Update
    users (Some srq) (Some slot) = (Srq_of (beside x.slot srq) := record slot { users = suc slot.users }) ∷ []
    users srq slot = []

    used : (o : Option ℕ) (t : Option SrqSlot) → IfSome o (λ srq. IsAmong ps (names.Srq (beside x.slot srq))) → NamesIn (In ps) (names_updated (users o t))
    used None t among = record {}
    used (Some srq) None among = record {}
    used (Some srq) (Some slot) among = (among, record {})

    there : (send recv : Option CompletionQueue) (srq : Option SrqSlot) (shared : Option SharedReceives) → AreQueues ps x → TouchesIn w (In ps) (there_plan send recv srq shared)
    there None recv srq shared all = nothing ps
    there (Some send) None srq shared all = nothing ps
    there (Some send) (Some recv) srq shared all = (
      λ is. nothing ps,
      λ is. (
        λ is. nothing ps,
        λ is. (
          λ is. nothing ps,
          λ is. ((domain, (queue, (mailbox, (all.send, (all.recv, used x.srq srq all.shared))))), record {}),
        ),
      ),
    )

    looks : (o : Option ℕ) → IfSome o (λ srq. IsAmong ps (names.Srq (beside x.slot srq))) → AreQueues ps x → TouchesIn w (In ps) (shared_plan o)
    looks None among all = there _ _ None _ all
    looks (Some srq) among all = (among, there _ _ (Some (w.srq (beside x.slot srq))) _ all)

    at : AreQueues ps x → IsAmong ps (names.Cq (beside x.slot x.send_cq)) × (IsAmong ps (names.Cq (beside x.slot x.recv_cq)) × TouchesIn w (In ps) (shared_plan x.srq))
    at all = (all.send, (all.recv, looks x.srq all.shared all))

posted-in : (w : World) (ps : List PartName) (call : Call) (q : QueuePair) (request : SendRequest) (drawn : Option ℕ) (window : Slot) (more : List Update) → IsAmong ps (names.Queue q.queue)
    → IsAmong ps (names.Cq (send_cq_of q)) → NamesIn (In ps) (names_updated more) → TouchesIn w (In ps) (Posted_send call q request drawn window more)
posted-in w ps call q request drawn window more queue cq rest =
    (cq, touches-call w (In ps) call (post_send_refusals request q) (Finish ((Queue_of q.queue := Present q) ∷ (Cq_of (send_cq_of q) := None) ∷ more) [] []) ((queue, (cq, rest)), record {}))

post_send-in : (c : Configuration) (w : World) (ps : List PartName) (call : Call) (s : Slot) (request : SendRequest) → IsSoundWorld c w → Given w ps (verb_needs c (verbs.PostSend s request))
    → TouchesIn w (In ps) (post_send_plan call s request)
post_send-in c w ps call s request sound inc = verb-present c w ps call s (λ q. Part (names.Cq (send_cq_of q)) (drawing_needs s request.op)) (λ q. plan q request.op) sound inc
    (λ q queue given. by q request.op queue (given (names.Cq (send_cq_of q)) (inl refl)) (λ p among. given p (inr among)))
  where
    plan : QueuePair → SendOp → Plan
    plan q (ops.Bind1 window region address count rights) = Look (Window_of (beside s window)) (λ x. If (x.kind == 0) (Refuse_plan call NoSuch)
        (Posted_send call q request (byte_drawn x) (beside s window) ((Window_of (beside s window) := after_draw x) ∷ [])))
    plan q op = Posted_send call q request None s []

    by : (q : QueuePair) (op : SendOp) → IsAmong ps (names.Queue q.queue) → IsAmong ps (names.Cq (send_cq_of q)) → Given w ps (drawing_needs s op) → TouchesIn w (In ps) (plan q op)
    by q (ops.Bind1 window region address count rights) queue cq inc = (
      inc (names.Window (beside s window)) (inl refl),
      (
        λ is. nothing ps,
        λ is.
            posted-in w ps call q request (byte_drawn (w.window (beside s window))) (beside s window) ((Window_of (beside s window) := after_draw (w.window (beside s window))) ∷ []) queue cq
            (inc (names.Window (beside s window)) (inl refl), record {}),
      ),
    )
    by q (ops.Bind2 window region low address count rights) queue cq inc = posted-in w ps call q request None s [] queue cq (record {})
    by q (ops.FastReg region low buffer address count rights pages) queue cq inc = posted-in w ps call q request None s [] queue cq (record {})
    by q (ops.LocalInv key) queue cq inc = posted-in w ps call q request None s [] queue cq (record {})
    by q (ops.Send list) queue cq inc = posted-in w ps call q request None s [] queue cq (record {})
    by q (ops.SendImm imm list) queue cq inc = posted-in w ps call q request None s [] queue cq (record {})
    by q (ops.SendInv key list) queue cq inc = posted-in w ps call q request None s [] queue cq (record {})
    by q (ops.Write address key list) queue cq inc = posted-in w ps call q request None s [] queue cq (record {})
    by q (ops.WriteImm address key imm list) queue cq inc = posted-in w ps call q request None s [] queue cq (record {})
    by q (ops.Read address key list) queue cq inc = posted-in w ps call q request None s [] queue cq (record {})
    by q (ops.CmpSwap address key compare swap list) queue cq inc = posted-in w ps call q request None s [] queue cq (record {})
    by q (ops.FetchAdd address key add list) queue cq inc = posted-in w ps call q request None s [] queue cq (record {})

post_recv-in : (c : Configuration) (w : World) (ps : List PartName) (call : Call) (s : Slot) (request : RecvRequest) → IsSoundWorld c w → Given w ps (verb_needs c (verbs.PostRecv s request))
    → TouchesIn w (In ps) (post_recv_plan call s request)
post_recv-in c w ps call s request sound inc = verb-present c w ps call s (λ q. part (names.Cq (recv_cq_of q))) _ sound inc (λ q queue inc. (
  inc (names.Cq (recv_cq_of q)) (inl refl),
  touches-call w (In ps) call (post_recv_refusals request q) (Finish ((Queue_of q.queue := Present q) ∷ (Cq_of (recv_cq_of q) := None) ∷ []) [] [])
      ((queue, (inc (names.Cq (recv_cq_of q)) (inl refl), record {})), record {}),
))

post_srq-in : (w : World) (ps : List PartName) (call : Call) (s : Slot) (request : RecvRequest) → IsAmong ps (names.Srq s) → TouchesIn w (In ps) (post_srq_plan call s request)
post_srq-in w ps call s request among = search rules depth 9

place-in : (w : World) (ps : List PartName) (s : Slot) (cq : CompletionQueue) (polled : List Completion) (x : Completion) (k : Update → Plan) → IsAmong ps (place_part s cq x)
    → ((u : Update) → In ps u.name → TouchesIn w (In ps) (k u)) → TouchesIn w (In ps) (With_place s cq polled x k)
place-in w ps s cq polled x k among more = by (source_of_completion cq x) among
  where
    shared : ℕ → Slot
    shared srq = record { domain = s.domain; slot = srq }

    plan : Option ℕ → Plan
    plan None = Look (Queue_of x.queue) (λ slot. k (Queue_of x.queue := slot_after_poll x.queue polled slot))
    plan (Some srq) = Look (Srq_of (shared srq)) (λ slot. k (Srq_of (shared srq) := record slot { srq = option_map (receives_after_poll cq srq polled) slot.srq }))

    part : Option ℕ → PartName
    part None = names.Queue x.queue
    part (Some srq) = names.Srq (shared srq)

    by : (o : Option ℕ) → IsAmong ps (part o) → TouchesIn w (In ps) (plan o)
    by None among = (among, more _ among)
    by (Some srq) among = (among, more _ among)

places-in : (w : World) (ps : List PartName) (s : Slot) (cq : CompletionQueue) (polled xs : List Completion) (k : List Update → Plan) → Given w ps (places_needs s cq xs)
    → ((us : List Update) → NamesIn (In ps) (names_updated us) → TouchesIn w (In ps) (k us)) → TouchesIn w (In ps) (With_places s cq polled xs k)
places-in w ps s cq polled [] k inc more = more [] (record {})
places-in w ps s cq polled (x ∷ xs) k inc more = place-in w ps s cq polled x (λ u. With_places s cq polled xs (λ us. k (u ∷ us))) (inc (place_part s cq x) (inl refl))
    (λ u among. places-in w ps s cq polled xs (λ us. k (u ∷ us)) (λ p in_rest. inc p (inr in_rest)) (λ us rest. more (u ∷ us) (among, rest)))

poll-in : (c : Configuration) (w : World) (ps : List PartName) (call : Call) (s : Slot) (n least : ℕ) → Given w ps (verb_needs c (verbs.Poll s n least)) → TouchesIn w (In ps) (poll_plan call s n least)
poll-in c w ps call s n least inc = (cq, by (w.cq s) (λ p among. inc p (inr among)))
  where
    cq : IsAmong ps (names.Cq s)
    cq = inc (names.Cq s) (inl refl)

    in_range : ((n == 0) || nat_lt MAX_POLLED n || nat_lt n least) ≡ false → min n MAX_POLLED ≡ n
    in_range e = at (or_parts (n == 0) (nat_lt MAX_POLLED n) (or_parts ((n == 0) || nat_lt MAX_POLLED n) (nat_lt n least) e).0)
      where
        at : ((n == 0) ≡ false) × (nat_lt MAX_POLLED n ≡ false) → min n MAX_POLLED ≡ n
        at parts = omega (arith, ltb-false MAX_POLLED n parts.1)

    by : (o : Option CompletionQueue) → Given w ps (where_some (λ v. places_needs s v (take (min n MAX_POLLED) v.waiting)) o) → TouchesIn w (In ps) (Poll_of call s n least o)
    by None given = nothing ps
    by (Some v) given = (
      λ is. nothing ps,
      λ range. (
        λ is. record {},
        λ is. places-in w ps s v (take n v.waiting) (take n v.waiting)
            (λ changes. Answer_plan call (answers.Polled (take n v.waiting)) ((Cq_of s := Some (after_polls (length (take n v.waiting)) v)) ∷ changes) [])
            (λ p among. given p (subst (λ k. IsAmong (listed w (places_needs s v (take k v.waiting))) p) (sym (in_range range)) among))
            (λ us rest. ((cq, rest), record {})),
      ),
    )

pub verb-in : (c : Configuration) (w : World) (ps : List PartName) (call : Call) (verb : Verb) → IsSoundWorld c w → Given w ps (verb_needs c verb) → TouchesIn w (In ps) (verb_plan c call verb)
verb-in c w ps call (verbs.AllocPd domain) sound inc = alloc_pd-in w ps call domain (inc (names.Control domain) (inl refl))
verb-in c w ps call (verbs.DeallocPd domain) sound inc = dealloc_pd-in w ps call domain (inc (names.Control domain) (inl refl))
verb-in c w ps call (verbs.RegMr slot buffer offset count rights) sound inc =
    reg_mr-in c w ps call slot (run_of slot.domain.adapter buffer offset count) (bytes_of_buffer c slot.domain.adapter buffer) rights (inc (names.Control slot.domain) (inl refl))
    (inc (names.Region slot) (inr (inl refl)))
verb-in c w ps call (verbs.AllocMr slot pages) sound inc = alloc_mr-in c w ps call slot pages (inc (names.Control slot.domain) (inl refl)) (inc (names.Region slot) (inr (inl refl)))
verb-in c w ps call (verbs.DeregMr slot) sound inc = dereg_mr-in c w ps call slot (inc (names.Control slot.domain) (inl refl)) (inc (names.Region slot) (inr (inl refl)))
verb-in c w ps call (verbs.AllocMw slot kind) sound inc = alloc_mw-in c w ps call slot kind (inc (names.Control slot.domain) (inl refl)) (inc (names.Window slot) (inr (inl refl)))
verb-in c w ps call (verbs.DeallocMw slot) sound inc = dealloc_mw-in c w ps call slot inc
verb-in c w ps call (verbs.CreateCq slot capacity) sound inc = create_cq-in c w ps call slot capacity (inc (names.Control slot.domain) (inl refl)) (inc (names.Cq slot) (inr (inl refl)))
verb-in c w ps call (verbs.DestroyCq slot) sound inc = destroy_cq-in c w ps call slot (inc (names.Control slot.domain) (inl refl)) (inc (names.Cq slot) (inr (inl refl)))
verb-in c w ps call (verbs.CreateSrq slot depth) sound inc = create_srq-in c w ps call slot depth (inc (names.Control slot.domain) (inl refl)) (inc (names.Srq slot) (inr (inl refl)))
verb-in c w ps call (verbs.DestroySrq slot) sound inc = destroy_srq-in c w ps call slot (inc (names.Control slot.domain) (inl refl)) (inc (names.Srq slot) (inr (inl refl)))
verb-in c w ps call (verbs.CreateQp slot send_cq recv_cq send_depth recv_depth srq) sound inc =
    create-in c w ps call (record { slot = slot; send_cq = send_cq; recv_cq = recv_cq; send_depth = send_depth; recv_depth = recv_depth; srq = srq }) (inc (names.Control slot.domain) (inl refl))
    (inc (names.Queue (queue_of slot)) (inr (inl refl))) (inc (names.Mailbox (queue_of slot)) (inr (inr (inl refl)))) (λ p among. inc p (inr (inr (inr among))))
verb-in c w ps call (verbs.ModifyQp slot change) sound inc = modify-in c w ps call slot change sound inc
verb-in c w ps call (verbs.QueryQp slot) sound inc = query-in w ps call slot (inc (names.Queue (queue_of slot)) (inl refl))
verb-in c w ps call (verbs.DestroyQp slot) sound inc = destroy-in c w ps call slot sound inc
verb-in c w ps call (verbs.PostSend slot request) sound inc = post_send-in c w ps call slot request sound inc
verb-in c w ps call (verbs.PostRecv slot request) sound inc = post_recv-in c w ps call slot request sound inc
verb-in c w ps call (verbs.PostSrq slot request) sound inc = post_srq-in w ps call slot request (inc (names.Srq slot) (inl refl))
verb-in c w ps call (verbs.Poll slot n least) sound inc = poll-in c w ps call slot n least inc
verb-in c w ps call (verbs.Store adapter buffer offset bytes) sound inc = store-in c w ps call adapter buffer offset bytes (inc (names.Buffer adapter buffer) (inl refl))
verb-in c w ps call (verbs.Load adapter buffer offset count) sound inc = load-in c w ps call adapter buffer offset count (inc (names.Buffer adapter buffer) (inl refl))
verb-in c w ps call (verbs.Inject queue bytes) sound inc = inject-in c w ps call queue bytes sound inc
