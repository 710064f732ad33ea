-- The verbs on domains, regions, windows, completion queues and shared receive queues, and those of the host, in a placed
-- world.
use Rattle.std.proofs.Common.{◌≡◌, ◌∙◌, ℕ, suc, ◌+◌, ◌-◌, nat_lt, Bool, true, false, List, [], ◌∷◌, ◌++◌, take, Option, None, Some, IfSome, ap, sym, true≢false, if◌then◌else◌, refl}
use Rattle.std.proofs.lemmas.Bool.{and_parts, ltb-false}
use Rattle.std.specs.List.{AllByRecursion}
use Rattle.std.specs.Option.{option_map, option_map_or, option_or}
use Rattle.ca_base.specs.declared.completion.Completion.{Completion}
use Rattle.ca_base.specs.declared.request.PostedSend.{PostedSend}
use Rattle.ca_base.specs.declared.request.RecvRequest.{RecvRequest}
use Rattle.ca_base.specs.declared.reserve.Reservation.{Reservation}
use Rattle.ca_keys.specs.declared.names.DomainId.{DomainId}
use Rattle.ca_keys.specs.declared.names.QueueId.{QueueId}
use Rattle.ca_keys.specs.declared.names.Slot.{Slot}
use Rattle.ca_keys.specs.declared.place.Run.{Run}
use Rattle.ca_keys.specs.declared.rights.Rights.{Rights}
use Rattle.ca_base.specs.Configuration.{Adapter, Configuration}
use Rattle.ca_keys.specs.Equal.{queue_eq}
use Rattle.ca_base.specs.objects.CompletionQueue.{CompletionQueue, source_in, source_of, user_of}
use Rattle.ca_base.specs.objects.Domain.{without_object}
use Rattle.ca_base.specs.objects.QueuePair.{QueuePair, QueueSlot, NoQueue, Present, is_present}
use Rattle.ca_base.specs.objects.SharedReceives.{SharedReceives, after_receive_post, is_full_of_receives}
use Rattle.ca_base.specs.objects.Slices.{adapter_at, has_domain, has_queue, has_slot}
use Rattle.ca_base.specs.objects.Window.{Binding, after_deallocation}
use Rattle.ca_base.specs.objects.WorkQueue.{after_retire}
use Rattle.ca_model.specs.declared.answer.Answer.TheVariants as answers
use Rattle.ca_model.specs.declared.answer.Refusal.TheVariants.{NoSuch, QueueFull, TooLong}
use Rattle.ca_model.specs.Requests.{list_length}
use Rattle.ca_base.specs.declared.limits.TheConstants.{MAX_MESSAGE_BYTES}
use Rattle.ca_model.specs.declared.mark.Mark.TheVariants as marks
use Rattle.ca_base.specs.objects.Region.{with_window_unbound}
use Rattle.ca_base.specs.objects.Window.{key_of_window}
use Rattle.ca_model.specs.machine.CompletionVerbs.{Poll_of, With_place, With_places, after_poll, create_cq_plan, create_srq_plan, destroy_cq_plan, destroy_srq_plan, poll_plan, receives_after_poll, slot_after_poll, source_of_completion}
use Rattle.ca_model.specs.machine.DomainVerbs.{alloc_pd_plan, dealloc_pd_plan}
use Rattle.ca_model.specs.machine.HostVerbs.{load_plan, store_plan}
use Rattle.ca_model.specs.machine.Plan.{Plan, If, Look, Update, ◌:=◌, byte_names}
use Rattle.ca_model.specs.machine.PostingVerbs.{post_srq_plan}
use Rattle.ca_model.specs.machine.RegionVerbs.{alloc_mr_plan, dereg_mr_plan, reg_mr_plan}
use Rattle.ca_model.specs.machine.Row.{region_under}
use Rattle.ca_model.specs.machine.Sound.{IsSettled}
use Rattle.ca_model.specs.machine.Step.{bytes_of_buffer, has_named_slot}
use Rattle.ca_model.specs.machine.VerbAnswers.{Answer_plan, Call, Refuse_plan}
use Rattle.ca_model.specs.machine.WindowVerbs.{With_binder, alloc_mw_plan, dealloc_mw_plan, queue_updates}
use Rattle.ca_model.specs.machine.World.{World, Cq_of, Domain_of, Queue_of, Region_of, Srq_of, Window_of}
use Rattle.ca_law_world.proofs.Sound.NumberingLemmas.{all-taken}
use Rattle.ca_law_world.proofs.Sound.VerbLemmas.{all-dropped}
use Rattle.ca_law_parts.specs.Placed.{IsConfigured, IsPlacedBinding, IsPlacedQueue, IsPlacedReservation, IsPlacedSlot, IsPlacedThing}
use Rattle.ca_law_parts.proofs.Names.PlanLemmas.{AreConfigured, ArePlaced, IsFit, IsPlacedPlan, all-joined, bytes-in, under-in}
use Rattle.ca_law_parts.proofs.Names.PlacedTurnLemmas.{kept-placed}

-- the domain of a configured slot is configured
pub domain-in : (c : Configuration) (slots : Adapter → ℕ) (s : Slot) → has_slot c slots s ≡ true → IsConfigured c (Domain_of s.domain)
domain-in c slots s has = (and_parts (has_domain c s.domain) (option_map_or (λ a. nat_lt s.slot (slots a)) (adapter_at c s.domain.adapter) false) has).0

pub alloc_pd-placed : (c : Configuration) (w : World) (call : Call) (d : DomainId) → IsConfigured c (Domain_of d) → IsPlacedPlan c w (alloc_pd_plan call d)
alloc_pd-placed c w call d has = (
  has,
  (
    λ is. (record {}, record {}),
    λ fails. (((has, record {}), record {}), record {}),
  ),
)

pub dealloc_pd-placed : (c : Configuration) (w : World) (call : Call) (d : DomainId) → IsConfigured c (Domain_of d) → IsPlacedPlan c w (dealloc_pd_plan call d)
dealloc_pd-placed c w call d has = (
  has,
  (
    λ is. (record {}, record {}),
    λ fails. (
      λ is. (record {}, record {}),
      λ fails. (((has, record {}), record {}), record {}),
    ),
  ),
)

pub reg_mr-placed : (c : Configuration) (w : World) (call : Call) (s : Slot) (at : Run) (bytes : ℕ) (rights : Rights) → IsConfigured c (Region_of s) → IsPlacedPlan c w (reg_mr_plan call s at bytes rights)
reg_mr-placed c w call s at bytes rights has = (
  domain,
  (
    has,
    (
      λ is. (record {}, record {}),
      λ fails. (
        λ is. (record {}, record {}),
        λ fails. (
          λ is. (record {}, record {}),
          λ fails. (
            λ is. (record {}, record {}),
            λ fails. (
              λ is. (record {}, record {}),
              λ fails. (((domain, record {}), ((has, record {}), record {})), record {}),
            ),
          ),
        ),
      ),
    ),
  ),
)
  where
    domain : IsConfigured c (Domain_of s.domain)
    domain = domain-in c (λ a. a.regions) s has

pub alloc_mr-placed : (c : Configuration) (w : World) (call : Call) (s : Slot) (pages : ℕ) → IsConfigured c (Region_of s) → IsPlacedPlan c w (alloc_mr_plan call s pages)
alloc_mr-placed c w call s pages has = (
  domain,
  (
    has,
    (
      λ is. (record {}, record {}),
      λ fails. (
        λ is. (record {}, record {}),
        λ fails. (
          λ is. (record {}, record {}),
          λ fails. (((domain, record {}), ((has, record {}), record {})), record {}),
        ),
      ),
    ),
  ),
)
  where
    domain : IsConfigured c (Domain_of s.domain)
    domain = domain-in c (λ a. a.regions) s has

pub dereg_mr-placed : (c : Configuration) (w : World) (call : Call) (s : Slot) → IsConfigured c (Region_of s) → IsPlacedPlan c w (dereg_mr_plan call s)
dereg_mr-placed c w call s has = (
  domain,
  (
    has,
    (
      λ is. (record {}, record {}),
      λ fails. (
        λ is. (record {}, record {}),
        λ fails. (((domain, record {}), ((has, record {}), record {})), record {}),
      ),
    ),
  ),
)
  where
    domain : IsConfigured c (Domain_of s.domain)
    domain = domain-in c (λ a. a.regions) s has

pub alloc_mw-placed : (c : Configuration) (w : World) (call : Call) (s : Slot) (kind : ℕ) → IsFit c w → IsConfigured c (Window_of s) → IsPlacedPlan c w (alloc_mw_plan call s kind)
alloc_mw-placed c w call s kind fit has = (
  domain,
  (
    has,
    (
      λ is. (record {}, record {}),
      λ fails. (
        λ is. (record {}, record {}),
        λ fails. (
          λ is. (record {}, record {}),
          λ fails. (((domain, record {}), ((has, fit.placed.things (Window_of s)), record {})), record {}),
        ),
      ),
    ),
  ),
)
  where
    domain : IsConfigured c (Domain_of s.domain)
    domain = domain-in c (λ a. a.windows) s has

-- the queue pair of a type 2 window has one window fewer
queue-fewer : (c : Configuration) (q : QueueId) (slot : QueueSlot) → IsConfigured c (Queue_of q) → IsPlacedSlot c slot → ArePlaced c (queue_updates q slot)
queue-fewer c q (NoQueue incarnation timers) has placed = record {}
queue-fewer c q (Present p) has placed = ((has, kept-placed c p (record p { windows = p.windows - 1 }) refl placed), record {})

binder-placed : (c : Configuration) (w : World) (o : Option QueueId) (k : List Update → Plan) → IsFit c w → IfSome o (λ q. IsConfigured c (Queue_of q))
    → ((cs : List Update) → ArePlaced c cs → IsPlacedPlan c w (k cs)) → IsPlacedPlan c w (With_binder o k)
binder-placed c w None k fit has more = more [] (record {})
binder-placed c w (Some q) k fit has more = (has, more (queue_updates q (w.queue q)) (queue-fewer c q (w.queue q) has (fit.placed.things (Queue_of q))))

pub dealloc_mw-placed : (c : Configuration) (w : World) (call : Call) (s : Slot) → IsFit c w → IsConfigured c (Window_of s) → IsPlacedPlan c w (dealloc_mw_plan call s)
dealloc_mw-placed c w call s fit has =
    (domain, (has, (λ is. (record {}, record {}), λ fails. by (w.window s).binding (fit.placed.things (Window_of s)))))
  where
    domain : IsConfigured c (Domain_of s.domain)
    domain = domain-in c (λ a. a.windows) s has

    changed : List Update
    changed = (Domain_of s.domain := without_object (w.domain s.domain)) ∷ (Window_of s := after_deallocation (w.window s)) ∷ []

    plan : Option Binding → Plan
    plan None = Answer_plan call answers.Fine changed []
    plan (Some b) = Look (Region_of (region_under (w.window s) b)) (λ region. With_binder b.queue (λ more.
        Answer_plan call answers.Fine (changed ++ (Region_of (region_under (w.window s) b) := with_window_unbound region) ∷ more)
        (marks.Revoked s.domain.adapter (key_of_window (w.window s)) ∷ [])))

    by : (o : Option Binding) → IfSome o (IsPlacedBinding c s) → IsPlacedPlan c w (plan o)
    by None one = (((domain, record {}), ((has, record {}), record {})), record {})
    by (Some b) one = (
      under-in c w s b fit.sound one,
      binder-placed c w b.queue _ fit one.queue (λ cs placed.
          (((domain, record {}), ((has, record {}), ((under-in c w s b fit.sound one, record {}), placed))), record {})),
    )

pub create_cq-placed : (c : Configuration) (w : World) (call : Call) (s : Slot) (capacity : ℕ) → IsConfigured c (Cq_of s) → IsPlacedPlan c w (create_cq_plan call s capacity)
create_cq-placed c w call s capacity has = (
  domain,
  (
    has,
    (
      λ is. (record {}, record {}),
      λ fails. (
        λ is. (record {}, record {}),
        λ fails. (
          λ is. (record {}, record {}),
          λ fails. (((domain, record {}), ((has, record {}), record {})), record {}),
        ),
      ),
    ),
  ),
)
  where
    domain : IsConfigured c (Domain_of s.domain)
    domain = domain-in c (λ a. a.cqs) s has

pub destroy_cq-placed : (c : Configuration) (w : World) (call : Call) (s : Slot) → IsConfigured c (Cq_of s) → IsPlacedPlan c w (destroy_cq_plan call s)
destroy_cq-placed c w call s has = (
  domain,
  (
    has,
    (
      λ is. (record {}, record {}),
      λ fails. (
        λ is. (record {}, record {}),
        λ fails. (((domain, record {}), ((has, record {}), record {})), record {}),
      ),
    ),
  ),
)
  where
    domain : IsConfigured c (Domain_of s.domain)
    domain = domain-in c (λ a. a.cqs) s has

pub create_srq-placed : (c : Configuration) (w : World) (call : Call) (s : Slot) (depth : ℕ) → IsConfigured c (Srq_of s) → IsPlacedPlan c w (create_srq_plan call s depth)
create_srq-placed c w call s depth has = (
  domain,
  (
    has,
    (
      λ is. (record {}, record {}),
      λ fails. (
        λ is. (record {}, record {}),
        λ fails. (
          λ is. (record {}, record {}),
          λ fails. (((domain, record {}), ((has, record {}), record {})), record {}),
        ),
      ),
    ),
  ),
)
  where
    domain : IsConfigured c (Domain_of s.domain)
    domain = domain-in c (λ a. a.srqs) s has

pub destroy_srq-placed : (c : Configuration) (w : World) (call : Call) (s : Slot) → IsConfigured c (Srq_of s) → IsPlacedPlan c w (destroy_srq_plan call s)
destroy_srq-placed c w call s has = (
  domain,
  (
    has,
    (
      λ is. (record {}, record {}),
      λ fails. (
        λ is. (record {}, record {}),
        λ fails. (((domain, record {}), ((has, record {}), record {})), record {}),
      ),
    ),
  ),
)
  where
    domain : IsConfigured c (Domain_of s.domain)
    domain = domain-in c (λ a. a.srqs) s has

pub post_srq-placed : (c : Configuration) (w : World) (call : Call) (s : Slot) (request : RecvRequest) → IsConfigured c (Srq_of s) → IsPlacedPlan c w (post_srq_plan call s request)
post_srq-placed c w call s request has = (has, by (w.srq s).srq)
  where
    plan : Option SharedReceives → Plan
    plan None = Refuse_plan call NoSuch
    plan (Some srq) = If (nat_lt MAX_MESSAGE_BYTES (list_length request.list.items)) (Refuse_plan call TooLong) (If (is_full_of_receives srq) (Refuse_plan call QueueFull)
        (Answer_plan call (answers.Posted None) ((Srq_of s := record (w.srq s) { srq = Some (after_receive_post request srq) }) ∷ []) []))

    by : (o : Option SharedReceives) → IsPlacedPlan c w (plan o)
    by None = (record {}, record {})
    by (Some srq) = (λ is. (record {}, record {}), λ short. (λ is. (record {}, record {}), λ free. (((has, record {}), record {}), record {})))

-- a host's access that is not refused lies in the buffer
host-in : (c : Configuration) (at : Run) → nat_lt (bytes_of_buffer c at.adapter at.buffer) (at.offset + at.length) ≡ false → AreConfigured c (byte_names (at ∷ []))
host-in c at within = bytes-in c (at ∷ []) (ltb-false (bytes_of_buffer c at.adapter at.buffer) (at.offset + at.length) within, record {})

pub store-placed : (c : Configuration) (w : World) (call : Call) (at : Run) (bytes : List ℕ) → IsPlacedPlan c w (store_plan call at (bytes_of_buffer c at.adapter at.buffer) bytes)
store-placed c w call at bytes =
    (λ is. (record {}, record {}), λ range. (λ is. (record {}, record {}), λ within. (record {}, written within)))
  where
    written : nat_lt (bytes_of_buffer c at.adapter at.buffer) (at.offset + at.length) ≡ false → AreConfigured c (byte_names (at ∷ []) ++ [])
    written within = all-joined (IsConfigured c) (byte_names (at ∷ [])) [] (host-in c at within) (record {})

pub load-placed : (c : Configuration) (w : World) (call : Call) (at : Run) → IsPlacedPlan c w (load_plan call at (bytes_of_buffer c at.adapter at.buffer))
load-placed c w call at = (λ is. (record {}, record {}), λ range. (λ is. (record {}, record {}), λ within. (host-in c at within, (record {}, record {}))))

-- a queue pair that is there has a configured name
pub present-in : (c : Configuration) (w : World) (name : QueueId) (q : QueuePair) → IsFit c w → w.queue name ≡ Present q → IsConfigured c (Queue_of name)
present-in c w name q fit is = by (has_queue c name) refl
  where
    by : (b : Bool) → has_queue c name ≡ b → has_queue c name ≡ true
    by true e = e
    by false e = absurd (true≢false (sym (ap is_present is) ∙ ap is_present (fit.placed.vacant (Queue_of name) e)))

-- a queue pair of which a completion waits has a configured name
pub waiting-in : (c : Configuration) (w : World) (s : Slot) (x : Completion) → IsFit c w → IsSettled s (w.queue x.queue) x → IsConfigured c (Queue_of x.queue)
waiting-in c w s x fit settled = by (w.queue x.queue) refl settled
  where
    by : (v : QueueSlot) → w.queue x.queue ≡ v → IsSettled s v x → IsConfigured c (Queue_of x.queue)
    by (NoQueue incarnation timers) is one = absurd one
    by (Present q) is one = present-in c w x.queue q fit is

sources-in : (c : Configuration) (s : Slot) (queue : QueueId) (rs : List Reservation) → AllByRecursion (IsPlacedReservation c s) rs
    → IfSome (source_in rs queue) (λ srq. IsConfigured c (Srq_of (record { domain = s.domain; slot = srq })))
sources-in c s queue [] all = record {}
sources-in c s queue (r ∷ rs) all = by (queue_eq (user_of r.who) queue) (source_of r.who) all.0.source (sources-in c s queue rs all.1)
  where
    Named : Option ℕ → Type 0
    Named o = IfSome o (λ srq. IsConfigured c (Srq_of (record { domain = s.domain; slot = srq })))

    by : (b : Bool) (o : Option ℕ) → Named o → Named (source_in rs queue) → Named (if b then option_or o (source_in rs queue) else source_in rs queue)
    by true None one rest = rest
    by true (Some srq) one rest = one
    by false o one rest = rest

pub source-in : (c : Configuration) (s : Slot) (cq : CompletionQueue) (x : Completion) → AllByRecursion (IsPlacedReservation c s) cq.reservations
    → IfSome (source_of_completion cq x) (λ srq. IsConfigured c (Srq_of (record { domain = s.domain; slot = srq })))
source-in c s cq x all = by x.receive
  where
    by : (b : Bool) → IfSome (if b then source_in cq.reservations x.queue else None) (λ srq. IsConfigured c (Srq_of (record { domain = s.domain; slot = srq })))
    by true = sources-in c s x.queue cq.reservations all
    by false = record {}

-- places that a poll frees
polled-placed : (c : Configuration) (name : QueueId) (xs : List Completion) (q : QueuePair) → IsPlacedQueue c q → IsPlacedQueue c (after_poll name xs q)
polled-placed c name [] q placed = placed
polled-placed c name (x ∷ xs) q placed = polled-placed c name xs (next (queue_eq x.queue name) x.receive) (by (queue_eq x.queue name) x.receive)
  where
    freed : Bool → QueuePair
    freed true = record q { receives = option_map (after_retire x.place) q.receives }
    freed false = record q { sends = after_retire x.place q.sends }

    next : Bool → Bool → QueuePair
    next b r = if b then freed r else q

    by : (b r : Bool) → IsPlacedQueue c (next b r)
    by false r = placed
    by true true = kept-placed c q (freed true) refl placed
    by true false = record {
      send = placed.send;
      recv = placed.recv;
      shared = placed.shared;
      peer = placed.peer;
      posted = all-dropped (λ (p : PostedSend). has_named_slot c q.domain p.request.op ≡ true) (suc x.place - q.sends.first) q.sends.items placed.posted;
    }

slot-polled : (c : Configuration) (name : QueueId) (xs : List Completion) (v : QueueSlot) → IsPlacedSlot c v → IsPlacedSlot c (slot_after_poll name xs v)
slot-polled c name xs (NoQueue incarnation timers) placed = record {}
slot-polled c name xs (Present q) placed = polled-placed c name xs q placed

place-placed : (c : Configuration) (w : World) (s : Slot) (cq : CompletionQueue) (xs : List Completion) (x : Completion) (k : Update → Plan) → IsFit c w
    → AllByRecursion (IsPlacedReservation c s) cq.reservations → IsSettled s (w.queue x.queue) x
    → ((u : Update) → IsConfigured c u.name × IsPlacedThing c u.name u.thing → IsPlacedPlan c w (k u)) → IsPlacedPlan c w (With_place s cq xs x k)
place-placed c w s cq xs x k fit reserved settled more = by (source_of_completion cq x) (source-in c s cq x reserved)
  where
    shared : ℕ → Slot
    shared srq = record { domain = s.domain; slot = srq }

    plan : Option ℕ → Plan
    plan None = Look (Queue_of x.queue) (λ slot. k (Queue_of x.queue := slot_after_poll x.queue xs slot))
    plan (Some srq) = Look (Srq_of (shared srq)) (λ slot. k (Srq_of (shared srq) := record slot { srq = option_map (receives_after_poll cq srq xs) slot.srq }))

    by : (o : Option ℕ) → IfSome o (λ srq. IsConfigured c (Srq_of (shared srq))) → IsPlacedPlan c w (plan o)
    by None one = (
      waiting-in c w s x fit settled,
      more (Queue_of x.queue := slot_after_poll x.queue xs (w.queue x.queue))
          (waiting-in c w s x fit settled, slot-polled c x.queue xs (w.queue x.queue) (fit.placed.things (Queue_of x.queue))),
    )
    by (Some srq) one = (one, more (Srq_of (shared srq) := record (w.srq (shared srq)) { srq = option_map (receives_after_poll cq srq xs) (w.srq (shared srq)).srq }) (one, record {}))

places-placed : (c : Configuration) (w : World) (s : Slot) (cq : CompletionQueue) (xs ys : List Completion) (k : List Update → Plan) → IsFit c w
    → AllByRecursion (IsPlacedReservation c s) cq.reservations → AllByRecursion (λ x. IsSettled s (w.queue x.queue) x) ys
    → ((us : List Update) → ArePlaced c us → IsPlacedPlan c w (k us)) → IsPlacedPlan c w (With_places s cq xs ys k)
places-placed c w s cq xs [] k fit reserved all more = more [] (record {})
places-placed c w s cq xs (y ∷ ys) k fit reserved all more = place-placed c w s cq xs y (λ u. With_places s cq xs ys (λ us. k (u ∷ us))) fit reserved all.0
    (λ u one. places-placed c w s cq xs ys (λ us. k (u ∷ us)) fit reserved all.1 (λ us rest. more (u ∷ us) (one, rest)))

pub poll-placed : (c : Configuration) (w : World) (call : Call) (s : Slot) (n least : ℕ) → IsFit c w → IsConfigured c (Cq_of s) → IsPlacedPlan c w (poll_plan call s n least)
poll-placed c w call s n least fit has = (has, by (w.cq s) (fit.placed.things (Cq_of s)) (fit.sound.settled s))
  where
    by : (o : Option CompletionQueue) → IsPlacedThing c (Cq_of s) o → IfSome o (λ v. AllByRecursion (λ x. IsSettled s (w.queue x.queue) x) v.waiting) → IsPlacedPlan c w (Poll_of call s n least o)
    by None reserved all = (record {}, record {})
    by (Some cq) reserved all = (
      λ is. (record {}, record {}),
      λ fails. (
        λ few. record {},
        λ enough.
            places-placed c w s cq (take n cq.waiting) (take n cq.waiting) _ fit reserved (all-taken (λ x. IsSettled s (w.queue x.queue) x) n cq.waiting all)
            (λ us placed. (((has, reserved), placed), record {})),
      ),
    )
