-- The world before the first event is placed, every event keeps a world placed, and what it touches is configured.
use Rattle.std.proofs.Common.{◌≡◌, ◌∙◌, ◌==◌, Bool, true, false, List, [], ◌∷◌, length, IfSome, subst, sym, if◌then◌else◌, true≢false, refl}
use Rattle.std.proofs.lemmas.Bool.{and_parts, eqb-true}
use Rattle.std.specs.List.{AllByRecursion}
use Rattle.ca_keys.specs.declared.names.DomainId.{DomainId}
use Rattle.ca_keys.specs.declared.names.Slot.{Slot}
use Rattle.ca_base.specs.Configuration.{Configuration}
use Rattle.ca_keys.specs.Equal.{domain_eq, queue_eq, slot_eq}
use Rattle.ca_keys.specs.Memory.{ByteMap, bytes_at}
use Rattle.ca_base.specs.objects.Slices.{has_slot}
use Rattle.ca_model.specs.declared.event.Event.{Event}
use Rattle.ca_model.specs.declared.event.Event.TheVariants as events
use Rattle.ca_model.specs.declared.verb.Verb.{Verb}
use Rattle.ca_model.specs.declared.verb.Verb.TheVariants as verbs
use Rattle.ca_model.specs.machine.Frame.{Afterwards}
use Rattle.ca_model.specs.machine.Plan.{Finish, If, Look, Plan, Read, Stuck, Update, Write, perform, put_all, touches, write_all}
use Rattle.ca_model.specs.machine.Sound.{AreLimited, IsSettled, IsSoundWorld}
use Rattle.ca_model.specs.machine.Step.{has_buffer, has_named_slot, is_named, plan, run_of, step, verb_plan}
use Rattle.ca_model.specs.machine.VerbAnswers.{Call}
use Rattle.ca_model.specs.machine.World.{Byte_at, Cq_of, Domain_of, Mailbox_of, Name, Queue_of, Region_of, Srq_of, Thing, Window_of, World, get, opening_world, put}
use Rattle.ca_model.proofs.FrameLemmas.{after_write}
use Rattle.ca_law_world.proofs.Sound.SettledLemmas.{queue-path, slot-path, wait-map}
use Rattle.ca_law_parts.specs.Placed.{IsConfigured, IsPlacedThing, IsPlacedWorld, IsVacant, is_configured}
use Rattle.ca_law_parts.proofs.Names.PlanLemmas.{AreConfigured, ArePlaced, IsFit, IsPlacedPlan, placed-touches}
use Rattle.ca_law_parts.proofs.Names.PlacedOperationLemmas.{request-placed}
use Rattle.ca_law_parts.proofs.Names.PlacedQueueVerbLemmas.{create_qp-placed, destroy_qp-placed, modify_qp-placed, post_recv-placed, post_send-placed, query_qp-placed, queue-in}
use Rattle.ca_law_parts.proofs.Names.PlacedTurnLemmas.{deliver-placed, inject-placed, respond-placed, timeout-placed, wake-placed}
use Rattle.ca_law_parts.proofs.Names.PlacedVerbLemmas.{alloc_mr-placed, alloc_mw-placed, alloc_pd-placed, create_cq-placed, create_srq-placed, dealloc_mw-placed, dealloc_pd-placed, dereg_mr-placed, destroy_cq-placed, destroy_srq-placed, domain-in, load-placed, poll-placed, post_srq-placed, reg_mr-placed, store-placed, waiting-in}

verb-placed : (c : Configuration) (w : World) (call : Call) (verb : Verb) → AreLimited c → IsFit c w → is_named c verb ≡ true → IsPlacedPlan c w (verb_plan c call verb)
verb-placed c w call (verbs.AllocPd domain) limited fit named = alloc_pd-placed c w call domain named
verb-placed c w call (verbs.DeallocPd domain) limited fit named = dealloc_pd-placed c w call domain named
verb-placed c w call (verbs.RegMr slot buffer offset count rights) limited fit named =
    reg_mr-placed c w call slot (run_of slot.domain.adapter buffer offset count) _ rights (and_parts (has_slot c (λ a. a.regions) slot) (has_buffer c slot.domain.adapter buffer) named).0
verb-placed c w call (verbs.AllocMr slot pages) limited fit named = alloc_mr-placed c w call slot pages named
verb-placed c w call (verbs.DeregMr slot) limited fit named = dereg_mr-placed c w call slot named
verb-placed c w call (verbs.AllocMw slot kind) limited fit named = alloc_mw-placed c w call slot kind fit named
verb-placed c w call (verbs.DeallocMw slot) limited fit named = dealloc_mw-placed c w call slot fit named
verb-placed c w call (verbs.CreateCq slot capacity) limited fit named = create_cq-placed c w call slot capacity named
verb-placed c w call (verbs.DestroyCq slot) limited fit named = destroy_cq-placed c w call slot named
verb-placed c w call (verbs.CreateSrq slot depth) limited fit named = create_srq-placed c w call slot depth named
verb-placed c w call (verbs.DestroySrq slot) limited fit named = destroy_srq-placed c w call slot named
verb-placed c w call (verbs.CreateQp slot send_cq recv_cq send_depth recv_depth srq) limited fit named = create_qp-placed c w call (record {
  slot = slot;
  send_cq = send_cq;
  recv_cq = recv_cq;
  send_depth = send_depth;
  recv_depth = recv_depth;
  srq = srq;
}) fit (domain-in c (λ a. a.qps) slot named) (queue-in c slot limited named)
verb-placed c w call (verbs.ModifyQp slot change) limited fit named = modify_qp-placed c w call slot change fit (queue-in c slot limited named)
verb-placed c w call (verbs.QueryQp slot) limited fit named = query_qp-placed c w call slot fit (queue-in c slot limited named)
verb-placed c w call (verbs.DestroyQp slot) limited fit named = destroy_qp-placed c w call slot fit (domain-in c (λ a. a.qps) slot named) (queue-in c slot limited named)
verb-placed c w call (verbs.PostSend slot request) limited fit named = post_send-placed c w call slot request fit limited parts.0 parts.1
  where
    parts : (has_slot c (λ a. a.qps) slot ≡ true) × (has_named_slot c slot.domain request.op ≡ true)
    parts = and_parts (has_slot c (λ a. a.qps) slot) (has_named_slot c slot.domain request.op) named
verb-placed c w call (verbs.PostRecv slot request) limited fit named = post_recv-placed c w call slot request fit (queue-in c slot limited named)
verb-placed c w call (verbs.PostSrq slot request) limited fit named = post_srq-placed c w call slot request named
verb-placed c w call (verbs.Poll slot n least) limited fit named = poll-placed c w call slot n least fit named
verb-placed c w call (verbs.Store adapter buffer offset bytes) limited fit named = store-placed c w call (run_of adapter buffer offset (length bytes)) bytes
verb-placed c w call (verbs.Load adapter buffer offset count) limited fit named = load-placed c w call (run_of adapter buffer offset count)
verb-placed c w call (verbs.Inject queue bytes) limited fit named = inject-placed c w call queue bytes fit named

event-plan : (c : Configuration) (w : World) (event : Event) → AreLimited c → IsFit c w → IsPlacedPlan c w (plan c event)
event-plan c w (events.Verb by verb) limited fit =
    (λ named. verb-placed c w (record { by = by; verb = verb }) verb limited fit named, λ none. (record {}, record {}))
event-plan c w (events.Request queue lot) limited fit = request-placed c w queue lot fit
event-plan c w (events.Deliver queue index) limited fit = deliver-placed c w queue index fit
event-plan c w (events.Respond queue lot) limited fit = respond-placed c w queue lot fit
event-plan c w (events.Timeout queue hasten) limited fit = timeout-placed c w queue hasten fit
event-plan c w (events.RnrWake queue) limited fit = wake-placed c w queue fit

pub event-touches : (c : Configuration) (event : Event) (w : World) → AreLimited c → IsSoundWorld c w → IsPlacedWorld c w → AreConfigured c (touches w (plan c event))
event-touches c event w limited sound placed = placed-touches c w (plan c event) (event-plan c w event limited (record { sound = sound; placed = placed }))

-- a thing at a name: placed, and vacant where the name is not configured
record IsPlacedAt (c : Configuration) (n : Name) (v : Thing n) : Type 0 where
  pub placed : IsPlacedThing c n v
  pub vacant : is_configured c n ≡ false → IsVacant n v

abbrev Things : Configuration → World → Type 0
Things c w = (n : Name) → IsPlacedAt c n (get w n)

things-of : (c : Configuration) (w : World) → IsPlacedWorld c w → Things c w
things-of c w placed n = record { placed = placed.things n; vacant = placed.vacant n }

world-of : (c : Configuration) (w : World) → Things c w → IsPlacedWorld c w
world-of c w all = record { things = λ n. (all n).placed; vacant = λ n. (all n).vacant }

-- a thing that is put at a configured name
at-configured : (c : Configuration) (n : Name) (v : Thing n) → IsConfigured c n → IsPlacedThing c n v → IsPlacedAt c n v
at-configured c n v has placed = record { placed = placed; vacant = λ none. absurd (true≢false (sym has ∙ none)) }

domain-path : (a b : DomainId) → domain_eq a b ≡ true → a ≡ b
domain-path a b same = by (and_parts (a.adapter == b.adapter) (a.domain == b.domain) same)
  where
    by : ((a.adapter == b.adapter) ≡ true) × ((a.domain == b.domain) ≡ true) → a ≡ b
    by parts = λ i. record { adapter = eqb-true a.adapter b.adapter parts.0 i; domain = eqb-true a.domain b.domain parts.1 i }

-- another thing at a name, where both are placed
at-choice : (c : Configuration) (n : Name) (x y : Thing n) (b : Bool) → (b ≡ true → IsPlacedAt c n x) → IsPlacedAt c n y → IsPlacedAt c n (if b then x else y)
at-choice c n x y true one other = one refl
at-choice c n x y false one other = other

put-placed : (c : Configuration) (w : World) (n : Name) (x : Thing n) → Things c w → IsConfigured c n → IsPlacedThing c n x → Things c (put w n x)
put-placed c w (Domain_of s) x all has placed (Domain_of m) = at-choice c (Domain_of m) x (w.domain m) (domain_eq s m)
    (λ e. subst (λ k. IsPlacedAt c (Domain_of k) x) (domain-path s m e) (at-configured c (Domain_of s) x has placed)) (all (Domain_of m))
put-placed c w (Region_of s) x all has placed (Region_of m) = at-choice c (Region_of m) x (w.region m) (slot_eq s m)
    (λ e. subst (λ k. IsPlacedAt c (Region_of k) x) (slot-path s m e) (at-configured c (Region_of s) x has placed)) (all (Region_of m))
put-placed c w (Window_of s) x all has placed (Window_of m) = at-choice c (Window_of m) x (w.window m) (slot_eq s m)
    (λ e. subst (λ k. IsPlacedAt c (Window_of k) x) (slot-path s m e) (at-configured c (Window_of s) x has placed)) (all (Window_of m))
put-placed c w (Cq_of s) x all has placed (Cq_of m) = at-choice c (Cq_of m) x (w.cq m) (slot_eq s m)
    (λ e. subst (λ k. IsPlacedAt c (Cq_of k) x) (slot-path s m e) (at-configured c (Cq_of s) x has placed)) (all (Cq_of m))
put-placed c w (Srq_of s) x all has placed (Srq_of m) = at-choice c (Srq_of m) x (w.srq m) (slot_eq s m)
    (λ e. subst (λ k. IsPlacedAt c (Srq_of k) x) (slot-path s m e) (at-configured c (Srq_of s) x has placed)) (all (Srq_of m))
put-placed c w (Queue_of s) x all has placed (Queue_of m) = at-choice c (Queue_of m) x (w.queue m) (queue_eq s m)
    (λ e. subst (λ k. IsPlacedAt c (Queue_of k) x) (queue-path s m e) (at-configured c (Queue_of s) x has placed)) (all (Queue_of m))
put-placed c w (Mailbox_of s) x all has placed (Mailbox_of m) = at-choice c (Mailbox_of m) x (w.mailbox m) (queue_eq s m)
    (λ e. subst (λ k. IsPlacedAt c (Mailbox_of k) x) (queue-path s m e) (at-configured c (Mailbox_of s) x has placed)) (all (Mailbox_of m))
put-placed c w n x all has placed (Byte_at m) = record { placed = record {}; vacant = λ none. record {} }
put-placed c w n x all has placed m = all m

puts-placed : (c : Configuration) (cs : List Update) (w : World) → Things c w → ArePlaced c cs → Things c (put_all cs w)
puts-placed c [] w all placed = all
puts-placed c (x ∷ xs) w all placed = puts-placed c xs (put w x.name x.thing) (put-placed c w x.name x.thing all placed.0.0 placed.0.1) placed.1

write-placed : (c : Configuration) (x : Write) (w : World) → Things c w → Things c (after_write x w)
write-placed c x w all (Byte_at p) = record { placed = record {}; vacant = λ none. record {} }
write-placed c x w all (Domain_of d) = all (Domain_of d)
write-placed c x w all (Region_of s) = all (Region_of s)
write-placed c x w all (Window_of s) = all (Window_of s)
write-placed c x w all (Cq_of s) = all (Cq_of s)
write-placed c x w all (Srq_of s) = all (Srq_of s)
write-placed c x w all (Queue_of q) = all (Queue_of q)
write-placed c x w all (Mailbox_of q) = all (Mailbox_of q)

writes-placed : (c : Configuration) (xs : List Write) (w : World) → Things c w → Things c (write_all xs w)
writes-placed c [] w all = all
writes-placed c (x ∷ xs) w all = writes-placed c xs (after_write x w) (write-placed c x w all)

perform-placed : (c : Configuration) (p : Plan) (w : World) → IsPlacedWorld c w → IsPlacedPlan c w p → Afterwards (IsPlacedWorld c) (perform w p)
perform-placed c (Stuck reason) w placed all = record {}
perform-placed c (Look n k) w placed all = perform-placed c (k (get w n)) w placed all.1
perform-placed c (Read runs k) w placed all = perform-placed c (k (bytes_at w.byte runs)) w placed all.1
perform-placed c (If true p q) w placed all = perform-placed c p w placed (all.0 refl)
perform-placed c (If false p q) w placed all = perform-placed c q w placed (all.1 refl)
perform-placed c (Finish changes writes marks) w placed all =
    world-of c (write_all writes (put_all changes w)) (writes-placed c writes (put_all changes w) (puts-placed c changes w (things-of c w placed) all.0))

pub event-placed : (c : Configuration) (event : Event) (w : World) → AreLimited c → IsSoundWorld c w → IsPlacedWorld c w → Afterwards (IsPlacedWorld c) (step c w event)
event-placed c event w limited sound placed = perform-placed c (plan c event) w placed (event-plan c w event limited (record { sound = sound; placed = placed }))

pub opening-placed : (c : Configuration) (byte : ByteMap) → IsPlacedWorld c (opening_world byte)
opening-placed c byte = world-of c (opening_world byte) by
  where
    by : Things c (opening_world byte)
    by (Domain_of d) = record { placed = record {}; vacant = λ none. refl }
    by (Region_of s) = record { placed = record {}; vacant = λ none. refl }
    by (Window_of s) = record { placed = record {}; vacant = λ none. refl }
    by (Cq_of s) = record { placed = record {}; vacant = λ none. refl }
    by (Srq_of s) = record { placed = record {}; vacant = λ none. refl }
    by (Queue_of q) = record { placed = record {}; vacant = λ none. refl }
    by (Mailbox_of q) = record { placed = record {}; vacant = λ none. refl }
    by (Byte_at p) = record { placed = record {}; vacant = λ none. record {} }

-- the queue pairs of completions that wait are configured
pub waiting-configured : (c : Configuration) (w : World) (s : Slot) → IsSoundWorld c w → IsPlacedWorld c w
    → IfSome (w.cq s) (λ v. AllByRecursion (λ x. IsConfigured c (Queue_of x.queue)) v.waiting)
waiting-configured c w s sound placed = wait-map (λ x. IsSettled s (w.queue x.queue) x) (λ x. IsConfigured c (Queue_of x.queue))
    (λ x settled. waiting-in c w s x (record { sound = sound; placed = placed }) settled) (w.cq s) (sound.settled s)
