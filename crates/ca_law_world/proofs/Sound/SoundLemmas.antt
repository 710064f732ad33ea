-- The world before the first event is sound, and every event keeps a world sound.
use Rattle.std.proofs.Common.{◌≡◌, ◌∙◌, Bool, true, false, List, [], ◌∷◌, length, subst, if◌then◌else◌, refl, arith}
use Rattle.ca_keys.specs.declared.names.QueueId.{QueueId}
use Rattle.ca_keys.specs.declared.names.Slot.{Slot}
use Rattle.ca_base.specs.Configuration.{Configuration}
use Rattle.ca_keys.specs.Equal.{domain_eq, queue_eq, slot_eq}
use Rattle.ca_keys.specs.Memory.{ByteMap, bytes_at}
use Rattle.ca_base.specs.objects.QueuePair.{QueueSlot}
use Rattle.ca_base.specs.objects.Region.{Region}
use Rattle.ca_base.specs.objects.Window.{Window}
use Rattle.ca_model.specs.declared.event.Event.{Event}
use Rattle.ca_model.specs.declared.event.Event.TheVariants as events
use Rattle.ca_model.specs.declared.verb.Verb.{Verb}
use Rattle.ca_model.specs.declared.verb.Verb.TheVariants as verbs
use Rattle.ca_model.specs.machine.Frame.{Afterwards}
use Rattle.ca_model.specs.machine.Plan.{Finish, If, Look, Plan, Read, Stuck, Update, Write, perform, put_all, write_all}
use Rattle.ca_model.specs.machine.Step.{bytes_of_buffer, is_named, plan, run_of, step, verb_plan}
use Rattle.ca_model.specs.machine.VerbAnswers.{Call}
use Rattle.ca_model.specs.machine.World.{Byte_at, Cq_of, Domain_of, Mailbox_of, Name, Queue_of, Region_of, Srq_of, Thing, Window_of, World, get, opening_world, put}
use Rattle.ca_model.proofs.FrameLemmas.{after_write}
use Rattle.ca_model.specs.machine.Sound.{AreLimited, CanBeMade, HasFewPieces, IsQueueOf, IsSoundWorld, IsSoundState, IsSoundThing}
use Rattle.ca_law_world.proofs.Sound.EngineLemmas.{ends-deliver, ends-respond, ends-timeout, ends-wake}
use Rattle.ca_law_world.proofs.Sound.EventLemmas.{ends-alloc_mr, ends-alloc_mw, ends-alloc_pd, ends-create_cq, ends-create_srq, ends-dealloc_mw, ends-dealloc_pd, ends-dereg_mr, ends-destroy_cq, ends-destroy_srq, ends-inject, ends-load, ends-reg_mr, ends-store, unchanged}
use Rattle.ca_law_world.proofs.Sound.LocalLemmas.{ends-request}
use Rattle.ca_law_world.proofs.Sound.PollLemmas.{ends-poll}
use Rattle.ca_law_world.proofs.Sound.QueueVerbLemmas.{ends-create_qp, ends-destroy_qp, ends-modify_qp, ends-post_recv, ends-post_send, ends-post_srq, ends-query}
use Rattle.ca_law_world.proofs.Sound.SettledLemmas.{queue-path, slot-path}
use Rattle.ca_law_world.proofs.Sound.VerbLemmas.{queue-slot}
use Rattle.ca_law_world.proofs.Sound.WorldLemmas.{AreSound, EndsIn, IsGoodChange}

ends-verb : (c : Configuration) (w : World) (call : Call) (verb : Verb) → AreLimited c → IsSoundWorld c w → HasFewPieces verb → is_named c verb ≡ true
    → EndsIn w (IsGoodChange c w) (verb_plan c call verb)
ends-verb c w call (verbs.AllocPd domain) limited sound few named = ends-alloc_pd c w call domain sound
ends-verb c w call (verbs.DeallocPd domain) limited sound few named = ends-dealloc_pd c w call domain sound
ends-verb c w call (verbs.RegMr slot buffer offset count rights) limited sound few named = ends-reg_mr c w call slot (run_of slot.domain.adapter buffer offset count) rights sound refl
ends-verb c w call (verbs.AllocMr slot pages) limited sound few named = ends-alloc_mr c w call slot pages sound
ends-verb c w call (verbs.DeregMr slot) limited sound few named = ends-dereg_mr c w call slot sound
ends-verb c w call (verbs.AllocMw slot kind) limited sound few named = ends-alloc_mw c w call slot kind sound
ends-verb c w call (verbs.DeallocMw slot) limited sound few named = ends-dealloc_mw c w call slot sound
ends-verb c w call (verbs.CreateCq slot capacity) limited sound few named = ends-create_cq c w call slot capacity sound
ends-verb c w call (verbs.DestroyCq slot) limited sound few named = ends-destroy_cq c w call slot sound
ends-verb c w call (verbs.CreateSrq slot depth) limited sound few named = ends-create_srq c w call slot depth sound
ends-verb c w call (verbs.DestroySrq slot) limited sound few named = ends-destroy_srq c w call slot sound
ends-verb c w call (verbs.CreateQp slot send_cq recv_cq send_depth recv_depth srq) limited sound few named = ends-create_qp c w call (record {
  slot = slot;
  send_cq = send_cq;
  recv_cq = recv_cq;
  send_depth = send_depth;
  recv_depth = recv_depth;
  srq = srq;
}) sound (queue-slot c slot limited named)
ends-verb c w call (verbs.ModifyQp slot change) limited sound few named = ends-modify_qp c w call slot change sound limited
ends-verb c w call (verbs.QueryQp slot) limited sound few named = ends-query c w call slot sound
ends-verb c w call (verbs.DestroyQp slot) limited sound few named = ends-destroy_qp c w call slot sound
ends-verb c w call (verbs.PostSend slot request) limited sound few named = ends-post_send c w call slot request sound few
ends-verb c w call (verbs.PostRecv slot request) limited sound few named = ends-post_recv c w call slot request sound few
ends-verb c w call (verbs.PostSrq slot request) limited sound few named = ends-post_srq c w call slot request sound few
ends-verb c w call (verbs.Poll slot n least) limited sound few named = ends-poll c w call slot n least sound
ends-verb c w call (verbs.Store adapter buffer offset bytes) limited sound few named =
    ends-store c w call (run_of adapter buffer offset (length bytes)) (bytes_of_buffer c adapter buffer) bytes sound
ends-verb c w call (verbs.Load adapter buffer offset count) limited sound few named = ends-load c w call (run_of adapter buffer offset count) (bytes_of_buffer c adapter buffer) sound
ends-verb c w call (verbs.Inject queue bytes) limited sound few named = ends-inject c w call queue bytes sound

ends-event : (c : Configuration) (w : World) (event : Event) → AreLimited c → IsSoundWorld c w → CanBeMade event → EndsIn w (IsGoodChange c w) (plan c event)
ends-event c w (events.Verb by verb) limited sound few =
    (λ named. ends-verb c w (record { by = by; verb = verb }) verb limited sound few named, λ none. unchanged c w sound)
ends-event c w (events.Request queue lot) limited sound few = ends-request c w queue lot sound
ends-event c w (events.Deliver queue index) limited sound few = ends-deliver c w queue index sound
ends-event c w (events.Respond queue lot) limited sound few = ends-respond c w queue lot sound
ends-event c w (events.Timeout queue hasten) limited sound few = ends-timeout c w queue hasten sound
ends-event c w (events.RnrWake queue) limited sound few = ends-wake c w queue sound

-- every thing of a world is sound
abbrev Things : Configuration → World → Type 0
Things c w = (n : Name) → IsSoundThing c n (get w n)

region-placed : (c : Configuration) (s m : Slot) (x y : Region) (b : Bool) → slot_eq s m ≡ b → IsSoundThing c (Region_of s) x → IsSoundThing c (Region_of m) y
    → IsSoundThing c (Region_of m) (if b then x else y)
region-placed c s m x y true e one other = subst (λ k. IsSoundState c k x.low x.state) (slot-path s m e) one
region-placed c s m x y false e one other = other

window-placed : (c : Configuration) (s m : Slot) (x y : Window) (b : Bool) → slot_eq s m ≡ b → IsSoundThing c (Window_of s) x → IsSoundThing c (Window_of m) y
    → IsSoundThing c (Window_of m) (if b then x else y)
window-placed c s m x y true e one other = (one.0 ∙ slot-path s m e, one.1)
window-placed c s m x y false e one other = other

queue-placed : (s m : QueueId) (x y : QueueSlot) (b : Bool) → queue_eq s m ≡ b → IsQueueOf s x → IsQueueOf m y → IsQueueOf m (if b then x else y)
queue-placed s m x y true e one other = subst (λ k. IsQueueOf k x) (queue-path s m e) one
queue-placed s m x y false e one other = other

choose : {A : Type 0} (P : A → Type 0) (x y : A) (b : Bool) → P x → P y → P (if b then x else y)
choose P x y true one other = one
choose P x y false one other = other

put-sound : (c : Configuration) (w : World) (n : Name) (x : Thing n) → Things c w → IsSoundThing c n x → Things c (put w n x)
put-sound c w (Region_of s) x sound one (Region_of m) = region-placed c s m x (w.region m) (slot_eq s m) refl one (sound (Region_of m))
put-sound c w (Window_of s) x sound one (Window_of m) = window-placed c s m x (w.window m) (slot_eq s m) refl one (sound (Window_of m))
put-sound c w (Queue_of s) x sound one (Queue_of m) = queue-placed s m x (w.queue m) (queue_eq s m) refl one (sound (Queue_of m))
put-sound c w (Domain_of s) x sound one (Domain_of m) = choose (λ v. IsSoundThing c (Domain_of m) v) x (w.domain m) (domain_eq s m) one (sound (Domain_of m))
put-sound c w (Cq_of s) x sound one (Cq_of m) = choose (λ v. IsSoundThing c (Cq_of m) v) x (w.cq m) (slot_eq s m) one (sound (Cq_of m))
put-sound c w (Srq_of s) x sound one (Srq_of m) = choose (λ v. IsSoundThing c (Srq_of m) v) x (w.srq m) (slot_eq s m) one (sound (Srq_of m))
put-sound c w (Mailbox_of s) x sound one (Mailbox_of m) = choose (λ v. IsSoundThing c (Mailbox_of m) v) x (w.mailbox m) (queue_eq s m) one (sound (Mailbox_of m))
put-sound c w n x sound one (Byte_at m) = record {}
put-sound c w n x sound one m = sound m

puts-sound : (c : Configuration) (cs : List Update) (w : World) → Things c w → AreSound c cs → Things c (put_all cs w)
puts-sound c [] w sound all = sound
puts-sound c (x ∷ xs) w sound all = puts-sound c xs (put w x.name x.thing) (put-sound c w x.name x.thing sound all.0) all.1

write-sound : (c : Configuration) (x : Write) (w : World) → IsSoundWorld c w → IsSoundWorld c (after_write x w)
write-sound c x w sound = record { things = by; settled = sound.settled }
  where
    by : (n : Name) → IsSoundThing c n (get (after_write x w) n)
    by (Byte_at p) = record {}
    by (Domain_of d) = sound.things (Domain_of d)
    by (Region_of s) = sound.things (Region_of s)
    by (Window_of s) = sound.things (Window_of s)
    by (Cq_of s) = sound.things (Cq_of s)
    by (Srq_of s) = sound.things (Srq_of s)
    by (Queue_of q) = sound.things (Queue_of q)
    by (Mailbox_of q) = sound.things (Mailbox_of q)

writes-sound : (c : Configuration) (xs : List Write) (w : World) → IsSoundWorld c w → IsSoundWorld c (write_all xs w)
writes-sound c [] w sound = sound
writes-sound c (x ∷ xs) w sound = writes-sound c xs (after_write x w) (write-sound c x w sound)

perform-sound : (c : Configuration) (p : Plan) (w : World) → IsSoundWorld c w → EndsIn w (IsGoodChange c w) p → Afterwards (IsSoundWorld c) (perform w p)
perform-sound c (Stuck reason) w sound ends = record {}
perform-sound c (Look n k) w sound ends = perform-sound c (k (get w n)) w sound ends
perform-sound c (Read runs k) w sound ends = perform-sound c (k (bytes_at w.byte runs)) w sound ends
perform-sound c (If true p q) w sound ends = perform-sound c p w sound (ends.0 refl)
perform-sound c (If false p q) w sound ends = perform-sound c q w sound (ends.1 refl)
perform-sound c (Finish changes writes marks) w sound ends =
    writes-sound c writes (put_all changes w) (record { things = puts-sound c changes w sound.things ends.things; settled = ends.settled })

pub event-sound : (c : Configuration) (event : Event) (w : World) → AreLimited c → IsSoundWorld c w → CanBeMade event → Afterwards (IsSoundWorld c) (step c w event)
event-sound c event w limited sound few = perform-sound c (plan c event) w sound (ends-event c w event limited sound few)

pub opening-sound : (c : Configuration) (byte : ByteMap) → IsSoundWorld c (opening_world byte)
opening-sound c byte = record { things = by; settled = λ s. record {} }
  where
    by : (n : Name) → IsSoundThing c n (get (opening_world byte) n)
    by (Domain_of d) = λ none. refl
    by (Region_of s) = record {}
    by (Window_of s) = (refl, record { kind = omega arith; binding = record {} })
    by (Cq_of s) = record {}
    by (Srq_of s) = record {}
    by (Queue_of q) = record {}
    by (Mailbox_of q) = record { kept = omega arith; came = omega arith; undelivered = omega arith }
    by (Byte_at p) = record {}
