-- Every event raises numbers by one, and whole PSNs by 4096, at most.
use Rattle.std.proofs.Common.{ℕ, suc, arith, Bool, true, false, List, [], ◌∷◌, if◌then◌else◌, refl}
use Rattle.ca_base.specs.Configuration.{Configuration}
use Rattle.ca_keys.specs.Equal.{domain_eq, queue_eq, slot_eq}
use Rattle.ca_keys.specs.Memory.{ByteMap, bytes_at}
use Rattle.ca_model.proofs.FrameLemmas.{after_write}
use Rattle.ca_model.specs.declared.event.Event.{Event}
use Rattle.ca_model.specs.declared.event.Event.TheVariants as events
use Rattle.ca_model.specs.declared.verb.Verb.{Verb}
use Rattle.ca_model.specs.declared.verb.Verb.TheVariants as verbs
use Rattle.ca_model.specs.machine.Frame.{Afterwards}
use Rattle.ca_model.specs.machine.Plan.{Finish, If, Look, Plan, Read, Stuck, Update, Write, perform, put_all, write_all}
use Rattle.ca_model.specs.machine.Sound.{IsSoundWorld}
use Rattle.ca_model.specs.machine.Step.{plan, step, verb_plan}
use Rattle.ca_model.specs.machine.VerbAnswers.{Call}
use Rattle.ca_model.specs.machine.World.{Byte_at, Cq_of, Domain_of, Mailbox_of, Name, Queue_of, Region_of, Srq_of, Thing, Window_of, World, get, opening_world, put}
use Rattle.ca_law_parts.specs.Raised.{IsThingWithin, IsWorldWithin}
use Rattle.ca_law_parts.proofs.Numbers.VerbNumberLemmas.{within-create_qp, within-dealloc_mw, within-destroy_qp, within-modify_qp, within-poll, within-post_recv, within-post_send, within-post_srq}
use Rattle.ca_law_parts.proofs.Numbers.WorldNumberLemmas.{AllWithin, shared-later, thing-later, within-deliver, within-inject, within-request, within-respond, within-timeout, within-wake}
use Rattle.ca_law_world.proofs.Sound.PlanWalks.{walk-present}
use Rattle.ca_law_world.proofs.Sound.WorldLemmas.{EndsIn}

-- every verb whose names are configured
within-verb : (c : Configuration) (n : ℕ) (w : World) (call : Call) (verb : Verb) → IsSoundWorld c w → IsWorldWithin n w → EndsIn w (AllWithin (suc n)) (verb_plan c call verb)
within-verb c n w call (verbs.AllocPd d) sound within = (λ is. record {}, λ free. (omega (arith, within (Domain_of d)), record {}))
within-verb c n w call (verbs.DeallocPd d) sound within = (λ is. record {}, λ there. (λ is. record {}, λ empty. (omega (arith, within (Domain_of d)), record {})))
within-verb c n w call (verbs.RegMr s buffer offset count rights) sound within = (
  λ is. record {},
  λ there. (
    λ is. record {},
    λ vacant. (
      λ is. record {},
      λ some. (
        λ is. record {},
        λ inside. (λ is. record {}, λ right. (omega (arith, within (Domain_of s.domain)), (omega (arith, within (Region_of s)), record {}))),
      ),
    ),
  ),
)
within-verb c n w call (verbs.AllocMr s pages) sound within = (
  λ is. record {},
  λ there. (λ is. record {}, λ vacant. (λ is. record {}, λ range. (omega (arith, within (Domain_of s.domain)), (omega (arith, within (Region_of s)), record {})))),
)
within-verb c n w call (verbs.DeregMr s) sound within = (
  λ is. record {},
  λ there. (λ is. record {}, λ free. (omega (arith, within (Domain_of s.domain)), (omega (arith, within (Region_of s)), record {}))),
)
within-verb c n w call (verbs.AllocMw s kind) sound within = (
  λ is. record {},
  λ there. (λ is. record {}, λ vacant. (λ is. record {}, λ kinds. (omega (arith, within (Domain_of s.domain)), (record {}, record {})))),
)
within-verb c n w call (verbs.DeallocMw s) sound within = within-dealloc_mw n w call s within
within-verb c n w call (verbs.CreateCq s capacity) sound within = (
  λ is. record {},
  λ there. (λ is. record {}, λ free. (λ is. record {}, λ range. (omega (arith, within (Domain_of s.domain)), (record {}, record {})))),
)
within-verb c n w call (verbs.DestroyCq s) sound within = (
  λ is. record {},
  λ there. (λ is. record {}, λ free. (omega (arith, within (Domain_of s.domain)), (record {}, record {}))),
)
within-verb c n w call (verbs.CreateSrq s depth) sound within = (
  λ is. record {},
  λ there. (
    λ is. record {},
    λ free. (λ is. record {}, λ range. (omega (arith, within (Domain_of s.domain)), (((shared-later n (w.srq s) (within (Srq_of s))).0, omega arith), record {}))),
  ),
)
within-verb c n w call (verbs.DestroySrq s) sound within = (
  λ is. record {},
  λ there. (
    λ is. record {},
    λ free. (omega (arith, within (Domain_of s.domain)), (((shared-later n (w.srq s) (within (Srq_of s))).0, record {}), record {})),
  ),
)
within-verb c n w call (verbs.CreateQp slot send_cq recv_cq send_depth recv_depth srq) sound within = within-create_qp c n w call (record {
  slot = slot;
  send_cq = send_cq;
  recv_cq = recv_cq;
  send_depth = send_depth;
  recv_depth = recv_depth;
  srq = srq;
}) within
within-verb c n w call (verbs.ModifyQp slot change) sound within = within-modify_qp c n w call slot change sound within
within-verb c n w call (verbs.QueryQp slot) sound within = walk-present c w (AllWithin (suc n)) call slot _ sound (record {}) (λ q there. record {})
within-verb c n w call (verbs.DestroyQp slot) sound within = within-destroy_qp c n w call slot sound within
within-verb c n w call (verbs.PostSend slot request) sound within = within-post_send c n w call slot request sound within
within-verb c n w call (verbs.PostRecv slot request) sound within = within-post_recv c n w call slot request sound within
within-verb c n w call (verbs.PostSrq slot request) sound within = within-post_srq n w call slot request within
within-verb c n w call (verbs.Poll slot k least) sound within = within-poll c n w call slot k least sound within
within-verb c n w call (verbs.Store adapter buffer offset bytes) sound within = (λ is. record {}, λ range. (λ is. record {}, λ inside. record {}))
within-verb c n w call (verbs.Load adapter buffer offset count) sound within = (λ is. record {}, λ range. (λ is. record {}, λ inside. record {}))
within-verb c n w call (verbs.Inject queue bytes) sound within = within-inject c n w call queue bytes sound within

within-plan : (c : Configuration) (n : ℕ) (w : World) (event : Event) → IsSoundWorld c w → IsWorldWithin n w → EndsIn w (AllWithin (suc n)) (plan c event)
within-plan c n w (events.Verb by verb) sound within = (λ named. within-verb c n w (record { by = by; verb = verb }) verb sound within, λ none. record {})
within-plan c n w (events.Request queue lot) sound within = within-request c n w queue lot sound within
within-plan c n w (events.Deliver queue index) sound within = within-deliver c n w queue index sound within
within-plan c n w (events.Respond queue lot) sound within = within-respond c n w queue lot sound within
within-plan c n w (events.Timeout queue hasten) sound within = within-timeout c n w queue hasten sound within
within-plan c n w (events.RnrWake queue) sound within = within-wake c n w queue sound within

choose : {A : Type 0} (P : A → Type 0) (x y : A) (b : Bool) → P x → P y → P (if b then x else y)
choose P x y true one other = one
choose P x y false one other = other

put-within : (n : ℕ) (w : World) (x : Name) (v : Thing x) → IsWorldWithin n w → IsThingWithin n x v → IsWorldWithin n (put w x v)
put-within n w (Domain_of s) v within one (Domain_of m) = choose (IsThingWithin n (Domain_of m)) v (w.domain m) (domain_eq s m) one (within (Domain_of m))
put-within n w (Region_of s) v within one (Region_of m) = choose (IsThingWithin n (Region_of m)) v (w.region m) (slot_eq s m) one (within (Region_of m))
put-within n w (Srq_of s) v within one (Srq_of m) = choose (IsThingWithin n (Srq_of m)) v (w.srq m) (slot_eq s m) one (within (Srq_of m))
put-within n w (Queue_of s) v within one (Queue_of m) = choose (IsThingWithin n (Queue_of m)) v (w.queue m) (queue_eq s m) one (within (Queue_of m))
put-within n w (Mailbox_of s) v within one (Mailbox_of m) = choose (IsThingWithin n (Mailbox_of m)) v (w.mailbox m) (queue_eq s m) one (within (Mailbox_of m))
put-within n w x v within one (Window_of m) = record {}
put-within n w x v within one (Cq_of m) = record {}
put-within n w x v within one (Byte_at m) = record {}
put-within n w x v within one m = within m

puts-within : (n : ℕ) (cs : List Update) (w : World) → IsWorldWithin n w → AllWithin n cs → IsWorldWithin n (put_all cs w)
puts-within n [] w within all = within
puts-within n (x ∷ xs) w within all = puts-within n xs (put w x.name x.thing) (put-within n w x.name x.thing within all.0) all.1

write-within : (n : ℕ) (x : Write) (w : World) → IsWorldWithin n w → IsWorldWithin n (after_write x w)
write-within n x w within (Byte_at p) = record {}
write-within n x w within (Domain_of d) = within (Domain_of d)
write-within n x w within (Region_of s) = within (Region_of s)
write-within n x w within (Window_of s) = record {}
write-within n x w within (Cq_of s) = record {}
write-within n x w within (Srq_of s) = within (Srq_of s)
write-within n x w within (Queue_of q) = within (Queue_of q)
write-within n x w within (Mailbox_of q) = within (Mailbox_of q)

writes-within : (n : ℕ) (xs : List Write) (w : World) → IsWorldWithin n w → IsWorldWithin n (write_all xs w)
writes-within n [] w within = within
writes-within n (x ∷ xs) w within = writes-within n xs (after_write x w) (write-within n x w within)

-- a world is within one event more
pub world-later : (n : ℕ) (w : World) → IsWorldWithin n w → IsWorldWithin (suc n) w
world-later n w within x = thing-later n x (get w x) (within x)

perform-within : (n : ℕ) (p : Plan) (w : World) → IsWorldWithin n w → EndsIn w (AllWithin n) p → Afterwards (IsWorldWithin n) (perform w p)
perform-within n (Stuck reason) w within ends = record {}
perform-within n (Look x k) w within ends = perform-within n (k (get w x)) w within ends
perform-within n (Read runs k) w within ends = perform-within n (k (bytes_at w.byte runs)) w within ends
perform-within n (If true p q) w within ends = perform-within n p w within (ends.0 refl)
perform-within n (If false p q) w within ends = perform-within n q w within (ends.1 refl)
perform-within n (Finish changes writes marks) w within ends = writes-within n writes (put_all changes w) (puts-within n changes w within ends)

pub event-within : (c : Configuration) (event : Event) (n : ℕ) (w : World) → IsSoundWorld c w → IsWorldWithin n w → Afterwards (IsWorldWithin (suc n)) (step c w event)
event-within c event n w sound within = perform-within (suc n) (plan c event) w (world-later n w within) (within-plan c n w event sound within)

pub opening-within : (byte : ByteMap) → IsWorldWithin 0 (opening_world byte)
opening-within byte (Domain_of d) = omega arith
opening-within byte (Region_of s) = omega arith
opening-within byte (Window_of s) = record {}
opening-within byte (Cq_of s) = record {}
opening-within byte (Srq_of s) = (omega arith, record {})
opening-within byte (Queue_of q) = (omega arith, omega arith)
opening-within byte (Mailbox_of q) = (omega arith, record {})
opening-within byte (Byte_at p) = record {}
