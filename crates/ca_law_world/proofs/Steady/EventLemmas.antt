-- Each event leaves queue pairs steady. For proofs only.
use Rattle.std.proofs.Common.{Bool, true, false, List, [], ◌∷◌, if◌then◌else◌, refl}
use Rattle.ca_base.specs.Configuration.{Configuration}
use Rattle.ca_keys.specs.Equal.{queue_eq}
use Rattle.ca_keys.specs.Memory.{ByteMap, bytes_at}
use Rattle.ca_law_world.proofs.Sound.PlanWalks.{walk-present}
use Rattle.ca_law_world.proofs.Sound.WorldLemmas.{EndsIn}
use Rattle.ca_model.proofs.FrameLemmas.{after_write}
use Rattle.ca_model.specs.declared.event.Event.{Event}
use Rattle.ca_model.specs.declared.event.Event.TheVariants as events
use Rattle.ca_model.specs.declared.verb.Verb.{Verb}
use Rattle.ca_model.specs.declared.verb.Verb.TheVariants as verbs
use Rattle.ca_model.specs.machine.Frame.{Afterwards}
use Rattle.ca_model.specs.machine.Plan.{Finish, If, Look, Plan, Read, Stuck, Update, Write, perform, put_all, write_all}
use Rattle.ca_model.specs.machine.Sound.{IsSoundWorld}
use Rattle.ca_model.specs.machine.Step.{plan, step, verb_plan}
use Rattle.ca_model.specs.machine.VerbAnswers.{Call}
use Rattle.ca_model.specs.machine.World.{Byte_at, Cq_of, Domain_of, Mailbox_of, Name, Queue_of, Region_of, Srq_of, Thing, Window_of, World, get, opening_world, put}
use Rattle.ca_law_world.proofs.Steady.TurnLemmas.{AllSteady, IsSteadyThing, steady-deliver, steady-inject, steady-request, steady-respond, steady-timeout, steady-wake}
use Rattle.ca_law_world.proofs.Steady.VerbLemmas.{steady-create_qp, steady-dealloc_mw, steady-destroy_qp, steady-modify_qp, steady-poll, steady-post_recv, steady-post_send, steady-post_srq}
use Rattle.ca_law_world.specs.Steady.{IsSteadySlot, IsSteadyWorld}

-- every verb whose names are configured
steady-verb : (c : Configuration) (w : World) (call : Call) (verb : Verb) → IsSoundWorld c w → IsSteadyWorld w → EndsIn w AllSteady (verb_plan c call verb)
steady-verb c w call (verbs.AllocPd d) sound steady = (λ is. record {}, λ free. (record {}, record {}))
steady-verb c w call (verbs.DeallocPd d) sound steady = (λ is. record {}, λ there. (λ is. record {}, λ empty. (record {}, record {})))
steady-verb c w call (verbs.RegMr s buffer offset count rights) sound steady = (
  λ is. record {},
  λ there. (λ is. record {}, λ vacant. (λ is. record {}, λ some. (λ is. record {}, λ inside. (λ is. record {}, λ right. (record {}, (record {}, record {})))))),
)
steady-verb c w call (verbs.AllocMr s pages) sound steady = (λ is. record {}, λ there. (λ is. record {}, λ vacant. (λ is. record {}, λ range. (record {}, (record {}, record {})))))
steady-verb c w call (verbs.DeregMr s) sound steady = (λ is. record {}, λ there. (λ is. record {}, λ free. (record {}, (record {}, record {}))))
steady-verb c w call (verbs.AllocMw s kind) sound steady = (λ is. record {}, λ there. (λ is. record {}, λ vacant. (λ is. record {}, λ kinds. (record {}, (record {}, record {})))))
steady-verb c w call (verbs.DeallocMw s) sound steady = steady-dealloc_mw w call s steady
steady-verb c w call (verbs.CreateCq s capacity) sound steady = (λ is. record {}, λ there. (λ is. record {}, λ free. (λ is. record {}, λ range. (record {}, (record {}, record {})))))
steady-verb c w call (verbs.DestroyCq s) sound steady = (λ is. record {}, λ there. (λ is. record {}, λ free. (record {}, (record {}, record {}))))
steady-verb c w call (verbs.CreateSrq s depth) sound steady = (λ is. record {}, λ there. (λ is. record {}, λ free. (λ is. record {}, λ range. (record {}, (record {}, record {})))))
steady-verb c w call (verbs.DestroySrq s) sound steady = (λ is. record {}, λ there. (λ is. record {}, λ free. (record {}, (record {}, record {}))))
steady-verb c w call (verbs.CreateQp slot send_cq recv_cq send_depth recv_depth srq) sound steady = steady-create_qp c w call (record {
  slot = slot;
  send_cq = send_cq;
  recv_cq = recv_cq;
  send_depth = send_depth;
  recv_depth = recv_depth;
  srq = srq;
})
steady-verb c w call (verbs.ModifyQp slot change) sound steady = steady-modify_qp c w call slot change sound steady
steady-verb c w call (verbs.QueryQp slot) sound steady = walk-present c w AllSteady call slot _ sound (record {}) (λ q there. record {})
steady-verb c w call (verbs.DestroyQp slot) sound steady = steady-destroy_qp c w call slot sound
steady-verb c w call (verbs.PostSend slot request) sound steady = steady-post_send c w call slot request sound steady
steady-verb c w call (verbs.PostRecv slot request) sound steady = steady-post_recv c w call slot request sound steady
steady-verb c w call (verbs.PostSrq slot request) sound steady = steady-post_srq w call slot request
steady-verb c w call (verbs.Poll slot k least) sound steady = steady-poll c w call slot k least sound steady
steady-verb c w call (verbs.Store adapter buffer offset bytes) sound steady = (λ is. record {}, λ range. (λ is. record {}, λ inside. record {}))
steady-verb c w call (verbs.Load adapter buffer offset count) sound steady = (λ is. record {}, λ range. (λ is. record {}, λ inside. record {}))
steady-verb c w call (verbs.Inject queue bytes) sound steady = steady-inject c w call queue bytes sound steady

steady-plan : (c : Configuration) (w : World) (event : Event) → IsSoundWorld c w → IsSteadyWorld w → EndsIn w AllSteady (plan c event)
steady-plan c w (events.Verb by verb) sound steady = (λ named. steady-verb c w (record { by = by; verb = verb }) verb sound steady, λ none. record {})
steady-plan c w (events.Request queue lot) sound steady = steady-request c w queue lot sound steady
steady-plan c w (events.Deliver queue index) sound steady = steady-deliver c w queue index sound steady
steady-plan c w (events.Respond queue lot) sound steady = steady-respond c w queue lot sound steady
steady-plan c w (events.Timeout queue hasten) sound steady = steady-timeout c w queue hasten sound steady
steady-plan c w (events.RnrWake queue) sound steady = steady-wake c w queue sound steady

-- ---- what is carried out

choose : {A : Type 0} (P : A → Type 0) (x y : A) (b : Bool) → P x → P y → P (if b then x else y)
choose P x y true one other = one
choose P x y false one other = other

put-steady : (w : World) (x : Name) (v : Thing x) → IsSteadyWorld w → IsSteadyThing x v → IsSteadyWorld (put w x v)
put-steady w (Domain_of s) v steady one = steady
put-steady w (Region_of s) v steady one = steady
put-steady w (Window_of s) v steady one = steady
put-steady w (Cq_of s) v steady one = steady
put-steady w (Srq_of s) v steady one = steady
put-steady w (Queue_of s) v steady one = λ q. choose IsSteadySlot v (w.queue q) (queue_eq s q) one (steady q)
put-steady w (Mailbox_of s) v steady one = steady
put-steady w (Byte_at p) v steady one = steady

puts-steady : (cs : List Update) (w : World) → IsSteadyWorld w → AllSteady cs → IsSteadyWorld (put_all cs w)
puts-steady [] w steady all = steady
puts-steady (x ∷ xs) w steady all = puts-steady xs (put w x.name x.thing) (put-steady w x.name x.thing steady all.0) all.1

writes-steady : (xs : List Write) (w : World) → IsSteadyWorld w → IsSteadyWorld (write_all xs w)
writes-steady [] w steady = steady
writes-steady (x ∷ xs) w steady = writes-steady xs (after_write x w) steady

perform-steady : (p : Plan) (w : World) → IsSteadyWorld w → EndsIn w AllSteady p → Afterwards IsSteadyWorld (perform w p)
perform-steady (Stuck reason) w steady ends = record {}
perform-steady (Look x k) w steady ends = perform-steady (k (get w x)) w steady ends
perform-steady (Read runs k) w steady ends = perform-steady (k (bytes_at w.byte runs)) w steady ends
perform-steady (If true p q) w steady ends = perform-steady p w steady (ends.0 refl)
perform-steady (If false p q) w steady ends = perform-steady q w steady (ends.1 refl)
perform-steady (Finish changes writes marks) w steady ends = writes-steady writes (put_all changes w) (puts-steady changes w steady ends)

pub event-steady : (c : Configuration) (event : Event) (w : World) → IsSoundWorld c w → IsSteadyWorld w → Afterwards IsSteadyWorld (step c w event)
event-steady c event w sound steady = perform-steady (plan c event) w steady (steady-plan c w event sound steady)

pub opening-steady : (byte : ByteMap) → IsSteadyWorld (opening_world byte)
opening-steady byte q = record {}
