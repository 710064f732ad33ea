-- Each event leaves windows bound beside their queue pairs. For proofs only.
use Rattle.std.proofs.Common.{◌≡◌, Bool, true, false, List, [], ◌∷◌, if◌then◌else◌, refl, subst}
use Rattle.ca_base.specs.Configuration.{Configuration}
use Rattle.ca_keys.specs.Equal.{slot_eq}
use Rattle.ca_keys.specs.Memory.{bytes_at}
use Rattle.ca_keys.specs.declared.names.Slot.{Slot}
use Rattle.ca_law_isolation.proofs.BesideTurnLemmas.{AllBeside, IsBeside, IsBesideThing, beside-deliver, beside-inject, beside-request, beside-respond, beside-timeout, beside-wake}
use Rattle.ca_law_isolation.proofs.BesideVerbLemmas.{beside-create_qp, beside-dealloc_mw, beside-destroy_qp, beside-modify_qp, beside-poll, beside-post_recv, beside-post_send, beside-post_srq}
use Rattle.ca_law_isolation.specs.Domains.{AreBoundBeside}
use Rattle.ca_law_world.proofs.Sound.PlanWalks.{walk-present}
use Rattle.ca_law_world.proofs.Sound.SettledLemmas.{slot-path}
use Rattle.ca_law_world.proofs.Sound.WorldLemmas.{EndsIn}
use Rattle.ca_model.proofs.FrameLemmas.{after_write}
use Rattle.ca_model.specs.declared.event.Event.{Event}
use Rattle.ca_model.specs.declared.event.Event.TheVariants as events
use Rattle.ca_model.specs.declared.verb.Verb.{Verb}
use Rattle.ca_model.specs.declared.verb.Verb.TheVariants as verbs
use Rattle.ca_model.specs.machine.Frame.{Afterwards}
use Rattle.ca_model.specs.machine.Plan.{Finish, If, Look, Plan, Read, Stuck, Update, Write, perform, put_all, write_all}
use Rattle.ca_model.specs.machine.Sound.{IsSoundWorld}
use Rattle.ca_model.specs.machine.Step.{plan, step, verb_plan}
use Rattle.ca_model.specs.machine.VerbAnswers.{Call}
use Rattle.ca_model.specs.machine.World.{Byte_at, Cq_of, Domain_of, Mailbox_of, Name, Queue_of, Region_of, Srq_of, Thing, Window_of, World, get, put}

-- every verb whose names are configured
beside-verb : (c : Configuration) (w : World) (call : Call) (verb : Verb) → IsSoundWorld c w → AreBoundBeside w → EndsIn w AllBeside (verb_plan c call verb)
beside-verb c w call (verbs.AllocPd d) sound own = (λ is. record {}, λ free. (record {}, record {}))
beside-verb c w call (verbs.DeallocPd d) sound own = (λ is. record {}, λ there. (λ is. record {}, λ empty. (record {}, record {})))
beside-verb c w call (verbs.RegMr s buffer offset count rights) sound own = (
  λ is. record {},
  λ there. (λ is. record {}, λ vacant. (λ is. record {}, λ some. (λ is. record {}, λ inside. (λ is. record {}, λ right. (record {}, (record {}, record {})))))),
)
beside-verb c w call (verbs.AllocMr s pages) sound own = (λ is. record {}, λ there. (λ is. record {}, λ vacant. (λ is. record {}, λ range. (record {}, (record {}, record {})))))
beside-verb c w call (verbs.DeregMr s) sound own = (λ is. record {}, λ there. (λ is. record {}, λ free. (record {}, (record {}, record {}))))
beside-verb c w call (verbs.AllocMw s kind) sound own = (λ is. record {}, λ there. (λ is. record {}, λ vacant. (λ is. record {}, λ kinds. (record {}, (own s, record {})))))
beside-verb c w call (verbs.DeallocMw s) sound own = beside-dealloc_mw w call s
beside-verb c w call (verbs.CreateCq s capacity) sound own = (λ is. record {}, λ there. (λ is. record {}, λ free. (λ is. record {}, λ range. (record {}, (record {}, record {})))))
beside-verb c w call (verbs.DestroyCq s) sound own = (λ is. record {}, λ there. (λ is. record {}, λ free. (record {}, (record {}, record {}))))
beside-verb c w call (verbs.CreateSrq s depth) sound own = (λ is. record {}, λ there. (λ is. record {}, λ free. (λ is. record {}, λ range. (record {}, (record {}, record {})))))
beside-verb c w call (verbs.DestroySrq s) sound own = (λ is. record {}, λ there. (λ is. record {}, λ free. (record {}, (record {}, record {}))))
beside-verb c w call (verbs.CreateQp slot send_cq recv_cq send_depth recv_depth srq) sound own = beside-create_qp c w call (record {
  slot = slot;
  send_cq = send_cq;
  recv_cq = recv_cq;
  send_depth = send_depth;
  recv_depth = recv_depth;
  srq = srq;
})
beside-verb c w call (verbs.ModifyQp slot change) sound own = beside-modify_qp c w call slot change sound
beside-verb c w call (verbs.QueryQp slot) sound own = walk-present c w AllBeside call slot _ sound (record {}) (λ q there. record {})
beside-verb c w call (verbs.DestroyQp slot) sound own = beside-destroy_qp c w call slot sound
beside-verb c w call (verbs.PostSend slot request) sound own = beside-post_send c w call slot request sound own
beside-verb c w call (verbs.PostRecv slot request) sound own = beside-post_recv c w call slot request sound
beside-verb c w call (verbs.PostSrq slot request) sound own = beside-post_srq w call slot request
beside-verb c w call (verbs.Poll slot k least) sound own = beside-poll w call slot k least
beside-verb c w call (verbs.Store adapter buffer offset bytes) sound own = (λ is. record {}, λ range. (λ is. record {}, λ inside. record {}))
beside-verb c w call (verbs.Load adapter buffer offset count) sound own = (λ is. record {}, λ range. (λ is. record {}, λ inside. record {}))
beside-verb c w call (verbs.Inject queue bytes) sound own = beside-inject c w call queue bytes sound

beside-plan : (c : Configuration) (w : World) (event : Event) → IsSoundWorld c w → AreBoundBeside w → EndsIn w AllBeside (plan c event)
beside-plan c w (events.Verb by verb) sound own = (λ named. beside-verb c w (record { by = by; verb = verb }) verb sound own, λ none. record {})
beside-plan c w (events.Request queue lot) sound own = beside-request c w queue lot sound
beside-plan c w (events.Deliver queue index) sound own = beside-deliver c w queue index sound
beside-plan c w (events.Respond queue lot) sound own = beside-respond c w queue lot sound
beside-plan c w (events.Timeout queue hasten) sound own = beside-timeout c w queue hasten sound
beside-plan c w (events.RnrWake queue) sound own = beside-wake c w queue sound

-- ---- what is carried out

put-beside : (w : World) (x : Name) (v : Thing x) → AreBoundBeside w → IsBesideThing x v → AreBoundBeside (put w x v)
put-beside w (Domain_of s) v own one = own
put-beside w (Region_of s) v own one = own
put-beside w (Window_of s) v own one = λ t. by t (slot_eq s t) refl
  where
    by : (t : Slot) (b : Bool) → slot_eq s t ≡ b → IsBeside t (if b then v else w.window t)
    by t true same = subst (λ u. IsBeside u v) (slot-path s t same) one
    by t false other = own t
put-beside w (Cq_of s) v own one = own
put-beside w (Srq_of s) v own one = own
put-beside w (Queue_of s) v own one = own
put-beside w (Mailbox_of s) v own one = own
put-beside w (Byte_at p) v own one = own

puts-beside : (cs : List Update) (w : World) → AreBoundBeside w → AllBeside cs → AreBoundBeside (put_all cs w)
puts-beside [] w own all = own
puts-beside (x ∷ xs) w own all = puts-beside xs (put w x.name x.thing) (put-beside w x.name x.thing own all.0) all.1

writes-beside : (xs : List Write) (w : World) → AreBoundBeside w → AreBoundBeside (write_all xs w)
writes-beside [] w own = own
writes-beside (x ∷ xs) w own = writes-beside xs (after_write x w) own

perform-beside : (p : Plan) (w : World) → AreBoundBeside w → EndsIn w AllBeside p → Afterwards AreBoundBeside (perform w p)
perform-beside (Stuck reason) w own ends = record {}
perform-beside (Look x k) w own ends = perform-beside (k (get w x)) w own ends
perform-beside (Read runs k) w own ends = perform-beside (k (bytes_at w.byte runs)) w own ends
perform-beside (If true p q) w own ends = perform-beside p w own (ends.0 refl)
perform-beside (If false p q) w own ends = perform-beside q w own (ends.1 refl)
perform-beside (Finish changes writes marks) w own ends = writes-beside writes (put_all changes w) (puts-beside changes w own ends)

pub event-beside : (c : Configuration) (event : Event) (w : World) → IsSoundWorld c w → AreBoundBeside w → Afterwards AreBoundBeside (step c w event)
event-beside c event w sound own = perform-beside (plan c event) w own (beside-plan c w event sound own)
