-- Each verb leaves windows bound beside their queue pairs. For proofs only.
use Rattle.std.proofs.Common.{ℕ, ◌==◌, Bool, true, false, if◌then◌else◌, List, [], ◌∷◌, take, Option, None, Some, rules}
use Rattle.ca_base.specs.Configuration.{Configuration}
use Rattle.ca_base.specs.declared.change.Change as state_change
use Rattle.ca_base.specs.declared.change.Change.TheVariants as changes
use Rattle.ca_base.specs.declared.request.RecvRequest.{RecvRequest}
use Rattle.ca_base.specs.declared.request.SendRequest.{SendRequest}
use Rattle.ca_base.specs.objects.QueuePair.{QueuePair, QueueSlot, NoQueue, Present}
use Rattle.ca_base.specs.objects.SharedReceives.{SrqSlot, after_receives_retire}
use Rattle.ca_base.specs.objects.Window.{after_draw, byte_drawn}
use Rattle.ca_keys.specs.declared.names.QueueId.{QueueId}
use Rattle.ca_keys.specs.declared.names.Slot.{Slot}
use Rattle.ca_law_world.proofs.Sound.PlanWalks.{binder_updates, changed_around, shared_beside, walk-create, walk-dealloc_mw, walk-destroy, walk-modify, walk-places, walk-poll, walk-post_send, walk-present}
use Rattle.ca_law_world.proofs.Sound.WorldLemmas.{EndsIn, around_in, shared_of}
use Rattle.ca_model.specs.machine.Around.{Around}
use Rattle.ca_model.specs.machine.CompletionVerbs.{poll_plan}
use Rattle.ca_model.specs.machine.Plan.{Update, ◌:=◌}
use Rattle.ca_model.specs.machine.PostingVerbs.{Posted_send, post_recv_plan, post_send_plan, post_srq_plan}
use Rattle.ca_model.specs.machine.QueuePairVerbs.{Creation, create_qp_plan, destroy_qp_plan, left_updates, modify_qp_plan, places_held, user_updates}
use Rattle.ca_model.specs.machine.Sound.{IsSoundWorld}
use Rattle.ca_model.specs.machine.VerbAnswers.{Call}
use Rattle.ca_model.specs.machine.WindowVerbs.{dealloc_mw_plan, queue_updates}
use Rattle.ca_model.specs.machine.World.{Window_of, World}
use Rattle.ca_law_isolation.proofs.BesideTurnLemmas.{AllBeside, IsBeside, srq-beside}
use Rattle.ca_law_isolation.specs.Domains.{AreBoundBeside}
use Rattle.ca_base.specs.Grants.{next_low}

-- the queue pair of a window that is gone
binder-beside : (w : World) (o : Option QueueId) → AllBeside (binder_updates w o)
binder-beside w None = record {}
binder-beside w (Some q) = by (w.queue q)
  where
    by : (s : QueueSlot) → AllBeside (queue_updates q s)
    by (NoQueue incarnation timers) = record {}
    by (Present p) = (record {}, record {})

pub beside-dealloc_mw : (w : World) (call : Call) (s : Slot) → EndsIn w AllBeside (dealloc_mw_plan call s)
beside-dealloc_mw w call s = walk-dealloc_mw w AllBeside call s (record {}) (record {}, (record {}, record {})) (λ b is. (record {}, (record {}, (record {}, binder-beside w b.queue))))

posted-beside : (w : World) (call : Call) (q : QueuePair) (request : SendRequest) (drawn : Option ℕ) (window : Slot) (more : List Update) → AllBeside more
    → EndsIn w AllBeside (Posted_send call q request drawn window more)
posted-beside w call q request drawn window more rest =
    (λ is. record {}, λ atomic. (λ is. record {}, λ short. (λ is. record {}, λ state. (λ is. record {}, λ free. (record {}, (record {}, rest))))))

-- a byte is drawn in a window that stays bound as it was
drawn-beside : (w : World) (s : Slot) → AreBoundBeside w → IsBeside s (after_draw (w.window s))
drawn-beside w s all = by ((w.window s).kind == 1)
  where
    by : (b : Bool) → IsBeside s (if b then record (w.window s) { drawn = next_low (w.window s).drawn } else w.window s)
    by true = all s
    by false = all s

pub beside-post_send : (c : Configuration) (w : World) (call : Call) (s : Slot) (request : SendRequest) → IsSoundWorld c w → AreBoundBeside w → EndsIn w AllBeside (post_send_plan call s request)
beside-post_send c w call s request sound own = walk-post_send c w AllBeside call s request sound (record {})
    (λ q there. posted-beside w call q request None s [] (record {}))
    (λ q at there. posted-beside w call q request (byte_drawn (w.window at)) at ((Window_of at := after_draw (w.window at)) ∷ []) (drawn-beside w at own, record {}))

pub beside-post_recv : (c : Configuration) (w : World) (call : Call) (s : Slot) (request : RecvRequest) → IsSoundWorld c w → EndsIn w AllBeside (post_recv_plan call s request)
beside-post_recv c w call s request sound = walk-present c w AllBeside call s _ sound (record {}) (λ q there.
    (λ is. record {}, λ own. (λ is. record {}, λ short. (λ is. record {}, λ state. (λ is. record {}, λ free. (record {}, (record {}, record {})))))))

pub beside-post_srq : (w : World) (call : Call) (s : Slot) (request : RecvRequest) → EndsIn w AllBeside (post_srq_plan call s request)
beside-post_srq w call s request = search rules

pub beside-modify_qp : (c : Configuration) (w : World) (call : Call) (s : Slot) (change : state_change.Change) → IsSoundWorld c w → EndsIn w AllBeside (modify_qp_plan c call s change)
beside-modify_qp c w call s change sound = walk-modify c w AllBeside call s change sound (record {}) (λ q there fails. (record {}, by q (around_in w q (shared_of w q)) change))
  where
    by : (q : QueuePair) (a : Around) (change : state_change.Change) → AllBeside (changed_around w q a change)
    by q a changes.Error = (record {}, (record {}, record {}))
    by q a changes.Reset = (record {}, (record {}, (record {}, srq-beside q a (after_receives_retire (places_held q a)))))
    by q a (changes.Rtr peer incarnation psn mtu rnr_code) = (record {}, record {})
    by q a changes.Init = record {}
    by q a (changes.Rts psn retry rnr_retry reads) = record {}
    by q a changes.Sqd = record {}
    by q a changes.Resume = record {}

left-beside : (q : QueuePair) (a : Around) → AllBeside (left_updates q a)
left-beside q a = search rules

pub beside-destroy_qp : (c : Configuration) (w : World) (call : Call) (s : Slot) → IsSoundWorld c w → EndsIn w AllBeside (destroy_qp_plan call s)
beside-destroy_qp c w call s sound = walk-destroy c w AllBeside call s sound (record {})
    (λ q there free. (record {}, (record {}, (record {}, (record {}, (record {}, left-beside q (around_in w q (shared_of w q))))))))

user-beside : (x : Creation) (o : Option SrqSlot) → AllBeside (user_updates x o)
user-beside x o = search rules

pub beside-create_qp : (c : Configuration) (w : World) (call : Call) (x : Creation) → EndsIn w AllBeside (create_qp_plan c call x)
beside-create_qp c w call x = walk-create c w AllBeside call x (record {}) (λ send recv there vacant send-is recv-is depth.
    (record {}, (record {}, (record {}, (record {}, (record {}, user-beside x (shared_beside w x)))))))

-- ---- polls

pub beside-poll : (w : World) (call : Call) (s : Slot) (k least : ℕ) → EndsIn w AllBeside (poll_plan call s k least)
beside-poll w call s k least = walk-poll w AllBeside call s k least (record {}) (λ cq is.
    walk-places w AllBeside AllBeside s cq (take k cq.waiting) (take k cq.waiting) _ (record {})
    (λ name us rest. (record {}, rest)) (λ at srq us rest. (record {}, rest)) (λ us rest. (record {}, rest)))
