-- The turns of an engine and a packet that arrives keep windows counted.
use Rattle.ca_model.specs.machine.Acknowledgements.{with_requester}
use Rattle.std.proofs.Common.{◌≡◌, ℕ, Bool, true, false, List, [], ◌∷◌, ◌++◌, Option, None, Some, subst, if◌then◌else◌, refl, suc, sym}
use Rattle.std.proofs.lemmas.List.{append-nil}
use Rattle.std.specs.Option.{option_map_or}
use Rattle.ca_base.specs.declared.lot.Lot.{Lot}
use Rattle.ca_keys.specs.declared.names.QueueId.{QueueId}
use Rattle.ca_base.specs.declared.step.Sent.{Sent}
use Rattle.ca_base.specs.declared.step.Sent.TheVariants.{Silent, Spelt}
use Rattle.ca_base.specs.Configuration.{Configuration}
use Rattle.ca_base.specs.declared.correspondent.Correspondent.{Correspondent}
use Rattle.ca_base.specs.objects.Mailbox.{Mailbox, after_delivery, after_send}
use Rattle.ca_base.specs.objects.QueuePair.{QueuePair, Present}
use Rattle.ca_model.specs.declared.mark.Mark.{Mark}
use Rattle.ca_model.specs.declared.mark.Mark.TheVariants as marks
use Rattle.ca_model.specs.machine.Around.{Around, shared_in, updates_of}
use Rattle.ca_model.specs.machine.Delivery.{Arrive, arrival_row, deliver_plan}
use Rattle.ca_model.specs.machine.Plan.{Plan, Finish, Update, ◌:=◌, Write, put_all}
use Rattle.ca_model.specs.machine.Requester.{packet_row}
use Rattle.ca_model.specs.machine.Respond.{respond_row}
use Rattle.ca_model.specs.machine.Row.{Effects, Row, Row_plan}
use Rattle.ca_model.specs.machine.Timers.{after_timeout, after_wake}
use Rattle.ca_model.specs.machine.Turns.{Leave_plan, Packet, has_room_for, packet_sent, reaches_peer, respond_plan, sent_updates, timeout_plan, wake_plan, request_plan}
use Rattle.ca_model.specs.machine.World.{World, Mailbox_of, Queue_of, put}
use Rattle.ca_model.specs.machine.Sound.{IsSoundWorld}
use Rattle.ca_law_world.proofs.Sound.WorldLemmas.{EndsIn, around_in, ends-around, shared_of}
use Rattle.ca_model.specs.declared.answer.Answer.TheVariants as answers
use Rattle.ca_model.specs.machine.VerbAnswers.{Call, answer_mark}
use Rattle.ca_model.specs.machine.HostVerbs.{inject_plan}
use Rattle.ca_law_world.specs.Bindings.{IsBoundWorld}
use Rattle.ca_law_world.proofs.Windows.WindowOperationLemmas.{ends-perform-bound}
use Rattle.ca_law_world.proofs.Windows.WindowRowLemmas.{RowCounts, arrival-counts, packet-counts, respond-counts, retry-windows}
use Rattle.ca_law_world.proofs.Windows.WindowWorldLemmas.{Bounds, AreStill, Leaves, SameParts, ends-row-bound, kept-leaves, puts-append, same-bound, same-put, same-puts, same-world, still-bound, still-puts, turn-parts}
use Rattle.ca_law_world.proofs.Sound.PlanWalks.{walk-deliver, walk-inject, walk-request, walk-respond, walk-timeout, walk-wake}

-- a turn's changes, with those of its key and others behind
turn-bound : (w u : World) (q : QueuePair) (a : Around) (e : Effects) (cs more : List Update) → SameParts w u → Leaves w q e.queue.windows cs → AreStill more
    → IsBoundWorld (put_all (updates_of q a e ++ (cs ++ more)) u)
turn-bound w u q a e cs more same leaves still =
    same-bound (put_all (cs ++ more) (put u (Queue_of q.queue) (Present e.queue))) (put_all (updates_of q a e ++ (cs ++ more)) u) (turn-parts q a e (cs ++ more) u)
    (subst IsBoundWorld (sym (puts-append cs more (put u (Queue_of q.queue) (Present e.queue))))
    (still-bound (put_all cs (put u (Queue_of q.queue) (Present e.queue))) more
    (same-bound (put_all cs (put w (Queue_of q.queue) (Present e.queue))) (put_all cs (put u (Queue_of q.queue) (Present e.queue)))
    (same-puts cs (put w (Queue_of q.queue) (Present e.queue)) (put u (Queue_of q.queue) (Present e.queue)) (same-put w u (Queue_of q.queue) (Present e.queue) same))
    (leaves e.queue refl)) still))

key-bound : (w u : World) (q : QueuePair) (a : Around) (e : Effects) (cs : List Update) → SameParts w u → Leaves w q e.queue.windows cs → IsBoundWorld (put_all (updates_of q a e ++ cs) u)
key-bound w u q a e cs same leaves = subst (λ xs. IsBoundWorld (put_all (updates_of q a e ++ xs) u)) (append-nil cs) (turn-bound w u q a e cs [] same leaves (record {}))

sent-still : (q : QueuePair) (peer : Correspondent) (m : Mailbox) (lot : Lot) (e : Effects) → AreStill (option_map_or (sent_updates q peer m lot) (packet_sent e) [])
sent-still q peer m lot e = by e.sent
  where
    packet : Sent → Option Packet
    packet Silent = None
    packet (Spelt request) = Some (record { request = request; bytes = e.spelt })

    reach : (p : Packet) (b : Bool) → AreStill (if b then (Mailbox_of peer.queue := after_send lot p.bytes m) ∷ [] else [])
    reach p true = (record {}, record {})
    reach p false = record {}

    by : (s : Sent) → AreStill (option_map_or (sent_updates q peer m lot) (packet s) [])
    by Silent = record {}
    by (Spelt request) = reach (record { request = request; bytes = e.spelt }) (reaches_peer q peer m)

bound-left : (c : Configuration) (w : World) (q : QueuePair) (peer : Correspondent) (lot : Lot) (row : Row) → IsBoundWorld w → w.queue q.queue ≡ Present q → RowCounts q row
    → EndsIn w (Bounds w) (Row_plan c row (Leave_plan q (around_in w q (shared_of w q)) peer (w.mailbox peer.queue) lot))
bound-left c w q peer lot row bound is counts =
    ends-row-bound c w (Bounds w) q row (Leave_plan q (around_in w q (shared_of w q)) peer (w.mailbox peer.queue) lot) bound is counts
    (λ e cs ws leaves. turn-bound w w q (around_in w q (shared_of w q)) e cs (option_map_or (sent_updates q peer (w.mailbox peer.queue) lot) (packet_sent e) []) (same-world w) leaves
    (sent-still q peer (w.mailbox peer.queue) lot e))

pub bound-respond : (c : Configuration) (w : World) (name : QueueId) (lot : Lot) → IsSoundWorld c w → IsBoundWorld w → EndsIn w (Bounds w) (respond_plan c name lot)
bound-respond c w name lot sound bound = walk-respond c w (Bounds w) name lot sound (λ q peer there.
    bound-left c w q peer lot (respond_row (has_room_for q peer (w.mailbox peer.queue)) q) bound there.present (respond-counts (has_room_for q peer (w.mailbox peer.queue)) q))

pub bound-request : (c : Configuration) (w : World) (name : QueueId) (lot : Lot) → IsSoundWorld c w → IsBoundWorld w → EndsIn w (Bounds w) (request_plan c name lot)
bound-request c w name lot sound bound = walk-request c w (Bounds w) name lot sound
    (λ q n there turn. ends-perform-bound c w (Bounds w) q n (λ e changes writes. Finish (updates_of q (around_in w q (shared_of w q)) e ++ changes) writes e.marks) n.request.op sound bound there.present
    (λ e cs ws leaves. key-bound w w q (around_in w q (shared_of w q)) e cs (same-world w) leaves))
    (λ q n peer there turn. bound-left c w q peer lot (packet_row q (has_room_for q peer (w.mailbox peer.queue)) n) bound there.present (packet-counts q (has_room_for q peer (w.mailbox peer.queue)) n))

timeout-windows : (q : QueuePair) (silent : Bool) → (after_timeout silent q).queue.windows ≡ q.windows
timeout-windows q silent = retry-windows q.requester.una (with_requester (record q.requester { timers = suc q.requester.timers }) q)

pub bound-timeout : (c : Configuration) (w : World) (name : QueueId) (hasten : Bool) → IsSoundWorld c w → IsBoundWorld w → EndsIn w (Bounds w) (timeout_plan c name hasten)
bound-timeout c w name hasten sound bound = walk-timeout c w (Bounds w) name hasten sound (λ q silent there fails.
    subst (Bounds w) (append-nil (updates_of q (around_in w q (shared_of w q)) (after_timeout silent q)))
    (key-bound w w q (around_in w q (shared_of w q)) (after_timeout silent q) [] (same-world w)
    (subst (λ n. Leaves w q n []) (sym (timeout-windows q silent)) (kept-leaves w q bound there.present))))

-- a packet that arrives, in a world with other mailboxes
bound-arrive : (c : Configuration) (w : World) (q : QueuePair) (bytes : List ℕ) (envelope : Option ℕ) (pre : List Update) (ms : List Mark) → IsBoundWorld w → w.queue q.queue ≡ Present q → AreStill pre
    → EndsIn w (Bounds w) (Arrive c q bytes envelope pre ms)
bound-arrive c w q bytes envelope pre ms bound is still =
    ends-around w (Bounds w) q (λ a. Row_plan c (arrival_row bytes envelope (shared_in a) q) (finish a))
    (ends-row-bound c w (Bounds w) q (arrival_row bytes envelope (shared_in a) q) (finish a) bound is (arrival-counts bytes envelope (shared_in a) q)
    (λ e cs ws leaves. subst IsBoundWorld (sym (puts-append pre (updates_of q a e ++ cs) w))
    (key-bound w (put_all pre w) q a e cs (still-puts pre w w still (same-world w)) leaves)))
  where
    a : Around
    a = around_in w q (shared_of w q)

    finish : Around → Effects → List Update → List Write → Plan
    finish a e more writes = Finish (pre ++ (updates_of q a e ++ more)) writes (ms ++ marks.Arrived q.queue envelope ∷ e.marks)

pub bound-deliver : (c : Configuration) (w : World) (name : QueueId) (index : ℕ) → IsSoundWorld c w → IsBoundWorld w → EndsIn w (Bounds w) (deliver_plan c name index)
bound-deliver c w name index sound bound = walk-deliver c w (Bounds w) name index sound (λ q bytes there.
    bound-arrive c w q bytes (Some index) ((Mailbox_of name := after_delivery index (w.mailbox name)) ∷ []) [] bound there.present (record {}, record {}))

pub bound-inject : (c : Configuration) (w : World) (call : Call) (q : QueueId) (bytes : List ℕ) → IsSoundWorld c w → IsBoundWorld w → EndsIn w (Bounds w) (inject_plan c call q bytes)
bound-inject c w call q bytes sound bound = walk-inject c w (Bounds w) call q bytes sound bound
    (λ p there. bound-arrive c w p bytes None [] (answer_mark call answers.Fine ∷ []) bound there.present (record {}))

pub bound-wake : (c : Configuration) (w : World) (name : QueueId) → IsSoundWorld c w → IsBoundWorld w → EndsIn w (Bounds w) (wake_plan c name)
bound-wake c w name sound bound = walk-wake c w (Bounds w) name sound (λ q there. kept-leaves w q bound there.present (after_wake q).queue refl)
