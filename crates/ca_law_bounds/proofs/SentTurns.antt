-- A requester's turn that sends a packet lowers the weight of an orderly world, whether a path leads to its peer or not.
use Rattle.std.proofs.Common.{◌≡◌, ◌+◌, ◌<◌, ◌≤◌, Bool, true, false, if◌then◌else◌, List, Option, None, Some, refl, ap, sym, subst, ◌∙◌, arith}
use Rattle.std.proofs.lemmas.Option.{same_Some}
use Rattle.ca_law_endings.proofs.LeadsLemmas.{comes, leads-around, leads-queue}
use Rattle.ca_law_endings.specs.Runs.{Comes, Leads}
use Rattle.ca_base.specs.Configuration.{Configuration}
use Rattle.ca_base.specs.declared.correspondent.Correspondent.{Correspondent}
use Rattle.ca_base.specs.declared.lot.Lot.{Lot}
use Rattle.ca_base.specs.declared.step.Reason.TheVariants as reasons
use Rattle.ca_base.specs.declared.step.Sent.{Sent}
use Rattle.ca_base.specs.declared.step.Sent.TheVariants.{Silent, Spelt}
use Rattle.ca_base.specs.objects.Mailbox.{after_send}
use Rattle.ca_base.specs.objects.QueuePair.{QueuePair, Present}
use Rattle.ca_keys.specs.Equal.{queue_eq}
use Rattle.ca_keys.specs.declared.names.QueueId.{QueueId}
use Rattle.ca_law_world.proofs.Sound.WorldLemmas.{around_in, shared_of}
use Rattle.ca_law_world.specs.Steady.{IsSteadyQueue, IsSteadySlot}
use Rattle.ca_model.specs.Past.{with_at}
use Rattle.ca_model.specs.declared.event.Event.TheVariants as events
use Rattle.ca_model.specs.declared.mark.Mark.{Mark}
use Rattle.ca_model.specs.machine.Around.{With_around}
use Rattle.ca_model.specs.machine.Invariants.{is_sending}
use Rattle.ca_model.specs.machine.Numbering.{Numbered}
use Rattle.ca_model.specs.machine.Requester.{Sends, packet_row, turn_of}
use Rattle.ca_model.specs.machine.Row.{Effects}
use Rattle.ca_model.specs.machine.Step.{step}
use Rattle.ca_model.specs.machine.Turns.{Packet, Request_around, has_room_for, packet_sent, reaches_peer, request_plan}
use Rattle.ca_model.specs.machine.World.{World}
use Rattle.ca_law_once.proofs.Ties.DeliverLemmas.{present-same}
use Rattle.ca_law_once.proofs.Ties.DeliverWalk.{Ends, ends-do}
use Rattle.ca_law_once.proofs.Ties.SendLemmas.{boxes_after, leads-left}
use Rattle.ca_law_once.proofs.Ties.TimerLemmas.{IsFoundAt, found-at}
use Rattle.ca_law_once.proofs.Rows.PacketRowLemmas.{packet-row}
use Rattle.ca_law_once.proofs.Rows.TurnLemmas.{packet-state}
use Rattle.ca_law_once.specs.Moves.{IsRequestTurn, LeavesState, RequestTurnBy}
use Rattle.ca_law_once.specs.Sides.{IsLaid, requester_in}
use Rattle.ca_law_once.proofs.Verbs.PairLemmas.{replaces-turned}
use Rattle.ca_law_bounds.proofs.SentWeights.{packet-lowers}
use Rattle.ca_law_bounds.specs.Weights.{Lowers, queue_weight, sent_weight}
use Rattle.ca_law_bounds.proofs.LaidLemmas.{direction_of, lies-somehow}
use Rattle.ca_law_bounds.specs.Forward.{HasOneWidth, IsOrderlyWorld}
use Rattle.ca_law_bounds.proofs.TurnLemmas.{request-turn-lowers}
use Rattle.ca_law_bounds.specs.WorldWeights.{AreApart, is_among_names, world_weight}
use Rattle.ca_law_bounds.proofs.OperationTurns.{turned-lowers}
use Rattle.ca_law_bounds.proofs.OperationWeights.{Falls}

-- the requests of a queue pair that sends lie somehow
laid-there : (c : Configuration) (w : World) (name : QueueId) (q : QueuePair) → IsOrderlyWorld c w → w.queue name ≡ Present q → is_sending q.state ≡ true → IsLaid (direction_of q) q
laid-there c w name q orderly is sends = lies-somehow q (orderly.based name q is sends) (steady.oldest sends)
  where
    steady : IsSteadyQueue q
    steady = subst IsSteadySlot is (orderly.steady name)

pub sending-lowers : (c : Configuration) (w : World) (names : List QueueId) (name : QueueId) (lot : Lot) (q : QueuePair) (n : Numbered) → IsOrderlyWorld c w → AreApart names → is_among_names name names ≡ true
    → w.queue name ≡ Present q → turn_of q ≡ Sends n → HasOneWidth w name → Comes (λ v ms. world_weight names v < world_weight names w) (step c w (events.Request name lot))
sending-lowers c w names name lot q n orderly apart among stands turn width = peered q.peer refl
  where
    P : World → List Mark → Type 0
    P v ms = world_weight names v < world_weight names w

    there : IsFoundAt w name q
    there = found-at c w name q orderly.sound stands

    laid : is_sending q.state ≡ true → IsLaid (direction_of q) q
    laid = laid-there c w name q orderly stands

    walk : Leads w P (Request_around c lot q (around_in w q (shared_of w q)) q.peer (Sends n)) → Comes P (step c w (events.Request name lot))
    walk leads = comes w P (request_plan c name lot)
        (leads-queue c w P name reasons.State (λ q. With_around q (λ a. Request_around c lot q a q.peer (turn_of q)))
        (λ t is. leads-around w P t (λ a. Request_around c lot t a t.peer (turn_of t))
        (subst (λ x. Leads w P (Request_around c lot x (around_in w x (shared_of w x)) x.peer (turn_of x))) (present-same q t (sym stands ∙ is))
        (subst (λ r. Leads w P (Request_around c lot q (around_in w q (shared_of w q)) q.peer r)) (sym turn) leads))))

    -- where no path leads to the peer, only the queue pair changes
    lost : (p : Correspondent) → reaches_peer q p (w.mailbox p.queue) ≡ false → Leads w P (Request_around c lot q (around_in w q (shared_of w q)) (Some p) (Sends n))
    lost p none = leads-left c w P q p lot (packet_row q room n) (λ e v ms ends has are. turned-lowers w v names name q e apart among stands (falls e ends)
        (replaces-turned w v name (Present e.queue) (record {
          queue = has.queue ∙ ap (λ k. with_at queue_eq w.queue k (Present e.queue)) there.named;
          mailbox = has.mailbox ∙ kept (packet_sent e);
        })))
      where
        room : Bool
        room = has_room_for q p (w.mailbox p.queue)

        kept : (o : Option Packet) → boxes_after w q p lot o ≡ w.mailbox
        kept None = refl
        kept (Some x) = ap (λ b. if b then with_at queue_eq w.mailbox p.queue (after_send lot x.bytes (w.mailbox p.queue)) else w.mailbox) none

        -- the cursor goes on, or stays where the request fails
        on : (e : Effects) (o : Sent) → RequestTurnBy (direction_of q) (requester_in q) e o → q.requester.cursor ≤ e.queue.requester.cursor
        on e Silent own = omega (arith, ap (λ x. x.cursor) own.requester)
        on e (Spelt None) own = absurd own
        on e (Spelt (Some place)) own = omega (arith, own.cursor)

        falls : (e : Effects) → Ends (packet_row q room n) e → Falls q e
        falls e ends = record { width = (ends-do (LeavesState q) (packet_row q room n) e ends (packet-state q room n)).1; less = omega (arith, lowers) }
          where
            own : IsRequestTurn (direction_of q) (requester_in q) e
            own = ends-do (IsRequestTurn (direction_of q) (requester_in q)) (packet_row q room n) e ends (packet-row (direction_of q) q room n there.sound laid turn)

            lowers : queue_weight e.queue + sent_weight q.responder.mtu e.sent e.spelt < queue_weight q + 0
            lowers = ends-do (Lowers q 0) (packet_row q room n) e ends (packet-lowers (direction_of q) q room n there.sound laid turn) (on e e.sent own)

    reached : (p : Correspondent) → q.peer ≡ Some p → (b : Bool) → reaches_peer q p (w.mailbox p.queue) ≡ b → Comes P (step c w (events.Request name lot))
    reached p names_it true leads = request-turn-lowers (direction_of q) c w names name lot q n orderly.sound apart among stands turn laid
        (λ o t is at. let same : p ≡ o = same_Some p o (sym names_it ∙ is) in
        width q t o stands is at (subst (λ x. reaches_peer q x (w.mailbox x.queue) ≡ true) same leads))
    reached p names_it false none = walk (subst (λ o. Leads w P (Request_around c lot q (around_in w q (shared_of w q)) o (Sends n))) (sym names_it) (lost p none))

    peered : (o : Option Correspondent) → q.peer ≡ o → Comes P (step c w (events.Request name lot))
    peered None is = walk (subst (λ o. Leads w P (Request_around c lot q (around_in w q (shared_of w q)) o (Sends n))) (sym is) (record {}))
    peered (Some p) is = reached p is (reaches_peer q p (w.mailbox p.queue)) refl
