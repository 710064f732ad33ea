-- Every event leaves queue pairs that begin empty: the turns, and all events together. For proofs only.
use Rattle.std.proofs.Common.{◌≡◌, ℕ, Bool, true, false, if◌then◌else◌, List, [], Option, None, Some, is_some, refl, ap, sym, subst, ◌∙◌, true≢false}
use Rattle.ca_law_endings.proofs.InnerLemmas.{IsInner, arrival-inner, packet-inner, respond-inner, timeout-inner}
use Rattle.ca_law_endings.proofs.LeadsLemmas.{comes}
use Rattle.ca_law_endings.specs.Agreement.{peer_in}
use Rattle.ca_law_endings.specs.Runs.{Comes, Leads}
use Rattle.ca_base.specs.Configuration.{Configuration}
use Rattle.ca_base.specs.declared.correspondent.Correspondent.{Correspondent}
use Rattle.ca_base.specs.declared.lot.Lot.{Lot}
use Rattle.ca_base.specs.declared.mail_envelope.MailEnvelope.{MailEnvelope}
use Rattle.ca_base.specs.objects.Mailbox.{Mailbox, after_delivery, after_send, later_than, with_delivery}
use Rattle.ca_base.specs.objects.QueuePair.{QueuePair, QueueSlot, Present}
use Rattle.ca_keys.specs.Equal.{queue_eq}
use Rattle.ca_keys.specs.Memory.{ByteMap}
use Rattle.ca_keys.specs.Refusals.{first_of}
use Rattle.ca_keys.specs.declared.names.QueueId.{QueueId}
use Rattle.ca_law_world.proofs.Sound.SettledLemmas.{queue-path}
use Rattle.ca_law_world.proofs.Sound.TurnLemmas.{sending-parts, sends-parts, turn_from}
use Rattle.ca_base.specs.declared.step.Reason.{Reason}
use Rattle.ca_model.specs.Past.{with_at}
use Rattle.ca_model.specs.declared.event.Event.{Event}
use Rattle.ca_model.specs.declared.event.Event.TheVariants as events
use Rattle.ca_model.specs.declared.mark.Mark.{Mark}
use Rattle.ca_model.specs.machine.Delivery.{arrival_row, deliver_plan}
use Rattle.ca_model.specs.machine.Invariants.{is_idle, is_sending}
use Rattle.ca_model.specs.machine.Numbering.{Numbered}
use Rattle.ca_model.specs.machine.Requester.{Performs, next_request, packet_row, turn_of, turn_refusals}
use Rattle.ca_model.specs.machine.Respond.{respond_row}
use Rattle.ca_model.specs.machine.Row.{Effects}
use Rattle.ca_model.specs.machine.Sound.{IsSoundWorld}
use Rattle.ca_model.specs.machine.Step.{plan, step}
use Rattle.ca_model.specs.machine.Timers.{after_timeout, after_wake}
use Rattle.ca_model.specs.machine.Turns.{Packet, packet_sent, reaches_peer, request_plan, respond_plan, timeout_plan, wake_plan}
use Rattle.ca_model.specs.machine.World.{World, opening_world}
use Rattle.ca_law_once.proofs.Ties.DeliverWalk.{ends-as, ends-do, leads-deliver}
use Rattle.ca_law_once.proofs.Ties.SendLemmas.{boxes_after}
use Rattle.ca_law_once.proofs.Ties.SentTies.{path-leads}
use Rattle.ca_law_once.proofs.Ties.TimerLemmas.{IsFoundAt}
use Rattle.ca_law_once.specs.Ties.{MailFollows}
use Rattle.ca_law_once.proofs.Rows.StayLemmas.{Stays, respond-stays}
use Rattle.ca_law_once.proofs.Rows.TurnLemmas.{packet-state, timeout-state, wake-state}
use Rattle.ca_law_once.specs.Moves.{LeavesState}
use Rattle.ca_law_once.proofs.Verbs.BeginLemmas.{begins-turned, found-begins, verb-begins}
use Rattle.ca_law_once.proofs.Verbs.BeginRows.{arrival-begins, sent-begins, stays-begins}
use Rattle.ca_law_once.proofs.Verbs.PairLemmas.{replaces-changed}
use Rattle.ca_law_once.proofs.Verbs.TurnWalks.{Goes, leads-request, leads-respond, leads-timeout, leads-wake}
use Rattle.ca_law_once.specs.Beginnings.{AllBeginEmpty, BeginsEmpty, SlotBeginsEmpty}

-- a queue pair goes on, and perhaps sends a packet: it reaches one that has named a peer
begins-sent : (w v : World) (name : QueueId) (q : QueuePair) (p : Correspondent) (lot : Lot) (e : Effects) → IsFoundAt w name q → MailFollows w → AllBeginEmpty w → e.queue.peer ≡ q.peer → BeginsEmpty e.queue → Goes w q p lot e v
    → AllBeginEmpty v
begins-sent w v name q p lot e there follows all peer begins goes = record {
  queues = λ n. subst (λ (f : QueueId → QueueSlot). SlotBeginsEmpty (f n)) (sym goes.queue) (queue n (queue_eq q.queue n) refl);
  mail = λ n none. ap (λ (f : QueueId → Mailbox). (f n).envelopes) goes.mailbox ∙ box n (sym (same n (queue_eq q.queue n) refl) ∙ ap (λ (f : QueueId → QueueSlot). peer_in (f n)) (sym goes.queue) ∙ none) (packet_sent e);
}
  where
    here : w.queue q.queue ≡ Present q
    here = ap w.queue there.named ∙ there.is

    queue : (n : QueueId) (b : Bool) → queue_eq q.queue n ≡ b → SlotBeginsEmpty (if b then Present e.queue else w.queue n)
    queue n true is = begins
    queue n false is = all.queues n

    same : (n : QueueId) (b : Bool) → queue_eq q.queue n ≡ b → peer_in (if b then Present e.queue else w.queue n) ≡ peer_in (w.queue n)
    same n true is = peer ∙ ap peer_in (sym here) ∙ ap (λ k. peer_in (w.queue k)) (queue-path q.queue n is)
    same n false is = refl

    box : (n : QueueId) → peer_in (w.queue n) ≡ None → (o : Option Packet) → (boxes_after w q p lot o n).envelopes ≡ []
    box n none None = all.mail n none
    box n none (Some x) = by (reaches_peer q p (w.mailbox p.queue)) refl
      where
        at : reaches_peer q p (w.mailbox p.queue) ≡ true → (b : Bool) → queue_eq p.queue n ≡ b → (if b then after_send lot x.bytes (w.mailbox p.queue) else w.mailbox n).envelopes ≡ []
        at leads true is = absurd (true≢false (ap is_some (sym (path-leads w q p follows leads).1 ∙ ap (λ k. peer_in (w.queue k)) (queue-path p.queue n is) ∙ none)))
        at leads false is = all.mail n none

        by : (b : Bool) → reaches_peer q p (w.mailbox p.queue) ≡ b → ((if b then with_at queue_eq w.mailbox p.queue (after_send lot x.bytes (w.mailbox p.queue)) else w.mailbox) n).envelopes ≡ []
        by true leads = at leads (queue_eq p.queue n) refl
        by false leads = all.mail n none

-- who has named a peer is not before Rtr
named-begun : (q : QueuePair) (p : Correspondent) → BeginsEmpty q → q.peer ≡ Some p → is_idle q.state ≡ true → ⊥
named-begun q p begins names idle = true≢false (ap is_some (sym names ∙ begins.peer idle))

no-deliveries : (later : ℕ) (es : List MailEnvelope) → es ≡ [] → with_delivery later es ≡ []
no-deliveries later es none = ap (with_delivery later) none

-- what performs a local operation sends
performing : (q : QueuePair) (n : Numbered) → turn_of q ≡ Performs n → is_sending q.state ≡ true
performing q n turn = by (first_of (turn_refusals q)) refl (next_request q) turn
  where
    by : (o : Option Reason) → first_of (turn_refusals q) ≡ o → (m : Option Numbered) → turn_from o m ≡ Performs n → is_sending q.state ≡ true
    by (Some reason) is m e = absurd cc
    by None is m e = (sending-parts q is).0

module _ (c : Configuration) (w : World) (sound : IsSoundWorld c w) (follows : MailFollows w) (all : AllBeginEmpty w) where
  abbrev P : World → List Mark → Type 0
  P v ms = AllBeginEmpty v

  deliver-begins : (name : QueueId) (index : ℕ) → Leads w P (deliver_plan c name index)
  deliver-begins name index = leads-deliver c w P name index sound (λ q bytes shared e v ms is good lent ends changes told told_writes.
      begins-turned w v name q e.queue (after_delivery index (w.mailbox name)) all is (replaces-changed w v name (Present e.queue) (after_delivery index (w.mailbox name)) changes)
      (ends-do (IsInner q) (arrival_row bytes (Some index) shared q) e ends (ends-as (IsInner q) (arrival_row bytes (Some index) shared q) (arrival-inner bytes (Some index) shared q))).peer
      (ends-do (λ e. BeginsEmpty e.queue) (arrival_row bytes (Some index) shared q) e ends (arrival-begins bytes (Some index) shared q (found-begins w name q all is)))
      (λ none. no-deliveries (later_than index (w.mailbox name)) (w.mailbox name).envelopes none))

  respond-begins : (name : QueueId) (lot : Lot) → Leads w P (respond_plan c name lot)
  respond-begins name lot = leads-respond c w P name lot sound (λ q p room e v ms there names ends goes.
      begins-sent w v name q p lot e there follows all
      (ends-do (IsInner q) (respond_row room q) e ends (ends-as (IsInner q) (respond_row room q) (respond-inner room q))).peer
      (stays-begins q e.queue (named-begun q p (found-begins w name q all there.is) names) (found-begins w name q all there.is)
      (ends-do (λ e. Stays q e.queue) (respond_row room q) e ends (respond-stays room q))) goes)

  request-begins : (name : QueueId) (lot : Lot) → Leads w P (request_plan c name lot)
  request-begins name lot = leads-request c w P name lot sound
      (λ q p room n e v ms there names turn ends goes. begins-sent w v name q p lot e there follows all
      (ends-do (IsInner q) (packet_row q room n) e ends (ends-as (IsInner q) (packet_row q room n) (packet-inner q room n))).peer
      (sent-begins q e (sending-parts q (sends-parts (first_of (turn_refusals q)) (next_request q) n turn).0).0 (ends-do (LeavesState q) (packet_row q room n) e ends (packet-state q room n))) goes)
      (λ q n e v there turn quiet replaces. begins-turned w v name q e.queue (w.mailbox name) all there.is replaces quiet.peer
      (sent-begins q e (performing q n turn) quiet.state) (λ none. none))

  timeout-begins : (name : QueueId) (hasten : Bool) → Leads w P (timeout_plan c name hasten)
  timeout-begins name hasten = leads-timeout c w P name hasten sound (λ q silent v there sends replaces.
      begins-turned w v name q (after_timeout silent q).queue (w.mailbox name) all there.is replaces (timeout-inner q silent).peer (sent-begins q (after_timeout silent q) sends (timeout-state silent q)) (λ none. none))

  wake-begins : (name : QueueId) → Leads w P (wake_plan c name)
  wake-begins name = leads-wake c w P name sound (λ q v there sends replaces.
      begins-turned w v name q (after_wake q).queue (w.mailbox name) all there.is replaces refl (sent-begins q (after_wake q) sends (wake-state q)) (λ none. none))

  leads-event : (event : Event) → Leads w P (plan c event)
  leads-event (events.Verb by verb) = (λ named. verb-begins c w sound all (record { by = by; verb = verb }) verb, λ none. all)
  leads-event (events.Request name lot) = request-begins name lot
  leads-event (events.Respond name lot) = respond-begins name lot
  leads-event (events.Timeout name hasten) = timeout-begins name hasten
  leads-event (events.RnrWake name) = wake-begins name
  leads-event (events.Deliver name index) = deliver-begins name index

pub event-begins : (c : Configuration) (w : World) (event : Event) → IsSoundWorld c w → MailFollows w → AllBeginEmpty w → Comes (λ v ms. AllBeginEmpty v) (step c w event)
event-begins c w event sound follows all = comes w (λ v ms. AllBeginEmpty v) (plan c event) (leads-event c w sound follows all event)

pub opening-begins : (bytes : ByteMap) → AllBeginEmpty (opening_world bytes)
opening-begins bytes = record { queues = λ n. record {}; mail = λ n none. refl }
