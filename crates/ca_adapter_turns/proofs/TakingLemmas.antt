-- What a turn that sends comes to, by what is held. For proofs only.
use Rattle.std.proofs.Common.{◌≡◌, ◌∙◌, refl, sym, subst, ap, ℕ, suc, ◌≤◌, ◌<◌, ◌^◌, Bool, true, false, List, [], ◌∷◌, ◌++◌, None, Some, Ok, Err, IfSome, slice_get, is_none, if◌then◌else◌}
use Rattle.std.specs.Option.{option_map_or}
use Rattle.ca_adapter_acts.specs.Act.{IsAct, Suffices}
use Rattle.ca_adapter_acts.specs.Binders.{changed_by}
use Rattle.ca_adapter_acts.specs.declared.done.Outlets.{Outlets}
use Rattle.ca_adapter_acts.specs.Outlets.{completions_by, done_updates, outlets_of, recv_slot, send_slot}
use Rattle.ca_adapter_acts.specs.Room.{FitIn, FitsDone}
use Rattle.ca_base.specs.Configuration.{Configuration}
use Rattle.ca_base.specs.declared.change.State.TheVariants as states
use Rattle.ca_base.specs.declared.correspondent.Correspondent.{Correspondent}
use Rattle.ca_base.specs.declared.lot.Lot.{Lot}
use Rattle.ca_base.specs.declared.step.Reason.TheVariants as reasons
use Rattle.ca_base.specs.declared.step.Sent.{Sent}
use Rattle.ca_base.specs.declared.step.ActError.{ActError}
use Rattle.ca_base.specs.objects.QueuePair.{Present, QueuePair, correspondent_of, queue_in, recv_cq_of, send_cq_of}
use Rattle.ca_base.specs.objects.Slices.{has_queue}
use Rattle.ca_base.specs.objects.StateTable.{is_among}
use Rattle.ca_adapter_reach.specs.ca_grant.Reaching.{AreAtHand}
use Rattle.ca_adapter_parts.specs.declared.held.Held.{Held}
use Rattle.ca_adapter_parts.specs.HeldView.{Holding, holding}
use Rattle.ca_adapter_reach.specs.AtHand.{CanJudge, HasBytesAtHand}
use Rattle.ca_adapter_reach.specs.Seen.{sight_of}
use Rattle.ca_keys.specs.declared.names.QueueId.{QueueId}
use Rattle.ca_model.proofs.PerformLemmas.{around-performs, around_at, queue-performs}
use Rattle.ca_model.specs.Marks.{MarkList}
use Rattle.ca_model.specs.declared.mark.Mark.{Mark}
use Rattle.ca_model.specs.declared.marks.TheConstants.{SPARE_MARKS}
use Rattle.ca_model.specs.machine.Around.{Around, With_around}
use Rattle.ca_model.specs.machine.Frame.{AllPass}
use Rattle.ca_model.specs.machine.Plan.{Look, NotReady, Plan, perform, touches}
use Rattle.ca_model.specs.machine.Row.{Row, Row_plan, ending_of}
use Rattle.ca_model.specs.machine.Turns.{Leave_plan, Request_around, has_room_for, sent_marks, sent_updates}
use Rattle.ca_model.specs.machine.World.{Cq_of, Mailbox_of, World}
use Rattle.ca_adapter_reach_laws.proofs.RowLemmas.{rows-at-hand}
use Rattle.ca_adapter_reach_laws.proofs.SightLemmas.{vacant-outside}
use Rattle.ca_adapter_reach_laws.specs.Ties.{IsVacantOutside}
use Rattle.ca_adapter_turns.specs.declared.sending.Sender.{Sender}
use Rattle.ca_adapter_turns.specs.declared.sending.Sender.TheVariants.{Requester, Responder}
use Rattle.ca_adapter_turns.specs.Senders.{CanSend, Turn_around, reason_alone, row_of, turn_plan}
use Rattle.ca_adapter_turns.specs.Shown.{AreShown}
use Rattle.ca_adapter_turns.specs.Stepped.{HasRoomFor, HasTurned, packet_of}
use Rattle.ca_adapter_turns.proofs.RowLemmas.{roomy, sender-quiet, sender-roomy}
use Rattle.ca_adapter_turns.proofs.SenderLemmas.{IsQuiet, IsTurned, done-has, turn-acts, turn-has, turn-mail, turn-receives, turn-sends, turn-unready, turned-ok}
use Rattle.ca_adapter_turns.proofs.TurnLemmas.{IsAroundHeld, around-held, at-present, of-present, with-queue-rest}

-- with no peer nothing is sent
alone : (sender : Sender) (c : Configuration) (w : World) (lot : Lot) (q : QueuePair) (a : Around) → CanSend sender q
    → perform w (Turn_around sender c lot q a None) ≡ NotReady (reason_alone sender q)
alone Responder c w lot q a can = by (is_among (states.Reset ∷ states.Init ∷ []) q.state) (is_none (slice_get q.responder.answers 0))
  where
    by : (x y : Bool) → (if x then NotReady reasons.State else if y then NotReady reasons.Empty else NotReady reasons.Empty)
        ≡ NotReady (if x then reasons.State else reasons.Empty)
    by true y = refl
    by false true = refl
    by false false = refl
alone (Requester found) c w lot q a can = ap (λ t. perform w (Request_around c lot q a None t)) can.turn

pub alone-performs : (sender : Sender) (c : Configuration) (w : World) (name : QueueId) (lot : Lot) (q : QueuePair)
    → has_queue c name ≡ true → w.queue name ≡ Present q → q.peer ≡ None → CanSend sender q
    → perform w (turn_plan sender c name lot) ≡ NotReady (reason_alone sender q)
alone-performs sender c w name lot q has there none can =
    queue-performs c w name reasons.State (λ q. With_around q (λ a. Turn_around sender c lot q a q.peer)) q has there
    ∙ around-performs w q (λ a. Turn_around sender c lot q a q.peer)
    ∙ ap (λ o. perform w (Turn_around sender c lot q (around_at w q) o)) none
    ∙ alone sender c w lot q (around_at w q) can

-- with a peer it is the plan of the sender's row
beside : (sender : Sender) (c : Configuration) (lot : Lot) (q : QueuePair) (a : Around) (p : Correspondent) → CanSend sender q
    → Turn_around sender c lot q a (Some p) ≡ Look (Mailbox_of p.queue) (λ m. Row_plan c (row_of sender (has_room_for q p m) q) (Leave_plan q a p m lot))
beside Responder c lot q a p can = refl
beside (Requester found) c lot q a p can = ap (Request_around c lot q a (Some p)) can.turn
    ∙ λ i. Look (Mailbox_of p.queue) (λ m. Row_plan c (sym (can.sending.row (has_room_for q p m)) i) (Leave_plan q a p m lot))

-- the queue pair of a sender is there, with its peer, and there is room for a packet or not
pub record Takes (c : Configuration) (h : Held) (name : QueueId) (lot : Lot) (sender : Sender) (q : QueuePair) (p : Correspondent) (room : Bool) : Type 0 where
  pub has : has_queue c name ≡ true
  pub there : (holding h).world.queue name ≡ Present q
  pub peer : q.peer ≡ Some p
  pub is-room : room ≡ has_room_for q p ((holding h).world.mailbox p.queue)
  pub can : IfSome (queue_in ((holding h).world.queue name)) (CanSend sender)
  pub named : IfSome (queue_in ((holding h).world.queue name)) (λ q. q.queue ≡ name)
  pub parts : AreShown c h

module _ {c : Configuration} {h : Held} {name : QueueId} {lot : Lot} {sender : Sender} {q : QueuePair} {p : Correspondent} {room : Bool} (t : Takes c h name lot sender q p room) where
  abbrev w : World
  w = (holding h).world

  abbrev plan : Plan
  plan = turn_plan sender c name lot

  abbrev row : Row
  row = row_of sender room q

  pub takes-can : CanSend sender q
  takes-can = of-present (CanSend sender) (w.queue name) q t.there t.can

  pub takes-named : q.queue ≡ name
  takes-named = of-present (λ q. q.queue ≡ name) (w.queue name) q t.there t.named

  tail : Turn_around sender c lot q (around_at w q) q.peer
      ≡ Look (Mailbox_of p.queue) (λ m. Row_plan c (row_of sender (has_room_for q p m) q) (Leave_plan q (around_at w q) p m lot))
  tail = ap (Turn_around sender c lot q (around_at w q)) t.peer ∙ beside sender c lot q (around_at w q) p takes-can

  pub takes-outside : IsVacantOutside c w
  takes-outside = vacant-outside c h t.parts.world t.parts.outside t.parts.shows

  pub takes-performs : perform w plan ≡ perform w (Row_plan c row (Leave_plan q (around_at w q) p (w.mailbox p.queue) lot))
  takes-performs = queue-performs c w name reasons.State (λ q. With_around q (λ a. Turn_around sender c lot q a q.peer)) q t.has t.there
      ∙ around-performs w q (λ a. Turn_around sender c lot q a q.peer)
      ∙ ap (perform w) tail
      ∙ ap (λ b. perform w (Row_plan c (row_of sender b q) (Leave_plan q (around_at w q) p (w.mailbox p.queue) lot))) (sym t.is-room)

  module _ (all : Suffices h (turn_plan sender c name lot)) where
    around : IsAroundHeld (holding h) q (Turn_around sender c lot q (around_at w q) q.peer)
    around = around-held (holding h) q (λ a. Turn_around sender c lot q a q.peer)
        (with-queue-rest (holding h) c name reasons.State (λ q. With_around q (λ a. Turn_around sender c lot q a q.peer)) q all t.has t.there)

    behind : AllPass (holding h).has (touches w (Look (Mailbox_of p.queue) (λ m. Row_plan c (row_of sender (has_room_for q p m) q) (Leave_plan q (around_at w q) p m lot))))
    behind = subst (λ x. AllPass (holding h).has (touches w x)) tail around.rest

    takes-send : (holding h).has (Cq_of (send_cq_of q)) ≡ true
    takes-send = around.send

    takes-recv : (holding h).has (Cq_of (recv_cq_of q)) ≡ true
    takes-recv = around.recv

    takes-mail : (holding h).has (Mailbox_of p.queue) ≡ true
    takes-mail = behind.0

    pub takes-at-hand : IfSome (queue_in (w.queue name)) (λ q. AreAtHand sight_of CanJudge HasBytesAtHand h.reached (row_of sender room q).asks)
    takes-at-hand = at-present (λ q. AreAtHand sight_of CanJudge HasBytesAtHand h.reached (row_of sender room q).asks) (w.queue name) q t.there
        (subst (λ b. AreAtHand sight_of CanJudge HasBytesAtHand h.reached (row_of sender b q).asks) (sym t.is-room)
        (rows-at-hand c h t.parts.world (row_of sender (has_room_for q p (w.mailbox p.queue)) q) (Leave_plan q (around_at w q) p (w.mailbox p.queue) lot)
        t.parts.sound t.parts.bound t.parts.outside t.parts.shows behind.1))

  -- where it is not done, it is not possible, or memory ended
  pub takes-unready : (new : Holding) (before made : MarkList) (bytes : List ℕ) (error : ActError)
      → ((x : QueuePair) → w.queue name ≡ Present x → HasTurned name (Err error) (ending_of (sight_of h.reached) (row_of sender room x)) h new before made bytes)
      → IsAct (Err error) (perform w plan) (holding h) new
  takes-unready new before made bytes error turned =
      turn-unready c h name lot q p plan row takes-outside (sender-quiet sender room q takes-can) takes-performs new before made bytes error (turned q t.there)

-- the turn was done, with these marks
pub record Ended (c : Configuration) (h : Held) (name : QueueId) (lot : Lot) (sender : Sender) (q : QueuePair) (p : Correspondent) (room : Bool)
    (sent : Sent) (mid : Holding) (before made : MarkList) (bytes : List ℕ) (o : Outlets) (ms : List Mark) : Type 0 where
  pub takes : Takes c h name lot sender q p room
  pub suffices : Suffices h (turn_plan sender c name lot)
  pub fits : FitsDone (holding h).world (perform (holding h).world (turn_plan sender c name lot))
  pub none : before.marks ≡ []
  pub is-ms : ms ≡ made.marks
  pub outlets : o ≡ outlets_of q
  pub turn : (x : QueuePair) → (holding h).world.queue name ≡ Present x
      → HasTurned name (Ok sent) (ending_of (sight_of h.reached) (row_of sender room x)) h mid before made bytes

module _ {c : Configuration} {h : Held} {name : QueueId} {lot : Lot} {sender : Sender} {q : QueuePair} {p : Correspondent} {room : Bool}
    {sent : Sent} {mid : Holding} {before made : MarkList} {bytes : List ℕ} {o : Outlets} {ms : List Mark} (d : Ended c h name lot sender q p room sent mid before made bytes o ms) where
  abbrev its-plan : Plan
  its-plan = turn_plan sender c name lot

  abbrev its-row : Row
  its-row = row_of sender room q

  quiet : IsQuiet its-row
  quiet = sender-quiet sender room q (takes-can d.takes)

  done-so : IsTurned name sent (ending_of (sight_of h.reached) its-row) h mid before made bytes
  done-so = turned-ok name sent (ending_of (sight_of h.reached) its-row) h mid before made bytes (d.turn q d.takes.there)

  has-so : mid.has ≡ (holding h).has
  has-so = turn-has c h name lot q p its-plan its-row (takes-outside d.takes) quiet (takes-performs d.takes) sent mid before made bytes d.none o ms d.is-ms d.outlets (takes-named d.takes) d.fits done-so

  pub ended-send : mid.has (Cq_of (send_slot o)) ≡ true
  ended-send = subst (λ (f : _). f (Cq_of (send_slot o)) ≡ true) (sym has-so)
      (subst (λ x. (holding h).has (Cq_of (send_slot x)) ≡ true) (sym d.outlets) (takes-send d.takes d.suffices))

  pub ended-recv : mid.has (Cq_of (recv_slot o)) ≡ true
  ended-recv = subst (λ (f : _). f (Cq_of (recv_slot o)) ≡ true) (sym has-so)
      (subst (λ x. (holding h).has (Cq_of (recv_slot x)) ≡ true) (sym d.outlets) (takes-recv d.takes d.suffices))

  pub ended-sends : FitIn (mid.world.cq (send_slot o)) (completions_by o o.send ms)
  ended-sends = turn-sends c h name lot q p its-plan its-row (takes-outside d.takes) quiet (takes-performs d.takes) sent mid before made bytes d.none o ms d.is-ms d.outlets (takes-named d.takes) d.fits done-so

  pub ended-receives : FitIn (mid.world.cq (recv_slot o)) (completions_by o o.recv ms)
  ended-receives = turn-receives c h name lot q p its-plan its-row (takes-outside d.takes) quiet (takes-performs d.takes) sent mid before made bytes d.none o ms d.is-ms d.outlets (takes-named d.takes) d.fits done-so

  pub ended-spare : SPARE_MARKS ≤ made.room
  ended-spare = done-so.room

  module _ (done : Holding) (put : done ≡ changed_by (done_updates o ms mid.world) mid) where
    mail-so : done.world.mailbox ≡ (holding h).world.mailbox
    mail-so = turn-mail c h name lot q p its-plan its-row (takes-outside d.takes) quiet (takes-performs d.takes) sent mid before made bytes d.none o ms d.is-ms d.outlets (takes-named d.takes) d.fits done-so done put

    pub ended-mail : done.has (Mailbox_of p.queue) ≡ true
    ended-mail = subst (λ (f : _). f (Mailbox_of p.queue) ≡ true)
        (sym (done-has c h name lot q p its-plan its-row (takes-outside d.takes) quiet (takes-performs d.takes) sent mid before made bytes d.none o ms d.is-ms d.outlets (takes-named d.takes) d.fits done-so done put))
        (takes-mail d.takes d.suffices)

    pub ended-next : suc ((holding h).world.mailbox p.queue).next < 2 ^ 64 → suc (done.world.mailbox p.queue).next < 2 ^ 64
    ended-next next = subst (λ (f : _). suc (f p.queue).next < 2 ^ 64) (sym mail-so) next

    pub ended-room : (from : Correspondent) → from ≡ correspondent_of q → HasRoomFor from p (done.world.mailbox p.queue)
    ended-room from own = subst (λ (f : _). HasRoomFor from p (f p.queue)) (sym mail-so)
        (subst (λ x. HasRoomFor x p ((holding h).world.mailbox p.queue)) (sym own)
        (roomy q p ((holding h).world.mailbox p.queue)
        (sym d.takes.is-room ∙ sender-roomy sender room q (sight_of h.reached) done-so.effects (takes-can d.takes) done-so.does)))

    pub ended-acts : (new : Holding) (m : MarkList)
        → new ≡ changed_by (option_map_or (sent_updates q p (done.world.mailbox p.queue) lot) (packet_of sent bytes) []) done
        → m.marks ≡ made.marks ++ option_map_or (sent_marks q p (done.world.mailbox p.queue) lot) (packet_of sent bytes) []
        → IsAct (Ok m) (perform (holding h).world its-plan) (holding h) new
    ended-acts = turn-acts c h name lot q p its-plan its-row (takes-outside d.takes) quiet (takes-performs d.takes) sent mid before made bytes d.none o ms d.is-ms d.outlets (takes-named d.takes) d.fits done-so done put
