-- Walks over the plans of packets that arrive and of responders' turns: the effects, the world that they leave, and the marks.
-- For proofs only.
use Rattle.std.proofs.Common.{◌≡◌, ℕ, Bool, true, false, if◌then◌else◌, List, [], ◌∷◌, ◌++◌, Option, None, Some, refl, ap, sym, subst, ◌∙◌}
use Rattle.std.specs.Option.{option_map_or}
use Rattle.ca_law_endings.proofs.LeadsLemmas.{AreAside, leads-around, leads-queue, leads-unless}
use Rattle.ca_law_endings.specs.Runs.{Leads}
use Rattle.ca_base.specs.Configuration.{Configuration}
use Rattle.ca_base.specs.declared.correspondent.Correspondent.{Correspondent}
use Rattle.ca_base.specs.declared.lot.Lot.{Lot}
use Rattle.ca_base.specs.declared.step.Reason.TheVariants as reasons
use Rattle.ca_base.specs.objects.Mailbox.{Mailbox, after_delivery, after_send, bytes_lent}
use Rattle.ca_base.specs.objects.QueuePair.{QueuePair, QueueSlot, NoQueue, Present}
use Rattle.ca_base.specs.objects.SharedReceives.{SharedReceives}
use Rattle.ca_law_caused.proofs.Caused.SuchLemmas.{RowSuch, leads-such}
use Rattle.ca_keys.specs.Equal.{queue_eq}
use Rattle.ca_keys.specs.declared.names.QueueId.{QueueId}
use Rattle.ca_law_world.proofs.Sound.WorldLemmas.{around_in, shared_of}
use Rattle.ca_model.specs.Past.{with_at}
use Rattle.ca_model.specs.declared.answer.Answer.TheVariants as answers
use Rattle.ca_model.specs.declared.answer.Refusal.TheVariants.{NoSuch}
use Rattle.ca_model.specs.declared.mark.Mark.{Mark}
use Rattle.ca_model.specs.declared.mark.Mark.TheVariants as marks
use Rattle.ca_model.specs.machine.Around.{Around, With_around, shared_in, updates_of}
use Rattle.ca_model.specs.machine.Delivery.{Arrive, arrival_row, deliver_plan}
use Rattle.ca_model.specs.machine.HostVerbs.{inject_plan}
use Rattle.ca_model.specs.machine.Plan.{Plan, Stuck, Look, Finish, Update, ◌:=◌, Write, put_all, write_all}
use Rattle.ca_model.specs.machine.Respond.{respond_refusals, respond_row}
use Rattle.ca_model.specs.machine.Row.{Effects, Row_plan}
use Rattle.ca_model.specs.machine.Sound.{IsSoundWorld}
use Rattle.ca_model.specs.machine.Turns.{Leave_plan, Packet, Respond_around, has_room_for, packet_sent, reaches_peer, respond_plan, sent_marks, sent_updates}
use Rattle.ca_model.specs.machine.VerbAnswers.{Call, Refuse_plan, answer_mark}
use Rattle.ca_model.specs.machine.World.{Mailbox_of, Queue_of, World}
use Rattle.ca_law_once.proofs.Ties.DeliverWalk.{Has, has-aside, has-turn, has-writes, puts-append}
use Rattle.ca_law_once.proofs.Ties.SendLemmas.{boxes_after}
use Rattle.ca_law_once.proofs.Ties.TimerLemmas.{IsFoundAt, found-at}

-- ---- packets that arrive

-- a packet that arrives at a queue pair, behind changes and marks that come first
pub leads-arrive : (c : Configuration) (w : World) (P : World → List Mark → Type 0) (E : Effects → Type 0) (name : QueueId) (q : QueuePair) (bytes : List ℕ) (envelope : Option ℕ) (pre : List Update) (ms : List Mark) → q.queue ≡ name
    → ((shared : Option SharedReceives) → RowSuch E (arrival_row bytes envelope shared q))
    → ((e : Effects) (v : World) → E e → Has (with_at queue_eq (put_all pre w).queue name (Present e.queue)) (put_all pre w).mailbox v → P v (ms ++ (marks.Arrived q.queue envelope ∷ e.marks)))
    → Leads w P (Arrive c q bytes envelope pre ms)
leads-arrive c w P E name q bytes envelope pre ms named does more =
    leads-around w P q (λ a. Row_plan c (arrival_row bytes envelope (shared_in a) q) (finish a))
    (leads-such c w P E (arrival_row bytes envelope (shared_in a) q) (finish a) (does (shared_in a)) (λ e cs ws done aside. more e _ done (left e cs ws aside)))
  where
    a : Around
    a = around_in w q (shared_of w q)

    finish : Around → Effects → List Update → List Write → Plan
    finish a e cs ws = Finish (pre ++ (updates_of q a e ++ cs)) ws (ms ++ (marks.Arrived q.queue envelope ∷ e.marks))

    p : World
    p = put_all pre w

    left : (e : Effects) (cs : List Update) (ws : List Write) → AreAside cs → Has (with_at queue_eq p.queue name (Present e.queue)) p.mailbox (write_all ws (put_all (pre ++ (updates_of q a e ++ cs)) w))
    left e cs ws aside = subst (λ n. Has (with_at queue_eq p.queue n (Present e.queue)) p.mailbox (write_all ws (put_all (pre ++ (updates_of q a e ++ cs)) w))) named
        (has-writes (with_at queue_eq p.queue q.queue (Present e.queue)) p.mailbox ws (put_all (pre ++ (updates_of q a e ++ cs)) w)
        (subst (Has (with_at queue_eq p.queue q.queue (Present e.queue)) p.mailbox) (sym (puts-append pre (updates_of q a e ++ cs) w ∙ puts-append (updates_of q a e) cs p))
        (has-aside (with_at queue_eq p.queue q.queue (Present e.queue)) p.mailbox cs (put_all (updates_of q a e) p) aside (has-turn p q a e))))

-- a delivery
pub leads-delivery : (c : Configuration) (w : World) (P : World → List Mark → Type 0) (E : List ℕ → QueuePair → Effects → Type 0) (name : QueueId) (index : ℕ) → IsSoundWorld c w
    → ((q : QueuePair) (bytes : List ℕ) (shared : Option SharedReceives) → IsFoundAt w name q → bytes_lent index (w.mailbox name) ≡ Some bytes → RowSuch (E bytes q) (arrival_row bytes (Some index) shared q))
    → ((q : QueuePair) (bytes : List ℕ) (e : Effects) (v : World) → IsFoundAt w name q → bytes_lent index (w.mailbox name) ≡ Some bytes → E bytes q e
    → Has (with_at queue_eq w.queue name (Present e.queue)) (with_at queue_eq w.mailbox name (after_delivery index (w.mailbox name))) v → P v (marks.Arrived q.queue (Some index) ∷ e.marks))
    → Leads w P (deliver_plan c name index)
leads-delivery c w P E name index sound does more = (λ has. lent (bytes_lent index m) refl, λ none. record {})
  where
    m : Mailbox
    m = w.mailbox name

    at : List ℕ → QueueSlot → Plan
    at bytes (NoQueue incarnation timers) = Stuck reasons.NotKept
    at bytes (Present q) = Arrive c q bytes (Some index) ((Mailbox_of name := after_delivery index m) ∷ []) []

    under_way : Option (List ℕ) → Plan
    under_way None = Stuck reasons.NotKept
    under_way (Some bytes) = Look (Queue_of name) (at bytes)

    slot : (bytes : List ℕ) → bytes_lent index m ≡ Some bytes → (s : QueueSlot) → w.queue name ≡ s → Leads w P (at bytes s)
    slot bytes lent (NoQueue incarnation timers) is = record {}
    slot bytes lent (Present q) is = leads-arrive c w P (E bytes q) name q bytes (Some index) ((Mailbox_of name := after_delivery index m) ∷ []) [] there.named
        (λ shared. does q bytes shared there lent) (λ e v done has. more q bytes e v there lent done has)
      where
        there : IsFoundAt w name q
        there = found-at c w name q sound is

    lent : (o : Option (List ℕ)) → bytes_lent index m ≡ o → Leads w P (under_way o)
    lent None is = record {}
    lent (Some bytes) is = slot bytes is (w.queue name) refl

-- an injection
pub leads-injection : (c : Configuration) (w : World) (P : World → List Mark → Type 0) (E : List ℕ → QueuePair → Effects → Type 0) (call : Call) (name : QueueId) (bytes : List ℕ) → IsSoundWorld c w
    → P w (answer_mark call (answers.Refused NoSuch) ∷ [])
    → ((q : QueuePair) (shared : Option SharedReceives) → IsFoundAt w name q → RowSuch (E bytes q) (arrival_row bytes None shared q))
    → ((q : QueuePair) (e : Effects) (v : World) → IsFoundAt w name q → E bytes q e → Has (with_at queue_eq w.queue name (Present e.queue)) w.mailbox v
    → P v (answer_mark call answers.Fine ∷ (marks.Arrived q.queue None ∷ e.marks)))
    → Leads w P (inject_plan c call name bytes)
leads-injection c w P E call name bytes sound refused does more = at (w.queue name) refl
  where
    arrives : QueueSlot → Plan
    arrives (NoQueue incarnation timers) = Refuse_plan call NoSuch
    arrives (Present q) = Arrive c q bytes None [] (answer_mark call answers.Fine ∷ [])

    at : (slot : QueueSlot) → w.queue name ≡ slot → Leads w P (arrives slot)
    at (NoQueue incarnation timers) is = refused
    at (Present q) is = leads-arrive c w P (E bytes q) name q bytes None [] (answer_mark call answers.Fine ∷ []) there.named (λ shared. does q shared there) (λ e v done has. more q e v there done has)
      where
        there : IsFoundAt w name q
        there = found-at c w name q sound is

-- ---- responders' turns

has-sent : (w v : World) (q : QueuePair) (p : Correspondent) (lot : Lot) (queues : QueueId → QueueSlot) (o : Option Packet) → Has queues w.mailbox v
    → Has queues (boxes_after w q p lot o) (put_all (option_map_or (sent_updates q p (w.mailbox p.queue) lot) o []) v)
has-sent w v q p lot queues None has = has
has-sent w v q p lot queues (Some x) has = by (reaches_peer q p (w.mailbox p.queue))
  where
    by : (b : Bool) → Has queues (if b then with_at queue_eq w.mailbox p.queue (after_send lot x.bytes (w.mailbox p.queue)) else w.mailbox)
        (put_all (if b then (Mailbox_of p.queue := after_send lot x.bytes (w.mailbox p.queue)) ∷ [] else []) v)
    by true = record { queue = has.queue; mailbox = ap (λ (f : QueueId → Mailbox). with_at queue_eq f p.queue (after_send lot x.bytes (w.mailbox p.queue))) has.mailbox }
    by false = has

pub leads-response : (c : Configuration) (w : World) (P : World → List Mark → Type 0) (E : QueuePair → Effects → Type 0) (name : QueueId) (lot : Lot) → IsSoundWorld c w
    → ((q : QueuePair) (room : Bool) → IsFoundAt w name q → (finish : Effects → List Update → List Write → Plan)
    → ((e : Effects) (cs : List Update) (ws : List Write) → E q e → AreAside cs → Leads w P (finish e cs ws)) → Leads w P (Row_plan c (respond_row room q) finish))
    → ((q : QueuePair) (p : Correspondent) (e : Effects) (v : World) → IsFoundAt w name q → q.peer ≡ Some p → E q e
    → Has (with_at queue_eq w.queue q.queue (Present e.queue)) (boxes_after w q p lot (packet_sent e)) v → P v (e.marks ++ option_map_or (sent_marks q p (w.mailbox p.queue) lot) (packet_sent e) []))
    → Leads w P (respond_plan c name lot)
leads-response c w P E name lot sound does more = leads-queue c w P name reasons.State (λ q. With_around q (λ a. Respond_around c lot q a q.peer))
    (λ q is. leads-around w P q (λ a. Respond_around c lot q a q.peer) (by q (found-at c w name q sound is) q.peer refl))
  where
    left : (q : QueuePair) (p : Correspondent) (e : Effects) (cs : List Update) (ws : List Write) → AreAside cs → Has (with_at queue_eq w.queue q.queue (Present e.queue)) (boxes_after w q p lot (packet_sent e))
        (write_all ws (put_all (updates_of q (around_in w q (shared_of w q)) e ++ (cs ++ option_map_or (sent_updates q p (w.mailbox p.queue) lot) (packet_sent e) [])) w))
    left q p e cs ws aside = has-writes (with_at queue_eq w.queue q.queue (Present e.queue)) (boxes_after w q p lot (packet_sent e)) ws (put_all (us ++ (cs ++ sends)) w)
        (subst (Has (with_at queue_eq w.queue q.queue (Present e.queue)) (boxes_after w q p lot (packet_sent e)))
        (sym (puts-append us (cs ++ sends) w ∙ puts-append cs sends (put_all us w)))
        (has-sent w (put_all cs (put_all us w)) q p lot (with_at queue_eq w.queue q.queue (Present e.queue)) (packet_sent e)
        (has-aside (with_at queue_eq w.queue q.queue (Present e.queue)) w.mailbox cs (put_all us w) aside (has-turn w q (around_in w q (shared_of w q)) e))))
      where
        us : List Update
        us = updates_of q (around_in w q (shared_of w q)) e

        sends : List Update
        sends = option_map_or (sent_updates q p (w.mailbox p.queue) lot) (packet_sent e) []

    by : (q : QueuePair) → IsFoundAt w name q → (peer : Option Correspondent) → q.peer ≡ peer → Leads w P (Respond_around c lot q (around_in w q (shared_of w q)) peer)
    by q there None is = leads-unless w P (respond_refusals true q) Stuck (Stuck reasons.Empty) (λ x. record {}) (record {})
    by q there (Some p) is = does q (has_room_for q p (w.mailbox p.queue)) there (Leave_plan q (around_in w q (shared_of w q)) p (w.mailbox p.queue) lot)
        (λ e cs ws done aside. more q p e _ there is done (left q p e cs ws aside))
