-- Turns keep the agreement on paths. For proofs only.
use Rattle.std.proofs.Common.{◌≡◌, ℕ, suc, ◌&&◌, Bool, true, false, if◌then◌else◌, List, [], ◌∷◌, ◌++◌, length, Option, None, Some, refl, sym, ap, subst, rules, ◌∙◌}
use Rattle.std.specs.Option.{option_map_or}
use Rattle.ca_law_endings.specs.Agreement.{AgreeOnPaths, AreLatest, AreNumbered, PathsAgree, peer_in, peer_named}
use Rattle.ca_law_endings.proofs.MailLemmas.{delivered-latest, lost-one, sent-latest}
use Rattle.ca_law_endings.specs.Runs.{Leads}
use Rattle.ca_law_endings.proofs.InnerLemmas.{own-inner, AreInner, IsInner, arrival-inner, packet-inner, respond-inner, timeout-inner}
use Rattle.ca_law_endings.proofs.LeadsLemmas.{AreAside, leads-around, leads-queue, leads-row, leads-unless}
use Rattle.ca_law_endings.proofs.PathLemmas.{AreKept, KeepsPaths, agree-kept, begin-same, inner-past, kept-append, kept-aside, kept-puts, kept-writes, marks-append, puts-append, same-past, same-world, turn-kept}
use Rattle.ca_law_endings.proofs.PerformLemmas.{leads-perform}
use Rattle.ca_base.specs.Configuration.{Configuration}
use Rattle.ca_base.specs.declared.correspondent.Correspondent.{Correspondent}
use Rattle.ca_base.specs.declared.lot.Lot.{Lot}
use Rattle.ca_base.specs.declared.step.Reason.TheVariants as reasons
use Rattle.ca_base.specs.declared.step.Sent.{Sent}
use Rattle.ca_base.specs.declared.step.Sent.TheVariants.{Silent, Spelt}
use Rattle.ca_base.specs.objects.Mailbox.{Mailbox, after_delivery, after_send, bytes_lent, is_lost, later_than}
use Rattle.ca_base.specs.objects.QueuePair.{QueuePair, QueueSlot, NoQueue, Present, incarnation_of}
use Rattle.ca_keys.specs.Equal.{queue_eq}
use Rattle.ca_keys.specs.declared.names.QueueId.{QueueId}
use Rattle.ca_model.specs.Past.{Envelope, Past, after_marks, at_begin, present_incarnation, with_at, with_lost}
use Rattle.ca_model.specs.declared.event.Event.{Event}
use Rattle.ca_model.specs.declared.mark.Mark.{Mark}
use Rattle.ca_model.specs.declared.mark.Mark.TheVariants as marks
use Rattle.ca_model.specs.machine.Around.{Around, With_around, shared_in, updates_of}
use Rattle.ca_model.specs.machine.Delivery.{Arrive, arrival_row, deliver_plan}
use Rattle.ca_model.specs.machine.Plan.{Plan, Stuck, Look, Finish, Update, ◌:=◌, Write, put_all, unless_refused, write_all}
use Rattle.ca_model.specs.machine.Requester.{Performs, RequestTurn, Sends, Waits, packet_row, turn_of}
use Rattle.ca_model.specs.machine.Respond.{respond_refusals, respond_row}
use Rattle.ca_model.specs.machine.Row.{Effects, Row, Row_plan}
use Rattle.ca_model.specs.machine.Sound.{IsQueueOf, IsSoundWorld}
use Rattle.ca_model.specs.machine.Timers.{after_timeout, after_wake, timeout_refusals, wake_refusals}
use Rattle.ca_model.specs.machine.Turns.{Fire, Leave_plan, Packet, Request_around, Respond_around, Timeout_around, With_receives, has_room_for, packet_sent, reaches_peer, request_plan, respond_plan, sent_marks, sent_updates, timeout_plan, wake_plan}
use Rattle.ca_model.specs.machine.World.{Mailbox_of, Queue_of, World}
use Rattle.ca_law_world.proofs.Sound.SettledLemmas.{queue-path, queue-refl}
use Rattle.ca_law_world.proofs.Sound.WorldLemmas.{RowDoes, around_in, is-there, shared_of}

-- what an event that ends so leaves of the agreement
abbrev pub Agrees : Past → Event → World → List Mark → Type 0
Agrees past event v ms = PathsAgree (after_marks ms (at_begin event past)) v

-- changes that keep paths, with marks that tell of none
pub agree-inner : (past : Past) (event : Event) (w : World) (us : List Update) (ws : List Write) (ms : List Mark) → PathsAgree past w → AreInner ms → AreKept w us
    → Agrees past event (write_all ws (put_all us w)) ms
agree-inner past event w us ws ms agree inner kept =
    agree-kept past (after_marks ms (at_begin event past)) w (write_all ws (put_all us w)) (inner-past ms inner past (at_begin event past) (begin-same past event))
    (kept-writes w ws (put_all us w) (kept-puts w w us kept (same-world w))) agree

-- one envelope more, on both sides
one-more : (p : Past) (v : World) (target : QueueId) (m : Mailbox) (es : List Envelope) → PathsAgree p v → m.incarnation ≡ (v.mailbox target).incarnation → m.peer ≡ (v.mailbox target).peer
    → m.next ≡ length es → AreNumbered es → AreLatest m.envelopes es → AgreeOnPaths p.incarnation p.naming (with_at queue_eq p.envelopes target es) v.queue (with_at queue_eq v.mailbox target m)
one-more p v target m es agree incarnation peer next numbered latest = record {
  incarnations = agree.incarnations;
  peers = agree.peers;
  owners = λ n. owner n (queue_eq target n) refl;
  accepted = λ n. accepts n (queue_eq target n) refl;
  counts = λ n. count n (queue_eq target n);
  numbered = λ n. numbers n (queue_eq target n);
  latest = λ n. keeps n (queue_eq target n);
}
  where
    owner : (n : QueueId) (b : Bool) → queue_eq target n ≡ b → (if b then m else v.mailbox n).incarnation ≡ p.incarnation n
    owner n true e = incarnation ∙ agree.owners target ∙ ap p.incarnation (queue-path target n e)
    owner n false e = agree.owners n

    accepts : (n : QueueId) (b : Bool) → queue_eq target n ≡ b → (if b then m else v.mailbox n).peer ≡ peer_named (p.naming n)
    accepts n true e = peer ∙ agree.accepted target ∙ ap (λ k. peer_named (p.naming k)) (queue-path target n e)
    accepts n false e = agree.accepted n

    count : (n : QueueId) (b : Bool) → (if b then m else v.mailbox n).next ≡ length (if b then es else p.envelopes n)
    count n true = next
    count n false = agree.counts n

    numbers : (n : QueueId) (b : Bool) → AreNumbered (if b then es else p.envelopes n)
    numbers n true = numbered
    numbers n false = agree.numbered n

    keeps : (n : QueueId) (b : Bool) → AreLatest (if b then m else v.mailbox n).envelopes (if b then es else p.envelopes n)
    keeps n true = latest
    keeps n false = agree.latest n

-- a packet that is sent, after what keeps paths
agree-sent : (p : Past) (v : World) (q : QueuePair) (peer : Correspondent) (m : Mailbox) (lot : Lot) (e : Effects) → PathsAgree p v → m.incarnation ≡ (v.mailbox peer.queue).incarnation
    → m.peer ≡ (v.mailbox peer.queue).peer → m.next ≡ (v.mailbox peer.queue).next → AreLatest m.envelopes (p.envelopes peer.queue)
    → PathsAgree (after_marks (option_map_or (sent_marks q peer m lot) (packet_sent e) []) p) (put_all (option_map_or (sent_updates q peer m lot) (packet_sent e) []) v)
agree-sent p v q peer m lot e agree incarnation named next latest = by e.sent
  where
    packet : Sent → Option Packet
    packet Silent = None
    packet (Spelt request) = Some (record { request = request; bytes = e.spelt })

    told : Packet → Bool → List Mark
    told x b =
        if b then marks.Sent q.queue peer.queue (Some m.next) x.request x.bytes ∷ (if is_lost lot then marks.Lost peer.queue (Some m.next) ∷ [] else [])
        else marks.Sent q.queue peer.queue None x.request x.bytes ∷ marks.Lost peer.queue None ∷ []

    changed : Packet → Bool → List Update
    changed x b = if b then (Mailbox_of peer.queue := after_send lot x.bytes m) ∷ [] else []

    sent : Packet → Bool → List Envelope
    sent x l = record {
      index = m.next;
      source = present_incarnation p q.queue;
      request = x.request;
      bytes = x.bytes;
      lost = l;
      cut = false;
    } ∷ p.envelopes peer.queue

    boxes : Packet → QueueId → Mailbox
    boxes x = with_at queue_eq v.mailbox peer.queue (after_send lot x.bytes m)

    more : (x : Packet) (l : Bool) → is_lost lot ≡ l → AgreeOnPaths p.incarnation p.naming (with_at queue_eq p.envelopes peer.queue (sent x l)) v.queue (boxes x)
    more x l is = one-more p v peer.queue (after_send lot x.bytes m) (sent x l) agree incarnation named (ap suc (next ∙ agree.counts peer.queue))
        (next ∙ agree.counts peer.queue, agree.numbered peer.queue) (sent-latest lot x.bytes m (sent x l) (record { bytes = refl; lost = sym is; uncut = refl }, latest))

    lost : (x : Packet) (b : Bool) → is_lost lot ≡ b → PathsAgree (after_marks (if b then marks.Lost peer.queue (Some m.next) ∷ [] else []) (after_marks (marks.Sent q.queue peer.queue (Some m.next) x.request x.bytes ∷ []) p))
        (put_all ((Mailbox_of peer.queue := after_send lot x.bytes m) ∷ []) v)
    lost x false is = more x false is
    lost x true is = record {
      incarnations = gone.incarnations;
      peers = gone.peers;
      owners = gone.owners;
      accepted = gone.accepted;
      counts = λ n. gone.counts n ∙ ap length (same n (queue_eq peer.queue n));
      numbered = λ n. subst AreNumbered (same n (queue_eq peer.queue n)) (gone.numbered n);
      latest = λ n. subst (AreLatest (boxes x n).envelopes) (same n (queue_eq peer.queue n)) (gone.latest n);
    }
      where
        gone : AgreeOnPaths p.incarnation p.naming (with_at queue_eq p.envelopes peer.queue (sent x true)) v.queue (boxes x)
        gone = more x true is

        before : QueueId → List Envelope
        before = with_at queue_eq p.envelopes peer.queue (sent x false)

        there : with_lost m.next (before peer.queue) ≡ sent x true
        there = ap (λ b. with_lost m.next (if b then sent x false else p.envelopes peer.queue)) (queue-refl peer.queue)
            ∙ lost-one m.next _ (p.envelopes peer.queue) refl (next ∙ agree.counts peer.queue) (agree.numbered peer.queue)

        same : (n : QueueId) (b : Bool) → (if b then sent x true else p.envelopes n) ≡ (if b then with_lost m.next (before peer.queue) else if b then sent x false else p.envelopes n)
        same n true = sym there
        same n false = refl

    reach : (x : Packet) (b : Bool) → PathsAgree (after_marks (told x b) p) (put_all (changed x b) v)
    reach x true = lost x (is_lost lot) refl
    reach x false = record { incarnations = agree.incarnations; peers = agree.peers; owners = agree.owners; accepted = agree.accepted; counts = agree.counts; numbered = agree.numbered; latest = agree.latest }

    by : (s : Sent) → PathsAgree (after_marks (option_map_or (sent_marks q peer m lot) (packet s) []) p) (put_all (option_map_or (sent_updates q peer m lot) (packet s) []) v)
    by Silent = agree
    by (Spelt request) = reach (record { request = request; bytes = e.spelt }) (reaches_peer q peer m)

-- a turn's row, and what it sends
agrees-left : (c : Configuration) (past : Past) (event : Event) (w : World) (q : QueuePair) (peer : Correspondent) (lot : Lot) (row : Row) → PathsAgree past w → w.queue q.queue ≡ Present q
    → RowDoes (IsInner q) row → Leads w (Agrees past event) (Row_plan c row (Leave_plan q (around_in w q (shared_of w q)) peer (w.mailbox peer.queue) lot))
agrees-left c past event w q peer lot row agree is does =
    leads-row c w (Agrees past event) (IsInner q) row (Leave_plan q a peer m lot) does (λ e cs ws inner aside. left e cs ws inner aside)
  where
    a : Around
    a = around_in w q (shared_of w q)

    m : Mailbox
    m = w.mailbox peer.queue

    sends : Effects → List Update
    sends e = option_map_or (sent_updates q peer m lot) (packet_sent e) []

    tells : Effects → List Mark
    tells e = option_map_or (sent_marks q peer m lot) (packet_sent e) []

    kept : (e : Effects) (cs : List Update) → IsInner q e → AreAside cs → KeepsPaths w (put_all cs (put_all (updates_of q a e) w))
    kept e cs inner aside = kept-puts w (put_all (updates_of q a e) w) cs (kept-aside w cs aside) (kept-puts w w (updates_of q a e) (turn-kept w q a e is inner) (same-world w))

    sent : (e : Effects) (cs : List Update) → IsInner q e → AreAside cs
        → PathsAgree (after_marks (tells e) (after_marks e.marks (at_begin event past))) (put_all (sends e) (put_all cs (put_all (updates_of q a e) w)))
    sent e cs inner aside = agree-sent (after_marks e.marks (at_begin event past)) (put_all cs (put_all (updates_of q a e) w)) q peer m lot e
        (agree-kept past (after_marks e.marks (at_begin event past)) w (put_all cs (put_all (updates_of q a e) w))
        (inner-past e.marks (own-inner e.marks inner.marks) past (at_begin event past) (begin-same past event)) (kept e cs inner aside) agree)
        (sym ((kept e cs inner aside).owners peer.queue)) (sym ((kept e cs inner aside).accepted peer.queue)) (sym ((kept e cs inner aside).counts peer.queue))
        (subst (λ f. AreLatest m.envelopes (f peer.queue)) (sym (inner-past e.marks (own-inner e.marks inner.marks) past (at_begin event past) (begin-same past event)).envelopes) (agree.latest peer.queue))

    -- the same over the changes and the marks as they stand in the plan
    placed : (e : Effects) (cs : List Update) → put_all (sends e) (put_all cs (put_all (updates_of q a e) w)) ≡ put_all (updates_of q a e ++ (cs ++ sends e)) w
    placed e cs = sym (puts-append cs (sends e) (put_all (updates_of q a e) w)) ∙ sym (puts-append (updates_of q a e) (cs ++ sends e) w)

    left : (e : Effects) (cs : List Update) (ws : List Write) → IsInner q e → AreAside cs → Agrees past event (write_all ws (put_all (updates_of q a e ++ (cs ++ sends e)) w)) (e.marks ++ tells e)
    left e cs ws inner aside = agree-kept (after_marks (e.marks ++ tells e) (at_begin event past)) (after_marks (e.marks ++ tells e) (at_begin event past))
        (put_all (updates_of q a e ++ (cs ++ sends e)) w) (write_all ws (put_all (updates_of q a e ++ (cs ++ sends e)) w)) (same-past _)
        (kept-writes _ ws (put_all (updates_of q a e ++ (cs ++ sends e)) w) (same-world _))
        (subst (λ p. PathsAgree p (put_all (updates_of q a e ++ (cs ++ sends e)) w)) (sym (marks-append e.marks (tells e) (at_begin event past)))
        (subst (λ v. PathsAgree (after_marks (tells e) (after_marks e.marks (at_begin event past))) v) (placed e cs) (sent e cs inner aside)))

-- a queue pair that is found stands under its own name
pub found : (c : Configuration) (w : World) (name : QueueId) (q : QueuePair) → IsSoundWorld c w → w.queue name ≡ Present q → w.queue q.queue ≡ Present q
found c w name q sound is = (is-there w name q is (subst (IsQueueOf name) is (sound.things (Queue_of name)))).present

pub agrees-request : (c : Configuration) (past : Past) (event : Event) (w : World) (name : QueueId) (lot : Lot) → IsSoundWorld c w → PathsAgree past w → Leads w (Agrees past event) (request_plan c name lot)
agrees-request c past event w name lot sound agree = leads-queue c w (Agrees past event) name reasons.State (λ q. With_around q (λ a. Request_around c lot q a q.peer (turn_of q)))
    (λ q is. leads-around w (Agrees past event) q (λ a. Request_around c lot q a q.peer (turn_of q)) (by q (found c w name q sound is) q.peer (turn_of q)))
  where
    by : (q : QueuePair) → w.queue q.queue ≡ Present q → (peer : Option Correspondent) (turn : RequestTurn) → Leads w (Agrees past event) (Request_around c lot q (around_in w q (shared_of w q)) peer turn)
    by q is peer (Waits reason) = record {}
    by q is peer (Performs n) = leads-perform c w (Agrees past event) q n (λ e changes writes. Finish (updates_of q (around_in w q (shared_of w q)) e ++ changes) writes e.marks) n.request.op
        (λ e cs ws inner aside. agree-inner past event w (updates_of q (around_in w q (shared_of w q)) e ++ cs) ws e.marks agree (own-inner e.marks inner.marks)
        (kept-append w (updates_of q (around_in w q (shared_of w q)) e) cs (turn-kept w q (around_in w q (shared_of w q)) e is inner) (kept-aside w cs aside)))
    by q is None (Sends n) = record {}
    by q is (Some peer) (Sends n) = agrees-left c past event w q peer lot (packet_row q (has_room_for q peer (w.mailbox peer.queue)) n) agree is
        (packet-inner q (has_room_for q peer (w.mailbox peer.queue)) n)

pub agrees-respond : (c : Configuration) (past : Past) (event : Event) (w : World) (name : QueueId) (lot : Lot) → IsSoundWorld c w → PathsAgree past w → Leads w (Agrees past event) (respond_plan c name lot)
agrees-respond c past event w name lot sound agree = leads-queue c w (Agrees past event) name reasons.State (λ q. With_around q (λ a. Respond_around c lot q a q.peer))
    (λ q is. leads-around w (Agrees past event) q (λ a. Respond_around c lot q a q.peer) (by q (found c w name q sound is) q.peer))
  where
    by : (q : QueuePair) → w.queue q.queue ≡ Present q → (peer : Option Correspondent) → Leads w (Agrees past event) (Respond_around c lot q (around_in w q (shared_of w q)) peer)
    by q is None = leads-unless w (Agrees past event) (respond_refusals true q) Stuck (Stuck reasons.Empty) (λ r. record {}) (record {})
    by q is (Some peer) = agrees-left c past event w q peer lot (respond_row (has_room_for q peer (w.mailbox peer.queue)) q) agree is
        (respond-inner (has_room_for q peer (w.mailbox peer.queue)) q)

pub agrees-timeout : (c : Configuration) (past : Past) (event : Event) (w : World) (name : QueueId) (hasten : Bool) → IsSoundWorld c w → PathsAgree past w
    → Leads w (Agrees past event) (timeout_plan c name hasten)
agrees-timeout c past event w name hasten sound agree =
    leads-queue c w (Agrees past event) name reasons.State (λ q. Look (Mailbox_of name) (λ own. With_around q (λ a. Timeout_around hasten q own a q.peer)))
    (λ q is. leads-around w (Agrees past event) q (λ a. Timeout_around hasten q (w.mailbox name) a q.peer) (by q (found c w name q sound is) q.peer))
  where
    fire : (q : QueuePair) → w.queue q.queue ≡ Present q → (silent : Bool) → Leads w (Agrees past event) (Fire hasten q (around_in w q (shared_of w q)) silent)
    fire q is silent = leads-unless w (Agrees past event) (timeout_refusals silent hasten q) Stuck
        (Finish (updates_of q (around_in w q (shared_of w q)) (after_timeout silent q)) [] (after_timeout silent q).marks) (λ r. record {})
        (agree-inner past event w (updates_of q (around_in w q (shared_of w q)) (after_timeout silent q)) [] (after_timeout silent q).marks agree (own-inner (after_timeout silent q).marks (timeout-inner q silent).marks)
        (turn-kept w q (around_in w q (shared_of w q)) (after_timeout silent q) is (timeout-inner q silent)))

    by : (q : QueuePair) → w.queue q.queue ≡ Present q → (peer : Option Correspondent) → Leads w (Agrees past event) (Timeout_around hasten q (w.mailbox name) (around_in w q (shared_of w q)) peer)
    by q is None = leads-unless w (Agrees past event) (timeout_refusals false hasten q) Stuck (Stuck reasons.Empty) (λ r. record {}) (record {})
    by q is (Some peer) = fire q is _

-- a packet that arrives, behind changes and marks that come first
pub agrees-arrive : (c : Configuration) (w : World) (P : World → List Mark → Type 0) (q : QueuePair) (bytes : List ℕ) (envelope : Option ℕ) (pre : List Update) (ms : List Mark) → w.queue q.queue ≡ Present q
    → ((us : List Update) (ws : List Write) (ns : List Mark) → AreKept w us → AreInner ns → P (write_all ws (put_all (pre ++ us) w)) (ms ++ ns)) → Leads w P (Arrive c q bytes envelope pre ms)
agrees-arrive c w P q bytes envelope pre ms is more =
    leads-around w P q (λ a. Row_plan c (arrival_row bytes envelope (shared_in a) q) (finish a))
    (leads-row c w P (IsInner q) (arrival_row bytes envelope (shared_in a) q) (finish a) (arrival-inner bytes envelope (shared_in a) q)
    (λ e cs ws inner aside. more (updates_of q a e ++ cs) ws (marks.Arrived q.queue envelope ∷ e.marks)
    (kept-append w (updates_of q a e) cs (turn-kept w q a e is inner) (kept-aside w cs aside)) (record {}, own-inner e.marks inner.marks)))
  where
    a : Around
    a = around_in w q (shared_of w q)

    finish : Around → Effects → List Update → List Write → Plan
    finish a e more writes = Finish (pre ++ (updates_of q a e ++ more)) writes (ms ++ marks.Arrived q.queue envelope ∷ e.marks)

pub agrees-deliver : (c : Configuration) (past : Past) (event : Event) (w : World) (name : QueueId) (index : ℕ) → IsSoundWorld c w → PathsAgree past w → Leads w (Agrees past event) (deliver_plan c name index)
agrees-deliver c past event w name index sound agree = (λ has. lent (bytes_lent index (w.mailbox name)), λ none. record {})
  where
    m : Mailbox
    m = w.mailbox name

    at : List ℕ → QueueSlot → Plan
    at bytes (NoQueue incarnation timers) = Stuck reasons.NotKept
    at bytes (Present q) = Arrive c q bytes (Some index) ((Mailbox_of name := after_delivery index m) ∷ []) []

    under_way : Option (List ℕ) → Plan
    under_way None = Stuck reasons.NotKept
    under_way (Some bytes) = Look (Queue_of name) (at bytes)

    there : (bytes : List ℕ) (s : QueueSlot) → w.queue name ≡ s → Leads w (Agrees past event) (at bytes s)
    there bytes (NoQueue incarnation timers) is = record {}
    there bytes (Present q) is = agrees-arrive c w (Agrees past event) q bytes (Some index) ((Mailbox_of name := after_delivery index m) ∷ []) [] (found c w name q sound is)
        (λ us ws ns kept inner. agree-inner past event w ((Mailbox_of name := after_delivery index m) ∷ us) ws ns agree inner ((refl, refl, refl, λ es latest. delivered-latest (later_than index m) m.envelopes es latest), kept))

    lent : (o : Option (List ℕ)) → Leads w (Agrees past event) (under_way o)
    lent None = record {}
    lent (Some bytes) = there bytes (w.queue name) refl

pub agrees-wake : (c : Configuration) (past : Past) (event : Event) (w : World) (name : QueueId) → IsSoundWorld c w → PathsAgree past w → Leads w (Agrees past event) (wake_plan c name)
agrees-wake c past event w name sound agree = leads-queue c w (Agrees past event) name reasons.State (λ q. waking q q.peer) (λ q is. by q (found c w name q sound is) q.peer)
  where
    wakes : QueuePair → Bool → Plan
    wakes q empty = unless_refused (wake_refusals empty q) Stuck (Finish ((Queue_of q.queue := Present (after_wake q).queue) ∷ []) [] (after_wake q).marks)

    waking : QueuePair → Option Correspondent → Plan
    waking q None = unless_refused (wake_refusals false q) Stuck (Stuck reasons.Empty)
    waking q (Some peer) = Look (Queue_of peer.queue) (λ slot. Look (Mailbox_of peer.queue) (λ m.
        With_receives slot (λ empty. wakes q (reaches_peer q peer m && empty))))

    wake : (q : QueuePair) → w.queue q.queue ≡ Present q → (empty : Bool) → Leads w (Agrees past event) (wakes q empty)
    wake q is empty = leads-unless w (Agrees past event) (wake_refusals empty q) Stuck (Finish ((Queue_of q.queue := Present (after_wake q).queue) ∷ []) [] (after_wake q).marks)
        (λ r. record {}) (agree-inner past event w ((Queue_of q.queue := Present (after_wake q).queue) ∷ []) [] [] agree (record {}) ((sym (ap incarnation_of is), sym (ap peer_in is)), record {}))

    receives : (slot : QueueSlot) (k : Bool → Plan) → ((b : Bool) → Leads w (Agrees past event) (k b)) → Leads w (Agrees past event) (With_receives slot k)
    receives slot k more = search rules

    by : (q : QueuePair) → w.queue q.queue ≡ Present q → (peer : Option Correspondent) → Leads w (Agrees past event) (waking q peer)
    by q is None = leads-unless w (Agrees past event) (wake_refusals false q) Stuck (Stuck reasons.Empty) (λ r. record {}) (record {})
    by q is (Some peer) = receives (w.queue peer.queue) (λ empty. wakes q (reaches_peer q peer (w.mailbox peer.queue) && empty)) (λ empty. wake q is _)
