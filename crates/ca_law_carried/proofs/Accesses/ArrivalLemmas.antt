-- Packets that arrive keep the agreement on accesses, and each access that they make is asked for. For proofs only.
use Rattle.std.proofs.Common.{Bool, List, None, Ok, Option, Some, [], ap, arith, eq-eqb, false, if◌then◌else◌, nat_lt, option_map, refl, subst, sym, true, ℕ, ◌%◌, ◌++◌, ◌+◌, ◌-◌, ◌==◌, ◌^◌, ◌||◌, ◌∙◌, ◌∷◌, ◌≡◌}
use Rattle.std.proofs.Math.Nat.{zero-mod}
use Rattle.std.proofs.lemmas.Bool.{le-leb}
use Rattle.std.proofs.lemmas.Bool.Decides.{nat_tests}
use Rattle.std.specs.List.{list_any}
use Rattle.std.specs.Option.{option_and_then, option_eq, option_map_or}
use Rattle.std.specs.Result.{result_ok}
use Rattle.ca_law_endings.proofs.LeadsLemmas.{leads-around}
use Rattle.ca_law_endings.proofs.MailSentLemmas.{lent-sent}
use Rattle.ca_law_endings.proofs.PathChangeLemmas.{Behind}
use Rattle.ca_law_endings.proofs.PathLemmas.{puts-append}
use Rattle.ca_law_endings.proofs.PathTurnLemmas.{found}
use Rattle.ca_law_endings.proofs.PathVerbLemmas.{call_of}
use Rattle.ca_law_endings.specs.Agreement.{WereSent}
use Rattle.ca_law_endings.specs.Runs.{Leads}
use Rattle.ca_law_carried.proofs.Accesses.AccessRowLemmas.{ArrivesAt, Hears, arrival-carried}
use Rattle.ca_law_carried.proofs.Accesses.CarryLemmas.{Carries, IsCarried, is_accessed}
use Rattle.ca_law_carried.proofs.Accesses.EndLemmas.{AreSafe, leads-seen}
use Rattle.ca_law_carried.proofs.Accesses.TurnLemmas.{Grows, IsMet, Right, agree-at, agree-kept, grows-then, kept-append, kept-safe, requests_of, same-world, srq-kept, turn-agrees, unheard-grows}
use Rattle.ca_law_carried.specs.Accesses.{AccessesAgree, AgreeOnAccesses, AgreeOnResponder, IsEnded, IsEndedWorld}
use Rattle.ca_base.specs.Configuration.{Configuration}
use Rattle.ca_base.specs.declared.correspondent.Correspondent.{Correspondent}
use Rattle.ca_base.specs.objects.CompletionQueue.{after_puts}
use Rattle.ca_base.specs.objects.Mailbox.{Mailbox, after_delivery, bytes_lent}
use Rattle.ca_base.specs.objects.QueuePair.{NoQueue, Present, QueuePair, QueueSlot, recv_cq_of, send_cq_of}
use Rattle.ca_base.specs.objects.Region.{grant_of_region}
use Rattle.ca_base.specs.objects.SharedReceives.{after_receive_take}
use Rattle.ca_law_keys.proofs.Judged.JudgeLemmas.{both-true}
use Rattle.ca_keys.specs.Equal.{queue_eq}
use Rattle.ca_keys.specs.declared.key.Key.{Key}
use Rattle.ca_keys.specs.declared.names.QueueId.{QueueId}
use Rattle.ca_keys.specs.declared.names.Slot.{Slot}
use Rattle.ca_law_world.proofs.Sound.SettledLemmas.{queue-refl}
use Rattle.ca_law_world.proofs.Sound.WorldLemmas.{around_in, shared_of}
use Rattle.ca_model.specs.Packets.{packet_of}
use Rattle.ca_model.specs.Carried.{is_rest_of}
use Rattle.ca_model.specs.Past.{Envelope, Past, ReadRequest, after_mark, after_marks, at_begin, correspondent_eq, each_mark, packet_at, present_incarnation, read_request_of}
use Rattle.ca_model.specs.declared.answer.Refusal.TheVariants.{NoSuch}
use Rattle.ca_model.specs.declared.event.Event.{Event}
use Rattle.ca_model.specs.declared.mark.Mark.{Mark}
use Rattle.ca_model.specs.machine.Around.{Around, completions_to, shared_in, srq_updates, updates_of}
use Rattle.ca_model.specs.machine.Delivery.{Arrive, arrival_row, deliver_plan}
use Rattle.ca_model.specs.machine.HostVerbs.{inject_plan}
use Rattle.ca_model.specs.machine.Plan.{Finish, Look, Plan, Stuck, Update, Write, put_all, write_all, ◌:=◌}
use Rattle.ca_model.specs.machine.Row.{Effects, Row_plan}
use Rattle.ca_model.specs.machine.Sound.{IsQueueOf}
use Rattle.ca_model.specs.machine.VerbAnswers.{Call, Refuse_plan, answer_mark}
use Rattle.ca_model.specs.machine.World.{Cq_of, Mailbox_of, Queue_of, World}
use Rattle.ca_wire.specs.Decoding.{packet_in}
use Rattle.ca_wire.specs.Packet.{Fields}
use Rattle.ca_wire.specs.Table.{has}
use Rattle.ca_wire.specs.declared.reth.Reth.{Reth}
use Rattle.ca_wire.specs.declared.shape.Shape.{Shape}
use Rattle.ca_model.specs.declared.answer.Answer.TheVariants as answers
use Rattle.ca_model.specs.declared.event.Event.TheVariants as events
use Rattle.ca_model.specs.declared.mark.Mark.TheVariants as marks
use Rattle.ca_base.specs.declared.step.Reason.TheVariants as reasons
use Rattle.ca_wire.specs.declared.shape.Shape.TheVariants as shapes
use Rattle.ca_model.specs.declared.verb.Verb.TheVariants as verbs

-- ---- what a packet adds

-- a READ is the rest of its own request
self-left : (mtu : ℕ) (key : Key) (address count : ℕ) (envelope : Option ℕ) → is_rest_of mtu key address count envelope (record { envelope = envelope; key = key; address = address; length = count }) ≡ true
self-left mtu key address count envelope = both-true _ _ (both-true _ _ (both-true _ _ (both-true _ _ (both-true _ _ (indices envelope) (eq-eqb key.0 key.0 refl)) (le-leb count count (omega arith))) places) addresses) (some count)
  where
    indices : (o : Option ℕ) → option_eq (λ m n. m == n) o o ≡ true
    indices None = refl
    indices (Some n) = eq-eqb n n refl

    none : count - count ≡ 0
    none = omega arith

    places : ((count - count) % mtu == 0) ≡ true
    places = eq-eqb ((count - count) % mtu) 0 (ap (λ n. n % mtu) none ∙ zero-mod mtu)

    addresses : (address % 2 ^ 64 == (address + (count - count)) % 2 ^ 64) ≡ true
    addresses = eq-eqb (address % 2 ^ 64) ((address + (count - count)) % 2 ^ 64) (omega arith)

    some : (n : ℕ) → (nat_lt 0 n || (n == 0)) ≡ true
    some n = grind (arith, nat_tests)

same-life : (l : Correspondent) → correspondent_eq l l ≡ true
same-life l = both-true (queue_eq l.queue l.queue) (l.incarnation == l.incarnation) (queue-refl l.queue) (eq-eqb l.incarnation l.incarnation refl)

-- the requests behind a packet that arrived have the READ that it is
hears-own : (x : Past) (q : QueuePair) (bytes : List ℕ) (envelope : Option ℕ) (p : Fields) → packet_at x q.queue envelope ≡ packet_of bytes → packet_in bytes ≡ Ok p
    → Hears (requests_of (after_mark (marks.Arrived q.queue envelope) x) q.queue) q.responder.mtu envelope p
hears-own x q bytes envelope p packet is h shaped has = subst (λ rs. list_any (is_rest_of q.responder.mtu h.key h.address h.length envelope) rs ≡ true) (sym there)
    (ap (λ b. b || list_any (is_rest_of q.responder.mtu h.key h.address h.length envelope) (requests_of x q.queue)) (self-left q.responder.mtu h.key h.address h.length envelope))
  where
    request : ReadRequest
    request = record { envelope = envelope; key = h.key; address = h.address; length = h.length }

    is-read : Option Shape → Bool
    is-read (Some shapes.Read) = true
    is-read shape = false

    own : (o : Option Reth) → List ReadRequest
    own o = option_map_or (λ r. record { envelope = envelope; key = r.key; address = r.address; length = r.length } ∷ []) o []

    read : read_request_of envelope p ≡ request ∷ []
    read = ap (λ b. if b then own p.reth else []) (ap is-read shaped) ∙ ap own has

    there : requests_of (after_mark (marks.Arrived q.queue envelope) x) q.queue ≡ request ∷ requests_of x q.queue
    there = ap (λ b. if b then option_map_or (read_request_of envelope) (packet_at x q.queue envelope) [] ++ requests_of x q.queue else requests_of x q.queue) (same-life (present_incarnation x q.queue))
        ∙ ap (λ o. option_map_or (read_request_of envelope) o [] ++ requests_of x q.queue) (packet ∙ ap result_ok is)
        ∙ ap (λ rs. rs ++ requests_of x q.queue) read

-- ---- events

-- bytes arrive at a queue pair, behind changes and marks that come first; x is the past behind those marks
right-arrive : (c : Configuration) (past x : Past) (w : World) (P : World → List Mark → Type 0) (q : QueuePair) (bytes : List ℕ) (envelope : Option ℕ) (pre : List Update) (ms : List Mark) → IsMet c past w → w.queue q.queue ≡ Present q
    → Grows past x → packet_at x q.queue envelope ≡ packet_of bytes → (put_all pre w).queue ≡ w.queue → (put_all pre w).region ≡ w.region
    → ((v : World) (ns : List Mark) → each_mark is_accessed x ns ≡ true → AccessesAgree (after_marks ns x) v → IsEndedWorld v → P v (ms ++ ns)) → Leads w P (Arrive c q bytes envelope pre ms)
right-arrive c past x w P q bytes envelope pre ms met is grows packet queues regions more = leads-around w P q (λ a. Row_plan c (arrival_row bytes envelope (shared_in a) q) (finish a))
    (leads-seen c w P (Carries (ArrivesAt q.queue envelope (packet_of bytes) (y.latest_write q.queue)) q (requests_of y q.queue)) (arrival_row bytes envelope (shared_in a) q) (finish a) met.ended
    (arrival-carried c w (y.latest_write q.queue) (requests_of y q.queue) bytes envelope (shared_in a) q met.ended met.bound own.write own.reads (λ p decoded. hears-own x q bytes envelope p packet decoded))
    (λ e cs ws carries safe. ends e cs ws (carries y (record { latest = refl; arrived = both-true (queue_eq q.queue q.queue) _ (queue-refl q.queue) (indices envelope); packet = packet })) safe))
  where
    a : Around
    a = around_in w q (shared_of w q)

    finish : Around → Effects → List Update → List Write → Plan
    finish a e more writes = Finish (pre ++ (updates_of q a e ++ more)) writes (ms ++ marks.Arrived q.queue envelope ∷ e.marks)

    indices : (o : Option ℕ) → option_eq (λ m n. m == n) o o ≡ true
    indices None = refl
    indices (Some n) = eq-eqb n n refl

    y : Past
    y = after_mark (marks.Arrived q.queue envelope) x

    u : World
    u = put_all pre w

    agree : AccessesAgree y w
    agree = agree-kept past y w w (grows-then past x y grows (unheard-grows (marks.Arrived q.queue envelope ∷ []) (record {}, record {}) x)) (same-world w met.ended) met.agree

    own : AgreeOnResponder (y.latest_write q.queue) (y.naming q.queue) (requests_of y q.queue) q
    own = agree-at y w q agree is

    ends : (e : Effects) (cs : List Update) (ws : List Write) → IsCarried q.queue q.responder.mtu (requests_of y q.queue) e y → AreSafe cs → Leads w P (finish a e cs ws)
    ends e cs ws carried safe = more (write_all ws (put_all (pre ++ (updates_of q a e ++ cs)) w)) (marks.Arrived q.queue envelope ∷ e.marks) carried.passes
        (subst (λ v. AccessesAgree (after_marks e.marks y) (write_all ws v)) placed moved.0) (subst (λ v. IsEndedWorld (write_all ws v)) placed moved.1)
      where
        placed : put_all (updates_of q a e ++ cs) u ≡ put_all (pre ++ (updates_of q a e ++ cs)) w
        placed = sym (puts-append pre (updates_of q a e ++ cs) w)

        moved : AccessesAgree (after_marks e.marks y) (write_all ws (put_all (updates_of q a e ++ cs) u)) × IsEndedWorld (write_all ws (put_all (updates_of q a e ++ cs) u))
        moved = turn-agrees y u q e
            ((Cq_of (send_cq_of q) := option_map (after_puts (completions_to q q.send_cq e.marks)) a.send)
            ∷ (Cq_of (recv_cq_of q) := option_map (after_puts (completions_to q q.recv_cq e.marks)) a.recv)
            ∷ ((if e.takes_shared then srq_updates q a after_receive_take else []) ++ cs)) ws (ap (λ f. f q.queue) queues ∙ is)
            (subst (λ f. AgreeOnAccesses y.incarnation y.latest_write y.naming y.read_requests f) (sym queues) agree) (subst (λ f. (s : Slot) → IsEnded (grant_of_region (f s))) (sym regions) met.ended) carried
            (λ v. (record {}, (record {}, kept-append v (if e.takes_shared then srq_updates q a after_receive_take else []) cs (srq-kept v q a e.takes_shared) (kept-safe v cs safe))))

-- the packet that a mark names by an index is the one that was lent
lent-packet : (past : Past) (q : QueueId) (index : ℕ) (bytes : List ℕ) → WereSent past q index bytes → packet_at past q (Some index) ≡ packet_of bytes
lent-packet past q index bytes was = ap (λ o. option_and_then packet_of (option_map (λ (e : Envelope). e.bytes) o)) was.sent ∙ ap packet_of was.bytes

pub right-deliver : (c : Configuration) (past : Past) (event : Event) (w : World) (name : QueueId) (index : ℕ) → IsMet c past w → Leads w (Right past event) (deliver_plan c name index)
right-deliver c past event w name index met = (λ has. lent (bytes_lent index (w.mailbox name)) refl, λ none. record {})
  where
    m : Mailbox
    m = w.mailbox name

    at : List ℕ → QueueSlot → Plan
    at bytes (NoQueue incarnation timers) = Stuck reasons.NotKept
    at bytes (Present q) = Arrive c q bytes (Some index) ((Mailbox_of name := after_delivery index m) ∷ []) []

    under_way : Option (List ℕ) → Plan
    under_way None = Stuck reasons.NotKept
    under_way (Some bytes) = Look (Queue_of name) (at bytes)

    there : (bytes : List ℕ) → WereSent past name index bytes → (s : QueueSlot) → w.queue name ≡ s → Leads w (Right past event) (at bytes s)
    there bytes was (NoQueue incarnation timers) is = record {}
    there bytes was (Present q) is = right-arrive c past (at_begin event past) w (Right past event) q bytes (Some index) ((Mailbox_of name := after_delivery index m) ∷ []) [] met (found c w name q met.sound is)
        (record { incarnation = refl; naming = refl; latest = λ n. refl; requests = λ l test any. any })
        (lent-packet past q.queue index bytes (subst (λ k. WereSent past k index bytes) (sym (subst (IsQueueOf name) is (met.sound.things (Queue_of name))).0) was)) refl refl
        (λ v ns passes agree ended. (passes, (agree, ended)))

    lent : (o : Option (List ℕ)) → bytes_lent index m ≡ o → Leads w (Right past event) (under_way o)
    lent None is = record {}
    lent (Some bytes) is = there bytes (lent-sent c past w name index bytes met.sound met.paths is) (w.queue name) refl

pub right-inject : (c : Configuration) (past : Past) (w : World) (by : ℕ) (q : QueueId) (bytes : List ℕ) → IsMet c past w
    → Leads w (Right past (events.Verb by (verbs.Inject q bytes))) (inject_plan c (call_of by (verbs.Inject q bytes)) q bytes)
right-inject c past w by q bytes met = at (w.queue q) refl
  where
    call : Call
    call = call_of by (verbs.Inject q bytes)

    P : World → List Mark → Type 0
    P = Right past (events.Verb by (verbs.Inject q bytes))

    arrives : QueueSlot → Plan
    arrives (NoQueue incarnation timers) = Refuse_plan call NoSuch
    arrives (Present p) = Arrive c p bytes None [] (answer_mark call answers.Fine ∷ [])

    at : (s : QueueSlot) → w.queue q ≡ s → Leads w P (arrives s)
    at (NoQueue incarnation timers) is = (refl, (met.agree, met.ended))
    at (Present p) is = right-arrive c past (Behind past by (verbs.Inject q bytes) answers.Fine) w P p bytes None [] (answer_mark call answers.Fine ∷ []) met (found c w q p met.sound is)
        (record { incarnation = refl; naming = refl; latest = λ n. refl; requests = λ l test any. any }) refl refl refl
        (λ v ns passes agree ended. (both-true true _ refl passes, (agree, ended)))
