-- Which rows take a shared receive: those of a SEND's first packet and of a WRITE's immediate data, and no others.
use Rattle.std.proofs.Common.{arith, rules, ◌≡◌, ℕ, suc, ◌+◌, nat_lt, Bool, true, false, List, [], ◌∷◌, ◌++◌, length, Option, None, Some, ◌∙◌, ap, subst, is_none, is_some, sym, true≢false, if◌then◌else◌, refl}
use Rattle.std.specs.Option.{option_and_then, option_map, option_map_or}
use Rattle.ca_keys.specs.declared.access.Ask.{Ask}
use Rattle.ca_keys.specs.declared.key.Key.{Key}
use Rattle.ca_base.specs.declared.completion.WcOp.TheVariants as operations
use Rattle.ca_base.specs.declared.completion.WcStatus.{WcStatus}
use Rattle.ca_base.specs.declared.completion.WcStatus.TheVariants.{LocalLength, LocalProtection, MemoryManagement, Success}
use Rattle.ca_base.specs.declared.refusals.OpRefusal.{OpRefusal}
use Rattle.ca_base.specs.declared.request.PlacedReceive.{PlacedReceive}
use Rattle.ca_base.specs.objects.LocalRequest.{LocalMarks}
use Rattle.ca_base.specs.objects.QueuePair.{QueuePair, receive_in_use}
use Rattle.ca_base.specs.objects.SharedReceives.{SharedReceives, first_receive}
use Rattle.ca_base.specs.objects.WorkQueue.{WorkQueue, after_take, item_at, items_from}
use Rattle.ca_base.specs.declared.request.RecvRequest.{RecvRequest}
use Rattle.ca_model.specs.ca_wire.declared.shape.Position.{Position}
use Rattle.ca_model.specs.ca_wire.declared.shape.Shape.{Shape}
use Rattle.ca_model.specs.ca_wire.Packet.{Fields}
use Rattle.ca_model.specs.ca_wire.Shapes.{ends}
use Rattle.ca_model.specs.ca_wire.declared.syndrome.NakCode.{NakCode}
use Rattle.ca_model.specs.ca_wire.declared.syndrome.NakCode.TheVariants.{InvalidRequest, RemoteOperationalError}
use Rattle.ca_model.specs.ca_wire.declared.syndrome.Syndrome.{Syndrome}
use Rattle.ca_model.specs.declared.mark.Mark.{Mark}
use Rattle.ca_model.specs.declared.receiving.Receiving.{Receiving}
use Rattle.ca_model.specs.declared.write_reach.WriteReach.{WriteReach}
use Rattle.ca_model.specs.Requests.{list_length}
use Rattle.ca_model.specs.machine.Acknowledgements.{Acknowledgement, acknowledgement_below, with_requester}
use Rattle.ca_model.specs.machine.Arrivals.{has_shared, next_receive, refusal_effects, with_flag, with_message, with_receive_taken}
use Rattle.ca_model.specs.machine.Completions.{flushed_receives, receive_mark}
use Rattle.ca_model.specs.machine.Delivery.{arrival_row}
use Rattle.ca_model.specs.machine.Duplicates.{ahead_effects, duplicate_effects, request_row}
use Rattle.ca_model.specs.machine.Expected.{after_send_packet, behind_marks, continues, expected_row, invalidation_of, message_left, queue_after_packet, read_queued, receive_asks, receive_failure_effects, revoked_marks, rnr_effects, send_row, valid_row, with_shared_receive, with_window_gone, write_row}
use Rattle.ca_model.specs.machine.Invariants.{IsQueue}
use Rattle.ca_model.specs.machine.LocalOperations.{invalidate_row, operation_effects}
use Rattle.ca_model.specs.machine.Numbering.{Numbered}
use Rattle.ca_model.specs.machine.Places.{TakesInOrder, completions_in, places_done, places_in_use}
use Rattle.ca_model.specs.machine.Requester.{local_denial, packet_row}
use Rattle.ca_model.specs.machine.Respond.{respond_row}
use Rattle.ca_model.specs.machine.Responses.{acknowledge_row, drop_effects, fitting_row, local_writes, response_psn, response_row, writes_by}
use Rattle.ca_model.specs.machine.Row.{Ending, NotPossible, Does, Effects, Row, plain_row, queue_and_marks}
use Rattle.ca_model.specs.machine.Timers.{after_timeout, after_wake}
use Rattle.ca_law_world.proofs.Sound.ArrivalLemmas.{flag-queue}
use Rattle.ca_law_world.proofs.Sound.ExpectedLemmas.{revoked-quiet, unheld-write, valid-goes}
use Rattle.ca_law_world.proofs.Sound.OrderLemmas.{flush-receives, places-behind}
use Rattle.ca_law_world.proofs.Sound.ResponseLemmas.{local-writes-quiet, retry-takes}
use Rattle.ca_law_world.proofs.Sound.WorldLemmas.{EndingDoes, RowDoes}
use Rattle.ca_law_world.proofs.Sound.RowWalks.{of-if, walk-arrival, walk-expected, walk-request, walk-response, walk-valid}

-- a row that ends in one way
plain-does : (E : Effects → Type 0) (e : Ending) → EndingDoes E e → RowDoes E (plain_row e)
plain-does E e does = record { denied = λ d. does; allowed = λ bytes refusal. does }

row-weaker : (E F : Effects → Type 0) (row : Row) → ((e : Effects) → E e → F e) → RowDoes E row → RowDoes F row
row-weaker E F row weaker does = record {
  denied = λ d. by (row.denied d) (does.denied d);
  allowed = λ bytes refusal. by (row.allowed bytes refusal) (does.allowed bytes refusal);
}
  where
    by : (e : Ending) → EndingDoes E e → EndingDoes F e
    by (NotPossible reason) does = record {}
    by (Does e) does = weaker e does

-- effects that take none take none out of order
pub none-takes : (shared : Option SharedReceives) (q : QueuePair) (e : Effects) → e.takes_shared ≡ false → TakesInOrder shared q e
none-takes shared q e none takes s is = absurd (true≢false (sym takes ∙ none))

plain-takes : (shared : Option SharedReceives) (q : QueuePair) (e : Effects) → e.takes_shared ≡ false → RowDoes (TakesInOrder shared q) (plain_row (Does e))
plain-takes shared q e none = plain-does (TakesInOrder shared q) (Does e) (none-takes shared q e none)

-- a requester's packet takes no shared receive
pub packet-takes : (q : QueuePair) (room : Bool) (n : Numbered) → RowDoes (λ e. e.takes_shared ≡ false) (packet_row q room n)
packet-takes q room n = search rules

-- nor does a responder's turn
pub respond-takes : (room : Bool) (q : QueuePair) → RowDoes (λ e. e.takes_shared ≡ false) (respond_row room q)
respond-takes room q = search rules

-- nor do timers and wakes
pub timeout-takes : (silent : Bool) (q : QueuePair) → (after_timeout silent q).takes_shared ≡ false
timeout-takes silent q = retry-takes q.requester.una (with_requester (record q.requester { timers = suc q.requester.timers }) q)

pub wake-takes : (q : QueuePair) → (after_wake q).takes_shared ≡ false
wake-takes q = refl

-- nor do local operations
pub operation-takes : (q : QueuePair) (n : Numbered) (after : QueuePair) (m : LocalMarks) (refusal : Option OpRefusal) → (operation_effects q n after m refusal).takes_shared ≡ false
operation-takes q n after m (Some cause) = refl
operation-takes q n after m None = refl

pub invalidate-takes : (q : QueuePair) (n : Numbered) (key : Key) → RowDoes (λ e. e.takes_shared ≡ false) (invalidate_row q n key)
invalidate-takes q n key = search (rules, operation-takes)

acknowledged-takes : (psn : ℕ) (q : QueuePair) → (acknowledgement_below psn q).effects.takes_shared ≡ false
acknowledged-takes psn q = grind (arith, retry-takes)

acknowledge-takes : (psn : ℕ) (syndrome : Option Syndrome) (q : QueuePair) → (acknowledge_row psn syndrome q).takes_shared ≡ false
acknowledge-takes psn syndrome q = grind (arith, acknowledged-takes, retry-takes)

fitting-takes : (psn : ℕ) (p : Fields) (a : Acknowledgement) → a.effects.takes_shared ≡ false → RowDoes (λ e. e.takes_shared ≡ false) (fitting_row psn p a)
fitting-takes psn p a after = search rules

-- nor do responses
pub response-takes : (p : Fields) (q : QueuePair) → RowDoes (λ e. e.takes_shared ≡ false) (response_row p q)
response-takes p q = walk-response (RowDoes (λ e. e.takes_shared ≡ false)) p q (λ cause. search rules)
    (λ sends there. (plain-does (λ e. e.takes_shared ≡ false) _ (acknowledge-takes (response_psn q p) _ q), fitting-takes (response_psn q p) p (acknowledgement_below (response_psn q p) q) (acknowledged-takes (response_psn q p) q)))

-- nor do packets ahead and duplicates
ahead-takes : (q : QueuePair) → (ahead_effects q).takes_shared ≡ false
ahead-takes q = grind arith

duplicate-takes : (psn : ℕ) (p : Fields) (envelope : Option ℕ) (shape : Shape) (q : QueuePair) → (duplicate_effects psn p envelope shape q).takes_shared ≡ false
duplicate-takes psn p envelope shape q = grind arith

-- effects that end with this receive alone: it completes, or the message holds it
abbrev EndsWith : QueuePair → PlacedReceive → Effects → Type 0
EndsWith q r e = q.receives ≡ None → places_done true e.marks ++ places_in_use e.queue.responder.message ≡ r.place ∷ []

-- a queue pair that takes from a shared receive queue takes the first one there
first-taken : (q : QueuePair) (shared : Option SharedReceives) (s : SharedReceives) (r : PlacedReceive) → has_shared q ≡ true → next_receive q shared ≡ Some r → shared ≡ Some s
    → option_map_or (λ r. r.place ∷ []) (first_receive s) [] ≡ r.place ∷ []
first-taken q shared s r has next is = ap (λ o. option_map_or (λ (r : PlacedReceive). r.place ∷ []) o []) (by q.srq has next)
  where
    own : WorkQueue RecvRequest → Option PlacedReceive
    own r = option_map (λ x. record { place = r.next_taken; receive = x }) (item_at r.next_taken r)

    from : Option ℕ → Option PlacedReceive
    from (Some srq) = option_and_then first_receive shared
    from None = option_and_then own q.receives

    by : (o : Option ℕ) → option_map_or (λ srq. true) o false ≡ true → from o ≡ Some r → first_receive s ≡ Some r
    by None has next = absurd (true≢false (sym has))
    by (Some srq) has next = sym (ap (option_and_then first_receive) is) ∙ next

-- a queue pair that takes from a shared receive queue has no receives of its own
shared-none : (q : QueuePair) → IsQueue q → has_shared q ≡ true → q.receives ≡ None
shared-none q s has = by q.receives q.srq s.source has
  where
    by : (a : Option (WorkQueue RecvRequest)) (o : Option ℕ) → is_some a ≡ is_none o → option_map_or (λ srq. true) o false ≡ true → a ≡ None
    by a None source has = absurd (true≢false (sym has))
    by None (Some srq) source has = refl
    by (Some r) (Some srq) source has = absurd (true≢false source)

-- the next receive is taken in order, where nothing was in use
taken-first : (q : QueuePair) (shared : Option SharedReceives) (r : PlacedReceive) (e : Effects) → IsQueue q → next_receive q shared ≡ Some r
    → receive_in_use q.responder.message ≡ None → EndsWith q r e → TakesInOrder shared q (with_shared_receive q e)
taken-first q shared r e s next unheld ending has t is = ending (shared-none q s has) ∙ sym (first-taken q shared t r has next is)
    ∙ ap (λ u. option_map_or (λ place. place ∷ []) u [] ++ option_map_or (λ r. r.place ∷ []) (first_receive t) []) (sym unheld)

failure-ends : (q : QueuePair) (r : PlacedReceive) (status : WcStatus) (cause : Option OpRefusal) (code : NakCode) → EndsWith q r (receive_failure_effects q r status cause code)
failure-ends q r status cause code none = ap (λ xs. r.place ∷ (xs ++ [])) (flush-receives (with_message None q) ∙ ap (λ o. places_done true (own o)) none)
  where
    own : Option (WorkQueue RecvRequest) → List Mark
    own o = option_map_or (λ r. flushed_receives q.queue r.next_taken (items_from r.next_taken r)) o []

send-packet-ends : (q : QueuePair) (p : Fields) (position : Position) (r : Receiving) → EndsWith q r.receive (after_send_packet q p position r)
send-packet-ends q p position r none = grind (arith, none)

send-packet-takes : (q : QueuePair) (p : Fields) (position : Position) (r : Receiving) → (after_send_packet q p position r).takes_shared ≡ false
send-packet-takes q p position r = grind arith

-- so they do with other marks before
ends-behind : (q : QueuePair) (r : PlacedReceive) (ms : List Mark) (e : Effects) → completions_in ms ≡ [] → EndsWith q r e → EndsWith q r (behind_marks ms e)
ends-behind q r ms e quiet ending none = ap (λ xs. xs ++ places_in_use e.queue.responder.message) (places-behind true ms e.marks quiet) ∙ ending none

-- A SEND packet with its receive; `before` is the queue pair, and `q` is it without the receive that the message takes.
send-does : (before : QueuePair) (p : Fields) (position : Position) (r : Receiving) (q : QueuePair) (E : Effects → Type 0)
    → (if r.taken then with_receive_taken before else before) ≡ q
    → ((e : Effects) → e.takes_shared ≡ false → EndsWith q r.receive e → E (if r.taken then with_shared_receive q e else e)) → RowDoes E (send_row before p position r)
send-does before p position r q E is more =
    subst (λ x. RowDoes E (row x)) (sym is) (too_long (nat_lt (list_length r.receive.receive.list.items) (r.before + length p.payload)))
  where
    took : QueuePair → Effects → Effects
    took q e = if r.taken then with_shared_receive q e else e

    writes : QueuePair → List (Ask × List ℕ)
    writes q = writes_by (receive_asks q p r) p.payload

    by : QueuePair → Option OpRefusal → Effects
    by q (Some cause) = receive_failure_effects q r.receive MemoryManagement (Some cause) RemoteOperationalError
    by q None = behind_marks (revoked_marks q (invalidation_of q p)) (after_send_packet (with_window_gone (invalidation_of q p) q) p position r)

    row_of : QueuePair → Bool → Row
    row_of q b =
        if b then plain_row (Does (took q (receive_failure_effects q r.receive LocalLength None InvalidRequest)))
        else record {
          asks = receive_asks q p r;
          invalidation = invalidation_of q p;
          denied = λ d. Does (took q (behind_marks (local_denial d ∷ []) (receive_failure_effects q r.receive LocalProtection None RemoteOperationalError)));
          allowed = λ bytes refusal. Does (took q (record (behind_marks (local_writes (writes q)) (by q refusal)) { writes = writes q }));
        }

    row : QueuePair → Row
    row q = row_of q (nat_lt (list_length r.receive.receive.list.items) (r.before + length p.payload))

    sent : QueuePair
    sent = with_window_gone (invalidation_of q p) q

    refused : (refusal : Option OpRefusal) → (by q refusal).takes_shared ≡ false
    refused (Some cause) = refl
    refused None = send-packet-takes sent p position r

    ending : (refusal : Option OpRefusal) → EndsWith q r.receive (by q refusal)
    ending (Some cause) = failure-ends q r.receive MemoryManagement (Some cause) RemoteOperationalError
    ending None = ends-behind q r.receive (revoked_marks q (invalidation_of q p)) (after_send_packet sent p position r) (revoked-quiet q (invalidation_of q p))
        (send-packet-ends sent p position r)

    too_long : (b : Bool) → RowDoes E (row_of q b)
    too_long true = plain-does E _ (more (receive_failure_effects q r.receive LocalLength None InvalidRequest) refl (failure-ends q r.receive LocalLength None InvalidRequest))
    too_long false = record {
      denied = λ d. more (behind_marks (local_denial d ∷ []) (receive_failure_effects q r.receive LocalProtection None RemoteOperationalError)) refl
          (failure-ends q r.receive LocalProtection None RemoteOperationalError);
      allowed = λ bytes refusal. more (record (behind_marks (local_writes (writes q)) (by q refusal)) { writes = writes q }) (refused refusal)
          (ends-behind q r.receive (local_writes (writes q)) (by q refusal) (local-writes-quiet (writes q)) (ending refusal));
    }

write-takes : (q : QueuePair) (shared : Option SharedReceives) (p : Fields) (envelope : Option ℕ) (position : Position) (next : Option PlacedReceive) (r : WriteReach)
    → IsQueue q → next_receive q shared ≡ next → receive_in_use q.responder.message ≡ None → RowDoes (TakesInOrder shared q) (write_row q p envelope position next r)
write-takes q shared p envelope position next r s is unheld = record {
  denied = λ d takes s is. absurd (true≢false (sym takes));
  allowed = λ bytes refusal. of-if (TakesInOrder shared q) (by p.imm next) going (ends position) (λ e. takes p.imm next is) (λ e. none-takes shared q going refl);
}
  where
    done : QueuePair → QueuePair
    done q = with_message None (queue_after_packet p 1 true true q)

    completed : ℕ → PlacedReceive → Effects
    completed imm receive = queue_and_marks (done (with_receive_taken q))
        (receive_mark q.queue receive.place receive.receive Success operations.RecvImm r.whole (Some imm) None ∷ [])

    by : Option ℕ → Option PlacedReceive → Effects
    by (Some imm) (Some receive) = with_shared_receive q (completed imm receive)
    by imm next = queue_and_marks (done q) []

    going : Effects
    going = queue_and_marks (with_message (Some (message_left r (length p.payload))) (queue_after_packet p 1 false true q)) []

    takes : (imm : Option ℕ) (o : Option PlacedReceive) → next_receive q shared ≡ o → TakesInOrder shared q (by imm o)
    takes (Some imm) (Some receive) e = taken-first q shared receive (completed imm receive) s e unheld (λ none. refl)
    takes (Some imm) None e = none-takes shared q (queue_and_marks (done q) []) refl
    takes None o e = none-takes shared q (queue_and_marks (done q) []) refl

refused-takes : (shared : Option SharedReceives) (q : QueuePair) (code : NakCode) → RowDoes (TakesInOrder shared q) (plain_row (Does (refusal_effects code q)))
refused-takes shared q code = plain-takes shared q (refusal_effects code q) refl

valid-takes : (q : QueuePair) (shared : Option SharedReceives) (p : Fields) (envelope : Option ℕ) (next : Option PlacedReceive) (shape : Shape) → IsQueue q
    → next_receive q shared ≡ next → continues q.responder.message shape ≡ true → RowDoes (TakesInOrder shared q) (valid_row q p envelope next shape)
valid-takes q shared p envelope next shape s next-is goes = walk-valid (RowDoes (TakesInOrder shared q)) q p envelope next shape (refused-takes shared q InvalidRequest)
    (λ place r is unheld. send-does q p place (record { receive = r; before = 0; taken = true }) (with_receive_taken q) (TakesInOrder shared q) refl
    (λ e none ending. taken-first q shared r e s (next-is ∙ is) unheld (λ absent. ending (ap (option_map after_take) absent))))
    (λ place at receive bytes is. send-does q p place (record { receive = record { place = at; receive = receive }; before = bytes; taken = false }) q (TakesInOrder shared q) refl
    (λ e none ending. none-takes shared q e none))
    (λ place r shape-is is. write-takes q shared p envelope place next r s next-is (unheld-write q.responder.message place (subst (λ x. continues q.responder.message x ≡ true) shape-is goes)))
    (λ h is. plain-takes shared q (read_queued q p envelope h) refl)
    (λ kind a. record { denied = λ d takes s is. absurd (true≢false (sym takes)); allowed = λ bytes refusal takes s is. absurd (true≢false (sym takes)) })

expected-takes : (before : QueuePair) (shared : Option SharedReceives) (p : Fields) (envelope : Option ℕ) (shape : Shape) → IsQueue before
    → RowDoes (TakesInOrder shared before) (expected_row before shared p envelope shape)
expected-takes before shared p envelope shape sound = walk-expected (RowDoes (TakesInOrder shared q)) before shared p envelope shape (refused-takes shared q InvalidRequest)
    (plain-takes shared q (rnr_effects q) refl)
    (λ e. valid-takes q shared p envelope (next_receive q shared) shape (flag-queue false before sound) refl (valid-goes q p shape e))
  where
    q : QueuePair
    q = with_flag false before

request-takes : (p : Fields) (envelope : Option ℕ) (shared : Option SharedReceives) (shape : Shape) (q : QueuePair) → IsQueue q
    → RowDoes (TakesInOrder shared q) (request_row p envelope shared shape q)
request-takes p envelope shared shape q s = walk-request (RowDoes (TakesInOrder shared q)) p envelope shared shape q (plain-takes shared q (ahead_effects q) (ahead-takes q))
    (λ psn e. plain-takes shared q (duplicate_effects psn p envelope shape q) (duplicate-takes psn p envelope shape q)) (expected-takes q shared p envelope shape s)

-- what a packet that arrives takes from a shared receive queue, it completes or holds
pub arrival-takes : (bytes : List ℕ) (envelope : Option ℕ) (shared : Option SharedReceives) (q : QueuePair) → IsQueue q
    → RowDoes (TakesInOrder shared q) (arrival_row bytes envelope shared q)
arrival-takes bytes envelope shared q s = walk-arrival (RowDoes (TakesInOrder shared q)) bytes envelope shared q (λ cause. plain-takes shared q (drop_effects q cause) refl)
    (λ p none. row-weaker (λ e. e.takes_shared ≡ false) (TakesInOrder shared q) (response_row p q) (λ e none. none-takes shared q e none) (response-takes p q))
    (λ p shape none. request-takes p envelope shared shape q s)
