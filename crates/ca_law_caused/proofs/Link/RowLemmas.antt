-- Which NAKs the rows of a queue pair queue, and what the marks of the event tell of it then. For proofs only.
use Rattle.std.proofs.Common.{◌≡◌, ℕ, inl, inr, ◌+◌, ◌-◌, ◌==◌, ◌&&◌, ◌++◌, Bool, true, false, nat_le, nat_lt, if◌then◌else◌, length, List, [], ◌∷◌, Option, None, Some, is_none, Result, Ok, Err, refl, ap, sym, subst, ◌∙◌}
use Rattle.std.specs.List.{AllByRecursion, list_all, list_any}
use Rattle.std.specs.Option.{option_map, option_map_or}
use Rattle.ca_law_carried.proofs.Accesses.QuietLemmas.{all-filter, all-more}
use Rattle.ca_law_keys.proofs.Posts.GrantLemmas.{both-true}
use Rattle.ca_base.specs.declared.completion.WcOp.TheVariants as operations
use Rattle.ca_base.specs.declared.completion.WcStatus.TheVariants.{LocalLength, LocalProtection, MemoryManagement, Success}
use Rattle.ca_base.specs.declared.denied_ask.DeniedAsk.{DeniedAsk}
use Rattle.ca_base.specs.declared.limits.TheConstants.{MAX_DUPLICATES}
use Rattle.ca_base.specs.declared.queue_numbers.Message.TheVariants as messages
use Rattle.ca_base.specs.declared.queue_numbers.Queued.{Queued}
use Rattle.ca_base.specs.declared.queue_numbers.Queued.TheVariants as queued
use Rattle.ca_base.specs.declared.queue_numbers.ResponderNumbers.{ResponderNumbers}
use Rattle.ca_base.specs.declared.refusals.OpRefusal.{OpRefusal}
use Rattle.ca_base.specs.declared.request.PlacedReceive.{PlacedReceive}
use Rattle.ca_base.specs.objects.Answers.{answers_before, duplicate_count, is_ack, psn_of_answer, with_ack_at_end}
use Rattle.ca_base.specs.objects.QueuePair.{QueuePair}
use Rattle.ca_base.specs.objects.Saved.{saved_at}
use Rattle.ca_base.specs.objects.SharedReceives.{SharedReceives}
use Rattle.ca_law_caused.proofs.Caused.StoryLemmas.{AreFlushes, flush-flushes}
use Rattle.ca_law_caused.proofs.Caused.SuchLemmas.{RowSuch}
use Rattle.ca_law_caused.proofs.Link.FaultLemmas.{TellFault, tell-behind}
use Rattle.ca_law_caused.specs.Refused.{HasReason}
use Rattle.ca_keys.specs.Equal.{queue_eq}
use Rattle.ca_keys.specs.Refusals.{first_of}
use Rattle.ca_keys.specs.declared.access.Ask.{Ask}
use Rattle.ca_keys.specs.declared.access.Kind.{Kind}
use Rattle.ca_keys.specs.declared.access.Kind.TheVariants as kinds
use Rattle.ca_keys.specs.declared.verdict.Verdict.TheVariants as verdicts
use Rattle.ca_law_world.proofs.Sound.SettledLemmas.{queue-path, queue-refl}
use Rattle.ca_law_world.proofs.Sound.WorldLemmas.{EndingDoes, RowDoes}
use Rattle.ca_model.specs.Caused.{makes_access_error, makes_invalid, makes_operational_error}
use Rattle.ca_model.specs.Packets.{is_response}
use Rattle.ca_model.specs.Past.{DeniedAccess, Fault, ReceiveFailed}
use Rattle.ca_model.specs.Requests.{list_length, segments}
use Rattle.ca_model.specs.declared.mark.Drop1.{Drop1}
use Rattle.ca_model.specs.declared.mark.Drop1.TheVariants as drops
use Rattle.ca_model.specs.declared.receiving.Receiving.{Receiving}
use Rattle.ca_model.specs.declared.write_reach.WriteReach.{WriteReach}
use Rattle.ca_model.specs.machine.Arrivals.{next_receive, packet_ask, refusal_effects, remote_mark, with_answer, with_flag, with_message, with_receive_taken}
use Rattle.ca_model.specs.machine.Completions.{receive_mark}
use Rattle.ca_model.specs.machine.Delivery.{arrival_drops, arrival_row, packet_arrived}
use Rattle.ca_model.specs.machine.Duplicates.{ack_again, ahead_effects, answer_again, atomic_again, duplicate_effects, read_again, request_row}
use Rattle.ca_model.specs.machine.Expected.{after_send_packet, atomic_row, behind_marks, expected_row, invalidation_of, is_invalid, message_left, queue_after_packet, read_queued, receive_asks, receive_failure_effects, receiving_of, revoked_marks, rnr_effects, send_row, takes_receive, valid_row, with_shared_receive, with_window_gone, write_reach, write_row}
use Rattle.ca_model.specs.machine.Requester.{local_denial}
use Rattle.ca_model.specs.machine.Responses.{drop_effects, local_writes, response_row, writes_by}
use Rattle.ca_model.specs.machine.Row.{Does, Effects, Ending, NotPossible, Row, plain_row, queue_and_marks}
use Rattle.ca_wire.specs.Decoding.{packet_in}
use Rattle.ca_wire.specs.Packet.{Fields}
use Rattle.ca_wire.specs.Shapes.{ends}
use Rattle.ca_wire.specs.Table.{shape_of}
use Rattle.ca_wire.specs.declared.atomic_eth.AtomicEth.{AtomicEth}
use Rattle.ca_wire.specs.declared.reth.Reth.{Reth}
use Rattle.ca_wire.specs.declared.shape.Position.{Position}
use Rattle.ca_wire.specs.declared.shape.Shape.{Shape}
use Rattle.ca_wire.specs.declared.shape.Shape.TheVariants as shapes
use Rattle.ca_wire.specs.declared.wire_error.WireError.{WireError}
use Rattle.ca_psn.specs.Psn.{widened}
use Rattle.ca_law_once.proofs.Rows.ForgetLemmas.{Forgets, response-forgets}
use Rattle.ca_law_once.specs.Moves.{EndingLeads, RowLeads}
use Rattle.ca_law_once.specs.Sides.{said}
use Rattle.ca_wire.specs.declared.syndrome.NakCode.TheVariants.{InvalidRequest, RemoteAccessError, RemoteOperationalError}
use Rattle.ca_wire.specs.Syndrome.{nak_code}

-- each answer that waits has its reason among these faults
abbrev pub All : List Fault → List Queued → Type 0
All fs xs = AllByRecursion (λ a. HasReason fs (said a)) xs

-- this fault is among them
abbrev pub IsOf : Fault → List Fault → Type 0
IsOf f fs = (test : Fault → Bool) → test f ≡ true → list_any test fs ≡ true

-- What an arrival makes of the answers that wait: no refusal more; the refusal of an invalid request, behind which there are
-- flushes alone; or one with a reason that a mark tells of.
pub data Answers (bytes : List ℕ) (q : QueuePair) (e : Effects) : Type 0 where
  leaves : ((fs : List Fault) → All fs q.responder.answers → All fs e.queue.responder.answers) → Answers bytes q e
  invalid : (p : Fields) → packet_in bytes ≡ Ok p → is_response p.opcode ≡ false → AreFlushes q.queue e.marks
      → ((fs : List Fault) → list_any makes_invalid fs ≡ true → All fs q.responder.answers → All fs e.queue.responder.answers) → Answers bytes q e
  tells : (f : Fault) → TellFault q.queue f e.marks → ((fs : List Fault) → IsOf f fs → All fs q.responder.answers → All fs e.queue.responder.answers) → Answers bytes q e

abbrev pub AnswersOf : List ℕ → QueuePair → Row → Type 0
AnswersOf bytes q row = RowSuch (Answers bytes q) row

-- ---- rows

pub plainly : (E : Effects → Type 0) (e : Effects) → E e → RowSuch E (plain_row (Does e))
plainly E e does = record { denied = λ d among. does; allowed = λ bytes refusal named. does }

pub such-cond : (E : Effects → Type 0) (b : Bool) (r s : Row) → RowSuch E r → RowSuch E s → RowSuch E (if b then r else s)
such-cond E true r s one other = one
such-cond E false r s one other = other

pub such-leads : (E F : Effects → Type 0) (row : Row) → ((e : Effects) → E e → F e) → RowLeads E row → RowSuch F row
such-leads E F row follows leads = record { denied = λ d among. by (row.denied d) (leads.denied d); allowed = λ bytes refusal named. by (row.allowed bytes refusal) (leads.allowed bytes refusal) }
  where
    by : (e : Ending) → EndingLeads E e → EndingDoes F e
    by (NotPossible reason) leads = record {}
    by (Does e) leads = follows e leads

pub such-weaker : (E F : Effects → Type 0) (row : Row) → ((e : Effects) → E e → F e) → RowSuch E row → RowSuch F row
such-weaker E F row follows such = record { denied = λ d among. by (row.denied d) (such.denied d among); allowed = λ bytes refusal named. by (row.allowed bytes refusal) (such.allowed bytes refusal named) }
  where
    by : (e : Ending) → EndingDoes E e → EndingDoes F e
    by (NotPossible reason) does = record {}
    by (Does e) does = follows e does

pub such-and : (E F : Effects → Type 0) (row : Row) → RowSuch E row → RowDoes F row → RowSuch (λ e. E e × F e) row
such-and E F row such does = record { denied = λ d among. by (row.denied d) (such.denied d among) (does.denied d); allowed = λ bytes refusal named. by (row.allowed bytes refusal) (such.allowed bytes refusal named) (does.allowed bytes refusal) }
  where
    by : (e : Ending) → EndingDoes E e → EndingDoes F e → EndingDoes (λ e. E e × F e) e
    by (NotPossible reason) one other = record {}
    by (Does e) one other = (one, other)

-- the same of a queue pair with the same answers
answers-as : (bytes : List ℕ) (q t : QueuePair) (e : Effects) → t.queue ≡ q.queue → t.responder.answers ≡ q.responder.answers → Answers bytes t e → Answers bytes q e
answers-as bytes q t e name same (leaves does) = leaves (λ fs all. does fs (subst (All fs) (sym same) all))
answers-as bytes q t e name same (invalid p is request flushes does) = invalid p is request (subst (λ n. AreFlushes n e.marks) name flushes) (λ fs made all. does fs made (subst (All fs) (sym same) all))
answers-as bytes q t e name same (tells f told does) = tells f (subst (λ n. TellFault n f e.marks) name told) (λ fs of all. does fs of (subst (All fs) (sym same) all))

-- the same with a receive taken from a shared queue
shared-answers : (bytes : List ℕ) (q t : QueuePair) (b : Bool) (e : Effects) → Answers bytes q e → Answers bytes q (if b then with_shared_receive t e else e)
shared-answers bytes q t true e (leaves does) = leaves does
shared-answers bytes q t true e (invalid p is request flushes does) = invalid p is request flushes does
shared-answers bytes q t true e (tells f told does) = tells f told does
shared-answers bytes q t false e does = does

-- no answer is there but what was
pub same-answers : (bytes : List ℕ) (q : QueuePair) (e : Effects) → e.queue.responder.answers ≡ q.responder.answers → Answers bytes q e
same-answers bytes q e same = leaves (λ fs all. subst (All fs) (sym same) all)

dropped : (bytes : List ℕ) (q : QueuePair) (cause : Drop1) → Answers bytes q (drop_effects q cause)
dropped bytes q cause = same-answers bytes q (drop_effects q cause) refl

-- one answer more that is no refusal
more-answers : (bytes : List ℕ) (q : QueuePair) (e : Effects) (a : Queued) → ((fs : List Fault) → HasReason fs (said a)) → e.queue.responder.answers ≡ q.responder.answers ++ (a ∷ []) → Answers bytes q e
more-answers bytes q e a none is = leaves (λ fs all. subst (All fs) (sym is) (all-more (λ a. HasReason fs (said a)) q.responder.answers a all (none fs)))

refused : (bytes : List ℕ) (p : Fields) (q : QueuePair) → packet_in bytes ≡ Ok p → is_response p.opcode ≡ false → Answers bytes q (refusal_effects InvalidRequest q)
refused bytes p q is request = invalid p is request (flush-flushes q) (λ fs made all. all-more (λ a. HasReason fs (said a)) q.responder.answers (queued.Nak q.responder.expected (nak_code InvalidRequest)) all made)

-- an ACK at the end
ack-all : (fs : List Fault) (psn : ℕ) (xs : List Queued) → All fs xs → All fs (with_ack_at_end psn xs)
ack-all fs psn [] all = (record {}, record {})
ack-all fs psn (a ∷ []) all = by (is_ack a)
  where
    by : (b : Bool) → All fs (if b then queued.Ack psn ∷ [] else a ∷ queued.Ack psn ∷ [])
    by true = (record {}, record {})
    by false = (all.0, (record {}, record {}))
ack-all fs psn (a ∷ b ∷ xs) all = (all.0, ack-all fs psn (b ∷ xs) all.1)

accepted-all : (fs : List Fault) (p : Fields) (count : ℕ) (at_end : Bool) (q : QueuePair) → All fs q.responder.answers → All fs (queue_after_packet p count at_end true q).responder.answers
accepted-all fs p count at_end q all = by p.ack
  where
    by : (b : Bool) → All fs (if b then with_ack_at_end q.responder.expected q.responder.answers else q.responder.answers)
    by true = ack-all fs q.responder.expected q.responder.answers all
    by false = all

-- ---- packets ahead, and duplicates

ahead-answers : (bytes : List ℕ) (q : QueuePair) → Answers bytes q (ahead_effects q)
ahead-answers bytes q = by q.responder.nak_sent
  where
    by : (b : Bool) → Answers bytes q (if b then drop_effects q drops.Stale else queue_and_marks (with_flag true (with_answer (queued.Nak q.responder.expected 0) q)) [])
    by true = dropped bytes q drops.Stale
    by false = more-answers bytes q _ (queued.Nak q.responder.expected 0) (λ fs. record {}) refl

again-answers : (bytes : List ℕ) (psn : ℕ) (a : Queued) (q : QueuePair) → ((fs : List Fault) → HasReason fs (said a)) → Answers bytes q (answer_again psn a q)
again-answers bytes psn a q none = leaves (λ fs all. all-more (λ a. HasReason fs (said a)) (answers_before psn q.responder.answers) a (all-filter (λ a. HasReason fs (said a)) (λ a. nat_lt (psn_of_answer a) psn) q.responder.answers all) (none fs))

duplicate-answers : (bytes : List ℕ) (psn : ℕ) (p : Fields) (envelope : Option ℕ) (shape : Shape) (q : QueuePair) → Answers bytes q (duplicate_effects psn p envelope shape q)
duplicate-answers bytes psn p envelope shape q = at (nat_le MAX_DUPLICATES (duplicate_count q.responder.answers))
  where
    ack : (b : Bool) → Answers bytes q (if b then queue_and_marks (with_answer (queued.Ack (q.responder.expected - 1)) q) [] else drop_effects q drops.Unsaved)
    ack true = more-answers bytes q _ (queued.Ack (q.responder.expected - 1)) (λ fs. record {}) refl
    ack false = dropped bytes q drops.Unsaved

    within : (h : Reth) (b : Bool) → Answers bytes q (if b then answer_again psn (queued.Read psn h.key h.address h.length true envelope true) q else drop_effects q drops.Unsaved)
    within h true = again-answers bytes psn (queued.Read psn h.key h.address h.length true envelope true) q (λ fs. record {})
    within h false = dropped bytes q drops.Unsaved

    read : (o : Option Reth) → Answers bytes q (option_map_or (λ h. read_again psn envelope h q) o (drop_effects q drops.Unsaved))
    read None = dropped bytes q drops.Unsaved
    read (Some h) = within h (nat_le (psn + segments q.responder.mtu h.length) q.responder.expected)

    atomic : (o : Option ℕ) → Answers bytes q (atomic_again psn o q)
    atomic None = dropped bytes q drops.Unsaved
    atomic (Some found) = again-answers bytes psn (queued.Atomic psn found true) q (λ fs. record {})

    effects : Shape → Effects
    effects (shapes.Send position) = ack_again q
    effects (shapes.Write position) = ack_again q
    effects shapes.Read = option_map_or (λ h. read_again psn envelope h q) p.reth (drop_effects q drops.Unsaved)
    effects (shapes.Atomic kind) = atomic_again psn (saved_at psn q.saved) q

    by : (s : Shape) → Answers bytes q (effects s)
    by (shapes.Send position) = ack (length q.responder.answers == 0)
    by (shapes.Write position) = ack (length q.responder.answers == 0)
    by shapes.Read = read p.reth
    by (shapes.Atomic kind) = atomic (saved_at psn q.saved)

    at : (b : Bool) → Answers bytes q (if b then drop_effects q drops.Unsaved else effects shape)
    at true = dropped bytes q drops.Unsaved
    at false = by shape

-- ---- SENDs

send-answers : (bytes : List ℕ) (before : QueuePair) (p : Fields) (place : Position) (r : Receiving) → AnswersOf bytes before (send_row before p place r)
send-answers bytes before p place r = of r.taken
  where
    from : Bool → QueuePair
    from b = if b then with_receive_taken before else before

    took : Bool → Effects → Effects
    took b e = if b then with_shared_receive (from b) e else e

    end : QueuePair → Option OpRefusal → Effects
    end q (Some cause) = receive_failure_effects q r.receive MemoryManagement (Some cause) RemoteOperationalError
    end q None = behind_marks (revoked_marks q (invalidation_of q p)) (after_send_packet (with_window_gone (invalidation_of q p) q) p place r)

    writes : QueuePair → List (Ask × List ℕ)
    writes q = writes_by (receive_asks q p r) p.payload

    row_of : Bool → Bool → Row
    row_of b long =
        if long then plain_row (Does (took b (receive_failure_effects (from b) r.receive LocalLength None InvalidRequest)))
        else record {
          asks = receive_asks (from b) p r;
          invalidation = invalidation_of (from b) p;
          denied = λ d. Does (took b (behind_marks (local_denial d ∷ []) (receive_failure_effects (from b) r.receive LocalProtection None RemoteOperationalError)));
          allowed = λ bytes refusal. Does (took b (record (behind_marks (local_writes (writes (from b))) (end (from b) refusal)) { writes = writes (from b) }));
        }

    taken : (b : Bool) (e : Effects) → Answers bytes (from b) e → Answers bytes before (took b e)
    taken true e does = answers-as bytes before (with_receive_taken before) _ refl refl (shared-answers bytes (with_receive_taken before) (with_receive_taken before) true e does)
    taken false e does = does

    long-answers : (q : QueuePair) → Answers bytes q (receive_failure_effects q r.receive LocalLength None InvalidRequest)
    long-answers q = tells (ReceiveFailed LocalLength) (inl (refl, refl))
        (λ fs of all. all-more (λ a. HasReason fs (said a)) q.responder.answers (queued.Nak q.responder.expected (nak_code InvalidRequest)) all (of makes_invalid refl))

    denied-answers : (q : QueuePair) (d : DeniedAsk) → Answers bytes q (behind_marks (local_denial d ∷ []) (receive_failure_effects q r.receive LocalProtection None RemoteOperationalError))
    denied-answers q d = tells (ReceiveFailed LocalProtection) (inr (inl (refl, refl)))
        (λ fs of all. all-more (λ a. HasReason fs (said a)) q.responder.answers (queued.Nak q.responder.expected (nak_code RemoteOperationalError)) all (of makes_operational_error refl))

    placed : (q : QueuePair) (refusal : Option OpRefusal) → Answers bytes q (record (behind_marks (local_writes (writes q)) (end q refusal)) { writes = writes q })
    placed q (Some cause) = tells (ReceiveFailed MemoryManagement) (tell-behind q.queue (ReceiveFailed MemoryManagement) (local_writes (writes q)) _ (inl (refl, refl)))
        (λ fs of all. all-more (λ a. HasReason fs (said a)) q.responder.answers (queued.Nak q.responder.expected (nak_code RemoteOperationalError)) all (of makes_operational_error refl))
    placed q None = leaves (λ fs all. by fs all (ends place))
      where
        x : QueuePair
        x = with_window_gone (invalidation_of q p) q

        effects : Bool → Effects
        effects b = if b
            then queue_and_marks (with_message None (queue_after_packet p 1 true true x)) (receive_mark x.queue r.receive.place r.receive.receive Success operations.Recv (r.before + length p.payload) p.imm (option_map (λ key. record { 0 = key }) p.ieth) ∷ [])
            else queue_and_marks (with_message (Some (messages.Send r.receive.place r.receive.receive (r.before + length p.payload))) (queue_after_packet p 1 false true x)) []

        by : (fs : List Fault) → All fs q.responder.answers → (b : Bool) → All fs (effects b).queue.responder.answers
        by fs all true = accepted-all fs p 1 true x all
        by fs all false = accepted-all fs p 1 false x all

    by : (b long : Bool) → AnswersOf bytes before (row_of b long)
    by b true = plainly (Answers bytes before) _ (taken b _ (long-answers (from b)))
    by b false = record {
      denied = λ d among. taken b _ (denied-answers (from b) d);
      allowed = λ bytes refusal named. taken b _ (placed (from b) refusal);
    }

    of : (b : Bool) → AnswersOf bytes before (row_of b (nat_lt (list_length r.receive.receive.list.items) (r.before + length p.payload)))
    of b = by b (nat_lt (list_length r.receive.receive.list.items) (r.before + length p.payload))

-- ---- WRITEs and atomics

pub one-ask : (q : QueuePair) (b : Bool) (a : Ask) → a.queue ≡ q.queue → list_all (λ x. queue_eq x.queue q.queue) (if b then [] else a ∷ []) ≡ true
one-ask q true a own = refl
one-ask q false a own = both-true (queue_eq a.queue q.queue) true (ap (λ n. queue_eq n q.queue) own ∙ queue-refl q.queue) refl

access-denied : (bytes : List ℕ) (q : QueuePair) (envelope : Option ℕ) (d : DeniedAsk) → queue_eq d.ask.queue q.queue ≡ true
    → Answers bytes q (behind_marks (remote_mark d.ask envelope (verdicts.Denied d.denial) ∷ []) (refusal_effects RemoteAccessError q))
access-denied bytes q envelope d own = tells DeniedAccess (inl (queue-path d.ask.queue q.queue own, refl, refl))
    (λ fs of all. all-more (λ a. HasReason fs (said a)) q.responder.answers (queued.Nak q.responder.expected (nak_code RemoteAccessError)) all (of makes_access_error refl))

write-answers : (bytes : List ℕ) (q : QueuePair) (p : Fields) (envelope : Option ℕ) (place : Position) (next : Option PlacedReceive) (r : WriteReach) → AnswersOf bytes q (write_row q p envelope place next r)
write-answers bytes q p envelope place next r = record {
  denied = λ d among. access-denied bytes q envelope d (among (λ x. queue_eq x.queue q.queue) (one-ask q (r.left == 0) (packet_ask q r.key kinds.Write r.address r.left (length p.payload)) refl));
  allowed = λ read refusal named. leaves (λ fs all. by fs all (ends place));
}
  where
    done : QueuePair → QueuePair
    done q = with_message None (queue_after_packet p 1 true true q)

    at_end : Option ℕ → Option PlacedReceive → Effects
    at_end (Some imm) (Some receive) = with_shared_receive q (queue_and_marks (done (with_receive_taken q))
        (receive_mark q.queue receive.place receive.receive Success operations.RecvImm r.whole (Some imm) None ∷ []))
    at_end imm next = queue_and_marks (done q) []

    immediate : (fs : List Fault) → All fs q.responder.answers → (imm : Option ℕ) (next : Option PlacedReceive) → All fs (at_end imm next).queue.responder.answers
    immediate fs all (Some imm) (Some receive) = accepted-all fs p 1 true (with_receive_taken q) all
    immediate fs all (Some imm) None = accepted-all fs p 1 true q all
    immediate fs all None next = accepted-all fs p 1 true q all

    by : (fs : List Fault) → All fs q.responder.answers → (b : Bool)
        → All fs (if b then at_end p.imm next else queue_and_marks (with_message (Some (message_left r (length p.payload))) (queue_after_packet p 1 false true q)) []).queue.responder.answers
    by fs all true = immediate fs all p.imm next
    by fs all false = accepted-all fs p 1 false q all

atomic-answers : (bytes : List ℕ) (q : QueuePair) (p : Fields) (envelope : Option ℕ) (kind : Kind) (a : AtomicEth) → AnswersOf bytes q (atomic_row q p envelope kind a)
atomic-answers bytes q p envelope kind a = record {
  denied = λ d among. access-denied bytes q envelope d (among (λ x. queue_eq x.queue q.queue) (one-ask q false (packet_ask q a.key kind a.address 8 8) refl));
  allowed = λ read refusal named. leaves (λ fs all. all-more (λ a. HasReason fs (said a)) q.responder.answers _ all (record {}));
}

-- ---- requests

valid-answers : (bytes : List ℕ) (q : QueuePair) (p : Fields) (envelope : Option ℕ) (next : Option PlacedReceive) (shape : Shape) → packet_in bytes ≡ Ok p → is_response p.opcode ≡ false → AnswersOf bytes q (valid_row q p envelope next shape)
valid-answers bytes q p envelope next (shapes.Send place) is request = by (receiving_of q next q.responder.message)
  where
    row : Option Receiving → Row
    row (Some r) = send_row q p place r
    row None = plain_row (Does (refusal_effects InvalidRequest q))

    by : (r : Option Receiving) → AnswersOf bytes q (row r)
    by (Some r) = send-answers bytes q p place r
    by None = plainly (Answers bytes q) _ (refused bytes p q is request)
valid-answers bytes q p envelope next (shapes.Write place) is request = by (write_reach q p)
  where
    row : Option WriteReach → Row
    row (Some r) = write_row q p envelope place next r
    row None = plain_row (Does (refusal_effects InvalidRequest q))

    by : (r : Option WriteReach) → AnswersOf bytes q (row r)
    by (Some r) = write-answers bytes q p envelope place next r
    by None = plainly (Answers bytes q) _ (refused bytes p q is request)
valid-answers bytes q p envelope next shapes.Read is request = by p.reth
  where
    row : Option Reth → Row
    row (Some h) = plain_row (Does (read_queued q p envelope h))
    row None = plain_row (Does (refusal_effects InvalidRequest q))

    by : (h : Option Reth) → AnswersOf bytes q (row h)
    by (Some h) = plainly (Answers bytes q) _ (more-answers bytes q (read_queued q p envelope h) (queued.Read q.responder.expected h.key h.address h.length true envelope false) (λ fs. record {}) refl)
    by None = plainly (Answers bytes q) _ (refused bytes p q is request)
valid-answers bytes q p envelope next (shapes.Atomic kind) is request = by p.atomic
  where
    row : Option AtomicEth → Row
    row (Some a) = atomic_row q p envelope kind a
    row None = plain_row (Does (refusal_effects InvalidRequest q))

    by : (a : Option AtomicEth) → AnswersOf bytes q (row a)
    by (Some a) = atomic-answers bytes q p envelope kind a
    by None = plainly (Answers bytes q) _ (refused bytes p q is request)

request-answers : (bytes : List ℕ) (p : Fields) (envelope : Option ℕ) (shared : Option SharedReceives) (shape : Shape) (q : QueuePair) → packet_in bytes ≡ Ok p → is_response p.opcode ≡ false → AnswersOf bytes q (request_row p envelope shared shape q)
request-answers bytes p envelope shared shape q is request = such-cond E (nat_lt q.responder.expected w) _ _ (plainly E _ (ahead-answers bytes q))
    (such-cond E (nat_lt w q.responder.expected) _ _ (plainly E _ (duplicate-answers bytes w p envelope shape q))
    (such-weaker (Answers bytes f) E (expected_row q shared p envelope shape) (λ e does. answers-as bytes q f e refl refl does)
    (such-cond F (is_invalid f p shape) _ _ (plainly F _ (refused bytes p f is request))
    (such-cond F (takes_receive p shape && is_none (next_receive f shared)) _ _ (plainly F _ (more-answers bytes f (rnr_effects f) (queued.Rnr f.responder.expected) (λ fs. record {}) refl))
    (valid-answers bytes f p envelope (next_receive f shared) shape is request)))))
  where
    w : ℕ
    w = widened q.responder.expected p.psn

    f : QueuePair
    f = with_flag false q

    E : Effects → Type 0
    E = Answers bytes q

    F : Effects → Type 0
    F = Answers bytes f

-- ---- arrivals

forgets-answers : (bytes : List ℕ) (q : QueuePair) (e : Effects) → Forgets q e.queue → Answers bytes q e
forgets-answers bytes q e (Forgets.stays s) = same-answers bytes q e (ap (λ (r : ResponderNumbers). r.answers) s.responder)
forgets-answers bytes q e (Forgets.emptied expected none mtu saved state) = leaves (λ fs all. subst (All fs) (sym none) (record {}))

pub arrival-answers : (bytes : List ℕ) (envelope : Option ℕ) (shared : Option SharedReceives) (q : QueuePair) → AnswersOf bytes q (arrival_row bytes envelope shared q)
arrival-answers bytes envelope shared q = by (packet_in bytes) refl
  where
    E : Effects → Type 0
    E = Answers bytes q

    unless : Fields → Option Drop1 → Row
    unless p (Some cause) = plain_row (Does (drop_effects q cause))
    unless p None = packet_arrived p envelope shared q

    row : Result Fields WireError → Row
    row (Err error) = plain_row (Does (drop_effects q (drops.Wire error)))
    row (Ok p) = unless p (first_of (arrival_drops q p))

    shaped : Fields → Option Shape → Row
    shaped p (Some shape) = request_row p envelope shared shape q
    shaped p None = plain_row (Does (drop_effects q drops.State))

    requests : (p : Fields) → packet_in bytes ≡ Ok p → is_response p.opcode ≡ false → (s : Option Shape) → AnswersOf bytes q (shaped p s)
    requests p is request (Some shape) = request-answers bytes p envelope shared shape q is request
    requests p is request None = plainly E _ (dropped bytes q drops.State)

    arrived : (p : Fields) → packet_in bytes ≡ Ok p → (b : Bool) → is_response p.opcode ≡ b → AnswersOf bytes q (if b then response_row p q else shaped p (shape_of p.opcode))
    arrived p is true e = such-leads (λ e. Forgets q e.queue) E (response_row p q) (λ e does. forgets-answers bytes q e does) (response-forgets p q)
    arrived p is false e = requests p is e (shape_of p.opcode)

    of_packet : (p : Fields) → packet_in bytes ≡ Ok p → (o : Option Drop1) → AnswersOf bytes q (unless p o)
    of_packet p is (Some cause) = plainly E _ (dropped bytes q cause)
    of_packet p is None = arrived p is (is_response p.opcode) refl

    by : (r : Result Fields WireError) → packet_in bytes ≡ r → AnswersOf bytes q (row r)
    by (Err error) is = plainly E _ (dropped bytes q (drops.Wire error))
    by (Ok p) is = of_packet p is (first_of (arrival_drops q p))
