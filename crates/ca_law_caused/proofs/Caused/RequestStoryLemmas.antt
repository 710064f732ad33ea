-- The stories of requests that arrive, of turns and of timers. For proofs only.
use Rattle.std.proofs.Common.{◌≡◌, ℕ, suc, ◌+◌, ◌==◌, ◌&&◌, ◌<◌, Bool, true, false, not, nat_le, nat_lt, if◌then◌else◌, List, [], ◌∷◌, ◌++◌, length, Option, None, Some, is_none, is_some, Result, Ok, Err, slice_get, refl, ap, sym, subst, ◌∙◌, arith, true≢false}
use Rattle.std.proofs.lemmas.Bool.Decides.{nat_tests}
use Rattle.std.proofs.lemmas.Bool.{and_parts}
use Rattle.std.specs.Option.{option_map}
use Rattle.ca_base.specs.declared.completion.WcOp.TheVariants as operations
use Rattle.ca_base.specs.declared.completion.WcStatus.TheVariants.{LocalLength, LocalProtection, MemoryManagement, Success}
use Rattle.ca_law_caused.proofs.Caused.AskLemmas.{asked-by, is_by_list}
use Rattle.ca_law_caused.proofs.Caused.OldestLemmas.{IsUp}
use Rattle.ca_law_caused.proofs.Caused.ResponseStoryLemmas.{RowStory, StoryOf, OnwardOf, cond-row, cond-story, dropped, earlier, plain, response-story, retried, same-on, writes-calm}
use Rattle.ca_law_caused.proofs.Caused.KnownLemmas.{Arrives, Fires, IsListed, IsOn, Known, Occasion, Turns, is_fired, ops_of, progress_after}
use Rattle.ca_model.specs.Progress.{Progress, after_response_packet, with_retry}
use Rattle.ca_model.specs.machine.Invariants.{is_fresh, is_sending}
use Rattle.ca_model.specs.machine.Expected.{expected_row}
use Rattle.ca_model.specs.machine.Row.{Ending}
use Rattle.ca_law_caused.proofs.Caused.StoryLemmas.{AreCalm, Denying, Failing, GoesOn, Invalid, Refusing, Story, WhyReceive, calm-append, denials, denies, drops, fails, flush-flushes, goes, invalid, on, refuses}
use Rattle.ca_keys.specs.Equal.{queue_eq}
use Rattle.ca_law_world.proofs.Sound.SettledLemmas.{queue-path, queue-refl}
use Rattle.ca_law_keys.proofs.Posts.GrantLemmas.{both-true}
use Rattle.ca_base.specs.declared.queue_numbers.Message.TheVariants as messages
use Rattle.ca_keys.specs.declared.access.Kind.TheVariants as kinds
use Rattle.ca_keys.specs.declared.verdict.Verdict.TheVariants as verdicts
use Rattle.ca_model.specs.Requests.{list_of}
use Rattle.ca_model.specs.machine.Arrivals.{packet_ask, remote_mark}
use Rattle.ca_model.specs.machine.Expected.{message_left}
use Rattle.ca_base.specs.declared.limits.TheConstants.{ATOMIC_BYTES}
use Rattle.ca_model.specs.machine.Respond.{response_ask}
use Rattle.std.specs.List.{flat_map}
use Rattle.std.specs.List.{list_all}
use Rattle.ca_keys.specs.declared.key.Key.{Key}
use Rattle.ca_law_world.proofs.Sound.WorldLemmas.{EndingDoes}
use Rattle.ca_law_keys.proofs.Licensed.ArrivalLemmas.{ieth-asks}
use Rattle.ca_model.specs.Packets.{asks_invalidate}
use Rattle.ca_model.specs.declared.mark.Drop1.TheVariants as drop_causes
use Rattle.std.specs.Option.{option_map_or}
use Rattle.ca_base.specs.declared.change.State.TheVariants as states
use Rattle.ca_base.specs.declared.completion.WcStatus.{WcStatus}
use Rattle.ca_base.specs.declared.denied_ask.DeniedAsk.{DeniedAsk}
use Rattle.ca_base.specs.declared.limits.TheConstants.{MAX_DUPLICATES}
use Rattle.ca_base.specs.declared.queue_numbers.Queued.{Queued}
use Rattle.ca_base.specs.declared.queue_numbers.Queued.TheVariants as queued
use Rattle.ca_base.specs.declared.refusals.OpRefusal.{OpRefusal}
use Rattle.ca_base.specs.declared.request.PlacedReceive.{PlacedReceive}
use Rattle.ca_base.specs.declared.step.Reason.{Reason}
use Rattle.ca_base.specs.declared.step.Reason.TheVariants as reasons
use Rattle.ca_base.specs.Sight.{Invalidation}
use Rattle.ca_base.specs.objects.Answers.{duplicate_count}
use Rattle.ca_base.specs.objects.QueuePair.{QueuePair}
use Rattle.ca_base.specs.objects.Saved.{saved_at}
use Rattle.ca_base.specs.objects.SharedReceives.{SharedReceives}
use Rattle.ca_base.specs.objects.StateTable.{is_among}
use Rattle.ca_keys.specs.Refusals.{first_of}
use Rattle.ca_keys.specs.declared.access.Ask.{Ask}
use Rattle.ca_keys.specs.declared.access.Kind.{Kind}
use Rattle.ca_keys.specs.declared.names.QueueId.{QueueId}
use Rattle.ca_model.specs.Requests.{list_length, segments}
use Rattle.ca_model.specs.declared.mark.Drop1.{Drop1}
use Rattle.ca_model.specs.declared.mark.Mark.{Mark}
use Rattle.ca_model.specs.declared.mark.Mark.TheVariants as marks
use Rattle.ca_model.specs.declared.read_left.ReadLeft.{ReadLeft}
use Rattle.ca_model.specs.declared.receiving.Receiving.{Receiving}
use Rattle.ca_model.specs.declared.write_reach.WriteReach.{WriteReach}
use Rattle.ca_model.specs.machine.Acknowledgements.{one_retry, with_requester}
use Rattle.ca_model.specs.machine.Arrivals.{next_receive, refusal_effects, with_flag, with_message, with_receive_taken}
use Rattle.ca_model.specs.machine.Completions.{flush_marks, receive_mark}
use Rattle.ca_model.specs.machine.Delivery.{arrival_drops, arrival_row, packet_arrived}
use Rattle.ca_model.specs.machine.Duplicates.{ack_again, ahead_effects, atomic_again, duplicate_effects, read_again, request_row}
use Rattle.ca_model.specs.machine.Expected.{after_send_packet, atomic_row, behind_marks, invalidation_of, is_invalid, queue_after_packet, read_queued, receive_asks, receive_failure_effects, receiving_of, revoked_marks, rnr_effects, send_row, takes_receive, valid_row, with_shared_receive, with_window_gone, write_reach, write_row}
use Rattle.ca_model.specs.machine.Numbering.{Numbered}
use Rattle.ca_model.specs.machine.Requester.{denied_list_effects, is_outstanding, is_too_much, local_denial, local_reads, packet_asks, packet_row, sent_packet}
use Rattle.ca_model.specs.machine.Respond.{answer_turn, is_last_response, respond_refusals, respond_row, rest_of, with_front, without_front}
use Rattle.ca_model.specs.machine.Responses.{drop_effects, local_writes, writes_by}
use Rattle.ca_model.specs.machine.Row.{Does, Effects, NotPossible, Row, plain_row, queue_and_marks}
use Rattle.ca_model.specs.machine.Timers.{after_wake}
use Rattle.ca_wire.specs.Decoding.{packet_in}
use Rattle.ca_wire.specs.Packet.{Fields}
use Rattle.ca_wire.specs.Shapes.{ends}
use Rattle.ca_wire.specs.Table.{shape_of}
use Rattle.ca_wire.specs.declared.atomic_eth.AtomicEth.{AtomicEth}
use Rattle.ca_wire.specs.declared.reth.Reth.{Reth}
use Rattle.ca_wire.specs.declared.shape.Position.{Position}
use Rattle.ca_wire.specs.declared.shape.Shape.{Shape}
use Rattle.ca_wire.specs.declared.shape.Shape.TheVariants as shapes
use Rattle.ca_wire.specs.declared.wire_error.WireError.{WireError}
use Rattle.ca_psn.specs.Psn.{widened}
use Rattle.ca_wire.specs.declared.syndrome.NakCode.{NakCode}
use Rattle.ca_wire.specs.declared.syndrome.NakCode.TheVariants.{InvalidRequest, RemoteOperationalError}
use Rattle.ca_model.specs.Packets.{is_response, is_send, is_send_at}

-- ---- marks

-- an occasion that leaves the progress of a queue pair
pub record IsQuiet (k : Known) (o : Occasion) (q : QueuePair) : Type 0 where
  pub arrives : is_fired o ≡ false
  pub now : progress_after k o ≡ k.before
  pub was : is_sending q.state ≡ true → IsOn k k.before q

-- the same of another one
quiet-as : (k : Known) (o : Occasion) (q f : QueuePair) → IsQuiet k o q → f.state ≡ q.state → f.responder.mtu ≡ q.responder.mtu → f.requester ≡ q.requester → IsQuiet k o f
quiet-as k o q f quiet state mtu requester = record { arrives = quiet.arrives; now = quiet.now; was = λ sending. (same-on k q f quiet.was state mtu requester).sends (ap is_sending (sym state) ∙ sending) }

going : (k : Known) (o : Occasion) (q p : QueuePair) (ms : List Mark) → IsQuiet k o q → AreCalm q.queue ms → p.state ≡ q.state → p.responder.mtu ≡ q.responder.mtu → p.requester ≡ q.requester → Story k o q p ms
going k o q p ms quiet calm state mtu requester = on (goes calm (subst (λ h. GoesOn k h q p) (sym quiet.now) (same-on k q p quiet.was state mtu requester)))

still : (k : Known) (o : Occasion) (q p : QueuePair) → IsQuiet k o q → p.state ≡ q.state → p.responder.mtu ≡ q.responder.mtu → p.requester ≡ q.requester → StoryOf k o q (queue_and_marks p [])
still k o q p quiet state mtu requester = going k o q p [] quiet (record {}) state mtu requester

refused : (k : Known) (packet : Fields) (code : NakCode) (q : QueuePair) → is_response packet.opcode ≡ false → StoryOf k (Arrives packet) q (refusal_effects code q)
refused k packet code q request = invalid refl (record { packet = packet; arrives = refl; request = request; flushes = flush-flushes q })

going-as : (k : Known) (g : Progress) (q f p : QueuePair) → f.state ≡ q.state → f.responder.mtu ≡ q.responder.mtu → f.requester ≡ q.requester → GoesOn k g f p → GoesOn k g q p
going-as k g q f p state mtu requester so = record {
  state = so.state ∙ state;
  mtu = so.mtu ∙ mtu;
  fresh = λ fresh. by (so.fresh (ap is_fresh state ∙ fresh));
  sends = λ sending. so.sends (ap is_sending state ∙ sending);
}
  where
    by : (p.requester.oldest ≡ f.requester.oldest) × (p.requester.rnrs ≡ f.requester.rnrs) → (p.requester.oldest ≡ q.requester.oldest) × (p.requester.rnrs ≡ q.requester.rnrs)
    by same = (same.0 ∙ ap (λ r. r.oldest) requester, same.1 ∙ ap (λ r. r.rnrs) requester)

-- the story of a queue pair in place of another, of which nothing is changed that it tells of
story-as : (k : Known) (o : Occasion) (q f p : QueuePair) (ms : List Mark) → f.queue ≡ q.queue → f.state ≡ q.state → f.responder.mtu ≡ q.responder.mtu → f.requester ≡ q.requester → Story k o f p ms → Story k o q p ms
story-as k o q f p ms name state mtu requester (on (goes calm so)) = on (goes (subst (λ n. AreCalm n ms) name calm) (going-as k _ q f p state mtu requester so))
story-as k o q f p ms name state mtu requester (on (fails error w)) = on (fails error (subst (λ n. Failing k o n ms) name w))
story-as k o q f p ms name state mtu requester (drops cause arrives told so) = drops cause arrives (told ∙ ap (λ n. marks.Dropped n cause ∷ []) name) (going-as k k.before q f p state mtu requester so)
story-as k o q f p ms name state mtu requester (refuses error w) = refuses error (subst (λ n. Refusing o n ms) name w)
story-as k o q f p ms name state mtu requester (denies error w) = denies error (subst (λ n. Denying n ms) name w)
story-as k o q f p ms name state mtu requester (invalid error w) = invalid error (subst (λ n. Invalid o n ms) name w)

-- ---- requests that are ahead, and duplicates

ahead-story : (k : Known) (o : Occasion) (q : QueuePair) → IsQuiet k o q → StoryOf k o q (ahead_effects q)
ahead-story k o q quiet = cond-story k o q q.responder.nak_sent _ _ (λ sent. dropped k o q drop_causes.Stale quiet.arrives quiet.was) (λ none. still k o q _ quiet refl refl refl)

duplicate-story : (k : Known) (o : Occasion) (psn : ℕ) (p : Fields) (envelope : Option ℕ) (shape : Shape) (q : QueuePair) → IsQuiet k o q → StoryOf k o q (duplicate_effects psn p envelope shape q)
duplicate-story k o psn p envelope shape q quiet = cond-story k o q (nat_le MAX_DUPLICATES (duplicate_count q.responder.answers)) _ _ (λ full. dropped k o q drop_causes.Unsaved quiet.arrives quiet.was) (λ few. by shape)
  where
    ack : StoryOf k o q (ack_again q)
    ack = cond-story k o q (length q.responder.answers == 0) _ _ (λ none. still k o q _ quiet refl refl refl) (λ some. dropped k o q drop_causes.Unsaved quiet.arrives quiet.was)

    read : (h : Reth) → StoryOf k o q (read_again psn envelope h q)
    read h = cond-story k o q (nat_le (psn + segments q.responder.mtu h.length) q.responder.expected) _ _ (λ whole. still k o q _ quiet refl refl refl) (λ none. dropped k o q drop_causes.Unsaved quiet.arrives quiet.was)

    of_reth : (h : Option Reth) → StoryOf k o q (option_map_or (λ h. read_again psn envelope h q) h (drop_effects q drop_causes.Unsaved))
    of_reth None = dropped k o q drop_causes.Unsaved quiet.arrives quiet.was
    of_reth (Some h) = read h

    atomic : (found : Option ℕ) → StoryOf k o q (atomic_again psn found q)
    atomic None = dropped k o q drop_causes.Unsaved quiet.arrives quiet.was
    atomic (Some found) = still k o q _ quiet refl refl refl

    effects : Shape → Effects
    effects (shapes.Send position) = ack_again q
    effects (shapes.Write position) = ack_again q
    effects shapes.Read = option_map_or (λ h. read_again psn envelope h q) p.reth (drop_effects q drop_causes.Unsaved)
    effects (shapes.Atomic kind) = atomic_again psn (saved_at psn q.saved) q

    by : (shape : Shape) → StoryOf k o q (effects shape)
    by (shapes.Send position) = ack
    by (shapes.Write position) = ack
    by shapes.Read = of_reth p.reth
    by (shapes.Atomic kind) = atomic (saved_at psn q.saved)

-- ---- SENDs

-- the packet's IETH is there by its opcode
abbrev pub HasIeth : Fields → Type 0
HasIeth p = (k : ℕ) → p.ieth ≡ Some k → asks_invalidate p.opcode ≡ true

receive-failed : (k : Known) (packet : Fields) (q : QueuePair) (r : PlacedReceive) (status : WcStatus) (cause : Option OpRefusal) (code : NakCode) (before : List Mark) (denial : Option DeniedAsk) → AreCalm q.queue before → WhyReceive packet q.queue denial cause status
    → Story k (Arrives packet) q (receive_failure_effects q r status cause code).queue (before ++ (denials denial ++ (receive_failure_effects q r status cause code).marks))
receive-failed k packet q r status cause code before denial calm why = refuses refl (record {
  before = before;
  denial = denial;
  packet = packet;
  completion = _;
  cause = cause;
  behind = flush_marks (with_message None q);
  calm = calm;
  arrives = refl;
  receive = refl;
  queue = refl;
  flushes = flush-flushes (with_message None q);
  why = why;
  told = refl;
})

revoked-calm : (name : QueueId) (q : QueuePair) (o : Option Invalidation) → AreCalm name (revoked_marks q o)
revoked-calm name q None = record {}
revoked-calm name q (Some i) = (record {}, record {})

send-story : (k : Known) (before : QueuePair) (p : Fields) (place : Position) (r : Receiving) → IsQuiet k (Arrives p) before → is_send p.opcode ≡ true → HasIeth p → RowStory k (Arrives p) before (send_row before p place r)
send-story k before p place r quiet sends asks = of r.taken
  where
    o : Occasion
    o = Arrives p

    from : Bool → QueuePair
    from b = if b then with_receive_taken before else before

    took : Bool → Effects → Effects
    took b e = if b then with_shared_receive (from b) e else e

    end : QueuePair → Option OpRefusal → Effects
    end q (Some cause) = receive_failure_effects q r.receive MemoryManagement (Some cause) RemoteOperationalError
    end q None = behind_marks (revoked_marks q (invalidation_of q p)) (after_send_packet (with_window_gone (invalidation_of q p) q) p place r)

    writes : QueuePair → List (Ask × List ℕ)
    writes q = writes_by (receive_asks q p r) p.payload

    row_of : Bool → Bool → Row
    row_of b long =
        if long then plain_row (Does (took b (receive_failure_effects (from b) r.receive LocalLength None InvalidRequest)))
        else record {
          asks = receive_asks (from b) p r;
          invalidation = invalidation_of (from b) p;
          denied = λ d. Does (took b (behind_marks (local_denial d ∷ []) (receive_failure_effects (from b) r.receive LocalProtection None RemoteOperationalError)));
          allowed = λ bytes refusal. Does (took b (record (behind_marks (local_writes (writes (from b))) (end (from b) refusal)) { writes = writes (from b) }));
        }

    taken : (b : Bool) (e : Effects) → StoryOf k o (from b) e → StoryOf k o before (took b e)
    taken true e does = story-as k o before (with_receive_taken before) e.queue e.marks refl refl refl refl does
    taken false e does = does

    named : (q : QueuePair) (cause : OpRefusal) → (invalidation_of q p ≡ None → Some cause ≡ None) → asks_invalidate p.opcode ≡ true
    named q cause none = by p.ieth refl none
      where
        by : (k : Option ℕ) → p.ieth ≡ k → (option_map {U = Invalidation} (λ key. record { queue = q.queue; domain = q.domain; key = record { 0 = key } }) k ≡ None → Some cause ≡ None) → asks_invalidate p.opcode ≡ true
        by None is none = absurd (true≢false (ap is_some (none refl)))
        by (Some k) is none = asks k is

    placed : (q : QueuePair) (refusal : Option OpRefusal) → IsQuiet k o q → (invalidation_of q p ≡ None → refusal ≡ None) → StoryOf k o q (record (behind_marks (local_writes (writes q)) (end q refusal)) { writes = writes q })
    placed q (Some cause) quiet none = receive-failed k p q r.receive MemoryManagement (Some cause) RemoteOperationalError (local_writes (writes q)) None (writes-calm q.queue (writes q)) (refl, named q cause none)
    placed q None quiet none = by (ends place)
      where
        x : QueuePair
        x = with_window_gone (invalidation_of q p) q

        effects : Bool → Effects
        effects b = if b
            then queue_and_marks (with_message None (queue_after_packet p 1 true true x)) (receive_mark x.queue r.receive.place r.receive.receive Success operations.Recv (r.before + length p.payload) p.imm (option_map {U = Key} (λ key. record { 0 = key }) p.ieth) ∷ [])
            else queue_and_marks (with_message (Some (messages.Send r.receive.place r.receive.receive (r.before + length p.payload))) (queue_after_packet p 1 false true x)) []

        by : (b : Bool) → Story k o q (effects b).queue (local_writes (writes q) ++ (revoked_marks q (invalidation_of q p) ++ (effects b).marks))
        by true = going k o q _ _ quiet (calm-append q.queue (local_writes (writes q)) _ (writes-calm q.queue (writes q)) (calm-append q.queue (revoked_marks q (invalidation_of q p)) _ (revoked-calm q.queue q (invalidation_of q p)) ((refl, refl), record {}))) refl refl refl
        by false = going k o q _ _ quiet (calm-append q.queue (local_writes (writes q)) _ (writes-calm q.queue (writes q)) (calm-append q.queue (revoked_marks q (invalidation_of q p)) [] (revoked-calm q.queue q (invalidation_of q p)) (record {}))) refl refl refl

    quiet-from : (b : Bool) → IsQuiet k o (from b)
    quiet-from true = quiet-as k o before (with_receive_taken before) quiet refl refl refl
    quiet-from false = quiet

    owned : (b : Bool) (d : DeniedAsk) → ((test : Ask → Bool) → list_all test (receive_asks (from b) p r) ≡ true → test d.ask ≡ true) → queue_eq d.ask.queue (from b).queue ≡ true
    owned b d among = (and_parts (queue_eq d.ask.queue (from b).queue) _ (among (is_by_list (from b).queue r.receive.receive.list.items) (asked-by (from b).queue (from b).domain kinds.Write r.before (length p.payload) r.receive.receive.list.items))).0

    by : (b long : Bool) → RowStory k o before (row_of b long)
    by b true = plain k o before _ (taken b _ (receive-failed k p (from b) r.receive LocalLength None InvalidRequest [] None (record {}) sends))
    by b false = record {
      denied = λ d among. taken b _ (receive-failed k p (from b) r.receive LocalProtection None RemoteOperationalError [] (Some d) (record {}) (owned b d among));
      allowed = λ bytes refusal named. taken b _ (placed (from b) refusal (quiet-from b) named);
    }

    of : (b : Bool) → RowStory k o before (row_of b (nat_lt (list_length r.receive.receive.list.items) (r.before + length p.payload)))
    of b = by b (nat_lt (list_length r.receive.receive.list.items) (r.before + length p.payload))

-- ---- WRITEs and atomics

-- an access that is denied, and all is flushed
access-denied : (k : Known) (o : Occasion) (p q : QueuePair) (envelope : Option ℕ) (d : DeniedAsk) → queue_eq d.ask.queue q.queue ≡ true
    → p.state ≡ states.Error → Story k o q p (remote_mark d.ask envelope (verdicts.Denied d.denial) ∷ flush_marks q)
access-denied k o p q envelope d own error = denies error (record {
  domain = d.ask.domain;
  envelope = envelope;
  key = d.ask.key;
  kind = d.ask.kind;
  address = d.ask.address;
  count = d.ask.length;
  denial = d.denial;
  behind = flush_marks q;
  flushes = flush-flushes q;
  told = ap (λ n. marks.Remote n d.ask.domain envelope d.ask.key d.ask.kind d.ask.address d.ask.length (verdicts.Denied d.denial) ∷ flush_marks q) (queue-path d.ask.queue q.queue own);
})

-- the one ask of a row, if it has bytes
one-ask : (q : QueuePair) (b : Bool) (a : Ask) → a.queue ≡ q.queue → list_all (λ x. queue_eq x.queue q.queue) (if b then [] else a ∷ []) ≡ true
one-ask q true a own = refl
one-ask q false a own = both-true (queue_eq a.queue q.queue) true (ap (λ n. queue_eq n q.queue) own ∙ queue-refl q.queue) refl

write-story : (k : Known) (q : QueuePair) (p : Fields) (envelope : Option ℕ) (place : Position) (next : Option PlacedReceive) (r : WriteReach) → IsQuiet k (Arrives p) q → RowStory k (Arrives p) q (write_row q p envelope place next r)
write-story k q p envelope place next r quiet = record {
  denied = λ d among. access-denied k (Arrives p) _ q envelope d (among (λ x. queue_eq x.queue q.queue) (one-ask q (r.left == 0) ask refl)) refl;
  allowed = λ bytes refusal named. wrote (ends place);
}
  where
    ask : Ask
    ask = packet_ask q r.key kinds.Write r.address r.left (length p.payload)

    done : QueuePair → QueuePair
    done q = with_message None (queue_after_packet p 1 true true q)

    by : Option ℕ → Option PlacedReceive → Effects
    by (Some imm) (Some receive) = with_shared_receive q (queue_and_marks (done (with_receive_taken q))
        (receive_mark q.queue receive.place receive.receive Success operations.RecvImm r.whole (Some imm) None ∷ []))
    by imm next = queue_and_marks (done q) []

    effects : Bool → Effects
    effects b = if b then by p.imm next else queue_and_marks (with_message (Some (message_left r (length p.payload))) (queue_after_packet p 1 false true q)) []

    immediate : (imm : Option ℕ) (next : Option PlacedReceive) → Story k (Arrives p) q (by imm next).queue (remote_mark ask envelope (verdicts.Wrote p.payload) ∷ (by imm next).marks)
    immediate (Some imm) (Some receive) = going k (Arrives p) q _ _ quiet (refl, ((refl, refl), record {})) refl refl refl
    immediate (Some imm) None = going k (Arrives p) q _ _ quiet (refl, record {}) refl refl refl
    immediate None next = going k (Arrives p) q _ _ quiet (refl, record {}) refl refl refl

    wrote : (b : Bool) → Story k (Arrives p) q (effects b).queue (remote_mark ask envelope (verdicts.Wrote p.payload) ∷ (effects b).marks)
    wrote true = immediate p.imm next
    wrote false = going k (Arrives p) q _ _ quiet (refl, record {}) refl refl refl

atomic-story : (k : Known) (q : QueuePair) (p : Fields) (envelope : Option ℕ) (kind : Kind) (a : AtomicEth) → IsQuiet k (Arrives p) q → RowStory k (Arrives p) q (atomic_row q p envelope kind a)
atomic-story k q p envelope kind a quiet = record {
  denied = λ d among. access-denied k (Arrives p) _ q envelope d (among (λ x. queue_eq x.queue q.queue) (one-ask q false (packet_ask q a.key kind a.address ATOMIC_BYTES ATOMIC_BYTES) refl)) refl;
  allowed = λ bytes refusal named. going k (Arrives p) q _ _ quiet (refl, record {}) refl refl refl;
}

-- ---- requests

valid-story : (k : Known) (q : QueuePair) (p : Fields) (envelope : Option ℕ) (next : Option PlacedReceive) (shape : Shape) → IsQuiet k (Arrives p) q → shape_of p.opcode ≡ Some shape → is_response p.opcode ≡ false → HasIeth p → RowStory k (Arrives p) q (valid_row q p envelope next shape)
valid-story k q p envelope next (shapes.Send place) quiet shaped request asks = by (receiving_of q next q.responder.message)
  where
    row : Option Receiving → Row
    row (Some r) = send_row q p place r
    row None = plain_row (Does (refusal_effects InvalidRequest q))

    by : (r : Option Receiving) → RowStory k (Arrives p) q (row r)
    by (Some r) = send-story k q p place r quiet (ap (is_send_at (λ place. true)) shaped) asks
    by None = plain k (Arrives p) q _ (refused k p InvalidRequest q request)
valid-story k q p envelope next (shapes.Write place) quiet shaped request asks = by (write_reach q p)
  where
    row : Option WriteReach → Row
    row (Some r) = write_row q p envelope place next r
    row None = plain_row (Does (refusal_effects InvalidRequest q))

    by : (r : Option WriteReach) → RowStory k (Arrives p) q (row r)
    by (Some r) = write-story k q p envelope place next r quiet
    by None = plain k (Arrives p) q _ (refused k p InvalidRequest q request)
valid-story k q p envelope next shapes.Read quiet shaped request asks = by p.reth
  where
    row : Option Reth → Row
    row (Some h) = plain_row (Does (read_queued q p envelope h))
    row None = plain_row (Does (refusal_effects InvalidRequest q))

    by : (h : Option Reth) → RowStory k (Arrives p) q (row h)
    by (Some h) = plain k (Arrives p) q (read_queued q p envelope h) (still k (Arrives p) q _ quiet refl refl refl)
    by None = plain k (Arrives p) q _ (refused k p InvalidRequest q request)
valid-story k q p envelope next (shapes.Atomic kind) quiet shaped request asks = by p.atomic
  where
    row : Option AtomicEth → Row
    row (Some a) = atomic_row q p envelope kind a
    row None = plain_row (Does (refusal_effects InvalidRequest q))

    by : (a : Option AtomicEth) → RowStory k (Arrives p) q (row a)
    by (Some a) = atomic-story k q p envelope kind a quiet
    by None = plain k (Arrives p) q _ (refused k p InvalidRequest q request)

-- the same of a row
rows-as : (k : Known) (o : Occasion) (q f : QueuePair) (row : Row) → f.queue ≡ q.queue → f.state ≡ q.state → f.responder.mtu ≡ q.responder.mtu → f.requester ≡ q.requester → RowStory k o f row → RowStory k o q row
rows-as k o q f row name state mtu requester does = record {
  denied = λ d among. ending (row.denied d) (does.denied d among);
  allowed = λ bytes refusal named. ending (row.allowed bytes refusal) (does.allowed bytes refusal named);
}
  where
    ending : (e : Ending) → EndingDoes (StoryOf k o f) e → EndingDoes (StoryOf k o q) e
    ending (NotPossible reason) does = record {}
    ending (Does e) does = story-as k o q f e.queue e.marks name state mtu requester does

request-story : (k : Known) (p : Fields) (envelope : Option ℕ) (shared : Option SharedReceives) (shape : Shape) (q : QueuePair) → (is_sending q.state ≡ true → IsOn k k.before q) → shape_of p.opcode ≡ Some shape → is_response p.opcode ≡ false → HasIeth p → RowStory k (Arrives p) q (request_row p envelope shared shape q)
request-story k p envelope shared shape q was shaped request asks = cond-row k o q (nat_lt q.responder.expected psn) _ _ (λ ahead. plain k o q _ (ahead-story k o q quiet))
    (λ none. cond-row k o q (nat_lt psn q.responder.expected) _ _ (λ again. plain k o q _ (duplicate-story k o psn p envelope shape q quiet))
    (λ none. rows-as k o q f (expected_row q shared p envelope shape) refl refl refl refl (cond-row k o f (is_invalid f p shape) _ _ (λ invalid. plain k o f _ (refused k p InvalidRequest f request))
    (λ none. cond-row k o f (takes_receive p shape && is_none (next_receive f shared)) _ _ (λ none. plain k o f (rnr_effects f) (still k o f _ (quiet-as k o q f quiet refl refl refl) refl refl refl))
    (λ none. valid-story k f p envelope (next_receive f shared) shape (quiet-as k o q f quiet refl refl refl) shaped request asks)))))
  where
    o : Occasion
    o = Arrives p

    psn : ℕ
    psn = widened q.responder.expected p.psn

    f : QueuePair
    f = with_flag false q

    quiet : IsQuiet k o q
    quiet = record { arrives = refl; now = ap (λ b. if b then after_response_packet k.mtu k.begin (ops_of k) p k.before else k.before) request; was = was }

-- ---- arrivals

-- what happens where bytes arrive that spell this packet, or none
abbrev pub occasion_of : Result Fields WireError → Occasion
occasion_of (Ok p) = Arrives p
occasion_of (Err error) = Turns

packet-story : (k : Known) (p : Fields) (envelope : Option ℕ) (shared : Option SharedReceives) (q : QueuePair) → (is_among (states.Rts ∷ states.Sqd ∷ []) q.state ≡ true → IsUp k k.before q × IsListed k q) → HasIeth p → RowStory k (Arrives p) q (packet_arrived p envelope shared q)
packet-story k p envelope shared q up asks = cond-row k (Arrives p) q (is_response p.opcode) _ _ (λ is. response-story k p q is up) (λ request. by request (shape_of p.opcode) refl)
  where
    row : Option Shape → Row
    row (Some shape) = request_row p envelope shared shape q
    row None = plain_row (Does (drop_effects q drop_causes.State))

    was : is_sending q.state ≡ true → IsOn k k.before q
    was sending = (up sending).0.on

    by : is_response p.opcode ≡ false → (s : Option Shape) → shape_of p.opcode ≡ s → RowStory k (Arrives p) q (row s)
    by request (Some shape) shaped = request-story k p envelope shared shape q was shaped request asks
    by request None shaped = plain k (Arrives p) q _ (dropped k (Arrives p) q drop_causes.State refl was)

pub arrival-story : (k : Known) (bytes : List ℕ) (envelope : Option ℕ) (shared : Option SharedReceives) (q : QueuePair) → (is_among (states.Rts ∷ states.Sqd ∷ []) q.state ≡ true → IsUp k k.before q × IsListed k q) → RowStory k (occasion_of (packet_in bytes)) q (arrival_row bytes envelope shared q)
arrival-story k bytes envelope shared q up = by (packet_in bytes) refl
  where
    unless : Fields → Option Drop1 → Row
    unless p (Some cause) = plain_row (Does (drop_effects q cause))
    unless p None = packet_arrived p envelope shared q

    row : Result Fields WireError → Row
    row (Err error) = plain_row (Does (drop_effects q (drop_causes.Wire error)))
    row (Ok p) = unless p (first_of (arrival_drops q p))

    of_packet : (p : Fields) → packet_in bytes ≡ Ok p → (d : Option Drop1) → RowStory k (Arrives p) q (unless p d)
    of_packet p is (Some cause) = plain k (Arrives p) q _ (dropped k (Arrives p) q cause refl (λ sending. (up sending).0.on))
    of_packet p is None = packet-story k p envelope shared q up (λ k there. ieth-asks bytes p k is there)

    by : (r : Result Fields WireError) → packet_in bytes ≡ r → RowStory k (occasion_of r) q (row r)
    by (Err error) is = plain k Turns q _ (dropped k Turns q (drop_causes.Wire error) refl (λ sending. (up sending).0.on))
    by (Ok p) is = of_packet p is (first_of (arrival_drops q p))

-- ---- turns

turn-story : (k : Known) (q : QueuePair) (a : Queued) → (is_sending q.state ≡ true → IsOn k k.before q) → RowStory k Turns q (answer_turn q a)
turn-story k q (queued.Ack psn) was = plain k Turns q _ (still k Turns q _ (record { arrives = refl; now = refl; was = was }) refl refl refl)
turn-story k q (queued.Rnr psn) was = plain k Turns q _ (still k Turns q _ (record { arrives = refl; now = refl; was = was }) refl refl refl)
turn-story k q (queued.Nak psn code) was = plain k Turns q _ (still k Turns q _ (record { arrives = refl; now = refl; was = was }) refl refl refl)
turn-story k q (queued.Read psn key address left first envelope duplicate) was = record {
  denied = λ d among. access-denied k Turns _ q envelope d (among (λ x. queue_eq x.queue q.queue) (one-ask q (left == 0) (response_ask q r) refl)) refl;
  allowed = λ bytes refusal named. answered (flat_map (λ b. b) bytes) (is_last_response q r);
}
  where
    r : ReadLeft
    r = record { psn = psn; key = key; address = address; left = left; first = first; envelope = envelope; duplicate = duplicate }

    answered : (bytes : List ℕ) (b : Bool) → Story k Turns q (if b then without_front q else with_front (rest_of q r) q) (remote_mark (response_ask q r) envelope (verdicts.Read bytes) ∷ [])
    answered bytes true = going k Turns q _ _ (record { arrives = refl; now = refl; was = was }) (refl, record {}) refl refl refl
    answered bytes false = going k Turns q _ _ (record { arrives = refl; now = refl; was = was }) (refl, record {}) refl refl refl
turn-story k q (queued.Atomic psn found duplicate) was = plain k Turns q _ (still k Turns q _ (record { arrives = refl; now = refl; was = was }) refl refl refl)

pub respond-story : (k : Known) (room : Bool) (q : QueuePair) → (is_sending q.state ≡ true → IsOn k k.before q) → RowStory k Turns q (respond_row room q)
respond-story k room q was = by (first_of (respond_refusals room q)) (slice_get q.responder.answers 0)
  where
    row : Option Reason → Option Queued → Row
    row (Some reason) answer = plain_row (NotPossible reason)
    row None None = plain_row (NotPossible reasons.Empty)
    row None (Some answer) = answer_turn q answer

    by : (r : Option Reason) (a : Option Queued) → RowStory k Turns q (row r a)
    by (Some reason) answer = record { denied = λ d among. record {}; allowed = λ bytes refusal named. record {} }
    by None None = record { denied = λ d among. record {}; allowed = λ bytes refusal named. record {} }
    by None (Some answer) = turn-story k q answer was

reads-calm : (name : QueueId) (asks : List Ask) (bytes : List (List ℕ)) → AreCalm name (local_reads asks bytes)
reads-calm name [] bytes = record {}
reads-calm name (a ∷ asks) [] = record {}
reads-calm name (a ∷ asks) (b ∷ bs) = (record {}, reads-calm name asks bs)

-- a packet of a request is sent, or its list is denied where nothing is outstanding; then it is the oldest
pub sent-story : (k : Known) (q : QueuePair) (room : Bool) (n : Numbered) → ((d : DeniedAsk) → is_outstanding q ≡ false → is_by_list q.queue (list_of n.request.op) d.ask ≡ true → OnwardOf k Turns q (denied_list_effects q d))
    → IsOn k k.before q → is_sending q.state ≡ true → RowStory k Turns q (packet_row q room n)
sent-story k q room n fails_so was sending = by (is_too_much q n)
  where
    row : Row
    row = record {
      asks = packet_asks q n;
      invalidation = None;
      denied = λ d.
          if is_outstanding q then NotPossible reasons.Outstanding
          else if not room then NotPossible reasons.NoRoom
          else Does (denied_list_effects q d);
      allowed = λ bytes refusal. if not room then NotPossible reasons.NoRoom else Does (sent_packet q n bytes);
    }

    denied : (d : DeniedAsk) → is_by_list q.queue (list_of n.request.op) d.ask ≡ true → (b z : Bool) → is_outstanding q ≡ b → EndingDoes (StoryOf k Turns q) (if b then NotPossible reasons.Outstanding else if not z then NotPossible reasons.NoRoom else Does (denied_list_effects q d))
    denied d listed true z is = record {}
    denied d listed false true is = on (fails_so d is listed)
    denied d listed false false is = record {}

    allowed : (bytes : List (List ℕ)) (z : Bool) → EndingDoes (StoryOf k Turns q) (if not z then NotPossible reasons.NoRoom else Does (sent_packet q n bytes))
    allowed bytes true = on (goes (reads-calm q.queue (packet_asks q n) bytes) (record {
      state = refl;
      mtu = refl;
      fresh = λ fresh. (refl, refl);
      sends = λ sending. record { una = was.una; retries = was.retries; rnrs = was.rnrs; retry = was.retry; rnr_retry = was.rnr_retry; mtu = was.mtu; first = was.first; patience = was.patience };
    }))
    allowed bytes false = record {}

    by : (b : Bool) → RowStory k Turns q (if b then plain_row (NotPossible reasons.Outstanding) else row)
    by true = record { denied = λ d among. record {}; allowed = λ bytes refusal named. record {} }
    by false = record {
      denied = λ d among. denied d (among (is_by_list q.queue (list_of n.request.op)) (asked-by q.queue q.domain kinds.Read _ _ (list_of n.request.op))) (is_outstanding q) room refl;
      allowed = λ bytes refusal named. allowed bytes room;
    }

-- a timer fires where something is outstanding: one retry
pub timeout-story : (k : Known) (q : QueuePair) → IsUp k k.before (with_requester (record q.requester { timers = suc q.requester.timers }) q) → is_outstanding q ≡ true
    → OnwardOf k Fires q (one_retry q.requester.una (with_requester (record q.requester { timers = suc q.requester.timers }) q))
timeout-story k q up there = earlier k Fires (with_retry k.before) q counted_q _ _ (record { queue = refl; state = refl; mtu = refl; sending = up.sending }) (retried k Fires k.before q.requester.una counted_q up (less q.requester.una q.requester.cursor there) refl)
  where
    counted_q : QueuePair
    counted_q = with_requester (record q.requester { timers = suc q.requester.timers }) q

    less : (a b : ℕ) → nat_lt a b ≡ true → a < b
    less a b e = grind (arith, nat_tests, e)

pub wake-story : (k : Known) (q : QueuePair) → (is_sending q.state ≡ true → IsOn k k.before q) → StoryOf k Turns q (after_wake q)
wake-story k q was = on (goes (record {}) (record { state = refl; mtu = refl; fresh = λ fresh. (refl, refl); sends = λ sending. by (was sending) }))
  where
    by : IsOn k k.before q → IsOn k k.before (after_wake q).queue
    by w = record { una = w.una; retries = w.retries; rnrs = w.rnrs; retry = w.retry; rnr_retry = w.rnr_retry; mtu = w.mtu; first = w.first; patience = w.patience }
