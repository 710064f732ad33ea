-- Rows that begin and go on with no remote access: what they leave of a responder's message and of its answers. For
-- proofs only.
use Rattle.std.proofs.Common.{Bool, List, None, Option, Some, [], ap, false, filter, if◌then◌else◌, length, nat_le, nat_lt, not, option_map, refl, subst, suc, sym, true, ℕ, ◌&&◌, ◌++◌, ◌+◌, ◌-◌, ◌==◌, ◌∙◌, ◌∷◌, ◌≡◌}
use Rattle.std.specs.List.{AllByRecursion}
use Rattle.std.specs.Option.{option_and_then, option_map_or}
use Rattle.ca_law_carried.specs.Accesses.{GoesOn, IsAsked}
use Rattle.ca_law_keys.proofs.Keys.KeyTurnLemmas.{found}
use Rattle.ca_law_keys.proofs.Keys.PlainLemmas.{ArePlainMarks, IsPlainEffects, IsPlainMark, acknowledge-plain, below-plain, drop-plain, duplicate-plain, failure-plain, plain-then, progress-plain, receive-plain, refusal-plain, success-plain, timeout-plain}
use Rattle.ca_base.specs.Sight.{Invalidation}
use Rattle.ca_base.specs.declared.completion.WcStatus.{WcStatus}
use Rattle.ca_base.specs.declared.completion.WcStatus.TheVariants.{BadResponse, LocalLength, LocalProtection, MemoryManagement, RetryExceeded, RnrRetryExceeded, Success}
use Rattle.ca_base.specs.declared.denied_ask.DeniedAsk.{DeniedAsk}
use Rattle.ca_base.specs.declared.limits.TheConstants.{MAX_DUPLICATES, MAX_RETRY}
use Rattle.ca_base.specs.declared.queue_numbers.Message.{Message}
use Rattle.ca_base.specs.declared.queue_numbers.Queued.{Queued}
use Rattle.ca_base.specs.declared.queue_numbers.ResponderNumbers.{ResponderNumbers}
use Rattle.ca_base.specs.declared.refusals.OpRefusal.{OpRefusal}
use Rattle.ca_base.specs.declared.request.PlacedReceive.{PlacedReceive}
use Rattle.ca_base.specs.objects.Answers.{answers_before, duplicate_count, is_ack, psn_of_answer, with_ack_at_end}
use Rattle.ca_base.specs.objects.LocalRequest.{LocalMarks}
use Rattle.ca_base.specs.objects.QueuePair.{QueuePair}
use Rattle.ca_base.specs.objects.Saved.{saved_at}
use Rattle.ca_base.specs.objects.StateTable.{is_among}
use Rattle.ca_keys.specs.declared.access.Ask.{Ask}
use Rattle.ca_keys.specs.declared.grant.Grant.{Grant}
use Rattle.ca_keys.specs.declared.key.Key.{Key}
use Rattle.ca_law_world.proofs.Sound.WorldLemmas.{EndingDoes, RowDoes}
use Rattle.ca_model.specs.Past.{LatestWrite, ReadRequest, at_end}
use Rattle.ca_model.specs.Requests.{list_length, segments}
use Rattle.ca_model.specs.declared.mark.Drop1.{Drop1}
use Rattle.ca_model.specs.declared.mark.Mark.{Mark}
use Rattle.ca_model.specs.declared.receiving.Receiving.{Receiving}
use Rattle.ca_model.specs.machine.Acknowledgements.{Acknowledgement, acknowledgement_below, and_then, failure_effects, first_unanswered, one_retry, progress_to, with_cursor, with_requester, with_una}
use Rattle.ca_model.specs.machine.Arrivals.{refusal_effects, with_answer, with_flag, with_message, with_receive_taken}
use Rattle.ca_model.specs.machine.Completions.{receive_mark, success_marks}
use Rattle.ca_model.specs.machine.Duplicates.{ack_again, ahead_effects, answer_again, atomic_again, duplicate_effects, read_again}
use Rattle.ca_model.specs.machine.Expected.{after_send_packet, behind_marks, invalidation_of, queue_after_packet, receive_asks, receive_failure_effects, receiving_of, revoked_marks, rnr_effects, send_row, valid_row, with_shared_receive, with_window_gone}
use Rattle.ca_model.specs.machine.LocalOperations.{invalidate_row, local_marks, operation_effects}
use Rattle.ca_model.specs.machine.Numbering.{Numbered, begun_requests, request_at}
use Rattle.ca_model.specs.machine.Requester.{denied_list_effects, is_outstanding, is_too_much, local_denial, local_reads, packet_asks, packet_row, sent_packet}
use Rattle.ca_model.specs.machine.Responses.{acknowledge_row, answer_asks, answer_bytes, answer_row, drop_effects, fits_request, fitting_row, is_outstanding_at, local_writes, nak_effects, outstanding_row, response_psn, response_row, rnr_nak_effects, unless_back, writes_by}
use Rattle.ca_model.specs.machine.Row.{Does, Effects, NotPossible, Row, plain_row, queue_and_marks}
use Rattle.ca_model.specs.machine.Timers.{after_timeout}
use Rattle.ca_wire.specs.Packet.{Fields, plain}
use Rattle.ca_wire.specs.Shapes.{ends}
use Rattle.ca_wire.specs.declared.opcode.TheConstants.{ACKNOWLEDGE}
use Rattle.ca_wire.specs.declared.reth.Reth.{Reth}
use Rattle.ca_wire.specs.declared.shape.Position.{Position}
use Rattle.ca_wire.specs.declared.shape.Shape.{Shape}
use Rattle.ca_wire.specs.Syndrome.{nak_code, syndrome_in}
use Rattle.ca_wire.specs.declared.syndrome.NakCode.{NakCode}
use Rattle.ca_wire.specs.declared.syndrome.NakCode.TheVariants.{InvalidRequest, PsnSequenceError, RemoteAccessError, RemoteOperationalError}
use Rattle.ca_wire.specs.declared.syndrome.Syndrome.{Syndrome}
use Rattle.ca_wire.specs.declared.syndrome.Syndrome.TheVariants.{Ack, Nak, RnrNak}
use Rattle.ca_model.specs.declared.mark.Drop1.TheVariants as drops
use Rattle.ca_model.specs.declared.mark.Mark.TheVariants as marks
use Rattle.ca_base.specs.declared.queue_numbers.Message.TheVariants as messages
use Rattle.ca_base.specs.declared.completion.WcOp.TheVariants as operations
use Rattle.ca_base.specs.declared.queue_numbers.Queued.TheVariants as queued
use Rattle.ca_base.specs.declared.step.Reason.TheVariants as reasons
use Rattle.ca_wire.specs.declared.shape.Shape.TheVariants as shapes
use Rattle.ca_base.specs.declared.change.State.TheVariants as states

-- a mark that tells of no remote access, and answers no verb
abbrev pub IsUnheardMark : Mark → Type 0
IsUnheardMark (marks.Verb by verb answer) = ⊥
IsUnheardMark (marks.Remote queue domain envelope key kind address count verdict) = ⊥
IsUnheardMark m = Unit {0}

abbrev pub AreUnheard : List Mark → Type 0
AreUnheard [] = Unit {0}
AreUnheard (m ∷ ms) = IsUnheardMark m × AreUnheard ms

unheard-one : (m : Mark) → IsPlainMark m → IsUnheardMark m
unheard-one (marks.Verb by verb answer) plain = plain
unheard-one (marks.Granted g) plain = record {}
unheard-one (marks.Revoked adapter key) plain = record {}
unheard-one (marks.Stored place bytes) plain = record {}
unheard-one (marks.Remote queue domain envelope key kind address count verdict) plain = plain
unheard-one (marks.Local queue domain key kind address count verdict) plain = record {}
unheard-one (marks.Sent source target index request bytes) plain = record {}
unheard-one (marks.Lost target index) plain = record {}
unheard-one (marks.Arrived target index) plain = record {}
unheard-one (marks.Dropped target cause) plain = record {}
unheard-one (marks.Timer queue silent) plain = record {}
unheard-one (marks.Done queue x cause) plain = record {}

pub plain-unheard : (ms : List Mark) → ArePlainMarks ms → AreUnheard ms
plain-unheard [] plain = record {}
plain-unheard (m ∷ ms) plain = (unheard-one m plain.0, plain-unheard ms plain.1)

pub unheard-append : (ms ns : List Mark) → AreUnheard ms → AreUnheard ns → AreUnheard (ms ++ ns)
unheard-append [] ns one other = other
unheard-append (m ∷ ms) ns one other = (one.0, unheard-append ms ns one.1 other)

-- a queue pair whose responder has no other WRITE in progress than another's, and no other READ that waits
pub record IsLess (l : Option LatestWrite) (rs : List ReadRequest) (q p : QueuePair) : Type 0 where
  pub mtu : p.responder.mtu ≡ q.responder.mtu
  pub write : GoesOn q.responder.message l → GoesOn p.responder.message l
  pub reads : AllByRecursion (IsAsked q.responder.mtu rs) q.responder.answers → AllByRecursion (IsAsked q.responder.mtu rs) p.responder.answers

-- effects that leave such a queue pair, and tell of no remote access
pub record IsQuiet (l : Option LatestWrite) (rs : List ReadRequest) (q : QueuePair) (e : Effects) : Type 0 where
  pub less : IsLess l rs q e.queue
  pub marks : AreUnheard e.marks

-- an answer that is no READ
abbrev IsNoRead : Queued → Type 0
IsNoRead (queued.Read psn key address left first envelope duplicate) = ⊥
IsNoRead answer = Unit {0}

pub no-read : (mtu : ℕ) (rs : List ReadRequest) (a : Queued) → IsNoRead a → IsAsked mtu rs a
no-read mtu rs (queued.Ack psn) none = record {}
no-read mtu rs (queued.Rnr psn) none = record {}
no-read mtu rs (queued.Nak psn code) none = record {}
no-read mtu rs (queued.Read psn key address left first envelope duplicate) none = absurd none
no-read mtu rs (queued.Atomic psn found duplicate) none = record {}

pub all-more : {A : Type 0} (P : A → Type 0) (xs : List A) (x : A) → AllByRecursion P xs → P x → AllByRecursion P (xs ++ x ∷ [])
all-more P [] x all one = (one, record {})
all-more P (y ∷ ys) x all one = (all.0, all-more P ys x all.1 one)

pub all-filter : {A : Type 0} (P : A → Type 0) (keep : A → Bool) (xs : List A) → AllByRecursion P xs → AllByRecursion P (filter keep xs)
all-filter P keep [] all = record {}
all-filter P keep (x ∷ xs) all = by (keep x) (all-filter P keep xs all.1)
  where
    by : (b : Bool) → AllByRecursion P (filter keep xs) → AllByRecursion P (if b then x ∷ filter keep xs else filter keep xs)
    by true rest = (all.0, rest)
    by false rest = rest

ack-asked : (mtu : ℕ) (rs : List ReadRequest) (psn : ℕ) (xs : List Queued) → AllByRecursion (IsAsked mtu rs) xs → AllByRecursion (IsAsked mtu rs) (with_ack_at_end psn xs)
ack-asked mtu rs psn [] all = (record {}, record {})
ack-asked mtu rs psn (a ∷ []) all = by (is_ack a)
  where
    by : (b : Bool) → AllByRecursion (IsAsked mtu rs) (if b then queued.Ack psn ∷ [] else a ∷ queued.Ack psn ∷ [])
    by true = (record {}, record {})
    by false = (all.0, (record {}, record {}))
ack-asked mtu rs psn (a ∷ b ∷ xs) all = (all.0, ack-asked mtu rs psn (b ∷ xs) all.1)

module _ (l : Option LatestWrite) (rs : List ReadRequest) where
  pub less-same : (q p : QueuePair) → p.responder ≡ q.responder → IsLess l rs q p
  less-same q p same = record {
    mtu = ap (λ (r : ResponderNumbers). r.mtu) same;
    write = subst (λ (r : ResponderNumbers). GoesOn q.responder.message l → GoesOn r.message l) (sym same) (λ at. at);
    reads = subst (λ (r : ResponderNumbers). AllByRecursion (IsAsked q.responder.mtu rs) q.responder.answers → AllByRecursion (IsAsked q.responder.mtu rs) r.answers) (sym same) (λ all. all);
  }

  pub less-then : (q p r : QueuePair) → IsLess l rs q p → IsLess l rs p r → IsLess l rs q r
  less-then q p r one other = record {
    mtu = other.mtu ∙ one.mtu;
    write = λ at. other.write (one.write at);
    reads = λ all. subst (λ m. AllByRecursion (IsAsked m rs) r.responder.answers) one.mtu (other.reads (subst (λ m. AllByRecursion (IsAsked m rs) p.responder.answers) (sym one.mtu) (one.reads all)));
  }

  -- a queue pair that failed has nothing in progress
  less-failed : (status : WcStatus) (cause : Option OpRefusal) (q : QueuePair) → IsLess l rs q (failure_effects status cause q).queue
  less-failed status cause q = record { mtu = refl; write = λ at. record {}; reads = λ all. record {} }

  una-same : (psn : ℕ) (q : QueuePair) → (with_una psn q).responder ≡ q.responder
  una-same psn q = by (nat_lt q.requester.una psn)
    where
      by : (b : Bool) → (if b then with_requester (record q.requester { una = psn; retries = 0; rnrs = 0 }) q else q).responder ≡ q.responder
      by true = refl
      by false = refl

  progress-less : (psn : ℕ) (q : QueuePair) → IsLess l rs q (progress_to psn q).queue
  progress-less psn q = less-same q (progress_to psn q).queue (una-same psn q)

  pub retry-less : (psn : ℕ) (q : QueuePair) → IsLess l rs q (one_retry psn q).queue
  retry-less psn q = by (nat_le q.requester.retry q.requester.retries)
    where
      counted : QueuePair
      counted = with_requester (record q.requester { retries = suc q.requester.retries }) q

      by : (b : Bool) → IsLess l rs q (if b then failure_effects RetryExceeded None counted else queue_and_marks (with_cursor psn counted) []).queue
      by true = record { mtu = refl; write = λ at. record {}; reads = λ all. record {} }
      by false = less-same q (with_cursor psn counted) refl

  below-less : (psn : ℕ) (q : QueuePair) → IsLess l rs q (acknowledgement_below psn q).effects.queue
  below-less psn q = by (first_unanswered q.requester.una psn (begun_requests q))
    where
      after : Option ℕ → Acknowledgement
      after None = record { effects = progress_to psn q; went_back = false }
      after (Some back) = record { effects = and_then (progress_to back q) (one_retry back); went_back = true }

      by : (back : Option ℕ) → IsLess l rs q (after back).effects.queue
      by None = progress-less psn q
      by (Some back) = less-then q (progress_to back q).queue (one_retry back (progress_to back q).queue).queue (progress-less back q) (retry-less back (progress_to back q).queue)

  back-less : (q : QueuePair) (a : Acknowledgement) (f : QueuePair → Effects) → IsLess l rs q a.effects.queue → IsLess l rs a.effects.queue (f a.effects.queue).queue → IsLess l rs q (unless_back a f).queue
  back-less q a f one other = by a.went_back
    where
      by : (b : Bool) → IsLess l rs q (if b then a.effects else and_then a.effects f).queue
      by true = one
      by false = less-then q a.effects.queue (f a.effects.queue).queue one other

  rnr-less : (psn : ℕ) (q : QueuePair) → IsLess l rs q (rnr_nak_effects psn q).queue
  rnr-less psn q = by (nat_lt q.requester.rnr_retry MAX_RETRY && nat_le q.requester.rnr_retry q.requester.rnrs)
    where
      counted : QueuePair
      counted = with_requester (record q.requester { rnrs = suc q.requester.rnrs }) q

      by : (b : Bool) → IsLess l rs q (if b then failure_effects RnrRetryExceeded None counted
          else queue_and_marks (with_requester (record counted.requester { cursor = psn; waiting = true }) q) []).queue
      by true = record { mtu = refl; write = λ at. record {}; reads = λ all. record {} }
      by false = less-same q (with_requester (record counted.requester { cursor = psn; waiting = true }) q) refl

  nak-less : (psn : ℕ) (code : NakCode) (q : QueuePair) → IsLess l rs q (nak_effects psn code q).queue
  nak-less psn PsnSequenceError q = retry-less psn q
  nak-less psn InvalidRequest q = record { mtu = refl; write = λ at. record {}; reads = λ all. record {} }
  nak-less psn RemoteAccessError q = record { mtu = refl; write = λ at. record {}; reads = λ all. record {} }
  nak-less psn RemoteOperationalError q = record { mtu = refl; write = λ at. record {}; reads = λ all. record {} }

  drop-less : (q : QueuePair) (cause : Drop1) → IsLess l rs q (drop_effects q cause).queue
  drop-less q cause = less-same q q refl

  acknowledge-less : (psn : ℕ) (syndrome : Option Syndrome) (q : QueuePair) → IsLess l rs q (acknowledge_row psn syndrome q).queue
  acknowledge-less psn (Some (Ack credits)) q = below-less (suc psn) q
  acknowledge-less psn (Some (RnrNak timer)) q =
      back-less q (acknowledgement_below psn q) (rnr_nak_effects psn) (below-less psn q) (rnr-less psn (acknowledgement_below psn q).effects.queue)
  acknowledge-less psn (Some (Nak code)) q =
      back-less q (acknowledgement_below psn q) (nak_effects psn code) (below-less psn q) (nak-less psn code (acknowledgement_below psn q).effects.queue)
  acknowledge-less psn None q = drop-less q drops.Stale

  -- effects that tell of no access at all
  pub plain-quiet : (q : QueuePair) (e : Effects) → IsLess l rs q e.queue → IsPlainEffects e → IsQuiet l rs q e
  plain-quiet q e less plain = record { less = less; marks = plain-unheard e.marks plain.marks }

  pub plain-row : (q : QueuePair) (e : Effects) → IsLess l rs q e.queue → IsPlainEffects e → RowDoes (IsQuiet l rs q) (plain_row (Does e))
  plain-row q e less plain = record { denied = λ d. plain-quiet q e less plain; allowed = λ bytes refusal. plain-quiet q e less plain }

  pub dropped : (q : QueuePair) (cause : Drop1) → RowDoes (IsQuiet l rs q) (plain_row (Does (drop_effects q cause)))
  dropped q cause = plain-row q (drop_effects q cause) (drop-less q cause) (drop-plain q cause)

  writes-unheard : (xs : List (Ask × List ℕ)) → AreUnheard (local_writes xs)
  writes-unheard [] = record {}
  writes-unheard (x ∷ xs) = (record {}, writes-unheard xs)

  reads-unheard : (asks : List Ask) (bytes : List (List ℕ)) → AreUnheard (local_reads asks bytes)
  reads-unheard [] bytes = record {}
  reads-unheard (ask ∷ asks) [] = record {}
  reads-unheard (ask ∷ asks) (b ∷ bs) = (record {}, reads-unheard asks bs)

  -- ---- responses

  answer-quiet : (psn : ℕ) (p : Fields) (q : QueuePair) (before : Effects) (n : Numbered) → IsLess l rs q before.queue → ArePlainMarks before.marks → RowDoes (IsQuiet l rs q) (answer_row psn p before n)
  answer-quiet psn p q before n less plain = record {
    denied = λ d. record {
      less = record { mtu = less.mtu; write = λ at. record {}; reads = λ all. record {} };
      marks = unheard-append before.marks (local_denial d ∷ (failure_effects LocalProtection None before.queue).marks) (plain-unheard before.marks plain)
          (record {}, plain-unheard (failure_effects LocalProtection None before.queue).marks (failure-plain LocalProtection None before.queue).marks);
    };
    allowed = λ bytes refusal. record {
      less = less-then q before.queue (progress_to (suc psn) before.queue).queue less (progress-less (suc psn) before.queue);
      marks = unheard-append before.marks _ (plain-unheard before.marks plain)
          (unheard-append (local_writes (writes_by (answer_asks psn p before.queue n) (answer_bytes p))) (progress_to (suc psn) before.queue).marks
          (writes-unheard (writes_by (answer_asks psn p before.queue n) (answer_bytes p)))
          (plain-unheard (progress_to (suc psn) before.queue).marks (progress-plain (suc psn) before.queue).marks));
    };
  }

  fitting-quiet : (psn : ℕ) (p : Fields) (q : QueuePair) (a : Acknowledgement) → IsLess l rs q a.effects.queue → IsPlainEffects a.effects → RowDoes (IsQuiet l rs q) (fitting_row psn p a)
  fitting-quiet psn p q a less plain = back a.went_back
    where
      bad : Row
      bad = plain_row (Does (and_then a.effects (failure_effects BadResponse None)))

      at : Option Numbered → Row
      at None = bad
      at (Some n) = if fits_request psn p a.effects.queue n then answer_row psn p a.effects n else bad

      is_bad : RowDoes (IsQuiet l rs q) bad
      is_bad = plain-row q (and_then a.effects (failure_effects BadResponse None)) (record { mtu = less.mtu; write = λ at. record {}; reads = λ all. record {} })
          (plain-then a.effects (failure_effects BadResponse None) plain (failure-plain BadResponse None a.effects.queue))

      fits : (n : Numbered) (b : Bool) → RowDoes (IsQuiet l rs q) (if b then answer_row psn p a.effects n else bad)
      fits n true = answer-quiet psn p q a.effects n less plain.marks
      fits n false = is_bad

      by : (n : Option Numbered) → RowDoes (IsQuiet l rs q) (at n)
      by None = is_bad
      by (Some n) = fits n (fits_request psn p a.effects.queue n)

      back : (b : Bool) → RowDoes (IsQuiet l rs q) (if b then plain_row (Does a.effects) else at (request_at psn a.effects.queue))
      back true = plain-row q a.effects less plain
      back false = by (request_at psn a.effects.queue)

  pub response-quiet : (p : Fields) (q : QueuePair) → RowDoes (IsQuiet l rs q) (response_row p q)
  response-quiet p q = by (is_among (states.Rts ∷ states.Sqd ∷ []) q.state)
    where
      psn : ℕ
      psn = response_psn q p

      opcode : (b : Bool) → RowDoes (IsQuiet l rs q) (if b then plain_row (Does (acknowledge_row psn (option_and_then (λ a. syndrome_in a.syndrome) p.aeth) q))
          else fitting_row psn p (acknowledgement_below psn q))
      opcode true = plain-row q _ (acknowledge-less psn (option_and_then (λ a. syndrome_in a.syndrome) p.aeth) q) (acknowledge-plain psn (option_and_then (λ a. syndrome_in a.syndrome) p.aeth) q)
      opcode false = fitting-quiet psn p q (acknowledgement_below psn q) (below-less psn q) (below-plain psn q)

      there : (b : Bool) → RowDoes (IsQuiet l rs q) (if not b then plain_row (Does (drop_effects q drops.Stale)) else outstanding_row psn p q)
      there true = opcode (p.opcode == ACKNOWLEDGE)
      there false = dropped q drops.Stale

      by : (b : Bool) → RowDoes (IsQuiet l rs q) (if not b then plain_row (Does (drop_effects q drops.State))
          else if not (is_outstanding_at psn q) then plain_row (Does (drop_effects q drops.Stale)) else outstanding_row psn p q)
      by true = there (is_outstanding_at psn q)
      by false = dropped q drops.State

  -- ---- requests

  -- an answer that is no READ is queued
  pub less-answered : (q p : QueuePair) (a : Queued) → IsNoRead a → p.responder.mtu ≡ q.responder.mtu → (GoesOn q.responder.message l → GoesOn p.responder.message l) → p.responder.answers ≡ q.responder.answers ++ a ∷ []
      → IsLess l rs q p
  less-answered q p a none mtu write same = record {
    mtu = mtu;
    write = write;
    reads = λ all. subst (AllByRecursion (IsAsked q.responder.mtu rs)) (sym same) (all-more (IsAsked q.responder.mtu rs) q.responder.answers a all (no-read q.responder.mtu rs a none));
  }

  refusal-less : (code : NakCode) (q : QueuePair) → IsLess l rs q (refusal_effects code q).queue
  refusal-less code q = less-answered q (refusal_effects code q).queue (queued.Nak q.responder.expected (nak_code code)) (record {}) refl (λ at. record {}) refl

  pub refused : (code : NakCode) (q : QueuePair) → RowDoes (IsQuiet l rs q) (plain_row (Does (refusal_effects code q)))
  refused code q = plain-row q (refusal_effects code q) (refusal-less code q) (refusal-plain code q)

  pub waits-less : (q : QueuePair) → IsLess l rs q (rnr_effects q).queue
  waits-less q = less-answered q (rnr_effects q).queue (queued.Rnr q.responder.expected) (record {}) refl (λ at. at) refl

  pub ahead-less : (q : QueuePair) → IsLess l rs q (ahead_effects q).queue
  ahead-less q = by q.responder.nak_sent
    where
      by : (b : Bool) → IsLess l rs q (if b then drop_effects q drops.Stale
          else queue_and_marks (with_flag true (with_answer (queued.Nak q.responder.expected (nak_code PsnSequenceError)) q)) []).queue
      by true = less-same q q refl
      by false = less-answered q (with_flag true (with_answer (queued.Nak q.responder.expected (nak_code PsnSequenceError)) q)) (queued.Nak q.responder.expected (nak_code PsnSequenceError)) (record {}) refl (λ at. at) refl

  -- an accepted packet queues no READ
  pub accepted-reads : (p : Fields) (count : ℕ) (at_end asks_ack : Bool) (q : QueuePair) → AllByRecursion (IsAsked q.responder.mtu rs) q.responder.answers
      → AllByRecursion (IsAsked q.responder.mtu rs) (queue_after_packet p count at_end asks_ack q).responder.answers
  accepted-reads p count at_end asks_ack q all = by (asks_ack && p.ack)
    where
      by : (b : Bool) → AllByRecursion (IsAsked q.responder.mtu rs) (if b then with_ack_at_end q.responder.expected q.responder.answers else q.responder.answers)
      by true = ack-asked q.responder.mtu rs q.responder.expected q.responder.answers all
      by false = all

  took-quiet : (q p : QueuePair) (b : Bool) (e : Effects) → IsQuiet l rs q e → IsQuiet l rs q (if b then with_shared_receive p e else e)
  took-quiet q p true e quiet = record { less = quiet.less; marks = quiet.marks }
  took-quiet q p false e quiet = quiet

  -- a SEND packet, with its receive
  send-quiet : (before : QueuePair) (p : Fields) (place : Position) (r : Receiving) (q : QueuePair) → (if r.taken then with_receive_taken before else before) ≡ q → q.responder ≡ before.responder
      → RowDoes (IsQuiet l rs before) (send_row before p place r)
  send-quiet before p place r q is same = subst (λ x. RowDoes (IsQuiet l rs before) (row_of x (nat_lt (list_length r.receive.receive.list.items) (r.before + length p.payload)))) (sym is)
      (by (nat_lt (list_length r.receive.receive.list.items) (r.before + length p.payload)))
    where
      took : QueuePair → Effects → Effects
      took q e = if r.taken then with_shared_receive q e else e

      ended : QueuePair → Option OpRefusal → Effects
      ended q (Some cause) = receive_failure_effects q r.receive MemoryManagement (Some cause) RemoteOperationalError
      ended q None = behind_marks (revoked_marks q (invalidation_of q p)) (after_send_packet (with_window_gone (invalidation_of q p) q) p place r)

      writes : QueuePair → List (Ask × List ℕ)
      writes q = writes_by (receive_asks q p r) p.payload

      row_of : QueuePair → Bool → Row
      row_of q b =
          if b then plain_row (Does (took q (receive_failure_effects q r.receive LocalLength None InvalidRequest)))
          else record {
            asks = receive_asks q p r;
            invalidation = invalidation_of q p;
            denied = λ d. Does (took q (behind_marks (local_denial d ∷ []) (receive_failure_effects q r.receive LocalProtection None RemoteOperationalError)));
            allowed = λ bytes refusal. Does (took q (record (behind_marks (local_writes (writes q)) (ended q refusal)) { writes = writes q }));
          }

      on : (p : QueuePair) → IsLess l rs q p → IsLess l rs before p
      on p less = less-then before q p (less-same before q same) less

      failed : (status : WcStatus) (cause : Option OpRefusal) (code : NakCode) → IsLess l rs before (receive_failure_effects q r.receive status cause code).queue
      failed status cause code = on (receive_failure_effects q r.receive status cause code).queue
          (less-answered q (receive_failure_effects q r.receive status cause code).queue (queued.Nak q.responder.expected (nak_code code)) (record {}) refl (λ at. record {}) refl)

      fails : (status : WcStatus) (cause : Option OpRefusal) (code : NakCode) → AreUnheard (receive_failure_effects q r.receive status cause code).marks
      fails status cause code = plain-unheard (receive_failure_effects q r.receive status cause code).marks (receive-plain q r.receive status cause code).marks

      revoked : (o : Option Invalidation) → AreUnheard (revoked_marks q o)
      revoked None = record {}
      revoked (Some i) = (record {}, record {})

      gone : QueuePair
      gone = with_window_gone (invalidation_of q p) q

      packet : (b : Bool) → IsQuiet l rs q (if b
          then queue_and_marks (with_message None (queue_after_packet p 1 true true gone))
          (receive_mark gone.queue r.receive.place r.receive.receive Success operations.Recv (r.before + length p.payload) p.imm (option_map (λ key. record { 0 = key }) p.ieth) ∷ [])
          else queue_and_marks (with_message (Some (messages.Send r.receive.place r.receive.receive (r.before + length p.payload))) (queue_after_packet p 1 false true gone)) [])
      packet true = record { less = record { mtu = refl; write = λ at. record {}; reads = λ all. accepted-reads p 1 true true gone all }; marks = (record {}, record {}) }
      packet false = record { less = record { mtu = refl; write = λ at. record {}; reads = λ all. accepted-reads p 1 false true gone all }; marks = record {} }

      placed : (refusal : Option OpRefusal) → IsQuiet l rs before (record (behind_marks (local_writes (writes q)) (ended q refusal)) { writes = writes q })
      placed None = record {
        less = on (after_send_packet gone p place r).queue (packet (ends place)).less;
        marks = unheard-append (local_writes (writes q)) _ (writes-unheard (writes q))
            (unheard-append (revoked_marks q (invalidation_of q p)) (after_send_packet gone p place r).marks (revoked (invalidation_of q p)) (packet (ends place)).marks);
      }
      placed (Some cause) = record {
        less = failed MemoryManagement (Some cause) RemoteOperationalError;
        marks = unheard-append (local_writes (writes q)) _ (writes-unheard (writes q)) (fails MemoryManagement (Some cause) RemoteOperationalError);
      }

      by : (b : Bool) → RowDoes (IsQuiet l rs before) (row_of q b)
      by true = record {
        denied = λ d. took-quiet before q r.taken _ (record { less = failed LocalLength None InvalidRequest; marks = fails LocalLength None InvalidRequest });
        allowed = λ bytes refusal. took-quiet before q r.taken _ (record { less = failed LocalLength None InvalidRequest; marks = fails LocalLength None InvalidRequest });
      }
      by false = record {
        denied = λ d. took-quiet before q r.taken _ (record { less = failed LocalProtection None RemoteOperationalError; marks = (record {}, fails LocalProtection None RemoteOperationalError) });
        allowed = λ bytes refusal. took-quiet before q r.taken _ (placed refusal);
      }

  -- a SEND, where its message has a receive or finds one
  pub sends-quiet : (q : QueuePair) (p : Fields) (place : Position) (next : Option PlacedReceive) (envelope : Option ℕ) → RowDoes (IsQuiet l rs q) (valid_row q p envelope next (shapes.Send place))
  sends-quiet q p place next envelope = by q.responder.message
    where
      row : Option Receiving → Row
      row (Some r) = send_row q p place r
      row None = plain_row (Does (refusal_effects InvalidRequest q))

      start : (o : Option PlacedReceive) → RowDoes (IsQuiet l rs q) (row (option_map (λ r. record { receive = r; before = 0; taken = true }) o))
      start None = refused InvalidRequest q
      start (Some r) = send-quiet q p place (record { receive = r; before = 0; taken = true }) (with_receive_taken q) refl refl

      by : (m : Option Message) → RowDoes (IsQuiet l rs q) (row (receiving_of q next m))
      by None = start next
      by (Some (messages.Write key address left count)) = start next
      by (Some (messages.Send at receive bytes)) = send-quiet q p place (record { receive = record { place = at; receive = receive }; before = bytes; taken = false }) q refl refl

  -- ---- turns

  -- a packet of a request
  pub packet-quiet : (q : QueuePair) (room : Bool) (n : Numbered) → RowDoes (IsQuiet l rs q) (packet_row q room n)
  packet-quiet q room n = by (is_too_much q n)
    where
      row : Row
      row = record {
        asks = packet_asks q n;
        invalidation = None;
        denied = λ d.
            if is_outstanding q then NotPossible reasons.Outstanding
            else if not room then NotPossible reasons.NoRoom
            else Does (denied_list_effects q d);
        allowed = λ bytes refusal. if not room then NotPossible reasons.NoRoom else Does (sent_packet q n bytes);
      }

      denied : (d : DeniedAsk) (b z : Bool) → EndingDoes (IsQuiet l rs q) (if b then NotPossible reasons.Outstanding else if not z then NotPossible reasons.NoRoom else Does (denied_list_effects q d))
      denied d true z = record {}
      denied d false true = record {
        less = record { mtu = refl; write = λ at. record {}; reads = λ all. record {} };
        marks = (record {}, plain-unheard (failure_effects LocalProtection None q).marks (failure-plain LocalProtection None q).marks);
      }
      denied d false false = record {}

      allowed : (bytes : List (List ℕ)) (z : Bool) → EndingDoes (IsQuiet l rs q) (if not z then NotPossible reasons.NoRoom else Does (sent_packet q n bytes))
      allowed bytes true = record { less = less-same q (sent_packet q n bytes).queue refl; marks = reads-unheard (packet_asks q n) bytes }
      allowed bytes false = record {}

      by : (b : Bool) → RowDoes (IsQuiet l rs q) (if b then plain_row (NotPossible reasons.Outstanding) else row)
      by true = record { denied = λ d. record {}; allowed = λ bytes refusal. record {} }
      by false = record { denied = λ d. denied d (is_outstanding q) room; allowed = λ bytes refusal. allowed bytes room }

  -- a local operation
  pub operation-quiet : (q after : QueuePair) (n : Numbered) (m : LocalMarks) (refusal : Option OpRefusal) → after.responder ≡ q.responder → IsQuiet l rs q (operation_effects q n after m refusal)
  operation-quiet q after n m (Some cause) same = plain-quiet q _ (record { mtu = refl; write = λ at. record {}; reads = λ all. record {} }) (failure-plain MemoryManagement (Some cause) q)
  operation-quiet q after n m None same = record {
    less = less-same q (operation_effects q n after m None).queue same;
    marks = unheard-append (local_marks q m) _ (unheard-append (option_map_or (λ key. marks.Revoked q.queue.adapter key ∷ []) m.revoked []) _ (revoked m.revoked) (granted m.granted))
        (plain-unheard (success_marks q.queue n.place n.request) (success-plain q.queue n.place n.request));
  }
    where
      revoked : (o : Option Key) → AreUnheard (option_map_or (λ key. marks.Revoked q.queue.adapter key ∷ []) o [])
      revoked None = record {}
      revoked (Some key) = (record {}, record {})

      granted : (o : Option Grant) → AreUnheard (option_map_or (λ g. marks.Granted g ∷ []) o [])
      granted None = record {}
      granted (Some g) = (record {}, record {})

  pub invalidate-quiet : (q : QueuePair) (n : Numbered) (key : Key) → RowDoes (IsQuiet l rs q) (invalidate_row q n key)
  invalidate-quiet q n key = record {
    denied = λ d. record { less = less-same q q refl; marks = record {} };
    allowed = λ bytes refusal. operation-quiet q (with_window_gone i q) n (record { revoked = Some key; granted = None }) refusal refl;
  }
    where
      i : Option Invalidation
      i = Some (record { queue = q.queue; domain = q.domain; key = key })

  pub timeout-quiet : (q : QueuePair) (silent : Bool) → IsQuiet l rs q (after_timeout silent q)
  timeout-quiet q silent = plain-quiet q (after_timeout silent q) (record { mtu = retried.mtu; write = retried.write; reads = retried.reads }) (timeout-plain q silent)
    where
      counted : QueuePair
      counted = with_requester (record q.requester { timers = suc q.requester.timers }) q

      retried : IsLess l rs counted (one_retry q.requester.una counted).queue
      retried = retry-less q.requester.una counted

  -- a request once more: a READ that may be asked for again, or what is no READ
  pub duplicate-quiet : (psn : ℕ) (p : Fields) (envelope : Option ℕ) (shape : Shape) (q : QueuePair)
      → ((h : Reth) → shape ≡ shapes.Read → p.reth ≡ Some h → IsAsked q.responder.mtu rs (queued.Read psn h.key h.address h.length true envelope true)) → IsQuiet l rs q (duplicate_effects psn p envelope shape q)
  duplicate-quiet psn p envelope shape q asked = plain-quiet q (duplicate_effects psn p envelope shape q) (at (nat_le MAX_DUPLICATES (duplicate_count q.responder.answers))) (duplicate-plain psn p envelope shape q)
    where
      before : List Queued
      before = answers_before psn q.responder.answers

      again : (a : Queued) → IsAsked q.responder.mtu rs a → IsLess l rs q (answer_again psn a q).queue
      again a one = record { mtu = refl; write = λ at. at; reads = λ all. all-more (IsAsked q.responder.mtu rs) before a (all-filter (IsAsked q.responder.mtu rs) (λ a. nat_lt (psn_of_answer a) psn) q.responder.answers all) one }

      acks : (b : Bool) → IsLess l rs q (if b then queue_and_marks (with_answer (queued.Ack (q.responder.expected - 1)) q) [] else drop_effects q drops.Unsaved).queue
      acks true = less-answered q (with_answer (queued.Ack (q.responder.expected - 1)) q) (queued.Ack (q.responder.expected - 1)) (record {}) refl (λ at. at) refl
      acks false = less-same q q refl

      within : (h : Reth) → IsAsked q.responder.mtu rs (queued.Read psn h.key h.address h.length true envelope true) → (b : Bool)
          → IsLess l rs q (if b then answer_again psn (queued.Read psn h.key h.address h.length true envelope true) q else drop_effects q drops.Unsaved).queue
      within h one true = again (queued.Read psn h.key h.address h.length true envelope true) one
      within h one false = less-same q q refl

      reads : (o : Option Reth) → ((h : Reth) → o ≡ Some h → IsAsked q.responder.mtu rs (queued.Read psn h.key h.address h.length true envelope true))
          → IsLess l rs q (option_map_or (λ h. read_again psn envelope h q) o (drop_effects q drops.Unsaved)).queue
      reads None all = less-same q q refl
      reads (Some h) all = within h (all h refl) (nat_le (psn + segments q.responder.mtu h.length) q.responder.expected)

      atomics : (o : Option ℕ) → IsLess l rs q (atomic_again psn o q).queue
      atomics None = less-same q q refl
      atomics (Some found) = again (queued.Atomic psn found true) (record {})

      effects : Shape → Effects
      effects (shapes.Send place) = ack_again q
      effects (shapes.Write place) = ack_again q
      effects shapes.Read = option_map_or (λ h. read_again psn envelope h q) p.reth (drop_effects q drops.Unsaved)
      effects (shapes.Atomic kind) = atomic_again psn (saved_at psn q.saved) q

      by : (s : Shape) → shape ≡ s → IsLess l rs q (effects s).queue
      by (shapes.Send place) is = acks (length q.responder.answers == 0)
      by (shapes.Write place) is = acks (length q.responder.answers == 0)
      by shapes.Read is = reads p.reth (λ h has. asked h is has)
      by (shapes.Atomic kind) is = atomics (saved_at psn q.saved)

      at : (b : Bool) → IsLess l rs q (if b then drop_effects q drops.Unsaved else effects shape).queue
      at true = less-same q q refl
      at false = by shape refl
