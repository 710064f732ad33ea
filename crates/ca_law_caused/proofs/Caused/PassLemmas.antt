-- What a story leaves of a past: its completions have their causes, and a queue pair that it leaves in Error has its
-- faults. For proofs only.
use Rattle.std.proofs.Common.{◌≡◌, ℕ, ◌&&◌, ◌||◌, Bool, true, false, not, if◌then◌else◌, List, [], ◌∷◌, ◌++◌, Option, None, Some, is_some, slice_get, refl, ap, sym, subst, ◌∙◌}
use Rattle.std.proofs.lemmas.Bool.{and_parts}
use Rattle.std.specs.List.{list_all, list_any}
use Rattle.std.specs.Option.{option_map, option_map_or}
use Rattle.ca_law_endings.proofs.PathLemmas.{marks-append}
use Rattle.ca_law_keys.proofs.Posts.GrantLemmas.{both-true}
use Rattle.ca_law_keys.proofs.Posts.PostMade.{life-refl}
use Rattle.ca_law_order.proofs.Sends.SendLemmas.{IsRequestAt}
use Rattle.ca_base.specs.Equal.{status_eq}
use Rattle.ca_base.specs.declared.change.State.TheVariants as states
use Rattle.ca_base.specs.declared.completion.Completion.{Completion}
use Rattle.ca_base.specs.declared.completion.WcStatus.{WcStatus}
use Rattle.ca_base.specs.declared.completion.WcStatus.TheVariants as statuses
use Rattle.ca_base.specs.declared.correspondent.Correspondent.{Correspondent}
use Rattle.ca_base.specs.declared.denied_ask.DeniedAsk.{DeniedAsk}
use Rattle.ca_base.specs.declared.refusals.OpRefusal.{OpRefusal}
use Rattle.ca_base.specs.declared.request.Piece.{Piece}
use Rattle.ca_base.specs.declared.request.PostedSend.{PostedSend}
use Rattle.ca_base.specs.declared.request.SendRequest.{SendRequest}
use Rattle.ca_base.specs.objects.QueuePair.{QueuePair}
use Rattle.ca_base.specs.objects.StateTable.{state_eq}
use Rattle.ca_law_caused.specs.Causes.{completes_with_cause, has_own_cause}
use Rattle.ca_law_caused.specs.Explained.{is_faulty}
use Rattle.ca_law_caused.proofs.Caused.StoryLemmas.{AreCalm, AreFlushes, IsCalm, Story, WhyReceive, WhySend, denials, denies, drops, goes, invalid, on, refuses}
use Rattle.ca_keys.specs.Equal.{queue_eq}
use Rattle.ca_keys.specs.declared.names.QueueId.{QueueId}
use Rattle.ca_law_world.proofs.Sound.SettledLemmas.{queue-refl}
use Rattle.ca_keys.specs.declared.verdict.Verdict.TheVariants as verdicts
use Rattle.ca_model.specs.machine.Requester.{local_denial}
use Rattle.ca_model.specs.Caused.{is_by_piece, is_denied_list, may_be_in_error}
use Rattle.ca_model.specs.Packets.{asks_invalidate, is_response, is_send}
use Rattle.ca_model.specs.Past.{Fault, Past, Posted, DeniedAccess, ReceiveFailed, SendFailed, after_mark, after_marks, arrived_at_hand, correspondent_eq, each_mark, faults_after, faults_of, is_unmarked_at_hand, nothing_at_hand, opening_past, posted_at, present_incarnation}
use Rattle.ca_model.specs.Requests.{is_local, list_of}
use Rattle.ca_model.specs.declared.mark.Mark.{Mark}
use Rattle.ca_model.specs.declared.mark.Mark.TheVariants as marks
use Rattle.ca_model.specs.machine.Completions.{send_completion}
use Rattle.ca_wire.specs.Packet.{Fields}
use Rattle.ca_law_caused.proofs.Caused.KnownLemmas.{Arrives, Fires, IsOn, Known, Occasion, Turns, first_at, fits_at, is_fired, progress_after}
use Rattle.ca_law_caused.proofs.Caused.StoryLemmas.{GoesOn, IsTold, fails}
use Rattle.std.proofs.Common.{ap₂, suc, arith, true≢false, ◌==◌, ◌+◌, ◌-◌, ◌≤◌, ◌<◌, nat_le, nat_lt, map, sum_by, take}
use Rattle.std.proofs.lemmas.Bool.Decides.{nat_tests}
use Rattle.ca_base.specs.declared.limits.TheConstants.{MAX_RETRY}
use Rattle.ca_model.specs.Caused.{Told, is_fitting_answer, told_at_hand}
use Rattle.ca_model.specs.Past.{Start, mtu_of, progress_at_hand, start_of, whole_start}
use Rattle.ca_model.specs.Progress.{Answers, Progress, Refuses, Response, after_response_packet, response_in, with_retry}
use Rattle.ca_model.specs.Requests.{psns_of}
use Rattle.ca_model.specs.machine.Invariants.{is_connected, is_fresh, is_sending}
use Rattle.ca_psn.specs.Psn.{widened}
use Rattle.ca_wire.specs.Syndrome.{nak_code}
use Rattle.ca_model.specs.machine.Completions.{failure_mark}
use Rattle.ca_model.specs.Past.{Arrival}
use Rattle.ca_wire.specs.declared.syndrome.NakCode.TheVariants.{InvalidRequest, RemoteAccessError, RemoteOperationalError}

-- ---- what calm marks leave

-- what befell a queue pair in its present incarnation
abbrev pub faults_of_queue : Past → QueueId → List Fault
faults_of_queue past q = past.faults (present_incarnation past q)

-- a past without what calm marks and completions tell
abbrev pub bare : Past → Past
bare r = record (opening_past (λ p. 0)) {
  incarnation = r.incarnation;
  naming = r.naming;
  envelopes = r.envelopes;
  posted = r.posted;
  receives = r.receives;
  srq = r.srq;
  shared = r.shared;
  placed = r.placed;
  progress = r.progress;
  starts = r.starts;
  at_hand = record (nothing_at_hand r.at_hand.event []) { arrival = r.at_hand.arrival; dropped = r.at_hand.dropped; fired = r.at_hand.fired };
}

-- ---- faults

pub some-append : {A : Type 0} (xs ys : List A) → is_some (slice_get ys 0) ≡ true → is_some (slice_get (xs ++ ys) 0) ≡ true
some-append [] ys is = is
some-append (x ∷ xs) ys is = refl

pub faults-own : (r : Past) (n name : QueueId) (fs : List Fault) → n ≡ name → faults_after r n fs (present_incarnation r name) ≡ fs ++ faults_of_queue r name
faults-own r n name fs is = ap (λ k. faults_after r k fs (present_incarnation r name)) is
    ∙ ap (λ b. if b then fs ++ faults_of_queue r name else faults_of_queue r name) (life-refl (present_incarnation r name))

pub faults-other : (r : Past) (n name : QueueId) (fs : List Fault) (l : Correspondent) → n ≡ name → correspondent_eq (present_incarnation r name) l ≡ false → faults_after r n fs l ≡ r.faults l
faults-other r n name fs l is other = ap (λ k. faults_after r k fs l) is ∙ ap (λ b. if b then fs ++ faults_of_queue r name else r.faults l) other

-- marks leave the incarnation, and no other queue pair's faults; those of one do not go
pub record KeepsFaults (name : QueueId) (r s : Past) : Type 0 where
  pub incarnation : s.incarnation ≡ r.incarnation
  pub own : is_faulty (faults_of_queue r name) ≡ true → is_faulty (s.faults (present_incarnation r name)) ≡ true
  pub others : (l : Correspondent) → correspondent_eq (present_incarnation r name) l ≡ false → s.faults l ≡ r.faults l

pub keeps-refl : (name : QueueId) (r : Past) → KeepsFaults name r r
keeps-refl name r = record { incarnation = refl; own = λ is. is; others = λ l other. refl }

pub keeps-then : (name : QueueId) (r s t : Past) → KeepsFaults name r s → KeepsFaults name s t → KeepsFaults name r t
keeps-then name r s t one more = record {
  incarnation = more.incarnation ∙ one.incarnation;
  own = λ is. subst (λ i. is_faulty (t.faults (record { queue = name; incarnation = i name })) ≡ true) one.incarnation
      (more.own (subst (λ i. is_faulty (s.faults (record { queue = name; incarnation = i name })) ≡ true) (sym one.incarnation) (one.own is)));
  others = λ l other. more.others l (ap (λ i. correspondent_eq (record { queue = name; incarnation = i name }) l) one.incarnation ∙ other) ∙ one.others l other;
}

-- one mark that adds to the faults of this queue pair
added : (name n : QueueId) (r s : Past) (fs : List Fault) → n ≡ name → s.incarnation ≡ r.incarnation → s.faults ≡ faults_after r n fs → KeepsFaults name r s
added name n r s fs own incarnation faults = record {
  incarnation = incarnation;
  own = λ is. ap (λ f. is_faulty (f (present_incarnation r name))) faults ∙ ap is_faulty (faults-own r n name fs own) ∙ some-append fs (faults_of_queue r name) is;
  others = λ l other. ap (λ f. f l) faults ∙ faults-other r n name fs l own other;
}

pub done-keeps : (name queue : QueueId) (x : Completion) (cause : Option OpRefusal) (r : Past) → x.queue ≡ name → KeepsFaults name r (after_mark (marks.Done queue x cause) r)
done-keeps name queue x cause r own = added name x.queue r (after_mark (marks.Done queue x cause) r) (faults_of x) own refl refl

-- ---- calm marks

calm-keeps : (name : QueueId) (m : Mark) (r : Past) → IsCalm name m → KeepsFaults name r (after_mark m r)
calm-keeps name (marks.Done queue x cause) r calm = done-keeps name queue x cause r calm.0
calm-keeps name (marks.Remote queue domain envelope key kind address count verdict) r calm = added name queue r _ _ calm refl refl
calm-keeps name (marks.Local queue domain key kind address count verdict) r calm = record { incarnation = refl; own = λ is. is; others = λ l other. refl }
calm-keeps name (marks.Granted g) r calm = record { incarnation = refl; own = λ is. is; others = λ l other. refl }
calm-keeps name (marks.Revoked adapter key) r calm = record { incarnation = refl; own = λ is. is; others = λ l other. refl }
calm-keeps name (marks.Verb by verb answer) r calm = absurd calm
calm-keeps name (marks.Stored place bytes) r calm = absurd calm
calm-keeps name (marks.Sent source target index request bytes) r calm = absurd calm
calm-keeps name (marks.Lost target index) r calm = absurd calm
calm-keeps name (marks.Arrived target index) r calm = absurd calm
calm-keeps name (marks.Dropped target cause) r calm = absurd calm
calm-keeps name (marks.Timer queue silent) r calm = absurd calm

calm-bare : (name : QueueId) (m : Mark) (r : Past) → IsCalm name m → bare (after_mark m r) ≡ bare r
calm-bare name (marks.Done queue x cause) r calm = refl
calm-bare name (marks.Remote queue domain envelope key kind address count verdict) r calm = refl
calm-bare name (marks.Local queue domain key kind address count verdict) r calm = refl
calm-bare name (marks.Granted g) r calm = refl
calm-bare name (marks.Revoked adapter key) r calm = refl
calm-bare name (marks.Verb by verb answer) r calm = absurd calm
calm-bare name (marks.Stored place bytes) r calm = absurd calm
calm-bare name (marks.Sent source target index request bytes) r calm = absurd calm
calm-bare name (marks.Lost target index) r calm = absurd calm
calm-bare name (marks.Arrived target index) r calm = absurd calm
calm-bare name (marks.Dropped target cause) r calm = absurd calm
calm-bare name (marks.Timer queue silent) r calm = absurd calm

calm-pass : (name : QueueId) (m : Mark) (r : Past) → IsCalm name m → completes_with_cause r m ≡ true
calm-pass name (marks.Done queue x cause) r calm = ap (has_own_cause r x cause) calm.1
calm-pass name (marks.Remote queue domain envelope key kind address count verdict) r calm = refl
calm-pass name (marks.Local queue domain key kind address count verdict) r calm = refl
calm-pass name (marks.Granted g) r calm = refl
calm-pass name (marks.Revoked adapter key) r calm = refl
calm-pass name (marks.Verb by verb answer) r calm = refl
calm-pass name (marks.Stored place bytes) r calm = refl
calm-pass name (marks.Sent source target index request bytes) r calm = refl
calm-pass name (marks.Lost target index) r calm = refl
calm-pass name (marks.Arrived target index) r calm = refl
calm-pass name (marks.Dropped target cause) r calm = refl
calm-pass name (marks.Timer queue silent) r calm = refl

-- what marks leave: they pass, and keep faults and all that is bare
pub record Passed (name : QueueId) (r : Past) (ms : List Mark) : Type 0 where
  pub passes : each_mark completes_with_cause r ms ≡ true
  pub keeps : KeepsFaults name r (after_marks ms r)
  pub same : bare (after_marks ms r) ≡ bare r

pub passed-none : (name : QueueId) (r : Past) → Passed name r []
passed-none name r = record { passes = refl; keeps = keeps-refl name r; same = refl }

passed-one : (name : QueueId) (r : Past) (m : Mark) (ms : List Mark) → completes_with_cause r m ≡ true → KeepsFaults name r (after_mark m r) → bare (after_mark m r) ≡ bare r → Passed name (after_mark m r) ms → Passed name r (m ∷ ms)
passed-one name r m ms passes keeps same rest = record {
  passes = both-true (completes_with_cause r m) _ passes rest.passes;
  keeps = keeps-then name r (after_mark m r) (after_marks ms (after_mark m r)) keeps rest.keeps;
  same = rest.same ∙ same;
}

pub passed-calm : (name : QueueId) (ms : List Mark) (r : Past) → AreCalm name ms → Passed name r ms
passed-calm name [] r calm = passed-none name r
passed-calm name (m ∷ ms) r calm = passed-one name r m ms (calm-pass name m r calm.0) (calm-keeps name m r calm.0) (calm-bare name m r calm.0) (passed-calm name ms (after_mark m r) calm.1)

-- marks that pass, behind others
pub each-append : (ms ns : List Mark) (r : Past) → each_mark completes_with_cause r ms ≡ true → each_mark completes_with_cause (after_marks ms r) ns ≡ true → each_mark completes_with_cause r (ms ++ ns) ≡ true
each-append [] ns r one other = other
each-append (m ∷ ms) ns r one other = both-true (completes_with_cause r m) _ (and_parts (completes_with_cause r m) _ one).0 (each-append ms ns (after_mark m r) (and_parts (completes_with_cause r m) _ one).1 other)

pub passed-append : (name : QueueId) (ms ns : List Mark) (r : Past) → Passed name r ms → Passed name (after_marks ms r) ns → Passed name r (ms ++ ns)
passed-append name ms ns r one other = record {
  passes = each-append ms ns r one.passes other.passes;
  keeps = subst (KeepsFaults name r) (sym (marks-append ms ns r)) (keeps-then name r (after_marks ms r) (after_marks ns (after_marks ms r)) one.keeps other.keeps);
  same = ap bare (marks-append ms ns r) ∙ other.same ∙ one.same;
}

-- ---- flushes

pub either : (a b : Bool) (P : Type 0) → (a || b) ≡ true → (a ≡ true → P) → (b ≡ true → P) → P
either true b P is one other = one refl
either false b P is one other = other is

pub or-left : (a b : Bool) → a ≡ true → (a || b) ≡ true
or-left a b is = ap (λ z. z || b) is

pub or-right : (a b : Bool) → b ≡ true → (a || b) ≡ true
or-right true b is = refl
or-right false b is = is

all-more : (test : Completion → Bool) (xs : List Completion) (x : Completion) → list_all test xs ≡ true → test x ≡ true → list_all test (xs ++ (x ∷ [])) ≡ true
all-more test [] x all one = both-true (test x) true one refl
all-more test (y ∷ ys) x all one = both-true (test y) _ (and_parts (test y) _ all).0 (all-more test ys x (and_parts (test y) _ all).1 one)

-- a flush leaves a request that came without a mark of its own
unmarked-more : (name queue : QueueId) (x : Completion) (cause : Option OpRefusal) (r : Past) → x.status ≡ statuses.Flushed → is_unmarked_at_hand r name ≡ true → is_unmarked_at_hand (after_mark (marks.Done queue x cause) r) name ≡ true
unmarked-more name queue x cause r flushed is = both-true front _ (and_parts front _ is).0 (all-more (λ c. status_eq c.status statuses.Flushed) r.at_hand.completed x (and_parts front _ is).1 (ap (λ s. status_eq s statuses.Flushed) flushed))
  where
    front : Bool
    front = option_map_or (λ p. not (is_response p.opcode)) (arrived_at_hand r name) false && not r.at_hand.used_remotely && not r.at_hand.used_list

flush-kept : (name queue : QueueId) (x : Completion) (cause : Option OpRefusal) (r : Past) → x.queue ≡ name → x.status ≡ statuses.Flushed → may_be_in_error r name ≡ true → may_be_in_error (after_mark (marks.Done queue x cause) r) name ≡ true
flush-kept name queue x cause r own flushed may = either (is_faulty (faults_of_queue r name)) (is_unmarked_at_hand r name) (may_be_in_error (after_mark (marks.Done queue x cause) r) name ≡ true) may
    (λ faulty. or-left (is_faulty (faults_of_queue (after_mark (marks.Done queue x cause) r) name)) _ ((done-keeps name queue x cause r own).own faulty))
    (λ unmarked. or-right (is_faulty (faults_of_queue (after_mark (marks.Done queue x cause) r) name)) _ (unmarked-more name queue x cause r flushed unmarked))

-- flushes pass where the queue pair may be in Error
pub passed-flushes : (name : QueueId) (ms : List Mark) (r : Past) → AreFlushes name ms → may_be_in_error r name ≡ true → Passed name r ms × (may_be_in_error (after_marks ms r) name ≡ true)
passed-flushes name [] r flushes may = (passed-none name r, may)
passed-flushes name (marks.Done queue x cause ∷ ms) r flushes may = by (passed-flushes name ms (after_mark (marks.Done queue x cause) r) flushes.1 (flush-kept name queue x cause r flushes.0.0 flushes.0.1 may))
  where
    by : Passed name (after_mark (marks.Done queue x cause) r) ms × (may_be_in_error (after_marks ms (after_mark (marks.Done queue x cause) r)) name ≡ true)
        → Passed name r (marks.Done queue x cause ∷ ms) × (may_be_in_error (after_marks ms (after_mark (marks.Done queue x cause) r)) name ≡ true)
    by rest = (
      passed-one name r (marks.Done queue x cause) ms (ap (has_own_cause r x cause) flushes.0.1 ∙ ap (may_be_in_error r) flushes.0.0 ∙ may) (done-keeps name queue x cause r flushes.0.0) refl rest.0,
      rest.1,
    )
passed-flushes name (marks.Verb by verb answer ∷ ms) r flushes may = absurd flushes.0
passed-flushes name (marks.Remote queue domain envelope key kind address count verdict ∷ ms) r flushes may = absurd flushes.0
passed-flushes name (marks.Local queue domain key kind address count verdict ∷ ms) r flushes may = absurd flushes.0
passed-flushes name (marks.Granted g ∷ ms) r flushes may = absurd flushes.0
passed-flushes name (marks.Revoked adapter key ∷ ms) r flushes may = absurd flushes.0
passed-flushes name (marks.Stored place bytes ∷ ms) r flushes may = absurd flushes.0
passed-flushes name (marks.Sent source target index request bytes ∷ ms) r flushes may = absurd flushes.0
passed-flushes name (marks.Lost target index ∷ ms) r flushes may = absurd flushes.0
passed-flushes name (marks.Arrived target index ∷ ms) r flushes may = absurd flushes.0
passed-flushes name (marks.Dropped target cause ∷ ms) r flushes may = absurd flushes.0
passed-flushes name (marks.Timer queue silent ∷ ms) r flushes may = absurd flushes.0

-- a completion that is a failure, and flushes behind it
passed-failure : (name queue : QueueId) (x : Completion) (cause : Option OpRefusal) (ms : List Mark) (r : Past) → x.queue ≡ name → (status_eq x.status statuses.Success || status_eq x.status statuses.Flushed) ≡ false
    → has_own_cause r x cause x.status ≡ true → AreFlushes name ms
    → Passed name r (marks.Done queue x cause ∷ ms) × (may_be_in_error (after_marks (marks.Done queue x cause ∷ ms) r) name ≡ true)
passed-failure name queue x cause ms r own failed caused flushes = by (passed-flushes name ms (after_mark (marks.Done queue x cause) r) flushes (or-left _ _ faulty))
  where
    fault : List Fault
    fault = (if x.receive then ReceiveFailed x.status else SendFailed x.status) ∷ []

    faulty : is_faulty (faults_of_queue (after_mark (marks.Done queue x cause) r) name) ≡ true
    faulty = ap is_faulty (faults-own r x.queue name (faults_of x) own) ∙ ap (λ b. is_faulty ((if b then [] else fault) ++ faults_of_queue r name)) failed

    by : Passed name (after_mark (marks.Done queue x cause) r) ms × (may_be_in_error (after_marks ms (after_mark (marks.Done queue x cause) r)) name ≡ true)
        → Passed name r (marks.Done queue x cause ∷ ms) × (may_be_in_error (after_marks ms (after_mark (marks.Done queue x cause) r)) name ≡ true)
    by rest = (passed-one name r (marks.Done queue x cause) ms caused (done-keeps name queue x cause r own) refl rest.0, rest.1)

-- ---- causes

-- a packet that arrived as an event's first mark told
pub record IsArrival (r : Past) (name : QueueId) (p : Fields) : Type 0 where
  pub arrived : arrived_at_hand r name ≡ Some p
  pub remotely : r.at_hand.used_remotely ≡ false
  pub list : r.at_hand.used_list ≡ false
  pub completed : r.at_hand.completed ≡ []
  pub fired : r.at_hand.fired ≡ None

-- an event that no packet and no timer began
pub record IsTurn (r : Past) (name : QueueId) : Type 0 where
  pub arrived : arrived_at_hand r name ≡ None
  pub fired : r.at_hand.fired ≡ None

abbrev pub IsOccasion : Past → QueueId → Occasion → Type 0
IsOccasion r name (Arrives p) = IsArrival r name p
IsOccasion r name Fires = r.at_hand.fired ≡ Some name
IsOccasion r name Turns = IsTurn r name

-- what a past tells of a queue pair that sends
pub record IsTied (k : Known) (name : QueueId) (r : Past) : Type 0 where
  pub begin : Start
  pub start : start_of r name ≡ Some begin
  pub whole : whole_start begin ≡ k.begin
  pub retry : begin.retry ≡ k.retry
  pub rnr_retry : begin.rnr_retry ≡ k.rnr_retry
  pub mtu : mtu_of r name ≡ k.mtu
  pub progress : r.progress (present_incarnation r name) ≡ k.before

-- a past that meets a queue pair: what was posted to it, what happens, and, where it sends, what is told of that
pub record Met (k : Known) (o : Occasion) (name : QueueId) (r : Past) : Type 0 where
  pub posted : r.posted (present_incarnation r name) ≡ k.posted
  pub occasion : IsOccasion r name o
  pub sends : k.sending ≡ true → IsTied k name r

-- a past behind calm marks has what was posted, too
posted-behind : (ps : List Posted) (name : QueueId) (r s : Past) (place : ℕ) (request : SendRequest) → bare s ≡ bare r → r.posted (present_incarnation r name) ≡ ps → (at : IsRequestAt ps place request) → posted_at s name place ≡ Some at.posted
posted-behind ps name r s place request same posted at = ap (λ t. posted_at t name place) {x = bare s} {y = bare r} same ∙ ap (λ xs. slice_get xs place) posted ∙ at.is

failed-send : (k : Known) (o : Occasion) (name : QueueId) (place : ℕ) (item : PostedSend) (denial : Option DeniedAsk) (cause : Option OpRefusal) (status : WcStatus) → WhySend k o name place item denial cause status → (status_eq status statuses.Success || status_eq status statuses.Flushed) ≡ false
failed-send k o name place item denial cause statuses.Success why = absurd why
failed-send k o name place item denial cause statuses.Flushed why = absurd why
failed-send k o name place item denial cause statuses.LocalLength why = refl
failed-send k o name place item denial cause statuses.LocalProtection why = refl
failed-send k o name place item denial cause statuses.MemoryManagement why = refl
failed-send k o name place item denial cause statuses.RemoteInvalidRequest why = refl
failed-send k o name place item denial cause statuses.RemoteAccess why = refl
failed-send k o name place item denial cause statuses.RemoteOperation why = refl
failed-send k o name place item denial cause statuses.RetryExceeded why = refl
failed-send k o name place item denial cause statuses.RnrRetryExceeded why = refl
failed-send k o name place item denial cause statuses.BadResponse why = refl

failed-receive : (p : Fields) (name : QueueId) (denial : Option DeniedAsk) (cause : Option OpRefusal) (status : WcStatus) → WhyReceive p name denial cause status → (status_eq status statuses.Success || status_eq status statuses.Flushed) ≡ false
failed-receive p name denial cause statuses.Success why = absurd why
failed-receive p name denial cause statuses.Flushed why = absurd why
failed-receive p name denial cause statuses.LocalLength why = refl
failed-receive p name denial cause statuses.LocalProtection why = refl
failed-receive p name denial cause statuses.MemoryManagement why = refl
failed-receive p name denial cause statuses.RemoteInvalidRequest why = absurd why
failed-receive p name denial cause statuses.RemoteAccess why = absurd why
failed-receive p name denial cause statuses.RemoteOperation why = absurd why
failed-receive p name denial cause statuses.RetryExceeded why = absurd why
failed-receive p name denial cause statuses.RnrRetryExceeded why = absurd why
failed-receive p name denial cause statuses.BadResponse why = absurd why

-- ---- responses

-- the mark of a denial leaves what is bare
denial-same : (d : Option DeniedAsk) (r s : Past) → bare s ≡ bare r → bare (after_marks (denials d) s) ≡ bare r
denial-same None r s same = same
denial-same (Some d) r s same = same

same-number : (n : ℕ) → (n == n) ≡ true
same-number n = grind (arith, nat_tests)

-- what a packet that arrived leaves of the progress
abbrev responded_by : Past → QueueId → Fields → Progress
responded_by r name p =
    if is_response p.opcode
    then option_map_or (λ start. after_response_packet (mtu_of r name) (whole_start start) (map (λ p. p.request.op) (r.posted (present_incarnation r name))) p (r.progress (present_incarnation r name))) (start_of r name) (r.progress (present_incarnation r name))
    else r.progress (present_incarnation r name)

-- the progress with the event at hand is the one that the event leaves
pub now-at-hand : (k : Known) (o : Occasion) (name : QueueId) (r : Past) → Met k o name r → IsTied k name r → progress_at_hand r name ≡ progress_after k o
now-at-hand k Fires name r met tied = ap (λ f. if option_map_or (queue_eq name) f false then with_retry (r.progress (present_incarnation r name)) else option_map_or (responded_by r name) (arrived_at_hand r name) (r.progress (present_incarnation r name))) met.occasion
    ∙ ap (λ b. if b then with_retry (r.progress (present_incarnation r name)) else option_map_or (responded_by r name) (arrived_at_hand r name) (r.progress (present_incarnation r name))) (queue-refl name) ∙ ap with_retry tied.progress
now-at-hand k Turns name r met tied = ap (λ f. if option_map_or (queue_eq name) f false then with_retry (r.progress (present_incarnation r name)) else option_map_or (responded_by r name) (arrived_at_hand r name) (r.progress (present_incarnation r name))) met.occasion.fired
    ∙ ap (λ o. option_map_or (responded_by r name) o (r.progress (present_incarnation r name))) met.occasion.arrived ∙ tied.progress
now-at-hand k (Arrives p) name r met tied = ap (λ f. if option_map_or (queue_eq name) f false then with_retry (r.progress (present_incarnation r name)) else option_map_or (responded_by r name) (arrived_at_hand r name) (r.progress (present_incarnation r name))) met.occasion.fired
    ∙ ap (λ o. option_map_or (responded_by r name) o (r.progress (present_incarnation r name))) met.occasion.arrived
    ∙ ap (λ s. if is_response p.opcode then option_map_or (λ start. from (mtu_of r name) (whole_start start) (r.posted (present_incarnation r name)) (r.progress (present_incarnation r name))) s (r.progress (present_incarnation r name)) else r.progress (present_incarnation r name)) tied.start
    ∙ ap (λ m. if is_response p.opcode then from m (whole_start tied.begin) (r.posted (present_incarnation r name)) (r.progress (present_incarnation r name)) else r.progress (present_incarnation r name)) tied.mtu
    ∙ ap (λ w. if is_response p.opcode then from k.mtu w (r.posted (present_incarnation r name)) (r.progress (present_incarnation r name)) else r.progress (present_incarnation r name)) tied.whole
    ∙ ap (λ ps. if is_response p.opcode then from k.mtu k.begin ps (r.progress (present_incarnation r name)) else r.progress (present_incarnation r name)) met.posted
    ∙ ap (λ g. if is_response p.opcode then from k.mtu k.begin k.posted g else g) tied.progress
  where
    from : ℕ → ℕ → List Posted → Progress → Progress
    from mtu start ps g = after_response_packet mtu start (map (λ p. p.request.op) ps) p g

-- the same behind calm marks
now-behind : (k : Known) (o : Occasion) (name : QueueId) (r s : Past) → bare s ≡ bare r → Met k o name r → IsTied k name r → progress_at_hand s name ≡ progress_after k o
now-behind k o name r s same met tied = ap (λ t. progress_at_hand t name) {x = bare s} {y = bare r} same ∙ now-at-hand k o name r met tied

start-behind : (k : Known) (name : QueueId) (r s : Past) → bare s ≡ bare r → (tied : IsTied k name r) → start_of s name ≡ Some tied.begin
start-behind k name r s same tied = ap (λ t. start_of t name) {x = bare s} {y = bare r} same ∙ tied.start

fired-none : (o : Occasion) (name : QueueId) (r : Past) → is_fired o ≡ false → IsOccasion r name o → r.at_hand.fired ≡ None
fired-none (Arrives p) name r arrives is = is.fired
fired-none Turns name r arrives is = is.fired
fired-none Fires name r arrives is = absurd (true≢false arrives)

-- what is told of a request by its parts
abbrev told_by : Option Fields → Option Start → Option Posted → ℕ → ℕ → List Posted → ℕ → Option Told
told_by o start posted una mtu ps place = by o start posted
  where
    first : Start → ℕ
    first start = whole_start start + sum_by (λ p. psns_of mtu p.request.op) (take place ps)

    psn : Fields → ℕ
    psn p = widened una p.psn

    told : Fields → Start → Posted → Option Response → Option Told
    told p start posted None = None
    told p start posted (Some response) =
        if nat_le (first start) (psn p) && nat_lt (psn p) (first start + psns_of mtu posted.request.op)
        then Some (record { packet = p; index = psn p - first start; response = response })
        else None

    by : Option Fields → Option Start → Option Posted → Option Told
    by (Some p) (Some start) (Some posted) = if is_response p.opcode then told p start posted (response_in p) else None
    by p start posted = None

told-behind : (k : Known) (o : Occasion) (name : QueueId) (r s : Past) (place : ℕ) (item : PostedSend) (response : Response) (x : Completion) → bare s ≡ bare r → Met k o name r → IsTied k name r → IsRequestAt k.posted place item.request
    → x.queue ≡ name → x.place ≡ place → (told : IsTold k o place item response) → told_at_hand s x ≡ Some (record { packet = told.packet; index = told.psn - first_at k place; response = response })
told-behind k o name r s place item response x same met tied at own here told =
    ap₂ (λ n i. told_by (arrived_at_hand s n) (start_of s n) (posted_at s n i) (s.progress (present_incarnation s n)).una (mtu_of s n) (s.posted (present_incarnation s n)) i) own here
    ∙ ap (λ t. told_by (arrived_at_hand t name) (start_of t name) (posted_at t name place) (t.progress (present_incarnation t name)).una (mtu_of t name) (t.posted (present_incarnation t name)) place) {x = bare s} {y = bare r} same
    ∙ ap (λ a. told_by a (start_of r name) (posted_at r name place) (r.progress (present_incarnation r name)).una (mtu_of r name) (r.posted (present_incarnation r name)) place) (arrived (subst (IsOccasion r name) told.arrives met.occasion))
    ∙ ap (λ b. told_by (Some told.packet) b (posted_at r name place) (r.progress (present_incarnation r name)).una (mtu_of r name) (r.posted (present_incarnation r name)) place) tied.start
    ∙ ap (λ b. told_by (Some told.packet) (Some tied.begin) b (r.progress (present_incarnation r name)).una (mtu_of r name) (r.posted (present_incarnation r name)) place) (posted-behind k.posted name r r place item.request refl met.posted at)
    ∙ ap (λ (g : Progress). told_by (Some told.packet) (Some tied.begin) (Some at.posted) g.una (mtu_of r name) (r.posted (present_incarnation r name)) place) tied.progress
    ∙ ap (λ m. told_by (Some told.packet) (Some tied.begin) (Some at.posted) k.before.una m (r.posted (present_incarnation r name)) place) tied.mtu
    ∙ ap (λ ps. told_by (Some told.packet) (Some tied.begin) (Some at.posted) k.before.una k.mtu ps place) met.posted
    ∙ ap (λ b. if b then says (whole_start tied.begin) at.posted.request (widened k.before.una told.packet.psn) (response_in told.packet) else None) told.is.is
    ∙ ap (says (whole_start tied.begin) at.posted.request (widened k.before.una told.packet.psn)) told.is.says
    ∙ ap (λ w. says w at.posted.request (widened k.before.una told.packet.psn) (Some response)) tied.whole
    ∙ ap (λ q. says k.begin q (widened k.before.una told.packet.psn) (Some response)) at.same
    ∙ ap (λ n. says k.begin item.request n (Some response)) told.is.at
    ∙ ap (λ b. if b then Some (record { packet = told.packet; index = told.psn - first_at k place; response = response }) else None) (both-true _ _ (low (first_at k place) told.psn told.low) (under told.psn _ told.high))
  where
    arrived : IsArrival r name told.packet → arrived_at_hand r name ≡ Some told.packet
    arrived is = is.arrived

    says : ℕ → SendRequest → ℕ → Option Response → Option Told
    says begin request psn None = None
    says begin request psn (Some response) =
        if nat_le (begin + sum_by (λ p. psns_of k.mtu p.request.op) (take place k.posted)) psn && nat_lt psn (begin + sum_by (λ p. psns_of k.mtu p.request.op) (take place k.posted) + psns_of k.mtu request.op)
        then Some (record { packet = told.packet; index = psn - (begin + sum_by (λ p. psns_of k.mtu p.request.op) (take place k.posted)); response = response })
        else None

    low : (a b : ℕ) → a ≤ b → nat_le a b ≡ true
    low a b less = grind (arith, nat_tests, less)

    under : (a b : ℕ) → a < b → nat_lt a b ≡ true
    under a b less = grind (arith, nat_tests, less)

-- a send that fails has its cause, behind the mark of its denial
caused-send : (k : Known) (o : Occasion) (name : QueueId) (r s : Past) (place : ℕ) (item : PostedSend) (denial : Option DeniedAsk) (cause : Option OpRefusal) (status : WcStatus)
    → bare s ≡ bare r → Met k o name r → IsRequestAt k.posted place item.request → WhySend k o name place item denial cause status
    → has_own_cause (after_marks (denials denial) s) (send_completion name place item.request status 0) cause status ≡ true
caused-send k o name r s place item denial cause statuses.MemoryManagement same met at why = both-true (is_some cause) _ why.0
    (ap (λ o. option_map_or (λ (p : Posted). is_local p.request.op) o false) (posted-behind k.posted name r (after_marks (denials denial) s) place item.request (denial-same denial r s same) met.posted at) ∙ ap (λ (x : SendRequest). is_local x.op) at.same ∙ why.1)
caused-send k o name r s place item None cause statuses.LocalProtection same met at why = absurd why
caused-send k o name r s place item (Some d) cause statuses.LocalProtection same met at why =
    ap (λ o. by_list (option_map (λ (p : Posted). list_of p.request.op) o)) (posted-behind k.posted name r (after_mark (local_denial d) s) place item.request same met.posted at)
    ∙ ap (λ (x : SendRequest). denied (list_of x.op)) at.same ∙ or-left (queue_eq d.ask.queue name && list_any (is_by_piece d.ask) (list_of item.request.op)) _ (both-true _ _ (ap (λ n. queue_eq n name) why.0 ∙ queue-refl name) why.1)
  where
    denied : List Piece → Bool
    denied pieces = list_any (λ ask. queue_eq ask.queue name && list_any (is_by_piece ask) pieces) (after_mark (local_denial d) s).at_hand.denied_locally

    by_list : Option (List Piece) → Bool
    by_list o = option_map_or denied o false
caused-send k o name r s place item denial cause statuses.Success same met at why = absurd why
caused-send k o name r s place item denial cause statuses.Flushed same met at why = absurd why
caused-send k o name r s place item denial cause statuses.LocalLength same met at why = absurd why
caused-send k o name r s place item denial cause statuses.RemoteInvalidRequest same met at why =
    ap (λ t. option_map_or (λ (t : Told). is_nak t.response) t false) (told-behind k o name r (after_marks (denials denial) s) place item (Refuses InvalidRequest) (send_completion name place item.request statuses.RemoteInvalidRequest 0) (denial-same denial r s same) met (met.sends why.sending) at refl refl why)
  where
    is_nak : Response → Bool
    is_nak (Refuses found) = nak_code found == nak_code InvalidRequest
    is_nak response = false
caused-send k o name r s place item denial cause statuses.RemoteAccess same met at why =
    ap (λ t. option_map_or (λ (t : Told). is_nak t.response) t false) (told-behind k o name r (after_marks (denials denial) s) place item (Refuses RemoteAccessError) (send_completion name place item.request statuses.RemoteAccess 0) (denial-same denial r s same) met (met.sends why.sending) at refl refl why)
  where
    is_nak : Response → Bool
    is_nak (Refuses found) = nak_code found == nak_code RemoteAccessError
    is_nak response = false
caused-send k o name r s place item denial cause statuses.RemoteOperation same met at why =
    ap (λ t. option_map_or (λ (t : Told). is_nak t.response) t false) (told-behind k o name r (after_marks (denials denial) s) place item (Refuses RemoteOperationalError) (send_completion name place item.request statuses.RemoteOperation 0) (denial-same denial r s same) met (met.sends why.sending) at refl refl why)
  where
    is_nak : Response → Bool
    is_nak (Refuses found) = nak_code found == nak_code RemoteOperationalError
    is_nak response = false
caused-send k o name r s place item denial cause statuses.RetryExceeded same met at why = by (met.sends why.0)
  where
    t : Past
    t = after_marks (denials denial) s

    retried : Start → Progress → Bool
    retried start g = g.retries == suc start.retry

    by : IsTied k name r → option_map_or (λ start. retried start (progress_at_hand t name)) (start_of t name) false ≡ true
    by tied = ap (λ b. option_map_or (λ start. retried start (progress_at_hand t name)) b false) (start-behind k name r t (denial-same denial r s same) tied)
        ∙ ap (retried tied.begin) (now-behind k o name r t (denial-same denial r s same) met tied) ∙ ap (λ n. (progress_after k o).retries == suc n) tied.retry ∙ ap (λ n. n == suc k.retry) why.1 ∙ same-number (suc k.retry)
caused-send k o name r s place item denial cause statuses.RnrRetryExceeded same met at why = by (met.sends why.0)
  where
    t : Past
    t = after_marks (denials denial) s

    exceeded : Start → Progress → Bool
    exceeded start g = nat_lt start.rnr_retry MAX_RETRY && (g.rnrs == suc start.rnr_retry)

    by : IsTied k name r → option_map_or (λ start. exceeded start (progress_at_hand t name)) (start_of t name) false ≡ true
    by tied = ap (λ b. option_map_or (λ start. exceeded start (progress_at_hand t name)) b false) (start-behind k name r t (denial-same denial r s same) tied)
        ∙ ap (exceeded tied.begin) (now-behind k o name r t (denial-same denial r s same) met tied) ∙ ap (λ n. nat_lt n MAX_RETRY && ((progress_after k o).rnrs == suc n)) tied.rnr_retry
        ∙ both-true _ _ why.1 (ap (λ n. n == suc k.rnr_retry) why.2 ∙ same-number (suc k.rnr_retry))
caused-send k o name r s place item denial cause statuses.BadResponse same met at why =
    ap (λ t. option_map_or (λ (t : Told). is_answer t.response && option_map_or (λ (p : Posted). not (is_fitting_answer z name p t)) (posted_at z name place) false) t false)
    (told-behind k o name r z place item Answers (send_completion name place item.request statuses.BadResponse 0) (denial-same denial r s same) met tied at refl refl why.told)
    ∙ ap (λ o. option_map_or (λ (p : Posted). not (is_fitting_answer z name p found)) o false) (posted-behind k.posted name r z place item.request (denial-same denial r s same) met.posted at)
    ∙ ap (λ m. not (fits_at m at.posted.request.op found.packet found.index)) (ap (λ t. mtu_of t name) {x = bare z} {y = bare r} (denial-same denial r s same) ∙ tied.mtu)
    ∙ ap (λ (q : SendRequest). not (fits_at k.mtu q.op found.packet found.index)) at.same ∙ ap not why.misfit
  where
    z : Past
    z = after_marks (denials denial) s

    tied : IsTied k name r
    tied = met.sends why.told.sending

    found : Told
    found = record { packet = why.told.packet; index = why.told.psn - first_at k place; response = Answers }

    is_answer : Response → Bool
    is_answer Answers = true
    is_answer response = false

-- a receive that fails, by the packet that arrived
caused-receive : (name : QueueId) (r s : Past) (p : Fields) (x : Completion) (denial : Option DeniedAsk) (cause : Option OpRefusal) (status : WcStatus) → bare s ≡ bare r → arrived_at_hand r name ≡ Some p → x.queue ≡ name → x.receive ≡ true
    → WhyReceive p name denial cause status → has_own_cause (after_marks (denials denial) s) x cause status ≡ true
caused-receive name r s p x denial cause statuses.MemoryManagement same arrived own receive why = both-true (is_some cause) _ why.0 (ap by receive
    ∙ ap (λ n. asks (arrived_at_hand z n)) own ∙ ap (λ t. asks (arrived_at_hand t name)) {x = bare z} {y = bare r} (denial-same denial r s same) ∙ ap asks arrived ∙ why.1)
  where
    z : Past
    z = after_marks (denials denial) s

    asks : Option Fields → Bool
    asks o = option_map_or (λ (p : Fields). asks_invalidate p.opcode) o false

    by : Bool → Bool
    by true = asks (arrived_at_hand z x.queue)
    by false = option_map_or (λ (p : Posted). is_local p.request.op) (posted_at z x.queue x.place) false
caused-receive name r s p x denial cause statuses.LocalLength same arrived own receive why = both-true x.receive _ receive
    (ap (λ n. sends (arrived_at_hand z n)) own ∙ ap (λ t. sends (arrived_at_hand t name)) {x = bare z} {y = bare r} (denial-same denial r s same) ∙ ap sends arrived ∙ why)
  where
    z : Past
    z = after_marks (denials denial) s

    sends : Option Fields → Bool
    sends o = option_map_or (λ (p : Fields). is_send p.opcode) o false
caused-receive name r s p x None cause statuses.LocalProtection same arrived own receive why = absurd why
caused-receive name r s p x (Some d) cause statuses.LocalProtection same arrived own receive why = ap (λ b. if b then denied x.queue else is_denied_list (after_mark (local_denial d) s) x) receive ∙ ap denied own ∙ or-left (queue_eq d.ask.queue name) _ why
  where
    denied : QueueId → Bool
    denied n = list_any (λ ask. queue_eq ask.queue n) (after_mark (local_denial d) s).at_hand.denied_locally
caused-receive name r s p x denial cause statuses.Success same arrived own receive why = absurd why
caused-receive name r s p x denial cause statuses.Flushed same arrived own receive why = absurd why
caused-receive name r s p x denial cause statuses.RemoteInvalidRequest same arrived own receive why = absurd why
caused-receive name r s p x denial cause statuses.RemoteAccess same arrived own receive why = absurd why
caused-receive name r s p x denial cause statuses.RemoteOperation same arrived own receive why = absurd why
caused-receive name r s p x denial cause statuses.RetryExceeded same arrived own receive why = absurd why
caused-receive name r s p x denial cause statuses.RnrRetryExceeded same arrived own receive why = absurd why
caused-receive name r s p x denial cause statuses.BadResponse same arrived own receive why = absurd why

-- ---- stories

-- what a story leaves: its marks pass, and where it leaves the queue pair in Error, that has its faults or a request came
-- without a mark
pub record Left (name : QueueId) (p : QueuePair) (r : Past) (ms : List Mark) : Type 0 where
  pub passes : each_mark completes_with_cause r ms ≡ true
  pub keeps : KeepsFaults name r (after_marks ms r)
  pub arrival : (after_marks ms r).at_hand.arrival ≡ r.at_hand.arrival
  pub error : state_eq p.state states.Error ≡ true → may_be_in_error (after_marks ms r) name ≡ true

pub left-passed : (name : QueueId) (p : QueuePair) (r : Past) (ms : List Mark) → Passed name r ms → (state_eq p.state states.Error ≡ true → may_be_in_error (after_marks ms r) name ≡ true) → Left name p r ms
left-passed name p r ms passed error = record { passes = passed.passes; keeps = passed.keeps; arrival = ap (λ (t : Past). t.at_hand.arrival) {x = bare (after_marks ms r)} {y = bare r} passed.same; error = error }

denials-calm : (name : QueueId) (d : Option DeniedAsk) → AreCalm name (denials d)
denials-calm name None = record {}
denials-calm name (Some d) = (record {}, record {})

-- a request came at hand, and nothing else is told
pub unmarked-arrival : (r : Past) (name : QueueId) (p : Fields) → IsArrival r name p → is_response p.opcode ≡ false → is_unmarked_at_hand r name ≡ true
unmarked-arrival r name p is request = both-true _ _ (both-true _ _ (both-true _ _
    (ap (λ o. option_map_or (λ (x : Fields). not (is_response x.opcode)) o false) is.arrived ∙ ap not request) (ap not is.remotely)) (ap not is.list)) (ap (list_all (λ c. status_eq c.status statuses.Flushed)) is.completed)

-- what stays of a past as marks tell a story; packets may be dropped and sent
abbrev pub kept : Past → Past
kept r = record (bare r) { envelopes = λ q. []; at_hand = record (bare r).at_hand { dropped = false } }

-- what a story leaves of the past, beside faults: all that is kept, and the progress of a queue pair that goes on
pub record Goes (k : Known) (q p : QueuePair) (r : Past) (ms : List Mark) : Type 0 where
  pub same : kept (after_marks ms r) ≡ kept r
  pub mtu : is_connected p.state ≡ true → (p.responder.mtu ≡ q.responder.mtu) × (p.state ≡ q.state)
  pub fresh : is_fresh p.state ≡ true → (p.requester.oldest ≡ q.requester.oldest) × (p.requester.rnrs ≡ q.requester.rnrs) × (p.state ≡ q.state)
  pub sends : is_sending p.state ≡ true → IsOn k (progress_at_hand (after_marks ms r) q.queue) p × (is_sending q.state ≡ true)

-- a queue pair in Error goes on with nothing
pub goes-error : (k : Known) (q p : QueuePair) (r : Past) (ms : List Mark) → kept (after_marks ms r) ≡ kept r → p.state ≡ states.Error → Goes k q p r ms
goes-error k q p r ms same error = record {
  same = same;
  mtu = λ is. absurd (true≢false (sym is ∙ ap is_connected error));
  fresh = λ is. absurd (true≢false (sym is ∙ ap is_fresh error));
  sends = λ is. absurd (true≢false (sym is ∙ ap is_sending error));
}

goes-on : (k : Known) (g : Progress) (q p : QueuePair) (r : Past) (ms : List Mark) → kept (after_marks ms r) ≡ kept r → GoesOn k g q p → (is_sending q.state ≡ true → progress_at_hand (after_marks ms r) q.queue ≡ g) → Goes k q p r ms
goes-on k g q p r ms same so now = record {
  same = same;
  mtu = λ is. (so.mtu, so.state);
  fresh = λ is. by (so.fresh (ap is_fresh (sym so.state) ∙ is));
  sends = λ is. (subst (λ h. IsOn k h p) (sym (now (ap is_sending (sym so.state) ∙ is))) (so.sends (ap is_sending (sym so.state) ∙ is)), ap is_sending (sym so.state) ∙ is);
}
  where
    by : (p.requester.oldest ≡ q.requester.oldest) × (p.requester.rnrs ≡ q.requester.rnrs) → (p.requester.oldest ≡ q.requester.oldest) × (p.requester.rnrs ≡ q.requester.rnrs) × (p.state ≡ q.state)
    by both = (both.0, both.1, so.state)

-- both
pub record Leaves (k : Known) (q p : QueuePair) (r : Past) (ms : List Mark) : Type 0 where
  pub left : Left q.queue p r ms
  pub goes : Goes k q p r ms

pub keeps-bare : (r s : Past) → bare s ≡ bare r → kept s ≡ kept r
keeps-bare r s same = ap {A = Past} (λ (t : Past). record t { envelopes = λ q. []; at_hand = record t.at_hand { dropped = false } }) same

-- a story of which nothing but an error is left
in-error : (k : Known) (q p : QueuePair) (r : Past) (ms : List Mark) → p.state ≡ states.Error → Passed q.queue r ms → may_be_in_error (after_marks ms r) q.queue ≡ true → Leaves k q p r ms
in-error k q p r ms error passed may = record { left = left-passed q.queue p r ms passed (λ is. may); goes = goes-error k q p r ms (keeps-bare r (after_marks ms r) passed.same) error }

-- a failure behind calm marks and a denial
denial-error : (k : Known) (q p : QueuePair) (r : Past) (before : List Mark) (d : Option DeniedAsk) (ms : List Mark) → p.state ≡ states.Error → AreCalm q.queue before
    → Passed q.queue (after_marks (denials d) (after_marks before r)) ms → may_be_in_error (after_marks ms (after_marks (denials d) (after_marks before r))) q.queue ≡ true → Leaves k q p r (before ++ (denials d ++ ms))
denial-error k q p r before d ms error calm passed may = in-error k q p r (before ++ (denials d ++ ms)) error
    (passed-append q.queue before (denials d ++ ms) r (passed-calm q.queue before r calm) (passed-append q.queue (denials d) ms (after_marks before r) (passed-calm q.queue (denials d) (after_marks before r) (denials-calm q.queue d)) passed))
    (subst (λ t. may_be_in_error t q.queue ≡ true) (sym (marks-append before (denials d ++ ms) r ∙ marks-append (denials d) ms (after_marks before r))) may)

pub story-leaves : (k : Known) (o : Occasion) (q p : QueuePair) (ms : List Mark) (r : Past) → Met k o q.queue r → (k.sending ≡ is_sending q.state) → (state_eq q.state states.Error ≡ true → is_faulty (faults_of_queue r q.queue) ≡ true) → Story k o q p ms
    → Leaves k q p r ms
story-leaves k o q p ms r met known error (on (goes calm so)) = record {
  left = left-passed q.queue p r ms passed (λ is. or-left _ _ (faulty (error (ap (λ s. state_eq s states.Error) (sym so.state) ∙ is))));
  goes = goes-on k (progress_after k o) q p r ms (keeps-bare r (after_marks ms r) passed.same) so (λ sending. now-behind k o q.queue r (after_marks ms r) passed.same met (met.sends (known ∙ sending)));
}
  where
    passed : Passed q.queue r ms
    passed = passed-calm q.queue ms r calm

    faulty : is_faulty (faults_of_queue r q.queue) ≡ true → is_faulty (faults_of_queue (after_marks ms r) q.queue) ≡ true
    faulty is = ap (λ i. is_faulty ((after_marks ms r).faults (record { queue = q.queue; incarnation = i q.queue }))) passed.keeps.incarnation ∙ passed.keeps.own is
story-leaves k o q p ms r met known error (drops cause arrives told so) = subst (Leaves k q p r) (sym told) (record {
  left = record {
    passes = refl;
    keeps = record { incarnation = refl; own = λ is. is; others = λ l other. refl };
    arrival = refl;
    error = λ is. or-left _ _ (error (ap (λ s. state_eq s states.Error) (sym so.state) ∙ is));
  };
  goes = goes-on k k.before q p r (marks.Dropped q.queue cause ∷ []) refl so (λ sending. dropped-now (met.sends (known ∙ sending)));
})
  where
    dropped-now : IsTied k q.queue r → progress_at_hand (after_mark (marks.Dropped q.queue cause) r) q.queue ≡ k.before
    dropped-now tied = ap (λ f. if option_map_or (queue_eq q.queue) f false then with_retry (r.progress (present_incarnation r q.queue)) else option_map_or (responded_by s q.queue) (arrived_at_hand s q.queue) (r.progress (present_incarnation r q.queue))) (fired-none o q.queue r arrives met.occasion)
        ∙ ap (λ a. option_map_or (responded_by s q.queue) a (r.progress (present_incarnation r q.queue))) (none r.at_hand.arrival) ∙ tied.progress
      where
        s : Past
        s = after_mark (marks.Dropped q.queue cause) r

        none : (a : Option Arrival) → arrived_at_hand (record s { at_hand = record s.at_hand { arrival = a } }) q.queue ≡ None
        none None = refl
        none (Some a) = refl
story-leaves k o q p ms r met known error (on (fails in_error f)) = by (passed-failure q.queue q.queue (send_completion q.queue f.place f.item.request f.status 0) f.cause f.behind (after_marks (denials f.denial) (after_marks f.before r)) refl
    (failed-send k o q.queue f.place f.item f.denial f.cause f.status f.why) (caused-send k o q.queue r (after_marks f.before r) f.place f.item f.denial f.cause f.status front.same met f.posted f.why) f.flushes)
  where
    front : Passed q.queue r f.before
    front = passed-calm q.queue f.before r f.calm

    last : List Mark
    last = failure_mark q.queue f.place f.item.request f.status f.cause ∷ f.behind

    by : Passed q.queue (after_marks (denials f.denial) (after_marks f.before r)) last × (may_be_in_error (after_marks last (after_marks (denials f.denial) (after_marks f.before r))) q.queue ≡ true) → Leaves k q p r ms
    by rest = subst (Leaves k q p r) (sym f.told) (denial-error k q p r f.before f.denial last in_error f.calm rest.0 rest.1)
story-leaves k o q p ms r met known error (refuses in_error f) = by (passed-failure q.queue q.queue f.completion f.cause f.behind (after_marks (denials f.denial) (after_marks f.before r)) f.queue
    (failed-receive f.packet q.queue f.denial f.cause f.completion.status f.why)
    (caused-receive q.queue r (after_marks f.before r) f.packet f.completion f.denial f.cause f.completion.status front.same (at (subst (IsOccasion r q.queue) f.arrives met.occasion)) f.queue f.receive f.why) f.flushes)
  where
    front : Passed q.queue r f.before
    front = passed-calm q.queue f.before r f.calm

    last : List Mark
    last = marks.Done q.queue f.completion f.cause ∷ f.behind

    at : IsArrival r q.queue f.packet → arrived_at_hand r q.queue ≡ Some f.packet
    at is = is.arrived

    by : Passed q.queue (after_marks (denials f.denial) (after_marks f.before r)) last × (may_be_in_error (after_marks last (after_marks (denials f.denial) (after_marks f.before r))) q.queue ≡ true) → Leaves k q p r ms
    by rest = subst (Leaves k q p r) (sym f.told) (denial-error k q p r f.before f.denial last in_error f.calm rest.0 rest.1)
story-leaves k o q p ms r met known error (denies in_error f) = subst (Leaves k q p r) (sym f.told) (by (passed-flushes q.queue f.behind s f.flushes (or-left _ _ faulty)))
  where
    mark : Mark
    mark = marks.Remote q.queue f.domain f.envelope f.key f.kind f.address f.count (verdicts.Denied f.denial)

    s : Past
    s = after_mark mark r

    faulty : is_faulty (faults_of_queue s q.queue) ≡ true
    faulty = ap is_faulty (faults-own r q.queue q.queue (DeniedAccess ∷ []) refl)

    by : Passed q.queue s f.behind × (may_be_in_error (after_marks f.behind s) q.queue ≡ true) → Leaves k q p r (mark ∷ f.behind)
    by rest = in-error k q p r (mark ∷ f.behind) in_error (passed-one q.queue r mark f.behind refl (added q.queue q.queue r s (DeniedAccess ∷ []) refl refl refl) refl rest.0) rest.1
story-leaves k o q p ms r met known error (invalid in_error f) = by (passed-flushes q.queue ms r f.flushes (or-right _ _ (unmarked-arrival r q.queue f.packet (subst (IsOccasion r q.queue) f.arrives met.occasion) f.request)))
  where
    by : Passed q.queue r ms × (may_be_in_error (after_marks ms r) q.queue ≡ true) → Leaves k q p r ms
    by rest = in-error k q p r ms in_error rest.0 rest.1
