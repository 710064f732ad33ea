-- What the requester's turn, its timer and its wake make of a queue pair that can come up.
use Rattle.std.proofs.Common.{zero, ◌≡◌, ℕ, suc, ◌+◌, ◌-◌, ◌*◌, ◌≤◌, ◌<◌, nat_le, nat_lt, arith, Bool, true, false, List, [], ◌∷◌, ◌++◌, length, take, Option, None, Some, IfSome, subst, ◌∙◌, ◌&&◌, ◌||◌, not, ap, ap₂, sym, true≢false, if◌then◌else◌, is_none, is_some, slice_get, refl, rules}
use Rattle.std.proofs.lemmas.Bool.{and_parts, leb-true, ltb-true, ltb-false, not-false, or_parts}
use Rattle.std.proofs.lemmas.List.Sums.{sum_by-cons}
use Rattle.std.proofs.lemmas.Option.{same_Some, slice_get_within}
use Rattle.std.specs.List.{find, list_any}
use Rattle.std.specs.Option.{option_map_or, option_or}
use Rattle.ca_keys.specs.declared.access.Ask.{Ask}
use Rattle.ca_keys.specs.declared.access.Kind.TheVariants as kinds
use Rattle.ca_base.specs.declared.change.State.TheVariants as states
use Rattle.ca_base.specs.declared.completion.WcStatus.TheVariants.{LocalProtection, MemoryManagement, Success}
use Rattle.ca_base.specs.declared.queue_numbers.RequesterNumbers.{RequesterNumbers}
use Rattle.ca_base.specs.declared.refusals.OpRefusal.{OpRefusal}
use Rattle.ca_base.specs.declared.request.SendOp.{SendOp}
use Rattle.ca_base.specs.declared.request.SendOp.TheVariants as ops
use Rattle.ca_base.specs.declared.step.Reason.{Reason}
use Rattle.ca_base.specs.declared.step.Reason.TheVariants as reasons
use Rattle.ca_keys.specs.Refusals.{AllFail, first_of}
use Rattle.ca_base.specs.declared.denied_ask.DeniedAsk.{DeniedAsk}
use Rattle.ca_base.specs.objects.LocalRequest.{LocalMarks}
use Rattle.ca_base.specs.objects.QueuePair.{QueuePair}
use Rattle.ca_base.specs.objects.StateTable.{state_eq}
use Rattle.ca_base.specs.objects.WorkQueue.{items_from, next_place}
use Rattle.ca_model.specs.declared.mark.Mark.TheVariants as marks
use Rattle.ca_keys.specs.declared.key.Key.{Key}
use Rattle.ca_keys.specs.declared.grant.Grant.{Grant}
use Rattle.ca_model.specs.Requests.{carried_bytes, is_local, list_of, psns_of}
use Rattle.ca_model.specs.machine.Acknowledgements.{failure_effects, one_retry, with_requester}
use Rattle.ca_model.specs.machine.LocalOperations.{after_operation, local_marks, operation_effects}
use Rattle.ca_model.specs.machine.Numbering.{Numbered, begun_requests, has_psn, is_answered_op, is_read, next_to_begin, psn_end, request_at, unfinished_requests}
use Rattle.ca_model.specs.machine.Requester.{RequestTurn, Waits, Performs, Sends, begins, denied_list_effects, index_of_packet, is_fenced, is_outstanding, is_too_much, local_denial, local_reads, next_request, packet_asks, packet_row, sent_packet, turn_of, turn_refusals}
use Rattle.ca_model.specs.machine.Places.{IsInOrder, completions_in}
use Rattle.ca_model.specs.machine.Row.{NotPossible, Does, Row, plain_row, queue_and_marks}
use Rattle.ca_model.specs.machine.Completions.{bytes_of_success, send_completion, success_marks}
use Rattle.ca_model.specs.machine.Timers.{after_timeout, after_wake}
use Rattle.ca_model.specs.machine.Invariants.{IsQueue, IsRequester, begun_end, is_sending}
use Rattle.ca_law_world.proofs.Sound.GoodLemmas.{AreSettledMarks, IsGood, IsLater, IsTakenOn, failure-good, items-end, later-same, requester-queue, settled-append, settled-quiet, taken-same}
use Rattle.ca_law_world.proofs.Sound.OrderLemmas.{order-behind, order-still, quiet-append, taken-still}
use Rattle.ca_law_world.proofs.Sound.NumberingLemmas.{IsShort, Numbers, are-numbers, count_sum, length-numbers, list-asks, next-short, take-numbers}
use Rattle.ca_law_world.proofs.Sound.RequesterLemmas.{good-from, retry-good}
use Rattle.ca_law_world.proofs.Sound.ResponseLemmas.{IsGoodEnding, IsGoodRow, more-marks, plain-good}

-- the request at a place: its place, its first PSN, and its count of PSNs
record IsAt (mtu place psn i : ℕ) (ns : List Numbered) (n : Numbered) : Type 0 where
  at : n.place ≡ place + i
  first : n.first ≡ psn + count_sum (take i ns)
  count : n.count ≡ psns_of mtu n.request.op
  more : count_sum (take (suc i) ns) ≡ count_sum (take i ns) + n.count

number-at : (mtu place psn i : ℕ) (ns : List Numbered) (n : Numbered) → Numbers mtu place psn ns → slice_get ns i ≡ Some n → IsAt mtu place psn i ns n
number-at mtu place psn i [] n all e = absurd (true≢false (sym (ap is_some e)))
number-at mtu place psn zero (m ∷ ns) n all e = subst (λ x. IsAt mtu place psn zero (m ∷ ns) x) (same_Some m n e) (record {
  at = omega (arith, all.0.0);
  first = omega (arith, all.0.1);
  count = all.0.2;
  more = omega (arith, sum_by-cons (λ (n : Numbered). n.count) m []);
})
number-at mtu place psn (suc i) (m ∷ ns) n all e = on (number-at mtu (suc place) (psn + m.count) i ns n all.1 e)
  where
    on : IsAt mtu (suc place) (psn + m.count) i ns n → IsAt mtu place psn (suc i) (m ∷ ns) n
    on rest = record {
      at = omega (arith, rest.at);
      first = omega (arith, rest.first, sum_by-cons (λ (n : Numbered). n.count) m (take i ns));
      count = rest.count;
      more = omega (arith, rest.more, sum_by-cons (λ (n : Numbered). n.count) m (take i ns), sum_by-cons (λ (n : Numbered). n.count) m (take (suc i) ns));
    }

-- a request that is found by a PSN: the PSN is one of its own, and it ends within them all
record IsFound (mtu psn place : ℕ) (ns : List Numbered) (at : ℕ) (n : Numbered) : Type 0 where
  low : n.first ≤ at
  high : at < psn_end n
  within : psn_end n ≤ psn + count_sum ns
  count : n.count ≡ psns_of mtu n.request.op

found : (mtu psn place at : ℕ) (ns : List Numbered) (n : Numbered) → Numbers mtu place psn ns → find (has_psn at) ns ≡ Some n → IsFound mtu psn place ns at n
found mtu psn place at [] n all e = absurd (true≢false (sym (ap is_some e)))
found mtu psn place at (m ∷ ns) n all e = by (has_psn at m) refl e (λ e. found mtu (psn + m.count) (suc place) at ns n all.1 e)
  where
    on : IsFound mtu (psn + m.count) (suc place) ns at n → IsFound mtu psn place (m ∷ ns) at n
    on rest = record {
      low = rest.low;
      high = rest.high;
      within = omega (arith, rest.within, sum_by-cons (λ (n : Numbered). n.count) m ns);
      count = rest.count;
    }

    by : (b : Bool) → has_psn at m ≡ b → (if b then Some m else find (has_psn at) ns) ≡ Some n
        → (find (has_psn at) ns ≡ Some n → IsFound mtu (psn + m.count) (suc place) ns at n) → IsFound mtu psn place (m ∷ ns) at n
    by true has e rest = subst (λ x. IsFound mtu psn place (m ∷ ns) at x) (same_Some m n e) (record {
      low = leb-true m.first at (and_parts (nat_le m.first at) (nat_lt at (psn_end m)) has).0;
      high = ltb-true at (psn_end m) (and_parts (nat_le m.first at) (nat_lt at (psn_end m)) has).1;
      within = omega (arith, all.0.1, sum_by-cons (λ (n : Numbered). n.count) m ns);
      count = all.0.2;
    })
    by false has e rest = on (rest e)

-- a request that is no local operation takes a PSN at least, and a local one none
some-psns : (mtu : ℕ) (op : SendOp) → is_local op ≡ false → 0 < psns_of mtu op
some-psns mtu (ops.Send list) e = omega arith
some-psns mtu (ops.SendImm imm list) e = omega arith
some-psns mtu (ops.SendInv key list) e = omega arith
some-psns mtu (ops.Write address key list) e = omega arith
some-psns mtu (ops.WriteImm address key imm list) e = omega arith
some-psns mtu (ops.Read address key list) e = omega arith
some-psns mtu (ops.CmpSwap address key compare swap list) e = omega arith
some-psns mtu (ops.FetchAdd address key add list) e = omega arith
some-psns mtu (ops.Bind1 window region address count rights) e = absurd (true≢false e)
some-psns mtu (ops.Bind2 window region low address count rights) e = absurd (true≢false e)
some-psns mtu (ops.FastReg region low buffer address count rights pages) e = absurd (true≢false e)
some-psns mtu (ops.LocalInv key) e = absurd (true≢false e)

no-psns : (mtu : ℕ) (op : SendOp) → is_local op ≡ true → psns_of mtu op ≡ 0
no-psns mtu (ops.Bind1 window region address count rights) e = refl
no-psns mtu (ops.Bind2 window region low address count rights) e = refl
no-psns mtu (ops.FastReg region low buffer address count rights pages) e = refl
no-psns mtu (ops.LocalInv key) e = refl
no-psns mtu (ops.Send list) e = absurd (true≢false (sym e))
no-psns mtu (ops.SendImm imm list) e = absurd (true≢false (sym e))
no-psns mtu (ops.SendInv key list) e = absurd (true≢false (sym e))
no-psns mtu (ops.Write address key list) e = absurd (true≢false (sym e))
no-psns mtu (ops.WriteImm address key imm list) e = absurd (true≢false (sym e))
no-psns mtu (ops.Read address key list) e = absurd (true≢false (sym e))
no-psns mtu (ops.CmpSwap address key compare swap list) e = absurd (true≢false (sym e))
no-psns mtu (ops.FetchAdd address key add list) e = absurd (true≢false (sym e))

abbrev request_sent : RequestTurn → Option Numbered
request_sent (Sends n) = Some n
request_sent (Performs n) = None
request_sent (Waits reason) = None

abbrev request_performed : RequestTurn → Option Numbered
request_performed (Performs n) = Some n
request_performed (Sends n) = None
request_performed (Waits reason) = None

abbrev pub turn_from : Option Reason → Option Numbered → RequestTurn
turn_from (Some reason) n = Waits reason
turn_from None None = Waits reasons.Empty
turn_from None (Some n) = if is_local n.request.op then Performs n else Sends n

abbrev pub NoReason : Option Reason → Type 0
NoReason r = r ≡ None

pub sends-parts : (r : Option Reason) (o : Option Numbered) (n : Numbered) → turn_from r o ≡ Sends n
    → NoReason r × (o ≡ Some n) × (is_local n.request.op ≡ false)
sends-parts (Some reason) o n e = absurd (true≢false (sym (ap (λ t. is_some (request_sent t)) e)))
sends-parts None None n e = absurd (true≢false (sym (ap (λ t. is_some (request_sent t)) e)))
sends-parts None (Some m) n e = by (is_local m.request.op) refl e
  where
    by : (b : Bool) → is_local m.request.op ≡ b → (if b then Performs m else Sends m) ≡ Sends n
        → NoReason None × (Some m ≡ Some n) × (is_local n.request.op ≡ false)
    by true is e = absurd (true≢false (sym (ap (λ t. is_some (request_sent t)) e)))
    by false is e = (refl, ap request_sent e, subst (λ x. is_local x.request.op ≡ false) (same_Some m n (ap request_sent e)) is)

performs-parts : (r : Option Reason) (o : Option Numbered) (n : Numbered) → turn_from r o ≡ Performs n
    → NoReason r × (o ≡ Some n) × (is_local n.request.op ≡ true)
performs-parts (Some reason) o n e = absurd (true≢false (sym (ap (λ t. is_some (request_performed t)) e)))
performs-parts None None n e = absurd (true≢false (sym (ap (λ t. is_some (request_performed t)) e)))
performs-parts None (Some m) n e = by (is_local m.request.op) refl e
  where
    by : (b : Bool) → is_local m.request.op ≡ b → (if b then Performs m else Sends m) ≡ Performs n
        → NoReason None × (Some m ≡ Some n) × (is_local n.request.op ≡ true)
    by true is e = (refl, ap request_performed e, subst (λ x. is_local x.request.op ≡ true) (same_Some m n (ap request_performed e)) is)
    by false is e = absurd (true≢false (sym (ap (λ t. is_some (request_performed t)) e)))

-- in which way a request is the next: it goes on, or it begins
data IsNext (q : QueuePair) (n : Numbered) : Type 0 where
  goes_on : begins q ≡ false → IsFound q.responder.mtu q.requester.oldest_psn q.requester.oldest (begun_requests q) q.requester.cursor n → IsNext q n
  begins_now : begins q ≡ true → IsAt q.responder.mtu q.requester.oldest q.requester.oldest_psn (q.requester.next - q.requester.oldest) (unfinished_requests q) n
      → q.requester.next < next_place q.sends → IsNext q n

whole-numbers : (q : QueuePair) → Numbers q.responder.mtu q.requester.oldest q.requester.oldest_psn (unfinished_requests q)
whole-numbers q = are-numbers q.responder.mtu q.requester.oldest q.requester.oldest_psn (items_from q.requester.oldest q.sends)

whole-length : (q : QueuePair) → IsQueue q → q.requester.oldest + length (unfinished_requests q) ≡ next_place q.sends
whole-length q s = omega (
  arith,
  length-numbers q.responder.mtu q.requester.oldest q.requester.oldest_psn (items_from q.requester.oldest q.sends),
  items-end q.sends q.requester.oldest s.requester.finished (omega (arith, s.requester.begun, s.requester.waiting)),
)

is-next : (q : QueuePair) (n : Numbered) → IsQueue q → next_request q ≡ Some n → IsNext q n
is-next q n s e = by (request_at q.requester.cursor q) refl (next_to_begin q) refl e
  where
    by : (at : Option Numbered) → request_at q.requester.cursor q ≡ at → (next : Option Numbered) → next_to_begin q ≡ next → option_or at next ≡ Some n → IsNext q n
    by (Some m) is next begin e = goes_on (ap (λ x. is_none x && is_some (next_to_begin q)) is)
        (found q.responder.mtu q.requester.oldest_psn q.requester.oldest q.requester.cursor (begun_requests q) n
        (take-numbers q.responder.mtu (q.requester.next - q.requester.oldest) q.requester.oldest q.requester.oldest_psn (unfinished_requests q) (whole-numbers q))
        (is ∙ e))
    by None is None begin e = absurd (true≢false (sym (ap is_some e)))
    by None is (Some m) begin e = begins_now (ap₂ (λ x y. is_none x && is_some y) is begin)
        (number-at q.responder.mtu q.requester.oldest q.requester.oldest_psn (q.requester.next - q.requester.oldest) (unfinished_requests q) n (whole-numbers q)
        (begin ∙ e))
        (omega (
          arith,
          whole-length q s,
          s.requester.begun,
          slice_get_within (unfinished_requests q) (q.requester.next - q.requester.oldest) n (begin ∙ e),
        ))

later-sent : (q p : QueuePair) → p.queue ≡ q.queue → p.domain ≡ q.domain → p.send_cq ≡ q.send_cq → p.recv_cq ≡ q.recv_cq → p.srq ≡ q.srq
    → q.requester.oldest ≤ p.requester.oldest → p.receives ≡ q.receives → IsLater q p
later-sent q p a b c d e finished receives = record {
  queue = a;
  domain = b;
  send_cq = c;
  recv_cq = d;
  srq = e;
  finished = finished;
  taken = subst (λ r. IsTakenOn q.receives r) (sym receives) (taken-same q.receives);
}

reads-quiet : (asks : List Ask) (bytes : List (List ℕ)) → completions_in (local_reads asks bytes) ≡ []
reads-quiet [] bytes = refl
reads-quiet (ask ∷ asks) [] = refl
reads-quiet (ask ∷ asks) (b ∷ bytes) = reads-quiet asks bytes

sent-order : (q : QueuePair) (n : Numbered) (bytes : List (List ℕ)) → IsInOrder q (sent_packet q n bytes)
sent-order q n bytes = order-still q (sent_packet q n bytes) (record { sends = refl; receives = refl; oldest = refl; in_use = refl }) (reads-quiet (packet_asks q n) bytes)

sent-good : (q : QueuePair) (n : Numbered) (bytes : List (List ℕ)) → IsQueue q → is_sending q.state ≡ true → is_local n.request.op ≡ false → IsNext q n
    → IsGood q (sent_packet q n bytes)
sent-good q n bytes s sending remote (goes_on e f) = record {
  sound = requester-queue q (sent_packet q n bytes).queue.requester s (by (begins q) e (is_read n.request.op)).0 (λ sending. (by (begins q) e (is_read n.request.op)).1);
  later = later-sent q (sent_packet q n bytes).queue refl refl refl refl refl (omega arith) refl;
  settled = settled-quiet (sent_packet q n bytes).queue (local_reads (packet_asks q n) bytes) (reads-quiet (packet_asks q n) bytes);
  order = sent-order q n bytes;
}
  where
    numbers : Bool → Bool → RequesterNumbers
    numbers b z = record q.requester { cursor = if z then psn_end n else suc q.requester.cursor; next = if b then suc q.requester.next else q.requester.next }

    by : (b : Bool) → b ≡ false → (z : Bool)
        → IsRequester q.state q.sends (numbers b z) × ((numbers b z).cursor ≤ begun_end (with_requester (numbers b z) q))
    by true e z = absurd (true≢false e)
    by false e true = (
      record {
        finished = s.requester.finished;
        begun = s.requester.begun;
        waiting = s.requester.waiting;
        base = s.requester.base;
        outstanding = omega (arith, s.requester.outstanding, f.high);
        retry = s.requester.retry;
        rnr_retry = s.requester.rnr_retry;
        reads = s.requester.reads;
        retried = s.requester.retried;
        retries = s.requester.retries;
        fresh = s.requester.fresh;
      },
      f.within,
    )
    by false e false = (
      record {
        finished = s.requester.finished;
        begun = s.requester.begun;
        waiting = s.requester.waiting;
        base = s.requester.base;
        outstanding = omega (arith, s.requester.outstanding);
        retry = s.requester.retry;
        rnr_retry = s.requester.rnr_retry;
        reads = s.requester.reads;
        retried = s.requester.retried;
        retries = s.requester.retries;
        fresh = s.requester.fresh;
      },
      omega (arith, f.high, f.within),
    )
sent-good q n bytes s sending remote (begins_now e f more) = record {
  sound = requester-queue q (sent_packet q n bytes).queue.requester s (by (begins q) e (is_read n.request.op)).0 (λ sending. (by (begins q) e (is_read n.request.op)).1);
  later = later-sent q (sent_packet q n bytes).queue refl refl refl refl refl (omega arith) refl;
  settled = settled-quiet (sent_packet q n bytes).queue (local_reads (packet_asks q n) bytes) (reads-quiet (packet_asks q n) bytes);
  order = sent-order q n bytes;
}
  where
    numbers : Bool → Bool → RequesterNumbers
    numbers b z = record q.requester { cursor = if z then psn_end n else suc q.requester.cursor; next = if b then suc q.requester.next else q.requester.next }

    ends : (i : ℕ) → i ≡ suc (q.requester.next - q.requester.oldest) → q.requester.oldest_psn + count_sum (take i (unfinished_requests q)) ≡ psn_end n
    ends i e = omega (arith, ap (λ i. count_sum (take i (unfinished_requests q))) e, f.first, f.more)

    begun : (i : ℕ) → i ≡ suc q.requester.next - q.requester.oldest → q.requester.oldest_psn + count_sum (take i (unfinished_requests q)) ≡ psn_end n
    begun i e = ends i (omega (arith, e, s.requester.begun))

    by : (b : Bool) → b ≡ true → (z : Bool)
        → IsRequester q.state q.sends (numbers b z) × ((numbers b z).cursor ≤ begun_end (with_requester (numbers b z) q))
    by false e z = absurd (true≢false (sym e))
    by true e true = (
      record {
        finished = s.requester.finished;
        begun = omega (arith, s.requester.begun);
        waiting = more;
        base = s.requester.base;
        outstanding = omega (arith, s.requester.outstanding, s.begun sending, f.first);
        retry = s.requester.retry;
        rnr_retry = s.requester.rnr_retry;
        reads = s.requester.reads;
        retried = s.requester.retried;
        retries = s.requester.retries;
        fresh = s.requester.fresh;
      },
      omega (arith, begun (suc q.requester.next - q.requester.oldest) refl),
    )
    by true e false = (
      record {
        finished = s.requester.finished;
        begun = omega (arith, s.requester.begun);
        waiting = more;
        base = s.requester.base;
        outstanding = omega (arith, s.requester.outstanding);
        retry = s.requester.retry;
        rnr_retry = s.requester.rnr_retry;
        reads = s.requester.reads;
        retried = s.requester.retried;
        retries = s.requester.retries;
        fresh = s.requester.fresh;
      },
      omega (arith, begun (suc q.requester.next - q.requester.oldest) refl, s.begun sending, f.first, f.count, some-psns q.responder.mtu n.request.op remote),
    )

-- where nothing refuses, each test fails
pub all-fail : {R : Type 0} (ts : List (Bool × R)) → first_of ts ≡ None → AllFail ts
all-fail [] e = record {}
all-fail (t ∷ ts) e = by t.0 refl e (all-fail ts)
  where
    by : (b : Bool) → t.0 ≡ b → (if b then Some t.1 else first_of ts) ≡ None → (first_of ts ≡ None → AllFail ts) → (t.0 ≡ false) × AllFail ts
    by true is none rest = absurd (true≢false (ap is_some none))
    by false is none rest = (is, rest none)

-- a turn that is possible is one of a queue pair that sends, and whose next thing need not wait
pub sending-parts : (q : QueuePair) → first_of (turn_refusals q) ≡ None → (is_sending q.state ≡ true) × (is_fenced q ≡ false)
sending-parts q e = by (all-fail (turn_refusals q) e)
  where
    by : AllFail (turn_refusals q) → (is_sending q.state ≡ true) × (is_fenced q ≡ false)
    by fails = (not-false (is_sending q.state) (or_parts (not (is_sending q.state)) (state_eq q.state states.Sqd && begins q) fails.0).0, fails.1.1.1.0)

denied-good : (q : QueuePair) (d : DeniedAsk) → IsQueue q → IsGood q (denied_list_effects q d)
denied-good q d s = more-marks q (failure_effects LocalProtection None q) (local_denial d ∷ []) refl (failure-good LocalProtection None q s)

pub packet-good : (q : QueuePair) (room : Bool) (n : Numbered) → IsQueue q → turn_of q ≡ Sends n → IsGoodRow q (packet_row q room n)
packet-good q room n s turn = by (is_too_much q n) (sends-parts (first_of (turn_refusals q)) (next_request q) n turn)
  where
    row : Row
    row = record {
      asks = packet_asks q n;
      invalidation = None;
      denied = λ d.
          if is_outstanding q then NotPossible reasons.Outstanding
          else if not room then NotPossible reasons.NoRoom
          else Does (denied_list_effects q d);
      allowed = λ bytes refusal. if not room then NotPossible reasons.NoRoom else Does (sent_packet q n bytes);
    }

    denied : (d : DeniedAsk) (b z : Bool) → IsGoodEnding q (if b then NotPossible reasons.Outstanding else if not z then NotPossible reasons.NoRoom else Does (denied_list_effects q d))
    denied d true z = record {}
    denied d false true = denied-good q d s
    denied d false false = record {}

    allowed : (bytes : List (List ℕ)) → IsGood q (sent_packet q n bytes) → (z : Bool)
        → IsGoodEnding q (if not z then NotPossible reasons.NoRoom else Does (sent_packet q n bytes))
    allowed bytes good true = good
    allowed bytes good false = record {}

    by : (b : Bool) → NoReason (first_of (turn_refusals q)) × (next_request q ≡ Some n) × (is_local n.request.op ≡ false)
        → IsGoodRow q (if b then plain_row (NotPossible reasons.Outstanding) else row)
    by true parts = plain-good q (NotPossible reasons.Outstanding) (record {})
    by false parts = record {
      denied = λ d. denied d (is_outstanding q) room;
      allowed = λ bytes refusal. allowed bytes
          (sent-good q n bytes s (sending-parts q parts.0).0 parts.2 (is-next q n s parts.1)) room;
      few = list-asks q kinds.Read (index_of_packet q n * q.responder.mtu) (carried_bytes q.responder.mtu n.request.op (index_of_packet q n)) (list_of n.request.op)
          (subst (λ o. IfSome o IsShort) parts.1 (next-short q s));
    }

-- a local operation begins, and all before it is finished
record IsLone (q : QueuePair) (n : Numbered) : Type 0 where
  place : n.place ≡ q.requester.oldest
  next : q.requester.next ≡ q.requester.oldest
  more : q.requester.oldest < next_place q.sends
  sending : is_sending q.state ≡ true

is-lone : (q : QueuePair) (n : Numbered) → IsQueue q → turn_of q ≡ Performs n → IsLone q n
is-lone q n s turn = by (performs-parts (first_of (turn_refusals q)) (next_request q) n turn)
  where
    waits : Numbered → Bool
    waits n =
        (is_local n.request.op && nat_lt q.requester.oldest q.requester.next)
        || (n.request.fence && list_any (λ m. is_answered_op m.request.op) (begun_requests q))

    next : (b : Bool) → is_local n.request.op ≡ b → b ≡ true → waits n ≡ false → nat_lt q.requester.oldest q.requester.next ≡ false
    next false is e none = absurd (true≢false (sym e))
    next true is e none = ap (λ x. x && nat_lt q.requester.oldest q.requester.next) (sym is)
        ∙ (or_parts (is_local n.request.op && nat_lt q.requester.oldest q.requester.next) (n.request.fence && list_any (λ m. is_answered_op m.request.op) (begun_requests q)) none).0

    fenced : (o : Option Numbered) → next_to_begin q ≡ o → o ≡ Some n → (b : Bool) → begins q ≡ b → b ≡ true → is_fenced q ≡ false → waits n ≡ false
    fenced o is e false b f none = absurd (true≢false (sym f))
    fenced o is e true b f none = ap₂ (λ x y. x && option_map_or waits y false) (sym b) (sym (is ∙ e)) ∙ none

    there : IsNext q n → is_local n.request.op ≡ true → is_sending q.state ≡ true → is_fenced q ≡ false → next_to_begin q ≡ Some n → IsLone q n
    there (goes_on e f) local sending none begin =
        absurd (omega (arith, f.low, f.high, f.count, no-psns q.responder.mtu n.request.op local))
    there (begins_now e f more) local sending none begin = record {
      place = omega (arith, f.at, alone);
      next = alone;
      more = omega (arith, more, alone);
      sending = sending;
    }
      where
        alone : q.requester.next ≡ q.requester.oldest
        alone = omega (
          arith,
          s.requester.begun,
          ltb-false q.requester.oldest q.requester.next
              (next (is_local n.request.op) refl local (fenced (next_to_begin q) refl begin (begins q) refl e none)),
        )

    by : NoReason (first_of (turn_refusals q)) × (next_request q ≡ Some n) × (is_local n.request.op ≡ true) → IsLone q n
    by parts = there (is-next q n s parts.1) parts.2 (sending-parts q parts.0).0 (sending-parts q parts.0).1 (to-begin (is-next q n s parts.1) parts.2)
      where
        to-begin : IsNext q n → is_local n.request.op ≡ true → next_to_begin q ≡ Some n
        to-begin (goes_on e f) local = absurd (omega (arith, f.low, f.high, f.count, no-psns q.responder.mtu n.request.op local))
        to-begin (begins_now e f more) local = at (request_at q.requester.cursor q) refl parts.1 e
          where
            at : (o : Option Numbered) → request_at q.requester.cursor q ≡ o → option_or o (next_to_begin q) ≡ Some n → (is_none (request_at q.requester.cursor q) && is_some (next_to_begin q)) ≡ true
                → next_to_begin q ≡ Some n
            at None is found begin = found
            at (Some m) is found begin = absurd (true≢false (sym (ap (λ x. is_none x && is_some (next_to_begin q)) (sym is) ∙ begin)))

pub windows-queue : (q : QueuePair) (windows : ℕ) → IsQueue q → IsQueue (record q { windows = windows })
windows-queue q windows s = record {
  sends = s.sends;
  receives = s.receives;
  source = s.source;
  requester = s.requester;
  begun = s.begun;
  responder = s.responder;
  taken = s.taken;
  peer = s.peer;
  connected = s.connected;
  saved = s.saved;
}

none-begun : (i : ℕ) (ns : List Numbered) → i ≡ 0 → count_sum (take i ns) ≡ 0
none-begun i ns e = ap (λ i. count_sum (take i ns)) e

local-quiet : (q : QueuePair) (m : LocalMarks) → completions_in (local_marks q m) ≡ []
local-quiet q m = quiet-append (option_map_or (λ key. marks.Revoked q.queue.adapter key ∷ []) m.revoked []) (option_map_or (λ g. marks.Granted g ∷ []) m.granted [])
    (revoked m.revoked) (granted m.granted)
  where
    revoked : (o : Option Key) → completions_in (option_map_or (λ key. marks.Revoked q.queue.adapter key ∷ []) o []) ≡ []
    revoked None = refl
    revoked (Some key) = refl

    granted : (o : Option Grant) → completions_in (option_map_or (λ g. marks.Granted g ∷ []) o []) ≡ []
    granted None = refl
    granted (Some g) = refl

pub operation-good : (q : QueuePair) (n : Numbered) (windows : ℕ) (m : LocalMarks) (refusal : Option OpRefusal) → IsQueue q → turn_of q ≡ Performs n
    → IsGood q (operation_effects q n (record q { windows = windows }) m refusal)
operation-good q n windows m (Some cause) s turn = failure-good MemoryManagement (Some cause) q s
operation-good q n windows m None s turn = by (is-lone q n s turn)
  where
    after : QueuePair
    after = after_operation n (record q { windows = windows })

    success : (b : Bool) → suc n.place ≤ after.requester.oldest
        → AreSettledMarks after (if b then marks.Done q.queue (send_completion q.queue n.place n.request Success (bytes_of_success n.request.op)) None ∷ [] else [])
    success true place = ((refl, place), record {})
    success false place = record {}

    in-order : (b : Bool) → q.requester.oldest ≤ n.place
        → IsInOrder q (queue_and_marks after (if b then marks.Done q.queue (send_completion q.queue n.place n.request Success (bytes_of_success n.request.op)) None ∷ [] else []))
    in-order true place = record {
      sends = refl;
      done = (place, omega arith);
      own = taken-still q.receives q.responder.message q.responder.message
          (marks.Done q.queue (send_completion q.queue n.place n.request Success (bytes_of_success n.request.op)) None ∷ []) refl refl;
      held = λ none takes. refl;
    }
    in-order false place = record {
      sends = refl;
      done = omega (arith, place);
      own = taken-still q.receives q.responder.message q.responder.message [] refl refl;
      held = λ none takes. refl;
    }

    by : IsLone q n → IsGood q (queue_and_marks after (local_marks q m ++ success_marks q.queue n.place n.request))
    by lone = record {
      sound = requester-queue (record q { windows = windows }) after.requester (windows-queue q windows s) (record {
        finished = omega (arith, s.requester.finished, lone.place);
        begun = omega arith;
        waiting = omega (arith, lone.place, lone.more);
        base = s.requester.base;
        outstanding = s.requester.outstanding;
        retry = s.requester.retry;
        rnr_retry = s.requester.rnr_retry;
        reads = s.requester.reads;
        retried = s.requester.retried;
        retries = s.requester.retries;
        fresh = s.requester.fresh;
      }) (λ sending. omega (
        arith,
        s.begun sending,
        none-begun (q.requester.next - q.requester.oldest) (unfinished_requests q) (omega (arith, lone.next)),
        none-begun (suc n.place - suc n.place) (unfinished_requests after) (omega arith),
      ));
      later = later-sent q after refl refl refl refl refl (omega (arith, lone.place)) refl;
      settled = settled-append after (local_marks q m) (success_marks q.queue n.place n.request) (settled-quiet after (local_marks q m) (local-quiet q m)) (success n.request.signalled (omega arith));
      order = order-behind q (queue_and_marks after (success_marks q.queue n.place n.request)) (local_marks q m) (local-quiet q m)
          (in-order n.request.signalled (omega (arith, lone.place)));
    }

-- where a turn performs nothing that this profile has, nothing changes
pub nothing-good : (q : QueuePair) → IsQueue q → IsGood q (queue_and_marks q [])
nothing-good q s = record {
  sound = s;
  later = later-same q;
  settled = record {};
  order = order-still q (queue_and_marks q []) (record { sends = refl; receives = refl; oldest = refl; in_use = refl }) refl;
}

pub timeout-good : (q : QueuePair) (silent : Bool) → IsQueue q → is_sending q.state ≡ true → IsGood q (after_timeout silent q)
timeout-good q silent s sending = good-from q counted (after_timeout silent q) (later-sent q counted refl refl refl refl refl (omega arith) refl)
    (record { sends = refl; receives = refl; oldest = refl; in_use = refl })
    (more-marks counted (one_retry q.requester.una counted) (marks.Timer q.queue silent ∷ []) refl
    (retry-good q.requester.una counted (requester-queue q counted.requester s (search rules) s.begun) sending (s.requester.retries sending) (omega arith) s.requester.outstanding))
  where
    counted : QueuePair
    counted = with_requester (record q.requester { timers = suc q.requester.timers }) q

pub wake-good : (q : QueuePair) → IsQueue q → IsGood q (after_wake q)
wake-good q s = record {
  sound = requester-queue q (after_wake q).queue.requester s (search rules) s.begun;
  later = later-sent q (after_wake q).queue refl refl refl refl refl (omega arith) refl;
  settled = record {};
  order = order-still q (after_wake q) (record { sends = refl; receives = refl; oldest = refl; in_use = refl }) refl;
}
