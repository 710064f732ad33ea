-- What small changes of a queue pair make of the numbers that only events raise.
use Rattle.std.proofs.Common.{zero, ◌≡◌, ℕ, suc, ◌+◌, ◌-◌, ◌≤◌, arith, Bool, true, false, List, [], ◌∷◌, take, Option, None, Some, IfSome, subst, ◌||◌, ◌==◌, ap, sym, true≢false, refl}
use Rattle.std.proofs.lemmas.Bool.{eqb-true}
use Rattle.std.proofs.lemmas.List.Sums.{sum_by-cons}
use Rattle.std.specs.List.{AllByRecursion}
use Rattle.std.specs.Option.{option_map}
use Rattle.ca_base.specs.declared.limits.TheConstants.{MAX_MESSAGE_BYTES}
use Rattle.ca_base.specs.declared.queue_numbers.RequesterNumbers.{RequesterNumbers}
use Rattle.ca_base.specs.declared.queue_numbers.ResponderNumbers.{ResponderNumbers}
use Rattle.ca_base.specs.declared.request.PostedSend.{PostedSend}
use Rattle.ca_base.specs.declared.request.RecvRequest.{RecvRequest}
use Rattle.ca_base.specs.declared.request.SendOp.{SendOp}
use Rattle.ca_base.specs.declared.request.SendOp.TheVariants as ops
use Rattle.ca_base.specs.objects.QueuePair.{QueuePair, in_error, with_all_flushed}
use Rattle.ca_base.specs.objects.StateTable.{is_path_mtu}
use Rattle.ca_base.specs.objects.WorkQueue.{WorkQueue, after_take, items_from, next_place, with_all_taken}
use Rattle.ca_model.specs.Requests.{list_length, list_of, psns_of, segments}
use Rattle.ca_model.specs.machine.Acknowledgements.{with_requester}
use Rattle.ca_model.specs.machine.Arrivals.{with_receive_taken, with_responder}
use Rattle.ca_model.specs.machine.Invariants.{IsQueue, IsSend, begun_end, is_fresh}
use Rattle.ca_model.specs.machine.Numbering.{Numbered, numbers_of, unfinished_requests}
use Rattle.ca_law_parts.specs.Raised.{AreNumbersWithin}
use Rattle.ca_law_world.proofs.Sound.NumberingLemmas.{count_sum}
use Rattle.ca_law_world.proofs.Sound.VerbLemmas.{all-dropped}

-- own receives, of which no more were posted than this
abbrev pub AreReceivesWithin : ℕ → Option (WorkQueue RecvRequest) → Type 0
AreReceivesWithin n o = IfSome o (λ r. next_place r ≤ n)

pub raised-receives : (m n : ℕ) (o : Option (WorkQueue RecvRequest)) → m ≤ n → AreReceivesWithin m o → AreReceivesWithin n o
raised-receives m n None le within = record {}
raised-receives m n (Some r) le within = omega (arith, le, within)

-- what is within bounds is within greater ones
pub raised : (b c m n : ℕ) (q : QueuePair) → b ≤ c → m ≤ n → AreNumbersWithin b m q → AreNumbersWithin c n q
raised b c m n q psns counts w = record {
  una = omega (arith, w.una, psns);
  cursor = omega (arith, w.cursor, psns);
  begun_end = omega (arith, w.begun_end, psns);
  expected = omega (arith, w.expected, psns);
  incarnation = omega (arith, w.incarnation, counts);
  timers = omega (arith, w.timers, counts);
  rnrs = omega (arith, w.rnrs, counts);
  sends = omega (arith, w.sends, counts);
  receives = raised-receives m n q.receives counts w.receives;
  windows = omega (arith, w.windows, counts);
  fresh = w.fresh;
}

-- other numbers of the requester
pub requester-within : (b n : ℕ) (q : QueuePair) (r : RequesterNumbers) → AreNumbersWithin b n q → r.una ≤ b → r.cursor ≤ b → begun_end (with_requester r q) ≤ b → r.timers ≤ n → r.rnrs ≤ n
    → (is_fresh q.state ≡ true → r.next ≡ r.oldest) → AreNumbersWithin b n (with_requester r q)
requester-within b n q r w una cursor end timers rnrs fresh = record {
  una = una;
  cursor = cursor;
  begun_end = end;
  expected = w.expected;
  incarnation = w.incarnation;
  timers = timers;
  rnrs = rnrs;
  sends = w.sends;
  receives = w.receives;
  windows = w.windows;
  fresh = fresh;
}

-- other numbers of the responder, with the same path MTU
pub responder-within : (b n : ℕ) (q : QueuePair) (r : ResponderNumbers) → AreNumbersWithin b n q → r.mtu ≡ q.responder.mtu → r.expected ≤ b → AreNumbersWithin b n (with_responder r q)
responder-within b n q r w mtu expected = record {
  una = w.una;
  cursor = w.cursor;
  begun_end = subst (λ m. begun_end (with_responder (record r { mtu = m }) q) ≤ b) (sym mtu) w.begun_end;
  expected = expected;
  incarnation = w.incarnation;
  timers = w.timers;
  rnrs = w.rnrs;
  sends = w.sends;
  receives = w.receives;
  windows = w.windows;
  fresh = w.fresh;
}

-- other own receives
pub receives-within : (b n : ℕ) (q : QueuePair) (o : Option (WorkQueue RecvRequest)) → AreNumbersWithin b n q → AreReceivesWithin n o → AreNumbersWithin b n (record q { receives = o })
receives-within b n q o w receives = record {
  una = w.una;
  cursor = w.cursor;
  begun_end = w.begun_end;
  expected = w.expected;
  incarnation = w.incarnation;
  timers = w.timers;
  rnrs = w.rnrs;
  sends = w.sends;
  receives = receives;
  windows = w.windows;
  fresh = w.fresh;
}

-- another count of windows
pub windows-within : (b n : ℕ) (q : QueuePair) (windows : ℕ) → AreNumbersWithin b n q → windows ≤ n → AreNumbersWithin b n (record q { windows = windows })
windows-within b n q windows w few = record {
  una = w.una;
  cursor = w.cursor;
  begun_end = w.begun_end;
  expected = w.expected;
  incarnation = w.incarnation;
  timers = w.timers;
  rnrs = w.rnrs;
  sends = w.sends;
  receives = w.receives;
  windows = few;
  fresh = w.fresh;
}

-- the next of its own receives is taken, or all of them
pub taken-within : (b n : ℕ) (q : QueuePair) → AreNumbersWithin b n q → AreNumbersWithin b n (with_receive_taken q)
taken-within b n q w = receives-within b n q (option_map after_take q.receives) w (by q.receives w.receives)
  where
    by : (o : Option (WorkQueue RecvRequest)) → AreReceivesWithin n o → AreReceivesWithin n (option_map after_take o)
    by None within = record {}
    by (Some r) within = within

all-taken-within : (n : ℕ) (o : Option (WorkQueue RecvRequest)) → AreReceivesWithin n o → AreReceivesWithin n (option_map with_all_taken o)
all-taken-within n None within = record {}
all-taken-within n (Some r) within = within

none-begun : (i : ℕ) (ns : List Numbered) → i ≡ 0 → count_sum (take i ns) ≡ 0
none-begun i ns e = ap (λ i. count_sum (take i ns)) e

-- where no request has begun, the last PSN is the oldest one
pub none-end : (q : QueuePair) → q.requester.next ≡ q.requester.oldest → begun_end q ≡ q.requester.oldest_psn
none-end q e = omega (arith, none-begun (q.requester.next - q.requester.oldest) (unfinished_requests q) (omega (arith, e)))

-- the oldest PSN is not behind what has begun
pub oldest-within : (b n : ℕ) (q : QueuePair) → AreNumbersWithin b n q → q.requester.oldest_psn ≤ b
oldest-within b n q w = omega (arith, w.begun_end)

-- all that is posted is flushed
pub flushed-within : (b n : ℕ) (q : QueuePair) → AreNumbersWithin b n q → AreNumbersWithin b n (with_all_flushed q)
flushed-within b n q w = record {
  una = w.una;
  cursor = w.cursor;
  begun_end = omega (arith, none-end (with_all_flushed q) refl, oldest-within b n q w);
  expected = w.expected;
  incarnation = w.incarnation;
  timers = w.timers;
  rnrs = w.rnrs;
  sends = w.sends;
  receives = all-taken-within n q.receives w.receives;
  windows = w.windows;
  fresh = λ fresh. refl;
}

pub error-within : (b n : ℕ) (q : QueuePair) → AreNumbersWithin b n q → AreNumbersWithin b n (in_error q)
error-within b n q w = record {
  una = w.una;
  cursor = w.cursor;
  begun_end = (flushed-within b n q w).begun_end;
  expected = w.expected;
  incarnation = w.incarnation;
  timers = w.timers;
  rnrs = w.rnrs;
  sends = w.sends;
  receives = all-taken-within n q.receives w.receives;
  windows = w.windows;
  fresh = λ fresh. refl;
}

-- a message of at most 2^20 bytes has at most 4096 packets
pub segments-few : (mtu count : ℕ) → is_path_mtu mtu ≡ true → count ≤ MAX_MESSAGE_BYTES → segments mtu count ≤ 4096
segments-few mtu count path few = by (mtu == 256) refl (mtu == 512) refl (mtu == 1024) refl (mtu == 2048) refl (mtu == 4096) refl path
  where
    at : (k : ℕ) → mtu ≡ k → segments k count ≤ 4096 → segments mtu count ≤ 4096
    at k e le = subst (λ k. segments k count ≤ 4096) (sym e) le

    by : (a : Bool) → (mtu == 256) ≡ a → (b : Bool) → (mtu == 512) ≡ b → (c : Bool) → (mtu == 1024) ≡ c → (d : Bool) → (mtu == 2048) ≡ d → (f : Bool) → (mtu == 4096) ≡ f
        → (a || b || c || d || f) ≡ true → segments mtu count ≤ 4096
    by true is b bs c cs d ds f fs e = at 256 (eqb-true mtu 256 is) (omega (arith, few))
    by false is true bs c cs d ds f fs e = at 512 (eqb-true mtu 512 bs) (omega (arith, few))
    by false is false bs true cs d ds f fs e = at 1024 (eqb-true mtu 1024 cs) (omega (arith, few))
    by false is false bs false cs true ds f fs e = at 2048 (eqb-true mtu 2048 ds) (omega (arith, few))
    by false is false bs false cs false ds true fs e = at 4096 (eqb-true mtu 4096 fs) (omega (arith, few))
    by false is false bs false cs false ds false fs e = absurd (true≢false (sym e))

-- a request takes at most 4096 PSNs
psns-few : (mtu : ℕ) (op : SendOp) → is_path_mtu mtu ≡ true → list_length (list_of op) ≤ MAX_MESSAGE_BYTES → psns_of mtu op ≤ 4096
psns-few mtu (ops.Send list) path few = segments-few mtu (list_length list.items) path few
psns-few mtu (ops.SendImm imm list) path few = segments-few mtu (list_length list.items) path few
psns-few mtu (ops.SendInv key list) path few = segments-few mtu (list_length list.items) path few
psns-few mtu (ops.Write address key list) path few = segments-few mtu (list_length list.items) path few
psns-few mtu (ops.WriteImm address key imm list) path few = segments-few mtu (list_length list.items) path few
psns-few mtu (ops.Read address key list) path few = segments-few mtu (list_length list.items) path few
psns-few mtu (ops.CmpSwap address key compare swap list) path few = omega arith
psns-few mtu (ops.FetchAdd address key add list) path few = omega arith
psns-few mtu (ops.Bind1 window region address count rights) path few = omega arith
psns-few mtu (ops.Bind2 window region low address count rights) path few = omega arith
psns-few mtu (ops.FastReg region low buffer address count rights pages) path few = omega arith
psns-few mtu (ops.LocalInv key) path few = omega arith

numbers-few : (mtu place psn : ℕ) (ps : List PostedSend) → is_path_mtu mtu ≡ true → AllByRecursion IsSend ps → AllByRecursion (λ n. n.count ≤ 4096) (numbers_of mtu place psn ps)
numbers-few mtu place psn [] path all = record {}
numbers-few mtu place psn (p ∷ ps) path all =
    (psns-few mtu p.request.op path all.0.bytes, numbers-few mtu (suc place) (psn + psns_of mtu p.request.op) ps path all.1)

take-more : (i : ℕ) (ns : List Numbered) → AllByRecursion (λ n. n.count ≤ 4096) ns → count_sum (take (suc i) ns) ≤ count_sum (take i ns) + 4096
take-more i [] all = omega (arith, none-taken i)
  where
    none-taken : (i : ℕ) → count_sum (take i []) ≡ 0
    none-taken zero = refl
    none-taken (suc i) = refl
take-more zero (n ∷ ns) all = omega (arith, all.0, sum_by-cons (λ (n : Numbered). n.count) n [])
take-more (suc i) (n ∷ ns) all = omega (
  arith,
  take-more i ns all.1,
  sum_by-cons (λ (n : Numbered). n.count) n (take i ns),
  sum_by-cons (λ (n : Numbered). n.count) n (take (suc i) ns),
)

-- one more request that has begun ends at most 4096 PSNs further on
pub begun-more : (q : QueuePair) → IsQueue q → (i : ℕ) → i ≡ suc (q.requester.next - q.requester.oldest)
    → q.requester.oldest_psn + count_sum (take i (unfinished_requests q)) ≤ begun_end q + 4096
begun-more q s i e = omega (
  arith,
  ap (λ i. count_sum (take i (unfinished_requests q))) e,
  take-more (q.requester.next - q.requester.oldest) (unfinished_requests q)
      (numbers-few q.responder.mtu q.requester.oldest q.requester.oldest_psn (items_from q.requester.oldest q.sends) s.responder.mtu
      (all-dropped IsSend (q.requester.oldest - q.sends.first) q.sends.items s.sends.items)),
)
