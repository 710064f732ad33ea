-- The requests of a queue pair lie as those of the direction do, also once some are finished.
use Rattle.std.proofs.Common.{◌≡◌, ℕ, zero, suc, ◌+◌, ◌-◌, ◌≤◌, Bool, true, false, nat_le, nat_lt, if◌then◌else◌, List, [], ◌∷◌, length, drop, take, refl, ap, sym, subst, ◌∙◌, arith}
use Rattle.std.proofs.lemmas.Bool.{leb-true, ltb-true}
use Rattle.std.proofs.lemmas.List.{drop-drop}
use Rattle.std.proofs.lemmas.List.Sums.{sum_by-cons}
use Rattle.std.specs.List.{AllByRecursion, prefix_len, take_while}
use Rattle.ca_base.specs.declared.request.PostedSend.{PostedSend}
use Rattle.ca_base.specs.declared.request.SendOp.{SendOp}
use Rattle.ca_base.specs.declared.request.SendOp.TheVariants as ops
use Rattle.ca_base.specs.objects.QueuePair.{QueuePair}
use Rattle.ca_base.specs.objects.WorkQueue.{items_from}
use Rattle.ca_connection.specs.Layout.{Direction, first, is_answered, is_atomic, is_read, psns}
use Rattle.ca_law_world.proofs.Sound.NumberingLemmas.{count_sum}
use Rattle.ca_model.specs.Requests.{psns_of}
use Rattle.ca_model.specs.machine.Acknowledgements.{after_finished, finished_requests, with_requester, with_una}
use Rattle.ca_model.specs.machine.Numbering.{Numbered, begun_requests, is_answered_op, is_atomic_op, is_read as is_read_op, numbers_of, psn_end, unfinished_requests}
use Rattle.ca_law_once.specs.Sides.{IsLaid, IsWork, work_of}

pub psns-of-work : (mtu : ℕ) (op : SendOp) → psns_of mtu op ≡ psns mtu (work_of op)
psns-of-work mtu (ops.Send list) = refl
psns-of-work mtu (ops.SendImm imm list) = refl
psns-of-work mtu (ops.SendInv key list) = refl
psns-of-work mtu (ops.Write address key list) = refl
psns-of-work mtu (ops.WriteImm address key imm list) = refl
psns-of-work mtu (ops.Read address key list) = refl
psns-of-work mtu (ops.CmpSwap address key compare swap list) = refl
psns-of-work mtu (ops.FetchAdd address key add list) = refl
psns-of-work mtu (ops.Bind1 window region address length rights) = refl
psns-of-work mtu (ops.Bind2 window region low address length rights) = refl
psns-of-work mtu (ops.FastReg region low buffer address length rights pages) = refl
psns-of-work mtu (ops.LocalInv key) = refl

pub read-of-work : (op : SendOp) → is_read_op op ≡ is_read (work_of op)
read-of-work (ops.Send list) = refl
read-of-work (ops.SendImm imm list) = refl
read-of-work (ops.SendInv key list) = refl
read-of-work (ops.Write address key list) = refl
read-of-work (ops.WriteImm address key imm list) = refl
read-of-work (ops.Read address key list) = refl
read-of-work (ops.CmpSwap address key compare swap list) = refl
read-of-work (ops.FetchAdd address key add list) = refl
read-of-work (ops.Bind1 window region address length rights) = refl
read-of-work (ops.Bind2 window region low address length rights) = refl
read-of-work (ops.FastReg region low buffer address length rights pages) = refl
read-of-work (ops.LocalInv key) = refl

pub atomic-of-work : (op : SendOp) → is_atomic_op op ≡ is_atomic (work_of op)
atomic-of-work (ops.Send list) = refl
atomic-of-work (ops.SendImm imm list) = refl
atomic-of-work (ops.SendInv key list) = refl
atomic-of-work (ops.Write address key list) = refl
atomic-of-work (ops.WriteImm address key imm list) = refl
atomic-of-work (ops.Read address key list) = refl
atomic-of-work (ops.CmpSwap address key compare swap list) = refl
atomic-of-work (ops.FetchAdd address key add list) = refl
atomic-of-work (ops.Bind1 window region address length rights) = refl
atomic-of-work (ops.Bind2 window region low address length rights) = refl
atomic-of-work (ops.FastReg region low buffer address length rights pages) = refl
atomic-of-work (ops.LocalInv key) = refl

pub answered-of-work : (op : SendOp) → is_answered_op op ≡ is_answered (work_of op)
answered-of-work (ops.Send list) = refl
answered-of-work (ops.SendImm imm list) = refl
answered-of-work (ops.SendInv key list) = refl
answered-of-work (ops.Write address key list) = refl
answered-of-work (ops.WriteImm address key imm list) = refl
answered-of-work (ops.Read address key list) = refl
answered-of-work (ops.CmpSwap address key compare swap list) = refl
answered-of-work (ops.FetchAdd address key add list) = refl
answered-of-work (ops.Bind1 window region address length rights) = refl
answered-of-work (ops.Bind2 window region low address length rights) = refl
answered-of-work (ops.FastReg region low buffer address length rights pages) = refl
answered-of-work (ops.LocalInv key) = refl

-- a numbered request has the numbers of the direction's request at its place, and does the same
pub record LiesAt (d : Direction) (n : Numbered) : Type 0 where
  pub begin : n.first ≡ first d n.place
  pub end : psn_end n ≡ first d (suc n.place)
  pub work : d.work n.place ≡ work_of n.request.op

-- numbered requests, one after another from a place on, do so
abbrev pub Lie : Direction → ℕ → List Numbered → Type 0
Lie d place [] = Unit {0}
Lie d place (n ∷ ns) = ((n.place ≡ place) × LiesAt d n) × Lie d (suc place) ns

pub take-lie : (d : Direction) (k place : ℕ) (ns : List Numbered) → Lie d place ns → Lie d place (take k ns)
take-lie d zero place ns lie = record {}
take-lie d (suc k) place [] lie = record {}
take-lie d (suc k) place (n ∷ ns) lie = (lie.0, take-lie d k (suc place) ns lie.1)

pub all-lie : (d : Direction) (place : ℕ) (ns : List Numbered) → Lie d place ns → AllByRecursion (LiesAt d) ns
all-lie d place [] lie = record {}
all-lie d place (n ∷ ns) lie = (lie.0.1, all-lie d (suc place) ns lie.1)

-- posted requests of the direction lie so
pub lie : (d : Direction) (mtu place psn : ℕ) (ps : List PostedSend) → mtu ≡ d.mtu → psn ≡ first d place → IsWork d place ps → Lie d place (numbers_of mtu place psn ps)
lie d mtu place psn [] same begin work = record {}
lie d mtu place psn (p ∷ ps) same begin work =
    ((refl, record { begin = begin; end = end; work = work.0 }), lie d mtu (suc place) (psn + psns_of mtu p.request.op) ps same end work.1)
  where
    end : psn + psns_of mtu p.request.op ≡ first d (suc place)
    end = omega (arith, begin, psns-of-work mtu p.request.op ∙ ap (λ m. psns m (work_of p.request.op)) same ∙ ap (psns d.mtu) (sym work.0))

-- where they end
pub lie-end : (d : Direction) (place : ℕ) (ns : List Numbered) → Lie d place ns → first d place + count_sum ns ≡ first d (place + length ns)
lie-end d place [] there = omega (arith, ap (first d) (let e : place ≡ place + 0 = omega arith in e))
lie-end d place (n ∷ ns) there = omega (
  arith,
  lie-end d (suc place) ns there.1,
  ap (first d) (let e : suc place + length ns ≡ place + suc (length ns) = omega arith in e),
  there.0.1.end,
  there.0.1.begin,
  ap (first d) there.0.0,
  ap (λ m. first d (suc m)) there.0.0,
  sum_by-cons (λ (n : Numbered). n.count) n ns,
)

pub unfinished-lie : (d : Direction) (q : QueuePair) → IsLaid d q → Lie d q.requester.oldest (unfinished_requests q)
unfinished-lie d q laid = lie d q.responder.mtu q.requester.oldest q.requester.oldest_psn (items_from q.requester.oldest q.sends) laid.mtu laid.begin laid.work

pub begun-lie : (d : Direction) (q : QueuePair) → IsLaid d q → Lie d q.requester.oldest (begun_requests q)
begun-lie d q laid = take-lie d (q.requester.next - q.requester.oldest) q.requester.oldest (unfinished_requests q) (unfinished-lie d q laid)

-- ---- without those that are finished

pub drop-work : (d : Direction) (k place at : ℕ) (ps : List PostedSend) → at ≡ place + k → IsWork d place ps → IsWork d at (drop k ps)
drop-work d zero place at ps e work = subst (λ n. IsWork d n ps) (let f : place ≡ at = omega (arith, e) in f) work
drop-work d (suc k) place at [] e work = record {}
drop-work d (suc k) place at (p ∷ ps) e work = drop-work d k (suc place) at ps (omega (arith, e)) work.1

-- the requests that end below a number do
ended-below : (d : Direction) (una place : ℕ) (ns : List Numbered) → Lie d place ns → first d place ≤ una → first d (place + length (take_while (λ n. nat_le (psn_end n) una) ns)) ≤ una
ended-below d una place [] there low = omega (arith, low, ap (first d) (let e : place + 0 ≡ place = omega arith in e))
ended-below d una place (n ∷ ns) there low = by (λ low. ended-below d una (suc place) ns there.1 low) (nat_le (psn_end n) una) refl
  where
    test : Numbered → Bool
    test n = nat_le (psn_end n) una

    k : ℕ
    k = prefix_len test ns

    by : (first d (suc place) ≤ una → first d (suc place + length (take k ns)) ≤ una) → (b : Bool) → nat_le (psn_end n) una ≡ b
        → first d (place + length (take (if b then 1 + k else 0) (n ∷ ns))) ≤ una
    by more true e = omega (
      arith,
      more (omega (arith, there.0.1.end, ap (λ m. first d (suc m)) there.0.0, leb-true (psn_end n) una e)),
      ap (first d) (let f : suc place + length (take k ns) ≡ place + suc (length (take k ns)) = omega arith in f),
      ap (λ j. first d (place + length (take j (n ∷ ns)))) (let f : 1 + k ≡ suc k = omega arith in f),
    )
    by more false e = omega (arith, low, ap (first d) (let f : place + 0 ≡ place = omega arith in f))

pub laid-finished : (d : Direction) (q : QueuePair) → q.sends.first ≤ q.requester.oldest → IsLaid d q → IsLaid d (after_finished q)
laid-finished d q low laid = record {
  mtu = laid.mtu;
  begin = end;
  work = subst (λ ps. IsWork d (q.requester.oldest + count) ps) items (drop-work d count q.requester.oldest (q.requester.oldest + count) (items_from q.requester.oldest q.sends) refl laid.work);
  passed = omega (arith, end, ended-below d q.requester.una q.requester.oldest (begun_requests q) (begun-lie d q laid) (omega (arith, laid.begin, laid.passed)));
}
  where
    count : ℕ
    count = length (finished_requests q)

    items : drop count (items_from q.requester.oldest q.sends) ≡ items_from (q.requester.oldest + count) q.sends
    items = drop-drop count (q.requester.oldest - q.sends.first) q.sends.items ∙ ap (λ i. drop i q.sends.items) (omega (arith, low))

    end : q.requester.oldest_psn + count_sum (finished_requests q) ≡ first d (q.requester.oldest + count)
    end = omega (
      arith,
      laid.begin,
      lie-end d q.requester.oldest (finished_requests q)
          (take-lie d (prefix_len (λ n. nat_le (psn_end n) q.requester.una) (begun_requests q)) q.requester.oldest (begun_requests q) (begun-lie d q laid)),
    )

pub laid-una : (d : Direction) (psn : ℕ) (q : QueuePair) → IsLaid d q → IsLaid d (with_una psn q)
laid-una d psn q laid = by (nat_lt q.requester.una psn) refl
  where
    by : (b : Bool) → nat_lt q.requester.una psn ≡ b → IsLaid d (if b then with_requester (record q.requester { una = psn; retries = 0; rnrs = 0 }) q else q)
    by true e = record { mtu = laid.mtu; begin = laid.begin; work = laid.work; passed = omega (arith, laid.passed, ltb-true q.requester.una psn e) }
    by false e = laid
