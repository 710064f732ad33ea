-- What leaves a queue pair steady: what changes nothing of its requests, a progress, a packet, and the end of all. For proofs
-- only.
use Rattle.std.proofs.Common.{◌≡◌, ℕ, zero, suc, ◌+◌, ◌-◌, ◌<◌, ◌≤◌, Bool, true, false, nat_le, nat_lt, if◌then◌else◌, List, [], ◌∷◌, length, drop, take, refl, ap, ap₂, sym, ◌∙◌, subst, arith, true≢false}
use Rattle.std.proofs.lemmas.Bool.Decides.{nat_tests}
use Rattle.std.proofs.lemmas.List.{drop-drop, drop-take, drop_all, length-take}
use Rattle.std.proofs.lemmas.List.Folds.{length-prefix_len}
use Rattle.std.proofs.lemmas.List.Sums.{prefix_len-le-length, sum_by-cons}
use Rattle.std.specs.List.{AllByRecursion, prefix_len}
use Rattle.ca_base.specs.declared.change.State.{State}
use Rattle.ca_base.specs.declared.queue_numbers.RequesterNumbers.{RequesterNumbers}
use Rattle.ca_base.specs.declared.request.PostedSend.{PostedSend}
use Rattle.ca_base.specs.objects.QueuePair.{QueuePair, in_error}
use Rattle.ca_base.specs.objects.WorkQueue.{WorkQueue, items_from, next_place}
use Rattle.ca_law_world.proofs.Sound.NumberingLemmas.{Numbers, are-numbers, count_sum, drop-numbers, take-numbers}
use Rattle.ca_model.specs.Requests.{is_local}
use Rattle.ca_model.specs.machine.Acknowledgements.{after_finished, finished_requests, with_una}
use Rattle.ca_model.specs.machine.Invariants.{is_sending}
use Rattle.ca_model.specs.machine.Numbering.{Numbered, begun_requests, numbers_of, psn_end, unfinished_requests}
use Rattle.ca_law_world.specs.Steady.{EndsBehind, IsSteadyQueue}

-- ---- nothing changes

-- the queue pair with another's state, sends, requester and path MTU
abbrev joined : QueuePair → State → WorkQueue PostedSend → RequesterNumbers → ℕ → QueuePair
joined q state sends requester mtu = record q { state = state; sends = sends; requester = requester; responder = record q.responder { mtu = mtu } }

pub steady-as : (q p : QueuePair) → p.state ≡ q.state → p.sends ≡ q.sends → p.requester ≡ q.requester → p.responder.mtu ≡ q.responder.mtu → IsSteadyQueue q → IsSteadyQueue p
steady-as q p state sends requester mtu s = by (
    subst (λ x. IsSteadyQueue (joined q p.state p.sends p.requester x)) (sym mtu)
    (subst (λ x. IsSteadyQueue (joined q p.state p.sends x q.responder.mtu)) (sym requester)
    (subst (λ x. IsSteadyQueue (joined q p.state x q.requester q.responder.mtu)) (sym sends)
    (subst (λ x. IsSteadyQueue (joined q x q.sends q.requester q.responder.mtu)) (sym state) s)))
    )
  where
    by : IsSteadyQueue (joined q p.state p.sends p.requester p.responder.mtu) → IsSteadyQueue p
    by t = record { unfinished = t.unfinished; oldest = t.oldest; reads = t.reads; ends = t.ends; packets = t.packets }

-- ---- nothing is unfinished

take-none : {A : Type 0} (k : ℕ) → take {A = A} k [] ≡ []
take-none zero = refl
take-none (suc k) = refl

pub steady-none : (q : QueuePair) → is_sending q.state ≡ false → unfinished_requests q ≡ [] → IsSteadyQueue q
steady-none q idle none = record {
  unfinished = λ is. none;
  oldest = λ is. absurd (true≢false (sym is ∙ idle));
  reads = λ is. absurd (true≢false (sym is ∙ idle));
  ends = subst (EndsBehind q.requester.una) (sym begun) (record {});
  packets = subst (AllByRecursion (λ n. is_local n.request.op ≡ false)) (sym begun) (record {});
}
  where
    begun : begun_requests q ≡ []
    begun = ap (take (q.requester.next - q.requester.oldest)) none ∙ take-none (q.requester.next - q.requester.oldest)

-- in Error all is flushed
pub flushed-none : (q : QueuePair) → items_from (next_place q.sends) q.sends ≡ []
flushed-none q = drop_all (next_place q.sends - q.sends.first) q.sends.items (omega arith)

pub steady-error : (q : QueuePair) → IsSteadyQueue (in_error q)
steady-error q = steady-none (in_error q) refl (ap (numbers_of q.responder.mtu (next_place q.sends) q.requester.oldest_psn) (flushed-none q))

-- ---- progress

all-dropped : {A : Type 0} (P : A → Type 0) (k : ℕ) (xs : List A) → AllByRecursion P xs → AllByRecursion P (drop k xs)
all-dropped P zero xs all = all
all-dropped P (suc k) [] all = record {}
all-dropped P (suc k) (x ∷ xs) all = all-dropped P k xs all.1

-- behind those that are finished stands one that is not
ends-behind : (una : ℕ) (ns : List Numbered) → EndsBehind una (drop (prefix_len (λ n. nat_le (psn_end n) una) ns) ns)
ends-behind una [] = record {}
ends-behind una (n ∷ ns) = by (nat_le (psn_end n) una) refl (ends-behind una ns)
  where
    rest : ℕ
    rest = prefix_len (λ m. nat_le (psn_end m) una) ns

    one : drop (1 + rest) (n ∷ ns) ≡ drop rest ns
    one = ap (λ k. drop k (n ∷ ns)) {y = suc rest} (omega arith)

    by : (b : Bool) → nat_le (psn_end n) una ≡ b → EndsBehind una (drop rest ns) → EndsBehind una (drop (if b then 1 + rest else 0) (n ∷ ns))
    by true is others = subst (EndsBehind una) (sym one) others
    by false is others = grind (arith, nat_tests, is)

-- the PSNs of those that are finished lie below `una`
finished-below : (una mtu place psn : ℕ) (ns : List Numbered) → Numbers mtu place psn ns → psn ≤ una → psn + count_sum (take (prefix_len (λ n. nat_le (psn_end n) una) ns) ns) ≤ una
finished-below una mtu place psn [] all low = omega (arith, low)
finished-below una mtu place psn (n ∷ ns) all low = by (nat_le (psn_end n) una) refl (λ le. finished-below una mtu (suc place) (psn + n.count) ns all.1 le)
  where
    rest : ℕ
    rest = prefix_len (λ m. nat_le (psn_end m) una) ns

    one : take (1 + rest) (n ∷ ns) ≡ n ∷ take rest ns
    one = ap (λ k. take k (n ∷ ns)) {y = suc rest} (omega arith)

    by : (b : Bool) → nat_le (psn_end n) una ≡ b → (psn + n.count ≤ una → (psn + n.count) + count_sum (take rest ns) ≤ una) → psn + count_sum (take (if b then 1 + rest else 0) (n ∷ ns)) ≤ una
    by true is others =
        let ends : psn_end n ≤ una = grind (arith, nat_tests, is) in
        omega (arith, ap count_sum one, sum_by-cons (λ (m : Numbered). m.count) n (take rest ns), others (omega (arith, ends, all.0.1)))
    by false is others = omega (arith, low)

take-take : {A : Type 0} (k m : ℕ) (xs : List A) → k ≤ m → take k (take m xs) ≡ take k xs
take-take zero m xs le = refl
take-take (suc k) zero xs le = absurd (omega (arith, le))
take-take (suc k) (suc m) [] le = refl
take-take (suc k) (suc m) (x ∷ xs) le = ap (λ t. x ∷ t) (take-take k m xs (omega (arith, le)))

-- without those that are finished, the others that have begun are left
module _ (q : QueuePair) (first : q.sends.first ≤ q.requester.oldest) where
  test : Numbered → Bool
  test n = nat_le (psn_end n) q.requester.una

  abbrev k : ℕ
  k = prefix_len (λ n. nat_le (psn_end n) q.requester.una) (begun_requests q)

  abbrev m : ℕ
  m = q.requester.next - q.requester.oldest

  counted : length (finished_requests q) ≡ k
  counted = length-prefix_len (λ n. nat_le (psn_end n) q.requester.una) (begun_requests q)

  within : k ≤ m
  within = omega (arith, prefix_len-le-length (λ n. nat_le (psn_end n) q.requester.una) (begun_requests q), length-take m (unfinished_requests q))

  items : drop k (items_from q.requester.oldest q.sends) ≡ items_from (q.requester.oldest + length (finished_requests q)) q.sends
  items = drop-drop k (q.requester.oldest - q.sends.first) q.sends.items ∙ ap (λ i. drop i q.sends.items) (omega (arith, first, counted))

  pub unfinished-after : drop k (unfinished_requests q) ≡ unfinished_requests (after_finished q)
  unfinished-after = drop-numbers q.responder.mtu k q.requester.oldest q.requester.oldest_psn (items_from q.requester.oldest q.sends)
      (q.requester.oldest + length (finished_requests q)) (q.requester.oldest_psn + count_sum (finished_requests q)) (omega (arith, counted)) same
      ∙ ap (λ ps. numbers_of q.responder.mtu (q.requester.oldest + length (finished_requests q)) (q.requester.oldest_psn + count_sum (finished_requests q)) ps) items
    where
      same : q.requester.oldest_psn + count_sum (finished_requests q) ≡ q.requester.oldest_psn + count_sum (take k (unfinished_requests q))
      same = ap (λ ns. q.requester.oldest_psn + count_sum ns) (take-take k m (unfinished_requests q) within)

  pub begun-after : begun_requests (after_finished q) ≡ drop k (begun_requests q)
  begun-after = ap₂ (λ i ns. take i ns) (omega (arith, counted)) (sym unfinished-after) ∙ sym (drop-take k (m - k) (unfinished_requests q)) ∙ ap (λ i. drop k (take i (unfinished_requests q))) (omega (arith, within))

-- what is finished is taken away, where `una` may have grown
record IsAlmostSteady (q : QueuePair) : Type 0 where
  unfinished : is_sending q.state ≡ false → unfinished_requests q ≡ []
  oldest : is_sending q.state ≡ true → q.requester.oldest_psn ≤ q.requester.una
  reads : is_sending q.state ≡ true → 0 < q.requester.reads
  packets : AllByRecursion (λ n. is_local n.request.op ≡ false) (begun_requests q)

drop-none : {A : Type 0} (k : ℕ) → drop {A = A} k [] ≡ []
drop-none zero = refl
drop-none (suc k) = refl

finished-steady : (q : QueuePair) → q.sends.first ≤ q.requester.oldest → IsAlmostSteady q → IsSteadyQueue (after_finished q)
finished-steady q first s = record {
  unfinished = λ is. sym (unfinished-after q first) ∙ ap (drop (k q first)) (s.unfinished is) ∙ drop-none (k q first);
  oldest = λ is. finished-below q.requester.una q.responder.mtu q.requester.oldest q.requester.oldest_psn (begun_requests q)
      (take-numbers q.responder.mtu (q.requester.next - q.requester.oldest) q.requester.oldest q.requester.oldest_psn (unfinished_requests q)
      (are-numbers q.responder.mtu q.requester.oldest q.requester.oldest_psn (items_from q.requester.oldest q.sends))) (s.oldest is);
  reads = s.reads;
  ends = subst (EndsBehind q.requester.una) (sym (begun-after q first)) (ends-behind q.requester.una (begun_requests q));
  packets = subst (AllByRecursion (λ n. is_local n.request.op ≡ false)) (sym (begun-after q first)) (all-dropped _ (k q first) (begun_requests q) s.packets);
}

una-almost : (psn : ℕ) (q : QueuePair) → IsSteadyQueue q → IsAlmostSteady (with_una psn q)
una-almost psn q s = by (nat_lt q.requester.una psn) refl
  where
    by : (b : Bool) → nat_lt q.requester.una psn ≡ b → IsAlmostSteady (if b then record q { requester = record q.requester { una = psn; retries = 0; rnrs = 0 } } else q)
    by true is = record { unfinished = s.unfinished; oldest = λ so. grind (arith, nat_tests, is, s.oldest so); reads = s.reads; packets = s.packets }
    by false is = record { unfinished = s.unfinished; oldest = s.oldest; reads = s.reads; packets = s.packets }

una-first : (psn : ℕ) (q : QueuePair) → q.sends.first ≤ q.requester.oldest → (with_una psn q).sends.first ≤ (with_una psn q).requester.oldest
una-first psn q first = by (nat_lt q.requester.una psn)
  where
    after : Bool → QueuePair
    after b = if b then record q { requester = record q.requester { una = psn; retries = 0; rnrs = 0 } } else q

    by : (b : Bool) → (after b).sends.first ≤ (after b).requester.oldest
    by true = first
    by false = first

pub progress-steady : (psn : ℕ) (q : QueuePair) → q.sends.first ≤ q.requester.oldest → IsSteadyQueue q → IsSteadyQueue (after_finished (with_una psn q))
progress-steady psn q first s = finished-steady (with_una psn q) (una-first psn q first) (una-almost psn q s)

pub progress-first : (psn : ℕ) (q : QueuePair) → q.sends.first ≤ q.requester.oldest → (after_finished (with_una psn q)).sends.first ≤ (after_finished (with_una psn q)).requester.oldest
progress-first psn q first = omega (arith, una-first psn q first)
