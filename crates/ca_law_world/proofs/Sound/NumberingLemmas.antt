-- The places and the PSNs of numbered requests: one after another, also without those that are finished.
use Rattle.std.proofs.Common.{zero, ◌≡◌, ℕ, suc, ◌+◌, ◌-◌, ◌≤◌, ◌==◌, min, nat_le, arith, Bool, true, false, List, [], ◌∷◌, length, drop, take, Option, None, Some, IfSome, ◌∙◌, ap, ap₂, sym, if◌then◌else◌, slice_get, refl}
use Rattle.std.proofs.lemmas.List.{drop-drop, drop-take, length-take}
use Rattle.std.proofs.lemmas.List.Folds.{length-prefix_len}
use Rattle.std.proofs.lemmas.List.Sums.{prefix_len-le-length, sum_by-cons, sum_by-take-drop}
use Rattle.std.proofs.lemmas.List.{length-map}
use Rattle.std.specs.List.{AllByRecursion, find, prefix_len, sum_by}
use Rattle.std.specs.Option.{option_or}
use Rattle.ca_keys.specs.declared.access.Kind.{Kind}
use Rattle.ca_base.specs.declared.limits.TheConstants.{MAX_PIECES}
use Rattle.ca_base.specs.declared.request.Piece.{Piece}
use Rattle.ca_base.specs.declared.request.PostedSend.{PostedSend}
use Rattle.ca_base.specs.objects.QueuePair.{QueuePair}
use Rattle.ca_base.specs.objects.WorkQueue.{items_from}
use Rattle.ca_model.specs.Requests.{list_of, psns_of}
use Rattle.ca_model.specs.machine.Acknowledgements.{after_finished, finished_requests}
use Rattle.ca_model.specs.machine.Numbering.{Numbered, begun_requests, cut_list, has_psn, list_asks, next_to_begin, piece_ask, piece_part, numbers_of, psn_end, request_at, unfinished_requests}
use Rattle.ca_model.specs.machine.Requester.{next_request}
use Rattle.ca_model.specs.machine.Invariants.{IsList, IsQueue, IsSend, begun_end}

abbrev pub count_sum : List Numbered → ℕ
count_sum ns = sum_by (λ n. n.count) ns

-- numbered requests, one after another from a place and a PSN on
abbrev pub Numbers : ℕ → ℕ → ℕ → List Numbered → Type 0
Numbers mtu place psn [] = Unit {0}
Numbers mtu place psn (n ∷ ns) =
    ((n.place ≡ place) × (n.first ≡ psn) × (n.count ≡ psns_of mtu n.request.op)) × Numbers mtu (suc place) (psn + n.count) ns

pub are-numbers : (mtu place psn : ℕ) (ps : List PostedSend) → Numbers mtu place psn (numbers_of mtu place psn ps)
are-numbers mtu place psn [] = record {}
are-numbers mtu place psn (p ∷ ps) = ((refl, refl, refl), are-numbers mtu (suc place) (psn + psns_of mtu p.request.op) ps)

pub take-numbers : (mtu k place psn : ℕ) (ns : List Numbered) → Numbers mtu place psn ns → Numbers mtu place psn (take k ns)
take-numbers mtu zero place psn ns all = record {}
take-numbers mtu (suc k) place psn [] all = record {}
take-numbers mtu (suc k) place psn (n ∷ ns) all = (all.0, take-numbers mtu k (suc place) (psn + n.count) ns all.1)

pub length-numbers : (mtu place psn : ℕ) (ps : List PostedSend) → length (numbers_of mtu place psn ps) ≡ length ps
length-numbers mtu place psn [] = refl
length-numbers mtu place psn (p ∷ ps) = ap suc (length-numbers mtu (suc place) (psn + psns_of mtu p.request.op) ps)

-- without the first k, they are the numbered requests from there on
pub drop-numbers : (mtu k place psn : ℕ) (ps : List PostedSend) (at from : ℕ) → at ≡ place + k → from ≡ psn + count_sum (take k (numbers_of mtu place psn ps))
    → drop k (numbers_of mtu place psn ps) ≡ numbers_of mtu at from (drop k ps)
drop-numbers mtu zero place psn ps at from e f = ap₂ (λ a b. numbers_of mtu a b ps) (omega (arith, e)) (omega (arith, f))
drop-numbers mtu (suc k) place psn [] at from e f = refl
drop-numbers mtu (suc k) place psn (p ∷ ps) at from e f =
    drop-numbers mtu k (suc place) (psn + psns_of mtu p.request.op) ps at from (omega (arith, e))
    (omega (arith, f, sum_by-cons (λ (n : Numbered). n.count) first (take k (numbers_of mtu (suc place) (psn + psns_of mtu p.request.op) ps))))
  where
    first : Numbered
    first = record { place = place; request = p.request; drawn = p.drawn; first = psn; count = psns_of mtu p.request.op }

take-take : {A : Type 0} (k m : ℕ) (xs : List A) → k ≤ m → take k (take m xs) ≡ take k xs
take-take zero m xs le = refl
take-take (suc k) zero xs le = absurd (omega (arith, le))
take-take (suc k) (suc m) [] le = refl
take-take (suc k) (suc m) (x ∷ xs) le = ap (λ t. x ∷ t) (take-take k m xs (omega (arith, le)))

-- without what is finished, the begun requests end at the same PSN
pub finished-end : (q : QueuePair) → q.sends.first ≤ q.requester.oldest → begun_end (after_finished q) ≡ begun_end q
finished-end q low = omega (arith, ap count_sum rest, sum_by-take-drop (λ (n : Numbered). n.count) (begun_requests q) k)
  where
    test : Numbered → Bool
    test n = nat_le (psn_end n) q.requester.una

    k : ℕ
    k = prefix_len test (begun_requests q)

    m : ℕ
    m = q.requester.next - q.requester.oldest

    whole : List Numbered
    whole = unfinished_requests q

    counted : length (finished_requests q) ≡ k
    counted = length-prefix_len test (begun_requests q)

    within : k ≤ m
    within = omega (arith, prefix_len-le-length test (begun_requests q), length-take m whole)

    items : drop k (items_from q.requester.oldest q.sends) ≡ items_from (q.requester.oldest + length (finished_requests q)) q.sends
    items = drop-drop k (q.requester.oldest - q.sends.first) q.sends.items ∙ ap (λ i. drop i q.sends.items) (omega (arith, low, counted))

    left : drop k whole ≡ unfinished_requests (after_finished q)
    left = drop-numbers q.responder.mtu k q.requester.oldest q.requester.oldest_psn (items_from q.requester.oldest q.sends)
        (q.requester.oldest + length (finished_requests q)) (q.requester.oldest_psn + count_sum (finished_requests q)) (omega (arith, counted)) same
        ∙ ap (λ ps. numbers_of q.responder.mtu (q.requester.oldest + length (finished_requests q)) (q.requester.oldest_psn + count_sum (finished_requests q)) ps) items
      where
        same : q.requester.oldest_psn + count_sum (finished_requests q) ≡ q.requester.oldest_psn + count_sum (take k whole)
        same = ap (λ ns. q.requester.oldest_psn + count_sum ns) (take-take k m whole within)

    rest : begun_requests (after_finished q) ≡ drop k (begun_requests q)
    rest = ap₂ (λ i ns. take i ns) (omega (arith, counted)) (sym left) ∙ sym (drop-take k (m - k) whole) ∙ ap (λ i. drop k (take i whole)) (omega (arith, within))

all-left : {A : Type 0} (P : A → Type 0) (k : ℕ) (xs : List A) → AllByRecursion P xs → AllByRecursion P (drop k xs)
all-left P zero xs all = all
all-left P (suc k) [] all = record {}
all-left P (suc k) (x ∷ xs) all = all-left P k xs all.1

cut-length : (skip count : ℕ) (ps : List Piece) → length (cut_list skip count ps) ≤ length ps
cut-length skip count [] = omega arith
cut-length skip count (p ∷ ps) = by (nat_le p.length skip) (count == 0) (cut-length (skip - p.length) count ps) (cut-length 0 (count - (p.length - skip)) ps)
  where
    by : (b z : Bool) → length (cut_list (skip - p.length) count ps) ≤ length ps → length (cut_list 0 (count - (p.length - skip)) ps) ≤ length ps
        → length (if b then cut_list (skip - p.length) count ps else if z then [] else piece_part p skip (min count (p.length - skip)) ∷ cut_list 0 (count - (p.length - skip)) ps) ≤ suc (length ps)
    by true z later rest = omega (arith, later)
    by false true later rest = omega arith
    by false false later rest = omega (arith, rest)

pub list-asks : (q : QueuePair) (kind : Kind) (skip count : ℕ) (ps : List Piece) → IsList ps → length (list_asks q.queue q.domain kind skip count ps) ≤ MAX_PIECES
list-asks q kind skip count ps short = omega (arith, short.few, cut-length skip count ps, length-map (cut_list skip count ps) (piece_ask q.queue q.domain kind))

-- each unfinished request has a short list
numbers-short : (mtu place psn : ℕ) (ps : List PostedSend) → AllByRecursion IsSend ps → AllByRecursion (λ n. IsList (list_of n.request.op)) (numbers_of mtu place psn ps)
numbers-short mtu place psn [] all = record {}
numbers-short mtu place psn (p ∷ ps) all = (all.0, numbers-short mtu (suc place) (psn + psns_of mtu p.request.op) ps all.1)

whole-short : (q : QueuePair) → IsQueue q → AllByRecursion (λ n. IsList (list_of n.request.op)) (unfinished_requests q)
whole-short q s = numbers-short q.responder.mtu q.requester.oldest q.requester.oldest_psn (items_from q.requester.oldest q.sends)
    (all-left IsSend (q.requester.oldest - q.sends.first) q.sends.items s.sends.items)

pub all-taken : {A : Type 0} (P : A → Type 0) (k : ℕ) (xs : List A) → AllByRecursion P xs → AllByRecursion P (take k xs)
all-taken P zero xs all = record {}
all-taken P (suc k) [] all = record {}
all-taken P (suc k) (x ∷ xs) all = (all.0, all-taken P k xs all.1)

pub all-found : {A : Type 0} (P : A → Type 0) (test : A → Bool) (xs : List A) → AllByRecursion P xs → IfSome (find test xs) P
all-found P test [] all = record {}
all-found P test (x ∷ xs) all = by (test x) (all-found P test xs all.1)
  where
    by : (b : Bool) → IfSome (find test xs) P → IfSome (if b then Some x else find test xs) P
    by true rest = all.0
    by false rest = rest

pub all-got : {A : Type 0} (P : A → Type 0) (xs : List A) (i : ℕ) → AllByRecursion P xs → IfSome (slice_get xs i) P
all-got P [] i all = record {}
all-got P (x ∷ xs) zero all = all.0
all-got P (x ∷ xs) (suc i) all = all-got P xs i all.1

abbrev pub IsShort : Numbered → Type 0
IsShort n = IsList (list_of n.request.op)

pub found-short : (psn : ℕ) (q : QueuePair) → IsQueue q → IfSome (request_at psn q) IsShort
found-short psn q s = all-found IsShort (has_psn psn) (begun_requests q) (all-taken IsShort (q.requester.next - q.requester.oldest) (unfinished_requests q) (whole-short q s))

pub next-short : (q : QueuePair) → IsQueue q → IfSome (next_request q) IsShort
next-short q s = by (request_at q.requester.cursor q) (found-short q.requester.cursor q s)
  where
    by : (o : Option Numbered) → IfSome o IsShort → IfSome (option_or o (next_to_begin q)) IsShort
    by None short = all-got IsShort (unfinished_requests q) (q.requester.next - q.requester.oldest) (whole-short q s)
    by (Some n) short = short
