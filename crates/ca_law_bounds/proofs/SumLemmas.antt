-- Sums of weights: what lowers each, and what is left of a list.
use Rattle.std.proofs.Common.{◌≡◌, ℕ, zero, suc, ◌+◌, ◌-◌, ◌*◌, ◌≤◌, min, Bool, true, false, if◌then◌else◌, List, [], ◌∷◌, ◌++◌, drop, filter, ap, arith}
use Rattle.std.proofs.lemmas.List.Sums.{sum_by-append, sum_by-cons}
use Rattle.std.specs.List.{AllByRecursion, sum_by}
use Rattle.ca_base.specs.declared.queue_numbers.Queued.{Queued}
use Rattle.ca_base.specs.declared.queue_numbers.Queued.TheVariants as queued
use Rattle.ca_base.specs.objects.Answers.{is_ack, with_ack_at_end}
use Rattle.ca_base.specs.objects.QueuePair.{QueuePair, in_error, without_answers}
use Rattle.ca_base.specs.objects.WorkQueue.{next_place}
use Rattle.ca_law_world.proofs.Steady.SameLemmas.{flushed-none}
use Rattle.ca_model.specs.Requests.{is_local}
use Rattle.ca_model.specs.machine.Numbering.{Numbered, is_read, numbers_of, unfinished_requests}
use Rattle.ca_law_bounds.specs.Weights.{answer_weight, answers_weight, psns_left, queue_weight, request_weight, requests_weight}

pub sum-le : {A : Type 0} (f g : A → ℕ) → ((x : A) → f x ≤ g x) → (xs : List A) → sum_by f xs ≤ sum_by g xs
sum-le f g le [] = omega arith
sum-le f g le (x ∷ xs) = omega (arith, sum_by-cons f x xs, sum_by-cons g x xs, le x, sum-le f g le xs)

pub sum-drop : {A : Type 0} (f : A → ℕ) (k : ℕ) (xs : List A) → sum_by f (drop k xs) ≤ sum_by f xs
sum-drop f zero xs = omega arith
sum-drop f (suc k) [] = omega arith
sum-drop f (suc k) (x ∷ xs) = omega (arith, sum_by-cons f x xs, sum-drop f k xs)

pub sum-filter : {A : Type 0} (f : A → ℕ) (test : A → Bool) (xs : List A) → sum_by f (filter test xs) ≤ sum_by f xs
sum-filter f test [] = omega arith
sum-filter f test (x ∷ xs) = by (test x) (sum-filter f test xs)
  where
    by : (b : Bool) → sum_by f (filter test xs) ≤ sum_by f xs → sum_by f (if b then x ∷ filter test xs else filter test xs) ≤ sum_by f (x ∷ xs)
    by true rest = omega (arith, sum_by-cons f x (filter test xs), sum_by-cons f x xs, rest)
    by false rest = omega (arith, sum_by-cons f x xs, rest)

-- where each weighs at most as much, the sum falls at least as much as one of them
abbrev pub Falls : {A : Type 0} → (A → ℕ) → (A → ℕ) → List A → A → Type 0
Falls f g xs m = sum_by f xs + g m ≤ sum_by g xs + f m

falls-more : {A : Type 0} (f g : A → ℕ) (x : A) (xs : List A) → f x ≤ g x → (ms : List A) → AllByRecursion (Falls f g xs) ms → AllByRecursion (Falls f g (x ∷ xs)) ms
falls-more f g x xs le [] all = record {}
falls-more f g x xs le (m ∷ ms) all = (omega (arith, all.0, le, sum_by-cons f x xs, sum_by-cons g x xs), falls-more f g x xs le ms all.1)

pub all-fall : {A : Type 0} (f g : A → ℕ) → ((x : A) → f x ≤ g x) → (xs : List A) → AllByRecursion (Falls f g xs) xs
all-fall f g le [] = record {}
all-fall f g le (x ∷ xs) = (
  omega (arith, sum_by-cons f x xs, sum_by-cons g x xs, sum-le f g le xs),
  falls-more f g x xs (le x) xs (all-fall f g le xs),
)

-- ---- requests

-- a request weighs no more once the cursor and the next place went on
pub request-less : (cursor next later following : ℕ) → cursor ≤ later → next ≤ following → (n : Numbered) → request_weight later following n ≤ request_weight cursor next n
request-less cursor next later following on more n = by (is_local n.request.op) (is_read n.request.op)
  where
    by : (a b : Bool) → (if a then min 1 (suc n.place - following) else if b then 2 * psns_left later n + 2 * min 1 (psns_left later n) else 4 * psns_left later n)
        ≤ (if a then min 1 (suc n.place - next) else if b then 2 * psns_left cursor n + 2 * min 1 (psns_left cursor n) else 4 * psns_left cursor n)
    by true b = omega (arith, more)
    by false true = omega (arith, on)
    by false false = omega (arith, on)

-- in Error nothing is left
pub none-unfinished : (q : QueuePair) → unfinished_requests (in_error q) ≡ []
none-unfinished q = ap (numbers_of q.responder.mtu (next_place q.sends) q.requester.oldest_psn) (flushed-none q)

pub error-requests : (q : QueuePair) → requests_weight (in_error q) ≡ 0
error-requests q = ap (sum_by (request_weight q.requester.cursor (next_place q.sends))) (none-unfinished q)

pub error-weighs : (q : QueuePair) → queue_weight (without_answers (in_error q)) ≡ 0
error-weighs q = omega (arith, error-requests q)

-- ---- answers

pub answers-more : (mtu : ℕ) (answers : List Queued) (a : Queued) → answers_weight mtu (answers ++ (a ∷ [])) ≡ answers_weight mtu answers + answer_weight mtu a
answers-more mtu answers a = omega (arith, sum_by-append (answer_weight mtu) answers (a ∷ []), sum_by-cons (answer_weight mtu) a [])

pub ack-more : (mtu psn : ℕ) (answers : List Queued) → answers_weight mtu (with_ack_at_end psn answers) ≤ answers_weight mtu answers + 2
ack-more mtu psn [] = omega (arith, sum_by-cons (answer_weight mtu) (queued.Ack psn) [])
ack-more mtu psn (a ∷ []) = by (is_ack a)
  where
    by : (b : Bool) → answers_weight mtu (if b then queued.Ack psn ∷ [] else a ∷ queued.Ack psn ∷ []) ≤ answers_weight mtu (a ∷ []) + 2
    by true = omega (arith, sum_by-cons (answer_weight mtu) (queued.Ack psn) [])
    by false = omega (arith, sum_by-cons (answer_weight mtu) a (queued.Ack psn ∷ []), sum_by-cons (answer_weight mtu) (queued.Ack psn) [], sum_by-cons (answer_weight mtu) a [])
ack-more mtu psn (a ∷ b ∷ rest) = omega (arith, sum_by-cons (answer_weight mtu) a (with_ack_at_end psn (b ∷ rest)), sum_by-cons (answer_weight mtu) a (b ∷ rest), ack-more mtu psn (b ∷ rest))
