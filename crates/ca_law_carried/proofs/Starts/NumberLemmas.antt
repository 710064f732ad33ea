-- The PSNs of posted requests, added up. For proofs only.
use Rattle.std.proofs.Common.{Bool, List, None, Option, Some, [], ap, arith, drop, false, if◌then◌else◌, is_some, length, ltb-false, map, nat_le, nat_lt, option_map, refl, slice_get, suc, sum_by, sym, take, true, true≢false, zero, ℕ, ◌++◌, ◌+◌, ◌-◌, ◌∙◌, ◌∷◌, ◌≡◌, ◌≤◌}
use Rattle.std.proofs.lemmas.List.{drop-drop, drop-map, length-take, take-append-le}
use Rattle.std.proofs.lemmas.List.Folds.{length-prefix_len}
use Rattle.std.proofs.lemmas.List.Sums.{prefix_len-le-length, sum_by-cons}
use Rattle.std.proofs.lemmas.Option.{same_Some, slice_get-map}
use Rattle.std.specs.List.{prefix_len}
use Rattle.ca_law_keys.proofs.Posts.PlaceLemmas.{IsPostedAt}
use Rattle.ca_law_keys.specs.Posts.{as_posted}
use Rattle.ca_law_carried.specs.Starts.{psns_before}
use Rattle.ca_base.specs.declared.request.PostedSend.{PostedSend}
use Rattle.ca_base.specs.objects.QueuePair.{QueuePair}
use Rattle.ca_base.specs.objects.WorkQueue.{WorkQueue, item_at, items_from}
use Rattle.ca_law_world.proofs.Sound.NumberingLemmas.{count_sum}
use Rattle.ca_model.specs.Past.{Posted}
use Rattle.ca_model.specs.Requests.{psns_of}
use Rattle.ca_model.specs.machine.Acknowledgements.{finished_requests}
use Rattle.ca_model.specs.machine.Numbering.{Numbered, begun_requests, numbers_of, psn_end, unfinished_requests}

-- what occupies a send queue is what was posted last
abbrev pub Linked : List Posted → WorkQueue PostedSend → Type 0
Linked posted sends = sends.items ≡ map as_posted (drop sends.first posted)

abbrev pub psns_at : ℕ → Posted → ℕ
psns_at mtu p = psns_of mtu p.request.op

-- one request more
pub before-next : (mtu : ℕ) (posted : List Posted) (place : ℕ) (p : Posted) → slice_get posted place ≡ Some p → psns_before mtu posted (suc place) ≡ psns_before mtu posted place + psns_of mtu p.request.op
before-next mtu [] place p is = absurd (true≢false (sym (ap is_some is)))
before-next mtu (x ∷ xs) zero p is = omega (arith, sum_by-cons (psns_at mtu) x [], ap (psns_at mtu) (same_Some x p is))
before-next mtu (x ∷ xs) (suc place) p is = omega (arith, sum_by-cons (psns_at mtu) x (take (suc place) xs), sum_by-cons (psns_at mtu) x (take place xs), before-next mtu xs place p is)

behind-none : (n : ℕ) → n ≡ 0 + n
behind-none n = omega arith

-- where none was posted
pub none-before : (mtu place : ℕ) → psns_before mtu [] place ≡ 0
none-before mtu zero = refl
none-before mtu (suc place) = refl

-- some requests more
pub before-more : (mtu : ℕ) (posted : List Posted) (place k : ℕ) → psns_before mtu posted (place + k) ≡ psns_before mtu posted place + sum_by (psns_at mtu) (take k (drop place posted))
before-more mtu posted zero k = ap (λ i. psns_before mtu posted i) {y = k} (omega arith) ∙ behind-none (psns_before mtu posted k)
before-more mtu [] (suc place) k = omega (arith, none-before mtu (suc place + k), none-before mtu (suc place), none-before mtu k)
before-more mtu (x ∷ xs) (suc place) k = ap (psns_before mtu (x ∷ xs)) {y = suc (place + k)} (omega arith)
    ∙ omega (arith, sum_by-cons (psns_at mtu) x (take (place + k) xs), sum_by-cons (psns_at mtu) x (take place xs), before-more mtu xs place k)

-- a request that is posted later changes nothing
pub before-posted : (mtu : ℕ) (posted more : List Posted) (place : ℕ) → place ≤ length posted → psns_before mtu (posted ++ more) place ≡ psns_before mtu posted place
before-posted mtu posted more place within = ap (sum_by (psns_at mtu)) (take-append-le place posted more within)

-- the PSNs of numbered requests are those of what was posted
pub numbers-sum : (mtu place psn k : ℕ) (ps : List Posted) → count_sum (take k (numbers_of mtu place psn (map as_posted ps))) ≡ sum_by (psns_at mtu) (take k ps)
numbers-sum mtu place psn zero ps = refl
numbers-sum mtu place psn (suc k) [] = refl
numbers-sum mtu place psn (suc k) (p ∷ ps) = omega (
  arith,
  sum_by-cons (λ (n : Numbered). n.count) (record { place = place; request = p.request; drawn = p.drawn; first = psn; count = psns_of mtu p.request.op }) (take k (numbers_of mtu (suc place) (psn + psns_of mtu p.request.op) (map as_posted ps))),
  sum_by-cons (psns_at mtu) p (take k ps),
  numbers-sum mtu (suc place) (psn + psns_of mtu p.request.op) k ps,
)

-- what occupies a send queue from a place on
pub linked-from : (posted : List Posted) (sends : WorkQueue PostedSend) (place : ℕ) → Linked posted sends → sends.first ≤ place → items_from place sends ≡ map as_posted (drop place posted)
linked-from posted sends place linked low = ap (drop (place - sends.first)) linked ∙ drop-map as_posted (place - sends.first) (drop sends.first posted)
    ∙ ap (map as_posted) (drop-drop (place - sends.first) sends.first posted ∙ ap (λ i. drop i posted) (omega (arith, low)))

-- the requests that are finished take the PSNs that lie between
pub finished-sum : (posted : List Posted) (q : QueuePair) → Linked posted q.sends → q.sends.first ≤ q.requester.oldest
    → psns_before q.responder.mtu posted (q.requester.oldest + length (finished_requests q)) ≡ psns_before q.responder.mtu posted q.requester.oldest + count_sum (finished_requests q)
finished-sum posted q linked low = ap (λ i. psns_before q.responder.mtu posted (q.requester.oldest + i)) counted ∙ before-more q.responder.mtu posted q.requester.oldest k
    ∙ ap (λ n. psns_before q.responder.mtu posted q.requester.oldest + n) (sym (ap count_sum (take-take k m (unfinished_requests q) within)
    ∙ ap (λ ps. count_sum (take k (numbers_of q.responder.mtu q.requester.oldest q.requester.oldest_psn ps))) (linked-from posted q.sends q.requester.oldest linked low)
    ∙ numbers-sum q.responder.mtu q.requester.oldest q.requester.oldest_psn k (drop q.requester.oldest posted)))
  where
    test : Numbered → Bool
    test n = nat_le (psn_end n) q.requester.una

    k : ℕ
    k = prefix_len test (begun_requests q)

    m : ℕ
    m = q.requester.next - q.requester.oldest

    counted : length (finished_requests q) ≡ k
    counted = length-prefix_len test (begun_requests q)

    within : k ≤ m
    within = omega (arith, prefix_len-le-length test (begun_requests q), length-take m (unfinished_requests q))

    take-take : {A : Type 0} (k m : ℕ) (xs : List A) → k ≤ m → take k (take m xs) ≡ take k xs
    take-take zero m xs le = refl
    take-take (suc k) zero xs le = absurd (omega (arith, le))
    take-take (suc k) (suc m) [] le = refl
    take-take (suc k) (suc m) (x ∷ xs) le = ap (λ t. x ∷ t) (take-take k m xs (omega (arith, le)))

-- what stands behind so many
pub get-drop : {A : Type 0} (n : ℕ) (xs : List A) (i j : ℕ) → j ≡ n + i → slice_get (drop n xs) i ≡ slice_get xs j
get-drop zero xs i j is = ap (slice_get xs) {x = i} {y = j} (omega (arith, is))
get-drop (suc n) [] i zero is = absurd (omega (arith, is))
get-drop (suc n) [] i (suc j) is = refl
get-drop (suc n) (x ∷ xs) i zero is = absurd (omega (arith, is))
get-drop (suc n) (x ∷ xs) i (suc j) is = get-drop n xs i j (omega (arith, is))

pub posted-some : (o : Option Posted) (x : PostedSend) → option_map as_posted o ≡ Some x → (p : Posted) × (o ≡ Some p) × (as_posted p ≡ x)
posted-some None x is = absurd (true≢false (sym (ap is_some is)))
posted-some (Some p) x is = (p, refl, same_Some (as_posted p) x is)

-- what occupies a send queue at a place was posted there
pub linked-item : (posted : List Posted) (sends : WorkQueue PostedSend) (place : ℕ) (x : PostedSend) → Linked posted sends → item_at place sends ≡ Some x → IsPostedAt posted place x
linked-item posted sends place x linked is = by (nat_lt place sends.first) refl is
  where
    at : sends.first ≤ place → slice_get sends.items (place - sends.first) ≡ Some x → IsPostedAt posted place x
    at low e = found (posted-some (slice_get posted place) x (
        ap (option_map as_posted) (sym (get-drop sends.first posted (place - sends.first) place (omega (arith, low))))
        ∙ sym (slice_get-map as_posted (drop sends.first posted) (place - sends.first))
        ∙ ap (λ l. slice_get l (place - sends.first)) (sym linked) ∙ e))
      where
        found : (p : Posted) × (slice_get posted place ≡ Some p) × (as_posted p ≡ x) → IsPostedAt posted place x
        found f = record { posted = f.0; is = f.1; same = f.2 }

    by : (b : Bool) → nat_lt place sends.first ≡ b → (if b then None else slice_get sends.items (place - sends.first)) ≡ Some x → IsPostedAt posted place x
    by true e none = absurd (true≢false (sym (ap is_some none)))
    by false e some = at (ltb-false place sends.first e) some
