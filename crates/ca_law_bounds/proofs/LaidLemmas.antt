-- The requests of a queue pair that sends lie as those of some direction do.
use Rattle.std.proofs.Common.{◌≡◌, ℕ, zero, suc, ◌+◌, ◌-◌, ◌≤◌, false, nat_lt, if◌then◌else◌, List, [], ◌∷◌, drop, Some, slice_get, refl, ap, sym, subst, ◌∙◌, arith}
use Rattle.std.proofs.lemmas.Bool.{le-ltb, lt-ltb}
use Rattle.std.proofs.lemmas.List.{drop-drop}
use Rattle.std.specs.Option.{option_map_or}
use Rattle.ca_base.specs.declared.request.PostedSend.{PostedSend}
use Rattle.ca_base.specs.objects.QueuePair.{QueuePair, psn_base}
use Rattle.ca_base.specs.objects.WorkQueue.{items_from}
use Rattle.ca_connection.specs.Layout.{Direction, Work, first, psns, start}
use Rattle.ca_connection.specs.Layout.Work.{Local}
use Rattle.ca_law_once.specs.Sides.{IsLaid, IsWork, work_of}

-- what stands at a place: before the oldest unfinished request nothing that has packets, and then the requests
abbrev work_at : QueuePair → ℕ → Work
work_at q place =
    if nat_lt place q.requester.oldest then Local
    else option_map_or (λ p. work_of p.request.op) (slice_get (items_from q.requester.oldest q.sends) (place - q.requester.oldest)) Local

abbrev pub direction_of : QueuePair → Direction
direction_of q = record { psn = q.requester.oldest_psn - psn_base; mtu = q.responder.mtu; work = work_at q }

-- so the oldest one has the first number
first-low : (q : QueuePair) (k : ℕ) → k ≤ q.requester.oldest → first (direction_of q) k ≡ start (direction_of q)
first-low q zero low = refl
first-low q (suc k) low = omega (arith, first-low q k (omega (arith, low)), ap (psns q.responder.mtu) local)
  where
    local : work_at q k ≡ Local
    local = ap (λ b. if b then Local else option_map_or (λ p. work_of p.request.op) (slice_get (items_from q.requester.oldest q.sends) (k - q.requester.oldest)) Local)
        (lt-ltb k q.requester.oldest (omega (arith, low)))

-- what is got is the front of what is left
front-of : (i : ℕ) (xs : List PostedSend) → slice_get xs i ≡ slice_get (drop i xs) 0
front-of zero xs = refl
front-of (suc i) [] = refl
front-of (suc i) (x ∷ xs) = front-of i xs

works : (q : QueuePair) (i : ℕ) (ps : List PostedSend) → drop i (items_from q.requester.oldest q.sends) ≡ ps → IsWork (direction_of q) (q.requester.oldest + i) ps
works q i [] rest = record {}
works q i (p ∷ ps) rest = (
  here,
  subst (λ k. IsWork (direction_of q) k ps) (let next : q.requester.oldest + (i + 1) ≡ suc (q.requester.oldest + i) = omega arith in next)
      (works q (i + 1) ps (sym (drop-drop 1 i xs) ∙ ap (drop 1) rest)),
)
  where
    xs : List PostedSend
    xs = items_from q.requester.oldest q.sends

    later : nat_lt (q.requester.oldest + i) q.requester.oldest ≡ false
    later = le-ltb (q.requester.oldest + i) q.requester.oldest (omega arith)

    got : slice_get xs ((q.requester.oldest + i) - q.requester.oldest) ≡ Some p
    got = ap (slice_get xs) (let same : (q.requester.oldest + i) - q.requester.oldest ≡ i = omega arith in same) ∙ front-of i xs ∙ ap (λ ys. slice_get ys 0) rest

    here : work_at q (q.requester.oldest + i) ≡ work_of p.request.op
    here = ap (λ b. if b then Local else option_map_or (λ x. work_of x.request.op) (slice_get xs ((q.requester.oldest + i) - q.requester.oldest)) Local) later
        ∙ ap (λ o. option_map_or (λ x. work_of x.request.op) o Local) got

pub lies-somehow : (q : QueuePair) → psn_base ≤ q.requester.oldest_psn → q.requester.oldest_psn ≤ q.requester.una → IsLaid (direction_of q) q
lies-somehow q base passed = record {
  mtu = refl;
  begin = omega (arith, base, first-low q q.requester.oldest (omega arith));
  work = subst (λ k. IsWork (direction_of q) k (items_from q.requester.oldest q.sends)) (let same : q.requester.oldest + 0 ≡ q.requester.oldest = omega arith in same)
      (works q 0 (items_from q.requester.oldest q.sends) refl);
  passed = passed;
}
