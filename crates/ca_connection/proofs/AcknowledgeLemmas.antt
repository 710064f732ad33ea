-- The walk over the requests finds the first number that only an answer of its own can pass.
use Rattle.std.proofs.Common.{◌≡◌, ℕ, zero, suc, ◌+◌, ◌<◌, ◌≤◌, ◌⊎◌, inl, inr, max, Bool, true, false, ◌&&◌, None, Some, refl, sym, ◌∙◌, ap, arith, ltb-true, ltb-false, lt-ltb}
use Rattle.std.specs.Prelude.{nat_lt, if◌then◌else◌}
use Rattle.ca_connection.specs.Layout.{Work, Direction, psns, first, is_answered}
use Rattle.ca_connection.specs.Layout.Work.{Local, Send, Write, Read, Atomic}
use Rattle.ca_connection.specs.Acknowledge.{PassesNone, first_unanswered, IsFirstUnanswered, Acknowledges}
use Rattle.ca_connection.proofs.LayoutLemmas.{segments-some, names-one}
use Rattle.ca_connection.proofs.NumberLemmas.{cases-lt}

left_false : (a b : Bool) → (a && b) ≡ false → b ≡ true → a ≡ false
left_false true true e t = e
left_false true false e t = sym t
left_false false b e t = refl

left_true : (a b : Bool) → (a && b) ≡ true → a ≡ true
left_true true b e = refl
left_true false b e = e

right_true : (a b : Bool) → (a && b) ≡ true → b ≡ true
right_true true b e = e
right_true false b e = absurd (cc)

answered-some : (mtu : ℕ) (w : Work) → is_answered w ≡ true → 1 ≤ psns mtu w
answered-some mtu Local e = absurd (cc)
answered-some mtu (Send bytes) e = absurd (cc)
answered-some mtu (Write bytes) e = absurd (cc)
answered-some mtu (Read bytes) e = segments-some mtu bytes
answered-some mtu Atomic e = omega arith

-- a request that is not answered, or that lies below una, is passed
passes-more : (d : Direction) (place una : ℕ)
    → (is_answered (d.work place) && nat_lt una (first d (suc place))) ≡ false
    → PassesNone d una (first d place)
    → PassesNone d una (first d (suc place))
passes-more d place una unanswered before q n low high names = go (cases-lt n (first d place))
  where
    here : first d place ≤ n → is_answered (d.work q) ≡ false
    here from =
        let same : q ≡ place = names-one d q place n names (record { from = from; below = high }) in
        let no_answer : is_answered (d.work place) ≡ false = left_false (is_answered (d.work place)) (nat_lt una (first d (suc place))) unanswered (lt-ltb una (first d (suc place)) (omega arith)) in
        ap (λ m. is_answered (d.work m)) same ∙ no_answer

    go : (n < first d place) ⊎ (first d place ≤ n) → is_answered (d.work q) ≡ false
    go (inl below) = before q n low below names
    go (inr from) = here from

pub walk-finds : (d : Direction) (count place una upto : ℕ)
    → upto < first d (place + count)
    → PassesNone d una (first d place)
    → Acknowledges d una upto (first_unanswered d count place (first d place) una upto)
walk-finds d zero place una upto end before =
    let same : first d (place + 0) ≡ first d place = ap (first d) (let e : place + 0 ≡ place = omega arith in e) in
    λ q n low high names. before q n low (omega (arith, same)) names
walk-finds d (suc count) place una upto end before =
    let same : first d (place + suc count) ≡ first d (suc place + count) = ap (first d) (let e : place + suc count ≡ suc place + count = omega arith in e) in
    go (walk-finds d count (suc place) una upto (omega (arith, same)))
    (nat_lt upto (max una (first d place))) refl
    (is_answered (d.work place) && nat_lt una (first d (suc place))) refl
  where
    stop : upto < max una (first d place) → PassesNone d una (suc upto)
    stop lt q n low high names = before q n low (omega arith) names

    found : max una (first d place) ≤ upto → (is_answered (d.work place) && nat_lt una (first d (suc place))) ≡ true → IsFirstUnanswered d una upto (max una (first d place))
    found le is =
        let answer : is_answered (d.work place) ≡ true = left_true (is_answered (d.work place)) (nat_lt una (first d (suc place))) is in
        let below : una < first d (suc place) = ltb-true una (first d (suc place)) (right_true (is_answered (d.work place)) (nat_lt una (first d (suc place))) is) in
        record {
          from = omega arith;
          within = le;
          before = λ q n low high names. before q n low (omega arith) names;
          place = place;
          number = record { from = omega arith; below = omega (arith, answered-some d.mtu (d.work place) answer) };
          answered = answer;
        }

    go : (PassesNone d una (first d (suc place)) → Acknowledges d una upto (first_unanswered d count (suc place) (first d (suc place)) una upto))
        → (b : Bool) → nat_lt upto (max una (first d place)) ≡ b
        → (c : Bool) → (is_answered (d.work place) && nat_lt una (first d (suc place))) ≡ c
        → Acknowledges d una upto (if b then None else if c then Some (max una (first d place)) else first_unanswered d count (suc place) (first d (suc place)) una upto)
    go rest true lt c is = stop (ltb-true upto (max una (first d place)) lt)
    go rest false ge true is = found (ltb-false upto (max una (first d place)) ge) is
    go rest false ge false is = rest (passes-more d place una is before)
