-- Chains of undelivered requests: one more is sent, and the oldest is delivered.
use Rattle.std.proofs.Common.{◌≡◌, ℕ, zero, suc, ◌+◌, List, [], ◌∷◌, slice_get, Option, None, Some, refl, sym, subst, arith}
use Rattle.ca_connection.specs.Layout.{Direction, span}
use Rattle.ca_connection.specs.Link.{RequestPacket}
use Rattle.ca_connection.specs.Calm.{AreExpected, IsChain, Standing}
use Rattle.ca_connection.specs.Calm.Standing.{Accepting, Closed, Waiting}

-- the oldest of a chain is of the other direction
pub chain-other : (d : Direction) (top k : ℕ) (xs : List (Option RequestPacket)) (bottom : ℕ)
    → IsChain d top (suc k) xs bottom → slice_get xs k ≡ Some None → IsChain d top k xs bottom
chain-other d top k [] bottom h is = absurd h
chain-other d top zero (None ∷ xs) bottom h is = h
chain-other d top zero (Some x ∷ xs) bottom h is = absurd (cc)
chain-other d top (suc k) (None ∷ xs) bottom h is = chain-other d top k xs bottom h is
chain-other d top (suc k) (Some x ∷ xs) bottom h is = (h.0, chain-other d x.number k xs bottom h.1 is)

-- the oldest of a chain begins it, and the others follow
pub record Oldest (d : Direction) (top k : ℕ) (xs : List (Option RequestPacket)) (bottom : ℕ) (x : RequestPacket) : Type 0 where
  pub number : x.number ≡ bottom
  pub chain : IsChain d top k xs (x.number + span d x.place x.number)

pub chain-oldest : (d : Direction) (top k : ℕ) (xs : List (Option RequestPacket)) (bottom : ℕ) (x : RequestPacket)
    → IsChain d top (suc k) xs bottom → slice_get xs k ≡ Some (Some x) → Oldest d top k xs bottom x
chain-oldest d top k [] bottom x h is = absurd h
chain-oldest d top zero (None ∷ xs) bottom x h is = absurd (cc)
chain-oldest d top zero (Some y ∷ xs) bottom x h is =
    let same : y ≡ x = cc in
    subst (λ z. Oldest d top zero (Some y ∷ xs) bottom z) same (record { number = h.1; chain = sym h.0 })
chain-oldest d top (suc k) (None ∷ xs) bottom x h is =
    let o = chain-oldest d top k xs bottom x h is in record { number = o.number; chain = o.chain }
chain-oldest d top (suc k) (Some y ∷ xs) bottom x h is =
    let o = chain-oldest d y.number k xs bottom x h.1 is in record { number = o.number; chain = (h.0, o.chain) }

-- one more request is sent
pub expected-send : (d : Direction) (top k : ℕ) (xs : List (Option RequestPacket)) (expected place : ℕ) (standing : Standing)
    → AreExpected d top k xs expected standing
    → AreExpected d (top + span d place top) (suc k) (Some (record { number = top; place = place }) ∷ xs) expected standing
expected-send d top k xs expected place Accepting h = (refl, h)
expected-send d top k xs expected place Waiting h = record { bottom = h.bottom; above = h.above; chain = (refl, h.chain) }
expected-send d top k xs expected place Closed h = tt

-- one more envelope of the other direction
pub expected-other : (d : Direction) (top k : ℕ) (xs : List (Option RequestPacket)) (expected : ℕ) (standing : Standing)
    → AreExpected d top k xs expected standing → AreExpected d top (suc k) (None ∷ xs) expected standing
expected-other d top k xs expected Accepting h = h
expected-other d top k xs expected Waiting h = record { bottom = h.bottom; above = h.above; chain = h.chain }
expected-other d top k xs expected Closed h = tt

-- the oldest is of the other direction
pub expected-pass : (d : Direction) (top k : ℕ) (xs : List (Option RequestPacket)) (expected : ℕ) (standing : Standing)
    → AreExpected d top (suc k) xs expected standing → slice_get xs k ≡ Some None → AreExpected d top k xs expected standing
expected-pass d top k xs expected Accepting h is = chain-other d top k xs expected h is
expected-pass d top k xs expected Waiting h is = record { bottom = h.bottom; above = h.above; chain = chain-other d top k xs h.bottom h.chain is }
expected-pass d top k xs expected Closed h is = tt

-- the oldest is dropped by a responder that does not accept
pub expected-drop : (d : Direction) (top k : ℕ) (xs : List (Option RequestPacket)) (expected : ℕ) (standing : Standing) (x : RequestPacket)
    → (standing ≡ Accepting → ⊥) → AreExpected d top (suc k) xs expected standing → slice_get xs k ≡ Some (Some x)
    → AreExpected d top k xs expected standing
expected-drop d top k xs expected Accepting x other h is = absurd (other refl)
expected-drop d top k xs expected Waiting x other h is =
    let o = chain-oldest d top k xs h.bottom x h.chain is in
    record { bottom = x.number + span d x.place x.number; above = omega (arith, h.above, o.number); chain = o.chain }
expected-drop d top k xs expected Closed x other h is = tt
