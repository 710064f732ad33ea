-- Bytes that passed in two calls, one after the other.
use Rattle.std.proofs.Common.{ℕ, ◌≡◌, ◌+◌, ◌-◌, ◌≤◌, List, ◌++◌, Option, length, length-append, take, drop, subst, sym, arith}
use Rattle.std.specs.Io.KnownBytes.{Consumes, Appends}
use Rattle.ca_outside.specs.Outside.{LosesAtMost}
use Rattle.std.proofs.KnownBytes.{Appends-trans, Consumes-trans}
use Rattle.std.proofs.lemmas.List.{take_rest}
use Rattle.std.proofs.Math.Seq.{take-add}

-- the front of a list up to i + n, in two parts
take-two : (bs : List ℕ) (i n : ℕ) → take i bs ++ take n (take (length bs - i) (drop i bs)) ≡ take (i + n) bs
take-two bs i n = rw (take_rest bs i) (sym (take-add i n bs))

-- a sink took i bytes, and then n more of those behind them
pub Appends-more : (a b c : Option (List ℕ)) (bs : List ℕ) (i n : ℕ) → Appends a b (take i bs) → Appends b c (take n (take (length bs - i) (drop i bs))) → Appends a c (take (i + n) bs)
Appends-more a b c bs i n before more = subst (Appends a c) (take-two bs i n) (Appends-trans a b c _ _ before more)

-- what came in two reads is lost
pub LosesAtMost-two : (most : ℕ) (a b c : Option (List ℕ)) (bs cs : List ℕ) → length bs + length cs ≤ most → Consumes a b bs → Consumes b c cs
    → LosesAtMost most a c
LosesAtMost-two most a b c bs cs few before more = (bs ++ cs, omega (arith, few, length-append bs cs), Consumes-trans a b c bs cs before more)
