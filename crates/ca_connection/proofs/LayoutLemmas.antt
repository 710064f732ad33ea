-- The numbers of posted requests.
use Rattle.std.proofs.Common.{◌≡◌, ℕ, zero, suc, ◌+◌, ◌-◌, ◌*◌, ◌/◌, ◌<◌, ◌≤◌, ◌⊎◌, inl, inr, true, false, refl, ◌∙◌, ap, arith}
use Rattle.std.proofs.Math.Nat.{add-div_right, div-lt_iff_lt-mul, mul-le-mul_left}
use Rattle.std.proofs.lemmas.Nat.{le-div}
use Rattle.ca_connection.specs.Layout.{Work, Direction, is_data, is_read, is_atomic, is_answered, bytes_of, segments, psns, start, first, HasNumber, bytes_left, span_of, span}
use Rattle.ca_connection.specs.Layout.Work.{Local, Send, Write, Read, Atomic}
use Rattle.ca_connection.proofs.NumberLemmas.{cases-lt}

pub segments-some : (mtu bytes : ℕ) → 1 ≤ segments mtu bytes
segments-some mtu bytes = omega arith

-- each whole payload more is a packet more
pub segments-step : (mtu bytes : ℕ) → 0 < mtu → mtu < bytes → segments mtu bytes ≡ suc (segments mtu (bytes - mtu))
segments-step mtu bytes some more =
    let regroup : bytes + mtu - 1 ≡ (bytes - mtu + mtu - 1) + mtu = omega arith in
    let more_one : (bytes + mtu - 1) / mtu ≡ (bytes - mtu + mtu - 1) / mtu + 1 = ap (λ n. n / mtu) regroup ∙ add-div_right (bytes - mtu + mtu - 1) some in
    let some_left : 1 ≤ (bytes - mtu + mtu - 1) / mtu = le-div 1 (bytes - mtu + mtu - 1) mtu some (omega arith) in
    omega arith

-- what fits one payload is one packet
pub segments-one : (mtu bytes : ℕ) → 0 < mtu → bytes ≤ mtu → segments mtu bytes ≡ 1
segments-one mtu bytes some few =
    let below : (bytes + mtu - 1) / mtu < 2 = (div-lt_iff_lt-mul {x = bytes + mtu - 1} {y = 2} some).1 (omega arith) in
    omega arith

first-step : (d : Direction) (p : ℕ) → first d p ≤ first d (suc p)
first-step d p = omega arith

pub first-mono : (d : Direction) (p k : ℕ) → first d p ≤ first d (p + k)
first-mono d p zero = omega (arith, ap (first d) (let e : p + 0 ≡ p = omega arith in e))
first-mono d p (suc k) =
    let e : p + suc k ≡ suc (p + k) = omega arith in
    let step : first d (p + suc k) ≡ first d (suc (p + k)) = ap (first d) e in
    omega (arith, first-mono d p k, first-step d (p + k), step)

pub first-le : (d : Direction) (p q : ℕ) → p ≤ q → first d p ≤ first d q
first-le d p q le = let e : p + (q - p) ≡ q = omega arith in omega (arith, first-mono d p (q - p), ap (first d) e)

pub start-le : (d : Direction) (p : ℕ) → start d ≤ first d p
start-le d p = first-le d 0 p (omega arith)

-- a number belongs to one request
pub names-one : (d : Direction) (p q n : ℕ) → HasNumber d p n → HasNumber d q n → p ≡ q
names-one d p q n a b = go (cases p q)
  where
    cases : (x y : ℕ) → (x < y) ⊎ ((x ≡ y) ⊎ (y < x))
    cases x y = grind arith

    go : (p < q) ⊎ ((p ≡ q) ⊎ (q < p)) → p ≡ q
    go (inl lt) = absurd (omega (arith, first-le d (suc p) q lt, a.below, b.from))
    go (inr (inl e)) = e
    go (inr (inr gt)) = absurd (omega (arith, first-le d (suc q) p gt, b.below, a.from))

-- each number from the start on below a request's first one belongs to a request before that
pub names-some : (d : Direction) (k n : ℕ) → start d ≤ n → n < first d k → (p : ℕ) × (p < k) × HasNumber d p n
names-some d zero n low high = absurd (omega arith)
names-some d (suc k) n low high = go (names-some d k n low) (cases-lt n (first d k))
  where
    go : (n < first d k → (p : ℕ) × (p < k) × HasNumber d p n) → (n < first d k) ⊎ (first d k ≤ n) → (p : ℕ) × (p < suc k) × HasNumber d p n
    go before (inl lt) = let r = before lt in (r.0, omega (arith, r.1), r.2)
    go before (inr ge) = (k, omega arith, record { from = ge; below = high })

two_packets : (mtu bytes : ℕ) → 0 < mtu → 2 ≤ segments mtu bytes → mtu < bytes
two_packets mtu bytes some two = go (cases-lt mtu bytes)
  where
    go : (mtu < bytes) ⊎ (bytes ≤ mtu) → mtu < bytes
    go (inl lt) = lt
    go (inr le) = absurd (omega (arith, segments-one mtu bytes some le))

-- what is left behind the first packets has the packets that are left
pub segments-left : (mtu bytes i : ℕ) → 0 < mtu → i < segments mtu bytes → segments mtu (bytes - i * mtu) + i ≡ segments mtu bytes
segments-left mtu bytes zero some below = omega (arith, ap (segments mtu) (let e : bytes - 0 * mtu ≡ bytes = omega arith in e))
segments-left mtu bytes (suc i) some below =
    let before = segments-left mtu bytes i some (omega arith) in
    let more : mtu < bytes - i * mtu = two_packets mtu (bytes - i * mtu) some (omega (arith, before)) in
    let same : bytes - i * mtu - mtu ≡ bytes - suc i * mtu = omega arith in
    omega (arith, before, segments-step mtu (bytes - i * mtu) some more, ap (segments mtu) same)

span_of-some : (mtu : ℕ) (w : Work) (left : ℕ) → 1 ≤ span_of mtu w left
span_of-some mtu Local left = omega arith
span_of-some mtu (Send bytes) left = omega arith
span_of-some mtu (Write bytes) left = omega arith
span_of-some mtu (Read bytes) left = segments-some mtu left
span_of-some mtu Atomic left = omega arith

pub span-some : (d : Direction) (p n : ℕ) → 1 ≤ span d p n
span-some d p n = span_of-some d.mtu (d.work p) (bytes_left d p n)

span_of-within : (mtu : ℕ) (w : Work) (f n : ℕ) → 0 < mtu → f ≤ n → n < f + psns mtu w → n + span_of mtu w (bytes_of w - (n - f) * mtu) ≤ f + psns mtu w
span_of-within mtu Local f n some from below = omega arith
span_of-within mtu (Send bytes) f n some from below = omega arith
span_of-within mtu (Write bytes) f n some from below = omega arith
span_of-within mtu (Read bytes) f n some from below = omega (arith, segments-left mtu bytes (n - f) some (omega arith))
span_of-within mtu Atomic f n some from below = omega arith

-- a packet's numbers lie in its request's
pub span-within : (d : Direction) (p n : ℕ) → 0 < d.mtu → HasNumber d p n → n + span d p n ≤ first d (suc p)
span-within d p n some names = span_of-within d.mtu (d.work p) (first d p) n some names.from names.below

span_of-read : (mtu : ℕ) (w : Work) (f n : ℕ) → 0 < mtu → is_read w ≡ true → f ≤ n → n < f + psns mtu w → n + span_of mtu w (bytes_of w - (n - f) * mtu) ≡ f + psns mtu w
span_of-read mtu Local f n some read from below = absurd (cc)
span_of-read mtu (Send bytes) f n some read from below = absurd (cc)
span_of-read mtu (Write bytes) f n some read from below = absurd (cc)
span_of-read mtu (Read bytes) f n some read from below = omega (arith, segments-left mtu bytes (n - f) some (omega arith))
span_of-read mtu Atomic f n some read from below = absurd (cc)

-- a READ's request asks for all that is left
pub span-read : (d : Direction) (p n : ℕ) → 0 < d.mtu → is_read (d.work p) ≡ true → HasNumber d p n → n + span d p n ≡ first d (suc p)
span-read d p n some read names = span_of-read d.mtu (d.work p) (first d p) n some read names.from names.below

span_of-is_read : (mtu : ℕ) (w : Work) (left : ℕ) → is_read w ≡ true → span_of mtu w left ≡ segments mtu left
span_of-is_read mtu Local left read = absurd (cc)
span_of-is_read mtu (Send bytes) left read = absurd (cc)
span_of-is_read mtu (Write bytes) left read = absurd (cc)
span_of-is_read mtu (Read bytes) left read = refl
span_of-is_read mtu Atomic left read = absurd (cc)

pub span-is_read : (d : Direction) (p n : ℕ) → is_read (d.work p) ≡ true → span d p n ≡ segments d.mtu (bytes_left d p n)
span-is_read d p n read = span_of-is_read d.mtu (d.work p) (bytes_left d p n) read

span_of-is_data : (mtu : ℕ) (w : Work) (left : ℕ) → is_data w ≡ true → span_of mtu w left ≡ 1
span_of-is_data mtu Local left is = refl
span_of-is_data mtu (Send bytes) left is = refl
span_of-is_data mtu (Write bytes) left is = refl
span_of-is_data mtu (Read bytes) left is = absurd (cc)
span_of-is_data mtu Atomic left is = refl

pub span-is_data : (d : Direction) (p n : ℕ) → is_data (d.work p) ≡ true → span d p n ≡ 1
span-is_data d p n is = span_of-is_data d.mtu (d.work p) (bytes_left d p n) is

span_of-is_atomic : (mtu : ℕ) (w : Work) (left : ℕ) → is_atomic w ≡ true → span_of mtu w left ≡ 1
span_of-is_atomic mtu Local left is = refl
span_of-is_atomic mtu (Send bytes) left is = refl
span_of-is_atomic mtu (Write bytes) left is = refl
span_of-is_atomic mtu (Read bytes) left is = absurd (cc)
span_of-is_atomic mtu Atomic left is = refl

pub span-is_atomic : (d : Direction) (p n : ℕ) → is_atomic (d.work p) ≡ true → span d p n ≡ 1
span-is_atomic d p n is = span_of-is_atomic d.mtu (d.work p) (bytes_left d p n) is

psns-is_atomic : (mtu : ℕ) (w : Work) → is_atomic w ≡ true → psns mtu w ≡ 1
psns-is_atomic mtu Local is = absurd (cc)
psns-is_atomic mtu (Send bytes) is = absurd (cc)
psns-is_atomic mtu (Write bytes) is = absurd (cc)
psns-is_atomic mtu (Read bytes) is = absurd (cc)
psns-is_atomic mtu Atomic is = refl

-- an atomic has one number
pub first-is_atomic : (d : Direction) (p : ℕ) → is_atomic (d.work p) ≡ true → first d (suc p) ≡ first d p + 1
first-is_atomic d p is = ap (λ n. first d p + n) (psns-is_atomic d.mtu (d.work p) is)

pub names-is_atomic : (d : Direction) (p n : ℕ) → is_atomic (d.work p) ≡ true → HasNumber d p n → n ≡ first d p
names-is_atomic d p n is names = omega (arith, names.from, names.below, first-is_atomic d p is)

pub read-not_atomic : (w : Work) → is_read w ≡ true → is_atomic w ≡ true → ⊥
read-not_atomic Local r a = cc
read-not_atomic (Send bytes) r a = cc
read-not_atomic (Write bytes) r a = cc
read-not_atomic (Read bytes) r a = cc
read-not_atomic Atomic r a = cc

pub atomic-is_answered : (w : Work) → is_atomic w ≡ true → is_answered w ≡ true
atomic-is_answered Local a = absurd (cc)
atomic-is_answered (Send bytes) a = absurd (cc)
atomic-is_answered (Write bytes) a = absurd (cc)
atomic-is_answered (Read bytes) a = refl
atomic-is_answered Atomic a = refl

-- what is left of a READ one number on
pub bytes_left-step : (d : Direction) (p n : ℕ) → first d p ≤ n → bytes_left d p (n + 1) ≡ bytes_left d p n - d.mtu
bytes_left-step d p n from =
    let next : (n + 1 - first d p) * d.mtu ≡ (n - first d p) * d.mtu + d.mtu = ap (λ m. m * d.mtu) (let e : n + 1 - first d p ≡ suc (n - first d p) = omega arith in e) ∙ more (n - first d p) d.mtu in
    omega (arith, next)
  where
    more : (i m : ℕ) → suc i * m ≡ i * m + m
    more i m = omega arith

span_of-not_read : (mtu : ℕ) (w : Work) (left : ℕ) → is_read w ≡ false → span_of mtu w left ≡ 1
span_of-not_read mtu Local left is = refl
span_of-not_read mtu (Send bytes) left is = refl
span_of-not_read mtu (Write bytes) left is = refl
span_of-not_read mtu (Read bytes) left is = absurd (cc)
span_of-not_read mtu Atomic left is = refl

pub span-not_read : (d : Direction) (p n : ℕ) → is_read (d.work p) ≡ false → span d p n ≡ 1
span-not_read d p n is = span_of-not_read d.mtu (d.work p) (bytes_left d p n) is

pub atomic-not_read : (w : Work) → is_atomic w ≡ true → is_read w ≡ false
atomic-not_read Local a = refl
atomic-not_read (Send bytes) a = refl
atomic-not_read (Write bytes) a = refl
atomic-not_read (Read bytes) a = absurd (cc)
atomic-not_read Atomic a = refl

-- the longest message at the smallest path MTU has the most packets
pub segments-most : (mtu bytes most least : ℕ) → 0 < least → least ≤ mtu → bytes ≤ most * least → 1 ≤ most → segments mtu bytes ≤ most
segments-most mtu bytes most least some wide short one =
    let wider : most * least ≤ most * mtu = mul-le-mul_left most wide in
    let below : (bytes + mtu - 1) / mtu < suc most = (div-lt_iff_lt-mul {x = bytes + mtu - 1} {y = suc most} (let h : 0 < mtu = omega arith in h)).1 (omega (arith, wider)) in
    omega arith
