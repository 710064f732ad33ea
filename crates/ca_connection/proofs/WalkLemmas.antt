-- How undelivered responses and a response queue bring `una` up: the oldest is taken, the front is sent, and one is
-- put.
use Rattle.std.proofs.Common.{◌≡◌, ℕ, zero, suc, ◌+◌, ◌-◌, ◌<◌, ◌≤◌, ◌⊎◌, inl, inr, max, true, false, Bool, List, [], ◌∷◌, ◌++◌, slice_get, Option, None, Some, refl, ap, subst, arith, ltb-false, ltb-true}
use Rattle.std.specs.Prelude.{nat_lt, if◌then◌else◌}
use Rattle.ca_connection.specs.Acknowledge.{PassesNone}
use Rattle.ca_connection.specs.Layout.{Direction, HasNumber, Work, is_answered, is_data, segments}
use Rattle.ca_connection.specs.Layout.Work.{Local, Send, Write, Read, Atomic}
use Rattle.ca_connection.specs.Link.{Response, reach, reach_of_all}
use Rattle.ca_connection.specs.Link.Response.{Ack, Nak, Data, Found}
use Rattle.ca_connection.specs.Moves.{rest_of}
use Rattle.ca_connection.proofs.LayoutLemmas.{names-one, segments-one, segments-step}
use Rattle.ca_connection.proofs.NumberLemmas.{cases-lt}
use Rattle.ca_connection.specs.Calm.{AllPass, Passes, QueuePasses, una_after, una_after_queue}
use Rattle.ca_connection.specs.CalmMoves.{IsBeforeAck}
use Rattle.ca_connection.specs.CalmMoves.IsBeforeAck.{whole, replaced}

-- ---- responses under way

-- the oldest is of the other direction
pub una-other : (una k : ℕ) (xs : List (Option Response)) → slice_get xs k ≡ Some None → una_after una (suc k) xs ≡ una_after una k xs
una-other una k [] is = absurd (cc)
una-other una zero (None ∷ xs) is = refl
una-other una zero (Some x ∷ xs) is = absurd (cc)
una-other una (suc k) (None ∷ xs) is = una-other una k xs is
una-other una (suc k) (Some x ∷ xs) is = ap (λ m. max m (reach x)) (una-other una k xs is)

pub pass-other : (d : Direction) (una k : ℕ) (xs : List (Option Response)) → AllPass d una (suc k) xs → slice_get xs k ≡ Some None → AllPass d una k xs
pass-other d una k [] h is = absurd h
pass-other d una zero (x ∷ xs) h is = tt
pass-other d una (suc k) (None ∷ xs) h is = pass-other d una k xs h is
pass-other d una (suc k) (Some x ∷ xs) h is =
    (subst (λ u. Passes d u x) (una-other una k xs is) h.0, pass-other d una k xs h.1 is)

-- the oldest is taken, and brings `una` to where it reaches
pub una-oldest : (una k : ℕ) (xs : List (Option Response)) (a : Response)
    → slice_get xs k ≡ Some (Some a) → una_after una (suc k) xs ≡ una_after (max una (reach a)) k xs
una-oldest una k [] a is = absurd (cc)
una-oldest una zero (None ∷ xs) a is = absurd (cc)
una-oldest una zero (Some x ∷ xs) a is = let same : x ≡ a = cc in ap (λ y. max una (reach y)) same
una-oldest una (suc k) (None ∷ xs) a is = una-oldest una k xs a is
una-oldest una (suc k) (Some x ∷ xs) a is = ap (λ m. max m (reach x)) (una-oldest una k xs a is)

pub pass-oldest : (d : Direction) (una k : ℕ) (xs : List (Option Response)) (a : Response)
    → AllPass d una (suc k) xs → slice_get xs k ≡ Some (Some a) → Passes d una a × AllPass d (max una (reach a)) k xs
pass-oldest d una k [] a h is = absurd h
pass-oldest d una zero (None ∷ xs) a h is = absurd (cc)
pass-oldest d una zero (Some x ∷ xs) a h is = let same : x ≡ a = cc in (subst (Passes d una) same h.0, tt)
pass-oldest d una (suc k) (None ∷ xs) a h is = pass-oldest d una k xs a h is
pass-oldest d una (suc k) (Some x ∷ xs) a h is =
    let r = pass-oldest d una k xs a h.1 is in
    (r.0, (subst (λ u. Passes d u x) (una-oldest una k xs a is) h.0, r.1))

-- ---- numbers that are passed

pub none-below : (d : Direction) (u n : ℕ) → n ≤ u → PassesNone d u n
none-below d u n le place m from below names = absurd (omega arith)

-- the next number too, where it is no READ's and no atomic's
pub none-one : (d : Direction) (u w place : ℕ) → HasNumber d place w → is_answered (d.work place) ≡ false → PassesNone d u w → PassesNone d u (w + 1)
none-one d u w place named kind h p m from below names = go (cases-lt m w)
  where
    go : (m < w) ⊎ (w ≤ m) → is_answered (d.work p) ≡ false
    go (inl before) = h p m from before names
    go (inr at) =
        let e : m ≡ w = omega arith in
        let same : place ≡ p = names-one d place p w named (subst (HasNumber d p) e names) in
        subst (λ q. is_answered (d.work q) ≡ false) same kind

pub data-is_answered : (w : Work) → is_data w ≡ true → is_answered w ≡ false
data-is_answered Local h = absurd (cc)
data-is_answered (Send bytes) h = refl
data-is_answered (Write bytes) h = refl
data-is_answered (Read bytes) h = absurd (cc)
data-is_answered Atomic h = absurd (cc)

-- ---- the response queue

-- its front is sent
pub queue-sent : (d : Direction) (u : ℕ) (a : Response) (rest : List Response) → 0 < d.mtu
    → QueuePasses d u (a ∷ rest) → QueuePasses d (max u (reach a)) (rest_of d.mtu a rest)
queue-sent d u (Ack n) rest some h = h.1
queue-sent d u (Nak code n) rest some h = subst (λ m. QueuePasses d m rest) (omega arith) h.1
queue-sent d u (Found n found) rest some h = h.1
queue-sent d u (Data n left) rest some h = go (nat_lt d.mtu left) refl
  where
    go : (b : Bool) → nat_lt d.mtu left ≡ b → QueuePasses d (max u (n + 1)) (if b then Data (n + 1) (left - d.mtu) ∷ rest else rest)
    go true more =
        let two : segments d.mtu left ≡ suc (segments d.mtu (left - d.mtu)) = segments-step d.mtu left some (ltb-true d.mtu left more) in
        let same : max u (n + segments d.mtu left) ≡ max (max u (n + 1)) (n + 1 + segments d.mtu (left - d.mtu)) = omega (arith, two) in
        (none-below d (max u (n + 1)) (n + 1) (omega arith), subst (λ m. QueuePasses d m rest) same h.1)
    go false last =
        let one : segments d.mtu left ≡ 1 = segments-one d.mtu left some (ltb-false d.mtu left last) in
        let same : max u (n + segments d.mtu left) ≡ max u (n + 1) = omega (arith, one) in
        subst (λ m. QueuePasses d m rest) same h.1

pub una-sent : (d : Direction) (u : ℕ) (a : Response) (rest : List Response) → 0 < d.mtu
    → una_after_queue d.mtu u (a ∷ rest) ≡ una_after_queue d.mtu (max u (reach a)) (rest_of d.mtu a rest)
una-sent d u (Ack n) rest some = refl
una-sent d u (Nak code n) rest some = ap (λ m. una_after_queue d.mtu m rest) (omega arith)
una-sent d u (Found n found) rest some = refl
una-sent d u (Data n left) rest some = go (nat_lt d.mtu left) refl
  where
    go : (b : Bool) → nat_lt d.mtu left ≡ b
        → una_after_queue d.mtu (max u (n + segments d.mtu left)) rest ≡ una_after_queue d.mtu (max u (n + 1)) (if b then Data (n + 1) (left - d.mtu) ∷ rest else rest)
    go true more =
        let two : segments d.mtu left ≡ suc (segments d.mtu (left - d.mtu)) = segments-step d.mtu left some (ltb-true d.mtu left more) in
        let same : max u (n + segments d.mtu left) ≡ max (max u (n + 1)) (n + 1 + segments d.mtu (left - d.mtu)) = omega (arith, two) in
        ap (λ m. una_after_queue d.mtu m rest) same
    go false last =
        let one : segments d.mtu left ≡ 1 = segments-one d.mtu left some (ltb-false d.mtu left last) in
        let same : max u (n + segments d.mtu left) ≡ max u (n + 1) = omega (arith, one) in
        ap (λ m. una_after_queue d.mtu m rest) same

-- one more is put at its end
pub queue-put : (d : Direction) (u : ℕ) (queue : List Response) (a : Response)
    → QueuePasses d u queue → Passes d (una_after_queue d.mtu u queue) a → QueuePasses d u (queue ++ (a ∷ []))
queue-put d u [] a h p = (p, tt)
queue-put d u (b ∷ queue) a h p = (h.0, queue-put d (max u (reach_of_all d.mtu b)) queue a h.1 p)

pub una-put : (mtu u : ℕ) (queue : List Response) (a : Response)
    → una_after_queue mtu u (queue ++ (a ∷ [])) ≡ max (una_after_queue mtu u queue) (reach_of_all mtu a)
una-put mtu u [] a = refl
una-put mtu u (b ∷ queue) a = una-put mtu (max u (reach_of_all mtu b)) queue a

queue-parts : (d : Direction) (u : ℕ) (queue : List Response) (a : Response)
    → QueuePasses d u (queue ++ (a ∷ [])) → QueuePasses d u queue × Passes d (una_after_queue d.mtu u queue) a
queue-parts d u [] a h = (tt, h.0)
queue-parts d u (b ∷ queue) a h = let r = queue-parts d (max u (reach_of_all d.mtu b)) queue a h.1 in ((h.0, r.0), r.1)

-- an acknowledgement at its end is replaced
pub before-ack : (d : Direction) (u expected : ℕ) (queue kept : List Response) → IsBeforeAck queue kept
    → QueuePasses d u queue → PassesNone d (una_after_queue d.mtu u queue) expected
    → QueuePasses d u kept × PassesNone d (una_after_queue d.mtu u kept) expected
before-ack d u expected _ _ whole h none = (h, none)
before-ack d u expected _ kept (replaced n) h none = let parts = queue-parts d u kept (Ack n) h in (parts.0, go parts.1)
  where
    go : PassesNone d (una_after_queue d.mtu u kept) (n + 1) → PassesNone d (una_after_queue d.mtu u kept) expected
    go ack place m from below names = by (cases-lt m (n + 1))
      where
        by : (m < n + 1) ⊎ (n + 1 ≤ m) → is_answered (d.work place) ≡ false
        by (inl before) = ack place m from before names
        by (inr after) = none place m (omega (arith, una-put d.mtu u kept (Ack n))) below names
