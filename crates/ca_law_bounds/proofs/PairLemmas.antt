-- How the weight of a world changes where one slot, or one mailbox, does.
use Rattle.std.proofs.Common.{◌≡◌, ℕ, zero, suc, ◌+◌, ◌-◌, ◌≤◌, ◌==◌, ◌||◌, Bool, true, false, nat_lt, if◌then◌else◌, List, [], ◌∷◌, take, Some, slice_get, refl, ap, ap₂, sym, subst, arith, true≢false}
use Rattle.std.proofs.lemmas.Bool.Decides.{nat_tests}
use Rattle.std.proofs.lemmas.List.Sums.{sum_by-cons}
use Rattle.std.proofs.lemmas.Option.{same_Some}
use Rattle.std.specs.List.{sum_by}
use Rattle.std.specs.Prelude.{is_some}
use Rattle.ca_base.specs.declared.limits.TheConstants.{KEPT_ENVELOPES}
use Rattle.ca_base.specs.declared.lot.Lot.{Lot}
use Rattle.ca_base.specs.declared.lot.Lot.TheVariants.{Pass}
use Rattle.ca_base.specs.declared.mail_envelope.MailEnvelope.{MailEnvelope}
use Rattle.ca_base.specs.objects.Mailbox.{Mailbox, after_send, deliveries, is_undelivered, with_delivery}
use Rattle.ca_base.specs.objects.QueuePair.{QueuePair, QueueSlot, NoQueue, Present}
use Rattle.ca_keys.specs.Equal.{queue_eq}
use Rattle.ca_keys.specs.declared.names.QueueId.{QueueId}
use Rattle.ca_law_world.proofs.Sound.SettledLemmas.{queue-path, queue-refl}
use Rattle.ca_model.specs.Past.{with_at}
use Rattle.ca_law_bounds.specs.Weights.{packet_weight}
use Rattle.ca_law_bounds.specs.WorldWeights.{AreApart, envelope_weight, is_among_names, mail_weight, pair_weight, pairs_weight}

-- ---- sums over names

-- elsewhere the same
sum-other : (f g : QueueId → ℕ) (n : QueueId) → ((m : QueueId) → queue_eq n m ≡ false → f m ≡ g m) → (names : List QueueId) → is_among_names n names ≡ false → sum_by f names ≡ sum_by g names
sum-other f g n same [] none = refl
sum-other f g n same (m ∷ ms) none = by (queue_eq n m) refl none (λ rest. sum-other f g n same ms rest)
  where
    by : (b : Bool) → queue_eq n m ≡ b → (b || is_among_names n ms) ≡ false → (is_among_names n ms ≡ false → sum_by f ms ≡ sum_by g ms) → sum_by f (m ∷ ms) ≡ sum_by g (m ∷ ms)
    by true e none more = absurd (true≢false none)
    by false e none more = omega (arith, sum_by-cons f m ms, sum_by-cons g m ms, same m e, more none)

-- at one name
pub sum-one : (f g : QueueId → ℕ) (n : QueueId) → ((m : QueueId) → queue_eq n m ≡ false → f m ≡ g m) → (names : List QueueId) → AreApart names → is_among_names n names ≡ true
    → sum_by f names + g n ≡ sum_by g names + f n
sum-one f g n same [] apart among = absurd (true≢false (sym among))
sum-one f g n same (m ∷ ms) apart among = by (queue_eq n m) refl among (λ rest. sum-one f g n same ms apart.1 rest)
  where
    by : (b : Bool) → queue_eq n m ≡ b → (b || is_among_names n ms) ≡ true → (is_among_names n ms ≡ true → sum_by f ms + g n ≡ sum_by g ms + f n) → sum_by f (m ∷ ms) + g n ≡ sum_by g (m ∷ ms) + f n
    by true e among more =
        let path : n ≡ m = queue-path n m e in
        let rest : sum_by f ms ≡ sum_by g ms = sum-other f g n same ms (subst (λ k. is_among_names k ms ≡ false) (sym path) apart.0) in
        omega (arith, sum_by-cons f m ms, sum_by-cons g m ms, rest, ap f path, ap g path)
    by false e among more = omega (arith, sum_by-cons f m ms, sum_by-cons g m ms, same m e, more among)

-- one queue pair's slot is another
pub slot-changes : (names : List QueueId) (queues : QueueId → QueueSlot) (boxes : QueueId → Mailbox) (name : QueueId) (slot : QueueSlot) → AreApart names → is_among_names name names ≡ true
    → pairs_weight names (with_at queue_eq queues name slot) boxes + pair_weight (queues name) (boxes name) ≡ pairs_weight names queues boxes + pair_weight slot (boxes name)
slot-changes names queues boxes name slot apart among =
    let one = sum-one (λ m. pair_weight (with_at queue_eq queues name slot m) (boxes m)) (λ m. pair_weight (queues m) (boxes m)) name
    (λ m e. ap (λ b. pair_weight (if b then slot else queues m) (boxes m)) e) names apart among in
    let here : pair_weight (with_at queue_eq queues name slot name) (boxes name) ≡ pair_weight slot (boxes name) =
    ap (λ b. pair_weight (if b then slot else queues name) (boxes name)) (queue-refl name) in
    omega (arith, one, here)

-- one mailbox is another
pub box-changes : (names : List QueueId) (queues : QueueId → QueueSlot) (boxes : QueueId → Mailbox) (name : QueueId) (box : Mailbox) → AreApart names → is_among_names name names ≡ true
    → pairs_weight names queues (with_at queue_eq boxes name box) + pair_weight (queues name) (boxes name) ≡ pairs_weight names queues boxes + pair_weight (queues name) box
box-changes names queues boxes name box apart among =
    let one = sum-one (λ m. pair_weight (queues m) (with_at queue_eq boxes name box m)) (λ m. pair_weight (queues m) (boxes m)) name
    (λ m e. ap (λ b. pair_weight (queues m) (if b then box else boxes m)) e) names apart among in
    let here : pair_weight (queues name) (with_at queue_eq boxes name box name) ≡ pair_weight (queues name) box =
    ap (λ b. pair_weight (queues name) (if b then box else boxes name)) (queue-refl name) in
    omega (arith, one, here)

-- whether the name is among them or not, a mailbox with more raises the weight by no more
pub box-raises : (names : List QueueId) (queues : QueueId → QueueSlot) (boxes : QueueId → Mailbox) (name : QueueId) (box : Mailbox) (k : ℕ) → AreApart names
    → pair_weight (queues name) box ≤ pair_weight (queues name) (boxes name) + k
    → pairs_weight names queues (with_at queue_eq boxes name box) ≤ pairs_weight names queues boxes + k
box-raises names queues boxes name box k apart more = by (is_among_names name names) refl
  where
    by : (b : Bool) → is_among_names name names ≡ b → pairs_weight names queues (with_at queue_eq boxes name box) ≤ pairs_weight names queues boxes + k
    by true among = omega (arith, box-changes names queues boxes name box apart among, more)
    by false none = omega (
      arith,
      sum-other (λ m. pair_weight (queues m) (with_at queue_eq boxes name box m)) (λ m. pair_weight (queues m) (boxes m)) name
          (λ m e. ap (λ b. pair_weight (queues m) (if b then box else boxes m)) e) names none,
    )

-- ---- mailboxes

sum-take : {A : Type 0} (f : A → ℕ) (k : ℕ) (xs : List A) → sum_by f (take k xs) ≤ sum_by f xs
sum-take f zero xs = omega arith
sum-take f (suc k) [] = omega arith
sum-take f (suc k) (x ∷ xs) = omega (arith, sum_by-cons f x (take k xs), sum_by-cons f x xs, sum-take f k xs)

-- an envelope that is delivered leaves its packet out
pub mail-falls : (mtu k : ℕ) (es : List MailEnvelope) (e : MailEnvelope) → slice_get es k ≡ Some e → e.lot ≡ Pass → e.delivered ≡ 0
    → mail_weight mtu (with_delivery k es) + packet_weight mtu e.bytes ≡ mail_weight mtu es
mail-falls mtu k [] e is pass fresh = absurd (true≢false (sym (ap is_some is)))
mail-falls mtu zero (x ∷ es) e is pass fresh =
    subst (λ (y : MailEnvelope). mail_weight mtu (with_delivery zero (y ∷ es)) + packet_weight mtu e.bytes ≡ mail_weight mtu (y ∷ es)) (sym (same_Some x e is)) here
  where
    step : with_delivery zero (e ∷ es) ≡ record e { delivered = suc e.delivered } ∷ es
    step = ap (λ b. if b then record e { delivered = suc e.delivered } ∷ es else e ∷ with_delivery (zero - 1) es) (let n : (zero == 0) ≡ true = grind (arith, nat_tests) in n)

    waits : is_undelivered e ≡ true
    waits = ap₂ (λ n l. nat_lt n (deliveries l)) fresh pass

    had : is_undelivered (record e { delivered = suc e.delivered }) ≡ false
    had = ap₂ (λ n l. nat_lt (suc n) (deliveries l)) fresh pass

    before : envelope_weight mtu e ≡ packet_weight mtu e.bytes
    before = ap (λ b. if b then packet_weight mtu e.bytes else 0) waits

    after : envelope_weight mtu (record e { delivered = suc e.delivered }) ≡ 0
    after = ap (λ b. if b then packet_weight mtu e.bytes else 0) had

    here : mail_weight mtu (with_delivery zero (e ∷ es)) + packet_weight mtu e.bytes ≡ mail_weight mtu (e ∷ es)
    here = omega (arith, ap (mail_weight mtu) step, sum_by-cons (envelope_weight mtu) (record e { delivered = suc e.delivered }) es, sum_by-cons (envelope_weight mtu) e es, before, after)
mail-falls mtu (suc k) (x ∷ es) e is pass fresh = omega (
  arith,
  ap (mail_weight mtu) step,
  sum_by-cons (envelope_weight mtu) x (with_delivery k es),
  sum_by-cons (envelope_weight mtu) x es,
  mail-falls mtu k es e is pass fresh,
)
  where
    step : with_delivery (suc k) (x ∷ es) ≡ x ∷ with_delivery k es
    step = ap₂ (λ b j. if b then record x { delivered = suc x.delivered } ∷ es else x ∷ with_delivery j es) (let n : (suc k == 0) ≡ false = grind (arith, nat_tests) in n) (let m : suc k - 1 ≡ k = omega arith in m)

-- one envelope more weighs no more than its packet
pub mail-more : (mtu : ℕ) (lot : Lot) (bytes : List ℕ) (m : Mailbox) → mail_weight mtu (after_send lot bytes m).envelopes ≤ mail_weight mtu m.envelopes + packet_weight mtu bytes
mail-more mtu lot bytes m = omega (arith, sum-take (envelope_weight mtu) KEPT_ENVELOPES (e ∷ m.envelopes), sum_by-cons (envelope_weight mtu) e m.envelopes, by (is_undelivered e))
  where
    e : MailEnvelope
    e = record { lot = lot; bytes = bytes; delivered = 0 }

    by : (b : Bool) → (if b then packet_weight mtu bytes else 0) ≤ packet_weight mtu bytes
    by true = omega arith
    by false = omega arith

-- so does a pair with it
pub pair-more : (slot : QueueSlot) (lot : Lot) (bytes : List ℕ) (m : Mailbox) (k : ℕ) → ((t : QueuePair) → slot ≡ Present t → packet_weight t.responder.mtu bytes ≤ k)
    → pair_weight slot (after_send lot bytes m) ≤ pair_weight slot m + k
pair-more (NoQueue incarnation timers) lot bytes m k light = omega arith
pair-more (Present q) lot bytes m k light = omega (arith, mail-more q.responder.mtu lot bytes m, light q refl)
