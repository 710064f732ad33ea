-- How the weight of a world changes where one slot and its mailbox do, or where none weighs more.
use Rattle.std.proofs.Common.{◌≡◌, ℕ, ◌+◌, ◌≤◌, ◌<◌, ◌||◌, Bool, true, false, List, ◌∷◌, refl, ap, ap₂, arith}
use Rattle.std.proofs.lemmas.List.Sums.{sum_by-cons}
use Rattle.std.specs.List.{sum_by}
use Rattle.ca_base.specs.objects.Mailbox.{Mailbox}
use Rattle.ca_base.specs.objects.QueuePair.{QueueSlot}
use Rattle.ca_keys.specs.Equal.{queue_eq}
use Rattle.ca_keys.specs.declared.names.QueueId.{QueueId}
use Rattle.ca_law_world.proofs.Sound.SettledLemmas.{queue-refl}
use Rattle.ca_model.specs.machine.World.{World}
use Rattle.ca_law_once.proofs.Verbs.PairLemmas.{Replaces}
use Rattle.ca_law_bounds.proofs.SumLemmas.{sum-le}
use Rattle.ca_law_bounds.proofs.PairLemmas.{sum-one}
use Rattle.ca_law_bounds.specs.WorldWeights.{AreApart, is_among_names, pair_weight, world_weight}

-- whether the name is among them or not, the sum grows by no more than what stands there does
sum-raises : (f g : QueueId → ℕ) (n : QueueId) (k : ℕ) → ((m : QueueId) → queue_eq n m ≡ false → f m ≡ g m) → f n ≤ g n + k → (names : List QueueId) → AreApart names → sum_by f names ≤ sum_by g names + k
sum-raises f g n k same more names apart = by (is_among_names n names) refl
  where
    by : (b : Bool) → is_among_names n names ≡ b → sum_by f names ≤ sum_by g names + k
    by true among = omega (arith, sum-one f g n same names apart among, more)
    by false none = omega (
      arith,
      sum_by-cons f n names,
      sum_by-cons g n names,
      sum-one f g n same (n ∷ names) (none, apart) (ap (λ b. b || is_among_names n names) (queue-refl n)),
    )

-- what stands under a name
abbrev weight_at : World → QueueId → ℕ
weight_at w n = pair_weight (w.queue n) (w.mailbox n)

-- another slot and another mailbox
pub replaced-raises : (w v : World) (names : List QueueId) (name : QueueId) (slot : QueueSlot) (box : Mailbox) (k : ℕ) → AreApart names → Replaces w name slot box v
    → pair_weight slot box ≤ pair_weight (w.queue name) (w.mailbox name) + k → world_weight names v ≤ world_weight names w + k
replaced-raises w v names name slot box k apart replaces more = sum-raises (weight_at v) (weight_at w) name k
    (λ m e. ap₂ pair_weight (replaces.elsewhere m e).0 (replaces.elsewhere m e).1) (omega (arith, here, more)) names apart
  where
    here : weight_at v name ≡ pair_weight slot box
    here = ap₂ pair_weight (replaces.here name (queue-refl name)).0 (replaces.here name (queue-refl name)).1

pub replaced-lowers : (w v : World) (names : List QueueId) (name : QueueId) (slot : QueueSlot) (box : Mailbox) → AreApart names → is_among_names name names ≡ true → Replaces w name slot box v
    → pair_weight slot box < pair_weight (w.queue name) (w.mailbox name) → world_weight names v < world_weight names w
replaced-lowers w v names name slot box apart among replaces less = omega (arith, one, here, less)
  where
    here : weight_at v name ≡ pair_weight slot box
    here = ap₂ pair_weight (replaces.here name (queue-refl name)).0 (replaces.here name (queue-refl name)).1

    one : world_weight names v + weight_at w name ≡ world_weight names w + weight_at v name
    one = sum-one (weight_at v) (weight_at w) name (λ m e. ap₂ pair_weight (replaces.elsewhere m e).0 (replaces.elsewhere m e).1) names apart among

-- no slot with its mailbox weighs more
pub slots-raise : (w v : World) (names : List QueueId) → ((n : QueueId) → pair_weight (v.queue n) (v.mailbox n) ≤ pair_weight (w.queue n) (w.mailbox n)) → world_weight names v ≤ world_weight names w
slots-raise w v names less = sum-le (weight_at v) (weight_at w) less names
