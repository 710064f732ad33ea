-- A seed and a number of workers as std's parser of numbers reads them, and as the parser of command lines takes them. For
-- proofs only.
use Rattle.std.proofs.Common.{◌≡◌, ◌≤◌, ◌∙◌, ℕ, Bool, true, false, List, None, Some, Ok, Err, Result, ap, refl, arith}
use Rattle.std.specs.Result.{result_ok}
use Rattle.std.specs.Str.Parse.{ParsesUnsigned}
use Rattle.ca_base.specs.declared.limits.TheConstants.{MAX_WORKERS}
use Rattle.ca_run_command.specs.Words.{any_seed, seed_named, some_workers, workers_named}
use Rattle.clap.proofs.ValueTestLemmas.{Accepts-accepts, accepts-Accepts}
use Rattle.clap.specs.ValueTests.{accepts}

-- what is not taken for a number names none
refused : (taken : Bool) (w : List ℕ) → accepts false any_seed w ≡ taken → ¬ (accepts false any_seed w ≡ true) → None ≡ seed_named w
refused true w e other = absurd (other e)
refused false w e other = rw e refl

-- both read the same number
pub seed-parsed : {E : Type 0} (r : Result ℕ E) (w : List ℕ) → ParsesUnsigned 64 10 w r → result_ok r ≡ seed_named w
seed-parsed (Ok n) w parses =
    let yes : accepts false any_seed w ≡ true = Accepts-accepts false any_seed w (parses.0.0, parses.0.1, omega arith, omega (arith, parses.0.1)) in
    rw yes (ap Some parses.1)
seed-parsed (Err e) w parses = refused (accepts false any_seed w) w refl (λ yes. let in_range = accepts-Accepts false any_seed w yes in parses (in_range.0, in_range.1))

-- what is not taken for a number of workers names none
no-workers : (taken : Bool) (w : List ℕ) → accepts false some_workers w ≡ taken → ¬ (accepts false some_workers w ≡ true) → None ≡ workers_named w
no-workers true w e other = absurd (other e)
no-workers false w e other = rw e refl

same-count : (m n : ℕ) → Some m ≡ Some n → m ≡ n
same-count m n is = cc

-- a number that is read is that of workers where it is one of theirs
pub workers-parsed : {E : Type 0} (r : Result ℕ E) (w : List ℕ) (n : ℕ) → ParsesUnsigned 32 10 w r → Some n ≡ result_ok r → 1 ≤ n → n ≤ MAX_WORKERS → Some n ≡ workers_named w
workers-parsed (Ok m) w n parses is low high =
    let same : n ≡ m = same-count n m is in
    let yes : accepts false some_workers w ≡ true = Accepts-accepts false some_workers w
    (parses.0.0, omega (arith, parses.0.1), omega (arith, same, parses.1, low), omega (arith, same, parses.1, high)) in
    rw yes (ap Some (same ∙ parses.1))
workers-parsed (Err e) w n parses is low high = absurd cc

pub workers-outside : {E : Type 0} (r : Result ℕ E) (w : List ℕ) (n : ℕ) → ParsesUnsigned 32 10 w r → Some n ≡ result_ok r → ¬ ((1 ≤ n) × (n ≤ MAX_WORKERS)) → None ≡ workers_named w
workers-outside (Ok m) w n parses is outside =
    let same : n ≡ m = same-count n m is in
    no-workers (accepts false some_workers w) w refl (λ yes. let in_range = accepts-Accepts false some_workers w yes in
    outside (omega (arith, same, parses.1, in_range.2), omega (arith, same, parses.1, in_range.3)))
workers-outside (Err e) w n parses is outside = absurd cc

pub workers-unread : {E : Type 0} (r : Result ℕ E) (w : List ℕ) → ParsesUnsigned 32 10 w r → None ≡ result_ok r → None ≡ workers_named w
workers-unread (Ok m) w parses is = absurd cc
workers-unread (Err e) w parses is = no-workers (accepts false some_workers w) w refl (λ yes. let in_range = accepts-Accepts false some_workers w yes in parses (in_range.0, omega (arith, in_range.3)))
