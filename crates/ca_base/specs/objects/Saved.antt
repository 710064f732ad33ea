-- Saved results: what the latest atomics of a queue pair found, for their duplicates. Contracts cite it.
use Rattle.std.specs.Prelude.{ℕ, ◌==◌, if◌then◌else◌, List, [], ◌∷◌, take, Option, None, Some}
use Rattle.ca_base.specs.declared.limits.TheConstants.{SAVED_RESULTS}
use Rattle.ca_base.specs.declared.saved_result.SavedResult.{SavedResult}

-- the results, the newest first, with one more: of more than the limit the oldest goes
abbrev pub after_save : ℕ → ℕ → List SavedResult → List SavedResult
after_save psn found saved = take SAVED_RESULTS (record { psn = psn; found = found } ∷ saved)

-- the result at a PSN
abbrev pub saved_at : ℕ → List SavedResult → Option ℕ
saved_at psn [] = None
saved_at psn (s ∷ saved) = if s.psn == psn then Some s.found else saved_at psn saved
