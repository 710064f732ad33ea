-- What workers did of a script with their passes. Contracts of the crate's own functions cite it.
use Rattle.std.specs.Prelude.{◌≡◌, ◌≢◌, ◌<◌, ◌≤◌, ℕ, suc, ◌%◌, List, length, slice_index, if◌then◌else◌, ◌==◌}
use Rattle.ca_run_race.specs.declared.work.Work.{Work}
use Rattle.ca_run_race.specs.declared.worker.Worker.{Worker}
use Rattle.ca_verbs_scripts.specs.Work.{HasWorked}
use Rattle.ca_script.specs.Script.{ScriptValue}
use Rattle.ca_script_run.specs.Progress.{lines_behind}
use Rattle.ca_verbs.specs.Passes.{IsOf, known_of}
use Rattle.ca_verbs.specs.declared.fabric.Fabric.{Fabric}

-- Consumer k is worked by worker k mod the number of workers. Lines were done of consumers of these workers alone: those
-- from the first up to the end.
abbrev pub AreOwn : ℕ → ℕ → ℕ → List ℕ → Type 0
AreOwn first end workers done = (k : ℕ) → slice_index done k ≢ 0 → (first ≤ k % workers) × (k % workers < end)

-- What workers did: with a pass of the fabric they called, of each consumer, the verbs of the lines that it has done, in
-- order, and turns under the script's weather; and no consumer of another worker has done a line.
pub record IsWorkOf (fabric : Fabric) (s : ScriptValue) (first end workers : ℕ) (w : Work) : Type 0 where
  pub pass : IsOf fabric w.pass
  pub worked : HasWorked s (known_of w.pass).entries (lines_behind s.consumers w.done.items)
  pub own : AreOwn first end workers w.done.items
  pub count : length w.done.items ≡ length s.consumers

-- the same of one worker
abbrev pub IsAtWork : Fabric → ScriptValue → Worker → Type 0
IsAtWork fabric s w = IsWorkOf fabric s w.number (suc w.number) w.workers w.work

-- who a worker is stays
abbrev pub IsSameWorker : Worker → Worker → Type 0
IsSameWorker v w = (w.number ≡ v.number) × (w.workers ≡ v.workers)

-- of each consumer as many lines are done as in one list, or in the other where they are none there
pub record AreBoth (lower upper both : List ℕ) : Type 0 where
  pub count : length both ≡ length lower
  pub each : (k : ℕ) → slice_index both k ≡ (if slice_index lower k == 0 then slice_index upper k else slice_index lower k)
