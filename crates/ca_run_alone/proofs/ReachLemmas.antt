-- What the machine grants ends among the bytes that places can name. For proofs only.
use Rattle.std.proofs.Common.{◌≡◌, ℕ, zero, suc, ◌≤◌, arith, Bool, true, false, List, [], ◌∷◌, map, slice_get, Ok, Err, ap, subst, true≢false}
use Rattle.std.specs.List.{AllByRecursion}
use Rattle.std.specs.Option.{option_and_then, option_map_or}
use Rattle.ca_law_endings.proofs.EventFitLemmas.{first-marks}
use Rattle.ca_law_endings.specs.Runs.{Comes}
use Rattle.ca_base.specs.Configuration.{Adapter, Configuration}
use Rattle.ca_base.specs.declared.limits.TheConstants.{MAX_BUFFER_BYTES}
use Rattle.ca_keys.specs.Memory.{ByteMap}
use Rattle.ca_keys.specs.declared.place.Run.{Run}
use Rattle.ca_law_world.proofs.Sound.SoundLemmas.{event-sound, opening-sound}
use Rattle.ca_law_isolation.proofs.BoundedEvents.{event-bounded}
use Rattle.ca_law_isolation.specs.Bounds.{AreBounded, IsBounded, LiesInBuffer}
use Rattle.ca_isolation.specs.Cover.{AreInReach, EndsInReach, GrantsInReach}
use Rattle.ca_model.specs.Entries.{EntryValue}
use Rattle.ca_model.specs.declared.mark.Mark.{Mark}
use Rattle.ca_model.specs.declared.mark.Mark.TheVariants as marks
use Rattle.ca_model.specs.machine.Frame.{Afterwards}
use Rattle.ca_model.specs.machine.Plan.{Did, NotReady, Outcome}
use Rattle.ca_model.specs.machine.Run.{Follows, Ran, go_on, run_from}
use Rattle.ca_model.specs.machine.Sound.{AreLimited, CanBeMade, IsLimitedAdapter, IsSoundWorld}
use Rattle.ca_model.specs.machine.Step.{step}
use Rattle.ca_model.specs.machine.World.{World, opening_world}

buffer-of-adapter : (sizes : List ℕ) (i : ℕ) → AllByRecursion (λ bytes. bytes ≤ MAX_BUFFER_BYTES) sizes → option_map_or (λ n. n) (slice_get sizes i) 0 ≤ MAX_BUFFER_BYTES
buffer-of-adapter [] i all = omega arith
buffer-of-adapter (n ∷ sizes) zero all = all.0
buffer-of-adapter (n ∷ sizes) (suc i) all = buffer-of-adapter sizes i all.1

buffer-few : (xs : List Adapter) (a b : ℕ) → AllByRecursion IsLimitedAdapter xs → option_map_or (λ n. n) (option_and_then (λ x. slice_get x.buffers b) (slice_get xs a)) 0 ≤ MAX_BUFFER_BYTES
buffer-few [] a b all = omega arith
buffer-few (x ∷ xs) zero b all = buffer-of-adapter x.buffers b all.0.bytes
buffer-few (x ∷ xs) (suc a) b all = buffer-few xs a b all.1

runs-reach : (c : Configuration) (rs : List Run) → AreLimited c → AllByRecursion (LiesInBuffer c) rs → AllByRecursion EndsInReach rs
runs-reach c [] limited all = record {}
runs-reach c (r ∷ rs) limited all = (omega (arith, all.0, buffer-few c.adapters r.adapter r.buffer limited.adapters), runs-reach c rs limited all.1)

mark-reach : (c : Configuration) (m : Mark) → AreLimited c → IsBounded c m → GrantsInReach m
mark-reach c (marks.Granted g) limited bounded = runs-reach c g.runs limited bounded
mark-reach c (marks.Verb by verb answer) limited bounded = record {}
mark-reach c (marks.Revoked adapter key) limited bounded = record {}
mark-reach c (marks.Remote queue domain envelope key kind address count verdict) limited bounded = record {}
mark-reach c (marks.Local queue domain key kind address count verdict) limited bounded = record {}
mark-reach c (marks.Stored place bytes) limited bounded = record {}
mark-reach c (marks.Sent source target index request bytes) limited bounded = record {}
mark-reach c (marks.Lost target index) limited bounded = record {}
mark-reach c (marks.Arrived target index) limited bounded = record {}
mark-reach c (marks.Dropped target cause) limited bounded = record {}
mark-reach c (marks.Timer queue silent) limited bounded = record {}
mark-reach c (marks.Done queue x cause) limited bounded = record {}

marks-reach : (c : Configuration) (ms : List Mark) → AreLimited c → AreBounded c ms → AllByRecursion GrantsInReach ms
marks-reach c [] limited bounded = record {}
marks-reach c (m ∷ ms) limited bounded = (mark-reach c m limited bounded.0, marks-reach c ms limited bounded.1)

-- entries follow the machine from a world on
abbrev Runs : Configuration → ℕ → World → List EntryValue → Type 0
Runs c n w es = run_from c n w (map (λ e. e.event) es) ≡ Ok (map (λ e. e.marks) es)

reach-along : (c : Configuration) (n : ℕ) (w : World) (es : List EntryValue) → AreLimited c → AllByRecursion (λ e. CanBeMade e.event) es → IsSoundWorld c w → Runs c n w es → AreInReach es
reach-along c n w [] limited made sound follows = record {}
reach-along c n w (e ∷ es) limited made sound follows =
    by (step c w e.event) (event-sound c e.event w limited sound made.0) (event-bounded c e.event w sound) follows (λ u is told. reach-along c (suc n) u es limited made.1 is told)
  where
    stopped : Ran → Bool
    stopped (Ok told) = false
    stopped (Err stop) = true

    by : (o : Outcome) → Afterwards (IsSoundWorld c) o → Comes (λ u ms. AreBounded c ms) o
        → go_on n o (λ u. run_from c (suc n) u (map (λ e. e.event) es)) ≡ Ok (e.marks ∷ map (λ e. e.marks) es)
        → ((u : World) → IsSoundWorld c u → Runs c (suc n) u es → AreInReach es) → AreInReach (e ∷ es)
    by (NotReady reason) is bounded follows rest = absurd (true≢false (ap stopped follows))
    by (Did u ms) is bounded follows rest = at (first-marks ms e.marks (run_from c (suc n) u (map (λ e. e.event) es)) (map (λ e. e.marks) es) follows)
      where
        at : (ms ≡ e.marks) × Runs c (suc n) u es → AreInReach (e ∷ es)
        at told = (marks-reach c e.marks limited (subst (AreBounded c) told.0 bounded), rest u is told.1)

pub follows-reach : (c : Configuration) (bytes : ByteMap) (es : List EntryValue) → AreLimited c → AllByRecursion (λ e. CanBeMade e.event) es → Follows c bytes es → AreInReach es
follows-reach c bytes es limited made follows = reach-along c 0 (opening_world bytes) es limited made (opening-sound c bytes) follows
