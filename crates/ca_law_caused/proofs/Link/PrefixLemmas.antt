-- The front of a history that follows the machine follows it, and reaches the world behind it. For proofs only.
use Rattle.std.proofs.Common.{◌≡◌, ℕ, suc, ◌++◌, Bool, true, false, List, [], ◌∷◌, map, Ok, Err, ap, sym, subst, true≢false, ◌∙◌, refl}
use Rattle.std.specs.List.{AllByRecursion}
use Rattle.ca_law_endings.proofs.EventFitLemmas.{first-marks}
use Rattle.ca_base.specs.Configuration.{Configuration}
use Rattle.ca_model.specs.Entries.{EntryValue}
use Rattle.ca_model.specs.Past.{Past, after_entries, after_entry}
use Rattle.ca_model.specs.machine.Plan.{Did, NotReady, Outcome}
use Rattle.ca_model.specs.machine.Run.{Ran, go_on, run_from}
use Rattle.ca_model.specs.machine.Step.{step}
use Rattle.ca_model.specs.machine.World.{World}
use Rattle.ca_law_once.proofs.Once.RunLemmas.{Stands, Steps}

-- ---- lists

pub all-front : {A : Type 0} (P : A → Type 0) (xs ys : List A) → AllByRecursion P (xs ++ ys) → AllByRecursion P xs
all-front P [] ys all = record {}
all-front P (x ∷ xs) ys all = (all.0, all-front P xs ys all.1)

pub append-one : {A : Type 0} (xs : List A) (y : A) (ys : List A) → (xs ++ (y ∷ [])) ++ ys ≡ xs ++ (y ∷ ys)
append-one [] y ys = refl
append-one (x ∷ xs) y ys = ap (λ zs. x ∷ zs) (append-one xs y ys)

pub entries-more : (es : List EntryValue) (e : EntryValue) (past : Past) → after_entries (es ++ (e ∷ [])) past ≡ after_entry e (after_entries es past)
entries-more [] e past = refl
entries-more (x ∷ es) e past = entries-more es e (after_entry x past)

-- ---- the front of a history

pub front-runs : (c : Configuration) (n : ℕ) (es fs : List EntryValue) (w : World) → run_from c n w (map (λ e. e.event) (es ++ fs)) ≡ Ok (map (λ e. e.marks) (es ++ fs))
    → run_from c n w (map (λ e. e.event) es) ≡ Ok (map (λ e. e.marks) es)
front-runs c n [] fs w follows = refl
front-runs c n (e ∷ es) fs w follows = by (λ v. front-runs c (suc n) es fs v) (step c w e.event) follows
  where
    stopped : Ran → Bool
    stopped (Ok told) = false
    stopped (Err stop) = true

    Rest : Type 0
    Rest = (v : World) → run_from c (suc n) v (map (λ e. e.event) (es ++ fs)) ≡ Ok (map (λ e. e.marks) (es ++ fs)) → run_from c (suc n) v (map (λ e. e.event) es) ≡ Ok (map (λ e. e.marks) es)

    by : Rest → (o : Outcome) → go_on n o (λ v. run_from c (suc n) v (map (λ e. e.event) (es ++ fs))) ≡ Ok (e.marks ∷ map (λ e. e.marks) (es ++ fs))
        → go_on n o (λ v. run_from c (suc n) v (map (λ e. e.event) es)) ≡ Ok (e.marks ∷ map (λ e. e.marks) es)
    by rest (NotReady reason) follows = absurd (true≢false (ap stopped follows))
    by rest (Did v ms) follows = at (first-marks ms e.marks (run_from c (suc n) v (map (λ e. e.event) (es ++ fs))) (map (λ e. e.marks) (es ++ fs)) follows)
      where
        at : (ms ≡ e.marks) × (run_from c (suc n) v (map (λ e. e.event) (es ++ fs)) ≡ Ok (map (λ e. e.marks) (es ++ fs)))
            → go_on n (Did v ms) (λ v. run_from c (suc n) v (map (λ e. e.event) es)) ≡ Ok (e.marks ∷ map (λ e. e.marks) es)
        at told = ap (λ (r : Ran). go_on n (Did v ms) (λ u. r)) (rest v told.1) ∙ ap (λ xs. Ok (xs ∷ map (λ e. e.marks) es)) told.0

-- ---- where it leads

-- all entries, one after the other, lead from a world to another
abbrev pub Reaches : Configuration → Past → World → List EntryValue → World → Type 0
Reaches c past w [] v = w ≡ v
Reaches c past w (e ∷ es) v = Stands c past w × ((u : World) × Steps c past w e.event e.marks u × Reaches c (after_entry e past) u es v)

pub reaches-more : (c : Configuration) (es : List EntryValue) (e : EntryValue) (past : Past) (w v u : World) → Reaches c past w es v → Stands c (after_entries es past) v → Steps c (after_entries es past) v e.event e.marks u
    → Reaches c past w (es ++ (e ∷ [])) u
reaches-more c [] e past w v u is stands steps = (subst (Stands c past) (sym is) stands, (u, subst (λ x. Steps c past x e.event e.marks u) (sym is) steps, refl))
reaches-more c (x ∷ es) e past w v u reaches stands steps = (reaches.0, (reaches.1.0, reaches.1.1, reaches-more c es e (after_entry x past) reaches.1.0 v u reaches.1.2 stands steps))
