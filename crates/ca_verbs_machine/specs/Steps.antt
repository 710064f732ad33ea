-- Entries one after another: the worlds that they lead through. For proofs only.
use Rattle.std.proofs.Common.{◌≡◌, ◌∙◌, refl, sym, ap, subst, ℕ, suc, ◌+◌, ◌<◌, ◌-◌, ◌^◌, arith, List, [], ◌∷◌, ◌++◌, length, map, Ok, append_assoc, append-nil}
use Rattle.std.proofs.lemmas.List.{length-append}
use Rattle.ca_base.specs.Configuration.{Configuration, configuration_in}
use Rattle.ca_base.specs.declared.settings.Settings.{Settings}
use Rattle.ca_verbs_machine.specs.After.{IsStep, IsUp, RunsFrom, next_world, world_after, world_from}
use Rattle.ca_verbs_machine.specs.Meanings.{CanFollow}
use Rattle.ca_verbs_machine.specs.declared.asked.Told.{Told}
use Rattle.ca_keys.specs.Memory.{zeros}
use Rattle.ca_model.specs.machine.Frame.{Afterwards}
use Rattle.ca_model.specs.machine.Run.{go_on, run_from, with_marks}
use Rattle.ca_model.specs.machine.Sound.{AreLimited}
use Rattle.ca_model.specs.machine.World.{World, opening_world}
use Rattle.ca_parts.specs.Lists.{EachFollows}
use Rattle.ca_law_parts.proofs.Worlds.LeadsLemmas.{after-event, opening-after}
use Rattle.ca_law_parts.specs.Worlds.{IsWorldAfter}

-- one entry more
pub from-more : (c : Configuration) (w : World) (log : List Told) (e : Told) → world_from c w (log ++ e ∷ []) ≡ next_world c (world_from c w log) e.event
from-more c w [] e = refl
from-more c w (x ∷ xs) e = from-more c (next_world c w x.event) xs e

pub runs-more : (c : Configuration) (w : World) (log : List Told) (e : Told) → RunsFrom c w log → IsStep c (world_from c w log) e → RunsFrom c w (log ++ e ∷ [])
runs-more c w [] e runs is = (is, record {})
runs-more c w (x ∷ xs) e runs is = (runs.0, runs-more c (next_world c w x.event) xs e runs.1 is)

-- one entry fewer
pub runs-before : (c : Configuration) (w : World) (log : List Told) (e : Told) → RunsFrom c w (log ++ e ∷ []) → RunsFrom c w log
runs-before c w [] e runs = record {}
runs-before c w (x ∷ xs) e runs = (runs.0, runs-before c (next_world c w x.event) xs e runs.1)

pub runs-last : (c : Configuration) (w : World) (log : List Told) (e : Told) → RunsFrom c w (log ++ e ∷ []) → IsStep c (world_from c w log) e
runs-last c w [] e runs = runs.0
runs-last c w (x ∷ xs) e runs = runs-last c (next_world c w x.event) xs e runs.1

-- a world that comes up leads to one that comes up
pub leads : (c : Configuration) (n : ℕ) (w : World) (log : List Told) → IsWorldAfter c n w → RunsFrom c w log → n + length log < 2 ^ 32 - 1 → IsWorldAfter c (n + length log) (world_from c w log)
leads c n w [] is runs few = let same : n ≡ n + 0 = omega arith in subst (λ k. IsWorldAfter c k w) same is
leads c n w (x ∷ xs) is runs few =
    let same : suc n + length xs ≡ n + suc (length xs) = omega arith in
    let next : IsWorldAfter c (suc n) (next_world c w x.event) =
    subst (Afterwards (IsWorldAfter c (suc n))) runs.0.did (after-event c x.event n w (omega (arith, few)) runs.0.made is) in
    subst (λ k. IsWorldAfter c k (world_from c (next_world c w x.event) xs)) same (leads c (suc n) (next_world c w x.event) xs next runs.1 (omega (arith, few)))

-- no entries are a list of the machine
pub up-none : (c : Configuration) → AreLimited c → IsUp c []
up-none c limited = record { limited = limited; few = omega arith; runs = record {} }

-- the world after a list of the machine comes up
pub up-world : (c : Configuration) (log : List Told) → IsUp c log → IsWorldAfter c (length log) (world_after c log)
up-world c log up =
    let same : 0 + length log ≡ length log = omega arith in
    subst (λ k. IsWorldAfter c k (world_after c log)) same (leads c 0 (opening_world zeros) log (opening-after c zeros up.limited) up.runs (omega (arith, up.few)))

-- one entry more, where it is a step
pub up-more : (c : Configuration) (log : List Told) (e : Told) → IsUp c log → suc (length log) < 2 ^ 32 - 1 → IsStep c (world_after c log) e → IsUp c (log ++ e ∷ [])
up-more c log e up few is = record {
  limited = up.limited;
  few = omega (arith, few, length-append log (e ∷ []));
  runs = runs-more c (opening_world zeros) log e up.runs is;
}

-- one entry fewer
pub up-before : (c : Configuration) (log : List Told) (e : Told) → IsUp c (log ++ e ∷ []) → IsUp c log
up-before c log e up = record {
  limited = up.limited;
  few = omega (arith, up.few, length-append log (e ∷ []));
  runs = runs-before c (opening_world zeros) log e up.runs;
}

pub up-last : (c : Configuration) (log : List Told) (e : Told) → IsUp c (log ++ e ∷ []) → IsStep c (world_after c log) e
up-last c log e up = runs-last c (opening_world zeros) log e up.runs

-- where each entry follows those before it, the list is one of the machine
pub up-follows : (key : Settings) (before log : List Told) → IsUp (configuration_in key) before → EachFollows (CanFollow key) before log → length before + length log < 2 ^ 32 - 1
    → IsUp (configuration_in key) (before ++ log)
up-follows key before [] up follows few = subst (IsUp (configuration_in key)) (sym (append-nil before)) up
up-follows key before (x ∷ xs) up follows few =
    let less : suc (length before) < 2 ^ 32 - 1 = omega (arith, few) in
    subst (IsUp (configuration_in key)) (append_assoc before (x ∷ []) xs)
    (up-follows key (before ++ x ∷ []) xs (up-more (configuration_in key) before x up less (follows.0 up less)) follows.1 (omega (arith, few, length-append before (x ∷ []))))

-- the machine runs the events of its entries, with their marks
pub runs-marks : (c : Configuration) (n : ℕ) (w : World) (log : List Told) → RunsFrom c w log → run_from c n w (map (λ e. e.event) log) ≡ Ok (map (λ e. e.marks) log)
runs-marks c n w [] runs = refl
runs-marks c n w (x ∷ xs) runs = ap (λ o. go_on n o (λ v. run_from c (suc n) v (map (λ e. e.event) xs))) runs.0.did
    ∙ ap (with_marks x.marks) (runs-marks c (suc n) (next_world c w x.event) xs runs.1)
