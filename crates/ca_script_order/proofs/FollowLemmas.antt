-- Rounds go on with a history of the machine, and so the order of a script follows it. For proofs only.
use Rattle.std.proofs.Common.{◌≡◌, ℕ, suc, true, List, [], ◌∷◌, ◌++◌, map, reverse, Ok, refl, ap, ◌∙◌, sym}
use Rattle.std.proofs.lemmas.List.{append-nil, append_assoc, map-append, reverse-append}
use Rattle.ca_keys.specs.Memory.{zeros}
use Rattle.ca_model.specs.Entries.{EntryValue}
use Rattle.ca_model.specs.declared.event.Event.{Event}
use Rattle.ca_model.specs.machine.Plan.{Outcome, NotReady, Did}
use Rattle.ca_model.specs.machine.Run.{Follows, Ran, go_on, run_from, with_marks}
use Rattle.ca_model.specs.machine.Step.{step}
use Rattle.ca_model.specs.machine.World.{opening_world}
use Rattle.ca_script.specs.Script.{ScriptValue}
use Rattle.ca_script_order.specs.Order.{Stage, after_event, after_outcome, after_rounds, most_rounds, opening_stage, order, with_lines_left}
use Rattle.ca_script_order.specs.OfScript.{LeadsTo, opening_reach}
use Rattle.ca_script_order.proofs.KeepLemmas.{IsKept, kept-rounds, kept-visit}
use Rattle.ca_script_order.proofs.ReachLemmas.{marks_before, reach-runs}

-- the events of a past, the latest first, before others
abbrev events_onto : List EntryValue → List Event → List Event
events_onto [] rest = rest
events_onto (e ∷ past) rest = events_onto past (e.event ∷ rest)

-- the marks of a past before those of what comes
abbrev marks_onto : List EntryValue → Ran → Ran
marks_onto [] rest = rest
marks_onto (e ∷ past) rest = marks_onto past (with_marks e.marks rest)

-- the entries so far ran, and what comes runs on from the world that they left
abbrev RanTo : ScriptValue → Stage → Type 0
RanTo s g = (rest : List Event)
    → run_from s.config 0 (opening_world zeros) (events_onto g.past rest) ≡ marks_onto g.past (run_from s.config g.count g.world rest)

ran-made : (s : ScriptValue) (event : Event) (done : Stage → Stage) → ((g : Stage) → RanTo s g → RanTo s (done g)) → (g : Stage) → RanTo s g → RanTo s (after_event s event done g)
ran-made s event done also g ran = by (step s.config g.world event) refl
  where
    by : (o : Outcome) → step s.config g.world event ≡ o → RanTo s (after_outcome event o done g)
    by (NotReady reason) is = ran
    by (Did w ms) is = also
        (record g { world = w; past = record { stamp = g.count; pass = 0; event = event; marks = ms } ∷ g.past; count = suc g.count; happened = true })
        (λ rest. ran (event ∷ rest) ∙ ap (λ o. marks_onto g.past (go_on g.count o (λ v. run_from s.config (suc g.count) v rest))) is)

ran-kept : (s : ScriptValue) → IsKept s (RanTo s)
ran-kept s = record {
  makes = λ event g ran. ran-made s event (λ h. h) (λ h there. there) g ran;
  calls = λ event k rest g ran. ran-made s event (with_lines_left k rest) (λ h there. there) g ran;
  passes = λ k rest g ran. ran;
}

-- an entry behind those before it
reverse-onto : (e : EntryValue) (past rest : List EntryValue) → reverse past ++ (e ∷ rest) ≡ reverse (e ∷ past) ++ rest
reverse-onto e past rest = sym (ap (λ es. es ++ rest) (reverse-append (e ∷ []) past) ∙ append_assoc (reverse past) (e ∷ []) rest)

events-in-order : (past rest : List EntryValue) → events_onto past (map (λ e. e.event) rest) ≡ map (λ e. e.event) (reverse past ++ rest)
events-in-order [] rest = refl
events-in-order (e ∷ past) rest = events-in-order past (e ∷ rest) ∙ ap (map (λ x. x.event)) (reverse-onto e past rest)

marks-in-order : (past rest : List EntryValue) → marks_onto past (Ok (map (λ e. e.marks) rest)) ≡ Ok (map (λ e. e.marks) (reverse past ++ rest))
marks-in-order [] rest = refl
marks-in-order (e ∷ past) rest = marks-in-order past (e ∷ rest) ∙ ap (λ es. Ok (map (λ x. x.marks) es)) (reverse-onto e past rest)

-- what ran to a stage, the latest first, follows the machine in order
follows : (s : ScriptValue) (g : Stage) → RanTo s g → Follows s.config zeros (reverse g.past)
follows s g ran =
    let same : reverse g.past ++ [] ≡ reverse g.past = append-nil (reverse g.past)
    in ap (run_from s.config 0 (opening_world zeros)) (sym (events-in-order g.past [] ∙ ap (map (λ e. e.event)) same))
    ∙ ran []
    ∙ marks-in-order g.past []
    ∙ ap (λ es. Ok (map (λ e. e.marks) es)) same

rounds-ran : (s : ScriptValue) (n : ℕ) (g : Stage) → RanTo s g → Follows s.config zeros (reverse (after_rounds s n g).past)
rounds-ran s n g ran = follows s (after_rounds s n g) (kept-rounds s (RanTo s) (λ h there. there) (kept-visit s (RanTo s) (ran-kept s)) n g ran)

pub order-follows : (s : ScriptValue) → Follows s.config zeros (order s)
order-follows s = rounds-ran s (most_rounds s) (opening_stage s) (λ rest. refl)

-- ---- from any stage to which a history leads

events-before : (past : List EntryValue) (rest : List Event) → events_onto past rest ≡ map (λ e. e.event) (reverse past) ++ rest
events-before [] rest = refl
events-before (e ∷ past) rest = events-before past (e.event ∷ rest) ∙ sym (
    ap (λ es. map (λ x. x.event) es ++ rest) (reverse-append (e ∷ []) past)
    ∙ ap (λ es. es ++ rest) (map-append (λ x. x.event) (reverse past) (e ∷ []))
    ∙ append_assoc (map (λ x. x.event) (reverse past)) (e.event ∷ []) rest
    )

before-both : (es others : List EntryValue) (rest : Ran) → marks_before (es ++ others) rest ≡ marks_before es (marks_before others rest)
before-both [] others rest = refl
before-both (e ∷ es) others rest = ap (with_marks e.marks) (before-both es others rest)

marks-before : (past : List EntryValue) (rest : Ran) → marks_onto past rest ≡ marks_before (reverse past) rest
marks-before [] rest = refl
marks-before (e ∷ past) rest =
    marks-before past (with_marks e.marks rest)
    ∙ sym (ap (λ es. marks_before es rest) (reverse-append (e ∷ []) past) ∙ before-both (reverse past) (e ∷ []) rest)

ran-to : (s : ScriptValue) (g : Stage) → Follows s.config zeros (reverse g.past) → LeadsTo s (reverse g.past) g → RanTo s g
ran-to s g along leads rest =
    ap (run_from s.config 0 (opening_world zeros)) (events-before g.past rest)
    ∙ reach-runs s (reverse g.past) (opening_reach s) (record { world = g.world; count = g.count; left = leads.left }) leads.of_script.stand along rest
    ∙ sym (marks-before g.past (run_from s.config g.count g.world rest))

pub rounds-follow : (s : ScriptValue) (n : ℕ) (g : Stage) → Follows s.config zeros (reverse g.past) → LeadsTo s (reverse g.past) g
    → Follows s.config zeros (reverse (after_rounds s n g).past)
rounds-follow s n g along leads = rounds-ran s n g (ran-to s g along leads)
