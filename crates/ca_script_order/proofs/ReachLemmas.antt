-- How far a history of a script leads: which verbs are left there, and how the machine runs on. For proofs only.
use Rattle.std.proofs.Common.{◌≡◌, ℕ, suc, ◌+◌, Bool, true, false, if◌then◌else◌, List, [], ◌∷◌, ◌++◌, drop, length, map, None, Some, Ok, Err, is_some, refl, ap, sym, ◌∙◌, arith, subst, true≢false}
use Rattle.std.specs.Option.{option_map_or}
use Rattle.std.proofs.lemmas.Grind.{flat_map-append}
use Rattle.std.proofs.lemmas.List.{drop-drop, length-append}
use Rattle.ca_model.specs.Entries.{EntryValue}
use Rattle.ca_model.specs.declared.event.Event.{Event}
use Rattle.ca_model.specs.declared.mark.Mark.{Mark}
use Rattle.ca_model.specs.declared.verb.Verb.{Verb}
use Rattle.ca_model.specs.machine.Plan.{Outcome, NotReady, Did}
use Rattle.ca_model.specs.machine.Run.{Ran, go_on, run_from, with_marks}
use Rattle.ca_model.specs.machine.Step.{step}
use Rattle.ca_model.specs.machine.World.{World}
use Rattle.ca_script.specs.Script.{ScriptValue}
use Rattle.ca_script_order.specs.Order.{lines_of}
use Rattle.ca_script_order.specs.OfScript.{Reach, calls_by, left_after, may_stand, reach_by, reach_from, verbs_in}
use Rattle.ca_script_order.proofs.LineLemmas.{verbs-after}

-- no entry leads as far as it begins
no-further : (r end : Reach) → Some r ≡ Some end → r ≡ end
no-further r end is = ap (λ o. option_map_or (λ x. x) o r) is

-- how far an entry leads
abbrev reach_past : Reach → EntryValue → World → Reach
reach_past r e w = record { world = w; count = suc r.count; left = left_after r e.event }

-- What holds at the end, where no entry comes, and before each entry, where it holds behind it, holds of all entries.
along : (s : ScriptValue) (end : Reach) (P : List EntryValue → Reach → Type 0) → P [] end
    → ((e : EntryValue) (es : List EntryValue) (r : Reach) (w : World) (ms : List Mark) → may_stand s r e.event ≡ true → step s.config r.world e.event ≡ Did w ms
    → P es (reach_past r e w) → P (e ∷ es) r)
    → (es : List EntryValue) (r : Reach) → reach_from s r es ≡ Some end → P es r
along s end P none more [] r leads = subst (P []) (sym (no-further r end leads)) none
along s end P none more (e ∷ es) r leads = by (may_stand s r e.event) refl (step s.config r.world e.event) refl leads (λ h so. along s end P none more es h so)
  where
    by : (b : Bool) → may_stand s r e.event ≡ b → (o : Outcome) → step s.config r.world e.event ≡ o
        → (if b then reach_by r e.event o (λ h. reach_from s h es) else None) ≡ Some end
        → ((h : Reach) → reach_from s h es ≡ Some end → P es h) → P (e ∷ es) r
    by true stands (Did w ms) does leads rest = more e es r w ms stands does (rest (reach_past r e w) leads)
    by true stands (NotReady reason) does leads rest = absurd (true≢false (sym (ap is_some leads)))
    by false stands o does leads rest = absurd (true≢false (sym (ap is_some leads)))

-- as many entries more are counted
pub reach-counts : (s : ScriptValue) (es : List EntryValue) (r end : Reach) → reach_from s r es ≡ Some end → end.count ≡ length es + r.count
reach-counts s es r end leads = along s end (λ es r. end.count ≡ length es + r.count) (omega arith) (λ e es r w ms stands does rest. omega (arith, rest)) es r leads

calls-both : (k : ℕ) (es others : List EntryValue) → calls_by k (es ++ others) ≡ calls_by k es ++ calls_by k others
calls-both k es others = flat_map-append _ es others

calls-counted : (k : ℕ) (e : EntryValue) (es : List EntryValue) → length (calls_by k (e ∷ es)) ≡ length (calls_by k (e ∷ [])) + length (calls_by k es)
calls-counted k e es = ap (λ (vs : List Verb). length vs) (calls-both k (e ∷ []) es) ∙ length-append (calls_by k (e ∷ [])) (calls_by k es)

-- of each consumer the verbs are left behind as many as it called
pub reach-left : (s : ScriptValue) (es : List EntryValue) (r end : Reach) → reach_from s r es ≡ Some end → (k : ℕ)
    → verbs_in (lines_of k end.left) ≡ drop (length (calls_by k es)) (verbs_in (lines_of k r.left))
reach-left s es r end leads k = along s end P refl more es r leads
  where
    P : List EntryValue → Reach → Type 0
    P es r = verbs_in (lines_of k end.left) ≡ drop (length (calls_by k es)) (verbs_in (lines_of k r.left))

    more : (e : EntryValue) (es : List EntryValue) (r : Reach) (w : World) (ms : List Mark) → may_stand s r e.event ≡ true → step s.config r.world e.event ≡ Did w ms
        → P es (reach_past r e w) → P (e ∷ es) r
    more e es r w ms stands does rest =
        rest
        ∙ ap (drop (length (calls_by k es))) (verbs-after s r e.event e.stamp e.pass e.marks k stands)
        ∙ drop-drop (length (calls_by k es)) (length (calls_by k (e ∷ []))) (verbs_in (lines_of k r.left))
        ∙ ap (λ (n : ℕ). drop n (verbs_in (lines_of k r.left))) (sym (calls-counted k e es))

-- the marks of entries before those of what comes
abbrev pub marks_before : List EntryValue → Ran → Ran
marks_before [] rest = rest
marks_before (e ∷ es) rest = with_marks e.marks (marks_before es rest)

-- marks before others
marks-parted : (ms marks : List Mark) (ran : Ran) (more : List (List Mark)) → with_marks ms ran ≡ Ok (marks ∷ more) → (ms ≡ marks) × (ran ≡ Ok more)
marks-parted ms marks (Ok all) more is = (ap first is, ap others is)
  where
    first : Ran → List Mark
    first (Ok (x ∷ xs)) = x
    first ran = ms

    others : Ran → Ran
    others (Ok (x ∷ xs)) = Ok xs
    others ran = ran
marks-parted ms marks (Err stop) more is = absurd cc

-- what follows the machine runs on from where it leads
pub reach-runs : (s : ScriptValue) (es : List EntryValue) (r end : Reach) → reach_from s r es ≡ Some end
    → run_from s.config r.count r.world (map (λ e. e.event) es) ≡ Ok (map (λ e. e.marks) es)
    → (rest : List Event) → run_from s.config r.count r.world (map (λ e. e.event) es ++ rest) ≡ marks_before es (run_from s.config end.count end.world rest)
reach-runs s es r end leads = along s end P (λ follows rest. refl) more es r leads
  where
    P : List EntryValue → Reach → Type 0
    P es r = run_from s.config r.count r.world (map (λ e. e.event) es) ≡ Ok (map (λ e. e.marks) es)
        → (rest : List Event) → run_from s.config r.count r.world (map (λ e. e.event) es ++ rest) ≡ marks_before es (run_from s.config end.count end.world rest)

    more : (e : EntryValue) (es : List EntryValue) (r : Reach) (w : World) (ms : List Mark) → may_stand s r e.event ≡ true → step s.config r.world e.event ≡ Did w ms
        → P es (reach_past r e w) → P (e ∷ es) r
    more e es r w ms stands does on follows rest =
        ap (λ o. go_on r.count o (λ v. run_from s.config (suc r.count) v (map (λ x. x.event) es ++ rest))) does
        ∙ ap (with_marks ms) (on parted.1 rest)
        ∙ ap (λ marks. with_marks marks (marks_before es (run_from s.config end.count end.world rest))) parted.0
      where
        parted : (ms ≡ e.marks) × (run_from s.config (suc r.count) w (map (λ x. x.event) es) ≡ Ok (map (λ x. x.marks) es))
        parted = marks-parted ms e.marks (run_from s.config (suc r.count) w (map (λ x. x.event) es)) (map (λ x. x.marks) es)
            (sym (ap (λ o. go_on r.count o (λ v. run_from s.config (suc r.count) v (map (λ x. x.event) es))) does) ∙ follows)
