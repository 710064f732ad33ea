-- The lines that are left of consumers, and the verbs that they call. For proofs only.
use Rattle.std.proofs.Common.{◌≡◌, ℕ, zero, suc, ◌==◌, Bool, true, false, if◌then◌else◌, nat_le, List, [], ◌∷◌, drop, length, slice_set, refl, ap, sym, ◌∙◌, subst, true≢false}
use Rattle.std.proofs.lemmas.Bool.{eq-eqb, eqb-true}
use Rattle.ca_model.specs.declared.event.Event.{Event}
use Rattle.ca_model.specs.declared.event.Event.TheVariants as events
use Rattle.ca_model.specs.declared.mark.Mark.{Mark}
use Rattle.ca_model.specs.declared.verb.Verb.{Verb}
use Rattle.ca_script.specs.Script.{ScriptValue}
use Rattle.ca_script.specs.ca_script_lines.declared.Line.{Line}
use Rattle.ca_script.specs.ca_script_lines.declared.what.What.{What}
use Rattle.ca_script.specs.ca_script_lines.declared.what.What.TheVariants as whats
use Rattle.ca_script_order.specs.Order.{lines_of}
use Rattle.ca_script_order.specs.OfScript.{Reach, calls_by, is_call, is_passed, left_after, lines_at, may_stand, verbs_in}
use Rattle.ca_script_order.proofs.EndLemmas.{starts}

-- ---- lines that are set

-- a consumer's lines, where they were set
pub set-same : (k : ℕ) (left : List (List Line)) (lines : List Line) → starts (lines_of k left) ≡ true → lines_of k (slice_set left k lines) ≡ lines
set-same k [] lines some = absurd (true≢false (sym some))
set-same zero (x ∷ xs) lines some = refl
set-same (suc k) (x ∷ xs) lines some = set-same k xs lines some

pub set-other : (k j : ℕ) (left : List (List Line)) (lines : List Line) → (k ≡ j → ⊥) → lines_of j (slice_set left k lines) ≡ lines_of j left
set-other k j [] lines other = refl
set-other zero zero (x ∷ xs) lines other = absurd (other refl)
set-other zero (suc j) (x ∷ xs) lines other = refl
set-other (suc k) zero (x ∷ xs) lines other = refl
set-other (suc k) (suc j) (x ∷ xs) lines other = set-other k j xs lines (λ same. other (ap suc same))

-- what is left is some lines, where some are left behind what is passed
pub starts-before : (n : ℕ) (lines : List Line) → starts (lines_at n lines) ≡ true → starts lines ≡ true
starts-before n [] some = some
starts-before n (line ∷ rest) some = refl

-- ---- verbs of lines

-- lines that are passed call no verb
pub verbs-at : (n : ℕ) (lines : List Line) → verbs_in (lines_at n lines) ≡ verbs_in lines
verbs-at n [] = refl
verbs-at n (line ∷ rest) = by (verbs-at n rest) line.what
  where
    passed : (t : ℕ) → verbs_in (lines_at n rest) ≡ verbs_in rest → (b : Bool) → verbs_in (if b then lines_at n rest else (record line { what = whats.At t }) ∷ rest) ≡ verbs_in rest
    passed t others true = others
    passed t others false = refl

    by : verbs_in (lines_at n rest) ≡ verbs_in rest → (what : What)
        → verbs_in (if is_passed n what then lines_at n rest else (record line { what = what }) ∷ rest) ≡ verbs_in ((record line { what = what }) ∷ rest)
    by others (whats.Verb verb) = refl
    by others (whats.At t) = passed t others (nat_le t n)

-- behind a line that calls, all verbs but its own are left
verbs-called : (lines : List Line) → is_call lines ≡ true → verbs_in (drop 1 lines) ≡ drop 1 (verbs_in lines)
verbs-called [] call = refl
verbs-called (line ∷ rest) call = by line.what call
  where
    by : (what : What) → is_call ((record line { what = what }) ∷ rest) ≡ true → verbs_in rest ≡ drop 1 (verbs_in ((record line { what = what }) ∷ rest))
    by (whats.Verb verb) call = refl
    by (whats.At t) call = absurd (true≢false (sym call))

call-starts : (lines : List Line) → is_call lines ≡ true → starts lines ≡ true
call-starts [] call = absurd (true≢false (sym call))
call-starts (line ∷ rest) call = refl

-- who called
pub call-by : (k j n p : ℕ) (verb : Verb) (ms : List Mark) (b : Bool) → (k == j) ≡ b
    → calls_by j (record { stamp = n; pass = p; event = events.Verb k verb; marks = ms } ∷ []) ≡ (if b then verb ∷ [] else [])
call-by k j n p verb ms true is = rw is
call-by k j n p verb ms false is = rw is

-- an event takes the verbs that it calls from those of the lines that are left
pub verbs-after : (s : ScriptValue) (r : Reach) (event : Event) (n p : ℕ) (ms : List Mark) (k : ℕ) → may_stand s r event ≡ true
    → verbs_in (lines_of k (left_after r event)) ≡ drop (length (calls_by k (record { stamp = n; pass = p; event = event; marks = ms } ∷ []))) (verbs_in (lines_of k r.left))
verbs-after s r (events.Verb j verb) n p ms k stands = who (j == k) refl
  where
    lines : List Line
    lines = lines_at r.count (lines_of j r.left)

    own : verbs_in (lines_of j (slice_set r.left j (drop 1 lines))) ≡ drop 1 (verbs_in (lines_of j r.left))
    own =
        ap verbs_in (set-same j r.left (drop 1 lines) (starts-before r.count (lines_of j r.left) (call-starts lines stands)))
        ∙ verbs-called lines stands
        ∙ ap (drop 1) (verbs-at r.count (lines_of j r.left))

    who : (b : Bool) → (j == k) ≡ b
        → verbs_in (lines_of k (slice_set r.left j (drop 1 lines))) ≡ drop (length (calls_by k (record { stamp = n; pass = p; event = events.Verb j verb; marks = ms } ∷ []))) (verbs_in (lines_of k r.left))
    who true is =
        subst (λ i. verbs_in (lines_of i (slice_set r.left j (drop 1 lines))) ≡ drop 1 (verbs_in (lines_of i r.left))) (eqb-true j k is) own
        ∙ ap (λ (vs : List Verb). drop (length vs) (verbs_in (lines_of k r.left))) (sym (call-by j k n p verb ms true is))
    who false is =
        ap verbs_in (set-other j k r.left (drop 1 lines) (λ are. true≢false (sym (eq-eqb j k are) ∙ is)))
        ∙ ap (λ (vs : List Verb). drop (length vs) (verbs_in (lines_of k r.left))) (sym (call-by j k n p verb ms false is))
verbs-after s r (events.Request q lot) n p ms k stands = refl
verbs-after s r (events.Respond q lot) n p ms k stands = refl
verbs-after s r (events.Deliver q index) n p ms k stands = refl
verbs-after s r (events.Timeout q hasten) n p ms k stands = refl
verbs-after s r (events.RnrWake q) n p ms k stands = refl
