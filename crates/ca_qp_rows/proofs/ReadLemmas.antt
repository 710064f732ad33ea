-- Marks of what is read behind those that there were, and the bytes that they hold.
use Rattle.std.proofs.Common.{◌≡◌, ℕ, ◌≤◌, ◌<◌, true, true≢false, is_some, Option, None, Some, refl, sym, ap, ◌∙◌, List, [], ◌∷◌, ◌++◌, drop, length, length-append, take, arith}
use Rattle.std.proofs.Math.Seq.{take-append_seam, take-length, drop-append_seam}
use Rattle.std.proofs.lemmas.List.{take-append-drop, take-append-le}
use Rattle.std.specs.List.{AllByRecursion}
use Rattle.ca_keys.specs.declared.access.Ask.{Ask}
use Rattle.ca_keys.specs.declared.access.Denial.{Denial}
use Rattle.ca_base.specs.Sight.{Sight, denial_in, first_denied, or_denied}
use Rattle.ca_qpstate.specs.ca_model.declared.mark.Mark.{Mark}
use Rattle.ca_qp_rows.specs.Asks.{AreBytesAtHand, bytes_read, payload_of, read_marks}

-- all marks are those that there were
pub front_whole : (old new : List Mark) → new ≡ old → take (length old) new ≡ old
front_whole old new e = ap (take (length old)) e ∙ take-length old

-- those that there were stand in front, where one more stood in front
pub front_still : (old more : List Mark) (m : Mark) (next : List Mark) → next ≡ old ++ m ∷ [] → take (length next) more ≡ next → take (length old) more ≡ old
front_still old more m next e f =
    ap (take (length old)) (sym (take-append-drop (length next) more) ∙ ap (λ xs. xs ++ drop (length next) more) f)
    ∙ take-append-le (length old) next (drop (length next) more) shorter
    ∙ ap (take (length old)) e
    ∙ take-append_seam old (m ∷ [])
  where
    shorter : length old ≤ length next
    shorter = omega (arith, ap length e, length-append old (m ∷ []))

-- the bytes that the marks of accesses hold are those of the accesses
pub bytes_of_reads : (xs : List (Ask × List ℕ)) → bytes_read (read_marks xs) ≡ payload_of xs
bytes_of_reads [] = refl
bytes_of_reads (x ∷ xs) = ap (λ bs. x.1 ++ bs) (bytes_of_reads xs)

-- the marks behind those that there were
pub behind_old : (old more new : List Mark) → new ≡ old ++ more → drop (length old) new ≡ more
behind_old old more new e = ap (drop (length old)) e ∙ drop-append_seam old more

-- where one ask stands alone, or none is denied, each that is allowed has its bytes at hand
pub one_touches : (s : Sight) (touches : Ask → Type 0) (asks : List Ask)
    → (first_denied s asks ≡ None → AllByRecursion touches asks) → (1 < length asks → first_denied s asks ≡ None)
    → AllByRecursion (AreBytesAtHand s touches) asks
one_touches s touches [] bytes alone = tt
one_touches s touches (ask ∷ []) bytes alone = (λ e. (bytes (rw e refl)).0, tt)
one_touches s touches (ask ∷ next ∷ asks) bytes alone = all (ask ∷ next ∷ asks) (bytes (alone (omega arith)))
  where
    all : (xs : List Ask) → AllByRecursion touches xs → AllByRecursion (AreBytesAtHand s touches) xs
    all [] at = tt
    all (x ∷ xs) at = (λ e. at.0, all xs at.1)

-- the first of the asks to come is denied
pub denied_first : (s : Sight) (ask : Ask) (asks : List Ask) → is_some (denial_in s ask) ≡ true → is_some (first_denied s (ask ∷ asks)) ≡ true
denied_first s ask asks e = by (denial_in s ask) e
  where
    by : (o : Option Denial) → is_some o ≡ true → is_some (or_denied ask o (first_denied s asks)) ≡ true
    by None e = absurd (true≢false (sym e))
    by (Some d) e = refl
