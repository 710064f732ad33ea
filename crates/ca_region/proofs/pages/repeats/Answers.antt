use Rattle.std.proofs.Common.{◌==◌, ◌+◌, ◌-◌, false, get_or, length, ap, sym, ◌∙◌, arith, refl, List, ℕ}
use Rattle.std.specs.List.{list_any}
use Rattle.std.proofs.lemmas.List.{drop_all, get_or-replicate, take_rest}
use Rattle.ca_base.specs.objects.Region.{has_repeat}
use Rattle.ca_region.proofs.Repeats.{repeat-at}
use Rattle.ca_region.proofs.pages.repeats.Goals as goal
use Rattle.ca_region.proofs.pages.repeats.Goals.{then-page-lt-MAX_PAGES, else-page-lt-MAX_PAGES}

pub loop-i-init : goal.loop-i-init
loop-i-init c =
    let ps = c.args.pages.now in
    let none = drop_all (length ps) ps (omega arith) in (
      omega arith,
      refl,
      ap has_repeat none,
      λ k h. get_or-replicate 256 k false false h ∙ sym (ap (λ (xs : List ℕ). list_any (λ other. other == k) xs) none),
    )

pub returns-then-again : goal.returns-then-again
returns-then-again c =
    let ps = c.args.pages.now in
    let i = c.loop-i.i - 1 in
    let p = get_or ps i 0 in
    elim c.if-page-lt-MAX_PAGES.branch [
      | then-page-lt-MAX_PAGES w ↦
          sym (repeat-at ps i c.loop-i.i (omega arith) (omega arith) (
          sym (c.loop-i.invariant.3 p w.if-page-lt-MAX_PAGES.true)
          ∙ ap (λ (k : ℕ). get_or c.loop-i.seen k false) (sym w.from.ensures)
          ∙ sym w.again-is
          ∙ c.if-again.true))
      | else-page-lt-MAX_PAGES w ↦
          sym (repeat-at ps i (i + 1) (omega arith) refl (
          ap (λ (xs : List ℕ). list_any (λ other. other == p) xs) (sym (take_rest ps (i + 1)))
          ∙ sym w.contains-again.ensures.value
          ∙ sym w.again-is
          ∙ c.if-again.true))
    ]
