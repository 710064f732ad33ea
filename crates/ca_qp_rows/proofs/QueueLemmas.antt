-- The requests of a work queue from a place on.
use Rattle.std.proofs.Common.{◌≡◌, ℕ, zero, suc, ◌-◌, ◌≤◌, nat_lt, arith, refl, sym, ap, ◌∙◌, true≢false, is_some, false, List, [], ◌∷◌, drop, length, None, Some, slice_get}
use Rattle.std.proofs.Math.Seq.{drop-cons}
use Rattle.std.proofs.lemmas.Bool.{le-ltb}
use Rattle.std.proofs.lemmas.List.{drop_all}
use Rattle.std.proofs.lemmas.Option.{get_or_from_slice_get, slice_get_within}
use Rattle.ca_base.specs.objects.WorkQueue.{WorkQueue, item_at, items_from, next_place}

not-before : (place first : ℕ) → first ≤ place → nat_lt place first ≡ false
not-before place first le = le-ltb place first le

at-place : {T : Type 0} (q : WorkQueue T) (place : ℕ) → q.first ≤ place → item_at place q ≡ slice_get q.items (place - q.first)
at-place q place le = rw (not-before place q.first le) refl

pub items_step : {T : Type 0} (q : WorkQueue T) (place : ℕ) (x : T) → q.first ≤ place → item_at place q ≡ Some x → items_from place q ≡ x ∷ items_from (suc place) q
items_step q place x le e =
    drop-cons q.items (place - q.first) x (slice_get_within q.items (place - q.first) x there)
    ∙ ap (λ y. y ∷ drop (suc (place - q.first)) q.items) (get_or_from_slice_get q.items (place - q.first) x x there)
    ∙ ap (λ n. x ∷ drop n q.items) step
  where
    there : slice_get q.items (place - q.first) ≡ Some x
    there = sym (at-place q place le) ∙ e

    step : suc (place - q.first) ≡ suc place - q.first
    step = omega (arith, le)

pub items_past : {T : Type 0} (q : WorkQueue T) (place : ℕ) → next_place q ≤ place → items_from place q ≡ []
items_past q place le = drop_all (place - q.first) q.items (omega (arith, le))

none-past : {T : Type 0} (xs : List T) (n : ℕ) → slice_get xs n ≡ None → length xs ≤ n
none-past [] n e = omega arith
none-past (x ∷ xs) zero e = absurd (true≢false (ap is_some e))
none-past (x ∷ xs) (suc n) e = omega (arith, none-past xs n e)

pub items_none : {T : Type 0} (q : WorkQueue T) (place : ℕ) → q.first ≤ place → item_at place q ≡ None → items_from place q ≡ []
items_none q place le e = drop_all (place - q.first) q.items (none-past q.items (place - q.first) (sym (at-place q place le) ∙ e))
