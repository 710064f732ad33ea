-- The buffer that stands at its place in a row, beside the world for which the row stands. For proofs only.
use Rattle.std.proofs.Common.{◌≡◌, ◌∙◌, refl, sym, ap, subst, ℕ, zero, suc, ◌<◌, ◌≤◌, ◌==◌, nat_lt, Bool, true, false, if◌then◌else◌, length, slice_index_or, Option, None, Some, true≢false, arith}
use Rattle.std.proofs.lemmas.Bool.{eq-eqb}
use Rattle.std.proofs.lemmas.Bool.Decides.{nat_tests}
use Rattle.ca_base.specs.Configuration.{Configuration, configuration_in}
use Rattle.ca_adapter_parts.specs.declared.part.Part.{Part}
use Rattle.ca_adapter_parts.specs.declared.part.Part.TheVariants as parts
use Rattle.ca_adapter_reach.specs.Names.{buffer_eq}
use Rattle.ca_run_seed.specs.Buffers.{IsBufferSeen, buffer_in}
use Rattle.ca_model.specs.declared.part_name.PartName.TheVariants as names
use Rattle.ca_model.specs.machine.Step.{bytes_of_buffer, has_buffer}
use Rattle.ca_model.specs.machine.World.{World, Byte_at}
use Rattle.ca_script_run.specs.ca_adapter_store.Rows.{IsRowOf, IsThere, part_at}
use Rattle.ca_script_run.specs.ca_adapter_store.declared.row.Row.{Row}

-- the first of two, by a test that holds
chosen : {A : Type 0} (x y z : A) (b : Bool) → b ≡ true → (if b then x else y) ≡ z → x ≡ z
chosen x y z true e is = is
chosen x y z false e is = absurd (true≢false (sym e))

buffer-refl : (a b : ℕ) → buffer_eq (record { adapter = a; index = b }) (record { adapter = a; index = b }) ≡ true
buffer-refl a b = let same : (a == a) ≡ true = eq-eqb a a refl in rw same (eq-eqb b b refl)

less-passes : (m n : ℕ) → m < n → nat_lt m n ≡ true
less-passes m n less = grind (arith, nat_tests)

passes-less : (m n : ℕ) → nat_lt m n ≡ true → m < n
passes-less m n passes = grind (arith, nat_tests)

module _ (row : Row) (a b : ℕ) (c : Configuration) (w : World) (of : IsRowOf c w row) where
  here : part_at (configuration_in row.settings) row.parts.items (names.Buffer a b) ≡ part_at c row.parts.items (names.Buffer a b)
  here = ap (λ k. part_at k row.parts.items (names.Buffer a b)) of.settings

  there : (o : Option Part) → IsThere c w (names.Buffer a b) o → IsBufferSeen c w a b (buffer_in o)
  there None is = absurd is
  there (Some (parts.Buffer x)) is = record {
    enough = enough (bytes_of_buffer c a b) refl;
    same = λ at. chosen (slice_index_or x at 0) (w.byte (record { adapter = a; buffer = b; offset = at })) (w.byte (record { adapter = a; buffer = b; offset = at }))
        (buffer_eq (record { adapter = a; index = b }) (record { adapter = a; index = b })) (buffer-refl a b)
        (is.things w (Byte_at (record { adapter = a; buffer = b; offset = at })) refl);
  }
    where
      enough : (n : ℕ) → bytes_of_buffer c a b ≡ n → n ≤ length x
      enough zero e = omega arith
      enough (suc m) e = passes-less m (length x) (is.whole (record { adapter = a; buffer = b; offset = m }) refl (less-passes m (bytes_of_buffer c a b) (omega (arith, e))))
  there (Some (parts.Control x)) is = absurd (true≢false (sym is.kind))
  there (Some (parts.Queue x)) is = absurd (true≢false (sym is.kind))
  there (Some (parts.Mailbox x)) is = absurd (true≢false (sym is.kind))
  there (Some (parts.Cq x)) is = absurd (true≢false (sym is.kind))
  there (Some (parts.Srq x)) is = absurd (true≢false (sym is.kind))
  there (Some (parts.Window x)) is = absurd (true≢false (sym is.kind))
  there (Some (parts.Region x)) is = absurd (true≢false (sym is.kind))

  pub buffer_seen : (o : Option Part) → o ≡ part_at (configuration_in row.settings) row.parts.items (names.Buffer a b) → IsBufferSeen c w a b (buffer_in o)
  buffer_seen o is = subst (λ o. IsBufferSeen c w a b (buffer_in o)) (sym (is ∙ here)) (by (has_buffer c a b) refl)
    where
      by : (has : Bool) → has_buffer c a b ≡ has → IsBufferSeen c w a b (buffer_in (part_at c row.parts.items (names.Buffer a b)))
      by true has = there (part_at c row.parts.items (names.Buffer a b)) (of.together.home (names.Buffer a b) has (of.empty (names.Buffer a b)))
      by false outside =
          let none : part_at c row.parts.items (names.Buffer a b) ≡ None = rw outside refl in
          subst (λ o. IsBufferSeen c w a b (buffer_in o)) (sym none) outside
