-- Lemmas on which envelope is due. For proofs only.
use Rattle.std.proofs.Common.{◌≡◌, ℕ, suc, zero, ◌-◌, ◌<◌, ◌&&◌, Bool, true, false, if◌then◌else◌, List, [], ◌∷◌, drop, slice_get, nat_lt, Option, Some, None, refl, arith}
use Rattle.std.specs.Option.{option_map_or, option_or}
use Rattle.std.proofs.lemmas.Grind.{common_steps}
use Rattle.ca_base.specs.declared.mail_envelope.MailEnvelope.{MailEnvelope}
use Rattle.ca_base.specs.objects.Mailbox.{due_from, is_hold, is_ready, is_undelivered, undelivered_count}
use Rattle.ca_base.specs.declared.lot.Lot.{Lot}
use Rattle.ca_base.specs.declared.lot.Lot.TheVariants.{Pass, Lose, Repeat, Hold}

-- where none is undelivered none is due
pub due_from-none : (all_held : Bool) (next later : ℕ) (es : List MailEnvelope) → undelivered_count es ≡ 0 → due_from all_held next later es ≡ None
due_from-none all_held next later [] h = refl
due_from-none all_held next later (e ∷ es) h =
    grind (arith, common_steps, h, due_from-none all_held (next - 1) (if nat_lt 0 e.delivered then suc later else later) es (grind (arith, common_steps, h)))

-- one that is not held is ready
pub is_ready-not_hold : (all_held : Bool) (later : ℕ) (lot : Lot) → is_hold lot ≡ false → is_ready all_held later lot ≡ true
is_ready-not_hold all_held later Pass h = refl
is_ready-not_hold all_held later Lose h = refl
is_ready-not_hold all_held later (Repeat k) h = refl
is_ready-not_hold all_held later (Hold k) h = grind (arith, h)

-- the oldest that is undelivered is due, if it is not held
pub due_from-oldest : (all_held : Bool) (next later k : ℕ) (es : List MailEnvelope) → undelivered_count (drop (suc k) es) ≡ 0 →
    option_map_or is_undelivered (slice_get es k) false ≡ true → option_map_or (λ e. is_hold e.lot) (slice_get es k) false ≡ false →
    due_from all_held next later es ≡ Some (next - suc k)
due_from-oldest all_held next later k [] h u n = grind (arith, common_steps, u)
due_from-oldest all_held next later zero (e ∷ es) h u n =
    grind (
      arith,
      common_steps,
      h,
      u,
      n,
      is_ready-not_hold all_held later e.lot (grind (arith, common_steps, n)),
      due_from-none all_held (next - 1) (if nat_lt 0 e.delivered then suc later else later) es (grind (arith, common_steps, h)),
    )
due_from-oldest all_held next later (suc k) (e ∷ es) h u n =
    grind (
      arith,
      common_steps,
      due_from-oldest all_held (next - 1) (if nat_lt 0 e.delivered then suc later else later) k es (grind (arith, common_steps, h)) (grind (arith, common_steps, u)) (grind (arith, common_steps, n)),
    )

-- the first of three
pub option_or-assoc : (a b c : Option ℕ) → option_or (option_or a b) c ≡ option_or a (option_or b c)
option_or-assoc None b c = refl
option_or-assoc (Some x) b c = refl

-- the same by how many envelopes reach to it
pub due_from-left : (all_held : Bool) (next later left : ℕ) (es : List MailEnvelope) → 0 < left → undelivered_count (drop left es) ≡ 0 →
    option_map_or is_undelivered (slice_get es (left - 1)) false ≡ true →
    option_map_or (λ e. is_hold e.lot) (slice_get es (left - 1)) false ≡ false →
    due_from all_held next later es ≡ Some (next - left)
due_from-left all_held next later zero es p h u n = absurd (omega (arith, p))
due_from-left all_held next later (suc k) es p h u n =
    let e : suc k - 1 ≡ k = omega arith in
    due_from-oldest all_held next later k es h (rw e at u) (rw e at n)

-- one envelope more was looked at
pub due_from-step : (all_held : Bool) (next later : ℕ) (e : MailEnvelope) (es : List MailEnvelope) (found : Option ℕ) →
    option_or (due_from all_held next later (e ∷ es)) found
    ≡ option_or (due_from all_held (next - 1) (if nat_lt 0 e.delivered then suc later else later) es)
    (option_or (if is_undelivered e && is_ready all_held later e.lot then Some (next - 1) else None) found)
due_from-step all_held next later e es found =
    option_or-assoc (due_from all_held (next - 1) (if nat_lt 0 e.delivered then suc later else later) es) _ found
