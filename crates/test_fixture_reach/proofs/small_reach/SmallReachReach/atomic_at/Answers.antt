use Rattle.std.proofs.Common.{◌≡◌, ℕ, List, [], ◌∷◌, Option, length, sym, ap, subst, ◌∙◌, arith}
use Rattle.std.specs.Option.{option_map_or}
use Rattle.ca_keys.specs.declared.place.Run.{Run}
use Rattle.ca_keys.specs.declared.verdict.Verdict.TheVariants as verdicts
use Rattle.ca_keys.specs.Memory.{little_endian, little_endian_bytes}
use Rattle.ca_base.specs.Sight.{bytes_in, runs_in}
use Rattle.ca_grant.specs.Access.{FitInBytes, buffer_after}
use Rattle.ca_memory.specs.Number.{number_after}
use Rattle.test_fixture_reach.specs.SmallLaws.{places-here, small-bytes}
use Rattle.test_fixture_reach.specs.SmallReach.{sight_of}
use Rattle.test_fixture_reach.proofs.small_reach.SmallReachReach.atomic_at.Goals as goal

pub swap_at-number-requires-clause-fits : goal.swap_at-number-requires-clause-fits
swap_at-number-requires-clause-fits c =
    let P : List Run → Type 0 = λ rs. FitInBytes (length c.args.self.now.buffer) rs in
    (subst P (sym c.requires.found.places) (places-here c.args.self.now c.args.ask.now c.requires.at_hand).0).0

-- the eight bytes lie in one run
one-run : (c : goal.After-number_put) → c.args.found.now.first ∷ [] ≡ runs_in (sight_of c.args.self.now) c.args.ask.now
one-run c =
    sym (ap (λ (second : Option Run). c.args.found.now.first ∷ option_map_or (λ r. r ∷ []) second [])
    (c.requires.found.whole c.requires.eight.aligned (omega (arith, c.requires.eight.touch))))
    ∙ c.requires.found.places

number-seen : (c : goal.After-number_put) → c.swap_at-number.result ≡ little_endian (bytes_in (sight_of c.args.self.now) c.args.ask.now)
number-seen c =
    c.swap_at-number.ensures.found
    ∙ ap little_endian (small-bytes c.args.self.now c.args.ask.now (c.args.found.now.first ∷ []) c.requires.at_hand (one-run c))

pub returns-clause-verdict : goal.returns-clause-verdict
returns-clause-verdict c =
    ap (λ (put : ℕ). verdicts.Swapped c.swap_at-number.result put) c.number_put.ensures
    ∙ ap (λ (found : ℕ). verdicts.Swapped found (number_after c.args.op found)) (number-seen c)

pub returns-clause-wrote : goal.returns-clause-wrote
returns-clause-wrote c =
    let s = c.args.self.now in
    let runs : List Run = runs_in (sight_of s) c.args.ask.now in
    ap (λ (buffer : List ℕ). record s { buffer = buffer }) (
    c.swap_at-number.ensures.put
    ∙ ap (λ (rs : List Run). buffer_after rs (little_endian_bytes (number_after c.args.op c.swap_at-number.result)) s.buffer) (one-run c)
    ∙ ap (λ (found : ℕ). buffer_after runs (little_endian_bytes (number_after c.args.op found)) s.buffer) (number-seen c))
