use Rattle.std.proofs.Common.{◌≡◌, ℕ, List, length, ap, sym, subst, ◌∙◌}
use Rattle.ca_keys.specs.declared.place.Run.{Run}
use Rattle.ca_base.specs.Sight.{runs_in}
use Rattle.ca_grant.specs.Access.{FitInBytes, buffer_after}
use Rattle.test_fixture_reach.specs.SmallLaws.{places-here, small_write}
use Rattle.test_fixture_reach.specs.SmallReach.{sight_of}
use Rattle.test_fixture_reach.proofs.small_reach.SmallReachReach.write_at.Goals as goal

pub write_span-requires-clause-inside : goal.write_span-requires-clause-inside
write_span-requires-clause-inside c =
    let P : List Run → Type 0 = λ rs. FitInBytes (length c.args.self.now.buffer) rs in
    subst P (sym c.requires.found.places) (places-here c.args.self.now c.args.ask.now c.requires.at_hand).0

pub returns-clause-sees : goal.returns-clause-sees
returns-clause-sees c =
    let s = c.args.self.now in
    let runs : List Run = runs_in (sight_of s) c.args.ask.now in
    let put : c.write_span.new.buffer ≡ buffer_after runs c.args.bytes.now s.buffer =
    c.write_span.ensures.bytes
    ∙ ap (λ (rs : List Run). buffer_after rs c.args.bytes.now s.buffer) c.requires.found.places in
    ap (λ (buffer : List ℕ). sight_of (record s { buffer = buffer })) put
    ∙ small_write s c.args.ask.now c.args.bytes.now c.requires.at_hand c.requires.count
