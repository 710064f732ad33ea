use Rattle.std.proofs.Common.{List, length, ap, sym, subst, ◌∙◌}
use Rattle.ca_keys.specs.declared.place.Run.{Run}
use Rattle.ca_keys.specs.declared.verdict.Verdict.TheVariants as verdicts
use Rattle.ca_grant.specs.Access.{FitInBytes}
use Rattle.ca_region.specs.Span.{runs_of_span}
use Rattle.test_fixture_reach.specs.SmallLaws.{places-here, small-bytes, small-count}
use Rattle.test_fixture_reach.proofs.small_reach.SmallReachReach.read.Goals as goal

pub bytes_of_span-requires : goal.bytes_of_span-requires
bytes_of_span-requires c =
    let P : List Run → Type 0 = λ rs. FitInBytes (length c.args.self.now.buffer) rs in
    subst P (sym c.in-Ok.ensures.found.places) (places-here c.args.self.now c.args.ask.now c.requires.at_hand).0

pub returns-in_err-bytes-clause-count : goal.returns-in_err-bytes-clause-count
returns-in_err-bytes-clause-count c = λ allowed.
    small-count c.args.self.now c.args.ask.now (runs_of_span c.in-Ok.found) c.in-Ok.ensures.found.places c.in-Ok.ensures.found.count

pub returns-clause-read : goal.returns-clause-read
returns-clause-read c = λ allowed. ap verdicts.Read (
    c.in_ok-bytes.ensures.bytes
    ∙ small-bytes c.args.self.now c.args.ask.now (runs_of_span c.in-Ok.found) c.requires.at_hand c.in-Ok.ensures.found.places)
