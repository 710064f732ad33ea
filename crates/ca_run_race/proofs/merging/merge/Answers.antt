use Rattle.std.proofs.Common.{subst}
use Rattle.ca_run_race.proofs.MergeLemmas.{merged-work, when-ok}
use Rattle.ca_run_race.specs.Workers.{AreBoth}
use Rattle.ca_run_race.proofs.merging.merge.Goals as goal

pub returns : goal.returns
returns c = λ s first middle end workers low high one two.
    merged-work c.args.fabric.now s first middle end workers c.args.lower c.args.upper (record { pass = c.join.new.into; done = c.add_done.new.done }) one two low high c.join.ensures.of
    (when-ok c.join.result c.is_err.result c.is_err.ensures.value c.if-is_err.false c.join.ensures.joined)
    (subst (λ more. AreBoth c.args.lower.done.items more c.add_done.new.done.items) c.as_slice.ensures.value c.add_done.ensures)
