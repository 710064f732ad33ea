use Rattle.std.proofs.Common.{rules, arith, ◌≡◌, ◌+◌, ◌*◌, le-leb, leb-true, length, sum_by}
use Rattle.ca_script.specs.Script.{script_value}
use Rattle.ca_script_run.proofs.WorkableLemmas.{few-rounds, reckoned}
use Rattle.ca_script_run.proofs.workable.are_countable_offers.Goals as goal

pub returns-then-rounds-most-clause-yes : goal.returns-then-rounds-most-clause-yes
returns-then-rounds-most-clause-yes c = λ few. omega (
  arith,
  leb-true ((c.line_count.result + c.from.result + 1) * (length c.as_slice-consumers.result.now + 5 * c.from-2.result)) c.from-most.result few,
  reckoned (script_value c.args.script.now) c.line_count.result c.from.result (length c.as_slice-consumers.result.now) c.from-2.result
      (search rules) (search rules) (search rules) (search rules),
  c.from-most.ensures,
)

pub returns-then-rounds-most-clause-no : goal.returns-then-rounds-most-clause-no
returns-then-rounds-most-clause-no c = λ few. le-leb ((c.line_count.result + c.from.result + 1) * (length c.as_slice-consumers.result.now + 5 * c.from-2.result)) c.from-most.result
    (omega (
      arith,
      few,
      reckoned (script_value c.args.script.now) c.line_count.result c.from.result (length c.as_slice-consumers.result.now) c.from-2.result
          (search rules) (search rules) (search rules) (search rules),
      c.from-most.ensures,
    ))

pub returns-else-rounds-most-clause-no : goal.returns-else-rounds-most-clause-no
returns-else-rounds-most-clause-no c = λ few.
    let lines : c.line_count.result ≡ sum_by (λ l. length l) (script_value c.args.script.now).consumers = search rules in
    let events : c.from.result ≡ (script_value c.args.script.now).config.events = search rules in
    le-leb (c.line_count.result + c.from.result + 1) c.from-most.result
    (omega (arith, few-rounds (script_value c.args.script.now) c.requires.limited.events few, lines, events, c.from-most.ensures))
