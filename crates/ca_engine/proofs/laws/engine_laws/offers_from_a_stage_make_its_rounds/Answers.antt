use Rattle.std.proofs.Common.{ap, arith, subst, sym}
use Rattle.ca_script_order.proofs.QuietLemmas.{rounds-ended}
use Rattle.ca_script_order.specs.OfScript.{HasEnded}
use Rattle.ca_script_order.specs.Order.{Stage, most_rounds}
use Rattle.ca_engine.proofs.LoopLemmas.{loop-made-from}
use Rattle.ca_engine.proofs.laws.engine_laws.offers_from_a_stage_make_its_rounds.Goals as goal

pub returns : goal.returns
returns c = record {
  stage = loop-made-from;
  history = λ s g n lines ended. ap (λ (h : Stage). h.past) (loop-made-from s g n lines ended);
  quiet = λ s g n lines ended. subst (HasEnded s) (sym (loop-made-from s g n lines ended)) (rounds-ended s (most_rounds s) g lines (omega arith));
}
