use Rattle.std.proofs.Common.{ap, reverse, subst, sym}
use Rattle.ca_script_order.proofs.QuietLemmas.{order-ended}
use Rattle.ca_script_order.specs.OfScript.{HasEnded}
use Rattle.ca_script_order.specs.Order.{Stage}
use Rattle.ca_engine.proofs.LoopLemmas.{loop-made}
use Rattle.ca_engine.proofs.laws.engine_laws.offers_make_the_order.Goals as goal

pub returns : goal.returns
returns c = record {
  stage = loop-made;
  history = λ s n ended. ap (λ (g : Stage). reverse g.past) (loop-made s n ended);
  quiet = λ s n ended. subst (HasEnded s) (sym (loop-made s n ended)) (order-ended s);
}
