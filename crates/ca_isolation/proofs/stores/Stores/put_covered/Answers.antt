use Rattle.std.proofs.Common.{rules}
use Rattle.ca_isolation.proofs.PutLemmas.{put-begun, put-on, when-ok}
use Rattle.ca_isolation.proofs.stores.Stores.put_covered.Goals as goal

pub returns-then-goes_on : goal.returns-then-goes_on
returns-then-goes_on c = when-ok c.lengthen.result (λ e cover along. put-on cover c.args.at c.args.bytes.now c.args.self.now c.lengthen.new.self (search rules) e.0 e.1 along) c.lengthen.ensures

pub returns : goal.returns
returns c = when-ok c.begin.result (λ e cover along. put-begun cover c.args.at c.args.bytes.now c.args.self.now c.end.new.self c.begin.new.self c.requires (search rules) c.in_ok-end.ensures e.0 e.1 along) c.begin.ensures
