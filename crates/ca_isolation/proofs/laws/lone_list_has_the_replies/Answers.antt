use Rattle.ca_isolation.proofs.ReplyLemmas.{same-replies}
use Rattle.ca_isolation.proofs.laws.lone_list_has_the_replies.Goals as goal
use Rattle.ca_isolation.specs.Groups.{covered}
use Rattle.ca_model.specs.Past.{opening_past}

pub returns : goal.returns
returns c group bytes es = same-replies group (covered group es) (opening_past bytes) es
