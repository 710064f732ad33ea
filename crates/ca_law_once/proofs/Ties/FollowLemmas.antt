-- Where past and world agree on paths, mailboxes follow their queue pairs.
use Rattle.std.proofs.Common.{sym, ◌∙◌}
use Rattle.ca_law_endings.specs.Agreement.{PathsAgree}
use Rattle.ca_model.specs.Past.{Past}
use Rattle.ca_model.specs.machine.World.{World}
use Rattle.ca_law_once.specs.Ties.{MailFollows}

pub paths-follow : (past : Past) (w : World) → PathsAgree past w → MailFollows w
paths-follow past w agree = record { owners = λ n. agree.owners n ∙ sym (agree.incarnations n); peers = λ n. agree.accepted n ∙ sym (agree.peers n) }
