use Rattle.ca_law_endings.proofs.MailSentLemmas.{lent-sent}
use Rattle.ca_law_endings.proofs.laws.deliverable_bytes_were_sent.Goals as goal

pub returns : goal.returns
returns c = lent-sent
