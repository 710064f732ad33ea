use Rattle.ca_law_lossless.proofs.RowCalm.{operation-calm, packet-calm, respond-calm, timeout-calm}
use Rattle.ca_law_lossless.proofs.laws.mail.turns_keep_calm.Goals as goal

pub returns : goal.returns
returns c = record { request = packet-calm; respond = respond-calm; timeout = timeout-calm; operation = operation-calm }
