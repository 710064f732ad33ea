use Rattle.ca_law_lossless.proofs.AddressLemmas.{packet-for, respond-for}
use Rattle.ca_law_lossless.proofs.laws.mail.turns_send_to_peers.Goals as goal

pub returns : goal.returns
returns c = record { request = packet-for; respond = respond-for }
