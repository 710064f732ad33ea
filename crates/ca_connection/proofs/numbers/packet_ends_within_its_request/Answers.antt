use Rattle.ca_connection.proofs.LayoutLemmas.{span-within}
use Rattle.ca_connection.proofs.numbers.packet_ends_within_its_request.Goals as goal

pub returns : goal.returns
returns c = span-within
