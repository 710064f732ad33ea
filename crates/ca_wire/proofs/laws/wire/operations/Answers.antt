use Rattle.ca_wire.proofs.OperationLaws.{send_is, write_is, read_response_is}
use Rattle.ca_wire.proofs.laws.wire.operations.Goals as goal

pub returns-clause-send : goal.returns-clause-send
returns-clause-send c = send_is

pub returns-clause-write : goal.returns-clause-write
returns-clause-write c = write_is

pub returns-clause-read_response : goal.returns-clause-read_response
returns-clause-read_response c = read_response_is
