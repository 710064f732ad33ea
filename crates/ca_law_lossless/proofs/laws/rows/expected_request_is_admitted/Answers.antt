use Rattle.ca_law_lossless.proofs.AdmitRows.{request-admits}
use Rattle.ca_law_lossless.proofs.laws.rows.expected_request_is_admitted.Goals as goal

pub returns : goal.returns
returns c = request-admits
