use Rattle.ca_law_lossless.proofs.CalmRows.{response-calm}
use Rattle.ca_law_lossless.proofs.laws.rows.response_row_takes_calmly.Goals as goal

pub returns : goal.returns
returns c = response-calm
