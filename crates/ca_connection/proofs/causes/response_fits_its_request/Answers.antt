use Rattle.ca_connection.proofs.OnceLemmas.{law-fits}
use Rattle.ca_connection.proofs.causes.response_fits_its_request.Goals as goal

pub returns : goal.returns
returns c = law-fits
