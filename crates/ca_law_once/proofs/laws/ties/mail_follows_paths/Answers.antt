use Rattle.ca_law_once.proofs.Ties.FollowLemmas.{paths-follow}
use Rattle.ca_law_once.proofs.laws.ties.mail_follows_paths.Goals as goal

pub returns : goal.returns
returns c = paths-follow
