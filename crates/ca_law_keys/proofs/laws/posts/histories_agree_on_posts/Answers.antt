use Rattle.ca_law_keys.proofs.Posts.PostLaws.{posts-along}
use Rattle.ca_law_keys.proofs.laws.posts.histories_agree_on_posts.Goals as goal

pub returns : goal.returns
returns c = posts-along
