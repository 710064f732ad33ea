use Rattle.ca_law_keys.proofs.Posts.PostLaws.{opening-posts-agree}
use Rattle.ca_law_keys.proofs.laws.posts.opening_agrees_on_posts.Goals as goal

pub returns : goal.returns
returns c = opening-posts-agree
