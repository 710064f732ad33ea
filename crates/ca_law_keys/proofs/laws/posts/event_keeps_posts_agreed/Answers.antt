use Rattle.ca_law_keys.proofs.Posts.PostLaws.{event-posts-agree}
use Rattle.ca_law_keys.proofs.laws.posts.event_keeps_posts_agreed.Goals as goal

pub returns : goal.returns
returns c = event-posts-agree
