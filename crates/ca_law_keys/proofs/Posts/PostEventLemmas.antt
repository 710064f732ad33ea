-- The laws, for the crates above. For proofs only.
pub use Rattle.ca_law_keys.proofs.Posts.PostLaws.{event-posts-agree, opening-posts-agree, posts-along}
