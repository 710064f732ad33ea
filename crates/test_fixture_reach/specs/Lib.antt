pub mod SmallLaws
pub mod SmallReach
pub mod Turn
