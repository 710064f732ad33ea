-- What histories that follow the machine tell of how keys came into force: the past that their marks leave agrees with
-- the world.
pub mod WayLemmas
pub mod WayMade
pub mod WayLaws
