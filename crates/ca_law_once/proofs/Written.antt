-- Every history that follows the machine is Written: the packets of a posted WRITE of a clean connection write in
-- order, each at most once, and all of them before the WRITE completes with success.
pub mod MarkLemmas
pub mod WroteTolds
pub mod DoneLemmas
pub mod ShortLemmas
pub mod CountLemmas
pub mod WrittenLemmas
