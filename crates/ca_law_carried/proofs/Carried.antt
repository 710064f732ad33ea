-- What stands behind what happens in histories that follow the machine.
pub mod FailingLemmas
pub mod AnsweredLemmas
pub mod AnsweredEventLemmas
pub mod SpeltLemmas
pub mod EndLemmas
pub mod RespondEndLemmas
pub mod NumberedLemmas
pub mod RequestEndLemmas
pub mod EndEventLemmas
