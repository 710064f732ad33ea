-- Steps: what every row's effects are, joined. For proofs only.
use Rattle.std.proofs.Common.{◌≡◌, false, Option}
use Rattle.ca_law_endings.proofs.InnerLemmas.{IsInner}
use Rattle.ca_law_order.proofs.Polls.FlushedLemmas.{Ends}
use Rattle.ca_law_order.specs.Polls.{IsFlushedInError}
use Rattle.ca_base.specs.objects.QueuePair.{QueuePair}
use Rattle.ca_base.specs.objects.SharedReceives.{SharedReceives}
use Rattle.ca_law_world.proofs.Sound.GoodLemmas.{IsGood}
use Rattle.ca_law_world.proofs.Sound.TakenLemmas.{none-takes}
use Rattle.ca_law_world.proofs.Sound.WorldLemmas.{EndingDoes, RowDoes}
use Rattle.ca_model.specs.machine.Places.{TakesInOrder}
use Rattle.ca_model.specs.machine.Row.{Does, Effects, Ending, NotPossible, Row}

-- Effects of a queue pair that can come up, with own marks: what completes stands in order, also what they take of this
-- shared receive queue; and in Error all is flushed, where it was.
pub record IsStep (shared : Option SharedReceives) (q : QueuePair) (e : Effects) : Type 0 where
  pub good : IsGood q e
  pub inner : IsInner q e
  pub takes : TakesInOrder shared q e
  pub flushed : IsFlushedInError q → IsFlushedInError e.queue

step-ending : (shared : Option SharedReceives) (q : QueuePair) (e : Ending) → EndingDoes (IsGood q) e → EndingDoes (IsInner q) e → EndingDoes (TakesInOrder shared q) e
    → (IsFlushedInError q → EndingDoes Ends e) → EndingDoes (IsStep shared q) e
step-ending shared q (NotPossible reason) good inner takes flushed = record {}
step-ending shared q (Does e) good inner takes flushed = record { good = good; inner = inner; takes = takes; flushed = λ is. (flushed is).flushed }

pub step-row : (shared : Option SharedReceives) (q : QueuePair) (row : Row) → RowDoes (IsGood q) row → RowDoes (IsInner q) row → RowDoes (TakesInOrder shared q) row
    → (IsFlushedInError q → RowDoes Ends row) → RowDoes (IsStep shared q) row
step-row shared q row good inner takes flushed = record {
  denied = λ d. step-ending shared q (row.denied d) (good.denied d) (inner.denied d) (takes.denied d) (λ is. (flushed is).denied d);
  allowed = λ bytes refusal. step-ending shared q (row.allowed bytes refusal) (good.allowed bytes refusal) (inner.allowed bytes refusal) (takes.allowed bytes refusal)
      (λ is. (flushed is).allowed bytes refusal);
}

-- effects that take nothing of a shared receive queue take it in order
pub takes-none : (shared : Option SharedReceives) (q : QueuePair) (row : Row) → RowDoes (λ e. e.takes_shared ≡ false) row → RowDoes (TakesInOrder shared q) row
takes-none shared q row none = record {
  denied = λ d. by (row.denied d) (none.denied d);
  allowed = λ bytes refusal. by (row.allowed bytes refusal) (none.allowed bytes refusal);
}
  where
    by : (e : Ending) → EndingDoes (λ e. e.takes_shared ≡ false) e → EndingDoes (TakesInOrder shared q) e
    by (NotPossible reason) done = record {}
    by (Does e) done = none-takes shared q e done
