-- All that the relations on histories say of one. Contracts cite it.
use Rattle.std.specs.Prelude.{List}
use Rattle.ca_keys.specs.Memory.{ByteMap}
use Rattle.ca_law_once.specs.Written.{Written, WrittenOnce}
use Rattle.ca_model.specs.Carried.{Carried}
use Rattle.ca_model.specs.Caused.{Caused}
use Rattle.ca_model.specs.Entries.{EntryValue}
use Rattle.ca_model.specs.Judged.{Judged}
use Rattle.ca_model.specs.Licensed.{Licensed}
use Rattle.ca_model.specs.Once.{Once}
use Rattle.ca_model.specs.Ordered.{Ordered}

-- Over the bytes that memory opened with each access of a history is judged by the grants before it, each grant is licensed,
-- what is carried has its cause, each atomic of a clean connection acts once, each packet of a WRITE of a clean connection
-- writes once and in order, all of them before the WRITE completes with success, what completes and what is polled is in
-- order, and each completion that is no success has its cause.
pub record HasRelations (bytes : ByteMap) (es : List EntryValue) : Type 0 where
  pub judged : Judged bytes es
  pub licensed : Licensed bytes es
  pub carried : Carried bytes es
  pub once : Once bytes es
  pub written : Written bytes es
  pub written_once : WrittenOnce bytes es
  pub ordered : Ordered bytes es
  pub caused : Caused bytes es
