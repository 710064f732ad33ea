-- A history that follows the machine has all the relations. For proofs only.
use Rattle.std.proofs.Common.{List}
use Rattle.std.specs.List.{AllByRecursion}
use Rattle.ca_base.specs.Configuration.{Configuration}
use Rattle.ca_keys.specs.Memory.{ByteMap}
use Rattle.ca_law_carried.proofs.Carried.EndEventLemmas.{whole-along as carried-along}
use Rattle.ca_law_caused.proofs.Link.HistoryLemmas.{caused-along}
use Rattle.ca_law_caused.specs.Relations.{HasRelations}
use Rattle.ca_law_keys.proofs.Judged.JudgeEventLemmas.{judged-along}
use Rattle.ca_law_keys.proofs.Licensed.LicensedLemmas.{licensed-along}
use Rattle.ca_law_once.proofs.Once.WholeLemmas.{whole-along as once-along}
use Rattle.ca_law_once.proofs.Written.WrittenLemmas.{once-whole, written-whole}
use Rattle.ca_law_order.proofs.Ordered.OrderedLemmas.{ordered-along}
use Rattle.ca_model.specs.Entries.{EntryValue}
use Rattle.ca_model.specs.machine.Run.{Follows}
use Rattle.ca_model.specs.machine.Sound.{AreLimited, CanBeMade}

pub relations-along : (c : Configuration) (bytes : ByteMap) (es : List EntryValue) → AreLimited c → AllByRecursion (λ e. CanBeMade e.event) es → Follows c bytes es → HasRelations bytes es
relations-along c bytes es limited made follows = record {
  judged = judged-along c bytes es limited made follows;
  licensed = licensed-along c bytes es limited made follows;
  carried = carried-along c bytes es limited made follows;
  once = once-along c bytes es limited made follows;
  written = written-whole c bytes es limited made follows;
  written_once = once-whole c bytes es limited made follows;
  ordered = ordered-along c bytes es limited made follows;
  caused = caused-along c bytes es limited made follows;
}
