-- What an engine makes of bytes that arrive, as their row comes out. For proofs only.
use Rattle.std.proofs.Common.{◌≡◌, refl, sym, subst, ap, Bool, true, false, if◌then◌else◌, Option, None, Some, Result, Ok, Err, is_some, true≢false}
use Rattle.std.specs.Option.{option_map}
use Rattle.ca_base.specs.declared.denied_ask.DeniedAsk.{DeniedAsk}
use Rattle.ca_base.specs.Sight.{Invalidation, Sight, first_denied}
use Rattle.ca_base.specs.objects.QueuePair.{QueuePair}
use Rattle.ca_base.specs.objects.SharedReceives.{SharedReceives, after_receive_take}
use Rattle.ca_adapter_reach.specs.Changed.{after_end_of, after_write_by}
use Rattle.ca_adapter_reach.specs.declared.reached.Reached.{Reached}
use Rattle.ca_keys.specs.declared.memory.Memory.{Memory}
use Rattle.ca_adapter_parts.proofs.of_ca_law_world.Sound.TakenLemmas.{response-takes}
use Rattle.ca_adapter_parts.proofs.of_ca_law_world.Sound.WorldLemmas.{RowDoes}
use Rattle.ca_model.specs.Marks.{MarkList}
use Rattle.ca_model.specs.declared.mark.Drop1.{Drop1}
use Rattle.ca_model.specs.machine.Responses.{drop_effects, response_row}
use Rattle.ca_model.specs.machine.Row.{Does, Effects, Ending, NotPossible, Row, ending_of, plain_row}
use Rattle.ca_responder.specs.ca_responder_operations.Taking.{HasArrived, IsArrival, ended_by, outcome_in, unless_refused}
use Rattle.ca_wire.specs.Packet.{Fields}
use Rattle.ca_responder.specs.ca_qp_rows.Made.{HasEnded, IsMade, IsTaking}
use Rattle.ca_adapter_arrivals.proofs.RowLemmas.{ends-so, response-no-key}

-- a row that ends no key
none-ended : (s : Sight) (row : Row) → row.invalidation ≡ None → ended_by s row ≡ None
none-ended s row none = by (first_denied s row.asks)
  where
    ended : Option DeniedAsk → Option Invalidation
    ended (Some denied) = None
    ended None = unless_refused s row.invalidation

    by : (d : Option DeniedAsk) → ended d ≡ None
    by (Some denied) = refl
    by None = ap (unless_refused s) none

-- what is taken by a row that ends no key and takes no shared receive has arrived
taken-arrived : (result : Result (Unit {0}) Memory) (s : Sight) (row : Row) (before after : QueuePair) (ms made : MarkList) (r now : Reached) (shared : Option SharedReceives)
    → row.invalidation ≡ None → RowDoes (λ e. e.takes_shared ≡ false) row → IsTaking after_write_by result (ending_of s row) before after ms made r now
    → IsArrival after_write_by after_end_of result (outcome_in s row) before after ms made r now shared shared
taken-arrived (Err memory) s row before after ms made r now shared none takes taken = (taken.0, (taken.1, refl))
taken-arrived (Ok done) s row before after ms made r now shared none takes taken =
    by (ending_of s row) (ended_by s row) (none-ended s row none) (λ e is. ends-so (λ e. e.takes_shared ≡ false) s row e takes is) taken
  where
    kept : (e : Effects) (b : Bool) → b ≡ false → shared ≡ (if b then option_map after_receive_take shared else shared)
    kept e true is = absurd (true≢false is)
    kept e false is = refl

    by : (x : Ending) (o : Option Invalidation) → o ≡ None → ((e : Effects) → x ≡ Does e → e.takes_shared ≡ false)
        → HasEnded after_write_by x after ms made r now → HasArrived after_write_by after_end_of x o after ms made r now shared shared
    by (Does e) None is no-take taken = (taken.0, (taken.1, kept e e.takes_shared (no-take e refl)))
    by (Does e) (Some i) is no-take taken = absurd (true≢false (ap is_some is))
    by (NotPossible reason) o is no-take taken = taken

-- a response
pub response_arrived : (result : Result (Unit {0}) Memory) (s : Sight) (p : Fields) (row : Row) (before after : QueuePair) (ms made : MarkList) (r now : Reached) (shared : Option SharedReceives)
    → row ≡ response_row p before → IsTaking after_write_by result (ending_of s (response_row p before)) before after ms made r now
    → IsArrival after_write_by after_end_of result (outcome_in s row) before after ms made r now shared shared
response_arrived result s p row before after ms made r now shared is taken =
    subst (λ x. IsArrival after_write_by after_end_of result (outcome_in s x) before after ms made r now shared shared) (sym is)
    (taken-arrived result s (response_row p before) before after ms made r now shared (response-no-key p before) (response-takes p before) taken)

-- a drop before the row
pub drop_arrived : (result : Result (Unit {0}) Memory) (s : Sight) (cause : Drop1) (row : Row) (before after : QueuePair) (ms made : MarkList) (r : Reached) (shared : Option SharedReceives)
    → row ≡ plain_row (Does (drop_effects before cause)) → IsMade result (drop_effects before cause) before after ms made
    → IsArrival after_write_by after_end_of result (outcome_in s row) before after ms made r r shared shared
drop_arrived result s cause row before after ms made r shared is drops =
    subst (λ x. IsArrival after_write_by after_end_of result (outcome_in s x) before after ms made r r shared shared) (sym is) (by result drops)
  where
    by : (result : Result (Unit {0}) Memory) → IsMade result (drop_effects before cause) before after ms made
        → IsArrival after_write_by after_end_of result (outcome_in s (plain_row (Does (drop_effects before cause)))) before after ms made r r shared shared
    by (Ok done) drops = (drops, (refl, refl))
    by (Err memory) drops = (drops, (refl, refl))
