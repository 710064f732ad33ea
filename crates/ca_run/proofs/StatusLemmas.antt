-- What statuses are not. For proofs only.
use Rattle.std.proofs.Common.{◌≡◌, true, false, Some, refl, sym, subst, true≢false}
use Rattle.ca_script_order.specs.OfScript as machine
use Rattle.ca_run.specs.Status.{ended_as, ends_reading, is_whole, status_of_end, status_of_write}
use Rattle.ca_run.specs.declared.status.Status.{Status}
use Rattle.ca_run.specs.declared.status.Status.TheVariants as statuses
use Rattle.ca_trace_output.specs.declared.stop.WriteStop.{WriteStop}
use Rattle.ca_trace_output.specs.declared.stop.WriteStop.TheVariants as stops

-- one that ends the reading of a script is not one after which all was written
pub not-whole : (s : Status) → ends_reading s ≡ true → is_whole s ≡ true → ⊥
not-whole statuses.Fine ends whole = true≢false (sym ends)
not-whole (statuses.Script line cause) ends whole = true≢false (sym whole)
not-whole statuses.Usage ends whole = true≢false (sym ends)
not-whole statuses.ReadFault ends whole = true≢false (sym whole)
not-whole statuses.WriteFault ends whole = true≢false (sym ends)
not-whole (statuses.Stalled consumer line) ends whole = true≢false (sym ends)
not-whole (statuses.BudgetSpent count) ends whole = true≢false (sym ends)
not-whole statuses.Memory ends whole = true≢false (sym whole)
not-whole (statuses.NotClosed queue) ends whole = true≢false (sym ends)

-- nor a fault of the sink
pub not-written : (s : Status) → ends_reading s ≡ true → s ≡ statuses.WriteFault → ⊥
not-written s ends is = let wrong : false ≡ true = subst (λ x. ends_reading x ≡ true) is ends in true≢false (sym wrong)

-- nor are the words to blame
pub not-usage : (s : Status) → ends_reading s ≡ true → s ≡ statuses.Usage → ⊥
not-usage s ends is = let wrong : false ≡ true = subst (λ x. ends_reading x ≡ true) is ends in true≢false (sym wrong)

-- a text that was not all written has no status after which it was
pub stop-not-whole : (s : WriteStop) → is_whole (status_of_write s) ≡ true → ⊥
stop-not-whole stops.Failed whole = true≢false (sym whole)
stop-not-whole stops.Memory whole = true≢false (sym whole)

-- the status of an end tells this end
pub ended-told : (ended : machine.Status) → ended_as (status_of_end ended) ≡ Some ended
ended-told machine.Fine = refl
ended-told (machine.Stalled consumer line) = refl
ended-told (machine.BudgetSpent count) = refl
