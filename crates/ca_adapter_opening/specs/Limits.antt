-- Which numbers of a configuration are within their limits. Contracts cite it.
use Rattle.std.specs.Prelude.{◌≤◌, length}
use Rattle.std.specs.List.{AllByRecursion, sum_by}
use Rattle.ca_base.specs.Configuration.{Configuration}
use Rattle.ca_base.specs.declared.limits.TheConstants.{MAX_ADAPTERS, MAX_EVENTS, MAX_TOTAL_BYTES}
use Rattle.ca_model.specs.machine.Sound.{IsLimitedAdapter}

-- each number of a configuration is within its limits; of the number of parts nothing is said
pub record IsWithin (c : Configuration) : Type 0 where
  pub least_count : 1 ≤ length c.adapters
  pub count : length c.adapters ≤ MAX_ADAPTERS
  pub adapters : AllByRecursion IsLimitedAdapter c.adapters
  pub bytes : sum_by (λ a. sum_by (λ bytes. bytes) a.buffers) c.adapters ≤ MAX_TOTAL_BYTES
  pub least_events : 1 ≤ c.events
  pub events : c.events ≤ MAX_EVENTS
