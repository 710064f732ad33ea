-- The configuration of a fabric, as lists and whole numbers, and how many parts it has. Contracts cite it.
use Rattle.std.specs.Prelude.{ℕ, ◌+◌, ◌*◌, List, length, map, take, sum_by}
use Rattle.ca_base.specs.declared.config.AdapterConfig.{AdapterConfig}
use Rattle.ca_base.specs.declared.config.Config.{Config}
use Rattle.ca_base.specs.declared.settings.AdapterSettings.{AdapterSettings}
use Rattle.ca_base.specs.declared.settings.Settings.{Settings}

-- an adapter: the bytes of each buffer, its domains, and the slots of each kind in a domain
pub record Adapter : Type 0 where
  pub buffers : List ℕ
  pub domains : ℕ
  pub regions : ℕ
  pub windows : ℕ
  pub cqs : ℕ
  pub srqs : ℕ
  pub qps : ℕ

-- the adapters, and how many events they may make
pub record Configuration : Type 0 where
  pub adapters : List Adapter
  pub events : ℕ

abbrev pub adapter_of : AdapterConfig → Adapter
adapter_of a = record {
  buffers = a.buffers.items;
  domains = a.domains;
  regions = a.regions;
  windows = a.windows;
  cqs = a.cqs;
  srqs = a.srqs;
  qps = a.qps;
}

-- what a configuration says
abbrev pub configuration_of : Config → Configuration
configuration_of c = record { adapters = map adapter_of c.adapters.items; events = c.events }

abbrev pub adapter_in : AdapterSettings → Adapter
adapter_in a = record {
  buffers = take a.buffer_count a.buffers;
  domains = a.domains;
  regions = a.regions;
  windows = a.windows;
  cqs = a.cqs;
  srqs = a.srqs;
  qps = a.qps;
}

-- what its copy in plain numbers says
abbrev pub configuration_in : Settings → Configuration
configuration_in s = record { adapters = map adapter_in (take s.adapter_count s.adapters); events = s.events }

-- in each domain the control part, one part for each region, window, completion queue and shared receive queue and two
-- for each queue pair (its own and its mailbox); and one for each buffer
abbrev pub parts_of_adapter : Adapter → ℕ
parts_of_adapter a = a.domains * (1 + a.regions + a.windows + a.cqs + a.srqs + 2 * a.qps) + length a.buffers

-- the parts of a fabric
abbrev pub part_count : Configuration → ℕ
part_count c = sum_by parts_of_adapter c.adapters
