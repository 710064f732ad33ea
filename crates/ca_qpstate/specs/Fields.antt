-- Why a change of a queue pair is refused, by the settings of the program. Contracts cite it.
use Rattle.std.specs.Prelude.{Option}
use Rattle.ca_base.specs.declared.change.Change.{Change}
use Rattle.ca_base.specs.declared.change.ModifyRefusal.{ModifyRefusal}
use Rattle.ca_base.specs.declared.settings.Settings.{Settings}
use Rattle.ca_base.specs.ca_keys.declared.names.QueueId.{QueueId}
use Rattle.ca_base.specs.Configuration.{configuration_in}
use Rattle.ca_base.specs.ca_keys.Refusals.{first_of}
use Rattle.ca_base.specs.objects.QueuePair.{QueuePair}
use Rattle.ca_base.specs.objects.StateTable.{field_refusals, modify_refusals}

-- the first field that is out of its range
abbrev pub refusal_of_fields : Settings → QueueId → Change → Option ModifyRefusal
refusal_of_fields s queue change = first_of (field_refusals (configuration_in s) queue change)

-- the first reason for which a change is refused
abbrev pub refusal_of_change : Settings → Change → QueuePair → Option ModifyRefusal
refusal_of_change s change q = first_of (modify_refusals (configuration_in s) q change)
