-- The spelling of refusals and of causes of drops, and the refusal of a verb for what a part answered. Contracts cite it.
use Rattle.std.specs.Prelude.{ℕ, List, ◌++◌, codes}
use Rattle.ca_base.specs.declared.change.ModifyRefusal.{ModifyRefusal}
use Rattle.ca_base.specs.declared.change.ModifyRefusal.TheVariants as changes
use Rattle.ca_base.specs.declared.refusals.RegionError.{RegionError}
use Rattle.ca_base.specs.declared.refusals.RegionError.TheVariants as regions
use Rattle.ca_base.specs.Spelling.{field_text}
use Rattle.ca_wire.specs.declared.wire_error.WireError.{WireError}
use Rattle.ca_wire.specs.declared.wire_error.WireError.TheVariants as wire
use Rattle.ca_model.specs.declared.answer.Refusal.{Refusal}
use Rattle.ca_model.specs.declared.answer.Refusal.TheVariants as refusals
use Rattle.ca_model.specs.declared.mark.Drop1.{Drop1}
use Rattle.ca_model.specs.declared.mark.Drop1.TheVariants as drops

-- why a verb is refused
abbrev pub refusal_text : Refusal → List ℕ
refusal_text refusals.NoSuch = codes "no-such"
refusal_text refusals.NoDomain = codes "no-domain"
refusal_text refusals.DomainTaken = codes "domain-taken"
refusal_text refusals.DomainInUse = codes "domain-in-use"
refusal_text refusals.SlotTaken = codes "slot-taken"
refusal_text refusals.Empty = codes "empty"
refusal_text refusals.OutsideBuffer = codes "outside-buffer"
refusal_text refusals.RightsNeedLocalWrite = codes "rights-need-local-write"
refusal_text refusals.WindowsBound = codes "windows-bound"
refusal_text refusals.CqTooSmall = codes "cq-too-small"
refusal_text refusals.CqInUse = codes "cq-in-use"
refusal_text refusals.SrqInUse = codes "srq-in-use"
refusal_text refusals.HasSrq = codes "has-srq"
refusal_text refusals.TooLong = codes "too-long"
refusal_text refusals.QueueState = codes "queue-state"
refusal_text refusals.QueueFull = codes "queue-full"
refusal_text refusals.Transition = codes "transition"
refusal_text (refusals.OutOfRange field) = codes "out-of-range:" ++ field_text field

-- why bytes are no packet
abbrev pub wire_error_text : WireError → List ℕ
wire_error_text wire.TooShort = codes "too-short"
wire_error_text wire.Version = codes "version"
wire_error_text wire.Opcode = codes "opcode"
wire_error_text wire.Length = codes "length"
wire_error_text wire.Pad = codes "pad"

-- why a packet was dropped
abbrev pub drop_text : Drop1 → List ℕ
drop_text (drops.Wire error) = codes "wire:" ++ wire_error_text error
drop_text drops.Partition = codes "partition"
drop_text drops.Queue = codes "queue"
drop_text drops.State = codes "state"
drop_text drops.Stale = codes "stale"
drop_text drops.Unsaved = codes "unsaved"

-- the refusal of ModifyQp for that of the queue pair
abbrev pub refusal_of_change : ModifyRefusal → Refusal
refusal_of_change changes.Transition = refusals.Transition
refusal_of_change (changes.OutOfRange field) = refusals.OutOfRange field
refusal_of_change changes.WindowsBound = refusals.WindowsBound

-- the refusal of a registration or a deregistration for that of the region
abbrev pub refusal_of_region : RegionError → Refusal
refusal_of_region regions.Empty = refusals.Empty
refusal_of_region regions.OutsideBuffer = refusals.OutsideBuffer
refusal_of_region regions.RightsNeedLocalWrite = refusals.RightsNeedLocalWrite
refusal_of_region regions.WindowsBound = refusals.WindowsBound
refusal_of_region regions.NotFree = refusals.NoSuch
refusal_of_region regions.BadPages = refusals.NoSuch
refusal_of_region regions.NotValid = refusals.NoSuch
refusal_of_region regions.KeyDiffers = refusals.NoSuch
refusal_of_region regions.NotFastRegistered = refusals.NoSuch
refusal_of_region regions.Vacant = refusals.NoSuch
