-- A name that is spelled is read as what it stands for, and no word that fits has a space.
use Rattle.std.proofs.Common.{◌≡◌, Bool, true, false, ◌++◌, Option, Some, None, decimal, refl, arith}
use Rattle.std.specs.Prelude.{codes}
use Rattle.std.specs.Str.{bytes_eq}
use Rattle.ca_keys.specs.declared.access.Denial.{Denial}
use Rattle.ca_keys.specs.declared.access.Denial.TheVariants as denials
use Rattle.ca_keys.specs.declared.access.Kind.{Kind}
use Rattle.ca_keys.specs.declared.access.Kind.TheVariants as kinds
use Rattle.ca_base.specs.declared.change.Field.{Field as ChangeField}
use Rattle.ca_base.specs.declared.change.Field.TheVariants as fields
use Rattle.ca_base.specs.declared.change.State.{State}
use Rattle.ca_base.specs.declared.change.State.TheVariants as states
use Rattle.ca_base.specs.declared.completion.WcOp.{WcOp}
use Rattle.ca_base.specs.declared.completion.WcOp.TheVariants as operations
use Rattle.ca_base.specs.declared.completion.WcStatus.{WcStatus}
use Rattle.ca_base.specs.declared.completion.WcStatus.TheVariants as statuses
use Rattle.ca_base.specs.declared.lot.Lot.{Lot}
use Rattle.ca_base.specs.declared.lot.Lot.TheVariants as lots
use Rattle.ca_base.specs.declared.refusals.OpRefusal.{OpRefusal}
use Rattle.ca_base.specs.declared.refusals.OpRefusal.TheVariants as causes
use Rattle.ca_base.specs.declared.refusals.RegionError.{RegionError}
use Rattle.ca_base.specs.declared.refusals.RegionError.TheVariants as regions
use Rattle.ca_base.specs.declared.refusals.WindowError.{WindowError}
use Rattle.ca_base.specs.declared.refusals.WindowError.TheVariants as windows
use Rattle.ca_keys.specs.Spelling.{dash, perhaps, run_text, kind_text, denial_text}
use Rattle.ca_base.specs.Spelling.{piece_text, lot_text, state_text, field_text, operation_text, status_text, op_refusal_text}
use Rattle.ca_wire.specs.declared.wire_error.WireError.TheVariants as wire
use Rattle.ca_trace_print.specs.ca_model.declared.answer.Refusal.{Refusal}
use Rattle.ca_trace_print.specs.ca_model.declared.answer.Refusal.TheVariants as refusals
use Rattle.ca_trace_print.specs.ca_model.declared.mark.Drop1.{Drop1}
use Rattle.ca_trace_print.specs.ca_model.declared.mark.Drop1.TheVariants as drops
use Rattle.ca_trace_print.specs.ca_model.Answers.{refusal_text, drop_text}
use Rattle.ca_trace_print.specs.Words.{Field, Fixed, Number, Lettered, Perhaps, InAdapter, OfDomain, OfSlot, OfQueue, OfQueues, OfKey, PerhapsKey, Address, Hex, OfRights, OfFlags, OfPieces, OfPages, OfRuns, OfObject, OfSide, OfAlarm, OfKind, OfDenial, OfRefusal, OfLot, OfState, OfOperation, OfStatus, OfCause, OfDrop, word, object_text, side_text, alarm_text}
use Rattle.ca_trace_lex.specs.Fits.{plain, LotFits, Fits}
use Rattle.ca_trace_lex.specs.Words.{field, number_in, perhaps_in, piece_in, run_in}
use Rattle.ca_trace_lex.specs.Names.{find_named, object_in, side_in, alarm_in, all_kinds, kind_in, all_denials, denial_in, lot_in, all_states, state_in, all_operations, operation_in, all_statuses, status_in, all_causes, cause_in, all_refusals, refusal_in, all_drops, drop_in}
use Rattle.ca_trace_lex.proofs.PieceLemmas.{one_piece}
use Rattle.ca_trace_lex.proofs.NumberLemmas.{number_again, number_plain, number_lacks}
use Rattle.ca_trace_lex.proofs.WordLemmas.{most_small, perhaps_again, flags_again, address_plain, all_then, hex_plain, in_adapter_plain, key_plain, list_plain, page_listed, perhaps_key_plain, piece_listed, queues_plain, rights_plain, run_listed, slot_plain}

object_are : (x : Bool) → (object_in (object_text x) ≡ Some x) × (plain (object_text x) ≡ true)
unfolding object_in find_named
object_are true = (refl, refl)
object_are false = (refl, refl)

pub object_again : (x : Bool) → object_in (object_text x) ≡ Some x
object_again x = (object_are x).0

side_are : (x : Bool) → (side_in (side_text x) ≡ Some x) × (plain (side_text x) ≡ true)
unfolding side_in find_named
side_are true = (refl, refl)
side_are false = (refl, refl)

pub side_again : (x : Bool) → side_in (side_text x) ≡ Some x
side_again x = (side_are x).0

alarm_are : (x : Bool) → (alarm_in (alarm_text x) ≡ Some x) × (plain (alarm_text x) ≡ true)
unfolding alarm_in find_named
alarm_are true = (refl, refl)
alarm_are false = (refl, refl)

pub alarm_again : (x : Bool) → alarm_in (alarm_text x) ≡ Some x
alarm_again x = (alarm_are x).0

kind_are : (x : Kind) → (kind_in (kind_text x) ≡ Some x) × (plain (kind_text x) ≡ true)
unfolding find_named all_kinds
kind_are kinds.Read = (refl, refl)
kind_are kinds.Write = (refl, refl)
kind_are kinds.CmpSwap = (refl, refl)
kind_are kinds.FetchAdd = (refl, refl)

pub kind_again : (x : Kind) → kind_in (kind_text x) ≡ Some x
kind_again x = (kind_are x).0

denial_are : (x : Denial) → (denial_in (denial_text x) ≡ Some x) × (plain (denial_text x) ≡ true)
unfolding find_named all_denials
denial_are denials.NoGrant = (refl, refl)
denial_are denials.WrongQueue = (refl, refl)
denial_are denials.NoRight = (refl, refl)
denial_are denials.OutOfRange = (refl, refl)

pub denial_again : (x : Denial) → denial_in (denial_text x) ≡ Some x
denial_again x = (denial_are x).0

state_are : (x : State) → (state_in (state_text x) ≡ Some x) × (plain (state_text x) ≡ true)
unfolding find_named all_states
state_are states.Reset = (refl, refl)
state_are states.Init = (refl, refl)
state_are states.Rtr = (refl, refl)
state_are states.Rts = (refl, refl)
state_are states.Sqd = (refl, refl)
state_are states.Error = (refl, refl)

pub state_again : (x : State) → state_in (state_text x) ≡ Some x
state_again x = (state_are x).0

operation_are : (x : WcOp) → (operation_in (operation_text x) ≡ Some x) × (plain (operation_text x) ≡ true)
unfolding find_named all_operations
operation_are operations.Send = (refl, refl)
operation_are operations.Write = (refl, refl)
operation_are operations.Read = (refl, refl)
operation_are operations.CmpSwap = (refl, refl)
operation_are operations.FetchAdd = (refl, refl)
operation_are operations.Bind = (refl, refl)
operation_are operations.FastReg = (refl, refl)
operation_are operations.LocalInv = (refl, refl)
operation_are operations.Recv = (refl, refl)
operation_are operations.RecvImm = (refl, refl)

pub operation_again : (x : WcOp) → operation_in (operation_text x) ≡ Some x
operation_again x = (operation_are x).0

status_are : (x : WcStatus) → (status_in (status_text x) ≡ Some x) × (plain (status_text x) ≡ true)
unfolding find_named all_statuses
status_are statuses.Success = (refl, refl)
status_are statuses.LocalLength = (refl, refl)
status_are statuses.LocalProtection = (refl, refl)
status_are statuses.Flushed = (refl, refl)
status_are statuses.MemoryManagement = (refl, refl)
status_are statuses.BadResponse = (refl, refl)
status_are statuses.RemoteInvalidRequest = (refl, refl)
status_are statuses.RemoteAccess = (refl, refl)
status_are statuses.RemoteOperation = (refl, refl)
status_are statuses.RetryExceeded = (refl, refl)
status_are statuses.RnrRetryExceeded = (refl, refl)

pub status_again : (x : WcStatus) → status_in (status_text x) ≡ Some x
status_again x = (status_are x).0

lot_again_of : (l : Lot) → LotFits l → (lot_in (lot_text l) ≡ Some l) × (plain (lot_text l) ≡ true)
unfolding lot_in
lot_again_of lots.Pass h = (refl, refl)
lot_again_of lots.Lose h = (refl, refl)
lot_again_of (lots.Repeat n) h = (rw (one_piece 58 (decimal n) (number_lacks 58 n (omega arith) (omega arith)), number_again 255 n h (omega arith)) refl, number_plain n (omega arith))
lot_again_of (lots.Hold n) h = (rw (one_piece 58 (decimal n) (number_lacks 58 n (omega arith) (omega arith)), number_again 255 n h (omega arith)) refl, number_plain n (omega arith))

pub lot_again : (l : Lot) → LotFits l → lot_in (lot_text l) ≡ Some l
lot_again l h = (lot_again_of l h).0

out_of_range_are : (x : ChangeField) → (refusal_in (codes "out-of-range:" ++ field_text x) ≡ Some (refusals.OutOfRange x)) × (plain (codes "out-of-range:" ++ field_text x) ≡ true)
unfolding find_named all_refusals
out_of_range_are fields.Peer = (refl, refl)
out_of_range_are fields.Incarnation = (refl, refl)
out_of_range_are fields.Psn = (refl, refl)
out_of_range_are fields.Mtu = (refl, refl)
out_of_range_are fields.RnrCode = (refl, refl)
out_of_range_are fields.Retry = (refl, refl)
out_of_range_are fields.RnrRetry = (refl, refl)
out_of_range_are fields.Reads = (refl, refl)
out_of_range_are fields.Depth = (refl, refl)
out_of_range_are fields.Capacity = (refl, refl)
out_of_range_are fields.Pages = (refl, refl)
out_of_range_are fields.Length = (refl, refl)
out_of_range_are fields.List = (refl, refl)
out_of_range_are fields.Kind = (refl, refl)

refusal_are : (x : Refusal) → (refusal_in (refusal_text x) ≡ Some x) × (plain (refusal_text x) ≡ true)
unfolding find_named all_refusals
refusal_are refusals.NoSuch = (refl, refl)
refusal_are refusals.NoDomain = (refl, refl)
refusal_are refusals.DomainTaken = (refl, refl)
refusal_are refusals.DomainInUse = (refl, refl)
refusal_are refusals.SlotTaken = (refl, refl)
refusal_are refusals.Empty = (refl, refl)
refusal_are refusals.OutsideBuffer = (refl, refl)
refusal_are refusals.RightsNeedLocalWrite = (refl, refl)
refusal_are refusals.WindowsBound = (refl, refl)
refusal_are refusals.CqTooSmall = (refl, refl)
refusal_are refusals.CqInUse = (refl, refl)
refusal_are refusals.SrqInUse = (refl, refl)
refusal_are refusals.HasSrq = (refl, refl)
refusal_are refusals.TooLong = (refl, refl)
refusal_are refusals.QueueState = (refl, refl)
refusal_are refusals.QueueFull = (refl, refl)
refusal_are refusals.Transition = (refl, refl)
refusal_are (refusals.OutOfRange field) = out_of_range_are field

pub refusal_again : (x : Refusal) → refusal_in (refusal_text x) ≡ Some x
refusal_again x = (refusal_are x).0

drop_are : (x : Drop1) → (drop_in (drop_text x) ≡ Some x) × (plain (drop_text x) ≡ true)
unfolding find_named all_drops
drop_are (drops.Wire wire.TooShort) = (refl, refl)
drop_are (drops.Wire wire.Version) = (refl, refl)
drop_are (drops.Wire wire.Opcode) = (refl, refl)
drop_are (drops.Wire wire.Length) = (refl, refl)
drop_are (drops.Wire wire.Pad) = (refl, refl)
drop_are drops.Partition = (refl, refl)
drop_are drops.Queue = (refl, refl)
drop_are drops.State = (refl, refl)
drop_are drops.Stale = (refl, refl)
drop_are drops.Unsaved = (refl, refl)

pub drop_again : (x : Drop1) → drop_in (drop_text x) ≡ Some x
drop_again x = (drop_are x).0

region_cause_are : (x : RegionError) → (cause_in (op_refusal_text (causes.Region x)) ≡ Some (causes.Region x)) × (plain (op_refusal_text (causes.Region x)) ≡ true) × (bytes_eq (op_refusal_text (causes.Region x)) dash ≡ false)
unfolding find_named all_causes
region_cause_are regions.Empty = (refl, refl, refl)
region_cause_are regions.OutsideBuffer = (refl, refl, refl)
region_cause_are regions.RightsNeedLocalWrite = (refl, refl, refl)
region_cause_are regions.NotFree = (refl, refl, refl)
region_cause_are regions.BadPages = (refl, refl, refl)
region_cause_are regions.NotValid = (refl, refl, refl)
region_cause_are regions.KeyDiffers = (refl, refl, refl)
region_cause_are regions.NotFastRegistered = (refl, refl, refl)
region_cause_are regions.WindowsBound = (refl, refl, refl)
region_cause_are regions.Vacant = (refl, refl, refl)

window_cause_are : (x : WindowError) → (cause_in (op_refusal_text (causes.Window x)) ≡ Some (causes.Window x)) × (plain (op_refusal_text (causes.Window x)) ≡ true) × (bytes_eq (op_refusal_text (causes.Window x)) dash ≡ false)
unfolding find_named all_causes
window_cause_are windows.NoWindow = (refl, refl, refl)
window_cause_are windows.WrongType = (refl, refl, refl)
window_cause_are windows.RegionNotValid = (refl, refl, refl)
window_cause_are windows.NoBindRight = (refl, refl, refl)
window_cause_are windows.RightsNeedLocalWrite = (refl, refl, refl)
window_cause_are windows.OutsideRegion = (refl, refl, refl)
window_cause_are windows.StillBound = (refl, refl, refl)
window_cause_are windows.Empty = (refl, refl, refl)
window_cause_are windows.Type1 = (refl, refl, refl)
window_cause_are windows.NotBound = (refl, refl, refl)
window_cause_are windows.KeyDiffers = (refl, refl, refl)
window_cause_are windows.WrongQueue = (refl, refl, refl)

cause_are : (x : OpRefusal) → (cause_in (op_refusal_text x) ≡ Some x) × (plain (op_refusal_text x) ≡ true) × (bytes_eq (op_refusal_text x) dash ≡ false)
cause_are (causes.Region x) = region_cause_are x
cause_are (causes.Window x) = window_cause_are x

pub perhaps_cause_again : (x : Option OpRefusal) → perhaps_in cause_in (perhaps op_refusal_text x) ≡ Some x
perhaps_cause_again None = refl
perhaps_cause_again (Some x) = perhaps_again cause_in op_refusal_text (Some x) ((cause_are x).0, (cause_are x).2)

perhaps_cause_plain : (x : Option OpRefusal) → plain (perhaps op_refusal_text x) ≡ true
perhaps_cause_plain None = refl
perhaps_cause_plain (Some x) = (cause_are x).1

-- a word that fits has no space and no line feed
pub field_plain : (f : Field) → Fits f → plain (word f) ≡ true
field_plain (Fixed text) h = h
field_plain (Number width n) h = number_plain n (omega (arith, most_small width, h))
field_plain (Lettered c width n) h = rw (h.0) (number_plain n (omega (arith, most_small width, h.1)))
field_plain (Perhaps width None) h = refl
field_plain (Perhaps width (Some n)) h = number_plain n (omega (arith, most_small width, h))
field_plain (InAdapter adapter width n) h = in_adapter_plain adapter n h.0 (omega (arith, most_small width, h.1))
field_plain (OfDomain d) h = in_adapter_plain d.adapter d.domain h.0 (omega (arith, h.1))
field_plain (OfSlot s) h = slot_plain s h
field_plain (OfQueue q) h = in_adapter_plain q.adapter q.number h.0 (omega (arith, h.1))
field_plain (OfQueues q) h = queues_plain q h
field_plain (OfKey k) h = key_plain k
field_plain (PerhapsKey k) h = perhaps_key_plain k h
field_plain (Address at) h = address_plain at h
field_plain (Hex bytes) h = hex_plain bytes h
field_plain (OfRights r) h = rights_plain r
field_plain (OfFlags a b c) h = (flags_again a b c).3
field_plain (OfPieces list) h = list_plain piece_in piece_text list (all_then piece_listed list h.1)
field_plain (OfPages pages) h = list_plain (number_in 65535) decimal pages (all_then page_listed pages h)
field_plain (OfRuns runs) h = list_plain run_in run_text runs (all_then run_listed runs h)
field_plain (OfObject x) h = (object_are x).1
field_plain (OfSide x) h = (side_are x).1
field_plain (OfAlarm x) h = (alarm_are x).1
field_plain (OfKind x) h = (kind_are x).1
field_plain (OfDenial x) h = (denial_are x).1
field_plain (OfRefusal x) h = (refusal_are x).1
field_plain (OfLot x) h = (lot_again_of x h).1
field_plain (OfState x) h = (state_are x).1
field_plain (OfOperation x) h = (operation_are x).1
field_plain (OfStatus x) h = (status_are x).1
field_plain (OfCause x) h = perhaps_cause_plain x
field_plain (OfDrop x) h = (drop_are x).1
