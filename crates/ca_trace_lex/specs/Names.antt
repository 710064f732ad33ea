-- Names: the value that a name is read as, which is that of which it is the text. Contracts cite it.
use Rattle.std.specs.Prelude.{ℕ, Bool, true, false, if◌then◌else◌, List, [], ◌∷◌, Option, Some, None, codes}
use Rattle.std.specs.List.{find}
use Rattle.std.specs.Str.{bytes_eq}
use Rattle.ca_keys.specs.declared.access.Denial.{Denial}
use Rattle.ca_keys.specs.declared.access.Denial.TheVariants as denials
use Rattle.ca_keys.specs.declared.access.Kind.{Kind}
use Rattle.ca_keys.specs.declared.access.Kind.TheVariants as kinds
use Rattle.ca_base.specs.declared.change.Field.TheVariants as fields
use Rattle.ca_base.specs.declared.change.State.{State}
use Rattle.ca_base.specs.declared.change.State.TheVariants as states
use Rattle.ca_base.specs.declared.completion.WcOp.{WcOp}
use Rattle.ca_base.specs.declared.completion.WcOp.TheVariants as operations
use Rattle.ca_base.specs.declared.completion.WcStatus.{WcStatus}
use Rattle.ca_base.specs.declared.completion.WcStatus.TheVariants as statuses
use Rattle.ca_base.specs.declared.lot.Lot.{Lot}
use Rattle.ca_base.specs.declared.lot.Lot.TheVariants as lots
use Rattle.ca_base.specs.declared.refusals.OpRefusal.{OpRefusal}
use Rattle.ca_base.specs.declared.refusals.OpRefusal.TheVariants as causes
use Rattle.ca_base.specs.declared.refusals.RegionError.TheVariants as regions
use Rattle.ca_base.specs.declared.refusals.WindowError.TheVariants as windows
use Rattle.ca_wire.specs.declared.wire_error.WireError.TheVariants as wire
use Rattle.ca_trace_print.specs.ca_model.declared.answer.Refusal.{Refusal}
use Rattle.ca_trace_print.specs.ca_model.declared.answer.Refusal.TheVariants as refusals
use Rattle.ca_trace_print.specs.ca_model.declared.mark.Drop1.{Drop1}
use Rattle.ca_trace_print.specs.ca_model.declared.mark.Drop1.TheVariants as drops
use Rattle.ca_keys.specs.Spelling.{kind_text, denial_text}
use Rattle.ca_base.specs.Spelling.{state_text, operation_text, status_text, op_refusal_text}
use Rattle.ca_trace_print.specs.ca_model.Answers.{refusal_text, drop_text}
use Rattle.ca_trace_print.specs.Words.{object_text, side_text, alarm_text}
use Rattle.ca_trace_lex.specs.Words.{◌>>=◌, pieces, next_of, field, number_in, colon, max_u8}

-- the first of these values whose text a word is
unfoldable pub find_named : {X : Type 0} → (X → List ℕ) → List X → List ℕ → Option X
find_named text all w = find (λ x. bytes_eq w (text x)) all

-- which of two texts a word is: the first, or the second
abbrev pub choice_in : List ℕ → List ℕ → List ℕ → Option Bool
choice_in first second w = if bytes_eq w first then Some true else if bytes_eq w second then Some false else None

-- a region, or a window
unfoldable pub object_in : List ℕ → Option Bool
object_in w = find_named object_text (true ∷ false ∷ []) w

-- the receive side, or the send side
unfoldable pub side_in : List ℕ → Option Bool
side_in w = find_named side_text (true ∷ false ∷ []) w

-- a timer that was silent, or one that was hastened
unfoldable pub alarm_in : List ℕ → Option Bool
alarm_in w = find_named alarm_text (true ∷ false ∷ []) w

-- what an access does
unfoldable pub all_kinds : List Kind
all_kinds =
    kinds.Read ∷ kinds.Write ∷ kinds.CmpSwap ∷ kinds.FetchAdd ∷ []

abbrev pub kind_in : List ℕ → Option Kind
kind_in w = find_named kind_text all_kinds w

-- the part of the key check that failed
unfoldable pub all_denials : List Denial
all_denials =
    denials.NoGrant ∷ denials.WrongQueue ∷ denials.NoRight ∷ denials.OutOfRange ∷ []

abbrev pub denial_in : List ℕ → Option Denial
denial_in w = find_named denial_text all_denials w

-- the state of a queue pair
unfoldable pub all_states : List State
all_states =
    states.Reset ∷ states.Init ∷ states.Rtr ∷ states.Rts ∷ states.Sqd ∷ states.Error ∷ []

abbrev pub state_in : List ℕ → Option State
state_in w = find_named state_text all_states w

-- what the request of a completion asked for
unfoldable pub all_operations : List WcOp
all_operations =
    operations.Send ∷ operations.Write ∷ operations.Read ∷ operations.CmpSwap ∷ operations.FetchAdd ∷
    operations.Bind ∷ operations.FastReg ∷ operations.LocalInv ∷ operations.Recv ∷ operations.RecvImm ∷ []

abbrev pub operation_in : List ℕ → Option WcOp
operation_in w = find_named operation_text all_operations w

-- how a request ended
unfoldable pub all_statuses : List WcStatus
all_statuses =
    statuses.Success ∷ statuses.LocalLength ∷ statuses.LocalProtection ∷ statuses.Flushed ∷
    statuses.MemoryManagement ∷ statuses.BadResponse ∷ statuses.RemoteInvalidRequest ∷ statuses.RemoteAccess ∷
    statuses.RemoteOperation ∷ statuses.RetryExceeded ∷ statuses.RnrRetryExceeded ∷ []

abbrev pub status_in : List ℕ → Option WcStatus
status_in w = find_named status_text all_statuses w

-- why a bind, a fast registration or an invalidation is refused
unfoldable pub all_causes : List OpRefusal
all_causes =
    (causes.Region regions.Empty) ∷ (causes.Region regions.OutsideBuffer) ∷
    (causes.Region regions.RightsNeedLocalWrite) ∷ (causes.Region regions.NotFree) ∷
    (causes.Region regions.BadPages) ∷ (causes.Region regions.NotValid) ∷ (causes.Region regions.KeyDiffers) ∷
    (causes.Region regions.NotFastRegistered) ∷ (causes.Region regions.WindowsBound) ∷
    (causes.Region regions.Vacant) ∷ (causes.Window windows.NoWindow) ∷
    (causes.Window windows.WrongType) ∷ (causes.Window windows.RegionNotValid) ∷
    (causes.Window windows.NoBindRight) ∷ (causes.Window windows.RightsNeedLocalWrite) ∷
    (causes.Window windows.OutsideRegion) ∷ (causes.Window windows.StillBound) ∷ (causes.Window windows.Empty) ∷
    (causes.Window windows.Type1) ∷ (causes.Window windows.NotBound) ∷ (causes.Window windows.KeyDiffers) ∷
    (causes.Window windows.WrongQueue) ∷ []

abbrev pub cause_in : List ℕ → Option OpRefusal
cause_in w = find_named op_refusal_text all_causes w

-- why a verb is refused
unfoldable pub all_refusals : List Refusal
all_refusals =
    refusals.NoSuch ∷ refusals.NoDomain ∷ refusals.DomainTaken ∷ refusals.DomainInUse ∷ refusals.SlotTaken ∷
    refusals.Empty ∷ refusals.OutsideBuffer ∷ refusals.RightsNeedLocalWrite ∷ refusals.WindowsBound ∷
    refusals.CqTooSmall ∷ refusals.CqInUse ∷ refusals.SrqInUse ∷ refusals.HasSrq ∷ refusals.TooLong ∷
    refusals.QueueState ∷ refusals.QueueFull ∷ refusals.Transition ∷ (refusals.OutOfRange fields.Peer) ∷
    (refusals.OutOfRange fields.Incarnation) ∷ (refusals.OutOfRange fields.Psn) ∷ (refusals.OutOfRange fields.Mtu) ∷
    (refusals.OutOfRange fields.RnrCode) ∷ (refusals.OutOfRange fields.Retry) ∷
    (refusals.OutOfRange fields.RnrRetry) ∷ (refusals.OutOfRange fields.Reads) ∷
    (refusals.OutOfRange fields.Depth) ∷ (refusals.OutOfRange fields.Capacity) ∷
    (refusals.OutOfRange fields.Pages) ∷ (refusals.OutOfRange fields.Length) ∷ (refusals.OutOfRange fields.List) ∷
    (refusals.OutOfRange fields.Kind) ∷ []

abbrev pub refusal_in : List ℕ → Option Refusal
refusal_in w = find_named refusal_text all_refusals w

-- why a packet was dropped
unfoldable pub all_drops : List Drop1
all_drops =
    (drops.Wire wire.TooShort) ∷ (drops.Wire wire.Version) ∷ (drops.Wire wire.Opcode) ∷ (drops.Wire wire.Length) ∷
    (drops.Wire wire.Pad) ∷ drops.Partition ∷ drops.Queue ∷ drops.State ∷ drops.Stale ∷ drops.Unsaved ∷ []

abbrev pub drop_in : List ℕ → Option Drop1
drop_in w = find_named drop_text all_drops w

-- what the weather does to a packet: a name, or one with a number behind a colon
unfoldable pub lot_in : List ℕ → Option Lot
lot_in w =
    if bytes_eq w (codes "pass") then Some lots.Pass
    else if bytes_eq w (codes "lose") then Some lots.Lose
    else (do
      name ← next_of (pieces colon w)
      count ← field (number_in max_u8) name.1
      if bytes_eq name.0 (codes "repeat") then Some (lots.Repeat count.0)
          else if bytes_eq name.0 (codes "hold") then Some (lots.Hold count.0)
          else None)
