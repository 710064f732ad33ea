-- Words: the kinds of word that a line is made of, and the one spelling of each. Contracts cite it.
use Rattle.std.specs.Prelude.{ℕ, List, [], ◌∷◌, ◌++◌, ◌||◌, map, Bool, true, false, if◌then◌else◌, Option, None, Some, codes, decimal}
use Rattle.std.specs.Int.{Width}
use Rattle.std.specs.List.{flat_map}
use Rattle.hex.specs.Hex.{encode_lower}
use Rattle.ca_keys.specs.declared.access.Denial.{Denial}
use Rattle.ca_keys.specs.declared.access.Kind.{Kind}
use Rattle.ca_base.specs.declared.change.State.{State}
use Rattle.ca_base.specs.declared.completion.WcOp.{WcOp}
use Rattle.ca_base.specs.declared.completion.WcStatus.{WcStatus}
use Rattle.ca_keys.specs.declared.key.Key.{Key}
use Rattle.ca_base.specs.declared.lot.Lot.{Lot}
use Rattle.ca_keys.specs.declared.names.DomainId.{DomainId}
use Rattle.ca_keys.specs.declared.names.QueueId.{QueueId}
use Rattle.ca_keys.specs.declared.names.Slot.{Slot}
use Rattle.ca_keys.specs.declared.place.Run.{Run}
use Rattle.ca_base.specs.declared.refusals.OpRefusal.{OpRefusal}
use Rattle.ca_base.specs.declared.request.Piece.{Piece}
use Rattle.ca_keys.specs.declared.rights.Rights.{Rights}
use Rattle.ca_keys.specs.Spelling.{dash, perhaps, domain_text, slot_text, queue_text, key_text, address_text, run_text, letter, rights_text, kind_text, denial_text}
use Rattle.ca_base.specs.Spelling.{piece_text, lot_text, state_text, operation_text, status_text, op_refusal_text}
use Rattle.ca_model.specs.declared.answer.Refusal.{Refusal}
use Rattle.ca_model.specs.declared.mark.Drop1.{Drop1}
use Rattle.ca_model.specs.Answers.{refusal_text, drop_text}

-- each word with its separator before it
abbrev pub led : ℕ → List (List ℕ) → List ℕ
led separator ws = flat_map (λ w. separator ∷ w) ws

-- the words with the separator between each two
abbrev pub joined : ℕ → List (List ℕ) → List ℕ
joined separator [] = []
joined separator (w ∷ ws) = w ++ led separator ws

-- the words with commas between, or nothing
abbrev pub commas : List (List ℕ) → List ℕ
commas [] = dash
commas (w ∷ ws) = joined 44 (w ∷ ws)

-- two hexadecimal digits for each byte, or nothing
abbrev pub hexadecimal : List ℕ → List ℕ
hexadecimal [] = dash
hexadecimal (b ∷ bs) = encode_lower (b ∷ bs)

-- the queue pair, or any of the domain
abbrev pub queues_text : Option QueueId → List ℕ
queues_text None = codes "any"
queues_text (Some q) = queue_text q

-- a key that may be used as an L_Key is a region's, and another one is a window's
abbrev pub object_text : Bool → List ℕ
object_text true = codes "region"
object_text false = codes "window"

-- the side of a queue pair that a completion is of
abbrev pub side_text : Bool → List ℕ
side_text true = codes "recv"
side_text false = codes "send"

-- whether a timer was silent, or only hastened
abbrev pub alarm_text : Bool → List ℕ
alarm_text true = codes "silent"
alarm_text false = codes "hasten"

-- the letters of the flags of a request: s signalled, f fence, e solicited event
abbrev pub flags_text : Bool → Bool → Bool → List ℕ
flags_text signalled fence solicited =
    if signalled || fence || solicited
    then letter signalled 115 ++ letter fence 102 ++ letter solicited 101
    else dash

-- what a word of a line stands for
pub data Field : Type 0 where
  -- a word of the language
  Fixed : List ℕ → Field
  -- a number of this width
  Number : Width → ℕ → Field
  -- a letter and a number of this width, as a pass `p0` and a consumer `c0`
  Lettered : ℕ → Width → ℕ → Field
  -- a number of this width, or none
  Perhaps : Width → Option ℕ → Field
  -- an adapter and a number there of this width, as a buffer
  InAdapter : ℕ → Width → ℕ → Field
  OfDomain : DomainId → Field
  OfSlot : Slot → Field
  OfQueue : QueueId → Field
  -- any queue pair of the domain, or one
  OfQueues : Option QueueId → Field
  OfKey : Key → Field
  PerhapsKey : Option Key → Field
  Address : ℕ → Field
  -- bytes in order
  Hex : List ℕ → Field
  OfRights : Rights → Field
  -- signalled, fence, solicited
  OfFlags : Bool → Bool → Bool → Field
  OfPieces : List Piece → Field
  OfPages : List ℕ → Field
  OfRuns : List Run → Field
  -- a region, or a window
  OfObject : Bool → Field
  OfSide : Bool → Field
  OfAlarm : Bool → Field
  OfKind : Kind → Field
  OfDenial : Denial → Field
  OfRefusal : Refusal → Field
  OfLot : Lot → Field
  OfState : State → Field
  OfOperation : WcOp → Field
  OfStatus : WcStatus → Field
  OfCause : Option OpRefusal → Field
  OfDrop : Drop1 → Field

-- the one spelling of a word
abbrev pub word : Field → List ℕ
word (Fixed text) = text
word (Number width n) = decimal n
word (Lettered c width n) = c ∷ decimal n
word (Perhaps width n) = perhaps decimal n
word (InAdapter adapter width n) = decimal adapter ++ codes "/" ++ decimal n
word (OfDomain d) = domain_text d
word (OfSlot s) = slot_text s
word (OfQueue q) = queue_text q
word (OfQueues q) = queues_text q
word (OfKey k) = key_text k
word (PerhapsKey k) = perhaps key_text k
word (Address at) = address_text at
word (Hex bytes) = hexadecimal bytes
word (OfRights r) = rights_text r
word (OfFlags signalled fence solicited) = flags_text signalled fence solicited
word (OfPieces list) = commas (map piece_text list)
word (OfPages pages) = commas (map decimal pages)
word (OfRuns runs) = commas (map run_text runs)
word (OfObject local) = object_text local
word (OfSide receive) = side_text receive
word (OfAlarm silent) = alarm_text silent
word (OfKind kind) = kind_text kind
word (OfDenial denial) = denial_text denial
word (OfRefusal refusal) = refusal_text refusal
word (OfLot lot) = lot_text lot
word (OfState state) = state_text state
word (OfOperation operation) = operation_text operation
word (OfStatus status) = status_text status
word (OfCause cause) = perhaps op_refusal_text cause
word (OfDrop cause) = drop_text cause

-- the words of a line
abbrev pub words : List Field → List (List ℕ)
words fields = map word fields
