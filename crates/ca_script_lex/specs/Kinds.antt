-- Kinds: the kinds of word that a row of the grammar names, the value of each, and how it is read. Contracts cite it.
use Rattle.std.specs.Prelude.{ℕ, List, Option, Result}
use Rattle.ca_keys.specs.declared.names.DomainId.{DomainId}
use Rattle.ca_keys.specs.declared.names.QueueId.{QueueId}
use Rattle.ca_keys.specs.declared.names.Slot.{Slot}
use Rattle.ca_base.specs.declared.request.Piece.{Piece}
use Rattle.ca_keys.specs.declared.rights.Rights.{Rights}
use Rattle.ca_script_lex.specs.declared.cause.ScriptCause.{ScriptCause}
use Rattle.ca_script_lex.specs.declared.flags.Flags.{Flags}
use Rattle.ca_script_lex.specs.Words as words

-- what a word has to be
pub data Kind : Type 0 where
  -- a number from the first to the second
  Number : ℕ → ℕ → Kind
  -- a number up to this, or `-`
  Optional : ℕ → Kind
  -- A/D
  OfDomain : Kind
  -- A/D/S
  OfSlot : Kind
  -- A/N, with an adapter up to this
  OfQueue : ℕ → Kind
  -- A/B
  OfBuffer : Kind
  -- HEX
  Hex : Kind
  -- FLAGS
  OfFlags : Kind
  -- RIGHTS
  OfRights : Kind
  -- LIST
  OfPieces : Kind
  -- PAGES
  OfPages : Kind

-- what a word of each kind says
abbrev pub ValueOf : Kind → Type 0
ValueOf (Number low high) = ℕ
ValueOf (Optional high) = Option ℕ
ValueOf OfDomain = DomainId
ValueOf OfSlot = Slot
ValueOf (OfQueue last) = QueueId
ValueOf OfBuffer = ℕ × ℕ
ValueOf Hex = List ℕ
ValueOf OfFlags = Flags
ValueOf OfRights = Rights
ValueOf OfPieces = List Piece
ValueOf OfPages = List ℕ

-- how a word of each kind is read
abbrev pub word_of : (kind : Kind) → List ℕ → Result (ValueOf kind) ScriptCause
word_of (Number low high) w = words.number low high w
word_of (Optional high) w = words.optional high w
word_of OfDomain w = words.domain w
word_of OfSlot w = words.slot w
word_of (OfQueue last) w = words.queue last w
word_of OfBuffer w = words.in_adapter 255 65535 w
word_of Hex w = words.hexadecimal w
word_of OfFlags w = words.flags w
word_of OfRights w = words.rights w
word_of OfPieces w = words.piece_list w
word_of OfPages w = words.page_list w

-- numbers of a type
abbrev pub u8 : Kind
u8 = Number 0 255

abbrev pub u16 : Kind
u16 = Number 0 65535

abbrev pub u32 : Kind
u32 = Number 0 4294967295

abbrev pub u64 : Kind
u64 = Number 0 18446744073709551615
