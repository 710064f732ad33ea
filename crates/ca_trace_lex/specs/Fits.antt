-- Fits: which values a word may stand for, as the types of the program allow. Contracts cite it.
use Rattle.std.specs.Prelude.{◌≡◌, ℕ, ◌≤◌, ◌&&◌, nat_lt, Bool, true, List, [], ◌∷◌, length, IfSome}
use Rattle.std.specs.Int.{Width, w8, w16, w32}
use Rattle.std.specs.List.{AllByRecursion}
use Rattle.hex.specs.Hex.{IsBytes}
use Rattle.ca_base.specs.declared.limits.TheConstants.{MAX_PIECES}
use Rattle.ca_keys.specs.declared.key.Key.{Key}
use Rattle.ca_base.specs.declared.lot.Lot.{Lot}
use Rattle.ca_base.specs.declared.lot.Lot.TheVariants as lots
use Rattle.ca_keys.specs.declared.names.DomainId.{DomainId}
use Rattle.ca_keys.specs.declared.names.QueueId.{QueueId}
use Rattle.ca_keys.specs.declared.names.Slot.{Slot}
use Rattle.ca_keys.specs.declared.place.Run.{Run}
use Rattle.ca_base.specs.declared.request.Piece.{Piece}
use Rattle.ca_trace_print.specs.Words.{Field, Fixed, Number, Lettered, Perhaps, InAdapter, OfDomain, OfSlot, OfQueue, OfQueues, OfKey, PerhapsKey, Address, Hex, OfPieces, OfPages, OfRuns, OfLot}
use Rattle.ca_trace_lex.specs.Words.{space, max_u8, max_u16, max_u32, max_u64}

-- the greatest number of a width that the text has
abbrev pub most : Width → ℕ
most w8 = max_u8
most w16 = max_u16
most w32 = max_u32
most other = max_u64

-- no byte of a word is a space, a line feed or another byte before them
abbrev pub plain : List ℕ → Bool
plain [] = true
plain (c ∷ cs) = nat_lt space c && plain cs

abbrev pub DomainFits : DomainId → Type 0
DomainFits d = (d.adapter ≤ max_u8) × (d.domain ≤ max_u8)

abbrev pub SlotFits : Slot → Type 0
SlotFits s = DomainFits s.domain × (s.slot ≤ max_u16)

abbrev pub QueueFits : QueueId → Type 0
QueueFits q = (q.adapter ≤ max_u8) × (q.number ≤ max_u32)

abbrev pub KeyFits : Key → Type 0
KeyFits k = k.0 ≤ max_u32

abbrev pub PieceFits : Piece → Type 0
PieceFits p = KeyFits p.key × (p.address ≤ max_u64) × (p.length ≤ max_u32)

abbrev pub RunFits : Run → Type 0
RunFits r = (r.adapter ≤ max_u8) × (r.buffer ≤ max_u16) × (r.offset ≤ max_u32) × (r.length ≤ max_u32)

abbrev pub LotFits : Lot → Type 0
LotFits (lots.Repeat count) = count ≤ max_u8
LotFits (lots.Hold count) = count ≤ max_u8
LotFits lot = Unit {0}

-- what a word may stand for
abbrev pub Fits : Field → Type 0
Fits (Fixed text) = plain text ≡ true
Fits (Number width n) = n ≤ most width
Fits (Lettered c width n) = (nat_lt space c ≡ true) × (n ≤ most width)
Fits (Perhaps width n) = IfSome n (λ n. n ≤ most width)
Fits (InAdapter adapter width n) = (adapter ≤ max_u8) × (n ≤ most width)
Fits (OfDomain d) = DomainFits d
Fits (OfSlot s) = SlotFits s
Fits (OfQueue q) = QueueFits q
Fits (OfQueues q) = IfSome q QueueFits
Fits (OfKey k) = KeyFits k
Fits (PerhapsKey k) = IfSome k KeyFits
Fits (Address at) = at ≤ max_u64
Fits (Hex bytes) = IsBytes bytes
Fits (OfPieces list) = (length list ≤ MAX_PIECES) × AllByRecursion PieceFits list
Fits (OfPages pages) = AllByRecursion (λ page. page ≤ max_u16) pages
Fits (OfRuns runs) = AllByRecursion RunFits runs
Fits (OfLot lot) = LotFits lot
Fits other = Unit {0}

-- the words of a line may stand for their values
abbrev pub AllFit : List Field → Type 0
AllFit fields = AllByRecursion Fits fields
