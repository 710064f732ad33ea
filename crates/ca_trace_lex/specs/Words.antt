-- Words: the number, the key or the list that a word is read as. It is lenient: what is read need not be spelled so.
-- Contracts cite it.
use Rattle.std.specs.Prelude.{◌≡◌, ℕ, ◌+◌, ◌*◌, ◌/◌, ◌%◌, ◌==◌, nat_le, Bool, false, ◌||◌, if◌then◌else◌, List, [], ◌∷◌, length, drop, Option, Some, None, Result, Ok, Err, codes}
use Rattle.std.specs.List.{slice_split}
use Rattle.std.specs.Str.{bytes_eq}
use Rattle.std.specs.Char.{digit_value}
use Rattle.ca_base.specs.declared.limits.TheConstants.{MAX_PIECES}
use Rattle.ca_keys.specs.declared.key.Key.{Key}
use Rattle.ca_keys.specs.declared.names.DomainId.{DomainId}
use Rattle.ca_keys.specs.declared.names.QueueId.{QueueId}
use Rattle.ca_keys.specs.declared.names.Slot.{Slot}
use Rattle.ca_keys.specs.declared.place.Run.{Run}
use Rattle.ca_base.specs.declared.request.Piece.{Piece}
use Rattle.ca_keys.specs.declared.rights.Rights.{Rights}
use Rattle.ca_keys.specs.Spelling.{dash}
use Rattle.ca_trace_lex.specs.declared.stop.Stop.{Stop}
use Rattle.ca_trace_lex.specs.declared.stop.Stop.TheVariants as stops

-- the bytes that stand between lines, between words and between the parts of a word
abbrev pub line_feed : ℕ
line_feed = 10

abbrev pub space : ℕ
space = 32

abbrev pub slash : ℕ
slash = 47

abbrev pub colon : ℕ
colon = 58

abbrev pub comma : ℕ
comma = 44

abbrev pub plus : ℕ
plus = 43

-- the greatest numbers of 8, 16, 32 and 64 bits
abbrev pub max_u8 : ℕ
max_u8 = 255

abbrev pub max_u16 : ℕ
max_u16 = 65535

abbrev pub max_u32 : ℕ
max_u32 = 4294967295

abbrev pub max_u64 : ℕ
max_u64 = 18446744073709551615

-- a step after another, where that one gave a value
infixl 10 ◌>>=◌
abbrev pub ◌>>=◌ : {A B : Type 0} → Option A → (A → Option B) → Option B
None >>= f = None
(Some x) >>= f = f x

-- what a reader of a word gave is what reading gives, unless memory ran out
abbrev pub Gives : {Y : Type 0} → Result Y Stop → Option Y → Type 0
Gives (Ok x) read = read ≡ Some x
Gives (Err stops.Outside) read = read ≡ None
Gives (Err stops.Memory) read = Unit {0}

-- the same of a value that contracts see by a part of it
abbrev pub GivesAs : {X Y : Type 0} → (X → Y) → Result X Stop → Option Y → Type 0
GivesAs view (Ok x) read = read ≡ Some (view x)
GivesAs view (Err stops.Outside) read = read ≡ None
GivesAs view (Err stops.Memory) read = Unit {0}

-- what a reader of the words at the front gave is what reading gives, with the words that it left, unless memory ran out
abbrev pub Reads : {X Y : Type 0} → (X → Y) → Result X Stop → List (List ℕ) → Option (Y × List (List ℕ)) → Type 0
Reads view (Ok x) left read = read ≡ Some (view x, left)
Reads view (Err stops.Outside) left read = read ≡ None
Reads view (Err stops.Memory) left read = Unit {0}

-- the words that stand between separators
abbrev pub pieces : ℕ → List ℕ → List (List ℕ)
pieces separator text = slice_split (λ b. b == separator) text

-- the first word, and those behind it
abbrev pub next_of : List (List ℕ) → Option (List ℕ × List (List ℕ))
next_of [] = None
next_of (w ∷ ws) = Some (w, ws)

-- what the first word is read as, and the words behind it
abbrev pub field : {Y : Type 0} → (List ℕ → Option Y) → List (List ℕ) → Option (Y × List (List ℕ))
field reader ws = do
  w ← next_of ws
  x ← reader w.0
  Some (x, w.1)

-- the number that digits write behind those of n, where it and each one before it is at most `most`
abbrev pub value_after : ℕ → ℕ → ℕ → List ℕ → Option ℕ
value_after base most n [] = Some n
value_after base most n (c ∷ cs) =
    if nat_le (n * base + digit_value c) most then value_after base most (n * base + digit_value c) cs else None

unfoldable pub value_in : ℕ → ℕ → List ℕ → Option ℕ
value_in base most w = value_after base most 0 w

-- a decimal number
abbrev pub number_in : ℕ → List ℕ → Option ℕ
number_in most w = value_in 10 most w

-- a number behind one letter
unfoldable pub lettered_in : ℕ → List ℕ → Option ℕ
lettered_in most w = number_in most (drop 1 w)

-- nothing, or what the word is read as
abbrev pub perhaps_in : {Y : Type 0} → (List ℕ → Option Y) → List ℕ → Option (Option Y)
perhaps_in reader w = if bytes_eq w dash then Some None else (reader w >>= λ x. Some (Some x))

-- an adapter, and a number there
unfoldable pub in_adapter_in : ℕ → List ℕ → Option (ℕ × ℕ)
in_adapter_in most w = do
  adapter ← field (number_in max_u8) (pieces slash w)
  number ← field (number_in most) adapter.1
  Some (adapter.0, number.0)

unfoldable pub domain_in : List ℕ → Option DomainId
domain_in w = do
  d ← in_adapter_in max_u8 w
  Some (record { adapter = d.0; domain = d.1 })

unfoldable pub queue_in : List ℕ → Option QueueId
queue_in w = do
  q ← in_adapter_in max_u32 w
  Some (record { adapter = q.0; number = q.1 })

unfoldable pub slot_in : List ℕ → Option Slot
slot_in w = do
  adapter ← field (number_in max_u8) (pieces slash w)
  domain ← field (number_in max_u8) adapter.1
  slot ← field (number_in max_u16) domain.1
  Some (record { domain = record { adapter = adapter.0; domain = domain.0 }; slot = slot.0 })

-- any queue pair, or one
unfoldable pub queues_in : List ℕ → Option (Option QueueId)
queues_in w = if bytes_eq w (codes "any") then Some None else (queue_in w >>= λ q. Some (Some q))

-- a number of hexadecimal digits behind `0x`
unfoldable pub key_in : List ℕ → Option Key
key_in w = do
  number ← value_in 16 max_u32 (drop 2 w)
  Some (record { 0 = number })

unfoldable pub address_in : List ℕ → Option ℕ
address_in w = value_in 16 max_u64 (drop 2 w)

-- the value of a hexadecimal digit in lower case; any other byte has a value below 16 too
abbrev pub hex_digit : ℕ → ℕ
hex_digit c = (c % 16 + c / 64 * 9) % 16

-- the bytes whose two digits stand in a word
unfoldable pub bytes_of : List ℕ → List ℕ
bytes_of (high ∷ low ∷ rest) = (hex_digit high * 16 + hex_digit low) ∷ bytes_of rest
bytes_of rest = []

-- bytes, of two hexadecimal digits each
unfoldable pub hex_in : List ℕ → Option (List ℕ)
hex_in w = if bytes_eq w dash then Some [] else Some (bytes_of w)

-- whether a byte stands in a word
abbrev pub has : ℕ → List ℕ → Bool
has c [] = false
has c (b ∷ bs) = (b == c) || has c bs

unfoldable pub rights_in : List ℕ → Rights
rights_in w = record {
  local_write = has 108 w;
  remote_read = has 114 w;
  remote_write = has 119 w;
  remote_atomic = has 97 w;
  window_bind = has 98 w;
}

-- what each word is read as
abbrev pub all_in : {Y : Type 0} → (List ℕ → Option Y) → List (List ℕ) → Option (List Y)
all_in reader [] = Some []
all_in reader (w ∷ ws) = do
  x ← reader w
  xs ← all_in reader ws
  Some (x ∷ xs)

-- a list with commas between, or nothing
abbrev pub list_in : {Y : Type 0} → (List ℕ → Option Y) → List ℕ → Option (List Y)
list_in reader w = if bytes_eq w dash then Some [] else all_in reader (pieces comma w)

unfoldable pub piece_in : List ℕ → Option Piece
piece_in w = do
  key ← field key_in (pieces colon w)
  address ← field address_in key.1
  count ← field (number_in max_u32) address.1
  Some (record { address = address.0; key = key.0; length = count.0 })

-- the pieces of a list, of which a request has at most four
unfoldable pub pieces_in : List ℕ → Option (List Piece)
pieces_in w = do
  list ← list_in piece_in w
  if nat_le (length list) MAX_PIECES then Some list else None

-- A/B:OFFSET+LENGTH
unfoldable pub run_in : List ℕ → Option Run
run_in w = do
  buffer ← field (in_adapter_in max_u16) (pieces colon w)
  offset ← field (λ part. Some (pieces plus part)) buffer.1
  first ← field (number_in max_u32) offset.0
  count ← field (number_in max_u32) first.1
  Some (record { adapter = buffer.0.0; buffer = buffer.0.1; offset = first.0; length = count.0 })
