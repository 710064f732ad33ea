-- Words of a script: the form of each kind, and the value that a word of that form says. First comes the form of the
-- whole word, and then whether its numbers fit. Contracts cite it.
use Rattle.std.specs.Prelude.{ℕ, ◌==◌, nat_le, nat_lt, Bool, true, false, not, ◌&&◌, if◌then◌else◌, List, [], ◌∷◌, length, drop, slice_index, Option, Some, None, Result, Ok, Err}
use Rattle.std.specs.List.{filter, list_all}
use Rattle.std.specs.Str.{bytes_eq}
use Rattle.std.specs.Str.Parse.{digits_value}
use Rattle.std.specs.Char.{is_digit}
use Rattle.hex.specs.Hex.{decode_of}
use Rattle.hex.specs.declared.error.FromHexError.{FromHexError}
use Rattle.ca_base.specs.declared.limits.TheConstants.{MAX_PIECES}
use Rattle.ca_keys.specs.declared.names.DomainId.{DomainId}
use Rattle.ca_keys.specs.declared.names.QueueId.{QueueId}
use Rattle.ca_keys.specs.declared.names.Slot.{Slot}
use Rattle.ca_base.specs.declared.request.Piece.{Piece}
use Rattle.ca_keys.specs.declared.rights.Rights.{Rights}
use Rattle.ca_keys.specs.Spelling.{dash}
use Rattle.ca_trace_lex.specs.Words.{pieces}
use Rattle.ca_script_lex.specs.Reading.{◌>>=◌, field, each}
use Rattle.ca_script_lex.specs.declared.cause.ScriptCause.{ScriptCause}
use Rattle.ca_script_lex.specs.declared.cause.ScriptCause.TheVariants.{BadName, BadHex, BadNumber, OutOfLimit}
use Rattle.ca_script_lex.specs.declared.flags.Flags.{Flags}

-- the words of a line: what stands between spaces, of which there may be several
abbrev pub is_word : List ℕ → Bool
is_word w = not (length w == 0)

abbrev pub words_of : List ℕ → List (List ℕ)
words_of line = filter is_word (pieces 32 line)

-- ---- numbers

-- at least one digit of this base, and nothing else
abbrev pub are_digits : ℕ → List ℕ → Bool
are_digits base w = is_word w && list_all (λ c. is_digit c base) w

-- the word begins with `0x`
abbrev pub is_hexadecimal : List ℕ → Bool
is_hexadecimal w = nat_le 2 (length w) && (slice_index w 0 == 48) && (slice_index w 1 == 120)

abbrev pub base_of : List ℕ → ℕ
base_of w = if is_hexadecimal w then 16 else 10

abbrev pub digits_of : List ℕ → List ℕ
digits_of w = if is_hexadecimal w then drop 2 w else w

-- decimal digits, or `0x` and hexadecimal digits
unfoldable pub is_number : List ℕ → Bool
is_number w = are_digits (base_of w) (digits_of w)

-- the number that the digits say, however long
unfoldable pub value_of : List ℕ → ℕ
value_of w = digits_value (base_of w) (digits_of w)

-- the number, where it is within these limits
unfoldable pub limited : ℕ → ℕ → List ℕ → Result ℕ ScriptCause
limited low high w = if nat_le low (value_of w) && nat_le (value_of w) high then Ok (value_of w) else Err OutOfLimit

unfoldable pub number : ℕ → ℕ → List ℕ → Result ℕ ScriptCause
number low high w = if is_number w then limited low high w else Err BadNumber

-- a number, or `-` for none
unfoldable pub optional : ℕ → List ℕ → Result (Option ℕ) ScriptCause
optional high w = if bytes_eq w dash then Ok None else (number 0 high w >>= λ n. Ok (Some n))

-- `c` and decimal digits
unfoldable pub is_consumer : List ℕ → Bool
is_consumer w = (slice_index w 0 == 99) && are_digits 10 (drop 1 w)

-- ---- names

-- numbers with this separator between, so many
unfoldable pub are_numbers : ℕ → ℕ → List ℕ → Bool
are_numbers separator count w = (length (pieces separator w) == count) && list_all is_number (pieces separator w)

-- an adapter and a number there, up to these
unfoldable pub in_adapter : ℕ → ℕ → List ℕ → Result (ℕ × ℕ) ScriptCause
in_adapter last_adapter last w =
    if are_numbers 47 2 w then (do
      adapter ← field (limited 0 last_adapter) (pieces 47 w)
      n ← field (limited 0 last) adapter.1
      Ok (adapter.0, n.0))
    else Err BadName

unfoldable pub domain : List ℕ → Result DomainId ScriptCause
domain w = do
  d ← in_adapter 255 255 w
  Ok (record { adapter = d.0; domain = d.1 })

-- a queue pair of an adapter up to this one
unfoldable pub queue : ℕ → List ℕ → Result QueueId ScriptCause
queue last_adapter w = do
  q ← in_adapter last_adapter 4294967295 w
  Ok (record { adapter = q.0; number = q.1 })

unfoldable pub slot : List ℕ → Result Slot ScriptCause
slot w =
    if are_numbers 47 3 w then (do
      adapter ← field (limited 0 255) (pieces 47 w)
      domain ← field (limited 0 255) adapter.1
      slot ← field (limited 0 65535) domain.1
      Ok (record { domain = record { adapter = adapter.0; domain = domain.0 }; slot = slot.0 }))
    else Err BadName

-- ---- letters

-- whether this letter stands first, and what stands behind it
abbrev pub letter_at : ℕ → List ℕ → Bool × List ℕ
letter_at c [] = (false, [])
letter_at c (b ∷ bs) = if b == c then (true, bs) else (false, b ∷ bs)

abbrev pub no_flags : Flags
no_flags = record { signalled = false; fence = false; solicited = false }

-- `s`, `f` and `e` in this order, or `-`
unfoldable pub flags : List ℕ → Result Flags ScriptCause
flags w =
    let s = letter_at 115 w in
    let f = letter_at 102 s.1 in
    let e = letter_at 101 f.1 in
    if bytes_eq w dash then Ok no_flags
    else if length e.1 == 0 then Ok (record { signalled = s.0; fence = f.0; solicited = e.0 })
    else Err BadName

abbrev pub no_rights : Rights
no_rights = record { local_write = false; remote_read = false; remote_write = false; remote_atomic = false; window_bind = false }

-- `l`, `r`, `w`, `a` and `b` in this order, or `-`
unfoldable pub rights : List ℕ → Result Rights ScriptCause
rights word =
    let l = letter_at 108 word in
    let r = letter_at 114 l.1 in
    let w = letter_at 119 r.1 in
    let a = letter_at 97 w.1 in
    let b = letter_at 98 a.1 in
    if bytes_eq word dash then Ok no_rights
    else if length b.1 == 0 then Ok (record { local_write = l.0; remote_read = r.0; remote_write = w.0; remote_atomic = a.0; window_bind = b.0 })
    else Err BadName

-- ---- bytes and lists

abbrev pub decoded : Result (List ℕ) FromHexError → Result (List ℕ) ScriptCause
decoded (Ok bytes) = Ok bytes
decoded (Err error) = Err BadHex

-- two hexadecimal digits for each byte, or `-` for no bytes
unfoldable pub hexadecimal : List ℕ → Result (List ℕ) ScriptCause
hexadecimal w = if bytes_eq w dash then Ok [] else decoded (decode_of w)

-- KEY:ADDRESS:LENGTH
abbrev pub is_piece : List ℕ → Bool
is_piece w = are_numbers 58 3 w

unfoldable pub piece : List ℕ → Result Piece ScriptCause
piece w = do
  key ← field (limited 0 4294967295) (pieces 58 w)
  address ← field (limited 0 18446744073709551615) key.1
  count ← field (limited 0 4294967295) address.1
  Ok (record { address = address.0; key = record { 0 = key.0 }; length = count.0 })

-- at most four pieces with commas between, or `-` for none
unfoldable pub piece_list : List ℕ → Result (List Piece) ScriptCause
piece_list w =
    if bytes_eq w dash then Ok []
    else if not (list_all is_piece (pieces 44 w)) then Err BadNumber
    else if nat_lt MAX_PIECES (length (pieces 44 w)) then Err OutOfLimit
    else each piece (pieces 44 w)

-- page numbers with commas between
unfoldable pub page_list : List ℕ → Result (List ℕ) ScriptCause
page_list w =
    if list_all is_number (pieces 44 w) then each (limited 0 65535) (pieces 44 w) else Err BadNumber
