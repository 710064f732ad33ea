-- Each word of a trace is read in a script as what it stands for.
use Rattle.std.proofs.Common.{◌≡◌, ℕ, zero, suc, ◌/◌, ◌%◌, ◌<◌, ◌≤◌, Bool, true, false, ◌&&◌, eqb, leb, ltb, List, [], ◌∷◌, ◌++◌, length, Option, Some, None, Ok, decimal, map, refl, ap, ◌∙◌, arith, append_assoc, inl, inr}
use Rattle.std.specs.Prelude.{slice_index, IfSome}
use Rattle.std.specs.Char.{digit_value, is_digit}
use Rattle.std.specs.Fmt.{digits}
use Rattle.std.specs.Int.{w32, to_be_bytes}
use Rattle.std.specs.List.{AllByRecursion, list_all}
use Rattle.std.specs.Str.{bytes_eq}
use Rattle.std.specs.Str.Parse.{AllDigits, IsNumeral, digits_value}
use Rattle.std.proofs.lemmas.Bool.{cases_Bool, ne_eqb, le-leb, lt-ltb}
use Rattle.std.proofs.lemmas.Bool.Decides.{nat_tests}
use Rattle.std.proofs.lemmas.Fmt.{digits_is_IsNumeral}
use Rattle.hex.specs.Hex.{encode_lower, encode_with, lower_digits, IsBytes}
use Rattle.hex.proofs.HexLemmas.{decode_of-encode_lower}
use Rattle.ca_keys.specs.declared.key.Key.{Key}
use Rattle.ca_keys.specs.declared.names.DomainId.{DomainId}
use Rattle.ca_keys.specs.declared.names.QueueId.{QueueId}
use Rattle.ca_keys.specs.declared.names.Slot.{Slot}
use Rattle.ca_base.specs.declared.request.Piece.{Piece}
use Rattle.ca_keys.specs.declared.rights.Rights.{Rights}
use Rattle.ca_keys.specs.Spelling.{dash, perhaps, domain_text, slot_text, queue_text, key_text, address_text, rights_text}
use Rattle.ca_base.specs.Spelling.{piece_text}
use Rattle.ca_trace_print.specs.Words.{led, commas, flags_text}
use Rattle.ca_trace_print.specs.Words as trace
use Rattle.ca_trace_lex.specs.Fits.{DomainFits, SlotFits, QueueFits, KeyFits, PieceFits}
use Rattle.ca_trace_lex.specs.Words.{pieces, key_in}
use Rattle.ca_trace_lex.proofs.NumberLemmas.{decimal_digits, number_lacks, number_is_some}
use Rattle.ca_trace_lex.proofs.PieceLemmas.{lacks, all_lack, one_piece, first_piece, pieces_joined, lacks_append, digits_lack}
use Rattle.ca_trace_lex.proofs.WordLemmas.{key_again, piece_listed}
use Rattle.ca_script_lex.specs.Reading.{each}
use Rattle.ca_script_lex.specs.Words.{is_word, is_hexadecimal, is_number, value_of, limited, number, optional, are_numbers, in_adapter, domain, queue, slot, flags, rights, hexadecimal, is_piece, piece, piece_list, page_list, is_consumer, are_digits}
use Rattle.ca_script_lex.proofs.NumberLemmas.{value_in_is}

-- ---- numbers

all_are : (base : ℕ) (w : List ℕ) → AllDigits base w → list_all (λ c. is_digit c base) w ≡ true
all_are base [] h = refl
all_are base (c ∷ cs) h = rw (lt-ltb _ _ h.0, all_are base cs h.1) refl

-- a decimal number has no `x`
decimal_first : (w : List ℕ) → AllDigits 10 w → is_hexadecimal w ≡ false
decimal_first [] h = refl
decimal_first (a ∷ []) h = refl
decimal_first (a ∷ b ∷ cs) h =
    let below : digit_value b < 10 = h.1.0 in
    let differs : eqb b 120 ≡ false = ne_eqb b 120 (λ same. let e : digit_value b ≡ digit_value 120 = ap digit_value same in omega (arith, e, below)) in
    let long : leb 2 (length (a ∷ b ∷ cs)) ≡ true = le-leb 2 (length (a ∷ b ∷ cs)) (omega arith) in
    rw (differs, long) (last (eqb a 48)) where
      last : (x : Bool) → (x && false) ≡ false
      last true = refl
      last false = refl

some_word : (c : ℕ) (cs : List ℕ) → is_word (c ∷ cs) ≡ true
some_word c cs = rw (ne_eqb (suc (length cs)) 0 (λ same. omega arith)) refl

-- a word of digits that is no prefix of hexadecimal digits
numeral_form : (w : List ℕ) → IsNumeral 10 w → is_number w ≡ true
unfolding is_number
numeral_form [] h = absurd (omega (arith, h.0))
numeral_form (c ∷ cs) h = rw (decimal_first (c ∷ cs) h.1, some_word c cs, all_are 10 (c ∷ cs) h.1) refl

pub decimal_form : (n : ℕ) → n ≤ 18446744073709551615 → is_number (decimal n) ≡ true
decimal_form n h = numeral_form (decimal n) (decimal_digits n h)

pub decimal_value : (n : ℕ) → n ≤ 18446744073709551615 → value_of (decimal n) ≡ n
unfolding value_of
decimal_value n h =
    let plain = decimal_first (decimal n) (decimal_digits n h).1 in
    rw plain (digits_is_IsNumeral 10 false (omega arith) (omega arith) n (omega arith)).1

within : (n high : ℕ) → n ≤ high → (leb 0 n && leb n high) ≡ true
within n high h = rw (le-leb 0 n (omega arith), le-leb n high h) refl

pub limited_is : (n high : ℕ) (w : List ℕ) → value_of w ≡ n → n ≤ high → limited 0 high w ≡ Ok n
unfolding limited
limited_is n high w e h = rw (e, within n high h) refl

pub decimal_limited : (n high : ℕ) → n ≤ high → high ≤ 18446744073709551615 → limited 0 high (decimal n) ≡ Ok n
decimal_limited n high h small = limited_is n high (decimal n) (decimal_value n (omega arith)) h

pub number_read : (n high : ℕ) → n ≤ high → high ≤ 18446744073709551615 → number 0 high (decimal n) ≡ Ok n
unfolding number
number_read n high h small = rw (decimal_form n (omega arith), decimal_limited n high h small) refl

-- hexadecimal digits behind `0x`
hex_first : (ds : List ℕ) → leb 2 (length (48 ∷ 120 ∷ ds)) ≡ true
hex_first ds = le-leb 2 (length (48 ∷ 120 ∷ ds)) (omega arith)

hex_form : (ds : List ℕ) → IsNumeral 16 ds → is_number (48 ∷ 120 ∷ ds) ≡ true
unfolding is_number
hex_form [] h = absurd (omega (arith, h.0))
hex_form (c ∷ cs) h = rw (hex_first (c ∷ cs), some_word c cs, all_are 16 (c ∷ cs) h.1) refl

pub address_form : (at : ℕ) → at ≤ 18446744073709551615 → is_number (address_text at) ≡ true
address_form at h = hex_form (digits 16 false at) (digits_is_IsNumeral 16 false (omega arith) (omega arith) at (omega arith)).0

pub address_value : (at : ℕ) → at ≤ 18446744073709551615 → value_of (address_text at) ≡ at
unfolding value_of
address_value at h = rw (hex_first (digits 16 false at)) (digits_is_IsNumeral 16 false (omega arith) (omega arith) at (omega arith)).1

pub address_read : (at : ℕ) → at ≤ 18446744073709551615 → number 0 18446744073709551615 (address_text at) ≡ Ok at
unfolding number
address_read at h = rw (address_form at h, limited_is at 18446744073709551615 (address_text at) (address_value at h) h) refl

-- ---- keys

-- the digit of each value
glyph : (d : ℕ) → d < 16 → digit_value (slice_index lower_digits d) ≡ d
glyph zero h = refl
glyph (suc zero) h = refl
glyph (suc (suc zero)) h = refl
glyph (suc (suc (suc zero))) h = refl
glyph (suc (suc (suc (suc zero)))) h = refl
glyph (suc (suc (suc (suc (suc zero))))) h = refl
glyph (suc (suc (suc (suc (suc (suc zero)))))) h = refl
glyph (suc (suc (suc (suc (suc (suc (suc zero))))))) h = refl
glyph (suc (suc (suc (suc (suc (suc (suc (suc zero)))))))) h = refl
glyph (suc (suc (suc (suc (suc (suc (suc (suc (suc zero))))))))) h = refl
glyph (suc (suc (suc (suc (suc (suc (suc (suc (suc (suc zero)))))))))) h = refl
glyph (suc (suc (suc (suc (suc (suc (suc (suc (suc (suc (suc zero))))))))))) h = refl
glyph (suc (suc (suc (suc (suc (suc (suc (suc (suc (suc (suc (suc zero)))))))))))) h = refl
glyph (suc (suc (suc (suc (suc (suc (suc (suc (suc (suc (suc (suc (suc zero))))))))))))) h = refl
glyph (suc (suc (suc (suc (suc (suc (suc (suc (suc (suc (suc (suc (suc (suc zero)))))))))))))) h = refl
glyph (suc (suc (suc (suc (suc (suc (suc (suc (suc (suc (suc (suc (suc (suc (suc zero))))))))))))))) h = refl
glyph (suc (suc (suc (suc (suc (suc (suc (suc (suc (suc (suc (suc (suc (suc (suc (suc n)))))))))))))))) h = absurd (omega arith)

tail_bytes : (b : ℕ) (bs : List ℕ) → IsBytes (b ∷ bs) → IsBytes bs
tail_bytes b bs h i = h (suc i)

hex_digits : (bs : List ℕ) → IsBytes bs → AllDigits 16 (encode_lower bs)
unfolding encode_with
hex_digits [] h = tt
hex_digits (b ∷ bs) h =
    let byte : b < 256 = h 0 in
    (rw (glyph (b / 16) (omega arith)) (omega arith), (rw (glyph (b % 16) (omega arith)) (omega arith), hex_digits bs (tail_bytes b bs h)))

key_bytes : (n : ℕ) → IsBytes (to_be_bytes w32 n)
key_bytes n zero = omega arith
key_bytes n (suc zero) = omega arith
key_bytes n (suc (suc zero)) = omega arith
key_bytes n (suc (suc (suc zero))) = omega arith
key_bytes n (suc (suc (suc (suc i)))) = omega arith

key_digits : (k : Key) → AllDigits 16 (encode_lower (to_be_bytes w32 k.0))
key_digits k = hex_digits (to_be_bytes w32 k.0) (key_bytes k.0)

key_some : (n : ℕ) → is_word (encode_lower (to_be_bytes w32 n)) ≡ true
unfolding encode_with
key_some n = refl

pub key_form : (k : Key) → is_number (key_text k) ≡ true
unfolding is_number
key_form k = rw (hex_first (encode_lower (to_be_bytes w32 k.0)), key_some k.0, all_are 16 (encode_lower (to_be_bytes w32 k.0)) (key_digits k)) refl

key_number : (o : Option Key) → ℕ
key_number None = 0
key_number (Some k) = k.0

no_key : (k : Key) → ◌≡◌ {A = Option Key} None (Some k) → ⊥
no_key k h = absurd cc

pub key_value : (k : Key) → KeyFits k → value_of (key_text k) ≡ k.0
unfolding value_of key_in key_number
key_value k h =
    let v = digits_value 16 (encode_lower (to_be_bytes w32 k.0)) in
    let read = rw (value_in_is 16 4294967295 (encode_lower (to_be_bytes w32 k.0)) (omega arith)) at (key_again k h) in
    rw (hex_first (encode_lower (to_be_bytes w32 k.0)))
    (elim (cases_Bool (leb v 4294967295)) [
      | inl e ↦ ap key_number (rw e at read)
      | inr e ↦ absurd (no_key k (rw e at read))
    ])

pub key_read : (k : Key) → KeyFits k → number 0 4294967295 (key_text k) ≡ Ok k.0
unfolding number
key_read k h = rw (key_form k, limited_is k.0 4294967295 (key_text k) (key_value k h) h) refl

-- ---- names

two_pieces : (separator : ℕ) (a b : List ℕ) → lacks separator a ≡ true → lacks separator b ≡ true → pieces separator (a ++ separator ∷ b) ≡ a ∷ b ∷ []
two_pieces separator a b h g = first_piece separator a b h ∙ ap (λ (x : List (List ℕ)). a ∷ x) (one_piece separator b g)

three_pieces : (separator : ℕ) (a b c : List ℕ) → lacks separator a ≡ true → lacks separator b ≡ true → lacks separator c ≡ true → pieces separator (a ++ separator ∷ (b ++ separator ∷ c)) ≡ a ∷ b ∷ c ∷ []
three_pieces separator a b c h g k = first_piece separator a (b ++ separator ∷ c) h ∙ ap (λ (x : List (List ℕ)). a ∷ x) (two_pieces separator b c g k)

two_text : (separator : ℕ) (a b : List ℕ) → (a ++ separator ∷ []) ++ b ≡ a ++ separator ∷ b
two_text separator a b = append_assoc a (separator ∷ []) b

three_text : (s t : ℕ) (a b c : List ℕ) → ((((a ++ s ∷ []) ++ b) ++ t ∷ []) ++ c) ≡ a ++ s ∷ (b ++ t ∷ c)
three_text s t a b c =
    two_text t ((a ++ s ∷ []) ++ b) c ∙ ap (λ (x : List ℕ). x ++ t ∷ c) (two_text s a b) ∙ append_assoc a (s ∷ b) (t ∷ c)

-- two numbers with a slash between
two_parts : (a n : ℕ) → a ≤ 18446744073709551615 → n ≤ 18446744073709551615 → pieces 47 ((decimal a ++ 47 ∷ []) ++ decimal n) ≡ decimal a ∷ decimal n ∷ []
two_parts a n ha hn = ap (pieces 47) (two_text 47 (decimal a) (decimal n)) ∙ two_pieces 47 (decimal a) (decimal n) (number_lacks 47 a (omega arith) ha) (number_lacks 47 n (omega arith) hn)

pub place_read : (a n last bound : ℕ) → a ≤ last → last ≤ 255 → n ≤ bound → bound ≤ 18446744073709551615 → in_adapter last bound ((decimal a ++ 47 ∷ []) ++ decimal n) ≡ Ok (a, n)
unfolding in_adapter are_numbers
place_read a n last bound ha small hn large =
    rw (two_parts a n (omega arith) (omega arith), decimal_form a (omega arith), decimal_form n (omega arith), decimal_limited a last ha (omega arith), decimal_limited n bound hn large) refl

pub domain_read : (d : DomainId) → DomainFits d → domain (domain_text d) ≡ Ok d
unfolding domain
domain_read d h = rw (place_read d.adapter d.domain 255 255 h.0 (omega arith) h.1 (omega arith)) refl

pub queue_read : (q : QueueId) → QueueFits q → queue 255 (queue_text q) ≡ Ok q
unfolding queue
queue_read q h = rw (place_read q.adapter q.number 255 4294967295 h.0 (omega arith) h.1 (omega arith)) refl

slot_parts : (s : Slot) → SlotFits s → pieces 47 (slot_text s) ≡ decimal s.domain.adapter ∷ decimal s.domain.domain ∷ decimal s.slot ∷ []
slot_parts s h =
    let a : s.domain.adapter ≤ 255 = h.0.0 in
    let d : s.domain.domain ≤ 255 = h.0.1 in
    let n : s.slot ≤ 65535 = h.1 in
    ap (pieces 47) (three_text 47 47 (decimal s.domain.adapter) (decimal s.domain.domain) (decimal s.slot))
    ∙ three_pieces 47 (decimal s.domain.adapter) (decimal s.domain.domain) (decimal s.slot) (number_lacks 47 s.domain.adapter (omega arith) (omega arith)) (number_lacks 47 s.domain.domain (omega arith) (omega arith)) (number_lacks 47 s.slot (omega arith) (omega arith))

pub slot_read : (s : Slot) → SlotFits s → slot (slot_text s) ≡ Ok s
unfolding slot are_numbers
slot_read s h =
    let a : s.domain.adapter ≤ 255 = h.0.0 in
    let d : s.domain.domain ≤ 255 = h.0.1 in
    let n : s.slot ≤ 65535 = h.1 in
    rw (slot_parts s h, decimal_form s.domain.adapter (omega arith), decimal_form s.domain.domain (omega arith), decimal_form s.slot (omega arith), decimal_limited s.domain.adapter 255 a (omega arith), decimal_limited s.domain.domain 255 d (omega arith), decimal_limited s.slot 65535 n (omega arith)) refl

-- ---- a number or none

pub optional_read : (n : Option ℕ) (bound : ℕ) → bound ≤ 18446744073709551615 → IfSome n (λ n. n ≤ bound) → optional bound (perhaps decimal n) ≡ Ok n
unfolding optional
optional_read None bound small h = refl
optional_read (Some n) bound small h = rw (number_is_some n (omega (arith, h)), number_read n bound h small) refl

-- ---- letters

pub flags_read : (a b c : Bool) → flags (flags_text a b c) ≡ Ok (record { signalled = a; fence = b; solicited = c })
unfolding flags
flags_read true true true = refl
flags_read true true false = refl
flags_read true false true = refl
flags_read true false false = refl
flags_read false true true = refl
flags_read false true false = refl
flags_read false false true = refl
flags_read false false false = refl

letters_read : (l r w a b : Bool) → rights (rights_text (record { local_write = l; remote_read = r; remote_write = w; remote_atomic = a; window_bind = b })) ≡ Ok (record { local_write = l; remote_read = r; remote_write = w; remote_atomic = a; window_bind = b })
unfolding rights
letters_read true true true true true = refl
letters_read true true true true false = refl
letters_read true true true false true = refl
letters_read true true true false false = refl
letters_read true true false true true = refl
letters_read true true false true false = refl
letters_read true true false false true = refl
letters_read true true false false false = refl
letters_read true false true true true = refl
letters_read true false true true false = refl
letters_read true false true false true = refl
letters_read true false true false false = refl
letters_read true false false true true = refl
letters_read true false false true false = refl
letters_read true false false false true = refl
letters_read true false false false false = refl
letters_read false true true true true = refl
letters_read false true true true false = refl
letters_read false true true false true = refl
letters_read false true true false false = refl
letters_read false true false true true = refl
letters_read false true false true false = refl
letters_read false true false false true = refl
letters_read false true false false false = refl
letters_read false false true true true = refl
letters_read false false true true false = refl
letters_read false false true false true = refl
letters_read false false true false false = refl
letters_read false false false true true = refl
letters_read false false false true false = refl
letters_read false false false false true = refl
letters_read false false false false false = refl

pub rights_read : (r : Rights) → rights (rights_text r) ≡ Ok r
rights_read r = letters_read r.local_write r.remote_read r.remote_write r.remote_atomic r.window_bind

-- ---- bytes

and_false : (x : Bool) → (x && false) ≡ false
and_false true = refl
and_false false = refl

hex_no_dash : (b : ℕ) (bs : List ℕ) → bytes_eq (encode_lower (b ∷ bs)) dash ≡ false
unfolding encode_with
hex_no_dash b bs = and_false (eqb (slice_index lower_digits (b / 16)) 45)

pub hex_read : (bytes : List ℕ) → IsBytes bytes → hexadecimal (trace.hexadecimal bytes) ≡ Ok bytes
unfolding hexadecimal
hex_read [] h = refl
hex_read (b ∷ bs) h = rw (hex_no_dash b bs, decode_of-encode_lower (b ∷ bs) h) refl

-- ---- lists

piece_words : (p : Piece) → piece_text p ≡ key_text p.key ++ 58 ∷ (address_text p.address ++ 58 ∷ decimal p.length)
piece_words p = three_text 58 58 (key_text p.key) (address_text p.address) (decimal p.length)

key_lacks : (separator : ℕ) (k : Key) → 16 ≤ digit_value separator → lacks separator (48 ∷ 120 ∷ []) ≡ true → lacks separator (key_text k) ≡ true
key_lacks separator k high front = lacks_append separator (48 ∷ 120 ∷ []) (encode_lower (to_be_bytes w32 k.0)) front (digits_lack separator _ high (key_digits k))

address_lacks : (separator at : ℕ) → at ≤ 18446744073709551615 → 16 ≤ digit_value separator → lacks separator (48 ∷ 120 ∷ []) ≡ true → lacks separator (address_text at) ≡ true
address_lacks separator at h high front = lacks_append separator (48 ∷ 120 ∷ []) (digits 16 false at) front (digits_lack separator _ high (digits_is_IsNumeral 16 false (omega arith) (omega arith) at (omega arith)).0.1)

piece_parts : (p : Piece) → PieceFits p → pieces 58 (piece_text p) ≡ key_text p.key ∷ address_text p.address ∷ decimal p.length ∷ []
piece_parts p h =
    let len : p.length ≤ 4294967295 = h.2 in
    ap (pieces 58) (piece_words p)
    ∙ three_pieces 58 (key_text p.key) (address_text p.address) (decimal p.length) (key_lacks 58 p.key (omega arith) refl) (address_lacks 58 p.address h.1 (omega arith) refl) (number_lacks 58 p.length (omega arith) (omega arith))

piece_form : (p : Piece) → PieceFits p → is_piece (piece_text p) ≡ true
unfolding are_numbers
piece_form p h =
    let len : p.length ≤ 4294967295 = h.2 in
    rw (piece_parts p h, key_form p.key, address_form p.address h.1, decimal_form p.length (omega arith)) refl

piece_read : (p : Piece) → PieceFits p → piece (piece_text p) ≡ Ok p
unfolding piece
piece_read p h =
    let len : p.length ≤ 4294967295 = h.2 in
    rw (piece_parts p h, limited_is p.key.0 4294967295 (key_text p.key) (key_value p.key h.0) h.0, limited_is p.address 18446744073709551615 (address_text p.address) (address_value p.address h.1) h.1, decimal_limited p.length 4294967295 len (omega arith)) refl

all_forms : (list : List Piece) → AllByRecursion PieceFits list → list_all is_piece (map piece_text list) ≡ true
all_forms [] h = refl
all_forms (p ∷ ps) h = rw (piece_form p h.0, all_forms ps h.1) refl

each_piece : (list : List Piece) → AllByRecursion PieceFits list → each piece (map piece_text list) ≡ Ok list
each_piece [] h = refl
each_piece (p ∷ ps) h = rw (piece_read p h.0, each_piece ps h.1) refl

all_lack_commas : (list : List Piece) → AllByRecursion PieceFits list → all_lack 44 (map piece_text list) ≡ true
all_lack_commas [] h = refl
all_lack_commas (p ∷ ps) h = rw ((piece_listed p h.0).lack) (all_lack_commas ps h.1)

comma_pieces : (p : Piece) (ps : List Piece) → AllByRecursion PieceFits (p ∷ ps) → pieces 44 (commas (map piece_text (p ∷ ps))) ≡ map piece_text (p ∷ ps)
comma_pieces p ps h = pieces_joined 44 (piece_text p) (map piece_text ps) (piece_listed p h.0).lack (all_lack_commas ps h.1)

length_map : (list : List Piece) → length (map piece_text list) ≡ length list
length_map [] = refl
length_map (p ∷ ps) = ap suc (length_map ps)

pub pieces_read : (list : List Piece) → length list ≤ 4 → AllByRecursion PieceFits list → piece_list (commas (map piece_text list)) ≡ Ok list
unfolding piece_list
pieces_read [] few h = refl
pieces_read (p ∷ ps) few h =
    let within : ltb 4 (length (map piece_text (p ∷ ps))) ≡ false = rw (length_map (p ∷ ps)) (grind (arith, nat_tests)) in
    rw ((piece_listed p h.0).some (led 44 (map piece_text ps)), comma_pieces p ps h, all_forms (p ∷ ps) h, within, each_piece (p ∷ ps) h) refl

page_forms : (pages : List ℕ) → AllByRecursion (λ page. page ≤ 65535) pages → list_all is_number (map decimal pages) ≡ true
page_forms [] h = refl
page_forms (p ∷ ps) h = rw (decimal_form p (omega (arith, h.0)), page_forms ps h.1) refl

each_page : (pages : List ℕ) → AllByRecursion (λ page. page ≤ 65535) pages → each (limited 0 65535) (map decimal pages) ≡ Ok pages
each_page [] h = refl
each_page (p ∷ ps) h = rw (decimal_limited p 65535 h.0 (omega arith), each_page ps h.1) refl

pages_lack : (pages : List ℕ) → AllByRecursion (λ page. page ≤ 65535) pages → all_lack 44 (map decimal pages) ≡ true
pages_lack [] h = refl
pages_lack (p ∷ ps) h = rw (number_lacks 44 p (omega arith) (omega (arith, h.0))) (pages_lack ps h.1)

pub pages_read : (pages : List ℕ) → eqb (length pages) 0 ≡ false → AllByRecursion (λ page. page ≤ 65535) pages → page_list (commas (map decimal pages)) ≡ Ok pages
unfolding page_list
pages_read [] some h = absurd cc
pages_read (p ∷ ps) some h =
    rw (pieces_joined 44 (decimal p) (map decimal ps) (number_lacks 44 p (omega arith) (omega (arith, h.0))) (pages_lack ps h.1), page_forms (p ∷ ps) h, each_page (p ∷ ps) h) refl

-- ---- consumers

pub decimal_consumer : (n : ℕ) → n ≤ 18446744073709551615 → is_consumer (99 ∷ decimal n) ≡ true
unfolding is_consumer
decimal_consumer n h = digits_only (decimal n) (decimal_digits n h) where
  digits_only : (w : List ℕ) → IsNumeral 10 w → are_digits 10 w ≡ true
  digits_only [] g = absurd (omega (arith, g.0))
  digits_only (c ∷ cs) g = rw (some_word c cs, all_are 10 (c ∷ cs) g.1) refl
