-- A word that is spelled is read as what it stands for, and has no space.
use Rattle.std.proofs.Common.{◌≡◌, ℕ, zero, suc, ◌+◌, ◌*◌, ◌/◌, ◌%◌, ◌<◌, ◌≤◌, Bool, true, false, cond, eqb, List, [], ◌∷◌, ◌++◌, length, Option, Some, None, decimal, map, refl, ap, ◌∙◌, arith, append_assoc}
use Rattle.std.specs.Prelude.{codes, slice_index, IfSome}
use Rattle.std.specs.Char.{digit_value}
use Rattle.std.specs.Fmt.{digits}
use Rattle.std.specs.Int.{Width, w8, w16, w32, to_be_bytes, from_be_bytes}
use Rattle.std.specs.List.{AllByRecursion}
use Rattle.std.specs.Str.{bytes_eq}
use Rattle.std.specs.Str.Parse.{AllDigits, IsNumeral, digits_value_after}
use Rattle.std.proofs.lemmas.Bool.{ne_eqb, le-leb}
use Rattle.std.proofs.lemmas.Fmt.{digits_is_IsNumeral}
use Rattle.std.proofs.lemmas.Nat.{from_be_bytes-to_be_bytes_4}
use Rattle.hex.specs.Hex.{encode_lower, encode_with, lower_digits, IsBytes}
use Rattle.ca_keys.specs.declared.key.Key.{Key}
use Rattle.ca_keys.specs.declared.names.DomainId.{DomainId}
use Rattle.ca_keys.specs.declared.names.QueueId.{QueueId}
use Rattle.ca_keys.specs.declared.names.Slot.{Slot}
use Rattle.ca_keys.specs.declared.place.Run.{Run}
use Rattle.ca_base.specs.declared.request.Piece.{Piece}
use Rattle.ca_keys.specs.declared.rights.Rights.{Rights}
use Rattle.ca_keys.specs.Spelling.{dash, perhaps, domain_text, slot_text, queue_text, key_text, address_text, run_text, rights_text}
use Rattle.ca_base.specs.Spelling.{piece_text}
use Rattle.ca_trace_print.specs.Words.{led, commas, hexadecimal, queues_text, flags_text}
use Rattle.ca_trace_lex.specs.Fits.{most, plain, DomainFits, SlotFits, QueueFits, KeyFits, PieceFits, RunFits}
use Rattle.ca_trace_lex.specs.Words.{◌>>=◌, pieces, field, value_in, number_in, perhaps_in, in_adapter_in, domain_in, queue_in, slot_in, queues_in, key_in, address_in, hex_in, has, rights_in, all_in, list_in, piece_in, pieces_in, run_in}
use Rattle.ca_trace_lex.proofs.DigitLemmas.{bytes_again}
use Rattle.ca_trace_lex.proofs.PieceLemmas.{lacks, all_lack, one_piece, first_piece, pieces_joined, lacks_append, plain_append, digits_plain, digits_lack}
use Rattle.ca_trace_lex.proofs.NumberLemmas.{value_read, digits_again, decimal_digits, number_again, number_plain, number_lacks, number_is_some}

pub most_small : (w : Width) → most w ≤ 18446744073709551615
most_small w8 = omega arith
most_small w16 = omega arith
most_small w32 = omega arith
most_small other = omega arith

two_pieces : (separator : ℕ) (a b : List ℕ) → lacks separator a ≡ true → lacks separator b ≡ true → pieces separator (a ++ separator ∷ b) ≡ a ∷ b ∷ []
two_pieces separator a b h g = first_piece separator a b h ∙ ap (λ (x : List (List ℕ)). a ∷ x) (one_piece separator b g)

three_pieces : (separator : ℕ) (a b c : List ℕ) → lacks separator a ≡ true → lacks separator b ≡ true → lacks separator c ≡ true → pieces separator (a ++ separator ∷ (b ++ separator ∷ c)) ≡ a ∷ b ∷ c ∷ []
three_pieces separator a b c h g k = first_piece separator a (b ++ separator ∷ c) h ∙ ap (λ (x : List (List ℕ)). a ∷ x) (two_pieces separator b c g k)

two_text : (separator : ℕ) (a b : List ℕ) → (a ++ separator ∷ []) ++ b ≡ a ++ separator ∷ b
two_text separator a b = append_assoc a (separator ∷ []) b

three_text : (s t : ℕ) (a b c : List ℕ) → ((((a ++ s ∷ []) ++ b) ++ t ∷ []) ++ c) ≡ a ++ s ∷ (b ++ t ∷ c)
three_text s t a b c =
    two_text t ((a ++ s ∷ []) ++ b) c ∙ ap (λ (x : List ℕ). x ++ t ∷ c) (two_text s a b) ∙ append_assoc a (s ∷ b) (t ∷ c)

pub in_adapter_again : (bound a n : ℕ) → a ≤ 255 → n ≤ bound → bound ≤ 18446744073709551615 → in_adapter_in bound (decimal a ++ 47 ∷ decimal n) ≡ Some (a, n)
unfolding in_adapter_in
in_adapter_again bound a n ha hn small =
    rw (two_pieces 47 (decimal a) (decimal n) (number_lacks 47 a (omega arith) (omega arith)) (number_lacks 47 n (omega arith) (omega arith)), number_again 255 a ha (omega arith), number_again bound n hn small) refl

pub place_again : (bound a n : ℕ) → a ≤ 255 → n ≤ bound → bound ≤ 18446744073709551615 → in_adapter_in bound ((decimal a ++ 47 ∷ []) ++ decimal n) ≡ Some (a, n)
place_again bound a n ha hn small = ap (in_adapter_in bound) (two_text 47 (decimal a) (decimal n)) ∙ in_adapter_again bound a n ha hn small

pub in_adapter_plain : (a n : ℕ) → a ≤ 255 → n ≤ 18446744073709551615 → plain ((decimal a ++ 47 ∷ []) ++ decimal n) ≡ true
in_adapter_plain a n ha hn = plain_append (decimal a ++ 47 ∷ []) (decimal n) (plain_append (decimal a) (47 ∷ []) (number_plain a (omega arith)) refl) (number_plain n hn)

pub domain_again : (d : DomainId) → DomainFits d → domain_in (domain_text d) ≡ Some d
unfolding domain_in
domain_again d h = ap (λ (r : Option (ℕ × ℕ)). r >>= λ d. Some (record { adapter = d.0; domain = d.1 })) (place_again 255 d.adapter d.domain h.0 h.1 (omega arith))

pub queue_again : (q : QueueId) → QueueFits q → queue_in (queue_text q) ≡ Some q
unfolding queue_in
queue_again q h = ap (λ (r : Option (ℕ × ℕ)). r >>= λ q. Some (record { adapter = q.0; number = q.1 })) (place_again 4294967295 q.adapter q.number h.0 h.1 (omega arith))

pub slot_again : (s : Slot) → SlotFits s → slot_in (slot_text s) ≡ Some s
unfolding slot_in
slot_again s h =
    let a : s.domain.adapter ≤ 255 = h.0.0 in
    let d : s.domain.domain ≤ 255 = h.0.1 in
    let n : s.slot ≤ 65535 = h.1 in
    ap slot_in (three_text 47 47 (decimal s.domain.adapter) (decimal s.domain.domain) (decimal s.slot))
    ∙ rw (three_pieces 47 (decimal s.domain.adapter) (decimal s.domain.domain) (decimal s.slot) (number_lacks 47 s.domain.adapter (omega arith) (omega arith)) (number_lacks 47 s.domain.domain (omega arith) (omega arith)) (number_lacks 47 s.slot (omega arith) (omega arith)), number_again 255 s.domain.adapter a (omega arith), number_again 255 s.domain.domain d (omega arith), number_again 65535 s.slot n (omega arith)) refl

pub slot_plain : (s : Slot) → SlotFits s → plain (slot_text s) ≡ true
slot_plain s h =
    plain_append (domain_text s.domain ++ 47 ∷ []) (decimal s.slot) (plain_append (domain_text s.domain) (47 ∷ []) (in_adapter_plain s.domain.adapter s.domain.domain h.0.0 (omega (arith, h.0.1))) refl) (number_plain s.slot (omega (arith, h.1)))

-- no queue pair is spelled `any`
numeral_is_no_any : (w t : List ℕ) → IsNumeral 10 w → bytes_eq (w ++ t) (codes "any") ≡ false
numeral_is_no_any [] t h = absurd (omega (arith, h.0))
numeral_is_no_any (c ∷ cs) t h =
    let below : digit_value c < 10 = h.1.0 in
    let differs : eqb c 97 ≡ false = ne_eqb c 97 (λ same. let e : digit_value c ≡ digit_value 97 = ap digit_value same in omega (arith, e, below)) in
    rw differs refl

pub queues_again : (q : Option QueueId) → IfSome q QueueFits → queues_in (queues_text q) ≡ Some q
unfolding queues_in
queues_again None h = refl
queues_again (Some q) h =
    let none : bytes_eq (queue_text q) (codes "any") ≡ false = ap (λ (x : List ℕ). bytes_eq x (codes "any")) (two_text 47 (decimal q.adapter) (decimal q.number)) ∙ numeral_is_no_any (decimal q.adapter) (47 ∷ decimal q.number) (decimal_digits q.adapter (omega (arith, h.0))) in
    ap (λ (b : Bool). cond b (Some None) (queue_in (queue_text q) >>= λ q. Some (Some q))) none
    ∙ ap (λ (r : Option QueueId). r >>= λ q. Some (Some q)) (queue_again q h)

pub queues_plain : (q : Option QueueId) → IfSome q QueueFits → plain (queues_text q) ≡ true
queues_plain None h = refl
queues_plain (Some q) h = in_adapter_plain q.adapter q.number h.0 (omega (arith, h.1))

-- the digit of each value
glyph : (d : ℕ) → d < 16 → digit_value (slice_index lower_digits d) ≡ d
glyph zero h = refl
glyph (suc zero) h = refl
glyph (suc (suc zero)) h = refl
glyph (suc (suc (suc zero))) h = refl
glyph (suc (suc (suc (suc zero)))) h = refl
glyph (suc (suc (suc (suc (suc zero))))) h = refl
glyph (suc (suc (suc (suc (suc (suc zero)))))) h = refl
glyph (suc (suc (suc (suc (suc (suc (suc zero))))))) h = refl
glyph (suc (suc (suc (suc (suc (suc (suc (suc zero)))))))) h = refl
glyph (suc (suc (suc (suc (suc (suc (suc (suc (suc zero))))))))) h = refl
glyph (suc (suc (suc (suc (suc (suc (suc (suc (suc (suc zero)))))))))) h = refl
glyph (suc (suc (suc (suc (suc (suc (suc (suc (suc (suc (suc zero))))))))))) h = refl
glyph (suc (suc (suc (suc (suc (suc (suc (suc (suc (suc (suc (suc zero)))))))))))) h = refl
glyph (suc (suc (suc (suc (suc (suc (suc (suc (suc (suc (suc (suc (suc zero))))))))))))) h = refl
glyph (suc (suc (suc (suc (suc (suc (suc (suc (suc (suc (suc (suc (suc (suc zero)))))))))))))) h = refl
glyph (suc (suc (suc (suc (suc (suc (suc (suc (suc (suc (suc (suc (suc (suc (suc zero))))))))))))))) h = refl
glyph (suc (suc (suc (suc (suc (suc (suc (suc (suc (suc (suc (suc (suc (suc (suc (suc n)))))))))))))))) h = absurd (omega arith)

tail_bytes : (b : ℕ) (bs : List ℕ) → IsBytes (b ∷ bs) → IsBytes bs
tail_bytes b bs h i = h (suc i)

hex_digits : (bs : List ℕ) → IsBytes bs → AllDigits 16 (encode_lower bs)
unfolding encode_with
hex_digits [] h = tt
hex_digits (b ∷ bs) h =
    let byte : b < 256 = h 0 in
    (rw (glyph (b / 16) (omega arith)) (omega arith), (rw (glyph (b % 16) (omega arith)) (omega arith), hex_digits bs (tail_bytes b bs h)))

hex_value : (n b : ℕ) (bs : List ℕ) → b < 256 → digits_value_after 16 n (encode_lower (b ∷ bs)) ≡ digits_value_after 16 (n * 256 + b) (encode_lower bs)
unfolding encode_with
hex_value n b bs byte =
    let high = glyph (b / 16) (omega arith) in
    let low = glyph (b % 16) (omega arith) in
    ap (λ (k : ℕ). digits_value_after 16 k (encode_lower bs))
    (ap (λ (x : ℕ). (n * 16 + x) * 16 + digit_value (slice_index lower_digits (b % 16))) high ∙ ap (λ (x : ℕ). (n * 16 + b / 16) * 16 + x) low ∙ omega arith)

key_bytes : (n : ℕ) → IsBytes (to_be_bytes w32 n)
key_bytes n zero = omega arith
key_bytes n (suc zero) = omega arith
key_bytes n (suc (suc zero)) = omega arith
key_bytes n (suc (suc (suc zero))) = omega arith
key_bytes n (suc (suc (suc (suc i)))) = omega arith

four_bytes : (a b c d : ℕ) → a < 256 → b < 256 → c < 256 → d < 256 → digits_value_after 16 0 (encode_lower (a ∷ b ∷ c ∷ d ∷ [])) ≡ (((0 * 256 + a) * 256 + b) * 256 + c) * 256 + d
unfolding encode_with
four_bytes a b c d ha hb hc hd =
    hex_value 0 a (b ∷ c ∷ d ∷ []) ha ∙ hex_value (0 * 256 + a) b (c ∷ d ∷ []) hb ∙ hex_value ((0 * 256 + a) * 256 + b) c (d ∷ []) hc ∙ hex_value (((0 * 256 + a) * 256 + b) * 256 + c) d [] hd

key_value : (n : ℕ) → n ≤ 4294967295 → digits_value_after 16 0 (encode_lower (to_be_bytes w32 n)) ≡ n
key_value n h =
    let back : from_be_bytes w32 (to_be_bytes w32 n) ≡ n = from_be_bytes-to_be_bytes_4 n (omega arith) in
    let value = four_bytes _ _ _ _ (key_bytes n 0) (key_bytes n 1) (key_bytes n 2) (key_bytes n 3) in
    value ∙ omega (arith, back)

pub key_again : (k : Key) → KeyFits k → key_in (key_text k) ≡ Some k
unfolding key_in value_in
key_again k h =
    let e = key_value k.0 h in
    rw (value_read 16 4294967295 0 (encode_lower (to_be_bytes w32 k.0)) (omega arith) (rw e h), e) refl

key_digits : (k : Key) → AllDigits 16 (encode_lower (to_be_bytes w32 k.0))
key_digits k = hex_digits (to_be_bytes w32 k.0) (key_bytes k.0)

pub key_plain : (k : Key) → plain (key_text k) ≡ true
key_plain k = digits_plain (encode_lower (to_be_bytes w32 k.0)) (key_digits k)

address_digits : (at : ℕ) → at ≤ 18446744073709551615 → AllDigits 16 (digits 16 false at)
address_digits at h = (digits_is_IsNumeral 16 false (omega arith) (omega arith) at (omega arith)).0.1

pub address_again : (at : ℕ) → at ≤ 18446744073709551615 → address_in (address_text at) ≡ Some at
unfolding address_in
address_again at h = digits_again 16 18446744073709551615 at (omega arith) (omega arith) h (omega arith)

pub address_plain : (at : ℕ) → at ≤ 18446744073709551615 → plain (address_text at) ≡ true
address_plain at h = digits_plain (digits 16 false at) (address_digits at h)

hex_is_some : (b : ℕ) (bs : List ℕ) → IsBytes (b ∷ bs) → bytes_eq (encode_lower (b ∷ bs)) dash ≡ false
unfolding encode_with
hex_is_some b bs h =
    let byte : b < 256 = h 0 in
    let differs : eqb (slice_index lower_digits (b / 16)) 45 ≡ false = ne_eqb (slice_index lower_digits (b / 16)) 45 (λ same. let e : digit_value (slice_index lower_digits (b / 16)) ≡ digit_value 45 = ap digit_value same in omega (arith, e, glyph (b / 16) (omega arith))) in
    rw differs refl

pub hex_again : (bytes : List ℕ) → IsBytes bytes → hex_in (hexadecimal bytes) ≡ Some bytes
unfolding hex_in
hex_again [] h = refl
hex_again (b ∷ bs) h = rw (hex_is_some b bs h, bytes_again (b ∷ bs) h) refl

pub hex_plain : (bytes : List ℕ) → IsBytes bytes → plain (hexadecimal bytes) ≡ true
hex_plain [] h = refl
hex_plain (b ∷ bs) h = digits_plain (encode_lower (b ∷ bs)) (hex_digits (b ∷ bs) h)

-- ---- values that may be missing

pub perhaps_again : {Y : Type 0} (reader : List ℕ → Option Y) (spelling : Y → List ℕ) (o : Option Y) → IfSome o (λ x. (reader (spelling x) ≡ Some x) × (bytes_eq (spelling x) dash ≡ false)) → perhaps_in reader (perhaps spelling o) ≡ Some o
perhaps_again reader spelling None h = refl
perhaps_again reader spelling (Some x) h = rw (h.1, h.0) refl

pub perhaps_number_again : (bound : ℕ) (n : Option ℕ) → bound ≤ 18446744073709551615 → IfSome n (λ n. n ≤ bound) → perhaps_in (number_in bound) (perhaps decimal n) ≡ Some n
perhaps_number_again bound None small h = refl
perhaps_number_again bound (Some n) small h = rw (number_is_some n (omega arith), number_again bound n h small) refl

pub perhaps_number_plain : (n : Option ℕ) → IfSome n (λ n. n ≤ 18446744073709551615) → plain (perhaps decimal n) ≡ true
perhaps_number_plain None h = refl
perhaps_number_plain (Some n) h = number_plain n h

pub perhaps_key_again : (k : Option Key) → IfSome k KeyFits → perhaps_in key_in (perhaps key_text k) ≡ Some k
perhaps_key_again None h = refl
perhaps_key_again (Some k) h = rw (key_again k h) refl

pub perhaps_key_plain : (k : Option Key) → IfSome k KeyFits → plain (perhaps key_text k) ≡ true
perhaps_key_plain None h = refl
perhaps_key_plain (Some k) h = key_plain k

-- ---- lists with commas between

-- a word that may stand in such a list
pub record IsListed {Y : Type 0} (reader : List ℕ → Option Y) (spelling : Y → List ℕ) (x : Y) : Type 0 where
  pub again : reader (spelling x) ≡ Some x
  pub lack : lacks 44 (spelling x) ≡ true
  pub some : (t : List ℕ) → bytes_eq (spelling x ++ t) dash ≡ false
  pub clear : plain (spelling x) ≡ true

all_again : {Y : Type 0} (reader : List ℕ → Option Y) (spelling : Y → List ℕ) (xs : List Y) → AllByRecursion (IsListed reader spelling) xs → all_in reader (map spelling xs) ≡ Some xs
all_again reader spelling [] h = refl
all_again reader spelling (x ∷ xs) h = rw (h.0.again, all_again reader spelling xs h.1) refl

each_lacks : {Y : Type 0} (reader : List ℕ → Option Y) (spelling : Y → List ℕ) (xs : List Y) → AllByRecursion (IsListed reader spelling) xs → all_lack 44 (map spelling xs) ≡ true
each_lacks reader spelling [] h = refl
each_lacks reader spelling (x ∷ xs) h = rw (h.0.lack) (each_lacks reader spelling xs h.1)

list_again : {Y : Type 0} (reader : List ℕ → Option Y) (spelling : Y → List ℕ) (xs : List Y) → AllByRecursion (IsListed reader spelling) xs → list_in reader (commas (map spelling xs)) ≡ Some xs
list_again reader spelling [] h = refl
list_again reader spelling (x ∷ xs) h =
    rw (h.0.some (led 44 (map spelling xs)), pieces_joined 44 (spelling x) (map spelling xs) h.0.lack (each_lacks reader spelling xs h.1), h.0.again, all_again reader spelling xs h.1) refl

led_plain : {Y : Type 0} (reader : List ℕ → Option Y) (spelling : Y → List ℕ) (xs : List Y) → AllByRecursion (IsListed reader spelling) xs → plain (led 44 (map spelling xs)) ≡ true
led_plain reader spelling [] h = refl
led_plain reader spelling (x ∷ xs) h = plain_append (44 ∷ spelling x) (led 44 (map spelling xs)) h.0.clear (led_plain reader spelling xs h.1)

pub list_plain : {Y : Type 0} (reader : List ℕ → Option Y) (spelling : Y → List ℕ) (xs : List Y) → AllByRecursion (IsListed reader spelling) xs → plain (commas (map spelling xs)) ≡ true
list_plain reader spelling [] h = refl
list_plain reader spelling (x ∷ xs) h = plain_append (spelling x) (led 44 (map spelling xs)) h.0.clear (led_plain reader spelling xs h.1)

pub all_then : {Y : Type 0} {P Q : Y → Type 0} → ((x : Y) → P x → Q x) → (xs : List Y) → AllByRecursion P xs → AllByRecursion Q xs
all_then f [] h = tt
all_then f (x ∷ xs) h = (f x h.0, all_then f xs h.1)

numeral_begins : (w t : List ℕ) → IsNumeral 10 w → bytes_eq (w ++ t) dash ≡ false
numeral_begins [] t h = absurd (omega (arith, h.0))
numeral_begins (c ∷ cs) t h =
    let below : digit_value c < 10 = h.1.0 in
    let differs : eqb c 45 ≡ false = ne_eqb c 45 (λ same. let e : digit_value c ≡ digit_value 45 = ap digit_value same in omega (arith, e, below)) in
    rw differs refl

numeral_is_no_arrow : (w : List ℕ) → IsNumeral 10 w → bytes_eq w (codes "->") ≡ false
numeral_is_no_arrow [] h = absurd (omega (arith, h.0))
numeral_is_no_arrow (c ∷ cs) h =
    let below : digit_value c < 10 = h.1.0 in
    let differs : eqb c 45 ≡ false = ne_eqb c 45 (λ same. let e : digit_value c ≡ digit_value 45 = ap digit_value same in omega (arith, e, below)) in
    rw differs refl

pub number_is_no_arrow : (n : ℕ) → n ≤ 18446744073709551615 → bytes_eq (decimal n) (codes "->") ≡ false
number_is_no_arrow n h = numeral_is_no_arrow (decimal n) (decimal_digits n h)

pub page_listed : (page : ℕ) → page ≤ 65535 → IsListed (number_in 65535) decimal page
page_listed page h = record {
  again = number_again 65535 page h (omega arith);
  lack = number_lacks 44 page (omega arith) (omega arith);
  some = λ t. numeral_begins (decimal page) t (decimal_digits page (omega arith));
  clear = number_plain page (omega arith);
}

pub pages_again : (pages : List ℕ) → AllByRecursion (λ page. page ≤ 65535) pages → list_in (number_in 65535) (commas (map decimal pages)) ≡ Some pages
pages_again pages h = list_again (number_in 65535) decimal pages (all_then page_listed pages h)

key_lacks : (separator : ℕ) (k : Key) → 16 ≤ digit_value separator → lacks separator (48 ∷ 120 ∷ []) ≡ true → lacks separator (key_text k) ≡ true
key_lacks separator k high front = lacks_append separator (48 ∷ 120 ∷ []) (encode_lower (to_be_bytes w32 k.0)) front (digits_lack separator _ high (key_digits k))

address_lacks : (separator at : ℕ) → at ≤ 18446744073709551615 → 16 ≤ digit_value separator → lacks separator (48 ∷ 120 ∷ []) ≡ true → lacks separator (address_text at) ≡ true
address_lacks separator at h high front = lacks_append separator (48 ∷ 120 ∷ []) (digits 16 false at) front (digits_lack separator _ high (address_digits at h))

piece_words : (p : Piece) → piece_text p ≡ key_text p.key ++ 58 ∷ (address_text p.address ++ 58 ∷ decimal p.length)
piece_words p = three_text 58 58 (key_text p.key) (address_text p.address) (decimal p.length)

pub piece_again : (p : Piece) → PieceFits p → piece_in (piece_text p) ≡ Some p
unfolding piece_in
piece_again p h =
    let len : p.length ≤ 4294967295 = h.2 in
    ap piece_in (piece_words p)
    ∙ ap (λ (ws : List (List ℕ)). field key_in ws >>= λ key. field address_in key.1 >>= λ address. field (number_in 4294967295) address.1 >>= λ count. Some (record { address = address.0; key = key.0; length = count.0 })) (three_pieces 58 (key_text p.key) (address_text p.address) (decimal p.length) (key_lacks 58 p.key (omega arith) refl) (address_lacks 58 p.address h.1 (omega arith) refl) (number_lacks 58 p.length (omega arith) (omega arith)))
    ∙ rw (key_again p.key h.0, address_again p.address h.1, number_again 4294967295 p.length len (omega arith)) refl

pub piece_listed : (p : Piece) → PieceFits p → IsListed piece_in piece_text p
piece_listed p h =
    let len : p.length ≤ 4294967295 = h.2 in
    record {
      again = piece_again p h;
      lack = ap (lacks 44) (piece_words p) ∙ lacks_append 44 (key_text p.key) (58 ∷ (address_text p.address ++ 58 ∷ decimal p.length)) (key_lacks 44 p.key (omega arith) refl) (lacks_append 44 (address_text p.address) (58 ∷ decimal p.length) (address_lacks 44 p.address h.1 (omega arith) refl) (number_lacks 44 p.length (omega arith) (omega arith)));
      some = λ t. refl;
      clear = ap plain (piece_words p) ∙ plain_append (key_text p.key) (58 ∷ (address_text p.address ++ 58 ∷ decimal p.length)) (key_plain p.key) (plain_append (address_text p.address) (58 ∷ decimal p.length) (address_plain p.address h.1) (number_plain p.length (omega arith)));
    }

pub pieces_again : (list : List Piece) → length list ≤ 4 → AllByRecursion PieceFits list → pieces_in (commas (map piece_text list)) ≡ Some list
unfolding pieces_in
pieces_again list few h = rw (list_again piece_in piece_text list (all_then piece_listed list h), le-leb (length list) 4 few) refl

run_words : (r : Run) → run_text r ≡ (decimal r.adapter ++ 47 ∷ decimal r.buffer) ++ 58 ∷ (decimal r.offset ++ 43 ∷ decimal r.length)
run_words r =
    three_text 58 43 ((decimal r.adapter ++ 47 ∷ []) ++ decimal r.buffer) (decimal r.offset) (decimal r.length)
    ∙ ap (λ (x : List ℕ). x ++ 58 ∷ (decimal r.offset ++ 43 ∷ decimal r.length)) (two_text 47 (decimal r.adapter) (decimal r.buffer))

run_begins : (r : Run) → run_text r ≡ decimal r.adapter ++ 47 ∷ (decimal r.buffer ++ 58 ∷ (decimal r.offset ++ 43 ∷ decimal r.length))
run_begins r = run_words r ∙ append_assoc (decimal r.adapter) (47 ∷ decimal r.buffer) (58 ∷ (decimal r.offset ++ 43 ∷ decimal r.length))

pub run_again : (r : Run) → RunFits r → run_in (run_text r) ≡ Some r
unfolding run_in
run_again r h =
    let a : r.adapter ≤ 255 = h.0 in
    let b : r.buffer ≤ 65535 = h.1 in
    let o : r.offset ≤ 4294967295 = h.2 in
    let n : r.length ≤ 4294967295 = h.3 in
    ap run_in (run_words r)
    ∙ rw (two_pieces 58 (decimal r.adapter ++ 47 ∷ decimal r.buffer) (decimal r.offset ++ 43 ∷ decimal r.length) (lacks_append 58 (decimal r.adapter) (47 ∷ decimal r.buffer) (number_lacks 58 r.adapter (omega arith) (omega arith)) (number_lacks 58 r.buffer (omega arith) (omega arith))) (lacks_append 58 (decimal r.offset) (43 ∷ decimal r.length) (number_lacks 58 r.offset (omega arith) (omega arith)) (number_lacks 58 r.length (omega arith) (omega arith))), in_adapter_again 65535 r.adapter r.buffer a b (omega arith), two_pieces 43 (decimal r.offset) (decimal r.length) (number_lacks 43 r.offset (omega arith) (omega arith)) (number_lacks 43 r.length (omega arith) (omega arith)), number_again 4294967295 r.offset o (omega arith), number_again 4294967295 r.length n (omega arith)) refl

pub run_listed : (r : Run) → RunFits r → IsListed run_in run_text r
run_listed r h =
    let a : r.adapter ≤ 255 = h.0 in
    let b : r.buffer ≤ 65535 = h.1 in
    let o : r.offset ≤ 4294967295 = h.2 in
    let n : r.length ≤ 4294967295 = h.3 in
    record {
      again = run_again r h;
      lack = ap (lacks 44) (run_begins r) ∙ lacks_append 44 (decimal r.adapter) (47 ∷ (decimal r.buffer ++ 58 ∷ (decimal r.offset ++ 43 ∷ decimal r.length))) (number_lacks 44 r.adapter (omega arith) (omega arith)) (lacks_append 44 (decimal r.buffer) (58 ∷ (decimal r.offset ++ 43 ∷ decimal r.length)) (number_lacks 44 r.buffer (omega arith) (omega arith)) (lacks_append 44 (decimal r.offset) (43 ∷ decimal r.length) (number_lacks 44 r.offset (omega arith) (omega arith)) (number_lacks 44 r.length (omega arith) (omega arith))));
      some = λ t. ap (λ (x : List ℕ). bytes_eq (x ++ t) dash) (run_begins r) ∙ ap (λ (x : List ℕ). bytes_eq x dash) (append_assoc (decimal r.adapter) (47 ∷ (decimal r.buffer ++ 58 ∷ (decimal r.offset ++ 43 ∷ decimal r.length))) t) ∙ numeral_begins (decimal r.adapter) (47 ∷ (decimal r.buffer ++ 58 ∷ (decimal r.offset ++ 43 ∷ decimal r.length)) ++ t) (decimal_digits r.adapter (omega arith));
      clear = ap plain (run_begins r) ∙ plain_append (decimal r.adapter) (47 ∷ (decimal r.buffer ++ 58 ∷ (decimal r.offset ++ 43 ∷ decimal r.length))) (number_plain r.adapter (omega arith)) (plain_append (decimal r.buffer) (58 ∷ (decimal r.offset ++ 43 ∷ decimal r.length)) (number_plain r.buffer (omega arith)) (plain_append (decimal r.offset) (43 ∷ decimal r.length) (number_plain r.offset (omega arith)) (number_plain r.length (omega arith))));
    }

pub runs_again : (runs : List Run) → AllByRecursion RunFits runs → list_in run_in (commas (map run_text runs)) ≡ Some runs
runs_again runs h = list_again run_in run_text runs (all_then run_listed runs h)

-- ---- rights and flags

rights_are : (l r w a b : Bool) → (rights_in (rights_text (record { local_write = l; remote_read = r; remote_write = w; remote_atomic = a; window_bind = b })) ≡ record { local_write = l; remote_read = r; remote_write = w; remote_atomic = a; window_bind = b }) × (plain (rights_text (record { local_write = l; remote_read = r; remote_write = w; remote_atomic = a; window_bind = b })) ≡ true)
unfolding rights_in
rights_are true true true true true = (refl, refl)
rights_are true true true true false = (refl, refl)
rights_are true true true false true = (refl, refl)
rights_are true true true false false = (refl, refl)
rights_are true true false true true = (refl, refl)
rights_are true true false true false = (refl, refl)
rights_are true true false false true = (refl, refl)
rights_are true true false false false = (refl, refl)
rights_are true false true true true = (refl, refl)
rights_are true false true true false = (refl, refl)
rights_are true false true false true = (refl, refl)
rights_are true false true false false = (refl, refl)
rights_are true false false true true = (refl, refl)
rights_are true false false true false = (refl, refl)
rights_are true false false false true = (refl, refl)
rights_are true false false false false = (refl, refl)
rights_are false true true true true = (refl, refl)
rights_are false true true true false = (refl, refl)
rights_are false true true false true = (refl, refl)
rights_are false true true false false = (refl, refl)
rights_are false true false true true = (refl, refl)
rights_are false true false true false = (refl, refl)
rights_are false true false false true = (refl, refl)
rights_are false true false false false = (refl, refl)
rights_are false false true true true = (refl, refl)
rights_are false false true true false = (refl, refl)
rights_are false false true false true = (refl, refl)
rights_are false false true false false = (refl, refl)
rights_are false false false true true = (refl, refl)
rights_are false false false true false = (refl, refl)
rights_are false false false false true = (refl, refl)
rights_are false false false false false = (refl, refl)

pub rights_again : (r : Rights) → rights_in (rights_text r) ≡ r
rights_again r = (rights_are r.local_write r.remote_read r.remote_write r.remote_atomic r.window_bind).0

pub rights_plain : (r : Rights) → plain (rights_text r) ≡ true
rights_plain r = (rights_are r.local_write r.remote_read r.remote_write r.remote_atomic r.window_bind).1

pub flags_again : (a b c : Bool) → (has 115 (flags_text a b c) ≡ a) × (has 102 (flags_text a b c) ≡ b) × (has 101 (flags_text a b c) ≡ c) × (plain (flags_text a b c) ≡ true)
flags_again true true true = (refl, refl, refl, refl)
flags_again true true false = (refl, refl, refl, refl)
flags_again true false true = (refl, refl, refl, refl)
flags_again true false false = (refl, refl, refl, refl)
flags_again false true true = (refl, refl, refl, refl)
flags_again false true false = (refl, refl, refl, refl)
flags_again false false true = (refl, refl, refl, refl)
flags_again false false false = (refl, refl, refl, refl)
