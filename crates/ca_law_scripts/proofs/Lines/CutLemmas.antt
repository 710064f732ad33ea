-- The line of a verb is cut into its words again.
use Rattle.std.proofs.Common.{◌≡◌, ℕ, ◌/◌, ◌%◌, ◌-◌, ◌<◌, ◌≤◌, Bool, true, false, ◌&&◌, eqb, List, [], ◌∷◌, ◌++◌, length, length-append, Some, None, decimal, map, refl, ap, ◌∙◌, arith, inl, inr}
use Rattle.std.specs.Int.{w32, to_be_bytes}
use Rattle.std.specs.List.{filter, list_all}
use Rattle.std.proofs.lemmas.Bool.{cases_Bool, ne_eqb}
use Rattle.hex.specs.Hex.{encode_lower, encode_with, lower_digits}
use Rattle.std.specs.Prelude.{slice_index}
use Rattle.std.specs.Fmt.{digits}
use Rattle.ca_base.specs.Spelling.{piece_text}
use Rattle.ca_base.specs.declared.change.Change.{Change}
use Rattle.ca_base.specs.declared.change.Change.TheVariants as changes
use Rattle.ca_base.specs.declared.request.SendOp.{SendOp}
use Rattle.ca_base.specs.declared.request.SendOp.TheVariants as ops
use Rattle.ca_base.specs.declared.limits.TheConstants.{MAX_CONSUMERS}
use Rattle.ca_keys.specs.declared.names.Slot.{Slot}
use Rattle.ca_keys.specs.Spelling.{address_text, rights_text}
use Rattle.ca_model.specs.declared.verb.Verb.{Verb}
use Rattle.ca_model.specs.declared.verb.Verb.TheVariants as verbs
use Rattle.ca_trace_print.specs.Verbs.{change_words, operation_words, poll_words, verb_words, call_words, call}
use Rattle.ca_trace_print.specs.Words.{Field, Fixed, Number, Lettered, Perhaps, InAdapter, OfDomain, OfSlot, OfQueue, OfKey, Address, Hex, OfRights, OfFlags, OfPieces, OfPages, word, words, joined, led, flags_text, hexadecimal}
use Rattle.ca_trace_lex.proofs.NameLemmas.{field_plain}
use Rattle.ca_trace_lex.specs.Fits.{Fits, AllFit}
use Rattle.ca_trace_lex.specs.Words.{pieces}
use Rattle.ca_trace_lex.proofs.NumberLemmas.{decimal_digits}
use Rattle.ca_trace_lex.proofs.PieceLemmas.{all_lack, pieces_joined, plain_lacks}
use Rattle.ca_trace_lex.proofs.WordLemmas.{most_small}
use Rattle.ca_script_lex.specs.Words.{is_word, words_of}
use Rattle.ca_law_scripts.specs.Agreement.{LinesAgree}
use Rattle.ca_law_scripts.proofs.Lines.WordLemmas.{decimal_consumer, decimal_limited}
use Rattle.ca_law_scripts.proofs.Lines.VerbLemmas.{verb_said}

-- ---- no word is empty

has_bytes : (w : List ℕ) → 0 < length w → is_word w ≡ true
has_bytes w h = rw (ne_eqb (length w) 0 (λ same. omega (arith, h, same))) refl

decimal_some : (n : ℕ) → n ≤ 18446744073709551615 → 0 < length (decimal n)
decimal_some n h = omega (arith, (decimal_digits n h).0)

front_some : (a b : List ℕ) → 0 < length a → is_word (a ++ b) ≡ true
front_some a b h = has_bytes (a ++ b) (omega (arith, h, length-append a b))

cons_some : (c : ℕ) (cs : List ℕ) → is_word (c ∷ cs) ≡ true
cons_some c cs = has_bytes (c ∷ cs) (omega arith)

two_some : (a b c : List ℕ) → 0 < length a → is_word ((a ++ b) ++ c) ≡ true
two_some a b c h = front_some (a ++ b) c (omega (arith, h, length-append a b))

four_some : (a b c d e : List ℕ) → 0 < length a → is_word ((((a ++ b) ++ c) ++ d) ++ e) ≡ true
four_some a b c d e h = two_some ((a ++ b) ++ c) d e (omega (arith, h, length-append a b, length-append (a ++ b) c))

flags_some : (a b c : Bool) → is_word (flags_text a b c) ≡ true
flags_some true true true = refl
flags_some true true false = refl
flags_some true false true = refl
flags_some true false false = refl
flags_some false true true = refl
flags_some false true false = refl
flags_some false false true = refl
flags_some false false false = refl

letters_some : (l r w a b : Bool) → is_word (rights_text (record { local_write = l; remote_read = r; remote_write = w; remote_atomic = a; window_bind = b })) ≡ true
letters_some true true true true true = refl
letters_some true true true true false = refl
letters_some true true true false true = refl
letters_some true true true false false = refl
letters_some true true false true true = refl
letters_some true true false true false = refl
letters_some true true false false true = refl
letters_some true true false false false = refl
letters_some true false true true true = refl
letters_some true false true true false = refl
letters_some true false true false true = refl
letters_some true false true false false = refl
letters_some true false false true true = refl
letters_some true false false true false = refl
letters_some true false false false true = refl
letters_some true false false false false = refl
letters_some false true true true true = refl
letters_some false true true true false = refl
letters_some false true true false true = refl
letters_some false true true false false = refl
letters_some false true false true true = refl
letters_some false true false true false = refl
letters_some false true false false true = refl
letters_some false true false false false = refl
letters_some false false true true true = refl
letters_some false false true true false = refl
letters_some false false true false true = refl
letters_some false false true false false = refl
letters_some false false false true true = refl
letters_some false false false true false = refl
letters_some false false false false true = refl
letters_some false false false false false = refl

hex_some : (bytes : List ℕ) → is_word (hexadecimal bytes) ≡ true
unfolding encode_with
hex_some [] = refl
hex_some (b ∷ bs) = cons_some (slice_index lower_digits (b / 16)) (slice_index lower_digits (b % 16) ∷ encode_with lower_digits bs)

-- a kind of word that verbs have
is_verb_field : Field → Bool
is_verb_field (Fixed text) = is_word text
is_verb_field (Number width n) = true
is_verb_field (Lettered c width n) = true
is_verb_field (Perhaps width n) = true
is_verb_field (InAdapter adapter width n) = true
is_verb_field (OfDomain d) = true
is_verb_field (OfSlot s) = true
is_verb_field (OfQueue q) = true
is_verb_field (OfKey k) = true
is_verb_field (Address at) = true
is_verb_field (Hex bytes) = true
is_verb_field (OfRights r) = true
is_verb_field (OfFlags a b c) = true
is_verb_field (OfPieces list) = true
is_verb_field (OfPages pages) = true
is_verb_field other = false

field_some : (f : Field) → Fits f → is_verb_field f ≡ true → is_word (word f) ≡ true
unfolding is_verb_field
field_some (Fixed text) h v = v
field_some (Number width n) h v = has_bytes (decimal n) (decimal_some n (omega (arith, h, most_small width)))
field_some (Lettered c width n) h v = cons_some c (decimal n)
field_some (Perhaps width None) h v = refl
field_some (Perhaps width (Some n)) h v = has_bytes (decimal n) (decimal_some n (omega (arith, h, most_small width)))
field_some (InAdapter adapter width n) h v = two_some (decimal adapter) (47 ∷ []) (decimal n) (decimal_some adapter (omega (arith, h.0)))
field_some (OfDomain d) h v = two_some (decimal d.adapter) (47 ∷ []) (decimal d.domain) (decimal_some d.adapter (omega (arith, h.0)))
field_some (OfSlot s) h v = four_some (decimal s.domain.adapter) (47 ∷ []) (decimal s.domain.domain) (47 ∷ []) (decimal s.slot) (decimal_some s.domain.adapter (omega (arith, h.0.0)))
field_some (OfQueue q) h v = two_some (decimal q.adapter) (47 ∷ []) (decimal q.number) (decimal_some q.adapter (omega (arith, h.0)))
field_some (OfKey k) h v = cons_some 48 (120 ∷ encode_lower (to_be_bytes w32 k.0))
field_some (Address at) h v = cons_some 48 (120 ∷ digits 16 false at)
field_some (Hex bytes) h v = hex_some bytes
field_some (OfRights r) h v = letters_some r.local_write r.remote_read r.remote_write r.remote_atomic r.window_bind
field_some (OfFlags a b c) h v = flags_some a b c
field_some (OfPieces []) h v = refl
field_some (OfPieces (p ∷ ps)) h v = cons_some 48 (120 ∷ (((((encode_lower (to_be_bytes w32 p.key.0) ++ 58 ∷ []) ++ address_text p.address) ++ 58 ∷ []) ++ decimal p.length) ++ led 44 (map piece_text ps)))
field_some (OfPages []) h v = refl
field_some (OfPages (p ∷ ps)) h v = front_some (decimal p) (led 44 (map decimal ps)) (decimal_some p (omega (arith, h.0)))
field_some other h v = absurd cc

fields_some : (fs : List Field) → AllFit fs → list_all is_verb_field fs ≡ true → filter is_word (words fs) ≡ words fs
fields_some [] h v = refl
fields_some (f ∷ fs) h v =
    let both = and_parts (is_verb_field f) (list_all is_verb_field fs) v in
    rw (field_some f h.0 both.0, fields_some fs h.1 both.1) refl where
      and_parts : (a b : Bool) → (a && b) ≡ true → (a ≡ true) × (b ≡ true)
      and_parts true b e = (refl, e)
      and_parts false b e = absurd cc

-- ---- verbs have such words

operation_fields : (op : SendOp) → list_all is_verb_field (operation_words op) ≡ true
unfolding is_verb_field
operation_fields (ops.Send list) = refl
operation_fields (ops.SendImm imm list) = refl
operation_fields (ops.SendInv key list) = refl
operation_fields (ops.Write at key list) = refl
operation_fields (ops.WriteImm at key imm list) = refl
operation_fields (ops.Read at key list) = refl
operation_fields (ops.CmpSwap at key a b list) = refl
operation_fields (ops.FetchAdd at key a list) = refl
operation_fields (ops.Bind1 w key at n r) = refl
operation_fields (ops.Bind2 w key low at n r) = refl
operation_fields (ops.FastReg w low b at n r pages) = refl
operation_fields (ops.LocalInv key) = refl

change_fields : (s : Slot) (change : Change) → list_all is_verb_field (change_words s change) ≡ true
unfolding is_verb_field
change_fields s changes.Reset = refl
change_fields s changes.Init = refl
change_fields s changes.Sqd = refl
change_fields s changes.Resume = refl
change_fields s changes.Error = refl
change_fields s (changes.Rtr peer i psn mtu code) = refl
change_fields s (changes.Rts psn a b c) = refl

poll_fields : (s : Slot) (n least : ℕ) → list_all is_verb_field (poll_words s n least) ≡ true
unfolding is_verb_field
poll_fields s n least =
    elim (cases_Bool (eqb least 0)) [
      | inl e ↦ rw e refl
      | inr e ↦ elim (cases_Bool (eqb least n)) [
        | inl d ↦ rw (e, d) refl
        | inr d ↦ rw (e, d) refl
      ]
    ]

verb_fields : (v : Verb) → list_all is_verb_field (verb_words v) ≡ true
unfolding is_verb_field
verb_fields (verbs.AllocPd d) = refl
verb_fields (verbs.DeallocPd d) = refl
verb_fields (verbs.RegMr s b o n r) = refl
verb_fields (verbs.AllocMr s n) = refl
verb_fields (verbs.DeregMr s) = refl
verb_fields (verbs.AllocMw s n) = refl
verb_fields (verbs.DeallocMw s) = refl
verb_fields (verbs.CreateCq s n) = refl
verb_fields (verbs.DestroyCq s) = refl
verb_fields (verbs.CreateSrq s n) = refl
verb_fields (verbs.DestroySrq s) = refl
verb_fields (verbs.CreateQp s a b c d srq) = refl
verb_fields (verbs.QueryQp s) = refl
verb_fields (verbs.DestroyQp s) = refl
verb_fields (verbs.PostRecv s r) = refl
verb_fields (verbs.PostSrq s r) = refl
verb_fields (verbs.Store a b o bytes) = refl
verb_fields (verbs.Load a b o n) = refl
verb_fields (verbs.Inject q bytes) = refl
verb_fields (verbs.ModifyQp s change) = change_fields s change
verb_fields (verbs.Poll s n least) = poll_fields s n least
verb_fields (verbs.PostSend s r) = operation_fields r.op

-- ---- the line

each_lacks : (fs : List Field) → AllFit fs → all_lack 32 (words fs) ≡ true
each_lacks [] h = refl
each_lacks (f ∷ fs) h = rw (plain_lacks 32 (word f) (omega arith) (field_plain f h.0)) (each_lacks fs h.1)

cut_again : (f : Field) (fs : List Field) → AllFit (f ∷ fs) → pieces 32 (joined 32 (words (f ∷ fs))) ≡ words (f ∷ fs)
cut_again f fs h = pieces_joined 32 (word f) (words fs) (plain_lacks 32 (word f) (omega arith) (field_plain f h.0)) (each_lacks fs h.1)

call_fields : (by : ℕ) (v : Verb) → list_all is_verb_field (call_words by v) ≡ true
unfolding is_verb_field
call_fields by v = verb_fields v

words_again : (by : ℕ) (v : Verb) → AllFit (call_words by v) → words_of (call by v) ≡ words (call_words by v)
words_again by v h = ap (filter is_word) (cut_again (Lettered 99 w32 by) (verb_words v) h) ∙ fields_some (call_words by v) h (call_fields by v)

pub line_said : LinesAgree
line_said by v fits few said = (
  words_again by v fits,
  decimal_consumer by (omega arith),
  decimal_limited by (MAX_CONSUMERS - 1) few (omega arith),
  verb_said v fits.1 said,
)
