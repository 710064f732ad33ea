-- A number at the front of a text, and the words of numbers that a text is.
use Rattle.std.proofs.Common.{◌≡◌, ℕ, ◌+◌, ◌*◌, ◌-◌, ◌<◌, ◌≤◌, true, false, cond, ◌&&◌, eqb, leb, List, [], ◌∷◌, ◌++◌, length, take, drop, Ok, refl, sym, ap, ◌∙◌, arith, inl, inr, length-append, length-drop}
use Rattle.std.proofs.Math.Seq.{take-length}
use Rattle.std.specs.Char.{digit_value, is_digit}
use Rattle.std.specs.List.{list_all}
use Rattle.std.specs.Str.{bytes_eq}
use Rattle.std.specs.Str.Parse.{digits_value_after}
use Rattle.std.proofs.lemmas.Bool.{cases_Bool, le-leb, ne_eqb, eqb-true, and_parts, ltb-true}
use Rattle.std.proofs.lemmas.Bool.Decides.{nat_tests}
use Rattle.std.proofs.lemmas.List.{append-nil}
use Rattle.ca_trace_lex.specs.Words.{pieces}
use Rattle.ca_trace_lex.proofs.PieceLemmas.{lacks, first_piece, one_piece, lacks_append}
use Rattle.ca_script_lex.specs.Front.{digits_front, BeginsWith}
use Rattle.ca_keys.specs.Spelling.{dash}
use Rattle.ca_script_lex.specs.Words.{is_hexadecimal, is_number, value_of, limited, are_numbers, slot, piece, piece_list}

-- the digits at the front of a text
abbrev digits_at : ℕ → List ℕ → List ℕ
digits_at base [] = []
digits_at base (c ∷ cs) = cond (is_digit c base) (c ∷ digits_at base cs) []

front_splits : (base n : ℕ) (text : List ℕ) → text ≡ digits_at base text ++ (digits_front base n text).1
front_splits base n [] = refl
front_splits base n (c ∷ cs) =
    elim (cases_Bool (is_digit c base)) [
      | inl e ↦ rw e (ap (λ (x : List ℕ). c ∷ x) (front_splits base (n * base + digit_value c) cs))
      | inr e ↦ rw e refl
    ]

front_digits : (base : ℕ) (text : List ℕ) → list_all (λ c. is_digit c base) (digits_at base text) ≡ true
front_digits base [] = refl
front_digits base (c ∷ cs) =
    elim (cases_Bool (is_digit c base)) [
      | inl e ↦ rw (e, e) (front_digits base cs)
      | inr e ↦ rw e refl
    ]

front_value : (base n : ℕ) (text : List ℕ) → digits_value_after base n (digits_at base text) ≡ (digits_front base n text).0
front_value base n [] = refl
front_value base n (c ∷ cs) =
    elim (cases_Bool (is_digit c base)) [
      | inl e ↦ rw e (front_value base (n * base + digit_value c) cs)
      | inr e ↦ rw e refl
    ]

-- where less stands behind the digits, there are some
front_some : (base n : ℕ) (text : List ℕ) → length (digits_front base n text).1 < length text → eqb (length (digits_at base text)) 0 ≡ false
front_some base n text less =
    let split : length text ≡ length (digits_at base text) + length (digits_front base n text).1 = ap (λ (x : List ℕ). length x) (front_splits base n text) ∙ length-append (digits_at base text) (digits_front base n text).1 in
    ne_eqb (length (digits_at base text)) 0 (λ none. omega (arith, split, none, less))

-- decimal digits do not begin with `0x`
decimal_front : (w : List ℕ) → list_all (λ c. is_digit c 10) w ≡ true → is_hexadecimal w ≡ false
decimal_front [] h = refl
decimal_front (c ∷ []) h = refl
decimal_front (c ∷ d ∷ cs) h =
    let second = (and_parts (is_digit d 10) (list_all (λ c. is_digit c 10) cs) (and_parts (is_digit c 10) (list_all (λ c. is_digit c 10) (d ∷ cs)) h).1).0 in
    let low : digit_value d < 10 = ltb-true _ _ second in
    let differs : eqb d 120 ≡ false = ne_eqb d 120 (λ same. let e : digit_value d ≡ 33 = ap digit_value same in omega (arith, e, low)) in
    grind (arith, nat_tests)

pub begins_decimal : (n : ℕ) (text rest : List ℕ) → is_hexadecimal text ≡ false → (n, rest) ≡ digits_front 10 0 text → length rest < length text → BeginsWith n rest text
unfolding is_number value_of
begins_decimal n text rest h e less =
    let w = digits_at 10 text in
    let n_is : n ≡ (digits_front 10 0 text).0 = ap (λ (x : ℕ × List ℕ). x.0) e in
    let rest_is : rest ≡ (digits_front 10 0 text).1 = ap (λ (x : ℕ × List ℕ). x.1) e in
    let some : eqb (length w) 0 ≡ false = front_some 10 0 text (rw (sym rest_is) less) in (
      w,
      rw rest_is (front_splits 10 0 text),
      rw (decimal_front w (front_digits 10 text), some) (front_digits 10 text),
      rw (decimal_front w (front_digits 10 text)) (front_value 10 0 text ∙ sym n_is),
    )

-- `0x` and what stands behind it
hexadecimal_front : (c d : ℕ) (w : List ℕ) → eqb c 48 ≡ true → eqb d 120 ≡ true → is_hexadecimal (c ∷ d ∷ w) ≡ true
hexadecimal_front c d w first second =
    let long : leb 2 (length (c ∷ d ∷ w)) ≡ true = le-leb _ _ (omega arith) in
    rw (long, first, second) refl

pub begins_hexadecimal : (n : ℕ) (text rest : List ℕ) → is_hexadecimal text ≡ true → (n, rest) ≡ digits_front 16 0 (drop 2 text) → length rest < length (drop 2 text) → BeginsWith n rest text
unfolding is_number value_of
begins_hexadecimal n [] rest h e less = absurd cc
begins_hexadecimal n (c ∷ []) rest h e less = absurd cc
begins_hexadecimal n (c ∷ d ∷ t) rest h e less =
    let both = and_parts (leb 2 (length (c ∷ d ∷ t)) && eqb c 48) (eqb d 120) h in
    let first = (and_parts (leb 2 (length (c ∷ d ∷ t))) (eqb c 48) both.0).1 in
    let w = digits_at 16 t in
    let n_is : n ≡ (digits_front 16 0 t).0 = ap (λ (x : ℕ × List ℕ). x.0) e in
    let rest_is : rest ≡ (digits_front 16 0 t).1 = ap (λ (x : ℕ × List ℕ). x.1) e in
    let some : eqb (length w) 0 ≡ false = front_some 16 0 t (rw (sym rest_is) less) in (
      c ∷ d ∷ w,
      rw rest_is (ap (λ (x : List ℕ). c ∷ d ∷ x) (front_splits 16 0 t)),
      rw (hexadecimal_front c d w first both.1, some) (front_digits 16 t),
      rw (hexadecimal_front c d w first both.1) (front_value 16 0 t ∙ sym n_is),
    )

-- the same with all of what stands behind `0x`, as the code takes it
pub begins_behind : (n : ℕ) (text rest : List ℕ) → is_hexadecimal text ≡ true → (n, rest) ≡ digits_front 16 0 (take (length text - 2) (drop 2 text)) → length rest < length (take (length text - 2) (drop 2 text)) → BeginsWith n rest text
begins_behind n text rest h e less =
    let all : take (length text - 2) (drop 2 text) ≡ drop 2 text = ap (λ (k : ℕ). take k (drop 2 text)) (sym (length-drop 2 text)) ∙ take-length (drop 2 text) in
    begins_hexadecimal n text rest h (e ∙ ap (λ (t : List ℕ). digits_front 16 0 t) all) (rw (sym all) less)

pub ruleset beginning = (begins_decimal, begins_behind)

-- a text with nothing behind its number is this number
all_of_it : (n : ℕ) (text rest : List ℕ) → BeginsWith n rest text → eqb (length rest) 0 ≡ true → (is_number text ≡ true) × (value_of text ≡ n)
all_of_it n text [] (w, split, form, value) over =
    let same : text ≡ w = split ∙ append-nil w in
    (rw same form, rw same value)
all_of_it n text (c ∷ cs) b over = absurd (omega (arith, eqb-true _ _ over))

pub form_of_it : (n : ℕ) (text rest : List ℕ) → BeginsWith n rest text → eqb (length rest) 0 ≡ true → is_number text ≡ true
form_of_it n text rest b over = (all_of_it n text rest b over).0

pub value_of_it : (n : ℕ) (text rest : List ℕ) → BeginsWith n rest text → eqb (length rest) 0 ≡ true → value_of text ≡ n
value_of_it n text rest b over = (all_of_it n text rest b over).1

pub ruleset ending = (form_of_it, value_of_it)

-- ---- words between separators

-- no number has a separator that is neither a digit nor a letter
digits_lack : (separator base : ℕ) (w : List ℕ) → base ≤ 16 → digit_value separator ≡ 36 → list_all (λ c. is_digit c base) w ≡ true → lacks separator w ≡ true
digits_lack separator base [] low none h = refl
digits_lack separator base (c ∷ cs) low none h =
    let both = and_parts (is_digit c base) (list_all (λ c. is_digit c base) cs) h in
    let below : digit_value c < base = ltb-true _ _ both.0 in
    let differs : eqb c separator ≡ false = ne_eqb c separator (λ same. let e : digit_value c ≡ digit_value separator = ap digit_value same in omega (arith, e, below, none, low)) in
    rw differs (digits_lack separator base cs low none both.1)

number_lacks : (separator : ℕ) (w : List ℕ) → digit_value separator ≡ 36 → is_number w ≡ true → lacks separator w ≡ true
unfolding is_number
number_lacks separator w none h =
    elim (cases_Bool (is_hexadecimal w)) [
      | inl e ↦ behind separator w none e (and_parts _ _ (rw e at h)).1
      | inr e ↦ digits_lack separator 10 w (omega arith) none (and_parts _ _ (rw e at h)).1
    ]
  where
    behind : (separator : ℕ) (w : List ℕ) → digit_value separator ≡ 36 → is_hexadecimal w ≡ true → list_all (λ c. is_digit c 16) (drop 2 w) ≡ true → lacks separator w ≡ true
    behind separator [] none e h = absurd cc
    behind separator (c ∷ []) none e h = absurd cc
    behind separator (c ∷ d ∷ t) none e h =
        let both = and_parts (leb 2 (length (c ∷ d ∷ t)) && eqb c 48) (eqb d 120) e in
        let first = eqb-true _ _ (and_parts (leb 2 (length (c ∷ d ∷ t))) (eqb c 48) both.0).1 in
        let second = eqb-true _ _ both.1 in
        let one : eqb c separator ≡ false = ne_eqb c separator (λ same. let v : digit_value separator ≡ 0 = ap digit_value (sym same ∙ first) in omega (arith, v, none)) in
        let two : eqb d separator ≡ false = ne_eqb d separator (λ same. let v : digit_value separator ≡ 33 = ap digit_value (sym same ∙ second) in omega (arith, v, none)) in
        rw (one, two) (digits_lack separator 16 t (omega arith) none h)

form_in : {n : ℕ} {rest text : List ℕ} (b : BeginsWith n rest text) → is_number b.0 ≡ true
form_in (w, split, form, value) = form

value_in : {n : ℕ} {rest text : List ℕ} (b : BeginsWith n rest text) → value_of b.0 ≡ n
value_in (w, split, form, value) = value

-- a number with a separator behind it is the first word
next_word : (separator n : ℕ) (text more : List ℕ) (b : BeginsWith n (separator ∷ more) text) → digit_value separator ≡ 36 → pieces separator text ≡ b.0 ∷ pieces separator more
next_word separator n text more (w, split, form, value) none = rw split (first_piece separator w more (number_lacks separator w none form))

last_word : (separator : ℕ) (w : List ℕ) → digit_value separator ≡ 36 → is_number w ≡ true → pieces separator w ≡ w ∷ []
last_word separator w none form = one_piece separator w (number_lacks separator w none form)

limited_is : (high n : ℕ) (w : List ℕ) → value_of w ≡ n → n ≤ high → limited 0 high w ≡ Ok n
unfolding limited
limited_is high n w value h =
    let low : leb 0 n ≡ true = le-leb _ _ (omega arith) in
    let within : leb n high ≡ true = le-leb _ _ h in
    rw (value, low, within) refl

-- three numbers with a separator between
pub three_words : (separator a b : ℕ) (text behind c : List ℕ) (f : BeginsWith a (separator ∷ behind) text) (s : BeginsWith b (separator ∷ c) behind) → digit_value separator ≡ 36 → is_number c ≡ true → pieces separator text ≡ f.0 ∷ s.0 ∷ c ∷ []
three_words separator a b text behind c f s none form =
    next_word separator a text behind f none ∙ ap (λ (x : List (List ℕ)). f.0 ∷ x) (next_word separator b behind c s none ∙ ap (λ (x : List (List ℕ)). s.0 ∷ x) (last_word separator c none form))

pub slot_is : (a d s : ℕ) (text behind c : List ℕ) → BeginsWith a (47 ∷ behind) text → a ≤ 255 → BeginsWith d (47 ∷ c) behind → d ≤ 255 → is_number c ≡ true → value_of c ≡ s → s ≤ 65535 → slot text ≡ Ok (record { domain = record { adapter = a; domain = d }; slot = s })
unfolding slot are_numbers
slot_is a d s text behind c f af g dg form value sc =
    rw (three_words 47 a d text behind c f g refl form, form_in f, form_in g, form, limited_is 255 a f.0 (value_in f) af, limited_is 255 d g.0 (value_in g) dg, limited_is 65535 s c value sc) refl

pub ruleset slots = (slot_is)

-- a piece is one word of a list
piece_apart : (k a : ℕ) (text behind c : List ℕ) → BeginsWith k (58 ∷ behind) text → BeginsWith a (58 ∷ c) behind → is_number c ≡ true → lacks 44 text ≡ true
piece_apart k a text behind c (v, split, form, value) (w, split2, form2, value2) form3 =
    rw split (lacks_append 44 v (58 ∷ behind) (number_lacks 44 v refl form) (rw split2 (lacks_append 44 w (58 ∷ c) (number_lacks 44 w refl form2) (number_lacks 44 c refl form3))))

pub piece_is : (k a l : ℕ) (text behind c : List ℕ) → BeginsWith k (58 ∷ behind) text → k ≤ 4294967295 → BeginsWith a (58 ∷ c) behind → a ≤ 18446744073709551615 → is_number c ≡ true → value_of c ≡ l → l ≤ 4294967295 → bytes_eq text dash ≡ false → piece_list text ≡ Ok ((record { address = a; key = record { 0 = k }; length = l }) ∷ [])
unfolding piece_list piece are_numbers
piece_is k a l text behind c f kf g ag form value lc some =
    let apart = one_piece 44 text (piece_apart k a text behind c f g form) in
    let three = three_words 58 k a text behind c f g refl form in
    rw (some, apart, three, form_in f, form_in g, form, limited_is 4294967295 k f.0 (value_in f) kf, limited_is 18446744073709551615 a g.0 (value_in g) ag, limited_is 4294967295 l c value lc) refl

pub ruleset lists = (piece_is)
