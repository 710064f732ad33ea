-- A text of words is cut into these words.
use Rattle.std.proofs.Common.{◌≡◌, ℕ, ◌<◌, ◌≤◌, Bool, true, false, not, ◌&&◌, eqb, ltb, List, [], ◌∷◌, ◌++◌, refl, ap, ◌∙◌, arith}
use Rattle.std.specs.Char.{digit_value}
use Rattle.std.specs.Str.Parse.{AllDigits}
use Rattle.std.proofs.lemmas.Bool.{and_parts, and_from, ltb-true, lt-ltb, not-true, ne_eqb}
use Rattle.std.proofs.lemmas.Bool.Decides.{nat_tests}
use Rattle.std.proofs.lemmas.List.{append-nil}
use Rattle.ca_trace_print.specs.Words.{led}
use Rattle.ca_trace_lex.specs.Words.{pieces}
use Rattle.ca_trace_lex.specs.Fits.{plain}

-- no byte of these is the separator
abbrev pub lacks : ℕ → List ℕ → Bool
lacks separator [] = true
lacks separator (c ∷ cs) = not (eqb c separator) && lacks separator cs

abbrev pub all_lack : ℕ → List (List ℕ) → Bool
all_lack separator [] = true
all_lack separator (w ∷ ws) = lacks separator w && all_lack separator ws

first_differs : (c separator : ℕ) (cs : List ℕ) → lacks separator (c ∷ cs) ≡ true → eqb c separator ≡ false
first_differs c separator cs h = not-true (eqb c separator) (and_parts (not (eqb c separator)) (lacks separator cs) h).0

others_lack : (c separator : ℕ) (cs : List ℕ) → lacks separator (c ∷ cs) ≡ true → lacks separator cs ≡ true
others_lack c separator cs h = (and_parts (not (eqb c separator)) (lacks separator cs) h).1

-- a text without the separator is one piece
pub one_piece : (separator : ℕ) (w : List ℕ) → lacks separator w ≡ true → pieces separator w ≡ w ∷ []
one_piece separator [] h = refl
one_piece separator (c ∷ cs) h = rw (first_differs c separator cs h, one_piece separator cs (others_lack c separator cs h)) refl

-- what stands before the first separator is the first piece
pub first_piece : (separator : ℕ) (w text : List ℕ) → lacks separator w ≡ true → pieces separator (w ++ separator ∷ text) ≡ w ∷ pieces separator text
first_piece separator [] text h = let e : eqb separator separator ≡ true = grind (arith, nat_tests) in rw e refl
first_piece separator (c ∷ cs) text h = rw (first_differs c separator cs h, first_piece separator cs text (others_lack c separator cs h)) refl

-- words with separators between are cut into these words
pub pieces_joined : (separator : ℕ) (w : List ℕ) (ws : List (List ℕ)) → lacks separator w ≡ true → all_lack separator ws ≡ true → pieces separator (w ++ led separator ws) ≡ w ∷ ws
pieces_joined separator w [] h g = rw append-nil (one_piece separator w h)
pieces_joined separator w (v ∷ vs) h g =
    let both = and_parts (lacks separator v) (all_lack separator vs) g in
    first_piece separator w (v ++ led separator vs) h ∙ ap (λ (x : List (List ℕ)). w ∷ x) (pieces_joined separator v vs both.0 both.1)

pub lacks_append : (separator : ℕ) (a b : List ℕ) → lacks separator a ≡ true → lacks separator b ≡ true → lacks separator (a ++ b) ≡ true
lacks_append separator [] b h g = g
lacks_append separator (c ∷ cs) b h g = rw (first_differs c separator cs h) (lacks_append separator cs b (others_lack c separator cs h) g)

first_plain : (c : ℕ) (cs : List ℕ) → plain (c ∷ cs) ≡ true → 32 < c
first_plain c cs h = ltb-true 32 c (and_parts (ltb 32 c) (plain cs) h).0

others_plain : (c : ℕ) (cs : List ℕ) → plain (c ∷ cs) ≡ true → plain cs ≡ true
others_plain c cs h = (and_parts (ltb 32 c) (plain cs) h).1

pub plain_cons : (c : ℕ) (cs : List ℕ) → 32 < c → plain cs ≡ true → plain (c ∷ cs) ≡ true
plain_cons c cs h g = and_from (ltb 32 c) (plain cs) (lt-ltb 32 c h) g

pub plain_append : (a b : List ℕ) → plain a ≡ true → plain b ≡ true → plain (a ++ b) ≡ true
plain_append [] b h g = g
plain_append (c ∷ cs) b h g = plain_cons c (cs ++ b) (first_plain c cs h) (plain_append cs b (others_plain c cs h) g)

-- a word has no separator that is a space or a byte before it
pub plain_lacks : (separator : ℕ) (w : List ℕ) → separator ≤ 32 → plain w ≡ true → lacks separator w ≡ true
plain_lacks separator [] low h = refl
plain_lacks separator (c ∷ cs) low h =
    let above = first_plain c cs h in
    let differs : eqb c separator ≡ false = ne_eqb c separator (λ same. omega arith) in
    rw differs (plain_lacks separator cs low (others_plain c cs h))

-- a digit stands behind the space
digit_above : (c : ℕ) → digit_value c < 16 → 32 < c
digit_above c h = grind (arith, nat_tests)

pub digits_plain : (w : List ℕ) → AllDigits 16 w → plain w ≡ true
digits_plain [] h = refl
digits_plain (c ∷ cs) h = plain_cons c cs (digit_above c h.0) (digits_plain cs h.1)

-- digits have no separator that is no digit
pub digits_lack : (separator : ℕ) (w : List ℕ) → 16 ≤ digit_value separator → AllDigits 16 w → lacks separator w ≡ true
digits_lack separator [] high h = refl
digits_lack separator (c ∷ cs) high h =
    let below : digit_value c < 16 = h.0 in
    let differs : eqb c separator ≡ false = ne_eqb c separator (λ same. let e : digit_value c ≡ digit_value separator = ap digit_value same in omega (arith, e, below, high)) in
    rw differs (digits_lack separator cs high h.1)

pub more_digits : (w : List ℕ) → AllDigits 10 w → AllDigits 16 w
more_digits [] h = tt
more_digits (c ∷ cs) h = let below : digit_value c < 10 = h.0 in ((omega arith), more_digits cs h.1)
