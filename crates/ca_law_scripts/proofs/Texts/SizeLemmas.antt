-- How many consumers and lines a text can have. For proofs only.
use Rattle.std.proofs.Common.{◌≡◌, ℕ, zero, suc, ◌+◌, ◌-◌, ◌==◌, ◌&&◌, ◌<◌, ◌≤◌, Bool, true, false, not, nat_le, nat_lt, if◌then◌else◌, List, [], ◌∷◌, ◌++◌, drop, length, length-append, sum_by, Result, Ok, Err, refl, subst, arith}
use Rattle.std.proofs.lemmas.Bool.Decides.{nat_tests}
use Rattle.std.proofs.lemmas.List.Sums.{sum_by-cons}
use Rattle.std.specs.List.{list_all}
use Rattle.ca_base.specs.declared.limits.TheConstants.{MAX_CONSUMERS, MAX_SCRIPT_BYTES}
use Rattle.ca_trace_lex.specs.Words.{pieces}
use Rattle.ca_law_scripts.proofs.Rest.TextLemmas.{Gives, gives-any, gives-if, gives-then}
use Rattle.ca_script.specs.Script.{Draft, ScriptValue, after_line, after_lines, after_setup_line, after_words, finished, is_comment, is_text, refused_at, script_of, size_of, whole, with_line}
use Rattle.ca_script.specs.Setup.{is_setup_word, opening}
use Rattle.ca_script_lines.specs.Grammar.{consumer_lines}
use Rattle.ca_script_lines.specs.Rows.{Words, read_table}
use Rattle.ca_script_lines.specs.declared.what.Line.{Line}
use Rattle.ca_script_lex.specs.Words.{is_consumer, limited, value_of, words_of}
use Rattle.ca_script_lex.specs.declared.cause.ScriptCause.{ScriptCause}
use Rattle.ca_script_lex.specs.declared.cause.ScriptCause.TheVariants as causes

-- how many lines consumers have
abbrev pub line_count : List (List Line) → ℕ
line_count consumers = sum_by (λ lines. length lines) consumers

-- ---- one line more

one-line-more : (k : ℕ) (line : Line) (cs : List (List Line)) → line_count (with_line k line cs) ≡ suc (line_count cs)
one-line-more zero line [] = refl
one-line-more zero line (c ∷ cs) =
    omega (arith, length-append c (line ∷ []), sum_by-cons (λ lines. length lines) (c ++ line ∷ []) cs, sum_by-cons (λ lines. length lines) c cs)
one-line-more (suc k) line [] = one-line-more k line []
one-line-more (suc k) line (c ∷ cs) =
    omega (arith, one-line-more k line cs, sum_by-cons (λ lines. length lines) c (with_line k line cs), sum_by-cons (λ lines. length lines) c cs)

still-few : (n k : ℕ) (line : Line) (cs : List (List Line)) → k < n → length cs ≤ n → length (with_line k line cs) ≤ n
still-few zero k line cs below few = absurd (omega (arith, below))
still-few (suc n) zero line [] below few = omega arith
still-few (suc n) zero line (c ∷ cs) below few = few
still-few (suc n) (suc k) line [] below few = omega (arith, still-few n k line [] (omega (arith, below)) (omega arith))
still-few (suc n) (suc k) line (c ∷ cs) below few = omega (arith, still-few n k line cs (omega (arith, below)) (omega (arith, few)))

-- ---- what the lines so far say

-- no more consumers than there may be, and at most so many lines
abbrev IsSmall : ℕ → Draft → Type 0
IsSmall m d = (length d.consumers ≤ MAX_CONSUMERS) × (line_count d.consumers ≤ m)

limited-gives : (low high : ℕ) (w : List ℕ) → Gives (λ n. n ≤ high) (limited low high w)
unfolding limited
limited-gives low high w = by (nat_le low (value_of w)) (nat_le (value_of w) high) refl
  where
    by : (above below : Bool) → nat_le (value_of w) high ≡ below
        → Gives (λ n. n ≤ high) (if above && below then Ok (value_of w) else Err causes.OutOfLimit)
    by true true so = grind (arith, nat_tests, so)
    by true false so = record {}
    by false below so = record {}

with-line-small : (m k : ℕ) (line : Line) (d : Draft) → k ≤ MAX_CONSUMERS - 1 → IsSmall m d → IsSmall (suc m) (record d { consumers = with_line k line d.consumers })
with-line-small m k line d below small = (
  still-few MAX_CONSUMERS k line d.consumers (omega (arith, below)) small.0,
  omega (arith, one-line-more k line d.consumers, small.1),
)

more-small : (m n : ℕ) (d : Draft) → m ≤ n → IsSmall m d → IsSmall n d
more-small m n d most small = (small.0, omega (arith, most, small.1))

words-small : (number m : ℕ) (d : Draft) (ws : Words) → IsSmall m d → Gives (IsSmall (suc m)) (after_words number d ws)
unfolding after_words
words-small number m d [] small = more-small m (suc m) d (omega arith) small
words-small number m d (name ∷ ws) small = gives-if (IsSmall (suc m)) (is_consumer name) _ _
    (gives-then (λ k. k ≤ MAX_CONSUMERS - 1) (IsSmall (suc m)) (limited 0 (MAX_CONSUMERS - 1) (drop 1 name)) _ (limited-gives 0 (MAX_CONSUMERS - 1) (drop 1 name)) (λ k below.
    gives-then (λ what. Unit {0}) (IsSmall (suc m)) (whole (read_table consumer_lines ws)) _ (gives-any (whole (read_table consumer_lines ws)))
    (λ what any. with-line-small m k (record { number = number; what = what }) d below small)))
    (gives-if (IsSmall (suc m)) (not (is_setup_word name)) _ _ (record {})
    (gives-if (IsSmall (suc m)) (not (length d.consumers == 0)) _ _ (record {})
    (gives-then (λ setup. Unit {0}) (IsSmall (suc m)) (after_setup_line d.setup (name ∷ ws)) _ (gives-any (after_setup_line d.setup (name ∷ ws)))
    (λ setup any. more-small m (suc m) d (omega arith) small))))

line-small : (number m : ℕ) (d : Draft) (line : List ℕ) → IsSmall m d → Gives (IsSmall (suc m)) (after_line number d line)
unfolding after_line
line-small number m d line small = gives-if (IsSmall (suc m)) (not (list_all is_text line)) _ _ (record {})
    (gives-if (IsSmall (suc m)) (is_comment line) _ _ (more-small m (suc m) d (omega arith) small) (words-small number m d (words_of line) small))

-- ---- all lines

refused-gives : {A : Type 0} (P : Draft → Type 0) (Q : A → Type 0) (number : ℕ) (r : Result Draft ScriptCause) (next : Draft → Result A (ℕ × ScriptCause))
    → Gives P r → ((d : Draft) → P d → Gives Q (next d)) → Gives Q (refused_at number r next)
refused-gives P Q number (Ok d) next gives also = also d gives
refused-gives P Q number (Err cause) next gives also = record {}

gives-fewer : {E : Type 0} (m n : ℕ) (r : Result Draft E) → m ≤ n → Gives (IsSmall m) r → Gives (IsSmall n) r
gives-fewer m n (Ok d) most small = more-small m n d most small
gives-fewer m n (Err e) most small = record {}

-- as many lines as bytes, and one
all-small : (number room m : ℕ) (d : Draft) (lines : List (List ℕ)) → IsSmall m d → Gives (IsSmall (suc (m + room))) (after_lines number room d lines)
all-small number room m d [] small = more-small m (suc (m + room)) d (omega arith) small
all-small number room m d (line ∷ []) small = by (nat_lt room (size_of line []))
  where
    by : (b : Bool) → Gives (IsSmall (suc (m + room))) (if b then Err (number, causes.TooLarge) else refused_at number (after_line number d line) (λ after. Ok after))
    by true = record {}
    by false = refused-gives (IsSmall (suc m)) (IsSmall (suc (m + room))) number (after_line number d line) (λ after. Ok after) (line-small number m d line small)
        (λ after is. more-small (suc m) (suc (m + room)) after (omega arith) is)
all-small number room m d (line ∷ next ∷ more) small =
    by (nat_lt room (size_of line (next ∷ more))) refl (λ after is. all-small (number + 1) (room - size_of line (next ∷ more)) (suc m) after (next ∷ more) is)
  where
    left : ℕ
    left = room - size_of line (next ∷ more)

    fits : nat_lt room (size_of line (next ∷ more)) ≡ false → suc (suc m + left) ≤ suc (m + room)
    fits over = grind (arith, nat_tests, over)

    by : (b : Bool) → nat_lt room (size_of line (next ∷ more)) ≡ b
        → ((after : Draft) → IsSmall (suc m) after → Gives (IsSmall (suc (suc m + left))) (after_lines (number + 1) left after (next ∷ more)))
        → Gives (IsSmall (suc (m + room))) (if b then Err (number, causes.TooLarge) else refused_at number (after_line number d line) (λ after. after_lines (number + 1) left after (next ∷ more)))
    by true over rest = record {}
    by false over rest = refused-gives (IsSmall (suc m)) (IsSmall (suc (m + room))) number (after_line number d line) (λ after. after_lines (number + 1) left after (next ∷ more)) (line-small number m d line small)
        (λ after is. gives-fewer (suc (suc m + left)) (suc (m + room)) (after_lines (number + 1) left after (next ∷ more)) (fits over) (rest after is))

-- ---- a text

-- few consumers, and about as many lines as a script may have bytes
abbrev pub IsSmallScript : ScriptValue → Type 0
IsSmallScript s = (length s.consumers ≤ MAX_CONSUMERS) × (line_count s.consumers ≤ suc MAX_SCRIPT_BYTES)

script-gives : (text : List ℕ) → Gives IsSmallScript (script_of text)
unfolding script_of
script-gives text = by (after_lines 1 MAX_SCRIPT_BYTES opened (pieces 10 text)) (all-small 1 MAX_SCRIPT_BYTES 0 opened (pieces 10 text) (omega arith, omega arith))
  where
    opened : Draft
    opened = record { setup = opening; consumers = [] }

    by : (r : Result Draft (ℕ × ScriptCause)) → Gives (IsSmall (suc MAX_SCRIPT_BYTES)) r → Gives IsSmallScript (finished r)
    by (Ok d) small = small
    by (Err refusal) small = record {}

pub text-small : (text : List ℕ) (s : ScriptValue) → script_of text ≡ Ok s → IsSmallScript s
text-small text s reads = subst (Gives IsSmallScript) reads (script-gives text)
