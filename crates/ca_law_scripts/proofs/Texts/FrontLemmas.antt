-- What is refused of a text that is too long stands in its front. For proofs only.
use Rattle.std.proofs.Common.{◌≡◌, ℕ, suc, ◌+◌, ◌-◌, ◌==◌, ◌<◌, ◌≤◌, Bool, true, false, nat_lt, if◌then◌else◌, List, [], ◌∷◌, ◌++◌, length, length-append, Result, Ok, Err, refl, ap, subst, sym, inl, inr, arith, ◌∙◌, cond}
use Rattle.std.proofs.lemmas.Bool.{cases_lt}
use Rattle.std.proofs.lemmas.Bool.Decides.{nat_tests}
use Rattle.std.specs.List.{onto_first}
use Rattle.ca_base.specs.declared.limits.TheConstants.{MAX_SCRIPT_BYTES}
use Rattle.ca_trace_lex.specs.Words.{pieces}
use Rattle.ca_law_scripts.proofs.Rest.TextLemmas.{Gives}
use Rattle.ca_script.specs.Script.{Draft, ScriptValue, after_line, after_lines, finished, refused_at, script_of, size_of}
use Rattle.ca_script.specs.Setup.{opening}
use Rattle.ca_script_lex.specs.declared.cause.ScriptCause.{ScriptCause}
use Rattle.ca_script_lex.specs.declared.cause.ScriptCause.TheVariants as causes

-- ---- the lines of a text that goes on

-- lines, of which the last goes on in others
abbrev GoOn : List (List ℕ) → List (List ℕ) → Type 0
GoOn [] ms = ⊥
GoOn (l ∷ []) [] = ⊥
GoOn (l ∷ []) (m ∷ ms) = (rest : List ℕ) × (m ≡ l ++ rest)
GoOn (l ∷ next ∷ ls) [] = ⊥
GoOn (l ∷ next ∷ ls) (m ∷ ms) = (l ≡ m) × GoOn (next ∷ ls) ms

onto-goes : (x : ℕ) (ls ms : List (List ℕ)) → GoOn ls ms → GoOn (onto_first x ls) (onto_first x ms)
onto-goes x [] ms goes = absurd goes
onto-goes x (l ∷ []) [] goes = absurd goes
onto-goes x (l ∷ []) (m ∷ ms) goes = (goes.0, ap (λ w. x ∷ w) goes.1)
onto-goes x (l ∷ next ∷ ls) [] goes = absurd goes
onto-goes x (l ∷ next ∷ ls) (m ∷ ms) goes = (ap (λ w. x ∷ w) goes.0, goes.1)

behind-goes : (ls ms : List (List ℕ)) → GoOn ls ms → GoOn ([] ∷ ls) ([] ∷ ms)
behind-goes [] ms goes = absurd goes
behind-goes (l ∷ ls) ms goes = (refl, goes)

first-goes : (x : ℕ) (ms : List (List ℕ)) → GoOn ([] ∷ []) ms → GoOn ([] ∷ []) (onto_first x ms)
first-goes x [] goes = absurd goes
first-goes x (m ∷ ms) goes = (x ∷ m, refl)

any-goes : (text : List ℕ) → GoOn ([] ∷ []) (pieces 10 text)
any-goes [] = ([], refl)
any-goes (x ∷ text) = by (x == 10) (any-goes text)
  where
    by : (b : Bool) → GoOn ([] ∷ []) (pieces 10 text) → GoOn ([] ∷ []) (cond b ([] ∷ pieces 10 text) (onto_first x (pieces 10 text)))
    by true goes = ([], refl)
    by false goes = first-goes x (pieces 10 text) goes

lines-go : (front more : List ℕ) → GoOn (pieces 10 front) (pieces 10 (front ++ more))
lines-go [] more = any-goes more
lines-go (x ∷ front) more = by (x == 10) (lines-go front more)
  where
    by : (b : Bool) → GoOn (pieces 10 front) (pieces 10 (front ++ more))
        → GoOn (cond b ([] ∷ pieces 10 front) (onto_first x (pieces 10 front))) (cond b ([] ∷ pieces 10 (front ++ more)) (onto_first x (pieces 10 (front ++ more))))
    by true goes = behind-goes (pieces 10 front) (pieces 10 (front ++ more)) goes
    by false goes = onto-goes x (pieces 10 front) (pieces 10 (front ++ more)) goes

-- ---- how many bytes lines have

abbrev total : List (List ℕ) → ℕ
total [] = 0
total (l ∷ ls) = size_of l ls + total ls

onto-total : (x : ℕ) (l : List ℕ) (ls : List (List ℕ)) → total (onto_first x (l ∷ ls)) ≡ suc (total (l ∷ ls))
onto-total x l [] = omega arith
onto-total x l (next ∷ ls) = omega arith

-- a list that begins with something
abbrev IsSome : List (List ℕ) → Type 0
IsSome [] = ⊥
IsSome (l ∷ ls) = Unit {0}

some-goes : (ms : List (List ℕ)) → GoOn ([] ∷ []) ms → IsSome ms
some-goes [] goes = absurd goes
some-goes (m ∷ ms) goes = record {}

onto-one-more : (x : ℕ) (ls : List (List ℕ)) → IsSome ls → total (onto_first x ls) ≡ suc (total ls)
onto-one-more x [] some = absurd some
onto-one-more x (l ∷ ls) some = onto-total x l ls

feed-one-more : (ls : List (List ℕ)) → IsSome ls → total ([] ∷ ls) ≡ suc (total ls)
feed-one-more [] some = absurd some
feed-one-more (l ∷ ls) some = omega arith

total-bytes : (text : List ℕ) → total (pieces 10 text) ≡ length text
total-bytes [] = omega arith
total-bytes (x ∷ text) = by (x == 10) (some-goes (pieces 10 text) (any-goes text)) (total-bytes text)
  where
    by : (b : Bool) → IsSome (pieces 10 text) → total (pieces 10 text) ≡ length text → total (cond b ([] ∷ pieces 10 text) (onto_first x (pieces 10 text))) ≡ suc (length text)
    by true some same = feed-one-more (pieces 10 text) some ∙ ap suc same
    by false some same = onto-one-more x (pieces 10 text) some ∙ ap suc same

-- ---- lines for which there is no room

-- nothing that lines say is told where there is no room for them
no-room : (number room : ℕ) (d : Draft) (ls : List (List ℕ)) → room < total ls → Gives (λ (x : Draft). ⊥) (after_lines number room d ls)
no-room number room d [] over = absurd (omega (arith, over))
no-room number room d (l ∷ ls) over = by (nat_lt room (size_of l ls)) refl (λ after less. no-room (number + 1) left after ls less)
  where
    left : ℕ
    left = room - size_of l ls

    behind : left < total ls → ((after : Draft) → left < total ls → Gives (λ (x : Draft). ⊥) (after_lines (number + 1) left after ls)) → (r : Result Draft ScriptCause) → Gives (λ (x : Draft). ⊥) (refused_at number r (λ after. after_lines (number + 1) left after ls))
    behind less rest (Ok after) = rest after less
    behind less rest (Err cause) = record {}

    by : (b : Bool) → nat_lt room (size_of l ls) ≡ b → ((after : Draft) → left < total ls → Gives (λ (x : Draft). ⊥) (after_lines (number + 1) left after ls))
        → Gives (λ (x : Draft). ⊥) (if b then Err (number, causes.TooLarge) else refused_at number (after_line number d l) (λ after. after_lines (number + 1) left after ls))
    by true is rest = record {}
    by false is rest = behind (grind (arith, nat_tests, is, over)) rest (after_line number d l)

-- a refusal, where what follows is the same
same-refused : (number : ℕ) (r : Result Draft ScriptCause) (f g : Draft → Result Draft (ℕ × ScriptCause)) → ((d : Draft) → f d ≡ g d) → refused_at number r f ≡ refused_at number r g
same-refused number (Ok d) f g same = same d
same-refused number (Err cause) f g same = refl

abbrev read_or_refused : ℕ → ℕ → Draft → Bool → List ℕ → List (List ℕ) → Result Draft (ℕ × ScriptCause)
read_or_refused number left d over line lines =
    if over then Err (number, causes.TooLarge) else refused_at number (after_line number d line) (λ after. after_lines (number + 1) left after lines)

nat-lt-is : (m n : ℕ) → m < n → nat_lt m n ≡ true
nat-lt-is m n less = grind (arith, nat_tests, less)

same-lines : (number room : ℕ) (d : Draft) (ls ms : List (List ℕ)) → GoOn ls ms → room < total ls → after_lines number room d ms ≡ after_lines number room d ls
same-lines number room d [] ms goes over = absurd goes
same-lines number room d (l ∷ []) [] goes over = absurd goes
same-lines number room d (l ∷ []) (m ∷ ms) goes over =
    let size : size_of m ms ≡ size_of (l ++ goes.0) ms = ap (λ w. size_of w ms) goes.1 in
    let more : nat_lt room (size_of m ms) ≡ true = nat-lt-is room (size_of m ms) (omega (arith, over, size, at-least (l ++ goes.0) ms, length-append l goes.0)) in
    let less : nat_lt room (size_of l []) ≡ true = nat-lt-is room (size_of l []) (omega (arith, over)) in
    ap (λ b. read_or_refused number (room - size_of m ms) d b m ms) more
    ∙ sym (ap (λ b. read_or_refused number (room - size_of l []) d b l []) less)
  where
    at-least : (w : List ℕ) (ms : List (List ℕ)) → length w ≤ size_of w ms
    at-least w [] = omega arith
    at-least w (m ∷ ms) = omega arith
same-lines number room d (l ∷ next ∷ ls) [] goes over = absurd goes
same-lines number room d (l ∷ next ∷ ls) (m ∷ []) goes over = absurd (none (next ∷ ls) goes.1)
  where
    none : (ls : List (List ℕ)) → GoOn ls [] → ⊥
    none [] goes = goes
    none (l ∷ []) goes = goes
    none (l ∷ next ∷ ls) goes = goes
same-lines number room d (l ∷ next ∷ ls) (m ∷ second ∷ ms) goes over =
    ap (λ w. after_lines number room d (w ∷ second ∷ ms)) (sym goes.0)
    ∙ by (nat_lt room (size_of l (next ∷ ls))) refl (λ after less. same-lines (number + 1) left after (next ∷ ls) (second ∷ ms) goes.1 less)
  where
    left : ℕ
    left = room - size_of l (next ∷ ls)

    by : (b : Bool) → nat_lt room (size_of l (next ∷ ls)) ≡ b
        → ((after : Draft) → left < total (next ∷ ls) → after_lines (number + 1) left after (second ∷ ms) ≡ after_lines (number + 1) left after (next ∷ ls))
        → read_or_refused number left d b l (second ∷ ms) ≡ read_or_refused number left d b l (next ∷ ls)
    by true is rest = refl
    by false is rest = same-refused number (after_line number d l) (λ after. after_lines (number + 1) left after (second ∷ ms)) (λ after. after_lines (number + 1) left after (next ∷ ls))
        (λ after. rest after (grind (arith, nat_tests, over, is)))

-- ---- texts

abbrev opened : Draft
opened = record { setup = opening; consumers = [] }

pub front-refused : (front more : List ℕ) → MAX_SCRIPT_BYTES < length front → script_of (front ++ more) ≡ script_of front
unfolding script_of
front-refused front more long = ap finished (same-lines 1 MAX_SCRIPT_BYTES opened (pieces 10 front) (pieces 10 (front ++ more)) (lines-go front more) (omega (arith, long, total-bytes front)))

long-gives : (text : List ℕ) → MAX_SCRIPT_BYTES < length text → Gives (λ (s : ScriptValue). ⊥) (script_of text)
unfolding script_of
long-gives text long = by (after_lines 1 MAX_SCRIPT_BYTES opened (pieces 10 text)) (no-room 1 MAX_SCRIPT_BYTES opened (pieces 10 text) (omega (arith, long, total-bytes text)))
  where
    by : (r : Result Draft (ℕ × ScriptCause)) → Gives (λ (d : Draft). ⊥) r → Gives (λ (s : ScriptValue). ⊥) (finished r)
    by (Ok d) none = none
    by (Err refusal) none = record {}

pub text-fits : (text : List ℕ) (s : ScriptValue) → script_of text ≡ Ok s → length text ≤ MAX_SCRIPT_BYTES
text-fits text s reads = elim (cases_lt MAX_SCRIPT_BYTES (length text)) [
  | inr within ↦ omega (arith, within)
  | inl beyond ↦ absurd (subst (Gives (λ (x : ScriptValue). ⊥)) reads (long-gives text beyond))
]
