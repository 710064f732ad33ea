-- Lists that are read word by word.
use Rattle.std.proofs.Common.{◌≡◌, ℕ, suc, ◌-◌, ◌<◌, Bool, true, false, eqb, leb, List, [], ◌∷◌, ◌++◌, length, Some, None, Result, Ok, Err, refl, ap, arith, append_assoc}
use Rattle.std.specs.List.{list_all}
use Rattle.ca_trace_lex.specs.Words.{next_of}
use Rattle.std.proofs.lemmas.Bool.{ne_eqb}
use Rattle.std.proofs.lemmas.Bool.Decides.{nat_tests}
use Rattle.ca_trace_lex.proofs.ListLemmas.{next_is, next_none}
use Rattle.ca_script_lex.specs.Reading.{◌>>=◌, each}
use Rattle.ca_script_lex.specs.declared.cause.ScriptCause.{ScriptCause}

-- a list that was read, and what is read behind it
abbrev pub behind : {Y : Type 0} → List Y → Result (List Y) ScriptCause → Result (List Y) ScriptCause
behind front read = read >>= λ xs. Ok (front ++ xs)

pub behind_more : {Y : Type 0} (reader : List ℕ → Result Y ScriptCause) (front : List Y) (ws rest : List (List ℕ)) (w : List ℕ) (x : Y) → next_of ws ≡ Some (w, rest) → reader w ≡ Ok x → behind (front ++ x ∷ []) (each reader rest) ≡ behind front (each reader ws)
behind_more {Y} reader front ws rest w x h e = rw (next_is ws w rest h, e) (move (each reader rest)) where
  move : (o : Result (List Y) ScriptCause) → behind (front ++ x ∷ []) o ≡ behind front (o >>= λ xs. Ok (x ∷ xs))
  move (Err cause) = refl
  move (Ok xs) = ap (λ (ys : List Y). Ok ys) (append_assoc front (x ∷ []) xs)

pub behind_refused : {Y : Type 0} (reader : List ℕ → Result Y ScriptCause) (front : List Y) (ws rest : List (List ℕ)) (w : List ℕ) (cause : ScriptCause) → next_of ws ≡ Some (w, rest) → reader w ≡ Err cause → behind front (each reader ws) ≡ Err cause
behind_refused reader front ws rest w cause h e = rw (next_is ws w rest h, e) refl

pub behind_all : {Y : Type 0} (reader : List ℕ → Result Y ScriptCause) (front : List Y) (ws : List (List ℕ)) → next_of ws ≡ None → behind front (each reader ws) ≡ Ok (front ++ [])
behind_all reader front ws h = rw (next_none ws h) refl

pub length_next : (ws rest : List (List ℕ)) (w : List ℕ) → next_of ws ≡ Some (w, rest) → length rest < length ws
length_next ws rest w h = rw (next_is ws w rest h) (omega arith)

-- ---- a test of each word

pub all_more : (p : List ℕ → Bool) (ws rest : List (List ℕ)) (w : List ℕ) → next_of ws ≡ Some (w, rest) → p w ≡ true → list_all p rest ≡ list_all p ws
all_more p ws rest w h e = rw (next_is ws w rest h, e) refl

pub all_bad : (p : List ℕ → Bool) (ws rest : List (List ℕ)) (w : List ℕ) → next_of ws ≡ Some (w, rest) → p w ≡ false → list_all p ws ≡ false
all_bad p ws rest w h e = rw (next_is ws w rest h, e) refl

pub all_none : (p : List ℕ → Bool) (ws : List (List ℕ)) → next_of ws ≡ None → list_all p ws ≡ true
all_none p ws h = rw (next_none ws h) refl

-- ---- how many words are left

pub count_more : (ws rest : List (List ℕ)) (w : List ℕ) (left : ℕ) → next_of ws ≡ Some (w, rest) → 0 < left → eqb (length rest) (left - 1) ≡ eqb (length ws) left
count_more ws rest w left h some = rw (next_is ws w rest h) (same_test (length rest) left some) where
  same_test : (n left : ℕ) → 0 < left → eqb n (left - 1) ≡ eqb (suc n) left
  same_test n left some = grind (arith, nat_tests)

pub count_over : (ws rest : List (List ℕ)) (w : List ℕ) → next_of ws ≡ Some (w, rest) → eqb (length ws) 0 ≡ false
count_over ws rest w h = rw (next_is ws w rest h) (ne_eqb (suc (length rest)) 0 (λ same. omega arith))

pub count_none : (ws : List (List ℕ)) → next_of ws ≡ None → length ws ≡ 0
count_none ws h = rw (next_none ws h) refl

pub within_more : (ws rest : List (List ℕ)) (w : List ℕ) (left : ℕ) → next_of ws ≡ Some (w, rest) → 0 < left → leb (length rest) (left - 1) ≡ leb (length ws) left
within_more ws rest w left h some = rw (next_is ws w rest h) (same_test (length rest) left some) where
  same_test : (n left : ℕ) → 0 < left → leb n (left - 1) ≡ leb (suc n) left
  same_test n left some = grind (arith, nat_tests)

pub ruleset reading = (behind_more, behind_refused, behind_all, length_next)

pub ruleset testing = (all_more, all_bad, all_none, count_more, count_over, count_none, within_more, length_next)
