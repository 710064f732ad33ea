-- A list that is read word by word.
use Rattle.std.proofs.Common.{◌≡◌, ℕ, suc, inl, inr, ◌<◌, Bool, true, false, cond, eqb, List, [], ◌∷◌, ◌++◌, length, Option, Some, None, refl, sym, ap, ◌∙◌, arith, append_assoc}
use Rattle.std.specs.List.{onto_first}
use Rattle.std.proofs.lemmas.Bool.{ne_eqb, eqb-true, cases_Bool}
use Rattle.std.proofs.lemmas.List.{append-nil}
use Rattle.ca_trace_lex.specs.Words.{◌>>=◌, next_of, all_in, pieces}

-- a list that was read, and what is read behind it
abbrev pub behind : {Y : Type 0} → List Y → Option (List Y) → Option (List Y)
behind front read = read >>= λ xs. Some (front ++ xs)

-- the first word and those behind it
pub next_is : (ws : List (List ℕ)) (w : List ℕ) (rest : List (List ℕ)) → next_of ws ≡ Some (w, rest) → ws ≡ w ∷ rest
next_is [] w rest h = absurd cc
next_is (v ∷ vs) w rest h = ap (λ (x : Option (List ℕ × List (List ℕ))). put_back x) h where
  put_back : Option (List ℕ × List (List ℕ)) → List (List ℕ)
  put_back None = v ∷ vs
  put_back (Some p) = p.0 ∷ p.1

pub next_none : (ws : List (List ℕ)) → next_of ws ≡ None → ws ≡ []
next_none [] h = refl
next_none (v ∷ vs) h = absurd cc

-- one word more
pub behind_more : {Y : Type 0} (reader : List ℕ → Option Y) (front : List Y) (ws rest : List (List ℕ)) (w : List ℕ) (x : Y) → next_of ws ≡ Some (w, rest) → reader w ≡ Some x → behind (front ++ x ∷ []) (all_in reader rest) ≡ behind front (all_in reader ws)
behind_more {Y} reader front ws rest w x h e = rw (next_is ws w rest h, e) (move (all_in reader rest)) where
  move : (o : Option (List Y)) → behind (front ++ x ∷ []) o ≡ behind front (o >>= λ xs. Some (x ∷ xs))
  move None = refl
  move (Some xs) = ap (λ (ys : List Y). Some ys) (append_assoc front (x ∷ []) xs)

-- a word that is not read
pub behind_none : {Y : Type 0} (reader : List ℕ → Option Y) (front : List Y) (ws rest : List (List ℕ)) (w : List ℕ) → next_of ws ≡ Some (w, rest) → reader w ≡ None → behind front (all_in reader ws) ≡ None
behind_none reader front ws rest w h e = rw (next_is ws w rest h, e) refl

-- no word more
pub behind_all : {Y : Type 0} (reader : List ℕ → Option Y) (front : List Y) (ws : List (List ℕ)) → eqb (length ws) 0 ≡ true → behind front (all_in reader ws) ≡ Some front
behind_all reader front [] h = rw append-nil refl
behind_all reader front (w ∷ ws) h = absurd (omega (arith, eqb-true _ _ h))

-- ---- whether words are left

onto_some : (c : ℕ) (parts : List (List ℕ)) → eqb (length (onto_first c parts)) 0 ≡ false
onto_some c [] = refl
onto_some c (p ∷ ps) = ne_eqb (suc (length ps)) 0 (λ same. omega arith)

pieces_some : (separator : ℕ) (text : List ℕ) → eqb (length (pieces separator text)) 0 ≡ false
pieces_some separator [] = refl
pieces_some separator (c ∷ cs) =
    elim (cases_Bool (eqb c separator)) [
      | inl e ↦ rw e (ne_eqb (suc (length (pieces separator cs))) 0 (λ same. omega arith))
      | inr e ↦ rw e (onto_some c (pieces separator cs))
    ]

pub over_is_empty : (over : Bool) (separator : ℕ) (text : List ℕ) (now : List (List ℕ)) → cond over [] (pieces separator text) ≡ now → over ≡ eqb (length now) 0
over_is_empty true separator text now h = ap (λ (ws : List (List ℕ)). eqb (length ws) 0) h
over_is_empty false separator text now h = sym (pieces_some separator text) ∙ ap (λ (ws : List (List ℕ)). eqb (length ws) 0) h

pub length_next : (ws rest : List (List ℕ)) (w : List ℕ) → next_of ws ≡ Some (w, rest) → length rest < length ws
length_next ws rest w h = rw (next_is ws w rest h) (omega arith)

pub ruleset reading = (behind_more, behind_none, behind_all, length_next)
