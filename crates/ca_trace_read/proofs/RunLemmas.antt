-- Lines that are read one behind another.
use Rattle.std.proofs.Common.{◌≡◌, List, [], ◌∷◌, ◌++◌, Option, Some, None, refl, ap, ◌∙◌}
use Rattle.ca_model.specs.Entries.{EntryValue}
use Rattle.ca_trace.specs.declared.line.Line.{Line}
use Rattle.ca_trace_lex.specs.Words.{◌>>=◌}
use Rattle.ca_trace_read.specs.Steps.{Reading, step, before, run}

abbrev Read : Type 0
Read = Option (Reading × List EntryValue)

-- what was read behind these entries
abbrev behind : List EntryValue → Reading × List EntryValue → Read
behind es u = Some (u.0, es ++ u.1)

-- what was read behind an entry, where there is one
abbrev behind_shown : Option EntryValue → Reading × List EntryValue → Read
behind_shown shown u = Some (u.0, before shown u.1)

-- what was read, and then these lines
abbrev lines_behind : List Line → Reading × List EntryValue → Read
lines_behind ms t = run t.0 ms >>= behind t.1

put_before : (shown : Option EntryValue) (es fs : List EntryValue) → before shown (es ++ fs) ≡ before shown es ++ fs
put_before None es fs = refl
put_before (Some e) es fs = refl

nothing_before : (r : Read) → r ≡ (r >>= behind [])
nothing_before None = refl
nothing_before (Some u) = refl

shown_first : (shown : Option EntryValue) (es : List EntryValue) (r : Read) → ((r >>= behind es) >>= behind_shown shown) ≡ (r >>= behind (before shown es))
shown_first shown es None = refl
shown_first shown es (Some u) = ap (λ (fs : List EntryValue). Some (u.0, fs)) (put_before shown es u.1)

shown_then : (shown : Option EntryValue) (ms : List Line) (r : Read) → ((r >>= lines_behind ms) >>= behind_shown shown) ≡ ((r >>= behind_shown shown) >>= lines_behind ms)
shown_then shown ms None = refl
shown_then shown ms (Some t) = shown_first shown t.1 (run t.0 ms)

abbrev step_behind : List Line → Reading × Option EntryValue → Read
step_behind ls s = run s.0 ls >>= behind_shown s.1

step_then : (ls ms : List Line) → ((q : Reading) → run q (ls ++ ms) ≡ (run q ls >>= lines_behind ms)) → (s : Option (Reading × Option EntryValue))
    → (s >>= step_behind (ls ++ ms)) ≡ ((s >>= step_behind ls) >>= lines_behind ms)
step_then ls ms others None = refl
step_then ls ms others (Some s) = ap (λ (r : Read). r >>= behind_shown s.1) (others s.0) ∙ shown_then s.1 ms (run s.0 ls)

-- lines behind others
run_append : (ls ms : List Line) (r : Reading) → run r (ls ++ ms) ≡ (run r ls >>= lines_behind ms)
run_append [] ms r = nothing_before (run r ms)
run_append (l ∷ ls) ms r = step_then ls ms (λ q. run_append ls ms q) (step r l)

-- one more line that may stand there
pub run_more : (ls : List Line) (l : Line) (r s t : Reading) (es : List EntryValue) (shown : Option EntryValue)
    → run r ls ≡ Some (s, es) → step s l ≡ Some (t, shown) → run r (ls ++ l ∷ []) ≡ Some (t, es ++ before shown [])
run_more ls l r s t es shown h g = rw (run_append ls (l ∷ []) r, h, g) refl

-- lines with one that may not stand there
pub run_stops : (ls ms : List Line) (l : Line) (r s : Reading) (es : List EntryValue)
    → run r ls ≡ Some (s, es) → step s l ≡ None → run r (ls ++ l ∷ ms) ≡ None
run_stops ls ms l r s es h g = rw (run_append ls (l ∷ ms) r, h, g) refl

-- what the parts of two steps gave
pub bind_some : {A B : Type 0} (o : Option A) (f : A → Option B) (y : B) → (o >>= f) ≡ Some y → (x : A) × (o ≡ Some x) × (f x ≡ Some y)
bind_some None f y h = absurd cc
bind_some (Some x) f y h = (x, refl, h)
