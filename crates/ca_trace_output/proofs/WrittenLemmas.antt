-- What a sink took of a text while more of it waits or is to come. For proofs only.
use Rattle.std.proofs.Common.{◌≡◌, ◌∙◌, ◌+◌, ◌<◌, ◌≤◌, ◌++◌, ℕ, List, [], Option, Result, Ok, Err, OnErr, ap, drop, length, length-append, map, take, refl, sym, subst, arith}
use Rattle.std.proofs.KnownBytes.{Appends-trans}
use Rattle.std.proofs.Math.Seq.{take-append-add, take-append_seam}
use Rattle.std.proofs.lemmas.Grind.{common_steps, flat_map-append}
use Rattle.std.proofs.lemmas.List.{append-nil, append_assoc, length-map, take-append-drop, take-append-le}
use Rattle.std.proofs.lemmas.List.Folds.{flat_map-map}
use Rattle.std.specs.Io.KnownBytes.{Appends}
use Rattle.std.specs.List.{flat_map}
use Rattle.ca_model.specs.declared.entry.Entry.{Entry}
use Rattle.ca_model.specs.Entries.{EntryValue, entry_of}
use Rattle.ca_outside.specs.Outside.{AppendsPart}
use Rattle.ca_trace.specs.Trace.{end_text, entry_text, text}

-- what holds anyway holds of an error
pub on-err : {T E P : Type 0} (r : Result T E) → P → OnErr r P
on-err (Ok x) p = tt
on-err (Err e) p = p

-- the lines of entries
abbrev pub lines_of : List Entry → List ℕ
lines_of entries = flat_map (λ e. entry_text (entry_of e)) entries

-- what comes behind the lines of the first entries
abbrev pub rest_of : ℕ → List Entry → List ℕ
rest_of i entries = lines_of (drop i entries) ++ end_text (length entries)

-- the text is all lines and the last
pub text-of : (entries : List Entry) (es : List EntryValue) → map entry_of entries ≡ es → text es ≡ lines_of entries ++ end_text (length entries)
text-of entries es e = sym (rw (← e, flat_map-map entry_text entry_of entries, length-map) refl)

lines-split : (entries : List Entry) (i : ℕ) → lines_of entries ≡ lines_of (take i entries) ++ lines_of (drop i entries)
lines-split entries i = ap lines_of (sym (take-append-drop i entries)) ∙ flat_map-append (λ e. entry_text (entry_of e)) (take i entries) (drop i entries)

-- the text is the lines of the first entries and the rest
pub text-split : (entries : List Entry) (es : List EntryValue) (i : ℕ) → map entry_of entries ≡ es → text es ≡ lines_of (take i entries) ++ rest_of i entries
text-split entries es i e = text-of entries es e ∙ ap (λ ls. ls ++ end_text (length entries)) (lines-split entries i) ∙ append_assoc (lines_of (take i entries)) (lines_of (drop i entries)) (end_text (length entries))

-- there is always a rest
pub rest-some : (i : ℕ) (entries : List Entry) → 0 < length (rest_of i entries)
rest-some i entries = omega (arith, length-append (lines_of (drop i entries)) (end_text (length entries)), end-some (length entries))
  where
    end-some : (n : ℕ) → 0 < length (end_text n)
    end-some n = grind (arith, common_steps)

-- a sink took a front, of the rest of which some waits
pub front-taken : (a b : Option (List ℕ)) (whole front waiting more : List ℕ) → whole ≡ (front ++ waiting) ++ more → 0 < length more → Appends a b front → AppendsPart a b whole
front-taken a b whole front waiting more is some took =
    let behind : whole ≡ front ++ (waiting ++ more) = is ∙ append_assoc front waiting more in (
      length front,
      omega (arith, ap length behind, length-append front (waiting ++ more), length-append waiting more, some),
      subst (Appends a b) (sym (ap (take (length front)) behind ∙ take-append_seam front (waiting ++ more))) took,
    )

-- a sink took a front, and then a part of what waited
pub part-taken : (a b c : Option (List ℕ)) (whole front waiting more : List ℕ) → whole ≡ (front ++ waiting) ++ more → Appends a b front → AppendsPart b c waiting → AppendsPart a c whole
part-taken a b c whole front waiting more is took part =
    let behind : whole ≡ front ++ (waiting ++ more) = is ∙ append_assoc front waiting more in
    let few : part.0 ≤ length waiting = omega (arith, part.1) in (
      length front + part.0,
      omega (arith, ap length behind, length-append front (waiting ++ more), length-append waiting more, part.1),
      subst (Appends a c)
          (sym (ap (take (length front + part.0)) behind ∙ take-append-add front (waiting ++ more) part.0 ∙ ap (λ bs. front ++ bs) (take-append-le part.0 waiting more few)))
          (Appends-trans a b c front (take part.0 waiting) took part.2),
    )

-- a part of the front is a part of the whole
pub part-of-front : (a b : Option (List ℕ)) (front more : List ℕ) → AppendsPart a b front → AppendsPart a b (front ++ more)
part-of-front a b front more part =
    let few : part.0 ≤ length front = omega (arith, part.1) in (
      part.0,
      omega (arith, length-append front more, part.1),
      subst (Appends a b) (sym (take-append-le part.0 front more few)) part.2,
    )

-- a sink took a front, and then a part of what is behind
pub part-behind : (a b c : Option (List ℕ)) (front behind : List ℕ) → Appends a b front → AppendsPart b c behind → AppendsPart a c (front ++ behind)
part-behind a b c front behind took part = part-taken a b c (front ++ behind) front behind [] (sym (append-nil _)) took part
