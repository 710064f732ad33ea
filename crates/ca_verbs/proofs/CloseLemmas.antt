-- The entries of a fabric that is closed: each place below the clock is filled, and what stands there is the history. For
-- proofs only.
use Rattle.std.proofs.Common.{◌≡◌, ◌∙◌, refl, sym, ap, subst, ℕ, zero, suc, ◌+◌, ◌<◌, ◌≤◌, ◌==◌, inl, inr, ⊎_elim, arith, Bool, true, false, true≢false, nat_le, List, [], ◌∷◌, length, map, take, replicate, Option, None, Some, is_some, slice_get, if◌then◌else◌}
use Rattle.std.proofs.lemmas.Bool.{eq-eqb, eqb-true, le-leb, leb-false, leb-true}
use Rattle.std.proofs.lemmas.List.{length-replicate}
use Rattle.std.proofs.lemmas.Option.{none-some}
use Rattle.std.specs.List.{AllByRecursion}
use Rattle.std.specs.Option.{option_map_or}
use Rattle.std.specs.Prelude.{Ok, ◌-◌, ◌^◌}
use Rattle.ca_base.specs.Configuration.{Configuration, configuration_in, part_count}
use Rattle.ca_base.specs.declared.settings.Settings.{Settings}
use Rattle.ca_verbs_machine.specs.Steps.{up-follows, up-none, runs-marks}
use Rattle.ca_verbs_machine.specs.After.{IsUp, RunsFrom, next_world, world_after}
use Rattle.ca_verbs_machine.specs.Meanings.{CanFollow, StandsFor, next_of}
use Rattle.ca_verbs_machine.specs.Values.{PartValue}
use Rattle.ca_verbs_machine.specs.declared.asked.Told.{Told}
use Rattle.ca_keys.specs.Memory.{zeros}
use Rattle.ca_model.specs.declared.entry.Entry.{Entry}
use Rattle.ca_model.specs.declared.event.Event.{Event}
use Rattle.ca_model.specs.declared.mark.Mark.{Mark}
use Rattle.ca_model.specs.machine.Run.{run}
use Rattle.ca_model.specs.machine.Sound.{AreLimited}
use Rattle.ca_model.specs.machine.World.{World, opening_world}
use Rattle.ca_parts.proofs.Lists.{below_at_most, below_one, bit_other, bit_same, one_below, times_has, times_without}
use Rattle.ca_parts.specs.Calls.{IsWhole}
use Rattle.ca_parts.specs.Lists.{Has, below, bit, numbers_of, times, without}
use Rattle.ca_verbs_taking.specs.Holding.{Known}
use Rattle.ca_verbs.specs.Closing.{AreInPlace, AreRemains, IsFilled, IsHistoryOf, stamped_from, stamps_of}
use Rattle.ca_verbs.specs.Kept.{Kept, kept_of, late_count, told_by}

-- the list without its first element that is this number
abbrev dropped : ℕ → List ℕ → List ℕ
dropped k [] = []
dropped k (x ∷ xs) = if k == x then xs else x ∷ dropped k xs

dropped-length : (k : ℕ) (xs : List ℕ) → 0 < times k xs → suc (length (dropped k xs)) ≡ length xs
dropped-length k [] some = absurd (omega (arith, some))
dropped-length k (x ∷ xs) some = by (k == x) refl (λ more. dropped-length k xs more)
  where
    by : (b : Bool) → (k == x) ≡ b → (0 < times k xs → suc (length (dropped k xs)) ≡ length xs) → suc (length (if k == x then xs else x ∷ dropped k xs)) ≡ suc (length xs)
    by true same on = ap (λ (b : Bool). suc (length (if b then xs else x ∷ dropped k xs))) same
    by false other on = ap (λ (b : Bool). suc (length (if b then xs else x ∷ dropped k xs))) other
        ∙ ap suc (on (omega (arith, some, ap bit other)))

dropped-times : (k m : ℕ) (xs : List ℕ) → (m ≡ k → ⊥) → times m (dropped k xs) ≡ times m xs
dropped-times k m [] apart = refl
dropped-times k m (x ∷ xs) apart = by (k == x) refl (dropped-times k m xs apart)
  where
    by : (b : Bool) → (k == x) ≡ b → times m (dropped k xs) ≡ times m xs → times m (if k == x then xs else x ∷ dropped k xs) ≡ bit (m == x) + times m xs
    by true same on =
        let none : bit (m == x) ≡ 0 = bit_other m x (λ e. apart (e ∙ sym (eqb-true k x same))) in
        let sum : times m xs ≡ bit (m == x) + times m xs = omega (arith, none) in
        ap (λ (b : Bool). times m (if b then xs else x ∷ dropped k xs)) same ∙ sum
    by false other on = ap (λ (b : Bool). times m (if b then xs else x ∷ dropped k xs)) other
        ∙ ap (λ t. bit (m == x) + t) on

-- a list in which each number below n stands has no fewer elements
reaches : (n : ℕ) (xs : List ℕ) → ((m : ℕ) → m < n → 0 < times m xs) → n ≤ length xs
reaches zero xs each = omega arith
reaches (suc n) xs each =
    let some : 0 < times n xs = each n (omega arith) in
    let fewer : n ≤ length (dropped n xs) = reaches n (dropped n xs) (λ m less.
    let more : 0 < times m xs = each m (omega (arith, less)) in
    subst (λ t. 0 < t) (sym (dropped-times n m xs (λ e. absurd (omega (arith, e, less))))) more) in
    omega (arith, fewer, dropped-length n xs some)

abbrev kept : Entry → Kept
kept e = (e.stamp, e.event, e.marks.marks)

stamps-kept : (es : List Entry) → stamps_of es ≡ map (λ (k : Kept). k.0) (kept_of es)
stamps-kept [] = refl
stamps-kept (e ∷ es) = ap (λ (l : List ℕ). e.stamp ∷ l) (stamps-kept es)

numbers-told : (ts : List (ℕ × Told)) → numbers_of ts ≡ map (λ (k : Kept). k.0) (told_by ts)
numbers-told [] = refl
numbers-told (t ∷ ts) = ap (λ (l : List ℕ). t.0 ∷ l) (numbers-told ts)

events-kept : (es : List Entry) → map (λ (e : Entry). e.event) es ≡ map (λ (k : Kept). k.1) (kept_of es)
events-kept [] = refl
events-kept (e ∷ es) = ap (λ (l : List Event). e.event ∷ l) (events-kept es)

marks-kept : (es : List Entry) → map (λ (e : Entry). e.marks.marks) es ≡ map (λ (k : Kept). k.2) (kept_of es)
marks-kept [] = refl
marks-kept (e ∷ es) = ap (λ (l : List (List Mark)). e.marks.marks ∷ l) (marks-kept es)

events-stamped : (n : ℕ) (log : List Told) → map (λ (e : Told). e.event) log ≡ map (λ (k : Kept). k.1) (stamped_from n log)
events-stamped n [] = refl
events-stamped n (t ∷ ts) = ap (λ (l : List Event). t.event ∷ l) (events-stamped (suc n) ts)

marks-stamped : (n : ℕ) (log : List Told) → map (λ (e : Told). e.marks) log ≡ map (λ (k : Kept). k.2) (stamped_from n log)
marks-stamped n [] = refl
marks-stamped n (t ∷ ts) = ap (λ (l : List (List Mark)). t.marks ∷ l) (marks-stamped (suc n) ts)

has-stamp : (e : Entry) (es : List Entry) → Has e es → 0 < times e.stamp (stamps_of es)
has-stamp e [] h = absurd h
has-stamp e (x ∷ xs) h = ⊎_elim
    (λ (is : e ≡ x). let one : bit (e.stamp == x.stamp) ≡ 1 = bit_same e.stamp x.stamp (ap (λ (y : Entry). y.stamp) is) in
    let more : 0 < bit (e.stamp == x.stamp) + times e.stamp (stamps_of xs) = omega (arith, one) in more)
    (λ (t : Has e xs). let some : 0 < times e.stamp (stamps_of xs) = has-stamp e xs t in
    let more : 0 < bit (e.stamp == x.stamp) + times e.stamp (stamps_of xs) = omega (arith, some) in more) h

-- entries of one stamp, where it stands once, are one
same-there : (m : ℕ) (es : List Entry) → times m (stamps_of es) ≤ 1 → (a b : Entry) → a.stamp ≡ m → b.stamp ≡ m → Has a es → Has b es → a ≡ b
same-there m [] once a b sa sb ha hb = absurd ha
same-there m (x ∷ xs) once a b sa sb ha hb = ⊎_elim (λ is. ⊎_elim (λ also. is ∙ sym also) (λ later. absurd (twice a b is sa sb later)) hb)
    (λ there. ⊎_elim (λ also. absurd (twice b a also sb sa there)) (λ later. same-there m xs (omega (arith, once)) a b sa sb there later) hb) ha
  where
    twice : (c d : Entry) → c ≡ x → c.stamp ≡ m → d.stamp ≡ m → Has d xs → ⊥
    twice c d is sc sd later =
        let one : bit (m == x.stamp) ≡ 1 = bit_same m x.stamp (sym sc ∙ ap (λ (y : Entry). y.stamp) is) in
        let more : 0 < times m (stamps_of xs) = subst (λ k. 0 < times k (stamps_of xs)) sd (has-stamp d xs later) in
        omega (arith, once, one, more)

has-kept : (e : Entry) (es : List Entry) → Has e es → Has (kept e) (kept_of es)
has-kept e [] h = h
has-kept e (x ∷ xs) h = ⊎_elim (λ (is : e ≡ x). inl (ap kept is)) (λ (t : Has e xs). inr (has-kept e xs t)) h

told-kept : (k : Kept) (ts : List (ℕ × Told)) → Has k (told_by ts) → (t : ℕ × Told) × Has t ts × (k ≡ (t.0, t.1.event, t.1.marks))
told-kept k [] h = absurd h
told-kept k (x ∷ xs) h = ⊎_elim (λ (is : k ≡ (x.0, x.1.event, x.1.marks)). (x, inl refl, is))
    (λ (t : Has k (told_by xs)). let r = told-kept k xs t in (r.0, inr r.1, r.2)) h

take-short : {A : Type 0} (n m : ℕ) (xs : List A) → m < length (take n xs) → m < n
take-short zero m xs less = absurd (omega (arith, less))
take-short (suc n) m [] less = absurd (omega (arith, less))
take-short (suc n) zero (x ∷ xs) less = omega arith
take-short (suc n) (suc m) (x ∷ xs) less = let r : m < n = take-short n m xs (omega (arith, less)) in omega (arith, r)

take-there : {A : Type 0} (n m : ℕ) (xs : List A) → m < n → slice_get (take n xs) m ≡ slice_get xs m
take-there zero m xs less = absurd (omega (arith, less))
take-there (suc n) m [] less = refl
take-there (suc n) zero (x ∷ xs) less = refl
take-there (suc n) (suc m) (x ∷ xs) less = take-there n m xs (omega (arith, less))

take-length : {A : Type 0} (n : ℕ) (xs : List A) → n ≤ length xs → length (take n xs) ≡ n
take-length zero xs fits = refl
take-length (suc n) [] fits = absurd (omega (arith, fits))
take-length (suc n) (x ∷ xs) fits = ap suc (take-length n xs (omega (arith, fits)))

get-within : {A : Type 0} (xs : List A) (m : ℕ) (a : A) → slice_get xs m ≡ Some a → m < length xs
get-within [] m a at = absurd (none-some a at)
get-within (x ∷ xs) zero a at = omega arith
get-within (x ∷ xs) (suc m) a at = let r : m < length xs = get-within xs m a at in omega (arith, r)

get-there : {A : Type 0} (xs : List A) (m : ℕ) → m < length xs → (a : A) × (slice_get xs m ≡ Some a)
get-there [] m less = absurd (omega (arith, less))
get-there (x ∷ xs) zero less = (x, refl)
get-there (x ∷ xs) (suc m) less = get-there xs m (omega (arith, less))

some-same : {A : Type 0} (a b : A) → Some a ≡ Some b → a ≡ b
some-same a b is = ap (λ o. option_map_or (λ x. x) o a) is

get-map : {A B : Type 0} (f : A → B) (m : ℕ) (xs : List A) (x : A) → slice_get xs m ≡ Some x → slice_get (map f xs) m ≡ Some (f x)
get-map f m [] x at = absurd (none-some x at)
get-map f zero (y ∷ ys) x at = ap (λ z. Some (f z)) (some-same y x at)
get-map f (suc m) (y ∷ ys) x at = get-map f m ys x at

length-map : {A B : Type 0} (f : A → B) (xs : List A) → length (map f xs) ≡ length xs
length-map f [] = refl
length-map f (x ∷ xs) = ap suc (length-map f xs)

-- places that are each filled
all-filled : (slots : List (Option Entry)) → ((m : ℕ) → m < length slots → IsFilled slots m) → AllByRecursion (λ (o : Option Entry). is_some o ≡ true) slots
all-filled [] each = record {}
all-filled (o ∷ os) each =
    let first : IsFilled (o ∷ os) 0 = each 0 (omega arith) in
    (ap is_some (some-same o (Some first.entry) first.there), all-filled os (λ m less. let f : IsFilled (o ∷ os) (suc m) = each (suc m) (omega (arith, less)) in record { entry = f.entry; there = f.there }))

-- none of empty places is filled
pub none-filled : (n m : ℕ) (e : Entry) → slice_get (replicate n None) m ≡ Some (Some e) → ⊥
none-filled zero m e at = none-some (Some e) at
none-filled (suc n) zero e at = none-some e (some-same None (Some e) at)
none-filled (suc n) (suc m) e at = none-filled n m e at

-- so many empty places
pub as-many : (n : ℕ) (slots : List (Option Entry)) → slots ≡ replicate n None → length slots ≡ n
as-many n slots are = ap length are ∙ length-replicate {A = Option Entry} n None

-- entries that are, at each place, the list's with the place's number
by-place : (k : ℕ) (es : List Entry) (log : List Told) → length es ≡ length log
    → ((m : ℕ) (e : Entry) (t : Told) → slice_get es m ≡ Some e → slice_get log m ≡ Some t → kept e ≡ (k + m, t.event, t.marks))
    → kept_of es ≡ stamped_from k log
by-place k [] [] same each = refl
by-place k [] (t ∷ ts) same each = absurd (omega (arith, same))
by-place k (e ∷ es) [] same each = absurd (omega (arith, same))
by-place k (e ∷ es) (t ∷ ts) same each =
    let here : kept e ≡ (k, t.event, t.marks) = each 0 e t refl refl ∙ ap (λ (n : ℕ). (n, t.event, t.marks)) (let z : k + 0 ≡ k = omega arith in z) in
    let on : kept_of es ≡ stamped_from (suc k) ts = by-place (suc k) es ts (omega (arith, same)) (λ m x y atx aty.
    each (suc m) x y atx aty ∙ ap (λ (n : ℕ). (n, y.event, y.marks)) (let z : k + suc m ≡ suc k + m = omega arith in z)) in
    ap (λ (x : Kept). x ∷ kept_of es) here ∙ ap (λ (l : List Kept). (k, t.event, t.marks) ∷ l) on

-- a number that stands among those of numbered entries has one
numbered-there : (m : ℕ) (ts : List (ℕ × Told)) → 0 < times m (numbers_of ts) → (e : Told) × Has (m, e) ts
numbered-there m [] some = absurd (omega (arith, some))
numbered-there m (t ∷ ts) some = by (m == t.0) refl (λ more. numbered-there m ts more)
  where
    by : (b : Bool) → (m == t.0) ≡ b → (0 < times m (numbers_of ts) → (e : Told) × Has (m, e) ts) → (e : Told) × Has (m, e) (t ∷ ts)
    by true same others = (t.1, inl (ap (λ (k : ℕ). (k, t.1)) (eqb-true m t.0 same)))
    by false other others =
        let r : (e : Told) × Has (m, e) ts = others (omega (arith, some, ap bit other)) in
        (r.0, inr r.1)

-- a list of the machine begins with lists of the machine
runs-first : (c : Configuration) (w : World) (m : ℕ) (log : List Told) → RunsFrom c w log → RunsFrom c w (take m log)
runs-first c w zero log runs = record {}
runs-first c w (suc m) [] runs = record {}
runs-first c w (suc m) (t ∷ ts) runs = (runs.0, runs-first c (next_world c w t.event) m ts runs.1)

first-length : {A : Type 0} (m : ℕ) (xs : List A) → length (take m xs) ≤ length xs
first-length zero xs = omega arith
first-length (suc m) [] = omega arith
first-length (suc m) (x ∷ xs) = let r : length (take m xs) ≤ length xs = first-length m xs in omega (arith, r)

up-first : (c : Configuration) (m : ℕ) (log : List Told) → IsUp c log → IsUp c (take m log)
up-first c m log up = record {
  limited = up.limited;
  few = omega (arith, up.few, first-length m log);
  runs = runs-first c (opening_world zeros) m log up.runs;
}

one-more : (n : ℕ) → 1 + n ≡ suc n
one-more n = omega arith

moved : (a b : ℕ) → a + suc b ≡ suc (a + b)
moved a b = omega arith

-- an entry less is a late one less, where it is late
late-without : (limit k : ℕ) (e : Told) (ts : List (ℕ × Told)) → Has (k, e) ts → limit ≤ suc k → late_count limit ts ≡ suc (late_count limit (without k ts))
late-without limit k e [] has late = absurd has
late-without limit k e (t ∷ ts) has late = by (k == t.0) refl (λ there. late-without limit k e ts there late) has
  where
    by : (b : Bool) → (k == t.0) ≡ b → (Has (k, e) ts → late_count limit ts ≡ suc (late_count limit (without k ts))) → Has (k, e) (t ∷ ts)
        → late_count limit (t ∷ ts) ≡ suc (late_count limit (if b then ts else t ∷ without k ts))
    by true here on has = ap (λ (b : Bool). (if b then 1 else 0) + late_count limit ts) (ap (λ (n : ℕ). nat_le limit (suc n)) (sym (eqb-true k t.0 here)) ∙ le-leb limit (suc k) late) ∙ one-more (late_count limit ts)
    by false other on has =
        let there : Has (k, e) ts = ⊎_elim (λ (is : (k, e) ≡ t). absurd (true≢false (sym (eq-eqb k t.0 (ap (λ (x : ℕ × Told). x.0) is)) ∙ other))) (λ (rest : Has (k, e) ts). rest) has in
        let rest : late_count limit ts ≡ suc (late_count limit (without k ts)) = on there in
        ap (λ (m : ℕ). (if nat_le limit (suc t.0) then 1 else 0) + m) rest ∙ moved (if nat_le limit (suc t.0) then 1 else 0) (late_count limit (without k ts))

-- where each late number below n has an entry, there are as many late entries
late-reach : (limit n : ℕ) (ts : List (ℕ × Told)) → 1 ≤ limit → ((m : ℕ) → limit ≤ suc m → m < n → 0 < times m (numbers_of ts)) → suc n ≤ limit + late_count limit ts
late-reach limit zero ts some each = omega (arith, some)
late-reach limit (suc n) ts some each = by (nat_le limit (suc n)) refl (λ e has late. late-reach limit n (without n ts) some (λ m over less.
    let more : 0 < times m (numbers_of ts) = each m over (omega (arith, less)) in
    let other : bit (m == n) ≡ 0 = bit_other m n (λ e. absurd (omega (arith, e, less))) in
    omega (arith, more, other, times_without m n e ts has)))
  where
    by : (b : Bool) → nat_le limit (suc n) ≡ b → ((e : Told) → Has (n, e) ts → limit ≤ suc n → suc n ≤ limit + late_count limit (without n ts)) → suc (suc n) ≤ limit + late_count limit ts
    by false early before = omega (arith, leb-false limit (suc n) early)
    by true is before =
        let late : limit ≤ suc n = leb-true limit (suc n) is in
        let found : (e : Told) × Has (n, e) ts = times_has n ts (each n late (omega arith)) in
        omega (arith, before found.0 found.1 late, late-without limit n found.0 ts found.1 late)

module _ (key : Settings) (n : ℕ) (values : List PartValue) (v : Known) (entries : List Entry) (same : kept_of entries ≡ told_by v.entries) (whole : IsWhole next_of CanFollow StandsFor key n values v) where
  stamps-same : stamps_of entries ≡ numbers_of v.entries
  stamps-same = stamps-kept entries ∙ ap (map (λ (k : Kept). k.0)) same ∙ sym (numbers-told v.entries)

  times-same : (m : ℕ) → times m (stamps_of entries) ≡ below m n
  times-same m = ap (times m) stamps-same ∙ whole.entries_all m

  pub each-there : (m : ℕ) → m < n → 0 < times m (stamps_of entries)
  each-there m less = omega (arith, times-same m, below_one m n less)

  pub no-more : n ≤ length entries
  no-more =
      let most : n ≤ length (stamps_of entries) = reaches n (stamps_of entries) each-there in
      omega (arith, most, length-map (λ (e : Entry). e.stamp) entries)

  pub stamp-within : (e : Entry) → Has e entries → e.stamp < n
  stamp-within e h = one_below e.stamp n (omega (arith, has-stamp e entries h, times-same e.stamp))

  none-left-out : (m : ℕ) (e : Told) → slice_get whole.log m ≡ Some e → Has (m, e) v.entries
  none-left-out m e at =
      let within : m < n = omega (arith, get-within whole.log m e at, whole.length_is) in
      let found : (x : Told) × Has (m, x) v.entries = numbered-there m v.entries (omega (arith, whole.entries_all m, below_one m n within)) in
      let same : found.0 ≡ e = some-same found.0 e (sym (whole.entries_true m found.0 found.1).1 ∙ at) in
      subst (λ (x : Told). Has (m, x) v.entries) same found.1

  pub filled-below : (slots : List (Option Entry)) → ((m : ℕ) → 0 < times m (stamps_of entries) → IsFilled slots m) → AllByRecursion (λ (o : Option Entry). is_some o ≡ true) (take n slots)
  filled-below slots each = all-filled (take n slots) (λ m less.
      let below_n : m < n = take-short n m slots less in
      let f : IsFilled slots m = each m (each-there m below_n) in
      record { entry = f.entry; there = take-there n m slots below_n ∙ f.there })

  module _ (slots : List (Option Entry)) (out : List Entry) (count : length slots ≡ length entries) (right : (m : ℕ) (e : Entry) → slice_get slots m ≡ Some (Some e) → (e.stamp ≡ m) × Has e entries) (collected : map Some out ≡ take n slots) where
    out-length : length out ≡ length whole.log
    out-length = sym (length-map Some out) ∙ ap length collected ∙ take-length n slots (omega (arith, no-more, count)) ∙ sym whole.length_is

    out-there : (m : ℕ) (e : Entry) (t : Told) → slice_get out m ≡ Some e → slice_get whole.log m ≡ Some t → kept e ≡ (0 + m, t.event, t.marks)
    out-there m e t at log_at =
        let within : m < n = omega (arith, get-within whole.log m t log_at, whole.length_is) in
        let slot : slice_get slots m ≡ Some (Some e) = sym (take-there n m slots within) ∙ ap (λ (l : List (Option Entry)). slice_get l m) (sym collected) ∙ get-map Some m out e at in
        let is : (e.stamp ≡ m) × Has e entries = right m e slot in
        let found : (x : ℕ × Told) × Has x v.entries × (kept e ≡ (x.0, x.1.event, x.1.marks)) = told-kept (kept e) v.entries (subst (Has (kept e)) same (has-kept e entries is.1)) in
        let number : found.0.0 ≡ m = sym (ap (λ (k : Kept). k.0) found.2) ∙ is.0 in
        let one : found.0.1 ≡ t = some-same found.0.1 t (sym (whole.entries_true found.0.0 found.0.1 found.1).1 ∙ ap (slice_get whole.log) number ∙ log_at) in
        found.2 ∙ ap (λ (k : ℕ). (k, found.0.1.event, found.0.1.marks)) number ∙ ap (λ (x : Told). (m, x.event, x.marks)) one ∙ ap (λ (k : ℕ). (k, t.event, t.marks)) (let z : m ≡ 0 + m = omega arith in z)

    out-kept : kept_of out ≡ stamped_from 0 whole.log
    out-kept = by-place 0 out whole.log out-length out-there

    -- no more entries than the limit and the other passes
    few-out : 1 ≤ key.events → late_count key.events v.entries ≤ v.passes → length out < key.events + v.passes
    few-out some late =
        let reach : suc n ≤ key.events + late_count key.events v.entries = late-reach key.events n v.entries some (λ m over less.
        let one : below m n ≡ 1 = below_one m n less in omega (arith, one, whole.entries_all m)) in
        omega (arith, reach, late, out-length, whole.length_is)

    pub in-place : AreInPlace entries out
    in-place = record {
      there = λ e has.
          let within : e.stamp < n = stamp-within e has in
          let found : (x : Entry) × (slice_get out e.stamp ≡ Some x) = get-there out e.stamp (omega (arith, within, out-length, whole.length_is)) in
          let is : (found.0.stamp ≡ e.stamp) × Has found.0 entries = out-right e.stamp found.0 found.1 in
          found.1 ∙ ap Some (same-there e.stamp entries (omega (arith, times-same e.stamp, below_at_most e.stamp n)) found.0 e is.0 refl is.1 has);
      all = λ m e at. out-right m e at;
    }
      where
        out-right : (m : ℕ) (e : Entry) → slice_get out m ≡ Some e → (e.stamp ≡ m) × Has e entries
        out-right m e at =
            let within : m < n = omega (arith, get-within out m e at, out-length, whole.length_is) in
            right m e (sym (take-there n m slots within) ∙ ap (λ (l : List (Option Entry)). slice_get l m) (sym collected) ∙ get-map Some m out e at)

    pub history-of : AreLimited (configuration_in key) → length entries ≤ 4294967294 → late_count key.events v.entries ≤ v.passes → IsHistoryOf key v out
    history-of limited few late =
        let short : length {A = Told} [] + length whole.log < 2 ^ 32 - 1 = omega (arith, few, no-more, whole.length_is) in
        let up : IsUp (configuration_in key) whole.log = up-follows key [] whole.log (up-none (configuration_in key) limited) whole.follows short in
        let events : map (λ (e : Entry). e.event) out ≡ map (λ (e : Told). e.event) whole.log = events-kept out ∙ ap (map (λ (k : Kept). k.1)) out-kept ∙ sym (events-stamped 0 whole.log) in
        let marks : map (λ (e : Entry). e.marks.marks) out ≡ map (λ (e : Told). e.marks) whole.log = marks-kept out ∙ ap (map (λ (k : Kept). k.2)) out-kept ∙ sym (marks-stamped 0 whole.log) in
        record {
          log = whole.log;
          up = up;
          kept = out-kept;
          runs = ap (run (configuration_in key)) events ∙ runs-marks (configuration_in key) 0 (opening_world zeros) whole.log up.runs ∙ ap Ok (sym marks);
          receipts = λ m e has. (whole.entries_true m e has).1;
          notes = λ m hand has. let r = whole.notes_true m hand has in (omega (arith, r.0, whole.length_is), r.1);
          not_possible = λ m hand asked reason has says. let r = whole.notes_true m hand has in
              says.says (take m whole.log) (take-length m whole.log (omega (arith, r.0, whole.length_is))) (up-first (configuration_in key) m whole.log up) r.1;
          few = few-out (omega (arith, limited.least_events)) late;
        }

    pub remains-of : AreLimited (configuration_in key) → length entries ≤ 4294967294 → late_count key.events v.entries ≤ v.passes → length values ≡ part_count (configuration_in key) → AreRemains key v out values
    unfolding history-of
    remains-of limited few late count = record { history = history-of limited few late; all = none-left-out; count = count; stand = whole.values_stand }
