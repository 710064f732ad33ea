-- Runs that are added to those that cover a group's bytes. For proofs only.
use Rattle.std.proofs.Common.{◌≡◌, ◌∙◌, ℕ, zero, suc, ◌+◌, ◌<◌, ◌≤◌, ◌^◌, ◌==◌, ◌&&◌, ◌||◌, nat_le, arith, Bool, true, false, List, [], ◌∷◌, ◌++◌, drop, length, map, slice_index_or, if◌then◌else◌, ap, refl, subst, sym, true≢false}
use Rattle.std.proofs.Math.Seq.{drop-cons}
use Rattle.std.proofs.lemmas.Bool.{and_parts, eqb-true, le-leb, leb-true}
use Rattle.std.proofs.lemmas.List.{drop_all}
use Rattle.std.specs.List.{AllByRecursion, list_any}
use Rattle.ca_isolation.proofs.StretchLemmas.{InPlaces, run-made, run-parts}
use Rattle.ca_isolation.specs.Groups.{Group, covered, is_granted_by}
use Rattle.ca_keys.specs.Memory.{is_in}
use Rattle.ca_keys.specs.declared.grant.Grant.{Grant}
use Rattle.ca_keys.specs.declared.place.Place.{Place}
use Rattle.ca_keys.specs.declared.place.Run.{Run}
use Rattle.ca_isolation.specs.Cover.{AreInReach, EndsInReach, GrantsInReach, covers}
use Rattle.ca_isolation.specs.Covering.{AddsPlaces, AddsPlacesOfEach, lies_within, runs_granted}
use Rattle.ca_model.specs.Entries.{EntryValue}
use Rattle.ca_model.specs.declared.mark.Mark.{Mark}
use Rattle.ca_model.specs.declared.mark.Mark.TheVariants as marks

-- what is left of a list where a loop stands
pub here : {A : Type 0} (xs : List A) (i : ℕ) (x : A) → i < length xs → x ≡ slice_index_or xs i x → drop i xs ≡ x ∷ drop (i + 1) xs
here xs i x less is = drop-cons xs i x less ∙ (λ j. sym is j ∷ drop (later j) xs)
  where
    later : suc i ≡ i + 1
    later = omega arith

-- the run where a loop stands
abbrev pub run_at : List Run → ℕ → Run
run_at rs i = slice_index_or rs i (record { adapter = 0; buffer = 0; offset = 0; length = 0 })

at-any : {A : Type 0} (xs : List A) (i : ℕ) (d e : A) → i < length xs → slice_index_or xs i d ≡ slice_index_or xs i e
at-any [] i d e less = absurd (omega (arith, less))
at-any (x ∷ xs) zero d e less = refl
at-any (x ∷ xs) (suc i) d e less = at-any xs i d e (omega (arith, less))

pub run-there : (rs : List Run) (i : ℕ) → i < length rs → run_at rs i ≡ slice_index_or rs i (run_at rs i)
run-there rs i less = at-any rs i (record { adapter = 0; buffer = 0; offset = 0; length = 0 }) (run_at rs i) less

or-none : (b : Bool) → b ≡ (b || false)
or-none true = refl
or-none false = refl

or-two : (a b c : Bool) → ((a || b) || c) ≡ (a || (b || c))
or-two true b c = refl
or-two false b c = refl

or-either : (a b : Bool) → b ≡ true → (a || b) ≡ true
or-either true b is = refl
or-either false b is = is

-- ---- adding

pub adds-none : (rs : List Run) → AddsPlaces (Unit {0}) (λ p. false) rs rs
adds-none rs = record { reach = λ all. all; places = λ fit p. or-none (covers rs p) }

adds-cons : {A : Type 0} (IsFit : A → Type 0) (more : A → Place → Bool) (x : A) (xs : List A) (a b c : List Run)
    → AddsPlaces (IsFit x) (more x) a b → AddsPlacesOfEach IsFit more xs b c → AddsPlacesOfEach IsFit more (x ∷ xs) a c
adds-cons IsFit more x xs a b c one rest = record {
  reach = λ all. rest.reach (one.reach all);
  places = λ fits p.
      rest.places fits.1 p
      ∙ ap (λ v. v || list_any (λ y. more y p) xs) (one.places fits.0 p)
      ∙ or-two (covers a p) (more x p) (list_any (λ y. more y p) xs);
}

-- a loop that adds what comes of each
pub adds-step : {A : Type 0} (IsFit : A → Type 0) (more : A → Place → Bool) (xs : List A) (i : ℕ) (x : A) (a b c : List Run)
    → i < length xs → x ≡ slice_index_or xs i x → AddsPlaces (IsFit x) (more x) a b
    → AddsPlacesOfEach IsFit more (drop (i + 1) xs) b c → AddsPlacesOfEach IsFit more (drop i xs) a c
adds-step IsFit more xs i x a b c less is one rest =
    subst (λ ys. AddsPlacesOfEach IsFit more ys a c) (sym (here xs i x less is)) (adds-cons IsFit more x (drop (i + 1) xs) a b c one rest)

-- the same over what is made of each
pub adds-step-of : {A B : Type 0} (IsFit : B → Type 0) (more : B → Place → Bool) (f : A → B) (xs : List A) (i : ℕ) (x : A) (a b c : List Run)
    → i < length xs → x ≡ slice_index_or xs i x → AddsPlaces (IsFit (f x)) (more (f x)) a b
    → AddsPlacesOfEach IsFit more (map f (drop (i + 1) xs)) b c → AddsPlacesOfEach IsFit more (map f (drop i xs)) a c
adds-step-of IsFit more f xs i x a b c less is one rest =
    subst (λ ys. AddsPlacesOfEach IsFit more (map f ys) a c) (sym (here xs i x less is)) (adds-cons IsFit more (f x) (map f (drop (i + 1) xs)) a b c one rest)

-- where no more is to come
pub adds-last : {A : Type 0} (IsFit : A → Type 0) (more : A → Place → Bool) (xs : List A) (i : ℕ) (rs : List Run) → length xs ≤ i → AddsPlacesOfEach IsFit more (drop i xs) rs rs
adds-last IsFit more xs i rs all = subst (λ ys. AddsPlacesOfEach IsFit more ys rs rs) (sym (drop_all i xs all)) (adds-none rs)

pub adds-last-of : {A B : Type 0} (IsFit : B → Type 0) (more : B → Place → Bool) (f : A → B) (xs : List A) (i : ℕ) (rs : List Run) → length xs ≤ i
    → AddsPlacesOfEach IsFit more (map f (drop i xs)) rs rs
adds-last-of IsFit more f xs i rs all = subst (λ ys. AddsPlacesOfEach IsFit more (map f ys) rs rs) (sym (drop_all i xs all)) (adds-none rs)

-- all entries
abbrev pub AddsEntries : Group → List EntryValue → List Run → List Run → Type 0
AddsEntries group es old new = AddsPlacesOfEach (λ (e : EntryValue). AllByRecursion GrantsInReach e.marks) (λ e p. list_any (is_granted_by group p) e.marks) es old new

pub entries-covered : (group : Group) (es hs : List EntryValue) (rs : List Run) → es ≡ hs → AddsEntries group es [] rs → AreInReach hs → (p : Place) → covers rs p ≡ covered group hs p
entries-covered group es hs rs same added = (subst (λ xs. AddsEntries group xs [] rs) same added).places

-- ---- one run

-- a run out of reach
pub adds-out : (r : Run) (rs : List Run) → nat_le (r.offset + r.length) (2 ^ 32) ≡ false → AddsPlaces (EndsInReach r) (is_in r) rs rs
adds-out r rs out = record {
  reach = λ all. all;
  places = λ fit p. absurd (true≢false (sym (le-leb (r.offset + r.length) (2 ^ 32) fit) ∙ out));
}

within-place : (r s : Run) (p : Place) → lies_within r s ≡ true → is_in r p ≡ true → is_in s p ≡ true
within-place r s p within at = run-made s p (record {
  adapter = one.adapter ∙ eqb-true r.adapter s.adapter two.0;
  buffer = one.buffer ∙ eqb-true r.buffer s.buffer two.1;
  from = omega (arith, one.from, leb-true s.offset r.offset three.1);
  upto = omega (arith, one.upto, leb-true (r.offset + r.length) (s.offset + s.length) four.1);
})
  where
    one : InPlaces r p
    one = run-parts r p at

    four : (((r.adapter == s.adapter) && (r.buffer == s.buffer) && nat_le s.offset r.offset) ≡ true) × (nat_le (r.offset + r.length) (s.offset + s.length) ≡ true)
    four = and_parts ((r.adapter == s.adapter) && (r.buffer == s.buffer) && nat_le s.offset r.offset) (nat_le (r.offset + r.length) (s.offset + s.length)) within

    three : (((r.adapter == s.adapter) && (r.buffer == s.buffer)) ≡ true) × (nat_le s.offset r.offset ≡ true)
    three = and_parts ((r.adapter == s.adapter) && (r.buffer == s.buffer)) (nat_le s.offset r.offset) four.0

    two : ((r.adapter == s.adapter) ≡ true) × ((r.buffer == s.buffer) ≡ true)
    two = and_parts (r.adapter == s.adapter) (r.buffer == s.buffer) three.0

within-any : (r : Run) (rs : List Run) (p : Place) → list_any (lies_within r) rs ≡ true → is_in r p ≡ true → covers rs p ≡ true
within-any r [] p none at = absurd (true≢false (sym none))
within-any r (s ∷ rs) p some at = by (lies_within r s) refl (λ rest. within-any r rs p rest at)
  where
    by : (b : Bool) → lies_within r s ≡ b → (list_any (lies_within r) rs ≡ true → covers rs p ≡ true) → covers (s ∷ rs) p ≡ true
    by true is later = ap (λ b. b || covers rs p) (within-place r s p is at)
    by false is later = or-either (is_in s p) (covers rs p) (later (ap (λ b. b || list_any (lies_within r) rs) (sym is) ∙ some))

within-covers : (r : Run) (rs : List Run) (p : Place) → list_any (lies_within r) rs ≡ true → covers rs p ≡ (covers rs p || is_in r p)
within-covers r rs p some = by (is_in r p) refl
  where
    by : (b : Bool) → is_in r p ≡ b → covers rs p ≡ (covers rs p || is_in r p)
    by true is = within-any r rs p some is ∙ sym (ap (λ b. b || is_in r p) (within-any r rs p some is))
    by false is = or-none (covers rs p) ∙ ap (λ b. covers rs p || b) (sym is)

-- a run that lies within another
pub adds-within : (r : Run) (rs : List Run) → list_any (lies_within r) rs ≡ true → AddsPlaces (EndsInReach r) (is_in r) rs rs
adds-within r rs some = record { reach = λ all. all; places = λ fit p. within-covers r rs p some }

reach-more : (rs : List Run) (r : Run) → EndsInReach r → AllByRecursion EndsInReach rs → AllByRecursion EndsInReach (rs ++ r ∷ [])
reach-more [] r ends all = (ends, record {})
reach-more (s ∷ rs) r ends all = (all.0, reach-more rs r ends all.1)

covers-more : (rs : List Run) (r : Run) (p : Place) → covers (rs ++ r ∷ []) p ≡ (covers rs p || is_in r p)
covers-more [] r p = sym (or-none (is_in r p))
covers-more (s ∷ rs) r p = ap (λ b. is_in s p || b) (covers-more rs r p) ∙ sym (or-two (is_in s p) (covers rs p) (is_in r p))

-- another run
pub adds-run : (r : Run) (rs : List Run) → nat_le (r.offset + r.length) (2 ^ 32) ≡ true → AddsPlaces (EndsInReach r) (is_in r) rs (rs ++ r ∷ [])
adds-run r rs in-reach = record { reach = reach-more rs r (leb-true (r.offset + r.length) (2 ^ 32) in-reach); places = λ fit p. covers-more rs r p }

-- ---- marks

adds-granted : (group : Group) (g : Grant) (b : Bool) (old new : List Run) → group g.domain ≡ b
    → AddsPlacesOfEach EndsInReach is_in (if b then g.runs else []) old new
    → AddsPlaces (AllByRecursion EndsInReach g.runs) (λ p. b && covers g.runs p) old new
adds-granted group g true old new is one = record { reach = one.reach; places = one.places }
adds-granted group g false old new is one = record { reach = one.reach; places = λ fit p. one.places (record {}) p }

-- the runs that a mark grants to the group
pub adds-mark : (group : Group) (m : Mark) (old new : List Run) → AddsPlacesOfEach EndsInReach is_in (runs_granted group m) old new
    → AddsPlaces (GrantsInReach m) (λ p. is_granted_by group p m) old new
adds-mark group (marks.Granted g) old new one = adds-granted group g (group g.domain) old new refl one
adds-mark group (marks.Verb by verb answer) old new one = one
adds-mark group (marks.Revoked adapter key) old new one = one
adds-mark group (marks.Remote queue domain envelope key kind address count verdict) old new one = one
adds-mark group (marks.Local queue domain key kind address count verdict) old new one = one
adds-mark group (marks.Stored place bytes) old new one = one
adds-mark group (marks.Sent source target index request bytes) old new one = one
adds-mark group (marks.Lost target index) old new one = one
adds-mark group (marks.Arrived target index) old new one = one
adds-mark group (marks.Dropped target cause) old new one = one
adds-mark group (marks.Timer queue silent) old new one = one
adds-mark group (marks.Done queue x cause) old new one = one
