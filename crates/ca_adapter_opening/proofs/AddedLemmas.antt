-- Rows to which parts are added, one after another. For proofs only.
use Rattle.std.proofs.Common.{◌≡◌, ◌∙◌, refl, sym, ap, subst, ℕ, zero, suc, ◌+◌, ◌≤◌, arith, List, [], ◌∷◌, ◌++◌, length, map, take, slice_get, Some, is_some, true≢false}
use Rattle.std.proofs.lemmas.List.{append-nil, append_assoc}
use Rattle.std.proofs.lemmas.List.FromFn.{map-range_with_len_more}
use Rattle.std.proofs.lemmas.Grind.{flat_map-append}
use Rattle.std.proofs.lemmas.List.Concat.{flat_map-cons}
use Rattle.std.specs.List.{flat_map, range_with_len}
use Rattle.ca_adapter_parts.specs.declared.part.Part.{Part}
use Rattle.ca_model.specs.declared.part_name.PartName.{PartName}
use Rattle.ca_base.specs.Configuration.{Adapter, Configuration}
use Rattle.ca_adapter_parts.specs.declared.part.Part.TheVariants as parts
use Rattle.ca_model.specs.declared.part_name.PartName.TheVariants as names
use Rattle.ca_model_places.specs.Places.{all_parts, parts_at, parts_from}
use Rattle.std.specs.Option.{option_map_or}
use Rattle.ca_adapter_opening.specs.Added.{AddsParts, IsBufferOf}
use Rattle.ca_adapter_opening.specs.Opening.{AreParts, IsOpeningPart, IsVacantPart, contents_from}
use Rattle.ca_adapter_opening.proofs.ContentsLemmas.{get-take}

are-append : (P : PartName → Part → Type 0) (ms ns : List PartName) (ps qs : List Part) → AreParts P ms ps → AreParts P ns qs → AreParts P (ms ++ ns) (ps ++ qs)
are-append P [] ns [] qs one other = other
are-append P [] ns (p ∷ ps) qs one other = absurd one
are-append P (m ∷ ms) ns [] qs one other = absurd one
are-append P (m ∷ ms) ns (p ∷ ps) qs one other = (one.0, are-append P ms ns ps qs one.1 other)

pub are-all : (P Q : PartName → Part → Type 0) → ((n : PartName) (p : Part) → P n p → Q n p) → (ns : List PartName) (ps : List Part) → AreParts P ns ps → AreParts Q ns ps
are-all P Q f [] [] all = record {}
are-all P Q f [] (p ∷ ps) all = absurd all
are-all P Q f (n ∷ ns) [] all = absurd all
are-all P Q f (n ∷ ns) (p ∷ ps) all = (f n p all.0, are-all P Q f ns ps all.1)

pub adds-none : (P : PartName → Part → Type 0) (row : List Part) → AddsParts P [] row row
adds-none P row = record { added = []; all = sym (append-nil row); are = record {} }

pub adds-one : (P : PartName → Part → Type 0) (n : PartName) (p : Part) (old new : List Part) → P n p → new ≡ old ++ p ∷ [] → AddsParts P (n ∷ []) old new
adds-one P n p old new is e = record { added = p ∷ []; all = e; are = (is, record {}) }

pub adds-then : (P : PartName → Part → Type 0) (ms ns : List PartName) (a b d : List Part) → AddsParts P ms a b → AddsParts P ns b d → AddsParts P (ms ++ ns) a d
adds-then P ms ns a b d one other = record {
  added = one.added ++ other.added;
  all = other.all ∙ ap (λ xs. xs ++ other.added) one.all ∙ append_assoc a one.added other.added;
  are = are-append P ms ns one.added other.added one.are other.are;
}

pub adds-all : (P Q : PartName → Part → Type 0) → ((n : PartName) (p : Part) → P n p → Q n p) → (ns : List PartName) (a b : List Part) → AddsParts P ns a b → AddsParts Q ns a b
adds-all P Q f ns a b one = record { added = one.added; all = one.all; are = are-all P Q f ns one.added one.are }

pub adds-as : (P : PartName → Part → Type 0) (ms ns : List PartName) (a b : List Part) → ms ≡ ns → AddsParts P ms a b → AddsParts P ns a b
adds-as P ms ns a b same one = record { added = one.added; all = one.all; are = subst (λ xs. AreParts P xs one.added) same one.are }

-- one part more of those by number
pub adds-next : (P : PartName → Part → Type 0) (f : ℕ → PartName) (n : ℕ) (p : Part) (a b d : List Part) → AddsParts P (map f (range_with_len 0 n)) a b → P (f n) p → d ≡ b ++ p ∷ []
    → AddsParts P (map f (range_with_len 0 (n + 1))) a d
adds-next P f n p a b d one is e = adds-as P (map f (range_with_len 0 n) ++ f n ∷ []) (map f (range_with_len 0 (n + 1))) a d (sym (map-range_with_len_more f 0 n n (omega arith)))
    (adds-then P (map f (range_with_len 0 n)) (f n ∷ []) a b d one (adds-one P (f n) p b d is e))

range-more : (a n j : ℕ) → a + n ≡ j → range_with_len a (n + 1) ≡ range_with_len a n ++ j ∷ []
range-more a zero j at = ap (λ k. k ∷ []) (omega (arith, at))
range-more a (suc n) j at = let e : suc n + 1 ≡ suc (n + 1) = omega arith in
    ap (range_with_len a) e ∙ ap (λ xs. a ∷ xs) (range-more (a + 1) n j (omega (arith, at)))

-- the parts of one number more
pub adds-more : (P : PartName → Part → Type 0) (f : ℕ → List PartName) (n : ℕ) (a b d : List Part) → AddsParts P (flat_map f (range_with_len 0 n)) a b → AddsParts P (f n) b d
    → AddsParts P (flat_map f (range_with_len 0 (n + 1))) a d
adds-more P f n a b d one other = adds-as P (flat_map f (range_with_len 0 n) ++ f n) (flat_map f (range_with_len 0 (n + 1))) a d (sym more)
    (adds-then P (flat_map f (range_with_len 0 n)) (f n) a b d one other)
  where
    more : flat_map f (range_with_len 0 (n + 1)) ≡ flat_map f (range_with_len 0 n) ++ f n
    more = ap (flat_map f) (range-more 0 n n (omega arith)) ∙ flat_map-append f (range_with_len 0 n) (n ∷ [])
        ∙ ap (λ xs. flat_map f (range_with_len 0 n) ++ xs) (flat_map-cons f n [] ∙ append-nil (f n))

-- what is vacant is as before the first event
pub vacant-opens : (c : Configuration) (all : List (List ℕ)) (n : PartName) (p : Part) → IsVacantPart n p → IsOpeningPart c all n p
vacant-opens c all (names.Control d) p is = is
vacant-opens c all (names.Queue q) p is = is
vacant-opens c all (names.Mailbox q) p is = is
vacant-opens c all (names.Cq s) p is = is
vacant-opens c all (names.Srq s) p is = is
vacant-opens c all (names.Window s) p is = is
vacant-opens c all (names.Region s) p is = is
vacant-opens c all (names.Buffer adapter index) p is = absurd is

-- a buffer of an adapter, with its bytes of these first contents, is as before the first event
pub buffer-opens : (c : Configuration) (all here : List (List ℕ)) (number count : ℕ) → here ≡ take count (contents_from c all number) → (n : PartName) (p : Part) → IsBufferOf number here n p
    → IsOpeningPart c all n p
buffer-opens c all here number count same (names.Buffer adapter index) (parts.Buffer bytes) is =
    subst (λ k. slice_get (contents_from c all k) index ≡ Some bytes) (sym is.0) (get-take count index (contents_from c all number) bytes (subst (λ xs. slice_get xs index ≡ Some bytes) same is.1))
buffer-opens c all here number count same (names.Buffer adapter index) (parts.Control x) is = absurd is
buffer-opens c all here number count same (names.Buffer adapter index) (parts.Queue x) is = absurd is
buffer-opens c all here number count same (names.Buffer adapter index) (parts.Mailbox x) is = absurd is
buffer-opens c all here number count same (names.Buffer adapter index) (parts.Cq x) is = absurd is
buffer-opens c all here number count same (names.Buffer adapter index) (parts.Srq x) is = absurd is
buffer-opens c all here number count same (names.Buffer adapter index) (parts.Window x) is = absurd is
buffer-opens c all here number count same (names.Buffer adapter index) (parts.Region x) is = absurd is
buffer-opens c all here number count same (names.Control d) p is = absurd is
buffer-opens c all here number count same (names.Queue q) p is = absurd is
buffer-opens c all here number count same (names.Mailbox q) p is = absurd is
buffer-opens c all here number count same (names.Cq s) p is = absurd is
buffer-opens c all here number count same (names.Srq s) p is = absurd is
buffer-opens c all here number count same (names.Window s) p is = absurd is
buffer-opens c all here number count same (names.Region s) p is = absurd is

-- the parts of one adapter more
from-next : (k n : ℕ) (xs : List Adapter) (a : Adapter) → slice_get xs n ≡ Some a → parts_from k (take (n + 1) xs) ≡ parts_from k (take n xs) ++ parts_at (k + n) a
from-next k n [] a at = absurd (true≢false (sym (ap is_some at)))
from-next k zero (x ∷ xs) a at = append-nil (parts_at k x) ∙ ap (parts_at k) (ap (λ o. option_map_or (λ y. y) o x) at) ∙ ap (λ j. parts_at j a) (omega arith)
from-next k (suc n) (x ∷ xs) a at = let e : suc n + 1 ≡ suc (n + 1) = omega arith in
    ap (λ m. parts_from k (take m (x ∷ xs))) e ∙ ap (λ ys. parts_at k x ++ ys) (from-next (suc k) n xs a at ∙ ap (λ j. parts_from (suc k) (take n xs) ++ parts_at j a) (omega arith))
    ∙ sym (append_assoc (parts_at k x) (parts_from (suc k) (take n xs)) (parts_at (k + suc n) a))

pub adds-adapter : (P : PartName → Part → Type 0) (n : ℕ) (xs : List Adapter) (a : Adapter) (old mid new : List Part) → slice_get xs n ≡ Some a → AddsParts P (parts_from 0 (take n xs)) old mid
    → AddsParts P (parts_at n a) mid new → AddsParts P (parts_from 0 (take (n + 1) xs)) old new
adds-adapter P n xs a old mid new at one other = adds-as P (parts_from 0 (take n xs) ++ parts_at n a) (parts_from 0 (take (n + 1) xs)) old new
    (sym (from-next 0 n xs a at ∙ ap (λ j. parts_from 0 (take n xs) ++ parts_at j a) (omega arith)))
    (adds-then P (parts_from 0 (take n xs)) (parts_at n a) old mid new one other)

take-whole : {A : Type 0} (n : ℕ) (xs : List A) → length xs ≤ n → take n xs ≡ xs
take-whole zero [] le = refl
take-whole zero (x ∷ xs) le = absurd (omega (arith, le))
take-whole (suc n) [] le = refl
take-whole (suc n) (x ∷ xs) le = ap (λ ys. x ∷ ys) (take-whole n xs (omega (arith, le)))

-- the whole row
pub whole : (P : PartName → Part → Type 0) (c : Configuration) (n : ℕ) (row : List Part) → length c.adapters ≤ n → AddsParts P (parts_from 0 (take n c.adapters)) [] row → AreParts P (all_parts c) row
whole P c n row le one = subst (λ xs. AreParts P (parts_from 0 xs) row) (take-whole n c.adapters le) (subst (AreParts P (parts_from 0 (take n c.adapters))) (sym one.all) one.are)
