-- The row of the parts before the first event. For proofs only.
use Rattle.std.proofs.Common.{◌≡◌, ◌∙◌, refl, sym, ap, subst, ℕ, zero, suc, ◌<◌, nat_lt, arith, inl, inr, Bool, true, false, List, [], ◌∷◌, length, map, Option, None, Some, IfSome, is_some, slice_get, take, drop, true≢false}
use Rattle.std.proofs.lemmas.Bool.Decides.{nat_tests}
use Rattle.std.proofs.lemmas.Option.{slice_get_within}
use Rattle.std.specs.List.{range_with_len}
use Rattle.std.specs.Option.{option_and_then, option_map_or}
use Rattle.ca_base.specs.Configuration.{Adapter, Configuration, part_count}
use Rattle.ca_base.specs.objects.Slices.{adapter_at, buffer_length}
use Rattle.ca_adapter_parts.specs.declared.part.Part.{Part}
use Rattle.ca_adapter_parts.specs.declared.part.Part.TheVariants as parts
use Rattle.ca_adapter_parts.specs.Taking.{has_in, nothing_held}
use Rattle.ca_keys.specs.declared.place.Place.{Place}
use Rattle.ca_adapter.specs.ca_law_parts.Placed.{is_configured}
use Rattle.ca_model.specs.declared.part_name.PartName.{PartName}
use Rattle.ca_model.specs.machine.Parts.{IsAmong, is_configured_part, part_of}
use Rattle.ca_model.specs.machine.Sound.{AreLimited}
use Rattle.ca_model.specs.machine.Step.{bytes_of_buffer}
use Rattle.ca_model.specs.machine.World.{Byte_at, opening_world}
use Rattle.ca_adapter_opening.proofs.ContentsLemmas.{IsPartOf, get-map, part-of}
use Rattle.ca_adapter_opening.proofs.WorldLemmas.{opening-kind, opening-thing}
use Rattle.ca_adapter_opening.specs.Opening.{FitContents, IsOpeningPart, buffers_before, contents_from, opening_bytes}
use Rattle.ca_model_places.proofs.AmongLemmas.{all-among, place-below}
use Rattle.ca_model_places.proofs.NumberLemmas.{all-numbered}
use Rattle.ca_model_places.specs.Places.{all_parts, place_of}
use Rattle.ca_adapter_store.specs.Rows.{AreTogether, IsThere}

-- what is numbered has a number
numbered : (f : PartName → Option ℕ) (p : PartName) (xs : List PartName) (ns : List ℕ) → map f xs ≡ map Some ns → IsAmong xs p → is_some (f p) ≡ true
numbered f p [] ns is among = absurd among
numbered f p (x ∷ xs) [] is among = absurd (true≢false (ap (λ ys. has ys) is))
  where
    has : List (Option ℕ) → Bool
    has [] = false
    has (y ∷ ys) = true
numbered f p (x ∷ xs) (n ∷ ns) is (inl same) = ap (λ q. is_some (f q)) same ∙ ap (λ ys. head ys) is
  where
    head : List (Option ℕ) → Bool
    head [] = true
    head (y ∷ ys) = is_some y
numbered f p (x ∷ xs) (n ∷ ns) is (inr later) = numbered f p xs ns (ap (λ ys. tail ys) is) later
  where
    tail : List (Option ℕ) → List (Option ℕ)
    tail [] = []
    tail (y ∷ ys) = ys

-- a list reaches as far as its length
within-list : {A : Type 0} (xs : List A) (i : ℕ) → i < length xs → is_some (slice_get xs i) ≡ true
within-list [] i less = absurd (omega (arith, less))
within-list (x ∷ xs) zero less = refl
within-list (x ∷ xs) (suc i) less = within-list xs i (omega (arith, less))

-- what stands among the first so many stands there
taken : {A : Type 0} (n : ℕ) (xs : List A) (i : ℕ) (x : A) → i < n → slice_get xs i ≡ Some x → slice_get (take n xs) i ≡ Some x
taken zero xs i x less is = absurd (omega (arith, less))
taken (suc n) [] i x less is = is
taken (suc n) (y ∷ ys) zero x less is = is
taken (suc n) (y ∷ ys) (suc i) x less is = taken n ys i x (omega (arith, less)) is

same-some : (m n : ℕ) → Some m ≡ Some n → m ≡ n
same-some m n is = ap (λ o. option_map_or (λ x. x) o m) is

-- bytes at a place have the length at that place
by-lengths : (ns : List ℕ) (bss : List (List ℕ)) (i n : ℕ) (bytes : List ℕ) → map length bss ≡ ns → slice_get ns i ≡ Some n → slice_get bss i ≡ Some bytes → length bytes ≡ n
by-lengths ns bss i n bytes fit has there = same-some (length bytes) n (sym (get-map length i bss bytes there) ∙ ap (λ ys. slice_get ys i) fit ∙ has)

module _ (c : Configuration) (contents : List (List ℕ)) (limited : AreLimited c) (fit : FitContents c contents) (row : List Part)
    (count : length row ≡ part_count c)
    (each : (name : PartName) (n : ℕ) → place_of c name ≡ Some n → IfSome (slice_get row n) (IsOpeningPart c contents name)) where
  -- the length of a configured buffer is that of its contents
  length-fits : (a i : ℕ) (bytes : List ℕ) → slice_get (contents_from c contents a) i ≡ Some bytes → (n : ℕ) → buffer_length c a i ≡ Some n → length bytes ≡ n
  length-fits a i bytes there n has = by (adapter_at c a) refl has
    where
      by : (o : Option Adapter) → adapter_at c a ≡ o → option_and_then (λ x. slice_get x.buffers i) o ≡ Some n → length bytes ≡ n
      by None is has = absurd (true≢false (sym (ap is_some has)))
      by (Some x) is has = at x (part-of a c.adapters x contents fit is) has
        where
          at : (x : Adapter) → IsPartOf (buffers_before c a) x contents → slice_get x.buffers i ≡ Some n → length bytes ≡ n
          at x part has = by-lengths x.buffers (take (length x.buffers) (drop (buffers_before c a) contents)) i n bytes part.fit has
              (taken (length x.buffers) (drop (buffers_before c a) contents) i bytes (slice_get_within x.buffers i n has) there)

  whole-at : (p : Place) (part : Part) → IsOpeningPart c contents (part_of (Byte_at p)) part → nat_lt p.offset (bytes_of_buffer c p.adapter p.buffer) ≡ true
      → has_in part (Byte_at p) ≡ true
  whole-at p (parts.Buffer bytes) is set = by (buffer_length c p.adapter p.buffer) refl set
    where
      by : (o : Option ℕ) → buffer_length c p.adapter p.buffer ≡ o → nat_lt p.offset (option_map_or (λ n. n) o 0) ≡ true → nat_lt p.offset (length bytes) ≡ true
      by None has set = absurd (true≢false (sym set ∙ none))
        where
          none : nat_lt p.offset 0 ≡ false
          none = grind (arith, nat_tests)
      by (Some n) has set = ap (nat_lt p.offset) (length-fits p.adapter p.buffer bytes is n has) ∙ set
  whole-at p (parts.Control x) is set = absurd is
  whole-at p (parts.Queue x) is set = absurd is
  whole-at p (parts.Mailbox x) is set = absurd is
  whole-at p (parts.Cq x) is set = absurd is
  whole-at p (parts.Srq x) is set = absurd is
  whole-at p (parts.Window x) is set = absurd is
  whole-at p (parts.Region x) is set = absurd is

  is-whole : (name : PartName) (part : Part) → IsOpeningPart c contents name part → (p : Place) → part_of (Byte_at p) ≡ name → is_configured c (Byte_at p) ≡ true
      → has_in part (Byte_at p) ≡ true
  is-whole name part is p same set = whole-at p part (subst (λ m. IsOpeningPart c contents m part) (sym same) is) set

  in-row : (name : PartName) (o : Option Part) → is_some o ≡ true → IfSome o (IsOpeningPart c contents name) → IsThere c (opening_world (opening_bytes c contents)) name o
  in-row name None some is = absurd (true≢false (sym some))
  in-row name (Some part) some is = record {
    kind = opening-kind c contents name part is;
    things = λ v n same. opening-thing c contents name part v n is same;
    whole = λ p same set. is-whole name part is p same set;
  }

  placed : (p : PartName) → is_configured_part c p ≡ true → is_some (place_of c p) ≡ true
  placed p set = numbered (place_of c) p (all_parts c) (range_with_len 0 (part_count c)) (all-numbered c limited) (all-among c p set)

  at-home : (p : PartName) → is_configured_part c p ≡ true → (o : Option ℕ) → place_of c p ≡ o → is_some o ≡ true
      → (is_some (option_and_then (slice_get row) o) ≡ true) × IsThere c (opening_world (opening_bytes c contents)) p (option_and_then (slice_get row) o)
  at-home p set None is some = absurd (true≢false (sym some))
  at-home p set (Some n) is some =
      let there : is_some (slice_get row n) ≡ true = within-list row n (subst (λ k. n < k) (sym count) (place-below c p n limited is))
      in (there, in-row p (slice_get row n) there (each p n is))

  pub opens : AreTogether c (opening_world (opening_bytes c contents)) row nothing_held
  opens = record {
    places = λ p set. (at-home p set (place_of c p) refl (placed p set)).0;
    home = λ p set free. (at-home p set (place_of c p) refl (placed p set)).1;
    hand = λ p held. absurd (true≢false (sym held));
    shows = λ n held. absurd (true≢false (sym held));
    whole = λ p held set. absurd (true≢false (sym held));
  }
