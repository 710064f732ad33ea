-- The parts that a fabric is started with are those of the opening world. For proofs only.
use Rattle.std.proofs.Common.{◌≡◌, ◌∙◌, refl, sym, ap, subst, ℕ, zero, suc, ◌<◌, ◌≤◌, nat_lt, arith, true, false, List, [], ◌∷◌, length, map, Option, None, Some, IfSome, is_some, slice_get, take, drop, true≢false}
use Rattle.std.proofs.lemmas.Bool.Decides.{nat_tests}
use Rattle.std.proofs.lemmas.Option.{none-some, slice_get_within}
use Rattle.std.specs.Option.{option_and_then, option_map_or}
use Rattle.ca_base.specs.Configuration.{Adapter, Configuration, configuration_in, part_count}
use Rattle.ca_base.specs.declared.settings.Settings.{Settings}
use Rattle.ca_base.specs.objects.Slices.{adapter_at, buffer_length}
use Rattle.ca_verbs_machine.specs.Meanings.{StandsFor}
use Rattle.ca_verbs_machine.specs.Values.{IsPartIn, PartValue, value_of}
use Rattle.ca_adapter_parts.specs.declared.part.Part.{Part}
use Rattle.ca_adapter_parts.specs.declared.part.Part.TheVariants as parts
use Rattle.ca_adapter_parts.specs.Taking.{has_in}
use Rattle.ca_keys.specs.Memory.{ByteMap, zeros}
use Rattle.ca_keys.specs.declared.place.Place.{Place}
use Rattle.ca_law_parts.specs.Placed.{is_configured}
use Rattle.ca_model.specs.declared.part_name.PartName.{PartName}
use Rattle.ca_model.specs.machine.Parts.{part_of}
use Rattle.ca_model.specs.machine.Sound.{AreLimited}
use Rattle.ca_model.specs.machine.Step.{bytes_of_buffer}
use Rattle.ca_model.specs.machine.World.{Byte_at, opening_world}
use Rattle.ca_adapter_opening.proofs.ContentsLemmas.{IsPartOf, get-map, part-of}
use Rattle.ca_adapter_opening.proofs.WorldLemmas.{opening-kind, opening-thing}
use Rattle.ca_adapter_opening.specs.Opening.{FitContents, IsOpeningPart, buffers_before, contents_from, opening_bytes}
use Rattle.ca_model_places.specs.Places.{place_of}
use Rattle.ca_verbs_taking.proofs.PartLemmas.{bytes-with, value-with}
use Rattle.ca_adapter_opening.specs.Limits.{IsWithin}

-- what stands among the first so many stands there
taken : {A : Type 0} (n : ℕ) (xs : List A) (i : ℕ) (x : A) → i < n → slice_get xs i ≡ Some x → slice_get (take n xs) i ≡ Some x
taken zero xs i x less is = absurd (omega (arith, less))
taken (suc n) [] i x less is = is
taken (suc n) (y ∷ ys) zero x less is = is
taken (suc n) (y ∷ ys) (suc i) x less is = taken n ys i x (omega (arith, less)) is

same-some : (m n : ℕ) → Some m ≡ Some n → m ≡ n
same-some m n is = ap (λ o. option_map_or (λ x. x) o m) is

-- bytes at a place have the length at that place
by-lengths : (ns : List ℕ) (bss : List (List ℕ)) (i n : ℕ) (bytes : List ℕ) → map length bss ≡ ns → slice_get ns i ≡ Some n → slice_get bss i ≡ Some bytes → length bytes ≡ n
by-lengths ns bss i n bytes fit has there = same-some (length bytes) n (sym (get-map length i bss bytes there) ∙ ap (λ ys. slice_get ys i) fit ∙ has)

module _ (c : Configuration) (contents : List (List ℕ)) (fit : FitContents c contents) where
  -- the length of a configured buffer is that of its contents
  length-fits : (a i : ℕ) (bytes : List ℕ) → slice_get (contents_from c contents a) i ≡ Some bytes → (n : ℕ) → buffer_length c a i ≡ Some n → length bytes ≡ n
  length-fits a i bytes there n has = by (adapter_at c a) refl has
    where
      by : (o : Option Adapter) → adapter_at c a ≡ o → option_and_then (λ x. slice_get x.buffers i) o ≡ Some n → length bytes ≡ n
      by None is has = absurd (true≢false (sym (ap is_some has)))
      by (Some x) is has = at x (part-of a c.adapters x contents fit is) has
        where
          at : (x : Adapter) → IsPartOf (buffers_before c a) x contents → slice_get x.buffers i ≡ Some n → length bytes ≡ n
          at x part has = by-lengths x.buffers (take (length x.buffers) (drop (buffers_before c a) contents)) i n bytes part.fit has
              (taken (length x.buffers) (drop (buffers_before c a) contents) i bytes (slice_get_within x.buffers i n has) there)

  whole-at : (p : Place) (part : Part) → IsOpeningPart c contents (part_of (Byte_at p)) part → nat_lt p.offset (bytes_of_buffer c p.adapter p.buffer) ≡ true
      → has_in part (Byte_at p) ≡ true
  whole-at p (parts.Buffer bytes) is set = by (buffer_length c p.adapter p.buffer) refl set
    where
      by : (o : Option ℕ) → buffer_length c p.adapter p.buffer ≡ o → nat_lt p.offset (option_map_or (λ n. n) o 0) ≡ true → nat_lt p.offset (length bytes) ≡ true
      by None has set = absurd (true≢false (sym set ∙ none))
        where
          none : nat_lt p.offset 0 ≡ false
          none = grind (arith, nat_tests)
      by (Some n) has set = ap (nat_lt p.offset) (length-fits p.adapter p.buffer bytes is n has) ∙ set
  whole-at p (parts.Control x) is set = absurd is
  whole-at p (parts.Queue x) is set = absurd is
  whole-at p (parts.Mailbox x) is set = absurd is
  whole-at p (parts.Cq x) is set = absurd is
  whole-at p (parts.Srq x) is set = absurd is
  whole-at p (parts.Window x) is set = absurd is
  whole-at p (parts.Region x) is set = absurd is

  is-whole : (name : PartName) (part : Part) → IsOpeningPart c contents name part → (p : Place) → part_of (Byte_at p) ≡ name → is_configured c (Byte_at p) ≡ true
      → has_in part (Byte_at p) ≡ true
  is-whole name part is p same set = whole-at p part (subst (λ m. IsOpeningPart c contents m part) (sym same) is) set

  pub opens-part : (name : PartName) (part : Part) → IsOpeningPart c contents name part → IsPartIn c (opening_world (opening_bytes c contents)) name (value_of part)
  opens-part name part is = record {
    things = λ n of. value-with name part (opening_world (opening_bytes c contents)) n (opening-kind c contents name part is) of
        ∙ ap Some (opening-thing c contents name part (opening_world (opening_bytes c contents)) n is of);
    whole = λ p of set. sym (bytes-with name part p (opening-kind c contents name part is) of) ∙ is-whole name part is p of set;
  }

-- a value of shared parts is that of a part
pub record IsValueOf (row : List Part) (k : ℕ) (x : PartValue) : Type 0 where
  pub part : Part
  pub there : slice_get row k ≡ Some part
  pub value : value_of part ≡ x

value-there : (row : List Part) (k : ℕ) (x : PartValue) → slice_get (map value_of row) k ≡ Some x → IsValueOf row k x
value-there [] k x is = absurd (none-some x is)
value-there (p ∷ ps) zero x is = record { part = p; there = refl; value = ap (λ o. option_map_or (λ y. y) o x) is }
value-there (p ∷ ps) (suc k) x is = let rest : IsValueOf ps k x = value-there ps k x is in record { part = rest.part; there = rest.there; value = rest.value }

some-of : {A : Type 0} (P : A → Type 0) (o : Option A) (a : A) → IfSome o P → o ≡ Some a → P a
some-of P o a all is = subst (λ z. IfSome z P) is all

stands-at : (c : Configuration) (contents : List (List ℕ)) (row : List Part) → FitContents c contents → opening_bytes c contents ≡ zeros
    → ((name : PartName) (n : ℕ) → place_of c name ≡ Some n → IfSome (slice_get row n) (IsOpeningPart c contents name)) → (values : List PartValue) → values ≡ map value_of row
    → (k : ℕ) (x : PartValue) → slice_get values k ≡ Some x → (name : PartName) → place_of c name ≡ Some k → IsPartIn c (opening_world zeros) name x
stands-at c contents row fit empty each values are k x is name place =
    let one : IsValueOf row k x = value-there row k x (ap (λ vs. slice_get vs k) (sym are) ∙ is) in
    subst (IsPartIn c (opening_world zeros) name) one.value
    (subst (λ (b : ByteMap). IsPartIn c (opening_world b) name (value_of one.part)) empty
    (opens-part c contents fit name one.part (some-of (IsOpeningPart c contents name) (slice_get row k) one.part (each name k place) one.there)))

-- each value stands for its part before the first entry
pub stands-first : (key : Settings) (c : Configuration) (contents : List (List ℕ)) (row : List Part) (values : List PartValue) → configuration_in key ≡ c → FitContents c contents → opening_bytes c contents ≡ zeros
    → ((name : PartName) (n : ℕ) → place_of c name ≡ Some n → IfSome (slice_get row n) (IsOpeningPart c contents name)) → values ≡ map value_of row
    → (k : ℕ) (x : PartValue) → slice_get values k ≡ Some x → StandsFor key [] k x
stands-first key c contents row values same fit empty each are k x is up name place =
    subst (λ d. IsPartIn d (opening_world zeros) name x) (sym same)
    (stands-at c contents row fit empty each values are k x is name (ap (λ d. place_of d name) (sym same) ∙ place))

-- all numbers are within their limits, the number of parts too
pub limited-by : (c : Configuration) → IsWithin c → part_count c ≤ 4096 → AreLimited c
limited-by c within few = record {
  least_count = within.least_count;
  count = within.count;
  adapters = within.adapters;
  bytes = within.bytes;
  parts = few;
  least_events = within.least_events;
  events = within.events;
}
