-- What is held shows the parts of a hand, whatever is taken and given back. For proofs only.
use Rattle.std.proofs.Common.{◌≡◌, ◌∙◌, refl, sym, ap, subst, ℕ, ◌+◌, ◌≤◌, ◌==◌, ◌||◌, arith, inl, inr, Bool, true, false, List, [], ◌∷◌, ◌++◌, Option, None, Some, is_some, if◌then◌else◌, true≢false}
use Rattle.std.proofs.lemmas.Bool.{eq-eqb, eqb-true}
use Rattle.std.specs.Option.{option_and_then, option_map_or}
use Rattle.ca_base.specs.Configuration.{Configuration}
use Rattle.ca_verbs_machine.specs.Asks.{asked_needs}
use Rattle.ca_verbs_machine.specs.Hands.{at, is_shown, next_name, world_shown}
use Rattle.ca_verbs_machine.specs.Laws.{shown-thing}
use Rattle.ca_verbs_machine.specs.Values.{PartValue, value_of}
use Rattle.ca_verbs_machine.specs.declared.asked.Asked.{Asked}
use Rattle.ca_adapter_parts.specs.HeldView.{Holding}
use Rattle.ca_adapter_parts.specs.Taking.{has_in, is_of_kind, with_part, without_part}
use Rattle.ca_adapter_parts.specs.declared.part.Part.{Part}
use Rattle.ca_verbs_machine.proofs.of_ca_law_parts.Parts.NeedsLemmas.{next-same, part-refl}
use Rattle.ca_model.specs.declared.part_name.PartName.{PartName}
use Rattle.ca_model.specs.machine.Parts.{ShowsHeld, is_held, next_part, part_eq, part_of}
use Rattle.ca_model.specs.machine.Sound.{AreLimited}
use Rattle.ca_model.specs.machine.World.{Name, Byte_at, get}
use Rattle.ca_parts.specs.Lists.{Has, bit, numbers_of, times}
use Rattle.ca_model_places.proofs.AmongLemmas.{place-apart}
use Rattle.ca_model_places.specs.Places.{place_of}
use Rattle.ca_verbs_taking.specs.Hands.{AreApart}
use Rattle.ca_verbs_taking.proofs.CountLemmas.{apart-more, held-more}
use Rattle.ca_verbs_taking.proofs.PartLemmas.{bytes-with, one-value, other-with, other-without, part-path, value-with}
use Rattle.ca_verbs_taking.specs.Holding.{AreShown, IsHolding, IsPartOf}

some-same : {A : Type 0} (a b : A) → Some a ≡ Some b → a ≡ b
some-same a b is = ap (λ o. option_map_or (λ x. x) o a) is

-- ---- a part that is held is in the hand

pub record IsFound (c : Configuration) (h : Holding) (hand : List (ℕ × PartValue)) (p : PartName) : Type 0 where
  pub value : PartValue
  pub place : ℕ
  pub place_is : place_of c p ≡ Some place
  pub has : Has (place, value) hand
  pub at_is : at hand place ≡ Some value
  pub of : IsPartOf h p value

pub found : (c : Configuration) (h : Holding) (names : List PartName) (hand : List (ℕ × PartValue)) (p : PartName) → AreLimited c → AreShown c h names hand → is_held names p ≡ true
    → IsFound c h hand p
found c h [] hand p limited shown held = absurd (true≢false (sym held))
found c h (m ∷ ms) [] p limited shown held = absurd shown
found c h (m ∷ ms) (x ∷ xs) p limited shown held = by (part_eq m p) refl held (found c h ms xs p limited shown.2)
  where
    other : (f : IsFound c h xs p) → part_eq m p ≡ false → (b : Bool) → (f.place == x.0) ≡ b → (if b then Some x.1 else at xs f.place) ≡ Some f.value
    other f e false apart = f.at_is
    other f e true same = absurd (true≢false (sym (part-refl m)
        ∙ ap (part_eq m) (place-apart c m p x.0 limited shown.0 (f.place_is ∙ ap Some (eqb-true f.place x.0 same))) ∙ e))

    by : (b : Bool) → part_eq m p ≡ b → (b || is_held ms p) ≡ true → (is_held ms p ≡ true → IsFound c h xs p) → IsFound c h (x ∷ xs) p
    by true e held rest = subst (IsFound c h (x ∷ xs)) (part-path m p e) (record {
      value = x.1;
      place = x.0;
      place_is = shown.0;
      has = inl refl;
      at_is = ap (λ b. if b then Some x.1 else at xs x.0) (eq-eqb x.0 x.0 refl);
      of = shown.1;
    })
    by false e held rest = let f : IsFound c h xs p = rest held in record {
      value = f.value;
      place = f.place;
      place_is = f.place_is;
      has = inr f.has;
      at_is = other f e (f.place == x.0) refl;
      of = f.of;
    }

-- what is in the hand has a name
pub record IsNamed (c : Configuration) (h : Holding) (names : List PartName) (k : ℕ) (x : PartValue) : Type 0 where
  pub name : PartName
  pub held : is_held names name ≡ true
  pub place : place_of c name ≡ Some k
  pub of : IsPartOf h name x

pub named : (c : Configuration) (h : Holding) (names : List PartName) (hand : List (ℕ × PartValue)) (k : ℕ) (x : PartValue) → AreShown c h names hand → Has (k, x) hand
    → IsNamed c h names k x
named c h [] [] k x shown has = absurd has
named c h [] (y ∷ ys) k x shown has = absurd shown
named c h (m ∷ ms) [] k x shown has = absurd shown
named c h (m ∷ ms) (y ∷ ys) k x shown has = by has (named c h ms ys k x shown.2)
  where
    by : Has (k, x) (y ∷ ys) → (Has (k, x) ys → IsNamed c h ms k x) → IsNamed c h (m ∷ ms) k x
    by (inl same) rest = record {
      name = m;
      held = ap (λ b. b || is_held ms m) (part-refl m);
      place = shown.0 ∙ ap (λ (p : ℕ × PartValue). Some p.0) (sym same);
      of = subst (IsPartOf h m) (ap (λ (p : ℕ × PartValue). p.1) (sym same)) shown.1;
    }
    by (inr later) rest = let is : IsNamed c h ms k x = rest later in record {
      name = is.name;
      held = either (part_eq m is.name) (is_held ms is.name) is.held;
      place = is.place;
      of = is.of;
    }
      where
        either : (a b : Bool) → b ≡ true → (a || b) ≡ true
        either true b e = refl
        either false b e = e

-- the place of a part that is not held is not in the hand
pub none-there : (c : Configuration) (h : Holding) (names : List PartName) (hand : List (ℕ × PartValue)) (p : PartName) (k : ℕ) → AreLimited c → AreShown c h names hand
    → is_held names p ≡ false → place_of c p ≡ Some k → times k (numbers_of hand) ≡ 0
none-there c h [] [] p k limited shown free place = refl
none-there c h [] (x ∷ xs) p k limited shown free place = absurd shown
none-there c h (m ∷ ms) [] p k limited shown free place = absurd shown
none-there c h (m ∷ ms) (x ∷ xs) p k limited shown free place = by (k == x.0) refl (none-there c h ms xs p k limited shown.2 (behind (part_eq m p) free) place)
  where
    behind : (b : Bool) → (b || is_held ms p) ≡ false → is_held ms p ≡ false
    behind true e = absurd (true≢false e)
    behind false e = e

    first : (b : Bool) → (b || is_held ms p) ≡ false → b ≡ false
    first true e = absurd (true≢false e)
    first false e = refl

    by : (b : Bool) → (k == x.0) ≡ b → times k (numbers_of xs) ≡ 0 → bit b + times k (numbers_of xs) ≡ 0
    by true same rest = absurd (true≢false (sym (part-refl m)
        ∙ ap (part_eq m) (place-apart c m p x.0 limited shown.0 (place ∙ ap Some (eqb-true k x.0 same))) ∙ first (part_eq m p) free))
    by false apart rest = omega (arith, rest)

-- no number stands twice in the hand
pub apart-hand : (c : Configuration) (h : Holding) (names : List PartName) (hand : List (ℕ × PartValue)) (k : ℕ) → AreLimited c → AreShown c h names hand → AreApart names
    → times k (numbers_of hand) ≤ 1
apart-hand c h [] [] k limited shown apart = omega arith
apart-hand c h [] (x ∷ xs) k limited shown apart = absurd shown
apart-hand c h (m ∷ ms) [] k limited shown apart = absurd shown
apart-hand c h (m ∷ ms) (x ∷ xs) k limited shown apart = by (k == x.0) refl (apart-hand c h ms xs k limited shown.2 apart.1)
  where
    by : (b : Bool) → (k == x.0) ≡ b → times k (numbers_of xs) ≤ 1 → bit b + times k (numbers_of xs) ≤ 1
    by true same rest = omega (arith, none-there c h ms xs m k limited shown.2 apart.0 (shown.0 ∙ ap Some (sym (eqb-true k x.0 same))))
    by false other rest = omega (arith, rest)

-- ---- what is needed next, by what is held and by the hand

none-at : (hand : List (ℕ × PartValue)) (k : ℕ) → times k (numbers_of hand) ≡ 0 → is_some (at hand k) ≡ false
none-at [] k none = refl
none-at (x ∷ xs) k none = by (k == x.0) none (none-at xs k)
  where
    by : (b : Bool) → bit b + times k (numbers_of xs) ≡ 0 → (times k (numbers_of xs) ≡ 0 → is_some (at xs k) ≡ false) → is_some (if b then Some x.1 else at xs k) ≡ false
    by true none rest = absurd (omega (arith, none))
    by false none rest = rest (omega (arith, none))

module _ (c : Configuration) (h : Holding) (names : List PartName) (hand : List (ℕ × PartValue)) (limited : AreLimited c) (holds : IsHolding c h names hand) where
  pub find : (p : PartName) → h.parts p ≡ true → IsFound c h hand p
  find p held = found c h names hand p limited holds.shown (sym (holds.named p) ∙ held)

  pub held-shown : (p : PartName) → h.parts p ≡ is_shown c (at hand) p
  held-shown p = by (h.parts p) refl
    where
      none : (o : Option ℕ) → place_of c p ≡ o → h.parts p ≡ false → false ≡ is_some (option_and_then (at hand) o)
      none None e free = refl
      none (Some k) e free = sym (none-at hand k (none-there c h names hand p k limited holds.shown (sym (holds.named p) ∙ free) e))

      by : (b : Bool) → h.parts p ≡ b → b ≡ is_shown c (at hand) p
      by true held = let f : IsFound c h hand p = find p held in
          sym (ap (λ o. is_some (option_and_then (at hand) o)) f.place_is ∙ ap is_some f.at_is)
      by false free = none (place_of c p) refl free ∙ refl

  pub held-world : ShowsHeld h.parts h.world (world_shown c (at hand))
  held-world n held = let f : IsFound c h hand (part_of n) = find (part_of n) held in
      sym (shown-thing c (at hand) n f.value (get h.world n) (ap (option_and_then (at hand)) f.place_is ∙ f.at_is) (f.of.things n refl))

  pub next-is : (asked : Asked) → next_part h.parts h.world (asked_needs c asked) ≡ next_name c asked (at hand)
  next-is asked = next-same h.parts h.world (world_shown c (at hand)) (asked_needs c asked) held-world
      ∙ ap (λ f. next_part f (world_shown c (at hand)) (asked_needs c asked)) (λ i p. held-shown p i)

-- ---- one part more

shown-more : (c : Configuration) (h k : Holding) (name : PartName) (place : ℕ) (x : PartValue) (names : List PartName) (hand : List (ℕ × PartValue)) → AreShown c h names hand
    → is_held names name ≡ false → place_of c name ≡ Some place → IsPartOf k name x → ((m : PartName) (y : PartValue) → part_eq m name ≡ false → IsPartOf h m y → IsPartOf k m y)
    → AreShown c k (names ++ name ∷ []) (hand ++ (place, x) ∷ [])
shown-more c h k name place x [] [] shown free at of kept = (at, of, record {})
shown-more c h k name place x [] (y ∷ ys) shown free at of kept = absurd shown
shown-more c h k name place x (m ∷ ms) [] shown free at of kept = absurd shown
shown-more c h k name place x (m ∷ ms) (y ∷ ys) shown free at of kept =
    (shown.0, kept m y.1 (first (part_eq m name) free) shown.1, shown-more c h k name place x ms ys shown.2 (behind (part_eq m name) free) at of kept)
  where
    first : (b : Bool) → (b || is_held ms name) ≡ false → b ≡ false
    first true e = absurd (true≢false e)
    first false e = refl

    behind : (b : Bool) → (b || is_held ms name) ≡ false → is_held ms name ≡ false
    behind true e = absurd (true≢false e)
    behind false e = e

-- a part that is added is in what is held, and those that were there stay
module _ (h : Holding) (name : PartName) (part : Part) (kind : is_of_kind name part ≡ true) where
  part-added : IsPartOf (with_part name part h) name (value_of part)
  part-added = record {
    things = λ n is. value-with name part h.world n kind is;
    bytes = λ p is. ap (λ b. if b then has_in part (Byte_at p) else h.has (Byte_at p)) (ap (part_eq name) is ∙ part-refl name) ∙ bytes-with name part p kind is;
  }

  part-kept : (m : PartName) (y : PartValue) → part_eq m name ≡ false → IsPartOf h m y → IsPartOf (with_part name part h) m y
  part-kept m y other of = record {
    things = λ n is. of.things n is ∙ ap Some (sym (other-with name part h.world n kind (apart n is)));
    bytes = λ p is. ap (λ b. if b then has_in part (Byte_at p) else h.has (Byte_at p)) (apart (Byte_at p) is) ∙ of.bytes p is;
  }
    where
      turned : (b : Bool) → part_eq name m ≡ b → part_eq m name ≡ false → b ≡ false
      turned false e other = refl
      turned true e other = absurd (true≢false (sym (part-refl m) ∙ ap (part_eq m) (sym (part-path name m e)) ∙ other))

      apart : (n : Name) → part_of n ≡ m → part_eq name (part_of n) ≡ false
      apart n is = ap (part_eq name) is ∙ turned (part_eq name m) refl other

pub added : (c : Configuration) (h k : Holding) (name : PartName) (part : Part) (place : ℕ) (names : List PartName) (hand : List (ℕ × PartValue)) → IsHolding c h names hand
    → is_of_kind name part ≡ true → h.parts name ≡ false → place_of c name ≡ Some place → k ≡ with_part name part h
    → IsHolding c k (names ++ name ∷ []) (hand ++ (place, value_of part) ∷ [])
added c h k name part place names hand holds kind free at is = subst (λ z. IsHolding c z (names ++ name ∷ []) (hand ++ (place, value_of part) ∷ [])) (sym is) (record {
  shown = shown-more c h (with_part name part h) name place (value_of part) names hand holds.shown (sym (holds.named name) ∙ free) at (part-added h name part kind) (part-kept h name part kind);
  named = λ p. ap (λ b. if part_eq name p then true else b) (holds.named p) ∙ sym (held-more names name p);
  apart = apart-more names name holds.apart (sym (holds.named name) ∙ free);
})

-- ---- all parts out

-- The parts of some names are out, with the values that they had at first; the rest is held, as at first.
pub record IsUnpacking (c : Configuration) (first h : Holding) (done rest : List PartName) (out : List (ℕ × PartValue)) : Type 0 where
  pub shown : AreShown c first done out
  pub named : (p : PartName) → h.parts p ≡ is_held rest p
  pub apart : AreApart rest
  pub placed : (p : PartName) → is_held rest p ≡ true → is_some (place_of c p) ≡ true
  pub world : (n : Name) → is_held rest (part_of n) ≡ true → get h.world n ≡ get first.world n
  pub has : (n : Name) → is_held rest (part_of n) ≡ true → h.has n ≡ first.has n

-- the first of the rest is held, and has a place
pub rest-held : (c : Configuration) (first h : Holding) (done : List PartName) (name : PartName) (rest : List PartName) (out : List (ℕ × PartValue))
    → IsUnpacking c first h done (name ∷ rest) out → h.parts name ≡ true
rest-held c first h done name rest out is = is.named name ∙ ap (λ b. b || is_held rest name) (part-refl name)

pub rest-placed : (c : Configuration) (first h : Holding) (done : List PartName) (name : PartName) (rest : List PartName) (out : List (ℕ × PartValue))
    → IsUnpacking c first h done (name ∷ rest) out → is_some (place_of c name) ≡ true
rest-placed c first h done name rest out is = is.placed name (ap (λ b. b || is_held rest name) (part-refl name))

shown-last : (c : Configuration) (h : Holding) (name : PartName) (place : ℕ) (x : PartValue) (names : List PartName) (hand : List (ℕ × PartValue)) → AreShown c h names hand
    → place_of c name ≡ Some place → IsPartOf h name x → AreShown c h (names ++ name ∷ []) (hand ++ (place, x) ∷ [])
shown-last c h name place x [] [] shown at of = (at, of, record {})
shown-last c h name place x [] (y ∷ ys) shown at of = absurd shown
shown-last c h name place x (m ∷ ms) [] shown at of = absurd shown
shown-last c h name place x (m ∷ ms) (y ∷ ys) shown at of = (shown.0, shown.1, shown-last c h name place x ms ys shown.2 at of)

-- one part more is out
pub unpacked-more : (c : Configuration) (first h k : Holding) (done : List PartName) (name : PartName) (rest : List PartName) (out : List (ℕ × PartValue)) (part : Part) (place : ℕ)
    → IsUnpacking c first h done (name ∷ rest) out → is_of_kind name part ≡ true → place_of c name ≡ Some place → with_part name part k ≡ h → k ≡ without_part name h
    → IsUnpacking c first k (done ++ name ∷ []) rest (out ++ (place, value_of part) ∷ [])
unpacked-more c first h k done name rest out part place is kind at back gone = subst (λ z. IsUnpacking c first z (done ++ name ∷ []) rest (out ++ (place, value_of part) ∷ [])) (sym gone) (record {
  shown = shown-last c first name place (value_of part) done out is.shown at of;
  named = λ p. left p (part_eq name p) refl;
  apart = is.apart.1;
  placed = λ p held. is.placed p (either (part_eq name p) (is_held rest p) held);
  world = λ n held. other-without name h.world n (apart (part_of n) held) ∙ is.world n (either (part_eq name (part_of n)) (is_held rest (part_of n)) held);
  has = λ n held. ap (λ b. if b then false else h.has n) (apart (part_of n) held) ∙ is.has n (either (part_eq name (part_of n)) (is_held rest (part_of n)) held);
})
  where
    either : (a b : Bool) → b ≡ true → (a || b) ≡ true
    either true b e = refl
    either false b e = e

    apart : (p : PartName) → is_held rest p ≡ true → part_eq name p ≡ false
    apart p held = by (part_eq name p) refl
      where
        by : (b : Bool) → part_eq name p ≡ b → b ≡ false
        by false e = refl
        by true e = absurd (true≢false (sym held ∙ ap (is_held rest) (sym (part-path name p e)) ∙ is.apart.0))

    left : (p : PartName) (b : Bool) → part_eq name p ≡ b → (if b then false else h.parts p) ≡ is_held rest p
    left p true e = subst (λ q. false ≡ is_held rest q) (part-path name p e) (sym is.apart.0)
    left p false e = is.named p ∙ ap (λ b. b || is_held rest p) e

    here : (p : PartName) → p ≡ name → is_held (name ∷ rest) p ≡ true
    here p same = ap (λ b. b || is_held rest p) (ap (part_eq name) same ∙ part-refl name)

    of : IsPartOf first name (value_of part)
    of = record {
      things = λ n same. value-with name part k.world n kind same ∙ ap Some (ap (λ z. get z.world n) back ∙ is.world n (here (part_of n) same));
      bytes = λ p same. sym (is.has (Byte_at p) (here (part_of (Byte_at p)) same)) ∙ ap (λ z. z.has (Byte_at p)) (sym back)
          ∙ ap (λ b. if b then has_in part (Byte_at p) else k.has (Byte_at p)) (ap (part_eq name) same ∙ part-refl name) ∙ bytes-with name part p kind same;
    }

-- ---- two hands that one thing shows

pub same-hand : (c : Configuration) (h : Holding) (names : List PartName) (xs ys : List (ℕ × PartValue)) → AreShown c h names xs → AreShown c h names ys → xs ≡ ys
same-hand c h [] [] [] one other = refl
same-hand c h [] [] (y ∷ ys) one other = absurd other
same-hand c h [] (x ∷ xs) ys one other = absurd one
same-hand c h (m ∷ ms) [] ys one other = absurd one
same-hand c h (m ∷ ms) (x ∷ xs) [] one other = absurd other
same-hand c h (m ∷ ms) (x ∷ xs) (y ∷ ys) one other =
    λ i. (some-same x.0 y.0 (sym one.0 ∙ other.0) i, one-value h m x.1 y.1 one.1 other.1 i) ∷ same-hand c h ms xs ys one.2 other.2 i

-- two hands of the same names have the same numbers
pub same-numbers : (c : Configuration) (h k : Holding) (names : List PartName) (xs ys : List (ℕ × PartValue)) → AreShown c h names xs → AreShown c k names ys → numbers_of xs ≡ numbers_of ys
same-numbers c h k [] [] [] one other = refl
same-numbers c h k [] [] (y ∷ ys) one other = absurd other
same-numbers c h k [] (x ∷ xs) ys one other = absurd one
same-numbers c h k (m ∷ ms) [] ys one other = absurd one
same-numbers c h k (m ∷ ms) (x ∷ xs) [] one other = absurd other
same-numbers c h k (m ∷ ms) (x ∷ xs) (y ∷ ys) one other = λ i. some-same x.0 y.0 (sym one.0 ∙ other.0) i ∷ same-numbers c h k ms xs ys one.2 other.2 i
