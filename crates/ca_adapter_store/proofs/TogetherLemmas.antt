-- The row and the hand stand for one world, whatever is taken in hand, acted, and given back. For proofs only.
use Rattle.std.proofs.Common.{◌≡◌, ◌∙◌, refl, sym, ap, subst, Bool, true, false, List, Option, None, Some, if◌then◌else◌, true≢false}
use Rattle.ca_adapter.specs.ca_adapter_acts.Steps.{LeavesUnheld, Shows}
use Rattle.ca_adapter.proofs.WorldLemmas.{part-of-held}
use Rattle.ca_base.specs.Configuration.{Configuration}
use Rattle.ca_adapter_parts.specs.declared.held.Held.{Held}
use Rattle.ca_adapter_parts.specs.declared.part.Part.{Part}
use Rattle.ca_adapter_parts.specs.HeldView.{Holding, holding}
use Rattle.ca_adapter_parts.specs.Taking.{has_in, world_with, world_without}
use Rattle.ca_keys.specs.declared.place.Place.{Place}
use Rattle.ca_adapter.specs.ca_law_parts.Placed.{is_configured}
use Rattle.ca_adapter.proofs.of_ca_law_parts.Parts.NeedsLemmas.{part-refl}
use Rattle.ca_model.specs.declared.part_name.PartName.{PartName}
use Rattle.ca_model.specs.machine.Parts.{is_configured_part, part_eq, part_of}
use Rattle.ca_model.specs.machine.World.{World, Name, Byte_at, get}
use Rattle.ca_adapter_store.proofs.PartLemmas.{other-with, other-without, part-apart, part-path}
use Rattle.ca_adapter_store.specs.Hand.{IsGiven, IsTaken}
use Rattle.ca_adapter_store.specs.Rows.{AreTogether, IsPartIn, IsThere, part_at}

-- one name or another
other-name : (name p : PartName) (b : Bool) → part_eq name p ≡ b → b ≡ true → p ≡ name
other-name name p true e is = sym (part-path name p e)
other-name name p false e is = absurd (true≢false (sym is))

-- a part is taken from its place in hand
pub taken-together : (c : Configuration) (w : World) (name : PartName) (row new : List Part) (h k : Held) → AreTogether c w row (holding h) → IsTaken c name row new h k
    → is_configured_part c name ≡ true → (holding h).parts name ≡ false → AreTogether c w new (holding k)
taken-together c w name row new h k one taken configured free = subst (AreTogether c w new) (sym taken.held) (record {
  places = taken.places one.places;
  home = home;
  hand = hand;
  shows = shows;
  whole = whole;
})
  where
    H : Holding
    H = holding h

    part : Part
    part = taken.part

    is : IsPartIn c w name part
    is = subst (IsThere c w name) taken.there (one.home name configured free)

    home : (p : PartName) → is_configured_part c p ≡ true → (if part_eq name p then true else H.parts p) ≡ false → IsThere c w p (part_at c new p)
    home p set absent = by (part_eq name p) refl absent
      where
        by : (b : Bool) → part_eq name p ≡ b → (if b then true else H.parts p) ≡ false → IsThere c w p (part_at c new p)
        by true e absent = absurd (true≢false absent)
        by false e absent = subst (IsThere c w p) (sym (taken.others p e)) (one.home p set absent)

    hand : (p : PartName) → (if part_eq name p then true else H.parts p) ≡ true → is_configured_part c p ≡ true
    hand p held = by (part_eq name p) refl held
      where
        by : (b : Bool) → part_eq name p ≡ b → (if b then true else H.parts p) ≡ true → is_configured_part c p ≡ true
        by true e held = subst (λ q. is_configured_part c q ≡ true) (part-path name p e) configured
        by false e held = one.hand p held

    shows : (n : Name) → (if part_eq name (part_of n) then true else H.parts (part_of n)) ≡ true → get (world_with name part H.world) n ≡ get w n
    shows n held = by (part_eq name (part_of n)) refl held
      where
        by : (b : Bool) → part_eq name (part_of n) ≡ b → (if b then true else H.parts (part_of n)) ≡ true → get (world_with name part H.world) n ≡ get w n
        by true e held = is.things H.world n (sym (part-path name (part_of n) e))
        by false e held = other-with name part H.world n is.kind e ∙ one.shows n held

    whole : (p : Place) → (if part_eq name (part_of (Byte_at p)) then true else H.parts (part_of (Byte_at p))) ≡ true → is_configured c (Byte_at p) ≡ true
        → (if part_eq name (part_of (Byte_at p)) then has_in part (Byte_at p) else H.has (Byte_at p)) ≡ true
    whole p held set = by (part_eq name (part_of (Byte_at p))) refl held
      where
        by : (b : Bool) → part_eq name (part_of (Byte_at p)) ≡ b → (if b then true else H.parts (part_of (Byte_at p))) ≡ true
            → (if b then has_in part (Byte_at p) else H.has (Byte_at p)) ≡ true
        by true e held = is.whole p (sym (part-path name (part_of (Byte_at p)) e)) set
        by false e held = one.whole p held set

-- and given back
pub given-together : (c : Configuration) (w : World) (name : PartName) (row new : List Part) (h k : Held) → AreTogether c w row (holding h) → IsGiven c name row new h k
    → (holding h).parts name ≡ true → AreTogether c w new (holding k)
given-together c w name row new h k one given there = subst (AreTogether c w new) (sym given.held) (record {
  places = given.places one.places;
  home = home;
  hand = hand;
  shows = shows;
  whole = whole;
})
  where
    H : Holding
    H = holding h

    part : Part
    part = given.part

    -- a byte of the part was in hand
    had : (n : Name) → part_of n ≡ name → H.has n ≡ true → has_in part n ≡ true
    had n same has = by (part_eq name (part_of n)) refl (ap (λ z. z.has n) given.back ∙ has)
      where
        by : (b : Bool) → part_eq name (part_of n) ≡ b → (if b then has_in part n else (holding k).has n) ≡ true → has_in part n ≡ true
        by true e has = has
        by false e has = absurd (true≢false (sym (part-refl name) ∙ ap (part_eq name) (sym same) ∙ e))

    is : IsPartIn c w name part
    is = record {
      kind = given.kind;
      things = λ v n same. part-apart name part v (holding k).world n given.kind same
          ∙ ap (λ z. get z.world n) given.back ∙ one.shows n (ap H.parts same ∙ there);
      whole = λ p same set. had (Byte_at p) same (one.whole p (ap H.parts same ∙ there) set);
    }

    home : (p : PartName) → is_configured_part c p ≡ true → (if part_eq name p then false else H.parts p) ≡ false → IsThere c w p (part_at c new p)
    home p set absent = by (part_eq name p) refl absent
      where
        by : (b : Bool) → part_eq name p ≡ b → (if b then false else H.parts p) ≡ false → IsThere c w p (part_at c new p)
        by true e absent = subst (λ q. IsThere c w q (part_at c new q)) (part-path name p e) (subst (IsThere c w name) (sym given.there) is)
        by false e absent = subst (IsThere c w p) (sym (given.others p e)) (one.home p set absent)

    hand : (p : PartName) → (if part_eq name p then false else H.parts p) ≡ true → is_configured_part c p ≡ true
    hand p held = by (part_eq name p) held
      where
        by : (b : Bool) → (if b then false else H.parts p) ≡ true → is_configured_part c p ≡ true
        by true held = absurd (true≢false (sym held))
        by false held = one.hand p held

    shows : (n : Name) → (if part_eq name (part_of n) then false else H.parts (part_of n)) ≡ true → get (world_without name H.world) n ≡ get w n
    shows n held = by (part_eq name (part_of n)) refl held
      where
        by : (b : Bool) → part_eq name (part_of n) ≡ b → (if b then false else H.parts (part_of n)) ≡ true → get (world_without name H.world) n ≡ get w n
        by true e held = absurd (true≢false (sym held))
        by false e held = other-without name H.world n e ∙ one.shows n held

    whole : (p : Place) → (if part_eq name (part_of (Byte_at p)) then false else H.parts (part_of (Byte_at p))) ≡ true → is_configured c (Byte_at p) ≡ true
        → (if part_eq name (part_of (Byte_at p)) then false else H.has (Byte_at p)) ≡ true
    whole p held set = by (part_eq name (part_of (Byte_at p))) held
      where
        by : (b : Bool) → (if b then false else H.parts (part_of (Byte_at p))) ≡ true → (if b then false else H.has (Byte_at p)) ≡ true
        by true held = absurd (true≢false (sym held))
        by false held = one.whole p held set

-- what is not held is not in a part that is not held
unheld : (h : Held) (n : Name) → (holding h).parts (part_of n) ≡ false → (holding h).has n ≡ false
unheld h n free = by ((holding h).has n) refl
  where
    by : (b : Bool) → (holding h).has n ≡ b → b ≡ false
    by false e = refl
    by true e = absurd (true≢false (sym (part-of-held h n e) ∙ free))

-- after an act the row and the hand stand for the world after the event
pub acted-together : (c : Configuration) (w v u : World) (row : List Part) (h k : Held) → AreTogether c w row (holding h)
    → Shows v (holding k) → (holding k).has ≡ (holding h).has → (holding k).parts ≡ (holding h).parts → LeavesUnheld (holding h) w v
    → LeavesUnheld (holding h) (holding h).world u → (holding k).world ≡ u → AreTogether c v row (holding k)
acted-together c w v u row h k one shown has held left kept world = record {
  places = one.places;
  home = λ p set absent. moved p (part_at c row p) (sym (ap (λ f. f p) held) ∙ absent) (one.home p set (sym (ap (λ f. f p) held) ∙ absent));
  hand = λ p there. one.hand p (sym (ap (λ f. f p) held) ∙ there);
  shows = λ n there. shows n (sym (ap (λ f. f (part_of n)) held) ∙ there);
  whole = λ p there set. ap (λ f. f (Byte_at p)) has ∙ one.whole p (sym (ap (λ f. f (part_of (Byte_at p))) held) ∙ there) set;
}
  where
    moved : (p : PartName) (o : Option Part) → (holding h).parts p ≡ false → IsThere c w p o → IsThere c v p o
    moved p None free is = is
    moved p (Some part) free is = record {
      kind = is.kind;
      things = λ z n same. is.things z n same ∙ sym (left n (unheld h n (ap (holding h).parts same ∙ free)));
      whole = is.whole;
    }

    shows : (n : Name) → (holding h).parts (part_of n) ≡ true → get (holding k).world n ≡ get v n
    shows n there = by ((holding h).has n) refl
      where
        by : (b : Bool) → (holding h).has n ≡ b → get (holding k).world n ≡ get v n
        by true e = shown n (ap (λ f. f n) has ∙ e)
        by false e = ap (λ z. get z n) world ∙ kept n e ∙ one.shows n there ∙ sym (left n e)
