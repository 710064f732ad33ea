-- The parts of an event come to an end, and then none is missing. For proofs only.
use Rattle.std.proofs.Common.{Vec, ◌≡◌, ◌∙◌, refl, sym, ap, subst, ℕ, suc, ◌+◌, ◌≤◌, ◌||◌, inl, inr, arith, Bool, true, false, List, [], ◌∷◌, ◌++◌, length, ◌<◌, Option, None, Some, is_some, if◌then◌else◌, true≢false}
use Rattle.std.proofs.Math.Path.{fun_ext}
use Rattle.std.specs.List.{AllByRecursion}
use Rattle.ca_adapter.specs.Ready.{ArePartsOfWorld}
use Rattle.ca_base.specs.Configuration.{Configuration}
use Rattle.ca_adapter_parts.specs.declared.held.Held.{Held}
use Rattle.ca_adapter_parts.specs.declared.part.Part.{Part}
use Rattle.ca_adapter_parts.specs.HeldView.{holding, room_for}
use Rattle.ca_adapter.proofs.of_ca_law_parts.Parts.ConfiguredLemmas.{parts-configured}
use Rattle.ca_adapter.proofs.of_ca_law_parts.Parts.CountLemmas.{few-event}
use Rattle.ca_adapter.proofs.of_ca_law_parts.Parts.NeedsLemmas.{IsMissing, next-same, part-refl, some-missing}
use Rattle.ca_model.specs.declared.event.Event.{Event}
use Rattle.ca_model.specs.declared.part_name.PartName.{PartName}
use Rattle.ca_model.specs.machine.Parts.{IsAmong, Needs, event_needs, is_configured_part, is_held, listed, next_part, part_eq}
use Rattle.ca_model.specs.machine.Sound.{IsSoundWorld}
use Rattle.ca_model.specs.machine.World.{World}
use Rattle.ca_adapter_store.proofs.PartLemmas.{part-path}
use Rattle.ca_adapter_store.proofs.TogetherLemmas.{given-together, taken-together}
use Rattle.ca_base.specs.objects.Slices.{adapter_at}
use Rattle.ca_model_places.specs.Places.{domain_of_part, parts_before, place_at, place_of}
use Rattle.ca_adapter_store.specs.Hand.{AreApart, AreAtPlaces, HasPlaces, IsGiven, IsInHand, IsOfKind, IsOfWorld, IsTaken, names_of}
use Rattle.ca_adapter_store.specs.declared.hand.Taken.{Taken}
use Rattle.std.specs.Option.{option_map}
use Rattle.std.specs.Vec.{vec_capacity}
use Rattle.std.specs.declared.alloc.Global.{Global}
use Rattle.ca_adapter_store.specs.Rows.{AreTogether, IsEmpty, IsThere, part_at}
use Rattle.std.proofs.lemmas.List.{length-append}

-- ---- how many parts are missing

abbrev pub with_name : PartName → (PartName → Bool) → PartName → Bool
with_name p held q = if part_eq p q then true else held q

abbrev pub missing : (PartName → Bool) → List PartName → ℕ
missing held [] = 0
missing held (x ∷ xs) = (if held x then 0 else 1) + missing held xs

pub all-missing : (held : PartName → Bool) (xs : List PartName) → missing held xs ≤ length xs
all-missing held [] = omega arith
all-missing held (x ∷ xs) = by (held x) (all-missing held xs)
  where
    by : (b : Bool) → missing held xs ≤ length xs → (if b then 0 else 1) + missing held xs ≤ suc (length xs)
    by true rest = omega (arith, rest)
    by false rest = omega (arith, rest)

fewer : (held : PartName → Bool) (p : PartName) (xs : List PartName) → missing (with_name p held) xs ≤ missing held xs
fewer held p [] = omega arith
fewer held p (x ∷ xs) = by (part_eq p x) (held x) (fewer held p xs)
  where
    by : (b z : Bool) → missing (with_name p held) xs ≤ missing held xs
        → (if (if b then true else z) then 0 else 1) + missing (with_name p held) xs ≤ (if z then 0 else 1) + missing held xs
    by true true rest = omega (arith, rest)
    by true false rest = omega (arith, rest)
    by false z rest = omega (arith, rest)

pub one-fewer : (held : PartName → Bool) (p : PartName) (xs : List PartName) → IsAmong xs p → held p ≡ false → suc (missing (with_name p held) xs) ≤ missing held xs
one-fewer held p [] among free = absurd among
one-fewer held p (x ∷ xs) among free = at among (λ later. one-fewer held p xs later free)
  where
    first : (b z : Bool) → b ≡ true → z ≡ false → suc ((if (if b then true else z) then 0 else 1) + missing (with_name p held) xs) ≤ (if z then 0 else 1) + missing held xs
    first true false same taken = omega (arith, fewer held p xs)
    first true true same taken = absurd (true≢false taken)
    first false z same taken = absurd (true≢false (sym same))

    rest : (b z : Bool) → suc (missing (with_name p held) xs) ≤ missing held xs
        → suc ((if (if b then true else z) then 0 else 1) + missing (with_name p held) xs) ≤ (if z then 0 else 1) + missing held xs
    rest true true later = omega (arith, later)
    rest true false later = omega (arith, later)
    rest false z later = omega (arith, later)

    at : IsAmong (x ∷ xs) p → (IsAmong xs p → suc (missing (with_name p held) xs) ≤ missing held xs) → suc (missing (with_name p held) (x ∷ xs)) ≤ missing held (x ∷ xs)
    at (inl is) later = first (part_eq p x) (held x) (ap (part_eq p) (sym is) ∙ part-refl p) (ap held (sym is) ∙ free)
    at (inr behind) later = rest (part_eq p x) (held x) (later behind)

-- where none is missing, none is next
pub none-next : (held : PartName → Bool) (w : World) (needs : Needs) → missing held (listed w needs) ≤ 0 → next_part held w needs ≡ None
none-next held w needs few = by (next_part held w needs) refl
  where
    by : (o : Option PartName) → next_part held w needs ≡ o → o ≡ None
    by None e = refl
    by (Some p) e = let one : IsMissing held (listed w needs) p = some-missing held w needs p e
        in absurd (omega (arith, few, one-fewer held p (listed w needs) one.among one.free))

-- ---- the names of what is in hand

-- one name more
pub held-more : (names : List PartName) (name p : PartName) → is_held (names ++ name ∷ []) p ≡ (if part_eq name p then true else is_held names p)
held-more [] name p = by (part_eq name p)
  where
    by : (b : Bool) → (b || false) ≡ (if b then true else false)
    by true = refl
    by false = refl
held-more (x ∷ names) name p = by (part_eq x p) (part_eq name p) (held-more names name p)
  where
    by : (a b : Bool) → is_held (names ++ name ∷ []) p ≡ (if b then true else is_held names p) → (a || is_held (names ++ name ∷ []) p) ≡ (if b then true else a || is_held names p)
    by true true rest = refl
    by true false rest = refl
    by false true rest = rest
    by false false rest = rest

-- ---- the part that is next

among-all : (P : PartName → Type 0) (ps : List PartName) (p : PartName) → AllByRecursion P ps → IsAmong ps p → P p
among-all P [] p all among = absurd among
among-all P (x ∷ xs) p all (inl is) = subst P (sym is) all.0
among-all P (x ∷ xs) p all (inr later) = among-all P xs p all.1 later

kind-of : (c : Configuration) (w : World) (name : PartName) (o : Option Part) → IsThere c w name o → IsOfKind name o
kind-of c w name None is = is
kind-of c w name (Some part) is = is.kind

-- the part that is next is one of those that the event needs, it is configured, not in hand, and so at its place
pub record IsNextHere (c : Configuration) (event : Event) (w : World) (row : List Part) (h : Held) (name : PartName) : Type 0 where
  pub among : IsAmong (listed w (event_needs c event)) name
  pub configured : is_configured_part c name ≡ true
  pub free : (holding h).parts name ≡ false
  pub there : IsOfKind name (part_at c row name)

pub next_here : (c : Configuration) (event : Event) (row : List Part) (h : Held) (name : PartName) (of : IsOfWorld c row h)
    → next_part (holding h).parts (holding h).world (event_needs c event) ≡ Some name → IsNextHere c event of.world row h name
next_here c event row h name of is = record {
  among = one.among;
  configured = configured;
  free = one.free;
  there = kind-of c of.world name (part_at c row name) (of.together.home name configured one.free);
}
  where
    needs : Needs
    needs = event_needs c event

    one : IsMissing (holding h).parts (listed of.world needs) name
    one = some-missing (holding h).parts of.world needs name (sym (next-same (holding h).parts (holding h).world of.world needs of.together.shows) ∙ is)

    configured : is_configured_part c name ≡ true
    configured = among-all (λ p. is_configured_part c p ≡ true) (listed of.world needs) name
        (parts-configured c of.world event of.after.limited of.after.sound of.after.placed) one.among

-- what a row and a hand stand for, the hand's parts are of
pub parts_of_world : (c : Configuration) (row : List Part) (h : Held) → IsOfWorld c row h → ArePartsOfWorld c h
parts_of_world c row h of = record { count = of.count; world = of.world; after = of.after; shows = of.together.shows; whole = of.together.whole }

-- names that are not the same, in either order
apart-turned : (a b : PartName) → part_eq a b ≡ false → part_eq b a ≡ false
apart-turned a b other = by (part_eq b a) refl
  where
    by : (z : Bool) → part_eq b a ≡ z → z ≡ false
    by false e = refl
    by true e = absurd (true≢false (sym (part-refl b) ∙ ap (λ x. part_eq x b) (part-path b a e) ∙ other))

-- one name more, which stands not among the others
pub apart-more : (names : List PartName) (name : PartName) → AreApart names → is_held names name ≡ false → AreApart (names ++ name ∷ [])
apart-more [] name apart free = (refl, record {})
apart-more (x ∷ names) name apart free = (held-more names name x ∙ by (part_eq name x) refl, apart-more names name apart.1 (behind (part_eq x name) free))
  where
    first : (b : Bool) → (b || is_held names name) ≡ false → b ≡ false
    first true e = absurd (true≢false e)
    first false e = refl

    behind : (b : Bool) → (b || is_held names name) ≡ false → is_held names name ≡ false
    behind true e = absurd (true≢false e)
    behind false e = e

    by : (b : Bool) → part_eq name x ≡ b → (if b then true else is_held names x) ≡ false
    by true e = absurd (true≢false (sym e ∙ apart-turned x name (first (part_eq x name) free)))
    by false e = apart.0

-- The names to come are those of what is in hand, each once, and configured; the row and the hand stand for the world for
-- which they stood.
pub record IsGivenBack (c : Configuration) (first : List Part) (from : Held) (row : List Part) (h : Held) (taken : List Taken) : Type 0 where
  pub together : (w : World) → AreTogether c w first (holding from) → AreTogether c w row (holding h)
  pub places : HasPlaces c row
  pub named : (p : PartName) → (holding h).parts p ≡ is_held (names_of taken) p
  pub apart : AreApart (names_of taken)
  pub configured : (p : PartName) → is_held (names_of taken) p ≡ true → is_configured_part c p ≡ true
  pub at_places : AreAtPlaces c taken

-- the first of the parts to come is in hand, and has a place
pub name_held : (c : Configuration) (first : List Part) (from : Held) (row : List Part) (h : Held) (one : Taken) (more : List Taken)
    → IsGivenBack c first from row h (one ∷ more) → (holding h).parts one.name ≡ true
name_held c first from row h one more is = is.named one.name ∙ ap (λ b. b || is_held (names_of more) one.name) (part-refl one.name)

pub name_placed : (c : Configuration) (first : List Part) (from : Held) (row : List Part) (h : Held) (one : Taken) (more : List Taken)
    → IsGivenBack c first from row h (one ∷ more) → is_some (part_at c row one.name) ≡ true
name_placed c first from row h one more is = is.places one.name (is.configured one.name (ap (λ b. b || is_held (names_of more) one.name) (part-refl one.name)))

-- once it is given back, the others are to come
pub given_on : (c : Configuration) (first : List Part) (from : Held) (row new : List Part) (h k : Held) (one : Taken) (more : List Taken)
    → IsGivenBack c first from row h (one ∷ more) → IsGiven c one.name row new h k → IsGivenBack c first from new k more
given_on c first from row new h k one more is given = record {
  together = λ w start. given-together c w one.name row new h k (is.together w start) given (name_held c first from row h one more is);
  places = given.places is.places;
  named = λ p. ap (λ z. z.parts p) given.held ∙ by p (part_eq one.name p) refl;
  apart = is.apart.1;
  configured = λ p held. is.configured p (either (part_eq one.name p) (is_held (names_of more) p) held);
  at_places = is.at_places.1;
}
  where
    either : (a b : Bool) → b ≡ true → (a || b) ≡ true
    either true b e = refl
    either false b e = e

    by : (p : PartName) (b : Bool) → part_eq one.name p ≡ b → (if b then false else (holding h).parts p) ≡ is_held (names_of more) p
    by p true e = subst (λ q. false ≡ is_held (names_of more) q) (part-path one.name p e) (sym is.apart.0)
    by p false e = is.named p ∙ ap (λ b. b || is_held (names_of more) p) e

-- ---- part after part

names-more : (xs : List Taken) (one : Taken) → names_of (xs ++ one ∷ []) ≡ names_of xs ++ one.name ∷ []
names-more [] one = refl
names-more (x ∷ xs) one = ap (λ ns. x.name ∷ ns) (names-more xs one)

places-more : (c : Configuration) (xs : List Taken) (one : Taken) → AreAtPlaces c xs → place_of c one.name ≡ Some one.at → AreAtPlaces c (xs ++ one ∷ [])
places-more c [] one all is = (is, record {})
places-more c (x ∷ xs) one all is = (all.0, places-more c xs one all.1 is)

-- what has a place is configured
placed-configured : (c : Configuration) (name : PartName) (place : ℕ) → place_of c name ≡ Some place → is_configured_part c name ≡ true
placed-configured c name place is = by (is_configured_part c name) is
  where
    by : (b : Bool) → (if b then option_map (λ a. parts_before c (domain_of_part name).adapter + place_at name a) (adapter_at c (domain_of_part name).adapter) else None) ≡ Some place → b ≡ true
    by true e = refl
    by false e = absurd (true≢false (sym (ap is_some e)))

-- at first nothing was taken
pub hand_at_first : (c : Configuration) (row : List Part) (h : Held) (taken : Vec Taken Global) → IsOfWorld c row h → IsEmpty (holding h)
    → taken.items ≡ [] → ((p : PartName) → 48 ≤ room_for h p) → 48 ≤ vec_capacity taken → IsInHand c row h taken
hand_at_first c row h taken of empty none room capacity = record {
  of = of;
  named = λ p. empty p ∙ sym (ap (λ xs. is_held (names_of xs) p) none);
  apart = subst (λ xs. AreApart (names_of xs)) (sym none) (record {});
  placed = subst (AreAtPlaces c) (sym none) (record {});
  room = λ p. omega (arith, room p);
  capacity = capacity;
}

-- what a place has is there, where it is not in hand
pub there_at : (c : Configuration) (row : List Part) (h : Held) (taken : Vec Taken Global) (one : Taken) → IsInHand c row h taken → place_of c one.name ≡ Some one.at
    → (holding h).parts one.name ≡ false → IsOfKind one.name (part_at c row one.name)
there_at c row h taken one is at free =
    kind-of c is.of.world one.name (part_at c row one.name) (is.of.together.home one.name (placed-configured c one.name one.at at) free)

-- a part was taken from its place
pub up_together : (c : Configuration) (row new : List Part) (h k : Held) (taken : Vec Taken Global) (one : Taken) → IsInHand c row h taken
    → place_of c one.name ≡ Some one.at → (holding h).parts one.name ≡ false → IsTaken c one.name row new h k
    → (w : World) → AreTogether c w row (holding h) → AreTogether c w new (holding k)
up_together c row new h k taken one is at free up w start = taken-together c w one.name row new h k start up (placed-configured c one.name one.at at) free

-- and it is in hand
pub hand_more : (c : Configuration) (row new : List Part) (h k : Held) (taken more : Vec Taken Global) (one : Taken) → IsInHand c row h taken
    → place_of c one.name ≡ Some one.at → (holding h).parts one.name ≡ false → IsTaken c one.name row new h k
    → more.items ≡ taken.items ++ one ∷ [] → 48 ≤ vec_capacity more → IsInHand c new k more
hand_more c row new h k taken more one is at free up added capacity = record {
  of = record {
    count = is.of.count;
    world = is.of.world;
    after = is.of.after;
    together = up_together c row new h k taken one is at free up is.of.world is.of.together;
  };
  named = λ p. ap (λ z. z.parts p) up.held ∙ ap (λ b. if part_eq one.name p then true else b) (is.named p) ∙ sym (held-more (names_of taken.items) one.name p) ∙ sym (ap (λ ns. is_held ns p) names);
  apart = subst AreApart (sym names) (apart-more (names_of taken.items) one.name is.apart (sym (is.named one.name) ∙ free));
  placed = subst (AreAtPlaces c) (sym added) (places-more c taken.items one is.placed at);
  room = λ p. omega (arith, up.room p, is.room p, ap length added, length-append taken.items (one ∷ []));
  capacity = capacity;
}
  where
    names : names_of more.items ≡ names_of taken.items ++ one.name ∷ []
    names = ap names_of added ∙ names-more taken.items one

-- the other part's names
pub names_after : (c : Configuration) (name : PartName) (row new : List Part) (h k : Held) → IsTaken c name row new h k → (p : PartName)
    → (holding k).parts p ≡ (if part_eq name p then true else (holding h).parts p)
names_after c name row new h k up p = ap (λ z. z.parts p) up.held

pub one_longer : (taken more : List Taken) (one : Taken) → more ≡ taken ++ one ∷ [] → length more ≡ suc (length taken)
one_longer taken more one added = ap length added ∙ omega (arith, length-append taken (one ∷ []))

-- So far parts were taken that an event most likely needs: the row and the hand stand for the world for which they stood.
pub record IsLikely (c : Configuration) (first : List Part) (from : Held) (row : List Part) (h : Held) (taken : Vec Taken Global) : Type 0 where
  pub hand : IsInHand c row h taken
  pub few : length taken.items ≤ 16
  pub together : (w : World) → AreTogether c w first (holding from) → AreTogether c w row (holding h)

-- ---- until none is missing

-- So many parts were taken because they were missing. The row and the hand stand for the world for which they stood, and
-- fewer parts are missing.
pub record IsGathered (c : Configuration) (event : Event) (first : List Part) (from : Held) (row : List Part) (h : Held) (taken : Vec Taken Global) (count : ℕ) : Type 0 where
  pub together : (w : World) → AreTogether c w first (holding from) → AreTogether c w row (holding h)
  pub hand : IsInHand c row h taken
  pub fewer : (w : World) → IsSoundWorld c w → AreTogether c w first (holding from) → missing (holding h).parts (listed w (event_needs c event)) + count ≤ 32
  pub few : length taken.items ≤ 16 + count

-- at first none was
pub gathered_none : (c : Configuration) (event : Event) (first row : List Part) (from h : Held) (taken : Vec Taken Global)
    → ((w : World) → AreTogether c w first (holding from) → AreTogether c w row (holding h)) → IsInHand c row h taken → length taken.items ≤ 16
    → IsGathered c event first from row h taken 0
gathered_none c event first row from h taken together hand few = record {
  together = together;
  hand = hand;
  fewer = λ w sound start. omega (arith, all-missing (holding h).parts (listed w (event_needs c event)), few-event c w event sound);
  few = omega (arith, few);
}

-- the part that is next was taken
pub gathered_more : (c : Configuration) (event : Event) (first row new : List Part) (from h k : Held) (taken more : Vec Taken Global) (count : ℕ) (name : PartName)
    → IsGathered c event first from row h taken count → next_part (holding h).parts (holding h).world (event_needs c event) ≡ Some name
    → IsInHand c new k more → ((w : World) → AreTogether c w row (holding h) → AreTogether c w new (holding k))
    → ((p : PartName) → (holding k).parts p ≡ (if part_eq name p then true else (holding h).parts p)) → length more.items ≡ suc (length taken.items)
    → IsGathered c event first from new k more (count + 1)
gathered_more c event first row new from h k taken more count name is next hand together names longer = record {
  together = λ w start. together w (is.together w start);
  hand = hand;
  fewer = fewer-left;
  few = omega (arith, is.few, longer);
}
  where
    fewer-left : (w : World) → IsSoundWorld c w → AreTogether c w first (holding from) → missing (holding k).parts (listed w (event_needs c event)) + (count + 1) ≤ 32
    fewer-left w sound start =
        let one : IsMissing (holding h).parts (listed w (event_needs c event)) name = some-missing (holding h).parts w (event_needs c event) name
        (sym (next-same (holding h).parts (holding h).world w (event_needs c event) (is.together w start).shows) ∙ next)
        in subst (λ f. missing f (listed w (event_needs c event)) + (count + 1) ≤ 32) (sym (fun_ext names))
        (omega (arith, one-fewer (holding h).parts name (listed w (event_needs c event)) one.among one.free, is.fewer w sound start))

-- there is room for it
pub room_for_more : (c : Configuration) (event : Event) (first row : List Part) (from h : Held) (taken : Vec Taken Global) (count : ℕ)
    → IsGathered c event first from row h taken count → count < 32 → length taken.items < 48
room_for_more c event first row from h taken count is less = omega (arith, is.few, less)

-- after so many none is next
pub gathered_all : (c : Configuration) (event : Event) (first row : List Part) (from h : Held) (taken : Vec Taken Global) (count : ℕ)
    → IsGathered c event first from row h taken count → 32 ≤ count → IsOfWorld c first from → next_part (holding h).parts (holding h).world (event_needs c event) ≡ None
gathered_all c event first row from h taken count is most of =
    next-same (holding h).parts (holding h).world of.world (event_needs c event) (is.together of.world of.together).shows
    ∙ none-next (holding h).parts of.world (event_needs c event) (omega (arith, is.fewer of.world of.after.sound of.together, most))
