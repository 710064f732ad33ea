-- Stretches that go on, begin and end over cells put one after another. For proofs only.
use Rattle.std.proofs.Common.{◌≡◌, ◌∙◌, ℕ, zero, suc, ◌+◌, ◌<◌, ◌≤◌, ◌==◌, ◌&&◌, arith, Bool, true, false, if◌then◌else◌, List, [], ◌∷◌, ◌++◌, drop, take, length, map, slice_index_or, Option, None, Some, Result, Ok, Err, OnOk, ap, refl, subst, sym, true≢false, length-append, zero-add}
use Rattle.std.proofs.lemmas.Bool.{and_from, and_parts, eq-eqb, eqb-true}
use Rattle.std.proofs.lemmas.List.{append-nil, append_assoc, map-append}
use Rattle.ca_isolation.specs.Alone.{Cell, cells_from, goes_on, grown, store_event, stretches_of}
use Rattle.ca_isolation.specs.declared.stretch.Stretch.{Stretch}
use Rattle.ca_keys.specs.declared.place.Place.{Place}
use Rattle.ca_isolation.specs.Extents.{IsAlong, IsExtent, behind, bytes_of_extent, is_covered, place_of}
use Rattle.ca_isolation.specs.Putting.{HasPut, HasStored, events_with, goes_on_at, list_of, longer}
use Rattle.ca_isolation.specs.declared.extent.Extent.{Extent}
use Rattle.ca_isolation.specs.declared.extent.Extent.TheVariants as extents
use Rattle.ca_isolation.specs.declared.extent.Spot.{Spot}
use Rattle.ca_isolation.specs.declared.stores.Stores.{Stores}
use Rattle.ca_model.specs.declared.event.Event.{Event}

abbrev next : Place → Place
next p = record p { offset = suc p.offset }

abbrev cell : Place → ℕ → Cell
cell p b = record { place = p; byte = b }

-- what follows where a call ends well
pub when-ok : {A E P Q : Type 0} (r : Result A E) → (P → Q) → OnOk r P → OnOk r Q
when-ok (Ok x) f p = f p
when-ok (Err e) f p = record {}

-- ---- along places

first : (cover : Place → Bool) (b : Bool) (p : Place) (n : ℕ) → IsAlong cover b p (suc n) → cover p ≡ b
first cover b p n along = ap (λ o. cover (record p { offset = o })) same ∙ along 0 (omega arith)
  where
    same : p.offset ≡ p.offset + 0
    same = omega arith

later : (cover : Place → Bool) (b : Bool) (p : Place) (n : ℕ) → IsAlong cover b p (suc n) → IsAlong cover b (next p) n
later cover b p n along i below = ap (λ o. cover (record p { offset = o })) same ∙ along (suc i) (omega (arith, below))
  where
    same : suc p.offset + i ≡ p.offset + suc i
    same = omega arith

pub fewer : (cover : Place → Bool) (b : Bool) (p : Place) (m n : ℕ) → m ≤ n → IsAlong cover b p n → IsAlong cover b p m
fewer cover b p m n le along i below = along i (omega (arith, below, le))

-- places that are not covered, by their extent
pub bare-extent : (cover : Place → Bool) (at : Spot) (e : Extent) (n : ℕ) → e ≡ extents.Bare n → IsExtent cover at e → IsAlong cover false (place_of at) (bytes_of_extent e)
bare-extent cover at e n bare is = subst (λ b. IsAlong cover b (place_of at) (bytes_of_extent e)) (ap is_covered bare) is.along

-- ---- a stretch that goes on

record GoesOn (s : Stretch) (p : Place) : Type 0 where
  adapter : p.adapter ≡ s.at.adapter
  buffer : p.buffer ≡ s.at.buffer
  offset : p.offset ≡ s.at.offset + length s.bytes

on-parts : (s : Stretch) (p : Place) (b : ℕ) → goes_on s (cell p b) ≡ true → GoesOn s p
on-parts s p b is = record {
  adapter = eqb-true p.adapter s.at.adapter two.0;
  buffer = eqb-true p.buffer s.at.buffer two.1;
  offset = eqb-true p.offset (s.at.offset + length s.bytes) three.1;
}
  where
    three : (((p.adapter == s.at.adapter) && (p.buffer == s.at.buffer)) ≡ true) × ((p.offset == s.at.offset + length s.bytes) ≡ true)
    three = and_parts ((p.adapter == s.at.adapter) && (p.buffer == s.at.buffer)) (p.offset == s.at.offset + length s.bytes) is

    two : ((p.adapter == s.at.adapter) ≡ true) × ((p.buffer == s.at.buffer) ≡ true)
    two = and_parts (p.adapter == s.at.adapter) (p.buffer == s.at.buffer) three.0

on-made : (s : Stretch) (p : Place) (b : ℕ) → GoesOn s p → goes_on s (cell p b) ≡ true
on-made s p b on = and_from ((p.adapter == s.at.adapter) && (p.buffer == s.at.buffer)) (p.offset == s.at.offset + length s.bytes)
    (and_from (p.adapter == s.at.adapter) (p.buffer == s.at.buffer) (eq-eqb p.adapter s.at.adapter on.adapter) (eq-eqb p.buffer s.at.buffer on.buffer))
    (eq-eqb p.offset (s.at.offset + length s.bytes) on.offset)

on-next : (s : Stretch) (p : Place) (b : ℕ) → GoesOn s p → GoesOn (record s { bytes = s.bytes ++ b ∷ [] }) (next p)
on-next s p b on = record { adapter = on.adapter; buffer = on.buffer; offset = omega (arith, on.offset, length-append s.bytes (b ∷ [])) }

on-begun : (p : Place) (b : ℕ) → GoesOn (record { at = p; bytes = b ∷ [] }) (next p)
on-begun p b = record { adapter = refl; buffer = refl; offset = omega arith }

-- covered cells behind a stretch on which they go on
goes-on : (cover : Place → Bool) (bytes : List ℕ) (p : Place) (s : Stretch) (ys : List Cell) → IsAlong cover true p (length bytes) → GoesOn s p
    → stretches_of cover (cells_from p (length bytes) bytes ++ ys) (Some s) ≡ stretches_of cover ys (Some (record s { bytes = s.bytes ++ bytes }))
goes-on cover [] p s ys along on = ap (λ bs. stretches_of cover ys (Some (record s { bytes = bs }))) (sym (append-nil s.bytes))
goes-on cover (b ∷ bytes) p s ys along on =
    ap (λ v. (if v && goes_on s (cell p b) then [] else s ∷ []) ++ stretches_of cover rest (if v then Some (grown (Some s) (cell p b)) else None))
    (first cover true p (length bytes) along)
    ∙ ap (λ v. (if v then [] else s ∷ []) ++ stretches_of cover rest (Some (if v then record s { bytes = s.bytes ++ b ∷ [] } else record { at = p; bytes = b ∷ [] })))
    (on-made s p b on)
    ∙ goes-on cover bytes (next p) (record s { bytes = s.bytes ++ b ∷ [] }) ys (later cover true p (length bytes) along) (on-next s p b on)
    ∙ ap (λ bs. stretches_of cover ys (Some (record s { bytes = bs }))) (append_assoc s.bytes (b ∷ []) bytes)
  where
    rest : List Cell
    rest = cells_from (next p) (length bytes) bytes ++ ys

-- covered cells where nothing goes on
begins : (cover : Place → Bool) (b : ℕ) (bytes : List ℕ) (p : Place) (front : Option Stretch) (ys : List Cell)
    → IsAlong cover true p (suc (length bytes)) → goes_on_at front p ≡ false
    → stretches_of cover (cells_from p (suc (length bytes)) (b ∷ bytes) ++ ys) front
    ≡ list_of front ++ stretches_of cover ys (Some (record { at = p; bytes = b ∷ bytes }))
begins cover b bytes p None ys along off =
    ap (λ v. stretches_of cover (cells_from (next p) (length bytes) bytes ++ ys) (if v then Some (grown None (cell p b)) else None))
    (first cover true p (length bytes) along)
    ∙ goes-on cover bytes (next p) (record { at = p; bytes = b ∷ [] }) ys (later cover true p (length bytes) along) (on-begun p b)
begins cover b bytes p (Some s) ys along off =
    ap (λ v. (if v && goes_on s (cell p b) then [] else s ∷ []) ++ stretches_of cover rest (if v then Some (grown (Some s) (cell p b)) else None))
    (first cover true p (length bytes) along)
    ∙ ap (λ v. (if v then [] else s ∷ []) ++ stretches_of cover rest (Some (if v then record s { bytes = s.bytes ++ b ∷ [] } else record { at = p; bytes = b ∷ [] })))
    off
    ∙ ap (λ ss. s ∷ ss) (goes-on cover bytes (next p) (record { at = p; bytes = b ∷ [] }) ys (later cover true p (length bytes) along) (on-begun p b))
  where
    rest : List Cell
    rest = cells_from (next p) (length bytes) bytes ++ ys

-- cells that are not covered, where nothing is open
stays-ended : (cover : Place → Bool) (n : ℕ) (p : Place) (bytes : List ℕ) (ys : List Cell) → IsAlong cover false p n
    → stretches_of cover (cells_from p n bytes ++ ys) None ≡ stretches_of cover ys None
stays-ended cover zero p bytes ys along = refl
stays-ended cover (suc n) p bytes ys along =
    ap (λ v. stretches_of cover (cells_from (next p) n (drop 1 bytes) ++ ys) (if v then Some (grown None (cell p (slice_index_or bytes 0 0))) else None))
    (first cover false p n along)
    ∙ stays-ended cover n (next p) (drop 1 bytes) ys (later cover false p n along)

-- cells that are not covered, and some
ends : (cover : Place → Bool) (n : ℕ) (p : Place) (bytes : List ℕ) (front : Option Stretch) (ys : List Cell) → IsAlong cover false p (suc n)
    → stretches_of cover (cells_from p (suc n) bytes ++ ys) front ≡ list_of front ++ stretches_of cover ys None
ends cover n p bytes None ys along = stays-ended cover (suc n) p bytes ys along
ends cover n p bytes (Some s) ys along =
    ap (λ v. (if v && goes_on s (cell p (slice_index_or bytes 0 0)) then [] else s ∷ [])
    ++ stretches_of cover rest (if v then Some (grown (Some s) (cell p (slice_index_or bytes 0 0))) else None))
    (first cover false p n along)
    ∙ ap (λ ss. s ∷ ss) (stays-ended cover n (next p) (drop 1 bytes) ys (later cover false p n along))
  where
    rest : List Cell
    rest = cells_from (next p) n (drop 1 bytes) ++ ys

-- ---- what was put

pub put-none : (cover : Place → Bool) (s : Stores) → HasPut cover [] s s
put-none cover s ys = refl

pub put-then : (cover : Place → Bool) (xs ys : List Cell) (a b c : Stores) → HasPut cover xs a b → HasPut cover ys b c → HasPut cover (xs ++ ys) a c
put-then cover xs ys a b c one two zs = two zs ∙ one (ys ++ zs) ∙ ap (λ t. events_with cover t a) (sym (append_assoc xs ys zs))

-- the events of a state by its parts
told : (cover : Place → Bool) (events : List Event) (front : Option Stretch) (xs : List Cell) → List Event
told cover events front xs = events ++ map store_event (stretches_of cover xs front)

-- bytes were put behind what is open
pub put-on : (cover : Place → Bool) (p : Place) (bytes : List ℕ) (a b : Stores) → goes_on_at a.front p ≡ true
    → b.events.items ≡ a.events.items → b.front ≡ longer a.front bytes → IsAlong cover true p (length bytes)
    → HasPut cover (cells_from p (length bytes) bytes) a b
put-on cover p bytes a b on events front along ys =
    ap (λ es. es ++ map store_event (stretches_of cover ys b.front)) events
    ∙ ap (λ f. a.events.items ++ map store_event (stretches_of cover ys f)) front
    ∙ ap (λ ss. a.events.items ++ map store_event ss) (by a.front on)
  where
    by : (f : Option Stretch) → goes_on_at f p ≡ true → stretches_of cover ys (longer f bytes) ≡ stretches_of cover (cells_from p (length bytes) bytes ++ ys) f
    by None none = absurd (true≢false (sym none))
    by (Some s) is = sym (goes-on cover bytes p s ys along (on-parts s p 0 is))

-- what was open was stored, and bytes were put
pub put-begun : (cover : Place → Bool) (p : Place) (bytes : List ℕ) (a b c : Stores) → 0 < length bytes → goes_on_at a.front p ≡ false
    → HasStored (list_of a.front) a b → c.events.items ≡ b.events.items → c.front ≡ Some (record { at = p; bytes = bytes })
    → IsAlong cover true p (length bytes) → HasPut cover (cells_from p (length bytes) bytes) a c
put-begun cover p [] a b c some off stored events front along ys = absurd (omega (arith, some))
put-begun cover p (x ∷ bytes) a b c some off stored events front along ys =
    ap (λ es. es ++ map store_event (stretches_of cover ys c.front)) (events ∙ stored.events)
    ∙ ap (λ f. (a.events.items ++ map store_event (list_of a.front)) ++ map store_event (stretches_of cover ys f)) front
    ∙ append_assoc a.events.items (map store_event (list_of a.front)) (map store_event behind')
    ∙ ap (λ es. a.events.items ++ es) (sym (map-append store_event (list_of a.front) behind'))
    ∙ ap (λ ss. a.events.items ++ map store_event ss) (sym (begins cover x bytes p a.front ys along off))
  where
    behind' : List Stretch
    behind' = stretches_of cover ys (Some (record { at = p; bytes = x ∷ bytes }))

-- what was open was stored, and bytes that are not covered passed
pub put-bare : (cover : Place → Bool) (p : Place) (bytes : List ℕ) (a b : Stores) → 0 < length bytes
    → HasStored (list_of a.front) a b → IsAlong cover false p (length bytes) → HasPut cover (cells_from p (length bytes) bytes) a b
put-bare cover p [] a b some stored along ys = absurd (omega (arith, some))
put-bare cover p (x ∷ bytes) a b some stored along ys =
    ap (λ es. es ++ map store_event (stretches_of cover ys b.front)) stored.events
    ∙ ap (λ f. (a.events.items ++ map store_event (list_of a.front)) ++ map store_event (stretches_of cover ys f)) stored.front
    ∙ append_assoc a.events.items (map store_event (list_of a.front)) (map store_event (stretches_of cover ys None))
    ∙ ap (λ es. a.events.items ++ es) (sym (map-append store_event (list_of a.front) (stretches_of cover ys None)))
    ∙ ap (λ ss. a.events.items ++ map store_event ss) (sym (ends cover (length bytes) p (x ∷ bytes) a.front ys along))

no-more : (cover : Place → Bool) (front : Option Stretch) → stretches_of cover [] front ≡ list_of front
no-more cover None = refl
no-more cover (Some s) = refl

-- what is open at the end is stored
pub put-ended : (cover : Place → Bool) (xs : List Cell) (a b c : Stores) → a.front ≡ None → HasPut cover xs a b → HasStored (list_of b.front) b c
    → HasStored (stretches_of cover xs None) a c
put-ended cover xs a b c none put stored = record {
  events = stored.events
      ∙ ap (λ ss. b.events.items ++ map store_event ss) (sym (no-more cover b.front))
      ∙ put []
      ∙ ap (λ t. events_with cover t a) (append-nil xs)
      ∙ ap (λ f. a.events.items ++ map store_event (stretches_of cover xs f)) none;
  front = stored.front;
}

pub stored_none : (a : Stores) → a.front ≡ None → HasStored [] a a
stored_none a none = record { events = sym (append-nil a.events.items); front = none }

pub ruleset storing = (stored_none)

-- ---- cells of parts of bytes

drop-none : (k : ℕ) → let none : List ℕ = [] in drop k none ≡ none
drop-none zero = refl
drop-none (suc k) = refl

pub drop-both : (j k : ℕ) (xs : List ℕ) → drop k (drop j xs) ≡ drop (j + k) xs
drop-both zero k xs = ap (λ n. drop n xs) (sym (zero-add k))
drop-both (suc j) k [] = drop-none k ∙ sym (drop-none (suc j + k))
drop-both (suc j) k (x ∷ xs) = drop-both j k xs ∙ ap (λ n. drop n (x ∷ xs)) same
  where
    same : suc (j + k) ≡ suc j + k
    same = omega arith

-- cells, of as many bytes and of those behind them
pub cells-split : (k n : ℕ) (p : Place) (bytes : List ℕ) → cells_from p (k + n) bytes ≡ cells_from p k bytes ++ cells_from (behind p k) n (drop k bytes)
cells-split zero n p bytes = ap (λ m. cells_from p m bytes) (zero-add n) ∙ ap (λ o. cells_from (record p { offset = o }) n bytes) same
  where
    same : p.offset ≡ p.offset + 0
    same = omega arith
cells-split (suc k) n p bytes =
    ap (λ m. cells_from p m bytes) more
    ∙ ap (λ t. cell p (slice_index_or bytes 0 0) ∷ t) (cells-split k n (next p) (drop 1 bytes))
    ∙ ap (λ o. cells_from p (suc k) bytes ++ cells_from (record p { offset = o }) n (drop k (drop 1 bytes))) same
    ∙ ap (λ bs. cells_from p (suc k) bytes ++ cells_from (behind p (suc k)) n bs) (drop-both 1 k bytes ∙ ap (λ m. drop m bytes) one)
  where
    more : suc k + n ≡ suc (k + n)
    more = omega arith

    same : suc p.offset + k ≡ p.offset + suc k
    same = omega arith

    one : 1 + k ≡ suc k
    one = omega arith

-- cells are of no byte behind as many as they are
pub cells-of-front : (n : ℕ) (p : Place) (bytes : List ℕ) → cells_from p n (take n bytes) ≡ cells_from p n bytes
cells-of-front zero p bytes = refl
cells-of-front (suc n) p [] = refl
cells-of-front (suc n) p (b ∷ bytes) = ap (λ t. cell p b ∷ t) (cells-of-front n (next p) bytes)
