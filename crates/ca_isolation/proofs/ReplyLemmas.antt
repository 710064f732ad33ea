-- The lone list has the replies of the history. For proofs only.
use Rattle.std.proofs.Common.{◌≡◌, Bool, true, false, List, [], ◌∷◌, ◌++◌, filter, map, ◌∙◌, ap, ap₂, refl, sym, if◌then◌else◌}
use Rattle.std.proofs.lemmas.Grind.{flat_map-append}
use Rattle.ca_isolation.specs.Alone.{alone_from, entries_instead, store_entry, stretches_of_marks}
use Rattle.ca_isolation.specs.declared.stretch.Stretch.{Stretch}
use Rattle.ca_isolation.specs.Groups.{Group, is_of, is_reply, replies_of}
use Rattle.ca_keys.specs.declared.place.Place.{Place}
use Rattle.ca_model.specs.Entries.{EntryValue}
use Rattle.ca_model.specs.Past.{Past, after_entry, at_begin}
use Rattle.ca_model.specs.declared.mark.Mark.{Mark}

-- a group gets no reply to Stores
none-stored : (group : Group) (e : EntryValue) (ss : List Stretch) → replies_of group (map (store_entry e) ss) ≡ []
none-stored group e [] = refl
none-stored group e (s ∷ ss) = none-stored group e ss

-- what stands in the place of an entry has its replies
instead : (group : Group) (cover : Place → Bool) (past : Past) (e : EntryValue) → replies_of group (entries_instead group cover past e) ≡ replies_of group (e ∷ [])
instead group cover past e = by (is_of group e.event) refl
  where
    stores : List EntryValue
    stores = map (store_entry e) (stretches_of_marks cover (at_begin e.event past) e.marks)

    told : Bool → List Mark
    told b = (if b then filter is_reply e.marks else []) ++ []

    by : (b : Bool) → is_of group e.event ≡ b → replies_of group (if b then e ∷ [] else stores) ≡ told (is_of group e.event)
    by true is = refl
    by false is = none-stored group e stores' ∙ ap told (λ i. is' i)
      where
        stores' : List Stretch
        stores' = stretches_of_marks cover (at_begin e.event past) e.marks

        is' : false ≡ is_of group e.event
        is' = sym is

pub same-replies : (group : Group) (cover : Place → Bool) (past : Past) (es : List EntryValue) → replies_of group (alone_from group cover past es) ≡ replies_of group es
same-replies group cover past [] = refl
same-replies group cover past (e ∷ es) =
    flat_map-append replies (entries_instead group cover past e) (alone_from group cover (after_entry e past) es)
    ∙ ap₂ (λ x y. x ++ y) (instead group cover past e) (same-replies group cover (after_entry e past) es)
    ∙ sym (flat_map-append replies (e ∷ []) es)
  where
    replies : EntryValue → List Mark
    replies x = if is_of group x.event then filter is_reply x.marks else []
