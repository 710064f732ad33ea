-- Where a loop over marks or entries stands: the past there, the grants in force, and the events so far. For proofs only.
use Rattle.std.proofs.Common.{◌≡◌, ◌∙◌, ℕ, ◌+◌, ◌<◌, ◌==◌, ◌&&◌, not, Bool, true, false, if◌then◌else◌, List, [], ◌∷◌, ◌++◌, drop, take, filter, length, map, reverse, slice_index_or, None, Some, ap, refl, subst, sym}
use Rattle.std.proofs.lemmas.List.{append-nil, append_assoc, map-append, reverse-append, take_more}
use Rattle.std.proofs.lemmas.List.Elements.{filter-append}
use Rattle.ca_isolation.specs.Alone.{alone_entries, alone_from, entries_instead, store_entry, store_event, stretches_of_marks, writes_of}
use Rattle.ca_isolation.specs.Groups.{Group, covered, is_of}
use Rattle.ca_isolation.specs.declared.stretch.Stretch.{Stretch}
use Rattle.ca_keys.specs.Allowed.{fits, grant_for}
use Rattle.ca_keys.specs.Equal.{key_eq}
use Rattle.ca_keys.specs.Memory.{ByteMap, zeros}
use Rattle.ca_keys.specs.declared.access.Ask.{Ask}
use Rattle.ca_keys.specs.declared.grant.Grant.{Grant}
use Rattle.ca_keys.specs.declared.key.Key.{Key}
use Rattle.ca_keys.specs.declared.place.Place.{Place}
use Rattle.ca_keys.specs.declared.place.Run.{Run}
use Rattle.ca_isolation.proofs.CoverLemmas.{here}
use Rattle.ca_isolation.specs.Cover.{covers}
use Rattle.ca_isolation.specs.InForce.{AreInForce}
use Rattle.ca_isolation.specs.Putting.{HasFollowed, HasStored, events_instead, stretches_of_writes}
use Rattle.ca_isolation.specs.declared.stores.Stores.{Stores}
use Rattle.ca_model.specs.Entries.{EntryValue}
use Rattle.ca_model.specs.Past.{Past, after_entry, after_mark, after_marks, at_begin, opening_past}
use Rattle.ca_model.specs.declared.event.Event.{Event}
use Rattle.ca_model.specs.declared.mark.Mark.{Mark}
use Rattle.ca_model.specs.declared.mark.Mark.TheVariants as marks

-- ---- grants in force

-- a past in which these are in force
abbrev pub past_with : List Grant → Past
past_with gs = record (opening_past zeros) { grants = reverse gs }

-- one grant more, of which the latest that fits counts
pub latest-more : (ask : Ask) (gs : List Grant) (i : ℕ) (g : Grant) → i < length gs → g ≡ slice_index_or gs i g
    → grant_for ask (reverse (take (i + 1) gs)) ≡ (if fits ask g then Some g else grant_for ask (reverse (take i gs)))
latest-more ask gs i g less is =
    ap (λ xs. grant_for ask (reverse xs)) (take_more gs i g less)
    ∙ ap (grant_for ask) (reverse-append (take i gs) (slice_index_or gs i g ∷ []))
    ∙ ap (λ x. if fits ask x then Some x else grant_for ask (reverse (take i gs))) (sym is)

-- what is left of grants in reverse
pub filter-reverse : (keep : Grant → Bool) (gs : List Grant) → filter keep (reverse gs) ≡ reverse (filter keep gs)
filter-reverse keep [] = refl
filter-reverse keep (g ∷ gs) =
    ap (filter keep) (reverse-append (g ∷ []) gs)
    ∙ filter-append keep (reverse gs) (g ∷ [])
    ∙ ap (λ xs. xs ++ filter keep (g ∷ [])) (filter-reverse keep gs)
    ∙ by (keep g)
  where
    by : (b : Bool) → reverse (filter keep gs) ++ (if b then g ∷ [] else []) ≡ reverse (if b then g ∷ filter keep gs else filter keep gs)
    by true = sym (reverse-append (g ∷ []) (filter keep gs))
    by false = append-nil (reverse (filter keep gs))

-- those whose key is revoked are gone
pub revoked : (adapter : ℕ) (key : Key) (old new : List Grant) (m : Mark) (past : Past) → m ≡ marks.Revoked adapter key
    → new ≡ filter (λ g. not ((g.domain.adapter == adapter) && key_eq g.key key)) old → AreInForce old past → AreInForce new (after_mark m past)
revoked adapter key old new m past is kept are =
    ap (λ x. (after_mark x past).grants) is
    ∙ ap (filter (λ g. not ((g.domain.adapter == adapter) && key_eq g.key key))) are
    ∙ filter-reverse (λ g. not ((g.domain.adapter == adapter) && key_eq g.key key)) old
    ∙ ap reverse (sym kept)

-- ---- marks

-- where a loop over marks stands
pub record FollowsTo (marks : List Mark) (past : Past) (rest : List Mark) (grants : List Grant) : Type 0 where
  pub now : Past
  pub in_force : AreInForce grants now
  pub after : after_marks rest now ≡ after_marks marks past

pub follows-first : (marks : List Mark) (past : Past) (grants : List Grant) → AreInForce grants past → FollowsTo marks past marks grants
follows-first marks past grants are = record { now = past; in_force = are; after = refl }

pub follows-more : (marks : List Mark) (past : Past) (i : ℕ) (m : Mark) (old new : List Grant) → i < length marks → m ≡ slice_index_or marks i m
    → ((past : Past) → AreInForce old past → AreInForce new (after_mark m past)) → FollowsTo marks past (drop i marks) old → FollowsTo marks past (drop (i + 1) marks) new
follows-more marks past i m old new less is step at = record {
  now = after_mark m at.now;
  in_force = step at.now at.in_force;
  after = sym (ap (λ ms. after_marks ms at.now) (here marks i m less is)) ∙ at.after;
}

pub follows-last : (marks : List Mark) (past : Past) (rest : List Mark) (grants : List Grant) → rest ≡ [] → FollowsTo marks past rest grants → AreInForce grants (after_marks marks past)
follows-last marks past rest grants none at = subst (AreInForce grants) (sym (ap (λ ms. after_marks ms at.now) none) ∙ at.after) at.in_force

-- where a loop over marks stands that stores what they tell of as written
pub record StoresTo (cover : Place → Bool) (marks : List Mark) (past : Past) (old : Stores) (rest : List Mark) (now_at : Stores) (grants : List Grant) : Type 0 where
  pub now : Past
  pub in_force : AreInForce grants now
  pub after : after_marks rest now ≡ after_marks marks past
  pub events : now_at.events.items ++ map store_event (stretches_of_marks cover now rest) ≡ old.events.items ++ map store_event (stretches_of_marks cover past marks)

pub stores-first : (cover : Place → Bool) (marks : List Mark) (past : Past) (a : Stores) (grants : List Grant) → AreInForce grants past → StoresTo cover marks past a marks a grants
stores-first cover marks past a grants are = record { now = past; in_force = are; after = refl; events = refl }

pub stores-more : (cover : Place → Bool) (marks : List Mark) (past : Past) (i : ℕ) (m : Mark) (a b c : Stores) (old new : List Grant)
    → i < length marks → m ≡ slice_index_or marks i m
    → ((past : Past) → AreInForce old past → HasStored (stretches_of_writes cover (writes_of past m)) b c)
    → ((past : Past) → AreInForce old past → AreInForce new (after_mark m past))
    → StoresTo cover marks past a (drop i marks) b old → StoresTo cover marks past a (drop (i + 1) marks) c new
stores-more cover marks past i m a b c old new less is put step at = record {
  now = after_mark m at.now;
  in_force = step at.now at.in_force;
  after = sym (ap (λ ms. after_marks ms at.now) (here marks i m less is)) ∙ at.after;
  events =
      ap (λ es. es ++ map store_event (stretches_of_marks cover (after_mark m at.now) (drop (i + 1) marks))) (put at.now at.in_force).events
      ∙ append_assoc b.events.items (map store_event one) (map store_event (stretches_of_marks cover (after_mark m at.now) (drop (i + 1) marks)))
      ∙ ap (λ es. b.events.items ++ es) (sym (map-append store_event one (stretches_of_marks cover (after_mark m at.now) (drop (i + 1) marks))))
      ∙ ap (λ ms. b.events.items ++ map store_event (stretches_of_marks cover at.now ms)) (sym (here marks i m less is))
      ∙ at.events;
}
  where
    one : List Stretch
    one = stretches_of_writes cover (writes_of at.now m)

pub stores-last : (cover : Place → Bool) (marks : List Mark) (past : Past) (a b : Stores) (rest : List Mark) (grants : List Grant) → rest ≡ [] → b.front ≡ None
    → StoresTo cover marks past a rest b grants → HasFollowed (map store_event (stretches_of_marks cover past marks)) (after_marks marks past) a b grants
stores-last cover marks past a b rest grants none front at = record {
  events = sym (append-nil b.events.items) ∙ sym (ap (λ ms. b.events.items ++ map store_event (stretches_of_marks cover at.now ms)) none) ∙ at.events;
  front = front;
  in_force = subst (AreInForce grants) (sym (ap (λ ms. after_marks ms at.now) none) ∙ at.after) at.in_force;
}

-- ---- entries

-- the group's own event
pub follows-own : (group : Group) (cover : Place → Bool) (past : Past) (e : EntryValue) (a b : Stores) (grants : List Grant) → is_of group e.event ≡ true
    → b.events.items ≡ a.events.items ++ e.event ∷ [] → b.front ≡ None → AreInForce grants (after_marks e.marks (at_begin e.event past))
    → HasFollowed (events_instead group cover past e) (after_entry e past) a b grants
follows-own group cover past e a b grants own events front are = record {
  events = events ∙ ap (λ v. a.events.items ++ map (λ (x : EntryValue). x.event) (if v then e ∷ [] else map (store_entry e) stores)) (sym own);
  front = front;
  in_force = are;
}
  where
    stores : List Stretch
    stores = stretches_of_marks cover (at_begin e.event past) e.marks

stores-events : (e : EntryValue) (ss : List Stretch) → map (λ (x : EntryValue). x.event) (map (store_entry e) ss) ≡ map store_event ss
stores-events e [] = refl
stores-events e (s ∷ ss) = ap (λ es. store_event s ∷ es) (stores-events e ss)

-- an event of others
pub follows-other : (group : Group) (cover : Place → Bool) (past : Past) (e : EntryValue) (a b : Stores) (grants : List Grant) → is_of group e.event ≡ false
    → HasFollowed (map store_event (stretches_of_marks cover (at_begin e.event past) e.marks)) (after_marks e.marks (at_begin e.event past)) a b grants
    → HasFollowed (events_instead group cover past e) (after_entry e past) a b grants
follows-other group cover past e a b grants other followed = record {
  events =
      followed.events
      ∙ ap (λ es. a.events.items ++ es) (sym (stores-events e stores))
      ∙ ap (λ v. a.events.items ++ map (λ (x : EntryValue). x.event) (if v then e ∷ [] else map (store_entry e) stores)) (sym other);
  front = followed.front;
  in_force = followed.in_force;
}
  where
    stores : List Stretch
    stores = stretches_of_marks cover (at_begin e.event past) e.marks

-- where a loop over entries stands
pub record WalksTo (group : Group) (cover : Place → Bool) (es : List EntryValue) (past : Past) (rest : List EntryValue) (events : List Event) (grants : List Grant) : Type 0 where
  pub now : Past
  pub in_force : AreInForce grants now
  pub told : events ++ map (λ e. e.event) (alone_from group cover now rest) ≡ map (λ e. e.event) (alone_from group cover past es)

pub walks-first : (group : Group) (cover : Place → Bool) (es : List EntryValue) (past : Past) → past.grants ≡ [] → WalksTo group cover es past es [] []
walks-first group cover es past none = record { now = past; in_force = none; told = refl }

pub walks-more : {A : Type 0} (f : A → EntryValue) (group : Group) (cover : Place → Bool) (es : List EntryValue) (past : Past) (xs : List A) (i : ℕ) (x : A) (a b : Stores) (old new : List Grant)
    → i < length xs → x ≡ slice_index_or xs i x
    → ((past : Past) → AreInForce old past → HasFollowed (events_instead group cover past (f x)) (after_entry (f x) past) a b new)
    → WalksTo group cover es past (map f (drop i xs)) a.events.items old → WalksTo group cover es past (map f (drop (i + 1) xs)) b.events.items new
walks-more f group cover es past xs i x a b old new less is step at = record {
  now = after_entry (f x) at.now;
  in_force = followed.in_force;
  told =
      ap (λ ev. ev ++ map (λ e. e.event) behind) followed.events
      ∙ append_assoc a.events.items (events_instead group cover at.now (f x)) (map (λ e. e.event) behind)
      ∙ ap (λ ev. a.events.items ++ ev) (sym (map-append (λ (e : EntryValue). e.event) (entries_instead group cover at.now (f x)) behind))
      ∙ ap (λ ys. a.events.items ++ map (λ e. e.event) (alone_from group cover at.now (map f ys))) (sym (here xs i x less is))
      ∙ at.told;
}
  where
    followed : HasFollowed (events_instead group cover at.now (f x)) (after_entry (f x) at.now) a b new
    followed = step at.now at.in_force

    behind : List EntryValue
    behind = alone_from group cover (after_entry (f x) at.now) (map f (drop (i + 1) xs))

-- all entries
pub walks-last : (group : Group) (cover : List Run) (es : List EntryValue) (bytes : ByteMap) (rest : List EntryValue) (events : List Event) (grants : List Grant)
    → ((p : Place) → covers cover p ≡ covered group es p) → rest ≡ [] → WalksTo group (covers cover) es (opening_past bytes) rest events grants
    → events ≡ map (λ e. e.event) (alone_entries group bytes es)
walks-last group cover es bytes rest events grants same none at =
    sym (append-nil events)
    ∙ sym (ap (λ ys. events ++ map (λ e. e.event) (alone_from group (covers cover) at.now ys)) none)
    ∙ at.told
    ∙ (λ j. map (λ e. e.event) (alone_from group (λ p. same p j) (opening_past bytes) es))
