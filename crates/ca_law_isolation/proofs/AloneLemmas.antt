-- Along a history in which a group is closed the lone list runs, and its world is the same to the group. For proofs only.
use Rattle.std.proofs.Common.{◌≡◌, ◌∙◌, ℕ, suc, ◌||◌, ◌<◌, Bool, true, false, if◌then◌else◌, List, [], ◌∷◌, ◌++◌, map, is_some, Option, None, Some, IfSome, Ok, Err, ap, refl, subst, sym, true≢false}
use Rattle.std.proofs.lemmas.Bool.{and_from}
use Rattle.std.specs.List.{AllByRecursion, list_any}
use Rattle.std.specs.Option.{option_map_or}
use Rattle.ca_law_endings.proofs.EventFitLemmas.{first-marks}
use Rattle.ca_law_endings.specs.Agreement.{HoldsAlong}
use Rattle.ca_law_endings.specs.Runs.{Comes}
use Rattle.ca_law_keys.proofs.Keys.ChangeLemmas.{region-small}
use Rattle.ca_law_keys.proofs.Keys.KeyLaws.{event-keys-agree, opening-keys-agree}
use Rattle.ca_law_keys.proofs.Keys.KeyFrame.{IsUp}
use Rattle.ca_law_keys.proofs.Keys.SlotLemmas.{key-slot-refl, region-kind, slot-at-region}
use Rattle.ca_law_keys.specs.InForce.{KeysAgree, grant_in_force, grant_over_regions, slot_at}
use Rattle.ca_base.specs.Configuration.{Configuration}
use Rattle.ca_base.specs.objects.Region.{RegionState, NoRegion, Free, Registered, FastRegistered, grant_in_state, grant_of_region}
use Rattle.ca_base.specs.objects.Slices.{has_slot}
use Rattle.ca_law_isolation.proofs.PastLemmas.{Grants, marks-grants, marks-stored}
use Rattle.ca_law_isolation.proofs.StoreLemmas.{LieGranted, all-lie, marks-fit, stores-run, with_stored}
use Rattle.ca_isolation.specs.Alone.{Isolated, alone_bytes, alone_from, store_entry, stretches_of_marks}
use Rattle.ca_isolation.specs.declared.stretch.Stretch.{Stretch}
use Rattle.ca_isolation.specs.Groups.{Group, covered, is_granted_by, is_of}
use Rattle.ca_keys.specs.Memory.{ByteMap, is_in}
use Rattle.ca_keys.specs.declared.grant.Grant.{Grant}
use Rattle.ca_keys.specs.declared.names.Slot.{Slot}
use Rattle.ca_keys.specs.declared.place.Place.{Place}
use Rattle.ca_law_isolation.proofs.BesideEventLemmas.{event-beside}
use Rattle.ca_law_isolation.proofs.ClosedLemmas.{closed-stays, of-group}
use Rattle.ca_law_isolation.proofs.OtherLemmas.{others-keep}
use Rattle.ca_law_isolation.proofs.SameLemmas.{same-alone}
use Rattle.ca_law_isolation.specs.Domains.{AreBoundBeside, IsGrantedTo, LooksWithin, StaysWithin, is_seen_by, is_thing_of}
use Rattle.ca_law_parts.proofs.Names.PlacedLemmas.{event-placed, opening-placed}
use Rattle.ca_law_parts.specs.Placed.{IsPlacedWorld}
use Rattle.ca_law_world.proofs.Sound.SoundLemmas.{event-sound, opening-sound}
use Rattle.ca_law_world.proofs.Windows.WindowEventLemmas.{event-bound, opening-bound}
use Rattle.ca_law_world.specs.Bindings.{IsBoundWorld}
use Rattle.ca_law_isolation.proofs.BoundedEvents.{event-bounded}
use Rattle.ca_law_isolation.specs.Bounds.{AreBounded}
use Rattle.ca_model.specs.Entries.{EntryValue}
use Rattle.ca_model.specs.Past.{KeySlot, Past, after_entry, after_marks, at_begin, key_slot_eq, key_slot_of, opening_past, region_key_slot}
use Rattle.ca_model.specs.declared.event.Event.{Event}
use Rattle.ca_model.specs.declared.event.Event.TheVariants as events
use Rattle.ca_model.specs.declared.mark.Mark.{Mark}
use Rattle.ca_model.specs.declared.mark.Mark.TheVariants as marks
use Rattle.ca_model.specs.machine.Frame.{Afterwards, SameOutcomeWhere, SameWhere}
use Rattle.ca_model.specs.machine.Plan.{Did, NotReady, Outcome}
use Rattle.ca_model.specs.machine.Run.{Follows, Ran, go_on, run_from, with_marks}
use Rattle.ca_model.specs.machine.Sound.{AreLimited, CanBeMade, IsSoundState, IsSoundWorld}
use Rattle.ca_model.specs.machine.Step.{step}
use Rattle.ca_model.specs.machine.World.{World, Name, Domain_of, Region_of, Window_of, Cq_of, Srq_of, Queue_of, Mailbox_of, Byte_at, get, opening_world}

-- ---- covered places

-- the places of a grant are covered, if it is of the group
abbrev IsCovered : Group → (Place → Bool) → Grant → Type 0
IsCovered group cover g = group g.domain ≡ true → (p : Place) → list_any (λ r. is_in r p) g.runs ≡ true → cover p ≡ true

either-true : (a b : Bool) → b ≡ true → (a || b) ≡ true
either-true true b is = refl
either-true false b is = is

mark-brings : (group : Group) (cover : Place → Bool) (m : Mark) → ((p : Place) → is_granted_by group p m ≡ true → cover p ≡ true) → Grants (IsCovered group cover) m
mark-brings group cover (marks.Granted g) all = λ own p at. all p (and_from (group g.domain) (list_any (λ r. is_in r p) g.runs) own at)
mark-brings group cover (marks.Verb by verb answer) all = record {}
mark-brings group cover (marks.Revoked adapter key) all = record {}
mark-brings group cover (marks.Remote queue domain envelope key kind address count verdict) all = record {}
mark-brings group cover (marks.Local queue domain key kind address count verdict) all = record {}
mark-brings group cover (marks.Stored place bytes) all = record {}
mark-brings group cover (marks.Sent source target index request bytes) all = record {}
mark-brings group cover (marks.Lost target index) all = record {}
mark-brings group cover (marks.Arrived target index) all = record {}
mark-brings group cover (marks.Dropped target cause) all = record {}
mark-brings group cover (marks.Timer queue silent) all = record {}
mark-brings group cover (marks.Done queue x cause) all = record {}

marks-bring : (group : Group) (cover : Place → Bool) (ms : List Mark) → ((p : Place) → list_any (is_granted_by group p) ms ≡ true → cover p ≡ true) → AllByRecursion (Grants (IsCovered group cover)) ms
marks-bring group cover [] all = record {}
marks-bring group cover (m ∷ ms) all = (
  mark-brings group cover m (λ p is. all p (ap (λ b. b || list_any (is_granted_by group p) ms) is)),
  marks-bring group cover ms (λ p is. all p (either-true (is_granted_by group p m) (list_any (is_granted_by group p) ms) is)),
)

-- what a history grants to the group is covered
abbrev Brings : Group → (Place → Bool) → List EntryValue → Type 0
Brings group cover es = AllByRecursion (λ e. AllByRecursion (Grants (IsCovered group cover)) e.marks) es

entries-bring : (group : Group) (cover : Place → Bool) (es : List EntryValue) → ((p : Place) → covered group es p ≡ true → cover p ≡ true) → Brings group cover es
entries-bring group cover [] all = record {}
entries-bring group cover (e ∷ es) all = (
  marks-bring group cover e.marks (λ p is. all p (ap (λ b. b || covered group es p) is)),
  entries-bring group cover es (λ p is. all p (either-true (list_any (is_granted_by group p) e.marks) (covered group es p) is)),
)

-- ---- worlds of a history

-- a world and a past of a history: what the group has been granted is covered, and all that was granted lies in its buffers
record IsFellow (c : Configuration) (group : Group) (cover : Place → Bool) (past : Past) (w : World) : Type 0 where
  up : IsUp c past w
  beside : AreBoundBeside w
  lie : AllByRecursion (LieGranted c) past.grants
  covers : AllByRecursion (IsCovered group cover) past.grants

found-all : (P : Grant → Type 0) (k : KeySlot) (gs : List Grant) → AllByRecursion P gs → IfSome (grant_in_force k gs) P
found-all P k [] all = record {}
found-all P k (g ∷ gs) all = by (key_slot_eq (key_slot_of g) k) (found-all P k gs all.1)
  where
    by : (b : Bool) → IfSome (grant_in_force k gs) P → IfSome (if b then Some g else grant_in_force k gs) P
    by true rest = all.0
    by false rest = rest

own-domain : (c : Configuration) (s : Slot) (low : ℕ) (state : RegionState) → IsSoundState c s low state → IfSome (grant_in_state state) (λ g. g.domain ≡ s.domain)
own-domain c s low NoRegion sound = record {}
own-domain c s low (Free pages) sound = record {}
own-domain c s low (Registered g) sound = sound.domain
own-domain c s low (FastRegistered pages g) sound = sound.domain

-- what valid regions of the group grant is covered
granted-covered : (c : Configuration) (group : Group) (cover : Place → Bool) (past : Past) (w : World) → IsFellow c group cover past w → (p : Place) → IsGrantedTo group w p → cover p ≡ true
granted-covered c group cover past w fellow p one = by (grant_of_region (w.region s)) refl one.granted (own-domain c s (w.region s).low (w.region s).state (up.sound.things (Region_of s)))
  where
    up : IsUp c past w
    up = fellow.up

    s : Slot
    s = one.slot

    k : KeySlot
    k = region_key_slot s

    small : (g : Grant) → grant_of_region (w.region s) ≡ Some g → s.slot < 0x8000
    small g is = at (has_slot c (λ a. a.regions) s) refl
      where
        at : (b : Bool) → has_slot c (λ a. a.regions) s ≡ b → s.slot < 0x8000
        at true has = region-small c s up.limited has
        at false none = absurd (true≢false (sym (ap is_some (sym (ap grant_of_region (up.placed.vacant (Region_of s) none)) ∙ is))))

    in-force : (g : Grant) → grant_of_region (w.region s) ≡ Some g → grant_in_force k past.grants ≡ Some g
    in-force g is = up.agree.keys.same k
        ∙ ap (λ b. if b then grant_over_regions w.region (w.window (slot_at k)) else grant_of_region (w.region (slot_at k))) (region-kind s k (small g is) (key-slot-refl k))
        ∙ ap (λ t. grant_of_region (w.region t)) (slot-at-region s (small g is)) ∙ is

    by : (o : Option Grant) → grant_of_region (w.region s) ≡ o → option_map_or (λ g. list_any (λ r. is_in r p) g.runs) o false ≡ true → IfSome o (λ g. g.domain ≡ s.domain) → cover p ≡ true
    by None is at own = absurd (true≢false (sym at))
    by (Some g) is at own = subst (λ o. IfSome o (IsCovered group cover)) (in-force g is) (found-all (IsCovered group cover) k past.grants fellow.covers)
        (ap group own ∙ one.own) p at

-- ---- runs

-- where the group stays within itself, its events look at its own
looks : (group : Group) (w : World) (event : Event) → StaysWithin group w → is_of group event ≡ true → LooksWithin group w event
looks group w (events.Verb by verb) stays is = record {}
looks group w (events.Request queue lot) stays is = stays.peers queue (of-group group queue is)
looks group w (events.Deliver queue index) stays is = record {}
looks group w (events.Respond queue lot) stays is = stays.peers queue (of-group group queue is)
looks group w (events.Timeout queue hasten) stays is = stays.peers queue (of-group group queue is)
looks group w (events.RnrWake queue) stays is = stays.peers queue (of-group group queue is)

-- entries follow the machine from a world on
abbrev Runs : Configuration → ℕ → World → List EntryValue → Type 0
Runs c n w es = run_from c n w (map (λ e. e.event) es) ≡ Ok (map (λ e. e.marks) es)

-- the lone list follows the machine from a world on that is the same to the group
alone-along : (c : Configuration) (group : Group) (cover : Place → Bool) (n m : ℕ) (es : List EntryValue) (past : Past) (w v : World) → AllByRecursion (λ e. CanBeMade e.event) es → Brings group cover es
    → IsFellow c group cover past w → HoldsAlong (λ past w. StaysWithin group w) c past w es → SameWhere (is_seen_by group cover) w v → Runs c n w es → Runs c m v (alone_from group cover past es)
alone-along c group cover n m [] past w v made brings fellow stays same follows = refl
alone-along c group cover n m (e ∷ es) past w v made brings fellow stays same follows =
    by (step c w e.event) (event-keys-agree c past w e.event up.limited up.sound up.placed up.bound up.agree)
    (event-sound c e.event w up.limited up.sound made.0) (event-placed c e.event w up.limited up.sound up.placed) (event-bound c e.event w up.sound up.bound)
    (event-beside c e.event w up.sound fellow.beside) (event-bounded c e.event w up.sound)
    (λ is. same-alone c w v e.event group cover up.limited up.sound fellow.beside is (looks group w e.event stays.0 is) (granted-covered c group cover past w fellow) same)
    (λ is. others-keep c w e.event group up.limited up.sound fellow.beside stays.0.accepts is)
    stays.1 follows
    (λ k u x next within alike told. alone-along c group cover (suc n) k es (after_entry e past) u x made.1 brings.1 next within alike told)
  where
    up : IsUp c past w
    up = fellow.up

    after : Past
    after = after_marks e.marks (at_begin e.event past)

    Rest : Type 0
    Rest = (k : ℕ) (u x : World) → IsFellow c group cover (after_entry e past) u → HoldsAlong (λ past w. StaysWithin group w) c (after_entry e past) u es → SameWhere (is_seen_by group cover) u x
        → Runs c (suc n) u es → Runs c k x (alone_from group cover (after_entry e past) es)

    stopped : Ran → Bool
    stopped (Ok told) = false
    stopped (Err stop) = true

    stores : List Stretch
    stores = stretches_of_marks cover (at_begin e.event past) e.marks

    instead : Bool → List EntryValue
    instead b = if b then e ∷ [] else map (store_entry e) stores

    kept : World → Type 0
    kept u = (name : Name) → is_thing_of group name ≡ true → get u name ≡ get w name

    by : (o : Outcome) → Comes (λ u ms. KeysAgree (after_marks ms (at_begin e.event past)) u) o → Afterwards (IsSoundWorld c) o → Afterwards (IsPlacedWorld c) o → Afterwards IsBoundWorld o
        → Afterwards AreBoundBeside o → Comes (λ u ms. AreBounded c ms) o
        → (is_of group e.event ≡ true → SameOutcomeWhere (is_seen_by group cover) o (step c v e.event)) → (is_of group e.event ≡ false → Afterwards kept o)
        → Afterwards (λ u. HoldsAlong (λ past w. StaysWithin group w) c (after_entry e past) u es) o
        → go_on n o (λ u. run_from c (suc n) u (map (λ e. e.event) es)) ≡ Ok (e.marks ∷ map (λ e. e.marks) es) → Rest
        → Runs c m v (alone_from group cover past (e ∷ es))
    by (NotReady reason) agrees sound placed bound beside bounded own other within follows rest = absurd (true≢false (ap stopped follows))
    by (Did u ms) agrees sound placed bound beside bounded own other within follows rest = at (first-marks ms e.marks (run_from c (suc n) u (map (λ e. e.event) es)) (map (λ e. e.marks) es) follows)
      where
        at : (ms ≡ e.marks) × Runs c (suc n) u es → Runs c m v (alone_from group cover past (e ∷ es))
        at told = goes (is_of group e.event) refl
          where
            agreed : KeysAgree after u → KeysAgree (after_entry e past) u
            agreed agree = agree

            few : AreBounded c e.marks
            few = subst (AreBounded c) told.0 bounded

            next : IsFellow c group cover (after_entry e past) u
            next = record {
              up = record { limited = up.limited; sound = sound; placed = placed; bound = bound; agree = agreed (subst (λ xs. KeysAgree (after_marks xs (at_begin e.event past)) u) told.0 agrees) };
              beside = beside;
              lie = marks-grants (LieGranted c) e.marks (at_begin e.event past) (all-lie c e.marks few) fellow.lie;
              covers = marks-grants (IsCovered group cover) e.marks (at_begin e.event past) brings.0 fellow.covers;
            }

            mine : (o : Outcome) → SameOutcomeWhere (is_seen_by group cover) (Did u ms) o
                → go_on m o (λ x. run_from c (suc m) x (map (λ e. e.event) (alone_from group cover (after_entry e past) es))) ≡ Ok (e.marks ∷ map (λ e. e.marks) (alone_from group cover (after_entry e past) es))
            mine (NotReady reason) alike = absurd alike
            mine (Did x ns) alike = ap (λ xs. with_marks xs (run_from c (suc m) x (map (λ e. e.event) (alone_from group cover (after_entry e past) es)))) (sym alike.0 ∙ told.0)
                ∙ ap (with_marks e.marks) (rest (suc m) u x next within alike.1 told.1)

            alike : Afterwards kept (Did u ms) → SameWhere (is_seen_by group cover) u (with_stored stores v)
            alike keeps (Byte_at p) covered = ap (λ (k : ByteMap). k p) next.up.agree.bytes
                ∙ sym (marks-stored cover e.marks (at_begin e.event past) v.byte p covered (sym (same (Byte_at p) covered) ∙ ap (λ (k : ByteMap). k p) up.agree.bytes))
            alike keeps (Domain_of d) seen = keeps (Domain_of d) seen ∙ same (Domain_of d) seen
            alike keeps (Region_of s) seen = keeps (Region_of s) seen ∙ same (Region_of s) seen
            alike keeps (Window_of s) seen = keeps (Window_of s) seen ∙ same (Window_of s) seen
            alike keeps (Cq_of s) seen = keeps (Cq_of s) seen ∙ same (Cq_of s) seen
            alike keeps (Srq_of s) seen = keeps (Srq_of s) seen ∙ same (Srq_of s) seen
            alike keeps (Queue_of q) seen = keeps (Queue_of q) seen ∙ same (Queue_of q) seen
            alike keeps (Mailbox_of q) seen = keeps (Mailbox_of q) seen ∙ same (Mailbox_of q) seen

            goes : (b : Bool) → is_of group e.event ≡ b → Runs c m v (instead b ++ alone_from group cover (after_entry e past) es)
            goes true is = mine (step c v e.event) (own is)
            goes false is = stores-run c e stores m v (alone_from group cover (after_entry e past) es) (marks-fit c cover e.marks (at_begin e.event past) fellow.lie few)
                (λ k. rest k u (with_stored stores v) next within (alike (other is)) told.1)

pub alone-goes : (c : Configuration) (bytes : ByteMap) (es : List EntryValue) → AreLimited c → AllByRecursion (λ e. CanBeMade e.event) es → Follows c bytes es → Isolated c bytes es
alone-goes c bytes es limited made follows = λ group closed. alone-along c group (covered group es) 0 0 es (opening_past bytes) (opening_world bytes) (opening_world (alone_bytes group bytes es)) made
    (entries-bring group (covered group es) es (λ p is. is))
    (record {
      up = record { limited = limited; sound = opening-sound c bytes; placed = opening-placed c bytes; bound = opening-bound bytes; agree = opening-keys-agree bytes };
      beside = λ s. record {};
      lie = record {};
      covers = record {};
    })
    (closed-stays c bytes es group limited made follows closed) (same group) follows
  where
    same : (group : Group) → SameWhere (is_seen_by group (covered group es)) (opening_world bytes) (opening_world (alone_bytes group bytes es))
    same group (Byte_at p) at = sym (ap (λ b. if b then bytes p else 0) at)
    same group (Domain_of d) at = refl
    same group (Region_of s) at = refl
    same group (Window_of s) at = refl
    same group (Cq_of s) at = refl
    same group (Srq_of s) at = refl
    same group (Queue_of q) at = refl
    same group (Mailbox_of q) at = refl
