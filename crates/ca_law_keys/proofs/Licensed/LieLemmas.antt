-- Each window's grant in force lies in that of its region, where each grant is what its event asked for and alone in its
-- key slot, and no region with a bound window ends. For proofs only.
use Rattle.std.proofs.Common.{◌≡◌, ℕ, ◌==◌, ◌&&◌, ◌||◌, Bool, true, false, not, if◌then◌else◌, List, [], ◌∷◌, find, filter, Option, None, Some, is_some, refl, sym, ap, ap₂, subst, subst₂, ◌∙◌, true≢false}
use Rattle.std.proofs.lemmas.Bool.{and_parts, eq-eqb, eqb-true}
use Rattle.std.proofs.lemmas.Option.{same_Some}
use Rattle.std.specs.Cmp.Lexicographic.{pointwise}
use Rattle.std.specs.List.{AllByRecursion, list_all, list_any}
use Rattle.std.specs.Option.{option_eq, option_map_or}
use Rattle.ca_law_keys.proofs.Keys.SlotLemmas.{key-slot-refl}
use Rattle.ca_law_keys.specs.InForce.{grant_in_force}
use Rattle.ca_law_keys.proofs.Posts.GrantLemmas.{both-true, runs-refl, slots-alike}
use Rattle.ca_base.specs.Grants.{grant_of_bind}
use Rattle.ca_base.specs.declared.change.Change as state_change
use Rattle.ca_base.specs.declared.change.Change.TheVariants as changes
use Rattle.ca_base.specs.declared.request.SendOp.{SendOp}
use Rattle.ca_base.specs.declared.request.SendOp.TheVariants as ops
use Rattle.ca_grant.specs.KeySlot.{HaveSlotsApart, is_at_slot_of}
use Rattle.ca_keys.specs.Equal.{bool_eq, domain_eq, grant_eq, key_eq, queue_eq, rights_eq, run_eq}
use Rattle.ca_keys.specs.Memory.{runs_at}
use Rattle.ca_keys.specs.declared.grant.Grant.{Grant}
use Rattle.ca_keys.specs.declared.key.Key.{Key}
use Rattle.ca_keys.specs.declared.names.DomainId.{DomainId}
use Rattle.ca_keys.specs.declared.names.QueueId.{QueueId}
use Rattle.ca_keys.specs.declared.names.Slot.{Slot}
use Rattle.ca_keys.specs.declared.place.Run.{Run}
use Rattle.ca_keys.specs.declared.rights.Rights.{Rights}
use Rattle.ca_law_world.proofs.Sound.SettledLemmas.{queue-path}
use Rattle.ca_model.proofs.ThingLemmas.{domain-path}
use Rattle.ca_law_keys.proofs.Licensed.BoundLemmas.{each-found, slots-turned}
use Rattle.ca_base.specs.Configuration.{Configuration}
use Rattle.ca_keys.specs.Memory.{ByteMap}
use Rattle.ca_keys.specs.Numbers.{queue_of}
use Rattle.ca_law_keys.proofs.Licensed.AloneLemmas.{alone-along}
use Rattle.ca_law_keys.proofs.Licensed.EndingLemmas.{fit-along, is_fit, is_well_ended, key-slots}
use Rattle.ca_model.specs.Licensed.{ends_at_hand}
use Rattle.ca_model.specs.Past.{after_change, opening_past}
use Rattle.ca_model.specs.machine.Run.{Follows}
use Rattle.ca_model.specs.machine.Sound.{AreLimited, CanBeMade}
use Rattle.ca_law_keys.specs.Alone.{is_granted_alone}
use Rattle.ca_law_keys.specs.Ends.{is_unbound}
use Rattle.ca_law_keys.specs.Lie.{DoWindowsLie, leaves_windows_lying}
use Rattle.ca_model.specs.Entries.{EntryValue}
use Rattle.ca_model.specs.Licensed.{grant_with, has_bound_window, is_alone, is_grant_at_hand, is_grant_of_bind, is_grant_of_operation, is_grant_of_verb, lies_in, may_hold, region_with, windows_lie_in_regions}
use Rattle.ca_model.specs.Past.{Answered, BindTo, FastRegistration, KeySlot, Past, Posted, Registration, Way, after_entry, after_mark, after_marks, after_verb, at_begin, each_entry, each_mark, key_slot_eq, key_slot_of, operation_at_hand, way_at_hand, with_at}
use Rattle.ca_model.specs.declared.answer.Answer.{Answer}
use Rattle.ca_model.specs.declared.answer.Answer.TheVariants as answers
use Rattle.ca_model.specs.declared.event.Event.{Event}
use Rattle.ca_model.specs.declared.event.Event.TheVariants as events
use Rattle.ca_model.specs.declared.mark.Mark.{Mark}
use Rattle.ca_model.specs.declared.mark.Mark.TheVariants as marks
use Rattle.ca_model.specs.declared.verb.Verb.{Verb}
use Rattle.ca_model.specs.declared.verb.Verb.TheVariants as verbs

-- ---- equal grants are one

bool-path : (a b : Bool) → bool_eq a b ≡ true → a ≡ b
bool-path true true e = refl
bool-path true false e = sym e
bool-path false true e = e
bool-path false false e = refl

rights-path : (a b : Rights) → rights_eq a b ≡ true → a ≡ b
rights-path a b same = λ i. record {
  local_write = bool-path a.local_write b.local_write d.0 i;
  remote_read = bool-path a.remote_read b.remote_read d.1 i;
  remote_write = bool-path a.remote_write b.remote_write c.1 i;
  remote_atomic = bool-path a.remote_atomic b.remote_atomic e.1 i;
  window_bind = bool-path a.window_bind b.window_bind f.1 i;
}
  where
    f : ((bool_eq a.local_write b.local_write && bool_eq a.remote_read b.remote_read && bool_eq a.remote_write b.remote_write && bool_eq a.remote_atomic b.remote_atomic) ≡ true) × (bool_eq a.window_bind b.window_bind ≡ true)
    f = and_parts (bool_eq a.local_write b.local_write && bool_eq a.remote_read b.remote_read && bool_eq a.remote_write b.remote_write && bool_eq a.remote_atomic b.remote_atomic) (bool_eq a.window_bind b.window_bind) same

    e : ((bool_eq a.local_write b.local_write && bool_eq a.remote_read b.remote_read && bool_eq a.remote_write b.remote_write) ≡ true) × (bool_eq a.remote_atomic b.remote_atomic ≡ true)
    e = and_parts (bool_eq a.local_write b.local_write && bool_eq a.remote_read b.remote_read && bool_eq a.remote_write b.remote_write) (bool_eq a.remote_atomic b.remote_atomic) f.0

    c : ((bool_eq a.local_write b.local_write && bool_eq a.remote_read b.remote_read) ≡ true) × (bool_eq a.remote_write b.remote_write ≡ true)
    c = and_parts (bool_eq a.local_write b.local_write && bool_eq a.remote_read b.remote_read) (bool_eq a.remote_write b.remote_write) e.0

    d : (bool_eq a.local_write b.local_write ≡ true) × (bool_eq a.remote_read b.remote_read ≡ true)
    d = and_parts (bool_eq a.local_write b.local_write) (bool_eq a.remote_read b.remote_read) c.0

run-path : (a b : Run) → run_eq a b ≡ true → a ≡ b
run-path a b same = λ i. record { adapter = eqb-true a.adapter b.adapter d.0 i; buffer = eqb-true a.buffer b.buffer d.1 i; offset = eqb-true a.offset b.offset c.1 i; length = eqb-true a.length b.length e.1 i }
  where
    e : (((a.adapter == b.adapter) && (a.buffer == b.buffer) && (a.offset == b.offset)) ≡ true) × ((a.length == b.length) ≡ true)
    e = and_parts ((a.adapter == b.adapter) && (a.buffer == b.buffer) && (a.offset == b.offset)) (a.length == b.length) same

    c : (((a.adapter == b.adapter) && (a.buffer == b.buffer)) ≡ true) × ((a.offset == b.offset) ≡ true)
    c = and_parts ((a.adapter == b.adapter) && (a.buffer == b.buffer)) (a.offset == b.offset) e.0

    d : ((a.adapter == b.adapter) ≡ true) × ((a.buffer == b.buffer) ≡ true)
    d = and_parts (a.adapter == b.adapter) (a.buffer == b.buffer) c.0

runs-path : (xs bs : List Run) → pointwise run_eq xs bs ≡ true → xs ≡ bs
runs-path [] [] e = refl
runs-path [] (b ∷ bs) e = absurd (true≢false (sym e))
runs-path (a ∷ xs) [] e = absurd (true≢false (sym e))
runs-path (a ∷ xs) (b ∷ bs) e = ap₂ (λ x ys. x ∷ ys) (run-path a b (and_parts (run_eq a b) (pointwise run_eq xs bs) e).0) (runs-path xs bs (and_parts (run_eq a b) (pointwise run_eq xs bs) e).1)

queues-path : (a b : Option QueueId) → option_eq queue_eq a b ≡ true → a ≡ b
queues-path None None e = refl
queues-path None (Some b) e = absurd (true≢false (sym e))
queues-path (Some a) None e = absurd (true≢false (sym e))
queues-path (Some a) (Some b) e = ap Some (queue-path a b e)

grant-path : (a b : Grant) → grant_eq a b ≡ true → a ≡ b
grant-path a b same = λ i. record {
  key = record { 0 = eqb-true a.key.0 b.key.0 p2.0 i };
  domain = domain-path a.domain b.domain p2.1 i;
  queue = queues-path a.queue b.queue p3.1 i;
  local = bool-path a.local b.local p4.1 i;
  address = eqb-true a.address b.address p5.1 i;
  length = eqb-true a.length b.length p6.1 i;
  rights = rights-path a.rights b.rights p7.1 i;
  runs = runs-path a.runs b.runs p8.1 i;
}
  where
    t2 : Bool
    t2 = key_eq a.key b.key && domain_eq a.domain b.domain

    t3 : Bool
    t3 = t2 && option_eq queue_eq a.queue b.queue

    t4 : Bool
    t4 = t3 && bool_eq a.local b.local

    t5 : Bool
    t5 = t4 && (a.address == b.address)

    t6 : Bool
    t6 = t5 && (a.length == b.length)

    t7 : Bool
    t7 = t6 && rights_eq a.rights b.rights

    p8 : (t7 ≡ true) × (pointwise run_eq a.runs b.runs ≡ true)
    p8 = and_parts t7 (pointwise run_eq a.runs b.runs) same

    p7 : (t6 ≡ true) × (rights_eq a.rights b.rights ≡ true)
    p7 = and_parts t6 (rights_eq a.rights b.rights) p8.0

    p6 : (t5 ≡ true) × ((a.length == b.length) ≡ true)
    p6 = and_parts t5 (a.length == b.length) p7.0

    p5 : (t4 ≡ true) × ((a.address == b.address) ≡ true)
    p5 = and_parts t4 (a.address == b.address) p6.0

    p4 : (t3 ≡ true) × (bool_eq a.local b.local ≡ true)
    p4 = and_parts t3 (bool_eq a.local b.local) p5.0

    p3 : (t2 ≡ true) × (option_eq queue_eq a.queue b.queue ≡ true)
    p3 = and_parts t2 (option_eq queue_eq a.queue b.queue) p4.0

    p2 : (key_eq a.key b.key ≡ true) × (domain_eq a.domain b.domain ≡ true)
    p2 = and_parts (key_eq a.key b.key) (domain_eq a.domain b.domain) p3.0

-- ---- lists

find-passes : (test : Grant → Bool) (gs : List Grant) (r : Grant) → find test gs ≡ Some r → test r ≡ true
find-passes test [] r is = absurd (true≢false (sym (ap is_some is)))
find-passes test (g ∷ gs) r is = by (test g) refl is (find-passes test gs r)
  where
    by : (b : Bool) → test g ≡ b → (if b then Some g else find test gs) ≡ Some r → (find test gs ≡ Some r → test r ≡ true) → test r ≡ true
    by true e is rest = ap test (sym (same_Some g r is)) ∙ e
    by false e is rest = rest is

find-of : (P : Grant → Type 0) (test : Grant → Bool) (gs : List Grant) (r : Grant) → find test gs ≡ Some r → AllByRecursion P gs → P r
find-of P test [] r is all = absurd (true≢false (sym (ap is_some is)))
find-of P test (g ∷ gs) r is all = by (test g) is (λ e. find-of P test gs r e all.1)
  where
    by : (b : Bool) → (if b then Some g else find test gs) ≡ Some r → (find test gs ≡ Some r → P r) → P r
    by true is rest = subst P (same_Some g r is) all.0
    by false is rest = rest is

-- what is found and kept is found among what is kept
find-kept : (test keep : Grant → Bool) (gs : List Grant) (r : Grant) → find test gs ≡ Some r → keep r ≡ true → find test (filter keep gs) ≡ Some r
find-kept test keep [] r is kept = is
find-kept test keep (g ∷ gs) r is kept = by (test g) refl (keep g) refl is (λ e. find-kept test keep gs r e kept)
  where
    by : (b : Bool) → test g ≡ b → (z : Bool) → keep g ≡ z → (if b then Some g else find test gs) ≡ Some r → (find test gs ≡ Some r → find test (filter keep gs) ≡ Some r)
        → find test (if z then g ∷ filter keep gs else filter keep gs) ≡ Some r
    by true e true f is rest = ap (λ b. if b then Some g else find test (filter keep gs)) e ∙ is
    by true e false f is rest = absurd (true≢false (sym (ap keep (same_Some g r is) ∙ kept) ∙ f))
    by false e true f is rest = ap (λ b. if b then Some g else find test (filter keep gs)) e ∙ rest is
    by false e false f is rest = rest is

none-all : (test : Grant → Bool) (gs : List Grant) → list_any test gs ≡ false → AllByRecursion (λ g. test g ≡ false) gs
none-all test [] none = record {}
none-all test (g ∷ gs) none = by (test g) refl none (none-all test gs)
  where
    by : (b : Bool) → test g ≡ b → (b || list_any test gs) ≡ false → (list_any test gs ≡ false → AllByRecursion (λ g. test g ≡ false) gs) → (test g ≡ false) × AllByRecursion (λ g. test g ≡ false) gs
    by true e none rest = absurd (true≢false none)
    by false e none rest = (e, rest none)

all-filter : (P : Grant → Type 0) (keep : Grant → Bool) (gs : List Grant) → AllByRecursion P gs → AllByRecursion P (filter keep gs)
all-filter P keep [] all = record {}
all-filter P keep (g ∷ gs) all = by (keep g) (all-filter P keep gs all.1)
  where
    by : (b : Bool) → AllByRecursion P (filter keep gs) → AllByRecursion P (if b then g ∷ filter keep gs else filter keep gs)
    by true rest = (all.0, rest)
    by false rest = rest

apart-filter : (keep : Grant → Bool) (gs : List Grant) → HaveSlotsApart gs → HaveSlotsApart (filter keep gs)
apart-filter keep [] apart = record {}
apart-filter keep (g ∷ gs) apart = by (keep g) (apart-filter keep gs apart.1)
  where
    by : (b : Bool) → HaveSlotsApart (filter keep gs) → HaveSlotsApart (if b then g ∷ filter keep gs else filter keep gs)
    by true rest = (all-filter (λ h. is_at_slot_of g.domain g.key h ≡ false) keep gs apart.0, rest)
    by false rest = rest

-- a grant of a list: a test that no grant of it passes fails of this one
abbrev IsIn : Grant → List Grant → Type 0
IsIn h gs = (test : Grant → Bool) → list_any test gs ≡ false → test h ≡ false

any-false : (a b : Bool) → (a || b) ≡ false → (a ≡ false) × (b ≡ false)
any-false true b e = absurd (true≢false e)
any-false false b e = (refl, e)

each-in : (hs gs : List Grant) → ((test : Grant → Bool) → list_any test gs ≡ false → list_any test hs ≡ false) → AllByRecursion (λ h. IsIn h gs) hs
each-in [] gs more = record {}
each-in (h ∷ hs) gs more = ((λ test none. (any-false (test h) (list_any test hs) (more test none)).0), each-in hs gs (λ test none. (any-false (test h) (list_any test hs) (more test none)).1))

-- ---- windows that lie

abbrev lies_by : List Grant → Grant → Way → Bool
lies_by gs w (BindTo region) = option_map_or (lies_in w) (find (λ g. g.local && key_eq g.key region && domain_eq g.domain w.domain) gs) false
lies_by gs w way = false

abbrev lies : List Grant → (KeySlot → Way) → Grant → Bool
lies gs ways w = w.local || lies_by gs w (ways (key_slot_of w))

-- each window lies, and the key slots are apart
record IsLaid (p : Past) : Type 0 where
  lie : windows_lie_in_regions p ≡ true
  apart : HaveSlotsApart p.grants

all-true : (test : Grant → Bool) (gs : List Grant) → list_all test gs ≡ true → AllByRecursion (λ g. test g ≡ true) gs
all-true test [] all = record {}
all-true test (g ∷ gs) all = ((and_parts (test g) (list_all test gs) all).0, all-true test gs (and_parts (test g) (list_all test gs) all).1)

true-all : (test : Grant → Bool) (gs : List Grant) → AllByRecursion (λ g. test g ≡ true) gs → list_all test gs ≡ true
true-all test [] all = refl
true-all test (g ∷ gs) all = both-true _ _ all.0 (true-all test gs all.1)

-- a region that is found is found in another list
lies-kept : (gs hs : List Grant) (w : Grant) (way : Way) → ((key : Key) → way ≡ BindTo key → (r : Grant) → find (λ g. g.local && key_eq g.key key && domain_eq g.domain w.domain) gs ≡ Some r
    → find (λ g. g.local && key_eq g.key key && domain_eq g.domain w.domain) hs ≡ Some r) → lies_by gs w way ≡ true → lies_by hs w way ≡ true
lies-kept gs hs w Registration more lies = lies
lies-kept gs hs w FastRegistration more lies = lies
lies-kept gs hs w (BindTo key) more lies = by (find (λ g. g.local && key_eq g.key key && domain_eq g.domain w.domain) gs) refl lies
  where
    by : (o : Option Grant) → find (λ g. g.local && key_eq g.key key && domain_eq g.domain w.domain) gs ≡ o → option_map_or (lies_in w) o false ≡ true
        → option_map_or (lies_in w) (find (λ g. g.local && key_eq g.key key && domain_eq g.domain w.domain) hs) false ≡ true
    by None e lies = absurd (true≢false (sym lies))
    by (Some r) e lies = ap (λ o. option_map_or (lies_in w) o false) (more key refl r e) ∙ lies

unless-local : (b z y : Bool) → (b || z) ≡ true → (b ≡ false → z ≡ true → y ≡ true) → (b || y) ≡ true
unless-local true z y one more = refl
unless-local false z y one more = more refl one

-- the window that a bind grants lies in the region that it named
bind-lies : (p : Past) (g : Grant) (slot : Slot) (low : ℕ) (queue : Option QueueId) (key : Key) (address count : ℕ) (rights : Rights) → is_grant_of_bind p g slot low queue key address count rights ≡ true → lies_by p.grants g (BindTo key) ≡ true
bind-lies p g slot low queue key address count rights asked = by (region_with p slot.domain key) refl (and_parts (not (count == 0)) _ asked).1
  where
    by : (o : Option Grant) → region_with p slot.domain key ≡ o → option_map_or (λ r. may_hold r address count rights && grant_eq g (grant_of_bind slot low queue r address count rights)) o false ≡ true → lies_by p.grants g (BindTo key) ≡ true
    by None e asked = absurd (true≢false (sym asked))
    by (Some r) e asked = subst (λ h. lies_by p.grants h (BindTo key) ≡ true) (sym (grant-path g made parts.1))
        (ap (λ o. option_map_or (lies_in made) o false) e ∙ both-true _ _ (both-true _ _ (both-true _ _ (and_parts r.local (key_eq r.key key) passes.0).0 passes.1) parts.0) (runs-refl (runs_at r address count)))
      where
        made : Grant
        made = grant_of_bind slot low queue r address count rights

        parts : (may_hold r address count rights ≡ true) × (grant_eq g made ≡ true)
        parts = and_parts (may_hold r address count rights) (grant_eq g made) asked

        passes : ((r.local && key_eq r.key key) ≡ true) × (domain_eq r.domain slot.domain ≡ true)
        passes = and_parts (r.local && key_eq r.key key) (domain_eq r.domain slot.domain) (find-passes (λ g. g.local && key_eq g.key key && domain_eq g.domain slot.domain) p.grants r e)

either-one : (a b : Bool) → a ≡ true → (a || b) ≡ true
either-one true b e = refl
either-one false b e = absurd (true≢false (sym e))

either-other : (a b : Bool) → b ≡ true → (a || b) ≡ true
either-other true b e = refl
either-other false b e = e

abbrev way_of : SendOp → Way
way_of (ops.Bind1 window region address length rights) = BindTo region
way_of (ops.Bind2 window region low address length rights) = BindTo region
way_of op = FastRegistration

abbrev way_by : Option Posted → Way
way_by None = Registration
way_by (Some p) = way_of p.request.op

-- what is granted as it was asked is a region's, or lies in its region
granted-lies : (p : Past) (g : Grant) → is_grant_at_hand p g ≡ true → (g.local || lies_by p.grants g (way_at_hand p)) ≡ true
granted-lies p g asked = by p.at_hand.event asked
  where
    verb-local : (verb : Verb) (answer : Answer) → is_grant_of_verb p g (record { verb = verb; answer = answer }) ≡ true → g.local ≡ true
    verb-local (verbs.RegMr slot buffer offset count rights) (answers.Key key) asked = ap (λ (h : Grant). h.local) (grant-path g _ (and_parts (grant_eq g _) (key_eq key g.key) asked).0)
    verb-local verb answer asked = absurd (true≢false (sym asked))

    answered : (o : Option Answered) → option_map_or (is_grant_of_verb p g) o false ≡ true → g.local ≡ true
    answered None asked = absurd (true≢false (sym asked))
    answered (Some a) asked = verb-local a.verb a.answer asked

    drawn : (slot : Slot) (key : Key) (address count : ℕ) (rights : Rights) (o : Option ℕ) → option_map_or (λ low. is_grant_of_bind p g slot low None key address count rights) o false ≡ true → lies_by p.grants g (BindTo key) ≡ true
    drawn slot key address count rights None asked = absurd (true≢false (sym asked))
    drawn slot key address count rights (Some low) asked = bind-lies p g slot low None key address count rights asked

    operation : (queue : QueueId) (x : Posted) (op : SendOp) → is_grant_of_operation p g queue (record { place = x.place; request = record x.request { op = op }; drawn = x.drawn }) ≡ true → (g.local || lies_by p.grants g (way_of op)) ≡ true
    operation queue x (ops.FastReg region low buffer address count rights pages) asked = either-one g.local _ (ap (λ (h : Grant). h.local) (grant-path g _ asked))
    operation queue x (ops.Bind1 window region address count rights) asked = either-other g.local _ (drawn _ region address count rights x.drawn asked)
    operation queue x (ops.Bind2 window region low address count rights) asked = either-other g.local _ (bind-lies p g _ low (Some queue) region address count rights asked)
    operation queue x op asked = absurd (true≢false (sym asked))

    performed : (queue : QueueId) (o : Option Posted) → option_map_or (is_grant_of_operation p g queue) o false ≡ true → (g.local || lies_by p.grants g (way_by o)) ≡ true
    performed queue None asked = absurd (true≢false (sym asked))
    performed queue (Some x) asked = operation queue x x.request.op asked

    at : Event → Bool
    at (events.Verb by' verb) = option_map_or (is_grant_of_verb p g) p.at_hand.answered false
    at (events.Request queue lot) = option_map_or (is_grant_of_operation p g queue) (operation_at_hand p) false
    at event = false

    by : (event : Event) → at event ≡ true → (g.local || lies_by p.grants g (way_at_hand p)) ≡ true
    by (events.Verb by' verb) asked = either-one g.local _ (answered p.at_hand.answered asked)
    by (events.Request queue lot) asked = performed queue (operation_at_hand p) asked
    by event asked = absurd (true≢false (sym asked))

laid-granted : (p : Past) (g : Grant) → IsLaid p → is_grant_at_hand p g ≡ true → is_alone p g ≡ true → IsLaid (after_mark (marks.Granted g) p)
laid-granted p g laid asked alone = record { lie = both-true _ _ fresh (true-all (lies (g ∷ p.grants) ways) p.grants (more p.grants others (all-true (lies p.grants p.way) p.grants laid.lie))); apart = (others, laid.apart) }
  where
    ways : KeySlot → Way
    ways = with_at key_slot_eq p.way (key_slot_of g) (way_at_hand p)

    others : AllByRecursion (λ h. key_slot_eq (key_slot_of h) (key_slot_of g) ≡ false) p.grants
    others = none-all (λ h. key_slot_eq (key_slot_of h) (key_slot_of g)) p.grants (by (list_any (λ h. key_slot_eq (key_slot_of h) (key_slot_of g)) p.grants) alone)
      where
        by : (b : Bool) → not b ≡ true → b ≡ false
        by true e = sym e
        by false e = refl

    -- a region that is found is found behind another grant
    found : (key : Key) (d : DomainId) (r : Grant) → find (λ g. g.local && key_eq g.key key && domain_eq g.domain d) p.grants ≡ Some r → find (λ g. g.local && key_eq g.key key && domain_eq g.domain d) (g ∷ p.grants) ≡ Some r
    found key d r is = by (g.local && key_eq g.key key && domain_eq g.domain d) refl
      where
        by : (b : Bool) → (g.local && key_eq g.key key && domain_eq g.domain d) ≡ b → (if b then Some g else find (λ g. g.local && key_eq g.key key && domain_eq g.domain d) p.grants) ≡ Some r
        by true e = absurd (true≢false (sym (slots-alike r g key d (find-passes (λ g. g.local && key_eq g.key key && domain_eq g.domain d) p.grants r is) e)
            ∙ find-of (λ h. key_slot_eq (key_slot_of h) (key_slot_of g) ≡ false) (λ g. g.local && key_eq g.key key && domain_eq g.domain d) p.grants r is others))
        by false e = is

    fresh : lies (g ∷ p.grants) ways g ≡ true
    fresh = unless-local g.local (lies_by p.grants g (way_at_hand p)) _ (granted-lies p g asked)
        (λ foreign there. ap (λ b. lies_by (g ∷ p.grants) g (if b then way_at_hand p else p.way (key_slot_of g))) (key-slot-refl (key_slot_of g))
        ∙ lies-kept p.grants (g ∷ p.grants) g (way_at_hand p) (λ key is r e. found key g.domain r e) there)

    more : (hs : List Grant) → AllByRecursion (λ h. key_slot_eq (key_slot_of h) (key_slot_of g) ≡ false) hs → AllByRecursion (λ h. lies p.grants p.way h ≡ true) hs → AllByRecursion (λ h. lies (g ∷ p.grants) ways h ≡ true) hs
    more [] other all = record {}
    more (h ∷ hs) other all = (
      unless-local h.local (lies_by p.grants h (p.way (key_slot_of h))) _ all.0 (λ foreign there.
          ap (λ b. lies_by (g ∷ p.grants) h (if b then way_at_hand p else p.way (key_slot_of h))) (slots-turned (key_slot_of h) (key_slot_of g) other.0)
          ∙ lies-kept p.grants (g ∷ p.grants) h (p.way (key_slot_of h)) (λ key is r e. found key h.domain r e) there),
      more hs other.1 all.1,
    )

laid-revoked : (p : Past) (adapter : ℕ) (key : Key) → IsLaid p → option_map_or (is_unbound p) (grant_with p adapter key) false ≡ true → IsLaid (after_mark (marks.Revoked adapter key) p)
laid-revoked p adapter key laid ends = record {
  lie = true-all (lies gs p.way) gs (all-filter (λ h. lies gs p.way h ≡ true) keep p.grants (more p.grants (each-in p.grants p.grants (λ test none. none)) (all-true (lies p.grants p.way) p.grants laid.lie)));
  apart = apart-filter keep p.grants laid.apart;
}
  where
    named : Grant → Bool
    named g = (g.domain.adapter == adapter) && key_eq g.key key

    keep : Grant → Bool
    keep g = not ((g.domain.adapter == adapter) && key_eq g.key key)

    gs : List Grant
    gs = filter keep p.grants

    is_bound_to : Key → Way → Bool
    is_bound_to k (BindTo key) = key_eq key k
    is_bound_to k way = false

    -- the region of a window in force does not end
    kept : (h : Grant) → IsIn h p.grants → h.local ≡ false → (k : Key) → p.way (key_slot_of h) ≡ BindTo k → (r : Grant) → find (λ g. g.local && key_eq g.key k && domain_eq g.domain h.domain) p.grants ≡ Some r → keep r ≡ true
    kept h member foreign k bound r is = by (named r) refl
      where
        passes : ((r.local && key_eq r.key k) ≡ true) × (domain_eq r.domain h.domain ≡ true)
        passes = and_parts (r.local && key_eq r.key k) (domain_eq r.domain h.domain) (find-passes (λ g. g.local && key_eq g.key k && domain_eq g.domain h.domain) p.grants r is)

        numbers : r.key.0 ≡ k.0
        numbers = eqb-true r.key.0 k.0 (and_parts r.local (key_eq r.key k) passes.0).1

        domains : r.domain ≡ h.domain
        domains = domain-path r.domain h.domain passes.1

        -- the key that ends is the region's, and the window is bound to it
        found : (g : Grant) → grant_with p adapter key ≡ Some g → named r ≡ true → g ≡ r
        found g e same = same_Some g r (sym (find-of (λ x. grant_in_force (key_slot_of x) p.grants ≡ Some x) named p.grants g e (each-found p.grants laid.apart))
            ∙ ap (λ l. grant_in_force l p.grants) (key-slots adapter key g (find-passes named p.grants g e) ∙ sym (key-slots adapter key r same))
            ∙ find-of (λ x. grant_in_force (key_slot_of x) p.grants ≡ Some x) (λ g. g.local && key_eq g.key k && domain_eq g.domain h.domain) p.grants r is (each-found p.grants laid.apart))

        free : is_unbound p r ≡ true → has_bound_window p r ≡ false
        free unbound = by (has_bound_window p r) (sym (ap (λ b. not (b && has_bound_window p r)) (and_parts r.local (key_eq r.key k) passes.0).0) ∙ unbound)
          where
            by : (b : Bool) → not b ≡ true → b ≡ false
            by true e = sym e
            by false e = refl

        bound-here : (not h.local && (h.domain.adapter == r.domain.adapter) && is_bound_to r.key (p.way (key_slot_of h))) ≡ true
        bound-here = both-true _ _ (both-true _ _ (ap not foreign) (eq-eqb h.domain.adapter r.domain.adapter (ap (λ (d : DomainId). d.adapter) (sym domains)))) (ap (is_bound_to r.key) bound ∙ eq-eqb k.0 r.key.0 (sym numbers))

        none : (o : Option Grant) → grant_with p adapter key ≡ o → option_map_or (is_unbound p) o false ≡ true → named r ≡ true → true ≡ false
        none None e unbound same = sym unbound
        none (Some g) e unbound same = sym bound-here ∙ member (λ w. not w.local && (w.domain.adapter == r.domain.adapter) && is_bound_to r.key (p.way (key_slot_of w))) (free (subst (λ x. is_unbound p x ≡ true) (found g e same) unbound))

        by : (b : Bool) → named r ≡ b → not b ≡ true
        by true e = absurd (true≢false (none (grant_with p adapter key) refl ends e))
        by false e = refl

    more : (hs : List Grant) → AllByRecursion (λ h. IsIn h p.grants) hs → AllByRecursion (λ h. lies p.grants p.way h ≡ true) hs → AllByRecursion (λ h. lies gs p.way h ≡ true) hs
    more [] ins all = record {}
    more (h ∷ hs) ins all = (
      unless-local h.local (lies_by p.grants h (p.way (key_slot_of h))) _ all.0 (λ foreign there.
          lies-kept p.grants gs h (p.way (key_slot_of h)) (λ k bound r is. find-kept (λ g. g.local && key_eq g.key k && domain_eq g.domain h.domain) keep p.grants r is (kept h ins.0 foreign k bound r is)) there),
      more hs ins.1 all.1,
    )

-- ---- marks

change-kept : (name : QueueId) (change : state_change.Change) (p : Past) → ((after_change name change p).grants ≡ p.grants) × ((after_change name change p).way ≡ p.way)
change-kept name changes.Error p = (refl, refl)
change-kept name changes.Reset p = (refl, refl)
change-kept name (changes.Rtr peer incarnation psn mtu rnr_code) p = (refl, refl)
change-kept name changes.Init p = (refl, refl)
change-kept name (changes.Rts psn retry rnr_retry reads) p = (refl, refl)
change-kept name changes.Sqd p = (refl, refl)
change-kept name changes.Resume p = (refl, refl)

verb-kept : (verb : Verb) (answer : Answer) (p : Past) → ((after_verb verb answer p).grants ≡ p.grants) × ((after_verb verb answer p).way ≡ p.way)
verb-kept (verbs.CreateCq slot capacity) answers.Fine p = (refl, refl)
verb-kept (verbs.CreateCq slot capacity) answer p = (refl, refl)
verb-kept (verbs.CreateSrq slot depth) answers.Fine p = (refl, refl)
verb-kept (verbs.CreateSrq slot depth) answer p = (refl, refl)
verb-kept (verbs.CreateQp slot send_cq recv_cq send_depth recv_depth srq) (answers.Queue number incarnation) p = (refl, refl)
verb-kept (verbs.CreateQp slot send_cq recv_cq send_depth recv_depth srq) answer p = (refl, refl)
verb-kept (verbs.ModifyQp slot change) answers.Fine p = change-kept (queue_of slot) change p
verb-kept (verbs.ModifyQp slot change) answer p = (refl, refl)
verb-kept (verbs.DestroyQp slot) answers.Fine p = (refl, refl)
verb-kept (verbs.DestroyQp slot) answer p = (refl, refl)
verb-kept (verbs.PostSend slot request) (answers.Posted key) p = (refl, refl)
verb-kept (verbs.PostSend slot request) answer p = (refl, refl)
verb-kept (verbs.PostRecv slot request) (answers.Posted key) p = (refl, refl)
verb-kept (verbs.PostRecv slot request) answer p = (refl, refl)
verb-kept (verbs.PostSrq slot request) (answers.Posted key) p = (refl, refl)
verb-kept (verbs.PostSrq slot request) answer p = (refl, refl)
verb-kept (verbs.Poll slot n least) (answers.Polled completions) p = (refl, refl)
verb-kept (verbs.Poll slot n least) answer p = (refl, refl)
verb-kept (verbs.Inject queue bytes) answers.Fine p = (refl, refl)
verb-kept (verbs.Inject queue bytes) answer p = (refl, refl)
verb-kept verb answer p = (refl, refl)

laid-same : (p r : Past) → r.grants ≡ p.grants → r.way ≡ p.way → IsLaid p → IsLaid r
laid-same p r grants ways laid = record {
  lie = subst₂ (λ gs ks. windows_lie_in_regions (record p { grants = gs; way = ks }) ≡ true) (sym grants) (sym ways) laid.lie;
  apart = subst HaveSlotsApart (sym grants) laid.apart;
}

laid-one : (m : Mark) (p : Past) → IsLaid p → is_fit p m ≡ true → is_granted_alone p m ≡ true → IsLaid (after_mark m p) × (leaves_windows_lying p m ≡ true)
laid-one (marks.Granted g) p laid fit alone = (laid-granted p g laid fit alone, (laid-granted p g laid fit alone).lie)
laid-one (marks.Revoked adapter key) p laid fit alone = by (laid-revoked p adapter key laid (each (grant_with p adapter key) fit))
  where
    each : (o : Option Grant) → option_map_or (is_well_ended p) o false ≡ true → option_map_or (is_unbound p) o false ≡ true
    each None fit = fit
    each (Some g) fit = (and_parts (is_unbound p g) (ends_at_hand p g) fit).0

    by : IsLaid (after_mark (marks.Revoked adapter key) p) → IsLaid (after_mark (marks.Revoked adapter key) p) × (leaves_windows_lying p (marks.Revoked adapter key) ≡ true)
    by next = (next, next.lie)
laid-one (marks.Verb consumer verb answer) p laid fit alone = (laid-same p _ (verb-kept verb answer _).0 (verb-kept verb answer _).1 laid, refl)
laid-one (marks.Sent source target index request bytes) p laid fit alone = (record { lie = laid.lie; apart = laid.apart }, refl)
laid-one (marks.Lost target None) p laid fit alone = (record { lie = laid.lie; apart = laid.apart }, refl)
laid-one (marks.Lost target (Some index)) p laid fit alone = (record { lie = laid.lie; apart = laid.apart }, refl)
laid-one (marks.Arrived target index) p laid fit alone = (record { lie = laid.lie; apart = laid.apart }, refl)
laid-one (marks.Timer queue silent) p laid fit alone = (record { lie = laid.lie; apart = laid.apart }, refl)
laid-one (marks.Done queue x cause) p laid fit alone = (record { lie = laid.lie; apart = laid.apart }, refl)
laid-one (marks.Stored place bytes) p laid fit alone = (record { lie = laid.lie; apart = laid.apart }, refl)
laid-one (marks.Remote queue domain envelope k kind address count verdict) p laid fit alone = (record { lie = laid.lie; apart = laid.apart }, refl)
laid-one (marks.Local queue domain k kind address count verdict) p laid fit alone = (record { lie = laid.lie; apart = laid.apart }, refl)
laid-one (marks.Dropped target cause) p laid fit alone = (record { lie = laid.lie; apart = laid.apart }, refl)

laid-marks : (ms : List Mark) (p : Past) → IsLaid p → each_mark is_fit p ms ≡ true → each_mark is_granted_alone p ms ≡ true → IsLaid (after_marks ms p) × (each_mark leaves_windows_lying p ms ≡ true)
laid-marks [] p laid fit alone = (laid, refl)
laid-marks (m ∷ ms) p laid fit alone = behind (laid-one m p laid fits.0 alones.0) (λ next. laid-marks ms (after_mark m p) next fits.1 alones.1)
  where
    fits : (is_fit p m ≡ true) × (each_mark is_fit (after_mark m p) ms ≡ true)
    fits = and_parts (is_fit p m) (each_mark is_fit (after_mark m p) ms) fit

    alones : (is_granted_alone p m ≡ true) × (each_mark is_granted_alone (after_mark m p) ms ≡ true)
    alones = and_parts (is_granted_alone p m) (each_mark is_granted_alone (after_mark m p) ms) alone

    behind : IsLaid (after_mark m p) × (leaves_windows_lying p m ≡ true) → (IsLaid (after_mark m p) → IsLaid (after_marks ms (after_mark m p)) × (each_mark leaves_windows_lying (after_mark m p) ms ≡ true))
        → IsLaid (after_marks ms (after_mark m p)) × (each_mark leaves_windows_lying p (m ∷ ms) ≡ true)
    behind one rest = ((rest one.0).0, both-true _ _ one.1 (rest one.0).1)

laid-entries : (es : List EntryValue) (p : Past) → IsLaid p → each_entry is_fit (λ past. true) p es ≡ true → each_entry is_granted_alone (λ past. true) p es ≡ true → each_entry leaves_windows_lying (λ past. true) p es ≡ true
laid-entries [] p laid fit alone = refl
laid-entries (e ∷ es) p laid fit alone = both-true _ _ (both-true _ true one.1 refl)
    (laid-entries es (after_entry e p) (record { lie = one.0.lie; apart = one.0.apart }) fits.1 alones.1)
  where
    fits : ((each_mark is_fit (at_begin e.event p) e.marks && true) ≡ true) × (each_entry is_fit (λ past. true) (after_entry e p) es ≡ true)
    fits = and_parts (each_mark is_fit (at_begin e.event p) e.marks && true) (each_entry is_fit (λ past. true) (after_entry e p) es) fit

    alones : ((each_mark is_granted_alone (at_begin e.event p) e.marks && true) ≡ true) × (each_entry is_granted_alone (λ past. true) (after_entry e p) es ≡ true)
    alones = and_parts (each_mark is_granted_alone (at_begin e.event p) e.marks && true) (each_entry is_granted_alone (λ past. true) (after_entry e p) es) alone

    one : IsLaid (after_marks e.marks (at_begin e.event p)) × (each_mark leaves_windows_lying (at_begin e.event p) e.marks ≡ true)
    one = laid-marks e.marks (at_begin e.event p) (record { lie = laid.lie; apart = laid.apart })
        (and_parts (each_mark is_fit (at_begin e.event p) e.marks) true fits.0).0 (and_parts (each_mark is_granted_alone (at_begin e.event p) e.marks) true alones.0).0

pub lie-along : (c : Configuration) (bytes : ByteMap) (es : List EntryValue) → AreLimited c → AllByRecursion (λ e. CanBeMade e.event) es → Follows c bytes es → DoWindowsLie bytes es
lie-along c bytes es limited made follows = laid-entries es (opening_past bytes) (record { lie = refl; apart = record {} }) (fit-along c bytes es limited made follows) (alone-along c bytes es limited made follows)
