-- Each clean connection of a history is a link in each direction, so each of its atomics acts at most once. For proofs only.
use Rattle.std.proofs.Common.{◌≡◌, ℕ, ◌<◌, ◌≤◌, ◌&&◌, ◌||◌, ◌==◌, not, nat_le, arith, Bool, true, false, if◌then◌else◌, length, List, [], ◌∷◌, is_some, refl, ap, ap₂, sym, subst, ◌∙◌, true≢false, ◌⊎◌, inl, inr}
use Rattle.std.proofs.lemmas.Bool.{and_parts}
use Rattle.std.proofs.lemmas.Bool.Decides.{nat_tests}
use Rattle.std.specs.List.{AllByRecursion, Contains, count_by, list_all, list_any}
use Rattle.ca_law_endings.proofs.FitLemmas.{plain}
use Rattle.ca_law_endings.proofs.InnerLemmas.{AreInner, own-inner}
use Rattle.ca_base.specs.Configuration.{Configuration}
use Rattle.ca_base.specs.declared.correspondent.Correspondent.{Correspondent}
use Rattle.ca_law_endings.specs.Agreement.{HoldsAlong}
use Rattle.ca_connection.proofs.ListLemmas.{contains-cases}
use Rattle.ca_connection.proofs.OnceLemmas.{law-atomic-once}
use Rattle.ca_model.specs.machine.Frame.{Afterwards}
use Rattle.ca_connection.specs.Layout.{Direction, is_atomic}
use Rattle.ca_connection.specs.Link.{Link, opening}
use Rattle.ca_keys.specs.Equal.{queue_eq}
use Rattle.ca_keys.specs.Memory.{ByteMap}
use Rattle.ca_model.specs.Entries.{EntryValue}
use Rattle.ca_model.specs.Once.{acts_at_most_once, is_clean, is_clean_pair, is_posted_atomic, times_acted}
use Rattle.ca_model.specs.Past.{Acted, Naming, Past, after_entries, after_entry, after_marks, at_begin, correspondent_eq, opening_past}
use Rattle.ca_model.specs.declared.event.Event.{Event}
use Rattle.ca_model.specs.declared.event.Event.TheVariants as events
use Rattle.ca_model.specs.declared.mark.Mark.{Mark}
use Rattle.ca_model.specs.declared.mark.Mark.TheVariants as marks
use Rattle.ca_model.specs.machine.Run.{Follows}
use Rattle.ca_model.specs.machine.Sound.{AreLimited, CanBeMade}
use Rattle.ca_model.specs.machine.World.{World, opening_world}
use Rattle.ca_law_once.proofs.Once.ActedLemmas.{found-is, numbers_of}
use Rattle.ca_law_once.proofs.Once.AgreeLemmas.{IsConnection, clean-connection, marks-agree}
use Rattle.ca_law_once.proofs.Once.FoundTolds.{count-not, count-yes, found-count}
use Rattle.ca_law_once.proofs.Once.MailTolds.{correspondent-path}
use Rattle.ca_law_once.proofs.Once.NamingLemmas.{AreNamings, plain-namings, verb-namings}
use Rattle.ca_law_once.proofs.Once.NoteLemmas.{Among, Grows, Passes, any-passes, entries-grow}
use Rattle.ca_law_once.proofs.Once.RunLemmas.{Stands, Steps, Walk, walk-along}
use Rattle.ca_law_once.proofs.Once.StepTolds.{ToldAfter, event-told}
use Rattle.ca_law_once.specs.AtMostOnce.{ActAtMostOnce}
use Rattle.ca_law_once.specs.Connections.{AreLinks, HasLink, direction_of}
use Rattle.ca_law_once.specs.OnceTold.{IsTold}
use Rattle.ca_law_once.proofs.Ties.OpeningLemmas.{opening-tied}
use Rattle.ca_law_once.specs.Ties.{IsTied}
use Rattle.ca_law_once.specs.Links.{found_at}
use Rattle.ca_law_once.specs.Agrees.{acted_by, written_by}

-- ---- no life has two Rtr

-- the namings after an entry
entry-namings : (c : Configuration) (past : Past) (w v : World) (event : Event) (ms : List Mark) → Stands c past w → Steps c past w event ms v → AreNamings past w → AreNamings (after_marks ms (at_begin event past)) v
entry-namings c past w v (events.Verb by verb) [] stands steps names = absurd steps.meets.1
entry-namings c past w v (events.Verb by verb) (marks.Verb b other answer ∷ ms) stands steps names =
    verb-namings past w v (events.Verb by verb) b other answer ms stands.paths steps.paths steps.lasting steps.meets.1.1 steps.right steps.gone names
entry-namings c past w v (events.Verb by verb) (marks.Granted g ∷ ms) stands steps names = absurd steps.meets.1.0
entry-namings c past w v (events.Verb by verb) (marks.Revoked adapter key ∷ ms) stands steps names = absurd steps.meets.1.0
entry-namings c past w v (events.Verb by verb) (marks.Remote queue domain envelope key kind address count verdict ∷ ms) stands steps names = absurd steps.meets.1.0
entry-namings c past w v (events.Verb by verb) (marks.Local queue domain key kind address count verdict ∷ ms) stands steps names = absurd steps.meets.1.0
entry-namings c past w v (events.Verb by verb) (marks.Stored place bytes ∷ ms) stands steps names = absurd steps.meets.1.0
entry-namings c past w v (events.Verb by verb) (marks.Sent source target index request bytes ∷ ms) stands steps names = absurd steps.meets.1.0
entry-namings c past w v (events.Verb by verb) (marks.Lost target index ∷ ms) stands steps names = absurd steps.meets.1.0
entry-namings c past w v (events.Verb by verb) (marks.Arrived target index ∷ ms) stands steps names = absurd steps.meets.1.0
entry-namings c past w v (events.Verb by verb) (marks.Dropped target cause ∷ ms) stands steps names = absurd steps.meets.1.0
entry-namings c past w v (events.Verb by verb) (marks.Timer queue silent ∷ ms) stands steps names = absurd steps.meets.1.0
entry-namings c past w v (events.Verb by verb) (marks.Done queue x cause ∷ ms) stands steps names = absurd steps.meets.1.0
entry-namings c past w v (events.Request queue lot) ms stands steps names = plain-namings past w v (events.Request queue lot) ms stands.paths steps.paths steps.lasting steps.meets.1 names
entry-namings c past w v (events.Respond queue lot) ms stands steps names = plain-namings past w v (events.Respond queue lot) ms stands.paths steps.paths steps.lasting steps.meets.1 names
entry-namings c past w v (events.Timeout queue hasten) ms stands steps names = plain-namings past w v (events.Timeout queue hasten) ms stands.paths steps.paths steps.lasting (plain ms (own-inner ms steps.meets)) names
entry-namings c past w v (events.RnrWake queue) ms stands steps names = plain-namings past w v (events.RnrWake queue) ms stands.paths steps.paths steps.lasting (plain ms (own-inner ms steps.meets)) names
entry-namings c past w v (events.Deliver queue index) ms stands steps names = plain-namings past w v (events.Deliver queue index) ms stands.paths steps.paths steps.lasting
    (plain ms (subst AreInner (sym steps.meets.are) (record {}, own-inner steps.meets.rest steps.meets.own))) names

-- the namings at the end
names-along : (c : Configuration) (es : List EntryValue) (past : Past) (w : World) → Walk c past w es → AreNamings past w → (v : World) × AreNamings (after_entries es past) v
names-along c [] past w walk names = (w, names)
names-along c (e ∷ es) past w walk names = names-along c es (after_entry e past) walk.1.0 walk.1.2
    (let one = entry-namings c past w walk.1.0 e.event e.marks walk.0 walk.1.1 names in record { each = λ x among. let of = one.each x among in record { life = of.life; some = of.some; other = of.other; mtu = of.mtu }; unique = one.unique })

-- ---- links

-- what an entry makes of a past stays so to the end
pub entry-to-end : (end : Past) (e : EntryValue) (es : List EntryValue) (past : Past) → end ≡ after_entries (e ∷ es) past → Grows (after_marks e.marks (at_begin e.event past)) end
entry-to-end end e es past is = record { namings = grown.namings; starts = grown.starts; injected = grown.injected; posted = grown.posted }
  where
    grown : Grows (after_entry e past) end
    grown = subst (Grows (after_entry e past)) (sym is) (entries-grow es (after_entry e past))

-- the same is told of a link after one entry
pub next-told : (c : Configuration) (end : Past) (a b : Naming) (e : EntryValue) (past : Past) (w v : World) (l : Link) → IsConnection end a b → Grows (after_marks e.marks (at_begin e.event past)) end → Stands c past w
    → Steps c past w e.event e.marks v → IsTold (direction_of end a b) a.own b.own past w l → ToldAfter (direction_of end a b) a.own b.own (after_entry e past) w l (acted_by b.own w l e.event e.marks) (written_by b.own w l e.event e.marks) v
next-told c end a b e past w v l con grows stands steps told = event-told (direction_of end a b) a.own b.own past w l e.event e.marks v
    (record { told = told; paths = stands.paths; after = steps.paths; indexed = steps.indexed })
    (record { carried = steps.carried; judged = steps.judged; meets = steps.meets; right = steps.right })
    (steps.ties (direction_of end a b) a.own b.own l told.tied (marks-agree end a b con past w e.event stands.paths stands.posts e.marks grows))

-- the same is told of a link after all entries
told-along : (c : Configuration) (end : Past) (a b : Naming) (es : List EntryValue) (past : Past) (w : World) (l : Link) → IsConnection end a b → end ≡ after_entries es past → Walk c past w es
    → IsTold (direction_of end a b) a.own b.own past w l → (v : World) × ((m : Link) × IsTold (direction_of end a b) a.own b.own end v m)
told-along c end a b [] past w l con is walk told = (w, (l, subst (λ p. IsTold (direction_of end a b) a.own b.own p w l) (sym is) told))
told-along c end a b (e ∷ es) past w l con is walk told = told-along c end a b es (after_entry e past) walk.1.0 next.after.link con is walk.1.2 next.told
  where
    next : ToldAfter (direction_of end a b) a.own b.own (after_entry e past) w l (acted_by b.own w l e.event e.marks) (written_by b.own w l e.event e.marks) walk.1.0
    next = next-told c end a b e past w walk.1.0 l con (entry-to-end end e es past is) walk.0 walk.1.1 told

-- before the first entry
opening-told : (d : Direction) (s r : Correspondent) (bytes : ByteMap) → IsTied d s r (opening_world bytes) (opening d) → IsTold d s r (opening_past bytes) (opening_world bytes) (opening d)
opening-told d s r bytes tied = record {
  tied = tied;
  sources = record {};
  alone = λ n k e at uncut mine. absurd (true≢false (sym (ap is_some at)));
  found = λ place. by (is_atomic (d.work place));
}
  where
    none : List ℕ
    none = []

    by : (b : Bool) → none ≡ (if b then none else none)
    by true = refl
    by false = refl

-- A clean connection of a history: what stands before its first entry.
pub record IsStarted (c : Configuration) (bytes : ByteMap) (es : List EntryValue) (a b : Naming) : Type 0 where
  pub con : IsConnection (after_entries es (opening_past bytes)) a b
  pub walk : Walk c (opening_past bytes) (opening_world bytes) es
  pub told : IsTold (direction_of (after_entries es (opening_past bytes)) a b) a.own b.own (opening_past bytes) (opening_world bytes) (opening (direction_of (after_entries es (opening_past bytes)) a b))

pub connection-started : (c : Configuration) (bytes : ByteMap) (es : List EntryValue) (a b : Naming) → AreLimited c → AllByRecursion (λ e. CanBeMade e.event) es → Follows c bytes es
    → Among a (after_entries es (opening_past bytes)).namings → Among b (after_entries es (opening_past bytes)).namings → is_clean_pair (after_entries es (opening_past bytes)) a b ≡ true → IsStarted c bytes es a b
connection-started c bytes es a b limited made follows a_in b_in clean = record {
  con = con;
  walk = walk;
  told = opening-told (direction_of end a b) a.own b.own bytes (opening-tied (direction_of end a b) a.own b.own bytes (names.1.each b b_in).mtu apart
      (subst (λ (x : Correspondent). 0 < x.incarnation) con.b_names (names.1.each b b_in).some)
      (subst (λ (x : Correspondent). 0 < x.incarnation) con.a_names (names.1.each a a_in).some));
}
  where
    end : Past
    end = after_entries es (opening_past bytes)

    walk : Walk c (opening_past bytes) (opening_world bytes) es
    walk = walk-along c bytes es limited made follows

    names : (v : World) × AreNamings end v
    names = names-along c es (opening_past bytes) (opening_world bytes) walk (record { each = λ x among. absurd among; unique = λ x y one other own. absurd one })

    con : IsConnection end a b
    con = clean-connection end a b a_in b_in names.1.unique clean

    apart : queue_eq a.own.queue b.own.queue ≡ false
    apart = ap (λ (x : Correspondent). queue_eq x.queue b.own.queue) (sym con.b_names) ∙ (names.1.each b b_in).other

-- a clean connection, with its link at the end
pub record IsLinked (end : Past) (a b : Naming) : Type 0 where
  pub world : World
  pub link : Link
  pub told : IsTold (direction_of end a b) a.own b.own end world link

pub connection-linked : (c : Configuration) (bytes : ByteMap) (es : List EntryValue) (a b : Naming) → IsStarted c bytes es a b → IsLinked (after_entries es (opening_past bytes)) a b
connection-linked c bytes es a b started = record { world = told.0; link = told.1.0; told = told.1.1 }
  where
    end : Past
    end = after_entries es (opening_past bytes)

    told : (v : World) × ((m : Link) × IsTold (direction_of end a b) a.own b.own end v m)
    told = told-along c end a b es (opening_past bytes) (opening_world bytes) (opening (direction_of end a b)) started.con refl started.walk started.told

-- a link along all entries
links-along : (c : Configuration) (end : Past) (a b : Naming) (es : List EntryValue) (past : Past) (w : World) (l : Link) → IsConnection end a b → end ≡ after_entries es past → Walk c past w es
    → IsTold (direction_of end a b) a.own b.own past w l → HoldsAlong (HasLink end a b) c past w es
links-along c end a b [] past w l con is walk told = (l, told)
links-along c end a b (e ∷ es) past w l con is walk told = (
  (l, told),
  subst (Afterwards (λ v. HoldsAlong (HasLink end a b) c (after_entry e past) v es)) (sym walk.1.1.comes) (links-along c end a b es (after_entry e past) walk.1.0 next.after.link con is walk.1.2 next.told),
)
  where
    next : ToldAfter (direction_of end a b) a.own b.own (after_entry e past) w l (acted_by b.own w l e.event e.marks) (written_by b.own w l e.event e.marks) walk.1.0
    next = next-told c end a b e past w walk.1.0 l con (entry-to-end end e es past is) walk.0 walk.1.1 told

among-of : {A : Type 0} (xs : List A) (x : A) → Contains xs x → Among x xs
among-of [] x (k, below, is) = absurd (omega (arith, below))
among-of (y ∷ xs) x has = by (contains-cases y x xs has) (among-of xs x)
  where
    by : (y ≡ x) ⊎ Contains xs x → (Contains xs x → Among x xs) → (y ≡ x) ⊎ Among x xs
    by (inl here) rest = inl here
    by (inr there) rest = inr (rest there)

pub linked-along : (c : Configuration) (bytes : ByteMap) (es : List EntryValue) → AreLimited c → AllByRecursion (λ e. CanBeMade e.event) es → Follows c bytes es → AreLinks c bytes es
linked-along c bytes es limited made follows a b a_in b_in clean =
    links-along c end a b es (opening_past bytes) (opening_world bytes) (opening (direction_of end a b)) started.con refl started.walk started.told
  where
    end : Past
    end = after_entries es (opening_past bytes)

    started : IsStarted c bytes es a b
    started = connection-started c bytes es a b limited made follows (among-of end.namings a a_in) (among-of end.namings b b_in) clean

-- ---- at most once

numbers-count : (own : Correspondent) (place : ℕ) (acted : List Acted) → count_by (λ a. correspondent_eq a.own own && (a.place == place)) acted ≡ length (numbers_of own place acted)
numbers-count own place [] = refl
numbers-count own place (a ∷ rest) = by (correspondent_eq a.own own && (a.place == place)) refl (numbers-count own place rest)
  where
    test : Acted → Bool
    test a = correspondent_eq a.own own && (a.place == place)

    by : (b : Bool) → (correspondent_eq a.own own && (a.place == place)) ≡ b → count_by test rest ≡ length (numbers_of own place rest)
        → count_by test (a ∷ rest) ≡ length (if correspondent_eq a.own own && (a.place == place) then a.found ∷ numbers_of own place rest else numbers_of own place rest)
    by true is more = omega (arith, count-yes test a rest is, more, ap (λ b. length (if b then a.found ∷ numbers_of own place rest else numbers_of own place rest)) is)
    by false is more = omega (arith, count-not test a rest is, more, ap (λ b. length (if b then a.found ∷ numbers_of own place rest else numbers_of own place rest)) is)

-- the atomics that acted for a request of a linked life are at most one
linked-once : (end : Past) (a b : Naming) (place : ℕ) → IsLinked end a b → times_acted end a.own place ≤ 1
linked-once end a b place linked = omega (arith, numbers-count a.own place end.acted, ap length (sym (found-is end a.own place) ∙ linked.told.found place), by (is_atomic (d.work place)) refl)
  where
    d : Direction
    d = direction_of end a b

    by : (c : Bool) → is_atomic (d.work place) ≡ c → length (if c then found_at place linked.link.acceptances else []) ≤ 1
    by true atomic = omega (arith, found-count place linked.link.acceptances, law-atomic-once d linked.link place linked.told.tied.reached atomic)
    by false none = omega arith

-- the two Rtr of a clean connection of which a life is one end
pub record EndOf (past : Past) (own : Correspondent) : Type 0 where
  pub a : Naming
  pub b : Naming
  pub a_in : Among a past.namings
  pub b_in : Among b past.namings
  pub own_is : a.own ≡ own
  pub clean : is_clean_pair past a b ≡ true

pub end-of : (past : Past) (own : Correspondent) → is_clean past own ≡ true → EndOf past own
end-of past own clean = record { a = first.one; b = second.one; a_in = first.among; b_in = second.among; own_is = correspondent-path first.one.own own parts.0; clean = second.is }
  where
    first : Passes (λ (a : Naming). correspondent_eq a.own own && list_any (is_clean_pair past a) past.namings) past.namings
    first = any-passes (λ (a : Naming). correspondent_eq a.own own && list_any (is_clean_pair past a) past.namings) past.namings clean

    parts : (correspondent_eq first.one.own own ≡ true) × (list_any (is_clean_pair past first.one) past.namings ≡ true)
    parts = and_parts (correspondent_eq first.one.own own) (list_any (is_clean_pair past first.one) past.namings) first.is

    second : Passes (is_clean_pair past first.one) past.namings
    second = any-passes (is_clean_pair past first.one) past.namings parts.1

few-test : (n : ℕ) → n ≤ 1 → nat_le n 1 ≡ true
few-test n few = grind (arith, nat_tests)

pub every-passes : {A : Type 0} (test : A → Bool) (xs : List A) → ((x : A) → test x ≡ true) → list_all test xs ≡ true
every-passes test [] every = refl
every-passes test (x ∷ xs) every = ap₂ (λ a b. a && b) (every x) (every-passes test xs every)

pub once-along : (c : Configuration) (bytes : ByteMap) (es : List EntryValue) → AreLimited c → AllByRecursion (λ e. CanBeMade e.event) es → Follows c bytes es → ActAtMostOnce bytes es
once-along c bytes es limited made follows = every-passes (acts_at_most_once end) end.acted one
  where
    end : Past
    end = after_entries es (opening_past bytes)

    one : (x : Acted) → acts_at_most_once end x ≡ true
    one x = by (is_clean end x.own) (is_posted_atomic end x.own x.place) refl
      where
        by : (b atomic : Bool) → is_clean end x.own ≡ b → (not (b && atomic) || nat_le (times_acted end x.own x.place) 1) ≡ true
        by false atomic none = refl
        by true false clean = refl
        by true true clean = few-test (times_acted end x.own x.place) (subst (λ own. times_acted end own x.place ≤ 1) ends.own_is
            (linked-once end ends.a ends.b x.place (connection-linked c bytes es ends.a ends.b (connection-started c bytes es ends.a ends.b limited made follows ends.a_in ends.b_in ends.clean))))
          where
            ends : EndOf end x.own
            ends = end-of end x.own clean
