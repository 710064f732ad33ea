-- Every history that follows the machine is Once. For proofs only.
use Rattle.std.proofs.Common.{◌≡◌, ℕ, ◌⊎◌, inl, inr, ◌&&◌, ◌||◌, not, arith, Bool, true, false, if◌then◌else◌, length, List, [], ◌∷◌, Some, ◌<◌, refl, ap, ap₂, sym, subst, ◌∙◌}
use Rattle.std.specs.List.{AllByRecursion, list_all}
use Rattle.ca_law_endings.proofs.FitLemmas.{plain}
use Rattle.ca_law_endings.proofs.InnerLemmas.{AreInner, own-inner}
use Rattle.ca_base.specs.Configuration.{Configuration}
use Rattle.ca_base.specs.declared.correspondent.Correspondent.{Correspondent}
use Rattle.ca_connection.proofs.OnceLemmas.{law-atomic-once}
use Rattle.ca_connection.specs.Layout.{Direction}
use Rattle.ca_connection.specs.Link.{Link, opening}
use Rattle.ca_keys.specs.Memory.{ByteMap}
use Rattle.ca_keys.specs.declared.names.QueueId.{QueueId}
use Rattle.ca_model.specs.Entries.{EntryValue}
use Rattle.ca_model.specs.History.{ArePlain}
use Rattle.ca_model.specs.Once.{Once, acted_before_success, is_clean, is_found_alone}
use Rattle.ca_model.specs.Past.{AtomicDone, Naming, Past, Succeeded, after_entries, after_entry, after_mark, after_marks, at_begin, opening_past}
use Rattle.ca_model.specs.declared.answer.Answer.{Answer}
use Rattle.ca_model.specs.declared.event.Event.{Event}
use Rattle.ca_model.specs.declared.event.Event.TheVariants as events
use Rattle.ca_model.specs.declared.mark.Mark.{Mark}
use Rattle.ca_model.specs.declared.mark.Mark.TheVariants as marks
use Rattle.ca_model.specs.declared.verb.Verb.{Verb}
use Rattle.ca_model.specs.machine.Run.{Follows}
use Rattle.ca_model.specs.machine.Sound.{AreLimited, CanBeMade}
use Rattle.ca_model.specs.machine.World.{World, opening_world}
use Rattle.ca_law_once.proofs.Once.ActedLemmas.{found-is}
use Rattle.ca_law_once.proofs.Once.AgreeLemmas.{IsConnection, marks-agree}
use Rattle.ca_law_once.proofs.Once.FoundTolds.{found-count}
use Rattle.ca_law_once.proofs.Once.NoteLemmas.{Among, Destroys, Grows, VerbLife, verb-life}
use Rattle.ca_law_once.proofs.Once.NoteLemmas.VerbLife.{later as life_later, stays as life_stays, ends as life_ends}
use Rattle.ca_law_once.proofs.Once.OnceLemmas.{EndOf, IsStarted, connection-started, end-of, entry-to-end, next-told, once-along}
use Rattle.ca_law_once.proofs.Once.RunLemmas.{Steps, Walk}
use Rattle.ca_law_once.proofs.Once.ShapeLemmas.{Meets}
use Rattle.ca_law_once.proofs.Once.StepTolds.{ToldAfter}
use Rattle.ca_law_once.proofs.Once.SuccessLemmas.{AddAll, AreWell, Completes, IsWell, Midst, atomics-well, marks-add, succeeded-well}
use Rattle.ca_law_once.proofs.Once.VerbLemmas.{SameHand, verb-hand}
use Rattle.ca_law_once.specs.Connections.{direction_of}
use Rattle.ca_law_once.specs.Success.{AreFound}
use Rattle.ca_law_once.specs.OnceTold.{IsTold}
use Rattle.ca_law_once.specs.Links.{found_at}
use Rattle.ca_law_once.specs.Agrees.{AgreesWith, acted_by, written_by}

-- before the marks of an event
begin-midst : (past : Past) (event : Event) → Midst past (at_begin event past)
begin-midst past event = record { lives = λ n. inl refl; more = []; acted = refl }

-- marks that are no answers
plain-well : (d : Direction) (s : Correspondent) (past : Past) (w : World) (l : Link) (end : Past) (event : Event) (ms : List Mark) → Completes d s past w l end (after_marks ms (at_begin event past)) → ArePlain ms → AreFound d s w l ms ms
    → (a : AtomicDone) → a.own ≡ s → Among a (after_marks ms (at_begin event past)).at_hand.atomics → IsWell a ms
plain-well d s past w l end event ms known plain found a own among = by (atomics-well d s past w l end ms ms (at_begin event past) known plain (begin-midst past event) found a own among)
  where
    by : Among a [] ⊎ IsWell a ms → IsWell a ms
    by (inl none) = absurd none
    by (inr well) = well

-- an answer, and marks behind it
verb-well : (d : Direction) (s : Correspondent) (past : Past) (w : World) (l : Link) (end : Past) (event : Event) (by : ℕ) (verb : Verb) (answer : Answer) (ms : List Mark)
    → Completes d s past w l end (after_marks (marks.Verb by verb answer ∷ ms) (at_begin event past)) → AreInner ms → AreFound d s w l (marks.Verb by verb answer ∷ ms) ms
    → (a : AtomicDone) → a.own ≡ s → Among a (after_marks (marks.Verb by verb answer ∷ ms) (at_begin event past)).at_hand.atomics → IsWell a (marks.Verb by verb answer ∷ ms)
verb-well d s past w l end event by verb answer ms known inner found a own among =
    at (atomics-well d s past w l end (marks.Verb by verb answer ∷ ms) ms one known (plain ms inner) mid found a own among)
  where
    q : Past
    q = record (at_begin event past) { at_hand = record (at_begin event past).at_hand { answered = Some (record { verb = verb; answer = answer }) } }

    one : Past
    one = after_mark (marks.Verb by verb answer) (at_begin event past)

    hand : SameHand q one
    hand = verb-hand verb answer q

    mid : Midst past one
    mid = record { lives = λ n. of n (verb-life n verb answer q); more = []; acted = hand.acted }
      where
        of : (n : QueueId) → VerbLife n (Destroys n verb answer) q one → (one.incarnation n ≡ past.incarnation n) ⊎ ((past.incarnation n < one.incarnation n) × (one.posted ≡ past.posted))
        of n (life_later more posted) = inr (more, posted)
        of n (life_stays is some) = inl is
        of n (life_ends is destroyed) = inl is

    at : Among a one.at_hand.atomics ⊎ IsWell a (marks.Verb by verb answer ∷ ms) → IsWell a (marks.Verb by verb answer ∷ ms)
    at (inl here) = absurd (subst (λ h. Among a h.atomics) hand.hand here)
    at (inr well) = well

-- an event
event-well : (d : Direction) (s : Correspondent) (past : Past) (w : World) (l : Link) (end : Past) (event : Event) (ms : List Mark) → Completes d s past w l end (after_marks ms (at_begin event past)) → Meets w event ms → AreFound d s w l ms ms
    → (a : AtomicDone) → a.own ≡ s → Among a (after_marks ms (at_begin event past)).at_hand.atomics → IsWell a ms
event-well d s past w l end (events.Verb by verb) [] known meets found = absurd meets.1
event-well d s past w l end (events.Verb by verb) (marks.Verb b other answer ∷ ms) known meets found = verb-well d s past w l end (events.Verb by verb) b other answer ms known meets.1.1 found.1
event-well d s past w l end (events.Verb by verb) (marks.Granted g ∷ ms) known meets found = absurd meets.1.0
event-well d s past w l end (events.Verb by verb) (marks.Revoked adapter key ∷ ms) known meets found = absurd meets.1.0
event-well d s past w l end (events.Verb by verb) (marks.Remote queue domain envelope key kind address count verdict ∷ ms) known meets found = absurd meets.1.0
event-well d s past w l end (events.Verb by verb) (marks.Local queue domain key kind address count verdict ∷ ms) known meets found = absurd meets.1.0
event-well d s past w l end (events.Verb by verb) (marks.Stored place bytes ∷ ms) known meets found = absurd meets.1.0
event-well d s past w l end (events.Verb by verb) (marks.Sent source target index request bytes ∷ ms) known meets found = absurd meets.1.0
event-well d s past w l end (events.Verb by verb) (marks.Lost target index ∷ ms) known meets found = absurd meets.1.0
event-well d s past w l end (events.Verb by verb) (marks.Arrived target index ∷ ms) known meets found = absurd meets.1.0
event-well d s past w l end (events.Verb by verb) (marks.Dropped target cause ∷ ms) known meets found = absurd meets.1.0
event-well d s past w l end (events.Verb by verb) (marks.Timer queue silent ∷ ms) known meets found = absurd meets.1.0
event-well d s past w l end (events.Verb by verb) (marks.Done queue x cause ∷ ms) known meets found = absurd meets.1.0
event-well d s past w l end (events.Request queue lot) ms known meets found = plain-well d s past w l end (events.Request queue lot) ms known meets.1 found
event-well d s past w l end (events.Respond queue lot) ms known meets found = plain-well d s past w l end (events.Respond queue lot) ms known meets.1 found
event-well d s past w l end (events.Timeout queue hasten) ms known meets found = plain-well d s past w l end (events.Timeout queue hasten) ms known (plain ms (own-inner ms meets)) found
event-well d s past w l end (events.RnrWake queue) ms known meets found = plain-well d s past w l end (events.RnrWake queue) ms known (plain ms (own-inner ms meets)) found
event-well d s past w l end (events.Deliver queue index) ms known meets found = plain-well d s past w l end (events.Deliver queue index) ms known
    (plain ms (subst AreInner (sym meets.are) (record {}, own-inner meets.rest meets.own))) found

-- all entries
well-along : (c : Configuration) (end : Past) (a b : Naming) (es : List EntryValue) (past : Past) (w : World) (l : Link) → IsConnection end a b → end ≡ after_entries es past → Walk c past w es
    → IsTold (direction_of end a b) a.own b.own past w l → AreWell a.own past.succeeded → AreWell a.own end.succeeded
well-along c end a b [] past w l con is walk told well = subst (λ (p : Past). AreWell a.own p.succeeded) (sym is) well
well-along c end a b (e ∷ es) past w l con is walk told well = well-along c end a b es (after_entry e past) v next.after.link con is walk.1.2 next.told
    (succeeded-well a.own past last e.marks adds.put adds.succeeded well (event-well d a.own past w l end e.event e.marks known steps.meets (steps.found d a.own b.own l told.tied agrees)))
  where
    d : Direction
    d = direction_of end a b

    v : World
    v = walk.1.0

    steps : Steps c past w e.event e.marks v
    steps = walk.1.1

    last : Past
    last = after_marks e.marks (at_begin e.event past)

    grows : Grows last end
    grows = entry-to-end end e es past is

    agrees : AgreesWith d a.own b.own w e.marks
    agrees = marks-agree end a b con past w e.event walk.0.paths walk.0.posts e.marks grows

    next : ToldAfter d a.own b.own (after_entry e past) w l (acted_by b.own w l e.event e.marks) (written_by b.own w l e.event e.marks) v
    next = next-told c end a b e past w v l con grows walk.0 steps told

    adds : AddAll e.marks (at_begin e.event past) last
    adds = marks-add e.marks (at_begin e.event past)

    known : Completes d a.own past w l end last
    known = record {
      paths = walk.0.paths;
      posts = walk.0.posts;
      before = λ place atomic. sym (found-is past a.own place) ∙ told.found place ∙ ap (λ x. if x then found_at place l.acceptances else []) atomic;
      after = λ place atomic. omega (
        arith,
        ap length (sym (found-is (after_entry e past) a.own place) ∙ next.told.found place ∙ ap (λ x. if x then found_at place next.after.link.acceptances else []) atomic),
        found-count place next.after.link.acceptances,
        law-atomic-once d next.after.link place next.after.tied.reached atomic,
      );
      grows = grows;
      work = λ place. refl;
    }

every-among : {A : Type 0} (test : A → Bool) (xs : List A) → ((x : A) → Among x xs → test x ≡ true) → list_all test xs ≡ true
every-among test [] every = refl
every-among test (x ∷ xs) every = ap₂ (λ a b. a && b) (every x (inl refl)) (every-among test xs (λ y among. every y (inr among)))

pub whole-along : (c : Configuration) (bytes : ByteMap) (es : List EntryValue) → AreLimited c → AllByRecursion (λ e. CanBeMade e.event) es → Follows c bytes es → Once bytes es
whole-along c bytes es limited made follows = ap₂ (λ a b. a && b) (once-along c bytes es limited made follows) (every-among (acted_before_success end) end.succeeded one)
  where
    end : Past
    end = after_entries es (opening_past bytes)

    one : (x : Succeeded) → Among x end.succeeded → acted_before_success end x ≡ true
    one x among = by (is_clean end x.atomic.own) refl
      where
        by : (b : Bool) → is_clean end x.atomic.own ≡ b → (not b || is_found_alone x.atomic.found x.put) ≡ true
        by false none = refl
        by true clean = well-along c end ends.a ends.b es (opening_past bytes) (opening_world bytes) (opening (direction_of end ends.a ends.b)) started.con refl started.walk started.told (λ y none own. absurd none)
            x among (sym ends.own_is)
          where
            ends : EndOf end x.atomic.own
            ends = end-of end x.atomic.own clean

            started : IsStarted c bytes es ends.a ends.b
            started = connection-started c bytes es ends.a ends.b limited made follows ends.a_in ends.b_in ends.clean
