-- Along a history in which everything goes forward there are no more turns than what was posted weighs.
use Rattle.std.proofs.Common.{◌≡◌, ℕ, suc, ◌+◌, ◌*◌, ◌≤◌, ◌||◌, Bool, true, false, if◌then◌else◌, List, [], ◌∷◌, length, map, Option, None, Some, IfSome, Ok, Err, refl, ap, subst, arith, true≢false}
use Rattle.std.proofs.lemmas.List.Sums.{sum_by-cons}
use Rattle.std.specs.List.{AllByRecursion, sum_by}
use Rattle.std.specs.Option.{option_map_or}
use Rattle.ca_law_endings.proofs.EventFitLemmas.{first-marks}
use Rattle.ca_law_endings.proofs.PathEventLemmas.{event-agrees, opening-agrees}
use Rattle.ca_law_endings.specs.Agreement.{HoldsAlong, PathsAgree}
use Rattle.ca_law_endings.specs.Runs.{Comes}
use Rattle.ca_law_keys.specs.Posts.{life}
use Rattle.ca_law_carried.proofs.Starts.StartEventLemmas.{starts-along}
use Rattle.ca_law_carried.specs.Starts.{AgreeOnStart, HasBegun, StartsAgree, StartsInSlot, start_in}
use Rattle.ca_base.specs.Configuration.{Configuration}
use Rattle.ca_base.specs.declared.correspondent.Correspondent.{Correspondent}
use Rattle.ca_base.specs.objects.QueuePair.{QueuePair, Present, psn_base}
use Rattle.ca_keys.specs.Equal.{queue_eq}
use Rattle.ca_keys.specs.Memory.{ByteMap}
use Rattle.ca_keys.specs.declared.names.QueueId.{QueueId}
use Rattle.ca_law_world.proofs.Sound.SettledLemmas.{queue-refl}
use Rattle.ca_law_world.proofs.Sound.SoundLemmas.{event-sound, opening-sound}
use Rattle.ca_law_world.proofs.Steady.EventLemmas.{event-steady, opening-steady}
use Rattle.ca_law_world.specs.Steady.{IsSteadyWorld}
use Rattle.ca_model.specs.Entries.{EntryValue}
use Rattle.ca_model.specs.Past.{Past, Start, after_entry, after_marks, at_begin, opening_past}
use Rattle.ca_model.specs.machine.Frame.{Afterwards}
use Rattle.ca_model.specs.machine.Invariants.{is_sending}
use Rattle.ca_model.specs.machine.Plan.{Did, NotReady, Outcome}
use Rattle.ca_model.specs.machine.Run.{Follows, Ran, go_on, run_from}
use Rattle.ca_model.specs.machine.Sound.{AreLimited, CanBeMade, IsSoundWorld}
use Rattle.ca_model.specs.machine.Step.{step}
use Rattle.ca_model.specs.machine.World.{World, opening_world}
use Rattle.ca_law_once.proofs.Ties.FollowLemmas.{paths-follow}
use Rattle.ca_law_once.proofs.Verbs.BeginEvents.{event-begins, opening-begins}
use Rattle.ca_law_once.specs.Beginnings.{AllBeginEmpty}
use Rattle.ca_law_bounds.proofs.EventWeights.{event-lowers}
use Rattle.ca_law_bounds.specs.Forward.{AllGoForward, GoesForward, IsOrderlyWorld, TurnIsAmong, packets_in, turning, turns_in, verbs_in}
use Rattle.ca_law_bounds.specs.WorldWeights.{AreApart, is_among_names, world_weight}

-- ---- the opening

pub opening-weighs : (bytes : ByteMap) (names : List QueueId) → world_weight names (opening_world bytes) ≡ 0
opening-weighs bytes [] = refl
opening-weighs bytes (n ∷ ns) = omega (arith, sum_by-cons (λ (m : QueueId). 0) n ns, opening-weighs bytes ns)

-- ---- the queue pairs that take turns

-- a name more, if it is not among them
abbrev with_name : Option QueueId → List QueueId → List QueueId
with_name None ns = ns
with_name (Some n) ns = if is_among_names n ns then ns else n ∷ ns

-- those of the turns among entries, each once
abbrev names_in : List EntryValue → List QueueId
names_in [] = []
names_in (e ∷ es) = with_name (turning e.event) (names_in es)

named-apart : (o : Option QueueId) (ns : List QueueId) → AreApart ns → AreApart (with_name o ns)
named-apart None ns apart = apart
named-apart (Some n) ns apart = by (is_among_names n ns) refl
  where
    by : (b : Bool) → is_among_names n ns ≡ b → AreApart (if b then ns else n ∷ ns)
    by true among = apart
    by false none = (none, apart)

names-apart : (es : List EntryValue) → AreApart (names_in es)
names-apart [] = record {}
names-apart (e ∷ es) = named-apart (turning e.event) (names_in es) (names-apart es)

named-here : (o : Option QueueId) (ns : List QueueId) → IfSome o (λ n. is_among_names n (with_name o ns) ≡ true)
named-here None ns = record {}
named-here (Some n) ns = by (is_among_names n ns) refl
  where
    by : (b : Bool) → is_among_names n ns ≡ b → is_among_names n (if b then ns else n ∷ ns) ≡ true
    by true among = among
    by false none = ap (λ b. b || is_among_names n ns) (queue-refl n)

-- who is among names is among more
among-more : (o : Option QueueId) (ns : List QueueId) (m : QueueId) → is_among_names m ns ≡ true → is_among_names m (with_name o ns) ≡ true
among-more None ns m among = among
among-more (Some n) ns m among = by (is_among_names n ns)
  where
    or-true : (a b : Bool) → b ≡ true → (a || b) ≡ true
    or-true true b is = refl
    or-true false b is = is

    by : (b : Bool) → is_among_names m (if b then ns else n ∷ ns) ≡ true
    by true = among
    by false = or-true (queue_eq m n) (is_among_names m ns) among

turns-more : (o : Option QueueId) (ns : List QueueId) (es : List EntryValue) → AllByRecursion (λ e. TurnIsAmong ns e.event) es → AllByRecursion (λ e. TurnIsAmong (with_name o ns) e.event) es
turns-more o ns [] all = record {}
turns-more o ns (e ∷ es) all = (one (turning e.event) all.0, turns-more o ns es all.1)
  where
    one : (t : Option QueueId) → IfSome t (λ n. is_among_names n ns ≡ true) → IfSome t (λ n. is_among_names n (with_name o ns) ≡ true)
    one None among = record {}
    one (Some m) among = among-more o ns m among

turns-among : (es : List EntryValue) → AllByRecursion (λ e. TurnIsAmong (names_in es) e.event) es
turns-among [] = record {}
turns-among (e ∷ es) = (named-here (turning e.event) (names_in es), turns-more (turning e.event) (names_in es) es (turns-among es))

-- ---- along a history

-- where past and world agree on PSNs, the oldest unfinished request of a queue pair that sends has one from the base on
based-there : (past : Past) (w : World) → StartsAgree past w → (name : QueueId) (q : QueuePair) → w.queue name ≡ Present q → is_sending q.state ≡ true → psn_base ≤ q.requester.oldest_psn
based-there past w agree name q is sends = by (start_in past.starts own) (there.begun sends)
  where
    own : Correspondent
    own = life name (past.incarnation name)

    there : AgreeOnStart (start_in past.starts own) (past.posted own) q
    there = subst (StartsInSlot (start_in past.starts own) (past.posted own)) is (agree name)

    by : (o : Option Start) → HasBegun o (past.posted own) q → psn_base ≤ q.requester.oldest_psn
    by None begun = absurd begun
    by (Some start) begun = omega (arith, begun)

turns-below : (c : Configuration) (names : List QueueId) (n : ℕ) (es : List EntryValue) (past : Past) (w : World) → AreLimited c → AreApart names → AllByRecursion (λ e. CanBeMade e.event) es
    → AllByRecursion (λ e. TurnIsAmong names e.event) es → IsSoundWorld c w → PathsAgree past w → AllBeginEmpty w → IsSteadyWorld w → HoldsAlong StartsAgree c past w es → run_from c n w (map (λ e. e.event) es) ≡ Ok (map (λ e. e.marks) es) → AllGoForward c w es
    → sum_by (λ e. turns_in e.event) es ≤ world_weight names w + 4 * sum_by (λ e. packets_in e.event) es
turns-below c names n [] past w limited apart made among sound agree empty steady starts follows forward = omega arith
turns-below c names n (e ∷ es) past w limited apart made among sound agree empty steady starts follows forward =
    by (step c w e.event) (event-sound c e.event w limited sound made.0) (event-agrees c past w e.event sound agree) (event-begins c w e.event sound (paths-follow past w agree) empty)
    (event-steady c e.event w sound steady) starts.1 (event-lowers c w names e.event orderly apart among.0) forward follows
    (λ v whole next begins steadily after told on. turns-below c names (suc n) es (after_entry e past) v limited apart made.1 among.1 whole next begins steadily after told on)
  where
    orderly : IsOrderlyWorld c w
    orderly = record { sound = sound; steady = steady; empty = empty; based = based-there past w starts.0 }

    Rest : Type 0
    Rest = (v : World) → IsSoundWorld c v → PathsAgree (after_entry e past) v → AllBeginEmpty v → IsSteadyWorld v → HoldsAlong StartsAgree c (after_entry e past) v es → run_from c (suc n) v (map (λ e. e.event) es) ≡ Ok (map (λ e. e.marks) es) → AllGoForward c v es
        → sum_by (λ e. turns_in e.event) es ≤ world_weight names v + 4 * sum_by (λ e. packets_in e.event) es

    stopped : Ran → Bool
    stopped (Ok told) = false
    stopped (Err stop) = true

    by : (o : Outcome) → Afterwards (IsSoundWorld c) o → Comes (λ v ms. PathsAgree (after_marks ms (at_begin e.event past)) v) o → Comes (λ v ms. AllBeginEmpty v) o
        → Afterwards IsSteadyWorld o → Afterwards (λ v. HoldsAlong StartsAgree c (after_entry e past) v es) o
        → Comes (λ v ms. GoesForward w e.event v → world_weight names v + turns_in e.event ≤ world_weight names w + 4 * packets_in e.event) o
        → Afterwards (λ v. GoesForward w e.event v × AllGoForward c v es) o → go_on n o (λ v. run_from c (suc n) v (map (λ e. e.event) es)) ≡ Ok (e.marks ∷ map (λ e. e.marks) es) → Rest
        → sum_by (λ e. turns_in e.event) (e ∷ es) ≤ world_weight names w + 4 * sum_by (λ e. packets_in e.event) (e ∷ es)
    by (NotReady reason) whole agrees begins steadily after lowers on follows rest = absurd (true≢false (ap stopped follows))
    by (Did v ms) whole agrees begins steadily after lowers on follows rest = at (first-marks ms e.marks (run_from c (suc n) v (map (λ e. e.event) es)) (map (λ e. e.marks) es) follows)
      where
        at : (ms ≡ e.marks) × (run_from c (suc n) v (map (λ e. e.event) es) ≡ Ok (map (λ e. e.marks) es)) → sum_by (λ e. turns_in e.event) (e ∷ es) ≤ world_weight names w + 4 * sum_by (λ e. packets_in e.event) (e ∷ es)
        at told =
            let later : sum_by (λ e. turns_in e.event) es ≤ world_weight names v + 4 * sum_by (λ e. packets_in e.event) es =
            rest v whole (subst (λ xs. PathsAgree (after_marks xs (at_begin e.event past)) v) told.0 agrees) begins steadily after told.1 on.1 in
            let now : world_weight names v + turns_in e.event ≤ world_weight names w + 4 * packets_in e.event = lowers on.0 in
            omega (arith, later, now, sum_by-cons (λ (e : EntryValue). turns_in e.event) e es, sum_by-cons (λ (e : EntryValue). packets_in e.event) e es)

pub turns-bounded : (c : Configuration) (bytes : ByteMap) (es : List EntryValue) → AreLimited c → AllByRecursion (λ e. CanBeMade e.event) es → Follows c bytes es → AllGoForward c (opening_world bytes) es
    → sum_by (λ e. turns_in e.event) es ≤ 4 * sum_by (λ e. packets_in e.event) es
turns-bounded c bytes es limited made follows forward =
    let below : sum_by (λ e. turns_in e.event) es ≤ world_weight (names_in es) (opening_world bytes) + 4 * sum_by (λ e. packets_in e.event) es =
    turns-below c (names_in es) 0 es (opening_past bytes) (opening_world bytes) limited (names-apart es) made (turns-among es) (opening-sound c bytes) (opening-agrees bytes) (opening-begins bytes) (opening-steady bytes)
    (starts-along c bytes es limited made follows) follows forward in
    omega (arith, below, opening-weighs bytes (names_in es))

-- each entry is a verb or a turn
entries-count : (es : List EntryValue) → length es ≡ sum_by (λ e. verbs_in e.event) es + sum_by (λ e. turns_in e.event) es
entries-count [] = refl
entries-count (e ∷ es) = omega (arith, entries-count es, sum_by-cons (λ (e : EntryValue). verbs_in e.event) e es, sum_by-cons (λ (e : EntryValue). turns_in e.event) e es, one (turning e.event))
  where
    one : (o : Option QueueId) → option_map_or (λ n. 0) o 1 + option_map_or (λ n. 1) o 0 ≡ 1
    one None = refl
    one (Some n) = refl

pub histories-bounded : (c : Configuration) (bytes : ByteMap) (es : List EntryValue) → AreLimited c → AllByRecursion (λ e. CanBeMade e.event) es → Follows c bytes es → AllGoForward c (opening_world bytes) es
    → length es ≤ sum_by (λ e. verbs_in e.event) es + 4 * sum_by (λ e. packets_in e.event) es
histories-bounded c bytes es limited made follows forward = omega (arith, entries-count es, turns-bounded c bytes es limited made follows forward)
