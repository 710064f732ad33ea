-- A history that follows the machine, entry by entry: what stands before each, and what each makes of it. For proofs only.
use Rattle.std.proofs.Common.{◌≡◌, ℕ, suc, ◌&&◌, Bool, true, false, List, [], ◌∷◌, map, Ok, Err, ap, subst, true≢false, ◌∙◌, refl}
use Rattle.std.proofs.lemmas.Bool.{and_parts}
use Rattle.std.specs.List.{AllByRecursion}
use Rattle.ca_law_endings.proofs.EventFitLemmas.{first-marks}
use Rattle.ca_law_endings.proofs.IndexLemmas.{indices-along}
use Rattle.ca_law_endings.proofs.PathEventLemmas.{event-agrees, opening-agrees}
use Rattle.ca_law_endings.specs.Agreement.{HoldsAlong, PathsAgree}
use Rattle.ca_law_endings.specs.Indices.{has_its_index}
use Rattle.ca_law_endings.specs.Runs.{Comes}
use Rattle.ca_law_carried.proofs.Accesses.EventLemmas.{packets-along}
use Rattle.ca_law_carried.specs.Asked.{has_its_packet}
use Rattle.ca_law_keys.proofs.Posts.PostLaws.{posts-along}
use Rattle.ca_law_keys.specs.Posts.{PostsAgree}
use Rattle.ca_base.specs.Configuration.{Configuration}
use Rattle.ca_base.specs.declared.correspondent.Correspondent.{Correspondent}
use Rattle.ca_connection.specs.Layout.{Direction}
use Rattle.ca_connection.specs.Link.{Link}
use Rattle.ca_law_keys.proofs.Judged.JudgeEventLemmas.{judged-along}
use Rattle.ca_keys.specs.Memory.{ByteMap}
use Rattle.ca_law_world.proofs.Sound.SoundLemmas.{event-sound, opening-sound}
use Rattle.ca_law_world.proofs.Steady.EventLemmas.{event-steady, opening-steady}
use Rattle.ca_law_world.specs.Steady.{IsSteadyWorld}
use Rattle.ca_model.specs.Entries.{EntryValue}
use Rattle.ca_model.specs.Judged.{is_judged}
use Rattle.ca_model.specs.Past.{Past, after_entry, after_marks, at_begin, each_entry, each_mark, opening_past}
use Rattle.ca_model.specs.declared.event.Event.{Event}
use Rattle.ca_model.specs.declared.event.Event.TheVariants as events
use Rattle.ca_model.specs.declared.mark.Mark.{Mark}
use Rattle.ca_model.specs.machine.Frame.{Afterwards}
use Rattle.ca_model.specs.machine.Plan.{Did, NotReady, Outcome}
use Rattle.ca_model.specs.machine.Run.{Follows, Ran, go_on, run_from}
use Rattle.ca_model.specs.machine.Sound.{AreLimited, CanBeMade, IsSoundWorld}
use Rattle.ca_model.specs.machine.Step.{step}
use Rattle.ca_model.specs.machine.World.{World, opening_world}
use Rattle.ca_law_once.proofs.Once.LastingLemmas.{Lasting, event-lasts}
use Rattle.ca_law_once.proofs.Once.RightLemmas.{AreRight, AsAnswered, IsGone, event-gone, event-right}
use Rattle.ca_law_once.proofs.Once.ShapeLemmas.{Meets, event-meets}
use Rattle.ca_law_once.proofs.Once.StepTolds.{TiedFor}
use Rattle.ca_law_once.proofs.Success.EventFound.{event-found as event-successes}
use Rattle.ca_law_once.proofs.Success.ListLemmas.{event-lists, opening-lists}
use Rattle.ca_law_once.specs.Lists.{AtomicListsFit}
use Rattle.ca_law_once.specs.Success.{AreFound}
use Rattle.ca_law_once.proofs.Ties.FollowLemmas.{paths-follow}
use Rattle.ca_law_once.proofs.Ties.TurnTies.{request-turn, respond-turn}
use Rattle.ca_law_once.specs.Ties.{IsTied, TurnAfter}
use Rattle.ca_law_once.proofs.Verbs.BeginEvents.{event-begins, opening-begins}
use Rattle.ca_law_once.proofs.Verbs.EventTies.{event-ties}
use Rattle.ca_law_once.specs.Agrees.{AgreesWith}
use Rattle.ca_law_once.specs.Beginnings.{AllBeginEmpty}

-- what stands before an entry, and at the end
pub record Stands (c : Configuration) (past : Past) (w : World) : Type 0 where
  pub sound : IsSoundWorld c w
  pub paths : PathsAgree past w
  pub posts : PostsAgree past w
  pub empty : AllBeginEmpty w
  pub steady : IsSteadyWorld w
  pub lists : AtomicListsFit w

-- what an entry is, and what it makes of a tied link
pub record Steps (c : Configuration) (past : Past) (w : World) (event : Event) (ms : List Mark) (v : World) : Type 0 where
  pub comes : step c w event ≡ Did v ms
  pub paths : PathsAgree (after_marks ms (at_begin event past)) v
  pub meets : Meets w event ms
  pub right : AreRight w ms
  pub gone : AsAnswered (IsGone v) ms
  pub lasting : Lasting w v
  pub indexed : each_mark has_its_index (at_begin event past) ms ≡ true
  pub carried : each_mark has_its_packet (at_begin event past) ms ≡ true
  pub judged : each_mark is_judged (at_begin event past) ms ≡ true
  pub ties : (d : Direction) (s r : Correspondent) (l : Link) → IsTied d s r w l → AgreesWith d s r w ms → TiedFor d s r w l event ms v
  pub found : (d : Direction) (s r : Correspondent) (l : Link) → IsTied d s r w l → AgreesWith d s r w ms → AreFound d s w l ms ms

-- all entries, one after the other
abbrev pub Walk : Configuration → Past → World → List EntryValue → Type 0
Walk c past w [] = Stands c past w
Walk c past w (e ∷ es) = Stands c past w × ((v : World) × Steps c past w e.event e.marks v × Walk c (after_entry e past) v es)

-- ---- one step

-- what comes for every link
every-link : (w : World) (event : Event) (P : Direction → Correspondent → Correspondent → Link → World → List Mark → Type 0) (o : Outcome)
    → ((d : Direction) (s r : Correspondent) (l : Link) → IsTied d s r w l → Comes (λ v ms. AgreesWith d s r w ms → P d s r l v ms) o)
    → Comes (λ v ms. (d : Direction) (s r : Correspondent) (l : Link) → IsTied d s r w l → AgreesWith d s r w ms → P d s r l v ms) o
every-link w event P (NotReady reason) all = record {}
every-link w event P (Did v ms) all = all

turn-link : (d : Direction) (s r : Correspondent) (w : World) (l : Link) (o : Outcome) → Comes (λ v ms. TurnAfter d s r w l ms v) o → Comes (λ v ms. AgreesWith d s r w ms → TurnAfter d s r w l ms v) o
turn-link d s r w l (NotReady reason) turn = record {}
turn-link d s r w l (Did v ms) turn = λ agrees. turn

event-links : (c : Configuration) (past : Past) (w : World) (event : Event) → Stands c past w
    → Comes (λ v ms. (d : Direction) (s r : Correspondent) (l : Link) → IsTied d s r w l → AgreesWith d s r w ms → TiedFor d s r w l event ms v) (step c w event)
event-links c past w (events.Verb by verb) stands = every-link w (events.Verb by verb) (λ d s r l v ms. TiedFor d s r w l (events.Verb by verb) ms v) (step c w (events.Verb by verb))
    (λ d s r l tied. event-ties d s r c w l (events.Verb by verb) stands.sound (paths-follow past w stands.paths) stands.empty tied)
event-links c past w (events.Request queue lot) stands = every-link w (events.Request queue lot) (λ d s r l v ms. TiedFor d s r w l (events.Request queue lot) ms v) (step c w (events.Request queue lot))
    (λ d s r l tied. turn-link d s r w l (step c w (events.Request queue lot)) (request-turn d s r c w l queue lot stands.sound (paths-follow past w stands.paths) tied))
event-links c past w (events.Deliver queue index) stands = every-link w (events.Deliver queue index) (λ d s r l v ms. TiedFor d s r w l (events.Deliver queue index) ms v) (step c w (events.Deliver queue index))
    (λ d s r l tied. event-ties d s r c w l (events.Deliver queue index) stands.sound (paths-follow past w stands.paths) stands.empty tied)
event-links c past w (events.Respond queue lot) stands = every-link w (events.Respond queue lot) (λ d s r l v ms. TiedFor d s r w l (events.Respond queue lot) ms v) (step c w (events.Respond queue lot))
    (λ d s r l tied. turn-link d s r w l (step c w (events.Respond queue lot)) (respond-turn d s r c w l queue lot stands.sound (paths-follow past w stands.paths) tied))
event-links c past w (events.Timeout queue hasten) stands = every-link w (events.Timeout queue hasten) (λ d s r l v ms. TiedFor d s r w l (events.Timeout queue hasten) ms v) (step c w (events.Timeout queue hasten))
    (λ d s r l tied. event-ties d s r c w l (events.Timeout queue hasten) stands.sound (paths-follow past w stands.paths) stands.empty tied)
event-links c past w (events.RnrWake queue) stands = every-link w (events.RnrWake queue) (λ d s r l v ms. TiedFor d s r w l (events.RnrWake queue) ms v) (step c w (events.RnrWake queue))
    (λ d s r l tied. event-ties d s r c w l (events.RnrWake queue) stands.sound (paths-follow past w stands.paths) stands.empty tied)

event-found : (c : Configuration) (past : Past) (w : World) (event : Event) → Stands c past w
    → Comes (λ v ms. (d : Direction) (s r : Correspondent) (l : Link) → IsTied d s r w l → AgreesWith d s r w ms → AreFound d s w l ms ms) (step c w event)
event-found c past w event stands = every-link w event (λ d s r l v ms. AreFound d s w l ms ms) (step c w event)
    (λ d s r l tied. event-successes d s r c w l event stands.sound stands.steady stands.lists tied)

-- what comes of an event
record Came (c : Configuration) (past : Past) (w : World) (event : Event) (v : World) (ms : List Mark) : Type 0 where
  sound : IsSoundWorld c v
  paths : PathsAgree (after_marks ms (at_begin event past)) v
  empty : AllBeginEmpty v
  steady : IsSteadyWorld v
  lists : AtomicListsFit v
  meets : Meets w event ms
  right : AreRight w ms
  gone : AsAnswered (IsGone v) ms
  lasting : Lasting w v
  ties : (d : Direction) (s r : Correspondent) (l : Link) → IsTied d s r w l → AgreesWith d s r w ms → TiedFor d s r w l event ms v
  found : (d : Direction) (s r : Correspondent) (l : Link) → IsTied d s r w l → AgreesWith d s r w ms → AreFound d s w l ms ms

event-came : (c : Configuration) (past : Past) (w : World) (event : Event) → AreLimited c → CanBeMade event → Stands c past w → Comes (Came c past w event) (step c w event)
event-came c past w event limited made stands = by (step c w event) (event-sound c event w limited stands.sound made) (event-agrees c past w event stands.sound stands.paths)
    (event-begins c w event stands.sound (paths-follow past w stands.paths) stands.empty) (event-meets c w event stands.sound) (event-right c w event stands.sound stands.empty) (event-gone c w event stands.sound)
    (event-lasts c w event stands.sound) (event-links c past w event stands) (event-steady c event w stands.sound stands.steady) (event-lists c w event stands.sound stands.lists) (event-found c past w event stands)
  where
    by : (o : Outcome) → Afterwards (IsSoundWorld c) o → Comes (λ v ms. PathsAgree (after_marks ms (at_begin event past)) v) o → Comes (λ v ms. AllBeginEmpty v) o → Comes (λ v ms. Meets w event ms) o
        → Comes (λ v ms. AreRight w ms) o → Comes (λ v ms. AsAnswered (IsGone v) ms) o → Comes (λ v ms. Lasting w v) o
        → Comes (λ v ms. (d : Direction) (s r : Correspondent) (l : Link) → IsTied d s r w l → AgreesWith d s r w ms → TiedFor d s r w l event ms v) o
        → Afterwards IsSteadyWorld o → Comes (λ v ms. AtomicListsFit v) o → Comes (λ v ms. (d : Direction) (s r : Correspondent) (l : Link) → IsTied d s r w l → AgreesWith d s r w ms → AreFound d s w l ms ms) o
        → Comes (Came c past w event) o
    by (NotReady reason) sound paths empty meets right gone lasting ties steady lists found = record {}
    by (Did v ms) sound paths empty meets right gone lasting ties steady lists found = record { steady = steady; lists = lists; found = found; sound = sound; paths = paths; empty = empty; meets = meets; right = right; gone = gone; lasting = lasting; ties = ties }

-- ---- all steps

first-entry : (test : Past → Mark → Bool) (past : Past) (e : EntryValue) (es : List EntryValue) → each_entry test (λ p. true) past (e ∷ es) ≡ true
    → (each_mark test (at_begin e.event past) e.marks ≡ true) × (each_entry test (λ p. true) (after_entry e past) es ≡ true)
first-entry test past e es all = let parts = and_parts (each_mark test (at_begin e.event past) e.marks && true) (each_entry test (λ p. true) (after_entry e past) es) all in
    ((and_parts (each_mark test (at_begin e.event past) e.marks) true parts.0).0, parts.1)

walk : (c : Configuration) (n : ℕ) (es : List EntryValue) (past : Past) (w : World) → AreLimited c → AllByRecursion (λ e. CanBeMade e.event) es → IsSoundWorld c w → PathsAgree past w → AllBeginEmpty w → IsSteadyWorld w → AtomicListsFit w
    → HoldsAlong PostsAgree c past w es → each_entry has_its_index (λ p. true) past es ≡ true → each_entry has_its_packet (λ p. true) past es ≡ true → each_entry is_judged (λ p. true) past es ≡ true
    → run_from c n w (map (λ e. e.event) es) ≡ Ok (map (λ e. e.marks) es) → Walk c past w es
walk c n [] past w limited made sound paths empty steady lists posts indexed carried judged follows = record { sound = sound; paths = paths; posts = posts; empty = empty; steady = steady; lists = lists }
walk c n (e ∷ es) past w limited made sound paths empty steady lists posts indexed carried judged follows = (
  stands,
  by (step c w e.event) refl (event-came c past w e.event limited made.0 stands) posts.1 follows
      (λ v came next told. walk c (suc n) es (after_entry e past) v limited made.1 came.sound came.paths came.empty came.steady came.lists next (first-entry has_its_index past e es indexed).1
      (first-entry has_its_packet past e es carried).1 (first-entry is_judged past e es judged).1 told),
)
  where
    stands : Stands c past w
    stands = record { sound = sound; paths = paths; posts = posts.0; empty = empty; steady = steady; lists = lists }

    Rest : Type 0
    Rest = (v : World) → Came c past w e.event v e.marks → HoldsAlong PostsAgree c (after_entry e past) v es → run_from c (suc n) v (map (λ e. e.event) es) ≡ Ok (map (λ e. e.marks) es) → Walk c (after_entry e past) v es

    stopped : Ran → Bool
    stopped (Ok told) = false
    stopped (Err stop) = true

    by : (o : Outcome) → step c w e.event ≡ o → Comes (Came c past w e.event) o → Afterwards (λ v. HoldsAlong PostsAgree c (after_entry e past) v es) o
        → go_on n o (λ v. run_from c (suc n) v (map (λ e. e.event) es)) ≡ Ok (e.marks ∷ map (λ e. e.marks) es) → Rest
        → (v : World) × Steps c past w e.event e.marks v × Walk c (after_entry e past) v es
    by (NotReady reason) comes came next follows rest = absurd (true≢false (ap stopped follows))
    by (Did v ms) comes came next follows rest = at (first-marks ms e.marks (run_from c (suc n) v (map (λ e. e.event) es)) (map (λ e. e.marks) es) follows)
      where
        at : (ms ≡ e.marks) × (run_from c (suc n) v (map (λ e. e.event) es) ≡ Ok (map (λ e. e.marks) es)) → (v : World) × Steps c past w e.event e.marks v × Walk c (after_entry e past) v es
        at told = let own = subst (Came c past w e.event v) told.0 came in (
          v,
          record {
            comes = comes ∙ ap (Did v) told.0;
            paths = own.paths;
            meets = own.meets;
            right = own.right;
            gone = own.gone;
            lasting = own.lasting;
            indexed = (first-entry has_its_index past e es indexed).0;
            carried = (first-entry has_its_packet past e es carried).0;
            judged = (first-entry is_judged past e es judged).0;
            ties = own.ties;
            found = own.found;
          },
          rest v own next told.1,
        )

pub walk-along : (c : Configuration) (bytes : ByteMap) (es : List EntryValue) → AreLimited c → AllByRecursion (λ e. CanBeMade e.event) es → Follows c bytes es → Walk c (opening_past bytes) (opening_world bytes) es
walk-along c bytes es limited made follows = walk c 0 es (opening_past bytes) (opening_world bytes) limited made (opening-sound c bytes) (opening-agrees bytes) (opening-begins bytes) (opening-steady bytes) (opening-lists bytes)
    (posts-along c bytes es limited made follows) (indices-along c bytes es limited made follows) (packets-along c bytes es limited made follows) (judged-along c bytes es limited made follows) follows
