-- Along a history in calm weather the cursor of each end of a clean connection goes on. For proofs only.
use Rattle.std.proofs.Common.{◌≡◌, ◌≤◌, ◌&&◌, ◌==◌, not, ℕ, Bool, true, false, List, [], ◌∷◌, ◌⊎◌, inl, inr, refl, ap, ap₂, sym, subst, arith, true≢false}
use Rattle.std.proofs.lemmas.Bool.Decides.{nat_tests}
use Rattle.std.specs.List.{AllByRecursion, Contains}
use Rattle.std.specs.Prelude.{IsTrue}
use Rattle.ca_law_endings.specs.Runs.{Comes}
use Rattle.ca_base.specs.Configuration.{Configuration}
use Rattle.ca_base.specs.declared.limits.TheConstants.{MIN_PATH_MTU}
use Rattle.ca_law_bounds.specs.CalmRuns.{CursorGoesOnAlong, IsCalmRun}
use Rattle.ca_connection.proofs.ListLemmas.{contains-cases}
use Rattle.ca_connection.specs.Layout.{Direction}
use Rattle.ca_connection.specs.Link.{Link, opening}
use Rattle.ca_connection.specs.Moves.{Reached}
use Rattle.ca_connection.specs.Moves.Reached.{begin, move}
use Rattle.ca_connection.specs.Calm.{CalmLink, calm_opening}
use Rattle.ca_keys.specs.Equal.{queue_eq}
use Rattle.ca_keys.specs.Memory.{ByteMap}
use Rattle.ca_keys.specs.declared.names.QueueId.{QueueId}
use Rattle.ca_model.specs.Entries.{EntryValue}
use Rattle.ca_model.specs.Once.{begins_as_expected, is_clean_pair, is_not_injected}
use Rattle.ca_model.specs.Past.{Naming, Past, after_entries, after_entry, after_marks, at_begin, correspondent_eq, opening_past}
use Rattle.ca_model.specs.machine.Frame.{Afterwards}
use Rattle.ca_model.specs.machine.Run.{Follows}
use Rattle.ca_model.specs.machine.Sound.{AreLimited, CanBeMade}
use Rattle.ca_model.specs.machine.World.{World, opening_world}
use Rattle.ca_law_once.proofs.Once.AgreeLemmas.{IsConnection, marks-agree}
use Rattle.ca_law_once.proofs.Once.NoteLemmas.{Among, Grows}
use Rattle.ca_law_once.proofs.Once.OnceLemmas.{IsStarted, connection-started, entry-to-end, next-told}
use Rattle.ca_law_once.proofs.Once.RunLemmas.{Stands, Steps, Walk}
use Rattle.ca_law_once.proofs.Once.StepTolds.{ToldAfter}
use Rattle.ca_law_once.specs.Connections.{direction_of}
use Rattle.ca_law_once.specs.OnceTold.{IsTold}
use Rattle.ca_law_once.proofs.Ties.FollowLemmas.{paths-follow}
use Rattle.ca_law_lossless.proofs.EventCalm.{event-calm, opening-calmly}
use Rattle.ca_law_lossless.specs.CalmEvents.{AreCalm, IsCalmEvent}
use Rattle.ca_law_lossless.specs.CalmTies.{CalmAfter, CursorGoesOn, IsCalmlyTied}
use Rattle.ca_law_once.specs.Agrees.{AgreesWith, acted_by, written_by}

-- ---- one connection

-- what is told of a clean connection, and its calm link
pub record IsCalmlyTold (end past : Past) (w : World) (a b : Naming) : Type 0 where
  pub con : IsConnection end a b
  pub link : Link
  pub told : IsTold (direction_of end a b) a.own b.own past w link
  pub calm : CalmLink
  pub tied : IsCalmlyTied (direction_of end a b) a.own b.own w calm

-- the same after an entry, and the cursor
pub record IsCalmlyTo (end past : Past) (w v : World) (a b : Naming) : Type 0 where
  pub next : IsCalmlyTold end past v a b
  pub cursor : CursorGoesOn a.own w v

pub entry-calm : (c : Configuration) (end : Past) (a b : Naming) (e : EntryValue) (past : Past) (w v : World) → Grows (after_marks e.marks (at_begin e.event past)) end → Stands c past w → Steps c past w e.event e.marks v
    → IsCalmEvent w e.event → AreCalm e.marks → IsCalmlyTold end past w a b → IsCalmlyTo end (after_entry e past) w v a b
entry-calm c end a b e past w v grows stands steps weather calm is = record {
  next = record { con = is.con; link = next.after.link; told = next.told; calm = after.link; tied = after.tied };
  cursor = after.cursor;
}
  where
    d : Direction
    d = direction_of end a b

    agrees : AgreesWith d a.own b.own w e.marks
    agrees = marks-agree end a b is.con past w e.event stands.paths stands.posts e.marks grows

    next : ToldAfter d a.own b.own (after_entry e past) w is.link (acted_by b.own w is.link e.event e.marks) (written_by b.own w is.link e.event e.marks) v
    next = next-told c end a b e past w v is.link is.con grows stands steps is.told

    after : CalmAfter d a.own b.own w v
    after = subst (Comes (λ u ms. AreCalm ms → AgreesWith d a.own b.own w ms → CalmAfter d a.own b.own w u)) steps.comes
        (event-calm d a.own b.own c w is.link is.calm e.event stands.sound (paths-follow past w stands.paths) stands.empty is.told.tied is.tied weather) calm agrees

calm-along : (c : Configuration) (end : Past) (a b : Naming) (es : List EntryValue) (past : Past) (w : World) → end ≡ after_entries es past → Walk c past w es → IsCalmlyTold end past w a b → IsCalmRun c w es
    → CursorGoesOnAlong a.own c w es
calm-along c end a b [] past w is walk told run = tt
calm-along c end a b (e ∷ es) past w is walk told run = subst (Afterwards (λ u. CursorGoesOn a.own w u × CursorGoesOnAlong a.own c u es)) (sym steps.comes)
    (to.cursor, calm-along c end a b es (after_entry e past) v is walk.1.2 to.next (subst (Afterwards (λ u. IsCalmRun c u es)) steps.comes run.2))
  where
    v : World
    v = walk.1.0

    steps : Steps c past w e.event e.marks v
    steps = walk.1.1

    to : IsCalmlyTo end (after_entry e past) w v a b
    to = entry-calm c end a b e past w v (entry-to-end end e es past is) walk.0 steps run.0 run.1 told

-- ---- before the first entry

-- the path MTU of a link that moves lead to is one of those that there are
reached-wide : (d : Direction) (l : Link) → Reached d l → MIN_PATH_MTU ≤ d.mtu
reached-wide d _ (begin wide) = wide
reached-wide d _ (move reached step) = reached-wide d _ reached

pub opening-told : (c : Configuration) (bytes : ByteMap) (es : List EntryValue) (a b : Naming) → IsStarted c bytes es a b → IsCalmlyTold (after_entries es (opening_past bytes)) (opening_past bytes) (opening_world bytes) a b
opening-told c bytes es a b started = record {
  con = started.con;
  link = opening d;
  told = started.told;
  calm = calm_opening d;
  tied = opening-calmly d a.own b.own bytes (reached-wide d (opening d) started.told.tied.reached);
}
  where
    d : Direction
    d = direction_of (after_entries es (opening_past bytes)) a b

among-of : {A : Type 0} (xs : List A) (x : A) → Contains xs x → Among x xs
among-of [] x (k, below, is) = absurd (omega (arith, below))
among-of (y ∷ xs) x has = by (contains-cases y x xs has) (among-of xs x)
  where
    by : (y ≡ x) ⊎ Contains xs x → (Contains xs x → Among x xs) → (y ≡ x) ⊎ Among x xs
    by (inl here) rest = inl here
    by (inr there) rest = inr (rest there)

pub cursors-go-on : (c : Configuration) (bytes : ByteMap) (es : List EntryValue) (a b : Naming) → AreLimited c → AllByRecursion (λ e. CanBeMade e.event) es → Follows c bytes es → IsCalmRun c (opening_world bytes) es
    → Contains (after_entries es (opening_past bytes)).namings a → Contains (after_entries es (opening_past bytes)).namings b → IsTrue (is_clean_pair (after_entries es (opening_past bytes)) a b)
    → CursorGoesOnAlong a.own c (opening_world bytes) es
cursors-go-on c bytes es a b limited made follows calm a_in b_in clean = calm-along c end a b es (opening_past bytes) (opening_world bytes) refl started.walk (opening-told c bytes es a b started) calm
  where
    end : Past
    end = after_entries es (opening_past bytes)

    started : IsStarted c bytes es a b
    started = connection-started c bytes es a b limited made follows (among-of end.namings a a_in) (among-of end.namings b b_in) clean

-- ---- from the other end

eight-parts : (t0 t1 t2 t3 t4 t5 t6 t7 : Bool) → (t0 && t1 && t2 && t3 && t4 && t5 && t6 && t7) ≡ true → (t0 && t2 && t1 && t3 && t5 && t4 && t7 && t6) ≡ true
eight-parts true true true true true true true true is = refl
eight-parts false t1 t2 t3 t4 t5 t6 t7 is = absurd (true≢false (sym is))
eight-parts true false t2 t3 t4 t5 t6 t7 is = absurd (true≢false (sym is))
eight-parts true true false t3 t4 t5 t6 t7 is = absurd (true≢false (sym is))
eight-parts true true true false t4 t5 t6 t7 is = absurd (true≢false (sym is))
eight-parts true true true true false t5 t6 t7 is = absurd (true≢false (sym is))
eight-parts true true true true true false t6 t7 is = absurd (true≢false (sym is))
eight-parts true true true true true true false t7 is = absurd (true≢false (sym is))
eight-parts true true true true true true true false is = absurd (true≢false (sym is))

number-turned : (m n : ℕ) → (m == n) ≡ (n == m)
number-turned m n = grind (arith, nat_tests)

queue-turned : (x y : QueueId) → queue_eq x y ≡ queue_eq y x
queue-turned x y = ap₂ (λ p q. p && q) (number-turned x.adapter y.adapter) (number-turned x.number y.number)

-- a clean connection is clean from either end
pub clean-back : (past : Past) (a b : Naming) → a.mtu ≡ b.mtu → is_clean_pair past a b ≡ true → is_clean_pair past b a ≡ true
clean-back past a b same clean = subst (λ t. (t && t2 && t1 && (b.mtu == a.mtu) && t5 && t4 && t7 && t6) ≡ true) (ap not (queue-turned a.own.queue b.own.queue))
    (subst (λ t. (t0 && t2 && t1 && t && t5 && t4 && t7 && t6) ≡ true) (ap₂ (λ x y. x == y) same (sym same)) (eight-parts t0 t1 t2 (a.mtu == b.mtu) t4 t5 t6 t7 clean))
  where
    t0 : Bool
    t0 = not (queue_eq a.own.queue b.own.queue)

    t1 : Bool
    t1 = correspondent_eq a.peer b.own

    t2 : Bool
    t2 = correspondent_eq b.peer a.own

    t4 : Bool
    t4 = begins_as_expected past a.own b

    t5 : Bool
    t5 = begins_as_expected past b.own a

    t6 : Bool
    t6 = is_not_injected past a.own

    t7 : Bool
    t7 = is_not_injected past b.own
