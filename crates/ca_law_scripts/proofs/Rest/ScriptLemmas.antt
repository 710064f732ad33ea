-- Where a script's order ends before all its events are made, each queue pair is at rest. For proofs only.
use Rattle.std.proofs.Common.{◌≡◌, ℕ, zero, suc, Bool, true, false, if◌then◌else◌, nat_le, List, [], ◌∷◌, slice_set, Ok, Option, None, Some, sym, ◌∙◌}
use Rattle.std.specs.List.{AllByRecursion}
use Rattle.std.specs.Option.{option_map, option_map_or}
use Rattle.ca_law_endings.proofs.PathEventLemmas.{event-agrees, opening-agrees}
use Rattle.ca_law_endings.specs.Agreement.{PathsAgree}
use Rattle.ca_law_endings.specs.Runs.{Comes}
use Rattle.ca_base.specs.Configuration.{Configuration}
use Rattle.ca_base.specs.objects.Mailbox.{due}
use Rattle.ca_base.specs.objects.QueuePair.{Present, QueuePair}
use Rattle.ca_keys.specs.Memory.{zeros}
use Rattle.ca_keys.specs.declared.names.QueueId.{QueueId}
use Rattle.ca_law_parts.proofs.Names.PlacedLemmas.{event-placed, opening-placed}
use Rattle.ca_law_parts.specs.Placed.{IsPlacedWorld}
use Rattle.ca_law_world.proofs.Sound.SoundLemmas.{event-sound, opening-sound}
use Rattle.ca_law_world.proofs.Steady.EventLemmas.{event-steady, opening-steady}
use Rattle.ca_law_world.specs.Steady.{IsSteadyWorld}
use Rattle.ca_model.specs.Past.{Past, after_marks, at_begin, opening_past}
use Rattle.ca_model.specs.declared.event.Event.{Event}
use Rattle.ca_model.specs.declared.event.Event.TheVariants as events
use Rattle.ca_model.specs.declared.mark.Mark.{Mark}
use Rattle.ca_model.specs.machine.Frame.{Afterwards}
use Rattle.ca_model.specs.machine.Plan.{Did, NotReady, Outcome}
use Rattle.ca_model.specs.machine.Sound.{AreLimited, CanBeMade, IsSoundWorld}
use Rattle.ca_model.specs.machine.Step.{step}
use Rattle.ca_model.specs.machine.World.{World}
use Rattle.ca_script_order.proofs.KeepLemmas.{kept-rounds}
use Rattle.ca_script_order.proofs.StatusLemmas.{order-status}
use Rattle.ca_script_order.specs.OfScript.{BudgetSpent, Fine, HasStatus, IsQuietEnd, Stalled, Status, status_of}
use Rattle.ca_script_order.specs.Order.{Stage, after_event, after_line, after_outcome, after_visit, ending, lines_of, most_rounds, opening_stage, with_lines_left}
use Rattle.ca_script_order.specs.Visits.{Consumer, Engine, Visit}
use Rattle.ca_law_scripts.proofs.Rest.QuietLemmas.{quiet-rests}
use Rattle.ca_law_scripts.proofs.Rest.TextLemmas.{text-callable, text-limited}
use Rattle.ca_law_scripts.specs.Rest.{AcceptsPeers, AreCallable, IsAtRest, IsCallable, IsQuietStatus}
use Rattle.ca_script.specs.Script.{ScriptValue, script_of}
use Rattle.ca_script_lines.specs.declared.Line.{Line}
use Rattle.ca_script_lines.specs.declared.what.What.{What}
use Rattle.ca_script_lines.specs.declared.what.What.TheVariants as whats
use Rattle.ca_model_places.specs.Turns.{hasten_at, lot_at}
use Rattle.ca_base.specs.declared.step.Turn.{Turn}
use Rattle.ca_base.specs.declared.step.Turn.TheVariants as turns

-- a world that comes up: what laws say of it, and a past that agrees with it on paths
record IsWorldUp (c : Configuration) (w : World) : Type 0 where
  sound : IsSoundWorld c w
  placed : IsPlacedWorld c w
  steady : IsSteadyWorld w
  past : Past
  agree : PathsAgree past w

up-joined : (c : Configuration) (past : List Mark → Past) (o : Outcome) → Afterwards (IsSoundWorld c) o → Afterwards (IsPlacedWorld c) o → Afterwards IsSteadyWorld o
    → Comes (λ v ms. PathsAgree (past ms) v) o → Afterwards (IsWorldUp c) o
up-joined c past (NotReady reason) sound placed steady agree = record {}
up-joined c past (Did w ms) sound placed steady agree = record { sound = sound; placed = placed; steady = steady; past = past ms; agree = agree }

event-up : (c : Configuration) (event : Event) (w : World) → AreLimited c → CanBeMade event → IsWorldUp c w → Afterwards (IsWorldUp c) (step c w event)
event-up c event w limited can up = up-joined c (λ ms. after_marks ms (at_begin event up.past)) (step c w event)
    (event-sound c event w limited up.sound can)
    (event-placed c event w limited up.sound up.placed)
    (event-steady c event w up.sound up.steady)
    (event-agrees c up.past w event up.sound up.agree)

-- each mailbox accepts the peer that its queue pair named
accepts : (c : Configuration) (w : World) → IsWorldUp c w → AcceptsPeers w
accepts c w up q = up.agree.accepted q ∙ sym (up.agree.peers q)

-- the world of a stage comes up, and the verbs of all lines that are left can be made
record IsUp (s : ScriptValue) (g : Stage) : Type 0 where
  world : IsWorldUp s.config g.world
  lines : AreCallable g.left

up-made : (s : ScriptValue) (event : Event) (done : Stage → Stage) → AreLimited s.config → CanBeMade event → ((g : Stage) → IsUp s g → IsUp s (done g)) → (g : Stage) → IsUp s g → IsUp s (after_event s event done g)
up-made s event done limited can also g up = by (step s.config g.world event) (event-up s.config event g.world limited can up.world)
  where
    by : (o : Outcome) → Afterwards (IsWorldUp s.config) o → IsUp s (after_outcome event o done g)
    by (NotReady reason) world = up
    by (Did w ms) world = also _ (record { world = world; lines = up.lines })

-- a consumer's lines, and those of all where its first is done
pub lines-callable : (k : ℕ) (left : List (List Line)) → AreCallable left → AllByRecursion (λ line. IsCallable line.what) (lines_of k left)
lines-callable k [] all = record {}
lines-callable zero (x ∷ xs) all = all.0
lines-callable (suc k) (x ∷ xs) all = lines-callable k xs all.1

pub set-callable : (k : ℕ) (left : List (List Line)) (rest : List Line) → AreCallable left → AllByRecursion (λ line. IsCallable line.what) rest → AreCallable (slice_set left k rest)
set-callable k [] rest all some = record {}
set-callable zero (x ∷ xs) rest all some = (some, all.1)
set-callable (suc k) (x ∷ xs) rest all some = (all.0, set-callable k xs rest all.1 some)

up-left : (s : ScriptValue) (k : ℕ) (rest : List Line) (g : Stage) → AllByRecursion (λ line. IsCallable line.what) rest → IsUp s g → IsUp s (with_lines_left k rest g)
up-left s k rest g some up = record { world = up.world; lines = set-callable k g.left rest up.lines some }

up-line : (s : ScriptValue) (k : ℕ) (lines : List Line) (g : Stage) → AreLimited s.config → AllByRecursion (λ line. IsCallable line.what) lines → IsUp s g → IsUp s (after_line s k lines g)
up-line s k [] g limited all up = up
up-line s k (line ∷ rest) g limited all up = by line.what all.0
  where
    done : What → Stage
    done (whats.Verb verb) = after_event s (events.Verb k verb) (with_lines_left k rest) g
    done (whats.At t) = if nat_le t g.count then with_lines_left k rest g else g

    at : (b : Bool) → IsUp s (if b then with_lines_left k rest g else g)
    at true = up-left s k rest g all.1 up
    at false = up

    by : (what : What) → IsCallable what → IsUp s (done what)
    by (whats.Verb verb) can = up-made s (events.Verb k verb) (with_lines_left k rest) limited can (λ h so. up-left s k rest h all.1 so) g up
    by (whats.At t) can = at (nat_le t g.count)

up-turn : (s : ScriptValue) (turn : Turn) (g : Stage) → AreLimited s.config → IsUp s g → IsUp s (after_visit s (Engine turn) g)
up-turn s (turns.Request q) g limited up = up-made s (events.Request q (lot_at s.weather g.world q)) (λ h. h) limited (record {}) (λ h so. so) g up
up-turn s (turns.Due q) g limited up = by (due (g.world.mailbox q))
  where
    by : (o : Option ℕ) → IsUp s (option_map_or (λ event. after_event s event (λ h. h) g) (option_map (events.Deliver q) o) g)
    by None = up
    by (Some index) = up-made s (events.Deliver q index) (λ h. h) limited (record {}) (λ h so. so) g up
up-turn s (turns.Deliver q index) g limited up = up-made s (events.Deliver q index) (λ h. h) limited (record {}) (λ h so. so) g up
up-turn s (turns.Respond q) g limited up = up-made s (events.Respond q (lot_at s.weather g.world q)) (λ h. h) limited (record {}) (λ h so. so) g up
up-turn s (turns.Timeout q) g limited up = up-made s (events.Timeout q (hasten_at s.weather g.world q)) (λ h. h) limited (record {}) (λ h so. so) g up
up-turn s (turns.RnrWake q) g limited up = up-made s (events.RnrWake q) (λ h. h) limited (record {}) (λ h so. so) g up

up-visit : (s : ScriptValue) → AreLimited s.config → (v : Visit) (g : Stage) → IsUp s g → IsUp s (after_visit s v g)
up-visit s limited (Consumer k) g up = up-line s k (lines_of k g.left) g limited (lines-callable k g.left up.lines) up
up-visit s limited (Engine turn) g up = up-turn s turn g limited up

ending-up : (s : ScriptValue) → AreLimited s.config → AreCallable s.consumers → IsUp s (ending s)
ending-up s limited callable = kept-rounds s (IsUp s) (λ g up. record { world = up.world; lines = up.lines }) (up-visit s limited) (most_rounds s) (opening_stage s) (record {
  world = record {
    sound = opening-sound s.config zeros;
    placed = opening-placed s.config zeros;
    steady = opening-steady zeros;
    past = opening_past zeros;
    agree = opening-agrees zeros;
  };
  lines = callable;
})

pub script-rests : (s : ScriptValue) → AreLimited s.config → AreCallable s.consumers → IsQuietStatus (status_of s (ending s)) → (name : QueueId) (q : QueuePair)
    → (ending s).world.queue name ≡ Present q → IsAtRest (ending s).world q
script-rests s limited callable ended name q there = by (status_of s (ending s)) ended (order-status s)
  where
    up : IsUp s (ending s)
    up = ending-up s limited callable

    rests : IsQuietEnd s (ending s) → IsAtRest (ending s).world q
    rests end = quiet-rests s (ending s).world up.world.sound up.world.placed up.world.steady (accepts s.config (ending s).world up.world) end.0 name q there

    by : (status : Status) → IsQuietStatus status → HasStatus s (ending s) status → IsAtRest (ending s).world q
    by Fine ended has = rests has.1
    by (Stalled k number) ended has = rests has.1
    by (BudgetSpent n) ended has = absurd ended

pub text-rests : (text : List ℕ) (s : ScriptValue) → script_of text ≡ Ok s → IsQuietStatus (status_of s (ending s)) → (name : QueueId) (q : QueuePair)
    → (ending s).world.queue name ≡ Present q → IsAtRest (ending s).world q
text-rests text s reads ended name q there = script-rests s (text-limited text s reads) (text-callable text s reads) ended name q there
