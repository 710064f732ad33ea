-- Turns in vain that are passed over at once are visited one after another. For proofs only.
use Rattle.std.proofs.Common.{◌≡◌, ◌∙◌, refl, sym, ap, subst, ℕ, zero, suc, ◌+◌, ◌-◌, ◌<◌, ◌≤◌, min, arith, Bool, true, false, true≢false, if◌then◌else◌, List, [], ◌∷◌, drop, length, length-drop, replicate, Option, None, Some, Ok, IfSome, slice_get, unwrap_or}
use Rattle.ca_engine.proofs.EngineLemmas.{drop-drop}
use Rattle.ca_engine.proofs.PassingLemmas.{passed_one}
use Rattle.ca_engine.specs.Engine.{EngineValue, at_next, at_round, at_timers, behind_round, engine_after, engine_after_all, is_over, offer_of, with_outcome}
use Rattle.ca_engine.specs.Passing.{gone_past_all, most_passed, passed_over}
use Rattle.ca_engine.specs.declared.offer.Offer.{Offer}
use Rattle.ca_engine.specs.declared.offer.Offer.TheVariants as offers
use Rattle.ca_engine.specs.declared.outcome.Outcome.{Outcome}
use Rattle.ca_engine.specs.declared.outcome.Outcome.TheVariants as outcomes
use Rattle.ca_engine.specs.declared.pass.Pass.{Pass}
use Rattle.ca_engine.specs.declared.pass.Pass.TheVariants as passes
use Rattle.ca_engine.specs.Loop.{is_quiet_offer}
use Rattle.ca_model.specs.machine.World.{World}
use Rattle.ca_script_order.specs.Order.{Stage}
use Rattle.ca_adapter_store.proofs.RestLemmas.{same_row}
use Rattle.ca_adapter_store.specs.Rest.{KeepsRest}
use Rattle.ca_script.specs.Script.{ScriptValue}
use Rattle.ca_script_run.proofs.KnownLemmas.{idle-still, left_still}
use Rattle.ca_script_run.proofs.TurnLemmas.{in_vain}
use Rattle.ca_script_run.proofs.VainLemmas.{engine_idle}
use Rattle.ca_script_run.proofs.WorkLemmas.{ended_quiet, goes_on}
use Rattle.ca_script_run.specs.Known.{AreKnown, AreKnownFrom, AreVain, IsOfferedAt, IsVainOffer, KeepsKnown, PassesOver}
use Rattle.ca_script_run.specs.Progress.{IsAt}
use Rattle.ca_script_run.specs.Working.{IsOffered, IsWorked, IsWorking, IsWorkingOn, work_at}
use Rattle.ca_script_run.specs.declared.known.Known.{Known}
use Rattle.ca_script_run.specs.declared.progress.Progress.{Progress}

-- ---- where an engine stands

first-left : (n : ℕ) (xs : List Offer) → slice_get (drop n xs) 0 ≡ slice_get xs n
first-left zero xs = refl
first-left (suc n) [] = refl
first-left (suc n) (x ∷ xs) = first-left n xs

-- what is offered stands at the engine's place
pub offered_at : (e : EngineValue) (place : Option ℕ) (offer : Offer) → IfSome place (λ n. (e.pass ≡ passes.Round) × (e.left ≡ drop n e.round)) → offer ≡ offer_of e
    → is_quiet_offer offer ≡ false → IsOfferedAt e.round place offer
offered_at e place offer stands is calls = at place stands
  where
    first : (o : Option Offer) → slice_get e.left 0 ≡ o → offer ≡ unwrap_or o offers.Quiet → slice_get e.left 0 ≡ Some offer
    first None has is = absurd (true≢false (sym (ap is_quiet_offer is) ∙ calls))
    first (Some x) has is = has ∙ ap Some (sym is)

    at : (place : Option ℕ) → IfSome place (λ n. (e.pass ≡ passes.Round) × (e.left ≡ drop n e.round)) → IsOfferedAt e.round place offer
    at None stands = record {}
    at (Some n) stands = sym (first-left n e.round) ∙ ap (λ xs. slice_get xs 0) (sym stands.1) ∙ first (slice_get e.left 0) refl is

-- ---- an engine goes past turns in vain

are-vain : (w : World) (now : ℕ) (starts : List ℕ) (n : ℕ) (e : EngineValue) (place upto : ℕ) → e.pass ≡ passes.Round → e.left ≡ drop place e.round
    → AreKnownFrom starts e.round w place upto → n + place ≤ upto → n ≤ length e.left - 1 → AreVain w now n e
are-vain w now starts zero e place upto round left known within few = record {}
are-vain w now starts (suc n) e place upto round left known within few = (
  subst (IsVainOffer w) (sym (ap (λ o. unwrap_or o offers.Quiet) first)) (known place (omega arith) (omega (arith, within))).idle,
  subst (AreVain w now n) (sym (passed_one e now round (omega (arith, few)))) (are-vain w now starts n (gone_past_all e 1 now) (suc place) upto round
      (ap (drop 1) left ∙ sym (drop-drop place e.round)) (λ k from. known k (omega (arith, from))) (omega (arith, within))
      (omega (arith, few, length-drop 1 e.left))),
)
  where
    first : slice_get e.left 0 ≡ Some (offers.Turn (known place (omega arith) (omega (arith, within))).turn)
    first = ap (λ xs. slice_get xs 0) left ∙ first-left place e.round ∙ (known place (omega arith) (omega (arith, within))).offered

pub passes_some : (w : World) (now : ℕ) (starts : List ℕ) (e f : EngineValue) (place upto : ℕ) → e.pass ≡ passes.Round → e.left ≡ drop place e.round
    → AreKnownFrom starts e.round w place upto → place ≤ upto → f ≡ passed_over e (upto - place) now → PassesOver w now e f
passes_some w now starts e f place upto round left known within is = record {
  count = most_passed e (upto - place);
  vain = are-vain w now starts (most_passed e (upto - place)) e place upto round left known (omega (arith, within, most)) (omega (arith, most));
  engine = is;
}
  where
    most : most_passed e (upto - place) ≡ min (upto - place) (length e.left - 1)
    most = ap (λ pass. most_passed (record e { pass = pass }) (upto - place)) round

pub passes_none : (w : World) (now : ℕ) (e : EngineValue) → PassesOver w now e e
passes_none w now e = record { count = 0; vain = record {}; engine = refl }

-- ---- what a round offers stays

round-kept : (e : EngineValue) (outcome : Outcome) → (engine_after e outcome).round ≡ e.round
round-kept e outcome = by e.left
  where
    after-round : (x : EngineValue) (b : Bool) → (if b then at_round x else at_timers x).round ≡ x.round
    after-round x true = refl
    after-round x false = refl

    in-round : (x : EngineValue) (b : Bool) → (if b then behind_round x else x).round ≡ x.round
    in-round x true = after-round x x.happened
    in-round x false = refl

    in-timers : (x : EngineValue) (b : Bool) → (if b then at_round x else x).round ≡ x.round
    in-timers x true = refl
    in-timers x false = refl

    next : (x : EngineValue) (pass : Pass) → (at_next (record x { pass = pass })).round ≡ x.round
    next x passes.Round = in-round (record x { pass = passes.Round }) (is_over x.left)
    next x passes.Timers = in-timers (record x { pass = passes.Timers }) x.happened

    by : (left : List Offer) → (engine_after (record e { left = left }) outcome).round ≡ e.round
    by [] = refl
    by (offer ∷ left) = next (with_outcome offer left outcome (record e { left = offer ∷ left })) e.pass

all-kept : (e : EngineValue) (told : List Outcome) → (engine_after_all e told).round ≡ e.round
all-kept e [] = refl
all-kept e (outcome ∷ more) = all-kept (engine_after e outcome) more ∙ round-kept e outcome

-- ---- the loop

-- the loop is some offers further
record IsFurther (s : ScriptValue) (g : Stage) (n : ℕ) (f : EngineValue) (p : Progress) : Type 0 where
  offers : ℕ
  enough : n ≤ offers
  working : IsWorking s (work_at s g offers) f p

vain-still : (w v : World) (now n : ℕ) (e : EngineValue) → KeepsRest [] w v → AreVain w now n e → AreVain v now n e
vain-still w v now zero e keeps vain = record {}
vain-still w v now (suc n) e keeps vain = (one (offer_of e) vain.0, vain-still w v now n (engine_after e (outcomes.NotReady now)) keeps vain.1)
  where
    one : (offer : Offer) → IsVainOffer w offer → IsVainOffer v offer
    one (offers.Consumer k) idle = idle
    one (offers.Turn turn) idle = idle-still w v [] turn keeps refl idle
    one offers.Quiet idle = idle

module _ (s : ScriptValue) (g : Stage) (p : Progress) (now : ℕ) (counted : now ≡ p.row.count) (few : p.row.count < s.config.events) where
  -- one turn in vain
  vain-turn : (n : ℕ) (e : EngineValue) (working : IsWorking s (work_at s g n) e p) (offer : Offer) → offer ≡ offer_of e → IsVainOffer (work_at s g n).stage.world offer
      → IsWorking s (work_at s g (n + 1)) (engine_after e (outcomes.NotReady now)) p
  vain-turn n e working (offers.Consumer k) is vain = absurd vain
  vain-turn n e working (offers.Turn turn) is vain =
      goes_on s g n e p working (offers.Turn turn) p (outcomes.NotReady now) (engine_after e (outcomes.NotReady now)) is
      (engine_idle s (work_at s g n).stage turn p now working.at counted (in_vain s.config (work_at s g n).stage.world turn vain)) refl few
  vain-turn n e working offers.Quiet is vain = absurd vain

  earlier : (n : ℕ) (f : EngineValue) → IsFurther s g (n + 1) f p → IsFurther s g n f p
  earlier n f further = record { offers = further.offers; enough = omega (arith, further.enough); working = further.working }

  all-vain : (count n : ℕ) (e : EngineValue) → IsWorking s (work_at s g n) e p → AreVain (work_at s g n).stage.world now count e
      → IsFurther s g n (engine_after_all e (replicate count (outcomes.NotReady now))) p
  all-vain zero n e working vain = record { offers = n; enough = omega arith; working = working }
  all-vain (suc count) n e working vain =
      earlier n (engine_after_all (engine_after e (outcomes.NotReady now)) (replicate count (outcomes.NotReady now)))
      (all-vain count (n + 1) (engine_after e (outcomes.NotReady now)) one
      (vain-still (work_at s g n).stage.world (work_at s g (n + 1)).stage.world now count (engine_after e (outcomes.NotReady now))
      (same_row [] p.row s.config (work_at s g n).stage.world (work_at s g (n + 1)).stage.world working.at.row one.at.row) vain.1))
    where
      one : IsWorking s (work_at s g (n + 1)) (engine_after e (outcomes.NotReady now)) p
      one = vain-turn n e working (offer_of e) refl vain.0

  -- turns in vain are passed over
  pub passed_on : (n : ℕ) (e f : EngineValue) (k l : Known) → IsWorkingOn s g n e p k → ((w : World) → AreKnown e.round w k → PassesOver w now e f)
      → ((round : List Offer) (w : World) → AreKnown round w k → AreKnown round w l) → IsWorkingOn s g n f p l
  passed_on n e f k l on passes keeps = record {
    offers = further.offers;
    enough = omega (arith, on.enough, further.enough);
    working = subst (λ x. IsWorking s (work_at s g further.offers) x p) (sym over.engine) further.working;
    known = subst (λ r. AreKnown r (work_at s g further.offers).stage.world l) (sym (ap (λ (x : EngineValue). x.round) over.engine ∙ all-kept e (replicate over.count (outcomes.NotReady now))))
        (keeps e.round (work_at s g further.offers).stage.world (left_still e.round here (work_at s g further.offers).stage.world [] k on.known
        (same_row [] p.row s.config here (work_at s g further.offers).stage.world on.working.at.row further.working.at.row)));
  }
    where
      here : World
      here = (work_at s g on.offers).stage.world

      over : PassesOver here now e f
      over = passes here on.known

      further : IsFurther s g on.offers (engine_after_all e (replicate over.count (outcomes.NotReady now))) p
      further = all-vain over.count on.offers e on.working over.vain

-- an offer is visited
module _ (s : ScriptValue) (g : Stage) (n : ℕ) (e : EngineValue) (p : Progress) (k : Known) (on : IsWorkingOn s g n e p k) where
  went-on : (offer : Offer) (q : Progress) (outcome : Outcome) (next : EngineValue) (l : Known) → offer ≡ offer_of e
      → IsOffered s offer (work_at s g on.offers).stage q (Ok (Some outcome)) → next ≡ engine_after e outcome → p.row.count < s.config.events
      → KeepsKnown e.round p.row q.row k l → IsWorkingOn s g (n + 1) next q l
  went-on offer q outcome next l is offered told few keeps = record {
    offers = on.offers + 1;
    enough = omega (arith, on.enough);
    working = working;
    known = subst (λ r. AreKnown r (work_at s g (on.offers + 1)).stage.world l) (sym (ap (λ (x : EngineValue). x.round) told ∙ round-kept e outcome))
        (keeps s.config (work_at s g on.offers).stage.world (work_at s g (on.offers + 1)).stage.world on.working.at.row working.at.row on.known);
  }
    where
      working : IsWorking s (work_at s g (on.offers + 1)) next q
      working = goes_on s g on.offers e p on.working offer q outcome next is offered told few

  calls-somebody : (h : Stage) (offer : Offer) (q : Progress) (outcome : Outcome) → IsOffered s offer h q (Ok (Some outcome)) → is_quiet_offer offer ≡ false
  calls-somebody h (offers.Consumer k) q outcome offered = refl
  calls-somebody h (offers.Turn turn) q outcome offered = refl
  calls-somebody h offers.Quiet q outcome offered = absurd offered

  -- an offer is visited
  pub visited_on : (place : Option ℕ) → IfSome place (λ n. (e.pass ≡ passes.Round) × (e.left ≡ drop n e.round)) → (offer : Offer) (q : Progress) (outcome : Outcome)
      (next : EngineValue) (l : Known) → offer ≡ offer_of e → ((h : Stage) → IsAt s h p → IsOffered s offer h q (Ok (Some outcome))) → next ≡ engine_after e outcome
      → p.row.count < s.config.events → ((round : List Offer) → IsOfferedAt round place offer → KeepsKnown round p.row q.row k l) → IsWorkingOn s g (n + 1) next q l
  visited_on place stands offer q outcome next l is offered told few keeps = went-on offer q outcome next l is made told few
      (keeps e.round (offered_at e place offer stands is (calls-somebody (work_at s g on.offers).stage offer q outcome made)))
    where
      made : IsOffered s offer (work_at s g on.offers).stage q (Ok (Some outcome))
      made = offered (work_at s g on.offers).stage on.working.at

  -- Quiet was offered
  pub on_quiet : (offer : Offer) (q : Progress) → offer ≡ offer_of e → ((h : Stage) → IsAt s h p → IsOffered s offer h q (Ok None)) → IsWorked s g q
  on_quiet offer q is offered = ended_quiet s g on.offers e p on.working offer q is (offered (work_at s g on.offers).stage on.working.at)
