-- A loop over what an engine offers, on what is kept of a script, is the loop of its stages. For proofs only.
use Rattle.std.proofs.Common.{◌≡◌, ◌∙◌, refl, sym, ap, subst, ℕ, zero, suc, ◌+◌, ◌≤◌, ◌<◌, arith, ◌||◌, Bool, true, false, true≢false, if◌then◌else◌, List, [], ◌∷◌, reverse, Option, None, Some, Ok, is_some, slice_get, unwrap_or}
use Rattle.std.proofs.lemmas.Bool.Decides.{nat_tests}
use Rattle.ca_engine.specs.Engine.{EngineValue, engine_after, offer_of}
use Rattle.ca_engine.specs.declared.offer.Offer.{Offer}
use Rattle.ca_engine.specs.declared.offer.Offer.TheVariants as offers
use Rattle.ca_engine.specs.declared.outcome.Outcome.{Outcome}
use Rattle.ca_engine.proofs.LoopLemmas.{loop-ends-from, loop-made-from}
use Rattle.ca_engine.specs.Loop.{Work, has_ended, is_quiet_offer, most_offers, visit_of, work_after, work_after_all, work_after_visit, work_from}
use Rattle.ca_script_order.specs.OfScript.{status_of}
use Rattle.ca_script_order.specs.Order.{HasNoMoreLines, Stage, at_round, ending_from, has_no_event_left}
use Rattle.ca_script_order.specs.Visits.{Visit}
use Rattle.ca_script_order.specs.Visits as visits
use Rattle.ca_adapter_store.specs.Rows.{IsRowOf}
use Rattle.ca_script.specs.Script.{ScriptValue}
use Rattle.ca_script_run.proofs.LineLemmas.{few_lines}
use Rattle.ca_script_run.specs.Progress.{IsAt, IsVisited}
use Rattle.ca_script_run.specs.Working.{IsOffered, IsWorked, IsWorking, work_at}
use Rattle.ca_script_run.specs.declared.progress.Progress.{Progress}

-- one offer more, where the loop has not ended
stepped : (s : ScriptValue) (n : ℕ) (w : Work) → has_ended s (work_after_all s n w) ≡ false → work_after_all s (suc n) w ≡ work_after s (work_after_all s n w)
stepped s zero w on = ap (λ b. if b then w else work_after s w) on
stepped s (suc n) w on = by (λ still. stepped s n (work_after s w) still) (has_ended s w) refl
  where
    by : (has_ended s (work_after_all s n (work_after s w)) ≡ false → work_after_all s (suc n) (work_after s w) ≡ work_after s (work_after_all s n (work_after s w)))
        → (b : Bool) → has_ended s w ≡ b → work_after_all s (suc (suc n)) w ≡ work_after s (work_after_all s (suc n) w)
    by again true is = absurd (true≢false (sym is ∙ sym (ap (has_ended s) (ap (λ b. if b then w else work_after_all s n (work_after s w)) is)) ∙ on))
    by again false is =
        let same : work_after_all s (suc n) w ≡ work_after_all s n (work_after s w) = ap (λ b. if b then w else work_after_all s n (work_after s w)) is in
        ap (λ b. if b then w else work_after_all s (suc n) (work_after s w)) is
        ∙ again (sym (ap (has_ended s) same) ∙ on)
        ∙ sym (ap (work_after s) same)

-- the visit that is offered is made
turned : (s : ScriptValue) (w : Work) (left : List Offer) (v : Visit) → visit_of (unwrap_or (slice_get left 0) offers.Quiet) ≡ Some v
    → work_after s (record { engine = record w.engine { left = left }; stage = w.stage }) ≡ work_after_visit s v (record { engine = record w.engine { left = left }; stage = w.stage })
turned s w [] v is = absurd (true≢false (sym (ap is_some is)))
turned s w (offers.Consumer k ∷ rest) v is = ap (λ u. work_after_visit s (given u) (record { engine = record w.engine { left = offers.Consumer k ∷ rest }; stage = w.stage })) is
  where
    given : Option Visit → Visit
    given None = v
    given (Some u) = u
turned s w (offers.Turn turn ∷ rest) v is = ap (λ u. work_after_visit s (given u) (record { engine = record w.engine { left = offers.Turn turn ∷ rest }; stage = w.stage })) is
  where
    given : Option Visit → Visit
    given None = v
    given (Some u) = u
turned s w (offers.Quiet ∷ rest) v is = absurd (true≢false (sym (ap is_some is)))

module _ (s : ScriptValue) (g : Stage) (n : ℕ) (e : EngineValue) (p : Progress) (working : IsWorking s (work_at s g n) e p) where
  abbrev now : Work
  now = work_at s g n

  -- no more offers can be made
  pub ended_all : HasNoMoreLines s g → most_offers s ≤ n → IsWorked s g p
  ended_all few enough = record { offers = n; ended = loop-ends-from s g n few enough; at = working.at }

  -- as many events were made as the script allows
  pub ended_full : s.config.events ≤ p.row.count → IsWorked s g p
  ended_full full = record { offers = n; ended = ap (λ b. b || is_quiet_offer (offer_of now.engine)) spent; at = working.at }
    where
      spent : has_no_event_left s now.stage ≡ true
      spent = let le : s.config.events ≤ now.stage.count = omega (arith, full, working.at.count) in grind (arith, nat_tests)

  -- Quiet was offered
  pub ended_quiet : (offer : Offer) (q : Progress) → offer ≡ offer_of e → IsOffered s offer now.stage q (Ok None) → IsWorked s g q
  ended_quiet offer q is offered = by offer (is ∙ ap offer_of working.engine) offered
    where
      or-true : (b : Bool) → (b || true) ≡ true
      or-true true = refl
      or-true false = refl

      by : (offer : Offer) → offer ≡ offer_of now.engine → IsOffered s offer now.stage q (Ok None) → IsWorked s g q
      by (offers.Consumer k) is offered = absurd offered
      by (offers.Turn turn) is offered = absurd offered
      by offers.Quiet is offered = record {
        offers = n;
        ended = ap (λ o. has_no_event_left s now.stage || is_quiet_offer o) (sym is) ∙ or-true (has_no_event_left s now.stage);
        at = offered;
      }

  visited : (offer : Offer) (v : Visit) (q : Progress) (outcome : Outcome) (next : EngineValue) → offer ≡ offer_of e → visit_of offer ≡ Some v → is_quiet_offer offer ≡ false
      → IsVisited s v now.stage q (Ok outcome) → next ≡ engine_after e outcome → p.row.count < s.config.events → IsWorking s (work_at s g (suc n)) next q
  visited offer v q outcome next is visits calls made told few = subst (λ w. IsWorking s w next q) (sym same) (record {
    engine = told ∙ (λ i. engine_after (working.engine i) (made.1 i));
    at = made.0;
  })
    where
      here : offer ≡ offer_of now.engine
      here = is ∙ ap offer_of working.engine

      room : has_no_event_left s now.stage ≡ false
      room = let lt : now.stage.count < s.config.events = omega (arith, few, working.at.count) in grind (arith, nat_tests)

      on : has_ended s now ≡ false
      on = ap (λ b. b || is_quiet_offer (offer_of now.engine)) room ∙ ap is_quiet_offer (sym here) ∙ calls

      same : work_at s g (suc n) ≡ work_after_visit s v now
      same = stepped s n (work_from s g) on ∙ turned s now now.engine.left v (ap visit_of (sym here) ∙ visits)

  -- the loop goes on
  pub goes_on : (offer : Offer) (q : Progress) (outcome : Outcome) (next : EngineValue) → offer ≡ offer_of e → IsOffered s offer now.stage q (Ok (Some outcome))
      → next ≡ engine_after e outcome → p.row.count < s.config.events → IsWorking s (work_at s g (n + 1)) next q
  goes_on offer q outcome next is offered told few = subst (λ k. IsWorking s (work_at s g k) next q) (one n) (by offer is offered)
    where
      one : (n : ℕ) → suc n ≡ n + 1
      one n = omega arith

      by : (offer : Offer) → offer ≡ offer_of e → IsOffered s offer now.stage q (Ok (Some outcome)) → IsWorking s (work_at s g (suc n)) next q
      by (offers.Consumer k) is offered = visited (offers.Consumer k) (visits.Consumer k) q outcome next is refl refl offered told few
      by (offers.Turn turn) is offered = visited (offers.Turn turn) (visits.Engine turn) q outcome next is refl refl offered told few
      by offers.Quiet is offered = absurd offered

-- what is kept at the end is what the rounds make
module _ (s : ScriptValue) (g : Stage) (begun p : Progress) (at : IsAt s g begun) (is : IsWorked s g p) where
  same-stage : at_round (work_at s g is.offers).stage ≡ at_round (ending_from s g)
  same-stage = loop-made-from s g is.offers (few_lines s g begun at) is.ended

  pub worked_history : p.history ≡ reverse (ending_from s g).past
  worked_history = is.at.past ∙ ap (λ (h : Stage). reverse h.past) same-stage

  pub worked_status : status_of s (work_at s g is.offers).stage ≡ status_of s (ending_from s g)
  worked_status = ap (status_of s) same-stage

  pub worked_row : IsRowOf s.config (ending_from s g).world p.row
  worked_row = subst (λ (h : Stage). IsRowOf s.config h.world p.row) same-stage is.at.row
