-- What a worker did after a look at the clock, and after a try. For proofs only.
use Rattle.std.proofs.Common.{◌≡◌, ◌∙◌, refl, sym, ap, subst, ℕ, suc, ◌+◌, ◌%◌, ◌<◌, ◌≤◌, arith, inl, inr, List, [], ◌∷◌, ◌++◌, length, replicate, slice_index, slice_set}
use Rattle.std.proofs.lemmas.List.{length-replicate, length-set}
use Rattle.ca_base.specs.declared.settings.Settings.{Settings}
use Rattle.ca_verbs_machine.specs.declared.asked.Asked.TheVariants as asks
use Rattle.ca_verbs_machine.specs.declared.asked.Told.{Told}
use Rattle.ca_model.specs.declared.event.Event.{Event}
use Rattle.ca_model.specs.declared.event.Event.TheVariants as events
use Rattle.ca_model.specs.declared.verb.Verb.{Verb}
use Rattle.ca_script_order.specs.Order.{lines_of}
use Rattle.ca_parts.specs.Lists.{Has}
use Rattle.ca_parts.specs.Views.{with_look}
use Rattle.ca_run_race.proofs.WorkLemmas.{begun, begun-own, own-more, turn-made, verb-called}
use Rattle.ca_run_race.specs.Calls.{IsNextCall}
use Rattle.ca_run_race.specs.Workers.{AreOwn, IsAtWork, IsSameWorker, IsWorkOf}
use Rattle.ca_run_race.specs.declared.work.Work.{Work}
use Rattle.ca_run_race.specs.declared.worker.Worker.{Worker}
use Rattle.ca_verbs_scripts.specs.Work.{HasWorked, IsWorkersTurn}
use Rattle.ca_script.specs.Script.{ScriptValue}
use Rattle.ca_script_run.specs.Progress.{lines_behind}
use Rattle.ca_verbs.specs.ca_verbs_taking.Holding.{Known}
use Rattle.ca_verbs.specs.ca_verbs_taking.Taking.{SameRecord}
use Rattle.ca_base.specs.declared.step.Turn.{Turn}
use Rattle.ca_verbs.specs.Passes.{IsOf, IsReceipt, known_of}
use Rattle.ca_verbs.specs.Tried.{told_of}
use Rattle.ca_verbs.specs.declared.fabric.Fabric.{Fabric}
use Rattle.ca_verbs.specs.declared.pass.Pass.{Pass}
use Rattle.ca_verbs.specs.declared.pass.Receipt.{Receipt}

has-last : {A : Type 0} (xs : List A) (x : A) → Has x (xs ++ x ∷ [])
has-last [] x = inl refl
has-last (y ∷ ys) x = inr (has-last ys x)

-- a worker that did nothing yet
pub begun-work : (fabric : Fabric) (s : ScriptValue) (first end workers : ℕ) (w : Work) → IsOf fabric w.pass → (known_of w.pass).entries ≡ [] → w.done.items ≡ replicate (length s.consumers) 0
    → IsWorkOf fabric s first end workers w
begun-work fabric s first end workers w of none done = record {
  pass = of;
  worked = subst (λ es. HasWorked s es (lines_behind s.consumers w.done.items)) (sym none) (subst (λ d. HasWorked s [] (lines_behind s.consumers d)) (sym done) (begun s));
  own = subst (AreOwn first end workers) (sym done) (begun-own first end workers (length s.consumers));
  count = ap length done ∙ length-replicate (length s.consumers) 0;
}

-- more workers have no more done
pub wider : (fabric : Fabric) (s : ScriptValue) (first end more workers : ℕ) (w : Work) → IsWorkOf fabric s first end workers w → end ≤ more → IsWorkOf fabric s first more workers w
wider fabric s first end more workers w at less = record {
  pass = at.pass;
  worked = at.worked;
  own = λ k some. let is = at.own k some in (is.0, omega (arith, is.1, less));
  count = at.count;
}

-- a worker with the same number and the same work
pub same-worker : (fabric : Fabric) (s : ScriptValue) (v w : Worker) → IsSameWorker v w → w.work ≡ v.work → IsAtWork fabric s v → IsAtWork fabric s w
same-worker fabric s v w same work at =
    subst (λ n. IsWorkOf fabric s n (suc n) w.workers w.work) (sym same.0)
    (subst (λ n. IsWorkOf fabric s v.number (suc v.number) n w.work) (sym same.1) (subst (IsWorkOf fabric s v.number (suc v.number) v.workers) (sym work) at))

-- a worker with the same number, of any work
pub same-number : (fabric : Fabric) (s : ScriptValue) (v w : Worker) (u : Work) → IsSameWorker v w → IsWorkOf fabric s v.number (suc v.number) v.workers u → IsWorkOf fabric s w.number (suc w.number) w.workers u
same-number fabric s v w u same at = subst (λ n. IsWorkOf fabric s n (suc n) w.workers u) (sym same.0) (subst (λ n. IsWorkOf fabric s v.number (suc v.number) n u) (sym same.1) at)

module _ (fabric : Fabric) (s : ScriptValue) (first end workers : ℕ) (w : Work) (at : IsWorkOf fabric s first end workers w) where
  -- the pass has the same entries
  pub same-entries : (u : Work) → u.done ≡ w.done → IsOf fabric u.pass → (known_of u.pass).entries ≡ (known_of w.pass).entries → IsWorkOf fabric s first end workers u
  same-entries u done of entries = record {
    pass = of;
    worked = subst (λ es. HasWorked s es (lines_behind s.consumers u.done.items)) (sym entries) (subst (λ d. HasWorked s (known_of w.pass).entries (lines_behind s.consumers d.items)) (sym done) at.worked);
    own = subst (λ d. AreOwn first end workers d.items) (sym done) at.own;
    count = ap (λ d. length d.items) done ∙ at.count;
  }

  -- the clock was read
  pub looked : (u : Work) (n : ℕ) → u.done ≡ w.done → IsOf fabric u.pass → known_of u.pass ≡ with_look n (known_of w.pass) → IsWorkOf fabric s first end workers u
  looked u n done of is = same-entries u done of (ap (λ (v : Known). v.entries) is)

  -- a try made no entry
  pub in-vain : (u : Work) → u.done ≡ w.done → IsOf fabric u.pass → SameRecord (known_of w.pass) (known_of u.pass) → IsWorkOf fabric s first end workers u
  in-vain u done of same = same-entries u done of same.1

  -- a turn was made
  pub turned : (u : Work) (key : Settings) (turn : Turn) (event : Event) (r : Receipt) → u.done ≡ w.done → IsOf fabric u.pass → IsWorkersTurn turn
      → IsReceipt key (asks.Turn turn s.weather) event r w.pass u.pass → IsWorkOf fabric s first end workers u
  turned u key turn event r done of fair receipt = record {
    pass = of;
    worked = subst (λ es. HasWorked s es (lines_behind s.consumers u.done.items)) (sym receipt.made.added)
        (turn-made s (known_of w.pass).entries (lines_behind s.consumers u.done.items) r.stamp turn event receipt.marks
        (subst (λ d. HasWorked s (known_of w.pass).entries (lines_behind s.consumers d.items)) (sym done) at.worked) fair);
    own = subst (λ d. AreOwn first end workers d.items) (sym done) at.own;
    count = ap (λ d. length d.items) done ∙ at.count;
  }

  -- a verb was called, after the clock was read
  pub called : (p : Pass) (u : Work) (key : Settings) (k n place clock : ℕ) (verb : Verb) (r : Receipt)
      → known_of p ≡ with_look n (known_of w.pass) → clock ≤ n → IsNextCall (lines_of k s.consumers) (slice_index w.done.items k) place clock verb → k < length w.done.items
      → first ≤ k % workers → k % workers < end → u.done.items ≡ slice_set w.done.items k (place + 1) → IsOf fabric u.pass
      → IsReceipt key (asks.Event (events.Verb k verb)) (events.Verb k verb) r p u.pass → IsWorkOf fabric s first end workers u
  called p u key k n place clock verb r look low next there from to done of receipt = record {
    pass = of;
    worked = subst (λ es. HasWorked s es (lines_behind s.consumers u.done.items)) (sym (receipt.made.added ∙ ap (λ es. es ++ (r.stamp, told_of (asks.Event (events.Verb k verb)) (events.Verb k verb) receipt.marks) ∷ []) entries))
        (subst (λ d. HasWorked s ((known_of w.pass).entries ++ (r.stamp, told_of (asks.Event (events.Verb k verb)) (events.Verb k verb) receipt.marks) ∷ []) (lines_behind s.consumers d)) (sym done)
        (verb-called s (known_of w.pass).entries w.done.items k r.stamp place clock verb receipt.marks at.worked at.count there next later (omega (arith, low, read))));
    own = subst (AreOwn first end workers) (sym done) (own-more first end workers w.done.items k (place + 1) at.own from to);
    count = ap length done ∙ length-set w.done.items k (place + 1) ∙ at.count;
  }
    where
      entries : (known_of p).entries ≡ (known_of w.pass).entries
      entries = ap (λ (v : Known). v.entries) look

      later : (m : ℕ) (e : Told) → Has (m, e) (known_of w.pass).entries → m < r.stamp
      later m e has = receipt.made.later m e (subst (Has (m, e)) (sym entries) has)

      read : n ≤ r.stamp
      read = receipt.made.read n (known_of w.pass).hand (subst (Has (n, (known_of w.pass).hand)) (sym (ap (λ (v : Known). v.notes) look)) (has-last (known_of w.pass).notes (n, (known_of w.pass).hand)))
