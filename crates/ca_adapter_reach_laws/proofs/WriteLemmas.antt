-- Writes of which the places are at hand, with as many bytes as each ask touches. For proofs only.
use Rattle.std.proofs.Common.{◌≡◌, arith, ℕ, ◌≤◌, List, [], ◌∷◌, length, drop}
use Rattle.std.proofs.lemmas.List.{length-drop, length-take-le}
use Rattle.std.specs.List.{AllByRecursion}
use Rattle.ca_keys.specs.declared.access.Ask.{Ask}
use Rattle.ca_base.specs.Sight.{runs_in}
use Rattle.ca_model.specs.machine.Frame.{AllPass}
use Rattle.ca_model.specs.machine.Plan.{byte_names, names_written}
use Rattle.ca_model.specs.machine.Responses.{writes_by}
use Rattle.ca_model.specs.machine.Seen.{writes_in}
use Rattle.ca_responder_operations.specs.ca_qp_rows.Asks.{touched_by}
use Rattle.ca_adapter_reach.specs.declared.reached.Reached.{Reached}
use Rattle.ca_adapter_reach.specs.AtHand.{HasBytesAtHand}
use Rattle.ca_adapter_reach.specs.Seen.{sight_of}
use Rattle.ca_adapter_parts.specs.declared.held.Held.{Held}
use Rattle.ca_adapter_parts.specs.HeldView.{holding}
use Rattle.ca_adapter_reach_laws.specs.Ties.{AreWritesAtHand}
use Rattle.ca_adapter_reach_laws.proofs.FitLemmas.{bytes-at-hand}
use Rattle.ca_adapter_reach_laws.proofs.RowLemmas.{behind-pass, front-pass}

-- bytes that are cut for asks whose bytes are at hand
pub cut-at-hand : (r : Reached) (asks : List Ask) (bytes : List ℕ) → AllByRecursion (HasBytesAtHand r) asks → touched_by asks ≤ length bytes
    → AreWritesAtHand r (writes_by asks bytes)
cut-at-hand r [] bytes here enough = tt
cut-at-hand r (ask ∷ asks) bytes here enough = (
  (here.0, length-take-le ask.touch bytes (omega (arith, enough))),
  cut-at-hand r asks (drop ask.touch bytes) here.1 (omega (arith, enough, length-drop ask.touch bytes)),
)

-- where all names that are written are held, the places are at hand
pub written-at-hand : (h : Held) (xs : List (Ask × List ℕ)) → AllPass (holding h).has (names_written (writes_in (sight_of h.reached) xs))
    → AllByRecursion (λ x. length x.1 ≡ x.0.touch) xs → AreWritesAtHand h.reached xs
written-at-hand h [] all filled = tt
written-at-hand h (x ∷ xs) all filled = (
  (bytes-at-hand h x.0 (front-pass (holding h).has (byte_names (runs_in (sight_of h.reached) x.0)) _ all), filled.0),
  written-at-hand h xs (behind-pass (holding h).has (byte_names (runs_in (sight_of h.reached) x.0)) _ all) filled.1,
)
