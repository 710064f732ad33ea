-- What a row comes to where one of its asks is denied, and where all are allowed; and what is taken as it does.
use Rattle.std.proofs.Common.{◌≡◌, ◌≤◌, ◌++◌, ℕ, List, map, refl, subst, sym, Option, None, Some}
use Rattle.std.specs.Option.{option_and_then}
use Rattle.ca_keys.specs.declared.access.Ask.{Ask}
use Rattle.ca_base.specs.declared.denied_ask.DeniedAsk.{DeniedAsk}
use Rattle.ca_base.specs.Sight.{Invalidation, Sight, bytes_in, first_denied}
use Rattle.ca_base.specs.objects.QueuePair.{QueuePair}
use Rattle.ca_model.specs.Marks.{MarkList}
use Rattle.ca_model.specs.declared.marks.TheConstants.{SPARE_MARKS}
use Rattle.ca_model.specs.machine.Row.{Effects, Row}
use Rattle.ca_responder_answers.specs.ca_qp_rows.Made.{written_all}
use Rattle.ca_responder_operations.specs.Taking.{HasTaken, Outcome, does, is_taken, outcome_in, unless_refused, without_key}
use Rattle.ca_responder_operations.specs.declared.request.SharedReceive.{SharedReceive}

pub outcome-denied : (s : Sight) (row : Row) (d : DeniedAsk) → first_denied s row.asks ≡ Some d → outcome_in s row ≡ record { ending = row.denied d; ended = None }
outcome-denied s row d e = rw e refl

pub outcome-allowed : (s : Sight) (row : Row) → first_denied s row.asks ≡ None
    → outcome_in s row ≡ record { ending = row.allowed (map (bytes_in s) row.asks) (option_and_then s.refusal row.invalidation); ended = unless_refused s row.invalidation }
outcome-allowed s row e = rw e refl

-- what is taken as it comes to these effects
pub taken-as : {S : Type 0} (written : S → Ask → List ℕ → S) (revoked : S → Invalidation → S) (o : Outcome) (e : Effects) (ended : Option Invalidation)
    (new : QueuePair) (before after : MarkList) (reach new_reach : S) (shared : SharedReceive)
    → o ≡ does e ended → is_taken shared ≡ e.takes_shared → new ≡ e.queue → after.marks ≡ before.marks ++ e.marks → SPARE_MARKS ≤ after.room
    → new_reach ≡ without_key revoked ended (written_all written reach e.writes)
    → HasTaken written revoked shared o.ending o.ended new before after reach new_reach
taken-as written revoked o e ended new before after reach new_reach shared is taken queue marks room wrote =
    subst (λ (x : Outcome). HasTaken written revoked shared x.ending x.ended new before after reach new_reach) (sym is)
    (taken, (record { queue = queue; marks = marks; room = room }, wrote))
