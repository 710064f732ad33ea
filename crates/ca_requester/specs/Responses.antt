-- What a response makes of a requester, before it is made, and the row that it is. Contracts cite it.
use Rattle.std.specs.Prelude.{◌≡◌, ℕ, ◌^◌, ◌<◌, ◌≤◌, suc, if◌then◌else◌, List, ◌∷◌, ◌++◌, length, Option, None, Some}
use Rattle.std.specs.Option.{option_and_then}
use Rattle.ca_keys.specs.declared.access.Ask.{Ask}
use Rattle.ca_base.specs.declared.completion.WcStatus.TheVariants.{BadResponse, LocalProtection}
use Rattle.ca_base.specs.declared.denied_ask.DeniedAsk.{DeniedAsk}
use Rattle.ca_base.specs.declared.limits.TheConstants.{MAX_PIECES}
use Rattle.ca_base.specs.objects.QueuePair.{QueuePair}
use Rattle.ca_model.specs.machine.Acknowledgements.{acknowledgement_below, and_then, failure_effects, progress_to}
use Rattle.ca_model.specs.machine.Numbering.{Numbered}
use Rattle.ca_model.specs.machine.Requester.{local_denial}
use Rattle.ca_model.specs.machine.Responses.{drop_effects, fits_request, fitting_row, local_writes, nak_effects, response_row, rnr_nak_effects, unless_back, writes_by}
use Rattle.ca_model.specs.machine.Row.{Effects, Row, plain_row, Does}
use Rattle.ca_wire.specs.Packet.{Fields}
use Rattle.ca_base.specs.Sight.{Sight}
use Rattle.ca_requester_sends.specs.ca_qp_rows.Asks.{CanWrite, touched_by}
use Rattle.ca_requester.specs.declared.taking.Taken.{Taken}
use Rattle.ca_requester.specs.declared.responses.Arrival.{Arrival}
use Rattle.ca_requester.specs.declared.responses.Arrival.TheVariants.{Drops, Acks, RnrNaks, Naks, Fits}
use Rattle.ca_requester.specs.Progress.{IsProgress, numbers_behind}

-- the row of a response, by what it says of its PSN
abbrev pub row_of_arrival : Arrival → Fields → QueuePair → Row
row_of_arrival (Drops cause) p q = plain_row (Does (drop_effects q cause))
row_of_arrival (Acks psn) p q = plain_row (Does (acknowledgement_below (suc psn) q).effects)
row_of_arrival (RnrNaks psn) p q = plain_row (Does (unless_back (acknowledgement_below psn q) (rnr_nak_effects psn)))
row_of_arrival (Naks psn code) p q = plain_row (Does (unless_back (acknowledgement_below psn q) (nak_effects psn code)))
row_of_arrival (Fits psn) p q = fitting_row psn p (acknowledgement_below psn q)

-- the PSN of an acknowledgement or of an answer is narrow
abbrev pub IsNarrowArrival : Arrival → Type 0
IsNarrowArrival (Acks psn) = psn < 2 ^ 62
IsNarrowArrival (Fits psn) = psn < 2 ^ 62
IsNarrowArrival arrival = Unit {0}

-- what a packet says as a response
pub record IsArrival (p : Fields) (q : QueuePair) (arrival : Arrival) : Type 0 where
  pub row : row_of_arrival arrival p q ≡ response_row p q
  pub narrow : IsNarrowArrival arrival

-- a request, if the response fits it
abbrev pub if_fits : ℕ → Fields → QueuePair → Option Numbered → Option Numbered
if_fits psn p q n = option_and_then (λ n. if fits_request psn p q n then Some n else None) n

-- what is taken of an answer: all below its PSN is acknowledged, and then that PSN
pub record IsTakenAnswer (q : QueuePair) (t : Taken) : Type 0 where
  pub before : IsProgress t.before.until q.requester (numbers_behind t.before q) q
  pub after : IsProgress (suc t.before.until) (numbers_behind t.before q) (numbers_behind t.after q) q

-- the answer does not fit: all below its PSN is acknowledged, and the request fails
abbrev pub bad_answer_effects : ℕ → QueuePair → Effects
bad_answer_effects psn q = and_then (progress_to psn q) (failure_effects BadResponse None)

-- the list is denied: the request fails
abbrev pub denied_effects : ℕ → DeniedAsk → QueuePair → Effects
denied_effects psn d q = and_then (progress_to psn q) (λ q.
    record (failure_effects LocalProtection None q) { marks = local_denial d ∷ (failure_effects LocalProtection None q).marks })

-- these bytes go to the list by these asks, and all up to the answer's PSN is acknowledged
abbrev pub answer_effects : ℕ → List ℕ → List Ask → QueuePair → Effects
answer_effects psn bytes asks q = record (and_then (progress_to psn q) (λ q.
    record (progress_to (suc psn) q) { marks = local_writes writes ++ (progress_to (suc psn) q).marks })) { writes = writes }
  where
    writes : List (Ask × List ℕ)
    writes = writes_by asks bytes

-- these bytes may be written by these asks: the asks are few, touch no more than there are, and are at hand, and none is
-- denied
pub record CanWriteBy {S : Type 0} (sight : S → Sight) (judges touches : S → Ask → Type 0) (reach : S) (asks : List Ask) (bytes : List ℕ) : Type 0 where
  pub few : length asks ≤ MAX_PIECES
  pub enough : touched_by asks ≤ length bytes
  pub can : CanWrite sight judges touches reach (writes_by asks bytes)
