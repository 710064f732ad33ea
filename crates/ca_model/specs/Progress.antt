-- Progress: what a requester's responses and timers have left of its retries, told from what it posted alone. Contracts
-- cite it.
use Rattle.std.specs.Prelude.{ℕ, suc, ◌+◌, ◌==◌, ◌&&◌, ◌||◌, nat_lt, max, Bool, if◌then◌else◌, List, [], ◌∷◌, Option, None, Some}
use Rattle.std.specs.Option.{option_map, option_map_or, option_and_then}
use Rattle.ca_base.specs.declared.completion.WcOp.{WcOp}
use Rattle.ca_base.specs.declared.completion.WcOp.TheVariants as operations
use Rattle.ca_base.specs.declared.request.SendOp.{SendOp}
use Rattle.ca_base.specs.Equal.{operation_eq}
use Rattle.ca_psn.specs.Psn.{widened}
use Rattle.ca_wire.specs.declared.opcode.TheConstants.{ACKNOWLEDGE}
use Rattle.ca_wire.specs.declared.syndrome.NakCode.{NakCode}
use Rattle.ca_wire.specs.declared.syndrome.NakCode.TheVariants.{PsnSequenceError}
use Rattle.ca_wire.specs.declared.syndrome.Syndrome.{Syndrome}
use Rattle.ca_wire.specs.declared.syndrome.Syndrome.TheVariants.{Ack, RnrNak, Nak}
use Rattle.ca_wire.specs.Syndrome.{syndrome_in}
use Rattle.ca_wire.specs.Packet.{Fields}
use Rattle.ca_model.specs.Requests.{operation_of, psns_of}

-- the first PSN of a queue pair that is neither acknowledged nor answered, a whole number; and the retries and the RNR
-- NAKs since it rose
pub record Progress : Type 0 where
  pub una : ℕ
  pub retries : ℕ
  pub rnrs : ℕ

-- before any request is sent, from this PSN on
abbrev pub progress_from : ℕ → Progress
progress_from psn = record { una = psn; retries = 0; rnrs = 0 }

-- all below a PSN is acknowledged or answered; where that is more than before, retries and RNR NAKs count anew
abbrev pub raised : ℕ → Progress → Progress
raised psn g = if nat_lt g.una psn then progress_from psn else g

-- one retry more
abbrev pub with_retry : Progress → Progress
with_retry g = record g { retries = suc g.retries }

-- what a response says: all is acknowledged up to its PSN, what is below it is asked for again, there was no receive,
-- the request is refused, or the request is answered
pub data Response : Type 0 where
  Acknowledges : Response
  AsksAgain : Response
  FindsNoReceive : Response
  Refuses : NakCode → Response
  Answers : Response

-- what a syndrome says
abbrev pub response_of_syndrome : Syndrome → Response
response_of_syndrome (Ack credits) = Acknowledges
response_of_syndrome (RnrNak timer) = FindsNoReceive
response_of_syndrome (Nak PsnSequenceError) = AsksAgain
response_of_syndrome (Nak code) = Refuses code

-- what a packet that is a response says, unless its syndrome is none
abbrev pub response_in : Fields → Option Response
response_in p =
    if p.opcode == ACKNOWLEDGE
    then option_map response_of_syndrome (option_and_then (λ a. syndrome_in a.syndrome) p.aeth)
    else Some Answers

-- a READ or an atomic: its PSNs are answered, and not acknowledged
abbrev pub is_answered_alone : SendOp → Bool
is_answered_alone op = by (operation_of op)
  where
    by : WcOp → Bool
    by operation =
        operation_eq operation operations.Read || operation_eq operation operations.CmpSwap || operation_eq operation operations.FetchAdd

-- The first PSN of a READ or an atomic from one on and below another, among requests in order of which the first begins
-- at a PSN. An acknowledgement of what lies behind it implies that its answer was lost.
abbrev pub implied_nak : ℕ → ℕ → ℕ → ℕ → List SendOp → Option ℕ
implied_nak mtu una below first [] = None
implied_nak mtu una below first (op ∷ ops) =
    if is_answered_alone op && nat_lt una (first + psns_of mtu op) && nat_lt (max una first) below
    then Some (max una first)
    else implied_nak mtu una below (first + psns_of mtu op) ops

-- below which PSN a response at this one acknowledges
abbrev pub acknowledged_below : ℕ → Response → ℕ
acknowledged_below psn Acknowledges = suc psn
acknowledged_below psn response = psn

-- what a response counts, where it implies no NAK
abbrev pub counted : ℕ → Response → Progress → Progress
counted psn AsksAgain g = with_retry g
counted psn FindsNoReceive g = record g { rnrs = suc g.rnrs }
counted psn Answers g = raised (suc psn) g
counted psn response g = g

-- what a response at a whole PSN leaves, for these requests from the PSN that a queue pair began with
abbrev pub after_response : ℕ → ℕ → List SendOp → ℕ → Response → Progress → Progress
after_response mtu start posted psn response g = by (implied_nak mtu g.una (acknowledged_below psn response) start posted)
  where
    by : Option ℕ → Progress
    by (Some lost) = with_retry (raised lost g)
    by None = counted psn response (raised (acknowledged_below psn response) g)

-- what a packet that is a response leaves
abbrev pub after_response_packet : ℕ → ℕ → List SendOp → Fields → Progress → Progress
after_response_packet mtu start posted p g =
    option_map_or (λ response. after_response mtu start posted (widened g.una p.psn) response g) (response_in p) g
