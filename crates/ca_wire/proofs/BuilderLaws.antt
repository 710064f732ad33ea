-- The packets that the engines send are well formed.
use Rattle.std.proofs.Common.{◌≡◌, ℕ, ◌^◌, ◌<◌, ◌≤◌, Bool, ◌&&◌, cond, List, length, Option, Some, None, refl, lit≤}
use Rattle.std.specs.Prelude.{is_some}
use Rattle.ca_base.specs.ca_keys.declared.key.Key.{Key}
use Rattle.ca_base.specs.declared.limits.TheConstants.{MAX_PAYLOAD_BYTES}
use Rattle.ca_wire.specs.declared.atomic_eth.AtomicEth.{AtomicEth}
use Rattle.ca_wire.specs.declared.requests.SendKind.{SendKind}
use Rattle.ca_wire.specs.declared.requests.SendKind.TheVariants.{Plain, WithImmediate, WithInvalidate}
use Rattle.ca_wire.specs.declared.reth.Reth.{Reth}
use Rattle.ca_wire.specs.declared.shape.Position.{Position}
use Rattle.ca_wire.specs.declared.shape.Position.TheVariants.{First, Middle, Last, Only}
use Rattle.ca_wire.specs.declared.segment.Segment.{Segment}
use Rattle.ca_wire.specs.declared.syndrome.Syndrome.{Syndrome}
use Rattle.ca_wire.specs.Packet.{plain}
use Rattle.ca_wire.specs.Builders.{acknowledge, atomic_acknowledge, read_response_opcode, read_response_aeth, read_response, send_opcode, immediate_of, invalidated_by, at_end, send_packet, write_opcode, write_packet, read_request, cmp_swap, fetch_add}
use Rattle.ca_wire.specs.Packet.{Fields, IsWellFormed}
use Rattle.ca_wire.specs.Shapes.{begins, ends}
use Rattle.ca_wire.specs.Segment.{position_of, asks_acknowledgement}
use Rattle.ca_wire.specs.Table.{row_of}

pub acknowledge_fits : (s : Syndrome) (queue psn msn : ℕ) → queue < 2 ^ 24 → psn < 2 ^ 24 → msn < 2 ^ 24 → IsWellFormed (acknowledge s queue psn msn)
unfolding row_of
acknowledge_fits s queue psn msn hq hp hm =
    record { known = refl; reth = refl; atomic = refl; aeth = refl; «result» = refl; imm = refl; ieth = refl; queue = hq; psn = hp; msn = hm; most = lit≤ tt; empty = λ none. refl }

pub atomic_acknowledge_fits : (found queue psn msn : ℕ) → queue < 2 ^ 24 → psn < 2 ^ 24 → msn < 2 ^ 24 → IsWellFormed (atomic_acknowledge found queue psn msn)
unfolding row_of
atomic_acknowledge_fits found queue psn msn hq hp hm =
    record { known = refl; reth = refl; atomic = refl; aeth = refl; «result» = refl; imm = refl; ieth = refl; queue = hq; psn = hp; msn = hm; most = lit≤ tt; empty = λ none. refl }

pub read_request_fits : (reth : Reth) (queue psn : ℕ) → queue < 2 ^ 24 → psn < 2 ^ 24 → IsWellFormed (read_request reth queue psn)
unfolding row_of
read_request_fits reth queue psn hq hp =
    record { known = refl; reth = refl; atomic = refl; aeth = refl; «result» = refl; imm = refl; ieth = refl; queue = hq; psn = hp; msn = tt; most = lit≤ tt; empty = λ none. refl }

pub cmp_swap_fits : (atomic : AtomicEth) (queue psn : ℕ) → queue < 2 ^ 24 → psn < 2 ^ 24 → IsWellFormed (cmp_swap atomic queue psn)
unfolding row_of
cmp_swap_fits atomic queue psn hq hp =
    record { known = refl; reth = refl; atomic = refl; aeth = refl; «result» = refl; imm = refl; ieth = refl; queue = hq; psn = hp; msn = tt; most = lit≤ tt; empty = λ none. refl }

pub fetch_add_fits : (address : ℕ) (key : Key) (add queue psn : ℕ) → queue < 2 ^ 24 → psn < 2 ^ 24 → IsWellFormed (fetch_add address key add queue psn)
unfolding row_of
fetch_add_fits address key add queue psn hq hp =
    record { known = refl; reth = refl; atomic = refl; aeth = refl; «result» = refl; imm = refl; ieth = refl; queue = hq; psn = hp; msn = tt; most = lit≤ tt; empty = λ none. refl }

read_response_at : (p : Position) (queue psn msn : ℕ) (payload : List ℕ) → queue < 2 ^ 24 → psn < 2 ^ 24 → msn < 2 ^ 24 → length payload ≤ MAX_PAYLOAD_BYTES → IsWellFormed (record (plain (read_response_opcode p) queue psn) { aeth = read_response_aeth msn p; payload = payload })
unfolding row_of
read_response_at First queue psn msn payload hq hp hm hl =
    record { known = refl; reth = refl; atomic = refl; aeth = refl; «result» = refl; imm = refl; ieth = refl; queue = hq; psn = hp; msn = hm; most = hl; empty = λ e. absurd cc }
read_response_at Middle queue psn msn payload hq hp hm hl =
    record { known = refl; reth = refl; atomic = refl; aeth = refl; «result» = refl; imm = refl; ieth = refl; queue = hq; psn = hp; msn = tt; most = hl; empty = λ e. absurd cc }
read_response_at Last queue psn msn payload hq hp hm hl =
    record { known = refl; reth = refl; atomic = refl; aeth = refl; «result» = refl; imm = refl; ieth = refl; queue = hq; psn = hp; msn = hm; most = hl; empty = λ e. absurd cc }
read_response_at Only queue psn msn payload hq hp hm hl =
    record { known = refl; reth = refl; atomic = refl; aeth = refl; «result» = refl; imm = refl; ieth = refl; queue = hq; psn = hp; msn = hm; most = hl; empty = λ e. absurd cc }

pub read_response_fits : (segment : Segment) (queue psn msn : ℕ) (payload : List ℕ) → queue < 2 ^ 24 → psn < 2 ^ 24 → msn < 2 ^ 24 → length payload ≤ MAX_PAYLOAD_BYTES → IsWellFormed (read_response segment queue psn msn payload)
read_response_fits segment queue psn msn payload hq hp hm hl = read_response_at (position_of segment) queue psn msn payload hq hp hm hl

abbrev send_at : SendKind → Position → Bool → Bool → ℕ → ℕ → List ℕ → Fields
send_at kind p solicited ack queue psn payload = record (plain (send_opcode kind p) queue psn) {
  solicited = solicited;
  ack = ack;
  imm = at_end p (immediate_of kind);
  ieth = at_end p (invalidated_by kind);
  payload = payload;
}

send_at_fits : (kind : SendKind) (p : Position) (solicited ack : Bool) (queue psn : ℕ) (payload : List ℕ) → queue < 2 ^ 24 → psn < 2 ^ 24 → length payload ≤ MAX_PAYLOAD_BYTES → IsWellFormed (send_at kind p solicited ack queue psn payload)
unfolding row_of
send_at_fits kind First solicited ack queue psn payload hq hp hl =
    record { known = refl; reth = refl; atomic = refl; aeth = refl; «result» = refl; imm = refl; ieth = refl; queue = hq; psn = hp; msn = tt; most = hl; empty = λ e. absurd cc }
send_at_fits kind Middle solicited ack queue psn payload hq hp hl =
    record { known = refl; reth = refl; atomic = refl; aeth = refl; «result» = refl; imm = refl; ieth = refl; queue = hq; psn = hp; msn = tt; most = hl; empty = λ e. absurd cc }
send_at_fits Plain Last solicited ack queue psn payload hq hp hl =
    record { known = refl; reth = refl; atomic = refl; aeth = refl; «result» = refl; imm = refl; ieth = refl; queue = hq; psn = hp; msn = tt; most = hl; empty = λ e. absurd cc }
send_at_fits Plain Only solicited ack queue psn payload hq hp hl =
    record { known = refl; reth = refl; atomic = refl; aeth = refl; «result» = refl; imm = refl; ieth = refl; queue = hq; psn = hp; msn = tt; most = hl; empty = λ e. absurd cc }
send_at_fits (WithImmediate imm) Last solicited ack queue psn payload hq hp hl =
    record { known = refl; reth = refl; atomic = refl; aeth = refl; «result» = refl; imm = refl; ieth = refl; queue = hq; psn = hp; msn = tt; most = hl; empty = λ e. absurd cc }
send_at_fits (WithImmediate imm) Only solicited ack queue psn payload hq hp hl =
    record { known = refl; reth = refl; atomic = refl; aeth = refl; «result» = refl; imm = refl; ieth = refl; queue = hq; psn = hp; msn = tt; most = hl; empty = λ e. absurd cc }
send_at_fits (WithInvalidate key) Last solicited ack queue psn payload hq hp hl =
    record { known = refl; reth = refl; atomic = refl; aeth = refl; «result» = refl; imm = refl; ieth = refl; queue = hq; psn = hp; msn = tt; most = hl; empty = λ e. absurd cc }
send_at_fits (WithInvalidate key) Only solicited ack queue psn payload hq hp hl =
    record { known = refl; reth = refl; atomic = refl; aeth = refl; «result» = refl; imm = refl; ieth = refl; queue = hq; psn = hp; msn = tt; most = hl; empty = λ e. absurd cc }

pub send_fits : (kind : SendKind) (segment : Segment) (solicited : Bool) (queue psn : ℕ) (payload : List ℕ) → queue < 2 ^ 24 → psn < 2 ^ 24 → length payload ≤ MAX_PAYLOAD_BYTES → IsWellFormed (send_packet kind segment solicited queue psn payload)
send_fits kind segment solicited queue psn payload hq hp hl =
    send_at_fits kind (position_of segment) (ends (position_of segment) && solicited) (asks_acknowledgement segment) queue psn payload hq hp hl

abbrev write_at : Position → Reth → Option ℕ → Bool → Bool → ℕ → ℕ → List ℕ → Fields
write_at p reth imm solicited ack queue psn payload = record (plain (write_opcode imm p) queue psn) {
  solicited = solicited;
  ack = ack;
  reth = cond (begins p) (Some reth) None;
  imm = at_end p imm;
  payload = payload;
}

write_at_fits : (p : Position) (reth : Reth) (imm : Option ℕ) (solicited ack : Bool) (queue psn : ℕ) (payload : List ℕ) → queue < 2 ^ 24 → psn < 2 ^ 24 → length payload ≤ MAX_PAYLOAD_BYTES → IsWellFormed (write_at p reth imm solicited ack queue psn payload)
unfolding row_of
write_at_fits First reth imm solicited ack queue psn payload hq hp hl =
    record { known = refl; reth = refl; atomic = refl; aeth = refl; «result» = refl; imm = refl; ieth = refl; queue = hq; psn = hp; msn = tt; most = hl; empty = λ e. absurd cc }
write_at_fits Middle reth imm solicited ack queue psn payload hq hp hl =
    record { known = refl; reth = refl; atomic = refl; aeth = refl; «result» = refl; imm = refl; ieth = refl; queue = hq; psn = hp; msn = tt; most = hl; empty = λ e. absurd cc }
write_at_fits Last reth None solicited ack queue psn payload hq hp hl =
    record { known = refl; reth = refl; atomic = refl; aeth = refl; «result» = refl; imm = refl; ieth = refl; queue = hq; psn = hp; msn = tt; most = hl; empty = λ e. absurd cc }
write_at_fits Last reth (Some imm) solicited ack queue psn payload hq hp hl =
    record { known = refl; reth = refl; atomic = refl; aeth = refl; «result» = refl; imm = refl; ieth = refl; queue = hq; psn = hp; msn = tt; most = hl; empty = λ e. absurd cc }
write_at_fits Only reth None solicited ack queue psn payload hq hp hl =
    record { known = refl; reth = refl; atomic = refl; aeth = refl; «result» = refl; imm = refl; ieth = refl; queue = hq; psn = hp; msn = tt; most = hl; empty = λ e. absurd cc }
write_at_fits Only reth (Some imm) solicited ack queue psn payload hq hp hl =
    record { known = refl; reth = refl; atomic = refl; aeth = refl; «result» = refl; imm = refl; ieth = refl; queue = hq; psn = hp; msn = tt; most = hl; empty = λ e. absurd cc }

pub write_fits : (segment : Segment) (reth : Reth) (imm : Option ℕ) (solicited : Bool) (queue psn : ℕ) (payload : List ℕ) → queue < 2 ^ 24 → psn < 2 ^ 24 → length payload ≤ MAX_PAYLOAD_BYTES → IsWellFormed (write_packet segment reth imm solicited queue psn payload)
write_fits segment reth imm solicited queue psn payload hq hp hl =
    write_at_fits (position_of segment) reth imm (ends (position_of segment) && (is_some imm && solicited)) (asks_acknowledgement segment) queue psn payload hq hp hl

pub by_fields : (f g : Fields) → f ≡ g → IsWellFormed g → IsWellFormed f
by_fields f g e h = rw e h
