-- What rows make of the count of a queue pair's windows: they leave it, but where a window's key ends.
use Rattle.std.proofs.Common.{arith, rules, ◌≡◌, ℕ, ◌-◌, Bool, false, List, Option, None, Some, sym, if◌then◌else◌, refl, IfSome, ◌∙◌}
use Rattle.std.specs.Option.{option_map_or}
use Rattle.ca_base.specs.declared.refusals.OpRefusal.{OpRefusal}
use Rattle.ca_base.specs.declared.denied_ask.DeniedAsk.{DeniedAsk}
use Rattle.ca_base.specs.Sight.{Invalidation}
use Rattle.ca_base.specs.objects.QueuePair.{QueuePair}
use Rattle.ca_keys.specs.declared.names.QueueId.{QueueId}
use Rattle.ca_model.specs.ca_wire.declared.syndrome.NakCode.{NakCode}
use Rattle.ca_model.specs.ca_wire.Packet.{Fields}
use Rattle.ca_model.specs.ca_wire.declared.syndrome.Syndrome.{Syndrome}
use Rattle.ca_model.specs.machine.Acknowledgements.{Acknowledgement, acknowledgement_below, one_retry, with_una}
use Rattle.ca_model.specs.machine.Numbering.{Numbered}
use Rattle.ca_model.specs.machine.Requester.{packet_row}
use Rattle.ca_model.specs.machine.Responses.{acknowledge_row, drop_effects, fitting_row, nak_effects, response_psn, response_row, rnr_nak_effects}
use Rattle.ca_model.specs.machine.Row.{Does, Effects, Row, plain_row}
use Rattle.ca_keys.specs.declared.access.Kind.{Kind}
use Rattle.ca_keys.specs.declared.key.Key.{Key}
use Rattle.ca_base.specs.declared.request.PlacedReceive.{PlacedReceive}
use Rattle.ca_base.specs.objects.SharedReceives.{SharedReceives}
use Rattle.ca_model.specs.ca_wire.declared.atomic_eth.AtomicEth.{AtomicEth}
use Rattle.ca_model.specs.ca_wire.declared.shape.Position.{Position}
use Rattle.ca_model.specs.machine.Arrivals.{next_receive, with_flag}
use Rattle.ca_model.specs.machine.Duplicates.{ahead_effects, duplicate_effects, request_row}
use Rattle.ca_model.specs.declared.receiving.Receiving.{Receiving}
use Rattle.ca_model.specs.declared.write_reach.WriteReach.{WriteReach}
use Rattle.ca_model.specs.machine.Expected.{atomic_row, expected_row, send_row, valid_row, write_row}
use Rattle.ca_model.specs.ca_wire.declared.shape.Shape.{Shape}
use Rattle.ca_model.specs.machine.Delivery.{arrival_row}
use Rattle.ca_model.specs.machine.Respond.{respond_row}
use Rattle.ca_model.specs.machine.LocalOperations.{invalidate_row}
use Rattle.ca_base.specs.Sight.{Invalidation}
use Rattle.ca_keys.specs.Numbers.{is_window_key}
use Rattle.ca_model.specs.machine.LocalOperations.{invalidate_row}
use Rattle.ca_law_world.proofs.Sound.RowWalks.{walk-arrival, walk-expected, walk-request, walk-response}
use Rattle.ca_law_world.proofs.Sound.WorldLemmas.{EndingDoes}

-- the count of windows, after a key ended, or its end was refused
abbrev pub windows_left : ℕ → Option Invalidation → Option OpRefusal → ℕ
windows_left n i None = if option_map_or (λ i. is_window_key i.key) i false then n - 1 else n
windows_left n i (Some refusal) = n

-- a row of a queue pair of this name that leaves this count of windows, but where its key ends
pub record KeepsCount (n : ℕ) (name : QueueId) (row : Row) : Type 0 where
  pub of_queue : IfSome row.invalidation (λ i. i.queue ≡ name)
  pub denied : (d : DeniedAsk) → EndingDoes (λ e. e.queue.windows ≡ n) (row.denied d)
  pub allowed : (bytes : List (List ℕ)) (refusal : Option OpRefusal) → EndingDoes (λ e. e.queue.windows ≡ windows_left n row.invalidation refusal) (row.allowed bytes refusal)

abbrev pub RowCounts : QueuePair → Row → Type 0
RowCounts q row = KeepsCount q.windows q.queue row

none-left : (n : ℕ) (refusal : Option OpRefusal) → windows_left n None refusal ≡ n
none-left n None = refl
none-left n (Some refusal) = refl

pub plain-counts : (q : QueuePair) (e : Effects) → e.queue.windows ≡ q.windows → RowCounts q (plain_row (Does e))
plain-counts q e same = record { of_queue = record {}; denied = λ d. same; allowed = λ bytes refusal. same ∙ sym (none-left q.windows refusal) }

una-windows : (psn : ℕ) (q : QueuePair) → (with_una psn q).windows ≡ q.windows
una-windows psn q = grind arith

pub retry-windows : (psn : ℕ) (q : QueuePair) → (one_retry psn q).queue.windows ≡ q.windows
retry-windows psn q = grind arith

below-windows : (psn : ℕ) (q : QueuePair) → (acknowledgement_below psn q).effects.queue.windows ≡ q.windows
below-windows psn q = grind (arith, retry-windows, una-windows)

rnr-windows : (psn : ℕ) (q : QueuePair) → (rnr_nak_effects psn q).queue.windows ≡ q.windows
rnr-windows psn q = grind arith

nak-windows : (psn : ℕ) (code : NakCode) (q : QueuePair) → (nak_effects psn code q).queue.windows ≡ q.windows
nak-windows psn code q = grind (arith, retry-windows)

acknowledge-windows : (psn : ℕ) (syndrome : Option Syndrome) (q : QueuePair) → (acknowledge_row psn syndrome q).queue.windows ≡ q.windows
acknowledge-windows psn syndrome q = grind (arith, below-windows, rnr-windows, nak-windows)

fitting-counts : (psn : ℕ) (p : Fields) (q : QueuePair) (a : Acknowledgement) → a.effects.queue.windows ≡ q.windows → RowCounts q (fitting_row psn p a)
fitting-counts psn p q a same = search (rules, una-windows, none-left)

write-counts : (q : QueuePair) (p : Fields) (envelope : Option ℕ) (place : Position) (next : Option PlacedReceive) (r : WriteReach) → RowCounts q (write_row q p envelope place next r)
write-counts q p envelope place next r = search (rules, none-left)

atomic-counts : (q : QueuePair) (p : Fields) (envelope : Option ℕ) (kind : Kind) (a : AtomicEth) → RowCounts q (atomic_row q p envelope kind a)
atomic-counts q p envelope kind a = search (rules, none-left)

send-counts : (before : QueuePair) (p : Fields) (place : Position) (r : Receiving) → RowCounts before (send_row before p place r)
send-counts before p place r = search (rules, none-left)

valid-counts : (q : QueuePair) (p : Fields) (envelope : Option ℕ) (next : Option PlacedReceive) (shape : Shape) → RowCounts q (valid_row q p envelope next shape)
valid-counts q p envelope next shape = search (rules, none-left, send-counts, write-counts, atomic-counts)

response-counts : (p : Fields) (q : QueuePair) → RowCounts q (response_row p q)
response-counts p q = walk-response (RowCounts q) p q (λ cause. plain-counts q (drop_effects q cause) refl)
    (λ sends there. (plain-counts q _ (acknowledge-windows psn _ q), fitting-counts psn p q (acknowledgement_below psn q) (below-windows psn q)))
  where
    psn : ℕ
    psn = response_psn q p

ahead-windows : (q : QueuePair) → (ahead_effects q).queue.windows ≡ q.windows
ahead-windows q = grind arith

duplicate-windows : (psn : ℕ) (p : Fields) (envelope : Option ℕ) (shape : Shape) (q : QueuePair) → (duplicate_effects psn p envelope shape q).queue.windows ≡ q.windows
duplicate-windows psn p envelope shape q = grind arith

expected-counts : (q : QueuePair) (shared : Option SharedReceives) (p : Fields) (envelope : Option ℕ) (shape : Shape) → RowCounts q (expected_row q shared p envelope shape)
expected-counts q shared p envelope shape = walk-expected (RowCounts q) q shared p envelope shape (plain-counts q _ refl) (plain-counts q _ refl)
    (λ e. valid-counts (with_flag false q) p envelope (next_receive (with_flag false q) shared) shape)

request-counts : (p : Fields) (envelope : Option ℕ) (shared : Option SharedReceives) (shape : Shape) (q : QueuePair) → RowCounts q (request_row p envelope shared shape q)
request-counts p envelope shared shape q = walk-request (RowCounts q) p envelope shared shape q (plain-counts q _ (ahead-windows q))
    (λ psn e. plain-counts q _ (duplicate-windows psn p envelope shape q)) (expected-counts q shared p envelope shape)

pub arrival-counts : (bytes : List ℕ) (envelope : Option ℕ) (shared : Option SharedReceives) (q : QueuePair) → RowCounts q (arrival_row bytes envelope shared q)
arrival-counts bytes envelope shared q = walk-arrival (RowCounts q) bytes envelope shared q (λ cause. plain-counts q (drop_effects q cause) refl) (λ p none. response-counts p q)
    (λ p shape none. request-counts p envelope shared shape q)

pub packet-counts : (q : QueuePair) (room : Bool) (n : Numbered) → RowCounts q (packet_row q room n)
packet-counts q room n = search (rules, none-left)

pub respond-counts : (room : Bool) (q : QueuePair) → RowCounts q (respond_row room q)
respond-counts room q = search (rules, none-left)

pub invalidate-counts : (q : QueuePair) (n : Numbered) (key : Key) → RowCounts q (invalidate_row q n key)
invalidate-counts q n key = search (rules, none-left)
