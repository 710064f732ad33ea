-- What rows write goes by the asks that they make.
use Rattle.std.proofs.Common.{arith, rules, ◌≡◌, ℕ, Bool, true, false, List, [], ◌∷◌, Option, subst, sym, refl}
use Rattle.ca_keys.specs.declared.access.Ask.{Ask}
use Rattle.ca_base.specs.objects.QueuePair.{QueuePair}
use Rattle.ca_wire.specs.Packet.{Fields}
use Rattle.ca_wire.specs.declared.syndrome.Syndrome.{Syndrome}
use Rattle.ca_model.specs.machine.Acknowledgements.{Acknowledgement, acknowledgement_below}
use Rattle.ca_model.specs.machine.Numbering.{Numbered}
use Rattle.ca_model.specs.machine.Responses.{acknowledge_row, answer_asks, answer_bytes, drop_effects, fitting_row, response_psn, response_row, writes_by}
use Rattle.ca_model.specs.machine.Row.{Does, Effects, Row, plain_row}
use Rattle.std.specs.List.{AllByRecursion}
use Rattle.ca_keys.specs.declared.access.Kind.{Kind}
use Rattle.ca_keys.specs.declared.key.Key.{Key}
use Rattle.ca_base.specs.declared.request.PlacedReceive.{PlacedReceive}
use Rattle.ca_base.specs.objects.SharedReceives.{SharedReceives}
use Rattle.ca_wire.specs.declared.atomic_eth.AtomicEth.{AtomicEth}
use Rattle.ca_wire.specs.declared.shape.Position.{Position}
use Rattle.ca_model.specs.machine.Arrivals.{next_receive, with_flag}
use Rattle.ca_model.specs.machine.Duplicates.{ahead_effects, duplicate_effects, request_row}
use Rattle.ca_model.specs.declared.receiving.Receiving.{Receiving}
use Rattle.ca_model.specs.declared.write_reach.WriteReach.{WriteReach}
use Rattle.ca_model.specs.machine.Expected.{atomic_row, expected_row, read_queued, send_row, valid_row, write_row}
use Rattle.ca_wire.specs.declared.shape.Shape.{Shape}
use Rattle.ca_model.specs.machine.Delivery.{arrival_row}
use Rattle.ca_model.specs.machine.Respond.{respond_row}
use Rattle.ca_law_parts.proofs.Parts.TouchLemmas.{WritesIn}
use Rattle.ca_law_world.proofs.Sound.WorldLemmas.{RowDoes}
use Rattle.ca_model.specs.machine.LocalOperations.{invalidate_row}
use Rattle.ca_model.specs.machine.Requester.{packet_row}
use Rattle.ca_law_world.proofs.Sound.RowWalks.{walk-arrival, walk-expected, walk-fitting, walk-request, walk-response, walk-valid}

-- a row of which each write goes by one of its asks
abbrev pub RowWrites : Row → Type 1
RowWrites row = (Q : Ask → Type 0) → AllByRecursion Q row.asks → RowDoes (WritesIn Q) row

abbrev WritesBy : (Ask → Type 0) → Row → Type 0
WritesBy Q row = AllByRecursion Q row.asks → RowDoes (WritesIn Q) row

none-written : (Q : Ask → Type 0) (e : Effects) → e.writes ≡ [] → WritesIn Q e
none-written Q e none = subst (λ xs. AllByRecursion (λ (x : Ask × List ℕ). Q x.0) xs) (sym none) (record {})

-- effects that write nothing
plain-writes : (e : Effects) → e.writes ≡ [] → RowWrites (plain_row (Does e))
plain-writes e none Q asks = record { denied = λ d. none-written Q e none; allowed = λ bytes refusal. none-written Q e none }

by-asks : (Q : Ask → Type 0) (asks : List Ask) (bytes : List ℕ) → AllByRecursion Q asks → AllByRecursion (λ x. Q x.0) (writes_by asks bytes)
by-asks Q [] bytes all = record {}
by-asks Q (ask ∷ asks) bytes all = (all.0, by-asks Q asks _ all.1)

below-none : (psn : ℕ) (q : QueuePair) → (acknowledgement_below psn q).effects.writes ≡ []
below-none psn q = grind arith

acknowledge-none : (psn : ℕ) (syndrome : Option Syndrome) (q : QueuePair) → (acknowledge_row psn syndrome q).writes ≡ []
acknowledge-none psn syndrome q = grind (arith, below-none)

fitting-writes : (psn : ℕ) (p : Fields) (a : Acknowledgement) → a.effects.writes ≡ [] → RowWrites (fitting_row psn p a)
fitting-writes psn p a none Q = walk-fitting (WritesBy Q) psn p a (λ back. plain-writes a.effects none Q) (plain-writes _ refl Q)
    (λ n on is asks. record { denied = λ d. record {}; allowed = λ bytes refusal. by-asks Q (answer_asks psn p a.effects.queue n) (answer_bytes p) asks })

response-writes : (p : Fields) (q : QueuePair) → RowWrites (response_row p q)
response-writes p q Q = walk-response (WritesBy Q) p q (λ cause. plain-writes (drop_effects q cause) refl Q)
    (λ sends there. (plain-writes _ (acknowledge-none psn _ q) Q, fitting-writes psn p (acknowledgement_below psn q) (below-none psn q) Q))
  where
    psn : ℕ
    psn = response_psn q p

send-writes : (before : QueuePair) (p : Fields) (place : Position) (r : Receiving) → RowWrites (send_row before p place r)
send-writes before p place r Q asks = search (rules, by-asks)

write-writes : (q : QueuePair) (p : Fields) (envelope : Option ℕ) (place : Position) (next : Option PlacedReceive) (r : WriteReach) → RowWrites (write_row q p envelope place next r)
write-writes q p envelope place next r Q asks = search rules

atomic-writes : (q : QueuePair) (p : Fields) (envelope : Option ℕ) (kind : Kind) (a : AtomicEth) → RowWrites (atomic_row q p envelope kind a)
atomic-writes q p envelope kind a Q asks = record { denied = λ d. record {}; allowed = λ bytes refusal. (asks.0, record {}) }

valid-writes : (q : QueuePair) (p : Fields) (envelope : Option ℕ) (next : Option PlacedReceive) (shape : Shape) → RowWrites (valid_row q p envelope next shape)
valid-writes q p envelope next shape Q = walk-valid (WritesBy Q) q p envelope next shape (plain-writes _ refl Q) (λ place r is unheld. send-writes q p place (record { receive = r; before = 0; taken = true }) Q)
    (λ place at receive bytes is. send-writes q p place (record { receive = record { place = at; receive = receive }; before = bytes; taken = false }) Q) (λ place r shape-is is. write-writes q p envelope place next r Q)
    (λ h is. plain-writes (read_queued q p envelope h) refl Q) (λ kind a. atomic-writes q p envelope kind a Q)

expected-writes : (before : QueuePair) (shared : Option SharedReceives) (p : Fields) (envelope : Option ℕ) (shape : Shape) → RowWrites (expected_row before shared p envelope shape)
expected-writes before shared p envelope shape Q = walk-expected (WritesBy Q) before shared p envelope shape (plain-writes _ refl Q) (plain-writes _ refl Q)
    (λ e. valid-writes (with_flag false before) p envelope (next_receive (with_flag false before) shared) shape Q)

ahead-none : (q : QueuePair) → (ahead_effects q).writes ≡ []
ahead-none q = grind arith

duplicate-none : (psn : ℕ) (p : Fields) (envelope : Option ℕ) (shape : Shape) (q : QueuePair) → (duplicate_effects psn p envelope shape q).writes ≡ []
duplicate-none psn p envelope shape q = grind arith

request-writes : (p : Fields) (envelope : Option ℕ) (shared : Option SharedReceives) (shape : Shape) (q : QueuePair) → RowWrites (request_row p envelope shared shape q)
request-writes p envelope shared shape q Q = walk-request (WritesBy Q) p envelope shared shape q (plain-writes _ (ahead-none q) Q)
    (λ psn e. plain-writes _ (duplicate-none psn p envelope shape q) Q) (expected-writes q shared p envelope shape Q)

pub arrival-writes : (bytes : List ℕ) (envelope : Option ℕ) (shared : Option SharedReceives) (q : QueuePair) → RowWrites (arrival_row bytes envelope shared q)
arrival-writes bytes envelope shared q Q = walk-arrival (WritesBy Q) bytes envelope shared q (λ cause. plain-writes (drop_effects q cause) refl Q) (λ p none. response-writes p q Q)
    (λ p shape none. request-writes p envelope shared shape q Q)

pub respond-writes : (room : Bool) (q : QueuePair) → RowWrites (respond_row room q)
respond-writes room q Q asks = search rules

pub packet-writes : (q : QueuePair) (room : Bool) (n : Numbered) → RowWrites (packet_row q room n)
packet-writes q room n Q asks = search rules

pub invalidate-writes : (q : QueuePair) (n : Numbered) (key : Key) → RowWrites (invalidate_row q n key)
invalidate-writes q n key Q asks = search rules
