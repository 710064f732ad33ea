-- The key that a packet which arrives may end is the one that it names, and the packet asks for its end. For proofs only.
use Rattle.std.proofs.Common.{◌≡◌, ℕ, ◌+◌, ◌==◌, ◌&&◌, nat_lt, Bool, true, false, not, if◌then◌else◌, List, [], ◌∷◌, length, sum_by, Option, None, Some, IfSome, is_some, is_none, Ok, Err, Result, refl, sym, ap, subst, ◌∙◌, true≢false}
use Rattle.std.specs.Int.{w32, w64}
use Rattle.std.specs.Option.{ok_or, option_and_then, option_map, option_map_or}
use Rattle.ca_wire.specs.declared.shape.Position.{Position}
use Rattle.ca_wire.specs.declared.shape.Shape.{Shape}
use Rattle.ca_model.specs.machine.Acknowledgements.{Acknowledgement}
use Rattle.ca_base.specs.objects.StateTable.{is_among}
use Rattle.ca_model.specs.declared.mark.Drop1.{Drop1}
use Rattle.ca_model.specs.machine.Row.{Does}
use Rattle.ca_model.specs.machine.Numbering.{Numbered}
use Rattle.ca_wire.specs.declared.syndrome.NakCode.TheVariants.{InvalidRequest}
use Rattle.ca_wire.specs.declared.opcode.TheConstants.{ACKNOWLEDGE}
use Rattle.ca_wire.specs.declared.reth.Reth.{Reth}
use Rattle.ca_wire.specs.declared.atomic_eth.AtomicEth.{AtomicEth}
use Rattle.ca_wire.specs.Syndrome.{syndrome_in}
use Rattle.ca_model.specs.Packets.{is_response}
use Rattle.ca_wire.specs.Table.{shape_of}
use Rattle.ca_model.specs.machine.Arrivals.{with_receive_taken}
use Rattle.ca_model.specs.machine.Arrivals.{with_flag}
use Rattle.ca_model.specs.machine.Arrivals.{refusal_effects}
use Rattle.ca_model.specs.machine.Responses.{drop_effects}
use Rattle.ca_model.specs.machine.Duplicates.{ahead_effects}
use Rattle.ca_model.specs.machine.Duplicates.{duplicate_effects}
use Rattle.ca_psn.specs.Psn.{widened}
use Rattle.ca_model.specs.machine.Duplicates.{request_row}
use Rattle.ca_model.specs.machine.Responses.{is_outstanding_at}
use Rattle.ca_model.specs.machine.Responses.{response_psn}
use Rattle.ca_model.specs.machine.Responses.{outstanding_row}
use Rattle.ca_model.specs.machine.Responses.{fitting_row}
use Rattle.ca_model.specs.machine.Responses.{answer_row}
use Rattle.ca_model.specs.machine.Responses.{fits_request}
use Rattle.ca_model.specs.machine.Acknowledgements.{and_then}
use Rattle.ca_model.specs.machine.Acknowledgements.{failure_effects}
use Rattle.ca_model.specs.machine.Numbering.{request_at}
use Rattle.ca_model.specs.machine.Acknowledgements.{acknowledgement_below}
use Rattle.ca_model.specs.machine.Responses.{acknowledge_row}
use Rattle.ca_model.specs.machine.Expected.{takes_receive}
use Rattle.ca_model.specs.machine.Expected.{is_invalid}
use Rattle.ca_model.specs.machine.Expected.{rnr_effects}
use Rattle.ca_model.specs.machine.Expected.{read_queued}
use Rattle.ca_model.specs.machine.Arrivals.{next_receive}
use Rattle.ca_model.specs.machine.Delivery.{arrival_drops}
use Rattle.ca_model.specs.Requests.{list_length}
use Rattle.ca_wire.specs.declared.shape.Shape.TheVariants as shapes
use Rattle.ca_base.specs.declared.change.State.TheVariants as states
use Rattle.ca_model.specs.declared.mark.Drop1.TheVariants as drops
use Rattle.ca_base.specs.Sight.{Invalidation}
use Rattle.ca_base.specs.declared.completion.WcStatus.TheVariants.{BadResponse}
use Rattle.ca_base.specs.declared.request.PlacedReceive.{PlacedReceive}
use Rattle.ca_base.specs.objects.QueuePair.{QueuePair}
use Rattle.ca_base.specs.objects.SharedReceives.{SharedReceives}
use Rattle.ca_keys.specs.Refusals.{first_of}
use Rattle.ca_model.specs.declared.receiving.Receiving.{Receiving}
use Rattle.ca_model.specs.declared.write_reach.WriteReach.{WriteReach}
use Rattle.ca_model.specs.machine.Delivery.{arrival_row, packet_arrived}
use Rattle.ca_model.specs.machine.Expected.{atomic_row, expected_row, invalidation_of, receiving_of, send_row, valid_row, write_reach, write_row}
use Rattle.ca_model.specs.machine.Responses.{response_row}
use Rattle.ca_model.specs.machine.Row.{Row, plain_row}
use Rattle.ca_wire.specs.Decoding.{bth_at, body_in, fields_from, headers_at, packet_in, payload_behind, part_at, number_from, aeth_from, atomic_from, reth_from, ◌>>=◌}
use Rattle.ca_wire.specs.Packet.{Fields, follows}
use Rattle.ca_wire.specs.Table.{AETH, AtomicAckETH, AtomicETH, IETH, ImmDt, RETH, Row as TableRow, has, row_of, size_of}
use Rattle.ca_wire.specs.declared.bth.Bth.{Bth}
use Rattle.ca_wire.specs.declared.headers.Headers.{Headers}
use Rattle.ca_wire.specs.declared.wire_error.WireError.{WireError}
use Rattle.ca_wire.specs.declared.wire_error.WireError.TheVariants.{Opcode}

-- a packet that names a key to end has an opcode that asks for this
pub ieth-asks : (bytes : List ℕ) (f : Fields) (k : ℕ) → packet_in bytes ≡ Ok f → f.ieth ≡ Some k → follows IETH f.opcode ≡ true
unfolding packet_in body_in
ieth-asks bytes f k is has-key = by (bth_at bytes) is
  where
    fails : Result Fields WireError → Bool
    fails (Ok x) = false
    fails (Err e) = true

    fields-of : Result Fields WireError → Fields
    fields-of (Ok x) = x
    fields-of (Err e) = f

    asks : (b : Bool) (o : Option ℕ) → (b ≡ false → o ≡ None) → o ≡ Some k → b ≡ true
    asks true o none some = refl
    asks false o none some = absurd (true≢false (sym (ap is_some (sym (none refl) ∙ some))))

    paired : Headers → List ℕ → Result (Headers × List ℕ) WireError
    paired h p = Ok (h, p)

    whole : Bth → Headers × List ℕ → Result Fields WireError
    whole b x = Ok (fields_from b x.0 x.1)

    body : (b : Bth) (rest : List ℕ) (r : TableRow) → row_of b.opcode ≡ Some r → (p : Result (List ℕ) WireError) → ((p >>= paired (headers_at r.headers rest).0) >>= whole b) ≡ Ok f → follows IETH f.opcode ≡ true
    body b rest r known (Err e) same = absurd (true≢false (ap fails same))
    body b rest r known (Ok p) same = ap (λ (g : Fields). follows IETH g.opcode) (sym one) ∙ ap (λ o. has IETH (option_map_or (λ r. r.headers) o [])) known
        ∙ asks (has IETH r.headers) ((headers_at r.headers rest).0).ieth (λ e. ap (λ b. (part_at 4 (number_from w32) b (part_at 4 (number_from w32) (has ImmDt r.headers) (part_at 8 (number_from w64) (has AtomicAckETH r.headers)
        (part_at 4 aeth_from (has AETH r.headers) (part_at 28 atomic_from (has AtomicETH r.headers) (part_at 16 reth_from (has RETH r.headers) rest).1).1).1).1).1).0) e) (ap (λ (g : Fields). g.ieth) one ∙ has-key)
      where
        one : fields_from b (headers_at r.headers rest).0 p ≡ f
        one = ap fields-of same

    opcode : (b : Bth) (rest : List ℕ) (o : Option TableRow) → row_of b.opcode ≡ o
        → ((ok_or o Opcode >>= λ r. payload_behind (sum_by size_of r.headers) r.payload b.pad rest >>= paired (headers_at r.headers rest).0) >>= whole b) ≡ Ok f → follows IETH f.opcode ≡ true
    opcode b rest None known same = absurd (true≢false (ap fails same))
    opcode b rest (Some r) known same = body b rest r known (payload_behind (sum_by size_of r.headers) r.payload b.pad rest) same

    by : (r : Result (Bth × List ℕ) WireError) → (r >>= λ b. body_in b.0.opcode b.0.pad b.1 >>= whole b.0) ≡ Ok f → follows IETH f.opcode ≡ true
    by (Err e) same = absurd (true≢false (ap fails same))
    by (Ok b) same = opcode b.0 b.1 (row_of b.0.opcode) refl same

-- ---- rows

-- a key of this queue pair's domain that the packet names is ended by this queue pair
abbrev IsNamedAt : QueuePair → Option ℕ → Invalidation → Type 0
IsNamedAt q named i = (named ≡ Some i.key.0) × ((i.queue ≡ q.queue) × (i.domain ≡ q.domain))

-- the key that a row of a queue pair ends is the one that the packet names
abbrev EndsNamed : QueuePair → Fields → Row → Type 0
EndsNamed q p row = IfSome row.invalidation (IsNamedAt q p.ieth)

named-of : (q : QueuePair) (p : Fields) → IfSome (invalidation_of q p) (IsNamedAt q p.ieth)
named-of q p = by p.ieth
  where
    ended : ℕ → Invalidation
    ended key = record { queue = q.queue; domain = q.domain; key = record { 0 = key } }

    by : (o : Option ℕ) → IfSome (option_map ended o) (IsNamedAt q o)
    by None = record {}
    by (Some key) = (refl, (refl, refl))

pick : (q : QueuePair) (p : Fields) (b : Bool) (x y : Row) → EndsNamed q p x → EndsNamed q p y → EndsNamed q p (if b then x else y)
pick q p true x y one other = one
pick q p false x y one other = other

-- a row of two, of which the one ends no key and the other what the packet names
send-named : (q : QueuePair) (p : Fields) (position : Position) (r : Receiving) → EndsNamed q p (send_row q p position r)
send-named q p position r = by (nat_lt (list_length r.receive.receive.list.items) (r.before + length p.payload)) _ _ refl (taking r.taken)
  where
    taking : (b : Bool) → IfSome (invalidation_of (if b then with_receive_taken q else q) p) (IsNamedAt q p.ieth)
    taking true = named-of (with_receive_taken q) p
    taking false = named-of q p

    by : (long : Bool) (x y : Row) → x.invalidation ≡ None → EndsNamed q p y → EndsNamed q p (if long then x else y)
    by true x y none named = subst (λ o. IfSome o (IsNamedAt q p.ieth)) (sym none) (record {})
    by false x y none named = named

valid-named : (q : QueuePair) (p : Fields) (envelope : Option ℕ) (next : Option PlacedReceive) (shape : Shape) → EndsNamed q p (valid_row q p envelope next shape)
valid-named q p envelope next (shapes.Send position) = by (receiving_of q next q.responder.message)
  where
    row : Option Receiving → Row
    row (Some r) = send_row q p position r
    row None = plain_row (Does (refusal_effects InvalidRequest q))

    by : (o : Option Receiving) → EndsNamed q p (row o)
    by (Some r) = send-named q p position r
    by None = record {}
valid-named q p envelope next (shapes.Write position) = by (write_reach q p)
  where
    row : Option WriteReach → Row
    row (Some r) = write_row q p envelope position next r
    row None = plain_row (Does (refusal_effects InvalidRequest q))

    by : (o : Option WriteReach) → EndsNamed q p (row o)
    by (Some r) = record {}
    by None = record {}
valid-named q p envelope next shapes.Read = by p.reth
  where
    row : Option Reth → Row
    row (Some h) = plain_row (Does (read_queued q p envelope h))
    row None = plain_row (Does (refusal_effects InvalidRequest q))

    by : (o : Option Reth) → EndsNamed q p (row o)
    by (Some r) = record {}
    by None = record {}
valid-named q p envelope next (shapes.Atomic kind) = by p.atomic
  where
    row : Option AtomicEth → Row
    row (Some a) = atomic_row q p envelope kind a
    row None = plain_row (Does (refusal_effects InvalidRequest q))

    by : (o : Option AtomicEth) → EndsNamed q p (row o)
    by (Some r) = record {}
    by None = record {}

expected-named : (before : QueuePair) (shared : Option SharedReceives) (p : Fields) (envelope : Option ℕ) (shape : Shape) → EndsNamed before p (expected_row before shared p envelope shape)
expected-named before shared p envelope shape = pick before p (is_invalid q p shape) (plain_row (Does (refusal_effects InvalidRequest q))) _ (record {})
    (pick before p (takes_receive p shape && is_none (next_receive q shared)) (plain_row (Does (rnr_effects q))) (valid_row q p envelope (next_receive q shared) shape) (record {}) (valid-named q p envelope (next_receive q shared) shape))
  where
    q : QueuePair
    q = with_flag false before

request-named : (p : Fields) (envelope : Option ℕ) (shared : Option SharedReceives) (shape : Shape) (q : QueuePair) → EndsNamed q p (request_row p envelope shared shape q)
request-named p envelope shared shape q = by (widened q.responder.expected p.psn)
  where
    by : (psn : ℕ) → EndsNamed q p (if nat_lt q.responder.expected psn then plain_row (Does (ahead_effects q))
        else if nat_lt psn q.responder.expected then plain_row (Does (duplicate_effects psn p envelope shape q))
        else expected_row q shared p envelope shape)
    by psn = pick q p (nat_lt q.responder.expected psn) (plain_row (Does (ahead_effects q))) _ (record {})
        (pick q p (nat_lt psn q.responder.expected) (plain_row (Does (duplicate_effects psn p envelope shape q))) (expected_row q shared p envelope shape) (record {}) (expected-named q shared p envelope shape))

fitting-named : (q : QueuePair) (psn : ℕ) (p : Fields) (a : Acknowledgement) → EndsNamed q p (fitting_row psn p a)
fitting-named q psn p a = pick q p a.went_back (plain_row (Does a.effects)) (row (request_at psn a.effects.queue)) (record {}) (by (request_at psn a.effects.queue))
  where
    row : Option Numbered → Row
    row None = plain_row (Does (and_then a.effects (failure_effects BadResponse None)))
    row (Some n) =
        if fits_request psn p a.effects.queue n then answer_row psn p a.effects n
        else plain_row (Does (and_then a.effects (failure_effects BadResponse None)))

    by : (o : Option Numbered) → EndsNamed q p (row o)
    by None = record {}
    by (Some n) = pick q p (fits_request psn p a.effects.queue n) (answer_row psn p a.effects n) (plain_row (Does (and_then a.effects (failure_effects BadResponse None)))) (record {}) (record {})

response-named : (p : Fields) (q : QueuePair) → EndsNamed q p (response_row p q)
response-named p q = pick q p (not (is_among (states.Rts ∷ states.Sqd ∷ []) q.state)) (plain_row (Does (drop_effects q drops.State))) _ (record {})
    (pick q p (not (is_outstanding_at (response_psn q p) q)) (plain_row (Does (drop_effects q drops.Stale))) (outstanding_row (response_psn q p) p q) (record {})
    (pick q p (p.opcode == ACKNOWLEDGE) (plain_row (Does (acknowledge_row (response_psn q p) (option_and_then (λ a. syndrome_in a.syndrome) p.aeth) q))) (fitting_row (response_psn q p) p (acknowledgement_below (response_psn q p) q)) (record {})
    (fitting-named q (response_psn q p) p (acknowledgement_below (response_psn q p) q))))

packet-named : (p : Fields) (envelope : Option ℕ) (shared : Option SharedReceives) (q : QueuePair) → EndsNamed q p (packet_arrived p envelope shared q)
packet-named p envelope shared q = pick q p (is_response p.opcode) (response_row p q) (row (shape_of p.opcode)) (response-named p q) (by (shape_of p.opcode))
  where
    row : Option Shape → Row
    row (Some shape) = request_row p envelope shared shape q
    row None = plain_row (Does (drop_effects q drops.State))

    by : (o : Option Shape) → EndsNamed q p (row o)
    by (Some shape) = request-named p envelope shared shape q
    by None = record {}

-- the bytes spell a packet that names the key, which this queue pair ends, in its domain
pub record IsNaming (bytes : List ℕ) (q : QueuePair) (i : Invalidation) : Type 0 where
  pub fields : Fields
  pub is : packet_in bytes ≡ Ok fields
  pub key : fields.ieth ≡ Some i.key.0
  pub own : (i.queue ≡ q.queue) × (i.domain ≡ q.domain)

pub arrival-named : (bytes : List ℕ) (envelope : Option ℕ) (shared : Option SharedReceives) (q : QueuePair) (i : Invalidation) → (arrival_row bytes envelope shared q).invalidation ≡ Some i → IsNaming bytes q i
arrival-named bytes envelope shared q i ends = by (packet_in bytes) refl ends
  where
    unless : Fields → Option Drop1 → Row
    unless p (Some cause) = plain_row (Does (drop_effects q cause))
    unless p None = packet_arrived p envelope shared q

    row : Result Fields WireError → Row
    row (Err error) = plain_row (Does (drop_effects q (drops.Wire error)))
    row (Ok p) = unless p (first_of (arrival_drops q p))

    at : (p : Fields) → packet_in bytes ≡ Ok p → (o : Option Drop1) → (unless p o).invalidation ≡ Some i → IsNaming bytes q i
    at p is (Some cause) ends = absurd (true≢false (sym (ap is_some ends)))
    at p is None ends = record { fields = p; is = is; key = named.0; own = named.1 }
      where
        named : IsNamedAt q p.ieth i
        named = subst (λ o. IfSome o (IsNamedAt q p.ieth)) ends (packet-named p envelope shared q)

    by : (r : Result Fields WireError) → packet_in bytes ≡ r → (row r).invalidation ≡ Some i → IsNaming bytes q i
    by (Err error) is ends = absurd (true≢false (sym (ap is_some ends)))
    by (Ok p) is ends = at p is (first_of (arrival_drops q p)) ends
