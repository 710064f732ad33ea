-- The asks of a SEND packet, by the receive that was found, and as those of its row; and the key that a packet ends.
use Rattle.std.proofs.Common.{◌≡◌, ℕ, refl, ap, sym, true≢false, is_none, is_some, Bool, true, false, List, length, nat_lt, ◌+◌, Option, None, Some}
use Rattle.std.specs.Option.{option_map}
use Rattle.std.proofs.lemmas.Option.{same_Some}
use Rattle.ca_keys.specs.declared.access.Kind.{Kind}
use Rattle.ca_base.specs.declared.queue_numbers.Message.{Message}
use Rattle.ca_base.specs.declared.queue_numbers.Message.TheVariants as messages
use Rattle.ca_base.specs.declared.request.Piece.{Piece}
use Rattle.ca_base.specs.declared.request.RecvRequest.{RecvRequest}
use Rattle.ca_base.specs.objects.QueuePair.{QueuePair}
use Rattle.ca_base.specs.declared.request.PlacedReceive.{PlacedReceive}
use Rattle.ca_wire.specs.declared.atomic_eth.AtomicEth.{AtomicEth}
use Rattle.ca_wire.specs.declared.reth.Reth.{Reth}
use Rattle.ca_wire.specs.Packet.{Fields}
use Rattle.ca_wire.specs.declared.shape.Position.{Position}
use Rattle.ca_model.specs.Requests.{list_length}
use Rattle.ca_model.specs.machine.Arrivals.{refusal_effects, with_flag}
use Rattle.ca_model.specs.declared.receiving.Receiving.{Receiving}
use Rattle.ca_model.specs.declared.write_reach.WriteReach.{WriteReach}
use Rattle.ca_model.specs.machine.Expected.{atomic_row, read_queued, receiving_of, send_row, valid_row, write_reach, write_row}
use Rattle.ca_model.specs.machine.Row.{Row, plain_row, Does}
use Rattle.ca_wire.specs.declared.shape.Shape.TheVariants as shapes
use Rattle.ca_wire.specs.declared.syndrome.NakCode.TheVariants.{InvalidRequest}
use Rattle.ca_responder.specs.Asking.{IsFree, fit_into, fit_of, send_asks, send_key}

pub fit_of_next : (q : QueuePair) (p : Fields) (r : RecvRequest) (next : Option PlacedReceive) → IsFree q.responder.message
    → Some r ≡ option_map (λ n. n.receive) next → fit_into p 0 r.list.items ≡ fit_of q p next
fit_of_next q p r next free e = by q.responder.message next free e
  where
    fit : Option Receiving → Option (ℕ × List Piece)
    fit (Some r) = fit_into p r.before r.receive.receive.list.items
    fit None = None

    by : (m : Option Message) (next : Option PlacedReceive) → IsFree m → Some r ≡ option_map (λ n. n.receive) next
        → fit_into p 0 r.list.items ≡ fit (receiving_of q next m)
    by None None free e = absurd (true≢false (ap is_some e))
    by None (Some n) free e = ap (λ x. fit_into p 0 x.list.items) (same_Some r n.receive e)
    by (Some (messages.Write key address left count)) None free e = absurd (true≢false (ap is_some e))
    by (Some (messages.Write key address left count)) (Some n) free e = ap (λ x. fit_into p 0 x.list.items) (same_Some r n.receive e)
    by (Some (messages.Send place receive count)) next free e = absurd free

pub fit_of_none : (q : QueuePair) (p : Fields) (next : Option PlacedReceive) → IsFree q.responder.message
    → None ≡ option_map (λ n. n.receive) next → None ≡ fit_of q p next
fit_of_none q p next free e = by q.responder.message next free e
  where
    fit : Option Receiving → Option (ℕ × List Piece)
    fit (Some r) = fit_into p r.before r.receive.receive.list.items
    fit None = None

    by : (m : Option Message) (next : Option PlacedReceive) → IsFree m → None ≡ option_map (λ n. n.receive) next → None ≡ fit (receiving_of q next m)
    by None None free e = refl
    by None (Some n) free e = absurd (true≢false (sym (ap is_some e)))
    by (Some (messages.Write key address left count)) None free e = refl
    by (Some (messages.Write key address left count)) (Some n) free e = absurd (true≢false (sym (ap is_some e)))
    by (Some (messages.Send place receive count)) next free e = absurd free

-- the asks of its row, and the key that it ends
record IsSendRow (q : QueuePair) (p : Fields) (f : Option (ℕ × List Piece)) (row : Row) : Type 0 where
  asks : send_asks q p f ≡ row.asks
  key : send_key q p f ≡ row.invalidation

send-row : (q : QueuePair) (p : Fields) (envelope : Option ℕ) (next : Option PlacedReceive) (place : Position)
    → IsSendRow q p (fit_of q p next) (valid_row (with_flag false q) p envelope next (shapes.Send place))
send-row q p envelope next place = by (receiving_of q next q.responder.message)
  where
    fit : Option Receiving → Option (ℕ × List Piece)
    fit (Some r) = fit_into p r.before r.receive.receive.list.items
    fit None = None

    row : Option Receiving → Row
    row (Some r) = send_row (with_flag false q) p place r
    row None = plain_row (Does (refusal_effects InvalidRequest (with_flag false q)))

    long : (r : Receiving) (b t : Bool) → nat_lt (list_length r.receive.receive.list.items) (r.before + length p.payload) ≡ b → r.taken ≡ t
        → IsSendRow q p (fit_into p r.before r.receive.receive.list.items) (send_row (with_flag false q) p place r)
    long r true t e is = rw e (record { asks = refl; key = refl })
    long r false true e is = rw (e, is) (record { asks = refl; key = refl })
    long r false false e is = rw (e, is) (record { asks = refl; key = refl })

    by : (r : Option Receiving) → IsSendRow q p (fit r) (row r)
    by None = record { asks = refl; key = refl }
    by (Some r) = long r (nat_lt (list_length r.receive.receive.list.items) (r.before + length p.payload)) r.taken refl refl

pub asks_of_send : (q : QueuePair) (p : Fields) (envelope : Option ℕ) (next : Option PlacedReceive) (place : Position)
    → send_asks q p (fit_of q p next) ≡ (valid_row (with_flag false q) p envelope next (shapes.Send place)).asks
asks_of_send q p envelope next place = (send-row q p envelope next place).asks

pub key_of_send : (q : QueuePair) (p : Fields) (envelope : Option ℕ) (next : Option PlacedReceive) (place : Position)
    → send_key q p (fit_of q p next) ≡ (valid_row (with_flag false q) p envelope next (shapes.Send place)).invalidation
key_of_send q p envelope next place = (send-row q p envelope next place).key

-- no other packet ends a key
pub key_of_write : (q : QueuePair) (p : Fields) (envelope : Option ℕ) (next : Option PlacedReceive) (place : Position)
    → None ≡ (valid_row (with_flag false q) p envelope next (shapes.Write place)).invalidation
key_of_write q p envelope next place = by (write_reach (with_flag false q) p)
  where
    row : Option WriteReach → Row
    row (Some r) = write_row (with_flag false q) p envelope place next r
    row None = plain_row (Does (refusal_effects InvalidRequest (with_flag false q)))

    by : (r : Option WriteReach) → None ≡ (row r).invalidation
    by (Some r) = refl
    by None = refl

pub key_of_read : (q : QueuePair) (p : Fields) (envelope : Option ℕ) (next : Option PlacedReceive)
    → None ≡ (valid_row (with_flag false q) p envelope next shapes.Read).invalidation
key_of_read q p envelope next = by p.reth
  where
    row : Option Reth → Row
    row (Some h) = plain_row (Does (read_queued (with_flag false q) p envelope h))
    row None = plain_row (Does (refusal_effects InvalidRequest (with_flag false q)))

    by : (h : Option Reth) → None ≡ (row h).invalidation
    by (Some h) = refl
    by None = refl

pub key_of_atomic : (q : QueuePair) (p : Fields) (envelope : Option ℕ) (next : Option PlacedReceive) (kind : Kind)
    → None ≡ (valid_row (with_flag false q) p envelope next (shapes.Atomic kind)).invalidation
key_of_atomic q p envelope next kind = by p.atomic
  where
    row : Option AtomicEth → Row
    row (Some a) = atomic_row (with_flag false q) p envelope kind a
    row None = plain_row (Does (refusal_effects InvalidRequest (with_flag false q)))

    by : (a : Option AtomicEth) → None ≡ (row a).invalidation
    by (Some a) = refl
    by None = refl

pub none_waits : (r : Option RecvRequest) (next : Option PlacedReceive) → r ≡ option_map (λ n. n.receive) next → is_none r ≡ is_none next
none_waits r None e = ap is_none e
none_waits r (Some n) e = ap is_none e
