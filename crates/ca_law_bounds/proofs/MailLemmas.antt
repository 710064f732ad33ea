-- Mailboxes whose envelopes are addressed to their queue pair: one more, one delivered, one lent. And what the marks of a
-- packet that is sent say. For proofs only.
use Rattle.std.proofs.Common.{◌≡◌, ℕ, zero, suc, ◌-◌, ◌==◌, Bool, true, false, if◌then◌else◌, List, [], ◌∷◌, ◌++◌, take, Option, None, Some, Ok, Err, is_some, refl, ap, sym, subst, ◌∙◌, true≢false}
use Rattle.std.proofs.lemmas.Option.{same_Some}
use Rattle.std.specs.List.{AllByRecursion, slice_get}
use Rattle.std.specs.Option.{option_map_or}
use Rattle.std.specs.Prelude.{Result}
use Rattle.std.specs.Result.{result_ok}
use Rattle.ca_base.specs.declared.correspondent.Correspondent.{Correspondent}
use Rattle.ca_base.specs.declared.limits.TheConstants.{KEPT_ENVELOPES}
use Rattle.ca_base.specs.declared.lot.Lot.{Lot}
use Rattle.ca_base.specs.declared.mail_envelope.MailEnvelope.{MailEnvelope}
use Rattle.ca_base.specs.declared.step.Sent.{Sent}
use Rattle.ca_base.specs.declared.step.Sent.TheVariants.{Silent, Spelt}
use Rattle.ca_base.specs.objects.Mailbox.{Mailbox, after_send, bytes_lent, is_lost, later_than, with_delivery}
use Rattle.ca_base.specs.objects.QueuePair.{QueuePair, QueueSlot, Present}
use Rattle.ca_law_bounds.specs.CalmMail.{AreAddressed, IsAddressed, IsCalmWorld, IsNotWaiting, SendsNoRnrNak, SendsPacket}
use Rattle.ca_keys.specs.Equal.{queue_eq}
use Rattle.ca_keys.specs.declared.names.QueueId.{QueueId}
use Rattle.ca_law_world.proofs.Sound.SettledLemmas.{queue-path}
use Rattle.ca_model.specs.Packets.{packet_of}
use Rattle.ca_model.specs.Past.{with_at}
use Rattle.ca_model.specs.declared.mark.Mark.{Mark}
use Rattle.ca_model.specs.declared.mark.Mark.TheVariants as marks
use Rattle.ca_model.specs.machine.Requester.{peer_number}
use Rattle.ca_model.specs.machine.Row.{Effects}
use Rattle.ca_model.specs.machine.Turns.{Packet, packet_sent, reaches_peer, sent_marks}
use Rattle.ca_model.specs.machine.World.{World}
use Rattle.ca_wire.specs.Decoding.{packet_in}
use Rattle.ca_wire.specs.Packet.{Fields}
use Rattle.ca_wire.specs.declared.wire_error.WireError.{WireError}
use Rattle.ca_law_lossless.specs.RowMail.{AreWholeDrops, IsFor, SendsFor}
use Rattle.ca_law_lossless.specs.Standing.{IsNoRnrNak}
use Rattle.ca_law_once.proofs.Ties.DeliverWalk.{Has}
use Rattle.ca_law_once.proofs.Ties.EntryLemmas.{IsLent, lent-envelope}
use Rattle.ca_law_once.proofs.Ties.SendLemmas.{boxes_after}
use Rattle.ca_law_once.specs.Entries.{IfPacket}
use Rattle.ca_law_once.proofs.Verbs.PairLemmas.{Replaces}

-- ---- the envelopes of a mailbox

pub addressed-delivered : (number later : ℕ) (es : List MailEnvelope) → AreAddressed number es → AreAddressed number (with_delivery later es)
addressed-delivered number later [] all = tt
addressed-delivered number later (e ∷ es) all = by (later == 0) (addressed-delivered number (later - 1) es all.1)
  where
    by : (b : Bool) → AreAddressed number (with_delivery (later - 1) es) → AreAddressed number (if b then record e { delivered = suc e.delivered } ∷ es else e ∷ with_delivery (later - 1) es)
    by true rest = (all.0, all.1)
    by false rest = (all.0, rest)

addressed-taken : (number k : ℕ) (es : List MailEnvelope) → AreAddressed number es → AreAddressed number (take k es)
addressed-taken number zero es all = tt
addressed-taken number (suc k) [] all = tt
addressed-taken number (suc k) (e ∷ es) all = (all.0, addressed-taken number k es all.1)

addressed-sent : (number : ℕ) (lot : Lot) (bytes : List ℕ) (m : Mailbox) → IsAddressed number bytes → AreAddressed number m.envelopes → AreAddressed number (after_send lot bytes m).envelopes
addressed-sent number lot bytes m one all = addressed-taken number KEPT_ENVELOPES (record { lot = lot; bytes = bytes; delivered = 0 } ∷ m.envelopes) (one, all)

addressed-at : (number : ℕ) (es : List MailEnvelope) (k : ℕ) (e : MailEnvelope) → AreAddressed number es → slice_get es k ≡ Some e → IsAddressed number e.bytes
addressed-at number [] k e all at = absurd (true≢false (sym (ap is_some at)))
addressed-at number (x ∷ es) zero e all at = subst (λ (y : MailEnvelope). IsAddressed number y.bytes) (same_Some x e at) all.0
addressed-at number (x ∷ es) (suc k) e all at = addressed-at number es k e all.1 at

pub addressed-lent : (number index : ℕ) (m : Mailbox) (bytes : List ℕ) → AreAddressed number m.envelopes → bytes_lent index m ≡ Some bytes → IsAddressed number bytes
addressed-lent number index m bytes all is = subst (IsAddressed number) lent.brings (addressed-at number m.envelopes (later_than index m) lent.envelope all lent.at)
  where
    lent : IsLent index m bytes
    lent = lent-envelope index m bytes is

-- bytes that decode are addressed as what they decode to
pub addressed-packet : (number : ℕ) (bytes : List ℕ) → is_some (packet_of bytes) ≡ true → IfPacket bytes (IsFor number) → IsNoRnrNak bytes → IsAddressed number bytes
addressed-packet number bytes some own ready = by (packet_in bytes) refl
  where
    by : (r : Result Fields WireError) → packet_in bytes ≡ r → IsAddressed number bytes
    by (Ok p) is = record { packet = p; decodes = is; own = own p is; ready = ready p is }
    by (Err error) is = absurd (true≢false (sym some ∙ ap (λ r. is_some (result_ok r)) is))

-- ---- worlds

-- another queue pair in one slot, and another mailbox there
pub replaced-calm : (w v : World) (name : QueueId) (slot : QueueSlot) (box : Mailbox) → Replaces w name slot box v → IsNotWaiting slot → AreAddressed name.number box.envelopes → IsCalmWorld w → IsCalmWorld v
replaced-calm w v name slot box replaces wakes mail calm = record { mail = λ n. box-at n (queue_eq name n) refl; wakes = λ n. slot-at n (queue_eq name n) refl }
  where
    box-at : (n : QueueId) (b : Bool) → queue_eq name n ≡ b → AreAddressed n.number (v.mailbox n).envelopes
    box-at n true here = subst (λ (m : Mailbox). AreAddressed n.number m.envelopes) (sym (replaces.here n here).1) (subst (λ (k : QueueId). AreAddressed k.number box.envelopes) (queue-path name n here) mail)
    box-at n false none = subst (λ (m : Mailbox). AreAddressed n.number m.envelopes) (sym (replaces.elsewhere n none).1) (calm.mail n)

    slot-at : (n : QueueId) (b : Bool) → queue_eq name n ≡ b → IsNotWaiting (v.queue n)
    slot-at n true here = subst IsNotWaiting (sym (replaces.here n here).0) wakes
    slot-at n false none = subst IsNotWaiting (sym (replaces.elsewhere n none).0) (calm.wakes n)

-- a queue pair goes on, and its peer's mailbox has what it sends, where a path leads there
pub sent-calm : (w v : World) (q : QueuePair) (p : Correspondent) (lot : Lot) (e : Effects) → e.queue.requester.waiting ≡ false → ((request : Option ℕ) → e.sent ≡ Spelt request → IsAddressed p.queue.number e.spelt)
    → Has (with_at queue_eq w.queue q.queue (Present e.queue)) (boxes_after w q p lot (packet_sent e)) v → IsCalmWorld w → IsCalmWorld v
sent-calm w v q p lot e awake sent has calm = record {
  mail = λ n. subst (λ (f : QueueId → Mailbox). AreAddressed n.number (f n).envelopes) (sym has.mailbox) (boxes n e.sent refl);
  wakes = λ n. subst (λ (f : QueueId → QueueSlot). IsNotWaiting (f n)) (sym has.queue) (slot n (queue_eq q.queue n));
}
  where
    slot : (n : QueueId) (b : Bool) → IsNotWaiting (if b then Present e.queue else w.queue n)
    slot n true = awake
    slot n false = calm.wakes n

    box : (n : QueueId) (b : Bool) → queue_eq p.queue n ≡ b → IsAddressed p.queue.number e.spelt → AreAddressed n.number (if b then after_send lot e.spelt (w.mailbox p.queue) else w.mailbox n).envelopes
    box n true here one = subst (λ (k : QueueId). AreAddressed k.number (after_send lot e.spelt (w.mailbox p.queue)).envelopes) (queue-path p.queue n here)
        (addressed-sent p.queue.number lot e.spelt (w.mailbox p.queue) one (calm.mail p.queue))
    box n false none one = calm.mail n

    packet : Sent → Option Packet
    packet Silent = None
    packet (Spelt request) = Some (record { request = request; bytes = e.spelt })

    reached : (n : QueueId) (b : Bool) → IsAddressed p.queue.number e.spelt → AreAddressed n.number ((if b then with_at queue_eq w.mailbox p.queue (after_send lot e.spelt (w.mailbox p.queue)) else w.mailbox) n).envelopes
    reached n true one = box n (queue_eq p.queue n) refl one
    reached n false one = calm.mail n

    boxes : (n : QueueId) (s : Sent) → e.sent ≡ s → AreAddressed n.number (boxes_after w q p lot (packet s) n).envelopes
    boxes n Silent is = calm.mail n
    boxes n (Spelt request) is = reached n (reaches_peer q p (w.mailbox p.queue)) (sent request is)

-- ---- the marks of a packet that is sent

pub all-behind : {X : Type 0} (P : X → Type 0) (xs ys : List X) → AllByRecursion P (xs ++ ys) → AllByRecursion P ys
all-behind P [] ys all = all
all-behind P (x ∷ xs) ys all = all-behind P xs ys all.1

sent-one : (P : Mark → Type 0) (q : QueuePair) (p : Correspondent) (m : Mailbox) (lot : Lot) (x : Packet) → AllByRecursion P (sent_marks q p m lot x) → (index : Option ℕ) × P (marks.Sent q.queue p.queue index x.request x.bytes)
sent-one P q p m lot x all = by (reaches_peer q p m) all
  where
    by : (b : Bool) → AllByRecursion P (if b
        then marks.Sent q.queue p.queue (Some m.next) x.request x.bytes ∷ (if is_lost lot then marks.Lost p.queue (Some m.next) ∷ [] else [])
        else marks.Sent q.queue p.queue None x.request x.bytes ∷ marks.Lost p.queue None ∷ []) → (index : Option ℕ) × P (marks.Sent q.queue p.queue index x.request x.bytes)
    by true all = (Some m.next, all.0)
    by false all = (None, all.0)

-- what holds of all marks of a turn holds of that of its packet
turn-sent : (P : Mark → Type 0) (w : World) (q : QueuePair) (p : Correspondent) (lot : Lot) (e : Effects) (request : Option ℕ) (ms : List Mark) → e.sent ≡ Spelt request
    → ms ≡ e.marks ++ option_map_or (sent_marks q p (w.mailbox p.queue) lot) (packet_sent e) [] → AllByRecursion P ms → (index : Option ℕ) × P (marks.Sent q.queue p.queue index request e.spelt)
turn-sent P w q p lot e request ms is are all = sent-one P q p (w.mailbox p.queue) lot (record { request = request; bytes = e.spelt })
    (subst (λ o. AllByRecursion P (option_map_or (sent_marks q p (w.mailbox p.queue) lot) (packet o) [])) is
    (all-behind P e.marks (option_map_or (sent_marks q p (w.mailbox p.queue) lot) (packet_sent e) []) (subst (AllByRecursion P) are all)))
  where
    packet : Sent → Option Packet
    packet Silent = None
    packet (Spelt request) = Some (record { request = request; bytes = e.spelt })

-- so what a turn sends is addressed to the peer
pub turn-addressed : (w : World) (q : QueuePair) (p : Correspondent) (lot : Lot) (e : Effects) (ms : List Mark) → q.peer ≡ Some p → SendsFor q e
    → ms ≡ e.marks ++ option_map_or (sent_marks q p (w.mailbox p.queue) lot) (packet_sent e) [] → AllByRecursion SendsPacket ms → AllByRecursion SendsNoRnrNak ms
    → (request : Option ℕ) → e.sent ≡ Spelt request → IsAddressed p.queue.number e.spelt
turn-addressed w q p lot e ms names own are packets ready request is = subst (λ n. IsAddressed n e.spelt) (ap (λ o. option_map_or (λ (x : Correspondent). x.queue.number) o 0) names)
    (addressed-packet (peer_number q) e.spelt (turn-sent SendsPacket w q p lot e request ms is are packets).1 (own request is) (turn-sent SendsNoRnrNak w q p lot e request ms is are ready).1)

pub sent-whole : (q : QueuePair) (p : Correspondent) (m : Mailbox) (lot : Lot) (e : Effects) → AreWholeDrops (option_map_or (sent_marks q p m lot) (packet_sent e) [])
sent-whole q p m lot e = by e.sent
  where
    packet : Sent → Option Packet
    packet Silent = None
    packet (Spelt request) = Some (record { request = request; bytes = e.spelt })

    lost : (b : Bool) → AreWholeDrops (if b then marks.Lost p.queue (Some m.next) ∷ [] else [])
    lost true = (record {}, record {})
    lost false = record {}

    reach : (x : Packet) (b : Bool) → AreWholeDrops (
        if b then marks.Sent q.queue p.queue (Some m.next) x.request x.bytes ∷ (if is_lost lot then marks.Lost p.queue (Some m.next) ∷ [] else [])
        else marks.Sent q.queue p.queue None x.request x.bytes ∷ marks.Lost p.queue None ∷ [])
    reach x true = (record {}, lost (is_lost lot))
    reach x false = (record {}, (record {}, record {}))

    by : (s : Sent) → AreWholeDrops (option_map_or (sent_marks q p m lot) (packet s) [])
    by Silent = record {}
    by (Spelt request) = reach (record { request = request; bytes = e.spelt }) (reaches_peer q p m)
