-- What the marks of a turn tell of packets that were sent. For proofs only.
use Rattle.std.proofs.Common.{◌≡◌, ℕ, Bool, true, false, if◌then◌else◌, List, [], ◌∷◌, ◌++◌, Option, None, Some, refl, ap, ◌∙◌}
use Rattle.std.specs.Option.{option_map_or}
use Rattle.ca_law_endings.proofs.InnerLemmas.{AreOwn, IsOwnMark}
use Rattle.ca_law_endings.specs.Runs.{Leads}
use Rattle.ca_base.specs.declared.correspondent.Correspondent.{Correspondent}
use Rattle.ca_base.specs.declared.lot.Lot.{Lot}
use Rattle.ca_base.specs.declared.step.Sent.{Sent}
use Rattle.ca_base.specs.declared.step.Sent.TheVariants.{Silent, Spelt}
use Rattle.ca_base.specs.objects.Mailbox.{Mailbox, is_lost}
use Rattle.ca_base.specs.objects.QueuePair.{QueuePair}
use Rattle.ca_keys.specs.Equal.{queue_eq}
use Rattle.ca_keys.specs.Memory.{bytes_at}
use Rattle.ca_keys.specs.declared.names.QueueId.{QueueId}
use Rattle.ca_model.specs.declared.mark.Mark.{Mark}
use Rattle.ca_model.specs.declared.mark.Mark.TheVariants as marks
use Rattle.ca_model.specs.machine.Plan.{Plan, Stuck, Look, Read, If, Finish}
use Rattle.ca_model.specs.machine.Row.{Effects}
use Rattle.ca_model.specs.machine.Turns.{Packet, packet_sent, reaches_peer, sent_marks}
use Rattle.ca_model.specs.machine.World.{World, get}
use Rattle.ca_law_once.proofs.Ties.SentTies.{Tells}
use Rattle.ca_law_once.specs.Ties.{sent_to}

unsent-one : (n : QueueId) (m : Mark) (ms : List Mark) → IsOwnMark m → sent_to n (m ∷ ms) ≡ sent_to n ms
unsent-one n (marks.Verb by verb answer) ms own = refl
unsent-one n (marks.Granted g) ms own = refl
unsent-one n (marks.Revoked adapter key) ms own = refl
unsent-one n (marks.Remote queue domain envelope key kind address count verdict) ms own = refl
unsent-one n (marks.Local queue domain key kind address count verdict) ms own = refl
unsent-one n (marks.Stored place bytes) ms own = refl
unsent-one n (marks.Sent source target index request bytes) ms own = absurd own
unsent-one n (marks.Lost target index) ms own = refl
unsent-one n (marks.Arrived target index) ms own = refl
unsent-one n (marks.Dropped target cause) ms own = refl
unsent-one n (marks.Timer queue silent) ms own = refl
unsent-one n (marks.Done queue x cause) ms own = refl

-- marks of a row tell of no packet that is sent
pub unsent-behind : (n : QueueId) (ms ns : List Mark) → AreOwn ms → sent_to n (ms ++ ns) ≡ sent_to n ns
unsent-behind n [] ns own = refl
unsent-behind n (m ∷ ms) ns own = unsent-one n m (ms ++ ns) own.0 ∙ unsent-behind n ms ns own.1

pub own-unsent : (n : QueueId) (ms : List Mark) → AreOwn ms → sent_to n ms ≡ []
own-unsent n [] own = refl
own-unsent n (m ∷ ms) own = unsent-one n m ms own.0 ∙ own-unsent n ms own.1

-- the packet that is sent, if one is
packet-tells : (w : World) (q : QueuePair) (p : Correspondent) (lot : Lot) (x : Packet) → Tells w (sent_marks q p (w.mailbox p.queue) lot x) q p x.request
packet-tells w q p lot x n = by (reaches_peer q p m)
  where
    m : Mailbox
    m = w.mailbox p.queue

    lost : (b : Bool) → (if queue_eq p.queue n then (q.queue, x.request) ∷ sent_to n (if b then marks.Lost p.queue (Some m.next) ∷ [] else []) else sent_to n (if b then marks.Lost p.queue (Some m.next) ∷ [] else []))
        ≡ (if queue_eq p.queue n then (q.queue, x.request) ∷ [] else [])
    lost true = refl
    lost false = refl

    none : List (QueueId × Option ℕ)
    none = []

    nothing : (b : Bool) → none ≡ (if b then none else none)
    nothing true = refl
    nothing false = refl

    by : (b : Bool) → sent_to n (
        if b then marks.Sent q.queue p.queue (Some m.next) x.request x.bytes ∷ (if is_lost lot then marks.Lost p.queue (Some m.next) ∷ [] else [])
        else marks.Sent q.queue p.queue None x.request x.bytes ∷ marks.Lost p.queue None ∷ [])
        ≡ (if queue_eq p.queue n then (if b then (q.queue, x.request) ∷ [] else []) else [])
    by true = lost (is_lost lot)
    by false = nothing (queue_eq p.queue n)

pub spelt-tells : (w : World) (q : QueuePair) (p : Correspondent) (lot : Lot) (e : Effects) (request : Option ℕ) (ms : List Mark) → e.sent ≡ Spelt request → AreOwn e.marks
    → ms ≡ e.marks ++ option_map_or (sent_marks q p (w.mailbox p.queue) lot) (packet_sent e) [] → Tells w ms q p request
spelt-tells w q p lot e request ms is own are n = ap (sent_to n) are ∙ unsent-behind n e.marks _ own
    ∙ ap (λ o. sent_to n (option_map_or (sent_marks q p (w.mailbox p.queue) lot) (packet o) [])) is ∙ packet-tells w q p lot (record { request = request; bytes = e.spelt }) n
  where
    packet : Sent → Option Packet
    packet Silent = None
    packet (Spelt request) = Some (record { request = request; bytes = e.spelt })

pub silent-tells : (w : World) (q : QueuePair) (p : Correspondent) (lot : Lot) (e : Effects) (ms : List Mark) → e.sent ≡ Silent → AreOwn e.marks
    → ms ≡ e.marks ++ option_map_or (sent_marks q p (w.mailbox p.queue) lot) (packet_sent e) [] → (n : QueueId) → sent_to n ms ≡ []
silent-tells w q p lot e ms is own are n = ap (sent_to n) are ∙ unsent-behind n e.marks _ own ∙ ap (λ o. sent_to n (option_map_or (sent_marks q p (w.mailbox p.queue) lot) (packet o) [])) is
  where
    packet : Sent → Option Packet
    packet Silent = None
    packet (Spelt request) = Some (record { request = request; bytes = e.spelt })

-- a plan that ends in both ways
pub leads-both : (w : World) (P Q : World → List Mark → Type 0) (p : Plan) → Leads w P p → Leads w Q p → Leads w (λ v ms. P v ms × Q v ms) p
leads-both w P Q (Stuck reason) one other = record {}
leads-both w P Q (Look n k) one other = leads-both w P Q (k (get w n)) one other
leads-both w P Q (Read runs k) one other = leads-both w P Q (k (bytes_at w.byte runs)) one other
leads-both w P Q (If test p q) one other = (λ is. leads-both w P Q p (one.0 is) (other.0 is), λ is. leads-both w P Q q (one.1 is) (other.1 is))
leads-both w P Q (Finish changes writes marks) one other = (one, other)
