-- A turn that sends nothing, and changes of queue pairs that are no move, keep a world tied to a calm link. For proofs only.
use Rattle.std.proofs.Common.{◌≡◌, ◌≤◌, Bool, true, false, None, is_some, refl, ap, sym, subst, ◌∙◌, arith, true≢false}
use Rattle.ca_base.specs.declared.correspondent.Correspondent.{Correspondent}
use Rattle.ca_base.specs.objects.Mailbox.{Mailbox}
use Rattle.ca_base.specs.objects.QueuePair.{QueuePair, QueueSlot, Present}
use Rattle.ca_connection.specs.Layout.{Direction}
use Rattle.ca_connection.specs.Link.{Link, Requester}
use Rattle.ca_connection.specs.Calm.{CalmLink}
use Rattle.ca_keys.specs.Equal.{queue_eq}
use Rattle.ca_keys.specs.declared.names.QueueId.{QueueId}
use Rattle.ca_law_world.proofs.Sound.SettledLemmas.{queue-path}
use Rattle.ca_model.specs.machine.Invariants.{is_fresh}
use Rattle.ca_model.specs.machine.Row.{Effects}
use Rattle.ca_model.specs.machine.World.{World}
use Rattle.ca_law_once.proofs.Ties.DeliverLemmas.{before-rtr, before-sending, paired-after, present-same}
use Rattle.ca_law_once.proofs.Ties.DeliverTies.{other-name}
use Rattle.ca_law_once.specs.Ties.{IsPaired, IsTied, ReceiverTie}
use Rattle.ca_law_once.specs.Ties.ReceiverTie.{before as receiver_before, standing as receiver_standing, gone as receiver_gone}
use Rattle.ca_law_lossless.proofs.EndLemmas.{IsKept, KeepsReceiver, KeepsSender, ReceiverEnd, SameLife, before-connected, cursor-from, cursor-still, forgotten, joined-neither, joined-receiver, joined-sender, kept-of, receiver-at, receiver-of, receiver-unmoved, sender-at, sender-unmoved, still-receiver, still-sender, unpaired-before, unpaired-over}
use Rattle.ca_law_lossless.specs.CalmTies.{CalmAfter, CursorGoesOn, HasReceiver, IsCalmlyTied, ReceiverCalm, SenderCalm}
use Rattle.ca_law_once.proofs.Rows.ForgetLemmas.{Forgets}
use Rattle.ca_law_once.specs.Moves.{LeavesState}
use Rattle.ca_law_once.specs.Sides.{requester_in}
use Rattle.ca_law_once.proofs.Verbs.PairLemmas.{Replaces}

-- what a turn that sends nothing makes of a queue pair
pub record IsCalmTurn (q : QueuePair) (e : Effects) : Type 0 where
  pub life : SameLife q e.queue
  pub state : LeavesState q e
  pub numbers : requester_in e.queue ≡ requester_in q
  pub forgets : Forgets q e.queue
  pub flag : q.peer ≡ None → e.queue.responder.nak_sent ≡ q.responder.nak_sent

pub turn-keeps : (q : QueuePair) (e : Effects) → IsCalmTurn q e → KeepsSender q e.queue
turn-keeps q e turn = record {
  life = turn.life;
  numbers = turn.numbers;
  rtr = before-rtr q e turn.state;
  sends = before-sending q e turn.state;
  connected = before-connected q e turn.state;
}

-- the life that receives
pub turn-receiver : (d : Direction) (s r : Correspondent) (l : Link) (k : CalmLink) (q : QueuePair) (m : Mailbox) (e : Effects) → IsKept d k → IsCalmTurn q e → ReceiverTie d s r (Present q) m l.responder l.requests
    → ReceiverCalm d s r (Present q) m k.link.responder k.link.requests k.requests k.standing → ReceiverEnd d s r k (Present e.queue) m
turn-receiver d s r l k q m e kept turn (receiver_standing t paired same entries) tie = forgotten d s r k q e.queue m m kept turn.life turn.forgets here has.entries has.fresh has.same has.stands
    (λ none. true≢false (sym (ap is_some (sym (sym turn.life.peer ∙ none) ∙ here.names))))
  where
    here : IsPaired d r s (Present q) q
    here = paired-after d r s q q t refl refl (ap (λ (x : QueuePair). x.responder.mtu) (present-same q t paired.present) ∙ paired.mtu) paired

    has : HasReceiver d q m k.link.responder k.link.requests k.requests k.standing
    has = tie.paired q here
turn-receiver d s r l k q m e kept turn (receiver_before is same none) tie = receiver-unmoved d s r k (Present e.queue) m kept
    (receiver-of d s r q e.queue m m k.link.responder k.link.responder k.link.requests k.link.requests k.requests k.requests k.standing k.standing turn.life tie (λ b. (refl, refl, refl, refl))
    (λ nobody. turn.flag (sym turn.life.peer ∙ nobody)) (λ paired. absurd (unpaired-before d r s (Present q) q is paired)))
turn-receiver d s r l k q m e kept turn (receiver_gone is none) tie = receiver-unmoved d s r k (Present e.queue) m kept
    (receiver-of d s r q e.queue m m k.link.responder k.link.responder k.link.requests k.link.requests k.requests k.requests k.standing k.standing turn.life tie (λ b. (refl, refl, refl, refl))
    (λ nobody. turn.flag (sym turn.life.peer ∙ nobody)) (λ paired. absurd (unpaired-over d r s (Present q) q is paired)))

-- ---- one slot and its mailbox

pub receiver-here : (d : Direction) (s r : Correspondent) (w : World) (k : CalmLink) (name : QueueId) (q : QueuePair) → queue_eq name r.queue ≡ true → w.queue name ≡ Present q → IsCalmlyTied d s r w k
    → ReceiverCalm d s r (Present q) (w.mailbox name) k.link.responder k.link.requests k.requests k.standing
receiver-here d s r w k name q here is tied = subst (λ z. ReceiverCalm d s r z (w.mailbox name) k.link.responder k.link.requests k.requests k.standing) is
    (subst (λ n. ReceiverCalm d s r (w.queue n) (w.mailbox n) k.link.responder k.link.requests k.requests k.standing) (sym (queue-path name r.queue here)) tied.receiver)

pub sender-here : (d : Direction) (s r : Correspondent) (w : World) (k : CalmLink) (name : QueueId) (q : QueuePair) → queue_eq name s.queue ≡ true → w.queue name ≡ Present q → IsCalmlyTied d s r w k
    → SenderCalm d s r (Present q) (w.mailbox name) k.link.requester k.link.responses k.responses
sender-here d s r w k name q here is tied = subst (λ z. SenderCalm d s r z (w.mailbox name) k.link.requester k.link.responses k.responses) is
    (subst (λ n. SenderCalm d s r (w.queue n) (w.mailbox n) k.link.requester k.link.responses k.responses) (sym (queue-path name s.queue here)) tied.sender)

-- a turn that sends nothing
pub turn-calm : (d : Direction) (s r : Correspondent) (w v : World) (l : Link) (k : CalmLink) (name : QueueId) (q : QueuePair) (e : Effects) → w.queue name ≡ Present q → IsCalmTurn q e → Replaces w name (Present e.queue) (w.mailbox name) v
    → IsTied d s r w l → IsCalmlyTied d s r w k → CalmAfter d s r w v
turn-calm d s r w v l k name q e is turn replaces tied calmly = by (queue_eq name r.queue) refl (queue_eq name s.queue) refl
  where
    by : (b : Bool) → queue_eq name r.queue ≡ b → (a : Bool) → queue_eq name s.queue ≡ a → CalmAfter d s r w v
    by true here a elsewhere = joined-receiver d s r w v k (Present e.queue) (w.mailbox name) calmly (replaces.elsewhere s.queue other).0 (replaces.elsewhere s.queue other).1 (replaces.here r.queue here).0 (replaces.here r.queue here).1
        (turn-receiver d s r l k q (w.mailbox name) e (kept-of d s r w k calmly) turn
        (subst (λ z. ReceiverTie d s r z (w.mailbox name) l.responder l.requests) is (subst (λ n. ReceiverTie d s r (w.queue n) (w.mailbox n) l.responder l.requests) (sym (queue-path name r.queue here)) tied.receiver))
        (receiver-here d s r w k name q here is calmly))
      where
        other : queue_eq name s.queue ≡ false
        other = other-name name s.queue r.queue tied.apart here
    by false elsewhere true here = joined-sender d s r w v k (Present e.queue) (w.mailbox name) calmly (replaces.elsewhere r.queue elsewhere).0 (replaces.elsewhere r.queue elsewhere).1 (replaces.here s.queue here).0 (replaces.here s.queue here).1
        (cursor-from s w v q e.queue (ap w.queue (sym (queue-path name s.queue here)) ∙ is) (replaces.here s.queue here).0 (λ own begun. omega (arith, ap (λ (z : Requester). z.cursor) turn.numbers)))
        (sender-unmoved d s r k (Present e.queue) (w.mailbox name) (kept-of d s r w k calmly)
        (still-sender d s r q e.queue (w.mailbox name) (w.mailbox name) k.link.requester k.link.responses k.responses (turn-keeps q e turn) refl (sender-here d s r w k name q here is calmly)))
    by false elsewhere false nowhere = joined-neither d s r w v k calmly (replaces.elsewhere r.queue elsewhere).0 (replaces.elsewhere r.queue elsewhere).1 (replaces.elsewhere s.queue nowhere).0 (replaces.elsewhere s.queue nowhere).1

-- ---- changes that are no move

-- the same link after another slot and mailbox at a name
pub replaced-calm : (d : Direction) (s r : Correspondent) (w v : World) (k : CalmLink) (name : QueueId) (slot : QueueSlot) (box : Mailbox) → Replaces w name slot box v
    → (queue_eq name s.queue ≡ true → SenderCalm d s r slot box k.link.requester k.link.responses k.responses) → (queue_eq name r.queue ≡ true → ReceiverCalm d s r slot box k.link.responder k.link.requests k.requests k.standing)
    → CursorGoesOn s w v → IsCalmlyTied d s r w k → CalmAfter d s r w v
replaced-calm d s r w v k name slot box replaces sends receives cursor tied = record {
  link = k;
  tied = record { reached = tied.reached; calm = tied.calm; sender = sender (queue_eq name s.queue) refl; receiver = receiver (queue_eq name r.queue) refl };
  cursor = cursor;
}
  where
    sender : (b : Bool) → queue_eq name s.queue ≡ b → SenderCalm d s r (v.queue s.queue) (v.mailbox s.queue) k.link.requester k.link.responses k.responses
    sender true here = sender-at d s r slot (v.queue s.queue) box (v.mailbox s.queue) k.link.requester k.link.responses k.responses (replaces.here s.queue here).0 (replaces.here s.queue here).1 (sends here)
    sender false none = sender-at d s r (w.queue s.queue) (v.queue s.queue) (w.mailbox s.queue) (v.mailbox s.queue) k.link.requester k.link.responses k.responses (replaces.elsewhere s.queue none).0 (replaces.elsewhere s.queue none).1 tied.sender

    receiver : (b : Bool) → queue_eq name r.queue ≡ b → ReceiverCalm d s r (v.queue r.queue) (v.mailbox r.queue) k.link.responder k.link.requests k.requests k.standing
    receiver true here = receiver-at d s r slot (v.queue r.queue) box (v.mailbox r.queue) k.link.responder k.link.requests k.requests k.standing (replaces.here r.queue here).0 (replaces.here r.queue here).1 (receives here)
    receiver false none = receiver-at d s r (w.queue r.queue) (v.queue r.queue) (w.mailbox r.queue) (v.mailbox r.queue) k.link.responder k.link.requests k.requests k.standing (replaces.elsewhere r.queue none).0 (replaces.elsewhere r.queue none).1 tied.receiver

-- the cursor after another queue pair at a name
pub replaced-cursor : (s : Correspondent) (w v : World) (name : QueueId) (q p : QueuePair) (box : Mailbox) → w.queue name ≡ Present q → Replaces w name (Present p) box v
    → (q.incarnation ≡ s.incarnation → is_fresh q.state ≡ false → q.requester.cursor ≤ p.requester.cursor) → CursorGoesOn s w v
replaced-cursor s w v name q p box is replaces goes = by (queue_eq name s.queue) refl
  where
    by : (b : Bool) → queue_eq name s.queue ≡ b → CursorGoesOn s w v
    by true here = cursor-from s w v q p (ap w.queue (sym (queue-path name s.queue here)) ∙ is) (replaces.here s.queue here).0 goes
    by false none = cursor-still s w v (replaces.elsewhere s.queue none).0

-- a queue pair that stays as it is at both ends
pub keeps-calm : (d : Direction) (s r : Correspondent) (w v : World) (k : CalmLink) (name : QueueId) (q p : QueuePair) → w.queue name ≡ Present q → KeepsReceiver q p → KeepsSender q p → Replaces w name (Present p) (w.mailbox name) v
    → IsCalmlyTied d s r w k → CalmAfter d s r w v
keeps-calm d s r w v k name q p is receives sends replaces tied = replaced-calm d s r w v k name (Present p) (w.mailbox name) replaces
    (λ here. still-sender d s r q p (w.mailbox name) (w.mailbox name) k.link.requester k.link.responses k.responses sends refl (sender-here d s r w k name q here is tied))
    (λ here. still-receiver d s r q p (w.mailbox name) (w.mailbox name) k.link.responder k.link.requests k.requests k.standing receives refl (receiver-here d s r w k name q here is tied))
    (replaced-cursor s w v name q p (w.mailbox name) is replaces (λ own begun. omega (arith, ap (λ (z : Requester). z.cursor) sends.numbers))) tied
