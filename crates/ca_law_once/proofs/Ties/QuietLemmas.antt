-- A turn that sends nothing keeps a world tied: a timer, a wake, a local operation.
use Rattle.std.proofs.Common.{◌≡◌, ℕ, Bool, true, false, if◌then◌else◌, List, [], refl, ap, sym, subst, ◌∙◌, true≢false}
use Rattle.ca_base.specs.declared.change.State.TheVariants as states
use Rattle.ca_base.specs.declared.correspondent.Correspondent.{Correspondent}
use Rattle.ca_base.specs.objects.Mailbox.{Mailbox}
use Rattle.ca_base.specs.objects.QueuePair.{QueuePair, QueueSlot, Present}
use Rattle.ca_connection.specs.Layout.{Direction}
use Rattle.ca_connection.specs.Link.{Link, Requester, opening}
use Rattle.ca_connection.specs.Moves.{Reached}
use Rattle.ca_keys.specs.Equal.{queue_eq}
use Rattle.ca_keys.specs.declared.names.QueueId.{QueueId}
use Rattle.ca_law_world.proofs.Sound.SettledLemmas.{queue-path}
use Rattle.ca_model.specs.Past.{with_at}
use Rattle.ca_model.specs.machine.Invariants.{is_sending}
use Rattle.ca_model.specs.machine.Row.{Effects}
use Rattle.ca_model.specs.machine.World.{World}
use Rattle.ca_law_once.proofs.Ties.DeliverLemmas.{ReceiverStep, SenderStep, before-after, before-rtr, before-sending, over-after, paired-after, present-same, receiver-same, sender-same}
use Rattle.ca_law_once.proofs.Ties.DeliverTies.{other-name, receiver-at, sender-at}
use Rattle.ca_law_once.proofs.Ties.DeliverWalk.{Has}
use Rattle.ca_law_once.specs.Ties.{AreEntries, IsPaired, IsTied, ReceiverTie, RequesterTie, SenderTie, TiedAfter}
use Rattle.ca_law_once.specs.Ties.ReceiverTie.{before as receiver_before, standing as receiver_standing, gone as receiver_gone}
use Rattle.ca_law_once.specs.Ties.SenderTie.{before as sender_before, standing as sender_standing, gone as sender_gone}
use Rattle.ca_law_once.specs.Ties.RequestsAfter.{same as requests_same}
use Rattle.ca_law_once.proofs.Rows.LinkLemmas.{back-moves, forgotten-moves}
use Rattle.ca_law_once.specs.Entries.{SpellsRequest, SpellsResponse, SpellsSomeRequest, SpellsSomeResponse}
use Rattle.ca_connection.specs.Once.{numbers_at}
use Rattle.ca_law_once.specs.Links.{LeadsTo, found_at}
use Rattle.ca_law_once.specs.Moves.{ForgetsIn, GoesBackIn, LeavesState}
use Rattle.ca_law_once.specs.Sides.{IsLaid, requester_in, responder_in}

-- what a turn that sends nothing makes of a queue pair
pub record IsQuiet (q : QueuePair) (e : Effects) : Type 0 where
  pub incarnation : e.queue.incarnation ≡ q.incarnation
  pub peer : e.queue.peer ≡ q.peer
  pub state : LeavesState q e
  pub requester : (d : Direction) → (is_sending q.state ≡ true → IsLaid d q) → GoesBackIn d (requester_in q) e
  pub responder : (d : Direction) → q.responder.mtu ≡ d.mtu → ForgetsIn d (responder_in q) e

pub quiet-receiver : (d : Direction) (s r : Correspondent) (l : Link) (q : QueuePair) (m : Mailbox) (e : Effects) → IsQuiet q e → Reached d l → ReceiverTie d s r (Present q) m l.responder l.requests
    → ReceiverStep d s r l (λ place. []) (λ place. []) (Present e.queue) m
quiet-receiver d s r l q m e quiet reached (receiver_before is responder none) =
    receiver-same d s r l (λ place. []) (λ place. []) (Present e.queue) m reached (λ place. refl) (λ place. refl) (receiver_before (before-after r q e.queue quiet.incarnation quiet.peer is) responder none)
quiet-receiver d s r l q m e quiet reached (receiver_gone is none) =
    receiver-same d s r l (λ place. []) (λ place. []) (Present e.queue) m reached (λ place. refl) (λ place. refl) (receiver_gone (over-after r q e.queue quiet.incarnation is) none)
quiet-receiver d s r l q m e quiet reached (receiver_standing t paired same entries) = record {
  link = after.link;
  reached = after.reached;
  requester_is = after.requester_is;
  responses_are = after.responses_are;
  tie = receiver_standing e.queue (paired-after d r s q e.queue t quiet.incarnation quiet.peer does.mtu paired) after.responder_is
      (subst (AreEntries (SpellsRequest d) SpellsSomeResponse m.envelopes) (sym after.requests_are) entries);
  found = λ place is. ap (found_at place) after.acceptances;
  plain = λ place is. refl;
  wrote = λ place is. ap (numbers_at place) after.acceptances;
  unwritten = λ place is. refl;
  requests_are = after.requests_are;
}
  where
    is : l.responder ≡ responder_in q
    is = same ∙ ap responder_in (sym (present-same q t paired.present))

    does : ForgetsIn d l.responder e
    does = subst (λ z. ForgetsIn d z e) (sym is) (quiet.responder d (ap (λ (x : QueuePair). x.responder.mtu) (present-same q t paired.present) ∙ paired.mtu))

    after : LeadsTo d l l.requester (responder_in e.queue) l.requests l.responses
    after = forgotten-moves d l e reached does

-- where a queue pair sends no more, nothing of the requester is asked that was not so before
pub silent-requester : (d : Direction) (q : QueuePair) (e : Effects) (requester : Requester) → LeavesState q e → (q.state ≡ states.Rtr → requester ≡ (opening d).requester) → is_sending q.state ≡ false → RequesterTie d e.queue requester
silent-requester d q e requester state fresh none = record {
  fresh = λ is. fresh (before-rtr q e state is);
  sending = λ is. absurd (true≢false (sym (before-sending q e state is) ∙ none));
  laid = λ is. absurd (true≢false (sym (before-sending q e state is) ∙ none));
}

pub quiet-sender : (d : Direction) (s r : Correspondent) (l : Link) (q : QueuePair) (m : Mailbox) (e : Effects) → IsQuiet q e → Reached d l → SenderTie d s r (Present q) m l.requester l.responses
    → SenderStep d s r l (Present e.queue) m
quiet-sender d s r l q m e quiet reached (sender_before is requester none) = sender-same d s r l (Present e.queue) m reached (sender_before (before-after s q e.queue quiet.incarnation quiet.peer is) requester none)
quiet-sender d s r l q m e quiet reached (sender_gone is none) = sender-same d s r l (Present e.queue) m reached (sender_gone (over-after s q e.queue quiet.incarnation is) none)
quiet-sender d s r l q m e quiet reached (sender_standing t paired there entries) = by (is_sending q.state) refl
  where
    own : RequesterTie d q l.requester
    own = subst (λ t. RequesterTie d t l.requester) (sym (present-same q t paired.present)) there

    after_paired : IsPaired d s r (Present e.queue) e.queue
    after_paired = paired-after d s r q e.queue t quiet.incarnation quiet.peer (quiet.state.1 ∙ ap (λ (x : QueuePair). x.responder.mtu) (present-same q t paired.present) ∙ paired.mtu) paired

    by : (b : Bool) → is_sending q.state ≡ b → SenderStep d s r l (Present e.queue) m
    by false none = sender-same d s r l (Present e.queue) m reached (sender_standing e.queue after_paired (silent-requester d q e l.requester quiet.state own.fresh none) entries)
    by true is = record {
      link = after.link;
      reached = after.reached;
      responder_is = after.responder_is;
      requests_are = after.requests_are;
      acceptances = after.acceptances;
      tie = sender_standing e.queue after_paired (record {
        fresh = λ rtr. absurd (true≢false (sym is ∙ ap is_sending (before-rtr q e quiet.state rtr)));
        sending = λ sending. after.requester_is;
        laid = does.laid;
      }) (subst (AreEntries SpellsResponse SpellsSomeRequest m.envelopes) (sym after.responses_are) entries);
    }
      where
        does : GoesBackIn d l.requester e
        does = subst (λ z. GoesBackIn d z e) (sym (own.sending is)) (quiet.requester d own.laid)

        after : LeadsTo d l (requester_in e.queue) l.responder l.requests l.responses
        after = back-moves d l e reached does

-- one queue pair changed, and no mailbox
abbrev pub Turned : World → QueueId → QueueSlot → World → Type 0
Turned w name slot v = Has (with_at queue_eq w.queue name slot) w.mailbox v

-- the two ends after a change, put together
pub joined-receiver : (d : Direction) (s r : Correspondent) (w v : World) (l : Link) (acted written : ℕ → List ℕ) (slot : QueueSlot) (m : Mailbox) → IsTied d s r w l → v.queue s.queue ≡ w.queue s.queue → v.mailbox s.queue ≡ w.mailbox s.queue
    → v.queue r.queue ≡ slot → v.mailbox r.queue ≡ m → ReceiverStep d s r l acted written slot m → TiedAfter d s r w l acted written v
joined-receiver d s r w v l acted written slot m tied sq sm rq rm after = record {
  link = after.link;
  tied = record {
    apart = tied.apart;
    reached = after.reached;
    sender = sender-at d s r after.link (w.queue s.queue) (v.queue s.queue) (w.mailbox s.queue) (v.mailbox s.queue) sq sm
        (subst (λ z. SenderTie d s r (w.queue s.queue) (w.mailbox s.queue) z after.link.responses) (sym after.requester_is)
        (subst (λ z. SenderTie d s r (w.queue s.queue) (w.mailbox s.queue) l.requester z) (sym after.responses_are) tied.sender));
    receiver = receiver-at d s r after.link slot (v.queue r.queue) m (v.mailbox r.queue) rq rm after.tie;
  };
  found = after.found;
  plain = after.plain;
  wrote = after.wrote;
  unwritten = after.unwritten;
  requests = requests_same after.requests_are;
}

pub joined-sender : (d : Direction) (s r : Correspondent) (w v : World) (l : Link) (slot : QueueSlot) (m : Mailbox) → IsTied d s r w l → v.queue r.queue ≡ w.queue r.queue → v.mailbox r.queue ≡ w.mailbox r.queue
    → v.queue s.queue ≡ slot → v.mailbox s.queue ≡ m → SenderStep d s r l slot m → TiedAfter d s r w l (λ place. []) (λ place. []) v
joined-sender d s r w v l slot m tied rq rm sq sm after = record {
  link = after.link;
  tied = record {
    apart = tied.apart;
    reached = after.reached;
    sender = sender-at d s r after.link slot (v.queue s.queue) m (v.mailbox s.queue) sq sm after.tie;
    receiver = receiver-at d s r after.link (w.queue r.queue) (v.queue r.queue) (w.mailbox r.queue) (v.mailbox r.queue) rq rm
        (subst (λ z. ReceiverTie d s r (w.queue r.queue) (w.mailbox r.queue) z after.link.requests) (sym after.responder_is)
        (subst (λ z. ReceiverTie d s r (w.queue r.queue) (w.mailbox r.queue) l.responder z) (sym after.requests_are) tied.receiver));
  };
  found = λ place atomic. ap (found_at place) after.acceptances;
  plain = λ place none. refl;
  wrote = λ place is_so. ap (numbers_at place) after.acceptances;
  unwritten = λ place none. refl;
  requests = requests_same after.requests_are;
}

pub joined-neither : (d : Direction) (s r : Correspondent) (w v : World) (l : Link) → IsTied d s r w l → v.queue r.queue ≡ w.queue r.queue → v.mailbox r.queue ≡ w.mailbox r.queue
    → v.queue s.queue ≡ w.queue s.queue → v.mailbox s.queue ≡ w.mailbox s.queue → TiedAfter d s r w l (λ place. []) (λ place. []) v
joined-neither d s r w v l tied rq rm sq sm = record {
  link = l;
  tied = record {
    apart = tied.apart;
    reached = tied.reached;
    sender = sender-at d s r l (w.queue s.queue) (v.queue s.queue) (w.mailbox s.queue) (v.mailbox s.queue) sq sm tied.sender;
    receiver = receiver-at d s r l (w.queue r.queue) (v.queue r.queue) (w.mailbox r.queue) (v.mailbox r.queue) rq rm tied.receiver;
  };
  found = λ place atomic. refl;
  plain = λ place none. refl;
  wrote = λ place is_so. refl;
  unwritten = λ place none. refl;
  requests = requests_same refl;
}

pub turned-here : (w v : World) (name n : QueueId) (slot : QueueSlot) → Turned w name slot v → queue_eq name n ≡ true → v.queue n ≡ slot
turned-here w v name n slot turned is = ap (λ (f : QueueId → QueueSlot). f n) turned.queue ∙ ap (λ b. if b then slot else w.queue n) is

pub turned-elsewhere : (w v : World) (name n : QueueId) (slot : QueueSlot) → Turned w name slot v → queue_eq name n ≡ false → v.queue n ≡ w.queue n
turned-elsewhere w v name n slot turned is = ap (λ (f : QueueId → QueueSlot). f n) turned.queue ∙ ap (λ b. if b then slot else w.queue n) is

pub turned-mail : (w v : World) (name n : QueueId) (slot : QueueSlot) → Turned w name slot v → v.mailbox n ≡ w.mailbox n
turned-mail w v name n slot turned = ap (λ (f : QueueId → Mailbox). f n) turned.mailbox

pub quiet-ties : (d : Direction) (s r : Correspondent) (w v : World) (l : Link) (name : QueueId) (q : QueuePair) (e : Effects) → w.queue name ≡ Present q → IsQuiet q e → Turned w name (Present e.queue) v → IsTied d s r w l
    → TiedAfter d s r w l (λ place. []) (λ place. []) v
quiet-ties d s r w v l name q e is quiet turned tied = by (queue_eq name r.queue) refl (queue_eq name s.queue) refl
  where
    by : (b : Bool) → queue_eq name r.queue ≡ b → (a : Bool) → queue_eq name s.queue ≡ a → TiedAfter d s r w l (λ place. []) (λ place. []) v
    by true here a there = joined-receiver d s r w v l (λ place. []) (λ place. []) (Present e.queue) (w.mailbox r.queue) tied
        (turned-elsewhere w v name s.queue (Present e.queue) turned (other-name name s.queue r.queue tied.apart here)) (turned-mail w v name s.queue (Present e.queue) turned)
        (turned-here w v name r.queue (Present e.queue) turned here) (turned-mail w v name r.queue (Present e.queue) turned)
        (quiet-receiver d s r l q (w.mailbox r.queue) e quiet tied.reached
        (subst (λ z. ReceiverTie d s r z (w.mailbox r.queue) l.responder l.requests) (ap w.queue (sym (queue-path name r.queue here)) ∙ is) tied.receiver))
    by false here true there = joined-sender d s r w v l (Present e.queue) (w.mailbox s.queue) tied
        (turned-elsewhere w v name r.queue (Present e.queue) turned here) (turned-mail w v name r.queue (Present e.queue) turned)
        (turned-here w v name s.queue (Present e.queue) turned there) (turned-mail w v name s.queue (Present e.queue) turned)
        (quiet-sender d s r l q (w.mailbox s.queue) e quiet tied.reached
        (subst (λ z. SenderTie d s r z (w.mailbox s.queue) l.requester l.responses) (ap w.queue (sym (queue-path name s.queue there)) ∙ is) tied.sender))
    by false here false there = joined-neither d s r w v l tied
        (turned-elsewhere w v name r.queue (Present e.queue) turned here) (turned-mail w v name r.queue (Present e.queue) turned)
        (turned-elsewhere w v name s.queue (Present e.queue) turned there) (turned-mail w v name s.queue (Present e.queue) turned)
