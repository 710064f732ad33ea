-- A delivery keeps a world tied to a link.
use Rattle.std.proofs.Common.{◌≡◌, ℕ, ◌++◌, Bool, true, false, if◌then◌else◌, List, [], Option, slice_get, refl, ap, sym, subst, ◌∙◌}
use Rattle.ca_law_endings.proofs.LeadsLemmas.{comes}
use Rattle.ca_law_endings.specs.Runs.{Comes}
use Rattle.ca_base.specs.Configuration.{Configuration}
use Rattle.ca_base.specs.declared.correspondent.Correspondent.{Correspondent}
use Rattle.ca_base.specs.objects.Mailbox.{Mailbox, after_delivery, later_than}
use Rattle.ca_base.specs.objects.QueuePair.{QueuePair, QueueSlot, Present}
use Rattle.ca_base.specs.objects.SharedReceives.{SharedReceives}
use Rattle.ca_connection.specs.Layout.{Direction}
use Rattle.ca_connection.specs.Link.{Link}
use Rattle.ca_keys.specs.Equal.{queue_eq}
use Rattle.ca_keys.specs.declared.names.QueueId.{QueueId}
use Rattle.ca_law_world.proofs.Sound.SettledLemmas.{queue-path, queue-refl}
use Rattle.ca_model.specs.declared.event.Event.TheVariants as events
use Rattle.ca_model.specs.declared.mark.Mark.{Mark}
use Rattle.ca_model.specs.machine.Delivery.{deliver_plan}
use Rattle.ca_model.specs.machine.Row.{Effects}
use Rattle.ca_model.specs.machine.Sound.{IsSoundWorld}
use Rattle.ca_model.specs.machine.Step.{step}
use Rattle.ca_model.specs.machine.World.{Mailbox_of, World}
use Rattle.ca_law_once.proofs.Ties.DeliverLemmas.{Delivered, ReceiverStep, SenderStep, receiver-step, sender-step}
use Rattle.ca_law_once.proofs.Ties.DeliverWalk.{Changes, leads-deliver}
use Rattle.ca_law_once.proofs.Ties.EntryLemmas.{lent-envelope}
use Rattle.ca_law_once.specs.Ties.{IsTied, ReceiverTie, SenderTie, TiedAfter, found_by, found_by_delivery, written_by_delivery, written_by_entry}
use Rattle.ca_law_once.specs.Ties.RequestsAfter.{same as requests_same}
use Rattle.ca_connection.specs.Once.{numbers_at}
use Rattle.ca_law_once.specs.Links.{found_at}
use Rattle.ca_law_once.specs.Moves.{numbers_found, writes_told}

-- what stands at a queue pair after a change of it, and after one of another
pub stands-changed : (w v : World) (name n : QueueId) (slot : QueueSlot) (m : Mailbox) → Changes w name slot m v → queue_eq name n ≡ true → (v.queue n ≡ slot) × (v.mailbox n ≡ m)
stands-changed w v name n slot m changes is = (
  ap (λ (f : QueueId → QueueSlot). f n) changes.queue ∙ ap (λ b. if b then slot else w.queue n) is,
  ap (λ (f : QueueId → Mailbox). f n) changes.mailbox ∙ ap (λ b. if b then m else w.mailbox n) is,
)

pub stands-still : (w v : World) (name n : QueueId) (slot : QueueSlot) (m : Mailbox) → Changes w name slot m v → queue_eq name n ≡ false → (v.queue n ≡ w.queue n) × (v.mailbox n ≡ w.mailbox n)
stands-still w v name n slot m changes is = (
  ap (λ (f : QueueId → QueueSlot). f n) changes.queue ∙ ap (λ b. if b then slot else w.queue n) is,
  ap (λ (f : QueueId → Mailbox). f n) changes.mailbox ∙ ap (λ b. if b then m else w.mailbox n) is,
)

-- who is the one life is not the other
pub other-name : (name a b : QueueId) → queue_eq a b ≡ false → queue_eq name b ≡ true → queue_eq name a ≡ false
other-name name a b apart is = by (queue_eq name a) refl
  where
    by : (x : Bool) → queue_eq name a ≡ x → x ≡ false
    by true e = sym (queue-refl b) ∙ ap (λ n. queue_eq n b) (sym (queue-path name b is) ∙ queue-path name a e) ∙ apart
    by false e = refl

pub receiver-at : (d : Direction) (s r : Correspondent) (l : Link) (slot other : QueueSlot) (m box : Mailbox) → other ≡ slot → box ≡ m → ReceiverTie d s r slot m l.responder l.requests → ReceiverTie d s r other box l.responder l.requests
receiver-at d s r l slot other m box a b tie = subst (λ x. ReceiverTie d s r x box l.responder l.requests) (sym a) (subst (λ x. ReceiverTie d s r slot x l.responder l.requests) (sym b) tie)

pub sender-at : (d : Direction) (s r : Correspondent) (l : Link) (slot other : QueueSlot) (m box : Mailbox) → other ≡ slot → box ≡ m → SenderTie d s r slot m l.requester l.responses → SenderTie d s r other box l.requester l.responses
sender-at d s r l slot other m box a b tie = subst (λ x. SenderTie d s r x box l.requester l.responses) (sym a) (subst (λ x. SenderTie d s r slot x l.requester l.responses) (sym b) tie)

pub deliver-ties : (d : Direction) (s r : Correspondent) (c : Configuration) (w : World) (l : Link) (name : QueueId) (index : ℕ) → IsSoundWorld c w → IsTied d s r w l
    → Comes (λ v ms. TiedAfter d s r w l (found_by_delivery r w l name index ms) (written_by_delivery r w l name index ms) v) (step c w (events.Deliver name index))
deliver-ties d s r c w l name index sound tied = comes w P (deliver_plan c name index) (leads-deliver c w P name index sound
    (λ q bytes shared e v ms is good lent ends changes told told_writes. at q bytes shared e v ms is
    (record { sound = good; box = sound.things (Mailbox_of name); lent = lent-envelope index (w.mailbox name) bytes lent; ends = ends }) changes told told_writes (queue_eq name r.queue) refl (queue_eq name s.queue) refl))
  where
    P : World → List Mark → Type 0
    P v ms = TiedAfter d s r w l (found_by_delivery r w l name index ms) (written_by_delivery r w l name index ms) v

    -- nothing was found where another queue pair was met
    nothing : (ms : List Mark) (place : ℕ) → queue_eq name r.queue ≡ false → found_by_delivery r w l name index ms place ≡ []
    nothing ms place is = ap (λ b. if b then found_by (slice_get l.requests (later_than index (w.mailbox name))) (numbers_found ms) place else []) is

    unwritten : (ms : List Mark) (place : ℕ) → queue_eq name r.queue ≡ false → written_by_delivery r w l name index ms place ≡ []
    unwritten ms place is = ap (λ b. if b then written_by_entry (slice_get l.requests (later_than index (w.mailbox name))) (writes_told ms) place else []) is

    at : (q : QueuePair) (bytes : List ℕ) (shared : Option SharedReceives) (e : Effects) (v : World) (ms : List Mark) → w.queue name ≡ Present q → Delivered index q (w.mailbox name) bytes shared e
        → Changes w name (Present e.queue) (after_delivery index (w.mailbox name)) v → numbers_found ms ≡ numbers_found e.marks → writes_told ms ≡ writes_told e.marks
        → (b : Bool) → queue_eq name r.queue ≡ b → (a : Bool) → queue_eq name s.queue ≡ a → TiedAfter d s r w l (found_by_delivery r w l name index ms) (written_by_delivery r w l name index ms) v
    at q bytes shared e v ms is x changes told told_writes true here a there = record {
      link = after.link;
      tied = record {
        apart = tied.apart;
        reached = after.reached;
        sender = sender-at d s r after.link (w.queue s.queue) (v.queue s.queue) (w.mailbox s.queue) (v.mailbox s.queue) (still.0) (still.1)
            (subst (λ z. SenderTie d s r (w.queue s.queue) (w.mailbox s.queue) z after.link.responses) (sym after.requester_is)
            (subst (λ z. SenderTie d s r (w.queue s.queue) (w.mailbox s.queue) l.requester z) (sym after.responses_are) tied.sender));
        receiver = receiver-at d s r after.link (Present e.queue) (v.queue r.queue) (after_delivery index (w.mailbox name)) (v.mailbox r.queue) moved.0 moved.1 after.tie;
      };
      found = λ place atomic. after.found place atomic ∙ ap (λ ns. ns ++ found_at place l.acceptances) (sym (ap (λ b. if b then found_by (slice_get l.requests (later_than index (w.mailbox name))) (numbers_found ms) place else []) here));
      plain = λ place none. ap (λ b. if b then found_by (slice_get l.requests (later_than index (w.mailbox name))) (numbers_found ms) place else []) here ∙ after.plain place none;
      wrote = λ place is_so. after.wrote place is_so ∙ ap (λ ns. ns ++ numbers_at place l.acceptances) (sym (ap (λ b. if b then written_by_entry (slice_get l.requests (later_than index (w.mailbox name))) (writes_told ms) place else []) here));
      unwritten = λ place none. ap (λ b. if b then written_by_entry (slice_get l.requests (later_than index (w.mailbox name))) (writes_told ms) place else []) here ∙ after.unwritten place none;
      requests = requests_same after.requests_are;
    }
      where
        still : (v.queue s.queue ≡ w.queue s.queue) × (v.mailbox s.queue ≡ w.mailbox s.queue)
        still = stands-still w v name s.queue (Present e.queue) (after_delivery index (w.mailbox name)) changes (other-name name s.queue r.queue tied.apart here)

        moved : (v.queue r.queue ≡ Present e.queue) × (v.mailbox r.queue ≡ after_delivery index (w.mailbox name))
        moved = stands-changed w v name r.queue (Present e.queue) (after_delivery index (w.mailbox name)) changes here

        before : ReceiverTie d s r (Present q) (w.mailbox name) l.responder l.requests
        before = subst (λ z. ReceiverTie d s r z (w.mailbox name) l.responder l.requests) is
            (subst (λ n. ReceiverTie d s r (w.queue n) (w.mailbox n) l.responder l.requests) (sym (queue-path name r.queue here)) tied.receiver)

        after : ReceiverStep d s r l (found_by (slice_get l.requests (later_than index (w.mailbox name))) (numbers_found ms)) (written_by_entry (slice_get l.requests (later_than index (w.mailbox name))) (writes_told ms)) (Present e.queue) (after_delivery index (w.mailbox name))
        after = receiver-step d s r l index q (w.mailbox name) bytes shared e ms x told told_writes tied.reached before
    at q bytes shared e v ms is x changes told told_writes false here true there = record {
      link = after.link;
      tied = record {
        apart = tied.apart;
        reached = after.reached;
        sender = sender-at d s r after.link (Present e.queue) (v.queue s.queue) (after_delivery index (w.mailbox name)) (v.mailbox s.queue) moved.0 moved.1 after.tie;
        receiver = receiver-at d s r after.link (w.queue r.queue) (v.queue r.queue) (w.mailbox r.queue) (v.mailbox r.queue) still.0 still.1
            (subst (λ z. ReceiverTie d s r (w.queue r.queue) (w.mailbox r.queue) z after.link.requests) (sym after.responder_is)
            (subst (λ z. ReceiverTie d s r (w.queue r.queue) (w.mailbox r.queue) l.responder z) (sym after.requests_are) tied.receiver));
      };
      found = λ place atomic. ap (found_at place) after.acceptances ∙ ap (λ ns. ns ++ found_at place l.acceptances) (sym (nothing ms place here));
      wrote = λ place is_so. ap (numbers_at place) after.acceptances ∙ ap (λ ns. ns ++ numbers_at place l.acceptances) (sym (unwritten ms place here));
      unwritten = λ place none. unwritten ms place here;
      plain = λ place none. nothing ms place here;
      requests = requests_same after.requests_are;
    }
      where
        still : (v.queue r.queue ≡ w.queue r.queue) × (v.mailbox r.queue ≡ w.mailbox r.queue)
        still = stands-still w v name r.queue (Present e.queue) (after_delivery index (w.mailbox name)) changes here

        moved : (v.queue s.queue ≡ Present e.queue) × (v.mailbox s.queue ≡ after_delivery index (w.mailbox name))
        moved = stands-changed w v name s.queue (Present e.queue) (after_delivery index (w.mailbox name)) changes there

        before : SenderTie d s r (Present q) (w.mailbox name) l.requester l.responses
        before = subst (λ z. SenderTie d s r z (w.mailbox name) l.requester l.responses) is
            (subst (λ n. SenderTie d s r (w.queue n) (w.mailbox n) l.requester l.responses) (sym (queue-path name s.queue there)) tied.sender)

        after : SenderStep d s r l (Present e.queue) (after_delivery index (w.mailbox name))
        after = sender-step d s r l index q (w.mailbox name) bytes shared e x tied.reached before
    at q bytes shared e v ms is x changes told told_writes false here false there = record {
      link = l;
      tied = record {
        apart = tied.apart;
        reached = tied.reached;
        sender = sender-at d s r l (w.queue s.queue) (v.queue s.queue) (w.mailbox s.queue) (v.mailbox s.queue) sends.0 sends.1 tied.sender;
        receiver = receiver-at d s r l (w.queue r.queue) (v.queue r.queue) (w.mailbox r.queue) (v.mailbox r.queue) receives.0 receives.1 tied.receiver;
      };
      found = λ place atomic. ap (λ ns. ns ++ found_at place l.acceptances) (sym (nothing ms place here));
      wrote = λ place is_so. ap (λ ns. ns ++ numbers_at place l.acceptances) (sym (unwritten ms place here));
      unwritten = λ place none. unwritten ms place here;
      plain = λ place none. nothing ms place here;
      requests = requests_same refl;
    }
      where
        sends : (v.queue s.queue ≡ w.queue s.queue) × (v.mailbox s.queue ≡ w.mailbox s.queue)
        sends = stands-still w v name s.queue (Present e.queue) (after_delivery index (w.mailbox name)) changes there

        receives : (v.queue r.queue ≡ w.queue r.queue) × (v.mailbox r.queue ≡ w.mailbox r.queue)
        receives = stands-still w v name r.queue (Present e.queue) (after_delivery index (w.mailbox name)) changes here
