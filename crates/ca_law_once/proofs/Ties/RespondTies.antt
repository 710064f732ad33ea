-- A turn that sends a response keeps a world tied: a move at the end that receives, and one more entry at the other.
use Rattle.std.proofs.Common.{◌≡◌, Bool, true, false, if◌then◌else◌, List, [], ◌∷◌, None, Some, refl, ap, sym, subst, ◌∙◌, true≢false}
use Rattle.ca_law_endings.specs.Agreement.{peer_in}
use Rattle.ca_base.specs.declared.correspondent.Correspondent.{Correspondent}
use Rattle.ca_base.specs.declared.lot.Lot.{Lot}
use Rattle.ca_base.specs.objects.QueuePair.{QueuePair, Present, correspondent_of, incarnation_of}
use Rattle.ca_connection.specs.Layout.{Direction}
use Rattle.ca_connection.specs.Link.{Link}
use Rattle.ca_connection.specs.Moves.{Reached}
use Rattle.ca_keys.specs.Equal.{queue_eq}
use Rattle.ca_keys.specs.declared.names.QueueId.{QueueId}
use Rattle.ca_law_world.proofs.Sound.SettledLemmas.{queue-path, queue-refl}
use Rattle.ca_model.specs.declared.mark.Mark.{Mark}
use Rattle.ca_model.specs.machine.Invariants.{is_sending}
use Rattle.ca_model.specs.machine.Row.{Effects}
use Rattle.ca_model.specs.machine.Turns.{reaches_peer}
use Rattle.ca_model.specs.machine.World.{World}
use Rattle.ca_law_once.proofs.Ties.DeliverLemmas.{before-after, before-rtr, before-sending, over-after, paired-after, present-same}
use Rattle.ca_law_once.proofs.Ties.DeliverTies.{other-name}
use Rattle.ca_law_once.proofs.Ties.SendLemmas.{boxed-receiver, boxed-sender, grown-receiver, grown-sender, nowhere-sender}
use Rattle.ca_law_once.proofs.Ties.SentTies.{IsSent, Tells, apart-back, box-else, box-here, foreign-box, foreign-told, is-life, is-peer, is-strange, mtu-of, not-before, not-over, one-request, path-leads, path-to, sent-after, sent-told, slot-else, slot-here, stay, turned}
use Rattle.ca_law_once.specs.Ties.{IsTied, ReceiverTie, RequesterTie, RequestsTold, SenderTie, TurnAfter}
use Rattle.ca_law_once.specs.Ties.RequestsAfter.{same as requests_same}
use Rattle.ca_law_once.specs.Ties.ReceiverTie.{before as receiver_before, standing as receiver_standing, gone as receiver_gone}
use Rattle.ca_law_once.specs.Ties.SenderTie.{before as sender_before, standing as sender_standing, gone as sender_gone}
use Rattle.ca_law_once.proofs.Rows.LinkLemmas.{responded-moves, responded-nowhere-moves}
use Rattle.ca_law_once.specs.Entries.{SpellsSomeResponse}
use Rattle.ca_law_once.specs.Links.{LeadsTo}
use Rattle.ca_law_once.specs.Moves.{RespondsIn, StaysIn}
use Rattle.ca_law_once.specs.Sides.{IsLaid, requester_in, responder_in}

pub record IsResponse (w v : World) (name : QueueId) (q : QueuePair) (p : Correspondent) (lot : Lot) (e : Effects) (ms : List Mark) : Type 0 where
  pub sent : IsSent w v name q p lot e.spelt e
  pub responds : (d : Direction) (l : Link) → Reached d l → l.responder ≡ responder_in q → q.responder.mtu ≡ d.mtu → RespondsIn d (responder_in q) e
  pub stays : (d : Direction) → (is_sending q.state ≡ true → IsLaid d q) → StaysIn d (requester_in q) e
  pub other : SpellsSomeResponse e.spelt
  pub tells : Tells w ms q p None

pub response-ties : (d : Direction) (s r : Correspondent) (w v : World) (l : Link) (name : QueueId) (q : QueuePair) (p : Correspondent) (lot : Lot) (e : Effects) (ms : List Mark) → IsResponse w v name q p lot e ms → IsTied d s r w l
    → TurnAfter d s r w l ms v
response-ties d s r w v l name q p lot e ms x tied = by (queue_eq name r.queue) refl (queue_eq name s.queue) refl
  where
    y : IsSent w v name q p lot e.spelt e
    y = x.sent

    reach : Bool
    reach = reaches_peer q p (w.mailbox p.queue)

    untold : (correspondent_of q ≡ s → ⊥) → RequestsTold d s r w ms l.requests l.requests
    untold strange = foreign-told d s r w v l ms name q p lot e.spelt e None y x.tells strange tied.receiver

    receiver-else : queue_eq name r.queue ≡ false → (correspondent_of q ≡ s → ⊥) → ReceiverTie d s r (v.queue r.queue) (v.mailbox r.queue) l.responder l.requests
    receiver-else is strange = subst (λ z. ReceiverTie d s r z (v.mailbox r.queue) l.responder l.requests) (sym (slot-else w v name r.queue q p lot e.spelt e y is))
        (boxed-receiver d s r (w.queue r.queue) (w.mailbox r.queue) (v.mailbox r.queue) l.responder l.requests (λ t paired. foreign-box d w v name q p lot e.spelt e r s y strange t paired) tied.receiver)

    sender-else : queue_eq name s.queue ≡ false → (correspondent_of q ≡ r → ⊥) → SenderTie d s r (v.queue s.queue) (v.mailbox s.queue) l.requester l.responses
    sender-else is strange = subst (λ z. SenderTie d s r z (v.mailbox s.queue) l.requester l.responses) (sym (slot-else w v name s.queue q p lot e.spelt e y is))
        (boxed-sender d s r (w.queue s.queue) (w.mailbox s.queue) (v.mailbox s.queue) l.requester l.responses (λ t paired. foreign-box d w v name q p lot e.spelt e s r y strange t paired) tied.sender)

    -- the end that receives is who sends: a response of this direction
    at-receiver : queue_eq name r.queue ≡ true → queue_eq name s.queue ≡ false → ReceiverTie d s r (Present q) (w.mailbox r.queue) l.responder l.requests → TurnAfter d s r w l ms v
    at-receiver here there (receiver_before is own none) = turned d s r w v l ms l.requester l.responder l.requests l.responses tied.apart (stay d l tied.reached) (requests_same refl) (untold (is-strange w v name q p lot e.spelt e s y there))
        (sender-else there (not-before w name q p r y.names is))
        (subst (λ z. ReceiverTie d s r z (v.mailbox r.queue) l.responder l.requests) (sym (slot-here w v name r.queue q p lot e.spelt e y here)) (receiver_before (before-after r q e.queue y.incarnation y.peer is) own none))
    at-receiver here there (receiver_gone is none) = turned d s r w v l ms l.requester l.responder l.requests l.responses tied.apart (stay d l tied.reached) (requests_same refl) (untold (is-strange w v name q p lot e.spelt e s y there))
        (sender-else there (not-over w name q r is))
        (subst (λ z. ReceiverTie d s r z (v.mailbox r.queue) l.responder l.requests) (sym (slot-here w v name r.queue q p lot e.spelt e y here)) (receiver_gone (over-after r q e.queue y.incarnation is) none))
    at-receiver here there (receiver_standing t paired same entries) =
        turned d s r w v l ms l.requester (responder_in e.queue) l.requests (if reach then Some does.response ∷ l.responses else l.responses) tied.apart (leads reach refl)
        (requests_same refl) (untold (is-strange w v name q p lot e.spelt e s y there))
        (subst (λ z. SenderTie d s r z (v.mailbox s.queue) l.requester (if reach then Some does.response ∷ l.responses else l.responses)) (sym (slot-else w v name s.queue q p lot e.spelt e y there))
        (subst (λ z. SenderTie d s r (w.queue s.queue) z l.requester (if reach then Some does.response ∷ l.responses else l.responses)) (sym (box-here w v name s.queue q p lot e.spelt e y (ap (λ n. queue_eq n s.queue) to_s ∙ queue-refl s.queue)))
        (grown-sender d s r (w.queue s.queue) (w.mailbox s.queue) l.requester l.responses lot e.spelt (Some does.response) reach path does.spells tied.sender)))
        (subst (λ z. ReceiverTie d s r z (v.mailbox r.queue) (responder_in e.queue) l.requests) (sym (slot-here w v name r.queue q p lot e.spelt e y here))
        (subst (λ z. ReceiverTie d s r (Present e.queue) z (responder_in e.queue) l.requests) (sym (box-else w v name r.queue q p lot e.spelt e y (ap (λ n. queue_eq n r.queue) to_s ∙ tied.apart)))
        (receiver_standing e.queue (paired-after d r s q e.queue t y.incarnation y.peer does.mtu paired) refl entries)))
      where
        peer_is : p ≡ s
        peer_is = is-peer d q t p r s y.names paired

        to_s : p.queue ≡ s.queue
        to_s = ap (λ (z : Correspondent). z.queue) peer_is

        own_is : correspondent_of q ≡ r
        own_is = is-life d w name q t r s y.there here paired

        is_same : l.responder ≡ responder_in q
        is_same = same ∙ ap responder_in (sym (present-same q t paired.present))

        does : RespondsIn d l.responder e
        does = subst (λ z. RespondsIn d z e) (sym is_same) (x.responds d l tied.reached is_same (mtu-of d q t r s paired))

        path : reach ≡ true → (incarnation_of (w.queue s.queue) ≡ s.incarnation) × (peer_in (w.queue s.queue) ≡ Some r)
        path leads = let there = path-leads w q p y.follows leads in (
          ap (λ n. incarnation_of (w.queue n)) (sym to_s) ∙ there.0 ∙ ap (λ (z : Correspondent). z.incarnation) peer_is,
          ap (λ n. peer_in (w.queue n)) (sym to_s) ∙ there.1 ∙ ap (λ z. Some z) own_is,
        )

        nobody : reach ≡ false → l.responses ≡ []
        nobody none = nowhere-sender d s r (w.queue s.queue) (w.mailbox s.queue) l.requester l.responses
            (λ t2 paired2. true≢false (sym (path-to d w q t2 s r y.follows own_is paired2) ∙ ap (λ (z : Correspondent). reaches_peer q z (w.mailbox z.queue)) (sym peer_is) ∙ none)) tied.sender

        leads : (b : Bool) → reach ≡ b → LeadsTo d l l.requester (responder_in e.queue) l.requests (if b then Some does.response ∷ l.responses else l.responses)
        leads true is = responded-moves d l e tied.reached does
        leads false is = subst (λ xs. LeadsTo d l l.requester (responder_in e.queue) l.requests xs) (sym (nobody is)) (responded-nowhere-moves d l e tied.reached (nobody is) does)

    -- the end that sends requests is who sends: a response of the other direction
    at-sender : queue_eq name s.queue ≡ true → queue_eq name r.queue ≡ false → SenderTie d s r (Present q) (w.mailbox s.queue) l.requester l.responses → TurnAfter d s r w l ms v
    at-sender here there (sender_before is own none) = turned d s r w v l ms l.requester l.responder l.requests l.responses tied.apart (stay d l tied.reached) (requests_same refl) (untold (not-before w name q p s y.names is))
        (subst (λ z. SenderTie d s r z (v.mailbox s.queue) l.requester l.responses) (sym (slot-here w v name s.queue q p lot e.spelt e y here)) (sender_before (before-after s q e.queue y.incarnation y.peer is) own none))
        (receiver-else there (not-before w name q p s y.names is))
    at-sender here there (sender_gone is none) = turned d s r w v l ms l.requester l.responder l.requests l.responses tied.apart (stay d l tied.reached) (requests_same refl) (untold (not-over w name q s is))
        (subst (λ z. SenderTie d s r z (v.mailbox s.queue) l.requester l.responses) (sym (slot-here w v name s.queue q p lot e.spelt e y here)) (sender_gone (over-after s q e.queue y.incarnation is) none))
        (receiver-else there (not-over w name q s is))
    at-sender here there (sender_standing t paired stood entries) =
        turned d s r w v l ms l.requester l.responder (if reach then None ∷ l.requests else l.requests) l.responses tied.apart
        (one-request d l reach l.requester l.responder l.requests l.responses (stay d l tied.reached))
        (sent-after r w v name q p lot e.spelt e None l.requests reach y to_r_is refl) (sent-told d s r w ms q p None None l.requests reach x.tells to_r_is refl refl)
        (subst (λ z. SenderTie d s r z (v.mailbox s.queue) l.requester l.responses) (sym (slot-here w v name s.queue q p lot e.spelt e y here))
        (subst (λ z. SenderTie d s r (Present e.queue) z l.requester l.responses) (sym (box-else w v name s.queue q p lot e.spelt e y (ap (λ n. queue_eq n s.queue) to_r ∙ apart-back s.queue r.queue tied.apart)))
        (sender_standing e.queue (paired-after d s r q e.queue t y.incarnation y.peer (y.state.1 ∙ mtu-of d q t s r paired) paired) (record {
          fresh = λ rtr. own.fresh (before-rtr q e y.state rtr);
          sending = λ is. own.sending (before-sending q e y.state is) ∙ sym does.requester;
          laid = does.laid;
        }) entries)))
        (subst (λ z. ReceiverTie d s r z (v.mailbox r.queue) l.responder (if reach then None ∷ l.requests else l.requests)) (sym (slot-else w v name r.queue q p lot e.spelt e y there))
        (subst (λ z. ReceiverTie d s r (w.queue r.queue) z l.responder (if reach then None ∷ l.requests else l.requests)) (sym (box-here w v name r.queue q p lot e.spelt e y to_r_is))
        (grown-receiver d s r (w.queue r.queue) (w.mailbox r.queue) l.responder l.requests lot e.spelt None reach path x.other tied.receiver)))
      where
        own : RequesterTie d q l.requester
        own = subst (λ t. RequesterTie d t l.requester) (sym (present-same q t paired.present)) stood

        peer_is : p ≡ r
        peer_is = is-peer d q t p s r y.names paired

        to_r : p.queue ≡ r.queue
        to_r = ap (λ (z : Correspondent). z.queue) peer_is

        to_r_is : queue_eq p.queue r.queue ≡ true
        to_r_is = ap (λ n. queue_eq n r.queue) to_r ∙ queue-refl r.queue

        own_is : correspondent_of q ≡ s
        own_is = is-life d w name q t s r y.there here paired

        does : StaysIn d (requester_in q) e
        does = x.stays d own.laid

        path : reach ≡ true → (incarnation_of (w.queue r.queue) ≡ r.incarnation) × (peer_in (w.queue r.queue) ≡ Some s)
        path leads = let there = path-leads w q p y.follows leads in (
          ap (λ n. incarnation_of (w.queue n)) (sym to_r) ∙ there.0 ∙ ap (λ (z : Correspondent). z.incarnation) peer_is,
          ap (λ n. peer_in (w.queue n)) (sym to_r) ∙ there.1 ∙ ap (λ z. Some z) own_is,
        )

    third : queue_eq name r.queue ≡ false → queue_eq name s.queue ≡ false → TurnAfter d s r w l ms v
    third not_r not_s = turned d s r w v l ms l.requester l.responder l.requests l.responses tied.apart (stay d l tied.reached) (requests_same refl) (untold (is-strange w v name q p lot e.spelt e s y not_s))
        (sender-else not_s (is-strange w v name q p lot e.spelt e r y not_r)) (receiver-else not_r (is-strange w v name q p lot e.spelt e s y not_s))

    by : (b : Bool) → queue_eq name r.queue ≡ b → (a : Bool) → queue_eq name s.queue ≡ a → TurnAfter d s r w l ms v
    by true here a there = at-receiver here (other-name name s.queue r.queue tied.apart here)
        (subst (λ z. ReceiverTie d s r z (w.mailbox r.queue) l.responder l.requests) (ap w.queue (sym (queue-path name r.queue here)) ∙ y.there.is) tied.receiver)
    by false there true here = at-sender here there
        (subst (λ z. SenderTie d s r z (w.mailbox s.queue) l.requester l.responses) (ap w.queue (sym (queue-path name s.queue here)) ∙ y.there.is) tied.sender)
    by false not_r false not_s = third not_r not_s
