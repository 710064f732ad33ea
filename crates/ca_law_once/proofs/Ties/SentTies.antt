-- A turn that sends a packet keeps a world tied: a move at the end that sends, and one more entry at the other.
use Rattle.std.proofs.Common.{◌≡◌, ℕ, arith, Bool, true, false, if◌then◌else◌, List, [], ◌∷◌, Option, None, Some, is_some, refl, ap, ap₂, sym, subst, ◌∙◌, true≢false}
use Rattle.std.proofs.lemmas.Option.{same_Some}
use Rattle.ca_law_endings.specs.Agreement.{peer_in}
use Rattle.ca_base.specs.declared.correspondent.Correspondent.{Correspondent}
use Rattle.ca_base.specs.declared.lot.Lot.{Lot}
use Rattle.ca_base.specs.objects.Mailbox.{Mailbox, after_send}
use Rattle.ca_base.specs.objects.QueuePair.{QueuePair, QueueSlot, Present, correspondent_of, incarnation_of, is_present}
use Rattle.ca_connection.specs.Layout.{Direction}
use Rattle.ca_connection.specs.Link.{Link, RequestPacket, Requester, Responder, Response}
use Rattle.ca_connection.specs.Moves.{Reached}
use Rattle.ca_connection.specs.Moves.Move.{other_request, other_response}
use Rattle.ca_connection.specs.Moves.Reached.{move}
use Rattle.ca_keys.specs.Equal.{queue_eq}
use Rattle.ca_keys.specs.declared.names.QueueId.{QueueId}
use Rattle.ca_law_world.proofs.Sound.SettledLemmas.{queue-path, queue-refl}
use Rattle.ca_model.specs.Past.{with_at}
use Rattle.ca_model.specs.declared.mark.Mark.{Mark}
use Rattle.ca_model.specs.machine.Invariants.{is_sending}
use Rattle.ca_model.specs.machine.Row.{Effects}
use Rattle.ca_model.specs.machine.Turns.{reaches_peer}
use Rattle.ca_model.specs.machine.World.{World}
use Rattle.ca_law_once.proofs.Ties.DeliverLemmas.{before-after, before-rtr, over-after, paired-after, present-same}
use Rattle.ca_law_once.proofs.Ties.DeliverTies.{other-name}
use Rattle.ca_law_once.proofs.Ties.SendLemmas.{boxed-receiver, boxed-sender, boxes_after, grown-receiver, grown-sender, nowhere-receiver, reaches-back, reaches-parts}
use Rattle.ca_law_once.proofs.Ties.TimerLemmas.{IsFoundAt}
use Rattle.ca_law_once.specs.Ties.{IsBefore, IsOver, IsPaired, IsSentFor, IsTied, MailFollows, ReceiverTie, RequesterTie, RequestsAfter, RequestsTold, SenderTie, TiedAfter, TurnAfter, sent_to}
use Rattle.ca_law_once.specs.Ties.RequestsAfter.{same as requests_same, grown as requests_grown}
use Rattle.ca_law_once.specs.Ties.RequestsTold.{kept as told_kept, absent as told_absent, grown as told_grown}
use Rattle.ca_law_once.specs.Ties.IsBefore.{sooner, unnamed}
use Rattle.ca_law_once.specs.Ties.IsOver.{later, vacant}
use Rattle.ca_law_once.specs.Ties.ReceiverTie.{before as receiver_before, standing as receiver_standing, gone as receiver_gone}
use Rattle.ca_law_once.specs.Ties.SenderTie.{before as sender_before, standing as sender_standing, gone as sender_gone}
use Rattle.ca_law_once.proofs.Rows.LinkLemmas.{forgotten-moves, sent-moves, sent-nowhere-moves}
use Rattle.ca_law_once.specs.Entries.{SpellsSomeRequest}
use Rattle.ca_connection.specs.Once.{numbers_at}
use Rattle.ca_law_once.specs.Links.{LeadsTo, found_at}
use Rattle.ca_law_once.specs.Moves.{ForgetsIn, LeavesState, SendsIn}
use Rattle.ca_law_once.specs.Sides.{IsLaid, requester_in, responder_in}

-- ---- links that moves lead to

pub stay : (d : Direction) (l : Link) → Reached d l → LeadsTo d l l.requester l.responder l.requests l.responses
stay d l reached = record { link = l; reached = reached; requester_is = refl; responder_is = refl; requests_are = refl; responses_are = refl; acceptances = refl; completions = refl }

-- a packet of the other direction takes a place, where a path leads there
pub one-response : (d : Direction) (l : Link) (b : Bool) (requester : Requester) (responder : Responder) (requests : List (Option RequestPacket)) (responses : List (Option Response)) → LeadsTo d l requester responder requests responses
    → LeadsTo d l requester responder requests (if b then None ∷ responses else responses)
one-response d l false requester responder requests responses to = to
one-response d l true requester responder requests responses to = record {
  link = record to.link { responses = None ∷ to.link.responses };
  reached = move to.reached other_response;
  requester_is = to.requester_is;
  responder_is = to.responder_is;
  requests_are = to.requests_are;
  responses_are = ap (λ xs. None ∷ xs) to.responses_are;
  acceptances = to.acceptances;
  completions = to.completions;
}

pub one-request : (d : Direction) (l : Link) (b : Bool) (requester : Requester) (responder : Responder) (requests : List (Option RequestPacket)) (responses : List (Option Response)) → LeadsTo d l requester responder requests responses
    → LeadsTo d l requester responder (if b then None ∷ requests else requests) responses
one-request d l false requester responder requests responses to = to
one-request d l true requester responder requests responses to = record {
  link = record to.link { requests = None ∷ to.link.requests };
  reached = move to.reached other_request;
  requester_is = to.requester_is;
  responder_is = to.responder_is;
  requests_are = ap (λ xs. None ∷ xs) to.requests_are;
  responses_are = to.responses_are;
  acceptances = to.acceptances;
  completions = to.completions;
}

-- both ends say what that link says
abbrev pub assembled : (d : Direction) (s r : Correspondent) (w v : World) (l : Link) (requester : Requester) (responder : Responder) (requests : List (Option RequestPacket)) (responses : List (Option Response)) → queue_eq s.queue r.queue ≡ false
    → LeadsTo d l requester responder requests responses → RequestsAfter r w v l.requests requests → SenderTie d s r (v.queue s.queue) (v.mailbox s.queue) requester responses
    → ReceiverTie d s r (v.queue r.queue) (v.mailbox r.queue) responder requests → TiedAfter d s r w l (λ place. []) (λ place. []) v
assembled d s r w v l requester responder requests responses apart to after sender receiver = record {
  link = to.link;
  tied = record {
    apart = apart;
    reached = to.reached;
    sender = subst (λ z. SenderTie d s r (v.queue s.queue) (v.mailbox s.queue) z to.link.responses) (sym to.requester_is)
        (subst (λ z. SenderTie d s r (v.queue s.queue) (v.mailbox s.queue) requester z) (sym to.responses_are) sender);
    receiver = subst (λ z. ReceiverTie d s r (v.queue r.queue) (v.mailbox r.queue) z to.link.requests) (sym to.responder_is)
        (subst (λ z. ReceiverTie d s r (v.queue r.queue) (v.mailbox r.queue) responder z) (sym to.requests_are) receiver);
  };
  found = λ place atomic. ap (found_at place) to.acceptances;
  plain = λ place none. refl;
  wrote = λ place is_so. ap (numbers_at place) to.acceptances;
  unwritten = λ place none. refl;
  requests = subst (RequestsAfter r w v l.requests) (sym to.requests_are) after;
}

-- the same of a turn, whose marks tell of the requests
pub turned : (d : Direction) (s r : Correspondent) (w v : World) (l : Link) (ms : List Mark) (requester : Requester) (responder : Responder) (requests : List (Option RequestPacket)) (responses : List (Option Response))
    → queue_eq s.queue r.queue ≡ false → LeadsTo d l requester responder requests responses → RequestsAfter r w v l.requests requests → RequestsTold d s r w ms l.requests requests
    → SenderTie d s r (v.queue s.queue) (v.mailbox s.queue) requester responses → ReceiverTie d s r (v.queue r.queue) (v.mailbox r.queue) responder requests → TurnAfter d s r w l ms v
turned d s r w v l ms requester responder requests responses apart to after told sender receiver = record {
  after = assembled d s r w v l requester responder requests responses apart to after sender receiver;
  told = subst (RequestsTold d s r w ms l.requests) (sym to.requests_are) told;
}

-- ---- a packet that the queue pair q at a name sends to p, with these bytes

pub record IsSent (w v : World) (name : QueueId) (q : QueuePair) (p : Correspondent) (lot : Lot) (bytes : List ℕ) (e : Effects) : Type 0 where
  pub there : IsFoundAt w name q
  pub names : q.peer ≡ Some p
  pub follows : MailFollows w
  pub incarnation : e.queue.incarnation ≡ q.incarnation
  pub peer : e.queue.peer ≡ q.peer
  pub state : LeavesState q e
  pub request : Option ℕ
  pub queue : v.queue ≡ with_at queue_eq w.queue name (Present e.queue)
  pub mailbox : v.mailbox ≡ boxes_after w q p lot (Some (record { request = request; bytes = bytes }))

pub slot-here : (w v : World) (name n : QueueId) (q : QueuePair) (p : Correspondent) (lot : Lot) (bytes : List ℕ) (e : Effects) → IsSent w v name q p lot bytes e → queue_eq name n ≡ true → v.queue n ≡ Present e.queue
slot-here w v name n q p lot bytes e x is = ap (λ (f : QueueId → QueueSlot). f n) x.queue ∙ ap (λ b. if b then Present e.queue else w.queue n) is

pub slot-else : (w v : World) (name n : QueueId) (q : QueuePair) (p : Correspondent) (lot : Lot) (bytes : List ℕ) (e : Effects) → IsSent w v name q p lot bytes e → queue_eq name n ≡ false → v.queue n ≡ w.queue n
slot-else w v name n q p lot bytes e x is = ap (λ (f : QueueId → QueueSlot). f n) x.queue ∙ ap (λ b. if b then Present e.queue else w.queue n) is

-- the mailbox of the peer, and every other
pub box-here : (w v : World) (name n : QueueId) (q : QueuePair) (p : Correspondent) (lot : Lot) (bytes : List ℕ) (e : Effects) → IsSent w v name q p lot bytes e → queue_eq p.queue n ≡ true
    → v.mailbox n ≡ (if reaches_peer q p (w.mailbox p.queue) then after_send lot bytes (w.mailbox n) else w.mailbox n)
box-here w v name n q p lot bytes e x is = ap (λ (f : QueueId → Mailbox). f n) x.mailbox ∙ by (reaches_peer q p (w.mailbox p.queue))
  where
    by : (b : Bool) → (if b then with_at queue_eq w.mailbox p.queue (after_send lot bytes (w.mailbox p.queue)) else w.mailbox) n ≡ (if b then after_send lot bytes (w.mailbox n) else w.mailbox n)
    by true = ap (λ b. if b then after_send lot bytes (w.mailbox p.queue) else w.mailbox n) is ∙ ap (λ k. after_send lot bytes (w.mailbox k)) (queue-path p.queue n is)
    by false = refl

pub box-else : (w v : World) (name n : QueueId) (q : QueuePair) (p : Correspondent) (lot : Lot) (bytes : List ℕ) (e : Effects) → IsSent w v name q p lot bytes e → queue_eq p.queue n ≡ false → v.mailbox n ≡ w.mailbox n
box-else w v name n q p lot bytes e x is = ap (λ (f : QueueId → Mailbox). f n) x.mailbox ∙ by (reaches_peer q p (w.mailbox p.queue))
  where
    by : (b : Bool) → (if b then with_at queue_eq w.mailbox p.queue (after_send lot bytes (w.mailbox p.queue)) else w.mailbox) n ≡ w.mailbox n
    by true = ap (λ b. if b then after_send lot bytes (w.mailbox p.queue) else w.mailbox n) is
    by false = refl

-- a path leads to the peer's life where it is there, and has named the life that sends
pub path-leads : (w : World) (q : QueuePair) (p : Correspondent) → MailFollows w → reaches_peer q p (w.mailbox p.queue) ≡ true → (incarnation_of (w.queue p.queue) ≡ p.incarnation) × (peer_in (w.queue p.queue) ≡ Some (correspondent_of q))
path-leads w q p follows is = let parts = reaches-parts q p (w.mailbox p.queue) is in (sym (follows.owners p.queue) ∙ parts.0, sym (follows.peers p.queue) ∙ parts.1)

-- the same of a life that stands there
pub path-to : (d : Direction) (w : World) (q t : QueuePair) (life own : Correspondent) → MailFollows w → correspondent_of q ≡ own → IsPaired d life own (w.queue life.queue) t → reaches_peer q life (w.mailbox life.queue) ≡ true
path-to d w q t life own follows same paired = reaches-back q life (w.mailbox life.queue)
    (follows.owners life.queue ∙ ap incarnation_of paired.present ∙ paired.incarnation)
    (follows.peers life.queue ∙ ap peer_in paired.present ∙ paired.names ∙ ap (λ x. Some x) (sym same))

-- what another life sends reaches no mailbox of a life that stands
pub foreign-box : (d : Direction) (w v : World) (name : QueueId) (q : QueuePair) (p : Correspondent) (lot : Lot) (bytes : List ℕ) (e : Effects) (life other : Correspondent) → IsSent w v name q p lot bytes e → (correspondent_of q ≡ other → ⊥)
    → (t : QueuePair) → IsPaired d life other (w.queue life.queue) t → v.mailbox life.queue ≡ w.mailbox life.queue
foreign-box d w v name q p lot bytes e life other x strange t paired = by (queue_eq p.queue life.queue) refl
  where
    reach : Bool
    reach = reaches_peer q p (w.mailbox p.queue)

    met : queue_eq p.queue life.queue ≡ true → (b : Bool) → reach ≡ b → (if b then after_send lot bytes (w.mailbox life.queue) else w.mailbox life.queue) ≡ w.mailbox life.queue
    met is false none = refl
    met is true leads = absurd (strange (same_Some (correspondent_of q) other (sym (path-leads w q p x.follows leads).1 ∙ ap (λ n. peer_in (w.queue n)) (queue-path p.queue life.queue is) ∙ ap peer_in paired.present ∙ paired.names)))

    by : (b : Bool) → queue_eq p.queue life.queue ≡ b → v.mailbox life.queue ≡ w.mailbox life.queue
    by true is = box-here w v name life.queue q p lot bytes e x is ∙ met is reach refl
    by false is = box-else w v name life.queue q p lot bytes e x is

-- who has not come, or is over, is not who sends
pub not-before : (w : World) (name : QueueId) (q : QueuePair) (p life : Correspondent) → q.peer ≡ Some p → IsBefore life (Present q) → correspondent_of q ≡ life → ⊥
not-before w name q p life names (sooner less) same = omega (arith, less, ap (λ (x : Correspondent). x.incarnation) same)
not-before w name q p life names (unnamed t is own none) same = true≢false (sym (ap is_some (sym (ap (λ (x : QueuePair). x.peer) (present-same q t is) ∙ none) ∙ names)))

pub not-over : (w : World) (name : QueueId) (q : QueuePair) (life : Correspondent) → IsOver life (Present q) → correspondent_of q ≡ life → ⊥
not-over w name q life (later more) same = omega (arith, more, ap (λ (x : Correspondent). x.incarnation) same)
not-over w name q life (vacant none own) same = true≢false none

-- who stands is who sends
pub is-life : (d : Direction) (w : World) (name : QueueId) (q t : QueuePair) (life other : Correspondent) → IsFoundAt w name q → queue_eq name life.queue ≡ true → IsPaired d life other (Present q) t → correspondent_of q ≡ life
is-life d w name q t life other there here paired = ap₂ (λ a b. record { queue = a; incarnation = b }) (there.named ∙ queue-path name life.queue here)
    (ap (λ (x : QueuePair). x.incarnation) (present-same q t paired.present) ∙ paired.incarnation)

pub is-peer : (d : Direction) (q t : QueuePair) (p life other : Correspondent) → q.peer ≡ Some p → IsPaired d life other (Present q) t → p ≡ other
is-peer d q t p life other names paired = same_Some p other (sym names ∙ ap (λ (x : QueuePair). x.peer) (present-same q t paired.present) ∙ paired.names)

pub apart-back : (a b : QueueId) → queue_eq a b ≡ false → queue_eq b a ≡ false
apart-back a b apart = other-name b a b apart (queue-refl b)

pub mtu-of : (d : Direction) (q t : QueuePair) (life other : Correspondent) → IsPaired d life other (Present q) t → q.responder.mtu ≡ d.mtu
mtu-of d q t life other paired = ap (λ (x : QueuePair). x.responder.mtu) (present-same q t paired.present) ∙ paired.mtu

-- ---- what the marks tell

-- the marks tell of one packet sent, where a path leads to the peer
abbrev pub Tells : World → List Mark → QueuePair → Correspondent → Option ℕ → Type 0
Tells w ms q p request = (n : QueueId) → sent_to n ms ≡ (if queue_eq p.queue n then (if reaches_peer q p (w.mailbox p.queue) then (q.queue, request) ∷ [] else []) else [])

-- no life that has not come, or is over, has named a peer
unpaired-before : (d : Direction) (life peer : Correspondent) (slot : QueueSlot) (t : QueuePair) → IsBefore life slot → IsPaired d life peer slot t → ⊥
unpaired-before d life peer slot t (sooner less) paired = omega (arith, less, ap incarnation_of paired.present, paired.incarnation)
unpaired-before d life peer slot t (unnamed q is own none) paired = true≢false (sym (ap is_some (sym (ap peer_in is ∙ none) ∙ ap peer_in paired.present ∙ paired.names)))

unpaired-over : (d : Direction) (life peer : Correspondent) (slot : QueueSlot) (t : QueuePair) → IsOver life slot → IsPaired d life peer slot t → ⊥
unpaired-over d life peer slot t (later more) paired = omega (arith, more, ap incarnation_of paired.present, paired.incarnation)
unpaired-over d life peer slot t (vacant none own) paired = true≢false (sym (ap is_present paired.present) ∙ none)

-- what another life sends is not told of, where the life that receives stands
pub foreign-told : (d : Direction) (s r : Correspondent) (w v : World) (l : Link) (ms : List Mark) (name : QueueId) (q : QueuePair) (p : Correspondent) (lot : Lot) (bytes : List ℕ) (e : Effects) (request : Option ℕ) → IsSent w v name q p lot bytes e
    → Tells w ms q p request → (correspondent_of q ≡ s → ⊥) → ReceiverTie d s r (w.queue r.queue) (w.mailbox r.queue) l.responder l.requests → RequestsTold d s r w ms l.requests l.requests
foreign-told d s r w v l ms name q p lot bytes e request x tells strange tie = by tie
  where
    reach : Bool
    reach = reaches_peer q p (w.mailbox p.queue)

    one : Bool → List (QueueId × Option ℕ)
    one b = if b then (q.queue, request) ∷ [] else []

    unsent : (t : QueuePair) → IsPaired d r s (w.queue r.queue) t → sent_to r.queue ms ≡ []
    unsent t paired = tells r.queue ∙ at (queue_eq p.queue r.queue) refl
      where
        met : queue_eq p.queue r.queue ≡ true → (b : Bool) → reach ≡ b → one b ≡ []
        met is false none = refl
        met is true leads = absurd (strange (same_Some (correspondent_of q) s (sym (path-leads w q p x.follows leads).1 ∙ ap (λ n. peer_in (w.queue n)) (queue-path p.queue r.queue is) ∙ ap peer_in paired.present ∙ paired.names)))

        at : (b : Bool) → queue_eq p.queue r.queue ≡ b → (if b then one reach else []) ≡ []
        at true is = met is reach refl
        at false is = refl

    by : ReceiverTie d s r (w.queue r.queue) (w.mailbox r.queue) l.responder l.requests → RequestsTold d s r w ms l.requests l.requests
    by (receiver_before is own none) = told_absent refl (λ t paired. unpaired-before d r s (w.queue r.queue) t is paired)
    by (receiver_gone is none) = told_absent refl (λ t paired. unpaired-over d r s (w.queue r.queue) t is paired)
    by (receiver_standing t paired own entries) = told_kept refl (unsent t paired)

-- what the life that sends sends is told of, where a path leads there
pub sent-told : (d : Direction) (s r : Correspondent) (w : World) (ms : List Mark) (q : QueuePair) (p : Correspondent) (request : Option ℕ) (x : Option RequestPacket) (requests : List (Option RequestPacket)) (b : Bool) → Tells w ms q p request
    → queue_eq p.queue r.queue ≡ true → reaches_peer q p (w.mailbox p.queue) ≡ b → IsSentFor s w x q.queue request → RequestsTold d s r w ms requests (if b then x ∷ requests else requests)
sent-told d s r w ms q p request x requests true tells is leads own = told_grown x q.queue request refl
    (tells r.queue ∙ ap₂ at is leads) own
  where
    at : Bool → Bool → List (QueueId × Option ℕ)
    at a c = if a then (if c then (q.queue, request) ∷ [] else []) else []
sent-told d s r w ms q p request x requests false tells is leads own = told_kept refl (tells r.queue ∙ ap₂ at is leads)
  where
    at : Bool → Bool → List (QueueId × Option ℕ)
    at a c = if a then (if c then (q.queue, request) ∷ [] else []) else []

pub sent-after : (r : Correspondent) (w v : World) (name : QueueId) (q : QueuePair) (p : Correspondent) (lot : Lot) (bytes : List ℕ) (e : Effects) (x : Option RequestPacket) (requests : List (Option RequestPacket)) (b : Bool)
    → IsSent w v name q p lot bytes e → queue_eq p.queue r.queue ≡ true → reaches_peer q p (w.mailbox p.queue) ≡ b → RequestsAfter r w v requests (if b then x ∷ requests else requests)
sent-after r w v name q p lot bytes e x requests true y is leads = requests_grown x refl
    (ap (λ (m : Mailbox). m.next) (box-here w v name r.queue q p lot bytes e y is ∙ ap (λ c. if c then after_send lot bytes (w.mailbox r.queue) else w.mailbox r.queue) leads))
sent-after r w v name q p lot bytes e x requests false y is leads = requests_same refl

-- who is not at the name of a life is not that life
pub is-strange : (w v : World) (name : QueueId) (q : QueuePair) (p : Correspondent) (lot : Lot) (bytes : List ℕ) (e : Effects) (life : Correspondent) → IsSent w v name q p lot bytes e → queue_eq name life.queue ≡ false
    → correspondent_of q ≡ life → ⊥
is-strange w v name q p lot bytes e life y none is = true≢false (sym (queue-refl life.queue) ∙ ap (λ n. queue_eq n life.queue) (sym (sym (y.there.named) ∙ ap (λ (z : Correspondent). z.queue) is)) ∙ none)

-- ---- a request

pub record IsRequest (w v : World) (name : QueueId) (q : QueuePair) (p : Correspondent) (lot : Lot) (place : ℕ) (e : Effects) (ms : List Mark) : Type 0 where
  pub sent : IsSent w v name q p lot e.spelt e
  pub sending : is_sending q.state ≡ true
  pub sends : (d : Direction) → IsLaid d q → SendsIn d (requester_in q) place e
  pub forgets : (d : Direction) → q.responder.mtu ≡ d.mtu → ForgetsIn d (responder_in q) e
  pub other : SpellsSomeRequest e.spelt
  pub tells : Tells w ms q p (Some place)

pub request-ties : (d : Direction) (s r : Correspondent) (w v : World) (l : Link) (name : QueueId) (q : QueuePair) (p : Correspondent) (lot : Lot) (place : ℕ) (e : Effects) (ms : List Mark) → IsRequest w v name q p lot place e ms → IsTied d s r w l
    → TurnAfter d s r w l ms v
request-ties d s r w v l name q p lot place e ms x tied = by (queue_eq name r.queue) refl (queue_eq name s.queue) refl
  where
    y : IsSent w v name q p lot e.spelt e
    y = x.sent

    reach : Bool
    reach = reaches_peer q p (w.mailbox p.queue)

    untold : (correspondent_of q ≡ s → ⊥) → RequestsTold d s r w ms l.requests l.requests
    untold strange = foreign-told d s r w v l ms name q p lot e.spelt e (Some place) y x.tells strange tied.receiver

    receiver-else : queue_eq name r.queue ≡ false → (correspondent_of q ≡ s → ⊥) → ReceiverTie d s r (v.queue r.queue) (v.mailbox r.queue) l.responder l.requests
    receiver-else is strange = subst (λ z. ReceiverTie d s r z (v.mailbox r.queue) l.responder l.requests) (sym (slot-else w v name r.queue q p lot e.spelt e y is))
        (boxed-receiver d s r (w.queue r.queue) (w.mailbox r.queue) (v.mailbox r.queue) l.responder l.requests (λ t paired. foreign-box d w v name q p lot e.spelt e r s y strange t paired) tied.receiver)

    sender-else : queue_eq name s.queue ≡ false → (correspondent_of q ≡ r → ⊥) → SenderTie d s r (v.queue s.queue) (v.mailbox s.queue) l.requester l.responses
    sender-else is strange = subst (λ z. SenderTie d s r z (v.mailbox s.queue) l.requester l.responses) (sym (slot-else w v name s.queue q p lot e.spelt e y is))
        (boxed-sender d s r (w.queue s.queue) (w.mailbox s.queue) (v.mailbox s.queue) l.requester l.responses (λ t paired. foreign-box d w v name q p lot e.spelt e s r y strange t paired) tied.sender)

    -- the end that receives is who sends: a packet of the other direction
    at-receiver : queue_eq name r.queue ≡ true → queue_eq name s.queue ≡ false → ReceiverTie d s r (Present q) (w.mailbox r.queue) l.responder l.requests → TurnAfter d s r w l ms v
    at-receiver here there (receiver_before is own none) = turned d s r w v l ms l.requester l.responder l.requests l.responses tied.apart (stay d l tied.reached) (requests_same refl) (untold (is-strange w v name q p lot e.spelt e s y there))
        (sender-else there (not-before w name q p r y.names is))
        (subst (λ z. ReceiverTie d s r z (v.mailbox r.queue) l.responder l.requests) (sym (slot-here w v name r.queue q p lot e.spelt e y here)) (receiver_before (before-after r q e.queue y.incarnation y.peer is) own none))
    at-receiver here there (receiver_gone is none) = turned d s r w v l ms l.requester l.responder l.requests l.responses tied.apart (stay d l tied.reached) (requests_same refl) (untold (is-strange w v name q p lot e.spelt e s y there))
        (sender-else there (not-over w name q r is))
        (subst (λ z. ReceiverTie d s r z (v.mailbox r.queue) l.responder l.requests) (sym (slot-here w v name r.queue q p lot e.spelt e y here)) (receiver_gone (over-after r q e.queue y.incarnation is) none))
    at-receiver here there (receiver_standing t paired same entries) =
        turned d s r w v l ms l.requester (responder_in e.queue) l.requests (if reach then None ∷ l.responses else l.responses) tied.apart
        (one-response d l reach l.requester (responder_in e.queue) l.requests l.responses (forgotten-moves d l e tied.reached does))
        (requests_same refl) (untold (is-strange w v name q p lot e.spelt e s y there))
        (subst (λ z. SenderTie d s r z (v.mailbox s.queue) l.requester (if reach then None ∷ l.responses else l.responses)) (sym (slot-else w v name s.queue q p lot e.spelt e y there))
        (subst (λ z. SenderTie d s r (w.queue s.queue) z l.requester (if reach then None ∷ l.responses else l.responses)) (sym (box-here w v name s.queue q p lot e.spelt e y (ap (λ n. queue_eq n s.queue) to_s ∙ queue-refl s.queue)))
        (grown-sender d s r (w.queue s.queue) (w.mailbox s.queue) l.requester l.responses lot e.spelt None reach path x.other tied.sender)))
        (subst (λ z. ReceiverTie d s r z (v.mailbox r.queue) (responder_in e.queue) l.requests) (sym (slot-here w v name r.queue q p lot e.spelt e y here))
        (subst (λ z. ReceiverTie d s r (Present e.queue) z (responder_in e.queue) l.requests) (sym (box-else w v name r.queue q p lot e.spelt e y (ap (λ n. queue_eq n r.queue) to_s ∙ tied.apart)))
        (receiver_standing e.queue (paired-after d r s q e.queue t y.incarnation y.peer does.mtu paired) refl entries)))
      where
        peer_is : p ≡ s
        peer_is = is-peer d q t p r s y.names paired

        to_s : p.queue ≡ s.queue
        to_s = ap (λ (z : Correspondent). z.queue) peer_is

        own_is : correspondent_of q ≡ r
        own_is = is-life d w name q t r s y.there here paired

        does : ForgetsIn d l.responder e
        does = subst (λ z. ForgetsIn d z e) (sym (same ∙ ap responder_in (sym (present-same q t paired.present)))) (x.forgets d (mtu-of d q t r s paired))

        path : reach ≡ true → (incarnation_of (w.queue s.queue) ≡ s.incarnation) × (peer_in (w.queue s.queue) ≡ Some r)
        path leads = let there = path-leads w q p y.follows leads in (
          ap (λ n. incarnation_of (w.queue n)) (sym to_s) ∙ there.0 ∙ ap (λ (z : Correspondent). z.incarnation) peer_is,
          ap (λ n. peer_in (w.queue n)) (sym to_s) ∙ there.1 ∙ ap (λ z. Some z) own_is,
        )

    -- the end that sends is who sends
    at-sender : queue_eq name s.queue ≡ true → queue_eq name r.queue ≡ false → SenderTie d s r (Present q) (w.mailbox s.queue) l.requester l.responses → TurnAfter d s r w l ms v
    at-sender here there (sender_before is own none) = turned d s r w v l ms l.requester l.responder l.requests l.responses tied.apart (stay d l tied.reached) (requests_same refl) (untold (not-before w name q p s y.names is))
        (subst (λ z. SenderTie d s r z (v.mailbox s.queue) l.requester l.responses) (sym (slot-here w v name s.queue q p lot e.spelt e y here)) (sender_before (before-after s q e.queue y.incarnation y.peer is) own none))
        (receiver-else there (not-before w name q p s y.names is))
    at-sender here there (sender_gone is none) = turned d s r w v l ms l.requester l.responder l.requests l.responses tied.apart (stay d l tied.reached) (requests_same refl) (untold (not-over w name q s is))
        (subst (λ z. SenderTie d s r z (v.mailbox s.queue) l.requester l.responses) (sym (slot-here w v name s.queue q p lot e.spelt e y here)) (sender_gone (over-after s q e.queue y.incarnation is) none))
        (receiver-else there (not-over w name q s is))
    at-sender here there (sender_standing t paired stood entries) =
        turned d s r w v l ms (requester_in e.queue) l.responder (if reach then Some packet ∷ l.requests else l.requests) l.responses tied.apart (leads reach refl)
        (sent-after r w v name q p lot e.spelt e (Some packet) l.requests reach y to_r_is refl)
        (sent-told d s r w ms q p (Some place) (Some packet) l.requests reach x.tells to_r_is refl (ap (λ (z : Correspondent). z.queue) own_is, stands, refl))
        (subst (λ z. SenderTie d s r z (v.mailbox s.queue) (requester_in e.queue) l.responses) (sym (slot-here w v name s.queue q p lot e.spelt e y here))
        (subst (λ z. SenderTie d s r (Present e.queue) z (requester_in e.queue) l.responses) (sym (box-else w v name s.queue q p lot e.spelt e y (ap (λ n. queue_eq n s.queue) to_r ∙ apart-back s.queue r.queue tied.apart)))
        (sender_standing e.queue (paired-after d s r q e.queue t y.incarnation y.peer (y.state.1 ∙ mtu-of d q t s r paired) paired) (record {
          fresh = λ rtr. absurd (true≢false (sym x.sending ∙ ap is_sending (before-rtr q e y.state rtr)));
          sending = λ is. refl;
          laid = does.laid;
        }) entries)))
        (subst (λ z. ReceiverTie d s r z (v.mailbox r.queue) l.responder (if reach then Some packet ∷ l.requests else l.requests)) (sym (slot-else w v name r.queue q p lot e.spelt e y there))
        (subst (λ z. ReceiverTie d s r (w.queue r.queue) z l.responder (if reach then Some packet ∷ l.requests else l.requests)) (sym (box-here w v name r.queue q p lot e.spelt e y to_r_is))
        (grown-receiver d s r (w.queue r.queue) (w.mailbox r.queue) l.responder l.requests lot e.spelt (Some packet) reach path does.spells tied.receiver)))
      where
        own : RequesterTie d q l.requester
        own = subst (λ t. RequesterTie d t l.requester) (sym (present-same q t paired.present)) stood

        packet : RequestPacket
        packet = record { number = l.requester.cursor; place = place }

        peer_is : p ≡ r
        peer_is = is-peer d q t p s r y.names paired

        to_r : p.queue ≡ r.queue
        to_r = ap (λ (z : Correspondent). z.queue) peer_is

        to_r_is : queue_eq p.queue r.queue ≡ true
        to_r_is = ap (λ n. queue_eq n r.queue) to_r ∙ queue-refl r.queue

        own_is : correspondent_of q ≡ s
        own_is = is-life d w name q t s r y.there here paired

        stands : incarnation_of (w.queue s.queue) ≡ s.incarnation
        stands = ap (λ n. incarnation_of (w.queue n)) (sym (queue-path name s.queue here)) ∙ ap incarnation_of y.there.is ∙ ap (λ (z : Correspondent). z.incarnation) own_is

        does : SendsIn d l.requester place e
        does = subst (λ z. SendsIn d z place e) (sym (own.sending x.sending)) (x.sends d (own.laid x.sending))

        path : reach ≡ true → (incarnation_of (w.queue r.queue) ≡ r.incarnation) × (peer_in (w.queue r.queue) ≡ Some s)
        path leads = let there = path-leads w q p y.follows leads in (
          ap (λ n. incarnation_of (w.queue n)) (sym to_r) ∙ there.0 ∙ ap (λ (z : Correspondent). z.incarnation) peer_is,
          ap (λ n. peer_in (w.queue n)) (sym to_r) ∙ there.1 ∙ ap (λ z. Some z) own_is,
        )

        nobody : reach ≡ false → l.requests ≡ []
        nobody none = nowhere-receiver d s r (w.queue r.queue) (w.mailbox r.queue) l.responder l.requests
            (λ t2 paired2. true≢false (sym (path-to d w q t2 r s y.follows own_is paired2) ∙ ap (λ (z : Correspondent). reaches_peer q z (w.mailbox z.queue)) (sym peer_is) ∙ none)) tied.receiver

        leads : (b : Bool) → reach ≡ b → LeadsTo d l (requester_in e.queue) l.responder (if b then Some packet ∷ l.requests else l.requests) l.responses
        leads true is = sent-moves d l place e tied.reached does
        leads false is = subst (λ xs. LeadsTo d l (requester_in e.queue) l.responder xs l.responses) (sym (nobody is)) (sent-nowhere-moves d l place e tied.reached (nobody is) does)

    third : queue_eq name r.queue ≡ false → queue_eq name s.queue ≡ false → TurnAfter d s r w l ms v
    third not_r not_s = turned d s r w v l ms l.requester l.responder l.requests l.responses tied.apart (stay d l tied.reached) (requests_same refl) (untold (is-strange w v name q p lot e.spelt e s y not_s))
        (sender-else not_s (is-strange w v name q p lot e.spelt e r y not_r)) (receiver-else not_r (is-strange w v name q p lot e.spelt e s y not_s))

    by : (b : Bool) → queue_eq name r.queue ≡ b → (a : Bool) → queue_eq name s.queue ≡ a → TurnAfter d s r w l ms v
    by true here a there = at-receiver here (other-name name s.queue r.queue tied.apart here)
        (subst (λ z. ReceiverTie d s r z (w.mailbox r.queue) l.responder l.requests) (ap w.queue (sym (queue-path name r.queue here)) ∙ y.there.is) tied.receiver)
    by false there true here = at-sender here there
        (subst (λ z. SenderTie d s r z (w.mailbox s.queue) l.requester l.responses) (ap w.queue (sym (queue-path name s.queue here)) ∙ y.there.is) tied.sender)
    by false not_r false not_s = third not_r not_s
