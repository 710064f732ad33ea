-- Changes of queue pairs that are no move of a link: what keeps the ties. For proofs only.
use Rattle.std.proofs.Common.{◌≤◌, ◌≡◌, ◌==◌, Bool, true, false, List, [], Option, refl, ap, sym, subst, ◌∙◌, arith}
use Rattle.std.proofs.lemmas.Bool.{eqb-false, eqb-true}
use Rattle.ca_base.specs.declared.correspondent.Correspondent.{Correspondent}
use Rattle.ca_base.specs.objects.Mailbox.{Mailbox}
use Rattle.ca_base.specs.objects.QueuePair.{QueuePair, QueueSlot, Present, incarnation_of}
use Rattle.ca_connection.specs.Layout.{Direction, first}
use Rattle.ca_connection.specs.Link.{Link, RequestPacket, Requester, Responder, Response}
use Rattle.ca_keys.specs.Equal.{queue_eq}
use Rattle.ca_keys.specs.declared.names.QueueId.{QueueId}
use Rattle.ca_law_world.proofs.Sound.SettledLemmas.{queue-path}
use Rattle.ca_model.specs.machine.World.{World}
use Rattle.ca_law_once.proofs.Ties.DeliverLemmas.{before-after, over-after, paired-after, present-same}
use Rattle.ca_law_once.proofs.Ties.DeliverTies.{stands-changed, stands-still}
use Rattle.ca_law_once.proofs.Ties.DeliverWalk.{Changes}
use Rattle.ca_law_once.proofs.Ties.QuietLemmas.{Turned, turned-elsewhere, turned-here, turned-mail}
use Rattle.ca_law_once.specs.Ties.{IsTied, ReceiverTie, RequesterTie, SenderTie, TiedAfter}
use Rattle.ca_law_once.specs.Ties.IsBefore.{sooner, unnamed}
use Rattle.ca_law_once.specs.Ties.RequestsAfter.{same as requests_same}
use Rattle.ca_law_once.specs.Ties.ReceiverTie.{before as receiver_before, standing as receiver_standing, gone as receiver_gone}
use Rattle.ca_law_once.specs.Ties.SenderTie.{before as sender_before, standing as sender_standing, gone as sender_gone}
use Rattle.ca_base.specs.declared.queue_numbers.RequesterNumbers.{RequesterNumbers}
use Rattle.ca_base.specs.objects.WorkQueue.{items_from}
use Rattle.ca_law_once.specs.Sides.{IsLaid, IsWork, responder_in}
use Rattle.ca_model.specs.machine.Invariants.{is_sending}
use Rattle.ca_law_once.specs.Agrees.{IsInLife}

-- the link stays as it is: the one way by which a verb here keeps a world tied
pub stays : (d : Direction) (s r : Correspondent) (w v : World) (l : Link) → IsTied d s r w l → SenderTie d s r (v.queue s.queue) (v.mailbox s.queue) l.requester l.responses
    → ReceiverTie d s r (v.queue r.queue) (v.mailbox r.queue) l.responder l.requests → TiedAfter d s r w l (λ place. []) (λ place. []) v
stays d s r w v l tied sender receiver = record {
  link = l;
  tied = record { apart = tied.apart; reached = tied.reached; sender = sender; receiver = receiver };
  found = λ place atomic. refl;
  plain = λ place none. refl;
  wrote = λ place is_so. refl;
  unwritten = λ place none. refl;
  requests = requests_same refl;
}

-- nothing of queue pairs and mailboxes changes
pub unchanged : (d : Direction) (s r : Correspondent) (w : World) (l : Link) → IsTied d s r w l → TiedAfter d s r w l (λ place. []) (λ place. []) w
unchanged d s r w l tied = stays d s r w w l tied tied.sender tied.receiver

-- another value in one slot, and another mailbox there; all others are the same
pub record Replaces (w : World) (name : QueueId) (slot : QueueSlot) (box : Mailbox) (v : World) : Type 0 where
  pub here : (n : QueueId) → queue_eq name n ≡ true → (v.queue n ≡ slot) × (v.mailbox n ≡ box)
  pub elsewhere : (n : QueueId) → queue_eq name n ≡ false → (v.queue n ≡ w.queue n) × (v.mailbox n ≡ w.mailbox n)

pub replaces-changed : (w v : World) (name : QueueId) (slot : QueueSlot) (box : Mailbox) → Changes w name slot box v → Replaces w name slot box v
replaces-changed w v name slot box changes = record { here = λ n is. stands-changed w v name n slot box changes is; elsewhere = λ n none. stands-still w v name n slot box changes none }

pub replaces-turned : (w v : World) (name : QueueId) (slot : QueueSlot) → Turned w name slot v → Replaces w name slot (w.mailbox name) v
replaces-turned w v name slot turned = record {
  here = λ n is. (turned-here w v name n slot turned is, turned-mail w v name n slot turned ∙ ap w.mailbox (sym (queue-path name n is)));
  elsewhere = λ n none. (turned-elsewhere w v name n slot turned none, turned-mail w v name n slot turned);
}

-- a queue pair in another life than the one that sends is nothing to the tie
other-sender : (d : Direction) (s r : Correspondent) (q p : QueuePair) (m box : Mailbox) (requester : Requester) (responses : List (Option Response)) → p.incarnation ≡ q.incarnation → (q.incarnation ≡ s.incarnation → ⊥)
    → SenderTie d s r (Present q) m requester responses → SenderTie d s r (Present p) box requester responses
other-sender d s r q p m box requester responses same other (sender_before (sooner less) opens none) = sender_before (sooner (omega (arith, less, same))) opens none
other-sender d s r q p m box requester responses same other (sender_before (unnamed t is own nobody) opens none) = absurd (other (ap (λ (x : QueuePair). x.incarnation) (present-same q t is) ∙ own))
other-sender d s r q p m box requester responses same other (sender_gone is none) = sender_gone (over-after s q p same is) none
other-sender d s r q p m box requester responses same other (sender_standing t paired own entries) = absurd (other (ap (λ (x : QueuePair). x.incarnation) (present-same q t paired.present) ∙ paired.incarnation))

other-receiver : (d : Direction) (s r : Correspondent) (q p : QueuePair) (m box : Mailbox) (responder : Responder) (requests : List (Option RequestPacket)) → p.incarnation ≡ q.incarnation → (q.incarnation ≡ r.incarnation → ⊥)
    → ReceiverTie d s r (Present q) m responder requests → ReceiverTie d s r (Present p) box responder requests
other-receiver d s r q p m box responder requests same other (receiver_before (sooner less) opens none) = receiver_before (sooner (omega (arith, less, same))) opens none
other-receiver d s r q p m box responder requests same other (receiver_before (unnamed t is own nobody) opens none) = absurd (other (ap (λ (x : QueuePair). x.incarnation) (present-same q t is) ∙ own))
other-receiver d s r q p m box responder requests same other (receiver_gone is none) = receiver_gone (over-after r q p same is) none
other-receiver d s r q p m box responder requests same other (receiver_standing t paired own entries) = absurd (other (ap (λ (x : QueuePair). x.incarnation) (present-same q t paired.present) ∙ paired.incarnation))

-- a change of a queue pair in one slot keeps the ties, if it keeps those of the two lives where it is in one of them
pub tied-replaced : (d : Direction) (s r : Correspondent) (w v : World) (l : Link) (name : QueueId) (q p : QueuePair) (box : Mailbox) → w.queue name ≡ Present q → p.incarnation ≡ q.incarnation → Replaces w name (Present p) box v
    → (IsInLife w s name → SenderTie d s r (Present q) (w.mailbox name) l.requester l.responses → SenderTie d s r (Present p) box l.requester l.responses)
    → (IsInLife w r name → ReceiverTie d s r (Present q) (w.mailbox name) l.responder l.requests → ReceiverTie d s r (Present p) box l.responder l.requests)
    → IsTied d s r w l → TiedAfter d s r w l (λ place. []) (λ place. []) v
tied-replaced d s r w v l name q p box is same replaces sends receives tied = stays d s r w v l tied (sender (queue_eq name s.queue) refl) (receiver (queue_eq name r.queue) refl)
  where
    sender : (b : Bool) → queue_eq name s.queue ≡ b → SenderTie d s r (v.queue s.queue) (v.mailbox s.queue) l.requester l.responses
    sender false none = subst (λ x. SenderTie d s r x (v.mailbox s.queue) l.requester l.responses) (sym (replaces.elsewhere s.queue none).0)
        (subst (λ x. SenderTie d s r (w.queue s.queue) x l.requester l.responses) (sym (replaces.elsewhere s.queue none).1) tied.sender)
    sender true here = subst (λ x. SenderTie d s r x (v.mailbox s.queue) l.requester l.responses) (sym (replaces.here s.queue here).0)
        (subst (λ x. SenderTie d s r (Present p) x l.requester l.responses) (sym (replaces.here s.queue here).1) (at (q.incarnation == s.incarnation) refl))
      where
        was : SenderTie d s r (Present q) (w.mailbox name) l.requester l.responses
        was = subst (λ x. SenderTie d s r x (w.mailbox name) l.requester l.responses) is (subst (λ n. SenderTie d s r (w.queue n) (w.mailbox n) l.requester l.responses) (sym (queue-path name s.queue here)) tied.sender)

        at : (b : Bool) → (q.incarnation == s.incarnation) ≡ b → SenderTie d s r (Present p) box l.requester l.responses
        at true e = sends (record { named = here; incarnation = ap incarnation_of is ∙ eqb-true q.incarnation s.incarnation e }) was
        at false e = other-sender d s r q p (w.mailbox name) box l.requester l.responses same (eqb-false q.incarnation s.incarnation e) was

    receiver : (b : Bool) → queue_eq name r.queue ≡ b → ReceiverTie d s r (v.queue r.queue) (v.mailbox r.queue) l.responder l.requests
    receiver false none = subst (λ x. ReceiverTie d s r x (v.mailbox r.queue) l.responder l.requests) (sym (replaces.elsewhere r.queue none).0)
        (subst (λ x. ReceiverTie d s r (w.queue r.queue) x l.responder l.requests) (sym (replaces.elsewhere r.queue none).1) tied.receiver)
    receiver true here = subst (λ x. ReceiverTie d s r x (v.mailbox r.queue) l.responder l.requests) (sym (replaces.here r.queue here).0)
        (subst (λ x. ReceiverTie d s r (Present p) x l.responder l.requests) (sym (replaces.here r.queue here).1) (at (q.incarnation == r.incarnation) refl))
      where
        was : ReceiverTie d s r (Present q) (w.mailbox name) l.responder l.requests
        was = subst (λ x. ReceiverTie d s r x (w.mailbox name) l.responder l.requests) is (subst (λ n. ReceiverTie d s r (w.queue n) (w.mailbox n) l.responder l.requests) (sym (queue-path name r.queue here)) tied.receiver)

        at : (b : Bool) → (q.incarnation == r.incarnation) ≡ b → ReceiverTie d s r (Present p) box l.responder l.requests
        at true e = receives (record { named = here; incarnation = ap incarnation_of is ∙ eqb-true q.incarnation r.incarnation e }) was
        at false e = other-receiver d s r q p (w.mailbox name) box l.responder l.requests same (eqb-false q.incarnation r.incarnation e) was

-- ---- queue pairs that stay as they are to a link

-- of which incarnation, peer, path MTU and responder are the same
pub record IsSameEnd (q p : QueuePair) : Type 0 where
  pub incarnation : p.incarnation ≡ q.incarnation
  pub peer : p.peer ≡ q.peer
  pub mtu : p.responder.mtu ≡ q.responder.mtu
  pub responder : responder_in p ≡ responder_in q

-- and all that is said of the requester still holds
pub record IsStill (d : Direction) (q p : QueuePair) : Type 0 where
  pub end : IsSameEnd q p
  pub requester : (x : Requester) → RequesterTie d q x → RequesterTie d p x

pub still-sender : (d : Direction) (s r : Correspondent) (q p : QueuePair) (m : Mailbox) (requester : Requester) (responses : List (Option Response)) → IsSameEnd q p → (q.responder.mtu ≡ d.mtu → RequesterTie d q requester → RequesterTie d p requester)
    → SenderTie d s r (Present q) m requester responses → SenderTie d s r (Present p) m requester responses
still-sender d s r q p m requester responses same still (sender_before is opens none) = sender_before (before-after s q p same.incarnation same.peer is) opens none
still-sender d s r q p m requester responses same still (sender_gone is none) = sender_gone (over-after s q p same.incarnation is) none
still-sender d s r q p m requester responses same still (sender_standing t paired own entries) =
    sender_standing p (paired-after d s r q p t same.incarnation same.peer (same.mtu ∙ ap (λ (x : QueuePair). x.responder.mtu) (present-same q t paired.present) ∙ paired.mtu) paired)
    (still (ap (λ (x : QueuePair). x.responder.mtu) (present-same q t paired.present) ∙ paired.mtu) (subst (λ x. RequesterTie d x requester) (sym (present-same q t paired.present)) own)) entries

pub still-receiver : (d : Direction) (s r : Correspondent) (q p : QueuePair) (m : Mailbox) (responder : Responder) (requests : List (Option RequestPacket)) → IsSameEnd q p → ReceiverTie d s r (Present q) m responder requests
    → ReceiverTie d s r (Present p) m responder requests
still-receiver d s r q p m responder requests same (receiver_before is opens none) = receiver_before (before-after r q p same.incarnation same.peer is) opens none
still-receiver d s r q p m responder requests same (receiver_gone is none) = receiver_gone (over-after r q p same.incarnation is) none
still-receiver d s r q p m responder requests same (receiver_standing t paired own entries) =
    receiver_standing p (paired-after d r s q p t same.incarnation same.peer (same.mtu ∙ ap (λ (x : QueuePair). x.responder.mtu) (present-same q t paired.present) ∙ paired.mtu) paired)
    (own ∙ ap responder_in (sym (present-same q t paired.present)) ∙ sym same.responder) entries

-- a change of one queue pair of which all is the same but its requester
pub tied-still : (d : Direction) (s r : Correspondent) (w v : World) (l : Link) (name : QueueId) (q p : QueuePair) → w.queue name ≡ Present q → IsSameEnd q p → (IsInLife w s name → q.responder.mtu ≡ d.mtu → RequesterTie d q l.requester → RequesterTie d p l.requester)
    → Replaces w name (Present p) (w.mailbox name) v → IsTied d s r w l → TiedAfter d s r w l (λ place. []) (λ place. []) v
tied-still d s r w v l name q p is same still replaces tied = tied-replaced d s r w v l name q p (w.mailbox name) is same.incarnation replaces
    (λ life. still-sender d s r q p (w.mailbox name) l.requester l.responses same (still life)) (λ life. still-receiver d s r q p (w.mailbox name) l.responder l.requests same) tied

-- what stands in a slot is the same, or a queue pair that stays so
pub data IsStillSlot (d : Direction) (a b : QueueSlot) : Type 0 where
  untouched : b ≡ a → IsStillSlot d a b
  touched : (q p : QueuePair) → a ≡ Present q → b ≡ Present p → IsStill d q p → IsStillSlot d a b

-- changes of queue pairs that stay so
pub tied-slots : (d : Direction) (s r : Correspondent) (w v : World) (l : Link) → ((n : QueueId) → IsStillSlot d (w.queue n) (v.queue n)) → v.mailbox ≡ w.mailbox → IsTied d s r w l → TiedAfter d s r w l (λ place. []) (λ place. []) v
tied-slots d s r w v l still mail tied = stays d s r w v l tied
    (subst (λ (f : QueueId → Mailbox). SenderTie d s r (v.queue s.queue) (f s.queue) l.requester l.responses) (sym mail) (sender (still s.queue)))
    (subst (λ (f : QueueId → Mailbox). ReceiverTie d s r (v.queue r.queue) (f r.queue) l.responder l.requests) (sym mail) (receiver (still r.queue)))
  where
    sender : IsStillSlot d (w.queue s.queue) (v.queue s.queue) → SenderTie d s r (v.queue s.queue) (w.mailbox s.queue) l.requester l.responses
    sender (untouched same) = subst (λ x. SenderTie d s r x (w.mailbox s.queue) l.requester l.responses) (sym same) tied.sender
    sender (touched q p a b own) = subst (λ x. SenderTie d s r x (w.mailbox s.queue) l.requester l.responses) (sym b)
        (still-sender d s r q p (w.mailbox s.queue) l.requester l.responses own.end (λ mtu. own.requester l.requester) (subst (λ x. SenderTie d s r x (w.mailbox s.queue) l.requester l.responses) a tied.sender))

    receiver : IsStillSlot d (w.queue r.queue) (v.queue r.queue) → ReceiverTie d s r (v.queue r.queue) (w.mailbox r.queue) l.responder l.requests
    receiver (untouched same) = subst (λ x. ReceiverTie d s r x (w.mailbox r.queue) l.responder l.requests) (sym same) tied.receiver
    receiver (touched q p a b own) = subst (λ x. ReceiverTie d s r x (w.mailbox r.queue) l.responder l.requests) (sym b)
        (still-receiver d s r q p (w.mailbox r.queue) l.responder l.requests own.end (subst (λ x. ReceiverTie d s r x (w.mailbox r.queue) l.responder l.requests) a tied.receiver))

-- a requester of which all that is said of it is the same
pub same-requester : (d : Direction) (q p : QueuePair) → p.state ≡ q.state → p.requester ≡ q.requester → items_from q.requester.oldest p.sends ≡ items_from q.requester.oldest q.sends → p.responder.mtu ≡ q.responder.mtu → (x : Requester)
    → RequesterTie d q x → RequesterTie d p x
same-requester d q p state requester items mtu x tie = record {
  fresh = λ is. tie.fresh (sym state ∙ is);
  sending = λ is. tie.sending (sym (ap is_sending state) ∙ is) ∙ ap (λ (r : RequesterNumbers). record { una = r.una; cursor = r.cursor }) (sym requester);
  laid = λ is. by (tie.laid (sym (ap is_sending state) ∙ is));
}
  where
    by : IsLaid d q → IsLaid d p
    by l = record {
      mtu = mtu ∙ l.mtu;
      begin = subst (λ (r : RequesterNumbers). r.oldest_psn ≡ first d r.oldest) (sym requester) l.begin;
      work = subst (λ (r : RequesterNumbers). IsWork d r.oldest (items_from r.oldest p.sends)) (sym requester) (subst (IsWork d q.requester.oldest) (sym items) l.work);
      passed = subst (λ (r : RequesterNumbers). r.oldest_psn ≤ r.una) (sym requester) l.passed;
    }
