-- A turn that sends a packet keeps a world tied to a calm link. For proofs only.
use Rattle.std.proofs.Common.{◌≡◌, ℕ, zero, suc, ◌-◌, ◌≤◌, true, false, if◌then◌else◌, List, [], ◌∷◌, take, Option, None, Some, is_some, refl, ap, ap₂, sym, subst, ◌∙◌, arith, true≢false}
use Rattle.ca_law_endings.specs.Agreement.{peer_in}
use Rattle.ca_base.specs.declared.correspondent.Correspondent.{Correspondent}
use Rattle.ca_base.specs.declared.limits.TheConstants.{KEPT_ENVELOPES}
use Rattle.ca_base.specs.declared.lot.Lot.TheVariants.{Pass}
use Rattle.ca_base.specs.declared.mail_envelope.MailEnvelope.{MailEnvelope}
use Rattle.ca_base.specs.objects.Mailbox.{Mailbox, after_send}
use Rattle.ca_base.specs.objects.QueuePair.{QueuePair, QueueSlot, Present, correspondent_of, incarnation_of}
use Rattle.ca_connection.specs.Layout.{Direction}
use Rattle.ca_connection.specs.Link.{Link, RequestPacket, Requester, Responder, Response}
use Rattle.ca_connection.specs.Link.NakReason.{RemoteAccessError}
use Rattle.ca_connection.specs.Link.Response.{Nak}
use Rattle.ca_connection.specs.Moves.{after_request, after_response, rest_of}
use Rattle.ca_connection.specs.Calm.{CalmLink, Standing}
use Rattle.ca_connection.specs.Calm.Standing.{Closed}
use Rattle.ca_connection.specs.CalmMoves.{after_other_request, after_other_response}
use Rattle.ca_connection.specs.CalmMoves.CalmMove.{deny, other_request, other_response, respond, send}
use Rattle.ca_keys.specs.Equal.{queue_eq}
use Rattle.ca_keys.specs.declared.names.QueueId.{QueueId}
use Rattle.ca_law_world.proofs.Sound.SettledLemmas.{queue-path, queue-refl}
use Rattle.ca_model.specs.machine.Invariants.{IsMailbox, is_connected, is_sending}
use Rattle.ca_model.specs.machine.Row.{Effects}
use Rattle.ca_model.specs.machine.Turns.{reaches_peer}
use Rattle.ca_model.specs.machine.World.{World}
use Rattle.ca_law_lossless.specs.Standing.{AnswersCalmly, IsNoRnrNak, RespondsCalmly, SpellsPlainly, StandsIn}
use Rattle.ca_law_lossless.specs.Standing.AnswersCalmly.{front, denied}
use Rattle.ca_law_once.proofs.Ties.DeliverLemmas.{before-rtr, before-sending, paired-after, present-same}
use Rattle.ca_law_once.proofs.Ties.SendLemmas.{Spells, no-path-before}
use Rattle.ca_law_once.proofs.Ties.SentTies.{IsSent, apart-back, box-else, box-here, foreign-box, is-life, is-peer, is-strange, mtu-of, path-leads, slot-else, slot-here}
use Rattle.ca_law_once.specs.Ties.{AreEntries, IsBefore, IsPaired, IsTied}
use Rattle.ca_law_lossless.proofs.EndLemmas.{IsKept, ReceiverEnd, SameLife, before-back, before-connected, cursor-from, cursor-still, forgotten, kept-of, moved, paired-back, receiver-at, responder-same, sender-at, sending-connected, stands-same, unpaired-before}
use Rattle.ca_law_lossless.proofs.MailLemmas.{fresh-sent}
use Rattle.ca_law_lossless.specs.CalmTies.{CalmAfter, CursorGoesOn, HasReceiver, HasSender, IsCalmlyTied, ReceiverCalm, SenderCalm}
use Rattle.ca_law_once.proofs.Rows.ForgetLemmas.{Forgets}
use Rattle.ca_law_once.specs.Entries.{SpellsRequest, SpellsSomeRequest, SpellsSomeResponse}
use Rattle.ca_law_once.specs.Moves.{SendsIn}
use Rattle.ca_law_once.specs.Sides.{requester_in, responder_in}

-- ---- one envelope more

take-entries : {X : Type 0} (Own : X → List ℕ → Type 0) (Other : List ℕ → Type 0) (k : ℕ) (es : List MailEnvelope) (xs : List (Option X)) → AreEntries Own Other es xs → AreEntries Own Other (take k es) xs
take-entries Own Other zero es xs entries = record {}
take-entries Own Other (suc k) [] xs entries = record {}
take-entries Own Other (suc k) (m ∷ ms) [] entries = absurd entries
take-entries Own Other (suc k) (m ∷ ms) (None ∷ xs) entries = (entries.0, take-entries Own Other k ms xs entries.1)
take-entries Own Other (suc k) (m ∷ ms) (Some x ∷ xs) entries = (entries.0, take-entries Own Other k ms xs entries.1)

more-entries : {X : Type 0} (Own : X → List ℕ → Type 0) (Other : List ℕ → Type 0) (bytes : List ℕ) (m : Mailbox) (o : Option X) (xs : List (Option X)) → Spells Own Other o bytes
    → AreEntries Own Other m.envelopes xs → AreEntries Own Other (after_send Pass bytes m).envelopes (o ∷ xs)
more-entries Own Other bytes m None xs spells entries = (spells, take-entries Own Other (KEPT_ENVELOPES - 1) m.envelopes xs entries)
more-entries Own Other bytes m (Some x) xs spells entries = (spells, take-entries Own Other (KEPT_ENVELOPES - 1) m.envelopes xs entries)

-- the life that receives, to which a path leads
grown-receiver : (d : Direction) (s r : Correspondent) (slot : QueueSlot) (m : Mailbox) (responder : Responder) (requests : List (Option RequestPacket)) (k : ℕ) (standing : Standing) (bytes : List ℕ) (o : Option RequestPacket) → IsMailbox m
    → (incarnation_of slot ≡ r.incarnation) × (peer_in slot ≡ Some s) → Spells (SpellsRequest d) SpellsSomeResponse o bytes → ReceiverCalm d s r slot m responder requests k standing
    → ReceiverCalm d s r slot (after_send Pass bytes m) responder (o ∷ requests) (suc k) standing
grown-receiver d s r slot m responder requests k standing bytes o box path spells tie = record {
  before = λ is. absurd (no-path-before r s slot is path.0 path.1);
  unnamed = tie.unnamed;
  paired = λ t is. let has = tie.paired t is in record {
    same = has.same;
    entries = more-entries (SpellsRequest d) SpellsSomeResponse bytes m o requests spells has.entries;
    fresh = fresh-sent k m bytes box has.fresh;
    stands = has.stands;
  };
}

grown-sender : (d : Direction) (s r : Correspondent) (slot : QueueSlot) (m : Mailbox) (requester : Requester) (responses : List (Option Response)) (k : ℕ) (bytes : List ℕ) (o : Option Response) → IsMailbox m
    → (incarnation_of slot ≡ s.incarnation) × (peer_in slot ≡ Some r) → Spells SpellsPlainly SpellsSomeRequest o bytes → SenderCalm d s r slot m requester responses k
    → SenderCalm d s r slot (after_send Pass bytes m) requester (o ∷ responses) (suc k)
grown-sender d s r slot m requester responses k bytes o box path spells tie = record {
  before = λ is. absurd (no-path-before s r slot is path.0 path.1);
  paired = λ t is connected. let has = tie.paired t is connected in record {
    opens = has.opens;
    sending = has.sending;
    entries = more-entries SpellsPlainly SpellsSomeRequest bytes m o responses spells has.entries;
    fresh = fresh-sent k m bytes box has.fresh;
  };
}

-- a mailbox of which a standing life keeps what it had
boxed-receiver : (d : Direction) (s r : Correspondent) (slot : QueueSlot) (m box : Mailbox) (responder : Responder) (requests : List (Option RequestPacket)) (k : ℕ) (standing : Standing) → ((t : QueuePair) → IsPaired d r s slot t → box ≡ m)
    → ReceiverCalm d s r slot m responder requests k standing → ReceiverCalm d s r slot box responder requests k standing
boxed-receiver d s r slot m box responder requests k standing same tie = record {
  before = tie.before;
  unnamed = tie.unnamed;
  paired = λ t is. subst (λ x. HasReceiver d t x responder requests k standing) (sym (same t is)) (tie.paired t is);
}

boxed-sender : (d : Direction) (s r : Correspondent) (slot : QueueSlot) (m box : Mailbox) (requester : Requester) (responses : List (Option Response)) (k : ℕ) → ((t : QueuePair) → IsPaired d s r slot t → box ≡ m)
    → SenderCalm d s r slot m requester responses k → SenderCalm d s r slot box requester responses k
boxed-sender d s r slot m box requester responses k same tie = record {
  before = tie.before;
  paired = λ t is connected. subst (λ x. HasSender d t x requester responses k) (sym (same t is)) (tie.paired t is connected);
}

-- ---- what is sent

pub record IsCalmlySent (w v : World) (name : QueueId) (q : QueuePair) (p : Correspondent) (e : Effects) : Type 0 where
  pub sent : IsSent w v name q p Pass e.spelt e
  pub life : SameLife q e.queue
  pub box : (n : QueueId) → IsMailbox (w.mailbox n)
  pub path : reaches_peer q p (w.mailbox p.queue) ≡ true

module _ (d : Direction) (s r : Correspondent) (w v : World) (l : Link) (k : CalmLink) (name : QueueId) (q : QueuePair) (p : Correspondent) (e : Effects) (x : IsCalmlySent w v name q p e) (tied : IsTied d s r w l) (calmly : IsCalmlyTied d s r w k) where
  y : IsSent w v name q p Pass e.spelt e
  y = x.sent

  kept : IsKept d k
  kept = kept-of d s r w k calmly

  named : e.queue.peer ≡ None → ⊥
  named none = true≢false (sym (ap is_some (sym (sym y.peer ∙ none) ∙ y.names)))

  -- a link, and both ends of it
  assembled : (new : CalmLink) → IsKept d new → SenderCalm d s r (v.queue s.queue) (v.mailbox s.queue) new.link.requester new.link.responses new.responses
      → ReceiverCalm d s r (v.queue r.queue) (v.mailbox r.queue) new.link.responder new.link.requests new.requests new.standing → CursorGoesOn s w v → CalmAfter d s r w v
  assembled new is sender receiver cursor = record { link = new; tied = record { reached = is.reached; calm = is.calm; sender = sender; receiver = receiver }; cursor = cursor }

  receiver-else : queue_eq name r.queue ≡ false → (correspondent_of q ≡ s → ⊥) → ReceiverCalm d s r (v.queue r.queue) (v.mailbox r.queue) k.link.responder k.link.requests k.requests k.standing
  receiver-else is strange = subst (λ z. ReceiverCalm d s r z (v.mailbox r.queue) k.link.responder k.link.requests k.requests k.standing) (sym (slot-else w v name r.queue q p Pass e.spelt e y is))
      (boxed-receiver d s r (w.queue r.queue) (w.mailbox r.queue) (v.mailbox r.queue) k.link.responder k.link.requests k.requests k.standing (λ t paired. foreign-box d w v name q p Pass e.spelt e r s y strange t paired) calmly.receiver)

  sender-else : queue_eq name s.queue ≡ false → (correspondent_of q ≡ r → ⊥) → SenderCalm d s r (v.queue s.queue) (v.mailbox s.queue) k.link.requester k.link.responses k.responses
  sender-else is strange = subst (λ z. SenderCalm d s r z (v.mailbox s.queue) k.link.requester k.link.responses k.responses) (sym (slot-else w v name s.queue q p Pass e.spelt e y is))
      (boxed-sender d s r (w.queue s.queue) (w.mailbox s.queue) (v.mailbox s.queue) k.link.requester k.link.responses k.responses (λ t paired. foreign-box d w v name q p Pass e.spelt e s r y strange t paired) calmly.sender)

  -- another life than the one that receives, in its slot
  receiver-other : queue_eq name r.queue ≡ true → ((t : QueuePair) → IsPaired d r s (Present q) t → ⊥) → ReceiverCalm d s r (v.queue r.queue) (v.mailbox r.queue) k.link.responder k.link.requests k.requests k.standing
  receiver-other here none = subst (λ z. ReceiverCalm d s r z (v.mailbox r.queue) k.link.responder k.link.requests k.requests k.standing) (sym (slot-here w v name r.queue q p Pass e.spelt e y here)) (record {
    before = λ is. calmly.receiver.before (subst (IsBefore r) (sym y.there.is ∙ ap w.queue (queue-path name r.queue here)) (before-back r q e.queue x.life is));
    unnamed = λ t is nobody. absurd (named (ap (λ (z : QueuePair). z.peer) (present-same e.queue t is) ∙ nobody));
    paired = λ t paired. absurd (none q (paired-back d r s q e.queue t x.life paired));
  })

  sender-other : queue_eq name s.queue ≡ true → ((t : QueuePair) → IsPaired d s r (Present q) t → ⊥) → SenderCalm d s r (v.queue s.queue) (v.mailbox s.queue) k.link.requester k.link.responses k.responses
  sender-other here none = subst (λ z. SenderCalm d s r z (v.mailbox s.queue) k.link.requester k.link.responses k.responses) (sym (slot-here w v name s.queue q p Pass e.spelt e y here)) (record {
    before = λ is. calmly.sender.before (subst (IsBefore s) (sym y.there.is ∙ ap w.queue (queue-path name s.queue here)) (before-back s q e.queue x.life is));
    paired = λ t paired connected. absurd (none q (paired-back d s r q e.queue t x.life paired));
  })

  -- the requester's cursor, where the queue pair is no life that sends
  cursor-other : queue_eq name s.queue ≡ true → (correspondent_of q ≡ s → ⊥) → CursorGoesOn s w v
  cursor-other here strange = cursor-from s w v q e.queue (ap w.queue (sym (queue-path name s.queue here)) ∙ y.there.is) (slot-here w v name s.queue q p Pass e.spelt e y here)
      (λ own begun. absurd (strange (ap₂ (λ a b. record { queue = a; incarnation = b }) (y.there.named ∙ queue-path name s.queue here) own)))

  cursor-else : queue_eq name s.queue ≡ false → CursorGoesOn s w v
  cursor-else none = cursor-still s w v (slot-else w v name s.queue q p Pass e.spelt e y none)

  -- neither of the two lives sends
  pub third : queue_eq name r.queue ≡ false → queue_eq name s.queue ≡ false → CalmAfter d s r w v
  third not_r not_s = assembled k kept (sender-else not_s (is-strange w v name q p Pass e.spelt e r y not_r)) (receiver-else not_r (is-strange w v name q p Pass e.spelt e s y not_s)) (cursor-else not_s)

  pub receiver-unpaired : queue_eq name r.queue ≡ true → queue_eq name s.queue ≡ false → (correspondent_of q ≡ r → ⊥) → ((t : QueuePair) → IsPaired d r s (Present q) t → ⊥) → CalmAfter d s r w v
  receiver-unpaired here there strange none = assembled k kept (sender-else there strange) (receiver-other here none) (cursor-else there)

  pub sender-unpaired : queue_eq name s.queue ≡ true → queue_eq name r.queue ≡ false → (correspondent_of q ≡ s → ⊥) → ((t : QueuePair) → IsPaired d s r (Present q) t → ⊥) → CalmAfter d s r w v
  sender-unpaired here there strange none = assembled k kept (sender-other here none) (receiver-else there strange) (cursor-other here strange)

  -- the life that receives stands there: what it sends comes to the life that sends
  module _ (here : queue_eq name r.queue ≡ true) (there : queue_eq name s.queue ≡ false) (t : QueuePair) (paired : IsPaired d r s (Present q) t) where
    to_s : p ≡ s
    to_s = is-peer d q t p r s y.names paired

    pub mtu_r : q.responder.mtu ≡ d.mtu
    mtu_r = mtu-of d q t r s paired

    own_r : IsPaired d r s (Present q) q
    own_r = paired-after d r s q q t refl refl mtu_r paired

    pub has_r : HasReceiver d q (w.mailbox r.queue) k.link.responder k.link.requests k.requests k.standing
    has_r = calmly.receiver.paired q (subst (λ z. IsPaired d r s z q) (sym (ap w.queue (sym (queue-path name r.queue here)) ∙ y.there.is)) own_r)

    path_s : (incarnation_of (w.queue s.queue) ≡ s.incarnation) × (peer_in (w.queue s.queue) ≡ Some r)
    path_s = let leads = path-leads w q p y.follows x.path in (
      ap (λ (z : Correspondent). incarnation_of (w.queue z.queue)) (sym to_s) ∙ leads.0 ∙ ap (λ (z : Correspondent). z.incarnation) to_s,
      ap (λ (z : Correspondent). peer_in (w.queue z.queue)) (sym to_s) ∙ leads.1 ∙ ap (λ z. Some z) (is-life d w name q t r s y.there here paired),
    )

    -- the mailbox at the life that sends
    sent-there : (o : Option Response) (requester : Requester) (responses : List (Option Response)) (n : ℕ) → Spells SpellsPlainly SpellsSomeRequest o e.spelt → SenderCalm d s r (w.queue s.queue) (w.mailbox s.queue) requester responses n
        → SenderCalm d s r (v.queue s.queue) (v.mailbox s.queue) requester (o ∷ responses) (suc n)
    sent-there o requester responses n spells tie = sender-at d s r (w.queue s.queue) (v.queue s.queue) (after_send Pass e.spelt (w.mailbox s.queue)) (v.mailbox s.queue) requester (o ∷ responses) (suc n)
        (slot-else w v name s.queue q p Pass e.spelt e y there)
        (box-here w v name s.queue q p Pass e.spelt e y (ap (λ (z : Correspondent). queue_eq z.queue s.queue) to_s ∙ queue-refl s.queue) ∙ ap (λ b. if b then after_send Pass e.spelt (w.mailbox s.queue) else w.mailbox s.queue) x.path)
        (grown-sender d s r (w.queue s.queue) (w.mailbox s.queue) requester responses n e.spelt o (x.box s.queue) path_s spells tie)

    box_r : v.mailbox r.queue ≡ w.mailbox r.queue
    box_r = box-else w v name r.queue q p Pass e.spelt e y (ap (λ (z : Correspondent). queue_eq z.queue r.queue) to_s ∙ tied.apart)

    at_r : (responder : Responder) (requests : List (Option RequestPacket)) (n : ℕ) (standing : Standing) → ReceiverCalm d s r (Present e.queue) (w.mailbox r.queue) responder requests n standing
        → ReceiverCalm d s r (v.queue r.queue) (v.mailbox r.queue) responder requests n standing
    at_r responder requests n standing tie = receiver-at d s r (Present e.queue) (v.queue r.queue) (w.mailbox r.queue) (v.mailbox r.queue) responder requests n standing (slot-here w v name r.queue q p Pass e.spelt e y here) box_r tie

    -- a packet of a request of the other direction
    pub receiver-requests : Forgets q e.queue → SpellsSomeRequest e.spelt → CalmAfter d s r w v
    receiver-requests forgets spells = assembled new (moved d end.link new end.kept other_response)
        (sent-there None end.link.link.requester end.link.link.responses end.link.responses spells
        (subst (λ z. SenderCalm d s r (w.queue s.queue) (w.mailbox s.queue) z end.link.link.responses end.link.responses) (sym end.requester_is)
        (subst (λ z. SenderCalm d s r (w.queue s.queue) (w.mailbox s.queue) k.link.requester z end.link.responses) (sym end.responses_are)
        (subst (λ z. SenderCalm d s r (w.queue s.queue) (w.mailbox s.queue) k.link.requester k.link.responses z) (sym end.count_is) calmly.sender))))
        (at_r end.link.link.responder end.link.link.requests end.link.requests end.link.standing end.tie) (cursor-else there)
      where
        end : ReceiverEnd d s r k (Present e.queue) (w.mailbox r.queue)
        end = forgotten d s r k q e.queue (w.mailbox r.queue) (w.mailbox r.queue) kept x.life forgets own_r has_r.entries has_r.fresh has_r.same has_r.stands named

        new : CalmLink
        new = record end.link { link = after_other_response end.link.link; responses = suc end.link.responses }

    -- the receiver's end after it answered
    answered : (responder : Responder) (standing : Standing) → responder ≡ responder_in e.queue → StandsIn standing e.queue → ReceiverCalm d s r (v.queue r.queue) (v.mailbox r.queue) responder k.link.requests k.requests standing
    answered responder standing same stands = at_r responder k.link.requests k.requests standing (record {
      before = λ is. absurd (unpaired-before d r s (Present q) q (before-back r q e.queue x.life is) own_r);
      unnamed = λ t is none. absurd (named (ap (λ (z : QueuePair). z.peer) (present-same e.queue t is) ∙ none));
      paired = λ t is. subst (λ z. HasReceiver d z (w.mailbox r.queue) responder k.link.requests k.requests standing) (present-same e.queue t is.present)
          (record { same = same; entries = has_r.entries; fresh = has_r.fresh; stands = stands });
    })

    -- a response
    pub receiver-responds : RespondsCalmly d q e → IsNoRnrNak e.spelt → CalmAfter d s r w v
    receiver-responds does plain = by does.answers
      where
        expected : k.link.responder.expected ≡ e.queue.responder.expected
        expected = ap (λ (z : Responder). z.expected) has_r.same ∙ sym does.expected

        by : AnswersCalmly d q e → CalmAfter d s r w v
        by (front a rest is left spells state flag) = assembled new (moved d k new kept (respond a rest (ap (λ (z : Responder). z.queue) has_r.same ∙ is)))
            (sent-there (Some a) k.link.requester k.link.responses k.responses (spells plain) calmly.sender)
            (answered new.link.responder k.standing (responder-same _ _ _ _ _ _ expected (sym left) (ap (λ (z : Responder). z.results) has_r.same ∙ sym does.results))
            (stands-same k.standing q e.queue (ap is_connected state) flag has_r.stands)) (cursor-else there)
          where
            new : CalmLink
            new = record k { link = after_response k.link a (rest_of d.mtu a rest) None (Some a ∷ k.link.responses); responses = suc k.responses }
        by (denied n left place rest is number none spells closed) = assembled new (moved d k new kept (deny n left place rest (ap (λ (z : Responder). z.queue) has_r.same ∙ is) number))
            (sent-there (Some (Nak RemoteAccessError n)) k.link.requester k.link.responses k.responses spells calmly.sender)
            (answered new.link.responder Closed (responder-same _ _ _ _ _ _ expected (sym none) (ap (λ (z : Responder). z.results) has_r.same ∙ sym does.results)) closed) (cursor-else there)
          where
            new : CalmLink
            new = record k {
              link = after_response k.link (Nak RemoteAccessError n) [] (Some (record { number = n; place = place; code = RemoteAccessError })) (Some (Nak RemoteAccessError n) ∷ k.link.responses);
              responses = suc k.responses;
              standing = Closed;
            }

  -- the life that sends stands there: what it sends comes to the life that receives
  module _ (here : queue_eq name s.queue ≡ true) (there : queue_eq name r.queue ≡ false) (t : QueuePair) (paired : IsPaired d s r (Present q) t) where
    to_r : p ≡ r
    to_r = is-peer d q t p s r y.names paired

    own_s : IsPaired d s r (Present q) q
    own_s = paired-after d s r q q t refl refl (mtu-of d q t s r paired) paired

    has_s : is_connected q.state ≡ true → HasSender d q (w.mailbox s.queue) k.link.requester k.link.responses k.responses
    has_s connected = calmly.sender.paired q (subst (λ z. IsPaired d s r z q) (sym (ap w.queue (sym (queue-path name s.queue here)) ∙ y.there.is)) own_s) connected

    path_r : (incarnation_of (w.queue r.queue) ≡ r.incarnation) × (peer_in (w.queue r.queue) ≡ Some s)
    path_r = let leads = path-leads w q p y.follows x.path in (
      ap (λ (z : Correspondent). incarnation_of (w.queue z.queue)) (sym to_r) ∙ leads.0 ∙ ap (λ (z : Correspondent). z.incarnation) to_r,
      ap (λ (z : Correspondent). peer_in (w.queue z.queue)) (sym to_r) ∙ leads.1 ∙ ap (λ z. Some z) (is-life d w name q t s r y.there here paired),
    )

    sent-away : (o : Option RequestPacket) → Spells (SpellsRequest d) SpellsSomeResponse o e.spelt → ReceiverCalm d s r (v.queue r.queue) (v.mailbox r.queue) k.link.responder (o ∷ k.link.requests) (suc k.requests) k.standing
    sent-away o spells = receiver-at d s r (w.queue r.queue) (v.queue r.queue) (after_send Pass e.spelt (w.mailbox r.queue)) (v.mailbox r.queue) k.link.responder (o ∷ k.link.requests) (suc k.requests) k.standing
        (slot-else w v name r.queue q p Pass e.spelt e y there)
        (box-here w v name r.queue q p Pass e.spelt e y (ap (λ (z : Correspondent). queue_eq z.queue r.queue) to_r ∙ queue-refl r.queue) ∙ ap (λ b. if b then after_send Pass e.spelt (w.mailbox r.queue) else w.mailbox r.queue) x.path)
        (grown-receiver d s r (w.queue r.queue) (w.mailbox r.queue) k.link.responder k.link.requests k.requests k.standing e.spelt o (x.box r.queue) path_r spells calmly.receiver)

    at_s : (requester : Requester) → (is_connected e.queue.state ≡ true → HasSender d e.queue (w.mailbox s.queue) requester k.link.responses k.responses) → SenderCalm d s r (v.queue s.queue) (v.mailbox s.queue) requester k.link.responses k.responses
    at_s requester has = sender-at d s r (Present e.queue) (v.queue s.queue) (w.mailbox s.queue) (v.mailbox s.queue) requester k.link.responses k.responses (slot-here w v name s.queue q p Pass e.spelt e y here)
        (box-else w v name s.queue q p Pass e.spelt e y (ap (λ (z : Correspondent). queue_eq z.queue s.queue) to_r ∙ apart-back s.queue r.queue tied.apart)) (record {
          before = λ is. absurd (unpaired-before d s r (Present q) q (before-back s q e.queue x.life is) own_s);
          paired = λ t is connected. subst (λ z. HasSender d z (w.mailbox s.queue) requester k.link.responses k.responses) (present-same e.queue t is.present)
              (has (ap (λ (z : QueuePair). is_connected z.state) (present-same e.queue t is.present) ∙ connected));
        })

    cursor_s : q.requester.cursor ≤ e.queue.requester.cursor → CursorGoesOn s w v
    cursor_s on = cursor-from s w v q e.queue (ap w.queue (sym (queue-path name s.queue here)) ∙ y.there.is) (slot-here w v name s.queue q p Pass e.spelt e y here) (λ own begun. on)

    -- a packet of a request
    pub sender-requests : (place : ℕ) → is_sending q.state ≡ true → SendsIn d (requester_in q) place e → CalmAfter d s r w v
    sender-requests place sending goes = assembled new (moved d k new kept (send place (record { number = does.number; room = does.room }) does.few))
        (at_s new.link.requester (λ connected. record {
          opens = λ rtr. absurd (true≢false (sym sending ∙ ap is_sending (before-rtr q e y.state rtr)));
          sending = λ sends. ap₂ (λ a b. record { una = a; cursor = b }) (sym does.una) (sym does.cursor);
          entries = has.entries;
          fresh = has.fresh;
        })) (sent-away (Some (record { number = k.link.requester.cursor; place = place })) does.spells) (cursor_s (omega (arith, goes.cursor)))
      where
        has : HasSender d q (w.mailbox s.queue) k.link.requester k.link.responses k.responses
        has = has_s (sending-connected q.state sending)

        does : SendsIn d k.link.requester place e
        does = subst (λ z. SendsIn d z place e) (sym (has.sending sending)) goes

        new : CalmLink
        new = record k {
          link = after_request d place k.link (Some (record { number = k.link.requester.cursor; place = place }) ∷ k.link.requests);
          requests = suc k.requests;
        }

    -- a response of the other direction
    pub sender-responds : requester_in e.queue ≡ requester_in q → SpellsSomeResponse e.spelt → CalmAfter d s r w v
    sender-responds same spells = assembled new (moved d k new kept other_request)
        (at_s k.link.requester (λ connected. let has = has_s (before-connected q e y.state connected) in record {
          opens = λ rtr. has.opens (before-rtr q e y.state rtr);
          sending = λ sends. has.sending (before-sending q e y.state sends) ∙ sym same;
          entries = has.entries;
          fresh = has.fresh;
        })) (sent-away None spells) (cursor_s (omega (arith, ap (λ (z : Requester). z.cursor) same)))
      where
        new : CalmLink
        new = record k { link = after_other_request k.link; requests = suc k.requests }
