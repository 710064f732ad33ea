-- The two ends of a calm link, each by itself: what leaves them, and how they are put together. For proofs only.
use Rattle.std.proofs.Common.{◌≡◌, ℕ, ◌≤◌, inl, inr, true, false, List, [], Option, None, is_some, map, refl, ap, ap₂, sym, subst, ◌∙◌, arith, true≢false}
use Rattle.ca_law_endings.specs.Agreement.{peer_in}
use Rattle.ca_base.specs.declared.change.State.{State}
use Rattle.ca_base.specs.declared.change.State.TheVariants as states
use Rattle.ca_base.specs.declared.correspondent.Correspondent.{Correspondent}
use Rattle.ca_base.specs.declared.queue_numbers.ResponderNumbers.{ResponderNumbers}
use Rattle.ca_base.specs.declared.saved_result.SavedResult.{SavedResult as KeptResult}
use Rattle.ca_base.specs.objects.Mailbox.{Mailbox}
use Rattle.ca_base.specs.objects.QueuePair.{QueuePair, QueueSlot, Present, incarnation_of, is_present}
use Rattle.ca_connection.specs.Layout.{Direction}
use Rattle.ca_connection.specs.Link.{RequestPacket, Requester, Responder, Response, SavedResult}
use Rattle.ca_connection.specs.Moves.{Reached}
use Rattle.ca_connection.proofs.CalmLemmas.{calm-move}
use Rattle.ca_connection.proofs.LinkLemmas.{calm-link}
use Rattle.ca_connection.specs.Calm.{CalmLink, IsCalm, Standing}
use Rattle.ca_connection.specs.Calm.Standing.{Accepting, Waiting, Closed}
use Rattle.ca_connection.specs.CalmMoves.{CalmMove, after_loss}
use Rattle.ca_connection.specs.CalmMoves.CalmMove.{close}
use Rattle.ca_model.specs.machine.Invariants.{is_connected, is_fresh, is_sending}
use Rattle.ca_model.specs.machine.Row.{Effects}
use Rattle.ca_model.specs.machine.World.{World}
use Rattle.ca_law_lossless.specs.Standing.{SpellsPlainly, StandsIn}
use Rattle.ca_law_once.proofs.Ties.DeliverLemmas.{before-after, present-same}
use Rattle.ca_law_once.specs.Ties.{AreEntries, IsBefore, IsOver, IsPaired}
use Rattle.ca_law_once.specs.Ties.IsBefore.{sooner, unnamed}
use Rattle.ca_law_once.specs.Ties.IsOver.{later, vacant}
use Rattle.ca_law_lossless.specs.CalmTies.{AreFresh, CalmAfter, CursorGoesOn, HasReceiver, HasSender, IsCalmlyTied, ReceiverCalm, SenderCalm}
use Rattle.ca_law_once.proofs.Rows.ForgetLemmas.{Forgets, IsSameResponder}
use Rattle.ca_law_once.proofs.Rows.ForgetLemmas.Forgets.{stays, emptied}
use Rattle.ca_law_once.specs.Entries.{SpellsRequest, SpellsSomeRequest, SpellsSomeResponse}
use Rattle.ca_law_once.specs.Moves.{LeavesState}
use Rattle.ca_law_once.specs.Sides.{kept_result, requester_in, responder_in, said}

-- ---- lives that are not paired

pub unpaired-before : (d : Direction) (life peer : Correspondent) (slot : QueueSlot) (t : QueuePair) → IsBefore life slot → IsPaired d life peer slot t → ⊥
unpaired-before d life peer slot t (sooner less) paired = omega (arith, less, ap incarnation_of paired.present, paired.incarnation)
unpaired-before d life peer slot t (unnamed q is own none) paired = true≢false (sym (ap is_some (sym (ap peer_in is ∙ none) ∙ ap peer_in paired.present ∙ paired.names)))

pub unpaired-over : (d : Direction) (life peer : Correspondent) (slot : QueueSlot) (t : QueuePair) → IsOver life slot → IsPaired d life peer slot t → ⊥
unpaired-over d life peer slot t (later more) paired = omega (arith, more, ap incarnation_of paired.present, paired.incarnation)
unpaired-over d life peer slot t (vacant none own) paired = true≢false (sym (ap is_present paired.present) ∙ none)

-- ---- changes of a queue pair that leave its life

pub record SameLife (q p : QueuePair) : Type 0 where
  pub incarnation : p.incarnation ≡ q.incarnation
  pub peer : p.peer ≡ q.peer
  pub mtu : p.responder.mtu ≡ q.responder.mtu

pub paired-back : (d : Direction) (life peer : Correspondent) (q p t : QueuePair) → SameLife q p → IsPaired d life peer (Present p) t → IsPaired d life peer (Present q) q
paired-back d life peer q p t same paired = record {
  present = refl;
  incarnation = sym same.incarnation ∙ ap (λ (x : QueuePair). x.incarnation) (present-same p t paired.present) ∙ paired.incarnation;
  names = sym same.peer ∙ ap (λ (x : QueuePair). x.peer) (present-same p t paired.present) ∙ paired.names;
  mtu = sym same.mtu ∙ ap (λ (x : QueuePair). x.responder.mtu) (present-same p t paired.present) ∙ paired.mtu;
}

pub before-back : (life : Correspondent) (q p : QueuePair) → SameLife q p → IsBefore life (Present p) → IsBefore life (Present q)
before-back life q p same is = before-after life p q (sym same.incarnation) (sym same.peer) is

pub same-life : (q : QueuePair) → SameLife q q
same-life q = record { incarnation = refl; peer = refl; mtu = refl }

pub stands-same : (standing : Standing) (q p : QueuePair) → is_connected p.state ≡ is_connected q.state → p.responder.nak_sent ≡ q.responder.nak_sent → StandsIn standing q → StandsIn standing p
stands-same Accepting q p connected flag stands = (connected ∙ stands.0, flag ∙ stands.1)
stands-same Waiting q p connected flag stands = (connected ∙ stands.0, flag ∙ stands.1)
stands-same Closed q p connected flag stands = connected ∙ stands

-- ---- a queue pair that receives and stays as it is

pub record KeepsReceiver (q p : QueuePair) : Type 0 where
  pub life : SameLife q p
  pub responder : responder_in p ≡ responder_in q
  pub connected : is_connected p.state ≡ is_connected q.state
  pub flag : p.responder.nak_sent ≡ q.responder.nak_sent

pub keeps-has : (d : Direction) (q p : QueuePair) (m box : Mailbox) (responder : Responder) (requests : List (Option RequestPacket)) (k : ℕ) (standing : Standing) → KeepsReceiver q p → box.envelopes ≡ m.envelopes
    → HasReceiver d q m responder requests k standing → HasReceiver d p box responder requests k standing
keeps-has d q p m box responder requests k standing keeps mail has = record {
  same = has.same ∙ sym keeps.responder;
  entries = subst (λ es. AreEntries (SpellsRequest d) SpellsSomeResponse es requests) (sym mail) has.entries;
  fresh = subst (AreFresh k) (sym mail) has.fresh;
  stands = stands-same standing q p keeps.connected keeps.flag has.stands;
}

-- a life's end is told by the queue pair that stands there
pub receiver-of : (d : Direction) (s r : Correspondent) (q p : QueuePair) (m box : Mailbox) (responder next : Responder) (requests more : List (Option RequestPacket)) (k j : ℕ) (standing after_is : Standing) → SameLife q p
    → ReceiverCalm d s r (Present q) m responder requests k standing
    → (IsBefore r (Present q) → (next ≡ responder) × (more ≡ requests) × (j ≡ k) × (after_is ≡ standing)) → (p.peer ≡ None → p.responder.nak_sent ≡ q.responder.nak_sent)
    → (IsPaired d r s (Present q) q → HasReceiver d p box next more j after_is) → ReceiverCalm d s r (Present p) box next more j after_is
receiver-of d s r q p m box responder next requests more k j standing after_is same tie before flag paired = record {
  before = λ is. let back = before-back r q p same is in let was = tie.before back in let now = before back in (now.0 ∙ was.0, now.1 ∙ was.1, now.2 ∙ was.2, now.3 ∙ was.3);
  unnamed = λ t is none. ap (λ (x : QueuePair). x.responder.nak_sent) (sym (present-same p t is)) ∙ flag (ap (λ (x : QueuePair). x.peer) (present-same p t is) ∙ none)
      ∙ tie.unnamed q refl (sym same.peer ∙ ap (λ (x : QueuePair). x.peer) (present-same p t is) ∙ none);
  paired = λ t is. subst (λ x. HasReceiver d x box next more j after_is) (present-same p t is.present) (paired (paired-back d r s q p t same is));
}

pub still-receiver : (d : Direction) (s r : Correspondent) (q p : QueuePair) (m box : Mailbox) (responder : Responder) (requests : List (Option RequestPacket)) (k : ℕ) (standing : Standing) → KeepsReceiver q p → box.envelopes ≡ m.envelopes
    → ReceiverCalm d s r (Present q) m responder requests k standing → ReceiverCalm d s r (Present p) box responder requests k standing
still-receiver d s r q p m box responder requests k standing keeps mail tie = receiver-of d s r q p m box responder responder requests requests k k standing standing keeps.life tie (λ is. (refl, refl, refl, refl)) (λ none. keeps.flag)
    (λ paired. keeps-has d q p m box responder requests k standing keeps mail (tie.paired q paired))

-- ---- a queue pair that sends and stays as it is

pub record KeepsSender (q p : QueuePair) : Type 0 where
  pub life : SameLife q p
  pub numbers : requester_in p ≡ requester_in q
  pub rtr : p.state ≡ states.Rtr → q.state ≡ states.Rtr
  pub sends : is_sending p.state ≡ true → is_sending q.state ≡ true
  pub connected : is_connected p.state ≡ true → is_connected q.state ≡ true

pub sender-of : (d : Direction) (s r : Correspondent) (q p : QueuePair) (m box : Mailbox) (requester next : Requester) (responses more : List (Option Response)) (k j : ℕ) → SameLife q p → SenderCalm d s r (Present q) m requester responses k
    → (IsBefore s (Present q) → (next ≡ requester) × (more ≡ responses) × (j ≡ k)) → (IsPaired d s r (Present q) q → is_connected p.state ≡ true → HasSender d p box next more j) → SenderCalm d s r (Present p) box next more j
sender-of d s r q p m box requester next responses more k j same tie before paired = record {
  before = λ is. let back = before-back s q p same is in let was = tie.before back in let now = before back in (now.0 ∙ was.0, now.1 ∙ was.1, now.2 ∙ was.2);
  paired = λ t is connected. subst (λ x. HasSender d x box next more j) (present-same p t is.present)
      (paired (paired-back d s r q p t same is) (ap (λ (x : QueuePair). is_connected x.state) (present-same p t is.present) ∙ connected));
}

pub still-sender : (d : Direction) (s r : Correspondent) (q p : QueuePair) (m box : Mailbox) (requester : Requester) (responses : List (Option Response)) (k : ℕ) → KeepsSender q p → box.envelopes ≡ m.envelopes
    → SenderCalm d s r (Present q) m requester responses k → SenderCalm d s r (Present p) box requester responses k
still-sender d s r q p m box requester responses k keeps mail tie = sender-of d s r q p m box requester requester responses responses k k keeps.life tie (λ is. (refl, refl, refl))
    (λ paired connected. has (tie.paired q paired (keeps.connected connected)))
  where
    has : HasSender d q m requester responses k → HasSender d p box requester responses k
    has was = record {
      opens = λ is. was.opens (keeps.rtr is);
      sending = λ is. was.sending (keeps.sends is) ∙ sym keeps.numbers;
      entries = subst (λ es. AreEntries SpellsPlainly SpellsSomeRequest es responses) (sym mail) was.entries;
      fresh = subst (AreFresh k) (sym mail) was.fresh;
    }

-- ---- slots and mailboxes by name

pub receiver-at : (d : Direction) (s r : Correspondent) (slot other : QueueSlot) (m box : Mailbox) (responder : Responder) (requests : List (Option RequestPacket)) (k : ℕ) (standing : Standing) → other ≡ slot → box ≡ m
    → ReceiverCalm d s r slot m responder requests k standing → ReceiverCalm d s r other box responder requests k standing
receiver-at d s r slot other m box responder requests k standing a b tie = subst (λ x. ReceiverCalm d s r x box responder requests k standing) (sym a) (subst (λ x. ReceiverCalm d s r slot x responder requests k standing) (sym b) tie)

pub sender-at : (d : Direction) (s r : Correspondent) (slot other : QueueSlot) (m box : Mailbox) (requester : Requester) (responses : List (Option Response)) (k : ℕ) → other ≡ slot → box ≡ m
    → SenderCalm d s r slot m requester responses k → SenderCalm d s r other box requester responses k
sender-at d s r slot other m box requester responses k a b tie = subst (λ x. SenderCalm d s r x box requester responses k) (sym a) (subst (λ x. SenderCalm d s r slot x requester responses k) (sym b) tie)

-- ---- a link that moves lead to

pub record IsKept (d : Direction) (c : CalmLink) : Type 0 where
  pub reached : Reached d c.link
  pub calm : IsCalm d c

pub moved : (d : Direction) (c new : CalmLink) → IsKept d c → CalmMove d c new → IsKept d new
moved d c new kept move = record { reached = calm-link d c new kept.reached kept.calm move; calm = calm-move d c new kept.reached kept.calm move }

pub kept-of : (d : Direction) (s r : Correspondent) (w : World) (c : CalmLink) → IsCalmlyTied d s r w c → IsKept d c
kept-of d s r w c tied = record { reached = tied.reached; calm = tied.calm }

-- a move at the life that receives leaves the other side
pub record ReceiverEnd (d : Direction) (s r : Correspondent) (c : CalmLink) (slot : QueueSlot) (m : Mailbox) : Type 0 where
  pub link : CalmLink
  pub kept : IsKept d link
  pub requester_is : link.link.requester ≡ c.link.requester
  pub responses_are : link.link.responses ≡ c.link.responses
  pub count_is : link.responses ≡ c.responses
  pub tie : ReceiverCalm d s r slot m link.link.responder link.link.requests link.requests link.standing

pub record SenderEnd (d : Direction) (s r : Correspondent) (c : CalmLink) (slot : QueueSlot) (m : Mailbox) : Type 0 where
  pub link : CalmLink
  pub kept : IsKept d link
  pub responder_is : link.link.responder ≡ c.link.responder
  pub requests_are : link.link.requests ≡ c.link.requests
  pub count_is : link.requests ≡ c.requests
  pub standing_is : link.standing ≡ c.standing
  pub tie : SenderCalm d s r slot m link.link.requester link.link.responses link.responses

pub receiver-unmoved : (d : Direction) (s r : Correspondent) (c : CalmLink) (slot : QueueSlot) (m : Mailbox) → IsKept d c → ReceiverCalm d s r slot m c.link.responder c.link.requests c.requests c.standing → ReceiverEnd d s r c slot m
receiver-unmoved d s r c slot m kept tie = record { link = c; kept = kept; requester_is = refl; responses_are = refl; count_is = refl; tie = tie }

pub sender-unmoved : (d : Direction) (s r : Correspondent) (c : CalmLink) (slot : QueueSlot) (m : Mailbox) → IsKept d c → SenderCalm d s r slot m c.link.requester c.link.responses c.responses → SenderEnd d s r c slot m
sender-unmoved d s r c slot m kept tie = record { link = c; kept = kept; responder_is = refl; requests_are = refl; count_is = refl; standing_is = refl; tie = tie }

-- the two ends put together
pub cursor-still : (s : Correspondent) (w v : World) → v.queue s.queue ≡ w.queue s.queue → CursorGoesOn s w v
cursor-still s w v same q p at after_is own other begun = omega (arith, ap (λ (x : QueuePair). x.requester.cursor) (present-same q p (sym at ∙ sym same ∙ after_is)))

pub cursor-from : (s : Correspondent) (w v : World) (q p : QueuePair) → w.queue s.queue ≡ Present q → v.queue s.queue ≡ Present p → (q.incarnation ≡ s.incarnation → is_fresh q.state ≡ false → q.requester.cursor ≤ p.requester.cursor) → CursorGoesOn s w v
cursor-from s w v q p at after_is goes a b a_is b_is own other begun = omega (
  arith,
  ap (λ (x : QueuePair). x.requester.cursor) a_same,
  ap (λ (x : QueuePair). x.requester.cursor) (present-same p b (sym after_is ∙ b_is)),
  goes (ap (λ (x : QueuePair). x.incarnation) a_same ∙ own) (ap (λ (x : QueuePair). is_fresh x.state) a_same ∙ begun),
)
  where
    a_same : q ≡ a
    a_same = present-same q a (sym at ∙ a_is)

pub joined-receiver : (d : Direction) (s r : Correspondent) (w v : World) (c : CalmLink) (slot : QueueSlot) (m : Mailbox) → IsCalmlyTied d s r w c → v.queue s.queue ≡ w.queue s.queue → v.mailbox s.queue ≡ w.mailbox s.queue → v.queue r.queue ≡ slot
    → v.mailbox r.queue ≡ m → ReceiverEnd d s r c slot m → CalmAfter d s r w v
joined-receiver d s r w v c slot m tied sq sm rq rm end = record {
  link = end.link;
  tied = record {
    reached = end.kept.reached;
    calm = end.kept.calm;
    sender = sender-at d s r (w.queue s.queue) (v.queue s.queue) (w.mailbox s.queue) (v.mailbox s.queue) end.link.link.requester end.link.link.responses end.link.responses sq sm
        (subst (λ z. SenderCalm d s r (w.queue s.queue) (w.mailbox s.queue) z end.link.link.responses end.link.responses) (sym end.requester_is)
        (subst (λ z. SenderCalm d s r (w.queue s.queue) (w.mailbox s.queue) c.link.requester z end.link.responses) (sym end.responses_are)
        (subst (λ z. SenderCalm d s r (w.queue s.queue) (w.mailbox s.queue) c.link.requester c.link.responses z) (sym end.count_is) tied.sender)));
    receiver = receiver-at d s r slot (v.queue r.queue) m (v.mailbox r.queue) end.link.link.responder end.link.link.requests end.link.requests end.link.standing rq rm end.tie;
  };
  cursor = cursor-still s w v sq;
}

pub joined-sender : (d : Direction) (s r : Correspondent) (w v : World) (c : CalmLink) (slot : QueueSlot) (m : Mailbox) → IsCalmlyTied d s r w c → v.queue r.queue ≡ w.queue r.queue → v.mailbox r.queue ≡ w.mailbox r.queue → v.queue s.queue ≡ slot
    → v.mailbox s.queue ≡ m → CursorGoesOn s w v → SenderEnd d s r c slot m → CalmAfter d s r w v
joined-sender d s r w v c slot m tied rq rm sq sm cursor end = record {
  link = end.link;
  tied = record {
    reached = end.kept.reached;
    calm = end.kept.calm;
    sender = sender-at d s r slot (v.queue s.queue) m (v.mailbox s.queue) end.link.link.requester end.link.link.responses end.link.responses sq sm end.tie;
    receiver = receiver-at d s r (w.queue r.queue) (v.queue r.queue) (w.mailbox r.queue) (v.mailbox r.queue) end.link.link.responder end.link.link.requests end.link.requests end.link.standing rq rm
        (subst (λ z. ReceiverCalm d s r (w.queue r.queue) (w.mailbox r.queue) z end.link.link.requests end.link.requests end.link.standing) (sym end.responder_is)
        (subst (λ z. ReceiverCalm d s r (w.queue r.queue) (w.mailbox r.queue) c.link.responder z end.link.requests end.link.standing) (sym end.requests_are)
        (subst (λ z. ReceiverCalm d s r (w.queue r.queue) (w.mailbox r.queue) c.link.responder c.link.requests z end.link.standing) (sym end.count_is)
        (subst (λ z. ReceiverCalm d s r (w.queue r.queue) (w.mailbox r.queue) c.link.responder c.link.requests c.requests z) (sym end.standing_is) tied.receiver))));
  };
  cursor = cursor;
}

pub joined-neither : (d : Direction) (s r : Correspondent) (w v : World) (c : CalmLink) → IsCalmlyTied d s r w c → v.queue r.queue ≡ w.queue r.queue → v.mailbox r.queue ≡ w.mailbox r.queue → v.queue s.queue ≡ w.queue s.queue
    → v.mailbox s.queue ≡ w.mailbox s.queue → CalmAfter d s r w v
joined-neither d s r w v c tied rq rm sq sm = joined-receiver d s r w v c (w.queue r.queue) (w.mailbox r.queue) tied sq sm rq rm
    (receiver-unmoved d s r c (w.queue r.queue) (w.mailbox r.queue) (kept-of d s r w c tied) tied.receiver)

-- ---- states

pub before-connected : (q : QueuePair) (e : Effects) → LeavesState q e → is_connected e.queue.state ≡ true → is_connected q.state ≡ true
before-connected q e (inl same, mtu) is = ap is_connected (sym same) ∙ is
before-connected q e (inr error, mtu) is = absurd (true≢false (sym is ∙ ap is_connected error))

pub sending-connected : (t : State) → is_sending t ≡ true → is_connected t ≡ true
sending-connected states.Reset is = is
sending-connected states.Init is = is
sending-connected states.Rtr is = refl
sending-connected states.Rts is = refl
sending-connected states.Sqd is = refl
sending-connected states.Error is = is

pub rtr-of : (t : State) → is_connected t ≡ true → is_sending t ≡ false → t ≡ states.Rtr
rtr-of states.Reset there silent = absurd (true≢false (sym there))
rtr-of states.Init there silent = absurd (true≢false (sym there))
rtr-of states.Rtr there silent = refl
rtr-of states.Rts there silent = absurd (true≢false silent)
rtr-of states.Sqd there silent = absurd (true≢false silent)
rtr-of states.Error there silent = absurd (true≢false (sym there))

-- ---- a responder that stays, or loses its response queue in Error

abbrev pub side : ℕ → List Response → List SavedResult → Responder
side expected queue results = record { expected = expected; queue = queue; results = results }

pub responder-same : (a b : ℕ) (xs ys : List Response) (us vs : List SavedResult) → a ≡ b → xs ≡ ys → us ≡ vs → side a xs us ≡ side b ys vs
responder-same a b xs ys us vs e q r = (λ i. record { expected = e i; queue = q i; results = r i })

pub same-responder : (q p : QueuePair) → IsSameResponder q p → responder_in p ≡ responder_in q
same-responder q p same = ap₂ (λ (x : ResponderNumbers) (ks : List KeptResult). record { expected = x.expected; queue = map said x.answers; results = map kept_result ks }) same.responder same.saved

pub same-keeps : (q p : QueuePair) → SameLife q p → IsSameResponder q p → KeepsReceiver q p
same-keeps q p life same = record { life = life; responder = same-responder q p same; connected = ap is_connected same.state; flag = ap (λ x. x.nak_sent) same.responder }

-- the responder stays, or it is closed
pub forgotten : (d : Direction) (s r : Correspondent) (c : CalmLink) (q p : QueuePair) (m box : Mailbox) → IsKept d c → SameLife q p → Forgets q p → IsPaired d r s (Present q) q → AreEntries (SpellsRequest d) SpellsSomeResponse box.envelopes c.link.requests
    → AreFresh c.requests box.envelopes → (c.link.responder ≡ responder_in q) → StandsIn c.standing q → (p.peer ≡ None → ⊥) → ReceiverEnd d s r c (Present p) box
forgotten d s r c q p m box kept life (stays same) paired entries fresh own stands named = receiver-unmoved d s r c (Present p) box kept (record {
  before = λ is. absurd (unpaired-before d r s (Present q) q (before-back r q p life is) paired);
  unnamed = λ t is none. absurd (named (ap (λ (x : QueuePair). x.peer) (present-same p t is) ∙ none));
  paired = λ t is. subst (λ x. HasReceiver d x box c.link.responder c.link.requests c.requests c.standing) (present-same p t is.present) (record {
    same = own ∙ sym (same-responder q p same);
    entries = entries;
    fresh = fresh;
    stands = stands-same c.standing q p (ap is_connected same.state) (ap (λ x. x.nak_sent) same.responder) stands;
  });
})
forgotten d s r c q p m box kept life (emptied expected answers mtu saved error) paired entries fresh own stands named = record {
  link = record c { link = after_loss c.link; standing = Closed };
  kept = moved d c (record c { link = after_loss c.link; standing = Closed }) kept close;
  requester_is = refl;
  responses_are = refl;
  count_is = refl;
  tie = record {
    before = λ is. absurd (unpaired-before d r s (Present q) q (before-back r q p life is) paired);
    unnamed = λ t is none. absurd (named (ap (λ (x : QueuePair). x.peer) (present-same p t is) ∙ none));
    paired = λ t is. subst (λ x. HasReceiver d x box (after_loss c.link).responder c.link.requests c.requests Closed) (present-same p t is.present) (record {
      same = responder-same c.link.responder.expected p.responder.expected [] (map said p.responder.answers) c.link.responder.results (map kept_result p.saved)
          (ap (λ (z : Responder). z.expected) own ∙ sym expected) (ap (map said) (sym answers)) (ap (λ (z : Responder). z.results) own ∙ ap (map kept_result) (sym saved));
      entries = entries;
      fresh = fresh;
      stands = ap is_connected error;
    });
  };
}
