-- A delivery of what is due keeps a world tied to a calm link. For proofs only.
use Rattle.std.proofs.Common.{◌≡◌, ℕ, ◌<◌, ◌≤◌, ◌%◌, ◌^◌, ◌++◌, inl, inr, max, Bool, true, false, List, [], ◌∷◌, Option, None, Some, is_some, slice_get, refl, ap, sym, subst, ◌∙◌, arith, true≢false}
use Rattle.ca_law_endings.proofs.InnerLemmas.{IsInner, arrival-inner}
use Rattle.ca_law_endings.proofs.LeadsLemmas.{AreAside, comes, leads-around, leads-row}
use Rattle.ca_law_endings.specs.Agreement.{peer_in}
use Rattle.ca_law_endings.specs.Runs.{Comes, Leads}
use Rattle.ca_base.specs.Configuration.{Configuration}
use Rattle.ca_base.specs.declared.change.State.TheVariants as states
use Rattle.ca_base.specs.declared.correspondent.Correspondent.{Correspondent}
use Rattle.ca_base.specs.declared.limits.TheConstants.{KEPT_ENVELOPES}
use Rattle.ca_base.specs.declared.step.Reason.TheVariants as reasons
use Rattle.ca_base.specs.objects.Mailbox.{Mailbox, after_delivery, bytes_lent, due, later_than, with_delivery}
use Rattle.ca_base.specs.objects.QueuePair.{QueuePair, QueueSlot, NoQueue, Present}
use Rattle.ca_base.specs.objects.SharedReceives.{SharedReceives}
use Rattle.ca_connection.proofs.OnceLemmas.{law-request-near, law-response-near}
use Rattle.ca_connection.specs.Layout.{Direction}
use Rattle.ca_connection.specs.Link.{Link, RequestPacket, Requester, Responder, Response, number_of, opening, reach}
use Rattle.ca_connection.specs.Moves.{MayArrive, MayBeTaken, Takes}
use Rattle.ca_connection.specs.Moves.Takes.{drop as takes_drop}
use Rattle.ca_connection.proofs.CalmLemmas.{accepting-oldest, oldest-passes, response-reaches, response-sent, waiting-oldest}
use Rattle.ca_connection.specs.Calm.{CalmLink, Passes, Standing}
use Rattle.ca_connection.specs.Calm.Standing.{Accepting, Waiting, Closed}
use Rattle.ca_connection.specs.CalmMoves.{Admits, after_take, standing_after}
use Rattle.ca_connection.specs.CalmMoves.CalmMove.{admit, drop, pass_request, pass_response, take}
use Rattle.ca_connection.specs.Moves.{after_arrival}
use Rattle.ca_keys.specs.Equal.{queue_eq}
use Rattle.ca_keys.specs.declared.names.QueueId.{QueueId}
use Rattle.ca_law_world.proofs.Sound.SettledLemmas.{queue-path}
use Rattle.ca_law_world.proofs.Sound.WorldLemmas.{around_in, shared_of}
use Rattle.ca_model.specs.declared.event.Event.TheVariants as events
use Rattle.ca_model.specs.declared.mark.Mark.{Mark}
use Rattle.ca_model.specs.declared.mark.Mark.TheVariants as marks
use Rattle.ca_model.specs.Past.{with_at}
use Rattle.ca_model.specs.machine.Around.{Around, shared_in, updates_of}
use Rattle.ca_model.specs.machine.Delivery.{Arrive, arrival_row, deliver_plan}
use Rattle.ca_model.specs.machine.Invariants.{IsMailbox, IsQueue, is_connected, is_sending}
use Rattle.ca_model.specs.machine.Plan.{Finish, Look, Plan, Stuck, Update, ◌:=◌, Write, put_all, write_all}
use Rattle.ca_model.specs.machine.Row.{Effects, Row, Row_plan}
use Rattle.ca_model.specs.machine.Sound.{IsSoundWorld}
use Rattle.ca_model.specs.machine.Step.{step}
use Rattle.ca_model.specs.machine.World.{Mailbox_of, Queue_of, World, put}
use Rattle.ca_psn.specs.Psn.{widened}
use Rattle.ca_law_lossless.specs.Calmly.{TakesCalmly}
use Rattle.ca_law_lossless.specs.Standing.{AdmitsStanding, SpellsPlainly, StandsIn}
use Rattle.ca_law_once.proofs.Ties.DeliverLemmas.{before-rtr, before-sending, paired-after, present-same}
use Rattle.ca_law_once.proofs.Ties.DeliverTies.{other-name, stands-changed, stands-still}
use Rattle.ca_law_once.proofs.Ties.DeliverWalk.{Changes, Ends, Has, ends-as, ends-do, has-aside, has-turn, has-writes, puts-append, row-ends}
use Rattle.ca_law_once.proofs.Ties.EntryLemmas.{EntryIs, IsLent, delivered-entries, entry-at, lent-envelope, lent-recent}
use Rattle.ca_law_once.proofs.Ties.TimerLemmas.{IsFoundAt, found-at}
use Rattle.ca_law_once.specs.Ties.{AreEntries, IsBefore, IsOver, IsPaired, IsTied, ReceiverTie, SenderTie}
use Rattle.ca_law_once.specs.Ties.IsBefore.{sooner, unnamed}
use Rattle.ca_law_once.specs.Ties.IsOver.{later, vacant}
use Rattle.ca_law_once.specs.Ties.ReceiverTie.{before as receiver_before, standing as receiver_standing, gone as receiver_gone}
use Rattle.ca_law_once.specs.Ties.SenderTie.{before as sender_before, standing as sender_standing, gone as sender_gone}
use Rattle.ca_law_lossless.proofs.ArriveRows.{arrival-closed, arrival-forgets, arrival-silent, arrival-stands, arrival-stays, arrival-takes, arrival-waits, stays-cursor}
use Rattle.ca_law_lossless.proofs.EndLemmas.{IsKept, ReceiverEnd, SameLife, SenderEnd, before-back, before-connected, cursor-from, forgotten, joined-neither, joined-receiver, joined-sender, kept-of, moved, paired-back, receiver-unmoved, rtr-of, sender-of, sender-unmoved, sending-connected, unpaired-before, unpaired-over}
use Rattle.ca_law_lossless.proofs.MailLemmas.{IsOldest, fresh-delivered, oldest}
use Rattle.ca_law_lossless.specs.CalmEvents.{AreCalm}
use Rattle.ca_law_lossless.specs.CalmTies.{AreFresh, CalmAfter, HasReceiver, HasSender, IsCalmlyTied, ReceiverCalm, SenderCalm}
use Rattle.ca_law_once.proofs.Rows.ArrivalLemmas.{arrival-state, response-taken}
use Rattle.ca_law_once.proofs.Rows.ForgetLemmas.{Forgets}
use Rattle.ca_law_once.proofs.Rows.StayLemmas.{Stays, stays-in}
use Rattle.ca_law_once.specs.Entries.{SpellsRequest, SpellsSomeRequest, SpellsSomeResponse}
use Rattle.ca_law_once.specs.Moves.{LeavesState, StaysIn, TakesIn}
use Rattle.ca_law_once.specs.Sides.{IsLaid, requester_in, responder_in}

-- ---- the walk, with its marks

pub leads-arrival : (c : Configuration) (w : World) (P : World → List Mark → Type 0) (name : QueueId) (index : ℕ) → IsSoundWorld c w
    → ((q : QueuePair) (bytes : List ℕ) (shared : Option SharedReceives) (e : Effects) (v : World) → IsFoundAt w name q → bytes_lent index (w.mailbox name) ≡ Some bytes → Ends (arrival_row bytes (Some index) shared q) e
    → Changes w name (Present e.queue) (after_delivery index (w.mailbox name)) v → P v (marks.Arrived q.queue (Some index) ∷ e.marks)) → Leads w P (deliver_plan c name index)
leads-arrival c w P name index sound more = (λ has. lent (bytes_lent index m) refl, λ none. record {})
  where
    m : Mailbox
    m = w.mailbox name

    after : Mailbox
    after = after_delivery index m

    at : List ℕ → QueueSlot → Plan
    at bytes (NoQueue incarnation timers) = Stuck reasons.NotKept
    at bytes (Present q) = Arrive c q bytes (Some index) ((Mailbox_of name := after) ∷ []) []

    under_way : Option (List ℕ) → Plan
    under_way None = Stuck reasons.NotKept
    under_way (Some bytes) = Look (Queue_of name) (at bytes)

    arrives : (bytes : List ℕ) (q : QueuePair) → IsFoundAt w name q → bytes_lent index m ≡ Some bytes → Leads w P (Arrive c q bytes (Some index) ((Mailbox_of name := after) ∷ []) [])
    arrives bytes q there lent = leads-around w P q (λ a. Row_plan c (row a) (finish a)) (leads-row c w P (Ends (row a)) (row a) (finish a) (row-ends (row a)) (λ e cs ws ends aside. ended e cs ws ends aside))
      where
        a : Around
        a = around_in w q (shared_of w q)

        row : Around → Row
        row a = arrival_row bytes (Some index) (shared_in a) q

        finish : Around → Effects → List Update → List Write → Plan
        finish a e cs ws = Finish (((Mailbox_of name := after) ∷ []) ++ (updates_of q a e ++ cs)) ws ([] ++ marks.Arrived q.queue (Some index) ∷ e.marks)

        boxed : World
        boxed = put w (Mailbox_of name) after

        ended : (e : Effects) (cs : List Update) (ws : List Write) → Ends (row a) e → AreAside cs
            → P (write_all ws (put_all (updates_of q a e ++ cs) boxed)) (marks.Arrived q.queue (Some index) ∷ e.marks)
        ended e cs ws ends aside = more q bytes (shared_in a) e _ there lent ends
            (subst (λ n. Has (with_at queue_eq w.queue n (Present e.queue)) (with_at queue_eq w.mailbox name after) (write_all ws (put_all (updates_of q a e ++ cs) boxed))) there.named
            (has-writes _ _ ws (put_all (updates_of q a e ++ cs) boxed)
            (subst (Has (with_at queue_eq w.queue q.queue (Present e.queue)) (with_at queue_eq w.mailbox name after)) (sym (puts-append (updates_of q a e) cs boxed))
            (has-aside _ _ cs (put_all (updates_of q a e) boxed) aside (has-turn boxed q a e)))))

    slot : (bytes : List ℕ) → bytes_lent index m ≡ Some bytes → (s : QueueSlot) → w.queue name ≡ s → Leads w P (at bytes s)
    slot bytes lent (NoQueue incarnation timers) is = record {}
    slot bytes lent (Present q) is = arrives bytes q (found-at c w name q sound is) lent

    lent : (o : Option (List ℕ)) → bytes_lent index m ≡ o → Leads w P (under_way o)
    lent None is = record {}
    lent (Some bytes) is = slot bytes is (w.queue name) refl

-- ---- what a delivery leaves

-- what a delivery of what is due knows of the queue pair that it meets
pub record DeliversDue (index : ℕ) (q : QueuePair) (m : Mailbox) (bytes : List ℕ) (shared : Option SharedReceives) (e : Effects) : Type 0 where
  pub sound : IsQueue q
  pub box : IsMailbox m
  pub lent : IsLent index m bytes
  pub ends : Ends (arrival_row bytes (Some index) shared q) e
  pub due_is : due m ≡ Some index
  pub calm : AreCalm e.marks
  pub named : q.peer ≡ None → ⊥

module _ (d : Direction) (s r : Correspondent) (l : Link) (c : CalmLink) (index : ℕ) (q : QueuePair) (m : Mailbox) (bytes : List ℕ) (shared : Option SharedReceives) (e : Effects) (x : DeliversDue index q m bytes shared e) (kept : IsKept d c) where
  inner : IsInner q e
  inner = ends-do (IsInner q) (arrival_row bytes (Some index) shared q) e x.ends (ends-as (IsInner q) (arrival_row bytes (Some index) shared q) (arrival-inner bytes (Some index) shared q))

  state : LeavesState q e
  state = ends-do (LeavesState q) (arrival_row bytes (Some index) shared q) e x.ends (arrival-state bytes (Some index) shared q)

  life : SameLife q e.queue
  life = record { incarnation = inner.incarnation; peer = inner.peer; mtu = state.1 }

  nobody : e.queue.peer ≡ None → ⊥
  nobody none = x.named (sym inner.peer ∙ none)

  -- the life that receives
  receives : (t : QueuePair) → IsPaired d r s (Present q) t → ReceiverCalm d s r (Present q) m c.link.responder c.link.requests c.requests c.standing → ReceiverEnd d s r c (Present e.queue) (after_delivery index m)
  receives t paired tie = meets (slice_get c.link.requests k) refl
      (subst (EntryIs (SpellsRequest d) SpellsSomeResponse (slice_get c.link.requests k)) x.lent.brings
      (entry-at (SpellsRequest d) SpellsSomeResponse m.envelopes c.link.requests k x.lent.envelope has.entries (subst (λ n. slice_get m.envelopes n ≡ Some x.lent.envelope) old.place x.lent.at)))
    where
      mtu : q.responder.mtu ≡ d.mtu
      mtu = ap (λ (x : QueuePair). x.responder.mtu) (present-same q t paired.present) ∙ paired.mtu

      here : IsPaired d r s (Present q) q
      here = paired-after d r s q q t refl refl mtu paired

      has : HasReceiver d q m c.link.responder c.link.requests c.requests c.standing
      has = tie.paired q here

      old : IsOldest c.requests index m
      old = oldest m c.requests index x.box has.fresh x.due_is

      k : ℕ
      k = old.rest

      fresh : AreFresh k (after_delivery index m).envelopes
      fresh = subst (λ n. AreFresh k (with_delivery n m.envelopes)) (sym old.place) (fresh-delivered k m.envelopes (subst (λ n. AreFresh n m.envelopes) old.count has.fresh))

      entries : AreEntries (SpellsRequest d) SpellsSomeResponse (after_delivery index m).envelopes c.link.requests
      entries = delivered-entries (SpellsRequest d) SpellsSomeResponse (later_than index m) m.envelopes c.link.requests has.entries

      -- what stands there afterwards
      ended : (new : CalmLink) → IsKept d new → new.link.requester ≡ c.link.requester → new.link.responses ≡ c.link.responses → new.responses ≡ c.responses → new.link.requests ≡ c.link.requests → new.requests ≡ k
          → new.link.responder ≡ responder_in e.queue → StandsIn new.standing e.queue → ReceiverEnd d s r c (Present e.queue) (after_delivery index m)
      ended new calm requester responses count requests rest responder stands = record {
        link = new;
        kept = calm;
        requester_is = requester;
        responses_are = responses;
        count_is = count;
        tie = record {
          before = λ is. absurd (unpaired-before d r s (Present q) q (before-back r q e.queue life is) here);
          unnamed = λ t is none. absurd (nobody (ap (λ (x : QueuePair). x.peer) (present-same e.queue t is) ∙ none));
          paired = λ t is. subst (λ z. HasReceiver d z (after_delivery index m) new.link.responder new.link.requests new.requests new.standing) (present-same e.queue t is.present) (record {
            same = responder;
            entries = subst (AreEntries (SpellsRequest d) SpellsSomeResponse (after_delivery index m).envelopes) (sym requests) entries;
            fresh = subst (λ n. AreFresh n (after_delivery index m).envelopes) (sym rest) fresh;
            stands = stands;
          });
        };
      }

      -- nothing is taken
      dropped : (p : RequestPacket) → MayArrive c.link k p → (c.standing ≡ Accepting → ⊥) → e.queue ≡ q → ReceiverEnd d s r c (Present e.queue) (after_delivery index m)
      dropped p may other same = ended (record c { requests = k }) (moved d c (record c { requests = k }) kept (drop k p old.count may other)) refl refl refl refl refl
          (has.same ∙ ap responder_in (sym same)) (subst (StandsIn c.standing) (sym same) has.stands)

      request : (p : RequestPacket) → slice_get c.link.requests k ≡ Some (Some p) → SpellsRequest d p bytes → (standing : Standing) → c.standing ≡ standing → ReceiverEnd d s r c (Present e.queue) (after_delivery index m)
      request p at spells Accepting is = ended new (moved d c new kept (admit k p (responder_in e.queue) does.reception old.count may is admits)) refl refl refl refl refl refl does.stands
        where
          may : MayArrive c.link k p
          may = record { is = at; recent = subst (λ n. n < KEPT_ENVELOPES) old.place (lent-recent index m bytes x.box x.lent) }

          number : p.number ≡ c.link.responder.expected
          number = (accepting-oldest d c k p kept.calm is old.count at).number

          expected : c.link.responder.expected ≡ q.responder.expected
          expected = ap (λ (z : Responder). z.expected) has.same

          stands : (is_connected q.state ≡ true) × (q.responder.nak_sent ≡ false)
          stands = subst (λ z. StandsIn z q) is has.stands

          does : AdmitsStanding d p q.responder.expected (responder_in q) e
          does = ends-do (λ e. AreCalm e.marks → AdmitsStanding d p q.responder.expected (responder_in q) e) (arrival_row bytes (Some index) shared q) e x.ends
              (arrival-stands d p bytes (Some index) shared q spells stands.0 mtu
              (ap (λ n. widened n (p.number % 2 ^ 24)) (sym expected) ∙ (law-request-near d c.link k p kept.reached may).exact ∙ number ∙ expected)) x.calm

          admits : Admits d p p.number c.link.responder (responder_in e.queue) does.reception
          admits = subst (λ n. Admits d p n c.link.responder (responder_in e.queue) does.reception) (sym (number ∙ expected))
              (subst (λ z. Admits d p q.responder.expected z (responder_in e.queue) does.reception) (sym has.same) does.admits)

          new : CalmLink
          new = record c {
            link = after_arrival c.link p p.number (responder_in e.queue) does.reception;
            requests = k;
            standing = standing_after does.reception;
          }
      request p at spells Waiting is = dropped p may (λ other. absurd (cc)) (ends-do (λ e. e.queue ≡ q) (arrival_row bytes (Some index) shared q) e x.ends
          (arrival-waits d p bytes (Some index) shared q spells stands.1
          (subst (λ n. q.responder.expected < n) (sym (ap (λ n. widened n (p.number % 2 ^ 24)) (sym expected) ∙ (law-request-near d c.link k p kept.reached may).exact))
          (subst (λ n. n < p.number) expected (waiting-oldest d c k p kept.calm is old.count at)))))
        where
          may : MayArrive c.link k p
          may = record { is = at; recent = subst (λ n. n < KEPT_ENVELOPES) old.place (lent-recent index m bytes x.box x.lent) }

          expected : c.link.responder.expected ≡ q.responder.expected
          expected = ap (λ (z : Responder). z.expected) has.same

          stands : (is_connected q.state ≡ true) × (q.responder.nak_sent ≡ true)
          stands = subst (λ z. StandsIn z q) is has.stands
      request p at spells Closed is = dropped p (record { is = at; recent = subst (λ n. n < KEPT_ENVELOPES) old.place (lent-recent index m bytes x.box x.lent) }) (λ other. absurd (cc))
          (ends-do (λ e. e.queue ≡ q) (arrival_row bytes (Some index) shared q) e x.ends (arrival-closed bytes (Some index) shared q (subst (λ z. StandsIn z q) is has.stands)))

      meets : (o : Option (Option RequestPacket)) → slice_get c.link.requests k ≡ o → EntryIs (SpellsRequest d) SpellsSomeResponse o bytes → ReceiverEnd d s r c (Present e.queue) (after_delivery index m)
      meets None at entry = absurd entry
      meets (Some None) at entry = record { link = end.link; kept = end.kept; requester_is = end.requester_is; responses_are = end.responses_are; count_is = end.count_is; tie = end.tie }
        where
          passed : CalmLink
          passed = record c { requests = k }

          end : ReceiverEnd d s r passed (Present e.queue) (after_delivery index m)
          end = forgotten d s r passed q e.queue m (after_delivery index m) (moved d c passed kept (pass_request k old.count at)) life
              (ends-do (λ e. Forgets q e.queue) (arrival_row bytes (Some index) shared q) e x.ends (arrival-forgets bytes (Some index) shared q entry)) here entries fresh has.same has.stands nobody
      meets (Some (Some p)) at entry = request p at entry c.standing refl

  pub receiver-step : ReceiverTie d s r (Present q) m l.responder l.requests → ReceiverCalm d s r (Present q) m c.link.responder c.link.requests c.requests c.standing → ReceiverEnd d s r c (Present e.queue) (after_delivery index m)
  receiver-step (receiver_standing t paired same entries) tie = receives t paired tie
  receiver-step (receiver_before is same none) tie = receiver-unmoved d s r c (Present e.queue) (after_delivery index m) kept (record {
    before = λ b. tie.before (before-back r q e.queue life b);
    unnamed = λ t at none. absurd (nobody (ap (λ (x : QueuePair). x.peer) (present-same e.queue t at) ∙ none));
    paired = λ t paired. absurd (unpaired-before d r s (Present q) q is (paired-back d r s q e.queue t life paired));
  })
  receiver-step (receiver_gone is none) tie = receiver-unmoved d s r c (Present e.queue) (after_delivery index m) kept (record {
    before = λ b. tie.before (before-back r q e.queue life b);
    unnamed = λ t at none. absurd (nobody (ap (λ (x : QueuePair). x.peer) (present-same e.queue t at) ∙ none));
    paired = λ t paired. absurd (unpaired-over d r s (Present q) q is (paired-back d r s q e.queue t life paired));
  })

  -- the requester's numbers, where it does not send
  silent : is_sending q.state ≡ false → Stays q e.queue
  silent none = ends-do (λ e. Stays q e.queue) (arrival_row bytes (Some index) shared q) e x.ends (arrival-silent bytes (Some index) shared q none)

  -- the life that sends
  pub record SenderStep : Type 0 where
    pub end : SenderEnd d s r c (Present e.queue) (after_delivery index m)
    pub cursor : q.incarnation ≡ s.incarnation → q.requester.cursor ≤ e.queue.requester.cursor

  -- where it sends no more, nothing is asked of it
  unheard : is_connected e.queue.state ≡ false → SenderCalm d s r (Present q) m c.link.requester c.link.responses c.responses → SenderEnd d s r c (Present e.queue) (after_delivery index m)
  unheard closed tie = sender-unmoved d s r c (Present e.queue) (after_delivery index m) kept (sender-of d s r q e.queue m (after_delivery index m) c.link.requester c.link.requester c.link.responses c.link.responses c.responses c.responses life tie
      (λ is. (refl, refl, refl)) (λ paired connected. absurd (true≢false (sym connected ∙ closed))))

  sends : (t : QueuePair) → IsPaired d s r (Present q) t → (is_sending q.state ≡ true → IsLaid d q) → SenderCalm d s r (Present q) m c.link.requester c.link.responses c.responses → SenderStep
  sends t paired laid tie = by (is_connected q.state) refl
    where
      here : IsPaired d s r (Present q) q
      here = paired-after d s r q q t refl refl (ap (λ (x : QueuePair). x.responder.mtu) (present-same q t paired.present) ∙ paired.mtu) paired

      stayed : Stays q e.queue → q.requester.cursor ≤ e.queue.requester.cursor
      stayed does = omega (arith, stays-cursor q e.queue does)

      connected-then : is_connected q.state ≡ true → SenderStep
      connected-then connected = meets (slice_get c.link.responses k) refl
          (subst (EntryIs SpellsPlainly SpellsSomeRequest (slice_get c.link.responses k)) x.lent.brings
          (entry-at SpellsPlainly SpellsSomeRequest m.envelopes c.link.responses k x.lent.envelope has.entries (subst (λ n. slice_get m.envelopes n ≡ Some x.lent.envelope) old.place x.lent.at)))
        where
          has : HasSender d q m c.link.requester c.link.responses c.responses
          has = tie.paired q here connected

          old : IsOldest c.responses index m
          old = oldest m c.responses index x.box has.fresh x.due_is

          k : ℕ
          k = old.rest

          fresh : AreFresh k (after_delivery index m).envelopes
          fresh = subst (λ n. AreFresh k (with_delivery n m.envelopes)) (sym old.place) (fresh-delivered k m.envelopes (subst (λ n. AreFresh n m.envelopes) old.count has.fresh))

          entries : AreEntries SpellsPlainly SpellsSomeRequest (after_delivery index m).envelopes c.link.responses
          entries = delivered-entries SpellsPlainly SpellsSomeRequest (later_than index m) m.envelopes c.link.responses has.entries

          ended : (new : CalmLink) → IsKept d new → new.link.responder ≡ c.link.responder → new.link.requests ≡ c.link.requests → new.requests ≡ c.requests → new.standing ≡ c.standing → new.link.responses ≡ c.link.responses → new.responses ≡ k
              → (e.queue.state ≡ states.Rtr → new.link.requester ≡ (opening d).requester) → (is_sending e.queue.state ≡ true → new.link.requester ≡ requester_in e.queue) → SenderEnd d s r c (Present e.queue) (after_delivery index m)
          ended new calm responder requests count standing responses rest opens sending = record {
            link = new;
            kept = calm;
            responder_is = responder;
            requests_are = requests;
            count_is = count;
            standing_is = standing;
            tie = record {
              before = λ is. absurd (unpaired-before d s r (Present q) q (before-back s q e.queue life is) here);
              paired = λ t is connected. subst (λ z. HasSender d z (after_delivery index m) new.link.requester new.link.responses new.responses) (present-same e.queue t is.present) (record {
                opens = opens;
                sending = sending;
                entries = subst (AreEntries SpellsPlainly SpellsSomeRequest (after_delivery index m).envelopes) (sym responses) entries;
                fresh = subst (λ n. AreFresh n (after_delivery index m).envelopes) (sym rest) fresh;
              });
            };
          }

          may : (a : Response) → slice_get c.link.responses k ≡ Some (Some a) → MayBeTaken c.link k a
          may a at = record { is = at; recent = subst (λ n. n < KEPT_ENVELOPES) old.place (lent-recent index m bytes x.box x.lent) }

          -- a response that is taken
          taken : (a : Response) → slice_get c.link.responses k ≡ Some (Some a) → SpellsPlainly a bytes → is_sending q.state ≡ true → SenderStep
          taken a at spells sending = record { end = goes (is_sending e.queue.state) refl; cursor = λ own. omega (arith, calmly.cursor_stays) }
            where
              own : c.link.requester ≡ requester_in q
              own = has.sending sending

              una : c.link.requester.una ≡ q.requester.una
              una = ap (λ (z : Requester). z.una) own

              near : widened c.link.requester.una (number_of a % 2 ^ 24) ≡ number_of a
              near = (law-response-near d c.link k a kept.reached (may a at)).exact

              exact : widened q.requester.una (number_of a % 2 ^ 24) ≡ number_of a
              exact = ap (λ n. widened n (number_of a % 2 ^ 24)) (sym una) ∙ near

              calmly : TakesCalmly a q.requester.una q.requester.cursor e
              calmly = ends-do (λ e. AreCalm e.marks → TakesCalmly a q.requester.una q.requester.cursor e) (arrival_row bytes (Some index) shared q) e x.ends
                  (arrival-takes d a bytes (Some index) shared q x.sound sending connected (laid sending) spells exact
                  (subst (λ n. number_of a < n) (ap (λ (z : Requester). z.cursor) own) (response-sent d c k a kept.reached kept.calm old.count at))
                  (subst (λ n. Passes d n a) una (oldest-passes d c k a kept.calm old.count at).0)) x.calm

              does : TakesIn d a (widened q.requester.una (number_of a % 2 ^ 24)) (requester_in q) e
              does = ends-do (TakesIn d a (widened q.requester.una (number_of a % 2 ^ 24)) (requester_in q)) (arrival_row bytes (Some index) shared q) e x.ends
                  (response-taken d a bytes (Some index) shared q x.sound laid (λ p is. let spelt = spells p is in (spelt.0, spelt.1)))

              takes : Takes d a (number_of a) c.link.requester (requester_in e.queue) does.completion
              takes = subst (λ z. Takes d a (number_of a) z (requester_in e.queue) does.completion) (sym own) (subst (λ n. Takes d a n (requester_in q) (requester_in e.queue) does.completion) exact does.takes)

              new : CalmLink
              new = record c { link = after_take c.link (requester_in e.queue) does.completion; responses = k }

              goes : (b : Bool) → is_sending e.queue.state ≡ b → SenderEnd d s r c (Present e.queue) (after_delivery index m)
              goes true on = ended new (moved d c new kept (take k a (requester_in e.queue) does.completion old.count (may a at) takes
                  (calmly.una_goes on ∙ ap (λ n. max n (reach a)) (sym una)) (calmly.cursor_stays ∙ ap (λ (z : Requester). z.cursor) (sym own)))) refl refl refl refl refl refl
                  (λ rtr. absurd (true≢false (sym on ∙ ap is_sending rtr))) (λ sends. refl)
              goes false none = unheard (left state) tie
                where
                  left : LeavesState q e → is_connected e.queue.state ≡ false
                  left (inl same, mtu) = absurd (true≢false (sym sending ∙ ap is_sending (sym same) ∙ none))
                  left (inr error, mtu) = ap is_connected error

          -- a response that comes before the first request: it brings nothing
          early : (a : Response) → slice_get c.link.responses k ≡ Some (Some a) → is_sending q.state ≡ false → SenderStep
          early a at none = record {
            end = ended new (moved d c new kept (take k a c.link.requester None old.count (may a at) takes_drop same refl)) refl refl refl refl refl refl
                (λ rtr. opens) (λ sends. absurd (true≢false (sym (before-sending q e state sends) ∙ none)));
            cursor = λ own. stayed (silent none);
          }
            where
              opens : c.link.requester ≡ (opening d).requester
              opens = has.opens (rtr-of q.state connected none)

              same : c.link.requester.una ≡ max c.link.requester.una (reach a)
              same = omega (arith, response-reaches d c k a kept.reached kept.calm at, ap (λ (z : Requester). z.una) opens, ap (λ (z : Requester). z.cursor) opens)

              new : CalmLink
              new = record c { link = after_take c.link c.link.requester None; responses = k }

          meets : (o : Option (Option Response)) → slice_get c.link.responses k ≡ o → EntryIs SpellsPlainly SpellsSomeRequest o bytes → SenderStep
          meets None at entry = absurd entry
          meets (Some None) at entry = record {
            end = ended new (moved d c new kept (pass_response k old.count at)) refl refl refl refl refl refl
                (λ rtr. has.opens (before-rtr q e state rtr)) (λ sends. has.sending (before-sending q e state sends) ∙ sym same.requester);
            cursor = λ own. stayed does;
          }
            where
              does : Stays q e.queue
              does = ends-do (λ e. Stays q e.queue) (arrival_row bytes (Some index) shared q) e x.ends (arrival-stays bytes (Some index) shared q entry)

              same : StaysIn d (requester_in q) e
              same = stays-in d q e laid does

              new : CalmLink
              new = record c { responses = k }
          meets (Some (Some a)) at entry = on (is_sending q.state) refl
            where
              on : (b : Bool) → is_sending q.state ≡ b → SenderStep
              on true sending = taken a at entry sending
              on false none = early a at none

      by : (b : Bool) → is_connected q.state ≡ b → SenderStep
      by true connected = connected-then connected
      by false closed = record {
        end = unheard (still-closed (is_connected e.queue.state) refl) tie;
        cursor = λ own. stayed (silent (quiet (is_sending q.state) refl));
      }
        where
          still-closed : (b : Bool) → is_connected e.queue.state ≡ b → b ≡ false
          still-closed true there = absurd (true≢false (sym (before-connected q e state there) ∙ closed))
          still-closed false there = refl

          quiet : (b : Bool) → is_sending q.state ≡ b → b ≡ false
          quiet true sending = absurd (true≢false (sym (sending-connected q.state sending) ∙ closed))
          quiet false none = refl

  -- a life that is not paired is not met by what is said of it
  strange : ((t : QueuePair) → IsPaired d s r (Present q) t → ⊥) → (q.incarnation ≡ s.incarnation → is_sending q.state ≡ false) → SenderCalm d s r (Present q) m c.link.requester c.link.responses c.responses → SenderStep
  strange none quiet tie = record {
    end = sender-unmoved d s r c (Present e.queue) (after_delivery index m) kept (record {
      before = λ b. tie.before (before-back s q e.queue life b);
      paired = λ t paired connected. absurd (none q (paired-back d s r q e.queue t life paired));
    });
    cursor = λ own. omega (arith, stays-cursor q e.queue (silent (quiet own)));
  }

  pub sender-step : SenderTie d s r (Present q) m l.requester l.responses → SenderCalm d s r (Present q) m c.link.requester c.link.responses c.responses → SenderStep
  sender-step (sender_standing t paired own entries) tie = sends t paired (λ is. subst (IsLaid d) (sym (present-same q t paired.present)) (own.laid (ap (λ (x : QueuePair). is_sending x.state) (sym (present-same q t paired.present)) ∙ is))) tie
  sender-step (sender_before is same none) tie = strange (λ t paired. unpaired-before d s r (Present q) t is paired) (quiet is) tie
    where
      quiet : IsBefore s (Present q) → q.incarnation ≡ s.incarnation → is_sending q.state ≡ false
      quiet (sooner less) own = absurd (omega (arith, less, own))
      quiet (unnamed t at mine nobody) own = absurd (x.named (ap (λ (x : QueuePair). x.peer) (present-same q t at) ∙ nobody))
  sender-step (sender_gone is none) tie = strange (λ t paired. unpaired-over d s r (Present q) t is paired) (quiet is) tie
    where
      quiet : IsOver s (Present q) → q.incarnation ≡ s.incarnation → is_sending q.state ≡ false
      quiet (later more) own = absurd (omega (arith, more, own))
      quiet (vacant gone mine) own = absurd (true≢false gone)

-- ---- the event

pub deliver-calm : (d : Direction) (s r : Correspondent) (c : Configuration) (w : World) (l : Link) (k : CalmLink) (name : QueueId) (index : ℕ) → IsSoundWorld c w → ((n : QueueId) → peer_in (w.queue n) ≡ None → (w.mailbox n).envelopes ≡ [])
    → IsTied d s r w l → IsCalmlyTied d s r w k → due (w.mailbox name) ≡ Some index → Comes (λ v ms. AreCalm ms → CalmAfter d s r w v) (step c w (events.Deliver name index))
deliver-calm d s r c w l k name index sound empty tied calmly due_is = comes w P (deliver_plan c name index) (leads-arrival c w P name index sound
    (λ q bytes shared e v there lent ends changes calm. at q bytes shared e v there (record {
      sound = there.sound;
      box = sound.things (Mailbox_of name);
      lent = lent-envelope index (w.mailbox name) bytes lent;
      ends = ends;
      due_is = due_is;
      calm = calm.1;
      named = λ none. nothing q there (lent-envelope index (w.mailbox name) bytes lent) none;
    }) changes (queue_eq name r.queue) refl (queue_eq name s.queue) refl))
  where
    P : World → List Mark → Type 0
    P v ms = AreCalm ms → CalmAfter d s r w v

    nothing : (q : QueuePair) {bytes : List ℕ} → IsFoundAt w name q → IsLent index (w.mailbox name) bytes → q.peer ≡ None → ⊥
    nothing q there lent none = true≢false (sym (ap is_some (sym (ap (λ es. slice_get es (later_than index (w.mailbox name))) (empty name (ap peer_in there.is ∙ none))) ∙ lent.at)))

    at : (q : QueuePair) (bytes : List ℕ) (shared : Option SharedReceives) (e : Effects) (v : World) → IsFoundAt w name q → DeliversDue index q (w.mailbox name) bytes shared e
        → Changes w name (Present e.queue) (after_delivery index (w.mailbox name)) v → (b : Bool) → queue_eq name r.queue ≡ b → (a : Bool) → queue_eq name s.queue ≡ a → CalmAfter d s r w v
    at q bytes shared e v there x changes true here a elsewhere = joined-receiver d s r w v k (Present e.queue) (after_delivery index (w.mailbox name)) calmly still.0 still.1 moves.0 moves.1
        (receiver-step d s r l k index q (w.mailbox name) bytes shared e x (kept-of d s r w k calmly)
        (subst (λ z. ReceiverTie d s r z (w.mailbox name) l.responder l.requests) there.is (subst (λ n. ReceiverTie d s r (w.queue n) (w.mailbox n) l.responder l.requests) (sym (queue-path name r.queue here)) tied.receiver))
        (subst (λ z. ReceiverCalm d s r z (w.mailbox name) k.link.responder k.link.requests k.requests k.standing) there.is
        (subst (λ n. ReceiverCalm d s r (w.queue n) (w.mailbox n) k.link.responder k.link.requests k.requests k.standing) (sym (queue-path name r.queue here)) calmly.receiver)))
      where
        still : (v.queue s.queue ≡ w.queue s.queue) × (v.mailbox s.queue ≡ w.mailbox s.queue)
        still = stands-still w v name s.queue (Present e.queue) (after_delivery index (w.mailbox name)) changes (other-name name s.queue r.queue tied.apart here)

        moves : (v.queue r.queue ≡ Present e.queue) × (v.mailbox r.queue ≡ after_delivery index (w.mailbox name))
        moves = stands-changed w v name r.queue (Present e.queue) (after_delivery index (w.mailbox name)) changes here
    at q bytes shared e v there x changes false here true elsewhere = joined-sender d s r w v k (Present e.queue) (after_delivery index (w.mailbox name)) calmly still.0 still.1 moves.0 moves.1
        (cursor-from s w v q e.queue (ap w.queue (sym (queue-path name s.queue elsewhere)) ∙ there.is) moves.0 (λ own begun. stepped.cursor own)) stepped.end
      where
        still : (v.queue r.queue ≡ w.queue r.queue) × (v.mailbox r.queue ≡ w.mailbox r.queue)
        still = stands-still w v name r.queue (Present e.queue) (after_delivery index (w.mailbox name)) changes here

        moves : (v.queue s.queue ≡ Present e.queue) × (v.mailbox s.queue ≡ after_delivery index (w.mailbox name))
        moves = stands-changed w v name s.queue (Present e.queue) (after_delivery index (w.mailbox name)) changes elsewhere

        stepped : SenderStep d s r l k index q (w.mailbox name) bytes shared e x (kept-of d s r w k calmly)
        stepped = sender-step d s r l k index q (w.mailbox name) bytes shared e x (kept-of d s r w k calmly)
            (subst (λ z. SenderTie d s r z (w.mailbox name) l.requester l.responses) there.is (subst (λ n. SenderTie d s r (w.queue n) (w.mailbox n) l.requester l.responses) (sym (queue-path name s.queue elsewhere)) tied.sender))
            (subst (λ z. SenderCalm d s r z (w.mailbox name) k.link.requester k.link.responses k.responses) there.is
            (subst (λ n. SenderCalm d s r (w.queue n) (w.mailbox n) k.link.requester k.link.responses k.responses) (sym (queue-path name s.queue elsewhere)) calmly.sender))
    at q bytes shared e v there x changes false here false elsewhere = joined-neither d s r w v k calmly receives.0 receives.1 sends.0 sends.1
      where
        sends : (v.queue s.queue ≡ w.queue s.queue) × (v.mailbox s.queue ≡ w.mailbox s.queue)
        sends = stands-still w v name s.queue (Present e.queue) (after_delivery index (w.mailbox name)) changes elsewhere

        receives : (v.queue r.queue ≡ w.queue r.queue) × (v.mailbox r.queue ≡ w.mailbox r.queue)
        receives = stands-still w v name r.queue (Present e.queue) (after_delivery index (w.mailbox name)) changes here
