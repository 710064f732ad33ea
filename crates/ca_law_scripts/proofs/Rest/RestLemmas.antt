-- Where no turn is possible each queue pair is at rest. For proofs only.
use Rattle.std.proofs.Common.{◌≡◌, inl, inr, ℕ, zero, suc, ◌-◌, ◌<◌, ◌≤◌, ◌==◌, ◌&&◌, ◌||◌, Bool, true, false, not, nat_lt, if◌then◌else◌, List, [], ◌∷◌, length, filter, take, Option, None, Some, is_some, slice_get, sum_by, refl, ap, sym, ◌∙◌, subst, arith, true≢false}
use Rattle.std.specs.Option.{option_and_then, option_map_or}
use Rattle.std.proofs.lemmas.Bool.{eqb-true}
use Rattle.std.proofs.lemmas.Bool.Decides.{nat_tests}
use Rattle.ca_base.specs.Configuration.{Configuration}
use Rattle.ca_base.specs.declared.change.State.{State}
use Rattle.ca_base.specs.declared.change.State.TheVariants as states
use Rattle.ca_base.specs.declared.correspondent.Correspondent.{Correspondent}
use Rattle.ca_base.specs.declared.limits.TheConstants.{KEPT_ENVELOPES, MAX_RETRY, MAX_UNDELIVERED}
use Rattle.ca_base.specs.declared.lot.Lot.{Lot}
use Rattle.ca_base.specs.declared.mail_envelope.MailEnvelope.{MailEnvelope}
use Rattle.ca_base.specs.declared.queue_numbers.Queued.{Queued}
use Rattle.ca_base.specs.declared.request.PostedSend.{PostedSend}
use Rattle.ca_base.specs.objects.Mailbox.{Mailbox, due, has_room, is_undelivered, undelivered_count}
use Rattle.ca_base.specs.objects.QueuePair.{QueuePair, QueueSlot, NoQueue, Present, queue_in}
use Rattle.ca_base.specs.objects.Slices.{has_queue}
use Rattle.ca_base.specs.objects.StateTable.{state_eq}
use Rattle.ca_base.specs.objects.WorkQueue.{items_from}
use Rattle.ca_keys.specs.Equal.{queue_eq}
use Rattle.ca_keys.specs.declared.names.QueueId.{QueueId}
use Rattle.ca_model.specs.Requests.{is_local}
use Rattle.ca_model.specs.machine.Delivery.{deliver_plan}
use Rattle.ca_model.specs.machine.Invariants.{IsMailbox, IsQueue, is_idle, is_sending}
use Rattle.ca_model.specs.machine.Numbering.{Numbered, begun_requests, has_psn, numbers_of, psn_end}
use Rattle.ca_model.specs.machine.Requester.{is_outstanding}
use Rattle.ca_model.specs.machine.Sound.{IsQueueOf, IsSoundWorld}
use Rattle.ca_model.specs.machine.Turns.{has_room_for, is_silent, reaches_peer, request_plan, respond_plan, timeout_plan, wake_plan}
use Rattle.ca_model.specs.machine.World.{Mailbox_of, Queue_of, World}
use Rattle.ca_law_scripts.proofs.Rest.CountLemmas.{IsNext, begins-first, first-ends, first-few, first_numbered, goes-on, numbered_behind, unfinished-are}
use Rattle.ca_law_scripts.proofs.Rest.DueLemmas.{IsDue, deliver-happens, undelivered-due}
use Rattle.ca_law_scripts.proofs.Rest.HappensLemmas.{Happens}
use Rattle.ca_law_scripts.proofs.Rest.TurnLemmas.{request-happens, respond-happens}
use Rattle.ca_law_scripts.proofs.Rest.WaitLemmas.{timeout-happens, wake-happens}
use Rattle.ca_law_world.specs.Steady.{EndsBehind, IsSteadyQueue, IsSteadySlot, IsSteadyWorld}
use Rattle.ca_law_scripts.specs.Rest.{AcceptsPeers, AwaitsReceive, IsAtRest, IsDrained, lacks_receive}

-- no turn of a queue pair is possible, with these words of the weather
pub record IsStill (c : Configuration) (w : World) (lot : Lot) (hasten : Bool) (name : QueueId) : Type 0 where
  pub arrives : (index : ℕ) → due (w.mailbox name) ≡ Some index → Happens w (deliver_plan c name index) → ⊥
  pub responds : Happens w (respond_plan c name lot) → ⊥
  pub requests : Happens w (request_plan c name lot) → ⊥
  pub fires : Happens w (timeout_plan c name hasten) → ⊥
  pub wakes : Happens w (wake_plan c name) → ⊥

-- a world that comes up, in which no turn is possible
pub record IsStillWorld (c : Configuration) (w : World) (lot : QueueId → Lot) (hasten : QueueId → Bool) : Type 0 where
  pub sound : IsSoundWorld c w
  pub steady : IsSteadyWorld w
  pub accepted : AcceptsPeers w
  pub placed : (name : QueueId) (q : QueuePair) → w.queue name ≡ Present q → has_queue c name ≡ true
  pub still : (name : QueueId) → has_queue c name ≡ true → IsStill c w (lot name) (hasten name) name

none-of : (n : ℕ) → (0 < n → ⊥) → n ≡ 0
none-of zero never = refl
none-of (suc n) never = absurd (never (omega arith))

and-second : (a b : Bool) → (a && b) ≡ true → b ≡ true
and-second true b is = is
and-second false b is = absurd (true≢false (sym is))

and-first : (a b : Bool) → (a && b) ≡ true → a ≡ true
and-first true b is = refl
and-first false b is = is

or-right : (a b : Bool) → b ≡ true → (a || b) ≡ true
or-right true b is = refl
or-right false b is = is

-- where nothing is undelivered no envelope is
none-undelivered : (es : List MailEnvelope) (i : ℕ) → undelivered_count es ≡ 0 → option_map_or is_undelivered (slice_get es i) false ≡ false
none-undelivered [] i none = refl
none-undelivered (e ∷ es) i none = by (is_undelivered e) refl none (λ j rest. none-undelivered es j rest) i
  where
    by : (b : Bool) → is_undelivered e ≡ b → length (if b then e ∷ filter is_undelivered es else filter is_undelivered es) ≡ 0
        → ((j : ℕ) → undelivered_count es ≡ 0 → option_map_or is_undelivered (slice_get es j) false ≡ false)
        → (k : ℕ) → option_map_or is_undelivered (slice_get (e ∷ es) k) false ≡ false
    by true is none rest k = absurd (omega (arith, none))
    by false is none rest zero = is
    by false is none rest (suc k) = rest k none

empty-room : (m : Mailbox) → undelivered_count m.envelopes ≡ 0 → has_room m ≡ true
empty-room m none = ap (λ n. nat_lt n MAX_UNDELIVERED && not (option_map_or is_undelivered (slice_get m.envelopes (KEPT_ENVELOPES - 1)) false)) none
    ∙ ap not (none-undelivered m.envelopes (KEPT_ENVELOPES - 1) none)

sqd-is : (s : State) → state_eq s states.Sqd ≡ true → s ≡ states.Sqd
sqd-is states.Reset is = absurd (true≢false (sym is))
sqd-is states.Init is = absurd (true≢false (sym is))
sqd-is states.Rtr is = absurd (true≢false (sym is))
sqd-is states.Rts is = absurd (true≢false (sym is))
sqd-is states.Sqd is = refl
sqd-is states.Error is = absurd (true≢false (sym is))

-- the queue pair of a mailbox that accepts somebody
record IsReached (w : World) (name : QueueId) : Type 0 where
  queue : QueuePair
  there : w.queue name ≡ Present queue
  peer : Correspondent
  named : queue.peer ≡ Some peer

module _ (c : Configuration) (w : World) (lot : QueueId → Lot) (hasten : QueueId → Bool) (x : IsStillWorld c w lot hasten) where
  sound-queue : (name : QueueId) (q : QueuePair) → w.queue name ≡ Present q → IsQueue q
  sound-queue name q there = by (subst (IsQueueOf name) there (x.sound.things (Queue_of name)))
    where
      by : IsQueueOf name (Present q) → IsQueue q
      by is = is.2

  steady-queue : (name : QueueId) (q : QueuePair) → w.queue name ≡ Present q → IsSteadyQueue q
  steady-queue name q there = subst IsSteadySlot there (x.steady name)

  still-queue : (name : QueueId) (q : QueuePair) → w.queue name ≡ Present q → IsStill c w (lot name) (hasten name) name
  still-queue name q there = x.still name (x.placed name q there)

  -- nothing is undelivered at a queue pair
  empty-box : (name : QueueId) (q : QueuePair) → w.queue name ≡ Present q → undelivered_count (w.mailbox name).envelopes ≡ 0
  empty-box name q there = none-of (undelivered_count (w.mailbox name).envelopes) (λ some. no (undelivered-due (w.mailbox name) came some))
    where
      came : length (w.mailbox name).envelopes ≤ (w.mailbox name).next
      came = by (x.sound.things (Mailbox_of name))
        where
          by : IsMailbox (w.mailbox name) → length (w.mailbox name).envelopes ≤ (w.mailbox name).next
          by is = is.came

      no : IsDue (w.mailbox name) → ⊥
      no d = (still-queue name q there).arrives d.index d.due_is (deliver-happens c w name d.index q d.bytes (x.placed name q there) there d.lent)

  -- a mailbox that accepts a queue pair has a queue pair of its own, which named somebody
  reached : (q : QueuePair) (peer : Correspondent) → reaches_peer q peer (w.mailbox peer.queue) ≡ true → IsReached w peer.queue
  reached q peer reaches = by (w.queue peer.queue) refl (w.mailbox peer.queue).peer refl (and-second _ _ reaches)
    where
      sends : Correspondent → Bool
      sends p = queue_eq p.queue q.queue && (p.incarnation == q.incarnation)

      peer_of : QueueSlot → Option Correspondent
      peer_of slot = option_and_then (λ p. p.peer) (queue_in slot)

      by : (slot : QueueSlot) → w.queue peer.queue ≡ slot → (o : Option Correspondent) → (w.mailbox peer.queue).peer ≡ o → option_map_or sends o false ≡ true → IsReached w peer.queue
      by slot there None accepts is = absurd (true≢false (sym is))
      by (NoQueue incarnation timers) there (Some p) accepts is = absurd (none (sym accepts ∙ x.accepted peer.queue ∙ ap peer_of there))
        where
          none : Some p ≡ None → ⊥
          none e = cc
      by (Present own) there (Some p) accepts is = record { queue = own; there = there; peer = p; named = sym (sym accepts ∙ x.accepted peer.queue ∙ ap peer_of there) }

  -- there is room for whatever a queue pair sends
  roomy : (q : QueuePair) (peer : Correspondent) → has_room_for q peer (w.mailbox peer.queue) ≡ true
  roomy q peer = by (reaches_peer q peer (w.mailbox peer.queue)) refl
    where
      by : (b : Bool) → reaches_peer q peer (w.mailbox peer.queue) ≡ b → (not b || has_room (w.mailbox peer.queue)) ≡ true
      by false is = refl
      by true is =
          let r : IsReached w peer.queue = reached q peer is
          in empty-room (w.mailbox peer.queue) (empty-box peer.queue r.queue r.there)

  -- a queue pair that named a peer owes no answer
  no-answers : (name : QueueId) (q : QueuePair) (peer : Correspondent) → w.queue name ≡ Present q → q.peer ≡ Some peer → length q.responder.answers ≡ 0
  no-answers name q peer there named = by q.responder.answers refl
    where
      busy : (b : Bool) → is_idle q.state ≡ b → (a : Queued) (others : List Queued) → q.responder.answers ≡ a ∷ others → b ≡ false
      busy false is a others are = refl
      busy true is a others are = absurd (none (sym are ∙ (sound-queue name q there).responder.silent is))
        where
          none : a ∷ others ≡ [] → ⊥
          none e = cc

      by : (answers : List Queued) → q.responder.answers ≡ answers → length answers ≡ 0
      by [] are = refl
      by (a ∷ others) are = absurd ((still-queue name q there).responds (respond-happens c w name (lot name) q peer a (x.placed name q there) there named (roomy q peer)
          (busy (is_idle q.state) refl a others are) (ap (λ l. slice_get l 0) are)))

  -- the timer of a queue pair would be silent
  silent : (name : QueueId) (q : QueuePair) (peer : Correspondent) → w.queue name ≡ Present q → is_silent q (w.mailbox name) peer (w.queue peer.queue) (w.mailbox peer.queue) ≡ true
  silent name q peer there =
      ap (λ n. (n == 0) && theirs (reaches_peer q peer (w.mailbox peer.queue))) (empty-box name q there) ∙ by (reaches_peer q peer (w.mailbox peer.queue)) refl
    where
      theirs : Bool → Bool
      theirs b = not b || ((undelivered_count (w.mailbox peer.queue).envelopes == 0) && option_map_or (λ p. length p.responder.answers == 0) (queue_in (w.queue peer.queue)) true)

      by : (b : Bool) → reaches_peer q peer (w.mailbox peer.queue) ≡ b → theirs b ≡ true
      by false is = refl
      by true is =
          let r : IsReached w peer.queue = reached q peer is
          in ap (λ n. (n == 0) && option_map_or (λ p. length p.responder.answers == 0) (queue_in (w.queue peer.queue)) true) (empty-box peer.queue r.queue r.there)
          ∙ ap (λ slot. option_map_or (λ p. length p.responder.answers == 0) (queue_in slot) true) r.there
          ∙ ap (λ n. n == 0) (no-answers peer.queue r.queue r.peer r.there r.named)

  module _ (name : QueueId) (q : QueuePair) (peer : Correspondent) (p : PostedSend) (ps : List PostedSend) (there : w.queue name ≡ Present q) (named : q.peer ≡ Some peer)
      (are : items_from q.requester.oldest q.sends ≡ p ∷ ps) (sends : is_sending q.state ≡ true) where
    abbrev n : Numbered
    n = first_numbered q p

    -- it waits for a receive, or could wake
    awaits : q.requester.waiting ≡ true → AwaitsReceive w q
    awaits waits = by ((q.requester.rnr_retry == MAX_RETRY) && lacks_receive w q (Some peer)) refl
      where
        by : (b : Bool) → ((q.requester.rnr_retry == MAX_RETRY) && lacks_receive w q (Some peer)) ≡ b → AwaitsReceive w q
        by true is = record {
          waiting = waits;
          limit = eqb-true q.requester.rnr_retry MAX_RETRY (and-first _ _ is);
          peer = ap (lacks_receive w q) named ∙ and-second _ _ is;
        }
        by false is = absurd ((still-queue name q there).wakes (wake-happens c w name q peer (x.placed name q there) there named sends waits is))

    -- nothing is outstanding, or the timer could fire
    none-outstanding : is_outstanding q ≡ false
    none-outstanding = by (is_outstanding q) refl
      where
        by : (b : Bool) → is_outstanding q ≡ b → b ≡ false
        by false is = refl
        by true is = absurd ((still-queue name q there).fires (timeout-happens c w name (hasten name) q peer (x.placed name q there) there named sends is (silent name q peer there)))

    una-cursor : q.requester.una ≡ q.requester.cursor
    una-cursor = grind (arith, nat_tests, none-outstanding, (sound-queue name q there).requester.outstanding)

    low : q.requester.oldest_psn ≤ q.requester.una
    low = (steady-queue name q there).oldest sends

    -- the first request cannot be next
    not-next : IsNext q n → (is_local p.request.op ≡ false → q.requester.cursor < psn_end n) → ⊥
    not-next next high = (still-queue name q there).requests (request-happens c w name (lot name) q peer n (x.placed name q there) there named (roomy q peer) none-outstanding next.turn
        (λ is. first-few q p ps are (sound-queue name q there) una-cursor low (high is) ((steady-queue name q there).reads sends) next.next))

    -- those that have begun
    begun-are : (k : ℕ) → q.requester.next - q.requester.oldest ≡ k → begun_requests q ≡ take k (n ∷ numbered_behind q p ps)
    begun-are k is = ap (take (q.requester.next - q.requester.oldest)) (unfinished-are q p ps are) ∙ ap (λ i. take i (n ∷ numbered_behind q p ps)) is

    drained : q.requester.waiting ≡ false → IsDrained q
    drained calm = by (q.requester.next - q.requester.oldest) refl
      where
        none-begun : begun_requests q ≡ [] → (b : Bool) → state_eq q.state states.Sqd ≡ b → IsDrained q
        none-begun begun true is = record { state = sqd-is q.state is; begun = begun }
        none-begun begun false is = absurd (not-next (begins-first q n (numbered_behind q p ps) begun (unfinished-are q p ps are) sends is calm) (first-ends q p below))
          where
            below : q.requester.cursor ≤ q.requester.oldest_psn
            below = omega (arith, (sound-queue name q there).begun sends, ap (λ (ms : List Numbered). sum_by (λ m. m.count) ms) begun)

        goes : (ms : List Numbered) → begun_requests q ≡ n ∷ ms → ⊥
        goes ms begun =
            let first : EndsBehind q.requester.una (n ∷ ms) = subst (EndsBehind q.requester.una) begun (steady-queue name q there).ends
            in let high : q.requester.cursor < psn_end n = omega (arith, first, una-cursor)
            in not-next (goes-on q n ms begun (within high) sends calm) (λ is. high)
          where
            within : q.requester.cursor < psn_end n → has_psn q.requester.cursor n ≡ true
            within high = grind (arith, nat_tests, high, low, una-cursor)

        by : (k : ℕ) → q.requester.next - q.requester.oldest ≡ k → IsDrained q
        by zero is = none-begun (begun-are zero is) (state_eq q.state states.Sqd) refl
        by (suc k) is = absurd (goes (take k (numbered_behind q p ps)) (begun-are (suc k) is))

    at-rest : IsAtRest w q
    at-rest = by q.requester.waiting refl
      where
        by : (b : Bool) → q.requester.waiting ≡ b → IsAtRest w q
        by true is = inr (inr (awaits is))
        by false is = inr (inl (drained is))

  pub rests : (name : QueueId) (q : QueuePair) → w.queue name ≡ Present q → IsAtRest w q
  rests name q there = by (items_from q.requester.oldest q.sends) refl
    where
      sends : (p : PostedSend) (ps : List PostedSend) → items_from q.requester.oldest q.sends ≡ p ∷ ps → (b : Bool) → is_sending q.state ≡ b → b ≡ true
      sends p ps are true is = refl
      sends p ps are false is = absurd (none (sym (unfinished-are q p ps are) ∙ (steady-queue name q there).unfinished is))
        where
          none : first_numbered q p ∷ numbered_behind q p ps ≡ [] → ⊥
          none e = cc

      connected : is_sending q.state ≡ true → is_some q.peer ≡ true
      connected is = (sound-queue name q there).connected (or-right (state_eq q.state states.Rtr) (is_sending q.state) is)

      of_peer : (p : PostedSend) (ps : List PostedSend) → items_from q.requester.oldest q.sends ≡ p ∷ ps → is_sending q.state ≡ true → (o : Option Correspondent) → q.peer ≡ o → is_some o ≡ true → IsAtRest w q
      of_peer p ps are is None named some = absurd (true≢false (sym some))
      of_peer p ps are is (Some peer) named some = at-rest name q peer p ps there named are is

      by : (items : List PostedSend) → items_from q.requester.oldest q.sends ≡ items → IsAtRest w q
      by [] are = inl (ap (numbers_of q.responder.mtu q.requester.oldest q.requester.oldest_psn) are)
      by (p ∷ ps) are =
          let is : is_sending q.state ≡ true = sends p ps are (is_sending q.state) refl
          in of_peer p ps are is q.peer refl (connected is)
