-- A delivery tells of the success of an atomic only where the link had accepted it. For proofs only.
use Rattle.std.proofs.Common.{◌≡◌, ℕ, suc, ◌%◌, ◌^◌, ◌<◌, ◌≤◌, Bool, true, false, List, [], ◌∷◌, ◌++◌, Option, None, Some, IfSome, is_some, slice_get, refl, ap, sym, subst, ◌∙◌, arith, true≢false}
use Rattle.std.specs.List.{AllByRecursion, Contains}
use Rattle.std.specs.Option.{option_and_then}
use Rattle.ca_connection.specs.Once.{acceptances_of_request}
use Rattle.ca_law_endings.proofs.LeadsLemmas.{leads-around, leads-row}
use Rattle.ca_law_endings.specs.Runs.{Leads}
use Rattle.ca_base.specs.Configuration.{Configuration}
use Rattle.ca_base.specs.declared.change.State.{State}
use Rattle.ca_base.specs.declared.change.State.TheVariants as states
use Rattle.ca_base.specs.declared.correspondent.Correspondent.{Correspondent}
use Rattle.ca_base.specs.declared.step.Reason.TheVariants as reasons
use Rattle.ca_base.specs.objects.Mailbox.{Mailbox, after_delivery, bytes_lent, later_than}
use Rattle.ca_base.specs.objects.QueuePair.{QueuePair, QueueSlot, NoQueue, Present, incarnation_of}
use Rattle.ca_base.specs.objects.SharedReceives.{SharedReceives, SrqSlot}
use Rattle.ca_connection.proofs.LayoutLemmas.{first-is_atomic}
use Rattle.ca_connection.proofs.ListLemmas.{contains-head}
use Rattle.ca_connection.proofs.OnceLemmas.{law-completed, law-numbers}
use Rattle.ca_connection.specs.Layout.{Direction, first, is_atomic, start}
use Rattle.ca_connection.specs.Link.{Link, Requester, Responder, Response, number_of}
use Rattle.ca_connection.specs.Invariant.{NumberFact}
use Rattle.ca_connection.specs.Moves.{MayBeTaken, with_one}
use Rattle.ca_keys.specs.Equal.{queue_eq}
use Rattle.ca_keys.specs.declared.names.QueueId.{QueueId}
use Rattle.ca_law_world.proofs.Sound.RespondLemmas.{arrival-good}
use Rattle.ca_law_world.proofs.Sound.SettledLemmas.{queue-path}
use Rattle.ca_law_world.proofs.Sound.GoodLemmas.{IsGood}
use Rattle.ca_law_world.proofs.Sound.WorldLemmas.{around_in, row-does, shared_of, sound-shared}
use Rattle.ca_law_world.specs.Steady.{IsSteadyQueue, IsSteadySlot, IsSteadyWorld}
use Rattle.ca_model.specs.declared.mark.Mark.{Mark}
use Rattle.ca_model.specs.declared.mark.Mark.TheVariants as marks
use Rattle.ca_model.specs.machine.Around.{Around, shared_in, updates_of}
use Rattle.ca_model.specs.machine.Delivery.{Arrive, arrival_row, deliver_plan}
use Rattle.ca_model.specs.machine.Invariants.{IsSharedReceives, is_connected, is_sending}
use Rattle.ca_model.specs.machine.Plan.{Finish, Look, Plan, Stuck, Update, ◌:=◌, Write, put_all, write_all}
use Rattle.ca_model.specs.machine.Row.{Effects, Row, Row_plan}
use Rattle.ca_model.specs.machine.Sound.{IsSoundWorld}
use Rattle.ca_model.specs.machine.World.{Mailbox_of, Queue_of, World, put}
use Rattle.ca_psn.specs.Psn.{widened}
use Rattle.ca_law_once.proofs.Ties.DeliverLemmas.{present-same}
use Rattle.ca_law_once.proofs.Ties.DeliverWalk.{Ends, ends-as, ends-do, row-ends}
use Rattle.ca_law_once.proofs.Ties.EntryLemmas.{EntryIs, IsLent, entry-at, lent-envelope, lent-recent}
use Rattle.ca_law_once.proofs.Ties.TimerLemmas.{IsFoundAt, found-at}
use Rattle.ca_law_once.specs.Ties.{AreEntries, IsPaired, IsTied, RequesterTie, SenderTie}
use Rattle.ca_law_once.specs.Ties.IsBefore.{sooner, unnamed}
use Rattle.ca_law_once.specs.Ties.IsOver.{later, vacant}
use Rattle.ca_law_once.specs.Ties.SenderTie.{before as sender_before, standing as sender_standing, gone as sender_gone}
use Rattle.ca_law_once.proofs.Rows.ArrivalLemmas.{other-request-stays, response-taken}
use Rattle.ca_law_once.proofs.Rows.LinkLemmas.{taken-moves}
use Rattle.ca_law_once.specs.Entries.{SpellsResponse, SpellsSomeRequest}
use Rattle.ca_law_once.specs.Links.{IsTaken}
use Rattle.ca_law_once.specs.Moves.{StaysIn, TakesIn}
use Rattle.ca_law_once.specs.Sides.{IsLaid, requester_in}
use Rattle.ca_law_once.proofs.Success.ArrivalTells.{ArrivalTold, arrival-told, finishes-beyond, finishes-sending, own-tell}
use Rattle.ca_law_once.proofs.Success.FoundLemmas.{all-found}
use Rattle.ca_law_once.proofs.Success.ResponseTells.{Finishes}
use Rattle.ca_law_once.proofs.Success.TakeLemmas.{IsOwn, one-found, own-response}
use Rattle.ca_law_once.proofs.Success.TellLemmas.{AllTell}
use Rattle.ca_law_once.specs.Lists.{AtomicListsFit, ListFits, SlotListsFit}
use Rattle.ca_law_once.specs.Success.{AreFound, IsFoundAndPut}
use Rattle.ca_law_once.specs.Agrees.{IsInLife}

pub shares : (o : Option SrqSlot) → IfSome o (λ slot. IfSome slot.srq IsSharedReceives) → IfSome (option_and_then (λ s. s.srq) o) IsSharedReceives
shares None sound = record {}
shares (Some slot) sound = sound

-- a delivery, by an ending of its row, with its marks
pub leads-delivered : (c : Configuration) (w : World) (P : World → List Mark → Type 0) (name : QueueId) (index : ℕ) → IsSoundWorld c w
    → ((q : QueuePair) (bytes : List ℕ) (shared : Option SharedReceives) (e : Effects) (v : World) → IsFoundAt w name q → bytes_lent index (w.mailbox name) ≡ Some bytes → Ends (arrival_row bytes (Some index) shared q) e
    → AllTell q.queue (λ place. Unit {0}) e.marks → P v (marks.Arrived q.queue (Some index) ∷ e.marks)) → Leads w P (deliver_plan c name index)
leads-delivered c w P name index sound more = (λ has. lent (bytes_lent index m) refl, λ none. record {})
  where
    m : Mailbox
    m = w.mailbox name

    after : Mailbox
    after = after_delivery index m

    at : List ℕ → QueueSlot → Plan
    at bytes (NoQueue incarnation timers) = Stuck reasons.NotKept
    at bytes (Present q) = Arrive c q bytes (Some index) ((Mailbox_of name := after) ∷ []) []

    under_way : Option (List ℕ) → Plan
    under_way None = Stuck reasons.NotKept
    under_way (Some bytes) = Look (Queue_of name) (at bytes)

    arrives : (bytes : List ℕ) (q : QueuePair) → w.queue name ≡ Present q → bytes_lent index m ≡ Some bytes → Leads w P (Arrive c q bytes (Some index) ((Mailbox_of name := after) ∷ []) [])
    arrives bytes q is lent = leads-around w P q (λ a. Row_plan c (row a) (finish a)) (leads-row c w P (Ends (row a)) (row a) (finish a) (row-ends (row a)) (λ e cs ws ends aside.
        more q bytes (shared_in a) e (write_all ws (put_all (updates_of q a e ++ cs) (put w (Mailbox_of name) after))) there lent ends (own e ends)))
      where
        a : Around
        a = around_in w q (shared_of w q)

        row : Around → Row
        row a = arrival_row bytes (Some index) (shared_in a) q

        finish : Around → Effects → List Update → List Write → Plan
        finish a e cs ws = Finish (((Mailbox_of name := after) ∷ []) ++ (updates_of q a e ++ cs)) ws ([] ++ marks.Arrived q.queue (Some index) ∷ e.marks)

        there : IsFoundAt w name q
        there = found-at c w name q sound is

        own : (e : Effects) → Ends (row a) e → AllTell q.queue (λ place. Unit {0}) e.marks
        own e ends = let good : IsGood q e = ends-do (IsGood q) (row a) e ends (ends-as (IsGood q) (row a) (row-does q (row a) (arrival-good bytes (Some index) (shared_in a) q there.sound (shares (shared_of w q) (sound-shared c w q sound))))) in
            own-tell q e.queue e.marks good.later.queue good.settled

    slot : (bytes : List ℕ) → bytes_lent index m ≡ Some bytes → (s : QueueSlot) → w.queue name ≡ s → Leads w P (at bytes s)
    slot bytes lent (NoQueue incarnation timers) is = record {}
    slot bytes lent (Present q) is = arrives bytes q is lent

    lent : (o : Option (List ℕ)) → bytes_lent index m ≡ o → Leads w P (under_way o)
    lent None is = record {}
    lent (Some bytes) is = slot bytes is (w.queue name) refl

pub sending-connected : (t : State) → is_sending t ≡ true → is_connected t ≡ true
sending-connected states.Rts is = refl
sending-connected states.Sqd is = refl
sending-connected states.Reset is = absurd (true≢false (sym is))
sending-connected states.Init is = absurd (true≢false (sym is))
sending-connected states.Rtr is = absurd (true≢false (sym is))
sending-connected states.Error is = absurd (true≢false (sym is))

module _ (d : Direction) (s r : Correspondent) (c : Configuration) (w : World) (l : Link) (name : QueueId) (index : ℕ) (sound : IsSoundWorld c w) (steady : IsSteadyWorld w) (lists : AtomicListsFit w) (tied : IsTied d s r w l) where
  -- the delivery at the life that sends
  delivered : (q : QueuePair) (bytes : List ℕ) (shared : Option SharedReceives) (e : Effects) → IsFoundAt w name q → IsLent index (w.mailbox name) bytes → Ends (arrival_row bytes (Some index) shared q) e
      → AllTell q.queue (λ place. Unit {0}) e.marks → SenderTie d s r (Present q) (w.mailbox name) l.requester l.responses → AreFound d s w l (marks.Arrived q.queue (Some index) ∷ e.marks) e.marks
  delivered q bytes shared e there lent ends own tie = by tie
    where
      all : List Mark
      all = marks.Arrived q.queue (Some index) ∷ e.marks

      k : ℕ
      k = later_than index (w.mailbox name)

      here : IsInLife w s q.queue → q.incarnation ≡ s.incarnation
      here life = ap incarnation_of (sym there.is) ∙ ap (λ n. incarnation_of (w.queue n)) (sym there.named) ∙ life.incarnation

      steady_q : IsSteadyQueue q
      steady_q = subst IsSteadySlot there.is (steady name)

      lists_q : AllByRecursion ListFits q.sends.items
      lists_q = subst SlotListsFit there.is (lists name)

      elsewhere : (IsInLife w s q.queue → ⊥) → AreFound d s w l all e.marks
      elsewhere other = all-found d s w l all q.queue (λ place. Unit {0}) (λ place is life. absurd (other life)) e.marks own

      told : (is_sending q.state ≡ true → IsLaid d q) → ArrivalTold d q bytes e
      told laid = ends-do (ArrivalTold d q bytes) (arrival_row bytes (Some index) shared q) e ends (arrival-told d bytes (Some index) shared q there.sound laid lists_q)

      standing : (t : QueuePair) → IsPaired d s r (Present q) t → (own : RequesterTie d q l.requester) → AreEntries SpellsResponse SpellsSomeRequest (w.mailbox name).envelopes l.responses → (place : ℕ) → Finishes d q e.queue place
          → is_atomic (d.work place) ≡ true → (o : Option (Option Response)) → slice_get l.responses k ≡ o → EntryIs SpellsResponse SpellsSomeRequest o bytes → IsFoundAndPut d l place all
      standing t paired own entries place finishes atomic None at entry = absurd entry
      standing t paired own entries place finishes atomic (Some None) at entry = absurd (omega (arith, finishes.2, beyond, ap (λ (z : Requester). z.una) does.requester))
        where
          beyond : q.requester.una < first d (suc place)
          beyond = finishes-beyond d q e.queue place there.sound steady_q (own.laid (finishes-sending d q e.queue place there.sound steady_q finishes)) finishes

          does : StaysIn d (requester_in q) e
          does = ends-do (StaysIn d (requester_in q)) (arrival_row bytes (Some index) shared q) e ends (other-request-stays d bytes (Some index) shared q own.laid entry)
      standing t paired own entries place finishes atomic (Some (Some a)) at entry = record {
        found = is.found;
        alone = one-found place (first d place) is.found l.acceptances (subst (λ xs. acceptances_of_request place xs ≡ 1) after.acceptances once.0)
            (subst (λ xs. Contains xs (record { number = first d place; place = place; found = is.found })) after.acceptances once.1);
        put = (told own.laid).puts is.number is.found (subst (λ a. SpellsResponse a bytes) is.says entry) (omega (arith, number, finishes.2, first-is_atomic d place atomic)) (omega (arith, beyond, finishes.2));
      }
        where
          sending : is_sending q.state ≡ true
          sending = finishes-sending d q e.queue place there.sound steady_q finishes

          beyond : q.requester.una < first d (suc place)
          beyond = finishes-beyond d q e.queue place there.sound steady_q (own.laid sending) finishes

          same : l.requester ≡ requester_in q
          same = own.sending sending

          does : TakesIn d a (widened l.requester.una (number_of a % 2 ^ 24)) l.requester e
          does = subst (λ (z : Requester). TakesIn d a (widened z.una (number_of a % 2 ^ 24)) z e) (sym same)
              (ends-do (TakesIn d a (widened q.requester.una (number_of a % 2 ^ 24)) (requester_in q)) (arrival_row bytes (Some index) shared q) e ends (response-taken d a bytes (Some index) shared q there.sound own.laid entry))

          may : MayBeTaken l k a
          may = record { is = at; recent = lent-recent index (w.mailbox name) bytes (sound.things (Mailbox_of name)) lent }

          after : IsTaken d l (requester_in e.queue) does.completion
          after = (taken-moves d l k a e tied.reached may does).1

          is : IsOwn d a (widened l.requester.una (number_of a % 2 ^ 24)) place does.completion
          is = own-response d a (widened l.requester.una (number_of a % 2 ^ 24)) place l.requester (requester_in e.queue) does.completion atomic does.takes (omega (arith, beyond, ap (λ (z : Requester). z.una) same)) finishes.2

          completed : Contains after.link.completions (record { place = place; found = is.found })
          completed = subst (λ xs. Contains xs (record { place = place; found = is.found })) (sym (after.completions ∙ ap (λ o. with_one o l.completions) is.completes))
              (contains-head (record { place = place; found = is.found }) l.completions)

          once : (acceptances_of_request place after.link.acceptances ≡ 1) × Contains after.link.acceptances (record { number = first d place; place = place; found = is.found })
          once = law-completed d after.link place is.found after.reached completed

          number : widened q.requester.una (is.number % 2 ^ 24) ≡ first d place
          number = ap (λ (z : Requester). widened z.una (is.number % 2 ^ 24)) (sym same) ∙ ap (λ a. widened l.requester.una (number_of a % 2 ^ 24)) (sym is.says) ∙ is.at

      -- what finishes was accepted: `una` never goes beyond the expected number
      passes : (t : QueuePair) → IsPaired d s r (Present q) t → (own : RequesterTie d q l.requester) → (place : ℕ) → Finishes d q e.queue place
          → (o : Option (Option Response)) → slice_get l.responses k ≡ o → EntryIs SpellsResponse SpellsSomeRequest o bytes → first d (suc place) ≤ l.responder.expected
      passes t paired own place finishes None at entry = absurd entry
      passes t paired own place finishes (Some None) at entry = absurd (omega (arith, finishes.2, beyond, ap (λ (z : Requester). z.una) does.requester))
        where
          beyond : q.requester.una < first d (suc place)
          beyond = finishes-beyond d q e.queue place there.sound steady_q (own.laid (finishes-sending d q e.queue place there.sound steady_q finishes)) finishes

          does : StaysIn d (requester_in q) e
          does = ends-do (StaysIn d (requester_in q)) (arrival_row bytes (Some index) shared q) e ends (other-request-stays d bytes (Some index) shared q own.laid entry)
      passes t paired own place finishes (Some (Some a)) at entry =
          omega (arith, finishes.2, ap (λ (z : Requester). z.una) after.requester_is, ap (λ (z : Responder). z.expected) after.responder_is, chain.una_response_top, chain.response_top_expected)
        where
          sending : is_sending q.state ≡ true
          sending = finishes-sending d q e.queue place there.sound steady_q finishes

          same : l.requester ≡ requester_in q
          same = own.sending sending

          does : TakesIn d a (widened l.requester.una (number_of a % 2 ^ 24)) l.requester e
          does = subst (λ (z : Requester). TakesIn d a (widened z.una (number_of a % 2 ^ 24)) z e) (sym same)
              (ends-do (TakesIn d a (widened q.requester.una (number_of a % 2 ^ 24)) (requester_in q)) (arrival_row bytes (Some index) shared q) e ends (response-taken d a bytes (Some index) shared q there.sound own.laid entry))

          may : MayBeTaken l k a
          may = record { is = at; recent = lent-recent index (w.mailbox name) bytes (sound.things (Mailbox_of name)) lent }

          after : IsTaken d l (requester_in e.queue) does.completion
          after = (taken-moves d l k a e tied.reached may does).1

          chain : NumberFact (start d) after.link.requester.una after.link.requester.cursor after.link.response_top after.link.responder.expected after.link.request_top
          chain = law-numbers d after.link after.reached

      by : SenderTie d s r (Present q) (w.mailbox name) l.requester l.responses → AreFound d s w l all e.marks
      by (sender_before (sooner less) opens none) = elsewhere (λ life. omega (arith, less, here life))
      by (sender_before (unnamed t is same nobody) opens none) = all-found d s w l all q.queue (Finishes d q e.queue)
          (λ place finishes life. absurd (named (finishes-sending d q e.queue place there.sound steady_q finishes))) e.marks (told (λ sending. absurd (named sending))).tells
        where
          named : is_sending q.state ≡ true → ⊥
          named sending = true≢false (sym (there.sound.connected (sending-connected q.state sending)) ∙ ap (λ (x : QueuePair). is_some x.peer) (present-same q t is) ∙ ap is_some nobody)
      by (sender_gone (later more) none) = elsewhere (λ life. omega (arith, more, here life))
      by (sender_gone (vacant gone same) none) = absurd (true≢false gone)
      by (sender_standing t paired stood entries) = all-found d s w l all q.queue (Finishes d q e.queue)
          (λ place finishes life. record {
            atomic = λ atomic. standing t paired own_tie entries place finishes atomic (slice_get l.responses k) refl entry;
            passed = λ bears. passes t paired own_tie place finishes (slice_get l.responses k) refl entry;
          }) e.marks (told own_tie.laid).tells
        where
          entry : EntryIs SpellsResponse SpellsSomeRequest (slice_get l.responses k) bytes
          entry = subst (EntryIs SpellsResponse SpellsSomeRequest (slice_get l.responses k)) lent.brings (entry-at SpellsResponse SpellsSomeRequest (w.mailbox name).envelopes l.responses k lent.envelope entries lent.at)

          own_tie : RequesterTie d q l.requester
          own_tie = subst (λ t. RequesterTie d t l.requester) (sym (present-same q t paired.present)) stood

  pub deliver-leads : Leads w (λ v ms. AreFound d s w l ms ms) (deliver_plan c name index)
  deliver-leads = leads-delivered c w (λ v ms. AreFound d s w l ms ms) name index sound (λ q bytes shared e v there lent ends own. (record {}, at q bytes shared e there (lent-envelope index (w.mailbox name) bytes lent) ends own (queue_eq name s.queue) refl))
    where
      at : (q : QueuePair) (bytes : List ℕ) (shared : Option SharedReceives) (e : Effects) → IsFoundAt w name q → IsLent index (w.mailbox name) bytes → Ends (arrival_row bytes (Some index) shared q) e
          → AllTell q.queue (λ place. Unit {0}) e.marks → (b : Bool) → queue_eq name s.queue ≡ b → AreFound d s w l (marks.Arrived q.queue (Some index) ∷ e.marks) e.marks
      at q bytes shared e there lent ends own true here = delivered q bytes shared e there lent ends own
          (subst (λ z. SenderTie d s r z (w.mailbox name) l.requester l.responses) there.is (subst (λ n. SenderTie d s r (w.queue n) (w.mailbox n) l.requester l.responses) (sym (queue-path name s.queue here)) tied.sender))
      at q bytes shared e there lent ends own false none = all-found d s w l (marks.Arrived q.queue (Some index) ∷ e.marks) q.queue (λ place. Unit {0})
          (λ place is life. absurd (true≢false (sym life.named ∙ ap (λ n. queue_eq n s.queue) there.named ∙ none))) e.marks own
