-- What is held once bytes arrived, completions were put and a delivery was counted is what the plan leaves. For proofs only.
use Rattle.std.proofs.Common.{◌≡◌, ◌∙◌, refl, sym, subst, ap, ℕ, Bool, true, false, if◌then◌else◌, List, [], ◌∷◌, ◌++◌, Option, None, Some, Result, Ok, Err, IfSome, append_assoc}
use Rattle.std.proofs.lemmas.Result.{err_from_is_err_and}
use Rattle.std.specs.Option.{option_map}
use Rattle.std.specs.Result.{IsErrAnd}
use Rattle.ca_adapter_turns.specs.ca_adapter_acts.Act.{IsAct}
use Rattle.ca_adapter_turns.specs.ca_adapter_acts.Binders.{changed_by}
use Rattle.ca_adapter_turns.specs.ca_adapter_acts.declared.done.Outlets.{Outlets}
use Rattle.ca_adapter_turns.specs.ca_adapter_acts.Outlets.{completions_by, done_updates, outlets_of, recv_slot, send_slot}
use Rattle.ca_adapter_turns.specs.ca_adapter_acts.Room.{FitIn, FitsDone}
use Rattle.ca_adapter_turns.proofs.of_ca_adapter_acts.DoneLemmas.{of-queue}
use Rattle.ca_adapter_arrivals.specs.Arrived.{CanArrive, HasArrived, outcome_of, shared_updates, with_effects}
use Rattle.ca_adapter_arrivals.proofs.AsideLemmas.{AreAside, aside-first, keys-leave, row-by-key}
use Rattle.ca_adapter_arrivals.proofs.RowLemmas.{Fills, arrival-fills, ends-so}
use Rattle.ca_adapter_turns.proofs.TurnLemmas.{IsAroundHeld, around-held, puts-append, receives-fit, sends-fit}
use Rattle.ca_base.specs.Configuration.{Configuration}
use Rattle.ca_base.specs.declared.completion.Completion.{Completion}
use Rattle.ca_base.specs.declared.step.ActError.{ActError}
use Rattle.ca_base.specs.declared.step.ActError.TheVariants as steps
use Rattle.ca_base.specs.Sight.{Invalidation, Sight}
use Rattle.ca_base.specs.objects.CompletionQueue.{CompletionQueue, after_puts}
use Rattle.ca_base.specs.objects.Mailbox.{Mailbox}
use Rattle.ca_base.specs.objects.QueuePair.{Present, QueuePair, QueueSlot, recv_cq_of, send_cq_of, srq_of}
use Rattle.ca_base.specs.objects.SharedReceives.{SrqSlot, after_receive_take}
use Rattle.ca_adapter_parts.specs.declared.held.Held.{Held}
use Rattle.ca_adapter_parts.specs.HeldView.{Holding, hold, holding}
use Rattle.ca_adapter_reach.specs.AtHand.{CanEnd}
use Rattle.ca_adapter_reach.specs.Changed.{after_end_of, after_write_by}
use Rattle.ca_adapter_reach.specs.Seen.{sight_of}
use Rattle.ca_keys.specs.declared.memory.Memory.{Memory}
use Rattle.ca_keys.specs.declared.names.QueueId.{QueueId}
use Rattle.ca_keys.specs.declared.names.Slot.{Slot}
use Rattle.ca_model.proofs.PerformLemmas.{around-performs, around_at}
use Rattle.ca_model.specs.Marks.{MarkList}
use Rattle.ca_model.specs.declared.mark.Mark.{Mark}
use Rattle.ca_model.specs.declared.mark.Mark.TheVariants as marks
use Rattle.ca_model.specs.machine.Around.{Around, completions_to, cq_updates, shared_in, srq_updates, updates_of}
use Rattle.ca_model.specs.machine.Delivery.{Arrive, arrival_row}
use Rattle.ca_model.specs.machine.Frame.{AllPass}
use Rattle.ca_model.specs.machine.Plan.{Did, Finish, NotReady, Outcome, Plan, Update, Write, names_updated, names_written, perform, put_all, touches, write_all, ◌:=◌}
use Rattle.ca_model.specs.machine.Row.{Does, Effects, Ending, NotPossible, Row, Row_plan, ending_of}
use Rattle.ca_model.specs.machine.Seen.{perform_ending, row_changes, shared_receives, sight_in, writes_in}
use Rattle.ca_model.specs.machine.World.{Cq_of, Mailbox_of, Queue_of, Srq_of, World, put}
use Rattle.ca_responder.specs.ca_responder_operations.Taking.{MayEnd, ended_by, without_key}
use Rattle.ca_adapter_turns.specs.ca_adapter_reach_laws.Ties.{AreWritesAtHand, IsVacantOutside, with_reached}
use Rattle.ca_adapter_turns.proofs.of_ca_adapter_reach_laws.RowLemmas.{behind-pass, row-left, row-seen}
use Rattle.ca_adapter_turns.proofs.of_ca_adapter_reach_laws.SightLemmas.{sights-agree}
use Rattle.ca_adapter_turns.proofs.of_ca_adapter_reach_laws.TouchLemmas.{row-behind}
use Rattle.ca_adapter_turns.proofs.of_ca_adapter_reach_laws.WriteLemmas.{written-at-hand}
use Rattle.ca_responder.specs.ca_qp_rows.Made.{written_all}

-- another mailbox under a name, if there is one
abbrev pub mail_put : QueueId → Option Mailbox → List Update
mail_put name None = []
mail_put name (Some m) = (Mailbox_of name := m) ∷ []

-- what becomes of a queue pair, of what stands around it and of its mailbox
abbrev changes_around : QueueId → QueuePair → World → Effects → Option Mailbox → List Update
changes_around name q w e mail = ((Queue_of name := Present e.queue) ∷ shared_updates q w e) ++ (cq_updates q (around_at w q) e.marks ++ mail_put name mail)

aside-append : (us vs : List Update) → AreAside us → AreAside vs → AreAside (us ++ vs)
aside-append [] vs one two = two
aside-append (u ∷ us) vs one two = (one.0, aside-append us vs one.1 two)

changes-aside : (name : QueueId) (q : QueuePair) (w : World) (e : Effects) (mail : Option Mailbox) → AreAside (changes_around name q w e mail)
changes-aside name q w e mail = (record {}, aside-append (shared_updates q w e) _ (shared e.takes_shared q.srq) (record {}, (record {}, mails mail)))
  where
    shared : (takes : Bool) (o : Option ℕ) → AreAside (if takes then srq_updates (record q { srq = o }) (record {
      send = None;
      recv = None;
      shared = option_map (λ srq. w.srq (srq_of q srq)) o;
    }) after_receive_take else [])
    shared true None = record {}
    shared true (Some srq) = (record {}, record {})
    shared false o = record {}

    mails : (o : Option Mailbox) → AreAside (mail_put name o)
    mails None = record {}
    mails (Some m) = (record {}, record {})

-- they are those of the plan, in another order
in-order : (name : QueueId) (q : QueuePair) (w : World) (e : Effects) (mail : Option Mailbox) → q.queue ≡ name
    → put_all (changes_around name q w e mail) w ≡ put_all (mail_put name mail ++ updates_of q (around_at w q) e) w
in-order name q w e mail named = by mail e.takes_shared q.srq
    ∙ ap (λ n. put_all (mail_put name mail ++ ((Queue_of n := Present e.queue) ∷ cq_updates q (around_at w q) e.marks
    ++ (if e.takes_shared then srq_updates q (around_at w q) after_receive_take else []))) w) (sym named)
  where
    cqs : List Update
    cqs = cq_updates q (around_at w q) e.marks

    by : (mail : Option Mailbox) (takes : Bool) (o : Option ℕ) → put_all (((Queue_of name := Present e.queue) ∷ (if takes then srq_updates (record q { srq = o }) (record {
      send = None;
      recv = None;
      shared = option_map (λ srq. w.srq (srq_of q srq)) o;
    }) after_receive_take else [])) ++ (cqs ++ mail_put name mail)) w
        ≡ put_all (mail_put name mail ++ ((Queue_of name := Present e.queue) ∷ cqs ++ (if takes then srq_updates (record q { srq = o })
        (record (around_at w q) { shared = option_map (λ srq. w.srq (srq_of q srq)) o }) after_receive_take else []))) w
    by None true None = refl
    by None true (Some srq) = refl
    by None false o = refl
    by (Some m) true None = refl
    by (Some m) true (Some srq) = refl
    by (Some m) false o = refl

-- its completion queues are those of the queue pair's changes
mail-aside : (name : QueueId) (q : QueuePair) (w : World) (e : Effects) (mail : Option Mailbox)
    → (put_all (mail_put name mail ++ updates_of q (around_at w q) e) w).cq ≡ (put_all (updates_of q (around_at w q) e) w).cq
mail-aside name q w e mail = by mail e.takes_shared q.srq
  where
    cqs : List Update
    cqs = cq_updates q (around_at w q) e.marks

    all : Bool → Option ℕ → List Update
    all takes o = (Queue_of q.queue := Present e.queue) ∷ cqs ++ (if takes then srq_updates (record q { srq = o })
        (record (around_at w q) { shared = option_map (λ srq. w.srq (srq_of q srq)) o }) after_receive_take else [])

    by : (mail : Option Mailbox) (takes : Bool) (o : Option ℕ) → (put_all (mail_put name mail ++ all takes o) w).cq ≡ (put_all (all takes o) w).cq
    by None takes o = refl
    by (Some m) true None = refl
    by (Some m) true (Some srq) = refl
    by (Some m) false o = refl

-- both completion queues of a queue pair, by its outlets and the completions among marks
done-same : (o : Outlets) (q : QueuePair) (ms es : List Mark) (v w : World) → o ≡ outlets_of q → ((o : Outlets) (n : ℕ) → completions_by o n ms ≡ completions_by o n es)
    → v.cq ≡ w.cq → done_updates o ms v ≡ cq_updates q (around_at w q) es
done-same o q ms es v w outlets quiet same = ap (λ o. done_updates o ms v) outlets
    ∙ ap (λ f. puts f (completions_by (outlets_of q) q.send_cq ms) (completions_by (outlets_of q) q.recv_cq ms)) same
    ∙ ap (λ cs. puts w.cq cs (completions_by (outlets_of q) q.recv_cq ms)) (quiet (outlets_of q) q.send_cq ∙ of-queue q q.send_cq es)
    ∙ ap (puts w.cq (completions_to q q.send_cq es)) (quiet (outlets_of q) q.recv_cq ∙ of-queue q q.recv_cq es)
  where
    puts : (Slot → Option CompletionQueue) → List Completion → List Completion → List Update
    puts f sends receives =
        (Cq_of (send_cq_of q) := option_map (after_puts sends) (f (send_cq_of q)))
        ∷ (Cq_of (recv_cq_of q) := option_map (after_puts receives) (f (recv_cq_of q)))
        ∷ []

module _ (c : Configuration) (h : Held) (name : QueueId) (q : QueuePair) (bytes : List ℕ) (envelope : Option ℕ) (mail : Option Mailbox) (front : List Mark)
    (outside : IsVacantOutside c (holding h).world) where
  abbrev w : World
  w = (holding h).world

  abbrev s : Sight
  s = sight_of h.reached

  abbrev row : Row
  row = arrival_row bytes envelope (shared_receives w q) q

  abbrev finish : Around → Effects → List Update → List Write → Plan
  finish a e more writes = Finish (mail_put name mail ++ (updates_of q a e ++ more)) writes (front ++ marks.Arrived q.queue envelope ∷ e.marks)

  abbrev pub arrival : Plan
  arrival = Arrive c q bytes envelope (mail_put name mail) front

  pub arrive-performs : perform w arrival ≡ perform_ending w s (finish (around_at w q)) (row_changes c w row) (ending_of s row)
  arrive-performs = around-performs w q (λ a. Row_plan c (arrival_row bytes envelope (shared_in a) q) (finish a)) ∙ row-seen c h row (finish (around_at w q)) outside

  module _ (all : AllPass (holding h).has (touches w arrival)) where
    pub around : IsAroundHeld (holding h) q (Row_plan c row (finish (around_at w q)))
    around = around-held (holding h) q (λ a. Row_plan c (arrival_row bytes envelope (shared_in a) q) (finish a)) all

    module _ (can : CanArrive h bytes envelope q) (e : Effects) (does : ending_of s row ≡ Does e) where
      abbrev rc : List Update
      rc = row_changes c w row

      abbrev ws : List Write
      ws = writes_in s e.writes

      -- what keys leave of a world
      abbrev by_keys : World → World
      by_keys v = write_all ws (put_all rc v)

      writes-at-hand : AreWritesAtHand h.reached e.writes
      writes-at-hand = written-at-hand h e.writes (behind-pass (holding h).has (names_updated (mail_put name mail ++ (updates_of q (around_at w q) e ++ rc))) _ named)
          (ends-so Fills s row e (arrival-fills bytes envelope (shared_receives w q) q).fills does)
        where
          seen : sight_in c w ≡ s
          seen = sights-agree c h outside

          named : AllPass (holding h).has (names_updated (mail_put name mail ++ (updates_of q (around_at w q) e ++ rc)) ++ names_written ws)
          named = subst (λ x. AllPass (holding h).has (names_updated (mail_put name mail ++ (updates_of q (around_at w q) e ++ rc)) ++ names_written (writes_in x e.writes))) seen
              (row-behind (holding h).has c w row (finish (around_at w q)) e around.rest (ap (λ x. ending_of x row) seen ∙ does))

      ends-at-hand : IfSome row.invalidation (CanEnd h.reached)
      ends-at-hand = by row.invalidation can.at_hand.ended
        where
          by : (o : Option Invalidation) → IfSome o (MayEnd sight_of CanEnd h.reached q) → IfSome o (CanEnd h.reached)
          by None end = record {}
          by (Some i) end = end.at_hand

      reached-left : holding (with_reached h (without_key after_end_of (ended_by s row) (written_all after_write_by h.reached e.writes))) ≡ record (holding h) { world = by_keys w }
      reached-left = row-left c h row e.writes outside writes-at-hand ends-at-hand

      keys-cq : (v : World) → (by_keys v).cq ≡ v.cq
      keys-cq v = keys-leave (λ v. v.cq) (λ v s y. refl) (λ v s y. refl) (λ v b. refl) rc ws v (row-by-key c w row)

      keys-mail : (v : World) → (by_keys v).mailbox ≡ v.mailbox
      keys-mail v = keys-leave (λ v. v.mailbox) (λ v s y. refl) (λ v s y. refl) (λ v b. refl) rc ws v (row-by-key c w row)

      -- what stands apart from the queue pair and its shared receive queue
      abbrev own : List Update
      own = (Queue_of name := Present e.queue) ∷ shared_updates q w e

      own-leaves : {A : Type 0} (part : World → A) → ((v : World) (n : QueueId) (y : QueueSlot) → part (put v (Queue_of n) y) ≡ part v) → ((v : World) (n : Slot) (y : SrqSlot) → part (put v (Srq_of n) y) ≡ part v)
          → (v : World) → part (put_all own v) ≡ part v
      own-leaves part queue srq v = by e.takes_shared q.srq ∙ queue v name (Present e.queue)
        where
          by : (takes : Bool) (o : Option ℕ) → part (put_all (if takes then srq_updates (record q { srq = o }) (record {
            send = None;
            recv = None;
            shared = option_map (λ srq. w.srq (srq_of q srq)) o;
          }) after_receive_take else []) (put v (Queue_of name) (Present e.queue))) ≡ part (put v (Queue_of name) (Present e.queue))
          by true None = refl
          by true (Some x) = srq (put v (Queue_of name) (Present e.queue)) (srq_of q x) _
          by false o = refl

      -- the world that the plan leaves
      abbrev left : World
      left = write_all ws (put_all (mail_put name mail ++ (updates_of q (around_at w q) e ++ rc)) w)

      abbrev told : List Mark
      told = front ++ marks.Arrived q.queue envelope ∷ e.marks

      performed : perform w arrival ≡ Did left told
      performed = arrive-performs ∙ ap (perform_ending w s (finish (around_at w q)) rc) does

      left-is : left ≡ by_keys (put_all (mail_put name mail ++ updates_of q (around_at w q) e) w)
      left-is = ap (write_all ws) (puts-append (mail_put name mail) (updates_of q (around_at w q) e ++ rc) w
          ∙ puts-append (updates_of q (around_at w q) e) rc (put_all (mail_put name mail) w)
          ∙ ap (put_all rc) (sym (puts-append (mail_put name mail) (updates_of q (around_at w q) e) w)))

      left-cq : left.cq ≡ (put_all (updates_of q (around_at w q) e) w).cq
      left-cq = ap (λ v. v.cq) left-is ∙ keys-cq (put_all (mail_put name mail ++ updates_of q (around_at w q) e) w) ∙ mail-aside name q w e mail

      module _ (is-named : q.queue ≡ name) (quiet : (o : Outlets) (n : ℕ) (ms : List Mark) → completions_by o n (front ++ marks.Arrived q.queue envelope ∷ ms) ≡ completions_by o n ms)
          (mid : Holding) (took : mid ≡ with_effects name q e (ended_by s row) h) (o : Outlets) (outlets : o ≡ outlets_of q) (ms : List Mark) (marked : ms ≡ told) where
        mid-is : mid ≡ record (holding h) { world = put_all own (by_keys w) }
        mid-is = took ∙ ap (changed_by own) reached-left

        mid-cq : mid.world.cq ≡ w.cq
        mid-cq = ap (λ (x : Holding). x.world.cq) mid-is ∙ own-leaves (λ v. v.cq) (λ v n y. refl) (λ v n y. refl) (by_keys w) ∙ keys-cq w

        mid-mail : mid.world.mailbox ≡ w.mailbox
        mid-mail = ap (λ (x : Holding). x.world.mailbox) mid-is ∙ own-leaves (λ v. v.mailbox) (λ v n y. refl) (λ v n y. refl) (by_keys w) ∙ keys-mail w

        -- what stands elsewhere is held as before
        pub arrive-has : mid.has ≡ (holding h).has
        arrive-has = ap (λ (x : Holding). x.has) mid-is

        same-completions : (o : Outlets) (n : ℕ) → completions_by o n ms ≡ completions_by o n e.marks
        same-completions o n = ap (completions_by o n) marked ∙ quiet o n e.marks

        fit : (n : ℕ) (x : Slot) → FitIn (w.cq x) (completions_by o n e.marks) → FitIn (mid.world.cq x) (completions_by o n ms)
        fit n x fits = subst (λ f. FitIn (f x) (completions_by o n ms)) (sym mid-cq) (subst (FitIn (w.cq x)) (sym (same-completions o n)) fits)

        pub arrive-sends : FitsDone w (perform w arrival) → FitIn (mid.world.cq (send_slot o)) (completions_by o o.send ms)
        arrive-sends fits = fit o.send (send_slot o) (sends-fit q name e (holding h) (hold (holding h) (Queue_of name) (Present e.queue)) o e.marks told left refl outlets refl left-cq
            (subst (FitsDone w) performed fits))

        pub arrive-receives : FitsDone w (perform w arrival) → FitIn (mid.world.cq (recv_slot o)) (completions_by o o.recv ms)
        arrive-receives fits = fit o.recv (recv_slot o) (receives-fit q name e (holding h) (hold (holding h) (Queue_of name) (Present e.queue)) o e.marks told left refl outlets refl left-cq
            (subst (FitsDone w) performed fits))

        module _ (done : Holding) (putting : done ≡ changed_by (done_updates o ms mid.world) mid) where
          pub arrive-mail : done.world.mailbox ≡ w.mailbox
          arrive-mail = ap (λ (x : Holding). x.world.mailbox) putting ∙ mid-mail

          pub arrive-still : done.has ≡ (holding h).has
          arrive-still = ap (λ (x : Holding). x.has) putting ∙ arrive-has

          done-is : done ≡ record (holding h) { world = put_all (cq_updates q (around_at w q) e.marks) (put_all own (by_keys w)) }
          done-is = putting ∙ ap (λ us. changed_by us mid) (done-same o q ms e.marks mid.world w outlets same-completions mid-cq)
              ∙ ap (changed_by (cq_updates q (around_at w q) e.marks)) mid-is

          pub arrive-acts : (new : Holding) (m : MarkList) → new ≡ changed_by (mail_put name mail) done → m.marks ≡ ms → IsAct (Ok m) (perform w arrival) (holding h) new
          arrive-acts new m counted made = subst (λ out. IsAct (Ok m) out (holding h) new) (sym performed) (
            made ∙ marked,
            counted ∙ ap (changed_by (mail_put name mail)) done-is ∙ ap (λ v. record (holding h) { world = v }) (
                sym (puts-append (cq_updates q (around_at w q) e.marks) (mail_put name mail) (put_all own (by_keys w)))
                ∙ sym (puts-append own (cq_updates q (around_at w q) e.marks ++ mail_put name mail) (by_keys w))
                ∙ sym (aside-first (changes_around name q w e mail) rc ws w (changes-aside name q w e mail) (row-by-key c w row))
                ∙ ap by_keys (in-order name q w e mail is-named)
                ∙ sym left-is),
          )

-- What is known as bytes are to arrive: the plan comes to their arrival, all that this touches is held, and they may meet the queue pair
pub record IsToArrive (c : Configuration) (h : Held) (name : QueueId) (q : QueuePair) (bytes : List ℕ) (envelope : Option ℕ) (mail : Option Mailbox) (front : List Mark) (plan : Plan) : Type 0 where
  pub outside : IsVacantOutside c (holding h).world
  pub comes : perform (holding h).world plan ≡ perform (holding h).world (Arrive c q bytes envelope (mail_put name mail) front)
  pub touched : AllPass (holding h).has (touches (holding h).world (Arrive c q bytes envelope (mail_put name mail) front))
  pub can : CanArrive h bytes envelope q
  pub named : q.queue ≡ name
  pub quiet : (o : Outlets) (n : ℕ) (ms : List Mark) → completions_by o n (front ++ marks.Arrived q.queue envelope ∷ ms) ≡ completions_by o n ms

-- bytes arrived, with these effects of their row
record IsDone (name : QueueId) (ending : Ending) (ended : Option Invalidation) (q : QueuePair) (h : Held) (mid : Holding) (before made : MarkList) : Type 0 where
  effects : Effects
  does : ending ≡ Does effects
  marks : made.marks ≡ before.marks ++ effects.marks
  put : mid ≡ with_effects name q effects ended h

arrived-ok : (name : QueueId) (ending : Ending) (ended : Option Invalidation) (q : QueuePair) (h : Held) (mid : Holding) (before made : MarkList) (result : Unit {0})
    → HasArrived name (Ok result) ending ended q h mid before made → IsDone name ending ended q h mid before made
arrived-ok name (Does e) ended q h mid before made result arrived = record { effects = e; does = refl; marks = arrived.0; put = arrived.1 }
arrived-ok name (NotPossible reason) ended q h mid before made result arrived = absurd arrived

module _ (c : Configuration) (h : Held) (name : QueueId) (q : QueuePair) (bytes : List ℕ) (envelope : Option ℕ) (mail : Option Mailbox) (front : List Mark) (plan : Plan)
    (ready : IsToArrive c h name q bytes envelope mail front plan) where
  -- memory ended
  pub ends_unchanged : (new : Holding) (before made : MarkList) (memory : Memory)
      → HasArrived name (Err memory) (outcome_of h bytes envelope q).ending (outcome_of h bytes envelope q).ended q h new before made
      → (result : Result MarkList ActError) → IsErrAnd result (λ e. e ≡ steps.Memory) → IsAct result (perform (holding h).world plan) (holding h) new
  ends_unchanged new before made memory same result failed = let p = err_from_is_err_and result failed
      in subst (λ r. IsAct r (perform (holding h).world plan) (holding h) new) (sym (p.1 ∙ ap Err p.2)) (by (perform (holding h).world plan))
    where
      by : (out : Outcome) → IsAct (Err steps.Memory) out (holding h) new
      by (NotReady reason) = same
      by (Did v ms) = same

  module _ (mid : Holding) (before made : MarkList) (result : Unit {0}) (first : before.marks ≡ front ++ marks.Arrived q.queue envelope ∷ [])
      (arrived : HasArrived name (Ok result) (outcome_of h bytes envelope q).ending (outcome_of h bytes envelope q).ended q h mid before made)
      (o : Outlets) (outlets : o ≡ outlets_of q) (ms : List Mark) (is-ms : ms ≡ made.marks) where
    is-done : IsDone name (outcome_of h bytes envelope q).ending (outcome_of h bytes envelope q).ended q h mid before made
    is-done = arrived-ok name (outcome_of h bytes envelope q).ending (outcome_of h bytes envelope q).ended q h mid before made result arrived

    marked : ms ≡ front ++ marks.Arrived q.queue envelope ∷ is-done.effects.marks
    marked = is-ms ∙ is-done.marks ∙ ap (λ xs. xs ++ is-done.effects.marks) first ∙ append_assoc front (marks.Arrived q.queue envelope ∷ []) is-done.effects.marks

    has-same : mid.has ≡ (holding h).has
    has-same = arrive-has c h name q bytes envelope mail front ready.outside ready.touched ready.can is-done.effects is-done.does ready.named ready.quiet mid is-done.put o outlets ms marked

    pub send_held : mid.has (Cq_of (send_slot o)) ≡ true
    send_held = subst (λ f. f (Cq_of (send_slot o)) ≡ true) (sym has-same)
        (subst (λ o. (holding h).has (Cq_of (send_slot o)) ≡ true) (sym outlets) (around c h name q bytes envelope mail front ready.outside ready.touched).send)

    pub recv_held : mid.has (Cq_of (recv_slot o)) ≡ true
    recv_held = subst (λ f. f (Cq_of (recv_slot o)) ≡ true) (sym has-same)
        (subst (λ o. (holding h).has (Cq_of (recv_slot o)) ≡ true) (sym outlets) (around c h name q bytes envelope mail front ready.outside ready.touched).recv)

    pub sends_fit : FitsDone (holding h).world (perform (holding h).world plan) → FitIn (mid.world.cq (send_slot o)) (completions_by o o.send ms)
    sends_fit fits = arrive-sends c h name q bytes envelope mail front ready.outside ready.touched ready.can is-done.effects is-done.does ready.named ready.quiet mid is-done.put o outlets ms marked
        (subst (FitsDone (holding h).world) ready.comes fits)

    pub receives_fit : FitsDone (holding h).world (perform (holding h).world plan) → FitIn (mid.world.cq (recv_slot o)) (completions_by o o.recv ms)
    receives_fit fits = arrive-receives c h name q bytes envelope mail front ready.outside ready.touched ready.can is-done.effects is-done.does ready.named ready.quiet mid is-done.put o outlets ms marked
        (subst (FitsDone (holding h).world) ready.comes fits)

    module _ (done : Holding) (putting : done ≡ changed_by (done_updates o ms mid.world) mid) where
      pub mail_same : done.world.mailbox ≡ (holding h).world.mailbox
      mail_same = arrive-mail c h name q bytes envelope mail front ready.outside ready.touched ready.can is-done.effects is-done.does ready.named ready.quiet mid is-done.put o outlets ms marked done putting

      pub all_held : done.has ≡ (holding h).has
      all_held = arrive-still c h name q bytes envelope mail front ready.outside ready.touched ready.can is-done.effects is-done.does ready.named ready.quiet mid is-done.put o outlets ms marked done putting

      pub acts : (new : Holding) → new ≡ changed_by (mail_put name mail) done → IsAct (Ok made) (perform (holding h).world plan) (holding h) new
      acts new counted = subst (λ out. IsAct (Ok made) out (holding h) new) (sym ready.comes)
          (arrive-acts c h name q bytes envelope mail front ready.outside ready.touched ready.can is-done.effects is-done.does ready.named ready.quiet mid is-done.put o outlets ms marked done putting new made counted (sym is-ms))
