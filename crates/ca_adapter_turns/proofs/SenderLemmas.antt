-- What a turn that sends comes to, by what is held: its row writes nothing, takes no receive, and ends no key. For proofs only.
use Rattle.std.proofs.Common.{◌≡◌, ◌∙◌, refl, sym, subst, ap, ℕ, ◌≤◌, false, List, [], ◌++◌, map, Ok, Err, Option, None, Some}
use Rattle.std.specs.Option.{option_and_then, option_map_or}
use Rattle.ca_adapter_acts.specs.Act.{IsAct}
use Rattle.ca_adapter_acts.specs.Binders.{changed_by}
use Rattle.ca_adapter_acts.specs.declared.done.Outlets.{Outlets}
use Rattle.ca_adapter_acts.specs.Outlets.{completions_by, done_updates, outlets_of, recv_slot, send_slot}
use Rattle.ca_adapter_acts.specs.Room.{FitIn, FitsDone}
use Rattle.ca_base.specs.Configuration.{Configuration}
use Rattle.ca_base.specs.declared.correspondent.Correspondent.{Correspondent}
use Rattle.ca_base.specs.declared.denied_ask.DeniedAsk.{DeniedAsk}
use Rattle.ca_base.specs.declared.lot.Lot.{Lot}
use Rattle.ca_base.specs.declared.refusals.OpRefusal.{OpRefusal}
use Rattle.ca_base.specs.declared.step.Sent.{Sent}
use Rattle.ca_base.specs.declared.step.ActError.{ActError}
use Rattle.ca_base.specs.declared.step.ActError.TheVariants as steps
use Rattle.ca_base.specs.Sight.{Sight, bytes_in, first_denied}
use Rattle.ca_base.specs.objects.QueuePair.{Present, QueuePair}
use Rattle.ca_adapter_parts.specs.declared.held.Held.{Held}
use Rattle.ca_adapter_parts.specs.HeldView.{Holding, hold, holding}
use Rattle.ca_adapter_reach.specs.Changed.{after_write_by}
use Rattle.ca_adapter_reach.specs.Seen.{sight_of}
use Rattle.ca_keys.specs.declared.names.QueueId.{QueueId}
use Rattle.ca_model.proofs.PerformLemmas.{around_at}
use Rattle.ca_model.specs.Marks.{MarkList}
use Rattle.ca_model.specs.declared.mark.Mark.{Mark}
use Rattle.ca_model.specs.declared.marks.TheConstants.{SPARE_MARKS}
use Rattle.ca_model.specs.machine.Around.{updates_of}
use Rattle.ca_model.specs.machine.Plan.{Did, NotReady, Outcome, Plan, Update, Write, perform, put_all}
use Rattle.ca_model.specs.machine.Row.{Does, Effects, Ending, NotPossible, Row, Row_plan, ending_of, unless_none}
use Rattle.ca_model.specs.machine.Seen.{ending_changes, perform_ending, refusal_in, row_changes, sight_in, writes_in}
use Rattle.ca_model.specs.machine.Turns.{Leave_plan, packet_sent, sent_marks, sent_updates}
use Rattle.ca_model.specs.machine.World.{Queue_of, World}
use Rattle.ca_adapter_reach_laws.specs.Ties.{IsVacantOutside, with_reached}
use Rattle.ca_adapter_reach_laws.proofs.RowLemmas.{row-seen}
use Rattle.ca_requester.specs.ca_qp_rows.Made.{IsUnable, written_all}
use Rattle.ca_adapter_turns.specs.Stepped.{HasTurned, packet_of}
use Rattle.ca_adapter_turns.proofs.TurnLemmas.{gone, mail-aside, marks-gone, receives-fit, sends-fit}

-- a row that writes nothing, takes no receive, and ends no key
pub record IsQuiet (row : Row) : Type 0 where
  pub key : row.invalidation ≡ None
  pub ends : (s : Sight) (e : Effects) → ending_of s row ≡ Does e → (e.writes ≡ []) × (e.takes_shared ≡ false)

-- what an ending does
abbrev pub Quietly : Ending → Type 0
Quietly (NotPossible reason) = Unit {0}
Quietly (Does e) = (e.writes ≡ []) × (e.takes_shared ≡ false)

quiet-ending : (e : Effects) (x : Ending) → Quietly x → x ≡ Does e → (e.writes ≡ []) × (e.takes_shared ≡ false)
quiet-ending e x quiet is = subst Quietly is quiet

pub quiet-row : (row : Row) → row.invalidation ≡ None → ((d : DeniedAsk) → Quietly (row.denied d)) → ((bytes : List (List ℕ)) (refusal : Option OpRefusal) → Quietly (row.allowed bytes refusal)) → IsQuiet row
quiet-row row key denied allowed = record { key = key; ends = λ s e is. quiet-ending e (ending_of s row) (by s (first_denied s row.asks)) is }
  where
    ending : Sight → Option DeniedAsk → Ending
    ending s (Some d) = row.denied d
    ending s None = row.allowed (map (bytes_in s) row.asks) (option_and_then s.refusal row.invalidation)

    by : (s : Sight) (o : Option DeniedAsk) → Quietly (ending s o)
    by s (Some d) = denied d
    by s None = allowed (map (bytes_in s) row.asks) (option_and_then s.refusal row.invalidation)

-- the row changes no key
no-changes : (c : Configuration) (w : World) (row : Row) → row.invalidation ≡ None → row_changes c w row ≡ []
no-changes c w row key = by (first_denied (sight_in c w) row.asks)
  where
    changed : Option DeniedAsk → List Update
    changed (Some d) = []
    changed None = option_map_or (λ i. unless_none (refusal_in c w i) (ending_changes c w i)) row.invalidation []

    by : (d : Option DeniedAsk) → changed d ≡ []
    by (Some d) = refl
    by None = ap (λ o. option_map_or (λ i. unless_none (refusal_in c w i) (ending_changes c w i)) o []) key

-- a turn was done, with these effects of its row
pub record IsTurned (name : QueueId) (sent : Sent) (ending : Ending) (h : Held) (new : Holding) (before after : MarkList) (bytes : List ℕ) : Type 0 where
  pub effects : Effects
  pub does : ending ≡ Does effects
  pub sends : sent ≡ effects.sent
  pub put : new ≡ hold (holding (with_reached h (written_all after_write_by h.reached effects.writes))) (Queue_of name) (Present effects.queue)
  pub marks : after.marks ≡ before.marks ++ effects.marks
  pub room : SPARE_MARKS ≤ after.room
  pub spelt : bytes ≡ effects.spelt

pub turned-ok : (name : QueueId) (sent : Sent) (ending : Ending) (h : Held) (new : Holding) (before made : MarkList) (bytes : List ℕ)
    → HasTurned name (Ok sent) ending h new before made bytes → IsTurned name sent ending h new before made bytes
turned-ok name sent (Does e) h new before made bytes turn = record { effects = e; does = refl; sends = turn.0; put = turn.1; marks = turn.2; room = turn.3; spelt = turn.4 }
turned-ok name sent (NotPossible reason) h new before made bytes turn = absurd turn

-- a turn of a queue pair that sends to its peer
module _ (c : Configuration) (h : Held) (name : QueueId) (lot : Lot) (q : QueuePair) (p : Correspondent) (plan : Plan) (row : Row)
    (outside : IsVacantOutside c (holding h).world) (quiet : IsQuiet row)
    (performs : perform (holding h).world plan ≡ perform (holding h).world (Row_plan c row (Leave_plan q (around_at (holding h).world q) p ((holding h).world.mailbox p.queue) lot))) where
  abbrev pub w : World
  w = (holding h).world

  abbrev finish : Effects → List Update → List Write → Plan
  finish = Leave_plan q (around_at w q) p (w.mailbox p.queue) lot

  at-ending : perform w plan ≡ perform_ending w (sight_of h.reached) finish [] (ending_of (sight_of h.reached) row)
  at-ending = performs ∙ row-seen c h row finish outside
      ∙ ap (λ cs. perform_ending w (sight_of h.reached) finish cs (ending_of (sight_of h.reached) row)) (no-changes c w row quiet.key)

  -- what is changed by effects and the packet that leaves, and their marks
  abbrev pub changes_of : Effects → List Update
  changes_of e = updates_of q (around_at w q) e ++ option_map_or (sent_updates q p (w.mailbox p.queue) lot) (packet_sent e) []

  abbrev pub marks_of : Effects → List Mark
  marks_of e = e.marks ++ option_map_or (sent_marks q p (w.mailbox p.queue) lot) (packet_sent e) []

  performed : (e : Effects) → ending_of (sight_of h.reached) row ≡ Does e → perform w plan ≡ Did (put_all (changes_of e) w) (marks_of e)
  performed e does = at-ending ∙ ap (perform_ending w (sight_of h.reached) finish []) does
      ∙ ap (λ xs. perform w (finish e [] (writes_in (sight_of h.reached) xs))) (quiet.ends (sight_of h.reached) e does).0

  pub turn-unready : (new : Holding) (before made : MarkList) (bytes : List ℕ) (error : ActError)
      → HasTurned name (Err error) (ending_of (sight_of h.reached) row) h new before made bytes → IsAct (Err error) (perform w plan) (holding h) new
  turn-unready new before made bytes (steps.NotReady reason) turn = subst (λ out. IsAct (Err (steps.NotReady reason)) out (holding h) new) (sym at-ending)
      (by (ending_of (sight_of h.reached) row) turn)
    where
      by : (x : Ending) → IsUnable x reason × (new ≡ holding h)
          → IsAct (Err (steps.NotReady reason)) (perform_ending w (sight_of h.reached) finish [] x) (holding h) new
      by (Does e) turn = absurd turn.0
      by (NotPossible r) turn = turn
  turn-unready new before made bytes steps.Memory turn = by (perform w plan) turn
    where
      by : (out : Outcome) → new ≡ holding h → IsAct (Err steps.Memory) out (holding h) new
      by (NotReady reason) same = same
      by (Did v ms) same = same

  module _ (sent : Sent) (mid : Holding) (before made : MarkList) (bytes : List ℕ) (none : before.marks ≡ []) (o : Outlets) (ms : List Mark) (is-ms : ms ≡ made.marks) (outlets : o ≡ outlets_of q)
      (named : q.queue ≡ name) (fits : FitsDone w (perform w plan)) (turn : IsTurned name sent (ending_of (sight_of h.reached) row) h mid before made bytes) where
    abbrev e : Effects
    e = turn.effects

    silent : (e.writes ≡ []) × (e.takes_shared ≡ false)
    silent = quiet.ends (sight_of h.reached) e turn.does

    stepped : mid ≡ hold (holding h) (Queue_of name) (Present e.queue)
    stepped = turn.put ∙ ap (λ xs. hold (holding (with_reached h (written_all after_write_by h.reached xs))) (Queue_of name) (Present e.queue)) silent.0

    marked : ms ≡ e.marks
    marked = is-ms ∙ turn.marks ∙ ap (λ xs. xs ++ e.marks) none

    fits-so : FitsDone w (Did (put_all (changes_of e) w) (marks_of e))
    fits-so = subst (FitsDone w) (performed e turn.does) fits

    aside : (put_all (changes_of e) w).cq ≡ (put_all (updates_of q (around_at w q) e) w).cq
    aside = mail-aside q p (w.mailbox p.queue) lot (packet_sent e) (updates_of q (around_at w q) e) w

    pub turn-sends : FitIn (mid.world.cq (send_slot o)) (completions_by o o.send ms)
    turn-sends = sends-fit q name e (holding h) mid o ms (marks_of e) (put_all (changes_of e) w) stepped outlets marked aside fits-so

    pub turn-receives : FitIn (mid.world.cq (recv_slot o)) (completions_by o o.recv ms)
    turn-receives = receives-fit q name e (holding h) mid o ms (marks_of e) (put_all (changes_of e) w) stepped outlets marked aside fits-so

    -- what stands elsewhere is as it was
    pub turn-has : mid.has ≡ (holding h).has
    turn-has = ap (λ (x : Holding). x.has) stepped

    module _ (done : Holding) (put : done ≡ changed_by (done_updates o ms mid.world) mid) where
      pub turn-mail : done.world.mailbox ≡ w.mailbox
      turn-mail = ap (λ (x : Holding). x.world.mailbox) put ∙ ap (λ (x : Holding). x.world.mailbox) stepped

      pub done-has : done.has ≡ (holding h).has
      done-has = ap (λ (x : Holding). x.has) put ∙ turn-has

      pub turn-acts : (new : Holding) (m : MarkList)
          → new ≡ changed_by (option_map_or (sent_updates q p (done.world.mailbox p.queue) lot) (packet_of sent bytes) []) done
          → m.marks ≡ made.marks ++ option_map_or (sent_marks q p (done.world.mailbox p.queue) lot) (packet_of sent bytes) []
          → IsAct (Ok m) (perform w plan) (holding h) new
      turn-acts new m left told = subst (λ out. IsAct (Ok m) out (holding h) new) (sym (performed e turn.does)) (
        marks-gone q name e p lot (holding h) mid done new o ms sent bytes named outlets marked turn.sends turn.spelt silent.1 stepped put m.marks
            (told ∙ ap (λ xs. xs ++ option_map_or (sent_marks q p (done.world.mailbox p.queue) lot) (packet_of sent bytes) []) (sym is-ms)),
        gone q name e p lot (holding h) mid done new o ms sent bytes named outlets marked turn.sends turn.spelt silent.1 stepped put left,
      )
