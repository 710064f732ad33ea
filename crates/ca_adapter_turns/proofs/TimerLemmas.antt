-- What a timer and a wake come to, by what is held. For proofs only.
use Rattle.std.proofs.Common.{◌≡◌, ◌∙◌, refl, sym, subst, ap, ℕ, suc, Bool, true, false, not, ◌&&◌, ◌||◌, ◌==◌, nat_le, List, [], ◌∷◌, Ok, Err, Option, None, Some, IfSome, is_none, is_some, if◌then◌else◌, true≢false}
use Rattle.std.specs.Option.{option_map_or}
use Rattle.ca_adapter_acts.specs.Act.{IsAct}
use Rattle.ca_adapter_acts.specs.Binders.{changed_by}
use Rattle.ca_adapter_acts.specs.declared.done.Outlets.{Outlets}
use Rattle.ca_adapter_acts.specs.Outlets.{completions_by, done_updates, outlets_of, recv_slot, send_slot}
use Rattle.ca_adapter_acts.specs.Room.{FitIn, FitsDone}
use Rattle.ca_base.specs.Configuration.{Configuration}
use Rattle.ca_base.specs.declared.change.State.{State}
use Rattle.ca_base.specs.declared.change.State.TheVariants as states
use Rattle.ca_base.specs.declared.correspondent.Correspondent.{Correspondent}
use Rattle.ca_adapter_turns.specs.Stepped.{HasStepped, has_no_receive}
use Rattle.ca_base.specs.declared.limits.TheConstants.{MAX_RETRY}
use Rattle.ca_base.specs.declared.completion.WcStatus.TheVariants.{RetryExceeded}
use Rattle.ca_base.specs.declared.step.Reason.{Reason}
use Rattle.ca_base.specs.declared.step.Reason.TheVariants as reasons
use Rattle.ca_base.specs.declared.step.ActError.{ActError}
use Rattle.ca_base.specs.declared.step.ActError.TheVariants as steps
use Rattle.ca_base.specs.objects.QueuePair.{NoQueue, Present, QueuePair, QueueSlot, queue_in, recv_cq_of, send_cq_of, srq_of}
use Rattle.ca_base.specs.objects.Slices.{has_queue}
use Rattle.ca_adapter_parts.specs.HeldView.{Holding, hold}
use Rattle.ca_keys.specs.declared.names.QueueId.{QueueId}
use Rattle.ca_keys.specs.Refusals.{first_of}
use Rattle.ca_model.proofs.PerformLemmas.{around-performs, around_at, queue-performs}
use Rattle.ca_model.specs.Marks.{MarkList}
use Rattle.ca_model.specs.declared.mark.Mark.{Mark}
use Rattle.ca_model.specs.machine.Acknowledgements.{failure_effects, with_cursor, with_requester}
use Rattle.ca_model.specs.machine.Arrivals.{next_receive}
use Rattle.ca_model.specs.machine.Around.{With_around, updates_of}
use Rattle.ca_model.specs.machine.CanStep.{CanStep}
use Rattle.ca_model.specs.machine.Frame.{AllPass}
use Rattle.ca_model.specs.machine.Invariants.{is_connected, is_sending}
use Rattle.ca_model.specs.machine.Plan.{Did, Finish, Look, NotReady, Outcome, Plan, Stuck, perform, put_all, touches, unless_refused, ◌:=◌}
use Rattle.ca_model.specs.machine.Requester.{is_outstanding}
use Rattle.ca_model.specs.machine.Row.{queue_and_marks}
use Rattle.ca_model.specs.machine.Seen.{shared_receives}
use Rattle.ca_model.specs.machine.Timers.{after_timeout, after_wake, timeout_refusals, wake_refusals}
use Rattle.ca_model.specs.machine.Turns.{Fire, Timeout_around, With_receives, is_silent, reaches_peer, timeout_plan, wake_plan}
use Rattle.ca_model.specs.machine.World.{Cq_of, Mailbox_of, Queue_of, Srq_of, World}
use Rattle.ca_adapter_turns.proofs.TurnLemmas.{IsAroundHeld, around-held, receives-fit, sends-fit, turned, with-queue-held, with-queue-rest}

-- the first reason stands against a plan, or none
refused-performs : (w : World) (tests : List (Bool × Reason)) (p : Plan) (r : Reason) → first_of tests ≡ Some r → perform w (unless_refused tests Stuck p) ≡ NotReady r
refused-performs w [] p r is = absurd (true≢false (sym (ap is_some is)))
refused-performs w (t ∷ ts) p r is = by t.0 is (refused-performs w ts p r)
  where
    by : (b : Bool) → (if b then Some t.1 else first_of ts) ≡ Some r → (first_of ts ≡ Some r → perform w (unless_refused ts Stuck p) ≡ NotReady r)
        → (if b then NotReady t.1 else perform w (unless_refused ts Stuck p)) ≡ NotReady r
    by true is again = ap (λ o. option_map_or NotReady o (NotReady r)) is
    by false is again = again is

passed-performs : (w : World) (tests : List (Bool × Reason)) (p : Plan) → first_of tests ≡ None → perform w (unless_refused tests Stuck p) ≡ perform w p
passed-performs w [] p is = refl
passed-performs w (t ∷ ts) p is = by t.0 is (passed-performs w ts p)
  where
    by : (b : Bool) → (if b then Some t.1 else first_of ts) ≡ None → (first_of ts ≡ None → perform w (unless_refused ts Stuck p) ≡ perform w p)
        → (if b then NotReady t.1 else perform w (unless_refused ts Stuck p)) ≡ perform w p
    by true is again = absurd (true≢false (ap is_some is))
    by false is again = again is

-- a queue pair with no peer does not send
pub not-sending : (q : QueuePair) → CanStep q → q.peer ≡ None → is_sending q.state ≡ false
not-sending q can none = by q.state can.queue.connected
  where
    absent : is_some q.peer ≡ true → ⊥
    absent there = true≢false (sym there ∙ ap is_some none)

    by : (s : State) → (is_connected s ≡ true → is_some q.peer ≡ true) → is_sending s ≡ false
    by states.Reset connected = refl
    by states.Init connected = refl
    by states.Rtr connected = refl
    by states.Rts connected = absurd (absent (connected refl))
    by states.Sqd connected = absurd (absent (connected refl))
    by states.Error connected = refl

unconnected : (q : QueuePair) (hasten : Bool) → CanStep q → q.peer ≡ None → first_of (timeout_refusals false hasten q) ≡ Some reasons.State
unconnected q hasten can none = ap (λ b. if not b then Some reasons.State else first_of (behind q)) (not-sending q can none)
  where
    behind : QueuePair → List (Bool × Reason)
    behind q = (not (is_outstanding q), reasons.Empty) ∷ (not (false || hasten), reasons.NotDue) ∷ []

-- a timer takes no receive
takes-none : (silent : Bool) (q : QueuePair) → (after_timeout silent q).takes_shared ≡ false
takes-none silent q = by (nat_le q.requester.retry q.requester.retries)
  where
    counted : QueuePair
    counted = with_requester (record q.requester { timers = suc q.requester.timers; retries = suc q.requester.retries }) q

    by : (b : Bool) → (if b then failure_effects RetryExceeded None counted else queue_and_marks (with_cursor q.requester.una counted) []).takes_shared ≡ false
    by true = refl
    by false = refl

-- where a step was not made, the reason is that of the plan
unready : (h new : Holding) (name : QueueId) (q : QueuePair) (p : Plan) (refusal : Option Reason) (error : ActError) → ((r : Reason) → refusal ≡ Some r → perform h.world p ≡ NotReady r)
    → HasStepped {A = Unit {0}} name (Err error) refusal q h new → IsAct (Err error) (perform h.world p) h new
unready h new name q p refusal (steps.NotReady reason) is step = subst (λ out. IsAct (Err (steps.NotReady reason)) out h new) (sym (is reason step.0)) (refl, step.1)
unready h new name q p refusal steps.Memory is step = by (perform h.world p) step
  where
    by : (out : Outcome) → new ≡ h → IsAct (Err steps.Memory) out h new
    by (NotReady reason) same = same
    by (Did v ms) same = same

module _ (c : Configuration) (h : Holding) (name : QueueId) (hasten : Bool) where
  abbrev all_held : Type 0
  all_held = AllPass h.has (touches h.world (timeout_plan c name hasten))

  -- what a timer's turn looks at is held
  pub record IsTimeoutHeld (q : QueuePair) (p : Correspondent) : Type 0 where
    pub own : h.has (Mailbox_of q.queue) ≡ true
    pub send : h.has (Cq_of (send_cq_of q)) ≡ true
    pub recv : h.has (Cq_of (recv_cq_of q)) ≡ true
    pub queue : h.has (Queue_of p.queue) ≡ true
    pub mailbox : h.has (Mailbox_of p.queue) ≡ true

  abbrev turn_of : QueuePair → Plan
  turn_of q = Look (Mailbox_of name) (λ own. With_around q (λ a. Timeout_around hasten q own a q.peer))

  pub timeout_queue : all_held → has_queue c name ≡ true → h.has (Queue_of name) ≡ true
  timeout_queue all has = with-queue-held h c name reasons.State turn_of all has

  pub timeout_held : (q : QueuePair) (p : Correspondent) → all_held → has_queue c name ≡ true → h.world.queue name ≡ Present q → q.queue ≡ name → q.peer ≡ Some p
      → IsTimeoutHeld q p
  timeout_held q p all has there named peer = record {
    own = subst (λ n. h.has (Mailbox_of n) ≡ true) (sym named) rest.0;
    send = around.send;
    recv = around.recv;
    queue = behind.0;
    mailbox = behind.1.0;
  }
    where
      rest : AllPass h.has (touches h.world (turn_of q))
      rest = with-queue-rest h c name reasons.State turn_of q all has there

      around : IsAroundHeld h q (Timeout_around hasten q (h.world.mailbox name) (around_at h.world q) q.peer)
      around = around-held h q (λ a. Timeout_around hasten q (h.world.mailbox name) a q.peer) rest.1

      behind : AllPass h.has (touches h.world (Timeout_around hasten q (h.world.mailbox name) (around_at h.world q) (Some p)))
      behind = subst (λ o. AllPass h.has (touches h.world (Timeout_around hasten q (h.world.mailbox name) (around_at h.world q) o))) peer around.rest

  -- where there is no queue pair, or it has no peer, the turn is not possible
  pub timeout_unnamed : has_queue c name ≡ false → perform h.world (timeout_plan c name hasten) ≡ NotReady reasons.State
  timeout_unnamed none = rw none refl

  pub timeout_vacant : (incarnation timers : ℕ) → has_queue c name ≡ true → h.world.queue name ≡ NoQueue incarnation timers
      → perform h.world (timeout_plan c name hasten) ≡ NotReady reasons.State
  timeout_vacant incarnation timers has there = rw (has, there) refl

  at-around : (q : QueuePair) → has_queue c name ≡ true → h.world.queue name ≡ Present q
      → perform h.world (timeout_plan c name hasten) ≡ perform h.world (Timeout_around hasten q (h.world.mailbox name) (around_at h.world q) q.peer)
  at-around q has there = queue-performs c h.world name reasons.State turn_of q has there
      ∙ around-performs h.world q (λ a. Timeout_around hasten q (h.world.mailbox name) a q.peer)

  pub timeout_alone : (q : QueuePair) → has_queue c name ≡ true → h.world.queue name ≡ Present q → CanStep q → q.peer ≡ None
      → perform h.world (timeout_plan c name hasten) ≡ NotReady reasons.State
  timeout_alone q has there can none = at-around q has there
      ∙ ap (λ o. perform h.world (Timeout_around hasten q (h.world.mailbox name) (around_at h.world q) o)) none
      ∙ refused-performs h.world (timeout_refusals false hasten q) (Stuck reasons.Empty) reasons.State (unconnected q hasten can none)

  -- nothing is under way that could answer
  abbrev silent_at : QueuePair → Correspondent → Bool
  silent_at q p = is_silent q (h.world.mailbox q.queue) p (h.world.queue p.queue) (h.world.mailbox p.queue)

  at-fire : (q : QueuePair) (p : Correspondent) → has_queue c name ≡ true → h.world.queue name ≡ Present q → q.queue ≡ name → q.peer ≡ Some p
      → perform h.world (timeout_plan c name hasten) ≡ perform h.world (Fire hasten q (around_at h.world q) (silent_at q p))
  at-fire q p has there named peer = at-around q has there
      ∙ ap (λ o. perform h.world (Timeout_around hasten q (h.world.mailbox name) (around_at h.world q) o)) peer
      ∙ ap (λ n. perform h.world (Timeout_around hasten q (h.world.mailbox n) (around_at h.world q) (Some p))) (sym named)

  module _ (q : QueuePair) (p : Correspondent) (silent : Bool) (has : has_queue c name ≡ true) (there : h.world.queue name ≡ Present q) (named : q.queue ≡ name)
      (peer : q.peer ≡ Some p) (is : silent ≡ silent_at q p) where
    pub timeout_refused : (r : Reason) → first_of (timeout_refusals silent hasten q) ≡ Some r → perform h.world (timeout_plan c name hasten) ≡ NotReady r
    timeout_refused r first = at-fire q p has there named peer ∙ ap (λ s. perform h.world (Fire hasten q (around_at h.world q) s)) (sym is)
        ∙ refused-performs h.world (timeout_refusals silent hasten q) (Finish (updates_of q (around_at h.world q) (after_timeout silent q)) [] (after_timeout silent q).marks) r first

    pub timeout_unready : (new : Holding) (error : ActError)
        → HasStepped {A = Unit {0}} name (Err error) (first_of (timeout_refusals silent hasten q)) (after_timeout silent q).queue h new
        → IsAct (Err error) (perform h.world (timeout_plan c name hasten)) h new
    timeout_unready new error step = unready h new name (after_timeout silent q).queue (timeout_plan c name hasten) (first_of (timeout_refusals silent hasten q)) error timeout_refused step

    pub timeout_fires : first_of (timeout_refusals silent hasten q) ≡ None
        → perform h.world (timeout_plan c name hasten)
        ≡ Did (put_all (updates_of q (around_at h.world q) (after_timeout silent q)) h.world) (after_timeout silent q).marks
    timeout_fires none = at-fire q p has there named peer ∙ ap (λ s. perform h.world (Fire hasten q (around_at h.world q) s)) (sym is)
        ∙ passed-performs h.world (timeout_refusals silent hasten q) (Finish (updates_of q (around_at h.world q) (after_timeout silent q)) [] (after_timeout silent q).marks) none

    module _ (mid : Holding) (o : Outlets) (ms : List Mark) (none : first_of (timeout_refusals silent hasten q) ≡ None)
        (stepped : mid ≡ hold h (Queue_of name) (Present (after_timeout silent q).queue)) (outlets : o ≡ outlets_of q) (marks : ms ≡ (after_timeout silent q).marks) where
      abbrev after : World
      after = put_all (updates_of q (around_at h.world q) (after_timeout silent q)) h.world

      fits-so : FitsDone h.world (perform h.world (timeout_plan c name hasten))
          → FitsDone h.world (Did (put_all (updates_of q (around_at h.world q) (after_timeout silent q)) h.world) (after_timeout silent q).marks)
      fits-so fits = subst (FitsDone h.world) (timeout_fires none) fits

      pub timeout_sends : FitsDone h.world (perform h.world (timeout_plan c name hasten)) → FitIn (mid.world.cq (send_slot o)) (completions_by o o.send ms)
      timeout_sends fits = sends-fit q name (after_timeout silent q) h mid o ms (after_timeout silent q).marks after stepped outlets marks refl (fits-so fits)

      pub timeout_receives : FitsDone h.world (perform h.world (timeout_plan c name hasten)) → FitIn (mid.world.cq (recv_slot o)) (completions_by o o.recv ms)
      timeout_receives fits = receives-fit q name (after_timeout silent q) h mid o ms (after_timeout silent q).marks after stepped outlets marks refl (fits-so fits)

      pub timeout_acts : (new : Holding) (m : MarkList) → m.marks ≡ ms → new ≡ changed_by (done_updates o ms mid.world) mid
          → IsAct (Ok m) (perform h.world (timeout_plan c name hasten)) h new
      timeout_acts new m same put = subst (λ out. IsAct (Ok m) out h new) (sym (timeout_fires none)) (
        same ∙ marks,
        turned q name (after_timeout silent q) h mid new o ms named outlets marks (takes-none silent q) stepped put,
      )

-- the receives of a queue pair are looked at: its own, or those of its shared receive queue
abbrev of_source : QueuePair → (Bool → Plan) → Option ℕ → Plan
of_source x k None = k (is_none (next_receive x None))
of_source x k (Some srq) = Look (Srq_of (srq_of x srq)) (λ s. k (is_none (next_receive x s.srq)))

module _ (c : Configuration) (h : Holding) (name : QueueId) where
  abbrev all_of_wake : Type 0
  all_of_wake = AllPass h.has (touches h.world (wake_plan c name))

  -- the wake of a queue pair, by whether the peer has no receive
  abbrev woken : QueuePair → Plan
  woken q = Finish ((Queue_of q.queue := Present (after_wake q).queue) ∷ []) [] (after_wake q).marks

  abbrev wakes : QueuePair → Bool → Plan
  wakes q peer_empty = unless_refused (wake_refusals peer_empty q) Stuck (woken q)

  abbrev woken_by : QueuePair → Option Correspondent → Plan
  woken_by q None = unless_refused (wake_refusals false q) Stuck (Stuck reasons.Empty)
  woken_by q (Some peer) = Look (Queue_of peer.queue) (λ slot. Look (Mailbox_of peer.queue) (λ m. With_receives slot (λ empty. wakes q (reaches_peer q peer m && empty))))

  abbrev wake_of : QueuePair → Plan
  wake_of q = woken_by q q.peer

  pub wake_queue : all_of_wake → has_queue c name ≡ true → h.has (Queue_of name) ≡ true
  wake_queue all has = with-queue-held h c name reasons.State wake_of all has

  -- what a wake looks at is held
  pub record IsWakeHeld (p : Correspondent) : Type 0 where
    pub queue : h.has (Queue_of p.queue) ≡ true
    pub mailbox : h.has (Mailbox_of p.queue) ≡ true
    pub shared : IfSome (queue_in (h.world.queue p.queue)) (λ x. IfSome x.srq (λ srq. h.has (Srq_of (srq_of x srq)) ≡ true))

  pub wake_held : (q : QueuePair) (p : Correspondent) → all_of_wake → has_queue c name ≡ true → h.world.queue name ≡ Present q → q.peer ≡ Some p → IsWakeHeld p
  wake_held q p all has there peer = record { queue = rest.0; mailbox = rest.1.0; shared = by (h.world.queue p.queue) rest.1.1 }
    where
      rest : AllPass h.has (touches h.world (woken_by q (Some p)))
      rest = subst (λ o. AllPass h.has (touches h.world (woken_by q o))) peer (with-queue-rest h c name reasons.State wake_of q all has there)

      k : Bool → Plan
      k empty = wakes q (reaches_peer q p (h.world.mailbox p.queue) && empty)

      source : (x : QueuePair) (o : Option ℕ) → AllPass h.has (touches h.world (of_source x k o)) → IfSome o (λ srq. h.has (Srq_of (srq_of x srq)) ≡ true)
      source x None all = record {}
      source x (Some srq) all = all.0

      by : (s : QueueSlot) → AllPass h.has (touches h.world (With_receives s k)) → IfSome (queue_in s) (λ x. IfSome x.srq (λ srq. h.has (Srq_of (srq_of x srq)) ≡ true))
      by (NoQueue incarnation timers) all = record {}
      by (Present x) all = source x x.srq all

  pub wake_unnamed : has_queue c name ≡ false → perform h.world (wake_plan c name) ≡ NotReady reasons.State
  wake_unnamed none = rw none refl

  pub wake_vacant : (incarnation timers : ℕ) → has_queue c name ≡ true → h.world.queue name ≡ NoQueue incarnation timers
      → perform h.world (wake_plan c name) ≡ NotReady reasons.State
  wake_vacant incarnation timers has there = rw (has, there) refl

  pub wake_alone : (q : QueuePair) → has_queue c name ≡ true → h.world.queue name ≡ Present q → CanStep q → q.peer ≡ None → perform h.world (wake_plan c name) ≡ NotReady reasons.State
  wake_alone q has there can none = queue-performs c h.world name reasons.State wake_of q has there ∙ ap (λ o. perform h.world (woken_by q o)) none
      ∙ refused-performs h.world (wake_refusals false q) (Stuck reasons.Empty) reasons.State
      (ap (λ b. if not b then Some reasons.State else first_of ((not q.requester.waiting, reasons.Empty) ∷ (q.requester.rnr_retry == MAX_RETRY && false, reasons.RnrWait) ∷ [])) (not-sending q can none))

  receives-performs : (s : QueueSlot) (k : Bool → Plan) → perform h.world (With_receives s k)
      ≡ perform h.world (k (option_map_or (λ x. is_none (next_receive x (shared_receives h.world x))) (queue_in s) true))
  receives-performs (NoQueue incarnation timers) k = refl
  receives-performs (Present x) k = source x.srq
    where
      at : Option ℕ → QueuePair
      at o = record x { srq = o }

      source : (o : Option ℕ) → perform h.world (With_receives (Present (at o)) k) ≡ perform h.world (k (is_none (next_receive (at o) (shared_receives h.world (at o)))))
      source None = refl
      source (Some srq) = refl

  module _ (q : QueuePair) (p : Correspondent) (empty : Bool) (has : has_queue c name ≡ true) (there : h.world.queue name ≡ Present q) (named : q.queue ≡ name)
      (peer : q.peer ≡ Some p) (is : empty ≡ (reaches_peer q p (h.world.mailbox p.queue) && has_no_receive h.world p.queue)) where
    at-wake : perform h.world (wake_plan c name) ≡ perform h.world (wakes q empty)
    at-wake = queue-performs c h.world name reasons.State wake_of q has there ∙ ap (λ o. perform h.world (woken_by q o)) peer
        ∙ receives-performs (h.world.queue p.queue) (λ e. wakes q (reaches_peer q p (h.world.mailbox p.queue) && e))
        ∙ ap (λ b. perform h.world (wakes q b)) (sym is)

    pub wake_refused : (r : Reason) → first_of (wake_refusals empty q) ≡ Some r → perform h.world (wake_plan c name) ≡ NotReady r
    wake_refused r first = at-wake ∙ refused-performs h.world (wake_refusals empty q) (woken q) r first

    pub wake_unready : (new : Holding) (error : ActError) → HasStepped {A = Unit {0}} name (Err error) (first_of (wake_refusals empty q)) (after_wake q).queue h new
        → IsAct (Err error) (perform h.world (wake_plan c name)) h new
    wake_unready new error step = unready h new name (after_wake q).queue (wake_plan c name) (first_of (wake_refusals empty q)) error wake_refused step

    pub wake_acts : (new : Holding) (m : MarkList) → first_of (wake_refusals empty q) ≡ None → m.marks ≡ [] → new ≡ hold h (Queue_of name) (Present (after_wake q).queue)
        → IsAct (Ok m) (perform h.world (wake_plan c name)) h new
    wake_acts new m none marks stepped = subst (λ out. IsAct (Ok m) out h new)
        (sym (at-wake ∙ passed-performs h.world (wake_refusals empty q) (woken q) none ∙ ap (λ n. Did (put_all ((Queue_of n := Present (after_wake q).queue) ∷ []) h.world) []) named))
        (marks, stepped)
