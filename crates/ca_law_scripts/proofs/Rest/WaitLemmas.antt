-- Where a timer can fire, and a wait end. For proofs only.
use Rattle.std.proofs.Common.{◌≡◌, ℕ, ◌==◌, ◌&&◌, ◌||◌, Bool, true, false, not, if◌then◌else◌, List, [], ◌∷◌, Option, None, Some, is_none, refl, ap, ◌∙◌}
use Rattle.std.specs.Option.{option_and_then, option_map}
use Rattle.ca_base.specs.Configuration.{Configuration}
use Rattle.ca_base.specs.declared.correspondent.Correspondent.{Correspondent}
use Rattle.ca_base.specs.declared.limits.TheConstants.{MAX_RETRY}
use Rattle.ca_base.specs.declared.step.Reason.{Reason}
use Rattle.ca_base.specs.declared.step.Reason.TheVariants as reasons
use Rattle.ca_base.specs.objects.QueuePair.{QueuePair, QueueSlot, Present, queue_in, srq_of}
use Rattle.ca_base.specs.objects.Slices.{has_queue}
use Rattle.ca_keys.specs.Refusals.{first_of}
use Rattle.ca_keys.specs.declared.names.QueueId.{QueueId}
use Rattle.ca_model.proofs.PerformLemmas.{around-performs, around_at, queue-performs}
use Rattle.ca_model.specs.machine.Around.{With_around, updates_of}
use Rattle.ca_model.specs.machine.Arrivals.{next_receive}
use Rattle.ca_model.specs.machine.Invariants.{is_sending}
use Rattle.ca_model.specs.machine.Plan.{Finish, Look, NotReady, Plan, Stuck, perform, unless_refused, ◌:=◌}
use Rattle.ca_model.specs.machine.Requester.{is_outstanding}
use Rattle.ca_model.specs.machine.Timers.{after_timeout, after_wake, timeout_refusals, wake_refusals}
use Rattle.ca_model.specs.machine.Turns.{Fire, Timeout_around, With_receives, is_silent, reaches_peer, timeout_plan, wake_plan}
use Rattle.ca_model.specs.machine.World.{Mailbox_of, Queue_of, Srq_of, World}
use Rattle.ca_law_scripts.proofs.Rest.HappensLemmas.{Happens, is_done}
use Rattle.ca_law_scripts.proofs.Rest.TurnLemmas.{first-none}
use Rattle.ca_law_scripts.specs.Rest.{has_no_receive, lacks_receive}

-- where nothing refuses, what follows is carried out
none-refuses : (w : World) (ts : List (Bool × Reason)) (p : Plan) → first_of ts ≡ None → Happens w p → Happens w (unless_refused ts Stuck p)
none-refuses w [] p none happens = happens
none-refuses w (t ∷ ts) p none happens = by (λ rest. none-refuses w ts p rest happens) t.0 none
  where
    by : (first_of ts ≡ None → Happens w (unless_refused ts Stuck p)) → (b : Bool) → (if b then Some t.1 else first_of ts) ≡ None
        → is_done (if b then NotReady t.1 else perform w (unless_refused ts Stuck p)) ≡ true
    by rest true none = absurd cc
    by rest false none = rest none

-- a silent timer of a queue pair with something outstanding fires
pub timeout-happens : (c : Configuration) (w : World) (name : QueueId) (hasten : Bool) (q : QueuePair) (peer : Correspondent) → has_queue c name ≡ true → w.queue name ≡ Present q → q.peer ≡ Some peer
    → is_sending q.state ≡ true → is_outstanding q ≡ true → is_silent q (w.mailbox name) peer (w.queue peer.queue) (w.mailbox peer.queue) ≡ true → Happens w (timeout_plan c name hasten)
timeout-happens c w name hasten q peer has there named sends outstanding silent =
    ap is_done (queue-performs c w name reasons.State (λ p. Look (Mailbox_of name) (λ own. With_around p (λ a. Timeout_around hasten p own a p.peer))) q has there)
    ∙ ap is_done (around-performs w q (λ a. Timeout_around hasten q (w.mailbox name) a q.peer))
    ∙ ap (λ o. is_done (perform w (Timeout_around hasten q (w.mailbox name) (around_at w q) o))) named
    ∙ ap (λ b. is_done (perform w (Fire hasten q (around_at w q) b))) silent
    ∙ none-refuses w (timeout_refusals true hasten q) (Finish (updates_of q (around_at w q) (after_timeout true q)) [] (after_timeout true q).marks) none refl
  where
    due : List (Bool × Reason)
    due = (not (true || hasten), reasons.NotDue) ∷ []

    none : first_of (timeout_refusals true hasten q) ≡ None
    none = first-none (not (is_sending q.state)) reasons.State ((not (is_outstanding q), reasons.Empty) ∷ due) (ap not sends)
        (first-none (not (is_outstanding q)) reasons.Empty due (ap not outstanding) refl)

-- what a wait looks at: whether the peer has no receive
receives-perform : (w : World) (slot : QueueSlot) (k : Bool → Plan) → perform w (With_receives slot k) ≡ perform w (k (has_no_receive w slot))
receives-perform w slot k = by (queue_in slot)
  where
    source : QueuePair → Option ℕ → Plan
    source p None = k (is_none (next_receive p None))
    source p (Some srq) = Look (Srq_of (srq_of p srq)) (λ s. k (is_none (next_receive p s.srq)))

    plan : Option QueuePair → Plan
    plan None = k true
    plan (Some p) = source p p.srq

    none : Option QueuePair → Bool
    none None = true
    none (Some p) = is_none (next_receive p (option_and_then (λ s. s.srq) (option_map (λ srq. w.srq (srq_of p srq)) p.srq)))

    of_source : (p : QueuePair) (o : Option ℕ) → perform w (source p o) ≡ perform w (k (is_none (next_receive p (option_and_then (λ s. s.srq) (option_map (λ srq. w.srq (srq_of p srq)) o)))))
    of_source p None = refl
    of_source p (Some srq) = refl

    by : (o : Option QueuePair) → perform w (plan o) ≡ perform w (k (none o))
    by None = refl
    by (Some p) = of_source p p.srq

-- a wait ends, but for one without a limit where the peer has no receive
pub wake-happens : (c : Configuration) (w : World) (name : QueueId) (q : QueuePair) (peer : Correspondent) → has_queue c name ≡ true → w.queue name ≡ Present q → q.peer ≡ Some peer
    → is_sending q.state ≡ true → q.requester.waiting ≡ true → ((q.requester.rnr_retry == MAX_RETRY) && lacks_receive w q (Some peer)) ≡ false → Happens w (wake_plan c name)
wake-happens c w name q peer has there named sends waits free =
    ap is_done (queue-performs c w name reasons.State (λ p. by p p.peer) q has there)
    ∙ ap (λ o. is_done (perform w (by q o))) named
    ∙ ap is_done (receives-perform w (w.queue peer.queue) (λ empty. wakes q (reaches_peer q peer (w.mailbox peer.queue) && empty)))
    ∙ none-refuses w (wake_refusals empty q) (Finish ((Queue_of q.queue := Present (after_wake q).queue) ∷ []) [] (after_wake q).marks) none refl
  where
    empty : Bool
    empty = lacks_receive w q (Some peer)

    held : List (Bool × Reason)
    held = ((q.requester.rnr_retry == MAX_RETRY) && empty, reasons.RnrWait) ∷ []

    none : first_of (wake_refusals empty q) ≡ None
    none = first-none (not (is_sending q.state)) reasons.State ((not q.requester.waiting, reasons.Empty) ∷ held) (ap not sends)
        (first-none (not q.requester.waiting) reasons.Empty held (ap not waits) (first-none ((q.requester.rnr_retry == MAX_RETRY) && empty) reasons.RnrWait [] free refl))

    wakes : QueuePair → Bool → Plan
    wakes queue peer_empty = unless_refused (wake_refusals peer_empty queue) Stuck
        (Finish ((Queue_of queue.queue := Present (after_wake queue).queue) ∷ []) [] (after_wake queue).marks)

    by : QueuePair → Option Correspondent → Plan
    by queue None = unless_refused (wake_refusals false queue) Stuck (Stuck reasons.Empty)
    by queue (Some peer) = Look (Queue_of peer.queue) (λ slot. Look (Mailbox_of peer.queue) (λ m.
        With_receives slot (λ empty. wakes queue (reaches_peer queue peer m && empty))))
