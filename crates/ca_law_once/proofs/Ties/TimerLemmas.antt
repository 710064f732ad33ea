-- Timers and wakes keep a world tied to a link.
use Rattle.std.proofs.Common.{◌≡◌, ◌&&◌, rules, Bool, false, List, [], ◌∷◌, Option, None, Some, refl, subst, arith}
use Rattle.ca_law_endings.proofs.InnerLemmas.{timeout-inner}
use Rattle.ca_law_endings.proofs.LeadsLemmas.{comes, leads-around, leads-queue, leads-unless}
use Rattle.ca_law_endings.specs.Runs.{Comes, Leads}
use Rattle.ca_base.specs.Configuration.{Configuration}
use Rattle.ca_base.specs.declared.correspondent.Correspondent.{Correspondent}
use Rattle.ca_base.specs.declared.step.Reason.TheVariants as reasons
use Rattle.ca_base.specs.objects.QueuePair.{QueuePair, QueueSlot, Present}
use Rattle.ca_connection.specs.Layout.{Direction}
use Rattle.ca_connection.specs.Link.{Link}
use Rattle.ca_keys.specs.Equal.{queue_eq}
use Rattle.ca_keys.specs.declared.names.QueueId.{QueueId}
use Rattle.ca_law_world.proofs.Sound.WorldLemmas.{around_in, shared_of}
use Rattle.ca_model.specs.Past.{with_at}
use Rattle.ca_model.specs.declared.event.Event.TheVariants as events
use Rattle.ca_model.specs.declared.mark.Mark.{Mark}
use Rattle.ca_model.specs.machine.Around.{With_around, updates_of}
use Rattle.ca_model.specs.machine.Invariants.{IsQueue}
use Rattle.ca_model.specs.machine.Plan.{Finish, Look, Plan, Stuck, ◌:=◌, put_all, unless_refused}
use Rattle.ca_model.specs.machine.Sound.{IsQueueOf, IsSoundWorld}
use Rattle.ca_model.specs.machine.Step.{step}
use Rattle.ca_model.specs.machine.Timers.{after_timeout, after_wake, timeout_refusals, wake_refusals}
use Rattle.ca_model.specs.machine.Turns.{Fire, Timeout_around, With_receives, reaches_peer, timeout_plan, wake_plan}
use Rattle.ca_model.specs.machine.World.{Mailbox_of, Queue_of, World, put}
use Rattle.ca_law_once.proofs.Ties.DeliverWalk.{Has, has-turn}
use Rattle.ca_law_once.proofs.Ties.QuietLemmas.{IsQuiet, quiet-ties}
use Rattle.ca_law_once.specs.Ties.{IsTied, TiedAfter}
use Rattle.ca_law_once.proofs.Rows.StayLemmas.{wake-stays}
use Rattle.ca_law_once.proofs.Rows.TurnLemmas.{timeout-requester, timeout-responder, timeout-state, wake-responder, wake-state}

pub timeout-quiet : (silent : Bool) (q : QueuePair) → IsQueue q → IsQuiet q (after_timeout silent q)
timeout-quiet silent q s = record {
  incarnation = (timeout-inner q silent).incarnation;
  peer = (timeout-inner q silent).peer;
  state = timeout-state silent q;
  requester = λ d laid. timeout-requester d silent q s laid;
  responder = λ d mtu. timeout-responder d silent q mtu;
}

pub wake-quiet : (q : QueuePair) → IsQueue q → IsQuiet q (after_wake q)
wake-quiet q s = record {
  incarnation = refl;
  peer = refl;
  state = wake-state q;
  requester = λ d laid. record { una = refl; low = s.requester.outstanding; high = omega arith; laid = (wake-stays d q laid).laid };
  responder = λ d mtu. wake-responder d q mtu;
}

-- what a queue pair that is found is
pub record IsFoundAt (w : World) (name : QueueId) (q : QueuePair) : Type 0 where
  pub is : w.queue name ≡ Present q
  pub named : q.queue ≡ name
  pub sound : IsQueue q

pub found-at : (c : Configuration) (w : World) (name : QueueId) (q : QueuePair) → IsSoundWorld c w → w.queue name ≡ Present q → IsFoundAt w name q
found-at c w name q sound is = by (subst (IsQueueOf name) is (sound.things (Queue_of name)))
  where
    by : IsQueueOf name (Present q) → IsFoundAt w name q
    by s = record { is = is; named = s.0; sound = s.2 }

pub timeout-ties : (d : Direction) (s r : Correspondent) (c : Configuration) (w : World) (l : Link) (name : QueueId) (hasten : Bool) → IsSoundWorld c w → IsTied d s r w l
    → Comes (λ v ms. TiedAfter d s r w l (λ place. []) (λ place. []) v) (step c w (events.Timeout name hasten))
timeout-ties d s r c w l name hasten sound tied = comes w P (timeout_plan c name hasten)
    (leads-queue c w P name reasons.State (λ q. Look (Mailbox_of name) (λ own. With_around q (λ a. Timeout_around hasten q own a q.peer)))
    (λ q is. leads-around w P q (λ a. Timeout_around hasten q (w.mailbox name) a q.peer) (by q (found-at c w name q sound is) q.peer)))
  where
    P : World → List Mark → Type 0
    P v ms = TiedAfter d s r w l (λ place. []) (λ place. []) v

    fire : (q : QueuePair) → IsFoundAt w name q → (silent : Bool) → Leads w P (Fire hasten q (around_in w q (shared_of w q)) silent)
    fire q there silent = leads-unless w P (timeout_refusals silent hasten q) Stuck
        (Finish (updates_of q (around_in w q (shared_of w q)) (after_timeout silent q)) [] (after_timeout silent q).marks) (λ x. record {})
        (quiet-ties d s r w v l name q (after_timeout silent q) there.is (timeout-quiet silent q there.sound)
        (subst (λ n. Has (with_at queue_eq w.queue n (Present (after_timeout silent q).queue)) w.mailbox v) there.named (has-turn w q (around_in w q (shared_of w q)) (after_timeout silent q))) tied)
      where
        v : World
        v = put_all (updates_of q (around_in w q (shared_of w q)) (after_timeout silent q)) w

    by : (q : QueuePair) → IsFoundAt w name q → (peer : Option Correspondent) → Leads w P (Timeout_around hasten q (w.mailbox name) (around_in w q (shared_of w q)) peer)
    by q there None = leads-unless w P (timeout_refusals false hasten q) Stuck (Stuck reasons.Empty) (λ x. record {}) (record {})
    by q there (Some peer) = fire q there _

pub wake-ties : (d : Direction) (s r : Correspondent) (c : Configuration) (w : World) (l : Link) (name : QueueId) → IsSoundWorld c w → IsTied d s r w l
    → Comes (λ v ms. TiedAfter d s r w l (λ place. []) (λ place. []) v) (step c w (events.RnrWake name))
wake-ties d s r c w l name sound tied = comes w P (wake_plan c name) (leads-queue c w P name reasons.State (λ q. waking q q.peer) (λ q is. by q (found-at c w name q sound is) q.peer))
  where
    P : World → List Mark → Type 0
    P v ms = TiedAfter d s r w l (λ place. []) (λ place. []) v

    wakes : QueuePair → Bool → Plan
    wakes q empty = unless_refused (wake_refusals empty q) Stuck (Finish ((Queue_of q.queue := Present (after_wake q).queue) ∷ []) [] (after_wake q).marks)

    waking : QueuePair → Option Correspondent → Plan
    waking q None = unless_refused (wake_refusals false q) Stuck (Stuck reasons.Empty)
    waking q (Some peer) = Look (Queue_of peer.queue) (λ slot. Look (Mailbox_of peer.queue) (λ m.
        With_receives slot (λ empty. wakes q (reaches_peer q peer m && empty))))

    wake : (q : QueuePair) → IsFoundAt w name q → (empty : Bool) → Leads w P (wakes q empty)
    wake q there empty = leads-unless w P (wake_refusals empty q) Stuck (Finish ((Queue_of q.queue := Present (after_wake q).queue) ∷ []) [] (after_wake q).marks)
        (λ x. record {}) (quiet-ties d s r w v l name q (after_wake q) there.is (wake-quiet q there.sound)
        (subst (λ n. Has (with_at queue_eq w.queue n (Present (after_wake q).queue)) w.mailbox v) there.named (record { queue = refl; mailbox = refl })) tied)
      where
        v : World
        v = put w (Queue_of q.queue) (Present (after_wake q).queue)

    receives : (slot : QueueSlot) (k : Bool → Plan) → ((b : Bool) → Leads w P (k b)) → Leads w P (With_receives slot k)
    receives slot k more = search rules

    by : (q : QueuePair) → IsFoundAt w name q → (peer : Option Correspondent) → Leads w P (waking q peer)
    by q there None = leads-unless w P (wake_refusals false q) Stuck (Stuck reasons.Empty) (λ x. record {}) (record {})
    by q there (Some peer) = receives (w.queue peer.queue) (λ empty. wakes q (reaches_peer q peer (w.mailbox peer.queue) && empty)) (λ empty. wake q there _)
