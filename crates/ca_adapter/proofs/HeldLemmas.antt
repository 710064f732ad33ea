-- A queue pair that is held can leave what is held around it. For proofs only.
use Rattle.std.proofs.Common.{◌≡◌, ◌∙◌, ℕ, true, [], ◌++◌, Option, None, Some, IfSome, refl, subst, sym}
use Rattle.std.specs.Option.{option_map, option_map_or}
use Rattle.ca_base.specs.Configuration.{Configuration}
use Rattle.ca_base.specs.declared.change.Change.{Change}
use Rattle.ca_base.specs.declared.change.Change.TheVariants as changes
use Rattle.ca_base.specs.objects.CompletionQueue.{receives_of}
use Rattle.ca_base.specs.objects.QueuePair.{NoQueue, Present, QueuePair, QueueSlot, queue_in, receive_in_use, recv_cq_of, send_cq_of, srq_of}
use Rattle.ca_keys.specs.declared.names.QueueId.{QueueId}
use Rattle.ca_keys.specs.declared.names.Slot.{Slot}
use Rattle.ca_keys.specs.Numbers.{queue_of}
use Rattle.ca_model.specs.machine.Frame.{AllPass}
use Rattle.ca_model.specs.machine.Plan.{touches}
use Rattle.ca_model.specs.machine.QueuePairVerbs.{destroy_qp_plan, modify_qp_plan}
use Rattle.ca_model.specs.machine.VerbAnswers.{Call}
use Rattle.ca_model.specs.machine.World.{Cq_of, Queue_of, Srq_of, World}
use Rattle.ca_model.specs.machine.Around.{completions_to}
use Rattle.ca_model.specs.machine.Completions.{flush_marks}
use Rattle.ca_adapter_parts.specs.HeldView.{Holding}
use Rattle.ca_adapter_acts.specs.Room.{FitIn}
use Rattle.ca_adapter_acts.specs.Steps.{Shows}
use Rattle.ca_adapter_pairs.specs.Changed.{CanChange}
use Rattle.ca_adapter_pairs.specs.Departures.{AreFew, CanDepart, StandOnce, places_left, places_of}
use Rattle.ca_adapter_pairs.specs.Names.{names_around}
use Rattle.ca_law_parts.specs.Worlds.{IsWorldAfter}
use Rattle.ca_adapter.proofs.DepartLemmas.{can-depart}
use Rattle.ca_adapter.proofs.FlushLemmas.{can-change}

-- what stands around a queue pair is held
record AreHeld (q : QueuePair) (h : Holding) : Type 0 where
  send : h.has (Cq_of (send_cq_of q)) ≡ true
  recv : h.has (Cq_of (recv_cq_of q)) ≡ true
  srq : IfSome (option_map (srq_of q) q.srq) (λ s. h.has (Srq_of s) ≡ true)

-- what holds around it in a world that shows what is held holds of what is held
can-held : (q : QueuePair) (h : Holding) (w : World) → Shows w h → AreHeld q h → CanDepart (names_around q) w → CanDepart (names_around q) h.world
can-held q h w shows held can = record {
  send = subst (AreFew q.queue) (sym (shows (Cq_of (send_cq_of q)) held.send)) can.send;
  recv = subst (AreFew q.queue) (sym (shows (Cq_of (recv_cq_of q)) held.recv)) can.recv;
  places = by (option_map (srq_of q) q.srq) held.srq can.places;
}
  where
    by : (o : Option Slot) → IfSome o (λ s. h.has (Srq_of s) ≡ true) → IfSome o (λ s. IfSome (w.srq s).srq (λ v. StandOnce (places_of (names_around q) w) v.taken))
        → IfSome o (λ s. IfSome (h.world.srq s).srq (λ v. StandOnce (places_of (names_around q) h.world) v.taken))
    by None has all = record {}
    by (Some s) has all = subst (λ slot. IfSome slot.srq (λ v. StandOnce (places_of (names_around q) h.world) v.taken)) (sym (shows (Srq_of s) has))
        (subst (λ cq. IfSome (w.srq s).srq (λ v. StandOnce (option_map_or (receives_of q.queue) cq [] ++ places_left (receive_in_use q.responder.message)) v.taken))
        (sym (shows (Cq_of (recv_cq_of q)) held.recv)) all)

-- and so of a change
can-change-held : (c : Configuration) (change : Change) (q : QueuePair) (h : Holding) (w : World) → Shows w h → AreHeld q h → CanChange c change q w → CanChange c change q h.world
can-change-held c changes.Error q h w shows held can = λ none. (
  subst (λ cq. FitIn cq (completions_to q q.send_cq (flush_marks q))) (sym (shows (Cq_of (send_cq_of q)) held.send)) (can none).0,
  subst (λ cq. FitIn cq (completions_to q q.recv_cq (flush_marks q))) (sym (shows (Cq_of (recv_cq_of q)) held.recv)) (can none).1,
)
can-change-held c changes.Reset q h w shows held can = can-held q h w shows held can
can-change-held c changes.Init q h w shows held can = record {}
can-change-held c (changes.Rtr peer incarnation psn mtu rnr_code) q h w shows held can = record {}
can-change-held c (changes.Rts psn retry rnr_retry reads) q h w shows held can = record {}
can-change-held c changes.Sqd q h w shows held can = record {}
can-change-held c changes.Resume q h w shows held can = record {}

-- the queue pair of a name that is held
held-pair : (P : QueuePair → Type 0) (w : World) (h : Holding) (n : QueueId) → Shows w h → h.has (Queue_of n) ≡ true
    → ((q : QueuePair) → h.world.queue n ≡ Present q → w.queue n ≡ Present q → P q) → IfSome (queue_in (h.world.queue n)) P
held-pair P w h n shows has each = by (h.world.queue n) refl
  where
    by : (slot : QueueSlot) → h.world.queue n ≡ slot → IfSome (queue_in slot) P
    by (NoQueue incarnation timers) is = record {}
    by (Present q) is = each q is (sym (shows (Queue_of n) has) ∙ is)

pub destroy-departs : (c : Configuration) (events : ℕ) (w : World) (h : Holding) (call : Call) (s : Slot) → IsWorldAfter c events w → Shows w h
    → AllPass h.has (touches h.world (destroy_qp_plan call s)) → IfSome (queue_in (h.world.queue (queue_of s))) (λ q. CanDepart (names_around q) h.world)
destroy-departs c events w h call s after shows all = held-pair (λ q. CanDepart (names_around q) h.world) w h (queue_of s) shows all.1.0
    (λ q here there. can-held q h w shows (by q.srq q here all) (can-depart c events w (queue_of s) q after there))
  where
    by : (o : Option ℕ) (q : QueuePair) → h.world.queue (queue_of s) ≡ Present (record q { srq = o }) → AllPass h.has (touches h.world (destroy_qp_plan call s))
        → AreHeld (record q { srq = o }) h
    by None q there all = let t = rw there at all in record { send = t.1.1.1.0; recv = t.1.1.1.1.0; srq = record {} }
    by (Some srq) q there all = let t = rw there at all in record { send = t.1.1.1.0; recv = t.1.1.1.1.0; srq = t.1.1.1.1.1.0 }

pub modify-changes : (c : Configuration) (events : ℕ) (w : World) (h : Holding) (call : Call) (s : Slot) (change : Change) → IsWorldAfter c events w → Shows w h
    → AllPass h.has (touches h.world (modify_qp_plan c call s change)) → IfSome (queue_in (h.world.queue (queue_of s))) (λ q. CanChange c change q h.world)
modify-changes c events w h call s change after shows all = held-pair (λ q. CanChange c change q h.world) w h (queue_of s) shows all.0
    (λ q here there. can-change-held c change q h w shows (by q.srq q here all) (can-change c events w (queue_of s) q change after there))
  where
    by : (o : Option ℕ) (q : QueuePair) → h.world.queue (queue_of s) ≡ Present (record q { srq = o }) → AllPass h.has (touches h.world (modify_qp_plan c call s change))
        → AreHeld (record q { srq = o }) h
    by None q there all = let t = rw there at all in record { send = t.1.1.0; recv = t.1.1.1.0; srq = record {} }
    by (Some srq) q there all = let t = rw there at all in record { send = t.1.1.0; recv = t.1.1.1.0; srq = t.1.1.1.1.0 }
