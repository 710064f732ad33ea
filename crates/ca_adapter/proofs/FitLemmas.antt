-- What completes where a request is posted or a queue pair is changed fits in its completion queue. For proofs only.
use Rattle.std.proofs.Common.{◌≡◌, ◌∙◌, refl, sym, ap, subst, ℕ, true, false, List, ◌∷◌, Option, None, Some, IfSome}
use Rattle.std.specs.List.{AllByRecursion}
use Rattle.std.specs.Option.{option_map}
use Rattle.ca_adapter_acts.specs.Room.{FitIn}
use Rattle.ca_adapter_posts.proofs.ReceiveLemmas.{recv_ends}
use Rattle.ca_adapter_posts.proofs.SendLemmas.{send_end, send_ends}
use Rattle.ca_adapter_posts.specs.Drawing.{byte_for, is_no_window, window_of_bind}
use Rattle.ca_adapter_posts.specs.Posting.{FitsReceive, FitsSend, with_receive}
use Rattle.ca_adapter.proofs.ReadyLemmas.{needs_held, verb_named}
use Rattle.ca_adapter.specs.Ready.{ArePartsOfWorld, IsReady}
use Rattle.ca_base.specs.Configuration.{Configuration}
use Rattle.ca_base.specs.declared.completion.Completion.{Completion}
use Rattle.ca_base.specs.declared.request.RecvRequest.{RecvRequest}
use Rattle.ca_base.specs.declared.request.SendOp.{SendOp}
use Rattle.ca_base.specs.declared.request.SendOp.TheVariants as ops
use Rattle.ca_base.specs.declared.request.SendRequest.{SendRequest}
use Rattle.ca_base.specs.objects.CompletionQueue.{CompletionQueue, after_puts}
use Rattle.ca_base.specs.objects.QueuePair.{NoQueue, Present, QueuePair, QueueSlot, queue_in, recv_cq_of, send_cq_of}
use Rattle.ca_adapter_parts.specs.declared.held.Held.{Held}
use Rattle.ca_adapter_parts.specs.HeldView.{holding}
use Rattle.ca_keys.specs.declared.names.Slot.{Slot}
use Rattle.ca_keys.specs.Numbers.{queue_of}
use Rattle.ca_keys.specs.Refusals.{first_of}
use Rattle.ca_law_parts.proofs.Room.EventRoomLemmas.{together-fit}
use Rattle.ca_law_parts.specs.Room.{HasRoom}
use Rattle.ca_model.proofs.ThingLemmas.{put-there}
use Rattle.ca_model.specs.declared.event.Event.{Event}
use Rattle.ca_model.specs.declared.event.Event.TheVariants as events
use Rattle.ca_model.specs.declared.mark.Mark.{Mark}
use Rattle.ca_model.specs.declared.part_name.PartName.TheVariants as names
use Rattle.ca_model.specs.declared.verb.Verb.TheVariants as verbs
use Rattle.ca_model.specs.machine.Around.{completions_to}
use Rattle.ca_model.specs.machine.Parts.{Enough, Needs, Part, drawing_needs, listed, part}
use Rattle.ca_model.specs.machine.Plan.{Did, perform}
use Rattle.ca_model.specs.machine.PostingVerbs.{marks_of_flush, post_recv_refusals, post_send_refusals, with_send}
use Rattle.ca_model.specs.machine.Sound.{AreLimited, CanBeMade, IsSoundWorld}
use Rattle.ca_model.specs.machine.Step.{is_named, step}
use Rattle.ca_model.specs.machine.World.{World, Cq_of, Queue_of, Window_of, put}

-- what an event puts into a completion queue fits there
put-fits : (c : Configuration) (event : Event) (w v : World) (ms : List Mark) (s : Slot) (put : List Completion) → AreLimited c → IsSoundWorld c w → HasRoom w
    → CanBeMade event → step c w event ≡ Did v ms → v.cq s ≡ option_map (after_puts put) (w.cq s) → FitIn (w.cq s) put
put-fits c event w v ms s put limited sound room made did there = by (w.cq s) there
  where
    by : (o : Option CompletionQueue) → v.cq s ≡ option_map (after_puts put) o → FitIn o put
    by None there = record {}
    by (Some q) there = together-fit c event w v ms s q put limited sound room made did there

-- what is drawn of a window is the same where the window is
drawn-same : (v w : World) (o : Option Slot) → IfSome o (λ x. v.window x ≡ w.window x)
    → (byte_for v o ≡ byte_for w o) × (is_no_window v o ≡ is_no_window w o)
drawn-same v w None same = (refl, refl)
drawn-same v w (Some x) same = (ap (λ z. byte_for (record w { window = λ y. z }) (Some x)) same, ap (λ z. is_no_window (record w { window = λ y. z }) (Some x)) same)

module _ (c : Configuration) (by : ℕ) (h : Held) (s : Slot) where
  module _ (request : SendRequest) (ready : IsReady c (events.Verb by (verbs.PostSend s request)) h) (made : CanBeMade (events.Verb by (verbs.PostSend s request))) (named : is_named c (verbs.PostSend s request) ≡ true) where
    abbrev send-are : ArePartsOfWorld c h
    send-are = ready.parts

    abbrev send-world : World
    send-world = ready.parts.world

    -- what a send request completes at once
    abbrev sent : World → QueuePair → Option Slot → List Completion
    sent w q o = completions_to q q.send_cq (marks_of_flush (with_send request (byte_for w o) q))

    window-held : (o : SendOp) → AllByRecursion (λ p. (holding h).parts p ≡ true) (listed (holding h).world (drawing_needs s o))
        → IfSome (window_of_bind s o) (λ x. (holding h).world.window x ≡ send-world.window x)
    window-held (ops.Send list) held = record {}
    window-held (ops.SendImm imm list) held = record {}
    window-held (ops.SendInv key list) held = record {}
    window-held (ops.Write address key list) held = record {}
    window-held (ops.WriteImm address key imm list) held = record {}
    window-held (ops.Read address key list) held = record {}
    window-held (ops.CmpSwap address key compare swap list) held = record {}
    window-held (ops.FetchAdd address key add list) held = record {}
    window-held (ops.Bind1 window region address count rights) held = send-are.shows (Window_of (record s { slot = window })) held.0
    window-held (ops.Bind2 window region low address count rights) held = record {}
    window-held (ops.FastReg region low buffer address count rights pages) held = record {}
    window-held (ops.LocalInv key) held = record {}

    send-in-world : (q : QueuePair) (o : Option Slot) → send-world.queue (queue_of s) ≡ Present q → o ≡ window_of_bind s request.op
        → is_no_window send-world o ≡ false → first_of (post_send_refusals request q) ≡ None → FitIn (send-world.cq (send_cq_of q)) (sent send-world q o)
    send-in-world q o there is window first = at o window (verb_named c by (verbs.PostSend s request) send-world named
        ∙ send_ends send-world (record { by = by; verb = verbs.PostSend s request }) s request q o there is window first)
      where
        fits : (v : World) (ms : List Mark) (put : List Completion) → step c send-world (events.Verb by (verbs.PostSend s request)) ≡ Did v ms
            → v.cq (send_cq_of q) ≡ option_map (after_puts put) (send-world.cq (send_cq_of q)) → FitIn (send-world.cq (send_cq_of q)) put
        fits v ms put = put-fits c (events.Verb by (verbs.PostSend s request)) send-world v ms (send_cq_of q) put send-are.after.limited send-are.after.sound send-are.after.room made

        there-after : (x : Option CompletionQueue) → (put send-world (Cq_of (send_cq_of q)) x).cq (send_cq_of q) ≡ x
        there-after x = put-there send-world (Cq_of (send_cq_of q)) x

        at : (o : Option Slot) → is_no_window send-world o ≡ false
            → step c send-world (events.Verb by (verbs.PostSend s request)) ≡ perform send-world (send_end send-world (record { by = by; verb = verbs.PostSend s request }) s request q o)
            → FitIn (send-world.cq (send_cq_of q)) (sent send-world q o)
        at None window did = fits _ _ (sent send-world q None) did (there-after _)
        at (Some x) window did = fits _ _ (sent send-world q (Some x)) did (there-after _)

    -- what completes where a send request is posted fits
    pub send_fits_held : IfSome (queue_in ((holding h).world.queue (queue_of s))) (FitsSend (holding h).world s request)
    send_fits_held = of-slot ((holding h).world.queue (queue_of s)) refl (needs_held c by (verbs.PostSend s request) h ready named)
      where
        needs : QueueSlot → Needs
        needs (NoQueue incarnation timers) = Enough
        needs (Present q) = Part (names.Cq (send_cq_of q)) (drawing_needs s request.op)

        of-slot : (z : QueueSlot) → (holding h).world.queue (queue_of s) ≡ z
            → AllByRecursion (λ p. (holding h).parts p ≡ true) (names.Queue (queue_of s) ∷ listed (holding h).world (needs z))
            → IfSome (queue_in z) (FitsSend (holding h).world s request)
        of-slot (NoQueue incarnation timers) is held = record {}
        of-slot (Present q) is held = λ window first.
            let same : (byte_for (holding h).world o ≡ byte_for send-world o) × (is_no_window (holding h).world o ≡ is_no_window send-world o) =
            drawn-same (holding h).world send-world o (window-held request.op held.1.1)
            in subst (λ z. FitIn z (sent (holding h).world q o)) (sym (send-are.shows (Cq_of (send_cq_of q)) held.1.0))
            (subst (λ b. FitIn (send-world.cq (send_cq_of q)) (completions_to q q.send_cq (marks_of_flush (with_send request b q)))) (sym same.0)
            (send-in-world q o (sym (send-are.shows (Queue_of (queue_of s)) held.0) ∙ is) refl (sym same.1 ∙ window) first))
          where
            o : Option Slot
            o = window_of_bind s request.op

  module _ (request : RecvRequest) (ready : IsReady c (events.Verb by (verbs.PostRecv s request)) h) (made : CanBeMade (events.Verb by (verbs.PostRecv s request))) (named : is_named c (verbs.PostRecv s request) ≡ true) where
    abbrev receive-are : ArePartsOfWorld c h
    receive-are = ready.parts

    abbrev receive-world : World
    receive-world = ready.parts.world

    -- what a receive completes at once
    abbrev received : QueuePair → List Completion
    received q = completions_to q q.recv_cq (marks_of_flush (with_receive request q))

    receive-in-world : (q : QueuePair) → receive-world.queue (queue_of s) ≡ Present q → first_of (post_recv_refusals request q) ≡ None
        → FitIn (receive-world.cq (recv_cq_of q)) (received q)
    receive-in-world q there first = put-fits c (events.Verb by (verbs.PostRecv s request)) receive-world _ _ (recv_cq_of q) (received q)
        receive-are.after.limited receive-are.after.sound receive-are.after.room made
        (verb_named c by (verbs.PostRecv s request) receive-world named ∙ recv_ends receive-world (record { by = by; verb = verbs.PostRecv s request }) s request q there first)
        (put-there receive-world (Cq_of (recv_cq_of q)) _)

    -- what completes where a receive is posted fits
    pub receive_fits_held : IfSome (queue_in ((holding h).world.queue (queue_of s))) (FitsReceive (holding h).world request)
    receive_fits_held = of-slot ((holding h).world.queue (queue_of s)) refl (needs_held c by (verbs.PostRecv s request) h ready named)
      where
        needs : QueueSlot → Needs
        needs (NoQueue incarnation timers) = Enough
        needs (Present q) = part (names.Cq (recv_cq_of q))

        of-slot : (z : QueueSlot) → (holding h).world.queue (queue_of s) ≡ z
            → AllByRecursion (λ p. (holding h).parts p ≡ true) (names.Queue (queue_of s) ∷ listed (holding h).world (needs z))
            → IfSome (queue_in z) (FitsReceive (holding h).world request)
        of-slot (NoQueue incarnation timers) is held = record {}
        of-slot (Present q) is held = λ first.
            subst (λ z. FitIn z (received q)) (sym (receive-are.shows (Cq_of (recv_cq_of q)) held.1.0))
            (receive-in-world q (sym (receive-are.shows (Queue_of (queue_of s)) held.0) ∙ is) first)
