-- A turn of a queue pair that is held: what it looks at is held, what completes fits, and what is changed. For proofs only.
use Rattle.std.proofs.Common.{◌≡◌, ◌∙◌, refl, sym, subst, ap, ℕ, Bool, true, false, List, [], ◌∷◌, ◌++◌, Option, None, Some, Result, Ok, Err, IfSome, is_none, if◌then◌else◌}
use Rattle.std.proofs.Math.Path.{fun_ext}
use Rattle.std.specs.Option.{option_map, option_map_or}
use Rattle.ca_adapter_acts.specs.Binders.{changed_by}
use Rattle.ca_adapter_acts.specs.declared.done.Outlets.{Outlets}
use Rattle.ca_adapter_acts.specs.Outlets.{completions_by, done_updates, outlets_of, recv_slot, send_slot}
use Rattle.ca_adapter_acts.specs.Room.{FitIn, FitsDone}
use Rattle.ca_adapter_acts.proofs.DoneLemmas.{of-queue}
use Rattle.ca_base.specs.Configuration.{Configuration}
use Rattle.ca_base.specs.declared.completion.Completion.{Completion}
use Rattle.ca_base.specs.declared.correspondent.Correspondent.{Correspondent}
use Rattle.ca_base.specs.declared.lot.Lot.{Lot}
use Rattle.ca_base.specs.declared.step.Sent.{Sent}
use Rattle.ca_base.specs.declared.step.Sent.TheVariants.{Silent, Spelt}
use Rattle.ca_base.specs.declared.step.Reason.{Reason}
use Rattle.ca_base.specs.declared.step.ActError.{ActError}
use Rattle.ca_base.specs.declared.step.ActError.TheVariants as steps
use Rattle.ca_base.specs.objects.CompletionQueue.{CompletionQueue, after_puts}
use Rattle.ca_base.specs.objects.Mailbox.{Mailbox, after_send}
use Rattle.ca_base.specs.objects.QueuePair.{NoQueue, Present, QueuePair, QueueSlot, queue_in, recv_cq_of, send_cq_of, srq_of}
use Rattle.ca_base.specs.objects.Slices.{has_queue}
use Rattle.ca_base.specs.objects.SharedReceives.{SrqSlot, after_receive_take}
use Rattle.ca_adapter_parts.specs.HeldView.{Holding, hold}
use Rattle.ca_keys.specs.declared.names.QueueId.{QueueId}
use Rattle.ca_keys.specs.declared.names.Slot.{Slot}
use Rattle.ca_keys.specs.Equal.{queue_eq, slot_eq}
use Rattle.ca_model.proofs.PerformLemmas.{around_at}
use Rattle.ca_model.proofs.ThingLemmas.{queue-path, slot-path, slot-refl}
use Rattle.ca_model.specs.Marks.{MarkList}
use Rattle.ca_model.specs.declared.mark.Mark.{Mark}
use Rattle.ca_model.specs.machine.Around.{Around, With_around, With_queue, completions_to, cq_updates, srq_updates, updates_of}
use Rattle.ca_model.specs.machine.Frame.{AllPass}
use Rattle.ca_model.specs.machine.Plan.{Did, Look, Plan, Stuck, Update, put_all, touches, ◌:=◌}
use Rattle.ca_model.specs.machine.Row.{Effects}
use Rattle.ca_model.specs.machine.Turns.{Packet, packet_sent, reaches_peer, sent_marks, sent_updates}
use Rattle.ca_model.specs.machine.World.{Cq_of, Mailbox_of, Queue_of, Srq_of, World, put}
use Rattle.ca_requester.specs.Timers.{IsStep}
use Rattle.ca_adapter_turns.specs.Stepped.{HasStepped, packet_of}
use Rattle.ca_model.specs.Past.{with_at}

module _ (h : Holding) (c : Configuration) (name : QueueId) (reason : Reason) (k : QueuePair → Plan) where
  -- the queue pair of a turn is held, and so is what it looks at
  pub with-queue-held : AllPass h.has (touches h.world (With_queue c name reason k)) → has_queue c name ≡ true → h.has (Queue_of name) ≡ true
  with-queue-held all has = let t = rw has at all in t.0

  pub with-queue-rest : (q : QueuePair) → AllPass h.has (touches h.world (With_queue c name reason k)) → has_queue c name ≡ true → h.world.queue name ≡ Present q
      → AllPass h.has (touches h.world (k q))
  with-queue-rest q all has there = subst (λ s. AllPass h.has (touches h.world (by s))) there (rw has at all).1
    where
      by : QueueSlot → Plan
      by (NoQueue incarnation timers) = Stuck reason
      by (Present q) = k q

-- what stands around a queue pair is held, and so is what a turn looks at with it
pub record IsAroundHeld (h : Holding) (q : QueuePair) (p : Plan) : Type 0 where
  pub send : h.has (Cq_of (send_cq_of q)) ≡ true
  pub recv : h.has (Cq_of (recv_cq_of q)) ≡ true
  pub shared : IfSome q.srq (λ srq. h.has (Srq_of (srq_of q srq)) ≡ true)
  pub rest : AllPass h.has (touches h.world p)

pub around-held : (h : Holding) (q : QueuePair) (k : Around → Plan) → AllPass h.has (touches h.world (With_around q k)) → IsAroundHeld h q (k (around_at h.world q))
around-held h q k all = record { send = all.0; recv = all.1.0; shared = (by q.srq all.1.1).0; rest = (by q.srq all.1.1).1 }
  where
    at : Option ℕ → Around
    at o = record { send = h.world.cq (send_cq_of q); recv = h.world.cq (recv_cq_of q); shared = option_map (λ srq. h.world.srq (srq_of q srq)) o }

    plan : Option ℕ → Plan
    plan None = k (at None)
    plan (Some srq) = Look (Srq_of (srq_of q srq)) (λ shared. k (record (at None) { shared = Some shared }))

    by : (o : Option ℕ) → AllPass h.has (touches h.world (plan o))
        → IfSome o (λ srq. h.has (Srq_of (srq_of q srq)) ≡ true) × AllPass h.has (touches h.world (k (at o)))
    by None rest = (record {}, rest)
    by (Some srq) rest = rest

-- both completion queues of a queue pair, with the completions among marks
abbrev pub done_cqs : QueuePair → List Mark → (Slot → Option CompletionQueue) → Slot → Option CompletionQueue
done_cqs q ms cq = with_at slot_eq (with_at slot_eq cq (send_cq_of q) (option_map (after_puts (completions_to q q.send_cq ms)) (cq (send_cq_of q))))
    (recv_cq_of q) (option_map (after_puts (completions_to q q.recv_cq ms)) (cq (recv_cq_of q)))

module _ (w v : World) (q : QueuePair) (ms seen : List Mark) (puts : v.cq ≡ done_cqs q ms w.cq) (fits : FitsDone w (Did v seen)) where
  fit-at : (s : Slot) (cs : List Completion) (o : Option CompletionQueue) → w.cq s ≡ o → v.cq s ≡ option_map (after_puts cs) o → FitIn o cs
  fit-at s cs None is put = record {}
  fit-at s cs (Some x) is put = fits s x cs is put

  pub fits-recv : FitIn (w.cq (recv_cq_of q)) (completions_to q q.recv_cq ms)
  fits-recv = fit-at (recv_cq_of q) (completions_to q q.recv_cq ms) (w.cq (recv_cq_of q)) refl
      (ap (λ f. f (recv_cq_of q)) puts ∙ rw (slot-refl (recv_cq_of q)) refl)

  pub fits-send : FitIn (w.cq (send_cq_of q)) (completions_to q q.send_cq ms)
  fits-send = fit-at (send_cq_of q) (completions_to q q.send_cq ms) (w.cq (send_cq_of q)) refl
      (ap (λ f. f (send_cq_of q)) puts ∙ by (slot_eq (recv_cq_of q) (send_cq_of q)) refl)
    where
      put : Slot → Option CompletionQueue
      put s = option_map (after_puts (completions_to q s.slot ms)) (w.cq s)

      by : (b : Bool) → slot_eq (recv_cq_of q) (send_cq_of q) ≡ b → done_cqs q ms w.cq (send_cq_of q) ≡ put (send_cq_of q)
      by true one = rw one (ap put (slot-path (recv_cq_of q) (send_cq_of q) one))
      by false other = rw (other, slot-refl (send_cq_of q)) refl

-- a queue pair has stepped, and its completion queues have what completed
pub turned : (q : QueuePair) (name : QueueId) (e : Effects) (h mid new : Holding) (o : Outlets) (ms : List Mark) → q.queue ≡ name → o ≡ outlets_of q → ms ≡ e.marks
    → e.takes_shared ≡ false → mid ≡ hold h (Queue_of name) (Present e.queue) → new ≡ changed_by (done_updates o ms mid.world) mid
    → new ≡ changed_by (updates_of q (around_at h.world q) e) h
turned q name e h mid new o ms named outlets marks no-take first second = second
    ∙ ap (λ m. changed_by (done_updates o ms m.world) m) first
    ∙ ap (λ x. changed_by (done_updates x ms stepped.world) stepped) outlets
    ∙ ap (λ xs. changed_by (done_updates (outlets_of q) xs stepped.world) stepped) marks
    ∙ ap (λ cs. with_puts cs (completions_by (outlets_of q) q.recv_cq e.marks) name) (of-queue q q.send_cq e.marks)
    ∙ ap (λ cs. with_puts (completions_to q q.send_cq e.marks) cs name) (of-queue q q.recv_cq e.marks)
    ∙ ap (with_puts (completions_to q q.send_cq e.marks) (completions_to q q.recv_cq e.marks)) (sym named)
    ∙ rw no-take refl
  where
    stepped : Holding
    stepped = hold h (Queue_of name) (Present e.queue)

    with_puts : List Completion → List Completion → QueueId → Holding
    with_puts sends receives n = changed_by (
        (Queue_of n := Present e.queue)
        ∷ (Cq_of (send_cq_of q) := option_map (after_puts sends) (h.world.cq (send_cq_of q)))
        ∷ (Cq_of (recv_cq_of q) := option_map (after_puts receives) (h.world.cq (recv_cq_of q)))
        ∷ []) h

-- the world after it has the completions in its completion queues, and nothing else there
turned-cqs : (w : World) (q : QueuePair) (e : Effects) → (put_all (updates_of q (around_at w q) e) w).cq ≡ done_cqs q e.marks w.cq
turned-cqs w q e = by e.takes_shared (around_at w q).shared q.srq
  where
    before : World
    before = put_all ((Queue_of q.queue := Present e.queue) ∷ cq_updates q (around_at w q) e.marks) w

    by : (takes : Bool) (shared : Option SrqSlot) (srq : Option ℕ)
        → (put_all (if takes then srq_updates (record q { srq = srq }) (record (around_at w q) { shared = shared }) after_receive_take else []) before).cq ≡ done_cqs q e.marks w.cq
    by false shared srq = refl
    by true None None = refl
    by true None (Some srq) = refl
    by true (Some slot) None = refl
    by true (Some slot) (Some srq) = refl

-- what a turn completes fits in the completion queues once the queue pair has stepped, where its outcome fits
module _ (q : QueuePair) (name : QueueId) (e : Effects) (h mid : Holding) (o : Outlets) (ms seen : List Mark) (v : World) (stepped : mid ≡ hold h (Queue_of name) (Present e.queue))
    (outlets : o ≡ outlets_of q) (marks : ms ≡ e.marks) (puts : v.cq ≡ (put_all (updates_of q (around_at h.world q) e) h.world).cq) where
  there : (n : ℕ) (P : Option CompletionQueue → List Completion → Type 0) → P (h.world.cq (record { domain = q.domain; slot = n })) (completions_to q n e.marks)
      → P (mid.world.cq (record { domain = o.domain; slot = n })) (completions_by o n ms)
  there n P fit = subst (λ m. P (m.world.cq (record { domain = o.domain; slot = n })) (completions_by o n ms)) (sym stepped)
      (subst (λ x. P (h.world.cq (record { domain = x.domain; slot = n })) (completions_by x n ms)) (sym outlets)
      (subst (λ xs. P (h.world.cq (record { domain = q.domain; slot = n })) (completions_by (outlets_of q) n xs)) (sym marks)
      (subst (λ cs. P (h.world.cq (record { domain = q.domain; slot = n })) cs) (sym (of-queue q n e.marks)) fit)))

  pub sends-fit : FitsDone h.world (Did v seen) → FitIn (mid.world.cq (send_slot o)) (completions_by o o.send ms)
  sends-fit fits = subst (λ n. FitIn (mid.world.cq (record { domain = o.domain; slot = n })) (completions_by o n ms)) (sym (ap (λ x. x.send) outlets))
      (there q.send_cq FitIn (fits-send h.world v q e.marks seen (puts ∙ turned-cqs h.world q e) fits))

  pub receives-fit : FitsDone h.world (Did v seen) → FitIn (mid.world.cq (recv_slot o)) (completions_by o o.recv ms)
  receives-fit fits = subst (λ n. FitIn (mid.world.cq (record { domain = o.domain; slot = n })) (completions_by o n ms)) (sym (ap (λ x. x.recv) outlets))
      (there q.recv_cq FitIn (fits-recv h.world v q e.marks seen (puts ∙ turned-cqs h.world q e) fits))

-- what a name has already is put there
pub same-queue : (h : Holding) (name : QueueId) (s : QueueSlot) → h.world.queue name ≡ s → hold h (Queue_of name) s ≡ h
same-queue h name s there = λ i. record h { world = record h.world { queue = fun_ext (λ m. by m (queue_eq name m) refl) i } }
  where
    by : (m : QueueId) (b : Bool) → queue_eq name m ≡ b → (if b then s else h.world.queue m) ≡ h.world.queue m
    by m true is = sym there ∙ ap h.world.queue (queue-path name m is)
    by m false is = refl

module _ (h new : Holding) (name : QueueId) (q now : QueuePair) (there : Present q ≡ h.world.queue name) (put : new ≡ hold h (Queue_of name) (Present now)) where
  moved : (e : Effects) → now ≡ e.queue → new ≡ hold h (Queue_of name) (Present e.queue)
  moved e same = put ∙ ap (λ x. hold h (Queue_of name) (Present x)) same

  unmoved : now ≡ q → new ≡ h
  unmoved same = put ∙ ap (λ x. hold h (Queue_of name) (Present x)) same ∙ same-queue h name (Present q) (sym there)

  -- a step was made, or nothing has changed
  told : (P : QueuePair → Type 0) → P q → (x : QueuePair) → h.world.queue name ≡ Present x → P x
  told P is x here = subst (λ s. IfSome (queue_in s) P) (there ∙ here) is

  pub has-stepped : {A : Type 0} (result : Result A ActError) (refusal : QueuePair → Option Reason) (e : QueuePair → Effects) (before made : MarkList)
      → IsStep result (refusal q) (e q) q now before made → (x : QueuePair) → h.world.queue name ≡ Present x → HasStepped name result (refusal x) (e x).queue h new
  has-stepped result refusal e before made step = told (λ x. HasStepped name result (refusal x) (e x).queue h new) (by result step)
    where
      by : {A : Type 0} (result : Result A ActError) → IsStep result (refusal q) (e q) q now before made → HasStepped name result (refusal q) (e q).queue h new
      by (Ok done) step = (step.0, moved (e q) step.1.queue)
      by (Err (steps.NotReady reason)) step = (step.0, unmoved step.1.queue)
      by (Err steps.Memory) step = unmoved step.1.queue

-- no receive is there to take
pub none_received : {A B : Type 0} (f : A → B) (o : Option A) → is_none (option_map f o) ≡ is_none o
none_received f None = refl
none_received f (Some a) = refl

-- what holds of the queue pair in a slot
pub of-present : (P : QueuePair → Type 0) (s : QueueSlot) (q : QueuePair) → s ≡ Present q → IfSome (queue_in s) P → P q
of-present P s q there is = subst (λ s. IfSome (queue_in s) P) there is

pub at-present : (P : QueuePair → Type 0) (s : QueueSlot) (q : QueuePair) → s ≡ Present q → P q → IfSome (queue_in s) P
at-present P s q there is = subst (λ s. IfSome (queue_in s) P) (sym there) is

-- all changes are made, one list after another
pub puts-append : (xs ys : List Update) (u : World) → put_all (xs ++ ys) u ≡ put_all ys (put_all xs u)
puts-append [] ys u = refl
puts-append (x ∷ xs) ys u = puts-append xs ys (put u x.name x.thing)

-- a turn is done: the queue pair has stepped, its completion queues have what completed, and its packet has left
module _ (q : QueuePair) (name : QueueId) (e : Effects) (p : Correspondent) (lot : Lot) (h mid done new : Holding) (o : Outlets) (ms : List Mark) (sent : Sent) (bytes : List ℕ)
    (named : q.queue ≡ name) (outlets : o ≡ outlets_of q) (marks : ms ≡ e.marks) (is-sent : sent ≡ e.sent) (spelt : bytes ≡ e.spelt) (no-take : e.takes_shared ≡ false)
    (first : mid ≡ hold h (Queue_of name) (Present e.queue)) (second : done ≡ changed_by (done_updates o ms mid.world) mid) where
  abbrev pub own_mail : Mailbox
  own_mail = h.world.mailbox p.queue

  packet-is : packet_of sent bytes ≡ packet_sent e
  packet-is = ap (λ s. packet_of s bytes) is-sent ∙ ap (packet_of e.sent) spelt ∙ by e.sent
    where
      by : (s : Sent) → packet_of s e.spelt ≡ packet_sent (record e { sent = s })
      by Silent = refl
      by (Spelt request) = refl

  at-done : done ≡ changed_by (updates_of q (around_at h.world q) e) h
  at-done = turned q name e h mid done o ms named outlets marks no-take first second

  pub mail-kept : done.world.mailbox ≡ h.world.mailbox
  mail-kept = ap (λ x. x.world.mailbox) second ∙ ap (λ x. x.world.mailbox) first

  pub gone : new ≡ changed_by (option_map_or (sent_updates q p (done.world.mailbox p.queue) lot) (packet_of sent bytes) []) done
      → new ≡ changed_by (updates_of q (around_at h.world q) e ++ option_map_or (sent_updates q p own_mail lot) (packet_sent e) []) h
  gone third = third ∙ ap (λ f. changed_by (option_map_or (sent_updates q p (f p.queue) lot) (packet_of sent bytes) []) done) mail-kept
      ∙ ap (λ x. changed_by (option_map_or (sent_updates q p own_mail lot) x []) done) packet-is
      ∙ ap (changed_by (option_map_or (sent_updates q p own_mail lot) (packet_sent e) [])) at-done
      ∙ ap (λ w. record h { world = w }) (sym (puts-append (updates_of q (around_at h.world q) e) (option_map_or (sent_updates q p own_mail lot) (packet_sent e) []) h.world))

  pub marks-gone : (made : List Mark) → made ≡ ms ++ option_map_or (sent_marks q p (done.world.mailbox p.queue) lot) (packet_of sent bytes) []
      → made ≡ e.marks ++ option_map_or (sent_marks q p own_mail lot) (packet_sent e) []
  marks-gone made is = is ∙ ap (λ f. ms ++ option_map_or (sent_marks q p (f p.queue) lot) (packet_of sent bytes) []) mail-kept
      ∙ ap (λ x. ms ++ option_map_or (sent_marks q p own_mail lot) x []) packet-is
      ∙ ap (λ xs. xs ++ option_map_or (sent_marks q p own_mail lot) (packet_sent e) []) marks

-- a packet that leaves changes no completion queue
pub mail-aside : (q : QueuePair) (p : Correspondent) (m : Mailbox) (lot : Lot) (x : Option Packet) (us : List Update) (w : World)
    → (put_all (us ++ option_map_or (sent_updates q p m lot) x []) w).cq ≡ (put_all us w).cq
mail-aside q p m lot x us w = ap (λ v. v.cq) (puts-append us (option_map_or (sent_updates q p m lot) x []) w) ∙ by x
  where
    path : (b : Bool) (y : Packet) → (put_all (if b then (Mailbox_of p.queue := after_send lot y.bytes m) ∷ [] else []) (put_all us w)).cq ≡ (put_all us w).cq
    path true y = refl
    path false y = refl

    by : (x : Option Packet) → (put_all (option_map_or (sent_updates q p m lot) x []) (put_all us w)).cq ≡ (put_all us w).cq
    by None = refl
    by (Some y) = path (reaches_peer q p m) y
