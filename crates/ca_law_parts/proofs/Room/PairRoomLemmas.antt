-- The posts to a queue pair and its changes of state leave room.
use Rattle.std.proofs.Common.{◌≡◌, ℕ, ◌≤◌, nat_lt, Bool, true, false, List, [], ◌∷◌, length, Option, None, Some, IfSome, refl, arith, sym, ◌∙◌, ap, subst, if◌then◌else◌}
use Rattle.std.proofs.lemmas.Bool.{ltb-false}
use Rattle.std.specs.List.{AllByRecursion}
use Rattle.std.specs.Option.{option_map, option_map_or}
use Rattle.ca_base.specs.declared.change.State.TheVariants as states
use Rattle.ca_base.specs.declared.limits.TheConstants.{MAX_MESSAGE_BYTES, MAX_PIECES}
use Rattle.ca_base.specs.declared.request.RecvRequest.{RecvRequest}
use Rattle.ca_base.specs.declared.request.SendRequest.{SendRequest}
use Rattle.ca_keys.specs.declared.names.QueueId.{QueueId}
use Rattle.ca_keys.specs.declared.names.Slot.{Slot}
use Rattle.ca_base.specs.Configuration.{Configuration}
use Rattle.ca_keys.specs.Equal.{queue_eq, slot_eq}
use Rattle.ca_base.specs.objects.CompletionQueue.{CompletionQueue, after_puts}
use Rattle.ca_base.specs.objects.QueuePair.{QueuePair, QueueSlot, NoQueue, Present, in_error, recv_cq_of, send_cq_of, srq_of, with_all_flushed}
use Rattle.ca_base.specs.objects.StateTable.{state_eq}
use Rattle.ca_base.specs.objects.Window.{after_draw, byte_drawn}
use Rattle.ca_base.specs.objects.WorkQueue.{WorkQueue, is_full, with_item}
use Rattle.ca_model.specs.Past.{with_at}
use Rattle.ca_model.specs.Requests.{list_length, list_of}
use Rattle.ca_model.specs.declared.mark.Mark.{Mark}
use Rattle.ca_model.specs.machine.Around.{completions_to}
use Rattle.ca_model.specs.machine.Completions.{flush_marks}
use Rattle.ca_model.specs.machine.Invariants.{IsQueue}
use Rattle.ca_model.specs.machine.Places.{AreTakenInOrder, Ascend, IsInOrder, completions_in, first_held, places_of_side}
use Rattle.ca_model.specs.machine.Plan.{Update, ◌:=◌}
use Rattle.ca_model.specs.machine.PostingVerbs.{Posted_send, after_flush, marks_of_flush, post_recv_plan, post_send_plan, with_send}
use Rattle.ca_model.specs.machine.QueuePairVerbs.{query_qp_plan}
use Rattle.ca_model.specs.machine.Row.{queue_and_marks}
use Rattle.ca_model.specs.machine.Sound.{IsSoundWorld}
use Rattle.ca_model.specs.machine.VerbAnswers.{Call}
use Rattle.ca_model.specs.machine.World.{World, Cq_of, Queue_of, Window_of}
use Rattle.ca_law_world.proofs.Sound.PlanWalks.{walk-post_send, walk-present}
use Rattle.ca_law_world.proofs.Sound.GoodLemmas.{IsLater}
use Rattle.ca_law_world.proofs.Sound.OrderLemmas.{flush-order}
use Rattle.ca_law_world.proofs.Sound.SettledLemmas.{queue-path, queue-refl}
use Rattle.ca_law_world.proofs.Sound.VerbLemmas.{IsFlushed, flushed, posted-receive, posted-send}
use Rattle.ca_law_world.proofs.Sound.WorldLemmas.{EndsIn, IsThere}
use Rattle.ca_law_parts.specs.Room.{HasRoom, HaveRoom, IsInPlace, use_of, waits_in}
use Rattle.ca_law_parts.proofs.Room.KeptLemmas.{AreAside, marks-of, room-behind}
use Rattle.ca_law_parts.proofs.Room.AdvanceLemmas.{AreNamed, IsPut, put-put, sound-named, still-room}
use Rattle.ca_law_parts.proofs.Room.EngineRoomLemmas.{LeavesRoom}
use Rattle.ca_law_parts.proofs.Room.ObjectRoomLemmas.{pair-room}

pub room-query : (c : Configuration) (w : World) (call : Call) (s : Slot) → IsSoundWorld c w → HasRoom w → EndsIn w (LeavesRoom w) (query_qp_plan call s)
room-query c w call s sound room = walk-present c w (LeavesRoom w) call s _ sound room (λ q there. room)

-- a queue pair that changes twice
pub twice : (queue : QueueId → QueueSlot) (n : QueueId) (x y : QueueSlot) → with_at queue_eq (with_at queue_eq queue n x) n y ≡ with_at queue_eq queue n y
twice queue n x y = λ i. λ m. by m (queue_eq n m) i
  where
    by : (m : QueueId) (b : Bool) → (if b then y else (if b then x else queue m)) ≡ (if b then y else queue m)
    by m true = refl
    by m false = refl

pub named-with : (queue : QueueId → QueueSlot) (n : QueueId) (p : QueuePair) → AreNamed queue → p.queue ≡ n → AreNamed (with_at queue_eq queue n (Present p))
named-with queue n p named same m q is = by (queue_eq n m) refl is
  where
    queue-in : QueueSlot → QueueId
    queue-in (NoQueue incarnation timers) = n
    queue-in (Present q) = q.queue

    by : (b : Bool) → queue_eq n m ≡ b → (if b then Present p else queue m) ≡ Present q → q.queue ≡ m
    by true e is = sym (ap queue-in is) ∙ (same ∙ queue-path n m e)
    by false e is = named m q is

-- in Error what is posted is flushed in order, and else nothing is
flush-in-order : (q : QueuePair) → IsQueue q → IsInOrder q (queue_and_marks (after_flush q) (marks_of_flush q))
flush-in-order q s = by (state_eq q.state states.Error)
  where
    first : (r : Option (WorkQueue RecvRequest)) → AreTakenInOrder r r q.responder.message q.responder.message []
    first None = record {}
    first (Some r) = (refl, omega arith)

    flushed-order : IsInOrder q (queue_and_marks (in_error q) (flush_marks q)) → IsInOrder q (queue_and_marks (with_all_flushed q) (flush_marks q))
    flushed-order o = record { sends = o.sends; done = o.done; own = o.own; held = o.held }

    by : (b : Bool) → IsInOrder q (queue_and_marks (if b then with_all_flushed q else q) (if b then flush_marks q else []))
    by true = flushed-order (flush-order q s.requester.finished (omega (arith, s.requester.begun, s.requester.waiting)) s.receives s.taken)
    by false = record { sends = refl; done = omega arith; own = first q.receives; held = λ none takes. refl }

-- a post: the queue pair goes on, and one of its completion queues has what a flush completed
posted-room : (c : Configuration) (w : World) (q p : QueuePair) (k : ℕ) (more : List Update) → IsSoundWorld c w → (room : HasRoom w) → IsThere w q → p.queue ≡ q.queue → IsQueue p
    → use_of (Present p) ≡ use_of (Present q) → (IsInPlace w.cq w.srq room.holder q → IsInPlace w.cq w.srq room.holder p)
    → IsPut w.cq (with_at slot_eq w.cq (record { domain = q.domain; slot = k }) (option_map (after_puts (completions_to q k (marks_of_flush p))) (w.cq (record { domain = q.domain; slot = k })))) p (marks_of_flush p)
    → AreAside more
    → LeavesRoom w ((Queue_of q.queue := Present (after_flush p)) ∷ (Cq_of (record { domain = q.domain; slot = k }) := option_map (after_puts (completions_to q k (marks_of_flush p))) (w.cq (record { domain = q.domain; slot = k }))) ∷ more)
posted-room c w q p k more sound room there same s keeps place put aside =
    room-behind ((Queue_of q.queue := Present (after_flush p)) ∷ (Cq_of at := option_map (after_puts (completions_to q k (marks_of_flush p))) (w.cq at)) ∷ []) more w aside
    (subst (λ f. HaveRoom f now w.srq) (twice w.queue q.queue (Present p) (Present (after_flush p)))
    (subst (λ n. HaveRoom (with_at queue_eq queue n (Present (after_flush p))) now w.srq) same
    (still-room queue w.cq now w.srq p (queue_and_marks (after_flush p) (marks_of_flush p))
    (pair-room w.queue w.cq w.srq q p room (sound-named c w sound) there.present keeps place)
    (named-with w.queue q.queue p (sound-named c w sound) same)
    (ap (λ n. with_at queue_eq w.queue q.queue (Present p) n) same ∙ ap (λ b. if b then Present p else w.queue q.queue) (queue-refl q.queue))
    s (after (flushed p s)) (flush-in-order p s) refl put)))
  where
    at : Slot
    at = record { domain = q.domain; slot = k }

    queue : QueueId → QueueSlot
    queue = with_at queue_eq w.queue q.queue (Present p)

    now : Slot → Option CompletionQueue
    now = with_at slot_eq w.cq at (option_map (after_puts (completions_to q k (marks_of_flush p))) (w.cq at))

    after : IsFlushed p → IsLater p (after_flush p)
    after f = f.later

-- all that a flush completes is of the queue pair
flush-of : (q p : QueuePair) → p.queue ≡ q.queue → IsQueue p → AllByRecursion (λ c. c.queue ≡ q.queue) (completions_in (marks_of_flush p))
flush-of q p same s = subst (λ n. AllByRecursion (λ c. c.queue ≡ n) (completions_in (marks_of_flush p))) same (by (flushed p s))
  where
    by : IsFlushed p → AllByRecursion (λ c. c.queue ≡ p.queue) (completions_in (marks_of_flush p))
    by f = subst (λ n. AllByRecursion (λ c. c.queue ≡ n) (completions_in (marks_of_flush p))) f.later.queue (marks-of (after_flush p) (marks_of_flush p) f.settled)

room-posted : (c : Configuration) (w : World) (call : Call) (q : QueuePair) (request : SendRequest) (drawn : Option ℕ) (window : Slot) (more : List Update) → IsSoundWorld c w → HasRoom w → IsThere w q
    → length (list_of request.op) ≤ MAX_PIECES → AreAside more → EndsIn w (LeavesRoom w) (Posted_send call q request drawn window more)
room-posted c w call q request drawn window more sound room there few aside = (
  λ is. room,
  λ atomic. (λ is. room, λ short. (λ is. room, λ state. (λ is. room, λ free. done (fine short free)))),
)
  where
    posted : QueuePair
    posted = with_send request drawn q

    fine : nat_lt MAX_MESSAGE_BYTES (list_length (list_of request.op)) ≡ false → is_full q.sends ≡ false → IsQueue posted
    fine short free = posted-send q request drawn there.sound (record { few = few; bytes = ltb-false MAX_MESSAGE_BYTES (list_length (list_of request.op)) short }) free

    again : (ms : List Mark) (now : Slot → Option CompletionQueue) → IsPut w.cq now q ms → IsPut w.cq now posted ms
    again ms now put = record { rooms = put.rooms; grows = put.grows; others = put.others }

    done : IsQueue posted → LeavesRoom w ((Queue_of q.queue := Present (after_flush posted))
        ∷ (Cq_of (send_cq_of q) := option_map (after_puts (completions_to q q.send_cq (marks_of_flush posted))) (w.cq (send_cq_of q))) ∷ more)
    done s = posted-room c w q posted q.send_cq more sound room there refl s refl (λ place. record { sends = place.sends; receives = place.receives; shared = place.shared })
        (again (marks_of_flush posted) _ (put-put w.cq q q.send_cq (marks_of_flush posted) (flush-of q posted refl s))) aside

pub room-post_send : (c : Configuration) (w : World) (call : Call) (s : Slot) (request : SendRequest) → IsSoundWorld c w → HasRoom w → length (list_of request.op) ≤ MAX_PIECES
    → EndsIn w (LeavesRoom w) (post_send_plan call s request)
room-post_send c w call s request sound room few = walk-post_send c w (LeavesRoom w) call s request sound room
    (λ q there. room-posted c w call q request None s [] sound room there few (record {}))
    (λ q at there. room-posted c w call q request (byte_drawn (w.window at)) at ((Window_of at := after_draw (w.window at)) ∷ []) sound room there few (record {}, record {}))

pub room-post_recv : (c : Configuration) (w : World) (call : Call) (s : Slot) (request : RecvRequest) → IsSoundWorld c w → HasRoom w → length request.list.items ≤ MAX_PIECES
    → EndsIn w (LeavesRoom w) (post_recv_plan call s request)
room-post_recv c w call s request sound room few = walk-present c w (LeavesRoom w) call s _ sound room (λ q there. (
  λ is. room,
  λ own. (λ is. room, λ short. (λ is. room, λ state. (λ is. room, λ free. by q there (fine q there short free)))),
))
  where
    posted : QueuePair → QueuePair
    posted q = record q { receives = option_map (with_item request) q.receives }

    fine : (q : QueuePair) → IsThere w q → nat_lt MAX_MESSAGE_BYTES (list_length request.list.items) ≡ false → option_map_or is_full q.receives false ≡ false → IsQueue (posted q)
    fine q there short free = posted-receive q request there.sound (record { few = few; bytes = ltb-false MAX_MESSAGE_BYTES (list_length request.list.items) short }) free

    depth : (o : Option (WorkQueue RecvRequest)) → option_map (λ r. r.depth) (option_map (with_item request) o) ≡ option_map (λ r. r.depth) o
    depth None = refl
    depth (Some r) = refl

    own : (q : QueuePair) (o : Option (WorkQueue RecvRequest)) → IfSome o (λ r. Ascend r.first (first_held r q.responder.message) (places_of_side q.queue true (waits_in w.cq (recv_cq_of q))))
        → IfSome (option_map (with_item request) o) (λ r. Ascend r.first (first_held r q.responder.message) (places_of_side q.queue true (waits_in w.cq (recv_cq_of q))))
    own q None all = record {}
    own q (Some r) all = all

    again : (q : QueuePair) (ms : List Mark) (now : Slot → Option CompletionQueue) → IsPut w.cq now q ms → IsPut w.cq now (posted q) ms
    again q ms now put = record { rooms = put.rooms; grows = put.grows; others = put.others }

    same-use : (q : QueuePair) → use_of (Present (posted q)) ≡ use_of (Present q)
    same-use q = ap (λ d. Some (record { send_cq = send_cq_of q; recv_cq = recv_cq_of q; srq = option_map (srq_of q) q.srq; send_depth = q.sends.depth; recv_depth = d })) (depth q.receives)

    by : (q : QueuePair) → IsThere w q → IsQueue (posted q) → LeavesRoom w
        ((Queue_of q.queue := Present (after_flush (posted q)))
        ∷ (Cq_of (recv_cq_of q) := option_map (after_puts (completions_to q q.recv_cq (marks_of_flush (posted q)))) (w.cq (recv_cq_of q))) ∷ [])
    by q there s = posted-room c w q (posted q) q.recv_cq [] sound room there refl s (same-use q) (λ place. record { sends = place.sends; receives = own q q.receives place.receives; shared = place.shared })
        (again q (marks_of_flush (posted q)) _ (put-put w.cq q q.recv_cq (marks_of_flush (posted q)) (flush-of q (posted q) refl s))) (record {})
