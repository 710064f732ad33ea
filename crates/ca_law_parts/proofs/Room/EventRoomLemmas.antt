-- Every event leaves room.
use Rattle.std.proofs.Common.{◌≡◌, ◌+◌, ◌≤◌, ◌<◌, arith, true, false, List, [], ◌∷◌, ◌++◌, length, Some, subst, refl}
use Rattle.std.proofs.lemmas.List.{length-append}
use Rattle.ca_base.specs.declared.completion.Completion.{Completion}
use Rattle.ca_keys.specs.declared.names.Slot.{Slot}
use Rattle.ca_base.specs.Configuration.{Configuration}
use Rattle.ca_keys.specs.Memory.{bytes_at}
use Rattle.ca_base.specs.objects.CompletionQueue.{CompletionQueue, after_puts}
use Rattle.ca_model.specs.declared.mark.Mark.{Mark}
use Rattle.ca_model.specs.declared.event.Event.{Event}
use Rattle.ca_model.specs.declared.event.Event.TheVariants as events
use Rattle.ca_model.specs.declared.verb.Verb.{Verb}
use Rattle.ca_model.specs.declared.verb.Verb.TheVariants as verbs
use Rattle.ca_model.specs.machine.Frame.{Afterwards}
use Rattle.ca_model.specs.machine.Plan.{Did, Finish, If, Look, Plan, Read, Stuck, Write, perform, put_all, write_all}
use Rattle.ca_model.specs.machine.Sound.{AreLimited, CanBeMade, HasFewPieces, IsSoundWorld}
use Rattle.ca_model.specs.machine.Step.{bytes_of_buffer, plan, run_of, step, verb_plan}
use Rattle.ca_model.specs.machine.VerbAnswers.{Call}
use Rattle.ca_model.specs.machine.World.{World, get}
use Rattle.ca_model.proofs.FrameLemmas.{after_write}
use Rattle.ca_law_world.proofs.Sound.SoundLemmas.{event-sound}
use Rattle.ca_law_world.proofs.Sound.TakenLemmas.{arrival-takes}
use Rattle.ca_law_world.proofs.Sound.WorldLemmas.{EndsIn}
use Rattle.ca_law_parts.specs.Room.{HasRoom}
use Rattle.ca_law_parts.proofs.Room.CreateRoomLemmas.{room-create_qp}
use Rattle.ca_law_parts.proofs.Room.DestroyRoomLemmas.{room-destroy_qp}
use Rattle.ca_law_parts.proofs.Room.EmptiedRoomLemmas.{room-modify_qp}
use Rattle.ca_law_parts.proofs.Room.EngineRoomLemmas.{ArrivalsTake, LeavesRoom, room-deliver, room-inject, room-request, room-respond, room-timeout, room-wake}
use Rattle.ca_law_parts.proofs.Room.FitLemmas.{waiting-few}
use Rattle.ca_law_parts.proofs.Room.ObjectRoomLemmas.{room-alloc_mr, room-alloc_mw, room-alloc_pd, room-create_cq, room-create_srq, room-dealloc_mw, room-dealloc_pd, room-dereg_mr, room-destroy_cq, room-destroy_srq, room-load, room-post_srq, room-reg_mr, room-store}
use Rattle.ca_law_parts.proofs.Room.PairRoomLemmas.{room-post_recv, room-post_send, room-query}
use Rattle.ca_law_parts.proofs.Room.PollRoomLemmas.{room-poll}

takes : ArrivalsTake
takes bytes envelope shared q sound is = arrival-takes bytes envelope shared q sound

room-verb : (c : Configuration) (w : World) (call : Call) (verb : Verb) → IsSoundWorld c w → HasRoom w → HasFewPieces verb → EndsIn w (LeavesRoom w) (verb_plan c call verb)
room-verb c w call (verbs.AllocPd domain) sound room few = room-alloc_pd w call domain room
room-verb c w call (verbs.DeallocPd domain) sound room few = room-dealloc_pd w call domain room
room-verb c w call (verbs.RegMr slot buffer offset count rights) sound room few =
    room-reg_mr w call slot (run_of slot.domain.adapter buffer offset count) (bytes_of_buffer c slot.domain.adapter buffer) rights room
room-verb c w call (verbs.AllocMr slot pages) sound room few = room-alloc_mr w call slot pages room
room-verb c w call (verbs.DeregMr slot) sound room few = room-dereg_mr w call slot room
room-verb c w call (verbs.AllocMw slot kind) sound room few = room-alloc_mw w call slot kind room
room-verb c w call (verbs.DeallocMw slot) sound room few = room-dealloc_mw c w call slot sound room
room-verb c w call (verbs.CreateCq slot capacity) sound room few = room-create_cq c w call slot capacity sound room
room-verb c w call (verbs.DestroyCq slot) sound room few = room-destroy_cq c w call slot sound room
room-verb c w call (verbs.CreateSrq slot depth) sound room few = room-create_srq c w call slot depth sound room
room-verb c w call (verbs.DestroySrq slot) sound room few = room-destroy_srq c w call slot room
room-verb c w call (verbs.CreateQp slot send_cq recv_cq send_depth recv_depth srq) sound room few = room-create_qp c w call (record {
  slot = slot;
  send_cq = send_cq;
  recv_cq = recv_cq;
  send_depth = send_depth;
  recv_depth = recv_depth;
  srq = srq;
}) sound room
room-verb c w call (verbs.ModifyQp slot change) sound room few = room-modify_qp c w call slot change sound room
room-verb c w call (verbs.QueryQp slot) sound room few = room-query c w call slot sound room
room-verb c w call (verbs.DestroyQp slot) sound room few = room-destroy_qp c w call slot sound room
room-verb c w call (verbs.PostSend slot request) sound room few = room-post_send c w call slot request sound room few
room-verb c w call (verbs.PostRecv slot request) sound room few = room-post_recv c w call slot request sound room few
room-verb c w call (verbs.PostSrq slot request) sound room few = room-post_srq c w call slot request room
room-verb c w call (verbs.Poll slot n least) sound room few = room-poll c w call slot n least sound room
room-verb c w call (verbs.Store adapter buffer offset bytes) sound room few = room-store w call (run_of adapter buffer offset (length bytes)) (bytes_of_buffer c adapter buffer) bytes room
room-verb c w call (verbs.Load adapter buffer offset count) sound room few = room-load w call (run_of adapter buffer offset count) (bytes_of_buffer c adapter buffer) room
room-verb c w call (verbs.Inject queue bytes) sound room few = room-inject takes c w call queue bytes sound room

room-event : (c : Configuration) (w : World) (event : Event) → IsSoundWorld c w → HasRoom w → CanBeMade event → EndsIn w (LeavesRoom w) (plan c event)
room-event c w (events.Verb by verb) sound room few = (λ named. room-verb c w (record { by = by; verb = verb }) verb sound room few, λ none. room)
room-event c w (events.Request queue lot) sound room few = room-request c w queue lot sound room
room-event c w (events.Deliver queue index) sound room few = room-deliver takes c w queue index sound room
room-event c w (events.Respond queue lot) sound room few = room-respond c w queue lot sound room
room-event c w (events.Timeout queue hasten) sound room few = room-timeout c w queue hasten sound room
room-event c w (events.RnrWake queue) sound room few = room-wake c w queue sound room

writes-room : (xs : List Write) (w : World) → HasRoom w → HasRoom (write_all xs w)
writes-room [] w room = room
writes-room (x ∷ xs) w room = writes-room xs (after_write x w) room

perform-room : (p : Plan) (w : World) → EndsIn w (LeavesRoom w) p → Afterwards HasRoom (perform w p)
perform-room (Stuck reason) w ends = record {}
perform-room (Look n k) w ends = perform-room (k (get w n)) w ends
perform-room (Read runs k) w ends = perform-room (k (bytes_at w.byte runs)) w ends
perform-room (If true p q) w ends = perform-room p w (ends.0 refl)
perform-room (If false p q) w ends = perform-room q w (ends.1 refl)
perform-room (Finish changes writes marks) w ends = writes-room writes (put_all changes w) ends

pub event-room : (c : Configuration) (event : Event) (w : World) → IsSoundWorld c w → HasRoom w → CanBeMade event → Afterwards HasRoom (step c w event)
event-room c event w sound room few = perform-room (plan c event) w (room-event c w event sound room few)

-- what an event puts into a completion queue fits, with what waits there
pub together-fit : (c : Configuration) (event : Event) (w v : World) (ms : List Mark) (s : Slot) (q : CompletionQueue) (put : List Completion) → AreLimited c → IsSoundWorld c w → HasRoom w
    → CanBeMade event → step c w event ≡ Did v ms → v.cq s ≡ Some (after_puts put q) → length q.waiting + length put ≤ q.capacity
together-fit c event w v ms s q put limited sound room few did there = omega (
  arith,
  length-append q.waiting put,
  waiting-few c v s (after_puts put q)
      (subst (Afterwards (IsSoundWorld c)) did (event-sound c event w limited sound few)) (subst (Afterwards HasRoom) did (event-room c event w sound room few)) there,
)

-- and each of them in its turn
pub each-fits : (c : Configuration) (event : Event) (w v : World) (ms : List Mark) (s : Slot) (q : CompletionQueue) (first : List Completion) (next : Completion) (others : List Completion)
    → AreLimited c → IsSoundWorld c w → HasRoom w → CanBeMade event → step c w event ≡ Did v ms → v.cq s ≡ Some (after_puts (first ++ next ∷ others) q)
    → length (after_puts first q).waiting < (after_puts first q).capacity
each-fits c event w v ms s q first next others limited sound room few did there =
    omega (arith, length-append q.waiting first, length-append first (next ∷ others), together-fit c event w v ms s q (first ++ next ∷ others) limited sound room few did there)
