-- Completions, each whole: successes that are signalled, receives, and the order in which all that is posted is flushed.
-- For proofs only.
use Rattle.std.proofs.Common.{◌≡◌, ℕ, List, [], ◌∷◌, ◌++◌, replicate, true, false, Option, None, Some, refl}
use Rattle.ca_base.specs.declared.change.Change.TheVariants as changes
use Rattle.ca_base.specs.declared.change.State.TheVariants as states
use Rattle.ca_base.specs.declared.completion.Completion.{Completion}
use Rattle.ca_base.specs.declared.completion.WcOp.TheVariants as operations
use Rattle.ca_base.specs.declared.completion.WcStatus.TheVariants as statuses
use Rattle.ca_keys.specs.declared.key.Key.{Key}
use Rattle.ca_base.specs.declared.queue_numbers.Message.TheVariants as messages
use Rattle.ca_base.specs.objects.QueuePair.{QueuePair, Present}
use Rattle.ca_base.specs.objects.SharedReceives.{SharedReceives, after_receive_post, empty_receives}
use Rattle.ca_base.specs.objects.Window.{after_binding, after_window_allocation, vacant_window}
use Rattle.ca_base.specs.objects.WorkQueue.{with_item, after_take, empty_queue}
use Rattle.ca_wire.specs.declared.requests.SendKind.{SendKind}
use Rattle.ca_wire.specs.declared.requests.SendKind.TheVariants.{Plain, WithImmediate, WithInvalidate}
use Rattle.ca_wire.specs.Builders.{acknowledgement, send_packet, write_packet}
use Rattle.ca_wire.specs.Decoding.{packet_in, front_at, bth_at, number_at, reth_from, atomic_from, aeth_from, number_from, payload_at, payload_behind, body_in}
use Rattle.ca_wire.specs.Packet.{Fields, be_bytes, packet_bytes, spelling}
use Rattle.ca_wire.specs.Table.{row_of}
use Rattle.ca_model.specs.declared.event.Event.TheVariants as events
use Rattle.ca_model.specs.declared.mark.Mark.{Mark}
use Rattle.ca_model.specs.declared.mark.Mark.TheVariants as marks
use Rattle.ca_model.specs.declared.verb.Verb.{Verb}
use Rattle.ca_model.specs.declared.verb.Verb.TheVariants as verbs
use Rattle.ca_model.specs.machine.Plan.{Update, ◌:=◌, Outcome, NotReady, Did, put_all}
use Rattle.ca_model.specs.machine.Step.{step}
use Rattle.ca_model.specs.machine.World.{World, Queue_of, Srq_of, Window_of}
use Rattle.ca_model.proofs.Literals.{s, q, k, request, completion}
use Rattle.ca_model.proofs.Machine.Furnished.{pair, furnished, with_queue, in_state, ready, all_rights, send_of, receive_of, signalled, with_posted, with_begun, with_received}

-- the completions among marks, in order
abbrev completions_in : List Mark → List Completion
completions_in [] = []
completions_in (marks.Done queue c cause ∷ ms) = c ∷ completions_in ms
completions_in (m ∷ ms) = completions_in ms

abbrev completions_of : Outcome → List Completion
completions_of (NotReady reason) = []
completions_of (Did w ms) = completions_in ms

-- the completions of a verb in a world
abbrev completions : World → Verb → List Completion
completions w verb = completions_of (step pair w (events.Verb 0 verb))

-- a flushed SEND, and a flushed receive, at a place
abbrev flushed_send : ℕ → Completion
flushed_send at = completion (q 0 256) false at 7 operations.Send statuses.Flushed 0 None None

abbrev flushed_receive : ℕ → Completion
flushed_receive at = completion (q 0 256) true at 9 operations.Recv statuses.Flushed 0 None None

-- two SENDs are posted, of which the first was sent; the first receive is in use, and a second is posted
abbrev busy : QueuePair
busy = record (with_begun 1 1 (with_posted (signalled (send_of 8)) (with_posted (signalled (send_of 8)) ready))) {
  receives = Some (after_take (with_item (receive_of 8) (with_item (receive_of 600) (empty_queue 2))));
  responder = record ready.responder { message = Some (messages.Send 0 (receive_of 600) 256) };
}

-- the sends in order, the receive in use, the posted receives
flushed_by_error : completions (with_queue busy) (verbs.ModifyQp (s 0 0 0) changes.Error)
    ≡ flushed_send 0 ∷ flushed_send 1 ∷ flushed_receive 0 ∷ flushed_receive 1 ∷ []
flushed_by_error = refl

-- Reset completes nothing
not_flushed_by_reset : completions (with_queue busy) (verbs.ModifyQp (s 0 0 0) changes.Reset) ≡ []
not_flushed_by_reset = refl

-- what is posted in Error is flushed at once
posted_in_error : completions (with_queue (in_state states.Error)) (verbs.PostSend (s 0 0 0) (signalled (send_of 8))) ≡ flushed_send 0 ∷ []
posted_in_error = refl

received_in_error : completions (with_queue (in_state states.Error)) (verbs.PostRecv (s 0 0 0) (receive_of 8)) ≡ flushed_receive 0 ∷ []
received_in_error = refl

-- also where it is not signalled
flushed_though_not_signalled : completions (with_queue (in_state states.Error)) (verbs.PostSend (s 0 0 0) (request 7 false false false (send_of 8))) ≡ flushed_send 0 ∷ []
flushed_though_not_signalled = refl

-- a packet that arrives
abbrev arrives : List Update → QueuePair → Fields → List Completion
arrives changes p f =
    completions (put_all (changes ++ (Queue_of (q 0 256) := Present p) ∷ []) furnished) (verbs.Inject (q 0 256) (spelling f))

-- of two SENDs the first is not signalled
signalled_alone : arrives [] (with_begun 2 2 (with_posted (signalled (send_of 8)) (with_posted (request 6 false false false (send_of 8)) ready))) (acknowledgement 256 1 0)
    ≡ completion (q 0 256) false 1 7 operations.Send statuses.Success 0 None None ∷ []
unfolding row_of be_bytes packet_bytes number_at bth_at front_at reth_from atomic_from aeth_from number_from payload_at payload_behind body_in packet_in
signalled_alone = refl

-- a packet of a SEND by its index and the count of the message's packets
abbrev send : SendKind → ℕ → ℕ → ℕ → Fields
send kind index count payload = send_packet kind (record { index = index; count = count }) false 256 0 (replicate payload 1)

abbrev receiver : QueuePair
receiver = with_received (receive_of 600) ready

-- a success of the first receive
abbrev received : ℕ → Option ℕ → Option Key → Completion
received count imm invalidated = completion (q 0 256) true 0 9 operations.Recv statuses.Success count imm invalidated

send_alone : arrives [] receiver (send Plain 0 1 8) ≡ received 8 None None ∷ []
unfolding row_of be_bytes packet_bytes number_at bth_at front_at reth_from atomic_from aeth_from number_from payload_at payload_behind body_in packet_in
send_alone = refl

send_with_immediate : arrives [] receiver (send (WithImmediate 6) 0 1 8) ≡ received 8 (Some 6) None ∷ []
unfolding row_of be_bytes packet_bytes number_at bth_at front_at reth_from atomic_from aeth_from number_from payload_at payload_behind body_in packet_in
send_with_immediate = refl

-- a SEND of which 256 bytes came: the middle completes nothing, and the last tells of all bytes
in_the_middle : arrives [] busy (send Plain 1 3 256) ≡ []
unfolding row_of be_bytes packet_bytes number_at bth_at front_at reth_from atomic_from aeth_from number_from payload_at payload_behind body_in packet_in
in_the_middle = refl

at_the_end : arrives [] busy (send Plain 2 3 88) ≡ received 344 None None ∷ []
unfolding row_of be_bytes packet_bytes number_at bth_at front_at reth_from atomic_from aeth_from number_from payload_at payload_behind body_in packet_in
at_the_end = refl

at_the_end_with_immediate : arrives [] busy (send (WithImmediate 6) 2 3 88) ≡ received 344 (Some 6) None ∷ []
unfolding row_of be_bytes packet_bytes number_at bth_at front_at reth_from atomic_from aeth_from number_from payload_at payload_behind body_in packet_in
at_the_end_with_immediate = refl

-- the window 1 of type 2 is bound through this queue pair
abbrev bound : List Update
bound =
    (Window_of (s 0 0 1) := after_binding 5 (Some (q 0 256)) 0 0x100000000 8 all_rights (after_window_allocation 2 (vacant_window (s 0 0 1)))) ∷ []

at_the_end_with_invalidate : arrives bound busy (send (WithInvalidate (k 0x800105)) 2 3 88) ≡ received 344 None (Some (k 0x800105)) ∷ []
unfolding row_of be_bytes packet_bytes number_at bth_at front_at reth_from atomic_from aeth_from number_from payload_at payload_behind body_in packet_in
at_the_end_with_invalidate = refl

-- a WRITE of 600 bytes of which 88 are left: the last packet, with immediate data, completes the next receive
abbrev written : QueuePair
written = record receiver { responder = record receiver.responder { message = Some (messages.Write (k 1) 0x100000000 88 600) } }

write_with_immediate : arrives [] written (write_packet (record { index = 2; count = 3 }) (record { address = 0; key = k 1; length = 600 }) (Some 6) false 256 0 (replicate 88 1))
    ≡ completion (q 0 256) true 0 9 operations.RecvImm statuses.Success 600 (Some 6) None ∷ []
unfolding row_of be_bytes packet_bytes number_at bth_at front_at reth_from atomic_from aeth_from number_from payload_at payload_behind body_in packet_in
write_with_immediate = refl

-- a queue pair that takes its receives from the shared receive queue 0, in which two are posted
abbrev sharing : QueuePair
sharing = record ready { srq = Some 0; receives = None }

abbrev two_shared : List Update
two_shared = (Srq_of (s 0 0 0) := record { srq = Some (after_receive_post (receive_of 8) (after_receive_post (receive_of 8) (empty_receives 2))); users = 1 }) ∷ []

by_a_shared_receive : arrives two_shared sharing (send Plain 0 1 8) ≡ received 8 None None ∷ []
unfolding row_of be_bytes packet_bytes number_at bth_at front_at reth_from atomic_from aeth_from number_from payload_at payload_behind body_in packet_in
by_a_shared_receive = refl

-- after it the place 0 is taken, and still occupied
abbrev taken_after : Outcome → List ℕ
taken_after (NotReady reason) = []
taken_after (Did w ms) = by (w.srq (s 0 0 0)).srq
  where
    by : Option SharedReceives → List ℕ
    by None = []
    by (Some srq) = srq.taken

taken_shared : taken_after (step pair (put_all (two_shared ++ (Queue_of (q 0 256) := Present sharing) ∷ []) furnished) (events.Verb 0 (verbs.Inject (q 0 256) (spelling (send Plain 0 1 8))))) ≡ 0 ∷ []
unfolding row_of be_bytes packet_bytes number_at bth_at front_at reth_from atomic_from aeth_from number_from payload_at payload_behind body_in packet_in
taken_shared = refl
