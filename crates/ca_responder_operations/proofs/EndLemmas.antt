-- A SEND packet that ends a key: what is taken where the key is gone, and where it is not.
use Rattle.std.proofs.Common.{◌≡◌, ◌≤◌, if◌then◌else◌, Bool, true, false, List, [], ◌∷◌, ◌++◌, append_assoc, ℕ, refl, sym, ap, ◌∙◌, Option, None, Some}
use Rattle.ca_keys.specs.declared.access.Ask.{Ask}
use Rattle.ca_keys.specs.declared.key.Key.{Key}
use Rattle.ca_base.specs.declared.completion.WcStatus.TheVariants.{MemoryManagement}
use Rattle.ca_base.specs.declared.queue_numbers.Queued.{Queued}
use Rattle.ca_base.specs.declared.queue_numbers.Queued.TheVariants.{Nak}
use Rattle.ca_base.specs.declared.refusals.OpRefusal.{OpRefusal}
use Rattle.ca_base.specs.Sight.{Invalidation, Sight, first_denied}
use Rattle.ca_base.specs.objects.Answers.{with_ack_at_end}
use Rattle.ca_base.specs.declared.request.RecvRequest.{RecvRequest}
use Rattle.ca_base.specs.objects.QueuePair.{QueuePair, in_error}
use Rattle.ca_base.specs.objects.WorkQueue.{WorkQueue, after_take, with_all_taken}
use Rattle.std.specs.Option.{option_map}
use Rattle.ca_wire.specs.declared.shape.Position.{Position}
use Rattle.ca_wire.specs.Packet.{Fields}
use Rattle.ca_wire.specs.declared.syndrome.NakCode.TheVariants.{RemoteOperationalError}
use Rattle.ca_wire.specs.Syndrome.{nak_code}
use Rattle.ca_model.specs.Marks.{MarkList}
use Rattle.ca_model.specs.declared.mark.Mark.{Mark}
use Rattle.ca_model.specs.declared.mark.Mark.TheVariants as marks
use Rattle.ca_model.specs.declared.marks.TheConstants.{SPARE_MARKS}
use Rattle.ca_model.specs.declared.receiving.Receiving.{Receiving}
use Rattle.ca_model.specs.machine.Arrivals.{has_shared, with_flag, with_message}
use Rattle.ca_model.specs.machine.Completions.{flush_marks, receive_failure}
use Rattle.ca_model.specs.machine.Expected.{after_send_packet, behind_marks, receive_asks, send_row, with_window_gone}
use Rattle.ca_model.specs.machine.Responses.{local_writes, writes_by}
use Rattle.ca_model.specs.machine.Row.{Effects}
use Rattle.std.specs.Prelude.{Result, Ok, Err, IfOk}
use Rattle.ca_keys.specs.declared.memory.Memory.{Memory}
use Rattle.ca_responder_answers.specs.ca_qp_rows.Made.{HasMade, IsMade, written_all}
use Rattle.ca_responder_answers.specs.Numbers.{with_ack_if_asked, without_ack_request, without_taken_receive}
use Rattle.ca_responder_operations.specs.Sends.{key_end}
use Rattle.ca_responder_operations.specs.Taking.{HasTaken, IsTaken, Outcome, does, is_taken, outcome_in}
use Rattle.ca_responder_operations.specs.declared.request.SharedReceive.{SharedReceive}
use Rattle.ca_responder_operations.proofs.OutcomeLemmas.{taken-as}
use Rattle.ca_responder_operations.proofs.SendLemmas.{acknowledged-end, ended, failed, is_too_long, placed, refused, refused_end, sent_and_ended}

-- the packet may be placed, and ends this key
pub record Ends (s : Sight) (q : QueuePair) (p : Fields) (r : Receiving) (ws : List (Ask × List ℕ)) (key : Key) : Type 0 where
  pub fits : is_too_long p r ≡ false
  pub none : first_denied s (receive_asks q p r) ≡ None
  pub cut : ws ≡ writes_by (receive_asks q p r) p.payload
  pub key_is : p.ieth ≡ Some key.0

-- the marks of a packet behind those that there were
behind : (before wrote pushed after writes here more : List Mark) → wrote ≡ before ++ writes → pushed ≡ wrote ++ here → after ≡ pushed ++ more
    → after ≡ before ++ (writes ++ (here ++ more))
behind before wrote pushed after writes here more e f g =
    g ∙ ap (λ (ms : List Mark). ms ++ more) (f ∙ ap (λ (ms : List Mark). ms ++ here) e)
    ∙ append_assoc (before ++ writes) here more ∙ append_assoc before writes (here ++ more)

-- the key is gone: the answer that stood in gave way to an acknowledgement, if one is asked for
pub ended-taken : {S : Type 0} (written : S → Ask → List ℕ → S) (revoked : S → Invalidation → S) (sight : S → Sight) (q gone new : QueuePair) (stood given : List Queued)
    (p : Fields) (position : Position) (r : Receiving) (ws : List (Ask × List ℕ)) (key : Key) (shared : SharedReceive) (before wrote pushed after : MarkList) (reach reach1 reach2 : S)
    → Ends (sight reach) q p r ws key
    → is_taken shared ≡ (if r.taken then has_shared q else false)
    → gone ≡ with_window_gone (Some (key_end q key)) (record q { responder = record q.responder { answers = stood } })
    → given ≡ (if p.ack then with_ack_at_end q.responder.expected q.responder.answers else q.responder.answers)
    → wrote.marks ≡ before.marks ++ local_writes ws
    → pushed.marks ≡ wrote.marks ++ marks.Revoked gone.queue.adapter key ∷ []
    → HasMade (after_send_packet (without_taken_receive r.taken (with_flag false (record gone { responder = record gone.responder { answers = given } })))
    (without_ack_request p) position r) new pushed after
    → (sight reach).refusal (key_end q key) ≡ None
    → reach1 ≡ written_all written reach ws → reach2 ≡ revoked reach1 (key_end q key)
    → HasTaken written revoked shared (outcome_in (sight reach) (send_row (with_flag false q) p position r)).ending
    (outcome_in (sight reach) (send_row (with_flag false q) p position r)).ended new before after reach reach2
ended-taken {S} written revoked sight q gone new stood given p position r ws key shared before wrote pushed after reach reach1 reach2 ends taken is_gone is_given writes push made none wrote_is ended_is =
    let i : Invalidation = key_end q key in
    let F : QueuePair → Effects = λ x. after_send_packet (without_taken_receive r.taken (with_flag false x)) (without_ack_request p) position r in
    let A : Effects = after_send_packet (with_window_gone (Some i) (without_taken_receive r.taken (with_flag false q))) p position r in
    let left : record gone { responder = record gone.responder { answers = given } } ≡ with_window_gone (Some i) (with_ack_if_asked p.ack q) =
    ap (λ (x : QueuePair). record x { responder = record x.responder { answers = given } }) is_gone
    ∙ ap (λ (l : List Queued). with_window_gone (Some i) (record q { responder = record q.responder { answers = l } })) is_given in
    let same : F (record gone { responder = record gone.responder { answers = given } }) ≡ A = ap F left ∙ acknowledged-end r.taken q p position r i in
    taken-as written revoked (outcome_in (sight reach) (send_row (with_flag false q) p position r)) (placed q r ws (sent_and_ended q p position r i)) (Some i) new before after reach reach2 shared
    (ended (sight reach) q p position r ws key.0 r.taken ends.fits refl ends.none ends.cut ends.key_is none)
    taken
    (made.queue ∙ ap (λ (x : Effects). x.queue) same)
    (behind before.marks wrote.marks pushed.marks after.marks (local_writes ws) (marks.Revoked q.queue.adapter key ∷ []) A.marks writes
    (push ∙ ap (λ (x : QueuePair). wrote.marks ++ marks.Revoked x.queue.adapter key ∷ []) is_gone)
    (made.marks ∙ ap (λ (x : Effects). pushed.marks ++ x.marks) same))
    made.room
    (ended_is ∙ ap (λ (x : S). revoked x i) wrote_is)

-- all receives are taken, also where one was taken before
all-taken : (o : Option (WorkQueue RecvRequest)) → option_map with_all_taken (option_map after_take o) ≡ option_map with_all_taken o
all-taken None = refl
all-taken (Some r) = refl

-- the queue pair is in Error, with a NAK at the end of its answers
refused-queue : (q : QueuePair) (r : Receiving) (cause : OpRefusal) (l : List Queued) (t : Bool) → r.taken ≡ t
    → l ≡ q.responder.answers ++ Nak q.responder.expected (nak_code RemoteOperationalError) ∷ []
    → in_error (record q { responder = record q.responder { answers = l; nak_sent = false } }) ≡ (refused_end q r cause).queue
refused-queue q r cause l true is e =
    ap (λ (x : List Queued). in_error (record q { responder = record q.responder { answers = x; nak_sent = false } })) e
    ∙ ap (λ (o : Option (WorkQueue RecvRequest)).
    record (in_error (record q { responder = record q.responder { answers = q.responder.answers ++ Nak q.responder.expected (nak_code RemoteOperationalError) ∷ []; nak_sent = false } })) { receives = o })
    (sym (all-taken q.receives)) ∙ rw is refl
refused-queue q r cause l false is e =
    ap (λ (x : List Queued). in_error (record q { responder = record q.responder { answers = x; nak_sent = false } })) e ∙ rw is refl

refused-marks : (q : QueuePair) (r : Receiving) (cause : OpRefusal) (t : Bool) → r.taken ≡ t
    → (refused_end q r cause).marks
    ≡ receive_failure q.queue r.receive.place r.receive.receive MemoryManagement (Some cause) ∷ flush_marks (with_message None (without_taken_receive r.taken q))
refused-marks q r cause true is = rw is refl
refused-marks q r cause false is = rw is refl

-- the key is not gone: the answer that stood in gave way to a NAK, the receive failed, and all that is posted is flushed
pub refused-taken : {S : Type 0} (written : S → Ask → List ℕ → S) (revoked : S → Invalidation → S) (sight : S → Sight) (q kept new : QueuePair) (stood given : List Queued)
    (p : Fields) (position : Position) (r : Receiving) (ws : List (Ask × List ℕ)) (key : Key) (cause : OpRefusal) (shared : SharedReceive) (before wrote pushed after : MarkList)
    (flushed : List Mark) (reach reach1 reach2 : S)
    → Ends (sight reach) q p r ws key
    → is_taken shared ≡ (if r.taken then has_shared q else false)
    → kept ≡ record q { responder = record q.responder { answers = stood } }
    → given ≡ q.responder.answers ++ Nak q.responder.expected (nak_code RemoteOperationalError) ∷ []
    → new ≡ in_error (record kept { responder = record kept.responder { answers = given; nak_sent = false } })
    → wrote.marks ≡ before.marks ++ local_writes ws
    → pushed.marks ≡ wrote.marks ++ receive_failure kept.queue r.receive.place r.receive.receive MemoryManagement (Some cause) ∷ []
    → flushed ≡ flush_marks (with_message None (without_taken_receive r.taken q))
    → after.marks ≡ pushed.marks ++ flushed
    → SPARE_MARKS ≤ after.room
    → (sight reach).refusal (key_end q key) ≡ Some cause
    → reach1 ≡ written_all written reach ws → reach2 ≡ reach1
    → HasTaken written revoked shared (outcome_in (sight reach) (send_row (with_flag false q) p position r)).ending
    (outcome_in (sight reach) (send_row (with_flag false q) p position r)).ended new before after reach reach2
refused-taken {S} written revoked sight q kept new stood given p position r ws key cause shared before wrote pushed after flushed reach reach1 reach2
    ends taken is_kept is_given moved writes push flush append room why wrote_is same =
    let failure : Mark = receive_failure q.queue r.receive.place r.receive.receive MemoryManagement (Some cause) in
    let behind_it : List Mark = flush_marks (with_message None (without_taken_receive r.taken q)) in
    taken-as written revoked (outcome_in (sight reach) (send_row (with_flag false q) p position r)) (placed q r ws (refused_end q r cause)) None new before after reach reach2 shared
    (refused (sight reach) q p position r ws key.0 cause r.taken ends.fits refl ends.none ends.cut ends.key_is why)
    taken
    (moved ∙ ap (λ (x : QueuePair). in_error (record x { responder = record x.responder { answers = given; nak_sent = false } })) is_kept
    ∙ refused-queue q r cause given r.taken refl is_given)
    (behind before.marks wrote.marks pushed.marks after.marks (local_writes ws) (failure ∷ []) behind_it writes
    (push ∙ ap (λ (x : QueuePair). wrote.marks ++ receive_failure x.queue r.receive.place r.receive.receive MemoryManagement (Some cause) ∷ []) is_kept)
    (append ∙ ap (λ (ms : List Mark). pushed.marks ++ ms) flush)
    ∙ ap (λ (ms : List Mark). before.marks ++ (local_writes ws ++ ms)) (sym (refused-marks q r cause r.taken refl)))
    room
    (same ∙ wrote_is)

-- the receive failed, or nothing changed
pub failed-taken : {S : Type 0} (written : S → Ask → List ℕ → S) (revoked : S → Invalidation → S) (o : Outcome) (q new : QueuePair) (r : Receiving) (ms : List Mark) (e : Effects)
    (result : Result SharedReceive Memory) (before after : MarkList) (reach : S)
    → o ≡ does (failed q r ms e) None → e.writes ≡ []
    → IsMade result (behind_marks ms e) q new before after
    → IfOk result (λ shared. is_taken shared ≡ (if r.taken then has_shared q else false))
    → IsTaken written revoked result o q new before after reach reach
failed-taken {S} written revoked o q new r ms e (Ok shared) before after reach is none made taken =
    taken-as written revoked o (failed q r ms e) None new before after reach reach shared is taken made.queue made.marks made.room
    (sym (ap (λ (ws : List (Ask × List ℕ)). written_all written reach ws) none))
failed-taken {S} written revoked o q new r ms e (Err memory) before after reach is none made taken = (made, refl)
