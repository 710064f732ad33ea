-- Verbs keep the agreement on paths. For proofs only.
use Rattle.std.proofs.Common.{◌≡◌, ℕ, ◌==◌, Bool, true, false, if◌then◌else◌, List, [], ◌∷◌, Option, None, refl, sym, ap, ◌∙◌}
use Rattle.std.specs.Option.{option_map}
use Rattle.ca_law_endings.specs.Agreement.{PathsAgree, peer_in}
use Rattle.ca_law_endings.specs.Runs.{Leads}
use Rattle.ca_law_endings.proofs.InnerLemmas.{own-inner, AreInner, flush-inner}
use Rattle.ca_law_endings.proofs.LeadsLemmas.{leads-unless}
use Rattle.ca_law_endings.proofs.PathLemmas.{AreKept, SamePaths, agree-kept, inner-past, kept-puts, kept-writes, same-past, same-world}
use Rattle.ca_law_endings.proofs.PathTurnLemmas.{Agrees}
use Rattle.ca_base.specs.Configuration.{Configuration}
use Rattle.ca_base.specs.declared.change.State.TheVariants as states
use Rattle.ca_base.specs.declared.request.RecvRequest.{RecvRequest}
use Rattle.ca_base.specs.declared.request.SendOp.{SendOp}
use Rattle.ca_base.specs.declared.request.SendOp.TheVariants as ops
use Rattle.ca_base.specs.declared.request.SendRequest.{SendRequest}
use Rattle.ca_base.specs.objects.CompletionQueue.{after_puts}
use Rattle.ca_base.specs.objects.QueuePair.{QueuePair, QueueSlot, NoQueue, Present, incarnation_of, recv_cq_of, send_cq_of, with_all_flushed}
use Rattle.ca_base.specs.objects.StateTable.{state_eq}
use Rattle.ca_base.specs.objects.Window.{Window, after_draw, byte_drawn}
use Rattle.ca_base.specs.objects.WorkQueue.{with_item}
use Rattle.ca_keys.specs.Numbers.{key_at, queue_of, window_index}
use Rattle.ca_keys.specs.declared.names.Slot.{Slot}
use Rattle.ca_model.specs.Past.{Past, after_mark, after_marks, at_begin}
use Rattle.ca_model.specs.declared.answer.Answer.TheVariants as answers
use Rattle.ca_model.specs.declared.answer.Refusal.TheVariants.{NoSuch}
use Rattle.ca_model.specs.declared.event.Event.TheVariants as events
use Rattle.ca_model.specs.declared.mark.Mark.{Mark}
use Rattle.ca_model.specs.declared.verb.Verb.{Verb}
use Rattle.ca_model.specs.declared.verb.Verb.TheVariants as verbs
use Rattle.ca_model.specs.machine.Around.{completions_to}
use Rattle.ca_model.specs.machine.Completions.{flush_marks}
use Rattle.ca_model.specs.machine.Plan.{Plan, Look, Update, ◌:=◌, Write, put_all, write_all}
use Rattle.ca_model.specs.machine.PostingVerbs.{Posted_send, after_flush, marks_of_flush, post_recv_plan, post_recv_refusals, post_send_plan, post_send_refusals, with_send}
use Rattle.ca_model.specs.machine.QueuePairVerbs.{With_present, beside}
use Rattle.ca_model.specs.machine.Sound.{IsQueueOf, IsSoundWorld}
use Rattle.ca_model.specs.machine.VerbAnswers.{Answer_plan, Call, Refuse_plan, Unless_plan, answer_mark}
use Rattle.ca_model.specs.machine.World.{Cq_of, Queue_of, Window_of, World}
use Rattle.ca_law_world.proofs.Sound.WorldLemmas.{is-there}

-- the call of a verb, and what it leaves of the agreement
abbrev pub call_of : ℕ → Verb → Call
call_of by verb = record { by = by; verb = verb }

abbrev pub AgreesBy : Past → ℕ → Verb → World → List Mark → Type 0
AgreesBy past by verb = Agrees past (events.Verb by verb)

-- an answer that tells of no path, before marks that tell of none, with changes that keep paths
pub agree-answer : (past r : Past) (w : World) (us : List Update) (ws : List Write) (ms : List Mark) → PathsAgree past w → SamePaths past r → AreInner ms → AreKept w us
    → PathsAgree (after_marks ms r) (write_all ws (put_all us w))
agree-answer past r w us ws ms agree same inner kept =
    agree-kept past (after_marks ms r) w (write_all ws (put_all us w)) (inner-past ms inner past r same) (kept-writes w ws (put_all us w) (kept-puts w w us kept (same-world w))) agree

-- changes that keep paths, behind others
pub agree-more : (p : Past) (v : World) (us : List Update) → PathsAgree p v → AreKept v us → PathsAgree p (put_all us v)
agree-more p v us agree kept = agree-kept p p v (put_all us v) (same-past p) (kept-puts v v us kept (same-world v)) agree

flush-marks-inner : (q : QueuePair) → AreInner (marks_of_flush q)
flush-marks-inner q = by (state_eq q.state states.Error)
  where
    by : (b : Bool) → AreInner (if b then flush_marks q else [])
    by true = own-inner (flush_marks q) (flush-inner q)
    by false = record {}

-- a queue pair that is flushed at once, if it is in Error
flushed-same : (q : QueuePair) → ((after_flush q).incarnation ≡ q.incarnation) × ((after_flush q).peer ≡ q.peer)
flushed-same q = by (state_eq q.state states.Error)
  where
    by : (b : Bool) → ((if b then with_all_flushed q else q).incarnation ≡ q.incarnation) × ((if b then with_all_flushed q else q).peer ≡ q.peer)
    by true = (refl, refl)
    by false = (refl, refl)

-- a queue pair stands where another stood with this incarnation and this peer
pub queue-kept : (w : World) (q p : QueuePair) → w.queue q.queue ≡ Present q → p.incarnation ≡ q.incarnation → p.peer ≡ q.peer
    → (incarnation_of (Present p) ≡ incarnation_of (w.queue q.queue)) × (peer_in (Present p) ≡ peer_in (w.queue q.queue))
queue-kept w q p is incarnation peer = (incarnation ∙ sym (ap incarnation_of is), peer ∙ sym (ap peer_in is))

-- a queue pair that a verb names, which stands under its own name
pub agrees-present : (c : Configuration) (w : World) (P : World → List Mark → Type 0) (call : Call) (s : Slot) (k : QueuePair → Plan) → IsSoundWorld c w → Leads w P (Refuse_plan call NoSuch)
    → ((q : QueuePair) → w.queue q.queue ≡ Present q → q.queue ≡ queue_of s → Leads w P (k q)) → Leads w P (With_present call s k)
agrees-present c w P call s k sound refused more = by (w.queue (queue_of s)) refl (sound.things (Queue_of (queue_of s)))
  where
    there : QueueSlot → Plan
    there (NoQueue incarnation timers) = Refuse_plan call NoSuch
    there (Present q) = k q

    by : (slot : QueueSlot) → w.queue (queue_of s) ≡ slot → IsQueueOf (queue_of s) slot → Leads w P (there slot)
    by (NoQueue incarnation timers) is one = refused
    by (Present q) is one = more q (is-there w (queue_of s) q is one).present one.0

posted-agrees : (c : Configuration) (past : Past) (w : World) (by : ℕ) (s : Slot) (request : SendRequest) (q : QueuePair) (drawn : Option ℕ) (window : Slot) (more : List Update) → PathsAgree past w
    → w.queue q.queue ≡ Present q → AreKept w more → Leads w (AgreesBy past by (verbs.PostSend s request)) (Posted_send (call_of by (verbs.PostSend s request)) q request drawn window more)
posted-agrees c past w by s request q drawn window more agree is kept = leads-unless w (AgreesBy past by (verbs.PostSend s request)) (post_send_refusals request q) (Refuse_plan call)
    (Answer_plan call (answers.Posted (option_map (key_at (window_index window)) drawn)) updates (marks_of_flush posted)) (λ r. agree)
    (agree-answer past (after_mark (answer_mark call (answers.Posted (option_map (key_at (window_index window)) drawn))) (at_begin (events.Verb by (verbs.PostSend s request)) past)) w updates []
    (marks_of_flush posted) agree (record { incarnation = refl; naming = refl; envelopes = refl }) (flush-marks-inner posted)
    (queue-kept w q (after_flush posted) is (flushed-same posted).0 (flushed-same posted).1, (record {}, kept)))
  where
    call : Call
    call = call_of by (verbs.PostSend s request)

    posted : QueuePair
    posted = with_send request drawn q

    updates : List Update
    updates =
        (Queue_of q.queue := Present (after_flush posted))
        ∷ (Cq_of (send_cq_of q) := option_map (after_puts (completions_to q q.send_cq (marks_of_flush posted))) (w.cq (send_cq_of q)))
        ∷ more

pub agrees-post_send : (c : Configuration) (past : Past) (w : World) (by : ℕ) (s : Slot) (request : SendRequest) → IsSoundWorld c w → PathsAgree past w
    → Leads w (AgreesBy past by (verbs.PostSend s request)) (post_send_plan (call_of by (verbs.PostSend s request)) s request)
agrees-post_send c past w by s request sound agree = agrees-present c w P call s (λ q. posting q request.op) sound agree (λ q is name. on q is request.op)
  where
    P : World → List Mark → Type 0
    P = AgreesBy past by (verbs.PostSend s request)

    call : Call
    call = call_of by (verbs.PostSend s request)

    draws : QueuePair → Slot → Window → Plan
    draws q window x = Unless_plan call ((x.kind == 0, NoSuch) ∷ []) (Posted_send call q request (byte_drawn x) window ((Window_of window := after_draw x) ∷ []))

    posting : QueuePair → SendOp → Plan
    posting q (ops.Bind1 window region address count rights) = Look (Window_of (beside s window)) (draws q (beside s window))
    posting q op = Posted_send call q request None s []

    plain : (q : QueuePair) → w.queue q.queue ≡ Present q → Leads w P (Posted_send call q request None s [])
    plain q is = posted-agrees c past w by s request q None s [] agree is (record {})

    on : (q : QueuePair) → w.queue q.queue ≡ Present q → (op : SendOp) → Leads w P (posting q op)
    on q is (ops.Bind1 window region address count rights) = leads-unless w P ((x.kind == 0, NoSuch) ∷ []) (Refuse_plan call)
        (Posted_send call q request (byte_drawn x) (beside s window) ((Window_of (beside s window) := after_draw x) ∷ [])) (λ r. agree)
        (posted-agrees c past w by s request q (byte_drawn x) (beside s window) ((Window_of (beside s window) := after_draw x) ∷ []) agree is (record {}, record {}))
      where
        x : Window
        x = w.window (beside s window)
    on q is (ops.Bind2 window region low address count rights) = plain q is
    on q is (ops.FastReg region low buffer address count rights pages) = plain q is
    on q is (ops.LocalInv key) = plain q is
    on q is (ops.Send list) = plain q is
    on q is (ops.SendImm imm list) = plain q is
    on q is (ops.SendInv key list) = plain q is
    on q is (ops.Write address key list) = plain q is
    on q is (ops.WriteImm address key imm list) = plain q is
    on q is (ops.Read address key list) = plain q is
    on q is (ops.CmpSwap address key compare swap list) = plain q is
    on q is (ops.FetchAdd address key add list) = plain q is

pub agrees-post_recv : (c : Configuration) (past : Past) (w : World) (by : ℕ) (s : Slot) (request : RecvRequest) → IsSoundWorld c w → PathsAgree past w
    → Leads w (AgreesBy past by (verbs.PostRecv s request)) (post_recv_plan (call_of by (verbs.PostRecv s request)) s request)
agrees-post_recv c past w by s request sound agree = agrees-present c w P call s _ sound agree (λ q is name. on q is)
  where
    P : World → List Mark → Type 0
    P = AgreesBy past by (verbs.PostRecv s request)

    call : Call
    call = call_of by (verbs.PostRecv s request)

    after : QueuePair → QueuePair
    after q = record q { receives = option_map (with_item request) q.receives }

    updates : QueuePair → List Update
    updates q =
        (Queue_of q.queue := Present (after_flush (after q)))
        ∷ (Cq_of (recv_cq_of q) := option_map (after_puts (completions_to q q.recv_cq (marks_of_flush (after q)))) (w.cq (recv_cq_of q)))
        ∷ []

    on : (q : QueuePair) → w.queue q.queue ≡ Present q → Leads w P (Unless_plan call (post_recv_refusals request q) (Answer_plan call (answers.Posted None) (updates q) (marks_of_flush (after q))))
    on q is = leads-unless w P (post_recv_refusals request q) (Refuse_plan call) (Answer_plan call (answers.Posted None) (updates q) (marks_of_flush (after q))) (λ r. agree)
        (agree-answer past (after_mark (answer_mark call (answers.Posted None)) (at_begin (events.Verb by (verbs.PostRecv s request)) past)) w (updates q) [] (marks_of_flush (after q)) agree
        (record { incarnation = refl; naming = refl; envelopes = refl }) (flush-marks-inner (after q))
        (queue-kept w q (after_flush (after q)) is (flushed-same (after q)).0 (flushed-same (after q)).1, (record {}, record {})))
