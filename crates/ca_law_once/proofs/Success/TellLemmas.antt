-- Which marks tell of a success of a send, and of which. For proofs only.
use Rattle.std.proofs.Common.{◌≡◌, ℕ, suc, false, if◌then◌else◌, List, [], ◌∷◌, ◌++◌, Option, None, Some, is_some, refl, ap, sym, ◌∙◌, true≢false}
use Rattle.std.specs.List.{AllByRecursion}
use Rattle.std.specs.Option.{option_map_or}
use Rattle.ca_base.specs.Sight.{Invalidation}
use Rattle.ca_base.specs.declared.completion.Completion.{Completion}
use Rattle.ca_base.specs.declared.completion.WcStatus.{WcStatus}
use Rattle.ca_base.specs.declared.completion.WcStatus.TheVariants.{Success}
use Rattle.ca_base.specs.declared.queue_numbers.Message.{Message}
use Rattle.ca_base.specs.declared.queue_numbers.Message.TheVariants as messages
use Rattle.ca_base.specs.declared.refusals.OpRefusal.{OpRefusal}
use Rattle.ca_base.specs.declared.request.PostedSend.{PostedSend}
use Rattle.ca_base.specs.declared.request.RecvRequest.{RecvRequest}
use Rattle.ca_base.specs.objects.QueuePair.{QueuePair}
use Rattle.ca_base.specs.objects.WorkQueue.{WorkQueue, items_from}
use Rattle.ca_keys.specs.declared.access.Ask.{Ask}
use Rattle.ca_keys.specs.declared.names.QueueId.{QueueId}
use Rattle.ca_base.specs.Equal.{status_eq}
use Rattle.ca_model.specs.Past.{is_send_success}
use Rattle.ca_model.specs.declared.mark.Mark.{Mark}
use Rattle.ca_model.specs.declared.mark.Mark.TheVariants as marks
use Rattle.ca_model.specs.machine.Acknowledgements.{failure_effects, without_oldest}
use Rattle.ca_model.specs.machine.Completions.{failure_mark, flush_marks, flushed_message, flushed_receives, flushed_sends, send_completion}
use Rattle.ca_model.specs.machine.Expected.{revoked_marks}
use Rattle.ca_model.specs.machine.Responses.{local_writes}

-- the completion that a mark tells of, if it is a success of a send
abbrev pub success_of : Mark → Option Completion
success_of (marks.Done queue x cause) = if is_send_success x then Some x else None
success_of m = None

abbrev pub AreSilent : List Mark → Type 0
AreSilent ms = AllByRecursion (λ m. success_of m ≡ None) ms

-- each success of a send that marks tell of is of this queue pair, at such a place
abbrev pub AllTell : QueueId → (ℕ → Type 0) → List Mark → Type 0
AllTell name P ms = AllByRecursion (λ m. (x : Completion) → success_of m ≡ Some x → (x.queue ≡ name) × P x.place) ms

pub silent-append : (ms ns : List Mark) → AreSilent ms → AreSilent ns → AreSilent (ms ++ ns)
silent-append [] ns one other = other
silent-append (m ∷ ms) ns one other = (one.0, silent-append ms ns one.1 other)

pub tell-append : (name : QueueId) (P : ℕ → Type 0) (ms ns : List Mark) → AllTell name P ms → AllTell name P ns → AllTell name P (ms ++ ns)
tell-append name P [] ns one other = other
tell-append name P (m ∷ ms) ns one other = (one.0, tell-append name P ms ns one.1 other)

pub silent-tell : (name : QueueId) (P : ℕ → Type 0) (ms : List Mark) → AreSilent ms → AllTell name P ms
silent-tell name P [] silent = record {}
silent-tell name P (m ∷ ms) silent = (λ x is. absurd (true≢false (ap is_some (sym is ∙ silent.0))), silent-tell name P ms silent.1)

pub tell-weaker : (name : QueueId) (P Q : ℕ → Type 0) (ms : List Mark) → ((place : ℕ) → P place → Q place) → AllTell name P ms → AllTell name Q ms
tell-weaker name P Q [] follows tell = record {}
tell-weaker name P Q (m ∷ ms) follows tell = (λ x is. let own = tell.0 x is in (own.0, follows x.place own.1), tell-weaker name P Q ms follows tell.1)

-- ---- what is flushed, and failures

sends-silent : (queue : QueueId) (place : ℕ) (ps : List PostedSend) → AreSilent (flushed_sends queue place ps)
sends-silent queue place [] = record {}
sends-silent queue place (p ∷ ps) = (refl, sends-silent queue (suc place) ps)

receives-silent : (queue : QueueId) (place : ℕ) (rs : List RecvRequest) → AreSilent (flushed_receives queue place rs)
receives-silent queue place [] = record {}
receives-silent queue place (r ∷ rs) = (refl, receives-silent queue (suc place) rs)

pub flush-silent : (q : QueuePair) → AreSilent (flush_marks q)
flush-silent q = silent-append (sends ++ flushed_message q.queue q.responder.message) _
    (silent-append sends (flushed_message q.queue q.responder.message) (sends-silent q.queue q.requester.oldest (items_from q.requester.oldest q.sends)) (message q.responder.message)) (own q.receives)
  where
    sends : List Mark
    sends = flushed_sends q.queue q.requester.oldest (items_from q.requester.oldest q.sends)

    message : (m : Option Message) → AreSilent (flushed_message q.queue m)
    message None = record {}
    message (Some (messages.Write key address left count)) = record {}
    message (Some (messages.Send place receive bytes)) = (refl, record {})

    own : (o : Option (WorkQueue RecvRequest)) → AreSilent (option_map_or (λ r. flushed_receives q.queue r.next_taken (items_from r.next_taken r)) o [])
    own None = record {}
    own (Some r) = receives-silent q.queue r.next_taken (items_from r.next_taken r)

pub failure-silent : (status : WcStatus) (cause : Option OpRefusal) (q : QueuePair) → status_eq status Success ≡ false → AreSilent (failure_effects status cause q).marks
failure-silent status cause q fails = by (items_from q.requester.oldest q.sends)
  where
    told : List PostedSend → List Mark
    told [] = flush_marks q
    told (p ∷ ps) = failure_mark q.queue q.requester.oldest p.request status cause ∷ flush_marks (without_oldest q)

    by : (ps : List PostedSend) → AreSilent (told ps)
    by [] = flush-silent q
    by (p ∷ ps) = (ap (λ b. if b then Some (send_completion q.queue q.requester.oldest p.request status 0) else None) fails, flush-silent (without_oldest q))

pub writes-silent : (xs : List (Ask × List ℕ)) → AreSilent (local_writes xs)
writes-silent [] = record {}
writes-silent (x ∷ xs) = (refl, writes-silent xs)

pub revoked-silent : (q : QueuePair) (i : Option Invalidation) → AreSilent (revoked_marks q i)
revoked-silent q None = record {}
revoked-silent q (Some i) = (refl, record {})
