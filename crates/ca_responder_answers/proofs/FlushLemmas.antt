-- The completions of a flush, without the message in progress.
use Rattle.std.proofs.Common.{◌≡◌, ℕ, suc, ◌+◌, arith, refl, List, [], ◌++◌, None, Some}
use Rattle.ca_keys.specs.declared.names.QueueId.{QueueId}
use Rattle.ca_base.specs.declared.request.RecvRequest.{RecvRequest}
use Rattle.ca_base.specs.objects.QueuePair.{QueuePair}
use Rattle.ca_base.specs.objects.WorkQueue.{WorkQueue, items_from}
use Rattle.ca_model.specs.declared.mark.Mark.{Mark}
use Rattle.ca_model.specs.machine.Completions.{flush_marks, flushed_receives, flushed_sends}
use Rattle.std.proofs.lemmas.List.{append-nil}
use Rattle.ca_responder_answers.specs.Flush.{first_behind, left_to_flush}
use Rattle.ca_responder_answers.specs.declared.flush.FlushedReceives.{FlushedReceives}
use Rattle.ca_responder_answers.specs.declared.flush.FlushedReceives.TheVariants.{All, Waiting, BehindNext}

behind-message : (sends : List Mark) (queue : QueueId) (own : WorkQueue RecvRequest) (n m : ℕ) → n ≡ m
    → sends ++ flushed_receives queue n (items_from n own) ≡ sends ++ [] ++ flushed_receives queue m (items_from m own)
behind-message sends queue own n m e = rw (e, append-nil) refl

-- the sends and the receives that wait, without the message in progress
pub flushed-own : (receives : FlushedReceives) (q : QueuePair) (own : WorkQueue RecvRequest) → (receives ≡ All → ⊥) → q.receives ≡ Some own
    → flushed_sends q.queue q.requester.oldest (items_from q.requester.oldest q.sends)
    ++ flushed_receives q.queue (own.next_taken + first_behind receives) (items_from (own.next_taken + first_behind receives) own)
    ≡ flush_marks (left_to_flush receives q)
flushed-own All q own other e = absurd (other refl)
flushed-own Waiting q own other e =
    rw e (behind-message (flushed_sends q.queue q.requester.oldest (items_from q.requester.oldest q.sends)) q.queue own (own.next_taken + 0) own.next_taken (omega arith))
flushed-own BehindNext q own other e =
    rw e (behind-message (flushed_sends q.queue q.requester.oldest (items_from q.requester.oldest q.sends)) q.queue own (own.next_taken + 1) (suc own.next_taken) (omega arith))

-- the same where there are no receives
pub flushed-none : (receives : FlushedReceives) (q : QueuePair) → (receives ≡ All → ⊥) → q.receives ≡ None
    → flushed_sends q.queue q.requester.oldest (items_from q.requester.oldest q.sends) ≡ flush_marks (left_to_flush receives q)
flushed-none All q other e = absurd (other refl)
flushed-none Waiting q other e = rw (e, append-nil, append-nil) refl
flushed-none BehindNext q other e = rw (e, append-nil, append-nil) refl
