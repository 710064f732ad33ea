-- One more request is flushed.
use Rattle.std.proofs.Common.{◌≡◌, ℕ, suc, ◌≤◌, sym, ap, ◌∙◌, List, [], ◌∷◌, ◌++◌, None, Some, append_assoc}
use Rattle.ca_base.specs.declared.completion.WcStatus.TheVariants.{Flushed}
use Rattle.ca_keys.specs.declared.names.QueueId.{QueueId}
use Rattle.ca_base.specs.declared.request.RecvRequest.{RecvRequest}
use Rattle.ca_base.specs.declared.request.PostedSend.{PostedSend}
use Rattle.ca_base.specs.objects.WorkQueue.{WorkQueue, item_at, items_from}
use Rattle.ca_qpstate.specs.ca_model.declared.mark.Mark.{Mark}
use Rattle.ca_qpstate.specs.ca_model.machine.Completions.{failure_mark, flushed_receives, flushed_sends, receive_failure}
use Rattle.ca_qp_rows.proofs.QueueLemmas.{items_step}

pub send-flushed : (queue : QueueId) (q : WorkQueue PostedSend) (place next : ℕ) (x : PostedSend) (before pushed : List Mark) → next ≡ suc place
    → q.first ≤ place → item_at place q ≡ Some x → pushed ≡ before ++ failure_mark queue place x.request Flushed None ∷ []
    → before ++ flushed_sends queue place (items_from place q) ≡ pushed ++ flushed_sends queue next (items_from next q)
send-flushed queue q place next x before pushed one le there made =
    ap (λ xs. before ++ flushed_sends queue place xs) (items_step q place x le there)
    ∙ sym (append_assoc before (failure_mark queue place x.request Flushed None ∷ []) (flushed_sends queue (suc place) (items_from (suc place) q)))
    ∙ ap (λ ms. ms ++ flushed_sends queue (suc place) (items_from (suc place) q)) (sym made)
    ∙ ap (λ n. pushed ++ flushed_sends queue n (items_from n q)) (sym one)

pub receive-flushed : (queue : QueueId) (q : WorkQueue RecvRequest) (place next : ℕ) (x : RecvRequest) (before pushed : List Mark) → next ≡ suc place
    → q.first ≤ place → item_at place q ≡ Some x → pushed ≡ before ++ receive_failure queue place x Flushed None ∷ []
    → before ++ flushed_receives queue place (items_from place q) ≡ pushed ++ flushed_receives queue next (items_from next q)
receive-flushed queue q place next x before pushed one le there made =
    ap (λ xs. before ++ flushed_receives queue place xs) (items_step q place x le there)
    ∙ sym (append_assoc before (receive_failure queue place x Flushed None ∷ []) (flushed_receives queue (suc place) (items_from (suc place) q)))
    ∙ ap (λ ms. ms ++ flushed_receives queue (suc place) (items_from (suc place) q)) (sym made)
    ∙ ap (λ n. pushed ++ flushed_receives queue n (items_from n q)) (sym one)
