-- One more request is posted where all is flushed. For proofs only.
use Rattle.std.proofs.Common.{◌≡◌, ℕ, suc, ◌+◌, ◌-◌, ◌≤◌, true, arith, refl, sym, ap, ◌∙◌, List, [], ◌∷◌, ◌++◌, append_assoc, length, Option, None, Some}
use Rattle.std.specs.Option.{option_map_or}
use Rattle.std.proofs.lemmas.List.{drop-append-le, length-drop}
use Rattle.ca_base.specs.declared.completion.WcStatus.TheVariants.{Flushed}
use Rattle.ca_base.specs.declared.request.PostedSend.{PostedSend}
use Rattle.ca_base.specs.declared.request.RecvRequest.{RecvRequest}
use Rattle.ca_base.specs.declared.request.SendRequest.{SendRequest}
use Rattle.ca_base.specs.declared.change.State.TheVariants as states
use Rattle.ca_base.specs.objects.StateTable.{state_eq}
use Rattle.ca_keys.specs.declared.names.QueueId.{QueueId}
use Rattle.ca_base.specs.objects.QueuePair.{QueuePair}
use Rattle.ca_base.specs.objects.WorkQueue.{WorkQueue, items_from, next_place, with_item}
use Rattle.ca_model.specs.declared.mark.Mark.{Mark}
use Rattle.ca_model.specs.machine.Completions.{failure_mark, flush_marks, flushed_message, flushed_receives, flushed_sends, receive_failure}
use Rattle.ca_model.specs.machine.PostingVerbs.{marks_of_flush, with_send}
use Rattle.ca_qp_rows.proofs.QueueLemmas.{items_past}
use Rattle.ca_qp_rows.specs.Flush.{with_oldest}
use Rattle.ca_adapter_posts.specs.Posting.{with_receive}

-- one more item stands behind those from a place on
items-more : {T : Type 0} (q : WorkQueue T) (place : ℕ) (x : T) → q.first ≤ place → place ≤ next_place q → items_from place (with_item x q) ≡ items_from place q ++ x ∷ []
items-more q place x low high = drop-append-le (place - q.first) q.items (x ∷ []) (omega (arith, low, high))

items-end : {T : Type 0} (q : WorkQueue T) (place : ℕ) → q.first ≤ place → place ≤ next_place q → place + length (items_from place q) ≡ next_place q
items-end q place low high = let e = length-drop (place - q.first) q.items in omega (arith, low, high, e)

receives-more : (queue : QueueId) (place : ℕ) (rs : List RecvRequest) (x : RecvRequest)
    → flushed_receives queue place (rs ++ x ∷ []) ≡ flushed_receives queue place rs ++ receive_failure queue (place + length rs) x Flushed None ∷ []
receives-more queue place [] x = ap (λ n. receive_failure queue n x Flushed None ∷ []) (omega arith)
receives-more queue place (r ∷ rs) x =
    ap (λ ms. receive_failure queue place r Flushed None ∷ ms)
    (receives-more queue (suc place) rs x ∙ ap (λ n. flushed_receives queue (suc place) rs ++ receive_failure queue n x Flushed None ∷ []) (omega arith))

-- all that is flushed, the receive that is posted last
pub receive_flushed : (request : RecvRequest) (q : QueuePair) (own : WorkQueue RecvRequest) (flushed made : List Mark) → state_eq q.state states.Error ≡ true
    → q.receives ≡ Some own → own.first ≤ own.next_taken → own.next_taken ≤ next_place own
    → flushed ≡ flush_marks q
    → made ≡ flushed ++ receive_failure q.queue (next_place own) request Flushed None ∷ []
    → made ≡ marks_of_flush (with_receive request q)
receive_flushed request q own flushed made error is low high a b =
    b ∙ ap (λ ms. ms ++ last) a ∙ rw (error, is) (append_assoc (sends ++ message) receives last ∙ ap (λ ms. (sends ++ message) ++ ms) same)
  where
    sends : List Mark
    sends = flushed_sends q.queue q.requester.oldest (items_from q.requester.oldest q.sends)

    message : List Mark
    message = flushed_message q.queue q.responder.message

    receives : List Mark
    receives = flushed_receives q.queue own.next_taken (items_from own.next_taken own)

    last : List Mark
    last = receive_failure q.queue (next_place own) request Flushed None ∷ []

    same : receives ++ last ≡ flushed_receives q.queue own.next_taken (items_from own.next_taken (with_item request own))
    same = sym (ap (flushed_receives q.queue own.next_taken) (items-more own own.next_taken request low high)
        ∙ receives-more q.queue own.next_taken (items_from own.next_taken own) request
        ∙ ap (λ n. receives ++ receive_failure q.queue n request Flushed None ∷ []) (items-end own own.next_taken low high))

sends-more : (queue : QueueId) (place : ℕ) (ps : List PostedSend) (x : PostedSend)
    → flushed_sends queue place (ps ++ x ∷ []) ≡ flushed_sends queue place ps ++ failure_mark queue (place + length ps) x.request Flushed None ∷ []
sends-more queue place [] x = ap (λ n. failure_mark queue n x.request Flushed None ∷ []) (omega arith)
sends-more queue place (p ∷ ps) x =
    ap (λ ms. failure_mark queue place p.request Flushed None ∷ ms)
    (sends-more queue (suc place) ps x ∙ ap (λ n. flushed_sends queue (suc place) ps ++ failure_mark queue n x.request Flushed None ∷ []) (omega arith))

-- the sends, the new one, and then all but the sends
pub send_flushed : (request : SendRequest) (drawn : Option ℕ) (q : QueuePair) (sent one made : List Mark) → state_eq q.state states.Error ≡ true
    → q.sends.first ≤ q.requester.oldest → q.requester.oldest ≤ next_place q.sends
    → sent ≡ flushed_sends q.queue q.requester.oldest (items_from q.requester.oldest q.sends)
    → one ≡ sent ++ failure_mark q.queue (next_place q.sends) request Flushed None ∷ []
    → made ≡ one ++ flush_marks (with_oldest (next_place q.sends) q)
    → made ≡ marks_of_flush (with_send request drawn q)
send_flushed request drawn q sent one made error low high a b c =
    c ∙ ap (λ ms. ms ++ flush_marks (with_oldest (next_place q.sends) q)) (b ∙ ap (λ ms. ms ++ last) a)
    ∙ ap (λ ms. (sends ++ last) ++ ((flushed_sends q.queue (next_place q.sends) ms ++ message) ++ receives)) (items_past q.sends (next_place q.sends) (omega arith))
    ∙ sym (append_assoc (sends ++ last) message receives)
    ∙ ap (λ ms. (ms ++ message) ++ receives) (sym same)
    ∙ rw error refl
  where
    sends : List Mark
    sends = flushed_sends q.queue q.requester.oldest (items_from q.requester.oldest q.sends)

    last : List Mark
    last = failure_mark q.queue (next_place q.sends) request Flushed None ∷ []

    message : List Mark
    message = flushed_message q.queue q.responder.message

    receives : List Mark
    receives = option_map_or (λ r. flushed_receives q.queue r.next_taken (items_from r.next_taken r)) q.receives []

    posted : PostedSend
    posted = record { request = request; drawn = drawn }

    same : flushed_sends q.queue q.requester.oldest (items_from q.requester.oldest (with_item posted q.sends)) ≡ sends ++ last
    same = ap (flushed_sends q.queue q.requester.oldest) (items-more q.sends q.requester.oldest posted low high)
        ∙ sends-more q.queue q.requester.oldest (items_from q.requester.oldest q.sends) posted
        ∙ ap (λ n. sends ++ failure_mark q.queue n request Flushed None ∷ []) (items-end q.sends q.requester.oldest low high)
