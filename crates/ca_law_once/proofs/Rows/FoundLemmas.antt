-- Which marks tell of what an atomic found.
use Rattle.std.proofs.Common.{◌≡◌, ℕ, suc, ◌+◌, Bool, true, false, if◌then◌else◌, List, [], ◌∷◌, ◌++◌, Option, None, Some, refl, ap, sym, ◌∙◌, append_assoc, arith}
use Rattle.std.specs.Option.{option_map_or}
use Rattle.ca_keys.specs.declared.access.Ask.{Ask}
use Rattle.ca_keys.specs.declared.names.QueueId.{QueueId}
use Rattle.ca_base.specs.Sight.{Invalidation}
use Rattle.ca_base.specs.declared.queue_numbers.Message.{Message}
use Rattle.ca_base.specs.declared.queue_numbers.Message.TheVariants as messages
use Rattle.ca_base.specs.declared.request.PostedSend.{PostedSend}
use Rattle.ca_base.specs.declared.request.RecvRequest.{RecvRequest}
use Rattle.ca_base.specs.objects.QueuePair.{QueuePair}
use Rattle.ca_base.specs.objects.WorkQueue.{WorkQueue, items_from}
use Rattle.ca_model.specs.declared.mark.Mark.{Mark}
use Rattle.ca_model.specs.machine.Completions.{flush_marks, flushed_message, flushed_receives, flushed_sends}
use Rattle.ca_model.specs.machine.Expected.{revoked_marks}
use Rattle.ca_model.specs.machine.Responses.{local_writes}
use Rattle.ca_law_once.specs.Moves.{is_remote_write, number_found, numbers_found, writes_told}

pub found-append : (ms ns : List Mark) → numbers_found (ms ++ ns) ≡ numbers_found ms ++ numbers_found ns
found-append [] ns = refl
found-append (m ∷ ms) ns = ap (λ t. number_found m ++ t) (found-append ms ns) ∙ sym (append_assoc (number_found m) (numbers_found ms) (numbers_found ns))

-- marks that tell of none, before others
pub found-behind : (ms ns : List Mark) → numbers_found ms ≡ [] → numbers_found (ms ++ ns) ≡ numbers_found ns
found-behind ms ns none = found-append ms ns ∙ ap (λ t. t ++ numbers_found ns) none

sends-none : (queue : QueueId) (place : ℕ) (ps : List PostedSend) → numbers_found (flushed_sends queue place ps) ≡ []
sends-none queue place [] = refl
sends-none queue place (p ∷ ps) = sends-none queue (suc place) ps

receives-none : (queue : QueueId) (place : ℕ) (rs : List RecvRequest) → numbers_found (flushed_receives queue place rs) ≡ []
receives-none queue place [] = refl
receives-none queue place (r ∷ rs) = receives-none queue (suc place) rs

message-none : (queue : QueueId) (m : Option Message) → numbers_found (flushed_message queue m) ≡ []
message-none queue None = refl
message-none queue (Some (messages.Send place receive bytes)) = refl
message-none queue (Some (messages.Write key address left count)) = refl

own-none : (queue : QueueId) (r : Option (WorkQueue RecvRequest)) → numbers_found (option_map_or (λ r. flushed_receives queue r.next_taken (items_from r.next_taken r)) r []) ≡ []
own-none queue None = refl
own-none queue (Some r) = receives-none queue r.next_taken (items_from r.next_taken r)

-- what is flushed tells of none
pub flush-none : (q : QueuePair) → numbers_found (flush_marks q) ≡ []
flush-none q = found-behind (sends ++ message) receives (found-behind sends message (sends-none q.queue q.requester.oldest (items_from q.requester.oldest q.sends)) ∙ message-none q.queue q.responder.message)
    ∙ own-none q.queue q.receives
  where
    sends : List Mark
    sends = flushed_sends q.queue q.requester.oldest (items_from q.requester.oldest q.sends)

    message : List Mark
    message = flushed_message q.queue q.responder.message

    receives : List Mark
    receives = option_map_or (λ r. flushed_receives q.queue r.next_taken (items_from r.next_taken r)) q.receives []

pub writes-none : (xs : List (Ask × List ℕ)) → numbers_found (local_writes xs) ≡ []
writes-none [] = refl
writes-none (x ∷ xs) = writes-none xs

pub revoked-none : (q : QueuePair) (i : Option Invalidation) → numbers_found (revoked_marks q i) ≡ []
revoked-none q None = refl
revoked-none q (Some i) = refl

-- ---- remote writes

pub wrote-append : (ms ns : List Mark) → writes_told (ms ++ ns) ≡ writes_told ms + writes_told ns
wrote-append [] ns = omega arith
wrote-append (m ∷ ms) ns = by (is_remote_write m) (wrote-append ms ns)
  where
    by : (b : Bool) → writes_told (ms ++ ns) ≡ writes_told ms + writes_told ns
        → (if b then suc (writes_told (ms ++ ns)) else writes_told (ms ++ ns)) ≡ (if b then suc (writes_told ms) else writes_told ms) + writes_told ns
    by true rest = omega (arith, rest)
    by false rest = rest

pub wrote-behind : (ms ns : List Mark) → writes_told ms ≡ 0 → writes_told (ms ++ ns) ≡ writes_told ns
wrote-behind ms ns none = omega (arith, wrote-append ms ns, none)

wrote-sends-none : (queue : QueueId) (place : ℕ) (ps : List PostedSend) → writes_told (flushed_sends queue place ps) ≡ 0
wrote-sends-none queue place [] = refl
wrote-sends-none queue place (p ∷ ps) = wrote-sends-none queue (suc place) ps

wrote-receives-none : (queue : QueueId) (place : ℕ) (rs : List RecvRequest) → writes_told (flushed_receives queue place rs) ≡ 0
wrote-receives-none queue place [] = refl
wrote-receives-none queue place (r ∷ rs) = wrote-receives-none queue (suc place) rs

wrote-message-none : (queue : QueueId) (m : Option Message) → writes_told (flushed_message queue m) ≡ 0
wrote-message-none queue None = refl
wrote-message-none queue (Some (messages.Send place receive bytes)) = refl
wrote-message-none queue (Some (messages.Write key address left count)) = refl

wrote-own-none : (queue : QueueId) (r : Option (WorkQueue RecvRequest)) → writes_told (option_map_or (λ r. flushed_receives queue r.next_taken (items_from r.next_taken r)) r []) ≡ 0
wrote-own-none queue None = refl
wrote-own-none queue (Some r) = wrote-receives-none queue r.next_taken (items_from r.next_taken r)

pub wrote-flush-none : (q : QueuePair) → writes_told (flush_marks q) ≡ 0
wrote-flush-none q = wrote-behind (sends ++ message) receives (wrote-behind sends message (wrote-sends-none q.queue q.requester.oldest (items_from q.requester.oldest q.sends)) ∙ wrote-message-none q.queue q.responder.message)
    ∙ wrote-own-none q.queue q.receives
  where
    sends : List Mark
    sends = flushed_sends q.queue q.requester.oldest (items_from q.requester.oldest q.sends)

    message : List Mark
    message = flushed_message q.queue q.responder.message

    receives : List Mark
    receives = option_map_or (λ r. flushed_receives q.queue r.next_taken (items_from r.next_taken r)) q.receives []

pub wrote-writes-none : (xs : List (Ask × List ℕ)) → writes_told (local_writes xs) ≡ 0
wrote-writes-none [] = refl
wrote-writes-none (x ∷ xs) = wrote-writes-none xs

pub wrote-revoked-none : (q : QueuePair) (i : Option Invalidation) → writes_told (revoked_marks q i) ≡ 0
wrote-revoked-none q None = refl
wrote-revoked-none q (Some i) = refl
