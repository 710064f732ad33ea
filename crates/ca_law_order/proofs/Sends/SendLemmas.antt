-- What completes the sends of a queue pair in order: the flush of all, a failure, and all that an acknowledgement
-- finishes. For proofs only.
use Rattle.std.proofs.Common.{◌≡◌, ℕ, suc, ◌+◌, ◌-◌, ◌≤◌, ◌==◌, ◌&&◌, ◌||◌, nat_le, nat_lt, Bool, true, false, not, if◌then◌else◌, List, [], ◌∷◌, ◌++◌, length, Option, None, Some, slice_get, refl, sym, ap, subst, ◌∙◌, arith, length-drop}
use Rattle.std.proofs.lemmas.Bool.Decides.{nat_tests}
use Rattle.std.proofs.lemmas.List.{length-take}
use Rattle.std.proofs.lemmas.Option.{same_Some}
use Rattle.std.specs.List.{AllByRecursion, prefix_len}
use Rattle.std.specs.Option.{option_map_or}
use Rattle.std.specs.Prelude.{flat_map}
use Rattle.ca_law_keys.proofs.Posts.PlaceLemmas.{numbers-at}
use Rattle.ca_law_keys.proofs.Posts.GrantLemmas.{both-true}
use Rattle.ca_law_order.proofs.Sends.CompleteLemmas.{Complete, IsNextSend, complete-append, none-between}
use Rattle.ca_base.specs.Equal.{operation_eq, operation_number, status_eq}
use Rattle.ca_base.specs.declared.completion.WcStatus.{WcStatus}
use Rattle.ca_base.specs.declared.completion.WcStatus.TheVariants.{Flushed, Success}
use Rattle.ca_base.specs.declared.queue_numbers.Message.{Message}
use Rattle.ca_base.specs.declared.queue_numbers.Message.TheVariants as messages
use Rattle.ca_base.specs.declared.refusals.OpRefusal.{OpRefusal}
use Rattle.ca_base.specs.declared.request.PostedSend.{PostedSend}
use Rattle.ca_base.specs.declared.request.RecvRequest.{RecvRequest}
use Rattle.ca_base.specs.declared.request.SendRequest.{SendRequest}
use Rattle.ca_base.specs.objects.QueuePair.{QueuePair}
use Rattle.ca_base.specs.objects.WorkQueue.{WorkQueue, item_at, items_from, next_place}
use Rattle.ca_keys.specs.declared.names.QueueId.{QueueId}
use Rattle.ca_law_world.proofs.Sound.NumberingLemmas.{Numbers, all-taken, are-numbers, length-numbers, take-numbers}
use Rattle.ca_model.specs.Ordered.{is_completion_of}
use Rattle.ca_model.specs.Past.{Posted}
use Rattle.ca_model.specs.Requests.{operation_of, psns_of}
use Rattle.ca_model.specs.declared.mark.Mark.{Mark}
use Rattle.ca_model.specs.declared.mark.Mark.TheVariants as marks
use Rattle.ca_model.specs.machine.Acknowledgements.{after_finished, failure_effects, finished_marks, finished_requests, progress_to, with_requester, without_oldest}
use Rattle.ca_model.specs.machine.Completions.{bytes_of_success, failure_mark, flush_marks, flushed_message, flushed_receives, flushed_sends, send_completion, success_marks}
use Rattle.ca_model.specs.machine.Numbering.{Numbered, begun_requests, numbers_of, psn_end, unfinished_requests}
use Rattle.ca_model.specs.machine.Row.{Effects, queue_and_marks}

-- a request that was posted at a place
pub record IsRequestAt (ps : List Posted) (place : ℕ) (request : SendRequest) : Type 0 where
  pub posted : Posted
  pub is : slice_get ps place ≡ Some posted
  pub same : posted.request ≡ request

-- what occupies a send queue was posted, and what is unfinished occupies it
pub record IsReady (ps : List Posted) (sends : WorkQueue PostedSend) (oldest : ℕ) : Type 0 where
  pub at : (place : ℕ) (x : PostedSend) → item_at place sends ≡ Some x → IsRequestAt ps place x.request
  pub first : sends.first ≤ oldest
  pub last : oldest ≤ next_place sends

-- effects that leave the sends, and whose marks complete those that are finished by them
pub record Completes (ps : List Posted) (name : QueueId) (of : WorkQueue PostedSend) (oldest : ℕ) (e : Effects) : Type 0 where
  pub queue : e.queue.queue ≡ name
  pub sends : e.queue.sends ≡ of
  pub low : oldest ≤ e.queue.requester.oldest
  pub high : e.queue.requester.oldest ≤ next_place of
  pub marks : Complete name ps oldest e.marks e.queue.requester.oldest

-- the same of a queue pair
abbrev pub IsReadyQueue : List Posted → QueuePair → Type 0
IsReadyQueue ps q = IsReady ps q.sends q.requester.oldest

abbrev pub CompletesOf : List Posted → QueuePair → Effects → Type 0
CompletesOf ps q e = Completes ps q.queue q.sends q.requester.oldest e

-- ---- one completion

-- a completion is of the request that was posted at its place
completion-is : (ps : List Posted) (name : QueueId) (place : ℕ) (x : PostedSend) (status : WcStatus) (count : ℕ) → IsRequestAt ps place x.request → (x.request.signalled || not (status_eq status Success)) ≡ true
    → option_map_or (is_completion_of (send_completion name place x.request status count)) (slice_get ps place) false ≡ true
completion-is ps name place x status count at fits = ap (λ o. option_map_or (is_completion_of (send_completion name place x.request status count)) o false) at.is
    ∙ ap of at.same ∙ both-true _ _ (both-true (x.request.id == x.request.id) _ (same x.request.id) (same (operation_number (operation_of x.request.op)))) fits
  where
    same : (n : ℕ) → (n == n) ≡ true
    same n = grind (arith, nat_tests)

    of : SendRequest → Bool
    of r = (x.request.id == r.id) && operation_eq (operation_of x.request.op) (operation_of r.op) && (r.signalled || not (status_eq status Success))

next-send : (ps : List Posted) (name : QueueId) (place : ℕ) (x : PostedSend) (status : WcStatus) (count : ℕ) → IsRequestAt ps place x.request → (x.request.signalled || not (status_eq status Success)) ≡ true
    → IsNextSend name ps place (send_completion name place x.request status count)
next-send ps name place x status count at fits = record {
  queue = refl;
  behind = omega arith;
  between = none-between ps place;
  completes = completion-is ps name place x status count at fits;
}

or-failed : (a b : Bool) → b ≡ false → (a || not b) ≡ true
or-failed true b e = refl
or-failed false b e = ap not e

or-signalled : (a b : Bool) → a ≡ true → (a || b) ≡ true
or-signalled a b e = ap (λ z. z || b) e

-- ---- the flush

-- the requests of these numbers occupy a send queue
abbrev pub AreItems : WorkQueue PostedSend → List Numbered → Type 0
AreItems sends ns = AllByRecursion (λ n. item_at n.place sends ≡ Some (record { request = n.request; drawn = n.drawn })) ns

flushed-complete : (ps : List Posted) (name : QueueId) (sends : WorkQueue PostedSend) (mtu psn place : ℕ) (xs : List PostedSend) (to : ℕ) → ((place : ℕ) (x : PostedSend) → item_at place sends ≡ Some x → IsRequestAt ps place x.request) → AreItems sends (numbers_of mtu place psn xs) → place + length xs ≡ to
    → Complete name ps place (flushed_sends name place xs) to
flushed-complete ps name sends mtu psn place [] to has items end = (omega (arith, end), λ i p low high is. absurd (omega (arith, low, high, end)))
flushed-complete ps name sends mtu psn place (x ∷ xs) to has items end = (
  next-send ps name place x Flushed 0 (has place x items.0) (or-failed x.request.signalled false refl),
  flushed-complete ps name sends mtu (psn + psns_of mtu x.request.op) (suc place) xs to has items.1 (omega (arith, end)),
)

-- flushed receives tell of no send
pub receives-complete : (name : QueueId) (ps : List Posted) (n : ℕ) (queue : QueueId) (place : ℕ) (rs : List RecvRequest) → Complete name ps n (flushed_receives queue place rs) n
receives-complete name ps n queue place [] = (omega arith, none-between ps n)
receives-complete name ps n queue place (r ∷ rs) = receives-complete name ps n queue (suc place) rs

unfinished-items : (q : QueuePair) → q.sends.first ≤ q.requester.oldest → AreItems q.sends (unfinished_requests q)
unfinished-items q first = numbers-at q.responder.mtu q.requester.oldest q.requester.oldest_psn q.sends (items_from q.requester.oldest q.sends) first refl

pub flush-complete : (ps : List Posted) (q : QueuePair) → IsReadyQueue ps q → Complete q.queue ps q.requester.oldest (flush_marks q) (next_place q.sends)
flush-complete ps q ready =
    complete-append q.queue ps q.requester.oldest (sends ++ flushed_message q.queue q.responder.message) (next_place q.sends) _ (next_place q.sends)
    (complete-append q.queue ps q.requester.oldest sends (next_place q.sends) (flushed_message q.queue q.responder.message) (next_place q.sends)
    (flushed-complete ps q.queue q.sends q.responder.mtu q.requester.oldest_psn q.requester.oldest (items_from q.requester.oldest q.sends) (next_place q.sends) ready.at (unfinished-items q ready.first)
    (omega (arith, ready.first, ready.last, length-drop (q.requester.oldest - q.sends.first) q.sends.items))) (message q.responder.message)) (own q.receives)
  where
    sends : List Mark
    sends = flushed_sends q.queue q.requester.oldest (items_from q.requester.oldest q.sends)

    message : (m : Option Message) → Complete q.queue ps (next_place q.sends) (flushed_message q.queue m) (next_place q.sends)
    message None = (omega arith, none-between ps (next_place q.sends))
    message (Some (messages.Write key address left count)) = (omega arith, none-between ps (next_place q.sends))
    message (Some (messages.Send place receive bytes)) = (omega arith, none-between ps (next_place q.sends))

    own : (o : Option (WorkQueue RecvRequest)) → Complete q.queue ps (next_place q.sends) (option_map_or (λ r. flushed_receives q.queue r.next_taken (items_from r.next_taken r)) o []) (next_place q.sends)
    own None = (omega arith, none-between ps (next_place q.sends))
    own (Some r) = receives-complete q.queue ps (next_place q.sends) q.queue r.next_taken (items_from r.next_taken r)

-- ---- a failure

pub failure-completes : (ps : List Posted) (status : WcStatus) (cause : Option OpRefusal) (q : QueuePair) → status_eq status Success ≡ false → IsReadyQueue ps q → CompletesOf ps q (failure_effects status cause q)
failure-completes ps status cause q fails ready = record {
  queue = refl;
  sends = refl;
  low = ready.last;
  high = omega arith;
  marks = by (items_from q.requester.oldest q.sends) (unfinished-items q ready.first) (omega (arith, ready.first, ready.last, length-drop (q.requester.oldest - q.sends.first) q.sends.items));
}
  where
    told : List PostedSend → List Mark
    told [] = flush_marks q
    told (x ∷ xs) = failure_mark q.queue q.requester.oldest x.request status cause ∷ flush_marks (without_oldest q)

    by : (xs : List PostedSend) → AreItems q.sends (numbers_of q.responder.mtu q.requester.oldest q.requester.oldest_psn xs) → q.requester.oldest + length xs ≡ next_place q.sends
        → Complete q.queue ps q.requester.oldest (told xs) (next_place q.sends)
    by [] items end = flush-complete ps q ready
    by (x ∷ xs) items end = (
      next-send ps q.queue q.requester.oldest x status 0 (ready.at q.requester.oldest x items.0) (or-failed x.request.signalled (status_eq status Success) fails),
      flush-complete ps (without_oldest q) (record { at = ready.at; first = omega (arith, ready.first); last = omega (arith, end) }),
    )

-- ---- progress

pub success-complete : (ps : List Posted) (name : QueueId) (n : Numbered) → IsRequestAt ps n.place n.request → Complete name ps n.place (success_marks name n.place n.request) (suc n.place)
success-complete ps name n at = by n.request.signalled refl
  where
    told : Bool → List Mark
    told b = if b then marks.Done name (send_completion name n.place n.request Success (bytes_of_success n.request.op)) None ∷ [] else []

    by : (b : Bool) → n.request.signalled ≡ b → Complete name ps n.place (told b) (suc n.place)
    by true e = (next-send ps name n.place (record { request = n.request; drawn = n.drawn }) Success (bytes_of_success n.request.op) at (or-signalled n.request.signalled _ e), (omega arith, none-between ps (suc n.place)))
    by false e = (omega arith, λ place p low high is. one place p (omega (arith, low, high)) is)
      where
        one : (place : ℕ) (p : Posted) → place ≡ n.place → slice_get ps place ≡ Some p → p.request.signalled ≡ false
        one place p here is = ap (λ (y : Posted). y.request.signalled) (same_Some p at.posted (sym is ∙ ap (slice_get ps) here ∙ at.is)) ∙ ap (λ (y : SendRequest). y.signalled) at.same ∙ e

finished-complete : (ps : List Posted) (name : QueueId) (sends : WorkQueue PostedSend) (mtu psn place : ℕ) (ns : List Numbered) (to : ℕ) → ((place : ℕ) (x : PostedSend) → item_at place sends ≡ Some x → IsRequestAt ps place x.request) → Numbers mtu place psn ns → AreItems sends ns → place + length ns ≡ to
    → Complete name ps place (flat_map (λ n. success_marks name n.place n.request) ns) to
finished-complete ps name sends mtu psn place [] to has numbers items end = (omega (arith, end), λ i p low high is. absurd (omega (arith, low, high, end)))
finished-complete ps name sends mtu psn place (n ∷ ns) to has numbers items end =
    complete-append name ps place (success_marks name n.place n.request) (suc place) _ to
    (subst (λ k. Complete name ps k (success_marks name n.place n.request) (suc k)) numbers.0.0 (success-complete ps name n (has n.place _ items.0)))
    (finished-complete ps name sends mtu (psn + n.count) (suc place) ns to has numbers.1 items.1 (omega (arith, end)))

-- all that is finished completes
after-finished : (ps : List Posted) (q : QueuePair) → IsReadyQueue ps q → CompletesOf ps q (queue_and_marks (after_finished q) (finished_marks q))
after-finished ps q ready = record {
  queue = refl;
  sends = refl;
  low = omega arith;
  high = omega (arith, ready.first, ready.last, few);
  marks = finished-complete ps q.queue q.sends q.responder.mtu q.requester.oldest_psn q.requester.oldest (finished_requests q) _ ready.at
      (take-numbers q.responder.mtu (prefix_len (λ n. nat_le (psn_end n) q.requester.una) (begun_requests q)) q.requester.oldest q.requester.oldest_psn (begun_requests q)
      (take-numbers q.responder.mtu (q.requester.next - q.requester.oldest) q.requester.oldest q.requester.oldest_psn (unfinished_requests q)
      (are-numbers q.responder.mtu q.requester.oldest q.requester.oldest_psn (items_from q.requester.oldest q.sends))))
      (all-taken _ (prefix_len (λ n. nat_le (psn_end n) q.requester.una) (begun_requests q)) (begun_requests q)
      (all-taken _ (q.requester.next - q.requester.oldest) (unfinished_requests q) (unfinished-items q ready.first))) refl;
}
  where
    few : length (finished_requests q) ≤ length q.sends.items - (q.requester.oldest - q.sends.first)
    few = omega (
      arith,
      length-take (prefix_len (λ n. nat_le (psn_end n) q.requester.una) (begun_requests q)) (begun_requests q),
      length-take (q.requester.next - q.requester.oldest) (unfinished_requests q),
      length-numbers q.responder.mtu q.requester.oldest q.requester.oldest_psn (items_from q.requester.oldest q.sends),
      length-drop (q.requester.oldest - q.sends.first) q.sends.items,
    )

pub progress-completes : (ps : List Posted) (psn : ℕ) (q : QueuePair) → IsReadyQueue ps q → CompletesOf ps q (progress_to psn q)
progress-completes ps psn q ready = by (nat_lt q.requester.una psn)
  where
    moved : Bool → QueuePair
    moved b = if b then with_requester (record q.requester { una = psn; retries = 0; rnrs = 0 }) q else q

    by : (b : Bool) → CompletesOf ps q (queue_and_marks (after_finished (moved b)) (finished_marks (moved b)))
    by true = after-finished ps (moved true) ready
    by false = after-finished ps q ready
