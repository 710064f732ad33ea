-- A local operation leaves a queue pair that weighs less: it is the oldest unfinished request, and had not begun.
use Rattle.std.proofs.Common.{◌≡◌, ℕ, suc, ◌+◌, ◌-◌, ◌*◌, ◌<◌, ◌≤◌, ◌&&◌, ◌||◌, min, Bool, true, false, nat_le, nat_lt, if◌then◌else◌, List, [], ◌∷◌, drop, Option, None, Some, IfSome, is_none, is_some, find, slice_get, refl, ap, ap₂, sym, subst, ◌∙◌, arith, true≢false}
use Rattle.std.proofs.lemmas.Bool.{and_parts, leb-true, ltb-false, ltb-true, or_parts}
use Rattle.std.proofs.lemmas.List.{drop-drop}
use Rattle.std.proofs.lemmas.List.Sums.{sum_by-cons}
use Rattle.std.proofs.lemmas.Option.{same_Some}
use Rattle.std.specs.List.{AllByRecursion, list_any, sum_by}
use Rattle.std.specs.Option.{option_map_or, option_or}
use Rattle.ca_base.specs.declared.refusals.OpRefusal.{OpRefusal}
use Rattle.ca_base.specs.declared.request.PostedSend.{PostedSend}
use Rattle.ca_base.specs.declared.request.SendOp.{SendOp}
use Rattle.ca_base.specs.declared.request.SendOp.TheVariants as ops
use Rattle.ca_base.specs.declared.step.Reason.{Reason}
use Rattle.ca_base.specs.objects.LocalRequest.{LocalMarks}
use Rattle.ca_base.specs.objects.QueuePair.{QueuePair}
use Rattle.ca_base.specs.objects.WorkQueue.{items_from}
use Rattle.ca_keys.specs.Refusals.{first_of}
use Rattle.ca_law_world.proofs.Sound.NumberingLemmas.{all-found, all-taken}
use Rattle.ca_law_world.proofs.Sound.TurnLemmas.{NoReason, sending-parts, turn_from}
use Rattle.ca_model.specs.Requests.{is_local, psns_of}
use Rattle.ca_model.specs.machine.Invariants.{IsQueue}
use Rattle.ca_model.specs.machine.LocalOperations.{after_operation, operation_effects}
use Rattle.ca_model.specs.machine.Numbering.{Numbered, begun_requests, has_psn, is_answered_op, is_read, next_to_begin, numbers_of, psn_end, request_at, unfinished_requests}
use Rattle.ca_model.specs.machine.Requester.{Performs, RequestTurn, Sends, Waits, is_fenced, next_request, turn_of, turn_refusals}
use Rattle.ca_model.specs.machine.Row.{Effects}
use Rattle.ca_law_bounds.proofs.SumLemmas.{error-weighs, request-less, sum-le}
use Rattle.ca_law_bounds.specs.Weights.{psns_left, queue_weight, request_weight, requests_weight}

-- ---- which request it is

-- a request has as many PSNs as its operation takes
abbrev pub Counts : ℕ → Numbered → Type 0
Counts mtu n = n.count ≡ psns_of mtu n.request.op

all-count : (mtu place psn : ℕ) (ps : List PostedSend) → AllByRecursion (Counts mtu) (numbers_of mtu place psn ps)
all-count mtu place psn [] = record {}
all-count mtu place psn (p ∷ ps) = (refl, all-count mtu (suc place) (psn + psns_of mtu p.request.op) ps)

-- a local operation takes none
no-psns : (mtu : ℕ) (op : SendOp) → is_local op ≡ true → psns_of mtu op ≡ 0
no-psns mtu (ops.Bind1 window region address count rights) e = refl
no-psns mtu (ops.Bind2 window region low address count rights) e = refl
no-psns mtu (ops.FastReg region low buffer address count rights pages) e = refl
no-psns mtu (ops.LocalInv key) e = refl
no-psns mtu (ops.Send list) e = absurd (true≢false (sym e))
no-psns mtu (ops.SendImm imm list) e = absurd (true≢false (sym e))
no-psns mtu (ops.SendInv key list) e = absurd (true≢false (sym e))
no-psns mtu (ops.Write address key list) e = absurd (true≢false (sym e))
no-psns mtu (ops.WriteImm address key imm list) e = absurd (true≢false (sym e))
no-psns mtu (ops.Read address key list) e = absurd (true≢false (sym e))
no-psns mtu (ops.CmpSwap address key compare swap list) e = absurd (true≢false (sym e))
no-psns mtu (ops.FetchAdd address key add list) e = absurd (true≢false (sym e))

-- what is found passes the test
find-passes : {A : Type 0} (test : A → Bool) (xs : List A) → IfSome (find test xs) (λ x. test x ≡ true)
find-passes test [] = record {}
find-passes test (x ∷ xs) = by (test x) refl (find-passes test xs)
  where
    by : (b : Bool) → test x ≡ b → IfSome (find test xs) (λ y. test y ≡ true) → IfSome (if b then Some x else find test xs) (λ y. test y ≡ true)
    by true is rest = is
    by false is rest = rest

abbrev performed : RequestTurn → Option Numbered
performed (Performs n) = Some n
performed (Sends n) = None
performed (Waits reason) = None

pub performs-parts : (r : Option Reason) (o : Option Numbered) (n : Numbered) → turn_from r o ≡ Performs n → NoReason r × (o ≡ Some n) × (is_local n.request.op ≡ true)
performs-parts (Some reason) o n e = absurd (true≢false (sym (ap (λ t. is_some (performed t)) e)))
performs-parts None None n e = absurd (true≢false (sym (ap (λ t. is_some (performed t)) e)))
performs-parts None (Some m) n e = by (is_local m.request.op) refl e
  where
    by : (b : Bool) → is_local m.request.op ≡ b → (if b then Performs m else Sends m) ≡ Performs n → NoReason None × (Some m ≡ Some n) × (is_local n.request.op ≡ true)
    by true is e = (refl, ap performed e, subst (λ x. is_local x.request.op ≡ true) (same_Some m n (ap performed e)) is)
    by false is e = absurd (true≢false (sym (ap (λ t. is_some (performed t)) e)))

-- a local operation that is the oldest unfinished request, and none has begun
record IsOldest (q : QueuePair) (n : Numbered) : Type 0 where
  local : is_local n.request.op ≡ true
  next : q.requester.next ≡ q.requester.oldest
  front : slice_get (unfinished_requests q) 0 ≡ Some n

oldest-of : (q : QueuePair) (n : Numbered) → IsQueue q → turn_of q ≡ Performs n → IsOldest q n
oldest-of q n s turn = by (performs-parts (first_of (turn_refusals q)) (next_request q) n turn)
  where
    waits : Numbered → Bool
    waits n =
        (is_local n.request.op && nat_lt q.requester.oldest q.requester.next)
        || (n.request.fence && list_any (λ m. is_answered_op m.request.op) (begun_requests q))

    k : ℕ
    k = q.requester.next - q.requester.oldest

    -- a local operation has no PSN to go on at
    goes-on : request_at q.requester.cursor q ≡ Some n → is_local n.request.op ≡ true → ⊥
    goes-on at local = omega (arith, leb-true n.first q.requester.cursor parts.0, ltb-true q.requester.cursor (psn_end n) parts.1, count, no-psns q.responder.mtu n.request.op local)
      where
        has : has_psn q.requester.cursor n ≡ true
        has = subst (λ o. IfSome o (λ m. has_psn q.requester.cursor m ≡ true)) at (find-passes (has_psn q.requester.cursor) (begun_requests q))

        parts : (nat_le n.first q.requester.cursor ≡ true) × (nat_lt q.requester.cursor (psn_end n) ≡ true)
        parts = and_parts (nat_le n.first q.requester.cursor) (nat_lt q.requester.cursor (psn_end n)) has

        count : Counts q.responder.mtu n
        count = subst (λ o. IfSome o (Counts q.responder.mtu)) at (all-found (Counts q.responder.mtu) (has_psn q.requester.cursor) (begun_requests q)
            (all-taken (Counts q.responder.mtu) k (unfinished_requests q) (all-count q.responder.mtu q.requester.oldest q.requester.oldest_psn (items_from q.requester.oldest q.sends))))

    begins-now : is_local n.request.op ≡ true → is_fenced q ≡ false → request_at q.requester.cursor q ≡ None → next_to_begin q ≡ Some n → IsOldest q n
    begins-now local free none at = record {
      local = local;
      next = omega (arith, s.requester.begun, alone);
      front = ap (slice_get (unfinished_requests q)) (let zero : 0 ≡ k = omega (arith, alone) in zero) ∙ at;
    }
      where
        waits_not : waits n ≡ false
        waits_not = ap₂ (λ x y. (is_none x && is_some y) && option_map_or waits y false) (sym none) (sym at) ∙ free

        alone : q.requester.next ≤ q.requester.oldest
        alone = ltb-false q.requester.oldest q.requester.next (ap (λ x. x && nat_lt q.requester.oldest q.requester.next) (sym local)
            ∙ (or_parts (is_local n.request.op && nat_lt q.requester.oldest q.requester.next) (n.request.fence && list_any (λ m. is_answered_op m.request.op) (begun_requests q)) waits_not).0)

    found : is_local n.request.op ≡ true → is_fenced q ≡ false → (o : Option Numbered) → request_at q.requester.cursor q ≡ o → option_or o (next_to_begin q) ≡ Some n → IsOldest q n
    found local free None is e = begins-now local free is e
    found local free (Some m) is e = absurd (goes-on (is ∙ e) local)

    by : NoReason (first_of (turn_refusals q)) × (next_request q ≡ Some n) × (is_local n.request.op ≡ true) → IsOldest q n
    by parts = found parts.2 (sending-parts q parts.0).1 (request_at q.requester.cursor q) refl parts.1

-- ---- what is left

operation-falls : (q : QueuePair) (n : Numbered) (windows : ℕ) → IsQueue q → IsOldest q n → requests_weight (after_operation n (record q { windows = windows })) < requests_weight q
operation-falls q n windows s own = by (items_from q.requester.oldest q.sends) refl own.front
  where
    mtu : ℕ
    mtu = q.responder.mtu

    cursor : ℕ
    cursor = q.requester.cursor

    oldest : ℕ
    oldest = q.requester.oldest

    psn : ℕ
    psn = q.requester.oldest_psn

    by : (xs : List PostedSend) → items_from oldest q.sends ≡ xs → slice_get (numbers_of mtu oldest psn xs) 0 ≡ Some n → requests_weight (after_operation n (record q { windows = windows })) < requests_weight q
    by [] is at = absurd (true≢false (sym (ap is_some at)))
    by (p ∷ ps) is at = omega (arith, before, one, after, less)
      where
        x : Numbered
        x = record { place = oldest; request = p.request; drawn = p.drawn; first = psn; count = psns_of mtu p.request.op }

        same : x ≡ n
        same = same_Some x n at

        local : is_local p.request.op ≡ true
        local = ap (λ (y : Numbered). is_local y.request.op) same ∙ own.local

        place : n.place ≡ oldest
        place = sym (ap (λ (y : Numbered). y.place) same)

        rest : List Numbered
        rest = numbers_of mtu (suc oldest) (psn + psns_of mtu p.request.op) ps

        before : requests_weight q ≡ request_weight cursor q.requester.next x + sum_by (request_weight cursor q.requester.next) rest
        before = ap (λ ys. sum_by (request_weight cursor q.requester.next) (numbers_of mtu oldest psn ys)) is ∙ sum_by-cons (request_weight cursor q.requester.next) x rest

        one : request_weight cursor q.requester.next x ≡ 1
        one = ap (λ b. if b then min 1 (suc oldest - q.requester.next)
            else if is_read p.request.op then 2 * psns_left cursor x + 2 * min 1 (psns_left cursor x)
            else 4 * psns_left cursor x) local ∙ (let e : min 1 (suc oldest - q.requester.next) ≡ 1 = omega (arith, own.next) in e)

        items : items_from (suc n.place) q.sends ≡ ps
        items = ap (λ i. drop i q.sends.items) (let e : suc n.place - q.sends.first ≡ (oldest - q.sends.first) + 1 = omega (arith, place, s.requester.finished) in e)
            ∙ sym (drop-drop 1 (oldest - q.sends.first) q.sends.items) ∙ ap (drop 1) is

        numbers : numbers_of mtu (suc n.place) psn ps ≡ rest
        numbers = ap₂ (λ a b. numbers_of mtu a b ps) (let e : suc n.place ≡ suc oldest = omega (arith, place) in e) (let e : psn ≡ psn + psns_of mtu p.request.op = omega (arith, no-psns mtu p.request.op local) in e)

        after : requests_weight (after_operation n (record q { windows = windows })) ≡ sum_by (request_weight cursor (suc n.place)) rest
        after = ap (λ ys. sum_by (request_weight cursor (suc n.place)) (numbers_of mtu (suc n.place) psn ys)) items ∙ ap (sum_by (request_weight cursor (suc n.place))) numbers

        less : sum_by (request_weight cursor (suc n.place)) rest ≤ sum_by (request_weight cursor q.requester.next) rest
        less = sum-le (request_weight cursor (suc n.place)) (request_weight cursor q.requester.next)
            (request-less cursor q.requester.next cursor (suc n.place) (omega arith) (omega (arith, place, own.next))) rest

-- it leaves a queue pair that weighs less, whether it succeeds or fails
pub record Falls (q : QueuePair) (e : Effects) : Type 0 where
  pub width : e.queue.responder.mtu ≡ q.responder.mtu
  pub less : queue_weight e.queue < queue_weight q

pub effects-fall : (q : QueuePair) (n : Numbered) (windows : ℕ) (m : LocalMarks) (refusal : Option OpRefusal) → IsQueue q → turn_of q ≡ Performs n → Falls q (operation_effects q n (record q { windows = windows }) m refusal)
effects-fall q n windows m None s turn = record { width = refl; less = omega (arith, operation-falls q n windows s (oldest-of q n s turn)) }
effects-fall q n windows m (Some cause) s turn = record { width = refl; less = omega (arith, error-weighs q, operation-falls q n windows s (oldest-of q n s turn)) }
