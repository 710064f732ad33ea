-- What a posting, a change of state and a poll make of a queue pair's weight.
use Rattle.std.proofs.Common.{◌≡◌, ℕ, zero, suc, ◌+◌, ◌-◌, ◌*◌, ◌≤◌, min, Bool, true, false, if◌then◌else◌, List, [], ◌∷◌, ◌++◌, drop, length, Option, None, refl, ap, sym, subst, ◌∙◌, arith, true≢false}
use Rattle.std.proofs.lemmas.List.{drop-append-le}
use Rattle.std.proofs.lemmas.List.Sums.{sum_by-cons}
use Rattle.std.specs.List.{sum_by}
use Rattle.ca_base.specs.declared.change.Change as state_change
use Rattle.ca_base.specs.declared.change.Change.TheVariants as changes
use Rattle.ca_base.specs.declared.change.State.{State}
use Rattle.ca_base.specs.declared.change.State.TheVariants as states
use Rattle.ca_base.specs.declared.limits.TheConstants.{MIN_PATH_MTU}
use Rattle.ca_base.specs.declared.queue_numbers.RequesterNumbers.{RequesterNumbers}
use Rattle.ca_base.specs.declared.queue_numbers.ResponderNumbers.{ResponderNumbers}
use Rattle.ca_base.specs.declared.request.PostedSend.{PostedSend}
use Rattle.ca_base.specs.declared.request.RecvRequest.{RecvRequest}
use Rattle.ca_base.specs.declared.request.SendOp.{SendOp}
use Rattle.ca_base.specs.declared.request.SendOp.TheVariants as ops
use Rattle.ca_base.specs.declared.request.SendRequest.{SendRequest}
use Rattle.ca_base.specs.objects.Mailbox.{Mailbox}
use Rattle.ca_base.specs.objects.QueuePair.{QueuePair, QueueSlot, Present, with_all_flushed}
use Rattle.ca_base.specs.objects.StateTable.{allowed_from, is_among, queue_after_change, state_eq}
use Rattle.ca_base.specs.objects.WorkQueue.{items_from}
use Rattle.ca_connection.proofs.LayoutLemmas.{segments-most, segments-some}
use Rattle.ca_model.specs.Requests.{is_local, list_length, psns_of, segments}
use Rattle.ca_model.specs.machine.Invariants.{IsQueue, is_fresh, is_idle}
use Rattle.ca_model.specs.machine.Numbering.{Numbered, is_read, numbers_of}
use Rattle.ca_model.specs.machine.PostingVerbs.{after_flush, with_send}
use Rattle.ca_law_once.proofs.Rows.PacketRowLemmas.{least-mtu}
use Rattle.ca_law_once.proofs.Verbs.BeginLemmas.{init-idle}
use Rattle.ca_law_once.proofs.Verbs.PollLemmas.{IsFreer, IsFreerSlot}
use Rattle.ca_law_once.proofs.Verbs.PollLemmas.IsFreerSlot.{freer, untouched}
use Rattle.ca_law_once.proofs.Verbs.WalkLemmas.{box_after, with_receive}
use Rattle.ca_law_once.specs.Beginnings.{BeginsEmpty}
use Rattle.ca_law_bounds.proofs.SumLemmas.{error-requests, error-weighs}
use Rattle.ca_law_bounds.specs.Weights.{answers_weight, psns_left, queue_weight, request_weight, requests_weight}
use Rattle.ca_law_bounds.specs.WorldWeights.{mail_weight, pair_weight}
use Rattle.ca_law_bounds.specs.PostWeights.{packets_of}

-- ---- one request

-- a message has no more packets than at the smallest path MTU
segments-narrow : (mtu count : ℕ) → MIN_PATH_MTU ≤ mtu → segments mtu count ≤ segments MIN_PATH_MTU count
segments-narrow mtu count wide = segments-most mtu count (segments MIN_PATH_MTU count) MIN_PATH_MTU (omega arith) wide (omega arith) (segments-some MIN_PATH_MTU count)

psns-few : (mtu : ℕ) (op : SendOp) → MIN_PATH_MTU ≤ mtu → psns_of mtu op ≤ packets_of op
psns-few mtu (ops.Send list) wide = segments-narrow mtu (list_length list.items) wide
psns-few mtu (ops.SendImm imm list) wide = segments-narrow mtu (list_length list.items) wide
psns-few mtu (ops.SendInv key list) wide = segments-narrow mtu (list_length list.items) wide
psns-few mtu (ops.Write address key list) wide = segments-narrow mtu (list_length list.items) wide
psns-few mtu (ops.WriteImm address key imm list) wide = segments-narrow mtu (list_length list.items) wide
psns-few mtu (ops.Read address key list) wide = segments-narrow mtu (list_length list.items) wide
psns-few mtu (ops.CmpSwap address key compare swap list) wide = segments-some MIN_PATH_MTU (list_length list.items)
psns-few mtu (ops.FetchAdd address key add list) wide = segments-some MIN_PATH_MTU (list_length list.items)
psns-few mtu (ops.Bind1 window region address count rights) wide = omega arith
psns-few mtu (ops.Bind2 window region low address count rights) wide = omega arith
psns-few mtu (ops.FastReg region low buffer address count rights pages) wide = omega arith
psns-few mtu (ops.LocalInv key) wide = omega arith

packets-some : (op : SendOp) → 1 ≤ packets_of op
packets-some op = omega arith

-- a request weighs four for each at most
request-light : (cursor next p : ℕ) (n : Numbered) → n.count ≤ p → 1 ≤ p → request_weight cursor next n ≤ 4 * p
request-light cursor next p n few some = by (is_local n.request.op) (is_read n.request.op)
  where
    by : (a b : Bool) → (if a then min 1 (suc n.place - next) else if b then 2 * psns_left cursor n + 2 * min 1 (psns_left cursor n) else 4 * psns_left cursor n) ≤ 4 * p
    by true b = omega (arith, some)
    by false true = omega (arith, few)
    by false false = omega (arith, few)

-- ---- postings

-- one request more
numbers-more : (f : Numbered → ℕ) (mtu k : ℕ) (x : PostedSend) → ((n : Numbered) → n.count ≡ psns_of mtu x.request.op → f n ≤ k) → (place psn : ℕ) (ps : List PostedSend)
    → sum_by f (numbers_of mtu place psn (ps ++ x ∷ [])) ≤ sum_by f (numbers_of mtu place psn ps) + k
numbers-more f mtu k x light place psn [] = omega (arith, sum_by-cons f n [], light n refl)
  where
    n : Numbered
    n = record { place = place; request = x.request; drawn = x.drawn; first = psn; count = psns_of mtu x.request.op }
numbers-more f mtu k x light place psn (p ∷ ps) = omega (
  arith,
  sum_by-cons f n (numbers_of mtu (suc place) (psn + psns_of mtu p.request.op) (ps ++ x ∷ [])),
  sum_by-cons f n (numbers_of mtu (suc place) (psn + psns_of mtu p.request.op) ps),
  numbers-more f mtu k x light (suc place) (psn + psns_of mtu p.request.op) ps,
)
  where
    n : Numbered
    n = record { place = place; request = p.request; drawn = p.drawn; first = psn; count = psns_of mtu p.request.op }

pub post-raises : (q : QueuePair) (request : SendRequest) (drawn : Option ℕ) (m : Mailbox) → IsQueue q → pair_weight (Present (after_flush (with_send request drawn q))) m ≤ pair_weight (Present q) m + 4 * packets_of request.op
post-raises q request drawn m s = by (state_eq q.state states.Error)
  where
    posted : QueuePair
    posted = with_send request drawn q

    item : PostedSend
    item = record { request = request; drawn = drawn }

    f : Numbered → ℕ
    f = request_weight q.requester.cursor q.requester.next

    k : ℕ
    k = q.requester.oldest - q.sends.first

    low : k ≤ length q.sends.items
    low = omega (arith, s.requester.begun, s.requester.waiting, s.requester.finished)

    light : (n : Numbered) → n.count ≡ psns_of q.responder.mtu request.op → f n ≤ 4 * packets_of request.op
    light n count = request-light q.requester.cursor q.requester.next (packets_of request.op) n (let few : psns_of q.responder.mtu request.op ≤ packets_of request.op = psns-few q.responder.mtu request.op (least-mtu q.responder.mtu s.responder.mtu) in subst (λ i. i ≤ packets_of request.op) (sym count) few) (packets-some request.op)

    more : requests_weight posted ≤ requests_weight q + 4 * packets_of request.op
    more = subst (λ ps. sum_by f (numbers_of q.responder.mtu q.requester.oldest q.requester.oldest_psn ps) ≤ requests_weight q + 4 * packets_of request.op) (sym (drop-append-le k q.sends.items (item ∷ []) low))
        (numbers-more f q.responder.mtu (4 * packets_of request.op) item light q.requester.oldest q.requester.oldest_psn (drop k q.sends.items))

    answers : answers_weight posted.responder.mtu posted.responder.answers ≡ answers_weight q.responder.mtu q.responder.answers
    answers = refl

    by : (b : Bool) → pair_weight (Present (if b then with_all_flushed posted else posted)) m ≤ pair_weight (Present q) m + 4 * packets_of request.op
    by true = omega (arith, error-requests posted)
    by false = omega (arith, more, answers)

pub receive-raises : (q : QueuePair) (request : RecvRequest) (m : Mailbox) → pair_weight (Present (after_flush (with_receive request q))) m ≤ pair_weight (Present q) m
receive-raises q request m = by (state_eq q.state states.Error)
  where
    received : QueuePair
    received = with_receive request q

    same : queue_weight received ≡ queue_weight q
    same = refl

    by : (b : Bool) → pair_weight (Present (if b then with_all_flushed received else received)) m ≤ pair_weight (Present q) m
    by true = omega (arith, error-requests received)
    by false = omega (arith, same)

-- ---- changes of state

no-items : (k : ℕ) (xs : List PostedSend) → xs ≡ [] → drop k xs ≡ []
no-items k xs none = ap (drop k) none ∙ nothing k
  where
    nothing : (k : ℕ) → drop {A = PostedSend} k [] ≡ []
    nothing zero = refl
    nothing (suc k) = refl

none-posted : (p : QueuePair) → p.sends.items ≡ [] → requests_weight p ≡ 0
none-posted p none = ap (λ ps. sum_by (request_weight p.requester.cursor p.requester.next) (numbers_of p.responder.mtu p.requester.oldest p.requester.oldest_psn ps))
    (no-items (p.requester.oldest - p.sends.first) p.sends.items none)

rtr-fresh : (t : State) → is_among (states.Rtr ∷ []) t ≡ true → is_fresh t ≡ true
rtr-fresh states.Rtr among = refl
rtr-fresh states.Reset among = refl
rtr-fresh states.Init among = refl
rtr-fresh states.Rts among = absurd (true≢false (sym among))
rtr-fresh states.Sqd among = absurd (true≢false (sym among))
rtr-fresh states.Error among = absurd (true≢false (sym among))

idle-fresh : (t : State) → is_idle t ≡ true → is_fresh t ≡ true
idle-fresh states.Reset idle = refl
idle-fresh states.Init idle = refl
idle-fresh states.Rtr idle = refl
idle-fresh states.Rts idle = absurd (true≢false (sym idle))
idle-fresh states.Sqd idle = absurd (true≢false (sym idle))
idle-fresh states.Error idle = absurd (true≢false (sym idle))

pub change-raises : (change : state_change.Change) (q : QueuePair) (m : Mailbox) → IsQueue q → BeginsEmpty q → (q.peer ≡ None → m.envelopes ≡ []) → is_among (allowed_from change) q.state ≡ true
    → pair_weight (Present (queue_after_change change q)) (box_after change q m) ≤ pair_weight (Present q) m
change-raises changes.Init q m s begins empty among =
    let same : pair_weight (Present (queue_after_change changes.Init q)) m ≡ pair_weight (Present q) m = refl in omega (arith, same)
change-raises (changes.Rtr peer incarnation psn mtu rnr_code) q m s begins empty among = omega (
  arith,
  none-posted (queue_after_change (changes.Rtr peer incarnation psn mtu rnr_code) q) (begins.posted (idle-fresh q.state idle)),
  ap (answers_weight mtu) (s.responder.silent idle),
  ap (mail_weight mtu) (empty (begins.peer idle)),
)
  where
    idle : is_idle q.state ≡ true
    idle = init-idle q.state among
change-raises (changes.Rts psn retry rnr_retry reads) q m s begins empty among =
    omega (arith, none-posted (queue_after_change (changes.Rts psn retry rnr_retry reads) q) (begins.posted (rtr-fresh q.state among)))
change-raises changes.Sqd q m s begins empty among =
    let same : pair_weight (Present (queue_after_change changes.Sqd q)) m ≡ pair_weight (Present q) m = refl in omega (arith, same)
change-raises changes.Resume q m s begins empty among =
    let same : pair_weight (Present (queue_after_change changes.Resume q)) m ≡ pair_weight (Present q) m = refl in omega (arith, same)
change-raises changes.Error q m s begins empty among = omega (arith, error-weighs q)
change-raises changes.Reset q m s begins empty among =
    let none : pair_weight (Present (queue_after_change changes.Reset q)) (box_after changes.Reset q m) ≡ 0 = refl in omega (arith, none)

-- ---- polls

freer-weighs : (q p : QueuePair) (m : Mailbox) → IsFreer q p → pair_weight (Present p) m ≡ pair_weight (Present q) m
freer-weighs q p m f = ap (λ r. weighs r p.responder (items_from r.oldest p.sends)) f.requester ∙ ap (λ s. weighs q.requester s (items_from q.requester.oldest p.sends)) f.responder
    ∙ ap (weighs q.requester q.responder) f.items
  where
    weighs : RequesterNumbers → ResponderNumbers → List PostedSend → ℕ
    weighs r s ps = sum_by (request_weight r.cursor r.next) (numbers_of s.mtu r.oldest r.oldest_psn ps) + answers_weight s.mtu s.answers + mail_weight s.mtu m.envelopes

pub freer-slot-weighs : (a b : QueueSlot) (m : Mailbox) → IsFreerSlot a b → pair_weight b m ≡ pair_weight a m
freer-slot-weighs a b m (untouched same) = ap (λ t. pair_weight t m) same
freer-slot-weighs a b m (freer q p one other f) = ap (λ t. pair_weight t m) other ∙ freer-weighs q p m f ∙ sym (ap (λ t. pair_weight t m) one)
