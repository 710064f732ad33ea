-- With nothing outstanding a turn of the requester is not too much, and the first unfinished request is the one that goes on
-- or begins. For proofs only.
use Rattle.std.proofs.Common.{◌≡◌, ℕ, zero, suc, ◌+◌, ◌-◌, ◌<◌, ◌≤◌, ◌&&◌, ◌||◌, min, Bool, true, false, not, nat_lt, if◌then◌else◌, List, [], ◌∷◌, take, None, Some, IfSome, is_none, is_some, slice_get, sum_by, refl, ap, sym, ◌∙◌, subst, arith, true≢false}
use Rattle.std.specs.List.{find, list_any}
use Rattle.std.specs.Option.{option_map_or, option_or}
use Rattle.std.proofs.lemmas.Bool.Decides.{nat_tests}
use Rattle.std.proofs.lemmas.List.Sums.{sum_by-cons}
use Rattle.ca_base.specs.declared.change.State.TheVariants as states
use Rattle.ca_base.specs.declared.limits.TheConstants.{MAX_MESSAGE_BYTES, MAX_OUTSTANDING_PACKETS, MAX_OUTSTANDING_PSNS}
use Rattle.ca_base.specs.declared.request.PostedSend.{PostedSend}
use Rattle.ca_base.specs.declared.request.SendOp.{SendOp}
use Rattle.ca_base.specs.declared.request.SendOp.TheVariants as ops
use Rattle.ca_base.specs.declared.step.Reason.{Reason}
use Rattle.ca_base.specs.declared.step.Reason.TheVariants as reasons
use Rattle.ca_base.specs.objects.QueuePair.{QueuePair}
use Rattle.ca_base.specs.objects.StateTable.{is_path_mtu, state_eq}
use Rattle.ca_base.specs.objects.WorkQueue.{items_from}
use Rattle.ca_keys.specs.Refusals.{first_of}
use Rattle.ca_law_parts.proofs.Numbers.NumberLemmas.{segments-few}
use Rattle.ca_law_world.proofs.Steady.SendLemmas.{psns-some}
use Rattle.ca_law_world.proofs.Sound.NumberingLemmas.{IsShort, next-short}
use Rattle.ca_law_world.proofs.Sound.TurnLemmas.{turn_from}
use Rattle.ca_model.specs.Requests.{is_local, list_length, list_of, psns_of}
use Rattle.ca_model.specs.machine.Invariants.{IsQueue, is_sending}
use Rattle.ca_model.specs.machine.Numbering.{Numbered, begun_requests, has_psn, is_answered_op, is_read, next_to_begin, numbers_of, psn_end, request_at, unfinished_requests}
use Rattle.ca_model.specs.machine.Requester.{answers_between, begins, end_of_packet, is_fenced, is_too_much, next_request, packets_between, psns_between, turn_of, turn_refusals}
use Rattle.ca_law_scripts.proofs.Rest.TurnLemmas.{first-none}

or-false : (a b : Bool) → a ≡ false → b ≡ false → (a || b) ≡ false
or-false false false is so = refl
or-false true b is so = absurd (true≢false is)
or-false false true is so = absurd (true≢false so)

and-false : (a b : Bool) → b ≡ false → (a && b) ≡ false
and-false true b is = is
and-false false b is = refl

not-above : (a b : ℕ) → b ≤ a → nat_lt a b ≡ false
not-above a b few = grind (arith, nat_tests, few)

-- ---- what is outstanding with one packet

-- a READ takes at most 4096
read-few : (mtu : ℕ) (op : SendOp) → is_path_mtu mtu ≡ true → list_length (list_of op) ≤ MAX_MESSAGE_BYTES → is_read op ≡ true → psns_of mtu op ≤ 4096
read-few mtu (ops.Send list) path few is = absurd cc
read-few mtu (ops.SendImm imm list) path few is = absurd cc
read-few mtu (ops.SendInv key list) path few is = absurd cc
read-few mtu (ops.Write address key list) path few is = absurd cc
read-few mtu (ops.WriteImm address key imm list) path few is = absurd cc
read-few mtu (ops.Read address key list) path few is = segments-few mtu (list_length list.items) path few
read-few mtu (ops.CmpSwap address key compare swap list) path few is = absurd cc
read-few mtu (ops.FetchAdd address key add list) path few is = absurd cc
read-few mtu (ops.Bind1 window region address length rights) path few is = absurd cc
read-few mtu (ops.Bind2 window region low address length rights) path few is = absurd cc
read-few mtu (ops.FastReg region low buffer address length rights pages) path few is = absurd cc
read-few mtu (ops.LocalInv key) path few is = absurd cc

-- what counts no more than PSNs
abbrev CountsPsns : (Numbered → ℕ) → ℕ → ℕ → Type 0
CountsPsns g from upto = (n : Numbered) → g n ≤ psns_between from upto n

packets-psns : (from upto : ℕ) → CountsPsns (packets_between from upto) from upto
packets-psns from upto n = by (is_read n.request.op)
  where
    by : (b : Bool) → (if b then min 1 (psns_between from upto n) else psns_between from upto n) ≤ psns_between from upto n
    by true = omega arith
    by false = omega arith

answers-psns : (from upto : ℕ) → CountsPsns (answers_between from upto) from upto
answers-psns from upto n = by (is_answered_op n.request.op)
  where
    by : (b : Bool) → (if b then min 1 (psns_between from upto n) else 0) ≤ psns_between from upto n
    by true = omega arith
    by false = omega arith

-- behind the PSNs that are counted there are none
later-none : (g : Numbered → ℕ) (from upto : ℕ) → CountsPsns g from upto → (mtu place psn : ℕ) (ps : List PostedSend) → upto ≤ psn → sum_by g (numbers_of mtu place psn ps) ≡ 0
later-none g from upto counts mtu place psn [] behind = refl
later-none g from upto counts mtu place psn (p ∷ ps) behind = omega (
  arith,
  behind,
  sum_by-cons g n (numbers_of mtu (suc place) (psn + psns_of mtu p.request.op) ps),
  counts n,
  later-none g from upto counts mtu (suc place) (psn + psns_of mtu p.request.op) ps (omega (arith, behind)),
)
  where
    n : Numbered
    n = record { place = place; request = p.request; drawn = p.drawn; first = psn; count = psns_of mtu p.request.op }

packets-one : (from upto : ℕ) (n : Numbered) → (is_read n.request.op ≡ false → upto ≤ suc from) → packets_between from upto n ≤ 1
packets-one from upto n plain = by (is_read n.request.op) refl
  where
    by : (b : Bool) → is_read n.request.op ≡ b → (if b then min 1 (psns_between from upto n) else psns_between from upto n) ≤ 1
    by true is = omega arith
    by false is = omega (arith, plain is)

answers-one : (from upto : ℕ) (n : Numbered) → answers_between from upto n ≤ 1
answers-one from upto n = by (is_answered_op n.request.op)
  where
    by : (b : Bool) → (if b then min 1 (psns_between from upto n) else 0) ≤ 1
    by true = omega arith
    by false = omega arith

-- the first unfinished request of a queue pair with this one in front
abbrev pub first_numbered : QueuePair → PostedSend → Numbered
first_numbered q p = record {
  place = q.requester.oldest;
  request = p.request;
  drawn = p.drawn;
  first = q.requester.oldest_psn;
  count = psns_of q.responder.mtu p.request.op;
}

-- the unfinished ones behind it
abbrev pub numbered_behind : QueuePair → PostedSend → List PostedSend → List Numbered
numbered_behind q p ps = numbers_of q.responder.mtu (suc q.requester.oldest) (q.requester.oldest_psn + psns_of q.responder.mtu p.request.op) ps

pub unfinished-are : (q : QueuePair) (p : PostedSend) (ps : List PostedSend) → items_from q.requester.oldest q.sends ≡ p ∷ ps → unfinished_requests q ≡ first_numbered q p ∷ numbered_behind q p ps
unfinished-are q p ps are = ap (numbers_of q.responder.mtu q.requester.oldest q.requester.oldest_psn) are

-- with nothing outstanding a packet of the first unfinished request is not too much
pub first-few : (q : QueuePair) (p : PostedSend) (ps : List PostedSend) → items_from q.requester.oldest q.sends ≡ p ∷ ps → IsQueue q → q.requester.una ≡ q.requester.cursor
    → q.requester.oldest_psn ≤ q.requester.una → q.requester.cursor < psn_end (first_numbered q p) → 0 < q.requester.reads → next_request q ≡ Some (first_numbered q p)
    → is_too_much q (first_numbered q p) ≡ false
first-few q p ps are sound none low high reads next =
    or-false _ _ (or-false _ _ (not-above MAX_OUTSTANDING_PSNS (upto - una) (omega (arith, reach (is_read p.request.op) refl)))
    (not-above MAX_OUTSTANDING_PACKETS (sum_by (packets_between una upto) (unfinished_requests q)) (omega (arith, count (packets_between una upto) (packets-psns una upto) (packets-one una upto n plain)))))
    (not-above q.requester.reads (sum_by (answers_between una upto) (unfinished_requests q)) (omega (arith, reads, count (answers_between una upto) (answers-psns una upto) (answers-one una upto n))))
  where
    n : Numbered
    n = first_numbered q p

    una : ℕ
    una = q.requester.una

    upto : ℕ
    upto = end_of_packet q n

    short : IsShort n
    short = subst (λ o. IfSome o IsShort) next (next-short q sound)

    reach : (b : Bool) → is_read p.request.op ≡ b → (if b then psn_end n else suc q.requester.cursor) - una ≤ 4096
    reach true is = omega (arith, low, read-few q.responder.mtu p.request.op sound.responder.mtu short.bytes is)
    reach false is = omega (arith, none)

    within : (b : Bool) → (if b then psn_end n else suc q.requester.cursor) ≤ psn_end n
    within true = omega arith
    within false = omega (arith, high)

    plain : is_read p.request.op ≡ false → upto ≤ suc una
    plain is = omega (arith, none, ap (λ b. if b then psn_end n else suc q.requester.cursor) is)

    count : (g : Numbered → ℕ) → CountsPsns g una upto → g n ≤ 1 → sum_by g (unfinished_requests q) ≤ 1
    count g counts one = omega (
      arith,
      one,
      ap (sum_by g) (unfinished-are q p ps are),
      sum_by-cons g n (numbered_behind q p ps),
      later-none g una upto counts q.responder.mtu (suc q.requester.oldest) (q.requester.oldest_psn + psns_of q.responder.mtu p.request.op) ps (within (is_read p.request.op)),
    )

-- the first unfinished request ends behind the cursor, where none has begun
pub first-ends : (q : QueuePair) (p : PostedSend) → q.requester.cursor ≤ q.requester.oldest_psn → is_local p.request.op ≡ false → q.requester.cursor < psn_end (first_numbered q p)
first-ends q p low is = omega (arith, low, psns-some q.responder.mtu p.request.op is)

-- ---- whose turn it is

-- the turn is one of this request
pub record IsNext (q : QueuePair) (n : Numbered) : Type 0 where
  pub turn : turn_of q ≡ turn_from None (Some n)
  pub next : next_request q ≡ Some n

next-turn : (q : QueuePair) (n : Numbered) → next_request q ≡ Some n → (not (is_sending q.state) || (state_eq q.state states.Sqd && begins q)) ≡ false → q.requester.waiting ≡ false → is_fenced q ≡ false → IsNext q n
next-turn q n next state calm fence = record { turn = ap (λ r. turn_from r (next_request q)) none ∙ ap (turn_from None) next; next = next }
  where
    fenced : List (Bool × Reason)
    fenced = (is_fenced q, reasons.Fence) ∷ []

    empty : List (Bool × Reason)
    empty = (is_none (next_request q), reasons.Empty) ∷ fenced

    waits : List (Bool × Reason)
    waits = (q.requester.waiting, reasons.RnrWait) ∷ empty

    none : first_of (turn_refusals q) ≡ None
    none = first-none (not (is_sending q.state) || (state_eq q.state states.Sqd && begins q)) reasons.State waits state
        (first-none q.requester.waiting reasons.RnrWait empty calm
        (first-none (is_none (next_request q)) reasons.Empty fenced (ap is_none next) (first-none (is_fenced q) reasons.Fence [] fence refl)))

-- a request that begins has to wait
abbrev waits_for : QueuePair → Numbered → Bool
waits_for q n =
    (is_local n.request.op && nat_lt q.requester.oldest q.requester.next)
    || (n.request.fence && list_any (λ m. is_answered_op m.request.op) (begun_requests q))

-- one that has begun goes on
pub goes-on : (q : QueuePair) (n : Numbered) (ns : List Numbered) → begun_requests q ≡ n ∷ ns → has_psn q.requester.cursor n ≡ true → is_sending q.state ≡ true → q.requester.waiting ≡ false → IsNext q n
goes-on q n ns begun has sends calm = next-turn q n
    (ap (λ o. option_or o (next_to_begin q)) at)
    (or-false _ _ (ap not sends) (and-false (state_eq q.state states.Sqd) (begins q) goes))
    calm
    (ap (λ b. b && option_map_or (waits_for q) (next_to_begin q) false) goes)
  where
    at : request_at q.requester.cursor q ≡ Some n
    at = ap (find (has_psn q.requester.cursor)) begun ∙ ap (λ b. if b then Some n else find (has_psn q.requester.cursor) ns) has

    goes : begins q ≡ false
    goes = ap (λ o. is_none o && is_some (next_to_begin q)) at

none-taken : {A : Type 0} (k : ℕ) (x : A) (xs : List A) → take k (x ∷ xs) ≡ [] → k ≡ 0
none-taken zero x xs none = refl
none-taken (suc k) x xs none = absurd cc

-- where none has begun, the first one begins
pub begins-first : (q : QueuePair) (n : Numbered) (ns : List Numbered) → begun_requests q ≡ [] → unfinished_requests q ≡ n ∷ ns → is_sending q.state ≡ true → state_eq q.state states.Sqd ≡ false
    → q.requester.waiting ≡ false → IsNext q n
begins-first q n ns begun unfinished sends drains calm = next-turn q n
    (ap (λ o. option_or o (next_to_begin q)) at ∙ next)
    (or-false _ _ (ap not sends) (ap (λ b. b && begins q) drains))
    calm
    (and-false (begins q) _ (ap (λ o. option_map_or (waits_for q) o false) next ∙ or-false _ _ (and-false (is_local n.request.op) _ first)
    (and-false n.request.fence _ (ap (list_any (λ m. is_answered_op m.request.op)) begun))))
  where
    k : q.requester.next - q.requester.oldest ≡ 0
    k = none-taken (q.requester.next - q.requester.oldest) n ns (ap (take (q.requester.next - q.requester.oldest)) (sym unfinished) ∙ begun)

    at : request_at q.requester.cursor q ≡ None
    at = ap (find (has_psn q.requester.cursor)) begun

    next : next_to_begin q ≡ Some n
    next = ap (λ ms. slice_get ms (q.requester.next - q.requester.oldest)) unfinished ∙ ap (slice_get (n ∷ ns)) k

    first : nat_lt q.requester.oldest q.requester.next ≡ false
    first = not-above q.requester.oldest q.requester.next (omega (arith, k))
