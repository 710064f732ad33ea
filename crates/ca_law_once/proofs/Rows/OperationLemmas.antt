-- A local operation, which takes no number, leaves the requester's numbers.
use Rattle.std.proofs.Common.{◌≡◌, ℕ, suc, ◌+◌, ◌-◌, ◌≤◌, ◌&&◌, ◌||◌, Bool, true, false, nat_lt, if◌then◌else◌, drop, Option, None, Some, IfSome, is_none, is_some, refl, ap, ap₂, sym, subst, ◌∙◌, arith, true≢false}
use Rattle.std.proofs.lemmas.Bool.{ltb-false, or_parts}
use Rattle.std.proofs.lemmas.List.{drop-drop}
use Rattle.std.proofs.lemmas.Option.{same_Some}
use Rattle.std.specs.List.{list_any}
use Rattle.std.specs.Option.{option_map_or, option_or}
use Rattle.ca_base.specs.declared.completion.WcStatus.TheVariants.{MemoryManagement}
use Rattle.ca_base.specs.declared.refusals.OpRefusal.{OpRefusal}
use Rattle.ca_base.specs.declared.request.SendOp.{SendOp}
use Rattle.ca_base.specs.declared.request.SendOp.TheVariants as ops
use Rattle.ca_base.specs.declared.step.Reason.{Reason}
use Rattle.ca_base.specs.objects.LocalRequest.{LocalMarks}
use Rattle.ca_base.specs.objects.QueuePair.{QueuePair}
use Rattle.ca_base.specs.objects.WorkQueue.{items_from}
use Rattle.ca_connection.specs.Layout.{Direction, first, psns}
use Rattle.ca_connection.specs.Layout.Work.{Local}
use Rattle.ca_keys.specs.Refusals.{first_of}
use Rattle.ca_law_world.proofs.Sound.NumberingLemmas.{all-got}
use Rattle.ca_law_world.proofs.Sound.TurnLemmas.{NoReason, sending-parts, turn_from}
use Rattle.ca_model.specs.Requests.{is_local}
use Rattle.ca_model.specs.machine.Invariants.{IsQueue, is_sending}
use Rattle.ca_model.specs.machine.LocalOperations.{after_operation, operation_effects}
use Rattle.ca_model.specs.machine.Numbering.{Numbered, begun_requests, is_answered_op, next_to_begin, request_at, unfinished_requests}
use Rattle.ca_model.specs.machine.Requester.{Performs, RequestTurn, Sends, Waits, is_fenced, next_request, turn_of, turn_refusals}
use Rattle.ca_law_once.proofs.Rows.ForgetLemmas.{Forgets, failure-forgets, stays}
use Rattle.ca_law_once.proofs.Rows.LayLemmas.{LiesAt, all-lie, drop-work, unfinished-lie}
use Rattle.ca_law_once.proofs.Rows.PacketRowLemmas.{got-place}
use Rattle.ca_law_once.proofs.Rows.ResponseRowLemmas.{IsRequestAt, request-found}
use Rattle.ca_law_once.specs.Moves.{StaysIn}
use Rattle.ca_law_once.specs.Sides.{IsLaid, IsWork, requester_in, work_of}

local-work : (op : SendOp) → is_local op ≡ true → work_of op ≡ Local
local-work (ops.Send list) e = absurd (true≢false (sym e))
local-work (ops.SendImm imm list) e = absurd (true≢false (sym e))
local-work (ops.SendInv key list) e = absurd (true≢false (sym e))
local-work (ops.Write address key list) e = absurd (true≢false (sym e))
local-work (ops.WriteImm address key imm list) e = absurd (true≢false (sym e))
local-work (ops.Read address key list) e = absurd (true≢false (sym e))
local-work (ops.CmpSwap address key compare swap list) e = absurd (true≢false (sym e))
local-work (ops.FetchAdd address key add list) e = absurd (true≢false (sym e))
local-work (ops.Bind1 window region address count rights) e = refl
local-work (ops.Bind2 window region low address count rights) e = refl
local-work (ops.FastReg region low buffer address count rights pages) e = refl
local-work (ops.LocalInv key) e = refl

abbrev performed : RequestTurn → Option Numbered
performed (Performs n) = Some n
performed (Sends n) = None
performed (Waits reason) = None

performs-parts : (r : Option Reason) (o : Option Numbered) (n : Numbered) → turn_from r o ≡ Performs n → NoReason r × (o ≡ Some n) × (is_local n.request.op ≡ true)
performs-parts (Some reason) o n e = absurd (true≢false (sym (ap (λ t. is_some (performed t)) e)))
performs-parts None None n e = absurd (true≢false (sym (ap (λ t. is_some (performed t)) e)))
performs-parts None (Some m) n e = by (is_local m.request.op) refl e
  where
    by : (b : Bool) → is_local m.request.op ≡ b → (if b then Performs m else Sends m) ≡ Performs n → NoReason None × (Some m ≡ Some n) × (is_local n.request.op ≡ true)
    by true is e = (refl, ap performed e, subst (λ x. is_local x.request.op ≡ true) (same_Some m n (ap performed e)) is)
    by false is e = absurd (true≢false (sym (ap (λ t. is_some (performed t)) e)))

-- a local operation has no number
no-number : (d : Direction) (n : Numbered) → LiesAt d n → is_local n.request.op ≡ true → first d (suc n.place) ≡ first d n.place
no-number d n lies local = omega (arith, ap (psns d.mtu) (lies.work ∙ local-work n.request.op local))

record IsLone (d : Direction) (q : QueuePair) (n : Numbered) : Type 0 where
  place : n.place ≡ q.requester.oldest
  lies : LiesAt d n

lone : (d : Direction) (q : QueuePair) (n : Numbered) → IsQueue q → (is_sending q.state ≡ true → IsLaid d q) → turn_of q ≡ Performs n → (is_sending q.state ≡ true) × (is_local n.request.op ≡ true) × IsLone d q n
lone d q n s laid turn = by (performs-parts (first_of (turn_refusals q)) (next_request q) n turn)
  where
    waits : Numbered → Bool
    waits n =
        (is_local n.request.op && nat_lt q.requester.oldest q.requester.next)
        || (n.request.fence && list_any (λ m. is_answered_op m.request.op) (begun_requests q))

    k : ℕ
    k = q.requester.next - q.requester.oldest

    new : is_local n.request.op ≡ true → is_fenced q ≡ false → IsLaid d q → request_at q.requester.cursor q ≡ None → next_to_begin q ≡ Some n → IsLone d q n
    new local free l none at = record {
      place = omega (arith, there, s.requester.begun, alone);
      lies = subst (λ o. IfSome o (LiesAt d)) at (all-got (LiesAt d) (unfinished_requests q) k (all-lie d q.requester.oldest (unfinished_requests q) (unfinished-lie d q l)));
    }
      where
        there : n.place ≡ q.requester.oldest + k
        there = subst (λ o. IfSome o (λ n. n.place ≡ q.requester.oldest + k)) at (got-place d q.requester.oldest k (unfinished_requests q) (unfinished-lie d q l))

        waits_not : waits n ≡ false
        waits_not = ap₂ (λ x y. (is_none x && is_some y) && option_map_or waits y false) (sym none) (sym at) ∙ free

        alone : q.requester.next ≤ q.requester.oldest
        alone = ltb-false q.requester.oldest q.requester.next (ap (λ x. x && nat_lt q.requester.oldest q.requester.next) (sym local)
            ∙ (or_parts (is_local n.request.op && nat_lt q.requester.oldest q.requester.next) (n.request.fence && list_any (λ m. is_answered_op m.request.op) (begun_requests q)) waits_not).0)

    found : is_local n.request.op ≡ true → is_fenced q ≡ false → IsLaid d q → (o : Option Numbered) → request_at q.requester.cursor q ≡ o → IfSome o (IsRequestAt d q.requester.cursor) → option_or o (next_to_begin q) ≡ Some n → IsLone d q n
    found local free l None is there e = new local free l is e
    found local free l (Some m) is there e = absurd (omega (arith, has.number.from, has.number.below, no-number d n has.lies local))
      where
        has : IsRequestAt d q.requester.cursor n
        has = subst (λ o. IfSome o (IsRequestAt d q.requester.cursor)) e there

    by : NoReason (first_of (turn_refusals q)) × (next_request q ≡ Some n) × (is_local n.request.op ≡ true) → (is_sending q.state ≡ true) × (is_local n.request.op ≡ true) × IsLone d q n
    by parts = (sending.0, parts.2, found parts.2 sending.1 (laid sending.0) (request_at q.requester.cursor q) refl (request-found d q.requester.cursor q (laid sending.0)) parts.1)
      where
        sending : (is_sending q.state ≡ true) × (is_fenced q ≡ false)
        sending = sending-parts q parts.0

pub operation-stays : (d : Direction) (q : QueuePair) (n : Numbered) (windows : ℕ) (m : LocalMarks) (refusal : Option OpRefusal) → IsQueue q → (is_sending q.state ≡ true → IsLaid d q) → turn_of q ≡ Performs n
    → StaysIn d (requester_in q) (operation_effects q n (record q { windows = windows }) m refusal)
operation-stays d q n windows m (Some cause) s laid turn = record { requester = refl; laid = λ e. absurd (true≢false (sym e)) }
operation-stays d q n windows m None s laid turn = by (lone d q n s laid turn)
  where
    after : QueuePair
    after = after_operation n (record q { windows = windows })

    by : (is_sending q.state ≡ true) × (is_local n.request.op ≡ true) × IsLone d q n → StaysIn d (requester_in q) (operation_effects q n (record q { windows = windows }) m None)
    by parts = record { requester = refl; laid = λ e. is_laid (laid parts.0) }
      where
        items : IsLaid d q → drop 1 (items_from q.requester.oldest q.sends) ≡ items_from (suc n.place) q.sends
        items l = drop-drop 1 (q.requester.oldest - q.sends.first) q.sends.items ∙ ap (λ i. drop i q.sends.items) (omega (arith, s.requester.finished, parts.2.place))

        is_laid : IsLaid d q → IsLaid d after
        is_laid l = record {
          mtu = l.mtu;
          begin = omega (arith, l.begin, no-number d n parts.2.lies parts.1, ap (first d) parts.2.place, ap (λ m. first d (suc m)) parts.2.place);
          work = subst (λ ps. IsWork d (suc n.place) ps) (items l) (drop-work d 1 q.requester.oldest (suc n.place) (items_from q.requester.oldest q.sends) (omega (arith, parts.2.place)) l.work);
          passed = l.passed;
        }

pub operation-forgets : (q : QueuePair) (n : Numbered) (windows : ℕ) (m : LocalMarks) (refusal : Option OpRefusal) → Forgets q (operation_effects q n (record q { windows = windows }) m refusal).queue
operation-forgets q n windows m (Some cause) = failure-forgets q q MemoryManagement (Some cause) (record { responder = refl; saved = refl; state = refl })
operation-forgets q n windows m None = stays (record { responder = refl; saved = refl; state = refl })
