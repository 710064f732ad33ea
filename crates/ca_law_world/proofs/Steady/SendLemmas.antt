-- A packet that is sent, and a local operation, leave a queue pair steady. For proofs only.
use Rattle.std.proofs.Common.{◌≡◌, ℕ, zero, suc, ◌+◌, ◌-◌, ◌<◌, ◌&&◌, Bool, true, false, not, if◌then◌else◌, List, [], ◌∷◌, ◌++◌, take, Option, None, Some, is_none, slice_get, refl, ap, sym, ◌∙◌, subst, arith, true≢false}
use Rattle.std.specs.List.{AllByRecursion}
use Rattle.std.specs.Option.{option_or}
use Rattle.std.proofs.lemmas.Option.{same_Some}
use Rattle.ca_base.specs.declared.denied_ask.DeniedAsk.{DeniedAsk}
use Rattle.ca_base.specs.declared.completion.WcStatus.TheVariants.{LocalProtection, MemoryManagement}
use Rattle.ca_base.specs.declared.refusals.OpRefusal.{OpRefusal}
use Rattle.ca_base.specs.declared.request.SendOp.{SendOp}
use Rattle.ca_base.specs.declared.request.SendOp.TheVariants as ops
use Rattle.ca_base.specs.objects.LocalRequest.{LocalMarks}
use Rattle.ca_base.specs.objects.QueuePair.{QueuePair}
use Rattle.ca_base.specs.objects.WorkQueue.{items_from}
use Rattle.ca_keys.specs.Refusals.{first_of}
use Rattle.ca_keys.specs.declared.key.Key.{Key}
use Rattle.ca_law_world.proofs.Sound.NumberingLemmas.{Numbers, are-numbers, count_sum}
use Rattle.ca_law_world.proofs.Sound.TurnLemmas.{sending-parts, sends-parts}
use Rattle.ca_law_world.proofs.Sound.WorldLemmas.{EndingDoes, RowDoes}
use Rattle.ca_model.specs.Requests.{is_local, psns_of}
use Rattle.ca_model.specs.machine.Acknowledgements.{failure_effects}
use Rattle.ca_model.specs.machine.Invariants.{IsQueue, is_sending}
use Rattle.ca_model.specs.machine.LocalOperations.{invalidate_row, operation_effects}
use Rattle.ca_model.specs.machine.Numbering.{Numbered, begun_requests, next_to_begin, psn_end, request_at, unfinished_requests}
use Rattle.ca_model.specs.machine.Requester.{Sends, begins, end_of_packet, is_outstanding, is_too_much, next_request, packet_row, sent_packet, turn_of, turn_refusals}
use Rattle.ca_model.specs.machine.Row.{Does, Effects, Ending, NotPossible, Row}
use Rattle.ca_law_world.proofs.Steady.RowLemmas.{Keeps, failed}
use Rattle.ca_law_world.specs.Steady.{EndsBehind, IsSteadyQueue}

-- effects that leave the queue pair steady
abbrev pub Steadies : Effects → Type 0
Steadies e = IsSteadyQueue e.queue

ending-steadies : (e : Ending) → EndingDoes Keeps e → EndingDoes Steadies e
ending-steadies (NotPossible reason) k = record {}
ending-steadies (Does e) k = k.is

pub row-steadies : (r : Row) → RowDoes Keeps r → RowDoes Steadies r
row-steadies r k = record { denied = λ d. ending-steadies (r.denied d) (k.denied d); allowed = λ bytes refusal. ending-steadies (r.allowed bytes refusal) (k.allowed bytes refusal) }

-- a request that has packets takes a PSN
pub psns-some : (mtu : ℕ) (op : SendOp) → is_local op ≡ false → 0 < psns_of mtu op
psns-some mtu (ops.Send list) is = omega arith
psns-some mtu (ops.SendImm imm list) is = omega arith
psns-some mtu (ops.SendInv key list) is = omega arith
psns-some mtu (ops.Write address key list) is = omega arith
psns-some mtu (ops.WriteImm address key imm list) is = omega arith
psns-some mtu (ops.Read address key list) is = omega arith
psns-some mtu (ops.CmpSwap address key compare swap list) is = omega arith
psns-some mtu (ops.FetchAdd address key add list) is = omega arith
psns-some mtu (ops.Bind1 window region address length rights) is = absurd (true≢false is)
psns-some mtu (ops.Bind2 window region low address length rights) is = absurd (true≢false is)
psns-some mtu (ops.FastReg region low buffer address length rights pages) is = absurd (true≢false is)
psns-some mtu (ops.LocalInv key) is = absurd (true≢false is)

-- ---- one more request begins

take-next : {A : Type 0} (k : ℕ) (xs : List A) (x : A) → slice_get xs k ≡ Some x → take (suc k) xs ≡ take k xs ++ (x ∷ [])
take-next k [] x at = absurd cc
take-next zero (y ∷ ys) x at = ap (λ z. z ∷ []) (same_Some y x at)
take-next (suc k) (y ∷ ys) x at = ap (λ t. y ∷ t) (take-next k ys x at)

all-append : {A : Type 0} (P : A → Type 0) (xs ys : List A) → AllByRecursion P xs → AllByRecursion P ys → AllByRecursion P (xs ++ ys)
all-append P [] ys one other = other
all-append P (x ∷ xs) ys one other = (one.0, all-append P xs ys one.1 other)

ends-append : (una : ℕ) (ns : List Numbered) (n : Numbered) → EndsBehind una ns → (ns ≡ [] → una < psn_end n) → EndsBehind una (ns ++ (n ∷ []))
ends-append una [] n ends new = new refl
ends-append una (m ∷ ms) n ends new = ends

-- where none has begun the next is the first
first-numbered : (mtu place psn k : ℕ) (ns : List Numbered) (n : Numbered) → Numbers mtu place psn ns → take k ns ≡ [] → slice_get ns k ≡ Some n → psn_end n ≡ psn + psns_of mtu n.request.op
first-numbered mtu place psn k [] n all none at = absurd cc
first-numbered mtu place psn zero (m ∷ ms) n all none at = subst (λ x. psn_end x ≡ psn + psns_of mtu x.request.op) (same_Some m n at) (omega (arith, all.0.1, all.0.2))
first-numbered mtu place psn (suc k) (m ∷ ms) n all none at = absurd cc

and-first : (a b : Bool) → (a && b) ≡ true → a ≡ true
and-first true b is = refl
and-first false b is = is

none-is : {A : Type 0} (o : Option A) → is_none o ≡ true → o ≡ None
none-is None is = refl
none-is (Some x) is = absurd (true≢false (sym is))

sent-steady : (q : QueuePair) (n : Numbered) (bytes : List (List ℕ)) → IsQueue q → IsSteadyQueue q → turn_of q ≡ Sends n → IsSteadyQueue (sent_packet q n bytes).queue
sent-steady q n bytes sound s turn = by (begins q) refl
  where
    after : Bool → QueuePair
    after b = record q { requester = record q.requester { cursor = end_of_packet q n; next = if b then suc q.requester.next else q.requester.next } }

    next : next_request q ≡ Some n
    next = (sends-parts (first_of (turn_refusals q)) (next_request q) n turn).1

    packet : is_local n.request.op ≡ false
    packet = (sends-parts (first_of (turn_refusals q)) (next_request q) n turn).2

    sends : is_sending q.state ≡ true
    sends = (sending-parts q (sends-parts (first_of (turn_refusals q)) (next_request q) n turn).0).0

    k : ℕ
    k = q.requester.next - q.requester.oldest

    more : begins q ≡ true → IsSteadyQueue (after true)
    more is = record {
      unfinished = s.unfinished;
      oldest = s.oldest;
      reads = s.reads;
      ends = subst (EndsBehind q.requester.una) (sym begun) (ends-append q.requester.una (begun_requests q) n s.ends new);
      packets = subst (AllByRecursion (λ m. is_local m.request.op ≡ false)) (sym begun) (all-append _ (begun_requests q) (n ∷ []) s.packets (packet, record {}));
    }
      where
        at : next_to_begin q ≡ Some n
        at = ap (λ o. option_or o (next_to_begin q)) (sym (none-is (request_at q.requester.cursor q) (and-first _ _ is))) ∙ next

        begun : begun_requests (after true) ≡ begun_requests q ++ (n ∷ [])
        begun = ap (λ i. take i (unfinished_requests q)) {y = suc (q.requester.next - q.requester.oldest)} (omega (arith, sound.requester.begun))
            ∙ take-next (q.requester.next - q.requester.oldest) (unfinished_requests q) n at

        new : begun_requests q ≡ [] → q.requester.una < psn_end n
        new none = omega (
          arith,
          sound.requester.outstanding,
          sound.begun sends,
          ap count_sum none,
          psns-some q.responder.mtu n.request.op packet,
          first-numbered q.responder.mtu q.requester.oldest q.requester.oldest_psn (q.requester.next - q.requester.oldest) (unfinished_requests q) n
              (are-numbers q.responder.mtu q.requester.oldest q.requester.oldest_psn (items_from q.requester.oldest q.sends)) none at,
        )

    by : (b : Bool) → begins q ≡ b → IsSteadyQueue (after b)
    by true is = more is
    by false is = record { unfinished = s.unfinished; oldest = s.oldest; reads = s.reads; ends = s.ends; packets = s.packets }

cond-ending : (b : Bool) (x y : Ending) → EndingDoes Steadies x → EndingDoes Steadies y → EndingDoes Steadies (if b then x else y)
cond-ending true x y one other = one
cond-ending false x y one other = other

cond-row : (b : Bool) (r s : Row) → RowDoes Steadies r → RowDoes Steadies s → RowDoes Steadies (if b then r else s)
cond-row true r s one other = one
cond-row false r s one other = other

pub packet-steadies : (q : QueuePair) (room : Bool) (n : Numbered) → IsQueue q → IsSteadyQueue q → turn_of q ≡ Sends n → RowDoes Steadies (packet_row q room n)
packet-steadies q room n sound s turn = cond-row (is_too_much q n) _ _ (record { denied = λ d. record {}; allowed = λ bytes refusal. record {} }) (record {
  denied = λ d. cond-ending (is_outstanding q) _ _ (record {}) (cond-ending (not room) _ _ (record {}) (denied d));
  allowed = λ bytes refusal. cond-ending (not room) _ _ (record {}) (sent-steady q n bytes sound s turn);
})
  where
    f : Keeps (failure_effects LocalProtection None q)
    f = failed LocalProtection None q

    denied : (d : DeniedAsk) → IsSteadyQueue (failure_effects LocalProtection None q).queue
    denied d = f.is

-- ---- a local operation

pub operation-steady : (q : QueuePair) (n : Numbered) (windows : ℕ) (m : LocalMarks) (refusal : Option OpRefusal) → is_sending q.state ≡ true → IsSteadyQueue q
    → Steadies (operation_effects q n (record q { windows = windows }) m refusal)
operation-steady q n windows m (Some cause) sends s = f.is
  where
    f : Keeps (failure_effects MemoryManagement (Some cause) q)
    f = failed MemoryManagement (Some cause) q
operation-steady q n windows m None sends s = record {
  unfinished = λ is. absurd (true≢false (sym sends ∙ is));
  oldest = s.oldest;
  reads = s.reads;
  ends = subst (EndsBehind q.requester.una) (sym none) (record {});
  packets = subst (AllByRecursion (λ x. is_local x.request.op ≡ false)) (sym none) (record {});
}
  where
    p : QueuePair
    p = record q { windows = windows; requester = record q.requester { oldest = suc n.place; next = suc n.place } }

    none : begun_requests p ≡ []
    none = ap (λ i. take i (unfinished_requests p)) {y = 0} (omega arith)

pub invalidate-steadies : (q : QueuePair) (n : Numbered) (key : Key) → is_sending q.state ≡ true → IsSteadyQueue q → RowDoes Steadies (invalidate_row q n key)
invalidate-steadies q n key sends s = record {
  denied = λ d. s;
  allowed = λ bytes refusal. operation-steady q n _ (record { revoked = Some key; granted = None }) refusal sends s;
}
