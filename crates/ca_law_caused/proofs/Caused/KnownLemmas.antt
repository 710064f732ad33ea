-- What a past knows of a queue pair that sends, and how its progress goes on: the requests that the machine numbers are
-- those that were posted. For proofs only.
use Rattle.std.proofs.Common.{◌≡◌, ℕ, zero, suc, ◌+◌, ◌-◌, ◌≤◌, ◌==◌, ◌&&◌, nat_lt, max, Bool, true, false, not, if◌then◌else◌, List, [], ◌∷◌, map, take, drop, sum_by, find, Option, None, Some, is_some, length, refl, ap, sym, ◌∙◌, arith, true≢false}
use Rattle.std.proofs.lemmas.Bool.Decides.{nat_tests}
use Rattle.std.proofs.lemmas.Bool.{and_parts, eqb-true}
use Rattle.std.proofs.lemmas.Option.{same_Some}
use Rattle.std.proofs.lemmas.List.Sums.{sum_by-cons}
use Rattle.std.specs.List.{list_all}
use Rattle.std.specs.Option.{option_map, option_map_or}
use Rattle.ca_law_keys.specs.Posts.{as_posted}
use Rattle.ca_base.specs.Equal.{operation_eq}
use Rattle.ca_base.specs.declared.completion.WcOp.TheVariants as operations
use Rattle.ca_base.specs.declared.limits.TheConstants.{MAX_RETRY}
use Rattle.ca_base.specs.declared.request.PostedSend.{PostedSend}
use Rattle.ca_base.specs.declared.request.SendOp.{SendOp}
use Rattle.ca_base.specs.declared.request.SendOp.TheVariants as ops
use Rattle.ca_base.specs.objects.QueuePair.{QueuePair}
use Rattle.ca_base.specs.objects.WorkQueue.{items_from}
use Rattle.ca_keys.specs.Equal.{bool_eq}
use Rattle.ca_model.specs.Packets.{is_last_read_response, is_response}
use Rattle.ca_model.specs.Past.{Posted, is_atomic}
use Rattle.ca_model.specs.Progress.{Progress, Response, acknowledged_below, after_response, after_response_packet, counted, implied_nak, is_answered_alone, raised, response_in, with_retry}
use Rattle.ca_model.specs.Requests.{list_length, list_of, operation_of, psns_of, segment_bytes}
use Rattle.ca_model.specs.machine.Acknowledgements.{first_unanswered}
use Rattle.ca_model.specs.machine.Invariants.{begun_end}
use Rattle.ca_model.specs.machine.Numbering.{Numbered, begun_requests, is_answered_op, is_atomic_op, is_read, numbers_of}
use Rattle.ca_model.specs.machine.Responses.{fits_request}
use Rattle.ca_model.specs.machine.Responses.{ends_read}
use Rattle.ca_wire.specs.Packet.{Fields}
use Rattle.ca_wire.specs.Shapes.{ends}
use Rattle.ca_wire.specs.Table.{Row, row_of, table}
use Rattle.ca_wire.specs.declared.opcode.TheConstants.{ATOMIC_ACKNOWLEDGE}
use Rattle.ca_wire.specs.declared.shape.Operation.{Operation}
use Rattle.ca_wire.specs.declared.shape.Operation.TheVariants.{ReadResponse, Request}
use Rattle.ca_psn.specs.Psn.{widened}

-- what happens to a queue pair: a packet arrives, its timer fires, or it has a turn
pub data Occasion : Type 0 where
  Arrives : Fields → Occasion
  Fires : Occasion
  Turns : Occasion

-- a timer fires
abbrev pub is_fired : Occasion → Bool
is_fired Fires = true
is_fired o = false

-- what a past knows of a queue pair as an event begins: what was posted to it, the whole number of the PSN that it begins
-- with, its path MTU, whether it sends, its progress, and its limits of retries
pub record Known : Type 0 where
  pub posted : List Posted
  pub begin : ℕ
  pub mtu : ℕ
  pub sending : Bool
  pub before : Progress
  pub retry : ℕ
  pub rnr_retry : ℕ

-- the first PSN of the request that was posted at a place
abbrev pub first_at : Known → ℕ → ℕ
first_at k place = k.begin + sum_by (λ p. psns_of k.mtu p.request.op) (take place k.posted)

abbrev pub ops_of : Known → List SendOp
ops_of k = map (λ p. p.request.op) k.posted

-- the progress that an event leaves
abbrev pub progress_after : Known → Occasion → Progress
progress_after k (Arrives p) = if is_response p.opcode then after_response_packet k.mtu k.begin (ops_of k) p k.before else k.before
progress_after k Fires = with_retry k.before
progress_after k Turns = k.before

-- a queue pair that has this progress
pub record IsOn (k : Known) (g : Progress) (x : QueuePair) : Type 0 where
  pub una : x.requester.una ≡ g.una
  pub retries : x.requester.retries ≡ g.retries
  pub rnrs : x.requester.rnrs ≡ g.rnrs
  pub retry : x.requester.retry ≡ k.retry
  pub rnr_retry : x.requester.rnr_retry ≡ k.rnr_retry
  pub mtu : x.responder.mtu ≡ k.mtu
  pub first : first_at k x.requester.oldest ≡ x.requester.oldest_psn
  pub patience : nat_lt x.requester.rnr_retry MAX_RETRY ≡ true → x.requester.rnrs ≤ x.requester.rnr_retry

-- what occupies its send queue from the oldest unfinished request on was posted last
abbrev pub IsListed : Known → QueuePair → Type 0
IsListed k q = items_from q.requester.oldest q.sends ≡ map as_posted (drop q.requester.oldest k.posted)

-- ---- an implied NAK

answered-alone : (op : SendOp) → is_answered_op op ≡ is_answered_alone op
answered-alone (ops.Send list) = refl
answered-alone (ops.SendImm imm list) = refl
answered-alone (ops.SendInv key list) = refl
answered-alone (ops.Write address key list) = refl
answered-alone (ops.WriteImm address key imm list) = refl
answered-alone (ops.Read address key list) = refl
answered-alone (ops.CmpSwap address key compare swap list) = refl
answered-alone (ops.FetchAdd address key add list) = refl
answered-alone (ops.Bind1 window region address length rights) = refl
answered-alone (ops.Bind2 window region low address length rights) = refl
answered-alone (ops.FastReg region low buffer address length rights pages) = refl
answered-alone (ops.LocalInv key) = refl

not-under : (a b : ℕ) → b ≤ a → nat_lt a b ≡ false
not-under a b low = grind (arith, nat_tests, low)

and-last : (a b : Bool) → b ≡ false → (a && b) ≡ false
and-last true b e = e
and-last false b e = refl

and-mid : (a b c : Bool) → b ≡ false → (a && b && c) ≡ false
and-mid true b c e = ap (λ z. z && c) e
and-mid false b c e = refl

-- nothing from a PSN on lies below it
none-beyond : (mtu una below first : ℕ) (xs : List SendOp) → below ≤ first → implied_nak mtu una below first xs ≡ None
none-beyond mtu una below first [] less = refl
none-beyond mtu una below first (op ∷ xs) less = ap (λ b. if b then Some (max una first) else implied_nak mtu una below (first + psns_of mtu op) xs)
    (and-last (is_answered_alone op && nat_lt una (first + psns_of mtu op)) _ (not-under (max una first) below (omega (arith, less))))
    ∙ none-beyond mtu una below (first + psns_of mtu op) xs (omega (arith, less))

-- what is finished implies none
skip-finished : (mtu una below first i : ℕ) (ps : List Posted) → first + sum_by (λ p. psns_of mtu p.request.op) (take i ps) ≤ una
    → implied_nak mtu una below first (map (λ p. p.request.op) ps) ≡ implied_nak mtu una below (first + sum_by (λ p. psns_of mtu p.request.op) (take i ps)) (map (λ p. p.request.op) (drop i ps))
skip-finished mtu una below first zero ps less = ap (λ n. implied_nak mtu una below n (map (λ (p : Posted). p.request.op) ps)) {x = first} {y = first + 0} (omega arith)
skip-finished mtu una below first (suc i) [] less = refl
skip-finished mtu una below first (suc i) (p ∷ ps) less = ap (λ b. if b then Some (max una first) else implied_nak mtu una below (first + psns_of mtu p.request.op) (map (λ (p : Posted). p.request.op) ps))
    (and-mid (is_answered_alone p.request.op) (nat_lt una (first + psns_of mtu p.request.op)) (nat_lt (max una first) below) (not-under una (first + psns_of mtu p.request.op) (omega (arith, less, sum_by-cons (λ (p : Posted). psns_of mtu p.request.op) p (take i ps)))))
    ∙ skip-finished mtu una below (first + psns_of mtu p.request.op) i ps (omega (arith, less, sum_by-cons (λ (p : Posted). psns_of mtu p.request.op) p (take i ps)))
    ∙ ap (λ n. implied_nak mtu una below n (map (λ (p : Posted). p.request.op) (drop i ps)))
    {x = first + psns_of mtu p.request.op + sum_by (λ p. psns_of mtu p.request.op) (take i ps)} {y = first + sum_by (λ p. psns_of mtu p.request.op) (p ∷ take i ps)} (omega (arith, sum_by-cons (λ (p : Posted). psns_of mtu p.request.op) p (take i ps)))

-- of what has begun the machine finds the same
same-begun : (mtu una below place first j : ℕ) (items : List PostedSend) → below ≤ first + sum_by (λ n. n.count) (take j (numbers_of mtu place first items))
    → first_unanswered una below (take j (numbers_of mtu place first items)) ≡ implied_nak mtu una below first (map (λ y. y.request.op) items)
same-begun mtu una below place first zero items less = sym (none-beyond mtu una below first (map (λ y. y.request.op) items) (omega (arith, less)))
same-begun mtu una below place first (suc j) [] less = refl
same-begun mtu una below place first (suc j) (y ∷ ys) less = ap (λ b. if b && nat_lt una (first + psns_of mtu y.request.op) && nat_lt (max una first) below then Some (max una first) else first_unanswered una below (take j (numbers_of mtu (suc place) (first + psns_of mtu y.request.op) ys)))
    (answered-alone y.request.op)
    ∙ ap (λ o. if is_answered_alone y.request.op && nat_lt una (first + psns_of mtu y.request.op) && nat_lt (max una first) below then Some (max una first) else o)
    (same-begun mtu una below (suc place) (first + psns_of mtu y.request.op) j ys (omega (arith, less, sum_by-cons (λ (n : Numbered). n.count) (record { place = place; request = y.request; drawn = y.drawn; first = first; count = psns_of mtu y.request.op }) (take j (numbers_of mtu (suc place) (first + psns_of mtu y.request.op) ys)))))

ops-posted : (ps : List Posted) → map (λ (y : PostedSend). y.request.op) (map as_posted ps) ≡ map (λ (p : Posted). p.request.op) ps
ops-posted [] = refl
ops-posted (p ∷ ps) = ap (λ xs. p.request.op ∷ xs) (ops-posted ps)

-- the machine and the past see the same implied NAK
pub implied-same : (k : Known) (q : QueuePair) (below : ℕ) → IsOn k k.before q → IsListed k q → q.requester.oldest_psn ≤ q.requester.una → below ≤ begun_end q
    → first_unanswered q.requester.una below (begun_requests q) ≡ implied_nak k.mtu k.before.una below k.begin (ops_of k)
implied-same k q below is listed low high = same-begun q.responder.mtu q.requester.una below q.requester.oldest q.requester.oldest_psn (q.requester.next - q.requester.oldest) (items_from q.requester.oldest q.sends) high
    ∙ ap (λ xs. implied_nak q.responder.mtu q.requester.una below q.requester.oldest_psn (map (λ (y : PostedSend). y.request.op) xs)) listed
    ∙ ap (implied_nak q.responder.mtu q.requester.una below q.requester.oldest_psn) (ops-posted (drop q.requester.oldest k.posted))
    ∙ ap (λ m. implied_nak m q.requester.una below q.requester.oldest_psn (map (λ (p : Posted). p.request.op) (drop q.requester.oldest k.posted))) is.mtu
    ∙ ap (λ u. implied_nak k.mtu u below q.requester.oldest_psn (map (λ (p : Posted). p.request.op) (drop q.requester.oldest k.posted))) is.una
    ∙ ap (λ n. implied_nak k.mtu k.before.una below n (map (λ (p : Posted). p.request.op) (drop q.requester.oldest k.posted))) (sym is.first)
    ∙ sym (skip-finished k.mtu k.before.una below k.begin q.requester.oldest k.posted (omega (arith, low, is.first, is.una)))

-- ---- the progress of a response

pub record IsResponse (k : Known) (p : Fields) (response : Response) (psn : ℕ) : Type 0 where
  pub is : is_response p.opcode ≡ true
  pub says : response_in p ≡ Some response
  pub at : widened k.before.una p.psn ≡ psn

pub after-back : (k : Known) (p : Fields) (response : Response) (psn back : ℕ) → IsResponse k p response psn → implied_nak k.mtu k.before.una (acknowledged_below psn response) k.begin (ops_of k) ≡ Some back
    → progress_after k (Arrives p) ≡ with_retry (raised back k.before)
after-back k p response psn back r lost = ap (λ b. if b then after_response_packet k.mtu k.begin (ops_of k) p k.before else k.before) r.is
    ∙ ap (λ o. option_map_or (λ response. after_response k.mtu k.begin (ops_of k) (widened k.before.una p.psn) response k.before) o k.before) r.says
    ∙ ap (λ n. after_response k.mtu k.begin (ops_of k) n response k.before) r.at
    ∙ ap by lost
  where
    by : Option ℕ → Progress
    by (Some lost) = with_retry (raised lost k.before)
    by None = counted psn response (raised (acknowledged_below psn response) k.before)

pub after-none : (k : Known) (p : Fields) (response : Response) (psn : ℕ) → IsResponse k p response psn → implied_nak k.mtu k.before.una (acknowledged_below psn response) k.begin (ops_of k) ≡ None
    → progress_after k (Arrives p) ≡ counted psn response (raised (acknowledged_below psn response) k.before)
after-none k p response psn r lost = ap (λ b. if b then after_response_packet k.mtu k.begin (ops_of k) p k.before else k.before) r.is
    ∙ ap (λ o. option_map_or (λ response. after_response k.mtu k.begin (ops_of k) (widened k.before.una p.psn) response k.before) o k.before) r.says
    ∙ ap (λ n. after_response k.mtu k.begin (ops_of k) n response k.before) r.at
    ∙ ap by lost
  where
    by : Option ℕ → Progress
    by (Some lost) = with_retry (raised lost k.before)
    by None = counted psn response (raised (acknowledged_below psn response) k.before)

-- ---- an answer that fits

-- the answer fits the request at this index
abbrev pub fits_at : ℕ → SendOp → Fields → ℕ → Bool
fits_at mtu op p index =
    if p.opcode == ATOMIC_ACKNOWLEDGE then is_atomic (operation_of op)
    else operation_eq (operation_of op) operations.Read
    && (length p.payload == segment_bytes mtu (list_length (list_of op)) index)
    && bool_eq (is_last_read_response p.opcode) (suc index == psns_of mtu op)

atomic-same : (op : SendOp) → is_atomic_op op ≡ is_atomic (operation_of op)
atomic-same (ops.Send list) = refl
atomic-same (ops.SendImm imm list) = refl
atomic-same (ops.SendInv key list) = refl
atomic-same (ops.Write address key list) = refl
atomic-same (ops.WriteImm address key imm list) = refl
atomic-same (ops.Read address key list) = refl
atomic-same (ops.CmpSwap address key compare swap list) = refl
atomic-same (ops.FetchAdd address key add list) = refl
atomic-same (ops.Bind1 window region address length rights) = refl
atomic-same (ops.Bind2 window region low address length rights) = refl
atomic-same (ops.FastReg region low buffer address length rights pages) = refl
atomic-same (ops.LocalInv key) = refl

read-same : (op : SendOp) → is_read op ≡ operation_eq (operation_of op) operations.Read
read-same (ops.Send list) = refl
read-same (ops.SendImm imm list) = refl
read-same (ops.SendInv key list) = refl
read-same (ops.Write address key list) = refl
read-same (ops.WriteImm address key imm list) = refl
read-same (ops.Read address key list) = refl
read-same (ops.CmpSwap address key compare swap list) = refl
read-same (ops.FetchAdd address key add list) = refl
read-same (ops.Bind1 window region address length rights) = refl
read-same (ops.Bind2 window region low address length rights) = refl
read-same (ops.FastReg region low buffer address length rights pages) = refl
read-same (ops.LocalInv key) = refl

-- a row of the table whose opcode ends a READ exactly where its operation does
abbrev is_last : Option Operation → Bool
is_last (Some (ReadResponse place)) = ends place
is_last operation = false

abbrev ends_alike : Row → Bool
ends_alike r = bool_eq (ends_read r.opcode) (is_last (Some r.operation))

eq-path : (a b : Bool) → bool_eq a b ≡ true → a ≡ b
eq-path true true e = refl
eq-path true false e = sym e
eq-path false true e = e
eq-path false false e = refl

found-row : (test : Row → Bool) (key : Row → Bool) (rs : List Row) (r : Row) → list_all test rs ≡ true → find key rs ≡ Some r → (test r ≡ true) × (key r ≡ true)
found-row test key [] r all is = absurd (true≢false (sym (ap is_some is)))
found-row test key (s ∷ rs) r all is = by (key s) refl is (found-row test key rs r (and_parts (test s) _ all).1)
  where
    by : (b : Bool) → key s ≡ b → (if b then Some s else find key rs) ≡ Some r → (find key rs ≡ Some r → (test r ≡ true) × (key r ≡ true)) → (test r ≡ true) × (key r ≡ true)
    by true e is rest = (ap test (sym (same_Some s r is)) ∙ (and_parts (test s) _ all).0, ap key (sym (same_Some s r is)) ∙ e)
    by false e is rest = rest is

last-same : (opcode : ℕ) → is_response opcode ≡ true → ends_read opcode ≡ is_last_read_response opcode
unfolding row_of
last-same opcode response = by (row_of opcode) refl response
  where
    responds : Option Operation → Bool
    responds (Some (Request shape)) = false
    responds (Some operation) = true
    responds None = false

    by : (o : Option Row) → row_of opcode ≡ o → responds (option_map (λ r. r.operation) o) ≡ true → ends_read opcode ≡ is_last (option_map (λ r. r.operation) o)
    by None is response = absurd (true≢false (sym response))
    by (Some r) is response = ap ends_read (sym (eqb-true r.opcode opcode (found-row ends_alike (λ r. r.opcode == opcode) table r refl is).1)) ∙ eq-path _ _ (found-row ends_alike (λ r. r.opcode == opcode) table r refl is).0

-- the machine and the past see the same answers fit
pub fits-same : (psn : ℕ) (p : Fields) (x : QueuePair) (n : Numbered) → is_response p.opcode ≡ true → n.first ≤ psn → n.count ≡ psns_of x.responder.mtu n.request.op → fits_request psn p x n ≡ fits_at x.responder.mtu n.request.op p (psn - n.first)
fits-same psn p x n response low count = ap (λ b. answer b (is_read n.request.op) (ends_read p.opcode) (suc psn == n.first + n.count)) (atomic-same n.request.op)
    ∙ ap (λ b. answer (is_atomic (operation_of n.request.op)) b (ends_read p.opcode) (suc psn == n.first + n.count)) (read-same n.request.op)
    ∙ ap (λ b. answer (is_atomic (operation_of n.request.op)) (operation_eq (operation_of n.request.op) operations.Read) b (suc psn == n.first + n.count)) (last-same p.opcode response)
    ∙ ap (answer (is_atomic (operation_of n.request.op)) (operation_eq (operation_of n.request.op) operations.Read) (is_last_read_response p.opcode)) (end psn n.first n.count low)
    ∙ ap (λ c. answer (is_atomic (operation_of n.request.op)) (operation_eq (operation_of n.request.op) operations.Read) (is_last_read_response p.opcode) (suc (psn - n.first) == c)) count
  where
    same : Bool → Bool → Bool
    same true b = b
    same false b = not b

    answer : Bool → Bool → Bool → Bool → Bool
    answer atomic read last whole = if p.opcode == ATOMIC_ACKNOWLEDGE then atomic
        else read && (length p.payload == segment_bytes x.responder.mtu (list_length (list_of n.request.op)) (psn - n.first)) && same last whole

    end : (psn first count : ℕ) → first ≤ psn → (suc psn == first + count) ≡ (suc (psn - first) == count)
    end psn first count low = grind (arith, nat_tests, low)
