-- The request of which a requester's turn sends a packet: where it was posted, and which PSNs it takes. For proofs only.
use Rattle.std.proofs.Common.{Bool, List, None, Option, Some, [], ap, arith, drop, false, find, if◌then◌else◌, is_some, le-leb, leb-true, ltb-false, ltb-true, map, nat_le, nat_lt, option_map, refl, slice_get, subst, suc, sym, take, true, true≢false, zero, ℕ, ◌%◌, ◌&&◌, ◌+◌, ◌-◌, ◌<◌, ◌^◌, ◌∙◌, ◌∷◌, ◌≡◌, ◌≤◌}
use Rattle.std.proofs.lemmas.Bool.{and_parts}
use Rattle.std.proofs.lemmas.List.Sums.{sum_by-cons}
use Rattle.std.proofs.lemmas.Option.{same_Some, slice_get-map}
use Rattle.std.specs.List.{AllByRecursion}
use Rattle.std.specs.Option.{option_or}
use Rattle.ca_law_keys.proofs.Posts.PlaceLemmas.{IsPostedAt}
use Rattle.ca_law_keys.specs.Posts.{as_posted}
use Rattle.ca_law_carried.proofs.Starts.NumberLemmas.{Linked, before-more, get-drop, linked-from, numbers-sum, posted-some}
use Rattle.ca_law_carried.specs.Starts.{Stands, psns_before}
use Rattle.ca_base.specs.declared.limits.TheConstants.{MAX_MESSAGE_BYTES}
use Rattle.ca_base.specs.declared.request.PostedSend.{PostedSend}
use Rattle.ca_base.specs.declared.request.SendOp.{SendOp}
use Rattle.ca_base.specs.declared.step.Reason.{Reason}
use Rattle.ca_base.specs.objects.QueuePair.{QueuePair}
use Rattle.ca_base.specs.objects.StateTable.{is_path_mtu}
use Rattle.ca_base.specs.objects.WorkQueue.{items_from}
use Rattle.ca_keys.specs.Refusals.{first_of}
use Rattle.ca_law_parts.proofs.Numbers.NumberLemmas.{segments-few}
use Rattle.ca_law_world.proofs.Sound.NumberingLemmas.{count_sum}
use Rattle.ca_law_world.proofs.Sound.TurnLemmas.{sending-parts}
use Rattle.ca_law_world.specs.Steady.{IsSteadyQueue}
use Rattle.ca_model.specs.Past.{Posted}
use Rattle.ca_model.specs.Requests.{is_local, list_length, list_of, psns_of}
use Rattle.ca_model.specs.machine.Invariants.{IsQueue, IsSend, is_sending}
use Rattle.ca_model.specs.machine.Numbering.{Numbered, begun_requests, has_psn, next_to_begin, numbers_of, psn_end, request_at, unfinished_requests}
use Rattle.ca_model.specs.machine.Requester.{Performs, RequestTurn, Sends, Waits, next_request, turn_of, turn_refusals}
use Rattle.ca_base.specs.declared.request.SendOp.TheVariants as ops
use Rattle.ca_base.specs.declared.step.Reason.TheVariants as reasons
use Rattle.ca_keys.specs.Spelling.{rights_text as rights}

-- a numbered request, by what occupies the send queue
pub record IsNumbered (mtu place psn : ℕ) (ps : List PostedSend) (i : ℕ) (n : Numbered) : Type 0 where
  pub at : n.place ≡ place + i
  pub first : n.first ≡ psn + count_sum (take i (numbers_of mtu place psn ps))
  pub count : n.count ≡ psns_of mtu n.request.op
  pub item : slice_get ps i ≡ Some (record { request = n.request; drawn = n.drawn })

more : (mtu place psn : ℕ) (p : PostedSend) (ps : List PostedSend) (i : ℕ) (n : Numbered) → IsNumbered mtu (suc place) (psn + psns_of mtu p.request.op) ps i n → IsNumbered mtu place psn (p ∷ ps) (suc i) n
more mtu place psn p ps i n rest = record {
  at = omega (arith, rest.at);
  first = omega (
    arith,
    rest.first,
    sum_by-cons (λ (m : Numbered). m.count) (record { place = place; request = p.request; drawn = p.drawn; first = psn; count = psns_of mtu p.request.op })
        (take i (numbers_of mtu (suc place) (psn + psns_of mtu p.request.op) ps)),
  );
  count = rest.count;
  item = rest.item;
}

numbered : (mtu place psn : ℕ) (ps : List PostedSend) (i : ℕ) (n : Numbered) → slice_get (numbers_of mtu place psn ps) i ≡ Some n → IsNumbered mtu place psn ps i n
numbered mtu place psn [] i n is = absurd (true≢false (sym (ap is_some is)))
numbered mtu place psn (p ∷ ps) zero n is = record {
  at = omega (arith, ap (λ (m : Numbered). m.place) same);
  first = omega (arith, ap (λ (m : Numbered). m.first) same);
  count = subst (λ (m : Numbered). m.count ≡ psns_of mtu m.request.op) same refl;
  item = ap (λ (m : Numbered). Some (record { request = m.request; drawn = m.drawn })) same;
}
  where
    same : record { place = place; request = p.request; drawn = p.drawn; first = psn; count = psns_of mtu p.request.op } ≡ n
    same = same_Some _ n is
numbered mtu place psn (p ∷ ps) (suc i) n is = more mtu place psn p ps i n (numbered mtu (suc place) (psn + psns_of mtu p.request.op) ps i n is)

-- one that is found stands somewhere, and passes the test
pub record IsFoundAt (test : Numbered → Bool) (ns : List Numbered) (n : Numbered) : Type 0 where
  pub index : ℕ
  pub is : slice_get ns index ≡ Some n
  pub passes : test n ≡ true

find-at : (test : Numbered → Bool) (ns : List Numbered) (n : Numbered) → find test ns ≡ Some n → IsFoundAt test ns n
find-at test [] n is = absurd (true≢false (sym (ap is_some is)))
find-at test (m ∷ ns) n is = by (test m) refl (find-at test ns n) is
  where
    by : (b : Bool) → test m ≡ b → (find test ns ≡ Some n → IsFoundAt test ns n) → (if b then Some m else find test ns) ≡ Some n → IsFoundAt test (m ∷ ns) n
    by true e rest one = record { index = 0; is = one; passes = subst (λ x. test x ≡ true) (same_Some m n one) e }
    by false e rest one = record { index = suc (rest one).index; is = (rest one).is; passes = (rest one).passes }

get-take : (k : ℕ) (ns : List Numbered) (i : ℕ) (n : Numbered) → slice_get (take k ns) i ≡ Some n → slice_get ns i ≡ Some n
get-take zero ns i n is = absurd (true≢false (sym (ap is_some is)))
get-take (suc k) [] i n is = absurd (true≢false (sym (ap is_some is)))
get-take (suc k) (m ∷ ns) zero n is = is
get-take (suc k) (m ∷ ns) (suc i) n is = get-take k ns i n is

-- a PSN that none of some requests in a row has, and that is not before them, is behind them
past-all : (mtu place psn k cursor : ℕ) (ps : List PostedSend) → psn ≤ cursor → find (has_psn cursor) (take k (numbers_of mtu place psn ps)) ≡ None → psn + count_sum (take k (numbers_of mtu place psn ps)) ≤ cursor
past-all mtu place psn zero cursor ps low none = omega (arith, low)
past-all mtu place psn (suc k) cursor [] low none = omega (arith, low)
past-all mtu place psn (suc k) cursor (p ∷ ps) low none = by (nat_lt cursor (psn + psns_of mtu p.request.op)) refl (past-all mtu (suc place) (psn + psns_of mtu p.request.op) k cursor ps)
    (sym (ap (λ b. if b && nat_lt cursor (psn + psns_of mtu p.request.op) then Some n else find (has_psn cursor) rest) (le-leb psn cursor low)) ∙ none)
  where
    n : Numbered
    n = record { place = place; request = p.request; drawn = p.drawn; first = psn; count = psns_of mtu p.request.op }

    rest : List Numbered
    rest = take k (numbers_of mtu (suc place) (psn + psns_of mtu p.request.op) ps)

    by : (b : Bool) → nat_lt cursor (psn + psns_of mtu p.request.op) ≡ b
        → (psn + psns_of mtu p.request.op ≤ cursor → find (has_psn cursor) rest ≡ None → psn + psns_of mtu p.request.op + count_sum rest ≤ cursor)
        → (if b then Some n else find (has_psn cursor) rest) ≡ None → psn + count_sum (n ∷ rest) ≤ cursor
    by true e others some = absurd (true≢false (ap is_some some))
    by false e others some = omega (arith, sum_by-cons (λ (m : Numbered). m.count) n rest, others (ltb-false cursor (psn + psns_of mtu p.request.op) e) some)

-- a request that is no local operation takes a PSN
some-psns : (mtu : ℕ) (op : SendOp) → is_local op ≡ false → 0 < psns_of mtu op
some-psns mtu (ops.Send list) packet = omega arith
some-psns mtu (ops.SendImm imm list) packet = omega arith
some-psns mtu (ops.SendInv key list) packet = omega arith
some-psns mtu (ops.Write address key list) packet = omega arith
some-psns mtu (ops.WriteImm address key imm list) packet = omega arith
some-psns mtu (ops.Read address key list) packet = omega arith
some-psns mtu (ops.CmpSwap address key compare swap list) packet = omega arith
some-psns mtu (ops.FetchAdd address key add list) packet = omega arith
some-psns mtu (ops.Bind1 window region address count rights) packet = absurd (true≢false packet)
some-psns mtu (ops.Bind2 window region low address count rights) packet = absurd (true≢false packet)
some-psns mtu (ops.FastReg region low buffer address count rights pages) packet = absurd (true≢false packet)
some-psns mtu (ops.LocalInv key) packet = absurd (true≢false packet)

-- a request takes at most 4096 PSNs
psns-few : (mtu : ℕ) (op : SendOp) → is_path_mtu mtu ≡ true → list_length (list_of op) ≤ MAX_MESSAGE_BYTES → psns_of mtu op ≤ 4096
psns-few mtu (ops.Send list) path few = segments-few mtu (list_length list.items) path few
psns-few mtu (ops.SendImm imm list) path few = segments-few mtu (list_length list.items) path few
psns-few mtu (ops.SendInv key list) path few = segments-few mtu (list_length list.items) path few
psns-few mtu (ops.Write address key list) path few = segments-few mtu (list_length list.items) path few
psns-few mtu (ops.WriteImm address key imm list) path few = segments-few mtu (list_length list.items) path few
psns-few mtu (ops.Read address key list) path few = segments-few mtu (list_length list.items) path few
psns-few mtu (ops.CmpSwap address key compare swap list) path few = omega arith
psns-few mtu (ops.FetchAdd address key add list) path few = omega arith
psns-few mtu (ops.Bind1 window region address count rights) path few = omega arith
psns-few mtu (ops.Bind2 window region low address count rights) path few = omega arith
psns-few mtu (ops.FastReg region low buffer address count rights pages) path few = omega arith
psns-few mtu (ops.LocalInv key) path few = omega arith

-- the request of a turn that sends: it is among the unfinished, and the PSN that comes next is one of its own
pub record IsSending (q : QueuePair) (n : Numbered) : Type 0 where
  pub sending : is_sending q.state ≡ true
  pub packet : is_local n.request.op ≡ false
  pub index : ℕ
  pub is : slice_get (unfinished_requests q) index ≡ Some n
  pub low : n.first ≤ q.requester.cursor
  pub high : q.requester.cursor < n.first + n.count

abbrev sends_of : RequestTurn → Option Numbered
sends_of (Sends n) = Some n
sends_of turn = None

abbrev turned : Option Reason → Option Numbered → RequestTurn
turned (Some reason) n = Waits reason
turned None None = Waits reasons.Empty
turned None (Some n) = if is_local n.request.op then Performs n else Sends n

pub sends-turn : (q : QueuePair) (n : Numbered) → IsQueue q → IsSteadyQueue q → turn_of q ≡ Sends n → IsSending q n
sends-turn q n sound steady turn = by (first_of (turn_refusals q)) refl (next_request q) refl turn
  where
    found : (m : Numbered) → is_sending q.state ≡ true → next_request q ≡ Some m → (b : Bool) → is_local m.request.op ≡ b → (if b then Performs m else Sends m) ≡ Sends n → IsSending q n
    found m sends there true local turned = absurd (true≢false (sym (ap (λ t. is_some (sends_of t)) turned)))
    found m sends there false local turned = at (request_at q.requester.cursor q) refl (there ∙ ap Some same)
      where
        same : m ≡ n
        same = same_Some m n (ap sends_of turned)

        packet : is_local n.request.op ≡ false
        packet = subst (λ (x : Numbered). is_local x.request.op ≡ false) same local

        goes : IsFoundAt (has_psn q.requester.cursor) (begun_requests q) n → IsSending q n
        goes f = record {
          sending = sends;
          packet = packet;
          index = f.index;
          is = get-take (q.requester.next - q.requester.oldest) (unfinished_requests q) f.index n f.is;
          low = leb-true n.first q.requester.cursor (and_parts (nat_le n.first q.requester.cursor) (nat_lt q.requester.cursor (psn_end n)) f.passes).0;
          high = ltb-true q.requester.cursor (psn_end n) (and_parts (nat_le n.first q.requester.cursor) (nat_lt q.requester.cursor (psn_end n)) f.passes).1;
        }

        -- one that begins stands behind all that have begun
        new : request_at q.requester.cursor q ≡ None → next_to_begin q ≡ Some n → IsSending q n
        new none next = record {
          sending = sends;
          packet = packet;
          index = q.requester.next - q.requester.oldest;
          is = next;
          low = omega (arith, here.first, behind);
          high = omega (arith, here.first, here.count, some-psns q.responder.mtu n.request.op packet, sound.begun sends);
        }
          where
            here : IsNumbered q.responder.mtu q.requester.oldest q.requester.oldest_psn (items_from q.requester.oldest q.sends) (q.requester.next - q.requester.oldest) n
            here = numbered q.responder.mtu q.requester.oldest q.requester.oldest_psn (items_from q.requester.oldest q.sends) (q.requester.next - q.requester.oldest) n next

            behind : q.requester.oldest_psn + count_sum (begun_requests q) ≤ q.requester.cursor
            behind = past-all q.responder.mtu q.requester.oldest q.requester.oldest_psn (q.requester.next - q.requester.oldest) q.requester.cursor (items_from q.requester.oldest q.sends)
                (omega (arith, steady.oldest sends, sound.requester.outstanding)) none

        at : (o : Option Numbered) → request_at q.requester.cursor q ≡ o → option_or (request_at q.requester.cursor q) (next_to_begin q) ≡ Some n → IsSending q n
        at None e is = new e (sym (ap (λ o. option_or o (next_to_begin q)) e) ∙ is)
        at (Some x) e is = goes (find-at (has_psn q.requester.cursor) (begun_requests q) n (e ∙ sym (ap (λ o. option_or o (next_to_begin q)) e) ∙ is))

    by : (r : Option Reason) → first_of (turn_refusals q) ≡ r → (o : Option Numbered) → next_request q ≡ o → turned r o ≡ Sends n → IsSending q n
    by (Some reason) none o is turn = absurd (true≢false (sym (ap (λ t. is_some (sends_of t)) turn)))
    by None none None is turn = absurd (true≢false (sym (ap (λ t. is_some (sends_of t)) turn)))
    by None none (Some m) is turn = found m (sending-parts q none).0 is (is_local m.request.op) refl turn

-- the request as it was posted
pub record WasPosted (posted : List Posted) (base : ℕ) (q : QueuePair) (n : Numbered) : Type 0 where
  pub at : IsPostedAt posted n.place (record { request = n.request; drawn = n.drawn })
  pub first : n.first ≡ base + psns_before q.responder.mtu posted n.place
  pub count : n.count ≡ psns_of q.responder.mtu n.request.op
  pub few : n.count ≤ 4096

all-get : (P : PostedSend → Type 0) (ps : List PostedSend) (i : ℕ) (p : PostedSend) → AllByRecursion P ps → slice_get ps i ≡ Some p → P p
all-get P [] i p all is = absurd (true≢false (sym (ap is_some is)))
all-get P (x ∷ ps) zero p all is = subst P (same_Some x p is) all.0
all-get P (x ∷ ps) (suc i) p all is = all-get P ps i p all.1 is

all-dropped : (P : PostedSend → Type 0) (k : ℕ) (ps : List PostedSend) → AllByRecursion P ps → AllByRecursion P (drop k ps)
all-dropped P zero ps all = all
all-dropped P (suc k) [] all = record {}
all-dropped P (suc k) (p ∷ ps) all = all-dropped P k ps all.1

pub posted-so : (posted : List Posted) (base : ℕ) (q : QueuePair) (n : Numbered) → IsQueue q → Linked posted q.sends → Stands base posted q → IsSending q n → WasPosted posted base q n
posted-so posted base q n sound linked stands sends = record {
  at = subst (λ i. IsPostedAt posted i (record { request = n.request; drawn = n.drawn })) (sym here.at) (found (posted-some (slice_get posted (oldest + sends.index)) x
      (ap (option_map as_posted) (sym (get-drop oldest posted sends.index (oldest + sends.index) refl)) ∙ sym (slice_get-map as_posted (drop oldest posted) sends.index)
      ∙ ap (λ ps. slice_get ps sends.index) (sym items) ∙ here.item)));
  first = here.first
      ∙ (λ i. q.requester.oldest_psn + count_sum (take sends.index (numbers_of q.responder.mtu oldest q.requester.oldest_psn (items i))))
      ∙ (λ i. stands i + numbers-sum q.responder.mtu oldest q.requester.oldest_psn sends.index (drop oldest posted) i)
      ∙ omega (arith, before-more q.responder.mtu posted oldest sends.index, ap (psns_before q.responder.mtu posted) here.at);
  count = here.count;
  few = omega (
    arith,
    here.count,
    psns-few q.responder.mtu n.request.op sound.responder.mtu
        (all-get IsSend (items_from oldest q.sends) sends.index x (all-dropped IsSend (oldest - q.sends.first) q.sends.items sound.sends.items) here.item).bytes,
  );
}
  where
    oldest : ℕ
    oldest = q.requester.oldest

    x : PostedSend
    x = record { request = n.request; drawn = n.drawn }

    here : IsNumbered q.responder.mtu oldest q.requester.oldest_psn (items_from oldest q.sends) sends.index n
    here = numbered q.responder.mtu oldest q.requester.oldest_psn (items_from oldest q.sends) sends.index n sends.is

    items : items_from oldest q.sends ≡ map as_posted (drop oldest posted)
    items = linked-from posted q.sends oldest linked sound.requester.finished

    found : (p : Posted) × (slice_get posted (oldest + sends.index) ≡ Some p) × (as_posted p ≡ x) → IsPostedAt posted (oldest + sends.index) x
    found f = record { posted = f.0; is = f.1; same = f.2 }

-- the PSN of a packet tells which of its request's it is
pub packet-index : (first cursor count : ℕ) → first ≤ cursor → cursor < first + count → count ≤ 4096 → (cursor % 2 ^ 24 + 2 ^ 24 - first % 2 ^ 24) % 2 ^ 24 ≡ cursor - first
packet-index first cursor count low high few = omega (arith, low, high, few)
