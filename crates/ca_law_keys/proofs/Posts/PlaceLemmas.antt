-- Which posted request a place of a send queue is, and which begins next. For proofs only.
use Rattle.std.proofs.Common.{◌≡◌, ℕ, zero, suc, ◌+◌, ◌-◌, ◌≤◌, ◌&&◌, nat_lt, Bool, true, false, if◌then◌else◌, List, [], ◌∷◌, ◌++◌, length, take, drop, Option, None, Some, is_none, is_some, slice_get, refl, sym, ap, ap₂, subst, ◌∙◌, arith, true≢false, ◌||◌}
use Rattle.std.proofs.lemmas.Bool.Decides.{nat_tests}
use Rattle.std.proofs.lemmas.Bool.{ltb-false, or_parts}
use Rattle.std.proofs.lemmas.List.Elements.{filter-append}
use Rattle.std.proofs.lemmas.Option.{same_Some, slice_get-map}
use Rattle.std.specs.List.{AllByRecursion, filter, list_any}
use Rattle.std.specs.Option.{option_map, option_or, option_map_or}
use Rattle.std.specs.Prelude.{find}
use Rattle.ca_law_keys.specs.Posts.{AgreeOnSends, AreInPlace, as_posted}
use Rattle.ca_base.specs.declared.change.State.{State}
use Rattle.ca_base.specs.declared.change.State.TheVariants as states
use Rattle.ca_base.specs.declared.request.PostedSend.{PostedSend}
use Rattle.ca_base.specs.declared.step.Reason.{Reason}
use Rattle.ca_base.specs.declared.step.Reason.TheVariants as reasons
use Rattle.ca_base.specs.objects.QueuePair.{QueuePair}
use Rattle.ca_base.specs.objects.StateTable.{state_eq}
use Rattle.ca_base.specs.objects.WorkQueue.{WorkQueue, item_at, items_from}
use Rattle.ca_keys.specs.Refusals.{first_of}
use Rattle.ca_law_world.proofs.Steady.RowLemmas.{IsKept}
use Rattle.ca_model.specs.Past.{Posted, local_operations}
use Rattle.ca_model.specs.Requests.{is_local}
use Rattle.ca_model.specs.machine.Invariants.{is_sending}
use Rattle.ca_model.specs.machine.Numbering.{Numbered, begun_requests, has_psn, is_answered_op, next_to_begin, numbers_of, request_at, unfinished_requests}
use Rattle.ca_model.specs.machine.Requester.{Performs, RequestTurn, Sends, Waits, begins, is_fenced, next_request, turn_of, turn_refusals}
use Rattle.ca_law_world.proofs.Sound.TurnLemmas.{sending-parts}

-- ---- lists

get-drop : {A : Type 0} (n : ℕ) (xs : List A) (i j : ℕ) → j ≡ n + i → slice_get (drop n xs) i ≡ slice_get xs j
get-drop zero xs i j is = ap (slice_get xs) {x = i} {y = j} (omega (arith, is))
get-drop (suc n) [] i zero is = absurd (omega (arith, is))
get-drop (suc n) [] i (suc j) is = refl
get-drop (suc n) (x ∷ xs) i zero is = absurd (omega (arith, is))
get-drop (suc n) (x ∷ xs) i (suc j) is = get-drop n xs i j (omega (arith, is))

all-get : {A : Type 0} (P : A → Type 0) (xs : List A) (i : ℕ) (x : A) → AllByRecursion P xs → slice_get xs i ≡ Some x → P x
all-get P [] i x all is = absurd (true≢false (sym (ap is_some is)))
all-get P (y ∷ ys) zero x all is = subst P (same_Some y x is) all.0
all-get P (y ∷ ys) (suc i) x all is = all-get P ys i x all.1 is

take-next : {A : Type 0} (xs : List A) (i : ℕ) (x : A) → slice_get xs i ≡ Some x → take (suc i) xs ≡ take i xs ++ (x ∷ [])
take-next [] i x is = absurd (true≢false (sym (ap is_some is)))
take-next (y ∷ ys) zero x is = ap (λ z. z ∷ []) (same_Some y x is)
take-next (y ∷ ys) (suc i) x is = ap (λ t. y ∷ t) (take-next ys i x is)

-- the element at a place among those that pass a test
pub filter-at : {A : Type 0} (test : A → Bool) (xs : List A) (i : ℕ) (x : A) → slice_get xs i ≡ Some x → test x ≡ true → slice_get (filter test xs) (length (filter test (take i xs))) ≡ Some x
filter-at test [] i x is passes = absurd (true≢false (sym (ap is_some is)))
filter-at test (y ∷ ys) zero x is passes = by (test y) (ap test (same_Some y x is) ∙ passes)
  where
    by : (b : Bool) → b ≡ true → slice_get (if b then y ∷ filter test ys else filter test ys) 0 ≡ Some x
    by true e = is
    by false e = absurd (true≢false (sym e))
filter-at test (y ∷ ys) (suc i) x is passes = by (test y) (filter-at test ys i x is passes)
  where
    by : (b : Bool) → slice_get (filter test ys) (length (filter test (take i ys))) ≡ Some x
        → slice_get (if b then y ∷ filter test ys else filter test ys) (length (if b then y ∷ filter test (take i ys) else filter test (take i ys))) ≡ Some x
    by true rest = rest
    by false rest = rest

-- ---- posted requests

-- a posted request at a place
pub record IsPostedAt (ps : List Posted) (place : ℕ) (x : PostedSend) : Type 0 where
  pub posted : Posted
  pub is : slice_get ps place ≡ Some posted
  pub same : as_posted posted ≡ x

posted-some : (o : Option Posted) (x : PostedSend) → option_map as_posted o ≡ Some x → (p : Posted) × (o ≡ Some p) × (as_posted p ≡ x)
posted-some None x is = absurd (true≢false (sym (ap is_some is)))
posted-some (Some p) x is = (p, refl, same_Some (as_posted p) x is)

-- what occupies a send queue at a place was posted there
pub item-posted : (ps : List Posted) (k : ℕ) (q : QueuePair) (place : ℕ) (x : PostedSend) → AgreeOnSends ps k q → item_at place q.sends ≡ Some x → IsPostedAt ps place x
item-posted ps k q place x agree is = by (nat_lt place q.sends.first) refl is
  where
    at : q.sends.first ≤ place → slice_get q.sends.items (place - q.sends.first) ≡ Some x → IsPostedAt ps place x
    at low e = found (posted-some (slice_get ps place) x (
        ap (option_map as_posted) (sym (get-drop q.sends.first ps (place - q.sends.first) place (omega (arith, low))))
        ∙ sym (slice_get-map as_posted (drop q.sends.first ps) (place - q.sends.first))
        ∙ ap (λ l. slice_get l (place - q.sends.first)) (sym agree.items) ∙ e))
      where
        found : (p : Posted) × (slice_get ps place ≡ Some p) × (as_posted p ≡ x) → IsPostedAt ps place x
        found f = record { posted = f.0; is = f.1; same = f.2 }

    by : (b : Bool) → nat_lt place q.sends.first ≡ b → (if b then None else slice_get q.sends.items (place - q.sends.first)) ≡ Some x → IsPostedAt ps place x
    by true e none = absurd (true≢false (sym (ap is_some none)))
    by false e some = at (ltb-false place q.sends.first e) some

-- the place of a posted request is where it stands
pub in-place : (ps : List Posted) (n place : ℕ) (p : Posted) → AreInPlace n ps → slice_get ps place ≡ Some p → p.place ≡ n + place
in-place [] n place p all is = absurd (true≢false (sym (ap is_some is)))
in-place (x ∷ xs) n zero p all is = omega (arith, ap (λ (y : Posted). y.place) (same_Some x p is), all.0)
in-place (x ∷ xs) n (suc place) p all is = omega (arith, in-place xs (suc n) place p all.1 is)

-- as many local operations up to a place, and up to the next
pub operations-more : (ps : List Posted) (place : ℕ) (p : Posted) → slice_get ps place ≡ Some p → is_local p.request.op ≡ true
    → length (local_operations (take (suc place) ps)) ≡ suc (length (local_operations (take place ps)))
operations-more ps place p is local = ap (λ l. length (local_operations l)) (take-next ps place p is)
    ∙ ap length (filter-append (λ (p : Posted). is_local p.request.op) (take place ps) (p ∷ []))
    ∙ ap (λ b. length (local_operations (take place ps) ++ (if b then p ∷ [] else []))) local ∙ one (local_operations (take place ps))
  where
    one : (l : List Posted) → length (l ++ (p ∷ [])) ≡ suc (length l)
    one [] = refl
    one (x ∷ l) = ap suc (one l)

pub operations-same : (ps : List Posted) (place : ℕ) (p : Posted) → slice_get ps place ≡ Some p → is_local p.request.op ≡ false
    → length (local_operations (take (suc place) ps)) ≡ length (local_operations (take place ps))
operations-same ps place p is packet = ap (λ l. length (local_operations l)) (take-next ps place p is)
    ∙ ap length (filter-append (λ (p : Posted). is_local p.request.op) (take place ps) (p ∷ []))
    ∙ ap (λ b. length (local_operations (take place ps) ++ (if b then p ∷ [] else []))) packet ∙ none (local_operations (take place ps))
  where
    none : (l : List Posted) → length (l ++ []) ≡ length l
    none [] = refl
    none (x ∷ l) = ap suc (none l)

get-at-drop : {A : Type 0} (i : ℕ) (xs : List A) (x : A) (rest : List A) → drop i xs ≡ x ∷ rest → slice_get xs i ≡ Some x
get-at-drop zero xs x rest is = ap (λ l. slice_get l 0) is
get-at-drop (suc i) [] x rest is = absurd (omega (arith, ap length is))
get-at-drop (suc i) (y ∷ ys) x rest is = get-at-drop i ys x rest is

drop-more : {A : Type 0} (i : ℕ) (xs : List A) (x : A) (rest : List A) → drop i xs ≡ x ∷ rest → drop (suc i) xs ≡ rest
drop-more zero xs x rest is = ap (drop 1) is
drop-more (suc i) [] x rest is = absurd (omega (arith, ap length is))
drop-more (suc i) (y ∷ ys) x rest is = drop-more i ys x rest is

-- the request at each place of a send queue
pub numbers-at : (mtu place psn : ℕ) (sends : WorkQueue PostedSend) (ps : List PostedSend) → sends.first ≤ place → drop (place - sends.first) sends.items ≡ ps
    → AllByRecursion (λ n. item_at n.place sends ≡ Some (record { request = n.request; drawn = n.drawn })) (numbers_of mtu place psn ps)
numbers-at mtu place psn sends [] low is = record {}
numbers-at mtu place psn sends (p ∷ ps) low is = (
  ap (λ b. if b then None else slice_get sends.items (place - sends.first)) (leb-not place sends.first low) ∙ get-at-drop (place - sends.first) sends.items p ps is,
  numbers-at mtu (suc place) _ sends ps (omega (arith, low))
      (ap (λ i. drop i sends.items) {x = suc place - sends.first} {y = suc (place - sends.first)} (omega (arith, low)) ∙ drop-more (place - sends.first) sends.items p ps is),
)
  where
    leb-not : (a b : ℕ) → b ≤ a → nat_lt a b ≡ false
    leb-not a b low = grind (arith, nat_tests, low)

-- ---- what a turn does

number-place : (mtu place psn : ℕ) (ps : List PostedSend) (i : ℕ) (n : Numbered) → slice_get (numbers_of mtu place psn ps) i ≡ Some n → n.place ≡ place + i
number-place mtu place psn [] i n is = absurd (true≢false (sym (ap is_some is)))
number-place mtu place psn (p ∷ ps) zero n is = omega (arith, ap (λ (m : Numbered). m.place) (same_Some _ n is))
number-place mtu place psn (p ∷ ps) (suc i) n is = omega (arith, number-place mtu (suc place) _ ps i n is)

-- the request that begins next stands at the next place
pub record IsNextItem (q : QueuePair) (n : Numbered) : Type 0 where
  pub place : n.place ≡ q.requester.next
  pub item : item_at q.requester.next q.sends ≡ Some (record { request = n.request; drawn = n.drawn })

pub next-item : (q : QueuePair) (n : Numbered) → IsKept q → q.requester.oldest ≤ q.requester.next → next_to_begin q ≡ Some n → IsNextItem q n
next-item q n k begun is = record {
  place = place;
  item = ap (λ i. item_at i q.sends) (sym place) ∙ all-get _ (unfinished_requests q) (q.requester.next - q.requester.oldest) n
      (numbers-at q.responder.mtu q.requester.oldest q.requester.oldest_psn q.sends (items_from q.requester.oldest q.sends) k.first refl) is;
}
  where
    place : n.place ≡ q.requester.next
    place = omega (arith, begun, number-place q.responder.mtu q.requester.oldest q.requester.oldest_psn (items_from q.requester.oldest q.sends) (q.requester.next - q.requester.oldest) n is)

-- a request that begins is the one that begins next
pub begins-next : (q : QueuePair) (n : Numbered) → begins q ≡ true → next_request q ≡ Some n → next_to_begin q ≡ Some n
begins-next q n e is = by (request_at q.requester.cursor q) refl e is
  where
    by : (o : Option Numbered) → request_at q.requester.cursor q ≡ o → (is_none o && is_some (next_to_begin q)) ≡ true → option_or o (next_to_begin q) ≡ Some n → next_to_begin q ≡ Some n
    by None at e is = is
    by (Some m) at e is = absurd (true≢false (sym e))

-- one of a list that passes a test and has a property of all
find-all : (P : Numbered → Type 0) (test : Numbered → Bool) (ns : List Numbered) (n : Numbered) → AllByRecursion P ns → find test ns ≡ Some n → P n
find-all P test [] n all is = absurd (true≢false (sym (ap is_some is)))
find-all P test (m ∷ ns) n all is = by (test m) (find-all P test ns n all.1) is
  where
    by : (b : Bool) → (find test ns ≡ Some n → P n) → (if b then Some m else find test ns) ≡ Some n → P n
    by true rest e = subst P (same_Some m n e) all.0
    by false rest e = rest e

-- a local operation that is performed is the one that begins next
pub local-next : (q : QueuePair) (n : Numbered) → IsKept q → next_request q ≡ Some n → is_local n.request.op ≡ true → next_to_begin q ≡ Some n
local-next q n k is local = by (request_at q.requester.cursor q) refl is
  where
    by : (o : Option Numbered) → request_at q.requester.cursor q ≡ o → option_or o (next_to_begin q) ≡ Some n → next_to_begin q ≡ Some n
    by None at is = is
    by (Some m) at is = absurd (true≢false (sym local ∙ find-all (λ x. is_local x.request.op ≡ false) (has_psn q.requester.cursor) (begun_requests q) n k.is.packets (at ∙ is)))

-- the request of a turn that performs a local operation
abbrev performed_in : RequestTurn → Option Numbered
performed_in (Performs n) = Some n
performed_in turn = None

abbrev from : Option Reason → Option Numbered → RequestTurn
from (Some reason) n = Waits reason
from None None = Waits reasons.Empty
from None (Some n) = if is_local n.request.op then Performs n else Sends n

pub record IsPerformed (q : QueuePair) (n : Numbered) : Type 0 where
  pub item : IsNextItem q n
  pub local : is_local n.request.op ≡ true
  pub sending : is_sending q.state ≡ true
  pub alone : q.requester.next ≡ q.requester.oldest

pub performs : (q : QueuePair) (n : Numbered) → IsKept q → q.requester.oldest ≤ q.requester.next → turn_of q ≡ Performs n → IsPerformed q n
performs q n k begun turn = by (first_of (turn_refusals q)) refl (next_request q) refl turn
  where
    found : (m : Numbered) → first_of (turn_refusals q) ≡ None → next_request q ≡ Some m → (b : Bool) → is_local m.request.op ≡ b → (if b then Performs m else Sends m) ≡ Performs n → IsPerformed q n
    found m none is false e turn = absurd (true≢false (sym (ap (λ t. is_some (performed_in t)) turn)))
    found m none is true e turn = record {
      item = next-item q n k begun (local-next q n k there local);
      local = local;
      sending = (sending-parts q none).0;
      alone = omega (arith, begun, ltb-false q.requester.oldest q.requester.next (unfenced (request_at q.requester.cursor q) refl there (next_to_begin q) refl (local-next q n k there local) (sending-parts q none).1));
    }
      where
        same : m ≡ n
        same = same_Some m n (ap performed_in turn)

        there : next_request q ≡ Some n
        there = is ∙ ap Some same

        local : is_local n.request.op ≡ true
        local = subst (λ x. is_local x.request.op ≡ true) same e

        waits : Numbered → Bool
        waits n =
            (is_local n.request.op && nat_lt q.requester.oldest q.requester.next)
            || (n.request.fence && list_any (λ m. is_answered_op m.request.op) (begun_requests q))

        unfenced : (o : Option Numbered) → request_at q.requester.cursor q ≡ o → option_or o (next_to_begin q) ≡ Some n → (x : Option Numbered) → next_to_begin q ≡ x → x ≡ Some n → is_fenced q ≡ false
            → nat_lt q.requester.oldest q.requester.next ≡ false
        unfenced (Some m) at is x next same free = absurd (true≢false (sym local ∙ find-all (λ y. is_local y.request.op ≡ false) (has_psn q.requester.cursor) (begun_requests q) n k.is.packets (at ∙ is)))
        unfenced None at is x next same free = ap (λ b. b && nat_lt q.requester.oldest q.requester.next) (sym local)
            ∙ (or_parts (is_local n.request.op && nat_lt q.requester.oldest q.requester.next) (n.request.fence && list_any (λ m. is_answered_op m.request.op) (begun_requests q))
            (ap₂ (λ o y. (is_none o && is_some y) && option_map_or waits y false) (sym at) (sym (next ∙ same)) ∙ free)).0

    by : (r : Option Reason) → first_of (turn_refusals q) ≡ r → (o : Option Numbered) → next_request q ≡ o → from r o ≡ Performs n → IsPerformed q n
    by (Some reason) none o is turn = absurd (true≢false (sym (ap (λ t. is_some (performed_in t)) turn)))
    by None none None is turn = absurd (true≢false (sym (ap (λ t. is_some (performed_in t)) turn)))
    by None none (Some m) is turn = found m none is (is_local m.request.op) refl turn

-- a queue pair that sends is not in Error
pub sending-well : (q : QueuePair) → is_sending q.state ≡ true → state_eq q.state states.Error ≡ false
sending-well q is = by q.state is
  where
    by : (s : State) → is_sending s ≡ true → state_eq s states.Error ≡ false
    by states.Reset e = absurd (true≢false (sym e))
    by states.Init e = absurd (true≢false (sym e))
    by states.Rtr e = absurd (true≢false (sym e))
    by states.Rts e = refl
    by states.Sqd e = refl
    by states.Error e = absurd (true≢false (sym e))
