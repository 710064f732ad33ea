-- The posted requests from a place on, one after another, and numbers of their packets.
use Rattle.std.proofs.Common.{zero, ◌≡◌, ℕ, suc, ◌+◌, ◌-◌, ◌*◌, ◌≤◌, ◌<◌, ◌^◌, nat_lt, arith, refl, sym, ap, ◌∙◌, subst, false, true, List, [], ◌∷◌, find, length, take, None, Some, slice_get}
use Rattle.std.proofs.Math.Nat.{mul-le-mul_left}
use Rattle.std.proofs.lemmas.Bool.{le-ltb}
use Rattle.std.proofs.lemmas.Bool.Decides.{nat_tests}
use Rattle.std.proofs.lemmas.List.{length-drop}
use Rattle.std.proofs.lemmas.List.Sums.{sum_by-cons}
use Rattle.std.proofs.lemmas.Option.{same_Some}
use Rattle.std.specs.List.{AllByRecursion, sum_by}
use Rattle.ca_base.specs.declared.limits.TheConstants.{MAX_MESSAGE_BYTES}
use Rattle.ca_base.specs.declared.queue_numbers.RequesterNumbers.{RequesterNumbers}
use Rattle.ca_base.specs.declared.request.PostedSend.{PostedSend}
use Rattle.ca_base.specs.objects.QueuePair.{QueuePair}
use Rattle.ca_base.specs.objects.StateTable.{is_path_mtu}
use Rattle.ca_base.specs.objects.WorkQueue.{WorkQueue, item_at, next_place}
use Rattle.ca_model.specs.Requests.{list_of, psns_of}
use Rattle.ca_model.specs.machine.Acknowledgements.{with_requester}
use Rattle.ca_model.specs.machine.Numbering.{Numbered, has_psn, numbers_of, request_at}
use Rattle.ca_model.specs.machine.Invariants.{IsList, IsQueue, IsSend}
use Rattle.ca_model.specs.machine.CanStep.{CanStep}
use Rattle.ca_qp_rows.proofs.QueueLemmas.{items_none, items_past, items_step}
use Rattle.ca_requester_sends.specs.Numbering.{IsNumbered, IsSound, IsWithin, begun_from, numbers_from}

-- a request that is not freed is looked for behind the first
at-place : {T : Type 0} (q : WorkQueue T) (place : ℕ) → q.first ≤ place → item_at place q ≡ slice_get q.items (place - q.first)
at-place q place le = let e : nat_lt place q.first ≡ false = le-ltb place q.first le in rw e

-- what holds of all elements holds of the one at a place
pub all-at : {T : Type 0} (P : T → Type 0) (xs : List T) (i : ℕ) (x : T) → AllByRecursion P xs → slice_get xs i ≡ Some x → P x
all-at P [] i x all e = cc
all-at P (y ∷ ys) zero x all e = subst P (same_Some y x e) all.0
all-at P (y ∷ ys) (suc i) x all e = all-at P ys i x all.1 e

-- what holds of all requests of a queue holds of the one at a place
pub item-all : {T : Type 0} (P : T → Type 0) (q : WorkQueue T) (place : ℕ) (x : T) → AllByRecursion P q.items → q.first ≤ place → item_at place q ≡ Some x → P x
item-all P q place x all le e = all-at P q.items (place - q.first) x all (sym (at-place q place le) ∙ e)

-- a posted request with its place and its PSNs
abbrev pub number_at : ℕ → ℕ → ℕ → PostedSend → Numbered
number_at place psn count p = record { place = place; request = p.request; drawn = p.drawn; first = psn; count = count }

-- the request at a place, numbered, stands before those behind it
pub step-numbers : (q : QueuePair) (place psn count : ℕ) (p : PostedSend) → q.sends.first ≤ place → Some p ≡ item_at place q.sends
    → count ≡ psns_of q.responder.mtu p.request.op
    → numbers_from place psn q ≡ number_at place psn count p ∷ numbers_from (suc place) (psn + count) q
step-numbers q place psn count p le e is = rw is (ap (numbers_of q.responder.mtu place psn) (items_step q.sends place p le (sym e)))

-- where no request is at a place, none is numbered from there on
pub no-numbers : (q : QueuePair) (place psn : ℕ) → q.sends.first ≤ place → None ≡ item_at place q.sends → numbers_from place psn q ≡ []
no-numbers q place psn le e = ap (numbers_of q.responder.mtu place psn) (items_none q.sends place le (sym e))

-- the PSNs behind a request are as narrow
pub step-within : (q : QueuePair) (place psn count : ℕ) (p : PostedSend) → IsWithin place psn q → Some p ≡ item_at place q.sends → count ≤ MAX_MESSAGE_BYTES
    → IsWithin (suc place) (psn + count) q
step-within q place psn count p within e few = record {
  queue = within.queue;
  posted = omega (arith, within.posted);
  narrow = omega (arith, within.narrow, ap length (items_step q.sends place p within.posted (sym e)));
}

-- the list of a posted request is short
pub step_list : (q : QueuePair) (place : ℕ) (p : PostedSend) → IsQueue q → q.sends.first ≤ place → Some p ≡ item_at place q.sends → IsList (list_of p.request.op)
step_list q place p is le e = item-all IsSend q.sends place p is.sends.items le (sym e)

-- a posted request is sound
pub step-sound : (q : QueuePair) (place psn count : ℕ) (p : PostedSend) → IsWithin place psn q → Some p ≡ item_at place q.sends
    → count ≡ psns_of q.responder.mtu p.request.op → count ≤ MAX_MESSAGE_BYTES → place + 1 < 2 ^ 64 → IsSound q (number_at place psn count p)
step-sound q place psn count p within e counted few room = record {
  queue = within.queue;
  list = step_list q place p within.queue within.posted e;
  counted = counted;
  narrow = omega (arith, within.narrow, ap length (items_step q.sends place p within.posted (sym e)));
  room = room;
  posted = sym e;
}

-- the PSNs of the unfinished requests of a queue pair are narrow
pub start_within : (q : QueuePair) → CanStep q → IsWithin q.requester.oldest q.requester.oldest_psn q
start_within q step = record {
  queue = step.queue;
  posted = step.queue.requester.finished;
  narrow = omega (arith, step.narrow.oldest_psn, step.queue.sends.depth, step.queue.sends.room, length-drop (q.requester.oldest - q.sends.first) q.sends.items);
}

-- none is numbered from a place on that is not posted yet
pub past-numbers : (q : QueuePair) (place psn : ℕ) → next_place q.sends ≤ place → numbers_from place psn q ≡ []
past-numbers q place psn le = ap (numbers_of q.responder.mtu place psn) (items_past q.sends place le)

-- where none of the requests from a place on has begun, they have no PSNs
pub none-begun : (next place psn : ℕ) (xs : List Numbered) → next ≤ place → psn ≡ psn + sum_by (λ m. m.count) (take (next - place) xs)
none-begun next place psn xs le = let e : next - place ≡ 0 = omega arith in rw e (omega arith)

-- the PSNs of those that have begun are those of the first, and of the others
pub one-begun : (next place place2 psn psn2 : ℕ) (f : ℕ → ℕ → List Numbered) (xs : List Numbered) (x : Numbered) → place2 ≡ suc place → psn2 ≡ psn + x.count
    → xs ≡ x ∷ f (suc place) (psn + x.count) → place < next
    → psn2 + sum_by (λ m. m.count) (take (next - place2) (f place2 psn2)) ≡ psn + sum_by (λ m. m.count) (take (next - place) xs)
one-begun next place place2 psn psn2 f xs x a b e less =
    let far : next - place ≡ suc (next - suc place) = omega arith in
    rw (a, b, e, far) (omega (arith, sum_by-cons (λ (m : Numbered). m.count) x (take (next - suc place) (f (suc place) (psn + x.count)))))

-- a PSN that is none of the first of them is looked for among the others
pub found-behind : (q : QueuePair) (place next psn more cursor : ℕ) (n : Numbered) → next ≡ suc place → more ≡ psn + n.count
    → place < q.requester.next → numbers_from place psn q ≡ n ∷ numbers_from (suc place) (psn + n.count) q → has_psn cursor n ≡ false
    → find (has_psn cursor) (begun_from next more q) ≡ find (has_psn cursor) (begun_from place psn q)
found-behind q place next psn more cursor n one on before step other =
    let far : q.requester.next - place ≡ suc (q.requester.next - suc place) = omega (arith, before) in
    rw (one, on, step, far, other) refl

-- and the one that begins next is looked for among the others, where it is none of those that have begun
pub begins-behind : (q : QueuePair) (place next psn more : ℕ) (n : Numbered) → next ≡ suc place → more ≡ psn + n.count
    → place < q.requester.next → numbers_from place psn q ≡ n ∷ numbers_from (suc place) (psn + n.count) q
    → slice_get (numbers_from next more q) (q.requester.next - next) ≡ slice_get (numbers_from place psn q) (q.requester.next - place)
begins-behind q place next psn more n one on before step =
    let far : q.requester.next - place ≡ suc (q.requester.next - suc place) = omega (arith, before) in
    rw (one, on, step, far) refl

-- the request of a PSN under other numbers, of which as many have begun
pub at_under : (q : QueuePair) (numbers : RequesterNumbers) (psn : ℕ) → numbers.next ≡ q.requester.next
    → find (has_psn psn) (begun_from numbers.oldest numbers.oldest_psn q) ≡ request_at psn (with_requester numbers q)
at_under q numbers psn next = ap (λ k. find (has_psn psn) (take (k - numbers.oldest) (numbers_from numbers.oldest numbers.oldest_psn q))) (sym next)

-- a path MTU is at most 4096
path-few : (mtu : ℕ) → is_path_mtu mtu ≡ true → mtu ≤ 4096
path-few mtu e = grind (arith, nat_tests)

-- the bytes before a packet are few
pub few_before : (index count mtu : ℕ) → index < count → count ≤ MAX_MESSAGE_BYTES → is_path_mtu mtu ≡ true → index * mtu < 2 ^ 32
few_before index count mtu less few path = omega (arith, mul-le-mul_left index (path-few mtu path), few, less)

-- the request at a place, numbered, with those behind it
pub is_numbered : (q : QueuePair) (place psn count : ℕ) (p : PostedSend) → IsWithin place psn q → Some p ≡ item_at place q.sends
    → count ≡ psns_of q.responder.mtu p.request.op → count ≤ MAX_MESSAGE_BYTES → place + 1 < 2 ^ 64
    → IsNumbered place psn q (number_at place psn count p)
is_numbered q place psn count p within e counted few room = record {
  sound = step-sound q place psn count p within e counted few room;
  before = step-numbers q place psn count p within.posted e counted;
  first = refl;
  room = room;
  within = step-within q place psn count p within e few;
}
