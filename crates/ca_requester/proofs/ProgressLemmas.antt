-- One more request that has begun: whether it is finished, and whether it waits for an answer.
use Rattle.std.proofs.Common.{zero, subst, Option, IfSome, ◌≡◌, ℕ, suc, ◌+◌, ◌-◌, ◌≤◌, ◌<◌, nat_le, nat_lt, max, ◌&&◌, arith, refl, sym, ap, ◌∙◌, Bool, true, false, true≢false, if◌then◌else◌, List, [], ◌∷◌, ◌++◌, find, length, take, sum_by, None, Some}
use Rattle.std.proofs.lemmas.Bool.{le-leb, le-ltb, leb-false, lt-leb, lt-ltb, ltb-false, ltb-true}
use Rattle.std.specs.List.{flat_map, prefix_len, take_while}
use Rattle.std.proofs.lemmas.List.Sums.{sum_by-cons}
use Rattle.ca_base.specs.declared.queue_numbers.RequesterNumbers.{RequesterNumbers}
use Rattle.ca_keys.specs.declared.names.QueueId.{QueueId}
use Rattle.ca_base.specs.declared.request.SendOp.{SendOp}
use Rattle.ca_base.specs.declared.request.SendOp.TheVariants as ops
use Rattle.ca_base.specs.declared.request.PostedSend.{PostedSend}
use Rattle.ca_base.specs.objects.QueuePair.{QueuePair}
use Rattle.ca_base.specs.objects.WorkQueue.{items_from}
use Rattle.ca_model.specs.machine.Acknowledgements.{after_finished, finished_marks, first_unanswered, progress_to, with_requester}
use Rattle.ca_model.specs.Requests.{psns_of}
use Rattle.ca_model.specs.machine.Completions.{success_marks}
use Rattle.ca_model.specs.machine.Numbering.{Numbered, begun_requests, has_psn, is_answered_op, numbers_of, psn_end}
use Rattle.ca_model.specs.machine.CanStep.{CanStep}
use Rattle.ca_requester.specs.declared.progress.Acknowledged.{Acknowledged}
use Rattle.ca_requester.specs.declared.progress.Reached.{Reached}
use Rattle.ca_requester.specs.Progress.{IsAcknowledged, IsBegunAt, IsOldest, IsProgress, IsReached, finished_from, finished_marks_from, if_has_psn, numbers_behind, numbers_with_una, reached_numbers, una_behind}
use Rattle.ca_requester_sends.proofs.NumberingLemmas.{at_under, start_within}
use Rattle.ca_requester_sends.specs.Finished.{success_between, success_from}
use Rattle.ca_requester_sends.specs.Numbering.{AreNumbers, IsNumbered, IsWithin, begun_from, numbers_from}

-- a choice that is not made
skips : (b : Bool) (x y : Option ℕ) → b ≡ false → y ≡ None → (if b then x else y) ≡ None
skips true x y e f = absurd (true≢false e)
skips false x y e f = f

-- all of three things hold only where the third does
no-third : (a b c : Bool) → c ≡ false → (a && b && c) ≡ false
no-third true true c e = e
no-third true false c e = refl
no-third false b c e = refl

-- the requests that have begun, from one on
pub begun-step : (q : QueuePair) (place psn : ℕ) (n : Numbered) → place < q.requester.next
    → numbers_from place psn q ≡ n ∷ numbers_from (suc place) (psn + n.count) q
    → begun_from place psn q ≡ n ∷ begun_from (suc place) (psn + n.count) q
begun-step q place psn n before step =
    ap (λ ns. take (q.requester.next - place) ns) step
    ∙ ap (λ k. take k (n ∷ numbers_from (suc place) (psn + n.count) q)) one
  where
    one : q.requester.next - place ≡ suc (q.requester.next - suc place)
    one = omega (arith, before)

pub finished-none : (q : QueuePair) (place psn una : ℕ) (n : Numbered) → place < q.requester.next
    → numbers_from place psn q ≡ n ∷ numbers_from (suc place) (psn + n.count) q → una < psn_end n
    → finished_from place psn una q ≡ []
finished-none q place psn una n before step above =
    rw (begun-step q place psn n before step, lt-leb (psn_end n) una above) refl

finished-step : (q : QueuePair) (place psn una : ℕ) (n : Numbered) → place < q.requester.next
    → numbers_from place psn q ≡ n ∷ numbers_from (suc place) (psn + n.count) q → psn_end n ≤ una
    → finished_from place psn una q ≡ n ∷ finished_from (suc place) (psn + n.count) una q
finished-step q place psn una n before step done =
    rw (begun-step q place psn n before step, le-leb (psn_end n) una done)
    (ap (λ k. take k (n ∷ begun_from (suc place) (psn + n.count) q)) one)
  where
    rest : ℕ
    rest = prefix_len (λ n. nat_le (psn_end n) una) (begun_from (suc place) (psn + n.count) q)

    one : 1 + rest ≡ suc rest
    one = omega arith

pub finished-places : (q : QueuePair) (place next psn more una : ℕ) (n : Numbered) → next ≡ suc place → more ≡ psn + n.count
    → place < q.requester.next → numbers_from place psn q ≡ n ∷ numbers_from (suc place) (psn + n.count) q → psn_end n ≤ una
    → place + length (finished_from place psn una q) ≡ next + length (finished_from next more una q)
finished-places q place next psn more una n one on first step done =
    rw (finished-step q place psn una n first step done, one, on) (omega arith)

pub finished-psns : (q : QueuePair) (place next psn more una : ℕ) (n : Numbered) → next ≡ suc place → more ≡ psn + n.count
    → place < q.requester.next → numbers_from place psn q ≡ n ∷ numbers_from (suc place) (psn + n.count) q → psn_end n ≤ una
    → psn + sum_by (λ n. n.count) (finished_from place psn una q) ≡ more + sum_by (λ n. n.count) (finished_from next more una q)
finished-psns q place next psn more una n one on first step done =
    rw (finished-step q place psn una n first step done, one, on)
    (omega (arith, sum_by-cons (λ m. m.count) n (finished_from (suc place) (psn + n.count) una q)))

-- whether this one waits for an answer, or one behind it
pub unanswered-here : (q : QueuePair) (place psn una end : ℕ) (n : Numbered) → place < q.requester.next
    → numbers_from place psn q ≡ n ∷ numbers_from (suc place) (psn + n.count) q
    → (is_answered_op n.request.op && nat_lt una (psn_end n) && nat_lt (max una n.first) end) ≡ true
    → first_unanswered una end (begun_from place psn q) ≡ Some (max una n.first)
unanswered-here q place psn una end n first step waits = rw (begun-step q place psn n first step, waits) refl

pub unanswered-behind : (q : QueuePair) (place next psn more una end : ℕ) (n : Numbered) → next ≡ suc place → more ≡ psn + n.count
    → place < q.requester.next → numbers_from place psn q ≡ n ∷ numbers_from (suc place) (psn + n.count) q
    → (is_answered_op n.request.op && nat_lt una (psn_end n) && nat_lt (max una n.first) end) ≡ false
    → first_unanswered una end (begun_from place psn q) ≡ first_unanswered una end (begun_from next more q)
unanswered-behind q place next psn more una end n one on first step waits = rw (begun-step q place psn n first step, waits, one, on) refl

-- the requests that have begun, under other numbers
under : (q : QueuePair) (numbers : RequesterNumbers) (una : ℕ) → numbers.next ≡ q.requester.next
    → take_while (λ n. nat_le (psn_end n) una) (begun_requests (with_requester numbers q)) ≡ finished_from numbers.oldest numbers.oldest_psn una q
under q numbers una next = ap (λ k. take_while (λ n. nat_le (psn_end n) una) (take (k - numbers.oldest) (numbers_from numbers.oldest numbers.oldest_psn q))) next

-- `una` after an acknowledgement that goes on, and after one that goes back
pub grown_on : (psn : ℕ) (r : RequesterNumbers) → max r.una psn ≡ (numbers_with_una psn r).una
grown_on psn r = by (nat_lt r.una psn) refl
  where
    by : (b : Bool) → nat_lt r.una psn ≡ b → max r.una psn ≡ (if b then record r { una = psn; retries = 0; rnrs = 0 } else r).una
    by true e = omega (arith, ltb-true r.una psn e)
    by false e = omega (arith, ltb-false r.una psn e)

pub grown_back : (back : ℕ) (r : RequesterNumbers) → r.una ≤ back → back ≡ (numbers_with_una back r).una
grown_back back r le = omega (arith, le, grown_on back r)

-- where `una` is there already, nothing is gone back to
none-below : (una : ℕ) (ns : List Numbered) → first_unanswered una una ns ≡ None
none-below una [] = refl
none-below una (n ∷ ns) = skips (is_answered_op n.request.op && nat_lt una (psn_end n) && nat_lt (max una n.first) una) (Some (max una n.first)) (first_unanswered una una ns)
    (no-third (is_answered_op n.request.op) (nat_lt una (psn_end n)) (nat_lt (max una n.first) una) (le-ltb (max una n.first) una (omega arith))) (none-below una ns)

pub reached_alone : (una : ℕ) (back : Option ℕ) (ns : List Numbered) → back ≡ first_unanswered una una ns → una ≡ una_behind una una back
reached_alone una back ns e = rw (e ∙ none-below una ns) (omega arith)

-- among requests that begin at a PSN or behind it, none has one below it
later-none : (una end mtu place psn k : ℕ) (ps : List PostedSend) → end ≤ psn → first_unanswered una end (take k (numbers_of mtu place psn ps)) ≡ None
later-none una end mtu place psn zero ps far = refl
later-none una end mtu place psn (suc k) [] far = refl
later-none una end mtu place psn (suc k) (p ∷ ps) far = skips (is_answered_op p.request.op && nat_lt una (psn + psns_of mtu p.request.op) && nat_lt (max una psn) end) (Some (max una psn))
    (first_unanswered una end (take k (numbers_of mtu (suc place) (psn + psns_of mtu p.request.op) ps)))
    (no-third (is_answered_op p.request.op) (nat_lt una (psn + psns_of mtu p.request.op)) (nat_lt (max una psn) end) (le-ltb (max una psn) end (omega (arith, far))))
    (later-none una end mtu (suc place) (psn + psns_of mtu p.request.op) k ps (omega (arith, far)))

-- where a request ends behind a PSN and waits for no answer below it, none behind it does
pub unanswered-none : (q : QueuePair) (place psn una end : ℕ) (n : Numbered) → place < q.requester.next
    → numbers_from place psn q ≡ n ∷ numbers_from (suc place) (psn + n.count) q
    → (is_answered_op n.request.op && nat_lt una (psn_end n) && nat_lt (max una n.first) end) ≡ false
    → n.first ≡ psn → (last : ℕ) → last ≡ psn_end n → end ≤ last
    → None ≡ first_unanswered una end (begun_from place psn q)
unanswered-none q place psn una end n first step waits at last e far =
    sym (unanswered-behind q place (suc place) psn (psn + n.count) una end n refl refl first step waits
    ∙ later-none una end q.responder.mtu (suc place) (psn + n.count) (q.requester.next - suc place) (items_from (suc place) q.sends) (omega (arith, far, e, at)))

-- a request that ends below the PSN is finished, wherever it goes on
pub ends-before : (una psn first next last : ℕ) (n : Numbered) (back : Option ℕ) → last ≡ psn_end n → n.first ≡ first → next ≡ first + n.count
    → last ≤ max una psn → IfSome back (λ b. (una ≤ b) × (next ≤ b)) → psn_end n ≤ una_behind una psn back
ends-before una psn first next last n None e at more le behind = omega (arith, e, le)
ends-before una psn first next last n (Some back) e at more le behind = omega (arith, at, more, behind.1)

-- a request that waits for an answer ends behind the PSN that it waits for
answered-psns : (mtu : ℕ) (op : SendOp) → is_answered_op op ≡ true → 0 < psns_of mtu op
answered-psns mtu (ops.Read address key list) e = omega arith
answered-psns mtu (ops.CmpSwap address key compare swap list) e = omega arith
answered-psns mtu (ops.FetchAdd address key add list) e = omega arith
answered-psns mtu op e = absurd (true≢false (sym e))

first-two : (a b c : Bool) → (a && b && c) ≡ true → (a ≡ true) × (b ≡ true)
first-two true true c e = (refl, refl)
first-two true false c e = absurd (true≢false (sym e))
first-two false b c e = absurd (true≢false (sym e))

pub ends-behind : (mtu una end back : ℕ) (n : Numbered) → back ≡ max una n.first → n.count ≡ psns_of mtu n.request.op
    → (is_answered_op n.request.op && nat_lt una (psn_end n) && nat_lt (max una n.first) end) ≡ true → back < psn_end n
ends-behind mtu una end back n e counted waits =
    omega (arith, e, counted, answered-psns mtu n.request.op both.0, ltb-true una (psn_end n) both.1)
  where
    both : (is_answered_op n.request.op ≡ true) × (nat_lt una (psn_end n) ≡ true)
    both = first-two (is_answered_op n.request.op) (nat_lt una (psn_end n)) (nat_lt (max una n.first) end) waits

pub progress_queue : (q : QueuePair) (numbers : RequesterNumbers) (psn una place first : ℕ) → numbers.next ≡ q.requester.next
    → una ≡ (numbers_with_una psn numbers).una
    → place ≡ numbers.oldest + length (finished_from numbers.oldest numbers.oldest_psn una q)
    → first ≡ numbers.oldest_psn + sum_by (λ n. n.count) (finished_from numbers.oldest numbers.oldest_psn una q)
    → with_requester (record (numbers_with_una psn numbers) { oldest = place; oldest_psn = first }) q ≡ (progress_to psn (with_requester numbers q)).queue
progress_queue q numbers psn una place first next grows at psns = by (nat_lt numbers.una psn) (subst P grows at) (subst F grows psns)
  where
    P : ℕ → Type 0
    P u = place ≡ numbers.oldest + length (finished_from numbers.oldest numbers.oldest_psn u q)

    F : ℕ → Type 0
    F u = first ≡ numbers.oldest_psn + sum_by (λ n. n.count) (finished_from numbers.oldest numbers.oldest_psn u q)

    grown : Bool → RequesterNumbers
    grown b = if b then record numbers { una = psn; retries = 0; rnrs = 0 } else numbers

    by : (b : Bool) → place ≡ numbers.oldest + length (finished_from numbers.oldest numbers.oldest_psn (grown b).una q)
        → first ≡ numbers.oldest_psn + sum_by (λ n. n.count) (finished_from numbers.oldest numbers.oldest_psn (grown b).una q)
        → with_requester (record (grown b) { oldest = place; oldest_psn = first }) q
        ≡ after_finished (if b then with_requester (record numbers { una = psn; retries = 0; rnrs = 0 }) (with_requester numbers q) else with_requester numbers q)
    by true at psns = rw (at, psns, under q numbers psn next) refl
    by false at psns = rw (at, psns, under q numbers numbers.una next) refl

progress-marks : (q : QueuePair) (numbers : RequesterNumbers) (psn : ℕ) → numbers.next ≡ q.requester.next
    → (progress_to psn (with_requester numbers q)).marks ≡ finished_marks_from numbers.oldest numbers.oldest_psn (numbers_with_una psn numbers).una q
progress-marks q numbers psn next = by (nat_lt numbers.una psn)
  where
    grown : Bool → RequesterNumbers
    grown b = if b then record numbers { una = psn; retries = 0; rnrs = 0 } else numbers

    by : (b : Bool) → finished_marks (if b then with_requester (record numbers { una = psn; retries = 0; rnrs = 0 }) (with_requester numbers q) else with_requester numbers q)
        ≡ finished_marks_from numbers.oldest numbers.oldest_psn (grown b).una q
    by true = ap (λ ns. flat_map (λ n. success_marks q.queue n.place n.request) ns) (under q numbers psn next)
    by false = ap (λ ns. flat_map (λ n. success_marks q.queue n.place n.request) ns) (under q numbers numbers.una next)

-- the completions of numbered requests are those of the requests, from a place on
success-numbers : (queue : QueueId) (mtu place psn k : ℕ) (ps : List PostedSend)
    → flat_map (λ n. success_marks queue n.place n.request) (take k (numbers_of mtu place psn ps)) ≡ success_from queue place (take k ps)
success-numbers queue mtu place psn zero ps = refl
success-numbers queue mtu place psn (suc k) [] = refl
success-numbers queue mtu place psn (suc k) (p ∷ ps) =
    ap (λ ms. success_marks queue place p.request ++ ms) (success-numbers queue mtu (suc place) (psn + psns_of mtu p.request.op) k ps)

-- the first of the first few
took : (k m : ℕ) (ns : List Numbered) → take k (take m ns) ≡ take (length (take k (take m ns))) ns
took zero m ns = refl
took (suc k) zero ns = refl
took (suc k) (suc m) [] = refl
took (suc k) (suc m) (n ∷ ns) = ap (λ xs. n ∷ xs) (took k m ns)

pub progress_success : (q : QueuePair) (numbers : RequesterNumbers) (psn una place : ℕ) → numbers.next ≡ q.requester.next
    → una ≡ (numbers_with_una psn numbers).una
    → place ≡ numbers.oldest + length (finished_from numbers.oldest numbers.oldest_psn una q)
    → (progress_to psn (with_requester numbers q)).marks ≡ success_between numbers.oldest place q
progress_success q numbers psn una place next grows at =
    progress-marks q numbers psn next
    ∙ ap (λ u. finished_marks_from numbers.oldest numbers.oldest_psn u q) (sym grows)
    ∙ ap (λ ns. flat_map (λ n. success_marks q.queue n.place n.request) ns)
    (took (prefix_len (λ n. nat_le (psn_end n) una) (begun_from numbers.oldest numbers.oldest_psn q)) (q.requester.next - numbers.oldest) (numbers_from numbers.oldest numbers.oldest_psn q))
    ∙ success-numbers q.queue q.responder.mtu numbers.oldest numbers.oldest_psn (length (finished_from numbers.oldest numbers.oldest_psn una q)) (items_from numbers.oldest q.sends)
    ∙ ap (λ k. success_from q.queue numbers.oldest (take k (items_from numbers.oldest q.sends))) count
  where
    count : length (finished_from numbers.oldest numbers.oldest_psn una q) ≡ place - numbers.oldest
    count = omega (arith, at)

-- the numbers that a queue pair has
pub own_numbers : (q : QueuePair) → CanStep q → AreNumbers q q.requester
own_numbers q step = record {
  within = start_within q step;
  next = refl;
  oldest = omega arith;
  begun = step.queue.requester.begun;
  retries = omega (arith, step.queue.requester.retried, step.queue.requester.retry);
  rnrs = step.narrow.rnrs;
}

-- numbers up to where an acknowledgement goes may be gone on with
kept : (q : QueuePair) (from : RequesterNumbers) (psn place first : ℕ) → AreNumbers q from → IsWithin place first q
    → (from.oldest ≤ q.requester.next → place ≤ q.requester.next) → from.oldest ≤ place
    → AreNumbers q (reached_numbers psn place first from)
kept q from psn place first are within begun later = by (nat_lt from.una psn)
  where
    begun_now : place ≤ from.next
    begun_now = omega (arith, are.next, begun (omega (arith, are.begun, are.next)))

    by : (b : Bool) → AreNumbers q (record (if b then record from { una = psn; retries = 0; rnrs = 0 } else from) { oldest = place; oldest_psn = first })
    by true = record {
      within = within;
      next = are.next;
      oldest = omega (arith, are.oldest, later);
      begun = begun_now;
      retries = omega arith;
      rnrs = omega arith;
    }
    by false = record {
      within = within;
      next = are.next;
      oldest = omega (arith, are.oldest, later);
      begun = begun_now;
      retries = are.retries;
      rnrs = are.rnrs;
    }

-- what is reached under a PSN is how far numbers go
is_progress : (q : QueuePair) (from : RequesterNumbers) (psn una place first : ℕ) → AreNumbers q from
    → place ≡ from.oldest + length (finished_from from.oldest from.oldest_psn una q)
    → first ≡ from.oldest_psn + sum_by (λ n. n.count) (finished_from from.oldest from.oldest_psn una q)
    → IsWithin place first q → (from.oldest ≤ q.requester.next → place ≤ q.requester.next) → una ≡ (numbers_with_una psn from).una
    → IsProgress psn from (reached_numbers psn place first from) q
is_progress q from psn una place first are at psns within begun grows = record {
  may = kept q from psn place first are within begun later;
  later = later;
  queue = progress_queue q from psn una place first are.next grows at psns;
  finished = progress_success q from psn una place are.next grows at;
}
  where
    later : from.oldest ≤ place
    later = omega (arith, at)

pub goes_on : (q : QueuePair) (psn : ℕ) (r : Reached) → CanStep q → IsReached q.requester.oldest q.requester.oldest_psn q.requester.una psn q r → r.back ≡ None
    → IsAcknowledged psn q (record { until = psn; went_back = false; posting = r.posting; first = r.first })
goes_on q psn r step is e = record {
  makes = rw (sym is.back ∙ e) refl;
  progress = is_progress q q.requester psn (una_behind q.requester.una psn r.back) r.posting r.first (own_numbers q step) is.posting is.at is.within is.begun
      (ap (una_behind q.requester.una psn) e ∙ grown_on psn q.requester);
  on = λ f. refl;
}

pub goes_back : (q : QueuePair) (psn back : ℕ) (r : Reached) → CanStep q → IsReached q.requester.oldest q.requester.oldest_psn q.requester.una psn q r → r.back ≡ Some back
    → IsAcknowledged psn q (record { until = back; went_back = true; posting = r.posting; first = r.first })
goes_back q psn back r step is e = record {
  makes = rw (sym is.back ∙ e) refl;
  progress = is_progress q q.requester back (una_behind q.requester.una psn r.back) r.posting r.first (own_numbers q step) is.posting is.at is.within is.begun
      (ap (una_behind q.requester.una psn) e ∙ grown_back back q.requester (subst P e is.behind).0);
  on = λ f. absurd (true≢false f);
}
  where
    P : Option ℕ → Type 0
    P o = IfSome o (λ back. (q.requester.una ≤ back) × (q.requester.oldest_psn ≤ back))

-- among requests that begin behind a PSN, none has it
later-has-none : (psn mtu place first k : ℕ) (ps : List PostedSend) → psn < first → find (has_psn psn) (take k (numbers_of mtu place first ps)) ≡ None
later-has-none psn mtu place first zero ps far = refl
later-has-none psn mtu place first (suc k) [] far = refl
later-has-none psn mtu place first (suc k) (p ∷ ps) far =
    rw (lt-leb first psn far) (later-has-none psn mtu (suc place) (first + psns_of mtu p.request.op) k ps (omega (arith, far)))

-- a request that ends behind a PSN and has it not begins behind it
begins-later : (psn : ℕ) (n : Numbered) → psn < psn_end n → has_psn psn n ≡ false → psn < n.first
begins-later psn n before e = by (nat_le n.first psn) refl
  where
    by : (b : Bool) → nat_le n.first psn ≡ b → psn < n.first
    by true f = absurd (true≢false (sym (rw (f, lt-ltb psn (psn_end n) before) refl) ∙ e))
    by false f = leb-false n.first psn f

-- of those that have begun, the one at which an acknowledgement ends alone may have the PSN
found-oldest : (q : QueuePair) (place first una psn : ℕ) (o : Option Numbered) → IsBegunAt place first q o → IfSome o (λ n. max una psn < psn_end n)
    → if_has_psn psn o ≡ find (has_psn psn) (begun_from place first q)
found-oldest q place first una psn None none ends = rw none refl
found-oldest q place first una psn (Some n) at ends =
    rw (begun-step q place first n at.1 at.0.before) (by (has_psn psn n) refl)
  where
    by : (b : Bool) → has_psn psn n ≡ b
        → (if b then Some n else None) ≡ (if b then Some n else find (has_psn psn) (begun_from (suc place) (first + n.count) q))
    by true e = refl
    by false e = sym (later-has-none psn q.responder.mtu (suc place) (first + n.count) (q.requester.next - suc place) (items_from (suc place) q.sends)
        (omega (arith, at.0.first, begins-later psn n (omega (arith, ends)) e)))

pub oldest_on : (q : QueuePair) (psn : ℕ) (r : Reached) → CanStep q → IsReached q.requester.oldest q.requester.oldest_psn q.requester.una psn q r → r.back ≡ None
    → IsOldest psn q (record { until = psn; went_back = false; posting = r.posting; first = r.first }) r.request
oldest_on q psn r step is e = record {
  at = is.request;
  has = λ f.
      found-oldest q r.posting r.first q.requester.una psn r.request is.request (is.ends e)
      ∙ at_under q (reached_numbers psn r.posting r.first q.requester) psn (goes_on q psn r step is e).progress.may.next;
}

pub oldest_back : (q : QueuePair) (psn back : ℕ) (r : Reached) → IsReached q.requester.oldest q.requester.oldest_psn q.requester.una psn q r
    → IsOldest psn q (record { until = back; went_back = true; posting = r.posting; first = r.first }) r.request
oldest_back q psn back r is = record { at = is.request; has = λ f. absurd (true≢false f) }

-- numbers behind one acknowledgement and another are those behind the latter
twice : (psn place first next more : ℕ) (r : RequesterNumbers)
    → reached_numbers (suc psn) next more (reached_numbers psn place first r) ≡ reached_numbers (suc psn) next more r
twice psn place first next more r = by (nat_lt r.una psn) refl
  where
    by : (b : Bool) → nat_lt r.una psn ≡ b
        → reached_numbers (suc psn) next more (record (if b then record r { una = psn; retries = 0; rnrs = 0 } else r) { oldest = place; oldest_psn = first })
        ≡ reached_numbers (suc psn) next more r
    by true e = rw (lt-ltb psn (suc psn) (omega arith), lt-ltb r.una (suc psn) (omega (arith, ltb-true r.una psn e))) refl
    by false e = last (nat_lt r.una (suc psn))
      where
        last : (b : Bool)
            → record (if b then record (record r { oldest = place; oldest_psn = first }) { una = suc psn; retries = 0; rnrs = 0 } else record r { oldest = place; oldest_psn = first }) { oldest = next; oldest_psn = more }
            ≡ record (if b then record r { una = suc psn; retries = 0; rnrs = 0 } else r) { oldest = next; oldest_psn = more }
        last true = refl
        last false = refl

-- `una` behind both
grown-twice : (psn place first : ℕ) (r : RequesterNumbers) → max r.una (suc psn) ≡ (numbers_with_una (suc psn) (reached_numbers psn place first r)).una
grown-twice psn place first r = omega (arith, grown_on psn r, grown_on (suc psn) (reached_numbers psn place first r))

-- what an answer acknowledges, by how far that goes
answered : (q : QueuePair) (a : Acknowledged) (until una place first : ℕ) → IsProgress a.until q.requester (numbers_behind a q) q
    → until ≡ suc a.until → una ≡ max q.requester.una until
    → place ≡ a.posting + length (finished_from a.posting a.first una q)
    → first ≡ a.first + sum_by (λ n. n.count) (finished_from a.posting a.first una q)
    → IsWithin place first q → place ≤ q.requester.next
    → IsProgress (suc a.until) (numbers_behind a q) (reached_numbers until place first q.requester) q
answered q a until una place first progress e grows at psns within begun =
    rw (e, ← twice a.until a.posting a.first place first q.requester)
    (is_progress q (numbers_behind a q) (suc a.until) una place first progress.may at psns within (λ le. begun)
    (grows ∙ ap (max q.requester.una) e ∙ grown-twice a.until a.posting a.first q.requester))

-- where its request has more answers to come
pub answered_here : (q : QueuePair) (a : Acknowledged) (until una : ℕ) (n : Numbered) → IsProgress a.until q.requester (numbers_behind a q) q
    → IsNumbered a.posting a.first q n → a.posting < q.requester.next → until ≡ suc a.until → una ≡ max q.requester.una until → una < psn_end n
    → IsProgress (suc a.until) (numbers_behind a q) (reached_numbers until a.posting a.first q.requester) q
answered_here q a until una n progress is before e grows above =
    answered q a until una a.posting a.first progress e grows
    (omega (arith, ap length none)) (omega (arith, ap (sum_by (λ (n : Numbered). n.count)) none)) progress.may.within (omega (arith, before))
  where
    none : finished_from a.posting a.first una q ≡ []
    none = finished-none q a.posting a.first una n before is.before above

-- and where it has not
pub answered_past : (q : QueuePair) (a : Acknowledged) (until una next more : ℕ) (n : Numbered) (r : Reached) → IsProgress a.until q.requester (numbers_behind a q) q
    → IsNumbered a.posting a.first q n → a.posting < q.requester.next → until ≡ suc a.until → una ≡ max q.requester.una until
    → next ≡ suc a.posting → more ≡ psn_end n → more ≤ una → IsReached next more una una q r
    → IsProgress (suc a.until) (numbers_behind a q) (reached_numbers until r.posting r.first q.requester) q
answered_past q a until una next more n r progress is before e grows one on done reached =
    answered q a until una r.posting r.first progress e grows
    (reached.posting
    ∙ ap (λ u. next + length (finished_from next more u q)) (sym alone)
    ∙ sym (finished-places q a.posting next a.first more una n one behind before is.before (omega (arith, on, done))))
    (reached.at
    ∙ ap (λ u. more + sum_by (λ n. n.count) (finished_from next more u q)) (sym alone)
    ∙ sym (finished-psns q a.posting next a.first more una n one behind before is.before (omega (arith, on, done))))
    reached.within (reached.begun (omega (arith, before, one)))
  where
    alone : una ≡ una_behind una una r.back
    alone = reached_alone una r.back (begun_from next more q) reached.back

    behind : more ≡ a.first + n.count
    behind = omega (arith, on, is.first)

-- where none has begun from a place on, none is finished
pub finished-past : (q : QueuePair) (place psn una : ℕ) → begun_from place psn q ≡ [] → finished_from place psn una q ≡ []
finished-past q place psn una e = rw e refl

-- what lies behind a PSN lies behind an earlier one
pub behind-earlier : (una earlier later : ℕ) (back : Option ℕ) → earlier ≤ later → IfSome back (λ b. (una ≤ b) × (later ≤ b)) → IfSome back (λ b. (una ≤ b) × (earlier ≤ b))
behind-earlier una earlier later None le behind = tt
behind-earlier una earlier later (Some b) le behind = (behind.0, omega (arith, le, behind.1))
