-- What acknowledgements, retries and timers make of a queue pair that can come up.
use Rattle.std.proofs.Common.{zero, ◌≡◌, ℕ, suc, ◌+◌, ◌-◌, ◌≤◌, max, nat_le, nat_lt, arith, Bool, true, false, List, [], ◌∷◌, ◌++◌, length, take, None, ap, ap₂, ◌∙◌, subst, true≢false, sym, if◌then◌else◌, refl}
use Rattle.std.proofs.lemmas.Bool.{leb-false, ltb-true}
use Rattle.std.proofs.lemmas.List.{length-take}
use Rattle.std.specs.List.{flat_map, prefix_len, take_while}
use Rattle.ca_base.specs.declared.change.State.{State}
use Rattle.ca_base.specs.declared.change.State.TheVariants as states
use Rattle.ca_base.specs.declared.completion.WcStatus.TheVariants.{RetryExceeded}
use Rattle.ca_base.specs.declared.request.PostedSend.{PostedSend}
use Rattle.ca_keys.specs.declared.names.QueueId.{QueueId}
use Rattle.ca_base.specs.objects.QueuePair.{QueuePair}
use Rattle.ca_base.specs.objects.WorkQueue.{items_from}
use Rattle.ca_model.specs.machine.Acknowledgements.{after_finished, failure_effects, finished_marks, finished_requests, one_retry, progress_to, with_cursor, with_requester, with_una}
use Rattle.ca_model.specs.declared.mark.Mark.TheVariants as marks
use Rattle.ca_base.specs.declared.completion.WcStatus.TheVariants.{Success}
use Rattle.ca_model.specs.machine.Completions.{bytes_of_success, send_completion, success_marks}
use Rattle.ca_model.specs.machine.Numbering.{Numbered, begun_requests, numbers_of, psn_end, unfinished_requests}
use Rattle.ca_model.specs.machine.Places.{Ascend, places_done, places_in_use}
use Rattle.ca_model.specs.machine.Row.{Effects, queue_and_marks}
use Rattle.ca_model.specs.machine.Invariants.{IsQueue, is_fresh, is_sending}
use Rattle.ca_law_world.proofs.Sound.NumberingLemmas.{finished-end}
use Rattle.ca_law_world.proofs.Sound.GoodLemmas.{AreSettledMarks, IsGood, IsLater, failing-queue, failure-good, later-on, later-same, requester-queue, settled-append, taken-same}
use Rattle.ca_law_world.proofs.Sound.OrderLemmas.{IsSameWork, ascend-low, order-from, order-still, places-append, taken-still}

-- numbered requests stand at places one after another
abbrev Places : ℕ → List Numbered → Type 0
Places place [] = Unit {0}
Places place (n ∷ ns) = (n.place ≡ place) × Places (suc place) ns

numbers-places : (mtu place psn : ℕ) (ps : List PostedSend) → Places place (numbers_of mtu place psn ps)
numbers-places mtu place psn [] = record {}
numbers-places mtu place psn (p ∷ ps) = (refl, numbers-places mtu (suc place) _ ps)

take-places : (k place : ℕ) (ns : List Numbered) → Places place ns → Places place (take k ns)
take-places zero place ns all = record {}
take-places (suc k) place [] all = record {}
take-places (suc k) place (n ∷ ns) all = (all.0, take-places k (suc place) ns all.1)

while-places : (test : Numbered → Bool) (place : ℕ) (ns : List Numbered) → Places place ns → Places place (take_while test ns)
while-places test place ns all = take-places (prefix_len test ns) place ns all

while-length : (test : Numbered → Bool) (ns : List Numbered) → length (take_while test ns) ≤ length ns
while-length test ns = omega (arith, length-take (prefix_len test ns) ns)

pub finished-count : (q : QueuePair) → length (finished_requests q) ≤ q.requester.next - q.requester.oldest
finished-count q = omega (
  arith,
  while-length (λ n. nat_le (psn_end n) q.requester.una) (begun_requests q),
  length-take (q.requester.next - q.requester.oldest) (unfinished_requests q),
)

-- what completes with success is finished
success-settled : (q p : QueuePair) (place : ℕ) (ns : List Numbered) → p.queue ≡ q.queue → Places place ns → place + length ns ≤ p.requester.oldest
    → AreSettledMarks p (flat_map (λ n. success_marks q.queue n.place n.request) ns)
success-settled q p place [] same places enough = record {}
success-settled q p place (n ∷ ns) same places enough =
    settled-append p (success_marks q.queue n.place n.request) _ (by n.request.signalled)
    (success-settled q p (suc place) ns same places.1 (omega (arith, enough)))
  where
    by : (b : Bool) → AreSettledMarks p (if b then marks.Done q.queue (send_completion q.queue n.place n.request Success (bytes_of_success n.request.op)) None ∷ [] else [])
    by true = ((sym same, omega (arith, enough, places.0)), record {})
    by false = record {}

-- and stands in order
success-ascends : (queue : QueueId) (place high : ℕ) (ns : List Numbered) → Places place ns → place + length ns ≤ high
    → Ascend place high (places_done false (flat_map (λ n. success_marks queue n.place n.request) ns))
success-ascends queue place high [] places enough = omega (arith, enough)
success-ascends queue place high (n ∷ ns) places enough =
    subst (Ascend place high) (sym (places-append false (success_marks queue n.place n.request) (flat_map (λ n. success_marks queue n.place n.request) ns)))
    (by n.request.signalled (success-ascends queue (suc place) high ns places.1 (omega (arith, enough))))
  where
    by : (b : Bool) → Ascend (suc place) high (places_done false (flat_map (λ n. success_marks queue n.place n.request) ns))
        → Ascend place high (places_done false (if b then marks.Done queue (send_completion queue n.place n.request Success (bytes_of_success n.request.op)) None ∷ [] else [])
        ++ places_done false (flat_map (λ n. success_marks queue n.place n.request) ns))
    by true rest = (
      omega (arith, places.0),
      ascend-low (suc n.place) (suc place) high (places_done false (flat_map (λ n. success_marks queue n.place n.request) ns)) (omega (arith, places.0)) rest,
    )
    by false rest = ascend-low place (suc place) high (places_done false (flat_map (λ n. success_marks queue n.place n.request) ns)) (omega arith) rest

success-sends : (queue : QueueId) (ns : List Numbered) → places_done true (flat_map (λ n. success_marks queue n.place n.request) ns) ≡ []
success-sends queue [] = refl
success-sends queue (n ∷ ns) = places-append true (success_marks queue n.place n.request) (flat_map (λ n. success_marks queue n.place n.request) ns)
    ∙ ap₂ (λ xs ys. xs ++ ys) (by n.request.signalled) (success-sends queue ns)
  where
    by : (b : Bool) → places_done true (if b then marks.Done queue (send_completion queue n.place n.request Success (bytes_of_success n.request.op)) None ∷ [] else []) ≡ []
    by true = refl
    by false = refl

una-queue : (psn : ℕ) (q : QueuePair) → IsQueue q → psn ≤ q.requester.cursor → IsQueue (with_una psn q)
una-queue psn q s most = by (nat_lt q.requester.una psn) refl
  where
    grown : QueuePair
    grown = with_requester (record q.requester { una = psn; retries = 0; rnrs = 0 }) q

    by : (b : Bool) → nat_lt q.requester.una psn ≡ b → IsQueue (if b then grown else q)
    by false e = s
    by true e = requester-queue q (record q.requester { una = psn; retries = 0; rnrs = 0 }) s (record {
      finished = s.requester.finished;
      begun = s.requester.begun;
      waiting = s.requester.waiting;
      base = omega (arith, s.requester.base, ltb-true q.requester.una psn e);
      outstanding = most;
      retry = s.requester.retry;
      rnr_retry = s.requester.rnr_retry;
      reads = s.requester.reads;
      retried = omega arith;
      retries = λ sending. omega arith;
      fresh = λ fresh. refl;
    }) s.begun

finished-good : (q : QueuePair) → IsQueue q → IsGood q (queue_and_marks (after_finished q) (finished_marks q))
finished-good q s = record {
  sound = requester-queue q _ s (record {
    finished = omega (arith, s.requester.finished);
    begun = omega (arith, finished-count q, s.requester.begun);
    waiting = s.requester.waiting;
    base = s.requester.base;
    outstanding = s.requester.outstanding;
    retry = s.requester.retry;
    rnr_retry = s.requester.rnr_retry;
    reads = s.requester.reads;
    retried = s.requester.retried;
    retries = s.requester.retries;
    fresh = s.requester.fresh;
  }) (λ sending. omega (arith, s.begun sending, finished-end q s.requester.finished));
  later = record { queue = refl; domain = refl; send_cq = refl; recv_cq = refl; srq = refl; finished = omega arith; taken = taken-same q.receives };
  settled = success-settled q (after_finished q) q.requester.oldest (finished_requests q) refl places (omega arith);
  order = record {
    sends = refl;
    done = success-ascends q.queue q.requester.oldest (after_finished q).requester.oldest (finished_requests q) places (omega arith);
    own = taken-still q.receives q.responder.message q.responder.message (finished_marks q) refl (success-sends q.queue (finished_requests q));
    held = λ none takes. ap (λ xs. xs ++ places_in_use q.responder.message) (success-sends q.queue (finished_requests q));
  };
}
  where
    places : Places q.requester.oldest (finished_requests q)
    places = while-places (λ n. nat_le (psn_end n) q.requester.una) q.requester.oldest (begun_requests q)
        (take-places (q.requester.next - q.requester.oldest) q.requester.oldest (unfinished_requests q)
        (numbers-places q.responder.mtu q.requester.oldest q.requester.oldest_psn (items_from q.requester.oldest q.sends)))

-- effects of a queue pair later, with the same work
pub good-from : (q p : QueuePair) (e : Effects) → IsLater q p → IsSameWork q p → IsGood p e → IsGood q e
good-from q p e later same good = record {
  sound = good.sound;
  later = later-on q p e.queue later good.later;
  settled = good.settled;
  order = order-from q p e same good.order;
}

una-later : (psn : ℕ) (q : QueuePair) → IsLater q (with_una psn q)
una-later psn q = by (nat_lt q.requester.una psn)
  where
    by : (b : Bool) → IsLater q (if b then with_requester (record q.requester { una = psn; retries = 0; rnrs = 0 }) q else q)
    by true = record { queue = refl; domain = refl; send_cq = refl; recv_cq = refl; srq = refl; finished = omega arith; taken = taken-same q.receives }
    by false = later-same q

una-work : (psn : ℕ) (q : QueuePair) → IsSameWork q (with_una psn q)
una-work psn q = by (nat_lt q.requester.una psn)
  where
    by : (b : Bool) → IsSameWork q (if b then with_requester (record q.requester { una = psn; retries = 0; rnrs = 0 }) q else q)
    by true = record { sends = refl; receives = refl; oldest = refl; in_use = refl }
    by false = record { sends = refl; receives = refl; oldest = refl; in_use = refl }

pub progress-good : (psn : ℕ) (q : QueuePair) → IsQueue q → psn ≤ q.requester.cursor → IsGood q (progress_to psn q)
progress-good psn q s most =
    good-from q (with_una psn q) (progress_to psn q) (una-later psn q) (una-work psn q) (finished-good (with_una psn q) (una-queue psn q s most))

-- where `una` stands after progress, and what stays
pub record IsAfterProgress (psn : ℕ) (q p : QueuePair) : Type 0 where
  pub una : p.requester.una ≤ max q.requester.una psn
  pub cursor : p.requester.cursor ≡ q.requester.cursor
  pub state : p.state ≡ q.state

pub progress-after : (psn : ℕ) (q : QueuePair) → IsAfterProgress psn q (progress_to psn q).queue
progress-after psn q = by (nat_lt q.requester.una psn)
  where
    by : (b : Bool) → IsAfterProgress psn q (after_finished (if b then with_requester (record q.requester { una = psn; retries = 0; rnrs = 0 }) q else q))
    by true = record { una = omega arith; cursor = refl; state = refl }
    by false = record { una = omega arith; cursor = refl; state = refl }

pub sending-not-fresh : (t : State) → is_sending t ≡ true → is_fresh t ≡ true → ⊥
sending-not-fresh states.Reset sending fresh = true≢false (sym sending)
sending-not-fresh states.Init sending fresh = true≢false (sym sending)
sending-not-fresh states.Rtr sending fresh = true≢false (sym sending)
sending-not-fresh states.Rts sending fresh = true≢false (sym fresh)
sending-not-fresh states.Sqd sending fresh = true≢false (sym fresh)
sending-not-fresh states.Error sending fresh = true≢false (sym sending)

-- one retry, from a PSN that is not before `una`
pub retry-good : (psn : ℕ) (q : QueuePair) → IsQueue q → is_sending q.state ≡ true → q.requester.retries ≤ q.requester.retry → q.requester.una ≤ psn → psn ≤ q.requester.cursor
    → IsGood q (one_retry psn q)
retry-good psn q s sending few low high = by (nat_le q.requester.retry q.requester.retries) refl
  where
    counted : QueuePair
    counted = with_requester (record q.requester { retries = suc q.requester.retries }) q

    by : (b : Bool) → nat_le q.requester.retry q.requester.retries ≡ b
        → IsGood q (if b then failure_effects RetryExceeded None counted else queue_and_marks (with_cursor psn counted) [])
    by true e = good-from q failing (failure_effects RetryExceeded None failing)
        (record { queue = refl; domain = refl; send_cq = refl; recv_cq = refl; srq = refl; finished = omega arith; taken = taken-same q.receives })
        (record { sends = refl; receives = refl; oldest = refl; in_use = refl })
        (failure-good RetryExceeded None failing (failing-queue q failing.requester s (record {
          finished = s.requester.finished;
          begun = s.requester.begun;
          waiting = s.requester.waiting;
          base = s.requester.base;
          outstanding = s.requester.outstanding;
          retry = s.requester.retry;
          rnr_retry = s.requester.rnr_retry;
          reads = s.requester.reads;
          retried = omega (arith, few);
          retries = λ sending. absurd (true≢false (sym sending));
          fresh = λ fresh. absurd (true≢false (sym fresh));
        })))
      where
        failing : QueuePair
        failing = record counted { state = states.Error }
    by false e = record {
      sound = requester-queue q (with_cursor psn counted).requester s (record {
        finished = s.requester.finished;
        begun = s.requester.begun;
        waiting = s.requester.waiting;
        base = s.requester.base;
        outstanding = low;
        retry = s.requester.retry;
        rnr_retry = s.requester.rnr_retry;
        reads = s.requester.reads;
        retried = omega (arith, few);
        retries = λ sending. omega (arith, leb-false q.requester.retry q.requester.retries e);
        fresh = λ fresh. absurd (sending-not-fresh q.state sending fresh);
      }) (λ sending. omega (arith, high, s.begun sending));
      later = record { queue = refl; domain = refl; send_cq = refl; recv_cq = refl; srq = refl; finished = omega arith; taken = taken-same q.receives };
      settled = record {};
      order = order-still q (queue_and_marks (with_cursor psn counted) []) (record { sends = refl; receives = refl; oldest = refl; in_use = refl }) refl;
    }
