-- The oldest unfinished request of a queue pair that sends: where a PSN is outstanding it is there, and it is the one that
-- a response or a turn speaks of first. For proofs only.
use Rattle.std.proofs.Common.{◌≡◌, ℕ, zero, suc, ◌+◌, ◌-◌, ◌≤◌, ◌<◌, nat_le, nat_lt, Bool, true, false, if◌then◌else◌, List, [], ◌∷◌, take, drop, sum_by, Option, None, Some, slice_get, refl, ap, ap₂, sym, subst, ◌∙◌, arith, find, length, is_some, true≢false}
use Rattle.std.proofs.lemmas.Bool.Decides.{nat_tests}
use Rattle.std.proofs.lemmas.Option.{same_Some}
use Rattle.ca_law_keys.proofs.Posts.PlaceLemmas.{numbers-at}
use Rattle.ca_law_keys.proofs.Posts.GrantLemmas.{both-true}
use Rattle.ca_law_keys.proofs.Posts.PlaceLemmas.{IsPerformed}
use Rattle.ca_keys.specs.Refusals.{first_of}
use Rattle.ca_law_world.proofs.Sound.TurnLemmas.{sending-parts}
use Rattle.ca_base.specs.declared.step.Reason.{Reason}
use Rattle.ca_base.specs.declared.step.Reason.TheVariants as reasons
use Rattle.std.specs.Option.{option_or}
use Rattle.ca_model.specs.Requests.{is_local}
use Rattle.ca_model.specs.machine.Requester.{Performs, RequestTurn, Sends, Waits, next_request, turn_of, turn_refusals}
use Rattle.ca_model.specs.machine.Numbering.{next_to_begin}
use Rattle.ca_law_order.proofs.Sends.RowLemmas.{ready-after}
use Rattle.ca_law_order.proofs.Sends.SendLemmas.{IsReadyQueue, IsRequestAt, progress-completes}
use Rattle.ca_base.specs.declared.request.PostedSend.{PostedSend}
use Rattle.ca_base.specs.objects.QueuePair.{QueuePair}
use Rattle.ca_base.specs.objects.WorkQueue.{WorkQueue, item_at, items_from}
use Rattle.std.proofs.lemmas.List.Sums.{sum_by-cons}
use Rattle.std.specs.List.{AllByRecursion, prefix_len}
use Rattle.ca_base.specs.declared.request.SendRequest.{SendRequest}
use Rattle.ca_law_caused.proofs.Caused.KnownLemmas.{IsOn, Known, first_at}
use Rattle.ca_law_world.proofs.Sound.NumberingLemmas.{Numbers, all-taken, are-numbers, take-numbers}
use Rattle.ca_model.specs.Progress.{Progress, progress_from, raised}
use Rattle.ca_model.specs.machine.Acknowledgements.{after_finished, finished_requests, with_requester}
use Rattle.ca_model.specs.machine.Numbering.{begun_requests, psn_end, unfinished_requests}
use Rattle.ca_law_world.proofs.Sound.RequesterLemmas.{progress-after, progress-good}
use Rattle.ca_law_world.proofs.Steady.SameLemmas.{progress-steady}
use Rattle.ca_law_world.specs.Steady.{EndsBehind, IsSteadyQueue}
use Rattle.ca_model.specs.Past.{Posted}
use Rattle.ca_model.specs.Requests.{psns_of}
use Rattle.ca_model.specs.machine.Acknowledgements.{progress_to}
use Rattle.ca_model.specs.machine.Invariants.{IsQueue, is_sending}
use Rattle.ca_model.specs.machine.Numbering.{Numbered, has_psn, numbers_of, request_at}

-- a queue pair as it comes up, whose requests were posted
pub record IsUp (k : Known) (g : Progress) (x : QueuePair) : Type 0 where
  pub ready : IsReadyQueue k.posted x
  pub sound : IsQueue x
  pub steady : IsSteadyQueue x
  pub sending : is_sending x.state ≡ true
  pub known : k.sending ≡ true
  pub on : IsOn k g x

-- the oldest unfinished request: it was posted
pub record IsFirst (ps : List Posted) (x : QueuePair) (y : PostedSend) : Type 0 where
  pub rest : List PostedSend
  pub items : items_from x.requester.oldest x.sends ≡ y ∷ rest
  pub posted : IsRequestAt ps x.requester.oldest y.request

-- and its PSNs lie round the first that is neither acknowledged nor answered
pub record IsOldest (ps : List Posted) (x : QueuePair) (y : PostedSend) : Type 0 where
  pub first : IsFirst ps x y
  pub low : x.requester.oldest_psn ≤ x.requester.una
  pub high : x.requester.una < x.requester.oldest_psn + psns_of x.responder.mtu y.request.op
  pub begun : x.requester.oldest < x.requester.next

pub record HasOldest (ps : List Posted) (x : QueuePair) : Type 0 where
  pub item : PostedSend
  pub is : IsOldest ps x item

first-posted : (ps : List Posted) (oldest : ℕ) (sends : WorkQueue PostedSend) (y : PostedSend) (rest : List PostedSend) → ((place : ℕ) (x : PostedSend) → item_at place sends ≡ Some x → IsRequestAt ps place x.request) → sends.first ≤ oldest
    → items_from oldest sends ≡ y ∷ rest → IsRequestAt ps oldest y.request
first-posted ps oldest sends y rest at low is = at oldest y (numbers-at 0 oldest 0 sends (y ∷ rest) low is).0

-- where something is outstanding, the oldest unfinished request is there
pub has-oldest : (k : Known) (g : Progress) (x : QueuePair) → IsUp k g x → x.requester.una < x.requester.cursor → HasOldest k.posted x
has-oldest k g x up less = by (items_from x.requester.oldest x.sends) refl (x.requester.next - x.requester.oldest) refl up.steady.ends (up.sound.begun up.sending)
  where
    ns : List PostedSend → List Numbered
    ns items = numbers_of x.responder.mtu x.requester.oldest x.requester.oldest_psn items

    low : x.requester.oldest_psn ≤ x.requester.una
    low = up.steady.oldest up.sending

    by : (items : List PostedSend) → items_from x.requester.oldest x.sends ≡ items → (j : ℕ) → x.requester.next - x.requester.oldest ≡ j → EndsBehind x.requester.una (take j (ns items))
        → x.requester.cursor ≤ x.requester.oldest_psn + sum_by (λ n. n.count) (take j (ns items)) → HasOldest k.posted x
    by items is zero some ends end = absurd (omega (arith, low, less, end))
    by [] is (suc j) some ends end = absurd (omega (arith, low, less, end))
    by (y ∷ rest) is (suc j) some ends end = record {
      item = y;
      is = record {
        first = record { rest = rest; items = is; posted = first-posted k.posted x.requester.oldest x.sends y rest up.ready.at up.ready.first is };
        low = low;
        high = ends;
        begun = omega (arith, some);
      };
    }

-- ---- progress

pub sum-take : (f : Posted → ℕ) (xs : List Posted) (i : ℕ) (x : Posted) → slice_get xs i ≡ Some x → sum_by f (take (suc i) xs) ≡ sum_by f (take i xs) + f x
sum-take f [] i x is = absurd (true≢false (sym (ap is_some is)))
sum-take f (y ∷ ys) zero x is = omega (arith, sum_by-cons f y [], ap f (same_Some y x is))
sum-take f (y ∷ ys) (suc i) x is = omega (arith, sum_by-cons f y (take (suc i) ys), sum_by-cons f y (take i ys), sum-take f ys i x is)

-- the requests of these numbers occupy a send queue
abbrev AreItems : WorkQueue PostedSend → List Numbered → Type 0
AreItems sends ns = AllByRecursion (λ n. item_at n.place sends ≡ Some (record { request = n.request; drawn = n.drawn })) ns

-- behind numbered requests the first PSN is the one behind theirs
first-behind : (k : Known) (sends : WorkQueue PostedSend) (place psn : ℕ) (ns : List Numbered) → ((place : ℕ) (x : PostedSend) → item_at place sends ≡ Some x → IsRequestAt k.posted place x.request) → Numbers k.mtu place psn ns → AreItems sends ns
    → first_at k place ≡ psn → first_at k (place + length ns) ≡ psn + sum_by (λ n. n.count) ns
first-behind k sends place psn [] has numbers items at = ap (first_at k) {x = place + 0} {y = place} (omega arith) ∙ at ∙ omega arith
first-behind k sends place psn (n ∷ ns) has numbers items at = ap (first_at k) {x = place + suc (length ns)} {y = suc place + length ns} (omega arith)
    ∙ first-behind k sends (suc place) (psn + n.count) ns has numbers.1 items.1 next ∙ omega (arith, sum_by-cons (λ (n : Numbered). n.count) n ns)
  where
    here : IsRequestAt k.posted place n.request
    here = has place (record { request = n.request; drawn = n.drawn }) (ap (λ i. item_at i sends) (sym numbers.0.0) ∙ items.0)

    next : first_at k (suc place) ≡ psn + n.count
    next = omega (arith, at, sum-take (λ p. psns_of k.mtu p.request.op) k.posted place here.posted here.is, ap (λ (r : SendRequest). psns_of k.mtu r.op) here.same, numbers.0.2)

-- what is finished leaves the first PSN of what is not
finished-on : (k : Known) (g : Progress) (q : QueuePair) → IsReadyQueue k.posted q → IsOn k g q → IsOn k g (after_finished q)
finished-on k g q ready is = record {
  una = is.una;
  retries = is.retries;
  rnrs = is.rnrs;
  retry = is.retry;
  rnr_retry = is.rnr_retry;
  mtu = is.mtu;
  first = first-behind k q.sends q.requester.oldest q.requester.oldest_psn (finished_requests q) ready.at (subst (λ m. Numbers m q.requester.oldest q.requester.oldest_psn (finished_requests q)) is.mtu
      (take-numbers q.responder.mtu (prefix_len (λ n. nat_le (psn_end n) q.requester.una) (begun_requests q)) q.requester.oldest q.requester.oldest_psn (begun_requests q)
      (take-numbers q.responder.mtu (q.requester.next - q.requester.oldest) q.requester.oldest q.requester.oldest_psn (unfinished_requests q)
      (are-numbers q.responder.mtu q.requester.oldest q.requester.oldest_psn (items_from q.requester.oldest q.sends)))))
      (all-taken _ (prefix_len (λ n. nat_le (psn_end n) q.requester.una) (begun_requests q)) (begun_requests q)
      (all-taken _ (q.requester.next - q.requester.oldest) (unfinished_requests q) (numbers-at q.responder.mtu q.requester.oldest q.requester.oldest_psn q.sends (items_from q.requester.oldest q.sends) ready.first refl)))
      is.first;
  patience = is.patience;
}

pub progress-on : (k : Known) (g : Progress) (psn : ℕ) (q : QueuePair) → IsReadyQueue k.posted q → IsOn k g q → IsOn k (raised psn g) (progress_to psn q).queue
progress-on k g psn q ready is = by (nat_lt q.requester.una psn) (ap (λ u. nat_lt u psn) (sym is.una))
  where
    moved : Bool → QueuePair
    moved b = if b then with_requester (record q.requester { una = psn; retries = 0; rnrs = 0 }) q else q

    by : (b : Bool) → nat_lt g.una psn ≡ b → IsOn k (raised psn g) (after_finished (moved b))
    by true e = subst (λ h. IsOn k h (after_finished (moved true))) (ap (λ b. if b then progress_from psn else g) (sym e)) (finished-on k (progress_from psn) (moved true) (record { at = ready.at; first = ready.first; last = ready.last })
        (record { una = refl; retries = refl; rnrs = refl; retry = is.retry; rnr_retry = is.rnr_retry; mtu = is.mtu; first = is.first; patience = λ few. omega arith }))
    by false e = subst (λ h. IsOn k h (after_finished q)) (ap (λ b. if b then progress_from psn else g) (sym e)) (finished-on k g q ready is)

-- progress keeps it up
pub progress-up : (k : Known) (g : Progress) (psn : ℕ) (q : QueuePair) → IsUp k g q → psn ≤ q.requester.cursor → IsUp k (raised psn g) (progress_to psn q).queue
progress-up k g psn q up most = record {
  ready = ready-after k.posted q (progress_to psn q) up.ready (progress-completes k.posted psn q up.ready);
  sound = (progress-good psn q up.sound most).sound;
  steady = progress-steady psn q up.ready.first up.steady;
  sending = ap is_sending (progress-after psn q).state ∙ up.sending;
  known = up.known;
  on = progress-on k g psn q up.ready up.on;
}

-- the number of the oldest
abbrev pub number-oldest : QueuePair → PostedSend → Numbered
number-oldest x y = record { place = x.requester.oldest; request = y.request; drawn = y.drawn; first = x.requester.oldest_psn; count = psns_of x.responder.mtu y.request.op }

-- it has the first PSN that is neither acknowledged nor answered
pub oldest-found : (ps : List Posted) (x : QueuePair) (y : PostedSend) (psn : ℕ) → IsOldest ps x y → psn ≡ x.requester.una → request_at psn x ≡ Some (number-oldest x y)
oldest-found ps x y psn old is = by (x.requester.next - x.requester.oldest) refl (items_from x.requester.oldest x.sends) old.first.items
  where
    low : (a b : ℕ) → a ≤ b → nat_le a b ≡ true
    low a b less = grind (arith, nat_tests, less)

    under : (a b : ℕ) → a < b → nat_lt a b ≡ true
    under a b less = grind (arith, nat_tests, less)

    has : has_psn psn (number-oldest x y) ≡ true
    has = both-true _ _ (low x.requester.oldest_psn psn (omega (arith, old.low, is))) (under psn _ (omega (arith, old.high, is)))

    by : (k : ℕ) → x.requester.next - x.requester.oldest ≡ k → (items : List PostedSend) → items ≡ y ∷ old.first.rest → find (has_psn psn) (take k (numbers_of x.responder.mtu x.requester.oldest x.requester.oldest_psn items)) ≡ Some (number-oldest x y)
    by zero some items are = absurd (omega (arith, some, old.begun))
    by (suc k) some items are = ap (λ is. find (has_psn psn) (take (suc k) (numbers_of x.responder.mtu x.requester.oldest x.requester.oldest_psn is))) are
        ∙ ap (λ b. if b then Some (number-oldest x y) else find (has_psn psn) (take k (numbers_of x.responder.mtu (suc x.requester.oldest) (x.requester.oldest_psn + psns_of x.responder.mtu y.request.op) old.first.rest))) has

pub request-oldest : (ps : List Posted) (x : QueuePair) (y : PostedSend) (psn : ℕ) → IsOldest ps x y → psn ≡ x.requester.una → (n : Numbered) → request_at psn x ≡ Some n → n.request ≡ y.request
request-oldest ps x y psn old is n found = ap (λ (o : Numbered). o.request) (sym (same_Some (number-oldest x y) n (sym (oldest-found ps x y psn old is) ∙ found)))

-- ---- the request of a turn

get-none : {A : Type 0} (i : ℕ) (xs : List A) → drop i xs ≡ [] → slice_get xs i ≡ None
get-none zero [] is = refl
get-none zero (x ∷ xs) is = absurd (omega (arith, ap length is))
get-none (suc i) [] is = refl
get-none (suc i) (x ∷ xs) is = get-none i xs is

-- the request at the oldest place is the first
pub first-at : (ps : List Posted) (x : QueuePair) (y : PostedSend) → IsReadyQueue ps x → item_at x.requester.oldest x.sends ≡ Some y → IsFirst ps x y
first-at ps x y ready is = by (items_from x.requester.oldest x.sends) refl
  where
    by : (items : List PostedSend) → items_from x.requester.oldest x.sends ≡ items → IsFirst ps x y
    by [] are = absurd (true≢false (ap is_some (sym is) ∙ ap (λ o. is_some (if nat_lt x.requester.oldest x.sends.first then None else o)) (get-none (x.requester.oldest - x.sends.first) x.sends.items are) ∙ none (nat_lt x.requester.oldest x.sends.first)))
      where
        nothing : Option PostedSend
        nothing = None

        none : (b : Bool) → is_some (if b then nothing else nothing) ≡ false
        none true = refl
        none false = refl
    by (z ∷ rest) are = subst (IsFirst ps x) (same_Some z y (sym (numbers-at 0 x.requester.oldest 0 x.sends (z ∷ rest) ready.first are).0 ∙ is))
        (record { rest = rest; items = are; posted = first-posted ps x.requester.oldest x.sends z rest ready.at ready.first are })

-- a request as the first: which one, and that it is this
pub record IsTheFirst (ps : List Posted) (x : QueuePair) (n : Numbered) : Type 0 where
  pub item : PostedSend
  pub first : IsFirst ps x item
  pub same : n.request ≡ item.request

-- a local operation that is performed is the oldest unfinished request
pub performed-first : (ps : List Posted) (q : QueuePair) (n : Numbered) → IsReadyQueue ps q → IsPerformed q n → IsTheFirst ps q n
performed-first ps q n ready does = record {
  item = record { request = n.request; drawn = n.drawn };
  first = first-at ps q (record { request = n.request; drawn = n.drawn }) ready (subst (λ k. item_at k q.sends ≡ Some (record { request = n.request; drawn = n.drawn })) does.alone does.item.item);
  same = refl;
}

-- the request of a packet where nothing is outstanding
pub sent-first : (k : Known) (g : Progress) (q : QueuePair) (n : Numbered) → IsUp k g q → q.requester.cursor ≤ q.requester.una → next_request q ≡ Some n → IsTheFirst k.posted q n
sent-first k g q n up none next = by (items_from q.requester.oldest q.sends) refl (q.requester.next - q.requester.oldest) refl up.steady.ends
  where
    ns : List PostedSend → List Numbered
    ns items = numbers_of q.responder.mtu q.requester.oldest q.requester.oldest_psn items

    begun : ℕ → List PostedSend → List Numbered
    begun j items = take j (ns items)

    -- of what has begun nothing is found: it is the next to begin
    begins : (items : List PostedSend) → items_from q.requester.oldest q.sends ≡ items → (j : ℕ) → q.requester.next - q.requester.oldest ≡ j → find (has_psn q.requester.cursor) (begun j items) ≡ None → slice_get (ns items) j ≡ Some n
    begins items are j some at = by_request (request_at q.requester.cursor q) refl next
      where
        by_request : (o : Option Numbered) → request_at q.requester.cursor q ≡ o → option_or o (next_to_begin q) ≡ Some n → slice_get (ns items) j ≡ Some n
        by_request None is next = ap (λ xs. slice_get (ns xs) j) (sym are) ∙ ap (slice_get (ns (items_from q.requester.oldest q.sends))) (sym some) ∙ next
        by_request (Some m) is next = absurd (true≢false (ap is_some (sym is ∙ ap₂ (λ i xs. find (has_psn q.requester.cursor) (begun i xs)) some are ∙ at)))

    by : (items : List PostedSend) → items_from q.requester.oldest q.sends ≡ items → (j : ℕ) → q.requester.next - q.requester.oldest ≡ j → EndsBehind q.requester.una (begun j items) → IsTheFirst k.posted q n
    by [] are zero some ends = absurd (true≢false (sym (ap is_some (begins [] are zero some refl))))
    by [] are (suc j) some ends = absurd (true≢false (sym (ap is_some (begins [] are (suc j) some refl))))
    by (y ∷ rest) are zero some ends = record {
      item = y;
      first = record { rest = rest; items = are; posted = first-posted k.posted q.requester.oldest q.sends y rest up.ready.at up.ready.first are };
      same = ap (λ (m : Numbered). m.request) (sym (same_Some _ n (begins (y ∷ rest) are zero some refl)));
    }
    by (y ∷ rest) are (suc j) some ends = record { item = y; first = old.first; same = found (request_at q.requester.cursor q) refl next }
      where
        old : IsOldest k.posted q y
        old = record {
          first = record { rest = rest; items = are; posted = first-posted k.posted q.requester.oldest q.sends y rest up.ready.at up.ready.first are };
          low = up.steady.oldest up.sending;
          high = ends;
          begun = omega (arith, some);
        }

        here : q.requester.cursor ≡ q.requester.una
        here = omega (arith, none, up.sound.requester.outstanding)

        found : (o : Option Numbered) → request_at q.requester.cursor q ≡ o → option_or o (next_to_begin q) ≡ Some n → n.request ≡ y.request
        found (Some m) is next = request-oldest k.posted q y q.requester.cursor old here n (is ∙ next)
        found None is next = absurd (true≢false (ap is_some (sym (oldest-found k.posted q y q.requester.cursor old here) ∙ is)))

-- ---- turns

-- the request of a turn that sends a packet
abbrev sent_in : RequestTurn → Option Numbered
sent_in (Sends n) = Some n
sent_in turn = None

pub record IsSentTurn (q : QueuePair) (n : Numbered) : Type 0 where
  pub sending : is_sending q.state ≡ true
  pub next : next_request q ≡ Some n

pub sends-next : (q : QueuePair) (n : Numbered) → turn_of q ≡ Sends n → IsSentTurn q n
sends-next q n turn = by (first_of (turn_refusals q)) refl (next_request q) refl turn
  where
    from : Option Reason → Option Numbered → RequestTurn
    from (Some reason) n = Waits reason
    from None None = Waits reasons.Empty
    from None (Some n) = if is_local n.request.op then Performs n else Sends n

    at : (m : Numbered) → first_of (turn_refusals q) ≡ None → next_request q ≡ Some m → (b : Bool) → (if b then Performs m else Sends m) ≡ Sends n → IsSentTurn q n
    at m none is true turn = absurd (true≢false (sym (ap (λ t. is_some (sent_in t)) turn)))
    at m none is false turn = record { sending = (sending-parts q none).0; next = is ∙ ap sent_in turn }

    by : (r : Option Reason) → first_of (turn_refusals q) ≡ r → (o : Option Numbered) → next_request q ≡ o → from r o ≡ Sends n → IsSentTurn q n
    by (Some reason) none o is turn = absurd (true≢false (sym (ap (λ t. is_some (sent_in t)) turn)))
    by None none None is turn = absurd (true≢false (sym (ap (λ t. is_some (sent_in t)) turn)))
    by None none (Some m) is turn = at m none is (is_local m.request.op) turn
