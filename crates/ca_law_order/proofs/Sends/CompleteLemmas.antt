-- Marks that complete the sends of one queue pair in order pass the test, and keep the agreement on the sends that
-- completed. For proofs only.
use Rattle.std.proofs.Common.{◌≡◌, ℕ, zero, suc, ◌-◌, ◌<◌, ◌≤◌, ◌&&◌, nat_le, nat_lt, Bool, true, false, not, if◌then◌else◌, List, [], ◌∷◌, ◌++◌, take, drop, None, Some, is_some, slice_get, refl, sym, ap, subst, ◌∙◌, arith, true≢false}
use Rattle.std.proofs.lemmas.Bool.Decides.{nat_tests}
use Rattle.std.proofs.lemmas.Bool.{and_parts, ltb-false, ltb-true, not-true}
use Rattle.std.proofs.lemmas.Option.{same_Some}
use Rattle.std.specs.List.{list_all}
use Rattle.std.specs.Option.{option_map_or}
use Rattle.ca_law_keys.proofs.Posts.GrantLemmas.{both-true}
use Rattle.ca_law_keys.proofs.Posts.PostMade.{later-life, life-refl, other-life}
use Rattle.ca_law_keys.specs.Posts.{life}
use Rattle.ca_law_order.specs.Completed.{AgreeOnCompleted, CompletedInSlot, StandBefore}
use Rattle.ca_law_order.specs.InOrder.{completes_in_order}
use Rattle.ca_base.specs.declared.completion.Completion.{Completion}
use Rattle.ca_base.specs.declared.correspondent.Correspondent.{Correspondent}
use Rattle.ca_base.specs.objects.QueuePair.{QueuePair, QueueSlot, Present}
use Rattle.ca_keys.specs.Equal.{queue_eq}
use Rattle.ca_keys.specs.declared.names.QueueId.{QueueId}
use Rattle.ca_law_world.proofs.Sound.SettledLemmas.{queue-path}
use Rattle.ca_model.specs.Ordered.{are_unsignalled, is_completion_of, is_send_in_order, place_behind}
use Rattle.ca_model.specs.Past.{Past, Posted, after_mark, after_marks, correspondent_eq, each_mark, present_incarnation, with_at}
use Rattle.ca_model.specs.declared.mark.Mark.{Mark}
use Rattle.ca_model.specs.declared.mark.Mark.TheVariants as marks

-- ---- requests of which none is signalled

-- no posted request from one place on and before another is signalled, place by place
abbrev pub AreUnsignalled : List Posted → ℕ → ℕ → Type 0
AreUnsignalled ps from to = (place : ℕ) (p : Posted) → from ≤ place → place < to → slice_get ps place ≡ Some p → p.request.signalled ≡ false

-- where that is so, the test of Ordered holds
unsignalled-test : (ps : List Posted) (n : ℕ) → ((place : ℕ) (p : Posted) → place < n → slice_get ps place ≡ Some p → p.request.signalled ≡ false) → list_all (λ p. not p.request.signalled) (take n ps) ≡ true
unsignalled-test ps zero all = refl
unsignalled-test [] (suc n) all = refl
unsignalled-test (p ∷ ps) (suc n) all = both-true (not p.request.signalled) _ (ap not (all 0 p (omega arith) refl)) (unsignalled-test ps n (λ place q less is. all (suc place) q (omega (arith, less)) is))

pub between-test : (ps : List Posted) (from to : ℕ) → AreUnsignalled ps from to → are_unsignalled ps from to ≡ true
between-test ps zero to none = unsignalled-test ps (to - 0) (λ place p less is. none place p (omega arith) (omega (arith, less)) is)
between-test [] (suc from) to none = empty (to - suc from)
  where
    empty : (n : ℕ) → list_all (λ (p : Posted). not p.request.signalled) (take n []) ≡ true
    empty zero = refl
    empty (suc n) = refl
between-test (q ∷ ps) (suc from) zero none = ap (λ n. list_all (λ (p : Posted). not p.request.signalled) (take n (drop from ps))) {x = 0 - suc from} {y = 0} (omega arith)
between-test (q ∷ ps) (suc from) (suc to) none = ap (λ n. list_all (λ (p : Posted). not p.request.signalled) (take n (drop from ps))) {x = suc to - suc from} {y = to - from} (omega arith)
    ∙ between-test ps from to (λ place p low high is. none (suc place) p (omega (arith, low)) (omega (arith, high)) is)

-- and the other way: what the test says of each place
none-signalled : (ps : List Posted) (n place : ℕ) (p : Posted) → list_all (λ p. not p.request.signalled) (take n ps) ≡ true → place < n → slice_get ps place ≡ Some p → p.request.signalled ≡ false
none-signalled ps zero place p none less is = absurd (omega (arith, less))
none-signalled [] (suc n) place p none less is = absurd (true≢false (sym (ap is_some is)))
none-signalled (q ∷ ps) (suc n) zero p none less is =
    ap (λ (y : Posted). y.request.signalled) (sym (same_Some q p is)) ∙ not-true q.request.signalled (and_parts (not q.request.signalled) _ none).0
none-signalled (q ∷ ps) (suc n) (suc place) p none less is = none-signalled ps n place p (and_parts (not q.request.signalled) _ none).1 (omega (arith, less)) is

pub test-between : (ps : List Posted) (from to : ℕ) → are_unsignalled ps from to ≡ true → AreUnsignalled ps from to
test-between ps zero to none place p low high is = none-signalled ps (to - 0) place p none (omega (arith, high)) is
test-between [] (suc from) to none place p low high is = absurd (true≢false (sym (ap is_some is)))
test-between (q ∷ ps) (suc from) to none zero p low high is = absurd (omega (arith, low))
test-between (q ∷ ps) (suc from) zero none (suc place) p low high is = absurd (omega (arith, high))
test-between (q ∷ ps) (suc from) (suc to) none (suc place) p low high is = test-between ps from to
    (ap (λ n. list_all (λ (p : Posted). not p.request.signalled) (take n (drop from ps))) {x = to - from} {y = suc to - suc from} (omega arith) ∙ none) place p (omega (arith, low)) (omega (arith, high)) is

-- ---- marks

-- the one or the other, by a test
abbrev pub ByTest : Bool → Type 0 → Type 0 → Type 0
ByTest true A B = A
ByTest false A B = B

-- a send of a queue pair that may complete next, where all before a place did
pub record IsNextSend (name : QueueId) (ps : List Posted) (from : ℕ) (x : Completion) : Type 0 where
  pub queue : x.queue ≡ name
  pub behind : from ≤ x.place
  pub between : AreUnsignalled ps from x.place
  pub completes : option_map_or (is_completion_of x) (slice_get ps x.place) false ≡ true

-- Marks that complete sends of this queue pair alone, each behind the one before, from one place on and before another.
-- What they leave out is not signalled.
abbrev pub Complete : QueueId → List Posted → ℕ → List Mark → ℕ → Type 0
Complete name ps from [] to = (from ≤ to) × AreUnsignalled ps from to
Complete name ps from (marks.Verb by verb answer ∷ ms) to = ⊥
Complete name ps from (marks.Done queue x cause ∷ ms) to =
    ByTest x.receive (Complete name ps from ms to) (IsNextSend name ps from x × Complete name ps (suc x.place) ms to)
Complete name ps from (m ∷ ms) to = Complete name ps from ms to

pub none-between : (ps : List Posted) (n : ℕ) → AreUnsignalled ps n n
none-between ps n place p low high is = absurd (omega (arith, low, high))

pub join-between : (ps : List Posted) (a b c : ℕ) → AreUnsignalled ps a b → AreUnsignalled ps b c → AreUnsignalled ps a c
join-between ps a b c one other place p low high is = by (nat_lt place b) refl
  where
    by : (t : Bool) → nat_lt place b ≡ t → p.request.signalled ≡ false
    by true e = one place p low (ltb-true place b e) is
    by false e = other place p (ltb-false place b e) high is

-- nothing that is signalled stands before them
pub complete-earlier : (name : QueueId) (ps : List Posted) (a b : ℕ) (ms : List Mark) (to : ℕ) → a ≤ b → AreUnsignalled ps a b → Complete name ps b ms to → Complete name ps a ms to
complete-earlier name ps a b [] to less none all = (omega (arith, less, all.0), join-between ps a b to none all.1)
complete-earlier name ps a b (marks.Verb by verb answer ∷ ms) to less none all = all
complete-earlier name ps a b (marks.Done queue x cause ∷ ms) to less none all = by x.receive (complete-earlier name ps a b ms to less none) all
  where
    by : (r : Bool) → (Complete name ps b ms to → Complete name ps a ms to) → ByTest r (Complete name ps b ms to) (IsNextSend name ps b x × Complete name ps (suc x.place) ms to)
        → ByTest r (Complete name ps a ms to) (IsNextSend name ps a x × Complete name ps (suc x.place) ms to)
    by true rest all = rest all
    by false rest all = (
      record { queue = all.0.queue; behind = omega (arith, less, all.0.behind); between = join-between ps a b x.place none all.0.between; completes = all.0.completes },
      all.1,
    )
complete-earlier name ps a b (marks.Sent source target index request bytes ∷ ms) to less none all = complete-earlier name ps a b ms to less none all
complete-earlier name ps a b (marks.Lost target index ∷ ms) to less none all = complete-earlier name ps a b ms to less none all
complete-earlier name ps a b (marks.Granted g ∷ ms) to less none all = complete-earlier name ps a b ms to less none all
complete-earlier name ps a b (marks.Revoked adapter key ∷ ms) to less none all = complete-earlier name ps a b ms to less none all
complete-earlier name ps a b (marks.Remote queue domain envelope key kind address count verdict ∷ ms) to less none all = complete-earlier name ps a b ms to less none all
complete-earlier name ps a b (marks.Local queue domain key kind address count verdict ∷ ms) to less none all = complete-earlier name ps a b ms to less none all
complete-earlier name ps a b (marks.Stored place bytes ∷ ms) to less none all = complete-earlier name ps a b ms to less none all
complete-earlier name ps a b (marks.Arrived target index ∷ ms) to less none all = complete-earlier name ps a b ms to less none all
complete-earlier name ps a b (marks.Dropped target cause ∷ ms) to less none all = complete-earlier name ps a b ms to less none all
complete-earlier name ps a b (marks.Timer queue silent ∷ ms) to less none all = complete-earlier name ps a b ms to less none all

pub complete-append : (name : QueueId) (ps : List Posted) (a : ℕ) (ms : List Mark) (b : ℕ) (ns : List Mark) (c : ℕ) → Complete name ps a ms b → Complete name ps b ns c → Complete name ps a (ms ++ ns) c
complete-append name ps a [] b ns c one other = complete-earlier name ps a b ns c one.0 one.1 other
complete-append name ps a (marks.Verb by verb answer ∷ ms) b ns c one other = one
complete-append name ps a (marks.Done queue x cause ∷ ms) b ns c one other = by x.receive (λ from. complete-append name ps from ms b ns c) one
  where
    by : (r : Bool) → ((from : ℕ) → Complete name ps from ms b → Complete name ps b ns c → Complete name ps from (ms ++ ns) c) → ByTest r (Complete name ps a ms b) (IsNextSend name ps a x × Complete name ps (suc x.place) ms b)
        → ByTest r (Complete name ps a (ms ++ ns) c) (IsNextSend name ps a x × Complete name ps (suc x.place) (ms ++ ns) c)
    by true rest one = rest a one other
    by false rest one = (one.0, rest (suc x.place) one.1 other)
complete-append name ps a (marks.Sent source target index request bytes ∷ ms) b ns c one other = complete-append name ps a ms b ns c one other
complete-append name ps a (marks.Lost target index ∷ ms) b ns c one other = complete-append name ps a ms b ns c one other
complete-append name ps a (marks.Granted g ∷ ms) b ns c one other = complete-append name ps a ms b ns c one other
complete-append name ps a (marks.Revoked adapter key ∷ ms) b ns c one other = complete-append name ps a ms b ns c one other
complete-append name ps a (marks.Remote queue domain envelope key kind address count verdict ∷ ms) b ns c one other = complete-append name ps a ms b ns c one other
complete-append name ps a (marks.Local queue domain key kind address count verdict ∷ ms) b ns c one other = complete-append name ps a ms b ns c one other
complete-append name ps a (marks.Stored place bytes ∷ ms) b ns c one other = complete-append name ps a ms b ns c one other
complete-append name ps a (marks.Arrived target index ∷ ms) b ns c one other = complete-append name ps a ms b ns c one other
complete-append name ps a (marks.Dropped target cause ∷ ms) b ns c one other = complete-append name ps a ms b ns c one other
complete-append name ps a (marks.Timer queue silent ∷ ms) b ns c one other = complete-append name ps a ms b ns c one other

-- ---- the test

-- what such marks leave of a past: they pass, and the latest send that completed in this life is one of them
pub record HaveCompleted (name : QueueId) (ps : List Posted) (to : ℕ) (p : Past) (ms : List Mark) : Type 0 where
  pub passed : each_mark completes_in_order p ms ≡ true
  pub incarnation : (after_marks ms p).incarnation ≡ p.incarnation
  pub posted : (after_marks ms p).posted ≡ p.posted
  pub own : StandBefore ps ((after_marks ms p).last_send (present_incarnation p name)) to
  pub others : (l : Correspondent) → correspondent_eq (present_incarnation p name) l ≡ false → (after_marks ms p).last_send l ≡ p.last_send l

-- a mark that tells of no send, before others
goes-on : (name : QueueId) (ps : List Posted) (to : ℕ) (p : Past) (m : Mark) (ms : List Mark) → completes_in_order p m ≡ true → (after_mark m p).incarnation ≡ p.incarnation → (after_mark m p).posted ≡ p.posted
    → (after_mark m p).last_send ≡ p.last_send → HaveCompleted name ps to (after_mark m p) ms → HaveCompleted name ps to p (m ∷ ms)
goes-on name ps to p m ms passes incarnation posted last rest = record {
  passed = both-true (completes_in_order p m) _ passes rest.passed;
  incarnation = rest.incarnation ∙ incarnation;
  posted = rest.posted ∙ posted;
  own = subst (λ f. StandBefore ps ((after_marks ms (after_mark m p)).last_send (life name (f name))) to) incarnation rest.own;
  others = λ l other. rest.others l (ap (λ f. correspondent_eq (life name (f name)) l) incarnation ∙ other) ∙ ap (λ f. f l) last;
}

-- a completion of a receive, before others
receive-goes-on : (name : QueueId) (ps : List Posted) (to : ℕ) (p : Past) (queue : QueueId) (x : Completion) (cause : _) (ms : List Mark) → x.receive ≡ true
    → HaveCompleted name ps to (after_mark (marks.Done queue x cause) p) ms → HaveCompleted name ps to p (marks.Done queue x cause ∷ ms)
receive-goes-on name ps to p queue x cause ms e rest = goes-on name ps to p (marks.Done queue x cause) ms
    (ap (λ b. if b then true else is_send_in_order p x (p.posted (present_incarnation p x.queue))) e) refl refl
    (ap (λ b. if b then p.last_send else with_at correspondent_eq p.last_send (present_incarnation p x.queue) (Some x.place)) e) rest

-- the latest send that completed, behind the completion of one
last-send : (name : QueueId) (p : Past) (queue : QueueId) (x : Completion) (cause : _) → x.receive ≡ false → x.queue ≡ name
    → (after_mark (marks.Done queue x cause) p).last_send ≡ with_at correspondent_eq p.last_send (present_incarnation p name) (Some x.place)
last-send name p queue x cause e own =
    ap (λ b. if b then p.last_send else with_at correspondent_eq p.last_send (present_incarnation p x.queue) (Some x.place)) e
    ∙ ap (λ n. with_at correspondent_eq p.last_send (present_incarnation p n) (Some x.place)) own

-- a completion of the next send, before others
send-goes-on : (name : QueueId) (ps : List Posted) (from to : ℕ) (p : Past) (queue : QueueId) (x : Completion) (cause : _) (ms : List Mark) → p.posted (present_incarnation p name) ≡ ps
    → place_behind (p.last_send (present_incarnation p name)) ≡ from → x.receive ≡ false → IsNextSend name ps from x
    → HaveCompleted name ps to (after_mark (marks.Done queue x cause) p) ms → HaveCompleted name ps to p (marks.Done queue x cause ∷ ms)
send-goes-on name ps from to p queue x cause ms posted last e next rest = record {
  passed = both-true (completes_in_order p (marks.Done queue x cause)) _ (ap (λ b. if b then true else is_send_in_order p x (p.posted (present_incarnation p x.queue))) e ∙ in-order) rest.passed;
  incarnation = rest.incarnation;
  posted = rest.posted;
  own = rest.own;
  others = λ k other. rest.others k other ∙ ap (λ f. f k) (last-send name p queue x cause e next.queue) ∙ ap (λ b. if b then Some x.place else p.last_send k) other;
}
  where
    ordered : QueueId → List Posted → Bool
    ordered n ps = nat_le (place_behind (p.last_send (present_incarnation p n))) x.place && option_map_or (is_completion_of x) (slice_get ps x.place) false
        && are_unsignalled ps (place_behind (p.last_send (present_incarnation p n))) x.place

    low : (a b : ℕ) → a ≤ b → nat_le a b ≡ true
    low a b less = grind (arith, nat_tests, less)

    in-order : is_send_in_order p x (p.posted (present_incarnation p x.queue)) ≡ true
    in-order = ap (λ n. ordered n (p.posted (present_incarnation p n))) next.queue ∙ ap (ordered name) posted
        ∙ ap (λ n. nat_le n x.place && option_map_or (is_completion_of x) (slice_get ps x.place) false && are_unsignalled ps n x.place) last
        ∙ both-true _ _ (both-true _ _ (low from x.place next.behind) next.completes) (between-test ps from x.place next.between)

pub have-completed : (name : QueueId) (ps : List Posted) (from : ℕ) (ms : List Mark) (to : ℕ) (p : Past) → p.posted (present_incarnation p name) ≡ ps → place_behind (p.last_send (present_incarnation p name)) ≡ from
    → Complete name ps from ms to → HaveCompleted name ps to p ms
have-completed name ps from [] to p posted last all = record {
  passed = refl;
  incarnation = refl;
  posted = refl;
  own = record { before = omega (arith, last, all.0); between = ap (λ n. are_unsignalled ps n to) last ∙ between-test ps from to all.1 };
  others = λ l other. refl;
}
have-completed name ps from (marks.Verb by verb answer ∷ ms) to p posted last all = absurd all
have-completed name ps from (marks.Done queue x cause ∷ ms) to p posted last all = by x.receive refl all (λ n. have-completed name ps n ms to (after_mark (marks.Done queue x cause) p) posted)
  where
    r : Past
    r = after_mark (marks.Done queue x cause) p

    by : (b : Bool) → x.receive ≡ b → ByTest b (Complete name ps from ms to) (IsNextSend name ps from x × Complete name ps (suc x.place) ms to)
        → ((n : ℕ) → place_behind (r.last_send (present_incarnation p name)) ≡ n → Complete name ps n ms to → HaveCompleted name ps to r ms)
        → HaveCompleted name ps to p (marks.Done queue x cause ∷ ms)
    by true e all more = receive-goes-on name ps to p queue x cause ms e
        (more from (ap (λ b. place_behind ((if b then p.last_send else with_at correspondent_eq p.last_send (present_incarnation p x.queue) (Some x.place)) (present_incarnation p name))) e ∙ last) all)
    by false e all more = send-goes-on name ps from to p queue x cause ms posted last e all.0 (more (suc x.place)
        (ap (λ f. place_behind (f (present_incarnation p name))) (last-send name p queue x cause e all.0.queue)
        ∙ ap (λ b. place_behind (if b then Some x.place else p.last_send (present_incarnation p name))) (life-refl (present_incarnation p name))) all.1)
have-completed name ps from (marks.Sent source target index request bytes ∷ ms) to p posted last all =
    goes-on name ps to p (marks.Sent source target index request bytes) ms refl refl refl refl (have-completed name ps from ms to (after_mark (marks.Sent source target index request bytes) p) posted last all)
have-completed name ps from (marks.Lost target None ∷ ms) to p posted last all =
    goes-on name ps to p (marks.Lost target None) ms refl refl refl refl (have-completed name ps from ms to (after_mark (marks.Lost target None) p) posted last all)
have-completed name ps from (marks.Lost target (Some index) ∷ ms) to p posted last all =
    goes-on name ps to p (marks.Lost target (Some index)) ms refl refl refl refl (have-completed name ps from ms to (after_mark (marks.Lost target (Some index)) p) posted last all)
have-completed name ps from (marks.Granted g ∷ ms) to p posted last all =
    goes-on name ps to p (marks.Granted g) ms refl refl refl refl (have-completed name ps from ms to (after_mark (marks.Granted g) p) posted last all)
have-completed name ps from (marks.Revoked adapter key ∷ ms) to p posted last all =
    goes-on name ps to p (marks.Revoked adapter key) ms refl refl refl refl (have-completed name ps from ms to (after_mark (marks.Revoked adapter key) p) posted last all)
have-completed name ps from (marks.Remote queue domain envelope key kind address count verdict ∷ ms) to p posted last all =
    goes-on name ps to p (marks.Remote queue domain envelope key kind address count verdict) ms refl refl refl refl (have-completed name ps from ms to (after_mark (marks.Remote queue domain envelope key kind address count verdict) p) posted last all)
have-completed name ps from (marks.Local queue domain key kind address count verdict ∷ ms) to p posted last all =
    goes-on name ps to p (marks.Local queue domain key kind address count verdict) ms refl refl refl refl (have-completed name ps from ms to (after_mark (marks.Local queue domain key kind address count verdict) p) posted last all)
have-completed name ps from (marks.Stored place bytes ∷ ms) to p posted last all =
    goes-on name ps to p (marks.Stored place bytes) ms refl refl refl refl (have-completed name ps from ms to (after_mark (marks.Stored place bytes) p) posted last all)
have-completed name ps from (marks.Arrived target index ∷ ms) to p posted last all =
    goes-on name ps to p (marks.Arrived target index) ms refl refl refl refl (have-completed name ps from ms to (after_mark (marks.Arrived target index) p) posted last all)
have-completed name ps from (marks.Dropped target cause ∷ ms) to p posted last all =
    goes-on name ps to p (marks.Dropped target cause) ms refl refl refl refl (have-completed name ps from ms to (after_mark (marks.Dropped target cause) p) posted last all)
have-completed name ps from (marks.Timer queue silent ∷ ms) to p posted last all =
    goes-on name ps to p (marks.Timer queue silent) ms refl refl refl refl (have-completed name ps from ms to (after_mark (marks.Timer queue silent) p) posted last all)

-- ---- the agreement

-- A queue pair stands in its slot whose sends complete by these marks: they pass, and keep the agreement. The others are
-- as they were.
pub turned : (p : Past) (f : QueueId → QueueSlot) (name : QueueId) (from : ℕ) (q : QueuePair) (ms : List Mark)
    → ((n : QueueId) → queue_eq name n ≡ false → CompletedInSlot (p.posted (life n (p.incarnation n))) (p.last_send (life n (p.incarnation n))) (f n))
    → ((n : QueueId) (i : ℕ) → p.incarnation n < i → p.last_send (life n i) ≡ None)
    → StandBefore (p.posted (present_incarnation p name)) (p.last_send (present_incarnation p name)) from
    → Complete name (p.posted (present_incarnation p name)) from ms q.requester.oldest
    → (each_mark completes_in_order p ms ≡ true)
    × AgreeOnCompleted (after_marks ms p).incarnation (after_marks ms p).posted (after_marks ms p).last_send (with_at queue_eq f name (Present q))
turned p f name from q ms others later own all = (
  done.passed,
  subst (λ i. AgreeOnCompleted i r.posted r.last_send (with_at queue_eq f name (Present q))) (sym done.incarnation)
      (subst (λ ps. AgreeOnCompleted p.incarnation ps r.last_send (with_at queue_eq f name (Present q))) (sym done.posted) (record {
        sends = λ n. at n (queue_eq name n) refl;
        later = λ n i more. done.others (life n i) (later-life p name n i more) ∙ later n i more;
      })),
)
  where
    ps : List Posted
    ps = p.posted (present_incarnation p name)

    r : Past
    r = after_marks ms p

    done : HaveCompleted name ps q.requester.oldest p ms
    done = have-completed name ps (place_behind (p.last_send (present_incarnation p name))) ms q.requester.oldest p refl refl
        (complete-earlier name ps (place_behind (p.last_send (present_incarnation p name))) from ms q.requester.oldest own.before (test-between ps _ from own.between) all)

    at : (n : QueueId) (b : Bool) → queue_eq name n ≡ b → CompletedInSlot (p.posted (life n (p.incarnation n))) (r.last_send (life n (p.incarnation n))) (if b then Present q else f n)
    at n true e = subst (λ m. StandBefore (p.posted (life m (p.incarnation m))) (r.last_send (life m (p.incarnation m))) q.requester.oldest) (queue-path name n e) done.own
    at n false e = subst (λ o. CompletedInSlot (p.posted (life n (p.incarnation n))) o (f n))
        (sym (done.others (life n (p.incarnation n)) (other-life name n (p.incarnation name) (p.incarnation n) e))) (others n e)
