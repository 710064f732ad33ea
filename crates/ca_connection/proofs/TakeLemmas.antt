-- A response that is taken keeps the seven facts.
use Rattle.std.proofs.Common.{◌≡◌, ℕ, suc, ◌+◌, ◌<◌, ◌≤◌, ◌⊎◌, inl, inr, true, false, List, ◌∷◌, Option, None, Some, sym, ◌∙◌, ap, subst, arith}
use Rattle.std.specs.List.{Contains}
use Rattle.ca_connection.specs.Layout.{Direction, is_atomic, is_answered, start, first, HasNumber}
use Rattle.ca_connection.specs.Acknowledge.{PassesNone}
use Rattle.ca_connection.specs.Link.{Response, number_of, gain, Acceptance, AtomicCompletion, Requester, Link}
use Rattle.ca_connection.specs.Moves.{Takes, with_one}
use Rattle.ca_connection.specs.Moves.Takes.{drop as answer_drop, acknowledge, read as answer_read, atomic as answer_atomic}
use Rattle.ca_connection.specs.Invariant.{NumberFact, Swapped, Holds, ResponseFact, CompletionFact, Sound}
use Rattle.ca_connection.proofs.LayoutLemmas.{names-one, first-is_atomic, names-is_atomic, read-not_atomic, atomic-is_answered}
use Rattle.ca_connection.proofs.ListLemmas.{contains-head, contains-more, contains-cases}
use Rattle.ca_connection.proofs.AcceptanceLemmas.{acceptances-names}
use Rattle.ca_connection.proofs.NumberLemmas.{cases-lt}

not_passed : (d : Direction) (una next place n : ℕ) → PassesNone d una next → is_atomic (d.work place) ≡ true → HasNumber d place n → una ≤ n → n < next → ⊥
not_passed d una next place n passes is names from below =
    let yes_ : is_answered (d.work place) ≡ true = atomic-is_answered (d.work place) is in
    let no_ : is_answered (d.work place) ≡ false = passes place n from below names in
    cc

-- `una` goes on, and each atomic that it passes has its completion
completions-on : (d : Direction) (una next : ℕ) (acceptances : List Acceptance) (completions : List AtomicCompletion)
    → una ≤ next
    → ((place n : ℕ) → is_atomic (d.work place) ≡ true → HasNumber d place n → una ≤ n → n < next → (found : ℕ) × Contains completions (record { place = place; found = found }))
    → CompletionFact d una acceptances completions → CompletionFact d next acceptances completions
completions-on d una next acceptances completions on new c = record {
  atomic = c.atomic;
  below = λ place found has. omega (arith, c.below place found has);
  acceptance = c.acceptance;
  all = all;
}
  where
    all : (place n : ℕ) → is_atomic (d.work place) ≡ true → HasNumber d place n → n < next → (found : ℕ) × Contains completions (record { place = place; found = found })
    all place n is names below = go (cases-lt n una)
      where
        go : (n < una) ⊎ (una ≤ n) → (found : ℕ) × Contains completions (record { place = place; found = found })
        go (inl old) = c.all place n is names old
        go (inr from) = new place n is names from below

-- the completion of an atomic is added, whose number `una` passes
completions-one : (d : Direction) (una w place found : ℕ) (acceptances : List Acceptance) (completions : List AtomicCompletion)
    → una ≤ w → PassesNone d una w → is_atomic (d.work place) ≡ true → HasNumber d place w
    → Contains acceptances (record { number = first d place; place = place; found = found })
    → CompletionFact d una acceptances completions → CompletionFact d (w + 1) acceptances (record { place = place; found = found } ∷ completions)
completions-one d una w place found acceptances completions from passes is names acceptance c = record {
  atomic = λ p v has. atomic p v (contains-cases _ _ completions has);
  below = λ p v has. past_one p v (contains-cases _ _ completions has);
  acceptance = λ p v has. mark_one p v (contains-cases _ _ completions has);
  all = λ p n kind named below. all p n kind named below (cases-lt n una) (cases-lt n w);
}
  where
    atomic : (p v : ℕ) → (◌≡◌ {A = AtomicCompletion} (record { place = place; found = found }) (record { place = p; found = v })) ⊎ Contains completions (record { place = p; found = v }) → is_atomic (d.work p) ≡ true
    atomic p v (inl same) = let e : place ≡ p = ap (λ (x : AtomicCompletion). x.place) same in ap (λ q. is_atomic (d.work q)) (sym e) ∙ is
    atomic p v (inr old) = c.atomic p v old

    past_one : (p v : ℕ) → (◌≡◌ {A = AtomicCompletion} (record { place = place; found = found }) (record { place = p; found = v })) ⊎ Contains completions (record { place = p; found = v }) → first d (suc p) ≤ w + 1
    past_one p v (inl same) =
        let e : place ≡ p = ap (λ (x : AtomicCompletion). x.place) same in
        let one : first d (suc place) ≡ first d (suc p) = ap (λ q. first d (suc q)) e in
        omega (arith, one, first-is_atomic d place is, names.from)
    past_one p v (inr old) = omega (arith, c.below p v old)

    mark_one : (p v : ℕ) → (◌≡◌ {A = AtomicCompletion} (record { place = place; found = found }) (record { place = p; found = v })) ⊎ Contains completions (record { place = p; found = v }) → Contains acceptances (record { number = first d p; place = p; found = v })
    mark_one p v (inl same) = subst (λ (x : AtomicCompletion). Contains acceptances (record { number = first d x.place; place = x.place; found = x.found })) same acceptance
    mark_one p v (inr old) = c.acceptance p v old

    all : (p n : ℕ) → is_atomic (d.work p) ≡ true → HasNumber d p n → n < w + 1 → (n < una) ⊎ (una ≤ n) → (n < w) ⊎ (w ≤ n)
        → (v : ℕ) × Contains (record { place = place; found = found } ∷ completions) (record { place = p; found = v })
    all p n kind named below (inl old) later = let r = c.all p n kind named old in (r.0, contains-more _ _ completions r.1)
    all p n kind named below (inr new) (inl before) = absurd (not_passed d una w p n passes kind named new before)
    all p n kind named below (inr new) (inr at) =
        let e : n ≡ w = omega arith in
        let same : place ≡ p = names-one d place p w names (subst (HasNumber d p) e named) in
        (found, subst (λ q. Contains (record { place = place; found = found } ∷ completions) (record { place = q; found = found })) same (contains-head _ completions))

taken-sound : (d : Direction) (l : Link) (requester : Requester) (completion : Option AtomicCompletion)
    → NumberFact (start d) requester.una requester.cursor l.response_top l.responder.expected l.request_top
    → CompletionFact d requester.una l.acceptances (with_one completion l.completions)
    → Sound d l → Sound d (record l { requester = requester; completions = with_one completion l.completions })
taken-sound d l requester completion numbers completed s = record {
  numbers = numbers;
  requests = s.requests;
  responses = s.responses;
  queue = s.queue;
  results = s.results;
  acceptances = s.acceptances;
  completions = completed;
}

-- `una` and the cursor go on or back between these bounds
pub numbers-move : (d : Direction) (l : Link) (next cursor : ℕ)
    → l.requester.una ≤ next → next ≤ l.response_top → next ≤ cursor → cursor ≤ l.requester.cursor → Sound d l
    → NumberFact (start d) next cursor l.response_top l.responder.expected l.request_top
numbers-move d l next cursor on most low high s = let n = s.numbers in record {
  low = omega arith;
  una_cursor = low;
  cursor_request_top = omega arith;
  una_response_top = most;
  response_top_expected = n.response_top_expected;
  expected_request_top = n.expected_request_top;
  request_top_una = omega arith;
}

pub takes-sound : (d : Direction) (l : Link) (k : ℕ) (a : Response) (requester : Requester) (completion : Option AtomicCompletion)
    → ResponseFact d l.acceptances l.rejections l.response_top k a → Sound d l
    → Takes d a (number_of a) l.requester requester completion
    → Sound d (record l { requester = requester; completions = with_one completion l.completions })
takes-sound d l k a _ _ f s answer_drop = taken-sound d l l.requester None s.numbers s.completions s
takes-sound d l k a _ _ f s (acknowledge next cursor on most passes low high) =
    taken-sound d l (record { una = next; cursor = cursor }) None (numbers-move d l next cursor on (omega (arith, f.below)) low high s)
    (completions-on d l.requester.una next l.acceptances l.completions on (λ place n is names from below. absurd (not_passed d l.requester.una next place n passes is names from below)) s.completions)
    s
takes-sound d l k a _ _ f s (answer_read n left place is names kind from below passes) =
    taken-sound d l (record { una = number_of a + 1; cursor = l.requester.cursor }) None
    (numbers-move d l (number_of a + 1) l.requester.cursor (omega arith) (omega (arith, f.below, ap gain is)) (omega arith) (omega arith) s)
    (completions-on d l.requester.una (number_of a + 1) l.acceptances l.completions (omega arith)
    (λ p m atomic named start_ end. go p m atomic named start_ end (cases-lt m (number_of a))) s.completions)
    s
  where
    go : (p m : ℕ) → is_atomic (d.work p) ≡ true → HasNumber d p m → l.requester.una ≤ m → m < number_of a + 1 → (m < number_of a) ⊎ (number_of a ≤ m)
        → (found : ℕ) × Contains l.completions (record { place = p; found = found })
    go p m atomic named start_ end (inl before) = absurd (not_passed d l.requester.una (number_of a) p m passes atomic named start_ before)
    go p m atomic named start_ end (inr at) =
        let e : m ≡ number_of a = omega arith in
        let same : place ≡ p = names-one d place p (number_of a) names (subst (HasNumber d p) e named) in
        absurd (read-not_atomic (d.work place) kind (ap (λ q. is_atomic (d.work q)) same ∙ atomic))
takes-sound d l k a _ _ f s (answer_atomic n found place is names kind from below passes) =
    taken-sound d l (record { una = number_of a + 1; cursor = l.requester.cursor }) (Some (record { place = place; found = found }))
    (numbers-move d l (number_of a + 1) l.requester.cursor (omega arith) (omega (arith, f.below, ap gain is)) (omega arith) (omega arith) s)
    (completions-one d l.requester.una (number_of a) place found l.acceptances l.completions from passes kind names acceptance s.completions)
    s
  where
    swapped : Swapped d l.acceptances n found
    swapped = subst (Holds d l.acceptances l.rejections) is f.holds

    acceptance : Contains l.acceptances (record { number = first d place; place = place; found = found })
    acceptance =
        let at : number_of a ≡ n = ap number_of is in
        let named : HasNumber d place n = subst (HasNumber d place) at names in
        let own = acceptances-names d l.responder.expected l.acceptances _ s.acceptances swapped.acceptance in
        let same : swapped.place ≡ place = names-one d swapped.place place n own named in
        let low : n ≡ first d place = names-is_atomic d place n kind named in
        subst (λ m. Contains l.acceptances (record { number = m; place = place; found = found })) low
        (subst (λ p. Contains l.acceptances (record { number = n; place = p; found = found })) same swapped.acceptance)
