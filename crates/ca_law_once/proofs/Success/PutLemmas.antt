-- Which bytes marks tell of as put into lists, and the list of an atomic that is answered. For proofs only.
use Rattle.std.proofs.Common.{◌≡◌, ℕ, zero, suc, ◌+◌, ◌-◌, ◌==◌, min, ◌<◌, ◌≤◌, Bool, true, false, nat_le, if◌then◌else◌, List, [], ◌∷◌, ◌++◌, append_assoc, drop, length, map, take, None, Some, IfSome, find, refl, ap, sym, ◌∙◌, arith}
use Rattle.std.proofs.lemmas.Bool.Decides.{nat_tests}
use Rattle.std.proofs.lemmas.List.{length-drop, take-append-drop}
use Rattle.std.proofs.lemmas.List.Sums.{sum_by-cons}
use Rattle.std.specs.List.{AllByRecursion, flat_map}
use Rattle.ca_base.specs.declared.completion.WcStatus.TheVariants.{Success}
use Rattle.ca_base.specs.declared.limits.TheConstants.{ATOMIC_BYTES}
use Rattle.ca_base.specs.declared.request.Piece.{Piece}
use Rattle.ca_base.specs.declared.request.PostedSend.{PostedSend}
use Rattle.ca_base.specs.objects.QueuePair.{QueuePair}
use Rattle.ca_base.specs.objects.WorkQueue.{items_from}
use Rattle.ca_keys.specs.declared.access.Kind.{Kind}
use Rattle.ca_keys.specs.declared.names.DomainId.{DomainId}
use Rattle.ca_keys.specs.declared.names.QueueId.{QueueId}
use Rattle.ca_law_world.proofs.Sound.PollLemmas.{all-taken}
use Rattle.ca_model.specs.Requests.{list_length, list_of}
use Rattle.ca_model.specs.declared.mark.Mark.{Mark}
use Rattle.ca_model.specs.declared.mark.Mark.TheVariants as marks
use Rattle.ca_model.specs.machine.Acknowledgements.{progress_to, with_una, finished_requests}
use Rattle.ca_model.specs.machine.Completions.{bytes_of_success, send_completion, success_marks}
use Rattle.ca_model.specs.machine.Numbering.{Numbered, begun_requests, cut_list, has_psn, is_atomic_op, list_asks, numbers_of, piece_ask, piece_part, request_at}
use Rattle.ca_model.specs.machine.Responses.{local_writes, writes_by}
use Rattle.ca_law_once.specs.Lists.{ListFits}
use Rattle.ca_law_once.specs.Success.{bytes_put, put_by}

pub put-append : (ms ns : List Mark) → bytes_put (ms ++ ns) ≡ bytes_put ms ++ bytes_put ns
put-append [] ns = refl
put-append (m ∷ ms) ns = ap (λ xs. put_by m ++ xs) (put-append ms ns) ∙ sym (append_assoc (put_by m) (bytes_put ms) (bytes_put ns))

-- successes put nothing
success-put : (name : QueueId) (n : Numbered) → bytes_put (success_marks name n.place n.request) ≡ []
success-put name n = by n.request.signalled
  where
    by : (b : Bool) → bytes_put (if b then marks.Done name (send_completion name n.place n.request Success (bytes_of_success n.request.op)) None ∷ [] else []) ≡ []
    by true = refl
    by false = refl

finished-put : (name : QueueId) (ns : List Numbered) → bytes_put (flat_map (λ n. success_marks name n.place n.request) ns) ≡ []
finished-put name [] = refl
finished-put name (n ∷ ns) = put-append (success_marks name n.place n.request) (flat_map (λ n. success_marks name n.place n.request) ns) ∙ ap (λ xs. xs ++ bytes_put (flat_map (λ n. success_marks name n.place n.request) ns)) (success-put name n) ∙ finished-put name ns

pub progress-put : (psn : ℕ) (q : QueuePair) → bytes_put (progress_to psn q).marks ≡ []
progress-put psn q = finished-put (with_una psn q).queue (finished_requests (with_una psn q))

-- bytes that a list has room for are put whole
no-bytes : (bytes : List ℕ) → length bytes ≡ 0 → [] ≡ bytes
no-bytes [] none = refl
no-bytes (b ∷ bytes) none = absurd (omega (arith, none))

pub list-put : (name : QueueId) (domain : DomainId) (kind : Kind) (skip count : ℕ) (ps : List Piece) (bytes : List ℕ) → length bytes ≡ count → skip + count ≤ list_length ps
    → bytes_put (local_writes (writes_by (list_asks name domain kind skip count ps) bytes)) ≡ bytes
list-put name domain kind skip count [] bytes whole room = no-bytes bytes (omega (arith, whole, room))
list-put name domain kind skip count (p ∷ ps) bytes whole room = by (nat_le p.length skip) (count == 0) refl refl
    (λ skip bytes whole room. list-put name domain kind skip count ps bytes whole room)
    (λ bytes whole room. list-put name domain kind 0 (count - (p.length - skip)) ps bytes whole room)
  where
    cut : Bool → Bool → List Piece
    cut b z = if b then cut_list (skip - p.length) count ps else if z then [] else piece_part p skip (min count (p.length - skip)) ∷ cut_list 0 (count - (p.length - skip)) ps

    size : ℕ
    size = list_length ps

    all : skip + count ≤ p.length + size
    all = omega (arith, room, sum_by-cons (λ (x : Piece). x.length) p ps)

    over : nat_le p.length skip ≡ true → p.length ≤ skip
    over e = grind (arith, nat_tests, e)

    under : nat_le p.length skip ≡ false → skip < p.length
    under e = grind (arith, nat_tests, e)

    zero-is : (count == 0) ≡ true → count ≡ 0
    zero-is e = grind (arith, nat_tests, e)

    by : (b z : Bool) → nat_le p.length skip ≡ b → (count == 0) ≡ z
        → ((skip : ℕ) (bytes : List ℕ) → length bytes ≡ count → skip + count ≤ size → bytes_put (local_writes (writes_by (list_asks name domain kind skip count ps) bytes)) ≡ bytes)
        → ((bytes : List ℕ) → length bytes ≡ count - (p.length - skip) → 0 + (count - (p.length - skip)) ≤ size
        → bytes_put (local_writes (writes_by (list_asks name domain kind 0 (count - (p.length - skip)) ps) bytes)) ≡ bytes)
        → bytes_put (local_writes (writes_by (map (piece_ask name domain kind) (cut b z)) bytes)) ≡ bytes
    by true z e f later more = later (skip - p.length) bytes whole (omega (arith, all, over e))
    by false true e f later more = no-bytes bytes (omega (arith, whole, zero-is f))
    by false false e f later more = ap (λ xs. take touch bytes ++ xs) (more (drop touch bytes) (length-drop touch bytes ∙ omega (arith, whole, under e)) (omega (arith, all, under e)))
        ∙ take-append-drop touch bytes
      where
        touch : ℕ
        touch = min count (p.length - skip)

-- ---- the list of a request that has begun

-- the list of a numbered atomic has the bytes of an atomic
abbrev pub NumberedFits : Numbered → Type 0
NumberedFits n = is_atomic_op n.request.op ≡ true → list_length (list_of n.request.op) ≡ ATOMIC_BYTES

numbers-fit : (mtu place psn : ℕ) (ps : List PostedSend) → AllByRecursion ListFits ps → AllByRecursion NumberedFits (numbers_of mtu place psn ps)
numbers-fit mtu place psn [] all = record {}
numbers-fit mtu place psn (p ∷ ps) all = (all.0, numbers-fit mtu (suc place) _ ps all.1)

pub all-dropped : {A : Type 0} (P : A → Type 0) (k : ℕ) (xs : List A) → AllByRecursion P xs → AllByRecursion P (drop k xs)
all-dropped P zero xs all = all
all-dropped P (suc k) [] all = record {}
all-dropped P (suc k) (x ∷ xs) all = all-dropped P k xs all.1

pub find-all : (P : Numbered → Type 0) (test : Numbered → Bool) (xs : List Numbered) → AllByRecursion P xs → IfSome (find test xs) P
find-all P test [] all = record {}
find-all P test (x ∷ xs) all = by (test x) (find-all P test xs all.1)
  where
    by : (b : Bool) → IfSome (find test xs) P → IfSome (if b then Some x else find test xs) P
    by true rest = all.0
    by false rest = rest

pub request-fits : (psn : ℕ) (q : QueuePair) → AllByRecursion ListFits q.sends.items → IfSome (request_at psn q) NumberedFits
request-fits psn q all = find-all NumberedFits (has_psn psn) (begun_requests q) (all-taken NumberedFits (q.requester.next - q.requester.oldest) _
    (numbers-fit q.responder.mtu q.requester.oldest q.requester.oldest_psn (items_from q.requester.oldest q.sends) (all-dropped ListFits (q.requester.oldest - q.sends.first) q.sends.items all)))
