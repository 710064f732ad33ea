-- What rows do is a move of a link: it leads to another link.
use Rattle.std.proofs.Common.{◌≡◌, ℕ, ◌+◌, ◌%◌, ◌^◌, ◌==◌, Bool, true, false, if◌then◌else◌, List, [], ◌∷◌, ◌++◌, map, Some, refl, ap, ap₂, sym, ◌∙◌, replicate}
use Rattle.std.proofs.lemmas.Bool.{eqb-true}
use Rattle.ca_base.specs.objects.QueuePair.{QueuePair}
use Rattle.ca_connection.proofs.OnceLemmas.{law-request-near, law-response-near}
use Rattle.ca_connection.specs.Layout.{Direction, is_atomic, is_write, span}
use Rattle.ca_connection.specs.Link.{Acceptance, Link, RequestPacket, Responder, Response, number_of}
use Rattle.ca_connection.specs.Moves.{MayArrive, MayBeTaken, Reached, Reception, acceptances_after, after_arrival, after_request, after_response, with_one}
use Rattle.ca_connection.specs.Moves.Move.{arrive, forget, go_back, respond as move_respond, respond_nowhere, send as move_send, send_nowhere, take as move_take}
use Rattle.ca_connection.specs.Moves.Reached.{move}
use Rattle.ca_connection.specs.Moves.Reception.{Neither, Rejected, Accepted}
use Rattle.ca_connection.specs.Once.{numbers_at}
use Rattle.ca_model.specs.machine.Row.{Effects}
use Rattle.ca_psn.specs.Psn.{widened}
use Rattle.ca_law_once.specs.Links.{IsReceived, IsTaken, LeadsTo, found_at}
use Rattle.ca_law_once.specs.Moves.{ForgetsIn, GoesBackIn, ReceivesIn, RespondsIn, SendsIn, TakesIn, found_in, writes_told, written_in}
use Rattle.ca_law_once.specs.Sides.{kept_result, requester_in, responder_in, said}
use Rattle.ca_law_once.proofs.Rows.KeepLemmas.{keeps-all}

found-grows : (d : Direction) (w place at : ℕ) (r : Reception) (before : List Acceptance) → is_atomic (d.work at) ≡ true
    → found_at at (acceptances_after w place r before) ≡ (if place == at then found_in (d.work place) r else []) ++ found_at at before
found-grows d w place at Neither before is = by (place == at)
  where
    by : (b : Bool) → found_at at before ≡ (if b then [] else []) ++ found_at at before
    by true = refl
    by false = refl
found-grows d w place at (Rejected code) before is = by (place == at)
  where
    by : (b : Bool) → found_at at before ≡ (if b then [] else []) ++ found_at at before
    by true = refl
    by false = refl
found-grows d w place at (Accepted found) before is = by (place == at) refl
  where
    by : (b : Bool) → (place == at) ≡ b → (if b then found ∷ found_at at before else found_at at before) ≡ (if b then (if is_atomic (d.work place) then found ∷ [] else []) else []) ++ found_at at before
    by true e = ap (λ b. (if b then found ∷ [] else []) ++ found_at at before) (sym (ap (λ p. is_atomic (d.work p)) (eqb-true place at e) ∙ is))
    by false e = refl

numbers-grow : (d : Direction) (w n place at count : ℕ) (r : Reception) (before : List Acceptance) → w ≡ n → is_write (d.work at) ≡ true → count ≡ written_in (d.work place) r
    → numbers_at at (acceptances_after w place r before) ≡ (if place == at then replicate count n else []) ++ numbers_at at before
numbers-grow d w n place at count Neither before same is none = by (place == at)
  where
    by : (b : Bool) → numbers_at at before ≡ (if b then replicate count n else []) ++ numbers_at at before
    by true = ap (λ (k : ℕ). replicate k n ++ numbers_at at before) (sym none)
    by false = refl
numbers-grow d w n place at count (Rejected code) before same is none = by (place == at)
  where
    by : (b : Bool) → numbers_at at before ≡ (if b then replicate count n else []) ++ numbers_at at before
    by true = ap (λ (k : ℕ). replicate k n ++ numbers_at at before) (sym none)
    by false = refl
numbers-grow d w n place at count (Accepted found) before same is one = by (place == at) refl
  where
    by : (b : Bool) → (place == at) ≡ b → (if b then w ∷ numbers_at at before else numbers_at at before) ≡ (if b then replicate count n else []) ++ numbers_at at before
    by true e = ap (λ (m : ℕ). m ∷ numbers_at at before) same ∙ ap (λ (k : ℕ). replicate k n ++ numbers_at at before) (sym (one ∙ ap (λ (b : Bool). if b then 1 else 0) (ap (λ p. is_write (d.work p)) (eqb-true place at e) ∙ is)))
    by false e = refl

pub received-moves : (d : Direction) (l : Link) (k : ℕ) (x : RequestPacket) (e : Effects) → Reached d l → MayArrive l k x
    → ReceivesIn d x (widened l.responder.expected (x.number % 2 ^ 24)) l.responder e → (widened l.responder.expected (x.number % 2 ^ 24) ≡ x.number) × IsReceived d l x (responder_in e.queue) e
received-moves d l k x e reached may does = (
  (law-request-near d l k x reached may).exact,
  record {
    link = after_arrival l x (widened l.responder.expected (x.number % 2 ^ 24)) (responder_in e.queue) does.reception;
    reached = move reached (arrive k x (responder_in e.queue) does.reception may does.receives);
    requester_is = refl;
    responder_is = refl;
    requests_are = refl;
    responses_are = refl;
    completions = refl;
    wrote = λ place is. numbers-grow d (widened l.responder.expected (x.number % 2 ^ 24)) x.number x.place place (writes_told e.marks) does.reception l.acceptances (law-request-near d l k x reached may).exact is does.wrote;
    found = λ place is. found-grows d (widened l.responder.expected (x.number % 2 ^ 24)) x.place place does.reception l.acceptances is
        ∙ ap (λ ns. (if x.place == place then ns else []) ++ found_at place l.acceptances) (sym does.found);
  },
)

pub taken-moves : (d : Direction) (l : Link) (k : ℕ) (a : Response) (e : Effects) → Reached d l → MayBeTaken l k a
    → (does : TakesIn d a (widened l.requester.una (number_of a % 2 ^ 24)) l.requester e) → (widened l.requester.una (number_of a % 2 ^ 24) ≡ number_of a) × IsTaken d l (requester_in e.queue) does.completion
taken-moves d l k a e reached may does = (
  (law-response-near d l k a reached may).exact,
  record {
    link = record l { requester = requester_in e.queue; completions = with_one does.completion l.completions };
    reached = move reached (move_take k a (requester_in e.queue) does.completion may does.takes);
    requester_is = refl;
    responder_is = refl;
    requests_are = refl;
    responses_are = refl;
    acceptances = refl;
    completions = refl;
  },
)

-- a requester by its two numbers
requester-is : (p : QueuePair) (una cursor : ℕ) → p.requester.una ≡ una → p.requester.cursor ≡ cursor → record { una = una; cursor = cursor } ≡ requester_in p
requester-is p una cursor a b = ap₂ (λ x y. record { una = x; cursor = y }) (sym a) (sym b)

pub sent-moves : (d : Direction) (l : Link) (place : ℕ) (e : Effects) → Reached d l → SendsIn d l.requester place e
    → LeadsTo d l (requester_in e.queue) l.responder (Some (record { number = l.requester.cursor; place = place }) ∷ l.requests) l.responses
sent-moves d l place e reached does = record {
  link = after_request d place l (Some (record { number = l.requester.cursor; place = place }) ∷ l.requests);
  reached = move reached (move_send place (record { number = does.number; room = does.room }) does.few);
  requester_is = requester-is e.queue l.requester.una (l.requester.cursor + span d place l.requester.cursor) does.una does.cursor;
  responder_is = refl;
  requests_are = refl;
  responses_are = refl;
  acceptances = refl;
  completions = refl;
}

pub sent-nowhere-moves : (d : Direction) (l : Link) (place : ℕ) (e : Effects) → Reached d l → l.requests ≡ [] → SendsIn d l.requester place e
    → LeadsTo d l (requester_in e.queue) l.responder [] l.responses
sent-nowhere-moves d l place e reached none does = record {
  link = after_request d place l [];
  reached = move reached (send_nowhere place (record { number = does.number; room = does.room }) none);
  requester_is = requester-is e.queue l.requester.una (l.requester.cursor + span d place l.requester.cursor) does.una does.cursor;
  responder_is = refl;
  requests_are = refl;
  responses_are = refl;
  acceptances = refl;
  completions = refl;
}

responder-is : (p : QueuePair) (r : Responder) → p.responder.expected ≡ r.expected → map kept_result p.saved ≡ r.results
    → record { expected = r.expected; queue = map said p.responder.answers; results = r.results } ≡ responder_in p
responder-is p r expected results = ap₂ (λ x y. record { expected = x; queue = map said p.responder.answers; results = y }) (sym expected) (sym results)

pub responded-moves : (d : Direction) (l : Link) (e : Effects) → Reached d l → (does : RespondsIn d l.responder e)
    → LeadsTo d l l.requester (responder_in e.queue) l.requests (Some does.response ∷ l.responses)
responded-moves d l e reached does = record {
  link = after_response l does.response (map said e.queue.responder.answers) does.rejection (Some does.response ∷ l.responses);
  reached = move reached (move_respond does.response (map said e.queue.responder.answers) does.rejection does.responds);
  requester_is = refl;
  responder_is = responder-is e.queue l.responder does.expected does.results;
  requests_are = refl;
  responses_are = refl;
  acceptances = refl;
  completions = refl;
}

pub responded-nowhere-moves : (d : Direction) (l : Link) (e : Effects) → Reached d l → l.responses ≡ [] → RespondsIn d l.responder e
    → LeadsTo d l l.requester (responder_in e.queue) l.requests []
responded-nowhere-moves d l e reached none does = record {
  link = after_response l does.response (map said e.queue.responder.answers) does.rejection [];
  reached = move reached (respond_nowhere does.response (map said e.queue.responder.answers) does.rejection does.responds none);
  requester_is = refl;
  responder_is = responder-is e.queue l.responder does.expected does.results;
  requests_are = refl;
  responses_are = refl;
  acceptances = refl;
  completions = refl;
}

pub forgotten-moves : (d : Direction) (l : Link) (e : Effects) → Reached d l → ForgetsIn d l.responder e → LeadsTo d l l.requester (responder_in e.queue) l.requests l.responses
forgotten-moves d l e reached does = record {
  link = record l { responder = record { expected = l.responder.expected; queue = map said e.queue.responder.answers; results = l.responder.results } };
  reached = move reached (forget (map said e.queue.responder.answers) l.responder.results does.queue (keeps-all l.responder.results));
  requester_is = refl;
  responder_is = responder-is e.queue l.responder does.expected does.results;
  requests_are = refl;
  responses_are = refl;
  acceptances = refl;
  completions = refl;
}

pub back-moves : (d : Direction) (l : Link) (e : Effects) → Reached d l → GoesBackIn d l.requester e → LeadsTo d l (requester_in e.queue) l.responder l.requests l.responses
back-moves d l e reached does = record {
  link = record l { requester = record { una = l.requester.una; cursor = e.queue.requester.cursor } };
  reached = move reached (go_back e.queue.requester.cursor does.low does.high);
  requester_is = requester-is e.queue l.requester.una e.queue.requester.cursor does.una refl;
  responder_is = refl;
  requests_are = refl;
  responses_are = refl;
  acceptances = refl;
  completions = refl;
}
