-- From the seven facts to the laws.
use Rattle.std.proofs.Common.{◌≡◌, ◌≢◌, ℕ, suc, ◌+◌, ◌-◌, ◌<◌, ◌≤◌, ◌↔◌, ◌⊎◌, inl, inr, min, true, false, List, slice_get, Some, refl, ◌∙◌, ap, subst, arith}
use Rattle.std.specs.List.{Contains, count_by}
use Rattle.ca_connection.specs.Layout.{Direction, is_read, is_atomic, start, first, HasNumber, bytes_left}
use Rattle.ca_connection.specs.Link.{RequestPacket, NakReason, Response, number_of, Acceptance, Rejection, Link}
use Rattle.ca_connection.specs.Link.NakReason.{PsnSequenceError, InvalidRequest, RemoteAccessError, RemoteOperationalError, ReceiverNotReady}
use Rattle.ca_connection.specs.Link.Response.{Ack, Nak, Data, Found}
use Rattle.ca_connection.specs.Moves.{MayArrive, MayBeTaken, Reached}
use Rattle.ca_connection.specs.Invariant.{NumberFact, RequestFact, RejectedFor, HasRejection, Holds, ResponseFact, AcceptanceFact}
use Rattle.ca_connection.specs.Once.{acceptances_of_packet, acceptances_of_request, takes_number, HasSucceeded, RequestIsNear, ResponseIsNear, Fits}
use Rattle.ca_connection.proofs.LayoutLemmas.{segments-some, segments-step, segments-one, start-le, names-one, span-some, span-read, span-is_read, first-is_atomic, atomic-not_read}
use Rattle.ca_connection.proofs.AcceptanceLemmas.{acceptances-names}
use Rattle.ca_connection.proofs.MoveLemmas.{request-exact, response-exact, mtu-some, reached-sound}
use Rattle.ca_connection.proofs.CountLemmas.{packet-once, atomic-acceptances, number-one, packet-accepted}
use Rattle.ca_connection.proofs.NumberLemmas.{cases-lt}

pub law-numbers : (d : Direction) (l : Link) → Reached d l → NumberFact (start d) l.requester.una l.requester.cursor l.response_top l.responder.expected l.request_top
law-numbers d l reached = let s = reached-sound d l reached in s.numbers

pub law-request-near : (d : Direction) (l : Link) (k : ℕ) (packet : RequestPacket) → Reached d l → MayArrive l k packet → RequestIsNear l packet
law-request-near d l k packet reached may =
    let s = reached-sound d l reached in
    let n = s.numbers in
    let f : RequestFact d l.request_top k packet = s.requests k packet may.is in
    record {
      low = omega (arith, f.near, may.recent);
      high = omega (arith, f.below, span-some d packet.place packet.number);
      exact = request-exact d l k packet n f may.recent;
    }

pub law-response-near : (d : Direction) (l : Link) (k : ℕ) (a : Response) → Reached d l → MayBeTaken l k a → ResponseIsNear l a
law-response-near d l k a reached may =
    let s = reached-sound d l reached in
    let n = s.numbers in
    let f : ResponseFact d l.acceptances l.rejections l.response_top k a = s.responses k a may.is in
    record {
      low = omega (arith, f.near, may.recent);
      high = omega (arith, f.below);
      exact = response-exact d l k a n f may.recent;
    }

pub law-of-its-request : (d : Direction) (l : Link) (a : Acceptance) → Reached d l → Contains l.acceptances a → HasNumber d a.place a.number
law-of-its-request d l a reached has = acceptances-names d l.responder.expected l.acceptances a (let s = reached-sound d l reached in s.acceptances) has

pub law-packet-once : (d : Direction) (l : Link) (n : ℕ) → Reached d l → acceptances_of_packet n l.acceptances ≤ 1
law-packet-once d l n reached = packet-once d l.responder.expected n l.acceptances (let s = reached-sound d l reached in s.acceptances)

pub law-covered-once : (d : Direction) (l : Link) (n : ℕ) → Reached d l → start d ≤ n → n < l.responder.expected → count_by (takes_number d n) l.acceptances ≡ 1
law-covered-once d l n reached low high = number-one d l.responder.expected n l.acceptances (let s = reached-sound d l reached in s.acceptances) low high

pub law-atomic-once : (d : Direction) (l : Link) (place : ℕ) → Reached d l → is_atomic (d.work place) ≡ true → acceptances_of_request place l.acceptances ≤ 1
law-atomic-once d l place reached is =
    let s = reached-sound d l reached in
    omega (arith, atomic-acceptances d l.responder.expected place l.acceptances is s.acceptances, packet-once d l.responder.expected (first d place) l.acceptances s.acceptances)

pub law-success : (d : Direction) (l : Link) (place n : ℕ) → Reached d l → is_read (d.work place) ≡ false → HasNumber d place n → HasSucceeded d l place
    → (acceptances_of_packet n l.acceptances ≡ 1) × ((found : ℕ) × Contains l.acceptances (record { number = n; place = place; found = found }))
law-success d l place n reached kind names done =
    let s = reached-sound d l reached in
    packet-accepted d l.responder.expected place n l.acceptances (mtu-some d l reached) kind s.acceptances names (omega (arith, start-le d place, names.from)) (let m = s.numbers in omega (arith, names.below))

pub law-completed : (d : Direction) (l : Link) (place found : ℕ) → Reached d l → Contains l.completions (record { place = place; found = found })
    → (acceptances_of_request place l.acceptances ≡ 1) × Contains l.acceptances (record { number = first d place; place = place; found = found })
law-completed d l place found reached has =
    let s = reached-sound d l reached in
    let c = s.completions in
    let is : is_atomic (d.work place) ≡ true = c.atomic place found has in
    let one = law-success d l place (first d place) reached (atomic-not_read (d.work place) is) (record { from = omega arith; below = omega (arith, first-is_atomic d place is) }) (c.below place found has) in
    (atomic-acceptances d l.responder.expected place l.acceptances is s.acceptances ∙ one.0, c.acceptance place found has)

pub law-completes : (d : Direction) (l : Link) (place : ℕ) → Reached d l → is_atomic (d.work place) ≡ true → HasSucceeded d l place
    → (found : ℕ) × Contains l.completions (record { place = place; found = found })
law-completes d l place reached is done =
    let s = reached-sound d l reached in
    let c = s.completions in
    c.all place (first d place) is (record { from = omega arith; below = omega (arith, first-is_atomic d place is) }) (omega (arith, first-is_atomic d place is))

-- a READ's number is its last exactly where what is left fits one payload
is_last : (d : Direction) (place n : ℕ) → 0 < d.mtu → is_read (d.work place) ≡ true → HasNumber d place n → (bytes_left d place n ≤ d.mtu) ↔ (n + 1 ≡ first d (suc place))
is_last d place n some kind names = (λ few. short few, λ end. ended end)
  where
    short : bytes_left d place n ≤ d.mtu → n + 1 ≡ first d (suc place)
    short few = omega (arith, segments-one d.mtu (bytes_left d place n) some few, span-is_read d place n kind, span-read d place n some kind names)

    ended : n + 1 ≡ first d (suc place) → bytes_left d place n ≤ d.mtu
    ended end = go (cases-lt d.mtu (bytes_left d place n))
      where
        go : (d.mtu < bytes_left d place n) ⊎ (bytes_left d place n ≤ d.mtu) → bytes_left d place n ≤ d.mtu
        go (inl more) = absurd (omega (arith, segments-step d.mtu (bytes_left d place n) some more, segments-some d.mtu (bytes_left d place n - d.mtu), span-is_read d place n kind, span-read d place n some kind names))
        go (inr few) = few

holds-fits : (d : Direction) (l : Link) (place : ℕ) (a : Response) → 0 < d.mtu → AcceptanceFact d l.responder.expected l.acceptances → HasNumber d place (number_of a) → Holds d l.acceptances l.rejections a → Fits d place a
holds-fits d l place (Ack n) some acceptances names holds = tt
holds-fits d l place (Nak code n) some acceptances names holds = tt
holds-fits d l place (Data n left) some acceptances names holds =
    let same : holds.place ≡ place = names-one d holds.place place n holds.number names in
    let kind : is_read (d.work place) ≡ true = subst (λ p. is_read (d.work p) ≡ true) same holds.read in
    let rest : left ≡ bytes_left d place n = holds.rest ∙ ap (λ p. bytes_left d p n) same in
    let final = is_last d place n some kind names in
    (kind, ap (λ b. min d.mtu b) rest, (λ few. final.0 (omega (arith, rest)), λ end. omega (arith, final.1 end, rest)))
holds-fits d l place (Found n found) some acceptances names holds =
    let own = acceptances-names d l.responder.expected l.acceptances _ acceptances holds.acceptance in
    let same : holds.place ≡ place = names-one d holds.place place n own names in
    subst (λ p. is_atomic (d.work p) ≡ true) same holds.atomic

pub law-fits : (d : Direction) (l : Link) (k place : ℕ) (a : Response) → Reached d l → slice_get l.responses k ≡ Some (Some a) → HasNumber d place (number_of a) → Fits d place a
law-fits d l k place a reached is names =
    let s = reached-sound d l reached in
    let f : ResponseFact d l.acceptances l.rejections l.response_top k a = s.responses k a is in
    holds-fits d l place a (mtu-some d l reached) s.acceptances names f.holds

rejected-for : (d : Direction) (rejections : List Rejection) (n place : ℕ) (code : NakReason) → HasNumber d place n → RejectedFor d rejections n code → Contains rejections (record { number = n; place = place; code = code })
rejected-for d rejections n place code names r =
    let same : r.place ≡ place = names-one d r.place place n r.number names in
    subst (λ p. Contains rejections (record { number = n; place = p; code = code })) same r.rejection

has-rejection : (d : Direction) (rejections : List Rejection) (n place : ℕ) (code : NakReason) → code ≢ PsnSequenceError → HasNumber d place n → HasRejection d rejections n code → Contains rejections (record { number = n; place = place; code = code })
has-rejection d rejections n place PsnSequenceError other names r = absurd (other refl)
has-rejection d rejections n place InvalidRequest other names r = rejected-for d rejections n place InvalidRequest names r
has-rejection d rejections n place RemoteAccessError other names r = rejected-for d rejections n place RemoteAccessError names r
has-rejection d rejections n place RemoteOperationalError other names r = rejected-for d rejections n place RemoteOperationalError names r
has-rejection d rejections n place ReceiverNotReady other names r = rejected-for d rejections n place ReceiverNotReady names r

pub law-rejection : (d : Direction) (l : Link) (k place n : ℕ) (code : NakReason) → Reached d l → slice_get l.responses k ≡ Some (Some (Nak code n)) → code ≢ PsnSequenceError → HasNumber d place n
    → Contains l.rejections (record { number = n; place = place; code = code })
law-rejection d l k place n code reached is other names =
    let s = reached-sound d l reached in
    let f : ResponseFact d l.acceptances l.rejections l.response_top k (Nak code n) = s.responses k (Nak code n) is in
    has-rejection d l.rejections n place code other names f.holds
