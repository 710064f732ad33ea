-- A packet that arrives keeps the seven facts.
use Rattle.std.proofs.Common.{◌≡◌, ℕ, ◌+◌, ◌<◌, ◌≤◌, ◌⊎◌, inl, inr, true, List, ◌∷◌, refl, sym, subst, arith}
use Rattle.std.specs.List.{Contains}
use Rattle.ca_connection.specs.Limits.{request_distance}
use Rattle.ca_connection.specs.Layout.{Direction, is_atomic, HasNumber, bytes_left, span}
use Rattle.ca_connection.specs.Link.{RequestPacket, NakReason, Response, number_of, reach_of_all, SavedResult, Rejection, Responder, Link}
use Rattle.ca_connection.specs.Link.NakReason.{PsnSequenceError, InvalidRequest, RemoteAccessError, RemoteOperationalError, ReceiverNotReady}
use Rattle.ca_connection.specs.Link.Response.{Ack, Nak, Data, Found}
use Rattle.ca_connection.specs.Moves.{Keeps, Reception, with_response, responder_at, Receives, acceptances_after, rejections_after, after_arrival}
use Rattle.ca_connection.specs.Moves.Reception.{Neither, Rejected, Accepted}
use Rattle.ca_connection.specs.Moves.Receives.{drop as packet_drop, sequence_error, write_again, read_again, atomic_again, refuse, write as packet_write, write_and_acknowledge, read as packet_read, atomic as packet_atomic}
use Rattle.ca_connection.specs.Invariant.{RequestFact, Swapped, HasRejection, Holds, QueueFact, ResultFact, AcceptanceFact, Sound}
use Rattle.ca_connection.proofs.LayoutLemmas.{span-some, span-is_read, span-is_data, span-is_atomic}
use Rattle.ca_connection.proofs.ListLemmas.{contains-head, contains-more, contains-cases, keeps-contains}
use Rattle.ca_connection.proofs.QueueLemmas.{holds-more, queue-keeps, queue-push, queue-more}
use Rattle.ca_connection.proofs.AcceptanceLemmas.{acceptances-below, acceptances-grow, rejections-grow, completions-more, results-more}

arrival-sound : (d : Direction) (l : Link) (packet : RequestPacket) (w : ℕ) (responder : Responder) (reception : Reception)
    → l.responder.expected ≤ responder.expected → responder.expected ≤ l.request_top
    → QueueFact d (acceptances_after w packet.place reception l.acceptances) (rejections_after w packet.place reception l.rejections) responder.expected l.response_top responder.queue
    → ResultFact d (acceptances_after w packet.place reception l.acceptances) responder.results
    → AcceptanceFact d responder.expected (acceptances_after w packet.place reception l.acceptances)
    → Sound d l → Sound d (after_arrival l packet w responder reception)
arrival-sound d l packet w responder reception on top queue saved acceptances s = record {
  numbers = let n = s.numbers in record {
    low = n.low;
    una_cursor = n.una_cursor;
    cursor_request_top = n.cursor_request_top;
    una_response_top = n.una_response_top;
    response_top_expected = omega arith;
    expected_request_top = top;
    request_top_una = n.request_top_una;
  };
  requests = s.requests;
  responses = λ k a is. let old = s.responses k a is in record {
    below = old.below;
    near = old.near;
    holds = holds-more d l.acceptances (acceptances_after w packet.place reception l.acceptances) l.rejections (rejections_after w packet.place reception l.rejections) (acceptances-grow w packet.place reception l.acceptances) (rejections-grow w packet.place reception l.rejections) a old.holds;
  };
  queue = queue;
  results = saved;
  acceptances = acceptances;
  completions = completions-more d l.requester.una l.acceptances (acceptances_after w packet.place reception l.acceptances) l.completions (acceptances-grow w packet.place reception l.acceptances) s.completions;
}

rejection-holds : (d : Direction) (rejections : List Rejection) (n place : ℕ) (code : NakReason)
    → HasNumber d place n → HasRejection d (record { number = n; place = place; code = code } ∷ rejections) n code
rejection-holds d rejections n place PsnSequenceError names = tt
rejection-holds d rejections n place InvalidRequest names = record { place = place; number = names; rejection = contains-head _ rejections }
rejection-holds d rejections n place RemoteAccessError names = record { place = place; number = names; rejection = contains-head _ rejections }
rejection-holds d rejections n place RemoteOperationalError names = record { place = place; number = names; rejection = contains-head _ rejections }
rejection-holds d rejections n place ReceiverNotReady names = record { place = place; number = names; rejection = contains-head _ rejections }

-- a packet from before is answered again
again-sound : (d : Direction) (l : Link) (packet : RequestPacket) (w : ℕ) (kept : List Response) (a : Response)
    → Keeps l.responder.queue kept
    → l.responder.expected ≤ number_of a + request_distance → reach_of_all d.mtu a ≤ l.responder.expected → Holds d l.acceptances l.rejections a
    → Sound d l → Sound d (after_arrival l packet w (with_response l.responder kept a) Neither)
again-sound d l packet w kept a keeps near end holds s =
    arrival-sound d l packet w (with_response l.responder kept a) Neither (omega arith) s.numbers.expected_request_top
    (queue-push d l.acceptances l.acceptances l.rejections l.rejections l.responder.expected l.responder.expected l.response_top kept a
    (λ m has. has) (λ r has. has) near (omega arith) end holds
    (queue-keeps d l.acceptances l.rejections l.responder.expected l.response_top keeps s.queue))
    s.results s.acceptances s

-- the acceptances with one more, of a packet that is expected
acceptances-more : (d : Direction) (l : Link) (packet : RequestPacket) (found : ℕ)
    → packet.number ≡ l.responder.expected → HasNumber d packet.place packet.number → Sound d l
    → AcceptanceFact d (packet.number + span d packet.place packet.number) (record { number = packet.number; place = packet.place; found = found } ∷ l.acceptances)
acceptances-more d l packet found is names s = (refl, names, subst (λ b. AcceptanceFact d b l.acceptances) (sym is) s.acceptances)

-- a packet that is expected is accepted, and answered by one item
accept-sound : (d : Direction) (l : Link) (packet : RequestPacket) (next found : ℕ) (saved : List SavedResult) (kept : List Response) (a : Response)
    → packet.number ≡ l.responder.expected → next ≡ packet.number + span d packet.place packet.number → next ≤ l.request_top
    → HasNumber d packet.place packet.number
    → Keeps l.responder.queue kept
    → number_of a ≡ packet.number → reach_of_all d.mtu a ≤ next
    → Holds d (record { number = packet.number; place = packet.place; found = found } ∷ l.acceptances) l.rejections a
    → ResultFact d (record { number = packet.number; place = packet.place; found = found } ∷ l.acceptances) saved
    → Sound d l → Sound d (after_arrival l packet packet.number (responder_at next saved kept a) (Accepted found))
accept-sound d l packet next found saved kept a is end top names keeps at reaches holds result_fact s =
    arrival-sound d l packet packet.number (responder_at next saved kept a) (Accepted found) (omega arith) top
    (queue-push d l.acceptances (record { number = packet.number; place = packet.place; found = found } ∷ l.acceptances) l.rejections l.rejections l.responder.expected next l.response_top kept a
    (λ m has. contains-more _ m l.acceptances has) (λ r has. has) (omega arith) (omega arith) reaches holds
    (queue-keeps d l.acceptances l.rejections l.responder.expected l.response_top keeps s.queue))
    result_fact
    (subst (λ b. AcceptanceFact d b (record { number = packet.number; place = packet.place; found = found } ∷ l.acceptances)) (sym end) (acceptances-more d l packet found is names s))
    s

results-one : (d : Direction) (l : Link) (packet : RequestPacket) (found : ℕ) (saved : List SavedResult)
    → is_atomic (d.work packet.place) ≡ true → Keeps l.responder.results saved → Sound d l
    → ResultFact d (record { number = packet.number; place = packet.place; found = found } ∷ l.acceptances) (record { number = packet.number; found = found } ∷ saved)
results-one d l packet found saved is keeps s n value has = go (contains-cases _ _ saved has)
  where
    new : Swapped d (record { number = packet.number; place = packet.place; found = found } ∷ l.acceptances) packet.number found
    new = record { place = packet.place; atomic = is; acceptance = contains-head _ l.acceptances }

    same_result : (x y : SavedResult) → x ≡ y → Swapped d (record { number = packet.number; place = packet.place; found = found } ∷ l.acceptances) x.number x.found → Swapped d (record { number = packet.number; place = packet.place; found = found } ∷ l.acceptances) y.number y.found
    same_result x y e h = subst (λ z. Swapped d (record { number = packet.number; place = packet.place; found = found } ∷ l.acceptances) z.number z.found) e h

    go : (◌≡◌ {A = SavedResult} (record { number = packet.number; found = found }) (record { number = n; found = value })) ⊎ Contains saved (record { number = n; found = value })
        → Swapped d (record { number = packet.number; place = packet.place; found = found } ∷ l.acceptances) n value
    go (inl same) = same_result (record { number = packet.number; found = found }) (record { number = n; found = value }) same new
    go (inr old) = let o = s.results n value (keeps-contains _ keeps old) in record { place = o.place; atomic = o.atomic; acceptance = contains-more _ _ l.acceptances o.acceptance }

pub receives-sound : (d : Direction) (l : Link) (k : ℕ) (packet : RequestPacket) (responder : Responder) (reception : Reception)
    → 0 < d.mtu → RequestFact d l.request_top k packet → l.responder.expected ≤ packet.number + request_distance → Sound d l
    → Receives d packet packet.number l.responder responder reception
    → Sound d (after_arrival l packet packet.number responder reception)
receives-sound d l k packet _ _ some f near s packet_drop =
    arrival-sound d l packet packet.number l.responder Neither (omega arith) s.numbers.expected_request_top s.queue s.results s.acceptances s
receives-sound d l k packet _ _ some f near s (sequence_error {kept = kept} lt keeps) =
    again-sound d l packet packet.number kept (Nak PsnSequenceError l.responder.expected) keeps (omega arith) (omega arith) tt s
receives-sound d l k packet _ _ some f near s (write_again {kept = kept} final lt is keeps) =
    again-sound d l packet packet.number kept (Ack final) keeps (omega arith) (omega arith) tt s
receives-sound d l k packet _ _ some f near s (read_again {kept = kept} is below keeps) =
    again-sound d l packet packet.number kept (Data packet.number (bytes_left d packet.place packet.number)) keeps near
    (omega (arith, below, span-is_read d packet.place packet.number is))
    (record { place = packet.place; number = f.number; read = is; rest = refl }) s
receives-sound d l k packet _ _ some f near s (atomic_again {kept = kept} found has keeps) =
    let acceptance = s.results packet.number found has in
    let low = acceptances-below d l.responder.expected l.acceptances _ s.acceptances acceptance.acceptance in
    again-sound d l packet packet.number kept (Found packet.number found) keeps near
    (omega (arith, low, span-some d acceptance.place packet.number)) acceptance s
receives-sound d l k packet _ _ some f near s (refuse {kept = kept} code is keeps) =
    arrival-sound d l packet packet.number (with_response l.responder kept (Nak code packet.number)) (Rejected code) (omega arith) s.numbers.expected_request_top
    (queue-push d l.acceptances l.acceptances l.rejections (record { number = packet.number; place = packet.place; code = code } ∷ l.rejections) l.responder.expected l.responder.expected l.response_top kept (Nak code packet.number)
    (λ m has. has) (λ r has. contains-more _ r l.rejections has) near (omega arith) (omega arith) (rejection-holds d l.rejections packet.number packet.place code f.number)
    (queue-keeps d l.acceptances l.rejections l.responder.expected l.response_top keeps s.queue))
    s.results s.acceptances s
receives-sound d l k packet _ _ some f near s (packet_write {kept = kept} is kind keeps) =
    let one = span-is_data d packet.place packet.number kind in
    let end : packet.number + 1 ≡ packet.number + span d packet.place packet.number = omega (arith, one) in
    arrival-sound d l packet packet.number (record { expected = packet.number + 1; queue = kept; results = l.responder.results }) (Accepted 0) (omega arith) (omega (arith, f.below, one))
    (queue-more d l.acceptances (record { number = packet.number; place = packet.place; found = 0 } ∷ l.acceptances) l.rejections l.rejections l.responder.expected (packet.number + 1) l.response_top kept
    (λ m has. contains-more _ m l.acceptances has) (λ r has. has) (omega arith)
    (queue-keeps d l.acceptances l.rejections l.responder.expected l.response_top keeps s.queue))
    (results-more d l.acceptances (record { number = packet.number; place = packet.place; found = 0 } ∷ l.acceptances) l.responder.results (λ m has. contains-more _ m l.acceptances has) s.results)
    (subst (λ b. AcceptanceFact d b (record { number = packet.number; place = packet.place; found = 0 } ∷ l.acceptances)) (sym end) (acceptances-more d l packet 0 is f.number s))
    s
receives-sound d l k packet _ _ some f near s (write_and_acknowledge {kept = kept} is kind keeps) =
    let one = span-is_data d packet.place packet.number kind in
    accept-sound d l packet (packet.number + 1) 0 l.responder.results kept (Ack packet.number) is (omega (arith, one)) (omega (arith, f.below, one)) f.number keeps refl (omega arith) tt
    (results-more d l.acceptances (record { number = packet.number; place = packet.place; found = 0 } ∷ l.acceptances) l.responder.results (λ m has. contains-more _ m l.acceptances has) s.results) s
receives-sound d l k packet _ _ some f near s (packet_read {kept = kept} is kind keeps) =
    let long = span-is_read d packet.place packet.number kind in
    accept-sound d l packet (packet.number + span d packet.place packet.number) 0 l.responder.results kept (Data packet.number (bytes_left d packet.place packet.number)) is refl f.below f.number keeps refl (omega (arith, long))
    (record { place = packet.place; number = f.number; read = kind; rest = refl })
    (results-more d l.acceptances (record { number = packet.number; place = packet.place; found = 0 } ∷ l.acceptances) l.responder.results (λ m has. contains-more _ m l.acceptances has) s.results) s
receives-sound d l k packet _ _ some f near s (packet_atomic {kept = kept} {results = results} found is kind keeps keeps_results) =
    let one = span-is_atomic d packet.place packet.number kind in
    accept-sound d l packet (packet.number + 1) found (record { number = packet.number; found = found } ∷ results) kept (Found packet.number found) is (omega (arith, one)) (omega (arith, f.below, one)) f.number keeps refl (omega arith)
    (record { place = packet.place; atomic = kind; acceptance = contains-head _ l.acceptances })
    (results-one d l packet found results kind keeps_results s) s
