-- Small links, computed move by move.
use Rattle.std.proofs.Common.{◌≡◌, ◌≢◌, ℕ, zero, suc, ◌+◌, ◌-◌, ◌*◌, ◌%◌, ◌^◌, List, [], ◌∷◌, Option, None, Some, false, refl, arith}
use Rattle.ca_psn.specs.Psn.{widened}
use Rattle.ca_connection.specs.Layout.{Work, Direction, HasNumber, is_answered}
use Rattle.ca_connection.specs.Layout.Work.{Local, Write, Read, Atomic}
use Rattle.ca_connection.specs.Link.{RequestPacket, Response, SavedResult, Acceptance, AtomicCompletion, Link}
use Rattle.ca_connection.specs.Link.NakReason.{PsnSequenceError}
use Rattle.ca_connection.specs.Link.Response.{Ack, Nak, Data, Found}
use Rattle.ca_connection.specs.Moves.{Reached}
use Rattle.ca_connection.specs.Moves.Keeps.{none, leave}
use Rattle.ca_connection.specs.Moves.Receives.{sequence_error, write_again, atomic_again, read_again, write_and_acknowledge, write as accept_write, read as accept_read, atomic as swap}
use Rattle.ca_connection.specs.Moves.Responds.{front}
use Rattle.ca_connection.specs.Moves.Takes.{acknowledge, read as take_bytes, atomic as complete}
use Rattle.ca_connection.specs.Moves.Move.{send, respond, arrive, take, go_back}
use Rattle.ca_connection.specs.Moves.Reached.{begin, move}
use Rattle.ca_connection.specs.Limits.{most_outstanding, greatest_span, request_distance, response_distance}

-- the two sides, their mailboxes, and what has happened, where nothing was refused
abbrev pub link : ℕ → ℕ → ℕ → List Response → List SavedResult → List (Option RequestPacket) → List (Option Response) → ℕ → ℕ → List Acceptance → List AtomicCompletion → Link
link una cursor expected queue results requests responses request_top response_top acceptances completions = record {
  requester = record { una = una; cursor = cursor };
  responder = record { expected = expected; queue = queue; results = results };
  requests = requests;
  responses = responses;
  request_top = request_top;
  response_top = response_top;
  acceptances = acceptances;
  rejections = [];
  completions = completions;
}

abbrev pub packet : ℕ → ℕ → Option RequestPacket
packet number place = Some (record { number = number; place = place })

abbrev acceptance : ℕ → ℕ → ℕ → Acceptance
acceptance number place found = record { number = number; place = place; found = found }

-- One atomic, from PSN 0 on. Its answer is lost. It is sent again, and the responder answers both copies, the later one first,
-- by the saved result. The atomic has acted once, and its completion gives what it found.
abbrev one_atomic : Direction
one_atomic = record { psn = 0; mtu = 256; work = atomic_first }
  where
    atomic_first : ℕ → Work
    atomic_first zero = Atomic
    atomic_first (suc place) = Local

abbrev s : ℕ
s = 2 ^ 24

abbrev result : SavedResult
result = record { number = 2 ^ 24; found = 7 }

abbrev found : Option Response
found = Some (Found (2 ^ 24) 7)

lost_answer : Reached one_atomic (link (s + 1) (s + 1) (s + 1) [] (result ∷ []) (packet s 0 ∷ packet s 0 ∷ []) (found ∷ found ∷ []) (s + 1) (s + 1) (acceptance s 0 7 ∷ []) (record { place = 0; found = 7 } ∷ []))
lost_answer =
    let named : HasNumber one_atomic 0 s = record { from = omega arith; below = omega arith } in
    let opened : Reached one_atomic (link s s s [] [] [] [] s s [] []) = begin (omega arith) in
    let sent : Reached one_atomic (link s (s + 1) s [] [] (packet s 0 ∷ []) [] (s + 1) s [] []) =
    move opened (send 0 (record { number = named; room = omega arith }) (omega arith)) in
    let acted : Reached one_atomic (link s (s + 1) (s + 1) (Found s 7 ∷ []) (result ∷ []) (packet s 0 ∷ []) [] (s + 1) s (acceptance s 0 7 ∷ []) []) =
    move sent (arrive 0 _ _ _ (record { is = refl; recent = omega arith }) (swap 7 refl refl none none)) in
    let answered : Reached one_atomic (link s (s + 1) (s + 1) [] (result ∷ []) (packet s 0 ∷ []) (found ∷ []) (s + 1) (s + 1) (acceptance s 0 7 ∷ []) []) =
    move acted (respond (Found s 7) [] None (front (Found s 7) [] refl)) in
    let back : Reached one_atomic (link s s (s + 1) [] (result ∷ []) (packet s 0 ∷ []) (found ∷ []) (s + 1) (s + 1) (acceptance s 0 7 ∷ []) []) =
    move answered (go_back s (omega arith) (omega arith)) in
    let again : Reached one_atomic (link s (s + 1) (s + 1) [] (result ∷ []) (packet s 0 ∷ packet s 0 ∷ []) (found ∷ []) (s + 1) (s + 1) (acceptance s 0 7 ∷ []) []) =
    move back (send 0 (record { number = named; room = omega arith }) (omega arith)) in
    let second : Reached one_atomic (link s (s + 1) (s + 1) (Found s 7 ∷ []) (result ∷ []) (packet s 0 ∷ packet s 0 ∷ []) (found ∷ []) (s + 1) (s + 1) (acceptance s 0 7 ∷ []) []) =
    move again (arrive 0 _ _ _ (record { is = refl; recent = omega arith }) (atomic_again 7 (0, omega arith, refl) none)) in
    let first_again : Reached one_atomic (link s (s + 1) (s + 1) (Found s 7 ∷ []) (result ∷ []) (packet s 0 ∷ packet s 0 ∷ []) (found ∷ []) (s + 1) (s + 1) (acceptance s 0 7 ∷ []) []) =
    move second (arrive 1 _ _ _ (record { is = refl; recent = omega arith }) (atomic_again 7 (0, omega arith, refl) (leave none))) in
    let answered_again : Reached one_atomic (link s (s + 1) (s + 1) [] (result ∷ []) (packet s 0 ∷ packet s 0 ∷ []) (found ∷ found ∷ []) (s + 1) (s + 1) (acceptance s 0 7 ∷ []) []) =
    move first_again (respond (Found s 7) [] None (front (Found s 7) [] refl)) in
    move answered_again (take 0 _ _ _ (record { is = refl; recent = omega arith }) (complete s 7 0 refl named refl (omega arith) (omega arith) (λ p n low high names. absurd (omega arith))))

-- A READ of 600 bytes at path MTU 256, from PSN 5 on. Its second response is lost. The requester goes back, and asks from the
-- middle for the rest, which is read again: three responses bring `una` to its end, and it was accepted once.
abbrev one_read : Direction
one_read = record { psn = 5; mtu = 256; work = read_first }
  where
    read_first : ℕ → Work
    read_first zero = Read 600
    read_first (suc place) = Local

abbrev r : ℕ
r = 2 ^ 24 + 5

abbrev bytes : ℕ → ℕ → Option Response
bytes n left = Some (Data n left)

abbrev after_lost : List (Option Response)
after_lost = bytes (r + 1) 344 ∷ bytes r 600 ∷ []

abbrev after_rest : List (Option Response)
after_rest = bytes (r + 2) 88 ∷ bytes (r + 1) 344 ∷ after_lost

read_from_the_middle : Reached one_read (link (r + 3) (r + 3) (r + 3) [] [] (packet (r + 1) 0 ∷ packet r 0 ∷ []) after_rest (r + 3) (r + 3) (acceptance r 0 0 ∷ []) [])
read_from_the_middle =
    let opened : Reached one_read (link r r r [] [] [] [] r r [] []) = begin (omega arith) in
    let sent : Reached one_read (link r (r + 3) r [] [] (packet r 0 ∷ []) [] (r + 3) r [] []) =
    move opened (send 0 (record { number = record { from = omega arith; below = omega arith }; room = omega arith }) (omega arith)) in
    let accepted : Reached one_read (link r (r + 3) (r + 3) (Data r 600 ∷ []) [] (packet r 0 ∷ []) [] (r + 3) r (acceptance r 0 0 ∷ []) []) =
    move sent (arrive 0 _ _ _ (record { is = refl; recent = omega arith }) (accept_read refl refl none)) in
    let one_sent : Reached one_read (link r (r + 3) (r + 3) (Data (r + 1) 344 ∷ []) [] (packet r 0 ∷ []) (bytes r 600 ∷ []) (r + 3) (r + 1) (acceptance r 0 0 ∷ []) []) =
    move accepted (respond (Data r 600) _ None (front (Data r 600) [] refl)) in
    let one_taken : Reached one_read (link (r + 1) (r + 3) (r + 3) (Data (r + 1) 344 ∷ []) [] (packet r 0 ∷ []) (bytes r 600 ∷ []) (r + 3) (r + 1) (acceptance r 0 0 ∷ []) []) =
    move one_sent (take 0 _ _ _ (record { is = refl; recent = omega arith }) (take_bytes r 600 0 refl (record { from = omega arith; below = omega arith }) refl (omega arith) (omega arith) (λ p n low high names. absurd (omega arith)))) in
    let lost : Reached one_read (link (r + 1) (r + 3) (r + 3) (Data (r + 2) 88 ∷ []) [] (packet r 0 ∷ []) after_lost (r + 3) (r + 2) (acceptance r 0 0 ∷ []) []) =
    move one_taken (respond (Data (r + 1) 344) _ None (front (Data (r + 1) 344) [] refl)) in
    let back : Reached one_read (link (r + 1) (r + 1) (r + 3) (Data (r + 2) 88 ∷ []) [] (packet r 0 ∷ []) after_lost (r + 3) (r + 2) (acceptance r 0 0 ∷ []) []) =
    move lost (go_back (r + 1) (omega arith) (omega arith)) in
    let asked : Reached one_read (link (r + 1) (r + 3) (r + 3) (Data (r + 2) 88 ∷ []) [] (packet (r + 1) 0 ∷ packet r 0 ∷ []) after_lost (r + 3) (r + 2) (acceptance r 0 0 ∷ []) []) =
    move back (send 0 (record { number = record { from = omega arith; below = omega arith }; room = omega arith }) (omega arith)) in
    let again : Reached one_read (link (r + 1) (r + 3) (r + 3) (Data (r + 1) 344 ∷ []) [] (packet (r + 1) 0 ∷ packet r 0 ∷ []) after_lost (r + 3) (r + 2) (acceptance r 0 0 ∷ []) []) =
    move asked (arrive 0 _ _ _ (record { is = refl; recent = omega arith }) (read_again refl (omega arith) (leave none))) in
    let second : Reached one_read (link (r + 1) (r + 3) (r + 3) (Data (r + 2) 88 ∷ []) [] (packet (r + 1) 0 ∷ packet r 0 ∷ []) (bytes (r + 1) 344 ∷ after_lost) (r + 3) (r + 2) (acceptance r 0 0 ∷ []) []) =
    move again (respond (Data (r + 1) 344) _ None (front (Data (r + 1) 344) [] refl)) in
    let third : Reached one_read (link (r + 1) (r + 3) (r + 3) [] [] (packet (r + 1) 0 ∷ packet r 0 ∷ []) after_rest (r + 3) (r + 3) (acceptance r 0 0 ∷ []) []) =
    move second (respond (Data (r + 2) 88) _ None (front (Data (r + 2) 88) [] refl)) in
    let two_taken : Reached one_read (link (r + 2) (r + 3) (r + 3) [] [] (packet (r + 1) 0 ∷ packet r 0 ∷ []) after_rest (r + 3) (r + 3) (acceptance r 0 0 ∷ []) []) =
    move third (take 1 _ _ _ (record { is = refl; recent = omega arith }) (take_bytes (r + 1) 344 0 refl (record { from = omega arith; below = omega arith }) refl (omega arith) (omega arith) (λ p n low high names. absurd (omega arith)))) in
    move two_taken (take 0 _ _ _ (record { is = refl; recent = omega arith }) (take_bytes (r + 2) 88 0 refl (record { from = omega arith; below = omega arith }) refl (omega arith) (omega arith) (λ p n low high names. absurd (omega arith))))

-- A WRITE of two packets whose PSNs are the last and the first: the number goes on, the PSN starts anew.
abbrev one_write : Direction
one_write = record { psn = 2 ^ 24 - 1; mtu = 256; work = write_first }
  where
    write_first : ℕ → Work
    write_first zero = Write 300
    write_first (suc place) = Local

abbrev u : ℕ
u = 2 ^ 25 - 1

not_answered : (p : ℕ) → is_answered (one_write.work p) ≡ false
not_answered zero = refl
not_answered (suc p) = refl

last_psn : u % 2 ^ 24 ≡ 2 ^ 24 - 1
last_psn = refl

first_psn : (u + 1) % 2 ^ 24 ≡ 0
first_psn = refl

wrap : Reached one_write (link (u + 2) (u + 2) (u + 2) [] [] (packet (u + 1) 0 ∷ packet u 0 ∷ []) (Some (Ack (u + 1)) ∷ []) (u + 2) (u + 2) (acceptance (u + 1) 0 0 ∷ acceptance u 0 0 ∷ []) [])
wrap =
    let opened : Reached one_write (link u u u [] [] [] [] u u [] []) = begin (omega arith) in
    let one_sent : Reached one_write (link u (u + 1) u [] [] (packet u 0 ∷ []) [] (u + 1) u [] []) =
    move opened (send 0 (record { number = record { from = omega arith; below = omega arith }; room = omega arith }) (omega arith)) in
    let two_sent : Reached one_write (link u (u + 2) u [] [] (packet (u + 1) 0 ∷ packet u 0 ∷ []) [] (u + 2) u [] []) =
    move one_sent (send 0 (record { number = record { from = omega arith; below = omega arith }; room = omega arith }) (omega arith)) in
    let one_placed : Reached one_write (link u (u + 2) (u + 1) [] [] (packet (u + 1) 0 ∷ packet u 0 ∷ []) [] (u + 2) u (acceptance u 0 0 ∷ []) []) =
    move two_sent (arrive 1 _ _ _ (record { is = refl; recent = omega arith }) (accept_write refl refl none)) in
    let two_placed : Reached one_write (link u (u + 2) (u + 2) (Ack (u + 1) ∷ []) [] (packet (u + 1) 0 ∷ packet u 0 ∷ []) [] (u + 2) u (acceptance (u + 1) 0 0 ∷ acceptance u 0 0 ∷ []) []) =
    move one_placed (arrive 0 _ _ _ (record { is = refl; recent = omega arith }) (write_and_acknowledge refl refl none)) in
    let answered : Reached one_write (link u (u + 2) (u + 2) [] [] (packet (u + 1) 0 ∷ packet u 0 ∷ []) (Some (Ack (u + 1)) ∷ []) (u + 2) (u + 2) (acceptance (u + 1) 0 0 ∷ acceptance u 0 0 ∷ []) []) =
    move two_placed (respond (Ack (u + 1)) _ None (front (Ack (u + 1)) [] refl)) in
    move answered (take 0 _ _ _ (record { is = refl; recent = omega arith }) (acknowledge (u + 2) (u + 2) (omega arith) (omega arith) (λ p n low high names. not_answered p) (omega arith) (omega arith)))

-- A WRITE of two packets from PSN 0 on, of which the first is lost. The second comes ahead and meets a NAK. The requester goes
-- back and sends both again. The first copy of the first packet comes late, and is only acknowledged again: each was accepted
-- once.
abbrev two_packets : Direction
two_packets = record { psn = 0; mtu = 256; work = write_first }
  where
    write_first : ℕ → Work
    write_first zero = Write 300
    write_first (suc place) = Local

abbrev all_packets : List (Option RequestPacket)
all_packets = packet (s + 1) 0 ∷ packet s 0 ∷ packet (s + 1) 0 ∷ packet s 0 ∷ []

abbrev both : List Acceptance
both = acceptance (s + 1) 0 0 ∷ acceptance s 0 0 ∷ []

abbrev nak : Option Response
nak = Some (Nak PsnSequenceError s)

only_acknowledged : (p : ℕ) → is_answered (two_packets.work p) ≡ false
only_acknowledged zero = refl
only_acknowledged (suc p) = refl

lost_request : Reached two_packets (link (s + 2) (s + 2) (s + 2) [] [] all_packets (Some (Ack (s + 1)) ∷ nak ∷ []) (s + 2) (s + 2) both [])
lost_request =
    let number_one : HasNumber two_packets 0 s = record { from = omega arith; below = omega arith } in
    let number_two : HasNumber two_packets 0 (s + 1) = record { from = omega arith; below = omega arith } in
    let opened : Reached two_packets (link s s s [] [] [] [] s s [] []) = begin (omega arith) in
    let one_sent : Reached two_packets (link s (s + 1) s [] [] (packet s 0 ∷ []) [] (s + 1) s [] []) =
    move opened (send 0 (record { number = number_one; room = omega arith }) (omega arith)) in
    let two_sent : Reached two_packets (link s (s + 2) s [] [] (packet (s + 1) 0 ∷ packet s 0 ∷ []) [] (s + 2) s [] []) =
    move one_sent (send 0 (record { number = number_two; room = omega arith }) (omega arith)) in
    let ahead : Reached two_packets (link s (s + 2) s (Nak PsnSequenceError s ∷ []) [] (packet (s + 1) 0 ∷ packet s 0 ∷ []) [] (s + 2) s [] []) =
    move two_sent (arrive 0 _ _ _ (record { is = refl; recent = omega arith }) (sequence_error (omega arith) none)) in
    let refused : Reached two_packets (link s (s + 2) s [] [] (packet (s + 1) 0 ∷ packet s 0 ∷ []) (nak ∷ []) (s + 2) s [] []) =
    move ahead (respond (Nak PsnSequenceError s) _ None (front (Nak PsnSequenceError s) [] refl)) in
    let back : Reached two_packets (link s s s [] [] (packet (s + 1) 0 ∷ packet s 0 ∷ []) (nak ∷ []) (s + 2) s [] []) =
    move refused (take 0 _ _ _ (record { is = refl; recent = omega arith }) (acknowledge s s (omega arith) (omega arith) (λ p n low high names. only_acknowledged p) (omega arith) (omega arith))) in
    let one_again : Reached two_packets (link s (s + 1) s [] [] (packet s 0 ∷ packet (s + 1) 0 ∷ packet s 0 ∷ []) (nak ∷ []) (s + 2) s [] []) =
    move back (send 0 (record { number = number_one; room = omega arith }) (omega arith)) in
    let two_again : Reached two_packets (link s (s + 2) s [] [] all_packets (nak ∷ []) (s + 2) s [] []) =
    move one_again (send 0 (record { number = number_two; room = omega arith }) (omega arith)) in
    let one_placed : Reached two_packets (link s (s + 2) (s + 1) [] [] all_packets (nak ∷ []) (s + 2) s (acceptance s 0 0 ∷ []) []) =
    move two_again (arrive 1 _ _ _ (record { is = refl; recent = omega arith }) (accept_write refl refl none)) in
    let two_placed : Reached two_packets (link s (s + 2) (s + 2) (Ack (s + 1) ∷ []) [] all_packets (nak ∷ []) (s + 2) s both []) =
    move one_placed (arrive 0 _ _ _ (record { is = refl; recent = omega arith }) (write_and_acknowledge refl refl none)) in
    let late : Reached two_packets (link s (s + 2) (s + 2) (Ack (s + 1) ∷ []) [] all_packets (nak ∷ []) (s + 2) s both []) =
    move two_placed (arrive 3 _ _ _ (record { is = refl; recent = omega arith }) (write_again (s + 1) (omega arith) (omega arith) (leave none))) in
    let answered : Reached two_packets (link s (s + 2) (s + 2) [] [] all_packets (Some (Ack (s + 1)) ∷ nak ∷ []) (s + 2) (s + 2) both []) =
    move late (respond (Ack (s + 1)) _ None (front (Ack (s + 1)) [] refl)) in
    move answered (take 0 _ _ _ (record { is = refl; recent = omega arith }) (acknowledge (s + 2) (s + 2) (omega arith) (omega arith) (λ p n low high names. only_acknowledged p) (omega arith) (omega arith)))

-- At the greatest distances that the laws allow a PSN still stands for its number.
furthest_request : widened (s + request_distance) (s % 2 ^ 24) ≡ s
furthest_request = refl

furthest_response : widened (s + response_distance) (s % 2 ^ 24) ≡ s
furthest_response = refl

-- With 4096 kept envelopes in place of 256, or 1024 of responses, it could stand for another.
too_many_requests : widened (s + (most_outstanding + greatest_span * 4095)) (s % 2 ^ 24) ≢ s
too_many_requests e = absurd (omega (arith, e))

too_many_responses : widened (s + (request_distance + most_outstanding * 1023)) (s % 2 ^ 24) ≢ s
too_many_responses e = absurd (omega (arith, e))
