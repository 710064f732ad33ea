-- Calm moves are moves.
use Rattle.std.proofs.Common.{◌≡◌, ℕ, List, [], ◌∷◌, ◌++◌, None, sym, subst}
use Rattle.ca_connection.specs.Layout.{Direction}
use Rattle.ca_connection.specs.Link.{RequestPacket, Responder, Response}
use Rattle.ca_connection.specs.Link.Response.{Ack}
use Rattle.ca_connection.specs.Moves.{Keeps, Reached, Reception, Receives, Takes, after_arrival}
use Rattle.ca_connection.specs.Moves.Keeps.{none as keeps_none, keep as keeps_one, leave as leaves_one}
use Rattle.ca_connection.specs.Moves.Move.{send as move_send, respond as move_respond, arrive as move_arrive, take as move_take, forget as move_forget, clear_requests as move_clear, other_request as move_other_request, other_response as move_other_response}
use Rattle.ca_connection.specs.Moves.Reached.{begin, move as one_move}
use Rattle.ca_connection.specs.Moves.Receives.{refuse, write as packet_write, write_and_acknowledge, read as packet_read, atomic as packet_atomic}
use Rattle.ca_connection.specs.Moves.Responds.{front, deny as denies}
use Rattle.ca_connection.proofs.OnceLemmas.{law-request-near, law-response-near}
use Rattle.ca_connection.specs.Calm.{CalmLink, IsCalm}
use Rattle.ca_connection.specs.CalmMoves.{Admits, CalmMove, IsBeforeAck, IsCalmlyReached}
use Rattle.ca_connection.specs.CalmMoves.IsBeforeAck.{whole, replaced}
use Rattle.ca_connection.specs.CalmMoves.Admits.{write as admits_write, write_and_acknowledge as admits_ack, read as admits_read, atomic as admits_atomic, refuse as admits_refuse}
use Rattle.ca_connection.specs.CalmMoves.CalmMove.{send, respond, deny, admit, drop, pass_request, take as take_answer, pass_response, close, clear, other_request, other_response}
use Rattle.ca_connection.specs.CalmMoves.IsCalmlyReached.{begin as calmly_begin, move as calmly_move}
use Rattle.ca_connection.proofs.CalmLemmas.{accepting-oldest, calm-move, opening-calm}

all-kept : {A : Type 0} (xs : List A) → Keeps xs xs
all-kept [] = keeps_none
all-kept (x ∷ xs) = keeps_one (all-kept xs)

none-kept : {A : Type 0} (xs : List A) → Keeps xs []
none-kept [] = keeps_none
none-kept (x ∷ xs) = leaves_one (none-kept xs)

all-but-last : {A : Type 0} (xs : List A) (x : A) → Keeps (xs ++ (x ∷ [])) xs
all-but-last [] x = leaves_one keeps_none
all-but-last (y ∷ xs) x = keeps_one (all-but-last xs x)

before-kept : (queue kept : List Response) → IsBeforeAck queue kept → Keeps queue kept
before-kept _ kept whole = all-kept kept
before-kept _ kept (replaced n) = all-but-last kept (Ack n)

admitted : (d : Direction) (packet : RequestPacket) (w : ℕ) (r next : Responder) (reception : Reception) → w ≡ r.expected
    → Admits d packet w r next reception → Receives d packet w r next reception
admitted d packet w r _ _ is (admits_write kind) = packet_write is kind (all-kept r.queue)
admitted d packet w r _ _ is (admits_ack {kept = kept} kind before) = write_and_acknowledge is kind (before-kept r.queue kept before)
admitted d packet w r _ _ is (admits_read kind) = packet_read is kind (all-kept r.queue)
admitted d packet w r _ _ is (admits_atomic found kind keeps) = packet_atomic found is kind (all-kept r.queue) keeps
admitted d packet w r _ _ is (admits_refuse code other) = refuse code is (all-kept r.queue)

pub calm-link : (d : Direction) (c new : CalmLink) → Reached d c.link → IsCalm d c → CalmMove d c new → Reached d new.link
calm-link d c _ reached h (send place may few) = one_move reached (move_send place may few)
calm-link d c _ reached h (respond a rest is) = one_move reached (move_respond a _ None (front a rest is))
calm-link d c _ reached h (deny n left place rest is names) = one_move reached (move_respond _ [] _ (denies n left place rest is names))
calm-link d c _ reached h (admit k packet responder reception count may accepts does) =
    let exact = (law-request-near d c.link k packet reached may).exact in
    let receives = admitted d packet packet.number c.link.responder responder reception (accepting-oldest d c k packet h accepts count may.is).number does in
    subst (λ w. Reached d (after_arrival c.link packet w responder reception)) exact
    (one_move reached (move_arrive k packet responder reception may
    (subst (λ w. Receives d packet w c.link.responder responder reception) (sym exact) receives)))
calm-link d c _ reached h (drop k packet count may other) = reached
calm-link d c _ reached h (pass_request k count is) = reached
calm-link d c _ reached h (take_answer k a requester completion count may does una cursor) =
    let exact = (law-response-near d c.link k a reached may).exact in
    one_move reached (move_take k a requester completion may (subst (λ w. Takes d a w c.link.requester requester completion) (sym exact) does))
calm-link d c _ reached h (pass_response k count is) = reached
calm-link d c _ reached h close = one_move reached (move_forget [] c.link.responder.results (none-kept c.link.responder.queue) (all-kept c.link.responder.results))
calm-link d c _ reached h clear = one_move reached move_clear
calm-link d c _ reached h other_request = one_move reached move_other_request
calm-link d c _ reached h other_response = one_move reached move_other_response

record Both (d : Direction) (c : CalmLink) : Type 0 where
  reached : Reached d c.link
  calm : IsCalm d c

both : (d : Direction) (c : CalmLink) → IsCalmlyReached d c → Both d c
both d _ (calmly_begin some) = record { reached = begin some; calm = opening-calm d }
both d new (calmly_move {c = c} before step) =
    let b = both d c before in
    record { reached = calm-link d c new b.reached b.calm step; calm = calm-move d c new b.reached b.calm step }

pub calmly-reached : (d : Direction) (c : CalmLink) → IsCalmlyReached d c → Reached d c.link
calmly-reached d c r = (both d c r).reached

pub calmly-calm : (d : Direction) (c : CalmLink) → IsCalmlyReached d c → IsCalm d c
calmly-calm d c r = (both d c r).calm
