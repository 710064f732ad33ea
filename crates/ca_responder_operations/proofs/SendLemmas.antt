-- A SEND packet with its receive: when it may be placed, and what its row comes to.
use Rattle.std.proofs.Common.{◌≡◌, ◌≤◌, ◌+◌, ℕ, nat_lt, if◌then◌else◌, Bool, true, false, List, [], ◌∷◌, length, true≢false, arith, refl, sym, subst, ◌∙◌, Option, None, Some}
use Rattle.std.proofs.lemmas.Bool.Decides.{nat_tests}
use Rattle.std.specs.List.{AllByRecursion}
use Rattle.std.specs.Prelude.{IfSome}
use Rattle.ca_keys.specs.declared.access.Ask.{Ask}
use Rattle.ca_keys.specs.declared.access.Kind.TheVariants as kinds
use Rattle.ca_base.specs.declared.completion.WcStatus.TheVariants.{LocalLength, LocalProtection, MemoryManagement}
use Rattle.ca_base.specs.declared.denied_ask.DeniedAsk.{DeniedAsk}
use Rattle.ca_base.specs.declared.limits.TheConstants.{MAX_MESSAGE_BYTES, MAX_PIECES}
use Rattle.ca_base.specs.declared.queue_numbers.Message.{Message}
use Rattle.ca_base.specs.declared.queue_numbers.Message.TheVariants as messages
use Rattle.ca_base.specs.declared.refusals.OpRefusal.{OpRefusal}
use Rattle.ca_base.specs.declared.request.PlacedReceive.{PlacedReceive}
use Rattle.ca_base.specs.Sight.{Invalidation, Sight, first_denied}
use Rattle.ca_base.specs.objects.QueuePair.{QueuePair}
use Rattle.ca_wire.specs.declared.shape.Position.{Position}
use Rattle.ca_wire.specs.declared.shape.Position.TheVariants.{First, Middle, Last, Only}
use Rattle.ca_wire.specs.declared.shape.Shape.{Shape}
use Rattle.ca_wire.specs.declared.shape.Shape.TheVariants as shapes
use Rattle.ca_wire.specs.Packet.{Fields}
use Rattle.ca_wire.specs.declared.syndrome.NakCode.TheVariants.{InvalidRequest, RemoteOperationalError}
use Rattle.ca_model.specs.Requests.{list_length}
use Rattle.ca_model.specs.declared.mark.Mark.{Mark}
use Rattle.ca_model.specs.declared.receiving.Receiving.{Receiving}
use Rattle.ca_model.specs.machine.Arrivals.{has_shared, refusal_effects, with_flag}
use Rattle.ca_model.specs.machine.Expected.{after_send_packet, behind_marks, invalidation_of, receive_asks, receive_failure_effects, receiving_of, revoked_marks, send_row, valid_row, with_window_gone}
use Rattle.ca_model.specs.machine.Requester.{local_denial}
use Rattle.ca_model.specs.machine.Responses.{local_writes, writes_by}
use Rattle.ca_model.specs.machine.Row.{Does, Effects, plain_row}
use Rattle.ca_responder_answers.specs.ca_qp_rows.Asks.{AreAsksFor, IsGranted}
use Rattle.ca_responder_answers.proofs.of_ca_qp_rows.WriteLemmas.{can_write}
use Rattle.ca_responder_answers.specs.Numbers.{with_ack_if_asked, without_ack_request, without_taken_receive}
use Rattle.ca_responder_operations.specs.Receives.{CanHold, holds_receive}
use Rattle.ca_responder_operations.specs.Taking.{CanMeet, MayEnd, does, outcome_in}
use Rattle.ca_responder_operations.specs.Sends.{CanPlace, key_end, receiving}
use Rattle.ca_responder_operations.specs.declared.send.SendPacket.{SendPacket}

-- the row of a SEND packet, by its receive
pub row-of-send : (q : QueuePair) (p : Fields) (envelope : Option ℕ) (next : Option PlacedReceive) (shape : Shape) (position : Position) (r : Receiving)
    → shape ≡ shapes.Send position → receiving_of q next q.responder.message ≡ Some r → valid_row (with_flag false q) p envelope next shape ≡ send_row (with_flag false q) p position r
row-of-send q p envelope next shape position r is e = rw (is, e) refl

pub row-of-none : (q : QueuePair) (p : Fields) (envelope : Option ℕ) (next : Option PlacedReceive) (shape : Shape) (position : Position)
    → shape ≡ shapes.Send position → receiving_of q next q.responder.message ≡ None → valid_row (with_flag false q) p envelope next shape ≡ plain_row (Does (refusal_effects InvalidRequest (with_flag false q)))
row-of-none q p envelope next shape position is e = rw (is, e) refl

-- the receive's list is too short for the packet
abbrev pub is_too_long : Fields → Receiving → Bool
is_too_long p r = nat_lt (list_length r.receive.receive.list.items) (r.before + length p.payload)

pub asks-of-row : (q : QueuePair) (p : Fields) (position : Position) (r : Receiving) (t : Bool) → is_too_long p r ≡ false → r.taken ≡ t
    → (send_row (with_flag false q) p position r).asks ≡ receive_asks q p r
asks-of-row q p position r true e is = rw (e, is) refl
asks-of-row q p position r false e is = rw (e, is) refl

pub key-of-row : (q : QueuePair) (p : Fields) (position : Position) (r : Receiving) (t : Bool) → is_too_long p r ≡ false → r.taken ≡ t
    → (send_row (with_flag false q) p position r).invalidation ≡ invalidation_of q p
key-of-row q p position r true e is = rw (e, is) refl
key-of-row q p position r false e is = rw (e, is) refl

most-of : (room bytes most : ℕ) → nat_lt room bytes ≡ false → room ≤ most → bytes ≤ most
most-of room bytes most e le = grind (arith, nat_tests)

-- a packet that fits its receive, whose list is allowed, may be placed by the asks for its bytes
pub can-place : {S : Type 0} (sight : S → Sight) (judges touches : S → Ask → Type 0) (ends : S → Invalidation → Type 0) (reach : S) (q : QueuePair) (s : SendPacket) (asks : List Ask)
    → CanHold q (receiving s) → is_too_long s.packet.now (receiving s) ≡ false
    → CanMeet sight judges touches ends reach q (send_row (with_flag false q) s.packet.now s.position (receiving s))
    → asks ≡ receive_asks q s.packet.now (receiving s) → length asks ≤ MAX_PIECES → AreAsksFor kinds.Write (length s.packet.now.payload) asks
    → AllByRecursion (IsGranted (sight reach)) asks → first_denied (sight reach) asks ≡ None
    → CanPlace sight judges touches ends reach q s asks
can-place {S} sight judges touches ends reach q s asks hold fits can is few for granted none =
    let p : Fields = s.packet.now in
    let denied : first_denied (sight reach) (receive_asks q p (receiving s)) ≡ None = subst (λ (xs : List Ask). first_denied (sight reach) xs ≡ None) is none in
    let row : (send_row (with_flag false q) p s.position (receiving s)).asks ≡ receive_asks q p (receiving s) = asks-of-row q p s.position (receiving s) s.taken fits refl in
    record {
      fitting = record { most = most-of (list_length s.receive.now.receive.list.items) (s.before + length p.payload) MAX_MESSAGE_BYTES fits hold.sound.bytes; receive = hold.waits };
      fits = fits;
      none = denied;
      asks_are = is;
      enough = for.touched;
      can = can_write sight judges touches reach asks p.payload
          (subst (λ (xs : List Ask). AllByRecursion (judges reach) xs) (row ∙ sym is) can.asks.keys)
          (subst (λ (xs : List Ask). AllByRecursion (touches reach) xs) (row ∙ sym is) (can.asks.bytes (subst (λ (xs : List Ask). first_denied (sight reach) xs ≡ None) (sym row) denied)))
          granted for;
      few = few;
      ended = subst (λ (i : Option Invalidation). IfSome i (MayEnd sight ends reach q)) (key-of-row q p s.position (receiving s) s.taken fits refl) can.ended;
    }

-- effects that take the receive of a shared queue, where the packet takes a receive
abbrev pub taking : Bool → QueuePair → Effects → Effects
taking taken q e = record e { takes_shared = if taken then has_shared q else false }

-- the receive failed
abbrev pub failed : QueuePair → Receiving → List Mark → Effects → Effects
failed q r ms e = taking r.taken q (behind_marks ms e)

pub too-long : (s : Sight) (q : QueuePair) (p : Fields) (position : Position) (r : Receiving) (t : Bool) → is_too_long p r ≡ true → r.taken ≡ t
    → outcome_in s (send_row (with_flag false q) p position r)
    ≡ does (failed q r [] (receive_failure_effects (without_taken_receive r.taken (with_flag false q)) r.receive LocalLength None InvalidRequest)) None
too-long s q p position r true e is = rw (e, is) refl
too-long s q p position r false e is = rw (e, is) refl

pub list-denied : (s : Sight) (q : QueuePair) (p : Fields) (position : Position) (r : Receiving) (d : DeniedAsk) (t : Bool) → is_too_long p r ≡ false → r.taken ≡ t
    → first_denied s (receive_asks q p r) ≡ Some d
    → outcome_in s (send_row (with_flag false q) p position r)
    ≡ does (failed q r (local_denial d ∷ []) (receive_failure_effects (without_taken_receive r.taken (with_flag false q)) r.receive LocalProtection None RemoteOperationalError)) None
list-denied s q p position r d true e is denied = rw (e, is, denied) refl
list-denied s q p position r d false e is denied = rw (e, is, denied) refl

-- the packet is placed by these writes, and has these effects behind their marks
abbrev pub placed : QueuePair → Receiving → List (Ask × List ℕ) → Effects → Effects
placed q r ws e = record (taking r.taken q (behind_marks (local_writes ws) e)) { writes = ws }

-- one that ends no key
pub sent : (s : Sight) (q : QueuePair) (p : Fields) (position : Position) (r : Receiving) (ws : List (Ask × List ℕ)) (t : Bool)
    → is_too_long p r ≡ false → r.taken ≡ t → first_denied s (receive_asks q p r) ≡ None → ws ≡ writes_by (receive_asks q p r) p.payload → p.ieth ≡ None
    → outcome_in s (send_row (with_flag false q) p position r) ≡ does (placed q r ws (after_send_packet (without_taken_receive r.taken (with_flag false q)) p position r)) None
sent s q p position r ws true e is none cut plain = rw (cut, e, is, none, plain) refl
sent s q p First r ws false e is none cut plain = rw (cut, e, is, none, plain) refl
sent s q p Middle r ws false e is none cut plain = rw (cut, e, is, none, plain) refl
sent s q p Last r ws false e is none cut plain = rw (cut, e, is, none, plain) refl
sent s q p Only r ws false e is none cut plain = rw (cut, e, is, none, plain) refl

-- what one does whose key is gone
abbrev pub sent_and_ended : QueuePair → Fields → Position → Receiving → Invalidation → Effects
sent_and_ended q p position r i =
    behind_marks (revoked_marks q (Some i)) (after_send_packet (with_window_gone (Some i) (without_taken_receive r.taken (with_flag false q))) p position r)

pub ended : (s : Sight) (q : QueuePair) (p : Fields) (position : Position) (r : Receiving) (ws : List (Ask × List ℕ)) (key : ℕ) (t : Bool)
    → is_too_long p r ≡ false → r.taken ≡ t → first_denied s (receive_asks q p r) ≡ None → ws ≡ writes_by (receive_asks q p r) p.payload → p.ieth ≡ Some key
    → s.refusal (key_end q (record { 0 = key })) ≡ None
    → outcome_in s (send_row (with_flag false q) p position r)
    ≡ does (placed q r ws (sent_and_ended q p position r (key_end q (record { 0 = key })))) (Some (key_end q (record { 0 = key })))
ended s q p position r ws key true e is none cut end gone = rw (cut, e, is, none, end, gone) refl
ended s q p First r ws key false e is none cut end gone = rw (cut, e, is, none, end, gone) refl
ended s q p Middle r ws key false e is none cut end gone = rw (cut, e, is, none, end, gone) refl
ended s q p Last r ws key false e is none cut end gone = rw (cut, e, is, none, end, gone) refl
ended s q p Only r ws key false e is none cut end gone = rw (cut, e, is, none, end, gone) refl

-- what one does whose key is not gone
abbrev pub refused_end : QueuePair → Receiving → OpRefusal → Effects
refused_end q r cause = receive_failure_effects (without_taken_receive r.taken (with_flag false q)) r.receive MemoryManagement (Some cause) RemoteOperationalError

pub refused : (s : Sight) (q : QueuePair) (p : Fields) (position : Position) (r : Receiving) (ws : List (Ask × List ℕ)) (key : ℕ) (cause : OpRefusal) (t : Bool)
    → is_too_long p r ≡ false → r.taken ≡ t → first_denied s (receive_asks q p r) ≡ None → ws ≡ writes_by (receive_asks q p r) p.payload → p.ieth ≡ Some key
    → s.refusal (key_end q (record { 0 = key })) ≡ Some cause
    → outcome_in s (send_row (with_flag false q) p position r) ≡ does (placed q r ws (refused_end q r cause)) None
refused s q p position r ws key cause true e is none cut end kept = rw (cut, e, is, none, end, kept) refl
refused s q p position r ws key cause false e is none cut end kept = rw (cut, e, is, none, end, kept) refl

-- what a SEND packet does whose acknowledgement is queued already
pub acknowledged-send : (t : Bool) (q : QueuePair) (p : Fields) (position : Position) (r : Receiving)
    → after_send_packet (without_taken_receive t (with_flag false (with_ack_if_asked p.ack q))) (without_ack_request p) position r
    ≡ after_send_packet (without_taken_receive t (with_flag false q)) p position r
acknowledged-send true q p First r = refl
acknowledged-send true q p Middle r = refl
acknowledged-send true q p Last r = refl
acknowledged-send true q p Only r = refl
acknowledged-send false q p First r = refl
acknowledged-send false q p Middle r = refl
acknowledged-send false q p Last r = refl
acknowledged-send false q p Only r = refl

-- the same, where a key was ended before
pub acknowledged-end : (t : Bool) (q : QueuePair) (p : Fields) (position : Position) (r : Receiving) (i : Invalidation)
    → after_send_packet (without_taken_receive t (with_flag false (with_window_gone (Some i) (with_ack_if_asked p.ack q)))) (without_ack_request p) position r
    ≡ after_send_packet (with_window_gone (Some i) (without_taken_receive t (with_flag false q))) p position r
acknowledged-end true q p First r i = refl
acknowledged-end true q p Middle r i = refl
acknowledged-end true q p Last r i = refl
acknowledged-end true q p Only r i = refl
acknowledged-end false q p First r i = refl
acknowledged-end false q p Middle r i = refl
acknowledged-end false q p Last r i = refl
acknowledged-end false q p Only r i = refl

-- the receive of a packet, where the message in progress holds one, and where it holds none
pub receiving-held : (q : QueuePair) (next : Option PlacedReceive) (m : Option Message) → holds_receive m ≡ true → receiving_of q next m ≡ receiving_of q None m
receiving-held q next (Some (messages.Send place receive count)) holds = refl
receiving-held q next (Some (messages.Write key address left whole)) holds = absurd (true≢false (sym holds))
receiving-held q next None holds = absurd (true≢false (sym holds))

pub receiving-next : (q : QueuePair) (next : Option PlacedReceive) (m : Option Message) (r : PlacedReceive) → holds_receive m ≡ false → next ≡ Some r
    → receiving_of q next m ≡ Some (record { receive = r; before = 0; taken = true })
receiving-next q next (Some (messages.Send place receive count)) r holds is = absurd (true≢false holds)
receiving-next q next (Some (messages.Write key address left whole)) r holds is = rw is refl
receiving-next q next None r holds is = rw is refl
