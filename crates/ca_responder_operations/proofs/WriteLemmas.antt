-- What holds of a WRITE packet that is no invalid request, and what it comes to.
use Rattle.std.proofs.Common.{◌≡◌, ◌<◌, ◌≤◌, ℕ, Bool, true, false, not, ◌||◌, arith, refl, sym, ap, subst, ◌∙◌, ◌==◌, if◌then◌else◌, length, List, [], ◌∷◌, ◌++◌, append_assoc, Option, None, Some}
use Rattle.std.proofs.lemmas.Bool.Decides.{nat_tests}
use Rattle.ca_keys.specs.declared.access.Ask.{Ask}
use Rattle.ca_keys.specs.declared.access.Kind.TheVariants as kinds
use Rattle.ca_keys.specs.declared.verdict.Verdict.TheVariants.{Wrote}
use Rattle.ca_base.specs.Sight.{Invalidation, Sight, first_denied}
use Rattle.ca_base.specs.declared.request.PlacedReceive.{PlacedReceive}
use Rattle.ca_base.specs.objects.QueuePair.{QueuePair}
use Rattle.ca_wire.specs.declared.shape.Position.{Position}
use Rattle.ca_wire.specs.declared.shape.Position.TheVariants.{First, Middle, Last, Only}
use Rattle.ca_wire.specs.declared.shape.Shape.{Shape}
use Rattle.ca_wire.specs.declared.shape.Shape.TheVariants as shapes
use Rattle.ca_wire.specs.Packet.{Fields}
use Rattle.ca_model.specs.declared.write_reach.WriteReach.{WriteReach}
use Rattle.ca_wire.specs.declared.syndrome.NakCode.TheVariants.{InvalidRequest}
use Rattle.ca_model.specs.Marks.{MarkList}
use Rattle.ca_model.specs.declared.mark.Mark.{Mark}
use Rattle.ca_model.specs.machine.Arrivals.{packet_ask, refusal_effects, remote_mark, with_flag}
use Rattle.ca_model.specs.machine.Expected.{after_write_packet, continues, fits_left, fits_payload, fits_position, fits_write, is_invalid, valid_row, write_reach, write_row}
use Rattle.ca_model.specs.machine.Row.{Does, Effects, plain_row}
use Rattle.ca_responder_answers.specs.ca_qp_rows.Made.{HasMade, written_all}
use Rattle.ca_responder_answers.specs.Numbers.{with_ack_if_asked, without_ack_request}
use Rattle.ca_responder_operations.specs.Taking.{HasTaken, Outcome, is_taken, outcome_in}
use Rattle.ca_responder_operations.specs.declared.request.SharedReceive.{SharedReceive}
use Rattle.ca_responder_operations.proofs.OutcomeLemmas.{outcome-allowed}
use Rattle.ca_responder_operations.specs.Access.{asks_met}

none-of : (a b c d e f : Bool) → not a || not b || not c || d || e || f ≡ false → (a ≡ true) × (b ≡ true) × (c ≡ true)
none-of true true true d e f h = (refl, refl, refl)
none-of true true false d e f h = cc
none-of true false c d e f h = cc
none-of false b c d e f h = cc

position-of : (q : QueuePair) (p : Fields) (position : Position) → is_invalid q p (shapes.Write position) ≡ false → fits_position q.responder.mtu position (length p.payload) ≡ true
position-of q p position h = (none-of (continues q.responder.message (shapes.Write position)) (fits_payload q p (shapes.Write position)) (fits_write q p (shapes.Write position)) _ _ _ h).1

left-of : (q : QueuePair) (p : Fields) (position : Position) (r : WriteReach) → is_invalid q p (shapes.Write position) ≡ false → write_reach q p ≡ Some r → fits_left (length p.payload) position r ≡ true
left-of q p position r h e = sym (rw e refl) ∙ (none-of (continues q.responder.message (shapes.Write position)) (fits_payload q p (shapes.Write position)) (fits_write q p (shapes.Write position)) _ _ _ h).2

fits-in : (mtu count : ℕ) (position : Position) (r : WriteReach) → 0 < mtu → fits_position mtu position count ≡ true → fits_left count position r ≡ true
    → (count ≤ r.left) × (0 < r.left → 0 < count)
fits-in mtu count First r some e f = (grind (arith, nat_tests), λ left. grind (arith, nat_tests))
fits-in mtu count Middle r some e f = (grind (arith, nat_tests), λ left. grind (arith, nat_tests))
fits-in mtu count Last r some e f = (grind (arith, nat_tests), λ left. grind (arith, nat_tests))
fits-in mtu count Only r some e f = (grind (arith, nat_tests), λ left. grind (arith, nat_tests))

-- a packet of a valid WRITE has no more bytes than are left, and some where some are left
pub fits : (q : QueuePair) (p : Fields) (shape : Shape) (position : Position) (r : WriteReach) → 0 < q.responder.mtu → shape ≡ shapes.Write position
    → is_invalid q p shape ≡ false → write_reach q p ≡ Some r → (length p.payload ≤ r.left) × (0 < r.left → 0 < length p.payload)
fits q p shape position r some is valid e =
    let h : is_invalid q p (shapes.Write position) ≡ false = sym (rw is refl) ∙ valid in
    fits-in q.responder.mtu (length p.payload) position r some (position-of q p position h) (left-of q p position r h e)

-- the row of a WRITE packet, by what it reaches
pub row-of-write : (q : QueuePair) (p : Fields) (envelope : Option ℕ) (next : Option PlacedReceive) (shape : Shape) (position : Position) (r : WriteReach)
    → shape ≡ shapes.Write position → write_reach q p ≡ Some r → valid_row q p envelope next shape ≡ write_row q p envelope position next r
row-of-write q p envelope next shape position r is e = rw (is, e) refl

pub row-of-none : (q : QueuePair) (p : Fields) (envelope : Option ℕ) (next : Option PlacedReceive) (shape : Shape) (position : Position)
    → shape ≡ shapes.Write position → write_reach q p ≡ None → valid_row q p envelope next shape ≡ plain_row (Does (refusal_effects InvalidRequest q))
row-of-none q p envelope next shape position is e = rw (is, e) refl

-- what a WRITE packet does whose acknowledgement is queued already
pub acknowledged-write : (q : QueuePair) (p : Fields) (position : Position) (r : WriteReach) (imm : Option ℕ) (next : Option PlacedReceive) → p.imm ≡ imm
    → after_write_packet (with_flag false (with_ack_if_asked p.ack q)) (without_ack_request p) position r next
    ≡ after_write_packet (with_flag false q) p position r next
acknowledged-write q p First r imm next e = refl
acknowledged-write q p Middle r imm next e = refl
acknowledged-write q p Last r None next e = rw e refl
acknowledged-write q p Last r (Some imm) None e = rw e refl
acknowledged-write q p Last r (Some imm) (Some receive) e = rw e refl
acknowledged-write q p Only r None next e = rw e refl
acknowledged-write q p Only r (Some imm) None e = rw e refl
acknowledged-write q p Only r (Some imm) (Some receive) e = rw e refl

-- a WRITE packet that is allowed and placed is taken as its row says
pub write-placed : {S : Type 0} (written : S → Ask → List ℕ → S) (revoked : S → Invalidation → S) (s : Sight) (q acked new : QueuePair) (p : Fields)
    (envelope : Option ℕ) (position : Position) (r : WriteReach) (next : Option PlacedReceive) (ask : Ask) (before told after : MarkList) (reach new_reach : S) (shared : SharedReceive)
    → ask ≡ packet_ask q r.key kinds.Write r.address r.left (length p.payload)
    → first_denied s (asks_met ask) ≡ None
    → acked ≡ with_ack_if_asked p.ack q
    → told.marks ≡ before.marks ++ remote_mark ask envelope (Wrote p.payload) ∷ []
    → HasMade (after_write_packet (with_flag false acked) (without_ack_request p) position r next) new told after
    → is_taken shared ≡ (after_write_packet (with_flag false acked) (without_ack_request p) position r next).takes_shared
    → new_reach ≡ written_all written reach (if ask.length == 0 then [] else (ask, p.payload) ∷ [])
    → let o = outcome_in s (write_row (with_flag false q) p envelope position next r) in
    HasTaken written revoked shared o.ending o.ended new before after reach new_reach
write-placed {S} written revoked s q acked new p envelope position r next ask before told after reach new_reach shared is none ack mark made taken wrote =
    subst (λ (o : Outcome). HasTaken written revoked shared o.ending o.ended new before after reach new_reach)
    (sym (outcome-allowed s (write_row (with_flag false q) p envelope position next r) (subst (λ (x : Ask). first_denied s (asks_met x) ≡ None) is none))) (
      taken ∙ ap (λ (x : Effects). x.takes_shared) same,
      (
        record {
          queue = made.queue ∙ ap (λ (x : Effects). x.queue) same;
          marks = made.marks ∙ ap (λ (x : Effects). told.marks ++ x.marks) same ∙ ap (λ (xs : List Mark). xs ++ effects.marks) mark
              ∙ append_assoc before.marks (remote_mark ask envelope (Wrote p.payload) ∷ []) effects.marks
              ∙ ap (λ (x : Ask). before.marks ++ remote_mark x envelope (Wrote p.payload) ∷ effects.marks) is;
          room = made.room;
        },
        subst (λ (x : Ask). new_reach ≡ written_all written reach (if x.length == 0 then [] else (x, p.payload) ∷ [])) is wrote,
      ),
    )
  where
    effects : Effects
    effects = after_write_packet (with_flag false q) p position r next

    same : after_write_packet (with_flag false acked) (without_ack_request p) position r next ≡ effects
    same = ap (λ (x : QueuePair). after_write_packet (with_flag false x) (without_ack_request p) position r next) ack ∙ acknowledged-write q p position r p.imm next refl
