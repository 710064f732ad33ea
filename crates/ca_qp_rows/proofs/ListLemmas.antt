-- Lists of pieces: their bytes, and the asks that they are cut to.
use Rattle.std.proofs.Common.{◌≡◌, ℕ, ◌+◌, ◌-◌, ◌==◌, ◌≤◌, ◌<◌, nat_le, min, Bool, true, false, if◌then◌else◌, List, [], ◌∷◌, map, arith, refl}
use Rattle.std.proofs.lemmas.Bool.{leb-false, eqb-false}
use Rattle.std.proofs.lemmas.List.Sums.{sum_by-cons}
use Rattle.std.specs.List.{AllByRecursion}
use Rattle.ca_keys.specs.declared.access.Kind.{Kind}
use Rattle.ca_base.specs.declared.limits.TheConstants.{MAX_PAYLOAD_BYTES}
use Rattle.ca_keys.specs.declared.names.DomainId.{DomainId}
use Rattle.ca_keys.specs.declared.names.QueueId.{QueueId}
use Rattle.ca_base.specs.declared.request.Piece.{Piece}
use Rattle.ca_qpstate.specs.ca_model.Requests.{list_length}
use Rattle.ca_qpstate.specs.ca_model.machine.Numbering.{cut_list, list_asks, piece_ask, piece_part}
use Rattle.ca_qp_rows.specs.Asks.{IsAskOf, touched_by}

pub longer_list : (p : Piece) (ps : List Piece) → list_length (p ∷ ps) ≡ p.length + list_length ps
longer_list p ps = sum_by-cons (λ piece. piece.length) p ps

pub cut_touches : (queue : QueueId) (domain : DomainId) (kind : Kind) (skip count : ℕ) (ps : List Piece)
    → touched_by (list_asks queue domain kind skip count ps) ≤ count
cut_touches queue domain kind skip count [] = omega arith
cut_touches queue domain kind skip count (p ∷ ps) =
    by (nat_le p.length skip) (count == 0) (cut_touches queue domain kind (skip - p.length) count ps) (cut_touches queue domain kind 0 (count - (p.length - skip)) ps)
  where
    by : (b z : Bool) → touched_by (list_asks queue domain kind (skip - p.length) count ps) ≤ count
        → touched_by (list_asks queue domain kind 0 (count - (p.length - skip)) ps) ≤ count - (p.length - skip)
        → touched_by (map (piece_ask queue domain kind) (
        if b then cut_list (skip - p.length) count ps
        else if z then []
        else piece_part p skip (min count (p.length - skip)) ∷ cut_list 0 (count - (p.length - skip)) ps)) ≤ count
    by true z over within = over
    by false true over within = omega arith
    by false false over within = omega (arith, within)

pub cut_are_asks : (queue : QueueId) (domain : DomainId) (kind : Kind) (skip count : ℕ) (ps : List Piece) → count ≤ MAX_PAYLOAD_BYTES
    → AllByRecursion (IsAskOf kind) (list_asks queue domain kind skip count ps)
cut_are_asks queue domain kind skip count [] few = record {}
cut_are_asks queue domain kind skip count (p ∷ ps) few =
    by (nat_le p.length skip) (count == 0) refl refl (cut_are_asks queue domain kind (skip - p.length) count ps few)
    (cut_are_asks queue domain kind 0 (count - (p.length - skip)) ps (omega (arith, few)))
  where
    by : (b z : Bool) → nat_le p.length skip ≡ b → (count == 0) ≡ z → AllByRecursion (IsAskOf kind) (list_asks queue domain kind (skip - p.length) count ps)
        → AllByRecursion (IsAskOf kind) (list_asks queue domain kind 0 (count - (p.length - skip)) ps)
        → AllByRecursion (IsAskOf kind) (map (piece_ask queue domain kind) (
        if b then cut_list (skip - p.length) count ps
        else if z then []
        else piece_part p skip (min count (p.length - skip)) ∷ cut_list 0 (count - (p.length - skip)) ps))
    by true z le some over within = over
    by false true le some over within = record {}
    by false false le some over within = ((((touches, omega arith), omega (arith, few)), refl), within)
      where
        touches : 0 < min count (p.length - skip)
        touches = omega (arith, leb-false p.length skip le, eqb-false count 0 some)
