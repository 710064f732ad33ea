-- What the asks of a packet bring.
use Rattle.std.proofs.Common.{◌≡◌, ℕ, ◌-◌, ◌*◌, ◌==◌, nat_le, min, arith, Bool, true, false, if◌then◌else◌, refl, sym, ap, ◌∙◌, List, [], ◌∷◌, length, map, None, Some, ◌+◌, ◌≤◌}
use Rattle.std.proofs.lemmas.Bool.{leb-true, leb-false, eqb-true, eqb-false}
use Rattle.std.proofs.lemmas.Option.{same_Some}
use Rattle.ca_keys.specs.declared.access.Kind.{Kind}
use Rattle.ca_keys.specs.declared.names.DomainId.{DomainId}
use Rattle.ca_keys.specs.declared.names.QueueId.{QueueId}
use Rattle.ca_base.specs.declared.request.Piece.{Piece}
use Rattle.ca_base.specs.declared.request.SendOp.{SendOp}
use Rattle.ca_base.specs.declared.request.SendOp.TheVariants as ops
use Rattle.ca_base.specs.declared.request.SendRequest.{SendRequest}
use Rattle.ca_wire.specs.Packet.{Fields, most_spelt}
use Rattle.ca_model.specs.Requests.{carried_bytes, list_length, list_of, request_packet}
use Rattle.ca_model.specs.machine.Numbering.{cut_list, is_answered_op, list_asks, piece_ask, piece_part}
use Rattle.ca_qp_rows.proofs.ListLemmas.{longer_list}

-- a list is cut to no more bytes than it has
pub cut_within : (skip most : ℕ) (ps : List Piece) → cut_list skip (min most (list_length ps - skip)) ps ≡ cut_list skip most ps
cut_within skip most [] = refl
cut_within skip most (p ∷ ps) =
    by (nat_le p.length skip) refl (few == 0) refl (most == 0) refl
    (cut_within (skip - p.length) most ps) (cut_within 0 (most - (p.length - skip)) ps)
  where
    few : ℕ
    few = min most (list_length (p ∷ ps) - skip)

    by : (b : Bool) → nat_le p.length skip ≡ b → (y : Bool) → (few == 0) ≡ y → (z : Bool) → (most == 0) ≡ z
        → cut_list (skip - p.length) (min most (list_length ps - (skip - p.length))) ps ≡ cut_list (skip - p.length) most ps
        → cut_list 0 (min (most - (p.length - skip)) (list_length ps - 0)) ps ≡ cut_list 0 (most - (p.length - skip)) ps
        → (if b then cut_list (skip - p.length) few ps
        else if y then []
        else piece_part p skip (min few (p.length - skip)) ∷ cut_list 0 (few - (p.length - skip)) ps)
        ≡ (if b then cut_list (skip - p.length) most ps
        else if z then []
        else piece_part p skip (min most (p.length - skip)) ∷ cut_list 0 (most - (p.length - skip)) ps)
    by true le y few-none z none over within =
        let same : few ≡ min most (list_length ps - (skip - p.length)) = omega (arith, longer_list p ps, leb-true p.length skip le) in
        ap (λ k. cut_list (skip - p.length) k ps) same ∙ over
    by false le true few-none true none over within = refl
    by false le true few-none false none over within =
        let zero : few ≡ 0 = eqb-true few 0 few-none in
        absurd (omega (arith, longer_list p ps, leb-false p.length skip le, zero, eqb-false most 0 none))
    by false le false few-none true none over within =
        let zero : most ≡ 0 = eqb-true most 0 none in
        absurd (omega (arith, eqb-false few 0 few-none, zero))
    by false le false few-none false none over within =
        let part : min few (p.length - skip) ≡ min most (p.length - skip) = omega (arith, longer_list p ps, leb-false p.length skip le) in
        let rest : few - (p.length - skip) ≡ min (most - (p.length - skip)) (list_length ps - 0) = omega (arith, longer_list p ps, leb-false p.length skip le) in
        ap (λ k. piece_part p skip k ∷ cut_list 0 (few - (p.length - skip)) ps) part
        ∙ ap (λ k. piece_part p skip (min most (p.length - skip)) ∷ cut_list 0 k ps) rest
        ∙ ap (λ xs. piece_part p skip (min most (p.length - skip)) ∷ xs) within

-- the asks for as many bytes as a packet has at most are those for the bytes that it carries
pub most_asks : (queue : QueueId) (domain : DomainId) (kind : Kind) (mtu index : ℕ) (op : SendOp)
    → list_asks queue domain kind (index * mtu) (if is_answered_op op then 0 else mtu) (list_of op)
    ≡ list_asks queue domain kind (index * mtu) (carried_bytes mtu op index) (list_of op)
most_asks queue domain kind mtu index op = ap (map (piece_ask queue domain kind)) (by op)
  where
    cut : (ps : List Piece) → cut_list (index * mtu) mtu ps ≡ cut_list (index * mtu) (min mtu (list_length ps - index * mtu)) ps
    cut ps = sym (cut_within (index * mtu) mtu ps)

    by : (op : SendOp) → cut_list (index * mtu) (if is_answered_op op then 0 else mtu) (list_of op) ≡ cut_list (index * mtu) (carried_bytes mtu op index) (list_of op)
    by (ops.Send list) = cut list.items
    by (ops.SendImm imm list) = cut list.items
    by (ops.SendInv key list) = cut list.items
    by (ops.Write address key list) = cut list.items
    by (ops.WriteImm address key imm list) = cut list.items
    by (ops.Read address key list) = refl
    by (ops.CmpSwap address key compare swap list) = refl
    by (ops.FetchAdd address key add list) = refl
    by (ops.Bind1 window region address count rights) = refl
    by (ops.Bind2 window region low address count rights) = refl
    by (ops.FastReg region low buffer address count rights pages) = refl
    by (ops.LocalInv key) = refl

-- a packet has no other payload than it is given
pub given_payload : (mtu : ℕ) (request : SendRequest) (index queue psn : ℕ) (payload : List ℕ) (p : Fields) → request_packet mtu request index queue psn payload ≡ Some p
    → length p.payload ≤ length payload
given_payload mtu request index queue psn payload p e = by request.op refl
  where
    by : (op : SendOp) → request.op ≡ op → length p.payload ≤ length payload
    by (ops.Send list) is = let f = same_Some _ p (rw is at e) in omega (arith, ap (λ (x : Fields). length x.payload) f)
    by (ops.SendImm imm list) is = let f = same_Some _ p (rw is at e) in omega (arith, ap (λ (x : Fields). length x.payload) f)
    by (ops.SendInv key list) is = let f = same_Some _ p (rw is at e) in omega (arith, ap (λ (x : Fields). length x.payload) f)
    by (ops.Write address key list) is = let f = same_Some _ p (rw is at e) in omega (arith, ap (λ (x : Fields). length x.payload) f)
    by (ops.WriteImm address key imm list) is = let f = same_Some _ p (rw is at e) in omega (arith, ap (λ (x : Fields). length x.payload) f)
    by (ops.Read address key list) is = let f = same_Some _ p (rw is at e) in omega (arith, ap (λ (x : Fields). length x.payload) f)
    by (ops.CmpSwap address key compare swap list) is = let f = same_Some _ p (rw is at e) in omega (arith, ap (λ (x : Fields). length x.payload) f)
    by (ops.FetchAdd address key add list) is = let f = same_Some _ p (rw is at e) in omega (arith, ap (λ (x : Fields). length x.payload) f)
    by (ops.Bind1 window region address count rights) is = let f : None ≡ Some p = rw is at e in absurd cc
    by (ops.Bind2 window region low address count rights) is = let f : None ≡ Some p = rw is at e in absurd cc
    by (ops.FastReg region low buffer address count rights pages) is = let f : None ≡ Some p = rw is at e in absurd cc
    by (ops.LocalInv key) is = let f : None ≡ Some p = rw is at e in absurd cc

-- and is spelt in no more bytes than one that has all of them
pub few_spelt : (new old some all : ℕ) → some ≤ all → new ≤ old + most_spelt some → new ≤ old + most_spelt all
few_spelt new old some all le few = omega (arith, le, few)
