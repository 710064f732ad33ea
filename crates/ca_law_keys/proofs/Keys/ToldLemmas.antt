-- What marks leave of grants in force and of memory. For proofs only.
use Rattle.std.proofs.Common.{◌≡◌, ℕ, ◌+◌, ◌-◌, ◌≤◌, arith, ◌==◌, nat_le, min, Bool, true, false, if◌then◌else◌, List, [], ◌∷◌, ◌++◌, length, map, take, drop, sum_by, Option, None, Some, refl, sym, ap, subst, ◌∙◌, length-drop}
use Rattle.std.proofs.lemmas.List.{length-take-le}
use Rattle.std.proofs.lemmas.List.Sums.{sum_by-cons}
use Rattle.std.specs.Option.{option_map_or}
use Rattle.ca_law_endings.proofs.PathLemmas.{marks-append}
use Rattle.ca_law_keys.proofs.Keys.SightLemmas.{after_asked}
use Rattle.ca_law_keys.proofs.Keys.SlotLemmas.{without_key}
use Rattle.ca_keys.specs.Allowed.{fits, grant_for}
use Rattle.ca_keys.specs.Memory.{ByteMap, cut, memory_after, runs_at, runs_for}
use Rattle.ca_keys.specs.declared.access.Ask.{Ask}
use Rattle.ca_keys.specs.declared.access.Kind.{Kind}
use Rattle.ca_keys.specs.declared.grant.Grant.{Grant}
use Rattle.ca_keys.specs.declared.key.Key.{Key}
use Rattle.ca_keys.specs.declared.names.DomainId.{DomainId}
use Rattle.ca_keys.specs.declared.names.QueueId.{QueueId}
use Rattle.ca_keys.specs.declared.place.Run.{Run}
use Rattle.ca_keys.specs.declared.verdict.Verdict.TheVariants as verdicts
use Rattle.ca_base.specs.declared.refusals.OpRefusal.{OpRefusal}
use Rattle.ca_base.specs.declared.request.Piece.{Piece}
use Rattle.ca_base.specs.Sight.{Invalidation, runs_by_grant}
use Rattle.ca_model.specs.Past.{Past, after_mark, after_marks}
use Rattle.ca_model.specs.declared.mark.Mark.{Mark}
use Rattle.ca_model.specs.declared.mark.Mark.TheVariants as marks
use Rattle.ca_model.specs.machine.Numbering.{cut_list, piece_ask, piece_part}
use Rattle.ca_model.specs.machine.Responses.{local_writes, writes_by}

-- a past with these grants in force and this memory
pub record At (g : List Grant) (m : ByteMap) (p : Past) : Type 0 where
  pub grants : p.grants ≡ g
  pub memory : p.memory ≡ m

-- marks that lead from some grants and some memory to others
abbrev pub Leaves : List Grant → ByteMap → List Mark → List Grant → ByteMap → Type 0
Leaves g m ms h n = (p : Past) → At g m p → At h n (after_marks ms p)

pub leaves-append : (g h k : List Grant) (m n o : ByteMap) (ms ns : List Mark) → Leaves g m ms h n → Leaves h n ns k o → Leaves g m (ms ++ ns) k o
leaves-append g h k m n o ms ns one other = λ p at. subst (At k o) (sym (marks-append ms ns p)) (other (after_marks ms p) (one p at))

pub leaves-revoked : (g : List Grant) (m : ByteMap) (adapter : ℕ) (key : Key) → Leaves g m (marks.Revoked adapter key ∷ []) (without_key adapter key g) m
leaves-revoked g m adapter key = λ p at. record { grants = ap (without_key adapter key) at.grants; memory = at.memory }

pub leaves-granted : (g : List Grant) (m : ByteMap) (x : Grant) → Leaves g m (marks.Granted x ∷ []) (x ∷ g) m
leaves-granted g m x = λ p at. record { grants = ap (λ (gs : List Grant). x ∷ gs) at.grants; memory = at.memory }

-- the grant that an ask goes by is the same for any number of bytes that it touches
pub touch-alike : (ask : Ask) (touch : ℕ) (gs : List Grant) → grant_for (record ask { touch = touch }) gs ≡ grant_for ask gs
touch-alike ask touch [] = refl
touch-alike ask touch (g ∷ gs) = ap (λ o. if fits ask g then Some g else o) (touch-alike ask touch gs)

sum-more : (p : Piece) (ps : List Piece) → sum_by (λ p. p.length) (p ∷ ps) ≡ p.length + sum_by (λ p. p.length) ps
sum-more p ps = sum_by-cons (λ (p : Piece). p.length) p ps

-- pieces of a list, cut to so many bytes, have no more bytes
pub cut-most : (skip count : ℕ) (ps : List Piece) → sum_by (λ p. p.length) (cut_list skip count ps) ≤ count
cut-most skip count [] = omega arith
cut-most skip count (p ∷ ps) = by (nat_le p.length skip) (count == 0) (cut-most (skip - p.length) count ps) (cut-most 0 (count - (p.length - skip)) ps)
  where
    pieces : Bool → Bool → List Piece
    pieces b z =
        if b then cut_list (skip - p.length) count ps
        else if z then []
        else piece_part p skip (min count (p.length - skip)) ∷ cut_list 0 (count - (p.length - skip)) ps

    by : (b z : Bool) → sum_by (λ p. p.length) (cut_list (skip - p.length) count ps) ≤ count
        → sum_by (λ p. p.length) (cut_list 0 (count - (p.length - skip)) ps) ≤ count - (p.length - skip) → sum_by (λ p. p.length) (pieces b z) ≤ count
    by true z rest more = rest
    by false true rest more = omega arith
    by false false rest more = omega (arith, more, sum-more (piece_part p skip (min count (p.length - skip))) (cut_list 0 (count - (p.length - skip)) ps))

-- bytes that are written by pieces of a list
pieces-written : (g : List Grant) (queue : QueueId) (domain : DomainId) (kind : Kind) (ps : List Piece) (bytes : List ℕ) (m : ByteMap) → sum_by (λ p. p.length) ps ≤ length bytes
    → Leaves g m (local_writes (writes_by (map (piece_ask queue domain kind) ps) bytes)) g (after_asked g (writes_by (map (piece_ask queue domain kind) ps) bytes) m)
pieces-written g queue domain kind [] bytes m most = λ p at. at
pieces-written g queue domain kind (x ∷ ps) bytes m most = λ p at. pieces-written g queue domain kind ps (drop x.length bytes) after (omega (arith, most, length-drop x.length bytes, sum-more x ps)) (after_mark mark p) (record {
  grants = at.grants;
  memory = λ i. memory_after (at.memory i) (runs_for ask (at.grants i) (whole i)) (take x.length bytes);
})
  where
    ask : Ask
    ask = piece_ask queue domain kind x

    mark : Mark
    mark = marks.Local ask.queue ask.domain ask.key ask.kind ask.address ask.length (verdicts.Wrote (take x.length bytes))

    whole : length (take x.length bytes) ≡ x.length
    whole = length-take-le x.length bytes (omega (arith, most, sum-more x ps))

    after : ByteMap
    after = memory_after m (runs_by_grant ask (grant_for ask g)) (take x.length bytes)

pub list-written : (g : List Grant) (queue : QueueId) (domain : DomainId) (kind : Kind) (skip : ℕ) (ps : List Piece) (bytes : List ℕ) (m : ByteMap)
    → Leaves g m (local_writes (writes_by (map (piece_ask queue domain kind) (cut_list skip (length bytes) ps)) bytes)) g
    (after_asked g (writes_by (map (piece_ask queue domain kind) (cut_list skip (length bytes) ps)) bytes) m)
list-written g queue domain kind skip ps bytes m = pieces-written g queue domain kind (cut_list skip (length bytes) ps) bytes m (cut-most skip (length bytes) ps)

-- no bytes of runs are no runs
cut-none : (skip : ℕ) (rs : List Run) → cut skip 0 rs ≡ []
cut-none skip [] = refl
cut-none skip (r ∷ rs) = by (nat_le r.length skip) (cut-none (skip - r.length) rs)
  where
    by : (b : Bool) → cut (skip - r.length) 0 rs ≡ [] → (if b then cut (skip - r.length) 0 rs else []) ≡ []
    by true rest = rest
    by false rest = refl

pub none-written : (ask : Ask) (g : List Grant) (m : ByteMap) (bytes : List ℕ) → length bytes ≡ 0 → memory_after m (runs_for ask g (length bytes)) bytes ≡ m
none-written ask g m bytes none = ap (λ n. memory_after m (runs_for ask g n) bytes) none ∙ by (grant_for ask g)
  where
    by : (o : Option Grant) → memory_after m (option_map_or (λ x. runs_at x ask.address 0) o []) bytes ≡ m
    by None = refl
    by (Some x) = ap (λ rs. memory_after m rs bytes) (cut-none (ask.address - x.address) x.runs)

-- the grants in force when a row has ended its key, or was refused
abbrev pub ended : Option Invalidation → Option OpRefusal → List Grant → List Grant
ended None refusal g = g
ended (Some i) None g = without_key i.queue.adapter i.key g
ended (Some i) (Some cause) g = g
