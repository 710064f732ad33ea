-- The cells of a write, run after run of the grant under which it was made. For proofs only.
use Rattle.std.proofs.Common.{◌≡◌, ◌∙◌, ℕ, ◌+◌, ◌-◌, ◌<◌, ◌≤◌, ◌==◌, nat_le, min, arith, Bool, true, false, if◌then◌else◌, List, [], ◌∷◌, ◌++◌, drop, take, length, slice_index_or, slice_range, length-drop, length-take, None, Some, ap, refl, subst, sym}
use Rattle.std.proofs.lemmas.Bool.{eqb-true, le-leb, leb-true}
use Rattle.std.proofs.lemmas.List.{append-nil}
use Rattle.std.specs.List.{flat_map}
use Rattle.std.specs.Option.{option_map_or}
use Rattle.ca_isolation.specs.Alone.{Cell, cells_from, cells_of, run_of_stretch, stretches_of, stretches_of_write}
use Rattle.ca_keys.specs.Allowed.{grant_for}
use Rattle.ca_keys.specs.Memory.{cut, runs_at, runs_for}
use Rattle.ca_keys.specs.declared.access.Ask.{Ask}
use Rattle.ca_keys.specs.declared.grant.Grant.{Grant}
use Rattle.ca_keys.specs.declared.place.Place.{Place}
use Rattle.ca_keys.specs.declared.place.Run.{Run}
use Rattle.ca_isolation.proofs.CoverLemmas.{here}
use Rattle.ca_isolation.proofs.PutLemmas.{cells-of-front, cells-split, drop-both, put-ended, put-then, stored_none}
use Rattle.ca_isolation.specs.Extents.{behind}
use Rattle.ca_isolation.specs.Putting.{HasPut, HasStored, list_of}
use Rattle.ca_isolation.specs.declared.stores.Stores.{Stores}
use Rattle.ca_model.specs.machine.Plan.{Write}

-- ---- the bytes of one run

-- a part of bytes is of their front behind so many, and as long as it is to be
pub range-taken : (bytes : List ℕ) (done count : ℕ) → done + count ≤ length bytes
    → (slice_range bytes done (done + count) ≡ take count (drop done bytes)) × (length (slice_range bytes done (done + count)) ≡ count)
range-taken bytes done count within = (
  ap (λ n. take n (drop done bytes)) same,
  omega (arith, within, length-take (done + count - done) (drop done bytes), length-drop done bytes),
)
  where
    same : done + count - done ≡ count
    same = omega arith

-- so many bytes were put, and more behind them
pub put-bytes-more : (cover : Place → Bool) (p : Place) (bytes mid : List ℕ) (done count : ℕ) (a b c : Stores)
    → (mid ≡ take count (drop done bytes)) × (length mid ≡ count)
    → HasPut cover (cells_from p done bytes) a b → HasPut cover (cells_from (behind p done) (length mid) mid) b c
    → HasPut cover (cells_from p (done + count) bytes) a c
put-bytes-more cover p bytes mid done count a b c (is, long) one two =
    subst (λ xs. HasPut cover xs a c)
    (ap (λ xs. cells_from p done bytes ++ xs)
    (ap (λ n. cells_from (behind p done) n mid) long ∙ ap (cells_from (behind p done) count) is ∙ cells-of-front count (behind p done) (drop done bytes))
    ∙ sym (cells-split done count p bytes))
    (put-then cover (cells_from p done bytes) (cells_from (behind p done) (length mid) mid) a b c one two)

-- all bytes were put
pub put-bytes-all : (cover : Place → Bool) (p : Place) (bytes : List ℕ) (done : ℕ) (a b : Stores) → done ≡ length bytes
    → HasPut cover (cells_from p done bytes) a b → HasPut cover (cells_from p (length bytes) bytes) a b
put-bytes-all cover p bytes done a b is put = subst (λ n. HasPut cover (cells_from p n bytes) a b) is put

-- ---- run after run

nothing-cut : (skip : ℕ) (rs : List Run) → cut skip 0 rs ≡ []
nothing-cut skip [] = refl
nothing-cut skip (r ∷ rs) = by (nat_le r.length skip) (nothing-cut (skip - r.length) rs)
  where
    by : (b : Bool) → cut (skip - r.length) 0 rs ≡ [] → (if b then cut (skip - r.length) 0 rs else []) ≡ []
    by true rest = rest
    by false rest = refl

-- the first place of a run behind so many
abbrev place_in : Run → ℕ → Place
place_in r skip = record { adapter = r.adapter; buffer = r.buffer; offset = r.offset + skip }

-- a run that lies before the first byte
pub cut-past : (skip count : ℕ) (r : Run) (rs : List Run) → r.length ≤ skip → cut skip count (r ∷ rs) ≡ cut (skip - r.length) count rs
cut-past skip count r rs past =
    ap (λ b. if b then cut (skip - r.length) count rs else if count == 0 then [] else record r { offset = r.offset + skip; length = min count (r.length - skip) } ∷ cut 0 (count - (r.length - skip)) rs)
    (le-leb r.length skip past)

not-past : (r : Run) (skip : ℕ) → skip < r.length → nat_le r.length skip ≡ false
not-past r skip some = by (nat_le r.length skip) refl
  where
    by : (b : Bool) → nat_le r.length skip ≡ b → b ≡ false
    by true is = absurd (omega (arith, some, leb-true r.length skip is))
    by false is = refl

-- the cells of a run with bytes of it, and those of the runs behind it
cells-of-run : (skip count k : ℕ) (r : Run) (rs : List Run) (bytes : List ℕ) → skip < r.length → k ≡ min count (r.length - skip)
    → cells_of (cut skip count (r ∷ rs)) bytes ≡ cells_from (place_in r skip) k bytes ++ cells_of (cut 0 (count - k) rs) (drop k bytes)
cells-of-run skip count k r rs bytes some is =
    ap (λ b. cells_of (if b then cut (skip - r.length) count rs else if count == 0 then [] else whole) bytes) (not-past r skip some)
    ∙ by (count == 0) refl
  where
    whole : List Run
    whole = record r { offset = r.offset + skip; length = min count (r.length - skip) } ∷ cut 0 (count - (r.length - skip)) rs

    by : (b : Bool) → (count == 0) ≡ b → cells_of (if b then [] else whole) bytes ≡ cells_from (place_in r skip) k bytes ++ cells_of (cut 0 (count - k) rs) (drop k bytes)
    by true none =
        sym (ap (λ xs. cells_of xs bytes) (nothing-cut 0 rs))
        ∙ ap (λ n. cells_of (cut 0 n rs) bytes) left
        ∙ ap (λ n. cells_from (place_in r skip) n bytes ++ cells_of (cut 0 (count - k) rs) (drop n bytes)) (sym no)
      where
        no : k ≡ 0
        no = omega (arith, is, eqb-true count 0 none)

        left : 0 ≡ count - k
        left = omega (arith, eqb-true count 0 none)
    by false some' =
        ap (λ n. cells_from (place_in r skip) n bytes ++ cells_of (cut 0 (count - (r.length - skip)) rs) (drop n bytes)) (sym is)
        ∙ ap (λ n. cells_from (place_in r skip) k bytes ++ cells_of (cut 0 n rs) (drop k bytes)) left
      where
        left : count - (r.length - skip) ≡ count - k
        left = omega (arith, is)

-- what is left to put where a loop over runs stands: whoever puts it has put all
pub record IsLeft (cover : Place → Bool) (all : List Cell) (old now : Stores) (skip done : ℕ) (rest : List Run) (bytes : List ℕ) : Type 0 where
  pub within : done ≤ length bytes
  pub whole : (new : Stores) → HasPut cover (cells_of (cut skip (length bytes - done) rest) (drop done bytes)) now new → HasPut cover all old new

pub left-first : (cover : Place → Bool) (before : ℕ) (runs : List Run) (bytes : List ℕ) (a : Stores)
    → IsLeft cover (cells_of (cut before (length bytes) runs) bytes) a a before 0 runs bytes
left-first cover before runs bytes a = record {
  within = omega arith;
  whole = λ new put. subst (λ n. HasPut cover (cells_of (cut before n runs) bytes) a new) same put;
}
  where
    same : length bytes - 0 ≡ length bytes
    same = omega arith

-- a run that lies before the first byte
pub left-past : (cover : Place → Bool) (all : List Cell) (a b : Stores) (skip done : ℕ) (runs : List Run) (i : ℕ) (r : Run) (bytes : List ℕ)
    → i < length runs → r ≡ slice_index_or runs i r → r.length ≤ skip → IsLeft cover all a b skip done (drop i runs) bytes
    → IsLeft cover all a b (skip - r.length) done (drop (i + 1) runs) bytes
left-past cover all a b skip done runs i r bytes less is past left = record {
  within = left.within;
  whole = λ new put. left.whole new (subst (λ rs. HasPut cover (cells_of rs (drop done bytes)) b new)
      (sym (ap (cut skip (length bytes - done)) (here runs i r less is) ∙ cut-past skip (length bytes - done) r (drop (i + 1) runs) past)) put);
}

-- a run of which bytes were put
pub left-put : (cover : Place → Bool) (all : List Cell) (a b c : Stores) (skip done count : ℕ) (runs : List Run) (i : ℕ) (r : Run) (bytes mid : List ℕ)
    → i < length runs → r ≡ slice_index_or runs i r → skip < r.length → count ≡ min (length bytes - done) (r.length - skip)
    → (mid ≡ take count (drop done bytes)) × (length mid ≡ count)
    → HasPut cover (cells_from (place_in r skip) (length mid) mid) b c → IsLeft cover all a b skip done (drop i runs) bytes
    → IsLeft cover all a c 0 (done + count) (drop (i + 1) runs) bytes
left-put cover all a b c skip done count runs i r bytes mid less is some few (cut-out, long) put left = record {
  within = omega (arith, few, left.within);
  whole = λ new rest. left.whole new (subst (λ xs. HasPut cover xs b new) (sym cells)
      (put-then cover (cells_from (place_in r skip) (length mid) mid) (cells_of (cut 0 (length bytes - (done + count)) (drop (i + 1) runs)) (drop (done + count) bytes)) b c new put rest));
}
  where
    same-front : cells_from (place_in r skip) count (drop done bytes) ≡ cells_from (place_in r skip) (length mid) mid
    same-front = sym (cells-of-front count (place_in r skip) (drop done bytes)) ∙ ap (cells_from (place_in r skip) count) (sym cut-out) ∙ ap (λ n. cells_from (place_in r skip) n mid) (sym long)

    same-left : length bytes - done - count ≡ length bytes - (done + count)
    same-left = omega arith

    cells : cells_of (cut skip (length bytes - done) (drop i runs)) (drop done bytes)
        ≡ cells_from (place_in r skip) (length mid) mid ++ cells_of (cut 0 (length bytes - (done + count)) (drop (i + 1) runs)) (drop (done + count) bytes)
    cells =
        ap (λ rs. cells_of (cut skip (length bytes - done) rs) (drop done bytes)) (here runs i r less is)
        ∙ cells-of-run skip (length bytes - done) count r (drop (i + 1) runs) (drop done bytes) some few
        ∙ ap (λ xs. xs ++ cells_of (cut 0 (length bytes - done - count) (drop (i + 1) runs)) (drop count (drop done bytes))) same-front
        ∙ ap (λ n. cells_from (place_in r skip) (length mid) mid ++ cells_of (cut 0 n (drop (i + 1) runs)) (drop count (drop done bytes))) same-left
        ∙ ap (λ bs. cells_from (place_in r skip) (length mid) mid ++ cells_of (cut 0 (length bytes - (done + count)) (drop (i + 1) runs)) bs) (drop-both done count bytes)

-- the same under other names
pub left-as : (cover : Place → Bool) (all : List Cell) (a b b' : Stores) (skip skip' done done' : ℕ) (rest : List Run) (bytes : List ℕ) → b' ≡ b → skip' ≡ skip → done' ≡ done
    → IsLeft cover all a b skip done rest bytes → IsLeft cover all a b' skip' done' rest bytes
left-as cover all a b b' skip skip' done done' rest bytes same-stores same-skip same-done left =
    subst (λ x. IsLeft cover all a x skip' done' rest bytes) (sym same-stores)
    (subst (λ n. IsLeft cover all a b n done' rest bytes) (sym same-skip)
    (subst (λ n. IsLeft cover all a b skip n rest bytes) (sym same-done) left))

-- no run is left
pub left-none : (cover : Place → Bool) (all : List Cell) (a b : Stores) (skip done : ℕ) (runs : List Run) (i : ℕ) (bytes : List ℕ)
    → drop i runs ≡ [] → IsLeft cover all a b skip done (drop i runs) bytes → HasPut cover all a b
left-none cover all a b skip done runs i bytes none left =
    left.whole b (subst (λ rs. HasPut cover (cells_of (cut skip (length bytes - done) rs) (drop done bytes)) b b) (sym none) (λ ys. refl))

-- ---- writes

-- the bytes of an access, under the grant by which it went
pub access-stored : (cover : Place → Bool) (ask : Ask) (grants : List Grant) (g : Grant) (bytes : List ℕ) (before : ℕ) (a b c : Stores)
    → grant_for ask grants ≡ Some g → before ≡ ask.address - g.address → a.front ≡ None
    → HasPut cover (cells_of (cut before (length bytes) g.runs) bytes) a b → HasStored (list_of b.front) b c
    → HasStored (stretches_of_write cover (record { runs = runs_for ask grants (length bytes); bytes = bytes })) a c
access-stored cover ask grants g bytes before a b c found is none put stored =
    subst (λ rs. HasStored (stretches_of cover (cells_of rs bytes) None) a c)
    (ap (λ n. cut n (length bytes) g.runs) is ∙ ap (λ o. option_map_or (λ g. runs_at g ask.address (length bytes)) o []) (sym found))
    (put-ended cover (cells_of (cut before (length bytes) g.runs) bytes) a b c none put stored)

-- no grant
pub access-none : (cover : Place → Bool) (ask : Ask) (grants : List Grant) (bytes : List ℕ) (a : Stores) → grant_for ask grants ≡ None → a.front ≡ None
    → HasStored (stretches_of_write cover (record { runs = runs_for ask grants (length bytes); bytes = bytes })) a a
access-none cover ask grants bytes a found none =
    subst (λ rs. HasStored (stretches_of cover (cells_of rs bytes) None) a a)
    (ap (λ o. option_map_or (λ g. runs_at g ask.address (length bytes)) o []) (sym found)) (stored_none a none)

-- the bytes of a Store
pub place-stored : (cover : Place → Bool) (at : Place) (bytes : List ℕ) (a b c : Stores) → a.front ≡ None
    → HasPut cover (cells_from at (length bytes) bytes) a b → HasStored (list_of b.front) b c
    → HasStored (stretches_of_write cover (record { runs = run_of_stretch (record { at = at; bytes = bytes }) ∷ []; bytes = bytes })) a c
place-stored cover at bytes a b c none put stored =
    subst (λ xs. HasStored (stretches_of cover xs None) a c) (sym (append-nil (cells_from at (length bytes) bytes)))
    (put-ended cover (cells_from at (length bytes) bytes) a b c none put stored)

-- one write is all that there is
pub one-write : (cover : Place → Bool) (x : Write) (a b : Stores) → HasStored (stretches_of_write cover x) a b
    → HasStored (flat_map (stretches_of_write cover) (x ∷ [])) a b
one-write cover x a b stored = subst (λ ss. HasStored ss a b) (sym (append-nil (stretches_of_write cover x))) stored
