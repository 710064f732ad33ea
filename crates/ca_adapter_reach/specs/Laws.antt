-- That what is seen after a write is what memory is after it. For proofs only: it may be skipped.
use Rattle.std.proofs.Common.{◌≡◌, ap₂, ◌++◌, map, nat_lt, ℕ, ◌+◌, ◌-◌, ◌≤◌, ◌==◌, ◌&&◌, nat_le, min, Bool, true, false, if◌then◌else◌, List, [], ◌∷◌, length, take, drop, Option, None, Some, refl, sym, ap, ◌∙◌, subst, arith, length-append, eq-eqb, is_some, true≢false, IsSomeAnd}
use Rattle.std.proofs.Math.Path.{fun_ext}
use Rattle.std.proofs.lemmas.Bool.Decides.{nat_tests}
use Rattle.std.proofs.lemmas.List.{length-map, length-drop}
use Rattle.std.proofs.lemmas.List.FromFn.{length-range_with_len}
use Rattle.std.proofs.lemmas.List.Sums.{sum_by-cons}
use Rattle.std.specs.Prelude.{slice_index_or}
use Rattle.std.specs.List.{range_with_len}
use Rattle.std.specs.Option.{option_map, option_map_or}
use Rattle.ca_keys.specs.declared.access.Ask.{Ask}
use Rattle.ca_keys.specs.declared.grant.Grant.{Grant}
use Rattle.ca_keys.specs.declared.place.Place.{Place}
use Rattle.ca_keys.specs.declared.place.Run.{Run}
use Rattle.ca_keys.specs.Memory.{ByteMap, bytes_at, cut, is_in, memory_after, places_count, places_of, run_part, runs_at}
use Rattle.ca_base.specs.Sight.{Invalidation, runs_in}
use Rattle.ca_grant.specs.Reaching.{sight_after_write}
use Rattle.ca_grant.specs.Access.{memory_of_buffer}
use Rattle.ca_grant.proofs.Places.{run-keeps-length, run-written}
use Rattle.ca_grant.specs.ca_memory.Buffer.{IsWrittenAt, bytes_after, memory_of}
use Rattle.ca_adapter_reach.specs.declared.shelf.Named.{Named}
use Rattle.ca_adapter_reach.specs.Shelved.{has_thing, thing_under, with_thing}
use Rattle.ca_adapter_reach.specs.declared.reached.BufferId.{BufferId}
use Rattle.ca_adapter_reach.specs.declared.reached.Reached.{Reached}
use Rattle.ca_adapter_reach.specs.AtHand.{AreRunsAtHand, CanEnd, HasBytesAtHand, IsRunAtHand}
use Rattle.ca_adapter_reach.specs.Changed.{after_write_by, with_run, with_runs}
use Rattle.ca_adapter_reach.specs.Names.{buffer_eq, buffer_of, buffer_of_run, buffer_path}
use Rattle.ca_adapter_reach.specs.Seen.{byte_in, or_vacant, sight_of}

module _ {N T : Type 0} (same : N → N → Bool) (path : (a b : N) → same a b ≡ true → a ≡ b) where
  -- what stands under a name after another thing was put under one
  pub thing-with : (xs : List (Named N T)) (n m : N) (v : T) → has_thing same n xs ≡ true
      → thing_under same m (with_thing same n v xs) ≡ (if same n m then Some v else thing_under same m xs)
  thing-with [] n m v has = absurd (true≢false (sym has))
  thing-with (x ∷ xs) n m v has = by (same x.name n) refl has (thing-with xs n m v)
    where
      behind : (b : Bool) → same n m ≡ b → same x.name n ≡ false
          → thing_under same m (with_thing same n v xs) ≡ (if same n m then Some v else thing_under same m xs)
          → (if same x.name m then Some x.thing else thing_under same m (with_thing same n v xs))
          ≡ (if same n m then Some v else if same x.name m then Some x.thing else thing_under same m xs)
      behind true is other again = let p : same x.name m ≡ false = ap (same x.name) (sym (path n m is)) ∙ other in rw (p, again, is) refl
      behind false is other again = rw (again, is) refl

      first : (b : Bool) → same x.name m ≡ b
          → (if same x.name m then Some v else thing_under same m xs)
          ≡ (if same x.name m then Some v else if same x.name m then Some x.thing else thing_under same m xs)
      first true is = rw is refl
      first false is = rw is refl

      by : (b : Bool) → same x.name n ≡ b → is_some (if b then Some x.thing else thing_under same n xs) ≡ true
          → (has_thing same n xs ≡ true → thing_under same m (with_thing same n v xs) ≡ (if same n m then Some v else thing_under same m xs))
          → thing_under same m (if b then record x { thing = v } ∷ xs else x ∷ with_thing same n v xs)
          ≡ (if same n m then Some v else if same x.name m then Some x.thing else thing_under same m xs)
      by true is there again = rw (← path x.name n is) (first (same x.name m) refl)
      by false is there again = behind (same n m) refl is (again there)

  -- what stands there, or else what is vacant
  pub plain-with : (vacant : N → T) (xs : List (Named N T)) (n m : N) (v : T) → has_thing same n xs ≡ true
      → or_vacant (vacant m) (thing_under same m (with_thing same n v xs)) ≡ (if same n m then v else or_vacant (vacant m) (thing_under same m xs))
  plain-with vacant xs n m v has = ap (or_vacant (vacant m)) (thing-with xs n m v has) ∙ by (same n m)
    where
      by : (b : Bool) → or_vacant (vacant m) (if b then Some v else thing_under same m xs) ≡ (if b then v else or_vacant (vacant m) (thing_under same m xs))
      by true = refl
      by false = refl

  -- a thing that is put where it stands changes nothing
  pub same_thing : (xs : List (Named N T)) (n : N) (v : T) → Some v ≡ thing_under same n xs → with_thing same n v xs ≡ xs
  same_thing [] n v is = refl
  same_thing (x ∷ xs) n v is = by (same x.name n) is (same_thing xs n v)
    where
      by : (b : Bool) → Some v ≡ (if b then Some x.thing else thing_under same n xs)
          → (Some v ≡ thing_under same n xs → with_thing same n v xs ≡ xs)
          → (if b then record x { thing = v } ∷ xs else x ∷ with_thing same n v xs) ≡ x ∷ xs
      by true is again = let e : v ≡ x.thing = cc in ap (λ v. record x { thing = v } ∷ xs) e
      by false is again = ap (λ xs. x ∷ xs) (again is)

  -- the same names are there
  pub has-with : (xs : List (Named N T)) (n m : N) (v : T) → has_thing same n xs ≡ true → has_thing same m (with_thing same n v xs) ≡ has_thing same m xs
  has-with xs n m v has = ap is_some (thing-with xs n m v has) ∙ by (same n m) refl
    where
      by : (b : Bool) → same n m ≡ b → is_some (if b then Some v else thing_under same m xs) ≡ has_thing same m xs
      by true is = rw (← path n m is) (sym has)
      by false is = refl

-- what is cut has at most so many places as bytes that it touches
cut-at-most : (rs : List Run) (from count : ℕ) → places_count (cut from count rs) ≤ count
cut-at-most [] from count = omega arith
cut-at-most (r ∷ rs) from count =
    by (nat_le r.length from) (count == 0) (cut-at-most rs (from - r.length) count) (cut-at-most rs 0 (count - (r.length - from)))
  where
    by : (b z : Bool) → places_count (cut (from - r.length) count rs) ≤ count
        → places_count (cut 0 (count - (r.length - from)) rs) ≤ count - (r.length - from)
        → places_count (if b then cut (from - r.length) count rs else if z then [] else run_part r from (min count (r.length - from)) ∷ cut 0 (count - (r.length - from)) rs) ≤ count
    by true z later here = later
    by false true later here = omega arith
    by false false later here =
        omega (arith, sum_by-cons (λ (r : Run). r.length) (run_part r from (min count (r.length - from))) (cut 0 (count - (r.length - from)) rs), here)

-- an ask has at most as many places as bytes that it touches
places-at-most : (ask : Ask) (o : Option Grant) → places_count (option_map_or (λ g. runs_at g ask.address ask.touch) o []) ≤ ask.touch
places-at-most ask None = omega arith
places-at-most ask (Some g) = cut-at-most g.runs (ask.address - g.address) ask.touch

-- the buffer of a run that is at hand
pub run_has : (things : List (Named BufferId (List ℕ))) (x : Run) → IsRunAtHand things x → has_thing buffer_eq (buffer_of_run x) things ≡ true
run_has things x here = by (thing_under buffer_eq (buffer_of_run x) things) here
  where
    by : (o : Option (List ℕ)) → IsSomeAnd o (λ bytes. x.offset + x.length ≤ length bytes) → is_some o ≡ true
    by None none = absurd none
    by (Some bytes) fits = refl

pub run_fits : (things : List (Named BufferId (List ℕ))) (x : Run) (bytes : List ℕ) → IsRunAtHand things x
    → Some bytes ≡ thing_under buffer_eq (buffer_of_run x) things → x.offset + x.length ≤ length bytes
run_fits things x bytes here is = let P : Option (List ℕ) → Type 0 = λ o. IsSomeAnd o (λ bytes. x.offset + x.length ≤ length bytes) in subst P (sym is) here

-- the bytes of a buffer
bytes-of : (things : List (Named BufferId (List ℕ))) (x : Run) → IsRunAtHand things x
    → Some (or_vacant [] (thing_under buffer_eq (buffer_of_run x) things)) ≡ thing_under buffer_eq (buffer_of_run x) things
bytes-of things x here = by (thing_under buffer_eq (buffer_of_run x) things) here
  where
    by : (o : Option (List ℕ)) → IsSomeAnd o (λ bytes. x.offset + x.length ≤ length bytes) → Some (or_vacant [] o) ≡ o
    by None none = absurd none
    by (Some bytes) fits = refl

-- a buffer's bytes at a run are those that are seen
pub bytes_seen : (things : List (Named BufferId (List ℕ))) (x : Run) (bytes : List ℕ) → Some bytes ≡ thing_under buffer_eq (buffer_of_run x) things
    → bytes_at (memory_of bytes) (x ∷ []) ≡ bytes_at (byte_in things) (x ∷ [])
bytes_seen things x bytes is = each (range_with_len x.offset x.length)
  where
    each : (ns : List ℕ) → map (memory_of bytes) (map (λ at. record { adapter = x.adapter; buffer = x.buffer; offset = at }) ns ++ [])
        ≡ map (byte_in things) (map (λ at. record { adapter = x.adapter; buffer = x.buffer; offset = at }) ns ++ [])
    each [] = refl
    each (n ∷ ns) = ap₂ (λ x xs. x ∷ xs) (ap (λ o. option_map_or (λ xs. memory_of xs (record { adapter = x.adapter; buffer = x.buffer; offset = n })) o 0) is) (each ns)

-- a place of another buffer is none of a run's
outside : (x : Run) (p : Place) → buffer_eq (buffer_of_run x) (buffer_of p) ≡ false → is_in x p ≡ false
outside x p e = apart (x.adapter == p.adapter) refl e
  where
    no : (b : Bool) → (b && false && nat_le x.offset p.offset && nat_lt p.offset (x.offset + x.length)) ≡ false
    no true = refl
    no false = refl

    apart : (b : Bool) → (x.adapter == p.adapter) ≡ b → (b && (x.buffer == p.buffer)) ≡ false → is_in x p ≡ false
    apart true is e = let buffers : (p.buffer == x.buffer) ≡ false = grind (arith, nat_tests, e) in rw buffers (no (p.adapter == x.adapter))
    apart false is e = let adapters : (p.adapter == x.adapter) ≡ false = grind (arith, nat_tests, is) in rw adapters refl

-- what is seen after other bytes were put in the buffer of a run
pub byte-put : (things : List (Named BufferId (List ℕ))) (x : Run) (written old new : List ℕ) → Some old ≡ thing_under buffer_eq (buffer_of_run x) things
    → IsWrittenAt x written old new
    → byte_in (with_thing buffer_eq (buffer_of_run x) new things) ≡ memory_after (byte_in things) (x ∷ []) written
byte-put things x written old new is put = fun_ext (λ p. at p (buffer_eq (buffer_of_run x) (buffer_of p)) refl)
  where
    under : (p : Place) → thing_under buffer_eq (buffer_of p) (with_thing buffer_eq (buffer_of_run x) new things)
        ≡ (if buffer_eq (buffer_of_run x) (buffer_of p) then Some new else thing_under buffer_eq (buffer_of p) things)
    under p = thing-with buffer_eq buffer_path things (buffer_of_run x) (buffer_of p) new (sym (ap is_some is))

    here : (p : Place) → buffer_eq (buffer_of_run x) (buffer_of p) ≡ true → Some old ≡ thing_under buffer_eq (buffer_of p) things
    here p e = is ∙ ap (λ b. thing_under buffer_eq b things) (buffer_path (buffer_of_run x) (buffer_of p) e)

    at : (p : Place) (b : Bool) → buffer_eq (buffer_of_run x) (buffer_of p) ≡ b
        → option_map_or (λ xs. memory_of xs p) (thing_under buffer_eq (buffer_of p) (with_thing buffer_eq (buffer_of_run x) new things)) 0
        ≡ memory_after (byte_in things) (x ∷ []) written p
    at p true e = ap (λ o. option_map_or (λ xs. memory_of xs p) o 0) (under p ∙ ap (λ b. if b then Some new else thing_under buffer_eq (buffer_of p) things) e)
        ∙ put p (ap (λ b. b.adapter) (sym (buffer_path (buffer_of_run x) (buffer_of p) e))) (ap (λ b. b.index) (sym (buffer_path (buffer_of_run x) (buffer_of p) e)))
        ∙ ap (λ o. if is_in x p then slice_index_or written (p.offset - x.offset) 0 else option_map_or (λ xs. memory_of xs p) o 0) (here p e)
    at p false e = ap (λ o. option_map_or (λ xs. memory_of xs p) o 0) (under p ∙ ap (λ b. if b then Some new else thing_under buffer_eq (buffer_of p) things) e)
        ∙ sym (ap (λ b. if b then slice_index_or written (p.offset - x.offset) 0 else byte_in things p) (outside x p e))

-- a place of a buffer has the same byte in its memory
same-byte : (x : Run) (bytes : List ℕ) (p : Place) → p.adapter ≡ x.adapter → p.buffer ≡ x.buffer → memory_of_buffer x.adapter x.buffer bytes p ≡ memory_of bytes p
same-byte x bytes p a b = rw (eq-eqb p.adapter x.adapter a, eq-eqb p.buffer x.buffer b) refl

-- bytes put into a buffer's list are written to the places of their run
written-at : (x : Run) (written old : List ℕ) → x.offset + x.length ≤ length old → x.length ≤ length written
    → IsWrittenAt x written old (bytes_after x.offset (take x.length written) old)
written-at x written old fits enough p a b =
    sym (same-byte x (bytes_after x.offset (take x.length written) old) p a b)
    ∙ sym (ap (λ (m : ByteMap). m p) (run-written x.adapter x.buffer x written old refl refl fits enough))
    ∙ ap (λ (v : ℕ). if is_in x p then slice_index_or written (p.offset - x.offset) 0 else v) (same-byte x old p a b)

-- how long the buffers are
pub lengths-kept : (things : List (Named BufferId (List ℕ))) (x : Run) (old new : List ℕ) → Some old ≡ thing_under buffer_eq (buffer_of_run x) things
    → length new ≡ length old → (n : BufferId)
    → option_map length (thing_under buffer_eq n (with_thing buffer_eq (buffer_of_run x) new things)) ≡ option_map length (thing_under buffer_eq n things)
lengths-kept things x old new is same n =
    ap (option_map length) (thing-with buffer_eq buffer_path things (buffer_of_run x) n new (sym (ap is_some is))) ∙ by (buffer_eq (buffer_of_run x) n) refl
  where
    by : (b : Bool) → buffer_eq (buffer_of_run x) n ≡ b → option_map length (if b then Some new else thing_under buffer_eq n things) ≡ option_map length (thing_under buffer_eq n things)
    by true e = ap Some same ∙ ap (option_map length) (is ∙ ap (λ b. thing_under buffer_eq b things) (buffer_path (buffer_of_run x) n e))
    by false e = refl

-- by how long buffers are a run is at hand or not
as-length : (n : ℕ) (o : Option (List ℕ)) → IsSomeAnd o (λ bytes. n ≤ length bytes) → IsSomeAnd (option_map length o) (λ k. n ≤ k)
as-length n None none = none
as-length n (Some bytes) fits = fits

of-length : (n : ℕ) (o : Option (List ℕ)) → IsSomeAnd (option_map length o) (λ k. n ≤ k) → IsSomeAnd o (λ bytes. n ≤ length bytes)
of-length n None none = none
of-length n (Some bytes) fits = fits

module _ (things : List (Named BufferId (List ℕ))) (x : Run) (written : List ℕ) (here : IsRunAtHand things x) (enough : x.length ≤ length written) where
  fits : x.offset + x.length ≤ length (or_vacant [] (thing_under buffer_eq (buffer_of_run x) things))
  fits = run_fits things x (or_vacant [] (thing_under buffer_eq (buffer_of_run x) things)) here (bytes-of things x here)

  -- what is seen after bytes were put to a run
  run-seen : byte_in (with_run x (take x.length written) things) ≡ memory_after (byte_in things) (x ∷ []) written
  run-seen = byte-put things x written (or_vacant [] (thing_under buffer_eq (buffer_of_run x) things))
      (bytes_after x.offset (take x.length written) (or_vacant [] (thing_under buffer_eq (buffer_of_run x) things)))
      (bytes-of things x here) (written-at x written (or_vacant [] (thing_under buffer_eq (buffer_of_run x) things)) fits enough)

  run-lengths : (n : BufferId) → option_map length (thing_under buffer_eq n (with_run x (take x.length written) things)) ≡ option_map length (thing_under buffer_eq n things)
  run-lengths = lengths-kept things x (or_vacant [] (thing_under buffer_eq (buffer_of_run x) things))
      (bytes_after x.offset (take x.length written) (or_vacant [] (thing_under buffer_eq (buffer_of_run x) things)))
      (bytes-of things x here)
      (run-keeps-length x.adapter x.buffer x written (or_vacant [] (thing_under buffer_eq (buffer_of_run x) things)) refl refl fits enough)

-- runs stay at hand where buffers stay as long as they were
runs-stay : (before after : List (Named BufferId (List ℕ)))
    → ((n : BufferId) → option_map length (thing_under buffer_eq n after) ≡ option_map length (thing_under buffer_eq n before))
    → (rs : List Run) → AreRunsAtHand before rs → AreRunsAtHand after rs
runs-stay before after same [] here = tt
runs-stay before after same (x ∷ xs) here =
    let P : Option ℕ → Type 0 = λ o. IsSomeAnd o (λ k. x.offset + x.length ≤ k) in (
      of-length (x.offset + x.length) (thing_under buffer_eq (buffer_of_run x) after)
          (subst P (sym (same (buffer_of_run x))) (as-length (x.offset + x.length) (thing_under buffer_eq (buffer_of_run x) before) here.0)),
      runs-stay before after same xs here.1,
    )

-- a run stays at hand after other bytes, as many, were put in a buffer
pub run_stays : (things : List (Named BufferId (List ℕ))) (x : Run) (old new : List ℕ) → Some old ≡ thing_under buffer_eq (buffer_of_run x) things
    → length new ≡ length old → (y : Run) → IsRunAtHand things y → IsRunAtHand (with_thing buffer_eq (buffer_of_run x) new things) y
run_stays things x old new is same y there =
    (runs-stay things (with_thing buffer_eq (buffer_of_run x) new things) (lengths-kept things x old new is same) (y ∷ []) (there, tt)).0

-- runs stay at hand where each does
pub each_stays : (before after : List (Named BufferId (List ℕ))) → ((x : Run) → IsRunAtHand before x → IsRunAtHand after x)
    → (rs : List Run) → AreRunsAtHand before rs → AreRunsAtHand after rs
each_stays before after stays [] here = tt
each_stays before after stays (x ∷ xs) here = (stays x here.0, each_stays before after stays xs here.1)

-- the first run of runs has its bytes, and so have the others
enough-first : (x : Run) (xs : List Run) (written : List ℕ) → places_count (x ∷ xs) ≤ length written → x.length ≤ length written
enough-first x xs written enough = omega (arith, enough, sum_by-cons (λ (r : Run). r.length) x xs)

enough-rest : (x : Run) (xs : List Run) (written : List ℕ) → places_count (x ∷ xs) ≤ length written → places_count xs ≤ length (drop x.length written)
enough-rest x xs written enough = omega (arith, enough, sum_by-cons (λ (r : Run). r.length) x xs, length-drop x.length written)

-- what is seen after bytes were put to runs is what memory is after it
pub runs-seen : (rs : List Run) (things : List (Named BufferId (List ℕ))) (written : List ℕ) → AreRunsAtHand things rs → places_count rs ≤ length written
    → byte_in (with_runs rs written things) ≡ memory_after (byte_in things) rs written
runs-seen [] things written here enough = refl
runs-seen (x ∷ xs) things written here enough =
    let first : x.length ≤ length written = enough-first x xs written enough in
    runs-seen xs (with_run x (take x.length written) things) (drop x.length written)
    (runs-stay things (with_run x (take x.length written) things) (run-lengths things x written here.0 first) xs here.1)
    (enough-rest x xs written enough)
    ∙ ap (λ (m : ByteMap). memory_after m xs (drop x.length written)) (run-seen things x written here.0 first)

pub runs-lengths : (rs : List Run) (things : List (Named BufferId (List ℕ))) (written : List ℕ) → AreRunsAtHand things rs → places_count rs ≤ length written
    → (n : BufferId) → option_map length (thing_under buffer_eq n (with_runs rs written things)) ≡ option_map length (thing_under buffer_eq n things)
runs-lengths [] things written here enough n = refl
runs-lengths (x ∷ xs) things written here enough n =
    let first : x.length ≤ length written = enough-first x xs written enough in
    runs-lengths xs (with_run x (take x.length written) things) (drop x.length written)
    (runs-stay things (with_run x (take x.length written) things) (run-lengths things x written here.0 first) xs here.1)
    (enough-rest x xs written enough) n
    ∙ run-lengths things x written here.0 first n

-- the places of an ask are no more than the bytes that it touches
pub few-places : (r : Reached) (ask : Ask) (bytes : List ℕ) → length bytes ≡ ask.touch → places_count (runs_in (sight_of r) ask) ≤ length bytes
few-places r ask bytes count = omega (arith, count, places-at-most ask ((sight_of r).grant ask))

-- what is seen after a write by an ask is what memory is after it
pub write_is_seen : (r : Reached) (ask : Ask) (bytes : List ℕ) → HasBytesAtHand r ask → length bytes ≡ ask.touch
    → sight_of (after_write_by r ask bytes) ≡ sight_after_write (sight_of r) ask bytes
write_is_seen r ask bytes here count =
    ap (λ (byte : ByteMap). record { grant = (sight_of r).grant; byte = byte; refusal = (sight_of r).refusal })
    (runs-seen (runs_in (sight_of r) ask) r.buffers.things bytes here (few-places r ask bytes count))

-- bytes that are at hand stay so after a write
pub write_leaves_bytes : (r : Reached) (ask : Ask) (bytes : List ℕ) → HasBytesAtHand r ask → length bytes ≡ ask.touch
    → (other : Ask) → HasBytesAtHand r other → HasBytesAtHand (after_write_by r ask bytes) other
write_leaves_bytes r ask bytes here count other there =
    runs-stay r.buffers.things (with_runs (runs_in (sight_of r) ask) bytes r.buffers.things)
    (runs-lengths (runs_in (sight_of r) ask) r.buffers.things bytes here (few-places r ask bytes count)) (runs_in (sight_of r) other) there

-- where keys end that are at hand, they stay so after a write
pub write_leaves_ends : (r : Reached) (ask : Ask) (bytes : List ℕ) (i : Invalidation) → CanEnd r i → CanEnd (after_write_by r ask bytes) i
write_leaves_ends r ask bytes i can = record { fit = can.fit; under = can.under }

-- runs have as many bytes as places
places-count : (rs : List Run) → length (places_of rs) ≡ places_count rs
places-count [] = refl
places-count (r ∷ rs) =
    let total : places_count (r ∷ rs) ≡ r.length + places_count rs = sum_by-cons (λ (r : Run). r.length) r rs in
    simp (length-append, length-map, length-range_with_len) (omega (arith, places-count rs))

pub bytes_count : (m : ByteMap) (rs : List Run) → length (bytes_at m rs) ≡ places_count rs
bytes_count m rs = length-map (places_of rs) m ∙ places-count rs
