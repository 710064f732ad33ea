-- Each Store in the place of a write is done: it has few bytes, some, and lies in its buffer. For proofs only.
use Rattle.std.proofs.Common.{◌≡◌, ◌∙◌, ℕ, zero, suc, ◌+◌, ◌-◌, ◌≤◌, ◌<◌, ◌==◌, ◌&&◌, ◌||◌, nat_le, nat_lt, min, arith, Bool, true, false, if◌then◌else◌, List, [], ◌∷◌, ◌++◌, drop, length, map, is_some, Option, None, Some, IfSome, Ok, ap, refl, subst, length-append}
use Rattle.std.proofs.lemmas.Bool.{and_parts, eqb-true, le-ltb, ltb-true}
use Rattle.std.proofs.lemmas.List.Sums.{sum_by-cons}
use Rattle.std.specs.List.{AllByRecursion, flat_map}
use Rattle.std.specs.Option.{option_map_or}
use Rattle.ca_base.specs.Configuration.{Configuration}
use Rattle.ca_base.specs.declared.limits.TheConstants.{ATOMIC_BYTES, MAX_STORE_BYTES}
use Rattle.ca_base.specs.objects.Slices.{buffer_length}
use Rattle.ca_isolation.specs.Alone.{Cell, cells_from, cells_of, ended_before, goes_on, grown, memory_stored, open_behind, store_entry, store_of, stretches_of, stretches_of_marks, stretches_of_write, writes_of, writes_of_access}
use Rattle.ca_isolation.specs.declared.stretch.Stretch.{Stretch}
use Rattle.ca_keys.specs.Allowed.{fits, grant_for}
use Rattle.ca_keys.specs.Memory.{cut, places_count, run_part, runs_at, runs_for}
use Rattle.ca_keys.specs.declared.access.Ask.{Ask}
use Rattle.ca_keys.specs.declared.grant.Grant.{Grant}
use Rattle.ca_keys.specs.declared.place.Place.{Place}
use Rattle.ca_keys.specs.declared.place.Run.{Run}
use Rattle.ca_keys.specs.declared.verdict.Verdict.{Verdict}
use Rattle.ca_keys.specs.declared.verdict.Verdict.TheVariants as verdicts
use Rattle.ca_law_parts.proofs.Names.PlanLemmas.{AreRunsIn, cut-in}
use Rattle.ca_law_isolation.specs.Bounds.{AreBounded, IsBounded, LiesInBuffer, WritesFew}
use Rattle.ca_law_isolation.proofs.PastLemmas.{Grants, mark-grants}
use Rattle.ca_model.specs.Entries.{EntryValue}
use Rattle.ca_model.specs.Past.{Past, after_mark, local_ask, remote_ask}
use Rattle.ca_base.specs.declared.change.Field.TheVariants as fields
use Rattle.ca_model.specs.declared.answer.Answer.TheVariants as answers
use Rattle.ca_model.specs.declared.answer.Refusal.TheVariants.{NoSuch, OutOfRange, OutsideBuffer}
use Rattle.ca_model.specs.declared.mark.Mark.{Mark}
use Rattle.ca_model.specs.declared.mark.Mark.TheVariants as marks
use Rattle.ca_model.specs.machine.Plan.{Did, Outcome, Write}
use Rattle.ca_model.specs.machine.Run.{go_on, run_from, with_marks}
use Rattle.ca_model.specs.machine.Step.{bytes_of_buffer, has_buffer, step}
use Rattle.ca_model.specs.machine.World.{World}

-- ---- stretches

-- a cell lies in its buffer
abbrev LiesAt : Configuration → Cell → Type 0
LiesAt c x = x.place.offset < bytes_of_buffer c x.place.adapter x.place.buffer

-- a Store of this stretch is done
pub record CanBeStored (c : Configuration) (s : Stretch) : Type 0 where
  pub some : 0 < length s.bytes
  pub few : length s.bytes ≤ MAX_STORE_BYTES
  pub inside : s.at.offset + length s.bytes ≤ bytes_of_buffer c s.at.adapter s.at.buffer

joined : {A : Type 0} (P : A → Type 0) (xs ys : List A) → AllByRecursion P xs → AllByRecursion P ys → AllByRecursion P (xs ++ ys)
joined P [] ys one other = other
joined P (x ∷ xs) ys one other = (one.0, joined P xs ys one.1 other)

-- how many bytes a stretch has that is open
abbrev begun_length : Option Stretch → ℕ
begun_length front = option_map_or (λ s. length s.bytes) front 0

alone-stored : (c : Configuration) (x : Cell) → LiesAt c x → CanBeStored c (record { at = x.place; bytes = x.byte ∷ [] })
alone-stored c x lies = record { some = omega arith; few = omega arith; inside = omega (arith, lies) }

longer-stored : (c : Configuration) (s : Stretch) (x : Cell) → LiesAt c x → CanBeStored c s → goes_on s x ≡ true → suc (length s.bytes) ≤ MAX_STORE_BYTES
    → CanBeStored c (record s { bytes = s.bytes ++ x.byte ∷ [] })
longer-stored c s x lies stored on few = record {
  some = omega (arith, grows);
  few = omega (arith, grows, few);
  inside = omega (arith, grows, here, eqb-true x.place.offset (s.at.offset + length s.bytes) parts.1);
}
  where
    grows : length (s.bytes ++ x.byte ∷ []) ≡ length s.bytes + 1
    grows = length-append s.bytes (x.byte ∷ [])

    parts : ((x.place.adapter == s.at.adapter) && (x.place.buffer == s.at.buffer) ≡ true) × ((x.place.offset == s.at.offset + length s.bytes) ≡ true)
    parts = and_parts ((x.place.adapter == s.at.adapter) && (x.place.buffer == s.at.buffer)) (x.place.offset == s.at.offset + length s.bytes) on

    names : ((x.place.adapter == s.at.adapter) ≡ true) × ((x.place.buffer == s.at.buffer) ≡ true)
    names = and_parts (x.place.adapter == s.at.adapter) (x.place.buffer == s.at.buffer) parts.0

    here : x.place.offset < bytes_of_buffer c s.at.adapter s.at.buffer
    here = subst (λ a. x.place.offset < bytes_of_buffer c a s.at.buffer) (eqb-true x.place.adapter s.at.adapter names.0)
        (subst (λ b. x.place.offset < bytes_of_buffer c x.place.adapter b) (eqb-true x.place.buffer s.at.buffer names.1) lies)

stretches-fit : (c : Configuration) (cover : Place → Bool) (xs : List Cell) (front : Option Stretch) → AllByRecursion (LiesAt c) xs → IfSome front (CanBeStored c)
    → begun_length front + length xs ≤ MAX_STORE_BYTES → AllByRecursion (CanBeStored c) (stretches_of cover xs front)
stretches-fit c cover [] None lie begun few = record {}
stretches-fit c cover [] (Some s) lie begun few = (begun, record {})
stretches-fit c cover (x ∷ xs) front lie begun few = joined (CanBeStored c) (ended_before cover front x) (stretches_of cover xs (open_behind cover front x)) (ended front begun)
    (stretches-fit c cover xs (open_behind cover front x) lie.1 (grows front begun few (cover x.place)) (counts front few (cover x.place)))
  where
    ended : (front : Option Stretch) → IfSome front (CanBeStored c) → AllByRecursion (CanBeStored c) (ended_before cover front x)
    ended None begun = record {}
    ended (Some s) begun = by (cover x.place && goes_on s x)
      where
        by : (b : Bool) → AllByRecursion (CanBeStored c) (if b then [] else s ∷ [])
        by true = record {}
        by false = (begun, record {})

    grows : (front : Option Stretch) → IfSome front (CanBeStored c) → begun_length front + length (x ∷ xs) ≤ MAX_STORE_BYTES → (b : Bool) → IfSome (if b then Some (grown front x) else None) (CanBeStored c)
    grows front begun few false = record {}
    grows None begun few true = alone-stored c x lie.0
    grows (Some s) begun few true = by (goes_on s x) refl
      where
        by : (b : Bool) → goes_on s x ≡ b → CanBeStored c (if b then record s { bytes = s.bytes ++ x.byte ∷ [] } else record { at = x.place; bytes = x.byte ∷ [] })
        by true on = longer-stored c s x lie.0 begun on (omega (arith, few))
        by false off = alone-stored c x lie.0

    counts : (front : Option Stretch) → begun_length front + length (x ∷ xs) ≤ MAX_STORE_BYTES → (b : Bool) → begun_length (if b then Some (grown front x) else None) + length xs ≤ MAX_STORE_BYTES
    counts front few false = omega (arith, few)
    counts None few true = omega (arith, few)
    counts (Some s) few true = by (goes_on s x)
      where
        by : (b : Bool) → length (if b then record s { bytes = s.bytes ++ x.byte ∷ [] } else record { at = x.place; bytes = x.byte ∷ [] }).bytes + length xs ≤ MAX_STORE_BYTES
        by true = omega (arith, few, length-append s.bytes (x.byte ∷ []))
        by false = omega (arith, few)

-- ---- writes

-- a write lies in its buffers, and has few places
record IsSmall (c : Configuration) (x : Write) : Type 0 where
  lies : AreRunsIn c x.runs
  few : places_count x.runs ≤ MAX_STORE_BYTES

cells-from-lie : (c : Configuration) (a : Place) (n : ℕ) (bytes : List ℕ) → a.offset + n ≤ bytes_of_buffer c a.adapter a.buffer → AllByRecursion (LiesAt c) (cells_from a n bytes)
cells-from-lie c a zero bytes inside = record {}
cells-from-lie c a (suc n) bytes inside = (omega (arith, inside), cells-from-lie c (record a { offset = suc a.offset }) n (drop 1 bytes) (omega (arith, inside)))

cells-lie : (c : Configuration) (rs : List Run) (bytes : List ℕ) → AreRunsIn c rs → AllByRecursion (LiesAt c) (cells_of rs bytes)
cells-lie c [] bytes lie = record {}
cells-lie c (r ∷ rs) bytes lie = joined (LiesAt c) (cells_from (record { adapter = r.adapter; buffer = r.buffer; offset = r.offset }) r.length bytes) (cells_of rs (drop r.length bytes))
    (cells-from-lie c (record { adapter = r.adapter; buffer = r.buffer; offset = r.offset }) r.length bytes lie.0) (cells-lie c rs (drop r.length bytes) lie.1)

cells-from-count : (a : Place) (n : ℕ) (bytes : List ℕ) → length (cells_from a n bytes) ≡ n
cells-from-count a zero bytes = refl
cells-from-count a (suc n) bytes = ap suc (cells-from-count (record a { offset = suc a.offset }) n (drop 1 bytes))

cells-count : (rs : List Run) (bytes : List ℕ) → length (cells_of rs bytes) ≡ places_count rs
cells-count [] bytes = refl
cells-count (r ∷ rs) bytes = omega (
  arith,
  length-append (cells_from (record { adapter = r.adapter; buffer = r.buffer; offset = r.offset }) r.length bytes) (cells_of rs (drop r.length bytes)),
  cells-from-count (record { adapter = r.adapter; buffer = r.buffer; offset = r.offset }) r.length bytes,
  cells-count rs (drop r.length bytes),
  sum_by-cons (λ (r : Run). r.length) r rs,
)

write-fits : (c : Configuration) (cover : Place → Bool) (x : Write) → IsSmall c x → AllByRecursion (CanBeStored c) (stretches_of_write cover x)
write-fits c cover x small = stretches-fit c cover (cells_of x.runs x.bytes) None (cells-lie c x.runs x.bytes small.lies) (record {}) (omega (arith, small.few, cells-count x.runs x.bytes))

writes-fit : (c : Configuration) (cover : Place → Bool) (xs : List Write) → AllByRecursion (IsSmall c) xs → AllByRecursion (CanBeStored c) (flat_map (stretches_of_write cover) xs)
writes-fit c cover [] small = record {}
writes-fit c cover (x ∷ xs) small = joined (CanBeStored c) (stretches_of_write cover x) (flat_map (stretches_of_write cover) xs) (write-fits c cover x small.0) (writes-fit c cover xs small.1)

-- ---- marks

-- runs that are cut have no more places than they are cut to
few-cut : (skip count : ℕ) (rs : List Run) → places_count (cut skip count rs) ≤ count
few-cut skip count [] = omega arith
few-cut skip count (r ∷ rs) = by (nat_le r.length skip) (count == 0) (few-cut (skip - r.length) count rs) (few-cut 0 (count - (r.length - skip)) rs)
  where
    by : (b z : Bool) → places_count (cut (skip - r.length) count rs) ≤ count → places_count (cut 0 (count - (r.length - skip)) rs) ≤ count - (r.length - skip)
        → places_count (if b then cut (skip - r.length) count rs else if z then [] else run_part r skip (min count (r.length - skip)) ∷ cut 0 (count - (r.length - skip)) rs) ≤ count
    by true z rest more = rest
    by false true rest more = omega arith
    by false false rest more = omega (arith, more, sum_by-cons (λ (r : Run). r.length) (run_part r skip (min count (r.length - skip))) (cut 0 (count - (r.length - skip)) rs))

-- the grants in force lie in their buffers
abbrev pub LieGranted : Configuration → Grant → Type 0
LieGranted c g = AllByRecursion (LiesInBuffer c) g.runs

granted-small : (c : Configuration) (ask : Ask) (gs : List Grant) (n : ℕ) (bytes : List ℕ) → AllByRecursion (LieGranted c) gs → n ≤ MAX_STORE_BYTES → IsSmall c (record { runs = runs_for ask gs n; bytes = bytes })
granted-small c ask gs n bytes lie few = by (grant_for ask gs) (found gs lie)
  where
    found : (gs : List Grant) → AllByRecursion (LieGranted c) gs → IfSome (grant_for ask gs) (LieGranted c)
    found [] lie = record {}
    found (g ∷ gs) lie = at (fits ask g) (found gs lie.1)
      where
        at : (b : Bool) → IfSome (grant_for ask gs) (LieGranted c) → IfSome (if b then Some g else grant_for ask gs) (LieGranted c)
        at true rest = lie.0
        at false rest = rest

    by : (o : Option Grant) → IfSome o (LieGranted c) → IsSmall c (record { runs = option_map_or (λ g. runs_at g ask.address n) o []; bytes = bytes })
    by None lie = record { lies = record {}; few = omega arith }
    by (Some g) lie = record { lies = cut-in c (ask.address - g.address) n g.runs lie; few = omega (arith, few, few-cut (ask.address - g.address) n g.runs) }

access-small : (c : Configuration) (past : Past) (ask : Ask) (verdict : Verdict) → AllByRecursion (LieGranted c) past.grants → WritesFew verdict → AllByRecursion (IsSmall c) (writes_of_access past ask verdict)
access-small c past ask (verdicts.Denied denial) lie few = record {}
access-small c past ask (verdicts.Read bytes) lie few = record {}
access-small c past ask (verdicts.Wrote bytes) lie few = (granted-small c ask past.grants (length bytes) bytes lie few, record {})
access-small c past ask (verdicts.Swapped found put) lie few = (granted-small c ask past.grants ATOMIC_BYTES _ lie (omega arith), record {})

mark-small : (c : Configuration) (past : Past) (m : Mark) → AllByRecursion (LieGranted c) past.grants → IsBounded c m → AllByRecursion (IsSmall c) (writes_of past m)
mark-small c past (marks.Remote queue domain envelope key kind address count verdict) lie bounded = access-small c past (remote_ask queue domain key kind address count) verdict lie bounded
mark-small c past (marks.Local queue domain key kind address count verdict) lie bounded = access-small c past (local_ask queue domain key kind address count) verdict lie bounded
mark-small c past (marks.Stored place bytes) lie bounded = (record { lies = (bounded.1, record {}); few = omega (arith, bounded.0) }, record {})
mark-small c past (marks.Verb by verb answer) lie bounded = record {}
mark-small c past (marks.Granted g) lie bounded = record {}
mark-small c past (marks.Revoked adapter key) lie bounded = record {}
mark-small c past (marks.Sent source target index request bytes) lie bounded = record {}
mark-small c past (marks.Lost target index) lie bounded = record {}
mark-small c past (marks.Arrived target index) lie bounded = record {}
mark-small c past (marks.Dropped target cause) lie bounded = record {}
mark-small c past (marks.Timer queue silent) lie bounded = record {}
mark-small c past (marks.Done queue x cause) lie bounded = record {}

-- what a mark that keeps to the bounds grants lies in its buffers
bounded-lies : (c : Configuration) (m : Mark) → IsBounded c m → Grants (LieGranted c) m
bounded-lies c (marks.Granted g) bounded = bounded
bounded-lies c (marks.Remote queue domain envelope key kind address count verdict) bounded = record {}
bounded-lies c (marks.Local queue domain key kind address count verdict) bounded = record {}
bounded-lies c (marks.Stored place bytes) bounded = record {}
bounded-lies c (marks.Verb by verb answer) bounded = record {}
bounded-lies c (marks.Revoked adapter key) bounded = record {}
bounded-lies c (marks.Sent source target index request bytes) bounded = record {}
bounded-lies c (marks.Lost target index) bounded = record {}
bounded-lies c (marks.Arrived target index) bounded = record {}
bounded-lies c (marks.Dropped target cause) bounded = record {}
bounded-lies c (marks.Timer queue silent) bounded = record {}
bounded-lies c (marks.Done queue x cause) bounded = record {}

pub all-lie : (c : Configuration) (ms : List Mark) → AreBounded c ms → AllByRecursion (Grants (LieGranted c)) ms
all-lie c [] bounded = record {}
all-lie c (m ∷ ms) bounded = (bounded-lies c m bounded.0, all-lie c ms bounded.1)

-- the Stores in the place of what marks tell of as written can be done
pub marks-fit : (c : Configuration) (cover : Place → Bool) (ms : List Mark) (past : Past) → AllByRecursion (LieGranted c) past.grants → AreBounded c ms → AllByRecursion (CanBeStored c) (stretches_of_marks cover past ms)
marks-fit c cover [] past lie bounded = record {}
marks-fit c cover (m ∷ ms) past lie bounded = joined (CanBeStored c) (flat_map (stretches_of_write cover) (writes_of past m)) (stretches_of_marks cover (after_mark m past) ms)
    (writes-fit c cover (writes_of past m) (mark-small c past m lie bounded.0))
    (marks-fit c cover ms (after_mark m past) (mark-grants (LieGranted c) m past (bounded-lies c m bounded.0) lie) bounded.1)

-- ---- steps

-- the world after a stretch was stored
abbrev pub with_stored : List Stretch → World → World
with_stored ss w = record w { byte = memory_stored ss w.byte }

-- a buffer that has bytes is configured
there : (c : Configuration) (adapter buffer : ℕ) → 0 < bytes_of_buffer c adapter buffer → has_buffer c adapter buffer ≡ true
there c adapter buffer some = by (buffer_length c adapter buffer) some
  where
    by : (o : Option ℕ) → 0 < option_map_or (λ n. n) o 0 → is_some o ≡ true
    by None some = absurd (omega (arith, some))
    by (Some n) some = refl

-- the Store of a stretch is done
pub store-done : (c : Configuration) (w : World) (e : EntryValue) (s : Stretch) → CanBeStored c s → step c w (store_entry e s).event ≡ Did (with_stored (s ∷ []) w) (store_entry e s).marks
store-done c w e s can =
    ap (λ b. if b then (if some then refused else if past_end then refused' else done) else absent) (there c s.at.adapter s.at.buffer (omega (arith, can.some, can.inside)))
    ∙ ap (λ b. if b then refused else if past_end then refused' else done) some-few
    ∙ ap (λ b. if b then refused' else done) inside
  where
    some : Bool
    some = (length s.bytes == 0) || nat_lt MAX_STORE_BYTES (length s.bytes)

    past_end : Bool
    past_end = nat_lt (bytes_of_buffer c s.at.adapter s.at.buffer) (s.at.offset + length s.bytes)

    refused : Outcome
    refused = Did w (marks.Verb 0 (store_of s) (answers.Refused (OutOfRange fields.Length)) ∷ [])

    refused' : Outcome
    refused' = Did w (marks.Verb 0 (store_of s) (answers.Refused OutsideBuffer) ∷ [])

    absent : Outcome
    absent = Did w (marks.Verb 0 (store_of s) (answers.Refused NoSuch) ∷ [])

    done : Outcome
    done = Did (with_stored (s ∷ []) w) (store_entry e s).marks

    some-few : some ≡ false
    some-few = by (length s.bytes == 0) refl (nat_lt MAX_STORE_BYTES (length s.bytes)) refl
      where
        by : (a : Bool) → (length s.bytes == 0) ≡ a → (b : Bool) → nat_lt MAX_STORE_BYTES (length s.bytes) ≡ b → (a || b) ≡ false
        by true none b many = absurd (omega (arith, can.some, eqb-true (length s.bytes) 0 none))
        by false none true many = absurd (omega (arith, can.few, ltb-true MAX_STORE_BYTES (length s.bytes) many))
        by false none false many = refl

    inside : past_end ≡ false
    inside = le-ltb (bytes_of_buffer c s.at.adapter s.at.buffer) (s.at.offset + length s.bytes) can.inside

-- Stores run, before what comes after them
pub stores-run : (c : Configuration) (e : EntryValue) (ss : List Stretch) (n : ℕ) (w : World) (rest : List EntryValue)
    → AllByRecursion (CanBeStored c) ss → ((n : ℕ) → run_from c n (with_stored ss w) (map (λ e. e.event) rest) ≡ Ok (map (λ e. e.marks) rest))
    → run_from c n w (map (λ e. e.event) (map (store_entry e) ss ++ rest)) ≡ Ok (map (λ e. e.marks) (map (store_entry e) ss ++ rest))
stores-run c e [] n w rest can more = more n
stores-run c e (s ∷ ss) n w rest can more =
    ap (λ o. go_on n o (λ v. run_from c (suc n) v (map (λ e. e.event) (map (store_entry e) ss ++ rest)))) (store-done c w e s can.0)
    ∙ ap (with_marks (store_entry e s).marks) (stores-run c e ss (suc n) (with_stored (s ∷ []) w) rest can.1 more)
