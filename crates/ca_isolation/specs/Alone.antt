-- The lone run of a group: its events as they are, and for each write of another event the Stores that put into covered
-- bytes what it put there. Contracts cite it.
use Rattle.std.specs.Prelude.{◌≡◌, ℕ, zero, suc, ◌+◌, ◌==◌, ◌&&◌, Bool, true, if◌then◌else◌, List, [], ◌∷◌, ◌++◌, drop, length, map, slice_index_or, Option, None, Some}
use Rattle.std.specs.List.{flat_map}
use Rattle.ca_base.specs.Configuration.{Configuration}
use Rattle.ca_base.specs.declared.limits.TheConstants.{ATOMIC_BYTES}
use Rattle.ca_keys.specs.Memory.{ByteMap, little_endian_bytes, memory_after, runs_for}
use Rattle.ca_keys.specs.declared.access.Ask.{Ask}
use Rattle.ca_keys.specs.declared.place.Place.{Place}
use Rattle.ca_keys.specs.declared.place.Run.{Run}
use Rattle.ca_keys.specs.declared.verdict.Verdict.{Verdict}
use Rattle.ca_keys.specs.declared.verdict.Verdict.TheVariants as verdicts
use Rattle.ca_model.specs.Entries.{EntryValue}
use Rattle.ca_model.specs.Past.{Past, after_entry, after_mark, at_begin, local_ask, opening_past, remote_ask}
use Rattle.ca_model.specs.declared.answer.Answer.TheVariants as answers
use Rattle.ca_model.specs.declared.event.Event.{Event}
use Rattle.ca_model.specs.declared.event.Event.TheVariants as events
use Rattle.ca_model.specs.declared.mark.Mark.{Mark}
use Rattle.ca_model.specs.declared.mark.Mark.TheVariants as marks
use Rattle.ca_model.specs.declared.verb.Verb.{Verb}
use Rattle.ca_model.specs.declared.verb.Verb.TheVariants as verbs
use Rattle.ca_model.specs.machine.Plan.{Write}
use Rattle.ca_model.specs.machine.Run.{Follows}
use Rattle.ca_isolation.specs.Groups.{Group, covered, is_closed, is_of}
use Rattle.ca_isolation.specs.declared.stretch.Stretch.{Stretch}

-- a byte that is written, and its place
pub record Cell : Type 0 where
  pub place : Place
  pub byte : ℕ

-- the cells of so many places from one on, with the bytes in order, and 0 where there are no more
abbrev pub cells_from : Place → ℕ → List ℕ → List Cell
cells_from p zero bytes = []
cells_from p (suc n) bytes =
    record { place = p; byte = slice_index_or bytes 0 0 }
    ∷ cells_from (record p { offset = suc p.offset }) n (drop 1 bytes)

-- a write, byte by byte in order
abbrev pub cells_of : List Run → List ℕ → List Cell
cells_of [] bytes = []
cells_of (r ∷ rs) bytes =
    cells_from (record { adapter = r.adapter; buffer = r.buffer; offset = r.offset }) r.length bytes
    ++ cells_of rs (drop r.length bytes)

-- the run of a stretch's places
abbrev pub run_of_stretch : Stretch → Run
run_of_stretch s =
    record { adapter = s.at.adapter; buffer = s.at.buffer; offset = s.at.offset; length = length s.bytes }

-- a cell stands right behind a stretch, in its buffer
abbrev pub goes_on : Stretch → Cell → Bool
goes_on s x =
    (x.place.adapter == s.at.adapter) && (x.place.buffer == s.at.buffer)
    && (x.place.offset == s.at.offset + length s.bytes)

-- a stretch with a cell behind it, or of that cell alone
abbrev pub grown : Option Stretch → Cell → Stretch
grown None x = record { at = x.place; bytes = x.byte ∷ [] }
grown (Some s) x =
    if goes_on s x then record s { bytes = s.bytes ++ x.byte ∷ [] } else record { at = x.place; bytes = x.byte ∷ [] }

-- the stretch that is open behind a cell
abbrev pub open_behind : (Place → Bool) → Option Stretch → Cell → Option Stretch
open_behind cover front x = if cover x.place then Some (grown front x) else None

-- the stretch that ends before a cell
abbrev pub ended_before : (Place → Bool) → Option Stretch → Cell → List Stretch
ended_before cover None x = []
ended_before cover (Some s) x = if cover x.place && goes_on s x then [] else s ∷ []

-- The longest stretches of covered bytes among these cells, in order, behind one that is open. A stretch ends at a byte
-- that is not covered, and where the next byte does not stand right behind it.
abbrev pub stretches_of : (Place → Bool) → List Cell → Option Stretch → List Stretch
stretches_of cover [] None = []
stretches_of cover [] (Some s) = s ∷ []
stretches_of cover (x ∷ xs) front = ended_before cover front x ++ stretches_of cover xs (open_behind cover front x)

-- the stretches of covered bytes of a write
abbrev pub stretches_of_write : (Place → Bool) → Write → List Stretch
stretches_of_write cover x = stretches_of cover (cells_of x.runs x.bytes) None

-- memory after each stretch was put in its place, in order
abbrev pub memory_stored : List Stretch → ByteMap → ByteMap
memory_stored [] m = m
memory_stored (s ∷ ss) m = memory_stored ss (memory_after m (run_of_stretch s ∷ []) s.bytes)

-- what an access wrote, at the places of the grant that its ask goes by
abbrev pub writes_of_access : Past → Ask → Verdict → List Write
writes_of_access past ask (verdicts.Wrote bytes) =
    record { runs = runs_for ask past.grants (length bytes); bytes = bytes } ∷ []
writes_of_access past ask (verdicts.Swapped found put) =
    record { runs = runs_for ask past.grants ATOMIC_BYTES; bytes = little_endian_bytes put } ∷ []
writes_of_access past ask verdict = []

-- what a mark tells of as written, given what the marks before it have left
abbrev pub writes_of : Past → Mark → List Write
writes_of past (marks.Remote queue domain envelope key kind address length verdict) =
    writes_of_access past (remote_ask queue domain key kind address length) verdict
writes_of past (marks.Local queue domain key kind address length verdict) =
    writes_of_access past (local_ask queue domain key kind address length) verdict
writes_of past (marks.Stored place bytes) =
    record { runs = run_of_stretch (record { at = place; bytes = bytes }) ∷ []; bytes = bytes } ∷ []
writes_of past mark = []

-- the Store of a stretch, by consumer 0
abbrev pub store_of : Stretch → Verb
store_of s = verbs.Store s.at.adapter s.at.buffer s.at.offset s.bytes

-- the event of that Store
abbrev pub store_event : Stretch → Event
store_event s = events.Verb 0 (store_of s)

-- the entry of that Store, in the place of another event's
abbrev pub store_entry : EntryValue → Stretch → EntryValue
store_entry e s = record e {
  event = store_event s;
  marks = marks.Verb 0 (store_of s) answers.Fine ∷ marks.Stored s.at s.bytes ∷ [];
}

-- the Stores in the place of what marks tell of as written
abbrev pub stretches_of_marks : (Place → Bool) → Past → List Mark → List Stretch
stretches_of_marks cover past [] = []
stretches_of_marks cover past (m ∷ ms) =
    flat_map (stretches_of_write cover) (writes_of past m) ++ stretches_of_marks cover (after_mark m past) ms

-- what stands in the lone list in the place of an entry: itself, where it is of the group, and else its Stores
abbrev pub entries_instead : Group → (Place → Bool) → Past → EntryValue → List EntryValue
entries_instead group cover past e =
    if is_of group e.event then e ∷ []
    else map (store_entry e) (stretches_of_marks cover (at_begin e.event past) e.marks)

-- the same for entries in order
abbrev pub alone_from : Group → (Place → Bool) → Past → List EntryValue → List EntryValue
alone_from group cover past [] = []
alone_from group cover past (e ∷ es) =
    entries_instead group cover past e ++ alone_from group cover (after_entry e past) es

-- the entries of the lone run of a group, beside a history over these bytes
abbrev pub alone_entries : Group → ByteMap → List EntryValue → List EntryValue
alone_entries group bytes es = alone_from group (covered group es) (opening_past bytes) es

-- the events of that run
abbrev pub alone_events : Group → ByteMap → List EntryValue → List Event
alone_events group bytes es = map (λ e. e.event) (alone_entries group bytes es)

-- the bytes over which it goes: those of covered places, and else 0
abbrev pub alone_bytes : Group → ByteMap → List EntryValue → ByteMap
alone_bytes group bytes es p = if covered group es p then bytes p else 0

-- the group's events have in the lone run the marks that they have in the history
abbrev pub IsIsolated : Configuration → ByteMap → Group → List EntryValue → Type 0
IsIsolated c bytes group es = Follows c (alone_bytes group bytes es) (alone_entries group bytes es)

-- so it is for each closed group
abbrev pub Isolated : Configuration → ByteMap → List EntryValue → Type 0
Isolated c bytes es = (group : Group) → is_closed group es ≡ true → IsIsolated c bytes group es
