-- What a read and a write do to the bytes of the outside, and how faults are counted. Contracts cite all of it.
use Rattle.std.specs.Prelude.{◌≡◌, ◌+◌, ◌-◌, ◌^◌, ◌<◌, ◌≤◌, ◌⊎◌, ℕ, min, ◌==◌, ◌&&◌, nat_lt, Bool, List, length, take, Option, Result, OnErr, OnOk}
use Rattle.std.specs.List.{list_any}
use Rattle.std.specs.Io.KnownBytes.{Consumes, Appends}

-- The end of the type of counts.
abbrev pub last_count : ℕ
last_count = 2 ^ 64 - 1

-- One more, or the end of the type.
abbrev pub next_count : ℕ → ℕ
next_count count = min (count + 1) last_count

-- A count grew in a call, or it stands at the end of its type and stays.
abbrev pub Rose : ℕ → ℕ → Type 0
Rose before now = (before < now) ⊎ ((before ≡ last_count) × (now ≡ last_count))

-- A call fails only where the count of faults rose in it, and one that ends well leaves the count; it never falls.
pub record HasCause {T E : Type 0} (before now : ℕ) (result : Result T E) : Type 0 where
  pub never_falls : before ≤ now
  pub failed : OnErr result (Rose before now)
  pub kept : OnOk result (now ≡ before)

-- The call of this number is one of those that fail.
abbrev pub is_failing_call : List ℕ → ℕ → Bool
is_failing_call numbers call = list_any (λ number. number == call) numbers

-- The room is full, and the piece is not empty.
abbrev pub is_full_for : List ℕ → ℕ → List ℕ → Bool
is_full_for held room piece = (length held == room) && nat_lt 0 (length piece)

-- What contracts see of a source in memory whose calls may fail: the bytes left, the numbers of the calls that fail,
-- the number of the next call, and the count of faults.
pub record MemorySourceView : Type 0 where
  pub left : List ℕ
  pub fail : List ℕ
  pub call : ℕ
  pub faults : ℕ

-- What contracts see of a sink in memory: the bytes that it took, its room in bytes, and the count of faults.
pub record SureSinkView : Type 0 where
  pub held : List ℕ
  pub room : ℕ
  pub faults : ℕ

-- The same of one whose calls may fail, with the numbers of the calls that fail, the number of the next call, and
-- the most bytes of one call.
pub record MemorySinkView : Type 0 where
  pub held : List ℕ
  pub room : ℕ
  pub faults : ℕ
  pub fail : List ℕ
  pub call : ℕ
  pub most : ℕ

-- What contracts see of the edge to a reader or a writer of std: the bytes that the reader has left or that the writer
-- holds, where those are known, and the count of faults.
pub record EdgeView : Type 0 where
  pub known : Option (List ℕ)
  pub faults : ℕ

-- Where the source told what was left, it lost a front of at most this many bytes, and tells the rest.
abbrev pub LosesAtMost : ℕ → Option (List ℕ) → Option (List ℕ) → Type 0
LosesAtMost most before now = (front : List ℕ) × (length front ≤ most) × Consumes before now front

-- Where the sink told what it held, it holds that and behind it the first of these bytes, or none, and not all.
abbrev pub AppendsPart : Option (List ℕ) → Option (List ℕ) → List ℕ → Type 0
AppendsPart before now bytes = (n : ℕ) × (n < length bytes) × Appends before now (take n bytes)
