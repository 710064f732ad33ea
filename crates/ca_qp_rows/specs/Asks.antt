-- Asks of a row: which may be handed on, what they touch, and the marks of what was read and written by them. Contracts
-- cite it.
use Rattle.std.specs.Prelude.{◌≡◌, ℕ, ◌+◌, ◌≤◌, List, [], ◌∷◌, ◌++◌, None, length}
use Rattle.std.specs.List.{AllByRecursion}
use Rattle.ca_keys.specs.declared.access.Ask.{Ask}
use Rattle.ca_keys.specs.declared.access.Kind.{Kind}
use Rattle.ca_keys.specs.declared.access.Kind.TheVariants as kinds
use Rattle.ca_keys.specs.declared.place.Span.{Span}
use Rattle.ca_keys.specs.declared.verdict.Verdict.{Verdict}
use Rattle.ca_keys.specs.declared.verdict.Verdict.TheVariants as verdicts
use Rattle.ca_base.specs.Sight.{Invalidation, Sight, bytes_in, denial_in}
use Rattle.ca_grant.specs.Reaching.{IsFound, IsPacketAsk}
use Rattle.ca_qpstate.specs.ca_model.declared.mark.Mark.{Mark}
use Rattle.ca_qpstate.specs.ca_model.declared.mark.Mark.TheVariants as marks

-- an ask of this kind that may be handed on
abbrev pub IsAskOf : Kind → Ask → Type 0
IsAskOf kind ask = IsPacketAsk ask × (ask.kind ≡ kind)

-- the ask is allowed
abbrev pub IsGranted : Sight → Ask → Type 0
IsGranted s ask = denial_in s ask ≡ None

-- this was found of the first of some asks
abbrev pub IsFoundFirst : Sight → List Ask → Span → Type 0
IsFoundFirst s [] span = ⊥
IsFoundFirst s (ask ∷ asks) span = IsFound s ask span

-- the bytes that the ask touches are at hand, if it is allowed
abbrev pub AreBytesAtHand : Sight → (Ask → Type 0) → Ask → Type 0
AreBytesAtHand s touches ask = denial_in s ask ≡ None → touches ask

-- how many bytes asks touch
abbrev pub touched_by : List Ask → ℕ
touched_by [] = 0
touched_by (ask ∷ asks) = ask.touch + touched_by asks

-- each ask with the bytes that it touches
abbrev pub reads_by : Sight → List Ask → List (Ask × List ℕ)
reads_by s [] = []
reads_by s (ask ∷ asks) = (ask, bytes_in s ask) ∷ reads_by s asks

-- asks that may be judged: the parts of their keys are at hand
pub record CanJudge {S : Type 0} (judges : S → Ask → Type 0) (reach : S) (asks : List Ask) : Type 0 where
  pub keys : AllByRecursion (judges reach) asks
  pub packet : AllByRecursion IsPacketAsk asks

-- asks of one kind that may be handed on, and touch at most so many bytes together
pub record AreAsksFor (kind : Kind) (most : ℕ) (asks : List Ask) : Type 0 where
  pub each : AllByRecursion (IsAskOf kind) asks
  pub touched : touched_by asks ≤ most

-- the bytes of accesses, one after another
abbrev pub payload_of : List (Ask × List ℕ) → List ℕ
payload_of [] = []
payload_of (x ∷ xs) = x.1 ++ payload_of xs

-- the mark of a use of an L_Key
abbrev pub mark_of : Ask → Verdict → Mark
mark_of ask verdict = marks.Local ask.queue ask.domain ask.key ask.kind ask.address ask.length verdict

-- the marks of pieces that were read
abbrev pub read_marks : List (Ask × List ℕ) → List Mark
read_marks [] = []
read_marks (x ∷ xs) = mark_of x.0 (verdicts.Read x.1) ∷ read_marks xs

-- the bytes of a mark of what was read by an L_Key
abbrev pub read_in : Mark → List ℕ
read_in (marks.Local queue domain key kind address count (verdicts.Read bytes)) = bytes
read_in mark = []

-- the bytes of marks of what was read, one after another
abbrev pub bytes_read : List Mark → List ℕ
bytes_read [] = []
bytes_read (m ∷ ms) = read_in m ++ bytes_read ms

-- an access by an ask that may be handed on for writing, with as many bytes as it touches
pub record IsWrite (x : Ask × List ℕ) : Type 0 where
  pub ask : IsAskOf kinds.Write x.0
  pub count : length x.1 ≡ x.0.touch

-- accesses that write: the parts of their keys and their bytes are at hand, and none is denied
abbrev pub CanWrite : {S : Type 0} (sight : S → Sight) (judges touches : S → Ask → Type 0) (s : S) → List (Ask × List ℕ) → Type 0
CanWrite sight judges touches s [] = Unit {0}
CanWrite sight judges touches s (x ∷ xs) =
    (judges s x.0 × touches s x.0 × IsGranted (sight s) x.0 × IsWrite x) × CanWrite sight judges touches s xs

-- what is known of the keys that may end stays as it was
pub record KeepsKeys {S : Type 0} (sight : S → Sight) (may_end : S → Invalidation → Type 0) (before after : S) : Type 0 where
  pub ends : (i : Invalidation) → may_end before i → may_end after i
  pub refusal : (i : Invalidation) → (sight after).refusal i ≡ (sight before).refusal i
