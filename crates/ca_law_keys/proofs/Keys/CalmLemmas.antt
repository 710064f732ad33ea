-- Marks that write no byte and tell of no key: plain ones, and those of accesses that were read or denied. For proofs only.
use Rattle.std.proofs.Common.{◌≡◌, ℕ, Bool, true, false, if◌then◌else◌, List, [], ◌∷◌, ◌++◌, None, refl}
use Rattle.ca_law_keys.proofs.Keys.PlainLemmas.{ArePlainMarks, IsPlainEffects, IsPlainMark, failure-plain}
use Rattle.ca_base.specs.declared.completion.WcStatus.TheVariants.{LocalProtection}
use Rattle.ca_base.specs.declared.denied_ask.DeniedAsk.{DeniedAsk}
use Rattle.ca_base.specs.objects.QueuePair.{QueuePair}
use Rattle.ca_keys.specs.declared.access.Ask.{Ask}
use Rattle.ca_keys.specs.declared.verdict.Verdict.{Verdict}
use Rattle.ca_keys.specs.declared.verdict.Verdict.TheVariants as verdicts
use Rattle.ca_model.specs.declared.mark.Mark.{Mark}
use Rattle.ca_model.specs.declared.mark.Mark.TheVariants as marks
use Rattle.ca_model.specs.machine.Acknowledgements.{and_then, failure_effects}
use Rattle.ca_model.specs.machine.Expected.{with_shared_receive}
use Rattle.ca_model.specs.machine.Requester.{local_denial, local_reads}
use Rattle.ca_model.specs.machine.Row.{Effects}

-- a verdict that writes nothing
abbrev pub IsCalmVerdict : Verdict → Type 0
IsCalmVerdict (verdicts.Denied denial) = Unit {0}
IsCalmVerdict (verdicts.Read bytes) = Unit {0}
IsCalmVerdict (verdicts.Wrote bytes) = ⊥
IsCalmVerdict (verdicts.Swapped found put) = ⊥

-- a mark that tells of no byte and of no key: no answer, nothing written, granted or revoked
abbrev pub IsCalmMark : Mark → Type 0
IsCalmMark (marks.Verb by verb answer) = ⊥
IsCalmMark (marks.Granted g) = ⊥
IsCalmMark (marks.Revoked adapter key) = ⊥
IsCalmMark (marks.Stored place bytes) = ⊥
IsCalmMark (marks.Remote queue domain envelope key kind address count verdict) = IsCalmVerdict verdict
IsCalmMark (marks.Local queue domain key kind address count verdict) = IsCalmVerdict verdict
IsCalmMark m = Unit {0}

abbrev pub AreCalm : List Mark → Type 0
AreCalm [] = Unit {0}
AreCalm (m ∷ ms) = IsCalmMark m × AreCalm ms

-- effects with such marks, which write nothing
pub record IsCalm (e : Effects) : Type 0 where
  pub writes : e.writes ≡ []
  pub marks : AreCalm e.marks

calm-one : (m : Mark) → IsPlainMark m → IsCalmMark m
calm-one (marks.Verb by verb answer) plain = plain
calm-one (marks.Granted g) plain = plain
calm-one (marks.Revoked adapter key) plain = plain
calm-one (marks.Stored place bytes) plain = plain
calm-one (marks.Remote queue domain envelope key kind address count verdict) plain = absurd plain
calm-one (marks.Local queue domain key kind address count verdict) plain = absurd plain
calm-one (marks.Sent source target index request bytes) plain = plain
calm-one (marks.Lost target index) plain = plain
calm-one (marks.Arrived target index) plain = plain
calm-one (marks.Dropped target cause) plain = plain
calm-one (marks.Timer queue silent) plain = plain
calm-one (marks.Done queue x cause) plain = plain

-- plain marks, and effects with such marks, are calm
pub marks-calm : (ms : List Mark) → ArePlainMarks ms → AreCalm ms
marks-calm [] plain = plain
marks-calm (m ∷ ms) plain = (calm-one m plain.0, marks-calm ms plain.1)

pub plain-calm : (e : Effects) → IsPlainEffects e → IsCalm e
plain-calm e plain = record { writes = plain.writes; marks = marks-calm e.marks plain.marks }

calm-append : (ms ns : List Mark) → AreCalm ms → AreCalm ns → AreCalm (ms ++ ns)
calm-append [] ns one other = other
calm-append (m ∷ ms) ns one other = (one.0, calm-append ms ns one.1 other)

pub calm-then : (e : Effects) (f : QueuePair → Effects) → IsCalm e → IsCalm (f e.queue) → IsCalm (and_then e f)
calm-then e f one other = record { writes = other.writes; marks = calm-append e.marks (f e.queue).marks one.marks other.marks }

pub took-calm : (p : QueuePair) (b : Bool) (e : Effects) → IsCalm e → IsCalm (if b then with_shared_receive p e else e)
took-calm p true e inner = record { writes = inner.writes; marks = inner.marks }
took-calm p false e inner = inner

pub reads-calm : (asks : List Ask) (bytes : List (List ℕ)) → AreCalm (local_reads asks bytes)
reads-calm [] bytes = record {}
reads-calm (ask ∷ asks) [] = record {}
reads-calm (ask ∷ asks) (b ∷ bs) = (record {}, reads-calm asks bs)

-- the list was denied, and the request fails
pub denied-calm : (q : QueuePair) (d : DeniedAsk) → IsCalm (record (failure_effects LocalProtection None q) { marks = local_denial d ∷ (failure_effects LocalProtection None q).marks })
denied-calm q d = record { writes = refl; marks = (record {}, marks-calm (failure_effects LocalProtection None q).marks (failure-plain LocalProtection None q).marks) }
