-- Bounds of what a mark tells of: how many bytes are written at once, and where those of grants lie. Laws cite it.
use Rattle.std.specs.Prelude.{◌+◌, ◌≤◌, List, length}
use Rattle.std.specs.List.{AllByRecursion}
use Rattle.ca_base.specs.Configuration.{Configuration}
use Rattle.ca_base.specs.declared.limits.TheConstants.{MAX_STORE_BYTES}
use Rattle.ca_keys.specs.declared.place.Run.{Run}
use Rattle.ca_keys.specs.declared.verdict.Verdict.{Verdict}
use Rattle.ca_keys.specs.declared.verdict.Verdict.TheVariants as verdicts
use Rattle.ca_model.specs.declared.mark.Mark.{Mark}
use Rattle.ca_model.specs.declared.mark.Mark.TheVariants as marks
use Rattle.ca_model.specs.machine.Step.{bytes_of_buffer, run_of}

-- a run lies in its buffer
abbrev pub LiesInBuffer : Configuration → Run → Type 0
LiesInBuffer c r = r.offset + r.length ≤ bytes_of_buffer c r.adapter r.buffer

-- an access writes no more bytes than a Store may have
abbrev pub WritesFew : Verdict → Type 0
WritesFew (verdicts.Wrote bytes) = length bytes ≤ MAX_STORE_BYTES
WritesFew verdict = Unit {0}

-- What a mark tells of as written has no more bytes than a Store may have, and what it tells of as stored or granted
-- lies in its buffers. The eight bytes of an atomic are as many as they are.
abbrev pub IsBounded : Configuration → Mark → Type 0
IsBounded c (marks.Granted g) = AllByRecursion (LiesInBuffer c) g.runs
IsBounded c (marks.Remote queue domain envelope key kind address count verdict) = WritesFew verdict
IsBounded c (marks.Local queue domain key kind address count verdict) = WritesFew verdict
IsBounded c (marks.Stored place bytes) =
    (length bytes ≤ MAX_STORE_BYTES)
    × LiesInBuffer c (run_of place.adapter place.buffer place.offset (length bytes))
IsBounded c mark = Unit {0}

-- all marks keep to these bounds
abbrev pub AreBounded : Configuration → List Mark → Type 0
AreBounded c ms = AllByRecursion (IsBounded c) ms
