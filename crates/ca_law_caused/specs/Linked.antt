-- What a clean connection tells of the completions of its queue pairs: of a refused request what befell the peer, and
-- that no answer misfits. Laws cite it.
use Rattle.std.specs.Prelude.{Bool, true, not, IsTrue, List}
use Rattle.ca_base.specs.declared.completion.Completion.{Completion}
use Rattle.ca_base.specs.declared.completion.WcStatus.{WcStatus}
use Rattle.ca_base.specs.declared.completion.WcStatus.TheVariants as statuses
use Rattle.ca_keys.specs.Memory.{ByteMap}
use Rattle.ca_model.specs.Caused.{is_peers_if_clean, makes_access_error, makes_invalid, makes_operational_error}
use Rattle.ca_model.specs.Entries.{EntryValue}
use Rattle.ca_model.specs.Once.{is_clean}
use Rattle.ca_model.specs.Past.{Past, each_entry, opening_past, present_incarnation}
use Rattle.ca_model.specs.declared.mark.Mark.{Mark}
use Rattle.ca_model.specs.declared.mark.Mark.TheVariants as marks

-- where a request was refused, the connection is not clean so far, or the peer had a reason
abbrev pub has_peers_reason : Past → Completion → WcStatus → Bool
has_peers_reason past c statuses.RemoteInvalidRequest = is_peers_if_clean makes_invalid past c.queue
has_peers_reason past c statuses.RemoteAccess = is_peers_if_clean makes_access_error past c.queue
has_peers_reason past c statuses.RemoteOperation = is_peers_if_clean makes_operational_error past c.queue
has_peers_reason past c status = true

-- where a response did not fit its request, the connection is not clean so far
abbrev pub has_misfit_unclean : Past → Completion → WcStatus → Bool
has_misfit_unclean past c statuses.BadResponse = not (is_clean past (present_incarnation past c.queue))
has_misfit_unclean past c status = true

-- a completion passes a test, by its status
abbrev pub completes_so : (Past → Completion → WcStatus → Bool) → Past → Mark → Bool
completes_so test past (marks.Done queue completion cause) = test past completion completion.status
completes_so test past mark = true

-- each completion of a history does, over these bytes
abbrev pub DoCompleteSo : (Past → Completion → WcStatus → Bool) → ByteMap → List EntryValue → Type 0
DoCompleteSo test bytes es = IsTrue (each_entry (completes_so test) (λ past. true) (opening_past bytes) es)
