-- What is left of Caused beside the causes that are told without the link: whose connection is clean, and the lists of
-- receives. Laws cite it.
use Rattle.std.specs.Prelude.{Bool, true, not, if◌then◌else◌, IsTrue, List}
use Rattle.ca_base.specs.declared.completion.Completion.{Completion}
use Rattle.ca_base.specs.declared.completion.WcStatus.{WcStatus}
use Rattle.ca_base.specs.declared.completion.WcStatus.TheVariants as statuses
use Rattle.ca_keys.specs.Memory.{ByteMap}
use Rattle.ca_model.specs.Caused.{is_denied_list, is_longer_than_list, is_peers_if_clean, makes_access_error, makes_invalid, makes_operational_error}
use Rattle.ca_model.specs.Entries.{EntryValue}
use Rattle.ca_model.specs.Once.{is_clean}
use Rattle.ca_model.specs.Past.{Past, each_entry, opening_past, present_incarnation}
use Rattle.ca_model.specs.declared.mark.Mark.{Mark}
use Rattle.ca_model.specs.declared.mark.Mark.TheVariants as marks

-- the rest of the cause of each status: of a receive its list, and on a clean connection what befell the peer
abbrev pub has_rest_of_cause : Past → Completion → WcStatus → Bool
has_rest_of_cause past c statuses.LocalLength = is_longer_than_list past c
has_rest_of_cause past c statuses.LocalProtection = if c.receive then is_denied_list past c else true
has_rest_of_cause past c statuses.RemoteInvalidRequest = is_peers_if_clean makes_invalid past c.queue
has_rest_of_cause past c statuses.RemoteAccess = is_peers_if_clean makes_access_error past c.queue
has_rest_of_cause past c statuses.RemoteOperation = is_peers_if_clean makes_operational_error past c.queue
has_rest_of_cause past c statuses.BadResponse = not (is_clean past (present_incarnation past c.queue))
has_rest_of_cause past c status = true

-- a completion has the rest of its cause
abbrev pub completes_with_rest : Past → Mark → Bool
completes_with_rest past (marks.Done queue completion cause) = has_rest_of_cause past completion completion.status
completes_with_rest past mark = true

-- each completion of a history does so, over these bytes
abbrev pub DoHaveTheRest : ByteMap → List EntryValue → Type 0
DoHaveTheRest bytes es = IsTrue (each_entry completes_with_rest (λ past. true) (opening_past bytes) es)
