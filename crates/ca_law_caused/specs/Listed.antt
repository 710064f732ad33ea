-- Causes of receives that fail by their lists, and what is left of Caused beside them: whose connection is clean. Laws cite
-- it.
use Rattle.std.specs.Prelude.{Bool, true, not, if◌then◌else◌, IsTrue, List}
use Rattle.ca_base.specs.declared.completion.Completion.{Completion}
use Rattle.ca_base.specs.declared.completion.WcStatus.{WcStatus}
use Rattle.ca_base.specs.declared.completion.WcStatus.TheVariants as statuses
use Rattle.ca_keys.specs.Memory.{ByteMap}
use Rattle.ca_model.specs.Caused.{is_denied_list, is_longer_than_list, is_peers_if_clean, makes_access_error, makes_invalid, makes_operational_error}
use Rattle.ca_model.specs.Entries.{EntryValue}
use Rattle.ca_model.specs.Once.{is_clean}
use Rattle.ca_model.specs.Past.{Past, each_entry, opening_past, present_incarnation}
use Rattle.ca_model.specs.declared.mark.Mark.{Mark}
use Rattle.ca_model.specs.declared.mark.Mark.TheVariants as marks

-- the cause of each status that speaks of the list of a receive
abbrev pub has_list_cause : Past → Completion → WcStatus → Bool
has_list_cause past c statuses.LocalLength = is_longer_than_list past c
has_list_cause past c statuses.LocalProtection = if c.receive then is_denied_list past c else true
has_list_cause past c status = true

abbrev pub completes_by_list : Past → Mark → Bool
completes_by_list past (marks.Done queue completion cause) = has_list_cause past completion completion.status
completes_by_list past mark = true

-- each completion of a history has it, over these bytes
abbrev pub DoCompleteByLists : ByteMap → List EntryValue → Type 0
DoCompleteByLists bytes es = IsTrue (each_entry completes_by_list (λ past. true) (opening_past bytes) es)

-- the cause of each status that speaks of the link: on a clean connection what befell the peer
abbrev pub has_link_cause : Past → Completion → WcStatus → Bool
has_link_cause past c statuses.RemoteInvalidRequest = is_peers_if_clean makes_invalid past c.queue
has_link_cause past c statuses.RemoteAccess = is_peers_if_clean makes_access_error past c.queue
has_link_cause past c statuses.RemoteOperation = is_peers_if_clean makes_operational_error past c.queue
has_link_cause past c statuses.BadResponse = not (is_clean past (present_incarnation past c.queue))
has_link_cause past c status = true

abbrev pub completes_by_link : Past → Mark → Bool
completes_by_link past (marks.Done queue completion cause) = has_link_cause past completion completion.status
completes_by_link past mark = true

-- each completion of a history has it, over these bytes
abbrev pub DoHaveTheLink : ByteMap → List EntryValue → Type 0
DoHaveTheLink bytes es = IsTrue (each_entry completes_by_link (λ past. true) (opening_past bytes) es)
