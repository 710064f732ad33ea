-- Causes of completions: the part of Caused that is told of each status without the link between two queue pairs. Laws
-- cite it.
use Rattle.std.specs.Prelude.{suc, ◌==◌, ◌&&◌, nat_lt, Bool, true, false, not, if◌then◌else◌, IsTrue, List, Option}
use Rattle.std.specs.List.{list_any}
use Rattle.std.specs.Option.{option_map_or}
use Rattle.ca_base.specs.declared.limits.TheConstants.{MAX_RETRY}
use Rattle.ca_wire.specs.declared.syndrome.NakCode.TheVariants.{InvalidRequest, RemoteAccessError, RemoteOperationalError}
use Rattle.ca_model.specs.Progress.{Response, Answers}
use Rattle.ca_base.specs.declared.completion.Completion.{Completion}
use Rattle.ca_base.specs.declared.completion.WcStatus.{WcStatus}
use Rattle.ca_base.specs.declared.completion.WcStatus.TheVariants as statuses
use Rattle.ca_base.specs.declared.refusals.OpRefusal.{OpRefusal}
use Rattle.ca_keys.specs.Equal.{queue_eq}
use Rattle.ca_keys.specs.Memory.{ByteMap}
use Rattle.ca_model.specs.Packets.{is_send}
use Rattle.ca_model.specs.Caused.{is_denied_list, is_fitting_answer, is_refused_by, is_refused_operation, may_be_in_error, told_at_hand, with_limits}
use Rattle.ca_model.specs.Entries.{EntryValue}
use Rattle.ca_model.specs.Past.{Past, arrived_at_hand, each_entry, opening_past, posted_at}
use Rattle.ca_model.specs.declared.mark.Mark.{Mark}
use Rattle.ca_model.specs.declared.mark.Mark.TheVariants as marks

-- an answer arrived that does not fit the request of a send completion
abbrev pub is_misfit : Past → Completion → Bool
is_misfit past c =
    not c.receive
    && option_map_or (λ t. is_answer t.response && option_map_or (λ p. not (is_fitting_answer past c.queue p t)) (posted_at past c.queue c.place) false)
    (told_at_hand past c) false
  where
    is_answer : Response → Bool
    is_answer Answers = true
    is_answer response = false

-- The cause of each status, as Caused has it, but for what is told of clean connections, and for the lists of receives:
-- of a receive that is too short it says that a SEND arrived, and of one that is denied, that the event at hand was denied
-- an access by a list of its queue pair.
abbrev pub has_own_cause : Past → Completion → Option OpRefusal → WcStatus → Bool
has_own_cause past c cause statuses.Success = true
has_own_cause past c cause statuses.LocalLength =
    c.receive && option_map_or (λ p. is_send p.opcode) (arrived_at_hand past c.queue) false
has_own_cause past c cause statuses.LocalProtection =
    if c.receive then list_any (λ ask. queue_eq ask.queue c.queue) past.at_hand.denied_locally else is_denied_list past c
has_own_cause past c cause statuses.MemoryManagement = is_refused_operation past c cause
has_own_cause past c cause statuses.RemoteInvalidRequest = is_refused_by InvalidRequest past c
has_own_cause past c cause statuses.RemoteAccess = is_refused_by RemoteAccessError past c
has_own_cause past c cause statuses.RemoteOperation = is_refused_by RemoteOperationalError past c
has_own_cause past c cause statuses.RetryExceeded = with_limits (λ start g. g.retries == suc start.retry) past c
has_own_cause past c cause statuses.RnrRetryExceeded =
    with_limits (λ start g. nat_lt start.rnr_retry MAX_RETRY && (g.rnrs == suc start.rnr_retry)) past c
has_own_cause past c cause statuses.BadResponse = is_misfit past c
has_own_cause past c cause statuses.Flushed = may_be_in_error past c.queue

-- a completion has the cause of its status
abbrev pub completes_with_cause : Past → Mark → Bool
completes_with_cause past (marks.Done queue completion cause) = has_own_cause past completion cause completion.status
completes_with_cause past mark = true

-- each completion of a history does so, over these bytes
abbrev pub DoCompleteWithCauses : ByteMap → List EntryValue → Type 0
DoCompleteWithCauses bytes es = IsTrue (each_entry completes_with_cause (λ past. true) (opening_past bytes) es)
