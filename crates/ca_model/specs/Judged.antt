-- Judged: what each access of a history must be, by the grants and the bytes before it. Contracts cite it.
use Rattle.std.specs.Prelude.{ℕ, ◌%◌, nat_le, nat_lt, Bool, true, false, ◌&&◌, ◌||◌, ◌==◌, List, [], ◌∷◌, length, Option, None, Some, is_none, IsTrue}
use Rattle.std.specs.Option.{option_eq, option_map_or}
use Rattle.std.specs.Str.{bytes_eq}
use Rattle.ca_keys.specs.declared.access.Ask.{Ask}
use Rattle.ca_keys.specs.declared.access.Kind.{Kind}
use Rattle.ca_keys.specs.declared.access.Kind.TheVariants as kinds
use Rattle.ca_base.specs.declared.limits.TheConstants.{ATOMIC_BYTES}
use Rattle.ca_keys.specs.declared.names.DomainId.{DomainId}
use Rattle.ca_keys.specs.declared.names.QueueId.{QueueId}
use Rattle.ca_keys.specs.declared.verdict.Verdict.{Verdict}
use Rattle.ca_keys.specs.declared.verdict.Verdict.TheVariants as verdicts
use Rattle.ca_keys.specs.Allowed.{denial_of}
use Rattle.ca_keys.specs.Equal.{kind_eq, denial_eq, domain_eq}
use Rattle.ca_keys.specs.Memory.{ByteMap, places_count, runs_for, bytes_at, little_endian}
use Rattle.ca_keys.specs.Numbers.{domain_of}
use Rattle.ca_wire.specs.Packet.{Fields}
use Rattle.ca_model.specs.declared.answer.Answer.{Answer}
use Rattle.ca_model.specs.declared.answer.Answer.TheVariants as answers
use Rattle.ca_model.specs.declared.mark.Mark.{Mark}
use Rattle.ca_model.specs.declared.mark.Mark.TheVariants as marks
use Rattle.ca_model.specs.declared.verb.Verb.{Verb}
use Rattle.ca_model.specs.declared.verb.Verb.TheVariants as verbs
use Rattle.ca_model.specs.Entries.{EntryValue}
use Rattle.ca_model.specs.Packets.{asks_atomic, number_put}
use Rattle.ca_model.specs.Past.{Past, opening_past, packet_at, remote_ask, local_ask, each_entry}

-- no part of the key check fails, by the grants so far
abbrev pub is_allowed : Past → Ask → Bool
is_allowed past ask = is_none (denial_of ask past.grants)

-- the bytes that memory holds at the first addresses of an ask
abbrev pub held : Past → Ask → ℕ → List ℕ
held past ask count = bytes_at past.memory (runs_for ask past.grants count)

-- the bytes of one packet: at most as many as were judged, and none only where none were
abbrev pub is_fitting_size : Ask → List ℕ → Bool
is_fitting_size ask bytes = nat_le (length bytes) ask.length && ((ask.length == 0) || nat_lt 0 (length bytes))

-- the packet is an atomic of the kind of the ask, and this number is what it puts where it found the other
abbrev pub puts : Ask → ℕ → ℕ → Fields → Bool
puts ask found put p =
    asks_atomic ask.kind p.opcode
    && option_map_or (λ a. option_eq (λ m n. m == n) (number_put ask.kind a found) (Some put)) p.atomic false

-- Denied comes exactly where a part fails, with the first such part. Where none fails, a read tells what memory held,
-- and an atomic finds what memory held at eight aligned bytes and puts what its packet makes of it.
abbrev pub is_verdict : Past → Ask → Option ℕ → Verdict → Bool
is_verdict past ask envelope (verdicts.Denied denial) = option_eq denial_eq (denial_of ask past.grants) (Some denial)
is_verdict past ask envelope (verdicts.Read bytes) =
    is_allowed past ask && kind_eq ask.kind kinds.Read && is_fitting_size ask bytes && bytes_eq bytes (held past ask (length bytes))
is_verdict past ask envelope (verdicts.Wrote bytes) =
    is_allowed past ask && kind_eq ask.kind kinds.Write && is_fitting_size ask bytes
is_verdict past ask envelope (verdicts.Swapped found put) =
    is_allowed past ask && (ask.length == ATOMIC_BYTES) && (ask.address % ATOMIC_BYTES == 0)
    && (little_endian (held past ask ATOMIC_BYTES) == found)
    && option_map_or (puts ask found put) (packet_at past ask.queue envelope) false

-- the queue pair is one of this domain; none has a number below 256
abbrev pub is_of_domain : QueueId → DomainId → Bool
is_of_domain q d = nat_le 256 q.number && domain_eq (domain_of q) d

-- an access by a list is a read or a write, and no atomic
abbrev pub is_read_or_write : Kind → Bool
is_read_or_write kind = kind_eq kind kinds.Read || kind_eq kind kinds.Write

-- Loaded answers a Load alone, and tells what memory held
abbrev pub is_loaded : Past → Verb → Answer → Bool
is_loaded past (verbs.Load adapter buffer offset count) (answers.Loaded bytes) =
    bytes_eq bytes (bytes_at past.memory
    (record { adapter = adapter; buffer = buffer; offset = offset; length = count } ∷ []))
is_loaded past verb (answers.Loaded bytes) = false
is_loaded past verb answer = true

-- A grant has as many places as its length. An access is by a queue pair of the domain that the mark names.
abbrev pub is_judged : Past → Mark → Bool
is_judged past (marks.Verb by verb answer) = is_loaded past verb answer
is_judged past (marks.Granted g) = places_count g.runs == g.length
is_judged past (marks.Remote queue domain envelope key kind address count verdict) =
    is_of_domain queue domain && is_verdict past (remote_ask queue domain key kind address count) envelope verdict
is_judged past (marks.Local queue domain key kind address count verdict) =
    is_of_domain queue domain && is_read_or_write kind
    && is_verdict past (local_ask queue domain key kind address count) None verdict
is_judged past mark = true

-- each mark of the history is judged rightly, over the bytes that memory opened with
abbrev pub is_judged_history : ByteMap → List EntryValue → Bool
is_judged_history bytes es = each_entry is_judged (λ past. true) (opening_past bytes) es

abbrev pub Judged : ByteMap → List EntryValue → Type 0
Judged bytes es = IsTrue (is_judged_history bytes es)
