-- Written: of a posted WRITE of a clean connection the packets that wrote are its first ones, in order, each once; and where it
-- completed with success, all its packets wrote before. WrittenOnce: the same packet by packet, each at most once, and exactly
-- once before success. Contracts cite both.
use Rattle.std.specs.Prelude.{ℕ, zero, suc, ◌+◌, ◌%◌, ◌^◌, Bool, true, false, not, ◌&&◌, ◌||◌, ◌==◌, nat_le, if◌then◌else◌, List, [], ◌∷◌, ◌++◌, length, take, slice_get, sum_by, Option, None, Some, IsTrue}
use Rattle.std.specs.List.{count_by, list_all}
use Rattle.std.specs.Option.{option_map_or}
use Rattle.std.specs.Str.{bytes_eq}
use Rattle.ca_base.specs.declared.completion.Completion.{Completion}
use Rattle.ca_base.specs.declared.correspondent.Correspondent.{Correspondent}
use Rattle.ca_base.specs.declared.limits.TheConstants.{PSN_BASE}
use Rattle.ca_base.specs.declared.request.SendOp.{SendOp}
use Rattle.ca_base.specs.declared.request.SendOp.TheVariants as ops
use Rattle.ca_keys.specs.Memory.{ByteMap}
use Rattle.ca_keys.specs.declared.names.QueueId.{QueueId}
use Rattle.ca_keys.specs.declared.verdict.Verdict.TheVariants as verdicts
use Rattle.ca_model.specs.Entries.{EntryValue}
use Rattle.ca_model.specs.Once.{is_clean_pair}
use Rattle.ca_model.specs.Packets.{packet_of}
use Rattle.ca_model.specs.Past.{Envelope, Naming, Past, Posted, after_entries, after_entry, after_mark, at_begin, correspondent_eq, envelope_sent, is_send_success, opening_past, posted_at, present_incarnation}
use Rattle.ca_model.specs.Requests.{psns_of}
use Rattle.ca_model.specs.declared.mark.Mark.{Mark}
use Rattle.ca_model.specs.declared.mark.Mark.TheVariants as marks

-- a remote write that was performed: whose, by the place of the posted request that its packet is of, and by the packet's PSN
pub record Wrote : Type 0 where
  pub own : Correspondent
  pub place : ℕ
  pub psn : ℕ

-- a posted WRITE that completed with success, and the PSNs of its packets that wrote before, the latest first
pub record WriteDone : Type 0 where
  pub own : Correspondent
  pub place : ℕ
  pub wrote : List ℕ

-- what the marks so far tell of WRITEs
pub record Writes : Type 0 where
  pub wrote : List Wrote
  pub done : List WriteDone

abbrev pub no_writes : Writes
no_writes = record { wrote = []; done = [] }

-- the PSN that the bytes of a packet carry
abbrev pub psn_in : List ℕ → ℕ
psn_in bytes = option_map_or (λ p. p.psn) (packet_of bytes) 0

-- a write by a packet of this source, of this request, with this PSN
abbrev pub wrote_for : Correspondent → Option ℕ → ℕ → List Wrote
wrote_for source None psn = []
wrote_for source (Some place) psn = record { own = source; place = place; psn = psn } ∷ []

-- a write by the packet of an envelope: it stems from the request that the Sent of the packet names
abbrev pub wrote_of : Envelope → List Wrote
wrote_of e = wrote_for e.source e.request (psn_in e.bytes)

-- the write that a mark tells of, by the envelope that it names
abbrev pub wrote_by : Past → QueueId → Option ℕ → List Wrote
wrote_by past q None = []
wrote_by past q (Some index) = option_map_or (λ e. wrote_of e) (envelope_sent past q index) []

-- the writes after a mark
abbrev pub wrote_after : Past → Mark → List Wrote → List Wrote
wrote_after past (marks.Remote queue domain envelope key kind address count (verdicts.Wrote bytes)) wrote = wrote_by past queue envelope ++ wrote
wrote_after past mark wrote = wrote

-- the PSNs of the packets of a posted request that wrote, the latest first
abbrev pub psns_at : Correspondent → ℕ → List Wrote → List ℕ
psns_at own place [] = []
psns_at own place (x ∷ rest) = if correspondent_eq x.own own && (x.place == place) then x.psn ∷ psns_at own place rest else psns_at own place rest

-- the request is a WRITE
abbrev pub is_write_op : SendOp → Bool
is_write_op (ops.Write address key list) = true
is_write_op (ops.WriteImm address key imm list) = true
is_write_op op = false

-- the WRITE that a completion tells of as a success
abbrev pub write_done : Past → Completion → List Wrote → List WriteDone
write_done past c wrote =
    if is_send_success c && option_map_or (λ p. is_write_op p.request.op) (posted_at past c.queue c.place) false
    then record {
      own = present_incarnation past c.queue;
      place = c.place;
      wrote = psns_at (present_incarnation past c.queue) c.place wrote;
    } ∷ []
    else []

-- the WRITEs that completed with success, after a mark
abbrev pub done_after : Past → Mark → Writes → List WriteDone
done_after past (marks.Done queue completion cause) w = write_done past completion w.wrote ++ w.done
done_after past mark w = w.done

abbrev pub writes_after : Past → Mark → Writes → Writes
writes_after past m w = record { wrote = wrote_after past m w.wrote; done = done_after past m w }

abbrev pub writes_of_marks : List Mark → Past → Writes → Writes
writes_of_marks [] past w = w
writes_of_marks (m ∷ ms) past w = writes_of_marks ms (after_mark m past) (writes_after past m w)

-- what a history tells of WRITEs
abbrev pub writes_of_entries : List EntryValue → Past → Writes → Writes
writes_of_entries [] past w = w
writes_of_entries (e ∷ es) past w = writes_of_entries es (after_entry e past) (writes_of_marks e.marks (at_begin e.event past) w)

-- ---- the packets of a request

-- the PSNs of so many numbers from one on, the last first
abbrev pub psns_falling : ℕ → ℕ → List ℕ
psns_falling low zero = []
psns_falling low (suc count) = ((low + count) % 2 ^ 24) ∷ psns_falling low count

-- The whole number of the first packet of the request that the one end of a clean connection posted at a place: the first is
-- the one that the other end expects, and each request takes as many as it has packets, of a READ those of its response.
abbrev pub first_number : Past → Naming → Naming → ℕ → ℕ
first_number past a b place =
    PSN_BASE + b.psn + sum_by (λ p. psns_of b.mtu p.request.op) (take place (past.posted a.own))

-- how many packets the request at a place has
abbrev pub packet_count : Past → Naming → Naming → ℕ → ℕ
packet_count past a b place = option_map_or (λ p. psns_of b.mtu p.request.op) (slice_get (past.posted a.own) place) 0

-- these are the first packets of the request at a place, in order, each once
abbrev pub are_first_packets : Past → Naming → Naming → ℕ → List ℕ → Bool
are_first_packets past a b place psns =
    nat_le (length psns) (packet_count past a b place)
    && bytes_eq psns (psns_falling (first_number past a b place) (length psns))

-- these are all its packets, in order, each once
abbrev pub are_all_packets : Past → Naming → Naming → ℕ → List ℕ → Bool
are_all_packets past a b place psns = bytes_eq psns (psns_falling (first_number past a b place) (packet_count past a b place))

-- the two Rtr of each clean connection of which this is one end pass the test
abbrev pub each_connection : Past → Correspondent → (Naming → Naming → Bool) → Bool
each_connection past own test =
    list_all (λ a. not (correspondent_eq a.own own) || list_all (λ b. not (is_clean_pair past a b) || test a b) past.namings) past.namings

-- The packets of a posted request of a clean connection that wrote are its first ones, in order, each once.
abbrev pub writes_in_order : Past → Writes → Wrote → Bool
writes_in_order past w x = each_connection past x.own (λ a b. are_first_packets past a b x.place (psns_at x.own x.place w.wrote))

-- All packets of a WRITE that completed with success wrote before, in order, each once.
abbrev pub wrote_before_success : Past → WriteDone → Bool
wrote_before_success past x = each_connection past x.own (λ a b. are_all_packets past a b x.place x.wrote)

-- of all that a history has left
abbrev pub is_written : Past → Writes → Bool
is_written past w = list_all (writes_in_order past w) w.wrote && list_all (wrote_before_success past) w.done

-- how often a packet of a posted request wrote
abbrev pub times_wrote : List ℕ → ℕ → ℕ
times_wrote psns psn = count_by (λ n. n == psn) psns

-- A packet of a posted request of a clean connection writes at most once.
abbrev pub writes_once : Past → Writes → Wrote → Bool
writes_once past w x = each_connection past x.own (λ a b. nat_le (times_wrote (psns_at x.own x.place w.wrote) x.psn) 1)

-- Each packet of a WRITE that completed with success wrote exactly once before.
abbrev pub each_wrote_once : Past → WriteDone → Bool
each_wrote_once past x =
    each_connection past x.own (λ a b. list_all (λ psn. times_wrote x.wrote psn == 1) (psns_falling (first_number past a b x.place) (packet_count past a b x.place)))

-- the same, packet by packet
abbrev pub is_written_once : Past → Writes → Bool
is_written_once past w = list_all (writes_once past w) w.wrote && list_all (each_wrote_once past) w.done

abbrev pub is_written_once_history : ByteMap → List EntryValue → Bool
is_written_once_history bytes es = is_written_once (after_entries es (opening_past bytes)) (writes_of_entries es (opening_past bytes) no_writes)

abbrev pub WrittenOnce : ByteMap → List EntryValue → Type 0
WrittenOnce bytes es = IsTrue (is_written_once_history bytes es)

abbrev pub is_written_history : ByteMap → List EntryValue → Bool
is_written_history bytes es = is_written (after_entries es (opening_past bytes)) (writes_of_entries es (opening_past bytes) no_writes)

abbrev pub Written : ByteMap → List EntryValue → Type 0
Written bytes es = IsTrue (is_written_history bytes es)
