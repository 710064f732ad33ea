-- Reading: what the words of each kind of line are read as, by the table that prints them. It is lenient: what is read
-- need not print so. Contracts cite it.
use Rattle.std.specs.Prelude.{ℕ, ◌==◌, not, Bool, false, if◌then◌else◌, List, [], ◌∷◌, Option, Some, None, codes}
use Rattle.std.specs.Str.{bytes_eq}
use Rattle.ca_model.specs.declared.event.Event.{Event}
use Rattle.ca_model.specs.declared.event.Event.TheVariants as events
use Rattle.ca_model.specs.declared.mark.Mark.{Mark}
use Rattle.ca_model.specs.declared.mark.Mark.TheVariants as marks
use Rattle.ca_trace.specs.declared.line.Line.{Line}
use Rattle.ca_trace.specs.declared.line.Line.TheVariants as lines
use Rattle.ca_trace_lex.specs.Words.{◌>>=◌, pieces, next_of, field, lettered_in, perhaps_in, in_adapter_in, domain_in, queue_in, queues_in, key_in, address_in, hex_in, list_in, run_in, space, max_u16, max_u32, max_u64}
use Rattle.ca_trace_lex.specs.Names.{object_in, alarm_in, kind_in, lot_in, cause_in, drop_in}
use Rattle.ca_trace_read_verbs.specs.Verbs.{verb_at}
use Rattle.ca_trace_lex.specs.Fields.{Words, u8_in, u32_in, u64_in, rights_at}
use Rattle.ca_trace_read_lines.specs.Answers.{answer_at, completion_at, verdict_at}

-- ---- marks

unfoldable pub granted_at : Words → Option Mark
granted_at ws = do
  domain ← field domain_in ws
  key ← field key_in domain.1
  object ← field object_in key.1
  queue ← field queues_in object.1
  address ← field address_in queue.1
  count ← field u32_in address.1
  rights ← rights_at count.1
  runs ← field (list_in run_in) rights.1
  Some (marks.Granted (record { key = key.0; domain = domain.0; queue = queue.0; local = object.0; address = address.0; length = count.0; rights = rights.0; runs = runs.0 }))

unfoldable pub remote_at : Words → Option Mark
remote_at ws = do
  queue ← field queue_in ws
  domain ← field domain_in queue.1
  envelope ← field (perhaps_in u64_in) domain.1
  key ← field key_in envelope.1
  kind ← field kind_in key.1
  address ← field address_in kind.1
  count ← field u32_in address.1
  verdict ← verdict_at count.1
  Some (marks.Remote queue.0 domain.0 envelope.0 key.0 kind.0 address.0 count.0 verdict.0)

unfoldable pub local_mark_at : Words → Option Mark
local_mark_at ws = do
  queue ← field queue_in ws
  domain ← field domain_in queue.1
  key ← field key_in domain.1
  kind ← field kind_in key.1
  address ← field address_in kind.1
  count ← field u32_in address.1
  verdict ← verdict_at count.1
  Some (marks.Local queue.0 domain.0 key.0 kind.0 address.0 count.0 verdict.0)

unfoldable pub stored_at : Words → Option Mark
stored_at ws = do
  buffer ← field (in_adapter_in max_u16) ws
  offset ← field u32_in buffer.1
  bytes ← field hex_in offset.1
  Some (marks.Stored (record { adapter = buffer.0.0; buffer = buffer.0.1; offset = offset.0 }) bytes.0)

unfoldable pub sent_at : Words → Option Mark
sent_at ws = do
  source ← field queue_in ws
  target ← field queue_in source.1
  index ← field (perhaps_in u64_in) target.1
  request ← field (perhaps_in u64_in) index.1
  bytes ← field hex_in request.1
  Some (marks.Sent source.0 target.0 index.0 request.0 bytes.0)

unfoldable pub done_at : Words → Option Mark
done_at ws = do
  completion ← completion_at ws
  cause ← field (perhaps_in cause_in) completion.1
  Some (marks.Done completion.0.queue completion.0 cause.0)

-- marks of packets and timers
unfoldable pub passing_at : List ℕ → Words → Option Mark
passing_at name ws =
    if bytes_eq name (codes "lost") then (do
      target ← field queue_in ws
      index ← field (perhaps_in u64_in) target.1
      Some (marks.Lost target.0 index.0))
    else if bytes_eq name (codes "arrived") then (do
      target ← field queue_in ws
      index ← field (perhaps_in u64_in) target.1
      Some (marks.Arrived target.0 index.0))
    else if bytes_eq name (codes "dropped") then (do
      target ← field queue_in ws
      cause ← field drop_in target.1
      Some (marks.Dropped target.0 cause.0))
    else if bytes_eq name (codes "timer") then (do
      queue ← field queue_in ws
      silent ← field alarm_in queue.1
      Some (marks.Timer queue.0 silent.0))
    else None

unfoldable pub mark_at : List ℕ → Words → Option Mark
mark_at name ws =
    if bytes_eq name (codes "granted") then granted_at ws
    else if bytes_eq name (codes "revoked") then (do
      adapter ← field u8_in ws
      key ← field key_in adapter.1
      Some (marks.Revoked adapter.0 key.0))
    else if bytes_eq name (codes "remote") then remote_at ws
    else if bytes_eq name (codes "local") then local_mark_at ws
    else if bytes_eq name (codes "stored") then stored_at ws
    else if bytes_eq name (codes "sent") then sent_at ws
    else if bytes_eq name (codes "done") then done_at ws
    else passing_at name ws

-- ---- lines

-- a turn, by its name, or None where it is none's
unfoldable pub turn_at : List ℕ → Words → Option Event
turn_at name ws =
    if bytes_eq name (codes "request") then (do
      queue ← field queue_in ws
      lot ← field lot_in queue.1
      Some (events.Request queue.0 lot.0))
    else if bytes_eq name (codes "respond") then (do
      queue ← field queue_in ws
      lot ← field lot_in queue.1
      Some (events.Respond queue.0 lot.0))
    else if bytes_eq name (codes "deliver") then (do
      queue ← field queue_in ws
      index ← field u64_in queue.1
      Some (events.Deliver queue.0 index.0))
    else if bytes_eq name (codes "timeout") then (do
      queue ← field queue_in ws
      silent ← field alarm_in queue.1
      Some (events.Timeout queue.0 (not silent.0)))
    else if bytes_eq name (codes "wake") then (do
      queue ← field queue_in ws
      Some (events.RnrWake queue.0))
    else None

-- a consumer begins with `c`, and no turn does
abbrev pub is_consumer : List ℕ → Bool
is_consumer [] = false
is_consumer (c ∷ cs) = c == 99

unfoldable pub head_at : Words → Option Line
head_at ws = do
  stamp ← field (lettered_in max_u64) ws
  pass ← field (lettered_in max_u32) stamp.1
  name ← next_of pass.1
  if is_consumer name.0 then (do
    by ← lettered_in max_u32 name.0
    verb ← verb_at name.1
    arrow ← next_of verb.1
    answer ← answer_at arrow.1
    Some (lines.Call stamp.0 pass.0 by verb.0 answer.0))
      else (do
        event ← turn_at name.0 name.1
        Some (lines.Turn stamp.0 pass.0 event))

-- a line behind an empty first word
unfoldable pub inner_at : Words → Option Line
inner_at ws = do
  name ← next_of ws
  if bytes_eq name.0 (codes "got") then (do
    completion ← completion_at name.1
    Some (lines.Got completion.0))
      else (do
        m ← mark_at name.0 name.1
        Some (lines.Mark m))

unfoldable pub line_at : Words → Option Line
line_at ws = do
  first ← next_of ws
  if bytes_eq first.0 [] then inner_at first.1
      else if bytes_eq first.0 (codes "end") then (do
        n ← field u64_in first.1
        Some (lines.End n.0))
      else head_at ws

-- what a line is read as
abbrev pub line_in : List ℕ → Option Line
line_in text = line_at (pieces space text)
