-- Answers: what the words of an answer, of a completion and of what came of an access are read as, by the table that
-- prints them, and which answers may stand on the line of a call. Reading is lenient: what is read need not print so.
-- Contracts cite it.
use Rattle.std.specs.Prelude.{◌≤◌, nat_le, if◌then◌else◌, Option, Some, None, codes}
use Rattle.std.specs.Str.{bytes_eq}
use Rattle.ca_base.specs.declared.limits.TheConstants.{MAX_POLLED}
use Rattle.ca_base.specs.declared.completion.Completion.{Completion}
use Rattle.ca_keys.specs.declared.verdict.Verdict.{Verdict}
use Rattle.ca_keys.specs.declared.verdict.Verdict.TheVariants as verdicts
use Rattle.ca_model.specs.declared.answer.Answer.TheVariants as answers
use Rattle.ca_trace.specs.declared.line.Told.{Told}
use Rattle.ca_trace.specs.declared.line.Told.TheVariants as told
use Rattle.ca_trace_lex.specs.Words.{◌>>=◌, next_of, field, perhaps_in, queue_in, key_in, hex_in}
use Rattle.ca_trace_lex.specs.Names.{side_in, denial_in, state_in, operation_in, status_in, refusal_in}
use Rattle.ca_trace_lex.specs.Fields.{Words, u8_in, u16_in, u32_in, u64_in}

-- an answer that stands whole on its line, or completions of which there are no more than a poll gives
abbrev pub IsTold : Told → Type 0
IsTold (told.Whole (answers.Polled completions)) = ⊥
IsTold (told.Whole answer) = Unit {0}
IsTold (told.Polled n) = n ≤ MAX_POLLED

unfoldable pub state_at : Words → Option (Told × Words)
state_at ws = do
  state ← field state_in ws
  incarnation ← field u32_in state.1
  sends ← field u16_in incarnation.1
  receives ← field u16_in sends.1
  Some (told.Whole (answers.Query state.0 incarnation.0 sends.0 receives.0), receives.1)

-- how many completions a poll gave
unfoldable pub polled_at : Words → Option (Told × Words)
polled_at ws = do
  n ← field u8_in ws
  if nat_le n.0 MAX_POLLED then Some (told.Polled n.0, n.1) else None

-- an answer, behind the arrow
unfoldable pub answer_at : Words → Option (Told × Words)
answer_at ws = do
  name ← next_of ws
  if bytes_eq name.0 (codes "ok") then Some (told.Whole answers.Fine, name.1)
      else if bytes_eq name.0 (codes "key") then (do
        key ← field key_in name.1
        Some (told.Whole (answers.Key key.0), key.1))
      else if bytes_eq name.0 (codes "qp") then (do
        number ← field u32_in name.1
        incarnation ← field u32_in number.1
        Some (told.Whole (answers.Queue number.0 incarnation.0), incarnation.1))
      else if bytes_eq name.0 (codes "posted") then (do
        key ← field (perhaps_in key_in) name.1
        Some (told.Whole (answers.Posted key.0), key.1))
      else if bytes_eq name.0 (codes "polled") then polled_at name.1
      else if bytes_eq name.0 (codes "state") then state_at name.1
      else if bytes_eq name.0 (codes "bytes") then (do
        bytes ← field hex_in name.1
        Some (told.Whole (answers.Loaded bytes.0), bytes.1))
      else if bytes_eq name.0 (codes "refused") then (do
        refusal ← field refusal_in name.1
        Some (told.Whole (answers.Refused refusal.0), refusal.1))
      else None

unfoldable pub completion_at : Words → Option (Completion × Words)
completion_at ws = do
  queue ← field queue_in ws
  receive ← field side_in queue.1
  place ← field u64_in receive.1
  id ← field u64_in place.1
  op ← field operation_in id.1
  status ← field status_in op.1
  bytes ← field u32_in status.1
  imm ← field (perhaps_in u32_in) bytes.1
  key ← field (perhaps_in key_in) imm.1
  Some (record { id = id.0; queue = queue.0; receive = receive.0; place = place.0; status = status.0; op = op.0; bytes = bytes.0; imm = imm.0; invalidated = key.0 }, key.1)

unfoldable pub verdict_at : Words → Option (Verdict × Words)
verdict_at ws = do
  name ← next_of ws
  if bytes_eq name.0 (codes "read") then (do
    bytes ← field hex_in name.1
    Some (verdicts.Read bytes.0, bytes.1))
      else if bytes_eq name.0 (codes "wrote") then (do
        bytes ← field hex_in name.1
        Some (verdicts.Wrote bytes.0, bytes.1))
      else if bytes_eq name.0 (codes "found") then (do
        found ← field u64_in name.1
        word ← next_of found.1
        put ← field u64_in word.1
        Some (verdicts.Swapped found.0 put.0, put.1))
      else if bytes_eq name.0 (codes "denied") then (do
        denial ← field denial_in name.1
        Some (verdicts.Denied denial.0, denial.1))
      else None
