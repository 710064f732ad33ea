-- Written by tools/check_traces from examples/traces/good-refused-invalidation.trace.
-- The history of the trace, and what holds of it. For proofs only.
use Rattle.std.proofs.Common.{◌≡◌, List, [], ◌∷◌, true, false, None, Some, refl}
use Rattle.ca_keys.specs.declared.access.Kind.TheVariants as kinds
use Rattle.ca_base.specs.declared.change.Change.TheVariants as changes
use Rattle.ca_base.specs.declared.completion.WcOp.TheVariants as operations
use Rattle.ca_base.specs.declared.completion.WcStatus.TheVariants as statuses
use Rattle.ca_base.specs.declared.lot.Lot.TheVariants as lots
use Rattle.ca_base.specs.declared.refusals.OpRefusal.TheVariants as causes
use Rattle.ca_base.specs.declared.refusals.WindowError.TheVariants as windows
use Rattle.ca_base.specs.declared.request.SendOp.TheVariants as ops
use Rattle.ca_keys.specs.declared.verdict.Verdict.TheVariants as verdicts
use Rattle.ca_model.specs.declared.answer.Answer.TheVariants as answers
use Rattle.ca_model.specs.declared.event.Event.TheVariants as events
use Rattle.ca_model.specs.declared.mark.Mark.TheVariants as marks
use Rattle.ca_model.specs.declared.verb.Verb.TheVariants as verbs
use Rattle.ca_keys.specs.Memory.{zeros}
use Rattle.ca_wire.specs.Decoding.{number_at, bth_at, front_at, reth_from, atomic_from, aeth_from, number_from, payload_at, payload_behind, body_in, packet_in}
use Rattle.ca_wire.specs.Packet.{be_bytes, packet_bytes}
use Rattle.ca_wire.specs.Table.{row_of}
use Rattle.ca_model.specs.Entries.{EntryValue}
use Rattle.ca_model.specs.Judged.{is_judged_history}
use Rattle.ca_model.specs.Licensed.{is_licensed_history}
use Rattle.ca_model.specs.Carried.{is_carried_history}
use Rattle.ca_model.specs.Once.{is_once_history}
use Rattle.ca_law_once.specs.Written.{is_written_history, is_written_once_history}
use Rattle.ca_model.specs.Ordered.{is_ordered_history}
use Rattle.ca_model.specs.Caused.{is_caused_history}
use Rattle.ca_model.proofs.Literals.{d, s, q, k, r, run, piece, list, request, receive, completion, grant, entry}
use Rattle.ca_model_traces.proofs.Entries.{called, hex}

abbrev history : List EntryValue
history =
    called 0 0 0 (verbs.AllocPd (d 0 0)) answers.Fine []
    ∷ called 1 0 0 (verbs.CreateCq (s 0 0 0) 400) answers.Fine []
    ∷ called 2 0 0 (verbs.CreateQp (s 0 0 0) 0 0 100 20 None) (answers.Queue 256 1) []
    ∷ called 3 0 0 (verbs.CreateQp (s 0 0 1) 0 0 100 20 None) (answers.Queue 257 1) []
    ∷ called 4 0 0 (verbs.RegMr (s 0 0 0) 0 0 9000 (r true true true true true)) (answers.Key (k 1)) (marks.Granted (grant (k 1) (d 0 0) None true 4294967296 9000 (r true true true true true) ((run 0 0 0 9000) ∷ [])) ∷ [])
    ∷ called 5 0 0 (verbs.RegMr (s 0 0 1) 0 0 64 (r true true true true false)) (answers.Key (k 257)) (marks.Granted (grant (k 257) (d 0 0) None true 4294967296 64 (r true true true true false) ((run 0 0 0 64) ∷ [])) ∷ [])
    ∷ called 6 0 0 (verbs.RegMr (s 0 0 2) 0 0 64 (r false true false false true)) (answers.Key (k 513)) (marks.Granted (grant (k 513) (d 0 0) None true 4294967296 64 (r false true false false true) ((run 0 0 0 64) ∷ [])) ∷ [])
    ∷ called 7 0 0 (verbs.AllocMr (s 0 0 3) 2) answers.Fine []
    ∷ called 8 0 0 (verbs.AllocMw (s 0 0 0) 1) answers.Fine []
    ∷ called 9 0 0 (verbs.AllocMw (s 0 0 1) 2) answers.Fine []
    ∷ called 10 0 0 (verbs.AllocMw (s 0 0 2) 2) answers.Fine []
    ∷ called 11 0 0 (verbs.ModifyQp (s 0 0 0) changes.Init) answers.Fine []
    ∷ called 12 0 0 (verbs.ModifyQp (s 0 0 0) (changes.Rtr (q 0 257) 1 0 256 3)) answers.Fine []
    ∷ called 13 0 0 (verbs.ModifyQp (s 0 0 0) (changes.Rts 0 7 7 16)) answers.Fine []
    ∷ called 14 0 0 (verbs.ModifyQp (s 0 0 1) changes.Init) answers.Fine []
    ∷ called 15 0 0 (verbs.ModifyQp (s 0 0 1) (changes.Rtr (q 0 256) 1 0 256 3)) answers.Fine []
    ∷ called 16 0 0 (verbs.ModifyQp (s 0 0 1) (changes.Rts 0 7 7 16)) answers.Fine []
    ∷ called 17 0 0 (verbs.PostRecv (s 0 0 1) (receive 4 (list ((piece 1 4294967296 100) ∷ [])))) (answers.Posted None) []
    ∷ called 18 0 0 (verbs.PostSend (s 0 0 0) (request 8 true false false (ops.SendInv (k 8388608) (list ((piece 1 4294967296 8) ∷ []))))) (answers.Posted None) []
    ∷ entry 19 0 (events.Request (q 0 256) lots.Pass) (marks.Local (q 0 256) (d 0 0) (k 1) kinds.Read 4294967296 8 (verdicts.Read (hex "0000000000000000")) ∷ marks.Sent (q 0 256) (q 0 257) (Some 0) (Some 0) (hex "1700ffff0000010180000000008000000000000000000000") ∷ [])
    ∷ entry 20 0 (events.Deliver (q 0 257) 0) (marks.Arrived (q 0 257) (Some 0) ∷ marks.Local (q 0 257) (d 0 0) (k 1) kinds.Write 4294967296 8 (verdicts.Wrote (hex "0000000000000000")) ∷ marks.Done (q 0 257) (completion (q 0 257) true 0 4 operations.Recv statuses.MemoryManagement 0 None None) (Some (causes.Window windows.Type1)) ∷ [])
    ∷ entry 21 0 (events.Respond (q 0 257) lots.Pass) (marks.Sent (q 0 257) (q 0 256) (Some 0) None (hex "1100ffff000001000000000063000000") ∷ [])
    ∷ entry 22 0 (events.Deliver (q 0 256) 0) (marks.Arrived (q 0 256) (Some 0) ∷ marks.Done (q 0 256) (completion (q 0 256) false 0 8 operations.Send statuses.RemoteOperation 0 None None) None ∷ [])
    ∷ []

judged : is_judged_history zeros history ≡ true
unfolding row_of be_bytes packet_bytes number_at bth_at front_at reth_from atomic_from aeth_from number_from payload_at payload_behind body_in packet_in
judged = refl

licensed : is_licensed_history zeros history ≡ true
unfolding row_of be_bytes packet_bytes number_at bth_at front_at reth_from atomic_from aeth_from number_from payload_at payload_behind body_in packet_in
licensed = refl

carried : is_carried_history zeros history ≡ true
unfolding row_of be_bytes packet_bytes number_at bth_at front_at reth_from atomic_from aeth_from number_from payload_at payload_behind body_in packet_in
carried = refl

once : is_once_history zeros history ≡ true
unfolding row_of be_bytes packet_bytes number_at bth_at front_at reth_from atomic_from aeth_from number_from payload_at payload_behind body_in packet_in
once = refl

written : is_written_history zeros history ≡ true
unfolding row_of be_bytes packet_bytes number_at bth_at front_at reth_from atomic_from aeth_from number_from payload_at payload_behind body_in packet_in
written = refl

written_once : is_written_once_history zeros history ≡ true
unfolding row_of be_bytes packet_bytes number_at bth_at front_at reth_from atomic_from aeth_from number_from payload_at payload_behind body_in packet_in
written_once = refl

ordered : is_ordered_history zeros history ≡ true
unfolding row_of be_bytes packet_bytes number_at bth_at front_at reth_from atomic_from aeth_from number_from payload_at payload_behind body_in packet_in
ordered = refl

caused : is_caused_history zeros history ≡ true
unfolding row_of be_bytes packet_bytes number_at bth_at front_at reth_from atomic_from aeth_from number_from payload_at payload_behind body_in packet_in
caused = refl
