-- Written by tools/check_traces from examples/traces/written-success-without-a-middle.trace.
-- The history of the trace, and what holds of it. For proofs only.
use Rattle.std.proofs.Common.{◌≡◌, List, [], ◌∷◌, true, false, None, Some, refl}
use Rattle.ca_keys.specs.declared.access.Kind.TheVariants as kinds
use Rattle.ca_base.specs.declared.change.Change.TheVariants as changes
use Rattle.ca_base.specs.declared.completion.WcOp.TheVariants as operations
use Rattle.ca_base.specs.declared.completion.WcStatus.TheVariants as statuses
use Rattle.ca_base.specs.declared.lot.Lot.TheVariants as lots
use Rattle.ca_base.specs.declared.request.SendOp.TheVariants as ops
use Rattle.ca_keys.specs.declared.verdict.Verdict.TheVariants as verdicts
use Rattle.ca_model.specs.declared.answer.Answer.TheVariants as answers
use Rattle.ca_model.specs.declared.event.Event.TheVariants as events
use Rattle.ca_model.specs.declared.mark.Mark.TheVariants as marks
use Rattle.ca_model.specs.declared.verb.Verb.TheVariants as verbs
use Rattle.ca_keys.specs.Memory.{zeros}
use Rattle.ca_wire.specs.Decoding.{number_at, bth_at, front_at, reth_from, atomic_from, aeth_from, number_from, payload_at, payload_behind, body_in, packet_in}
use Rattle.ca_wire.specs.Packet.{be_bytes, packet_bytes}
use Rattle.ca_wire.specs.Table.{row_of}
use Rattle.ca_model.specs.Entries.{EntryValue}
use Rattle.ca_model.specs.Judged.{is_judged_history}
use Rattle.ca_model.specs.Licensed.{is_licensed_history}
use Rattle.ca_model.specs.Once.{is_once_history}
use Rattle.ca_model.specs.Ordered.{is_ordered_history}
use Rattle.ca_model.specs.Caused.{is_caused_history}
use Rattle.ca_model.specs.Carried.{is_carried_history}
use Rattle.ca_law_once.specs.Written.{is_written_history, is_written_once_history}
use Rattle.ca_model.proofs.Literals.{d, s, q, k, r, run, piece, list, request, receive, completion, grant, entry}
use Rattle.ca_model_traces.proofs.Entries.{called, hex}

abbrev history : List EntryValue
history =
    called 0 0 0 (verbs.AllocPd (d 0 0)) answers.Fine []
    ∷ called 1 0 1 (verbs.AllocPd (d 1 0)) answers.Fine []
    ∷ called 2 0 2 (verbs.AllocPd (d 1 1)) answers.Fine []
    ∷ called 3 0 0 (verbs.CreateCq (s 0 0 0) 32) answers.Fine []
    ∷ called 4 0 1 (verbs.CreateCq (s 1 0 0) 88) answers.Fine []
    ∷ called 5 0 2 (verbs.CreateCq (s 1 1 0) 1) answers.Fine []
    ∷ called 6 0 0 (verbs.CreateCq (s 0 0 1) 24) answers.Fine []
    ∷ called 7 0 1 (verbs.CreateQp (s 1 0 0) 0 0 32 16 None) (answers.Queue 256 1) []
    ∷ called 8 0 2 (verbs.CreateCq (s 1 1 1) 1) answers.Fine []
    ∷ called 9 0 0 (verbs.CreateQp (s 0 0 0) 1 1 16 8 None) (answers.Queue 256 1) []
    ∷ called 10 0 1 (verbs.CreateQp (s 1 0 1) 0 0 32 8 None) (answers.Queue 257 1) []
    ∷ called 11 0 2 (verbs.CreateCq (s 1 1 2) 20) answers.Fine []
    ∷ called 12 0 0 (verbs.CreateQp (s 0 0 1) 0 0 16 16 None) (answers.Queue 257 1) []
    ∷ called 13 0 1 (verbs.RegMr (s 1 0 0) 0 0 32768 (r true true true true true)) (answers.Key (k 1)) (marks.Granted (grant (k 1) (d 1 0) None true 4294967296 32768 (r true true true true true) ((run 1 0 0 32768) ∷ [])) ∷ [])
    ∷ called 14 0 2 (verbs.CreateQp (s 1 1 0) 2 2 4 16 None) (answers.Queue 512 1) []
    ∷ called 15 0 0 (verbs.RegMr (s 0 0 0) 1 0 16384 (r true true true true true)) (answers.Key (k 1)) (marks.Granted (grant (k 1) (d 0 0) None true 8589934592 16384 (r true true true true true) ((run 0 1 0 16384) ∷ [])) ∷ [])
    ∷ called 16 0 1 (verbs.RegMr (s 1 0 1) 0 0 32768 (r true true true true true)) (answers.Key (k 257)) (marks.Granted (grant (k 257) (d 1 0) None true 4294967296 32768 (r true true true true true) ((run 1 0 0 32768) ∷ [])) ∷ [])
    ∷ called 17 0 2 (verbs.RegMr (s 1 1 0) 0 0 32768 (r true true true true true)) (answers.Key (k 16777217)) (marks.Granted (grant (k 16777217) (d 1 1) None true 4294967296 32768 (r true true true true true) ((run 1 0 0 32768) ∷ [])) ∷ [])
    ∷ called 18 0 0 (verbs.AllocMr (s 0 0 4) 1) answers.Fine []
    ∷ called 19 0 1 (verbs.RegMr (s 1 0 2) 0 8 32760 (r true true true true true)) (answers.Key (k 513)) (marks.Granted (grant (k 513) (d 1 0) None true 4294967304 32760 (r true true true true true) ((run 1 0 8 32760) ∷ [])) ∷ [])
    ∷ called 20 0 2 (verbs.RegMr (s 1 1 1) 0 8 32760 (r true true true true true)) (answers.Key (k 16777473)) (marks.Granted (grant (k 16777473) (d 1 1) None true 4294967304 32760 (r true true true true true) ((run 1 0 8 32760) ∷ [])) ∷ [])
    ∷ called 21 0 0 (verbs.AllocMw (s 0 0 0) 2) answers.Fine []
    ∷ called 22 0 1 (verbs.AllocMr (s 1 0 3) 2) answers.Fine []
    ∷ called 23 0 2 (verbs.RegMr (s 1 1 2) 0 8 32760 (r true true true true true)) (answers.Key (k 16777729)) (marks.Granted (grant (k 16777729) (d 1 1) None true 4294967304 32760 (r true true true true true) ((run 1 0 8 32760) ∷ [])) ∷ [])
    ∷ called 24 0 0 (verbs.ModifyQp (s 0 0 0) changes.Init) answers.Fine []
    ∷ called 25 0 1 (verbs.AllocMw (s 1 0 0) 2) answers.Fine []
    ∷ called 26 0 2 (verbs.AllocMr (s 1 1 3) 2) answers.Fine []
    ∷ called 27 0 0 (verbs.ModifyQp (s 0 0 0) (changes.Rtr (q 1 512) 1 16777215 256 31)) answers.Fine []
    ∷ called 28 0 1 (verbs.ModifyQp (s 1 0 1) changes.Init) answers.Fine []
    ∷ called 29 0 2 (verbs.AllocMw (s 1 1 0) 1) answers.Fine []
    ∷ called 30 0 0 (verbs.ModifyQp (s 0 0 0) (changes.Rts 0 7 7 2)) answers.Fine []
    ∷ called 31 0 1 (verbs.ModifyQp (s 1 0 1) (changes.Rtr (q 1 256) 1 1 1024 28)) answers.Fine []
    ∷ called 32 0 2 (verbs.AllocMw (s 1 1 1) 2) answers.Fine []
    ∷ called 33 0 1 (verbs.ModifyQp (s 1 0 1) (changes.Rts 12461730 3 7 16)) answers.Fine []
    ∷ called 34 0 2 (verbs.ModifyQp (s 1 1 0) changes.Init) answers.Fine []
    ∷ called 35 0 1 (verbs.PostRecv (s 1 0 1) (receive 1001 (list ((piece 257 4294979968 3092) ∷ (piece 1 4294995952 199) ∷ (piece 513 4294981968 1327) ∷ (piece 1 4294990542 1382) ∷ [])))) (answers.Posted None) []
    ∷ called 36 0 2 (verbs.ModifyQp (s 1 1 0) (changes.Rtr (q 0 256) 1 0 256 2)) answers.Fine []
    ∷ called 37 0 1 (verbs.ModifyQp (s 1 0 0) changes.Init) answers.Fine []
    ∷ called 38 0 2 (verbs.ModifyQp (s 1 1 0) (changes.Rts 16777215 3 7 1)) answers.Fine []
    ∷ called 39 0 1 (verbs.ModifyQp (s 1 0 0) (changes.Rtr (q 1 257) 1 12461730 1024 20)) answers.Fine []
    ∷ called 40 0 2 (verbs.PostRecv (s 1 1 0) (receive 1001 (list ((piece 16777217 4294989192 6000) ∷ [])))) (answers.Posted None) []
    ∷ called 41 0 1 (verbs.ModifyQp (s 1 0 0) (changes.Rts 1 7 7 16)) answers.Fine []
    ∷ called 42 0 2 (verbs.PostRecv (s 1 1 0) (receive 1002 (list ((piece 16777217 4294989480 348) ∷ (piece 16777729 4294992210 5652) ∷ [])))) (answers.Posted None) []
    ∷ called 43 0 1 (verbs.PostRecv (s 1 0 0) (receive 1001 (list ((piece 257 4294970869 646) ∷ (piece 513 4294973652 5354) ∷ [])))) (answers.Posted None) []
    ∷ called 44 0 2 (verbs.PostSend (s 1 1 0) (request 3 true false false (ops.Write 8589938732 (k 1) (list ((piece 16777473 4294989247 4096) ∷ []))))) (answers.Posted None) []
    ∷ entry 45 0 (events.Request (q 1 512) (lots.Repeat 2)) (marks.Local (q 1 512) (d 1 1) (k 16777473) kinds.Read 4294989247 256 (verdicts.Read (hex "00000000000000000000000000000000000000000000000000000000000000000000000000000000000000000000000000000000000000000000000000000000000000000000000000000000000000000000000000000000000000000000000000000000000000000000000000000000000000000000000000000000000000000000000000000000000000000000000000000000000000000000000000000000000000000000000000000000000000000000000000000000000000000000000000000000000000000000000000000000000000000000000000000000000000000000000000000000000000000000000000000000000000000000000000000000")) ∷ marks.Sent (q 1 512) (q 0 256) (Some 0) (Some 0) (hex "0600ffff0000010000ffffff000000020000102c000000010000100000000000000000000000000000000000000000000000000000000000000000000000000000000000000000000000000000000000000000000000000000000000000000000000000000000000000000000000000000000000000000000000000000000000000000000000000000000000000000000000000000000000000000000000000000000000000000000000000000000000000000000000000000000000000000000000000000000000000000000000000000000000000000000000000000000000000000000000000000000000000000000000000000000000000000000000000000000000000000000000000000000000000000000000000000000000") ∷ [])
    ∷ called 46 0 0 (verbs.ModifyQp (s 0 0 0) changes.Reset) answers.Fine []
    ∷ called 47 0 1 (verbs.PostSend (s 1 0 0) (request 2 true false false (ops.Write 4294977878 (k 513) (list ((piece 257 4294985323 219) ∷ (piece 1 4294998416 36) ∷ []))))) (answers.Posted None) []
    ∷ called 48 0 2 (verbs.Poll (s 1 1 2) 16 0) (answers.Polled ([])) []
    ∷ entry 49 0 (events.Request (q 1 256) (lots.Hold 1)) (marks.Local (q 1 256) (d 1 0) (k 257) kinds.Read 4294985323 219 (verdicts.Read (hex "000000000000000000000000000000000000000000000000000000000000000000000000000000000000000000000000000000000000000000000000000000000000000000000000000000000000000000000000000000000000000000000000000000000000000000000000000000000000000000000000000000000000000000000000000000000000000000000000000000000000000000000000000000000000000000000000000000000000000000000000000000000000000000000000000000000000000000000000000000000000000000000000000000")) ∷ marks.Local (q 1 256) (d 1 0) (k 1) kinds.Read 4294998416 36 (verdicts.Read (hex "000000000000000000000000000000000000000000000000000000000000000000000000")) ∷ marks.Sent (q 1 256) (q 1 257) (Some 0) (Some 0) (hex "0a10ffff0000010180000001000000010000295600000201000000ff00000000000000000000000000000000000000000000000000000000000000000000000000000000000000000000000000000000000000000000000000000000000000000000000000000000000000000000000000000000000000000000000000000000000000000000000000000000000000000000000000000000000000000000000000000000000000000000000000000000000000000000000000000000000000000000000000000000000000000000000000000000000000000000000000000000000000000000000000000000000000000000000000000000000000000000000000000000000000000000000000000000000000000000000000000000") ∷ [])
    ∷ entry 50 0 (events.Deliver (q 1 257) 0) (marks.Arrived (q 1 257) (Some 0) ∷ marks.Remote (q 1 257) (d 1 0) (Some 0) (k 513) kinds.Write 4294977878 255 (verdicts.Wrote (hex "000000000000000000000000000000000000000000000000000000000000000000000000000000000000000000000000000000000000000000000000000000000000000000000000000000000000000000000000000000000000000000000000000000000000000000000000000000000000000000000000000000000000000000000000000000000000000000000000000000000000000000000000000000000000000000000000000000000000000000000000000000000000000000000000000000000000000000000000000000000000000000000000000000000000000000000000000000000000000000000000000000000000000000000000000000")) ∷ [])
    ∷ entry 51 0 (events.Respond (q 1 257) lots.Pass) (marks.Sent (q 1 257) (q 1 256) (Some 0) None (hex "1100ffff00000100000000011f000001") ∷ [])
    ∷ entry 52 0 (events.Request (q 1 512) lots.Pass) (marks.Local (q 1 512) (d 1 1) (k 16777473) kinds.Read 4294989503 256 (verdicts.Read (hex "00000000000000000000000000000000000000000000000000000000000000000000000000000000000000000000000000000000000000000000000000000000000000000000000000000000000000000000000000000000000000000000000000000000000000000000000000000000000000000000000000000000000000000000000000000000000000000000000000000000000000000000000000000000000000000000000000000000000000000000000000000000000000000000000000000000000000000000000000000000000000000000000000000000000000000000000000000000000000000000000000000000000000000000000000000000")) ∷ marks.Sent (q 1 512) (q 0 256) None (Some 0) (hex "0700ffff000001000000000000000000000000000000000000000000000000000000000000000000000000000000000000000000000000000000000000000000000000000000000000000000000000000000000000000000000000000000000000000000000000000000000000000000000000000000000000000000000000000000000000000000000000000000000000000000000000000000000000000000000000000000000000000000000000000000000000000000000000000000000000000000000000000000000000000000000000000000000000000000000000000000000000000000000000000000000000000000000000000000000000000000000000000000000000000000") ∷ marks.Lost (q 0 256) None ∷ [])
    ∷ called 53 0 0 (verbs.ModifyQp (s 0 0 0) changes.Init) answers.Fine []
    ∷ called 54 0 2 (verbs.ModifyQp (s 1 1 0) changes.Reset) answers.Fine []
    ∷ entry 55 0 (events.Deliver (q 1 256) 0) (marks.Arrived (q 1 256) (Some 0) ∷ marks.Done (q 1 256) (completion (q 1 256) false 0 2 operations.Write statuses.Success 0 None None) None ∷ [])
    ∷ called 56 0 0 (verbs.ModifyQp (s 0 0 0) (changes.Rtr (q 1 512) 2 6956359 256 27)) answers.Fine []
    ∷ called 57 0 2 (verbs.ModifyQp (s 1 1 0) changes.Init) answers.Fine []
    ∷ called 58 0 0 (verbs.ModifyQp (s 0 0 0) (changes.Rts 0 7 7 16)) answers.Fine []
    ∷ called 59 0 2 (verbs.ModifyQp (s 1 1 0) (changes.Rtr (q 0 256) 2 0 256 30)) answers.Fine []
    ∷ called 60 0 0 (verbs.PostRecv (s 0 0 0) (receive 1001 (list ((piece 1 8589945034 2162) ∷ (piece 1 8589942504 3838) ∷ [])))) (answers.Posted None) []
    ∷ called 61 0 2 (verbs.ModifyQp (s 1 1 0) (changes.Rts 6956359 3 7 1)) answers.Fine []
    ∷ called 62 0 0 (verbs.PostRecv (s 0 0 0) (receive 1002 (list ((piece 1 8589941768 6000) ∷ [])))) (answers.Posted None) []
    ∷ called 63 0 2 (verbs.PostRecv (s 1 1 0) (receive 1004 (list ((piece 16777217 4294968890 6000) ∷ [])))) (answers.Posted None) []
    ∷ called 64 0 0 (verbs.PostRecv (s 0 0 0) (receive 1003 (list ((piece 1 8589935512 6000) ∷ [])))) (answers.Posted None) []
    ∷ called 65 0 2 (verbs.Poll (s 1 1 2) 1 0) (answers.Polled ([])) []
    ∷ called 66 0 0 (verbs.PostRecv (s 0 0 0) (receive 1004 (list ((piece 1 8589938448 3890) ∷ (piece 1 8589941783 2110) ∷ [])))) (answers.Posted None) []
    ∷ called 67 0 0 (verbs.Poll (s 0 0 1) 16 0) (answers.Polled ([])) []
    ∷ called 68 0 0 (verbs.PostSend (s 0 0 0) (request 5 true false false (ops.Write 4294974223 (k 16777473) (list ((piece 1 8589948402 700) ∷ []))))) (answers.Posted None) []
    ∷ entry 69 0 (events.Request (q 0 256) lots.Pass) (marks.Local (q 0 256) (d 0 0) (k 1) kinds.Read 8589948402 256 (verdicts.Read (hex "00000000000000000000000000000000000000000000000000000000000000000000000000000000000000000000000000000000000000000000000000000000000000000000000000000000000000000000000000000000000000000000000000000000000000000000000000000000000000000000000000000000000000000000000000000000000000000000000000000000000000000000000000000000000000000000000000000000000000000000000000000000000000000000000000000000000000000000000000000000000000000000000000000000000000000000000000000000000000000000000000000000000000000000000000000000")) ∷ marks.Sent (q 0 256) (q 1 512) (Some 0) (Some 0) (hex "0600ffff00000200000000000000000100001b0f01000101000002bc00000000000000000000000000000000000000000000000000000000000000000000000000000000000000000000000000000000000000000000000000000000000000000000000000000000000000000000000000000000000000000000000000000000000000000000000000000000000000000000000000000000000000000000000000000000000000000000000000000000000000000000000000000000000000000000000000000000000000000000000000000000000000000000000000000000000000000000000000000000000000000000000000000000000000000000000000000000000000000000000000000000000000000000000000000000") ∷ [])
    ∷ entry 70 0 (events.Deliver (q 1 512) 0) (marks.Arrived (q 1 512) (Some 0) ∷ marks.Remote (q 1 512) (d 1 1) (Some 0) (k 16777473) kinds.Write 4294974223 700 (verdicts.Wrote (hex "00000000000000000000000000000000000000000000000000000000000000000000000000000000000000000000000000000000000000000000000000000000000000000000000000000000000000000000000000000000000000000000000000000000000000000000000000000000000000000000000000000000000000000000000000000000000000000000000000000000000000000000000000000000000000000000000000000000000000000000000000000000000000000000000000000000000000000000000000000000000000000000000000000000000000000000000000000000000000000000000000000000000000000000000000000000")) ∷ [])
    ∷ entry 71 0 (events.Request (q 0 256) lots.Pass) (marks.Local (q 0 256) (d 0 0) (k 1) kinds.Read 8589948658 256 (verdicts.Read (hex "00000000000000000000000000000000000000000000000000000000000000000000000000000000000000000000000000000000000000000000000000000000000000000000000000000000000000000000000000000000000000000000000000000000000000000000000000000000000000000000000000000000000000000000000000000000000000000000000000000000000000000000000000000000000000000000000000000000000000000000000000000000000000000000000000000000000000000000000000000000000000000000000000000000000000000000000000000000000000000000000000000000000000000000000000000000")) ∷ marks.Sent (q 0 256) (q 1 512) (Some 1) (Some 0) (hex "0700ffff000002000000000100000000000000000000000000000000000000000000000000000000000000000000000000000000000000000000000000000000000000000000000000000000000000000000000000000000000000000000000000000000000000000000000000000000000000000000000000000000000000000000000000000000000000000000000000000000000000000000000000000000000000000000000000000000000000000000000000000000000000000000000000000000000000000000000000000000000000000000000000000000000000000000000000000000000000000000000000000000000000000000000000000000000000000000000000000000") ∷ [])
    ∷ entry 72 0 (events.Deliver (q 1 512) 1) (marks.Arrived (q 1 512) (Some 1) ∷ [])
    ∷ entry 73 0 (events.Request (q 0 256) lots.Pass) (marks.Local (q 0 256) (d 0 0) (k 1) kinds.Read 8589948914 188 (verdicts.Read (hex "0000000000000000000000000000000000000000000000000000000000000000000000000000000000000000000000000000000000000000000000000000000000000000000000000000000000000000000000000000000000000000000000000000000000000000000000000000000000000000000000000000000000000000000000000000000000000000000000000000000000000000000000000000000000000000000000000000000000000000000000000000000000000000")) ∷ marks.Sent (q 0 256) (q 1 512) (Some 2) (Some 0) (hex "0800ffff00000200800000020000000000000000000000000000000000000000000000000000000000000000000000000000000000000000000000000000000000000000000000000000000000000000000000000000000000000000000000000000000000000000000000000000000000000000000000000000000000000000000000000000000000000000000000000000000000000000000000000000000000000000000000000000000000000000000000000000000000000000000000000000000000000000") ∷ [])
    ∷ entry 74 0 (events.Deliver (q 1 512) 2) (marks.Arrived (q 1 512) (Some 2) ∷ marks.Remote (q 1 512) (d 1 1) (Some 2) (k 16777473) kinds.Write 4294974735 188 (verdicts.Wrote (hex "0000000000000000000000000000000000000000000000000000000000000000000000000000000000000000000000000000000000000000000000000000000000000000000000000000000000000000000000000000000000000000000000000000000000000000000000000000000000000000000000000000000000000000000000000000000000000000000000000000000000000000000000000000000000000000000000000000000000000000000000000000000000000000")) ∷ [])
    ∷ entry 75 0 (events.Respond (q 1 512) lots.Pass) (marks.Sent (q 1 512) (q 0 256) (Some 1) None (hex "1100ffff00000100000000021f000001") ∷ [])
    ∷ entry 76 0 (events.Deliver (q 0 256) 1) (marks.Arrived (q 0 256) (Some 1) ∷ marks.Done (q 0 256) (completion (q 0 256) false 0 5 operations.Write statuses.Success 0 None None) None ∷ [])
    ∷ []

judged : is_judged_history zeros history ≡ true
unfolding row_of be_bytes packet_bytes number_at bth_at front_at reth_from atomic_from aeth_from number_from payload_at payload_behind body_in packet_in
judged = refl

licensed : is_licensed_history zeros history ≡ true
unfolding row_of be_bytes packet_bytes number_at bth_at front_at reth_from atomic_from aeth_from number_from payload_at payload_behind body_in packet_in
licensed = refl

once : is_once_history zeros history ≡ true
unfolding row_of be_bytes packet_bytes number_at bth_at front_at reth_from atomic_from aeth_from number_from payload_at payload_behind body_in packet_in
once = refl

ordered : is_ordered_history zeros history ≡ true
unfolding row_of be_bytes packet_bytes number_at bth_at front_at reth_from atomic_from aeth_from number_from payload_at payload_behind body_in packet_in
ordered = refl

caused : is_caused_history zeros history ≡ true
unfolding row_of be_bytes packet_bytes number_at bth_at front_at reth_from atomic_from aeth_from number_from payload_at payload_behind body_in packet_in
caused = refl

carried : is_carried_history zeros history ≡ false
unfolding row_of be_bytes packet_bytes number_at bth_at front_at reth_from atomic_from aeth_from number_from payload_at payload_behind body_in packet_in
carried = refl

written : is_written_history zeros history ≡ false
unfolding row_of be_bytes packet_bytes number_at bth_at front_at reth_from atomic_from aeth_from number_from payload_at payload_behind body_in packet_in
written = refl

written_once : is_written_once_history zeros history ≡ false
unfolding row_of be_bytes packet_bytes number_at bth_at front_at reth_from atomic_from aeth_from number_from payload_at payload_behind body_in packet_in
written_once = refl
