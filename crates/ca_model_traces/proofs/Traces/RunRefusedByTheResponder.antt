-- Written by tools/check_traces from examples/traces/run-refused-by-the-responder.trace and run-refused-by-the-responder.ca.
-- The history of the trace, and what holds of it. For proofs only.
use Rattle.std.proofs.Common.{◌≡◌, List, [], ◌∷◌, map, true, false, None, Some, Ok, refl}
use Rattle.ca_keys.specs.declared.access.Kind.TheVariants as kinds
use Rattle.ca_keys.specs.declared.access.Denial.TheVariants as denials
use Rattle.ca_base.specs.declared.change.Change.TheVariants as changes
use Rattle.ca_base.specs.declared.change.State.TheVariants as states
use Rattle.ca_base.specs.declared.completion.WcOp.TheVariants as operations
use Rattle.ca_base.specs.declared.completion.WcStatus.TheVariants as statuses
use Rattle.ca_base.specs.declared.lot.Lot.TheVariants as lots
use Rattle.ca_base.specs.declared.request.SendOp.TheVariants as ops
use Rattle.ca_keys.specs.declared.verdict.Verdict.TheVariants as verdicts
use Rattle.ca_model.specs.declared.answer.Answer.TheVariants as answers
use Rattle.ca_model.specs.declared.answer.Refusal.TheVariants as refusals
use Rattle.ca_model.specs.declared.event.Event.TheVariants as events
use Rattle.ca_model.specs.declared.mark.Drop1.TheVariants as drops
use Rattle.ca_model.specs.declared.mark.Mark.TheVariants as marks
use Rattle.ca_model.specs.declared.verb.Verb.TheVariants as verbs
use Rattle.ca_base.specs.Configuration.{Configuration}
use Rattle.ca_wire.specs.Decoding.{number_at, bth_at, front_at, reth_from, atomic_from, aeth_from, number_from, payload_at, payload_behind, body_in, packet_in}
use Rattle.ca_wire.specs.Packet.{be_bytes, packet_bytes}
use Rattle.ca_wire.specs.Table.{row_of}
use Rattle.ca_model.specs.Entries.{EntryValue}
use Rattle.ca_model.specs.machine.Run.{run as outcome_of}
use Rattle.ca_model.proofs.Literals.{d, s, q, k, r, run, piece, list, request, receive, completion, grant, entry, adapter}
use Rattle.ca_model_traces.proofs.Entries.{called, hex}

abbrev history : List EntryValue
history =
    called 0 0 0 (verbs.AllocPd (d 0 0)) answers.Fine []
    ∷ called 1 0 1 (verbs.AllocPd (d 0 1)) answers.Fine []
    ∷ called 2 0 0 (verbs.CreateCq (s 0 0 0) 72) answers.Fine []
    ∷ called 3 0 1 (verbs.CreateCq (s 0 1 0) 6) answers.Fine []
    ∷ called 4 0 0 (verbs.CreateQp (s 0 0 0) 0 0 16 8 None) (answers.Queue 256 1) []
    ∷ called 5 0 1 (verbs.CreateCq (s 0 1 1) 5) answers.Fine []
    ∷ called 6 0 0 (verbs.CreateQp (s 0 0 1) 0 0 4 4 None) (answers.Queue 257 1) []
    ∷ called 7 0 1 (verbs.CreateCq (s 0 1 2) 2) answers.Fine []
    ∷ called 8 0 0 (verbs.CreateQp (s 0 0 2) 0 0 16 8 None) (answers.Queue 258 1) []
    ∷ called 9 0 1 (verbs.CreateSrq (s 0 1 0) 8) answers.Fine []
    ∷ called 10 0 0 (verbs.RegMr (s 0 0 0) 2 0 256 (r true true true true true)) (answers.Key (k 1)) (marks.Granted (grant (k 1) (d 0 0) None true 12884901888 256 (r true true true true true) ((run 0 2 0 256) ∷ [])) ∷ [])
    ∷ called 11 0 1 (verbs.CreateQp (s 0 1 0) 0 0 4 1 None) (answers.Queue 512 1) []
    ∷ called 12 0 0 (verbs.RegMr (s 0 0 1) 2 0 128 (r true true true true true)) (answers.Key (k 257)) (marks.Granted (grant (k 257) (d 0 0) None true 12884901888 128 (r true true true true true) ((run 0 2 0 128) ∷ [])) ∷ [])
    ∷ called 13 0 1 (verbs.CreateQp (s 0 1 1) 1 2 4 2 None) (answers.Queue 513 1) []
    ∷ called 14 0 0 (verbs.ModifyQp (s 0 0 0) changes.Init) answers.Fine []
    ∷ called 15 0 1 (verbs.RegMr (s 0 1 0) 1 64 69936 (r true true true true true)) (answers.Key (k 16777217)) (marks.Granted (grant (k 16777217) (d 0 1) None true 8589934656 69936 (r true true true true true) ((run 0 1 64 69936) ∷ [])) ∷ [])
    ∷ called 16 0 0 (verbs.ModifyQp (s 0 0 0) (changes.Rtr (q 0 513) 1 0 256 24)) answers.Fine []
    ∷ called 17 0 1 (verbs.RegMr (s 0 1 1) 1 64 69936 (r false false false false false)) (answers.Key (k 16777473)) (marks.Granted (grant (k 16777473) (d 0 1) None true 8589934656 69936 (r false false false false false) ((run 0 1 64 69936) ∷ [])) ∷ [])
    ∷ called 18 0 0 (verbs.ModifyQp (s 0 0 0) (changes.Rts 0 7 0 16)) answers.Fine []
    ∷ called 19 0 1 (verbs.AllocMr (s 0 1 3) 4) answers.Fine []
    ∷ called 20 0 0 (verbs.ModifyQp (s 0 0 1) changes.Init) answers.Fine []
    ∷ called 21 0 1 (verbs.AllocMw (s 0 1 0) 2) answers.Fine []
    ∷ called 22 0 0 (verbs.ModifyQp (s 0 0 1) (changes.Rtr (q 0 512) 1 16777214 256 24)) answers.Fine []
    ∷ called 23 0 1 (verbs.AllocMw (s 0 1 1) 2) answers.Fine []
    ∷ called 24 0 0 (verbs.ModifyQp (s 0 0 1) (changes.Rts 0 0 7 2)) answers.Fine []
    ∷ called 25 0 1 (verbs.ModifyQp (s 0 1 1) changes.Init) answers.Fine []
    ∷ called 26 0 0 (verbs.PostRecv (s 0 0 1) (receive 1001 (list ((piece 257 12884901888 1253) ∷ (piece 257 12884901888 5487) ∷ (piece 257 12884901888 1260) ∷ [])))) (answers.Posted None) []
    ∷ called 27 0 1 (verbs.ModifyQp (s 0 1 1) (changes.Rtr (q 0 256) 1 0 256 26)) answers.Fine []
    ∷ called 28 0 0 (verbs.Poll (s 0 0 0) 16 0) (answers.Polled ([])) []
    ∷ called 29 0 1 (verbs.ModifyQp (s 0 1 1) (changes.Rts 0 1 7 1)) answers.Fine []
    ∷ called 30 0 0 (verbs.PostRecv (s 0 0 1) (receive 1002 (list ((piece 1 12884901888 8000) ∷ [])))) (answers.Posted None) []
    ∷ called 31 0 1 (verbs.PostRecv (s 0 1 1) (receive 1001 (list ((piece 16777217 8589979781 2053) ∷ (piece 16777473 8589978309 2624) ∷ (piece 16777473 8589988769 1323) ∷ [])))) (answers.Posted None) []
    ∷ called 32 0 0 (verbs.Poll (s 0 0 0) 16 0) (answers.Polled ([])) []
    ∷ called 33 0 1 (verbs.Poll (s 0 1 2) 16 0) (answers.Polled ([])) []
    ∷ called 34 0 1 (verbs.PostRecv (s 0 1 1) (receive 1002 (list ((piece 16777217 8589992589 14) ∷ (piece 16777217 8589992978 23) ∷ (piece 16777217 8589985623 26) ∷ (piece 16777217 8589998459 1) ∷ [])))) (answers.Posted None) []
    ∷ called 35 0 1 (verbs.ModifyQp (s 0 1 0) changes.Init) answers.Fine []
    ∷ called 36 0 1 (verbs.ModifyQp (s 0 1 0) (changes.Rtr (q 0 257) 1 0 256 5)) answers.Fine []
    ∷ called 37 0 1 (verbs.ModifyQp (s 0 1 0) (changes.Rts 16777214 7 7 16)) answers.Fine []
    ∷ called 38 0 2 (verbs.PostSend (s 0 0 0) (request 4 true false false (ops.Read 8589973131 (k 16777217) (list ((piece 1 12884901964 0) ∷ (piece 1 12884902009 8) ∷ []))))) (answers.Posted None) []
    ∷ entry 39 0 (events.Request (q 0 256) lots.Pass) (marks.Sent (q 0 256) (q 0 513) (Some 0) (Some 0) (hex "0c00ffff0000020180000000000000020000968b0100000100000008") ∷ [])
    ∷ entry 40 0 (events.Deliver (q 0 513) 0) (marks.Arrived (q 0 513) (Some 0) ∷ [])
    ∷ entry 41 0 (events.Respond (q 0 513) lots.Pass) (marks.Remote (q 0 513) (d 0 1) (Some 0) (k 16777217) kinds.Read 8589973131 8 (verdicts.Read (hex "0000000000000000")) ∷ marks.Sent (q 0 513) (q 0 256) (Some 0) None (hex "1000ffff00000100000000001f0000010000000000000000") ∷ [])
    ∷ called 42 0 0 (verbs.PostRecv (s 0 0 0) (receive 1001 (list ((piece 257 12884901901 64) ∷ [])))) (answers.Posted None) []
    ∷ called 43 0 1 (verbs.DeallocMw (s 0 1 1)) answers.Fine []
    ∷ entry 44 0 (events.Deliver (q 0 256) 0) (marks.Arrived (q 0 256) (Some 0) ∷ marks.Local (q 0 256) (d 0 0) (k 1) kinds.Write 12884902009 8 (verdicts.Wrote (hex "0000000000000000")) ∷ marks.Done (q 0 256) (completion (q 0 256) false 0 4 operations.Read statuses.Success 8 None None) None ∷ [])
    ∷ called 45 0 0 (verbs.PostSend (s 0 0 0) (request 2 true false false (ops.Send (list ((piece 257 12884901888 4096) ∷ []))))) (answers.Posted None) []
    ∷ called 46 0 1 (verbs.AllocMw (s 0 1 1) 1) answers.Fine []
    ∷ entry 47 0 (events.Request (q 0 256) lots.Pass) (marks.Local (q 0 256) (d 0 0) (k 257) kinds.Read 12884901888 256 (verdicts.Denied denials.OutOfRange) ∷ marks.Done (q 0 256) (completion (q 0 256) false 1 2 operations.Send statuses.LocalProtection 0 None None) None ∷ marks.Done (q 0 256) (completion (q 0 256) true 0 1001 operations.Recv statuses.Flushed 0 None None) None ∷ [])
    ∷ called 48 0 0 (verbs.Poll (s 0 0 0) 16 0) (answers.Polled ((completion (q 0 256) false 0 4 operations.Read statuses.Success 8 None None) ∷ (completion (q 0 256) false 1 2 operations.Send statuses.LocalProtection 0 None None) ∷ (completion (q 0 256) true 0 1001 operations.Recv statuses.Flushed 0 None None) ∷ [])) []
    ∷ called 49 0 1 (verbs.PostSend (s 0 1 0) (request 1 true false false (ops.Bind2 0 (k 16777217) 9 8589956424 4096 (r false true true true false)))) (answers.Posted None) []
    ∷ entry 50 0 (events.Request (q 0 512) lots.Pass) (marks.Granted (grant (k 25165833) (d 0 1) (Some (q 0 512)) false 8589956424 4096 (r false true true true false) ((run 0 1 21832 4096) ∷ [])) ∷ marks.Done (q 0 512) (completion (q 0 512) false 0 1 operations.Bind statuses.Success 0 None None) None ∷ [])
    ∷ called 51 0 0 (verbs.PostRecv (s 0 0 0) (receive 1003 (list ((piece 1 12884901934 178) ∷ (piece 257 12884901888 334) ∷ [])))) (answers.Posted None) (marks.Done (q 0 256) (completion (q 0 256) true 1 1003 operations.Recv statuses.Flushed 0 None None) None ∷ [])
    ∷ called 52 0 1 (verbs.Poll (s 0 1 0) 16 0) (answers.Polled ((completion (q 0 512) false 0 1 operations.Bind statuses.Success 0 None None) ∷ [])) []
    ∷ called 53 0 0 (verbs.Poll (s 0 0 0) 4 0) (answers.Polled ((completion (q 0 256) true 1 1003 operations.Recv statuses.Flushed 0 None None) ∷ [])) []
    ∷ called 54 0 1 (verbs.PostRecv (s 0 1 1) (receive 1003 (list ((piece 16777217 8589989833 8000) ∷ [])))) (answers.Refused refusals.QueueFull) []
    ∷ called 55 0 0 (verbs.DeallocMw (s 0 0 0)) (answers.Refused refusals.NoSuch) []
    ∷ called 56 0 1 (verbs.PostSend (s 0 1 1) (request 4 true false false (ops.Read 12884901888 (k 257) (list ((piece 16777217 8589937313 182) ∷ (piece 16777473 8589999166 74) ∷ []))))) (answers.Posted None) []
    ∷ entry 57 0 (events.Request (q 0 513) lots.Pass) (marks.Sent (q 0 513) (q 0 256) (Some 1) (Some 0) (hex "0c00ffff000001008000000000000003000000000000010100000100") ∷ [])
    ∷ called 58 0 0 (verbs.AllocMw (s 0 0 0) 1) answers.Fine []
    ∷ called 59 0 1 (verbs.PostRecv (s 0 1 0) (receive 1002 (list ((piece 16777473 8589986929 8000) ∷ [])))) (answers.Posted None) []
    ∷ entry 60 0 (events.Deliver (q 0 256) 1) (marks.Arrived (q 0 256) (Some 1) ∷ marks.Dropped (q 0 256) drops.State ∷ [])
    ∷ called 61 0 0 (verbs.Load 0 0 10 32) (answers.Loaded (hex "0000000000000000000000000000000000000000000000000000000000000000")) []
    ∷ called 62 0 1 (verbs.PostRecv (s 0 1 1) (receive 1005 (list ((piece 16777473 8589967920 6000) ∷ [])))) (answers.Refused refusals.QueueFull) []
    ∷ called 63 0 0 (verbs.PostSend (s 0 0 1) (request 3 true false false (ops.Send (list ((piece 1 12884901888 257) ∷ []))))) (answers.Posted None) []
    ∷ called 64 0 1 (verbs.Poll (s 0 1 2) 16 0) (answers.Polled ([])) []
    ∷ entry 65 0 (events.Request (q 0 257) lots.Pass) (marks.Local (q 0 257) (d 0 0) (k 1) kinds.Read 12884901888 256 (verdicts.Read (hex "00000000000000000000000000000000000000000000000000000000000000000000000000000000000000000000000000000000000000000000000000000000000000000000000000000000000000000000000000000000000000000000000000000000000000000000000000000000000000000000000000000000000000000000000000000000000000000000000000000000000000000000000000000000000000000000000000000000000000000000000000000000000000000000000000000000000000000000000000000000000000000000000000000000000000000000000000000000000000000000000000000000000000000000000000000000")) ∷ marks.Sent (q 0 257) (q 0 512) (Some 0) (Some 0) (hex "0000ffff000002000000000000000000000000000000000000000000000000000000000000000000000000000000000000000000000000000000000000000000000000000000000000000000000000000000000000000000000000000000000000000000000000000000000000000000000000000000000000000000000000000000000000000000000000000000000000000000000000000000000000000000000000000000000000000000000000000000000000000000000000000000000000000000000000000000000000000000000000000000000000000000000000000000000000000000000000000000000000000000000000000000000000000000000000000000000000000000") ∷ [])
    ∷ entry 66 0 (events.Deliver (q 0 512) 0) (marks.Arrived (q 0 512) (Some 0) ∷ marks.Local (q 0 512) (d 0 1) (k 16777473) kinds.Write 8589986929 256 (verdicts.Denied denials.NoRight) ∷ marks.Done (q 0 512) (completion (q 0 512) true 0 1002 operations.Recv statuses.LocalProtection 0 None None) None ∷ [])
    ∷ entry 67 0 (events.Respond (q 0 512) lots.Pass) (marks.Sent (q 0 512) (q 0 257) (Some 0) None (hex "1100ffff000001010000000063000000") ∷ [])
    ∷ called 68 0 0 (verbs.Poll (s 0 0 0) 16 0) (answers.Polled ([])) []
    ∷ called 69 0 1 (verbs.DestroySrq (s 0 1 0)) answers.Fine []
    ∷ entry 70 0 (events.Deliver (q 0 257) 0) (marks.Arrived (q 0 257) (Some 0) ∷ marks.Done (q 0 257) (completion (q 0 257) false 0 3 operations.Send statuses.RemoteOperation 0 None None) None ∷ marks.Done (q 0 257) (completion (q 0 257) true 0 1001 operations.Recv statuses.Flushed 0 None None) None ∷ marks.Done (q 0 257) (completion (q 0 257) true 1 1002 operations.Recv statuses.Flushed 0 None None) None ∷ [])
    ∷ called 71 0 0 (verbs.ModifyQp (s 0 0 1) changes.Reset) answers.Fine []
    ∷ called 72 0 1 (verbs.ModifyQp (s 0 1 0) changes.Sqd) (answers.Refused refusals.Transition) []
    ∷ called 73 0 0 (verbs.ModifyQp (s 0 0 1) changes.Init) answers.Fine []
    ∷ called 74 0 1 (verbs.ModifyQp (s 0 1 0) changes.Resume) (answers.Refused refusals.Transition) []
    ∷ called 75 0 0 (verbs.ModifyQp (s 0 0 1) (changes.Rtr (q 0 512) 2 3356257 256 11)) answers.Fine []
    ∷ called 76 0 1 (verbs.PostSend (s 0 1 1) (request 6 true true false (ops.Write 12884901972 (k 257) (list ((piece 16777473 8589959595 1) ∷ []))))) (answers.Posted None) []
    ∷ called 77 0 0 (verbs.ModifyQp (s 0 0 1) (changes.Rts 584898 1 7 16)) answers.Fine []
    ∷ called 78 0 1 (verbs.QueryQp (s 0 1 1)) (answers.Query states.Rts 1 2 2) []
    ∷ called 79 0 0 (verbs.PostRecv (s 0 0 1) (receive 1004 (list ([])))) (answers.Posted None) []
    ∷ called 80 0 1 (verbs.DeallocMw (s 0 1 6)) (answers.Refused refusals.NoSuch) []
    ∷ called 81 0 0 (verbs.PostRecv (s 0 0 1) (receive 1005 (list ((piece 1 12884902038 64) ∷ [])))) (answers.Posted None) []
    ∷ called 82 0 1 (verbs.AllocMw (s 0 1 6) 2) answers.Fine []
    ∷ called 83 0 0 (verbs.Poll (s 0 0 0) 16 0) (answers.Polled ([])) []
    ∷ called 84 0 1 (verbs.DeregMr (s 0 1 6)) (answers.Refused refusals.NoSuch) []
    ∷ called 85 0 0 (verbs.PostSend (s 0 0 1) (request 900 true false false (ops.Send (list ((piece 1 12884902040 3) ∷ (piece 1 12884902071 10) ∷ (piece 1 12884902091 6) ∷ (piece 1 12884902041 1) ∷ []))))) (answers.Posted None) []
    ∷ called 86 0 1 (verbs.RegMr (s 0 1 6) 0 0 64 (r false true false false false)) (answers.Key (k 16778753)) (marks.Granted (grant (k 16778753) (d 0 1) None true 4294967296 64 (r false true false false false) ((run 0 0 0 64) ∷ [])) ∷ [])
    ∷ entry 87 0 (events.Request (q 0 257) lots.Pass) (marks.Local (q 0 257) (d 0 0) (k 1) kinds.Read 12884902040 3 (verdicts.Read (hex "000000")) ∷ marks.Local (q 0 257) (d 0 0) (k 1) kinds.Read 12884902071 10 (verdicts.Read (hex "00000000000000000000")) ∷ marks.Local (q 0 257) (d 0 0) (k 1) kinds.Read 12884902091 6 (verdicts.Read (hex "000000000000")) ∷ marks.Local (q 0 257) (d 0 0) (k 1) kinds.Read 12884902041 1 (verdicts.Read (hex "00")) ∷ marks.Sent (q 0 257) (q 0 512) None (Some 0) (hex "0400ffff000002008008ecc20000000000000000000000000000000000000000") ∷ marks.Lost (q 0 512) None ∷ [])
    ∷ called 88 0 0 (verbs.PostSend (s 0 0 1) (request 900 true false false (ops.Send (list ((piece 1 12884902131 2) ∷ (piece 257 12884901945 3) ∷ (piece 1 12884901992 6) ∷ (piece 1 12884902009 9) ∷ []))))) (answers.Posted None) []
    ∷ called 89 0 1 (verbs.PostSend (s 0 1 0) (request 990 true false false (ops.Bind2 6 (k 16778753) 5 4294967296 8 (r false true false false false)))) (answers.Posted None) (marks.Done (q 0 512) (completion (q 0 512) false 1 990 operations.Bind statuses.Flushed 0 None None) None ∷ [])
    ∷ entry 90 0 (events.Request (q 0 257) lots.Pass) (marks.Local (q 0 257) (d 0 0) (k 1) kinds.Read 12884902131 2 (verdicts.Read (hex "0000")) ∷ marks.Local (q 0 257) (d 0 0) (k 257) kinds.Read 12884901945 3 (verdicts.Read (hex "000000")) ∷ marks.Local (q 0 257) (d 0 0) (k 1) kinds.Read 12884901992 6 (verdicts.Read (hex "000000000000")) ∷ marks.Local (q 0 257) (d 0 0) (k 1) kinds.Read 12884902009 9 (verdicts.Read (hex "000000000000000000")) ∷ marks.Sent (q 0 257) (q 0 512) None (Some 1) (hex "0400ffff000002008008ecc30000000000000000000000000000000000000000") ∷ marks.Lost (q 0 512) None ∷ [])
    ∷ called 91 0 0 (verbs.PostSend (s 0 0 1) (request 6 true true false (ops.Write 8589950444 (k 16777217) (list ((piece 1 12884901936 64) ∷ []))))) (answers.Posted None) []
    ∷ called 92 0 1 (verbs.DeallocMw (s 0 1 0)) answers.Fine (marks.Revoked 0 (k 25165833) ∷ [])
    ∷ entry 93 0 (events.Request (q 0 257) lots.Pass) (marks.Local (q 0 257) (d 0 0) (k 1) kinds.Read 12884901936 64 (verdicts.Read (hex "00000000000000000000000000000000000000000000000000000000000000000000000000000000000000000000000000000000000000000000000000000000")) ∷ marks.Sent (q 0 257) (q 0 512) None (Some 2) (hex "0a00ffff000002008008ecc40000000200003dec010000010000004000000000000000000000000000000000000000000000000000000000000000000000000000000000000000000000000000000000000000000000000000000000") ∷ marks.Lost (q 0 512) None ∷ [])
    ∷ called 94 0 0 (verbs.Poll (s 0 0 0) 16 0) (answers.Polled ([])) []
    ∷ called 95 0 1 (verbs.AllocMw (s 0 1 0) 2) answers.Fine []
    ∷ called 96 0 0 (verbs.PostSend (s 0 0 1) (request 7 true false false (ops.SendInv (k 0) (list ((piece 257 12884901907 100) ∷ []))))) (answers.Posted None) []
    ∷ called 97 0 1 (verbs.ModifyQp (s 0 1 0) changes.Reset) answers.Fine []
    ∷ entry 98 0 (events.Request (q 0 257) lots.Pass) (marks.Local (q 0 257) (d 0 0) (k 257) kinds.Read 12884901907 100 (verdicts.Read (hex "00000000000000000000000000000000000000000000000000000000000000000000000000000000000000000000000000000000000000000000000000000000000000000000000000000000000000000000000000000000000000000000000000000000")) ∷ marks.Sent (q 0 257) (q 0 512) None (Some 3) (hex "1700ffff000002008008ecc50000000000000000000000000000000000000000000000000000000000000000000000000000000000000000000000000000000000000000000000000000000000000000000000000000000000000000000000000000000000000000000000000000000000000000") ∷ marks.Lost (q 0 512) None ∷ [])
    ∷ called 99 0 0 (verbs.Poll (s 0 0 0) 16 0) (answers.Polled ([])) []
    ∷ called 100 0 1 (verbs.ModifyQp (s 0 1 0) changes.Init) answers.Fine []
    ∷ called 101 0 0 (verbs.PostSend (s 0 0 1) (request 8 true false false (ops.Write 8589942137 (k 16777217) (list ((piece 257 12884901888 1000) ∷ []))))) (answers.Refused refusals.QueueFull) []
    ∷ called 102 0 1 (verbs.ModifyQp (s 0 1 0) (changes.Rtr (q 0 257) 2 584898 256 16)) answers.Fine []
    ∷ called 103 0 0 (verbs.Poll (s 0 0 0) 16 0) (answers.Polled ([])) []
    ∷ called 104 0 1 (verbs.ModifyQp (s 0 1 0) (changes.Rts 3356257 1 3 1)) answers.Fine []
    ∷ called 105 0 0 (verbs.ModifyQp (s 0 0 0) changes.Reset) answers.Fine []
    ∷ called 106 0 1 (verbs.PostRecv (s 0 1 0) (receive 1003 (list ((piece 16777473 8589937058 4) ∷ [])))) (answers.Posted None) []
    ∷ called 107 0 0 (verbs.ModifyQp (s 0 0 0) changes.Init) answers.Fine []
    ∷ called 108 0 1 (verbs.Poll (s 0 1 0) 16 0) (answers.Polled ([])) []
    ∷ called 109 0 0 (verbs.ModifyQp (s 0 0 0) (changes.Rtr (q 0 513) 2 10023899 256 11)) answers.Fine []
    ∷ called 110 0 1 (verbs.PostRecv (s 0 1 0) (receive 1004 (list ([])))) (answers.Refused refusals.QueueFull) []
    ∷ called 111 0 0 (verbs.ModifyQp (s 0 0 0) (changes.Rts 0 7 0 4)) answers.Fine []
    ∷ called 112 0 1 (verbs.PostRecv (s 0 1 0) (receive 1005 (list ((piece 16777473 8589986154 64) ∷ [])))) (answers.Refused refusals.QueueFull) []
    ∷ called 113 0 0 (verbs.PostRecv (s 0 0 0) (receive 1005 (list ((piece 1 12884901888 1972) ∷ (piece 257 12884901888 6028) ∷ [])))) (answers.Posted None) []
    ∷ called 114 0 1 (verbs.Poll (s 0 1 0) 16 0) (answers.Polled ([])) []
    ∷ called 115 0 0 (verbs.Poll (s 0 0 0) 16 0) (answers.Polled ([])) []
    ∷ called 116 0 0 (verbs.PostRecv (s 0 0 0) (receive 1006 (list ((piece 1 12884901888 1000) ∷ [])))) (answers.Posted None) []
    ∷ called 117 0 0 (verbs.Poll (s 0 0 0) 16 0) (answers.Polled ([])) []
    ∷ called 118 0 0 (verbs.PostRecv (s 0 0 0) (receive 1007 (list ((piece 257 12884901888 2971) ∷ (piece 257 12884901888 1436) ∷ (piece 257 12884901888 1593) ∷ [])))) (answers.Posted None) []
    ∷ called 119 0 0 (verbs.Poll (s 0 0 0) 16 0) (answers.Polled ([])) []
    ∷ called 120 0 0 (verbs.PostRecv (s 0 0 0) (receive 1008 (list ((piece 1 12884902105 4) ∷ (piece 257 12884901987 12) ∷ (piece 257 12884901916 45) ∷ (piece 1 12884902109 3) ∷ [])))) (answers.Posted None) []
    ∷ called 121 0 0 (verbs.Poll (s 0 0 0) 16 0) (answers.Polled ([])) []
    ∷ called 122 0 0 (verbs.PostSend (s 0 0 0) (request 9 true false false (ops.FetchAdd 8589962320 (k 16777217) 18446744073709551615 (list ((piece 1 12884901962 3) ∷ (piece 257 12884901946 5) ∷ (piece 1 12884902008 0) ∷ []))))) (answers.Posted None) []
    ∷ entry 123 0 (events.Request (q 0 256) lots.Pass) (marks.Sent (q 0 256) (q 0 513) None (Some 0) (hex "1400ffff00000201800000000000000200006c5001000001ffffffffffffffff0000000000000000") ∷ marks.Lost (q 0 513) None ∷ [])
    ∷ called 124 0 0 (verbs.Poll (s 0 0 0) 16 0) (answers.Polled ([])) []
    ∷ called 125 0 0 (verbs.PostRecv (s 0 0 0) (receive 1010 (list ((piece 257 12884901888 512) ∷ [])))) (answers.Posted None) []
    ∷ entry 126 0 (events.Timeout (q 0 256) false) (marks.Timer (q 0 256) true ∷ [])
    ∷ entry 127 0 (events.Request (q 0 256) lots.Pass) (marks.Sent (q 0 256) (q 0 513) None (Some 0) (hex "1400ffff00000201800000000000000200006c5001000001ffffffffffffffff0000000000000000") ∷ marks.Lost (q 0 513) None ∷ [])
    ∷ entry 128 0 (events.Timeout (q 0 256) false) (marks.Timer (q 0 256) true ∷ [])
    ∷ entry 129 0 (events.Request (q 0 256) lots.Pass) (marks.Sent (q 0 256) (q 0 513) None (Some 0) (hex "1400ffff00000201800000000000000200006c5001000001ffffffffffffffff0000000000000000") ∷ marks.Lost (q 0 513) None ∷ [])
    ∷ entry 130 0 (events.Timeout (q 0 256) false) (marks.Timer (q 0 256) true ∷ [])
    ∷ entry 131 0 (events.Request (q 0 256) lots.Pass) (marks.Sent (q 0 256) (q 0 513) None (Some 0) (hex "1400ffff00000201800000000000000200006c5001000001ffffffffffffffff0000000000000000") ∷ marks.Lost (q 0 513) None ∷ [])
    ∷ entry 132 0 (events.Timeout (q 0 256) false) (marks.Timer (q 0 256) true ∷ [])
    ∷ entry 133 0 (events.Request (q 0 256) lots.Pass) (marks.Sent (q 0 256) (q 0 513) None (Some 0) (hex "1400ffff00000201800000000000000200006c5001000001ffffffffffffffff0000000000000000") ∷ marks.Lost (q 0 513) None ∷ [])
    ∷ entry 134 0 (events.Timeout (q 0 256) false) (marks.Timer (q 0 256) true ∷ [])
    ∷ entry 135 0 (events.Request (q 0 256) lots.Pass) (marks.Sent (q 0 256) (q 0 513) None (Some 0) (hex "1400ffff00000201800000000000000200006c5001000001ffffffffffffffff0000000000000000") ∷ marks.Lost (q 0 513) None ∷ [])
    ∷ entry 136 0 (events.Timeout (q 0 256) false) (marks.Timer (q 0 256) true ∷ [])
    ∷ entry 137 0 (events.Request (q 0 256) lots.Pass) (marks.Sent (q 0 256) (q 0 513) None (Some 0) (hex "1400ffff00000201800000000000000200006c5001000001ffffffffffffffff0000000000000000") ∷ marks.Lost (q 0 513) None ∷ [])
    ∷ entry 138 0 (events.Timeout (q 0 256) false) (marks.Timer (q 0 256) true ∷ [])
    ∷ entry 139 0 (events.Request (q 0 256) lots.Pass) (marks.Sent (q 0 256) (q 0 513) None (Some 0) (hex "1400ffff00000201800000000000000200006c5001000001ffffffffffffffff0000000000000000") ∷ marks.Lost (q 0 513) None ∷ [])
    ∷ entry 140 0 (events.Timeout (q 0 256) false) (marks.Timer (q 0 256) true ∷ marks.Done (q 0 256) (completion (q 0 256) false 0 9 operations.FetchAdd statuses.RetryExceeded 0 None None) None ∷ marks.Done (q 0 256) (completion (q 0 256) true 0 1005 operations.Recv statuses.Flushed 0 None None) None ∷ marks.Done (q 0 256) (completion (q 0 256) true 1 1006 operations.Recv statuses.Flushed 0 None None) None ∷ marks.Done (q 0 256) (completion (q 0 256) true 2 1007 operations.Recv statuses.Flushed 0 None None) None ∷ marks.Done (q 0 256) (completion (q 0 256) true 3 1008 operations.Recv statuses.Flushed 0 None None) None ∷ marks.Done (q 0 256) (completion (q 0 256) true 4 1010 operations.Recv statuses.Flushed 0 None None) None ∷ [])
    ∷ entry 141 0 (events.Timeout (q 0 257) false) (marks.Timer (q 0 257) true ∷ [])
    ∷ entry 142 0 (events.Request (q 0 257) lots.Pass) (marks.Local (q 0 257) (d 0 0) (k 1) kinds.Read 12884902040 3 (verdicts.Read (hex "000000")) ∷ marks.Local (q 0 257) (d 0 0) (k 1) kinds.Read 12884902071 10 (verdicts.Read (hex "00000000000000000000")) ∷ marks.Local (q 0 257) (d 0 0) (k 1) kinds.Read 12884902091 6 (verdicts.Read (hex "000000000000")) ∷ marks.Local (q 0 257) (d 0 0) (k 1) kinds.Read 12884902041 1 (verdicts.Read (hex "00")) ∷ marks.Sent (q 0 257) (q 0 512) (Some 1) (Some 0) (hex "0400ffff000002008008ecc20000000000000000000000000000000000000000") ∷ [])
    ∷ entry 143 0 (events.Deliver (q 0 512) 1) (marks.Arrived (q 0 512) (Some 1) ∷ marks.Done (q 0 512) (completion (q 0 512) true 0 1003 operations.Recv statuses.LocalLength 0 None None) None ∷ [])
    ∷ entry 144 0 (events.Respond (q 0 512) lots.Pass) (marks.Sent (q 0 512) (q 0 257) (Some 1) None (hex "1100ffff000001010008ecc261000000") ∷ [])
    ∷ entry 145 0 (events.Deliver (q 0 257) 1) (marks.Arrived (q 0 257) (Some 1) ∷ marks.Done (q 0 257) (completion (q 0 257) false 0 900 operations.Send statuses.RemoteInvalidRequest 0 None None) None ∷ marks.Done (q 0 257) (completion (q 0 257) false 1 900 operations.Send statuses.Flushed 0 None None) None ∷ marks.Done (q 0 257) (completion (q 0 257) false 2 6 operations.Write statuses.Flushed 0 None None) None ∷ marks.Done (q 0 257) (completion (q 0 257) false 3 7 operations.Send statuses.Flushed 0 None None) None ∷ marks.Done (q 0 257) (completion (q 0 257) true 0 1004 operations.Recv statuses.Flushed 0 None None) None ∷ marks.Done (q 0 257) (completion (q 0 257) true 1 1005 operations.Recv statuses.Flushed 0 None None) None ∷ [])
    ∷ entry 146 0 (events.Timeout (q 0 513) false) (marks.Timer (q 0 513) true ∷ [])
    ∷ entry 147 0 (events.Request (q 0 513) lots.Pass) (marks.Sent (q 0 513) (q 0 256) None (Some 0) (hex "0c00ffff000001008000000000000003000000000000010100000100") ∷ marks.Lost (q 0 256) None ∷ [])
    ∷ entry 148 0 (events.Timeout (q 0 513) false) (marks.Timer (q 0 513) true ∷ marks.Done (q 0 513) (completion (q 0 513) false 0 4 operations.Read statuses.RetryExceeded 0 None None) None ∷ marks.Done (q 0 513) (completion (q 0 513) false 1 6 operations.Write statuses.Flushed 0 None None) None ∷ marks.Done (q 0 513) (completion (q 0 513) true 0 1001 operations.Recv statuses.Flushed 0 None None) None ∷ marks.Done (q 0 513) (completion (q 0 513) true 1 1002 operations.Recv statuses.Flushed 0 None None) None ∷ [])
    ∷ []

abbrev configuration : Configuration
configuration = record { adapters = adapter (64 ∷ 70000 ∷ 256 ∷ []) 4 8 8 4 2 4 ∷ []; events = 131072 }

the_run : outcome_of configuration (map (λ e. e.event) history) ≡ Ok (map (λ e. e.marks) history)
unfolding row_of be_bytes packet_bytes number_at bth_at front_at reth_from atomic_from aeth_from number_from payload_at payload_behind body_in packet_in
the_run = refl
