-- Written by tools/check_traces from examples/traces/run-faulty-packets.trace and run-faulty-packets.setup.
-- The history of the trace, and what holds of it. For proofs only.
use Rattle.std.proofs.Common.{◌≡◌, List, [], ◌∷◌, map, true, false, None, Some, Ok, refl}
use Rattle.ca_keys.specs.declared.access.Kind.TheVariants as kinds
use Rattle.ca_keys.specs.declared.access.Denial.TheVariants as denials
use Rattle.ca_base.specs.declared.change.Change.TheVariants as changes
use Rattle.ca_base.specs.declared.completion.WcOp.TheVariants as operations
use Rattle.ca_base.specs.declared.completion.WcStatus.TheVariants as statuses
use Rattle.ca_base.specs.declared.lot.Lot.TheVariants as lots
use Rattle.ca_base.specs.declared.request.SendOp.TheVariants as ops
use Rattle.ca_keys.specs.declared.verdict.Verdict.TheVariants as verdicts
use Rattle.ca_wire.specs.declared.wire_error.WireError.TheVariants as wire
use Rattle.ca_model.specs.declared.answer.Answer.TheVariants as answers
use Rattle.ca_model.specs.declared.answer.Refusal.TheVariants as refusals
use Rattle.ca_model.specs.declared.event.Event.TheVariants as events
use Rattle.ca_model.specs.declared.mark.Drop1.TheVariants as drops
use Rattle.ca_model.specs.declared.mark.Mark.TheVariants as marks
use Rattle.ca_model.specs.declared.verb.Verb.TheVariants as verbs
use Rattle.ca_base.specs.Configuration.{Configuration}
use Rattle.ca_wire.specs.Decoding.{number_at, bth_at, front_at, reth_from, atomic_from, aeth_from, number_from, payload_at, payload_behind, body_in, packet_in}
use Rattle.ca_wire.specs.Packet.{be_bytes, packet_bytes}
use Rattle.ca_wire.specs.Table.{row_of}
use Rattle.ca_model.specs.Entries.{EntryValue}
use Rattle.ca_model.specs.machine.Run.{run as outcome_of}
use Rattle.ca_model.proofs.Literals.{d, s, q, k, r, run, piece, list, request, receive, completion, grant, entry, adapter}
use Rattle.ca_model_traces.proofs.Entries.{called, hex}

abbrev history : List EntryValue
history =
    called 0 0 1 (verbs.AllocPd (d 0 1)) answers.Fine []
    ∷ called 1 0 0 (verbs.AllocPd (d 0 0)) answers.Fine []
    ∷ called 2 0 2 (verbs.PostSend (s 0 1 2) (request 3 false false false (ops.FetchAdd 4294967448 (k 16777729) 5 (list ((piece 1 4294967387 0) ∷ (piece 16777473 4294967457 8) ∷ []))))) (answers.Refused refusals.NoSuch) []
    ∷ called 3 0 0 (verbs.CreateCq (s 0 0 0) 10) answers.Fine []
    ∷ called 4 0 2 (verbs.Poll (s 0 1 1) 16 0) (answers.Refused refusals.NoSuch) []
    ∷ called 5 0 0 (verbs.CreateSrq (s 0 0 0) 8) answers.Fine []
    ∷ called 6 0 1 (verbs.CreateCq (s 0 1 0) 15) answers.Fine []
    ∷ called 7 0 1 (verbs.CreateCq (s 0 1 1) 28) answers.Fine []
    ∷ called 8 0 0 (verbs.CreateQp (s 0 0 0) 0 0 2 0 (Some 0)) (answers.Queue 256 1) []
    ∷ called 9 0 1 (verbs.CreateQp (s 0 1 0) 0 1 4 8 None) (answers.Queue 512 1) []
    ∷ called 10 0 1 (verbs.CreateQp (s 0 1 1) 0 0 4 4 None) (answers.Queue 513 1) []
    ∷ called 11 0 0 (verbs.RegMr (s 0 0 0) 0 8 248 (r true true true true true)) (answers.Key (k 1)) (marks.Granted (grant (k 1) (d 0 0) None true 4294967304 248 (r true true true true true) ((run 0 0 8 248) ∷ [])) ∷ [])
    ∷ called 12 0 1 (verbs.CreateQp (s 0 1 2) 1 0 4 2 None) (answers.Queue 514 1) []
    ∷ called 13 0 0 (verbs.AllocMr (s 0 0 4) 1) answers.Fine []
    ∷ called 14 0 1 (verbs.RegMr (s 0 1 0) 0 0 128 (r true true true true true)) (answers.Key (k 16777217)) (marks.Granted (grant (k 16777217) (d 0 1) None true 4294967296 128 (r true true true true true) ((run 0 0 0 128) ∷ [])) ∷ [])
    ∷ called 15 0 0 (verbs.ModifyQp (s 0 0 0) changes.Init) answers.Fine []
    ∷ called 16 0 1 (verbs.RegMr (s 0 1 1) 0 0 256 (r true true true true true)) (answers.Key (k 16777473)) (marks.Granted (grant (k 16777473) (d 0 1) None true 4294967296 256 (r true true true true true) ((run 0 0 0 256) ∷ [])) ∷ [])
    ∷ called 17 0 1 (verbs.RegMr (s 0 1 2) 0 3 253 (r true true true true true)) (answers.Key (k 16777729)) (marks.Granted (grant (k 16777729) (d 0 1) None true 4294967299 253 (r true true true true true) ((run 0 0 3 253) ∷ [])) ∷ [])
    ∷ called 18 0 1 (verbs.AllocMr (s 0 1 3) 4) answers.Fine []
    ∷ called 19 0 0 (verbs.ModifyQp (s 0 0 0) (changes.Rtr (q 0 513) 1 16777215 256 26)) answers.Fine []
    ∷ called 20 0 0 (verbs.ModifyQp (s 0 0 0) (changes.Rts 1 2 7 16)) answers.Fine []
    ∷ called 21 0 1 (verbs.AllocMw (s 0 1 0) 1) answers.Fine []
    ∷ called 22 0 0 (verbs.PostRecv (s 0 0 0) (receive 1001 (list ((piece 1 4294967304 3575) ∷ (piece 1 4294967304 4425) ∷ [])))) (answers.Refused refusals.HasSrq) []
    ∷ called 23 0 0 (verbs.Poll (s 0 0 0) 16 0) (answers.Polled ([])) []
    ∷ called 24 0 0 (verbs.PostSrq (s 0 0 0) (receive 1002 (list ((piece 1 4294967304 368) ∷ (piece 1 4294967359 173) ∷ (piece 1 0 452) ∷ (piece 1 4294967437 7) ∷ [])))) (answers.Posted None) []
    ∷ called 25 0 1 (verbs.ModifyQp (s 0 1 0) changes.Init) answers.Fine []
    ∷ called 26 0 1 (verbs.ModifyQp (s 0 1 0) (changes.Rtr (q 0 514) 1 0 256 1)) answers.Fine []
    ∷ called 27 0 0 (verbs.PostSrq (s 0 0 0) (receive 1003 (list ((piece 1 4294967304 1449) ∷ (piece 1 4294967551 2712) ∷ (piece 1 4294967304 3839) ∷ [])))) (answers.Posted None) []
    ∷ called 28 0 1 (verbs.ModifyQp (s 0 1 0) (changes.Rts 0 2 7 16)) answers.Fine []
    ∷ called 29 0 0 (verbs.PostSend (s 0 0 0) (request 4 true false false (ops.CmpSwap 4294967344 (k 16777729) 0 7 (list ((piece 1 0 8) ∷ []))))) (answers.Posted None) []
    ∷ entry 30 0 (events.Request (q 0 256) lots.Pass) (marks.Sent (q 0 256) (q 0 513) None (Some 0) (hex "1300ffff000002018000000100000001000000300100020100000000000000070000000000000000") ∷ marks.Lost (q 0 513) None ∷ [])
    ∷ called 31 0 1 (verbs.PostRecv (s 0 1 0) (receive 1001 (list ((piece 16777985 4294967299 512) ∷ [])))) (answers.Posted None) []
    ∷ called 32 0 1 (verbs.PostRecv (s 0 1 0) (receive 1002 (list ((piece 16777217 4294967296 909) ∷ (piece 16777473 4294967296 4779) ∷ (piece 16777217 4294967296 2312) ∷ [])))) (answers.Posted None) []
    ∷ called 33 0 0 (verbs.Inject (q 0 256) (hex "0e6dffff0000012f80fffffe")) answers.Fine (marks.Arrived (q 0 256) None ∷ marks.Dropped (q 0 256) (drops.Wire wire.Version) ∷ [])
    ∷ called 34 0 1 (verbs.Poll (s 0 1 1) 16 0) (answers.Polled ([])) []
    ∷ called 35 0 0 (verbs.Inject (q 0 256) (hex "13507fff000001000000006300000001000000080000000100000000000000250000000000000005")) answers.Fine (marks.Arrived (q 0 256) None ∷ marks.Dropped (q 0 256) (drops.Wire wire.Pad) ∷ [])
    ∷ called 36 0 0 (verbs.Inject (q 0 256) (hex "0680ffff00000100800000650000000100000008000000")) answers.Fine (marks.Arrived (q 0 256) None ∷ marks.Dropped (q 0 256) (drops.Wire wire.TooShort) ∷ [])
    ∷ called 37 0 1 (verbs.PostRecv (s 0 1 0) (receive 1003 (list ((piece 16777217 4294967352 29) ∷ (piece 16777217 4294967296 971) ∷ [])))) (answers.Posted None) []
    ∷ called 38 0 1 (verbs.PostRecv (s 0 1 0) (receive 1004 (list ((piece 16777729 4294967356 196) ∷ (piece 16777473 4294967352 28) ∷ (piece 16777217 4294967296 625) ∷ (piece 16777729 4294967305 151) ∷ [])))) (answers.Posted None) []
    ∷ called 39 0 1 (verbs.ModifyQp (s 0 1 2) changes.Init) answers.Fine []
    ∷ called 40 0 1 (verbs.ModifyQp (s 0 1 2) (changes.Rtr (q 0 512) 1 0 256 5)) answers.Fine []
    ∷ called 41 0 1 (verbs.ModifyQp (s 0 1 2) (changes.Rts 0 2 0 16)) answers.Fine []
    ∷ called 42 0 1 (verbs.PostRecv (s 0 1 2) (receive 1001 (list ((piece 16777473 4294967296 8000) ∷ [])))) (answers.Posted None) []
    ∷ called 43 0 1 (verbs.ModifyQp (s 0 1 1) changes.Init) answers.Fine []
    ∷ entry 44 0 (events.Timeout (q 0 256) false) (marks.Timer (q 0 256) true ∷ [])
    ∷ called 45 0 1 (verbs.ModifyQp (s 0 1 1) (changes.Rtr (q 0 256) 1 1 256 16)) answers.Fine []
    ∷ called 46 0 1 (verbs.ModifyQp (s 0 1 1) (changes.Rts 16777215 7 0 16)) answers.Fine []
    ∷ entry 47 0 (events.Request (q 0 256) lots.Pass) (marks.Sent (q 0 256) (q 0 513) (Some 0) (Some 0) (hex "1300ffff000002018000000100000001000000300100020100000000000000070000000000000000") ∷ [])
    ∷ called 48 0 1 (verbs.PostRecv (s 0 1 1) (receive 1001 (list ((piece 16777729 4294967299 8000) ∷ [])))) (answers.Posted None) []
    ∷ entry 49 0 (events.Deliver (q 0 513) 0) (marks.Arrived (q 0 513) (Some 0) ∷ marks.Remote (q 0 513) (d 0 1) (Some 0) (k 16777729) kinds.CmpSwap 4294967344 8 (verdicts.Swapped 0 7) ∷ [])
    ∷ called 50 0 1 (verbs.PostRecv (s 0 1 1) (receive 1002 (list ((piece 16777217 4294967296 8000) ∷ [])))) (answers.Posted None) []
    ∷ called 51 0 1 (verbs.Poll (s 0 1 0) 16 0) (answers.Polled ([])) []
    ∷ entry 52 0 (events.Deliver (q 0 513) 0) (marks.Arrived (q 0 513) (Some 0) ∷ [])
    ∷ called 53 0 1 (verbs.PostRecv (s 0 1 1) (receive 1003 (list ((piece 16777217 4294967296 8000) ∷ [])))) (answers.Posted None) []
    ∷ entry 54 0 (events.Deliver (q 0 513) 0) (marks.Arrived (q 0 513) (Some 0) ∷ [])
    ∷ called 55 0 1 (verbs.PostRecv (s 0 1 1) (receive 1004 (list ((piece 16777729 4294967299 8000) ∷ [])))) (answers.Posted None) []
    ∷ entry 56 0 (events.Deliver (q 0 513) 0) (marks.Arrived (q 0 513) (Some 0) ∷ [])
    ∷ called 57 0 1 (verbs.PostSend (s 0 1 2) (request 2 true false false (ops.WriteImm 4294967299 (k 16777729) 3554069365 (list ((piece 16777217 4294967315 100) ∷ (piece 16777729 4294967353 93) ∷ (piece 16777473 4294967296 254) ∷ (piece 16777729 4294967343 65) ∷ []))))) (answers.Posted None) []
    ∷ called 58 0 1 (verbs.PostRecv (s 0 1 1) (receive 1005 (list ((piece 16777473 4294967296 405) ∷ (piece 16777729 4294967299 643) ∷ (piece 16777473 4294967296 2193) ∷ (piece 16777217 4294967296 4759) ∷ [])))) (answers.Refused refusals.QueueFull) []
    ∷ entry 59 0 (events.Deliver (q 0 513) 0) (marks.Arrived (q 0 513) (Some 0) ∷ [])
    ∷ entry 60 0 (events.Deliver (q 0 513) 0) (marks.Arrived (q 0 513) (Some 0) ∷ [])
    ∷ called 61 0 1 (verbs.PostRecv (s 0 1 1) (receive 1006 (list ((piece 16777729 4294967368 4) ∷ [])))) (answers.Refused refusals.QueueFull) []
    ∷ called 62 0 1 (verbs.PostRecv (s 0 1 1) (receive 1007 (list ((piece 16777217 4294967394 30) ∷ (piece 16777473 4294967355 15) ∷ (piece 16777473 4294967298 18) ∷ (piece 16777473 4294967329 1) ∷ [])))) (answers.Refused refusals.QueueFull) []
    ∷ called 63 0 1 (verbs.PostSend (s 0 1 1) (request 8 true false false (ops.Read 4294967304 (k 1) (list ((piece 16777473 4294967296 269) ∷ (piece 16777217 4294967296 1275) ∷ (piece 16777473 4294967298 243) ∷ (piece 16777473 4294967312 213) ∷ []))))) (answers.Posted None) []
    ∷ entry 64 0 (events.Request (q 0 514) (lots.Repeat 0)) (marks.Local (q 0 514) (d 0 1) (k 16777217) kinds.Read 4294967315 100 (verdicts.Read (hex "00000000000000000000000000000000000000000000000000000000000700000000000000000000000000000000000000000000000000000000000000000000000000000000000000000000000000000000000000000000000000000000000000000000")) ∷ marks.Local (q 0 514) (d 0 1) (k 16777729) kinds.Read 4294967353 93 (verdicts.Read (hex "000000000000000000000000000000000000000000000000000000000000000000000000000000000000000000000000000000000000000000000000000000000000000000000000000000000000000000000000000000000000000000")) ∷ marks.Local (q 0 514) (d 0 1) (k 16777473) kinds.Read 4294967296 63 (verdicts.Read (hex "000000000000000000000000000000000000000000000000000000000000000000000000000000000000000000000000070000000000000000000000000000")) ∷ marks.Sent (q 0 514) (q 0 512) (Some 0) (Some 0) (hex "0600ffff00000200000000000000000100000003010002010000020000000000000000000000000000000000000000000000000000000000000700000000000000000000000000000000000000000000000000000000000000000000000000000000000000000000000000000000000000000000000000000000000000000000000000000000000000000000000000000000000000000000000000000000000000000000000000000000000000000000000000000000000000000000000000000000000000000000000000000000000000000000000000000000000000000000000000000000000000000000000000000000000000000000000000000000000000000000000000000000000000070000000000000000000000000000") ∷ [])
    ∷ called 65 0 1 (verbs.PostSend (s 0 1 1) (request 9 true false false (ops.FetchAdd 4294967472 (k 1) 1 (list ((piece 16777729 4294967389 6) ∷ (piece 16777473 4294967452 2) ∷ []))))) (answers.Posted None) []
    ∷ entry 66 0 (events.Deliver (q 0 513) 0) (marks.Arrived (q 0 513) (Some 0) ∷ [])
    ∷ entry 67 0 (events.Respond (q 0 513) (lots.Repeat 0)) (marks.Sent (q 0 513) (q 0 256) (Some 0) None (hex "1200ffff00000100000000011f0000010000000000000000") ∷ [])
    ∷ entry 68 0 (events.Request (q 0 514) lots.Pass) (marks.Local (q 0 514) (d 0 1) (k 16777473) kinds.Read 4294967359 191 (verdicts.Read (hex "0000000000000000000000000000000000000000000000000000000000000000000000000000000000000000000000000000000000000000000000000000000000000000000000000000000000000000000000000000000000000000000000000000000000000000000000000000000000000000000000000000000000000000000000000000000000000000000000000000000000000000000000000000000000000000000000000000000000000000000000000000000000000000000000")) ∷ marks.Local (q 0 514) (d 0 1) (k 16777729) kinds.Read 4294967343 65 (verdicts.Read (hex "0007000000000000000000000000000000000000000000000000000000000000000000000000000000000000000000000000000000000000000000000000000000")) ∷ marks.Sent (q 0 514) (q 0 512) (Some 1) (Some 0) (hex "0900ffff0000020080000001d3d6cb7500000000000000000000000000000000000000000000000000000000000000000000000000000000000000000000000000000000000000000000000000000000000000000000000000000000000000000000000000000000000000000000000000000000000000000000000000000000000000000000000000000000000000000000000000000000000000000000000000000000000000000000000000000000000000000000000000000000000000000000000000000000000000000000000007000000000000000000000000000000000000000000000000000000000000000000000000000000000000000000000000000000000000000000000000000000") ∷ [])
    ∷ entry 69 0 (events.Deliver (q 0 256) 0) (marks.Arrived (q 0 256) (Some 0) ∷ marks.Local (q 0 256) (d 0 0) (k 1) kinds.Write 0 8 (verdicts.Denied denials.OutOfRange) ∷ marks.Done (q 0 256) (completion (q 0 256) false 0 4 operations.CmpSwap statuses.LocalProtection 0 None None) None ∷ [])
    ∷ called 70 0 1 (verbs.PostSend (s 0 1 1) (request 10 true true false (ops.WriteImm 4294967512 (k 1) 2628910071 (list ((piece 16777473 4294967401 4) ∷ (piece 16777217 4294967342 3) ∷ (piece 16777473 4294967327 0) ∷ (piece 16777473 4294967542 1) ∷ []))))) (answers.Posted None) []
    ∷ called 71 0 1 (verbs.Poll (s 0 1 0) 16 0) (answers.Polled ([])) []
    ∷ entry 72 0 (events.Deliver (q 0 513) 0) (marks.Arrived (q 0 513) (Some 0) ∷ [])
    ∷ entry 73 0 (events.Deliver (q 0 513) 0) (marks.Arrived (q 0 513) (Some 0) ∷ [])
    ∷ entry 74 0 (events.Deliver (q 0 513) 0) (marks.Arrived (q 0 513) (Some 0) ∷ [])
    ∷ called 75 0 1 (verbs.Poll (s 0 1 0) 2 0) (answers.Polled ([])) []
    ∷ entry 76 0 (events.Deliver (q 0 256) 0) (marks.Arrived (q 0 256) (Some 0) ∷ marks.Dropped (q 0 256) drops.State ∷ [])
    ∷ entry 77 0 (events.Deliver (q 0 513) 0) (marks.Arrived (q 0 513) (Some 0) ∷ [])
    ∷ entry 78 0 (events.Request (q 0 513) lots.Pass) (marks.Sent (q 0 513) (q 0 256) (Some 1) (Some 0) (hex "0c00ffff0000010080ffffff000000010000000800000001000007d0") ∷ [])
    ∷ entry 79 0 (events.Deliver (q 0 512) 0) (marks.Arrived (q 0 512) (Some 0) ∷ marks.Remote (q 0 512) (d 0 1) (Some 0) (k 16777729) kinds.Write 4294967299 512 (verdicts.Denied denials.OutOfRange) ∷ marks.Done (q 0 512) (completion (q 0 512) true 0 1001 operations.Recv statuses.Flushed 0 None None) None ∷ marks.Done (q 0 512) (completion (q 0 512) true 1 1002 operations.Recv statuses.Flushed 0 None None) None ∷ marks.Done (q 0 512) (completion (q 0 512) true 2 1003 operations.Recv statuses.Flushed 0 None None) None ∷ marks.Done (q 0 512) (completion (q 0 512) true 3 1004 operations.Recv statuses.Flushed 0 None None) None ∷ [])
    ∷ entry 80 0 (events.Deliver (q 0 513) 0) (marks.Arrived (q 0 513) (Some 0) ∷ [])
    ∷ entry 81 0 (events.Respond (q 0 512) (lots.Hold 0)) (marks.Sent (q 0 512) (q 0 514) (Some 0) None (hex "1100ffff000002020000000062000000") ∷ [])
    ∷ entry 82 0 (events.Request (q 0 513) lots.Pass) (marks.Sent (q 0 513) (q 0 256) (Some 2) (Some 1) (hex "1400ffff000001008000000700000001000000b00000000100000000000000010000000000000000") ∷ [])
    ∷ entry 83 0 (events.Respond (q 0 513) lots.Pass) (marks.Sent (q 0 513) (q 0 256) (Some 3) None (hex "1200ffff00000100000000011f0000010000000000000000") ∷ [])
    ∷ entry 84 0 (events.Deliver (q 0 514) 0) (marks.Arrived (q 0 514) (Some 0) ∷ marks.Done (q 0 514) (completion (q 0 514) false 0 2 operations.Write statuses.RemoteAccess 0 None None) None ∷ marks.Done (q 0 514) (completion (q 0 514) true 0 1001 operations.Recv statuses.Flushed 0 None None) None ∷ [])
    ∷ entry 85 0 (events.Deliver (q 0 512) 1) (marks.Arrived (q 0 512) (Some 1) ∷ marks.Dropped (q 0 512) drops.State ∷ [])
    ∷ entry 86 0 (events.Deliver (q 0 512) 1) (marks.Arrived (q 0 512) (Some 1) ∷ marks.Dropped (q 0 512) drops.State ∷ [])
    ∷ entry 87 0 (events.Deliver (q 0 514) 0) (marks.Arrived (q 0 514) (Some 0) ∷ marks.Dropped (q 0 514) drops.State ∷ [])
    ∷ entry 88 0 (events.Deliver (q 0 514) 0) (marks.Arrived (q 0 514) (Some 0) ∷ marks.Dropped (q 0 514) drops.State ∷ [])
    ∷ entry 89 0 (events.Deliver (q 0 514) 0) (marks.Arrived (q 0 514) (Some 0) ∷ marks.Dropped (q 0 514) drops.State ∷ [])
    ∷ entry 90 0 (events.Deliver (q 0 256) 1) (marks.Arrived (q 0 256) (Some 1) ∷ marks.Dropped (q 0 256) drops.State ∷ [])
    ∷ entry 91 0 (events.Deliver (q 0 514) 0) (marks.Arrived (q 0 514) (Some 0) ∷ marks.Dropped (q 0 514) drops.State ∷ [])
    ∷ entry 92 0 (events.Deliver (q 0 514) 0) (marks.Arrived (q 0 514) (Some 0) ∷ marks.Dropped (q 0 514) drops.State ∷ [])
    ∷ entry 93 0 (events.Deliver (q 0 514) 0) (marks.Arrived (q 0 514) (Some 0) ∷ marks.Dropped (q 0 514) drops.State ∷ [])
    ∷ entry 94 0 (events.Deliver (q 0 514) 0) (marks.Arrived (q 0 514) (Some 0) ∷ marks.Dropped (q 0 514) drops.State ∷ [])
    ∷ entry 95 0 (events.Deliver (q 0 513) 0) (marks.Arrived (q 0 513) (Some 0) ∷ [])
    ∷ entry 96 0 (events.Respond (q 0 513) lots.Pass) (marks.Sent (q 0 513) (q 0 256) (Some 4) None (hex "1200ffff00000100000000011f0000010000000000000000") ∷ [])
    ∷ entry 97 0 (events.Timeout (q 0 513) true) (marks.Timer (q 0 513) false ∷ [])
    ∷ entry 98 0 (events.Deliver (q 0 512) 1) (marks.Arrived (q 0 512) (Some 1) ∷ marks.Dropped (q 0 512) drops.State ∷ [])
    ∷ entry 99 0 (events.Deliver (q 0 513) 0) (marks.Arrived (q 0 513) (Some 0) ∷ [])
    ∷ entry 100 0 (events.Request (q 0 513) (lots.Hold 2)) (marks.Sent (q 0 513) (q 0 256) (Some 5) (Some 0) (hex "0c00ffff0000010080ffffff000000010000000800000001000007d0") ∷ [])
    ∷ entry 101 0 (events.Respond (q 0 513) (lots.Hold 2)) (marks.Sent (q 0 513) (q 0 256) (Some 6) None (hex "1200ffff00000100000000011f0000010000000000000000") ∷ [])
    ∷ entry 102 0 (events.Request (q 0 513) lots.Pass) (marks.Sent (q 0 513) (q 0 256) (Some 7) (Some 1) (hex "1400ffff000001008000000700000001000000b00000000100000000000000010000000000000000") ∷ [])
    ∷ entry 103 0 (events.Deliver (q 0 513) 0) (marks.Arrived (q 0 513) (Some 0) ∷ [])
    ∷ entry 104 0 (events.Deliver (q 0 513) 0) (marks.Arrived (q 0 513) (Some 0) ∷ [])
    ∷ entry 105 0 (events.Deliver (q 0 514) 0) (marks.Arrived (q 0 514) (Some 0) ∷ marks.Dropped (q 0 514) drops.State ∷ [])
    ∷ entry 106 0 (events.Deliver (q 0 513) 0) (marks.Arrived (q 0 513) (Some 0) ∷ [])
    ∷ entry 107 0 (events.Deliver (q 0 512) 0) (marks.Arrived (q 0 512) (Some 0) ∷ marks.Dropped (q 0 512) drops.State ∷ [])
    ∷ entry 108 0 (events.Deliver (q 0 513) 0) (marks.Arrived (q 0 513) (Some 0) ∷ [])
    ∷ entry 109 0 (events.Deliver (q 0 512) 1) (marks.Arrived (q 0 512) (Some 1) ∷ marks.Dropped (q 0 512) drops.State ∷ [])
    ∷ entry 110 0 (events.Respond (q 0 513) lots.Lose) (marks.Sent (q 0 513) (q 0 256) (Some 8) None (hex "1200ffff00000100000000011f0000010000000000000000") ∷ marks.Lost (q 0 256) (Some 8) ∷ [])
    ∷ entry 111 0 (events.Deliver (q 0 512) 1) (marks.Arrived (q 0 512) (Some 1) ∷ marks.Dropped (q 0 512) drops.State ∷ [])
    ∷ entry 112 0 (events.Deliver (q 0 514) 0) (marks.Arrived (q 0 514) (Some 0) ∷ marks.Dropped (q 0 514) drops.State ∷ [])
    ∷ entry 113 0 (events.Deliver (q 0 513) 0) (marks.Arrived (q 0 513) (Some 0) ∷ [])
    ∷ entry 114 0 (events.Deliver (q 0 512) 0) (marks.Arrived (q 0 512) (Some 0) ∷ marks.Dropped (q 0 512) drops.State ∷ [])
    ∷ entry 115 0 (events.Deliver (q 0 256) 2) (marks.Arrived (q 0 256) (Some 2) ∷ marks.Dropped (q 0 256) drops.State ∷ [])
    ∷ entry 116 0 (events.Deliver (q 0 512) 0) (marks.Arrived (q 0 512) (Some 0) ∷ marks.Dropped (q 0 512) drops.State ∷ [])
    ∷ entry 117 0 (events.Deliver (q 0 256) 3) (marks.Arrived (q 0 256) (Some 3) ∷ marks.Dropped (q 0 256) drops.State ∷ [])
    ∷ entry 118 0 (events.Deliver (q 0 256) 4) (marks.Arrived (q 0 256) (Some 4) ∷ marks.Dropped (q 0 256) drops.State ∷ [])
    ∷ entry 119 0 (events.Deliver (q 0 514) 0) (marks.Arrived (q 0 514) (Some 0) ∷ marks.Dropped (q 0 514) drops.State ∷ [])
    ∷ entry 120 0 (events.Deliver (q 0 514) 0) (marks.Arrived (q 0 514) (Some 0) ∷ marks.Dropped (q 0 514) drops.State ∷ [])
    ∷ entry 121 0 (events.Deliver (q 0 514) 0) (marks.Arrived (q 0 514) (Some 0) ∷ marks.Dropped (q 0 514) drops.State ∷ [])
    ∷ entry 122 0 (events.Respond (q 0 513) lots.Pass) (marks.Sent (q 0 513) (q 0 256) (Some 9) None (hex "1200ffff00000100000000011f0000010000000000000000") ∷ [])
    ∷ entry 123 0 (events.Deliver (q 0 513) 0) (marks.Arrived (q 0 513) (Some 0) ∷ [])
    ∷ entry 124 0 (events.Deliver (q 0 512) 1) (marks.Arrived (q 0 512) (Some 1) ∷ marks.Dropped (q 0 512) drops.State ∷ [])
    ∷ entry 125 0 (events.Deliver (q 0 512) 0) (marks.Arrived (q 0 512) (Some 0) ∷ marks.Dropped (q 0 512) drops.State ∷ [])
    ∷ entry 126 0 (events.Deliver (q 0 514) 0) (marks.Arrived (q 0 514) (Some 0) ∷ marks.Dropped (q 0 514) drops.State ∷ [])
    ∷ entry 127 0 (events.Deliver (q 0 256) 7) (marks.Arrived (q 0 256) (Some 7) ∷ marks.Dropped (q 0 256) drops.State ∷ [])
    ∷ entry 128 0 (events.Deliver (q 0 256) 9) (marks.Arrived (q 0 256) (Some 9) ∷ marks.Dropped (q 0 256) drops.State ∷ [])
    ∷ entry 129 0 (events.Respond (q 0 513) lots.Pass) (marks.Sent (q 0 513) (q 0 256) (Some 10) None (hex "1200ffff00000100000000011f0000010000000000000000") ∷ [])
    ∷ entry 130 0 (events.Deliver (q 0 513) 0) (marks.Arrived (q 0 513) (Some 0) ∷ [])
    ∷ entry 131 0 (events.Deliver (q 0 514) 0) (marks.Arrived (q 0 514) (Some 0) ∷ marks.Dropped (q 0 514) drops.State ∷ [])
    ∷ entry 132 0 (events.Deliver (q 0 512) 0) (marks.Arrived (q 0 512) (Some 0) ∷ marks.Dropped (q 0 512) drops.State ∷ [])
    ∷ entry 133 0 (events.Deliver (q 0 514) 0) (marks.Arrived (q 0 514) (Some 0) ∷ marks.Dropped (q 0 514) drops.State ∷ [])
    ∷ entry 134 0 (events.Deliver (q 0 512) 1) (marks.Arrived (q 0 512) (Some 1) ∷ marks.Dropped (q 0 512) drops.State ∷ [])
    ∷ entry 135 0 (events.Deliver (q 0 256) 5) (marks.Arrived (q 0 256) (Some 5) ∷ marks.Dropped (q 0 256) drops.State ∷ [])
    ∷ entry 136 0 (events.Deliver (q 0 514) 0) (marks.Arrived (q 0 514) (Some 0) ∷ marks.Dropped (q 0 514) drops.State ∷ [])
    ∷ entry 137 0 (events.Deliver (q 0 514) 0) (marks.Arrived (q 0 514) (Some 0) ∷ marks.Dropped (q 0 514) drops.State ∷ [])
    ∷ entry 138 0 (events.Deliver (q 0 514) 0) (marks.Arrived (q 0 514) (Some 0) ∷ marks.Dropped (q 0 514) drops.State ∷ [])
    ∷ entry 139 0 (events.Deliver (q 0 256) 0) (marks.Arrived (q 0 256) (Some 0) ∷ marks.Dropped (q 0 256) drops.State ∷ [])
    ∷ entry 140 0 (events.Deliver (q 0 513) 0) (marks.Arrived (q 0 513) (Some 0) ∷ [])
    ∷ entry 141 0 (events.Deliver (q 0 256) 9) (marks.Arrived (q 0 256) (Some 9) ∷ marks.Dropped (q 0 256) drops.State ∷ [])
    ∷ entry 142 0 (events.Deliver (q 0 512) 1) (marks.Arrived (q 0 512) (Some 1) ∷ marks.Dropped (q 0 512) drops.State ∷ [])
    ∷ entry 143 0 (events.Deliver (q 0 256) 6) (marks.Arrived (q 0 256) (Some 6) ∷ marks.Dropped (q 0 256) drops.State ∷ [])
    ∷ entry 144 0 (events.Deliver (q 0 514) 0) (marks.Arrived (q 0 514) (Some 0) ∷ marks.Dropped (q 0 514) drops.State ∷ [])
    ∷ entry 145 0 (events.Deliver (q 0 513) 0) (marks.Arrived (q 0 513) (Some 0) ∷ [])
    ∷ entry 146 0 (events.Deliver (q 0 512) 1) (marks.Arrived (q 0 512) (Some 1) ∷ marks.Dropped (q 0 512) drops.State ∷ [])
    ∷ entry 147 0 (events.Deliver (q 0 513) 0) (marks.Arrived (q 0 513) (Some 0) ∷ [])
    ∷ entry 148 0 (events.Deliver (q 0 513) 0) (marks.Arrived (q 0 513) (Some 0) ∷ [])
    ∷ entry 149 0 (events.Deliver (q 0 514) 0) (marks.Arrived (q 0 514) (Some 0) ∷ marks.Dropped (q 0 514) drops.State ∷ [])
    ∷ entry 150 0 (events.Deliver (q 0 512) 1) (marks.Arrived (q 0 512) (Some 1) ∷ marks.Dropped (q 0 512) drops.State ∷ [])
    ∷ entry 151 0 (events.Deliver (q 0 256) 1) (marks.Arrived (q 0 256) (Some 1) ∷ marks.Dropped (q 0 256) drops.State ∷ [])
    ∷ entry 152 0 (events.Deliver (q 0 512) 1) (marks.Arrived (q 0 512) (Some 1) ∷ marks.Dropped (q 0 512) drops.State ∷ [])
    ∷ entry 153 0 (events.Deliver (q 0 256) 10) (marks.Arrived (q 0 256) (Some 10) ∷ marks.Dropped (q 0 256) drops.State ∷ [])
    ∷ entry 154 0 (events.Deliver (q 0 514) 0) (marks.Arrived (q 0 514) (Some 0) ∷ marks.Dropped (q 0 514) drops.State ∷ [])
    ∷ entry 155 0 (events.Deliver (q 0 513) 0) (marks.Arrived (q 0 513) (Some 0) ∷ [])
    ∷ entry 156 0 (events.Deliver (q 0 256) 3) (marks.Arrived (q 0 256) (Some 3) ∷ marks.Dropped (q 0 256) drops.State ∷ [])
    ∷ entry 157 0 (events.Deliver (q 0 513) 0) (marks.Arrived (q 0 513) (Some 0) ∷ [])
    ∷ entry 158 0 (events.Deliver (q 0 512) 0) (marks.Arrived (q 0 512) (Some 0) ∷ marks.Dropped (q 0 512) drops.State ∷ [])
    ∷ entry 159 0 (events.Deliver (q 0 514) 0) (marks.Arrived (q 0 514) (Some 0) ∷ marks.Dropped (q 0 514) drops.State ∷ [])
    ∷ entry 160 0 (events.Deliver (q 0 256) 5) (marks.Arrived (q 0 256) (Some 5) ∷ marks.Dropped (q 0 256) drops.State ∷ [])
    ∷ entry 161 0 (events.Deliver (q 0 514) 0) (marks.Arrived (q 0 514) (Some 0) ∷ marks.Dropped (q 0 514) drops.State ∷ [])
    ∷ entry 162 0 (events.Deliver (q 0 513) 0) (marks.Arrived (q 0 513) (Some 0) ∷ [])
    ∷ entry 163 0 (events.Deliver (q 0 513) 0) (marks.Arrived (q 0 513) (Some 0) ∷ [])
    ∷ entry 164 0 (events.Deliver (q 0 513) 0) (marks.Arrived (q 0 513) (Some 0) ∷ [])
    ∷ entry 165 0 (events.Deliver (q 0 512) 0) (marks.Arrived (q 0 512) (Some 0) ∷ marks.Dropped (q 0 512) drops.State ∷ [])
    ∷ entry 166 0 (events.Deliver (q 0 514) 0) (marks.Arrived (q 0 514) (Some 0) ∷ marks.Dropped (q 0 514) drops.State ∷ [])
    ∷ entry 167 0 (events.Deliver (q 0 512) 1) (marks.Arrived (q 0 512) (Some 1) ∷ marks.Dropped (q 0 512) drops.State ∷ [])
    ∷ entry 168 0 (events.Deliver (q 0 514) 0) (marks.Arrived (q 0 514) (Some 0) ∷ marks.Dropped (q 0 514) drops.State ∷ [])
    ∷ entry 169 0 (events.Deliver (q 0 512) 1) (marks.Arrived (q 0 512) (Some 1) ∷ marks.Dropped (q 0 512) drops.State ∷ [])
    ∷ entry 170 0 (events.Deliver (q 0 256) 9) (marks.Arrived (q 0 256) (Some 9) ∷ marks.Dropped (q 0 256) drops.State ∷ [])
    ∷ entry 171 0 (events.Deliver (q 0 256) 0) (marks.Arrived (q 0 256) (Some 0) ∷ marks.Dropped (q 0 256) drops.State ∷ [])
    ∷ entry 172 0 (events.Deliver (q 0 514) 0) (marks.Arrived (q 0 514) (Some 0) ∷ marks.Dropped (q 0 514) drops.State ∷ [])
    ∷ entry 173 0 (events.Deliver (q 0 256) 7) (marks.Arrived (q 0 256) (Some 7) ∷ marks.Dropped (q 0 256) drops.State ∷ [])
    ∷ entry 174 0 (events.Deliver (q 0 514) 0) (marks.Arrived (q 0 514) (Some 0) ∷ marks.Dropped (q 0 514) drops.State ∷ [])
    ∷ entry 175 0 (events.Deliver (q 0 514) 0) (marks.Arrived (q 0 514) (Some 0) ∷ marks.Dropped (q 0 514) drops.State ∷ [])
    ∷ entry 176 0 (events.Deliver (q 0 513) 0) (marks.Arrived (q 0 513) (Some 0) ∷ [])
    ∷ entry 177 0 (events.Respond (q 0 513) (lots.Repeat 1)) (marks.Sent (q 0 513) (q 0 256) (Some 11) None (hex "1200ffff00000100000000011f0000010000000000000000") ∷ [])
    ∷ entry 178 0 (events.Deliver (q 0 513) 0) (marks.Arrived (q 0 513) (Some 0) ∷ [])
    ∷ entry 179 0 (events.Deliver (q 0 514) 0) (marks.Arrived (q 0 514) (Some 0) ∷ marks.Dropped (q 0 514) drops.State ∷ [])
    ∷ entry 180 0 (events.Deliver (q 0 513) 0) (marks.Arrived (q 0 513) (Some 0) ∷ [])
    ∷ entry 181 0 (events.Respond (q 0 513) lots.Pass) (marks.Sent (q 0 513) (q 0 256) (Some 12) None (hex "1200ffff00000100000000011f0000010000000000000000") ∷ [])
    ∷ entry 182 0 (events.Deliver (q 0 512) 0) (marks.Arrived (q 0 512) (Some 0) ∷ marks.Dropped (q 0 512) drops.State ∷ [])
    ∷ entry 183 0 (events.Deliver (q 0 512) 0) (marks.Arrived (q 0 512) (Some 0) ∷ marks.Dropped (q 0 512) drops.State ∷ [])
    ∷ entry 184 0 (events.Deliver (q 0 256) 6) (marks.Arrived (q 0 256) (Some 6) ∷ marks.Dropped (q 0 256) drops.State ∷ [])
    ∷ entry 185 0 (events.Deliver (q 0 256) 11) (marks.Arrived (q 0 256) (Some 11) ∷ marks.Dropped (q 0 256) drops.State ∷ [])
    ∷ entry 186 0 (events.Deliver (q 0 513) 0) (marks.Arrived (q 0 513) (Some 0) ∷ [])
    ∷ entry 187 0 (events.Respond (q 0 513) (lots.Hold 2)) (marks.Sent (q 0 513) (q 0 256) (Some 13) None (hex "1200ffff00000100000000011f0000010000000000000000") ∷ [])
    ∷ entry 188 0 (events.Deliver (q 0 513) 0) (marks.Arrived (q 0 513) (Some 0) ∷ [])
    ∷ entry 189 0 (events.Deliver (q 0 256) 13) (marks.Arrived (q 0 256) (Some 13) ∷ marks.Dropped (q 0 256) drops.State ∷ [])
    ∷ entry 190 0 (events.Deliver (q 0 512) 0) (marks.Arrived (q 0 512) (Some 0) ∷ marks.Dropped (q 0 512) drops.State ∷ [])
    ∷ entry 191 0 (events.Respond (q 0 513) lots.Pass) (marks.Sent (q 0 513) (q 0 256) (Some 14) None (hex "1200ffff00000100000000011f0000010000000000000000") ∷ [])
    ∷ entry 192 0 (events.Deliver (q 0 256) 11) (marks.Arrived (q 0 256) (Some 11) ∷ marks.Dropped (q 0 256) drops.State ∷ [])
    ∷ entry 193 0 (events.Deliver (q 0 256) 12) (marks.Arrived (q 0 256) (Some 12) ∷ marks.Dropped (q 0 256) drops.State ∷ [])
    ∷ entry 194 0 (events.Deliver (q 0 256) 12) (marks.Arrived (q 0 256) (Some 12) ∷ marks.Dropped (q 0 256) drops.State ∷ [])
    ∷ entry 195 0 (events.Deliver (q 0 514) 0) (marks.Arrived (q 0 514) (Some 0) ∷ marks.Dropped (q 0 514) drops.State ∷ [])
    ∷ entry 196 0 (events.Deliver (q 0 514) 0) (marks.Arrived (q 0 514) (Some 0) ∷ marks.Dropped (q 0 514) drops.State ∷ [])
    ∷ entry 197 0 (events.Deliver (q 0 513) 0) (marks.Arrived (q 0 513) (Some 0) ∷ [])
    ∷ entry 198 0 (events.Deliver (q 0 514) 0) (marks.Arrived (q 0 514) (Some 0) ∷ marks.Dropped (q 0 514) drops.State ∷ [])
    ∷ entry 199 0 (events.Deliver (q 0 513) 0) (marks.Arrived (q 0 513) (Some 0) ∷ [])
    ∷ []

abbrev configuration : Configuration
configuration = record { adapters = adapter (256 ∷ []) 4 8 8 4 2 4 ∷ []; events = 131072 }

the_run : outcome_of configuration (map (λ e. e.event) history) ≡ Ok (map (λ e. e.marks) history)
unfolding row_of be_bytes packet_bytes number_at bth_at front_at reth_from atomic_from aeth_from number_from payload_at payload_behind body_in packet_in
the_run = refl
