-- Written by tools/check_traces from examples/traces/run-fast-registration-outside-its-buffer.trace and run-fast-registration-outside-its-buffer.setup.
-- The history of the trace, and what holds of it. For proofs only.
use Rattle.std.proofs.Common.{◌≡◌, List, [], ◌∷◌, map, true, false, None, Some, Ok, refl}
use Rattle.ca_keys.specs.declared.access.Kind.TheVariants as kinds
use Rattle.ca_keys.specs.declared.access.Denial.TheVariants as denials
use Rattle.ca_base.specs.declared.change.Change.TheVariants as changes
use Rattle.ca_base.specs.declared.change.Field.TheVariants as fields
use Rattle.ca_base.specs.declared.change.State.TheVariants as states
use Rattle.ca_base.specs.declared.completion.WcOp.TheVariants as operations
use Rattle.ca_base.specs.declared.completion.WcStatus.TheVariants as statuses
use Rattle.ca_base.specs.declared.lot.Lot.TheVariants as lots
use Rattle.ca_base.specs.declared.refusals.OpRefusal.TheVariants as causes
use Rattle.ca_base.specs.declared.refusals.RegionError.TheVariants as regions
use Rattle.ca_base.specs.declared.refusals.WindowError.TheVariants as windows
use Rattle.ca_base.specs.declared.request.SendOp.TheVariants as ops
use Rattle.ca_keys.specs.declared.verdict.Verdict.TheVariants as verdicts
use Rattle.ca_model.specs.declared.answer.Answer.TheVariants as answers
use Rattle.ca_model.specs.declared.answer.Refusal.TheVariants as refusals
use Rattle.ca_model.specs.declared.event.Event.TheVariants as events
use Rattle.ca_model.specs.declared.mark.Drop1.TheVariants as drops
use Rattle.ca_model.specs.declared.mark.Mark.TheVariants as marks
use Rattle.ca_model.specs.declared.verb.Verb.TheVariants as verbs
use Rattle.ca_base.specs.Configuration.{Configuration}
use Rattle.ca_wire.specs.Decoding.{number_at, bth_at, front_at, reth_from, atomic_from, aeth_from, number_from, payload_at, payload_behind, body_in, packet_in}
use Rattle.ca_wire.specs.Packet.{be_bytes, packet_bytes}
use Rattle.ca_wire.specs.Table.{row_of}
use Rattle.ca_model.specs.Entries.{EntryValue}
use Rattle.ca_model.specs.machine.Run.{run as outcome_of}
use Rattle.ca_model.proofs.Literals.{d, s, q, k, r, run, place, piece, list, request, receive, completion, grant, entry, adapter}
use Rattle.ca_model_traces.proofs.Entries.{called, hex}

abbrev history : List EntryValue
history =
    called 0 0 3 (verbs.AllocPd (d 1 1)) answers.Fine []
    ∷ called 1 0 5 (verbs.AllocPd (d 2 0)) answers.Fine []
    ∷ called 2 0 7 (verbs.AllocPd (d 2 2)) answers.Fine []
    ∷ called 3 0 0 (verbs.AllocPd (d 0 0)) answers.Fine []
    ∷ called 4 0 4 (verbs.AllocPd (d 1 2)) answers.Fine []
    ∷ called 5 0 7 (verbs.CreateCq (s 2 2 0) 6) answers.Fine []
    ∷ called 6 0 6 (verbs.AllocPd (d 2 1)) answers.Fine []
    ∷ called 7 0 5 (verbs.CreateCq (s 2 0 0) 1) answers.Fine []
    ∷ called 8 0 1 (verbs.AllocPd (d 0 1)) answers.Fine []
    ∷ called 9 0 0 (verbs.CreateCq (s 0 0 0) 34) answers.Fine []
    ∷ called 10 0 2 (verbs.AllocPd (d 1 0)) answers.Fine []
    ∷ called 11 0 6 (verbs.CreateCq (s 2 1 0) 4) answers.Fine []
    ∷ called 12 0 2 (verbs.CreateCq (s 1 0 0) 7) answers.Fine []
    ∷ called 13 0 1 (verbs.CreateCq (s 0 1 0) 13) answers.Fine []
    ∷ called 14 0 7 (verbs.CreateQp (s 2 2 0) 0 0 2 4 None) (answers.Queue 768 1) []
    ∷ called 15 0 6 (verbs.CreateCq (s 2 1 1) 4) answers.Fine []
    ∷ called 16 0 3 (verbs.CreateCq (s 1 1 0) 1) answers.Fine []
    ∷ called 17 0 3 (verbs.CreateCq (s 1 1 1) 4097) (answers.Refused (refusals.OutOfRange fields.Capacity)) []
    ∷ called 18 0 4 (verbs.CreateCq (s 1 2 0) 1) answers.Fine []
    ∷ called 19 0 4 (verbs.CreateCq (s 1 2 1) 17) answers.Fine []
    ∷ called 20 0 0 (verbs.CreateSrq (s 0 0 0) 2) answers.Fine []
    ∷ called 21 0 5 (verbs.CreateCq (s 2 0 1) 5) answers.Fine []
    ∷ called 22 0 1 (verbs.CreateSrq (s 0 1 0) 2) answers.Fine []
    ∷ called 23 0 2 (verbs.CreateCq (s 1 0 1) 8) answers.Fine []
    ∷ called 24 0 7 (verbs.RegMr (s 2 2 0) 0 0 2048 (r true true true true true)) (answers.Key (k 33554433)) (marks.Granted (grant (k 33554433) (d 2 2) None true 4294967296 2048 (r true true true true true) ((run 2 0 0 2048) ∷ [])) ∷ [])
    ∷ called 25 0 6 (verbs.CreateQp (s 2 1 0) 1 0 4 4 None) (answers.Queue 512 1) []
    ∷ called 26 0 4 (verbs.CreateQp (s 1 2 0) 1 0 16 1 None) (answers.Queue 768 1) []
    ∷ called 27 0 2 (verbs.CreateQp (s 1 0 0) 1 0 4 1 None) (answers.Queue 256 1) []
    ∷ called 28 0 4 (verbs.RegMr (s 1 2 0) 0 0 8192 (r true false true true true)) (answers.Key (k 33554433)) (marks.Granted (grant (k 33554433) (d 1 2) None true 4294967296 8192 (r true false true true true) ((run 1 0 0 8192) ∷ [])) ∷ [])
    ∷ called 29 0 5 (verbs.CreateCq (s 2 0 2) 2) answers.Fine []
    ∷ called 30 0 0 (verbs.CreateQp (s 0 0 0) 0 0 16 2 None) (answers.Queue 256 1) []
    ∷ called 31 0 1 (verbs.CreateQp (s 0 1 0) 0 0 4 0 (Some 0)) (answers.Queue 512 1) []
    ∷ called 32 0 7 (verbs.AllocMr (s 2 2 4) 4) answers.Fine []
    ∷ called 33 0 3 (verbs.CreateSrq (s 1 1 0) 4) answers.Fine []
    ∷ called 34 0 3 (verbs.CreateQp (s 1 1 0) 1 1 16 0 (Some 0)) (answers.Refused refusals.NoSuch) []
    ∷ called 35 0 2 (verbs.CreateQp (s 1 0 1) 0 0 2 2 None) (answers.Queue 257 1) []
    ∷ called 36 0 1 (verbs.RegMr (s 0 1 0) 0 64 69936 (r true true true true true)) (answers.Key (k 16777217)) (marks.Granted (grant (k 16777217) (d 0 1) None true 4294967360 69936 (r true true true true true) ((run 0 0 64 69936) ∷ [])) ∷ [])
    ∷ called 37 0 6 (verbs.RegMr (s 2 1 0) 0 0 4097 (r true true true true true)) (answers.Refused refusals.OutsideBuffer) []
    ∷ called 38 0 0 (verbs.RegMr (s 0 0 0) 0 3 69997 (r true true true true true)) (answers.Key (k 1)) (marks.Granted (grant (k 1) (d 0 0) None true 4294967299 69997 (r true true true true true) ((run 0 0 3 69997) ∷ [])) ∷ [])
    ∷ called 39 0 5 (verbs.CreateQp (s 2 0 0) 2 1 2 4 None) (answers.Queue 256 1) []
    ∷ called 40 0 0 (verbs.RegMr (s 0 0 1) 0 0 0 (r true true true true true)) (answers.Refused refusals.Empty) []
    ∷ called 41 0 2 (verbs.CreateQp (s 1 0 2) 1 0 4 2 None) (answers.Queue 258 1) []
    ∷ called 42 0 7 (verbs.ModifyQp (s 2 2 0) changes.Init) answers.Fine []
    ∷ called 43 0 4 (verbs.RegMr (s 1 2 1) 0 0 16384 (r true true true true true)) (answers.Key (k 33554689)) (marks.Granted (grant (k 33554689) (d 1 2) None true 4294967296 16384 (r true true true true true) ((run 1 0 0 16384) ∷ [])) ∷ [])
    ∷ called 44 0 6 (verbs.RegMr (s 2 1 1) 0 0 4096 (r true true true true true)) (answers.Key (k 16777473)) (marks.Granted (grant (k 16777473) (d 2 1) None true 4294967296 4096 (r true true true true true) ((run 2 0 0 4096) ∷ [])) ∷ [])
    ∷ called 45 0 1 (verbs.RegMr (s 0 1 1) 0 35000 35000 (r true true true true true)) (answers.Key (k 16777473)) (marks.Granted (grant (k 16777473) (d 0 1) None true 4295002296 35000 (r true true true true true) ((run 0 0 35000 35000) ∷ [])) ∷ [])
    ∷ called 46 0 0 (verbs.RegMr (s 0 0 2) 9 0 70000 (r true true true true true)) (answers.Refused refusals.NoSuch) []
    ∷ called 47 0 5 (verbs.RegMr (s 2 0 0) 9 8 4088 (r true true true true true)) (answers.Refused refusals.NoSuch) []
    ∷ called 48 0 3 (verbs.RegMr (s 1 1 0) 0 64 8160 (r true true true true true)) (answers.Key (k 16777217)) (marks.Granted (grant (k 16777217) (d 1 1) None true 4294967360 8160 (r true true true true true) ((run 1 0 64 8160) ∷ [])) ∷ [])
    ∷ called 49 0 4 (verbs.ModifyQp (s 1 2 0) changes.Init) answers.Fine []
    ∷ called 50 0 5 (verbs.RegMr (s 2 0 1) 0 8 4088 (r true true true true true)) (answers.Key (k 257)) (marks.Granted (grant (k 257) (d 2 0) None true 4294967304 4088 (r true true true true true) ((run 2 0 8 4088) ∷ [])) ∷ [])
    ∷ called 51 0 1 (verbs.AllocMr (s 0 1 4) 1) answers.Fine []
    ∷ called 52 0 6 (verbs.RegMr (s 2 1 2) 0 64 2016 (r true true true true true)) (answers.Key (k 16777729)) (marks.Granted (grant (k 16777729) (d 2 1) None true 4294967360 2016 (r true true true true true) ((run 2 0 64 2016) ∷ [])) ∷ [])
    ∷ called 53 0 3 (verbs.AllocMr (s 1 1 4) 1) answers.Fine []
    ∷ called 54 0 7 (verbs.ModifyQp (s 2 2 0) (changes.Rtr (q 2 256) 1 16777215 512 9)) answers.Fine []
    ∷ called 55 0 2 (verbs.RegMr (s 1 0 0) 0 8 16376 (r true true true true true)) (answers.Key (k 1)) (marks.Granted (grant (k 1) (d 1 0) None true 4294967304 16376 (r true true true true true) ((run 1 0 8 16376) ∷ [])) ∷ [])
    ∷ called 56 0 3 (verbs.ModifyQp (s 1 1 0) changes.Init) (answers.Refused refusals.NoSuch) []
    ∷ called 57 0 6 (verbs.AllocMw (s 2 1 0) 1) answers.Fine []
    ∷ called 58 0 0 (verbs.AllocMr (s 0 0 4) 4) answers.Fine []
    ∷ called 59 0 1 (verbs.AllocMw (s 0 1 0) 2) answers.Fine []
    ∷ called 60 0 7 (verbs.ModifyQp (s 2 2 0) (changes.Rts 0 2 7 1)) answers.Fine []
    ∷ called 61 0 0 (verbs.AllocMw (s 0 0 0) 2) answers.Fine []
    ∷ called 62 0 1 (verbs.ModifyQp (s 0 1 0) changes.Init) answers.Fine []
    ∷ called 63 0 2 (verbs.RegMr (s 1 0 1) 0 8192 8192 (r true true true true true)) (answers.Key (k 257)) (marks.Granted (grant (k 257) (d 1 0) None true 4294975488 8192 (r true true true true true) ((run 1 0 8192 8192) ∷ [])) ∷ [])
    ∷ called 64 0 5 (verbs.RegMr (s 2 0 2) 0 0 4096 (r true false false false false)) (answers.Key (k 513)) (marks.Granted (grant (k 513) (d 2 0) None true 4294967296 4096 (r true false false false false) ((run 2 0 0 4096) ∷ [])) ∷ [])
    ∷ called 65 0 7 (verbs.PostRecv (s 2 2 0) (receive 1001 (list ((piece 33554433 4294969041 0) ∷ (piece 33554433 4294968747 3) ∷ (piece 33554433 4294968572 1) ∷ [])))) (answers.Posted None) []
    ∷ called 66 0 2 (verbs.AllocMw (s 1 0 0) 1) answers.Fine []
    ∷ called 67 0 6 (verbs.AllocMw (s 2 1 1) 1) answers.Fine []
    ∷ called 68 0 4 (verbs.ModifyQp (s 1 2 0) (changes.Rtr (q 0 0) 1 16777214 1024 1)) (answers.Refused (refusals.OutOfRange fields.Peer)) []
    ∷ called 69 0 6 (verbs.AllocMw (s 2 1 2) 1) answers.Fine []
    ∷ called 70 0 0 (verbs.AllocMw (s 0 0 1) 0) (answers.Refused (refusals.OutOfRange fields.Kind)) []
    ∷ called 71 0 4 (verbs.ModifyQp (s 1 2 0) (changes.Rts 1 7 7 16)) (answers.Refused refusals.Transition) []
    ∷ called 72 0 5 (verbs.ModifyQp (s 2 0 0) changes.Init) answers.Fine []
    ∷ called 73 0 5 (verbs.ModifyQp (s 2 0 0) (changes.Rtr (q 2 768) 1 0 512 27)) answers.Fine []
    ∷ called 74 0 7 (verbs.PostRecv (s 2 2 0) (receive 1002 (list ((piece 33554433 4294969014 64) ∷ [])))) (answers.Posted None) []
    ∷ called 75 0 3 (verbs.ModifyQp (s 1 1 0) (changes.Rtr (q 0 256) 1 8388608 4096 31)) (answers.Refused refusals.NoSuch) []
    ∷ called 76 0 1 (verbs.ModifyQp (s 0 1 0) (changes.Rtr (q 2 512) 1 16777215 256 11)) answers.Fine []
    ∷ called 77 0 4 (verbs.PostRecv (s 1 2 0) (receive 1001 (list ((piece 33554689 4294974523 512) ∷ [])))) (answers.Posted None) []
    ∷ called 78 0 2 (verbs.AllocMw (s 1 0 1) 2) answers.Fine []
    ∷ called 79 0 3 (verbs.ModifyQp (s 1 1 0) (changes.Rts 0 7 7 1)) (answers.Refused refusals.NoSuch) []
    ∷ called 80 0 5 (verbs.ModifyQp (s 2 0 0) (changes.Rts 16777215 0 7 4)) answers.Fine []
    ∷ called 81 0 6 (verbs.ModifyQp (s 2 1 0) changes.Init) answers.Fine []
    ∷ called 82 0 2 (verbs.ModifyQp (s 1 0 0) changes.Init) answers.Fine []
    ∷ called 83 0 4 (verbs.Poll (s 1 2 0) 16 0) (answers.Polled ([])) []
    ∷ called 84 0 3 (verbs.PostSrq (s 1 1 0) (receive 1001 (list ((piece 16777217 4294967404 8000) ∷ [])))) (answers.Posted None) []
    ∷ called 85 0 7 (verbs.Poll (s 2 2 0) 16 0) (answers.Polled ([])) []
    ∷ called 86 0 7 (verbs.DeregMr (s 2 2 5)) (answers.Refused refusals.NoSuch) []
    ∷ called 87 0 0 (verbs.AllocMw (s 0 0 2) 2) answers.Fine []
    ∷ called 88 0 6 (verbs.ModifyQp (s 2 1 0) (changes.Rtr (q 0 512) 1 16777215 256 29)) answers.Fine []
    ∷ called 89 0 3 (verbs.Poll (s 1 1 1) 16 0) (answers.Refused refusals.NoSuch) []
    ∷ called 90 0 1 (verbs.ModifyQp (s 0 1 0) (changes.Rts 16777215 7 7 2)) answers.Fine []
    ∷ called 91 0 4 (verbs.PostRecv (s 1 2 0) (receive 1002 (list ([])))) (answers.Refused refusals.QueueFull) []
    ∷ called 92 0 6 (verbs.ModifyQp (s 2 1 0) (changes.Rts 16777215 2 0 16)) answers.Fine []
    ∷ called 93 0 4 (verbs.Poll (s 1 2 0) 16 0) (answers.Polled ([])) []
    ∷ called 94 0 0 (verbs.PostRecv (s 2 0 0) (receive 1002 (list ((piece 1 4294967304 7814) ∷ (piece 513 4294969711 186) ∷ [])))) (answers.Posted None) []
    ∷ called 95 0 1 (verbs.PostSrq (s 0 1 0) (receive 1001 (list ((piece 16777473 4295002589 2211) ∷ (piece 16777217 4294984888 2332) ∷ (piece 16777473 4295005465 3457) ∷ [])))) (answers.Posted None) []
    ∷ called 96 0 5 (verbs.PostRecv (s 2 0 0) (receive 1001 (list ((piece 1 4294967533 2226) ∷ (piece 513 4294968071 2033) ∷ (piece 513 4294967389 3741) ∷ [])))) (answers.Posted None) []
    ∷ called 97 0 2 (verbs.ModifyQp (s 1 0 0) (changes.Rtr (q 1 768) 1 1 1024 9)) answers.Fine []
    ∷ called 98 0 1 (verbs.Poll (s 0 1 0) 16 0) (answers.Polled ([])) []
    ∷ called 99 0 0 (verbs.Poll (s 2 0 1) 16 0) (answers.Polled ([])) []
    ∷ called 100 0 7 (verbs.AllocMr (s 2 2 5) 1) answers.Fine []
    ∷ called 101 0 2 (verbs.ModifyQp (s 1 0 0) (changes.Rts 16777214 7 7 2)) answers.Fine []
    ∷ called 102 0 1 (verbs.QueryQp (s 0 1 0)) (answers.Query states.Rts 1 0 0) []
    ∷ called 103 0 5 (verbs.Poll (s 2 0 1) 16 0) (answers.Polled ([])) []
    ∷ called 104 0 2 (verbs.PostRecv (s 1 0 0) (receive 1001 (list ((piece 1 4294967303 2666) ∷ (piece 1 4294968453 1277) ∷ (piece 257 4294977085 4057) ∷ [])))) (answers.Posted None) []
    ∷ called 105 0 7 (verbs.PostSend (s 2 2 0) (request 990 true false false (ops.FastReg 5 3 9 0 64 (r true true true true true) (0 ∷ [])))) (answers.Posted None) []
    ∷ called 106 0 3 (verbs.Poll (s 1 1 1) 16 0) (answers.Refused refusals.NoSuch) []
    ∷ called 107 0 6 (verbs.PostRecv (s 2 1 0) (receive 1001 (list ((piece 16777473 4294968625 2548) ∷ (piece 16777473 4294967296 5452) ∷ [])))) (answers.Posted None) []
    ∷ called 108 0 3 (verbs.PostSend (s 1 1 0) (request 911 true false false (ops.Write 4295000204 (k 1) (list ((piece 16777217 4294968985 874) ∷ (piece 16777217 4294968120 1126) ∷ []))))) (answers.Refused refusals.NoSuch) []
    ∷ entry 109 0 (events.Request (q 2 768) lots.Pass) (marks.Done (q 2 768) (completion (q 2 768) false 0 990 operations.FastReg statuses.MemoryManagement 0 None None) (Some (causes.Region regions.OutsideBuffer)) ∷ marks.Done (q 2 768) (completion (q 2 768) true 0 1001 operations.Recv statuses.Flushed 0 None None) None ∷ marks.Done (q 2 768) (completion (q 2 768) true 1 1002 operations.Recv statuses.Flushed 0 None None) None ∷ [])
    ∷ called 110 0 5 (verbs.PostRecv (s 2 0 0) (receive 1003 (list ((piece 1 4294970879 0) ∷ (piece 0 4294969859 2) ∷ (piece 257 4294967668 2) ∷ [])))) (answers.Posted None) []
    ∷ called 111 0 4 (verbs.PostSend (s 1 2 0) (request 3 false false false (ops.FetchAdd 4294976536 (k 257) 1 (list ((piece 33554689 4294972208 1) ∷ (piece 33554433 4294974388 4) ∷ (piece 33554433 4294974946 3) ∷ []))))) (answers.Refused refusals.QueueState) []
    ∷ called 112 0 7 (verbs.ModifyQp (s 2 2 0) changes.Reset) answers.Fine []
    ∷ called 113 0 0 (verbs.ModifyQp (s 0 0 0) changes.Init) answers.Fine []
    ∷ called 114 0 3 (verbs.PostSend (s 1 1 0) (request 911 true false false (ops.Write 4295030575 (k 1) (list ((piece 16777217 4294969756 600) ∷ []))))) (answers.Refused refusals.NoSuch) []
    ∷ called 115 0 4 (verbs.Poll (s 1 2 1) 16 0) (answers.Polled ([])) []
    ∷ called 116 0 6 (verbs.PostRecv (s 2 1 0) (receive 1002 (list ((piece 16777473 4294967296 4385) ∷ (piece 16777729 4294968339 997) ∷ (piece 16777473 4294967414 2618) ∷ [])))) (answers.Posted None) []
    ∷ called 117 0 3 (verbs.PostSend (s 1 1 0) (request 911 true false false (ops.Write 4294972992 (k 513) (list ((piece 16777217 4294967359 300) ∷ []))))) (answers.Refused refusals.NoSuch) []
    ∷ called 118 0 0 (verbs.ModifyQp (s 0 0 0) (changes.Rtr (q 1 512) 1 0 4096 4)) answers.Fine []
    ∷ called 119 0 2 (verbs.Poll (s 1 0 0) 16 0) (answers.Polled ([])) []
    ∷ called 120 0 5 (verbs.PostRecv (s 2 0 0) (receive 1004 (list ((piece 257 4294967304 6000) ∷ [])))) (answers.Posted None) []
    ∷ called 121 0 7 (verbs.ModifyQp (s 2 2 0) changes.Init) answers.Fine []
    ∷ called 122 0 2 (verbs.PostRecv (s 1 0 0) (receive 1002 (list ((piece 257 4294975508 8000) ∷ [])))) (answers.Refused refusals.QueueFull) []
    ∷ called 123 0 6 (verbs.PostSend (s 2 1 0) (request 3 true false false (ops.Send (list ((piece 16777217 4294968307 126) ∷ (piece 16777473 4294969544 68) ∷ (piece 16777729 4294968252 62) ∷ []))))) (answers.Posted None) []
    ∷ called 124 0 1 (verbs.PostSrq (s 0 1 0) (receive 1002 (list ((piece 16777473 4295032896 512) ∷ [])))) (answers.Posted None) []
    ∷ entry 125 0 (events.Request (q 2 512) (lots.Repeat 0)) (marks.Local (q 2 512) (d 2 1) (k 16777217) kinds.Read 4294968307 126 (verdicts.Denied denials.NoGrant) ∷ marks.Done (q 2 512) (completion (q 2 512) false 0 3 operations.Send statuses.LocalProtection 0 None None) None ∷ marks.Done (q 2 512) (completion (q 2 512) true 0 1001 operations.Recv statuses.Flushed 0 None None) None ∷ marks.Done (q 2 512) (completion (q 2 512) true 1 1002 operations.Recv statuses.Flushed 0 None None) None ∷ [])
    ∷ called 126 0 4 (verbs.PostRecv (s 1 2 0) (receive 1004 (list ((piece 33554689 4294977693 5881) ∷ (piece 33554689 4294972547 343) ∷ (piece 33554689 4294975375 1776) ∷ [])))) (answers.Refused refusals.QueueFull) []
    ∷ called 127 0 7 (verbs.ModifyQp (s 2 2 0) (changes.Rtr (q 2 256) 2 16777215 512 19)) answers.Fine []
    ∷ called 128 0 1 (verbs.Poll (s 0 1 0) 16 0) (answers.Polled ([])) []
    ∷ called 129 0 5 (verbs.Poll (s 2 0 1) 16 0) (answers.Polled ([])) []
    ∷ called 130 0 4 (verbs.PostRecv (s 1 2 0) (receive 1005 (list ((piece 33554689 4294972962 8000) ∷ [])))) (answers.Refused refusals.QueueFull) []
    ∷ called 131 0 1 (verbs.PostSrq (s 0 1 0) (receive 1003 (list ((piece 16777217 4294988364 2019) ∷ (piece 16777217 4294985938 4) ∷ (piece 16777473 4295017035 3028) ∷ (piece 16777217 4295012138 949) ∷ [])))) (answers.Refused refusals.QueueFull) []
    ∷ called 132 0 0 (verbs.ModifyQp (s 0 0 0) (changes.Rts 8388608 7 0 16)) answers.Fine []
    ∷ called 133 0 0 (verbs.PostSend (s 0 0 0) (request 910 true false false (ops.Bind2 0 (k 513) 9 4294967296 0 (r false false false true false)))) (answers.Posted None) []
    ∷ called 134 0 3 (verbs.DeallocMw (s 1 1 0)) (answers.Refused refusals.NoSuch) []
    ∷ called 135 0 6 (verbs.Poll (s 2 1 1) 16 0) (answers.Polled ((completion (q 2 512) false 0 3 operations.Send statuses.LocalProtection 0 None None) ∷ [])) []
    ∷ called 136 0 4 (verbs.Poll (s 1 2 0) 16 0) (answers.Polled ([])) []
    ∷ called 137 0 2 (verbs.PostRecv (s 1 0 0) (receive 1003 (list ((piece 1 4294975847 0) ∷ (piece 257 4294978259 1) ∷ (piece 1 4294967885 1) ∷ (piece 257 4294978917 2) ∷ [])))) (answers.Refused refusals.QueueFull) []
    ∷ called 138 0 5 (verbs.ModifyQp (s 2 0 0) changes.Reset) answers.Fine []
    ∷ called 139 0 0 (verbs.PostSend (s 0 0 0) (request 912 true false false (ops.LocalInv (k 8388617)))) (answers.Posted None) []
    ∷ called 140 0 6 (verbs.DeallocPd (d 2 1)) (answers.Refused refusals.DomainInUse) []
    ∷ called 141 0 1 (verbs.Poll (s 0 1 0) 16 0) (answers.Polled ([])) []
    ∷ called 142 0 5 (verbs.ModifyQp (s 2 0 0) changes.Init) answers.Fine []
    ∷ called 143 0 2 (verbs.PostRecv (s 1 0 0) (receive 1004 (list ((piece 257 4294977454 6000) ∷ [])))) (answers.Refused refusals.QueueFull) []
    ∷ called 144 0 7 (verbs.ModifyQp (s 2 2 0) (changes.Rts 0 7 7 2)) answers.Fine []
    ∷ called 145 0 0 (verbs.PostRecv (s 0 0 0) (receive 1001 (list ((piece 1 4295013761 1) ∷ (piece 1 4294995395 63) ∷ [])))) (answers.Posted None) []
    ∷ called 146 0 7 (verbs.PostRecv (s 2 2 0) (receive 1003 (list ([])))) (answers.Posted None) []
    ∷ called 147 0 3 (verbs.AllocMw (s 1 1 0) 2) answers.Fine []
    ∷ called 148 0 5 (verbs.ModifyQp (s 2 0 0) (changes.Rtr (q 2 768) 2 0 512 17)) answers.Fine []
    ∷ called 149 0 1 (verbs.PostSend (s 0 1 0) (request 4 true false false (ops.Write 4294969827 (k 16777473) (list ((piece 16777473 4295003457 0) ∷ (piece 16777473 4295008415 4) ∷ (piece 16777473 4295027661 0) ∷ []))))) (answers.Posted None) []
    ∷ entry 150 0 (events.Request (q 0 512) lots.Pass) (marks.Local (q 0 512) (d 0 1) (k 16777473) kinds.Read 4295008415 4 (verdicts.Read (hex "00000000")) ∷ marks.Sent (q 0 512) (q 2 512) (Some 0) (Some 0) (hex "0a00ffff0000020080ffffff00000001000009e3010001010000000400000000") ∷ [])
    ∷ called 151 0 0 (verbs.PostSend (s 0 0 0) (request 2 true false false (ops.Write 4294970668 (k 16777217) (list ((piece 513 4295014515 2000) ∷ []))))) (answers.Posted None) []
    ∷ entry 152 0 (events.Deliver (q 2 512) 0) (marks.Arrived (q 2 512) (Some 0) ∷ marks.Dropped (q 2 512) drops.State ∷ [])
    ∷ called 153 0 6 (verbs.PostSend (s 2 1 0) (request 4 true true false (ops.Read 4295011064 (k 16777217) (list ((piece 16777729 4294968581 512) ∷ []))))) (answers.Posted None) (marks.Done (q 2 512) (completion (q 2 512) false 1 4 operations.Read statuses.Flushed 0 None None) None ∷ [])
    ∷ called 154 0 6 (verbs.Poll (s 2 1 1) 16 0) (answers.Polled ((completion (q 2 512) false 1 4 operations.Read statuses.Flushed 0 None None) ∷ [])) []
    ∷ entry 155 0 (events.Deliver (q 2 512) 0) (marks.Arrived (q 2 512) (Some 0) ∷ marks.Dropped (q 2 512) drops.State ∷ [])
    ∷ called 156 0 4 (verbs.ModifyQp (s 1 2 0) changes.Sqd) (answers.Refused refusals.Transition) []
    ∷ called 157 0 7 (verbs.PostRecv (s 2 2 0) (receive 1004 (list ((piece 33554433 4294967296 2471) ∷ (piece 33554433 4294967296 5529) ∷ [])))) (answers.Posted None) []
    ∷ called 158 0 2 (verbs.ModifyQp (s 1 0 2) changes.Init) answers.Fine []
    ∷ entry 159 0 (events.Request (q 0 256) (lots.Repeat 1)) (marks.Done (q 0 256) (completion (q 0 256) false 0 910 operations.Bind statuses.MemoryManagement 0 None None) (Some (causes.Window windows.Empty)) ∷ marks.Done (q 0 256) (completion (q 0 256) false 1 912 operations.LocalInv statuses.Flushed 0 None None) None ∷ marks.Done (q 0 256) (completion (q 0 256) false 2 2 operations.Write statuses.Flushed 0 None None) None ∷ marks.Done (q 0 256) (completion (q 0 256) true 0 1001 operations.Recv statuses.Flushed 0 None None) None ∷ [])
    ∷ called 160 0 1 (verbs.PostSend (s 0 1 0) (request 5 true true false (ops.Send (list ((piece 16777473 4295030026 512) ∷ []))))) (answers.Posted None) []
    ∷ called 161 0 5 (verbs.ModifyQp (s 2 0 0) (changes.Rts 16777215 1 7 16)) answers.Fine []
    ∷ called 162 0 0 (verbs.PostRecv (s 0 0 0) (receive 1003 (list ((piece 1 4295015957 552) ∷ (piece 513 4295007840 448) ∷ [])))) (answers.Posted None) (marks.Done (q 0 256) (completion (q 0 256) true 1 1003 operations.Recv statuses.Flushed 0 None None) None ∷ [])
    ∷ called 163 0 6 (verbs.PostRecv (s 2 1 0) (receive 1005 (list ((piece 16777217 4294967296 8000) ∷ [])))) (answers.Posted None) (marks.Done (q 2 512) (completion (q 2 512) true 2 1005 operations.Recv statuses.Flushed 0 None None) None ∷ [])
    ∷ called 164 0 2 (verbs.ModifyQp (s 1 0 2) (changes.Rtr (q 1 257) 1 0 256 24)) answers.Fine []
    ∷ called 165 0 6 (verbs.PostRecv (s 2 1 0) (receive 1006 (list ((piece 16777473 4294967296 5277) ∷ (piece 16777473 4294967851 1787) ∷ (piece 16777217 4294968269 657) ∷ (piece 16777217 4294970932 279) ∷ [])))) (answers.Posted None) (marks.Done (q 2 512) (completion (q 2 512) true 3 1006 operations.Recv statuses.Flushed 0 None None) None ∷ [])
    ∷ entry 166 0 (events.Deliver (q 2 512) 0) (marks.Arrived (q 2 512) (Some 0) ∷ marks.Dropped (q 2 512) drops.State ∷ [])
    ∷ called 167 0 2 (verbs.ModifyQp (s 1 0 2) (changes.Rts 8388608 7 0 4)) answers.Fine []
    ∷ called 168 0 4 (verbs.PostSend (s 1 2 0) (request 6 true false false (ops.Write 4294969999 (k 1) (list ((piece 33554433 4294969666 4096) ∷ []))))) (answers.Refused refusals.QueueState) []
    ∷ entry 169 0 (events.Request (q 0 512) lots.Pass) (marks.Local (q 0 512) (d 0 1) (k 16777473) kinds.Read 4295030026 256 (verdicts.Read (hex "00000000000000000000000000000000000000000000000000000000000000000000000000000000000000000000000000000000000000000000000000000000000000000000000000000000000000000000000000000000000000000000000000000000000000000000000000000000000000000000000000000000000000000000000000000000000000000000000000000000000000000000000000000000000000000000000000000000000000000000000000000000000000000000000000000000000000000000000000000000000000000000000000000000000000000000000000000000000000000000000000000000000000000000000000000000")) ∷ marks.Sent (q 0 512) (q 2 512) (Some 1) (Some 1) (hex "0000ffff000002000000000000000000000000000000000000000000000000000000000000000000000000000000000000000000000000000000000000000000000000000000000000000000000000000000000000000000000000000000000000000000000000000000000000000000000000000000000000000000000000000000000000000000000000000000000000000000000000000000000000000000000000000000000000000000000000000000000000000000000000000000000000000000000000000000000000000000000000000000000000000000000000000000000000000000000000000000000000000000000000000000000000000000000000000000000000000000") ∷ [])
    ∷ called 170 0 4 (verbs.Poll (s 1 2 1) 16 0) (answers.Polled ([])) []
    ∷ called 171 0 5 (verbs.PostRecv (s 2 0 0) (receive 1005 (list ((piece 1 4294967304 4) ∷ (piece 257 4294969861 0) ∷ (piece 513 4294970798 0) ∷ (piece 257 4294971301 0) ∷ [])))) (answers.Posted None) []
    ∷ called 172 0 2 (verbs.PostRecv (s 1 0 2) (receive 1001 (list ((piece 257 4294978531 512) ∷ [])))) (answers.Posted None) []
    ∷ entry 173 0 (events.Request (q 0 512) lots.Pass) (marks.Local (q 0 512) (d 0 1) (k 16777473) kinds.Read 4295030282 256 (verdicts.Read (hex "00000000000000000000000000000000000000000000000000000000000000000000000000000000000000000000000000000000000000000000000000000000000000000000000000000000000000000000000000000000000000000000000000000000000000000000000000000000000000000000000000000000000000000000000000000000000000000000000000000000000000000000000000000000000000000000000000000000000000000000000000000000000000000000000000000000000000000000000000000000000000000000000000000000000000000000000000000000000000000000000000000000000000000000000000000000")) ∷ marks.Sent (q 0 512) (q 2 512) (Some 2) (Some 1) (hex "0200ffff000002008000000100000000000000000000000000000000000000000000000000000000000000000000000000000000000000000000000000000000000000000000000000000000000000000000000000000000000000000000000000000000000000000000000000000000000000000000000000000000000000000000000000000000000000000000000000000000000000000000000000000000000000000000000000000000000000000000000000000000000000000000000000000000000000000000000000000000000000000000000000000000000000000000000000000000000000000000000000000000000000000000000000000000000000000000000000000000") ∷ [])
    ∷ called 174 0 5 (verbs.PostSend (s 2 0 0) (request 6 true true false (ops.Read 4294968510 (k 33554433) (list ((piece 1 4294968763 257) ∷ []))))) (answers.Posted None) []
    ∷ called 175 0 4 (verbs.Store 1 0 4121 (hex "7d3736e99ca2d784")) answers.Fine (marks.Stored (place 1 0 4121) (hex "7d3736e99ca2d784") ∷ [])
    ∷ called 176 0 6 (verbs.PostRecv (s 2 1 0) (receive 1007 (list ((piece 16777729 4294967752 4) ∷ [])))) (answers.Refused refusals.QueueFull) []
    ∷ entry 177 0 (events.Deliver (q 2 512) 0) (marks.Arrived (q 2 512) (Some 0) ∷ marks.Dropped (q 2 512) drops.State ∷ [])
    ∷ entry 178 0 (events.Deliver (q 2 512) 1) (marks.Arrived (q 2 512) (Some 1) ∷ marks.Dropped (q 2 512) drops.State ∷ [])
    ∷ called 179 0 5 (verbs.Poll (s 2 0 2) 16 0) (answers.Polled ([])) []
    ∷ called 180 0 2 (verbs.ModifyQp (s 1 0 1) changes.Init) answers.Fine []
    ∷ called 181 0 2 (verbs.ModifyQp (s 1 0 1) (changes.Rtr (q 1 258) 1 8388608 255 27)) (answers.Refused (refusals.OutOfRange fields.Mtu)) []
    ∷ called 182 0 6 (verbs.Poll (s 2 1 0) 16 0) (answers.Polled ((completion (q 2 512) true 0 1001 operations.Recv statuses.Flushed 0 None None) ∷ (completion (q 2 512) true 1 1002 operations.Recv statuses.Flushed 0 None None) ∷ (completion (q 2 512) true 2 1005 operations.Recv statuses.Flushed 0 None None) ∷ (completion (q 2 512) true 3 1006 operations.Recv statuses.Flushed 0 None None) ∷ [])) []
    ∷ called 183 0 4 (verbs.ModifyQp (s 1 2 0) changes.Resume) (answers.Refused refusals.Transition) []
    ∷ called 184 0 6 (verbs.PostSend (s 2 1 0) (request 8 true true false (ops.Read 4295009295 (k 16777217) (list ((piece 16777473 4294969166 101) ∷ (piece 16777217 4294967634 807) ∷ (piece 16777729 4294968264 1092) ∷ []))))) (answers.Posted None) (marks.Done (q 2 512) (completion (q 2 512) false 2 8 operations.Read statuses.Flushed 0 None None) None ∷ [])
    ∷ called 185 0 2 (verbs.ModifyQp (s 1 0 1) (changes.Rts 0 7 7 16)) (answers.Refused refusals.Transition) []
    ∷ called 186 0 6 (verbs.Poll (s 2 1 1) 16 0) (answers.Polled ((completion (q 2 512) false 2 8 operations.Read statuses.Flushed 0 None None) ∷ [])) []
    ∷ entry 187 0 (events.Deliver (q 2 512) 2) (marks.Arrived (q 2 512) (Some 2) ∷ marks.Dropped (q 2 512) drops.State ∷ [])
    ∷ called 188 0 2 (verbs.PostRecv (s 1 0 1) (receive 1001 (list ((piece 257 4294975496 8000) ∷ [])))) (answers.Posted None) []
    ∷ entry 189 0 (events.Request (q 2 256) lots.Pass) (marks.Sent (q 2 256) (q 2 768) (Some 0) (Some 0) (hex "0c00ffff0000030080ffffff00000001000004be0200000100000101") ∷ [])
    ∷ entry 190 0 (events.Deliver (q 2 512) 1) (marks.Arrived (q 2 512) (Some 1) ∷ marks.Dropped (q 2 512) drops.State ∷ [])
    ∷ called 191 0 2 (verbs.PostRecv (s 1 0 1) (receive 1002 (list ((piece 1 4294972614 644) ∷ (piece 257 4294978494 111) ∷ (piece 257 4294978585 245) ∷ [])))) (answers.Posted None) []
    ∷ entry 192 0 (events.Deliver (q 2 768) 0) (marks.Arrived (q 2 768) (Some 0) ∷ [])
    ∷ entry 193 0 (events.Respond (q 2 768) lots.Pass) (marks.Remote (q 2 768) (d 2 2) (Some 0) (k 33554433) kinds.Read 4294968510 257 (verdicts.Read (hex "0000000000000000000000000000000000000000000000000000000000000000000000000000000000000000000000000000000000000000000000000000000000000000000000000000000000000000000000000000000000000000000000000000000000000000000000000000000000000000000000000000000000000000000000000000000000000000000000000000000000000000000000000000000000000000000000000000000000000000000000000000000000000000000000000000000000000000000000000000000000000000000000000000000000000000000000000000000000000000000000000000000000000000000000000000000000")) ∷ marks.Sent (q 2 768) (q 2 256) (Some 0) None (hex "1030ffff0000010000ffffff1f0000010000000000000000000000000000000000000000000000000000000000000000000000000000000000000000000000000000000000000000000000000000000000000000000000000000000000000000000000000000000000000000000000000000000000000000000000000000000000000000000000000000000000000000000000000000000000000000000000000000000000000000000000000000000000000000000000000000000000000000000000000000000000000000000000000000000000000000000000000000000000000000000000000000000000000000000000000000000000000000000000000000000000000000000000000000000000000000") ∷ [])
    ∷ entry 194 0 (events.Deliver (q 2 512) 2) (marks.Arrived (q 2 512) (Some 2) ∷ marks.Dropped (q 2 512) drops.State ∷ [])
    ∷ called 195 0 2 (verbs.ModifyQp (s 1 0 2) changes.Reset) answers.Fine []
    ∷ entry 196 0 (events.Deliver (q 2 768) 0) (marks.Arrived (q 2 768) (Some 0) ∷ [])
    ∷ called 197 0 2 (verbs.ModifyQp (s 1 0 2) changes.Init) answers.Fine []
    ∷ entry 198 0 (events.Deliver (q 2 256) 0) (marks.Arrived (q 2 256) (Some 0) ∷ marks.Local (q 2 256) (d 2 0) (k 1) kinds.Write 4294968763 257 (verdicts.Denied denials.NoGrant) ∷ marks.Done (q 2 256) (completion (q 2 256) false 0 6 operations.Read statuses.LocalProtection 0 None None) None ∷ marks.Done (q 2 256) (completion (q 2 256) true 0 1005 operations.Recv statuses.Flushed 0 None None) None ∷ [])
    ∷ entry 199 0 (events.Deliver (q 2 256) 0) (marks.Arrived (q 2 256) (Some 0) ∷ marks.Dropped (q 2 256) drops.State ∷ [])
    ∷ []

abbrev configuration : Configuration
configuration = record { adapters = adapter (70000 ∷ []) 4 8 8 4 2 4 ∷ adapter (16384 ∷ []) 4 8 8 4 2 4 ∷ adapter (4096 ∷ []) 4 8 8 4 2 4 ∷ []; events = 131072 }

the_run : outcome_of configuration (map (λ e. e.event) history) ≡ Ok (map (λ e. e.marks) history)
unfolding row_of be_bytes packet_bytes number_at bth_at front_at reth_from atomic_from aeth_from number_from payload_at payload_behind body_in packet_in
the_run = refl
