-- Written by tools/check_traces from examples/traces/run-type-1-window.trace and run-type-1-window.setup.
-- The history of the trace, and what holds of it. For proofs only.
use Rattle.std.proofs.Common.{◌≡◌, List, [], ◌∷◌, map, true, false, None, Some, Ok, refl}
use Rattle.ca_keys.specs.declared.access.Kind.TheVariants as kinds
use Rattle.ca_keys.specs.declared.access.Denial.TheVariants as denials
use Rattle.ca_base.specs.declared.change.Change.TheVariants as changes
use Rattle.ca_base.specs.declared.change.Field.TheVariants as fields
use Rattle.ca_base.specs.declared.completion.WcOp.TheVariants as operations
use Rattle.ca_base.specs.declared.completion.WcStatus.TheVariants as statuses
use Rattle.ca_base.specs.declared.lot.Lot.TheVariants as lots
use Rattle.ca_base.specs.declared.request.SendOp.TheVariants as ops
use Rattle.ca_keys.specs.declared.verdict.Verdict.TheVariants as verdicts
use Rattle.ca_model.specs.declared.answer.Answer.TheVariants as answers
use Rattle.ca_model.specs.declared.answer.Refusal.TheVariants as refusals
use Rattle.ca_model.specs.declared.event.Event.TheVariants as events
use Rattle.ca_model.specs.declared.mark.Drop1.TheVariants as drops
use Rattle.ca_model.specs.declared.mark.Mark.TheVariants as marks
use Rattle.ca_model.specs.declared.verb.Verb.TheVariants as verbs
use Rattle.ca_base.specs.Configuration.{Configuration}
use Rattle.ca_wire.specs.Decoding.{number_at, bth_at, front_at, reth_from, atomic_from, aeth_from, number_from, payload_at, payload_behind, body_in, packet_in}
use Rattle.ca_wire.specs.Packet.{be_bytes, packet_bytes}
use Rattle.ca_wire.specs.Table.{row_of}
use Rattle.ca_model.specs.Entries.{EntryValue}
use Rattle.ca_model.specs.machine.Run.{run as outcome_of}
use Rattle.ca_model.proofs.Literals.{d, s, q, k, r, run, piece, list, request, receive, completion, grant, entry, adapter}
use Rattle.ca_model_traces.proofs.Entries.{called, hex}

abbrev history : List EntryValue
history =
    called 0 0 3 (verbs.AllocPd (d 1 0)) answers.Fine []
    ∷ called 1 0 0 (verbs.AllocPd (d 0 0)) answers.Fine []
    ∷ called 2 0 4 (verbs.AllocPd (d 1 1)) answers.Fine []
    ∷ called 3 0 2 (verbs.AllocPd (d 0 2)) answers.Fine []
    ∷ called 4 0 1 (verbs.AllocPd (d 0 1)) answers.Fine []
    ∷ called 5 0 4 (verbs.CreateCq (s 1 1 0) 1) answers.Fine []
    ∷ called 6 0 2 (verbs.CreateCq (s 0 2 0) 11) answers.Fine []
    ∷ called 7 0 4 (verbs.CreateCq (s 1 1 1) 8) answers.Fine []
    ∷ called 8 0 0 (verbs.CreateCq (s 0 0 0) 13) answers.Fine []
    ∷ called 9 0 3 (verbs.CreateCq (s 1 0 0) 30) answers.Fine []
    ∷ called 10 0 1 (verbs.CreateCq (s 0 1 0) 12) answers.Fine []
    ∷ called 11 0 1 (verbs.CreateCq (s 0 1 1) 14) answers.Fine []
    ∷ called 12 0 2 (verbs.CreateCq (s 0 2 1) 12) answers.Fine []
    ∷ called 13 0 4 (verbs.CreateQp (s 1 1 0) 1 1 4 4 None) (answers.Queue 512 1) []
    ∷ called 14 0 0 (verbs.CreateCq (s 0 0 1) 30) answers.Fine []
    ∷ called 15 0 3 (verbs.CreateCq (s 1 0 1) 27) answers.Fine []
    ∷ called 16 0 3 (verbs.CreateQp (s 1 0 0) 0 1 2 8 None) (answers.Queue 256 1) []
    ∷ called 17 0 0 (verbs.CreateQp (s 0 0 0) 1 0 1 8 None) (answers.Queue 256 1) []
    ∷ called 18 0 2 (verbs.CreateQp (s 0 2 0) 0 0 8 2 None) (answers.Queue 768 1) []
    ∷ called 19 0 4 (verbs.RegMr (s 1 1 0) 0 64 8160 (r true true true true true)) (answers.Key (k 16777217)) (marks.Granted (grant (k 16777217) (d 1 1) None true 4294967360 8160 (r true true true true true) ((run 1 0 64 8160) ∷ [])) ∷ [])
    ∷ called 20 0 1 (verbs.CreateSrq (s 0 1 0) 2) answers.Fine []
    ∷ called 21 0 2 (verbs.CreateQp (s 0 2 1) 1 1 4 8 None) (answers.Queue 769 1) []
    ∷ called 22 0 3 (verbs.CreateQp (s 1 0 1) 1 0 1 4 None) (answers.Queue 257 1) []
    ∷ called 23 0 1 (verbs.CreateQp (s 0 1 0) 1 1 2 0 (Some 0)) (answers.Queue 512 1) []
    ∷ called 24 0 1 (verbs.CreateQp (s 0 1 1) 0 0 2 0 (Some 0)) (answers.Queue 513 1) []
    ∷ called 25 0 4 (verbs.AllocMw (s 1 1 0) 2) answers.Fine []
    ∷ called 26 0 0 (verbs.CreateQp (s 0 0 1) 1 1 8 1 None) (answers.Queue 257 1) []
    ∷ called 27 0 2 (verbs.RegMr (s 0 2 0) 0 0 64 (r true true true true true)) (answers.Key (k 33554433)) (marks.Granted (grant (k 33554433) (d 0 2) None true 4294967296 64 (r true true true true true) ((run 0 0 0 64) ∷ [])) ∷ [])
    ∷ called 28 0 0 (verbs.CreateQp (s 0 0 2) 1 0 4 4 None) (answers.Queue 258 1) []
    ∷ called 29 0 3 (verbs.CreateQp (s 1 0 2) 0 1 8 2 None) (answers.Queue 258 1) []
    ∷ called 30 0 4 (verbs.AllocMw (s 1 1 1) 2) answers.Fine []
    ∷ called 31 0 1 (verbs.CreateQp (s 0 1 2) 1 0 4 2 None) (answers.Queue 514 1) []
    ∷ called 32 0 2 (verbs.RegMr (s 0 2 1) 0 0 64 (r true true true true true)) (answers.Key (k 33554689)) (marks.Granted (grant (k 33554689) (d 0 2) None true 4294967296 64 (r true true true true true) ((run 0 0 0 64) ∷ [])) ∷ [])
    ∷ called 33 0 0 (verbs.RegMr (s 0 0 0) 0 3 30 (r true true true true true)) (answers.Key (k 1)) (marks.Granted (grant (k 1) (d 0 0) None true 4294967299 30 (r true true true true true) ((run 0 0 3 30) ∷ [])) ∷ [])
    ∷ called 34 0 1 (verbs.RegMr (s 0 1 0) 0 3 30 (r true true true true true)) (answers.Key (k 16777217)) (marks.Granted (grant (k 16777217) (d 0 1) None true 4294967299 30 (r true true true true true) ((run 0 0 3 30) ∷ [])) ∷ [])
    ∷ called 35 0 3 (verbs.RegMr (s 1 0 0) 1 0 1000 (r true true true true true)) (answers.Key (k 1)) (marks.Granted (grant (k 1) (d 1 0) None true 8589934592 1000 (r true true true true true) ((run 1 1 0 1000) ∷ [])) ∷ [])
    ∷ called 36 0 4 (verbs.AllocMw (s 1 1 2) 2) answers.Fine []
    ∷ called 37 0 3 (verbs.RegMr (s 1 0 1) 0 3 16381 (r true true true true true)) (answers.Key (k 257)) (marks.Granted (grant (k 257) (d 1 0) None true 4294967299 16381 (r true true true true true) ((run 1 0 3 16381) ∷ [])) ∷ [])
    ∷ called 38 0 4 (verbs.ModifyQp (s 1 1 0) changes.Init) answers.Fine []
    ∷ called 39 0 0 (verbs.RegMr (s 0 0 1) 0 32 32 (r true true true true true)) (answers.Key (k 257)) (marks.Granted (grant (k 257) (d 0 0) None true 4294967328 32 (r true true true true true) ((run 0 0 32 32) ∷ [])) ∷ [])
    ∷ called 40 0 2 (verbs.ModifyQp (s 0 2 1) changes.Init) answers.Fine []
    ∷ called 41 0 0 (verbs.RegMr (s 0 0 2) 0 8 56 (r true true true true true)) (answers.Key (k 513)) (marks.Granted (grant (k 513) (d 0 0) None true 4294967304 56 (r true true true true true) ((run 0 0 8 56) ∷ [])) ∷ [])
    ∷ called 42 0 3 (verbs.RegMr (s 1 0 2) 1 0 500 (r true true true true true)) (answers.Key (k 513)) (marks.Granted (grant (k 513) (d 1 0) None true 8589934592 500 (r true true true true true) ((run 1 1 0 500) ∷ [])) ∷ [])
    ∷ called 43 0 2 (verbs.ModifyQp (s 0 2 1) (changes.Rtr (q 1 512) 1 3547902 256 9)) answers.Fine []
    ∷ called 44 0 1 (verbs.RegMr (s 0 1 1) 0 0 64 (r true true true true true)) (answers.Key (k 16777473)) (marks.Granted (grant (k 16777473) (d 0 1) None true 4294967296 64 (r true true true true true) ((run 0 0 0 64) ∷ [])) ∷ [])
    ∷ called 45 0 2 (verbs.ModifyQp (s 0 2 1) (changes.Rts 0 7 3 16)) answers.Fine []
    ∷ called 46 0 4 (verbs.ModifyQp (s 1 1 0) (changes.Rtr (q 0 769) 1 0 256 31)) answers.Fine []
    ∷ called 47 0 0 (verbs.ModifyQp (s 0 0 2) changes.Init) answers.Fine []
    ∷ called 48 0 4 (verbs.ModifyQp (s 1 1 0) (changes.Rts 3547902 7 7 1)) answers.Fine []
    ∷ called 49 0 1 (verbs.RegMr (s 0 1 2) 0 0 32 (r true true true true true)) (answers.Key (k 16777729)) (marks.Granted (grant (k 16777729) (d 0 1) None true 4294967296 32 (r true true true true true) ((run 0 0 0 32) ∷ [])) ∷ [])
    ∷ called 50 0 1 (verbs.AllocMw (s 0 1 0) 1) answers.Fine []
    ∷ called 51 0 3 (verbs.AllocMr (s 1 0 3) 4) answers.Fine []
    ∷ called 52 0 3 (verbs.ModifyQp (s 1 0 2) changes.Init) answers.Fine []
    ∷ called 53 0 2 (verbs.PostRecv (s 0 2 1) (receive 1001 (list ((piece 33554433 4294967352 4) ∷ [])))) (answers.Posted None) []
    ∷ called 54 0 1 (verbs.ModifyQp (s 0 1 1) changes.Init) answers.Fine []
    ∷ called 55 0 2 (verbs.Poll (s 0 2 1) 16 0) (answers.Polled ([])) []
    ∷ called 56 0 0 (verbs.ModifyQp (s 0 0 2) (changes.Rtr (q 0 513) 1 1 256 27)) answers.Fine []
    ∷ called 57 0 4 (verbs.PostRecv (s 1 1 0) (receive 1001 (list ((piece 16777217 4294967456 8000) ∷ [])))) (answers.Posted None) []
    ∷ called 58 0 3 (verbs.ModifyQp (s 1 0 2) (changes.Rtr (q 0 256) 0 0 256 28)) (answers.Refused (refusals.OutOfRange fields.Incarnation)) []
    ∷ called 59 0 0 (verbs.ModifyQp (s 0 0 2) (changes.Rts 0 0 3 4)) answers.Fine []
    ∷ called 60 0 2 (verbs.ModifyQp (s 0 2 0) changes.Init) answers.Fine []
    ∷ called 61 0 4 (verbs.ModifyQp (s 1 1 0) changes.Reset) answers.Fine []
    ∷ called 62 0 0 (verbs.PostRecv (s 0 0 2) (receive 1001 (list ((piece 513 4294967304 4229) ∷ (piece 1 4294967299 834) ∷ (piece 1 4294967299 2666) ∷ (piece 1 4294967299 271) ∷ [])))) (answers.Posted None) []
    ∷ called 63 0 3 (verbs.ModifyQp (s 1 0 2) (changes.Rts 16777214 7 0 1)) (answers.Refused refusals.Transition) []
    ∷ called 64 0 1 (verbs.ModifyQp (s 0 1 1) (changes.Rtr (q 0 258) 1 0 256 27)) answers.Fine []
    ∷ called 65 0 2 (verbs.ModifyQp (s 0 2 0) (changes.Rtr (q 1 257) 1 0 256 18)) answers.Fine []
    ∷ called 66 0 0 (verbs.PostRecv (s 0 0 2) (receive 1002 (list ([])))) (answers.Posted None) []
    ∷ called 67 0 4 (verbs.ModifyQp (s 1 1 0) changes.Init) answers.Fine []
    ∷ called 68 0 3 (verbs.PostRecv (s 1 0 2) (receive 1001 (list ((piece 257 4294973033 1675) ∷ (piece 257 4294975734 1949) ∷ (piece 1 8589934597 548) ∷ (piece 257 4294976975 3828) ∷ [])))) (answers.Posted None) []
    ∷ called 69 0 1 (verbs.ModifyQp (s 0 1 1) (changes.Rts 1 2 0 2)) answers.Fine []
    ∷ called 70 0 2 (verbs.ModifyQp (s 0 2 0) (changes.Rts 16777214 7 0 16)) answers.Fine []
    ∷ called 71 0 0 (verbs.PostRecv (s 0 0 2) (receive 1003 (list ((piece 257 4294967328 3118) ∷ (piece 257 4294967328 2882) ∷ [])))) (answers.Posted None) []
    ∷ called 72 0 4 (verbs.ModifyQp (s 1 1 0) (changes.Rtr (q 0 769) 2 9568943 256 24)) answers.Fine []
    ∷ called 73 0 1 (verbs.ModifyQp (s 0 1 0) changes.Init) answers.Fine []
    ∷ called 74 0 1 (verbs.ModifyQp (s 0 1 0) (changes.Rtr (q 0 257) 1 1 4096 15)) answers.Fine []
    ∷ called 75 0 3 (verbs.Poll (s 1 0 1) 16 0) (answers.Polled ([])) []
    ∷ called 76 0 3 (verbs.PostRecv (s 1 0 2) (receive 1002 (list ((piece 257 4294970620 7658) ∷ (piece 513 8589934607 342) ∷ [])))) (answers.Posted None) []
    ∷ called 77 0 4 (verbs.ModifyQp (s 1 1 0) (changes.Rts 9507228 1 1 16)) answers.Fine []
    ∷ called 78 0 3 (verbs.ModifyQp (s 1 0 1) changes.Init) answers.Fine []
    ∷ called 79 0 4 (verbs.PostRecv (s 1 1 0) (receive 1002 (list ((piece 16777217 4294971038 3838) ∷ (piece 16777217 4294970546 4052) ∷ (piece 16777217 4294971755 110) ∷ [])))) (answers.Posted None) []
    ∷ called 80 0 2 (verbs.PostRecv (s 0 2 0) (receive 1001 (list ((piece 33554689 4294967296 6000) ∷ [])))) (answers.Posted None) []
    ∷ called 81 0 1 (verbs.ModifyQp (s 0 1 0) (changes.Rts 16777215 1 3 2)) answers.Fine []
    ∷ called 82 0 2 (verbs.PostRecv (s 0 2 0) (receive 1002 (list ((piece 33554689 4294967296 8000) ∷ [])))) (answers.Posted None) []
    ∷ called 83 0 0 (verbs.PostRecv (s 0 0 2) (receive 1004 (list ((piece 513 4294967304 7456) ∷ (piece 513 4294967304 544) ∷ [])))) (answers.Posted None) []
    ∷ called 84 0 1 (verbs.ModifyQp (s 0 1 2) changes.Init) answers.Fine []
    ∷ called 85 0 4 (verbs.PostRecv (s 1 1 0) (receive 1003 (list ((piece 16777217 4294967362 8000) ∷ [])))) (answers.Posted None) []
    ∷ called 86 0 0 (verbs.Poll (s 0 0 0) 16 0) (answers.Polled ([])) []
    ∷ called 87 0 1 (verbs.ModifyQp (s 0 1 2) (changes.Rtr (q 1 256) 1 8388608 256 11)) answers.Fine []
    ∷ called 88 0 3 (verbs.ModifyQp (s 1 0 1) (changes.Rtr (q 0 768) 1 16777214 256 0)) answers.Fine []
    ∷ called 89 0 0 (verbs.ModifyQp (s 0 0 1) changes.Init) answers.Fine []
    ∷ called 90 0 3 (verbs.ModifyQp (s 1 0 1) (changes.Rts 0 7 1 2)) answers.Fine []
    ∷ called 91 0 2 (verbs.DeallocMw (s 0 2 7)) (answers.Refused refusals.NoSuch) []
    ∷ called 92 0 0 (verbs.ModifyQp (s 0 0 1) (changes.Rtr (q 0 512) 1 16777215 4096 3)) answers.Fine []
    ∷ called 93 0 2 (verbs.AllocMw (s 0 2 7) 1) answers.Fine []
    ∷ called 94 0 4 (verbs.Inject (q 1 512) (hex "0430ffff000002008091119d09000000")) answers.Fine (marks.Arrived (q 1 512) None ∷ [])
    ∷ called 95 0 3 (verbs.ModifyQp (s 1 0 0) changes.Init) answers.Fine []
    ∷ called 96 0 1 (verbs.ModifyQp (s 0 1 2) (changes.Rts 0 7 3 16)) answers.Fine []
    ∷ called 97 0 0 (verbs.ModifyQp (s 0 0 1) (changes.Rts 1 2 3 2)) answers.Fine []
    ∷ called 98 0 3 (verbs.ModifyQp (s 1 0 0) (changes.Rtr (q 0 514) 1 0 256 25)) answers.Fine []
    ∷ called 99 0 4 (verbs.PostSrq (s 0 1 0) (receive 1006 (list ((piece 16777217 4294967299 8000) ∷ [])))) (answers.Posted None) []
    ∷ called 100 0 2 (verbs.PostSend (s 0 2 1) (request 990 true false false (ops.Bind1 7 (k 33554689) 4294967296 64 (r false true true false false)))) (answers.Posted (Some (k 41944833))) []
    ∷ called 101 0 1 (verbs.PostRecv (s 0 1 2) (receive 1001 (list ((piece 16777729 4294967296 4) ∷ [])))) (answers.Posted None) []
    ∷ called 102 0 1 (verbs.PostRecv (s 0 1 2) (receive 1002 (list ((piece 16777217 4294967315 12) ∷ (piece 16777473 4294967296 1377) ∷ (piece 16777473 4294967296 6611) ∷ [])))) (answers.Posted None) []
    ∷ called 103 0 2 (verbs.PostSend (s 0 2 1) (request 990 true false false (ops.LocalInv (k 41944833)))) (answers.Posted None) []
    ∷ called 104 0 0 (verbs.PostRecv (s 0 0 1) (receive 1001 (list ((piece 1 4294967299 4) ∷ [])))) (answers.Posted None) []
    ∷ called 105 0 4 (verbs.PostRecv (s 1 1 0) (receive 1004 (list ((piece 16777217 4294968464 131) ∷ (piece 16777217 4294974114 44) ∷ (piece 16777217 4294971704 264) ∷ (piece 16777217 4294969640 73) ∷ [])))) (answers.Posted None) []
    ∷ called 106 0 4 (verbs.Poll (s 1 1 1) 16 0) (answers.Polled ([])) []
    ∷ entry 107 0 (events.Request (q 0 769) lots.Pass) (marks.Granted (grant (k 41944833) (d 0 2) None false 4294967296 64 (r false true true false false) ((run 0 0 0 64) ∷ [])) ∷ marks.Done (q 0 769) (completion (q 0 769) false 0 990 operations.Bind statuses.Success 0 None None) None ∷ [])
    ∷ called 108 0 0 (verbs.PostRecv (s 0 0 1) (receive 1002 (list ((piece 257 4294967328 8000) ∷ [])))) (answers.Refused refusals.QueueFull) []
    ∷ called 109 0 3 (verbs.ModifyQp (s 1 0 0) (changes.Rts 8388608 7 7 2)) answers.Fine []
    ∷ called 110 0 2 (verbs.ModifyQp (s 0 2 1) changes.Reset) answers.Fine []
    ∷ called 111 0 3 (verbs.PostRecv (s 1 0 0) (receive 1001 (list ([])))) (answers.Posted None) []
    ∷ called 112 0 3 (verbs.Poll (s 1 0 1) 16 0) (answers.Polled ([])) []
    ∷ called 113 0 1 (verbs.Poll (s 0 1 0) 16 0) (answers.Polled ([])) []
    ∷ called 114 0 2 (verbs.ModifyQp (s 0 2 1) changes.Init) answers.Fine []
    ∷ called 115 0 2 (verbs.ModifyQp (s 0 2 1) (changes.Rtr (q 1 512) 2 9507228 256 8)) answers.Fine []
    ∷ called 116 0 0 (verbs.Poll (s 0 0 1) 16 0) (answers.Polled ([])) []
    ∷ called 117 0 4 (verbs.PostSend (s 1 1 0) (request 5 true false false (ops.Read 4294967296 (k 33554689) (list ((piece 16777217 4294973614 248) ∷ (piece 16777217 4294973114 7) ∷ []))))) (answers.Posted None) []
    ∷ called 118 0 2 (verbs.ModifyQp (s 0 2 1) (changes.Rts 9568943 7 0 16)) answers.Fine []
    ∷ called 119 0 1 (verbs.Poll (s 0 1 1) 1 0) (answers.Polled ([])) []
    ∷ called 120 0 0 (verbs.ModifyQp (s 0 0 0) changes.Init) answers.Fine []
    ∷ called 121 0 3 (verbs.PostSend (s 1 0 2) (request 3 true false false (ops.Bind1 0 (k 257) 4294967563 8190 (r false false true false false)))) (answers.Refused refusals.NoSuch) []
    ∷ called 122 0 4 (verbs.Poll (s 1 1 1) 16 0) (answers.Polled ([])) []
    ∷ called 123 0 0 (verbs.ModifyQp (s 0 0 0) (changes.Rtr (q 1 258) 1 16777214 256 24)) answers.Fine []
    ∷ called 124 0 2 (verbs.PostRecv (s 0 2 1) (receive 1002 (list ((piece 33554433 4294967339 2) ∷ (piece 33554689 4294967317 2) ∷ [])))) (answers.Posted None) []
    ∷ entry 125 0 (events.Request (q 1 512) lots.Pass) (marks.Sent (q 1 512) (q 0 769) (Some 0) (Some 0) (hex "0c00ffff000003018091119c000000010000000002000101000000ff") ∷ [])
    ∷ called 126 0 4 (verbs.Inject (q 1 512) (hex "1000ffff000002008091119e600000082963c77cb191a077c003b49c6278f6c711a302182f5a7e27e0d71180876cc551a045791b04f59f3fa128c93d")) answers.Fine (marks.Arrived (q 1 512) None ∷ marks.Dropped (q 1 512) drops.Stale ∷ [])
    ∷ called 127 0 1 (verbs.Inject (q 0 512) (hex "0170ffff000002008000000144000000")) answers.Fine (marks.Arrived (q 0 512) None ∷ [])
    ∷ called 128 0 0 (verbs.PostRecv (s 0 0 1) (receive 1003 (list ((piece 257 4294967328 8000) ∷ [])))) (answers.Refused refusals.QueueFull) []
    ∷ entry 129 0 (events.Deliver (q 0 769) 0) (marks.Arrived (q 0 769) (Some 0) ∷ [])
    ∷ called 130 0 4 (verbs.Inject (q 1 512) (hex "1400ffff00000200809202ae00000001000000480100000100000000000000290000000000000000")) answers.Fine (marks.Arrived (q 1 512) None ∷ marks.Dropped (q 1 512) drops.Unsaved ∷ [])
    ∷ called 131 0 1 (verbs.PostSrq (s 0 1 0) (receive 1001 (list ((piece 16777473 4294967296 3376) ∷ (piece 16777217 4294967299 2688) ∷ (piece 16777473 4294967296 1936) ∷ [])))) (answers.Posted None) []
    ∷ called 132 0 2 (verbs.PostRecv (s 0 2 0) (receive 1003 (list ((piece 33554433 4294967296 6000) ∷ [])))) (answers.Refused refusals.QueueFull) []
    ∷ called 133 0 1 (verbs.PostSrq (s 0 1 0) (receive 1002 (list ((piece 16777729 4294967314 3) ∷ (piece 16777217 4294967314 1) ∷ [])))) (answers.Refused refusals.QueueFull) []
    ∷ called 134 0 3 (verbs.Poll (s 1 0 0) 16 0) (answers.Polled ([])) []
    ∷ called 135 0 0 (verbs.Poll (s 0 0 1) 16 0) (answers.Polled ([])) []
    ∷ called 136 0 2 (verbs.Inject (q 0 769) (hex "06c0ffff00000301809111a1000000010000000002000101000000901e04905e218e19360424a7bd24d8ec2fa00b4634247092593163aa253c21fc9f7c12e046b68486e517bca233")) answers.Fine (marks.Arrived (q 0 769) None ∷ [])
    ∷ called 137 0 0 (verbs.Poll (s 0 0 1) 1 0) (answers.Polled ([])) []
    ∷ entry 138 0 (events.Deliver (q 0 769) 0) (marks.Arrived (q 0 769) (Some 0) ∷ [])
    ∷ entry 139 0 (events.Deliver (q 0 769) 0) (marks.Arrived (q 0 769) (Some 0) ∷ [])
    ∷ called 140 0 4 (verbs.Inject (q 1 512) (hex "1680ffff000002000038120001000001")) answers.Fine (marks.Arrived (q 1 512) None ∷ marks.Dropped (q 1 512) drops.Unsaved ∷ [])
    ∷ called 141 0 3 (verbs.PostSend (s 1 0 2) (request 920 true false false (ops.FetchAdd 4294967344 (k 513) 5 (list ((piece 1 8589935257 8) ∷ []))))) (answers.Refused refusals.QueueState) []
    ∷ called 142 0 0 (verbs.PostRecv (s 0 0 2) (receive 1005 (list ([])))) (answers.Refused refusals.QueueFull) []
    ∷ called 143 0 3 (verbs.Poll (s 1 0 0) 4 0) (answers.Polled ([])) []
    ∷ called 144 0 1 (verbs.Poll (s 0 1 0) 16 0) (answers.Polled ([])) []
    ∷ called 145 0 1 (verbs.PostSrq (s 0 1 0) (receive 1003 (list ((piece 16777729 4294967296 8000) ∷ [])))) (answers.Refused refusals.QueueFull) []
    ∷ called 146 0 4 (verbs.Inject (q 1 512) (hex "0b007fff00000200809202ae00000001000000400100000100000258ceddd2454b1b5af3f22a8fcf7a267bbcab87d7517996742c9403499a46c0aaf6572874187d7b57229cb20684a97e2fdec590e276f075519552dfc13a7792d07cc76c7e7b5552b7b835d6d0e77b6a5cab762d48ac21eb830be7b8a046654f100f69691db946df977b57fa7ec883814061733394ac39c16f250bd5471960cf8d889e019278d06536cabc77a0815fcde0cd71ddd995634a44a5baae2bf419dcd4c3ce46290a0dd4dec9386908f5f06adb774ac7ff5552af24ebbd20f82d4acad6fbbdcf84081241e7c67d2711b2428765599606df518061a1fe5c87632cc71fa28f8891600e8c85872c5fb67e4e70320fd1c95d0311cdeecfae2d41067899d727a4ec12f191")) answers.Fine (marks.Arrived (q 1 512) None ∷ marks.Dropped (q 1 512) drops.Partition ∷ [])
    ∷ called 147 0 4 (verbs.Inject (q 1 512) (hex "0700ffff00000200009202ad053995f4091836e16a33110df6325aa026153da4bde5d3c592a9690f3e323e11a1fe2b896df4d8ea37fc92268695727efcd65d44d4ddf93095dacc5b1993c79faad1d04a115c275e9fa414932c95c67bc8331960071f1c1918f4789c1e2023760c1ba1b02c69c60b187bc4b294c73b8895f400a1b7b0dbbcd08090b1e53b2c2ebcabd49663dd550036350908eded81bdd2798d6b4afec3b6de6f34f30737823e0139e93e2fdaf21c93608d97514174af330ffcc5873bb98d740a3c66a3014700cdfdfa209cbc17f400b4dc8cf84feadb6f204aec112481d96ee73dcc8c2e548c086d6504d592784ea64d98fb30eedeb844451802ab5fc4042b92de65adc43ed7")) answers.Fine (marks.Arrived (q 1 512) None ∷ marks.Dropped (q 1 512) drops.Unsaved ∷ [])
    ∷ called 148 0 3 (verbs.PostSend (s 1 0 2) (request 920 true false false (ops.FetchAdd 4294967312 (k 513) 5 (list ((piece 1 8589934799 8) ∷ []))))) (answers.Refused refusals.QueueState) []
    ∷ called 149 0 2 (verbs.ModifyQp (s 0 2 0) changes.Reset) answers.Fine []
    ∷ called 150 0 4 (verbs.PostSend (s 1 1 0) (request 6 true false true (ops.Send (list ((piece 16777217 4294968820 255) ∷ []))))) (answers.Posted None) []
    ∷ called 151 0 2 (verbs.ModifyQp (s 0 2 0) changes.Init) answers.Fine []
    ∷ called 152 0 1 (verbs.Poll (s 0 1 0) 16 0) (answers.Polled ([])) []
    ∷ entry 153 0 (events.Respond (q 0 512) lots.Pass) (marks.Sent (q 0 512) (q 0 257) (Some 0) None (hex "1100ffff000001010000000161000000") ∷ [])
    ∷ entry 154 0 (events.Deliver (q 0 769) 0) (marks.Arrived (q 0 769) (Some 0) ∷ [])
    ∷ called 155 0 0 (verbs.PostSend (s 0 0 2) (request 6 false false true (ops.Write 4294967296 (k 16777729) (list ((piece 257 4294967328 749) ∷ (piece 1 4294967299 1205) ∷ (piece 513 4294967304 46) ∷ []))))) (answers.Posted None) []
    ∷ entry 156 0 (events.Request (q 1 512) lots.Pass) (marks.Local (q 1 512) (d 1 1) (k 16777217) kinds.Read 4294968820 255 (verdicts.Read (hex "000000000000000000000000000000000000000000000000000000000000000000000000000000000000000000000000000000000000000000000000000000000000000000000000000000000000000000000000000000000000000000000000000000000000000000000000000000000000000000000000000000000000000000000000000000000000000000000000000000000000000000000000000000000000000000000000000000000000000000000000000000000000000000000000000000000000000000000000000000000000000000000000000000000000000000000000000000000000000000000000000000000000000000000000000000")) ∷ marks.Sent (q 1 512) (q 0 769) (Some 1) (Some 1) (hex "0490ffff000003018091119d00000000000000000000000000000000000000000000000000000000000000000000000000000000000000000000000000000000000000000000000000000000000000000000000000000000000000000000000000000000000000000000000000000000000000000000000000000000000000000000000000000000000000000000000000000000000000000000000000000000000000000000000000000000000000000000000000000000000000000000000000000000000000000000000000000000000000000000000000000000000000000000000000000000000000000000000000000000000000000000000000000000000000000000000000000000") ∷ [])
    ∷ called 157 0 2 (verbs.ModifyQp (s 0 2 0) (changes.Rtr (q 1 257) 2 0 256 14)) answers.Fine []
    ∷ called 158 0 3 (verbs.Poll (s 1 0 0) 4 0) (answers.Polled ([])) []
    ∷ entry 159 0 (events.Deliver (q 0 769) 1) (marks.Arrived (q 0 769) (Some 1) ∷ marks.Done (q 0 769) (completion (q 0 769) true 0 1002 operations.Recv statuses.LocalLength 0 None None) None ∷ [])
    ∷ entry 160 0 (events.Deliver (q 0 257) 0) (marks.Arrived (q 0 257) (Some 0) ∷ marks.Dropped (q 0 257) drops.Stale ∷ [])
    ∷ called 161 0 4 (verbs.Inject (q 1 512) (hex "0900ffff00000200809202b0e6e61ecc74b21cf995b2a9b941528fe2cf795b47aeab94460714965150c8e7d99885139dabcc407ee201bcf3acfd46a51816fb80fcafcc326cf7276ada3dd37ef5dea4234ddc76378037c4bf0f1ab3c939eb16f09ebee0f38e0d025c750ee84dfe28f3474715cfb7b2fc15e6bfdc56cec38e5a474f04419fac12ddf65d84c1626cf959b29d60a91c105c8656ac3344ea8b91e6a388d0accf8997f50f09fc787ed56101dbf43d30c590015671334e416a605b8191a322adfcd36ca29fab1433f5a98fe1a32b2502b20482d6f96746e22195de06c40e3c91d4c5dfdd1291993367380694a459372b0d603588c6b5036707258b1e7cda8ac24aca2ebfafbc49b7bb1434b664")) answers.Fine (marks.Arrived (q 1 512) None ∷ [])
    ∷ called 162 0 3 (verbs.PostSend (s 1 0 2) (request 920 true false false (ops.CmpSwap 4294967320 (k 1) 1 7 (list ((piece 513 8589934758 8) ∷ []))))) (answers.Refused refusals.QueueState) []
    ∷ called 163 0 1 (verbs.PostSend (s 0 1 1) (request 4 true false false (ops.SendImm 1084509647 (list ((piece 16777729 4294967296 139) ∷ (piece 16777473 4294967296 1810) ∷ (piece 16777473 4294967309 51) ∷ []))))) (answers.Posted None) []
    ∷ entry 164 0 (events.Deliver (q 0 257) 0) (marks.Arrived (q 0 257) (Some 0) ∷ marks.Dropped (q 0 257) drops.Stale ∷ [])
    ∷ entry 165 0 (events.Deliver (q 0 769) 1) (marks.Arrived (q 0 769) (Some 1) ∷ marks.Dropped (q 0 769) drops.State ∷ [])
    ∷ called 166 0 0 (verbs.Poll (s 0 0 1) 16 0) (answers.Polled ([])) []
    ∷ entry 167 0 (events.Respond (q 0 769) lots.Pass) (marks.Remote (q 0 769) (d 0 2) (Some 0) (k 33554689) kinds.Read 4294967296 255 (verdicts.Denied denials.OutOfRange) ∷ marks.Sent (q 0 769) (q 1 512) (Some 0) None (hex "1100ffff000002000091119c62000001") ∷ [])
    ∷ called 168 0 1 (verbs.Poll (s 0 1 0) 16 0) (answers.Polled ([])) []
    ∷ called 169 0 2 (verbs.ModifyQp (s 0 2 0) (changes.Rts 9814790 7 0 16)) answers.Fine []
    ∷ entry 170 0 (events.Deliver (q 0 769) 0) (marks.Arrived (q 0 769) (Some 0) ∷ marks.Dropped (q 0 769) drops.State ∷ [])
    ∷ called 171 0 2 (verbs.PostRecv (s 0 2 0) (receive 1004 (list ((piece 33554689 4294967306 4) ∷ [])))) (answers.Posted None) []
    ∷ entry 172 0 (events.Deliver (q 0 769) 1) (marks.Arrived (q 0 769) (Some 1) ∷ marks.Dropped (q 0 769) drops.State ∷ [])
    ∷ called 173 0 3 (verbs.PostSend (s 1 0 2) (request 920 true false false (ops.FetchAdd 4294967344 (k 513) 1 (list ((piece 1 8589934822 1) ∷ (piece 257 4294976404 1) ∷ (piece 1 8589935356 6) ∷ []))))) (answers.Refused refusals.QueueState) []
    ∷ entry 174 0 (events.Deliver (q 1 512) 0) (marks.Arrived (q 1 512) (Some 0) ∷ marks.Done (q 1 512) (completion (q 1 512) false 0 5 operations.Read statuses.RemoteAccess 0 None None) None ∷ marks.Done (q 1 512) (completion (q 1 512) false 1 6 operations.Send statuses.Flushed 0 None None) None ∷ marks.Done (q 1 512) (completion (q 1 512) true 0 1002 operations.Recv statuses.Flushed 0 None None) None ∷ marks.Done (q 1 512) (completion (q 1 512) true 1 1003 operations.Recv statuses.Flushed 0 None None) None ∷ marks.Done (q 1 512) (completion (q 1 512) true 2 1004 operations.Recv statuses.Flushed 0 None None) None ∷ [])
    ∷ entry 175 0 (events.Request (q 0 513) lots.Pass) (marks.Local (q 0 513) (d 0 1) (k 16777729) kinds.Read 4294967296 139 (verdicts.Denied denials.OutOfRange) ∷ marks.Done (q 0 513) (completion (q 0 513) false 0 4 operations.Send statuses.LocalProtection 0 None None) None ∷ [])
    ∷ called 176 0 4 (verbs.Poll (s 0 0 1) 1 0) (answers.Polled ([])) []
    ∷ called 177 0 3 (verbs.PostSend (s 1 0 2) (request 920 true false false (ops.FetchAdd 4294967312 (k 1) 5 (list ((piece 513 8589934849 8) ∷ []))))) (answers.Refused refusals.QueueState) []
    ∷ called 178 0 0 (verbs.PostSend (s 0 0 2) (request 7 true true false (ops.CmpSwap 4294967304 (k 16777217) 7 8 (list ((piece 1 4294967301 3) ∷ (piece 257 4294967350 5) ∷ []))))) (answers.Posted None) []
    ∷ entry 179 0 (events.Deliver (q 0 257) 0) (marks.Arrived (q 0 257) (Some 0) ∷ marks.Dropped (q 0 257) drops.Stale ∷ [])
    ∷ called 180 0 1 (verbs.PostSend (s 0 1 0) (request 1 true false true (ops.Read 4294967328 (k 257) (list ((piece 16777729 4294967296 2000) ∷ []))))) (answers.Posted None) (marks.Done (q 0 512) (completion (q 0 512) false 0 1 operations.Read statuses.Flushed 0 None None) None ∷ [])
    ∷ called 181 0 0 (verbs.Poll (s 0 0 1) 16 0) (answers.Polled ([])) []
    ∷ entry 182 0 (events.Request (q 0 258) lots.Pass) (marks.Local (q 0 258) (d 0 0) (k 257) kinds.Read 4294967328 256 (verdicts.Denied denials.OutOfRange) ∷ marks.Done (q 0 258) (completion (q 0 258) false 0 6 operations.Write statuses.LocalProtection 0 None None) None ∷ marks.Done (q 0 258) (completion (q 0 258) false 1 7 operations.CmpSwap statuses.Flushed 0 None None) None ∷ marks.Done (q 0 258) (completion (q 0 258) true 0 1001 operations.Recv statuses.Flushed 0 None None) None ∷ marks.Done (q 0 258) (completion (q 0 258) true 1 1002 operations.Recv statuses.Flushed 0 None None) None ∷ marks.Done (q 0 258) (completion (q 0 258) true 2 1003 operations.Recv statuses.Flushed 0 None None) None ∷ marks.Done (q 0 258) (completion (q 0 258) true 3 1004 operations.Recv statuses.Flushed 0 None None) None ∷ [])
    ∷ entry 183 0 (events.Deliver (q 0 257) 0) (marks.Arrived (q 0 257) (Some 0) ∷ marks.Dropped (q 0 257) drops.Stale ∷ [])
    ∷ called 184 0 4 (verbs.PostSend (s 1 1 0) (request 7 true false false (ops.Send (list ((piece 16777217 4294968000 64) ∷ []))))) (answers.Posted None) (marks.Done (q 1 512) (completion (q 1 512) false 2 7 operations.Send statuses.Flushed 0 None None) None ∷ [])
    ∷ called 185 0 1 (verbs.Poll (s 0 1 1) 16 0) (answers.Polled ((completion (q 0 512) false 0 1 operations.Read statuses.Flushed 0 None None) ∷ [])) []
    ∷ called 186 0 3 (verbs.Poll (s 1 0 0) 4 0) (answers.Polled ([])) []
    ∷ called 187 0 4 (verbs.PostSend (s 0 0 1) (request 12 true false false (ops.FetchAdd 4294967320 (k 16777473) 18446744073709551615 (list ((piece 1 4294967305 8) ∷ []))))) (answers.Posted None) []
    ∷ called 188 0 0 (verbs.PostRecv (s 0 0 1) (receive 1004 (list ((piece 513 4294967304 8000) ∷ [])))) (answers.Refused refusals.QueueFull) []
    ∷ called 189 0 1 (verbs.PostSend (s 0 1 0) (request 2 true false false (ops.FetchAdd 4294967352 (k 257) 5 (list ((piece 16777473 4294967304 0) ∷ (piece 16777473 4294967328 8) ∷ (piece 16777729 4294967311 0) ∷ []))))) (answers.Posted None) (marks.Done (q 0 512) (completion (q 0 512) false 1 2 operations.FetchAdd statuses.Flushed 0 None None) None ∷ [])
    ∷ called 190 0 2 (verbs.PostRecv (s 0 2 0) (receive 1005 (list ((piece 33554433 4294967296 8000) ∷ [])))) (answers.Posted None) []
    ∷ entry 191 0 (events.Deliver (q 0 257) 0) (marks.Arrived (q 0 257) (Some 0) ∷ marks.Dropped (q 0 257) drops.Stale ∷ [])
    ∷ called 192 0 0 (verbs.ModifyQp (s 0 0 2) changes.Reset) answers.Fine []
    ∷ called 193 0 3 (verbs.PostSend (s 1 0 2) (request 920 true false false (ops.FetchAdd 4294967336 (k 513) 5 (list ((piece 1 8589935482 2) ∷ (piece 257 4294981754 2) ∷ (piece 1 8589934846 4) ∷ []))))) (answers.Refused refusals.QueueState) []
    ∷ called 194 0 2 (verbs.PostRecv (s 0 2 0) (receive 1006 (list ((piece 33554433 4294967296 6433) ∷ (piece 33554689 4294967296 1255) ∷ (piece 33554689 4294967296 312) ∷ [])))) (answers.Refused refusals.QueueFull) []
    ∷ entry 195 0 (events.Deliver (q 0 769) 0) (marks.Arrived (q 0 769) (Some 0) ∷ marks.Dropped (q 0 769) drops.State ∷ [])
    ∷ entry 196 0 (events.Deliver (q 1 512) 0) (marks.Arrived (q 1 512) (Some 0) ∷ marks.Dropped (q 1 512) drops.State ∷ [])
    ∷ called 197 0 2 (verbs.Poll (s 0 2 0) 16 0) (answers.Polled ([])) []
    ∷ called 198 0 3 (verbs.Poll (s 1 0 0) 4 0) (answers.Polled ([])) []
    ∷ entry 199 0 (events.Request (q 0 257) lots.Lose) (marks.Sent (q 0 257) (q 0 512) (Some 0) (Some 0) (hex "1400ffff0000020080000001000000010000001801000101ffffffffffffffff0000000000000000") ∷ marks.Lost (q 0 512) (Some 0) ∷ [])
    ∷ []

abbrev configuration : Configuration
configuration = record { adapters = adapter (64 ∷ []) 4 8 8 4 2 4 ∷ adapter (16384 ∷ 1000 ∷ []) 4 8 8 4 2 4 ∷ []; events = 131072 }

the_run : outcome_of configuration (map (λ e. e.event) history) ≡ Ok (map (λ e. e.marks) history)
unfolding row_of be_bytes packet_bytes number_at bth_at front_at reth_from atomic_from aeth_from number_from payload_at payload_behind body_in packet_in
the_run = refl
