-- Written by tools/check_traces from examples/traces/run-early-timers.trace and run-early-timers.setup.
-- The history of the trace, and what holds of it. For proofs only.
use Rattle.std.proofs.Common.{◌≡◌, List, [], ◌∷◌, map, true, false, None, Some, Ok, refl}
use Rattle.ca_keys.specs.declared.access.Kind.TheVariants as kinds
use Rattle.ca_keys.specs.declared.access.Denial.TheVariants as denials
use Rattle.ca_base.specs.declared.change.Change.TheVariants as changes
use Rattle.ca_base.specs.declared.change.Field.TheVariants as fields
use Rattle.ca_base.specs.declared.completion.WcOp.TheVariants as operations
use Rattle.ca_base.specs.declared.completion.WcStatus.TheVariants as statuses
use Rattle.ca_base.specs.declared.lot.Lot.TheVariants as lots
use Rattle.ca_base.specs.declared.request.SendOp.TheVariants as ops
use Rattle.ca_keys.specs.declared.verdict.Verdict.TheVariants as verdicts
use Rattle.ca_wire.specs.declared.wire_error.WireError.TheVariants as wire
use Rattle.ca_model.specs.declared.answer.Answer.TheVariants as answers
use Rattle.ca_model.specs.declared.answer.Refusal.TheVariants as refusals
use Rattle.ca_model.specs.declared.event.Event.TheVariants as events
use Rattle.ca_model.specs.declared.mark.Drop1.TheVariants as drops
use Rattle.ca_model.specs.declared.mark.Mark.TheVariants as marks
use Rattle.ca_model.specs.declared.verb.Verb.TheVariants as verbs
use Rattle.ca_base.specs.Configuration.{Configuration}
use Rattle.ca_wire.specs.Decoding.{number_at, bth_at, front_at, reth_from, atomic_from, aeth_from, number_from, payload_at, payload_behind, body_in, packet_in}
use Rattle.ca_wire.specs.Packet.{be_bytes, packet_bytes}
use Rattle.ca_wire.specs.Table.{row_of}
use Rattle.ca_model.specs.Entries.{EntryValue}
use Rattle.ca_model.specs.machine.Run.{run as outcome_of}
use Rattle.ca_model.proofs.Literals.{d, s, q, k, r, run, place, piece, list, request, receive, completion, grant, entry, adapter}
use Rattle.ca_model_traces.proofs.Entries.{called, hex}

abbrev history : List EntryValue
history =
    called 0 0 0 (verbs.AllocPd (d 0 0)) answers.Fine []
    ∷ called 1 0 0 (verbs.CreateCq (s 0 0 0) 34) answers.Fine []
    ∷ called 2 0 1 (verbs.PostSrq (s 0 0 0) (receive 1036 (list ((piece 1 4294967296 8000) ∷ [])))) (answers.Refused refusals.NoSuch) []
    ∷ called 3 0 0 (verbs.CreateCq (s 0 0 1) 12) answers.Fine []
    ∷ called 4 0 0 (verbs.CreateSrq (s 0 0 0) 8) answers.Fine []
    ∷ called 5 0 0 (verbs.CreateQp (s 0 0 0) 1 0 8 0 (Some 0)) (answers.Queue 256 1) []
    ∷ called 6 0 0 (verbs.CreateQp (s 0 0 1) 1 1 2 1 None) (answers.Queue 257 1) []
    ∷ called 7 0 0 (verbs.CreateQp (s 0 0 2) 0 0 2 0 (Some 0)) (answers.Queue 258 1) []
    ∷ called 8 0 0 (verbs.RegMr (s 0 0 0) 0 0 2048 (r true true true true true)) (answers.Key (k 1)) (marks.Granted (grant (k 1) (d 0 0) None true 4294967296 2048 (r true true true true true) ((run 0 0 0 2048) ∷ [])) ∷ [])
    ∷ called 9 0 0 (verbs.RegMr (s 0 0 1) 1 0 0 (r true true true true true)) (answers.Refused refusals.Empty) []
    ∷ called 10 0 0 (verbs.RegMr (s 0 0 2) 0 8 4088 (r true true true true true)) (answers.Key (k 513)) (marks.Granted (grant (k 513) (d 0 0) None true 4294967304 4088 (r true true true true true) ((run 0 0 8 4088) ∷ [])) ∷ [])
    ∷ called 11 0 0 (verbs.AllocMw (s 0 0 0) 2) answers.Fine []
    ∷ called 12 0 0 (verbs.ModifyQp (s 0 0 2) changes.Init) answers.Fine []
    ∷ called 13 0 0 (verbs.ModifyQp (s 0 0 2) (changes.Rtr (q 0 257) 1 8388608 512 26)) answers.Fine []
    ∷ called 14 0 0 (verbs.PostSrq (s 0 0 0) (receive 1001 (list ((piece 513 4294968110 1194) ∷ (piece 1 4294969343 6806) ∷ [])))) (answers.Posted None) []
    ∷ called 15 0 0 (verbs.PostSrq (s 0 0 0) (receive 1002 (list ((piece 513 4294967641 615) ∷ (piece 1 4294967602 385) ∷ [])))) (answers.Posted None) []
    ∷ called 16 0 0 (verbs.Poll (s 0 0 0) 16 0) (answers.Polled ([])) []
    ∷ called 17 0 0 (verbs.ModifyQp (s 0 0 1) changes.Init) answers.Fine []
    ∷ called 18 0 0 (verbs.ModifyQp (s 0 0 1) (changes.Rtr (q 0 258) 1 8388608 512 32)) (answers.Refused (refusals.OutOfRange fields.RnrCode)) []
    ∷ called 19 0 0 (verbs.ModifyQp (s 0 0 1) (changes.Rts 0 0 7 2)) (answers.Refused refusals.Transition) []
    ∷ called 20 0 0 (verbs.PostRecv (s 0 0 1) (receive 1001 (list ((piece 1 4294968842 391) ∷ (piece 257 8589934592 7609) ∷ [])))) (answers.Posted None) []
    ∷ called 21 0 0 (verbs.Poll (s 0 0 1) 16 0) (answers.Polled ([])) []
    ∷ called 22 0 0 (verbs.PostRecv (s 0 0 1) (receive 1002 (list ((piece 513 4294967620 938) ∷ (piece 257 0 5062) ∷ [])))) (answers.Refused refusals.QueueFull) []
    ∷ called 23 0 0 (verbs.PostRecv (s 0 0 1) (receive 1003 (list ((piece 513 0 32) ∷ (piece 1 4294967396 31) ∷ (piece 513 4294969214 310) ∷ (piece 513 4294967303 139) ∷ [])))) (answers.Refused refusals.QueueFull) []
    ∷ called 24 0 0 (verbs.Poll (s 0 0 1) 16 0) (answers.Polled ([])) []
    ∷ called 25 0 0 (verbs.PostRecv (s 0 0 1) (receive 1004 (list ((piece 513 4294967304 5769) ∷ (piece 513 4294968882 1546) ∷ (piece 1 4294968447 685) ∷ [])))) (answers.Refused refusals.QueueFull) []
    ∷ called 26 0 0 (verbs.PostSend (s 0 0 2) (request 940 true true false (ops.Read 4294967981 (k 513) (list ((piece 513 4294967737 31) ∷ (piece 1 4294967907 146) ∷ (piece 1 4294967677 123) ∷ []))))) (answers.Refused refusals.QueueState) []
    ∷ called 27 0 0 (verbs.PostSend (s 0 0 2) (request 940 true false true (ops.Read 4294968646 (k 3735928559) (list ((piece 1 4294968943 104) ∷ (piece 1 4294969043 92) ∷ (piece 513 4294970519 360) ∷ (piece 513 4294969108 44) ∷ []))))) (answers.Refused refusals.QueueState) []
    ∷ called 28 0 0 (verbs.Poll (s 0 0 1) 16 0) (answers.Polled ([])) []
    ∷ called 29 0 0 (verbs.Poll (s 0 0 0) 0 0) (answers.Refused (refusals.OutOfRange fields.Length)) []
    ∷ called 30 0 0 (verbs.Inject (q 0 257) (hex "1140ffff0000010100fffffeff0000c2")) answers.Fine (marks.Arrived (q 0 257) None ∷ marks.Dropped (q 0 257) drops.State ∷ [])
    ∷ called 31 0 0 (verbs.PostSend (s 0 0 2) (request 3 true false false (ops.FetchAdd 0 (k 513) 1 (list ((piece 513 4294967983 0) ∷ (piece 1 4294969298 4) ∷ []))))) (answers.Refused (refusals.OutOfRange fields.List)) []
    ∷ called 32 0 0 (verbs.Inject (q 7 9) (hex "02c0ffff0000010100000000e9024fbbaa6ac14ec32cdb9d9b740ab15264a1b8ddea9b524708b872ba86daf8555cee9630575dd50c0c61ad11125467de5a6203ae1ca0573b2eb3e4f25321b8758843902ed1b8f8598a333c9085ffb74f7148402613873f5725d45d6fd5e5b2a0629478662c573a9db86a3059d6a1f42327156454316752b2958bbffb153883b8c005cd2d70160edbbe4c4c0c8166da618771824b772d6bf0515a51e28dd2791520e37c9d60d17b082da4b0a75864fbaa4280baa7b809dc7f0b05d25b88fff708b4eb0f87fb5774ee861671ef78434624c8a591f442feb6e8bc46ebbe210bcc85f4a1e69843c7c380cb0c1fd23b3ad82e1bf26f9a65dd3173666ccbb1eb1d5b7dabb0d25f8c472e7ae63881996d4ea4153f676c612554f9504b0661ddf852b365f35125c21e993ec2c9b464")) (answers.Refused refusals.NoSuch) []
    ∷ called 33 0 0 (verbs.PostSend (s 0 0 2) (request 4 true false false (ops.SendImm 1481697675 (list ((piece 513 4294967303 257) ∷ []))))) (answers.Refused refusals.QueueState) []
    ∷ called 34 0 0 (verbs.Poll (s 0 0 0) 16 0) (answers.Polled ([])) []
    ∷ called 35 0 0 (verbs.Inject (q 0 257) (hex "1000ffff0000010180000000630000015430c862efa5dbc51f46c5d885edf7d108277f9f75cc77feaa458351734af36f86ad3b383a19297d41a480fd859007c9d042085db6c447cf1ddd9e292a0cd2023b0223028a")) answers.Fine (marks.Arrived (q 0 257) None ∷ marks.Dropped (q 0 257) (drops.Wire wire.Length) ∷ [])
    ∷ called 36 0 0 (verbs.PostSend (s 0 0 2) (request 5 true false false (ops.FetchAdd 4294971169 (k 513) 18446744073709551615 (list ((piece 1 4294967393 8) ∷ []))))) (answers.Refused refusals.QueueState) []
    ∷ called 37 0 0 (verbs.PostSend (s 0 0 2) (request 930 true false false (ops.Read 8589934592 (k 257) (list ((piece 257 8589934591 4492) ∷ (piece 513 4294967304 11508) ∷ []))))) (answers.Refused refusals.QueueState) []
    ∷ called 38 0 0 (verbs.PostRecv (s 0 0 1) (receive 1005 (list ((piece 1 4294967296 5364) ∷ (piece 1 4294968546 124) ∷ (piece 1 4294968528 512) ∷ [])))) (answers.Refused refusals.QueueFull) []
    ∷ called 39 0 0 (verbs.PostSrq (s 0 0 0) (receive 1006 (list ([])))) (answers.Posted None) []
    ∷ called 40 0 0 (verbs.Poll (s 0 0 0) 16 0) (answers.Polled ([])) []
    ∷ called 41 0 0 (verbs.Poll (s 0 0 0) 16 0) (answers.Polled ([])) []
    ∷ called 42 0 0 (verbs.PostSend (s 0 0 2) (request 900 true false false (ops.Send (list ((piece 513 4294967646 4) ∷ (piece 1 4294968115 6) ∷ (piece 513 4294969664 4) ∷ (piece 513 4294970040 6) ∷ []))))) (answers.Refused refusals.QueueState) []
    ∷ called 43 0 0 (verbs.PostRecv (s 0 0 1) (receive 1006 (list ((piece 513 4294967303 8000) ∷ [])))) (answers.Refused refusals.QueueFull) []
    ∷ called 44 0 0 (verbs.Poll (s 0 0 1) 16 0) (answers.Polled ([])) []
    ∷ called 45 0 0 (verbs.Poll (s 0 0 1) 16 0) (answers.Polled ([])) []
    ∷ called 46 0 0 (verbs.Store 0 0 222 (hex "3c")) answers.Fine (marks.Stored (place 0 0 222) (hex "3c") ∷ [])
    ∷ called 47 0 0 (verbs.PostSend (s 0 0 1) (request 920 true false false (ops.CmpSwap 4294968808 (k 0) 0 7 (list ((piece 1 4294967444 2) ∷ (piece 1 4294969343 4) ∷ (piece 1 4294968531 2) ∷ []))))) (answers.Refused refusals.QueueState) []
    ∷ called 48 0 0 (verbs.PostSend (s 0 0 1) (request 920 true false false (ops.CmpSwap 4294969096 (k 1) 7 2 (list ((piece 1 4294968575 0) ∷ (piece 513 4294970119 2) ∷ (piece 513 4294969331 1) ∷ (piece 513 4294969492 5) ∷ []))))) (answers.Refused refusals.QueueState) []
    ∷ called 49 0 0 (verbs.PostSend (s 0 0 1) (request 920 true false false (ops.FetchAdd 4294969824 (k 513) 5 (list ((piece 513 4294971180 8) ∷ []))))) (answers.Refused refusals.QueueState) []
    ∷ called 50 0 0 (verbs.Poll (s 0 0 1) 4 0) (answers.Polled ([])) []
    ∷ called 51 0 0 (verbs.PostSend (s 0 0 1) (request 920 true false false (ops.FetchAdd 4294969343 (k 1) 1 (list ((piece 513 4294968647 4) ∷ []))))) (answers.Refused (refusals.OutOfRange fields.List)) []
    ∷ called 52 0 0 (verbs.Poll (s 0 0 0) 2 0) (answers.Polled ([])) []
    ∷ called 53 0 0 (verbs.PostSend (s 0 0 2) (request 7 true false false (ops.Bind2 0 (k 513) 255 4294970056 64 (r false true true true false)))) (answers.Refused refusals.QueueState) []
    ∷ called 54 0 0 (verbs.PostSend (s 0 0 2) (request 940 true false false (ops.Read 4294968477 (k 1) (list ((piece 1 4294967910 600) ∷ []))))) (answers.Refused refusals.QueueState) []
    ∷ called 55 0 0 (verbs.PostSend (s 0 0 2) (request 940 false false false (ops.Read 4294967500 (k 1) (list ((piece 513 4294967604 1500) ∷ []))))) (answers.Refused refusals.QueueState) []
    ∷ called 56 0 0 (verbs.PostSend (s 0 0 2) (request 940 false false false (ops.Read 4294969585 (k 513) (list ((piece 1 18446744073709551615 39) ∷ (piece 8388609 4294969239 94) ∷ (piece 1 4294967921 1367) ∷ []))))) (answers.Refused refusals.QueueState) []
    ∷ called 57 0 0 (verbs.PostSend (s 0 0 2) (request 940 true false true (ops.Read 18446744073709551615 (k 1) (list ((piece 513 4294968482 453) ∷ (piece 1 4294968781 104) ∷ (piece 1 18446744073709551615 43) ∷ []))))) (answers.Refused refusals.QueueState) []
    ∷ called 58 0 0 (verbs.PostSend (s 0 0 2) (request 940 true false false (ops.Read 0 (k 257) (list ((piece 1 4294969111 150) ∷ (piece 1 4294968057 30) ∷ (piece 1 4294967650 116) ∷ (piece 1 4294969040 304) ∷ []))))) (answers.Refused refusals.QueueState) []
    ∷ called 59 0 0 (verbs.PostSend (s 0 0 2) (request 8 true false true (ops.Write 4294967502 (k 1) (list ((piece 1 4294969343 53) ∷ (piece 513 4294967546 202) ∷ []))))) (answers.Refused refusals.QueueState) []
    ∷ called 60 0 0 (verbs.Inject (q 0 257) (hex "1200ffff0000010180800003620000044d96d21bae05ec96")) answers.Fine (marks.Arrived (q 0 257) None ∷ marks.Dropped (q 0 257) drops.State ∷ [])
    ∷ called 61 0 0 (verbs.PostSend (s 0 0 2) (request 9 true false false (ops.LocalInv (k 8388863)))) (answers.Refused refusals.QueueState) []
    ∷ called 62 0 0 (verbs.Inject (q 7 9) (hex "1200ffff000001010000000162000005dd7a545ab542c26d")) (answers.Refused refusals.NoSuch) []
    ∷ called 63 0 0 (verbs.PostSend (s 0 0 2) (request 10 true false false (ops.Read 4294968493 (k 1) (list ((piece 1 4294968051 43) ∷ (piece 1 4294967732 21) ∷ []))))) (answers.Refused refusals.QueueState) []
    ∷ called 64 0 0 (verbs.Inject (q 0 257) (hex "0980ffff0000010180000001e42f03513b12c2ea786dda639a375868f1915eea3b13abe860766e5552581025ed0908d94d817c29c72f555bf6f7a13f")) answers.Fine (marks.Arrived (q 0 257) None ∷ marks.Dropped (q 0 257) drops.State ∷ [])
    ∷ called 65 0 0 (verbs.PostSend (s 0 0 2) (request 11 true false false (ops.Bind2 1 (k 513) 255 4294967304 0 (r false true true true false)))) (answers.Refused refusals.QueueState) []
    ∷ called 66 0 0 (verbs.PostSend (s 0 0 1) (request 7 true false false (ops.SendInv (k 16777217) (list ((piece 513 4294970714 1) ∷ (piece 1 4294968982 2) ∷ (piece 1 4294968256 1) ∷ (piece 1 4294969300 0) ∷ []))))) (answers.Refused refusals.QueueState) []
    ∷ called 67 0 0 (verbs.Poll (s 0 0 1) 16 0) (answers.Polled ([])) []
    ∷ called 68 0 0 (verbs.Load 0 1 4176 8) (answers.Loaded (hex "0000000000000000")) []
    ∷ called 69 0 0 (verbs.Poll (s 0 0 1) 0 0) (answers.Refused (refusals.OutOfRange fields.Length)) []
    ∷ called 70 0 0 (verbs.PostSend (s 0 0 2) (request 12 true false false (ops.FetchAdd 4294970624 (k 513) 18446744073709551615 (list ((piece 1 4294967551 8) ∷ []))))) (answers.Refused refusals.QueueState) []
    ∷ called 71 0 0 (verbs.Poll (s 0 0 0) 16 0) (answers.Polled ([])) []
    ∷ called 72 0 0 (verbs.AllocPd (d 0 0)) (answers.Refused refusals.DomainTaken) []
    ∷ called 73 0 0 (verbs.ModifyQp (s 0 0 2) changes.Reset) answers.Fine []
    ∷ called 74 0 0 (verbs.ModifyQp (s 0 0 2) changes.Init) answers.Fine []
    ∷ called 75 0 0 (verbs.ModifyQp (s 0 0 2) (changes.Rtr (q 0 257) 1 8388608 512 2)) answers.Fine []
    ∷ called 76 0 0 (verbs.ModifyQp (s 0 0 2) (changes.Rts 16685719 7 3 4)) answers.Fine []
    ∷ called 77 0 0 (verbs.PostSrq (s 0 0 0) (receive 1013 (list ((piece 513 4294967304 4188) ∷ (piece 1 4294967454 1267) ∷ (piece 513 4294967433 2545) ∷ [])))) (answers.Posted None) []
    ∷ called 78 0 0 (verbs.PostSrq (s 0 0 0) (receive 1014 (list ((piece 16777217 4294967296 4489) ∷ (piece 513 4294969149 1511) ∷ [])))) (answers.Posted None) []
    ∷ called 79 0 0 (verbs.Poll (s 0 0 0) 16 0) (answers.Polled ([])) []
    ∷ called 80 0 0 (verbs.PostSend (s 0 0 2) (request 15 true false true (ops.Bind2 0 (k 1) 0 4294967296 2048 (r false false false true false)))) (answers.Posted None) []
    ∷ entry 81 0 (events.Request (q 0 258) lots.Pass) (marks.Granted (grant (k 8388608) (d 0 0) (Some (q 0 258)) false 4294967296 2048 (r false false false true false) ((run 0 0 0 2048) ∷ [])) ∷ marks.Done (q 0 258) (completion (q 0 258) false 0 15 operations.Bind statuses.Success 0 None None) None ∷ [])
    ∷ called 82 0 0 (verbs.Poll (s 0 0 0) 16 0) (answers.Polled ((completion (q 0 258) false 0 15 operations.Bind statuses.Success 0 None None) ∷ [])) []
    ∷ called 83 0 0 (verbs.PostSend (s 0 0 2) (request 16 true false false (ops.FetchAdd 4294968872 (k 8388608) 1 (list ((piece 513 4294970098 8) ∷ []))))) (answers.Posted None) []
    ∷ called 84 0 0 (verbs.Store 0 0 1754 (hex "e174b7760ec1d9b8")) answers.Fine (marks.Stored (place 0 0 1754) (hex "e174b7760ec1d9b8") ∷ [])
    ∷ entry 85 0 (events.Request (q 0 258) lots.Pass) (marks.Sent (q 0 258) (q 0 257) None (Some 1) (hex "1400ffff0000010180fe9a9700000001000006280080000000000000000000010000000000000000") ∷ marks.Lost (q 0 257) None ∷ [])
    ∷ called 86 0 0 (verbs.PostSrq (s 0 0 0) (receive 1017 (list ((piece 1 4294967296 8000) ∷ [])))) (answers.Posted None) []
    ∷ called 87 0 0 (verbs.PostSrq (s 0 0 0) (receive 1018 (list ((piece 1 4294967499 1044) ∷ (piece 1 4294967296 4956) ∷ [])))) (answers.Posted None) []
    ∷ called 88 0 0 (verbs.PostSrq (s 0 0 0) (receive 1019 (list ((piece 257 8589934592 6000) ∷ [])))) (answers.Posted None) []
    ∷ called 89 0 0 (verbs.PostRecv (s 0 0 1) (receive 1008 (list ((piece 513 4294967305 3293) ∷ (piece 513 4294967937 3021) ∷ (piece 513 4294970119 399) ∷ (piece 1 4294967779 1287) ∷ [])))) (answers.Refused refusals.QueueFull) []
    ∷ called 90 0 0 (verbs.Poll (s 0 0 1) 16 0) (answers.Polled ([])) []
    ∷ called 91 0 0 (verbs.PostSend (s 0 0 2) (request 20 true false false (ops.Send (list ((piece 16777217 4294967623 1) ∷ []))))) (answers.Posted None) []
    ∷ called 92 0 0 (verbs.Poll (s 0 0 0) 16 0) (answers.Polled ([])) []
    ∷ called 93 0 0 (verbs.PostSend (s 0 0 1) (request 9 true true true (ops.Write 4294968225 (k 8388608) (list ((piece 1 4294967295 213) ∷ (piece 513 4294967978 44) ∷ []))))) (answers.Refused refusals.QueueState) []
    ∷ called 94 0 0 (verbs.Poll (s 0 0 0) 1 0) (answers.Polled ([])) []
    ∷ called 95 0 0 (verbs.Store 0 0 3892 (hex "bce39db34c504513")) answers.Fine (marks.Stored (place 0 0 3892) (hex "bce39db34c504513") ∷ [])
    ∷ called 96 0 0 (verbs.PostSend (s 0 0 1) (request 10 true false false (ops.Read 18446744073709551615 (k 1) (list ((piece 513 4294969201 64) ∷ []))))) (answers.Refused refusals.QueueState) []
    ∷ called 97 0 0 (verbs.PostRecv (s 0 0 2) (receive 1021 (list ((piece 513 4294970388 4) ∷ [])))) (answers.Refused refusals.HasSrq) []
    ∷ called 98 0 0 (verbs.PostSend (s 0 0 1) (request 11 true false false (ops.Read 4294967443 (k 1) (list ((piece 1 4294968588 64) ∷ []))))) (answers.Refused refusals.QueueState) []
    ∷ called 99 0 0 (verbs.PostSend (s 0 0 2) (request 22 true true false (ops.Write 18446744073709551615 (k 8388608) (list ((piece 513 4294969635 256) ∷ []))))) (answers.Refused refusals.QueueFull) []
    ∷ called 100 0 0 (verbs.Load 0 0 1062 32) (answers.Loaded (hex "0000000000000000000000000000000000000000000000000000000000000000")) []
    ∷ called 101 0 0 (verbs.PostSend (s 0 0 2) (request 23 true false false (ops.FastReg 3 1 9 1099511627776 4096 (r true true true true true) (0 ∷ [])))) (answers.Refused refusals.QueueFull) []
    ∷ called 102 0 0 (verbs.PostSend (s 0 0 2) (request 24 false false false (ops.CmpSwap 4294968272 (k 8388608) 0 2 (list ((piece 0 4294969206 8) ∷ []))))) (answers.Refused refusals.QueueFull) []
    ∷ called 103 0 0 (verbs.PostSend (s 0 0 2) (request 25 true false true (ops.Bind2 6 (k 16777729) 9 4294969504 64 (r false true false false false)))) (answers.Refused refusals.NoSuch) []
    ∷ called 104 0 0 (verbs.Poll (s 0 0 0) 16 0) (answers.Polled ([])) []
    ∷ called 105 0 0 (verbs.PostSend (s 0 0 1) (request 12 true true false (ops.Write 4294968155 (k 8388608) (list ((piece 513 4294968184 300) ∷ []))))) (answers.Refused refusals.QueueState) []
    ∷ called 106 0 0 (verbs.Poll (s 0 0 1) 16 0) (answers.Polled ([])) []
    ∷ called 107 0 0 (verbs.PostSend (s 0 0 1) (request 940 true false false (ops.Read 4294969390 (k 513) (list ((piece 1 4294967750 1500) ∷ []))))) (answers.Refused refusals.QueueState) []
    ∷ entry 108 0 (events.Timeout (q 0 258) false) (marks.Timer (q 0 258) true ∷ [])
    ∷ called 109 0 0 (verbs.PostSend (s 0 0 1) (request 940 false false false (ops.Read 4294968366 (k 513) (list ((piece 513 4294967312 3000) ∷ []))))) (answers.Refused refusals.QueueState) []
    ∷ entry 110 0 (events.Request (q 0 258) lots.Pass) (marks.Sent (q 0 258) (q 0 257) None (Some 1) (hex "1400ffff0000010180fe9a9700000001000006280080000000000000000000010000000000000000") ∷ marks.Lost (q 0 257) None ∷ [])
    ∷ called 111 0 0 (verbs.PostSend (s 0 0 2) (request 26 true false false (ops.Write 4294967409 (k 16777729) (list ((piece 1 4294967736 2) ∷ (piece 513 4294970082 2) ∷ (piece 1 4294967441 0) ∷ []))))) (answers.Refused refusals.QueueFull) []
    ∷ called 112 0 0 (verbs.Poll (s 0 0 0) 16 0) (answers.Polled ([])) []
    ∷ called 113 0 0 (verbs.PostSend (s 0 0 2) (request 27 true true true (ops.Send (list ((piece 1 4294968143 26) ∷ (piece 16777217 4294967367 80) ∷ (piece 1 4294968917 150) ∷ []))))) (answers.Refused refusals.QueueFull) []
    ∷ called 114 0 0 (verbs.PostSend (s 0 0 2) (request 940 true false false (ops.Read 4294967705 (k 8388608) (list ((piece 1 4294967331 87) ∷ (piece 0 4294967464 176) ∷ (piece 513 4294969158 37) ∷ []))))) (answers.Refused refusals.QueueFull) []
    ∷ called 115 0 0 (verbs.PostSend (s 0 0 2) (request 940 true true true (ops.Read 4294968336 (k 16777729) (list ((piece 512 4294968358 3000) ∷ []))))) (answers.Refused refusals.QueueFull) []
    ∷ called 116 0 0 (verbs.PostSend (s 0 0 2) (request 940 true false false (ops.Read 4294967361 (k 8388608) (list ((piece 513 18446744073709551615 1500) ∷ []))))) (answers.Refused refusals.QueueFull) []
    ∷ called 117 0 0 (verbs.PostSend (s 0 0 2) (request 940 false false false (ops.Read 4294967431 (k 769) (list ((piece 1 4294968553 371) ∷ (piece 513 4294969029 2199) ∷ (piece 1 4294967537 391) ∷ (piece 513 4294970986 39) ∷ []))))) (answers.Refused refusals.QueueFull) []
    ∷ called 118 0 0 (verbs.PostSend (s 0 0 2) (request 940 true false false (ops.Read 4294967337 (k 0) (list ((piece 16777217 0 1500) ∷ []))))) (answers.Refused refusals.QueueFull) []
    ∷ entry 119 0 (events.Timeout (q 0 258) false) (marks.Timer (q 0 258) true ∷ [])
    ∷ entry 120 0 (events.Request (q 0 258) (lots.Repeat 1)) (marks.Sent (q 0 258) (q 0 257) None (Some 1) (hex "1400ffff0000010180fe9a9700000001000006280080000000000000000000010000000000000000") ∷ marks.Lost (q 0 257) None ∷ [])
    ∷ called 121 0 0 (verbs.PostSend (s 0 0 2) (request 940 true false false (ops.Read 4294969095 (k 1) (list ((piece 513 0 0) ∷ (piece 1 4294968552 3) ∷ (piece 257 8589934592 0) ∷ (piece 8388609 4294971367 5) ∷ []))))) (answers.Refused refusals.QueueFull) []
    ∷ called 122 0 0 (verbs.PostSend (s 0 0 2) (request 940 true false false (ops.Read 4294967331 (k 0) (list ((piece 513 4294971094 181) ∷ (piece 1 4294967345 144) ∷ (piece 513 4294969385 275) ∷ []))))) (answers.Refused refusals.QueueFull) []
    ∷ called 123 0 0 (verbs.PostSrq (s 0 0 0) (receive 1028 (list ((piece 1 4294968483 4) ∷ [])))) (answers.Refused refusals.QueueFull) []
    ∷ called 124 0 0 (verbs.PostSend (s 0 0 1) (request 13 true false true (ops.CmpSwap 4294968480 (k 8388608) 1 8 (list ((piece 513 4294969116 0) ∷ (piece 513 4294968251 1) ∷ (piece 1 4294967295 3) ∷ (piece 1 4294967295 4) ∷ []))))) (answers.Refused refusals.QueueState) []
    ∷ called 125 0 0 (verbs.PostSend (s 0 0 2) (request 910 true false false (ops.Bind2 0 (k 513) 255 4294971064 64 (r false false false false false)))) (answers.Refused refusals.QueueFull) []
    ∷ entry 126 0 (events.Timeout (q 0 258) true) (marks.Timer (q 0 258) true ∷ [])
    ∷ called 127 0 0 (verbs.PostSend (s 0 0 1) (request 911 true false false (ops.Write 4294967696 (k 8388608) (list ((piece 513 4294968916 1000) ∷ []))))) (answers.Refused refusals.QueueState) []
    ∷ called 128 0 0 (verbs.PostSend (s 0 0 1) (request 911 true false false (ops.Write 4294969101 (k 513) (list ((piece 257 8589934592 0) ∷ (piece 513 4294971266 103) ∷ (piece 513 4294969438 197) ∷ []))))) (answers.Refused refusals.QueueState) []
    ∷ entry 129 0 (events.Request (q 0 258) lots.Pass) (marks.Sent (q 0 258) (q 0 257) None (Some 1) (hex "1400ffff0000010180fe9a9700000001000006280080000000000000000000010000000000000000") ∷ marks.Lost (q 0 257) None ∷ [])
    ∷ called 130 0 0 (verbs.PostSend (s 0 0 1) (request 911 true false false (ops.Write 4294968539 (k 25165824) (list ((piece 513 0 37) ∷ (piece 513 4294969943 189) ∷ (piece 513 4294968197 74) ∷ []))))) (answers.Refused refusals.QueueState) []
    ∷ called 131 0 0 (verbs.PostSend (s 0 0 1) (request 14 true false false (ops.Read 4294967296 (k 8388608) (list ((piece 513 4294969628 1730) ∷ (piece 1 4294967747 1379) ∷ (piece 1 4294967325 987) ∷ []))))) (answers.Refused refusals.QueueState) []
    ∷ called 132 0 0 (verbs.PostSend (s 0 0 2) (request 29 true true false (ops.WriteImm 4294968505 (k 8388608) 1703287251 (list ((piece 513 4294969808 50) ∷ (piece 513 4294970281 164) ∷ (piece 513 4294970549 0) ∷ (piece 8388609 4294968753 42) ∷ []))))) (answers.Refused refusals.QueueFull) []
    ∷ called 133 0 0 (verbs.PostSend (s 0 0 2) (request 30 false false false (ops.Bind2 0 (k 513) 9 4294968992 2044 (r false true false false false)))) (answers.Refused refusals.QueueFull) []
    ∷ called 134 0 0 (verbs.Poll (s 0 0 0) 16 0) (answers.Polled ([])) []
    ∷ called 135 0 0 (verbs.PostSend (s 0 0 1) (request 15 true true false (ops.FetchAdd 4294967632 (k 512) 1 (list ((piece 1 4294967558 7) ∷ (piece 1 4294968465 1) ∷ []))))) (answers.Refused refusals.QueueState) []
    ∷ entry 136 0 (events.Timeout (q 0 258) false) (marks.Timer (q 0 258) true ∷ [])
    ∷ called 137 0 0 (verbs.PostSend (s 0 0 2) (request 31 false false true (ops.CmpSwap 4294968232 (k 1) 7 8 (list ((piece 1 4294968861 5) ∷ (piece 513 4294968962 0) ∷ (piece 512 4294968816 1) ∷ (piece 513 4294968339 2) ∷ []))))) (answers.Refused refusals.QueueFull) []
    ∷ entry 138 0 (events.Request (q 0 258) lots.Pass) (marks.Sent (q 0 258) (q 0 257) None (Some 1) (hex "1400ffff0000010180fe9a9700000001000006280080000000000000000000010000000000000000") ∷ marks.Lost (q 0 257) None ∷ [])
    ∷ called 139 0 0 (verbs.Poll (s 0 0 0) 16 0) (answers.Polled ([])) []
    ∷ called 140 0 0 (verbs.PostSend (s 0 0 2) (request 32 true false false (ops.FetchAdd 4294968936 (k 8388608) 1 (list ((piece 513 4294970056 4) ∷ []))))) (answers.Refused (refusals.OutOfRange fields.List)) []
    ∷ called 141 0 0 (verbs.Poll (s 0 0 0) 16 0) (answers.Polled ([])) []
    ∷ called 142 0 0 (verbs.PostSend (s 0 0 2) (request 33 true false false (ops.SendInv (k 257) (list ([]))))) (answers.Refused refusals.QueueFull) []
    ∷ called 143 0 0 (verbs.Poll (s 0 0 0) 16 0) (answers.Polled ([])) []
    ∷ called 144 0 0 (verbs.PostRecv (s 0 0 1) (receive 1016 (list ([])))) (answers.Refused refusals.QueueFull) []
    ∷ called 145 0 0 (verbs.ModifyQp (s 0 0 1) changes.Reset) answers.Fine []
    ∷ called 146 0 0 (verbs.DeallocMw (s 0 0 0)) answers.Fine (marks.Revoked 0 (k 8388608) ∷ [])
    ∷ called 147 0 0 (verbs.AllocMw (s 0 0 0) 2) answers.Fine []
    ∷ called 148 0 0 (verbs.ModifyQp (s 0 0 2) changes.Reset) answers.Fine []
    ∷ called 149 0 0 (verbs.ModifyQp (s 0 0 1) changes.Init) answers.Fine []
    ∷ called 150 0 0 (verbs.ModifyQp (s 0 0 1) (changes.Rtr (q 0 258) 2 8943334 512 19)) answers.Fine []
    ∷ called 151 0 0 (verbs.ModifyQp (s 0 0 1) (changes.Rts 0 0 3 4)) answers.Fine []
    ∷ called 152 0 0 (verbs.PostRecv (s 0 0 1) (receive 1017 (list ((piece 257 8589934591 8000) ∷ [])))) (answers.Posted None) []
    ∷ called 153 0 0 (verbs.PostRecv (s 0 0 1) (receive 1018 (list ((piece 1 4294967379 1407) ∷ (piece 513 4294967327 3807) ∷ (piece 513 4294969087 786) ∷ [])))) (answers.Refused refusals.QueueFull) []
    ∷ called 154 0 0 (verbs.Poll (s 0 0 1) 16 0) (answers.Polled ([])) []
    ∷ called 155 0 0 (verbs.ModifyQp (s 0 0 2) changes.Init) answers.Fine []
    ∷ called 156 0 0 (verbs.ModifyQp (s 0 0 2) (changes.Rtr (q 0 257) 2 0 512 9)) answers.Fine []
    ∷ called 157 0 0 (verbs.ModifyQp (s 0 0 2) (changes.Rts 8943334 0 0 16)) answers.Fine []
    ∷ called 158 0 0 (verbs.PostSrq (s 0 0 0) (receive 1034 (list ((piece 513 4294968228 218) ∷ (piece 513 4294967342 3821) ∷ (piece 1 4294967313 1961) ∷ [])))) (answers.Refused refusals.QueueFull) []
    ∷ called 159 0 0 (verbs.PostSrq (s 0 0 0) (receive 1035 (list ((piece 513 4294967657 1000) ∷ [])))) (answers.Refused refusals.QueueFull) []
    ∷ called 160 0 0 (verbs.PostSrq (s 0 0 0) (receive 1037 (list ((piece 513 4294967877 31) ∷ (piece 513 4294969328 33) ∷ [])))) (answers.Refused refusals.QueueFull) []
    ∷ called 161 0 0 (verbs.Poll (s 0 0 0) 16 0) (answers.Polled ([])) []
    ∷ called 162 0 0 (verbs.Load 0 0 3844 0) (answers.Refused (refusals.OutOfRange fields.Length)) []
    ∷ called 163 0 0 (verbs.ModifyQp (s 0 0 2) changes.Init) (answers.Refused refusals.Transition) []
    ∷ called 164 0 0 (verbs.PostSend (s 0 0 1) (request 19 true false false (ops.WriteImm 4294967635 (k 1) 884707650 (list ((piece 1 4294967641 31) ∷ (piece 0 4294968214 17) ∷ (piece 1 4294968021 16) ∷ []))))) (answers.Posted None) []
    ∷ entry 165 0 (events.Request (q 0 257) lots.Pass) (marks.Local (q 0 257) (d 0 0) (k 0) kinds.Read 4294968214 17 (verdicts.Denied denials.NoGrant) ∷ marks.Done (q 0 257) (completion (q 0 257) false 0 19 operations.Write statuses.LocalProtection 0 None None) None ∷ marks.Done (q 0 257) (completion (q 0 257) true 0 1017 operations.Recv statuses.Flushed 0 None None) None ∷ [])
    ∷ []

abbrev configuration : Configuration
configuration = record { adapters = adapter (4096 ∷ 70000 ∷ []) 4 8 2 4 2 4 ∷ []; events = 131072 }

the_run : outcome_of configuration (map (λ e. e.event) history) ≡ Ok (map (λ e. e.marks) history)
unfolding row_of be_bytes packet_bytes number_at bth_at front_at reth_from atomic_from aeth_from number_from payload_at payload_behind body_in packet_in
the_run = refl
