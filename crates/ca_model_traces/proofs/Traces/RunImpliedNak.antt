-- Written by tools/check_traces from examples/traces/run-implied-nak.trace and run-implied-nak.ca.
-- The history of the trace, and what holds of it. For proofs only.
use Rattle.std.proofs.Common.{◌≡◌, List, [], ◌∷◌, map, true, false, None, Some, Ok, refl}
use Rattle.ca_keys.specs.declared.access.Kind.TheVariants as kinds
use Rattle.ca_keys.specs.declared.access.Denial.TheVariants as denials
use Rattle.ca_base.specs.declared.change.Change.TheVariants as changes
use Rattle.ca_base.specs.declared.change.Field.TheVariants as fields
use Rattle.ca_base.specs.declared.change.State.TheVariants as states
use Rattle.ca_base.specs.declared.completion.WcOp.TheVariants as operations
use Rattle.ca_base.specs.declared.completion.WcStatus.TheVariants as statuses
use Rattle.ca_base.specs.declared.lot.Lot.TheVariants as lots
use Rattle.ca_base.specs.declared.request.SendOp.TheVariants as ops
use Rattle.ca_keys.specs.declared.verdict.Verdict.TheVariants as verdicts
use Rattle.ca_wire.specs.declared.wire_error.WireError.TheVariants as wire
use Rattle.ca_model.specs.declared.answer.Answer.TheVariants as answers
use Rattle.ca_model.specs.declared.answer.Refusal.TheVariants as refusals
use Rattle.ca_model.specs.declared.event.Event.TheVariants as events
use Rattle.ca_model.specs.declared.mark.Drop1.TheVariants as drops
use Rattle.ca_model.specs.declared.mark.Mark.TheVariants as marks
use Rattle.ca_model.specs.declared.verb.Verb.TheVariants as verbs
use Rattle.ca_base.specs.Configuration.{Configuration}
use Rattle.ca_wire.specs.Decoding.{number_at, bth_at, front_at, reth_from, atomic_from, aeth_from, number_from, payload_at, payload_behind, body_in, packet_in}
use Rattle.ca_wire.specs.Packet.{be_bytes, packet_bytes}
use Rattle.ca_wire.specs.Table.{row_of}
use Rattle.ca_model.specs.Entries.{EntryValue}
use Rattle.ca_model.specs.machine.Run.{run as outcome_of}
use Rattle.ca_model.proofs.Literals.{d, s, q, k, r, run, place, piece, list, request, receive, completion, grant, entry, adapter}
use Rattle.ca_model_traces.proofs.Entries.{called, hex}

abbrev history : List EntryValue
history =
    called 0 0 0 (verbs.AllocPd (d 0 0)) answers.Fine []
    ∷ called 1 0 1 (verbs.AllocPd (d 1 0)) answers.Fine []
    ∷ called 2 0 2 (verbs.AllocPd (d 1 1)) answers.Fine []
    ∷ called 3 0 3 (verbs.AllocPd (d 2 0)) answers.Fine []
    ∷ called 4 0 4 (verbs.AllocPd (d 3 0)) answers.Fine []
    ∷ called 5 0 5 (verbs.AllocPd (d 3 1)) answers.Fine []
    ∷ called 6 0 0 (verbs.CreateCq (s 0 0 0) 16) answers.Fine []
    ∷ called 7 0 1 (verbs.CreateCq (s 1 0 0) 32) answers.Fine []
    ∷ called 8 0 2 (verbs.CreateCq (s 1 1 0) 1) answers.Fine []
    ∷ called 9 0 3 (verbs.CreateCq (s 2 0 0) 0) (answers.Refused (refusals.OutOfRange fields.Capacity)) []
    ∷ called 10 0 4 (verbs.CreateCq (s 3 0 0) 1) answers.Fine []
    ∷ called 11 0 5 (verbs.CreateCq (s 3 1 0) 13) answers.Fine []
    ∷ called 12 0 0 (verbs.CreateCq (s 0 0 1) 3) answers.Fine []
    ∷ called 13 0 1 (verbs.CreateCq (s 1 0 1) 2) answers.Fine []
    ∷ called 14 0 2 (verbs.CreateCq (s 1 1 1) 3) answers.Fine []
    ∷ called 15 0 3 (verbs.CreateQp (s 2 0 0) 0 0 4 1 None) (answers.Refused refusals.NoSuch) []
    ∷ called 16 0 4 (verbs.CreateCq (s 3 0 1) 20) answers.Fine []
    ∷ called 17 0 5 (verbs.CreateCq (s 3 1 1) 5) answers.Fine []
    ∷ called 18 0 0 (verbs.CreateQp (s 0 0 0) 1 1 1 1 None) (answers.Queue 256 1) []
    ∷ called 19 0 1 (verbs.CreateSrq (s 1 0 0) 4) answers.Fine []
    ∷ called 20 0 2 (verbs.CreateCq (s 1 1 2) 24) answers.Fine []
    ∷ called 21 0 3 (verbs.CreateQp (s 2 0 1) 0 0 4 2 None) (answers.Refused refusals.NoSuch) []
    ∷ called 22 0 4 (verbs.CreateQp (s 3 0 0) 1 1 16 4 None) (answers.Queue 256 1) []
    ∷ called 23 0 5 (verbs.CreateQp (s 3 1 0) 1 0 4 4 None) (answers.Queue 512 1) []
    ∷ called 24 0 0 (verbs.RegMr (s 0 0 0) 0 64 936 (r false true true false false)) (answers.Refused refusals.RightsNeedLocalWrite) []
    ∷ called 25 0 1 (verbs.CreateQp (s 1 0 0) 0 1 16 1 None) (answers.Queue 256 1) []
    ∷ called 26 0 2 (verbs.CreateSrq (s 1 1 0) 2) answers.Fine []
    ∷ called 27 0 3 (verbs.CreateQp (s 2 0 2) 0 0 8 1 None) (answers.Refused refusals.NoSuch) []
    ∷ called 28 0 4 (verbs.RegMr (s 3 0 0) 0 0 16384 (r true true true true true)) (answers.Key (k 1)) (marks.Granted (grant (k 1) (d 3 0) None true 4294967296 16384 (r true true true true true) ((run 3 0 0 16384) ∷ [])) ∷ [])
    ∷ called 29 0 5 (verbs.CreateQp (s 3 1 1) 0 0 4 4 None) (answers.Queue 513 1) []
    ∷ called 30 0 0 (verbs.RegMr (s 0 0 1) 0 0 1000 (r false true false true false)) (answers.Refused refusals.RightsNeedLocalWrite) []
    ∷ called 31 0 1 (verbs.RegMr (s 1 0 0) 1 2048 2048 (r true true true true true)) (answers.Key (k 1)) (marks.Granted (grant (k 1) (d 1 0) None true 8589936640 2048 (r true true true true true) ((run 1 1 2048 2048) ∷ [])) ∷ [])
    ∷ called 32 0 2 (verbs.CreateQp (s 1 1 0) 2 0 16 1 None) (answers.Queue 512 1) []
    ∷ called 33 0 3 (verbs.RegMr (s 2 0 0) 0 0 8192 (r true true true true true)) (answers.Key (k 1)) (marks.Granted (grant (k 1) (d 2 0) None true 4294967296 8192 (r true true true true true) ((run 2 0 0 8192) ∷ [])) ∷ [])
    ∷ called 34 0 4 (verbs.RegMr (s 3 0 1) 0 0 16384 (r true true true true true)) (answers.Key (k 257)) (marks.Granted (grant (k 257) (d 3 0) None true 4294967296 16384 (r true true true true true) ((run 3 0 0 16384) ∷ [])) ∷ [])
    ∷ called 35 0 5 (verbs.RegMr (s 3 1 0) 0 0 16384 (r true true true true true)) (answers.Key (k 16777217)) (marks.Granted (grant (k 16777217) (d 3 1) None true 4294967296 16384 (r true true true true true) ((run 3 0 0 16384) ∷ [])) ∷ [])
    ∷ called 36 0 0 (verbs.AllocMr (s 0 0 4) 4) answers.Fine []
    ∷ called 37 0 1 (verbs.AllocMr (s 1 0 3) 1) answers.Fine []
    ∷ called 38 0 2 (verbs.CreateQp (s 1 1 1) 1 2 2 0 (Some 0)) (answers.Queue 513 1) []
    ∷ called 39 0 3 (verbs.RegMr (s 2 0 1) 0 0 8192 (r true true true true true)) (answers.Key (k 257)) (marks.Granted (grant (k 257) (d 2 0) None true 4294967296 8192 (r true true true true true) ((run 2 0 0 8192) ∷ [])) ∷ [])
    ∷ called 40 0 4 (verbs.RegMr (s 3 0 2) 0 0 16384 (r true true true true true)) (answers.Key (k 513)) (marks.Granted (grant (k 513) (d 3 0) None true 4294967296 16384 (r true true true true true) ((run 3 0 0 16384) ∷ [])) ∷ [])
    ∷ called 41 0 5 (verbs.RegMr (s 3 1 1) 0 8 16376 (r true true true true true)) (answers.Key (k 16777473)) (marks.Granted (grant (k 16777473) (d 3 1) None true 4294967304 16376 (r true true true true true) ((run 3 0 8 16376) ∷ [])) ∷ [])
    ∷ called 42 0 0 (verbs.ModifyQp (s 0 0 0) changes.Init) answers.Fine []
    ∷ called 43 0 1 (verbs.AllocMw (s 1 0 0) 1) answers.Fine []
    ∷ called 44 0 2 (verbs.RegMr (s 1 1 0) 0 8 16376 (r true true true true true)) (answers.Key (k 16777217)) (marks.Granted (grant (k 16777217) (d 1 1) None true 4294967304 16376 (r true true true true true) ((run 1 0 8 16376) ∷ [])) ∷ [])
    ∷ called 45 0 3 (verbs.AllocMw (s 2 0 0) 2) answers.Fine []
    ∷ called 46 0 4 (verbs.AllocMw (s 3 0 0) 1) answers.Fine []
    ∷ called 47 0 5 (verbs.AllocMr (s 3 1 3) 2) answers.Fine []
    ∷ called 48 0 0 (verbs.ModifyQp (s 0 0 0) (changes.Rtr (q 3 513) 1 0 256 23)) answers.Fine []
    ∷ called 49 0 1 (verbs.ModifyQp (s 1 0 0) changes.Init) answers.Fine []
    ∷ called 50 0 2 (verbs.RegMr (s 1 1 1) 1 0 2048 (r true true true true true)) (answers.Key (k 16777473)) (marks.Granted (grant (k 16777473) (d 1 1) None true 8589934592 2048 (r true true true true true) ((run 1 1 0 2048) ∷ [])) ∷ [])
    ∷ called 51 0 3 (verbs.ModifyQp (s 2 0 2) changes.Init) (answers.Refused refusals.NoSuch) []
    ∷ called 52 0 4 (verbs.AllocMw (s 3 0 1) 1) answers.Fine []
    ∷ called 53 0 5 (verbs.AllocMw (s 3 1 0) 1) answers.Fine []
    ∷ called 54 0 0 (verbs.ModifyQp (s 0 0 0) (changes.Rts 0 7 1 4)) answers.Fine []
    ∷ called 55 0 1 (verbs.ModifyQp (s 1 0 0) (changes.Rtr (q 2 256) 1 16777214 256 11)) answers.Fine []
    ∷ called 56 0 2 (verbs.ModifyQp (s 1 1 1) changes.Init) answers.Fine []
    ∷ called 57 0 3 (verbs.ModifyQp (s 2 0 2) (changes.Rtr (q 1 513) 1 0 256 30)) (answers.Refused refusals.NoSuch) []
    ∷ called 58 0 4 (verbs.AllocMw (s 3 0 2) 2) answers.Fine []
    ∷ called 59 0 5 (verbs.AllocMw (s 3 1 1) 2) answers.Fine []
    ∷ called 60 0 0 (verbs.PostRecv (s 0 0 0) (receive 1001 (list ((piece 257 4294968046 244) ∷ (piece 257 4294967296 5623) ∷ (piece 1 4294967360 2133) ∷ [])))) (answers.Posted None) []
    ∷ called 61 0 1 (verbs.ModifyQp (s 1 0 0) (changes.Rts 1 1 3 1)) answers.Fine []
    ∷ called 62 0 2 (verbs.ModifyQp (s 1 1 1) (changes.Rtr (q 2 258) 1 0 256 14)) answers.Fine []
    ∷ called 63 0 3 (verbs.ModifyQp (s 2 0 2) (changes.Rts 0 7 7 16)) (answers.Refused refusals.NoSuch) []
    ∷ called 64 0 4 (verbs.ModifyQp (s 3 0 0) changes.Init) answers.Fine []
    ∷ called 65 0 5 (verbs.ModifyQp (s 3 1 0) changes.Init) answers.Fine []
    ∷ called 66 0 0 (verbs.Poll (s 0 0 1) 16 0) (answers.Polled ([])) []
    ∷ called 67 0 1 (verbs.PostRecv (s 1 0 0) (receive 1001 (list ((piece 1 8589938640 35) ∷ (piece 1 8589937347 6) ∷ (piece 1 8589937507 22) ∷ (piece 1 8589937273 1) ∷ [])))) (answers.Posted None) []
    ∷ called 68 0 2 (verbs.ModifyQp (s 1 1 1) (changes.Rts 0 1 7 16)) answers.Fine []
    ∷ called 69 0 3 (verbs.ModifyQp (s 2 0 1) changes.Init) (answers.Refused refusals.NoSuch) []
    ∷ called 70 0 4 (verbs.ModifyQp (s 3 0 0) (changes.Rtr (q 1 512) 1 1 256 10)) answers.Fine []
    ∷ called 71 0 5 (verbs.ModifyQp (s 3 1 0) (changes.Rtr (q 2 257) 1 10043197 256 8)) answers.Fine []
    ∷ called 72 0 0 (verbs.PostRecv (s 0 0 0) (receive 1002 (list ((piece 257 4294967636 182) ∷ (piece 1 4294967360 7818) ∷ [])))) (answers.Refused refusals.QueueFull) []
    ∷ called 73 0 1 (verbs.Poll (s 1 0 1) 16 0) (answers.Polled ([])) []
    ∷ called 74 0 2 (verbs.ModifyQp (s 1 1 0) changes.Init) answers.Fine []
    ∷ called 75 0 3 (verbs.ModifyQp (s 2 0 1) (changes.Rtr (q 3 512) 1 1 256 8)) (answers.Refused refusals.NoSuch) []
    ∷ called 76 0 4 (verbs.ModifyQp (s 3 0 0) (changes.Rts 8388608 7 7 4)) answers.Fine []
    ∷ called 77 0 5 (verbs.PostRecv (s 3 1 0) (receive 1001 (list ((piece 16777217 4294976740 512) ∷ [])))) (answers.Posted None) []
    ∷ called 78 0 0 (verbs.PostRecv (s 0 0 0) (receive 1003 (list ((piece 1 4294967387 64) ∷ [])))) (answers.Refused refusals.QueueFull) []
    ∷ called 79 0 1 (verbs.PostRecv (s 1 0 0) (receive 1002 (list ((piece 1 8589936640 6000) ∷ [])))) (answers.Refused refusals.QueueFull) []
    ∷ called 80 0 2 (verbs.ModifyQp (s 1 1 0) (changes.Rtr (q 3 256) 1 8388608 256 30)) answers.Fine []
    ∷ called 81 0 3 (verbs.ModifyQp (s 2 0 1) (changes.Rts 10043197 0 1 1)) (answers.Refused refusals.NoSuch) []
    ∷ called 82 0 4 (verbs.PostRecv (s 3 0 0) (receive 1001 (list ((piece 257 4294974098 8000) ∷ [])))) (answers.Posted None) []
    ∷ called 83 0 5 (verbs.Poll (s 3 1 0) 16 0) (answers.Polled ([])) []
    ∷ called 84 0 0 (verbs.Poll (s 0 0 1) 16 0) (answers.Polled ([])) []
    ∷ called 85 0 2 (verbs.ModifyQp (s 1 1 0) (changes.Rts 1 7 7 1)) answers.Fine []
    ∷ called 86 0 3 (verbs.PostRecv (s 2 0 1) (receive 1001 (list ((piece 257 4294967299 8000) ∷ [])))) (answers.Refused refusals.NoSuch) []
    ∷ called 87 0 4 (verbs.PostRecv (s 3 0 0) (receive 1002 (list ((piece 257 4294972302 8000) ∷ [])))) (answers.Posted None) []
    ∷ called 88 0 5 (verbs.PostRecv (s 3 1 0) (receive 1002 (list ((piece 16777473 4294972044 8000) ∷ [])))) (answers.Posted None) []
    ∷ called 89 0 0 (verbs.PostRecv (s 0 0 0) (receive 1004 (list ((piece 257 4294967296 1284) ∷ (piece 257 4294967296 2209) ∷ (piece 257 4294967296 2327) ∷ (piece 257 4294967438 180) ∷ [])))) (answers.Refused refusals.QueueFull) []
    ∷ called 90 0 2 (verbs.PostRecv (s 1 1 0) (receive 1001 (list ((piece 16777217 4294974618 8000) ∷ [])))) (answers.Posted None) []
    ∷ called 91 0 3 (verbs.ModifyQp (s 2 0 0) changes.Init) (answers.Refused refusals.NoSuch) []
    ∷ called 92 0 4 (verbs.Poll (s 3 0 1) 16 0) (answers.Polled ([])) []
    ∷ called 93 0 5 (verbs.PostRecv (s 3 1 0) (receive 1003 (list ((piece 16777473 4294969978 8000) ∷ [])))) (answers.Posted None) []
    ∷ called 94 0 0 (verbs.Poll (s 0 0 1) 16 0) (answers.Polled ([])) []
    ∷ called 95 0 2 (verbs.Poll (s 1 1 0) 16 0) (answers.Polled ([])) []
    ∷ called 96 0 3 (verbs.ModifyQp (s 2 0 0) (changes.Rtr (q 1 256) 1 1 256 30)) (answers.Refused refusals.NoSuch) []
    ∷ called 97 0 5 (verbs.Poll (s 3 1 0) 16 0) (answers.Polled ([])) []
    ∷ called 98 0 3 (verbs.ModifyQp (s 2 0 0) (changes.Rts 16777214 7 7 16)) (answers.Refused refusals.NoSuch) []
    ∷ called 99 0 5 (verbs.PostRecv (s 3 1 0) (receive 1004 (list ((piece 16777473 4294975675 64) ∷ [])))) (answers.Posted None) []
    ∷ called 100 0 3 (verbs.PostRecv (s 2 0 0) (receive 1001 (list ((piece 257 4294967402 8000) ∷ [])))) (answers.Refused refusals.NoSuch) []
    ∷ called 101 0 5 (verbs.ModifyQp (s 3 1 1) changes.Init) answers.Fine []
    ∷ called 102 0 5 (verbs.ModifyQp (s 3 1 1) (changes.Rtr (q 0 256) 1 0 256 0)) answers.Fine []
    ∷ called 103 0 5 (verbs.ModifyQp (s 3 1 1) (changes.Rts 0 1 0 4)) answers.Fine []
    ∷ called 104 0 0 (verbs.QueryQp (s 0 0 0)) (answers.Query states.Rts 1 0 1) []
    ∷ called 105 0 1 (verbs.PostRecv (s 1 0 0) (receive 1003 (list ((piece 1 8589936640 6000) ∷ [])))) (answers.Refused refusals.QueueFull) []
    ∷ called 106 0 2 (verbs.PostSend (s 1 1 1) (request 1 false false false (ops.Write 4294969772 (k 1) (list ((piece 16777473 8589934645 272) ∷ (piece 16777217 4294982316 28) ∷ []))))) (answers.Posted None) []
    ∷ called 107 0 3 (verbs.Store 2 0 11158 (hex "30")) answers.Fine (marks.Stored (place 2 0 11158) (hex "30") ∷ [])
    ∷ called 108 0 4 (verbs.Poll (s 3 0 1) 16 0) (answers.Polled ([])) []
    ∷ called 109 0 5 (verbs.Poll (s 3 1 1) 1 0) (answers.Polled ([])) []
    ∷ entry 110 0 (events.Request (q 1 513) lots.Pass) (marks.Local (q 1 513) (d 1 1) (k 16777473) kinds.Read 8589934645 256 (verdicts.Read (hex "00000000000000000000000000000000000000000000000000000000000000000000000000000000000000000000000000000000000000000000000000000000000000000000000000000000000000000000000000000000000000000000000000000000000000000000000000000000000000000000000000000000000000000000000000000000000000000000000000000000000000000000000000000000000000000000000000000000000000000000000000000000000000000000000000000000000000000000000000000000000000000000000000000000000000000000000000000000000000000000000000000000000000000000000000000000")) ∷ marks.Sent (q 1 513) (q 2 258) None (Some 0) (hex "0600ffff000001020000000000000001000009ac000000010000012c00000000000000000000000000000000000000000000000000000000000000000000000000000000000000000000000000000000000000000000000000000000000000000000000000000000000000000000000000000000000000000000000000000000000000000000000000000000000000000000000000000000000000000000000000000000000000000000000000000000000000000000000000000000000000000000000000000000000000000000000000000000000000000000000000000000000000000000000000000000000000000000000000000000000000000000000000000000000000000000000000000000000000000000000000000000") ∷ marks.Lost (q 2 258) None ∷ [])
    ∷ called 111 0 0 (verbs.Load 0 0 710 8) (answers.Loaded (hex "0000000000000000")) []
    ∷ called 112 0 1 (verbs.PostRecv (s 1 0 0) (receive 1004 (list ((piece 1 8589936640 8000) ∷ [])))) (answers.Refused refusals.QueueFull) []
    ∷ called 113 0 2 (verbs.PostSend (s 1 1 0) (request 2 true false false (ops.Send (list ((piece 16777217 4294976342 34) ∷ (piece 16777473 8589935728 130) ∷ (piece 16777217 4294973869 93) ∷ []))))) (answers.Posted None) []
    ∷ called 114 0 3 (verbs.Inject (q 2 258) (hex "0100ffff0000010200ffffff23adcd3ce215599220297710e9832d9bec12fa060880c22e58df79b01430e5d61cdbb052542f550e95fd86208fa8089d4b68a2d0a367c6f08649d30af2694ac05b9f7c387d79dcbe37d33d68c39d3613238a31a3874ffbdd1bf7a35231d06cf4077d291105c105c55e1c6199d4bbcc62ba03c888cd1816972bbef41a04205d96f659d96a6c3e9363d65c71cea8996451c23c15602f0a1324867a16e05a59dc17b0df43cad8626328bc5431bd7df2f0ae2154127f37be8a553d643cc099ed8b5c8191f72475e613b798ea2321ddfa901f9912571e4299af87bdda5d53ab8cd6e3cd515a0c10d5fa414b1e95bc6f419e312fe14f9ec31180fadad01398ca407dbf")) (answers.Refused refusals.NoSuch) []
    ∷ called 115 0 4 (verbs.Inject (q 1 256) (hex "1300ffff0000010080ffffff0000")) answers.Fine (marks.Arrived (q 1 256) None ∷ marks.Dropped (q 1 256) (drops.Wire wire.TooShort) ∷ [])
    ∷ called 116 0 5 (verbs.Inject (q 3 513) (hex "0600ffff000002010000000100000001000000000100000100100000e07c4c97aa91054e7a1fd35e0a7fae3c8e3e71cd06974cd14d30f51dfb01811411de01bb81764db4bad2f58c4629afd4445a8dff705094f3b69482c47087348d2d9c9e0bf404051980a5c13a0c8e60359e8a0c6b85b75108f9d0222fb1086c6c7136b0f7428d5e6b779d2245cbe3c19525c36b9b6a605af65f9c67c4183cb3b05af23db96f21398024c301929407d578c56b17c659d61a2055f7e88e48a5e510993abca3acbda6f2d2debc144721bf1d50f5932d9c19fc59c2a317a8b65437c0815d2689b9d64161a8115c88615cbbcce83599884cdb0c86510e338273056f4ab9e516f84003e85db448639564b57621a18ab4fcef4a221950ba575cde79e2e672c29e657fa14a96107f08e18d828ef1d70438c4eafa4e3fae0af5b80cc38e4db6b16e656b77e3ad7b7cb1a0")) answers.Fine (marks.Arrived (q 3 513) None ∷ [])
    ∷ entry 117 0 (events.Request (q 1 512) lots.Pass) (marks.Local (q 1 512) (d 1 1) (k 16777217) kinds.Read 4294976342 34 (verdicts.Read (hex "00000000000000000000000000000000000000000000000000000000000000000000")) ∷ marks.Local (q 1 512) (d 1 1) (k 16777473) kinds.Read 8589935728 130 (verdicts.Read (hex "00000000000000000000000000000000000000000000000000000000000000000000000000000000000000000000000000000000000000000000000000000000000000000000000000000000000000000000000000000000000000000000000000000000000000000000000000000000000000000000000000000000000000000000")) ∷ marks.Local (q 1 512) (d 1 1) (k 16777217) kinds.Read 4294973869 92 (verdicts.Read (hex "0000000000000000000000000000000000000000000000000000000000000000000000000000000000000000000000000000000000000000000000000000000000000000000000000000000000000000000000000000000000000000")) ∷ marks.Sent (q 1 512) (q 3 256) (Some 0) (Some 0) (hex "0000ffff000001000000000100000000000000000000000000000000000000000000000000000000000000000000000000000000000000000000000000000000000000000000000000000000000000000000000000000000000000000000000000000000000000000000000000000000000000000000000000000000000000000000000000000000000000000000000000000000000000000000000000000000000000000000000000000000000000000000000000000000000000000000000000000000000000000000000000000000000000000000000000000000000000000000000000000000000000000000000000000000000000000000000000000000000000000000000000000000") ∷ [])
    ∷ entry 118 0 (events.Request (q 1 513) lots.Pass) (marks.Local (q 1 513) (d 1 1) (k 16777473) kinds.Read 8589934901 16 (verdicts.Read (hex "00000000000000000000000000000000")) ∷ marks.Local (q 1 513) (d 1 1) (k 16777217) kinds.Read 4294982316 28 (verdicts.Read (hex "00000000000000000000000000000000000000000000000000000000")) ∷ marks.Sent (q 1 513) (q 2 258) None (Some 0) (hex "0800ffff00000102800000010000000000000000000000000000000000000000000000000000000000000000000000000000000000000000") ∷ marks.Lost (q 2 258) None ∷ [])
    ∷ entry 119 0 (events.Deliver (q 3 256) 0) (marks.Arrived (q 3 256) (Some 0) ∷ marks.Local (q 3 256) (d 3 0) (k 257) kinds.Write 4294974098 256 (verdicts.Wrote (hex "00000000000000000000000000000000000000000000000000000000000000000000000000000000000000000000000000000000000000000000000000000000000000000000000000000000000000000000000000000000000000000000000000000000000000000000000000000000000000000000000000000000000000000000000000000000000000000000000000000000000000000000000000000000000000000000000000000000000000000000000000000000000000000000000000000000000000000000000000000000000000000000000000000000000000000000000000000000000000000000000000000000000000000000000000000000")) ∷ [])
    ∷ entry 120 0 (events.Respond (q 3 513) lots.Pass) (marks.Sent (q 3 513) (q 0 256) (Some 0) None (hex "1100ffff000001000000000060000000") ∷ [])
    ∷ called 121 0 0 (verbs.Poll (s 0 0 1) 1 0) (answers.Polled ([])) []
    ∷ called 122 0 1 (verbs.PostRecv (s 1 0 0) (receive 1005 (list ((piece 1 8589936751 1288) ∷ (piece 1 8589936640 3121) ∷ (piece 1 8589936640 3591) ∷ [])))) (answers.Refused refusals.QueueFull) []
    ∷ called 123 0 2 (verbs.Poll (s 1 1 2) 16 0) (answers.Polled ([])) []
    ∷ called 124 0 3 (verbs.PostSend (s 2 0 2) (request 1 true false false (ops.Write 8589934887 (k 16777473) (list ((piece 257 4294970908 392) ∷ (piece 257 4294971579 23) ∷ (piece 1 4294972995 111) ∷ (piece 257 4294972965 474) ∷ []))))) (answers.Refused refusals.NoSuch) []
    ∷ called 125 0 4 (verbs.PostRecv (s 3 0 0) (receive 1003 (list ((piece 1 4294973993 8000) ∷ [])))) (answers.Posted None) []
    ∷ called 126 0 5 (verbs.PostSend (s 3 1 0) (request 5 true false false (ops.Bind2 1 (k 16777217) 255 4294973376 8192 (r false true true true false)))) (answers.Refused refusals.QueueState) []
    ∷ entry 127 0 (events.Deliver (q 0 256) 0) (marks.Arrived (q 0 256) (Some 0) ∷ marks.Dropped (q 0 256) drops.Stale ∷ [])
    ∷ entry 128 0 (events.Request (q 1 512) (lots.Repeat 1)) (marks.Local (q 1 512) (d 1 1) (k 16777217) kinds.Read 4294973961 1 (verdicts.Read (hex "00")) ∷ marks.Sent (q 1 512) (q 3 256) (Some 1) (Some 0) (hex "0230ffff000001008000000200000000") ∷ [])
    ∷ entry 129 0 (events.Deliver (q 3 256) 1) (marks.Arrived (q 3 256) (Some 1) ∷ marks.Local (q 3 256) (d 3 0) (k 257) kinds.Write 4294974354 1 (verdicts.Wrote (hex "00")) ∷ marks.Done (q 3 256) (completion (q 3 256) true 0 1001 operations.Recv statuses.Success 257 None None) None ∷ [])
    ∷ entry 130 0 (events.Respond (q 3 256) lots.Pass) (marks.Sent (q 3 256) (q 1 512) (Some 0) None (hex "1100ffff00000200000000021f000001") ∷ [])
    ∷ called 131 0 0 (verbs.Poll (s 0 0 1) 2 0) (answers.Polled ([])) []
    ∷ called 132 0 1 (verbs.Inject (q 1 256) (hex "0100ffff0000010080000002b98f0fc34ab1438d99388395c72a604fa2af1109487ebb4f0df42d1fdad3e9e5944e7db39d6eee8b5037a8b27db33328c47ec34420e4ee06f403e03028c91375c8f08e9b1ce2a67536b30cb0b3237d395153d4382efa6859f1e9b5f05d2f32811bd38a061c103f6ebe33ec2e20c3e84c0fb01e20a8bc32ce36e1568300f635e90442a0af6646a3988bf6e8efb48167ecb7ad6c5cc8b1ecefb650e25426fd0001ce5afd437004ff91b733dbee95dece7f5d2af2c8fbbec72db3565f3454506d497238bbae9e3a0e78dfc0c94e38b5347216e18b888892e92d3ed32c15a6fc30086efa3537eaac8ce1204308cbc1bf033113c8ffb2edcdf41e83edb04dbea865e6")) answers.Fine (marks.Arrived (q 1 256) None ∷ [])
    ∷ called 133 0 3 (verbs.Poll (s 2 0 0) 16 0) (answers.Refused refusals.NoSuch) []
    ∷ called 134 0 4 (verbs.Poll (s 3 0 1) 16 0) (answers.Polled ((completion (q 3 256) true 0 1001 operations.Recv statuses.Success 257 None None) ∷ [])) []
    ∷ called 135 0 5 (verbs.PostSend (s 3 1 1) (request 1 true false false (ops.Write 4294967652 (k 257) (list ((piece 16777473 4294983125 8) ∷ []))))) (answers.Posted None) []
    ∷ entry 136 0 (events.Respond (q 1 256) lots.Pass) (marks.Sent (q 1 256) (q 2 256) None None (hex "1100ffff0000010000fffffe60000000") ∷ marks.Lost (q 2 256) None ∷ [])
    ∷ entry 137 0 (events.Deliver (q 1 512) 0) (marks.Arrived (q 1 512) (Some 0) ∷ marks.Done (q 1 512) (completion (q 1 512) false 0 2 operations.Send statuses.Success 0 None None) None ∷ [])
    ∷ entry 138 0 (events.Deliver (q 3 256) 1) (marks.Arrived (q 3 256) (Some 1) ∷ [])
    ∷ entry 139 0 (events.Respond (q 3 256) (lots.Hold 6)) (marks.Sent (q 3 256) (q 1 512) (Some 1) None (hex "1100ffff00000200000000021f000001") ∷ [])
    ∷ entry 140 0 (events.Request (q 3 513) lots.Pass) (marks.Local (q 3 513) (d 3 1) (k 16777473) kinds.Read 4294983125 8 (verdicts.Read (hex "0000000000000000")) ∷ marks.Sent (q 3 513) (q 0 256) (Some 1) (Some 0) (hex "0a00ffff0000010080000000000000010000016400000101000000080000000000000000") ∷ [])
    ∷ called 141 0 1 (verbs.PostSend (s 1 0 0) (request 911 true false false (ops.Write 4294968549 (k 257) (list ((piece 1 8589936889 442) ∷ (piece 1 8589937295 47) ∷ (piece 1 8589937764 111) ∷ []))))) (answers.Posted None) []
    ∷ called 142 0 3 (verbs.PostRecv (s 2 0 0) (receive 1002 (list ((piece 257 4294973133 10) ∷ (piece 257 4294971384 54) ∷ [])))) (answers.Refused refusals.NoSuch) []
    ∷ called 143 0 4 (verbs.PostSend (s 3 0 0) (request 940 true true false (ops.Read 8589935366 (k 16777473) (list ((piece 513 4294973650 205) ∷ (piece 513 4294976853 95) ∷ []))))) (answers.Posted None) []
    ∷ called 144 0 5 (verbs.Poll (s 3 1 0) 16 0) (answers.Polled ([])) []
    ∷ entry 145 0 (events.Deliver (q 0 256) 1) (marks.Arrived (q 0 256) (Some 1) ∷ marks.Remote (q 0 256) (d 0 0) (Some 1) (k 257) kinds.Write 4294967652 8 (verdicts.Denied denials.NoGrant) ∷ marks.Done (q 0 256) (completion (q 0 256) true 0 1001 operations.Recv statuses.Flushed 0 None None) None ∷ [])
    ∷ entry 146 0 (events.Respond (q 0 256) lots.Lose) (marks.Sent (q 0 256) (q 3 513) (Some 0) None (hex "1100ffff000002010000000062000000") ∷ marks.Lost (q 3 513) (Some 0) ∷ [])
    ∷ entry 147 0 (events.Request (q 1 256) lots.Pass) (marks.Local (q 1 256) (d 1 0) (k 1) kinds.Read 8589936889 256 (verdicts.Read (hex "00000000000000000000000000000000000000000000000000000000000000000000000000000000000000000000000000000000000000000000000000000000000000000000000000000000000000000000000000000000000000000000000000000000000000000000000000000000000000000000000000000000000000000000000000000000000000000000000000000000000000000000000000000000000000000000000000000000000000000000000000000000000000000000000000000000000000000000000000000000000000000000000000000000000000000000000000000000000000000000000000000000000000000000000000000000")) ∷ marks.Sent (q 1 256) (q 2 256) None (Some 0) (hex "0600ffff000001000000000100000001000004e5000001010000025800000000000000000000000000000000000000000000000000000000000000000000000000000000000000000000000000000000000000000000000000000000000000000000000000000000000000000000000000000000000000000000000000000000000000000000000000000000000000000000000000000000000000000000000000000000000000000000000000000000000000000000000000000000000000000000000000000000000000000000000000000000000000000000000000000000000000000000000000000000000000000000000000000000000000000000000000000000000000000000000000000000000000000000000000000000") ∷ marks.Lost (q 2 256) None ∷ [])
    ∷ entry 148 0 (events.Deliver (q 1 512) 1) (marks.Arrived (q 1 512) (Some 1) ∷ marks.Dropped (q 1 512) drops.Stale ∷ [])
    ∷ entry 149 0 (events.Request (q 3 256) lots.Lose) (marks.Sent (q 3 256) (q 1 512) (Some 2) (Some 0) (hex "0c00ffff00000200808000000000000200000306010001010000012c") ∷ marks.Lost (q 1 512) (Some 2) ∷ [])
    ∷ called 150 0 1 (verbs.PostSend (s 1 0 0) (request 911 true false false (ops.Write 4294968251 (k 257) (list ((piece 1 8589937023 108) ∷ (piece 1 8589938610 41) ∷ (piece 0 8589937489 151) ∷ []))))) (answers.Posted None) []
    ∷ called 151 0 3 (verbs.Poll (s 2 0 0) 16 0) (answers.Refused refusals.NoSuch) []
    ∷ called 152 0 4 (verbs.PostSend (s 3 0 0) (request 940 false false false (ops.Read 4294974319 (k 16777217) (list ((piece 513 4294970679 300) ∷ []))))) (answers.Posted None) []
    ∷ called 153 0 5 (verbs.PostSend (s 3 1 0) (request 940 true false false (ops.Read 4294968266 (k 257) (list ((piece 16777473 4294972847 300) ∷ []))))) (answers.Refused refusals.QueueState) []
    ∷ entry 154 0 (events.Request (q 1 256) lots.Pass) (marks.Local (q 1 256) (d 1 0) (k 1) kinds.Read 8589937145 186 (verdicts.Read (hex "000000000000000000000000000000000000000000000000000000000000000000000000000000000000000000000000000000000000000000000000000000000000000000000000000000000000000000000000000000000000000000000000000000000000000000000000000000000000000000000000000000000000000000000000000000000000000000000000000000000000000000000000000000000000000000000000000000000000000000000000000000000000")) ∷ marks.Local (q 1 256) (d 1 0) (k 1) kinds.Read 8589937295 47 (verdicts.Read (hex "0000000000000000000000000000000000000000000000000000000000000000000000000000000000000000000000")) ∷ marks.Local (q 1 256) (d 1 0) (k 1) kinds.Read 8589937764 23 (verdicts.Read (hex "0000000000000000000000000000000000000000000000")) ∷ marks.Sent (q 1 256) (q 2 256) None (Some 0) (hex "0700ffff000001000000000200000000000000000000000000000000000000000000000000000000000000000000000000000000000000000000000000000000000000000000000000000000000000000000000000000000000000000000000000000000000000000000000000000000000000000000000000000000000000000000000000000000000000000000000000000000000000000000000000000000000000000000000000000000000000000000000000000000000000000000000000000000000000000000000000000000000000000000000000000000000000000000000000000000000000000000000000000000000000000000000000000000000000000000000000000000") ∷ marks.Lost (q 2 256) None ∷ [])
    ∷ entry 155 0 (events.Request (q 3 256) lots.Pass) (marks.Sent (q 3 256) (q 1 512) (Some 3) (Some 1) (hex "0c00ffff00000200808000020000000100001b6f010000010000012c") ∷ [])
    ∷ called 156 0 1 (verbs.PostSend (s 1 0 0) (request 911 true false false (ops.Write 4294972485 (k 257) (list ((piece 1 8589937051 300) ∷ []))))) (answers.Posted None) []
    ∷ called 157 0 3 (verbs.PostSend (s 2 0 0) (request 3 true false false (ops.Send (list ((piece 257 4294974651 5) ∷ (piece 257 4294971091 1) ∷ (piece 1 4294968437 2) ∷ (piece 257 4294967762 0) ∷ []))))) (answers.Refused refusals.NoSuch) []
    ∷ called 158 0 4 (verbs.DeallocMw (s 3 0 1)) answers.Fine []
    ∷ called 159 0 5 (verbs.PostSend (s 3 1 0) (request 940 true false false (ops.Read 4294970763 (k 1) (list ((piece 16777473 4294979647 1500) ∷ []))))) (answers.Refused refusals.QueueState) []
    ∷ entry 160 0 (events.Request (q 1 256) lots.Pass) (marks.Local (q 1 256) (d 1 0) (k 1) kinds.Read 8589937787 88 (verdicts.Read (hex "00000000000000000000000000000000000000000000000000000000000000000000000000000000000000000000000000000000000000000000000000000000000000000000000000000000000000000000000000000000")) ∷ marks.Sent (q 1 256) (q 2 256) None (Some 0) (hex "0800ffff000001008000000300000000000000000000000000000000000000000000000000000000000000000000000000000000000000000000000000000000000000000000000000000000000000000000000000000000000000000000000000000000") ∷ marks.Lost (q 2 256) None ∷ [])
    ∷ entry 161 0 (events.Deliver (q 1 512) 3) (marks.Arrived (q 1 512) (Some 3) ∷ [])
    ∷ entry 162 0 (events.Respond (q 1 512) lots.Pass) (marks.Sent (q 1 512) (q 3 256) (Some 2) None (hex "1100ffff000001000080000060000000") ∷ [])
    ∷ entry 163 0 (events.Deliver (q 3 256) 2) (marks.Arrived (q 3 256) (Some 2) ∷ [])
    ∷ entry 164 0 (events.Request (q 3 256) (lots.Repeat 1)) (marks.Sent (q 3 256) (q 1 512) (Some 4) (Some 0) (hex "0c00ffff00000200808000000000000200000306010001010000012c") ∷ [])
    ∷ called 165 0 1 (verbs.PostSend (s 1 0 0) (request 6 false false false (ops.WriteImm 4294972376 (k 257) 1516409451 (list ([]))))) (answers.Posted None) []
    ∷ called 166 0 3 (verbs.Poll (s 2 0 0) 16 0) (answers.Refused refusals.NoSuch) []
    ∷ called 167 0 4 (verbs.AllocMw (s 3 0 1) 2) answers.Fine []
    ∷ called 168 0 5 (verbs.PostSend (s 3 1 0) (request 6 true false false (ops.Write 4294968637 (k 257) (list ((piece 16777217 4294975619 2000) ∷ []))))) (answers.Refused refusals.QueueState) []
    ∷ entry 169 0 (events.Deliver (q 1 512) 4) (marks.Arrived (q 1 512) (Some 4) ∷ [])
    ∷ entry 170 0 (events.Respond (q 1 512) lots.Pass) (marks.Remote (q 1 512) (d 1 1) (Some 4) (k 16777473) kinds.Read 8589935366 300 (verdicts.Read (hex "00000000000000000000000000000000000000000000000000000000000000000000000000000000000000000000000000000000000000000000000000000000000000000000000000000000000000000000000000000000000000000000000000000000000000000000000000000000000000000000000000000000000000000000000000000000000000000000000000000000000000000000000000000000000000000000000000000000000000000000000000000000000000000000000000000000000000000000000000000000000000000000000000000000000000000000000000000000000000000000000000000000000000000000000000000000")) ∷ marks.Sent (q 1 512) (q 3 256) (Some 3) None (hex "0d00ffff00000100008000001f00000100000000000000000000000000000000000000000000000000000000000000000000000000000000000000000000000000000000000000000000000000000000000000000000000000000000000000000000000000000000000000000000000000000000000000000000000000000000000000000000000000000000000000000000000000000000000000000000000000000000000000000000000000000000000000000000000000000000000000000000000000000000000000000000000000000000000000000000000000000000000000000000000000000000000000000000000000000000000000000000000000000000000000000000000000000000") ∷ [])
    ∷ entry 171 0 (events.Deliver (q 3 256) 3) (marks.Arrived (q 3 256) (Some 3) ∷ marks.Local (q 3 256) (d 3 0) (k 513) kinds.Write 4294973650 205 (verdicts.Wrote (hex "00000000000000000000000000000000000000000000000000000000000000000000000000000000000000000000000000000000000000000000000000000000000000000000000000000000000000000000000000000000000000000000000000000000000000000000000000000000000000000000000000000000000000000000000000000000000000000000000000000000000000000000000000000000000000000000000000000000000000000000000000000000000000000000000000000000000000000000000000")) ∷ marks.Local (q 3 256) (d 3 0) (k 513) kinds.Write 4294976853 51 (verdicts.Wrote (hex "000000000000000000000000000000000000000000000000000000000000000000000000000000000000000000000000000000")) ∷ [])
    ∷ entry 172 0 (events.Request (q 3 256) lots.Pass) (marks.Sent (q 3 256) (q 1 512) (Some 5) (Some 1) (hex "0c00ffff00000200808000020000000100001b6f010000010000012c") ∷ [])
    ∷ called 173 0 3 (verbs.Poll (s 2 0 0) 1 0) (answers.Refused refusals.NoSuch) []
    ∷ called 174 0 4 (verbs.PostSend (s 3 0 0) (request 4 true false false (ops.Send (list ([]))))) (answers.Posted None) []
    ∷ called 175 0 5 (verbs.Poll (s 3 1 1) 16 0) (answers.Polled ([])) []
    ∷ entry 176 0 (events.Deliver (q 1 512) 4) (marks.Arrived (q 1 512) (Some 4) ∷ [])
    ∷ entry 177 0 (events.Respond (q 1 512) lots.Pass) (marks.Remote (q 1 512) (d 1 1) (Some 4) (k 16777473) kinds.Read 8589935366 300 (verdicts.Read (hex "00000000000000000000000000000000000000000000000000000000000000000000000000000000000000000000000000000000000000000000000000000000000000000000000000000000000000000000000000000000000000000000000000000000000000000000000000000000000000000000000000000000000000000000000000000000000000000000000000000000000000000000000000000000000000000000000000000000000000000000000000000000000000000000000000000000000000000000000000000000000000000000000000000000000000000000000000000000000000000000000000000000000000000000000000000000")) ∷ marks.Sent (q 1 512) (q 3 256) (Some 4) None (hex "0d00ffff00000100008000001f00000100000000000000000000000000000000000000000000000000000000000000000000000000000000000000000000000000000000000000000000000000000000000000000000000000000000000000000000000000000000000000000000000000000000000000000000000000000000000000000000000000000000000000000000000000000000000000000000000000000000000000000000000000000000000000000000000000000000000000000000000000000000000000000000000000000000000000000000000000000000000000000000000000000000000000000000000000000000000000000000000000000000000000000000000000000000") ∷ [])
    ∷ entry 178 0 (events.Deliver (q 3 256) 4) (marks.Arrived (q 3 256) (Some 4) ∷ marks.Dropped (q 3 256) drops.Stale ∷ [])
    ∷ entry 179 0 (events.Request (q 3 256) lots.Pass) (marks.Sent (q 3 256) (q 1 512) (Some 6) (Some 2) (hex "0400ffff0000020080800004") ∷ [])
    ∷ called 180 0 3 (verbs.Store 2 0 4119 (hex "400ef9372a5adf39d2590542e5ddf42b2587c190c35f45083b99031bc824ea3d")) answers.Fine (marks.Stored (place 2 0 4119) (hex "400ef9372a5adf39d2590542e5ddf42b2587c190c35f45083b99031bc824ea3d") ∷ [])
    ∷ called 181 0 4 (verbs.Poll (s 3 0 1) 16 0) (answers.Polled ([])) []
    ∷ called 182 0 5 (verbs.PostSend (s 3 1 0) (request 911 true false false (ops.Write 4294971342 (k 8388608) (list ((piece 16777217 4294979428 31) ∷ (piece 16777217 4294976195 480) ∷ (piece 16777473 4294969699 11) ∷ (piece 16777473 4294980062 78) ∷ []))))) (answers.Refused refusals.QueueState) []
    ∷ entry 183 0 (events.Deliver (q 1 512) 5) (marks.Arrived (q 1 512) (Some 5) ∷ [])
    ∷ entry 184 0 (events.Respond (q 1 512) lots.Pass) (marks.Remote (q 1 512) (d 1 1) (Some 4) (k 16777473) kinds.Read 8589935622 44 (verdicts.Read (hex "0000000000000000000000000000000000000000000000000000000000000000000000000000000000000000")) ∷ marks.Sent (q 1 512) (q 3 256) (Some 5) None (hex "0f00ffff00000100008000011f0000020000000000000000000000000000000000000000000000000000000000000000000000000000000000000000") ∷ [])
    ∷ entry 185 0 (events.Deliver (q 3 256) 5) (marks.Arrived (q 3 256) (Some 5) ∷ marks.Local (q 3 256) (d 3 0) (k 513) kinds.Write 4294976904 44 (verdicts.Wrote (hex "0000000000000000000000000000000000000000000000000000000000000000000000000000000000000000")) ∷ marks.Done (q 3 256) (completion (q 3 256) false 0 940 operations.Read statuses.Success 300 None None) None ∷ [])
    ∷ called 186 0 3 (verbs.PostSend (s 2 0 0) (request 4 true false false (ops.FetchAdd 8589937616 (k 1) 1 (list ((piece 257 4294971275 8) ∷ []))))) (answers.Refused refusals.NoSuch) []
    ∷ called 187 0 4 (verbs.Inject (q 3 256) (hex "0b00ffff00000100008000010000000100000000000000010000006814ebd891147c42fd")) answers.Fine (marks.Arrived (q 3 256) None ∷ [])
    ∷ called 188 0 5 (verbs.PostSend (s 3 1 1) (request 2 false false false (ops.Send (list ((piece 16777217 4294967539 1) ∷ (piece 16777473 4294969066 0) ∷ (piece 16777217 4294979990 0) ∷ (piece 16777473 4294982467 0) ∷ []))))) (answers.Posted None) []
    ∷ entry 189 0 (events.Deliver (q 1 512) 6) (marks.Arrived (q 1 512) (Some 6) ∷ marks.Done (q 1 512) (completion (q 1 512) true 0 1001 operations.Recv statuses.Success 0 None None) None ∷ [])
    ∷ entry 190 0 (events.Respond (q 1 512) lots.Pass) (marks.Remote (q 1 512) (d 1 1) (Some 5) (k 16777217) kinds.Read 4294974319 300 (verdicts.Read (hex "00000000000000000000000000000000000000000000000000000000000000000000000000000000000000000000000000000000000000000000000000000000000000000000000000000000000000000000000000000000000000000000000000000000000000000000000000000000000000000000000000000000000000000000000000000000000000000000000000000000000000000000000000000000000000000000000000000000000000000000000000000000000000000000000000000000000000000000000000000000000000000000000000000000000000000000000000000000000000000000000000000000000000000000000000000000")) ∷ marks.Sent (q 1 512) (q 3 256) (Some 6) None (hex "0d00ffff00000100008000021f00000300000000000000000000000000000000000000000000000000000000000000000000000000000000000000000000000000000000000000000000000000000000000000000000000000000000000000000000000000000000000000000000000000000000000000000000000000000000000000000000000000000000000000000000000000000000000000000000000000000000000000000000000000000000000000000000000000000000000000000000000000000000000000000000000000000000000000000000000000000000000000000000000000000000000000000000000000000000000000000000000000000000000000000000000000000000") ∷ [])
    ∷ entry 191 0 (events.Deliver (q 3 256) 6) (marks.Arrived (q 3 256) (Some 6) ∷ marks.Local (q 3 256) (d 3 0) (k 513) kinds.Write 4294970679 256 (verdicts.Wrote (hex "00000000000000000000000000000000000000000000000000000000000000000000000000000000000000000000000000000000000000000000000000000000000000000000000000000000000000000000000000000000000000000000000000000000000000000000000000000000000000000000000000000000000000000000000000000000000000000000000000000000000000000000000000000000000000000000000000000000000000000000000000000000000000000000000000000000000000000000000000000000000000000000000000000000000000000000000000000000000000000000000000000000000000000000000000000000")) ∷ [])
    ∷ entry 192 0 (events.Respond (q 3 256) lots.Pass) (marks.Sent (q 3 256) (q 1 512) (Some 7) None (hex "1100ffff000002000000000360000001") ∷ [])
    ∷ entry 193 0 (events.Request (q 3 513) lots.Pass) (marks.Local (q 3 513) (d 3 1) (k 16777217) kinds.Read 4294967539 1 (verdicts.Read (hex "00")) ∷ marks.Sent (q 3 513) (q 0 256) (Some 2) (Some 1) (hex "0430ffff000001008000000100000000") ∷ [])
    ∷ called 194 0 3 (verbs.PostSend (s 2 0 0) (request 5 false true false (ops.Read 8589937597 (k 1) (list ((piece 257 4294974327 0) ∷ (piece 257 4294971510 1) ∷ (piece 1 4294975182 0) ∷ (piece 1 4294972512 0) ∷ []))))) (answers.Refused refusals.NoSuch) []
    ∷ called 195 0 4 (verbs.Inject (q 3 256) (hex "0d80ffff0000010080800000400000037ddf4c6657f24e79c86d224df6f11c3bc63fb4cd01dc1faaa1f22a78a40f27499113a22bb95d212ba2aea1353253f341a2e6461281c52ba26cacda0781799cf850cdb8696173f50a2e677cf332811c1ed71208ee0c5ea1cb5584805eef7f93db1933af8977e030a3cda3f0734e4939ca1efce53810b775a34a23afd2974c98fd72488bb3182d22eec40cc4f2b6acb34950bbcfd0e44c2490ebf4e96457428748e8ab1fca2d997d523c3d45b37144c343eae021d8a274959bb83d959bda9fce8ac5399a48e51a9764392e09a555ee70f2f28ea2e76aef63cb8da880b39149b4955d993fbb06bd0422951d9f88fcd8d1bd046b86a695684ac9f6486607f0841048")) answers.Fine (marks.Arrived (q 3 256) None ∷ marks.Dropped (q 3 256) drops.Stale ∷ [])
    ∷ called 196 0 5 (verbs.PostSend (s 3 1 1) (request 3 true false false (ops.Send (list ((piece 16777217 4294978478 41) ∷ (piece 16777217 4294972872 827) ∷ (piece 16777473 4294977438 132) ∷ []))))) (answers.Posted None) []
    ∷ entry 197 0 (events.Deliver (q 0 256) 2) (marks.Arrived (q 0 256) (Some 2) ∷ marks.Dropped (q 0 256) drops.State ∷ [])
    ∷ entry 198 0 (events.Deliver (q 1 512) 7) (marks.Arrived (q 1 512) (Some 7) ∷ marks.Dropped (q 1 512) drops.Stale ∷ [])
    ∷ entry 199 0 (events.Respond (q 1 512) lots.Lose) (marks.Remote (q 1 512) (d 1 1) (Some 5) (k 16777217) kinds.Read 4294974575 44 (verdicts.Read (hex "0000000000000000000000000000000000000000000000000000000000000000000000000000000000000000")) ∷ marks.Sent (q 1 512) (q 3 256) (Some 7) None (hex "0f00ffff00000100008000031f0000030000000000000000000000000000000000000000000000000000000000000000000000000000000000000000") ∷ marks.Lost (q 3 256) (Some 7) ∷ [])
    ∷ entry 200 0 (events.Request (q 3 513) lots.Pass) (marks.Local (q 3 513) (d 3 1) (k 16777217) kinds.Read 4294978478 41 (verdicts.Read (hex "0000000000000000000000000000000000000000000000000000000000000000000000000000000000")) ∷ marks.Local (q 3 513) (d 3 1) (k 16777217) kinds.Read 4294972872 215 (verdicts.Read (hex "0000000000000000000000000000000000000000000000000000000000000000000000000000000000000000000000000000000000000000000000000000000000000000000000000000000000000000000000000000000000000000000000000000000000000000000000000000000000000000000000000000000000000000000000000000000000000000000000000000000000000000000000000000000000000000000000000000000000000000000000000000000000000000000000000000000000000000000000000000000000000000000000")) ∷ marks.Sent (q 3 513) (q 0 256) (Some 3) (Some 2) (hex "0000ffff000001000000000200000000000000000000000000000000000000000000000000000000000000000000000000000000000000000000000000000000000000000000000000000000000000000000000000000000000000000000000000000000000000000000000000000000000000000000000000000000000000000000000000000000000000000000000000000000000000000000000000000000000000000000000000000000000000000000000000000000000000000000000000000000000000000000000000000000000000000000000000000000000000000000000000000000000000000000000000000000000000000000000000000000000000000000000000000000") ∷ [])
    ∷ called 201 0 3 (verbs.Poll (s 2 0 0) 16 0) (answers.Refused refusals.NoSuch) []
    ∷ called 202 0 4 (verbs.Poll (s 3 0 1) 1 1) (answers.Polled ((completion (q 3 256) false 0 940 operations.Read statuses.Success 300 None None) ∷ [])) []
    ∷ called 203 0 5 (verbs.Poll (s 3 1 0) 16 0) (answers.Polled ([])) []
    ∷ entry 204 0 (events.Deliver (q 0 256) 3) (marks.Arrived (q 0 256) (Some 3) ∷ marks.Dropped (q 0 256) drops.State ∷ [])
    ∷ entry 205 0 (events.Respond (q 1 512) lots.Pass) (marks.Sent (q 1 512) (q 3 256) (Some 8) None (hex "1100ffff00000100008000041f000003") ∷ [])
    ∷ entry 206 0 (events.Deliver (q 3 256) 8) (marks.Arrived (q 3 256) (Some 8) ∷ [])
    ∷ entry 207 0 (events.Request (q 3 256) lots.Pass) (marks.Sent (q 3 256) (q 1 512) (Some 8) (Some 1) (hex "0c00ffff00000200808000030000000100001c6f010000010000002c") ∷ [])
    ∷ entry 208 0 (events.Request (q 3 513) (lots.Repeat 1)) (marks.Local (q 3 513) (d 3 1) (k 16777217) kinds.Read 4294973087 256 (verdicts.Read (hex "00000000000000000000000000000000000000000000000000000000000000000000000000000000000000000000000000000000000000000000000000000000000000000000000000000000000000000000000000000000000000000000000000000000000000000000000000000000000000000000000000000000000000000000000000000000000000000000000000000000000000000000000000000000000000000000000000000000000000000000000000000000000000000000000000000000000000000000000000000000000000000000000000000000000000000000000000000000000000000000000000000000000000000000000000000000")) ∷ marks.Sent (q 3 513) (q 0 256) (Some 4) (Some 2) (hex "0100ffff000001000000000300000000000000000000000000000000000000000000000000000000000000000000000000000000000000000000000000000000000000000000000000000000000000000000000000000000000000000000000000000000000000000000000000000000000000000000000000000000000000000000000000000000000000000000000000000000000000000000000000000000000000000000000000000000000000000000000000000000000000000000000000000000000000000000000000000000000000000000000000000000000000000000000000000000000000000000000000000000000000000000000000000000000000000000000000000000") ∷ [])
    ∷ called 209 0 2 (verbs.PostRecv (s 1 1 0) (receive 1003 (list ((piece 16777217 4294977508 1252) ∷ (piece 16777217 4294968850 5404) ∷ (piece 16777217 4294978310 1344) ∷ [])))) (answers.Refused refusals.QueueFull) []
    ∷ called 210 0 3 (verbs.PostSend (s 2 0 2) (request 930 true false false (ops.Read 4294967304 (k 16777217) (list ((piece 8388609 4294967296 426076) ∷ (piece 1 4294967296 477335) ∷ (piece 257 4294967296 145166) ∷ []))))) (answers.Refused refusals.NoSuch) []
    ∷ called 211 0 5 (verbs.PostSend (s 3 1 1) (request 4 true false false (ops.Write 4294968074 (k 1) (list ((piece 16777473 4294968495 0) ∷ (piece 16777217 4294968130 64) ∷ []))))) (answers.Posted None) []
    ∷ entry 212 0 (events.Deliver (q 0 256) 4) (marks.Arrived (q 0 256) (Some 4) ∷ marks.Dropped (q 0 256) drops.State ∷ [])
    ∷ entry 213 0 (events.Deliver (q 1 512) 8) (marks.Arrived (q 1 512) (Some 8) ∷ [])
    ∷ entry 214 0 (events.Respond (q 1 512) lots.Pass) (marks.Remote (q 1 512) (d 1 1) (Some 8) (k 16777217) kinds.Read 4294974575 44 (verdicts.Read (hex "0000000000000000000000000000000000000000000000000000000000000000000000000000000000000000")) ∷ marks.Sent (q 1 512) (q 3 256) (Some 9) None (hex "1000ffff00000100008000031f0000030000000000000000000000000000000000000000000000000000000000000000000000000000000000000000") ∷ [])
    ∷ entry 215 0 (events.Deliver (q 3 256) 9) (marks.Arrived (q 3 256) (Some 9) ∷ marks.Local (q 3 256) (d 3 0) (k 513) kinds.Write 4294970935 44 (verdicts.Wrote (hex "0000000000000000000000000000000000000000000000000000000000000000000000000000000000000000")) ∷ [])
    ∷ entry 216 0 (events.Request (q 3 256) lots.Pass) (marks.Sent (q 3 256) (q 1 512) (Some 9) (Some 2) (hex "0400ffff0000020080800004") ∷ [])
    ∷ entry 217 0 (events.Request (q 3 513) lots.Pass) (marks.Local (q 3 513) (d 3 1) (k 16777217) kinds.Read 4294973343 256 (verdicts.Read (hex "00000000000000000000000000000000000000000000000000000000000000000000000000000000000000000000000000000000000000000000000000000000000000000000000000000000000000000000000000000000000000000000000000000000000000000000000000000000000000000000000000000000000000000000000000000000000000000000000000000000000000000000000000000000000000000000000000000000000000000000000000000000000000000000000000000000000000000000000000000000000000000000000000000000000000000000000000000000000000000000000000000000000000000000000000000000")) ∷ marks.Sent (q 3 513) (q 0 256) (Some 5) (Some 2) (hex "0100ffff000001000000000400000000000000000000000000000000000000000000000000000000000000000000000000000000000000000000000000000000000000000000000000000000000000000000000000000000000000000000000000000000000000000000000000000000000000000000000000000000000000000000000000000000000000000000000000000000000000000000000000000000000000000000000000000000000000000000000000000000000000000000000000000000000000000000000000000000000000000000000000000000000000000000000000000000000000000000000000000000000000000000000000000000000000000000000000000000") ∷ [])
    ∷ called 218 0 2 (verbs.Store 1 0 11997 (hex "7de35f07a611a178")) answers.Fine (marks.Stored (place 1 0 11997) (hex "7de35f07a611a178") ∷ [])
    ∷ called 219 0 3 (verbs.Inject (q 2 256) (hex "0a00ffff00000100800000010000000100000000000001010000000033921d82b14ecba5833727800c16a2dcd4dd1fba6b5a690ff9fe82ca121e9e885c7e595c536f688164632934bcdc0077f4b4c9448e676ff8c62bf1d3a8b845bc3ffd0669d6f57efeb45c9fe61b727a5ab229a87a42c279c0575d9f6f939bbcac91ae5940846377b8c4803c3a21b50ab72ded6799eaf602615a087971568a4224f3fcfe201f7186ddcecfe8859a5b05bd0c1a5cc6f30e73ccfa3ec7d728a015c15ca2777ab2876dd798d9ceaea1abd9094c7ba78a43c8d961fabaaba635f4ea08935f75120793abd9000965cdfd852739350248d41a413a0156c5125a6b4a29a1e88617dd333dee0cb7b7f837cf90648e644cecdf700f36ddbe9ac48fda5e6351d191c749212eaa28afb9483e4cb9b022ca47fad74db17afe33fecca5ae6c9d221254bc2625906768407489ae")) (answers.Refused refusals.NoSuch) []
    ∷ called 220 0 5 (verbs.PostSend (s 3 1 1) (request 5 true false true (ops.CmpSwap 4294967912 (k 257) 7 7 (list ((piece 16777217 4294981998 8) ∷ []))))) (answers.Refused refusals.QueueFull) []
    ∷ entry 221 0 (events.Deliver (q 0 256) 4) (marks.Arrived (q 0 256) (Some 4) ∷ marks.Dropped (q 0 256) drops.State ∷ [])
    ∷ entry 222 0 (events.Deliver (q 1 512) 9) (marks.Arrived (q 1 512) (Some 9) ∷ [])
    ∷ entry 223 0 (events.Respond (q 1 512) lots.Pass) (marks.Sent (q 1 512) (q 3 256) (Some 10) None (hex "1100ffff00000100008000041f000003") ∷ [])
    ∷ entry 224 0 (events.Deliver (q 3 256) 10) (marks.Arrived (q 3 256) (Some 10) ∷ marks.Done (q 3 256) (completion (q 3 256) false 2 4 operations.Send statuses.Success 0 None None) None ∷ [])
    ∷ entry 225 0 (events.Request (q 3 513) lots.Pass) (marks.Local (q 3 513) (d 3 1) (k 16777217) kinds.Read 4294973599 100 (verdicts.Read (hex "00000000000000000000000000000000000000000000000000000000000000000000000000000000000000000000000000000000000000000000000000000000000000000000000000000000000000000000000000000000000000000000000000000000")) ∷ marks.Local (q 3 513) (d 3 1) (k 16777473) kinds.Read 4294977438 132 (verdicts.Read (hex "000000000000000000000000000000000000000000000000000000000000000000000000000000000000000000000000000000000000000000000000000000000000000000000000000000000000000000000000000000000000000000000000000000000000000000000000000000000000000000000000000000000000000000000000")) ∷ marks.Sent (q 3 513) (q 0 256) (Some 6) (Some 2) (hex "0200ffff000001008000000500000000000000000000000000000000000000000000000000000000000000000000000000000000000000000000000000000000000000000000000000000000000000000000000000000000000000000000000000000000000000000000000000000000000000000000000000000000000000000000000000000000000000000000000000000000000000000000000000000000000000000000000000000000000000000000000000000000000000000000000000000000000000000000000000000000000000000000000000000000000000000000000000000000000000000000000000000000") ∷ [])
    ∷ called 226 0 2 (verbs.PostSend (s 1 1 1) (request 2 true false true (ops.Read 4294968480 (k 257) (list ((piece 16777473 8589935830 256) ∷ []))))) (answers.Posted None) []
    ∷ called 227 0 3 (verbs.PostRecv (s 2 0 0) (receive 1006 (list ((piece 257 4294969180 679) ∷ (piece 1 4294968530 4125) ∷ (piece 257 4294973736 235) ∷ (piece 257 4294970545 961) ∷ [])))) (answers.Refused refusals.NoSuch) []
    ∷ called 228 0 5 (verbs.Poll (s 3 1 0) 16 0) (answers.Polled ([])) []
    ∷ entry 229 0 (events.Deliver (q 0 256) 5) (marks.Arrived (q 0 256) (Some 5) ∷ marks.Dropped (q 0 256) drops.State ∷ [])
    ∷ entry 230 0 (events.Request (q 1 513) lots.Pass) (marks.Sent (q 1 513) (q 2 258) None (Some 1) (hex "0c00ffff000001028000000200000001000004a00000010100000100") ∷ marks.Lost (q 2 258) None ∷ [])
    ∷ entry 231 0 (events.Request (q 3 513) lots.Pass) (marks.Local (q 3 513) (d 3 1) (k 16777217) kinds.Read 4294968130 64 (verdicts.Read (hex "00000000000000000000000000000000000000000000000000000000000000000000000000000000000000000000000000000000000000000000000000000000")) ∷ marks.Sent (q 3 513) (q 0 256) (Some 7) (Some 3) (hex "0a00ffff0000010080000006000000010000030a000000010000004000000000000000000000000000000000000000000000000000000000000000000000000000000000000000000000000000000000000000000000000000000000") ∷ [])
    ∷ called 232 0 2 (verbs.Poll (s 1 1 1) 16 0) (answers.Polled ([])) []
    ∷ called 233 0 3 (verbs.PostRecv (s 2 0 0) (receive 1007 (list ((piece 257 4294969358 6000) ∷ [])))) (answers.Refused refusals.NoSuch) []
    ∷ called 234 0 5 (verbs.PostRecv (s 3 1 1) (receive 1006 (list ((piece 16777473 4294974554 8000) ∷ [])))) (answers.Posted None) []
    ∷ entry 235 0 (events.Deliver (q 0 256) 6) (marks.Arrived (q 0 256) (Some 6) ∷ marks.Dropped (q 0 256) drops.State ∷ [])
    ∷ called 236 0 2 (verbs.Load 1 1 2189 8) (answers.Loaded (hex "0000000000000000")) []
    ∷ called 237 0 3 (verbs.PostSend (s 2 0 0) (request 8 true false false (ops.WriteImm 8589936665 (k 1) 332177421 (list ((piece 1 4294971748 87) ∷ (piece 1 4294974475 692) ∷ (piece 257 4294970244 324) ∷ (piece 1 4294973222 897) ∷ []))))) (answers.Refused refusals.NoSuch) []
    ∷ entry 238 0 (events.Deliver (q 0 256) 7) (marks.Arrived (q 0 256) (Some 7) ∷ marks.Dropped (q 0 256) drops.State ∷ [])
    ∷ called 239 0 2 (verbs.Poll (s 1 1 2) 1 1) (answers.Polled ((completion (q 1 512) false 0 2 operations.Send statuses.Success 0 None None) ∷ [])) []
    ∷ called 240 0 3 (verbs.Poll (s 2 0 0) 16 0) (answers.Refused refusals.NoSuch) []
    ∷ called 241 0 3 (verbs.ModifyQp (s 2 0 0) changes.Sqd) (answers.Refused refusals.NoSuch) []
    ∷ called 242 0 3 (verbs.PostSend (s 2 0 0) (request 9 false false false (ops.Write 8589936841 (k 1) (list ([]))))) (answers.Refused refusals.NoSuch) []
    ∷ called 243 0 3 (verbs.Poll (s 2 0 0) 16 0) (answers.Refused refusals.NoSuch) []
    ∷ called 244 0 3 (verbs.Store 2 0 519 (hex "6ae11887c9bd106a")) answers.Fine (marks.Stored (place 2 0 519) (hex "6ae11887c9bd106a") ∷ [])
    ∷ called 245 0 3 (verbs.ModifyQp (s 2 0 0) changes.Resume) (answers.Refused refusals.NoSuch) []
    ∷ called 246 0 3 (verbs.CreateSrq (s 2 0 5) 0) (answers.Refused refusals.NoSuch) []
    ∷ called 247 0 3 (verbs.Inject (q 2 257) (hex "13007fff0000010180993f3d000000010000000000000101000000000000004b0000000000000000")) (answers.Refused refusals.NoSuch) []
    ∷ called 248 0 3 (verbs.PostSend (s 2 0 1) (request 2 false false false (ops.Write 4294975720 (k 25166335) (list ((piece 1 4294970229 0) ∷ (piece 257 4294969055 1) ∷ (piece 1 4294971469 0) ∷ (piece 257 4294972750 0) ∷ []))))) (answers.Refused refusals.NoSuch) []
    ∷ called 249 0 3 (verbs.ModifyQp (s 2 0 1) changes.Sqd) (answers.Refused refusals.NoSuch) []
    ∷ called 250 0 3 (verbs.PostSend (s 2 0 1) (request 3 true false false (ops.Send (list ((piece 1 4294972969 64) ∷ []))))) (answers.Refused refusals.NoSuch) []
    ∷ called 251 0 3 (verbs.Poll (s 2 0 0) 16 0) (answers.Refused refusals.NoSuch) []
    ∷ called 252 0 3 (verbs.Store 2 0 3010 (hex "415d4e1c2ae58b20ada4e7644588af5ae3f6767a55509335d421c722d08d8989")) answers.Fine (marks.Stored (place 2 0 3010) (hex "415d4e1c2ae58b20ada4e7644588af5ae3f6767a55509335d421c722d08d8989") ∷ [])
    ∷ called 253 0 3 (verbs.PostSend (s 2 0 0) (request 910 true false false (ops.Bind2 0 (k 257) 9 4294975008 64 (r false true true true false)))) (answers.Refused refusals.NoSuch) []
    ∷ called 254 0 3 (verbs.Store 2 0 15049 (hex "a7f95e582151169f")) answers.Fine (marks.Stored (place 2 0 15049) (hex "a7f95e582151169f") ∷ [])
    ∷ called 255 0 3 (verbs.PostSend (s 2 0 0) (request 912 true false false (ops.LocalInv (k 8388617)))) (answers.Refused refusals.NoSuch) []
    ∷ called 256 0 3 (verbs.Poll (s 2 0 0) 2 0) (answers.Refused refusals.NoSuch) []
    ∷ called 257 0 3 (verbs.Inject (q 2 256) (hex "1100ffff0000000080000001ff000000")) (answers.Refused refusals.NoSuch) []
    ∷ called 258 0 3 (verbs.PostSend (s 2 0 1) (request 940 false false false (ops.Read 4294978757 (k 25166335) (list ((piece 257 4294971747 1500) ∷ []))))) (answers.Refused refusals.NoSuch) []
    ∷ called 259 0 3 (verbs.PostSend (s 2 0 1) (request 940 false false false (ops.Read 4294982659 (k 16777473) (list ((piece 257 4294974458 8) ∷ []))))) (answers.Refused refusals.NoSuch) []
    ∷ called 260 0 3 (verbs.PostSend (s 2 0 1) (request 940 true false false (ops.Read 4294974118 (k 25166335) (list ((piece 257 4294969069 2293) ∷ (piece 1 4294968074 346) ∷ (piece 257 4294967607 361) ∷ []))))) (answers.Refused refusals.NoSuch) []
    ∷ called 261 0 3 (verbs.PostSend (s 2 0 1) (request 940 false false false (ops.Read 4294978848 (k 25166335) (list ((piece 1 4294969722 600) ∷ []))))) (answers.Refused refusals.NoSuch) []
    ∷ called 262 0 3 (verbs.PostSend (s 2 0 1) (request 940 false false false (ops.Read 4294969634 (k 16777217) (list ((piece 1 4294972726 300) ∷ []))))) (answers.Refused refusals.NoSuch) []
    ∷ called 263 0 3 (verbs.PostSend (s 2 0 1) (request 910 true false false (ops.Bind2 0 (k 257) 0 4294967296 8192 (r false false true false false)))) (answers.Refused refusals.NoSuch) []
    ∷ called 264 0 3 (verbs.Load 2 0 5578 8) (answers.Loaded (hex "0000000000000000")) []
    ∷ called 265 0 3 (verbs.Load 2 0 9922 1) (answers.Loaded (hex "00")) []
    ∷ called 266 0 3 (verbs.PostSend (s 2 0 1) (request 912 true false false (ops.LocalInv (k 8388608)))) (answers.Refused refusals.NoSuch) []
    ∷ called 267 0 3 (verbs.Poll (s 2 0 0) 1 0) (answers.Refused refusals.NoSuch) []
    ∷ called 268 0 3 (verbs.ModifyQp (s 2 0 0) changes.Resume) (answers.Refused refusals.NoSuch) []
    ∷ called 269 0 3 (verbs.PostSend (s 2 0 2) (request 2 false false false (ops.WriteImm 8589935536 (k 16777473) 3024950632 (list ((piece 1 4294973837 300) ∷ []))))) (answers.Refused refusals.NoSuch) []
    ∷ called 270 0 3 (verbs.Store 2 0 9632 (hex "3849eb87d03842ac")) answers.Fine (marks.Stored (place 2 0 9632) (hex "3849eb87d03842ac") ∷ [])
    ∷ called 271 0 3 (verbs.PostRecv (s 2 0 0) (receive 1010 (list ((piece 1 4294967386 8000) ∷ [])))) (answers.Refused refusals.NoSuch) []
    ∷ called 272 0 3 (verbs.Poll (s 2 0 0) 16 0) (answers.Refused refusals.NoSuch) []
    ∷ called 273 0 3 (verbs.Poll (s 2 0 0) 1 1) (answers.Refused refusals.NoSuch) []
    ∷ entry 274 0 (events.Timeout (q 1 256) false) (marks.Timer (q 1 256) true ∷ [])
    ∷ entry 275 0 (events.Request (q 1 256) lots.Pass) (marks.Local (q 1 256) (d 1 0) (k 1) kinds.Read 8589936889 256 (verdicts.Read (hex "00000000000000000000000000000000000000000000000000000000000000000000000000000000000000000000000000000000000000000000000000000000000000000000000000000000000000000000000000000000000000000000000000000000000000000000000000000000000000000000000000000000000000000000000000000000000000000000000000000000000000000000000000000000000000000000000000000000000000000000000000000000000000000000000000000000000000000000000000000000000000000000000000000000000000000000000000000000000000000000000000000000000000000000000000000000")) ∷ marks.Sent (q 1 256) (q 2 256) None (Some 0) (hex "0600ffff000001000000000100000001000004e5000001010000025800000000000000000000000000000000000000000000000000000000000000000000000000000000000000000000000000000000000000000000000000000000000000000000000000000000000000000000000000000000000000000000000000000000000000000000000000000000000000000000000000000000000000000000000000000000000000000000000000000000000000000000000000000000000000000000000000000000000000000000000000000000000000000000000000000000000000000000000000000000000000000000000000000000000000000000000000000000000000000000000000000000000000000000000000000000") ∷ marks.Lost (q 2 256) None ∷ [])
    ∷ entry 276 0 (events.Request (q 1 256) lots.Pass) (marks.Local (q 1 256) (d 1 0) (k 1) kinds.Read 8589937145 186 (verdicts.Read (hex "000000000000000000000000000000000000000000000000000000000000000000000000000000000000000000000000000000000000000000000000000000000000000000000000000000000000000000000000000000000000000000000000000000000000000000000000000000000000000000000000000000000000000000000000000000000000000000000000000000000000000000000000000000000000000000000000000000000000000000000000000000000000")) ∷ marks.Local (q 1 256) (d 1 0) (k 1) kinds.Read 8589937295 47 (verdicts.Read (hex "0000000000000000000000000000000000000000000000000000000000000000000000000000000000000000000000")) ∷ marks.Local (q 1 256) (d 1 0) (k 1) kinds.Read 8589937764 23 (verdicts.Read (hex "0000000000000000000000000000000000000000000000")) ∷ marks.Sent (q 1 256) (q 2 256) None (Some 0) (hex "0700ffff000001000000000200000000000000000000000000000000000000000000000000000000000000000000000000000000000000000000000000000000000000000000000000000000000000000000000000000000000000000000000000000000000000000000000000000000000000000000000000000000000000000000000000000000000000000000000000000000000000000000000000000000000000000000000000000000000000000000000000000000000000000000000000000000000000000000000000000000000000000000000000000000000000000000000000000000000000000000000000000000000000000000000000000000000000000000000000000000") ∷ marks.Lost (q 2 256) None ∷ [])
    ∷ entry 277 0 (events.Request (q 1 256) lots.Pass) (marks.Local (q 1 256) (d 1 0) (k 1) kinds.Read 8589937787 88 (verdicts.Read (hex "00000000000000000000000000000000000000000000000000000000000000000000000000000000000000000000000000000000000000000000000000000000000000000000000000000000000000000000000000000000")) ∷ marks.Sent (q 1 256) (q 2 256) None (Some 0) (hex "0800ffff000001008000000300000000000000000000000000000000000000000000000000000000000000000000000000000000000000000000000000000000000000000000000000000000000000000000000000000000000000000000000000000000") ∷ marks.Lost (q 2 256) None ∷ [])
    ∷ entry 278 0 (events.Timeout (q 1 256) false) (marks.Timer (q 1 256) true ∷ marks.Done (q 1 256) (completion (q 1 256) false 0 911 operations.Write statuses.RetryExceeded 0 None None) None ∷ marks.Done (q 1 256) (completion (q 1 256) false 1 911 operations.Write statuses.Flushed 0 None None) None ∷ marks.Done (q 1 256) (completion (q 1 256) false 2 911 operations.Write statuses.Flushed 0 None None) None ∷ marks.Done (q 1 256) (completion (q 1 256) false 3 6 operations.Write statuses.Flushed 0 None None) None ∷ marks.Done (q 1 256) (completion (q 1 256) true 0 1001 operations.Recv statuses.Flushed 0 None None) None ∷ [])
    ∷ entry 279 0 (events.Timeout (q 1 513) false) (marks.Timer (q 1 513) true ∷ [])
    ∷ entry 280 0 (events.Request (q 1 513) lots.Pass) (marks.Local (q 1 513) (d 1 1) (k 16777473) kinds.Read 8589934645 256 (verdicts.Read (hex "00000000000000000000000000000000000000000000000000000000000000000000000000000000000000000000000000000000000000000000000000000000000000000000000000000000000000000000000000000000000000000000000000000000000000000000000000000000000000000000000000000000000000000000000000000000000000000000000000000000000000000000000000000000000000000000000000000000000000000000000000000000000000000000000000000000000000000000000000000000000000000000000000000000000000000000000000000000000000000000000000000000000000000000000000000000")) ∷ marks.Sent (q 1 513) (q 2 258) None (Some 0) (hex "0600ffff000001020000000000000001000009ac000000010000012c00000000000000000000000000000000000000000000000000000000000000000000000000000000000000000000000000000000000000000000000000000000000000000000000000000000000000000000000000000000000000000000000000000000000000000000000000000000000000000000000000000000000000000000000000000000000000000000000000000000000000000000000000000000000000000000000000000000000000000000000000000000000000000000000000000000000000000000000000000000000000000000000000000000000000000000000000000000000000000000000000000000000000000000000000000000") ∷ marks.Lost (q 2 258) None ∷ [])
    ∷ entry 281 0 (events.Request (q 1 513) lots.Pass) (marks.Local (q 1 513) (d 1 1) (k 16777473) kinds.Read 8589934901 16 (verdicts.Read (hex "00000000000000000000000000000000")) ∷ marks.Local (q 1 513) (d 1 1) (k 16777217) kinds.Read 4294982316 28 (verdicts.Read (hex "00000000000000000000000000000000000000000000000000000000")) ∷ marks.Sent (q 1 513) (q 2 258) None (Some 0) (hex "0800ffff00000102800000010000000000000000000000000000000000000000000000000000000000000000000000000000000000000000") ∷ marks.Lost (q 2 258) None ∷ [])
    ∷ entry 282 0 (events.Request (q 1 513) lots.Pass) (marks.Sent (q 1 513) (q 2 258) None (Some 1) (hex "0c00ffff000001028000000200000001000004a00000010100000100") ∷ marks.Lost (q 2 258) None ∷ [])
    ∷ entry 283 0 (events.Timeout (q 1 513) false) (marks.Timer (q 1 513) true ∷ marks.Done (q 1 513) (completion (q 1 513) false 0 1 operations.Write statuses.RetryExceeded 0 None None) None ∷ marks.Done (q 1 513) (completion (q 1 513) false 1 2 operations.Read statuses.Flushed 0 None None) None ∷ [])
    ∷ entry 284 0 (events.Timeout (q 3 513) false) (marks.Timer (q 3 513) true ∷ [])
    ∷ entry 285 0 (events.Request (q 3 513) lots.Pass) (marks.Local (q 3 513) (d 3 1) (k 16777473) kinds.Read 4294983125 8 (verdicts.Read (hex "0000000000000000")) ∷ marks.Sent (q 3 513) (q 0 256) (Some 8) (Some 0) (hex "0a00ffff0000010080000000000000010000016400000101000000080000000000000000") ∷ [])
    ∷ entry 286 0 (events.Deliver (q 0 256) 8) (marks.Arrived (q 0 256) (Some 8) ∷ marks.Dropped (q 0 256) drops.State ∷ [])
    ∷ entry 287 0 (events.Request (q 3 513) lots.Pass) (marks.Local (q 3 513) (d 3 1) (k 16777217) kinds.Read 4294967539 1 (verdicts.Read (hex "00")) ∷ marks.Sent (q 3 513) (q 0 256) (Some 9) (Some 1) (hex "0430ffff000001008000000100000000") ∷ [])
    ∷ entry 288 0 (events.Deliver (q 0 256) 9) (marks.Arrived (q 0 256) (Some 9) ∷ marks.Dropped (q 0 256) drops.State ∷ [])
    ∷ entry 289 0 (events.Request (q 3 513) lots.Pass) (marks.Local (q 3 513) (d 3 1) (k 16777217) kinds.Read 4294978478 41 (verdicts.Read (hex "0000000000000000000000000000000000000000000000000000000000000000000000000000000000")) ∷ marks.Local (q 3 513) (d 3 1) (k 16777217) kinds.Read 4294972872 215 (verdicts.Read (hex "0000000000000000000000000000000000000000000000000000000000000000000000000000000000000000000000000000000000000000000000000000000000000000000000000000000000000000000000000000000000000000000000000000000000000000000000000000000000000000000000000000000000000000000000000000000000000000000000000000000000000000000000000000000000000000000000000000000000000000000000000000000000000000000000000000000000000000000000000000000000000000000000")) ∷ marks.Sent (q 3 513) (q 0 256) (Some 10) (Some 2) (hex "0000ffff000001000000000200000000000000000000000000000000000000000000000000000000000000000000000000000000000000000000000000000000000000000000000000000000000000000000000000000000000000000000000000000000000000000000000000000000000000000000000000000000000000000000000000000000000000000000000000000000000000000000000000000000000000000000000000000000000000000000000000000000000000000000000000000000000000000000000000000000000000000000000000000000000000000000000000000000000000000000000000000000000000000000000000000000000000000000000000000000") ∷ [])
    ∷ entry 290 0 (events.Deliver (q 0 256) 10) (marks.Arrived (q 0 256) (Some 10) ∷ marks.Dropped (q 0 256) drops.State ∷ [])
    ∷ entry 291 0 (events.Request (q 3 513) lots.Pass) (marks.Local (q 3 513) (d 3 1) (k 16777217) kinds.Read 4294973087 256 (verdicts.Read (hex "00000000000000000000000000000000000000000000000000000000000000000000000000000000000000000000000000000000000000000000000000000000000000000000000000000000000000000000000000000000000000000000000000000000000000000000000000000000000000000000000000000000000000000000000000000000000000000000000000000000000000000000000000000000000000000000000000000000000000000000000000000000000000000000000000000000000000000000000000000000000000000000000000000000000000000000000000000000000000000000000000000000000000000000000000000000")) ∷ marks.Sent (q 3 513) (q 0 256) (Some 11) (Some 2) (hex "0100ffff000001000000000300000000000000000000000000000000000000000000000000000000000000000000000000000000000000000000000000000000000000000000000000000000000000000000000000000000000000000000000000000000000000000000000000000000000000000000000000000000000000000000000000000000000000000000000000000000000000000000000000000000000000000000000000000000000000000000000000000000000000000000000000000000000000000000000000000000000000000000000000000000000000000000000000000000000000000000000000000000000000000000000000000000000000000000000000000000") ∷ [])
    ∷ entry 292 0 (events.Deliver (q 0 256) 11) (marks.Arrived (q 0 256) (Some 11) ∷ marks.Dropped (q 0 256) drops.State ∷ [])
    ∷ entry 293 0 (events.Request (q 3 513) lots.Pass) (marks.Local (q 3 513) (d 3 1) (k 16777217) kinds.Read 4294973343 256 (verdicts.Read (hex "00000000000000000000000000000000000000000000000000000000000000000000000000000000000000000000000000000000000000000000000000000000000000000000000000000000000000000000000000000000000000000000000000000000000000000000000000000000000000000000000000000000000000000000000000000000000000000000000000000000000000000000000000000000000000000000000000000000000000000000000000000000000000000000000000000000000000000000000000000000000000000000000000000000000000000000000000000000000000000000000000000000000000000000000000000000")) ∷ marks.Sent (q 3 513) (q 0 256) (Some 12) (Some 2) (hex "0100ffff000001000000000400000000000000000000000000000000000000000000000000000000000000000000000000000000000000000000000000000000000000000000000000000000000000000000000000000000000000000000000000000000000000000000000000000000000000000000000000000000000000000000000000000000000000000000000000000000000000000000000000000000000000000000000000000000000000000000000000000000000000000000000000000000000000000000000000000000000000000000000000000000000000000000000000000000000000000000000000000000000000000000000000000000000000000000000000000000") ∷ [])
    ∷ entry 294 0 (events.Deliver (q 0 256) 12) (marks.Arrived (q 0 256) (Some 12) ∷ marks.Dropped (q 0 256) drops.State ∷ [])
    ∷ entry 295 0 (events.Request (q 3 513) (lots.Hold 4)) (marks.Local (q 3 513) (d 3 1) (k 16777217) kinds.Read 4294973599 100 (verdicts.Read (hex "00000000000000000000000000000000000000000000000000000000000000000000000000000000000000000000000000000000000000000000000000000000000000000000000000000000000000000000000000000000000000000000000000000000")) ∷ marks.Local (q 3 513) (d 3 1) (k 16777473) kinds.Read 4294977438 132 (verdicts.Read (hex "000000000000000000000000000000000000000000000000000000000000000000000000000000000000000000000000000000000000000000000000000000000000000000000000000000000000000000000000000000000000000000000000000000000000000000000000000000000000000000000000000000000000000000000000")) ∷ marks.Sent (q 3 513) (q 0 256) (Some 13) (Some 2) (hex "0200ffff000001008000000500000000000000000000000000000000000000000000000000000000000000000000000000000000000000000000000000000000000000000000000000000000000000000000000000000000000000000000000000000000000000000000000000000000000000000000000000000000000000000000000000000000000000000000000000000000000000000000000000000000000000000000000000000000000000000000000000000000000000000000000000000000000000000000000000000000000000000000000000000000000000000000000000000000000000000000000000000000") ∷ [])
    ∷ entry 296 0 (events.Deliver (q 0 256) 13) (marks.Arrived (q 0 256) (Some 13) ∷ marks.Dropped (q 0 256) drops.State ∷ [])
    ∷ entry 297 0 (events.Request (q 3 513) lots.Pass) (marks.Local (q 3 513) (d 3 1) (k 16777217) kinds.Read 4294968130 64 (verdicts.Read (hex "00000000000000000000000000000000000000000000000000000000000000000000000000000000000000000000000000000000000000000000000000000000")) ∷ marks.Sent (q 3 513) (q 0 256) (Some 14) (Some 3) (hex "0a00ffff0000010080000006000000010000030a000000010000004000000000000000000000000000000000000000000000000000000000000000000000000000000000000000000000000000000000000000000000000000000000") ∷ [])
    ∷ entry 298 0 (events.Deliver (q 0 256) 14) (marks.Arrived (q 0 256) (Some 14) ∷ marks.Dropped (q 0 256) drops.State ∷ [])
    ∷ entry 299 0 (events.Timeout (q 3 513) false) (marks.Timer (q 3 513) true ∷ marks.Done (q 3 513) (completion (q 3 513) false 0 1 operations.Write statuses.RetryExceeded 0 None None) None ∷ marks.Done (q 3 513) (completion (q 3 513) false 1 2 operations.Send statuses.Flushed 0 None None) None ∷ marks.Done (q 3 513) (completion (q 3 513) false 2 3 operations.Send statuses.Flushed 0 None None) None ∷ marks.Done (q 3 513) (completion (q 3 513) false 3 4 operations.Write statuses.Flushed 0 None None) None ∷ marks.Done (q 3 513) (completion (q 3 513) true 0 1006 operations.Recv statuses.Flushed 0 None None) None ∷ [])
    ∷ []

abbrev configuration : Configuration
configuration = record { adapters = adapter (1000 ∷ []) 4 8 8 4 2 4 ∷ adapter (16384 ∷ 4096 ∷ []) 4 8 8 4 2 4 ∷ adapter (16384 ∷ []) 4 8 8 4 2 4 ∷ adapter (16384 ∷ []) 4 8 8 4 2 4 ∷ []; events = 131072 }

the_run : outcome_of configuration (map (λ e. e.event) history) ≡ Ok (map (λ e. e.marks) history)
unfolding row_of be_bytes packet_bytes number_at bth_at front_at reth_from atomic_from aeth_from number_from payload_at payload_behind body_in packet_in
the_run = refl
