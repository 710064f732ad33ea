-- Written by tools/check_traces from examples/traces/run-messages-of-several-packets.trace and run-messages-of-several-packets.ca.
-- The history of the trace, and what holds of it. For proofs only.
use Rattle.std.proofs.Common.{◌≡◌, List, [], ◌∷◌, map, true, false, None, Some, Ok, refl}
use Rattle.ca_keys.specs.declared.access.Kind.TheVariants as kinds
use Rattle.ca_keys.specs.declared.access.Denial.TheVariants as denials
use Rattle.ca_base.specs.declared.change.Change.TheVariants as changes
use Rattle.ca_base.specs.declared.change.Field.TheVariants as fields
use Rattle.ca_base.specs.declared.completion.WcOp.TheVariants as operations
use Rattle.ca_base.specs.declared.completion.WcStatus.TheVariants as statuses
use Rattle.ca_base.specs.declared.lot.Lot.TheVariants as lots
use Rattle.ca_base.specs.declared.request.SendOp.TheVariants as ops
use Rattle.ca_keys.specs.declared.verdict.Verdict.TheVariants as verdicts
use Rattle.ca_model.specs.declared.answer.Answer.TheVariants as answers
use Rattle.ca_model.specs.declared.answer.Refusal.TheVariants as refusals
use Rattle.ca_model.specs.declared.event.Event.TheVariants as events
use Rattle.ca_model.specs.declared.mark.Drop1.TheVariants as drops
use Rattle.ca_model.specs.declared.mark.Mark.TheVariants as marks
use Rattle.ca_model.specs.declared.verb.Verb.TheVariants as verbs
use Rattle.ca_base.specs.Configuration.{Configuration}
use Rattle.ca_wire.specs.Decoding.{number_at, bth_at, front_at, reth_from, atomic_from, aeth_from, number_from, payload_at, payload_behind, body_in, packet_in}
use Rattle.ca_wire.specs.Packet.{be_bytes, packet_bytes}
use Rattle.ca_wire.specs.Table.{row_of}
use Rattle.ca_model.specs.Entries.{EntryValue}
use Rattle.ca_model.specs.machine.Run.{run as outcome_of}
use Rattle.ca_model.proofs.Literals.{d, s, q, k, r, run, piece, list, request, receive, completion, grant, entry, adapter}
use Rattle.ca_model_traces.proofs.Entries.{called, hex}

abbrev history : List EntryValue
history =
    called 0 0 0 (verbs.AllocPd (d 0 0)) answers.Fine []
    ∷ called 1 0 1 (verbs.AllocPd (d 1 0)) answers.Fine []
    ∷ called 2 0 2 (verbs.AllocPd (d 1 1)) answers.Fine []
    ∷ called 3 0 3 (verbs.AllocPd (d 1 2)) answers.Fine []
    ∷ called 4 0 0 (verbs.CreateCq (s 0 0 0) 13) answers.Fine []
    ∷ called 5 0 1 (verbs.CreateCq (s 1 0 0) 24) answers.Fine []
    ∷ called 6 0 2 (verbs.CreateCq (s 1 1 0) 4) answers.Fine []
    ∷ called 7 0 3 (verbs.CreateCq (s 1 2 0) 1) answers.Fine []
    ∷ called 8 0 0 (verbs.CreateCq (s 0 0 1) 16) answers.Fine []
    ∷ called 9 0 1 (verbs.CreateCq (s 1 0 1) 20) answers.Fine []
    ∷ called 10 0 2 (verbs.CreateCq (s 1 1 1) 4097) (answers.Refused (refusals.OutOfRange fields.Capacity)) []
    ∷ called 11 0 3 (verbs.CreateCq (s 1 2 1) 5) answers.Fine []
    ∷ called 12 0 0 (verbs.CreateCq (s 0 0 2) 4) answers.Fine []
    ∷ called 13 0 1 (verbs.CreateCq (s 1 0 2) 1) answers.Fine []
    ∷ called 14 0 2 (verbs.CreateSrq (s 1 1 0) 2) answers.Fine []
    ∷ called 15 0 3 (verbs.CreateCq (s 1 2 2) 1) answers.Fine []
    ∷ called 16 0 0 (verbs.CreateQp (s 0 0 0) 0 0 2 2 None) (answers.Queue 256 1) []
    ∷ called 17 0 1 (verbs.CreateQp (s 1 0 0) 0 0 4 4 None) (answers.Queue 256 1) []
    ∷ called 18 0 2 (verbs.CreateQp (s 1 1 0) 1 0 1 4 None) (answers.Refused refusals.NoSuch) []
    ∷ called 19 0 3 (verbs.CreateQp (s 1 2 0) 1 1 1 4 None) (answers.Queue 768 1) []
    ∷ called 20 0 0 (verbs.CreateQp (s 0 0 1) 0 2 8 4 None) (answers.Queue 257 1) []
    ∷ called 21 0 1 (verbs.CreateQp (s 1 0 1) 1 1 16 4 None) (answers.Queue 257 1) []
    ∷ called 22 0 2 (verbs.RegMr (s 1 1 0) 0 0 16384 (r true true true true true)) (answers.Key (k 16777217)) (marks.Granted (grant (k 16777217) (d 1 1) None true 4294967296 16384 (r true true true true true) ((run 1 0 0 16384) ∷ [])) ∷ [])
    ∷ called 23 0 3 (verbs.RegMr (s 1 2 0) 1 0 1000 (r true true true true true)) (answers.Key (k 33554433)) (marks.Granted (grant (k 33554433) (d 1 2) None true 8589934592 1000 (r true true true true true) ((run 1 1 0 1000) ∷ [])) ∷ [])
    ∷ called 24 0 0 (verbs.RegMr (s 0 0 0) 0 35000 35000 (r true true true true true)) (answers.Key (k 1)) (marks.Granted (grant (k 1) (d 0 0) None true 4295002296 35000 (r true true true true true) ((run 0 0 35000 35000) ∷ [])) ∷ [])
    ∷ called 25 0 1 (verbs.CreateQp (s 1 0 2) 0 2 16 1 None) (answers.Queue 258 1) []
    ∷ called 26 0 2 (verbs.RegMr (s 1 1 1) 2 0 70000 (r false false false true true)) (answers.Refused refusals.RightsNeedLocalWrite) []
    ∷ called 27 0 3 (verbs.RegMr (s 1 2 1) 0 0 8192 (r true false false false false)) (answers.Key (k 33554689)) (marks.Granted (grant (k 33554689) (d 1 2) None true 4294967296 8192 (r true false false false false) ((run 1 0 0 8192) ∷ [])) ∷ [])
    ∷ called 28 0 0 (verbs.RegMr (s 0 0 1) 0 0 35000 (r true true true true true)) (answers.Key (k 257)) (marks.Granted (grant (k 257) (d 0 0) None true 4294967296 35000 (r true true true true true) ((run 0 0 0 35000) ∷ [])) ∷ [])
    ∷ called 29 0 1 (verbs.RegMr (s 1 0 0) 0 8 8188 (r true true true true true)) (answers.Key (k 1)) (marks.Granted (grant (k 1) (d 1 0) None true 4294967304 8188 (r true true true true true) ((run 1 0 8 8188) ∷ [])) ∷ [])
    ∷ called 30 0 2 (verbs.AllocMw (s 1 1 0) 2) answers.Fine []
    ∷ called 31 0 3 (verbs.RegMr (s 1 2 2) 1 8 992 (r true true true true true)) (answers.Key (k 33554945)) (marks.Granted (grant (k 33554945) (d 1 2) None true 8589934600 992 (r true true true true true) ((run 1 1 8 992) ∷ [])) ∷ [])
    ∷ called 32 0 0 (verbs.AllocMw (s 0 0 0) 1) answers.Fine []
    ∷ called 33 0 1 (verbs.RegMr (s 1 0 1) 1 0 500 (r true true true true true)) (answers.Key (k 257)) (marks.Granted (grant (k 257) (d 1 0) None true 8589934592 500 (r true true true true true) ((run 1 1 0 500) ∷ [])) ∷ [])
    ∷ called 34 0 2 (verbs.AllocMw (s 1 1 1) 2) answers.Fine []
    ∷ called 35 0 3 (verbs.AllocMr (s 1 2 4) 4) answers.Fine []
    ∷ called 36 0 0 (verbs.ModifyQp (s 0 0 1) changes.Init) answers.Fine []
    ∷ called 37 0 1 (verbs.AllocMr (s 1 0 3) 1) answers.Fine []
    ∷ called 38 0 2 (verbs.AllocMw (s 1 1 2) 2) answers.Fine []
    ∷ called 39 0 3 (verbs.AllocMw (s 1 2 0) 1) answers.Fine []
    ∷ called 40 0 0 (verbs.ModifyQp (s 0 0 1) (changes.Rtr (q 1 258) 1 8388608 256 13)) answers.Fine []
    ∷ called 41 0 1 (verbs.AllocMw (s 1 0 0) 2) answers.Fine []
    ∷ called 42 0 3 (verbs.AllocMw (s 1 2 1) 1) answers.Fine []
    ∷ called 43 0 0 (verbs.ModifyQp (s 0 0 1) (changes.Rts 0 7 7 1)) answers.Fine []
    ∷ called 44 0 1 (verbs.AllocMw (s 1 0 1) 2) answers.Fine []
    ∷ called 45 0 3 (verbs.AllocMw (s 1 2 2) 2) answers.Fine []
    ∷ called 46 0 0 (verbs.ModifyQp (s 0 0 0) changes.Init) answers.Fine []
    ∷ called 47 0 1 (verbs.AllocMw (s 1 0 2) 2) answers.Fine []
    ∷ called 48 0 3 (verbs.ModifyQp (s 1 2 0) changes.Init) answers.Fine []
    ∷ called 49 0 0 (verbs.ModifyQp (s 0 0 0) (changes.Rtr (q 1 256) 1 16777214 256 13)) answers.Fine []
    ∷ called 50 0 1 (verbs.ModifyQp (s 1 0 2) changes.Init) answers.Fine []
    ∷ called 51 0 3 (verbs.ModifyQp (s 1 2 0) (changes.Rtr (q 1 257) 1 8388608 256 14)) answers.Fine []
    ∷ called 52 0 0 (verbs.ModifyQp (s 0 0 0) (changes.Rts 16777215 7 1 16)) answers.Fine []
    ∷ called 53 0 1 (verbs.ModifyQp (s 1 0 2) (changes.Rtr (q 0 257) 1 0 256 1)) answers.Fine []
    ∷ called 54 0 3 (verbs.ModifyQp (s 1 2 0) (changes.Rts 2404401 7 0 1)) answers.Fine []
    ∷ called 55 0 0 (verbs.PostRecv (s 0 0 0) (receive 1001 (list ((piece 1 4295003372 1000) ∷ [])))) (answers.Posted None) []
    ∷ called 56 0 1 (verbs.ModifyQp (s 1 0 2) (changes.Rts 8388608 7 7 2)) answers.Fine []
    ∷ called 57 0 3 (verbs.PostRecv (s 1 2 0) (receive 1001 (list ((piece 33554689 4294967572 1240) ∷ (piece 33554689 4294967543 4760) ∷ [])))) (answers.Posted None) []
    ∷ called 58 0 0 (verbs.PostRecv (s 0 0 0) (receive 1002 (list ((piece 1 4295016487 1628) ∷ (piece 257 4294995896 1602) ∷ (piece 1 4295029204 1058) ∷ (piece 257 4294999780 1712) ∷ [])))) (answers.Posted None) []
    ∷ called 59 0 1 (verbs.PostRecv (s 1 0 2) (receive 1001 (list ((piece 1 4294967373 8000) ∷ [])))) (answers.Posted None) []
    ∷ called 60 0 3 (verbs.PostRecv (s 1 2 0) (receive 1002 (list ((piece 33554689 4294968904 5081) ∷ (piece 33554689 4294969407 2919) ∷ [])))) (answers.Posted None) []
    ∷ called 61 0 1 (verbs.ModifyQp (s 1 0 1) changes.Init) answers.Fine []
    ∷ called 62 0 1 (verbs.ModifyQp (s 1 0 1) (changes.Rtr (q 1 768) 1 2404401 256 14)) answers.Fine []
    ∷ called 63 0 1 (verbs.ModifyQp (s 1 0 1) (changes.Rts 8388608 7 1 16)) answers.Fine []
    ∷ called 64 0 1 (verbs.ModifyQp (s 1 0 0) changes.Init) answers.Fine []
    ∷ called 65 0 1 (verbs.ModifyQp (s 1 0 0) (changes.Rtr (q 0 256) 1 16777215 256 17)) answers.Fine []
    ∷ called 66 0 1 (verbs.ModifyQp (s 1 0 0) (changes.Rts 16777214 7 7 2)) answers.Fine []
    ∷ called 67 0 1 (verbs.PostRecv (s 1 0 0) (receive 1001 (list ((piece 1 4294971551 8) ∷ (piece 257 8589935050 0) ∷ (piece 257 8589934966 45) ∷ (piece 1 4294975423 11) ∷ [])))) (answers.Posted None) []
    ∷ called 68 0 1 (verbs.Poll (s 1 0 0) 16 0) (answers.Polled ([])) []
    ∷ called 69 0 1 (verbs.PostRecv (s 1 0 0) (receive 1002 (list ((piece 1 4294968561 5940) ∷ (piece 1 4294967489 375) ∷ (piece 1 4294973994 1447) ∷ (piece 257 8589934803 238) ∷ [])))) (answers.Posted None) []
    ∷ called 70 0 1 (verbs.PostRecv (s 1 0 0) (receive 1003 (list ((piece 1 4294969936 5380) ∷ (piece 1 4294971603 872) ∷ (piece 1 4294971358 1748) ∷ [])))) (answers.Posted None) []
    ∷ called 71 0 1 (verbs.PostRecv (s 1 0 0) (receive 1004 (list ((piece 1 4294969163 512) ∷ [])))) (answers.Posted None) []
    ∷ called 72 0 3 (verbs.PostRecv (s 1 2 0) (receive 1003 (list ((piece 33554689 4294967309 3328) ∷ (piece 33554689 4294969810 4672) ∷ [])))) (answers.Posted None) []
    ∷ called 73 0 0 (verbs.PostSend (s 0 0 1) (request 1 false false false (ops.Send (list ((piece 1 4295033124 8) ∷ []))))) (answers.Posted None) []
    ∷ called 74 0 1 (verbs.Poll (s 1 0 0) 4 0) (answers.Polled ([])) []
    ∷ called 75 0 3 (verbs.PostSend (s 1 2 0) (request 911 true false false (ops.Write 4294970294 (k 1) (list ((piece 33554689 4294972914 2000) ∷ []))))) (answers.Posted None) []
    ∷ entry 76 0 (events.Request (q 0 257) lots.Pass) (marks.Local (q 0 257) (d 0 0) (k 1) kinds.Read 4295033124 8 (verdicts.Read (hex "0000000000000000")) ∷ marks.Sent (q 0 257) (q 1 258) (Some 0) (Some 0) (hex "0400ffff00000102800000000000000000000000") ∷ [])
    ∷ entry 77 0 (events.Deliver (q 1 258) 0) (marks.Arrived (q 1 258) (Some 0) ∷ marks.Local (q 1 258) (d 1 0) (k 1) kinds.Write 4294967373 8 (verdicts.Wrote (hex "0000000000000000")) ∷ marks.Done (q 1 258) (completion (q 1 258) true 0 1001 operations.Recv statuses.Success 8 None None) None ∷ [])
    ∷ entry 78 0 (events.Respond (q 1 258) lots.Pass) (marks.Sent (q 1 258) (q 0 257) (Some 0) None (hex "1100ffff00000101000000001f000001") ∷ [])
    ∷ entry 79 0 (events.Request (q 1 768) lots.Pass) (marks.Local (q 1 768) (d 1 2) (k 33554689) kinds.Read 4294972914 256 (verdicts.Read (hex "00000000000000000000000000000000000000000000000000000000000000000000000000000000000000000000000000000000000000000000000000000000000000000000000000000000000000000000000000000000000000000000000000000000000000000000000000000000000000000000000000000000000000000000000000000000000000000000000000000000000000000000000000000000000000000000000000000000000000000000000000000000000000000000000000000000000000000000000000000000000000000000000000000000000000000000000000000000000000000000000000000000000000000000000000000000")) ∷ marks.Sent (q 1 768) (q 1 257) (Some 0) (Some 0) (hex "0600ffff000001010024b0310000000100000bb600000001000007d000000000000000000000000000000000000000000000000000000000000000000000000000000000000000000000000000000000000000000000000000000000000000000000000000000000000000000000000000000000000000000000000000000000000000000000000000000000000000000000000000000000000000000000000000000000000000000000000000000000000000000000000000000000000000000000000000000000000000000000000000000000000000000000000000000000000000000000000000000000000000000000000000000000000000000000000000000000000000000000000000000000000000000000000000000000") ∷ [])
    ∷ called 80 0 0 (verbs.Poll (s 0 0 0) 4 0) (answers.Polled ([])) []
    ∷ called 81 0 1 (verbs.PostSend (s 1 0 2) (request 2 true false false (ops.WriteImm 4294969211 (k 257) 1992928674 (list ((piece 1 4294975354 1) ∷ []))))) (answers.Posted None) []
    ∷ called 82 0 3 (verbs.PostSend (s 1 2 0) (request 911 true false false (ops.Write 8589934686 (k 257) (list ((piece 33554945 8589934873 270) ∷ (piece 33554433 8589934613 30) ∷ []))))) (answers.Refused refusals.QueueFull) []
    ∷ entry 83 0 (events.Deliver (q 0 257) 0) (marks.Arrived (q 0 257) (Some 0) ∷ [])
    ∷ entry 84 0 (events.Deliver (q 1 257) 0) (marks.Arrived (q 1 257) (Some 0) ∷ marks.Remote (q 1 257) (d 1 0) (Some 0) (k 1) kinds.Write 4294970294 2000 (verdicts.Wrote (hex "00000000000000000000000000000000000000000000000000000000000000000000000000000000000000000000000000000000000000000000000000000000000000000000000000000000000000000000000000000000000000000000000000000000000000000000000000000000000000000000000000000000000000000000000000000000000000000000000000000000000000000000000000000000000000000000000000000000000000000000000000000000000000000000000000000000000000000000000000000000000000000000000000000000000000000000000000000000000000000000000000000000000000000000000000000000")) ∷ [])
    ∷ entry 85 0 (events.Request (q 1 258) lots.Pass) (marks.Local (q 1 258) (d 1 0) (k 1) kinds.Read 4294975354 1 (verdicts.Read (hex "00")) ∷ marks.Sent (q 1 258) (q 0 257) (Some 1) (Some 0) (hex "0b30ffff0000010180800000000000010000077b000001010000000176c9ada200000000") ∷ [])
    ∷ entry 86 0 (events.Request (q 1 768) lots.Pass) (marks.Local (q 1 768) (d 1 2) (k 33554689) kinds.Read 4294973170 256 (verdicts.Read (hex "00000000000000000000000000000000000000000000000000000000000000000000000000000000000000000000000000000000000000000000000000000000000000000000000000000000000000000000000000000000000000000000000000000000000000000000000000000000000000000000000000000000000000000000000000000000000000000000000000000000000000000000000000000000000000000000000000000000000000000000000000000000000000000000000000000000000000000000000000000000000000000000000000000000000000000000000000000000000000000000000000000000000000000000000000000000")) ∷ marks.Sent (q 1 768) (q 1 257) (Some 1) (Some 0) (hex "0700ffff000001010024b03200000000000000000000000000000000000000000000000000000000000000000000000000000000000000000000000000000000000000000000000000000000000000000000000000000000000000000000000000000000000000000000000000000000000000000000000000000000000000000000000000000000000000000000000000000000000000000000000000000000000000000000000000000000000000000000000000000000000000000000000000000000000000000000000000000000000000000000000000000000000000000000000000000000000000000000000000000000000000000000000000000000000000000000000000000000") ∷ [])
    ∷ called 87 0 0 (verbs.PostRecv (s 0 0 0) (receive 1003 (list ((piece 257 4294979684 57) ∷ (piece 257 4294994246 3055) ∷ (piece 1 4295004418 3300) ∷ (piece 1 4295024279 1588) ∷ [])))) (answers.Refused refusals.QueueFull) []
    ∷ called 88 0 1 (verbs.PostSend (s 1 0 1) (request 920 true false false (ops.CmpSwap 4294970800 (k 33554689) 1 7 (list ((piece 1 4294967691 5) ∷ (piece 257 8589934824 0) ∷ (piece 257 8589934851 2) ∷ (piece 257 8589934890 1) ∷ []))))) (answers.Posted None) []
    ∷ called 89 0 3 (verbs.PostRecv (s 1 2 0) (receive 1004 (list ((piece 33554433 8589934609 836) ∷ (piece 33554689 4294969826 4689) ∷ (piece 33554689 4294969809 2475) ∷ [])))) (answers.Posted None) []
    ∷ entry 90 0 (events.Deliver (q 0 257) 1) (marks.Arrived (q 0 257) (Some 1) ∷ [])
    ∷ entry 91 0 (events.Respond (q 0 257) lots.Pass) (marks.Sent (q 0 257) (q 1 258) (Some 1) None (hex "1100ffff00000102008000002d000000") ∷ [])
    ∷ entry 92 0 (events.Deliver (q 1 257) 1) (marks.Arrived (q 1 257) (Some 1) ∷ marks.Remote (q 1 257) (d 1 0) (Some 1) (k 1) kinds.Write 4294970550 1744 (verdicts.Wrote (hex "00000000000000000000000000000000000000000000000000000000000000000000000000000000000000000000000000000000000000000000000000000000000000000000000000000000000000000000000000000000000000000000000000000000000000000000000000000000000000000000000000000000000000000000000000000000000000000000000000000000000000000000000000000000000000000000000000000000000000000000000000000000000000000000000000000000000000000000000000000000000000000000000000000000000000000000000000000000000000000000000000000000000000000000000000000000")) ∷ [])
    ∷ entry 93 0 (events.Request (q 1 257) lots.Pass) (marks.Sent (q 1 257) (q 1 768) (Some 0) (Some 0) (hex "1300ffff00000300808000000000000100000db00200010100000000000000070000000000000001") ∷ [])
    ∷ entry 94 0 (events.Deliver (q 1 258) 1) (marks.Arrived (q 1 258) (Some 1) ∷ [])
    ∷ entry 95 0 (events.Deliver (q 1 768) 0) (marks.Arrived (q 1 768) (Some 0) ∷ marks.Remote (q 1 768) (d 1 2) (Some 0) (k 33554689) kinds.CmpSwap 4294970800 8 (verdicts.Denied denials.NoRight) ∷ marks.Done (q 1 768) (completion (q 1 768) false 0 911 operations.Write statuses.Flushed 0 None None) None ∷ marks.Done (q 1 768) (completion (q 1 768) true 0 1001 operations.Recv statuses.Flushed 0 None None) None ∷ marks.Done (q 1 768) (completion (q 1 768) true 1 1002 operations.Recv statuses.Flushed 0 None None) None ∷ marks.Done (q 1 768) (completion (q 1 768) true 2 1003 operations.Recv statuses.Flushed 0 None None) None ∷ marks.Done (q 1 768) (completion (q 1 768) true 3 1004 operations.Recv statuses.Flushed 0 None None) None ∷ [])
    ∷ entry 96 0 (events.Respond (q 1 768) lots.Pass) (marks.Sent (q 1 768) (q 1 257) (Some 2) None (hex "1100ffff000001010080000062000000") ∷ [])
    ∷ called 97 0 0 (verbs.ModifyQp (s 0 0 1) changes.Reset) answers.Fine []
    ∷ called 98 0 1 (verbs.PostSend (s 1 0 1) (request 920 true false false (ops.FetchAdd 8589934728 (k 33554433) 18446744073709551615 (list ((piece 1 4294968802 8) ∷ []))))) (answers.Posted None) []
    ∷ called 99 0 3 (verbs.Poll (s 1 2 1) 16 0) (answers.Polled ((completion (q 1 768) false 0 911 operations.Write statuses.Flushed 0 None None) ∷ (completion (q 1 768) true 0 1001 operations.Recv statuses.Flushed 0 None None) ∷ (completion (q 1 768) true 1 1002 operations.Recv statuses.Flushed 0 None None) ∷ (completion (q 1 768) true 2 1003 operations.Recv statuses.Flushed 0 None None) ∷ (completion (q 1 768) true 3 1004 operations.Recv statuses.Flushed 0 None None) ∷ [])) []
    ∷ entry 100 0 (events.Deliver (q 1 257) 2) (marks.Arrived (q 1 257) (Some 2) ∷ marks.Done (q 1 257) (completion (q 1 257) false 0 920 operations.CmpSwap statuses.RemoteAccess 0 None None) None ∷ marks.Done (q 1 257) (completion (q 1 257) false 1 920 operations.FetchAdd statuses.Flushed 0 None None) None ∷ [])
    ∷ called 101 0 0 (verbs.PostSend (s 0 0 1) (request 940 true false false (ops.Read 4294968483 (k 1) (list ((piece 1 4295008834 30) ∷ (piece 1 4295008579 354) ∷ (piece 257 4294977638 635) ∷ (piece 257 4294976012 481) ∷ []))))) (answers.Refused refusals.QueueState) []
    ∷ called 102 0 1 (verbs.Poll (s 1 0 1) 4 0) (answers.Polled ((completion (q 1 257) false 0 920 operations.CmpSwap statuses.RemoteAccess 0 None None) ∷ (completion (q 1 257) false 1 920 operations.FetchAdd statuses.Flushed 0 None None) ∷ [])) []
    ∷ called 103 0 3 (verbs.ModifyQp (s 1 2 0) changes.Reset) answers.Fine []
    ∷ called 104 0 0 (verbs.PostSend (s 0 0 1) (request 940 true false false (ops.Read 4294971571 (k 1) (list ((piece 257 4294978771 600) ∷ []))))) (answers.Refused refusals.QueueState) []
    ∷ called 105 0 1 (verbs.PostSend (s 1 0 1) (request 920 true false false (ops.CmpSwap 8589935208 (k 33554433) 0 6 (list ((piece 257 8589934992 3) ∷ (piece 1 4294971691 3) ∷ (piece 257 8589934697 2) ∷ (piece 1 4294974313 0) ∷ []))))) (answers.Posted None) (marks.Done (q 1 257) (completion (q 1 257) false 2 920 operations.CmpSwap statuses.Flushed 0 None None) None ∷ [])
    ∷ called 106 0 0 (verbs.PostSend (s 0 0 1) (request 940 false false false (ops.Read 4294973288 (k 1) (list ((piece 257 4294969515 600) ∷ []))))) (answers.Refused refusals.QueueState) []
    ∷ called 107 0 1 (verbs.Poll (s 1 0 1) 4 0) (answers.Polled ((completion (q 1 257) false 2 920 operations.CmpSwap statuses.Flushed 0 None None) ∷ [])) []
    ∷ called 108 0 0 (verbs.PostSend (s 0 0 1) (request 940 true false true (ops.Read 4294969427 (k 1) (list ((piece 257 4294975121 1121) ∷ (piece 1 4295032101 1879) ∷ []))))) (answers.Refused refusals.QueueState) []
    ∷ called 109 0 1 (verbs.PostSend (s 1 0 1) (request 920 true false false (ops.FetchAdd 8589934616 (k 33554945) 5 (list ((piece 257 8589934607 1) ∷ (piece 257 8589934855 0) ∷ (piece 1 4294970871 7) ∷ []))))) (answers.Posted None) (marks.Done (q 1 257) (completion (q 1 257) false 3 920 operations.FetchAdd statuses.Flushed 0 None None) None ∷ [])
    ∷ called 110 0 0 (verbs.PostSend (s 0 0 1) (request 940 false false false (ops.Read 4294974191 (k 1) (list ((piece 257 4294977268 487) ∷ (piece 257 4294972801 113) ∷ []))))) (answers.Refused refusals.QueueState) []
    ∷ called 111 0 1 (verbs.Poll (s 1 0 1) 4 0) (answers.Polled ((completion (q 1 257) false 3 920 operations.FetchAdd statuses.Flushed 0 None None) ∷ [])) []
    ∷ called 112 0 0 (verbs.PostSend (s 0 0 1) (request 940 false false false (ops.Read 8589934618 (k 257) (list ((piece 257 4294984309 8) ∷ []))))) (answers.Refused refusals.QueueState) []
    ∷ called 113 0 1 (verbs.PostSend (s 1 0 1) (request 920 true false false (ops.FetchAdd 8589935336 (k 33554945) 18446744073709551615 (list ((piece 1 4294971122 8) ∷ []))))) (answers.Posted None) (marks.Done (q 1 257) (completion (q 1 257) false 4 920 operations.FetchAdd statuses.Flushed 0 None None) None ∷ [])
    ∷ called 114 0 0 (verbs.PostSend (s 0 0 1) (request 940 true false false (ops.Read 8589934682 (k 257) (list ((piece 257 4294971074 0) ∷ (piece 257 4294992859 1) ∷ (piece 257 4294980764 2) ∷ (piece 257 4294973113 5) ∷ []))))) (answers.Refused refusals.QueueState) []
    ∷ called 115 0 1 (verbs.Poll (s 1 0 1) 4 0) (answers.Polled ((completion (q 1 257) false 4 920 operations.FetchAdd statuses.Flushed 0 None None) ∷ [])) []
    ∷ called 116 0 0 (verbs.PostSend (s 0 0 1) (request 940 true false false (ops.Read 8589934666 (k 257) (list ((piece 1 4295019415 48) ∷ (piece 257 4294971361 44) ∷ (piece 257 4294981922 208) ∷ []))))) (answers.Refused refusals.QueueState) []
    ∷ called 117 0 1 (verbs.PostSend (s 1 0 1) (request 920 true false false (ops.FetchAdd 8589935248 (k 33554433) 1 (list ((piece 257 8589934765 3) ∷ (piece 257 8589934854 3) ∷ (piece 257 8589934804 2) ∷ []))))) (answers.Posted None) (marks.Done (q 1 257) (completion (q 1 257) false 5 920 operations.FetchAdd statuses.Flushed 0 None None) None ∷ [])
    ∷ called 118 0 0 (verbs.PostSend (s 0 0 0) (request 4 true false false (ops.Send (list ((piece 257 4294996646 5) ∷ (piece 1 4295027547 1) ∷ (piece 257 4294979322 0) ∷ (piece 1 4295008682 2) ∷ []))))) (answers.Posted None) []
    ∷ called 119 0 1 (verbs.PostSend (s 1 0 1) (request 920 true false false (ops.CmpSwap 8589935272 (k 33554945) 7 1 (list ((piece 257 8589934755 1) ∷ (piece 1 4294969245 4) ∷ (piece 1 4294970043 2) ∷ (piece 1 4294972467 1) ∷ []))))) (answers.Posted None) (marks.Done (q 1 257) (completion (q 1 257) false 6 920 operations.CmpSwap statuses.Flushed 0 None None) None ∷ [])
    ∷ entry 120 0 (events.Request (q 0 256) lots.Pass) (marks.Local (q 0 256) (d 0 0) (k 257) kinds.Read 4294996646 5 (verdicts.Read (hex "0000000000")) ∷ marks.Local (q 0 256) (d 0 0) (k 1) kinds.Read 4295027547 1 (verdicts.Read (hex "00")) ∷ marks.Local (q 0 256) (d 0 0) (k 1) kinds.Read 4295008682 2 (verdicts.Read (hex "0000")) ∷ marks.Sent (q 0 256) (q 1 256) (Some 0) (Some 0) (hex "0400ffff0000010080ffffff0000000000000000") ∷ [])
    ∷ entry 121 0 (events.Deliver (q 1 256) 0) (marks.Arrived (q 1 256) (Some 0) ∷ marks.Local (q 1 256) (d 1 0) (k 1) kinds.Write 4294971551 8 (verdicts.Wrote (hex "0000000000000000")) ∷ marks.Done (q 1 256) (completion (q 1 256) true 0 1001 operations.Recv statuses.Success 8 None None) None ∷ [])
    ∷ entry 122 0 (events.Respond (q 1 256) lots.Pass) (marks.Sent (q 1 256) (q 0 256) (Some 0) None (hex "1100ffff0000010000ffffff1f000001") ∷ [])
    ∷ called 123 0 0 (verbs.Poll (s 0 0 0) 1 0) (answers.Polled ([])) []
    ∷ called 124 0 1 (verbs.Poll (s 1 0 1) 4 0) (answers.Polled ((completion (q 1 257) false 5 920 operations.FetchAdd statuses.Flushed 0 None None) ∷ (completion (q 1 257) false 6 920 operations.CmpSwap statuses.Flushed 0 None None) ∷ [])) []
    ∷ entry 125 0 (events.Deliver (q 0 256) 0) (marks.Arrived (q 0 256) (Some 0) ∷ marks.Done (q 0 256) (completion (q 0 256) false 0 4 operations.Send statuses.Success 0 None None) None ∷ [])
    ∷ called 126 0 0 (verbs.Poll (s 0 0 2) 0 0) (answers.Refused (refusals.OutOfRange fields.Length)) []
    ∷ called 127 0 1 (verbs.PostSend (s 1 0 1) (request 920 true false false (ops.CmpSwap 4294974768 (k 33554689) 0 0 (list ((piece 1 4294967915 8) ∷ []))))) (answers.Posted None) (marks.Done (q 1 257) (completion (q 1 257) false 7 920 operations.CmpSwap statuses.Flushed 0 None None) None ∷ [])
    ∷ called 128 0 1 (verbs.Poll (s 1 0 1) 4 0) (answers.Polled ((completion (q 1 257) false 7 920 operations.CmpSwap statuses.Flushed 0 None None) ∷ [])) []
    ∷ called 129 0 1 (verbs.PostSend (s 1 0 1) (request 920 true false false (ops.CmpSwap 8589935112 (k 33554945) 0 3 (list ((piece 1 4294968405 8) ∷ []))))) (answers.Posted None) (marks.Done (q 1 257) (completion (q 1 257) false 8 920 operations.CmpSwap statuses.Flushed 0 None None) None ∷ [])
    ∷ called 130 0 1 (verbs.PostSend (s 1 0 1) (request 920 true false false (ops.CmpSwap 8589934920 (k 33554433) 7 1 (list ((piece 1 4294975161 8) ∷ []))))) (answers.Posted None) (marks.Done (q 1 257) (completion (q 1 257) false 9 920 operations.CmpSwap statuses.Flushed 0 None None) None ∷ [])
    ∷ called 131 0 1 (verbs.Poll (s 1 0 1) 4 0) (answers.Polled ((completion (q 1 257) false 8 920 operations.CmpSwap statuses.Flushed 0 None None) ∷ (completion (q 1 257) false 9 920 operations.CmpSwap statuses.Flushed 0 None None) ∷ [])) []
    ∷ called 132 0 1 (verbs.PostSend (s 1 0 1) (request 1 true false false (ops.FetchAdd 8589934824 (k 33554945) 18446744073709551615 (list ((piece 257 8589934594 8) ∷ []))))) (answers.Posted None) (marks.Done (q 1 257) (completion (q 1 257) false 10 1 operations.FetchAdd statuses.Flushed 0 None None) None ∷ [])
    ∷ called 133 0 1 (verbs.Poll (s 1 0 1) 16 0) (answers.Polled ((completion (q 1 257) false 10 1 operations.FetchAdd statuses.Flushed 0 None None) ∷ [])) []
    ∷ called 134 0 1 (verbs.PostRecv (s 1 0 0) (receive 1005 (list ((piece 1 4294967367 8000) ∷ [])))) (answers.Refused refusals.QueueFull) []
    ∷ called 135 0 1 (verbs.Poll (s 1 0 0) 16 0) (answers.Polled ((completion (q 1 256) true 0 1001 operations.Recv statuses.Success 8 None None) ∷ [])) []
    ∷ called 136 0 1 (verbs.PostRecv (s 1 0 0) (receive 1006 (list ((piece 1 4294973519 692) ∷ (piece 1 4294968421 2616) ∷ (piece 1 4294970634 4692) ∷ [])))) (answers.Posted None) []
    ∷ called 137 0 1 (verbs.PostRecv (s 1 0 0) (receive 1007 (list ((piece 1 4294969265 6000) ∷ [])))) (answers.Refused refusals.QueueFull) []
    ∷ called 138 0 1 (verbs.PostSend (s 1 0 0) (request 8 true false false (ops.SendImm 3870635878 (list ((piece 1 4294967534 300) ∷ []))))) (answers.Posted None) []
    ∷ entry 139 0 (events.Request (q 1 256) lots.Pass) (marks.Local (q 1 256) (d 1 0) (k 1) kinds.Read 4294967534 256 (verdicts.Read (hex "00000000000000000000000000000000000000000000000000000000000000000000000000000000000000000000000000000000000000000000000000000000000000000000000000000000000000000000000000000000000000000000000000000000000000000000000000000000000000000000000000000000000000000000000000000000000000000000000000000000000000000000000000000000000000000000000000000000000000000000000000000000000000000000000000000000000000000000000000000000000000000000000000000000000000000000000000000000000000000000000000000000000000000000000000000000")) ∷ marks.Sent (q 1 256) (q 0 256) (Some 1) (Some 0) (hex "0000ffff0000010000fffffe00000000000000000000000000000000000000000000000000000000000000000000000000000000000000000000000000000000000000000000000000000000000000000000000000000000000000000000000000000000000000000000000000000000000000000000000000000000000000000000000000000000000000000000000000000000000000000000000000000000000000000000000000000000000000000000000000000000000000000000000000000000000000000000000000000000000000000000000000000000000000000000000000000000000000000000000000000000000000000000000000000000000000000000000000000000") ∷ [])
    ∷ called 140 0 1 (verbs.Poll (s 1 0 0) 16 0) (answers.Polled ([])) []
    ∷ entry 141 0 (events.Deliver (q 0 256) 1) (marks.Arrived (q 0 256) (Some 1) ∷ marks.Local (q 0 256) (d 0 0) (k 1) kinds.Write 4295003372 256 (verdicts.Wrote (hex "00000000000000000000000000000000000000000000000000000000000000000000000000000000000000000000000000000000000000000000000000000000000000000000000000000000000000000000000000000000000000000000000000000000000000000000000000000000000000000000000000000000000000000000000000000000000000000000000000000000000000000000000000000000000000000000000000000000000000000000000000000000000000000000000000000000000000000000000000000000000000000000000000000000000000000000000000000000000000000000000000000000000000000000000000000000")) ∷ [])
    ∷ entry 142 0 (events.Request (q 1 256) lots.Pass) (marks.Local (q 1 256) (d 1 0) (k 1) kinds.Read 4294967790 44 (verdicts.Read (hex "0000000000000000000000000000000000000000000000000000000000000000000000000000000000000000")) ∷ marks.Sent (q 1 256) (q 0 256) (Some 2) (Some 0) (hex "0300ffff0000010080ffffffe6b537660000000000000000000000000000000000000000000000000000000000000000000000000000000000000000") ∷ [])
    ∷ called 143 0 1 (verbs.PostSend (s 1 0 0) (request 9 true false false (ops.FetchAdd 4295011712 (k 1) 5 (list ((piece 1 4294967612 8) ∷ []))))) (answers.Posted None) []
    ∷ entry 144 0 (events.Deliver (q 0 256) 2) (marks.Arrived (q 0 256) (Some 2) ∷ marks.Local (q 0 256) (d 0 0) (k 1) kinds.Write 4295003628 44 (verdicts.Wrote (hex "0000000000000000000000000000000000000000000000000000000000000000000000000000000000000000")) ∷ marks.Done (q 0 256) (completion (q 0 256) true 0 1001 operations.Recv statuses.Success 300 (Some 3870635878) None) None ∷ [])
    ∷ entry 145 0 (events.Respond (q 0 256) lots.Pass) (marks.Sent (q 0 256) (q 1 256) (Some 1) None (hex "1100ffff0000010000ffffff1f000001") ∷ [])
    ∷ entry 146 0 (events.Deliver (q 1 256) 1) (marks.Arrived (q 1 256) (Some 1) ∷ marks.Done (q 1 256) (completion (q 1 256) false 0 8 operations.Send statuses.Success 0 None None) None ∷ [])
    ∷ entry 147 0 (events.Request (q 1 256) lots.Pass) (marks.Sent (q 1 256) (q 0 256) (Some 3) (Some 1) (hex "1400ffff0000010080000000000000010000ad800000000100000000000000050000000000000000") ∷ [])
    ∷ called 148 0 1 (verbs.PostSend (s 1 0 1) (request 910 true false false (ops.Bind2 0 (k 257) 9 8589934784 64 (r false true true true false)))) (answers.Posted None) (marks.Done (q 1 257) (completion (q 1 257) false 11 910 operations.Bind statuses.Flushed 0 None None) None ∷ [])
    ∷ entry 149 0 (events.Deliver (q 0 256) 3) (marks.Arrived (q 0 256) (Some 3) ∷ marks.Remote (q 0 256) (d 0 0) (Some 3) (k 1) kinds.FetchAdd 4295011712 8 (verdicts.Swapped 0 5) ∷ [])
    ∷ entry 150 0 (events.Respond (q 0 256) lots.Pass) (marks.Sent (q 0 256) (q 1 256) (Some 2) None (hex "1200ffff00000100000000001f0000020000000000000000") ∷ [])
    ∷ entry 151 0 (events.Deliver (q 1 256) 2) (marks.Arrived (q 1 256) (Some 2) ∷ marks.Local (q 1 256) (d 1 0) (k 1) kinds.Write 4294967612 8 (verdicts.Wrote (hex "0000000000000000")) ∷ marks.Done (q 1 256) (completion (q 1 256) false 1 9 operations.FetchAdd statuses.Success 8 None None) None ∷ [])
    ∷ called 152 0 1 (verbs.PostSend (s 1 0 1) (request 912 true false false (ops.LocalInv (k 8388617)))) (answers.Posted None) (marks.Done (q 1 257) (completion (q 1 257) false 12 912 operations.LocalInv statuses.Flushed 0 None None) None ∷ [])
    ∷ called 153 0 1 (verbs.ModifyQp (s 1 0 2) changes.Reset) answers.Fine []
    ∷ called 154 0 1 (verbs.PostSend (s 1 0 0) (request 10 true false false (ops.Bind2 0 (k 1) 0 4294969176 4096 (r false true true true false)))) (answers.Posted None) []
    ∷ entry 155 0 (events.Request (q 1 256) lots.Pass) (marks.Granted (grant (k 8388608) (d 1 0) (Some (q 1 256)) false 4294969176 4096 (r false true true true false) ((run 1 0 1880 4096) ∷ [])) ∷ marks.Done (q 1 256) (completion (q 1 256) false 2 10 operations.Bind statuses.Success 0 None None) None ∷ [])
    ∷ called 156 0 1 (verbs.Poll (s 1 0 0) 16 0) (answers.Polled ((completion (q 1 256) false 0 8 operations.Send statuses.Success 0 None None) ∷ (completion (q 1 256) false 1 9 operations.FetchAdd statuses.Success 8 None None) ∷ (completion (q 1 256) false 2 10 operations.Bind statuses.Success 0 None None) ∷ [])) []
    ∷ called 157 0 1 (verbs.DeallocMw (s 1 0 5)) (answers.Refused refusals.NoSuch) []
    ∷ called 158 0 1 (verbs.AllocMw (s 1 0 5) 2) answers.Fine []
    ∷ called 159 0 1 (verbs.PostSend (s 1 0 1) (request 990 true false false (ops.Bind2 5 (k 1) 5 4294967305 8188 (r false true true false false)))) (answers.Posted None) (marks.Done (q 1 257) (completion (q 1 257) false 13 990 operations.Bind statuses.Flushed 0 None None) None ∷ [])
    ∷ called 160 0 1 (verbs.ModifyQp (s 1 0 1) changes.Reset) answers.Fine []
    ∷ called 161 0 1 (verbs.Inject (q 7 9) (hex "1680ffff0000010080ffffff00000001")) (answers.Refused refusals.NoSuch) []
    ∷ called 162 0 1 (verbs.Inject (q 1 256) (hex "1300ffff0000010000ffffff000000010000000800000001000000000000001e0000000000000005")) answers.Fine (marks.Arrived (q 1 256) None ∷ marks.Dropped (q 1 256) drops.Unsaved ∷ [])
    ∷ called 163 0 1 (verbs.Inject (q 1 256) (hex "06b0ffff00000100800000030000000200000000000001010010000147000000")) answers.Fine (marks.Arrived (q 1 256) None ∷ [])
    ∷ entry 164 0 (events.Respond (q 1 256) lots.Pass) (marks.Sent (q 1 256) (q 0 256) (Some 4) None (hex "1100ffff000001000000000060000001") ∷ [])
    ∷ called 165 0 1 (verbs.PostSend (s 1 0 1) (request 2 true false false (ops.FetchAdd 8589935424 (k 33554433) 1 (list ((piece 1 4294974529 8) ∷ []))))) (answers.Refused refusals.QueueState) []
    ∷ entry 166 0 (events.Deliver (q 0 256) 4) (marks.Arrived (q 0 256) (Some 4) ∷ marks.Dropped (q 0 256) drops.Stale ∷ [])
    ∷ called 167 0 1 (verbs.Poll (s 1 0 1) 16 0) (answers.Polled ([])) []
    ∷ called 168 0 1 (verbs.PostSend (s 1 0 2) (request 930 true false false (ops.Write 4294967296 (k 257) (list ((piece 1 4294967304 142960) ∷ (piece 257 8589934592 419413) ∷ (piece 257 8589934592 486204) ∷ []))))) (answers.Refused refusals.TooLong) []
    ∷ called 169 0 1 (verbs.CreateSrq (s 1 0 1) 2) answers.Fine []
    ∷ called 170 0 1 (verbs.PostRecv (s 1 0 2) (receive 1003 (list ((piece 1 4294967359 1) ∷ (piece 257 8589935048 11) ∷ (piece 1 4294973097 20) ∷ (piece 1 4294972015 32) ∷ [])))) (answers.Refused refusals.QueueState) []
    ∷ called 171 0 1 (verbs.Poll (s 1 0 2) 16 0) (answers.Polled ([])) []
    ∷ called 172 0 1 (verbs.PostSend (s 1 0 2) (request 4 true false false (ops.Bind2 1 (k 1) 0 4294970528 4094 (r false true true true false)))) (answers.Refused refusals.QueueState) []
    ∷ called 173 0 1 (verbs.Poll (s 1 0 0) 16 0) (answers.Polled ([])) []
    ∷ called 174 0 1 (verbs.PostSend (s 1 0 2) (request 940 true true false (ops.Read 4295025513 (k 8388609) (list ((piece 1 4294971077 600) ∷ []))))) (answers.Refused refusals.QueueState) []
    ∷ called 175 0 1 (verbs.PostSend (s 1 0 2) (request 940 true false false (ops.Read 4294982021 (k 257) (list ((piece 1 4294971544 8) ∷ []))))) (answers.Refused refusals.QueueState) []
    ∷ called 176 0 1 (verbs.PostSend (s 1 0 2) (request 940 true true false (ops.Read 4295023639 (k 8388609) (list ((piece 1 4294968983 1) ∷ (piece 1 4294974372 1) ∷ (piece 1 4294973588 6) ∷ []))))) (answers.Refused refusals.QueueState) []
    ∷ called 177 0 1 (verbs.PostSend (s 1 0 2) (request 940 true false false (ops.Read 4295018951 (k 8388609) (list ((piece 1 4294971597 1722) ∷ (piece 257 8589934595 468) ∷ (piece 1 4294970291 653) ∷ (piece 257 8589934777 157) ∷ []))))) (answers.Refused refusals.QueueState) []
    ∷ called 178 0 1 (verbs.PostSend (s 1 0 2) (request 940 false false false (ops.Read 4295028319 (k 8388609) (list ((piece 1 4294967649 0) ∷ (piece 257 8589934704 2) ∷ (piece 1 4294967697 6) ∷ (piece 1 4294967741 0) ∷ []))))) (answers.Refused refusals.QueueState) []
    ∷ called 179 0 1 (verbs.PostSend (s 1 0 2) (request 940 true false true (ops.Read 4295016578 (k 8388609) (list ((piece 1 4294970093 8) ∷ []))))) (answers.Refused refusals.QueueState) []
    ∷ called 180 0 0 (verbs.PostSend (s 0 0 0) (request 5 false false false (ops.Write 4294972970 (k 8388608) (list ((piece 1 4295026259 300) ∷ []))))) (answers.Posted None) []
    ∷ called 181 0 1 (verbs.PostSend (s 1 0 2) (request 940 true false false (ops.Read 4295030210 (k 1) (list ((piece 1 4294967933 3000) ∷ []))))) (answers.Refused refusals.QueueState) []
    ∷ entry 182 0 (events.Request (q 0 256) lots.Pass) (marks.Local (q 0 256) (d 0 0) (k 1) kinds.Read 4295026259 256 (verdicts.Read (hex "00000000000000000000000000000000000000000000000000000000000000000000000000000000000000000000000000000000000000000000000000000000000000000000000000000000000000000000000000000000000000000000000000000000000000000000000000000000000000000000000000000000000000000000000000000000000000000000000000000000000000000000000000000000000000000000000000000000000000000000000000000000000000000000000000000000000000000000000000000000000000000000000000000000000000000000000000000000000000000000000000000000000000000000000000000000")) ∷ marks.Sent (q 0 256) (q 1 256) (Some 3) (Some 1) (hex "0600ffff0000010000000000000000010000162a008000000000012c00000000000000000000000000000000000000000000000000000000000000000000000000000000000000000000000000000000000000000000000000000000000000000000000000000000000000000000000000000000000000000000000000000000000000000000000000000000000000000000000000000000000000000000000000000000000000000000000000000000000000000000000000000000000000000000000000000000000000000000000000000000000000000000000000000000000000000000000000000000000000000000000000000000000000000000000000000000000000000000000000000000000000000000000000000000") ∷ [])
    ∷ entry 183 0 (events.Deliver (q 1 256) 3) (marks.Arrived (q 1 256) (Some 3) ∷ marks.Remote (q 1 256) (d 1 0) (Some 3) (k 8388608) kinds.Write 4294972970 300 (verdicts.Wrote (hex "00000000000000000000000000000000000000000000000000000000000000000000000000000000000000000000000000000000000000000000000000000000000000000000000000000000000000000000000000000000000000000000000000000000000000000000000000000000000000000000000000000000000000000000000000000000000000000000000000000000000000000000000000000000000000000000000000000000000000000000000000000000000000000000000000000000000000000000000000000000000000000000000000000000000000000000000000000000000000000000000000000000000000000000000000000000")) ∷ [])
    ∷ called 184 0 0 (verbs.Poll (s 0 0 0) 16 0) (answers.Polled ((completion (q 0 256) false 0 4 operations.Send statuses.Success 0 None None) ∷ (completion (q 0 256) true 0 1001 operations.Recv statuses.Success 300 (Some 3870635878) None) ∷ [])) []
    ∷ called 185 0 1 (verbs.PostSend (s 1 0 2) (request 940 true false false (ops.Read 4295019370 (k 8388609) (list ((piece 1 4294968377 600) ∷ []))))) (answers.Refused refusals.QueueState) []
    ∷ entry 186 0 (events.Request (q 0 256) lots.Lose) (marks.Local (q 0 256) (d 0 0) (k 1) kinds.Read 4295026515 44 (verdicts.Read (hex "0000000000000000000000000000000000000000000000000000000000000000000000000000000000000000")) ∷ marks.Sent (q 0 256) (q 1 256) (Some 4) (Some 1) (hex "0800ffff00000100800000010000000000000000000000000000000000000000000000000000000000000000000000000000000000000000") ∷ marks.Lost (q 1 256) (Some 4) ∷ [])
    ∷ called 187 0 0 (verbs.PostSend (s 0 0 0) (request 6 true false false (ops.Write 4294973271 (k 8388608) (list ((piece 1 4295003961 256) ∷ []))))) (answers.Posted None) []
    ∷ called 188 0 1 (verbs.PostRecv (s 1 0 2) (receive 1005 (list ([])))) (answers.Refused refusals.QueueState) []
    ∷ entry 189 0 (events.Request (q 0 256) lots.Pass) (marks.Local (q 0 256) (d 0 0) (k 1) kinds.Read 4295003961 256 (verdicts.Read (hex "00000000000000000000000000000000000000000000000000000000000000000000000000000000000000000000000000000000000000000000000000000000000000000000000000000000000000000000000000000000000000000000000000000000000000000000000000000000000000000000000000000000000000000000000000000000000000000000000000000000000000000000000000000000000000000000000000000000000000000000000000000000000000000000000000000000000000000000000000000000000000000000000000000000000000000000000000000000000000000000000000000000000000000000000000000000")) ∷ marks.Sent (q 0 256) (q 1 256) (Some 5) (Some 2) (hex "0a00ffff00000100800000020000000100001757008000000000010000000000000000000000000000000000000000000000000000000000000000000000000000000000000000000000000000000000000000000000000000000000000000000000000000000000000000000000000000000000000000000000000000000000000000000000000000000000000000000000000000000000000000000000000000000000000000000000000000000000000000000000000000000000000000000000000000000000000000000000000000000000000000000000000000000000000000000000000000000000000000000000000000000000000000000000000000000000000000000000000000000000000000000000000000000000") ∷ [])
    ∷ entry 190 0 (events.Deliver (q 1 256) 5) (marks.Arrived (q 1 256) (Some 5) ∷ [])
    ∷ entry 191 0 (events.Respond (q 1 256) lots.Pass) (marks.Sent (q 1 256) (q 0 256) (Some 5) None (hex "1100ffff000001000000000160000001") ∷ [])
    ∷ called 192 0 0 (verbs.PostSend (s 0 0 0) (request 7 true false false (ops.Bind1 0 (k 1) 4295015232 17500 (r false true false false false)))) (answers.Refused refusals.QueueFull) []
    ∷ called 193 0 1 (verbs.Poll (s 1 0 2) 16 0) (answers.Polled ([])) []
    ∷ entry 194 0 (events.Deliver (q 0 256) 5) (marks.Arrived (q 0 256) (Some 5) ∷ [])
    ∷ entry 195 0 (events.Request (q 0 256) (lots.Repeat 1)) (marks.Local (q 0 256) (d 0 0) (k 1) kinds.Read 4295026515 44 (verdicts.Read (hex "0000000000000000000000000000000000000000000000000000000000000000000000000000000000000000")) ∷ marks.Sent (q 0 256) (q 1 256) (Some 6) (Some 1) (hex "0800ffff00000100800000010000000000000000000000000000000000000000000000000000000000000000000000000000000000000000") ∷ [])
    ∷ entry 196 0 (events.Deliver (q 1 256) 6) (marks.Arrived (q 1 256) (Some 6) ∷ marks.Remote (q 1 256) (d 1 0) (Some 6) (k 8388608) kinds.Write 4294973226 44 (verdicts.Wrote (hex "0000000000000000000000000000000000000000000000000000000000000000000000000000000000000000")) ∷ [])
    ∷ entry 197 0 (events.Respond (q 1 256) lots.Pass) (marks.Sent (q 1 256) (q 0 256) (Some 6) None (hex "1100ffff00000100000000011f000002") ∷ [])
    ∷ called 198 0 0 (verbs.Poll (s 0 0 0) 16 0) (answers.Polled ([])) []
    ∷ entry 199 0 (events.Deliver (q 0 256) 6) (marks.Arrived (q 0 256) (Some 6) ∷ [])
    ∷ entry 200 0 (events.Request (q 0 256) lots.Pass) (marks.Local (q 0 256) (d 0 0) (k 1) kinds.Read 4295003961 256 (verdicts.Read (hex "00000000000000000000000000000000000000000000000000000000000000000000000000000000000000000000000000000000000000000000000000000000000000000000000000000000000000000000000000000000000000000000000000000000000000000000000000000000000000000000000000000000000000000000000000000000000000000000000000000000000000000000000000000000000000000000000000000000000000000000000000000000000000000000000000000000000000000000000000000000000000000000000000000000000000000000000000000000000000000000000000000000000000000000000000000000")) ∷ marks.Sent (q 0 256) (q 1 256) (Some 7) (Some 2) (hex "0a00ffff00000100800000020000000100001757008000000000010000000000000000000000000000000000000000000000000000000000000000000000000000000000000000000000000000000000000000000000000000000000000000000000000000000000000000000000000000000000000000000000000000000000000000000000000000000000000000000000000000000000000000000000000000000000000000000000000000000000000000000000000000000000000000000000000000000000000000000000000000000000000000000000000000000000000000000000000000000000000000000000000000000000000000000000000000000000000000000000000000000000000000000000000000000000") ∷ [])
    ∷ entry 201 0 (events.Deliver (q 1 256) 6) (marks.Arrived (q 1 256) (Some 6) ∷ [])
    ∷ entry 202 0 (events.Respond (q 1 256) lots.Pass) (marks.Sent (q 1 256) (q 0 256) (Some 7) None (hex "1100ffff00000100000000011f000002") ∷ [])
    ∷ called 203 0 0 (verbs.PostRecv (s 0 0 0) (receive 1008 (list ((piece 1 4295035778 4) ∷ [])))) (answers.Posted None) []
    ∷ entry 204 0 (events.Deliver (q 0 256) 7) (marks.Arrived (q 0 256) (Some 7) ∷ marks.Dropped (q 0 256) drops.Stale ∷ [])
    ∷ entry 205 0 (events.Deliver (q 1 256) 7) (marks.Arrived (q 1 256) (Some 7) ∷ marks.Remote (q 1 256) (d 1 0) (Some 7) (k 8388608) kinds.Write 4294973271 256 (verdicts.Denied denials.OutOfRange) ∷ marks.Done (q 1 256) (completion (q 1 256) true 1 1002 operations.Recv statuses.Flushed 0 None None) None ∷ marks.Done (q 1 256) (completion (q 1 256) true 2 1003 operations.Recv statuses.Flushed 0 None None) None ∷ marks.Done (q 1 256) (completion (q 1 256) true 3 1004 operations.Recv statuses.Flushed 0 None None) None ∷ marks.Done (q 1 256) (completion (q 1 256) true 4 1006 operations.Recv statuses.Flushed 0 None None) None ∷ [])
    ∷ entry 206 0 (events.Respond (q 1 256) lots.Pass) (marks.Sent (q 1 256) (q 0 256) (Some 8) None (hex "1100ffff000001000000000262000002") ∷ [])
    ∷ called 207 0 0 (verbs.PostSend (s 0 0 1) (request 2 true false false (ops.Write 4294971506 (k 8388864) (list ((piece 1 4295016694 1) ∷ []))))) (answers.Refused refusals.QueueState) []
    ∷ entry 208 0 (events.Deliver (q 0 256) 8) (marks.Arrived (q 0 256) (Some 8) ∷ marks.Done (q 0 256) (completion (q 0 256) false 2 6 operations.Write statuses.RemoteAccess 0 None None) None ∷ marks.Done (q 0 256) (completion (q 0 256) true 1 1002 operations.Recv statuses.Flushed 0 None None) None ∷ marks.Done (q 0 256) (completion (q 0 256) true 2 1008 operations.Recv statuses.Flushed 0 None None) None ∷ [])
    ∷ called 209 0 0 (verbs.PostRecv (s 0 0 1) (receive 1003 (list ([])))) (answers.Refused refusals.QueueState) []
    ∷ called 210 0 0 (verbs.Poll (s 0 0 2) 16 0) (answers.Polled ([])) []
    ∷ []

abbrev configuration : Configuration
configuration = record { adapters = adapter (70000 ∷ []) 4 8 8 4 2 4 ∷ adapter (16384 ∷ 1000 ∷ 70000 ∷ []) 4 8 8 4 2 4 ∷ []; events = 131072 }

the_run : outcome_of configuration (map (λ e. e.event) history) ≡ Ok (map (λ e. e.marks) history)
unfolding row_of be_bytes packet_bytes number_at bth_at front_at reth_from atomic_from aeth_from number_from payload_at payload_behind body_in packet_in
the_run = refl
