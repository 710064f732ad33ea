-- Written by tools/check_traces from examples/traces/carried-arrived-256-later.trace.
-- The history of the trace, and what holds of it. For proofs only.
use Rattle.std.proofs.Common.{◌≡◌, List, [], ◌∷◌, true, false, None, Some, refl}
use Rattle.ca_keys.specs.declared.access.Kind.TheVariants as kinds
use Rattle.ca_base.specs.declared.change.Change.TheVariants as changes
use Rattle.ca_base.specs.declared.lot.Lot.TheVariants as lots
use Rattle.ca_base.specs.declared.request.SendOp.TheVariants as ops
use Rattle.ca_keys.specs.declared.verdict.Verdict.TheVariants as verdicts
use Rattle.ca_model.specs.declared.answer.Answer.TheVariants as answers
use Rattle.ca_model.specs.declared.event.Event.TheVariants as events
use Rattle.ca_model.specs.declared.mark.Mark.TheVariants as marks
use Rattle.ca_model.specs.declared.verb.Verb.TheVariants as verbs
use Rattle.ca_keys.specs.Memory.{zeros}
use Rattle.ca_wire.specs.Decoding.{number_at, bth_at, front_at, reth_from, atomic_from, aeth_from, number_from, payload_at, payload_behind, body_in, packet_in}
use Rattle.ca_wire.specs.Packet.{be_bytes, packet_bytes}
use Rattle.ca_wire.specs.Table.{row_of}
use Rattle.ca_model.specs.Entries.{EntryValue}
use Rattle.ca_model.specs.Judged.{is_judged_history}
use Rattle.ca_model.specs.Licensed.{is_licensed_history}
use Rattle.ca_model.specs.Once.{is_once_history}
use Rattle.ca_law_once.specs.Written.{is_written_history, is_written_once_history}
use Rattle.ca_model.specs.Ordered.{is_ordered_history}
use Rattle.ca_model.specs.Caused.{is_caused_history}
use Rattle.ca_model.specs.Carried.{is_carried_history}
use Rattle.ca_model.proofs.Literals.{d, s, q, k, r, run, place, piece, list, request, grant, entry}
use Rattle.ca_model_traces.proofs.Entries.{called, hex}

abbrev history : List EntryValue
history =
    called 0 0 0 (verbs.AllocPd (d 0 0)) answers.Fine []
    ∷ called 1 0 1 (verbs.AllocPd (d 1 0)) answers.Fine []
    ∷ called 2 0 0 (verbs.CreateCq (s 0 0 0) 8) answers.Fine []
    ∷ called 3 0 1 (verbs.CreateCq (s 1 0 0) 8) answers.Fine []
    ∷ called 4 0 0 (verbs.CreateQp (s 0 0 0) 0 0 4 4 None) (answers.Queue 256 1) []
    ∷ called 5 0 1 (verbs.CreateQp (s 1 0 0) 0 0 4 4 None) (answers.Queue 256 1) []
    ∷ called 6 0 0 (verbs.RegMr (s 0 0 0) 0 0 4096 (r true true true true true)) (answers.Key (k 1)) (marks.Granted (grant (k 1) (d 0 0) None true 4294967296 4096 (r true true true true true) ((run 0 0 0 4096) ∷ [])) ∷ [])
    ∷ called 7 0 1 (verbs.RegMr (s 1 0 0) 0 0 4096 (r true true true true true)) (answers.Key (k 1)) (marks.Granted (grant (k 1) (d 1 0) None true 4294967296 4096 (r true true true true true) ((run 1 0 0 4096) ∷ [])) ∷ [])
    ∷ called 8 0 0 (verbs.ModifyQp (s 0 0 0) changes.Init) answers.Fine []
    ∷ called 9 0 1 (verbs.ModifyQp (s 1 0 0) changes.Init) answers.Fine []
    ∷ called 10 0 0 (verbs.ModifyQp (s 0 0 0) (changes.Rtr (q 1 256) 1 0 256 12)) answers.Fine []
    ∷ called 11 0 1 (verbs.ModifyQp (s 1 0 0) (changes.Rtr (q 0 256) 1 0 256 12)) answers.Fine []
    ∷ called 12 0 0 (verbs.ModifyQp (s 0 0 0) (changes.Rts 0 7 7 16)) answers.Fine []
    ∷ called 13 0 1 (verbs.ModifyQp (s 1 0 0) (changes.Rts 0 7 7 16)) answers.Fine []
    ∷ called 14 0 0 (verbs.Store 0 0 0 (hex "ab")) answers.Fine (marks.Stored (place 0 0 0) (hex "ab") ∷ [])
    ∷ called 15 0 0 (verbs.PostSend (s 0 0 0) (request 1 true false false (ops.Write 4294967296 (k 1) (list ((piece 1 4294967296 1) ∷ []))))) (answers.Posted None) []
    ∷ entry 16 0 (events.Request (q 0 256) lots.Pass) (marks.Local (q 0 256) (d 0 0) (k 1) kinds.Read 4294967296 1 (verdicts.Read (hex "ab")) ∷ marks.Sent (q 0 256) (q 1 256) (Some 0) (Some 0) (hex "0a30ffff000001008000000000000001000000000000000100000001ab000000") ∷ [])
    ∷ entry 17 0 (events.Deliver (q 1 256) 0) (marks.Arrived (q 1 256) (Some 0) ∷ marks.Remote (q 1 256) (d 1 0) (Some 0) (k 1) kinds.Write 4294967296 1 (verdicts.Wrote (hex "ab")) ∷ [])
    ∷ entry 18 0 (events.Respond (q 1 256) lots.Pass) (marks.Sent (q 1 256) (q 0 256) (Some 0) None (hex "1100ffff00000100000000001f000001") ∷ marks.Sent (q 1 256) (q 0 256) (Some 1) None (hex "1100ffff00000100000000001f000001") ∷ marks.Sent (q 1 256) (q 0 256) (Some 2) None (hex "1100ffff00000100000000001f000001") ∷ marks.Sent (q 1 256) (q 0 256) (Some 3) None (hex "1100ffff00000100000000001f000001") ∷ marks.Sent (q 1 256) (q 0 256) (Some 4) None (hex "1100ffff00000100000000001f000001") ∷ marks.Sent (q 1 256) (q 0 256) (Some 5) None (hex "1100ffff00000100000000001f000001") ∷ marks.Sent (q 1 256) (q 0 256) (Some 6) None (hex "1100ffff00000100000000001f000001") ∷ marks.Sent (q 1 256) (q 0 256) (Some 7) None (hex "1100ffff00000100000000001f000001") ∷ marks.Sent (q 1 256) (q 0 256) (Some 8) None (hex "1100ffff00000100000000001f000001") ∷ marks.Sent (q 1 256) (q 0 256) (Some 9) None (hex "1100ffff00000100000000001f000001") ∷ marks.Sent (q 1 256) (q 0 256) (Some 10) None (hex "1100ffff00000100000000001f000001") ∷ marks.Sent (q 1 256) (q 0 256) (Some 11) None (hex "1100ffff00000100000000001f000001") ∷ marks.Sent (q 1 256) (q 0 256) (Some 12) None (hex "1100ffff00000100000000001f000001") ∷ marks.Sent (q 1 256) (q 0 256) (Some 13) None (hex "1100ffff00000100000000001f000001") ∷ marks.Sent (q 1 256) (q 0 256) (Some 14) None (hex "1100ffff00000100000000001f000001") ∷ marks.Sent (q 1 256) (q 0 256) (Some 15) None (hex "1100ffff00000100000000001f000001") ∷ marks.Sent (q 1 256) (q 0 256) (Some 16) None (hex "1100ffff00000100000000001f000001") ∷ marks.Sent (q 1 256) (q 0 256) (Some 17) None (hex "1100ffff00000100000000001f000001") ∷ marks.Sent (q 1 256) (q 0 256) (Some 18) None (hex "1100ffff00000100000000001f000001") ∷ marks.Sent (q 1 256) (q 0 256) (Some 19) None (hex "1100ffff00000100000000001f000001") ∷ marks.Sent (q 1 256) (q 0 256) (Some 20) None (hex "1100ffff00000100000000001f000001") ∷ marks.Sent (q 1 256) (q 0 256) (Some 21) None (hex "1100ffff00000100000000001f000001") ∷ marks.Sent (q 1 256) (q 0 256) (Some 22) None (hex "1100ffff00000100000000001f000001") ∷ marks.Sent (q 1 256) (q 0 256) (Some 23) None (hex "1100ffff00000100000000001f000001") ∷ marks.Sent (q 1 256) (q 0 256) (Some 24) None (hex "1100ffff00000100000000001f000001") ∷ marks.Sent (q 1 256) (q 0 256) (Some 25) None (hex "1100ffff00000100000000001f000001") ∷ marks.Sent (q 1 256) (q 0 256) (Some 26) None (hex "1100ffff00000100000000001f000001") ∷ marks.Sent (q 1 256) (q 0 256) (Some 27) None (hex "1100ffff00000100000000001f000001") ∷ marks.Sent (q 1 256) (q 0 256) (Some 28) None (hex "1100ffff00000100000000001f000001") ∷ marks.Sent (q 1 256) (q 0 256) (Some 29) None (hex "1100ffff00000100000000001f000001") ∷ marks.Sent (q 1 256) (q 0 256) (Some 30) None (hex "1100ffff00000100000000001f000001") ∷ marks.Sent (q 1 256) (q 0 256) (Some 31) None (hex "1100ffff00000100000000001f000001") ∷ marks.Sent (q 1 256) (q 0 256) (Some 32) None (hex "1100ffff00000100000000001f000001") ∷ marks.Sent (q 1 256) (q 0 256) (Some 33) None (hex "1100ffff00000100000000001f000001") ∷ marks.Sent (q 1 256) (q 0 256) (Some 34) None (hex "1100ffff00000100000000001f000001") ∷ marks.Sent (q 1 256) (q 0 256) (Some 35) None (hex "1100ffff00000100000000001f000001") ∷ marks.Sent (q 1 256) (q 0 256) (Some 36) None (hex "1100ffff00000100000000001f000001") ∷ marks.Sent (q 1 256) (q 0 256) (Some 37) None (hex "1100ffff00000100000000001f000001") ∷ marks.Sent (q 1 256) (q 0 256) (Some 38) None (hex "1100ffff00000100000000001f000001") ∷ marks.Sent (q 1 256) (q 0 256) (Some 39) None (hex "1100ffff00000100000000001f000001") ∷ marks.Sent (q 1 256) (q 0 256) (Some 40) None (hex "1100ffff00000100000000001f000001") ∷ marks.Sent (q 1 256) (q 0 256) (Some 41) None (hex "1100ffff00000100000000001f000001") ∷ marks.Sent (q 1 256) (q 0 256) (Some 42) None (hex "1100ffff00000100000000001f000001") ∷ marks.Sent (q 1 256) (q 0 256) (Some 43) None (hex "1100ffff00000100000000001f000001") ∷ marks.Sent (q 1 256) (q 0 256) (Some 44) None (hex "1100ffff00000100000000001f000001") ∷ marks.Sent (q 1 256) (q 0 256) (Some 45) None (hex "1100ffff00000100000000001f000001") ∷ marks.Sent (q 1 256) (q 0 256) (Some 46) None (hex "1100ffff00000100000000001f000001") ∷ marks.Sent (q 1 256) (q 0 256) (Some 47) None (hex "1100ffff00000100000000001f000001") ∷ marks.Sent (q 1 256) (q 0 256) (Some 48) None (hex "1100ffff00000100000000001f000001") ∷ marks.Sent (q 1 256) (q 0 256) (Some 49) None (hex "1100ffff00000100000000001f000001") ∷ marks.Sent (q 1 256) (q 0 256) (Some 50) None (hex "1100ffff00000100000000001f000001") ∷ marks.Sent (q 1 256) (q 0 256) (Some 51) None (hex "1100ffff00000100000000001f000001") ∷ marks.Sent (q 1 256) (q 0 256) (Some 52) None (hex "1100ffff00000100000000001f000001") ∷ marks.Sent (q 1 256) (q 0 256) (Some 53) None (hex "1100ffff00000100000000001f000001") ∷ marks.Sent (q 1 256) (q 0 256) (Some 54) None (hex "1100ffff00000100000000001f000001") ∷ marks.Sent (q 1 256) (q 0 256) (Some 55) None (hex "1100ffff00000100000000001f000001") ∷ marks.Sent (q 1 256) (q 0 256) (Some 56) None (hex "1100ffff00000100000000001f000001") ∷ marks.Sent (q 1 256) (q 0 256) (Some 57) None (hex "1100ffff00000100000000001f000001") ∷ marks.Sent (q 1 256) (q 0 256) (Some 58) None (hex "1100ffff00000100000000001f000001") ∷ marks.Sent (q 1 256) (q 0 256) (Some 59) None (hex "1100ffff00000100000000001f000001") ∷ marks.Sent (q 1 256) (q 0 256) (Some 60) None (hex "1100ffff00000100000000001f000001") ∷ marks.Sent (q 1 256) (q 0 256) (Some 61) None (hex "1100ffff00000100000000001f000001") ∷ marks.Sent (q 1 256) (q 0 256) (Some 62) None (hex "1100ffff00000100000000001f000001") ∷ marks.Sent (q 1 256) (q 0 256) (Some 63) None (hex "1100ffff00000100000000001f000001") ∷ marks.Sent (q 1 256) (q 0 256) (Some 64) None (hex "1100ffff00000100000000001f000001") ∷ marks.Sent (q 1 256) (q 0 256) (Some 65) None (hex "1100ffff00000100000000001f000001") ∷ marks.Sent (q 1 256) (q 0 256) (Some 66) None (hex "1100ffff00000100000000001f000001") ∷ marks.Sent (q 1 256) (q 0 256) (Some 67) None (hex "1100ffff00000100000000001f000001") ∷ marks.Sent (q 1 256) (q 0 256) (Some 68) None (hex "1100ffff00000100000000001f000001") ∷ marks.Sent (q 1 256) (q 0 256) (Some 69) None (hex "1100ffff00000100000000001f000001") ∷ marks.Sent (q 1 256) (q 0 256) (Some 70) None (hex "1100ffff00000100000000001f000001") ∷ marks.Sent (q 1 256) (q 0 256) (Some 71) None (hex "1100ffff00000100000000001f000001") ∷ marks.Sent (q 1 256) (q 0 256) (Some 72) None (hex "1100ffff00000100000000001f000001") ∷ marks.Sent (q 1 256) (q 0 256) (Some 73) None (hex "1100ffff00000100000000001f000001") ∷ marks.Sent (q 1 256) (q 0 256) (Some 74) None (hex "1100ffff00000100000000001f000001") ∷ marks.Sent (q 1 256) (q 0 256) (Some 75) None (hex "1100ffff00000100000000001f000001") ∷ marks.Sent (q 1 256) (q 0 256) (Some 76) None (hex "1100ffff00000100000000001f000001") ∷ marks.Sent (q 1 256) (q 0 256) (Some 77) None (hex "1100ffff00000100000000001f000001") ∷ marks.Sent (q 1 256) (q 0 256) (Some 78) None (hex "1100ffff00000100000000001f000001") ∷ marks.Sent (q 1 256) (q 0 256) (Some 79) None (hex "1100ffff00000100000000001f000001") ∷ marks.Sent (q 1 256) (q 0 256) (Some 80) None (hex "1100ffff00000100000000001f000001") ∷ marks.Sent (q 1 256) (q 0 256) (Some 81) None (hex "1100ffff00000100000000001f000001") ∷ marks.Sent (q 1 256) (q 0 256) (Some 82) None (hex "1100ffff00000100000000001f000001") ∷ marks.Sent (q 1 256) (q 0 256) (Some 83) None (hex "1100ffff00000100000000001f000001") ∷ marks.Sent (q 1 256) (q 0 256) (Some 84) None (hex "1100ffff00000100000000001f000001") ∷ marks.Sent (q 1 256) (q 0 256) (Some 85) None (hex "1100ffff00000100000000001f000001") ∷ marks.Sent (q 1 256) (q 0 256) (Some 86) None (hex "1100ffff00000100000000001f000001") ∷ marks.Sent (q 1 256) (q 0 256) (Some 87) None (hex "1100ffff00000100000000001f000001") ∷ marks.Sent (q 1 256) (q 0 256) (Some 88) None (hex "1100ffff00000100000000001f000001") ∷ marks.Sent (q 1 256) (q 0 256) (Some 89) None (hex "1100ffff00000100000000001f000001") ∷ marks.Sent (q 1 256) (q 0 256) (Some 90) None (hex "1100ffff00000100000000001f000001") ∷ marks.Sent (q 1 256) (q 0 256) (Some 91) None (hex "1100ffff00000100000000001f000001") ∷ marks.Sent (q 1 256) (q 0 256) (Some 92) None (hex "1100ffff00000100000000001f000001") ∷ marks.Sent (q 1 256) (q 0 256) (Some 93) None (hex "1100ffff00000100000000001f000001") ∷ marks.Sent (q 1 256) (q 0 256) (Some 94) None (hex "1100ffff00000100000000001f000001") ∷ marks.Sent (q 1 256) (q 0 256) (Some 95) None (hex "1100ffff00000100000000001f000001") ∷ marks.Sent (q 1 256) (q 0 256) (Some 96) None (hex "1100ffff00000100000000001f000001") ∷ marks.Sent (q 1 256) (q 0 256) (Some 97) None (hex "1100ffff00000100000000001f000001") ∷ marks.Sent (q 1 256) (q 0 256) (Some 98) None (hex "1100ffff00000100000000001f000001") ∷ marks.Sent (q 1 256) (q 0 256) (Some 99) None (hex "1100ffff00000100000000001f000001") ∷ marks.Sent (q 1 256) (q 0 256) (Some 100) None (hex "1100ffff00000100000000001f000001") ∷ marks.Sent (q 1 256) (q 0 256) (Some 101) None (hex "1100ffff00000100000000001f000001") ∷ marks.Sent (q 1 256) (q 0 256) (Some 102) None (hex "1100ffff00000100000000001f000001") ∷ marks.Sent (q 1 256) (q 0 256) (Some 103) None (hex "1100ffff00000100000000001f000001") ∷ marks.Sent (q 1 256) (q 0 256) (Some 104) None (hex "1100ffff00000100000000001f000001") ∷ marks.Sent (q 1 256) (q 0 256) (Some 105) None (hex "1100ffff00000100000000001f000001") ∷ marks.Sent (q 1 256) (q 0 256) (Some 106) None (hex "1100ffff00000100000000001f000001") ∷ marks.Sent (q 1 256) (q 0 256) (Some 107) None (hex "1100ffff00000100000000001f000001") ∷ marks.Sent (q 1 256) (q 0 256) (Some 108) None (hex "1100ffff00000100000000001f000001") ∷ marks.Sent (q 1 256) (q 0 256) (Some 109) None (hex "1100ffff00000100000000001f000001") ∷ marks.Sent (q 1 256) (q 0 256) (Some 110) None (hex "1100ffff00000100000000001f000001") ∷ marks.Sent (q 1 256) (q 0 256) (Some 111) None (hex "1100ffff00000100000000001f000001") ∷ marks.Sent (q 1 256) (q 0 256) (Some 112) None (hex "1100ffff00000100000000001f000001") ∷ marks.Sent (q 1 256) (q 0 256) (Some 113) None (hex "1100ffff00000100000000001f000001") ∷ marks.Sent (q 1 256) (q 0 256) (Some 114) None (hex "1100ffff00000100000000001f000001") ∷ marks.Sent (q 1 256) (q 0 256) (Some 115) None (hex "1100ffff00000100000000001f000001") ∷ marks.Sent (q 1 256) (q 0 256) (Some 116) None (hex "1100ffff00000100000000001f000001") ∷ marks.Sent (q 1 256) (q 0 256) (Some 117) None (hex "1100ffff00000100000000001f000001") ∷ marks.Sent (q 1 256) (q 0 256) (Some 118) None (hex "1100ffff00000100000000001f000001") ∷ marks.Sent (q 1 256) (q 0 256) (Some 119) None (hex "1100ffff00000100000000001f000001") ∷ marks.Sent (q 1 256) (q 0 256) (Some 120) None (hex "1100ffff00000100000000001f000001") ∷ marks.Sent (q 1 256) (q 0 256) (Some 121) None (hex "1100ffff00000100000000001f000001") ∷ marks.Sent (q 1 256) (q 0 256) (Some 122) None (hex "1100ffff00000100000000001f000001") ∷ marks.Sent (q 1 256) (q 0 256) (Some 123) None (hex "1100ffff00000100000000001f000001") ∷ marks.Sent (q 1 256) (q 0 256) (Some 124) None (hex "1100ffff00000100000000001f000001") ∷ marks.Sent (q 1 256) (q 0 256) (Some 125) None (hex "1100ffff00000100000000001f000001") ∷ marks.Sent (q 1 256) (q 0 256) (Some 126) None (hex "1100ffff00000100000000001f000001") ∷ marks.Sent (q 1 256) (q 0 256) (Some 127) None (hex "1100ffff00000100000000001f000001") ∷ marks.Sent (q 1 256) (q 0 256) (Some 128) None (hex "1100ffff00000100000000001f000001") ∷ marks.Sent (q 1 256) (q 0 256) (Some 129) None (hex "1100ffff00000100000000001f000001") ∷ marks.Sent (q 1 256) (q 0 256) (Some 130) None (hex "1100ffff00000100000000001f000001") ∷ marks.Sent (q 1 256) (q 0 256) (Some 131) None (hex "1100ffff00000100000000001f000001") ∷ marks.Sent (q 1 256) (q 0 256) (Some 132) None (hex "1100ffff00000100000000001f000001") ∷ marks.Sent (q 1 256) (q 0 256) (Some 133) None (hex "1100ffff00000100000000001f000001") ∷ marks.Sent (q 1 256) (q 0 256) (Some 134) None (hex "1100ffff00000100000000001f000001") ∷ marks.Sent (q 1 256) (q 0 256) (Some 135) None (hex "1100ffff00000100000000001f000001") ∷ marks.Sent (q 1 256) (q 0 256) (Some 136) None (hex "1100ffff00000100000000001f000001") ∷ marks.Sent (q 1 256) (q 0 256) (Some 137) None (hex "1100ffff00000100000000001f000001") ∷ marks.Sent (q 1 256) (q 0 256) (Some 138) None (hex "1100ffff00000100000000001f000001") ∷ marks.Sent (q 1 256) (q 0 256) (Some 139) None (hex "1100ffff00000100000000001f000001") ∷ marks.Sent (q 1 256) (q 0 256) (Some 140) None (hex "1100ffff00000100000000001f000001") ∷ marks.Sent (q 1 256) (q 0 256) (Some 141) None (hex "1100ffff00000100000000001f000001") ∷ marks.Sent (q 1 256) (q 0 256) (Some 142) None (hex "1100ffff00000100000000001f000001") ∷ marks.Sent (q 1 256) (q 0 256) (Some 143) None (hex "1100ffff00000100000000001f000001") ∷ marks.Sent (q 1 256) (q 0 256) (Some 144) None (hex "1100ffff00000100000000001f000001") ∷ marks.Sent (q 1 256) (q 0 256) (Some 145) None (hex "1100ffff00000100000000001f000001") ∷ marks.Sent (q 1 256) (q 0 256) (Some 146) None (hex "1100ffff00000100000000001f000001") ∷ marks.Sent (q 1 256) (q 0 256) (Some 147) None (hex "1100ffff00000100000000001f000001") ∷ marks.Sent (q 1 256) (q 0 256) (Some 148) None (hex "1100ffff00000100000000001f000001") ∷ marks.Sent (q 1 256) (q 0 256) (Some 149) None (hex "1100ffff00000100000000001f000001") ∷ marks.Sent (q 1 256) (q 0 256) (Some 150) None (hex "1100ffff00000100000000001f000001") ∷ marks.Sent (q 1 256) (q 0 256) (Some 151) None (hex "1100ffff00000100000000001f000001") ∷ marks.Sent (q 1 256) (q 0 256) (Some 152) None (hex "1100ffff00000100000000001f000001") ∷ marks.Sent (q 1 256) (q 0 256) (Some 153) None (hex "1100ffff00000100000000001f000001") ∷ marks.Sent (q 1 256) (q 0 256) (Some 154) None (hex "1100ffff00000100000000001f000001") ∷ marks.Sent (q 1 256) (q 0 256) (Some 155) None (hex "1100ffff00000100000000001f000001") ∷ marks.Sent (q 1 256) (q 0 256) (Some 156) None (hex "1100ffff00000100000000001f000001") ∷ marks.Sent (q 1 256) (q 0 256) (Some 157) None (hex "1100ffff00000100000000001f000001") ∷ marks.Sent (q 1 256) (q 0 256) (Some 158) None (hex "1100ffff00000100000000001f000001") ∷ marks.Sent (q 1 256) (q 0 256) (Some 159) None (hex "1100ffff00000100000000001f000001") ∷ marks.Sent (q 1 256) (q 0 256) (Some 160) None (hex "1100ffff00000100000000001f000001") ∷ marks.Sent (q 1 256) (q 0 256) (Some 161) None (hex "1100ffff00000100000000001f000001") ∷ marks.Sent (q 1 256) (q 0 256) (Some 162) None (hex "1100ffff00000100000000001f000001") ∷ marks.Sent (q 1 256) (q 0 256) (Some 163) None (hex "1100ffff00000100000000001f000001") ∷ marks.Sent (q 1 256) (q 0 256) (Some 164) None (hex "1100ffff00000100000000001f000001") ∷ marks.Sent (q 1 256) (q 0 256) (Some 165) None (hex "1100ffff00000100000000001f000001") ∷ marks.Sent (q 1 256) (q 0 256) (Some 166) None (hex "1100ffff00000100000000001f000001") ∷ marks.Sent (q 1 256) (q 0 256) (Some 167) None (hex "1100ffff00000100000000001f000001") ∷ marks.Sent (q 1 256) (q 0 256) (Some 168) None (hex "1100ffff00000100000000001f000001") ∷ marks.Sent (q 1 256) (q 0 256) (Some 169) None (hex "1100ffff00000100000000001f000001") ∷ marks.Sent (q 1 256) (q 0 256) (Some 170) None (hex "1100ffff00000100000000001f000001") ∷ marks.Sent (q 1 256) (q 0 256) (Some 171) None (hex "1100ffff00000100000000001f000001") ∷ marks.Sent (q 1 256) (q 0 256) (Some 172) None (hex "1100ffff00000100000000001f000001") ∷ marks.Sent (q 1 256) (q 0 256) (Some 173) None (hex "1100ffff00000100000000001f000001") ∷ marks.Sent (q 1 256) (q 0 256) (Some 174) None (hex "1100ffff00000100000000001f000001") ∷ marks.Sent (q 1 256) (q 0 256) (Some 175) None (hex "1100ffff00000100000000001f000001") ∷ marks.Sent (q 1 256) (q 0 256) (Some 176) None (hex "1100ffff00000100000000001f000001") ∷ marks.Sent (q 1 256) (q 0 256) (Some 177) None (hex "1100ffff00000100000000001f000001") ∷ marks.Sent (q 1 256) (q 0 256) (Some 178) None (hex "1100ffff00000100000000001f000001") ∷ marks.Sent (q 1 256) (q 0 256) (Some 179) None (hex "1100ffff00000100000000001f000001") ∷ marks.Sent (q 1 256) (q 0 256) (Some 180) None (hex "1100ffff00000100000000001f000001") ∷ marks.Sent (q 1 256) (q 0 256) (Some 181) None (hex "1100ffff00000100000000001f000001") ∷ marks.Sent (q 1 256) (q 0 256) (Some 182) None (hex "1100ffff00000100000000001f000001") ∷ marks.Sent (q 1 256) (q 0 256) (Some 183) None (hex "1100ffff00000100000000001f000001") ∷ marks.Sent (q 1 256) (q 0 256) (Some 184) None (hex "1100ffff00000100000000001f000001") ∷ marks.Sent (q 1 256) (q 0 256) (Some 185) None (hex "1100ffff00000100000000001f000001") ∷ marks.Sent (q 1 256) (q 0 256) (Some 186) None (hex "1100ffff00000100000000001f000001") ∷ marks.Sent (q 1 256) (q 0 256) (Some 187) None (hex "1100ffff00000100000000001f000001") ∷ marks.Sent (q 1 256) (q 0 256) (Some 188) None (hex "1100ffff00000100000000001f000001") ∷ marks.Sent (q 1 256) (q 0 256) (Some 189) None (hex "1100ffff00000100000000001f000001") ∷ marks.Sent (q 1 256) (q 0 256) (Some 190) None (hex "1100ffff00000100000000001f000001") ∷ marks.Sent (q 1 256) (q 0 256) (Some 191) None (hex "1100ffff00000100000000001f000001") ∷ marks.Sent (q 1 256) (q 0 256) (Some 192) None (hex "1100ffff00000100000000001f000001") ∷ marks.Sent (q 1 256) (q 0 256) (Some 193) None (hex "1100ffff00000100000000001f000001") ∷ marks.Sent (q 1 256) (q 0 256) (Some 194) None (hex "1100ffff00000100000000001f000001") ∷ marks.Sent (q 1 256) (q 0 256) (Some 195) None (hex "1100ffff00000100000000001f000001") ∷ marks.Sent (q 1 256) (q 0 256) (Some 196) None (hex "1100ffff00000100000000001f000001") ∷ marks.Sent (q 1 256) (q 0 256) (Some 197) None (hex "1100ffff00000100000000001f000001") ∷ marks.Sent (q 1 256) (q 0 256) (Some 198) None (hex "1100ffff00000100000000001f000001") ∷ marks.Sent (q 1 256) (q 0 256) (Some 199) None (hex "1100ffff00000100000000001f000001") ∷ marks.Sent (q 1 256) (q 0 256) (Some 200) None (hex "1100ffff00000100000000001f000001") ∷ marks.Sent (q 1 256) (q 0 256) (Some 201) None (hex "1100ffff00000100000000001f000001") ∷ marks.Sent (q 1 256) (q 0 256) (Some 202) None (hex "1100ffff00000100000000001f000001") ∷ marks.Sent (q 1 256) (q 0 256) (Some 203) None (hex "1100ffff00000100000000001f000001") ∷ marks.Sent (q 1 256) (q 0 256) (Some 204) None (hex "1100ffff00000100000000001f000001") ∷ marks.Sent (q 1 256) (q 0 256) (Some 205) None (hex "1100ffff00000100000000001f000001") ∷ marks.Sent (q 1 256) (q 0 256) (Some 206) None (hex "1100ffff00000100000000001f000001") ∷ marks.Sent (q 1 256) (q 0 256) (Some 207) None (hex "1100ffff00000100000000001f000001") ∷ marks.Sent (q 1 256) (q 0 256) (Some 208) None (hex "1100ffff00000100000000001f000001") ∷ marks.Sent (q 1 256) (q 0 256) (Some 209) None (hex "1100ffff00000100000000001f000001") ∷ marks.Sent (q 1 256) (q 0 256) (Some 210) None (hex "1100ffff00000100000000001f000001") ∷ marks.Sent (q 1 256) (q 0 256) (Some 211) None (hex "1100ffff00000100000000001f000001") ∷ marks.Sent (q 1 256) (q 0 256) (Some 212) None (hex "1100ffff00000100000000001f000001") ∷ marks.Sent (q 1 256) (q 0 256) (Some 213) None (hex "1100ffff00000100000000001f000001") ∷ marks.Sent (q 1 256) (q 0 256) (Some 214) None (hex "1100ffff00000100000000001f000001") ∷ marks.Sent (q 1 256) (q 0 256) (Some 215) None (hex "1100ffff00000100000000001f000001") ∷ marks.Sent (q 1 256) (q 0 256) (Some 216) None (hex "1100ffff00000100000000001f000001") ∷ marks.Sent (q 1 256) (q 0 256) (Some 217) None (hex "1100ffff00000100000000001f000001") ∷ marks.Sent (q 1 256) (q 0 256) (Some 218) None (hex "1100ffff00000100000000001f000001") ∷ marks.Sent (q 1 256) (q 0 256) (Some 219) None (hex "1100ffff00000100000000001f000001") ∷ marks.Sent (q 1 256) (q 0 256) (Some 220) None (hex "1100ffff00000100000000001f000001") ∷ marks.Sent (q 1 256) (q 0 256) (Some 221) None (hex "1100ffff00000100000000001f000001") ∷ marks.Sent (q 1 256) (q 0 256) (Some 222) None (hex "1100ffff00000100000000001f000001") ∷ marks.Sent (q 1 256) (q 0 256) (Some 223) None (hex "1100ffff00000100000000001f000001") ∷ marks.Sent (q 1 256) (q 0 256) (Some 224) None (hex "1100ffff00000100000000001f000001") ∷ marks.Sent (q 1 256) (q 0 256) (Some 225) None (hex "1100ffff00000100000000001f000001") ∷ marks.Sent (q 1 256) (q 0 256) (Some 226) None (hex "1100ffff00000100000000001f000001") ∷ marks.Sent (q 1 256) (q 0 256) (Some 227) None (hex "1100ffff00000100000000001f000001") ∷ marks.Sent (q 1 256) (q 0 256) (Some 228) None (hex "1100ffff00000100000000001f000001") ∷ marks.Sent (q 1 256) (q 0 256) (Some 229) None (hex "1100ffff00000100000000001f000001") ∷ marks.Sent (q 1 256) (q 0 256) (Some 230) None (hex "1100ffff00000100000000001f000001") ∷ marks.Sent (q 1 256) (q 0 256) (Some 231) None (hex "1100ffff00000100000000001f000001") ∷ marks.Sent (q 1 256) (q 0 256) (Some 232) None (hex "1100ffff00000100000000001f000001") ∷ marks.Sent (q 1 256) (q 0 256) (Some 233) None (hex "1100ffff00000100000000001f000001") ∷ marks.Sent (q 1 256) (q 0 256) (Some 234) None (hex "1100ffff00000100000000001f000001") ∷ marks.Sent (q 1 256) (q 0 256) (Some 235) None (hex "1100ffff00000100000000001f000001") ∷ marks.Sent (q 1 256) (q 0 256) (Some 236) None (hex "1100ffff00000100000000001f000001") ∷ marks.Sent (q 1 256) (q 0 256) (Some 237) None (hex "1100ffff00000100000000001f000001") ∷ marks.Sent (q 1 256) (q 0 256) (Some 238) None (hex "1100ffff00000100000000001f000001") ∷ marks.Sent (q 1 256) (q 0 256) (Some 239) None (hex "1100ffff00000100000000001f000001") ∷ marks.Sent (q 1 256) (q 0 256) (Some 240) None (hex "1100ffff00000100000000001f000001") ∷ marks.Sent (q 1 256) (q 0 256) (Some 241) None (hex "1100ffff00000100000000001f000001") ∷ marks.Sent (q 1 256) (q 0 256) (Some 242) None (hex "1100ffff00000100000000001f000001") ∷ marks.Sent (q 1 256) (q 0 256) (Some 243) None (hex "1100ffff00000100000000001f000001") ∷ marks.Sent (q 1 256) (q 0 256) (Some 244) None (hex "1100ffff00000100000000001f000001") ∷ marks.Sent (q 1 256) (q 0 256) (Some 245) None (hex "1100ffff00000100000000001f000001") ∷ marks.Sent (q 1 256) (q 0 256) (Some 246) None (hex "1100ffff00000100000000001f000001") ∷ marks.Sent (q 1 256) (q 0 256) (Some 247) None (hex "1100ffff00000100000000001f000001") ∷ marks.Sent (q 1 256) (q 0 256) (Some 248) None (hex "1100ffff00000100000000001f000001") ∷ marks.Sent (q 1 256) (q 0 256) (Some 249) None (hex "1100ffff00000100000000001f000001") ∷ marks.Sent (q 1 256) (q 0 256) (Some 250) None (hex "1100ffff00000100000000001f000001") ∷ marks.Sent (q 1 256) (q 0 256) (Some 251) None (hex "1100ffff00000100000000001f000001") ∷ marks.Sent (q 1 256) (q 0 256) (Some 252) None (hex "1100ffff00000100000000001f000001") ∷ marks.Sent (q 1 256) (q 0 256) (Some 253) None (hex "1100ffff00000100000000001f000001") ∷ marks.Sent (q 1 256) (q 0 256) (Some 254) None (hex "1100ffff00000100000000001f000001") ∷ marks.Sent (q 1 256) (q 0 256) (Some 255) None (hex "1100ffff00000100000000001f000001") ∷ marks.Sent (q 1 256) (q 0 256) (Some 256) None (hex "1100ffff00000100000000001f000001") ∷ [])
    ∷ entry 19 0 (events.Deliver (q 0 256) 0) (marks.Arrived (q 0 256) (Some 0) ∷ [])
    ∷ []

judged : is_judged_history zeros history ≡ true
unfolding row_of be_bytes packet_bytes number_at bth_at front_at reth_from atomic_from aeth_from number_from payload_at payload_behind body_in packet_in
judged = refl

licensed : is_licensed_history zeros history ≡ true
unfolding row_of be_bytes packet_bytes number_at bth_at front_at reth_from atomic_from aeth_from number_from payload_at payload_behind body_in packet_in
licensed = refl

once : is_once_history zeros history ≡ true
unfolding row_of be_bytes packet_bytes number_at bth_at front_at reth_from atomic_from aeth_from number_from payload_at payload_behind body_in packet_in
once = refl

written : is_written_history zeros history ≡ true
unfolding row_of be_bytes packet_bytes number_at bth_at front_at reth_from atomic_from aeth_from number_from payload_at payload_behind body_in packet_in
written = refl

written_once : is_written_once_history zeros history ≡ true
unfolding row_of be_bytes packet_bytes number_at bth_at front_at reth_from atomic_from aeth_from number_from payload_at payload_behind body_in packet_in
written_once = refl

ordered : is_ordered_history zeros history ≡ true
unfolding row_of be_bytes packet_bytes number_at bth_at front_at reth_from atomic_from aeth_from number_from payload_at payload_behind body_in packet_in
ordered = refl

caused : is_caused_history zeros history ≡ true
unfolding row_of be_bytes packet_bytes number_at bth_at front_at reth_from atomic_from aeth_from number_from payload_at payload_behind body_in packet_in
caused = refl

carried : is_carried_history zeros history ≡ false
unfolding row_of be_bytes packet_bytes number_at bth_at front_at reth_from atomic_from aeth_from number_from payload_at payload_behind body_in packet_in
carried = refl
