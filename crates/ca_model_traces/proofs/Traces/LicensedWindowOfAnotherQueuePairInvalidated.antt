-- Written by tools/check_traces from examples/traces/licensed-window-of-another-queue-pair-invalidated.trace.
-- The history of the trace, and what holds of it. For proofs only.
use Rattle.std.proofs.Common.{◌≡◌, List, [], ◌∷◌, true, false, None, Some, refl}
use Rattle.ca_base.specs.declared.change.Change.TheVariants as changes
use Rattle.ca_base.specs.declared.completion.WcOp.TheVariants as operations
use Rattle.ca_base.specs.declared.completion.WcStatus.TheVariants as statuses
use Rattle.ca_base.specs.declared.lot.Lot.TheVariants as lots
use Rattle.ca_base.specs.declared.request.SendOp.TheVariants as ops
use Rattle.ca_model.specs.declared.answer.Answer.TheVariants as answers
use Rattle.ca_model.specs.declared.event.Event.TheVariants as events
use Rattle.ca_model.specs.declared.mark.Mark.TheVariants as marks
use Rattle.ca_model.specs.declared.verb.Verb.TheVariants as verbs
use Rattle.ca_keys.specs.Memory.{zeros}
use Rattle.ca_wire.specs.Decoding.{number_at, bth_at, front_at, reth_from, atomic_from, aeth_from, number_from, payload_at, payload_behind, body_in, packet_in}
use Rattle.ca_wire.specs.Packet.{be_bytes, packet_bytes}
use Rattle.ca_wire.specs.Table.{row_of}
use Rattle.ca_model.specs.Entries.{EntryValue}
use Rattle.ca_model.specs.Judged.{is_judged_history}
use Rattle.ca_model.specs.Carried.{is_carried_history}
use Rattle.ca_model.specs.Once.{is_once_history}
use Rattle.ca_law_once.specs.Written.{is_written_history, is_written_once_history}
use Rattle.ca_model.specs.Ordered.{is_ordered_history}
use Rattle.ca_model.specs.Caused.{is_caused_history}
use Rattle.ca_model.specs.Licensed.{is_licensed_history}
use Rattle.ca_model.proofs.Literals.{d, s, q, k, r, run, request, completion, grant, entry}
use Rattle.ca_model_traces.proofs.Entries.{called}

abbrev history : List EntryValue
history =
    called 0 0 0 (verbs.AllocPd (d 0 0)) answers.Fine []
    ∷ called 1 0 0 (verbs.CreateCq (s 0 0 0) 8) answers.Fine []
    ∷ called 2 0 0 (verbs.CreateQp (s 0 0 0) 0 0 4 4 None) (answers.Queue 256 1) []
    ∷ called 3 0 0 (verbs.RegMr (s 0 0 0) 0 0 4096 (r true true true true true)) (answers.Key (k 1)) (marks.Granted (grant (k 1) (d 0 0) None true 4294967296 4096 (r true true true true true) ((run 0 0 0 4096) ∷ [])) ∷ [])
    ∷ called 4 0 0 (verbs.ModifyQp (s 0 0 0) changes.Init) answers.Fine []
    ∷ called 5 0 0 (verbs.ModifyQp (s 0 0 0) (changes.Rtr (q 1 256) 1 0 256 12)) answers.Fine []
    ∷ called 6 0 0 (verbs.ModifyQp (s 0 0 0) (changes.Rts 0 7 7 16)) answers.Fine []
    ∷ called 7 0 1 (verbs.AllocPd (d 1 0)) answers.Fine []
    ∷ called 8 0 1 (verbs.CreateCq (s 1 0 0) 8) answers.Fine []
    ∷ called 9 0 1 (verbs.CreateQp (s 1 0 0) 0 0 4 4 None) (answers.Queue 256 1) []
    ∷ called 10 0 1 (verbs.RegMr (s 1 0 0) 0 0 4096 (r true true true true true)) (answers.Key (k 1)) (marks.Granted (grant (k 1) (d 1 0) None true 4294967296 4096 (r true true true true true) ((run 1 0 0 4096) ∷ [])) ∷ [])
    ∷ called 11 0 1 (verbs.ModifyQp (s 1 0 0) changes.Init) answers.Fine []
    ∷ called 12 0 1 (verbs.ModifyQp (s 1 0 0) (changes.Rtr (q 0 256) 1 0 256 12)) answers.Fine []
    ∷ called 13 0 1 (verbs.ModifyQp (s 1 0 0) (changes.Rts 0 7 7 16)) answers.Fine []
    ∷ called 14 0 0 (verbs.CreateCq (s 0 0 1) 8) answers.Fine []
    ∷ called 15 0 0 (verbs.CreateQp (s 0 0 1) 1 1 4 4 None) (answers.Queue 257 1) []
    ∷ called 16 0 0 (verbs.ModifyQp (s 0 0 1) changes.Init) answers.Fine []
    ∷ called 17 0 0 (verbs.ModifyQp (s 0 0 1) (changes.Rtr (q 1 257) 1 0 256 12)) answers.Fine []
    ∷ called 18 0 0 (verbs.ModifyQp (s 0 0 1) (changes.Rts 0 7 7 16)) answers.Fine []
    ∷ called 19 0 1 (verbs.CreateCq (s 1 0 1) 8) answers.Fine []
    ∷ called 20 0 1 (verbs.CreateQp (s 1 0 1) 1 1 4 4 None) (answers.Queue 257 1) []
    ∷ called 21 0 1 (verbs.ModifyQp (s 1 0 1) changes.Init) answers.Fine []
    ∷ called 22 0 1 (verbs.ModifyQp (s 1 0 1) (changes.Rtr (q 0 257) 1 0 256 12)) answers.Fine []
    ∷ called 23 0 1 (verbs.ModifyQp (s 1 0 1) (changes.Rts 0 7 7 16)) answers.Fine []
    ∷ called 24 0 1 (verbs.AllocMw (s 1 0 0) 2) answers.Fine []
    ∷ called 25 0 1 (verbs.PostSend (s 1 0 0) (request 70 true false false (ops.Bind2 0 (k 1) 9 4294967296 64 (r false false true false false)))) (answers.Posted None) []
    ∷ entry 26 0 (events.Request (q 1 256) lots.Pass) (marks.Granted (grant (k 8388617) (d 1 0) (Some (q 1 256)) false 4294967296 64 (r false false true false false) ((run 1 0 0 64) ∷ [])) ∷ marks.Done (q 1 256) (completion (q 1 256) false 0 70 operations.Bind statuses.Success 0 None None) None ∷ [])
    ∷ called 27 0 1 (verbs.PostSend (s 1 0 1) (request 71 true false false (ops.LocalInv (k 8388617)))) (answers.Posted None) []
    ∷ entry 28 0 (events.Request (q 1 257) lots.Pass) (marks.Revoked 1 (k 8388617) ∷ marks.Done (q 1 257) (completion (q 1 257) false 0 71 operations.LocalInv statuses.Success 0 None None) None ∷ [])
    ∷ []

judged : is_judged_history zeros history ≡ true
unfolding row_of be_bytes packet_bytes number_at bth_at front_at reth_from atomic_from aeth_from number_from payload_at payload_behind body_in packet_in
judged = refl

carried : is_carried_history zeros history ≡ true
unfolding row_of be_bytes packet_bytes number_at bth_at front_at reth_from atomic_from aeth_from number_from payload_at payload_behind body_in packet_in
carried = refl

once : is_once_history zeros history ≡ true
unfolding row_of be_bytes packet_bytes number_at bth_at front_at reth_from atomic_from aeth_from number_from payload_at payload_behind body_in packet_in
once = refl

written : is_written_history zeros history ≡ true
unfolding row_of be_bytes packet_bytes number_at bth_at front_at reth_from atomic_from aeth_from number_from payload_at payload_behind body_in packet_in
written = refl

written_once : is_written_once_history zeros history ≡ true
unfolding row_of be_bytes packet_bytes number_at bth_at front_at reth_from atomic_from aeth_from number_from payload_at payload_behind body_in packet_in
written_once = refl

ordered : is_ordered_history zeros history ≡ true
unfolding row_of be_bytes packet_bytes number_at bth_at front_at reth_from atomic_from aeth_from number_from payload_at payload_behind body_in packet_in
ordered = refl

caused : is_caused_history zeros history ≡ true
unfolding row_of be_bytes packet_bytes number_at bth_at front_at reth_from atomic_from aeth_from number_from payload_at payload_behind body_in packet_in
caused = refl

licensed : is_licensed_history zeros history ≡ false
unfolding row_of be_bytes packet_bytes number_at bth_at front_at reth_from atomic_from aeth_from number_from payload_at payload_behind body_in packet_in
licensed = refl
