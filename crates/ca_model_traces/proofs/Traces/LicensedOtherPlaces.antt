-- Written by tools/check_traces from examples/traces/licensed-other-places.trace.
-- The history of the trace, and what holds of it. For proofs only.
use Rattle.std.proofs.Common.{◌≡◌, List, [], ◌∷◌, true, false, None, refl}
use Rattle.ca_model.specs.declared.answer.Answer.TheVariants as answers
use Rattle.ca_model.specs.declared.mark.Mark.TheVariants as marks
use Rattle.ca_model.specs.declared.verb.Verb.TheVariants as verbs
use Rattle.ca_keys.specs.Memory.{zeros}
use Rattle.ca_wire.specs.Decoding.{number_at, bth_at, front_at, reth_from, atomic_from, aeth_from, number_from, payload_at, payload_behind, body_in, packet_in}
use Rattle.ca_wire.specs.Packet.{be_bytes, packet_bytes}
use Rattle.ca_wire.specs.Table.{row_of}
use Rattle.ca_model.specs.Entries.{EntryValue}
use Rattle.ca_model.specs.Judged.{is_judged_history}
use Rattle.ca_model.specs.Carried.{is_carried_history}
use Rattle.ca_model.specs.Once.{is_once_history}
use Rattle.ca_law_once.specs.Written.{is_written_history, is_written_once_history}
use Rattle.ca_model.specs.Ordered.{is_ordered_history}
use Rattle.ca_model.specs.Caused.{is_caused_history}
use Rattle.ca_model.specs.Licensed.{is_licensed_history}
use Rattle.ca_model.proofs.Literals.{d, s, k, r, run, grant}
use Rattle.ca_model_traces.proofs.Entries.{called}

abbrev history : List EntryValue
history =
    called 0 0 0 (verbs.AllocPd (d 0 0)) answers.Fine []
    ∷ called 1 0 0 (verbs.RegMr (s 0 0 0) 0 4095 1 (r true false true false false)) (answers.Key (k 1)) (marks.Granted (grant (k 1) (d 0 0) None true 4294971391 1 (r true false true false false) ((run 0 0 4094 1) ∷ [])) ∷ [])
    ∷ []

judged : is_judged_history zeros history ≡ true
unfolding row_of be_bytes packet_bytes number_at bth_at front_at reth_from atomic_from aeth_from number_from payload_at payload_behind body_in packet_in
judged = refl

carried : is_carried_history zeros history ≡ true
unfolding row_of be_bytes packet_bytes number_at bth_at front_at reth_from atomic_from aeth_from number_from payload_at payload_behind body_in packet_in
carried = refl

once : is_once_history zeros history ≡ true
unfolding row_of be_bytes packet_bytes number_at bth_at front_at reth_from atomic_from aeth_from number_from payload_at payload_behind body_in packet_in
once = refl

written : is_written_history zeros history ≡ true
unfolding row_of be_bytes packet_bytes number_at bth_at front_at reth_from atomic_from aeth_from number_from payload_at payload_behind body_in packet_in
written = refl

written_once : is_written_once_history zeros history ≡ true
unfolding row_of be_bytes packet_bytes number_at bth_at front_at reth_from atomic_from aeth_from number_from payload_at payload_behind body_in packet_in
written_once = refl

ordered : is_ordered_history zeros history ≡ true
unfolding row_of be_bytes packet_bytes number_at bth_at front_at reth_from atomic_from aeth_from number_from payload_at payload_behind body_in packet_in
ordered = refl

caused : is_caused_history zeros history ≡ true
unfolding row_of be_bytes packet_bytes number_at bth_at front_at reth_from atomic_from aeth_from number_from payload_at payload_behind body_in packet_in
caused = refl

licensed : is_licensed_history zeros history ≡ false
unfolding row_of be_bytes packet_bytes number_at bth_at front_at reth_from atomic_from aeth_from number_from payload_at payload_behind body_in packet_in
licensed = refl
