-- Which marks are counted. Contracts cite it.
use Rattle.std.specs.Prelude.{Bool}
use Rattle.ca_model.specs.declared.mark.Mark.{Mark}
use Rattle.ca_script_order.specs.Summary.{is_atomic_mark, is_failure, is_packet_lost, is_packet_sent, is_success}
use Rattle.ca_script_seed.specs.declared.counted.Counted.{Counted}
use Rattle.ca_script_seed.specs.declared.counted.Counted.TheVariants as counted

-- the mark is counted so
abbrev pub test_of : Counted → Mark → Bool
test_of counted.Success = is_success
test_of counted.Failure = is_failure
test_of counted.Sent = is_packet_sent
test_of counted.Lost = is_packet_lost
test_of counted.Atomic = is_atomic_mark
