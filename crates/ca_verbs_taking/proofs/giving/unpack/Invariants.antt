use Rattle.std.proofs.Common.{◌≡◌, drop, take, vec_capacity, vec_len}
use Rattle.ca_base.specs.Configuration.{configuration_in}
use Rattle.ca_adapter_parts.specs.HeldView.{holding}
use Rattle.ca_verbs_taking.proofs.HandLemmas.{IsUnpacking}
use Rattle.ca_verbs_taking.specs.Holding.{hand_of}
use Rattle.ca_verbs_taking.proofs.giving.unpack.Given as goal

abbrev pub invariant-loop-name : goal.invariant-loop-name
invariant-loop-name l = record {
  parts : IsUnpacking (configuration_in l.settings) (holding l.initial.held) (holding l.held) (take l.name-index l.names) (drop l.name-index l.names) (hand_of l.out.items);
  count : vec_len l.out ≡ l.name-index;
  room : vec_capacity l.out ≡ vec_capacity l.initial.out;
}
