-- What contracts see of a packet: its fields. Contracts cite it through the packet's model.
use Rattle.ca_wire.specs.declared.packet.Packet.TheInside.{Inside}
use Rattle.ca_wire.specs.Packet.{Fields}

-- what this packet says
abbrev pub packet_seen : Inside → Fields
packet_seen p = record {
  opcode = p.opcode;
  solicited = p.solicited;
  migrated = p.migrated;
  pkey = p.pkey;
  queue = p.queue;
  ack = p.ack;
  psn = p.psn;
  reth = p.reth;
  atomic = p.atomic;
  aeth = p.aeth;
  «result» = p.result;
  imm = p.imm;
  ieth = p.ieth;
  payload = p.payload.now;
}
