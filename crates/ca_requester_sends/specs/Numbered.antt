-- A posted request as the machine numbers it: what contracts see of one.
use Rattle.ca_model.specs.machine.Numbering as numbering
use Rattle.ca_requester_sends.specs.declared.numbering.Numbered.TheInside.{Inside}

-- the posted request with its posting place and its PSNs
abbrev pub numbered_seen : Inside → numbering.Numbered
numbered_seen n = record {
  place = n.place;
  request = n.posted.now.request;
  drawn = n.posted.now.drawn;
  first = n.first;
  count = n.count;
}
