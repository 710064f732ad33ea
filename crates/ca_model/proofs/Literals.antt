-- Short constructors, in which the histories of traces are written. For proofs only.
use Rattle.std.proofs.Common.{ℕ, Bool, List, Option}
use Rattle.arrayvec.specs.ArrayVec.{ArrayVec}
use Rattle.ca_base.specs.Configuration.{Adapter}
use Rattle.ca_base.specs.declared.completion.Completion.{Completion}
use Rattle.ca_base.specs.declared.completion.WcOp.{WcOp}
use Rattle.ca_base.specs.declared.completion.WcStatus.{WcStatus}
use Rattle.ca_keys.specs.declared.grant.Grant.{Grant}
use Rattle.ca_keys.specs.declared.key.Key.{Key}
use Rattle.ca_keys.specs.declared.names.DomainId.{DomainId}
use Rattle.ca_keys.specs.declared.names.QueueId.{QueueId}
use Rattle.ca_keys.specs.declared.names.Slot.{Slot}
use Rattle.ca_keys.specs.declared.place.Place.{Place}
use Rattle.ca_keys.specs.declared.place.Run.{Run}
use Rattle.ca_base.specs.declared.request.Piece.{Piece}
use Rattle.ca_base.specs.declared.request.RecvRequest.{RecvRequest}
use Rattle.ca_base.specs.declared.request.SendOp.{SendOp}
use Rattle.ca_base.specs.declared.request.SendRequest.{SendRequest}
use Rattle.ca_keys.specs.declared.rights.Rights.{Rights}
use Rattle.ca_model.specs.declared.event.Event.{Event}
use Rattle.ca_model.specs.declared.mark.Mark.{Mark}
use Rattle.ca_model.specs.Entries.{EntryValue}

abbrev pub d : ℕ → ℕ → DomainId
d adapter domain = record { adapter = adapter; domain = domain }

abbrev pub s : ℕ → ℕ → ℕ → Slot
s adapter domain slot = record { domain = d adapter domain; slot = slot }

abbrev pub q : ℕ → ℕ → QueueId
q adapter number = record { adapter = adapter; number = number }

abbrev pub k : ℕ → Key
k number = record { 0 = number }

abbrev pub r : Bool → Bool → Bool → Bool → Bool → Rights
r lw rr rw ra wb = record { local_write = lw; remote_read = rr; remote_write = rw; remote_atomic = ra; window_bind = wb }

abbrev pub run : ℕ → ℕ → ℕ → ℕ → Run
run adapter buffer offset count = record { adapter = adapter; buffer = buffer; offset = offset; length = count }

abbrev pub place : ℕ → ℕ → ℕ → Place
place adapter buffer offset = record { adapter = adapter; buffer = buffer; offset = offset }

abbrev pub piece : ℕ → ℕ → ℕ → Piece
piece name address count = record { address = address; key = k name; length = count }

abbrev pub list : List Piece → ArrayVec Piece
list items = record { items = items }

abbrev pub request : ℕ → Bool → Bool → Bool → SendOp → SendRequest
request id signalled fence solicited op =
    record { id = id; signalled = signalled; fence = fence; solicited = solicited; op = op }

abbrev pub receive : ℕ → ArrayVec Piece → RecvRequest
receive id list = record { id = id; list = list }

abbrev pub completion : QueueId → Bool → ℕ → ℕ → WcOp → WcStatus → ℕ → Option ℕ → Option Key → Completion
completion queue receive place id op status count imm invalidated = record {
  id = id;
  queue = queue;
  receive = receive;
  place = place;
  status = status;
  op = op;
  bytes = count;
  imm = imm;
  invalidated = invalidated;
}

abbrev pub grant : Key → DomainId → Option QueueId → Bool → ℕ → ℕ → Rights → List Run → Grant
grant key domain queue local address count rights runs = record {
  key = key;
  domain = domain;
  queue = queue;
  local = local;
  address = address;
  length = count;
  rights = rights;
  runs = runs;
}

abbrev pub entry : ℕ → ℕ → Event → List Mark → EntryValue
entry stamp pass event marks = record { stamp = stamp; pass = pass; event = event; marks = marks }

abbrev pub adapter : List ℕ → ℕ → ℕ → ℕ → ℕ → ℕ → ℕ → Adapter
adapter buffers domains regions windows cqs srqs qps = record {
  buffers = buffers;
  domains = domains;
  regions = regions;
  windows = windows;
  cqs = cqs;
  srqs = srqs;
  qps = qps;
}
