-- Verbs: what the words of a verb are read as, by the table that prints them. It is lenient: what is read need not
-- print so. Contracts cite it.
use Rattle.std.specs.Prelude.{ℕ, if◌then◌else◌, List, Option, Some, None, codes}
use Rattle.std.specs.Str.{bytes_eq}
use Rattle.ca_base.specs.declared.change.Change.{Change}
use Rattle.ca_base.specs.declared.change.Change.TheVariants as changes
use Rattle.ca_keys.specs.declared.names.Slot.{Slot}
use Rattle.ca_base.specs.declared.request.RecvRequest.{RecvRequest}
use Rattle.ca_model.specs.declared.verb.Verb.{Verb}
use Rattle.ca_model.specs.declared.verb.Verb.TheVariants as verbs
use Rattle.ca_trace_lex.specs.Words.{◌>>=◌, next_of, field, perhaps_in, in_adapter_in, domain_in, queue_in, slot_in, hex_in, has, pieces_in, max_u16}
use Rattle.ca_trace_lex.specs.Fields.{Words, u8_in, u16_in, u32_in, u64_in, rights_at}
use Rattle.ca_trace_read_verbs.specs.Operations.{operation_at}

-- ---- changes of a queue pair

unfoldable pub rtr_at : Words → Option (Verb × Words)
rtr_at ws = do
  slot ← field slot_in ws
  peer ← field queue_in slot.1
  incarnation ← field u32_in peer.1
  psn ← field u32_in incarnation.1
  mtu ← field u16_in psn.1
  rnr_code ← field u8_in mtu.1
  Some (verbs.ModifyQp slot.0 (changes.Rtr peer.0 incarnation.0 psn.0 mtu.0 rnr_code.0), rnr_code.1)

unfoldable pub rts_at : Words → Option (Verb × Words)
rts_at ws = do
  slot ← field slot_in ws
  psn ← field u32_in slot.1
  retry ← field u8_in psn.1
  rnr_retry ← field u8_in retry.1
  reads ← field u8_in rnr_retry.1
  Some (verbs.ModifyQp slot.0 (changes.Rts psn.0 retry.0 rnr_retry.0 reads.0), reads.1)

unfoldable pub plain_change_at : Change → Words → Option (Verb × Words)
plain_change_at change ws = do
  slot ← field slot_in ws
  Some (verbs.ModifyQp slot.0 change, slot.1)

unfoldable pub change_at : List ℕ → Words → Option (Verb × Words)
change_at name ws =
    if bytes_eq name (codes "rtr") then rtr_at ws
    else if bytes_eq name (codes "rts") then rts_at ws
    else if bytes_eq name (codes "reset") then plain_change_at changes.Reset ws
    else if bytes_eq name (codes "init") then plain_change_at changes.Init ws
    else if bytes_eq name (codes "sqd") then plain_change_at changes.Sqd ws
    else if bytes_eq name (codes "resume") then plain_change_at changes.Resume ws
    else if bytes_eq name (codes "error") then plain_change_at changes.Error ws
    else None

-- ---- verbs

unfoldable pub reg_at : Words → Option (Verb × Words)
reg_at ws = do
  slot ← field slot_in ws
  buffer ← field u16_in slot.1
  offset ← field u32_in buffer.1
  count ← field u32_in offset.1
  rights ← rights_at count.1
  Some (verbs.RegMr slot.0 buffer.0 offset.0 count.0 rights.0, rights.1)

unfoldable pub qp_at : Words → Option (Verb × Words)
qp_at ws = do
  slot ← field slot_in ws
  send_cq ← field u16_in slot.1
  recv_cq ← field u16_in send_cq.1
  send_depth ← field u16_in recv_cq.1
  recv_depth ← field u16_in send_depth.1
  srq ← field (perhaps_in u16_in) recv_depth.1
  Some (verbs.CreateQp slot.0 send_cq.0 recv_cq.0 send_depth.0 recv_depth.0 srq.0, srq.1)

unfoldable pub post_at : Words → Option (Verb × Words)
post_at ws = do
  slot ← field slot_in ws
  id ← field u64_in slot.1
  flags ← next_of id.1
  op ← operation_at flags.1
  Some (verbs.PostSend slot.0 (record { id = id.0; signalled = has 115 flags.0; fence = has 102 flags.0; solicited = has 101 flags.0; op = op.0 }), op.1)

unfoldable pub receive_at : Words → Option ((Slot × RecvRequest) × Words)
receive_at ws = do
  slot ← field slot_in ws
  id ← field u64_in slot.1
  list ← field pieces_in id.1
  Some ((slot.0, record { id = id.0; list = record { items = list.0 } }), list.1)

-- the least number of completions that a poll waits for, where one stands before the answer
unfoldable pub least_at : Words → Option (ℕ × Words)
least_at ws = do
  next ← next_of ws
  if bytes_eq next.0 (codes "->") then Some (0, ws) else field u8_in ws

unfoldable pub poll_at : Words → Option (Verb × Words)
poll_at ws = do
  slot ← field slot_in ws
  n ← field u8_in slot.1
  least ← least_at n.1
  Some (verbs.Poll slot.0 n.0 least.0, least.1)

unfoldable pub wait_at : Words → Option (Verb × Words)
wait_at ws = do
  slot ← field slot_in ws
  n ← field u8_in slot.1
  Some (verbs.Poll slot.0 n.0 n.0, n.1)

unfoldable pub store_at : Words → Option (Verb × Words)
store_at ws = do
  buffer ← field (in_adapter_in max_u16) ws
  offset ← field u32_in buffer.1
  bytes ← field hex_in offset.1
  Some (verbs.Store buffer.0.0 buffer.0.1 offset.0 bytes.0, bytes.1)

unfoldable pub load_at : Words → Option (Verb × Words)
load_at ws = do
  buffer ← field (in_adapter_in max_u16) ws
  offset ← field u32_in buffer.1
  count ← field u32_in offset.1
  Some (verbs.Load buffer.0.0 buffer.0.1 offset.0 count.0, count.1)

unfoldable pub inject_at : Words → Option (Verb × Words)
inject_at ws = do
  queue ← field queue_in ws
  bytes ← field hex_in queue.1
  Some (verbs.Inject queue.0 bytes.0, bytes.1)

-- requests, and accesses of the host
unfoldable pub work_at : List ℕ → Words → Option (Verb × Words)
work_at name ws =
    if bytes_eq name (codes "post") then post_at ws
    else if bytes_eq name (codes "recv") then (do
      request ← receive_at ws
      Some (verbs.PostRecv request.0.0 request.0.1, request.1))
    else if bytes_eq name (codes "srecv") then (do
      request ← receive_at ws
      Some (verbs.PostSrq request.0.0 request.0.1, request.1))
    else if bytes_eq name (codes "poll") then poll_at ws
    else if bytes_eq name (codes "wait") then wait_at ws
    else if bytes_eq name (codes "store") then store_at ws
    else if bytes_eq name (codes "load") then load_at ws
    else if bytes_eq name (codes "inject") then inject_at ws
    else change_at name ws

-- verbs that name a domain alone, or an object alone
unfoldable pub object_at : List ℕ → Words → Option (Verb × Words)
object_at name ws =
    if bytes_eq name (codes "pd") then (do
      domain ← field domain_in ws
      Some (verbs.AllocPd domain.0, domain.1))
    else if bytes_eq name (codes "unpd") then (do
      domain ← field domain_in ws
      Some (verbs.DeallocPd domain.0, domain.1))
    else if bytes_eq name (codes "dereg") then (do
      slot ← field slot_in ws
      Some (verbs.DeregMr slot.0, slot.1))
    else if bytes_eq name (codes "unmw") then (do
      slot ← field slot_in ws
      Some (verbs.DeallocMw slot.0, slot.1))
    else if bytes_eq name (codes "uncq") then (do
      slot ← field slot_in ws
      Some (verbs.DestroyCq slot.0, slot.1))
    else if bytes_eq name (codes "unsrq") then (do
      slot ← field slot_in ws
      Some (verbs.DestroySrq slot.0, slot.1))
    else if bytes_eq name (codes "query") then (do
      slot ← field slot_in ws
      Some (verbs.QueryQp slot.0, slot.1))
    else if bytes_eq name (codes "unqp") then (do
      slot ← field slot_in ws
      Some (verbs.DestroyQp slot.0, slot.1))
    else work_at name ws

-- verbs that make an object
unfoldable pub verb_at : Words → Option (Verb × Words)
verb_at ws = do
  name ← next_of ws
  if bytes_eq name.0 (codes "reg") then reg_at name.1
      else if bytes_eq name.0 (codes "qp") then qp_at name.1
      else if bytes_eq name.0 (codes "mr") then (do
        slot ← field slot_in name.1
        pages ← field u16_in slot.1
        Some (verbs.AllocMr slot.0 pages.0, pages.1))
      else if bytes_eq name.0 (codes "mw") then (do
        slot ← field slot_in name.1
        kind ← field u8_in slot.1
        Some (verbs.AllocMw slot.0 kind.0, kind.1))
      else if bytes_eq name.0 (codes "cq") then (do
        slot ← field slot_in name.1
        capacity ← field u16_in slot.1
        Some (verbs.CreateCq slot.0 capacity.0, capacity.1))
      else if bytes_eq name.0 (codes "srq") then (do
        slot ← field slot_in name.1
        depth ← field u16_in slot.1
        Some (verbs.CreateSrq slot.0 depth.0, depth.1))
      else object_at name.0 name.1
