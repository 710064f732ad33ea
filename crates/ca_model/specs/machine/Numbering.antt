-- The PSNs of posted requests, and the pieces of their lists that a packet touches. Contracts cite it.
use Rattle.std.specs.Prelude.{ℕ, suc, ◌+◌, ◌-◌, ◌%◌, ◌^◌, ◌==◌, ◌&&◌, nat_le, nat_lt, min, Bool, true, false, if◌then◌else◌, List, [], ◌∷◌, find, take, map, slice_get, Option}
use Rattle.ca_keys.specs.declared.access.Ask.{Ask}
use Rattle.ca_keys.specs.declared.access.Kind.{Kind}
use Rattle.ca_keys.specs.declared.names.DomainId.{DomainId}
use Rattle.ca_keys.specs.declared.names.QueueId.{QueueId}
use Rattle.ca_base.specs.declared.request.Piece.{Piece}
use Rattle.ca_base.specs.declared.request.SendOp.{SendOp}
use Rattle.ca_base.specs.declared.request.SendOp.TheVariants as ops
use Rattle.ca_base.specs.declared.request.SendRequest.{SendRequest}
use Rattle.ca_base.specs.declared.request.PostedSend.{PostedSend}
use Rattle.ca_base.specs.objects.QueuePair.{QueuePair}
use Rattle.ca_base.specs.objects.WorkQueue.{items_from}
use Rattle.ca_model.specs.Past.{local_ask}
use Rattle.ca_model.specs.Requests.{psns_of}

-- a posted request with its place and its PSNs: the first, and how many
pub record Numbered : Type 0 where
  pub place : ℕ
  pub request : SendRequest
  pub drawn : Option ℕ
  pub first : ℕ
  pub count : ℕ

-- requests from a place on, of which the first has or would get the PSNs from one on
abbrev pub numbers_of : ℕ → ℕ → ℕ → List PostedSend → List Numbered
numbers_of mtu place psn [] = []
numbers_of mtu place psn (p ∷ ps) =
    record { place = place; request = p.request; drawn = p.drawn; first = psn; count = psns_of mtu p.request.op }
    ∷ numbers_of mtu (suc place) (psn + psns_of mtu p.request.op) ps

-- the unfinished requests: those that have begun, and those that have not
abbrev pub unfinished_requests : QueuePair → List Numbered
unfinished_requests q =
    numbers_of q.responder.mtu q.requester.oldest q.requester.oldest_psn (items_from q.requester.oldest q.sends)

-- those that have begun
abbrev pub begun_requests : QueuePair → List Numbered
begun_requests q = take (q.requester.next - q.requester.oldest) (unfinished_requests q)

-- the one that begins next
abbrev pub next_to_begin : QueuePair → Option Numbered
next_to_begin q = slice_get (unfinished_requests q) (q.requester.next - q.requester.oldest)

-- the PSN behind a request's last
abbrev pub psn_end : Numbered → ℕ
psn_end n = n.first + n.count

-- a PSN is one of a request's
abbrev pub has_psn : ℕ → Numbered → Bool
has_psn psn n = nat_le n.first psn && nat_lt psn (psn_end n)

-- the request that has begun and has this PSN
abbrev pub request_at : ℕ → QueuePair → Option Numbered
request_at psn q = find (has_psn psn) (begun_requests q)

abbrev pub is_read : SendOp → Bool
is_read (ops.Read address key list) = true
is_read op = false

abbrev pub is_atomic_op : SendOp → Bool
is_atomic_op (ops.CmpSwap address key compare swap list) = true
is_atomic_op (ops.FetchAdd address key add list) = true
is_atomic_op op = false

-- a READ or an atomic: each of its PSNs waits for a response of its own
abbrev pub is_answered_op : SendOp → Bool
is_answered_op op = if is_read op then true else is_atomic_op op

-- a part of a piece: so many bytes, without so many at its front; addresses count modulo 2^64
abbrev pub piece_part : Piece → ℕ → ℕ → Piece
piece_part p skip count = record p { address = (p.address + skip) % 2 ^ 64; length = count }

-- a list cut to so many bytes, without so many at its front; a piece of which nothing is left does not stand
abbrev pub cut_list : ℕ → ℕ → List Piece → List Piece
cut_list skip count [] = []
cut_list skip count (p ∷ ps) =
    if nat_le p.length skip then cut_list (skip - p.length) count ps
    else if count == 0 then []
    else piece_part p skip (min count (p.length - skip)) ∷ cut_list 0 (count - (p.length - skip)) ps

-- the ask for a piece, by its L_Key
abbrev pub piece_ask : QueueId → DomainId → Kind → Piece → Ask
piece_ask queue domain kind p = local_ask queue domain p.key kind p.address p.length

-- the asks for so many bytes of a list, without so many at its front
abbrev pub list_asks : QueueId → DomainId → Kind → ℕ → ℕ → List Piece → List Ask
list_asks queue domain kind skip count pieces = map (piece_ask queue domain kind) (cut_list skip count pieces)
