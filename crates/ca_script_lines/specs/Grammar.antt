-- The grammar of consumer lines: one row for each word that may stand behind `cK`, in the order of the verbs, and one for
-- each operation of a send request. Contracts cite it.
use Rattle.std.specs.Prelude.{ℕ, List, [], ◌∷◌, codes}
use Rattle.ca_base.specs.declared.change.Change.{Change}
use Rattle.ca_base.specs.declared.change.Change.TheVariants as changes
use Rattle.ca_base.specs.declared.request.SendOp.{SendOp}
use Rattle.ca_base.specs.declared.request.SendOp.TheVariants as ops
use Rattle.ca_script_lex.specs.ca_model.declared.verb.Verb.{Verb}
use Rattle.ca_script_lex.specs.ca_model.declared.verb.Verb.TheVariants as verbs
use Rattle.ca_script_lex.specs.Kinds.{Kind, Optional, OfDomain, OfSlot, OfQueue, OfBuffer, Hex, OfFlags, OfRights, OfPieces, OfPages, u8, u16, u32, u64}
use Rattle.ca_script_lines.specs.Rows.{Row, Takes, Makes, read_table, one_of}
use Rattle.ca_script_lines.specs.declared.what.What.{What}
use Rattle.ca_script_lines.specs.declared.what.What.TheVariants as whats

-- a key and an address
abbrev pub key : Kind
key = u32

abbrev pub address : Kind
address = u64

-- ---- the operations of a send request

unfoldable pub send_row : Row SendOp
send_row = Takes OfPieces (λ list. Makes (ops.Send (record { items = list })))

unfoldable pub send_imm_row : Row SendOp
send_imm_row = Takes u32 (λ imm. Takes OfPieces (λ list. Makes (ops.SendImm imm (record { items = list }))))

unfoldable pub send_inv_row : Row SendOp
send_inv_row = Takes key (λ k. Takes OfPieces (λ list. Makes (ops.SendInv (record { 0 = k }) (record { items = list }))))

unfoldable pub write_row : Row SendOp
write_row = Takes address (λ at. Takes key (λ k. Takes OfPieces (λ list. Makes (ops.Write at (record { 0 = k }) (record { items = list })))))

unfoldable pub write_imm_row : Row SendOp
write_imm_row = Takes address (λ at. Takes key (λ k. Takes u32 (λ imm. Takes OfPieces (λ list. Makes (ops.WriteImm at (record { 0 = k }) imm (record { items = list }))))))

unfoldable pub read_row : Row SendOp
read_row = Takes address (λ at. Takes key (λ k. Takes OfPieces (λ list. Makes (ops.Read at (record { 0 = k }) (record { items = list })))))

unfoldable pub cmp_swap_row : Row SendOp
cmp_swap_row = Takes address (λ at. Takes key (λ k. Takes u64 (λ compare. Takes u64 (λ swap. Takes OfPieces (λ list. Makes (ops.CmpSwap at (record { 0 = k }) compare swap (record { items = list })))))))

unfoldable pub fetch_add_row : Row SendOp
fetch_add_row = Takes address (λ at. Takes key (λ k. Takes u64 (λ add. Takes OfPieces (λ list. Makes (ops.FetchAdd at (record { 0 = k }) add (record { items = list }))))))

unfoldable pub bind1_row : Row SendOp
bind1_row = Takes u16 (λ window. Takes key (λ k. Takes address (λ at. Takes u32 (λ count. Takes OfRights (λ rights. Makes (ops.Bind1 window (record { 0 = k }) at count rights))))))

unfoldable pub bind2_row : Row SendOp
bind2_row = Takes u16 (λ window. Takes key (λ k. Takes u8 (λ low. Takes address (λ at. Takes u32 (λ count. Takes OfRights (λ rights. Makes (ops.Bind2 window (record { 0 = k }) low at count rights)))))))

unfoldable pub fast_reg_row : Row SendOp
fast_reg_row = Takes u16 (λ region. Takes u8 (λ low. Takes u16 (λ buffer. Takes address (λ at. Takes u32 (λ count. Takes OfRights (λ rights. Takes OfPages (λ pages. Makes (ops.FastReg region low buffer at count rights pages))))))))

unfoldable pub local_inv_row : Row SendOp
local_inv_row = Takes key (λ k. Makes (ops.LocalInv (record { 0 = k })))

-- operations of the adapter itself
unfoldable pub local_operations : List (List ℕ × Row SendOp)
local_operations =
    (codes "bind1", bind1_row) ∷
    (codes "bind2", bind2_row) ∷
    (codes "fastreg", fast_reg_row) ∷
    (codes "inv", local_inv_row) ∷
    []

-- all operations: first those that send packets
unfoldable pub operations : List (List ℕ × Row SendOp)
operations =
    (codes "send", send_row) ∷
    (codes "sendimm", send_imm_row) ∷
    (codes "sendinv", send_inv_row) ∷
    (codes "write", write_row) ∷
    (codes "writeimm", write_imm_row) ∷
    (codes "read", read_row) ∷
    (codes "cas", cmp_swap_row) ∷
    (codes "add", fetch_add_row) ∷
    local_operations

-- ---- verbs

abbrev pub verb : Verb → Row What
verb v = Makes (whats.Verb v)

-- a change of a queue pair's state without a field
abbrev pub changed : Change → Row What
changed change = Takes OfSlot (λ s. verb (verbs.ModifyQp s change))

unfoldable pub pd_row : Row What
pd_row = Takes OfDomain (λ d. verb (verbs.AllocPd d))

unfoldable pub unpd_row : Row What
unpd_row = Takes OfDomain (λ d. verb (verbs.DeallocPd d))

unfoldable pub reg_row : Row What
reg_row = Takes OfSlot (λ s. Takes u16 (λ buffer. Takes u32 (λ offset. Takes u32 (λ count. Takes OfRights (λ rights. verb (verbs.RegMr s buffer offset count rights))))))

unfoldable pub mr_row : Row What
mr_row = Takes OfSlot (λ s. Takes u16 (λ pages. verb (verbs.AllocMr s pages)))

unfoldable pub dereg_row : Row What
dereg_row = Takes OfSlot (λ s. verb (verbs.DeregMr s))

unfoldable pub mw_row : Row What
mw_row = Takes OfSlot (λ s. Takes u8 (λ kind. verb (verbs.AllocMw s kind)))

unfoldable pub unmw_row : Row What
unmw_row = Takes OfSlot (λ s. verb (verbs.DeallocMw s))

unfoldable pub cq_row : Row What
cq_row = Takes OfSlot (λ s. Takes u16 (λ capacity. verb (verbs.CreateCq s capacity)))

unfoldable pub uncq_row : Row What
uncq_row = Takes OfSlot (λ s. verb (verbs.DestroyCq s))

unfoldable pub srq_row : Row What
srq_row = Takes OfSlot (λ s. Takes u16 (λ depth. verb (verbs.CreateSrq s depth)))

unfoldable pub unsrq_row : Row What
unsrq_row = Takes OfSlot (λ s. verb (verbs.DestroySrq s))

unfoldable pub qp_row : Row What
qp_row = Takes OfSlot (λ s. Takes u16 (λ send_cq. Takes u16 (λ recv_cq. Takes u16 (λ send_depth. Takes u16 (λ recv_depth. Takes (Optional 65535) (λ srq. verb (verbs.CreateQp s send_cq recv_cq send_depth recv_depth srq)))))))

unfoldable pub unqp_row : Row What
unqp_row = Takes OfSlot (λ s. verb (verbs.DestroyQp s))

unfoldable pub query_row : Row What
query_row = Takes OfSlot (λ s. verb (verbs.QueryQp s))

unfoldable pub init_row : Row What
init_row = changed changes.Init

unfoldable pub sqd_row : Row What
sqd_row = changed changes.Sqd

unfoldable pub resume_row : Row What
resume_row = changed changes.Resume

unfoldable pub error_row : Row What
error_row = changed changes.Error

unfoldable pub reset_row : Row What
reset_row = changed changes.Reset

unfoldable pub rtr_row : Row What
rtr_row = Takes OfSlot (λ s. Takes (OfQueue 255) (λ peer. Takes u32 (λ incarnation. Takes u32 (λ psn. Takes u16 (λ mtu. Takes u8 (λ rnr_code. verb (verbs.ModifyQp s (changes.Rtr peer incarnation psn mtu rnr_code))))))))

unfoldable pub rts_row : Row What
rts_row = Takes OfSlot (λ s. Takes u32 (λ psn. Takes u8 (λ retry. Takes u8 (λ rnr_retry. Takes u8 (λ reads. verb (verbs.ModifyQp s (changes.Rts psn retry rnr_retry reads)))))))

unfoldable pub post_row : Row What
post_row = Takes OfSlot (λ s. Takes u64 (λ id. Takes OfFlags (λ f. one_of (read_table operations) (λ op. whats.Verb (verbs.PostSend s (record { id = id; signalled = f.signalled; fence = f.fence; solicited = f.solicited; op = op }))))))

unfoldable pub recv_row : Row What
recv_row = Takes OfSlot (λ s. Takes u64 (λ id. Takes OfPieces (λ list. verb (verbs.PostRecv s (record { id = id; list = record { items = list } })))))

unfoldable pub srecv_row : Row What
srecv_row = Takes OfSlot (λ s. Takes u64 (λ id. Takes OfPieces (λ list. verb (verbs.PostSrq s (record { id = id; list = record { items = list } })))))

unfoldable pub poll_row : Row What
poll_row = Takes OfSlot (λ s. Takes u8 (λ n. verb (verbs.Poll s n 0)))

unfoldable pub wait_row : Row What
wait_row = Takes OfSlot (λ s. Takes u8 (λ n. verb (verbs.Poll s n n)))

unfoldable pub store_row : Row What
store_row = Takes OfBuffer (λ b. Takes u32 (λ offset. Takes Hex (λ bytes. verb (verbs.Store b.0 b.1 offset bytes))))

unfoldable pub load_row : Row What
load_row = Takes OfBuffer (λ b. Takes u32 (λ offset. Takes u32 (λ count. verb (verbs.Load b.0 b.1 offset count))))

unfoldable pub inject_row : Row What
inject_row = Takes (OfQueue 255) (λ q. Takes Hex (λ bytes. verb (verbs.Inject q bytes)))

unfoldable pub at_row : Row What
at_row = Takes u64 (λ t. Makes (whats.At t))

-- requests, polls, accesses of the host, and `at`
unfoldable pub work_lines : List (List ℕ × Row What)
work_lines =
    (codes "post", post_row) ∷
    (codes "recv", recv_row) ∷
    (codes "srecv", srecv_row) ∷
    (codes "poll", poll_row) ∷
    (codes "wait", wait_row) ∷
    (codes "store", store_row) ∷
    (codes "load", load_row) ∷
    (codes "inject", inject_row) ∷
    (codes "at", at_row) ∷
    []

-- changes of a queue pair's state, and what follows
unfoldable pub change_lines : List (List ℕ × Row What)
change_lines =
    (codes "init", init_row) ∷
    (codes "sqd", sqd_row) ∷
    (codes "resume", resume_row) ∷
    (codes "error", error_row) ∷
    (codes "reset", reset_row) ∷
    (codes "rtr", rtr_row) ∷
    (codes "rts", rts_row) ∷
    work_lines

-- queues and queue pairs, and what follows
unfoldable pub object_lines : List (List ℕ × Row What)
object_lines =
    (codes "cq", cq_row) ∷
    (codes "uncq", uncq_row) ∷
    (codes "srq", srq_row) ∷
    (codes "unsrq", unsrq_row) ∷
    (codes "qp", qp_row) ∷
    (codes "unqp", unqp_row) ∷
    (codes "query", query_row) ∷
    change_lines

-- what may stand behind `cK`: domains, regions and windows, and what follows
unfoldable pub consumer_lines : List (List ℕ × Row What)
consumer_lines =
    (codes "pd", pd_row) ∷
    (codes "unpd", unpd_row) ∷
    (codes "reg", reg_row) ∷
    (codes "mr", mr_row) ∷
    (codes "dereg", dereg_row) ∷
    (codes "mw", mw_row) ∷
    (codes "unmw", unmw_row) ∷
    object_lines
