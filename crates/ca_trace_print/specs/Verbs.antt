-- The table of calls: the words of each verb, change and request, one row a kind, and the line of a script that calls a
-- verb. Contracts cite it.
use Rattle.std.specs.Prelude.{ℕ, ◌==◌, List, [], ◌∷◌, if◌then◌else◌, codes}
use Rattle.std.specs.Int.{w8, w16, w32, w64}
use Rattle.ca_base.specs.declared.change.Change.{Change}
use Rattle.ca_base.specs.declared.change.Change.TheVariants as changes
use Rattle.ca_keys.specs.declared.names.Slot.{Slot}
use Rattle.ca_base.specs.declared.request.SendOp.{SendOp}
use Rattle.ca_base.specs.declared.request.SendOp.TheVariants as ops
use Rattle.ca_model.specs.declared.verb.Verb.{Verb}
use Rattle.ca_model.specs.declared.verb.Verb.TheVariants as verbs
use Rattle.ca_trace_print.specs.Words.{Field, Fixed, Number, Lettered, Perhaps, InAdapter, OfDomain, OfSlot, OfQueue, OfKey, Address, Hex, OfRights, OfFlags, OfPieces, OfPages, words, joined}

-- a change of a queue pair's state
abbrev pub change_words : Slot → Change → List Field
change_words s changes.Reset = Fixed (codes "reset") ∷ OfSlot s ∷ []
change_words s changes.Init = Fixed (codes "init") ∷ OfSlot s ∷ []
change_words s (changes.Rtr peer incarnation psn mtu rnr_code) =
    Fixed (codes "rtr") ∷ OfSlot s ∷ OfQueue peer ∷ Number w32 incarnation ∷ Number w32 psn ∷ Number w16 mtu ∷ Number w8 rnr_code ∷ []
change_words s (changes.Rts psn retry rnr_retry reads) =
    Fixed (codes "rts") ∷ OfSlot s ∷ Number w32 psn ∷ Number w8 retry ∷ Number w8 rnr_retry ∷ Number w8 reads ∷ []
change_words s changes.Sqd = Fixed (codes "sqd") ∷ OfSlot s ∷ []
change_words s changes.Resume = Fixed (codes "resume") ∷ OfSlot s ∷ []
change_words s changes.Error = Fixed (codes "error") ∷ OfSlot s ∷ []

-- what a send request asks for
abbrev pub operation_words : SendOp → List Field
operation_words (ops.Send list) = Fixed (codes "send") ∷ OfPieces list.items ∷ []
operation_words (ops.SendImm imm list) = Fixed (codes "sendimm") ∷ Number w32 imm ∷ OfPieces list.items ∷ []
operation_words (ops.SendInv key list) = Fixed (codes "sendinv") ∷ OfKey key ∷ OfPieces list.items ∷ []
operation_words (ops.Write address key list) = Fixed (codes "write") ∷ Address address ∷ OfKey key ∷ OfPieces list.items ∷ []
operation_words (ops.WriteImm address key imm list) =
    Fixed (codes "writeimm") ∷ Address address ∷ OfKey key ∷ Number w32 imm ∷ OfPieces list.items ∷ []
operation_words (ops.Read address key list) = Fixed (codes "read") ∷ Address address ∷ OfKey key ∷ OfPieces list.items ∷ []
operation_words (ops.CmpSwap address key compare swap list) =
    Fixed (codes "cas") ∷ Address address ∷ OfKey key ∷ Number w64 compare ∷ Number w64 swap ∷ OfPieces list.items ∷ []
operation_words (ops.FetchAdd address key add list) =
    Fixed (codes "add") ∷ Address address ∷ OfKey key ∷ Number w64 add ∷ OfPieces list.items ∷ []
operation_words (ops.Bind1 window region address count rights) =
    Fixed (codes "bind1") ∷ Number w16 window ∷ OfKey region ∷ Address address ∷ Number w32 count ∷ OfRights rights ∷ []
operation_words (ops.Bind2 window region low address count rights) =
    Fixed (codes "bind2") ∷ Number w16 window ∷ OfKey region ∷ Number w8 low ∷ Address address ∷ Number w32 count ∷ OfRights rights ∷ []
operation_words (ops.FastReg region low buffer address count rights pages) =
    Fixed (codes "fastreg") ∷ Number w16 region ∷ Number w8 low ∷ Number w16 buffer ∷ Address address ∷ Number w32 count ∷ OfRights rights ∷ OfPages pages ∷ []
operation_words (ops.LocalInv key) = Fixed (codes "inv") ∷ OfKey key ∷ []

-- a poll: one without a least number, one that waits for all that it takes, and any other
abbrev pub poll_words : Slot → ℕ → ℕ → List Field
poll_words s n least =
    if least == 0 then Fixed (codes "poll") ∷ OfSlot s ∷ Number w8 n ∷ []
    else if least == n then Fixed (codes "wait") ∷ OfSlot s ∷ Number w8 n ∷ []
    else Fixed (codes "poll") ∷ OfSlot s ∷ Number w8 n ∷ Number w8 least ∷ []

-- a verb, in a script and in a trace
abbrev pub verb_words : Verb → List Field
verb_words (verbs.AllocPd d) = Fixed (codes "pd") ∷ OfDomain d ∷ []
verb_words (verbs.DeallocPd d) = Fixed (codes "unpd") ∷ OfDomain d ∷ []
verb_words (verbs.RegMr s buffer offset count rights) =
    Fixed (codes "reg") ∷ OfSlot s ∷ Number w16 buffer ∷ Number w32 offset ∷ Number w32 count ∷ OfRights rights ∷ []
verb_words (verbs.AllocMr s pages) = Fixed (codes "mr") ∷ OfSlot s ∷ Number w16 pages ∷ []
verb_words (verbs.DeregMr s) = Fixed (codes "dereg") ∷ OfSlot s ∷ []
verb_words (verbs.AllocMw s kind) = Fixed (codes "mw") ∷ OfSlot s ∷ Number w8 kind ∷ []
verb_words (verbs.DeallocMw s) = Fixed (codes "unmw") ∷ OfSlot s ∷ []
verb_words (verbs.CreateCq s capacity) = Fixed (codes "cq") ∷ OfSlot s ∷ Number w16 capacity ∷ []
verb_words (verbs.DestroyCq s) = Fixed (codes "uncq") ∷ OfSlot s ∷ []
verb_words (verbs.CreateSrq s depth) = Fixed (codes "srq") ∷ OfSlot s ∷ Number w16 depth ∷ []
verb_words (verbs.DestroySrq s) = Fixed (codes "unsrq") ∷ OfSlot s ∷ []
verb_words (verbs.CreateQp s send_cq recv_cq send_depth recv_depth srq) =
    Fixed (codes "qp") ∷ OfSlot s ∷ Number w16 send_cq ∷ Number w16 recv_cq ∷ Number w16 send_depth ∷ Number w16 recv_depth ∷ Perhaps w16 srq ∷ []
verb_words (verbs.ModifyQp s change) = change_words s change
verb_words (verbs.QueryQp s) = Fixed (codes "query") ∷ OfSlot s ∷ []
verb_words (verbs.DestroyQp s) = Fixed (codes "unqp") ∷ OfSlot s ∷ []
verb_words (verbs.PostSend s request) =
    Fixed (codes "post") ∷ OfSlot s ∷ Number w64 request.id ∷ OfFlags request.signalled request.fence request.solicited ∷ operation_words request.op
verb_words (verbs.PostRecv s request) = Fixed (codes "recv") ∷ OfSlot s ∷ Number w64 request.id ∷ OfPieces request.list.items ∷ []
verb_words (verbs.PostSrq s request) = Fixed (codes "srecv") ∷ OfSlot s ∷ Number w64 request.id ∷ OfPieces request.list.items ∷ []
verb_words (verbs.Poll s n least) = poll_words s n least
verb_words (verbs.Store adapter buffer offset bytes) =
    Fixed (codes "store") ∷ InAdapter adapter w16 buffer ∷ Number w32 offset ∷ Hex bytes ∷ []
verb_words (verbs.Load adapter buffer offset count) =
    Fixed (codes "load") ∷ InAdapter adapter w16 buffer ∷ Number w32 offset ∷ Number w32 count ∷ []
verb_words (verbs.Inject q bytes) = Fixed (codes "inject") ∷ OfQueue q ∷ Hex bytes ∷ []

-- a consumer and the verb that it calls
abbrev pub call_words : ℕ → Verb → List Field
call_words by verb = Lettered 99 w32 by ∷ verb_words verb

-- the line of a script that calls a verb, without its end
abbrev pub call : ℕ → Verb → List ℕ
call by verb = joined 32 (words (call_words by verb))
