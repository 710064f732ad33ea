-- The footprint of each ending: which kinds of things it may change, and which kinds of marks it may make. What a relation reads
-- and hears that no ending touches, is kept by one lemma.
use Rattle.std.proofs.Common.{◌≡◌, ℕ, suc, ◌-◌, ◌==◌, ◌&&◌, not, Bool, true, false, if◌then◌else◌, List, [], ◌∷◌, ◌++◌, length, take, map, Option, None, Some, refl, sym, subst, true≢false}
use Rattle.std.specs.List.{flat_map}
use Rattle.std.specs.Option.{option_map, option_map_or}
use Rattle.ca_base.specs.Configuration.{Configuration}
use Rattle.ca_base.specs.Sight.{Invalidation, Sight, bytes_in}
use Rattle.ca_base.specs.declared.change.Change.TheVariants as changes
use Rattle.ca_base.specs.declared.completion.Completion.{Completion}
use Rattle.ca_base.specs.declared.completion.WcStatus.{WcStatus}
use Rattle.ca_base.specs.declared.correspondent.Correspondent.{Correspondent}
use Rattle.ca_base.specs.declared.lot.Lot.{Lot}
use Rattle.ca_base.specs.declared.queue_numbers.Message.{Message}
use Rattle.ca_base.specs.declared.queue_numbers.Message.TheVariants as messages
use Rattle.ca_base.specs.declared.refusals.OpRefusal.{OpRefusal}
use Rattle.ca_base.specs.declared.request.PostedSend.{PostedSend}
use Rattle.ca_base.specs.declared.request.RecvRequest.{RecvRequest}
use Rattle.ca_base.specs.declared.request.SendOp.{SendOp}
use Rattle.ca_base.specs.declared.request.SendOp.TheVariants as ops
use Rattle.ca_base.specs.declared.request.SendRequest.{SendRequest}
use Rattle.ca_base.specs.objects.CompletionQueue.{CompletionQueue}
use Rattle.ca_base.specs.objects.Mailbox.{Mailbox, after_send, is_lost}
use Rattle.ca_base.specs.objects.QueuePair.{QueuePair, QueueSlot, NoQueue, Present, srq_of}
use Rattle.ca_base.specs.objects.SharedReceives.{SharedReceives, SrqSlot, after_receive_take, after_receives_retire}
use Rattle.ca_base.specs.objects.StateTable.{state_eq}
use Rattle.ca_base.specs.objects.Slices.{names_region, names_window, slot_of_key}
use Rattle.ca_base.specs.objects.Window.{Binding, without_binding}
use Rattle.ca_base.specs.objects.Region.{after_region_invalidation, with_window_unbound}
use Rattle.ca_base.specs.objects.WorkQueue.{WorkQueue, items_from}
use Rattle.ca_keys.specs.declared.access.Ask.{Ask}
use Rattle.ca_keys.specs.declared.access.Kind.TheVariants as access
use Rattle.ca_keys.specs.declared.grant.Grant.{Grant}
use Rattle.ca_keys.specs.declared.names.QueueId.{QueueId}
use Rattle.ca_keys.specs.declared.names.Slot.{Slot}
use Rattle.ca_keys.specs.declared.verdict.Verdict.{Verdict}
use Rattle.ca_keys.specs.declared.verdict.Verdict.TheVariants as verdicts
use Rattle.ca_law_world.proofs.Sound.PlanWalks.{binder_updates, shared_beside}
use Rattle.ca_model.specs.Past.{Past, after_mark, after_marks}
use Rattle.ca_model.specs.declared.mark.Mark.{Mark}
use Rattle.ca_model.specs.declared.mark.Mark.TheVariants as marks
use Rattle.ca_model.specs.machine.Acknowledgements.{failure_effects, finished_requests, with_una, without_oldest}
use Rattle.ca_model.specs.machine.Around.{Around, srq_updates, updates_of}
use Rattle.ca_model.specs.machine.CompletionVerbs.{receives_after_poll, slot_after_poll, source_of_completion}
use Rattle.ca_model.specs.machine.Completions.{failure_mark, flush_marks, flushed_message, flushed_receives, flushed_sends, success_marks}
use Rattle.ca_model.specs.machine.LocalOperations.{PlacedRegion, former_updates, local_marks, named_updates, operation_effects, window_slot}
use Rattle.ca_model.specs.machine.Numbering.{Numbered, list_asks}
use Rattle.ca_model.specs.machine.Plan.{Update, ◌:=◌, Write, put_all, write_all}
use Rattle.ca_model.specs.machine.PostingVerbs.{marks_of_flush}
use Rattle.ca_model.specs.machine.QueuePairVerbs.{Creation, beside, left_updates, places_held, user_updates}
use Rattle.ca_model.specs.machine.WindowVerbs.{queue_updates}
use Rattle.ca_model.specs.machine.Timers.{after_timeout}
use Rattle.ca_model.specs.machine.Responses.{local_writes, writes_by}
use Rattle.ca_model.specs.machine.Requester.{denied_list_effects, local_reads, packet_asks}
use Rattle.ca_model.specs.machine.Row.{Effects, region_under, unless_none}
use Rattle.ca_model.specs.machine.Seen.{ending_changes, sight_in}
use Rattle.ca_model.specs.machine.Turns.{Packet, packet_sent, reaches_peer, sent_marks, sent_updates}
use Rattle.ca_model.specs.machine.World.{World, Name, Thing, Byte_at, Cq_of, Domain_of, Mailbox_of, Queue_of, Region_of, Srq_of, Window_of, put}
use Rattle.ca_law_endings.proofs.Endings.{End, IsSo, after, changed, more, near, packet_of, performed, places_freed, receiving, sending, start, turn_marks, writes}
use Rattle.std.proofs.lemmas.Bool.{and_parts}
use Rattle.ca_base.specs.declared.completion.WcStatus.TheVariants.{LocalProtection, MemoryManagement}
use Rattle.ca_base.specs.declared.change.State.TheVariants as states
use Rattle.ca_base.specs.objects.LocalRequest.{LocalMarks}
use Rattle.ca_keys.specs.Memory.{ByteMap, memory_after}
use Rattle.ca_keys.specs.declared.key.Key.{Key}
use Rattle.ca_law_endings.proofs.Rows.{timeout-moves}
use Rattle.ca_law_endings.proofs.Moves.{Moves, RowEnds, Touch}
use Rattle.ca_law_endings.proofs.Operations.{done_by, former_of, named_in}

-- ---- kinds

pub data Kind : Type 0 where
  OfDomain OfRegion OfWindow OfCq OfSrq OfQueue OfMailbox OfByte : Kind

abbrev pub kind_of : Name → Kind
kind_of (Domain_of d) = OfDomain
kind_of (Region_of s) = OfRegion
kind_of (Window_of s) = OfWindow
kind_of (Cq_of s) = OfCq
kind_of (Srq_of s) = OfSrq
kind_of (Queue_of q) = OfQueue
kind_of (Mailbox_of q) = OfMailbox
kind_of (Byte_at p) = OfByte

-- the kinds of marks, by verdict where they tell of an access
pub data MarkKind : Type 0 where
  Answered Grants Revokes Stores RemoteDenied RemoteRead RemoteWrote RemoteSwapped LocalDenied LocalRead LocalWrote LocalSwapped Sends Loses Arrives Drops Fires Completes : MarkKind

abbrev pub remote_kind : Verdict → MarkKind
remote_kind (verdicts.Denied denial) = RemoteDenied
remote_kind (verdicts.Read bytes) = RemoteRead
remote_kind (verdicts.Wrote bytes) = RemoteWrote
remote_kind (verdicts.Swapped found put) = RemoteSwapped

abbrev pub local_kind : Verdict → MarkKind
local_kind (verdicts.Denied denial) = LocalDenied
local_kind (verdicts.Read bytes) = LocalRead
local_kind (verdicts.Wrote bytes) = LocalWrote
local_kind (verdicts.Swapped found put) = LocalSwapped

abbrev pub kind_of_mark : Mark → MarkKind
kind_of_mark (marks.Verb by verb answer) = Answered
kind_of_mark (marks.Granted g) = Grants
kind_of_mark (marks.Revoked adapter key) = Revokes
kind_of_mark (marks.Stored place bytes) = Stores
kind_of_mark (marks.Remote queue domain envelope key kind address count verdict) = remote_kind verdict
kind_of_mark (marks.Local queue domain key kind address count verdict) = local_kind verdict
kind_of_mark (marks.Sent source target index request bytes) = Sends
kind_of_mark (marks.Lost target index) = Loses
kind_of_mark (marks.Arrived target index) = Arrives
kind_of_mark (marks.Dropped target cause) = Drops
kind_of_mark (marks.Timer queue silent) = Fires
kind_of_mark (marks.Done queue x cause) = Completes

-- ---- the table

-- what a turn's effects change
abbrev pub turn_kinds : List Kind
turn_kinds = OfQueue ∷ OfCq ∷ OfSrq ∷ []

-- what the end of a key changes
abbrev pub key_kinds : List Kind
key_kinds = OfRegion ∷ OfWindow ∷ []

abbrev pub kinds : End → List Kind
kinds (End.AllocPd by d) = OfDomain ∷ []
kinds (End.DeallocPd by d) = OfDomain ∷ []
kinds (End.RegMr by s buffer offset count rights) = OfDomain ∷ OfRegion ∷ []
kinds (End.AllocMr by s pages) = OfDomain ∷ OfRegion ∷ []
kinds (End.DeregMr by s o) = OfDomain ∷ OfRegion ∷ []
kinds (End.AllocMw by s kind) = OfDomain ∷ OfWindow ∷ []
kinds (End.DeallocMw by s o) = OfDomain ∷ OfWindow ∷ OfRegion ∷ OfQueue ∷ []
kinds (End.CreateCq by s capacity) = OfDomain ∷ OfCq ∷ []
kinds (End.DestroyCq by s) = OfDomain ∷ OfCq ∷ []
kinds (End.CreateSrq by s depth) = OfDomain ∷ OfSrq ∷ []
kinds (End.DestroySrq by s) = OfDomain ∷ OfSrq ∷ []
kinds (End.CreateQp by x send recv) = OfDomain ∷ OfQueue ∷ OfMailbox ∷ OfCq ∷ OfSrq ∷ []
kinds (End.ModifyQp by s q change) = OfQueue ∷ OfMailbox ∷ OfCq ∷ OfSrq ∷ []
kinds (End.DestroyQp by s q) = OfDomain ∷ OfQueue ∷ OfMailbox ∷ OfCq ∷ OfSrq ∷ []
kinds (End.PostSend by s request q None) = OfQueue ∷ OfCq ∷ []
kinds (End.PostSend by s request q (Some at)) = OfQueue ∷ OfCq ∷ OfWindow ∷ []
kinds (End.PostRecv by s request q) = OfQueue ∷ OfCq ∷ []
kinds (End.PostSrq by s request srq) = OfSrq ∷ []
kinds (End.Poll by s n least cq) = OfCq ∷ OfQueue ∷ OfSrq ∷ []
kinds (End.Store by adapter buffer offset bytes) = OfByte ∷ []
kinds (End.Inject by name bytes q i e) = OfByte ∷ turn_kinds ++ key_kinds
kinds (End.Deliver name index bytes q i e) = OfByte ∷ OfMailbox ∷ turn_kinds ++ key_kinds
kinds (End.Respond name lot q peer i e) = OfByte ∷ OfMailbox ∷ turn_kinds ++ key_kinds
kinds (End.Send name lot q peer n) = OfMailbox ∷ turn_kinds
kinds (End.Deny name lot q peer n d) = turn_kinds
kinds (End.Perform name lot q n) = turn_kinds ++ key_kinds
kinds (End.Timeout name hasten q silent) = turn_kinds
kinds (End.RnrWake name q) = OfQueue ∷ []
kinds e = []

-- what moves tell
abbrev pub moves_kinds : List MarkKind
moves_kinds = Completes ∷ Drops ∷ Fires ∷ []

abbrev pub touch_kinds : List MarkKind
touch_kinds = LocalDenied ∷ LocalWrote ∷ RemoteDenied ∷ RemoteRead ∷ RemoteWrote ∷ RemoteSwapped ∷ Revokes ∷ []

-- what a row tells
abbrev pub row_kinds : List MarkKind
row_kinds = touch_kinds ++ moves_kinds

abbrev pub sent_kinds : List MarkKind
sent_kinds = Sends ∷ Loses ∷ []

-- behind a verb's answer
abbrev pub mark_kinds : End → List MarkKind
mark_kinds (End.RegMr by s buffer offset count rights) = Grants ∷ []
mark_kinds (End.DeregMr by s o) = Revokes ∷ []
mark_kinds (End.DeallocMw by s o) = Revokes ∷ []
mark_kinds (End.ModifyQp by s q change) = Completes ∷ []
mark_kinds (End.PostSend by s request q o) = Completes ∷ []
mark_kinds (End.PostRecv by s request q) = Completes ∷ []
mark_kinds (End.Store by adapter buffer offset bytes) = Stores ∷ []
mark_kinds (End.Inject by name bytes q i e) = Arrives ∷ row_kinds
mark_kinds (End.Deliver name index bytes q i e) = Arrives ∷ row_kinds
mark_kinds (End.Respond name lot q peer i e) = row_kinds ++ sent_kinds
mark_kinds (End.Send name lot q peer n) = LocalRead ∷ sent_kinds
mark_kinds (End.Deny name lot q peer n d) = LocalDenied ∷ Completes ∷ []
mark_kinds (End.Perform name lot q n) = Completes ∷ Revokes ∷ Grants ∷ []
mark_kinds (End.Timeout name hasten q silent) = moves_kinds
mark_kinds e = []

-- ---- what misses it

-- no kind of a list passes a test
abbrev pub misses : {A : Type 0} → (A → Bool) → List A → Bool
misses reads [] = true
misses reads (k ∷ ks) = not (reads k) && misses reads ks

-- changes, and marks, of no kind that passes a test
abbrev pub AreOutside : (Kind → Bool) → List Update → Type 0
AreOutside reads [] = Unit {0}
AreOutside reads (u ∷ us) = (reads (kind_of u.name) ≡ false) × AreOutside reads us

abbrev pub AreUnheard : (MarkKind → Bool) → List Mark → Type 0
AreUnheard hears [] = Unit {0}
AreUnheard hears (m ∷ ms) = (hears (kind_of_mark m) ≡ false) × AreUnheard hears ms

pub outside-append : (reads : Kind → Bool) (us vs : List Update) → AreOutside reads us → AreOutside reads vs → AreOutside reads (us ++ vs)
outside-append reads [] vs one other = other
outside-append reads (u ∷ us) vs one other = (one.0, outside-append reads us vs one.1 other)

pub unheard-append : (hears : MarkKind → Bool) (ms ns : List Mark) → AreUnheard hears ms → AreUnheard hears ns → AreUnheard hears (ms ++ ns)
unheard-append hears [] ns one other = other
unheard-append hears (m ∷ ms) ns one other = (one.0, unheard-append hears ms ns one.1 other)

-- each kind of a list that is missed fails the test
abbrev pub AllMiss : {A : Type 0} → (A → Bool) → List A → Type 0
AllMiss reads [] = Unit {0}
AllMiss reads (k ∷ ks) = (reads k ≡ false) × AllMiss reads ks

pub all-miss : {A : Type 0} (reads : A → Bool) (ks : List A) → misses reads ks ≡ true → AllMiss reads ks
all-miss reads [] is = record {}
all-miss reads (k ∷ ks) is = by (reads k) refl is (all-miss reads ks)
  where
    by : (b : Bool) → reads k ≡ b → (not b && misses reads ks) ≡ true → (misses reads ks ≡ true → AllMiss reads ks) → AllMiss reads (k ∷ ks)
    by true e is rest = absurd (true≢false (sym is))
    by false e is rest = (e, rest is)

-- ---- the parts of changes that depend on what is there

module _ (reads : Kind → Bool) where
  pub shared-outside : (q : QueuePair) (a : Around) (f : SharedReceives → SharedReceives) → reads OfSrq ≡ false → AreOutside reads (srq_updates q a f)
  shared-outside q a f miss = by q.srq a.shared
    where
      updates : Option ℕ → Option SrqSlot → List Update
      updates (Some srq) (Some slot) = (Srq_of (srq_of q srq) := record slot { srq = option_map f slot.srq }) ∷ []
      updates srq slot = []

      by : (o : Option ℕ) (t : Option SrqSlot) → AreOutside reads (updates o t)
      by (Some srq) (Some slot) = (miss, record {})
      by o t = record {}

  pub turn-outside : (q : QueuePair) (a : Around) (e : Effects) → reads OfQueue ≡ false → reads OfCq ≡ false → reads OfSrq ≡ false → AreOutside reads (updates_of q a e)
  turn-outside q a e queue cq srq = (queue, (cq, (cq, by e.takes_shared)))
    where
      by : (b : Bool) → AreOutside reads (if b then srq_updates q a after_receive_take else [])
      by true = shared-outside q a after_receive_take srq
      by false = record {}

  pub gone-outside : (c : Configuration) (w : World) (i : Option Invalidation) → AllMiss reads key_kinds → AreOutside reads (option_map_or (ending_changes c w) i [])
  gone-outside c w None miss = record {}
  gone-outside c w (Some i) miss = by (names_region c i.domain i.key) (names_window c i.domain i.key)
    where
      slot : Slot
      slot = slot_of_key i.domain i.key

      window : Option Binding → List Update
      window None = []
      window (Some b) = (Window_of slot := without_binding (w.window slot)) ∷ (Region_of (region_under (w.window slot) b) := with_window_unbound (w.region (region_under (w.window slot) b))) ∷ []

      bound : (o : Option Binding) → AreOutside reads (window o)
      bound None = record {}
      bound (Some b) = (miss.1.0, (miss.0, record {}))

      by : (r y : Bool) → AreOutside reads (if r then (Region_of slot := after_region_invalidation (w.region slot)) ∷ [] else if y then window (w.window slot).binding else [])
      by true y = (miss.0, record {})
      by false true = bound (w.window slot).binding
      by false false = record {}

  pub sent-outside : (q : QueuePair) (peer : Correspondent) (m : Mailbox) (lot : Lot) (o : Option Packet) → reads OfMailbox ≡ false → AreOutside reads (option_map_or (sent_updates q peer m lot) o [])
  sent-outside q peer m lot None miss = record {}
  sent-outside q peer m lot (Some x) miss = by (reaches_peer q peer m)
    where
      by : (b : Bool) → AreOutside reads (if b then (Mailbox_of peer.queue := after_send lot x.bytes m) ∷ [] else [])
      by true = (miss, record {})
      by false = record {}

  pub user-outside : (x : Creation) (t : Option SrqSlot) → reads OfSrq ≡ false → AreOutside reads (user_updates x t)
  user-outside x t miss = by x.srq t
    where
      updates : Option ℕ → Option SrqSlot → List Update
      updates (Some srq) (Some slot) = (Srq_of (beside x.slot srq) := record slot { users = suc slot.users }) ∷ []
      updates srq slot = []

      by : (o : Option ℕ) (t : Option SrqSlot) → AreOutside reads (updates o t)
      by (Some srq) (Some slot) = (miss, record {})
      by o t = record {}

  pub left-outside : (q : QueuePair) (a : Around) → reads OfSrq ≡ false → AreOutside reads (left_updates q a)
  left-outside q a miss = by q.srq a.shared
    where
      updates : Option ℕ → Option SrqSlot → List Update
      updates (Some srq) (Some slot) = (Srq_of (record { domain = q.domain; slot = srq }) := record slot {
        srq = option_map (after_receives_retire (places_held q a)) slot.srq;
        users = slot.users - 1;
      }) ∷ []
      updates srq slot = []

      by : (o : Option ℕ) (t : Option SrqSlot) → AreOutside reads (updates o t)
      by (Some srq) (Some slot) = (miss, record {})
      by o t = record {}

  pub places-outside : (w : World) (s : Slot) (cq : CompletionQueue) (xs ys : List Completion) → reads OfQueue ≡ false → reads OfSrq ≡ false → AreOutside reads (places_freed w s cq xs ys)
  places-outside w s cq xs [] queue srq = record {}
  places-outside w s cq xs (y ∷ ys) queue srq = (by (source_of_completion cq y), places-outside w s cq xs ys queue srq)
    where
      freed : Option ℕ → Update
      freed None = Queue_of y.queue := slot_after_poll y.queue xs (w.queue y.queue)
      freed (Some srq) = Srq_of (record { domain = s.domain; slot = srq }) := record (w.srq (record { domain = s.domain; slot = srq })) {
        srq = option_map (receives_after_poll cq srq xs) (w.srq (record { domain = s.domain; slot = srq })).srq;
      }

      by : (o : Option ℕ) → reads (kind_of (freed o).name) ≡ false
      by None = queue
      by (Some n) = srq

  pub binder-outside : (w : World) (o : Option QueueId) → reads OfQueue ≡ false → AreOutside reads (binder_updates w o)
  binder-outside w None miss = record {}
  binder-outside w (Some q) miss = by (w.queue q)
    where
      by : (t : QueueSlot) → AreOutside reads (queue_updates q t)
      by (NoQueue incarnation timers) = record {}
      by (Present p) = (miss, record {})

  pub former-outside : (o : Option PlacedRegion) → reads OfRegion ≡ false → AreOutside reads (former_updates o)
  former-outside None miss = record {}
  former-outside (Some f) miss = (miss, record {})

  pub named-outside : (former o : Option PlacedRegion) → reads OfRegion ≡ false → AreOutside reads (named_updates former o)
  named-outside former None miss = record {}
  named-outside former (Some n) miss = (miss, record {})

  pub operation-outside : (c : Configuration) (w : World) (q : QueuePair) (n : Numbered) (op : SendOp) → reads OfRegion ≡ false → reads OfWindow ≡ false → AreOutside reads (done_by c w q n op).changes
  operation-outside c w q n (ops.Bind1 window key address count rights) region window-misses = (
    window-misses,
    outside-append reads (former_updates former) _ (former-outside former region) (by (count == 0)),
  )
    where
      former : Option PlacedRegion
      former = former_of w (w.window (window_slot q window)) (w.window (window_slot q window)).binding

      by : (b : Bool) → AreOutside reads (if b then [] else named_updates former (named_in c w q key))
      by true = record {}
      by false = named-outside former (named_in c w q key) region
  operation-outside c w q n (ops.Bind2 window key low address count rights) region window-misses = (window-misses, named-outside None (named_in c w q key) region)
  operation-outside c w q n (ops.FastReg place low buffer address count rights pages) region window-misses = (region, record {})
  operation-outside c w q n (ops.LocalInv key) region window-misses = gone-outside c w (Some (record { queue = q.queue; domain = q.domain; key = key })) (region, (window-misses, record {}))
  operation-outside c w q n op region window-misses = record {}

  pub unless-outside : (r : Option OpRefusal) (us : List Update) → AreOutside reads us → AreOutside reads (unless_none r us)
  unless-outside None us out = out
  unless-outside (Some r) us out = record {}

  -- the changes of each ending are of the kinds of its footprint
  pub changes-outside : (c : Configuration) (w : World) (e : End) → misses reads (kinds e) ≡ true → AreOutside reads (changed c w e)
  changes-outside c w e miss = by e (all-miss reads (kinds e) miss)
    where
      by : (e : End) → AllMiss reads (kinds e) → AreOutside reads (changed c w e)
      by (End.DeregMr b s o) m = m
      by (End.DeallocMw b s None) m = (m.0, (m.1.0, record {}))
      by (End.DeallocMw b s (Some x)) m = (m.0, (m.1.0, (m.1.1.0, binder-outside w x.queue m.1.1.1.0)))
      by (End.CreateQp b x send recv) m = (m.0, (m.1.0, (m.1.1.0, (m.1.1.1.0, (m.1.1.1.0, user-outside x (shared_beside w x) m.1.1.1.1.0)))))
      by (End.ModifyQp b s q changes.Error) m = (m.0, (m.1.1.0, (m.1.1.0, record {})))
      by (End.ModifyQp b s q changes.Reset) m = (m.0, (m.1.0, (m.1.1.0, (m.1.1.0, shared-outside q (near w q) _ m.1.1.1.0))))
      by (End.ModifyQp b s q (changes.Rtr peer incarnation psn mtu rnr_code)) m = (m.0, (m.1.0, record {}))
      by (End.ModifyQp b s q change) m = (m.0, record {})
      by (End.DestroyQp b s q) m = (m.0, (m.1.0, (m.1.1.0, (m.1.1.1.0, (m.1.1.1.0, left-outside q (near w q) m.1.1.1.1.0)))))
      by (End.PostSend b s request q None) m = m
      by (End.PostSend b s request q (Some at)) m = m
      by (End.Poll b s n least cq) m = (m.0, places-outside w s cq (take n cq.waiting) (take n cq.waiting) m.1.0 m.1.1.0)
      by (End.Store b adapter buffer offset bytes) m = record {}
      by (End.Inject b name bytes q i e) m = outside-append reads (updates_of q (near w q) e) _ (turn-outside q (near w q) e m.1.0 m.1.1.0 m.1.1.1.0) (gone-outside c w i m.1.1.1.1)
      by (End.Deliver name index bytes q i e) m = (m.1.0, outside-append reads (updates_of q (near w q) e) _ (turn-outside q (near w q) e m.1.1.0 m.1.1.1.0 m.1.1.1.1.0) (gone-outside c w i m.1.1.1.1.1))
      by (End.Respond name lot q peer i e) m = outside-append reads (updates_of q (near w q) e) _ (turn-outside q (near w q) e m.1.1.0 m.1.1.1.0 m.1.1.1.1.0)
          (outside-append reads (option_map_or (ending_changes c w) i []) _ (gone-outside c w i m.1.1.1.1.1) (sent-outside q peer (w.mailbox peer.queue) lot (packet_sent e) m.1.0))
      by (End.Send name lot q peer n) m = outside-append reads (updates_of q (near w q) (packet_of c w q n)) _ (turn-outside q (near w q) (packet_of c w q n) m.1.0 m.1.1.0 m.1.1.1.0)
          (sent-outside q peer (w.mailbox peer.queue) lot (packet_sent (packet_of c w q n)) m.0)
      by (End.Deny name lot q peer n d) m = outside-append reads (updates_of q (near w q) (denied_list_effects q d)) [] (turn-outside q (near w q) (denied_list_effects q d) m.0 m.1.0 m.1.1.0) (record {})
      by (End.Perform name lot q n) m = outside-append reads (updates_of q (near w q) (performed c w q n)) _ (turn-outside q (near w q) (performed c w q n) m.0 m.1.0 m.1.1.0)
          (unless-outside (done_by c w q n n.request.op).refusal (done_by c w q n n.request.op).changes (operation-outside c w q n n.request.op m.1.1.1.0 m.1.1.1.1.0))
      by (End.Timeout name hasten q silent) m = turn-outside q (near w q) (after_timeout silent q) m.0 m.1.0 m.1.1.0
      by e m = m

-- ---- the parts of marks

module _ (hears : MarkKind → Bool) where
  pub flush-unheard : (q : QueuePair) → hears Completes ≡ false → AreUnheard hears (flush_marks q)
  flush-unheard q miss = unheard-append hears (flushed_sends q.queue q.requester.oldest (items_from q.requester.oldest q.sends) ++ flushed_message q.queue q.responder.message) _
      (unheard-append hears (flushed_sends q.queue q.requester.oldest (items_from q.requester.oldest q.sends)) (flushed_message q.queue q.responder.message)
      (sends q.requester.oldest (items_from q.requester.oldest q.sends)) (message q.responder.message)) (own q.receives)
    where
      sends : (place : ℕ) (ps : List PostedSend) → AreUnheard hears (flushed_sends q.queue place ps)
      sends place [] = record {}
      sends place (p ∷ ps) = (miss, sends (suc place) ps)

      receives : (place : ℕ) (rs : List RecvRequest) → AreUnheard hears (flushed_receives q.queue place rs)
      receives place [] = record {}
      receives place (r ∷ rs) = (miss, receives (suc place) rs)

      message : (m : Option Message) → AreUnheard hears (flushed_message q.queue m)
      message (Some (messages.Send place receive bytes)) = (miss, record {})
      message m = record {}

      own : (o : Option (WorkQueue RecvRequest)) → AreUnheard hears (option_map_or (λ r. flushed_receives q.queue r.next_taken (items_from r.next_taken r)) o [])
      own None = record {}
      own (Some r) = receives r.next_taken (items_from r.next_taken r)

  pub success-unheard : (queue : QueueId) (place : ℕ) (request : SendRequest) → hears Completes ≡ false → AreUnheard hears (success_marks queue place request)
  success-unheard queue place request miss = by request.signalled
    where
      by : (b : Bool) → AreUnheard hears (if b then success_marks queue place (record request { signalled = true }) else [])
      by true = (miss, record {})
      by false = record {}

  pub finished-unheard : (queue : QueueId) (ns : List Numbered) → hears Completes ≡ false → AreUnheard hears (flat_map (λ n. success_marks queue n.place n.request) ns)
  finished-unheard queue [] miss = record {}
  finished-unheard queue (n ∷ ns) miss = unheard-append hears (success_marks queue n.place n.request) _ (success-unheard queue n.place n.request miss) (finished-unheard queue ns miss)

  pub failure-unheard : (status : WcStatus) (cause : Option OpRefusal) (q : QueuePair) → hears Completes ≡ false → AreUnheard hears (failure_effects status cause q).marks
  failure-unheard status cause q miss = by (items_from q.requester.oldest q.sends)
    where
      told : List PostedSend → List Mark
      told [] = flush_marks q
      told (p ∷ ps) = failure_mark q.queue q.requester.oldest p.request status cause ∷ flush_marks (without_oldest q)

      by : (ps : List PostedSend) → AreUnheard hears (told ps)
      by [] = flush-unheard q miss
      by (p ∷ ps) = (miss, flush-unheard (without_oldest q) miss)

  -- the marks of moves are of three kinds
  pub moves-unheard : (q p : QueuePair) (ms : List Mark) → AllMiss hears moves_kinds → Moves q p ms → AreUnheard hears ms
  moves-unheard q p ms miss (Moves.Progresses psn x) = finished-unheard (with_una psn x).queue (finished_requests (with_una psn x)) miss.0
  moves-unheard q p ms miss (Moves.Fails status cause x) = failure-unheard status cause x miss.0
  moves-unheard q p ms miss (Moves.Fires x silent) = (miss.1.1.0, record {})
  moves-unheard q p ms miss (Moves.Refuses code x) = flush-unheard x miss.0
  moves-unheard q p ms miss (Moves.Empties x) = flush-unheard x miss.0
  moves-unheard q p ms miss (Moves.Receives x y cause own is) = (miss.0, record {})
  moves-unheard q p ms miss (Moves.Drops x cause) = (miss.1.0, record {})
  moves-unheard q p ms miss (Moves.Then one other) = unheard-append hears _ _ (moves-unheard _ _ _ miss one) (moves-unheard _ _ _ miss other)
  moves-unheard q p ms miss moves = record {}

  pub writes-unheard : (xs : List (Ask × List ℕ)) → hears LocalWrote ≡ false → AreUnheard hears (local_writes xs)
  writes-unheard [] miss = record {}
  writes-unheard (x ∷ xs) miss = (miss, writes-unheard xs miss)

  pub reads-unheard : (asks : List Ask) (bytes : List (List ℕ)) → hears LocalRead ≡ false → AreUnheard hears (local_reads asks bytes)
  reads-unheard [] bytes miss = record {}
  reads-unheard (ask ∷ asks) [] miss = record {}
  reads-unheard (ask ∷ asks) (b ∷ bs) miss = (miss, reads-unheard asks bs miss)

  -- the marks of a touch
  pub touch-unheard : (s : Sight) (i : Option Invalidation) (ms : List Mark) (ws : List (Ask × List ℕ)) → AllMiss hears touch_kinds → Touch s i ms ws → AreUnheard hears ms
  touch-unheard s i ms ws miss (Touch.ListDenied d) = (miss.0, record {})
  touch-unheard s i ms ws miss (Touch.ListWritten queue domain skip pieces bytes) = writes-unheard (writes_by (list_asks queue domain access.Write skip (length bytes) pieces) bytes) miss.1.0
  touch-unheard s i ms ws miss (Touch.ListEnds j queue domain skip pieces bytes is) = unheard-append hears (local_writes (writes_by (list_asks queue domain access.Write skip (length bytes) pieces) bytes)) _ (writes-unheard (writes_by (list_asks queue domain access.Write skip (length bytes) pieces) bytes) miss.1.0) (miss.1.1.1.1.1.1.0, record {})
  touch-unheard s i ms ws miss (Touch.RemoteDenied d envelope) = (miss.1.1.0, record {})
  touch-unheard s i ms ws miss (Touch.RemoteRead q key kind address count touch envelope bytes) = (miss.1.1.1.0, record {})
  touch-unheard s i ms ws miss (Touch.RemoteWrote q key kind address count envelope bytes) = (miss.1.1.1.1.0, record {})
  touch-unheard s i ms ws miss (Touch.RemoteWroteNone q key kind address count envelope bytes is) = (miss.1.1.1.1.0, record {})
  touch-unheard s i ms ws miss (Touch.RemoteSwapped q key kind address envelope found put) = (miss.1.1.1.1.1.0, record {})
  touch-unheard s i ms ws miss touch = record {}

  all-append : (xs ys : List MarkKind) → AllMiss hears (xs ++ ys) → AllMiss hears xs × AllMiss hears ys
  all-append [] ys all = (record {}, all)
  all-append (x ∷ xs) ys all = ((all.0, (all-append xs ys all.1).0), (all-append xs ys all.1).1)

  -- the marks of a row
  pub row-unheard : (s : Sight) (q : QueuePair) (i : Option Invalidation) (e : Effects) → AllMiss hears row_kinds → RowEnds s q i e → AreUnheard hears e.marks
  row-unheard s q i e miss x = subst (AreUnheard hears) (sym x.marks) (unheard-append hears x.before (x.touched ++ x.behind) (moves-unheard q x.middle x.before parts.1 x.goes)
      (unheard-append hears x.touched x.behind (touch-unheard s i x.touched e.writes parts.0 x.touch) (moves-unheard _ e.queue x.behind parts.1 x.on)))
    where
      parts : AllMiss hears touch_kinds × AllMiss hears moves_kinds
      parts = all-append touch_kinds moves_kinds miss

  pub sent-unheard : (q : QueuePair) (peer : Correspondent) (m : Mailbox) (lot : Lot) (o : Option Packet) → AllMiss hears sent_kinds → AreUnheard hears (option_map_or (sent_marks q peer m lot) o [])
  sent-unheard q peer m lot None miss = record {}
  sent-unheard q peer m lot (Some x) miss = by (reaches_peer q peer m) (is_lost lot)
    where
      by : (b z : Bool) → AreUnheard hears (if b
          then marks.Sent q.queue peer.queue (Some m.next) x.request x.bytes ∷ (if z then marks.Lost peer.queue (Some m.next) ∷ [] else [])
          else marks.Sent q.queue peer.queue None x.request x.bytes ∷ marks.Lost peer.queue None ∷ [])
      by true true = miss
      by true false = (miss.0, record {})
      by false z = miss

  pub operation-unheard : (q : QueuePair) (n : Numbered) (p : QueuePair) (m : LocalMarks) (r : Option OpRefusal) → AllMiss hears (Completes ∷ Revokes ∷ Grants ∷ []) → AreUnheard hears (operation_effects q n p m r).marks
  operation-unheard q n p m (Some cause) miss = failure-unheard MemoryManagement (Some cause) q miss.0
  operation-unheard q n p m None miss = unheard-append hears (local_marks q m) (success_marks q.queue n.place n.request)
      (unheard-append hears (option_map_or (λ key. marks.Revoked q.queue.adapter key ∷ []) m.revoked []) _ (revoked m.revoked) (granted m.granted)) (success-unheard q.queue n.place n.request miss.0)
    where
      revoked : (o : Option Key) → AreUnheard hears (option_map_or (λ key. marks.Revoked q.queue.adapter key ∷ []) o [])
      revoked None = record {}
      revoked (Some key) = (miss.1.0, record {})

      granted : (o : Option Grant) → AreUnheard hears (option_map_or (λ g. marks.Granted g ∷ []) o [])
      granted None = record {}
      granted (Some g) = (miss.1.1.0, record {})

  pub flushed-unheard : (q : QueuePair) → hears Completes ≡ false → AreUnheard hears (marks_of_flush q)
  flushed-unheard q miss = by (state_eq q.state states.Error)
    where
      by : (b : Bool) → AreUnheard hears (if b then flush_marks q else [])
      by true = flush-unheard q miss
      by false = record {}

  -- the marks of each ending are of the kinds of its footprint
  pub marks-unheard : (c : Configuration) (w : World) (e : End) → IsSo c w e → misses hears (mark_kinds e) ≡ true → AreUnheard hears (more c w e)
  marks-unheard c w e so miss = by e so (all-miss hears (mark_kinds e) miss)
    where
      turned : (lot : Lot) (q : QueuePair) (peer : Correspondent) (i : Option Invalidation) (x : Effects) → AllMiss hears (row_kinds ++ sent_kinds) → RowEnds (sight_in c w) q i x → AreUnheard hears (turn_marks w lot q peer x)
      turned lot q peer i x m ends = unheard-append hears x.marks _ (row-unheard (sight_in c w) q i x (all-append row_kinds sent_kinds m).0 ends)
          (sent-unheard q peer (w.mailbox peer.queue) lot (packet_sent x) (all-append row_kinds sent_kinds m).1)

      by : (e : End) → IsSo c w e → AllMiss hears (mark_kinds e) → AreUnheard hears (more c w e)
      by (End.DeregMr b s None) so m = record {}
      by (End.DeregMr b s (Some g)) so m = m
      by (End.DeallocMw b s None) so m = record {}
      by (End.DeallocMw b s (Some x)) so m = m
      by (End.ModifyQp b s q changes.Error) so m = flush-unheard q m.0
      by (End.ModifyQp b s q change) so m = record {}
      by (End.PostSend b s request q o) so m = flushed-unheard (sending w request o q) m.0
      by (End.PostRecv b s request q) so m = flushed-unheard (receiving request q) m.0
      by (End.Inject b name bytes q i x) so m = (m.0, row-unheard (sight_in c w) q i x m.1 so.1.ends)
      by (End.Deliver name index bytes q i x) so m = (m.0, row-unheard (sight_in c w) q i x m.1 so.2.ends)
      by (End.Respond name lot q peer i x) so m = turned lot q peer i x m so.2.ends
      by (End.Send name lot q peer n) so m = unheard-append hears (packet_of c w q n).marks _ (reads-unheard (packet_asks q n) (map (bytes_in (sight_in c w)) (packet_asks q n)) m.0)
          (sent-unheard q peer (w.mailbox peer.queue) lot (packet_sent (packet_of c w q n)) m.1)
      by (End.Deny name lot q peer n d) so m = (m.0, failure-unheard LocalProtection None q m.1.0)
      by (End.Perform name lot q n) so m = operation-unheard q n (done_by c w q n n.request.op).after (done_by c w q n n.request.op).marks (done_by c w q n n.request.op).refusal m
      by (End.Timeout name hasten q silent) so m = moves-unheard q (after_timeout silent q).queue (after_timeout silent q).marks m (timeout-moves q silent)
      by e so m = m

-- ---- what is kept

-- a relation of past and world that no change outside and no mark unheard touches
pub record Frame (R : Past → World → Type 0) (reads : Kind → Bool) (hears : MarkKind → Bool) : Type 0 where
  pub put : (p : Past) (w : World) (n : Name) (x : Thing n) → reads (kind_of n) ≡ false → R p w → R p (put w n x)
  pub write : (p : Past) (w : World) (byte : ByteMap) → reads OfByte ≡ false → R p w → R p (record w { byte = byte })
  pub mark : (p : Past) (w : World) (m : Mark) → hears (kind_of_mark m) ≡ false → R p w → R (after_mark m p) w

module _ (R : Past → World → Type 0) (reads : Kind → Bool) (hears : MarkKind → Bool) (frame : Frame R reads hears) where
  pub kept-puts : (p : Past) (w : World) (us : List Update) → AreOutside reads us → R p w → R p (put_all us w)
  kept-puts p w [] out r = r
  kept-puts p w (u ∷ us) out r = kept-puts p (put w u.name u.thing) us out.1 (frame.put p w u.name u.thing out.0 r)

  pub kept-writes : (p : Past) (w : World) (ws : List Write) → reads OfByte ≡ false → R p w → R p (write_all ws w)
  kept-writes p w [] miss r = r
  kept-writes p w (x ∷ xs) miss r = kept-writes p (record w { byte = memory_after w.byte x.runs x.bytes }) xs miss (frame.write p w (memory_after w.byte x.runs x.bytes) miss r)

  pub kept-marks : (p : Past) (w : World) (ms : List Mark) → AreUnheard hears ms → R p w → R (after_marks ms p) w
  kept-marks p w [] un r = r
  kept-marks p w (m ∷ ms) un r = kept-marks (after_mark m p) w ms un.1 (frame.mark p w m un.0 r)

  written : (c : Configuration) (w v : World) (p : Past) (e : End) → AllMiss reads (kinds e) → R p v → R p (write_all (writes c w e) v)
  written c w v p (End.Store b adapter buffer offset bytes) m r = kept-writes p v (writes c w (End.Store b adapter buffer offset bytes)) m.0 r
  written c w v p (End.Inject b name bytes q i x) m r = kept-writes p v (writes c w (End.Inject b name bytes q i x)) m.0 r
  written c w v p (End.Deliver name index bytes q i x) m r = kept-writes p v (writes c w (End.Deliver name index bytes q i x)) m.0 r
  written c w v p (End.Respond name lot q peer i x) m r = kept-writes p v (writes c w (End.Respond name lot q peer i x)) m.0 r
  written c w v p e m r = r

  -- an ending whose footprint misses what the relation reads and hears keeps it
  pub quiet : (c : Configuration) (w : World) (past : Past) (e : End) → IsSo c w e → (misses reads (kinds e) && misses hears (mark_kinds e)) ≡ true → R (start c w past e) w
      → R (after_marks (more c w e) (start c w past e)) (after c w e)
  quiet c w past e so miss r = kept-marks (start c w past e) (after c w e) (more c w e) (marks-unheard hears c w e so (and_parts (misses reads (kinds e)) (misses hears (mark_kinds e)) miss).1)
      (written c w (put_all (changed c w e) w) (start c w past e) e (all-miss reads (kinds e) (and_parts (misses reads (kinds e)) (misses hears (mark_kinds e)) miss).0)
      (kept-puts (start c w past e) w (changed c w e) (changes-outside reads c w e (and_parts (misses reads (kinds e)) (misses hears (mark_kinds e)) miss).0) r))
