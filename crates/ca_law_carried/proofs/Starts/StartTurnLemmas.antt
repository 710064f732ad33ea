-- Turns and packets keep the agreement on PSNs. For proofs only.
use Rattle.std.proofs.Common.{Bool, List, None, Option, Some, [], ap, false, if◌then◌else◌, option_map, refl, rules, subst, subst₂, sym, true, ℕ, ◌&&◌, ◌++◌, ◌+◌, ◌∙◌, ◌∷◌, ◌≡◌, ◌≤◌}
use Rattle.std.specs.Option.{option_map_or}
use Rattle.ca_law_endings.proofs.InnerLemmas.{AreOwn, IsInner, IsOwnMark, arrival-inner, packet-inner, respond-inner, timeout-inner}
use Rattle.ca_law_endings.proofs.LeadsLemmas.{AreAside, IsAsideName, leads-around, leads-queue, leads-row, leads-unless}
use Rattle.ca_law_endings.proofs.PathChangeLemmas.{Behind}
use Rattle.ca_law_endings.proofs.PathLemmas.{puts-append}
use Rattle.ca_law_endings.proofs.PathVerbLemmas.{call_of}
use Rattle.ca_law_endings.specs.Runs.{Leads}
use Rattle.ca_law_keys.proofs.Keys.KeyTurnLemmas.{found}
use Rattle.ca_law_keys.proofs.Posts.GoingLemmas.{failure-goes}
use Rattle.ca_law_keys.proofs.Posts.PlaceLemmas.{IsPerformed, performs}
use Rattle.ca_law_keys.proofs.Posts.PostLemmas.{AreNoAnswers, IsNoAnswer, answers-append, keyless-no}
use Rattle.ca_law_keys.proofs.Posts.PostTurnLemmas.{sent-quiet}
use Rattle.ca_law_keys.specs.Posts.{AgreeInSlot, AgreeOnSends, PostsAgree, life}
use Rattle.ca_law_carried.proofs.Starts.MoveLemmas.{IsMoved, Moves, arrival-moved, moved-same, operation-moved, packet-moved, respond-moved, timeout-moved, wake-moved}
use Rattle.ca_law_carried.proofs.Starts.NumberLemmas.{Linked}
use Rattle.ca_law_carried.proofs.Starts.PerformLemmas.{leads-local}
use Rattle.ca_law_carried.specs.Starts.{AgreeOnStart, AgreeOnStarts, HasBegun, StartsAgree, StartsInSlot, psns_before, start_in}
use Rattle.ca_base.specs.Configuration.{Configuration}
use Rattle.ca_base.specs.declared.completion.WcStatus.TheVariants.{MemoryManagement}
use Rattle.ca_base.specs.declared.correspondent.Correspondent.{Correspondent}
use Rattle.ca_base.specs.declared.lot.Lot.{Lot}
use Rattle.ca_base.specs.declared.queue_numbers.RequesterNumbers.{RequesterNumbers}
use Rattle.ca_base.specs.declared.refusals.OpRefusal.{OpRefusal}
use Rattle.ca_base.specs.objects.CompletionQueue.{after_puts}
use Rattle.ca_base.specs.objects.LocalRequest.{LocalMarks}
use Rattle.ca_base.specs.objects.Mailbox.{Mailbox, after_delivery, after_send, bytes_lent}
use Rattle.ca_base.specs.objects.QueuePair.{NoQueue, Present, QueuePair, QueueSlot, recv_cq_of, send_cq_of, srq_of}
use Rattle.ca_base.specs.objects.SharedReceives.{SrqSlot, after_receive_take}
use Rattle.ca_keys.specs.Equal.{queue_eq}
use Rattle.ca_keys.specs.Memory.{memory_after}
use Rattle.ca_keys.specs.declared.grant.Grant.{Grant}
use Rattle.ca_keys.specs.declared.key.Key.{Key}
use Rattle.ca_keys.specs.declared.names.QueueId.{QueueId}
use Rattle.ca_law_world.proofs.Sound.SettledLemmas.{queue-path}
use Rattle.ca_law_world.proofs.Sound.WorldLemmas.{EndingDoes, IsThere, RowDoes, around_in, shared_of}
use Rattle.ca_law_world.proofs.Steady.TurnLemmas.{there-kept}
use Rattle.ca_law_world.specs.Steady.{IsSteadyWorld}
use Rattle.ca_model.specs.Past.{Past, Posted, Start, after_mark, after_marks, at_begin, present_incarnation, start_of, whole_start, with_at}
use Rattle.ca_model.specs.declared.answer.Refusal.TheVariants.{NoSuch}
use Rattle.ca_model.specs.declared.event.Event.{Event}
use Rattle.ca_model.specs.declared.mark.Mark.{Mark}
use Rattle.ca_model.specs.machine.Around.{Around, With_around, completions_to, shared_in, srq_updates, updates_of}
use Rattle.ca_model.specs.machine.Completions.{success_marks}
use Rattle.ca_model.specs.machine.Delivery.{Arrive, arrival_row, deliver_plan}
use Rattle.ca_model.specs.machine.HostVerbs.{inject_plan}
use Rattle.ca_model.specs.machine.Invariants.{is_fresh, is_sending}
use Rattle.ca_model.specs.machine.LocalOperations.{local_marks, operation_effects}
use Rattle.ca_model.specs.machine.Numbering.{Numbered}
use Rattle.ca_model.specs.machine.Plan.{Finish, Look, Plan, Stuck, Update, Write, put_all, unless_refused, write_all, ◌:=◌}
use Rattle.ca_model.specs.machine.Requester.{Performs, RequestTurn, Sends, Waits, packet_row, turn_of}
use Rattle.ca_model.specs.machine.Respond.{respond_refusals, respond_row}
use Rattle.ca_model.specs.machine.Row.{Does, Effects, Ending, NotPossible, Row, Row_plan}
use Rattle.ca_model.specs.machine.Sound.{IsSoundWorld}
use Rattle.ca_model.specs.machine.Timers.{after_timeout, after_wake, timeout_refusals, wake_refusals}
use Rattle.ca_model.specs.machine.Turns.{Fire, Leave_plan, Packet, Request_around, Respond_around, Timeout_around, With_receives, has_room_for, packet_sent, reaches_peer, request_plan, respond_plan, sent_marks, sent_updates, timeout_plan, wake_plan}
use Rattle.ca_model.specs.machine.VerbAnswers.{Call, Refuse_plan, answer_mark}
use Rattle.ca_model.specs.machine.World.{Byte_at, Cq_of, Domain_of, Mailbox_of, Name, Queue_of, Region_of, Srq_of, Thing, Window_of, World, put}
use Rattle.ca_model.specs.declared.answer.Answer.TheVariants as answers
use Rattle.ca_model.specs.declared.event.Event.TheVariants as events
use Rattle.ca_model.specs.declared.mark.Mark.TheVariants as marks
use Rattle.ca_base.specs.declared.step.Reason.TheVariants as reasons
use Rattle.ca_model.specs.declared.verb.Verb.TheVariants as verbs

-- ---- slots

-- what stands in a slot agrees with all with which another agreed
abbrev pub IsKeptSlot : QueueSlot → QueueSlot → Type 0
IsKeptSlot s t = (start : Option Start) (posted : List Posted) → StartsInSlot start posted s → StartsInSlot start posted t

pub begun-same : (start : Option Start) (posted : List Posted) (q p : QueuePair) → p.requester ≡ q.requester → p.responder.mtu ≡ q.responder.mtu → HasBegun start posted q → HasBegun start posted p
begun-same None posted q p requester mtu begun = begun
begun-same (Some start) posted q p requester mtu begun = ap (λ (r : RequesterNumbers). r.oldest_psn) requester ∙ begun ∙ (λ i. whole_start start + psns_before (sym mtu i) posted (sym requester i).oldest)

-- a queue pair in the same state, with the same requester and path MTU
pub same-slot : (q p : QueuePair) → p.state ≡ q.state → p.requester ≡ q.requester → p.responder.mtu ≡ q.responder.mtu → IsKeptSlot (Present q) (Present p)
same-slot q p state requester mtu start posted agree = record {
  fresh = λ is. agree.fresh (sym (ap is_fresh state) ∙ is);
  begun = λ is. begun-same start posted q p requester mtu (agree.begun (sym (ap is_sending state) ∙ is));
}

-- a change that leaves what queue pairs agree with
abbrev pub IsKept : World → (n : Name) → Thing n → Type 0
IsKept w (Queue_of q) s = IsKeptSlot (w.queue q) s
IsKept w n x = Unit {0}

abbrev pub AreKept : World → List Update → Type 0
AreKept w [] = Unit {0}
AreKept w (u ∷ us) = IsKept w u.name u.thing × AreKept w us

pub kept-append : (w : World) (us vs : List Update) → AreKept w us → AreKept w vs → AreKept w (us ++ vs)
kept-append w [] vs one other = other
kept-append w (u ∷ us) vs one other = (one.0, kept-append w us vs one.1 other)

-- a world in which each slot agrees with what it agreed with in another
abbrev pub KeepsStarts : World → World → Type 0
KeepsStarts w v = (n : QueueId) → IsKeptSlot (w.queue n) (v.queue n)

pub same-world : (w : World) → KeepsStarts w w
same-world w = λ n start posted agree. agree

slot-put : (f g : QueueId → QueueSlot) (q : QueueId) (x : QueueSlot) → IsKeptSlot (f q) x → ((n : QueueId) → IsKeptSlot (f n) (g n)) → (n : QueueId) (b : Bool) → queue_eq q n ≡ b → IsKeptSlot (f n) (if b then x else g n)
slot-put f g q x one other n true e = subst (λ m. IsKeptSlot (f m) x) (queue-path q n e) one
slot-put f g q x one other n false e = other n

kept-put : (w v : World) (n : Name) (x : Thing n) → IsKept w n x → KeepsStarts w v → KeepsStarts w (put v n x)
kept-put w v (Queue_of q) x kept keeps = λ n. slot-put w.queue v.queue q x kept keeps n (queue_eq q n) refl
kept-put w v (Region_of s) x kept keeps = keeps
kept-put w v (Domain_of d) x kept keeps = keeps
kept-put w v (Window_of s) x kept keeps = keeps
kept-put w v (Cq_of s) x kept keeps = keeps
kept-put w v (Srq_of s) x kept keeps = keeps
kept-put w v (Mailbox_of q) x kept keeps = keeps
kept-put w v (Byte_at p) x kept keeps = keeps

pub kept-puts : (w v : World) (us : List Update) → AreKept w us → KeepsStarts w v → KeepsStarts w (put_all us v)
kept-puts w v [] kept keeps = keeps
kept-puts w v (u ∷ us) kept keeps = kept-puts w (put v u.name u.thing) us kept.1 (kept-put w v u.name u.thing kept.0 keeps)

pub kept-writes : (w : World) (ws : List Write) (v : World) → KeepsStarts w v → KeepsStarts w (write_all ws v)
kept-writes w [] v keeps = keeps
kept-writes w (x ∷ xs) v keeps = kept-writes w xs (record v { byte = memory_after v.byte x.runs x.bytes }) keeps

aside-one : (w : World) (n : Name) (x : Thing n) → IsAsideName n → IsKept w n x
aside-one w (Region_of s) x aside = record {}
aside-one w (Window_of s) x aside = record {}
aside-one w (Domain_of d) x aside = absurd aside
aside-one w (Cq_of s) x aside = absurd aside
aside-one w (Srq_of s) x aside = absurd aside
aside-one w (Queue_of q) x aside = absurd aside
aside-one w (Mailbox_of q) x aside = absurd aside
aside-one w (Byte_at p) x aside = absurd aside

pub kept-aside : (w : World) (us : List Update) → AreAside us → AreKept w us
kept-aside w [] aside = record {}
kept-aside w (u ∷ us) aside = (aside-one w u.name u.thing aside.0, kept-aside w us aside.1)

pub srq-kept : (w : World) (q : QueuePair) (a : Around) (b : Bool) → AreKept w (if b then srq_updates q a after_receive_take else [])
srq-kept w q a false = record {}
srq-kept w q a true = by q.srq a.shared
  where
    updates : Option ℕ → Option SrqSlot → List Update
    updates (Some srq) (Some slot) = (Srq_of (srq_of q srq) := record slot { srq = option_map after_receive_take slot.srq }) ∷ []
    updates srq slot = []

    by : (o : Option ℕ) (t : Option SrqSlot) → AreKept w (updates o t)
    by None t = record {}
    by (Some srq) None = record {}
    by (Some srq) (Some slot) = (record {}, record {})

-- ---- pasts

-- two pasts that say the same of PSNs
pub record SameStarts (p r : Past) : Type 0 where
  pub incarnation : r.incarnation ≡ p.incarnation
  pub starts : r.starts ≡ p.starts
  pub posted : r.posted ≡ p.posted

same-one : (m : Mark) → IsNoAnswer m → (p r : Past) → SameStarts p r → SameStarts p (after_mark m r)
same-one (marks.Verb by verb answer) none p r same = absurd none
same-one (marks.Sent source target index request bytes) none p r same = record { incarnation = same.incarnation; starts = same.starts; posted = same.posted }
same-one (marks.Lost target None) none p r same = record { incarnation = same.incarnation; starts = same.starts; posted = same.posted }
same-one (marks.Lost target (Some index)) none p r same = record { incarnation = same.incarnation; starts = same.starts; posted = same.posted }
same-one (marks.Granted g) none p r same = record { incarnation = same.incarnation; starts = same.starts; posted = same.posted }
same-one (marks.Revoked adapter key) none p r same = record { incarnation = same.incarnation; starts = same.starts; posted = same.posted }
same-one (marks.Remote queue domain envelope key kind address count verdict) none p r same = record { incarnation = same.incarnation; starts = same.starts; posted = same.posted }
same-one (marks.Local queue domain key kind address count verdict) none p r same = record { incarnation = same.incarnation; starts = same.starts; posted = same.posted }
same-one (marks.Stored place bytes) none p r same = record { incarnation = same.incarnation; starts = same.starts; posted = same.posted }
same-one (marks.Arrived target index) none p r same = record { incarnation = same.incarnation; starts = same.starts; posted = same.posted }
same-one (marks.Dropped target cause) none p r same = record { incarnation = same.incarnation; starts = same.starts; posted = same.posted }
same-one (marks.Timer queue silent) none p r same = record { incarnation = same.incarnation; starts = same.starts; posted = same.posted }
same-one (marks.Done queue x cause) none p r same = record { incarnation = same.incarnation; starts = same.starts; posted = same.posted }

pub same-marks : (ms : List Mark) → AreNoAnswers ms → (p r : Past) → SameStarts p r → SameStarts p (after_marks ms r)
same-marks [] none p r same = same
same-marks (m ∷ ms) none p r same = same-marks ms none.1 p (after_mark m r) (same-one m none.0 p r same)

own-one : (m : Mark) → IsOwnMark m → IsNoAnswer m
own-one (marks.Verb by verb answer) own = absurd own
own-one (marks.Granted g) own = record {}
own-one (marks.Revoked adapter key) own = record {}
own-one (marks.Stored place bytes) own = record {}
own-one (marks.Remote queue domain envelope key kind address count verdict) own = record {}
own-one (marks.Local queue domain key kind address count verdict) own = record {}
own-one (marks.Sent source target index request bytes) own = record {}
own-one (marks.Lost target index) own = record {}
own-one (marks.Arrived target index) own = record {}
own-one (marks.Dropped target cause) own = record {}
own-one (marks.Timer queue silent) own = record {}
own-one (marks.Done queue x cause) own = record {}

pub own-no : (ms : List Mark) → AreOwn ms → AreNoAnswers ms
own-no [] own = record {}
own-no (m ∷ ms) own = (own-one m own.0, own-no ms own.1)

-- the agreement over a past and a world that say the same
pub agree-kept : (p r : Past) (w v : World) → SameStarts p r → KeepsStarts w v → StartsAgree p w → StartsAgree r v
agree-kept p r w v same keeps agree = λ n. keeps n (start_in r.starts (life n (r.incarnation n))) (r.posted (life n (r.incarnation n)))
    (subst₂ (λ o ps. StartsInSlot o ps (w.queue n)) (λ i. start_in (sym same.starts i) (life n (sym same.incarnation i n))) (λ i. sym same.posted i (life n (sym same.incarnation i n))) (agree n))

-- ---- turns

-- a world that comes up, and a past that agrees with it on posted requests and on PSNs
pub record IsReady (c : Configuration) (past : Past) (w : World) : Type 0 where
  pub sound : IsSoundWorld c w
  pub steady : IsSteadyWorld w
  pub posts : PostsAgree past w
  pub agree : StartsAgree past w

abbrev pub posted_of : Past → QueueId → List Posted
posted_of p n = p.posted (present_incarnation p n)

-- effects that leave a queue pair on its way, and answer no verb
abbrev pub GoesWell : List Posted → QueuePair → Effects → Type 0
GoesWell posted q e = AreNoAnswers e.marks × ((base : ℕ) → Moves base posted q e)

both-ending : (posted : List Posted) (q : QueuePair) (e : Ending) → EndingDoes (IsInner q) e → ((base : ℕ) → EndingDoes (Moves base posted q) e) → EndingDoes (GoesWell posted q) e
both-ending posted q (NotPossible reason) inner moves = record {}
both-ending posted q (Does e) inner moves = (own-no e.marks inner.marks, moves)

pub both-rows : (posted : List Posted) (q : QueuePair) (row : Row) → RowDoes (IsInner q) row → ((base : ℕ) → RowDoes (Moves base posted q) row) → RowDoes (GoesWell posted q) row
both-rows posted q row inner moves = record {
  denied = λ d. both-ending posted q (row.denied d) (inner.denied d) (λ base. (moves base).denied d);
  allowed = λ bytes refusal. both-ending posted q (row.allowed bytes refusal) (inner.allowed bytes refusal) (λ base. (moves base).allowed bytes refusal);
}

pub start-at : (p : Past) (w : World) (q : QueuePair) → StartsAgree p w → w.queue q.queue ≡ Present q → AgreeOnStart (start_of p q.queue) (posted_of p q.queue) q
start-at p w q agree is = subst (StartsInSlot (start_of p q.queue) (posted_of p q.queue)) is (agree q.queue)

pub posts-at : (p : Past) (w : World) (q : QueuePair) → PostsAgree p w → w.queue q.queue ≡ Present q → AgreeOnSends (posted_of p q.queue) (p.performed (present_incarnation p q.queue)) q
posts-at p w q agree is = subst (λ s. AgreeInSlot (posted_of p q.queue) (p.performed (present_incarnation p q.queue)) s) is (agree.sends q.queue)

moved-begun : (start : Option Start) (posted : List Posted) (q p : QueuePair) → ((base : ℕ) → IsMoved base posted q p) → is_sending p.state ≡ true → q.sends.first ≤ q.requester.oldest → Linked posted q.sends
    → HasBegun start posted q → HasBegun start posted p
moved-begun None posted q p moves is low linked begun = begun
moved-begun (Some start) posted q p moves is low linked begun = (moves (whole_start start)).stands is low linked begun

-- effects leave the agreement
pub turn-agrees : (c : Configuration) (past r : Past) (w : World) (q : QueuePair) (e : Effects) (rest : List Update) (ws : List Write) → IsReady c past w → w.queue q.queue ≡ Present q
    → q.sends.first ≤ q.requester.oldest → ((base : ℕ) → Moves base (posted_of past q.queue) q e) → SameStarts past r → ((v : World) → AreKept v rest)
    → StartsAgree r (write_all ws (put_all ((Queue_of q.queue := Present e.queue) ∷ rest) w))
turn-agrees c past r w q e rest ws ready is low moves same kept = agree-kept past r v (write_all ws (put_all rest v)) same (kept-writes v ws (put_all rest v) (kept-puts v v rest (kept v) (same-world v))) moved
  where
    v : World
    v = put w (Queue_of q.queue) (Present e.queue)

    own : AgreeOnStart (start_of past q.queue) (posted_of past q.queue) q
    own = start-at past w q ready.agree is

    after : AgreeOnStart (start_of past q.queue) (posted_of past q.queue) e.queue
    after = record {
      fresh = λ so. own.fresh ((moves 0).fresh so);
      begun = λ so. moved-begun (start_of past q.queue) (posted_of past q.queue) q e.queue moves so low (posts-at past w q ready.posts is).items (own.begun ((moves 0).sending so));
    }

    moved : StartsAgree past v
    moved = λ n. at n (queue_eq q.queue n) refl
      where
        at : (n : QueueId) (b : Bool) → queue_eq q.queue n ≡ b → StartsInSlot (start_of past n) (posted_of past n) (if b then Present e.queue else w.queue n)
        at n true path = subst (λ k. StartsInSlot (start_of past k) (posted_of past k) (Present e.queue)) (queue-path q.queue n path) after
        at n false other = ready.agree n

-- what an event that ends so leaves of the agreement
abbrev pub Agrees : Past → Event → World → List Mark → Type 0
Agrees past event v ms = StartsAgree (after_marks ms (at_begin event past)) v

sent-kept : (v : World) (q : QueuePair) (peer : Correspondent) (m : Mailbox) (lot : Lot) (o : Option Packet) → AreKept v (option_map_or (sent_updates q peer m lot) o [])
sent-kept v q peer m lot None = record {}
sent-kept v q peer m lot (Some x) = by (reaches_peer q peer m)
  where
    by : (b : Bool) → AreKept v (if b then (Mailbox_of peer.queue := after_send lot x.bytes m) ∷ [] else [])
    by true = (record {}, record {})
    by false = record {}

begin-same : (past : Past) (event : Event) → SameStarts past (at_begin event past)
begin-same past event = record { incarnation = refl; starts = refl; posted = refl }

-- a turn's row, and what it sends
starts-left : (c : Configuration) (past : Past) (event : Event) (w : World) (q : QueuePair) (peer : Correspondent) (lot : Lot) (row : Row) → IsReady c past w → IsThere w q → RowDoes (GoesWell (posted_of past q.queue) q) row
    → Leads w (Agrees past event) (Row_plan c row (Leave_plan q (around_in w q (shared_of w q)) peer (w.mailbox peer.queue) lot))
starts-left c past event w q peer lot row ready there does = leads-row c w (Agrees past event) (GoesWell (posted_of past q.queue) q) row (Leave_plan q a peer m lot) does
    (λ e cs ws goes aside. turn-agrees c past (after_marks (e.marks ++ tells e) (at_begin event past)) w q e
    ((Cq_of (send_cq_of q) := option_map (after_puts (completions_to q q.send_cq e.marks)) a.send)
    ∷ (Cq_of (recv_cq_of q) := option_map (after_puts (completions_to q q.recv_cq e.marks)) a.recv)
    ∷ ((if e.takes_shared then srq_updates q a after_receive_take else []) ++ (cs ++ sends e))) ws ready there.present there.sound.requester.finished goes.1
    (same-marks (e.marks ++ tells e) (answers-append e.marks (tells e) goes.0 (sent-quiet q peer m lot (packet_sent e))) past (at_begin event past) (begin-same past event))
    (λ u. (
      record {},
      (
        record {},
        kept-append u (if e.takes_shared then srq_updates q a after_receive_take else []) (cs ++ sends e) (srq-kept u q a e.takes_shared)
            (kept-append u cs (sends e) (kept-aside u cs aside) (sent-kept u q peer m lot (packet_sent e))),
      ),
    )))
  where
    a : Around
    a = around_in w q (shared_of w q)

    m : Mailbox
    m = w.mailbox peer.queue

    tells : Effects → List Mark
    tells e = option_map_or (sent_marks q peer m lot) (packet_sent e) []

    sends : Effects → List Update
    sends e = option_map_or (sent_updates q peer m lot) (packet_sent e) []

-- effects that send nothing
starts-alone : (c : Configuration) (past r : Past) (w : World) (q : QueuePair) (e : Effects) (cs : List Update) (ws : List Write) → IsReady c past w → IsThere w q → ((base : ℕ) → Moves base (posted_of past q.queue) q e)
    → SameStarts past r → AreAside cs → StartsAgree r (write_all ws (put_all (updates_of q (around_in w q (shared_of w q)) e ++ cs) w))
starts-alone c past r w q e cs ws ready there moves same aside = turn-agrees c past r w q e
    ((Cq_of (send_cq_of q) := option_map (after_puts (completions_to q q.send_cq e.marks)) a.send)
    ∷ (Cq_of (recv_cq_of q) := option_map (after_puts (completions_to q q.recv_cq e.marks)) a.recv)
    ∷ ((if e.takes_shared then srq_updates q a after_receive_take else []) ++ cs)) ws ready there.present there.sound.requester.finished moves same
    (λ u. (record {}, (record {}, kept-append u (if e.takes_shared then srq_updates q a after_receive_take else []) cs (srq-kept u q a e.takes_shared) (kept-aside u cs aside))))
  where
    a : Around
    a = around_in w q (shared_of w q)

success-quiet : (q : QueuePair) (n : Numbered) (b : Bool) → AreNoAnswers (if b then success_marks q.queue n.place (record n.request { signalled = true }) else [])
success-quiet q n true = (record {}, record {})
success-quiet q n false = record {}

local-quiet : (q : QueuePair) (k : Option Key) (g : Option Grant) → AreNoAnswers (option_map_or (λ key. marks.Revoked q.queue.adapter key ∷ []) k [] ++ option_map_or (λ g. marks.Granted g ∷ []) g [])
local-quiet q None None = record {}
local-quiet q None (Some g) = (record {}, record {})
local-quiet q (Some k) None = (record {}, record {})
local-quiet q (Some k) (Some g) = (record {}, (record {}, record {}))

operation-no : (q after : QueuePair) (n : Numbered) (m : LocalMarks) (refusal : Option OpRefusal) → AreNoAnswers (operation_effects q n after m refusal).marks
operation-no q after n m None = answers-append (local_marks q m) (success_marks q.queue n.place n.request) (local-quiet q m.revoked m.granted) (success-quiet q n n.request.signalled)
operation-no q after n m (Some cause) = keyless-no q.queue q.sends None _ (failure-goes MemoryManagement (Some cause) q refl).marks

pub starts-request : (c : Configuration) (past : Past) (event : Event) (w : World) (name : QueueId) (lot : Lot) → IsReady c past w → Leads w (Agrees past event) (request_plan c name lot)
starts-request c past event w name lot ready = leads-queue c w (Agrees past event) name reasons.State (λ q. With_around q (λ a. Request_around c lot q a q.peer (turn_of q)))
    (λ q is. leads-around w (Agrees past event) q (λ a. Request_around c lot q a q.peer (turn_of q)) (by q (found c w name q ready.sound is) q.peer (turn_of q) refl))
  where
    by : (q : QueuePair) → IsThere w q → (peer : Option Correspondent) (turn : RequestTurn) → turn_of q ≡ turn → Leads w (Agrees past event) (Request_around c lot q (around_in w q (shared_of w q)) peer turn)
    by q there peer (Waits reason) is = record {}
    by q there peer (Performs n) is = leads-local c w (Agrees past event) (GoesWell (posted_of past q.queue) q) q n (λ e changes writes. Finish (updates_of q (around_in w q (shared_of w q)) e ++ changes) writes e.marks) n.request.op
        (λ after m refusal alike. (operation-no q after n m refusal, λ base. operation-moved base (posted_of past q.queue) q after n m refusal performed alike.state alike.sends alike.requester alike.mtu))
        (record {}, λ base. moved-same base (posted_of past q.queue) q q refl refl refl refl)
        (λ e cs ws goes aside. starts-alone c past (after_marks e.marks (at_begin event past)) w q e cs ws ready there goes.1 (same-marks e.marks goes.0 past (at_begin event past) (begin-same past event)) aside)
      where
        performed : IsPerformed q n
        performed = performs q n (there-kept w q ready.steady there) there.sound.requester.begun is
    by q there None (Sends n) is = record {}
    by q there (Some peer) (Sends n) is = starts-left c past event w q peer lot (packet_row q (has_room_for q peer (w.mailbox peer.queue)) n) ready there
        (both-rows (posted_of past q.queue) q (packet_row q (has_room_for q peer (w.mailbox peer.queue)) n) (packet-inner q (has_room_for q peer (w.mailbox peer.queue)) n)
        (λ base. packet-moved base (posted_of past q.queue) q (has_room_for q peer (w.mailbox peer.queue)) n))

pub starts-respond : (c : Configuration) (past : Past) (event : Event) (w : World) (name : QueueId) (lot : Lot) → IsReady c past w → Leads w (Agrees past event) (respond_plan c name lot)
starts-respond c past event w name lot ready = leads-queue c w (Agrees past event) name reasons.State (λ q. With_around q (λ a. Respond_around c lot q a q.peer))
    (λ q is. leads-around w (Agrees past event) q (λ a. Respond_around c lot q a q.peer) (by q (found c w name q ready.sound is) q.peer))
  where
    by : (q : QueuePair) → IsThere w q → (peer : Option Correspondent) → Leads w (Agrees past event) (Respond_around c lot q (around_in w q (shared_of w q)) peer)
    by q there None = leads-unless w (Agrees past event) (respond_refusals true q) Stuck (Stuck reasons.Empty) (λ r. record {}) (record {})
    by q there (Some peer) = starts-left c past event w q peer lot (respond_row (has_room_for q peer (w.mailbox peer.queue)) q) ready there
        (both-rows (posted_of past q.queue) q (respond_row (has_room_for q peer (w.mailbox peer.queue)) q) (respond-inner (has_room_for q peer (w.mailbox peer.queue)) q)
        (λ base. respond-moved base (posted_of past q.queue) (has_room_for q peer (w.mailbox peer.queue)) q))

pub starts-timeout : (c : Configuration) (past : Past) (event : Event) (w : World) (name : QueueId) (hasten : Bool) → IsReady c past w → Leads w (Agrees past event) (timeout_plan c name hasten)
starts-timeout c past event w name hasten ready =
    leads-queue c w (Agrees past event) name reasons.State (λ q. Look (Mailbox_of name) (λ own. With_around q (λ a. Timeout_around hasten q own a q.peer)))
    (λ q is. leads-around w (Agrees past event) q (λ a. Timeout_around hasten q (w.mailbox name) a q.peer) (by q (found c w name q ready.sound is) q.peer))
  where
    fire : (q : QueuePair) → IsThere w q → (silent : Bool) → Leads w (Agrees past event) (Fire hasten q (around_in w q (shared_of w q)) silent)
    fire q there silent = leads-unless w (Agrees past event) (timeout_refusals silent hasten q) Stuck
        (Finish (updates_of q (around_in w q (shared_of w q)) (after_timeout silent q)) [] (after_timeout silent q).marks) (λ r. record {})
        (turn-agrees c past (after_marks (after_timeout silent q).marks (at_begin event past)) w q (after_timeout silent q)
        ((Cq_of (send_cq_of q) := option_map (after_puts (completions_to q q.send_cq (after_timeout silent q).marks)) (w.cq (send_cq_of q)))
        ∷ (Cq_of (recv_cq_of q) := option_map (after_puts (completions_to q q.recv_cq (after_timeout silent q).marks)) (w.cq (recv_cq_of q)))
        ∷ (if (after_timeout silent q).takes_shared then srq_updates q (around_in w q (shared_of w q)) after_receive_take else [])) [] ready there.present there.sound.requester.finished
        (λ base. timeout-moved base (posted_of past q.queue) q silent)
        (same-marks (after_timeout silent q).marks (own-no (after_timeout silent q).marks (timeout-inner q silent).marks) past (at_begin event past) (begin-same past event))
        (λ u. (record {}, (record {}, srq-kept u q (around_in w q (shared_of w q)) (after_timeout silent q).takes_shared))))

    by : (q : QueuePair) → IsThere w q → (peer : Option Correspondent) → Leads w (Agrees past event) (Timeout_around hasten q (w.mailbox name) (around_in w q (shared_of w q)) peer)
    by q there None = leads-unless w (Agrees past event) (timeout_refusals false hasten q) Stuck (Stuck reasons.Empty) (λ r. record {}) (record {})
    by q there (Some peer) = fire q there _

pub starts-wake : (c : Configuration) (past : Past) (event : Event) (w : World) (name : QueueId) → IsReady c past w → Leads w (Agrees past event) (wake_plan c name)
starts-wake c past event w name ready = leads-queue c w (Agrees past event) name reasons.State (λ q. waking q q.peer) (λ q is. by q (found c w name q ready.sound is) q.peer)
  where
    wakes : QueuePair → Bool → Plan
    wakes q empty = unless_refused (wake_refusals empty q) Stuck (Finish ((Queue_of q.queue := Present (after_wake q).queue) ∷ []) [] (after_wake q).marks)

    waking : QueuePair → Option Correspondent → Plan
    waking q None = unless_refused (wake_refusals false q) Stuck (Stuck reasons.Empty)
    waking q (Some peer) = Look (Queue_of peer.queue) (λ slot. Look (Mailbox_of peer.queue) (λ m.
        With_receives slot (λ empty. wakes q (reaches_peer q peer m && empty))))

    wake : (q : QueuePair) → IsThere w q → (empty : Bool) → Leads w (Agrees past event) (wakes q empty)
    wake q there empty = leads-unless w (Agrees past event) (wake_refusals empty q) Stuck (Finish ((Queue_of q.queue := Present (after_wake q).queue) ∷ []) [] (after_wake q).marks) (λ r. record {})
        (turn-agrees c past (at_begin event past) w q (after_wake q) [] [] ready there.present there.sound.requester.finished (λ base. wake-moved base (posted_of past q.queue) q) (begin-same past event) (λ u. record {}))

    receives : (slot : QueueSlot) (k : Bool → Plan) → ((b : Bool) → Leads w (Agrees past event) (k b)) → Leads w (Agrees past event) (With_receives slot k)
    receives slot k more = search rules

    by : (q : QueuePair) → IsThere w q → (peer : Option Correspondent) → Leads w (Agrees past event) (waking q peer)
    by q there None = leads-unless w (Agrees past event) (wake_refusals false q) Stuck (Stuck reasons.Empty) (λ r. record {}) (record {})
    by q there (Some peer) = receives (w.queue peer.queue) (λ empty. wakes q (reaches_peer q peer (w.mailbox peer.queue) && empty)) (λ empty. wake q there _)

-- bytes arrive at a queue pair, behind changes of mailboxes and marks that come first
starts-arrive : (c : Configuration) (past x : Past) (w : World) (P : World → List Mark → Type 0) (q : QueuePair) (bytes : List ℕ) (envelope : Option ℕ) (pre : List Update) (ms : List Mark) → IsReady c past w → IsThere w q
    → SameStarts past x → (put_all pre w).queue ≡ w.queue → ((v : World) (ns : List Mark) → StartsAgree (after_marks ns x) v → P v (ms ++ ns)) → Leads w P (Arrive c q bytes envelope pre ms)
starts-arrive c past x w P q bytes envelope pre ms ready there same queues more = leads-around w P q (λ a. Row_plan c (arrival_row bytes envelope (shared_in a) q) (finish a))
    (leads-row c w P (GoesWell (posted_of past q.queue) q) (arrival_row bytes envelope (shared_in a) q) (finish a)
    (both-rows (posted_of past q.queue) q (arrival_row bytes envelope (shared_in a) q) (arrival-inner bytes envelope (shared_in a) q) (λ base. arrival-moved base (posted_of past q.queue) bytes envelope (shared_in a) q))
    (λ e cs ws goes aside. more (write_all ws (put_all (pre ++ (updates_of q a e ++ cs)) w)) (marks.Arrived q.queue envelope ∷ e.marks) (ends e cs ws goes aside)))
  where
    a : Around
    a = around_in w q (shared_of w q)

    finish : Around → Effects → List Update → List Write → Plan
    finish a e more writes = Finish (pre ++ (updates_of q a e ++ more)) writes (ms ++ marks.Arrived q.queue envelope ∷ e.marks)

    u : World
    u = put_all pre w

    ends : (e : Effects) (cs : List Update) (ws : List Write) → GoesWell (posted_of past q.queue) q e → AreAside cs → StartsAgree (after_marks (marks.Arrived q.queue envelope ∷ e.marks) x) (write_all ws (put_all (pre ++ (updates_of q a e ++ cs)) w))
    ends e cs ws goes aside = subst (λ v. StartsAgree r (write_all ws v)) (sym (puts-append pre (updates_of q a e ++ cs) w)) (agree-kept past r (write_all ws (put_all (updates_of q a e ++ cs) u)) (write_all ws (put_all (updates_of q a e ++ cs) u))
        same-here (same-world (write_all ws (put_all (updates_of q a e ++ cs) u))) moved)
      where
        r : Past
        r = after_marks (marks.Arrived q.queue envelope ∷ e.marks) x

        same-here : SameStarts past r
        same-here = same-marks (marks.Arrived q.queue envelope ∷ e.marks) (record {}, goes.0) past x same

        rest : List Update
        rest = (Cq_of (send_cq_of q) := option_map (after_puts (completions_to q q.send_cq e.marks)) a.send)
            ∷ (Cq_of (recv_cq_of q) := option_map (after_puts (completions_to q q.recv_cq e.marks)) a.recv)
            ∷ ((if e.takes_shared then srq_updates q a after_receive_take else []) ++ cs)

        -- the same changes over the world as it was
        here : StartsAgree past (write_all ws (put_all ((Queue_of q.queue := Present e.queue) ∷ rest) w))
        here = turn-agrees c past past w q e rest ws ready there.present there.sound.requester.finished goes.1 (record { incarnation = refl; starts = refl; posted = refl })
            (λ v. (record {}, (record {}, kept-append v (if e.takes_shared then srq_updates q a after_receive_take else []) cs (srq-kept v q a e.takes_shared) (kept-aside v cs aside))))

        -- changes of no queue pair leave those of the world
        queue-only : (us : List Update) (x y : World) → x.queue ≡ y.queue → (put_all us x).queue ≡ (put_all us y).queue
        queue-only [] x y e = e
        queue-only (z ∷ us) x y e = queue-only us (put x z.name z.thing) (put y z.name z.thing) (one z.name z.thing)
          where
            one : (n : Name) (t : Thing n) → (put x n t).queue ≡ (put y n t).queue
            one (Queue_of q) t = ap (λ f. with_at queue_eq f q t) e
            one (Domain_of d) t = e
            one (Region_of s) t = e
            one (Window_of s) t = e
            one (Cq_of s) t = e
            one (Srq_of s) t = e
            one (Mailbox_of q) t = e
            one (Byte_at p) t = e

        written : (zs : List Write) (x : World) → (write_all zs x).queue ≡ x.queue
        written [] x = refl
        written (z ∷ zs) x = written zs (record x { byte = memory_after x.byte z.runs z.bytes })

        moved : StartsAgree past (write_all ws (put_all (updates_of q a e ++ cs) u))
        moved = subst (λ f. AgreeOnStarts past.incarnation past.starts past.posted f)
            (written ws (put_all ((Queue_of q.queue := Present e.queue) ∷ rest) w) ∙ queue-only (updates_of q a e ++ cs) w u (sym queues) ∙ sym (written ws (put_all (updates_of q a e ++ cs) u))) here

pub starts-deliver : (c : Configuration) (past : Past) (event : Event) (w : World) (name : QueueId) (index : ℕ) → IsReady c past w → Leads w (Agrees past event) (deliver_plan c name index)
starts-deliver c past event w name index ready = (λ has. lent (bytes_lent index (w.mailbox name)), λ none. record {})
  where
    m : Mailbox
    m = w.mailbox name

    at : List ℕ → QueueSlot → Plan
    at bytes (NoQueue incarnation timers) = Stuck reasons.NotKept
    at bytes (Present q) = Arrive c q bytes (Some index) ((Mailbox_of name := after_delivery index m) ∷ []) []

    under_way : Option (List ℕ) → Plan
    under_way None = Stuck reasons.NotKept
    under_way (Some bytes) = Look (Queue_of name) (at bytes)

    there : (bytes : List ℕ) (s : QueueSlot) → w.queue name ≡ s → Leads w (Agrees past event) (at bytes s)
    there bytes (NoQueue incarnation timers) is = record {}
    there bytes (Present q) is = starts-arrive c past (at_begin event past) w (Agrees past event) q bytes (Some index) ((Mailbox_of name := after_delivery index m) ∷ []) [] ready (found c w name q ready.sound is)
        (begin-same past event) refl (λ v ns agree. agree)

    lent : (o : Option (List ℕ)) → Leads w (Agrees past event) (under_way o)
    lent None = record {}
    lent (Some bytes) = there bytes (w.queue name) refl

pub starts-inject : (c : Configuration) (past : Past) (w : World) (by : ℕ) (q : QueueId) (bytes : List ℕ) → IsReady c past w
    → Leads w (Agrees past (events.Verb by (verbs.Inject q bytes))) (inject_plan c (call_of by (verbs.Inject q bytes)) q bytes)
starts-inject c past w by q bytes ready = at (w.queue q) refl
  where
    call : Call
    call = call_of by (verbs.Inject q bytes)

    P : World → List Mark → Type 0
    P = Agrees past (events.Verb by (verbs.Inject q bytes))

    arrives : QueueSlot → Plan
    arrives (NoQueue incarnation timers) = Refuse_plan call NoSuch
    arrives (Present p) = Arrive c p bytes None [] (answer_mark call answers.Fine ∷ [])

    at : (s : QueueSlot) → w.queue q ≡ s → Leads w P (arrives s)
    at (NoQueue incarnation timers) is = ready.agree
    at (Present p) is = starts-arrive c past (Behind past by (verbs.Inject q bytes) answers.Fine) w P p bytes None [] (answer_mark call answers.Fine ∷ []) ready (found c w q p ready.sound is)
        (record { incarnation = refl; starts = refl; posted = refl }) refl (λ v ns agree. agree)
