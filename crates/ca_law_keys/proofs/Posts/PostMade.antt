-- What verbs, moves and local operations make of what was posted. For proofs only.
use Rattle.ca_law_keys.proofs.Keys.ChangeLemmas.{window-small}
use Rattle.ca_law_keys.proofs.Keys.SlotLemmas.{key-slot-refl, slot-at-window, window-kind, window-slots}
use Rattle.ca_law_keys.specs.InForce.{is_window_slot, slot_at}
use Rattle.ca_law_keys.proofs.Posts.PlaceLemmas.{IsPerformed, IsPostedAt, begins-next, filter-at, in-place, item-posted, next-item, operations-same, sending-well}
use Rattle.ca_law_keys.proofs.Posts.PostFrame.{AreKept, SamePosts, agree-world, hears, kept-append, kept-puts, outside-kept, reads, same-world, slot-kept}
use Rattle.ca_law_keys.specs.Posts.{AgreeInSlot, AgreeOnPosts, AgreeOnSends, AreInPlace, PostsAgree, as_posted, life}
use Rattle.ca_base.specs.Configuration.{Adapter, Configuration}
use Rattle.ca_base.specs.Equal.{status_eq}
use Rattle.ca_base.specs.Grants.{next_low}
use Rattle.ca_base.specs.Sight.{Invalidation, Sight}
use Rattle.ca_base.specs.declared.change.State.{State}
use Rattle.ca_base.specs.declared.completion.Completion.{Completion}
use Rattle.ca_base.specs.declared.completion.WcStatus.TheVariants.{Success}
use Rattle.ca_base.specs.declared.correspondent.Correspondent.{Correspondent}
use Rattle.ca_base.specs.declared.lot.Lot.{Lot}
use Rattle.ca_base.specs.declared.request.PostedSend.{PostedSend}
use Rattle.ca_base.specs.declared.request.SendOp.{SendOp}
use Rattle.ca_base.specs.declared.request.SendRequest.{SendRequest}
use Rattle.ca_base.specs.objects.CompletionQueue.{CompletionQueue}
use Rattle.ca_base.specs.objects.LocalRequest.{LocalMarks}
use Rattle.ca_base.specs.objects.Mailbox.{Mailbox, is_lost}
use Rattle.ca_base.specs.objects.QueuePair.{NoQueue, Present, QueuePair, QueueSlot, with_all_flushed}
use Rattle.ca_base.specs.objects.Region.{after_region_invalidation, with_window_unbound}
use Rattle.ca_base.specs.objects.SharedReceives.{after_receive_take}
use Rattle.ca_base.specs.objects.Slices.{adapter_at, has_domain, has_slot, names_region, names_window, slot_of_key}
use Rattle.ca_base.specs.objects.StateTable.{is_among, state_eq}
use Rattle.ca_base.specs.objects.Window.{Binding, Window, after_binding, after_draw, byte_drawn, without_binding}
use Rattle.ca_base.specs.objects.WorkQueue.{after_retire, next_place}
use Rattle.ca_law_endings.proofs.Endings.{near, places_freed, row_updates, window_of}
use Rattle.ca_law_endings.proofs.Footprint.{AreOutside, AreUnheard, former-outside, kind_of_mark, named-outside, outside-append, shared-outside}
use Rattle.ca_law_endings.proofs.Moves.{Moves, RowEnds}
use Rattle.ca_law_endings.proofs.Operations.{done_by, former_of, named_in}
use Rattle.ca_keys.specs.Equal.{queue_eq, slot_eq}
use Rattle.ca_keys.specs.Numbers.{domain_of, key_at, queue_of, window_index}
use Rattle.ca_keys.specs.Refusals.{first_of}
use Rattle.ca_keys.specs.declared.grant.Grant.{Grant}
use Rattle.ca_keys.specs.declared.key.Key.{Key}
use Rattle.ca_keys.specs.declared.names.QueueId.{QueueId}
use Rattle.ca_keys.specs.declared.names.Slot.{Slot}
use Rattle.ca_law_world.proofs.Steady.RowLemmas.{IsKept as IsKeptQueue}
use Rattle.ca_law_world.proofs.Sound.PlanWalks.{binder_updates}
use Rattle.ca_law_world.proofs.Sound.SettledLemmas.{queue-path, slot-path}
use Rattle.ca_law_world.proofs.Sound.TurnLemmas.{sends-parts}
use Rattle.ca_law_world.specs.Steady.{IsSteadyWorld}
use Rattle.ca_model.specs.Past.{KeySlot, Past, Posted, SentPacket, after_mark, after_marks, after_post, at_begin, correspondent_eq, drawn_after, drawn_at, is_failure_of, key_slot_eq, local_operations, next_operation, operation_performed, performed_at_end, present_incarnation, slot_beside, window_key_slot, with_at}
use Rattle.ca_model.specs.Requests.{is_local}
use Rattle.ca_model.specs.declared.event.Event.{Event}
use Rattle.ca_model.specs.declared.mark.Mark.{Mark}
use Rattle.ca_model.specs.machine.Acknowledgements.{after_finished, with_requester}
use Rattle.ca_model.specs.machine.Around.{srq_updates, updates_of}
use Rattle.ca_model.specs.machine.CompletionVerbs.{after_poll, receives_after_poll, slot_after_poll, source_of_completion}
use Rattle.ca_model.specs.machine.Completions.{bytes_of_success, send_completion, success_marks}
use Rattle.ca_model.specs.machine.Expected.{with_window_gone}
use Rattle.ca_model.specs.machine.LocalOperations.{PlacedRegion, drawn_by, former_updates, local_marks, named_slot, named_updates, window_slot}
use Rattle.ca_model.specs.machine.Numbering.{Numbered}
use Rattle.ca_model.specs.machine.Plan.{Update, put_all, ◌:=◌}
use Rattle.ca_model.specs.machine.PostingVerbs.{after_flush, with_send}
use Rattle.ca_model.specs.machine.QueuePairVerbs.{beside}
use Rattle.ca_model.specs.machine.Requester.{Sends, begins, next_request, sent_packet, turn_of, turn_refusals}
use Rattle.ca_model.specs.machine.Row.{Effects, region_under}
use Rattle.ca_model.specs.machine.Seen.{ending_changes}
use Rattle.ca_model.specs.machine.Sound.{AreLimited, IsFinished, IsLimitedAdapter, IsQueueOf, IsSettled, IsSoundWorld}
use Rattle.ca_model.specs.machine.Step.{has_named_slot}
use Rattle.ca_model.specs.machine.Turns.{Packet, reaches_peer, sent_marks}
use Rattle.ca_model.specs.machine.WindowVerbs.{queue_updates}
use Rattle.ca_model.specs.machine.World.{Queue_of, Region_of, Srq_of, Window_of, World}
use Rattle.std.proofs.Common.{Bool, List, None, Option, Some, [], ap, ap₂, arith, drop, false, if◌then◌else◌, is_some, length, length-drop, map, max, nat_lt, not, refl, slice_get, subst, suc, sym, take, true, true≢false, zero, ℕ, ◌&&◌, ◌++◌, ◌+◌, ◌-◌, ◌<◌, ◌==◌, ◌||◌, ◌∙◌, ◌∷◌, ◌≡◌, ◌≤◌}
use Rattle.std.proofs.lemmas.Bool.{and_parts, ltb-true, not-false}
use Rattle.std.proofs.lemmas.Bool.Decides.{nat_tests}
use Rattle.std.proofs.lemmas.List.{drop-append-le, drop-drop, drop-map, map-append}
use Rattle.std.proofs.lemmas.Option.{same_Some}
use Rattle.std.specs.List.{AllByRecursion, list_any}
use Rattle.std.specs.Option.{option_and_then, option_map, option_map_or}
use Rattle.ca_base.specs.declared.change.State.TheVariants as states
use Rattle.ca_base.specs.declared.request.SendOp.TheVariants as ops
use Rattle.ca_model.specs.declared.event.Event.TheVariants as events
use Rattle.ca_model.specs.declared.mark.Mark.TheVariants as marks

-- a world that comes up, and a past that agrees with it on posted requests
pub record IsPosted (c : Configuration) (past : Past) (w : World) : Type 0 where
  pub sound : IsSoundWorld c w
  pub steady : IsSteadyWorld w
  pub agree : PostsAgree past w

-- a life is itself, and none of another queue pair or a later one
pub life-refl : (l : Correspondent) → correspondent_eq l l ≡ true
life-refl l = grind (arith, nat_tests)

pub other-life : (a b : QueueId) (i j : ℕ) → queue_eq a b ≡ false → correspondent_eq (life a i) (life b j) ≡ false
other-life a b i j e = ap (λ z. z && (i == j)) e

pub later-life : (past : Past) (name n : QueueId) (i : ℕ) → past.incarnation n < i → correspondent_eq (present_incarnation past name) (life n i) ≡ false
later-life past name n i more = by (queue_eq name n) refl
  where
    apart : (a b : ℕ) → a < b → (a == b) ≡ false
    apart a b less = grind (arith, nat_tests, less)

    by : (b : Bool) → queue_eq name n ≡ b → (b && (past.incarnation name == i)) ≡ false
    by true e = apart (past.incarnation name) i (subst (λ m. past.incarnation m < i) (sym (queue-path name n e)) more)
    by false e = refl

-- ---- a send request is posted

places-append : (n : ℕ) (ps : List Posted) (x : Posted) → AreInPlace n ps → x.place ≡ n + length ps → AreInPlace n (ps ++ (x ∷ []))
places-append n [] x all is = (omega (arith, is), record {})
places-append n (p ∷ ps) x all is = (all.0, places-append (suc n) ps x all.1 (omega (arith, is)))

length-more : {A : Type 0} (xs : List A) (x : A) → length (xs ++ (x ∷ [])) ≡ suc (length xs)
length-more [] x = refl
length-more (y ∷ ys) x = ap suc (length-more ys x)

take-before : {A : Type 0} (i : ℕ) (xs ys : List A) → i ≤ length xs → take i (xs ++ ys) ≡ take i xs
take-before zero xs ys few = refl
take-before (suc i) [] ys few = absurd (omega (arith, few))
take-before (suc i) (x ∷ xs) ys few = ap (λ t. x ∷ t) (take-before i xs ys (omega (arith, few)))

-- one that is flushed at once, if it is in Error
pub flushed-agrees : (ps : List Posted) (k : ℕ) (q : QueuePair) → AgreeOnSends ps k q → AgreeOnSends ps k (after_flush q)
flushed-agrees ps k q agree = by (state_eq q.state states.Error) refl
  where
    by : (b : Bool) → state_eq q.state states.Error ≡ b → AgreeOnSends ps k (if b then with_all_flushed q else q)
    by true e = record { places = agree.places; count = agree.count; items = agree.items; performed = λ well. absurd (true≢false (sym e ∙ well)) }
    by false e = agree

pub send-agrees : (ps : List Posted) (k : ℕ) (q : QueuePair) (request : SendRequest) (drawn : Option ℕ) (x : Posted) → AgreeOnSends ps k q → q.requester.next ≤ next_place q.sends
    → x.place ≡ length ps → as_posted x ≡ record { request = request; drawn = drawn } → AgreeOnSends (ps ++ (x ∷ [])) k (with_send request drawn q)
send-agrees ps k q request drawn x agree few place is = record {
  places = places-append 0 ps x agree.places (omega (arith, place));
  count = omega (arith, agree.count, length-more q.sends.items y, length-more ps x);
  items = ap (λ l. l ++ (y ∷ [])) agree.items ∙ ap (λ z. map as_posted (drop q.sends.first ps) ++ (z ∷ [])) (sym is)
      ∙ sym (map-append as_posted (drop q.sends.first ps) (x ∷ []))
      ∙ ap (map as_posted) (sym (drop-append-le q.sends.first ps (x ∷ []) (omega (arith, agree.count))));
  performed = λ well. agree.performed well ∙ ap (λ l. length (local_operations l)) (sym (take-before q.requester.next ps (x ∷ []) (omega (arith, few, agree.count))));
}
  where
    y : PostedSend
    y = record { request = request; drawn = drawn }

-- the slot of a configured queue pair has its domain by its number
qps-few : (xs : List Adapter) (i k : ℕ) → AllByRecursion IsLimitedAdapter xs → option_map_or (λ a. nat_lt k a.qps) (slice_get xs i) false ≡ true → k < 256
qps-few [] i k all e = absurd (true≢false (sym e))
qps-few (a ∷ xs) zero k all e = omega (arith, all.0.qps, ltb-true k a.qps e)
qps-few (a ∷ xs) (suc i) k all e = qps-few xs i k all.1 e

pub own-slot : (c : Configuration) (s : Slot) (window : ℕ) → AreLimited c → has_slot c (λ a. a.qps) s ≡ true → slot_beside (queue_of s) window ≡ beside s window
own-slot c s window few has = λ i. record { domain = record { adapter = s.domain.adapter; domain = domain i }; slot = window }
  where
    small : s.slot < 256
    small = qps-few c.adapters s.domain.adapter s.slot few.adapters (and_parts (has_domain c s.domain) (option_map_or (λ a. nat_lt s.slot a.qps) (adapter_at c s.domain.adapter) false) has).1

    domain : (domain_of (queue_of s)).domain ≡ s.domain.domain
    domain = grind (arith, small)

-- a request without a window that draws
drawn-none : (past : Past) (name : QueueId) (op : SendOp) → (drawn_at past name op None ≡ None) × (drawn_after past name op None ≡ past.drawn)
drawn-none past name (ops.Bind1 window region address count rights) = (refl, refl)
drawn-none past name op = (refl, refl)

-- a request joins those that were posted: what its slot and every other have, given what windows drew
pub joined : (past : Past) (w : World) (name : QueueId) (request : SendRequest) (drawn : Option ℕ) (key : Option Key) (q : QueuePair) (window : Slot → Window) → PostsAgree past w
    → w.queue q.queue ≡ Present q → q.queue ≡ name → q.requester.next ≤ next_place q.sends → drawn_at past name request.op key ≡ drawn
    → ((k : KeySlot) → is_window_slot k ≡ true → (after_post name request key past).drawn k ≡ (window (slot_at k)).drawn)
    → AgreeOnPosts past.incarnation (after_post name request key past).posted past.performed (after_post name request key past).drawn (with_at queue_eq w.queue q.queue (Present (after_flush (with_send request drawn q)))) window
joined past w name request drawn key q window agree is own few draws bytes = record {
  sends = λ n. subst (λ m. AgreeInSlot ((after_post name request key past).posted (life n (past.incarnation n))) (past.performed (life n (past.incarnation n))) (if queue_eq m n then Present (after_flush posted) else w.queue n)) (sym own)
      (ours n (queue_eq name n) refl);
  later = λ n i more. (ap (λ b. if b then ps ++ (x ∷ []) else past.posted (life n i)) (later-life past name n i more) ∙ (agree.later n i more).0, (agree.later n i more).1);
  drawn = bytes;
}
  where
    posted : QueuePair
    posted = with_send request drawn q

    ps : List Posted
    ps = past.posted (present_incarnation past name)

    x : Posted
    x = record { place = length ps; request = request; drawn = drawn_at past name request.op key }

    before : AgreeOnSends ps (past.performed (present_incarnation past name)) q
    before = subst (λ n. AgreeOnSends (past.posted (present_incarnation past n)) (past.performed (present_incarnation past n)) q) own
        (subst (AgreeInSlot (past.posted (present_incarnation past q.queue)) (past.performed (present_incarnation past q.queue))) is (agree.sends q.queue))

    here : AgreeOnSends (ps ++ (x ∷ [])) (past.performed (present_incarnation past name)) (after_flush posted)
    here = flushed-agrees (ps ++ (x ∷ [])) _ posted (send-agrees ps _ q request drawn x before few refl (λ i. record { request = request; drawn = draws i }))

    ours : (n : QueueId) (b : Bool) → queue_eq name n ≡ b
        → AgreeInSlot (if b && (past.incarnation name == past.incarnation n) then ps ++ (x ∷ []) else past.posted (life n (past.incarnation n))) (past.performed (life n (past.incarnation n))) (if b then Present (after_flush posted) else w.queue n)
    ours n true e = subst (λ m. AgreeInSlot (if true && (past.incarnation name == past.incarnation m) then ps ++ (x ∷ []) else past.posted (life m (past.incarnation m))) (past.performed (life m (past.incarnation m))) (Present (after_flush posted)))
        (queue-path name n e)
        (subst (λ b. AgreeOnSends (if b then ps ++ (x ∷ []) else past.posted (life name (past.incarnation name))) (past.performed (life name (past.incarnation name))) (after_flush posted))
        (sym (same (past.incarnation name))) here)
      where
        same : (i : ℕ) → (true && (i == i)) ≡ true
        same i = grind (arith, nat_tests)
    ours n false e = agree.sends n

pub joined-plain : (past : Past) (w : World) (name : QueueId) (request : SendRequest) (q : QueuePair) → PostsAgree past w → w.queue q.queue ≡ Present q → q.queue ≡ name → q.requester.next ≤ next_place q.sends
    → AgreeOnPosts past.incarnation (after_post name request None past).posted past.performed (after_post name request None past).drawn (with_at queue_eq w.queue q.queue (Present (after_flush (with_send request None q)))) w.window
joined-plain past w name request q agree is own few = joined past w name request None None q w.window agree is own few none.0 (λ k kind. ap (λ f. f k) drawn ∙ agree.drawn k kind)
  where
    none : (drawn_at past name request.op None ≡ None) × (drawn_after past name request.op None ≡ past.drawn)
    none = drawn-none past name request.op

    drawn : drawn_after past name request.op (drawn_at past name request.op None) ≡ past.drawn
    drawn = ap (drawn_after past name request.op) none.0 ∙ none.1

-- a window of type 1 drew a byte: what the request has, and what each window drew
pub window-draws : (c : Configuration) (past : Past) (w : World) (s at : Slot) (op : SendOp) → AreLimited c → PostsAgree past w → has_slot c (λ a. a.qps) s ≡ true → has_named_slot c s.domain op ≡ true → window_of s op ≡ Some at
    → (drawn_at past (queue_of s) op (option_map (key_at (window_index at)) (byte_drawn (w.window at))) ≡ byte_drawn (w.window at))
    × ((k : KeySlot) → is_window_slot k ≡ true → drawn_after past (queue_of s) op (drawn_at past (queue_of s) op (option_map (key_at (window_index at)) (byte_drawn (w.window at)))) k
    ≡ (with_at slot_eq w.window at (after_draw (w.window at)) (slot_at k)).drawn)
window-draws c past w s at (ops.Bind1 window region address count rights) limited agree has named is = (byte ((w.window at).kind == 1), bytes ((w.window at).kind == 1))
  where
    x : Window
    x = w.window at

    op : SendOp
    op = ops.Bind1 window region address count rights

    there : beside s window ≡ at
    there = same_Some (beside s window) at is

    small : at.slot < 0x8000
    small = subst (λ t. t.slot < 0x8000) there (window-small c (beside s window) limited named)

    same : slot_beside (queue_of s) window ≡ at
    same = own-slot c s window limited has ∙ there

    last : past.drawn (window_key_slot (slot_beside (queue_of s) window)) ≡ x.drawn
    last = ap (λ t. past.drawn (window_key_slot t)) same ∙ agree.drawn (window_key_slot at) (window-kind at (window_key_slot at) small (key-slot-refl (window_key_slot at)))
        ∙ ap (λ t. (w.window t).drawn) (slot-at-window at small)

    drawn-of : Bool → Option ℕ
    drawn-of b = if b then Some (next_low x.drawn) else None

    byte : (b : Bool) → drawn_at past (queue_of s) op (option_map (key_at (window_index at)) (drawn-of b)) ≡ drawn-of b
    byte true = ap (λ d. Some (next_low d)) last
    byte false = refl

    bytes : (b : Bool) (k : KeySlot) → is_window_slot k ≡ true
        → drawn_after past (queue_of s) op (drawn_at past (queue_of s) op (option_map (key_at (window_index at)) (drawn-of b))) k ≡ (with_at slot_eq w.window at (if b then record x { drawn = next_low x.drawn } else x) (slot_at k)).drawn
    bytes true k kind = ap₂ (λ t d. with_at key_slot_eq past.drawn (window_key_slot t) (next_low d) k) same last
        ∙ pick (key_slot_eq (window_key_slot at) k) (slot_eq at (slot_at k)) (sym (window-slots at k small kind))
      where
        pick : (a b : Bool) → a ≡ b → (if a then next_low x.drawn else past.drawn k) ≡ (if b then record x { drawn = next_low x.drawn } else w.window (slot_at k)).drawn
        pick true true e = refl
        pick false false e = agree.drawn k kind
        pick true false e = absurd (true≢false e)
        pick false true e = absurd (true≢false (sym e))
    bytes false k kind = agree.drawn k kind ∙ pick (slot_eq at (slot_at k)) refl
      where
        pick : (b : Bool) → slot_eq at (slot_at k) ≡ b → (w.window (slot_at k)).drawn ≡ (if b then x else w.window (slot_at k)).drawn
        pick true e = ap (λ t. (w.window t).drawn) (sym (slot-path at (slot_at k) e))
        pick false e = refl
window-draws c past w s at op limited agree has named is = absurd (true≢false (sym (ap is_some is)))

pub joined-drawn : (c : Configuration) (past : Past) (w : World) (s at : Slot) (request : SendRequest) (q : QueuePair) → AreLimited c → PostsAgree past w → w.queue q.queue ≡ Present q → q.queue ≡ queue_of s → q.requester.next ≤ next_place q.sends
    → (has_slot c (λ a. a.qps) s && has_named_slot c s.domain request.op) ≡ true → window_of s request.op ≡ Some at
    → AgreeOnPosts past.incarnation (after_post (queue_of s) request (option_map (key_at (window_index at)) (byte_drawn (w.window at))) past).posted past.performed
    (after_post (queue_of s) request (option_map (key_at (window_index at)) (byte_drawn (w.window at))) past).drawn
    (with_at queue_eq w.queue q.queue (Present (after_flush (with_send request (byte_drawn (w.window at)) q)))) (with_at slot_eq w.window at (after_draw (w.window at)))
joined-drawn c past w s at request q limited agree is own few named window = by (window-draws c past w s at request.op limited agree (and_parts _ _ named).0 (and_parts _ _ named).1 window)
  where
    key : Option Key
    key = option_map (key_at (window_index at)) (byte_drawn (w.window at))

    by : (drawn_at past (queue_of s) request.op key ≡ byte_drawn (w.window at))
        × ((k : KeySlot) → is_window_slot k ≡ true → drawn_after past (queue_of s) request.op (drawn_at past (queue_of s) request.op key) k ≡ (with_at slot_eq w.window at (after_draw (w.window at)) (slot_at k)).drawn)
        → AgreeOnPosts past.incarnation (after_post (queue_of s) request key past).posted past.performed (after_post (queue_of s) request key past).drawn
        (with_at queue_eq w.queue q.queue (Present (after_flush (with_send request (byte_drawn (w.window at)) q)))) (with_at slot_eq w.window at (after_draw (w.window at)))
    by draws = joined past w (queue_of s) request (byte_drawn (w.window at)) key q (with_at slot_eq w.window at (after_draw (w.window at))) agree is own few draws.0 draws.1

-- ---- lives and changes of queue pairs

-- a queue pair begins a life in which nothing was posted
pub new-life : (past : Past) (w : World) (name : QueueId) (p : QueuePair) (us : List Update) → PostsAgree past w → AgreeOnSends [] 0 p → AreKept (put_all ((Queue_of name := Present p) ∷ []) w) us
    → AgreeOnPosts (with_at queue_eq past.incarnation name (suc (past.incarnation name))) past.posted past.performed past.drawn
    (put_all ((Queue_of name := Present p) ∷ us) w).queue (put_all ((Queue_of name := Present p) ∷ us) w).window
new-life past w name p us agree fresh kept = agree-world _ past.posted past.performed past.drawn v (put_all us v) (kept-puts v v us kept (same-world v)) (record {
  sends = λ n. ours n (queue_eq name n) refl;
  later = λ n i more. agree.later n i (less n i (queue_eq name n) refl more);
  drawn = agree.drawn;
})
  where
    v : World
    v = put_all ((Queue_of name := Present p) ∷ []) w

    ours : (n : QueueId) (b : Bool) → queue_eq name n ≡ b
        → AgreeInSlot (past.posted (life n (if b then suc (past.incarnation name) else past.incarnation n))) (past.performed (life n (if b then suc (past.incarnation name) else past.incarnation n))) (if b then Present p else w.queue n)
    ours n true e = subst (λ m. AgreeOnSends (past.posted (life m (suc (past.incarnation name)))) (past.performed (life m (suc (past.incarnation name)))) p) (queue-path name n e)
        (subst (λ ps. AgreeOnSends ps (past.performed (life name (suc (past.incarnation name)))) p) (sym none.0)
        (subst (λ k. AgreeOnSends [] k p) (sym none.1) fresh))
      where
        none : (past.posted (life name (suc (past.incarnation name))) ≡ []) × (past.performed (life name (suc (past.incarnation name))) ≡ 0)
        none = agree.later name (suc (past.incarnation name)) (omega arith)
    ours n false e = agree.sends n

    less : (n : QueueId) (i : ℕ) (b : Bool) → queue_eq name n ≡ b → (if b then suc (past.incarnation name) else past.incarnation n) < i → past.incarnation n < i
    less n i true e more = omega (arith, more, ap past.incarnation (queue-path name n e))
    less n i false e more = more

-- a state from which a change leads that comes from no Error
pub well-before : (q : QueuePair) (from : List State) → ((s : State) → is_among from s ≡ true → state_eq s states.Error ≡ false) → not (is_among from q.state) ≡ false → state_eq q.state states.Error ≡ false
well-before q from well fails = well q.state (not-false (is_among from q.state) fails)

-- a change of the state alone, but for numbers that say nothing of which request begins next
pub moved-agrees : (ps : List Posted) (k : ℕ) (q p : QueuePair) → p.sends ≡ q.sends → p.requester.next ≡ q.requester.next → state_eq q.state states.Error ≡ false → AgreeOnSends ps k q → AgreeOnSends ps k p
moved-agrees ps k q p sends next well agree = record {
  places = agree.places;
  count = ap next_place sends ∙ agree.count;
  items = subst (λ x. x.items ≡ map as_posted (drop x.first ps)) (sym sends) agree.items;
  performed = λ x. agree.performed well ∙ ap (λ n. length (local_operations (take n ps))) (sym next);
}

pub failed-agrees : (ps : List Posted) (k : ℕ) (q p : QueuePair) → p.sends ≡ q.sends → state_eq p.state states.Error ≡ true → AgreeOnSends ps k q → AgreeOnSends ps k p
failed-agrees ps k q p sends error agree = record {
  places = agree.places;
  count = ap next_place sends ∙ agree.count;
  items = subst (λ x. x.items ≡ map as_posted (drop x.first ps)) (sym sends) agree.items;
  performed = λ x. absurd (true≢false (sym error ∙ x));
}

pub only : (a : State) (well : state_eq a states.Error ≡ false) (s : State) → is_among (a ∷ []) s ≡ true → state_eq s states.Error ≡ false
only a well states.Reset e = refl
only a well states.Init e = refl
only a well states.Rtr e = refl
only a well states.Rts e = refl
only a well states.Sqd e = refl
only states.Reset well states.Error e = absurd (true≢false (sym e))
only states.Init well states.Error e = absurd (true≢false (sym e))
only states.Rtr well states.Error e = absurd (true≢false (sym e))
only states.Rts well states.Error e = absurd (true≢false (sym e))
only states.Sqd well states.Error e = absurd (true≢false (sym e))
only states.Error well states.Error e = absurd (true≢false well)

-- ---- polls

-- a send that completed frees the places up to its own
retired-agrees : (ps : List Posted) (k place : ℕ) (p : QueuePair) → place < next_place p.sends → AgreeOnSends ps k p
    → AgreeOnSends ps k (record p { sends = after_retire place p.sends }) × (next_place (after_retire place p.sends) ≡ next_place p.sends)
retired-agrees ps k place p less agree = (
  record {
    places = agree.places;
    count = same ∙ agree.count;
    items = ap (drop (suc place - p.sends.first)) agree.items ∙ drop-map as_posted (suc place - p.sends.first) (drop p.sends.first ps)
        ∙ ap (map as_posted) (drop-drop (suc place - p.sends.first) p.sends.first ps ∙ ap (λ i. drop i ps) {x = p.sends.first + (suc place - p.sends.first)} {y = max p.sends.first (suc place)} (omega arith));
    performed = agree.performed;
  },
  same,
)
  where
    same : max p.sends.first (suc place) + length (drop (suc place - p.sends.first) p.sends.items) ≡ p.sends.first + length p.sends.items
    same = omega (arith, less, length-drop (suc place - p.sends.first) p.sends.items)

poll-agrees : (ps : List Posted) (k : ℕ) (name : QueueId) (xs : List Completion) (p : QueuePair) (end : ℕ) → next_place p.sends ≡ end
    → AllByRecursion (λ x. queue_eq x.queue name ≡ true → x.receive ≡ false → x.place < end) xs → AgreeOnSends ps k p → AgreeOnSends ps k (after_poll name xs p)
poll-agrees ps k name [] p end is all agree = agree
poll-agrees ps k name (x ∷ xs) p end is all agree = one (queue_eq x.queue name) refl x.receive refl (λ q ends was. poll-agrees ps k name xs q end ends all.1 was)
  where
    freed : Bool → QueuePair
    freed true = record p { receives = option_map (after_retire x.place) p.receives }
    freed false = record p { sends = after_retire x.place p.sends }

    one : (b : Bool) → queue_eq x.queue name ≡ b → (r : Bool) → x.receive ≡ r → ((q : QueuePair) → next_place q.sends ≡ end → AgreeOnSends ps k q → AgreeOnSends ps k (after_poll name xs q))
        → AgreeOnSends ps k (after_poll name xs (if b then freed r else p))
    one true e true r rest = rest (freed true) is (record { places = agree.places; count = agree.count; items = agree.items; performed = agree.performed })
    one true e false r rest = rest (freed false) (done.1 ∙ is) done.0
      where
        done : AgreeOnSends ps k (record p { sends = after_retire x.place p.sends }) × (next_place (after_retire x.place p.sends) ≡ next_place p.sends)
        done = retired-agrees ps k x.place p (omega (arith, all.0 e r, is)) agree
    one false e r own rest = rest p is agree

pub polled-kept : (c : Configuration) (w : World) (s : Slot) (name : QueueId) (polled : List Completion) → IsSoundWorld c w → AllByRecursion (λ x. IsSettled s (w.queue x.queue) x) polled
    → (ps : List Posted) (k : ℕ) → AgreeInSlot ps k (w.queue name) → AgreeInSlot ps k (slot_after_poll name polled (w.queue name))
polled-kept c w s name polled sound settled ps k = by (w.queue name) refl (sound.things (Queue_of name))
  where
    places : (p : QueuePair) → w.queue name ≡ Present p → IsQueueOf name (Present p) → (xs : List Completion) → AllByRecursion (λ x. IsSettled s (w.queue x.queue) x) xs
        → AllByRecursion (λ x. queue_eq x.queue name ≡ true → x.receive ≡ false → x.place < next_place p.sends) xs
    places p is one [] all = record {}
    places p is one (x ∷ xs) all = (
      λ same send. omega (
        arith,
        (subst (λ b. IsFinished p b x.place) send (subst (λ t. IsSettled s t x) (ap w.queue (queue-path x.queue name same) ∙ is) all.0).1),
        one.2.requester.begun,
        one.2.requester.waiting,
      ),
      places p is one xs all.1,
    )

    by : (slot : QueueSlot) → w.queue name ≡ slot → IsQueueOf name slot → AgreeInSlot ps k slot → AgreeInSlot ps k (slot_after_poll name polled slot)
    by (NoQueue incarnation timers) is one was = record {}
    by (Present p) is one was = poll-agrees ps k name polled p (next_place p.sends) refl (places p is one polled settled) was

pub all-taken : {A : Type 0} (P : A → Type 0) (n : ℕ) (xs : List A) → AllByRecursion P xs → AllByRecursion P (take n xs)
all-taken P zero xs all = record {}
all-taken P (suc n) [] all = record {}
all-taken P (suc n) (x ∷ xs) all = (all.0, all-taken P n xs all.1)

-- ---- moves

-- a queue pair after moves: its sends stay, and unless it is in Error, it was not before, and no request began
pub record Passes (q p : QueuePair) : Type 0 where
  pub sends : p.sends ≡ q.sends
  pub next : state_eq p.state states.Error ≡ false → (state_eq q.state states.Error ≡ false) × (p.requester.next ≡ q.requester.next)

moves-pass : (q p : QueuePair) (ms : List Mark) → Moves q p ms → Passes q p
moves-pass q p ms (Moves.Progresses psn r) = by (nat_lt q.requester.una psn)
  where
    by : (b : Bool) → Passes q (after_finished (if b then with_requester (record q.requester { una = psn; retries = 0; rnrs = 0 }) q else q))
    by true = record { sends = refl; next = λ e. (e, refl) }
    by false = record { sends = refl; next = λ e. (e, refl) }
moves-pass q p ms (Moves.Counts r other counted) = record { sends = refl; next = λ e. (e, counted.next) }
moves-pass q p ms (Moves.Fails status cause r) = record { sends = refl; next = λ e. absurd (true≢false e) }
moves-pass q p ms (Moves.Refuses code r) = record { sends = refl; next = λ e. absurd (true≢false e) }
moves-pass q p ms (Moves.Empties r) = record { sends = refl; next = λ e. absurd (true≢false e) }
moves-pass q p ms (Moves.Then {r = r} one other) = record {
  sends = (moves-pass r p _ other).sends ∙ (moves-pass q r _ one).sends;
  next = λ e. (
    ((moves-pass q r _ one).next ((moves-pass r p _ other).next e).0).0,
    ((moves-pass r p _ other).next e).1 ∙ ((moves-pass q r _ one).next ((moves-pass r p _ other).next e).0).1,
  );
}
moves-pass q p ms moves = record { sends = refl; next = λ e. (e, refl) }

pub passes-agree : (q p : QueuePair) → Passes q p → (ps : List Posted) (k : ℕ) → AgreeOnSends ps k q → AgreeOnSends ps k p
passes-agree q p passes ps k agree = record {
  places = agree.places;
  count = ap next_place passes.sends ∙ agree.count;
  items = subst (λ s. s.items ≡ map as_posted (drop s.first ps)) (sym passes.sends) agree.items;
  performed = λ x. agree.performed (passes.next x).0 ∙ ap (λ n. length (local_operations (take n ps))) (sym (passes.next x).1);
}

pub moves-agree : (q p : QueuePair) (ms : List Mark) → Moves q p ms → (ps : List Posted) (k : ℕ) → AgreeOnSends ps k q → AgreeOnSends ps k p
moves-agree q p ms moves = passes-agree q p (moves-pass q p ms moves)

pub row-agrees : (s : Sight) (q : QueuePair) (i : Option Invalidation) (e : Effects) → RowEnds s q i e → (ps : List Posted) (k : ℕ) → AgreeOnSends ps k q → AgreeOnSends ps k e.queue
row-agrees s q i e x ps k agree = moves-agree (with_window_gone i x.middle) e.queue x.behind x.on ps k (gone (moves-agree q x.middle x.before x.goes ps k agree))
  where
    gone : AgreeOnSends ps k x.middle → AgreeOnSends ps k (with_window_gone i x.middle)
    gone a = record { places = a.places; count = a.count; items = a.items; performed = a.performed }

-- ---- what turns change

-- what a turn's effects change, where what was posted goes on
pub turn-kept : (w : World) (q : QueuePair) (e : Effects) → w.queue q.queue ≡ Present q → ((ps : List Posted) (k : ℕ) → AgreeOnSends ps k q → AgreeOnSends ps k e.queue) → AreKept w (updates_of q (near w q) e)
turn-kept w q e is goes = (slot-kept w q e.queue is goes, (record {}, (record {}, shared e.takes_shared)))
  where
    shared : (b : Bool) → AreKept w (if b then srq_updates q (near w q) after_receive_take else [])
    shared true = outside-kept w (srq_updates q (near w q) after_receive_take) (shared-outside reads q (near w q) after_receive_take refl)
    shared false = record {}

-- what the end of a key changes, in a world whose windows drew the same
ending-kept : (c : Configuration) (w v : World) (i : Invalidation) → ((s : Slot) → (v.window s).drawn ≡ (w.window s).drawn) → AreKept v (ending_changes c w i)
ending-kept c w v i same = by (names_region c i.domain i.key) (names_window c i.domain i.key)
  where
    slot : Slot
    slot = slot_of_key i.domain i.key

    changes : Option Binding → List Update
    changes None = []
    changes (Some b) =
        (Window_of slot := without_binding (w.window slot))
        ∷ (Region_of (region_under (w.window slot) b) := with_window_unbound (w.region (region_under (w.window slot) b))) ∷ []

    window : (o : Option Binding) → AreKept v (changes o)
    window None = record {}
    window (Some b) = (sym (same slot), (record {}, record {}))

    by : (r y : Bool) → AreKept v (if r then (Region_of slot := after_region_invalidation (w.region slot)) ∷ [] else if y then changes (w.window slot).binding else [])
    by true y = (record {}, record {})
    by false true = window (w.window slot).binding
    by false false = record {}

gone-kept : (c : Configuration) (w : World) (i : Option Invalidation) → AreKept w (option_map_or (ending_changes c w) i [])
gone-kept c w None = record {}
gone-kept c w (Some i) = ending-kept c w w i (λ s. refl)

-- what a row changes, with what it ends and what comes behind
pub arrived-kept : (c : Configuration) (w : World) (q : QueuePair) (i : Option Invalidation) (e : Effects) → w.queue q.queue ≡ Present q → ((ps : List Posted) (k : ℕ) → AgreeOnSends ps k q → AgreeOnSends ps k e.queue)
    → AreKept w (row_updates c w q i e)
arrived-kept c w q i e is goes = kept-append w (updates_of q (near w q) e) _ (turn-kept w q e is goes) (gone-kept c w i)

pub row-kept : (c : Configuration) (w : World) (q : QueuePair) (i : Option Invalidation) (e : Effects) (vs : List Update) → AreOutside reads vs → w.queue q.queue ≡ Present q
    → ((ps : List Posted) (k : ℕ) → AgreeOnSends ps k q → AgreeOnSends ps k e.queue) → AreKept w (updates_of q (near w q) e ++ (option_map_or (ending_changes c w) i [] ++ vs))
row-kept c w q i e vs out is goes = kept-append w (updates_of q (near w q) e) _ (turn-kept w q e is goes) (kept-append w (option_map_or (ending_changes c w) i []) vs (gone-kept c w i) (outside-kept w vs out))

-- the binder of a window counts one fewer
pub binder-kept : (w : World) (o : Option QueueId) → AreKept w (binder_updates w o)
binder-kept w None = record {}
binder-kept w (Some q) = by (w.queue q) refl
  where
    by : (slot : QueueSlot) → w.queue q ≡ slot → AreKept w (queue_updates q slot)
    by (NoQueue incarnation timers) is = record {}
    by (Present p) is = (λ ps k was. same ps k (subst (AgreeInSlot ps k) is was), record {})
      where
        same : (ps : List Posted) (k : ℕ) → AgreeOnSends ps k p → AgreeOnSends ps k (record p { windows = p.windows - 1 })
        same ps k a = record { places = a.places; count = a.count; items = a.items; performed = a.performed }

-- the places that a poll frees
pub places-kept : (c : Configuration) (w : World) (s : Slot) (cq : CompletionQueue) (polled : List Completion) → IsSoundWorld c w → AllByRecursion (λ x. IsSettled s (w.queue x.queue) x) polled
    → (ys : List Completion) → AreKept w (places_freed w s cq polled ys)
places-kept c w s cq polled sound settled [] = record {}
places-kept c w s cq polled sound settled (y ∷ ys) = one (source_of_completion cq y) (places-kept c w s cq polled sound settled ys)
  where
    freed : Option ℕ → Update
    freed None = Queue_of y.queue := slot_after_poll y.queue polled (w.queue y.queue)
    freed (Some srq) = Srq_of (record { domain = s.domain; slot = srq }) := record (w.srq (record { domain = s.domain; slot = srq })) {
      srq = option_map (receives_after_poll cq srq polled) (w.srq (record { domain = s.domain; slot = srq })).srq;
    }

    one : (o : Option ℕ) → AreKept w (places_freed w s cq polled ys) → AreKept w (freed o ∷ places_freed w s cq polled ys)
    one None rest = (polled-kept c w s y.queue polled sound settled, rest)
    one (Some srq) rest = (record {}, rest)

-- ---- a packet of a request

-- a list was used, or a packet sent
abbrev pub IsUsed : Past → Type 0
IsUsed r = (r.at_hand.used_list || is_some (slice_get r.at_hand.sent 0)) ≡ true

pub used-list : (ms : List Mark) → AreUnheard hears ms → (r : Past) → r.at_hand.used_list ≡ true → (after_marks ms r).at_hand.used_list ≡ true
used-list [] quiet r is = is
used-list (m ∷ ms) quiet r is = used-list ms quiet.1 (after_mark m r) (by m quiet.0)
  where
    by : (m : Mark) → hears (kind_of_mark m) ≡ false → (after_mark m r).at_hand.used_list ≡ true
    by (marks.Verb consumer verb answer) un = absurd (true≢false un)
    by (marks.Local queue domain key kind address count verdict) un = refl
    by (marks.Lost target None) un = is
    by m un = is

end-true : (b : Bool) → (b || true) ≡ true
end-true true = refl
end-true false = refl

-- a packet is sent, last
pub sent-used : (q : QueuePair) (peer : Correspondent) (m : Mailbox) (lot : Lot) (x : Packet) (r : Past) → IsUsed (after_marks (sent_marks q peer m lot x) r)
sent-used q peer m lot x r = by (reaches_peer q peer m) (is_lost lot)
  where
    some : (sent : List SentPacket) (s : SentPacket) → is_some (slice_get (sent ++ (s ∷ [])) 0) ≡ true
    some [] s = refl
    some (y ∷ ys) s = refl

    by : (b z : Bool) → IsUsed (after_marks (if b
        then marks.Sent q.queue peer.queue (Some m.next) x.request x.bytes ∷ (if z then marks.Lost peer.queue (Some m.next) ∷ [] else [])
        else marks.Sent q.queue peer.queue None x.request x.bytes ∷ marks.Lost peer.queue None ∷ []) r)
    by true true = ap (λ b. r.at_hand.used_list || b) (some r.at_hand.sent _) ∙ end-true r.at_hand.used_list
    by true false = ap (λ b. r.at_hand.used_list || b) (some r.at_hand.sent _) ∙ end-true r.at_hand.used_list
    by false z = ap (λ b. r.at_hand.used_list || b) (some r.at_hand.sent _) ∙ end-true r.at_hand.used_list

-- where a list was used or a packet sent, no local operation was performed
pub used-none : (r : Past) → IsUsed r → operation_performed r ≡ None
used-none r used = rw used refl

-- a turn of a requester that performed none
pub still-end : (r : Past) (name : QueueId) (lot : Lot) → r.at_hand.event ≡ events.Request name lot → operation_performed r ≡ None → performed_at_end r ≡ r.performed
still-end r name lot is none = ap (at r) is ∙ ap (λ o. if is_some o
    then with_at correspondent_eq r.performed (present_incarnation r name) (suc (r.performed (present_incarnation r name)))
    else r.performed) none
  where
    at : Past → Event → Correspondent → ℕ
    at past (events.Request queue lot) =
        if is_some (operation_performed past)
        then with_at correspondent_eq past.performed (present_incarnation past queue)
        (suc (past.performed (present_incarnation past queue)))
        else past.performed
    at past event = past.performed

-- a packet is sent: the requests that have begun may be one more, and it is no local operation
pub sent-agrees : (q : QueuePair) (n : Numbered) (bytes : List (List ℕ)) → IsKeptQueue q → q.requester.oldest ≤ q.requester.next → turn_of q ≡ Sends n
    → (ps : List Posted) (k : ℕ) → AgreeOnSends ps k q → AgreeOnSends ps k (sent_packet q n bytes).queue
sent-agrees q n bytes k begun turn ps j agree = record { places = agree.places; count = agree.count; items = agree.items; performed = λ x. agree.performed x ∙ counts (begins q) refl }
  where
    counts : (b : Bool) → begins q ≡ b → length (local_operations (take q.requester.next ps)) ≡ length (local_operations (take (if b then suc q.requester.next else q.requester.next) ps))
    counts false e = refl
    counts true e = sym (operations-same ps q.requester.next at.posted at.is (ap (λ x. is_local x.request.op) at.same ∙ parts.2))
      where
        parts : (first_of (turn_refusals q) ≡ None) × (next_request q ≡ Some n) × (is_local n.request.op ≡ false)
        parts = sends-parts (first_of (turn_refusals q)) (next_request q) n turn

        at : IsPostedAt ps q.requester.next (record { request = n.request; drawn = n.drawn })
        at = item-posted ps j q q.requester.next _ agree (next-item q n k begun (begins-next q n e parts.1)).item

-- ---- a local operation

-- a queue pair with other windows
pub record IsLike (q p : QueuePair) : Type 0 where
  pub queue : p.queue ≡ q.queue
  pub sends : p.sends ≡ q.sends
  pub state : p.state ≡ q.state

pub done-like : (c : Configuration) (w : World) (q : QueuePair) (n : Numbered) (op : SendOp) → IsLike q (done_by c w q n op).after
done-like c w q n (ops.Bind2 window key low address count rights) = record { queue = refl; sends = refl; state = refl }
done-like c w q n (ops.LocalInv key) = record { queue = refl; sends = refl; state = refl }
done-like c w q n op = record { queue = refl; sends = refl; state = refl }

-- what it changes leaves the bytes that windows drew
pub done-kept : (c : Configuration) (w v : World) (q : QueuePair) (n : Numbered) (op : SendOp) → ((s : Slot) → (v.window s).drawn ≡ (w.window s).drawn) → AreKept v (done_by c w q n op).changes
done-kept c w v q n (ops.Bind1 window key address count rights) same = (
  bound (count == 0) (named_in c w q key) ∙ sym (same (window_slot q window)),
  outside-kept v _
      (outside-append reads (former_updates former) (if count == 0 then [] else named_updates former (named_in c w q key)) (former-outside reads former refl) (by (count == 0))),
)
  where
    x : Window
    x = w.window (window_slot q window)

    former : Option PlacedRegion
    former = former_of w x x.binding

    bound : (b : Bool) (named : Option PlacedRegion) → (if b then without_binding x else after_binding (drawn_by n) None (named_slot named) address count rights x).drawn ≡ x.drawn
    bound true named = refl
    bound false named = refl

    by : (b : Bool) → AreOutside reads (if b then [] else named_updates former (named_in c w q key))
    by true = record {}
    by false = named-outside reads former (named_in c w q key) refl
done-kept c w v q n (ops.Bind2 window key low address count rights) same = (sym (same (window_slot q window)), outside-kept v _ (named-outside reads None (named_in c w q key) refl))
done-kept c w v q n (ops.LocalInv key) same = ending-kept c w v (record { queue = q.queue; domain = q.domain; key = key }) same
done-kept c w v q n (ops.FastReg region low buffer address count rights pages) same = (record {}, record {})
done-kept c w v q n op same = record {}

-- what a past of this event leaves, where its turn performed the local operation that began next
abbrev pub Performing : Past → QueueId → Lot → QueuePair → Numbered → LocalMarks → Past
Performing past name lot q n m = after_marks (local_marks q m ++ success_marks q.queue n.place n.request) (at_begin (events.Request name lot) past)

end-false : (a : Bool) → (a && false) ≡ false
end-false true = refl
end-false false = refl

-- a success is no failure of the operation
pub performed-some : (past : Past) (name : QueueId) (lot : Lot) (q : QueuePair) (n : Numbered) (m : LocalMarks) (p : Posted) → next_operation past name ≡ Some p
    → operation_performed (Performing past name lot q n m) ≡ Some p
performed-some past name lot q n m p next = by m.revoked m.granted n.request.signalled
  where
    revoked : Option Key → List Mark
    revoked o = option_map_or (λ key. marks.Revoked q.queue.adapter key ∷ []) o []

    granted : Option Grant → List Mark
    granted o = option_map_or (λ g. marks.Granted g ∷ []) o []

    done : Bool → List Mark
    done b = if b then success_marks q.queue n.place (record n.request { signalled = true }) else []

    completion : Completion
    completion = send_completion q.queue n.place (record n.request { signalled = true }) Success (bytes_of_success n.request.op)

    after : Option Key → Option Grant → Bool → Past
    after k g b = after_marks ((revoked k ++ granted g) ++ done b) (at_begin (events.Request name lot) past)

    unless : List Completion → Posted → Option Posted
    unless completed x = if list_any (is_failure_of name x) completed then None else Some x

    quiet : (r : Past) → r.at_hand.used_list ≡ false → r.at_hand.sent ≡ [] → r.at_hand.event ≡ events.Request name lot → next_operation r name ≡ Some p → list_any (is_failure_of name p) r.at_hand.completed ≡ false
        → operation_performed r ≡ Some p
    quiet r unused unsent event is none = ap₂ (λ b s. if b || is_some (slice_get s 0) then None else at r.at_hand.event) unused unsent
        ∙ ap at event ∙ ap (option_and_then (unless r.at_hand.completed)) is ∙ ap (λ b. if b then None else Some p) none
      where
        at : Event → Option Posted
        at (events.Request queue lot) = option_and_then (λ x. if list_any (is_failure_of queue x) r.at_hand.completed then None else Some x) (next_operation r queue)
        at event = None

    well : (x : Completion) → x.status ≡ Success → list_any (is_failure_of name p) (x ∷ []) ≡ false
    well x is = ap (λ s. ((not x.receive && queue_eq x.queue name) && (x.place == p.place)) && not (status_eq s Success) || false) is
        ∙ ap (λ b. b || false) (end-false ((not x.receive && queue_eq x.queue name) && (x.place == p.place)))

    by : (k : Option Key) (g : Option Grant) (b : Bool) → operation_performed (after k g b) ≡ Some p
    by None None true = quiet (after None None true) refl refl refl next (well completion refl)
    by None None false = quiet (after None None false) refl refl refl next refl
    by None (Some g) true = quiet (after None (Some g) true) refl refl refl next (well completion refl)
    by None (Some g) false = quiet (after None (Some g) false) refl refl refl next refl
    by (Some k) None true = quiet (after (Some k) None true) refl refl refl next (well completion refl)
    by (Some k) None false = quiet (after (Some k) None false) refl refl refl next refl
    by (Some k) (Some g) true = quiet (after (Some k) (Some g) true) refl refl refl next (well completion refl)
    by (Some k) (Some g) false = quiet (after (Some k) (Some g) false) refl refl refl next refl

-- the operation that is performed is the next among those that were posted
pub record IsNextOperation (past : Past) (q : QueuePair) (n : Numbered) : Type 0 where
  pub posted : Posted
  pub at : slice_get (past.posted (present_incarnation past q.queue)) q.requester.next ≡ Some posted
  pub is : next_operation past q.queue ≡ Some posted
  pub request : posted.request ≡ n.request
  pub drawn : posted.drawn ≡ n.drawn
  pub place : posted.place ≡ n.place

pub next-posted : (past : Past) (w : World) (q : QueuePair) (n : Numbered) → PostsAgree past w → w.queue q.queue ≡ Present q → IsPerformed q n → IsNextOperation past q n
next-posted past w q n agree is performed = record {
  posted = at.posted;
  at = at.is;
  is = ap (slice_get (local_operations ps)) (own.performed (sending-well q performed.sending))
      ∙ filter-at (λ p. is_local p.request.op) ps q.requester.next at.posted at.is (ap (λ x. is_local x.request.op) at.same ∙ performed.local);
  request = ap (λ (x : PostedSend). x.request) at.same;
  drawn = ap (λ (x : PostedSend). x.drawn) at.same;
  place = in-place ps 0 q.requester.next at.posted own.places at.is ∙ sym (performed.item.place ∙ none q.requester.next);
}
  where
    ps : List Posted
    ps = past.posted (present_incarnation past q.queue)

    own : AgreeOnSends ps (past.performed (present_incarnation past q.queue)) q
    own = subst (AgreeInSlot ps (past.performed (present_incarnation past q.queue))) is (agree.sends q.queue)

    at : IsPostedAt ps q.requester.next (record { request = n.request; drawn = n.drawn })
    at = item-posted ps _ q q.requester.next _ own performed.item.item

    none : (i : ℕ) → i ≡ 0 + i
    none i = omega arith

-- a queue pair may have performed one local operation more
pub performs-agree : (past : Past) (w : World) (name : QueueId) (q p : QueuePair) (us : List Update) (performed : Correspondent → ℕ) → PostsAgree past w → q.queue ≡ name
    → ((l : Correspondent) → correspondent_eq (present_incarnation past name) l ≡ false → performed l ≡ past.performed l)
    → AgreeOnSends (past.posted (present_incarnation past q.queue)) (performed (present_incarnation past q.queue)) p
    → AreKept (put_all ((Queue_of q.queue := Present p) ∷ []) w) us
    → AgreeOnPosts past.incarnation past.posted performed past.drawn (put_all ((Queue_of q.queue := Present p) ∷ us) w).queue (put_all ((Queue_of q.queue := Present p) ∷ us) w).window
performs-agree past w name q p us performed agree own others here kept = agree-world past.incarnation past.posted performed past.drawn v (put_all us v) (kept-puts v v us kept (same-world v)) moved
  where
    v : World
    v = put_all ((Queue_of q.queue := Present p) ∷ []) w

    ours : (n : QueueId) (b : Bool) → queue_eq q.queue n ≡ b → AgreeInSlot (past.posted (life n (past.incarnation n))) (performed (life n (past.incarnation n))) (if b then Present p else w.queue n)
    ours n true e = subst (λ m. AgreeOnSends (past.posted (life m (past.incarnation m))) (performed (life m (past.incarnation m))) p) (queue-path q.queue n e) here
    ours n false e = subst (λ k. AgreeInSlot (past.posted (life n (past.incarnation n))) k (w.queue n))
        (sym (others (life n (past.incarnation n)) (other-life name n (past.incarnation name) (past.incarnation n) (subst (λ m. queue_eq m n ≡ false) own e)))) (agree.sends n)

    moved : AgreeOnPosts past.incarnation past.posted performed past.drawn v.queue v.window
    moved = record {
      sends = λ n. ours n (queue_eq q.queue n) refl;
      later = λ n i more. ((agree.later n i more).0, others (life n i) (later-life past name n i more) ∙ (agree.later n i more).1);
      drawn = agree.drawn;
    }

-- as a requester's turn ends, no other queue pair has performed another operation
pub other-end : (r : Past) (name : QueueId) (lot : Lot) (l : Correspondent) → r.at_hand.event ≡ events.Request name lot → correspondent_eq (present_incarnation r name) l ≡ false → performed_at_end r l ≡ r.performed l
other-end r name lot l is other = ap (λ e. at r e l) is ∙ by (is_some (operation_performed r))
  where
    at : Past → Event → Correspondent → ℕ
    at past (events.Request queue lot) =
        if is_some (operation_performed past)
        then with_at correspondent_eq past.performed (present_incarnation past queue)
        (suc (past.performed (present_incarnation past queue)))
        else past.performed
    at past event = past.performed

    by : (b : Bool) → (if b then with_at correspondent_eq r.performed (present_incarnation r name) (suc (r.performed (present_incarnation r name))) else r.performed) l ≡ r.performed l
    by true = ap (λ b. if b then suc (r.performed (present_incarnation r name)) else r.performed l) other
    by false = refl

-- where it performed one, it has performed one more
pub more-end : (r : Past) (name : QueueId) (lot : Lot) (p : Posted) → r.at_hand.event ≡ events.Request name lot → operation_performed r ≡ Some p
    → performed_at_end r (present_incarnation r name) ≡ suc (r.performed (present_incarnation r name))
more-end r name lot p is some = ap (λ e. at r e (present_incarnation r name)) is
    ∙ ap (λ o. (if is_some o then with_at correspondent_eq r.performed (present_incarnation r name) (suc (r.performed (present_incarnation r name))) else r.performed) (present_incarnation r name)) some
    ∙ ap (λ b. if b then suc (r.performed (present_incarnation r name)) else r.performed (present_incarnation r name)) (life-refl (present_incarnation r name))
  where
    at : Past → Event → Correspondent → ℕ
    at past (events.Request queue lot) =
        if is_some (operation_performed past)
        then with_at correspondent_eq past.performed (present_incarnation past queue)
        (suc (past.performed (present_incarnation past queue)))
        else past.performed
    at past event = past.performed

-- the same over a past that says the same of the others
pub as-left : (past left : Past) (performed : Correspondent → ℕ) (v : World) → SamePosts past left → AgreeOnPosts past.incarnation past.posted performed past.drawn v.queue v.window
    → AgreeOnPosts left.incarnation left.posted performed left.drawn v.queue v.window
as-left past left performed v same agree =
    subst (λ f. AgreeOnPosts f left.posted performed left.drawn v.queue v.window) (sym same.incarnation)
    (subst (λ f. AgreeOnPosts past.incarnation f performed left.drawn v.queue v.window) (sym same.posted)
    (subst (λ f. AgreeOnPosts past.incarnation past.posted performed f v.queue v.window) (sym same.drawn) agree))
