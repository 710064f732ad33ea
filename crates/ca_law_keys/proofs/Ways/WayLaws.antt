-- Every event keeps the agreement on ways, and so does every history that follows the machine. For proofs only.
use Rattle.std.proofs.Common.{◌≡◌, ℕ, suc, ◌==◌, not, arith, Bool, true, false, if◌then◌else◌, List, [], ◌∷◌, ◌++◌, map, Option, None, Some, is_some, slice_get, ◌||◌, Ok, refl, sym, ap, subst, subst₂, ◌∙◌, true≢false}
use Rattle.std.proofs.lemmas.Bool.{and_parts}
use Rattle.std.specs.List.{AllByRecursion}
use Rattle.std.specs.Option.{option_map_or}
use Rattle.ca_law_keys.proofs.Posts.FailureLemmas.{failure-none}
use Rattle.ca_law_keys.proofs.Posts.PlaceLemmas.{IsPerformed, performs}
use Rattle.ca_law_keys.proofs.Posts.PostLaws.{event-posts-agree, opening-posts-agree}
use Rattle.ca_law_keys.proofs.Posts.PostMade.{IsNextOperation, IsUsed, Performing, next-posted, sent-used, used-list, used-none}
use Rattle.ca_law_keys.specs.Posts.{PostsAgree}
use Rattle.ca_law_endings.proofs.EventFitLemmas.{first-marks}
use Rattle.ca_law_endings.proofs.LeadsLemmas.{comes}
use Rattle.ca_law_endings.specs.Agreement.{HoldsAlong}
use Rattle.ca_law_endings.specs.Runs.{Comes}
use Rattle.ca_law_keys.proofs.Keys.ChangeLemmas.{none-granted, region-small}
use Rattle.ca_law_keys.proofs.Keys.KeyFrame.{SameKeys, ahead}
use Rattle.ca_law_keys.proofs.Keys.KeyFrame as keys
use Rattle.ca_law_keys.proofs.Keys.SlotLemmas.{at-region}
use Rattle.ca_law_parts.proofs.Names.PlacedLemmas.{event-placed, opening-placed}
use Rattle.ca_law_parts.proofs.Names.PlacedOperationLemmas.{IsNamedTurn, turn-named}
use Rattle.ca_law_parts.proofs.Names.PlacedTurnLemmas.{placed-here}
use Rattle.ca_law_parts.specs.Placed.{IsPlacedWorld}
use Rattle.ca_law_world.proofs.Sound.SoundLemmas.{event-sound, opening-sound}
use Rattle.ca_law_world.proofs.Steady.EventLemmas.{event-steady, opening-steady}
use Rattle.ca_law_world.proofs.Steady.TurnLemmas.{there-kept}
use Rattle.ca_law_world.specs.Steady.{IsSteadyWorld}
use Rattle.ca_law_world.proofs.Windows.WindowEventLemmas.{event-bound, opening-bound}
use Rattle.ca_law_world.specs.Bindings.{IsBoundWorld}
use Rattle.ca_law_keys.proofs.Ways.WayLemmas.{AreKept, Left, SameWays, agree-fields, agree-world, changes-kept, hears, kept-append, kept-puts, kept-writes, left-frame, none-some, outside-kept, reads, region-granted, same-ways, same-world}
use Rattle.ca_law_keys.proofs.Ways.WayMade.{IsFollowed, IsPerforming, fast_lows, low-request, made-ways, performing, way_of, ways_after}
use Rattle.ca_law_keys.specs.Ways.{AgreeOnWays, WaysAgree}
use Rattle.ca_base.specs.Configuration.{Configuration}
use Rattle.ca_base.specs.Grants.{grant_of_registration, next_low}
use Rattle.ca_base.specs.Sight.{Invalidation}
use Rattle.ca_base.specs.declared.change.Change.TheVariants as changes
use Rattle.ca_base.specs.declared.completion.WcStatus.TheVariants.{LocalProtection, MemoryManagement}
use Rattle.ca_base.specs.declared.lot.Lot.{Lot}
use Rattle.ca_base.specs.declared.refusals.OpRefusal.{OpRefusal}
use Rattle.ca_base.specs.objects.LocalRequest.{LocalMarks}
use Rattle.ca_base.specs.objects.QueuePair.{QueuePair}
use Rattle.ca_base.specs.objects.Region.{RegionState, Registered, FastRegistered, after_registration, grant_in_state, has_no_region}
use Rattle.ca_base.specs.objects.Slices.{has_slot}
use Rattle.ca_base.specs.objects.Window.{after_draw}
use Rattle.ca_law_endings.proofs.Endings.{End, IsAt, IsSo, after, changed, event_of, more, near, packet_of, row_updates, start, told, turn_marks, turn_updates}
use Rattle.ca_law_endings.proofs.Footprint.{AreOutside, AreUnheard, binder-outside, failure-unheard, kept-marks, marks-unheard, quiet, sent-outside, turn-outside}
use Rattle.ca_law_endings.proofs.Operations.{done_by}
use Rattle.ca_law_endings.proofs.Walk.{walk-event}
use Rattle.ca_law_world.proofs.Sound.PlanWalks.{binder_updates}
use Rattle.ca_law_keys.proofs.Posts.PostFrame as posts
use Rattle.ca_law_endings.proofs.PathLemmas.{marks-append}
use Rattle.ca_keys.specs.Equal.{slot_eq}
use Rattle.ca_keys.specs.Memory.{ByteMap}
use Rattle.ca_keys.specs.declared.grant.Grant.{Grant}
use Rattle.ca_keys.specs.declared.place.Run.{Run}
use Rattle.ca_keys.specs.Numbers.{key_at, low_of, region_index}
use Rattle.ca_keys.specs.declared.names.QueueId.{QueueId}
use Rattle.ca_keys.specs.declared.names.Slot.{Slot}
use Rattle.ca_model.specs.Entries.{EntryValue}
use Rattle.ca_model.specs.Past.{Past, Registration, after_entry, after_marks, at_begin, at_end, key_slot_eq, low_at_end, next_operation, opening_past, operation_performed, region_key_slot, with_at}
use Rattle.ca_model.specs.declared.event.Event.{Event}
use Rattle.ca_model.specs.declared.event.Event.TheVariants as events
use Rattle.ca_model.specs.declared.mark.Mark.{Mark}
use Rattle.ca_model.specs.declared.verb.Verb.TheVariants as verbs
use Rattle.ca_model.specs.machine.Acknowledgements.{failure_effects}
use Rattle.ca_model.specs.machine.Around.{updates_of}
use Rattle.ca_model.specs.machine.Frame.{Afterwards}
use Rattle.ca_model.specs.machine.LocalOperations.{operation_effects}
use Rattle.ca_model.specs.machine.Numbering.{Numbered}
use Rattle.ca_model.specs.machine.Plan.{Did, NotReady, Outcome, Update, ◌:=◌, Write, put_all, write_all}
use Rattle.ca_model.specs.machine.Requester.{denied_list_effects, local_denial}
use Rattle.ca_model.specs.machine.Row.{Effects, unless_none}
use Rattle.ca_model.specs.machine.Run.{Follows, go_on, run_from}
use Rattle.ca_model.specs.machine.Seen.{ending_changes, sight_in, writes_in}
use Rattle.ca_model.specs.machine.Sound.{AreLimited, CanBeMade, IsSoundWorld}
use Rattle.ca_model.specs.machine.Step.{has_buffer, has_named_slot, plan, run_of, step}
use Rattle.ca_model.specs.machine.Turns.{packet_sent}
use Rattle.ca_model.specs.machine.World.{World, Window_of, opening_world}

abbrev Agrees : Past → Event → World → List Mark → Type 0
Agrees past event v ms = WaysAgree (at_end (after_marks ms (at_begin event past))) v

-- an ending of an event that is no turn of a requester, with changes that keep ways and marks that grant nothing
kept : (c : Configuration) (w : World) (p : Past) (us : List Update) (ws : List Write) (ms : List Mark) → Left p w → AreKept w us → AreUnheard hears ms → Left (after_marks ms p) (write_all ws (put_all us w))
kept c w p us ws ms left keep un = (marked.0, agree-world (low_at_end (after_marks ms p)) (after_marks ms p).way w (write_all ws (put_all us w)) (kept-writes w ws (put_all us w) (kept-puts w w us keep (same-world w))) marked.1)
  where
    marked : Left (after_marks ms p) w
    marked = kept-marks Left reads hears left-frame p w ms un left

vacant-none : (s : RegionState) → not (has_no_region s) ≡ false → grant_in_state s ≡ None
vacant-none (Registered g) e = absurd (true≢false e)
vacant-none (FastRegistered pages g) e = absurd (true≢false e)
vacant-none s e = refl

made-low : (index low : ℕ) → low_of (key_at index (next_low low)) ≡ next_low low
made-low index low = omega arith

drawn-kept : (w : World) (s : Slot) → AreKept w ((Window_of s := after_draw (w.window s)) ∷ [])
drawn-kept w s = by ((w.window s).kind == 1)
  where
    by : (b : Bool) → AreKept w ((Window_of s := (if b then record (w.window s) { drawn = next_low (w.window s).drawn } else w.window s)) ∷ [])
    by true = ((refl, λ b e. e), record {})
    by false = ((refl, λ b e. e), record {})

-- what a row changes, with what it ends
row-kept : (c : Configuration) (w : World) (q : QueuePair) (i : Option Invalidation) (e : Effects) (vs : List Update) → AreOutside reads vs → AreKept w (updates_of q (near w q) e ++ (option_map_or (ending_changes c w) i [] ++ vs))
row-kept c w q i e vs out = kept-append w (updates_of q (near w q) e) _ (outside-kept w (updates_of q (near w q) e) (turn-outside reads q (near w q) e refl refl refl))
    (kept-append w (option_map_or (ending_changes c w) i []) vs (changes-kept c w i) (outside-kept w vs out))

arrived-kept : (c : Configuration) (w : World) (q : QueuePair) (i : Option Invalidation) (e : Effects) → AreKept w (row_updates c w q i e)
arrived-kept c w q i e = kept-append w (updates_of q (near w q) e) _ (outside-kept w (updates_of q (near w q) e) (turn-outside reads q (near w q) e refl refl refl)) (changes-kept c w i)

-- ---- a requester's turn

-- a turn of a requester that performed no local operation
still : (past : Past) (w : World) (name : QueueId) (lot : Lot) (us : List Update) (ws : List Write) (ms : List Mark) → WaysAgree past w → AreUnheard hears ms → AreKept w us
    → operation_performed (after_marks ms (at_begin (events.Request name lot) past)) ≡ None → Agrees past (events.Request name lot) (write_all ws (put_all us w)) ms
still past w name lot us ws ms agree un keep none = agree-world (low_at_end left) left.way w (write_all ws (put_all us w)) (kept-writes w ws (put_all us w) (kept-puts w w us keep (same-world w)))
    (agree-fields past.low (low_at_end left) past.way left.way w (low-request left name lot None same.event none ∙ same.low) same.way agree)
  where
    begin : Past
    begin = at_begin (events.Request name lot) past

    left : Past
    left = after_marks ms begin

    same : SameWays begin left
    same = same-ways ms un begin

-- a local operation, refused or not
performed-agrees : (c : Configuration) (past : Past) (w : World) (name : QueueId) (lot : Lot) (q : QueuePair) (n : Numbered) (p : QueuePair) (m : LocalMarks) (r : Option OpRefusal) (cs : List Update) → IsFollowed c past w → IsAt w name q
    → IsPerformed q n → (r ≡ None → AgreeOnWays (fast_lows past.low name n.request.op) (ways_after past.way m.granted (way_of n.request.op)) (put_all cs w).region (put_all cs w).window)
    → Agrees past (events.Request name lot) (put_all (updates_of q (near w q) (operation_effects q n p m r) ++ unless_none r cs) w) (operation_effects q n p m r).marks
performed-agrees c past w name lot q n p m None cs up at does made = agree-fields (fast_lows past.low name n.request.op) (low_at_end left) (ways_after past.way m.granted (way_of n.request.op)) left.way (put_all (us ++ cs) w) so.low so.way
    (subst₂ (λ f x. AgreeOnWays (fast_lows past.low name n.request.op) (ways_after past.way m.granted (way_of n.request.op)) f x) (sym same.region) (sym same.window) (made refl))
  where
    us : List Update
    us = updates_of q (near w q) (operation_effects q n p m None)

    left : Past
    left = Performing past name lot q n m

    next : IsNextOperation past q n
    next = next-posted past w q n up.posts at.there.present does

    so : IsPerforming past left name n.request.op m.granted
    so = performing past name lot q n m next.posted (subst (λ k. next_operation past k ≡ Some next.posted) at.own next.is) next.request

    same : SameKeys (put_all cs w) (put_all (us ++ cs) w)
    same = ahead us cs w (turn-outside keys.reads q (near w q) (operation_effects q n p m None) refl refl refl)
performed-agrees c past w name lot q n p m (Some cause) cs up at does made = still past w name lot (updates_of q (near w q) e ++ []) [] e.marks up.agree (failure-unheard hears MemoryManagement (Some cause) q refl)
    (kept-append w (updates_of q (near w q) e) [] (outside-kept w (updates_of q (near w q) e) (turn-outside reads q (near w q) e refl refl refl)) (record {}))
    (failure-none past w name lot q n cause up.posts at.there.present at.own does (next-posted past w q n up.posts at.there.present does))
  where
    e : Effects
    e = failure_effects MemoryManagement (Some cause) q

-- ---- every ending

ways-end : (c : Configuration) (past : Past) (w : World) → IsFollowed c past w → (e : End) → IsSo c w e → Agrees past (event_of e) (after c w e) (told c w e)
ways-end c past w up (End.Refused by (verbs.AllocPd d) r) so = up.agree
ways-end c past w up (End.Refused by verb r) so = up.agree
ways-end c past w up (End.RegMr by s buffer offset count rights) so =
    subst (λ k. AgreeOnWays (with_at key_slot_eq past.low (region_key_slot s) (low_of h.key)) (with_at key_slot_eq past.way k Registration) (with_at slot_eq w.region s (after_registration s at rights (w.region s))) w.window)
    (sym (at-region h s (next_low (w.region s).low) refl refl))
    (region-granted past.low past.way w.region w.window s (after_registration s at rights (w.region s)) (low_of h.key) Registration up.agree
    (region-small c s up.limited (and_parts (has_slot c (λ a. a.regions) s) (has_buffer c s.domain.adapter buffer) so.0).0)
    (λ t. none-granted w s t up.bound (vacant-none (w.region s).state so.2)) (made-low (region_index s) (w.region s).low) (λ e. absurd (true≢false (sym e))))
  where
    at : Run
    at = run_of s.domain.adapter buffer offset count

    h : Grant
    h = grant_of_registration s at rights (next_low (w.region s).low)
ways-end c past w up (End.AllocMr by s pages) so =
    (kept c w (start c w past (End.AllocMr by s pages)) (changed c w (End.AllocMr by s pages)) [] [] (record {}, up.agree) (record {}, ((refl, λ e. absurd (true≢false (sym e)), λ g e. none-some g _ e), record {})) (record {})).1
ways-end c past w up (End.DeregMr by s o) so =
    (kept c w (start c w past (End.DeregMr by s o)) (changed c w (End.DeregMr by s o)) [] (more c w (End.DeregMr by s o)) (record {}, up.agree)
    (record {}, ((refl, λ e. absurd (true≢false (sym e)), λ g e. none-some g _ e), record {})) (marks-unheard hears c w (End.DeregMr by s o) so refl)).1
ways-end c past w up (End.AllocMw by s kind) so =
    (kept c w (start c w past (End.AllocMw by s kind)) (changed c w (End.AllocMw by s kind)) [] [] (record {}, up.agree) (record {}, ((refl, λ b e. e), record {})) (record {})).1
ways-end c past w up (End.DeallocMw by s None) so =
    (kept c w (start c w past (End.DeallocMw by s None)) (changed c w (End.DeallocMw by s None)) [] [] (record {}, up.agree) (record {}, ((refl, λ b e. none-some b _ e), record {})) (record {})).1
ways-end c past w up (End.DeallocMw by s (Some b)) so =
    (kept c w (start c w past (End.DeallocMw by s (Some b))) (changed c w (End.DeallocMw by s (Some b))) [] (more c w (End.DeallocMw by s (Some b))) (record {}, up.agree)
    (record {}, ((refl, λ b e. none-some b _ e), ((refl, λ e. e, λ g e. e), outside-kept w (binder_updates w b.queue) (binder-outside reads w b.queue refl)))) (refl, record {})).1
ways-end c past w up (End.PostSend by s request q (Some at)) so =
    (kept c w (start c w past (End.PostSend by s request q (Some at))) (changed c w (End.PostSend by s request q (Some at))) [] (more c w (End.PostSend by s request q (Some at))) (record {}, up.agree)
    (record {}, (record {}, drawn-kept w at)) (marks-unheard hears c w (End.PostSend by s request q (Some at)) so refl)).1
ways-end c past w up (End.Inject by name bytes q i e) so = (kept c w (start c w past (End.Inject by name bytes q i e)) (row_updates c w q i e) (writes_in (sight_in c w) e.writes) (more c w (End.Inject by name bytes q i e))
    (record {}, up.agree) (arrived-kept c w q i e) (marks-unheard hears c w (End.Inject by name bytes q i e) so refl)).1
ways-end c past w up (End.Deliver name index bytes q i e) so = (kept c w (start c w past (End.Deliver name index bytes q i e)) (changed c w (End.Deliver name index bytes q i e)) (writes_in (sight_in c w) e.writes)
    (more c w (End.Deliver name index bytes q i e)) (record {}, up.agree) (record {}, arrived-kept c w q i e) (marks-unheard hears c w (End.Deliver name index bytes q i e) so refl)).1
ways-end c past w up (End.Respond name lot q peer i e) so = (kept c w (start c w past (End.Respond name lot q peer i e)) (turn_updates c w lot q peer i e) (writes_in (sight_in c w) e.writes) (turn_marks w lot q peer e)
    (record {}, up.agree) (row-kept c w q i e _ (sent-outside reads q peer (w.mailbox peer.queue) lot (packet_sent e) refl)) (marks-unheard hears c w (End.Respond name lot q peer i e) so refl)).1
ways-end c past w up (End.Send name lot q peer n) so = still past w name lot (turn_updates c w lot q peer None (packet_of c w q n)) [] (turn_marks w lot q peer (packet_of c w q n)) up.agree
    (marks-unheard hears c w (End.Send name lot q peer n) so refl) (row-kept c w q None (packet_of c w q n) _ (sent-outside reads q peer (w.mailbox peer.queue) lot (packet_sent (packet_of c w q n)) refl))
    (used-none (after_marks (turn_marks w lot q peer (packet_of c w q n)) begin) (subst IsUsed (sym (marks-append (packet_of c w q n).marks _ begin)) (sent-used q peer (w.mailbox peer.queue) lot _ (after_marks (packet_of c w q n).marks begin))))
  where
    begin : Past
    begin = at_begin (events.Request name lot) past
ways-end c past w up (End.Deny name lot q peer n d) so = still past w name lot (turn_updates c w lot q peer None (denied_list_effects q d)) [] (denied_list_effects q d).marks up.agree
    (marks-unheard hears c w (End.Deny name lot q peer n d) so refl) (row-kept c w q None (denied_list_effects q d) [] (record {}))
    (used-none (after_marks failed begin) (ap (λ b. b || is_some (slice_get (after_marks failed begin).at_hand.sent 0))
    (used-list failed (failure-unheard posts.hears LocalProtection None q refl) begin refl)))
  where
    failed : List Mark
    failed = (failure_effects LocalProtection None q).marks

    begin : Past
    begin = after_marks (local_denial d ∷ []) (at_begin (events.Request name lot) past)
ways-end c past w up (End.Perform name lot q n) so = performed-agrees c past w name lot q n (done_by c w q n n.request.op).after (done_by c w q n n.request.op).marks (done_by c w q n n.request.op).refusal
    (done_by c w q n n.request.op).changes up so.0 (performs q n (there-kept w q up.steady so.0.there) so.0.there.sound.requester.begun so.1)
    (made-ways c past w q name n n.request.op up so.0.there so.0.own named so.3)
  where
    named : has_named_slot c q.domain n.request.op ≡ true
    named = subst (IsNamedTurn c q) so.1 (turn-named c w q (placed-here c w name q (record { sound = up.sound; placed = up.placed }) (ap w.queue (sym so.0.own) ∙ so.0.there.present) so.2))
ways-end c past w up (End.ModifyQp by s q changes.Error) so = (quiet Left reads hears left-frame c w past (End.ModifyQp by s q changes.Error) so refl (record {}, up.agree)).1
ways-end c past w up (End.ModifyQp by s q change) so = (quiet Left reads hears left-frame c w past (End.ModifyQp by s q change) so refl (record {}, up.agree)).1
ways-end c past w up e so = (quiet Left reads hears left-frame c w past e so refl (record {}, up.agree)).1

-- ---- events and histories

pub event-ways-agree : (c : Configuration) (past : Past) (w : World) (event : Event) → IsFollowed c past w → Comes (λ v ms. WaysAgree (at_end (after_marks ms (at_begin event past))) v) (step c w event)
event-ways-agree c past w event up = comes w (Agrees past event) (plan c event) (walk-event c w (Agrees past) up.sound (ways-end c past w up) event)

pub opening-ways-agree : (bytes : ByteMap) → WaysAgree (opening_past bytes) (opening_world bytes)
opening-ways-agree bytes = record { low = λ k is. refl; fast = λ k is e. absurd (true≢false (sym e)); bound = λ k is b e. absurd (true≢false (sym (ap is_some e))) }

along : (c : Configuration) (n : ℕ) (es : List EntryValue) (past : Past) (w : World) → AllByRecursion (λ e. CanBeMade e.event) es → IsFollowed c past w
    → run_from c n w (map (λ e. e.event) es) ≡ Ok (map (λ e. e.marks) es) → HoldsAlong WaysAgree c past w es
along c n [] past w made up follows = up.agree
along c n (e ∷ es) past w made up follows = (
  up.agree,
  by (step c w e.event) (event-ways-agree c past w e.event up) (event-posts-agree c past w e.event up.limited up.sound up.steady up.posts) (event-sound c e.event w up.limited up.sound made.0)
      (event-steady c e.event w up.sound up.steady) (event-placed c e.event w up.limited up.sound up.placed) (event-bound c e.event w up.sound up.bound) follows
      (λ v next told. along c (suc n) es (after_entry e past) v made.1 next told),
)
  where
    Rest : Type 0
    Rest = (v : World) → IsFollowed c (after_entry e past) v → run_from c (suc n) v (map (λ e. e.event) es) ≡ Ok (map (λ e. e.marks) es) → HoldsAlong WaysAgree c (after_entry e past) v es

    by : (o : Outcome) → Comes (λ v ms. WaysAgree (at_end (after_marks ms (at_begin e.event past))) v) o → Comes (λ v ms. PostsAgree (at_end (after_marks ms (at_begin e.event past))) v) o → Afterwards (IsSoundWorld c) o
        → Afterwards IsSteadyWorld o → Afterwards (IsPlacedWorld c) o → Afterwards IsBoundWorld o
        → go_on n o (λ v. run_from c (suc n) v (map (λ e. e.event) es)) ≡ Ok (e.marks ∷ map (λ e. e.marks) es) → Rest
        → Afterwards (λ v. HoldsAlong WaysAgree c (after_entry e past) v es) o
    by (NotReady reason) agrees posts sound steady placed bound follows rest = record {}
    by (Did v ms) agrees posts sound steady placed bound follows rest = at (first-marks ms e.marks (run_from c (suc n) v (map (λ e. e.event) es)) (map (λ e. e.marks) es) follows)
      where
        at : (ms ≡ e.marks) × (run_from c (suc n) v (map (λ e. e.event) es) ≡ Ok (map (λ e. e.marks) es)) → HoldsAlong WaysAgree c (after_entry e past) v es
        at told = rest v (record {
          limited = up.limited;
          sound = sound;
          steady = steady;
          placed = placed;
          bound = bound;
          posts = subst (λ xs. PostsAgree (at_end (after_marks xs (at_begin e.event past))) v) told.0 posts;
          agree = subst (λ xs. WaysAgree (at_end (after_marks xs (at_begin e.event past))) v) told.0 agrees;
        }) told.1

pub ways-along : (c : Configuration) (bytes : ByteMap) (es : List EntryValue) → AreLimited c → AllByRecursion (λ e. CanBeMade e.event) es → Follows c bytes es
    → HoldsAlong WaysAgree c (opening_past bytes) (opening_world bytes) es
ways-along c bytes es limited made follows = along c 0 es (opening_past bytes) (opening_world bytes) made (record {
  limited = limited;
  sound = opening-sound c bytes;
  steady = opening-steady bytes;
  placed = opening-placed c bytes;
  bound = opening-bound bytes;
  posts = opening-posts-agree bytes;
  agree = opening-ways-agree bytes;
}) follows
