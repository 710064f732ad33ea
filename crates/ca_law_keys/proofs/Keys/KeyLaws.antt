-- Every event keeps the agreement on memory and keys, and so does every history that follows the machine. For proofs only.
use Rattle.std.proofs.Common.{◌≡◌, ℕ, suc, ◌<◌, ◌==◌, not, arith, Bool, true, false, if◌then◌else◌, List, [], ◌∷◌, ◌++◌, length, map, Option, None, Some, Ok, Err, refl, sym, ap, subst, ◌∙◌, true≢false, append_assoc}
use Rattle.std.proofs.lemmas.Bool.{and_parts, ltb-false}
use Rattle.std.specs.List.{AllByRecursion}
use Rattle.std.specs.Option.{option_and_then, option_map_or}
use Rattle.ca_law_endings.proofs.EventFitLemmas.{first-marks}
use Rattle.ca_law_endings.proofs.LeadsLemmas.{comes}
use Rattle.ca_law_endings.specs.Agreement.{HoldsAlong}
use Rattle.ca_law_endings.specs.Runs.{Comes}
use Rattle.ca_law_world.proofs.Sound.SettledLemmas.{slot-path}
use Rattle.ca_law_world.proofs.Sound.SoundLemmas.{event-sound, opening-sound}
use Rattle.ca_law_world.proofs.Sound.WorldLemmas.{IsThere}
use Rattle.ca_law_keys.proofs.Keys.ChangeLemmas.{grants-same, region-small, window-small}
use Rattle.ca_law_keys.proofs.Keys.EndLemmas.{key-ended, region-ended, region-granted, region-kept, window-ended}
use Rattle.ca_law_keys.proofs.Keys.KeyFrame.{Ends, IsUp, SameKeys, ahead, ahead-of, ends-agreed, hears, keys-frame, leaves-unheard, own-adapter, reads}
use Rattle.ca_law_keys.proofs.Keys.KeyMade.{Made, operation-made}
use Rattle.ca_law_keys.proofs.Keys.SightLemmas.{after_asked, writes-asked}
use Rattle.ca_law_keys.proofs.Keys.SlotLemmas.{at-region, same-agrees, without_key}
use Rattle.ca_law_keys.proofs.Keys.ToldLemmas.{At, Leaves, leaves-append, leaves-revoked, list-written, none-written, touch-alike}
use Rattle.ca_law_keys.specs.InForce.{AgreeOnGrants, KeysAgree, grant_over_regions, is_window_slot, slot_at}
use Rattle.ca_base.specs.Configuration.{Configuration}
use Rattle.ca_base.specs.Grants.{grant_of_registration, next_low}
use Rattle.ca_base.specs.Sight.{Invalidation, Sight}
use Rattle.ca_base.specs.declared.completion.WcStatus.TheVariants.{MemoryManagement}
use Rattle.ca_base.specs.declared.refusals.OpRefusal.{OpRefusal}
use Rattle.ca_base.specs.objects.LocalRequest.{LocalMarks}
use Rattle.ca_base.specs.objects.QueuePair.{QueuePair}
use Rattle.ca_base.specs.objects.Region.{Region, RegionState, Registered, FastRegistered, after_allocation, after_deregistration, grant_in_state, grant_of_region, has_no_region, with_window_unbound}
use Rattle.ca_base.specs.declared.correspondent.Correspondent.{Correspondent}
use Rattle.ca_base.specs.declared.change.Change.TheVariants as changes
use Rattle.ca_base.specs.declared.lot.Lot.{Lot}
use Rattle.ca_base.specs.objects.Mailbox.{after_delivery}
use Rattle.ca_base.specs.objects.Slices.{has_queue, has_slot}
use Rattle.ca_base.specs.objects.Window.{Binding, Window, after_deallocation, after_draw, after_window_allocation, key_of_window}
use Rattle.ca_law_endings.proofs.Endings.{End, IsAt, IsSo, after, event_of, near, row_updates, sending, start, told, turn_marks, turn_updates}
use Rattle.ca_law_endings.proofs.Footprint.{AllMiss, AreOutside, all-miss, binder-outside, failure-unheard, flushed-unheard, kept-marks, kept-puts, moves-unheard, moves_kinds, outside-append, quiet, sent-outside, sent-unheard, sent_kinds, success-unheard, turn-outside}
use Rattle.ca_law_endings.proofs.Moves.{RowEnds, Touch}
use Rattle.ca_law_endings.proofs.Operations.{done_by}
use Rattle.ca_law_endings.proofs.Walk.{walk-event}
use Rattle.ca_keys.specs.Equal.{slot_eq}
use Rattle.ca_keys.specs.Memory.{ByteMap, little_endian_bytes, memory_after, runs_at, runs_for}
use Rattle.ca_keys.specs.declared.access.Ask.{Ask}
use Rattle.ca_keys.specs.declared.access.Kind.TheVariants as access
use Rattle.ca_base.specs.declared.limits.TheConstants.{ATOMIC_BYTES}
use Rattle.ca_model.specs.machine.Arrivals.{packet_ask}
use Rattle.ca_model.specs.machine.Expected.{with_window_gone}
use Rattle.ca_law_world.proofs.Sound.PlanWalks.{binder_updates, deallocated}
use Rattle.ca_keys.specs.declared.grant.Grant.{Grant}
use Rattle.ca_keys.specs.declared.names.QueueId.{QueueId}
use Rattle.ca_keys.specs.declared.names.Slot.{Slot}
use Rattle.ca_law_parts.proofs.Names.PlacedLemmas.{event-placed, opening-placed}
use Rattle.ca_law_parts.proofs.Names.PlacedOperationLemmas.{IsNamedTurn, turn-named}
use Rattle.ca_law_parts.proofs.Names.PlacedTurnLemmas.{placed-here}
use Rattle.ca_law_parts.specs.Placed.{IsPlacedWorld}
use Rattle.ca_law_world.proofs.Windows.WindowEventLemmas.{event-bound, opening-bound}
use Rattle.ca_law_world.proofs.Windows.WindowWorldLemmas.{unbound-grants}
use Rattle.ca_law_world.specs.Bindings.{IsBoundWorld}
use Rattle.ca_model.specs.Entries.{EntryValue}
use Rattle.ca_model.specs.Past.{KeySlot, Past, after_entry, after_mark, after_marks, at_begin, opening_past, with_at}
use Rattle.ca_model.specs.declared.event.Event.{Event}
use Rattle.ca_model.specs.declared.event.Event.TheVariants as events
use Rattle.ca_model.specs.declared.mark.Mark.{Mark}
use Rattle.ca_model.specs.declared.mark.Mark.TheVariants as marks
use Rattle.ca_model.specs.declared.verb.Verb.TheVariants as verbs
use Rattle.ca_model.specs.machine.Around.{updates_of}
use Rattle.ca_model.specs.machine.Completions.{success_marks}
use Rattle.ca_model.specs.machine.Frame.{Afterwards}
use Rattle.ca_model.specs.machine.LocalOperations.{local_marks, operation_effects}
use Rattle.ca_model.specs.machine.Numbering.{Numbered}
use Rattle.ca_model.specs.machine.Plan.{Did, NotReady, Outcome, Update, ◌:=◌, put_all, write_all}
use Rattle.ca_model.specs.machine.PostingVerbs.{marks_of_flush}
use Rattle.ca_model.specs.machine.Requester.{Performs, turn_of}
use Rattle.ca_model.specs.machine.Responses.{local_writes}
use Rattle.ca_model.specs.machine.Row.{Effects, grant_over, region_under, unless_none}
use Rattle.ca_model.specs.machine.Run.{Follows, Ran, go_on, run_from}
use Rattle.ca_model.specs.machine.Seen.{ending_changes, refusal_in, sight_in, writes_in}
use Rattle.ca_model.specs.machine.Sound.{AreLimited, CanBeMade, IsSoundWorld}
use Rattle.ca_model.specs.machine.Step.{has_buffer, has_named_slot, plan, run_of, step}
use Rattle.ca_model.specs.machine.Turns.{packet_sent, sent_marks, sent_updates}
use Rattle.ca_model.specs.machine.World.{World, Mailbox_of, Region_of, opening_world}

-- ---- what a row tells

-- the grants in force when a key has ended
abbrev without : Option Invalidation → List Grant → List Grant
without None g = g
without (Some i) g = without_key i.queue.adapter i.key g

touch-told : (s : Sight) (g : List Grant) (i : Option Invalidation) (ms : List Mark) (ws : List (Ask × List ℕ)) (n : ByteMap) → Touch s i ms ws → Leaves g n ms (without i g) (after_asked g ws n)
touch-told s g i ms ws n (Touch.ListWritten queue domain skip pieces bytes) = list-written g queue domain access.Write skip pieces bytes n
touch-told s g i ms ws n (Touch.ListEnds j queue domain skip pieces bytes is) = leaves-append g g (without_key j.queue.adapter j.key g) n (after_asked g ws n) (after_asked g ws n)
    (local_writes ws) (marks.Revoked j.queue.adapter j.key ∷ []) (list-written g queue domain access.Write skip pieces bytes n) (leaves-revoked g (after_asked g ws n) j.queue.adapter j.key)
touch-told s g i ms ws n (Touch.RemoteWrote q key kind address count envelope bytes) = λ p at. record {
  grants = at.grants;
  memory = (λ j. memory_after (at.memory j) (runs_for (record ask { touch = count }) (at.grants j) (length bytes)) bytes)
      ∙ ap (λ o. memory_after n (option_map_or (λ x. runs_at x address (length bytes)) o []) bytes) (touch-alike ask count g);
}
  where
    ask : Ask
    ask = packet_ask q key kind address count (length bytes)
touch-told s g i ms ws n (Touch.RemoteWroteNone q key kind address count envelope bytes none) = λ p at. record {
  grants = at.grants;
  memory = (λ j. memory_after (at.memory j) (runs_for (record ask { touch = count }) (at.grants j) (length bytes)) bytes) ∙ none-written (record ask { touch = count }) g n bytes none;
}
  where
    ask : Ask
    ask = packet_ask q key kind address count (length bytes)
touch-told s g i ms ws n (Touch.RemoteSwapped q key kind address envelope found put) = λ p at. record {
  grants = at.grants;
  memory = λ j. memory_after (at.memory j) (runs_for (packet_ask q key kind address ATOMIC_BYTES ATOMIC_BYTES) (at.grants j) ATOMIC_BYTES) (little_endian_bytes put);
}
touch-told s g i ms ws n touch = λ p at. record { grants = at.grants; memory = at.memory }

row-told : (s : Sight) (g : List Grant) (q : QueuePair) (i : Option Invalidation) (e : Effects) (n : ByteMap) → RowEnds s q i e → Leaves g n e.marks (without i g) (after_asked g e.writes n)
row-told s g q i e n x = subst (λ ms. Leaves g n ms (without i g) (after_asked g e.writes n)) (sym x.marks)
    (leaves-append g g (without i g) n n (after_asked g e.writes n) x.before (x.touched ++ x.behind) (leaves-unheard g n x.before (moves-unheard hears q x.middle x.before calm x.goes))
    (leaves-append g (without i g) (without i g) n (after_asked g e.writes n) (after_asked g e.writes n) x.touched x.behind (touch-told s g i x.touched e.writes n x.touch)
    (leaves-unheard (without i g) (after_asked g e.writes n) x.behind (moves-unheard hears (with_window_gone i x.middle) e.queue x.behind calm x.on))))
  where
    calm : AllMiss hears moves_kinds
    calm = all-miss hears moves_kinds refl

-- what the key that a row ends changes
ended-keys : (c : Configuration) (past : Past) (w : World) (q : QueuePair) (i : Option Invalidation) (e : Effects) → IsUp c past w → IsThere w q → RowEnds (sight_in c w) q i e
    → Ends w (option_map_or (ending_changes c w) i []) (without i past.grants)
ended-keys c past w q None e up there x = record { keys = up.agree.keys; bytes = refl }
ended-keys c past w q (Some i) e up there x = key-ended c w past.grants i up.sound up.bound up.agree.keys
    (ap (λ d. d.adapter) x.own.1 ∙ own-adapter w q there ∙ sym (ap (λ n. n.adapter) x.own.0)) (refusal i x.touched e.writes x.touch)
  where
    refusal : (i : Invalidation) (ms : List Mark) (ws : List (Ask × List ℕ)) → Touch (sight_in c w) (Some i) ms ws → refusal_in c w i ≡ None
    refusal i ms ws (Touch.ListEnds j queue domain skip pieces bytes is) = is

-- a row, with changes and marks around it that the agreement does not read or hear
row-agrees : (c : Configuration) (past r : Past) (w v : World) (q : QueuePair) (i : Option Invalidation) (e : Effects) (ms : List Mark) → IsUp c past w → IsThere w q → RowEnds (sight_in c w) q i e
    → At past.grants past.memory r → SameKeys (put_all (option_map_or (ending_changes c w) i []) w) v
    → (Leaves past.grants past.memory e.marks (without i past.grants) (after_asked past.grants e.writes past.memory) → Leaves past.grants past.memory ms (without i past.grants) (after_asked past.grants e.writes past.memory))
    → KeysAgree (after_marks ms r) (write_all (writes_in (sight_in c w) e.writes) v)
row-agrees c past r w v q i e ms up there x at same tells = ends-agreed past r w v (option_map_or (ending_changes c w) i []) (writes_in (sight_in c w) e.writes) ms (without i past.grants) (after_asked past.grants e.writes past.memory)
    up.agree (ended-keys c past w q i e up there x) same at (tells (row-told (sight_in c w) past.grants q i e past.memory x)) (writes-asked c w past.grants e.writes past.memory up.sound up.placed up.agree.keys)

-- a packet that arrives, and a turn that sends one
arrives : (c : Configuration) (past r : Past) (w : World) (q : QueuePair) (i : Option Invalidation) (e : Effects) (us : List Update) (envelope : Option ℕ) → IsUp c past w → IsThere w q → RowEnds (sight_in c w) q i e
    → At past.grants past.memory r → AreOutside reads us
    → KeysAgree (after_marks (marks.Arrived q.queue envelope ∷ e.marks) r) (write_all (writes_in (sight_in c w) e.writes) (put_all (us ++ row_updates c w q i e) w))
arrives c past r w q i e us envelope up there x at out = row-agrees c past r w (put_all (us ++ row_updates c w q i e) w) q i e (marks.Arrived q.queue envelope ∷ e.marks) up there x at
    (subst (λ vs. SameKeys (put_all (option_map_or (ending_changes c w) i []) w) (put_all vs w)) (append_assoc us (updates_of q (near w q) e) (option_map_or (ending_changes c w) i []))
    (ahead (us ++ updates_of q (near w q) e) (option_map_or (ending_changes c w) i []) w (outside-append reads us (updates_of q (near w q) e) out (turn-outside reads q (near w q) e refl refl refl))))
    (λ told p here. told (after_mark (marks.Arrived q.queue envelope) p) (record { grants = here.grants; memory = here.memory }))

turns : (c : Configuration) (past : Past) (event : Event) (w : World) (lot : Lot) (q : QueuePair) (peer : Correspondent) (i : Option Invalidation) (e : Effects) → IsUp c past w → IsThere w q → RowEnds (sight_in c w) q i e
    → KeysAgree (after_marks (turn_marks w lot q peer e) (at_begin event past)) (write_all (writes_in (sight_in c w) e.writes) (put_all (turn_updates c w lot q peer i e) w))
turns c past event w lot q peer i e up there x = row-agrees c past (at_begin event past) w (put_all (turn_updates c w lot q peer i e) w) q i e (turn_marks w lot q peer e) up there x (record { grants = refl; memory = refl })
    (ahead-of (updates_of q (near w q) e) (option_map_or (ending_changes c w) i []) (option_map_or (sent_updates q peer (w.mailbox peer.queue) lot) (packet_sent e) []) w
    (turn-outside reads q (near w q) e refl refl refl) (sent-outside reads q peer (w.mailbox peer.queue) lot (packet_sent e) refl))
    (λ told. leaves-append past.grants (without i past.grants) (without i past.grants) past.memory (after_asked past.grants e.writes past.memory) (after_asked past.grants e.writes past.memory) e.marks _ told
    (leaves-unheard (without i past.grants) (after_asked past.grants e.writes past.memory) (option_map_or (sent_marks q peer (w.mailbox peer.queue) lot) (packet_sent e) [])
    (sent-unheard hears q peer (w.mailbox peer.queue) lot (packet_sent e) (all-miss hears sent_kinds refl))))

-- ---- verbs

vacant-none : (s : RegionState) → not (has_no_region s) ≡ false → grant_in_state s ≡ None
vacant-none (Registered g) e = absurd (true≢false e)
vacant-none (FastRegistered pages g) e = absurd (true≢false e)
vacant-none s e = refl

-- a window that stands for what it stood for
window-kept : (w : World) (g : List Grant) (s : Slot) (x : Window) → AgreeOnGrants g w.region w.window → grant_over_regions w.region x ≡ grant_over_regions w.region (w.window s)
    → AgreeOnGrants g w.region (with_at slot_eq w.window s x)
window-kept w g s x agree same = same-agrees g w.region w.region w.window (with_at slot_eq w.window s x) agree (λ l. by l (is_window_slot l))
  where
    at : (t : Slot) (b : Bool) → slot_eq s t ≡ b → grant_over_regions w.region (if b then x else w.window t) ≡ grant_over_regions w.region (w.window t)
    at t true e = same ∙ ap (λ u. grant_over_regions w.region (w.window u)) (slot-path s t e)
    at t false e = refl

    by : (l : KeySlot) (b : Bool) → (if b then grant_over_regions w.region (with_at slot_eq w.window s x (slot_at l)) else grant_of_region (w.region (slot_at l)))
        ≡ (if b then grant_over_regions w.region (w.window (slot_at l)) else grant_of_region (w.region (slot_at l)))
    by l true = at (slot_at l) (slot_eq s (slot_at l)) refl
    by l false = refl

drawn-same : (region : Slot → Region) (x : Window) → grant_over_regions region (after_draw x) ≡ grant_over_regions region x
drawn-same region x = by (x.kind == 1)
  where
    by : (b : Bool) → grant_over_regions region (if b then record x { drawn = next_low x.drawn } else x) ≡ grant_over_regions region x
    by true = refl
    by false = refl

-- a window that was bound ends, and its region keeps what it grants
unbound-keys : (c : Configuration) (past : Past) (w : World) (s : Slot) (b : Binding) → IsUp c past w → s.slot < 0x8000 → (w.window s).binding ≡ Some b
    → AgreeOnGrants (without_key s.domain.adapter (key_of_window (w.window s)) past.grants)
    (with_at slot_eq w.region (region_under (w.window s) b) (with_window_unbound (w.region (region_under (w.window s) b)))) (with_at slot_eq w.window s (after_deallocation (w.window s)))
unbound-keys c past w s b up small is = same-agrees (without_key s.domain.adapter (key_of_window (w.window s)) past.grants) w.region left (with_at slot_eq w.window s (after_deallocation (w.window s))) (with_at slot_eq w.window s (after_deallocation (w.window s)))
    (window-ended c w past.grants s (after_deallocation (w.window s)) (Some b) up.sound up.bound up.agree.keys small is refl)
    (λ l. grants-same w.region left (with_at slot_eq w.window s (after_deallocation (w.window s))) l (unbound-grants w.region (region_under (w.window s) b) (with_window_unbound (w.region (region_under (w.window s) b))) refl))
  where
    left : Slot → Region
    left = with_at slot_eq w.region (region_under (w.window s) b) (with_window_unbound (w.region (region_under (w.window s) b)))

-- ---- every ending

abbrev Agrees : Past → Event → World → List Mark → Type 0
Agrees past event v ms = KeysAgree (after_marks ms (at_begin event past)) v

-- a local operation, refused or not
performed-agrees : (c : Configuration) (past : Past) (w : World) (q : QueuePair) (n : Numbered) (event : Event) (p : QueuePair) (m : LocalMarks) (r : Option OpRefusal) (cs : List Update) → IsUp c past w
    → (r ≡ None → Made w q past.grants m cs) → Agrees past event (put_all (updates_of q (near w q) (operation_effects q n p m r) ++ unless_none r cs) w) (operation_effects q n p m r).marks
performed-agrees c past w q n event p m (Some cause) cs up made = ends-agreed past (at_begin event past) w (put_all (updates_of q (near w q) e ++ []) w) [] [] e.marks past.grants past.memory up.agree
    (record { keys = up.agree.keys; bytes = refl }) (ahead (updates_of q (near w q) e) [] w (turn-outside reads q (near w q) e refl refl refl)) (record { grants = refl; memory = refl })
    (leaves-unheard past.grants past.memory e.marks (failure-unheard hears MemoryManagement (Some cause) q refl)) refl
  where
    e : Effects
    e = operation_effects q n p m (Some cause)
performed-agrees c past w q n event p m None cs up made = ends-agreed past (at_begin event past) w (put_all (updates_of q (near w q) e ++ cs) w) cs [] e.marks done.grants past.memory up.agree done.ends
    (ahead (updates_of q (near w q) e) cs w (turn-outside reads q (near w q) e refl refl refl)) (record { grants = refl; memory = refl })
    (leaves-append past.grants done.grants done.grants past.memory past.memory past.memory (local_marks q m) (success_marks q.queue n.place n.request) (done.leaves past.memory)
    (leaves-unheard done.grants past.memory (success_marks q.queue n.place n.request) (success-unheard hears q.queue n.place n.request refl))) refl
  where
    e : Effects
    e = operation_effects q n p m None

    done : Made w q past.grants m cs
    done = made refl

-- a turn that performs a local operation names a slot that is configured
named-slot : (c : Configuration) (w : World) (name : QueueId) (q : QueuePair) (n : Numbered) → IsSoundWorld c w → IsPlacedWorld c w → IsAt w name q → turn_of q ≡ Performs n → has_queue c name ≡ true
    → has_named_slot c q.domain n.request.op ≡ true
named-slot c w name q n sound placed at is has = subst (IsNamedTurn c q) is (turn-named c w q (placed-here c w name q (record { sound = sound; placed = placed }) (ap w.queue (sym at.own) ∙ at.there.present) has))

keys-end : (c : Configuration) (past : Past) (w : World) → IsUp c past w → (e : End) → IsSo c w e → Agrees past (event_of e) (after c w e) (told c w e)
keys-end c past w up (End.Refused by (verbs.AllocPd d) r) so = up.agree
keys-end c past w up (End.Refused by verb r) so = up.agree
keys-end c past w up (End.RegMr by s buffer offset count rights) so = record {
  bytes = up.agree.bytes;
  keys = region-granted w past.grants s _ _ up.bound up.agree.keys (region-small c s up.limited (and_parts (has_slot c (λ a. a.regions) s) (has_buffer c s.domain.adapter buffer) so.0).0)
      (vacant-none (w.region s).state so.2) refl (at-region (grant_of_registration s (run_of s.domain.adapter buffer offset count) rights (next_low (w.region s).low)) s (next_low (w.region s).low) refl refl);
}
keys-end c past w up (End.AllocMr by s pages) so = record { bytes = up.agree.bytes; keys = region-kept w past.grants s (after_allocation pages (w.region s)) up.agree.keys (sym (vacant-none (w.region s).state so.2)) }
keys-end c past w up (End.DeregMr by s None) so = record { bytes = up.agree.bytes; keys = region-kept w past.grants s (after_deregistration (w.region s)) up.agree.keys (sym so.1) }
keys-end c past w up (End.DeregMr by s (Some h)) so = record {
  bytes = up.agree.bytes;
  keys = region-ended c w past.grants s (after_deregistration (w.region s)) h up.sound up.bound up.agree.keys (region-small c s up.limited so.0) so.1 (omega (arith, ltb-false 0 (w.region s).bound so.2.1.0)) refl;
}
keys-end c past w up (End.AllocMw by s kind) so = record { bytes = up.agree.bytes; keys = window-kept w past.grants s (after_window_allocation kind (w.window s)) up.agree.keys refl }
keys-end c past w up (End.DeallocMw by s None) so = record {
  bytes = up.agree.bytes;
  keys = window-kept w past.grants s (after_deallocation (w.window s)) up.agree.keys (sym (ap (option_and_then (λ b. grant_over (w.window s) b (w.region (region_under (w.window s) b)))) so.1));
}
keys-end c past w up (End.DeallocMw by s (Some b)) so = kept-puts KeysAgree reads hears keys-frame (after_marks (told c w (End.DeallocMw by s (Some b))) (at_begin (events.Verb by (verbs.DeallocMw s)) past)) v (binder_updates w b.queue) (binder-outside reads w b.queue refl)
    (record { bytes = up.agree.bytes; keys = unbound-keys c past w s b up (window-small c s up.limited so.0) so.1 })
  where
    v : World
    v = put_all (deallocated w s ++ (Region_of (region_under (w.window s) b) := with_window_unbound (w.region (region_under (w.window s) b))) ∷ []) w
keys-end c past w up (End.PostSend by s request q (Some at)) so = kept-marks KeysAgree reads hears keys-frame (start c w past (End.PostSend by s request q (Some at))) (after c w (End.PostSend by s request q (Some at))) (marks_of_flush (sending w request (Some at) q)) (flushed-unheard hears (sending w request (Some at) q) refl)
    (record { bytes = up.agree.bytes; keys = window-kept w past.grants at (after_draw (w.window at)) up.agree.keys (drawn-same w.region (w.window at)) })
keys-end c past w up (End.Store by adapter buffer offset bytes) so = record {
  bytes = ap (λ m. memory_after m (record { adapter = adapter; buffer = buffer; offset = offset; length = length bytes } ∷ []) bytes) up.agree.bytes;
  keys = up.agree.keys;
}
keys-end c past w up (End.Inject by name bytes q i e) so = arrives c past (start c w past (End.Inject by name bytes q i e)) w q i e [] None up so.0.there so.1.ends (record { grants = refl; memory = refl }) (record {})
keys-end c past w up (End.Deliver name index bytes q i e) so =
    arrives c past (at_begin (events.Deliver name index) past) w q i e ((Mailbox_of name := after_delivery index (w.mailbox name)) ∷ []) (Some index) up so.0.there so.2.ends (record { grants = refl; memory = refl }) (refl, record {})
keys-end c past w up (End.Respond name lot q peer i e) so = turns c past (events.Respond name lot) w lot q peer i e up so.0.there so.2.ends
keys-end c past w up (End.Perform name lot q n) so = performed-agrees c past w q n (events.Request name lot) (done_by c w q n n.request.op).after (done_by c w q n n.request.op).marks (done_by c w q n n.request.op).refusal
    (done_by c w q n n.request.op).changes up (operation-made c past w q n n.request.op up so.0.there (named-slot c w name q n up.sound up.placed so.0 so.1 so.2) so.3)
keys-end c past w up (End.ModifyQp by s q changes.Error) so = quiet KeysAgree reads hears keys-frame c w past (End.ModifyQp by s q changes.Error) so refl up.agree
keys-end c past w up (End.ModifyQp by s q change) so = quiet KeysAgree reads hears keys-frame c w past (End.ModifyQp by s q change) so refl up.agree
keys-end c past w up e so = quiet KeysAgree reads hears keys-frame c w past e so refl up.agree

-- ---- events and histories

pub event-keys-agree : (c : Configuration) (past : Past) (w : World) (event : Event) → AreLimited c → IsSoundWorld c w → IsPlacedWorld c w → IsBoundWorld w → KeysAgree past w
    → Comes (λ v ms. KeysAgree (after_marks ms (at_begin event past)) v) (step c w event)
event-keys-agree c past w event limited sound placed bound agree = comes w (Agrees past event) (plan c event)
    (walk-event c w (Agrees past) sound (keys-end c past w (record { limited = limited; sound = sound; placed = placed; bound = bound; agree = agree })) event)

same-none : (b : Bool) (o : Option Grant) → o ≡ (if b then o else o)
same-none true o = refl
same-none false o = refl

pub opening-keys-agree : (bytes : ByteMap) → KeysAgree (opening_past bytes) (opening_world bytes)
opening-keys-agree bytes = record { bytes = refl; keys = record { apart = record {}; same = λ k. same-none (is_window_slot k) None } }

along : (c : Configuration) (n : ℕ) (es : List EntryValue) (past : Past) (w : World) → AllByRecursion (λ e. CanBeMade e.event) es → IsUp c past w
    → run_from c n w (map (λ e. e.event) es) ≡ Ok (map (λ e. e.marks) es) → HoldsAlong KeysAgree c past w es
along c n [] past w made up follows = up.agree
along c n (e ∷ es) past w made up follows = (
  up.agree,
  by (step c w e.event) (event-keys-agree c past w e.event up.limited up.sound up.placed up.bound up.agree) (event-sound c e.event w up.limited up.sound made.0)
      (event-placed c e.event w up.limited up.sound up.placed) (event-bound c e.event w up.sound up.bound) follows
      (λ v next told. along c (suc n) es (after_entry e past) v made.1 next told),
)
  where
    Rest : Type 0
    Rest = (v : World) → IsUp c (after_entry e past) v → run_from c (suc n) v (map (λ e. e.event) es) ≡ Ok (map (λ e. e.marks) es) → HoldsAlong KeysAgree c (after_entry e past) v es

    stopped : Ran → Bool
    stopped (Ok told) = false
    stopped (Err stop) = true

    by : (o : Outcome) → Comes (λ v ms. KeysAgree (after_marks ms (at_begin e.event past)) v) o → Afterwards (IsSoundWorld c) o → Afterwards (IsPlacedWorld c) o → Afterwards IsBoundWorld o
        → go_on n o (λ v. run_from c (suc n) v (map (λ e. e.event) es)) ≡ Ok (e.marks ∷ map (λ e. e.marks) es) → Rest
        → Afterwards (λ v. HoldsAlong KeysAgree c (after_entry e past) v es) o
    by (NotReady reason) agrees sound placed bound follows rest = record {}
    by (Did v ms) agrees sound placed bound follows rest = at (first-marks ms e.marks (run_from c (suc n) v (map (λ e. e.event) es)) (map (λ e. e.marks) es) follows)
      where
        at : (ms ≡ e.marks) × (run_from c (suc n) v (map (λ e. e.event) es) ≡ Ok (map (λ e. e.marks) es)) → HoldsAlong KeysAgree c (after_entry e past) v es
        at told = rest v (record { limited = up.limited; sound = sound; placed = placed; bound = bound; agree = same (subst (λ xs. KeysAgree (after_marks xs (at_begin e.event past)) v) told.0 agrees) }) told.1
          where
            same : KeysAgree (after_marks e.marks (at_begin e.event past)) v → KeysAgree (after_entry e past) v
            same agree = agree

pub keys-along : (c : Configuration) (bytes : ByteMap) (es : List EntryValue) → AreLimited c → AllByRecursion (λ e. CanBeMade e.event) es → Follows c bytes es
    → HoldsAlong KeysAgree c (opening_past bytes) (opening_world bytes) es
keys-along c bytes es limited made follows = along c 0 es (opening_past bytes) (opening_world bytes) made
    (record { limited = limited; sound = opening-sound c bytes; placed = opening-placed c bytes; bound = opening-bound bytes; agree = opening-keys-agree bytes }) follows
