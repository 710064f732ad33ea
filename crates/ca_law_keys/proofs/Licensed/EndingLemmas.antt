-- Each key that ends was in force, and each grant is what its event asked for, in every history that follows the machine.
-- For proofs only.
use Rattle.std.proofs.Common.{◌≡◌, ℕ, ◌&&◌, Bool, true, false, not, if◌then◌else◌, List, [], ◌∷◌, ◌++◌, Option, None, Some, refl, ap, subst, ◌∙◌, rules, true≢false, suc, map, Ok, Err, find, is_some, is_none, ◌==◌, ◌<◌, IfSome, sym, ap₂, arith}
use Rattle.std.specs.Option.{option_and_then}
use Rattle.std.specs.Result.{result_ok}
use Rattle.ca_law_endings.proofs.MailSentLemmas.{lent-sent}
use Rattle.ca_law_endings.proofs.PathEventLemmas.{event-agrees, opening-agrees}
use Rattle.ca_law_endings.specs.Agreement.{PathsAgree}
use Rattle.ca_base.specs.objects.SharedReceives.{SharedReceives}
use Rattle.ca_law_keys.proofs.Licensed.ArrivalLemmas.{IsNaming, arrival-named, ieth-asks}
use Rattle.ca_model.specs.Licensed.{ends_by_packet}
use Rattle.ca_model.specs.Packets.{packet_of}
use Rattle.ca_model.specs.Past.{packet_at, packet_bytes_at}
use Rattle.std.specs.Option.{option_eq}
use Rattle.std.proofs.Common.{◌/◌, ◌||◌, slice_get}
use Rattle.ca_law_keys.proofs.Posts.GrantLemmas.{is-local}
use Rattle.ca_law_endings.proofs.Operations.{named_in}
use Rattle.ca_base.specs.declared.step.Reason.{Reason}
use Rattle.ca_base.specs.declared.queue_numbers.Queued.{Queued}
use Rattle.ca_base.specs.declared.queue_numbers.Queued.TheVariants as queued
use Rattle.ca_base.specs.objects.LocalRequest.{bind1_request_refusals}
use Rattle.ca_base.specs.objects.Region.{is_fast_registered}
use Rattle.ca_base.specs.objects.Slices.{is_key_of}
use Rattle.ca_base.specs.objects.Window.{is_of_other_queue}
use Rattle.ca_keys.specs.Equal.{domain_eq, queue_eq}
use Rattle.ca_keys.specs.Numbers.{is_window_key}
use Rattle.ca_keys.specs.Refusals.{first_of}
use Rattle.ca_law_world.proofs.Sound.SettledLemmas.{domain-refl, queue-path, queue-refl}
use Rattle.ca_law_keys.specs.Ended.{DoEndAsAsked, ends_as_asked}
use Rattle.ca_model.specs.Licensed.{ends_at_hand}
use Rattle.ca_model.specs.Licensed.{ends_by_operation, is_fast, is_of_slot, may_invalidate}
use Rattle.ca_model.specs.machine.Invariants.{IsBinding}
use Rattle.ca_model.specs.machine.LocalOperations.{view_named}
use Rattle.ca_model.specs.machine.Respond.{answer_turn}
use Rattle.ca_model.specs.machine.Row.{NotPossible, plain_row}
use Rattle.std.proofs.Common.{subst₂}
use Rattle.std.proofs.lemmas.Bool.{ltb-false}
use Rattle.ca_law_keys.proofs.Keys.EndLemmas.{window-ended}
use Rattle.ca_law_endings.proofs.Leading.{leads-unless-all}
use Rattle.ca_law_keys.proofs.Keys.SlotLemmas.{at-region, at-window, key-slot-refl, region-kind, slot-at-region, without_key}
use Rattle.ca_law_keys.specs.InForce.{AgreeOnGrants, grant_in_force}
use Rattle.ca_law_keys.proofs.Posts.GrantLemmas.{found-by, grant-refl}
use Rattle.ca_law_endings.proofs.Operations.{done_by, leads-done}
use Rattle.ca_law_keys.proofs.Posts.PlaceLemmas.{IsPerformed}
use Rattle.ca_law_keys.proofs.Posts.PostLaws.{event-posts-agree, opening-posts-agree}
use Rattle.ca_law_keys.proofs.Posts.PostMade.{IsNextOperation, next-posted}
use Rattle.ca_law_keys.specs.Posts.{PostsAgree}
use Rattle.ca_law_keys.proofs.Ways.WayLaws.{event-ways-agree, opening-ways-agree}
use Rattle.ca_law_keys.specs.Ways.{WaysAgree}
use Rattle.ca_base.specs.Grants.{grant_of_registration, next_low, registration_refusals}
use Rattle.ca_base.specs.objects.Domain.{with_object}
use Rattle.ca_base.specs.objects.Region.{after_registration, is_vacant_region}
use Rattle.ca_base.specs.objects.Slices.{has_slot}
use Rattle.ca_base.specs.objects.Window.{without_binding}
use Rattle.ca_keys.specs.Equal.{grant_eq, slot_eq}
use Rattle.ca_keys.specs.Numbers.{index_of, key_at, region_index, window_index}
use Rattle.ca_keys.specs.declared.place.Run.{Run}
use Rattle.ca_keys.specs.declared.rights.Rights.{Rights}
use Rattle.ca_law_keys.proofs.Licensed.AskedLemmas.{operation-asked}
use Rattle.ca_law_keys.proofs.Licensed.BoundLemmas.{IsAgreed, none-bound}
use Rattle.ca_law_keys.specs.Asked.{AreAsAsked, is_granted_as_asked}
use Rattle.ca_law_keys.specs.Ends.{is_unbound}
use Rattle.ca_model.specs.Licensed.{is_grant_at_hand, is_grant_of_operation, is_grant_of_verb}
use Rattle.ca_model.specs.Past.{KeySlot, Posted, at_end, key_slot, key_slot_eq, key_slot_of, next_operation, operation_at_hand, with_at}
use Rattle.ca_model.specs.declared.answer.Refusal.TheVariants.{NoDomain, SlotTaken}
use Rattle.ca_model.specs.machine.RegionVerbs.{reg_mr_plan}
use Rattle.ca_model.specs.machine.Sound.{IsQueueOf}
use Rattle.ca_model.specs.machine.Step.{bytes_of_buffer, has_buffer, run_of}
use Rattle.std.specs.List.{AllByRecursion}
use Rattle.std.specs.Option.{option_map, option_map_or}
use Rattle.ca_law_endings.proofs.LeadsLemmas.{leads-around, leads-queue, leads-unless, leads-weaker, comes}
use Rattle.ca_law_endings.proofs.PathVerbLemmas.{call_of}
use Rattle.ca_law_endings.specs.Runs.{Leads, Comes}
use Rattle.ca_law_keys.proofs.Keys.KeyTurnLemmas.{found}
use Rattle.ca_law_keys.proofs.Keys.KeyFrame.{own-adapter}
use Rattle.ca_law_keys.specs.InForce.{KeysAgree}
use Rattle.ca_law_keys.proofs.Posts.GoingLemmas.{respond-goes, timeout-goes, failure-goes, IsKeyless, TellOf, EndKey, AreKeyless, arrival-goes}
use Rattle.ca_law_keys.proofs.Posts.PostLemmas.{leads-goes, leads-ends}
use Rattle.ca_law_keys.proofs.Posts.PostTurnLemmas.{packet-is}
use Rattle.ca_base.specs.Configuration.{Configuration}
use Rattle.ca_base.specs.declared.correspondent.Correspondent.{Correspondent}
use Rattle.ca_base.specs.declared.lot.Lot.{Lot}
use Rattle.ca_base.specs.declared.request.PostedSend.{PostedSend}
use Rattle.ca_base.specs.declared.step.Reason.TheVariants as reasons
use Rattle.ca_base.specs.objects.Mailbox.{Mailbox, after_delivery, bytes_lent}
use Rattle.ca_base.specs.objects.QueuePair.{QueuePair, QueueSlot, NoQueue, Present}
use Rattle.ca_base.specs.objects.WorkQueue.{WorkQueue}
use Rattle.ca_keys.specs.declared.grant.Grant.{Grant}
use Rattle.ca_keys.specs.declared.key.Key.{Key}
use Rattle.ca_keys.specs.declared.names.QueueId.{QueueId}
use Rattle.ca_keys.specs.declared.names.Slot.{Slot}
use Rattle.ca_law_world.proofs.Sound.WorldLemmas.{IsThere, around_in, shared_of, RowDoes}
use Rattle.ca_law_world.proofs.Steady.TurnLemmas.{there-kept}
use Rattle.ca_law_world.specs.Steady.{IsSteadyWorld}
use Rattle.ca_law_keys.proofs.Licensed.AnswerLemmas.{Answers, AreAnswered, AreFlushes, quiet-verb, IsQuietVerb}
use Rattle.ca_law_keys.proofs.Posts.GrantLemmas.{both-true, key-refl}
use Rattle.ca_law_keys.proofs.Licensed.EffectLemmas.{AreOf, IsOf}
use Rattle.ca_model.specs.Licensed.{grant_with}
use Rattle.ca_law_keys.proofs.Keys.EndLemmas.{region-of}
use Rattle.ca_law_keys.proofs.Keys.ChangeLemmas.{StandsOver, stands-over, at-region-slot, at-window-slot, region-small, window-small}
use Rattle.ca_keys.specs.declared.names.DomainId.{DomainId}
use Rattle.ca_keys.specs.Refusals.{AllFail}
use Rattle.ca_law_world.proofs.Sound.TurnLemmas.{all-fail}
use Rattle.ca_base.specs.objects.Slices.{names_region, names_window, slot_of_key}
use Rattle.ca_base.specs.objects.Window.{window_invalidation_refusals, Binding, Window, grant_of_binding, key_of_window, after_deallocation}
use Rattle.ca_model.specs.machine.Seen.{refusal_in}
use Rattle.ca_model.specs.machine.Row.{Row, Row_plan, region_under, Effects}
use Rattle.std.proofs.lemmas.Bool.{not-false, and_parts, eq-eqb, eqb-true}
use Rattle.ca_keys.specs.Equal.{key_eq}
use Rattle.ca_base.specs.Sight.{Invalidation}
use Rattle.std.proofs.lemmas.Option.{same_Some}
use Rattle.ca_model.specs.machine.WindowVerbs.{With_binder, dealloc_mw_plan, queue_updates}
use Rattle.ca_law_endings.proofs.PathChangeLemmas.{Behind}
use Rattle.ca_law_parts.proofs.Names.PlacedOperationLemmas.{IsNamedTurn, turn-named}
use Rattle.ca_law_parts.proofs.Names.PlacedTurnLemmas.{placed-here}
use Rattle.ca_base.specs.declared.request.SendOp.{SendOp}
use Rattle.ca_base.specs.declared.request.SendOp.TheVariants as ops
use Rattle.ca_model.specs.Past.{Past, after_mark, after_marks, at_begin, after_entry, each_entry, each_mark, opening_past, region_key_slot, window_key_slot}
use Rattle.ca_model.specs.declared.answer.Answer.TheVariants as answers
use Rattle.ca_model.specs.declared.answer.Refusal.TheVariants.{NoSuch}
use Rattle.ca_model.specs.declared.event.Event.{Event}
use Rattle.ca_model.specs.declared.event.Event.TheVariants as events
use Rattle.ca_model.specs.declared.mark.Mark.{Mark}
use Rattle.ca_model.specs.declared.mark.Mark.TheVariants as marks
use Rattle.ca_model.specs.declared.verb.Verb.{Verb}
use Rattle.ca_model.specs.declared.verb.Verb.TheVariants as verbs
use Rattle.ca_model.specs.machine.Around.{With_around, updates_of, shared_in, Around}
use Rattle.ca_model.specs.machine.Delivery.{Arrive, deliver_plan, arrival_row}
use Rattle.ca_model.specs.machine.HostVerbs.{inject_plan}
use Rattle.ca_model.specs.machine.Plan.{Plan, Stuck, Look, Finish, ◌:=◌, unless_refused, Did, NotReady, Outcome, Write, Update}
use Rattle.ca_model.specs.machine.Respond.{respond_refusals, respond_row}
use Rattle.ca_model.specs.machine.Step.{verb_plan, plan, step, is_named, has_named_slot}
use Rattle.ca_model.specs.machine.Timers.{after_timeout, after_wake, timeout_refusals, wake_refusals}
use Rattle.ca_model.specs.machine.Turns.{Fire, Leave_plan, Respond_around, Timeout_around, With_receives, has_room_for, packet_sent, reaches_peer, respond_plan, sent_marks, timeout_plan, wake_plan, Request_around, request_plan, Packet}
use Rattle.ca_model.specs.machine.VerbAnswers.{Call, Refuse_plan, answer_mark, Answer_plan, of_region_refusals}
use Rattle.ca_model.specs.machine.World.{Window_of, Mailbox_of, Queue_of, World, Domain_of, Region_of, opening_world}
use Rattle.ca_model.specs.machine.RegionVerbs.{dereg_mr_plan}
use Rattle.ca_base.specs.objects.Region.{after_deregistration, deregistration_refusals, grant_of_region, has_other_key, region_invalidation_refusals, with_window_unbound}
use Rattle.ca_base.specs.objects.Domain.{without_object}
use Rattle.ca_law_keys.proofs.Posts.PlaceLemmas.{performs}
use Rattle.ca_base.specs.declared.completion.WcStatus.TheVariants.{MemoryManagement}
use Rattle.ca_base.specs.declared.refusals.OpRefusal.{OpRefusal}
use Rattle.ca_base.specs.objects.LocalRequest.{LocalMarks, of_region, of_window, region_refusal, unnamed_refusal, window_refusal}
use Rattle.ca_law_keys.proofs.Licensed.SuccessLemmas.{sent-of}
use Rattle.ca_model.specs.machine.Completions.{success_marks}
use Rattle.ca_model.specs.machine.LocalOperations.{operation_effects, window_slot}
use Rattle.ca_model.specs.machine.Numbering.{Numbered}
use Rattle.ca_model.specs.machine.Requester.{Performs, RequestTurn, Sends, Waits, packet_row, turn_of}
use Rattle.ca_model.specs.machine.Sound.{AreLimited, CanBeMade, IsSoundWorld}
use Rattle.ca_law_endings.proofs.EventFitLemmas.{first-marks}
use Rattle.ca_law_keys.proofs.Keys.KeyLaws.{event-keys-agree, opening-keys-agree}
use Rattle.ca_keys.specs.Memory.{ByteMap}
use Rattle.ca_law_parts.proofs.Names.PlacedLemmas.{event-placed, opening-placed}
use Rattle.ca_law_parts.specs.Placed.{IsPlacedWorld}
use Rattle.ca_law_world.proofs.Sound.SoundLemmas.{event-sound, opening-sound}
use Rattle.ca_law_world.proofs.Steady.EventLemmas.{event-steady, opening-steady}
use Rattle.ca_law_world.proofs.Windows.WindowEventLemmas.{event-bound, opening-bound}
use Rattle.ca_law_world.specs.Bindings.{IsBoundWorld}
use Rattle.ca_law_keys.proofs.Posts.FailureLemmas.{IsSentPacket, packet-sent}
use Rattle.ca_model.specs.Entries.{EntryValue}
use Rattle.ca_model.specs.machine.Frame.{Afterwards}
use Rattle.ca_model.specs.machine.Run.{Follows, Ran, go_on, run_from}
use Rattle.ca_law_keys.specs.Ends.{DoEndInForce, ends_in_force}

-- ---- keys in force

-- the grant ends as its event may, and is not that of a region with a bound window
abbrev pub is_well_ended : Past → Grant → Bool
is_well_ended past g = is_unbound past g && ends_at_hand past g

-- a grant is what its event asked for, and a key that ends is one in force
abbrev pub is_fit : Past → Mark → Bool
is_fit past (marks.Granted g) = is_grant_at_hand past g
is_fit past (marks.Revoked adapter key) = option_map_or (is_well_ended past) (grant_with past adapter key) false
is_fit past mark = true

-- the key is one of a grant in force at this adapter, which ends as its event may
abbrev IsInForce : Past → ℕ → Key → Type 0
IsInForce past adapter key = option_map_or (is_well_ended past) (grant_with past adapter key) false ≡ true

-- the grant in force with a key, at this adapter
record IsFound (past : Past) (adapter : ℕ) (key : Key) : Type 0 where
  grant : Grant
  found : grant_with past adapter key ≡ Some grant
  unbound : is_unbound past grant ≡ true

found-ends : (past p : Past) (adapter : ℕ) (key : Key) → p.grants ≡ past.grants → p.way ≡ past.way → (f : IsFound past adapter key) → ends_at_hand p f.grant ≡ true → IsInForce p adapter key
found-ends past p adapter key grants ways f ends = ap (λ o. option_map_or (is_well_ended p) o false)
    (subst (λ gs. find (λ g. (g.domain.adapter == adapter) && key_eq g.key key) gs ≡ Some f.grant) (sym grants) f.found)
    ∙ both-true _ _ (subst₂ (λ gs ks. is_unbound (record past { grants = gs; way = ks }) f.grant ≡ true) (sym grants) (sym ways) f.unbound) ends

own-key : (adapter : ℕ) (h : Grant) → h.domain.adapter ≡ adapter → ((h.domain.adapter == adapter) && key_eq h.key h.key) ≡ true
own-key adapter h is = both-true _ _ (eq-eqb h.domain.adapter adapter is) (key-refl h.key)

-- grants with this key, at this adapter, stand in its key slot
pub key-slots : (adapter : ℕ) (key : Key) (g : Grant) → ((g.domain.adapter == adapter) && key_eq g.key key) ≡ true → key_slot_of g ≡ key_slot adapter key
key-slots adapter key g same = λ i. record { adapter = eqb-true g.domain.adapter adapter parts.0 i; index = index_of (record { 0 = eqb-true g.key.0 key.0 parts.1 i }) }
  where
    parts : ((g.domain.adapter == adapter) ≡ true) × (key_eq g.key key ≡ true)
    parts = and_parts (g.domain.adapter == adapter) (key_eq g.key key) same

-- the grant of a key slot is found by its key
grant-found : (gs : List Grant) (k : KeySlot) (h : Grant) (adapter : ℕ) → grant_in_force k gs ≡ Some h → k ≡ key_slot adapter h.key → h.domain.adapter ≡ adapter → find (λ g. (g.domain.adapter == adapter) && key_eq g.key h.key) gs ≡ Some h
grant-found gs k h adapter is place own = found-by (λ g. (g.domain.adapter == adapter) && key_eq g.key h.key) k gs h is (own-key adapter h own)
    (λ g same. ap₂ key_slot_eq (key-slots adapter h.key g same) place ∙ key-slot-refl (key_slot adapter h.key))

-- a region's grant, and a window's
record IsFoundIn (past : Past) (s : Slot) (index : ℕ) (h : Grant) : Type 0 where
  found : grant_with past s.domain.adapter h.key ≡ Some h
  unbound : is_unbound past h ≡ true
  slot : is_of_slot s index h ≡ true

never : (b : Bool) → not (b && false) ≡ true
never true = refl
never false = refl

region-found-in : (c : Configuration) (past : Past) (w : World) (s : Slot) (h : Grant) → IsAgreed c past w → s.slot < 0x8000 → grant_of_region (w.region s) ≡ Some h → (w.region s).bound ≡ 0 → IsFoundIn past s (region_index s) h
region-found-in c past w s h up small is none = record {
  found = grant-found past.grants (region_key_slot s) h s.domain.adapter (up.agree.keys.same (region_key_slot s) ∙ at-region-slot w.region w.window s small ∙ is)
      (sym (at-region h s (w.region s).low own.0 own.1) ∙ ap (λ a. key_slot a h.key) (ap (λ (d : DomainId). d.adapter) own.1)) (ap (λ (d : DomainId). d.adapter) own.1);
  unbound = ap (λ b. not (h.local && b)) (none-bound c past w s h up small is none) ∙ never h.local;
  slot = both-true _ _ (subst (λ d. domain_eq d s.domain ≡ true) (sym own.1) (domain-refl s.domain)) (eq-eqb _ _ (ap (λ (k : KeySlot). k.index) (at-region h s (w.region s).low own.0 own.1)));
}
  where
    own : (h.key ≡ key_at (region_index s) (w.region s).low) × (h.domain ≡ s.domain)
    own = region-of c s (w.region s).low (w.region s).state h (up.sound.things (Region_of s)) is

window-found-in : (c : Configuration) (past : Past) (w : World) (s : Slot) (b : Binding) → IsAgreed c past w → s.slot < 0x8000 → (w.window s).binding ≡ Some b
    → (over : StandsOver w s b) → IsFoundIn past s (window_index s) (grant_of_binding (w.window s) b over.region)
window-found-in c past w s b up small is over = record {
  found = grant-found past.grants (window_key_slot s) h s.domain.adapter (up.agree.keys.same (window_key_slot s) ∙ at-window-slot w.region w.window s small ∙ over.stands)
      (sym place ∙ ap (λ (t : Slot). key_slot t.domain.adapter h.key) own) (ap (λ (t : Slot). t.domain.adapter) own);
  unbound = refl;
  slot = both-true _ _ (subst (λ d. domain_eq d s.domain ≡ true) (ap (λ (t : Slot). t.domain) (sym own)) (domain-refl s.domain)) (eq-eqb _ _ (ap (λ (k : KeySlot). k.index) place));
}
  where
    h : Grant
    h = grant_of_binding (w.window s) b over.region

    own : (w.window s).slot ≡ s
    own = (up.sound.things (Window_of s)).0

    place : key_slot_of h ≡ window_key_slot s
    place = at-window h s (w.window s).low (ap (λ (t : Slot). key_at (window_index t) (w.window s).low) own) (ap (λ (t : Slot). t.domain) own)

key-path : (a b : Key) → key_eq a b ≡ true → a ≡ b
key-path a b same = λ i. record { 0 = eqb-true a.0 b.0 same i }

-- the key of an invalidation is in force, and its queue pair may invalidate the grant
record MayEnd (past : Past) (i : Invalidation) : Type 0 where
  own : IsFound past i.domain.adapter i.key
  key : key_eq i.key own.grant.key ≡ true
  domain : domain_eq own.grant.domain i.domain ≡ true
  may : may_invalidate past i.queue own.grant ≡ true

or-left : (a b : Bool) → a ≡ true → (a || b) ≡ true
or-left true b e = refl
or-left false b e = absurd (true≢false (sym e))

or-right : (a b : Bool) → b ≡ true → (a || b) ≡ true
or-right true b e = refl
or-right false b e = e

-- an invalidation that is not refused names such a key
refusal-may-end : (c : Configuration) (past : Past) (w : World) (i : Invalidation) → IsAgreed c past w → refusal_in c w i ≡ None → MayEnd past i
refusal-may-end c past w i up none = by (names_region c i.domain i.key) refl (names_window c i.domain i.key) refl none
  where
    slot : Slot
    slot = slot_of_key i.domain i.key

    small : slot.slot < 0x8000
    small = omega arith

    beside : is_key_of i.domain i.key ≡ true → slot.domain ≡ i.domain
    beside of-domain = λ j. record { adapter = i.domain.adapter; domain = eqb-true (index_of i.key / 0x10000) i.domain.domain of-domain j }

    region-may : slot.domain ≡ i.domain → (h : Grant) → grant_of_region (w.region slot) ≡ Some h → h.key ≡ i.key → is_fast_registered (w.region slot).state ≡ true → (w.region slot).bound ≡ 0 → MayEnd past i
    region-may domain h is key fast unbound = record {
      own = record { grant = h; found = subst (λ k. grant_with past i.domain.adapter k ≡ Some h) key there.found; unbound = there.unbound };
      key = eq-eqb i.key.0 h.key.0 (ap (λ (k : Key). k.0) (sym key));
      domain = subst (λ d. domain_eq d i.domain ≡ true) (sym (own.1 ∙ domain)) (domain-refl i.domain);
      may = or-left _ _ (both-true _ _ (both-true _ _ (is-local c slot (w.region slot).low (w.region slot).state h (up.sound.things (Region_of slot)) is) way) (ap not (none-bound c past w slot h up small is unbound)));
    }
      where
        there : IsFoundIn past slot (region_index slot) h
        there = region-found-in c past w slot h up small is unbound

        own : (h.key ≡ key_at (region_index slot) (w.region slot).low) × (h.domain ≡ slot.domain)
        own = region-of c slot (w.region slot).low (w.region slot).state h (up.sound.things (Region_of slot)) is

        way : is_fast (past.way (key_slot_of h)) ≡ true
        way = ap is_fast (ap past.way (at-region h slot (w.region slot).low own.0 own.1)
            ∙ up.ways.fast (region_key_slot slot) (region-kind slot (region_key_slot slot) small (key-slot-refl (region_key_slot slot))) (subst (λ t. is_fast_registered (w.region t).state ≡ true) (sym (slot-at-region slot small)) fast))

    region : slot.domain ≡ i.domain → (o : Option Grant) → grant_of_region (w.region slot) ≡ o → is_none o ≡ false → has_other_key i.key o ≡ false → is_fast_registered (w.region slot).state ≡ true → (w.region slot).bound ≡ 0 → MayEnd past i
    region domain None is some same fast none = absurd (true≢false some)
    region domain (Some h) is some same fast none = region-may domain h is (key-path h.key i.key (not-false (key_eq h.key i.key) same)) fast none

    queue-may : (o : Option QueueId) → not (option_map_or (queue_eq i.queue) o false) ≡ false → option_eq queue_eq o (Some i.queue) ≡ true
    queue-may None e = absurd (true≢false e)
    queue-may (Some q) e = subst (λ p. queue_eq p i.queue ≡ true) (queue-path i.queue q (not-false (queue_eq i.queue q) e)) (queue-refl i.queue)

    window-may : slot.domain ≡ i.domain → (b : Binding) → (w.window slot).binding ≡ Some b → key_of_window (w.window slot) ≡ i.key → option_eq queue_eq b.queue (Some i.queue) ≡ true → MayEnd past i
    window-may domain b is key queue = record {
      own = record { grant = h; found = subst (λ k. grant_with past i.domain.adapter k ≡ Some h) key there.found; unbound = there.unbound };
      key = eq-eqb i.key.0 h.key.0 (ap (λ (k : Key). k.0) (sym key));
      domain = subst (λ d. domain_eq d i.domain ≡ true) (sym (ap (λ (t : Slot). t.domain) (up.sound.things (Window_of slot)).0 ∙ domain)) (domain-refl i.domain);
      may = queue;
    }
      where
        over : StandsOver w slot b
        over = stands-over w slot b up.bound is

        h : Grant
        h = grant_of_binding (w.window slot) b over.region

        there : IsFoundIn past slot (window_index slot) h
        there = window-found-in c past w slot b up small is over

    window : slot.domain ≡ i.domain → (o : Option Binding) → (w.window slot).binding ≡ o → is_none o ≡ false → not (key_eq (key_of_window (w.window slot)) i.key) ≡ false → is_of_other_queue i.queue o ≡ false → MayEnd past i
    window domain None is some same other = absurd (true≢false some)
    window domain (Some b) is some same other = window-may domain b is (key-path (key_of_window (w.window slot)) i.key (not-false (key_eq (key_of_window (w.window slot)) i.key) same)) (queue-may b.queue other)

    of-region-key : slot.domain ≡ i.domain → region_refusal i.key (w.region slot) ≡ None → MayEnd past i
    of-region-key domain e = region domain (grant_of_region (w.region slot)) refl fails.0 fails.1.0 (not-false (is_fast_registered (w.region slot).state) fails.1.1.0) (omega (arith, ltb-false 0 (w.region slot).bound fails.1.1.1.0))
      where
        fails : AllFail (of_region (region_invalidation_refusals i.key (w.region slot)))
        fails = all-fail (of_region (region_invalidation_refusals i.key (w.region slot))) e

    of-window-key : slot.domain ≡ i.domain → window_refusal i.key i.queue (w.window slot) ≡ None → MayEnd past i
    of-window-key domain e = window domain (w.window slot).binding refl fails.1.1.0 fails.1.1.1.0 fails.1.1.1.1.0
      where
        fails : AllFail (of_window (window_invalidation_refusals i.key i.queue (w.window slot)))
        fails = all-fail (of_window (window_invalidation_refusals i.key i.queue (w.window slot))) e

    by : (r : Bool) → names_region c i.domain i.key ≡ r → (y : Bool) → names_window c i.domain i.key ≡ y
        → (if r then region_refusal i.key (w.region slot) else if y then window_refusal i.key i.queue (w.window slot) else Some (unnamed_refusal i.key)) ≡ None → MayEnd past i
    by true has y e none = of-region-key (beside (and_parts (not (is_window_key i.key)) (is_key_of i.domain i.key) (and_parts (not (is_window_key i.key) && is_key_of i.domain i.key) (has_slot c (λ a. a.regions) slot) has).0).1) none
    by false has true e none = of-window-key (beside (and_parts (is_window_key i.key) (is_key_of i.domain i.key) (and_parts (is_window_key i.key && is_key_of i.domain i.key) (has_slot c (λ a. a.windows) slot) e).0).1) none
    by false has false e none = absurd (true≢false (ap is_some none))

-- ---- marks

-- marks that end no key
abbrev AreEndless : List Mark → Type 0
AreEndless ms = (p : Past) → each_mark is_fit p ms ≡ true

each-append : (ms ns : List Mark) (p : Past) → each_mark is_fit p ms ≡ true → AreEndless ns → each_mark is_fit p (ms ++ ns) ≡ true
each-append [] ns p one other = other p
each-append (m ∷ ms) ns p one other = both-true _ _ (and_parts (is_fit p m) (each_mark is_fit (after_mark m p) ms) one).0
    (each-append ms ns (after_mark m p) (and_parts (is_fit p m) (each_mark is_fit (after_mark m p) ms) one).1 other)

of-endless : (name : QueueId) (sends : WorkQueue PostedSend) (ms : List Mark) → AreOf name sends None ms → AreEndless ms
of-endless name sends [] all p = refl
of-endless name sends (m ∷ ms) all p = both-true _ _ (by m all.0) (of-endless name sends ms all.1 (after_mark m p))
  where
    by : (m : Mark) → IsOf name sends None m → is_fit p m ≡ true
    by (marks.Verb consumer verb answer) one = absurd one
    by (marks.Granted g) one = absurd one
    by (marks.Revoked adapter key) one = absurd (true≢false (sym (ap is_some one)))
    by (marks.Sent source target index request bytes) one = refl
    by (marks.Lost target index) one = refl
    by (marks.Arrived target index) one = refl
    by (marks.Timer queue silent) one = refl
    by (marks.Done queue x cause) one = refl
    by (marks.Stored place bytes) one = refl
    by (marks.Remote queue domain envelope k kind address count verdict) one = refl
    by (marks.Local queue domain k kind address count verdict) one = refl
    by (marks.Dropped target cause) one = refl

keyless-endless : (name : QueueId) (sends : WorkQueue PostedSend) (ended : Option Key) (ms : List Mark) → AreKeyless name sends ended ms → AreEndless ms
keyless-endless name sends ended [] all p = refl
keyless-endless name sends ended (m ∷ ms) all p = both-true _ _ (by m all.0) (keyless-endless name sends ended ms all.1 (after_mark m p))
  where
    by : (m : Mark) → IsKeyless name sends ended m → is_fit p m ≡ true
    by (marks.Verb consumer verb answer) one = absurd one
    by (marks.Granted g) one = absurd one
    by (marks.Revoked adapter key) one = absurd one
    by (marks.Sent source target index request bytes) one = refl
    by (marks.Lost target index) one = refl
    by (marks.Arrived target index) one = refl
    by (marks.Timer queue silent) one = refl
    by (marks.Done queue x cause) one = refl
    by (marks.Stored place bytes) one = refl
    by (marks.Remote queue domain envelope k kind address count verdict) one = refl
    by (marks.Local queue domain k kind address count verdict) one = refl
    by (marks.Dropped target cause) one = refl

-- a row's marks end a key in force
tells-in-force : (name : QueueId) (sends : WorkQueue PostedSend) (ended : Option Key) (ms : List Mark) → TellOf name sends ended ms → (p : Past) → IfSome ended (IsInForce p name.adapter) → each_mark is_fit p ms ≡ true
tells-in-force name sends None ms all p there = keyless-endless name sends None ms all p
tells-in-force name sends (Some key) ms all p there = by ms all p there
  where
    by : (ms : List Mark) → EndKey name sends key ms → (p : Past) → IsInForce p name.adapter key → each_mark is_fit p ms ≡ true
    by [] all p there = absurd all
    by (marks.Revoked adapter k ∷ ms) all p there = both-true _ _ (ap₂ (λ a x. option_map_or (is_well_ended p) (grant_with p a x) false) all.0 all.1 ∙ there) (keyless-endless name sends (Some key) ms all.2 (after_mark (marks.Revoked adapter k) p))
    by (marks.Verb consumer verb answer ∷ ms) all p there = absurd all.0
    by (marks.Granted g ∷ ms) all p there = absurd all.0
    by (marks.Sent source target index request bytes ∷ ms) all p there = absurd all.0
    by (marks.Lost target index ∷ ms) all p there = absurd all.0
    by (marks.Arrived target index ∷ ms) all p there = absurd all.0
    by (marks.Timer queue silent ∷ ms) all p there = absurd all.0
    by (marks.Done queue x cause ∷ ms) all p there = by ms all.1 (after_mark (marks.Done queue x cause) p) there
    by (marks.Stored place bytes ∷ ms) all p there = by ms all.1 (after_mark (marks.Stored place bytes) p) there
    by (marks.Remote queue domain envelope k kind address count verdict ∷ ms) all p there = by ms all.1 (after_mark (marks.Remote queue domain envelope k kind address count verdict) p) there
    by (marks.Local queue domain k kind address count verdict ∷ ms) all p there = by ms all.1 (after_mark (marks.Local queue domain k kind address count verdict) p) there
    by (marks.Dropped target cause ∷ ms) all p there = by ms all.1 (after_mark (marks.Dropped target cause) p) there

flushes-endless : (ms : List Mark) → AreFlushes ms → AreEndless ms
flushes-endless [] all p = refl
flushes-endless (marks.Done queue x cause ∷ ms) all p = flushes-endless ms all.1 (after_mark (marks.Done queue x cause) p)
flushes-endless (marks.Verb consumer verb answer ∷ ms) all p = absurd all
flushes-endless (marks.Granted g ∷ ms) all p = absurd all
flushes-endless (marks.Revoked adapter key ∷ ms) all p = absurd all
flushes-endless (marks.Sent source target index request bytes ∷ ms) all p = absurd all
flushes-endless (marks.Lost target index ∷ ms) all p = absurd all
flushes-endless (marks.Arrived target index ∷ ms) all p = absurd all
flushes-endless (marks.Timer queue silent ∷ ms) all p = absurd all
flushes-endless (marks.Stored place bytes ∷ ms) all p = absurd all
flushes-endless (marks.Remote queue domain envelope k kind address count verdict ∷ ms) all p = absurd all
flushes-endless (marks.Local queue domain k kind address count verdict ∷ ms) all p = absurd all
flushes-endless (marks.Dropped target cause ∷ ms) all p = absurd all

answered-endless : (ms : List Mark) → AreAnswered ms → AreEndless ms
answered-endless [] all p = absurd all
answered-endless (marks.Verb consumer verb answer ∷ ms) all p = flushes-endless ms all.1 (after_mark (marks.Verb consumer verb answer) p)
answered-endless (marks.Granted g ∷ ms) all p = absurd all
answered-endless (marks.Revoked adapter key ∷ ms) all p = absurd all
answered-endless (marks.Sent source target index request bytes ∷ ms) all p = absurd all
answered-endless (marks.Lost target index ∷ ms) all p = absurd all
answered-endless (marks.Arrived target index ∷ ms) all p = absurd all
answered-endless (marks.Timer queue silent ∷ ms) all p = absurd all
answered-endless (marks.Done queue x cause ∷ ms) all p = absurd all
answered-endless (marks.Stored place bytes ∷ ms) all p = absurd all
answered-endless (marks.Remote queue domain envelope k kind address count verdict ∷ ms) all p = absurd all
answered-endless (marks.Local queue domain k kind address count verdict ∷ ms) all p = absurd all
answered-endless (marks.Dropped target cause ∷ ms) all p = absurd all

-- ---- events

abbrev Ends : Past → Event → World → List Mark → Type 0
Ends past event v ms = each_mark is_fit (at_begin event past) ms ≡ true

-- the key that a row ends, by what it names
row-in-force : (c : Configuration) (past : Past) (w : World) (q : QueuePair) (row : Row) (i : Option Invalidation) (p : Past) → IsAgreed c past w → IsThere w q → p.grants ≡ past.grants → p.way ≡ past.way
    → ((i : Invalidation) → row.invalidation ≡ Some i → (may : MayEnd past i) → ends_at_hand p may.own.grant ≡ true)
    → IfSome row.invalidation (λ i. (i.queue ≡ q.queue) × (i.domain ≡ q.domain)) → IfSome i (λ i. (row.invalidation ≡ Some i) × (refusal_in c w i ≡ None)) → IfSome (option_map (λ i. i.key) i) (IsInForce p q.queue.adapter)
row-in-force c past w q row None p up there same ways ends own is = record {}
row-in-force c past w q row (Some i) p up there same ways ends own is =
    subst (λ a. IsInForce p a i.key) (ap (λ (d : DomainId). d.adapter) (subst (λ o. IfSome o (λ i. (i.queue ≡ q.queue) × (i.domain ≡ q.domain))) is.0 own).1 ∙ own-adapter w q there)
    (found-ends past p i.domain.adapter i.key same ways may.own (ends i is.0 may))
  where
    may : MayEnd past i
    may = refusal-may-end c past w i up is.1

ends-sent : (q : QueuePair) (peer : Correspondent) (m : Mailbox) (lot : Lot) (o : Option Packet) → AreEndless (option_map_or (sent_marks q peer m lot) o [])
ends-sent q peer m lot o = of-endless q.queue q.sends (option_map_or (sent_marks q peer m lot) o []) (sent-of q.queue q.sends None q peer m lot o)

-- a responder's turn ends no key
respond-none : (room : Bool) (q : QueuePair) → (respond_row room q).invalidation ≡ None
respond-none room q = by (first_of (respond_refusals room q)) (slice_get q.responder.answers 0)
  where
    row : Option Reason → Option Queued → Row
    row (Some reason) answer = plain_row (NotPossible reason)
    row None None = plain_row (NotPossible reasons.Empty)
    row None (Some answer) = answer_turn q answer

    by : (r : Option Reason) (o : Option Queued) → (row r o).invalidation ≡ None
    by (Some reason) answer = refl
    by None None = refl
    by None (Some (queued.Ack psn)) = refl
    by None (Some (queued.Rnr psn)) = refl
    by None (Some (queued.Nak psn code)) = refl
    by None (Some (queued.Read psn key address left first envelope duplicate)) = refl
    by None (Some (queued.Atomic psn found duplicate)) = refl

ends-respond : (c : Configuration) (past : Past) (w : World) (name : QueueId) (lot : Lot) → IsAgreed c past w → Leads w (Ends past (events.Respond name lot)) (respond_plan c name lot)
ends-respond c past w name lot up = leads-queue c w P name reasons.State (λ q. With_around q (λ a. Respond_around c lot q a q.peer))
    (λ q is. leads-around w P q (λ a. Respond_around c lot q a q.peer) (by q (found c w name q up.sound is) q.peer))
  where
    P : World → List Mark → Type 0
    P = Ends past (events.Respond name lot)

    by : (q : QueuePair) → IsThere w q → (peer : Option Correspondent) → Leads w P (Respond_around c lot q (around_in w q (shared_of w q)) peer)
    by q there None = leads-unless w P (respond_refusals true q) Stuck (Stuck reasons.Empty) (λ r. record {}) (record {})
    by q there (Some peer) = leads-goes c w P q row (Leave_plan q (around_in w q (shared_of w q)) peer (w.mailbox peer.queue) lot)
        (respond-goes (has_room_for q peer (w.mailbox peer.queue)) q)
        (λ e i ws goes is. each-append e.marks (option_map_or (sent_marks q peer (w.mailbox peer.queue) lot) (packet_sent e) []) (at_begin (events.Respond name lot) past)
        (tells-in-force q.queue q.sends (option_map (λ i. i.key) i) e.marks goes.marks (at_begin (events.Respond name lot) past)
        (row-in-force c past w q row i (at_begin (events.Respond name lot) past) up there refl refl
        (λ i of may. absurd (true≢false (sym (ap is_some (sym (respond-none (has_room_for q peer (w.mailbox peer.queue)) q) ∙ of))))) (subst (λ o. IfSome o (λ i. (i.queue ≡ q.queue) × (i.domain ≡ q.domain))) (sym (respond-none (has_room_for q peer (w.mailbox peer.queue)) q)) (record {})) is))
        (ends-sent q peer (w.mailbox peer.queue) lot (packet_sent e)))
      where
        row : Row
        row = respond_row (has_room_for q peer (w.mailbox peer.queue)) q

ends-timeout : (c : Configuration) (past : Past) (w : World) (name : QueueId) (hasten : Bool) → Leads w (Ends past (events.Timeout name hasten)) (timeout_plan c name hasten)
ends-timeout c past w name hasten = leads-queue c w P name reasons.State (λ q. Look (Mailbox_of name) (λ own. With_around q (λ a. Timeout_around hasten q own a q.peer)))
    (λ q is. leads-around w P q (λ a. Timeout_around hasten q (w.mailbox name) a q.peer) (by q q.peer))
  where
    P : World → List Mark → Type 0
    P = Ends past (events.Timeout name hasten)

    fire : (q : QueuePair) (silent : Bool) → Leads w P (Fire hasten q (around_in w q (shared_of w q)) silent)
    fire q silent = leads-unless w P (timeout_refusals silent hasten q) Stuck
        (Finish (updates_of q (around_in w q (shared_of w q)) (after_timeout silent q)) [] (after_timeout silent q).marks) (λ r. record {})
        (both-true true _ refl (keyless-endless q.queue q.sends None _ (timeout-goes silent q).marks (after_mark (marks.Timer q.queue silent) (at_begin (events.Timeout name hasten) past))))

    by : (q : QueuePair) (peer : Option Correspondent) → Leads w P (Timeout_around hasten q (w.mailbox name) (around_in w q (shared_of w q)) peer)
    by q None = leads-unless w P (timeout_refusals false hasten q) Stuck (Stuck reasons.Empty) (λ r. record {}) (record {})
    by q (Some peer) = fire q _

-- the packet at hand ends the grant of the key that it names
packet-ends : (c : Configuration) (past p : Past) (w : World) (q : QueuePair) (bytes : List ℕ) (envelope : Option ℕ) (shared : Option SharedReceives) (i : Invalidation) → IsThere w q → p.grants ≡ past.grants → p.way ≡ past.way
    → p.at_hand.arrival ≡ Some (record { target = q.queue; index = envelope }) → packet_bytes_at p q.queue envelope ≡ Some bytes → (arrival_row bytes envelope shared q).invalidation ≡ Some i → i.queue ≡ q.queue → i.domain ≡ q.domain
    → (may : MayEnd past i) → ends_at_hand p may.own.grant ≡ true
packet-ends c past p w q bytes envelope shared i there grants ways arrived lent ends queue domain may = or-right _ _
    (ap (λ o. option_map_or (λ a. option_map_or (ends_by_packet p g a.target) (packet_at p a.target a.index) false) o false) arrived
    ∙ ap (λ o. option_map_or (ends_by_packet p g q.queue) (option_and_then packet_of o) false) lent
    ∙ ap (λ r. option_map_or (ends_by_packet p g q.queue) (result_ok r) false) naming.is
    ∙ both-true _ _ (both-true _ _ (both-true _ _ (ieth-asks bytes naming.fields i.key.0 naming.is naming.key) named) (subst (λ d. domain_eq g.domain d ≡ true) (domain ∙ there.domain) may.domain))
    (subst (λ k. may_invalidate p k g ≡ true) queue (subst₂ (λ gs ks. may_invalidate (record past { grants = gs; way = ks }) i.queue g ≡ true) (sym grants) (sym ways) may.may)))
  where
    g : Grant
    g = may.own.grant

    naming : IsNaming bytes q i
    naming = arrival-named bytes envelope shared q i ends

    named : option_eq (λ m n. m == n) naming.fields.ieth (Some g.key.0) ≡ true
    named = ap (λ o. option_eq (λ m n. m == n) o (Some g.key.0)) naming.key ∙ may.key

-- a packet that arrives, behind marks that come first
ends-arrive : (c : Configuration) (past p : Past) (w : World) (P : World → List Mark → Type 0) (q : QueuePair) (bytes : List ℕ) (envelope : Option ℕ) (pre : List Update) (ms : List Mark) → IsAgreed c past w → IsSteadyWorld w → IsThere w q
    → p.grants ≡ past.grants → p.way ≡ past.way → packet_bytes_at (after_mark (marks.Arrived q.queue envelope) p) q.queue envelope ≡ Some bytes
    → ((v : World) (ns : List Mark) → each_mark is_fit p ns ≡ true → P v (ms ++ ns)) → Leads w P (Arrive c q bytes envelope pre ms)
ends-arrive c past p w P q bytes envelope pre ms up steady there same ways lent more =
    leads-around w P q (λ a. Row_plan c (arrival_row bytes envelope (shared_in a) q) (finish a))
    (leads-goes c w P q (arrival_row bytes envelope (shared_in a) q) (finish a) (arrival-goes bytes envelope (shared_in a) q (there-kept w q steady there))
    (λ e i ws goes is. more _ (marks.Arrived q.queue envelope ∷ e.marks) (both-true true _ refl
    (tells-in-force q.queue q.sends (option_map (λ i. i.key) i) e.marks goes.marks (after_mark (marks.Arrived q.queue envelope) p)
    (row-in-force c past w q (arrival_row bytes envelope (shared_in a) q) i (after_mark (marks.Arrived q.queue envelope) p) up there same ways
    (λ i of may. packet-ends c past (after_mark (marks.Arrived q.queue envelope) p) w q bytes envelope (shared_in a) i there same ways refl lent of (own i of).0 (own i of).1 may)
    (owned (arrival_row bytes envelope (shared_in a) q).invalidation refl) is)))))
  where
    a : Around
    a = around_in w q (shared_of w q)

    own : (i : Invalidation) → (arrival_row bytes envelope (shared_in a) q).invalidation ≡ Some i → (i.queue ≡ q.queue) × (i.domain ≡ q.domain)
    own i of = (arrival-named bytes envelope (shared_in a) q i of).own

    owned : (o : Option Invalidation) → (arrival_row bytes envelope (shared_in a) q).invalidation ≡ o → IfSome o (λ i. (i.queue ≡ q.queue) × (i.domain ≡ q.domain))
    owned None is = record {}
    owned (Some i) is = own i is

    finish : Around → Effects → List Update → List Write → Plan
    finish a e more writes = Finish (pre ++ (updates_of q a e ++ more)) writes (ms ++ marks.Arrived q.queue envelope ∷ e.marks)

ends-deliver : (c : Configuration) (past : Past) (w : World) (name : QueueId) (index : ℕ) → IsAgreed c past w → IsSteadyWorld w → Leads w (Ends past (events.Deliver name index)) (deliver_plan c name index)
ends-deliver c past w name index up steady = (λ has. lent (bytes_lent index (w.mailbox name)) refl, λ none. record {})
  where
    Q : World → List Mark → Type 0
    Q = Ends past (events.Deliver name index)

    m : Mailbox
    m = w.mailbox name

    at : List ℕ → QueueSlot → Plan
    at bytes (NoQueue incarnation timers) = Stuck reasons.NotKept
    at bytes (Present q) = Arrive c q bytes (Some index) ((Mailbox_of name := after_delivery index m) ∷ []) []

    under_way : Option (List ℕ) → Plan
    under_way None = Stuck reasons.NotKept
    under_way (Some bytes) = Look (Queue_of name) (at bytes)

    sent : (bytes : List ℕ) → bytes_lent index (w.mailbox name) ≡ Some bytes → packet_bytes_at past name (Some index) ≡ Some bytes
    sent bytes is = ap (option_map (λ e. e.bytes)) (lent-sent c past w name index bytes up.sound up.paths is).sent ∙ ap Some (lent-sent c past w name index bytes up.sound up.paths is).bytes

    there : (bytes : List ℕ) → bytes_lent index (w.mailbox name) ≡ Some bytes → (s : QueueSlot) → w.queue name ≡ s → Leads w Q (at bytes s)
    there bytes is (NoQueue incarnation timers) here = record {}
    there bytes is (Present q) here = ends-arrive c past (at_begin (events.Deliver name index) past) w Q q bytes (Some index) ((Mailbox_of name := after_delivery index m) ∷ []) [] up steady (found c w name q up.sound here) refl refl
        (subst (λ k. packet_bytes_at past k (Some index) ≡ Some bytes) (sym (subst (IsQueueOf name) here (up.sound.things (Queue_of name))).0) (sent bytes is))
        (λ v ns right. right)

    lent : (o : Option (List ℕ)) → bytes_lent index (w.mailbox name) ≡ o → Leads w Q (under_way o)
    lent None is = record {}
    lent (Some bytes) is = there bytes is (w.queue name) refl

ends-wake : (c : Configuration) (past : Past) (w : World) (name : QueueId) → Leads w (Ends past (events.RnrWake name)) (wake_plan c name)
ends-wake c past w name = leads-queue c w (Ends past (events.RnrWake name)) name reasons.State (λ q. waking q q.peer) (λ q is. by q q.peer)
  where
    wakes : QueuePair → Bool → Plan
    wakes q empty = unless_refused (wake_refusals empty q) Stuck (Finish ((Queue_of q.queue := Present (after_wake q).queue) ∷ []) [] (after_wake q).marks)

    waking : QueuePair → Option Correspondent → Plan
    waking q None = unless_refused (wake_refusals false q) Stuck (Stuck reasons.Empty)
    waking q (Some peer) = Look (Queue_of peer.queue) (λ slot. Look (Mailbox_of peer.queue) (λ m.
        With_receives slot (λ empty. wakes q (reaches_peer q peer m && empty))))

    wake : (q : QueuePair) (empty : Bool) → Leads w (Ends past (events.RnrWake name)) (wakes q empty)
    wake q empty = leads-unless w (Ends past (events.RnrWake name)) (wake_refusals empty q) Stuck (Finish ((Queue_of q.queue := Present (after_wake q).queue) ∷ []) [] (after_wake q).marks) (λ r. record {}) refl

    receives : (slot : QueueSlot) (k : Bool → Plan) → ((b : Bool) → Leads w (Ends past (events.RnrWake name)) (k b)) → Leads w (Ends past (events.RnrWake name)) (With_receives slot k)
    receives slot k more = search rules

    by : (q : QueuePair) (peer : Option Correspondent) → Leads w (Ends past (events.RnrWake name)) (waking q peer)
    by q None = leads-unless w (Ends past (events.RnrWake name)) (wake_refusals false q) Stuck (Stuck reasons.Empty) (λ r. record {}) (record {})
    by q (Some peer) = receives (w.queue peer.queue) (λ empty. wakes q (reaches_peer q peer (w.mailbox peer.queue) && empty)) (λ empty. wake q _)

-- the key that an operation ends is in force, and the operation may end it
record IsEndedBy (past p : Past) (q : QueuePair) (n : Numbered) (op : SendOp) (key : Key) : Type 0 where
  own : IsFound past q.queue.adapter key
  may : ends_by_operation p own.grant q.queue (record { place = n.place; request = record n.request { op = op }; drawn = n.drawn }) ≡ true

ended-in-force : (c : Configuration) (past p : Past) (w : World) (q : QueuePair) (n : Numbered) (op : SendOp) → IsAgreed c past w → IsThere w q → has_named_slot c q.domain op ≡ true → p.grants ≡ past.grants → p.way ≡ past.way
    → (done_by c w q n op).refusal ≡ None → IfSome (done_by c w q n op).marks.revoked (IsEndedBy past p q n op)
ended-in-force c past p w q n (ops.Bind1 window key address count rights) up there has same ways none = by (w.window slot).binding refl
  where
    slot : Slot
    slot = window_slot q window

    x : Window
    x = w.window slot

    fails : AllFail (bind1_request_refusals n.drawn (view_named key (named_in c w q key)) address count rights x)
    fails = all-fail (bind1_request_refusals n.drawn (view_named key (named_in c w q key)) address count rights x) none

    -- a window of type 1 is bound through no queue pair
    lone : (b : Binding) → x.binding ≡ Some b → is_none b.queue ≡ true
    lone b is = at b.queue (subst (λ o. IfSome o (IsBinding x.kind)) is (up.sound.things (Window_of slot)).1.binding).queue
      where
        one : x.kind ≡ 1
        one = eqb-true x.kind 1 (not-false (x.kind == 1) fails.1.1.0)

        at : (o : Option QueueId) → IfSome o (λ q. x.kind ≡ 2) → is_none o ≡ true
        at None two = refl
        at (Some q) two = absurd (true≢false (ap (λ k. k == 1) (sym one ∙ two)))

    by : (o : Option Binding) → x.binding ≡ o → IfSome (option_map (λ b. key_of_window x) o) (IsEndedBy past p q n (ops.Bind1 window key address count rights))
    by None is = record {}
    by (Some b) is = record {
      own = record { grant = h; found = subst (λ a. grant_with past a (key_of_window x) ≡ Some h) (own-adapter w q there) here.found; unbound = here.unbound };
      may = both-true _ _ (subst (λ d. is_of_slot (record { domain = d; slot = window }) (window_index (record { domain = d; slot = window })) h ≡ true) there.domain here.slot) (lone b is);
    }
      where
        over : StandsOver w slot b
        over = stands-over w slot b up.bound is

        h : Grant
        h = grant_of_binding x b over.region

        here : IsFoundIn past slot (window_index slot) h
        here = window-found-in c past w slot b up (window-small c slot up.limited has) is over
ended-in-force c past p w q n (ops.LocalInv key) up there has same ways none = record {
  own = record { grant = may.own.grant; found = subst (λ a. grant_with past a key ≡ Some may.own.grant) (own-adapter w q there) may.own.found; unbound = may.own.unbound };
  may = both-true _ _ (both-true _ _ may.key (subst (λ d. domain_eq may.own.grant.domain d ≡ true) there.domain may.domain))
      (subst₂ (λ gs ks. may_invalidate (record past { grants = gs; way = ks }) q.queue may.own.grant ≡ true) (sym same) (sym ways) may.may);
}
  where
    may : MayEnd past (record { queue = q.queue; domain = q.domain; key = key })
    may = refusal-may-end c past w (record { queue = q.queue; domain = q.domain; key = key }) up none
ended-in-force c past p w q n (ops.Bind2 window key low address count rights) up there has same ways none = record {}
ended-in-force c past p w q n (ops.FastReg region low buffer address count rights pages) up there has same ways none = record {}
ended-in-force c past p w q n (ops.Send list) up there has same ways none = record {}
ended-in-force c past p w q n (ops.SendImm imm list) up there has same ways none = record {}
ended-in-force c past p w q n (ops.SendInv key list) up there has same ways none = record {}
ended-in-force c past p w q n (ops.Write address key list) up there has same ways none = record {}
ended-in-force c past p w q n (ops.WriteImm address key imm list) up there has same ways none = record {}
ended-in-force c past p w q n (ops.Read address key list) up there has same ways none = record {}
ended-in-force c past p w q n (ops.CmpSwap address key compare swap list) up there has same ways none = record {}
ended-in-force c past p w q n (ops.FetchAdd address key add list) up there has same ways none = record {}

abbrev ended_by : QueuePair → Option Key → List Mark
ended_by q k = option_map_or (λ key. marks.Revoked q.queue.adapter key ∷ []) k []

-- what an operation grants, behind the end of a key, is what it asked for
asked-after : (c : Configuration) (past : Past) (w : World) (q : QueuePair) (start : Past) (n : Numbered) (op : SendOp) → IsAgreed c past w → IsThere w q → has_named_slot c q.domain op ≡ true → start.grants ≡ past.grants
    → (done_by c w q n op).refusal ≡ None → (k : Option Key) → (done_by c w q n op).marks.revoked ≡ k
    → IfSome (done_by c w q n op).marks.granted (λ g. is_grant_of_operation (after_marks (ended_by q k) start) g q.queue (record { place = n.place; request = record n.request { op = op }; drawn = n.drawn }) ≡ true)
asked-after c past w q start n op up there has same none None is = operation-asked c start w q w.window n op up.sound there (subst (λ gs. AgreeOnGrants gs w.region w.window) (sym same) up.agree.keys) none
asked-after c past w q start n (ops.Bind1 window key address count rights) up there has same none (Some k) is = by x.binding refl is
  where
    slot : Slot
    slot = window_slot q window

    x : Window
    x = w.window slot

    windows : Slot → Window
    windows = with_at slot_eq w.window slot (without_binding x)

    op : SendOp
    op = ops.Bind1 window key address count rights

    by : (o : Option Binding) → x.binding ≡ o → option_map (λ b. key_of_window x) o ≡ Some k
        → IfSome (done_by c w q n op).marks.granted (λ g. is_grant_of_operation (after_mark (marks.Revoked q.queue.adapter k) start) g q.queue (record { place = n.place; request = record n.request { op = op }; drawn = n.drawn }) ≡ true)
    by None was e = absurd (true≢false (sym (ap is_some e)))
    by (Some b) was e = operation-asked c (after_mark (marks.Revoked q.queue.adapter k) start) w q windows n op up.sound there
        (subst (λ gs. AgreeOnGrants (without_key q.queue.adapter k gs) w.region windows) (sym same)
        (subst (λ y. AgreeOnGrants (without_key q.queue.adapter y past.grants) w.region windows) (same_Some (key_of_window x) k e)
        (subst (λ a. AgreeOnGrants (without_key a (key_of_window x) past.grants) w.region windows) (own-adapter w q there)
        (window-ended c w past.grants slot (without_binding x) (Some b) up.sound up.bound up.agree.keys (window-small c slot up.limited has) was refl)))) none
asked-after c past w q start n (ops.LocalInv key) up there has same none (Some k) is = record {}
asked-after c past w q start n (ops.Bind2 window key low address count rights) up there has same none (Some k) is = absurd (true≢false (sym (ap is_some is)))
asked-after c past w q start n (ops.FastReg region low buffer address count rights pages) up there has same none (Some k) is = absurd (true≢false (sym (ap is_some is)))
asked-after c past w q start n (ops.Send list) up there has same none (Some k) is = absurd (true≢false (sym (ap is_some is)))
asked-after c past w q start n (ops.SendImm imm list) up there has same none (Some k) is = absurd (true≢false (sym (ap is_some is)))
asked-after c past w q start n (ops.SendInv key list) up there has same none (Some k) is = absurd (true≢false (sym (ap is_some is)))
asked-after c past w q start n (ops.Write address key list) up there has same none (Some k) is = absurd (true≢false (sym (ap is_some is)))
asked-after c past w q start n (ops.WriteImm address key imm list) up there has same none (Some k) is = absurd (true≢false (sym (ap is_some is)))
asked-after c past w q start n (ops.Read address key list) up there has same none (Some k) is = absurd (true≢false (sym (ap is_some is)))
asked-after c past w q start n (ops.CmpSwap address key compare swap list) up there has same none (Some k) is = absurd (true≢false (sym (ap is_some is)))
asked-after c past w q start n (ops.FetchAdd address key add list) up there has same none (Some k) is = absurd (true≢false (sym (ap is_some is)))

ends-request : (c : Configuration) (past : Past) (w : World) (name : QueueId) (lot : Lot) → IsAgreed c past w → IsSteadyWorld w → Leads w (Ends past (events.Request name lot)) (request_plan c name lot)
ends-request c past w name lot up steady = (
  λ has. (leads-queue c w P name reasons.State (λ q. With_around q (λ a. Request_around c lot q a q.peer (turn_of q)))
      (λ q is. leads-around w P q (λ a. Request_around c lot q a q.peer (turn_of q)) (by q (found c w name q up.sound is) (subst (IsQueueOf name) is (up.sound.things (Queue_of name))).0 q.peer (turn_of q) refl
      (turn-named c w q (placed-here c w name q (record { sound = up.sound; placed = up.placed }) is has))))).0 has,
  λ none. record {},
)
  where
    P : World → List Mark → Type 0
    P = Ends past (events.Request name lot)

    start : Past
    start = at_begin (events.Request name lot) past

    performed : (q : QueuePair) (n : Numbered) (k : Option Key) (g : Option Grant) (b : Bool) → IfSome k (IsInForce start q.queue.adapter) → IfSome g (λ g. is_grant_at_hand (after_marks (ended_by q k) start) g ≡ true)
        → each_mark is_fit start ((ended_by q k ++ option_map_or (λ g. marks.Granted g ∷ []) g [])
        ++ (if b then success_marks q.queue n.place (record n.request { signalled = true }) else [])) ≡ true
    performed q n None None true there asked = refl
    performed q n None None false there asked = refl
    performed q n None (Some g) true there asked = both-true _ _ asked refl
    performed q n None (Some g) false there asked = both-true _ _ asked refl
    performed q n (Some k) None true there asked = both-true _ _ there refl
    performed q n (Some k) None false there asked = both-true _ _ there refl
    performed q n (Some k) (Some g) true there asked = both-true _ _ there (both-true _ _ asked refl)
    performed q n (Some k) (Some g) false there asked = both-true _ _ there (both-true _ _ asked refl)

    -- what is granted was asked for
    grants : (q : QueuePair) → IsThere w q → q.queue ≡ name → (n : Numbered) → IsPerformed q n → (p : Past) (g : Option Grant) → p.at_hand.event ≡ events.Request name lot → next_operation p name ≡ next_operation past name
        → IfSome g (λ g. is_grant_of_operation p g q.queue (record { place = n.place; request = n.request; drawn = n.drawn }) ≡ true) → IfSome g (λ g. is_grant_at_hand p g ≡ true)
    grants q there own n does p None event same asked = record {}
    grants q there own n does p (Some g) event same asked = ap (at p) event
        ∙ ap (λ o. option_map_or (is_grant_of_operation p g name) o false) (operation p event ∙ same ∙ subst (λ k. next_operation past k ≡ Some next.posted) own next.is)
        ∙ ap (is_grant_of_operation p g name) (λ i. record { place = next.place i; request = next.request i; drawn = next.drawn i })
        ∙ ap (λ k. is_grant_of_operation p g k (record { place = n.place; request = n.request; drawn = n.drawn })) (sym own) ∙ asked
      where
        next : IsNextOperation past q n
        next = next-posted past w q n up.posts there.present does

        at : Past → Event → Bool
        at p (events.Verb by' verb) = option_map_or (is_grant_of_verb p g) p.at_hand.answered false
        at p (events.Request queue lot) = option_map_or (is_grant_of_operation p g queue) (operation_at_hand p) false
        at p event = false

        operation : (p : Past) → p.at_hand.event ≡ events.Request name lot → operation_at_hand p ≡ next_operation p name
        operation p event = ap (of p) event
          where
            of : Past → Event → Option Posted
            of p (events.Request queue lot) = next_operation p queue
            of p event = None

    ended : (q : QueuePair) → IsThere w q → q.queue ≡ name → (n : Numbered) → IsPerformed q n → (k : Option Key) → IfSome k (IsEndedBy past start q n n.request.op) → IfSome k (IsInForce start q.queue.adapter)
    ended q there own n does None by-it = record {}
    ended q there own n does (Some k) by-it = found-ends past start q.queue.adapter k refl refl by-it.own (or-left _ false (
        (ap (λ o. option_map_or (ends_by_operation start by-it.own.grant name) o false) (subst (λ k. next_operation past k ≡ Some next.posted) own next.is)
        ∙ ap (ends_by_operation start by-it.own.grant name) (λ i. record { place = next.place i; request = next.request i; drawn = next.drawn i })
        ∙ ap (λ k. ends_by_operation start by-it.own.grant k (record { place = n.place; request = n.request; drawn = n.drawn })) (sym own) ∙ by-it.may)))
      where
        next : IsNextOperation past q n
        next = next-posted past w q n up.posts there.present does

    next-kept : (q : QueuePair) (k : Option Key) → (next_operation (after_marks (ended_by q k) start) name ≡ next_operation past name) × ((after_marks (ended_by q k) start).at_hand.event ≡ events.Request name lot)
    next-kept q None = (refl, refl)
    next-kept q (Some k) = (refl, refl)

    ends : (q : QueuePair) → IsThere w q → q.queue ≡ name → (n : Numbered) → IsPerformed q n → (after : QueuePair) (m : LocalMarks) (refusal : Option OpRefusal) → (refusal ≡ None → IfSome m.revoked (IsEndedBy past start q n n.request.op))
        → (refusal ≡ None → IfSome m.granted (λ g. is_grant_of_operation (after_marks (ended_by q m.revoked) start) g q.queue (record { place = n.place; request = n.request; drawn = n.drawn }) ≡ true))
        → each_mark is_fit start (operation_effects q n after m refusal).marks ≡ true
    ends q there own n does after m None gone asked = performed q n m.revoked m.granted n.request.signalled (ended q there own n does m.revoked (gone refl))
        (grants q there own n does (after_marks (ended_by q m.revoked) start) m.granted (next-kept q m.revoked).1 (next-kept q m.revoked).0 (asked refl))
    ends q there own n does after m (Some cause) gone asked = keyless-endless q.queue q.sends None _ (failure-goes MemoryManagement (Some cause) q refl).marks start

    by : (q : QueuePair) → IsThere w q → q.queue ≡ name → (peer : Option Correspondent) (turn : RequestTurn) → turn_of q ≡ turn → IsNamedTurn c q turn → Leads w P (Request_around c lot q (around_in w q (shared_of w q)) peer turn)
    by q there own peer (Waits reason) is named = record {}
    by q there own peer (Performs n) is named = leads-done c w P q n (λ e changes writes. Finish (updates_of q (around_in w q (shared_of w q)) e ++ changes) writes e.marks) n.request.op does.local
        (ends q there own n does (done_by c w q n n.request.op).after (done_by c w q n n.request.op).marks (done_by c w q n n.request.op).refusal
        (λ none. ended-in-force c past start w q n n.request.op up there named refl refl none) (λ none. asked-after c past w q start n n.request.op up there named refl none (done_by c w q n n.request.op).marks.revoked refl))
      where
        does : IsPerformed q n
        does = performs q n (there-kept w q steady there) there.sound.requester.begun is
    by q there own None (Sends n) is named = record {}
    by q there own (Some peer) (Sends n) is named = leads-ends c w P (λ ended. IsSentPacket q peer m lot) (packet_row q (has_room_for q peer m) n) (Leave_plan q (around_in w q (shared_of w q)) peer m lot) packets.denied packets.allowed
        (λ e i ws sent more. each-append e.marks (option_map_or (sent_marks q peer m lot) (packet_sent e) []) start (keyless-endless q.queue q.sends None e.marks sent.keyless start) (ends-sent q peer m lot (packet_sent e)))
      where
        m : Mailbox
        m = w.mailbox peer.queue

        packets : RowDoes (IsSentPacket q peer m lot) (packet_row q (has_room_for q peer m) n)
        packets = packet-sent q peer m lot (has_room_for q peer m) n (packet-is q peer m lot (has_room_for q peer m) n (there-kept w q steady there) there.sound.requester.begun is)

ends-inject : (c : Configuration) (past : Past) (w : World) (by : ℕ) (q : QueueId) (bytes : List ℕ) → IsAgreed c past w → IsSteadyWorld w → Leads w (Ends past (events.Verb by (verbs.Inject q bytes))) (inject_plan c (call_of by (verbs.Inject q bytes)) q bytes)
ends-inject c past w by q bytes up steady = at (w.queue q) refl
  where
    call : Call
    call = call_of by (verbs.Inject q bytes)

    P : World → List Mark → Type 0
    P = Ends past (events.Verb by (verbs.Inject q bytes))

    arrives : QueueSlot → Plan
    arrives (NoQueue incarnation timers) = Refuse_plan call NoSuch
    arrives (Present p) = Arrive c p bytes None [] (answer_mark call answers.Fine ∷ [])

    at : (s : QueueSlot) → w.queue q ≡ s → Leads w P (arrives s)
    at (NoQueue incarnation timers) is = refl
    at (Present p) is = ends-arrive c past (Behind past by (verbs.Inject q bytes) answers.Fine) w P p bytes None [] (answer_mark call answers.Fine ∷ []) up steady (found c w q p up.sound is) refl refl refl
        (λ v ns right. both-true true _ refl right)

ends-dereg_mr : (c : Configuration) (past : Past) (w : World) (by : ℕ) (s : Slot) → IsAgreed c past w → s.slot < 0x8000 → Leads w (Ends past (events.Verb by (verbs.DeregMr s))) (dereg_mr_plan (call_of by (verbs.DeregMr s)) s)
ends-dereg_mr c past w by s up small = leads-unless-all w (Ends past (events.Verb by (verbs.DeregMr s))) (of_region_refusals (deregistration_refusals (w.region s))) (Refuse_plan (call_of by (verbs.DeregMr s)))
    (Answer_plan (call_of by (verbs.DeregMr s)) answers.Fine ((Domain_of s.domain := without_object (w.domain s.domain)) ∷ (Region_of s := after_deregistration (w.region s)) ∷ [])
    (option_map_or (λ g. marks.Revoked s.domain.adapter g.key ∷ []) (grant_of_region (w.region s)) [])) (λ r. refl) (λ fails. told (grant_of_region (w.region s)) refl (omega (arith, ltb-false 0 (w.region s).bound fails.1.0)))
  where
    here : (g : Grant) → grant_of_region (w.region s) ≡ Some g → (w.region s).bound ≡ 0 → IsFoundIn past s (region_index s) g
    here g is none = region-found-in c past w s g up small is none

    told : (o : Option Grant) → grant_of_region (w.region s) ≡ o → (w.region s).bound ≡ 0
        → each_mark is_fit (at_begin (events.Verb by (verbs.DeregMr s)) past) (marks.Verb by (verbs.DeregMr s) answers.Fine ∷ option_map_or (λ g. marks.Revoked s.domain.adapter g.key ∷ []) o []) ≡ true
    told None is none = refl
    told (Some g) is none = both-true true _ refl (both-true _ true (found-ends past (Behind past by (verbs.DeregMr s) answers.Fine) s.domain.adapter g.key refl refl
        (record { grant = g; found = (here g is none).found; unbound = (here g is none).unbound }) (or-left _ false ((here g is none).slot))) refl)

ends-reg_mr : (c : Configuration) (past : Past) (w : World) (by : ℕ) (s : Slot) (buffer offset count bytes : ℕ) (rights : Rights) → IsAgreed c past w → s.slot < 0x8000
    → Leads w (Ends past (events.Verb by (verbs.RegMr s buffer offset count rights))) (reg_mr_plan (call_of by (verbs.RegMr s buffer offset count rights)) s (run_of s.domain.adapter buffer offset count) bytes rights)
ends-reg_mr c past w by s buffer offset count bytes rights up small = leads-unless w P
    ((not (w.domain s.domain).allocated, NoDomain) ∷ (not (is_vacant_region (w.region s)), SlotTaken) ∷ of_region_refusals (registration_refusals at bytes rights)) (Refuse_plan call)
    (Answer_plan call (answers.Key h.key) ((Domain_of s.domain := with_object (w.domain s.domain)) ∷ (Region_of s := after_registration s at rights (w.region s)) ∷ []) (marks.Granted h ∷ []))
    (λ r. refl) (both-true true _ refl (both-true _ true (both-true _ _ (ap (λ low. grant_eq h (grant_of_registration s at rights (next_low low))) fresh ∙ grant-refl h) (key-refl h.key)) refl))
  where
    P : World → List Mark → Type 0
    P = Ends past (events.Verb by (verbs.RegMr s buffer offset count rights))

    call : Call
    call = call_of by (verbs.RegMr s buffer offset count rights)

    at : Run
    at = run_of s.domain.adapter buffer offset count

    h : Grant
    h = grant_of_registration s at rights (next_low (w.region s).low)

    fresh : past.low (region_key_slot s) ≡ (w.region s).low
    fresh = up.ways.low (region_key_slot s) (region-kind s (region_key_slot s) small (key-slot-refl (region_key_slot s))) ∙ ap (λ t. (w.region t).low) (slot-at-region s small)

ends-dealloc_mw : (c : Configuration) (past : Past) (w : World) (by : ℕ) (s : Slot) → IsAgreed c past w → s.slot < 0x8000 → Leads w (Ends past (events.Verb by (verbs.DeallocMw s))) (dealloc_mw_plan (call_of by (verbs.DeallocMw s)) s)
ends-dealloc_mw c past w by s up small = leads-unless w P ((window.kind == 0, NoSuch) ∷ []) (Refuse_plan call) (plan-of window.binding) (λ r. refl) (at window.binding refl)
  where
    P : World → List Mark → Type 0
    P = Ends past (events.Verb by (verbs.DeallocMw s))

    call : Call
    call = call_of by (verbs.DeallocMw s)

    window : Window
    window = w.window s

    changed : List Update
    changed = (Domain_of s.domain := without_object (w.domain s.domain)) ∷ (Window_of s := after_deallocation window) ∷ []

    end : Binding → List Update → Plan
    end b more = Answer_plan call answers.Fine
        (changed ++ (Region_of (region_under window b) := with_window_unbound (w.region (region_under window b))) ∷ more)
        (marks.Revoked s.domain.adapter (key_of_window window) ∷ [])

    plan-of : Option Binding → Plan
    plan-of None = Answer_plan call answers.Fine changed []
    plan-of (Some b) = Look (Region_of (region_under window b)) (λ region. With_binder b.queue (λ more.
        Answer_plan call answers.Fine (changed ++ (Region_of (region_under window b) := with_window_unbound region) ∷ more) (marks.Revoked s.domain.adapter (key_of_window window) ∷ [])))

    over : (b : Binding) → window.binding ≡ Some b → StandsOver w s b
    over b is = stands-over w s b up.bound is

    here : (b : Binding) (is : window.binding ≡ Some b) → IsFoundIn past s (window_index s) (grant_of_binding window b (over b is).region)
    here b is = window-found-in c past w s b up small is (over b is)

    ends : (b : Binding) → window.binding ≡ Some b → each_mark is_fit (at_begin (events.Verb by (verbs.DeallocMw s)) past) (marks.Verb by (verbs.DeallocMw s) answers.Fine ∷ marks.Revoked s.domain.adapter (key_of_window window) ∷ []) ≡ true
    ends b is = both-true true _ refl (both-true _ true (found-ends past (Behind past by (verbs.DeallocMw s) answers.Fine) s.domain.adapter (key_of_window window) refl refl
        (record { grant = grant_of_binding window b (over b is).region; found = (here b is).found; unbound = (here b is).unbound }) (or-left _ false ((here b is).slot))) refl)

    queued : (b : Binding) → window.binding ≡ Some b → (q : QueueId) (slot : QueueSlot) → Leads w P (end b (queue_updates q slot))
    queued b is q (NoQueue incarnation timers) = ends b is
    queued b is q (Present p) = ends b is

    binder : (b : Binding) → window.binding ≡ Some b → (o : Option QueueId) → Leads w P (With_binder o (end b))
    binder b is None = ends b is
    binder b is (Some q) = queued b is q (w.queue q)

    at : (o : Option Binding) → window.binding ≡ o → Leads w P (plan-of o)
    at None is = refl
    at (Some b) is = binder b is b.queue

ends-quiet : (c : Configuration) (past : Past) (w : World) (by : ℕ) (verb : Verb) → IsQuietVerb verb → Leads w (Ends past (events.Verb by verb)) (verb_plan c (call_of by verb) verb)
ends-quiet c past w by verb quiet = leads-weaker w (Answers (call_of by verb)) (Ends past (events.Verb by verb)) (verb_plan c (call_of by verb) verb)
    (λ v ms all. answered-endless ms all (at_begin (events.Verb by verb) past)) (quiet-verb c w by verb quiet)

ends-verb : (c : Configuration) (past : Past) (w : World) (by : ℕ) (verb : Verb) → IsAgreed c past w → IsSteadyWorld w → is_named c verb ≡ true → Leads w (Ends past (events.Verb by verb)) (verb_plan c (call_of by verb) verb)
ends-verb c past w by (verbs.RegMr slot buffer offset count rights) up steady named = ends-reg_mr c past w by slot buffer offset count (bytes_of_buffer c slot.domain.adapter buffer) rights up
    (region-small c slot up.limited (and_parts (has_slot c (λ a. a.regions) slot) (has_buffer c slot.domain.adapter buffer) named).0)
ends-verb c past w by (verbs.DeregMr slot) up steady named = ends-dereg_mr c past w by slot up (region-small c slot up.limited named)
ends-verb c past w by (verbs.DeallocMw slot) up steady named = ends-dealloc_mw c past w by slot up (window-small c slot up.limited named)
ends-verb c past w by (verbs.Store adapter buffer offset bytes) up steady named = search rules
ends-verb c past w by (verbs.Inject queue bytes) up steady named = ends-inject c past w by queue bytes up steady
ends-verb c past w by (verbs.AllocPd domain) up steady named = ends-quiet c past w by (verbs.AllocPd domain) (record {})
ends-verb c past w by (verbs.DeallocPd domain) up steady named = ends-quiet c past w by (verbs.DeallocPd domain) (record {})
ends-verb c past w by (verbs.AllocMr slot pages) up steady named = ends-quiet c past w by (verbs.AllocMr slot pages) (record {})
ends-verb c past w by (verbs.AllocMw slot kind) up steady named = ends-quiet c past w by (verbs.AllocMw slot kind) (record {})
ends-verb c past w by (verbs.CreateCq slot capacity) up steady named = ends-quiet c past w by (verbs.CreateCq slot capacity) (record {})
ends-verb c past w by (verbs.DestroyCq slot) up steady named = ends-quiet c past w by (verbs.DestroyCq slot) (record {})
ends-verb c past w by (verbs.CreateSrq slot depth) up steady named = ends-quiet c past w by (verbs.CreateSrq slot depth) (record {})
ends-verb c past w by (verbs.DestroySrq slot) up steady named = ends-quiet c past w by (verbs.DestroySrq slot) (record {})
ends-verb c past w by (verbs.CreateQp slot send_cq recv_cq send_depth recv_depth srq) up steady named = ends-quiet c past w by (verbs.CreateQp slot send_cq recv_cq send_depth recv_depth srq) (record {})
ends-verb c past w by (verbs.ModifyQp slot change) up steady named = ends-quiet c past w by (verbs.ModifyQp slot change) (record {})
ends-verb c past w by (verbs.QueryQp slot) up steady named = ends-quiet c past w by (verbs.QueryQp slot) (record {})
ends-verb c past w by (verbs.DestroyQp slot) up steady named = ends-quiet c past w by (verbs.DestroyQp slot) (record {})
ends-verb c past w by (verbs.PostSend slot request) up steady named = ends-quiet c past w by (verbs.PostSend slot request) (record {})
ends-verb c past w by (verbs.PostRecv slot request) up steady named = ends-quiet c past w by (verbs.PostRecv slot request) (record {})
ends-verb c past w by (verbs.PostSrq slot request) up steady named = ends-quiet c past w by (verbs.PostSrq slot request) (record {})
ends-verb c past w by (verbs.Poll slot n least) up steady named = ends-quiet c past w by (verbs.Poll slot n least) (record {})
ends-verb c past w by (verbs.Load adapter buffer offset count) up steady named = ends-quiet c past w by (verbs.Load adapter buffer offset count) (record {})

ends-event : (c : Configuration) (past : Past) (w : World) (event : Event) → IsAgreed c past w → IsSteadyWorld w → Leads w (Ends past event) (plan c event)
ends-event c past w (events.Verb by verb) up steady = (λ named. ends-verb c past w by verb up steady named, λ none. refl)
ends-event c past w (events.Request queue lot) up steady = ends-request c past w queue lot up steady
ends-event c past w (events.Deliver queue index) up steady = ends-deliver c past w queue index up steady
ends-event c past w (events.Respond queue lot) up steady = ends-respond c past w queue lot up
ends-event c past w (events.Timeout queue hasten) up steady = ends-timeout c past w queue hasten
ends-event c past w (events.RnrWake queue) up steady = ends-wake c past w queue

along : (c : Configuration) (n : ℕ) (es : List EntryValue) (past : Past) (w : World) → AllByRecursion (λ e. CanBeMade e.event) es → IsAgreed c past w
    → run_from c n w (map (λ e. e.event) es) ≡ Ok (map (λ e. e.marks) es) → each_entry is_fit (λ past. true) past es ≡ true
along c n [] past w made up follows = refl
along c n (e ∷ es) past w made up follows =
    by (step c w e.event) (comes w (Ends past e.event) (plan c e.event) (ends-event c past w e.event up up.steady)) (event-keys-agree c past w e.event up.limited up.sound up.placed up.bound up.agree)
    (event-agrees c past w e.event up.sound up.paths) (event-posts-agree c past w e.event up.limited up.sound up.steady up.posts)
    (event-ways-agree c past w e.event (record { limited = up.limited; sound = up.sound; steady = up.steady; placed = up.placed; bound = up.bound; posts = up.posts; agree = up.ways }))
    (event-sound c e.event w up.limited up.sound made.0) (event-steady c e.event w up.sound up.steady) (event-placed c e.event w up.limited up.sound up.placed) (event-bound c e.event w up.sound up.bound) follows
    (λ v next told. along c (suc n) es (after_entry e past) v made.1 next told)
  where
    Rest : Type 0
    Rest = (v : World) → IsAgreed c (after_entry e past) v → run_from c (suc n) v (map (λ e. e.event) es) ≡ Ok (map (λ e. e.marks) es) → each_entry is_fit (λ past. true) (after_entry e past) es ≡ true

    stopped : Ran → Bool
    stopped (Ok told) = false
    stopped (Err stop) = true

    same-paths : (v : World) → PathsAgree (after_marks e.marks (at_begin e.event past)) v → PathsAgree (after_entry e past) v
    same-paths v agree = agree

    same : (v : World) → KeysAgree (after_marks e.marks (at_begin e.event past)) v → KeysAgree (after_entry e past) v
    same v agree = agree

    by : (o : Outcome) → Comes (Ends past e.event) o → Comes (λ v ms. KeysAgree (after_marks ms (at_begin e.event past)) v) o → Comes (λ v ms. PathsAgree (after_marks ms (at_begin e.event past)) v) o → Comes (λ v ms. PostsAgree (at_end (after_marks ms (at_begin e.event past))) v) o
        → Comes (λ v ms. WaysAgree (at_end (after_marks ms (at_begin e.event past))) v) o → Afterwards (IsSoundWorld c) o → Afterwards IsSteadyWorld o → Afterwards (IsPlacedWorld c) o
        → Afterwards IsBoundWorld o → go_on n o (λ v. run_from c (suc n) v (map (λ e. e.event) es)) ≡ Ok (e.marks ∷ map (λ e. e.marks) es) → Rest
        → each_entry is_fit (λ past. true) past (e ∷ es) ≡ true
    by (NotReady reason) last keys paths posts ways sound steady placed bound follows rest = absurd (true≢false (ap stopped follows))
    by (Did v ms) last keys paths posts ways sound steady placed bound follows rest = at (first-marks ms e.marks (run_from c (suc n) v (map (λ e. e.event) es)) (map (λ e. e.marks) es) follows)
      where
        at : (ms ≡ e.marks) × (run_from c (suc n) v (map (λ e. e.event) es) ≡ Ok (map (λ e. e.marks) es)) → each_entry is_fit (λ past. true) past (e ∷ es) ≡ true
        at told = both-true _ _ (both-true _ true (subst (λ xs. each_mark is_fit (at_begin e.event past) xs ≡ true) told.0 last) refl)
            (rest v (record {
              limited = up.limited;
              sound = sound;
              steady = steady;
              placed = placed;
              bound = bound;
              agree = same v (subst (λ xs. KeysAgree (after_marks xs (at_begin e.event past)) v) told.0 keys);
              paths = same-paths v (subst (λ xs. PathsAgree (after_marks xs (at_begin e.event past)) v) told.0 paths);
              posts = subst (λ xs. PostsAgree (at_end (after_marks xs (at_begin e.event past))) v) told.0 posts;
              ways = subst (λ xs. WaysAgree (at_end (after_marks xs (at_begin e.event past))) v) told.0 ways;
            }) told.1)

pub fit-along : (c : Configuration) (bytes : ByteMap) (es : List EntryValue) → AreLimited c → AllByRecursion (λ e. CanBeMade e.event) es → Follows c bytes es → each_entry is_fit (λ past. true) (opening_past bytes) es ≡ true
fit-along c bytes es limited made follows = along c 0 es (opening_past bytes) (opening_world bytes) made (record {
  limited = limited;
  sound = opening-sound c bytes;
  steady = opening-steady bytes;
  placed = opening-placed c bytes;
  bound = opening-bound bytes;
  agree = opening-keys-agree bytes;
  paths = opening-agrees bytes;
  posts = opening-posts-agree bytes;
  ways = opening-ways-agree bytes;
}) follows

-- ---- the tests apart

weaker-marks : (f g : Past → Mark → Bool) → ((p : Past) (m : Mark) → f p m ≡ true → g p m ≡ true) → (ms : List Mark) (p : Past) → each_mark f p ms ≡ true → each_mark g p ms ≡ true
weaker-marks f g weaker [] p all = refl
weaker-marks f g weaker (m ∷ ms) p all = both-true _ _ (weaker p m (and_parts (f p m) (each_mark f (after_mark m p) ms) all).0) (weaker-marks f g weaker ms (after_mark m p) (and_parts (f p m) (each_mark f (after_mark m p) ms) all).1)

pub weaker-entries : (f g : Past → Mark → Bool) → ((p : Past) (m : Mark) → f p m ≡ true → g p m ≡ true) → (es : List EntryValue) (p : Past) → each_entry f (λ past. true) p es ≡ true → each_entry g (λ past. true) p es ≡ true
weaker-entries f g weaker [] p all = refl
weaker-entries f g weaker (e ∷ es) p all = both-true _ _ (both-true _ true (weaker-marks f g weaker e.marks (at_begin e.event p) (and_parts (each_mark f (at_begin e.event p) e.marks) true parts.0).0) refl)
    (weaker-entries f g weaker es (after_entry e p) parts.1)
  where
    parts : ((each_mark f (at_begin e.event p) e.marks && true) ≡ true) × (each_entry f (λ past. true) (after_entry e p) es ≡ true)
    parts = and_parts (each_mark f (at_begin e.event p) e.marks && true) (each_entry f (λ past. true) (after_entry e p) es) all

pub ends-along : (c : Configuration) (bytes : ByteMap) (es : List EntryValue) → AreLimited c → AllByRecursion (λ e. CanBeMade e.event) es → Follows c bytes es → DoEndInForce bytes es
ends-along c bytes es limited made follows = weaker-entries is_fit ends_in_force by es (opening_past bytes) (fit-along c bytes es limited made follows)
  where
    each : (p : Past) (o : Option Grant) → option_map_or (is_well_ended p) o false ≡ true → option_map_or (is_unbound p) o false ≡ true
    each p None fit = fit
    each p (Some g) fit = (and_parts (is_unbound p g) (ends_at_hand p g) fit).0

    by : (p : Past) (m : Mark) → is_fit p m ≡ true → ends_in_force p m ≡ true
    by p (marks.Revoked adapter key) fit = each p (grant_with p adapter key) fit
    by p m fit = refl

pub asked-along : (c : Configuration) (bytes : ByteMap) (es : List EntryValue) → AreLimited c → AllByRecursion (λ e. CanBeMade e.event) es → Follows c bytes es → AreAsAsked bytes es
asked-along c bytes es limited made follows = weaker-entries is_fit is_granted_as_asked by es (opening_past bytes) (fit-along c bytes es limited made follows)
  where
    by : (p : Past) (m : Mark) → is_fit p m ≡ true → is_granted_as_asked p m ≡ true
    by p (marks.Granted g) fit = fit
    by p m fit = refl

pub ended-along : (c : Configuration) (bytes : ByteMap) (es : List EntryValue) → AreLimited c → AllByRecursion (λ e. CanBeMade e.event) es → Follows c bytes es → DoEndAsAsked bytes es
ended-along c bytes es limited made follows = weaker-entries is_fit ends_as_asked by es (opening_past bytes) (fit-along c bytes es limited made follows)
  where
    each : (p : Past) (o : Option Grant) → option_map_or (is_well_ended p) o false ≡ true → option_map_or (ends_at_hand p) o false ≡ true
    each p None fit = fit
    each p (Some g) fit = (and_parts (is_unbound p g) (ends_at_hand p g) fit).1

    by : (p : Past) (m : Mark) → is_fit p m ≡ true → ends_as_asked p m ≡ true
    by p (marks.Revoked adapter key) fit = each p (grant_with p adapter key) fit
    by p m fit = refl
