-- Each grant is the only one of its key slot, in every history that follows the machine. For proofs only.
use Rattle.std.proofs.Common.{◌≡◌, ℕ, ◌&&◌, ◌||◌, Bool, true, false, not, if◌then◌else◌, List, [], ◌∷◌, ◌++◌, Option, None, Some, refl, ap, subst, ◌∙◌, rules, true≢false, suc, map, Ok, Err}
use Rattle.std.specs.List.{AllByRecursion, list_any}
use Rattle.std.specs.Option.{option_map, option_map_or}
use Rattle.ca_law_endings.proofs.LeadsLemmas.{leads-around, leads-queue, leads-unless, leads-weaker, comes}
use Rattle.ca_law_endings.proofs.PathVerbLemmas.{call_of}
use Rattle.ca_law_endings.specs.Runs.{Leads, Comes}
use Rattle.ca_law_keys.proofs.Keys.KeyTurnLemmas.{found}
use Rattle.ca_law_keys.proofs.Keys.KeyFrame.{IsUp}
use Rattle.ca_law_keys.specs.InForce.{KeysAgree}
use Rattle.ca_law_keys.proofs.Posts.GoingLemmas.{respond-goes, timeout-goes, failure-goes}
use Rattle.ca_law_keys.proofs.Posts.PostLemmas.{leads-goes, leads-ends}
use Rattle.ca_law_keys.proofs.Posts.PostTurnLemmas.{any-such, leads-perform, packet-is}
use Rattle.ca_base.specs.Configuration.{Configuration}
use Rattle.ca_base.specs.declared.correspondent.Correspondent.{Correspondent}
use Rattle.ca_base.specs.declared.lot.Lot.{Lot}
use Rattle.ca_base.specs.declared.request.PostedSend.{PostedSend}
use Rattle.ca_base.specs.declared.step.Reason.TheVariants as reasons
use Rattle.ca_base.specs.objects.Mailbox.{Mailbox, after_delivery, bytes_lent}
use Rattle.ca_base.specs.objects.QueuePair.{QueuePair, QueueSlot, NoQueue, Present}
use Rattle.ca_base.specs.objects.WorkQueue.{WorkQueue}
use Rattle.ca_grant.specs.KeySlot.{HaveSlotsApart, is_at_slot_of}
use Rattle.ca_keys.specs.declared.grant.Grant.{Grant}
use Rattle.ca_keys.specs.declared.key.Key.{Key}
use Rattle.ca_keys.specs.declared.names.QueueId.{QueueId}
use Rattle.ca_keys.specs.declared.names.Slot.{Slot}
use Rattle.ca_law_world.proofs.Sound.WorldLemmas.{IsThere, around_in, shared_of, RowDoes}
use Rattle.ca_law_world.proofs.Steady.TurnLemmas.{there-kept}
use Rattle.ca_law_world.specs.Steady.{IsSteadyWorld}
use Rattle.ca_law_keys.proofs.Licensed.AnswerLemmas.{Answers, AreAnswered, AreFlushes, quiet-verb, IsQuietVerb}
use Rattle.ca_law_keys.proofs.Posts.GrantLemmas.{both-true}
use Rattle.ca_law_keys.proofs.Licensed.EffectLemmas.{AreOf, keyless-of, of-append, tells}
use Rattle.ca_model.specs.Past.{Past, after_mark, after_marks, at_begin, key_slot_eq, key_slot_of, after_entry, each_entry, each_mark, opening_past}
use Rattle.ca_model.specs.declared.answer.Answer.TheVariants as answers
use Rattle.ca_model.specs.declared.answer.Refusal.TheVariants.{NoSuch}
use Rattle.ca_model.specs.declared.event.Event.{Event}
use Rattle.ca_model.specs.declared.event.Event.TheVariants as events
use Rattle.ca_model.specs.declared.mark.Mark.{Mark}
use Rattle.ca_model.specs.declared.mark.Mark.TheVariants as marks
use Rattle.ca_model.specs.declared.verb.Verb.{Verb}
use Rattle.ca_model.specs.declared.verb.Verb.TheVariants as verbs
use Rattle.ca_model.specs.machine.Around.{With_around, updates_of}
use Rattle.ca_model.specs.machine.Delivery.{Arrive, deliver_plan}
use Rattle.ca_model.specs.machine.HostVerbs.{inject_plan}
use Rattle.ca_model.specs.machine.Plan.{Plan, Stuck, Look, Finish, ◌:=◌, unless_refused, Did, NotReady, Outcome}
use Rattle.ca_model.specs.machine.Respond.{respond_refusals, respond_row}
use Rattle.ca_model.specs.machine.Step.{verb_plan, plan, step}
use Rattle.ca_model.specs.machine.Timers.{after_timeout, after_wake, timeout_refusals, wake_refusals}
use Rattle.ca_model.specs.machine.Turns.{Fire, Leave_plan, Respond_around, Timeout_around, With_receives, has_room_for, packet_sent, reaches_peer, respond_plan, sent_marks, timeout_plan, wake_plan, Request_around, request_plan}
use Rattle.ca_model.specs.machine.VerbAnswers.{Call, Refuse_plan, answer_mark, Answer_plan, of_region_refusals}
use Rattle.ca_model.specs.machine.World.{Mailbox_of, Queue_of, World, Domain_of, Region_of, opening_world}
use Rattle.ca_model.specs.machine.RegionVerbs.{dereg_mr_plan}
use Rattle.ca_base.specs.objects.Region.{after_deregistration, deregistration_refusals, grant_of_region}
use Rattle.ca_base.specs.objects.Domain.{without_object}
use Rattle.ca_law_keys.proofs.Posts.PlaceLemmas.{performs}
use Rattle.ca_base.specs.declared.completion.WcStatus.TheVariants.{MemoryManagement}
use Rattle.ca_base.specs.declared.refusals.OpRefusal.{OpRefusal}
use Rattle.ca_base.specs.objects.LocalRequest.{LocalMarks}
use Rattle.ca_law_keys.proofs.Licensed.SuccessLemmas.{effects-arrive, sent-of}
use Rattle.ca_model.specs.machine.Completions.{success_marks}
use Rattle.ca_model.specs.machine.LocalOperations.{operation_effects}
use Rattle.ca_model.specs.machine.Numbering.{Numbered}
use Rattle.ca_model.specs.machine.Requester.{Performs, RequestTurn, Sends, Waits, packet_row, turn_of}
use Rattle.ca_model.specs.machine.Sound.{AreLimited, CanBeMade, IsSoundWorld}
use Rattle.ca_law_endings.proofs.EventFitLemmas.{first-marks}
use Rattle.ca_law_keys.proofs.Keys.KeyLaws.{event-keys-agree, opening-keys-agree}
use Rattle.ca_keys.specs.Memory.{ByteMap}
use Rattle.ca_law_parts.proofs.Names.PlacedLemmas.{event-placed, opening-placed}
use Rattle.ca_law_parts.specs.Placed.{IsPlacedWorld}
use Rattle.ca_law_world.proofs.Sound.SoundLemmas.{event-sound, opening-sound}
use Rattle.ca_law_world.proofs.Steady.EventLemmas.{event-steady, opening-steady}
use Rattle.ca_law_world.proofs.Windows.WindowEventLemmas.{event-bound, opening-bound}
use Rattle.ca_law_world.specs.Bindings.{IsBoundWorld}
use Rattle.ca_law_keys.proofs.Posts.FailureLemmas.{IsSentPacket, packet-sent}
use Rattle.ca_model.specs.Entries.{EntryValue}
use Rattle.ca_model.specs.machine.Frame.{Afterwards}
use Rattle.ca_model.specs.machine.Run.{Follows, Ran, go_on, run_from}
use Rattle.ca_law_keys.specs.Alone.{AreAlone, is_granted_alone}

-- a mark that changes no grant in force
abbrev IsApartFromKeys : Mark → Type 0
IsApartFromKeys (marks.Verb consumer verb answer) = ⊥
IsApartFromKeys (marks.Granted g) = ⊥
IsApartFromKeys (marks.Revoked adapter key) = ⊥
IsApartFromKeys m = Unit {0}

abbrev AreApartFromKeys : List Mark → Type 0
AreApartFromKeys [] = Unit {0}
AreApartFromKeys (m ∷ ms) = IsApartFromKeys m × AreApartFromKeys ms

-- behind a grant no other comes, and no key ends
abbrev GrantsLast : List Mark → Type 0
GrantsLast [] = Unit {0}
GrantsLast (marks.Granted g ∷ ms) = AreApartFromKeys ms
GrantsLast (m ∷ ms) = GrantsLast ms

grants-one : (m : Mark) → IsApartFromKeys m → (p : Past) → (after_mark m p).grants ≡ p.grants
grants-one (marks.Verb consumer verb answer) apart p = absurd apart
grants-one (marks.Granted g) apart p = absurd apart
grants-one (marks.Revoked adapter key) apart p = absurd apart
grants-one (marks.Sent source target index request bytes) apart p = refl
grants-one (marks.Lost target None) apart p = refl
grants-one (marks.Lost target (Some index)) apart p = refl
grants-one (marks.Arrived target index) apart p = refl
grants-one (marks.Timer queue silent) apart p = refl
grants-one (marks.Done queue x cause) apart p = refl
grants-one (marks.Stored place bytes) apart p = refl
grants-one (marks.Remote queue domain envelope k kind address count verdict) apart p = refl
grants-one (marks.Local queue domain k kind address count verdict) apart p = refl
grants-one (marks.Dropped target cause) apart p = refl

grants-same : (ms : List Mark) → AreApartFromKeys ms → (p : Past) → (after_marks ms p).grants ≡ p.grants
grants-same [] apart p = refl
grants-same (m ∷ ms) apart p = grants-same ms apart.1 (after_mark m p) ∙ grants-one m apart.0 p

-- a grant apart from others is the only one of its key slot
alone : (g : Grant) (gs : List Grant) → AllByRecursion (λ h. is_at_slot_of g.domain g.key h ≡ false) gs → not (list_any (λ h. key_slot_eq (key_slot_of h) (key_slot_of g)) gs) ≡ true
alone g [] apart = refl
alone g (h ∷ gs) apart = ap (λ b. not (b || list_any (λ h. key_slot_eq (key_slot_of h) (key_slot_of g)) gs)) apart.0 ∙ alone g gs apart.1

grants-alone : (ms : List Mark) (p : Past) → GrantsLast ms → HaveSlotsApart (after_marks ms p).grants → each_mark is_granted_alone p ms ≡ true
grants-alone [] p last apart = refl
grants-alone (marks.Granted g ∷ ms) p last apart = both-true _ _ (alone g p.grants (subst HaveSlotsApart (grants-same ms last (after_mark (marks.Granted g) p)) apart).0) (rest ms last (after_mark (marks.Granted g) p))
  where
    one : (m : Mark) → IsApartFromKeys m → (p : Past) → is_granted_alone p m ≡ true
    one (marks.Verb consumer verb answer) apart p = absurd apart
    one (marks.Granted g) apart p = absurd apart
    one (marks.Revoked adapter key) apart p = absurd apart
    one (marks.Sent source target index request bytes) apart p = refl
    one (marks.Lost target index) apart p = refl
    one (marks.Arrived target index) apart p = refl
    one (marks.Timer queue silent) apart p = refl
    one (marks.Done queue x cause) apart p = refl
    one (marks.Stored place bytes) apart p = refl
    one (marks.Remote queue domain envelope k kind address count verdict) apart p = refl
    one (marks.Local queue domain k kind address count verdict) apart p = refl
    one (marks.Dropped target cause) apart p = refl

    rest : (ms : List Mark) → AreApartFromKeys ms → (p : Past) → each_mark is_granted_alone p ms ≡ true
    rest [] apart p = refl
    rest (m ∷ ms) apart p = both-true _ _ (one m apart.0 p) (rest ms apart.1 (after_mark m p))
grants-alone (marks.Verb consumer verb answer ∷ ms) p last apart = both-true true _ refl (grants-alone ms (after_mark (marks.Verb consumer verb answer) p) last apart)
grants-alone (marks.Revoked adapter key ∷ ms) p last apart = both-true true _ refl (grants-alone ms (after_mark (marks.Revoked adapter key) p) last apart)
grants-alone (marks.Sent source target index request bytes ∷ ms) p last apart = both-true true _ refl (grants-alone ms (after_mark (marks.Sent source target index request bytes) p) last apart)
grants-alone (marks.Lost target index ∷ ms) p last apart = both-true true _ refl (grants-alone ms (after_mark (marks.Lost target index) p) last apart)
grants-alone (marks.Arrived target index ∷ ms) p last apart = both-true true _ refl (grants-alone ms (after_mark (marks.Arrived target index) p) last apart)
grants-alone (marks.Timer queue silent ∷ ms) p last apart = both-true true _ refl (grants-alone ms (after_mark (marks.Timer queue silent) p) last apart)
grants-alone (marks.Done queue x cause ∷ ms) p last apart = both-true true _ refl (grants-alone ms (after_mark (marks.Done queue x cause) p) last apart)
grants-alone (marks.Stored place bytes ∷ ms) p last apart = both-true true _ refl (grants-alone ms (after_mark (marks.Stored place bytes) p) last apart)
grants-alone (marks.Remote queue domain envelope k kind address count verdict ∷ ms) p last apart = both-true true _ refl (grants-alone ms (after_mark (marks.Remote queue domain envelope k kind address count verdict) p) last apart)
grants-alone (marks.Local queue domain k kind address count verdict ∷ ms) p last apart = both-true true _ refl (grants-alone ms (after_mark (marks.Local queue domain k kind address count verdict) p) last apart)
grants-alone (marks.Dropped target cause ∷ ms) p last apart = both-true true _ refl (grants-alone ms (after_mark (marks.Dropped target cause) p) last apart)

-- marks of turns grant nothing, and an answer with flushes neither
of-last : (name : QueueId) (sends : WorkQueue PostedSend) (ended : Option Key) (ms : List Mark) → AreOf name sends ended ms → GrantsLast ms
of-last name sends ended [] all = record {}
of-last name sends ended (marks.Verb consumer verb answer ∷ ms) all = absurd all.0
of-last name sends ended (marks.Granted g ∷ ms) all = absurd all.0
of-last name sends ended (marks.Revoked adapter key ∷ ms) all = of-last name sends ended ms all.1
of-last name sends ended (marks.Sent source target index request bytes ∷ ms) all = of-last name sends ended ms all.1
of-last name sends ended (marks.Lost target index ∷ ms) all = of-last name sends ended ms all.1
of-last name sends ended (marks.Arrived target index ∷ ms) all = of-last name sends ended ms all.1
of-last name sends ended (marks.Timer queue silent ∷ ms) all = of-last name sends ended ms all.1
of-last name sends ended (marks.Done queue x cause ∷ ms) all = of-last name sends ended ms all.1
of-last name sends ended (marks.Stored place bytes ∷ ms) all = of-last name sends ended ms all.1
of-last name sends ended (marks.Remote queue domain envelope k kind address count verdict ∷ ms) all = of-last name sends ended ms all.1
of-last name sends ended (marks.Local queue domain k kind address count verdict ∷ ms) all = of-last name sends ended ms all.1
of-last name sends ended (marks.Dropped target cause ∷ ms) all = of-last name sends ended ms all.1

flushes-last : (ms : List Mark) → AreFlushes ms → GrantsLast ms
flushes-last [] all = record {}
flushes-last (marks.Done queue x cause ∷ ms) all = flushes-last ms all.1
flushes-last (marks.Verb consumer verb answer ∷ ms) all = absurd all
flushes-last (marks.Granted g ∷ ms) all = absurd all
flushes-last (marks.Revoked adapter key ∷ ms) all = absurd all
flushes-last (marks.Sent source target index request bytes ∷ ms) all = absurd all
flushes-last (marks.Lost target index ∷ ms) all = absurd all
flushes-last (marks.Arrived target index ∷ ms) all = absurd all
flushes-last (marks.Timer queue silent ∷ ms) all = absurd all
flushes-last (marks.Stored place bytes ∷ ms) all = absurd all
flushes-last (marks.Remote queue domain envelope k kind address count verdict ∷ ms) all = absurd all
flushes-last (marks.Local queue domain k kind address count verdict ∷ ms) all = absurd all
flushes-last (marks.Dropped target cause ∷ ms) all = absurd all

answered-last : (ms : List Mark) → AreAnswered ms → GrantsLast ms
answered-last [] all = absurd all
answered-last (marks.Verb consumer verb answer ∷ ms) all = flushes-last ms all.1
answered-last (marks.Done queue x cause ∷ ms) all = absurd all
answered-last (marks.Granted g ∷ ms) all = absurd all
answered-last (marks.Revoked adapter key ∷ ms) all = absurd all
answered-last (marks.Sent source target index request bytes ∷ ms) all = absurd all
answered-last (marks.Lost target index ∷ ms) all = absurd all
answered-last (marks.Arrived target index ∷ ms) all = absurd all
answered-last (marks.Timer queue silent ∷ ms) all = absurd all
answered-last (marks.Stored place bytes ∷ ms) all = absurd all
answered-last (marks.Remote queue domain envelope k kind address count verdict ∷ ms) all = absurd all
answered-last (marks.Local queue domain k kind address count verdict ∷ ms) all = absurd all
answered-last (marks.Dropped target cause ∷ ms) all = absurd all

-- ---- events

abbrev Last : World → List Mark → Type 0
Last v ms = GrantsLast ms

last-respond : (c : Configuration) (w : World) (name : QueueId) (lot : Lot) → IsSoundWorld c w → Leads w Last (respond_plan c name lot)
last-respond c w name lot sound = leads-queue c w Last name reasons.State (λ q. With_around q (λ a. Respond_around c lot q a q.peer))
    (λ q is. leads-around w Last q (λ a. Respond_around c lot q a q.peer) (by q q.peer))
  where
    by : (q : QueuePair) → (peer : Option Correspondent) → Leads w Last (Respond_around c lot q (around_in w q (shared_of w q)) peer)
    by q None = leads-unless w Last (respond_refusals true q) Stuck (Stuck reasons.Empty) (λ r. record {}) (record {})
    by q (Some peer) = leads-goes c w Last q (respond_row (has_room_for q peer (w.mailbox peer.queue)) q) (Leave_plan q (around_in w q (shared_of w q)) peer (w.mailbox peer.queue) lot)
        (respond-goes (has_room_for q peer (w.mailbox peer.queue)) q)
        (λ e i ws goes is. of-last q.queue q.sends (option_map (λ i. i.key) i) (e.marks ++ option_map_or (sent_marks q peer (w.mailbox peer.queue) lot) (packet_sent e) [])
        (of-append q.queue q.sends (option_map (λ i. i.key) i) e.marks (option_map_or (sent_marks q peer (w.mailbox peer.queue) lot) (packet_sent e) [])
        (tells q.queue q.sends (option_map (λ i. i.key) i) e.marks goes.marks).marks (sent-of q.queue q.sends (option_map (λ i. i.key) i) q peer (w.mailbox peer.queue) lot (packet_sent e))))

last-timeout : (c : Configuration) (w : World) (name : QueueId) (hasten : Bool) → Leads w Last (timeout_plan c name hasten)
last-timeout c w name hasten = leads-queue c w Last name reasons.State (λ q. Look (Mailbox_of name) (λ own. With_around q (λ a. Timeout_around hasten q own a q.peer)))
    (λ q is. leads-around w Last q (λ a. Timeout_around hasten q (w.mailbox name) a q.peer) (by q q.peer))
  where
    fire : (q : QueuePair) (silent : Bool) → Leads w Last (Fire hasten q (around_in w q (shared_of w q)) silent)
    fire q silent = leads-unless w Last (timeout_refusals silent hasten q) Stuck
        (Finish (updates_of q (around_in w q (shared_of w q)) (after_timeout silent q)) [] (after_timeout silent q).marks) (λ r. record {})
        (of-last q.queue q.sends None _ (keyless-of q.queue q.sends None _ (timeout-goes silent q).marks))

    by : (q : QueuePair) (peer : Option Correspondent) → Leads w Last (Timeout_around hasten q (w.mailbox name) (around_in w q (shared_of w q)) peer)
    by q None = leads-unless w Last (timeout_refusals false hasten q) Stuck (Stuck reasons.Empty) (λ r. record {}) (record {})
    by q (Some peer) = fire q _

last-deliver : (c : Configuration) (w : World) (name : QueueId) (index : ℕ) → IsSoundWorld c w → IsSteadyWorld w → Leads w Last (deliver_plan c name index)
last-deliver c w name index sound steady = (λ has. lent (bytes_lent index (w.mailbox name)), λ none. record {})
  where
    m : Mailbox
    m = w.mailbox name

    at : List ℕ → QueueSlot → Plan
    at bytes (NoQueue incarnation timers) = Stuck reasons.NotKept
    at bytes (Present q) = Arrive c q bytes (Some index) ((Mailbox_of name := after_delivery index m) ∷ []) []

    under_way : Option (List ℕ) → Plan
    under_way None = Stuck reasons.NotKept
    under_way (Some bytes) = Look (Queue_of name) (at bytes)

    there : (bytes : List ℕ) (s : QueueSlot) → w.queue name ≡ s → Leads w Last (at bytes s)
    there bytes (NoQueue incarnation timers) is = record {}
    there bytes (Present q) is = effects-arrive c w Last q bytes (Some index) ((Mailbox_of name := after_delivery index m) ∷ []) [] steady (found c w name q sound is)
        (λ v ended ns quiet told. of-last q.queue q.sends ended ns told.marks)

    lent : (o : Option (List ℕ)) → Leads w Last (under_way o)
    lent None = record {}
    lent (Some bytes) = there bytes (w.queue name) refl

last-wake : (c : Configuration) (w : World) (name : QueueId) → Leads w Last (wake_plan c name)
last-wake c w name = leads-queue c w Last name reasons.State (λ q. waking q q.peer) (λ q is. by q q.peer)
  where
    wakes : QueuePair → Bool → Plan
    wakes q empty = unless_refused (wake_refusals empty q) Stuck (Finish ((Queue_of q.queue := Present (after_wake q).queue) ∷ []) [] (after_wake q).marks)

    waking : QueuePair → Option Correspondent → Plan
    waking q None = unless_refused (wake_refusals false q) Stuck (Stuck reasons.Empty)
    waking q (Some peer) = Look (Queue_of peer.queue) (λ slot. Look (Mailbox_of peer.queue) (λ m.
        With_receives slot (λ empty. wakes q (reaches_peer q peer m && empty))))

    wake : (q : QueuePair) (empty : Bool) → Leads w Last (wakes q empty)
    wake q empty = leads-unless w Last (wake_refusals empty q) Stuck (Finish ((Queue_of q.queue := Present (after_wake q).queue) ∷ []) [] (after_wake q).marks) (λ r. record {}) (record {})

    receives : (slot : QueueSlot) (k : Bool → Plan) → ((b : Bool) → Leads w Last (k b)) → Leads w Last (With_receives slot k)
    receives slot k more = search rules

    by : (q : QueuePair) (peer : Option Correspondent) → Leads w Last (waking q peer)
    by q None = leads-unless w Last (wake_refusals false q) Stuck (Stuck reasons.Empty) (λ r. record {}) (record {})
    by q (Some peer) = receives (w.queue peer.queue) (λ empty. wakes q (reaches_peer q peer (w.mailbox peer.queue) && empty)) (λ empty. wake q _)

last-request : (c : Configuration) (w : World) (name : QueueId) (lot : Lot) → IsSoundWorld c w → IsSteadyWorld w → Leads w Last (request_plan c name lot)
last-request c w name lot sound steady = leads-queue c w Last name reasons.State (λ q. With_around q (λ a. Request_around c lot q a q.peer (turn_of q)))
    (λ q is. leads-around w Last q (λ a. Request_around c lot q a q.peer (turn_of q)) (by q (found c w name q sound is) q.peer (turn_of q) refl))
  where
    local-last : (q : QueuePair) (n : Numbered) (k : Option Key) (g : Option Grant) (b : Bool) → GrantsLast ((option_map_or (λ key. marks.Revoked q.queue.adapter key ∷ []) k [] ++ option_map_or (λ g. marks.Granted g ∷ []) g [])
        ++ (if b then success_marks q.queue n.place (record n.request { signalled = true }) else []))
    local-last q n None None true = record {}
    local-last q n None None false = record {}
    local-last q n None (Some g) true = (record {}, record {})
    local-last q n None (Some g) false = record {}
    local-last q n (Some k) None true = record {}
    local-last q n (Some k) None false = record {}
    local-last q n (Some k) (Some g) true = (record {}, record {})
    local-last q n (Some k) (Some g) false = record {}

    ends : (q : QueuePair) (n : Numbered) (after : QueuePair) (m : LocalMarks) (refusal : Option OpRefusal) → GrantsLast (operation_effects q n after m refusal).marks
    ends q n after m None = local-last q n m.revoked m.granted n.request.signalled
    ends q n after m (Some cause) = of-last q.queue q.sends None _ (keyless-of q.queue q.sends None _ (failure-goes MemoryManagement (Some cause) q refl).marks)

    by : (q : QueuePair) → IsThere w q → (peer : Option Correspondent) (turn : RequestTurn) → turn_of q ≡ turn → Leads w Last (Request_around c lot q (around_in w q (shared_of w q)) peer turn)
    by q there peer (Waits reason) is = record {}
    by q there peer (Performs n) is = leads-perform (λ key. Unit {0}) c w Last q n (λ e changes writes. Finish (updates_of q (around_in w q (shared_of w q)) e ++ changes) writes e.marks) n.request.op
        (performs q n (there-kept w q steady there) there.sound.requester.begun is).local (any-such c w q n.request.op) (λ after m refusal cs like revokes gone kept. ends q n after m refusal)
    by q there None (Sends n) is = record {}
    by q there (Some peer) (Sends n) is = leads-ends c w Last (λ ended. IsSentPacket q peer m lot) (packet_row q (has_room_for q peer m) n) (Leave_plan q (around_in w q (shared_of w q)) peer m lot) packets.denied packets.allowed
        (λ e i ws sent more. of-last q.queue q.sends None (e.marks ++ option_map_or (sent_marks q peer m lot) (packet_sent e) [])
        (of-append q.queue q.sends None e.marks (option_map_or (sent_marks q peer m lot) (packet_sent e) []) (keyless-of q.queue q.sends None e.marks sent.keyless) (sent-of q.queue q.sends None q peer m lot (packet_sent e))))
      where
        m : Mailbox
        m = w.mailbox peer.queue

        packets : RowDoes (IsSentPacket q peer m lot) (packet_row q (has_room_for q peer m) n)
        packets = packet-sent q peer m lot (has_room_for q peer m) n (packet-is q peer m lot (has_room_for q peer m) n (there-kept w q steady there) there.sound.requester.begun is)

last-inject : (c : Configuration) (w : World) (by : ℕ) (q : QueueId) (bytes : List ℕ) → IsSoundWorld c w → IsSteadyWorld w → Leads w Last (inject_plan c (call_of by (verbs.Inject q bytes)) q bytes)
last-inject c w by q bytes sound steady = at (w.queue q) refl
  where
    call : Call
    call = call_of by (verbs.Inject q bytes)

    arrives : QueueSlot → Plan
    arrives (NoQueue incarnation timers) = Refuse_plan call NoSuch
    arrives (Present p) = Arrive c p bytes None [] (answer_mark call answers.Fine ∷ [])

    at : (s : QueueSlot) → w.queue q ≡ s → Leads w Last (arrives s)
    at (NoQueue incarnation timers) is = record {}
    at (Present p) is = effects-arrive c w Last p bytes None [] (answer_mark call answers.Fine ∷ []) steady (found c w q p sound is) (λ v ended ns quiet told. of-last p.queue p.sends ended ns told.marks)

last-dereg_mr : (w : World) (by : ℕ) (s : Slot) → Leads w Last (dereg_mr_plan (call_of by (verbs.DeregMr s)) s)
last-dereg_mr w by s = leads-unless w Last (of_region_refusals (deregistration_refusals (w.region s))) (Refuse_plan (call_of by (verbs.DeregMr s)))
    (Answer_plan (call_of by (verbs.DeregMr s)) answers.Fine ((Domain_of s.domain := without_object (w.domain s.domain)) ∷ (Region_of s := after_deregistration (w.region s)) ∷ [])
    (option_map_or (λ g. marks.Revoked s.domain.adapter g.key ∷ []) (grant_of_region (w.region s)) [])) (λ r. record {}) (told (grant_of_region (w.region s)))
  where
    told : (o : Option Grant) → GrantsLast (option_map_or (λ g. marks.Revoked s.domain.adapter g.key ∷ []) o [])
    told None = record {}
    told (Some g) = record {}

last-quiet : (c : Configuration) (w : World) (by : ℕ) (verb : Verb) → IsQuietVerb verb → Leads w Last (verb_plan c (call_of by verb) verb)
last-quiet c w by verb quiet = leads-weaker w (Answers (call_of by verb)) Last (verb_plan c (call_of by verb) verb) (λ v ms all. answered-last ms all) (quiet-verb c w by verb quiet)

last-verb : (c : Configuration) (w : World) (by : ℕ) (verb : Verb) → IsSoundWorld c w → IsSteadyWorld w → Leads w Last (verb_plan c (call_of by verb) verb)
last-verb c w by (verbs.RegMr slot buffer offset count rights) sound steady = search rules
last-verb c w by (verbs.DeregMr slot) sound steady = last-dereg_mr w by slot
last-verb c w by (verbs.DeallocMw slot) sound steady = search rules
last-verb c w by (verbs.Store adapter buffer offset bytes) sound steady = search rules
last-verb c w by (verbs.Inject queue bytes) sound steady = last-inject c w by queue bytes sound steady
last-verb c w by (verbs.AllocPd domain) sound steady = last-quiet c w by (verbs.AllocPd domain) (record {})
last-verb c w by (verbs.DeallocPd domain) sound steady = last-quiet c w by (verbs.DeallocPd domain) (record {})
last-verb c w by (verbs.AllocMr slot pages) sound steady = last-quiet c w by (verbs.AllocMr slot pages) (record {})
last-verb c w by (verbs.AllocMw slot kind) sound steady = last-quiet c w by (verbs.AllocMw slot kind) (record {})
last-verb c w by (verbs.CreateCq slot capacity) sound steady = last-quiet c w by (verbs.CreateCq slot capacity) (record {})
last-verb c w by (verbs.DestroyCq slot) sound steady = last-quiet c w by (verbs.DestroyCq slot) (record {})
last-verb c w by (verbs.CreateSrq slot depth) sound steady = last-quiet c w by (verbs.CreateSrq slot depth) (record {})
last-verb c w by (verbs.DestroySrq slot) sound steady = last-quiet c w by (verbs.DestroySrq slot) (record {})
last-verb c w by (verbs.CreateQp slot send_cq recv_cq send_depth recv_depth srq) sound steady = last-quiet c w by (verbs.CreateQp slot send_cq recv_cq send_depth recv_depth srq) (record {})
last-verb c w by (verbs.ModifyQp slot change) sound steady = last-quiet c w by (verbs.ModifyQp slot change) (record {})
last-verb c w by (verbs.QueryQp slot) sound steady = last-quiet c w by (verbs.QueryQp slot) (record {})
last-verb c w by (verbs.DestroyQp slot) sound steady = last-quiet c w by (verbs.DestroyQp slot) (record {})
last-verb c w by (verbs.PostSend slot request) sound steady = last-quiet c w by (verbs.PostSend slot request) (record {})
last-verb c w by (verbs.PostRecv slot request) sound steady = last-quiet c w by (verbs.PostRecv slot request) (record {})
last-verb c w by (verbs.PostSrq slot request) sound steady = last-quiet c w by (verbs.PostSrq slot request) (record {})
last-verb c w by (verbs.Poll slot n least) sound steady = last-quiet c w by (verbs.Poll slot n least) (record {})
last-verb c w by (verbs.Load adapter buffer offset count) sound steady = last-quiet c w by (verbs.Load adapter buffer offset count) (record {})

last-event : (c : Configuration) (w : World) (event : Event) → IsSoundWorld c w → IsSteadyWorld w → Leads w Last (plan c event)
last-event c w (events.Verb by verb) sound steady = (λ named. last-verb c w by verb sound steady, λ none. record {})
last-event c w (events.Request queue lot) sound steady = last-request c w queue lot sound steady
last-event c w (events.Deliver queue index) sound steady = last-deliver c w queue index sound steady
last-event c w (events.Respond queue lot) sound steady = last-respond c w queue lot sound
last-event c w (events.Timeout queue hasten) sound steady = last-timeout c w queue hasten
last-event c w (events.RnrWake queue) sound steady = last-wake c w queue

along : (c : Configuration) (n : ℕ) (es : List EntryValue) (past : Past) (w : World) → AllByRecursion (λ e. CanBeMade e.event) es → IsUp c past w → IsSteadyWorld w
    → run_from c n w (map (λ e. e.event) es) ≡ Ok (map (λ e. e.marks) es) → each_entry is_granted_alone (λ past. true) past es ≡ true
along c n [] past w made up steady follows = refl
along c n (e ∷ es) past w made up steady follows =
    by (step c w e.event) (comes w Last (plan c e.event) (last-event c w e.event up.sound steady)) (event-keys-agree c past w e.event up.limited up.sound up.placed up.bound up.agree)
    (event-sound c e.event w up.limited up.sound made.0) (event-steady c e.event w up.sound steady) (event-placed c e.event w up.limited up.sound up.placed) (event-bound c e.event w up.sound up.bound) follows
    (λ v next calm told. along c (suc n) es (after_entry e past) v made.1 next calm told)
  where
    Rest : Type 0
    Rest = (v : World) → IsUp c (after_entry e past) v → IsSteadyWorld v → run_from c (suc n) v (map (λ e. e.event) es) ≡ Ok (map (λ e. e.marks) es) → each_entry is_granted_alone (λ past. true) (after_entry e past) es ≡ true

    stopped : Ran → Bool
    stopped (Ok told) = false
    stopped (Err stop) = true

    same : (v : World) → KeysAgree (after_marks e.marks (at_begin e.event past)) v → KeysAgree (after_entry e past) v
    same v agree = agree

    by : (o : Outcome) → Comes Last o → Comes (λ v ms. KeysAgree (after_marks ms (at_begin e.event past)) v) o → Afterwards (IsSoundWorld c) o → Afterwards IsSteadyWorld o → Afterwards (IsPlacedWorld c) o
        → Afterwards IsBoundWorld o → go_on n o (λ v. run_from c (suc n) v (map (λ e. e.event) es)) ≡ Ok (e.marks ∷ map (λ e. e.marks) es) → Rest
        → each_entry is_granted_alone (λ past. true) past (e ∷ es) ≡ true
    by (NotReady reason) last keys sound steady placed bound follows rest = absurd (true≢false (ap stopped follows))
    by (Did v ms) last keys sound steady placed bound follows rest = at (first-marks ms e.marks (run_from c (suc n) v (map (λ e. e.event) es)) (map (λ e. e.marks) es) follows)
      where
        at : (ms ≡ e.marks) × (run_from c (suc n) v (map (λ e. e.event) es) ≡ Ok (map (λ e. e.marks) es)) → each_entry is_granted_alone (λ past. true) past (e ∷ es) ≡ true
        at told = both-true _ _ (both-true _ true (subst (λ xs. each_mark is_granted_alone (at_begin e.event past) xs ≡ true) told.0 (grants-alone ms (at_begin e.event past) last keys.keys.apart)) refl)
            (rest v (record { limited = up.limited; sound = sound; placed = placed; bound = bound; agree = same v (subst (λ xs. KeysAgree (after_marks xs (at_begin e.event past)) v) told.0 keys) }) steady told.1)

pub alone-along : (c : Configuration) (bytes : ByteMap) (es : List EntryValue) → AreLimited c → AllByRecursion (λ e. CanBeMade e.event) es → Follows c bytes es → AreAlone bytes es
alone-along c bytes es limited made follows = along c 0 es (opening_past bytes) (opening_world bytes) made
    (record { limited = limited; sound = opening-sound c bytes; placed = opening-placed c bytes; bound = opening-bound bytes; agree = opening-keys-agree bytes }) (opening-steady bytes) follows
