-- Every event has its effects as it ends, and so has every history that follows the machine. For proofs only.
use Rattle.std.proofs.Common.{◌≡◌, ℕ, ◌<◌, ◌==◌, ◌&&◌, ◌||◌, Bool, true, false, not, if◌then◌else◌, List, [], ◌∷◌, ◌++◌, Option, None, Some, IfSome, is_some, refl, sym, ap, ap₂, subst, ◌∙◌, arith, rules, true≢false}
use Rattle.std.proofs.lemmas.Bool.{eq-eqb}
use Rattle.std.proofs.lemmas.Bool.Decides.{nat_tests}
use Rattle.std.proofs.lemmas.Option.{same_Some}
use Rattle.std.specs.List.{AllByRecursion, list_all}
use Rattle.std.specs.Option.{option_and_then, option_map, option_map_or}
use Rattle.ca_law_endings.proofs.LeadsLemmas.{leads-around, leads-queue, leads-unless, leads-weaker}
use Rattle.ca_law_endings.proofs.PathChangeLemmas.{Behind}
use Rattle.ca_law_endings.proofs.PathLemmas.{marks-append}
use Rattle.ca_law_endings.proofs.PathVerbLemmas.{call_of}
use Rattle.ca_law_endings.specs.Runs.{Leads}
use Rattle.ca_law_keys.proofs.Keys.ChangeLemmas.{at-region-slot, at-window-slot}
use Rattle.ca_law_keys.proofs.Keys.KeyTurnLemmas.{found}
use Rattle.ca_law_keys.proofs.Keys.KeyFrame.{IsUp}
use Rattle.ca_law_keys.proofs.Keys.SightLemmas.{over}
use Rattle.ca_law_keys.specs.InForce.{grant_in_force, grant_over_regions}
use Rattle.ca_law_keys.proofs.Posts.GoingLemmas.{arrival-goes, respond-goes, timeout-goes}
use Rattle.ca_law_keys.proofs.Posts.PostLemmas.{AreNoAnswers, answers-append, keyless-no, leads-goes, no-answers, tells-no}
use Rattle.ca_law_keys.proofs.Posts.PostFrame.{IsNoRequest, SamePosts, same-posts}
use Rattle.ca_law_keys.proofs.Posts.PostTurnLemmas.{sent-quiet}
use Rattle.ca_law_keys.proofs.Posts.PostMade.{IsPosted}
use Rattle.ca_law_keys.specs.Posts.{PostsAgree}
use Rattle.ca_base.specs.Configuration.{Configuration}
use Rattle.ca_base.specs.declared.completion.Completion.{Completion}
use Rattle.ca_base.specs.declared.correspondent.Correspondent.{Correspondent}
use Rattle.ca_base.specs.declared.lot.Lot.{Lot}
use Rattle.ca_base.specs.declared.request.PostedSend.{PostedSend}
use Rattle.ca_base.specs.declared.step.Reason.TheVariants as reasons
use Rattle.ca_base.specs.objects.Mailbox.{Mailbox, after_delivery, bytes_lent, is_lost}
use Rattle.ca_base.specs.objects.QueuePair.{QueuePair, QueueSlot, NoQueue, Present}
use Rattle.ca_base.specs.objects.WorkQueue.{WorkQueue}
use Rattle.ca_grant.specs.KeySlot.{HaveSlotsApart, is_at_slot_of}
use Rattle.ca_keys.specs.declared.grant.Grant.{Grant}
use Rattle.ca_keys.specs.declared.key.Key.{Key}
use Rattle.ca_keys.specs.declared.names.QueueId.{QueueId}
use Rattle.ca_keys.specs.declared.names.Slot.{Slot}
use Rattle.ca_law_world.proofs.Sound.WorldLemmas.{IsThere, around_in, shared_of}
use Rattle.ca_law_world.proofs.Steady.TurnLemmas.{there-kept}
use Rattle.ca_law_world.specs.Steady.{IsSteadyWorld}
use Rattle.ca_law_keys.proofs.Licensed.AnswerLemmas.{Answers, AreAnswered, AreFlushes, IsFlush, quiet-verb, refused-fine, IsQuietVerb}
use Rattle.ca_law_keys.proofs.Posts.GrantLemmas.{both-true, key-refl}
use Rattle.ca_law_keys.proofs.Licensed.EffectLemmas.{AreOf, IsLeft, Tells, all-effective, effective, keyless-of, left-by, not-performed, of-append, tells, all-more}
use Rattle.ca_model.specs.Licensed.{completion_is_effective, grants_by_performing, is_effective, operation_is_effective, is_effective_at_end, is_of_slot, was_revoked, invalidation_is_effective}
use Rattle.ca_model.specs.Past.{KeySlot, Past, after_mark, after_marks, at_begin, key_slot_eq, key_slot_of, operation_performed, region_key_slot, window_key_slot, after_verb, posted_at}
use Rattle.ca_model.specs.declared.answer.Answer.TheVariants as answers
use Rattle.ca_model.specs.declared.answer.Refusal.TheVariants.{NoSuch, NoDomain, SlotTaken}
use Rattle.ca_model.specs.declared.event.Event.{Event}
use Rattle.ca_model.specs.declared.event.Event.TheVariants as events
use Rattle.ca_model.specs.declared.mark.Mark.{Mark}
use Rattle.ca_model.specs.declared.mark.Mark.TheVariants as marks
use Rattle.ca_model.specs.declared.verb.Verb.{Verb}
use Rattle.ca_model.specs.declared.verb.Verb.TheVariants as verbs
use Rattle.ca_model.specs.machine.Around.{Around, With_around, shared_in, updates_of}
use Rattle.ca_model.specs.machine.Delivery.{Arrive, arrival_row, deliver_plan}
use Rattle.ca_model.specs.machine.HostVerbs.{inject_plan}
use Rattle.ca_model.specs.machine.Plan.{Plan, Stuck, Look, Finish, Update, ◌:=◌, Write, unless_refused}
use Rattle.ca_model.specs.machine.Respond.{respond_refusals, respond_row}
use Rattle.ca_model.specs.machine.Row.{Effects, Row_plan, grant_over, region_under}
use Rattle.ca_model.specs.machine.Step.{verb_plan}
use Rattle.ca_model.specs.machine.Timers.{after_timeout, after_wake, timeout_refusals, wake_refusals}
use Rattle.ca_model.specs.machine.Turns.{Fire, Leave_plan, Packet, Respond_around, Timeout_around, With_receives, has_room_for, packet_sent, reaches_peer, respond_plan, sent_marks, timeout_plan, wake_plan}
use Rattle.ca_model.specs.machine.VerbAnswers.{Call, Refuse_plan, answer_mark, Answer_plan, of_region_refusals}
use Rattle.ca_model.specs.machine.World.{Mailbox_of, Queue_of, World, Domain_of, Region_of, Window_of}
use Rattle.ca_model.specs.declared.answer.Refusal.{Refusal}
use Rattle.ca_keys.specs.declared.place.Run.{Run}
use Rattle.ca_keys.specs.declared.rights.Rights.{Rights}
use Rattle.ca_model.specs.machine.RegionVerbs.{dereg_mr_plan, reg_mr_plan}
use Rattle.ca_model.specs.machine.WindowVerbs.{With_binder, dealloc_mw_plan, queue_updates}
use Rattle.ca_base.specs.Grants.{grant_of_registration, next_low, registration_refusals}
use Rattle.ca_base.specs.objects.Region.{Region, after_deregistration, after_registration, deregistration_refusals, grant_of_region, is_vacant_region, with_window_unbound}
use Rattle.ca_base.specs.objects.Window.{Binding, Window, after_deallocation, grant_of_binding, key_of_window}
use Rattle.ca_base.specs.objects.Domain.{with_object, without_object}
use Rattle.ca_keys.specs.Equal.{key_eq}
use Rattle.ca_keys.specs.Numbers.{region_index, window_index}

-- what an event that ends so has of effects
abbrev pub Effective : Past → Event → World → List Mark → Type 0
Effective past event v ms = is_effective_at_end (after_marks ms (at_begin event past)) ≡ true

-- ---- turns but those of a requester

-- marks of a row, and those that follow them
tells-then : (name : QueueId) (sends : WorkQueue PostedSend) (ended : Option Key) (ms ns : List Mark) → Tells name sends ended ms → AreOf name sends ended ns → Tells name sends ended (ms ++ ns)
tells-then name sends ended ms ns one other = record {
  marks = of-append name sends ended ms ns one.marks other;
  gone = λ p. subst (λ r. IfSome ended (λ key. was_revoked r name.adapter key ≡ true)) (sym (marks-append ms ns p)) (by ended refl p);
}
  where
    by : (o : Option Key) → ended ≡ o → (p : Past) → IfSome o (λ key. was_revoked (after_marks ns (after_marks ms p)) name.adapter key ≡ true)
    by None is p = record {}
    by (Some key) is p = (left-by name sends ended ns other (after_marks ms p)).gone name.adapter key (subst (λ o. IfSome o (λ key. was_revoked (after_marks ms p) name.adapter key ≡ true)) is (one.gone p))

-- a turn ends with its effects, where what it found of an answer has them
turn-effective : (w : World) (q : QueuePair) (event : Event) (ended : Option Key) (ms : List Mark) (p : Past) → IsNoRequest event → p.at_hand.event ≡ event → p.at_hand.completed ≡ []
    → ((r : Past) → option_map_or (is_effective r) p.at_hand.answered true ≡ true) → PostsAgree p w → w.queue q.queue ≡ Present q → AreNoAnswers ms → Tells q.queue q.sends ended ms
    → is_effective_at_end (after_marks ms p) ≡ true
turn-effective w q event ended ms p turn begins nothing fine agree is quiet told =
    effective r (ap (λ o. option_map_or (is_effective r) o true) left.answered ∙ fine r)
    (ap (λ o. option_map_or (operation_is_effective r) o true) ended-so.0)
    (all-effective p r w q ended r.at_hand.completed agree is same (told.gone p) (left.completed (subst (AllByRecursion _) (sym nothing) (record {}))))
    ended-so.1
  where
    r : Past
    r = after_marks ms p

    left : IsLeft q.queue q.sends ended p r
    left = left-by q.queue q.sends ended ms told.marks p

    same : SamePosts p r
    same = no-answers ms quiet p p (same-posts p)

    ended-so : (operation_performed r ≡ None) × (grants_by_performing r ≡ true)
    ended-so = not-performed r event turn (same.event ∙ begins)

pub sent-of : (name : QueueId) (sends : WorkQueue PostedSend) (ended : Option Key) (q : QueuePair) (peer : Correspondent) (m : Mailbox) (lot : Lot) (o : Option Packet) → AreOf name sends ended (option_map_or (sent_marks q peer m lot) o [])
sent-of name sends ended q peer m lot None = record {}
sent-of name sends ended q peer m lot (Some x) = by (reaches_peer q peer m) (is_lost lot)
  where
    by : (b z : Bool) → AreOf name sends ended (if b
        then marks.Sent q.queue peer.queue (Some m.next) x.request x.bytes ∷ (if z then marks.Lost peer.queue (Some m.next) ∷ [] else [])
        else marks.Sent q.queue peer.queue None x.request x.bytes ∷ marks.Lost peer.queue None ∷ [])
    by true true = (record {}, (record {}, record {}))
    by true false = (record {}, record {})
    by false z = (record {}, (record {}, record {}))

pub effects-respond : (c : Configuration) (past : Past) (w : World) (name : QueueId) (lot : Lot) → IsPosted c past w → Leads w (Effective past (events.Respond name lot)) (respond_plan c name lot)
effects-respond c past w name lot up = leads-queue c w P name reasons.State (λ q. With_around q (λ a. Respond_around c lot q a q.peer))
    (λ q is. leads-around w P q (λ a. Respond_around c lot q a q.peer) (by q (found c w name q up.sound is) q.peer))
  where
    P : World → List Mark → Type 0
    P = Effective past (events.Respond name lot)

    by : (q : QueuePair) → IsThere w q → (peer : Option Correspondent) → Leads w P (Respond_around c lot q (around_in w q (shared_of w q)) peer)
    by q there None = leads-unless w P (respond_refusals true q) Stuck (Stuck reasons.Empty) (λ r. record {}) (record {})
    by q there (Some peer) = leads-goes c w P q (respond_row (has_room_for q peer (w.mailbox peer.queue)) q) (Leave_plan q (around_in w q (shared_of w q)) peer (w.mailbox peer.queue) lot)
        (respond-goes (has_room_for q peer (w.mailbox peer.queue)) q)
        (λ e i ws goes is. turn-effective w q (events.Respond name lot) (option_map (λ i. i.key) i) (e.marks ++ option_map_or (sent_marks q peer (w.mailbox peer.queue) lot) (packet_sent e) [])
        (at_begin (events.Respond name lot) past) (record {}) refl refl (λ r. refl) up.agree there.present
        (answers-append e.marks (option_map_or (sent_marks q peer (w.mailbox peer.queue) lot) (packet_sent e) []) (tells-no q.queue q.sends (option_map (λ i. i.key) i) e.marks goes.marks) (sent-quiet q peer (w.mailbox peer.queue) lot (packet_sent e)))
        (tells-then q.queue q.sends (option_map (λ i. i.key) i) e.marks (option_map_or (sent_marks q peer (w.mailbox peer.queue) lot) (packet_sent e) [])
        (tells q.queue q.sends (option_map (λ i. i.key) i) e.marks goes.marks) (sent-of q.queue q.sends (option_map (λ i. i.key) i) q peer (w.mailbox peer.queue) lot (packet_sent e))))

pub effects-timeout : (c : Configuration) (past : Past) (w : World) (name : QueueId) (hasten : Bool) → IsPosted c past w → Leads w (Effective past (events.Timeout name hasten)) (timeout_plan c name hasten)
effects-timeout c past w name hasten up =
    leads-queue c w P name reasons.State (λ q. Look (Mailbox_of name) (λ own. With_around q (λ a. Timeout_around hasten q own a q.peer)))
    (λ q is. leads-around w P q (λ a. Timeout_around hasten q (w.mailbox name) a q.peer) (by q (found c w name q up.sound is) q.peer))
  where
    P : World → List Mark → Type 0
    P = Effective past (events.Timeout name hasten)

    fire : (q : QueuePair) → IsThere w q → (silent : Bool) → Leads w P (Fire hasten q (around_in w q (shared_of w q)) silent)
    fire q there silent = leads-unless w P (timeout_refusals silent hasten q) Stuck
        (Finish (updates_of q (around_in w q (shared_of w q)) (after_timeout silent q)) [] (after_timeout silent q).marks) (λ r. record {})
        (turn-effective w q (events.Timeout name hasten) None (after_timeout silent q).marks (at_begin (events.Timeout name hasten) past) (record {}) refl refl (λ r. refl) up.agree there.present
        (record {}, keyless-no q.queue q.sends None _ (timeout-goes silent q).marks)
        (record { marks = (record {}, keyless-of q.queue q.sends None _ (timeout-goes silent q).marks); gone = λ p. record {} }))

    by : (q : QueuePair) → IsThere w q → (peer : Option Correspondent) → Leads w P (Timeout_around hasten q (w.mailbox name) (around_in w q (shared_of w q)) peer)
    by q there None = leads-unless w P (timeout_refusals false hasten q) Stuck (Stuck reasons.Empty) (λ r. record {}) (record {})
    by q there (Some peer) = fire q there _

-- a packet that arrives, behind marks that come first
pub effects-arrive : (c : Configuration) (w : World) (P : World → List Mark → Type 0) (q : QueuePair) (bytes : List ℕ) (envelope : Option ℕ) (pre : List Update) (ms : List Mark) → IsSteadyWorld w → IsThere w q
    → ((v : World) (ended : Option Key) (ns : List Mark) → AreNoAnswers ns → Tells q.queue q.sends ended ns → P v (ms ++ ns)) → Leads w P (Arrive c q bytes envelope pre ms)
effects-arrive c w P q bytes envelope pre ms steady there more =
    leads-around w P q (λ a. Row_plan c (arrival_row bytes envelope (shared_in a) q) (finish a))
    (leads-goes c w P q (arrival_row bytes envelope (shared_in a) q) (finish a) (arrival-goes bytes envelope (shared_in a) q (there-kept w q steady there))
    (λ e i ws goes is. more _ (option_map (λ i. i.key) i) (marks.Arrived q.queue envelope ∷ e.marks) (record {}, tells-no q.queue q.sends (option_map (λ i. i.key) i) e.marks goes.marks)
    (behind e (option_map (λ i. i.key) i) (tells q.queue q.sends (option_map (λ i. i.key) i) e.marks goes.marks))))
  where
    a : Around
    a = around_in w q (shared_of w q)

    finish : Around → Effects → List Update → List Write → Plan
    finish a e more writes = Finish (pre ++ (updates_of q a e ++ more)) writes (ms ++ marks.Arrived q.queue envelope ∷ e.marks)

    behind : (e : Effects) (ended : Option Key) → Tells q.queue q.sends ended e.marks → Tells q.queue q.sends ended (marks.Arrived q.queue envelope ∷ e.marks)
    behind e ended told = record { marks = (record {}, told.marks); gone = λ p. told.gone (after_mark (marks.Arrived q.queue envelope) p) }

pub effects-deliver : (c : Configuration) (past : Past) (w : World) (name : QueueId) (index : ℕ) → IsPosted c past w → Leads w (Effective past (events.Deliver name index)) (deliver_plan c name index)
effects-deliver c past w name index up = (λ has. lent (bytes_lent index (w.mailbox name)), λ none. record {})
  where
    P : World → List Mark → Type 0
    P = Effective past (events.Deliver name index)

    m : Mailbox
    m = w.mailbox name

    at : List ℕ → QueueSlot → Plan
    at bytes (NoQueue incarnation timers) = Stuck reasons.NotKept
    at bytes (Present q) = Arrive c q bytes (Some index) ((Mailbox_of name := after_delivery index m) ∷ []) []

    under_way : Option (List ℕ) → Plan
    under_way None = Stuck reasons.NotKept
    under_way (Some bytes) = Look (Queue_of name) (at bytes)

    there : (bytes : List ℕ) (s : QueueSlot) → w.queue name ≡ s → Leads w P (at bytes s)
    there bytes (NoQueue incarnation timers) is = record {}
    there bytes (Present q) is = effects-arrive c w P q bytes (Some index) ((Mailbox_of name := after_delivery index m) ∷ []) [] up.steady (found c w name q up.sound is)
        (λ v ended ns quiet told. turn-effective w q (events.Deliver name index) ended ns (at_begin (events.Deliver name index) past) (record {}) refl refl (λ r. refl) up.agree (found c w name q up.sound is).present quiet told)

    lent : (o : Option (List ℕ)) → Leads w P (under_way o)
    lent None = record {}
    lent (Some bytes) = there bytes (w.queue name) refl

pub effects-wake : (c : Configuration) (past : Past) (w : World) (name : QueueId) → Leads w (Effective past (events.RnrWake name)) (wake_plan c name)
effects-wake c past w name = leads-queue c w P name reasons.State (λ q. waking q q.peer) (λ q is. by q q.peer)
  where
    P : World → List Mark → Type 0
    P = Effective past (events.RnrWake name)

    wakes : QueuePair → Bool → Plan
    wakes q empty = unless_refused (wake_refusals empty q) Stuck (Finish ((Queue_of q.queue := Present (after_wake q).queue) ∷ []) [] (after_wake q).marks)

    waking : QueuePair → Option Correspondent → Plan
    waking q None = unless_refused (wake_refusals false q) Stuck (Stuck reasons.Empty)
    waking q (Some peer) = Look (Queue_of peer.queue) (λ slot. Look (Mailbox_of peer.queue) (λ m.
        With_receives slot (λ empty. wakes q (reaches_peer q peer m && empty))))

    wake : (q : QueuePair) (empty : Bool) → Leads w P (wakes q empty)
    wake q empty = leads-unless w P (wake_refusals empty q) Stuck (Finish ((Queue_of q.queue := Present (after_wake q).queue) ∷ []) [] (after_wake q).marks) (λ r. record {}) refl

    receives : (slot : QueueSlot) (k : Bool → Plan) → ((b : Bool) → Leads w P (k b)) → Leads w P (With_receives slot k)
    receives slot k more = search rules

    by : (q : QueuePair) (peer : Option Correspondent) → Leads w P (waking q peer)
    by q None = leads-unless w P (wake_refusals false q) Stuck (Stuck reasons.Empty) (λ r. record {}) (record {})
    by q (Some peer) = receives (w.queue peer.queue) (λ empty. wakes q (reaches_peer q peer (w.mailbox peer.queue) && empty)) (λ empty. wake q _)

-- ---- verbs

-- what flushes leave
record IsFlushed (p r : Past) : Type 0 where
  answered : r.at_hand.answered ≡ p.at_hand.answered
  event : r.at_hand.event ≡ p.at_hand.event
  completed : AllByRecursion IsFlush p.at_hand.completed → AllByRecursion IsFlush r.at_hand.completed

flushed-left : (ms : List Mark) → AreFlushes ms → (p r : Past) → IsFlushed p r → IsFlushed p (after_marks ms r)
flushed-left [] all p r left = left
flushed-left (marks.Done queue x cause ∷ ms) all p r left = flushed-left ms all.1 p (after_mark (marks.Done queue x cause) r)
    (record { answered = left.answered; event = left.event; completed = λ was. all-more IsFlush r.at_hand.completed x (left.completed was) all.0 })
flushed-left (marks.Verb consumer verb answer ∷ ms) all p r left = absurd all
flushed-left (marks.Granted g ∷ ms) all p r left = absurd all
flushed-left (marks.Revoked adapter key ∷ ms) all p r left = absurd all
flushed-left (marks.Stored place bytes ∷ ms) all p r left = absurd all
flushed-left (marks.Remote queue domain envelope key kind address count verdict ∷ ms) all p r left = absurd all
flushed-left (marks.Local queue domain key kind address count verdict ∷ ms) all p r left = absurd all
flushed-left (marks.Sent source target index request bytes ∷ ms) all p r left = absurd all
flushed-left (marks.Lost target index ∷ ms) all p r left = absurd all
flushed-left (marks.Arrived target index ∷ ms) all p r left = absurd all
flushed-left (marks.Dropped target cause ∷ ms) all p r left = absurd all
flushed-left (marks.Timer queue silently ∷ ms) all p r left = absurd all

flush-effective : (r : Past) (xs : List Completion) → AllByRecursion IsFlush xs → list_all (completion_is_effective r) xs ≡ true
flush-effective r [] all = refl
flush-effective r (x ∷ xs) all = both-true _ _
    (both-true _ _ (ap (λ o. option_map_or (was_revoked r x.queue.adapter) o true) all.0.0)
    (ap (λ b. not b || option_map_or (λ p. invalidation_is_effective r x.queue.adapter p.request.op) (posted_at r x.queue x.place) true) all.0.1))
    (flush-effective r xs all.1)

-- an answer that asks for no effect, and flushes
answered-effective : (past : Past) (by : ℕ) (verb : Verb) (v : World) (ms : List Mark) → AreAnswered ms → Effective past (events.Verb by verb) v ms
answered-effective past by verb v [] all = absurd all
answered-effective past by verb v (marks.Verb consumer asked answer ∷ ms) all =
    effective r (ap (λ o. option_map_or (is_effective r) o true) (left.answered ∙ ap (λ h. h.answered) hand) ∙ (all.0 r).0)
    (ap (λ o. option_map_or (operation_is_effective r) o true) ended-so.0)
    (flush-effective r r.at_hand.completed (left.completed (subst (AllByRecursion IsFlush) (sym (ap (λ h. h.completed) hand)) (record {})))) ended-so.1
  where
    start : Past
    start = at_begin (events.Verb by verb) past

    told : Past
    told = record start { at_hand = record start.at_hand { answered = Some (record { verb = asked; answer = answer }) } }

    p : Past
    p = after_verb asked answer told

    r : Past
    r = after_marks ms p

    hand : p.at_hand ≡ told.at_hand
    hand = (all.0 told).1

    left : IsFlushed p r
    left = flushed-left ms all.1 p p (record { answered = refl; event = refl; completed = λ was. was })

    ended-so : (operation_performed r ≡ None) × (grants_by_performing r ≡ true)
    ended-so = not-performed r (events.Verb by verb) (record {}) (left.event ∙ ap (λ h. h.event) hand)
answered-effective past by verb v (marks.Granted g ∷ ms) all = absurd all
answered-effective past by verb v (marks.Revoked adapter key ∷ ms) all = absurd all
answered-effective past by verb v (marks.Stored place bytes ∷ ms) all = absurd all
answered-effective past by verb v (marks.Remote queue domain envelope key kind address count verdict ∷ ms) all = absurd all
answered-effective past by verb v (marks.Local queue domain key kind address count verdict ∷ ms) all = absurd all
answered-effective past by verb v (marks.Sent source target index request bytes ∷ ms) all = absurd all
answered-effective past by verb v (marks.Lost target index ∷ ms) all = absurd all
answered-effective past by verb v (marks.Arrived target index ∷ ms) all = absurd all
answered-effective past by verb v (marks.Dropped target cause ∷ ms) all = absurd all
answered-effective past by verb v (marks.Timer queue silently ∷ ms) all = absurd all
answered-effective past by verb v (marks.Done queue x cause ∷ ms) all = absurd all

pub effects-refused : (past : Past) (w : World) (by : ℕ) (verb : Verb) → Leads w (Effective past (events.Verb by verb)) (Refuse_plan (call_of by verb) NoSuch)
effects-refused past w by verb = answered-effective past by verb w (marks.Verb by verb (answers.Refused NoSuch) ∷ []) (refused-fine verb NoSuch, record {})

effects-refuses : (past : Past) (w : World) (by : ℕ) (verb : Verb) (r : Refusal) → Leads w (Effective past (events.Verb by verb)) (Refuse_plan (call_of by verb) r)
effects-refuses past w by verb r = answered-effective past by verb w (marks.Verb by verb (answers.Refused r) ∷ []) (refused-fine verb r, record {})

pub effects-quiet : (c : Configuration) (past : Past) (w : World) (by : ℕ) (verb : Verb) → IsQuietVerb verb → Leads w (Effective past (events.Verb by verb)) (verb_plan c (call_of by verb) verb)
effects-quiet c past w by verb quiet = leads-weaker w (Answers (call_of by verb)) (Effective past (events.Verb by verb)) (verb_plan c (call_of by verb) verb)
    (λ v ms all. answered-effective past by verb v ms all) (quiet-verb c w by verb quiet)

-- a key that was revoked just now
pub revoked-here : (adapter : ℕ) (key other : Key) → key ≡ other → (((adapter == adapter) && key_eq key other) || false) ≡ true
revoked-here adapter key other same = ap₂ (λ a b. (a && b) || false) (eq-eqb adapter adapter refl) (ap (λ x. key_eq x other) same ∙ key-refl other)

-- a registration grants its key
pub effects-reg_mr : (past : Past) (w : World) (by : ℕ) (s : Slot) (buffer offset count bytes : ℕ) (at : Run) (rights : Rights)
    → Leads w (Effective past (events.Verb by (verbs.RegMr s buffer offset count rights))) (reg_mr_plan (call_of by (verbs.RegMr s buffer offset count rights)) s at bytes rights)
effects-reg_mr past w by s buffer offset count bytes at rights = leads-unless w P ((not (w.domain s.domain).allocated, NoDomain) ∷ (not (is_vacant_region region), SlotTaken) ∷ of_region_refusals (registration_refusals at bytes rights))
    (Refuse_plan call) (Answer_plan call (answers.Key h.key) ((Domain_of s.domain := with_object (w.domain s.domain)) ∷ (Region_of s := after_registration s at rights region) ∷ []) (marks.Granted h ∷ []))
    (effects-refuses past w by (verbs.RegMr s buffer offset count rights))
    (effective (after_marks (marks.Granted h ∷ []) (Behind past by (verbs.RegMr s buffer offset count rights) (answers.Key h.key))) (ap (λ b. b || false) (key-refl h.key)) refl refl refl)
  where
    P : World → List Mark → Type 0
    P = Effective past (events.Verb by (verbs.RegMr s buffer offset count rights))

    call : Call
    call = call_of by (verbs.RegMr s buffer offset count rights)

    region : Region
    region = w.region s

    h : Grant
    h = grant_of_registration s at rights (next_low region.low)

-- each grant of a key slot is the one in force there
in-force : (gs : List Grant) (k : KeySlot) → HaveSlotsApart gs → AllByRecursion (λ g. key_slot_eq (key_slot_of g) k ≡ true → grant_in_force k gs ≡ Some g) gs
in-force [] k apart = record {}
in-force (g ∷ gs) k apart = (λ here. ap (λ b. if b then Some g else grant_in_force k gs) here, others gs apart.0 (in-force gs k apart.1))
  where
    together : (h : Grant) → is_at_slot_of g.domain g.key h ≡ false → key_slot_eq (key_slot_of h) k ≡ true → key_slot_eq (key_slot_of g) k ≡ false
    together h other same = grind (arith, nat_tests, other, same)

    others : (hs : List Grant) → AllByRecursion (λ h. is_at_slot_of g.domain g.key h ≡ false) hs → AllByRecursion (λ h. key_slot_eq (key_slot_of h) k ≡ true → grant_in_force k gs ≡ Some h) hs
        → AllByRecursion (λ h. key_slot_eq (key_slot_of h) k ≡ true → (if key_slot_eq (key_slot_of g) k then Some g else grant_in_force k gs) ≡ Some h) hs
    others [] apart all = record {}
    others (h ∷ hs) apart all = (λ same. ap (λ b. if b then Some g else grant_in_force k gs) (together h apart.0 same) ∙ all.0 same, others hs apart.1 all.1)

-- the grants of a slot are revoked, where that in force in its key slot is
slot-revoked : (r : Past) (gs : List Grant) (s : Slot) (index : ℕ) (k : KeySlot) → k ≡ record { adapter = s.domain.adapter; index = index } → HaveSlotsApart gs
    → ((g : Grant) → grant_in_force k gs ≡ Some g → was_revoked r s.domain.adapter g.key ≡ true)
    → list_all (λ g. not (is_of_slot s index g) || was_revoked r g.domain.adapter g.key) gs ≡ true
slot-revoked r gs s index k place apart gone = by gs (in-force gs k apart)
  where
    by : (hs : List Grant) → AllByRecursion (λ g. key_slot_eq (key_slot_of g) k ≡ true → grant_in_force k gs ≡ Some g) hs → list_all (λ g. not (is_of_slot s index g) || was_revoked r g.domain.adapter g.key) hs ≡ true
    by [] all = refl
    by (g ∷ hs) all = both-true _ _ (one (is_of_slot s index g) refl) (by hs all.1)
      where
        one : (b : Bool) → is_of_slot s index g ≡ b → (not b || was_revoked r g.domain.adapter g.key) ≡ true
        one false e = refl
        one true e = ap (λ a. was_revoked r a g.key) adapter ∙ gone g (all.0 (subst (λ l. key_slot_eq (key_slot_of g) l ≡ true) (sym place) here))
          where
            adapter : g.domain.adapter ≡ s.domain.adapter
            adapter = grind (arith, nat_tests, e)

            here : key_slot_eq (key_slot_of g) (record { adapter = s.domain.adapter; index = index }) ≡ true
            here = grind (arith, nat_tests, e)

-- a deregistration ends its key
pub effects-dereg_mr : (c : Configuration) (past : Past) (w : World) (by : ℕ) (s : Slot) → IsUp c past w → s.slot < 0x8000
    → Leads w (Effective past (events.Verb by (verbs.DeregMr s))) (dereg_mr_plan (call_of by (verbs.DeregMr s)) s)
effects-dereg_mr c past w by s up small = leads-unless w P (of_region_refusals (deregistration_refusals region)) (Refuse_plan call)
    (Answer_plan call answers.Fine changed (told (grant_of_region region))) (effects-refuses past w by (verbs.DeregMr s)) (gone (grant_of_region region) refl)
  where
    P : World → List Mark → Type 0
    P = Effective past (events.Verb by (verbs.DeregMr s))

    call : Call
    call = call_of by (verbs.DeregMr s)

    region : Region
    region = w.region s

    changed : List Update
    changed = (Domain_of s.domain := without_object (w.domain s.domain)) ∷ (Region_of s := after_deregistration region) ∷ []

    told : Option Grant → List Mark
    told o = option_map_or (λ g. marks.Revoked s.domain.adapter g.key ∷ []) o []

    stands : grant_in_force (region_key_slot s) past.grants ≡ grant_of_region region
    stands = up.agree.keys.same (region_key_slot s) ∙ at-region-slot w.region w.window s small

    gone : (o : Option Grant) → grant_of_region region ≡ o → Leads w P (Answer_plan call answers.Fine changed (told o))
    gone None is = effective (Behind past by (verbs.DeregMr s) answers.Fine)
        (slot-revoked (Behind past by (verbs.DeregMr s) answers.Fine) past.grants s (region_index s) (region_key_slot s) refl up.agree.keys.apart
        (λ g in-slot. absurd (true≢false (sym (ap is_some (sym (stands ∙ is) ∙ in-slot)))))) refl refl refl
    gone (Some h) is = effective (after_marks (told (Some h)) (Behind past by (verbs.DeregMr s) answers.Fine))
        (slot-revoked (after_marks (told (Some h)) (Behind past by (verbs.DeregMr s) answers.Fine)) past.grants s (region_index s) (region_key_slot s) refl up.agree.keys.apart
        (λ g in-slot. revoked-here s.domain.adapter h.key g.key (ap (λ (x : Grant). x.key) (same_Some h g (sym (stands ∙ is) ∙ in-slot))))) refl refl refl

-- a deallocation ends its key
pub effects-dealloc_mw : (c : Configuration) (past : Past) (w : World) (by : ℕ) (s : Slot) → IsUp c past w → s.slot < 0x8000
    → Leads w (Effective past (events.Verb by (verbs.DeallocMw s))) (dealloc_mw_plan (call_of by (verbs.DeallocMw s)) s)
effects-dealloc_mw c past w by s up small = leads-unless w P ((window.kind == 0, NoSuch) ∷ []) (Refuse_plan call) (plan-of window.binding) (effects-refuses past w by (verbs.DeallocMw s)) (at window.binding refl)
  where
    P : World → List Mark → Type 0
    P = Effective past (events.Verb by (verbs.DeallocMw s))

    call : Call
    call = call_of by (verbs.DeallocMw s)

    window : Window
    window = w.window s

    changed : List Update
    changed = (Domain_of s.domain := without_object (w.domain s.domain)) ∷ (Window_of s := after_deallocation window) ∷ []

    end : Binding → List Update → Plan
    end b more = Answer_plan call answers.Fine
        (changed ++ (Region_of (region_under window b) := with_window_unbound (w.region (region_under window b))) ∷ more)
        (marks.Revoked s.domain.adapter (key_of_window window) ∷ [])

    plan-of : Option Binding → Plan
    plan-of None = Answer_plan call answers.Fine changed []
    plan-of (Some b) = Look (Region_of (region_under window b)) (λ region. With_binder b.queue (λ more.
        Answer_plan call answers.Fine (changed ++ (Region_of (region_under window b) := with_window_unbound region) ∷ more) (marks.Revoked s.domain.adapter (key_of_window window) ∷ [])))

    stands : grant_in_force (window_key_slot s) past.grants ≡ grant_over_regions w.region window
    stands = up.agree.keys.same (window_key_slot s) ∙ at-window-slot w.region w.window s small

    -- whatever the window grants has its key
    key-of : (b : Binding) (o : Option Grant) (g : Grant) → over window b o ≡ Some g → key_of_window window ≡ g.key
    key-of b None g is = absurd (true≢false (sym (ap is_some is)))
    key-of b (Some h) g is = ap (λ (x : Grant). x.key) (same_Some (grant_of_binding window b h) g is)

    ends : (b : Binding) → window.binding ≡ Some b → is_effective_at_end (after_marks (marks.Revoked s.domain.adapter (key_of_window window) ∷ []) (Behind past by (verbs.DeallocMw s) answers.Fine)) ≡ true
    ends b is = effective r (slot-revoked r past.grants s (window_index s) (window_key_slot s) refl up.agree.keys.apart
        (λ g in-slot. revoked-here s.domain.adapter (key_of_window window) g.key (key-of b (grant_of_region (w.region (region_under window b))) g
        (sym (stands ∙ ap (option_and_then (λ b. grant_over window b (w.region (region_under window b)))) is) ∙ in-slot)))) refl refl refl
      where
        r : Past
        r = after_marks (marks.Revoked s.domain.adapter (key_of_window window) ∷ []) (Behind past by (verbs.DeallocMw s) answers.Fine)

    queued : (b : Binding) → window.binding ≡ Some b → (q : QueueId) (slot : QueueSlot) → Leads w P (end b (queue_updates q slot))
    queued b is q (NoQueue incarnation timers) = ends b is
    queued b is q (Present p) = ends b is

    binder : (b : Binding) → window.binding ≡ Some b → (o : Option QueueId) → Leads w P (With_binder o (end b))
    binder b is None = ends b is
    binder b is (Some q) = queued b is q (w.queue q)

    at : (o : Option Binding) → window.binding ≡ o → Leads w P (plan-of o)
    at None is = effective (Behind past by (verbs.DeallocMw s) answers.Fine)
        (slot-revoked (Behind past by (verbs.DeallocMw s) answers.Fine) past.grants s (window_index s) (window_key_slot s) refl up.agree.keys.apart
        (λ g in-slot. absurd (true≢false (sym (ap is_some (sym (stands ∙ ap (option_and_then (λ b. grant_over window b (w.region (region_under window b)))) is) ∙ in-slot)))))) refl refl refl
    at (Some b) is = binder b is b.queue

pub effects-inject : (c : Configuration) (past : Past) (w : World) (by : ℕ) (q : QueueId) (bytes : List ℕ) → IsPosted c past w
    → Leads w (Effective past (events.Verb by (verbs.Inject q bytes))) (inject_plan c (call_of by (verbs.Inject q bytes)) q bytes)
effects-inject c past w by q bytes up = at (w.queue q) refl
  where
    call : Call
    call = call_of by (verbs.Inject q bytes)

    P : World → List Mark → Type 0
    P = Effective past (events.Verb by (verbs.Inject q bytes))

    arrives : QueueSlot → Plan
    arrives (NoQueue incarnation timers) = Refuse_plan call NoSuch
    arrives (Present p) = Arrive c p bytes None [] (answer_mark call answers.Fine ∷ [])

    at : (s : QueueSlot) → w.queue q ≡ s → Leads w P (arrives s)
    at (NoQueue incarnation timers) is = effects-refused past w by (verbs.Inject q bytes)
    at (Present p) is = effects-arrive c w P p bytes None [] (answer_mark call answers.Fine ∷ []) up.steady (found c w q p up.sound is)
        (λ v ended ns quiet told. turn-effective w p (events.Verb by (verbs.Inject q bytes)) ended ns (Behind past by (verbs.Inject q bytes) answers.Fine) (record {}) refl refl (λ r. refl) up.agree
        (found c w q p up.sound is).present quiet told)
