-- Every event in a history that follows the machine answers its completions. For proofs only.
use Rattle.std.proofs.Common.{Bool, Err, List, None, Ok, Option, Some, [], ap, false, if◌then◌else◌, map, not, refl, subst, suc, true, true≢false, ℕ, ◌++◌, ◌||◌, ◌∙◌, ◌∷◌, ◌≡◌}
use Rattle.std.specs.List.{AllByRecursion}
use Rattle.std.specs.Option.{option_map_or}
use Rattle.ca_law_endings.proofs.EventFitLemmas.{first-marks}
use Rattle.ca_law_endings.proofs.LeadsLemmas.{comes, leads-around, leads-queue, leads-row, leads-unless, leads-weaker}
use Rattle.ca_law_endings.proofs.PathEventLemmas.{event-agrees, opening-agrees}
use Rattle.ca_law_endings.specs.Agreement.{PathsAgree}
use Rattle.ca_law_endings.specs.Runs.{Comes, Leads}
use Rattle.ca_law_keys.proofs.Keys.KeyTurnLemmas.{found}
use Rattle.ca_law_keys.proofs.Posts.PlaceLemmas.{IsPerformed, IsPostedAt, item-posted, performs}
use Rattle.ca_law_keys.proofs.Posts.PostLaws.{event-posts-agree, opening-posts-agree}
use Rattle.ca_law_keys.specs.Posts.{AgreeInSlot, PostsAgree}
use Rattle.ca_law_carried.proofs.Starts.PerformLemmas.{leads-local}
use Rattle.ca_base.specs.Configuration.{Configuration}
use Rattle.ca_base.specs.declared.completion.Completion.{Completion}
use Rattle.ca_base.specs.declared.completion.WcStatus.TheVariants.{MemoryManagement, Success}
use Rattle.ca_base.specs.declared.correspondent.Correspondent.{Correspondent}
use Rattle.ca_base.specs.declared.lot.Lot.{Lot}
use Rattle.ca_base.specs.declared.refusals.OpRefusal.{OpRefusal}
use Rattle.ca_base.specs.declared.request.PostedSend.{PostedSend}
use Rattle.ca_base.specs.objects.LocalRequest.{LocalMarks}
use Rattle.ca_base.specs.objects.Mailbox.{Mailbox, is_lost, passes}
use Rattle.ca_base.specs.objects.QueuePair.{QueuePair}
use Rattle.ca_law_carried.proofs.Carried.AnsweredLemmas.{Answered, IsNoTurn, IsReady, Still, failing-pass, passes-append, still-event}
use Rattle.ca_law_carried.proofs.Carried.FailingLemmas.{Fails, Loosens, failure-failing, loose, packet-failing, respond-loose}
use Rattle.ca_law_carried.specs.Answered.{HaveTheirResponses, is_answered}
use Rattle.ca_law_keys.proofs.Judged.JudgeLemmas.{both-true}
use Rattle.ca_keys.specs.Memory.{ByteMap}
use Rattle.ca_keys.specs.declared.grant.Grant.{Grant}
use Rattle.ca_keys.specs.declared.key.Key.{Key}
use Rattle.ca_keys.specs.declared.names.QueueId.{QueueId}
use Rattle.ca_law_world.proofs.Sound.SoundLemmas.{event-sound, opening-sound}
use Rattle.ca_law_world.proofs.Sound.WorldLemmas.{EndingDoes, IsThere, RowDoes, around_in, shared_of}
use Rattle.ca_law_world.proofs.Steady.EventLemmas.{event-steady, opening-steady}
use Rattle.ca_law_world.proofs.Steady.TurnLemmas.{there-kept}
use Rattle.ca_law_world.specs.Steady.{IsSteadyWorld}
use Rattle.ca_model.specs.Carried.{response_arrived}
use Rattle.ca_model.specs.Entries.{EntryValue}
use Rattle.ca_model.specs.Past.{Past, Posted, after_entry, after_mark, after_marks, at_begin, at_end, each_entry, opening_past, posted_at, present_incarnation}
use Rattle.ca_model.specs.Requests.{is_local}
use Rattle.ca_model.specs.declared.event.Event.{Event}
use Rattle.ca_model.specs.declared.mark.Mark.{Mark}
use Rattle.ca_model.specs.machine.Acknowledgements.{failure_effects}
use Rattle.ca_model.specs.machine.Around.{With_around, updates_of}
use Rattle.ca_model.specs.machine.Completions.{bytes_of_success, send_completion, success_marks}
use Rattle.ca_model.specs.machine.Frame.{Afterwards}
use Rattle.ca_model.specs.machine.LocalOperations.{operation_effects}
use Rattle.ca_model.specs.machine.Numbering.{Numbered}
use Rattle.ca_model.specs.machine.Plan.{Did, Finish, NotReady, Outcome, Stuck}
use Rattle.ca_model.specs.machine.Requester.{Performs, RequestTurn, Sends, Waits, packet_row, turn_of}
use Rattle.ca_model.specs.machine.Respond.{respond_refusals, respond_row}
use Rattle.ca_model.specs.machine.Row.{Does, Ending, NotPossible, Row, Row_plan}
use Rattle.ca_model.specs.machine.Run.{Follows, Ran, go_on, run_from}
use Rattle.ca_model.specs.machine.Sound.{AreLimited, CanBeMade, IsSoundWorld}
use Rattle.ca_model.specs.machine.Step.{plan, step}
use Rattle.ca_model.specs.machine.Turns.{Leave_plan, Packet, Request_around, Respond_around, has_room_for, packet_sent, reaches_peer, request_plan, respond_plan, sent_marks}
use Rattle.ca_model.specs.machine.World.{World, opening_world}
use Rattle.ca_wire.specs.Packet.{follows}
use Rattle.ca_model.specs.declared.event.Event.TheVariants as events
use Rattle.ca_model.specs.declared.mark.Mark.TheVariants as marks
use Rattle.ca_base.specs.declared.step.Reason.TheVariants as reasons

-- each completion of an event that ends so passes
abbrev pub Passes : Past → Event → World → List Mark → Type 0
Passes past event v ms = Answered (at_begin event past) ms

sent-pass : (q : QueuePair) (peer : Correspondent) (m : Mailbox) (lot : Lot) (o : Option Packet) (r : Past) → Answered r (option_map_or (sent_marks q peer m lot) o [])
sent-pass q peer m lot None r = refl
sent-pass q peer m lot (Some x) r = by (reaches_peer q peer m) (is_lost lot)
  where
    by : (b c : Bool) → Answered r (if b
        then marks.Sent q.queue peer.queue (Some m.next) x.request x.bytes ∷ (if c then marks.Lost peer.queue (Some m.next) ∷ [] else [])
        else marks.Sent q.queue peer.queue None x.request x.bytes ∷ marks.Lost peer.queue None ∷ [])
    by true true = refl
    by true false = refl
    by false c = refl

loose-ending : (e : Ending) → EndingDoes Fails e → EndingDoes Loosens e
loose-ending (NotPossible reason) fails = record {}
loose-ending (Does e) fails = loose e.marks fails

loose-row : (row : Row) → RowDoes Fails row → RowDoes Loosens row
loose-row row does = record { denied = λ d. loose-ending (row.denied d) (does.denied d); allowed = λ bytes refusal. loose-ending (row.allowed bytes refusal) (does.allowed bytes refusal) }

-- a turn's row, and what it sends
left-passes : (c : Configuration) (past : Past) (event : Event) (w : World) (q : QueuePair) (peer : Correspondent) (lot : Lot) (row : Row) → RowDoes Loosens row
    → Leads w (Passes past event) (Row_plan c row (Leave_plan q (around_in w q (shared_of w q)) peer (w.mailbox peer.queue) lot))
left-passes c past event w q peer lot row does = leads-row c w (Passes past event) Loosens row (Leave_plan q (around_in w q (shared_of w q)) peer (w.mailbox peer.queue) lot) does
    (λ e cs ws fails aside. passes-append e.marks (option_map_or (sent_marks q peer (w.mailbox peer.queue) lot) (packet_sent e) []) (at_begin event past) fails
    (sent-pass q peer (w.mailbox peer.queue) lot (packet_sent e)))

pass-respond : (c : Configuration) (past : Past) (event : Event) (w : World) (name : QueueId) (lot : Lot) → Leads w (Passes past event) (respond_plan c name lot)
pass-respond c past event w name lot = leads-queue c w P name reasons.State (λ q. With_around q (λ a. Respond_around c lot q a q.peer))
    (λ q is. leads-around w P q (λ a. Respond_around c lot q a q.peer) (by q q.peer))
  where
    P : World → List Mark → Type 0
    P = Passes past event

    by : (q : QueuePair) → (peer : Option Correspondent) → Leads w P (Respond_around c lot q (around_in w q (shared_of w q)) peer)
    by q None = leads-unless w P (respond_refusals true q) Stuck (Stuck reasons.Empty) (λ r. record {}) (record {})
    by q (Some peer) = left-passes c past event w q peer lot (respond_row (has_room_for q peer (w.mailbox peer.queue)) q) (respond-loose (has_room_for q peer (w.mailbox peer.queue)) q)

-- the success of a local operation has no packets
local-passes : (past : Past) (event : Event) (q after : QueuePair) (n : Numbered) (m : LocalMarks) (refusal : Option OpRefusal)
    → option_map_or (λ posted. not (is_local posted.request.op)) (posted_at past q.queue n.place) true ≡ false → Answered (at_begin event past) (operation_effects q n after m refusal).marks
local-passes past event q after n m (Some cause) local = failing-pass (failure_effects MemoryManagement (Some cause) q).marks (failure-failing MemoryManagement (Some cause) q refl) (at_begin event past)
local-passes past event q after n m None local = by m.revoked m.granted n.request.signalled
  where
    told : Option Key → Option Grant → List Mark
    told k g = option_map_or (λ key. marks.Revoked q.queue.adapter key ∷ []) k [] ++ option_map_or (λ g. marks.Granted g ∷ []) g []

    success : Bool → List Mark
    success b = if b then success_marks q.queue n.place (record n.request { signalled = true }) else []

    one : (b : Bool) (p : Past) → option_map_or (λ posted. not (is_local posted.request.op)) (posted_at p q.queue n.place) true ≡ false → Answered p (success b)
    one true p none = both-true (is_answered p (marks.Done q.queue x None)) true (ap (λ h. not h || response_arrived p q.queue) none) refl
      where
        x : Completion
        x = send_completion q.queue n.place (record n.request { signalled = true }) Success (bytes_of_success n.request.op)
    one false p none = refl

    by : (k : Option Key) (g : Option Grant) (b : Bool) → Answered (at_begin event past) (told k g ++ success b)
    by None None b = one b (at_begin event past) local
    by None (Some g) b = both-true true _ refl (one b (after_mark (marks.Granted g) (at_begin event past)) local)
    by (Some k) None b = both-true true _ refl (one b (after_mark (marks.Revoked q.queue.adapter k) (at_begin event past)) local)
    by (Some k) (Some g) b = both-true true _ refl (both-true true _ refl (one b (after_marks (marks.Revoked q.queue.adapter k ∷ marks.Granted g ∷ []) (at_begin event past)) local))

pass-request : (c : Configuration) (past : Past) (event : Event) (w : World) (name : QueueId) (lot : Lot) → IsReady c past w → Leads w (Passes past event) (request_plan c name lot)
pass-request c past event w name lot ready = leads-queue c w P name reasons.State (λ q. With_around q (λ a. Request_around c lot q a q.peer (turn_of q)))
    (λ q is. leads-around w P q (λ a. Request_around c lot q a q.peer (turn_of q)) (by q (found c w name q ready.sound is) q.peer (turn_of q) refl))
  where
    P : World → List Mark → Type 0
    P = Passes past event

    by : (q : QueuePair) → IsThere w q → (peer : Option Correspondent) (turn : RequestTurn) → turn_of q ≡ turn → Leads w P (Request_around c lot q (around_in w q (shared_of w q)) peer turn)
    by q there peer (Waits reason) is = record {}
    by q there peer (Performs n) is = leads-local c w P (λ e. Answered (at_begin event past) e.marks) q n (λ e changes writes. Finish (updates_of q (around_in w q (shared_of w q)) e ++ changes) writes e.marks) n.request.op
        (λ after m refusal alike. local-passes past event q after n m refusal local) refl (λ e cs ws passes aside. passes)
      where
        performed : IsPerformed q n
        performed = performs q n (there-kept w q ready.steady there) there.sound.requester.begun is

        at : IsPostedAt (past.posted (present_incarnation past q.queue)) q.requester.next (record { request = n.request; drawn = n.drawn })
        at = item-posted (past.posted (present_incarnation past q.queue)) (past.performed (present_incarnation past q.queue)) q q.requester.next (record { request = n.request; drawn = n.drawn })
            (subst (λ s. AgreeInSlot (past.posted (present_incarnation past q.queue)) (past.performed (present_incarnation past q.queue)) s) there.present (ready.posts.sends q.queue)) performed.item.item

        local : option_map_or (λ posted. not (is_local posted.request.op)) (posted_at past q.queue n.place) true ≡ false
        local = ap (λ i. option_map_or (λ posted. not (is_local posted.request.op)) (posted_at past q.queue i) true) performed.item.place
            ∙ ap (λ o. option_map_or (λ (posted : Posted). not (is_local posted.request.op)) o true) at.is ∙ ap (λ (x : PostedSend). not (is_local x.request.op)) at.same ∙ ap not performed.local
    by q there None (Sends n) is = record {}
    by q there (Some peer) (Sends n) is = left-passes c past event w q peer lot (packet_row q (has_room_for q peer (w.mailbox peer.queue)) n) (loose-row (packet_row q (has_room_for q peer (w.mailbox peer.queue)) n) (packet-failing q (has_room_for q peer (w.mailbox peer.queue)) n))

still-passes : (c : Configuration) (past : Past) (w : World) (event : Event) → IsReady c past w → IsNoTurn event → Leads w (Passes past event) (plan c event)
still-passes c past w event ready none = leads-weaker w (Still past event) (Passes past event) (plan c event) (λ v ms still. still.0) (still-event c past w event ready none)

passes-event : (c : Configuration) (past : Past) (w : World) (event : Event) → IsReady c past w → Leads w (Passes past event) (plan c event)
passes-event c past w (events.Verb by verb) ready = still-passes c past w (events.Verb by verb) ready (record {})
passes-event c past w (events.Request queue lot) ready = pass-request c past (events.Request queue lot) w queue lot ready
passes-event c past w (events.Respond queue lot) ready = pass-respond c past (events.Respond queue lot) w queue lot
passes-event c past w (events.Deliver queue index) ready = still-passes c past w (events.Deliver queue index) ready (record {})
passes-event c past w (events.Timeout queue hasten) ready = still-passes c past w (events.Timeout queue hasten) ready (record {})
passes-event c past w (events.RnrWake queue) ready = still-passes c past w (events.RnrWake queue) ready (record {})

along : (c : Configuration) (n : ℕ) (es : List EntryValue) (past : Past) (w : World) → AreLimited c → AllByRecursion (λ e. CanBeMade e.event) es → IsReady c past w
    → run_from c n w (map (λ e. e.event) es) ≡ Ok (map (λ e. e.marks) es) → each_entry is_answered (λ p. true) past es ≡ true
along c n [] past w limited made ready follows = refl
along c n (e ∷ es) past w limited made ready follows =
    by (step c w e.event) (comes w (Passes past e.event) (plan c e.event) (passes-event c past w e.event ready)) (event-agrees c past w e.event ready.sound ready.paths)
    (event-posts-agree c past w e.event limited ready.sound ready.steady ready.posts) (event-sound c e.event w limited ready.sound made.0) (event-steady c e.event w ready.sound ready.steady) follows
    (λ v next told. along c (suc n) es (after_entry e past) v limited made.1 next told)
  where
    Rest : Type 0
    Rest = (v : World) → IsReady c (after_entry e past) v → run_from c (suc n) v (map (λ e. e.event) es) ≡ Ok (map (λ e. e.marks) es) → each_entry is_answered (λ p. true) (after_entry e past) es ≡ true

    stopped : Ran → Bool
    stopped (Ok told) = false
    stopped (Err stop) = true

    by : (o : Outcome) → Comes (Passes past e.event) o → Comes (λ v ms. PathsAgree (after_marks ms (at_begin e.event past)) v) o → Comes (λ v ms. PostsAgree (at_end (after_marks ms (at_begin e.event past))) v) o
        → Afterwards (IsSoundWorld c) o → Afterwards IsSteadyWorld o → go_on n o (λ v. run_from c (suc n) v (map (λ e. e.event) es)) ≡ Ok (e.marks ∷ map (λ e. e.marks) es) → Rest
        → each_entry is_answered (λ p. true) past (e ∷ es) ≡ true
    by (NotReady reason) passes paths posts sound steady follows rest = absurd (true≢false (ap stopped follows))
    by (Did v ms) passes paths posts sound steady follows rest = at (first-marks ms e.marks (run_from c (suc n) v (map (λ e. e.event) es)) (map (λ e. e.marks) es) follows)
      where
        at : (ms ≡ e.marks) × (run_from c (suc n) v (map (λ e. e.event) es) ≡ Ok (map (λ e. e.marks) es)) → each_entry is_answered (λ p. true) past (e ∷ es) ≡ true
        at told = both-true _ _ (both-true _ true (subst (λ xs. Answered (at_begin e.event past) xs) told.0 passes) refl) (rest v (record {
          sound = sound;
          steady = steady;
          paths = subst (λ xs. PathsAgree (after_marks xs (at_begin e.event past)) v) told.0 paths;
          posts = subst (λ xs. PostsAgree (at_end (after_marks xs (at_begin e.event past))) v) told.0 posts;
        }) told.1)

pub answered-along : (c : Configuration) (bytes : ByteMap) (es : List EntryValue) → AreLimited c → AllByRecursion (λ e. CanBeMade e.event) es → Follows c bytes es → HaveTheirResponses bytes es
answered-along c bytes es limited made follows = along c 0 es (opening_past bytes) (opening_world bytes) limited made
    (record { sound = opening-sound c bytes; steady = opening-steady bytes; paths = opening-agrees bytes; posts = opening-posts-agree bytes }) follows
