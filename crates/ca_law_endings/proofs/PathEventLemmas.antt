-- Every event keeps the agreement on paths. For proofs only.
use Rattle.std.proofs.Common.{◌≡◌, ℕ, suc, ◌-◌, ◌&&◌, ◌||◌, ◌==◌, not, nat_lt, is_none, Bool, true, false, if◌then◌else◌, List, [], ◌∷◌, map, take, length, Option, None, Some, Ok, Err, refl, sym, ap, subst, rules, ◌∙◌}
use Rattle.std.specs.Option.{option_map, option_and_then}
use Rattle.ca_law_endings.specs.Agreement.{AgreeOnPaths, HoldsAlong, PathsAgree, peer_in, peer_named}
use Rattle.ca_law_endings.specs.Runs.{Comes, Leads}
use Rattle.ca_law_endings.proofs.LeadsLemmas.{comes, leads-around, leads-unless}
use Rattle.ca_law_endings.proofs.PathLemmas.{AreKept, IsKept}
use Rattle.ca_law_endings.proofs.PathTurnLemmas.{Agrees, agrees-arrive, agrees-deliver, agrees-request, agrees-respond, agrees-timeout, agrees-wake, found}
use Rattle.ca_law_endings.proofs.MailLemmas.{cut-latest, cut-numbered, peer-latest}
use Rattle.ca_law_endings.proofs.PathChangeLemmas.{agrees-modify, at-place, cut-lengths, replaced, Behind}
use Rattle.ca_law_endings.proofs.PathVerbLemmas.{AgreesBy, agree-answer, agree-more, agrees-post_recv, agrees-post_send, agrees-present, call_of}
use Rattle.ca_base.specs.Configuration.{Configuration}
use Rattle.ca_base.specs.declared.change.Field.TheVariants as fields
use Rattle.ca_base.specs.declared.completion.Completion.{Completion}
use Rattle.ca_base.specs.declared.limits.TheConstants.{MAX_POLLED}
use Rattle.ca_base.specs.declared.step.Reason.TheVariants as reasons
use Rattle.ca_base.specs.objects.CompletionQueue.{CompletionQueue, after_polls, after_reserve}
use Rattle.ca_base.specs.objects.Domain.{Domain, with_object, without_object}
use Rattle.ca_base.specs.objects.Mailbox.{Mailbox, with_peer}
use Rattle.ca_base.specs.objects.QueuePair.{QueuePair, QueueSlot, NoQueue, Present, incarnation_of, is_present, recv_cq_of, send_cq_of}
use Rattle.ca_base.specs.objects.SharedReceives.{SharedReceives, SrqSlot, after_receives_retire}
use Rattle.ca_base.specs.objects.WorkQueue.{after_retire}
use Rattle.ca_keys.specs.Equal.{queue_eq}
use Rattle.ca_keys.specs.Memory.{ByteMap}
use Rattle.ca_keys.specs.Numbers.{queue_of}
use Rattle.ca_keys.specs.declared.names.QueueId.{QueueId}
use Rattle.ca_keys.specs.declared.names.Slot.{Slot}
use Rattle.ca_model.specs.Past.{with_at, Past, after_marks, after_entry, at_begin, opening_past}
use Rattle.ca_model.specs.declared.answer.Answer.TheVariants as answers
use Rattle.ca_model.specs.declared.answer.Refusal.TheVariants.{NoSuch, OutOfRange, NoDomain, SlotTaken, CqTooSmall, WindowsBound}
use Rattle.ca_model.specs.declared.event.Event.{Event}
use Rattle.ca_model.specs.declared.event.Event.TheVariants as events
use Rattle.ca_model.specs.declared.mark.Mark.{Mark}
use Rattle.ca_model.specs.declared.verb.Verb.{Verb}
use Rattle.ca_model.specs.declared.verb.Verb.TheVariants as verbs
use Rattle.ca_model.specs.machine.Around.{Around}
use Rattle.ca_model.specs.machine.CompletionVerbs.{Poll_of, Take_plan, With_place, With_places, after_poll, poll_plan, receives_after_poll, slot_after_poll, source_of_completion}
use Rattle.ca_model.specs.machine.Delivery.{Arrive}
use Rattle.ca_model.specs.machine.HostVerbs.{inject_plan}
use Rattle.ca_model.specs.machine.Plan.{Did, NotReady, Outcome, Plan, If, Look, Stuck, Update, ◌:=◌, put_all}
use Rattle.ca_model.specs.machine.QueuePairVerbs.{Creation, With_shared, before_receives, beside, create_qp_plan, destroy_qp_plan, emptied_mailbox, has_bad_depth, has_no_room, has_queues, left_updates, new_queue, places_held, receive_reserve, receive_room, send_reserved, user_updates, without_queue}
use Rattle.ca_model.specs.machine.Sound.{AreLimited, CanBeMade, IsSoundWorld}
use Rattle.ca_model.specs.machine.Frame.{Afterwards}
use Rattle.ca_model.specs.machine.Run.{Follows, Ran, go_on, run_from}
use Rattle.ca_model.specs.Entries.{EntryValue}
use Rattle.ca_law_endings.proofs.EventFitLemmas.{first-marks}
use Rattle.ca_law_world.proofs.Sound.SoundLemmas.{event-sound, opening-sound}
use Rattle.std.specs.List.{AllByRecursion}
use Rattle.ca_model.specs.machine.Step.{plan, step, verb_plan}
use Rattle.ca_model.specs.machine.VerbAnswers.{Answer_plan, Call, Refuse_plan, Unless_plan, answer_mark}
use Rattle.ca_model.specs.machine.World.{Cq_of, Domain_of, Mailbox_of, Queue_of, Srq_of, World, opening_world}
use Rattle.ca_law_world.proofs.Sound.WorldLemmas.{around_in, shared_of}
use Rattle.ca_law_world.proofs.Sound.SettledLemmas.{queue-path}

-- a queue pair is made
create-agrees : (past : Past) (w : World) (by : ℕ) (x : Creation) (domain : Domain) (send recv : CompletionQueue) (slot : Option SrqSlot) (shared : Option SharedReceives) (number : ℕ) → PathsAgree past w
    → PathsAgree (Behind past by (verbs.CreateQp x.slot x.send_cq x.recv_cq x.send_depth x.recv_depth x.srq) (answers.Queue number (new_queue x (w.queue (queue_of x.slot))).incarnation))
    (put_all ((Domain_of x.slot.domain := domain)
    ∷ (Queue_of (queue_of x.slot) := Present (new_queue x (w.queue (queue_of x.slot))))
    ∷ (Mailbox_of (queue_of x.slot) := with_peer (new_queue x (w.queue (queue_of x.slot))).incarnation None (w.mailbox (queue_of x.slot)))
    ∷ (Cq_of (beside x.slot x.send_cq) := Some send)
    ∷ (Cq_of (beside x.slot x.recv_cq) := Some recv)
    ∷ user_updates x slot) w)
create-agrees past w by x domain send recv slot shared number agree = agree-more r v (user_updates x slot) moved (users x.srq slot)
  where
    place : QueueId
    place = queue_of x.slot

    r : Past
    r = Behind past by (verbs.CreateQp x.slot x.send_cq x.recv_cq x.send_depth x.recv_depth x.srq) (answers.Queue number (new_queue x (w.queue place)).incarnation)

    made : QueuePair
    made = new_queue x (w.queue place)

    v : World
    v = put_all ((Domain_of x.slot.domain := domain) ∷ (Queue_of place := Present made) ∷ (Mailbox_of place := with_peer made.incarnation None (w.mailbox place))
        ∷ (Cq_of (beside x.slot x.send_cq) := Some send) ∷ (Cq_of (beside x.slot x.recv_cq) := Some recv) ∷ []) w

    updates : Option ℕ → Option SrqSlot → List Update
    updates (Some srq) (Some slot) = (Srq_of (beside x.slot srq) := record slot { users = suc slot.users }) ∷ []
    updates srq slot = []

    users : (o : Option ℕ) (t : Option SrqSlot) → AreKept v (updates o t)
    users None t = record {}
    users (Some srq) None = record {}
    users (Some srq) (Some slot) = (record {}, record {})

    incarnation : suc (incarnation_of (w.queue place)) ≡ r.incarnation place
    incarnation = ap suc (agree.incarnations place) ∙ sym (at-place past.incarnation place (suc (past.incarnation place)))

    nobody : None ≡ peer_named (r.naming place)
    nobody = sym (ap peer_named (at-place past.naming place None))

    moved : AgreeOnPaths r.incarnation r.naming r.envelopes (with_at queue_eq w.queue place (Present made)) (with_at queue_eq w.mailbox place (with_peer made.incarnation None (w.mailbox place)))
    moved = replaced past r w place (Present made) (with_peer made.incarnation None (w.mailbox place)) agree (λ n. counted n (queue_eq place n) refl) (λ n. named n (queue_eq place n) refl) (λ n. refl)
        incarnation nobody incarnation nobody refl agree.numbered (peer-latest place past w made.incarnation None agree)
      where
        counted : (n : QueueId) (b : Bool) → queue_eq place n ≡ b → (if b then suc (past.incarnation place) else past.incarnation n) ≡ (if b then r.incarnation place else past.incarnation n)
        counted n true e = sym (at-place past.incarnation place (suc (past.incarnation place)))
        counted n false e = refl

        named : (n : QueueId) (b : Bool) → queue_eq place n ≡ b → peer_named (if b then None else past.naming n) ≡ (if b then peer_named (r.naming place) else peer_named (past.naming n))
        named n true e = nobody
        named n false e = refl

agrees-create : (c : Configuration) (past : Past) (w : World) (by : ℕ) (x : Creation) → PathsAgree past w
    → Leads w (AgreesBy past by (verbs.CreateQp x.slot x.send_cq x.recv_cq x.send_depth x.recv_depth x.srq))
    (create_qp_plan c (call_of by (verbs.CreateQp x.slot x.send_cq x.recv_cq x.send_depth x.recv_depth x.srq)) x)
agrees-create c past w by x agree =
    leads-unless w P ((not (w.domain x.slot.domain).allocated, NoDomain) ∷ (is_present (w.queue place), SlotTaken) ∷ []) (Refuse_plan call)
    (If (has_queues c x) (Look (Cq_of (beside x.slot x.send_cq)) (λ send. Look (Cq_of (beside x.slot x.recv_cq)) (λ recv.
    With_shared x (λ shared. there send recv shared (option_and_then (λ s. s.srq) shared))))) (Refuse_plan call NoSuch)) (λ r. agree)
    (λ has. sharing x.srq, λ none. agree)
  where
    call : Call
    call = call_of by (verbs.CreateQp x.slot x.send_cq x.recv_cq x.send_depth x.recv_depth x.srq)

    P : World → List Mark → Type 0
    P = AgreesBy past by (verbs.CreateQp x.slot x.send_cq x.recv_cq x.send_depth x.recv_depth x.srq)

    place : QueueId
    place = queue_of x.slot

    q : QueuePair
    q = new_queue x (w.queue place)

    made : CompletionQueue → CompletionQueue → Option SrqSlot → Option SharedReceives → Plan
    made send recv slot shared = Answer_plan call (answers.Queue place.number q.incarnation)
        ((Domain_of x.slot.domain := with_object (w.domain x.slot.domain))
        ∷ (Queue_of place := Present q)
        ∷ (Mailbox_of place := with_peer q.incarnation None (w.mailbox place))
        ∷ (Cq_of (beside x.slot x.send_cq) := Some (send_reserved x send))
        ∷ (Cq_of (beside x.slot x.recv_cq) := Some (after_reserve (receive_reserve x) (receive_room x shared) (before_receives x send recv)))
        ∷ user_updates x slot)
        []

    sized : CompletionQueue → CompletionQueue → Option SrqSlot → Option SharedReceives → Plan
    sized send recv slot shared =
        Unless_plan call ((has_bad_depth x, OutOfRange fields.Depth) ∷ (has_no_room x shared send recv, CqTooSmall) ∷ []) (made send recv slot shared)

    there : Option CompletionQueue → Option CompletionQueue → Option SrqSlot → Option SharedReceives → Plan
    there (Some send) (Some recv) slot shared = If (is_none shared && not (is_none x.srq)) (Refuse_plan call NoSuch) (sized send recv slot shared)
    there send recv slot shared = Refuse_plan call NoSuch

    found-both : (send recv : CompletionQueue) (slot : Option SrqSlot) (shared : Option SharedReceives) → Leads w P (there (Some send) (Some recv) slot shared)
    found-both send recv slot shared = (
      λ missing. agree,
      λ there. leads-unless w P ((has_bad_depth x, OutOfRange fields.Depth) ∷ (has_no_room x shared send recv, CqTooSmall) ∷ []) (Refuse_plan call)
          (made send recv slot shared) (λ r. agree)
          (create-agrees past w by x (with_object (w.domain x.slot.domain)) (send_reserved x send) (after_reserve (receive_reserve x) (receive_room x shared) (before_receives x send recv)) slot shared
          place.number agree),
    )

    both : (send recv : Option CompletionQueue) (slot : Option SrqSlot) (shared : Option SharedReceives) → Leads w P (there send recv slot shared)
    both None recv slot shared = agree
    both (Some send) None slot shared = agree
    both (Some send) (Some recv) slot shared = found-both send recv slot shared

    looking : Option ℕ → Plan
    looking None = there (w.cq (beside x.slot x.send_cq)) (w.cq (beside x.slot x.recv_cq)) None None
    looking (Some srq) = Look (Srq_of (beside x.slot srq)) (λ slot. there (w.cq (beside x.slot x.send_cq)) (w.cq (beside x.slot x.recv_cq)) (Some slot) slot.srq)

    sharing : (o : Option ℕ) → Leads w P (looking o)
    sharing None = both (w.cq (beside x.slot x.send_cq)) (w.cq (beside x.slot x.recv_cq)) None None
    sharing (Some srq) = both (w.cq (beside x.slot x.send_cq)) (w.cq (beside x.slot x.recv_cq)) (Some (w.srq (beside x.slot srq))) (w.srq (beside x.slot srq)).srq

-- a queue pair is destroyed
destroy-agrees : (past : Past) (w : World) (by : ℕ) (s : Slot) (domain : Domain) (q : QueuePair) (a : Around) → PathsAgree past w → w.queue q.queue ≡ Present q → q.queue ≡ queue_of s
    → PathsAgree (Behind past by (verbs.DestroyQp s) answers.Fine)
    (put_all ((Domain_of s.domain := domain)
    ∷ (Queue_of q.queue := NoQueue q.incarnation q.requester.timers)
    ∷ (Mailbox_of q.queue := emptied_mailbox q.incarnation (w.mailbox q.queue))
    ∷ (Cq_of (send_cq_of q) := option_map (without_queue q) a.send)
    ∷ (Cq_of (recv_cq_of q) := option_map (without_queue q) a.recv)
    ∷ left_updates q a) w)
destroy-agrees past w by s domain q a agree is name =
    agree-more r v (left_updates q a) (subst (λ k. AgreeOnPaths r.incarnation r.naming r.envelopes (with_at queue_eq w.queue k slot) (with_at queue_eq w.mailbox k (box k))) (sym name) moved) (left q.srq a.shared)
  where
    place : QueueId
    place = queue_of s

    r : Past
    r = Behind past by (verbs.DestroyQp s) answers.Fine

    slot : QueueSlot
    slot = NoQueue q.incarnation q.requester.timers

    box : QueueId → Mailbox
    box k = emptied_mailbox q.incarnation (w.mailbox k)

    v : World
    v = put_all ((Domain_of s.domain := domain) ∷ (Queue_of q.queue := slot) ∷ (Mailbox_of q.queue := box q.queue)
        ∷ (Cq_of (send_cq_of q) := option_map (without_queue q) a.send) ∷ (Cq_of (recv_cq_of q) := option_map (without_queue q) a.recv) ∷ []) w

    updates : Option ℕ → Option SrqSlot → List Update
    updates (Some srq) (Some slot) = (Srq_of (record { domain = q.domain; slot = srq }) := record slot {
      srq = option_map (after_receives_retire (places_held q a)) slot.srq;
      users = slot.users - 1;
    }) ∷ []
    updates srq slot = []

    left : (o : Option ℕ) (t : Option SrqSlot) → AreKept v (updates o t)
    left None t = record {}
    left (Some srq) None = record {}
    left (Some srq) (Some slot) = (record {}, record {})

    incarnation : q.incarnation ≡ r.incarnation place
    incarnation = sym (ap incarnation_of is) ∙ agree.incarnations q.queue ∙ ap past.incarnation name

    nobody : None ≡ peer_named (r.naming place)
    nobody = sym (ap peer_named (at-place past.naming place None))

    moved : AgreeOnPaths r.incarnation r.naming r.envelopes (with_at queue_eq w.queue place slot) (with_at queue_eq w.mailbox place (box place))
    moved = replaced past r w place slot (box place) agree (λ n. counted n (queue_eq place n) refl) (λ n. named n (queue_eq place n) refl) (cut-lengths place past) incarnation nobody incarnation nobody refl
        (cut-numbered place past w agree) (cut-latest place past w q.incarnation (w.mailbox place) agree)
      where
        counted : (n : QueueId) (b : Bool) → queue_eq place n ≡ b → past.incarnation n ≡ (if b then past.incarnation place else past.incarnation n)
        counted n true e = sym (ap past.incarnation (queue-path place n e))
        counted n false e = refl

        named : (n : QueueId) (b : Bool) → queue_eq place n ≡ b → peer_named (if b then None else past.naming n) ≡ (if b then peer_named (r.naming place) else peer_named (past.naming n))
        named n true e = nobody
        named n false e = refl

agrees-destroy : (c : Configuration) (past : Past) (w : World) (by : ℕ) (s : Slot) → IsSoundWorld c w → PathsAgree past w
    → Leads w (AgreesBy past by (verbs.DestroyQp s)) (destroy_qp_plan (call_of by (verbs.DestroyQp s)) s)
agrees-destroy c past w by s sound agree = agrees-present c w P call s _ sound agree (λ q is name.
    leads-around w P q (λ a. Unless_plan call ((nat_lt 0 q.windows, WindowsBound) ∷ []) (ending q a))
    (leads-unless w P ((nat_lt 0 q.windows, WindowsBound) ∷ []) (Refuse_plan call) (ending q (around_in w q (shared_of w q))) (λ r. agree)
    (destroy-agrees past w by s (without_object (w.domain s.domain)) q (around_in w q (shared_of w q)) agree is name)))
  where
    call : Call
    call = call_of by (verbs.DestroyQp s)

    P : World → List Mark → Type 0
    P = AgreesBy past by (verbs.DestroyQp s)

    ending : QueuePair → Around → Plan
    ending q a = Answer_plan call answers.Fine
        ((Domain_of s.domain := without_object (w.domain s.domain))
        ∷ (Queue_of q.queue := NoQueue q.incarnation q.requester.timers)
        ∷ (Mailbox_of q.queue := emptied_mailbox q.incarnation (w.mailbox q.queue))
        ∷ (Cq_of (send_cq_of q) := option_map (without_queue q) a.send)
        ∷ (Cq_of (recv_cq_of q) := option_map (without_queue q) a.recv)
        ∷ left_updates q a)
        []

-- a poll frees places, and leaves incarnations and peers
polled-same : (name : QueueId) (xs : List Completion) (p : QueuePair) → ((after_poll name xs p).incarnation ≡ p.incarnation) × ((after_poll name xs p).peer ≡ p.peer)
polled-same name [] p = (refl, refl)
polled-same name (x ∷ xs) p = ((polled-same name xs after).0 ∙ (one (queue_eq x.queue name) x.receive).0, (polled-same name xs after).1 ∙ (one (queue_eq x.queue name) x.receive).1)
  where
    freed : Bool → QueuePair
    freed true = record p { receives = option_map (after_retire x.place) p.receives }
    freed false = record p { sends = after_retire x.place p.sends }

    after : QueuePair
    after = if queue_eq x.queue name then freed x.receive else p

    one : (b r : Bool) → ((if b then freed r else p).incarnation ≡ p.incarnation) × ((if b then freed r else p).peer ≡ p.peer)
    one true true = (refl, refl)
    one true false = (refl, refl)
    one false r = (refl, refl)

polled-kept : (w : World) (name : QueueId) (polled : List Completion) → IsKept w (Queue_of name) (slot_after_poll name polled (w.queue name))
polled-kept w name polled = by (w.queue name)
  where
    by : (slot : QueueSlot) → (incarnation_of (slot_after_poll name polled slot) ≡ incarnation_of slot) × (peer_in (slot_after_poll name polled slot) ≡ peer_in slot)
    by (NoQueue incarnation timers) = (refl, refl)
    by (Present p) = polled-same name polled p

with-place : (w : World) (P : World → List Mark → Type 0) (s : Slot) (cq : CompletionQueue) (polled : List Completion) (x : Completion) (k : Update → Plan)
    → ((u : Update) → IsKept w u.name u.thing → Leads w P (k u)) → Leads w P (With_place s cq polled x k)
with-place w P s cq polled x k more = by (source_of_completion cq x)
  where
    shared : ℕ → Slot
    shared srq = record { domain = s.domain; slot = srq }

    placing : Option ℕ → Plan
    placing None = Look (Queue_of x.queue) (λ slot. k (Queue_of x.queue := slot_after_poll x.queue polled slot))
    placing (Some srq) = Look (Srq_of (shared srq)) (λ slot.
        k (Srq_of (shared srq) := record slot { srq = option_map (receives_after_poll cq srq polled) slot.srq }))

    by : (o : Option ℕ) → Leads w P (placing o)
    by None = more (Queue_of x.queue := slot_after_poll x.queue polled (w.queue x.queue)) (polled-kept w x.queue polled)
    by (Some srq) = more _ (record {})

with-places : (w : World) (P : World → List Mark → Type 0) (s : Slot) (cq : CompletionQueue) (polled xs : List Completion) (k : List Update → Plan)
    → ((us : List Update) → AreKept w us → Leads w P (k us)) → Leads w P (With_places s cq polled xs k)
with-places w P s cq polled [] k more = more [] (record {})
with-places w P s cq polled (x ∷ xs) k more = with-place w P s cq polled x (λ u. With_places s cq polled xs (λ us. k (u ∷ us)))
    (λ u kept. with-places w P s cq polled xs (λ us. k (u ∷ us)) (λ us rest. more (u ∷ us) (kept, rest)))

agrees-poll : (past : Past) (w : World) (by : ℕ) (s : Slot) (n least : ℕ) → PathsAgree past w
    → Leads w (AgreesBy past by (verbs.Poll s n least)) (poll_plan (call_of by (verbs.Poll s n least)) s n least)
agrees-poll past w by s n least agree = at (w.cq s)
  where
    call : Call
    call = call_of by (verbs.Poll s n least)

    P : World → List Mark → Type 0
    P = AgreesBy past by (verbs.Poll s n least)

    ending : CompletionQueue → List Completion → List Update → Plan
    ending cq polled us = Answer_plan call (answers.Polled polled) ((Cq_of s := Some (after_polls (length polled) cq)) ∷ us) []

    taken : (cq : CompletionQueue) (polled : List Completion) → Leads w P (Take_plan call s cq polled)
    taken cq polled = with-places w P s cq polled polled (ending cq polled) (λ us kept.
        agree-answer past (Behind past by (verbs.Poll s n least) (answers.Polled polled)) w ((Cq_of s := Some (after_polls (length polled) cq)) ∷ us) [] [] agree
        (record { incarnation = refl; naming = refl; envelopes = refl }) (record {}) (record {}, kept))

    at : (o : Option CompletionQueue) → Leads w P (Poll_of call s n least o)
    at None = agree
    at (Some cq) = leads-unless w P (((n == 0) || nat_lt MAX_POLLED n || nat_lt n least, OutOfRange fields.Length) ∷ []) (Refuse_plan call)
        (If (nat_lt (length cq.waiting) least) (Stuck reasons.Empty) (Take_plan call s cq (take n cq.waiting))) (λ r. agree)
        (λ few. record {}, λ enough. taken cq (take n cq.waiting))

agrees-inject : (c : Configuration) (past : Past) (w : World) (by : ℕ) (q : QueueId) (bytes : List ℕ) → IsSoundWorld c w → PathsAgree past w
    → Leads w (AgreesBy past by (verbs.Inject q bytes)) (inject_plan c (call_of by (verbs.Inject q bytes)) q bytes)
agrees-inject c past w by q bytes sound agree = at (w.queue q) refl
  where
    call : Call
    call = call_of by (verbs.Inject q bytes)

    P : World → List Mark → Type 0
    P = AgreesBy past by (verbs.Inject q bytes)

    arrives : QueueSlot → Plan
    arrives (NoQueue incarnation timers) = Refuse_plan call NoSuch
    arrives (Present p) = Arrive c p bytes None [] (answer_mark call answers.Fine ∷ [])

    at : (s : QueueSlot) → w.queue q ≡ s → Leads w P (arrives s)
    at (NoQueue incarnation timers) is = agree
    at (Present p) is = agrees-arrive c w P p bytes None [] (answer_mark call answers.Fine ∷ []) (found c w q p sound is)
        (λ us ws ns kept inner. agree-answer past (Behind past by (verbs.Inject q bytes) answers.Fine) w us ws ns agree (record { incarnation = refl; naming = refl; envelopes = refl }) inner kept)

agrees-verb : (c : Configuration) (past : Past) (w : World) (by : ℕ) (verb : Verb) → IsSoundWorld c w → PathsAgree past w → Leads w (AgreesBy past by verb) (verb_plan c (call_of by verb) verb)
agrees-verb c past w by (verbs.AllocPd domain) sound agree = search (rules, agree)
agrees-verb c past w by (verbs.DeallocPd domain) sound agree = search (rules, agree)
agrees-verb c past w by (verbs.RegMr slot buffer offset count rights) sound agree = search (rules, agree)
agrees-verb c past w by (verbs.AllocMr slot pages) sound agree = search (rules, agree)
agrees-verb c past w by (verbs.DeregMr slot) sound agree = search (rules, agree)
agrees-verb c past w by (verbs.AllocMw slot kind) sound agree = search (rules, agree)
agrees-verb c past w by (verbs.DeallocMw slot) sound agree = search (rules, agree)
agrees-verb c past w by (verbs.CreateCq slot capacity) sound agree = search (rules, agree)
agrees-verb c past w by (verbs.DestroyCq slot) sound agree = search (rules, agree)
agrees-verb c past w by (verbs.CreateSrq slot depth) sound agree = search (rules, agree)
agrees-verb c past w by (verbs.DestroySrq slot) sound agree = search (rules, agree)
agrees-verb c past w by (verbs.CreateQp slot send_cq recv_cq send_depth recv_depth srq) sound agree = agrees-create c past w by (record {
  slot = slot;
  send_cq = send_cq;
  recv_cq = recv_cq;
  send_depth = send_depth;
  recv_depth = recv_depth;
  srq = srq;
}) agree
agrees-verb c past w by (verbs.ModifyQp slot change) sound agree = agrees-modify c past w by slot change sound agree
agrees-verb c past w by (verbs.QueryQp slot) sound agree = search (rules, agree)
agrees-verb c past w by (verbs.DestroyQp slot) sound agree = agrees-destroy c past w by slot sound agree
agrees-verb c past w by (verbs.PostSend slot request) sound agree = agrees-post_send c past w by slot request sound agree
agrees-verb c past w by (verbs.PostRecv slot request) sound agree = agrees-post_recv c past w by slot request sound agree
agrees-verb c past w by (verbs.PostSrq slot request) sound agree = search (rules, agree)
agrees-verb c past w by (verbs.Poll slot n least) sound agree = agrees-poll past w by slot n least agree
agrees-verb c past w by (verbs.Store adapter buffer offset bytes) sound agree = search (rules, agree)
agrees-verb c past w by (verbs.Load adapter buffer offset count) sound agree = search (rules, agree)
agrees-verb c past w by (verbs.Inject queue bytes) sound agree = agrees-inject c past w by queue bytes sound agree

agrees-event : (c : Configuration) (past : Past) (w : World) (event : Event) → IsSoundWorld c w → PathsAgree past w → Leads w (Agrees past event) (plan c event)
agrees-event c past w (events.Verb by verb) sound agree = (λ named. agrees-verb c past w by verb sound agree, λ none. refused verb)
  where
    -- a verb that is refused tells of no path
    refused : (verb : Verb) → Leads w (AgreesBy past by verb) (Refuse_plan (call_of by verb) NoSuch)
    refused (verbs.AllocPd domain) = agree
    refused (verbs.DeallocPd domain) = agree
    refused (verbs.RegMr slot buffer offset count rights) = agree
    refused (verbs.AllocMr slot pages) = agree
    refused (verbs.DeregMr slot) = agree
    refused (verbs.AllocMw slot kind) = agree
    refused (verbs.DeallocMw slot) = agree
    refused (verbs.CreateCq slot capacity) = agree
    refused (verbs.DestroyCq slot) = agree
    refused (verbs.CreateSrq slot depth) = agree
    refused (verbs.DestroySrq slot) = agree
    refused (verbs.CreateQp slot send_cq recv_cq send_depth recv_depth srq) = agree
    refused (verbs.ModifyQp slot change) = agree
    refused (verbs.QueryQp slot) = agree
    refused (verbs.DestroyQp slot) = agree
    refused (verbs.PostSend slot request) = agree
    refused (verbs.PostRecv slot request) = agree
    refused (verbs.PostSrq slot request) = agree
    refused (verbs.Poll slot n least) = agree
    refused (verbs.Store adapter buffer offset bytes) = agree
    refused (verbs.Load adapter buffer offset count) = agree
    refused (verbs.Inject queue bytes) = agree
agrees-event c past w (events.Request queue lot) sound agree = agrees-request c past (events.Request queue lot) w queue lot sound agree
agrees-event c past w (events.Deliver queue index) sound agree = agrees-deliver c past (events.Deliver queue index) w queue index sound agree
agrees-event c past w (events.Respond queue lot) sound agree = agrees-respond c past (events.Respond queue lot) w queue lot sound agree
agrees-event c past w (events.Timeout queue hasten) sound agree = agrees-timeout c past (events.Timeout queue hasten) w queue hasten sound agree
agrees-event c past w (events.RnrWake queue) sound agree = agrees-wake c past (events.RnrWake queue) w queue sound agree

-- the event's marks leave a past that agrees with the world that it leaves
pub event-agrees : (c : Configuration) (past : Past) (w : World) (event : Event) → IsSoundWorld c w → PathsAgree past w
    → Comes (λ v ms. PathsAgree (after_marks ms (at_begin event past)) v) (step c w event)
event-agrees c past w event sound agree = comes w (Agrees past event) (plan c event) (agrees-event c past w event sound agree)

pub opening-agrees : (bytes : ByteMap) → PathsAgree (opening_past bytes) (opening_world bytes)
opening-agrees bytes = record { incarnations = λ q. refl; peers = λ q. refl; owners = λ q. refl; accepted = λ q. refl; counts = λ q. refl; numbered = λ q. record {}; latest = λ q. record {} }

along : (c : Configuration) (n : ℕ) (es : List EntryValue) (past : Past) (w : World) → AreLimited c → AllByRecursion (λ e. CanBeMade e.event) es → IsSoundWorld c w → PathsAgree past w
    → run_from c n w (map (λ e. e.event) es) ≡ Ok (map (λ e. e.marks) es) → HoldsAlong PathsAgree c past w es
along c n [] past w limited made sound agree follows = agree
along c n (e ∷ es) past w limited made sound agree follows = (
  agree,
  by (step c w e.event) (event-agrees c past w e.event sound agree) (event-sound c e.event w limited sound made.0) follows
      (λ v whole next told. along c (suc n) es (after_entry e past) v limited made.1 whole next told),
)
  where
    Rest : Type 0
    Rest = (v : World) → IsSoundWorld c v → PathsAgree (after_entry e past) v → run_from c (suc n) v (map (λ e. e.event) es) ≡ Ok (map (λ e. e.marks) es)
        → HoldsAlong PathsAgree c (after_entry e past) v es

    stopped : Ran → Bool
    stopped (Ok told) = false
    stopped (Err stop) = true

    by : (o : Outcome) → Comes (λ v ms. PathsAgree (after_marks ms (at_begin e.event past)) v) o → Afterwards (IsSoundWorld c) o
        → go_on n o (λ v. run_from c (suc n) v (map (λ e. e.event) es)) ≡ Ok (e.marks ∷ map (λ e. e.marks) es) → Rest
        → Afterwards (λ v. HoldsAlong PathsAgree c (after_entry e past) v es) o
    by (NotReady reason) agrees whole follows rest = record {}
    by (Did v ms) agrees whole follows rest = at (first-marks ms e.marks (run_from c (suc n) v (map (λ e. e.event) es)) (map (λ e. e.marks) es) follows)
      where
        at : (ms ≡ e.marks) × (run_from c (suc n) v (map (λ e. e.event) es) ≡ Ok (map (λ e. e.marks) es)) → HoldsAlong PathsAgree c (after_entry e past) v es
        at told = rest v whole (subst (λ xs. PathsAgree (after_marks xs (at_begin e.event past)) v) told.0 agrees) told.1

pub paths-along : (c : Configuration) (bytes : ByteMap) (es : List EntryValue) → AreLimited c → AllByRecursion (λ e. CanBeMade e.event) es → Follows c bytes es
    → HoldsAlong PathsAgree c (opening_past bytes) (opening_world bytes) es
paths-along c bytes es limited made follows = along c 0 es (opening_past bytes) (opening_world bytes) limited made (opening-sound c bytes) (opening-agrees bytes) follows
