-- Changes of queue pairs keep the agreement on paths, and so does every event. For proofs only.
use Rattle.std.proofs.Common.{◌≡◌, ℕ, suc, Bool, true, false, if◌then◌else◌, List, [], ◌∷◌, map, length, Option, None, Some, refl, sym, ap, subst, ◌∙◌}
use Rattle.std.proofs.lemmas.List.{length-map}
use Rattle.std.specs.Option.{option_map}
use Rattle.ca_law_endings.specs.Agreement.{AgreeOnPaths, AreLatest, AreNumbered, PathsAgree, peer_in, peer_named}
use Rattle.ca_law_endings.proofs.MailLemmas.{cut-latest, cut-numbered, peer-latest}
use Rattle.ca_law_endings.specs.Runs.{Leads}
use Rattle.ca_law_endings.proofs.InnerLemmas.{own-inner, AreInner, flush-inner}
use Rattle.ca_law_endings.proofs.LeadsLemmas.{leads-around, leads-unless}
use Rattle.ca_law_endings.proofs.PathLemmas.{AreKept, SamePaths}
use Rattle.ca_law_endings.proofs.PathVerbLemmas.{AgreesBy, agree-answer, agree-more, agrees-present, call_of, queue-kept}
use Rattle.ca_base.specs.Configuration.{Configuration}
use Rattle.ca_base.specs.declared.change.Change as state_change
use Rattle.ca_base.specs.declared.change.Change.TheVariants as changes
use Rattle.ca_base.specs.objects.Mailbox.{Mailbox, with_peer}
use Rattle.ca_base.specs.objects.QueuePair.{QueuePair, QueueSlot, Present, incarnation_of, srq_of}
use Rattle.ca_base.specs.objects.SharedReceives.{SharedReceives, SrqSlot, after_receives_retire}
use Rattle.ca_base.specs.objects.StateTable.{modify_refusals, queue_after_change}
use Rattle.ca_keys.specs.Equal.{queue_eq}
use Rattle.ca_keys.specs.Numbers.{queue_of}
use Rattle.ca_keys.specs.declared.names.QueueId.{QueueId}
use Rattle.ca_keys.specs.declared.names.Slot.{Slot}
use Rattle.ca_model.specs.Past.{Naming, Past, after_mark, after_marks, at_begin, with_at, with_cut, with_queue_emptied}
use Rattle.ca_model.specs.declared.answer.Answer.{Answer}
use Rattle.ca_model.specs.declared.answer.Answer.TheVariants as answers
use Rattle.ca_model.specs.declared.answer.Refusal.{Refusal}
use Rattle.ca_model.specs.declared.event.Event.TheVariants as events
use Rattle.ca_model.specs.declared.mark.Mark.{Mark}
use Rattle.ca_model.specs.declared.verb.Verb.{Verb}
use Rattle.ca_model.specs.declared.verb.Verb.TheVariants as verbs
use Rattle.ca_model.specs.machine.Around.{Around, With_around, cq_updates, srq_updates}
use Rattle.ca_model.specs.machine.Completions.{flush_marks}
use Rattle.ca_model.specs.machine.Plan.{Update, ◌:=◌, put_all}
use Rattle.ca_model.specs.machine.QueuePairVerbs.{emptied_mailbox, emptied_updates, modify_qp_plan, places_held}
use Rattle.ca_model.specs.machine.Sound.{IsSoundWorld}
use Rattle.ca_model.specs.machine.VerbAnswers.{Answer_plan, Call, Refuse_plan, Unless_plan, answer_mark, of_change_refusals}
use Rattle.ca_model.specs.machine.World.{Mailbox_of, Queue_of, Srq_of, World}
use Rattle.ca_law_world.proofs.Sound.WorldLemmas.{around_in, shared_of}
use Rattle.ca_law_world.proofs.Sound.SettledLemmas.{queue-path, queue-refl}

srq-kept : (v : World) (q : QueuePair) (a : Around) (f : SharedReceives → SharedReceives) → AreKept v (srq_updates q a f)
srq-kept v q a f = by q.srq a.shared
  where
    updates : Option ℕ → Option SrqSlot → List Update
    updates (Some srq) (Some slot) = (Srq_of (srq_of q srq) := record slot { srq = option_map f slot.srq }) ∷ []
    updates srq slot = []

    by : (o : Option ℕ) (t : Option SrqSlot) → AreKept v (updates o t)
    by None t = record {}
    by (Some srq) None = record {}
    by (Some srq) (Some slot) = (record {}, record {})

-- the envelopes of a queue pair that were cut are as many, and so are those of the others
pub cut-lengths : (name : QueueId) (p : Past) (n : QueueId) → length ((with_queue_emptied name p).envelopes n) ≡ length (p.envelopes n)
cut-lengths name p n = by (queue_eq name n) refl
  where
    by : (b : Bool) → queue_eq name n ≡ b → length (if b then map with_cut (p.envelopes name) else p.envelopes n) ≡ length (p.envelopes n)
    by true e = length-map (p.envelopes name) with_cut ∙ ap (λ k. length (p.envelopes k)) (queue-path name n e)
    by false e = refl

-- a queue pair takes another's place under one name: its slot, its mailbox, and what the past says of both
pub replaced : (p r : Past) (w : World) (name : QueueId) (slot : QueueSlot) (box : Mailbox) → PathsAgree p w
    → ((n : QueueId) → r.incarnation n ≡ (if queue_eq name n then r.incarnation name else p.incarnation n))
    → ((n : QueueId) → peer_named (r.naming n) ≡ (if queue_eq name n then peer_named (r.naming name) else peer_named (p.naming n)))
    → ((n : QueueId) → length (r.envelopes n) ≡ length (p.envelopes n))
    → incarnation_of slot ≡ r.incarnation name → peer_in slot ≡ peer_named (r.naming name) → box.incarnation ≡ r.incarnation name → box.peer ≡ peer_named (r.naming name)
    → box.next ≡ (w.mailbox name).next → ((n : QueueId) → AreNumbered (r.envelopes n))
    → ((n : QueueId) → AreLatest (if queue_eq name n then box else w.mailbox n).envelopes (r.envelopes n))
    → AgreeOnPaths r.incarnation r.naming r.envelopes (with_at queue_eq w.queue name slot) (with_at queue_eq w.mailbox name box)
replaced p r w name slot box agree incarnations namings lengths incarnation peer owner accepts next numbered latest = record {
  incarnations = λ n. of-incarnation n (queue_eq name n) refl ∙ sym (incarnations n);
  peers = λ n. of-peer n (queue_eq name n) refl ∙ sym (namings n);
  owners = λ n. of-owner n (queue_eq name n) refl ∙ sym (incarnations n);
  accepted = λ n. of-accepted n (queue_eq name n) refl ∙ sym (namings n);
  counts = λ n. of-count n (queue_eq name n) refl ∙ sym (lengths n);
  numbered = numbered;
  latest = latest;
}
  where
    of-incarnation : (n : QueueId) (b : Bool) → queue_eq name n ≡ b → incarnation_of (if b then slot else w.queue n) ≡ (if b then r.incarnation name else p.incarnation n)
    of-incarnation n true e = incarnation
    of-incarnation n false e = agree.incarnations n

    of-peer : (n : QueueId) (b : Bool) → queue_eq name n ≡ b → peer_in (if b then slot else w.queue n) ≡ (if b then peer_named (r.naming name) else peer_named (p.naming n))
    of-peer n true e = peer
    of-peer n false e = agree.peers n

    of-owner : (n : QueueId) (b : Bool) → queue_eq name n ≡ b → (if b then box else w.mailbox n).incarnation ≡ (if b then r.incarnation name else p.incarnation n)
    of-owner n true e = owner
    of-owner n false e = agree.owners n

    of-accepted : (n : QueueId) (b : Bool) → queue_eq name n ≡ b → (if b then box else w.mailbox n).peer ≡ (if b then peer_named (r.naming name) else peer_named (p.naming n))
    of-accepted n true e = accepts
    of-accepted n false e = agree.accepted n

    of-count : (n : QueueId) (b : Bool) → queue_eq name n ≡ b → (if b then box else w.mailbox n).next ≡ length (p.envelopes n)
    of-count n true e = next ∙ agree.counts name ∙ ap (λ k. length (p.envelopes k)) (queue-path name n e)
    of-count n false e = agree.counts n

-- the verb's answer, and the past behind it
abbrev pub Behind : Past → ℕ → Verb → Answer → Past
Behind past by verb answer = after_mark (answer_mark (call_of by verb) answer) (at_begin (events.Verb by verb) past)

-- a function with another value at one of its places, there
pub at-place : {A : Type 0} (f : QueueId → A) (name : QueueId) (x : A) → with_at queue_eq f name x name ≡ x
at-place f name x = ap (λ b. if b then x else f name) (queue-refl name)

-- one that had the value already
same-place : {A : Type 0} (f : QueueId → A) (name : QueueId) (x : A) (n : QueueId) → x ≡ f name → with_at queue_eq f name x n ≡ f n
same-place f name x n same = by (queue_eq name n) refl
  where
    by : (b : Bool) → queue_eq name n ≡ b → (if b then x else f n) ≡ f n
    by true e = same ∙ ap f (queue-path name n e)
    by false e = refl

-- a queue pair is reset
reset-agrees : (past : Past) (w : World) (by : ℕ) (s : Slot) (q : QueuePair) (a : Around) → PathsAgree past w → w.queue q.queue ≡ Present q → q.queue ≡ queue_of s
    → PathsAgree (Behind past by (verbs.ModifyQp s changes.Reset) answers.Fine)
    (put_all ((Queue_of q.queue := Present (queue_after_change changes.Reset q))
    ∷ (Mailbox_of q.queue := emptied_mailbox (queue_after_change changes.Reset q).incarnation (w.mailbox q.queue)) ∷ emptied_updates q a) w)
reset-agrees past w by s q a agree is name = agree-more r v (emptied_updates q a) (subst (λ k. AgreeOnPaths r.incarnation r.naming r.envelopes (with_at queue_eq w.queue k slot) (with_at queue_eq w.mailbox k (box k))) (sym name) moved)
    (record {}, (record {}, srq-kept v q a (after_receives_retire (places_held q a))))
  where
    r : Past
    r = Behind past by (verbs.ModifyQp s changes.Reset) answers.Fine

    slot : QueueSlot
    slot = Present (queue_after_change changes.Reset q)

    box : QueueId → Mailbox
    box k = emptied_mailbox (queue_after_change changes.Reset q).incarnation (w.mailbox k)

    v : World
    v = put_all ((Queue_of q.queue := slot) ∷ (Mailbox_of q.queue := box q.queue) ∷ []) w

    place : QueueId
    place = queue_of s

    incarnation : suc q.incarnation ≡ r.incarnation place
    incarnation = ap suc (sym (ap incarnation_of is) ∙ agree.incarnations q.queue ∙ ap past.incarnation name) ∙ sym (at-place past.incarnation place (suc (past.incarnation place)))

    nobody : None ≡ peer_named (r.naming place)
    nobody = sym (ap peer_named (at-place (with_at queue_eq past.naming place None) place None))

    moved : AgreeOnPaths r.incarnation r.naming r.envelopes (with_at queue_eq w.queue place slot) (with_at queue_eq w.mailbox place (box place))
    moved = replaced past r w place slot (box place) agree (λ n. counted n (queue_eq place n) refl) (λ n. named n (queue_eq place n) refl) (cut-lengths place past)
        incarnation nobody incarnation nobody refl (cut-numbered place past w agree) (cut-latest place past w (queue_after_change changes.Reset q).incarnation (w.mailbox place) agree)
      where
        counted : (n : QueueId) (b : Bool) → queue_eq place n ≡ b → (if b then suc (past.incarnation place) else past.incarnation n) ≡ (if b then r.incarnation place else past.incarnation n)
        counted n true e = sym (at-place past.incarnation place (suc (past.incarnation place)))
        counted n false e = refl

        named : (n : QueueId) (b : Bool) → queue_eq place n ≡ b
            → peer_named (if b then None else if b then None else past.naming n) ≡ (if b then peer_named (r.naming place) else peer_named (past.naming n))
        named n true e = nobody
        named n false e = refl

-- a queue pair names its peer
rtr-agrees : (past : Past) (w : World) (by : ℕ) (s : Slot) (q : QueuePair) (peer : QueueId) (incarnation psn mtu rnr_code : ℕ) → PathsAgree past w → w.queue q.queue ≡ Present q → q.queue ≡ queue_of s
    → PathsAgree (Behind past by (verbs.ModifyQp s (changes.Rtr peer incarnation psn mtu rnr_code)) answers.Fine)
    (put_all ((Queue_of q.queue := Present (queue_after_change (changes.Rtr peer incarnation psn mtu rnr_code) q))
    ∷ (Mailbox_of q.queue := with_peer q.incarnation (Some (record { queue = peer; incarnation = incarnation })) (w.mailbox q.queue)) ∷ []) w)
rtr-agrees past w by s q peer incarnation psn mtu rnr_code agree is name =
    subst (λ k. AgreeOnPaths r.incarnation r.naming r.envelopes (with_at queue_eq w.queue k slot) (with_at queue_eq w.mailbox k (box k))) (sym name) moved
  where
    r : Past
    r = Behind past by (verbs.ModifyQp s (changes.Rtr peer incarnation psn mtu rnr_code)) answers.Fine

    slot : QueueSlot
    slot = Present (queue_after_change (changes.Rtr peer incarnation psn mtu rnr_code) q)

    box : QueueId → Mailbox
    box k = with_peer q.incarnation (Some (record { queue = peer; incarnation = incarnation })) (w.mailbox k)

    place : QueueId
    place = queue_of s

    naming : Naming
    naming = record {
      own = record { queue = place; incarnation = past.incarnation place };
      peer = record { queue = peer; incarnation = incarnation };
      psn = psn;
      mtu = mtu;
    }

    counts : q.incarnation ≡ past.incarnation place
    counts = sym (ap incarnation_of is) ∙ agree.incarnations q.queue ∙ ap past.incarnation name

    names : Some (record { queue = peer; incarnation = incarnation }) ≡ peer_named (r.naming place)
    names = sym (ap peer_named (at-place past.naming place (Some naming)))

    moved : AgreeOnPaths r.incarnation r.naming r.envelopes (with_at queue_eq w.queue place slot) (with_at queue_eq w.mailbox place (box place))
    moved = replaced past r w place slot (box place) agree (λ n. counted n (queue_eq place n) refl) (λ n. named n (queue_eq place n) refl) (λ n. refl) counts names counts names refl agree.numbered
        (peer-latest place past w q.incarnation (Some (record { queue = peer; incarnation = incarnation })) agree)
      where
        counted : (n : QueueId) (b : Bool) → queue_eq place n ≡ b → past.incarnation n ≡ (if b then past.incarnation place else past.incarnation n)
        counted n true e = sym (ap past.incarnation (queue-path place n e))
        counted n false e = refl

        named : (n : QueueId) (b : Bool) → queue_eq place n ≡ b → peer_named (if b then Some naming else past.naming n) ≡ (if b then peer_named (r.naming place) else peer_named (past.naming n))
        named n true e = names
        named n false e = refl

-- a change that leaves incarnation and peer, with what it flushes
still-agrees : (past : Past) (w : World) (by : ℕ) (s : Slot) (change : state_change.Change) (q : QueuePair) (more : List Update) (ms : List Mark) → PathsAgree past w → w.queue q.queue ≡ Present q
    → (queue_after_change change q).incarnation ≡ q.incarnation → (queue_after_change change q).peer ≡ q.peer → SamePaths past (Behind past by (verbs.ModifyQp s change) answers.Fine) → AreInner ms
    → AreKept w more
    → PathsAgree (after_marks ms (Behind past by (verbs.ModifyQp s change) answers.Fine)) (put_all ((Queue_of q.queue := Present (queue_after_change change q)) ∷ more) w)
still-agrees past w by s change q more ms agree is incarnation peer same inner kept =
    agree-answer past (Behind past by (verbs.ModifyQp s change) answers.Fine) w ((Queue_of q.queue := Present (queue_after_change change q)) ∷ more) [] ms agree same inner
    (queue-kept w q (queue_after_change change q) is incarnation peer, kept)

-- the plan of a change of a queue pair, by what it changes around it and what it flushes
agrees-change : (w : World) (P : World → List Mark → Type 0) (call : Call) (q : QueuePair) (tests : List (Bool × Refusal)) (updates : Around → List Update) (ms : List Mark)
    → ((r : Refusal) → Leads w P (Refuse_plan call r)) → P (put_all (updates (around_in w q (shared_of w q))) w) (answer_mark call answers.Fine ∷ ms)
    → Leads w P (With_around q (λ a. Unless_plan call tests (Answer_plan call answers.Fine (updates a) ms)))
agrees-change w P call q tests updates ms refused more = leads-around w P q (λ a. Unless_plan call tests (Answer_plan call answers.Fine (updates a) ms))
    (leads-unless w P tests (Refuse_plan call) (Answer_plan call answers.Fine (updates (around_in w q (shared_of w q))) ms) refused more)

pub agrees-modify : (c : Configuration) (past : Past) (w : World) (by : ℕ) (s : Slot) (change : state_change.Change) → IsSoundWorld c w → PathsAgree past w
    → Leads w (AgreesBy past by (verbs.ModifyQp s change)) (modify_qp_plan c (call_of by (verbs.ModifyQp s change)) s change)
agrees-modify c past w by s changes.Error sound agree = agrees-present c w (AgreesBy past by (verbs.ModifyQp s changes.Error)) (call_of by (verbs.ModifyQp s changes.Error)) s _ sound agree (λ q is name.
    agrees-change w (AgreesBy past by (verbs.ModifyQp s changes.Error)) (call_of by (verbs.ModifyQp s changes.Error)) q (of_change_refusals (modify_refusals c q changes.Error))
    (λ a. (Queue_of q.queue := Present (queue_after_change changes.Error q)) ∷ cq_updates q a (flush_marks q)) (flush_marks q) (λ r. agree)
    (still-agrees past w by s changes.Error q (cq_updates q (around_in w q (shared_of w q)) (flush_marks q)) (flush_marks q) agree is refl refl (record { incarnation = refl; naming = refl; envelopes = refl }) (own-inner (flush_marks q) (flush-inner q)) (record {}, (record {}, record {}))))
agrees-modify c past w by s changes.Reset sound agree = agrees-present c w (AgreesBy past by (verbs.ModifyQp s changes.Reset)) (call_of by (verbs.ModifyQp s changes.Reset)) s _ sound agree (λ q is name.
    agrees-change w (AgreesBy past by (verbs.ModifyQp s changes.Reset)) (call_of by (verbs.ModifyQp s changes.Reset)) q (of_change_refusals (modify_refusals c q changes.Reset))
    (λ a. (Queue_of q.queue := Present (queue_after_change changes.Reset q)) ∷ (Mailbox_of q.queue := emptied_mailbox (queue_after_change changes.Reset q).incarnation (w.mailbox q.queue)) ∷ emptied_updates q a) [] (λ r. agree)
    (reset-agrees past w by s q (around_in w q (shared_of w q)) agree is name))
agrees-modify c past w by s (changes.Rtr peer incarnation psn mtu rnr_code) sound agree = agrees-present c w (AgreesBy past by (verbs.ModifyQp s (changes.Rtr peer incarnation psn mtu rnr_code))) (call_of by (verbs.ModifyQp s (changes.Rtr peer incarnation psn mtu rnr_code))) s _ sound agree (λ q is name.
    agrees-change w (AgreesBy past by (verbs.ModifyQp s (changes.Rtr peer incarnation psn mtu rnr_code))) (call_of by (verbs.ModifyQp s (changes.Rtr peer incarnation psn mtu rnr_code))) q (of_change_refusals (modify_refusals c q (changes.Rtr peer incarnation psn mtu rnr_code)))
    (λ a. (Queue_of q.queue := Present (queue_after_change (changes.Rtr peer incarnation psn mtu rnr_code) q)) ∷ (Mailbox_of q.queue := with_peer q.incarnation (Some (record { queue = peer; incarnation = incarnation })) (w.mailbox q.queue)) ∷ []) [] (λ r. agree)
    (rtr-agrees past w by s q peer incarnation psn mtu rnr_code agree is name))
agrees-modify c past w by s changes.Init sound agree = agrees-present c w (AgreesBy past by (verbs.ModifyQp s changes.Init)) (call_of by (verbs.ModifyQp s changes.Init)) s _ sound agree (λ q is name.
    agrees-change w (AgreesBy past by (verbs.ModifyQp s changes.Init)) (call_of by (verbs.ModifyQp s changes.Init)) q (of_change_refusals (modify_refusals c q changes.Init))
    (λ a. (Queue_of q.queue := Present (queue_after_change changes.Init q)) ∷ []) [] (λ r. agree)
    (still-agrees past w by s changes.Init q [] [] agree is refl refl (record { incarnation = refl; naming = refl; envelopes = refl }) (record {}) (record {})))
agrees-modify c past w by s (changes.Rts psn retry rnr_retry reads) sound agree = agrees-present c w (AgreesBy past by (verbs.ModifyQp s (changes.Rts psn retry rnr_retry reads))) (call_of by (verbs.ModifyQp s (changes.Rts psn retry rnr_retry reads))) s _ sound agree (λ q is name.
    agrees-change w (AgreesBy past by (verbs.ModifyQp s (changes.Rts psn retry rnr_retry reads))) (call_of by (verbs.ModifyQp s (changes.Rts psn retry rnr_retry reads))) q (of_change_refusals (modify_refusals c q (changes.Rts psn retry rnr_retry reads)))
    (λ a. (Queue_of q.queue := Present (queue_after_change (changes.Rts psn retry rnr_retry reads) q)) ∷ []) [] (λ r. agree)
    (still-agrees past w by s (changes.Rts psn retry rnr_retry reads) q [] [] agree is refl refl (record { incarnation = refl; naming = refl; envelopes = refl }) (record {}) (record {})))
agrees-modify c past w by s changes.Sqd sound agree = agrees-present c w (AgreesBy past by (verbs.ModifyQp s changes.Sqd)) (call_of by (verbs.ModifyQp s changes.Sqd)) s _ sound agree (λ q is name.
    agrees-change w (AgreesBy past by (verbs.ModifyQp s changes.Sqd)) (call_of by (verbs.ModifyQp s changes.Sqd)) q (of_change_refusals (modify_refusals c q changes.Sqd))
    (λ a. (Queue_of q.queue := Present (queue_after_change changes.Sqd q)) ∷ []) [] (λ r. agree)
    (still-agrees past w by s changes.Sqd q [] [] agree is refl refl (record { incarnation = refl; naming = refl; envelopes = refl }) (record {}) (record {})))
agrees-modify c past w by s changes.Resume sound agree = agrees-present c w (AgreesBy past by (verbs.ModifyQp s changes.Resume)) (call_of by (verbs.ModifyQp s changes.Resume)) s _ sound agree (λ q is name.
    agrees-change w (AgreesBy past by (verbs.ModifyQp s changes.Resume)) (call_of by (verbs.ModifyQp s changes.Resume)) q (of_change_refusals (modify_refusals c q changes.Resume))
    (λ a. (Queue_of q.queue := Present (queue_after_change changes.Resume q)) ∷ []) [] (λ r. agree)
    (still-agrees past w by s changes.Resume q [] [] agree is refl refl (record { incarnation = refl; naming = refl; envelopes = refl }) (record {}) (record {})))
