-- Verbs: what completes by them has its cause, and queue pairs in Error keep their faults. What changes no queue pair, what
-- keeps its state, and changes of state. For proofs only.
use Rattle.std.proofs.Common.{◌≡◌, ℕ, suc, ◌-◌, ◌&&◌, nat_lt, Bool, true, false, not, is_none, if◌then◌else◌, List, [], ◌∷◌, ◌++◌, Option, None, Some, refl, sym, ap, subst, ◌∙◌, true≢false}
use Rattle.std.specs.Option.{option_and_then, option_map}
use Rattle.ca_law_endings.proofs.LeadsLemmas.{leads-around, leads-unless}
use Rattle.ca_law_endings.proofs.PathChangeLemmas.{Behind}
use Rattle.ca_law_endings.proofs.PathVerbLemmas.{agrees-present, call_of}
use Rattle.ca_law_endings.specs.Runs.{Leads}
use Rattle.ca_law_keys.proofs.Keys.KeyTurnLemmas.{found}
use Rattle.ca_law_keys.specs.Posts.{life}
use Rattle.ca_law_order.proofs.Sends.TurnLemmas.{AreAway, queues-left, srq-away}
use Rattle.ca_law_caused.proofs.Caused.EndLemmas.{Passes, explained-idle, flush-agrees, slots-agree}
use Rattle.ca_law_caused.proofs.Caused.PassLemmas.{faults-other, faults-own}
use Rattle.ca_law_caused.proofs.Caused.TurnLemmas.{Causing, IsMet, was-there}
use Rattle.ca_law_keys.proofs.Posts.PostMade.{other-life}
use Rattle.ca_base.specs.declared.change.State.TheVariants as states
use Rattle.ca_base.specs.objects.StateTable.{state_eq}
use Rattle.ca_model.specs.Past.{ErrorByVerb}
use Rattle.ca_law_world.proofs.Sound.WorldLemmas.{IsThere}
use Rattle.ca_law_caused.specs.Explained.{AreExplained, CausesAgree, ExplainedInSlot, IsExplained, IsFollowed, QueuePast, is_faulty, queue_past}
use Rattle.ca_base.specs.Configuration.{Configuration}
use Rattle.ca_base.specs.declared.change.Change as state_change
use Rattle.ca_base.specs.declared.change.Change.TheVariants as changes
use Rattle.ca_base.specs.declared.change.Field.TheVariants as fields
use Rattle.ca_base.specs.objects.CompletionQueue.{CompletionQueue, after_reserve}
use Rattle.ca_base.specs.objects.Domain.{with_object, without_object}
use Rattle.ca_base.specs.objects.Mailbox.{with_peer}
use Rattle.ca_base.specs.objects.QueuePair.{QueuePair, NoQueue, Present, is_present, recv_cq_of, send_cq_of}
use Rattle.ca_base.specs.objects.SharedReceives.{SharedReceives, SrqSlot, after_receives_retire}
use Rattle.ca_base.specs.objects.StateTable.{modify_refusals, queue_after_change}
use Rattle.ca_keys.specs.Equal.{queue_eq}
use Rattle.ca_keys.specs.Numbers.{queue_of}
use Rattle.ca_keys.specs.declared.names.QueueId.{QueueId}
use Rattle.ca_keys.specs.declared.names.Slot.{Slot}
use Rattle.ca_law_world.proofs.Sound.SettledLemmas.{queue-path}
use Rattle.ca_law_world.proofs.Sound.WorldLemmas.{around_in, shared_of}
use Rattle.ca_model.specs.Past.{Past, with_at}
use Rattle.ca_model.specs.declared.answer.Answer.TheVariants as answers
use Rattle.ca_model.specs.declared.answer.Refusal.{Refusal}
use Rattle.ca_model.specs.declared.answer.Refusal.TheVariants.{CqTooSmall, NoDomain, NoSuch, OutOfRange, SlotTaken, WindowsBound}
use Rattle.ca_model.specs.declared.event.Event.TheVariants as events
use Rattle.ca_model.specs.declared.mark.Mark.{Mark}
use Rattle.ca_model.specs.declared.verb.Verb.{Verb}
use Rattle.ca_model.specs.declared.verb.Verb.TheVariants as verbs
use Rattle.ca_model.specs.machine.Around.{Around, With_around, cq_updates}
use Rattle.ca_model.specs.machine.Completions.{flush_marks}
use Rattle.ca_model.specs.machine.Plan.{Plan, If, Look, Update, ◌:=◌, put_all}
use Rattle.ca_model.specs.machine.QueuePairVerbs.{Creation, With_shared, before_receives, beside, create_qp_plan, destroy_qp_plan, emptied_mailbox, emptied_updates, has_bad_depth, has_no_room, has_queues, left_updates, modify_qp_plan, new_queue, places_held, receive_reserve, receive_room, send_reserved, user_updates, without_queue}
use Rattle.ca_model.specs.machine.VerbAnswers.{Answer_plan, Call, Refuse_plan, Unless_plan, answer_mark, of_change_refusals}
use Rattle.ca_model.specs.machine.World.{Byte_at, Cq_of, Domain_of, Mailbox_of, Name, Queue_of, Region_of, Srq_of, Thing, Window_of, World, put}
use Rattle.std.proofs.Common.{◌≤◌, ◌+◌, ap₂, find, take, sum_by, arith, true≢false, ◌∙◌}
use Rattle.ca_law_endings.proofs.Leading.{leads-unless-all}
use Rattle.ca_law_keys.proofs.Posts.PostMade.{life-refl}
use Rattle.ca_base.specs.declared.change.State.{State}
use Rattle.ca_base.specs.declared.limits.TheConstants.{MAX_RETRY, PSN_BASE}
use Rattle.ca_base.specs.objects.StateTable.{is_among}
use Rattle.ca_keys.specs.Refusals.{AllFail}
use Rattle.ca_law_world.proofs.Sound.QueueVerbLemmas.{change-fails}
use Rattle.ca_law_world.proofs.Sound.SettledLemmas.{queue-refl}
use Rattle.ca_model.specs.Past.{present_incarnation, Naming, Start, at_end, correspondent_eq, start_of, whole_start}
use Rattle.ca_model.specs.Progress.{progress_from}
use Rattle.ca_model.specs.Requests.{psns_of}
use Rattle.ca_model.specs.machine.Invariants.{is_connected, is_fresh, is_sending}
use Rattle.std.specs.Option.{option_map_or}

abbrev pub CausingBy : Past → ℕ → Verb → World → List Mark → Type 0
CausingBy past by verb = Causing past (events.Verb by verb)

-- ---- what keeps the sends

-- a world whose queue pairs have the sends of another's
pub record KeepsSlots (w v : World) : Type 0 where
  pub slots : (n : QueueId) (fs : QueuePast) → ExplainedInSlot fs (w.queue n) → ExplainedInSlot fs (v.queue n)

-- a change that leaves them
abbrev pub IsKept : World → (n : Name) → Thing n → Type 0
IsKept w (Queue_of q) s = (fs : QueuePast) → ExplainedInSlot fs (w.queue q) → ExplainedInSlot fs s
IsKept w n x = Unit {0}

abbrev pub AreKept : World → List Update → Type 0
AreKept w [] = Unit {0}
AreKept w (x ∷ xs) = IsKept w x.name x.thing × AreKept w xs

kept-put : (w v : World) (n : Name) (x : Thing n) → IsKept w n x → KeepsSlots w v → KeepsSlots w (put v n x)
kept-put w v (Queue_of q) x kept keeps = record { slots = λ n fs. at n fs (queue_eq q n) refl }
  where
    at : (n : QueueId) (fs : QueuePast) (b : Bool) → queue_eq q n ≡ b → ExplainedInSlot fs (w.queue n) → ExplainedInSlot fs (if b then x else v.queue n)
    at n fs true e was = kept fs (subst (λ m. ExplainedInSlot fs (w.queue m)) (sym (queue-path q n e)) was)
    at n fs false e was = keeps.slots n fs was
kept-put w v (Window_of s) x kept keeps = record { slots = keeps.slots }
kept-put w v (Mailbox_of q) x kept keeps = record { slots = keeps.slots }
kept-put w v (Domain_of d) x kept keeps = record { slots = keeps.slots }
kept-put w v (Region_of s) x kept keeps = record { slots = keeps.slots }
kept-put w v (Cq_of s) x kept keeps = record { slots = keeps.slots }
kept-put w v (Srq_of s) x kept keeps = record { slots = keeps.slots }
kept-put w v (Byte_at p) x kept keeps = record { slots = keeps.slots }

kept-puts : (w v : World) (us : List Update) → AreKept w us → KeepsSlots w v → KeepsSlots w (put_all us v)
kept-puts w v [] kept keeps = keeps
kept-puts w v (u ∷ us) kept keeps = kept-puts w (put v u.name u.thing) us kept.1 (kept-put w v u.name u.thing kept.0 keeps)

pub cause-kept : (r : Past) (w : World) (us : List Update) → CausesAgree r w → AreKept w us → CausesAgree r (put_all us w)
cause-kept r w us agree kept = by (kept-puts w w us kept (record { slots = λ n fs was. was }))
  where
    by : KeepsSlots w (put_all us w) → CausesAgree r (put_all us w)
    by keeps = record { slots = λ n. keeps.slots n _ (agree.slots n) }

-- ---- a queue pair begins a life, in Reset

-- what is told of each queue pair where one begins a life
abbrev born : Past → QueueId → (QueueId → Option Naming) → QueueId → QueuePast
born past name naming n = record {
  faults = past.faults (life n (with_at queue_eq past.incarnation name (suc (past.incarnation name)) n));
  posted = past.posted (life n (with_at queue_eq past.incarnation name (suc (past.incarnation name)) n));
  naming = naming n;
  start = find (λ s. correspondent_eq s.own (life n (with_at queue_eq past.incarnation name (suc (past.incarnation name)) n))) past.starts;
  progress = past.progress (life n (with_at queue_eq past.incarnation name (suc (past.incarnation name)) n));
}

new-life : (past : Past) (w : World) (name : QueueId) (naming : QueueId → Option Naming) (p : QueuePair) (pre us : List Update) → CausesAgree past w → ((n : QueueId) → queue_eq name n ≡ false → naming n ≡ past.naming n) → p.state ≡ states.Reset
    → (p.requester.oldest ≡ 0) × (p.requester.rnrs ≡ 0) → AreAway pre → AreAway us → AreExplained (born past name naming) (put_all (pre ++ (Queue_of name := Present p) ∷ us) w).queue
new-life past w name naming p pre us agree same reset fresh before behind = subst (AreExplained (born past name naming))
    (sym (queues-left w name (Present p) pre us [] before behind)) (record { slots = λ n. ours n (queue_eq name n) refl (same n) })
  where
    told : (n : QueueId) → Bool → Option Naming → QueuePast
    told n b x = record {
      faults = past.faults (life n (if b then suc (past.incarnation name) else past.incarnation n));
      posted = past.posted (life n (if b then suc (past.incarnation name) else past.incarnation n));
      naming = x;
      start = find (λ s. correspondent_eq s.own (life n (if b then suc (past.incarnation name) else past.incarnation n))) past.starts;
      progress = past.progress (life n (if b then suc (past.incarnation name) else past.incarnation n));
    }

    ours : (n : QueueId) (b : Bool) → queue_eq name n ≡ b → (queue_eq name n ≡ false → naming n ≡ past.naming n) → ExplainedInSlot (told n b (naming n)) (if b then Present p else w.queue n)
    ours n true e same = explained-idle (told n true (naming n)) p (ap (λ s. state_eq s states.Error) reset) (ap is_connected reset) (ap is_sending reset) fresh
    ours n false e same = subst (λ x. ExplainedInSlot (told n false x) (w.queue n)) (sym (same e)) (agree.slots n)

-- a naming that is none, of others
named-none : (past : Past) (name n : QueueId) → queue_eq name n ≡ false → with_at queue_eq past.naming name None n ≡ past.naming n
named-none past name n other = ap (λ b. if b then None else past.naming n) other

-- ---- CreateQp

pub cause-create : (c : Configuration) (past : Past) (w : World) (by : ℕ) (x : Creation) → CausesAgree past w
    → Leads w (CausingBy past by (verbs.CreateQp x.slot x.send_cq x.recv_cq x.send_depth x.recv_depth x.srq))
    (create_qp_plan c (call_of by (verbs.CreateQp x.slot x.send_cq x.recv_cq x.send_depth x.recv_depth x.srq)) x)
cause-create c past w by x agree =
    leads-unless w P ((not (w.domain x.slot.domain).allocated, NoDomain) ∷ (is_present (w.queue place), SlotTaken) ∷ []) (Refuse_plan call)
    (If (has_queues c x) (Look (Cq_of (beside x.slot x.send_cq)) (λ send. Look (Cq_of (beside x.slot x.recv_cq)) (λ recv.
    With_shared x (λ shared. there send recv shared (option_and_then (λ s. s.srq) shared))))) (Refuse_plan call NoSuch)) (λ r. (refl, agree))
    (λ has. sharing x.srq, λ none. (refl, agree))
  where
    call : Call
    call = call_of by (verbs.CreateQp x.slot x.send_cq x.recv_cq x.send_depth x.recv_depth x.srq)

    P : World → List Mark → Type 0
    P = CausingBy past by (verbs.CreateQp x.slot x.send_cq x.recv_cq x.send_depth x.recv_depth x.srq)

    place : QueueId
    place = queue_of x.slot

    q : QueuePair
    q = new_queue x (w.queue place)

    rest : CompletionQueue → CompletionQueue → Option SrqSlot → Option SharedReceives → List Update
    rest send recv slot shared =
        (Mailbox_of place := with_peer q.incarnation None (w.mailbox place))
        ∷ (Cq_of (beside x.slot x.send_cq) := Some (send_reserved x send))
        ∷ (Cq_of (beside x.slot x.recv_cq) := Some (after_reserve (receive_reserve x) (receive_room x shared) (before_receives x send recv)))
        ∷ user_updates x slot

    made : CompletionQueue → CompletionQueue → Option SrqSlot → Option SharedReceives → Plan
    made send recv slot shared = Answer_plan call (answers.Queue place.number q.incarnation)
        ((Domain_of x.slot.domain := with_object (w.domain x.slot.domain)) ∷ (Queue_of place := Present q) ∷ rest send recv slot shared) []

    sized : CompletionQueue → CompletionQueue → Option SrqSlot → Option SharedReceives → Plan
    sized send recv slot shared =
        Unless_plan call ((has_bad_depth x, OutOfRange fields.Depth) ∷ (has_no_room x shared send recv, CqTooSmall) ∷ []) (made send recv slot shared)

    there : Option CompletionQueue → Option CompletionQueue → Option SrqSlot → Option SharedReceives → Plan
    there (Some send) (Some recv) slot shared = If (is_none shared && not (is_none x.srq)) (Refuse_plan call NoSuch) (sized send recv slot shared)
    there send recv slot shared = Refuse_plan call NoSuch

    updates : Option ℕ → Option SrqSlot → List Update
    updates (Some srq) (Some slot) = (Srq_of (beside x.slot srq) := record slot { users = suc slot.users }) ∷ []
    updates srq slot = []

    users : (o : Option ℕ) (t : Option SrqSlot) → AreAway (updates o t)
    users None t = record {}
    users (Some srq) None = record {}
    users (Some srq) (Some slot) = (record {}, record {})

    found-both : (send recv : CompletionQueue) (slot : Option SrqSlot) (shared : Option SharedReceives) → Leads w P (there (Some send) (Some recv) slot shared)
    found-both send recv slot shared = (
      λ missing. (refl, agree),
      λ there. leads-unless w P ((has_bad_depth x, OutOfRange fields.Depth) ∷ (has_no_room x shared send recv, CqTooSmall) ∷ []) (Refuse_plan call)
          (made send recv slot shared) (λ r. (refl, agree))
          (refl, new-life past w place (with_at queue_eq past.naming place None) q ((Domain_of x.slot.domain := with_object (w.domain x.slot.domain)) ∷ []) (rest send recv slot shared) agree (named-none past place) refl (refl, refl) (record {}, record {}) (record {}, (record {}, (record {}, users x.srq slot)))),
    )

    both : (send recv : Option CompletionQueue) (slot : Option SrqSlot) (shared : Option SharedReceives) → Leads w P (there send recv slot shared)
    both None recv slot shared = (refl, agree)
    both (Some send) None slot shared = (refl, agree)
    both (Some send) (Some recv) slot shared = found-both send recv slot shared

    looking : Option ℕ → Plan
    looking None = there (w.cq (beside x.slot x.send_cq)) (w.cq (beside x.slot x.recv_cq)) None None
    looking (Some srq) = Look (Srq_of (beside x.slot srq)) (λ slot. there (w.cq (beside x.slot x.send_cq)) (w.cq (beside x.slot x.recv_cq)) (Some slot) slot.srq)

    sharing : (o : Option ℕ) → Leads w P (looking o)
    sharing None = both (w.cq (beside x.slot x.send_cq)) (w.cq (beside x.slot x.recv_cq)) None None
    sharing (Some srq) = both (w.cq (beside x.slot x.send_cq)) (w.cq (beside x.slot x.recv_cq)) (Some (w.srq (beside x.slot srq))) (w.srq (beside x.slot srq)).srq

-- ---- ModifyQp

-- the tests of a change, and what it answers
cause-change : (c : Configuration) (w : World) (P : World → List Mark → Type 0) (call : Call) (q : QueuePair) (change : state_change.Change) (updates : Around → List Update) (ms : List Mark)
    → ((r : Refusal) → Leads w P (Refuse_plan call r)) → (AllFail (modify_refusals c q change) → P (put_all (updates (around_in w q (shared_of w q))) w) (answer_mark call answers.Fine ∷ ms))
    → Leads w P (With_around q (λ a. Unless_plan call (of_change_refusals (modify_refusals c q change)) (Answer_plan call answers.Fine (updates a) ms)))
cause-change c w P call q change updates ms refused more = leads-around w P q (λ a. Unless_plan call (of_change_refusals (modify_refusals c q change)) (Answer_plan call answers.Fine (updates a) ms))
    (leads-unless-all w P (of_change_refusals (modify_refusals c q change)) (Refuse_plan call) (Answer_plan call answers.Fine (updates (around_in w q (shared_of w q))) ms) refused (λ fails. more (change-fails c q change fails)))

-- from which state it leads
from-reset : (t : State) → not (is_among (states.Reset ∷ []) t) ≡ false → is_fresh t ≡ true
from-reset states.Reset e = refl
from-reset states.Init e = refl
from-reset states.Rtr e = refl
from-reset states.Rts e = absurd (true≢false e)
from-reset states.Sqd e = absurd (true≢false e)
from-reset states.Error e = absurd (true≢false e)

from-init : (t : State) → not (is_among (states.Init ∷ []) t) ≡ false → is_fresh t ≡ true
from-init states.Reset e = refl
from-init states.Init e = refl
from-init states.Rtr e = refl
from-init states.Rts e = absurd (true≢false e)
from-init states.Sqd e = absurd (true≢false e)
from-init states.Error e = absurd (true≢false e)

from-rtr : (t : State) → not (is_among (states.Rtr ∷ []) t) ≡ false → (is_fresh t ≡ true) × (is_connected t ≡ true)
from-rtr states.Reset e = absurd (true≢false e)
from-rtr states.Init e = absurd (true≢false e)
from-rtr states.Rtr e = (refl, refl)
from-rtr states.Rts e = absurd (true≢false e)
from-rtr states.Sqd e = absurd (true≢false e)
from-rtr states.Error e = absurd (true≢false e)

from-rts : (t : State) → not (is_among (states.Rts ∷ []) t) ≡ false → (is_sending t ≡ true) × (is_connected t ≡ true)
from-rts states.Reset e = absurd (true≢false e)
from-rts states.Init e = absurd (true≢false e)
from-rts states.Rtr e = absurd (true≢false e)
from-rts states.Rts e = (refl, refl)
from-rts states.Sqd e = absurd (true≢false e)
from-rts states.Error e = absurd (true≢false e)

from-sqd : (t : State) → not (is_among (states.Sqd ∷ []) t) ≡ false → (is_sending t ≡ true) × (is_connected t ≡ true)
from-sqd states.Reset e = absurd (true≢false e)
from-sqd states.Init e = absurd (true≢false e)
from-sqd states.Rtr e = absurd (true≢false e)
from-sqd states.Rts e = absurd (true≢false e)
from-sqd states.Sqd e = (refl, refl)
from-sqd states.Error e = absurd (true≢false e)

-- a queue pair that sends in another state
pub still-followed : (l : QueuePast) (q p : QueuePair) → p.requester ≡ q.requester → p.responder.mtu ≡ q.responder.mtu → IsFollowed l q → IsFollowed l p
still-followed l q p requester mtu is = record {
  begin = is.begin;
  is = is.is;
  retry = is.retry ∙ ap (λ r. r.retry) (sym requester);
  rnr_retry = is.rnr_retry ∙ ap (λ r. r.rnr_retry) (sym requester);
  first = ap₂ (λ m i. whole_start is.begin + sum_by (λ p. psns_of m p.request.op) (take i l.posted)) mtu (ap (λ r. r.oldest) requester) ∙ is.first ∙ ap (λ r. r.oldest_psn) (sym requester);
  una = ap (λ r. r.una) requester ∙ is.una;
  retries = ap (λ r. r.retries) requester ∙ is.retries;
  rnrs = ap (λ r. r.rnrs) requester ∙ is.rnrs;
  patience = subst (λ r. nat_lt r.rnr_retry MAX_RETRY ≡ true → r.rnrs ≤ r.rnr_retry) (sym requester) is.patience;
}

-- the verb that moves a queue pair to Error befalls it
error-agrees : (past : Past) (w : World) (by : ℕ) (s : Slot) (q : QueuePair) (us : List Update) → CausesAgree past w → q.queue ≡ queue_of s → AreAway us
    → Passes (Behind past by (verbs.ModifyQp s changes.Error) answers.Fine) (put_all ((Queue_of q.queue := Present (queue_after_change changes.Error q)) ∷ us) w) (flush_marks q)
error-agrees past w by s q us agree own away = flush-agrees (Behind past by (verbs.ModifyQp s changes.Error) answers.Fine) w q (queue_after_change changes.Error q) us
    (λ n other. subst (λ fs. ExplainedInSlot (record (queue_past past n) { faults = fs }) (w.queue n)) (sym (faults-other past (queue_of s) q.queue (ErrorByVerb ∷ []) (life n (past.incarnation n)) (sym own) (other-life q.queue n (past.incarnation q.queue) (past.incarnation n) other))) (agree.slots n))
    refl refl (ap is_faulty (faults-own past (queue_of s) q.queue (ErrorByVerb ∷ []) (sym own))) q refl refl away

-- an Rtr names the peer and the path MTU
rtr-agrees : (past : Past) (w : World) (by : ℕ) (s : Slot) (q : QueuePair) (peer : QueueId) (incarnation psn mtu rnr_code : ℕ) (us : List Update) → CausesAgree past w → IsThere w q → q.queue ≡ queue_of s → is_fresh q.state ≡ true → AreAway us
    → CausesAgree (at_end (Behind past by (verbs.ModifyQp s (changes.Rtr peer incarnation psn mtu rnr_code)) answers.Fine)) (put_all ((Queue_of q.queue := Present (queue_after_change (changes.Rtr peer incarnation psn mtu rnr_code) q)) ∷ us) w)
rtr-agrees past w by s q peer incarnation psn mtu rnr_code us agree there own fresh away = slots-agree (at_end (Behind past by (verbs.ModifyQp s (changes.Rtr peer incarnation psn mtu rnr_code)) answers.Fine)) w q.queue
    (Present (queue_after_change (changes.Rtr peer incarnation psn mtu rnr_code) q)) [] us []
    (λ n other. subst (λ x. ExplainedInSlot (record (queue_past past n) { naming = x }) (w.queue n)) (sym (ap (λ b. if b then Some (named past) else past.naming n) (ap (λ m. queue_eq m n) (sym own) ∙ other))) (agree.slots n))
    (record {
      error = λ is. absurd (true≢false (sym is));
      fresh = λ is. (was-there past w q agree there).fresh fresh;
      mtu = λ is. ap (λ b. option_map_or (λ (n : Naming). n.mtu) (if b then Some (named past) else past.naming q.queue) 0) (ap (λ m. queue_eq m q.queue) (sym own) ∙ queue-refl q.queue);
      sends = λ is. absurd (true≢false (sym is));
    }) (record {}) away
  where
    named : Past → Naming
    named p = record { own = present_incarnation p (queue_of s); peer = record { queue = peer; incarnation = incarnation }; psn = psn; mtu = mtu }

-- an Rts begins its sends
rts-agrees : (past : Past) (w : World) (by : ℕ) (s : Slot) (q : QueuePair) (psn retry rnr_retry reads : ℕ) → CausesAgree past w → IsThere w q → q.queue ≡ queue_of s → (is_fresh q.state ≡ true) × (is_connected q.state ≡ true)
    → CausesAgree (at_end (Behind past by (verbs.ModifyQp s (changes.Rts psn retry rnr_retry reads)) answers.Fine)) (put_all ((Queue_of q.queue := Present (queue_after_change (changes.Rts psn retry rnr_retry reads) q)) ∷ []) w)
rts-agrees past w by s q psn retry rnr_retry reads agree there own states_are = slots-agree r w q.queue (Present (queue_after_change (changes.Rts psn retry rnr_retry reads) q)) [] [] []
    (λ n other. subst (λ b. ExplainedInSlot (told n b) (w.queue n)) (sym (ap (λ m. correspondent_eq (present_incarnation past m) (present_incarnation past n)) (sym own) ∙ other-life q.queue n (past.incarnation q.queue) (past.incarnation n) other)) (agree.slots n))
    (record {
      error = λ is. absurd (true≢false (sym is));
      fresh = λ is. absurd (true≢false (sym is));
      mtu = λ is. was.mtu states_are.1;
      sends = λ is. subst (λ b. IsFollowed (told q.queue b) (queue_after_change (changes.Rts psn retry rnr_retry reads) q)) (sym (ap (λ m. correspondent_eq (present_incarnation past m) (present_incarnation past q.queue)) (sym own) ∙ life-refl (present_incarnation past q.queue))) (record {
        begin = begin;
        is = refl;
        retry = refl;
        rnr_retry = refl;
        first = ap (λ i. PSN_BASE + psn + sum_by (λ p. psns_of q.responder.mtu p.request.op) (take i (past.posted (present_incarnation past q.queue)))) (was.fresh states_are.0).0 ∙ omega arith;
        una = refl;
        retries = there.sound.requester.fresh states_are.0;
        rnrs = (was.fresh states_are.0).1;
        patience = λ few. omega (arith, (was.fresh states_are.0).1);
      });
    }) (record {}) (record {})
  where
    r : Past
    r = at_end (Behind past by (verbs.ModifyQp s (changes.Rts psn retry rnr_retry reads)) answers.Fine)

    was : IsExplained (queue_past past q.queue) q
    was = was-there past w q agree there

    begin : Start
    begin = record { own = present_incarnation past (queue_of s); psn = psn; retry = retry; rnr_retry = rnr_retry }

    told : QueueId → Bool → QueuePast
    told n b = record (queue_past past n) { start = if b then Some begin else start_of past n; progress = if b then progress_from (PSN_BASE + psn) else past.progress (present_incarnation past n) }

-- a change between Rts and Sqd
moved-agrees : (past r : Past) (w : World) (q p : QueuePair) → CausesAgree past w → IsThere w q → ((n : QueueId) → queue_past r n ≡ queue_past past n) → (is_sending q.state ≡ true) × (is_connected q.state ≡ true) → p.requester ≡ q.requester → p.responder.mtu ≡ q.responder.mtu
    → state_eq p.state states.Error ≡ false → is_fresh p.state ≡ false → CausesAgree r (put_all ((Queue_of q.queue := Present p) ∷ []) w)
moved-agrees past r w q p agree there same states_are requester mtu well begun = slots-agree r w q.queue (Present p) [] [] [] (λ n other. subst (λ l. ExplainedInSlot l (w.queue n)) (sym (same n)) (agree.slots n))
    (subst (λ l. IsExplained l p) (sym (same q.queue)) (record {
      error = λ is. absurd (true≢false (sym is ∙ well));
      fresh = λ is. absurd (true≢false (sym is ∙ begun));
      mtu = λ is. was.mtu states_are.1 ∙ sym mtu;
      sends = λ is. still-followed (queue_past past q.queue) q p requester mtu (was.sends states_are.0);
    })) (record {}) (record {})
  where
    was : IsExplained (queue_past past q.queue) q
    was = was-there past w q agree there

pub cause-modify : (c : Configuration) (past : Past) (w : World) (by : ℕ) (s : Slot) (change : state_change.Change) → IsMet c past w
    → Leads w (CausingBy past by (verbs.ModifyQp s change)) (modify_qp_plan c (call_of by (verbs.ModifyQp s change)) s change)
cause-modify c past w by s changes.Error met = agrees-present c w (CausingBy past by (verbs.ModifyQp s changes.Error)) (call_of by (verbs.ModifyQp s changes.Error)) s _ met.posted.sound (refl, met.agree) (λ q is name.
    cause-change c w (CausingBy past by (verbs.ModifyQp s changes.Error)) (call_of by (verbs.ModifyQp s changes.Error)) q changes.Error
    (λ a. (Queue_of q.queue := Present (queue_after_change changes.Error q)) ∷ cq_updates q a (flush_marks q)) (flush_marks q) (λ r. (refl, met.agree))
    (λ fails. error-agrees past w by s q (cq_updates q (around_in w q (shared_of w q)) (flush_marks q)) met.agree name (record {}, (record {}, record {}))))
cause-modify c past w by s changes.Reset met = agrees-present c w (CausingBy past by (verbs.ModifyQp s changes.Reset)) (call_of by (verbs.ModifyQp s changes.Reset)) s _ met.posted.sound (refl, met.agree) (λ q is name.
    cause-change c w (CausingBy past by (verbs.ModifyQp s changes.Reset)) (call_of by (verbs.ModifyQp s changes.Reset)) q changes.Reset
    (λ a. (Queue_of q.queue := Present (queue_after_change changes.Reset q)) ∷ (Mailbox_of q.queue := emptied_mailbox (queue_after_change changes.Reset q).incarnation (w.mailbox q.queue)) ∷ emptied_updates q a) [] (λ r. (refl, met.agree))
    (λ fails. (
      refl,
      subst (λ m. AreExplained (born past m (with_at queue_eq (with_at queue_eq past.naming m None) m None)) (reset q).queue) name
          (new-life past w q.queue (with_at queue_eq (with_at queue_eq past.naming q.queue None) q.queue None) (queue_after_change changes.Reset q) [] ((Mailbox_of q.queue := emptied_mailbox (queue_after_change changes.Reset q).incarnation (w.mailbox q.queue)) ∷ emptied_updates q (around_in w q (shared_of w q))) met.agree
          (λ n other. ap (λ b. if b then None else if b then None else past.naming n) other) refl (refl, refl)
          (record {}) (record {}, (record {}, (record {}, srq-away q (around_in w q (shared_of w q)) (after_receives_retire (places_held q (around_in w q (shared_of w q)))))))),
    )))
  where
    reset : QueuePair → World
    reset q = put_all ((Queue_of q.queue := Present (queue_after_change changes.Reset q))
        ∷ (Mailbox_of q.queue := emptied_mailbox (queue_after_change changes.Reset q).incarnation (w.mailbox q.queue)) ∷ emptied_updates q (around_in w q (shared_of w q))) w
cause-modify c past w by s (changes.Rtr peer incarnation psn mtu rnr_code) met = agrees-present c w (CausingBy past by (verbs.ModifyQp s (changes.Rtr peer incarnation psn mtu rnr_code))) (call_of by (verbs.ModifyQp s (changes.Rtr peer incarnation psn mtu rnr_code))) s _ met.posted.sound (refl, met.agree) (λ q is name.
    cause-change c w (CausingBy past by (verbs.ModifyQp s (changes.Rtr peer incarnation psn mtu rnr_code))) (call_of by (verbs.ModifyQp s (changes.Rtr peer incarnation psn mtu rnr_code))) q (changes.Rtr peer incarnation psn mtu rnr_code)
    (λ a. (Queue_of q.queue := Present (queue_after_change (changes.Rtr peer incarnation psn mtu rnr_code) q)) ∷ (Mailbox_of q.queue := with_peer q.incarnation (Some (record { queue = peer; incarnation = incarnation })) (w.mailbox q.queue)) ∷ []) [] (λ r. (refl, met.agree))
    (λ fails. (refl, rtr-agrees past w by s q peer incarnation psn mtu rnr_code ((Mailbox_of q.queue := with_peer q.incarnation (Some (record { queue = peer; incarnation = incarnation })) (w.mailbox q.queue)) ∷ []) met.agree (found c w q.queue q met.posted.sound is) name (from-init q.state fails.0) (record {}, record {}))))
cause-modify c past w by s changes.Init met = agrees-present c w (CausingBy past by (verbs.ModifyQp s changes.Init)) (call_of by (verbs.ModifyQp s changes.Init)) s _ met.posted.sound (refl, met.agree) (λ q is name.
    cause-change c w (CausingBy past by (verbs.ModifyQp s changes.Init)) (call_of by (verbs.ModifyQp s changes.Init)) q changes.Init
    (λ a. (Queue_of q.queue := Present (queue_after_change changes.Init q)) ∷ []) [] (λ r. (refl, met.agree))
    (λ fails. (
      refl,
      slots-agree (at_end (Behind past by (verbs.ModifyQp s changes.Init) answers.Fine)) w q.queue (Present (queue_after_change changes.Init q)) [] [] [] (λ n other. met.agree.slots n)
          (explained-idle (queue_past past q.queue) (queue_after_change changes.Init q) refl refl refl ((was-there past w q met.agree (found c w q.queue q met.posted.sound is)).fresh (from-reset q.state fails.0))) (record {}) (record {}),
    )))
cause-modify c past w by s (changes.Rts psn retry rnr_retry reads) met = agrees-present c w (CausingBy past by (verbs.ModifyQp s (changes.Rts psn retry rnr_retry reads))) (call_of by (verbs.ModifyQp s (changes.Rts psn retry rnr_retry reads))) s _ met.posted.sound (refl, met.agree) (λ q is name.
    cause-change c w (CausingBy past by (verbs.ModifyQp s (changes.Rts psn retry rnr_retry reads))) (call_of by (verbs.ModifyQp s (changes.Rts psn retry rnr_retry reads))) q (changes.Rts psn retry rnr_retry reads)
    (λ a. (Queue_of q.queue := Present (queue_after_change (changes.Rts psn retry rnr_retry reads) q)) ∷ []) [] (λ r. (refl, met.agree))
    (λ fails. (refl, rts-agrees past w by s q psn retry rnr_retry reads met.agree (found c w q.queue q met.posted.sound is) name (from-rtr q.state fails.0))))
cause-modify c past w by s changes.Sqd met = agrees-present c w (CausingBy past by (verbs.ModifyQp s changes.Sqd)) (call_of by (verbs.ModifyQp s changes.Sqd)) s _ met.posted.sound (refl, met.agree) (λ q is name.
    cause-change c w (CausingBy past by (verbs.ModifyQp s changes.Sqd)) (call_of by (verbs.ModifyQp s changes.Sqd)) q changes.Sqd
    (λ a. (Queue_of q.queue := Present (queue_after_change changes.Sqd q)) ∷ []) [] (λ r. (refl, met.agree))
    (λ fails. (refl, moved-agrees past (at_end (Behind past by (verbs.ModifyQp s changes.Sqd) answers.Fine)) w q (queue_after_change changes.Sqd q) met.agree (found c w q.queue q met.posted.sound is) (λ n. refl) (from-rts q.state fails.0) refl refl refl refl)))
cause-modify c past w by s changes.Resume met = agrees-present c w (CausingBy past by (verbs.ModifyQp s changes.Resume)) (call_of by (verbs.ModifyQp s changes.Resume)) s _ met.posted.sound (refl, met.agree) (λ q is name.
    cause-change c w (CausingBy past by (verbs.ModifyQp s changes.Resume)) (call_of by (verbs.ModifyQp s changes.Resume)) q changes.Resume
    (λ a. (Queue_of q.queue := Present (queue_after_change changes.Resume q)) ∷ []) [] (λ r. (refl, met.agree))
    (λ fails. (refl, moved-agrees past (at_end (Behind past by (verbs.ModifyQp s changes.Resume) answers.Fine)) w q (queue_after_change changes.Resume q) met.agree (found c w q.queue q met.posted.sound is) (λ n. refl) (from-sqd q.state fails.0) refl refl refl refl)))

-- ---- DestroyQp

pub cause-destroy : (c : Configuration) (past : Past) (w : World) (by : ℕ) (s : Slot) → IsMet c past w
    → Leads w (CausingBy past by (verbs.DestroyQp s)) (destroy_qp_plan (call_of by (verbs.DestroyQp s)) s)
cause-destroy c past w by s met = agrees-present c w P call s _ met.posted.sound (refl, met.agree) (λ q is name.
    leads-around w P q (λ a. Unless_plan call ((nat_lt 0 q.windows, WindowsBound) ∷ []) (ending q a))
    (leads-unless w P ((nat_lt 0 q.windows, WindowsBound) ∷ []) (Refuse_plan call) (ending q (around_in w q (shared_of w q))) (λ r. (refl, met.agree)) (
      refl,
      slots-agree (at_end (Behind past by (verbs.DestroyQp s) answers.Fine)) w q.queue (NoQueue q.incarnation q.requester.timers) ((Domain_of s.domain := without_object (w.domain s.domain)) ∷ []) (rest q (around_in w q (shared_of w q))) []
          (λ n other. subst (λ x. ExplainedInSlot (record (queue_past past n) { naming = x }) (w.queue n)) (sym (named-none past (queue_of s) n (ap (λ m. queue_eq m n) (sym name) ∙ other))) (met.agree.slots n)) (record {})
          (record {}, record {}) (record {}, (record {}, (record {}, left q (around_in w q (shared_of w q)) q.srq (around_in w q (shared_of w q)).shared))),
    )))
  where
    call : Call
    call = call_of by (verbs.DestroyQp s)

    P : World → List Mark → Type 0
    P = CausingBy past by (verbs.DestroyQp s)

    updates : QueuePair → Around → List Update
    updates q a =
        (Domain_of s.domain := without_object (w.domain s.domain))
        ∷ (Queue_of q.queue := NoQueue q.incarnation q.requester.timers)
        ∷ (Mailbox_of q.queue := emptied_mailbox q.incarnation (w.mailbox q.queue))
        ∷ (Cq_of (send_cq_of q) := option_map (without_queue q) a.send)
        ∷ (Cq_of (recv_cq_of q) := option_map (without_queue q) a.recv)
        ∷ left_updates q a

    rest : QueuePair → Around → List Update
    rest q a = (Mailbox_of q.queue := emptied_mailbox q.incarnation (w.mailbox q.queue)) ∷ (Cq_of (send_cq_of q) := option_map (without_queue q) a.send) ∷ (Cq_of (recv_cq_of q) := option_map (without_queue q) a.recv) ∷ left_updates q a

    ending : QueuePair → Around → Plan
    ending q a = Answer_plan call answers.Fine (updates q a) []

    leaving : QueuePair → Around → Option ℕ → Option SrqSlot → List Update
    leaving q a (Some srq) (Some slot) = (Srq_of (record { domain = q.domain; slot = srq }) := record slot {
      srq = option_map (after_receives_retire (places_held q a)) slot.srq;
      users = slot.users - 1;
    }) ∷ []
    leaving q a srq slot = []

    left : (q : QueuePair) (a : Around) (o : Option ℕ) (t : Option SrqSlot) → AreAway (leaving q a o t)
    left q a None t = record {}
    left q a (Some srq) None = record {}
    left q a (Some srq) (Some slot) = (record {}, record {})
