-- What a verb that was answered found in the world: CreateQp a vacant slot, and Rtr a queue pair without a peer. For proofs only.
use Rattle.std.proofs.Common.{◌≡◌, ℕ, ◌<◌, ◌≤◌, ◌==◌, ◌||◌, not, arith, Bool, true, false, List, [], ◌∷◌, Option, None, Some, refl, ap, sym, subst, ◌∙◌, true≢false}
use Rattle.std.proofs.lemmas.Bool.{eqb-false, eqb-true, ltb-false, not-false}
use Rattle.ca_law_endings.proofs.EventFitLemmas.{event-fits}
use Rattle.ca_law_endings.proofs.LeadsLemmas.{comes, leads-around, leads-weaker}
use Rattle.ca_law_endings.proofs.VerbFitLemmas.{Answers, AreAnswered, fits-verb}
use Rattle.ca_law_endings.specs.Agreement.{peer_in}
use Rattle.ca_law_endings.specs.Runs.{Comes, Leads}
use Rattle.ca_law_order.proofs.Polls.PostingLemmas.{leads-present}
use Rattle.ca_law_order.proofs.Polls.TurnLemmas.{leads-tests}
use Rattle.ca_base.specs.Configuration.{Configuration}
use Rattle.ca_base.specs.declared.change.Change.{Change}
use Rattle.ca_base.specs.declared.change.Change.TheVariants as changes
use Rattle.ca_base.specs.declared.change.State.{State}
use Rattle.ca_base.specs.declared.change.State.TheVariants as states
use Rattle.ca_base.specs.declared.limits.TheConstants.{MAX_MESSAGE_BYTES, MIN_PATH_MTU}
use Rattle.ca_base.specs.objects.Mailbox.{with_peer}
use Rattle.ca_base.specs.objects.QueuePair.{QueuePair, Present, is_present}
use Rattle.ca_base.specs.objects.Slices.{has_queue}
use Rattle.ca_base.specs.objects.StateTable.{is_among, is_path_mtu, modify_refusals, queue_after_change}
use Rattle.ca_keys.specs.Equal.{queue_eq}
use Rattle.ca_keys.specs.Numbers.{queue_of}
use Rattle.ca_keys.specs.declared.names.QueueId.{QueueId}
use Rattle.ca_keys.specs.declared.names.Slot.{Slot}
use Rattle.ca_law_world.proofs.Sound.SettledLemmas.{queue-refl}
use Rattle.ca_law_world.proofs.Sound.WorldLemmas.{IsThere}
use Rattle.ca_model.specs.History.{ArePlain}
use Rattle.ca_model.specs.declared.answer.Answer.{Answer}
use Rattle.ca_model.specs.declared.answer.Answer.TheVariants as answers
use Rattle.ca_model.specs.declared.answer.Refusal.{Refusal}
use Rattle.ca_model.specs.declared.answer.Refusal.TheVariants.{NoSuch}
use Rattle.ca_model.specs.declared.event.Event.{Event}
use Rattle.ca_model.specs.declared.event.Event.TheVariants as events
use Rattle.ca_model.specs.declared.mark.Mark.{Mark}
use Rattle.ca_model.specs.declared.mark.Mark.TheVariants as marks
use Rattle.ca_model.specs.declared.verb.Verb.{Verb}
use Rattle.ca_model.specs.declared.verb.Verb.TheVariants as verbs
use Rattle.ca_model.specs.machine.Invariants.{is_idle}
use Rattle.ca_model.specs.machine.Plan.{Did, If, Look, NotReady, Outcome, Plan, ◌:=◌}
use Rattle.ca_model.specs.machine.QueuePairVerbs.{modify_qp_plan}
use Rattle.ca_model.specs.machine.Sound.{IsSoundWorld}
use Rattle.ca_model.specs.machine.Step.{plan, step, verb_plan}
use Rattle.ca_model.specs.machine.VerbAnswers.{Answer_plan, Call, Refuse_plan, Unless_plan, of_change_refusals}
use Rattle.ca_model.specs.Requests.{list_length, list_of}
use Rattle.ca_model.specs.machine.World.{Mailbox_of, Queue_of, World, get}
use Rattle.ca_law_once.proofs.Once.NoteLemmas.{Destroys}
use Rattle.ca_law_once.proofs.Once.VerbLemmas.{Makes}
use Rattle.ca_law_once.proofs.Verbs.BeginLemmas.{found-begins}
use Rattle.ca_law_once.proofs.Verbs.WalkLemmas.{leads-destroy, leads-post}
use Rattle.ca_law_once.specs.Beginnings.{AllBeginEmpty}

-- An Rtr that succeeded found its queue pair there, without a peer, and names another one, in an incarnation that there can be,
-- with a path MTU.
pub record NamesWell (w : World) (name peer : QueueId) (incarnation mtu : ℕ) : Type 0 where
  pub present : is_present (w.queue name) ≡ true
  pub unnamed : peer_in (w.queue name) ≡ None
  pub other : queue_eq peer name ≡ false
  pub some : 0 < incarnation
  pub mtu_is : MIN_PATH_MTU ≤ mtu

-- what an answered verb found
abbrev pub IsRight : World → Verb → Answer → Type 0
IsRight w (verbs.CreateQp slot send_cq recv_cq send_depth recv_depth srq) (answers.Queue number incarnation) = is_present (w.queue (queue_of slot)) ≡ false
IsRight w (verbs.ModifyQp slot (changes.Rtr peer incarnation psn mtu rnr_code)) answers.Fine = NamesWell w (queue_of slot) peer incarnation mtu
IsRight w (verbs.PostSend slot request) (answers.Posted key) = list_length (list_of request.op) ≤ MAX_MESSAGE_BYTES
IsRight w verb answer = Unit {0}

-- the same of the marks of an event, of which the first is the answer
abbrev pub AsAnswered : (Verb → Answer → Type 0) → List Mark → Type 0
AsAnswered Q (marks.Verb by verb answer ∷ ms) = Q verb answer
AsAnswered Q ms = Unit {0}

abbrev pub AreRight : World → List Mark → Type 0
AreRight w ms = AsAnswered (IsRight w) ms

-- A queue pair that was destroyed is not there any more.
abbrev pub IsGone : World → Verb → Answer → Type 0
IsGone v (verbs.DestroyQp slot) answers.Fine = is_present (v.queue (queue_of slot)) ≡ false
IsGone v verb answer = Unit {0}

pub gone-destroyed : (v : World) (n : QueueId) (verb : Verb) (answer : Answer) → IsGone v verb answer → Destroys n verb answer → is_present (v.queue n) ≡ false
gone-destroyed v n (verbs.DestroyQp slot) answers.Fine gone is = ap (λ q. is_present (v.queue q)) (sym is) ∙ gone
gone-destroyed v n verb answer gone is = absurd is

-- a queue pair that is made was not there
pub right-made : (w : World) (n : QueueId) (verb : Verb) (answer : Answer) → IsRight w verb answer → Makes n verb answer → is_present (w.queue n) ≡ true → ⊥
right-made w n (verbs.CreateQp slot send_cq recv_cq send_depth recv_depth srq) (answers.Queue number incarnation) right made there =
    true≢false (sym there ∙ ap (λ q. is_present (w.queue q)) (sym made) ∙ right)
right-made w n verb answer right made there = absurd made

-- a verb of which nothing is asked
answered-as : (Q : Verb → Answer → Type 0) (call : Call) → ((answer : Answer) → Q call.verb answer) → (ms : List Mark) → AreAnswered call ms → AsAnswered Q ms
answered-as Q call right [] answered = absurd answered
answered-as Q call right (marks.Verb b verb answer ∷ ms) answered = subst (λ x. Q x answer) (sym answered.0.1) (right answer)
answered-as Q call right (marks.Granted g ∷ ms) answered = record {}
answered-as Q call right (marks.Revoked adapter key ∷ ms) answered = record {}
answered-as Q call right (marks.Remote queue domain envelope key kind address count verdict ∷ ms) answered = record {}
answered-as Q call right (marks.Local queue domain key kind address count verdict ∷ ms) answered = record {}
answered-as Q call right (marks.Stored place bytes ∷ ms) answered = record {}
answered-as Q call right (marks.Sent source target index request bytes ∷ ms) answered = record {}
answered-as Q call right (marks.Lost target index ∷ ms) answered = record {}
answered-as Q call right (marks.Arrived target index ∷ ms) answered = record {}
answered-as Q call right (marks.Dropped target cause ∷ ms) answered = record {}
answered-as Q call right (marks.Timer queue silent ∷ ms) answered = record {}
answered-as Q call right (marks.Done queue x cause ∷ ms) answered = record {}

-- the same of a plan
free-verb : (c : Configuration) (w : World) (by : ℕ) (verb : Verb) → ((answer : Answer) → IsRight w verb answer) → Leads w (λ v ms. AreRight w ms) (verb_plan c (record { by = by; verb = verb }) verb)
free-verb c w by verb right = leads-weaker w (Answers call) (λ v ms. AreRight w ms) (verb_plan c call verb) (λ v ms answered. answered-as (IsRight w) call right ms answered) (fits-verb c w call verb)
  where
    call : Call
    call = record { by = by; verb = verb }

-- a slot is vacant where its queue pair is made
skip : World → Plan → Plan
skip w (Look n k) = k (get w n)
skip w (If test p q) = q
skip w p = p

create-right : (c : Configuration) (w : World) (by : ℕ) (slot : Slot) (send_cq recv_cq send_depth recv_depth : ℕ) (srq : Option ℕ)
    → Leads w (λ v ms. AreRight w ms) (verb_plan c (record { by = by; verb = verbs.CreateQp slot send_cq recv_cq send_depth recv_depth srq }) (verbs.CreateQp slot send_cq recv_cq send_depth recv_depth srq))
unfolding skip
create-right c w by slot send_cq recv_cq send_depth recv_depth srq = (
  λ none. record {},
  λ allocated. (
    λ taken. record {},
    λ free. leads-weaker w (Answers call) (λ v ms. AreRight w ms) (skip w (skip w (skip w (skip w (skip w (verb_plan c call verb))))))
        (λ v ms answered. answered-as (IsRight w) call (right free) ms answered) (((fits-verb c w call verb).1 allocated).1 free),
  ),
)
  where
    verb : Verb
    verb = verbs.CreateQp slot send_cq recv_cq send_depth recv_depth srq

    call : Call
    call = record { by = by; verb = verb }

    right : is_present (w.queue (queue_of slot)) ≡ false → (answer : Answer) → IsRight w verb answer
    right free answers.Fine = record {}
    right free (answers.Key key) = record {}
    right free (answers.Queue number incarnation) = free
    right free (answers.Posted key) = record {}
    right free (answers.Polled completions) = record {}
    right free (answers.Query state incarnation sends receives) = record {}
    right free (answers.Loaded bytes) = record {}
    right free (answers.Refused refusal) = record {}

-- ---- Rtr

among-init : (s : State) → is_among (states.Init ∷ []) s ≡ true → is_idle s ≡ true
among-init states.Reset is = refl
among-init states.Init is = refl
among-init states.Rtr is = absurd (true≢false (sym is))
among-init states.Rts is = absurd (true≢false (sym is))
among-init states.Sqd is = absurd (true≢false (sym is))
among-init states.Error is = absurd (true≢false (sym is))

either-false : (a b : Bool) → (a || b) ≡ false → b ≡ false
either-false true b is = absurd (true≢false is)
either-false false b is = is

-- a path MTU is one of five
mtu-some : (mtu : ℕ) → is_path_mtu mtu ≡ true → MIN_PATH_MTU ≤ mtu
mtu-some mtu is = at (mtu == 256) refl (mtu == 512) refl (mtu == 1024) refl (mtu == 2048) refl (mtu == 4096) refl is
  where
    at : (a : Bool) → (mtu == 256) ≡ a → (b : Bool) → (mtu == 512) ≡ b → (c : Bool) → (mtu == 1024) ≡ c → (d : Bool) → (mtu == 2048) ≡ d → (e : Bool) → (mtu == 4096) ≡ e → (a || b || c || d || e) ≡ true → MIN_PATH_MTU ≤ mtu
    at true a b bs c cs d ds e es is = omega (arith, eqb-true mtu 256 a)
    at false a true b c cs d ds e es is = omega (arith, eqb-true mtu 512 b)
    at false a false b true c d ds e es is = omega (arith, eqb-true mtu 1024 c)
    at false a false b false c true d e es is = omega (arith, eqb-true mtu 2048 d)
    at false a false b false c false d true e is = omega (arith, eqb-true mtu 4096 e)
    at false a false b false c false d false e is = absurd (true≢false (sym is))

some-number : (n : ℕ) → (n == 0) ≡ false → 0 < n
some-number n is = by n (eqb-false n 0 is)
  where
    by : (k : ℕ) → (k ≡ 0 → ⊥) → 0 < k
    by k none = omega (arith, none)

rtr-right : (c : Configuration) (w : World) (by : ℕ) (slot : Slot) (peer : QueueId) (incarnation psn mtu rnr_code : ℕ) → IsSoundWorld c w → AllBeginEmpty w
    → Leads w (λ v ms. AreRight w ms) (modify_qp_plan c (record { by = by; verb = verbs.ModifyQp slot (changes.Rtr peer incarnation psn mtu rnr_code) }) slot (changes.Rtr peer incarnation psn mtu rnr_code))
rtr-right c w by slot peer incarnation psn mtu rnr_code sound empty = leads-present c w P call slot _ sound (λ r. record {}) (λ q there own.
    leads-around w P q (λ a. Unless_plan call (of_change_refusals (modify_refusals c q change)) (changed q))
    (leads-tests w P (of_change_refusals (modify_refusals c q change)) (Refuse_plan call) (changed q) (λ r. record {})
    (λ fails. record {
      present = ap is_present (found q there own);
      unnamed = ap peer_in (found q there own) ∙ (found-begins w (queue_of slot) q empty (found q there own)).peer (among-init q.state (not-false (is_among (states.Init ∷ []) q.state) fails.0));
      other = ap (queue_eq peer) (sym own) ∙ either-false (not (has_queue c peer)) (queue_eq peer q.queue) fails.1.0;
      some = some-number incarnation fails.1.1.0;
      mtu_is = mtu-some mtu (not-false (is_path_mtu mtu) fails.1.1.1.1.0);
    })))
  where
    change : Change
    change = changes.Rtr peer incarnation psn mtu rnr_code

    call : Call
    call = record { by = by; verb = verbs.ModifyQp slot change }

    P : World → List Mark → Type 0
    P v ms = AreRight w ms

    found : (q : QueuePair) → IsThere w q → q.queue ≡ queue_of slot → w.queue (queue_of slot) ≡ Present q
    found q there own = ap w.queue (sym own) ∙ there.present

    changed : QueuePair → Plan
    changed q = Answer_plan call answers.Fine ((Queue_of q.queue := Present (queue_after_change change q))
        ∷ (Mailbox_of q.queue := with_peer q.incarnation (Some (record { queue = peer; incarnation = incarnation })) (w.mailbox q.queue)) ∷ []) []

-- ---- every event

modify-right : (c : Configuration) (w : World) (by : ℕ) (slot : Slot) (change : Change) → IsSoundWorld c w → AllBeginEmpty w
    → Leads w (λ v ms. AreRight w ms) (verb_plan c (record { by = by; verb = verbs.ModifyQp slot change }) (verbs.ModifyQp slot change))
modify-right c w by slot changes.Reset sound empty = free-verb c w by (verbs.ModifyQp slot changes.Reset) (λ answer. record {})
modify-right c w by slot changes.Init sound empty = free-verb c w by (verbs.ModifyQp slot changes.Init) (λ answer. record {})
modify-right c w by slot (changes.Rtr peer incarnation psn mtu rnr_code) sound empty = rtr-right c w by slot peer incarnation psn mtu rnr_code sound empty
modify-right c w by slot (changes.Rts psn retry rnr_retry reads) sound empty = free-verb c w by (verbs.ModifyQp slot (changes.Rts psn retry rnr_retry reads)) (λ answer. record {})
modify-right c w by slot changes.Sqd sound empty = free-verb c w by (verbs.ModifyQp slot changes.Sqd) (λ answer. record {})
modify-right c w by slot changes.Resume sound empty = free-verb c w by (verbs.ModifyQp slot changes.Resume) (λ answer. record {})
modify-right c w by slot changes.Error sound empty = free-verb c w by (verbs.ModifyQp slot changes.Error) (λ answer. record {})

verb-right : (c : Configuration) (w : World) (by : ℕ) (verb : Verb) → IsSoundWorld c w → AllBeginEmpty w → Leads w (λ v ms. AreRight w ms) (verb_plan c (record { by = by; verb = verb }) verb)
verb-right c w by (verbs.CreateQp slot send_cq recv_cq send_depth recv_depth srq) sound empty = create-right c w by slot send_cq recv_cq send_depth recv_depth srq
verb-right c w by (verbs.ModifyQp slot change) sound empty = modify-right c w by slot change sound empty
verb-right c w by (verbs.AllocPd domain) sound empty = free-verb c w by (verbs.AllocPd domain) (λ answer. record {})
verb-right c w by (verbs.DeallocPd domain) sound empty = free-verb c w by (verbs.DeallocPd domain) (λ answer. record {})
verb-right c w by (verbs.RegMr slot buffer offset count rights) sound empty = free-verb c w by (verbs.RegMr slot buffer offset count rights) (λ answer. record {})
verb-right c w by (verbs.AllocMr slot pages) sound empty = free-verb c w by (verbs.AllocMr slot pages) (λ answer. record {})
verb-right c w by (verbs.DeregMr slot) sound empty = free-verb c w by (verbs.DeregMr slot) (λ answer. record {})
verb-right c w by (verbs.AllocMw slot kind) sound empty = free-verb c w by (verbs.AllocMw slot kind) (λ answer. record {})
verb-right c w by (verbs.DeallocMw slot) sound empty = free-verb c w by (verbs.DeallocMw slot) (λ answer. record {})
verb-right c w by (verbs.CreateCq slot capacity) sound empty = free-verb c w by (verbs.CreateCq slot capacity) (λ answer. record {})
verb-right c w by (verbs.DestroyCq slot) sound empty = free-verb c w by (verbs.DestroyCq slot) (λ answer. record {})
verb-right c w by (verbs.CreateSrq slot depth) sound empty = free-verb c w by (verbs.CreateSrq slot depth) (λ answer. record {})
verb-right c w by (verbs.DestroySrq slot) sound empty = free-verb c w by (verbs.DestroySrq slot) (λ answer. record {})
verb-right c w by (verbs.QueryQp slot) sound empty = free-verb c w by (verbs.QueryQp slot) (λ answer. record {})
verb-right c w by (verbs.DestroyQp slot) sound empty = free-verb c w by (verbs.DestroyQp slot) (λ answer. record {})
verb-right c w by (verbs.PostSend slot request) sound empty = leads-post c w (λ v ms. AreRight w ms) (record { by = by; verb = verbs.PostSend slot request }) slot request sound (λ r. record {})
    (λ q v drawn key there fails replaces. ltb-false MAX_MESSAGE_BYTES (list_length (list_of request.op)) fails.1.0)
verb-right c w by (verbs.PostRecv slot request) sound empty = free-verb c w by (verbs.PostRecv slot request) (λ answer. record {})
verb-right c w by (verbs.PostSrq slot request) sound empty = free-verb c w by (verbs.PostSrq slot request) (λ answer. record {})
verb-right c w by (verbs.Poll slot n least) sound empty = free-verb c w by (verbs.Poll slot n least) (λ answer. record {})
verb-right c w by (verbs.Store adapter buffer offset bytes) sound empty = free-verb c w by (verbs.Store adapter buffer offset bytes) (λ answer. record {})
verb-right c w by (verbs.Load adapter buffer offset count) sound empty = free-verb c w by (verbs.Load adapter buffer offset count) (λ answer. record {})
verb-right c w by (verbs.Inject queue bytes) sound empty = free-verb c w by (verbs.Inject queue bytes) (λ answer. record {})

refused-right : (w : World) (verb : Verb) (r : Refusal) → IsRight w verb (answers.Refused r)
refused-right w (verbs.CreateQp slot send_cq recv_cq send_depth recv_depth srq) r = record {}
refused-right w (verbs.ModifyQp slot (changes.Rtr peer incarnation psn mtu rnr_code)) r = record {}
refused-right w (verbs.PostSend slot request) r = record {}
refused-right w verb r = record {}

-- the marks of a turn hold no answer
plain-as : (Q : Verb → Answer → Type 0) (ms : List Mark) → ArePlain ms → AsAnswered Q ms
plain-as Q [] plain = record {}
plain-as Q (marks.Verb by verb answer ∷ ms) plain = absurd plain.0
plain-as Q (marks.Granted g ∷ ms) plain = record {}
plain-as Q (marks.Revoked adapter key ∷ ms) plain = record {}
plain-as Q (marks.Remote queue domain envelope key kind address count verdict ∷ ms) plain = record {}
plain-as Q (marks.Local queue domain key kind address count verdict ∷ ms) plain = record {}
plain-as Q (marks.Stored place bytes ∷ ms) plain = record {}
plain-as Q (marks.Sent source target index request bytes ∷ ms) plain = record {}
plain-as Q (marks.Lost target index ∷ ms) plain = record {}
plain-as Q (marks.Arrived target index ∷ ms) plain = record {}
plain-as Q (marks.Dropped target cause ∷ ms) plain = record {}
plain-as Q (marks.Timer queue silent ∷ ms) plain = record {}
plain-as Q (marks.Done queue x cause ∷ ms) plain = record {}

turn-right : (w : World) (o : Outcome) → Comes (λ v ms. ArePlain ms) o → Comes (λ v ms. AreRight w ms) o
turn-right w (NotReady reason) plain = plain
turn-right w (Did v ms) plain = plain-as (IsRight w) ms plain

pub event-right : (c : Configuration) (w : World) (event : Event) → IsSoundWorld c w → AllBeginEmpty w → Comes (λ v ms. AreRight w ms) (step c w event)
event-right c w (events.Verb by verb) sound empty = comes w (λ v ms. AreRight w ms) (plan c (events.Verb by verb)) (λ named. verb-right c w by verb sound empty, λ none. refused-right w verb NoSuch)
event-right c w (events.Request queue lot) sound empty = turn-right w (step c w (events.Request queue lot)) (event-fits c (events.Request queue lot) w)
event-right c w (events.Deliver queue index) sound empty = turn-right w (step c w (events.Deliver queue index)) (event-fits c (events.Deliver queue index) w)
event-right c w (events.Respond queue lot) sound empty = turn-right w (step c w (events.Respond queue lot)) (event-fits c (events.Respond queue lot) w)
event-right c w (events.Timeout queue hasten) sound empty = turn-right w (step c w (events.Timeout queue hasten)) (event-fits c (events.Timeout queue hasten) w)
event-right c w (events.RnrWake queue) sound empty = turn-right w (step c w (events.RnrWake queue)) (event-fits c (events.RnrWake queue) w)

-- ---- what is destroyed

destroy-gone : (c : Configuration) (w : World) (by : ℕ) (slot : Slot) → IsSoundWorld c w → Leads w (λ v ms. AsAnswered (IsGone v) ms) (verb_plan c (record { by = by; verb = verbs.DestroyQp slot }) (verbs.DestroyQp slot))
destroy-gone c w by slot sound = leads-destroy c w (λ v ms. AsAnswered (IsGone v) ms) (record { by = by; verb = verbs.DestroyQp slot }) slot sound (λ r. record {})
    (λ q v there replaces. ap is_present (replaces.here (queue_of slot) (queue-refl (queue_of slot))).0)

calm-gone : (c : Configuration) (w : World) (by : ℕ) (verb : Verb) → ((v : World) (answer : Answer) → IsGone v verb answer) → Leads w (λ v ms. AsAnswered (IsGone v) ms) (verb_plan c (record { by = by; verb = verb }) verb)
calm-gone c w by verb gone = leads-weaker w (Answers call) (λ v ms. AsAnswered (IsGone v) ms) (verb_plan c call verb) (λ v ms answered. answered-as (IsGone v) call (gone v) ms answered) (fits-verb c w call verb)
  where
    call : Call
    call = record { by = by; verb = verb }

verb-gone : (c : Configuration) (w : World) (by : ℕ) (verb : Verb) → IsSoundWorld c w → Leads w (λ v ms. AsAnswered (IsGone v) ms) (verb_plan c (record { by = by; verb = verb }) verb)
verb-gone c w by (verbs.DestroyQp slot) sound = destroy-gone c w by slot sound
verb-gone c w by (verbs.CreateQp slot send_cq recv_cq send_depth recv_depth srq) sound = calm-gone c w by (verbs.CreateQp slot send_cq recv_cq send_depth recv_depth srq) (λ v answer. record {})
verb-gone c w by (verbs.ModifyQp slot change) sound = calm-gone c w by (verbs.ModifyQp slot change) (λ v answer. record {})
verb-gone c w by (verbs.AllocPd domain) sound = calm-gone c w by (verbs.AllocPd domain) (λ v answer. record {})
verb-gone c w by (verbs.DeallocPd domain) sound = calm-gone c w by (verbs.DeallocPd domain) (λ v answer. record {})
verb-gone c w by (verbs.RegMr slot buffer offset count rights) sound = calm-gone c w by (verbs.RegMr slot buffer offset count rights) (λ v answer. record {})
verb-gone c w by (verbs.AllocMr slot pages) sound = calm-gone c w by (verbs.AllocMr slot pages) (λ v answer. record {})
verb-gone c w by (verbs.DeregMr slot) sound = calm-gone c w by (verbs.DeregMr slot) (λ v answer. record {})
verb-gone c w by (verbs.AllocMw slot kind) sound = calm-gone c w by (verbs.AllocMw slot kind) (λ v answer. record {})
verb-gone c w by (verbs.DeallocMw slot) sound = calm-gone c w by (verbs.DeallocMw slot) (λ v answer. record {})
verb-gone c w by (verbs.CreateCq slot capacity) sound = calm-gone c w by (verbs.CreateCq slot capacity) (λ v answer. record {})
verb-gone c w by (verbs.DestroyCq slot) sound = calm-gone c w by (verbs.DestroyCq slot) (λ v answer. record {})
verb-gone c w by (verbs.CreateSrq slot depth) sound = calm-gone c w by (verbs.CreateSrq slot depth) (λ v answer. record {})
verb-gone c w by (verbs.DestroySrq slot) sound = calm-gone c w by (verbs.DestroySrq slot) (λ v answer. record {})
verb-gone c w by (verbs.QueryQp slot) sound = calm-gone c w by (verbs.QueryQp slot) (λ v answer. record {})
verb-gone c w by (verbs.PostSend slot request) sound = calm-gone c w by (verbs.PostSend slot request) (λ v answer. record {})
verb-gone c w by (verbs.PostRecv slot request) sound = calm-gone c w by (verbs.PostRecv slot request) (λ v answer. record {})
verb-gone c w by (verbs.PostSrq slot request) sound = calm-gone c w by (verbs.PostSrq slot request) (λ v answer. record {})
verb-gone c w by (verbs.Poll slot n least) sound = calm-gone c w by (verbs.Poll slot n least) (λ v answer. record {})
verb-gone c w by (verbs.Store adapter buffer offset bytes) sound = calm-gone c w by (verbs.Store adapter buffer offset bytes) (λ v answer. record {})
verb-gone c w by (verbs.Load adapter buffer offset count) sound = calm-gone c w by (verbs.Load adapter buffer offset count) (λ v answer. record {})
verb-gone c w by (verbs.Inject queue bytes) sound = calm-gone c w by (verbs.Inject queue bytes) (λ v answer. record {})

refused-gone : (v : World) (verb : Verb) (r : Refusal) → IsGone v verb (answers.Refused r)
refused-gone v (verbs.DestroyQp slot) r = record {}
refused-gone v verb r = record {}

turn-gone : (o : Outcome) → Comes (λ v ms. ArePlain ms) o → Comes (λ v ms. AsAnswered (IsGone v) ms) o
turn-gone (NotReady reason) plain = plain
turn-gone (Did v ms) plain = plain-as (IsGone v) ms plain

pub event-gone : (c : Configuration) (w : World) (event : Event) → IsSoundWorld c w → Comes (λ v ms. AsAnswered (IsGone v) ms) (step c w event)
event-gone c w (events.Verb by verb) sound = comes w (λ v ms. AsAnswered (IsGone v) ms) (plan c (events.Verb by verb)) (λ named. verb-gone c w by verb sound, λ none. refused-gone w verb NoSuch)
event-gone c w (events.Request queue lot) sound = turn-gone (step c w (events.Request queue lot)) (event-fits c (events.Request queue lot) w)
event-gone c w (events.Deliver queue index) sound = turn-gone (step c w (events.Deliver queue index)) (event-fits c (events.Deliver queue index) w)
event-gone c w (events.Respond queue lot) sound = turn-gone (step c w (events.Respond queue lot)) (event-fits c (events.Respond queue lot) w)
event-gone c w (events.Timeout queue hasten) sound = turn-gone (step c w (events.Timeout queue hasten)) (event-fits c (events.Timeout queue hasten) w)
event-gone c w (events.RnrWake queue) sound = turn-gone (step c w (events.RnrWake queue)) (event-fits c (events.RnrWake queue) w)
