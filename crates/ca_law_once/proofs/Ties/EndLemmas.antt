-- A queue pair whose life ends, and one that is made, keep a world tied: a mailbox is emptied, and its entries are gone.
use Rattle.std.proofs.Common.{◌≡◌, ℕ, map, suc, ◌<◌, ◌⊎◌, inl, inr, arith, Bool, true, false, nat_lt, List, [], ◌∷◌, Option, None, Some, refl, ap, sym, subst, true≢false, ◌∙◌}
use Rattle.std.proofs.lemmas.Bool.{ltb-false, ltb-true}
use Rattle.std.specs.Option.{option_map}
use Rattle.ca_law_endings.proofs.LeadsLemmas.{comes, leads-around, leads-unless}
use Rattle.ca_law_endings.specs.Runs.{Comes, Leads}
use Rattle.ca_base.specs.Configuration.{Configuration}
use Rattle.ca_base.specs.declared.change.Change.TheVariants as changes
use Rattle.ca_base.specs.declared.correspondent.Correspondent.{Correspondent}
use Rattle.ca_base.specs.objects.Mailbox.{Mailbox}
use Rattle.ca_base.specs.objects.QueuePair.{QueuePair, QueueSlot, NoQueue, Present, after_reset, is_present, srq_of}
use Rattle.ca_base.specs.objects.SharedReceives.{SharedReceives, SrqSlot, after_receives_retire}
use Rattle.ca_base.specs.objects.StateTable.{modify_refusals, queue_after_change}
use Rattle.ca_connection.specs.Layout.{Direction}
use Rattle.ca_connection.specs.Link.{Link}
use Rattle.ca_connection.specs.Moves.Move.{clear_requests, clear_responses}
use Rattle.ca_connection.specs.Moves.Reached.{move}
use Rattle.ca_keys.specs.Equal.{queue_eq}
use Rattle.ca_keys.specs.Numbers.{queue_of}
use Rattle.ca_keys.specs.declared.names.QueueId.{QueueId}
use Rattle.ca_keys.specs.declared.names.Slot.{Slot}
use Rattle.ca_law_world.proofs.Sound.SettledLemmas.{queue-path}
use Rattle.ca_law_world.proofs.Sound.WorldLemmas.{around_in, shared_of}
use Rattle.ca_model.specs.Past.{with_at}
use Rattle.ca_model.specs.declared.answer.Answer.TheVariants as answers
use Rattle.ca_model.specs.declared.answer.Refusal.TheVariants.{NoSuch}
use Rattle.ca_model.specs.declared.event.Event.TheVariants as events
use Rattle.ca_model.specs.declared.mark.Mark.{Mark}
use Rattle.ca_model.specs.declared.verb.Verb.TheVariants as verbs
use Rattle.ca_model.specs.machine.Around.{Around, With_around, cq_updates, srq_updates}
use Rattle.ca_model.specs.machine.Completions.{flush_marks}
use Rattle.ca_model.specs.machine.Plan.{Look, Plan, Update, ◌:=◌, put_all}
use Rattle.ca_model.specs.machine.QueuePairVerbs.{emptied_mailbox, emptied_updates, places_held}
use Rattle.ca_model.specs.machine.Row.{queue_and_marks}
use Rattle.ca_model.specs.machine.Sound.{IsSoundWorld}
use Rattle.ca_model.specs.machine.Step.{step, plan}
use Rattle.ca_model.specs.machine.VerbAnswers.{Answer_plan, Call, Refuse_plan, Unless_plan, of_change_refusals}
use Rattle.ca_model.specs.machine.World.{Mailbox_of, Queue_of, Srq_of, World}
use Rattle.ca_law_once.proofs.Ties.DeliverLemmas.{present-same}
use Rattle.ca_law_once.proofs.Ties.DeliverTies.{other-name, receiver-at, sender-at, stands-changed, stands-still}
use Rattle.ca_law_once.proofs.Ties.DeliverWalk.{Changes, Has}
use Rattle.ca_law_once.proofs.Ties.QuietLemmas.{IsQuiet, joined-neither, quiet-ties}
use Rattle.ca_law_once.proofs.Ties.SentTies.{assembled, stay}
use Rattle.ca_law_once.proofs.Ties.TimerLemmas.{IsFoundAt, found-at}
use Rattle.ca_law_once.specs.Ties.{IsBefore, IsOver, IsTied, ReceiverTie, SenderTie, TiedAfter}
use Rattle.ca_law_once.specs.Ties.RequestsAfter.{same as requests_same, ended as requests_ended}
use Rattle.ca_law_once.specs.Ties.IsBefore.{sooner, unnamed}
use Rattle.ca_law_once.specs.Ties.IsOver.{later, vacant}
use Rattle.ca_law_once.specs.Ties.ReceiverTie.{before as receiver_before, standing as receiver_standing, gone as receiver_gone}
use Rattle.ca_law_once.specs.Ties.SenderTie.{before as sender_before, standing as sender_standing, gone as sender_gone}
use Rattle.ca_law_once.proofs.Rows.KeepLemmas.{keeps-nothing}
use Rattle.ca_law_once.specs.Links.{LeadsTo}
use Rattle.ca_law_once.specs.Sides.{said}

-- a slot's life ends or has ended, or one is made: no life stands in the new slot
pub record IsEnd (slot other : QueueSlot) : Type 0 where
  pub before : (life : Correspondent) → IsBefore life slot → IsBefore life other ⊎ IsOver life other
  pub over : (life : Correspondent) → IsOver life slot → IsOver life other
  pub there : (life : Correspondent) (t : QueuePair) → slot ≡ Present t → t.incarnation ≡ life.incarnation → IsOver life other

cleared-requests : (d : Direction) (s r : Correspondent) (w : World) (l : Link) → IsTied d s r w l → LeadsTo d l l.requester l.responder [] l.responses
cleared-requests d s r w l tied = record { link = record l { requests = [] }; reached = move tied.reached clear_requests; requester_is = refl; responder_is = refl; requests_are = refl; responses_are = refl; acceptances = refl; completions = refl }

cleared-responses : (d : Direction) (s r : Correspondent) (w : World) (l : Link) → IsTied d s r w l → LeadsTo d l l.requester l.responder l.requests []
cleared-responses d s r w l tied = record { link = record l { responses = [] }; reached = move tied.reached clear_responses; requester_is = refl; responder_is = refl; requests_are = refl; responses_are = refl; acceptances = refl; completions = refl }

pub end-ties : (d : Direction) (s r : Correspondent) (w v : World) (l : Link) (name : QueueId) (other : QueueSlot) (m : Mailbox) → Changes w name other m v → IsEnd (w.queue name) other → IsTied d s r w l
    → TiedAfter d s r w l (λ place. []) (λ place. []) v
end-ties d s r w v l name other m changes end tied = by (queue_eq name r.queue) refl (queue_eq name s.queue) refl
  where
    sender-else : queue_eq name s.queue ≡ false → SenderTie d s r (v.queue s.queue) (v.mailbox s.queue) l.requester l.responses
    sender-else none = let still = stands-still w v name s.queue other m changes none in sender-at d s r l (w.queue s.queue) (v.queue s.queue) (w.mailbox s.queue) (v.mailbox s.queue) still.0 still.1 tied.sender

    receiver-else : queue_eq name r.queue ≡ false → ReceiverTie d s r (v.queue r.queue) (v.mailbox r.queue) l.responder l.requests
    receiver-else none = let still = stands-still w v name r.queue other m changes none in receiver-at d s r l (w.queue r.queue) (v.queue r.queue) (w.mailbox r.queue) (v.mailbox r.queue) still.0 still.1 tied.receiver

    at-receiver : queue_eq name r.queue ≡ true → queue_eq name s.queue ≡ false → ReceiverTie d s r (w.queue name) (w.mailbox r.queue) l.responder l.requests → TiedAfter d s r w l (λ place. []) (λ place. []) v
    at-receiver here elsewhere (receiver_before is same none) = assembled d s r w v l l.requester l.responder l.requests l.responses tied.apart (stay d l tied.reached) (requests_same refl) (sender-else elsewhere)
        (subst (λ z. ReceiverTie d s r z (v.mailbox r.queue) l.responder l.requests) (sym (stands-changed w v name r.queue other m changes here).0) (now (end.before r is)))
      where
        now : IsBefore r other ⊎ IsOver r other → ReceiverTie d s r other (v.mailbox r.queue) l.responder l.requests
        now (inl still) = receiver_before still same none
        now (inr over) = receiver_gone over none
    at-receiver here elsewhere (receiver_gone is none) = assembled d s r w v l l.requester l.responder l.requests l.responses tied.apart (stay d l tied.reached) (requests_same refl) (sender-else elsewhere)
        (subst (λ z. ReceiverTie d s r z (v.mailbox r.queue) l.responder l.requests) (sym (stands-changed w v name r.queue other m changes here).0) (receiver_gone (end.over r is) none))
    at-receiver here elsewhere (receiver_standing t paired same entries) = assembled d s r w v l l.requester l.responder [] l.responses tied.apart (cleared-requests d s r w l tied)
        (requests_ended refl (ap is_present (ap w.queue (sym (queue-path name r.queue here)) ∙ paired.present)) (subst (IsOver r) (sym (stands-changed w v name r.queue other m changes here).0) (end.there r t paired.present paired.incarnation)))
        (sender-else elsewhere)
        (subst (λ z. ReceiverTie d s r z (v.mailbox r.queue) l.responder []) (sym (stands-changed w v name r.queue other m changes here).0) (receiver_gone (end.there r t paired.present paired.incarnation) refl))

    at-sender : queue_eq name s.queue ≡ true → queue_eq name r.queue ≡ false → SenderTie d s r (w.queue name) (w.mailbox s.queue) l.requester l.responses → TiedAfter d s r w l (λ place. []) (λ place. []) v
    at-sender here elsewhere (sender_before is same none) = assembled d s r w v l l.requester l.responder l.requests l.responses tied.apart (stay d l tied.reached) (requests_same refl)
        (subst (λ z. SenderTie d s r z (v.mailbox s.queue) l.requester l.responses) (sym (stands-changed w v name s.queue other m changes here).0) (now (end.before s is))) (receiver-else elsewhere)
      where
        now : IsBefore s other ⊎ IsOver s other → SenderTie d s r other (v.mailbox s.queue) l.requester l.responses
        now (inl still) = sender_before still same none
        now (inr over) = sender_gone over none
    at-sender here elsewhere (sender_gone is none) = assembled d s r w v l l.requester l.responder l.requests l.responses tied.apart (stay d l tied.reached) (requests_same refl)
        (subst (λ z. SenderTie d s r z (v.mailbox s.queue) l.requester l.responses) (sym (stands-changed w v name s.queue other m changes here).0) (sender_gone (end.over s is) none)) (receiver-else elsewhere)
    at-sender here elsewhere (sender_standing t paired own entries) = assembled d s r w v l l.requester l.responder l.requests [] tied.apart (cleared-responses d s r w l tied) (requests_same refl)
        (subst (λ z. SenderTie d s r z (v.mailbox s.queue) l.requester []) (sym (stands-changed w v name s.queue other m changes here).0) (sender_gone (end.there s t paired.present paired.incarnation) refl)) (receiver-else elsewhere)

    by : (b : Bool) → queue_eq name r.queue ≡ b → (a : Bool) → queue_eq name s.queue ≡ a → TiedAfter d s r w l (λ place. []) (λ place. []) v
    by true here a there = at-receiver here (other-name name s.queue r.queue tied.apart here) (subst (λ z. ReceiverTie d s r z (w.mailbox r.queue) l.responder l.requests) (ap w.queue (sym (queue-path name r.queue here))) tied.receiver)
    by false none true here = at-sender here none (subst (λ z. SenderTie d s r z (w.mailbox s.queue) l.requester l.responses) (ap w.queue (sym (queue-path name s.queue here))) tied.sender)
    by false none false nowhere = assembled d s r w v l l.requester l.responder l.requests l.responses tied.apart (stay d l tied.reached) (requests_same refl) (sender-else nowhere) (receiver-else none)

-- ---- a reset

reset-ends : (q : QueuePair) → IsEnd (Present q) (Present (after_reset q))
reset-ends q = record {
  before = λ life is. early life is;
  over = λ life is. late life is;
  there = λ life t is same. later (omega (arith, ap (λ (x : QueuePair). x.incarnation) (present-same q t is), same));
}
  where
    next : (life : Correspondent) → q.incarnation < life.incarnation → (b : Bool) → nat_lt (suc q.incarnation) life.incarnation ≡ b → IsBefore life (Present (after_reset q)) ⊎ IsOver life (Present (after_reset q))
    next life less true e = inl (sooner (ltb-true (suc q.incarnation) life.incarnation e))
    next life less false e = inl (unnamed (after_reset q) refl (omega (arith, less, ltb-false (suc q.incarnation) life.incarnation e)) refl)

    early : (life : Correspondent) → IsBefore life (Present q) → IsBefore life (Present (after_reset q)) ⊎ IsOver life (Present (after_reset q))
    early life (sooner less) = next life less (nat_lt (suc q.incarnation) life.incarnation) refl
    early life (unnamed t is same none) = inr (later (omega (arith, ap (λ (x : QueuePair). x.incarnation) (present-same q t is), same)))

    late : (life : Correspondent) → IsOver life (Present q) → IsOver life (Present (after_reset q))
    late life (later more) = later (omega (arith, more))
    late life (vacant none same) = absurd (true≢false none)

has-retired : (queues : QueueId → QueueSlot) (boxes : QueueId → Mailbox) (q : QueuePair) (a : Around) (f : SharedReceives → SharedReceives) (v : World) → Has queues boxes v → Has queues boxes (put_all (srq_updates q a f) v)
has-retired queues boxes q a f v has = by q.srq a.shared
  where
    updates : Option ℕ → Option SrqSlot → List Update
    updates (Some srq) (Some slot) = (Srq_of (srq_of q srq) := record slot { srq = option_map f slot.srq }) ∷ []
    updates srq slot = []

    by : (o : Option ℕ) (t : Option SrqSlot) → Has queues boxes (put_all (updates o t) v)
    by None t = has
    by (Some srq) None = has
    by (Some srq) (Some slot) = record { queue = has.queue; mailbox = has.mailbox }

-- ---- ModifyQp to Reset and to Error

error-quiet : (q : QueuePair) (w : World) (name : QueueId) → IsFoundAt w name q → IsQuiet q (queue_and_marks (queue_after_change changes.Error q) [])
error-quiet q w name there = record {
  incarnation = refl;
  peer = refl;
  state = (inr refl, refl);
  requester = λ d laid. record { una = refl; low = there.sound.requester.outstanding; high = omega arith; laid = λ e. absurd (true≢false (sym e)) };
  responder = λ d mtu. record { expected = refl; queue = keeps-nothing (map said q.responder.answers); results = refl; mtu = mtu };
}

pub modify-ties : (d : Direction) (s r : Correspondent) (c : Configuration) (w : World) (l : Link) (by : ℕ) (slot : Slot) → IsSoundWorld c w → IsTied d s r w l
    → Comes (λ v ms. TiedAfter d s r w l (λ place. []) (λ place. []) v) (step c w (events.Verb by (verbs.ModifyQp slot changes.Error)))
    × Comes (λ v ms. TiedAfter d s r w l (λ place. []) (λ place. []) v) (step c w (events.Verb by (verbs.ModifyQp slot changes.Reset)))
modify-ties d s r c w l by slot sound tied = (
  comes w P (plan c (events.Verb by (verbs.ModifyQp slot changes.Error))) ((λ named. error (w.queue (queue_of slot)) refl), λ none. same),
  comes w P (plan c (events.Verb by (verbs.ModifyQp slot changes.Reset))) ((λ named. reset (w.queue (queue_of slot)) refl), λ none. same),
)
  where
    P : World → List Mark → Type 0
    P v ms = TiedAfter d s r w l (λ place. []) (λ place. []) v

    same : TiedAfter d s r w l (λ place. []) (λ place. []) w
    same = joined-neither d s r w w l tied refl refl refl refl

    error_call : Call
    error_call = record { by = by; verb = verbs.ModifyQp slot changes.Error }

    reset_call : Call
    reset_call = record { by = by; verb = verbs.ModifyQp slot changes.Reset }

    error_plan : QueueSlot → Plan
    error_plan (NoQueue incarnation timers) = Refuse_plan error_call NoSuch
    error_plan (Present q) = Look (Mailbox_of q.queue) (λ m. With_around q (λ a.
        Unless_plan error_call (of_change_refusals (modify_refusals c q changes.Error))
        (Answer_plan error_call answers.Fine ((Queue_of q.queue := Present (queue_after_change changes.Error q)) ∷ cq_updates q a (flush_marks q)) (flush_marks q))))

    error : (x : QueueSlot) → w.queue (queue_of slot) ≡ x → Leads w P (error_plan x)
    error (NoQueue incarnation timers) is = same
    error (Present q) is = leads-around w P q (λ a. Unless_plan error_call (of_change_refusals (modify_refusals c q changes.Error))
        (Answer_plan error_call answers.Fine ((Queue_of q.queue := Present (queue_after_change changes.Error q)) ∷ cq_updates q a (flush_marks q)) (flush_marks q)))
        (leads-unless w P (of_change_refusals (modify_refusals c q changes.Error)) (Refuse_plan error_call)
        (Answer_plan error_call answers.Fine ((Queue_of q.queue := Present (queue_after_change changes.Error q)) ∷ cq_updates q a (flush_marks q)) (flush_marks q)) (λ x. same)
        (quiet-ties d s r w v l (queue_of slot) q (queue_and_marks (queue_after_change changes.Error q) []) is (error-quiet q w (queue_of slot) there)
        (subst (λ n. Has (with_at queue_eq w.queue n (Present (queue_after_change changes.Error q))) w.mailbox v) there.named (record { queue = refl; mailbox = refl })) tied))
      where
        a : Around
        a = around_in w q (shared_of w q)

        there : IsFoundAt w (queue_of slot) q
        there = found-at c w (queue_of slot) q sound is

        v : World
        v = put_all ((Queue_of q.queue := Present (queue_after_change changes.Error q)) ∷ cq_updates q a (flush_marks q)) w

    reset_plan : QueueSlot → Plan
    reset_plan (NoQueue incarnation timers) = Refuse_plan reset_call NoSuch
    reset_plan (Present q) = Look (Mailbox_of q.queue) (λ m. With_around q (λ a.
        Unless_plan reset_call (of_change_refusals (modify_refusals c q changes.Reset))
        (Answer_plan reset_call answers.Fine ((Queue_of q.queue := Present (after_reset q)) ∷ (Mailbox_of q.queue := emptied_mailbox (suc q.incarnation) m) ∷ emptied_updates q a) [])))

    reset : (x : QueueSlot) → w.queue (queue_of slot) ≡ x → Leads w P (reset_plan x)
    reset (NoQueue incarnation timers) is = same
    reset (Present q) is = leads-around w P q (λ a. Unless_plan reset_call (of_change_refusals (modify_refusals c q changes.Reset)) (done a))
        (leads-unless w P (of_change_refusals (modify_refusals c q changes.Reset)) (Refuse_plan reset_call) (done a) (λ x. same)
        (end-ties d s r w v l (queue_of slot) (Present (after_reset q)) box
        (subst (λ n. Has (with_at queue_eq w.queue n (Present (after_reset q))) (with_at queue_eq w.mailbox n box) v) there.named
        (has-retired (with_at queue_eq w.queue q.queue (Present (after_reset q))) (with_at queue_eq w.mailbox q.queue box) q a (after_receives_retire (places_held q a)) _ (record { queue = refl; mailbox = refl })))
        (subst (λ z. IsEnd z (Present (after_reset q))) (sym is) (reset-ends q)) tied))
      where
        a : Around
        a = around_in w q (shared_of w q)

        box : Mailbox
        box = emptied_mailbox (suc q.incarnation) (w.mailbox q.queue)

        done : Around → Plan
        done a = Answer_plan reset_call answers.Fine ((Queue_of q.queue := Present (after_reset q)) ∷ (Mailbox_of q.queue := box) ∷ emptied_updates q a) []

        there : IsFoundAt w (queue_of slot) q
        there = found-at c w (queue_of slot) q sound is

        v : World
        v = put_all ((Queue_of q.queue := Present (after_reset q)) ∷ (Mailbox_of q.queue := box) ∷ emptied_updates q a) w
