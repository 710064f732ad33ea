-- Each verb that changes queue pairs or their mailboxes keeps a world tied, where its answer agrees. For proofs only.
use Rattle.std.proofs.Common.{◌≡◌, ℕ, zero, suc, ◌+◌, ◌-◌, ◌^◌, ◌≤◌, Bool, true, false, if◌then◌else◌, List, [], ◌∷◌, ◌++◌, drop, length, map, Option, None, Some, is_some, refl, ap, sym, subst, ◌∙◌, true≢false, arith}
use Rattle.std.proofs.lemmas.List.{drop-append-le, length-drop}
use Rattle.ca_law_endings.specs.Agreement.{peer_in}
use Rattle.ca_base.specs.declared.change.Change as state_change
use Rattle.ca_base.specs.declared.change.Change.TheVariants as changes
use Rattle.ca_base.specs.declared.change.State.{State}
use Rattle.ca_base.specs.declared.change.State.TheVariants as states
use Rattle.ca_base.specs.declared.correspondent.Correspondent.{Correspondent}
use Rattle.ca_base.specs.declared.request.PostedSend.{PostedSend}
use Rattle.ca_base.specs.declared.request.RecvRequest.{RecvRequest}
use Rattle.ca_base.specs.declared.request.SendRequest.{SendRequest}
use Rattle.ca_base.specs.objects.Mailbox.{Mailbox}
use Rattle.ca_base.specs.objects.QueuePair.{QueuePair, Present, incarnation_of, with_all_flushed}
use Rattle.ca_base.specs.objects.StateTable.{allowed_from, is_among, queue_after_change, state_eq}
use Rattle.ca_base.specs.objects.WorkQueue.{items_from, next_place}
use Rattle.ca_connection.specs.Layout.{Direction, first}
use Rattle.ca_connection.specs.Link.{Link, Requester, opening}
use Rattle.ca_keys.specs.declared.names.QueueId.{QueueId}
use Rattle.ca_model.specs.declared.mark.Mark.{Mark}
use Rattle.ca_model.specs.machine.Invariants.{IsQueue, is_fresh, is_idle, is_sending}
use Rattle.ca_model.specs.machine.PostingVerbs.{after_flush, with_send}
use Rattle.ca_model.specs.machine.World.{World}
use Rattle.ca_law_once.proofs.Ties.DeliverLemmas.{present-same}
use Rattle.ca_law_once.proofs.Ties.TimerLemmas.{IsFoundAt}
use Rattle.ca_law_once.specs.Ties.{AreEntries, IsTied, ReceiverTie, RequesterTie, SenderTie, TiedAfter}
use Rattle.ca_law_once.specs.Ties.IsOver.{later, vacant}
use Rattle.ca_law_once.specs.Ties.ReceiverTie.{before as receiver_before, standing as receiver_standing, gone as receiver_gone}
use Rattle.ca_law_once.specs.Ties.SenderTie.{before as sender_before, standing as sender_standing, gone as sender_gone}
use Rattle.ca_law_once.specs.Entries.{SpellsRequest, SpellsResponse, SpellsSomeRequest, SpellsSomeResponse}
use Rattle.ca_law_once.specs.Sides.{IsWork, kept_result, responder_in, said, work_of}
use Rattle.ca_law_once.proofs.Verbs.BeginLemmas.{found-begins, init-idle}
use Rattle.ca_law_once.proofs.Verbs.PairLemmas.{IsSameEnd, Replaces, same-requester, tied-replaced, tied-still}
use Rattle.ca_law_once.proofs.Verbs.WalkLemmas.{box_after, with_receive}
use Rattle.ca_law_once.specs.Agrees.{AgreesWith, ChangeAgrees, IsInLife, PostAgrees, ReceiverNames, SenderNames}
use Rattle.ca_law_once.specs.Beginnings.{AllBeginEmpty, BeginsEmpty}

-- a world is tied afterwards, where the marks agree
abbrev pub TiedIfAgreed : Direction → Correspondent → Correspondent → World → Link → World → List Mark → Type 0
TiedIfAgreed d s r w l v ms = AgreesWith d s r w ms → TiedAfter d s r w l (λ place. []) (λ place. []) v

-- ---- states

among-rtr : (t : State) → is_among (states.Rtr ∷ []) t ≡ true → t ≡ states.Rtr
among-rtr states.Rtr among = refl
among-rtr states.Reset among = absurd (true≢false (sym among))
among-rtr states.Init among = absurd (true≢false (sym among))
among-rtr states.Rts among = absurd (true≢false (sym among))
among-rtr states.Sqd among = absurd (true≢false (sym among))
among-rtr states.Error among = absurd (true≢false (sym among))

among-rts : (t : State) → is_among (states.Rts ∷ []) t ≡ true → is_sending t ≡ true
among-rts states.Rts among = refl
among-rts states.Reset among = absurd (true≢false (sym among))
among-rts states.Init among = absurd (true≢false (sym among))
among-rts states.Rtr among = absurd (true≢false (sym among))
among-rts states.Sqd among = absurd (true≢false (sym among))
among-rts states.Error among = absurd (true≢false (sym among))

among-sqd : (t : State) → is_among (states.Sqd ∷ []) t ≡ true → is_sending t ≡ true
among-sqd states.Sqd among = refl
among-sqd states.Reset among = absurd (true≢false (sym among))
among-sqd states.Init among = absurd (true≢false (sym among))
among-sqd states.Rtr among = absurd (true≢false (sym among))
among-sqd states.Rts among = absurd (true≢false (sym among))
among-sqd states.Error among = absurd (true≢false (sym among))

error-silent : (t : State) → state_eq t states.Error ≡ true → is_sending t ≡ false
error-silent states.Error is = refl
error-silent states.Reset is = refl
error-silent states.Init is = refl
error-silent states.Rtr is = refl
error-silent states.Rts is = absurd (true≢false (sym is))
error-silent states.Sqd is = absurd (true≢false (sym is))

-- a queue pair that neither waits for Rts nor sends is nothing to the requester of a link
silent : (d : Direction) (p : QueuePair) (x : Requester) → (p.state ≡ states.Rtr → ⊥) → is_sending p.state ≡ false → RequesterTie d p x
silent d p x none quiet = record {
  fresh = λ is. absurd (none is);
  sending = λ is. absurd (true≢false (sym is ∙ quiet));
  laid = λ is. absurd (true≢false (sym is ∙ quiet));
}

-- the state alone is another, and requests are sent before and after
goes-on : (d : Direction) (q : QueuePair) (t : State) (x : Requester) → is_sending q.state ≡ true → (t ≡ states.Rtr → ⊥) → RequesterTie d q x → RequesterTie d (record q { state = t }) x
goes-on d q t x sends other tie = record {
  fresh = λ is. absurd (other is);
  sending = λ is. tie.sending sends;
  laid = λ is. let l = tie.laid sends in record { mtu = l.mtu; begin = l.begin; work = l.work; passed = l.passed };
}

-- ---- Rtr

-- no envelope is under way to a mailbox
no-entries : {X : Type 0} (Own : X → List ℕ → Type 0) (Other : List ℕ → Type 0) (m : Mailbox) (xs : List (Option X)) → m.envelopes ≡ [] → AreEntries Own Other m.envelopes xs
no-entries Own Other m xs none = subst (λ es. AreEntries Own Other es xs) (sym none) (record {})

rtr-sender : (d : Direction) (s r : Correspondent) (w : World) (l : Link) (name peer : QueueId) (q : QueuePair) (m : Mailbox) (incarnation psn mtu rnr_code : ℕ) → w.queue name ≡ Present q → IsInLife w s name → SenderNames d r peer incarnation mtu
    → q.peer ≡ None → m.envelopes ≡ [] → SenderTie d s r (Present q) m l.requester l.responses
    → SenderTie d s r (Present (queue_after_change (changes.Rtr peer incarnation psn mtu rnr_code) q)) (box_after (changes.Rtr peer incarnation psn mtu rnr_code) q m) l.requester l.responses
rtr-sender d s r w l name peer q m incarnation psn mtu rnr_code is life names nobody none tie = by tie
  where
    p : QueuePair
    p = queue_after_change (changes.Rtr peer incarnation psn mtu rnr_code) q

    own : q.incarnation ≡ s.incarnation
    own = ap incarnation_of (sym is) ∙ life.incarnation

    opens : l.requester ≡ (opening d).requester → SenderTie d s r (Present p) (box_after (changes.Rtr peer incarnation psn mtu rnr_code) q m) l.requester l.responses
    opens same = sender_standing p (record { present = refl; incarnation = own; names = ap (λ x. Some x) names.names; mtu = names.same_mtu })
        (record { fresh = λ e. same; sending = λ e. absurd (true≢false (sym e)); laid = λ e. absurd (true≢false (sym e)) })
        (no-entries SpellsResponse SpellsSomeRequest (box_after (changes.Rtr peer incarnation psn mtu rnr_code) q m) l.responses none)

    by : SenderTie d s r (Present q) m l.requester l.responses → SenderTie d s r (Present p) (box_after (changes.Rtr peer incarnation psn mtu rnr_code) q m) l.requester l.responses
    by (sender_before is same empty) = opens same
    by (sender_gone (later more) empty) = absurd (omega (arith, more, own))
    by (sender_gone (vacant gone same) empty) = absurd (true≢false gone)
    by (sender_standing t paired stood entries) = absurd (true≢false (sym (ap is_some (sym nobody ∙ ap (λ (x : QueuePair). x.peer) (present-same q t paired.present) ∙ paired.names))))

rtr-receiver : (d : Direction) (s r : Correspondent) (w : World) (l : Link) (name peer : QueueId) (q : QueuePair) (m : Mailbox) (incarnation psn mtu rnr_code : ℕ) → w.queue name ≡ Present q → IsInLife w r name
    → ReceiverNames d s peer incarnation psn mtu → q.peer ≡ None → q.saved ≡ [] → q.responder.answers ≡ [] → m.envelopes ≡ [] → ReceiverTie d s r (Present q) m l.responder l.requests
    → ReceiverTie d s r (Present (queue_after_change (changes.Rtr peer incarnation psn mtu rnr_code) q)) (box_after (changes.Rtr peer incarnation psn mtu rnr_code) q m) l.responder l.requests
rtr-receiver d s r w l name peer q m incarnation psn mtu rnr_code is life names nobody unsaved unanswered none tie = by tie
  where
    p : QueuePair
    p = queue_after_change (changes.Rtr peer incarnation psn mtu rnr_code) q

    own : q.incarnation ≡ r.incarnation
    own = ap incarnation_of (sym is) ∙ life.incarnation

    start_is : (opening d).responder ≡ responder_in p
    start_is = (λ i. record {
      expected = 2 ^ 24 + sym names.same_psn i;
      queue = map said (sym unanswered i);
      results = map kept_result (sym unsaved i);
    })

    opens : l.responder ≡ (opening d).responder → ReceiverTie d s r (Present p) (box_after (changes.Rtr peer incarnation psn mtu rnr_code) q m) l.responder l.requests
    opens same = receiver_standing p (record { present = refl; incarnation = own; names = ap (λ x. Some x) names.names; mtu = names.same_mtu }) (same ∙ start_is)
        (no-entries (SpellsRequest d) SpellsSomeResponse (box_after (changes.Rtr peer incarnation psn mtu rnr_code) q m) l.requests none)

    by : ReceiverTie d s r (Present q) m l.responder l.requests → ReceiverTie d s r (Present p) (box_after (changes.Rtr peer incarnation psn mtu rnr_code) q m) l.responder l.requests
    by (receiver_before is same empty) = opens same
    by (receiver_gone (later more) empty) = absurd (omega (arith, more, own))
    by (receiver_gone (vacant gone same) empty) = absurd (true≢false gone)
    by (receiver_standing t paired stood entries) = absurd (true≢false (sym (ap is_some (sym nobody ∙ ap (λ (x : QueuePair). x.peer) (present-same q t paired.present) ∙ paired.names))))

-- ---- Rts

rts-requester : (d : Direction) (q : QueuePair) (psn retry rnr_retry reads : ℕ) (x : Requester) → psn ≡ d.psn → q.state ≡ states.Rtr → q.sends.items ≡ [] → q.requester.oldest ≡ 0 → q.responder.mtu ≡ d.mtu → RequesterTie d q x
    → RequesterTie d (queue_after_change (changes.Rts psn retry rnr_retry reads) q) x
rts-requester d q psn retry rnr_retry reads x same rtr items oldest mtu tie = record {
  fresh = λ e. absurd (true≢false (sym (ap is_fresh e)));
  sending = λ e. tie.fresh rtr ∙ (λ i. record { una = 2 ^ 24 + sym same i; cursor = 2 ^ 24 + sym same i });
  laid = λ e. record {
    mtu = mtu;
    begin = ap (λ n. 2 ^ 24 + n) same ∙ ap (first d) (sym oldest);
    work = subst (λ xs. IsWork d q.requester.oldest (drop (q.requester.oldest - q.sends.first) xs)) (sym items) (nothing (q.requester.oldest - q.sends.first));
    passed = omega arith;
  };
}
  where
    nothing : (k : ℕ) → IsWork d q.requester.oldest (drop {A = PostedSend} k [])
    nothing zero = record {}
    nothing (suc k) = record {}

-- ---- changes of state

-- Error and Reset end what a link says; the other changes do not
abbrev pub IsGoingOn : state_change.Change → Type 0
IsGoingOn changes.Error = ⊥
IsGoingOn changes.Reset = ⊥
IsGoingOn change = Unit {0}

module _ (d : Direction) (s r : Correspondent) (w v : World) (l : Link) (name : QueueId) (q : QueuePair) where
  pub change-ties : (change : state_change.Change) → IsGoingOn change → IsFoundAt w name q → AllBeginEmpty w → is_among (allowed_from change) q.state ≡ true
      → Replaces w name (Present (queue_after_change change q)) (box_after change q (w.mailbox name)) v → ChangeAgrees d s r w name change → IsTied d s r w l → TiedAfter d s r w l (λ place. []) (λ place. []) v
  change-ties changes.Init goes there empty among replaces agrees tied = tied-still d s r w v l name q (queue_after_change changes.Init q) there.is (record { incarnation = refl; peer = refl; mtu = refl; responder = refl })
      (λ life mtu tie. silent d (queue_after_change changes.Init q) l.requester (λ e. true≢false (ap is_idle e)) refl) replaces tied
  change-ties (changes.Rtr peer incarnation psn mtu rnr_code) goes there empty among replaces agrees tied =
      tied-replaced d s r w v l name q (queue_after_change (changes.Rtr peer incarnation psn mtu rnr_code) q) (box_after (changes.Rtr peer incarnation psn mtu rnr_code) q (w.mailbox name)) there.is refl replaces
      (λ life. rtr-sender d s r w l name peer q (w.mailbox name) incarnation psn mtu rnr_code there.is life (agrees.sender life) nobody none)
      (λ life. rtr-receiver d s r w l name peer q (w.mailbox name) incarnation psn mtu rnr_code there.is life (agrees.receiver life) nobody (own.saved idle) (there.sound.responder.silent idle) none) tied
    where
      own : BeginsEmpty q
      own = found-begins w name q empty there.is

      idle : is_idle q.state ≡ true
      idle = init-idle q.state among

      nobody : q.peer ≡ None
      nobody = own.peer idle

      none : (w.mailbox name).envelopes ≡ []
      none = empty.mail name (ap peer_in there.is ∙ nobody)
  change-ties (changes.Rts psn retry rnr_retry reads) goes there empty among replaces agrees tied =
      tied-still d s r w v l name q (queue_after_change (changes.Rts psn retry rnr_retry reads) q) there.is (record { incarnation = refl; peer = refl; mtu = refl; responder = refl })
      (λ life mtu tie. rts-requester d q psn retry rnr_retry reads l.requester (agrees life) rtr (own.posted (ap is_fresh rtr)) (own.oldest (ap is_fresh rtr)) mtu tie) replaces tied
    where
      own : BeginsEmpty q
      own = found-begins w name q empty there.is

      rtr : q.state ≡ states.Rtr
      rtr = among-rtr q.state among
  change-ties changes.Sqd goes there empty among replaces agrees tied = tied-still d s r w v l name q (queue_after_change changes.Sqd q) there.is (record { incarnation = refl; peer = refl; mtu = refl; responder = refl })
      (λ life mtu tie. goes-on d q states.Sqd l.requester (among-rts q.state among) (λ e. true≢false (ap is_fresh (sym e))) tie) replaces tied
  change-ties changes.Resume goes there empty among replaces agrees tied = tied-still d s r w v l name q (queue_after_change changes.Resume q) there.is (record { incarnation = refl; peer = refl; mtu = refl; responder = refl })
      (λ life mtu tie. goes-on d q states.Rts l.requester (among-sqd q.state among) (λ e. true≢false (ap is_fresh (sym e))) tie) replaces tied
  change-ties changes.Error goes there empty among replaces agrees tied = absurd goes
  change-ties changes.Reset goes there empty among replaces agrees tied = absurd goes

-- ---- postings

-- one request more
work-append : (d : Direction) (place : ℕ) (ps : List PostedSend) (x : PostedSend) → IsWork d place ps → d.work (place + length ps) ≡ work_of x.request.op → IsWork d place (ps ++ x ∷ [])
work-append d place [] x work same = (ap d.work (omega arith) ∙ same, record {})
work-append d place (p ∷ ps) x work same = (work.0, work-append d (suc place) ps x work.1 (ap d.work (omega arith) ∙ same))

post-requester : (d : Direction) (q : QueuePair) (request : SendRequest) (drawn : Option ℕ) (x : Requester) → IsQueue q → d.work (next_place q.sends) ≡ work_of request.op → RequesterTie d q x → RequesterTie d (after_flush (with_send request drawn q)) x
post-requester d q request drawn x sound same tie = by (state_eq q.state states.Error) refl
  where
    posted : QueuePair
    posted = with_send request drawn q

    item : PostedSend
    item = record { request = request; drawn = drawn }

    k : ℕ
    k = q.requester.oldest - q.sends.first

    low : k ≤ length q.sends.items
    low = omega (arith, sound.requester.begun, sound.requester.waiting, sound.requester.finished)

    one-more : IsWork d q.requester.oldest (items_from q.requester.oldest q.sends) → IsWork d q.requester.oldest (items_from q.requester.oldest posted.sends)
    one-more work = subst (IsWork d q.requester.oldest) (sym (drop-append-le k q.sends.items (item ∷ []) low))
        (work-append d q.requester.oldest (drop k q.sends.items) item work (ap d.work (omega (arith, length-drop k q.sends.items, sound.requester.begun, sound.requester.waiting, sound.requester.finished)) ∙ same))

    by : (b : Bool) → state_eq q.state states.Error ≡ b → RequesterTie d (if b then with_all_flushed posted else posted) x
    by true is = silent d (with_all_flushed posted) x (λ e. true≢false (sym is ∙ ap (λ t. state_eq t states.Error) e)) (error-silent q.state is)
    by false is = record {
      fresh = tie.fresh;
      sending = tie.sending;
      laid = λ e. let l = tie.laid e in record { mtu = l.mtu; begin = l.begin; work = one-more l.work; passed = l.passed };
    }

-- what is posted is nothing to a responder
flushed-end : (q p : QueuePair) → IsSameEnd q p → IsSameEnd q (after_flush p)
flushed-end q p same = by (state_eq p.state states.Error)
  where
    by : (b : Bool) → IsSameEnd q (if b then with_all_flushed p else p)
    by true = record { incarnation = same.incarnation; peer = same.peer; mtu = same.mtu; responder = same.responder }
    by false = same

receive-requester : (d : Direction) (q : QueuePair) (request : RecvRequest) (x : Requester) → RequesterTie d q x → RequesterTie d (after_flush (with_receive request q)) x
receive-requester d q request x tie = by (state_eq q.state states.Error) refl
  where
    by : (b : Bool) → state_eq q.state states.Error ≡ b → RequesterTie d (if b then with_all_flushed (with_receive request q) else with_receive request q) x
    by true is = silent d (with_all_flushed (with_receive request q)) x (λ e. true≢false (sym is ∙ ap (λ t. state_eq t states.Error) e)) (error-silent q.state is)
    by false is = same-requester d q (with_receive request q) refl refl refl refl x tie

pub post-ties : (d : Direction) (s r : Correspondent) (w v : World) (l : Link) (name : QueueId) (q : QueuePair) (request : SendRequest) (drawn : Option ℕ) → IsFoundAt w name q
    → Replaces w name (Present (after_flush (with_send request drawn q))) (w.mailbox name) v → (IsInLife w s name → PostAgrees d request.op (w.queue name)) → IsTied d s r w l → TiedAfter d s r w l (λ place. []) (λ place. []) v
post-ties d s r w v l name q request drawn there replaces agrees tied = tied-still d s r w v l name q (after_flush (with_send request drawn q)) there.is
    (flushed-end q (with_send request drawn q) (record { incarnation = refl; peer = refl; mtu = refl; responder = refl }))
    (λ life mtu tie. post-requester d q request drawn l.requester there.sound (subst (PostAgrees d request.op) there.is (agrees life)) tie) replaces tied

pub receive-ties : (d : Direction) (s r : Correspondent) (w v : World) (l : Link) (name : QueueId) (q : QueuePair) (request : RecvRequest) → IsFoundAt w name q
    → Replaces w name (Present (after_flush (with_receive request q))) (w.mailbox name) v → IsTied d s r w l → TiedAfter d s r w l (λ place. []) (λ place. []) v
receive-ties d s r w v l name q request there replaces tied = tied-still d s r w v l name q (after_flush (with_receive request q)) there.is
    (flushed-end q (with_receive request q) (record { incarnation = refl; peer = refl; mtu = refl; responder = refl })) (λ life mtu tie. receive-requester d q request l.requester tie) replaces tied
