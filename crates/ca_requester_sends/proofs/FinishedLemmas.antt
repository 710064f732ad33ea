-- One more request that succeeded, between two places.
use Rattle.std.proofs.Common.{◌≡◌, ℕ, zero, suc, ◌-◌, ◌≤◌, ◌<◌, arith, refl, subst, sym, ap, ◌∙◌, Bool, true, false, if◌then◌else◌, List, [], ◌∷◌, ◌++◌, append-nil, append_assoc, length, length-append, take, None, Some}
use Rattle.std.proofs.lemmas.List.{length-take}
use Rattle.ca_base.specs.declared.request.PostedSend.{PostedSend}
use Rattle.ca_base.specs.declared.request.SendRequest.{SendRequest}
use Rattle.ca_keys.specs.declared.names.QueueId.{QueueId}
use Rattle.ca_base.specs.objects.QueuePair.{QueuePair}
use Rattle.ca_base.specs.objects.WorkQueue.{item_at, items_from}
use Rattle.ca_model.specs.declared.mark.Mark.{Mark}
use Rattle.ca_model.specs.machine.Completions.{success_marks}
use Rattle.ca_model.specs.Marks.{MarkList}
use Rattle.ca_qp_rows.specs.Made.{AreAdded}
use Rattle.ca_qp_rows.proofs.QueueLemmas.{items_none, items_step}
use Rattle.ca_requester_sends.specs.Finished.{success_between, success_from}

-- marks that are added behind others
pub added_behind : {before between after : MarkList} {front behind : List Mark} → AreAdded front before between → AreAdded behind between after
    → AreAdded (front ++ behind) before after
added_behind {before} {between} {after} {front} {behind} a b = record {
  marks = b.marks ∙ ap (λ ms. ms ++ behind) a.marks ∙ append_assoc before.marks front behind;
  room = omega (arith, a.room, b.room, length-append front behind);
}

none-taken : (q : QueuePair) (place k : ℕ) → success_from q.queue place (take k []) ≡ []
none-taken q place zero = refl
none-taken q place (suc k) = refl

pub success-none : (q : QueuePair) (place end : ℕ) (before : MarkList) → q.sends.first ≤ place → None ≡ item_at place q.sends
    → AreAdded (success_between place end q) before before
success-none q place end before le none = record {
  marks = sym (ap (λ ps. before.marks ++ success_from q.queue place (take (end - place) ps)) (items_none q.sends place le (sym none))
      ∙ ap (λ ms. before.marks ++ ms) (none-taken q place (end - place))
      ∙ append-nil before.marks);
  room = omega arith;
}

pub success-more : (q : QueuePair) (place next end : ℕ) (x : PostedSend) (before between after : MarkList) → next ≡ suc place
    → q.sends.first ≤ place → place < end → Some x ≡ item_at place q.sends
    → AreAdded (success_marks q.queue place x.request) before between → AreAdded (success_between next end q) between after
    → AreAdded (success_between place end q) before after
success-more q place next end x before between after one le less there first rest =
    rw (whole) (added_behind {before = before} {between = between} {after = after} first (subst P one rest))
  where
    P : ℕ → Type 0
    P n = AreAdded (success_between n end q) between after

    far : end - place ≡ suc (end - suc place)
    far = omega (arith, less)

    whole : success_between place end q ≡ success_marks q.queue place x.request ++ success_between (suc place) end q
    whole = ap (λ k. success_from q.queue place (take k (items_from place q.sends))) far
        ∙ ap (λ ps. success_from q.queue place (take (suc (end - suc place)) ps)) (items_step q.sends place x le (sym there))

-- nothing is finished between a place and itself
pub nothing-between : (q : QueuePair) (place end : ℕ) → end ≡ place → success_between place end q ≡ []
nothing-between q place end e =
    let none : end - place ≡ 0 = omega (arith, e) in
    rw none refl

-- a success has one mark at most
one-mark : (b : Bool) (m : Mark) → length (if b then m ∷ [] else []) ≤ 1
one-mark true m = omega arith
one-mark false m = omega arith

one-success : (queue : QueueId) (place : ℕ) (r : SendRequest) → length (success_marks queue place r) ≤ 1
one-success queue place r = one-mark r.signalled _

-- no more completions come of requests than there are
few-from : (queue : QueueId) (place : ℕ) (ps : List PostedSend) → length (success_from queue place ps) ≤ length ps
few-from queue place [] = omega arith
few-from queue place (p ∷ ps) =
    omega (
      arith,
      length-append (success_marks queue place p.request) (success_from queue (suc place) ps),
      few-from queue (suc place) ps,
      one-success queue place p.request,
    )

pub few_finished : (q : QueuePair) (place end : ℕ) → length (success_between place end q) ≤ end - place
few_finished q place end = omega (arith, few-from q.queue place (take (end - place) (items_from place q.sends)), length-take (end - place) (items_from place q.sends))
