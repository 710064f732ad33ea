-- What marks leave of successes and of their effects. For proofs only.
use Rattle.std.proofs.Common.{◌≡◌, ℕ, Bool, true, false, ◌&&◌, ◌||◌, not, if◌then◌else◌, List, [], ◌∷◌, ◌++◌, Option, None, Some, IfSome, is_some, slice_get, refl, sym, ap, ap₂, subst, ◌∙◌, true≢false}
use Rattle.std.proofs.lemmas.Bool.{eq-eqb}
use Rattle.std.specs.List.{AllByRecursion, list_all, list_any}
use Rattle.std.specs.Option.{option_and_then, option_map_or}
use Rattle.ca_law_keys.proofs.Posts.GrantLemmas.{both-true, key-refl}
use Rattle.ca_law_keys.proofs.Posts.GoingLemmas.{AreKeyless, EndKey, IsKeyless, IsOwnDone, TellOf}
use Rattle.ca_law_keys.proofs.Posts.PlaceLemmas.{IsPostedAt, item-posted}
use Rattle.ca_law_keys.proofs.Posts.PostFrame.{IsNoRequest, SamePosts}
use Rattle.ca_law_keys.specs.Posts.{AgreeInSlot, PostsAgree, life}
use Rattle.ca_base.specs.declared.completion.Completion.{Completion}
use Rattle.ca_base.specs.declared.request.PostedSend.{PostedSend}
use Rattle.ca_base.specs.declared.request.SendOp.{SendOp}
use Rattle.ca_base.specs.declared.request.SendOp.TheVariants as ops
use Rattle.ca_base.specs.objects.QueuePair.{QueuePair, Present}
use Rattle.ca_base.specs.objects.WorkQueue.{WorkQueue, item_at}
use Rattle.ca_keys.specs.Equal.{key_eq}
use Rattle.ca_keys.specs.declared.key.Key.{Key}
use Rattle.ca_keys.specs.declared.names.QueueId.{QueueId}
use Rattle.ca_model.specs.Licensed.{completion_is_effective, grants_by_performing, invalidation_is_effective, is_effective, is_effective_at_end, is_empty, operation_is_effective, was_revoked}
use Rattle.ca_model.specs.Past.{Past, Posted, after_mark, after_marks, is_failure_of, is_send_success, next_operation, operation_performed, posted_at, present_incarnation}
use Rattle.ca_model.specs.Requests.{is_local}
use Rattle.ca_model.specs.declared.event.Event.{Event}
use Rattle.ca_model.specs.declared.event.Event.TheVariants as events
use Rattle.ca_model.specs.declared.mark.Mark.{Mark}
use Rattle.ca_model.specs.declared.mark.Mark.TheVariants as marks
use Rattle.ca_model.specs.machine.World.{World}

either-true : (a b : Bool) → b ≡ true → (a || b) ≡ true
either-true true b other = refl
either-true false b other = other

-- a mark of a turn: it tells of no key but the one that ends, and its completion is the turn's own
abbrev pub IsOf : QueueId → WorkQueue PostedSend → Option Key → Mark → Type 0
IsOf name sends ended (marks.Verb by verb answer) = ⊥
IsOf name sends ended (marks.Granted g) = ⊥
IsOf name sends ended (marks.Revoked adapter key) = (ended ≡ Some key)
IsOf name sends ended (marks.Done queue x cause) = IsOwnDone name sends ended x
IsOf name sends ended m = Unit {0}

abbrev pub AreOf : QueueId → WorkQueue PostedSend → Option Key → List Mark → Type 0
AreOf name sends ended [] = Unit {0}
AreOf name sends ended (m ∷ ms) = IsOf name sends ended m × AreOf name sends ended ms

pub of-append : (name : QueueId) (sends : WorkQueue PostedSend) (ended : Option Key) (ms ns : List Mark) → AreOf name sends ended ms → AreOf name sends ended ns → AreOf name sends ended (ms ++ ns)
of-append name sends ended [] ns one other = other
of-append name sends ended (m ∷ ms) ns one other = (one.0, of-append name sends ended ms ns one.1 other)

later-done : (name : QueueId) (sends : WorkQueue PostedSend) (ended : Option Key) (x : Completion) → IsOwnDone name sends None x → IsOwnDone name sends ended x
later-done name sends ended x own = record { queue = own.queue; key = by x.invalidated own.key; success = own.success }
  where
    by : (o : Option Key) → IfSome o (λ key. None ≡ Some key) → IfSome o (λ key. ended ≡ Some key)
    by None all = record {}
    by (Some key) all = absurd (true≢false (sym (ap is_some all)))

keyless-one : (name : QueueId) (sends : WorkQueue PostedSend) (ended : Option Key) (m : Mark) → IsKeyless name sends ended m → IsOf name sends ended m
keyless-one name sends ended (marks.Verb by verb answer) one = one
keyless-one name sends ended (marks.Granted g) one = one
keyless-one name sends ended (marks.Revoked adapter k) one = absurd one
keyless-one name sends ended (marks.Sent source target index request bytes) one = record {}
keyless-one name sends ended (marks.Lost target index) one = record {}
keyless-one name sends ended (marks.Arrived target index) one = record {}
keyless-one name sends ended (marks.Timer queue silent) one = record {}
keyless-one name sends ended (marks.Done queue x cause) one = one
keyless-one name sends ended (marks.Stored place bytes) one = record {}
keyless-one name sends ended (marks.Remote queue domain envelope k kind address count verdict) one = record {}
keyless-one name sends ended (marks.Local queue domain k kind address count verdict) one = record {}
keyless-one name sends ended (marks.Dropped target cause) one = record {}

pub keyless-of : (name : QueueId) (sends : WorkQueue PostedSend) (ended : Option Key) (ms : List Mark) → AreKeyless name sends ended ms → AreOf name sends ended ms
keyless-of name sends ended [] all = record {}
keyless-of name sends ended (m ∷ ms) all = (keyless-one name sends ended m all.0, keyless-of name sends ended ms all.1)

-- the same marks before a key ends
early-one : (name : QueueId) (sends : WorkQueue PostedSend) (ended : Option Key) (m : Mark) → IsKeyless name sends None m → IsOf name sends ended m
early-one name sends ended (marks.Verb by verb answer) one = one
early-one name sends ended (marks.Granted g) one = one
early-one name sends ended (marks.Revoked adapter k) one = absurd one
early-one name sends ended (marks.Sent source target index request bytes) one = record {}
early-one name sends ended (marks.Lost target index) one = record {}
early-one name sends ended (marks.Arrived target index) one = record {}
early-one name sends ended (marks.Timer queue silent) one = record {}
early-one name sends ended (marks.Done queue x cause) one = later-done name sends ended x one
early-one name sends ended (marks.Stored place bytes) one = record {}
early-one name sends ended (marks.Remote queue domain envelope k kind address count verdict) one = record {}
early-one name sends ended (marks.Local queue domain k kind address count verdict) one = record {}
early-one name sends ended (marks.Dropped target cause) one = record {}

-- what such marks leave
pub record IsLeft (name : QueueId) (sends : WorkQueue PostedSend) (ended : Option Key) (p r : Past) : Type 0 where
  pub answered : r.at_hand.answered ≡ p.at_hand.answered
  pub granted : r.at_hand.granted ≡ p.at_hand.granted
  pub revoked : ended ≡ None → r.at_hand.revoked ≡ p.at_hand.revoked
  pub gone : (adapter : ℕ) (key : Key) → was_revoked p adapter key ≡ true → was_revoked r adapter key ≡ true
  pub completed : AllByRecursion (IsOwnDone name sends ended) p.at_hand.completed → AllByRecursion (IsOwnDone name sends ended) r.at_hand.completed

left-same : (name : QueueId) (sends : WorkQueue PostedSend) (ended : Option Key) (p : Past) → IsLeft name sends ended p p
left-same name sends ended p = record { answered = refl; granted = refl; revoked = λ none. refl; gone = λ adapter key was. was; completed = λ all. all }

pub all-more : {A : Type 0} (P : A → Type 0) (xs : List A) (x : A) → AllByRecursion P xs → P x → AllByRecursion P (xs ++ (x ∷ []))
all-more P [] x all one = (one, record {})
all-more P (y ∷ ys) x all one = (all.0, all-more P ys x all.1 one)

left-one : (name : QueueId) (sends : WorkQueue PostedSend) (ended : Option Key) (m : Mark) → IsOf name sends ended m → (p r : Past) → IsLeft name sends ended p r → IsLeft name sends ended p (after_mark m r)
left-one name sends ended (marks.Verb by verb answer) one p r left = absurd one
left-one name sends ended (marks.Granted g) one p r left = absurd one
left-one name sends ended (marks.Revoked adapter k) one p r left = record {
  answered = left.answered;
  granted = left.granted;
  revoked = λ none. absurd (true≢false (ap is_some (sym one ∙ none)));
  gone = λ a key was. either-true _ _ (left.gone a key was);
  completed = left.completed;
}
left-one name sends ended (marks.Sent source target index request bytes) one p r left = record { answered = left.answered; granted = left.granted; revoked = left.revoked; gone = left.gone; completed = left.completed }
left-one name sends ended (marks.Lost target None) one p r left = record { answered = left.answered; granted = left.granted; revoked = left.revoked; gone = left.gone; completed = left.completed }
left-one name sends ended (marks.Lost target (Some index)) one p r left = record { answered = left.answered; granted = left.granted; revoked = left.revoked; gone = left.gone; completed = left.completed }
left-one name sends ended (marks.Arrived target index) one p r left = record { answered = left.answered; granted = left.granted; revoked = left.revoked; gone = left.gone; completed = left.completed }
left-one name sends ended (marks.Timer queue silent) one p r left = record { answered = left.answered; granted = left.granted; revoked = left.revoked; gone = left.gone; completed = left.completed }
left-one name sends ended (marks.Done queue x cause) one p r left = record { answered = left.answered; granted = left.granted; revoked = left.revoked; gone = left.gone; completed = λ all. all-more _ r.at_hand.completed x (left.completed all) one }
left-one name sends ended (marks.Stored place bytes) one p r left = record { answered = left.answered; granted = left.granted; revoked = left.revoked; gone = left.gone; completed = left.completed }
left-one name sends ended (marks.Remote queue domain envelope k kind address count verdict) one p r left = record { answered = left.answered; granted = left.granted; revoked = left.revoked; gone = left.gone; completed = left.completed }
left-one name sends ended (marks.Local queue domain k kind address count verdict) one p r left = record { answered = left.answered; granted = left.granted; revoked = left.revoked; gone = left.gone; completed = left.completed }
left-one name sends ended (marks.Dropped target cause) one p r left = record { answered = left.answered; granted = left.granted; revoked = left.revoked; gone = left.gone; completed = left.completed }

left-all : (name : QueueId) (sends : WorkQueue PostedSend) (ended : Option Key) (ms : List Mark) → AreOf name sends ended ms → (p r : Past) → IsLeft name sends ended p r → IsLeft name sends ended p (after_marks ms r)
left-all name sends ended [] all p r left = left
left-all name sends ended (m ∷ ms) all p r left = left-all name sends ended ms all.1 p (after_mark m r) (left-one name sends ended m all.0 p r left)

pub left-by : (name : QueueId) (sends : WorkQueue PostedSend) (ended : Option Key) (ms : List Mark) → AreOf name sends ended ms → (p : Past) → IsLeft name sends ended p (after_marks ms p)
left-by name sends ended ms all p = left-all name sends ended ms all p p (left-same name sends ended p)

-- a row's marks are such marks, and the key that it ends is revoked by them
pub record Tells (name : QueueId) (sends : WorkQueue PostedSend) (ended : Option Key) (ms : List Mark) : Type 0 where
  pub marks : AreOf name sends ended ms
  pub gone : (p : Past) → IfSome ended (λ key. was_revoked (after_marks ms p) name.adapter key ≡ true)

pub tells : (name : QueueId) (sends : WorkQueue PostedSend) (ended : Option Key) (ms : List Mark) → TellOf name sends ended ms → Tells name sends ended ms
tells name sends None ms all = record { marks = keyless-of name sends None ms all; gone = λ p. record {} }
tells name sends (Some key) ms all = by ms all
  where
    more : (m : Mark) (ms : List Mark) → IsKeyless name sends None m → Tells name sends (Some key) ms → Tells name sends (Some key) (m ∷ ms)
    more m ms one rest = record { marks = (early-one name sends (Some key) m one, rest.marks); gone = λ p. rest.gone (after_mark m p) }

    by : (ms : List Mark) → EndKey name sends key ms → Tells name sends (Some key) ms
    by [] all = absurd all
    by (marks.Revoked adapter k ∷ ms) all = record {
      marks = (ap Some (sym all.1), keyless-of name sends (Some key) ms all.2);
      gone = λ p. (left-by name sends (Some key) ms (keyless-of name sends (Some key) ms all.2) (after_mark (marks.Revoked adapter k) p)).gone name.adapter key
          (ap₂ (λ a b. (a && b) || was_revoked p name.adapter key) (eq-eqb adapter name.adapter all.0) (ap (λ x. key_eq x key) all.1 ∙ key-refl key));
    }
    by (marks.Verb consumer verb answer ∷ ms) all = absurd all.0
    by (marks.Granted g ∷ ms) all = absurd all.0
    by (marks.Sent source target index request bytes ∷ ms) all = absurd all.0
    by (marks.Lost target index ∷ ms) all = absurd all.0
    by (marks.Arrived target index ∷ ms) all = absurd all.0
    by (marks.Timer queue silent ∷ ms) all = absurd all.0
    by (marks.Done queue x cause ∷ ms) all = more (marks.Done queue x cause) ms all.0 (by ms all.1)
    by (marks.Stored place bytes ∷ ms) all = more (marks.Stored place bytes) ms all.0 (by ms all.1)
    by (marks.Remote queue domain envelope k kind address count verdict ∷ ms) all = more (marks.Remote queue domain envelope k kind address count verdict) ms all.0 (by ms all.1)
    by (marks.Local queue domain k kind address count verdict ∷ ms) all = more (marks.Local queue domain k kind address count verdict) ms all.0 (by ms all.1)
    by (marks.Dropped target cause ∷ ms) all = more (marks.Dropped target cause) ms all.0 (by ms all.1)

-- ---- as an event ends

pub effective : (r : Past) → option_map_or (is_effective r) r.at_hand.answered true ≡ true → option_map_or (operation_is_effective r) (operation_performed r) true ≡ true
    → list_all (completion_is_effective r) r.at_hand.completed ≡ true → grants_by_performing r ≡ true → is_effective_at_end r ≡ true
effective r a b c d = both-true _ _ (both-true _ _ (both-true _ _ a b) c) d

pub not-performed : (r : Past) (event : Event) → IsNoRequest event → r.at_hand.event ≡ event → (operation_performed r ≡ None) × (grants_by_performing r ≡ true)
not-performed r event quiet is = (
  ap (λ e. if r.at_hand.used_list || is_some (slice_get r.at_hand.sent 0) then None else operation r e) is
      ∙ pick (r.at_hand.used_list || is_some (slice_get r.at_hand.sent 0)) (operation r event) (none event quiet),
  ap (grants r) is ∙ all event quiet,
)
  where
    operation : Past → Event → Option Posted
    operation past (events.Request queue lot) = option_and_then (λ p. if list_any (is_failure_of queue p) past.at_hand.completed then None else Some p) (next_operation past queue)
    operation past event = None

    grants : Past → Event → Bool
    grants past (events.Request queue lot) = is_some (operation_performed past) || (is_empty past.at_hand.granted && is_empty past.at_hand.revoked)
    grants past event = true

    pick : (b : Bool) (o : Option Posted) → o ≡ None → (if b then None else o) ≡ None
    pick true o is = refl
    pick false o is = is

    none : (event : Event) → IsNoRequest event → operation r event ≡ None
    none (events.Request queue lot) quiet = absurd quiet
    none (events.Verb by verb) quiet = refl
    none (events.Deliver queue index) quiet = refl
    none (events.Respond queue lot) quiet = refl
    none (events.Timeout queue hasten) quiet = refl
    none (events.RnrWake queue) quiet = refl

    all : (event : Event) → IsNoRequest event → grants r event ≡ true
    all (events.Request queue lot) quiet = absurd quiet
    all (events.Verb by verb) quiet = refl
    all (events.Deliver queue index) quiet = refl
    all (events.Respond queue lot) quiet = refl
    all (events.Timeout queue hasten) quiet = refl
    all (events.RnrWake queue) quiet = refl

-- a send that completed with success is no Local Invalidate
packet-effective : (r : Past) (adapter : ℕ) (op : SendOp) → is_local op ≡ false → invalidation_is_effective r adapter op ≡ true
packet-effective r adapter (ops.LocalInv key) packet = absurd (true≢false packet)
packet-effective r adapter (ops.Bind1 window region address length rights) packet = refl
packet-effective r adapter (ops.Bind2 window region low address length rights) packet = refl
packet-effective r adapter (ops.FastReg region low buffer address length rights pages) packet = refl
packet-effective r adapter (ops.Send list) packet = refl
packet-effective r adapter (ops.SendImm imm list) packet = refl
packet-effective r adapter (ops.SendInv key list) packet = refl
packet-effective r adapter (ops.Write address key list) packet = refl
packet-effective r adapter (ops.WriteImm address key imm list) packet = refl
packet-effective r adapter (ops.Read address key list) packet = refl
packet-effective r adapter (ops.CmpSwap address key compare swap list) packet = refl
packet-effective r adapter (ops.FetchAdd address key add list) packet = refl

done-effective : (past r : Past) (w : World) (q : QueuePair) (ended : Option Key) (x : Completion) → PostsAgree past w → w.queue q.queue ≡ Present q → SamePosts past r
    → IfSome ended (λ key. was_revoked r q.queue.adapter key ≡ true) → IsOwnDone q.queue q.sends ended x → completion_is_effective r x ≡ true
done-effective past r w q ended x agree is same gone own = both-true _ _ (keys x.invalidated own.key) (sends (is_send_success x) refl)
  where
    keys : (o : Option Key) → IfSome o (λ key. ended ≡ Some key) → option_map_or (was_revoked r x.queue.adapter) o true ≡ true
    keys None all = refl
    keys (Some key) all = ap (λ (n : QueueId). was_revoked r n.adapter key) own.queue ∙ subst (λ o. IfSome o (λ key. was_revoked r q.queue.adapter key ≡ true)) all gone

    item : (o : Option PostedSend) → item_at x.place q.sends ≡ o → option_map_or (λ p. not (is_local p.request.op)) o false ≡ true
        → option_map_or (λ p. invalidation_is_effective r x.queue.adapter p.request.op) (posted_at r x.queue x.place) true ≡ true
    item None at packet = absurd (true≢false (sym packet))
    item (Some s) at packet = ap (λ o. option_map_or (λ p. invalidation_is_effective r x.queue.adapter p.request.op) o true) there
        ∙ packet-effective r x.queue.adapter found.posted.request.op (ap (λ (y : PostedSend). is_local y.request.op) found.same ∙ no (is_local s.request.op) packet)
      where
        no : (b : Bool) → not b ≡ true → b ≡ false
        no true e = sym e
        no false e = refl

        found : IsPostedAt (past.posted (present_incarnation past q.queue)) x.place s
        found = item-posted (past.posted (present_incarnation past q.queue)) _ q x.place s (subst (AgreeInSlot _ _) is (agree.sends q.queue)) at

        there : posted_at r x.queue x.place ≡ Some found.posted
        there = ap (λ n. slice_get (r.posted (present_incarnation r n)) x.place) own.queue
            ∙ ap₂ (λ f i. slice_get (f (life q.queue (i q.queue))) x.place) same.posted same.incarnation ∙ found.is

    sends : (b : Bool) → is_send_success x ≡ b → (not b || option_map_or (λ p. invalidation_is_effective r x.queue.adapter p.request.op) (posted_at r x.queue x.place) true) ≡ true
    sends false e = refl
    sends true e = item (item_at x.place q.sends) refl (own.success e)

pub all-effective : (past r : Past) (w : World) (q : QueuePair) (ended : Option Key) (xs : List Completion) → PostsAgree past w → w.queue q.queue ≡ Present q → SamePosts past r
    → IfSome ended (λ key. was_revoked r q.queue.adapter key ≡ true) → AllByRecursion (IsOwnDone q.queue q.sends ended) xs → list_all (completion_is_effective r) xs ≡ true
all-effective past r w q ended [] agree is same gone all = refl
all-effective past r w q ended (x ∷ xs) agree is same gone all = both-true _ _ (done-effective past r w q ended x agree is same gone all.0) (all-effective past r w q ended xs agree is same gone all.1)
