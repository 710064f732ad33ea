-- A packet of a request tells of no key, and a local operation that failed was not performed. For proofs only.
use Rattle.std.proofs.Common.{◌≡◌, ℕ, zero, suc, ◌-◌, ◌==◌, ◌&&◌, ◌||◌, nat_lt, Bool, true, false, not, if◌then◌else◌, List, [], ◌∷◌, ◌++◌, drop, Option, None, Some, is_some, slice_get, refl, sym, ap, ap₂, subst, ◌∙◌, true≢false}
use Rattle.std.proofs.lemmas.Bool.{eq-eqb}
use Rattle.std.proofs.lemmas.Option.{same_Some}
use Rattle.std.specs.List.{list_any}
use Rattle.std.specs.Option.{option_and_then}
use Rattle.ca_law_keys.proofs.Posts.GoingLemmas.{AreKeyless, denied-goes, failure-goes, flush-keyless, reads-keyless}
use Rattle.ca_law_keys.proofs.Posts.PlaceLemmas.{IsPerformed}
use Rattle.ca_law_keys.proofs.Posts.PostLemmas.{AreNoAnswers, IsNoAnswer, keyless-no, no-answers}
use Rattle.ca_law_keys.proofs.Posts.PostFrame.{SamePosts, same-posts}
use Rattle.ca_law_keys.proofs.Posts.PostTurnLemmas.{IsPacket}
use Rattle.ca_law_keys.proofs.Posts.PostMade.{IsNextOperation}
use Rattle.ca_law_keys.specs.Posts.{PostsAgree, life}
use Rattle.ca_base.specs.declared.completion.Completion.{Completion}
use Rattle.ca_base.specs.declared.completion.WcStatus.TheVariants.{MemoryManagement}
use Rattle.ca_base.specs.declared.correspondent.Correspondent.{Correspondent}
use Rattle.ca_base.specs.declared.denied_ask.DeniedAsk.{DeniedAsk}
use Rattle.ca_base.specs.declared.lot.Lot.{Lot}
use Rattle.ca_base.specs.declared.refusals.OpRefusal.{OpRefusal}
use Rattle.ca_base.specs.declared.request.PostedSend.{PostedSend}
use Rattle.ca_base.specs.declared.step.Reason.TheVariants as reasons
use Rattle.ca_base.specs.objects.Mailbox.{Mailbox}
use Rattle.ca_base.specs.objects.QueuePair.{QueuePair, Present}
use Rattle.ca_base.specs.objects.WorkQueue.{item_at}
use Rattle.ca_keys.specs.Equal.{queue_eq}
use Rattle.ca_keys.specs.declared.names.QueueId.{QueueId}
use Rattle.ca_law_world.proofs.Sound.SettledLemmas.{queue-refl}
use Rattle.ca_law_world.proofs.Sound.WorldLemmas.{EndingDoes, RowDoes}
use Rattle.ca_model.specs.Past.{Past, Posted, after_mark, after_marks, at_begin, is_failure_of, local_operations, next_operation, operation_performed}
use Rattle.ca_model.specs.declared.event.Event.{Event}
use Rattle.ca_model.specs.declared.event.Event.TheVariants as events
use Rattle.ca_model.specs.declared.mark.Mark.{Mark}
use Rattle.ca_model.specs.declared.mark.Mark.TheVariants as marks
use Rattle.ca_model.specs.machine.Acknowledgements.{failure_effects, without_oldest}
use Rattle.ca_model.specs.machine.Completions.{failure_mark, flush_marks}
use Rattle.ca_model.specs.machine.Numbering.{Numbered}
use Rattle.ca_model.specs.machine.Requester.{denied_list_effects, is_outstanding, is_too_much, packet_asks, packet_row, sent_packet}
use Rattle.ca_model.specs.machine.Row.{Does, Effects, NotPossible, Row, plain_row}
use Rattle.ca_model.specs.machine.World.{World}

-- ---- a packet of a request, which tells of no key

pub record IsSentPacket (q : QueuePair) (peer : Correspondent) (m : Mailbox) (lot : Lot) (e : Effects) : Type 0 where
  pub packet : IsPacket q peer m lot e
  pub keyless : AreKeyless q.queue q.sends None e.marks

pub packet-sent : (q : QueuePair) (peer : Correspondent) (m : Mailbox) (lot : Lot) (room : Bool) (n : Numbered) → RowDoes (IsPacket q peer m lot) (packet_row q room n) → RowDoes (IsSentPacket q peer m lot) (packet_row q room n)
packet-sent q peer m lot room n = by (is_too_much q n)
  where
    row : Row
    row = record {
      asks = packet_asks q n;
      invalidation = None;
      denied = λ d.
          if is_outstanding q then NotPossible reasons.Outstanding
          else if not room then NotPossible reasons.NoRoom
          else Does (denied_list_effects q d);
      allowed = λ bytes refusal. if not room then NotPossible reasons.NoRoom else Does (sent_packet q n bytes);
    }

    denied : (d : DeniedAsk) (b z : Bool) → EndingDoes (IsPacket q peer m lot) (if b then NotPossible reasons.Outstanding else if not z then NotPossible reasons.NoRoom else Does (denied_list_effects q d))
        → EndingDoes (IsSentPacket q peer m lot) (if b then NotPossible reasons.Outstanding else if not z then NotPossible reasons.NoRoom else Does (denied_list_effects q d))
    denied d true z is = record {}
    denied d false true is = record { packet = is; keyless = (denied-goes q d).marks }
    denied d false false is = record {}

    allowed : (bytes : List (List ℕ)) (z : Bool) → EndingDoes (IsPacket q peer m lot) (if not z then NotPossible reasons.NoRoom else Does (sent_packet q n bytes))
        → EndingDoes (IsSentPacket q peer m lot) (if not z then NotPossible reasons.NoRoom else Does (sent_packet q n bytes))
    allowed bytes true is = record { packet = is; keyless = reads-keyless q.queue q.sends (packet_asks q n) bytes }
    allowed bytes false is = record {}

    by : (b : Bool) → RowDoes (IsPacket q peer m lot) (if b then plain_row (NotPossible reasons.Outstanding) else row) → RowDoes (IsSentPacket q peer m lot) (if b then plain_row (NotPossible reasons.Outstanding) else row)
    by true is = record { denied = λ d. record {}; allowed = λ bytes refusal. record {} }
    by false is = record { denied = λ d. denied d (is_outstanding q) room (is.denied d); allowed = λ bytes refusal. allowed bytes room (is.allowed bytes refusal) }

-- ---- a local operation that fails

get-drop : (xs : List PostedSend) (i : ℕ) (x : PostedSend) → slice_get xs i ≡ Some x → (rest : List PostedSend) × (drop i xs ≡ x ∷ rest)
get-drop [] i x is = absurd (true≢false (sym (ap is_some is)))
get-drop (y ∷ ys) zero x is = (ys, ap (λ z. z ∷ ys) (same_Some y x is))
get-drop (y ∷ ys) (suc i) x is = get-drop ys i x is

any-more : (f : Completion → Bool) (xs : List Completion) (x : Completion) → list_any f xs ≡ true → list_any f (xs ++ (x ∷ [])) ≡ true
any-more f [] x is = absurd (true≢false (sym is))
any-more f (y ∷ ys) x is = by (f y) is (any-more f ys x)
  where
    by : (b : Bool) → (b || list_any f ys) ≡ true → (list_any f ys ≡ true → list_any f (ys ++ (x ∷ [])) ≡ true) → (b || list_any f (ys ++ (x ∷ []))) ≡ true
    by true is rest = refl
    by false is rest = rest is

any-kept : (f : Completion → Bool) (ms : List Mark) → AreNoAnswers ms → (p : Past) → list_any f p.at_hand.completed ≡ true → list_any f (after_marks ms p).at_hand.completed ≡ true
any-kept f [] quiet p is = is
any-kept f (m ∷ ms) quiet p is = any-kept f ms quiet.1 (after_mark m p) (by m quiet.0)
  where
    by : (m : Mark) → IsNoAnswer m → list_any f (after_mark m p).at_hand.completed ≡ true
    by (marks.Verb consumer verb answer) q = absurd q
    by (marks.Sent source target index request bytes) q = is
    by (marks.Lost target None) q = is
    by (marks.Lost target (Some index)) q = is
    by (marks.Granted g) q = is
    by (marks.Revoked adapter key) q = is
    by (marks.Remote queue domain envelope key kind address count verdict) q = is
    by (marks.Local queue domain key kind address count verdict) q = is
    by (marks.Stored place bytes) q = is
    by (marks.Arrived target index) q = is
    by (marks.Dropped target cause) q = is
    by (marks.Timer queue silent) q = is
    by (marks.Done queue x cause) q = any-more f p.at_hand.completed x is

-- where a completion tells of its failure, the operation was not performed
failed-none : (r : Past) (name : QueueId) (lot : Lot) (p : Posted) → r.at_hand.event ≡ events.Request name lot → next_operation r name ≡ Some p → list_any (is_failure_of name p) r.at_hand.completed ≡ true → operation_performed r ≡ None
failed-none r name lot p event next fails = ap (λ e. if r.at_hand.used_list || is_some (slice_get r.at_hand.sent 0) then None else at e) event
    ∙ pick (r.at_hand.used_list || is_some (slice_get r.at_hand.sent 0)) (at (events.Request name lot))
    (ap (option_and_then unless) next ∙ ap (λ b. if b then None else Some p) fails)
  where
    unless : Posted → Option Posted
    unless x = if list_any (is_failure_of name x) r.at_hand.completed then None else Some x

    at : Event → Option Posted
    at (events.Request queue lot) = option_and_then (λ x. if list_any (is_failure_of queue x) r.at_hand.completed then None else Some x) (next_operation r queue)
    at event = None

    pick : (b : Bool) (o : Option Posted) → o ≡ None → (if b then None else o) ≡ None
    pick true o is = refl
    pick false o is = is

-- the operation that failed was not performed
pub failure-none : (past : Past) (w : World) (name : QueueId) (lot : Lot) (q : QueuePair) (n : Numbered) (cause : OpRefusal) → PostsAgree past w → w.queue q.queue ≡ Present q → q.queue ≡ name
    → IsPerformed q n → IsNextOperation past q n → operation_performed (after_marks (failure_effects MemoryManagement (Some cause) q).marks (at_begin (events.Request name lot) past)) ≡ None
failure-none past w name lot q n cause agree is own does next =
    failed-none r name lot next.posted same.event there (subst (λ xs. list_any (is_failure_of name next.posted) (after_marks xs start).at_hand.completed ≡ true) (sym told.1)
    (any-kept (is_failure_of name next.posted) (flush_marks (without_oldest q)) flushed (after_mark (failure_mark q.queue q.requester.oldest told.0.request MemoryManagement (Some cause)) start) fails))
  where
    ms : List Mark
    ms = (failure_effects MemoryManagement (Some cause) q).marks

    start : Past
    start = at_begin (events.Request name lot) past

    r : Past
    r = after_marks ms start

    keyless : AreKeyless q.queue q.sends None ms
    keyless = (failure-goes MemoryManagement (Some cause) q refl).marks

    quiet : AreNoAnswers ms
    quiet = keyless-no q.queue q.sends None ms keyless

    flushed : AreNoAnswers (flush_marks (without_oldest q))
    flushed = keyless-no q.queue q.sends None _ (flush-keyless (without_oldest q) q.sends)

    same : SamePosts start r
    same = no-answers ms quiet start start (same-posts start)

    there : next_operation r name ≡ Some next.posted
    there = (λ i. slice_get (local_operations (same.posted i (life name (same.incarnation i name)))) (same.performed i (life name (same.incarnation i name))))
        ∙ subst (λ k. next_operation past k ≡ Some next.posted) own next.is

    x : PostedSend
    x = record { request = n.request; drawn = n.drawn }

    -- the oldest unfinished request is the operation
    told : (y : PostedSend) × (ms ≡ failure_mark q.queue q.requester.oldest y.request MemoryManagement (Some cause) ∷ flush_marks (without_oldest q))
    told = at (get-drop q.sends.items (q.requester.oldest - q.sends.first) x (within (nat_lt q.requester.oldest q.sends.first) (ap (λ i. item_at i q.sends) (sym does.alone) ∙ does.item.item)))
      where
        marks-of : List PostedSend → List Mark
        marks-of [] = flush_marks q
        marks-of (p ∷ ps) = failure_mark q.queue q.requester.oldest p.request MemoryManagement (Some cause) ∷ flush_marks (without_oldest q)

        within : (b : Bool) → (if b then None else slice_get q.sends.items (q.requester.oldest - q.sends.first)) ≡ Some x → slice_get q.sends.items (q.requester.oldest - q.sends.first) ≡ Some x
        within true e = absurd (true≢false (sym (ap is_some e)))
        within false e = e

        at : (rest : List PostedSend) × (drop (q.requester.oldest - q.sends.first) q.sends.items ≡ x ∷ rest) → (y : PostedSend) × (ms ≡ failure_mark q.queue q.requester.oldest y.request MemoryManagement (Some cause) ∷ flush_marks (without_oldest q))
        at d = (x, ap marks-of d.1)

    fails : (((queue_eq q.queue name && (q.requester.oldest == next.posted.place)) && true) || false) ≡ true
    fails = ap₂ (λ a b. ((a && b) && true) || false) (ap (queue_eq q.queue) (sym own) ∙ queue-refl q.queue)
        (eq-eqb q.requester.oldest next.posted.place (sym does.alone ∙ sym does.item.place ∙ sym next.place))
