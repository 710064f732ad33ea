-- Sends that have packets complete with success only as responses arrive: the marks of each event, and which tell of no
-- packet. For proofs only.
use Rattle.std.proofs.Common.{Bool, Err, List, None, Ok, Option, Result, Some, [], ap, false, if◌then◌else◌, not, option_map, refl, rules, subst, sym, true, true≢false, ℕ, ◌&&◌, ◌++◌, ◌||◌, ◌∙◌, ◌∷◌, ◌≡◌}
use Rattle.std.specs.Option.{option_and_then, option_map_or}
use Rattle.std.specs.Result.{result_ok}
use Rattle.ca_law_endings.proofs.InnerLemmas.{AreOwn, IsInner, IsOwnMark, arrival-inner}
use Rattle.ca_law_endings.proofs.LeadsLemmas.{leads-around, leads-queue, leads-row, leads-unless, leads-weaker}
use Rattle.ca_law_endings.proofs.MailSentLemmas.{lent-sent}
use Rattle.ca_law_endings.proofs.PathChangeLemmas.{Behind}
use Rattle.ca_law_endings.proofs.PathVerbLemmas.{call_of}
use Rattle.ca_law_endings.specs.Agreement.{PathsAgree, WereSent}
use Rattle.ca_law_endings.specs.Runs.{Leads}
use Rattle.ca_law_carried.proofs.Accesses.QuietLemmas.{AreUnheard, IsQuiet, IsUnheardMark, response-quiet}
use Rattle.ca_law_keys.proofs.Keys.KeyTurnLemmas.{found}
use Rattle.ca_law_keys.proofs.Keys.ToldLemmas.{ended}
use Rattle.ca_law_keys.proofs.Posts.GoingLemmas.{AreKeyless, EndKey, Goes, IsKeyless, RowGoes, TellOf, arrival-goes, key_gone}
use Rattle.ca_law_keys.specs.Posts.{PostsAgree}
use Rattle.ca_base.specs.Configuration.{Configuration}
use Rattle.ca_base.specs.declared.correspondent.Correspondent.{Correspondent}
use Rattle.ca_base.specs.declared.request.PostedSend.{PostedSend}
use Rattle.ca_base.specs.objects.Domain.{without_object}
use Rattle.ca_base.specs.objects.Mailbox.{Mailbox, after_delivery, bytes_lent}
use Rattle.ca_base.specs.objects.QueuePair.{NoQueue, Present, QueuePair, QueueSlot}
use Rattle.ca_base.specs.objects.Region.{after_deregistration, deregistration_refusals, grant_of_region}
use Rattle.ca_base.specs.objects.SharedReceives.{SharedReceives}
use Rattle.ca_base.specs.objects.WorkQueue.{WorkQueue}
use Rattle.ca_law_carried.proofs.Carried.FailingLemmas.{AreFailing, AreLoose, Fails, IsFailing, IsLoose, arrival-failing, is_answer, loose, timeout-failing}
use Rattle.ca_law_carried.specs.Answered.{is_answered}
use Rattle.ca_law_keys.proofs.Judged.JudgeLemmas.{both-true}
use Rattle.ca_keys.specs.Equal.{queue_eq}
use Rattle.ca_keys.specs.Refusals.{first_of}
use Rattle.ca_keys.specs.declared.grant.Grant.{Grant}
use Rattle.ca_keys.specs.declared.key.Key.{Key}
use Rattle.ca_keys.specs.declared.names.QueueId.{QueueId}
use Rattle.ca_law_world.proofs.Sound.SettledLemmas.{queue-refl}
use Rattle.ca_law_world.proofs.Sound.WorldLemmas.{EndingDoes, IsThere, RowDoes, around_in, shared_of}
use Rattle.ca_law_world.proofs.Steady.RowLemmas.{IsKept}
use Rattle.ca_law_world.proofs.Steady.TurnLemmas.{there-kept}
use Rattle.ca_law_world.specs.Steady.{IsSteadyWorld}
use Rattle.ca_law_keys.proofs.Licensed.AnswerLemmas.{Answers, AreAnswered, AreFlushes, IsQuietVerb, quiet-verb}
use Rattle.ca_law_keys.proofs.Licensed.EffectLemmas.{tells}
use Rattle.ca_model.specs.Carried.{has_packets, response_arrived}
use Rattle.ca_model.specs.Packets.{is_response, packet_of}
use Rattle.ca_model.specs.Past.{Envelope, Past, after_mark, at_begin, bytes_read, each_mark, is_send_success, packet_at}
use Rattle.ca_model.specs.declared.answer.Refusal.TheVariants.{NoSuch}
use Rattle.ca_model.specs.declared.event.Event.{Event}
use Rattle.ca_model.specs.declared.mark.Drop1.{Drop1}
use Rattle.ca_model.specs.declared.mark.Mark.{Mark}
use Rattle.ca_model.specs.declared.verb.Verb.{Verb}
use Rattle.ca_model.specs.machine.Around.{Around, With_around, shared_in, updates_of}
use Rattle.ca_model.specs.machine.Delivery.{Arrive, arrival_drops, arrival_row, deliver_plan, packet_arrived}
use Rattle.ca_model.specs.machine.Duplicates.{request_row}
use Rattle.ca_model.specs.machine.HostVerbs.{inject_plan}
use Rattle.ca_model.specs.machine.Plan.{Finish, Look, Plan, Stuck, Update, Write, put_all, unless_refused, write_all, ◌:=◌}
use Rattle.ca_model.specs.machine.RegionVerbs.{dereg_mr_plan}
use Rattle.ca_model.specs.machine.Responses.{drop_effects, response_row}
use Rattle.ca_model.specs.machine.Row.{Does, Effects, Ending, NotPossible, Row, Row_plan, plain_row}
use Rattle.ca_model.specs.machine.Sound.{IsQueueOf, IsSoundWorld}
use Rattle.ca_model.specs.machine.Step.{plan, verb_plan}
use Rattle.ca_model.specs.machine.Timers.{after_timeout, after_wake, timeout_refusals, wake_refusals}
use Rattle.ca_model.specs.machine.Turns.{Fire, Timeout_around, With_receives, reaches_peer, timeout_plan, wake_plan}
use Rattle.ca_model.specs.machine.VerbAnswers.{Answer_plan, Call, Refuse_plan, answer_mark, of_region_refusals}
use Rattle.ca_model.specs.machine.World.{Domain_of, Mailbox_of, Queue_of, Region_of, World}
use Rattle.ca_wire.specs.Decoding.{packet_in}
use Rattle.ca_wire.specs.Packet.{Fields}
use Rattle.ca_wire.specs.Table.{shape_of}
use Rattle.ca_wire.specs.declared.shape.Shape.{Shape}
use Rattle.ca_wire.specs.declared.wire_error.WireError.{WireError}
use Rattle.ca_model.specs.declared.answer.Answer.TheVariants as answers
use Rattle.ca_model.specs.declared.mark.Drop1.TheVariants as drops
use Rattle.ca_model.specs.declared.event.Event.TheVariants as events
use Rattle.ca_model.specs.declared.mark.Mark.TheVariants as marks
use Rattle.ca_base.specs.declared.step.Reason.TheVariants as reasons
use Rattle.ca_keys.specs.Spelling.{rights_text as rights}
use Rattle.ca_model.specs.declared.verb.Verb.TheVariants as verbs

-- a mark of no packet that is sent or lost, and of no remote read
abbrev pub IsUnsent : Mark → Type 0
IsUnsent (marks.Sent source target index request bytes) = ⊥
IsUnsent (marks.Lost target index) = ⊥
IsUnsent (marks.Remote queue domain envelope key kind address count verdict) = bytes_read verdict ≡ None
IsUnsent m = Unit {0}

abbrev pub AreUnsent : List Mark → Type 0
AreUnsent [] = Unit {0}
AreUnsent (m ∷ ms) = IsUnsent m × AreUnsent ms

pub unsent-append : (ms ns : List Mark) → AreUnsent ms → AreUnsent ns → AreUnsent (ms ++ ns)
unsent-append [] ns one other = other
unsent-append (m ∷ ms) ns one other = (one.0, unsent-append ms ns one.1 other)

-- each completion passes
abbrev pub Answered : Past → List Mark → Type 0
Answered p ms = each_mark is_answered p ms ≡ true

one-passes : (m : Mark) → IsLoose m → (p : Past) → is_answered p m ≡ true
one-passes (marks.Verb by verb answer) fails p = refl
one-passes (marks.Granted g) fails p = refl
one-passes (marks.Revoked adapter key) fails p = refl
one-passes (marks.Stored place bytes) fails p = refl
one-passes (marks.Remote queue domain envelope key kind address count verdict) fails p = refl
one-passes (marks.Local queue domain key kind address count verdict) fails p = refl
one-passes (marks.Sent source target index request bytes) fails p = absurd fails
one-passes (marks.Lost target index) fails p = absurd fails
one-passes (marks.Arrived target index) fails p = refl
one-passes (marks.Dropped target cause) fails p = refl
one-passes (marks.Timer queue silent) fails p = refl
one-passes (marks.Done queue x cause) fails p = ap (λ b. not (b && has_packets p x) || response_arrived p queue) fails

one-unsent : (m : Mark) → IsFailing m → IsUnsent m
one-unsent (marks.Verb by verb answer) fails = record {}
one-unsent (marks.Granted g) fails = record {}
one-unsent (marks.Revoked adapter key) fails = record {}
one-unsent (marks.Stored place bytes) fails = record {}
one-unsent (marks.Remote queue domain envelope key kind address count verdict) fails = fails
one-unsent (marks.Local queue domain key kind address count verdict) fails = record {}
one-unsent (marks.Sent source target index request bytes) fails = fails
one-unsent (marks.Lost target index) fails = fails
one-unsent (marks.Arrived target index) fails = record {}
one-unsent (marks.Dropped target cause) fails = record {}
one-unsent (marks.Timer queue silent) fails = record {}
one-unsent (marks.Done queue x cause) fails = record {}

loose-pass : (ms : List Mark) → AreLoose ms → (p : Past) → Answered p ms
loose-pass [] fails p = refl
loose-pass (m ∷ ms) fails p = both-true (is_answered p m) _ (one-passes m fails.0 p) (loose-pass ms fails.1 (after_mark m p))

pub failing-pass : (ms : List Mark) → AreFailing ms → (p : Past) → Answered p ms
failing-pass ms fails p = loose-pass ms (loose ms fails) p

pub failing-unsent : (ms : List Mark) → AreFailing ms → AreUnsent ms
failing-unsent [] fails = record {}
failing-unsent (m ∷ ms) fails = (one-unsent m fails.0, failing-unsent ms fails.1)

-- such marks, and others that pass wherever
pub passes-append : (ms ns : List Mark) (p : Past) → AreLoose ms → ((r : Past) → Answered r ns) → Answered p (ms ++ ns)
passes-append [] ns p fails others = others p
passes-append (m ∷ ms) ns p fails others = both-true (is_answered p m) _ (one-passes m fails.0 p) (passes-append ms ns (after_mark m p) fails.1 others)

-- ---- behind a response

-- a mark of a row of this queue pair
abbrev pub IsBehind : QueueId → Mark → Type 0
IsBehind name (marks.Verb by verb answer) = ⊥
IsBehind name (marks.Sent source target index request bytes) = ⊥
IsBehind name (marks.Lost target index) = ⊥
IsBehind name (marks.Arrived target index) = ⊥
IsBehind name (marks.Remote queue domain envelope key kind address count verdict) = ⊥
IsBehind name (marks.Done queue x cause) = queue ≡ name
IsBehind name m = Unit {0}

abbrev pub AreBehind : QueueId → List Mark → Type 0
AreBehind name [] = Unit {0}
AreBehind name (m ∷ ms) = IsBehind name m × AreBehind name ms

behind-one : (name : QueueId) (sends : WorkQueue PostedSend) (ended : Option Key) (m : Mark) → IsKeyless name sends ended m → IsOwnMark m → IsUnheardMark m → IsBehind name m
behind-one name sends ended (marks.Verb by verb answer) one own unheard = one
behind-one name sends ended (marks.Granted g) one own unheard = record {}
behind-one name sends ended (marks.Revoked adapter key) one own unheard = record {}
behind-one name sends ended (marks.Stored place bytes) one own unheard = record {}
behind-one name sends ended (marks.Remote queue domain envelope key kind address count verdict) one own unheard = unheard
behind-one name sends ended (marks.Local queue domain key kind address count verdict) one own unheard = record {}
behind-one name sends ended (marks.Sent source target index request bytes) one own unheard = one
behind-one name sends ended (marks.Lost target index) one own unheard = one
behind-one name sends ended (marks.Arrived target index) one own unheard = one
behind-one name sends ended (marks.Dropped target cause) one own unheard = record {}
behind-one name sends ended (marks.Timer queue silent) one own unheard = record {}
behind-one name sends ended (marks.Done queue x cause) one own unheard = sym own ∙ one.queue

keyless-behind : (name : QueueId) (sends : WorkQueue PostedSend) (ended : Option Key) (ms : List Mark) → AreKeyless name sends ended ms → AreOwn ms → AreUnheard ms → AreBehind name ms
keyless-behind name sends ended [] all own unheard = record {}
keyless-behind name sends ended (m ∷ ms) all own unheard = (behind-one name sends ended m all.0 own.0 unheard.0, keyless-behind name sends ended ms all.1 own.1 unheard.1)

tells-behind : (name : QueueId) (sends : WorkQueue PostedSend) (ended : Option Key) (ms : List Mark) → TellOf name sends ended ms → AreOwn ms → AreUnheard ms → AreBehind name ms
tells-behind name sends None ms all own unheard = keyless-behind name sends None ms all own unheard
tells-behind name sends (Some key) ms all own unheard = by ms all own unheard
  where
    by : (ms : List Mark) → EndKey name sends key ms → AreOwn ms → AreUnheard ms → AreBehind name ms
    by [] all own unheard = absurd all
    by (marks.Revoked adapter k ∷ ms) all own unheard = (record {}, keyless-behind name sends (Some key) ms all.2 own.1 unheard.1)
    by (marks.Verb consumer verb answer ∷ ms) all own unheard = absurd all.0
    by (marks.Granted g ∷ ms) all own unheard = absurd all.0
    by (marks.Sent source target index request bytes ∷ ms) all own unheard = absurd all.0
    by (marks.Lost target index ∷ ms) all own unheard = absurd all.0
    by (marks.Arrived target index ∷ ms) all own unheard = absurd all.0
    by (marks.Timer queue silent ∷ ms) all own unheard = absurd all.0
    by (marks.Done queue x cause ∷ ms) all own unheard = (behind-one name sends None (marks.Done queue x cause) all.0 own.0 (record {}), by ms all.1 own.1 unheard.1)
    by (marks.Stored place bytes ∷ ms) all own unheard = (record {}, by ms all.1 own.1 unheard.1)
    by (marks.Remote queue domain envelope k kind address count verdict ∷ ms) all own unheard = absurd unheard.0
    by (marks.Local queue domain k kind address count verdict ∷ ms) all own unheard = (record {}, by ms all.1 own.1 unheard.1)
    by (marks.Dropped target cause ∷ ms) all own unheard = (record {}, by ms all.1 own.1 unheard.1)

or-true : (b : Bool) → (b || true) ≡ true
or-true true = refl
or-true false = refl

-- such a mark passes behind a response, and leaves it at hand
one-behind : (name : QueueId) (m : Mark) → IsBehind name m → (p : Past) → response_arrived p name ≡ true → (is_answered p m ≡ true) × (response_arrived (after_mark m p) name ≡ true) × IsUnsent m
one-behind name (marks.Verb by verb answer) one p arrived = absurd one
one-behind name (marks.Granted g) one p arrived = (refl, arrived, record {})
one-behind name (marks.Revoked adapter key) one p arrived = (refl, arrived, record {})
one-behind name (marks.Stored place bytes) one p arrived = (refl, arrived, record {})
one-behind name (marks.Remote queue domain envelope key kind address count verdict) one p arrived = absurd one
one-behind name (marks.Local queue domain key kind address count verdict) one p arrived = (refl, arrived, record {})
one-behind name (marks.Sent source target index request bytes) one p arrived = absurd one
one-behind name (marks.Lost target index) one p arrived = absurd one
one-behind name (marks.Arrived target index) one p arrived = absurd one
one-behind name (marks.Dropped target cause) one p arrived = (refl, arrived, record {})
one-behind name (marks.Timer queue silent) one p arrived = (refl, arrived, record {})
one-behind name (marks.Done queue x cause) one p arrived = (
  ap (λ b. not (is_send_success x && has_packets p x) || b) (ap (response_arrived p) one ∙ arrived) ∙ or-true (not (is_send_success x && has_packets p x)),
  arrived,
  record {},
)

behind-pass : (name : QueueId) (ms : List Mark) → AreBehind name ms → (p : Past) → response_arrived p name ≡ true → Answered p ms
behind-pass name [] all p arrived = refl
behind-pass name (m ∷ ms) all p arrived = both-true (is_answered p m) _ (one-behind name m all.0 p arrived).0 (behind-pass name ms all.1 (after_mark m p) (one-behind name m all.0 p arrived).1)

behind-unsent : (name : QueueId) (ms : List Mark) → AreBehind name ms → (p : Past) → response_arrived p name ≡ true → AreUnsent ms
behind-unsent name [] all p arrived = record {}
behind-unsent name (m ∷ ms) all p arrived = ((one-behind name m all.0 p arrived).2, behind-unsent name ms all.1 (after_mark m p) (one-behind name m all.0 p arrived).1)

-- ---- arrivals

abbrev Unheard : Effects → Type 0
Unheard e = AreUnheard e.marks

-- a response makes no remote access
arrival-unheard : (bytes : List ℕ) (envelope : Option ℕ) (shared : Option SharedReceives) (q : QueuePair) → is_answer (packet_of bytes) ≡ true → RowDoes Unheard (arrival_row bytes envelope shared q)
arrival-unheard bytes envelope shared q response = by (packet_in bytes) response
  where
    unless : Fields → Option Drop1 → Row
    unless p (Some cause) = plain_row (Does (drop_effects q cause))
    unless p None = packet_arrived p envelope shared q

    row : Result Fields WireError → Row
    row (Err error) = plain_row (Does (drop_effects q (drops.Wire error)))
    row (Ok p) = unless p (first_of (arrival_drops q p))

    shaped : Fields → Option Shape → Row
    shaped p (Some shape) = request_row p envelope shared shape q
    shaped p None = plain_row (Does (drop_effects q drops.State))

    weaker : (e : Ending) → EndingDoes (IsQuiet None [] q) e → EndingDoes Unheard e
    weaker (NotPossible reason) quiet = record {}
    weaker (Does e) quiet = quiet.marks

    taken : (p : Fields) (b : Bool) → b ≡ true → RowDoes Unheard (if b then response_row p q else shaped p (shape_of p.opcode))
    taken p true is = record {
      denied = λ d. weaker ((response_row p q).denied d) ((response-quiet None [] p q).denied d);
      allowed = λ bs refusal. weaker ((response_row p q).allowed bs refusal) ((response-quiet None [] p q).allowed bs refusal);
    }
    taken p false is = absurd (true≢false (sym is))

    of_packet : (p : Fields) → is_response p.opcode ≡ true → (o : Option Drop1) → RowDoes Unheard (unless p o)
    of_packet p is (Some cause) = record { denied = λ d. (record {}, record {}); allowed = λ bs refusal. (record {}, record {}) }
    of_packet p is None = taken p (is_response p.opcode) is

    by : (o : Result Fields WireError) → is_answer (result_ok o) ≡ true → RowDoes Unheard (row o)
    by (Err error) is = absurd (true≢false (sym is))
    by (Ok p) is = of_packet p is (first_of (arrival_drops q p))

-- what bytes that arrive tell, by whether they are a response
pub record Tells (q : QueuePair) (b : Bool) (e : Effects) : Type 0 where
  pub response : b ≡ true → AreBehind q.queue e.marks
  pub request : b ≡ false → AreFailing e.marks

join-ending : (q : QueuePair) (b : Bool) (ended : Option Key) (e : Ending) → EndingDoes (Goes q ended) e → EndingDoes (IsInner q) e → (b ≡ true → EndingDoes Unheard e) → (b ≡ false → EndingDoes Fails e) → EndingDoes (Tells q b) e
join-ending q b ended (NotPossible reason) goes inner quiet fails = record {}
join-ending q b ended (Does e) goes inner quiet fails = record { response = λ is. tells-behind q.queue q.sends ended e.marks goes.marks inner.marks (quiet is); request = fails }

arrival-tells : (bytes : List ℕ) (envelope : Option ℕ) (shared : Option SharedReceives) (q : QueuePair) → IsKept q → RowDoes (Tells q (is_answer (packet_of bytes))) (arrival_row bytes envelope shared q)
arrival-tells bytes envelope shared q kept = record {
  denied = λ d. join-ending q (is_answer (packet_of bytes)) None (row.denied d) (goes.denied d) (inner.denied d) (λ is. (arrival-unheard bytes envelope shared q is).denied d)
      (λ none. (arrival-failing bytes envelope shared q none).denied d);
  allowed = λ bs refusal. join-ending q (is_answer (packet_of bytes)) (key_gone row.invalidation refusal) (row.allowed bs refusal) (goes.allowed bs refusal) (inner.allowed bs refusal)
      (λ is. (arrival-unheard bytes envelope shared q is).allowed bs refusal) (λ none. (arrival-failing bytes envelope shared q none).allowed bs refusal);
}
  where
    row : Row
    row = arrival_row bytes envelope shared q

    goes : RowGoes q row
    goes = arrival-goes bytes envelope shared q kept

    inner : RowDoes (IsInner q) row
    inner = arrival-inner bytes envelope shared q

-- a world that comes up, and a past that agrees with it on paths and on posted requests
pub record IsReady (c : Configuration) (past : Past) (w : World) : Type 0 where
  pub sound : IsSoundWorld c w
  pub steady : IsSteadyWorld w
  pub paths : PathsAgree past w
  pub posts : PostsAgree past w

-- what an event that ends so tells: its completions pass, and it sends nothing
abbrev pub Still : Past → Event → World → List Mark → Type 0
Still past event v ms = Answered (at_begin event past) ms × AreUnsent ms

failing-still : (past : Past) (event : Event) (ms : List Mark) → AreFailing ms → Answered (at_begin event past) ms × AreUnsent ms
failing-still past event ms fails = (failing-pass ms fails (at_begin event past), failing-unsent ms fails)

still-arrive : (c : Configuration) (x : Past) (w : World) (P : World → List Mark → Type 0) (q : QueuePair) (bytes : List ℕ) (envelope : Option ℕ) (pre : List Update) (ms : List Mark) → IsSteadyWorld w → IsThere w q
    → packet_at x q.queue envelope ≡ packet_of bytes → ((v : World) (ns : List Mark) → Answered x ns → AreUnsent ns → P v (ms ++ ns)) → Leads w P (Arrive c q bytes envelope pre ms)
still-arrive c x w P q bytes envelope pre ms steady there packet more = leads-around w P q (λ a. Row_plan c (arrival_row bytes envelope (shared_in a) q) (finish a))
    (leads-row c w P (Tells q answer) (arrival_row bytes envelope (shared_in a) q) (finish a) (arrival-tells bytes envelope (shared_in a) q (there-kept w q steady there))
    (λ e cs ws tells aside. more (write_all ws (put_all (pre ++ (updates_of q a e ++ cs)) w)) (marks.Arrived q.queue envelope ∷ e.marks) (by e tells answer refl).0 (record {}, (by e tells answer refl).1)))
  where
    a : Around
    a = around_in w q (shared_of w q)

    answer : Bool
    answer = is_answer (packet_of bytes)

    finish : Around → Effects → List Update → List Write → Plan
    finish a e more writes = Finish (pre ++ (updates_of q a e ++ more)) writes (ms ++ marks.Arrived q.queue envelope ∷ e.marks)

    y : Past
    y = after_mark (marks.Arrived q.queue envelope) x

    by : (e : Effects) → Tells q answer e → (b : Bool) → answer ≡ b → Answered y e.marks × AreUnsent e.marks
    by e tells true is = (behind-pass q.queue e.marks (tells.response is) y arrived, behind-unsent q.queue e.marks (tells.response is) y arrived)
      where
        arrived : response_arrived y q.queue ≡ true
        arrived = both-true (queue_eq q.queue q.queue) _ (queue-refl q.queue) (ap is_answer packet ∙ is)
    by e tells false is = (failing-pass e.marks (tells.request is) y, failing-unsent e.marks (tells.request is))

lent-packet : (past : Past) (q : QueueId) (index : ℕ) (bytes : List ℕ) → WereSent past q index bytes → packet_at past q (Some index) ≡ packet_of bytes
lent-packet past q index bytes was = ap (λ o. option_and_then packet_of (option_map (λ (e : Envelope). e.bytes) o)) was.sent ∙ ap packet_of was.bytes

still-deliver : (c : Configuration) (past : Past) (w : World) (name : QueueId) (index : ℕ) → IsReady c past w → Leads w (Still past (events.Deliver name index)) (deliver_plan c name index)
still-deliver c past w name index ready = (λ has. lent (bytes_lent index (w.mailbox name)) refl, λ none. record {})
  where
    P : World → List Mark → Type 0
    P = Still past (events.Deliver name index)

    m : Mailbox
    m = w.mailbox name

    at : List ℕ → QueueSlot → Plan
    at bytes (NoQueue incarnation timers) = Stuck reasons.NotKept
    at bytes (Present q) = Arrive c q bytes (Some index) ((Mailbox_of name := after_delivery index m) ∷ []) []

    under_way : Option (List ℕ) → Plan
    under_way None = Stuck reasons.NotKept
    under_way (Some bytes) = Look (Queue_of name) (at bytes)

    there : (bytes : List ℕ) → WereSent past name index bytes → (s : QueueSlot) → w.queue name ≡ s → Leads w P (at bytes s)
    there bytes was (NoQueue incarnation timers) is = record {}
    there bytes was (Present q) is = still-arrive c (at_begin (events.Deliver name index) past) w P q bytes (Some index) ((Mailbox_of name := after_delivery index m) ∷ []) [] ready.steady (found c w name q ready.sound is)
        (lent-packet past q.queue index bytes (subst (λ k. WereSent past k index bytes) (sym (subst (IsQueueOf name) is (ready.sound.things (Queue_of name))).0) was))
        (λ v ns passes unsent. (passes, unsent))

    lent : (o : Option (List ℕ)) → bytes_lent index m ≡ o → Leads w P (under_way o)
    lent None is = record {}
    lent (Some bytes) is = there bytes (lent-sent c past w name index bytes ready.sound ready.paths is) (w.queue name) refl

still-inject : (c : Configuration) (past : Past) (w : World) (by : ℕ) (q : QueueId) (bytes : List ℕ) → IsReady c past w
    → Leads w (Still past (events.Verb by (verbs.Inject q bytes))) (inject_plan c (call_of by (verbs.Inject q bytes)) q bytes)
still-inject c past w by q bytes ready = at (w.queue q) refl
  where
    call : Call
    call = call_of by (verbs.Inject q bytes)

    P : World → List Mark → Type 0
    P = Still past (events.Verb by (verbs.Inject q bytes))

    arrives : QueueSlot → Plan
    arrives (NoQueue incarnation timers) = Refuse_plan call NoSuch
    arrives (Present p) = Arrive c p bytes None [] (answer_mark call answers.Fine ∷ [])

    at : (s : QueueSlot) → w.queue q ≡ s → Leads w P (arrives s)
    at (NoQueue incarnation timers) is = (refl, (record {}, record {}))
    at (Present p) is = still-arrive c (Behind past by (verbs.Inject q bytes) answers.Fine) w P p bytes None [] (answer_mark call answers.Fine ∷ []) ready.steady (found c w q p ready.sound is) refl
        (λ v ns passes unsent. (both-true true _ refl passes, (record {}, unsent)))

-- ---- verbs and timers

abbrev Failing : World → List Mark → Type 0
Failing v ms = AreFailing ms

flushes-failing : (ms : List Mark) → AreFlushes ms → AreFailing ms
flushes-failing [] all = record {}
flushes-failing (marks.Done queue x cause ∷ ms) all = (all.0.1, flushes-failing ms all.1)
flushes-failing (marks.Verb consumer verb answer ∷ ms) all = absurd all
flushes-failing (marks.Granted g ∷ ms) all = absurd all
flushes-failing (marks.Revoked adapter key ∷ ms) all = absurd all
flushes-failing (marks.Stored place bytes ∷ ms) all = absurd all
flushes-failing (marks.Remote queue domain envelope key kind address count verdict ∷ ms) all = absurd all
flushes-failing (marks.Local queue domain key kind address count verdict ∷ ms) all = absurd all
flushes-failing (marks.Sent source target index request bytes ∷ ms) all = absurd all
flushes-failing (marks.Lost target index ∷ ms) all = absurd all
flushes-failing (marks.Arrived target index ∷ ms) all = absurd all
flushes-failing (marks.Dropped target cause ∷ ms) all = absurd all
flushes-failing (marks.Timer queue silent ∷ ms) all = absurd all

answered-failing : (ms : List Mark) → AreAnswered ms → AreFailing ms
answered-failing [] all = record {}
answered-failing (marks.Verb consumer verb answer ∷ ms) all = (record {}, flushes-failing ms all.1)
answered-failing (marks.Done queue x cause ∷ ms) all = absurd all
answered-failing (marks.Granted g ∷ ms) all = absurd all
answered-failing (marks.Revoked adapter key ∷ ms) all = absurd all
answered-failing (marks.Stored place bytes ∷ ms) all = absurd all
answered-failing (marks.Remote queue domain envelope key kind address count verdict ∷ ms) all = absurd all
answered-failing (marks.Local queue domain key kind address count verdict ∷ ms) all = absurd all
answered-failing (marks.Sent source target index request bytes ∷ ms) all = absurd all
answered-failing (marks.Lost target index ∷ ms) all = absurd all
answered-failing (marks.Arrived target index ∷ ms) all = absurd all
answered-failing (marks.Dropped target cause ∷ ms) all = absurd all
answered-failing (marks.Timer queue silent ∷ ms) all = absurd all

still-failing : (past : Past) (event : Event) (w : World) (p : Plan) → Leads w Failing p → Leads w (Still past event) p
still-failing past event w p leads = leads-weaker w Failing (Still past event) p (λ v ms fails. failing-still past event ms fails) leads

still-quiet : (c : Configuration) (past : Past) (w : World) (by : ℕ) (verb : Verb) → IsQuietVerb verb → Leads w (Still past (events.Verb by verb)) (verb_plan c (call_of by verb) verb)
still-quiet c past w by verb quiet = leads-weaker w (Answers (call_of by verb)) (Still past (events.Verb by verb)) (verb_plan c (call_of by verb) verb)
    (λ v ms all. failing-still past (events.Verb by verb) ms (answered-failing ms all)) (quiet-verb c w by verb quiet)

still-verb : (c : Configuration) (past : Past) (w : World) (by : ℕ) (verb : Verb) → IsReady c past w → Leads w (Still past (events.Verb by verb)) (verb_plan c (call_of by verb) verb)
still-verb c past w by (verbs.RegMr slot buffer offset count rights) ready = search rules
still-verb c past w by (verbs.DeregMr slot) ready = still-failing past (events.Verb by (verbs.DeregMr slot)) w (dereg_mr_plan (call_of by (verbs.DeregMr slot)) slot) (
    leads-unless w Failing (of_region_refusals (deregistration_refusals (w.region slot))) (Refuse_plan (call_of by (verbs.DeregMr slot)))
    (Answer_plan (call_of by (verbs.DeregMr slot)) answers.Fine ((Domain_of slot.domain := without_object (w.domain slot.domain)) ∷ (Region_of slot := after_deregistration (w.region slot)) ∷ []) (told (grant_of_region (w.region slot))))
    (λ r. (record {}, record {})) (gone (grant_of_region (w.region slot))))
  where
    told : Option Grant → List Mark
    told o = option_map_or (λ g. marks.Revoked slot.domain.adapter g.key ∷ []) o []

    gone : (o : Option Grant) → AreFailing (answer_mark (call_of by (verbs.DeregMr slot)) answers.Fine ∷ told o)
    gone None = (record {}, record {})
    gone (Some g) = (record {}, (record {}, record {}))
still-verb c past w by (verbs.DeallocMw slot) ready = search rules
still-verb c past w by (verbs.Store adapter buffer offset bytes) ready = search rules
still-verb c past w by (verbs.Inject queue bytes) ready = still-inject c past w by queue bytes ready
still-verb c past w by (verbs.AllocPd domain) ready = still-quiet c past w by (verbs.AllocPd domain) (record {})
still-verb c past w by (verbs.DeallocPd domain) ready = still-quiet c past w by (verbs.DeallocPd domain) (record {})
still-verb c past w by (verbs.AllocMr slot pages) ready = still-quiet c past w by (verbs.AllocMr slot pages) (record {})
still-verb c past w by (verbs.AllocMw slot kind) ready = still-quiet c past w by (verbs.AllocMw slot kind) (record {})
still-verb c past w by (verbs.CreateCq slot capacity) ready = still-quiet c past w by (verbs.CreateCq slot capacity) (record {})
still-verb c past w by (verbs.DestroyCq slot) ready = still-quiet c past w by (verbs.DestroyCq slot) (record {})
still-verb c past w by (verbs.CreateSrq slot depth) ready = still-quiet c past w by (verbs.CreateSrq slot depth) (record {})
still-verb c past w by (verbs.DestroySrq slot) ready = still-quiet c past w by (verbs.DestroySrq slot) (record {})
still-verb c past w by (verbs.CreateQp slot send_cq recv_cq send_depth recv_depth srq) ready = still-quiet c past w by (verbs.CreateQp slot send_cq recv_cq send_depth recv_depth srq) (record {})
still-verb c past w by (verbs.ModifyQp slot change) ready = still-quiet c past w by (verbs.ModifyQp slot change) (record {})
still-verb c past w by (verbs.QueryQp slot) ready = still-quiet c past w by (verbs.QueryQp slot) (record {})
still-verb c past w by (verbs.DestroyQp slot) ready = still-quiet c past w by (verbs.DestroyQp slot) (record {})
still-verb c past w by (verbs.PostSend slot request) ready = still-quiet c past w by (verbs.PostSend slot request) (record {})
still-verb c past w by (verbs.PostRecv slot request) ready = still-quiet c past w by (verbs.PostRecv slot request) (record {})
still-verb c past w by (verbs.PostSrq slot request) ready = still-quiet c past w by (verbs.PostSrq slot request) (record {})
still-verb c past w by (verbs.Poll slot n least) ready = still-quiet c past w by (verbs.Poll slot n least) (record {})
still-verb c past w by (verbs.Load adapter buffer offset count) ready = still-quiet c past w by (verbs.Load adapter buffer offset count) (record {})

still-timeout : (c : Configuration) (past : Past) (w : World) (name : QueueId) (hasten : Bool) → Leads w (Still past (events.Timeout name hasten)) (timeout_plan c name hasten)
still-timeout c past w name hasten = leads-queue c w P name reasons.State (λ q. Look (Mailbox_of name) (λ own. With_around q (λ a. Timeout_around hasten q own a q.peer)))
    (λ q is. leads-around w P q (λ a. Timeout_around hasten q (w.mailbox name) a q.peer) (by q q.peer))
  where
    P : World → List Mark → Type 0
    P = Still past (events.Timeout name hasten)

    fire : (q : QueuePair) (silent : Bool) → Leads w P (Fire hasten q (around_in w q (shared_of w q)) silent)
    fire q silent = leads-unless w P (timeout_refusals silent hasten q) Stuck (Finish (updates_of q (around_in w q (shared_of w q)) (after_timeout silent q)) [] (after_timeout silent q).marks) (λ r. record {})
        (failing-still past (events.Timeout name hasten) (after_timeout silent q).marks (timeout-failing silent q))

    by : (q : QueuePair) (peer : Option Correspondent) → Leads w P (Timeout_around hasten q (w.mailbox name) (around_in w q (shared_of w q)) peer)
    by q None = leads-unless w P (timeout_refusals false hasten q) Stuck (Stuck reasons.Empty) (λ r. record {}) (record {})
    by q (Some peer) = fire q _

still-wake : (c : Configuration) (past : Past) (w : World) (name : QueueId) → Leads w (Still past (events.RnrWake name)) (wake_plan c name)
still-wake c past w name = leads-queue c w P name reasons.State (λ q. waking q q.peer) (λ q is. by q q.peer)
  where
    P : World → List Mark → Type 0
    P = Still past (events.RnrWake name)

    wakes : QueuePair → Bool → Plan
    wakes q empty = unless_refused (wake_refusals empty q) Stuck (Finish ((Queue_of q.queue := Present (after_wake q).queue) ∷ []) [] (after_wake q).marks)

    waking : QueuePair → Option Correspondent → Plan
    waking q None = unless_refused (wake_refusals false q) Stuck (Stuck reasons.Empty)
    waking q (Some peer) = Look (Queue_of peer.queue) (λ slot. Look (Mailbox_of peer.queue) (λ m.
        With_receives slot (λ empty. wakes q (reaches_peer q peer m && empty))))

    wake : (q : QueuePair) (empty : Bool) → Leads w P (wakes q empty)
    wake q empty = leads-unless w P (wake_refusals empty q) Stuck (Finish ((Queue_of q.queue := Present (after_wake q).queue) ∷ []) [] (after_wake q).marks) (λ r. record {}) (refl, record {})

    receives : (slot : QueueSlot) (k : Bool → Plan) → ((b : Bool) → Leads w P (k b)) → Leads w P (With_receives slot k)
    receives slot k more = search rules

    by : (q : QueuePair) (peer : Option Correspondent) → Leads w P (waking q peer)
    by q None = leads-unless w P (wake_refusals false q) Stuck (Stuck reasons.Empty) (λ r. record {}) (record {})
    by q (Some peer) = receives (w.queue peer.queue) (λ empty. wakes q (reaches_peer q peer (w.mailbox peer.queue) && empty)) (λ empty. wake q _)

-- no turn: an event that sends nothing
abbrev pub IsNoTurn : Event → Type 0
IsNoTurn (events.Request queue lot) = ⊥
IsNoTurn (events.Respond queue lot) = ⊥
IsNoTurn event = Unit {0}

refused-still : (past : Past) (w : World) (by : ℕ) (verb : Verb) → Leads w (Still past (events.Verb by verb)) (Refuse_plan (call_of by verb) NoSuch)
refused-still past w by verb = failing-still past (events.Verb by verb) (answer_mark (call_of by verb) (answers.Refused NoSuch) ∷ []) (record {}, record {})

pub still-event : (c : Configuration) (past : Past) (w : World) (event : Event) → IsReady c past w → IsNoTurn event → Leads w (Still past event) (plan c event)
still-event c past w (events.Verb by verb) ready none = (λ named. still-verb c past w by verb ready, λ missing. refused-still past w by verb)
still-event c past w (events.Request queue lot) ready none = absurd none
still-event c past w (events.Respond queue lot) ready none = absurd none
still-event c past w (events.Deliver queue index) ready none = still-deliver c past w queue index ready
still-event c past w (events.Timeout queue hasten) ready none = still-timeout c past w queue hasten
still-event c past w (events.RnrWake queue) ready none = still-wake c past w queue
