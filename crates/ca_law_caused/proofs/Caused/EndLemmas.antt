-- What the end of an event adds to faults, and what a story leaves of the agreement. For proofs only.
use Rattle.std.proofs.Common.{◌≡◌, ◌&&◌, Bool, true, false, not, if◌then◌else◌, List, [], ◌∷◌, ◌++◌, Option, None, Some, IfSome, is_some, refl, ap, ap₂, sym, subst, ◌∙◌, true≢false}
use Rattle.std.specs.List.{list_all}
use Rattle.std.specs.Option.{option_map_or}
use Rattle.ca_base.specs.Equal.{status_eq}
use Rattle.ca_base.specs.declared.completion.WcStatus.TheVariants.{Flushed}
use Rattle.ca_model.specs.Packets.{is_response}
use Rattle.ca_law_endings.proofs.PathLemmas.{marks-append}
use Rattle.ca_law_keys.proofs.Posts.GrantLemmas.{both-true}
use Rattle.ca_law_keys.proofs.Posts.PostMade.{life-refl, other-life}
use Rattle.ca_law_keys.specs.Posts.{life}
use Rattle.ca_law_order.proofs.Sends.TurnLemmas.{AreAway, queues-left}
use Rattle.ca_base.specs.declared.correspondent.Correspondent.{Correspondent}
use Rattle.ca_base.specs.objects.QueuePair.{QueuePair, Present}
use Rattle.ca_law_caused.proofs.Caused.PassLemmas.{IsTied, KeepsFaults, Leaves, either, faults_of_queue, kept, or-left}
use Rattle.ca_law_caused.specs.Causes.{completes_with_cause}
use Rattle.ca_law_caused.specs.Explained.{AreExplained, CausesAgree, ExplainedInSlot, IsExplained, IsFollowed, QueuePast, is_faulty, queue_past}
use Rattle.ca_keys.specs.Equal.{queue_eq}
use Rattle.ca_keys.specs.declared.names.QueueId.{QueueId}
use Rattle.ca_law_world.proofs.Sound.SettledLemmas.{queue-path}
use Rattle.ca_model.specs.Caused.{may_be_in_error}
use Rattle.ca_model.specs.Past.{Arrival, Fault, Past, Unmarked, after_mark, after_marks, at_end, correspondent_eq, each_mark, faults_after, faults_at_end, is_unmarked_at_hand, packet_at, present_incarnation}
use Rattle.ca_model.specs.declared.mark.Mark.{Mark}
use Rattle.ca_model.specs.declared.mark.Mark.TheVariants as marks
use Rattle.ca_model.specs.machine.Plan.{Update, ◌:=◌, Write, put_all, write_all}
use Rattle.ca_model.specs.machine.World.{Queue_of, World}
use Rattle.ca_base.specs.declared.change.State.{State}
use Rattle.ca_law_caused.proofs.Caused.KnownLemmas.{IsOn, Known}
use Rattle.ca_base.specs.objects.QueuePair.{QueueSlot}
use Rattle.ca_base.specs.objects.StateTable.{state_eq}
use Rattle.ca_law_caused.proofs.Caused.PassLemmas.{Passed, each-append, keeps-bare, passed-flushes}
use Rattle.ca_law_caused.proofs.Caused.StoryLemmas.{AreFlushes, flush-flushes}
use Rattle.ca_model.specs.machine.Completions.{flush_marks}
use Rattle.ca_base.specs.declared.change.State.TheVariants as states
use Rattle.ca_model.specs.Past.{Naming, with_at, progress_at_end, progress_at_hand, start_of, whole_start}
use Rattle.ca_model.specs.Progress.{Progress, with_retry}
use Rattle.ca_model.specs.Requests.{psns_of}
use Rattle.ca_model.specs.machine.Invariants.{is_connected, is_fresh, is_sending}
use Rattle.std.proofs.Common.{◌+◌, sum_by, take}

-- ---- the end

-- a past with another packet that arrived
abbrev with_arrival : Option Arrival → Past → Past
with_arrival o s = record s { at_hand = record s.at_hand { arrival = o } }

unmarked-none : (s : Past) (name : QueueId) → is_unmarked_at_hand (with_arrival None s) name ≡ true → ⊥
unmarked-none s name is = true≢false (sym is)

-- what befell a queue pair still did as more befell one
more-faulty : (s : Past) (n : QueueId) (fs : List Fault) (l : Correspondent) → is_faulty (s.faults l) ≡ true → ((correspondent_eq (present_incarnation s n) l ≡ true) → is_faulty (fs ++ faults_of_queue s n) ≡ true) → is_faulty (faults_after s n fs l) ≡ true
more-faulty s n fs l is own = by (correspondent_eq (present_incarnation s n) l) refl
  where
    by : (b : Bool) → correspondent_eq (present_incarnation s n) l ≡ b → is_faulty (if b then fs ++ faults_of_queue s n else s.faults l) ≡ true
    by true e = own e
    by false e = is

-- a queue pair that may be in Error has its faults at the end
pub faulty-end : (s : Past) (name : QueueId) → may_be_in_error s name ≡ true → is_faulty (faults_at_end s (present_incarnation s name)) ≡ true
faulty-end s name may = by s.at_hand.arrival may
  where
    own : Correspondent
    own = present_incarnation s name

    by : (o : Option Arrival) → may_be_in_error (with_arrival o s) name ≡ true → is_faulty (faults_at_end (with_arrival o s) own) ≡ true
    by None may = either (is_faulty (faults_of_queue s name)) (is_unmarked_at_hand (with_arrival None s) name) _ may (λ faulty. faulty) (λ unmarked. absurd (unmarked-none s name unmarked))
    by (Some a) may = either (is_faulty (faults_of_queue s name)) (is_unmarked_at_hand t name) _ may (λ faulty. old faulty (is_unmarked_at_hand t a.target))
        (λ unmarked. new unmarked (queue_eq a.target name) refl)
      where
        t : Past
        t = with_arrival (Some a) s

        old : is_faulty (faults_of_queue s name) ≡ true → (b : Bool) → is_faulty ((if b then faults_after t a.target (Unmarked ∷ []) else s.faults) own) ≡ true
        old faulty true = more-faulty t a.target (Unmarked ∷ []) own faulty (λ e. refl)
        old faulty false = faulty

        new : is_unmarked_at_hand t name ≡ true → (b : Bool) → queue_eq a.target name ≡ b → is_faulty (faults_at_end t own) ≡ true
        new unmarked true e = subst (λ n. is_faulty (faults_at_end t (present_incarnation s n)) ≡ true) (queue-path a.target name e)
            (ap (λ b. is_faulty ((if b then faults_after t a.target (Unmarked ∷ []) else s.faults) (present_incarnation s a.target))) (subst (λ n. is_unmarked_at_hand t n ≡ true) (sym (queue-path a.target name e)) unmarked)
            ∙ ap (λ b. is_faulty (if b then Unmarked ∷ faults_of_queue s a.target else faults_of_queue s a.target)) (life-refl (present_incarnation s a.target)))
        new unmarked false e = absurd (true≢false (sym unmarked ∙ none e))
          where
            none : queue_eq a.target name ≡ false → is_unmarked_at_hand t name ≡ false
            none e = ap (λ b. arrived s.at_hand.dropped b) e ∙ dropped s.at_hand.dropped
              where
                arrived : Bool → Bool → Bool
                arrived d b = option_map_or (λ p. not (is_response p.opcode)) (if d then None else if b then packet_at t name a.index else None) false
                    && not s.at_hand.used_remotely && not s.at_hand.used_list && list_all (λ c. status_eq c.status Flushed) s.at_hand.completed

                dropped : (d : Bool) → arrived d false ≡ false
                dropped true = refl
                dropped false = refl

-- and no other has more of them
pub others-end : (s : Past) (name : QueueId) (l : Correspondent) → IfSome s.at_hand.arrival (λ a. a.target ≡ name) → correspondent_eq (present_incarnation s name) l ≡ false → faults_at_end s l ≡ s.faults l
others-end s name l at other = by s.at_hand.arrival at
  where
    by : (o : Option Arrival) → IfSome o (λ a. a.target ≡ name) → faults_at_end (with_arrival o s) l ≡ s.faults l
    by None at = refl
    by (Some a) at = one (is_unmarked_at_hand (with_arrival (Some a) s) a.target)
      where
        one : (b : Bool) → (if b then faults_after (with_arrival (Some a) s) a.target (Unmarked ∷ []) else s.faults) l ≡ s.faults l
        one true = ap (λ n. faults_after s n (Unmarked ∷ []) l) at ∙ ap (λ b. if b then Unmarked ∷ faults_of_queue s name else s.faults l) other
        one false = refl

-- ---- what is known

-- what a past knows of a queue pair, by what it tells
abbrev pub known_of : QueuePast → QueuePair → Known
known_of l q = record {
  posted = l.posted;
  begin = option_map_or whole_start l.start 0;
  mtu = q.responder.mtu;
  sending = is_sending q.state;
  before = l.progress;
  retry = q.requester.retry;
  rnr_retry = q.requester.rnr_retry;
}

pub followed-on : (l : QueuePast) (q : QueuePair) → IsFollowed l q → IsOn (known_of l q) l.progress q
followed-on l q is = record {
  una = is.una;
  retries = is.retries;
  rnrs = is.rnrs;
  retry = refl;
  rnr_retry = refl;
  mtu = refl;
  first = ap (λ o. option_map_or whole_start o 0 + sum_by (λ p. psns_of q.responder.mtu p.request.op) (take q.requester.oldest l.posted)) is.is ∙ is.first;
  patience = is.patience;
}

sending-connected : (t : State) → is_sending t ≡ true → is_connected t ≡ true
sending-connected states.Reset e = absurd (true≢false (sym e))
sending-connected states.Init e = absurd (true≢false (sym e))
sending-connected states.Rtr e = absurd (true≢false (sym e))
sending-connected states.Rts e = refl
sending-connected states.Sqd e = refl
sending-connected states.Error e = absurd (true≢false (sym e))

pub followed-tied : (r : Past) (q : QueuePair) → IsExplained (queue_past r q.queue) q → is_sending q.state ≡ true → IsTied (known_of (queue_past r q.queue) q) q.queue r
followed-tied r q is sending = record {
  begin = so.begin;
  start = so.is;
  whole = ap (λ o. option_map_or whole_start o 0) (sym so.is);
  retry = so.retry;
  rnr_retry = so.rnr_retry;
  mtu = is.mtu (sending-connected q.state sending);
  progress = refl;
}
  where
    so : IsFollowed (queue_past r q.queue) q
    so = is.sends sending

-- ---- progress at the end

-- a past with another packet that arrived and another timer that fired
abbrev with_begin : Option QueueId → Option Arrival → Past → Past
with_begin f o s = record s { at_hand = record s.at_hand { fired = f; arrival = o } }

pub progress-end : (s : Past) (name : QueueId) → IfSome s.at_hand.fired (λ n. n ≡ name) → IfSome s.at_hand.arrival (λ a. a.target ≡ name) → progress_at_end s (present_incarnation s name) ≡ progress_at_hand s name
progress-end s name fires arrives = by s.at_hand.fired s.at_hand.arrival fires arrives
  where
    own : (g : Progress) → with_at correspondent_eq s.progress (present_incarnation s name) g (present_incarnation s name) ≡ g
    own g = ap (λ b. if b then g else s.progress (present_incarnation s name)) (life-refl (present_incarnation s name))

    by : (f : Option QueueId) (o : Option Arrival) → IfSome f (λ n. n ≡ name) → IfSome o (λ a. a.target ≡ name) → progress_at_end (with_begin f o s) (present_incarnation s name) ≡ progress_at_hand (with_begin f o s) name
    by (Some n) o fires arrives = ap (λ m. with_at correspondent_eq s.progress (present_incarnation s m) (progress_at_hand (with_begin (Some n) o s) m) (present_incarnation s name)) fires ∙ own (progress_at_hand (with_begin (Some n) o s) name)
    by None (Some a) fires arrives = ap (λ m. with_at correspondent_eq s.progress (present_incarnation s m) (progress_at_hand (with_begin None (Some a) s) m) (present_incarnation s name)) arrives ∙ own (progress_at_hand (with_begin None (Some a) s) name)
    by None None fires arrives = refl

pub others-progress : (s : Past) (name : QueueId) (l : Correspondent) → IfSome s.at_hand.fired (λ n. n ≡ name) → IfSome s.at_hand.arrival (λ a. a.target ≡ name) → correspondent_eq (present_incarnation s name) l ≡ false → progress_at_end s l ≡ s.progress l
others-progress s name l fires arrives other = by s.at_hand.fired s.at_hand.arrival fires arrives
  where
    away : (g : Progress) → with_at correspondent_eq s.progress (present_incarnation s name) g l ≡ s.progress l
    away g = ap (λ b. if b then g else s.progress l) other

    by : (f : Option QueueId) (o : Option Arrival) → IfSome f (λ n. n ≡ name) → IfSome o (λ a. a.target ≡ name) → progress_at_end (with_begin f o s) l ≡ s.progress l
    by (Some n) o fires arrives = ap (λ m. with_at correspondent_eq s.progress (present_incarnation s m) (progress_at_hand (with_begin (Some n) o s) m) l) fires ∙ away (progress_at_hand (with_begin (Some n) o s) name)
    by None (Some a) fires arrives = ap (λ m. with_at correspondent_eq s.progress (present_incarnation s m) (progress_at_hand (with_begin None (Some a) s) m) l) arrives ∙ away (progress_at_hand (with_begin None (Some a) s) name)
    by None None fires arrives = refl

-- ---- the agreement

-- what an event leaves: its marks pass, and past and world agree at its end
abbrev pub Passes : Past → World → List Mark → Type 0
Passes r v ms = (each_mark completes_with_cause r ms ≡ true) × CausesAgree (at_end (after_marks ms r)) v

-- what is told of two alike
queue-past-path : (a b : QueuePast) → a.faults ≡ b.faults → a.posted ≡ b.posted → a.naming ≡ b.naming → a.start ≡ b.start → a.progress ≡ b.progress → a ≡ b
queue-past-path a b f p n s g = ap (λ x. record a { faults = x }) f ∙ ap (λ x. record a { faults = b.faults; posted = x }) p ∙ ap (λ x. record a { faults = b.faults; posted = b.posted; naming = x }) n
    ∙ ap (λ x. record a { faults = b.faults; posted = b.posted; naming = b.naming; start = x }) s ∙ ap (λ x. record b { progress = x }) g

-- a queue pair behind its marks, as the past tells of it at the end
pub explained-end : (r : Past) (q p : QueuePair) (ms : List Mark) → IsExplained (queue_past r q.queue) q → IfSome r.at_hand.fired (λ n. n ≡ q.queue) → IfSome r.at_hand.arrival (λ a. a.target ≡ q.queue)
    → Leaves (known_of (queue_past r q.queue) q) q p r ms → IsExplained (queue_past (at_end (after_marks ms r)) q.queue) p
explained-end r q p ms was fires arrives leaves = record {
  error = λ error. faulty-end s q.queue (leaves.left.error error);
  fresh = λ fresh. at_fresh (leaves.goes.fresh fresh) fresh;
  mtu = λ connected. at_mtu (leaves.goes.mtu connected) connected;
  sends = λ sending. at_sends (leaves.goes.sends sending);
}
  where
    s : Past
    s = after_marks ms r

    l : QueuePast
    l = queue_past r q.queue

    same : kept s ≡ kept r
    same = leaves.goes.same

    at_fresh : (p.requester.oldest ≡ q.requester.oldest) × (p.requester.rnrs ≡ q.requester.rnrs) × (p.state ≡ q.state) → is_fresh p.state ≡ true → (p.requester.oldest ≡ 0) × (p.requester.rnrs ≡ 0)
    at_fresh alike fresh = (alike.0 ∙ (was.fresh (ap is_fresh (sym alike.2) ∙ fresh)).0, alike.1 ∙ (was.fresh (ap is_fresh (sym alike.2) ∙ fresh)).1)

    at_mtu : (p.responder.mtu ≡ q.responder.mtu) × (p.state ≡ q.state) → is_connected p.state ≡ true → option_map_or (λ n. n.mtu) (s.naming q.queue) 0 ≡ p.responder.mtu
    at_mtu alike connected = ap (λ (t : Past). option_map_or (λ (n : Naming). n.mtu) (t.naming q.queue) 0) {x = kept s} {y = kept r} same ∙ was.mtu (ap is_connected (sym alike.1) ∙ connected) ∙ sym alike.0

    at_sends : IsOn (known_of l q) (progress_at_hand s q.queue) p × (is_sending q.state ≡ true) → IsFollowed (queue_past (at_end s) q.queue) p
    at_sends so = record {
      begin = begun.begin;
      is = ap (λ t. start_of t q.queue) {x = kept s} {y = kept r} same ∙ begun.is;
      retry = begun.retry ∙ sym so.0.retry;
      rnr_retry = begun.rnr_retry ∙ sym so.0.rnr_retry;
      first = ap (λ m. whole_start begun.begin + sum_by (λ p. psns_of m p.request.op) (take p.requester.oldest (s.posted (present_incarnation s q.queue)))) so.0.mtu
          ∙ ap (λ (t : Past). whole_start begun.begin + sum_by (λ p. psns_of q.responder.mtu p.request.op) (take p.requester.oldest (t.posted (present_incarnation t q.queue)))) {x = kept s} {y = kept r} same
          ∙ ap (λ o. option_map_or whole_start o 0 + sum_by (λ p. psns_of q.responder.mtu p.request.op) (take p.requester.oldest l.posted)) (sym begun.is) ∙ so.0.first;
      una = so.0.una ∙ ap (λ (g : Progress). g.una) (sym told);
      retries = so.0.retries ∙ ap (λ (g : Progress). g.retries) (sym told);
      rnrs = so.0.rnrs ∙ ap (λ (g : Progress). g.rnrs) (sym told);
      patience = so.0.patience;
    }
      where
        begun : IsFollowed l q
        begun = was.sends so.1

        told : progress_at_end s (present_incarnation s q.queue) ≡ progress_at_hand s q.queue
        told = progress-end s q.queue (subst (λ t. IfSome t.at_hand.fired (λ n. n ≡ q.queue)) {x = kept r} {y = kept s} (sym same) fires) (subst (λ t. IfSome t.at_hand.arrival (λ a. a.target ≡ q.queue)) {x = kept r} {y = kept s} (sym same) arrives)

-- what is told of another queue pair
pub others-told : (r : Past) (name n : QueueId) (ms : List Mark) → queue_eq name n ≡ false → IfSome r.at_hand.fired (λ m. m ≡ name) → IfSome r.at_hand.arrival (λ a. a.target ≡ name) → kept (after_marks ms r) ≡ kept r → KeepsFaults name r (after_marks ms r)
    → queue_past (at_end (after_marks ms r)) n ≡ queue_past r n
others-told r name n ms other fires arrives same keeps = queue-past-path (queue_past (at_end s) n) (queue_past r n)
    (others-end s name (life n (s.incarnation n)) (subst (λ t. IfSome t.at_hand.arrival (λ a. a.target ≡ name)) {x = kept r} {y = kept s} (sym same) arrives) (other-life name n (s.incarnation name) (s.incarnation n) other)
    ∙ keeps.others (life n (s.incarnation n)) (other-life name n (r.incarnation name) (s.incarnation n) other) ∙ ap (λ i. r.faults (life n (i n))) keeps.incarnation)
    (ap (λ (t : Past). t.posted (present_incarnation t n)) {x = kept s} {y = kept r} same)
    (ap (λ (t : Past). t.naming n) {x = kept s} {y = kept r} same)
    (ap (λ t. start_of t n) {x = kept s} {y = kept r} same)
    (others-progress s name (life n (s.incarnation n)) (subst (λ t. IfSome t.at_hand.fired (λ m. m ≡ name)) {x = kept r} {y = kept s} (sym same) fires) (subst (λ t. IfSome t.at_hand.arrival (λ a. a.target ≡ name)) {x = kept r} {y = kept s} (sym same) arrives)
    (other-life name n (s.incarnation name) (s.incarnation n) other) ∙ ap (λ (t : Past). t.progress (present_incarnation t n)) {x = kept s} {y = kept r} same)
  where
    s : Past
    s = after_marks ms r

-- A slot is explained by what the past tells at the end; the others are told of as they were.
pub slots-agree : (t : Past) (w : World) (name : QueueId) (x : QueueSlot) (pre us : List Update) (ws : List Write) → ((n : QueueId) → queue_eq name n ≡ false → ExplainedInSlot (queue_past t n) (w.queue n)) → ExplainedInSlot (queue_past t name) x
    → AreAway pre → AreAway us → CausesAgree t (write_all ws (put_all (pre ++ (Queue_of name := x) ∷ us) w))
slots-agree t w name x pre us ws others own before behind = subst (AreExplained (queue_past t)) (sym (queues-left w name x pre us ws before behind)) (record { slots = λ n. slot n (queue_eq name n) refl })
  where
    slot : (n : QueueId) (b : Bool) → queue_eq name n ≡ b → ExplainedInSlot (queue_past t n) (if b then x else w.queue n)
    slot n true e = subst (λ m. ExplainedInSlot (queue_past t m) x) (queue-path name n e) own
    slot n false e = others n e

-- The marks of a story pass, and keep the agreement.
pub left-agrees : (r : Past) (w : World) (q p : QueuePair) (pre us : List Update) (ws : List Write) (ms : List Mark) → ((n : QueueId) → queue_eq q.queue n ≡ false → ExplainedInSlot (queue_past r n) (w.queue n)) → IsExplained (queue_past r q.queue) q
    → IfSome r.at_hand.fired (λ n. n ≡ q.queue) → IfSome r.at_hand.arrival (λ a. a.target ≡ q.queue) → Leaves (known_of (queue_past r q.queue) q) q p r ms → AreAway pre → AreAway us
    → Passes r (write_all ws (put_all (pre ++ (Queue_of q.queue := Present p) ∷ us) w)) ms
left-agrees r w q p pre us ws ms others was fires arrives leaves before behind = (
  leaves.left.passes,
  slots-agree (at_end (after_marks ms r)) w q.queue (Present p) pre us ws
      (λ n other. subst (λ l. ExplainedInSlot l (w.queue n)) (sym (others-told r q.queue n ms other fires arrives leaves.goes.same leaves.left.keeps)) (others n other))
      (explained-end r q p ms was fires arrives leaves) before behind,
)

-- marks of packets that are sent, behind a story of an event in which none arrived
abbrev pub AreSent : List Mark → Type 0
AreSent [] = Unit {0}
AreSent (marks.Sent source target index request bytes ∷ ms) = AreSent ms
AreSent (marks.Lost target index ∷ ms) = AreSent ms
AreSent (m ∷ ms) = ⊥

-- what they leave
record SentSo (r : Past) (ms : List Mark) : Type 0 where
  passes : each_mark completes_with_cause r ms ≡ true
  incarnation : (after_marks ms r).incarnation ≡ r.incarnation
  faults : (after_marks ms r).faults ≡ r.faults
  same : kept (after_marks ms r) ≡ kept r

sent-so : (r : Past) (ms : List Mark) → AreSent ms → SentSo r ms
sent-so r [] sent = record { passes = refl; incarnation = refl; faults = refl; same = refl }
sent-so r (marks.Sent source target index request bytes ∷ ms) sent = by (sent-so (after_mark (marks.Sent source target index request bytes) r) ms sent)
  where
    by : SentSo (after_mark (marks.Sent source target index request bytes) r) ms → SentSo r (marks.Sent source target index request bytes ∷ ms)
    by rest = record { passes = both-true true _ refl rest.passes; incarnation = rest.incarnation; faults = rest.faults; same = rest.same }
sent-so r (marks.Lost target None ∷ ms) sent = by (sent-so (after_mark (marks.Lost target None) r) ms sent)
  where
    by : SentSo (after_mark (marks.Lost target None) r) ms → SentSo r (marks.Lost target None ∷ ms)
    by rest = record { passes = both-true true _ refl rest.passes; incarnation = rest.incarnation; faults = rest.faults; same = rest.same }
sent-so r (marks.Lost target (Some index) ∷ ms) sent = by (sent-so (after_mark (marks.Lost target (Some index)) r) ms sent)
  where
    by : SentSo (after_mark (marks.Lost target (Some index)) r) ms → SentSo r (marks.Lost target (Some index) ∷ ms)
    by rest = record { passes = both-true true _ refl rest.passes; incarnation = rest.incarnation; faults = rest.faults; same = rest.same }
sent-so r (marks.Verb by verb answer ∷ ms) sent = absurd sent
sent-so r (marks.Done queue x cause ∷ ms) sent = absurd sent
sent-so r (marks.Remote queue domain envelope key kind address count verdict ∷ ms) sent = absurd sent
sent-so r (marks.Local queue domain key kind address count verdict ∷ ms) sent = absurd sent
sent-so r (marks.Granted g ∷ ms) sent = absurd sent
sent-so r (marks.Revoked adapter key ∷ ms) sent = absurd sent
sent-so r (marks.Stored place bytes ∷ ms) sent = absurd sent
sent-so r (marks.Arrived target index ∷ ms) sent = absurd sent
sent-so r (marks.Dropped target cause ∷ ms) sent = absurd sent
sent-so r (marks.Timer queue silent ∷ ms) sent = absurd sent

-- the progress with an event in which no packet arrived
abbrev alone_of : Past → QueueId → Progress
alone_of t name = if option_map_or (queue_eq name) t.at_hand.fired false then with_retry (t.progress (present_incarnation t name)) else t.progress (present_incarnation t name)

alone-now : (t : Past) (name : QueueId) → t.at_hand.arrival ≡ None → progress_at_hand t name ≡ alone_of t name
alone-now t name none = by t.at_hand.arrival none
  where
    by : (o : Option Arrival) → o ≡ None → progress_at_hand (with_arrival o t) name ≡ alone_of t name
    by None none = refl
    by (Some a) none = absurd (true≢false (ap is_some none))

pub leaves-sent : (k : Known) (q p : QueuePair) (r : Past) (ms ns : List Mark) → r.at_hand.arrival ≡ None → Leaves k q p r ms → AreSent ns → Leaves k q p r (ms ++ ns)
leaves-sent k q p r ms ns alone leaves sent = record {
  left = record {
    passes = each-append ms ns r leaves.left.passes more.passes;
    keeps = subst (KeepsFaults q.queue r) (sym (marks-append ms ns r)) (record {
      incarnation = more.incarnation ∙ leaves.left.keeps.incarnation;
      own = λ is. ap (λ f. is_faulty (f (present_incarnation r q.queue))) more.faults ∙ leaves.left.keeps.own is;
      others = λ l other. ap (λ f. f l) more.faults ∙ leaves.left.keeps.others l other;
    });
    arrival = ap (λ (t : Past). t.at_hand.arrival) (marks-append ms ns r) ∙ ap (λ (t : Past). t.at_hand.arrival) {x = kept t} {y = kept s} more.same ∙ leaves.left.arrival;
    error = λ is. subst (λ t. may_be_in_error t q.queue ≡ true) (sym (marks-append ms ns r)) (or-left _ _ (ap₂ (λ f i. is_faulty (f (record { queue = q.queue; incarnation = i q.queue }))) more.faults more.incarnation ∙ faulty s.at_hand.arrival none (leaves.left.error is)));
  };
  goes = record {
    same = ap kept (marks-append ms ns r) ∙ more.same ∙ leaves.goes.same;
    mtu = leaves.goes.mtu;
    fresh = leaves.goes.fresh;
    sends = λ is. (subst (λ g. IsOn k g p) (sym now) (leaves.goes.sends is).0, (leaves.goes.sends is).1);
  };
}
  where
    s : Past
    s = after_marks ms r

    t : Past
    t = after_marks ns s

    more : SentSo s ns
    more = sent-so s ns sent

    none : s.at_hand.arrival ≡ None
    none = leaves.left.arrival ∙ alone

    now : progress_at_hand (after_marks (ms ++ ns) r) q.queue ≡ progress_at_hand s q.queue
    now = ap (λ x. progress_at_hand x q.queue) (marks-append ms ns r) ∙ alone-now t q.queue (ap (λ (x : Past). x.at_hand.arrival) {x = kept t} {y = kept s} more.same ∙ none)
        ∙ ap (λ x. alone_of x q.queue) {x = kept t} {y = kept s} more.same ∙ sym (alone-now s q.queue none)

    faulty : (o : Option Arrival) → o ≡ None → may_be_in_error (with_arrival o s) q.queue ≡ true → is_faulty (faults_of_queue s q.queue) ≡ true
    faulty None none may = either (is_faulty (faults_of_queue s q.queue)) (is_unmarked_at_hand (with_arrival None s) q.queue) _ may (λ is. is) (λ unmarked. absurd (unmarked-none s q.queue unmarked))
    faulty (Some a) none may = absurd (true≢false (ap is_some none))

-- ---- queue pairs in Error and in Reset

pub explained-error : (l : QueuePast) (p : QueuePair) → p.state ≡ states.Error → is_faulty l.faults ≡ true → IsExplained l p
explained-error l p error faulty = record {
  error = λ is. faulty;
  fresh = λ is. absurd (true≢false (sym is ∙ ap is_fresh error));
  mtu = λ is. absurd (true≢false (sym is ∙ ap is_connected error));
  sends = λ is. absurd (true≢false (sym is ∙ ap is_sending error));
}

pub explained-idle : (l : QueuePast) (p : QueuePair) → state_eq p.state states.Error ≡ false → is_connected p.state ≡ false → is_sending p.state ≡ false → (p.requester.oldest ≡ 0) × (p.requester.rnrs ≡ 0) → IsExplained l p
explained-idle l p well unconnected idle fresh = record {
  error = λ is. absurd (true≢false (sym is ∙ well));
  fresh = λ is. fresh;
  mtu = λ is. absurd (true≢false (sym is ∙ unconnected));
  sends = λ is. absurd (true≢false (sym is ∙ idle));
}

-- All that is posted to a queue pair in Error is flushed.
pub flush-agrees : (r : Past) (w : World) (q p : QueuePair) (us : List Update) → ((n : QueueId) → queue_eq q.queue n ≡ false → ExplainedInSlot (queue_past r n) (w.queue n)) → r.at_hand.fired ≡ None → r.at_hand.arrival ≡ None
    → is_faulty (faults_of_queue r q.queue) ≡ true → (f : QueuePair) → f.queue ≡ q.queue → p.state ≡ states.Error → AreAway us → Passes r (put_all ((Queue_of q.queue := Present p) ∷ us) w) (flush_marks f)
flush-agrees r w q p us others fired arrival faulty f own error away = by (passed-flushes q.queue (flush_marks f) r (subst (λ n. AreFlushes n (flush_marks f)) own (flush-flushes f)) (or-left _ _ faulty))
  where
    s : Past
    s = after_marks (flush_marks f) r

    none_fired : (o : Option QueueId) → o ≡ None → IfSome o (λ n. n ≡ q.queue)
    none_fired None is = record {}
    none_fired (Some x) is = absurd (true≢false (ap is_some is))

    none_arrived : (o : Option Arrival) → o ≡ None → IfSome o (λ a. a.target ≡ q.queue)
    none_arrived None is = record {}
    none_arrived (Some x) is = absurd (true≢false (ap is_some is))

    by : Passed q.queue r (flush_marks f) × (may_be_in_error s q.queue ≡ true) → Passes r (put_all ((Queue_of q.queue := Present p) ∷ us) w) (flush_marks f)
    by passed = (
      passed.0.passes,
      slots-agree (at_end s) w q.queue (Present p) [] us []
          (λ n other. subst (λ l. ExplainedInSlot l (w.queue n)) (sym (others-told r q.queue n (flush_marks f) other (none_fired r.at_hand.fired fired) (none_arrived r.at_hand.arrival arrival) (keeps-bare r s passed.0.same) passed.0.keeps)) (others n other))
          (explained-error (queue_past (at_end s) q.queue) p error (faulty-end s q.queue passed.1)) (record {}) away,
    )
