-- What befell a queue pair stays told, and marks tell what befalls one. For proofs only.
use Rattle.std.proofs.Common.{◌≡◌, ℕ, ◌⊎◌, inl, inr, ◌&&◌, ◌||◌, ◌++◌, not, Bool, true, false, if◌then◌else◌, List, [], ◌∷◌, Option, None, Some, is_some, slice_get, refl, ap, sym, subst, ◌∙◌, true≢false}
use Rattle.std.proofs.lemmas.Bool.{and_parts}
use Rattle.std.proofs.lemmas.Option.{same_Some}
use Rattle.std.specs.List.{list_all, list_any}
use Rattle.std.specs.Option.{option_map_or}
use Rattle.ca_law_endings.proofs.InnerLemmas.{AreInner, IsInnerMark}
use Rattle.ca_law_keys.proofs.Posts.GrantLemmas.{both-true}
use Rattle.ca_base.specs.Equal.{status_eq}
use Rattle.ca_base.specs.declared.change.Change.{Change}
use Rattle.ca_base.specs.declared.change.Change.TheVariants as changes
use Rattle.ca_base.specs.declared.completion.Completion.{Completion}
use Rattle.ca_base.specs.declared.completion.WcStatus.TheVariants.{Flushed}
use Rattle.ca_base.specs.declared.correspondent.Correspondent.{Correspondent}
use Rattle.ca_base.specs.declared.refusals.OpRefusal.{OpRefusal}
use Rattle.ca_law_caused.proofs.Caused.PassLemmas.{faults-own, or-right}
use Rattle.ca_law_caused.proofs.Caused.StoryLemmas.{AreFlushes}
use Rattle.ca_keys.specs.Numbers.{queue_of}
use Rattle.ca_keys.specs.declared.names.QueueId.{QueueId}
use Rattle.ca_model.specs.Caused.{makes_invalid}
use Rattle.ca_model.specs.Packets.{is_response}
use Rattle.ca_model.specs.Past.{Arrival, DeniedAccess, ErrorByVerb, Fault, Past, Unmarked, after_change, after_mark, after_marks, after_verb, arrived_at_hand, at_begin, at_end, correspondent_eq, faults_after, faults_at_end, faults_of, is_denial, is_unmarked_at_hand, present_incarnation}
use Rattle.ca_model.specs.declared.answer.Answer.{Answer}
use Rattle.ca_model.specs.declared.answer.Answer.TheVariants as answers
use Rattle.ca_model.specs.declared.event.Event.{Event}
use Rattle.ca_model.specs.declared.mark.Mark.{Mark}
use Rattle.ca_model.specs.declared.mark.Mark.TheVariants as marks
use Rattle.ca_model.specs.declared.verb.Verb.{Verb}
use Rattle.ca_model.specs.declared.verb.Verb.TheVariants as verbs
use Rattle.ca_law_once.proofs.Once.MailTolds.{correspondent-path}

-- nothing stands in an empty list
pub none-at : {A : Type 0} (xs : List A) (k : ℕ) (x : A) → xs ≡ [] → slice_get xs k ≡ Some x → ⊥
none-at xs k x none is = true≢false (sym (ap is_some (sym (ap (λ ys. slice_get ys k) none) ∙ is)))

-- all that befell a queue pair in one past befell it in another
abbrev pub Befall : Past → Past → Type 0
Befall p r = (l : Correspondent) (test : Fault → Bool) → list_any test (p.faults l) ≡ true → list_any test (r.faults l) ≡ true

pub any-behind : (test : Fault → Bool) (xs ys : List Fault) → list_any test ys ≡ true → list_any test (xs ++ ys) ≡ true
any-behind test [] ys is = is
any-behind test (x ∷ xs) ys is = or-right (test x) _ (any-behind test xs ys is)

after-befall : (p : Past) (q : QueueId) (fs : List Fault) (l : Correspondent) (test : Fault → Bool) → list_any test (p.faults l) ≡ true → list_any test (faults_after p q fs l) ≡ true
after-befall p q fs l test is = by (correspondent_eq (present_incarnation p q) l) refl
  where
    by : (b : Bool) → correspondent_eq (present_incarnation p q) l ≡ b → list_any test (if b then fs ++ p.faults (present_incarnation p q) else p.faults l) ≡ true
    by true e = any-behind test fs (p.faults (present_incarnation p q)) (subst (λ x. list_any test (p.faults x) ≡ true) (sym (correspondent-path (present_incarnation p q) l e)) is)
    by false e = is

change-befall : (q : QueueId) (change : Change) (p : Past) → Befall p (after_change q change p)
change-befall q changes.Reset p l test is = is
change-befall q changes.Init p l test is = is
change-befall q (changes.Rtr peer incarnation psn mtu rnr_code) p l test is = is
change-befall q (changes.Rts psn retry rnr_retry reads) p l test is = is
change-befall q changes.Sqd p l test is = is
change-befall q changes.Resume p l test is = is
change-befall q changes.Error p l test is = after-befall p q (ErrorByVerb ∷ []) l test is

verb-befall : (verb : Verb) (answer : Answer) (p : Past) → Befall p (after_verb verb answer p)
verb-befall (verbs.AllocPd domain) answer p l test is = is
verb-befall (verbs.DeallocPd domain) answer p l test is = is
verb-befall (verbs.RegMr slot buffer offset count rights) answer p l test is = is
verb-befall (verbs.AllocMr slot pages) answer p l test is = is
verb-befall (verbs.DeregMr slot) answer p l test is = is
verb-befall (verbs.AllocMw slot kind) answer p l test is = is
verb-befall (verbs.DeallocMw slot) answer p l test is = is
verb-befall (verbs.CreateCq slot capacity) answers.Fine p l test is = is
verb-befall (verbs.CreateCq slot capacity) answer p l test is = is
verb-befall (verbs.DestroyCq slot) answer p l test is = is
verb-befall (verbs.CreateSrq slot depth) answers.Fine p l test is = is
verb-befall (verbs.CreateSrq slot depth) answer p l test is = is
verb-befall (verbs.DestroySrq slot) answer p l test is = is
verb-befall (verbs.CreateQp slot send_cq recv_cq send_depth recv_depth srq) (answers.Queue number incarnation) p l test is = is
verb-befall (verbs.CreateQp slot send_cq recv_cq send_depth recv_depth srq) answer p l test is = is
verb-befall (verbs.ModifyQp slot change) answers.Fine p l test is = change-befall (queue_of slot) change p l test is
verb-befall (verbs.ModifyQp slot change) answer p l test is = is
verb-befall (verbs.QueryQp slot) answer p l test is = is
verb-befall (verbs.DestroyQp slot) answers.Fine p l test is = is
verb-befall (verbs.DestroyQp slot) answer p l test is = is
verb-befall (verbs.PostSend slot request) (answers.Posted key) p l test is = is
verb-befall (verbs.PostSend slot request) answer p l test is = is
verb-befall (verbs.PostRecv slot request) (answers.Posted key) p l test is = is
verb-befall (verbs.PostRecv slot request) answer p l test is = is
verb-befall (verbs.PostSrq slot request) (answers.Posted key) p l test is = is
verb-befall (verbs.PostSrq slot request) answer p l test is = is
verb-befall (verbs.Poll slot count least) (answers.Polled completions) p l test is = is
verb-befall (verbs.Poll slot count least) answer p l test is = is
verb-befall (verbs.Store adapter buffer offset bytes) answer p l test is = is
verb-befall (verbs.Load adapter buffer offset count) answer p l test is = is
verb-befall (verbs.Inject queue bytes) answers.Fine p l test is = is
verb-befall (verbs.Inject queue bytes) answer p l test is = is

pub mark-befall : (m : Mark) (p : Past) → Befall p (after_mark m p)
mark-befall (marks.Verb by verb answer) p l test is = verb-befall verb answer (record p { at_hand = record p.at_hand { answered = Some (record { verb = verb; answer = answer }) } }) l test is
mark-befall (marks.Granted g) p l test is = is
mark-befall (marks.Revoked adapter key) p l test is = is
mark-befall (marks.Remote queue domain envelope key kind address count verdict) p l test is = after-befall p queue (if is_denial verdict then DeniedAccess ∷ [] else []) l test is
mark-befall (marks.Local queue domain key kind address count verdict) p l test is = is
mark-befall (marks.Stored place bytes) p l test is = is
mark-befall (marks.Sent source target index request bytes) p l test is = is
mark-befall (marks.Lost target None) p l test is = is
mark-befall (marks.Lost target (Some index)) p l test is = is
mark-befall (marks.Arrived target index) p l test is = is
mark-befall (marks.Dropped target cause) p l test is = is
mark-befall (marks.Timer queue silent) p l test is = is
mark-befall (marks.Done queue x cause) p l test is = after-befall p x.queue (faults_of x) l test is

pub marks-befall : (ms : List Mark) (p : Past) → Befall p (after_marks ms p)
marks-befall [] p l test is = is
marks-befall (m ∷ ms) p l test is = marks-befall ms (after_mark m p) l test (mark-befall m p l test is)

-- a past with another packet that arrived
abbrev pub with_arrival : Option Arrival → Past → Past
with_arrival o s = record s { at_hand = record s.at_hand { arrival = o } }

pub end-befall : (s : Past) → Befall s (at_end s)
end-befall s l test is = by s.at_hand.arrival
  where
    by : (o : Option Arrival) → list_any test (faults_at_end (with_arrival o s) l) ≡ true
    by None = is
    by (Some a) = one (is_unmarked_at_hand (with_arrival (Some a) s) a.target)
      where
        one : (b : Bool) → list_any test ((if b then faults_after (with_arrival (Some a) s) a.target (Unmarked ∷ []) else s.faults) l) ≡ true
        one true = after-befall (with_arrival (Some a) s) a.target (Unmarked ∷ []) l test is
        one false = is

-- what an event leaves
abbrev pub left_by : Past → Event → List Mark → Past
left_by past event ms = at_end (after_marks ms (at_begin event past))

pub event-befall : (past : Past) (event : Event) (ms : List Mark) → Befall past (left_by past event ms)
event-befall past event ms l test is = end-befall (after_marks ms (at_begin event past)) l test (marks-befall ms (at_begin event past) l test is)

-- ---- what marks tell

-- the mark tells that this befell a queue pair
abbrev pub TellsFault : QueueId → Fault → Mark → Type 0
TellsFault n f (marks.Done queue x cause) = (x.queue ≡ n) × (faults_of x ≡ f ∷ [])
TellsFault n f (marks.Remote queue domain envelope key kind address count verdict) = (queue ≡ n) × (is_denial verdict ≡ true) × (f ≡ DeniedAccess)
TellsFault n f m = ⊥

-- one of these marks does
abbrev pub TellFault : QueueId → Fault → List Mark → Type 0
TellFault n f [] = ⊥
TellFault n f (m ∷ ms) = TellsFault n f m ⊎ TellFault n f ms

pub tell-behind : (n : QueueId) (f : Fault) (ms ns : List Mark) → TellFault n f ns → TellFault n f (ms ++ ns)
tell-behind n f [] ns tells = tells
tell-behind n f (m ∷ ms) ns tells = inr (tell-behind n f ms ns tells)

pub tell-before : (n : QueueId) (f : Fault) (ms ns : List Mark) → TellFault n f ms → TellFault n f (ms ++ ns)
tell-before n f [] ns tells = absurd tells
tell-before n f (m ∷ ms) ns (inl here) = inl here
tell-before n f (m ∷ ms) ns (inr later) = inr (tell-before n f ms ns later)

-- so it befell it
told-one : (n : QueueId) (f : Fault) (test : Fault → Bool) (m : Mark) (p : Past) → test f ≡ true → TellsFault n f m → list_any test ((after_mark m p).faults (present_incarnation p n)) ≡ true
told-one n f test (marks.Done queue x cause) p is tells = ap (list_any test) (faults-own p x.queue n (faults_of x) tells.0)
    ∙ ap (λ fs. list_any test (fs ++ p.faults (present_incarnation p n))) tells.1 ∙ ap (λ b. b || list_any test (p.faults (present_incarnation p n))) is
told-one n f test (marks.Remote queue domain envelope key kind address count verdict) p is tells =
    ap (list_any test) (faults-own p queue n (if is_denial verdict then DeniedAccess ∷ [] else []) tells.0)
    ∙ ap (λ b. list_any test ((if b then DeniedAccess ∷ [] else []) ++ p.faults (present_incarnation p n))) tells.1
    ∙ ap (λ b. b || list_any test (p.faults (present_incarnation p n))) (ap test (sym tells.2) ∙ is)
told-one n f test (marks.Verb by verb answer) p is tells = absurd tells
told-one n f test (marks.Granted g) p is tells = absurd tells
told-one n f test (marks.Revoked adapter key) p is tells = absurd tells
told-one n f test (marks.Local queue domain key kind address count verdict) p is tells = absurd tells
told-one n f test (marks.Stored place bytes) p is tells = absurd tells
told-one n f test (marks.Sent source target index request bytes) p is tells = absurd tells
told-one n f test (marks.Lost target index) p is tells = absurd tells
told-one n f test (marks.Arrived target index) p is tells = absurd tells
told-one n f test (marks.Dropped target cause) p is tells = absurd tells
told-one n f test (marks.Timer queue silent) p is tells = absurd tells

-- a mark that is no answer leaves incarnations
abbrev pub IsNoAnswer : Mark → Type 0
IsNoAnswer (marks.Verb by verb answer) = ⊥
IsNoAnswer m = Unit {0}

abbrev pub AreNoAnswers : List Mark → Type 0
AreNoAnswers [] = Unit {0}
AreNoAnswers (m ∷ ms) = IsNoAnswer m × AreNoAnswers ms

no-answer-one : (m : Mark) (p : Past) → IsNoAnswer m → (after_mark m p).incarnation ≡ p.incarnation
no-answer-one (marks.Verb by verb answer) p none = absurd none
no-answer-one (marks.Granted g) p none = refl
no-answer-one (marks.Revoked adapter key) p none = refl
no-answer-one (marks.Remote queue domain envelope key kind address count verdict) p none = refl
no-answer-one (marks.Local queue domain key kind address count verdict) p none = refl
no-answer-one (marks.Stored place bytes) p none = refl
no-answer-one (marks.Sent source target index request bytes) p none = refl
no-answer-one (marks.Lost target None) p none = refl
no-answer-one (marks.Lost target (Some index)) p none = refl
no-answer-one (marks.Arrived target index) p none = refl
no-answer-one (marks.Dropped target cause) p none = refl
no-answer-one (marks.Timer queue silent) p none = refl
no-answer-one (marks.Done queue x cause) p none = refl

pub no-answers-lives : (ms : List Mark) (p : Past) → AreNoAnswers ms → (after_marks ms p).incarnation ≡ p.incarnation
no-answers-lives [] p none = refl
no-answers-lives (m ∷ ms) p none = no-answers-lives ms (after_mark m p) none.1 ∙ no-answer-one m p none.0

inner-no-answer : (m : Mark) → IsInnerMark m → IsNoAnswer m
inner-no-answer (marks.Verb by verb answer) inner = inner
inner-no-answer (marks.Granted g) inner = record {}
inner-no-answer (marks.Revoked adapter key) inner = record {}
inner-no-answer (marks.Remote queue domain envelope key kind address count verdict) inner = record {}
inner-no-answer (marks.Local queue domain key kind address count verdict) inner = record {}
inner-no-answer (marks.Stored place bytes) inner = record {}
inner-no-answer (marks.Sent source target index request bytes) inner = record {}
inner-no-answer (marks.Lost target index) inner = record {}
inner-no-answer (marks.Arrived target index) inner = record {}
inner-no-answer (marks.Dropped target cause) inner = record {}
inner-no-answer (marks.Timer queue silent) inner = record {}
inner-no-answer (marks.Done queue x cause) inner = record {}

pub inner-no-answers : (ms : List Mark) → AreInner ms → AreNoAnswers ms
inner-no-answers [] inner = record {}
inner-no-answers (m ∷ ms) inner = (inner-no-answer m inner.0, inner-no-answers ms inner.1)

pub no-answers-append : (ms ns : List Mark) → AreNoAnswers ms → AreNoAnswers ns → AreNoAnswers (ms ++ ns)
no-answers-append [] ns one other = other
no-answers-append (m ∷ ms) ns one other = (one.0, no-answers-append ms ns one.1 other)

pub told-fault : (n : QueueId) (f : Fault) (test : Fault → Bool) (ms : List Mark) (p : Past) → test f ≡ true → AreNoAnswers ms → TellFault n f ms
    → list_any test ((after_marks ms p).faults (present_incarnation p n)) ≡ true
told-fault n f test [] p is none tells = absurd tells
told-fault n f test (m ∷ ms) p is none (inl here) = marks-befall ms (after_mark m p) (present_incarnation p n) test (told-one n f test m p is here)
told-fault n f test (m ∷ ms) p is none (inr later) = subst (λ i. list_any test ((after_marks ms (after_mark m p)).faults (record { queue = n; incarnation = i n })) ≡ true) (no-answer-one m p none.0)
    (told-fault n f test ms (after_mark m p) is none.1 later)

-- ---- requests without a mark of their own

all-more : (test : Completion → Bool) (xs : List Completion) (x : Completion) → list_all test xs ≡ true → test x ≡ true → list_all test (xs ++ (x ∷ [])) ≡ true
all-more test [] x all one = both-true (test x) true one refl
all-more test (y ∷ ys) x all one = both-true (test y) _ (and_parts (test y) _ all).0 (all-more test ys x (and_parts (test y) _ all).1 one)

unmarked-more : (name queue : QueueId) (x : Completion) (cause : Option OpRefusal) (r : Past) → status_eq x.status Flushed ≡ true → is_unmarked_at_hand r name ≡ true → is_unmarked_at_hand (after_mark (marks.Done queue x cause) r) name ≡ true
unmarked-more name queue x cause r flushed is = both-true front _ (and_parts front _ is).0 (all-more (λ c. status_eq c.status Flushed) r.at_hand.completed x (and_parts front _ is).1 flushed)
  where
    front : Bool
    front = option_map_or (λ p. not (is_response p.opcode)) (arrived_at_hand r name) false && not r.at_hand.used_remotely && not r.at_hand.used_list

-- flushes leave it so
pub record Flushes (name : QueueId) (r s : Past) : Type 0 where
  pub incarnation : s.incarnation ≡ r.incarnation
  pub arrival : s.at_hand.arrival ≡ r.at_hand.arrival
  pub unmarked : is_unmarked_at_hand r name ≡ true → is_unmarked_at_hand s name ≡ true

pub flushed-past : (name : QueueId) (ms : List Mark) (r : Past) → AreFlushes name ms → Flushes name r (after_marks ms r)
flushed-past name [] r flushes = record { incarnation = refl; arrival = refl; unmarked = λ is. is }
flushed-past name (marks.Done queue x cause ∷ ms) r flushes = let rest = flushed-past name ms (after_mark (marks.Done queue x cause) r) flushes.1 in record {
  incarnation = rest.incarnation;
  arrival = rest.arrival;
  unmarked = λ is. rest.unmarked (unmarked-more name queue x cause r (ap (λ s. status_eq s Flushed) flushes.0.1) is);
}
flushed-past name (marks.Verb by verb answer ∷ ms) r flushes = absurd flushes.0
flushed-past name (marks.Remote queue domain envelope key kind address count verdict ∷ ms) r flushes = absurd flushes.0
flushed-past name (marks.Local queue domain key kind address count verdict ∷ ms) r flushes = absurd flushes.0
flushed-past name (marks.Granted g ∷ ms) r flushes = absurd flushes.0
flushed-past name (marks.Revoked adapter key ∷ ms) r flushes = absurd flushes.0
flushed-past name (marks.Stored place bytes ∷ ms) r flushes = absurd flushes.0
flushed-past name (marks.Sent source target index request bytes ∷ ms) r flushes = absurd flushes.0
flushed-past name (marks.Lost target index ∷ ms) r flushes = absurd flushes.0
flushed-past name (marks.Arrived target index ∷ ms) r flushes = absurd flushes.0
flushed-past name (marks.Dropped target cause ∷ ms) r flushes = absurd flushes.0
flushed-past name (marks.Timer queue silent ∷ ms) r flushes = absurd flushes.0

-- at the end it befell the queue pair
pub unmarked-end : (s : Past) (name : QueueId) (index : Option ℕ) → s.at_hand.arrival ≡ Some (record { target = name; index = index }) → is_unmarked_at_hand s name ≡ true
    → list_any makes_invalid ((at_end s).faults (present_incarnation s name)) ≡ true
unmarked-end s name index arrival is = by s.at_hand.arrival arrival is
  where
    by : (o : Option Arrival) → o ≡ Some (record { target = name; index = index }) → is_unmarked_at_hand (with_arrival o s) name ≡ true → list_any makes_invalid (faults_at_end (with_arrival o s) (present_incarnation s name)) ≡ true
    by None e is = absurd (true≢false (sym (ap is_some e)))
    by (Some a) e is = subst (λ n. list_any makes_invalid ((if is_unmarked_at_hand t n then faults_after t n (Unmarked ∷ []) else s.faults) (present_incarnation s name)) ≡ true)
        (sym (ap (λ (x : Arrival). x.target) (same_Some a (record { target = name; index = index }) e)))
        (ap (λ b. list_any makes_invalid ((if b then faults_after t name (Unmarked ∷ []) else s.faults) (present_incarnation s name))) is
        ∙ ap (list_any makes_invalid) (faults-own t name name (Unmarked ∷ []) refl))
      where
        t : Past
        t = with_arrival (Some a) s
