-- No message that was posted is longer than the limit. For proofs only.
use Rattle.std.proofs.Common.{◌≡◌, ℕ, zero, suc, ◌≤◌, ◌⊎◌, inl, inr, ◌++◌, Bool, true, false, if◌then◌else◌, length, List, [], ◌∷◌, Option, None, Some, is_some, slice_get, refl, ap, sym, subst, ◌∙◌, true≢false}
use Rattle.std.proofs.lemmas.Option.{same_Some}
use Rattle.ca_law_endings.proofs.FitLemmas.{plain}
use Rattle.ca_law_endings.proofs.InnerLemmas.{AreInner, own-inner}
use Rattle.ca_base.specs.Configuration.{Configuration}
use Rattle.ca_base.specs.declared.change.Change.{Change}
use Rattle.ca_base.specs.declared.change.Change.TheVariants as changes
use Rattle.ca_base.specs.declared.correspondent.Correspondent.{Correspondent}
use Rattle.ca_base.specs.declared.limits.TheConstants.{MAX_MESSAGE_BYTES}
use Rattle.ca_keys.specs.Numbers.{queue_of}
use Rattle.ca_keys.specs.declared.names.QueueId.{QueueId}
use Rattle.ca_model.specs.Entries.{EntryValue}
use Rattle.ca_model.specs.History.{ArePlain}
use Rattle.ca_model.specs.Past.{Past, Posted, after_change, after_entries, after_entry, after_mark, after_marks, after_verb, at_begin, correspondent_eq, present_incarnation}
use Rattle.ca_model.specs.Requests.{list_length, list_of}
use Rattle.ca_model.specs.declared.answer.Answer.{Answer}
use Rattle.ca_model.specs.declared.answer.Answer.TheVariants as answers
use Rattle.ca_model.specs.declared.event.Event.{Event}
use Rattle.ca_model.specs.declared.event.Event.TheVariants as events
use Rattle.ca_model.specs.declared.mark.Mark.{Mark}
use Rattle.ca_model.specs.declared.mark.Mark.TheVariants as marks
use Rattle.ca_model.specs.declared.verb.Verb.{Verb}
use Rattle.ca_model.specs.declared.verb.Verb.TheVariants as verbs
use Rattle.ca_model.specs.machine.World.{World}
use Rattle.ca_law_once.proofs.Once.NoteLemmas.{SameNotes, plain-notes}
use Rattle.ca_law_once.proofs.Once.RightLemmas.{AreRight, IsRight}
use Rattle.ca_law_once.proofs.Once.RunLemmas.{Walk}
use Rattle.ca_law_once.proofs.Once.ShapeLemmas.{Meets}

-- each message that was posted is no longer than the limit
abbrev pub AreShort : Past → Type 0
AreShort p = (own : Correspondent) (k : ℕ) (x : Posted) → slice_get (p.posted own) k ≡ Some x → list_length (list_of x.request.op) ≤ MAX_MESSAGE_BYTES

append-last : {A : Type 0} (xs : List A) (n x : A) (k : ℕ) → slice_get (xs ++ n ∷ []) k ≡ Some x → (slice_get xs k ≡ Some x) ⊎ (n ≡ x)
append-last [] n x zero is = inr (same_Some n x is)
append-last [] n x (suc k) is = absurd (true≢false (sym (ap is_some is)))
append-last (y ∷ xs) n x zero is = inl is
append-last (y ∷ xs) n x (suc k) is = append-last xs n x k is

change-short : (q : QueueId) (change : Change) (p : Past) → AreShort p → AreShort (after_change q change p)
change-short q changes.Reset p short = short
change-short q changes.Init p short = short
change-short q (changes.Rtr peer incarnation psn mtu rnr_code) p short = short
change-short q (changes.Rts psn retry rnr_retry reads) p short = short
change-short q changes.Sqd p short = short
change-short q changes.Resume p short = short
change-short q changes.Error p short = short

posted-short : (p : Past) (life own : Correspondent) (new x : Posted) (k : ℕ) → list_length (list_of new.request.op) ≤ MAX_MESSAGE_BYTES → AreShort p
    → slice_get (if correspondent_eq life own then p.posted life ++ new ∷ [] else p.posted own) k ≡ Some x → list_length (list_of x.request.op) ≤ MAX_MESSAGE_BYTES
posted-short p life own new x k fits short = by (correspondent_eq life own)
  where
    last : (slice_get (p.posted life) k ≡ Some x) ⊎ (new ≡ x) → list_length (list_of x.request.op) ≤ MAX_MESSAGE_BYTES
    last (inl is) = short life k x is
    last (inr is) = subst (λ (y : Posted). list_length (list_of y.request.op) ≤ MAX_MESSAGE_BYTES) is fits

    by : (b : Bool) → slice_get (if b then p.posted life ++ new ∷ [] else p.posted own) k ≡ Some x → list_length (list_of x.request.op) ≤ MAX_MESSAGE_BYTES
    by true is = last (append-last (p.posted life) new x k is)
    by false is = short own k x is

verb-short : (w : World) (verb : Verb) (answer : Answer) (p : Past) → IsRight w verb answer → AreShort p → AreShort (after_verb verb answer p)
verb-short w (verbs.AllocPd domain) answer p right short = short
verb-short w (verbs.DeallocPd domain) answer p right short = short
verb-short w (verbs.RegMr slot buffer offset count rights) answer p right short = short
verb-short w (verbs.AllocMr slot pages) answer p right short = short
verb-short w (verbs.DeregMr slot) answer p right short = short
verb-short w (verbs.AllocMw slot kind) answer p right short = short
verb-short w (verbs.DeallocMw slot) answer p right short = short
verb-short w (verbs.CreateCq slot capacity) answers.Fine p right short = short
verb-short w (verbs.CreateCq slot capacity) answer p right short = short
verb-short w (verbs.DestroyCq slot) answer p right short = short
verb-short w (verbs.CreateSrq slot depth) answers.Fine p right short = short
verb-short w (verbs.CreateSrq slot depth) answer p right short = short
verb-short w (verbs.DestroySrq slot) answer p right short = short
verb-short w (verbs.CreateQp slot send_cq recv_cq send_depth recv_depth srq) (answers.Queue number incarnation) p right short = short
verb-short w (verbs.CreateQp slot send_cq recv_cq send_depth recv_depth srq) answer p right short = short
verb-short w (verbs.ModifyQp slot change) answers.Fine p right short = change-short (queue_of slot) change p short
verb-short w (verbs.ModifyQp slot change) answer p right short = short
verb-short w (verbs.QueryQp slot) answer p right short = short
verb-short w (verbs.DestroyQp slot) answers.Fine p right short = short
verb-short w (verbs.DestroyQp slot) answer p right short = short
verb-short w (verbs.PostSend slot request) (answers.Posted key) p right short = λ own k x is. posted-short p (present_incarnation p (queue_of slot)) own _ x k right short is
verb-short w (verbs.PostSend slot request) answer p right short = short
verb-short w (verbs.PostRecv slot request) (answers.Posted key) p right short = short
verb-short w (verbs.PostRecv slot request) answer p right short = short
verb-short w (verbs.PostSrq slot request) (answers.Posted key) p right short = short
verb-short w (verbs.PostSrq slot request) answer p right short = short
verb-short w (verbs.Poll slot count least) (answers.Polled completions) p right short = short
verb-short w (verbs.Poll slot count least) answer p right short = short
verb-short w (verbs.Store adapter buffer offset bytes) answer p right short = short
verb-short w (verbs.Load adapter buffer offset count) answer p right short = short
verb-short w (verbs.Inject queue bytes) answers.Fine p right short = short
verb-short w (verbs.Inject queue bytes) answer p right short = short

same-short : (p r : Past) → r.posted ≡ p.posted → AreShort p → AreShort r
same-short p r same short own k x is = short own k x (ap (λ (f : Correspondent → List Posted). slice_get (f own) k) (sym same) ∙ is)

plain-short : (ms : List Mark) (p : Past) → ArePlain ms → AreShort p → AreShort (after_marks ms p)
plain-short ms p free short = same-short p (after_marks ms p) (let notes : SameNotes p (after_marks ms p) = plain-notes ms p free in notes.posted) short

event-short : (past : Past) (w : World) (event : Event) (ms : List Mark) → Meets w event ms → AreRight w ms → AreShort past → AreShort (after_marks ms (at_begin event past))
event-short past w (events.Verb by verb) [] meets right short = absurd meets.1
event-short past w (events.Verb by verb) (marks.Verb b other answer ∷ ms) meets right short = plain-short ms (after_mark (marks.Verb b other answer) (at_begin (events.Verb by verb) past)) (plain ms meets.1.1) (verb-short w other answer _ right short)
event-short past w (events.Verb by verb) (marks.Granted g ∷ ms) meets right short = absurd meets.1.0
event-short past w (events.Verb by verb) (marks.Revoked adapter key ∷ ms) meets right short = absurd meets.1.0
event-short past w (events.Verb by verb) (marks.Remote queue domain envelope key kind address count verdict ∷ ms) meets right short = absurd meets.1.0
event-short past w (events.Verb by verb) (marks.Local queue domain key kind address count verdict ∷ ms) meets right short = absurd meets.1.0
event-short past w (events.Verb by verb) (marks.Stored place bytes ∷ ms) meets right short = absurd meets.1.0
event-short past w (events.Verb by verb) (marks.Sent source target index request bytes ∷ ms) meets right short = absurd meets.1.0
event-short past w (events.Verb by verb) (marks.Lost target index ∷ ms) meets right short = absurd meets.1.0
event-short past w (events.Verb by verb) (marks.Arrived target index ∷ ms) meets right short = absurd meets.1.0
event-short past w (events.Verb by verb) (marks.Dropped target cause ∷ ms) meets right short = absurd meets.1.0
event-short past w (events.Verb by verb) (marks.Timer queue silent ∷ ms) meets right short = absurd meets.1.0
event-short past w (events.Verb by verb) (marks.Done queue x cause ∷ ms) meets right short = absurd meets.1.0
event-short past w (events.Request queue lot) ms meets right short = plain-short ms (at_begin (events.Request queue lot) past) meets.1 short
event-short past w (events.Respond queue lot) ms meets right short = plain-short ms (at_begin (events.Respond queue lot) past) meets.1 short
event-short past w (events.Timeout queue hasten) ms meets right short = plain-short ms (at_begin (events.Timeout queue hasten) past) (plain ms (own-inner ms meets)) short
event-short past w (events.RnrWake queue) ms meets right short = plain-short ms (at_begin (events.RnrWake queue) past) (plain ms (own-inner ms meets)) short
event-short past w (events.Deliver queue index) ms meets right short = plain-short ms (at_begin (events.Deliver queue index) past)
    (plain ms (subst AreInner (sym meets.are) (record {}, own-inner meets.rest meets.own))) short

pub short-along : (c : Configuration) (es : List EntryValue) (past : Past) (w : World) → Walk c past w es → AreShort past → AreShort (after_entries es past)
short-along c [] past w walk short = short
short-along c (e ∷ es) past w walk short = short-along c es (after_entry e past) walk.1.0 walk.1.2 (event-short past w e.event e.marks walk.1.1.meets walk.1.1.right short)
