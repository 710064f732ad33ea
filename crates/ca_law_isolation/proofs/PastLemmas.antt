-- What marks leave of grants in force and of memory: what they grant and what they write. For proofs only.
use Rattle.std.proofs.Common.{◌≡◌, ◌∙◌, Bool, true, false, if◌then◌else◌, List, [], ◌∷◌, filter, length, None, Some, ap, refl, subst, sym}
use Rattle.std.proofs.lemmas.List.{append-nil}
use Rattle.std.specs.List.{AllByRecursion, flat_map}
use Rattle.ca_base.specs.declared.limits.TheConstants.{ATOMIC_BYTES}
use Rattle.ca_base.specs.declared.change.Change.{Change}
use Rattle.ca_base.specs.declared.change.Change.TheVariants as changes
use Rattle.ca_isolation.proofs.StretchLemmas.{stored-append, stores-write}
use Rattle.ca_isolation.specs.Alone.{memory_stored, run_of_stretch, stretches_of_marks, stretches_of_write, writes_of}
use Rattle.ca_keys.specs.Memory.{ByteMap, little_endian_bytes, memory_after, runs_for}
use Rattle.ca_keys.specs.declared.grant.Grant.{Grant}
use Rattle.ca_keys.specs.declared.place.Place.{Place}
use Rattle.ca_keys.specs.declared.verdict.Verdict.TheVariants as verdicts
use Rattle.ca_model.specs.Past.{Past, after_change, after_mark, after_marks, after_verb, local_ask, remote_ask}
use Rattle.ca_model.specs.declared.answer.Answer.{Answer}
use Rattle.ca_model.specs.declared.answer.Answer.TheVariants as answers
use Rattle.ca_model.specs.declared.mark.Mark.{Mark}
use Rattle.ca_model.specs.declared.mark.Mark.TheVariants as marks
use Rattle.ca_model.specs.declared.verb.Verb.{Verb}
use Rattle.ca_model.specs.declared.verb.Verb.TheVariants as verbs
use Rattle.ca_keys.specs.Numbers.{queue_of}
use Rattle.ca_keys.specs.declared.names.Slot.{Slot}
use Rattle.ca_model.specs.machine.Plan.{Write}

-- the grants in force and memory are the same
record IsStill (p q : Past) : Type 0 where
  grants : q.grants ≡ p.grants
  memory : q.memory ≡ p.memory

still : (p : Past) → IsStill p p
still p = record { grants = refl; memory = refl }

change-still : (slot : Slot) (change : Change) (p : Past) → IsStill p (after_change (queue_of slot) change p)
change-still slot changes.Reset p = record { grants = refl; memory = refl }
change-still slot changes.Init p = still p
change-still slot (changes.Rtr peer incarnation psn mtu rnr_code) p = record { grants = refl; memory = refl }
change-still slot (changes.Rts psn retry rnr_retry reads) p = record { grants = refl; memory = refl }
change-still slot changes.Sqd p = still p
change-still slot changes.Resume p = still p
change-still slot changes.Error p = record { grants = refl; memory = refl }

-- a verb's answer tells of no byte and of no key
verb-still : (verb : Verb) (answer : Answer) (p : Past) → IsStill p (after_verb verb answer p)
verb-still (verbs.CreateQp slot send_cq recv_cq send_depth recv_depth srq) (answers.Queue number incarnation) p = record { grants = refl; memory = refl }
verb-still (verbs.ModifyQp slot change) answers.Fine p = change-still slot change p
verb-still (verbs.DestroyQp slot) answers.Fine p = record { grants = refl; memory = refl }
verb-still (verbs.CreateCq slot capacity) answers.Fine p = record { grants = refl; memory = refl }
verb-still (verbs.CreateSrq slot depth) answers.Fine p = record { grants = refl; memory = refl }
verb-still (verbs.PostSend slot request) (answers.Posted key) p = record { grants = refl; memory = refl }
verb-still (verbs.PostRecv slot request) (answers.Posted key) p = record { grants = refl; memory = refl }
verb-still (verbs.PostSrq slot request) (answers.Posted key) p = record { grants = refl; memory = refl }
verb-still (verbs.Poll slot n least) (answers.Polled completions) p = record { grants = refl; memory = refl }
verb-still (verbs.Inject queue bytes) answers.Fine p = record { grants = refl; memory = refl }
verb-still verb answer p = still p

-- ---- grants

-- what a mark grants has a property
abbrev pub Grants : (Grant → Type 0) → Mark → Type 0
Grants P (marks.Granted g) = P g
Grants P mark = Unit {0}

left-all : (P : Grant → Type 0) (keep : Grant → Bool) (gs : List Grant) → AllByRecursion P gs → AllByRecursion P (filter keep gs)
left-all P keep [] all = record {}
left-all P keep (g ∷ gs) all = by (keep g) (left-all P keep gs all.1)
  where
    by : (b : Bool) → AllByRecursion P (filter keep gs) → AllByRecursion P (if b then g ∷ filter keep gs else filter keep gs)
    by true rest = (all.0, rest)
    by false rest = rest

from-same : (P : Grant → Type 0) (gs hs : List Grant) → hs ≡ gs → AllByRecursion P gs → AllByRecursion P hs
from-same P gs hs same all = subst (AllByRecursion P) (sym same) all

-- what all grants in force have, and those that a mark brings, all have behind it
pub mark-grants : (P : Grant → Type 0) (m : Mark) (p : Past) → Grants P m → AllByRecursion P p.grants → AllByRecursion P (after_mark m p).grants
mark-grants P (marks.Verb by verb answer) p one all = from-same P p.grants _ (verb-still verb answer (record p { at_hand = record p.at_hand { answered = Some (record { verb = verb; answer = answer }) } })).grants all
mark-grants P (marks.Granted g) p one all = (one, all)
mark-grants P (marks.Revoked adapter key) p one all = left-all P _ p.grants all
mark-grants P (marks.Remote queue domain envelope key kind address count verdict) p one all = all
mark-grants P (marks.Local queue domain key kind address count verdict) p one all = all
mark-grants P (marks.Stored place bytes) p one all = all
mark-grants P (marks.Sent source target index request bytes) p one all = all
mark-grants P (marks.Lost target None) p one all = all
mark-grants P (marks.Lost target (Some index)) p one all = all
mark-grants P (marks.Arrived target index) p one all = all
mark-grants P (marks.Dropped target cause) p one all = all
mark-grants P (marks.Timer queue silent) p one all = all
mark-grants P (marks.Done queue x cause) p one all = all

pub marks-grants : (P : Grant → Type 0) (ms : List Mark) (p : Past) → AllByRecursion (Grants P) ms → AllByRecursion P p.grants → AllByRecursion P (after_marks ms p).grants
marks-grants P [] p brought all = all
marks-grants P (m ∷ ms) p brought all = marks-grants P ms (after_mark m p) brought.1 (mark-grants P m p brought.0 all)

-- ---- memory

-- one write, put in its place as Stores
one-stored : (cover : Place → Bool) (x : Write) (m k : ByteMap) (p : Place) → cover p ≡ true → m p ≡ k p
    → memory_stored (flat_map (stretches_of_write cover) (x ∷ [])) m p ≡ memory_after k x.runs x.bytes p
one-stored cover x m k p covered same = ap (λ ss. memory_stored ss m p) (append-nil (stretches_of_write cover x)) ∙ stores-write cover x m k p covered same

-- what a mark tells of as written is what it leaves of memory
mark-stored : (cover : Place → Bool) (x : Mark) (past : Past) (m : ByteMap) (p : Place) → cover p ≡ true → m p ≡ past.memory p
    → memory_stored (flat_map (stretches_of_write cover) (writes_of past x)) m p ≡ (after_mark x past).memory p
mark-stored cover (marks.Verb by verb answer) past m p covered same =
    same ∙ ap (λ (k : ByteMap). k p) (sym (verb-still verb answer (record past { at_hand = record past.at_hand { answered = Some (record { verb = verb; answer = answer }) } })).memory)
mark-stored cover (marks.Granted g) past m p covered same = same
mark-stored cover (marks.Revoked adapter key) past m p covered same = same
mark-stored cover (marks.Remote queue domain envelope key kind address count (verdicts.Denied denial)) past m p covered same = same
mark-stored cover (marks.Remote queue domain envelope key kind address count (verdicts.Read bytes)) past m p covered same = same
mark-stored cover (marks.Remote queue domain envelope key kind address count (verdicts.Wrote bytes)) past m p covered same = one-stored cover (record { runs = runs_for (remote_ask queue domain key kind address count) past.grants (length bytes); bytes = bytes }) m past.memory p covered same
mark-stored cover (marks.Remote queue domain envelope key kind address count (verdicts.Swapped found put)) past m p covered same = one-stored cover (record { runs = runs_for (remote_ask queue domain key kind address count) past.grants ATOMIC_BYTES; bytes = little_endian_bytes put }) m past.memory p covered same
mark-stored cover (marks.Local queue domain key kind address count (verdicts.Denied denial)) past m p covered same = same
mark-stored cover (marks.Local queue domain key kind address count (verdicts.Read bytes)) past m p covered same = same
mark-stored cover (marks.Local queue domain key kind address count (verdicts.Wrote bytes)) past m p covered same = one-stored cover (record { runs = runs_for (local_ask queue domain key kind address count) past.grants (length bytes); bytes = bytes }) m past.memory p covered same
mark-stored cover (marks.Local queue domain key kind address count (verdicts.Swapped found put)) past m p covered same = one-stored cover (record { runs = runs_for (local_ask queue domain key kind address count) past.grants ATOMIC_BYTES; bytes = little_endian_bytes put }) m past.memory p covered same
mark-stored cover (marks.Stored place bytes) past m p covered same = one-stored cover (record { runs = run_of_stretch (record { at = place; bytes = bytes }) ∷ []; bytes = bytes }) m past.memory p covered same
mark-stored cover (marks.Sent source target index request bytes) past m p covered same = same
mark-stored cover (marks.Lost target None) past m p covered same = same
mark-stored cover (marks.Lost target (Some index)) past m p covered same = same
mark-stored cover (marks.Arrived target index) past m p covered same = same
mark-stored cover (marks.Dropped target cause) past m p covered same = same
mark-stored cover (marks.Timer queue silent) past m p covered same = same
mark-stored cover (marks.Done queue x cause) past m p covered same = same

-- the Stores in the place of what marks tell of as written leave in covered bytes what the marks leave there
pub marks-stored : (cover : Place → Bool) (ms : List Mark) (past : Past) (m : ByteMap) (p : Place) → cover p ≡ true → m p ≡ past.memory p
    → memory_stored (stretches_of_marks cover past ms) m p ≡ (after_marks ms past).memory p
marks-stored cover [] past m p covered same = same
marks-stored cover (x ∷ ms) past m p covered same =
    ap (λ (k : ByteMap). k p) (stored-append (flat_map (stretches_of_write cover) (writes_of past x)) (stretches_of_marks cover (after_mark x past) ms) m)
    ∙ marks-stored cover ms (after_mark x past) (memory_stored (flat_map (stretches_of_write cover) (writes_of past x)) m) p covered (mark-stored cover x past m p covered same)
