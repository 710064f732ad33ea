-- The table of lines: the words of each turn, answer and mark, one row a kind. A call has the words of its verb, which
-- Verbs.antt of ca_trace_print lists. Contracts cite it.
use Rattle.std.specs.Prelude.{not, List, [], ◌∷◌, ◌++◌, length, codes}
use Rattle.std.specs.Int.{w8, w16, w32, w64}
use Rattle.ca_base.specs.declared.completion.Completion.{Completion}
use Rattle.ca_keys.specs.declared.grant.Grant.{Grant}
use Rattle.ca_keys.specs.declared.verdict.Verdict.{Verdict}
use Rattle.ca_keys.specs.declared.verdict.Verdict.TheVariants as verdicts
use Rattle.ca_model.specs.declared.answer.Answer.{Answer}
use Rattle.ca_model.specs.declared.answer.Answer.TheVariants as answers
use Rattle.ca_model.specs.declared.event.Event.{Event}
use Rattle.ca_model.specs.declared.event.Event.TheVariants as events
use Rattle.ca_model.specs.declared.mark.Mark.{Mark}
use Rattle.ca_model.specs.declared.mark.Mark.TheVariants as marks
use Rattle.ca_trace_print.specs.Verbs.{call_words}
use Rattle.ca_trace_print.specs.Words.{Field, Fixed, Number, Perhaps, InAdapter, OfDomain, OfQueue, OfQueues, OfKey, PerhapsKey, Address, Hex, OfRights, OfRuns, OfObject, OfSide, OfAlarm, OfKind, OfDenial, OfRefusal, OfLot, OfState, OfOperation, OfStatus, OfCause, OfDrop}

-- a call, or a turn
abbrev pub event_words : Event → List Field
event_words (events.Verb by verb) = call_words by verb
event_words (events.Request q lot) = Fixed (codes "request") ∷ OfQueue q ∷ OfLot lot ∷ []
event_words (events.Deliver q index) = Fixed (codes "deliver") ∷ OfQueue q ∷ Number w64 index ∷ []
event_words (events.Respond q lot) = Fixed (codes "respond") ∷ OfQueue q ∷ OfLot lot ∷ []
event_words (events.Timeout q hasten) = Fixed (codes "timeout") ∷ OfQueue q ∷ OfAlarm (not hasten) ∷ []
event_words (events.RnrWake q) = Fixed (codes "wake") ∷ OfQueue q ∷ []

-- what a verb answered; the completions that a poll gave have lines of their own
abbrev pub answer_words : Answer → List Field
answer_words answers.Fine = Fixed (codes "ok") ∷ []
answer_words (answers.Key k) = Fixed (codes "key") ∷ OfKey k ∷ []
answer_words (answers.Queue number incarnation) = Fixed (codes "qp") ∷ Number w32 number ∷ Number w32 incarnation ∷ []
answer_words (answers.Posted key) = Fixed (codes "posted") ∷ PerhapsKey key ∷ []
answer_words (answers.Polled completions) = Fixed (codes "polled") ∷ Number w8 (length completions) ∷ []
answer_words (answers.Query state incarnation sends receives) =
    Fixed (codes "state") ∷ OfState state ∷ Number w32 incarnation ∷ Number w16 sends ∷ Number w16 receives ∷ []
answer_words (answers.Loaded bytes) = Fixed (codes "bytes") ∷ Hex bytes ∷ []
answer_words (answers.Refused refusal) = Fixed (codes "refused") ∷ OfRefusal refusal ∷ []

-- the words of an answer, behind those of its call
abbrev pub told_words : Answer → List Field
told_words answer = Fixed (codes "->") ∷ answer_words answer

-- a completion
abbrev pub completion_words : Completion → List Field
completion_words c =
    OfQueue c.queue ∷ OfSide c.receive ∷ Number w64 c.place ∷ Number w64 c.id ∷ OfOperation c.op ∷ OfStatus c.status
    ∷ Number w32 c.bytes ∷ Perhaps w32 c.imm ∷ PerhapsKey c.invalidated ∷ []

-- a completion that a poll gave
abbrev pub got_words : Completion → List Field
got_words c = Fixed (codes "got") ∷ completion_words c

-- what came of an access
abbrev pub verdict_words : Verdict → List Field
verdict_words (verdicts.Read bytes) = Fixed (codes "read") ∷ Hex bytes ∷ []
verdict_words (verdicts.Wrote bytes) = Fixed (codes "wrote") ∷ Hex bytes ∷ []
verdict_words (verdicts.Swapped found put) = Fixed (codes "found") ∷ Number w64 found ∷ Fixed (codes "put") ∷ Number w64 put ∷ []
verdict_words (verdicts.Denied denial) = Fixed (codes "denied") ∷ OfDenial denial ∷ []

-- a key that came into force
abbrev pub granted_words : Grant → List Field
granted_words g =
    Fixed (codes "granted") ∷ OfDomain g.domain ∷ OfKey g.key ∷ OfObject g.local ∷ OfQueues g.queue ∷ Address g.address
    ∷ Number w32 g.length ∷ OfRights g.rights ∷ OfRuns g.runs ∷ []

-- a mark; an answer has the words that stand behind its call
abbrev pub mark_words : Mark → List Field
mark_words (marks.Verb by verb answer) = told_words answer
mark_words (marks.Granted g) = granted_words g
mark_words (marks.Revoked adapter key) = Fixed (codes "revoked") ∷ Number w8 adapter ∷ OfKey key ∷ []
mark_words (marks.Remote q domain envelope key kind address count verdict) =
    Fixed (codes "remote") ∷ OfQueue q ∷ OfDomain domain ∷ Perhaps w64 envelope ∷ OfKey key ∷ OfKind kind ∷ Address address
    ∷ Number w32 count ∷ verdict_words verdict
mark_words (marks.Local q domain key kind address count verdict) =
    Fixed (codes "local") ∷ OfQueue q ∷ OfDomain domain ∷ OfKey key ∷ OfKind kind ∷ Address address ∷ Number w32 count
    ∷ verdict_words verdict
mark_words (marks.Stored place bytes) =
    Fixed (codes "stored") ∷ InAdapter place.adapter w16 place.buffer ∷ Number w32 place.offset ∷ Hex bytes ∷ []
mark_words (marks.Sent source target index request bytes) =
    Fixed (codes "sent") ∷ OfQueue source ∷ OfQueue target ∷ Perhaps w64 index ∷ Perhaps w64 request ∷ Hex bytes ∷ []
mark_words (marks.Lost target index) = Fixed (codes "lost") ∷ OfQueue target ∷ Perhaps w64 index ∷ []
mark_words (marks.Arrived target index) = Fixed (codes "arrived") ∷ OfQueue target ∷ Perhaps w64 index ∷ []
mark_words (marks.Dropped target cause) = Fixed (codes "dropped") ∷ OfQueue target ∷ OfDrop cause ∷ []
mark_words (marks.Timer q silent) = Fixed (codes "timer") ∷ OfQueue q ∷ OfAlarm silent ∷ []
mark_words (marks.Done q completion cause) = Fixed (codes "done") ∷ completion_words completion ++ OfCause cause ∷ []
