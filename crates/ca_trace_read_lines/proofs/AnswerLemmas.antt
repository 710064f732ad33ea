-- An answer, a completion and what came of an access are read from their words as what they are.
use Rattle.std.proofs.Common.{◌≡◌, List, [], ◌∷◌, ◌++◌, Some, refl, arith}
use Rattle.std.specs.Prelude.{codes}
use Rattle.std.specs.Int.{w8}
use Rattle.std.proofs.lemmas.Bool.{le-leb}
use Rattle.ca_base.specs.declared.completion.Completion.{Completion}
use Rattle.ca_keys.specs.declared.verdict.Verdict.{Verdict}
use Rattle.ca_keys.specs.declared.verdict.Verdict.TheVariants as verdicts
use Rattle.ca_model.specs.declared.answer.Answer.TheVariants as answers
use Rattle.ca_trace.specs.declared.line.Told.{Told}
use Rattle.ca_trace.specs.declared.line.Told.TheVariants as told
use Rattle.ca_trace.specs.Table.{answer_words, completion_words, verdict_words}
use Rattle.ca_trace.specs.ca_trace_print.Words.{Field, Fixed, Number, words}
use Rattle.ca_trace_lex.specs.Fits.{AllFit}
use Rattle.ca_trace_lex.proofs.WordLemmas.{queue_again, key_again, hex_again, perhaps_number_again, perhaps_key_again}
use Rattle.ca_trace_lex.proofs.NameLemmas.{side_again, denial_again, state_again, operation_again as wc_op_again, status_again, refusal_again}
use Rattle.ca_trace_lex.specs.Fields.{Words}
use Rattle.ca_trace_read_lines.specs.Answers.{IsTold, state_at, polled_at, answer_at, completion_at, verdict_at}
use Rattle.ca_trace_lex.proofs.FieldLemmas.{u8, u16, u32, u64}

-- the words of what the line of a call tells of its answer, behind the arrow
abbrev pub tail_words : Told → List Field
tail_words (told.Whole answer) = answer_words answer
tail_words (told.Polled n) = Fixed (codes "polled") ∷ Number w8 n ∷ []

pub answer_again : (t : Told) → IsTold t → AllFit (tail_words t) → answer_at (words (tail_words t)) ≡ Some (t, [])
unfolding answer_at polled_at state_at
answer_again (told.Whole answers.Fine) g h = refl
answer_again (told.Whole (answers.Key k)) g h = rw (key_again k h.1.0) refl
answer_again (told.Whole (answers.Queue n i)) g h = rw (u32 n h.1.0, u32 i h.1.1.0) refl
answer_again (told.Whole (answers.Posted k)) g h = rw (perhaps_key_again k h.1.0) refl
answer_again (told.Whole (answers.Query s i a b)) g h = rw (state_again s, u32 i h.1.1.0, u16 a h.1.1.1.0, u16 b h.1.1.1.1.0) refl
answer_again (told.Whole (answers.Loaded bs)) g h = rw (hex_again bs h.1.0) refl
answer_again (told.Whole (answers.Refused r)) g h = rw (refusal_again r) refl
answer_again (told.Whole (answers.Polled completions)) g h = absurd g
answer_again (told.Polled n) g h = rw (u8 n h.1.0, le-leb n 16 g) refl

pub completion_again : (c : Completion) (rest : Words) → AllFit (completion_words c) → completion_at (words (completion_words c) ++ rest) ≡ Some (c, rest)
unfolding completion_at
completion_again c rest h = rw (queue_again c.queue h.0, side_again c.receive, u64 c.place h.1.1.0, u64 c.id h.1.1.1.0, wc_op_again c.op, status_again c.status, u32 c.bytes h.1.1.1.1.1.1.0, perhaps_number_again 4294967295 c.imm (omega arith) h.1.1.1.1.1.1.1.0, perhaps_key_again c.invalidated h.1.1.1.1.1.1.1.1.0) refl

pub verdict_again : (v : Verdict) → AllFit (verdict_words v) → verdict_at (words (verdict_words v)) ≡ Some (v, [])
unfolding verdict_at
verdict_again (verdicts.Read bs) h = rw (hex_again bs h.1.0) refl
verdict_again (verdicts.Wrote bs) h = rw (hex_again bs h.1.0) refl
verdict_again (verdicts.Swapped a b) h = rw (u64 a h.1.0, u64 b h.1.1.1.0) refl
verdict_again (verdicts.Denied d) h = rw (denial_again d) refl
