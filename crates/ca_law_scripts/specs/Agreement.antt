-- What both grammars have in common: the verbs, in the same words. Contracts cite it.
use Rattle.std.specs.Prelude.{◌≡◌, ℕ, ◌==◌, Bool, true, not, ◌||◌, [], length, Ok, ◌≤◌, ◌-◌, drop}
use Rattle.ca_base.specs.declared.limits.TheConstants.{MAX_CONSUMERS}
use Rattle.ca_base.specs.declared.request.SendOp.{SendOp}
use Rattle.ca_base.specs.declared.request.SendOp.TheVariants as ops
use Rattle.ca_model.specs.declared.verb.Verb.{Verb}
use Rattle.ca_model.specs.declared.verb.Verb.TheVariants as verbs
use Rattle.ca_trace_print.specs.Verbs.{verb_words, call_words, call}
use Rattle.ca_trace_print.specs.Words.{Lettered, word, words}
use Rattle.std.specs.Int.{w32}
use Rattle.ca_script_lex.specs.Words.{words_of, is_consumer, limited}
use Rattle.ca_trace_lex.specs.Fits.{AllFit}
use Rattle.ca_script_lines.specs.Grammar.{consumer_lines}
use Rattle.ca_script_lines.specs.Rows.{read_table}
use Rattle.ca_script_lines.specs.declared.what.What.TheVariants as whats

-- a fast registration in a script names a page
abbrev pub names_pages : SendOp → Bool
names_pages (ops.FastReg region low buffer address count rights pages) = not (length pages == 0)
names_pages other = true

-- a script can say the verb: its poll waits for nothing or for all that it takes
abbrev pub is_sayable : Verb → Bool
is_sayable (verbs.Poll s n least) = (least == 0) || (least == n)
is_sayable (verbs.PostSend s request) = names_pages request.op
is_sayable other = true

-- the words of a verb in a trace are those of a line of a script that says it
abbrev pub VerbsAgree : Type 0
VerbsAgree = (v : Verb) → AllFit (verb_words v) → is_sayable v ≡ true → read_table consumer_lines (words (verb_words v)) ≡ Ok (whats.Verb v, [])

-- the line of a call in a trace, from its consumer on, is cut into its words again, of which the first names the consumer
-- and the others say the verb
abbrev pub LinesAgree : Type 0
LinesAgree = (by : ℕ) (v : Verb) → AllFit (call_words by v) → by ≤ MAX_CONSUMERS - 1 → is_sayable v ≡ true →
    (words_of (call by v) ≡ words (call_words by v))
    × (is_consumer (word (Lettered 99 w32 by)) ≡ true)
    × (limited 0 (MAX_CONSUMERS - 1) (drop 1 (word (Lettered 99 w32 by))) ≡ Ok by)
    × (read_table consumer_lines (words (verb_words v)) ≡ Ok (whats.Verb v, []))
