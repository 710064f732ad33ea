-- The spelling of each cause of a refusal. Contracts cite it.
use Rattle.std.specs.Prelude.{ℕ, List, codes}
use Rattle.ca_script_lex.specs.declared.cause.ScriptCause.{ScriptCause}
use Rattle.ca_script_lex.specs.declared.cause.ScriptCause.TheVariants.{TooLarge, NotText, UnknownWord, SetupLate, Missing, BadName, BadHex, BadNumber, OutOfLimit, Extra}

abbrev pub cause_text : ScriptCause → List ℕ
cause_text TooLarge = codes "too large"
cause_text NotText = codes "not text"
cause_text UnknownWord = codes "unknown word"
cause_text SetupLate = codes "setup late"
cause_text Missing = codes "missing"
cause_text BadName = codes "bad name"
cause_text BadHex = codes "bad hex"
cause_text BadNumber = codes "bad number"
cause_text OutOfLimit = codes "out of limit"
cause_text Extra = codes "extra"
