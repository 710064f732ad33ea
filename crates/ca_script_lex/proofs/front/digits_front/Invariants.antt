use Rattle.std.proofs.Common.{◌≡◌, drop}
use Rattle.ca_script_lex.specs.Front.{digits_front}
use Rattle.ca_script_lex.proofs.front.digits_front.Given as goal

abbrev pub invariant-digits : goal.invariant-digits
invariant-digits l = digits_front l.base l.n (drop l.i l.text) ≡ digits_front l.base 0 l.text
