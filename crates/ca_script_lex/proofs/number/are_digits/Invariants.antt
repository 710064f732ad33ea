use Rattle.std.proofs.Common.{◌≡◌, drop}
use Rattle.std.specs.Char.{is_digit}
use Rattle.std.specs.List.{list_all}
use Rattle.ca_script_lex.proofs.number.are_digits.Given as goal

abbrev pub invariant-loop-c : goal.invariant-loop-c
invariant-loop-c l = list_all (λ c. is_digit c l.base) (drop l.c-index l.word) ≡ list_all (λ c. is_digit c l.base) l.word
