-- Fields: the numbers and the rights that the words of a line begin with. The definitions of verbs, answers and lines
-- cite it, and no contract does.
use Rattle.std.specs.Prelude.{ℕ, List, Option, Some}
use Rattle.ca_keys.specs.declared.rights.Rights.{Rights}
use Rattle.ca_trace_lex.specs.Words.{field, number_in, rights_in, max_u8, max_u16, max_u32, max_u64}

-- the words behind those that were read
abbrev pub Words : Type 0
Words = List (List ℕ)

abbrev pub u8_in : List ℕ → Option ℕ
u8_in w = number_in max_u8 w

abbrev pub u16_in : List ℕ → Option ℕ
u16_in w = number_in max_u16 w

abbrev pub u32_in : List ℕ → Option ℕ
u32_in w = number_in max_u32 w

abbrev pub u64_in : List ℕ → Option ℕ
u64_in w = number_in max_u64 w

-- the rights at the front
abbrev pub rights_at : Words → Option (Rights × Words)
rights_at ws = field (λ w. Some (rights_in w)) ws
