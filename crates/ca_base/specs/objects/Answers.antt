-- The response queue of a queue pair: the answers that wait, from its front. Contracts cite it.
use Rattle.std.specs.Prelude.{ℕ, ◌&&◌, nat_le, nat_lt, Bool, true, false, not, if◌then◌else◌, List, [], ◌∷◌, filter, length}
use Rattle.std.specs.List.{list_any}
use Rattle.ca_base.specs.declared.queue_numbers.Queued.{Queued}
use Rattle.ca_base.specs.declared.queue_numbers.Queued.TheVariants as queued

-- the PSN of a queued answer: of a READ that of its next response
abbrev pub psn_of_answer : Queued → ℕ
psn_of_answer (queued.Ack psn) = psn
psn_of_answer (queued.Rnr psn) = psn
psn_of_answer (queued.Nak psn code) = psn
psn_of_answer (queued.Read psn key address left first envelope duplicate) = psn
psn_of_answer (queued.Atomic psn found duplicate) = psn

abbrev pub is_ack : Queued → Bool
is_ack (queued.Ack psn) = true
is_ack answer = false

abbrev pub is_nak : Queued → Bool
is_nak (queued.Rnr psn) = true
is_nak (queued.Nak psn code) = true
is_nak answer = false

-- a READ or an atomic for the first time
abbrev pub is_fresh_answer : Queued → Bool
is_fresh_answer (queued.Read psn key address left first envelope duplicate) = not duplicate
is_fresh_answer (queued.Atomic psn found duplicate) = not duplicate
is_fresh_answer answer = false

-- a READ or an atomic once more
abbrev pub is_duplicate_answer : Queued → Bool
is_duplicate_answer (queued.Read psn key address left first envelope duplicate) = duplicate
is_duplicate_answer (queued.Atomic psn found duplicate) = duplicate
is_duplicate_answer answer = false

abbrev pub fresh_count : List Queued → ℕ
fresh_count answers = length (filter is_fresh_answer answers)

abbrev pub duplicate_count : List Queued → ℕ
duplicate_count answers = length (filter is_duplicate_answer answers)

-- the last one is an ACK
abbrev pub ends_with_ack : List Queued → Bool
ends_with_ack [] = false
ends_with_ack (a ∷ []) = is_ack a
ends_with_ack (a ∷ b ∷ rest) = ends_with_ack (b ∷ rest)

-- an ACK takes the place of an ACK at the queue's end
abbrev pub with_ack_at_end : ℕ → List Queued → List Queued
with_ack_at_end psn [] = queued.Ack psn ∷ []
with_ack_at_end psn (a ∷ []) = if is_ack a then queued.Ack psn ∷ [] else a ∷ queued.Ack psn ∷ []
with_ack_at_end psn (a ∷ b ∷ rest) = a ∷ with_ack_at_end psn (b ∷ rest)

-- the answers before a PSN
abbrev pub answers_before : ℕ → List Queued → List Queued
answers_before psn answers = filter (λ a. nat_lt (psn_of_answer a) psn) answers

-- a NAK or an RNR NAK stands at a PSN or at a later one
abbrev pub has_nak_from : ℕ → List Queued → Bool
has_nak_from psn answers = list_any (λ a. is_nak a && nat_le psn (psn_of_answer a)) answers
