-- Ordered: completions come once and in posting order, and polls give them in order. Contracts cite it.
use Rattle.std.specs.Prelude.{ℕ, suc, ◌-◌, Bool, true, false, not, ◌&&◌, ◌||◌, ◌==◌, nat_le, if◌then◌else◌, List, length, take, drop, slice_get, Option, IsTrue}
use Rattle.std.specs.List.{list_all}
use Rattle.std.specs.Cmp.Lexicographic.{pointwise}
use Rattle.std.specs.Option.{option_map_or}
use Rattle.ca_base.specs.declared.completion.Completion.{Completion}
use Rattle.ca_base.specs.declared.completion.WcStatus.TheVariants.{Success}
use Rattle.ca_base.specs.Equal.{completion_eq, operation_eq, status_eq}
use Rattle.ca_keys.specs.Memory.{ByteMap}
use Rattle.ca_model.specs.declared.answer.Answer.{Answer}
use Rattle.ca_model.specs.declared.answer.Answer.TheVariants as answers
use Rattle.ca_model.specs.declared.mark.Mark.{Mark}
use Rattle.ca_model.specs.declared.mark.Mark.TheVariants as marks
use Rattle.ca_model.specs.declared.verb.Verb.{Verb}
use Rattle.ca_model.specs.declared.verb.Verb.TheVariants as verbs
use Rattle.ca_model.specs.Entries.{EntryValue}
use Rattle.ca_model.specs.Past.{Past, Posted, present_incarnation, opening_past, each_entry}
use Rattle.ca_model.specs.Requests.{operation_of}

-- the place behind the latest one that completed
abbrev pub place_behind : Option ℕ → ℕ
place_behind latest = option_map_or suc latest 0

-- the completion has the id and the operation of its request, and success comes only to a signalled one
abbrev pub is_completion_of : Completion → Posted → Bool
is_completion_of c p =
    (c.id == p.request.id) && operation_eq c.op (operation_of p.request.op)
    && (p.request.signalled || not (status_eq c.status Success))

-- none of the requests from one place on and before another is signalled
abbrev pub are_unsignalled : List Posted → ℕ → ℕ → Bool
are_unsignalled posted from to = list_all (λ p. not p.request.signalled) (take (to - from) (drop from posted))

-- a send completes behind those that completed before it, with no signalled one left between
abbrev pub is_send_in_order : Past → Completion → List Posted → Bool
is_send_in_order past c posted =
    nat_le (place_behind (past.last_send (present_incarnation past c.queue))) c.place
    && option_map_or (is_completion_of c) (slice_get posted c.place) false
    && are_unsignalled posted (place_behind (past.last_send (present_incarnation past c.queue))) c.place

-- a receive completes behind those that its queue pair completed before it
abbrev pub is_receive_in_order : Past → Completion → Bool
is_receive_in_order past c = nat_le (place_behind (past.last_receive (present_incarnation past c.queue))) c.place

-- what a poll gives is the front of what waits
abbrev pub is_polled : Past → Verb → Answer → Bool
is_polled past (verbs.Poll slot n least) (answers.Polled completions) =
    pointwise completion_eq completions (take (length completions) (past.waiting slot))
is_polled past verb answer = true

-- each completion is in order, and each poll gives what waits
abbrev pub is_ordered : Past → Mark → Bool
is_ordered past (marks.Verb by verb answer) = is_polled past verb answer
is_ordered past (marks.Done queue completion cause) =
    if completion.receive then is_receive_in_order past completion
    else is_send_in_order past completion (past.posted (present_incarnation past completion.queue))
is_ordered past mark = true

abbrev pub is_ordered_history : ByteMap → List EntryValue → Bool
is_ordered_history bytes es = each_entry is_ordered (λ past. true) (opening_past bytes) es

abbrev pub Ordered : ByteMap → List EntryValue → Type 0
Ordered bytes es = IsTrue (is_ordered_history bytes es)
