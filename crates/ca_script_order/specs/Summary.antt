-- The summary of a history: what its marks count, and the sum of all bytes at its end. Contracts cite it.
use Rattle.std.specs.Prelude.{ℕ, suc, ◌&&◌, not, Bool, true, false, List, [], ◌∷◌, ◌++◌, length, filter, sum_by}
use Rattle.ca_base.specs.Configuration.{Adapter, Configuration}
use Rattle.ca_keys.specs.Memory.{bytes_at, zeros}
use Rattle.ca_keys.specs.declared.place.Run.{Run}
use Rattle.ca_keys.specs.declared.verdict.Verdict.{Verdict}
use Rattle.ca_keys.specs.declared.verdict.Verdict.TheVariants as verdicts
use Rattle.ca_model.specs.Entries.{EntryValue}
use Rattle.ca_model.specs.Past.{after_entries, is_send_success, opening_past}
use Rattle.ca_model.specs.declared.mark.Mark.{Mark}
use Rattle.ca_model.specs.declared.mark.Mark.TheVariants as marks

-- the completions of sends with success and those that failed; the packets that were sent and lost; the atomics that
-- acted; the entries; and the sum of the bytes of all buffers
pub record Summary : Type 0 where
  pub success : ℕ
  pub failed : ℕ
  pub sent : ℕ
  pub lost : ℕ
  pub atomics : ℕ
  pub events : ℕ
  pub sum : ℕ

-- how many marks are of a kind
abbrev pub count_of : (Mark → Bool) → List EntryValue → ℕ
count_of test es = sum_by (λ e. length (filter test e.marks)) es

abbrev pub is_success : Mark → Bool
is_success (marks.Done q completion cause) = is_send_success completion
is_success mark = false

abbrev pub is_failure : Mark → Bool
is_failure (marks.Done q completion cause) = not completion.receive && not (is_send_success completion)
is_failure mark = false

abbrev pub is_packet_sent : Mark → Bool
is_packet_sent (marks.Sent source target index request bytes) = true
is_packet_sent mark = false

abbrev pub is_packet_lost : Mark → Bool
is_packet_lost (marks.Lost target index) = true
is_packet_lost mark = false

abbrev pub is_swapped : Verdict → Bool
is_swapped (verdicts.Swapped found put) = true
is_swapped verdict = false

abbrev pub is_atomic_mark : Mark → Bool
is_atomic_mark (marks.Remote q domain envelope key kind address count verdict) = is_swapped verdict
is_atomic_mark mark = false

-- all bytes of buffers of which the first has this number
abbrev pub runs_of_buffers : ℕ → ℕ → List ℕ → List Run
runs_of_buffers a b [] = []
runs_of_buffers a b (n ∷ ns) = record { adapter = a; buffer = b; offset = 0; length = n } ∷ runs_of_buffers a (suc b) ns

-- all bytes of adapters of which the first has this number
abbrev pub runs_from : ℕ → List Adapter → List Run
runs_from a [] = []
runs_from a (adapter ∷ more) = runs_of_buffers a 0 adapter.buffers ++ runs_from (suc a) more

-- the bytes of all buffers after entries over zeros
abbrev pub bytes_after : Configuration → List EntryValue → List ℕ
bytes_after c es = bytes_at (after_entries es (opening_past zeros)).memory (runs_from 0 c.adapters)

abbrev pub summary : Configuration → List EntryValue → Summary
summary c es = record {
  success = count_of is_success es;
  failed = count_of is_failure es;
  sent = count_of is_packet_sent es;
  lost = count_of is_packet_lost es;
  atomics = count_of is_atomic_mark es;
  events = length es;
  sum = sum_by (λ byte. byte) (bytes_after c es);
}
