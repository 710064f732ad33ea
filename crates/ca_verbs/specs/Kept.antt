-- The entries that a pass keeps, beside those that contracts see, and how many of them reach the limit of events; and that to
-- keep to the limits is a plain fact. Contracts cite it.
use Rattle.std.specs.Prelude.{◌≡◌, ◌≤◌, ◌+◌, ℕ, suc, if◌then◌else◌, nat_le, List, [], ◌∷◌, Some, map}
use Rattle.std.specs.List.{AllByRecursion}
use Rattle.std.specs.Coded.{le_prop}
use Rattle.ca_base.specs.Configuration.{Adapter, Configuration}
use Rattle.ca_base.specs.declared.limits.TheConstants.{MAX_BUFFER_BYTES}
use Rattle.ca_base.specs.declared.settings.Settings.{Settings}
use Rattle.ca_verbs_machine.specs.declared.asked.Told.{Told}
use Rattle.ca_model.specs.declared.entry.Entry.{Entry}
use Rattle.ca_model.specs.declared.event.Event.{Event}
use Rattle.ca_model.specs.declared.mark.Mark.{Mark}
use Rattle.ca_model.specs.machine.Sound.{AreLimited, IsLimitedAdapter}
use Rattle.ca_verbs_taking.specs.Holding.{Known}

-- an entry: its stamp, its event and its marks
abbrev pub Kept : Type 0
Kept = ℕ × Event × List Mark

-- those that are kept
abbrev pub kept_of : List Entry → List Kept
kept_of entries = map (λ e. (e.stamp, e.event, e.marks.marks)) entries

-- those that contracts see
abbrev pub told_by : List (ℕ × Told) → List Kept
told_by entries = map (λ e. (e.0, e.1.event, e.1.marks)) entries

-- how many of these entries stand at the limit less 1 or above it: no pass makes another call behind such a one
abbrev pub late_count : ℕ → List (ℕ × Told) → ℕ
late_count limit [] = 0
late_count limit (e ∷ es) = (if nat_le limit (suc e.0) then 1 else 0) + late_count limit es

-- a pass has at most as many of them as it is made of passes, of which there is one at least
pub record AreFew (v : Known) : Type 0 where
  pub late : (key : Settings) → v.settings ≡ Some key → late_count key.events v.entries ≤ v.passes
  pub some : 1 ≤ v.passes

all-prop : {A : Type 0} (P : A → Type 0) (xs : List A) → ((x : A) → IsProp (P x)) → IsProp (AllByRecursion P xs)
all-prop P [] each p q = λ i. record {}
all-prop P (x ∷ xs) each p q = λ i. (each x p.0 q.0 i, all-prop P xs each p.1 q.1 i)

adapter-prop : (a : Adapter) → IsProp (IsLimitedAdapter a)
adapter-prop a p q = λ i. record {
  buffers = le_prop p.buffers q.buffers i;
  least_bytes = all-prop (λ bytes. 1 ≤ bytes) a.buffers (λ b. le_prop) p.least_bytes q.least_bytes i;
  bytes = all-prop (λ bytes. bytes ≤ MAX_BUFFER_BYTES) a.buffers (λ b. le_prop) p.bytes q.bytes i;
  least_domains = le_prop p.least_domains q.least_domains i;
  domains = le_prop p.domains q.domains i;
  regions = le_prop p.regions q.regions i;
  windows = le_prop p.windows q.windows i;
  cqs = le_prop p.cqs q.cqs i;
  srqs = le_prop p.srqs q.srqs i;
  qps = le_prop p.qps q.qps i;
}

-- that a configuration keeps to its limits is known in one way
pub limited_prop : (c : Configuration) → IsProp (AreLimited c)
limited_prop c p q = λ i. record {
  least_count = le_prop p.least_count q.least_count i;
  count = le_prop p.count q.count i;
  adapters = all-prop IsLimitedAdapter c.adapters adapter-prop p.adapters q.adapters i;
  bytes = le_prop p.bytes q.bytes i;
  parts = le_prop p.parts q.parts i;
  least_events = le_prop p.least_events q.least_events i;
  events = le_prop p.events q.events i;
}

-- so is that a pass has few late entries
pub few_prop : (v : Known) → IsProp (AreFew v)
few_prop v p q = λ i. record {
  late = λ key is. le_prop (p.late key is) (q.late key is) i;
  some = le_prop p.some q.some i;
}
