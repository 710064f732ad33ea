-- The setup of a script: one row for each setup line, which of them come too late, what each changes, and the limits of
-- the whole. Contracts cite it.
use Rattle.std.specs.Prelude.{ℕ, zero, suc, ◌==◌, nat_le, nat_lt, Bool, true, false, ◌&&◌, if◌then◌else◌, List, [], ◌∷◌, ◌++◌, length, sum, sum_by, replicate, Result, Ok, Err, codes}
use Rattle.std.specs.List.{list_any}
use Rattle.std.specs.Str.{bytes_eq}
use Rattle.ca_base.specs.Configuration.{Adapter, part_count}
use Rattle.ca_base.specs.declared.limits.TheConstants.{MAX_ADAPTERS, MAX_DOMAINS, MAX_BUFFERS, MAX_BUFFER_BYTES, MAX_TOTAL_BYTES, MAX_REGIONS, MAX_WINDOWS, MAX_CQS, MAX_SRQS, MAX_QPS, MAX_PARTS, MAX_EVENTS}
use Rattle.ca_base.specs.declared.lot.Lot.TheVariants as lots
use Rattle.ca_mailbox.specs.declared.weather.Weather.{Weather}
use Rattle.ca_mailbox.specs.declared.weather.Weather.TheVariants.{Calm, Listed, Seeded}
use Rattle.ca_mailbox.specs.declared.weather.WeatherLine.{WeatherLine}
use Rattle.ca_mailbox.specs.declared.weather.WeatherLine.TheVariants as lines
use Rattle.ca_script_lines.specs.ca_script_lex.Kinds.{Number, OfQueue, u64}
use Rattle.ca_script_lines.specs.ca_script_lex.Reading.{field}
use Rattle.ca_script_lines.specs.ca_script_lex.Words.{number}
use Rattle.ca_script_lines.specs.ca_script_lex.declared.cause.ScriptCause.{ScriptCause}
use Rattle.ca_script_lines.specs.Rows.{Words, Row, Takes, Makes, read_table, one_of}
use Rattle.ca_script.specs.declared.setting.Setting.{Setting}
use Rattle.ca_script.specs.declared.setting.Setting.TheVariants as settings
use Rattle.ca_script.specs.declared.setting.SlotCounts.{SlotCounts}

-- ---- the rows

-- an adapter that is there, up to the last
abbrev pub there : ℕ → (ℕ → Row Setting) → Row Setting
there last next = Takes (Number 0 last) next

unfoldable pub adapters_row : Row Setting
adapters_row = Takes (Number 1 MAX_ADAPTERS) (λ n. Makes (settings.Adapters n))

unfoldable pub buffer_row : ℕ → Row Setting
buffer_row last = there last (λ a. Takes (Number 1 MAX_BUFFER_BYTES) (λ n. Makes (settings.Buffer a n)))

unfoldable pub slots_row : ℕ → Row Setting
slots_row last =
    there last (λ a. Takes (Number 1 MAX_DOMAINS) (λ domains. Takes (Number 0 MAX_REGIONS) (λ regions. Takes (Number 0 MAX_WINDOWS) (λ windows.
    Takes (Number 0 MAX_CQS) (λ cqs. Takes (Number 0 MAX_SRQS) (λ srqs. Takes (Number 0 MAX_QPS) (λ qps.
    Makes (settings.Slots a (record { domains = domains; regions = regions; windows = windows; cqs = cqs; srqs = srqs; qps = qps })))))))))

unfoldable pub events_row : Row Setting
events_row = Takes (Number 1 MAX_EVENTS) (λ n. Makes (settings.Events n))

unfoldable pub seed_row : Row Setting
seed_row = Takes u64 (λ s. Makes (settings.Seed s))

unfoldable pub lose_row : ℕ → Row Setting
lose_row last = Takes (OfQueue last) (λ q. Takes u64 (λ i. Makes (settings.Listed (lines.Lot q i lots.Lose))))

unfoldable pub repeat_row : ℕ → Row Setting
repeat_row last = Takes (OfQueue last) (λ q. Takes u64 (λ i. Takes (Number 1 255) (λ k. Makes (settings.Listed (lines.Lot q i (lots.Repeat k))))))

unfoldable pub hold_row : ℕ → Row Setting
hold_row last = Takes (OfQueue last) (λ q. Takes u64 (λ i. Takes (Number 1 255) (λ k. Makes (settings.Listed (lines.Lot q i (lots.Hold k))))))

unfoldable pub hasten_row : ℕ → Row Setting
hasten_row last = Takes (OfQueue last) (λ q. Takes u64 (λ t. Makes (settings.Listed (lines.Hasten q t))))

-- what may stand behind `weather`, where this is the last adapter
unfoldable pub weather_lines : ℕ → List (List ℕ × Row Setting)
weather_lines last =
    (codes "seed", seed_row) ∷
    (codes "lose", lose_row last) ∷
    (codes "repeat", repeat_row last) ∷
    (codes "hold", hold_row last) ∷
    (codes "hasten", hasten_row last) ∷
    []

-- the setup lines, where this is the last adapter
unfoldable pub setup_lines : ℕ → List (List ℕ × Row Setting)
setup_lines last =
    (codes "adapters", adapters_row) ∷
    (codes "buffer", buffer_row last) ∷
    (codes "slots", slots_row last) ∷
    (codes "events", events_row) ∷
    (codes "weather", one_of (read_table (weather_lines last)) (λ s. s)) ∷
    []

unfoldable pub is_setup_word : List ℕ → Bool
is_setup_word name = list_any (λ known. bytes_eq name known) (codes "adapters" ∷ codes "buffer" ∷ codes "slots" ∷ codes "events" ∷ codes "weather" ∷ [])

-- ---- what the lines so far say

pub record Setup : Type 0 where
  -- a setup line was there
  pub begun : Bool
  pub adapters : List Adapter
  -- the adapters that a `slots` line named
  pub slotted : List ℕ
  -- an `events` line was there
  pub limited : Bool
  pub events : ℕ
  pub weather : Weather

-- an adapter that no line speaks of
abbrev pub plain_adapter : Adapter
plain_adapter = record { buffers = []; domains = 4; regions = 8; windows = 8; cqs = 4; srqs = 2; qps = 4 }

-- what holds where no line says otherwise
abbrev pub opening : Setup
opening = record { begun = false; adapters = plain_adapter ∷ []; slotted = []; limited = false; events = MAX_EVENTS; weather = Calm }

-- ---- lines that come too late

-- the first word is the number of an adapter that has its slots
abbrev pub is_slotted : List ℕ → Result (ℕ × Words) ScriptCause → Bool
is_slotted slotted (Ok x) = list_any (λ a. a == x.0) slotted
is_slotted slotted (Err cause) = false

abbrev pub is_seed : Words → Bool
is_seed [] = false
is_seed (w ∷ ws) = bytes_eq w (codes "seed")

-- beside seeded weather stands no other weather line
abbrev pub is_other_weather : Weather → Words → Bool
is_other_weather Calm ws = false
is_other_weather (Listed list) ws = is_seed ws
is_other_weather (Seeded seed) ws = true

-- a setup line that stands among the setup lines, but too late there
unfoldable pub is_late : Setup → Words → Bool
is_late s [] = false
is_late s (name ∷ ws) =
    if bytes_eq name (codes "adapters") then s.begun
    else if bytes_eq name (codes "slots") then is_slotted s.slotted (field (number 0 255) ws)
    else if bytes_eq name (codes "events") then s.limited
    else if bytes_eq name (codes "weather") then is_other_weather s.weather ws
    else false

-- ---- what a line changes

-- a buffer more
abbrev pub with_buffer : ℕ → Adapter → Adapter
with_buffer n a = record a { buffers = a.buffers ++ n ∷ [] }

abbrev pub with_slots : SlotCounts → Adapter → Adapter
with_slots c a = record {
  buffers = a.buffers;
  domains = c.domains;
  regions = c.regions;
  windows = c.windows;
  cqs = c.cqs;
  srqs = c.srqs;
  qps = c.qps;
}

-- one adapter by its number
abbrev pub with_adapter : ℕ → (Adapter → Adapter) → List Adapter → List Adapter
with_adapter n change [] = []
with_adapter zero change (a ∷ rest) = change a ∷ rest
with_adapter (suc n) change (a ∷ rest) = a ∷ with_adapter n change rest

-- a line of listed weather more
abbrev pub with_weather : WeatherLine → Weather → Weather
with_weather line Calm = Listed (line ∷ [])
with_weather line (Listed list) = Listed (list ++ line ∷ [])
with_weather line (Seeded seed) = Listed (line ∷ [])

abbrev pub after_setting : Setting → Setup → Setup
after_setting (settings.Adapters n) s = record s { begun = true; adapters = replicate n plain_adapter }
after_setting (settings.Buffer a n) s = record s { begun = true; adapters = with_adapter a (with_buffer n) s.adapters }
after_setting (settings.Slots a c) s = record s { begun = true; adapters = with_adapter a (with_slots c) s.adapters; slotted = s.slotted ++ a ∷ [] }
after_setting (settings.Events n) s = record s { begun = true; limited = true; events = n }
after_setting (settings.Seed seed) s = record s { begun = true; weather = Seeded seed }
after_setting (settings.Listed line) s = record s { begun = true; weather = with_weather line s.weather }

-- ---- limits of the whole

abbrev pub total_bytes : List Adapter → ℕ
total_bytes adapters = sum_by (λ a. sum a.buffers) adapters

-- the adapter is there, and may have a buffer more
abbrev pub has_buffer_left : ℕ → List Adapter → Bool
has_buffer_left n [] = false
has_buffer_left zero (a ∷ rest) = nat_lt (length a.buffers) MAX_BUFFERS
has_buffer_left (suc n) (a ∷ rest) = has_buffer_left n rest

-- the number of adapters, of which their row lets pass no more, and the number of buffers of an adapter
abbrev pub has_room_for : Setting → Setup → Bool
has_room_for (settings.Adapters n) s = nat_le n MAX_ADAPTERS
has_room_for (settings.Buffer a n) s = has_buffer_left a s.adapters
has_room_for other s = true

-- the bytes of all buffers, and the parts
unfoldable pub is_within_limits : Setup → Bool
is_within_limits s =
    nat_le (total_bytes s.adapters) MAX_TOTAL_BYTES
    && nat_le (part_count (record { adapters = s.adapters; events = s.events })) MAX_PARTS
