-- What comes of a group beside a history over buffers of zeros: the first queue pair that named a stranger, or the text of
-- its replies in its lone run. Contracts cite it.
use Rattle.std.specs.Prelude.{◌≡◌, true, ℕ, List, map, slice_get, Some}
use Rattle.ca_trace_output.specs.Text.{alone_text}
use Rattle.ca_run_alone.specs.declared.lone.Outcome.{Outcome}
use Rattle.ca_run_alone.specs.declared.lone.Outcome.TheVariants as outcomes
use Rattle.ca_base.specs.Configuration.{Configuration}
use Rattle.ca_isolation.specs.Alone.{alone_bytes, alone_events}
use Rattle.ca_isolation.specs.Groups.{Group, is_closed, replies_of, strays_of}
use Rattle.ca_keys.specs.Memory.{zeros}
use Rattle.ca_model.specs.Entries.{EntryValue}
use Rattle.ca_model.specs.machine.Run.{Follows}

-- A history is the lone run of a group beside another: of the group's events alone, over the bytes that its grants cover.
pub record IsLoneRun (c : Configuration) (group : Group) (es lone : List EntryValue) : Type 0 where
  pub events : map (λ e. e.event) lone ≡ alone_events group zeros es
  pub follows : Follows c (alone_bytes group zeros es) lone
  pub same_replies : replies_of group lone ≡ replies_of group es

-- The group is closed in a history, and the text is that of its replies in the lone run beside it.
pub record HasReplies (c : Configuration) (group : Group) (es : List EntryValue) (text : List ℕ) : Type 0 where
  pub closed : is_closed group es ≡ true
  pub lone : List EntryValue
  pub run : IsLoneRun c group es lone
  pub text_of : text ≡ alone_text (replies_of group lone)

-- The outcome names the first queue pair of the group that named a stranger, or else has the group's replies.
abbrev pub IsOutcome : Configuration → Group → List EntryValue → Outcome → Type 0
IsOutcome c group es (outcomes.NotClosed queue) = slice_get (strays_of group es) 0 ≡ Some queue
IsOutcome c group es (outcomes.Replies text) = HasReplies c group es text
