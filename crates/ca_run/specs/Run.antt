-- What a run of the program did, by its command and its status. Contracts cite it.
use Rattle.std.specs.Prelude.{◌≡◌, ◌++◌, ℕ, List, [], slice_get, Option, Some, IfSome, Ok}
use Rattle.ca_run_alone.specs.Lone.{HasReplies}
use Rattle.ca_isolation.specs.Groups.{group_of, strays_of}
use Rattle.ca_keys.specs.declared.names.DomainId.{DomainId}
use Rattle.ca_keys.specs.declared.names.QueueId.{QueueId}
use Rattle.ca_script_seed.specs.Made.{made_script}
use Rattle.ca_model.specs.Entries.{EntryValue}
use Rattle.ca_script_order.specs.OfScript as machine
use Rattle.ca_script_order.specs.OfScript.{HasStatus}
use Rattle.ca_script_order.specs.Order.{Stage, ending, order}
use Rattle.ca_script_order.specs.Summary.{summary}
use Rattle.ca_law_scripts.specs.Lawful.{IsLawfulHistory, IsLawfulOrder}
use Rattle.ca_trace_read.specs.ca_trace_read_fits.Histories.{HistoryFits}
use Rattle.ca_run.specs.Status.{ended_as}
use Rattle.ca_run.specs.declared.status.Status.{Status}
use Rattle.ca_run.specs.declared.status.Status.TheVariants as statuses
use Rattle.ca_script.specs.Script.{ScriptValue, script_of}
use Rattle.ca_script_seed.specs.Text.{summary_text}
use Rattle.ca_trace.specs.Trace.{text}
use Rattle.ca_run_command.specs.declared.command.Command.{Command}
use Rattle.ca_run_command.specs.declared.command.Command.TheVariants as commands

-- The order of the script is lawful, and ended so.
pub record IsWorked (s : ScriptValue) (ended : machine.Status) : Type 0 where
  pub lawful : IsLawfulOrder s (order s)
  pub status : HasStatus s (ending s) ended

-- Bytes were read that mean the script. Where the source told what was left, it was these bytes, and they were read to
-- their end.
pub record IsRead (left left' : Option (List ℕ)) (s : ScriptValue) : Type 0 where
  pub bytes : List ℕ
  pub means : script_of bytes ≡ Ok s
  pub whole : IfSome left (λ all. (all ≡ bytes) × (left' ≡ Some []))

-- The output is the text of this history, and of no other that fits.
pub record IsTextOf (output : List ℕ) (es : List EntryValue) : Type 0 where
  pub whole : output ≡ text es
  pub only : (others : List EntryValue) → HistoryFits others → output ≡ text others → others ≡ es

-- A script was read and worked, and the output is the text of its order.
pub record IsScriptOutput (left left' : Option (List ℕ)) (status : Status) (output : List ℕ) : Type 0 where
  pub script : ScriptValue
  pub ended : machine.Status
  pub is : ended_as status ≡ Some ended
  pub read : IsRead left left' script
  pub worked : IsWorked script ended
  pub text : IsTextOf output (order script)

-- A history of the script is lawful, and the script ended so where it leads to.
pub record IsRaced (s : ScriptValue) (es : List EntryValue) (ended : machine.Status) : Type 0 where
  pub end : Stage
  pub lawful : IsLawfulHistory s es end
  pub status : HasStatus s end ended

-- A script was read and raced, and the output is the text of what came of it.
pub record IsRaceOutput (left left' : Option (List ℕ)) (status : Status) (output : List ℕ) : Type 0 where
  pub script : ScriptValue
  pub ended : machine.Status
  pub is : ended_as status ≡ Some ended
  pub read : IsRead left left' script
  pub history : List EntryValue
  pub raced : IsRaced script history ended
  pub text : IsTextOf output history

-- A script was read and worked, the group is closed in its order, and the output is the text of the order and, behind it,
-- that of the group's replies in its lone run.
pub record IsClosedOutput (group : List DomainId) (left left' : Option (List ℕ)) (status : Status) (output : List ℕ) : Type 0 where
  pub script : ScriptValue
  pub ended : machine.Status
  pub is : ended_as status ≡ Some ended
  pub read : IsRead left left' script
  pub worked : IsWorked script ended
  pub replies : List ℕ
  pub lone : HasReplies script.config (group_of group) (order script) replies
  pub whole : output ≡ text (order script) ++ replies

-- A script was read and worked, the queue pair is the first of the group that named a peer outside of it, and the output is
-- the text of the order.
pub record IsOpenOutput (group : List DomainId) (left left' : Option (List ℕ)) (queue : QueueId) (output : List ℕ) : Type 0 where
  pub script : ScriptValue
  pub ended : machine.Status
  pub read : IsRead left left' script
  pub worked : IsWorked script ended
  pub stray : slice_get (strays_of (group_of group) (order script)) 0 ≡ Some queue
  pub text : IsTextOf output (order script)

abbrev pub IsLoneOutput : List DomainId → Option (List ℕ) → Option (List ℕ) → Status → List ℕ → Type 0
IsLoneOutput group left left' (statuses.NotClosed queue) output = IsOpenOutput group left left' queue output
IsLoneOutput group left left' status output = IsClosedOutput group left left' status output

-- The script of the seed was worked, and the output is the summary of its order.
pub record IsMadeOutput (seed : ℕ) (status : Status) (output : List ℕ) : Type 0 where
  pub ended : machine.Status
  pub is : ended_as status ≡ Some ended
  pub worked : IsWorked (made_script seed) ended
  pub whole : output ≡ summary_text (summary (made_script seed).config (order (made_script seed)))

-- what a command writes whose status is this one, and what it read of the source
abbrev pub IsOutput : Command → Option (List ℕ) → Option (List ℕ) → Status → List ℕ → Type 0
IsOutput commands.Script left left' status output = IsScriptOutput left left' status output
IsOutput (commands.Race workers) left left' status output = IsRaceOutput left left' status output
IsOutput (commands.Alone group) left left' status output = IsLoneOutput group left left' status output
IsOutput (commands.Make seed) left left' status output = IsMadeOutput seed status output

-- The command has an output with this status, and of it so much was written.
pub record Wrote (command : Command) (left left' : Option (List ℕ)) (status : Status) (Appended : List ℕ → Type 0) : Type 0 where
  pub output : List ℕ
  pub is : IsOutput command left left' status output
  pub appended : Appended output

-- The same of an output with some status.
pub record WroteFront (command : Command) (left left' : Option (List ℕ)) (Appended : List ℕ → Type 0) : Type 0 where
  pub status : Status
  pub wrote : Wrote command left left' status Appended
