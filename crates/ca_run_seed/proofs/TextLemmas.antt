-- What is counted of a made script's history, and summed of the row at its end, is the summary of its order. For proofs
-- only.
use Rattle.std.proofs.Common.{◌≡◌, ◌∙◌, sym, ap, subst, ℕ, List, sum_by}
use Rattle.ca_base.specs.Configuration.{Configuration}
use Rattle.ca_keys.specs.Memory.{bytes_at, zeros}
use Rattle.ca_script_seed.specs.Made.{made_script}
use Rattle.ca_run_seed.proofs.MadeLemmas.{made-buffers, made-keeps}
use Rattle.ca_run_seed.specs.Buffers.{HasTwoBuffers}
use Rattle.ca_model.specs.Entries.{EntryValue}
use Rattle.ca_model.specs.Past.{after_entries, opening_past}
use Rattle.ca_model.specs.machine.World.{World}
use Rattle.ca_script_order.specs.Order.{ending, order}
use Rattle.ca_script_order.specs.Summary.{Summary, bytes_after, runs_from, summary}
use Rattle.ca_law_scripts.specs.Limits.{KeepsToLimits}
use Rattle.ca_script_run.specs.ca_adapter_store.Rows.{IsRow, IsRowOf}
use Rattle.ca_script_run.specs.ca_adapter_store.declared.row.Row.{Row}
use Rattle.ca_script.specs.Script.{ScriptValue}

-- a row that stands for a world stands for one under its own settings
pub row-stands : (c : Configuration) (w : World) (row : Row) → IsRowOf c w row → IsRow row
row-stands c w row of = record { world = w; of = subst (λ k. IsRowOf k w row) (sym of.settings) of }

-- the marks of the order of a script that keeps to the limits tell memory
abbrev pub TellMemory : Type 0
TellMemory = (s : ScriptValue) → KeepsToLimits s → (ending s).world.byte ≡ (after_entries (order s) (opening_past zeros)).memory

-- this is the sum of the bytes of two buffers on a row
abbrev pub IsSumOf : Row → ℕ → Type 0
IsSumOf row n = (c : Configuration) (w : World) → IsRowOf c w row → HasTwoBuffers c → n ≡ sum_by (λ byte. byte) (bytes_at w.byte (runs_from 0 c.adapters))

-- this is the summary of a history at whose end the bytes have this sum
abbrev pub IsSummaryOf : List EntryValue → ℕ → Summary → Type 0
IsSummaryOf es n found = (c : Configuration) → n ≡ sum_by (λ byte. byte) (bytes_after c es) → found ≡ summary c es

pub summary-made : (seed : ℕ) (s : ScriptValue) (row : Row) (es : List EntryValue) (n : ℕ) (found : Summary) → TellMemory → s ≡ made_script seed → es ≡ order s
    → IsRowOf s.config (ending s).world row → IsSumOf row n → IsSummaryOf es n found → found ≡ summary (made_script seed).config (order (made_script seed))
summary-made seed s row es n found tell same is of sums counts = counts (made_script seed).config total ∙ ap (summary (made_script seed).config) whole
  where
    whole : es ≡ order (made_script seed)
    whole = is ∙ ap order same

    at : IsRowOf (made_script seed).config (ending (made_script seed)).world row
    at = subst (λ x. IsRowOf x.config (ending x).world row) same of

    total : n ≡ sum_by (λ byte. byte) (bytes_after (made_script seed).config es)
    total = sums (made_script seed).config (ending (made_script seed)).world at (made-buffers seed)
        ∙ ap (λ m. sum_by (λ byte. byte) (bytes_at m (runs_from 0 (made_script seed).config.adapters))) (tell (made_script seed) (made-keeps seed))
        ∙ ap (λ xs. sum_by (λ byte. byte) (bytes_after (made_script seed).config xs)) (sym whole)
