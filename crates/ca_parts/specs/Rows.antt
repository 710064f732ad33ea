-- What a row of parts and a pass show. Contracts cite it.
use Rattle.std.specs.Prelude.{◌≡◌, ◌<◌, ℕ, [], Some, None}
use Rattle.ca_parts.specs.declared.machine.Machine.{Ghosts}
use Rattle.ca_parts.specs.declared.view.View.{View}
use Rattle.ca_parts.specs.declared.parts.Parts.{Parts}
use Rattle.ca_parts.specs.declared.pass.PartPass.{PartPass}
use Rattle.ca_parts.specs.Facts.{held}

module _ {T S E N : Type 0} where
  -- the settings that the row was started with
  abbrev pub settings_of : Parts T S E N → S
  settings_of row = row.settings

  -- how many parts the row has
  abbrev pub part_count : Parts T S E N → ℕ
  part_count row = row.table.shared.table_id.slots

  module _ {g : Ghosts T S E N} where
    -- what the pass knows
    abbrev pub view_of : PartPass T S E N g → View S E N T
    view_of pass = pass.seat.me.0

    -- the pass is one of the row, between two calls: no value is on its way, and each part in hand is one of the row
    abbrev pub IsPassOf : Parts T S E N → PartPass T S E N g → Type 0
    IsPassOf row pass = (pass.seat.table_id ≡ row.table.shared.table_id) × (pass.seat.me.1 ≡ []) × ((view_of pass).settings ≡ Some row.settings) × ((view_of pass).out ≡ None) × (row.table.shared.key ≡ row.settings) × ((k : ℕ) → 0 < held k (view_of pass) → k < part_count row)
