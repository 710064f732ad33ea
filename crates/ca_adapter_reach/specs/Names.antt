-- The names of buffers. Contracts cite it.
use Rattle.std.specs.Prelude.{◌≡◌, ◌==◌, ◌&&◌, Bool, true}
use Rattle.std.proofs.lemmas.Bool.{and_parts, eqb-true}
use Rattle.ca_keys.specs.declared.place.Place.{Place}
use Rattle.ca_keys.specs.declared.place.Run.{Run}
use Rattle.ca_adapter_reach.specs.declared.reached.BufferId.{BufferId}

abbrev pub buffer_eq : BufferId → BufferId → Bool
buffer_eq a b = (a.adapter == b.adapter) && (a.index == b.index)

-- the buffer of a run
abbrev pub buffer_of_run : Run → BufferId
buffer_of_run r = record { adapter = r.adapter; index = r.buffer }

-- the buffer of a place
abbrev pub buffer_of : Place → BufferId
buffer_of p = record { adapter = p.adapter; index = p.buffer }

-- names of buffers that are the same are one
pub buffer_path : (a b : BufferId) → buffer_eq a b ≡ true → a ≡ b
buffer_path a b same = by (and_parts (a.adapter == b.adapter) (a.index == b.index) same)
  where
    by : ((a.adapter == b.adapter) ≡ true) × ((a.index == b.index) ≡ true) → a ≡ b
    by parts = λ i. record {
      adapter = eqb-true a.adapter b.adapter parts.0 i;
      index = eqb-true a.index b.index parts.1 i;
    }
