-- Changes of no region, no window and no byte: what other crates cite. For proofs only.
use Rattle.std.proofs.Common.{ℕ, Bool, true, false, if◌then◌else◌, List, [], ◌∷◌, ◌++◌, Option, None, Some, sym, subst}
use Rattle.std.specs.Option.{option_map}
use Rattle.ca_law_endings.proofs.PathLemmas.{puts-append}
use Rattle.ca_base.specs.objects.QueuePair.{QueuePair, srq_of}
use Rattle.ca_base.specs.objects.SharedReceives.{SrqSlot, after_receive_take}
use Rattle.ca_model.specs.machine.Around.{Around, srq_updates, updates_of}
use Rattle.ca_model.specs.machine.Plan.{Update, ◌:=◌, put_all}
use Rattle.ca_model.specs.machine.Row.{Effects}
use Rattle.ca_model.specs.machine.World.{World, Name, Byte_at, Region_of, Srq_of, Thing, Window_of, put}
use Rattle.ca_law_keys.proofs.Keys.KeyFrame.{keys-puts, same-keys}
pub use Rattle.ca_law_keys.proofs.Keys.KeyFrame.{SameKeys}
pub use Rattle.ca_law_endings.proofs.Leading.{leads-from}

-- changes of no region, no window and no byte
abbrev pub IsLooseName : Name → Type 0
IsLooseName (Region_of s) = ⊥
IsLooseName (Window_of s) = ⊥
IsLooseName (Byte_at p) = ⊥
IsLooseName n = Unit {0}

abbrev pub AreLoose : List Update → Type 0
AreLoose [] = Unit {0}
AreLoose (x ∷ us) = IsLooseName x.name × AreLoose us

loose-put : (u v : World) (n : Name) (t : Thing n) → IsLooseName n → SameKeys u v → SameKeys u (put v n t)
loose-put u v (Region_of s) t loose same = absurd loose
loose-put u v (Window_of s) t loose same = absurd loose
loose-put u v (Byte_at p) t loose same = absurd loose
loose-put u v n t loose same = record { region = same.region; window = same.window; byte = same.byte }

pub loose-puts : (us : List Update) (u v : World) → AreLoose us → SameKeys u v → SameKeys u (put_all us v)
loose-puts [] u v loose same = same
loose-puts (x ∷ us) u v loose same = loose-puts us u (put v x.name x.thing) loose.1 (loose-put u v x.name x.thing loose.0 same)

-- loose changes before others, and behind them
pub loose-before : (us cs : List Update) (w : World) → AreLoose us → SameKeys (put_all cs w) (put_all (us ++ cs) w)
loose-before us cs w loose = subst (SameKeys (put_all cs w)) (sym (puts-append us cs w)) (keys-puts cs w (put_all us w) (loose-puts us w w loose (same-keys w)))

-- what a turn's effects change
pub srq-loose : (q : QueuePair) (a : Around) (b : Bool) → AreLoose (if b then srq_updates q a after_receive_take else [])
srq-loose q a false = record {}
srq-loose q a true = by q.srq a.shared
  where
    updates : Option ℕ → Option SrqSlot → List Update
    updates (Some srq) (Some slot) = (Srq_of (srq_of q srq) := record slot { srq = option_map after_receive_take slot.srq }) ∷ []
    updates srq slot = []

    by : (o : Option ℕ) (t : Option SrqSlot) → AreLoose (updates o t)
    by None t = record {}
    by (Some srq) None = record {}
    by (Some srq) (Some slot) = (record {}, record {})

pub turn-loose : (q : QueuePair) (a : Around) (e : Effects) → AreLoose (updates_of q a e)
turn-loose q a e = (record {}, (record {}, (record {}, srq-loose q a e.takes_shared)))
