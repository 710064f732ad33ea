-- Where plans and runs end: what holds of the world that an event leaves and of its marks. Laws cite it.
use Rattle.std.specs.Prelude.{◌≡◌, ℕ, suc, true, false, List, [], ◌∷◌}
use Rattle.ca_keys.specs.Memory.{bytes_at}
use Rattle.ca_model.specs.declared.mark.Mark.{Mark}
use Rattle.ca_model.specs.Entries.{EntryValue}
use Rattle.ca_model.specs.machine.Plan.{Plan, Stuck, Look, Read, If, Finish, Outcome, NotReady, Did, put_all, write_all}
use Rattle.ca_model.specs.machine.World.{World, get}

-- a plan that ends in a world and with marks of which this holds, if it does not get stuck
abbrev pub Leads : World → (World → List Mark → Type 0) → Plan → Type 0
Leads w P (Stuck reason) = Unit {0}
Leads w P (Look n k) = Leads w P (k (get w n))
Leads w P (Read runs k) = Leads w P (k (bytes_at w.byte runs))
Leads w P (If test p q) = (test ≡ true → Leads w P p) × (test ≡ false → Leads w P q)
Leads w P (Finish changes writes marks) = P (write_all writes (put_all changes w)) marks

-- what holds of the world and of the marks that come of an event, if it is possible
abbrev pub Comes : (World → List Mark → Type 0) → Outcome → Type 0
Comes P (NotReady reason) = Unit {0}
Comes P (Did v ms) = P v ms

-- the entries have the stamps from one on, in order
abbrev pub AreStamped : ℕ → List EntryValue → Type 0
AreStamped n [] = Unit {0}
AreStamped n (e ∷ es) = (e.stamp ≡ n) × AreStamped (suc n) es
