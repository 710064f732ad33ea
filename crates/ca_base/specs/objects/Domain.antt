-- A protection domain: whether it is allocated, and how many objects it has. Contracts cite it.
use Rattle.std.specs.Prelude.{ℕ, suc, ◌-◌, Bool, false}

pub record Domain : Type 0 where
  pub allocated : Bool
  pub objects : ℕ

-- before its first allocation
abbrev pub free_domain : Domain
free_domain = record { allocated = false; objects = 0 }

abbrev pub with_allocation : Bool → Domain → Domain
with_allocation allocated d = record d { allocated = allocated }

-- one object more
abbrev pub with_object : Domain → Domain
with_object d = record d { objects = suc d.objects }

-- one object fewer
abbrev pub without_object : Domain → Domain
without_object d = record d { objects = d.objects - 1 }
