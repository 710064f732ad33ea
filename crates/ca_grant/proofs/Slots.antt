-- That an ask goes by the grant of its key's slot, where each slot has one at most. For proofs only.
use Rattle.std.proofs.Common.{◌≡◌, Bool, true, false, if◌then◌else◌, List, [], ◌∷◌, None, Some, refl, arith}
use Rattle.std.proofs.lemmas.Bool.Decides.{nat_tests}
use Rattle.std.specs.List.{AllByRecursion}
use Rattle.ca_keys.specs.declared.access.Ask.{Ask}
use Rattle.ca_keys.specs.declared.grant.Grant.{Grant}
use Rattle.ca_keys.specs.Allowed.{fits, grant_for}
use Rattle.ca_grant.specs.KeySlot.{is_at_slot_of, HaveSlotsApart, grant_in_slot, list_of_grant}

-- a grant in another key slot does not fit
elsewhere : (ask : Ask) (g : Grant) → is_at_slot_of ask.domain ask.key g ≡ false → fits ask g ≡ false
elsewhere ask g h = grind (arith, nat_tests, h)

-- two grants in one key slot are in each other's
together : (ask : Ask) (g h : Grant) → is_at_slot_of ask.domain ask.key g ≡ true → is_at_slot_of g.domain g.key h ≡ false
    → is_at_slot_of ask.domain ask.key h ≡ false
together ask g h a b = grind (arith, nat_tests, a, b)

-- where all grants stand in other key slots, none is the one that the ask goes by
none-fits : (ask : Ask) (g : Grant) (grants : List Grant) → is_at_slot_of ask.domain ask.key g ≡ true
    → AllByRecursion (λ h. is_at_slot_of g.domain g.key h ≡ false) grants → grant_for ask grants ≡ None
none-fits ask g [] a apart = refl
none-fits ask g (h ∷ grants) a apart =
    rw (elsewhere ask h (together ask g h a apart.0)) (none-fits ask g grants a apart.1)

-- the ask goes by the grant of its key's slot
pub grant-in-slot : (ask : Ask) (grants : List Grant) → HaveSlotsApart grants
    → grant_for ask grants ≡ grant_for ask (list_of_grant (grant_in_slot ask grants))
grant-in-slot ask [] apart = refl
grant-in-slot ask (g ∷ grants) apart = by (is_at_slot_of ask.domain ask.key g) refl (grant-in-slot ask grants apart.1)
  where
    by : (b : Bool) → is_at_slot_of ask.domain ask.key g ≡ b
        → grant_for ask grants ≡ grant_for ask (list_of_grant (grant_in_slot ask grants))
        → grant_for ask (g ∷ grants) ≡ grant_for ask (list_of_grant (grant_in_slot ask (g ∷ grants)))
    by true a rest = rw a (by_fits (fits ask g) refl)
      where
        by_fits : (b : Bool) → fits ask g ≡ b → (if b then Some g else grant_for ask grants) ≡ (if b then Some g else None)
        by_fits true f = refl
        by_fits false f = none-fits ask g grants a apart.0
    by false a rest = rw (a, elsewhere ask g a) rest
