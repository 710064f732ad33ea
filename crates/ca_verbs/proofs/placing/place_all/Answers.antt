use Rattle.std.proofs.Common.{◌<◌, subst, sym}
use Rattle.ca_verbs.proofs.PlacingLemmas.{last-left, placing-on}
use Rattle.ca_verbs.proofs.placing.place_all.Goals as goal

pub put-requires : goal.put-requires
put-requires c = subst (λ n. c.in-Some.entry.stamp < n) (sym c.loop-entry.invariant.count)
    (c.requires.fits c.in-Some.entry (last-left _ _ _ _ _ c.in-Some.entry c.loop-entry.invariant c.in-Some.ensures.items))

pub loop-entry-preserved : goal.loop-entry-preserved
loop-entry-preserved c = placing-on _ _ _ _ _ c.in-Some.entry c.loop-entry.invariant c.in-Some.ensures.items _
    (subst (λ n. c.in-Some.entry.stamp < n) (sym c.loop-entry.invariant.count)
    (c.requires.fits c.in-Some.entry (last-left _ _ _ _ _ c.in-Some.entry c.loop-entry.invariant c.in-Some.ensures.items))) c.put.ensures
