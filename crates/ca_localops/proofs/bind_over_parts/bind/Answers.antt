use Rattle.std.proofs.Common.{rules}
use Rattle.ca_localops.proofs.bind_over_parts.bind.Goals as goal

pub returns-in_default-clause-region : goal.returns-in_default-clause-region
returns-in_default-clause-region c = rw (c.in_default.is, c.in-Some-r.is) (search rules)

pub returns-in_default-clause-err_region : goal.returns-in_default-clause-err_region
returns-in_default-clause-err_region c = rw c.in-Some-r.is (search rules)

pub returns-in_default-r-2-clause-former : goal.returns-in_default-r-2-clause-former
returns-in_default-r-2-clause-former c = rw c.in-Some.is (search rules)

pub returns-in_default-r-2-clause-err_former : goal.returns-in_default-r-2-clause-err_former
returns-in_default-r-2-clause-err_former c = rw c.in-Some.is (search rules)

pub returns-clause-former : goal.returns-clause-former
returns-clause-former c = rw c.in-Some.is (search rules)

pub returns-clause-region : goal.returns-clause-region
returns-clause-region c = rw (c.in-Some.is, c.in-Some-r-2.is) (search rules)

pub returns-clause-err_former : goal.returns-clause-err_former
returns-clause-err_former c = rw c.in-Some.is (search rules)

pub returns-clause-err_region : goal.returns-clause-err_region
returns-clause-err_region c = rw c.in-Some-r-2.is (search rules)
