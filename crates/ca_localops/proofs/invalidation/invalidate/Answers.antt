use Rattle.std.proofs.Common.{rules}
use Rattle.ca_localops.proofs.invalidation.invalidate.Goals as goal

pub returns-in_default-clause-accepted : goal.returns-in_default-clause-accepted
returns-in_default-clause-accepted c = rw (c.in_default.is, c.in-Some-r.is) (search rules)

pub returns-in_default-clause-refused : goal.returns-in_default-clause-refused
returns-in_default-clause-refused c = rw (c.in_default.is, c.in-Some-r.is) (search rules)

pub returns-in_default-clause-region : goal.returns-in_default-clause-region
returns-in_default-clause-region c = rw c.in-Some-r.is (search rules)

pub returns-in_default-clause-err_region : goal.returns-in_default-clause-err_region
returns-in_default-clause-err_region c = rw c.in-Some-r.is (search rules)

pub returns-in_default-r-2-clause-err_window : goal.returns-in_default-r-2-clause-err_window
returns-in_default-r-2-clause-err_window c = rw c.in-Some.is (search rules)

pub returns-clause-window : goal.returns-clause-window
returns-clause-window c = rw c.in-Some.is (search rules)

pub returns-clause-region : goal.returns-clause-region
returns-clause-region c = rw c.in-Some-r-2.is (search rules)

pub returns-clause-err_window : goal.returns-clause-err_window
returns-clause-err_window c = rw c.in-Some.is (search rules)

pub returns-clause-err_region : goal.returns-clause-err_region
returns-clause-err_region c = rw c.in-Some-r-2.is (search rules)
