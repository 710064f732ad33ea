use Rattle.std.proofs.lemmas.Result.{err_from_is_err_and}
use Rattle.ca_base.specs.objects.Region.{fast_registration_refusals}
use Rattle.ca_localops.proofs.Refused.{fails-by-region}
use Rattle.ca_localops.proofs.fast_registration.fast.Goals as goal

pub returns-in_err-grant-clause-refused : goal.returns-in_err-grant-clause-refused
returns-in_err-grant-clause-refused c =
    let p = err_from_is_err_and c.from_residual.result c.from_residual.ensures.1 in
    let f = c.in-FastReg in
    rw (p.1, p.2, f.is) (
    fails-by-region
    (fast_registration_refusals c.args.slot f.buffer c.args.buffer_length f.address f.length f.rights f.pages c.args.r.now)
    c.in_err-grant.field-0.0 c.in_err-grant.ensures.refused)
