use Rattle.std.proofs.Common.{◌∙◌, ap}
use Rattle.std.proofs.lemmas.Result.{err_from_is_err_and}
use Rattle.ca_adapter_local.proofs.KeptLemmas.{kept-region}
use Rattle.ca_adapter_local.proofs.OperationLemmas.{fast-failed, fast-made}
use Rattle.ca_base.specs.Configuration.{configuration_in}
use Rattle.ca_base.specs.objects.Slices.{buffer_length}
use Rattle.std.specs.Option.{unwrap_or}
use Rattle.ca_adapter_local.proofs.fast_registration.register.Goals as goal

pub returns : goal.returns
returns c = λ h drawn same. fast-made (configuration_in c.args.settings.now) h c.args.q.now drawn c.in-FastReg.region c.in-FastReg.low c.in-FastReg.buffer c.in-FastReg.address
    c.in-FastReg.length c.in-FastReg.rights c.in-FastReg.pages c.args.op.now c.in-FastReg.is c.args.reached.now same
    (record { domain = c.q.inside.domain; slot = c.in-FastReg.region }) (ap (λ q. record { domain = q.domain; slot = c.in-FastReg.region }) c.q.view_is)
    c.at_mut.result.now c.at_mut.ensures.value c.unwrap_or-bytes.result (c.unwrap_or-bytes.ensures
    ∙ ap (λ o. unwrap_or o 0) (c.buffer_length.ensures ∙ ap (λ q. buffer_length (configuration_in c.args.settings.now) q.domain.adapter c.in-FastReg.buffer) c.q.view_is))
    c.in_ok-marks.marks c.q.inside.windows c.fast.new.r (ap (λ q. q.windows) c.q.view_is) c.in_ok-marks.ensures.accepted c.in_ok-marks.ensures.revoked c.in_ok-marks.ensures.granted c.in_ok-marks.ensures.region

pub returns-in_err-marks : goal.returns-in_err-marks
returns-in_err-marks c =
    let p = err_from_is_err_and c.from_residual.result c.from_residual.ensures.1 in
    rw (p.1, p.2) (λ h drawn same. fast-failed (configuration_in c.args.settings.now) h c.args.q.now drawn c.in-FastReg.region c.in-FastReg.low c.in-FastReg.buffer c.in-FastReg.address
    c.in-FastReg.length c.in-FastReg.rights c.in-FastReg.pages c.args.op.now c.in-FastReg.is c.args.reached.now same
    (record { domain = c.q.inside.domain; slot = c.in-FastReg.region }) (ap (λ q. record { domain = q.domain; slot = c.in-FastReg.region }) c.q.view_is)
    c.at_mut.result.now c.at_mut.ensures.value c.unwrap_or-bytes.result (c.unwrap_or-bytes.ensures
    ∙ ap (λ o. unwrap_or o 0) (c.buffer_length.ensures ∙ ap (λ q. buffer_length (configuration_in c.args.settings.now) q.domain.adapter c.in-FastReg.buffer) c.q.view_is))
    c.in_err-marks.field-0.0 _ c.in_err-marks.ensures.refused
    (kept-region c.args.reached.now (record { domain = c.q.inside.domain; slot = c.in-FastReg.region }) c.fast.new.r c.at_mut.result.now c.at_mut.ensures.value c.in_err-marks.ensures.err))
