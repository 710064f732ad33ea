use Rattle.ca_adapter_local.proofs.KeptLemmas.{kept-both}
use Rattle.ca_adapter_local.proofs.bind.bind_across.Goals as goal

pub returns-clause-err : goal.returns-clause-err
returns-clause-err c = kept-both c.bind_moving.result c.args.reached.now c.args.site.window c.in-Some.named c.bind_moving.new.window c.at_mut-window.result.now c.bind_moving.new.region c.at_mut-region.result.now
    c.at_mut-window.ensures.value c.at_mut-region.ensures.value c.bind_moving.ensures.err_window c.bind_moving.ensures.err_region
