use Rattle.std.proofs.Common.{◌∙◌, ◌<◌, sym, ap, subst, arith}
use Rattle.ca_adapter_local.proofs.KeptLemmas.{few-still, former-there, left-there, other-at, still-there, undone}
use Rattle.ca_adapter_local.specs.Site.{HasBound}
use Rattle.ca_adapter_reach.specs.Seen.{window_in}
use Rattle.ca_localops.specs.Binds.{is_bound_in_named}
use Rattle.ca_localops.specs.Requests.{request_of}
use Rattle.std.proofs.Common.{Some}
use Rattle.ca_adapter_local.proofs.bind.bind_at.Goals as goal

pub bind_across-made-requires-clause-named : goal.bind_across-made-requires-clause-named
bind_across-made-requires-clause-named c = still-there c.args.reached.now c.in-Some.former c.replace-left.new.dest
    (former-there c.args.reached.now c.args.site c.in-Some.former c.requires.parts c.in-Some.is) c.args.site.named c.requires.parts.named

pub bind_across-made-requires-clause-room : goal.bind_across-made-requires-clause-room
bind_across-made-requires-clause-room c = few-still c.args.reached.now c.in-Some.former c.replace-left.new.dest
    (former-there c.args.reached.now c.args.site c.in-Some.former c.requires.parts c.in-Some.is) _ c.args.site.named
    (subst (λ x. x.bound < _) (sym (c.replace-left.ensures.after ∙ c.vacant.ensures)) (omega arith)) c.requires.room

pub at_mut-requires-2 : goal.at_mut-requires-2
at_mut-requires-2 c = left-there c.args.reached.now c.in-Some.former c.replace-left.new.dest
    (former-there c.args.reached.now c.args.site c.in-Some.former c.requires.parts c.in-Some.is) c.bind_across-made.result c.args.site
    (is_bound_in_named (window_in c.args.reached.now c.args.site.window) (Some c.replace-left.result)) (request_of c.args.op.now c.args.site.drawn c.args.site.queue)
    c.bind_across-made.new.reached c.bind_across-made.ensures.parts c.bind_across-made.ensures.err c.requires.parts.named

pub returns-clause-bound : goal.returns-clause-bound
returns-clause-bound c = subst (λ o. HasBound c.bind_across-made.result (request_of c.args.op.now c.args.site.drawn c.args.site.queue) (window_in c.args.reached.now c.args.site.window) o
    c.args.windows.now c.bind_across-made.new.windows)
    (other-at c.args.reached.now c.in-Some.former c.replace-left.new.dest (former-there c.args.reached.now c.args.site c.in-Some.former c.requires.parts c.in-Some.is)
    c.args.site.named (λ n is. c.requires.parts.apart c.in-Some.former n c.in-Some.is is)) c.bind_across-made.ensures.bound

pub returns-clause-err : goal.returns-clause-err
returns-clause-err c = undone c.args.reached.now c.in-Some.former c.replace-left.new.dest (former-there c.args.reached.now c.args.site c.in-Some.former c.requires.parts c.in-Some.is)
    c.bind_across-made.result c.bind_across-made.new.reached c.bind_across-made.new.former c.replace-left.result c.bind_across-made.ensures.err c.bind_across-made.ensures.err_former
    (ap Some c.replace-left.ensures.value ∙ c.at_mut.ensures.value)
