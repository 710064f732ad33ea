use Rattle.std.proofs.Common.{ℕ, ap, ◌∙◌}
use Rattle.rand_pcg.specs.Lcg.{Lcg, started, increment_of}
use Rattle.rand_pcg.specs.Pcg.{multiplier_64}
use Rattle.ca_script_seed.proofs.MadeLemmas.{request_begin, request_step, request_done}
use Rattle.ca_script_seed.specs.Made.{generator}
use Rattle.ca_script_seed.proofs.requests.add_requests.Goals as goal

pub loop-i-init : goal.loop-i-init
loop-i-init c =
    request_begin c.args.domain c.args.number c.args.lines.now.items c.new-generator.result (generator c.args.seed c.args.domain)
    (c.new-generator.ensures ∙ ap (λ (stream : ℕ). started 64 multiplier_64 c.args.seed (increment_of 64 stream)) c.from.ensures)

pub loop-i-preserved : goal.loop-i-preserved
loop-i-preserved c =
    request_step c.args.domain c.loop-i.i 200 c.args.number c.loop-i.lines.items c.push.new.self.items c.push-in-loop-i.new.self.items _
    c.line.result c.line-in-loop-i.result c.post.result c.wait.result c.next_word-word.result c.loop-i.generator c.next_word-word.new.self
    c.in_ok-push.ensures.items c.in_ok-push-2.ensures.items c.line.ensures c.post.ensures c.line-in-loop-i.ensures c.wait.ensures
    (ap (λ (p : ℕ × Lcg). p.0) c.next_word-word.ensures) (ap (λ (p : ℕ × Lcg). p.1) c.next_word-word.ensures)
    c.loop-i-test.true c.loop-i.invariant

pub returns : goal.returns
returns c = request_done c.args.domain c.loop-i.i 200 _ c.loop-i.lines.items _ c.loop-i.generator c.loop-i-test.false c.loop-i.invariant
