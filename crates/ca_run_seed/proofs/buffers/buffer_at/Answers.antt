use Rattle.std.proofs.Common.{◌∙◌, None, Some, ap, subst, sym}
use Rattle.std.specs.Option.{option_copied}
use Rattle.ca_run_seed.proofs.BufferLemmas.{buffer_seen}
use Rattle.ca_run_seed.specs.Buffers.{IsBufferSeen}
use Rattle.ca_run_seed.proofs.buffers.buffer_at.Goals as goal

pub returns-in-None : goal.returns-in-None
returns-in-None c = λ k w of. buffer_seen c.args.row.now c.args.adapter c.args.buffer k w of None (sym (ap option_copied c.in-None.is) ∙ c.part.ensures)

pub returns-in-Some : goal.returns-in-Some
returns-in-Some c = λ k w of. subst (IsBufferSeen k w c.args.adapter c.args.buffer) (sym c.buffer_in.ensures)
    (buffer_seen c.args.row.now c.args.adapter c.args.buffer k w of (Some c.in-Some.part.now) (sym (ap option_copied c.in-Some.is) ∙ c.part.ensures))
