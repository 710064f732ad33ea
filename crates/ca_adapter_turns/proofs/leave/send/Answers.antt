use Rattle.ca_adapter_parts.proofs.HoldLemmas.{put_mailbox}
use Rattle.ca_adapter_parts.specs.HeldView.{holding}
use Rattle.ca_adapter_turns.proofs.LeaveLemmas.{mail_refused}
use Rattle.ca_adapter_turns.proofs.leave.send.Goals as goal

pub returns-in-Err-clause-held : goal.returns-in-Err-clause-held
returns-in-Err-clause-held c = mail_refused (holding c.args.held.now) _ c.args.path.from c.args.path.to c.args.lot c.args.bytes c.send.new.self
    (put_mailbox c.args.held.now c.args.path.to.queue c.send.new.self c.requires.held) c.mailbox_mut-mailbox.result.now c.mailbox_mut-mailbox.ensures.value
    c.in-Err.ensures.variant.1 c.requires.room c.in-Err.ensures.err
