use Rattle.ca_qpstate.proofs.fields.field_refusal.Goals as goal

pub returns-in-Rts-clause-first : goal.returns-in-Rts-clause-first
returns-in-Rts-clause-first c =
    rw c.in-Rts.is (c.rts_refusal.ensures c.args.settings.now c.args.queue)
