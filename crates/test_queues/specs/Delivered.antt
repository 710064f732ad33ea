-- How often an envelope of a mailbox was delivered at most. Contracts of tests cite it.
use Rattle.std.specs.Prelude.{ℕ, max, List, [], ◌∷◌}
use Rattle.ca_base.specs.declared.mail_envelope.MailEnvelope.{MailEnvelope}

abbrev pub most_delivered : List MailEnvelope → ℕ
most_delivered [] = 0
most_delivered (e ∷ es) = max e.delivered (most_delivered es)
