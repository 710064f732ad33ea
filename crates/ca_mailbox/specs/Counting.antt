-- Which envelope may be delivered once more. Contracts cite it.
use Rattle.std.specs.Prelude.{ℕ, suc, ◌^◌, ◌&&◌, Bool, false, not, nat_lt}
use Rattle.std.specs.Option.{option_map_or}
use Rattle.ca_base.specs.declared.mail_envelope.MailEnvelope.{MailEnvelope}
use Rattle.ca_base.specs.objects.Mailbox.{Mailbox, envelope_at, is_lost}

-- its count of deliveries is not at the end of its type
abbrev pub has_count_left : MailEnvelope → Bool
has_count_left e = nat_lt (suc e.delivered) (2 ^ 64)

-- the envelope of this index is kept, was not lost, and its count of deliveries is not at the end of its type
abbrev pub is_countable : ℕ → Mailbox → Bool
is_countable index m = option_map_or (λ e. not (is_lost e.lot) && has_count_left e) (envelope_at index m) false
