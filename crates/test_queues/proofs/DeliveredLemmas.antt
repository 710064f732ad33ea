-- Lemmas on how often envelopes were delivered. For proofs only.
use Rattle.std.proofs.Common.{◌≡◌, ℕ, suc, zero, ◌-◌, ◌<◌, ◌≤◌, ◌^◌, ◌==◌, ◌&&◌, max, not, nat_lt, Bool, true, false, if◌then◌else◌, List, [], ◌∷◌, take, slice_get, Option, Some, None, IsTrue, arith}
use Rattle.std.proofs.lemmas.Grind.{common_steps}
use Rattle.std.proofs.lemmas.Bool.{lt-ltb}
use Rattle.std.specs.Option.{option_and_then, option_map_or}
use Rattle.ca_base.specs.declared.mail_envelope.MailEnvelope.{MailEnvelope}
use Rattle.ca_base.specs.objects.Mailbox.{Mailbox, after_delivery, after_send, bytes_lent, envelope_at, is_lost, later_than, with_delivery}
use Rattle.ca_base.specs.declared.lot.Lot.{Lot}
use Rattle.ca_mailbox.specs.Counting.{has_count_left, is_countable}
use Rattle.test_queues.specs.Delivered.{most_delivered}

most-take : (n : ℕ) (es : List MailEnvelope) → most_delivered (take n es) ≤ most_delivered es
most-take zero es = omega arith
most-take (suc n) [] = omega arith
most-take (suc n) (e ∷ es) = omega (arith, most-take n es)

pub most_after_send : (lot : Lot) (bytes : List ℕ) (m : Mailbox) → most_delivered (after_send lot bytes m).envelopes ≤ most_delivered m.envelopes
most_after_send lot bytes m = omega (arith, most-take 256 (record { lot = lot; bytes = bytes; delivered = 0 } ∷ m.envelopes))

most-with : (k : ℕ) (es : List MailEnvelope) → most_delivered (with_delivery k es) ≤ suc (most_delivered es)
most-with k [] = omega arith
most-with k (e ∷ es) = by (k == 0) (most-with (k - 1) es)
  where
    by : (b : Bool) → most_delivered (with_delivery (k - 1) es) ≤ suc (most_delivered es) → most_delivered (if b then record e { delivered = suc e.delivered } ∷ es else e ∷ with_delivery (k - 1) es) ≤ suc (max e.delivered (most_delivered es))
    by true rest = omega arith
    by false rest = omega (arith, rest)

pub most_after_delivery : (index : ℕ) (m : Mailbox) → most_delivered (after_delivery index m).envelopes ≤ suc (most_delivered m.envelopes)
most_after_delivery index m = most-with (later_than index m) m.envelopes

-- an envelope at a place
abbrev IsFew : ℕ → Option MailEnvelope → Type 0
IsFew most None = Unit {0}
IsFew most (Some e) = e.delivered ≤ most

few-at : (k : ℕ) (es : List MailEnvelope) → IsFew (most_delivered es) (slice_get es k)
few-at k [] = record {}
few-at zero (e ∷ es) = omega arith
few-at (suc k) (e ∷ es) = by (slice_get es k) (few-at k es)
  where
    by : (o : Option MailEnvelope) → IsFew (most_delivered es) o → IsFew (max e.delivered (most_delivered es)) o
    by None few = record {}
    by (Some x) few = omega (arith, few)

few-of : (index : ℕ) (m : Mailbox) → IsFew (most_delivered m.envelopes) (envelope_at index m)
few-of index m = by (nat_lt index m.next)
  where
    by : (b : Bool) → IsFew (most_delivered m.envelopes) (if b then slice_get m.envelopes (later_than index m) else None)
    by true = few-at (later_than index m) m.envelopes
    by false = record {}

-- what is lent may be counted, where no envelope was delivered too often
pub lent_is_countable : (index : ℕ) (m : Mailbox) (bytes : List ℕ) → bytes_lent index m ≡ Some bytes → suc (most_delivered m.envelopes) < 2 ^ 64 → IsTrue (is_countable index m)
lent_is_countable index m bytes lent few = by (envelope_at index m) lent (few-of index m)
  where
    by : (o : Option MailEnvelope) → option_and_then (λ e. if is_lost e.lot then None else Some e.bytes) o ≡ Some bytes → IsFew (most_delivered m.envelopes) o
        → IsTrue (option_map_or (λ e. not (is_lost e.lot) && has_count_left e) o false)
    by None lent at = grind (arith, common_steps, lent)
    by (Some e) lent at = kept (is_lost e.lot) lent
      where
        kept : (b : Bool) → (if b then None else Some e.bytes) ≡ Some bytes → IsTrue (not b && has_count_left e)
        kept true lent = grind (arith, common_steps, lent)
        kept false lent = lt-ltb (suc e.delivered) (2 ^ 64) (omega (arith, at, few))
