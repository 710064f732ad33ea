-- What a mailbox lends was sent to its queue pair: where past and world agree. For proofs only.
use Rattle.std.proofs.Common.{◌≡◌, ℕ, zero, suc, ◌+◌, ◌-◌, ◌≤◌, ◌<◌, ◌==◌, nat_lt, arith, Bool, true, false, if◌then◌else◌, List, [], ◌∷◌, length, find, Option, None, Some, refl, sym, ap, true≢false, is_some, ◌∙◌}
use Rattle.std.proofs.lemmas.Bool.Decides.{nat_tests}
use Rattle.std.proofs.lemmas.Option.{slice_get_within}
use Rattle.std.specs.List.{slice_get}
use Rattle.std.specs.Option.{option_and_then}
use Rattle.ca_law_endings.specs.Agreement.{AreLatest, AreNumbered, PathsAgree, WereSent}
use Rattle.ca_base.specs.Configuration.{Configuration}
use Rattle.ca_base.specs.declared.limits.TheConstants.{KEPT_ENVELOPES}
use Rattle.ca_base.specs.declared.mail_envelope.MailEnvelope.{MailEnvelope}
use Rattle.ca_base.specs.objects.Mailbox.{Mailbox, bytes_lent, is_lost, later_than}
use Rattle.ca_keys.specs.declared.names.QueueId.{QueueId}
use Rattle.ca_model.specs.Past.{Envelope, Past}
use Rattle.ca_model.specs.machine.Sound.{IsSoundWorld}
use Rattle.ca_model.specs.machine.World.{Mailbox_of, World}

-- the bytes of an envelope that was not lost
abbrev lends : MailEnvelope → Option (List ℕ)
lends e = if is_lost e.lot then None else Some e.bytes

-- an envelope of this index, among those that were sent
record IsFound (es : List Envelope) (index : ℕ) (arrived : List ℕ) : Type 0 where
  envelope : Envelope
  sent : find (λ e. e.index == index) es ≡ Some envelope
  bytes : envelope.bytes ≡ arrived
  whole : envelope.lost ≡ false
  uncut : envelope.cut ≡ false

same-number : (m n : ℕ) → m ≡ n → (m == n) ≡ true
same-number m n same = grind (arith, nat_tests)

later-number : (m n : ℕ) → n < m → (m == n) ≡ false
later-number m n less = grind (arith, nat_tests)

abbrev of-bytes : Option (List ℕ) → List ℕ
of-bytes None = []
of-bytes (Some bytes) = bytes

-- one that is found behind another
behind : (e : Envelope) (es : List Envelope) (index : ℕ) (arrived : List ℕ) → (e.index == index) ≡ false → IsFound es index arrived → IsFound (e ∷ es) index arrived
behind e es index arrived other found = record {
  envelope = found.envelope;
  sent = ap (λ b. if b then Some e else find (λ e. e.index == index) es) other ∙ found.sent;
  bytes = found.bytes;
  whole = found.whole;
  uncut = found.uncut;
}

walk : (ms : List MailEnvelope) (es : List Envelope) (index later : ℕ) (arrived : List ℕ) → AreLatest ms es → AreNumbered es → length es ≡ suc (index + later)
    → option_and_then lends (slice_get ms later) ≡ Some arrived → IsFound es index arrived
walk [] es index later arrived latest numbered long is = absurd (true≢false (sym (ap is_some is)))
walk (m ∷ ms) [] index later arrived latest numbered long is = absurd latest
walk (m ∷ ms) (e ∷ es) index zero arrived latest numbered long is = by (is_lost m.lot) refl is
  where
    by : (b : Bool) → is_lost m.lot ≡ b → (if b then None else Some m.bytes) ≡ Some arrived → IsFound (e ∷ es) index arrived
    by true lost is = absurd (true≢false (sym (ap is_some is)))
    by false lost is = record {
      envelope = e;
      sent = ap (λ b. if b then Some e else find (λ e. e.index == index) es) (same-number e.index index (omega (arith, numbered.0, long)));
      bytes = latest.0.bytes ∙ ap of-bytes is;
      whole = latest.0.lost ∙ lost;
      uncut = latest.0.uncut;
    }
walk (m ∷ ms) (e ∷ es) index (suc later) arrived latest numbered long is =
    behind e es index arrived (later-number e.index index (omega (arith, numbered.0, long))) (walk ms es index later arrived latest.1 numbered.1 (omega (arith, long)) is)

-- the envelope with so many later ones is kept
kept : (ms : List MailEnvelope) (later : ℕ) (arrived : List ℕ) → option_and_then lends (slice_get ms later) ≡ Some arrived → later < length ms
kept ms later arrived is = by (slice_get ms later) refl is
  where
    by : (o : Option MailEnvelope) → slice_get ms later ≡ o → option_and_then lends o ≡ Some arrived → later < length ms
    by None e is = absurd (true≢false (sym (ap is_some is)))
    by (Some m) e is = slice_get_within ms later m e

before-next : (index next : ℕ) → nat_lt index next ≡ true → next ≡ suc (index + (next - suc index))
before-next index next less = grind (arith, nat_tests)

-- what can be delivered was sent
pub lent-sent : (c : Configuration) (past : Past) (w : World) (q : QueueId) (index : ℕ) (arrived : List ℕ) → IsSoundWorld c w → PathsAgree past w → bytes_lent index (w.mailbox q) ≡ Some arrived
    → WereSent past q index arrived
lent-sent c past w q index arrived sound agree is = by (nat_lt index m.next) refl is
  where
    m : Mailbox
    m = w.mailbox q

    by : (b : Bool) → nat_lt index m.next ≡ b → option_and_then lends (if b then slice_get m.envelopes (later_than index m) else None) ≡ Some arrived → WereSent past q index arrived
    by false e is = absurd (true≢false (sym (ap is_some is)))
    by true e is = record {
      envelope = found.envelope;
      sent = found.sent;
      bytes = found.bytes;
      whole = found.whole;
      uncut = found.uncut;
      recent = omega (arith, kept m.envelopes (later_than index m) arrived is, few, before-next index m.next e, agree.counts q);
    }
      where
        few : length m.envelopes ≤ KEPT_ENVELOPES
        few = (sound.things (Mailbox_of q)).kept

        found : IsFound (past.envelopes q) index arrived
        found = walk m.envelopes (past.envelopes q) index (later_than index m) arrived (agree.latest q) (agree.numbered q) (sym (agree.counts q) ∙ before-next index m.next e) is
