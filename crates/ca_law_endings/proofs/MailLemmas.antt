-- The envelopes of a mailbox and those that were ever sent: one more, one lost, one delivered, all cut. For proofs only.
use Rattle.std.proofs.Common.{◌≡◌, ℕ, zero, suc, ◌-◌, ◌≤◌, ◌<◌, ◌==◌, arith, Bool, true, false, if◌then◌else◌, List, [], ◌∷◌, length, map, take, Option, refl, sym, ap, subst, ◌∙◌}
use Rattle.std.proofs.lemmas.Bool.Decides.{nat_tests}
use Rattle.std.proofs.lemmas.List.{length-map}
use Rattle.ca_law_endings.specs.Agreement.{AreLatest, AreNumbered, PathsAgree}
use Rattle.ca_base.specs.declared.correspondent.Correspondent.{Correspondent}
use Rattle.ca_base.specs.declared.limits.TheConstants.{KEPT_ENVELOPES}
use Rattle.ca_base.specs.declared.lot.Lot.{Lot}
use Rattle.ca_base.specs.declared.mail_envelope.MailEnvelope.{MailEnvelope}
use Rattle.ca_base.specs.objects.Mailbox.{Mailbox, after_send, with_delivery, with_peer}
use Rattle.ca_keys.specs.Equal.{queue_eq}
use Rattle.ca_keys.specs.declared.names.QueueId.{QueueId}
use Rattle.ca_law_world.proofs.Sound.SettledLemmas.{queue-path}
use Rattle.ca_model.specs.Past.{Envelope, Past, with_cut, with_lost, with_queue_emptied}
use Rattle.ca_model.specs.machine.QueuePairVerbs.{emptied_mailbox}
use Rattle.ca_model.specs.machine.World.{World}

-- an envelope that was delivered once more is the same for the past
pub delivered-latest : (later : ℕ) (ms : List MailEnvelope) (es : List Envelope) → AreLatest ms es → AreLatest (with_delivery later ms) es
delivered-latest later [] es latest = latest
delivered-latest later (m ∷ ms) [] latest = absurd latest
delivered-latest later (m ∷ ms) (e ∷ es) latest = by (later == 0) (delivered-latest (later - 1) ms es latest.1)
  where
    by : (b : Bool) → AreLatest (with_delivery (later - 1) ms) es → AreLatest (if b then record m { delivered = suc m.delivered } ∷ ms else m ∷ with_delivery (later - 1) ms) (e ∷ es)
    by true rest = (record { bytes = latest.0.bytes; lost = latest.0.lost; uncut = latest.0.uncut }, latest.1)
    by false rest = (latest.0, rest)

-- fewer of the latest are the latest
taken-latest : (k : ℕ) (ms : List MailEnvelope) (es : List Envelope) → AreLatest ms es → AreLatest (take k ms) es
taken-latest zero ms es latest = record {}
taken-latest (suc k) [] es latest = record {}
taken-latest (suc k) (m ∷ ms) [] latest = absurd latest
taken-latest (suc k) (m ∷ ms) (e ∷ es) latest = (latest.0, taken-latest k ms es latest.1)

-- one more envelope was sent
pub sent-latest : (lot : Lot) (bytes : List ℕ) (m : Mailbox) (es : List Envelope) → AreLatest (record { lot = lot; bytes = bytes; delivered = 0 } ∷ m.envelopes) es → AreLatest (after_send lot bytes m).envelopes es
sent-latest lot bytes m es latest = taken-latest KEPT_ENVELOPES (record { lot = lot; bytes = bytes; delivered = 0 } ∷ m.envelopes) es latest

same-number : (n : ℕ) → (n == n) ≡ true
same-number n = grind (arith, nat_tests)

later-number : (m n : ℕ) → m < n → (m == n) ≡ false
later-number m n less = grind (arith, nat_tests)

-- none of the envelopes before an index is lost by it
before-kept : (index : ℕ) (es : List Envelope) → AreNumbered es → length es ≤ index → with_lost index es ≡ es
before-kept index [] numbered few = refl
before-kept index (e ∷ es) numbered few = ap (λ b. (if b then record e { lost = true } else e) ∷ with_lost index es) (later-number e.index index (omega (arith, numbered.0, few)))
    ∙ ap (λ (xs : List Envelope). e ∷ xs) (before-kept index es numbered.1 (omega (arith, few)))

-- the latest envelope is lost
pub lost-one : (index : ℕ) (e : Envelope) (es : List Envelope) → e.index ≡ index → index ≡ length es → AreNumbered es → with_lost index (e ∷ es) ≡ record e { lost = true } ∷ es
lost-one index e es is counts numbered = ap (λ b. (if b then record e { lost = true } else e) ∷ with_lost index es) (ap (λ k. k == index) is ∙ same-number index)
    ∙ ap (λ (xs : List Envelope). record e { lost = true } ∷ xs) (before-kept index es numbered (omega (arith, counts)))

-- envelopes that were cut have the same indices
cut-mapped : (es : List Envelope) → AreNumbered es → AreNumbered (map with_cut es)
cut-mapped [] numbered = numbered
cut-mapped (e ∷ es) numbered = (numbered.0 ∙ sym (length-map es with_cut), cut-mapped es numbered.1)

pub cut-numbered : (name : QueueId) (p : Past) (w : World) → PathsAgree p w → (n : QueueId) → AreNumbered ((with_queue_emptied name p).envelopes n)
cut-numbered name p w agree n = by (queue_eq name n)
  where
    by : (b : Bool) → AreNumbered (if b then map with_cut (p.envelopes name) else p.envelopes n)
    by true = cut-mapped (p.envelopes name) (agree.numbered name)
    by false = agree.numbered n

-- a mailbox that was emptied keeps none, and the others what they kept
pub cut-latest : (name : QueueId) (p : Past) (w : World) (incarnation : ℕ) (m : Mailbox) → PathsAgree p w → (n : QueueId)
    → AreLatest (if queue_eq name n then emptied_mailbox incarnation m else w.mailbox n).envelopes ((with_queue_emptied name p).envelopes n)
cut-latest name p w incarnation m agree n = by (queue_eq name n)
  where
    by : (b : Bool) → AreLatest (if b then emptied_mailbox incarnation m else w.mailbox n).envelopes (if b then map with_cut (p.envelopes name) else p.envelopes n)
    by true = record {}
    by false = agree.latest n

-- a mailbox that accepts another keeps what it kept
pub peer-latest : (name : QueueId) (p : Past) (w : World) (incarnation : ℕ) (peer : Option Correspondent) → PathsAgree p w → (n : QueueId)
    → AreLatest (if queue_eq name n then with_peer incarnation peer (w.mailbox name) else w.mailbox n).envelopes (p.envelopes n)
peer-latest name p w incarnation peer agree n = by (queue_eq name n) refl
  where
    by : (b : Bool) → queue_eq name n ≡ b → AreLatest (if b then with_peer incarnation peer (w.mailbox name) else w.mailbox n).envelopes (p.envelopes n)
    by true e = subst (λ k. AreLatest (w.mailbox name).envelopes (p.envelopes k)) (queue-path name n e) (agree.latest name)
    by false e = agree.latest n
