-- The envelopes of a mailbox and the entries of a link.
use Rattle.std.proofs.Common.{◌≡◌, ℕ, zero, suc, ◌-◌, ◌<◌, ◌==◌, arith, Bool, true, false, nat_lt, if◌then◌else◌, List, [], ◌∷◌, Option, None, Some, is_some, slice_get, refl, ap, sym, subst, true≢false}
use Rattle.std.proofs.lemmas.Option.{same_Some, slice_get_within}
use Rattle.std.specs.Option.{option_and_then}
use Rattle.ca_base.specs.declared.limits.TheConstants.{KEPT_ENVELOPES}
use Rattle.ca_base.specs.declared.mail_envelope.MailEnvelope.{MailEnvelope}
use Rattle.ca_base.specs.objects.Mailbox.{Mailbox, bytes_lent, is_lost, later_than, with_delivery}
use Rattle.ca_model.specs.machine.Invariants.{IsMailbox}
use Rattle.ca_law_once.specs.Ties.{AreEntries}

-- what the entry at a place stands for
abbrev pub EntryIs : {X : Type 0} → (X → List ℕ → Type 0) → (List ℕ → Type 0) → Option (Option X) → List ℕ → Type 0
EntryIs Own Other None bytes = ⊥
EntryIs Own Other (Some None) bytes = Other bytes
EntryIs Own Other (Some (Some x)) bytes = Own x bytes

pub entry-at : {X : Type 0} (Own : X → List ℕ → Type 0) (Other : List ℕ → Type 0) (es : List MailEnvelope) (xs : List (Option X)) (k : ℕ) (e : MailEnvelope) → AreEntries Own Other es xs → slice_get es k ≡ Some e
    → EntryIs Own Other (slice_get xs k) e.bytes
entry-at Own Other [] xs k e entries is = absurd (true≢false (sym (ap is_some is)))
entry-at Own Other (m ∷ ms) [] k e entries is = absurd entries
entry-at Own Other (m ∷ ms) (None ∷ xs) zero e entries is = subst (λ (m : MailEnvelope). Other m.bytes) (same_Some m e is) entries.0
entry-at Own Other (m ∷ ms) (Some x ∷ xs) zero e entries is = subst (λ (m : MailEnvelope). Own x m.bytes) (same_Some m e is) entries.0
entry-at Own Other (m ∷ ms) (None ∷ xs) (suc k) e entries is = entry-at Own Other ms xs k e entries.1 is
entry-at Own Other (m ∷ ms) (Some x ∷ xs) (suc k) e entries is = entry-at Own Other ms xs k e entries.1 is

-- a delivery leaves what the envelopes stand for
pub delivered-entries : {X : Type 0} (Own : X → List ℕ → Type 0) (Other : List ℕ → Type 0) (later : ℕ) (es : List MailEnvelope) (xs : List (Option X)) → AreEntries Own Other es xs
    → AreEntries Own Other (with_delivery later es) xs
delivered-entries Own Other later [] xs entries = entries
delivered-entries Own Other later (m ∷ ms) [] entries = absurd entries
delivered-entries Own Other later (m ∷ ms) (None ∷ xs) entries = by (later == 0) (delivered-entries Own Other (later - 1) ms xs entries.1)
  where
    by : (b : Bool) → AreEntries Own Other (with_delivery (later - 1) ms) xs → AreEntries Own Other (if b then record m { delivered = suc m.delivered } ∷ ms else m ∷ with_delivery (later - 1) ms) (None ∷ xs)
    by true rest = entries
    by false rest = (entries.0, rest)
delivered-entries Own Other later (m ∷ ms) (Some x ∷ xs) entries = by (later == 0) (delivered-entries Own Other (later - 1) ms xs entries.1)
  where
    by : (b : Bool) → AreEntries Own Other (with_delivery (later - 1) ms) xs → AreEntries Own Other (if b then record m { delivered = suc m.delivered } ∷ ms else m ∷ with_delivery (later - 1) ms) (Some x ∷ xs)
    by true rest = entries
    by false rest = (entries.0, rest)

-- the envelope whose bytes are lent
pub record IsLent (index : ℕ) (m : Mailbox) (bytes : List ℕ) : Type 0 where
  pub envelope : MailEnvelope
  pub at : slice_get m.envelopes (later_than index m) ≡ Some envelope
  pub brings : envelope.bytes ≡ bytes

pub lent-envelope : (index : ℕ) (m : Mailbox) (bytes : List ℕ) → bytes_lent index m ≡ Some bytes → IsLent index m bytes
lent-envelope index m bytes is = by (nat_lt index m.next) is
  where
    got : (o : Option MailEnvelope) → slice_get m.envelopes (later_than index m) ≡ o → option_and_then (λ e. if is_lost e.lot then None else Some e.bytes) o ≡ Some bytes → IsLent index m bytes
    got None at is = absurd (true≢false (sym (ap is_some is)))
    got (Some e) at is = lost (is_lost e.lot) is
      where
        lost : (b : Bool) → (if b then None else Some e.bytes) ≡ Some bytes → IsLent index m bytes
        lost true is = absurd (true≢false (sym (ap is_some is)))
        lost false is = record { envelope = e; at = at; brings = same_Some e.bytes bytes is }

    by : (b : Bool) → option_and_then (λ (e : MailEnvelope). if is_lost e.lot then None else Some e.bytes) (if b then slice_get m.envelopes (later_than index m) else None) ≡ Some bytes → IsLent index m bytes
    by true is = got (slice_get m.envelopes (later_than index m)) refl is
    by false is = absurd (true≢false (sym (ap is_some is)))

-- it is one of the latest
pub lent-recent : (index : ℕ) (m : Mailbox) (bytes : List ℕ) → IsMailbox m → IsLent index m bytes → later_than index m < KEPT_ENVELOPES
lent-recent index m bytes s lent = omega (arith, s.kept, slice_get_within m.envelopes (later_than index m) lent.envelope lent.at)
