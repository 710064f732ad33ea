-- Which envelopes of a mailbox are undelivered, where each passes and the oldest is delivered first. For proofs only.
use Rattle.std.proofs.Common.{◌≡◌, ℕ, zero, suc, ◌-◌, ◌≤◌, ◌==◌, ◌&&◌, Bool, true, false, nat_lt, if◌then◌else◌, List, [], ◌∷◌, length, filter, take, None, Some, is_some, refl, ap, ap₂, sym, subst, ◌∙◌, arith, true≢false}
use Rattle.std.proofs.lemmas.Bool.Decides.{nat_tests}
use Rattle.std.proofs.lemmas.Option.{same_Some}
use Rattle.std.specs.Option.{option_or}
use Rattle.ca_base.specs.declared.limits.TheConstants.{KEPT_ENVELOPES}
use Rattle.ca_base.specs.declared.lot.Lot.TheVariants.{Pass}
use Rattle.ca_base.specs.declared.mail_envelope.MailEnvelope.{MailEnvelope}
use Rattle.ca_base.specs.objects.Mailbox.{Mailbox, after_send, deliveries, due, due_from, is_ready, is_undelivered, later_than, only_holds, undelivered_count, with_delivery}
use Rattle.ca_model.specs.machine.Invariants.{IsMailbox}
use Rattle.ca_law_lossless.specs.CalmTies.{AreFresh}

fresh-length : (k : ℕ) (es : List MailEnvelope) → AreFresh k es → k ≤ length es
fresh-length zero es fresh = omega arith
fresh-length (suc k) [] fresh = absurd fresh
fresh-length (suc k) (e ∷ es) fresh = omega (arith, fresh-length k es fresh.1)

-- an envelope that passes wants one delivery
fresh-one : (e : MailEnvelope) → e.lot ≡ Pass → e.delivered ≡ 0 → is_undelivered e ≡ true
fresh-one e pass none = ap₂ (λ n l. nat_lt n (deliveries l)) none pass

done-one : (e : MailEnvelope) → e.lot ≡ Pass → e.delivered ≡ 0 → is_undelivered (record e { delivered = suc e.delivered }) ≡ false
done-one e pass none = ap₂ (λ n l. nat_lt (suc n) (deliveries l)) none pass

fresh-counted : (k : ℕ) (es : List MailEnvelope) → AreFresh k es → k ≤ undelivered_count es
fresh-counted zero es fresh = omega arith
fresh-counted (suc k) [] fresh = absurd fresh
fresh-counted (suc k) (e ∷ es) fresh = omega (
  arith,
  fresh-counted k es fresh.1,
  ap (λ b. length (if b then e ∷ filter is_undelivered es else filter is_undelivered es)) (fresh-one e fresh.0.0 fresh.0.1),
)

-- ---- which one is due

none-due : (h : Bool) (next later : ℕ) (es : List MailEnvelope) → AreFresh 0 es → due_from h next later es ≡ None
none-due h next later [] fresh = refl
none-due h next later (e ∷ es) fresh = ap₂ option_or (none-due h (next - 1) (if nat_lt 0 e.delivered then suc later else later) es fresh.1)
    (ap (λ b. if b && is_ready h later e.lot then Some (next - 1) else None) fresh.0)

some-due : (h : Bool) (next later k : ℕ) (es : List MailEnvelope) → AreFresh (suc k) es → due_from h next later es ≡ Some (next - suc k)
some-due h next later k [] fresh = absurd fresh
some-due h next later zero (e ∷ es) fresh = ap₂ option_or (none-due h (next - 1) (if nat_lt 0 e.delivered then suc later else later) es fresh.1)
    (ap₂ (λ b l. if b && is_ready h later l then Some (next - 1) else None) (fresh-one e fresh.0.0 fresh.0.1) fresh.0.0)
some-due h next later (suc k) (e ∷ es) fresh =
    ap (λ o. option_or o (if is_undelivered e && is_ready h later e.lot then Some (next - 1) else None))
    (some-due h (next - 1) (if nat_lt 0 e.delivered then suc later else later) k es fresh.1)
    ∙ ap (λ n. Some n) (let same : next - 1 - suc k ≡ next - suc (suc k) = omega arith in same)

-- what is due is the oldest that is undelivered
pub record IsOldest (k index : ℕ) (m : Mailbox) : Type 0 where
  pub rest : ℕ
  pub count : k ≡ suc rest
  pub place : later_than index m ≡ rest

pub oldest : (m : Mailbox) (k index : ℕ) → IsMailbox m → AreFresh k m.envelopes → due m ≡ Some index → IsOldest k index m
oldest m zero index s fresh is = absurd (true≢false (sym (ap is_some (sym (none-due (only_holds m.envelopes) m.next 0 m.envelopes fresh) ∙ is))))
oldest m (suc k) index s fresh is = record {
  rest = k;
  count = refl;
  place = omega (arith, fresh-length (suc k) m.envelopes fresh, s.came, same_Some (m.next - suc k) index (sym (some-due (only_holds m.envelopes) m.next 0 k m.envelopes fresh) ∙ is));
}

-- ---- what a delivery and a packet that is sent leave

pub fresh-delivered : (k : ℕ) (es : List MailEnvelope) → AreFresh (suc k) es → AreFresh k (with_delivery k es)
fresh-delivered k [] fresh = absurd fresh
fresh-delivered zero (e ∷ es) fresh = (done-one e fresh.0.0 fresh.0.1, fresh.1)
fresh-delivered (suc k) (e ∷ es) fresh = subst (λ b. AreFresh (suc k) (if b then record e { delivered = suc e.delivered } ∷ es else e ∷ with_delivery (suc k - 1) es)) (sym none)
    (subst (λ n. AreFresh (suc k) (e ∷ with_delivery n es)) (sym less) (fresh.0, fresh-delivered k es fresh.1))
  where
    none : (suc k == 0) ≡ false
    none = grind (arith, nat_tests)

    less : suc k - 1 ≡ k
    less = omega arith

done-taken : (j : ℕ) (es : List MailEnvelope) → AreFresh 0 es → AreFresh 0 (take j es)
done-taken zero es fresh = tt
done-taken (suc j) [] fresh = tt
done-taken (suc j) (e ∷ es) fresh = (fresh.0, done-taken j es fresh.1)

fresh-taken : (k j : ℕ) (es : List MailEnvelope) → k ≤ j → AreFresh k es → AreFresh k (take j es)
fresh-taken zero j es less fresh = done-taken j es fresh
fresh-taken (suc k) j [] less fresh = absurd fresh
fresh-taken (suc k) zero (e ∷ es) less fresh = absurd (omega (arith, less))
fresh-taken (suc k) (suc j) (e ∷ es) less fresh = (fresh.0, fresh-taken k j es (omega (arith, less)) fresh.1)

pub fresh-sent : (k : ℕ) (m : Mailbox) (bytes : List ℕ) → IsMailbox m → AreFresh k m.envelopes → AreFresh (suc k) (after_send Pass bytes m).envelopes
fresh-sent k m bytes s fresh = ((refl, refl), fresh-taken k (KEPT_ENVELOPES - 1) m.envelopes (omega (arith, fresh-counted k m.envelopes fresh, s.undelivered)) fresh)

pub fresh-none : (k : ℕ) (es : List MailEnvelope) → es ≡ [] → k ≡ 0 → AreFresh k es
fresh-none k es none zero_is = subst (λ n. AreFresh n es) (sym zero_is) (subst (AreFresh 0) (sym none) tt)
