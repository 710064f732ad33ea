-- A syndrome that is sent is received as what it says, and the other way round.
use Rattle.std.proofs.Common.{◌≡◌, ℕ, ◌+◌, ◌-◌, Some, refl, subst, arith, inl, inr}
use Rattle.std.proofs.lemmas.Bool.{cases_lt, cases_eq, lt-ltb, le-ltb, eq-eqb, ne_eqb}
use Rattle.std.specs.Option.{option_map}
use Rattle.ca_wire.specs.declared.syndrome.NakCode.TheVariants.{PsnSequenceError, InvalidRequest, RemoteAccessError, RemoteOperationalError}
use Rattle.ca_wire.specs.declared.syndrome.Syndrome.{Syndrome}
use Rattle.ca_wire.specs.declared.syndrome.Syndrome.TheVariants.{Ack, RnrNak, Nak}
use Rattle.ca_wire.specs.declared.syndrome.TheConstants.{RNR_NAK, NAK, SYNDROME_CODES}
use Rattle.ca_wire.specs.Syndrome.{FitsSyndrome, nak_code_in, syndrome_byte, syndrome_in}

pub received : (s : Syndrome) → FitsSyndrome s → syndrome_in (syndrome_byte s) ≡ Some s
received (Ack credits) fits = rw (lt-ltb credits RNR_NAK fits) refl
received (RnrNak timer) fits =
    let same : (RNR_NAK + timer) - RNR_NAK ≡ timer = omega arith in
    rw (le-ltb (RNR_NAK + timer) RNR_NAK (omega arith), lt-ltb (RNR_NAK + timer) (RNR_NAK + SYNDROME_CODES) (omega arith), same) refl
received (Nak PsnSequenceError) fits = refl
received (Nak InvalidRequest) fits = refl
received (Nak RemoteAccessError) fits = refl
received (Nak RemoteOperationalError) fits = refl

-- this byte spells this syndrome
abbrev IsSpelt : ℕ → Syndrome → Type 0
IsSpelt byte s = (syndrome_byte s ≡ byte) × FitsSyndrome s

some_is : {X : Type 0} (x y : X) → Some x ≡ Some y → x ≡ y
some_is x y e = cc

spelt_by : (byte : ℕ) (made s : Syndrome) → IsSpelt byte made → Some made ≡ Some s → IsSpelt byte s
spelt_by byte made s h e = subst (λ x. IsSpelt byte x) (some_is made s e) h

nak_only : (byte n : ℕ) (s : Syndrome) → NAK + n ≡ byte → option_map Nak (nak_code_in n) ≡ Some s → IsSpelt byte s
nak_only byte n s sum e =
    elim (cases_eq n 0) [
      | inl is ↦ spelt_by byte (Nak PsnSequenceError) s (omega arith, tt) (rw (eq-eqb n 0 is) at e)
      | inr ne ↦ elim (cases_eq n 1) [
        | inl is ↦ spelt_by byte (Nak InvalidRequest) s (omega arith, tt) (rw (ne_eqb n 0 ne, eq-eqb n 1 is) at e)
        | inr ne1 ↦ elim (cases_eq n 2) [
          | inl is ↦ spelt_by byte (Nak RemoteAccessError) s (omega arith, tt) (rw (ne_eqb n 0 ne, ne_eqb n 1 ne1, eq-eqb n 2 is) at e)
          | inr ne2 ↦ elim (cases_eq n 3) [
            | inl is ↦ spelt_by byte (Nak RemoteOperationalError) s (omega arith, tt) (rw (ne_eqb n 0 ne, ne_eqb n 1 ne1, ne_eqb n 2 ne2, eq-eqb n 3 is) at e)
            | inr ne3 ↦ absurd (let k = rw (ne_eqb n 0 ne, ne_eqb n 1 ne1, ne_eqb n 2 ne2, ne_eqb n 3 ne3) at e in cc)
          ]
        ]
      ]
    ]

pub only : (byte : ℕ) (s : Syndrome) → syndrome_in byte ≡ Some s → (syndrome_byte s ≡ byte) × FitsSyndrome s
only byte s e =
    elim (cases_lt byte RNR_NAK) [
      | inl lt ↦ spelt_by byte (Ack byte) s (refl, lt) (rw (lt-ltb byte RNR_NAK lt) at e)
      | inr le ↦ elim (cases_lt byte (RNR_NAK + SYNDROME_CODES)) [
        | inl lt ↦ spelt_by byte (RnrNak (byte - RNR_NAK)) s (omega arith, omega arith) (rw (le-ltb byte RNR_NAK le, lt-ltb byte (RNR_NAK + SYNDROME_CODES) lt) at e)
        | inr past ↦ elim (cases_lt byte NAK) [
          | inl lt ↦ absurd (let k = rw (le-ltb byte RNR_NAK le, le-ltb byte (RNR_NAK + SYNDROME_CODES) past, lt-ltb byte NAK lt) at e in cc)
          | inr from ↦ nak_only byte (byte - NAK) s (omega arith) (rw (le-ltb byte RNR_NAK le, le-ltb byte (RNR_NAK + SYNDROME_CODES) past, le-ltb byte NAK from) at e)
        ]
      ]
    ]
