-- The payload that was read is the one that was written, and the other way round.
use Rattle.ca_base.specs.declared.limits.TheConstants.{MAX_PAYLOAD_BYTES}
use Rattle.ca_wire.specs.Packet.{pad_count}
use Rattle.ca_wire.specs.Decoding.{payload_at}
use Rattle.ca_wire.specs.declared.wire_error.WireError.{WireError}
use Rattle.ca_wire.specs.declared.wire_error.WireError.TheVariants.{Length, Pad}
use Rattle.std.proofs.Common.{◌≡◌, ℕ, ◌+◌, ◌-◌, ◌%◌, ◌<◌, ◌≤◌, Bool, true, false, not, ◌&&◌, cond, eqb, ltb, List, [], ◌++◌, length, take, drop, Ok, Err, refl, sym, ap, subst, ◌∙◌, arith, inl, inr}
use Rattle.std.proofs.lemmas.Bool.{ltb-false, le-ltb, eqb-true, eq-eqb, not-false, not_from_true, ne_eqb, and_right, cases_eq}
use Rattle.std.proofs.lemmas.List.{length-append, length-take, length-drop, take-append-drop, take_at, nil_from_length}
use Rattle.ca_wire.proofs.Steps.{guard_next, done, ok_is}

pub record IsPayload (allowed : Bool) (pad : ℕ) (rest payload : List ℕ) : Type 0 where
  pub after : List ℕ
  pub parts : rest ≡ payload ++ after
  pub counted : pad ≡ pad_count (length payload)
  pub len : length after ≡ pad
  pub most : length payload ≤ MAX_PAYLOAD_BYTES
  pub empty : allowed ≡ false → payload ≡ []

-- the pad count is 0 where nothing stands
only_second : (n pad : ℕ) → n ≡ 0 → (eqb n 0 && not (eqb pad 0)) ≡ false → eqb pad 0 ≡ true
only_second n pad z h = not-false (eqb pad 0) (rw z at h)

-- nothing stands where nothing may
none_allowed : (n : ℕ) (allowed : Bool) → allowed ≡ false → (not (eqb n 0) && not allowed) ≡ false → n ≡ 0
none_allowed n allowed none h =
    elim (cases_eq n 0) [
      | inl is ↦ is
      | inr ne ↦ absurd (let k : true ≡ false = rw (none, ne_eqb n 0 ne) at h in cc)
    ]

no_pad : (n pad : ℕ) → n % 4 ≡ 0 → pad < 4 → (n ≡ 0 → pad ≡ 0) → (pad ≡ pad_count (n - pad)) × (n - (n - pad) ≡ pad)
no_pad n pad whole small none =
    elim (cases_eq n 0) [
      | inl is ↦ let p : pad ≡ 0 = none is in rw (is, p) (refl, refl)
      | inr ne ↦ (omega arith, omega arith)
    ]

pub payload_takes : (allowed : Bool) (pad : ℕ) (rest payload : List ℕ) → pad < 4 → payload_at allowed pad rest ≡ Ok payload → IsPayload allowed pad rest payload
unfolding payload_at
payload_takes allowed pad rest payload small e =
    let n = length rest in
    let g = guard_next (not (eqb (n % 4) 0)) Length _ payload e in
    let h = guard_next (not (eqb n 0) && not allowed) Length _ payload g.1 in
    let k = guard_next (ltb MAX_PAYLOAD_BYTES (n - pad)) Length _ payload h.1 in
    let l = guard_next (eqb n 0 && not (eqb pad 0)) Pad _ payload k.1 in
    let is : take (n - pad) rest ≡ payload = ok_is _ _ l.1 in
    let whole : n % 4 ≡ 0 = eqb-true _ _ (not-false (eqb (n % 4) 0) g.0) in
    let none : n ≡ 0 → pad ≡ 0 = λ z. eqb-true _ _ (only_second n pad z l.0) in
    let p = no_pad n pad whole small none in
    let len : length (take (n - pad) rest) ≡ n - pad = omega (arith, length-take (n - pad) rest) in
    let whole_payload : IsPayload allowed pad rest (take (n - pad) rest) = record {
      after = drop (n - pad) rest;
      parts = sym (take-append-drop (n - pad) rest);
      counted = rw len p.0;
      len = length-drop (n - pad) rest ∙ p.1;
      most = omega (arith, len, ltb-false _ _ k.0);
      empty = λ not_allowed. nil_from_length (take (n - pad) rest) (omega (arith, len, none_allowed n allowed not_allowed h.0));
    } in
    subst (λ (y : List ℕ). IsPayload allowed pad rest y) is whole_payload

none_fails : {A : Type 0} (a b c d : Bool) (ea eb ec ed : WireError) (x : A) → a ≡ false → b ≡ false → c ≡ false → d ≡ false → cond a (Err ea) (cond b (Err eb) (cond c (Err ec) (cond d (Err ed) (Ok x)))) ≡ Ok x
none_fails a b c d ea eb ec ed x ha hb hc hd = rw (ha, hb, hc, hd) refl

allowed_or_none : (n : ℕ) (allowed : Bool) → (allowed ≡ false → n ≡ 0) → (not (eqb n 0) && not allowed) ≡ false
allowed_or_none n true h = and_right (not (eqb n 0)) false refl
allowed_or_none n false h = rw (h refl) refl

padded_none : (n pad : ℕ) → (n ≡ 0 → pad ≡ 0) → (eqb n 0 && not (eqb pad 0)) ≡ false
padded_none n pad h =
    elim (cases_eq n 0) [
      | inl is ↦ rw (is, h is) refl
      | inr ne ↦ rw (ne_eqb n 0 ne) refl
    ]

pad_fills : (n : ℕ) → ((n + pad_count n) % 4 ≡ 0) × (n + pad_count n ≡ 0 → pad_count n ≡ 0)
pad_fills n = (omega arith, λ e. omega arith)

none_long : (payload : List ℕ) → payload ≡ [] → length payload + pad_count (length payload) ≡ 0
none_long payload e = rw e refl

pub payload_again : (allowed : Bool) (payload after : List ℕ) → length payload ≤ MAX_PAYLOAD_BYTES → (allowed ≡ false → payload ≡ []) → length after ≡ pad_count (length payload) → payload_at allowed (pad_count (length payload)) (payload ++ after) ≡ Ok payload
unfolding payload_at
payload_again allowed payload after most empty len =
    let pad = pad_count (length payload) in
    let n : length (payload ++ after) ≡ length payload + pad = length-append payload after ∙ ap (λ k. length payload + k) len in
    let p = pad_fills (length payload) in
    let less : (length payload + pad) - pad ≡ length payload = omega arith in
    let same : take ((length payload + pad) - pad) (payload ++ after) ≡ payload = rw less (take_at payload after (length payload) refl) in
    rw n (none_fails _ _ _ _ _ _ _ _ _
    (not_from_true _ (eq-eqb _ _ p.0))
    (allowed_or_none (length payload + pad) allowed (λ h. none_long payload (empty h)))
    (le-ltb _ _ (omega arith))
    (padded_none (length payload + pad) pad p.1)
    ∙ ap (λ (t : List ℕ). done t) same)
