-- Lemmas on a list of envelopes: one that is pushed out, and one that is delivered. For proofs only.
use Rattle.std.proofs.Common.{◌≡◌, ℕ, suc, zero, ◌+◌, ◌<◌, ◌≤◌, ◌&&◌, true, false, not, if◌then◌else◌, List, [], ◌∷◌, length, take, drop, slice_get, slice_set, Some, None, IsTrue, min, refl, arith}
use Rattle.std.specs.Option.{option_map_or}
use Rattle.std.proofs.lemmas.Grind.{common_steps}
use Rattle.ca_base.specs.declared.mail_envelope.MailEnvelope.{MailEnvelope}
use Rattle.ca_base.specs.objects.Mailbox.{Mailbox, after_send, has_room, is_undelivered, undelivered_count, with_delivery}
use Rattle.ca_base.specs.declared.lot.Lot.{Lot}

-- without a last envelope that is not undelivered as many are undelivered
pub undelivered_count-take : (n : ℕ) (es : List MailEnvelope) → length es ≤ suc n →
    option_map_or is_undelivered (slice_get es n) false ≡ false → undelivered_count (take n es) ≡ undelivered_count es
undelivered_count-take zero [] h last = refl
undelivered_count-take zero (e ∷ []) h last = grind (arith, common_steps, last)
undelivered_count-take zero (e ∷ (f ∷ es)) h last = grind (arith, h)
undelivered_count-take (suc n) [] h last = refl
undelivered_count-take (suc n) (e ∷ es) h last =
    grind (arith, common_steps, undelivered_count-take n es (omega (arith, h)) (grind (arith, common_steps, last)))

-- a delivery changes the one envelope
pub with_delivery-set : (later : ℕ) (es : List MailEnvelope) (e : MailEnvelope) → slice_get es later ≡ Some e →
    with_delivery later es ≡ slice_set es later (record e { delivered = suc e.delivered })
with_delivery-set later [] e h = grind (arith, common_steps, h)
with_delivery-set zero (f ∷ es) e h = grind (arith, common_steps, h)
with_delivery-set (suc later) (f ∷ es) e h =
    grind (arith, common_steps, with_delivery-set later es e (grind (arith, common_steps, h)))

-- a delivery of an envelope that is undelivered no longer leaves one undelivered envelope less
pub undelivered_count-with_delivery : (later : ℕ) (es : List MailEnvelope) (e : MailEnvelope) → slice_get es later ≡ Some e →
    undelivered_count (with_delivery later es)
    + (if is_undelivered e && not (is_undelivered (record e { delivered = suc e.delivered })) then 1 else 0)
    ≡ undelivered_count es
undelivered_count-with_delivery later [] e h = grind (arith, common_steps, h)
undelivered_count-with_delivery zero (f ∷ es) e h = grind (arith, common_steps, h)
undelivered_count-with_delivery (suc later) (f ∷ es) e h =
    grind (arith, common_steps, undelivered_count-with_delivery later es e (grind (arith, common_steps, h)))

-- a delivery keeps the number of envelopes
pub length-with_delivery : (later : ℕ) (es : List MailEnvelope) → length (with_delivery later es) ≡ length es
length-with_delivery later [] = refl
length-with_delivery zero (e ∷ es) = refl
length-with_delivery (suc later) (e ∷ es) = grind (arith, length-with_delivery later es)

-- where there is room, one more envelope adds at most itself to those that are undelivered
pub undelivered_count-after_send : (lot : Lot) (bytes : List ℕ) (m : Mailbox) → length m.envelopes ≤ 256 → IsTrue (has_room m) →
    undelivered_count (after_send lot bytes m).envelopes
    ≡ undelivered_count m.envelopes + (if is_undelivered (record { lot = lot; bytes = bytes; delivered = 0 }) then 1 else 0)
undelivered_count-after_send lot bytes m h room =
    grind (arith, common_steps, undelivered_count-take 255 m.envelopes h (grind (arith, common_steps, room)))

-- a place that is kept has its envelope in front of those behind it
pub drop-slice_get : (k : ℕ) (es : List MailEnvelope) (e : MailEnvelope) → slice_get es k ≡ Some e → drop k es ≡ e ∷ drop (k + 1) es
drop-slice_get k [] e h = grind (arith, common_steps, h)
drop-slice_get zero (f ∷ es) e h = grind (arith, common_steps, h)
drop-slice_get (suc k) (f ∷ es) e h = grind (arith, common_steps, drop-slice_get k es e (grind (arith, common_steps, h)))

-- behind one that is not undelivered as many are undelivered as from it on
pub undelivered_count-drop : (k : ℕ) (es : List MailEnvelope) → option_map_or is_undelivered (slice_get es k) false ≡ false →
    undelivered_count (drop k es) ≡ undelivered_count (drop (k + 1) es)
undelivered_count-drop k [] h = grind (arith, common_steps)
undelivered_count-drop zero (e ∷ es) h = grind (arith, common_steps, h)
undelivered_count-drop (suc k) (e ∷ es) h = grind (arith, common_steps, undelivered_count-drop k es (grind (arith, common_steps, h)))

-- of fewer envelopes no more are undelivered
pub undelivered_count-drop-take : (k n : ℕ) (es : List MailEnvelope) → undelivered_count (drop k (take n es)) ≤ undelivered_count (drop k es)
undelivered_count-drop-take k zero es = grind (arith, common_steps)
undelivered_count-drop-take k (suc n) [] = grind (arith, common_steps)
undelivered_count-drop-take zero (suc n) (e ∷ es) = grind (arith, common_steps, undelivered_count-drop-take zero n es)
undelivered_count-drop-take (suc k) (suc n) (e ∷ es) = grind (arith, common_steps, undelivered_count-drop-take k n es)

-- after a delivery no more are undelivered
pub undelivered_count-drop-delivery : (k later : ℕ) (es : List MailEnvelope) →
    undelivered_count (drop k (with_delivery later es)) ≤ undelivered_count (drop k es)
undelivered_count-drop-delivery k later [] = grind (arith, common_steps)
undelivered_count-drop-delivery zero zero (e ∷ es) = grind (arith, common_steps)
undelivered_count-drop-delivery (suc k) zero (e ∷ es) = grind (arith, common_steps)
undelivered_count-drop-delivery zero (suc later) (e ∷ es) = grind (arith, common_steps, undelivered_count-drop-delivery zero later es)
undelivered_count-drop-delivery (suc k) (suc later) (e ∷ es) = grind (arith, common_steps, undelivered_count-drop-delivery k later es)

-- none behind those that reach to the oldest undelivered one is undelivered, with one more in front
pub undelivered_count-behind-send : (k span : ℕ) (e : MailEnvelope) (es : List MailEnvelope) → undelivered_count (drop span es) ≡ 0 →
    k ≡ suc span → undelivered_count (drop k (take 256 (e ∷ es))) ≡ 0
undelivered_count-behind-send k span e es h at = rw at (grind (arith, h, undelivered_count-drop-take span 255 es))

-- nothing is behind all
pub drop-take : (n : ℕ) (es : List MailEnvelope) → drop n (take n es) ≡ []
drop-take zero es = refl
drop-take (suc n) [] = refl
drop-take (suc n) (e ∷ es) = drop-take n es

-- behind all that are kept none is undelivered
pub undelivered_count-behind-all : (k : ℕ) (es : List MailEnvelope) → k ≡ 256 → undelivered_count (drop k (take 256 es)) ≡ 0
undelivered_count-behind-all k es at = rw at (rw (drop-take 256 es) refl)

-- none is undelivered behind those that reach to the oldest undelivered one after a send
pub undelivered_count-behind : (k span : ℕ) (e : MailEnvelope) (es : List MailEnvelope) → undelivered_count (drop span es) ≡ 0 →
    k ≡ min (span + 1) 256 → undelivered_count (drop k (take 256 (e ∷ es))) ≡ 0
undelivered_count-behind k span e es h at =
    grind (arith, at, undelivered_count-behind-send k span e es h, undelivered_count-behind-all k (e ∷ es))

-- an undelivered envelope stands among those that are kept
pub is_kept : (k : ℕ) (es : List MailEnvelope) → option_map_or is_undelivered (slice_get es k) false ≡ true → k < length es
is_kept k [] h = grind (arith, common_steps, h)
is_kept zero (e ∷ es) h = grind arith
is_kept (suc k) (e ∷ es) h = grind (arith, is_kept k es (grind (arith, common_steps, h)))

-- no envelope stands behind all
pub slice_get-none : (k : ℕ) (es : List MailEnvelope) → slice_get es k ≡ None → length es ≤ k
slice_get-none k [] h = omega arith
slice_get-none zero (e ∷ es) h = grind (arith, common_steps, h)
slice_get-none (suc k) (e ∷ es) h = grind (arith, slice_get-none k es (grind (arith, common_steps, h)))
