-- What reading gives, as the clauses of the decoder say it.
use Rattle.ca_wire.specs.Packet.{bth_bytes, Fields, Spells, headers_size, refusal_of, SpellsBth, bth_refusal_of}
use Rattle.ca_wire.specs.Decoding.{bth_at, body_in, fields_from, packet_in, front_at, Returns}
use Rattle.ca_wire.specs.declared.bth.TheConstants.{BTH_BYTES}
use Rattle.ca_wire.specs.declared.headers.Headers.{Headers}
use Rattle.ca_wire.specs.declared.bth.Bth.{Bth}
use Rattle.ca_wire.specs.declared.wire_error.WireError.{WireError}
use Rattle.std.proofs.Common.{◌≡◌, ℕ, ◌+◌, List, ◌++◌, length, take, drop, Some, None, Result, Ok, Err, refl, sym, ap, subst, ◌∙◌}
use Rattle.std.proofs.lemmas.List.{take-append-drop, take_at}
use Rattle.std.specs.Prelude.{IfOk, IfErr, OnOk, IsOkAnd}
use Rattle.ca_wire.proofs.NumberLaws.{IsBytes}
use Rattle.ca_wire.proofs.Steps.{done, ok_is, bind_ok}
use Rattle.ca_wire.proofs.BthLaws.{bth_takes, bth_length, bth_again}
use Rattle.ca_wire.proofs.PacketLaws.{packet_takes, packet_again, payload_lies}
use Rattle.ca_wire.proofs.RefusalLaws.{fault, refusal_is, front_refused}

pub is_only : (r : Result Fields WireError) (bytes : List ℕ) (f : Fields) → Returns (λ p. p) r (packet_in bytes) → Spells bytes f → IsOkAnd r (λ p. p ≡ f)
is_only (Ok p) bytes f h s = ok_is p f (sym h ∙ packet_again bytes f s)
is_only (Err e) bytes f h s = absurd (let k : done f ≡ Err e = sym (packet_again bytes f s) ∙ h in cc)

pub is_refused : (r : Result Fields WireError) (bytes : List ℕ) → IsBytes bytes → Returns (λ p. p) r (packet_in bytes) → IfErr r (λ e. refusal_of bytes ≡ Some e)
is_refused (Ok p) bytes fits h = tt
is_refused (Err e) bytes fits h = refusal_is bytes fits ∙ ap (λ (x : Result Fields WireError). fault x) h

pub is_front : (r : Result Bth WireError) (bytes : List ℕ) → IsBytes bytes → Returns (λ b. b) r (front_at bytes) → IfOk r (λ b. SpellsBth (take 12 bytes) b)
unfolding front_at
is_front (Ok b) bytes fits h =
    let x = bind_ok (bth_at bytes) (λ x. Ok x.0) b h in
    let t = bth_takes bytes x.0 fits x.1 in
    let whole : take 12 bytes ≡ bth_bytes t.ignored x.0.0 = ap (take 12) t.parts ∙ take_at (bth_bytes t.ignored x.0.0) x.0.1 12 (bth_length t.ignored x.0.0) in
    subst (λ (y : Bth). SpellsBth (take 12 bytes) y) (ok_is x.0.0 b x.2) (record { fits = t.bth; ignored = t.ignored; before_queue = t.before_queue; before_psn = t.before_psn; whole = whole })
is_front (Err e) bytes fits h = tt

only_given : (r read : Result Bth WireError) (b : Bth) → Returns (λ x. x) r read → read ≡ Ok b → IsOkAnd r (λ x. x ≡ b)
only_given (Ok x) read b h e = ok_is x b (sym h ∙ e)
only_given (Err x) read b h e = absurd (let k : done b ≡ Err x = sym e ∙ h in cc)

pub is_only_front : (r : Result Bth WireError) (bytes : List ℕ) (b : Bth) → Returns (λ b. b) r (front_at bytes) → SpellsBth (take 12 bytes) b → IsOkAnd r (λ x. x ≡ b)
unfolding front_at
is_only_front r bytes b h s =
    let whole : bytes ≡ bth_bytes s.ignored b ++ drop 12 bytes = sym (take-append-drop 12 bytes) ∙ ap (λ (t : List ℕ). t ++ drop 12 bytes) s.whole in
    let read : front_at bytes ≡ Ok b = ap front_at whole ∙ rw (bth_again s.ignored b (drop 12 bytes) s.fits s.before_queue s.before_psn) refl in
    only_given r (front_at bytes) b h read

pub is_refused_front : (r : Result Bth WireError) (bytes : List ℕ) → IsBytes bytes → Returns (λ b. b) r (front_at bytes) → IfErr r (λ e. bth_refusal_of bytes ≡ Some e)
is_refused_front (Ok b) bytes fits h = tt
is_refused_front (Err e) bytes fits h = front_refused bytes fits ∙ ap (λ (x : Result Bth WireError). fault x) h

pub is_taken_front : (r : Result Bth WireError) (bytes : List ℕ) → IsBytes bytes → Returns (λ b. b) r (front_at bytes) → OnOk r (bth_refusal_of bytes ≡ None)
is_taken_front (Ok b) bytes fits h = front_refused bytes fits ∙ ap (λ (x : Result Bth WireError). fault x) h
is_taken_front (Err e) bytes fits h = tt

-- what a decoder returned is what reading gives
pub is_read : (r read : Result Fields WireError) → Returns (λ p. p) r read → r ≡ read
is_read (Ok p) read h = sym h
is_read (Err e) read h = sym h

-- what a decoder returned, by the steps of reading
pub no_header : (r : Result Fields WireError) (bytes : List ℕ) (e : WireError) → r ≡ Err e → bth_at bytes ≡ Err e → Returns (λ p. p) r (packet_in bytes)
unfolding packet_in
no_header r bytes e is h = rw is (rw h refl)

pub no_body : (r : Result Fields WireError) (bytes rest : List ℕ) (b : Bth) (e : WireError) → r ≡ Err e → bth_at bytes ≡ Ok (b, rest) → body_in b.opcode b.pad rest ≡ Err e → Returns (λ p. p) r (packet_in bytes)
unfolding packet_in
no_body r bytes rest b e is h k = rw is (rw (h, k) refl)

pub whole_packet : (bytes rest : List ℕ) (b : Bth) (x : Headers × List ℕ) → bth_at bytes ≡ Ok (b, rest) → body_in b.opcode b.pad rest ≡ Ok x → packet_in bytes ≡ Ok (fields_from b x.0 x.1)
unfolding packet_in
whole_packet bytes rest b x h k = rw (h, k) refl

-- a packet that all of the bytes spell, found by reading
pub found_so : (bytes : List ℕ) (f : Fields) → IsBytes bytes → packet_in bytes ≡ Ok f → Spells bytes f
found_so bytes f fits h = packet_takes bytes f fits h

pub only_so : (bytes : List ℕ) (f g : Fields) → packet_in bytes ≡ Ok f → Spells bytes g → f ≡ g
only_so bytes f g h s = ok_is f g (sym h ∙ packet_again bytes g s)

pub taken_so : (bytes : List ℕ) (f : Fields) → IsBytes bytes → packet_in bytes ≡ Ok f → refusal_of bytes ≡ None
taken_so bytes f fits h = refusal_is bytes fits ∙ ap (λ (x : Result Fields WireError). fault x) h

pub placed_so : (bytes : List ℕ) (f : Fields) → IsBytes bytes → packet_in bytes ≡ Ok f → f.payload ≡ take (length f.payload) (drop (BTH_BYTES + headers_size f.opcode) bytes)
placed_so bytes f fits h = payload_lies bytes f (packet_takes bytes f fits h)
