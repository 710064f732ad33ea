-- Steps that may fail, and what follows where they did not.
use Rattle.ca_wire.specs.Decoding.{◌>>=◌}
use Rattle.ca_wire.specs.declared.wire_error.WireError.{WireError}
use Rattle.std.proofs.Common.{◌≡◌, ℕ, Bool, true, false, cond, List, ◌++◌, Result, Ok, Err, refl, sym, ap, ◌∙◌, append_assoc}

-- a test that did not fail, before what is read then
pub guard_next : {A : Type 0} (b : Bool) (e : WireError) (r : Result A WireError) (x : A) → cond b (Err e) r ≡ Ok x → (b ≡ false) × (r ≡ Ok x)
guard_next true e r x h = absurd cc
guard_next false e r x h = (refl, h)

-- a test that held
pub guard_ended : {A : Type 0} (b : Bool) (e : WireError) (x y : A) → cond b (Ok x) (Err e) ≡ Ok y → (b ≡ true) × (x ≡ y)
guard_ended true e x y h = (refl, cc)
guard_ended false e x y h = absurd cc

abbrev pub done : {A : Type 0} → A → Result A WireError
done x = Ok x

pub ok_is : {A : Type 0} (x y : A) → done x ≡ done y → x ≡ y
ok_is x y e = cc

pub join : (a x b y c : List ℕ) → a ≡ x ++ b → b ≡ y ++ c → a ≡ (x ++ y) ++ c
join a x b y c p q = p ∙ ap (λ (t : List ℕ). x ++ t) q ∙ sym (append_assoc x y c)

-- the value of a step that did not fail
pub bind_ok : {A B : Type 0} (r : Result A WireError) (f : A → Result B WireError) (y : B) → (r >>= f) ≡ Ok y → (x : A) × (r ≡ Ok x) × (f x ≡ Ok y)
bind_ok (Ok x) f y e = (x, refl, e)
bind_ok (Err d) f y e = absurd cc
