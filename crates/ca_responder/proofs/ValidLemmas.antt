-- What holds of a packet that is no invalid request.
use Rattle.std.proofs.Common.{◌≡◌, Bool, true, false, not, ◌||◌, refl}
use Rattle.ca_base.specs.objects.QueuePair.{QueuePair}
use Rattle.ca_wire.specs.Packet.{Fields}
use Rattle.ca_model.specs.machine.Expected.{continues, fits_payload, fits_write, is_invalid}
use Rattle.ca_wire.specs.declared.shape.Shape.{Shape}

none-of : (a b c d e f : Bool) → not a || not b || not c || d || e || f ≡ false → (a ≡ true) × (b ≡ true) × (c ≡ true)
none-of true true true d e f h = (refl, refl, refl)
none-of true true false d e f h = cc
none-of true false c d e f h = cc
none-of false b c d e f h = cc

-- what goes on with the message in progress, or begins one
pub valid_order : (q : QueuePair) (p : Fields) (shape : Shape) → is_invalid q p shape ≡ false → continues q.responder.message shape ≡ true
valid_order q p shape h = (none-of (continues q.responder.message shape) (fits_payload q p shape) (fits_write q p shape) _ _ _ h).0
