-- The opcodes that the builders choose are of their operations, at their places in the message.
use Rattle.std.proofs.Common.{◌≡◌, ℕ, Option, Some, None, refl}
use Rattle.ca_wire.specs.declared.shape.Operation.TheVariants.{Request, ReadResponse}
use Rattle.ca_wire.specs.declared.shape.Position.{Position}
use Rattle.ca_wire.specs.declared.shape.Position.TheVariants.{First, Middle, Last, Only}
use Rattle.ca_wire.specs.declared.shape.Shape.TheVariants as shapes
use Rattle.ca_wire.specs.Table.{row_of, operation_of}
use Rattle.ca_wire.specs.declared.requests.SendKind.{SendKind}
use Rattle.ca_wire.specs.declared.requests.SendKind.TheVariants.{Plain, WithImmediate, WithInvalidate}
use Rattle.ca_wire.specs.Builders.{read_response_opcode, send_opcode, write_opcode}

pub read_response_is : (p : Position) → operation_of (read_response_opcode p) ≡ Some (ReadResponse p)
unfolding row_of
read_response_is First = refl
read_response_is Middle = refl
read_response_is Last = refl
read_response_is Only = refl

pub send_is : (kind : SendKind) (p : Position) → operation_of (send_opcode kind p) ≡ Some (Request (shapes.Send p))
unfolding row_of
send_is kind First = refl
send_is kind Middle = refl
send_is Plain Last = refl
send_is Plain Only = refl
send_is (WithImmediate imm) Last = refl
send_is (WithImmediate imm) Only = refl
send_is (WithInvalidate key) Last = refl
send_is (WithInvalidate key) Only = refl

pub write_is : (imm : Option ℕ) (p : Position) → operation_of (write_opcode imm p) ≡ Some (Request (shapes.Write p))
unfolding row_of
write_is imm First = refl
write_is imm Middle = refl
write_is None Last = refl
write_is None Only = refl
write_is (Some imm) Last = refl
write_is (Some imm) Only = refl
