-- Where a packet stands in its message, and the kinds of atomics. Contracts cite it.
use Rattle.std.specs.Prelude.{Bool, true, false}
use Rattle.ca_base.specs.ca_keys.declared.access.Kind.{Kind}
use Rattle.ca_base.specs.ca_keys.declared.access.Kind.TheVariants as kinds
use Rattle.ca_wire.specs.declared.shape.Operation.{Operation}
use Rattle.ca_wire.specs.declared.shape.Operation.TheVariants.{Request, ReadResponse, Acknowledge, AtomicAcknowledge}
use Rattle.ca_wire.specs.declared.shape.Position.{Position}
use Rattle.ca_wire.specs.declared.shape.Position.TheVariants.{First, Middle, Last, Only}
use Rattle.ca_wire.specs.declared.shape.Shape.{Shape}
use Rattle.ca_wire.specs.declared.shape.Shape.TheVariants as shapes

-- a message begins with the packet that stands here
abbrev pub begins : Position → Bool
begins First = true
begins Middle = false
begins Last = false
begins Only = true

-- a message ends with the packet that stands here
abbrev pub ends : Position → Bool
ends First = false
ends Middle = false
ends Last = true
ends Only = true

-- the kinds of atomics
abbrev pub IsAtomicKind : Kind → Type 0
IsAtomicKind kinds.Read = ⊥
IsAtomicKind kinds.Write = ⊥
IsAtomicKind kinds.CmpSwap = Unit {0}
IsAtomicKind kinds.FetchAdd = Unit {0}

-- an atomic's shape has the kind of one
abbrev pub IsRequestShape : Shape → Type 0
IsRequestShape (shapes.Send position) = Unit {0}
IsRequestShape (shapes.Write position) = Unit {0}
IsRequestShape shapes.Read = Unit {0}
IsRequestShape (shapes.Atomic kind) = IsAtomicKind kind

-- a request's shape is one
abbrev pub IsOperation : Operation → Type 0
IsOperation (Request shape) = IsRequestShape shape
IsOperation (ReadResponse position) = Unit {0}
IsOperation Acknowledge = Unit {0}
IsOperation AtomicAcknowledge = Unit {0}
