-- The syndromes of an AETH: the eight bits of each, and what eight bits that are received say. Contracts cite it.
use Rattle.std.specs.Prelude.{ℕ, ◌+◌, ◌-◌, ◌<◌, ◌==◌, nat_lt, if◌then◌else◌, Option, Some, None}
use Rattle.std.specs.Option.{option_map}
use Rattle.ca_wire.specs.declared.syndrome.NakCode.{NakCode}
use Rattle.ca_wire.specs.declared.syndrome.NakCode.TheVariants.{PsnSequenceError, InvalidRequest, RemoteAccessError, RemoteOperationalError}
use Rattle.ca_wire.specs.declared.syndrome.Syndrome.{Syndrome}
use Rattle.ca_wire.specs.declared.syndrome.Syndrome.TheVariants.{Ack, RnrNak, Nak}
use Rattle.ca_wire.specs.declared.syndrome.TheConstants.{RNR_NAK, NAK, SYNDROME_CODES}

-- the code of a NAK
abbrev pub nak_code : NakCode → ℕ
nak_code PsnSequenceError = 0
nak_code InvalidRequest = 1
nak_code RemoteAccessError = 2
nak_code RemoteOperationalError = 3

-- the NAK of a code, if there is one
abbrev pub nak_code_in : ℕ → Option NakCode
nak_code_in code =
    if code == 0 then Some PsnSequenceError
    else if code == 1 then Some InvalidRequest
    else if code == 2 then Some RemoteAccessError
    else if code == 3 then Some RemoteOperationalError
    else None

-- the credit code and the timer code have five bits
abbrev pub FitsSyndrome : Syndrome → Type 0
FitsSyndrome (Ack credits) = credits < SYNDROME_CODES
FitsSyndrome (RnrNak timer) = timer < SYNDROME_CODES
FitsSyndrome (Nak code) = Unit {0}

-- the eight bits of a syndrome: an ACK is its credit code, an RNR NAK 0x20 plus the timer code, a NAK 0x60 plus the code
abbrev pub syndrome_byte : Syndrome → ℕ
syndrome_byte (Ack credits) = credits
syndrome_byte (RnrNak timer) = RNR_NAK + timer
syndrome_byte (Nak code) = NAK + nak_code code

-- the syndrome of eight bits, if they are one
abbrev pub syndrome_in : ℕ → Option Syndrome
syndrome_in byte =
    if nat_lt byte RNR_NAK then Some (Ack byte)
    else if nat_lt byte (RNR_NAK + SYNDROME_CODES) then Some (RnrNak (byte - RNR_NAK))
    else if nat_lt byte NAK then None
    else option_map Nak (nak_code_in (byte - NAK))
