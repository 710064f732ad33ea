-- The one spelling of each name, in a script and in a trace. Contracts cite it.
use Rattle.std.specs.Prelude.{ℕ, List, [], ◌∷◌, ◌++◌, ◌||◌, Bool, true, false, if◌then◌else◌, Option, None, Some, codes, decimal}
use Rattle.std.specs.Fmt.{digits}
use Rattle.std.specs.Int.{w32, to_be_bytes}
use Rattle.hex.specs.Hex.{encode_lower}
use Rattle.ca_keys.specs.declared.access.Denial.{Denial}
use Rattle.ca_keys.specs.declared.access.Denial.TheVariants as denials
use Rattle.ca_keys.specs.declared.access.Kind.{Kind}
use Rattle.ca_keys.specs.declared.access.Kind.TheVariants as kinds
use Rattle.ca_keys.specs.declared.key.Key.{Key}
use Rattle.ca_keys.specs.declared.names.DomainId.{DomainId}
use Rattle.ca_keys.specs.declared.names.QueueId.{QueueId}
use Rattle.ca_keys.specs.declared.names.Slot.{Slot}
use Rattle.ca_keys.specs.declared.place.Run.{Run}
use Rattle.ca_keys.specs.declared.rights.Rights.{Rights}

-- nothing is spelled `-`
abbrev pub dash : List ℕ
dash = codes "-"

-- the spelling of a value that may be missing
abbrev pub perhaps : {A : Type 0} → (A → List ℕ) → Option A → List ℕ
perhaps spelling None = dash
perhaps spelling (Some value) = spelling value

-- the same of what a display writes
abbrev pub perhaps_output : {A : Type 0} → (A → Option (List ℕ)) → Option A → Option (List ℕ)
perhaps_output output None = Some dash
perhaps_output output (Some value) = output value

-- A/D
abbrev pub domain_text : DomainId → List ℕ
domain_text d = decimal d.adapter ++ codes "/" ++ decimal d.domain

-- A/D/S
abbrev pub slot_text : Slot → List ℕ
slot_text s = domain_text s.domain ++ codes "/" ++ decimal s.slot

-- A/N
abbrev pub queue_text : QueueId → List ℕ
queue_text q = decimal q.adapter ++ codes "/" ++ decimal q.number

-- eight hexadecimal digits
abbrev pub key_text : Key → List ℕ
key_text k = codes "0x" ++ encode_lower (to_be_bytes w32 k.0)

-- hexadecimal digits without leading zeros
abbrev pub address_text : ℕ → List ℕ
address_text at = codes "0x" ++ digits 16 false at

-- A/B:OFFSET+LENGTH
abbrev pub run_text : Run → List ℕ
run_text r =
    decimal r.adapter ++ codes "/" ++ decimal r.buffer ++ codes ":" ++ decimal r.offset ++ codes "+" ++ decimal r.length

-- the letter, where it holds
abbrev pub letter : Bool → ℕ → List ℕ
letter true c = c ∷ []
letter false c = []

-- at least one right holds
abbrev pub has_right : Rights → Bool
has_right r = r.local_write || r.remote_read || r.remote_write || r.remote_atomic || r.window_bind

-- the letters of the rights: l local write, r remote read, w remote write, a remote atomic, b window bind
abbrev pub rights_text : Rights → List ℕ
rights_text r =
    if has_right r
    then letter r.local_write 108 ++ letter r.remote_read 114 ++ letter r.remote_write 119 ++ letter r.remote_atomic 97 ++ letter r.window_bind 98
    else dash

-- what an access does to memory
abbrev pub kind_text : Kind → List ℕ
kind_text kinds.Read = codes "read"
kind_text kinds.Write = codes "write"
kind_text kinds.CmpSwap = codes "cas"
kind_text kinds.FetchAdd = codes "add"

-- the part of the key check that failed
abbrev pub denial_text : Denial → List ℕ
denial_text denials.NoGrant = codes "no-grant"
denial_text denials.WrongQueue = codes "wrong-queue"
denial_text denials.NoRight = codes "no-right"
denial_text denials.OutOfRange = codes "out-of-range"
