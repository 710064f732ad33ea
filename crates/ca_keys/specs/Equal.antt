-- Tests of names and values, part by part. Contracts cite it.
use Rattle.std.specs.Prelude.{ℕ, Bool, true, false, not, ◌==◌, ◌&&◌}
use Rattle.std.specs.Cmp.Lexicographic.{pointwise}
use Rattle.std.specs.Option.{option_eq}
use Rattle.ca_keys.specs.declared.access.Kind.{Kind}
use Rattle.ca_keys.specs.declared.access.Kind.TheVariants as kinds
use Rattle.ca_keys.specs.declared.access.Denial.{Denial}
use Rattle.ca_keys.specs.declared.access.Denial.TheVariants as denials
use Rattle.ca_keys.specs.declared.grant.Grant.{Grant}
use Rattle.ca_keys.specs.declared.place.Run.{Run}
use Rattle.ca_keys.specs.declared.rights.Rights.{Rights}
use Rattle.ca_keys.specs.declared.key.Key.{Key}
use Rattle.ca_keys.specs.declared.names.DomainId.{DomainId}
use Rattle.ca_keys.specs.declared.names.Slot.{Slot}
use Rattle.ca_keys.specs.declared.names.QueueId.{QueueId}
use Rattle.ca_keys.specs.declared.place.Place.{Place}

abbrev pub key_eq : Key → Key → Bool
key_eq a b = a.0 == b.0

abbrev pub domain_eq : DomainId → DomainId → Bool
domain_eq a b = (a.adapter == b.adapter) && (a.domain == b.domain)

abbrev pub slot_eq : Slot → Slot → Bool
slot_eq a b = domain_eq a.domain b.domain && (a.slot == b.slot)

abbrev pub queue_eq : QueueId → QueueId → Bool
queue_eq a b = (a.adapter == b.adapter) && (a.number == b.number)

abbrev pub place_eq : Place → Place → Bool
place_eq a b = (a.adapter == b.adapter) && (a.buffer == b.buffer) && (a.offset == b.offset)

abbrev pub run_eq : Run → Run → Bool
run_eq a b = (a.adapter == b.adapter) && (a.buffer == b.buffer) && (a.offset == b.offset) && (a.length == b.length)

abbrev pub bool_eq : Bool → Bool → Bool
bool_eq true b = b
bool_eq false b = not b

abbrev pub rights_eq : Rights → Rights → Bool
rights_eq a b =
    bool_eq a.local_write b.local_write && bool_eq a.remote_read b.remote_read && bool_eq a.remote_write b.remote_write
    && bool_eq a.remote_atomic b.remote_atomic && bool_eq a.window_bind b.window_bind

abbrev pub grant_eq : Grant → Grant → Bool
grant_eq a b =
    key_eq a.key b.key && domain_eq a.domain b.domain && option_eq queue_eq a.queue b.queue && bool_eq a.local b.local
    && (a.address == b.address) && (a.length == b.length) && rights_eq a.rights b.rights && pointwise run_eq a.runs b.runs

-- each kind of access by a number of its own
abbrev pub kind_number : Kind → ℕ
kind_number kinds.Read = 0
kind_number kinds.Write = 1
kind_number kinds.CmpSwap = 2
kind_number kinds.FetchAdd = 3

abbrev pub kind_eq : Kind → Kind → Bool
kind_eq a b = kind_number a == kind_number b

-- each denial by a number of its own
abbrev pub denial_number : Denial → ℕ
denial_number denials.NoGrant = 0
denial_number denials.WrongQueue = 1
denial_number denials.NoRight = 2
denial_number denials.OutOfRange = 3

abbrev pub denial_eq : Denial → Denial → Bool
denial_eq a b = denial_number a == denial_number b
