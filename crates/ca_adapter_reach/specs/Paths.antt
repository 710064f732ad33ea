-- Names that are the same are one: what the names of things on shelves keep. Contracts cite it.
use Rattle.std.specs.Prelude.{◌≡◌, ◌==◌, true}
use Rattle.std.proofs.lemmas.Bool.{and_parts, eqb-true}
use Rattle.ca_keys.specs.declared.names.DomainId.{DomainId}
use Rattle.ca_keys.specs.declared.names.QueueId.{QueueId}
use Rattle.ca_keys.specs.declared.names.Slot.{Slot}
use Rattle.ca_keys.specs.Equal.{domain_eq, queue_eq, slot_eq}

pub domain_path : (a b : DomainId) → domain_eq a b ≡ true → a ≡ b
domain_path a b same = by (and_parts (a.adapter == b.adapter) (a.domain == b.domain) same)
  where
    by : ((a.adapter == b.adapter) ≡ true) × ((a.domain == b.domain) ≡ true) → a ≡ b
    by parts = λ i. record {
      adapter = eqb-true a.adapter b.adapter parts.0 i;
      domain = eqb-true a.domain b.domain parts.1 i;
    }

pub slot_path : (a b : Slot) → slot_eq a b ≡ true → a ≡ b
slot_path a b same = by (and_parts (domain_eq a.domain b.domain) (a.slot == b.slot) same)
  where
    by : (domain_eq a.domain b.domain ≡ true) × ((a.slot == b.slot) ≡ true) → a ≡ b
    by parts = λ i. record { domain = domain_path a.domain b.domain parts.0 i; slot = eqb-true a.slot b.slot parts.1 i }

pub queue_path : (a b : QueueId) → queue_eq a b ≡ true → a ≡ b
queue_path a b same = by (and_parts (a.adapter == b.adapter) (a.number == b.number) same)
  where
    by : ((a.adapter == b.adapter) ≡ true) × ((a.number == b.number) ≡ true) → a ≡ b
    by parts = λ i. record {
      adapter = eqb-true a.adapter b.adapter parts.0 i;
      number = eqb-true a.number b.number parts.1 i;
    }
