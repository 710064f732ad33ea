-- Each configured part of a fabric stands in the row of its parts, at its place. For proofs only.
use Rattle.std.proofs.Common.{◌≡◌, ◌∙◌, refl, sym, ap, subst, arith, ℕ, zero, suc, ◌+◌, ◌-◌, ◌*◌, ◌/◌, ◌%◌, ◌<◌, ◌≤◌, nat_le, nat_lt, inl, inr, Bool, true, false, if◌then◌else◌, List, [], ◌∷◌, ◌++◌, map, length, Option, None, Some, is_some, slice_get, true≢false}
use Rattle.std.proofs.lemmas.Bool.{and_parts, leb-true, ltb-true}
use Rattle.std.proofs.lemmas.List.Concat.{flat_map-cons}
use Rattle.std.proofs.lemmas.Option.{none-some, slice_get_within}
use Rattle.std.specs.List.{flat_map, range_with_len}
use Rattle.std.specs.Option.{option_and_then, option_map, option_map_or}
use Rattle.ca_keys.specs.declared.names.DomainId.{DomainId}
use Rattle.ca_keys.specs.declared.names.QueueId.{QueueId}
use Rattle.ca_keys.specs.declared.names.Slot.{Slot}
use Rattle.ca_keys.specs.Numbers.{queue_of}
use Rattle.ca_base.specs.Configuration.{Adapter, Configuration, part_count}
use Rattle.ca_base.specs.objects.Slices.{adapter_at, has_domain, has_queue, has_slot, slot_of_queue}
use Rattle.ca_model.specs.declared.part_name.PartName.{PartName}
use Rattle.ca_model.specs.declared.part_name.PartName.TheVariants as names
use Rattle.ca_model.specs.machine.Parts.{IsAmong, is_configured_part}
use Rattle.ca_model.specs.machine.Sound.{AreLimited}
use Rattle.ca_model_places.specs.Places.{all_parts, domain_of_part, parts_at, parts_before, parts_from, parts_of_domain, parts_of_kind, place_at, place_of}
use Rattle.ca_model_places.proofs.NumberLemmas.{all-numbered, from-length}

among-left : (ps qs : List PartName) (p : PartName) → IsAmong ps p → IsAmong (ps ++ qs) p
among-left [] qs p is = absurd is
among-left (x ∷ xs) qs p (inl e) = inl e
among-left (x ∷ xs) qs p (inr is) = inr (among-left xs qs p is)

among-right : (ps qs : List PartName) (p : PartName) → IsAmong qs p → IsAmong (ps ++ qs) p
among-right [] qs p is = is
among-right (x ∷ xs) qs p is = inr (among-right xs qs p is)

among-range : (f : ℕ → PartName) (from n k : ℕ) → k < n → IsAmong (map f (range_with_len from n)) (f (from + k))
among-range f from zero k within = absurd (omega (arith, within))
among-range f from (suc n) zero within = inl (ap f (omega arith))
among-range f from (suc n) (suc k) within = inr (subst (λ j. IsAmong (map f (range_with_len (from + 1) n)) (f j)) (omega arith) (among-range f (from + 1) n k (omega (arith, within))))

among-first : (f : ℕ → PartName) (n k : ℕ) → k < n → IsAmong (map f (range_with_len 0 n)) (f k)
among-first f n k within = subst (λ j. IsAmong (map f (range_with_len 0 n)) (f j)) (omega arith) (among-range f 0 n k within)

among-flat : (f : ℕ → List PartName) (p : PartName) (from n k j : ℕ) → k < n → from + k ≡ j → IsAmong (f j) p → IsAmong (flat_map f (range_with_len from n)) p
among-flat f p from zero k j within at is = absurd (omega (arith, within))
among-flat f p from (suc n) zero j within at is = subst (λ ps. IsAmong ps p) (sym (flat_map-cons f from (range_with_len (from + 1) n)))
    (among-left (f from) (flat_map f (range_with_len (from + 1) n)) p (subst (λ i. IsAmong (f i) p) (omega (arith, at)) is))
among-flat f p from (suc n) (suc k) j within at is = subst (λ ps. IsAmong ps p) (sym (flat_map-cons f from (range_with_len (from + 1) n)))
    (among-right (f from) (flat_map f (range_with_len (from + 1) n)) p (among-flat f p (from + 1) n k j (omega (arith, within)) (omega (arith, at)) is))

among-from : (i : ℕ) (more : List Adapter) (j k : ℕ) (a : Adapter) (p : PartName) → slice_get more j ≡ Some a → i + j ≡ k → IsAmong (parts_at k a) p → IsAmong (parts_from i more) p
among-from i [] j k a p here at is = absurd (none-some a here)
among-from i (x ∷ xs) zero k a p here at is = among-left (parts_at i x) (parts_from (suc i) xs) p
    (subst (λ n. IsAmong (parts_at n x) p) (omega (arith, at)) (subst (λ y. IsAmong (parts_at k y) p) (ap (λ o. option_map_or (λ y. y) o a) (sym here)) is))
among-from i (x ∷ xs) (suc j) k a p here at is = among-right (parts_at i x) (parts_from (suc i) xs) p (among-from (suc i) xs j k a p here (omega (arith, at)) is)

module _ (c : Configuration) where
  -- a domain that is configured, at its adapter
  pub record IsDomainAt (d : DomainId) (a : Adapter) : Type 0 where
    pub here : adapter_at c d.adapter ≡ Some a
    pub within : d.domain < a.domains

  among-domain : (d : DomainId) (a : Adapter) (p : PartName) → IsDomainAt d a → IsAmong (parts_of_domain a d) p → IsAmong (all_parts c) p
  among-domain d a p at is = among-from 0 c.adapters d.adapter d.adapter a p at.here (omega arith)
      (among-left (flat_map domain (range_with_len 0 a.domains)) (map (names.Buffer d.adapter) (range_with_len 0 (length a.buffers))) p (among-flat domain p 0 a.domains d.domain d.domain at.within (omega arith) is))
    where
      domain : ℕ → List PartName
      domain n = parts_of_domain a (record { adapter = d.adapter; domain = n })

  -- a configured domain, and a configured slot
  with-domain : (d : DomainId) (p : PartName) → has_domain c d ≡ true → ((a : Adapter) → IsDomainAt d a → IsAmong (parts_of_domain a d) p) → IsAmong (all_parts c) p
  with-domain d p has more = by (adapter_at c d.adapter) refl has
    where
      by : (o : Option Adapter) → adapter_at c d.adapter ≡ o → option_map_or (λ a. nat_lt d.domain a.domains) o false ≡ true → IsAmong (all_parts c) p
      by None here has = absurd (true≢false (sym has))
      by (Some a) here has = let at : IsDomainAt d a = record { here = here; within = ltb-true d.domain a.domains has } in among-domain d a p at (more a at)

  with-slot : (kind : Adapter → ℕ) (s : Slot) (p : PartName) → has_slot c kind s ≡ true → ((a : Adapter) → s.slot < kind a → IsAmong (parts_of_domain a s.domain) p) → IsAmong (all_parts c) p
  with-slot kind s p has more = by (and_parts (has_domain c s.domain) (option_map_or (λ a. nat_lt s.slot (kind a)) (adapter_at c s.domain.adapter) false) has)
    where
      in-slot : (a : Adapter) → adapter_at c s.domain.adapter ≡ Some a → option_map_or (λ a. nat_lt s.slot (kind a)) (adapter_at c s.domain.adapter) false ≡ true → s.slot < kind a
      in-slot a here has = ltb-true s.slot (kind a) (ap (λ o. option_map_or (λ a. nat_lt s.slot (kind a)) o false) (sym here) ∙ has)

      by : (has_domain c s.domain ≡ true) × (option_map_or (λ a. nat_lt s.slot (kind a)) (adapter_at c s.domain.adapter) false ≡ true) → IsAmong (all_parts c) p
      by has = with-domain s.domain p has.0 (λ a at. more a (in-slot a at.here has.1))

  queue-back : (q : QueueId) → 256 ≤ q.number → queue_of (slot_of_queue q) ≡ q
  queue-back q some = λ i. record { adapter = q.adapter; number = number i }
    where
      number : (q.number / 256 - 1 + 1) * 256 + q.number % 256 ≡ q.number
      number = omega (arith, some)

  with-queue : (q : QueueId) (name : QueueId → PartName) → has_queue c q ≡ true
      → ((a : Adapter) → (slot_of_queue q).slot < a.qps → IsAmong (parts_of_domain a (slot_of_queue q).domain) (name (queue_of (slot_of_queue q)))) → IsAmong (all_parts c) (name q)
  with-queue q name has more = by (and_parts (nat_le 256 q.number) (has_slot c (λ a. a.qps) (slot_of_queue q)) has)
    where
      by : (nat_le 256 q.number ≡ true) × (has_slot c (λ a. a.qps) (slot_of_queue q) ≡ true) → IsAmong (all_parts c) (name q)
      by has = subst (λ k. IsAmong (all_parts c) (name k)) (queue-back q (leb-true 256 q.number has.0))
          (with-slot (λ a. a.qps) (slot_of_queue q) (name (queue_of (slot_of_queue q))) has.1 more)

  among-kind : (name : Slot → PartName) (s : Slot) (n : ℕ) → s.slot < n → IsAmong (parts_of_kind name s.domain n) (name s)
  among-kind name s n few = among-first (λ slot. name (record { domain = s.domain; slot = slot })) n s.slot few

  -- the parts of a domain, from one kind on
  from_regions : Adapter → DomainId → List PartName
  from_regions a d = parts_of_kind (λ s. names.Region s) d a.regions

  from_windows : Adapter → DomainId → List PartName
  from_windows a d = parts_of_kind (λ s. names.Window s) d a.windows ++ from_regions a d

  from_srqs : Adapter → DomainId → List PartName
  from_srqs a d = parts_of_kind (λ s. names.Srq s) d a.srqs ++ from_windows a d

  from_cqs : Adapter → DomainId → List PartName
  from_cqs a d = parts_of_kind (λ s. names.Cq s) d a.cqs ++ from_srqs a d

  from_mailboxes : Adapter → DomainId → List PartName
  from_mailboxes a d = parts_of_kind (λ s. names.Mailbox (queue_of s)) d a.qps ++ from_cqs a d

  from_queues : Adapter → DomainId → List PartName
  from_queues a d = parts_of_kind (λ s. names.Queue (queue_of s)) d a.qps ++ from_mailboxes a d

  queue-among : (a : Adapter) (s : Slot) → s.slot < a.qps → IsAmong (parts_of_domain a s.domain) (names.Queue (queue_of s))
  unfolding from_queues from_mailboxes from_cqs from_srqs from_windows from_regions
  queue-among a s few = inr (among-left (parts_of_kind (λ s. names.Queue (queue_of s)) s.domain a.qps) (from_mailboxes a s.domain) (names.Queue (queue_of s)) (among-kind (λ s. names.Queue (queue_of s)) s a.qps few))

  mailbox-among : (a : Adapter) (s : Slot) → s.slot < a.qps → IsAmong (parts_of_domain a s.domain) (names.Mailbox (queue_of s))
  unfolding from_queues from_mailboxes from_cqs from_srqs from_windows from_regions
  mailbox-among a s few = inr (among-right (parts_of_kind (λ s. names.Queue (queue_of s)) s.domain a.qps) (from_mailboxes a s.domain) (names.Mailbox (queue_of s))
      (among-left (parts_of_kind (λ s. names.Mailbox (queue_of s)) s.domain a.qps) (from_cqs a s.domain) (names.Mailbox (queue_of s)) (among-kind (λ s. names.Mailbox (queue_of s)) s a.qps few)))

  cq-among : (a : Adapter) (s : Slot) → s.slot < a.cqs → IsAmong (parts_of_domain a s.domain) (names.Cq s)
  unfolding from_queues from_mailboxes from_cqs from_srqs from_windows from_regions
  cq-among a s few = inr (among-right (parts_of_kind (λ s. names.Queue (queue_of s)) s.domain a.qps) (from_mailboxes a s.domain) (names.Cq s)
      (among-right (parts_of_kind (λ s. names.Mailbox (queue_of s)) s.domain a.qps) (from_cqs a s.domain) (names.Cq s)
      (among-left (parts_of_kind (λ s. names.Cq s) s.domain a.cqs) (from_srqs a s.domain) (names.Cq s) (among-kind (λ s. names.Cq s) s a.cqs few))))

  srq-among : (a : Adapter) (s : Slot) → s.slot < a.srqs → IsAmong (parts_of_domain a s.domain) (names.Srq s)
  unfolding from_queues from_mailboxes from_cqs from_srqs from_windows from_regions
  srq-among a s few = inr (among-right (parts_of_kind (λ s. names.Queue (queue_of s)) s.domain a.qps) (from_mailboxes a s.domain) (names.Srq s)
      (among-right (parts_of_kind (λ s. names.Mailbox (queue_of s)) s.domain a.qps) (from_cqs a s.domain) (names.Srq s)
      (among-right (parts_of_kind (λ s. names.Cq s) s.domain a.cqs) (from_srqs a s.domain) (names.Srq s)
      (among-left (parts_of_kind (λ s. names.Srq s) s.domain a.srqs) (from_windows a s.domain) (names.Srq s) (among-kind (λ s. names.Srq s) s a.srqs few)))))

  window-among : (a : Adapter) (s : Slot) → s.slot < a.windows → IsAmong (parts_of_domain a s.domain) (names.Window s)
  unfolding from_queues from_mailboxes from_cqs from_srqs from_windows from_regions
  window-among a s few = inr (among-right (parts_of_kind (λ s. names.Queue (queue_of s)) s.domain a.qps) (from_mailboxes a s.domain) (names.Window s)
      (among-right (parts_of_kind (λ s. names.Mailbox (queue_of s)) s.domain a.qps) (from_cqs a s.domain) (names.Window s)
      (among-right (parts_of_kind (λ s. names.Cq s) s.domain a.cqs) (from_srqs a s.domain) (names.Window s)
      (among-right (parts_of_kind (λ s. names.Srq s) s.domain a.srqs) (from_windows a s.domain) (names.Window s)
      (among-left (parts_of_kind (λ s. names.Window s) s.domain a.windows) (from_regions a s.domain) (names.Window s) (among-kind (λ s. names.Window s) s a.windows few))))))

  region-among : (a : Adapter) (s : Slot) → s.slot < a.regions → IsAmong (parts_of_domain a s.domain) (names.Region s)
  unfolding from_queues from_mailboxes from_cqs from_srqs from_windows from_regions
  region-among a s few = inr (among-right (parts_of_kind (λ s. names.Queue (queue_of s)) s.domain a.qps) (from_mailboxes a s.domain) (names.Region s)
      (among-right (parts_of_kind (λ s. names.Mailbox (queue_of s)) s.domain a.qps) (from_cqs a s.domain) (names.Region s)
      (among-right (parts_of_kind (λ s. names.Cq s) s.domain a.cqs) (from_srqs a s.domain) (names.Region s)
      (among-right (parts_of_kind (λ s. names.Srq s) s.domain a.srqs) (from_windows a s.domain) (names.Region s)
      (among-right (parts_of_kind (λ s. names.Window s) s.domain a.windows) (from_regions a s.domain) (names.Region s)
      (among-kind (λ s. names.Region s) s a.regions few))))))

  pub all-among : (p : PartName) → is_configured_part c p ≡ true → IsAmong (all_parts c) p
  all-among (names.Control d) has = with-domain d (names.Control d) has (λ a at. inl refl)
  all-among (names.Queue q) has = with-queue q names.Queue has (λ a few. queue-among a (slot_of_queue q) few)
  all-among (names.Mailbox q) has = with-queue q names.Mailbox has (λ a few. mailbox-among a (slot_of_queue q) few)
  all-among (names.Cq s) has = with-slot (λ a. a.cqs) s (names.Cq s) has (λ a few. cq-among a s few)
  all-among (names.Srq s) has = with-slot (λ a. a.srqs) s (names.Srq s) has (λ a few. srq-among a s few)
  all-among (names.Window s) has = with-slot (λ a. a.windows) s (names.Window s) has (λ a few. window-among a s few)
  all-among (names.Region s) has = with-slot (λ a. a.regions) s (names.Region s) has (λ a few. region-among a s few)
  all-among (names.Buffer adapter index) has = by (adapter_at c adapter) refl has
    where
      there : (a : Adapter) (o : Option ℕ) → slice_get a.buffers index ≡ o → is_some o ≡ true → index < length a.buffers
      there a None at has = absurd (true≢false (sym has))
      there a (Some n) at has = slice_get_within a.buffers index n at

      by : (o : Option Adapter) → adapter_at c adapter ≡ o → is_some (option_and_then (λ a. slice_get a.buffers index) o) ≡ true → IsAmong (all_parts c) (names.Buffer adapter index)
      by None here has = absurd (true≢false (sym has))
      by (Some a) here has = among-from 0 c.adapters adapter adapter a (names.Buffer adapter index) here (omega arith)
          (among-right (flat_map (λ domain. parts_of_domain a (record { adapter = adapter; domain = domain })) (range_with_len 0 a.domains)) (map (names.Buffer adapter) (range_with_len 0 (length a.buffers)))
          (names.Buffer adapter index) (among-first (names.Buffer adapter) (length a.buffers) index (there a (slice_get a.buffers index) refl has)))

  -- where a part stands in a row of parts that are numbered from some number on
  pub record IsAt (ps : List PartName) (b : ℕ) (p : PartName) (n : ℕ) : Type 0 where
    pub index : ℕ
    pub number : b + index ≡ n
    pub part : slice_get ps index ≡ Some p

  first : List (Option ℕ) → Option ℕ
  first [] = None
  first (x ∷ xs) = x

  rest : List (Option ℕ) → List (Option ℕ)
  rest [] = []
  rest (x ∷ xs) = xs

  at-place : (ps : List PartName) (b : ℕ) (p : PartName) (n : ℕ) → map (place_of c) ps ≡ map Some (range_with_len b (length ps)) → IsAmong ps p → place_of c p ≡ Some n → IsAt ps b p n
  unfolding first rest
  at-place [] b p n numbered is at = absurd is
  at-place (x ∷ xs) b p n numbered (inl e) at = record {
    index = 0;
    number = ap (λ o. option_map_or (λ k. k) o 0) (ap Some (plus-none b) ∙ sym (ap first numbered) ∙ ap (place_of c) (sym e) ∙ at);
    part = ap Some (sym e);
  }
    where
      plus-none : (b : ℕ) → b + 0 ≡ b
      plus-none b = omega arith
  at-place (x ∷ xs) b p n numbered (inr is) at = behind (at-place xs (b + 1) p n (ap rest numbered) is at)
    where
      behind : IsAt xs (b + 1) p n → IsAt (x ∷ xs) b p n
      behind found = record { index = suc found.index; number = omega (arith, found.number); part = found.part }

  configured : (p : PartName) (n : ℕ) → place_of c p ≡ Some n → is_configured_part c p ≡ true
  configured p n at = by (is_configured_part c p) at
    where
      by : (b : Bool) → (if b then option_map (λ a. parts_before c (domain_of_part p).adapter + place_at p a) (adapter_at c (domain_of_part p).adapter) else None) ≡ Some n → b ≡ true
      by true at = refl
      by false at = absurd (none-some n at)

  pub place-at : (p : PartName) (n : ℕ) → AreLimited c → place_of c p ≡ Some n → IsAt (all_parts c) 0 p n
  place-at p n limited at = at-place (all_parts c) 0 p n
      (all-numbered c limited ∙ ap (λ k. map Some (range_with_len 0 k)) (sym (from-length 0 c.adapters))) (all-among p (configured p n at)) at

  pub place-below : (p : PartName) (n : ℕ) → AreLimited c → place_of c p ≡ Some n → n < part_count c
  place-below p n limited at = by (place-at p n limited at)
    where
      by : IsAt (all_parts c) 0 p n → n < part_count c
      by found = subst (λ k. n < k) (from-length 0 c.adapters)
          (subst (λ k. k < length (all_parts c)) (omega (arith, found.number)) (slice_get_within (all_parts c) found.index p found.part))

  pub place-apart : (p q : PartName) (n : ℕ) → AreLimited c → place_of c p ≡ Some n → place_of c q ≡ Some n → p ≡ q
  place-apart p q n limited one other = by (place-at p n limited one) (place-at q n limited other)
    where
      by : IsAt (all_parts c) 0 p n → IsAt (all_parts c) 0 q n → p ≡ q
      by here there = ap (λ o. option_map_or (λ x. x) o p)
          (sym here.part ∙ ap (slice_get (all_parts c)) (same here.index there.index here.number there.number) ∙ there.part)
        where
          same : (i j : ℕ) → 0 + i ≡ n → 0 + j ≡ n → i ≡ j
          same i j one other = omega (arith, one, other)
