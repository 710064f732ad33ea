-- The places of all parts of a fabric are numbers in order. For proofs only.
use Rattle.std.proofs.Common.{◌≡◌, ◌∙◌, refl, sym, ap, ap₂, subst, arith, ℕ, zero, suc, ◌+◌, ◌-◌, ◌*◌, ◌/◌, ◌%◌, ◌<◌, ◌≤◌, true, List, [], ◌∷◌, ◌++◌, map, length, take, sum_by, Some, is_some, slice_get}
use Rattle.std.proofs.Math.Nat.{suc-mul}
use Rattle.std.proofs.Math.Seq.{take-append_seam}
use Rattle.std.proofs.lemmas.Bool.{and_from, lt-ltb, le-leb}
use Rattle.std.proofs.lemmas.List.{append_assoc, length-append, map-append}
use Rattle.std.proofs.lemmas.List.Concat.{flat_map-cons}
use Rattle.std.proofs.lemmas.List.FromFn.{length-map-range_with_len}
use Rattle.std.proofs.lemmas.List.Sums.{sum_by-append, sum_by-cons}
use Rattle.std.proofs.lemmas.Option.{slice_get-get_or}
use Rattle.std.specs.List.{AllByRecursion, flat_map, range_with_len}
use Rattle.std.specs.Option.{option_and_then}
use Rattle.ca_keys.specs.declared.names.DomainId.{DomainId}
use Rattle.ca_keys.specs.declared.names.Slot.{Slot}
use Rattle.ca_keys.specs.Numbers.{queue_of}
use Rattle.ca_base.specs.Configuration.{Adapter, Configuration, part_count, parts_of_adapter}
use Rattle.ca_base.specs.objects.Slices.{adapter_at, has_queue, has_slot, slot_of_queue}
use Rattle.ca_model.specs.declared.part_name.PartName.{PartName}
use Rattle.ca_model.specs.declared.part_name.PartName.TheVariants as names
use Rattle.ca_model.specs.machine.Parts.{is_configured_part}
use Rattle.ca_model.specs.machine.Sound.{AreLimited, IsLimitedAdapter}
use Rattle.ca_model_places.specs.Places.{all_parts, domain_of_part, domain_parts, parts_at, parts_before, parts_from, parts_of_domain, place_at, place_of}

-- a range, and one that goes on behind it
joined : (a n m : ℕ) → range_with_len a n ++ range_with_len (a + n) m ≡ range_with_len a (n + m)
joined a zero m = let e : a + 0 ≡ a = omega arith in let z : m ≡ 0 + m = omega arith in ap (λ k. range_with_len k m) e ∙ ap (range_with_len a) z
joined a (suc n) m =
    let e : a + suc n ≡ (a + 1) + n = omega arith in
    let z : suc (n + m) ≡ suc n + m = omega arith in
    ap (λ xs. a ∷ xs) (ap (λ k. range_with_len (a + 1) n ++ range_with_len k m) e ∙ joined (a + 1) n m) ∙ ap (range_with_len a) z

sized : (ps qs : List PartName) (n m : ℕ) → length ps ≡ n → length qs ≡ m → length (ps ++ qs) ≡ n + m
sized ps qs n m one other = length-append ps qs ∙ ap₂ (λ x y. x + y) one other

-- how many parts there are
module _ (adapter : ℕ) (a : Adapter) where
  in_domain : ℕ → List PartName
  in_domain domain = parts_of_domain a (record { adapter = adapter; domain = domain })

  domain-length : (domain : ℕ) → length (parts_of_domain a (record { adapter = adapter; domain = domain })) ≡ domain_parts a
  domain-length domain = ap suc (sized _ _ a.qps _ (length-map-range_with_len _ 0 a.qps) (sized _ _ a.qps _ (length-map-range_with_len _ 0 a.qps)
      (sized _ _ a.cqs _ (length-map-range_with_len _ 0 a.cqs) (sized _ _ a.srqs _ (length-map-range_with_len _ 0 a.srqs)
      (sized _ _ a.windows a.regions (length-map-range_with_len _ 0 a.windows) (length-map-range_with_len _ 0 a.regions))))))
      ∙ sum a.qps a.cqs a.srqs a.windows a.regions
    where
      sum : (q c s w r : ℕ) → suc (q + (q + (c + (s + (w + r))))) ≡ 1 + r + w + c + s + 2 * q
      sum q c s w r = omega arith

  domains-length : (k from : ℕ) → length (flat_map in_domain (range_with_len from k)) ≡ k * domain_parts a
  unfolding in_domain
  domains-length zero from = omega arith
  domains-length (suc k) from = ap length (flat_map-cons in_domain from (range_with_len (from + 1) k))
      ∙ sized (in_domain from) (flat_map in_domain (range_with_len (from + 1) k)) (domain_parts a) (k * domain_parts a) (domain-length from) (domains-length k (from + 1))
      ∙ turned (domain_parts a) (k * domain_parts a) ∙ sym (suc-mul k (domain_parts a))
    where
      turned : (x y : ℕ) → x + y ≡ y + x
      turned x y = omega arith

  pub adapter-length : length (parts_at adapter a) ≡ parts_of_adapter a
  unfolding in_domain
  adapter-length = sized (flat_map in_domain (range_with_len 0 a.domains)) _ (a.domains * domain_parts a) (length a.buffers) (domains-length a.domains 0)
      (length-map-range_with_len (names.Buffer adapter) 0 (length a.buffers))

pub from-length : (adapter : ℕ) (more : List Adapter) → length (parts_from adapter more) ≡ sum_by parts_of_adapter more
from-length adapter [] = refl
from-length adapter (a ∷ more) = sized (parts_at adapter a) (parts_from (suc adapter) more) (parts_of_adapter a) (sum_by parts_of_adapter more)
    (adapter-length adapter a) (from-length (suc adapter) more) ∙ sym (sum_by-cons parts_of_adapter a more)

-- the places of parts are the numbers from this one on
pub record IsNumbered (c : Configuration) (ps : List PartName) (b : ℕ) : Type 0 where
  pub places : map (place_of c) ps ≡ map Some (range_with_len b (length ps))

module _ (c : Configuration) where
  numbered-cons : (p : PartName) (ps : List PartName) (b : ℕ) → place_of c p ≡ Some b → IsNumbered c ps (b + 1) → IsNumbered c (p ∷ ps) b
  numbered-cons p ps b at rest = record { places = ap₂ (λ x xs. x ∷ xs) at rest.places }

  numbered-then : (ps qs : List PartName) (b n : ℕ) → length ps ≡ n → IsNumbered c ps b → IsNumbered c qs (b + n) → IsNumbered c (ps ++ qs) b
  numbered-then ps qs b n size one other = record {
    places = map-append (place_of c) ps qs
        ∙ ap₂ (λ xs ys. xs ++ ys) one.places (other.places ∙ ap (λ k. map Some (range_with_len (b + k) (length qs))) (sym size))
        ∙ sym (map-append Some (range_with_len b (length ps)) (range_with_len (b + length ps) (length qs)))
        ∙ ap (map Some) (joined b (length ps) (length qs) ∙ ap (range_with_len b) (sym (length-append ps qs)));
  }

  numbered-at : (ps : List PartName) (b d : ℕ) → b ≡ d → IsNumbered c ps b → IsNumbered c ps d
  numbered-at ps b d same one = subst (IsNumbered c ps) same one

  -- parts by number, where each has the place of its number behind a first one
  numbered-range : (f : ℕ → PartName) (k from n : ℕ) → ((s : ℕ) → s < from + n → place_of c (f s) ≡ Some (k + s)) → IsNumbered c (map f (range_with_len from n)) (k + from)
  numbered-range f k from zero at = record { places = refl }
  numbered-range f k from (suc n) at = numbered-cons (f from) (map f (range_with_len (from + 1) n)) (k + from) (at from (omega arith))
      (numbered-at (map f (range_with_len (from + 1) n)) (k + (from + 1)) (k + from + 1) (omega arith)
      (numbered-range f k (from + 1) n (λ s within. at s (omega (arith, within)))))

  numbered-first : (f : ℕ → PartName) (k n : ℕ) → ((s : ℕ) → s < n → place_of c (f s) ≡ Some (k + s)) → IsNumbered c (map f (range_with_len 0 n)) k
  numbered-first f k n at = numbered-at (map f (range_with_len 0 n)) (k + 0) k (omega arith) (numbered-range f k 0 n (λ s within. at s (omega (arith, within))))

  -- a configured part of an adapter has its place
  placed : (p : PartName) (a : Adapter) → adapter_at c (domain_of_part p).adapter ≡ Some a → is_configured_part c p ≡ true
      → place_of c p ≡ Some (parts_before c (domain_of_part p).adapter + place_at p a)
  placed p a here there = rw (there, here) refl

  regroup : (b x y s : ℕ) → b + (x + (y + s)) ≡ b + x + y + s
  regroup b x y s = omega arith

  pub slot-in : (a : Adapter) (kind : Adapter → ℕ) (adapter domain slot : ℕ) → adapter_at c adapter ≡ Some a → domain < a.domains → slot < kind a
      → has_slot c kind (record { domain = record { adapter = adapter; domain = domain }; slot = slot }) ≡ true
  slot-in a kind adapter domain slot here in-domain in-slot = rw here (and_from _ _ (lt-ltb domain a.domains in-domain) (lt-ltb slot (kind a) in-slot))

  -- the slot of a queue pair's number
  pub slot-back : (s : Slot) → s.slot < 256 → slot_of_queue (queue_of s) ≡ s
  slot-back s few = λ i. record { domain = record { adapter = s.domain.adapter; domain = number i }; slot = rest i }
    where
      number : ((s.domain.domain + 1) * 256 + s.slot) / 256 - 1 ≡ s.domain.domain
      number = omega (arith, few)

      rest : ((s.domain.domain + 1) * 256 + s.slot) % 256 ≡ s.slot
      rest = omega (arith, few)

  module _ (adapter : ℕ) (a : Adapter) (here : adapter_at c adapter ≡ Some a) (few : a.qps ≤ 256) where
    -- where the parts of a domain begin
    begin : ℕ → ℕ
    begin domain = parts_before c adapter + domain * domain_parts a

    slot_at : ℕ → ℕ → Slot
    slot_at domain slot = record { domain = record { adapter = adapter; domain = domain }; slot = slot }

    queue-in : (domain slot : ℕ) → domain < a.domains → slot < a.qps → has_queue c (queue_of (slot_at domain slot)) ≡ true
    unfolding slot_at
    queue-in domain slot in-domain in-slot = and_from _ _ (le-leb 256 ((domain + 1) * 256 + slot) (omega arith))
        (subst (λ s. has_slot c (λ a. a.qps) s ≡ true) (sym (slot-back (slot_at domain slot) (omega (arith, in-slot, few))))
        (slot-in a (λ a. a.qps) adapter domain slot here in-domain in-slot))

    place-queue : (domain slot : ℕ) → domain < a.domains → slot < a.qps → place_of c (names.Queue (queue_of (slot_at domain slot))) ≡ Some (begin domain + 1 + slot)
    unfolding slot_at begin
    place-queue domain slot in-domain in-slot =
        placed (names.Queue (queue_of (slot_at domain slot))) a here (queue-in domain slot in-domain in-slot)
        ∙ ap (λ s. Some (parts_before c adapter + (s.domain.domain * domain_parts a + (1 + s.slot)))) (slot-back (slot_at domain slot) (omega (arith, in-slot, few)))
        ∙ ap Some (regroup (parts_before c adapter) (domain * domain_parts a) 1 slot)

    place-mailbox : (domain slot : ℕ) → domain < a.domains → slot < a.qps → place_of c (names.Mailbox (queue_of (slot_at domain slot))) ≡ Some (begin domain + (1 + a.qps) + slot)
    unfolding slot_at begin
    place-mailbox domain slot in-domain in-slot =
        placed (names.Mailbox (queue_of (slot_at domain slot))) a here (queue-in domain slot in-domain in-slot)
        ∙ ap (λ s. Some (parts_before c adapter + (s.domain.domain * domain_parts a + (1 + a.qps + s.slot)))) (slot-back (slot_at domain slot) (omega (arith, in-slot, few)))
        ∙ ap Some (regroup (parts_before c adapter) (domain * domain_parts a) (1 + a.qps) slot)

    kind-numbered : (f : ℕ → PartName) (domain off base n : ℕ) → begin domain + off ≡ base → ((s : ℕ) → s < n → place_of c (f s) ≡ Some (begin domain + off + s))
        → IsNumbered c (map f (range_with_len 0 n)) base
    kind-numbered f domain off base n same at = numbered-at (map f (range_with_len 0 n)) (begin domain + off) base same (numbered-first f (begin domain + off) n at)

    domain-numbered : (domain : ℕ) → domain < a.domains → IsNumbered c (parts_of_domain a (record { adapter = adapter; domain = domain })) (begin domain)
    unfolding slot_at begin
    domain-numbered domain within = numbered-cons (names.Control d) _ (begin domain)
        (placed (names.Control d) a here (rw here (lt-ltb domain a.domains within)) ∙ ap Some (omega arith))
        (numbered-then _ _ (begin domain + 1) a.qps (length-map-range_with_len queue 0 a.qps)
        (kind-numbered queue domain 1 (begin domain + 1) a.qps refl (λ s few. place-queue domain s within few))
        (numbered-then _ _ (begin domain + 1 + a.qps) a.qps (length-map-range_with_len mailbox 0 a.qps)
        (kind-numbered mailbox domain (1 + a.qps) (begin domain + 1 + a.qps) a.qps (omega arith) (λ s few. place-mailbox domain s within few))
        (numbered-then _ _ (begin domain + 1 + a.qps + a.qps) a.cqs (length-map-range_with_len cq 0 a.cqs)
        (kind-numbered cq domain (1 + 2 * a.qps) (begin domain + 1 + a.qps + a.qps) a.cqs (omega arith)
        (λ s few. placed (cq s) a here (slot-in a (λ a. a.cqs) adapter domain s here within few)
        ∙ ap Some (regroup (parts_before c adapter) (domain * domain_parts a) (1 + 2 * a.qps) s)))
        (numbered-then _ _ (begin domain + 1 + a.qps + a.qps + a.cqs) a.srqs (length-map-range_with_len srq 0 a.srqs)
        (kind-numbered srq domain (1 + 2 * a.qps + a.cqs) (begin domain + 1 + a.qps + a.qps + a.cqs) a.srqs (omega arith)
        (λ s few. placed (srq s) a here (slot-in a (λ a. a.srqs) adapter domain s here within few)
        ∙ ap Some (regroup (parts_before c adapter) (domain * domain_parts a) (1 + 2 * a.qps + a.cqs) s)))
        (numbered-then _ _ (begin domain + 1 + a.qps + a.qps + a.cqs + a.srqs) a.windows (length-map-range_with_len window 0 a.windows)
        (kind-numbered window domain (1 + 2 * a.qps + a.cqs + a.srqs) (begin domain + 1 + a.qps + a.qps + a.cqs + a.srqs) a.windows (omega arith)
        (λ s few. placed (window s) a here (slot-in a (λ a. a.windows) adapter domain s here within few)
        ∙ ap Some (regroup (parts_before c adapter) (domain * domain_parts a) (1 + 2 * a.qps + a.cqs + a.srqs) s)))
        (kind-numbered region domain (1 + 2 * a.qps + a.cqs + a.srqs + a.windows) (begin domain + 1 + a.qps + a.qps + a.cqs + a.srqs + a.windows) a.regions (omega arith)
        (λ s few. placed (region s) a here (slot-in a (λ a. a.regions) adapter domain s here within few)
        ∙ ap Some (regroup (parts_before c adapter) (domain * domain_parts a) (1 + 2 * a.qps + a.cqs + a.srqs + a.windows) s))))))))
      where
        d : DomainId
        d = record { adapter = adapter; domain = domain }

        queue : ℕ → PartName
        queue s = names.Queue (queue_of (record { domain = d; slot = s }))

        mailbox : ℕ → PartName
        mailbox s = names.Mailbox (queue_of (record { domain = d; slot = s }))

        cq : ℕ → PartName
        cq s = names.Cq (record { domain = d; slot = s })

        srq : ℕ → PartName
        srq s = names.Srq (record { domain = d; slot = s })

        window : ℕ → PartName
        window s = names.Window (record { domain = d; slot = s })

        region : ℕ → PartName
        region s = names.Region (record { domain = d; slot = s })

    next : (b x y : ℕ) → b + (x + 1) * y ≡ b + x * y + y
    next b x y = let e : x + 1 ≡ suc x = omega arith in ap (λ k. b + k * y) e ∙ ap (λ z. b + z) (suc-mul x y) ∙ behind b (x * y) y
      where
        behind : (b u v : ℕ) → b + (u + v) ≡ b + u + v
        behind b u v = omega arith

    domains-numbered : (k from : ℕ) → from + k ≤ a.domains → IsNumbered c (flat_map (in_domain adapter a) (range_with_len from k)) (begin from)
    unfolding in_domain begin
    domains-numbered zero from within = record { places = refl }
    domains-numbered (suc k) from within = subst (λ ps. IsNumbered c ps (begin from)) (sym (flat_map-cons (in_domain adapter a) from (range_with_len (from + 1) k)))
        (numbered-then (in_domain adapter a from) (flat_map (in_domain adapter a) (range_with_len (from + 1) k)) (begin from) (domain_parts a) (domain-length adapter a from)
        (domain-numbered from (omega (arith, within)))
        (numbered-at (flat_map (in_domain adapter a) (range_with_len (from + 1) k)) (begin (from + 1)) (begin from + domain_parts a) (next (parts_before c adapter) from (domain_parts a))
        (domains-numbered k (from + 1) (omega (arith, within)))))

    place-buffer : (index : ℕ) → index < length a.buffers → place_of c (names.Buffer adapter index) ≡ Some (begin a.domains + index)
    unfolding begin
    place-buffer index within = placed (names.Buffer adapter index) a here (ap (λ o. is_some (option_and_then (λ x. slice_get x.buffers index) o)) here ∙ ap is_some (slice_get-get_or a.buffers index 0 within))
        ∙ ap Some (skip (parts_before c adapter) (domain_parts a) (a.domains * domain_parts a) index)
      where
        skip : (b y u x : ℕ) → b + (0 * y + (u + x)) ≡ b + u + x
        skip b y u x = omega arith

    adapter-numbered : IsNumbered c (parts_at adapter a) (parts_before c adapter)
    unfolding in_domain begin
    adapter-numbered = numbered-then (flat_map (in_domain adapter a) (range_with_len 0 a.domains)) (map (names.Buffer adapter) (range_with_len 0 (length a.buffers)))
        (parts_before c adapter) (a.domains * domain_parts a) (domains-length adapter a a.domains 0)
        (numbered-at _ (begin 0) (parts_before c adapter) (none (parts_before c adapter) (domain_parts a)) (domains-numbered a.domains 0 (omega arith)))
        (numbered-first (names.Buffer adapter) (begin a.domains) (length a.buffers) place-buffer)
      where
        none : (b y : ℕ) → b + 0 * y ≡ b
        none b y = omega arith

  at-seam : (pre more : List Adapter) (a : Adapter) → slice_get (pre ++ a ∷ more) (length pre) ≡ Some a
  at-seam [] more a = refl
  at-seam (x ∷ pre) more a = at-seam pre more a

  moved : (more : List Adapter) (i j b d : ℕ) → i ≡ j → b ≡ d → IsNumbered c (parts_from i more) b → IsNumbered c (parts_from j more) d
  moved more i j b d at same one = subst (λ k. IsNumbered c (parts_from k more) d) at (numbered-at (parts_from i more) b d same one)

  from-numbered : (pre more : List Adapter) → pre ++ more ≡ c.adapters → AllByRecursion IsLimitedAdapter more
      → IsNumbered c (parts_from (length pre) more) (sum_by parts_of_adapter pre)
  from-numbered pre [] whole limited = record { places = refl }
  from-numbered pre (a ∷ more) whole limited = numbered-then (parts_at (length pre) a) (parts_from (suc (length pre)) more) (sum_by parts_of_adapter pre) (parts_of_adapter a)
      (adapter-length (length pre) a)
      (numbered-at (parts_at (length pre) a) (parts_before c (length pre)) (sum_by parts_of_adapter pre) before (adapter-numbered (length pre) a here (few a limited.0)))
      (moved more (length (pre ++ a ∷ [])) (suc (length pre)) (sum_by parts_of_adapter (pre ++ a ∷ [])) (sum_by parts_of_adapter pre + parts_of_adapter a) more-adapters more-parts
      (from-numbered (pre ++ a ∷ []) more (append_assoc pre (a ∷ []) more ∙ whole) limited.1))
    where
      few : (a : Adapter) → IsLimitedAdapter a → a.qps ≤ 256
      few a limited = omega (arith, limited.qps)

      here : adapter_at c (length pre) ≡ Some a
      here = ap (λ xs. slice_get xs (length pre)) (sym whole) ∙ at-seam pre more a

      before : parts_before c (length pre) ≡ sum_by parts_of_adapter pre
      before = ap (λ xs. sum_by parts_of_adapter (take (length pre) xs)) (sym whole) ∙ ap (sum_by parts_of_adapter) (take-append_seam pre (a ∷ more))

      plus-one : (n : ℕ) → n + 1 ≡ suc n
      plus-one n = omega arith

      plus-none : (n : ℕ) → n + 0 ≡ n
      plus-none n = omega arith

      more-adapters : length (pre ++ a ∷ []) ≡ suc (length pre)
      more-adapters = length-append pre (a ∷ []) ∙ plus-one (length pre)

      more-parts : sum_by parts_of_adapter (pre ++ a ∷ []) ≡ sum_by parts_of_adapter pre + parts_of_adapter a
      more-parts = sum_by-append parts_of_adapter pre (a ∷ []) ∙ ap (λ n. sum_by parts_of_adapter pre + n) (sum_by-cons parts_of_adapter a [] ∙ plus-none (parts_of_adapter a))

  pub all-numbered : AreLimited c → map (place_of c) (all_parts c) ≡ map Some (range_with_len 0 (part_count c))
  all-numbered limited = (from-numbered [] c.adapters refl limited.adapters).places ∙ ap (λ n. map Some (range_with_len 0 n)) (from-length 0 c.adapters)
