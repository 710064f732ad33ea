-- Freeing what one completion stands for leaves what the others stand for such that it can be freed. For proofs only.
use Rattle.std.proofs.Common.{◌≡◌, ◌==◌, ◌∙◌, refl, sym, subst, ap, ℕ, suc, zero, not, Bool, true, false, List, [], ◌∷◌, Option, None, Some, IfSome, filter, length, map, take, if◌then◌else◌, true≢false}
use Rattle.std.proofs.lemmas.Bool.{eq-eqb, eqb-true}
use Rattle.std.specs.List.{AllByRecursion, IsDistinct}
use Rattle.std.specs.Option.{option_eq, option_map}
use Rattle.ca_base.specs.declared.completion.Completion.{Completion}
use Rattle.ca_base.specs.declared.request.RecvRequest.{RecvRequest}
use Rattle.ca_keys.specs.declared.names.Slot.{Slot}
use Rattle.ca_keys.specs.Equal.{queue_eq}
use Rattle.ca_base.specs.objects.CompletionQueue.{CompletionQueue}
use Rattle.ca_base.specs.objects.QueuePair.{QueuePair, QueueSlot, NoQueue, Present, queue_in}
use Rattle.ca_base.specs.objects.SharedReceives.{SharedReceives, SrqSlot, after_receive_retire}
use Rattle.ca_base.specs.objects.WorkQueue.{WorkQueue, after_retire}
use Rattle.ca_srq.specs.Taken.{stands_once}
use Rattle.ca_model.specs.machine.CompletionVerbs.{source_of_completion}
use Rattle.ca_model.specs.machine.World.{World}
use Rattle.ca_model.proofs.ThingLemmas.{queue-path}
use Rattle.ca_adapter_polls.proofs.FreedLemmas.{shared-place, shared_freed}
use Rattle.ca_adapter_polls.specs.Polling.{CanFreeAll, CanFreeOf, CanRetire, after_freeing, with_places_free, places_from, shared_at}
use Rattle.ca_adapter_posts.specs.Posting.{slot_with}

-- without another place, a place stands among others as often as before
same-count : (x y : ℕ) (ps : List ℕ) → (x == y) ≡ false → filter (λ p. p == y) (filter (λ p. not (p == x)) ps) ≡ filter (λ p. p == y) ps
same-count x y [] apart = refl
same-count x y (p ∷ ps) apart = by (p == x) refl (p == y) refl (same-count x y ps apart)
  where
    by : (a : Bool) → (p == x) ≡ a → (b : Bool) → (p == y) ≡ b → filter (λ p. p == y) (filter (λ p. not (p == x)) ps) ≡ filter (λ p. p == y) ps
        → filter (λ p. p == y) (if not a then p ∷ filter (λ p. not (p == x)) ps else filter (λ p. not (p == x)) ps) ≡ (if b then p ∷ filter (λ p. p == y) ps else filter (λ p. p == y) ps)
    by true e true f again = absurd (true≢false (sym f ∙ ap (λ n. n == y) (eqb-true p x e) ∙ apart))
    by true e false f again = again
    by false e true f again = ap (λ b. if b then p ∷ filter (λ p. p == y) (filter (λ p. not (p == x)) ps) else filter (λ p. p == y) (filter (λ p. not (p == x)) ps)) f
        ∙ ap (λ qs. p ∷ qs) again
    by false e false f again = ap (λ b. if b then p ∷ filter (λ p. p == y) (filter (λ p. not (p == x)) ps) else filter (λ p. p == y) (filter (λ p. not (p == x)) ps)) f ∙ again

-- a place of a shared receive queue that stands there once does so after another one was freed
once-kept : (c x : Completion) (z : SrqSlot) → (c.place == x.place) ≡ false → IfSome z.srq (λ v. stands_once x.place v.taken ≡ true)
    → IfSome (shared_freed c z).srq (λ v. stands_once x.place v.taken ≡ true)
once-kept c x z apart can = by z.srq can
  where
    by : (o : Option SharedReceives) → IfSome o (λ v. stands_once x.place v.taken ≡ true) → IfSome (option_map (after_receive_retire c.place) o) (λ v. stands_once x.place v.taken ≡ true)
    by None can = can
    by (Some v) can = ap (λ ps. length ps == 1) (same-count c.place x.place v.taken apart) ∙ can

-- a queue pair in which places were freed has sends, and has or lacks receives, as before
retire-kept : (c x : Completion) (p : QueuePair) → CanRetire x p → CanRetire x (with_places_free c p)
retire-kept c x p can = by c.receive
  where
    freed : Bool → QueuePair
    freed true = record p { receives = option_map (after_retire c.place) p.receives }
    freed false = record p { sends = after_retire c.place p.sends }

    own : (r : Bool) (o : Option (WorkQueue RecvRequest)) → CanRetire (record x { receive = r }) (record p { receives = o })
        → CanRetire (record x { receive = r }) (record p { receives = option_map (after_retire c.place) o })
    own true None can = can
    own true (Some q) can = can
    own false o can = can

    by : (b : Bool) → CanRetire x (freed b)
    by true = own x.receive p.receives can
    by false = can

queue-kept : (c x : Completion) (z : QueueSlot) → IfSome (queue_in z) (CanRetire x) → IfSome (queue_in (slot_with (with_places_free c) z)) (CanRetire x)
queue-kept c x (NoQueue incarnation timers) can = can
queue-kept c x (Present p) can = retire-kept c x p can

-- what another completion stands for, after places of a queue pair were freed
kept-by-queue : (s : Slot) (c x : Completion) (w : World) (o : Option ℕ) → CanFreeOf s o x w → CanFreeOf s o x (after_freeing s None c w)
kept-by-queue s c x w (Some u) can = can
kept-by-queue s c x w None can = by (queue_eq c.queue x.queue) refl
  where
    by : (b : Bool) → queue_eq c.queue x.queue ≡ b → IfSome (queue_in (if b then slot_with (with_places_free c) (w.queue c.queue) else w.queue x.queue)) (CanRetire x)
    by true e = queue-kept c x (w.queue c.queue) (subst (λ n. IfSome (queue_in (w.queue n)) (CanRetire x)) (sym (queue-path c.queue x.queue e)) can)
    by false e = can

-- and after a place of a shared receive queue was freed, which is not its own
kept-by-shared : (s : Slot) (c x : Completion) (w : World) (t : ℕ) (o : Option ℕ) → (option_eq (λ a b. a == b) (Some t) o ≡ true → (c.place == x.place) ≡ false)
    → CanFreeOf s o x w → CanFreeOf s o x (after_freeing s (Some t) c w)
kept-by-shared s c x w t None apart can = can
kept-by-shared s c x w t (Some u) apart can =
    subst (λ z. IfSome z.srq (λ v. stands_once x.place v.taken ≡ true)) (sym (shared-place s c w t u (t == u) refl)) (by (t == u) apart)
  where
    by : (b : Bool) → (b ≡ true → (c.place == x.place) ≡ false)
        → IfSome (if b then shared_freed c (w.srq (shared_at s u)) else w.srq (shared_at s u)).srq (λ v. stands_once x.place v.taken ≡ true)
    by true apart = once-kept c x (w.srq (shared_at s u)) (apart refl) can
    by false apart = can

module _ (s : Slot) (cq : CompletionQueue) where
  abbrev CanFree : World → Completion → Type 0
  CanFree w x = CanFreeOf s (source_of_completion cq x) x w

  all-kept-by-queue : (c : Completion) (w : World) (xs : List Completion) → AllByRecursion (CanFree w) xs → AllByRecursion (CanFree (after_freeing s None c w)) xs
  all-kept-by-queue c w [] all = record {}
  all-kept-by-queue c w (x ∷ xs) all = (kept-by-queue s c x w (source_of_completion cq x) all.0, all-kept-by-queue c w xs all.1)

  all-kept-by-shared : (c : Completion) (w : World) (t : ℕ) (xs : List Completion) → AllByRecursion (λ p. (c.place == p) ≡ false) (places_from cq t xs)
      → AllByRecursion (CanFree w) xs → AllByRecursion (CanFree (after_freeing s (Some t) c w)) xs
  all-kept-by-shared c w t [] apart all = record {}
  all-kept-by-shared c w t (x ∷ xs) apart all =
      by (option_eq (λ a b. a == b) (Some t) (source_of_completion cq x)) refl apart (λ behind. all-kept-by-shared c w t xs behind all.1)
    where
      one : (option_eq (λ a b. a == b) (Some t) (source_of_completion cq x) ≡ true → (c.place == x.place) ≡ false) → CanFree (after_freeing s (Some t) c w) x
      one apart = kept-by-shared s c x w t (source_of_completion cq x) apart all.0

      by : (b : Bool) → option_eq (λ a b. a == b) (Some t) (source_of_completion cq x) ≡ b
          → AllByRecursion (λ p. (c.place == p) ≡ false) (map (λ c. c.place) (if b then x ∷ filter (λ c. option_eq (λ a b. a == b) (Some t) (source_of_completion cq c)) xs
          else filter (λ c. option_eq (λ a b. a == b) (Some t) (source_of_completion cq c)) xs))
          → (AllByRecursion (λ p. (c.place == p) ≡ false) (places_from cq t xs) → AllByRecursion (CanFree (after_freeing s (Some t) c w)) xs)
          → AllByRecursion (CanFree (after_freeing s (Some t) c w)) (x ∷ xs)
      by true e apart again = (one (λ is. apart.0), again apart.1)
      by false e apart again = (one (λ is. absurd (true≢false (sym is ∙ e))), again apart)

  -- the places behind one are distinct too, and other than its own
  distinct-tail : (t : ℕ) (c : Completion) (cs : List Completion) → IsDistinct (λ a b. a == b) (places_from cq t (c ∷ cs)) → IsDistinct (λ a b. a == b) (places_from cq t cs)
  unfolding IsDistinct
  distinct-tail t c cs = by (option_eq (λ a b. a == b) (Some t) (source_of_completion cq c))
    where
      by : (b : Bool) → IsDistinct (λ a b. a == b) (map (λ c. c.place) (if b then c ∷ filter (λ c. option_eq (λ a b. a == b) (Some t) (source_of_completion cq c)) cs
          else filter (λ c. option_eq (λ a b. a == b) (Some t) (source_of_completion cq c)) cs))
          → IsDistinct (λ a b. a == b) (places_from cq t cs)
      by true all = all.1
      by false all = all

  distinct-head : (t : ℕ) (c : Completion) (cs : List Completion) → source_of_completion cq c ≡ Some t → IsDistinct (λ a b. a == b) (places_from cq t (c ∷ cs))
      → AllByRecursion (λ p. (c.place == p) ≡ false) (places_from cq t cs)
  unfolding IsDistinct
  distinct-head t c cs is = by (option_eq (λ a b. a == b) (Some t) (source_of_completion cq c)) (ap (option_eq (λ a b. a == b) (Some t)) is ∙ eq-eqb t t refl)
    where
      by : (b : Bool) → b ≡ true → IsDistinct (λ a b. a == b) (map (λ c. c.place) (if b then c ∷ filter (λ c. option_eq (λ a b. a == b) (Some t) (source_of_completion cq c)) cs
          else filter (λ c. option_eq (λ a b. a == b) (Some t) (source_of_completion cq c)) cs))
          → AllByRecursion (λ p. (c.place == p) ≡ false) (places_from cq t cs)
      by true e all = all.0
      by false e all = absurd (true≢false (sym e))

  kept : (c : Completion) (cs : List Completion) (w : World) → ((t : ℕ) → IsDistinct (λ a b. a == b) (places_from cq t (c ∷ cs))) → AllByRecursion (CanFree w) cs
      → AllByRecursion (CanFree (after_freeing s (source_of_completion cq c) c w)) cs
  kept c cs w own all = by (source_of_completion cq c) refl
    where
      by : (o : Option ℕ) → source_of_completion cq c ≡ o → AllByRecursion (CanFree (after_freeing s o c w)) cs
      by None is = all-kept-by-queue c w cs all
      by (Some t) is = all-kept-by-shared c w t cs (distinct-head t c cs is (own t)) all

  -- the first so many can be freed, one after another
  pub taken-free : (n : ℕ) (cs : List Completion) (w : World) → AllByRecursion (CanFree w) cs → ((t : ℕ) → IsDistinct (λ a b. a == b) (places_from cq t cs))
      → CanFreeAll s (Some cq) (take n cs) w
  taken-free zero cs w all own = record {}
  taken-free (suc n) [] w all own = record {}
  taken-free (suc n) (c ∷ cs) w all own =
      (all.0, taken-free n cs (after_freeing s (source_of_completion cq c) c w) (kept c cs w own all.1) (λ t. distinct-tail t c cs (own t)))
