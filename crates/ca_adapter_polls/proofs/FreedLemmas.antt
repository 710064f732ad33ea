-- What completions free, one after another, thing by thing. For proofs only.
use Rattle.std.proofs.Common.{◌≡◌, ◌==◌, ◌&&◌, ◌∙◌, refl, sym, subst, ap, ℕ, Bool, true, false, List, [], ◌∷◌, Option, None, Some, is_some, if◌then◌else◌, true≢false}
use Rattle.std.proofs.lemmas.Bool.{eqb-true}
use Rattle.std.specs.Option.{option_eq, option_map}
use Rattle.ca_base.specs.declared.completion.Completion.{Completion}
use Rattle.ca_keys.specs.declared.names.QueueId.{QueueId}
use Rattle.ca_keys.specs.declared.names.Slot.{Slot}
use Rattle.ca_keys.specs.Equal.{queue_eq}
use Rattle.ca_base.specs.objects.CompletionQueue.{CompletionQueue, source_in}
use Rattle.ca_base.specs.objects.QueuePair.{QueuePair, QueueSlot, NoQueue, Present}
use Rattle.ca_base.specs.objects.SharedReceives.{SharedReceives, SrqSlot, after_receive_retire}
use Rattle.ca_base.specs.objects.WorkQueue.{after_retire}
use Rattle.ca_model.specs.machine.CompletionVerbs.{after_poll, receives_after_poll, slot_after_poll, source_of_completion}
use Rattle.ca_model.specs.machine.Frame.{name_eq}
use Rattle.ca_model.specs.machine.World.{Name, Queue_of, Srq_of, World, get}
use Rattle.ca_model.proofs.RestLemmas.{put-leaves}
use Rattle.ca_model.proofs.ThingLemmas.{domain-refl, is_named_in, queue-path}
use Rattle.ca_adapter_polls.specs.Polling.{IsApart, after_freeing_all, after_freeing, with_places_free, place_of, places_of, shared_at, source_at}
use Rattle.ca_adapter_posts.specs.Posting.{slot_with}

-- a completion of this queue pair
poll-here : (q : QueueId) (c : Completion) (cs : List Completion) (x : QueueSlot) → queue_eq c.queue q ≡ true
    → slot_after_poll q (c ∷ cs) x ≡ slot_after_poll q cs (slot_with (with_places_free c) x)
poll-here q c cs (NoQueue incarnation timers) here = refl
poll-here q c cs (Present p) here = ap (λ b. Present (after_poll q cs (if b then with_places_free c p else p))) here

-- one of another
poll-elsewhere : (q : QueueId) (c : Completion) (cs : List Completion) (x : QueueSlot) → queue_eq c.queue q ≡ false
    → slot_after_poll q (c ∷ cs) x ≡ slot_after_poll q cs x
poll-elsewhere q c cs (NoQueue incarnation timers) other = refl
poll-elsewhere q c cs (Present p) other = ap (λ b. Present (after_poll q cs (if b then with_places_free c p else p))) other

poll-none : (q : QueueId) (x : QueueSlot) → slot_after_poll q [] x ≡ x
poll-none q (NoQueue incarnation timers) = refl
poll-none q (Present p) = refl

-- a completion that has a source is of a receive, and its queue pair reserved for that source
shared-receive : (cq : CompletionQueue) (c : Completion) (srq : ℕ) → source_of_completion cq c ≡ Some srq → (c.receive ≡ true) × (source_in cq.reservations c.queue ≡ Some srq)
shared-receive cq c srq is = by c.receive is
  where
    by : (b : Bool) → (if b then source_in cq.reservations c.queue else None) ≡ Some srq → (b ≡ true) × (source_in cq.reservations c.queue ≡ Some srq)
    by true is = (refl, is)
    by false is = absurd (true≢false (sym (ap is_some is)))

-- it frees nothing in its queue pair
shared-frees-none : (cq : CompletionQueue) (c : Completion) (srq : ℕ) (x : QueueSlot) → source_of_completion cq c ≡ Some srq → IsApart cq c.queue x → slot_with (with_places_free c) x ≡ x
shared-frees-none cq c srq (NoQueue incarnation timers) is apart = refl
shared-frees-none cq c srq (Present p) is apart =
    ap (λ b. Present (freed b)) there.0
    ∙ ap (λ o. Present (record p { receives = option_map (after_retire c.place) o })) none
    ∙ sym (ap (λ o. Present (record p { receives = o })) none)
  where
    there : (c.receive ≡ true) × (source_in cq.reservations c.queue ≡ Some srq)
    there = shared-receive cq c srq is

    none : p.receives ≡ None
    none = apart (ap is_some there.1)

    freed : Bool → QueuePair
    freed true = record p { receives = option_map (after_retire c.place) p.receives }
    freed false = record p { sends = after_retire c.place p.sends }

poll-shared : (cq : CompletionQueue) (q : QueueId) (c : Completion) (cs : List Completion) (srq : ℕ) (x : QueueSlot) → source_of_completion cq c ≡ Some srq → IsApart cq q x
    → slot_after_poll q (c ∷ cs) x ≡ slot_after_poll q cs x
poll-shared cq q c cs srq x is apart = by (queue_eq c.queue q) refl
  where
    by : (b : Bool) → queue_eq c.queue q ≡ b → slot_after_poll q (c ∷ cs) x ≡ slot_after_poll q cs x
    by true here = poll-here q c cs x here ∙ ap (slot_after_poll q cs) (shared-frees-none cq c srq x is (subst (λ n. IsApart cq n x) (sym (queue-path c.queue q here)) apart))
    by false other = poll-elsewhere q c cs x other

-- a queue pair without receives of its own stays so
apart-stays : (cq : CompletionQueue) (q : QueueId) (c : Completion) (x : QueueSlot) → IsApart cq q x → IsApart cq q (slot_with (with_places_free c) x)
apart-stays cq q c (NoQueue incarnation timers) apart = apart
apart-stays cq q c (Present p) apart = λ is. by c.receive (apart is)
  where
    freed : Bool → QueuePair
    freed true = record p { receives = option_map (after_retire c.place) p.receives }
    freed false = record p { sends = after_retire c.place p.sends }

    by : (b : Bool) → p.receives ≡ None → (freed b).receives ≡ None
    by true none = ap (option_map (after_retire c.place)) none
    by false none = none

-- a queue pair's slot, once completions were freed, one after another
pub queue-freed : (s : Slot) (cq : CompletionQueue) (cs : List Completion) (w : World) (q : QueueId) → IsApart cq q (w.queue q)
    → (after_freeing_all s (Some cq) cs w).queue q ≡ slot_after_poll q cs (w.queue q)
queue-freed s cq [] w q apart = sym (poll-none q (w.queue q))
queue-freed s cq (c ∷ cs) w q apart = by (λ v. queue-freed s cq cs v q) (source_of_completion cq c) refl
  where
    after : QueueSlot → QueueSlot
    after x = slot_with (with_places_free c) x

    freed : World
    freed = after_freeing s None c w

    here : queue_eq c.queue q ≡ true → freed.queue q ≡ after (w.queue q)
    here e = ap (λ b. if b then after (w.queue c.queue) else w.queue q) e ∙ ap (λ n. after (w.queue n)) (queue-path c.queue q e)

    elsewhere : queue_eq c.queue q ≡ false → freed.queue q ≡ w.queue q
    elsewhere e = ap (λ b. if b then after (w.queue c.queue) else w.queue q) e

    own : ((v : World) → IsApart cq q (v.queue q) → (after_freeing_all s (Some cq) cs v).queue q ≡ slot_after_poll q cs (v.queue q))
        → (b : Bool) → queue_eq c.queue q ≡ b → (after_freeing_all s (Some cq) cs freed).queue q ≡ slot_after_poll q (c ∷ cs) (w.queue q)
    own again true e = again freed (subst (IsApart cq q) (sym (here e)) (apart-stays cq q c (w.queue q) apart))
        ∙ ap (slot_after_poll q cs) (here e) ∙ sym (poll-here q c cs (w.queue q) e)
    own again false e = again freed (subst (IsApart cq q) (sym (elsewhere e)) apart) ∙ ap (slot_after_poll q cs) (elsewhere e) ∙ sym (poll-elsewhere q c cs (w.queue q) e)

    by : ((v : World) → IsApart cq q (v.queue q) → (after_freeing_all s (Some cq) cs v).queue q ≡ slot_after_poll q cs (v.queue q))
        → (o : Option ℕ) → source_of_completion cq c ≡ o → (after_freeing_all s (Some cq) cs (after_freeing s o c w)).queue q ≡ slot_after_poll q (c ∷ cs) (w.queue q)
    by again None is = own again (queue_eq c.queue q) refl
    by again (Some srq) is = again (after_freeing s (Some srq) c w) apart ∙ sym (poll-shared cq q c cs srq (w.queue q) is apart)

-- a shared receive queue's slot after its receives among these were polled
abbrev pub shared_after : CompletionQueue → ℕ → List Completion → SrqSlot → SrqSlot
shared_after cq srq cs x = record x { srq = option_map (receives_after_poll cq srq cs) x.srq }

-- the same after one of its places was freed
abbrev pub shared_freed : Completion → SrqSlot → SrqSlot
shared_freed c x = record x { srq = option_map (after_receive_retire c.place) x.srq }

shared-none : (cq : CompletionQueue) (srq : ℕ) (x : SrqSlot) → shared_after cq srq [] x ≡ x
shared-none cq srq x = by x.srq
  where
    by : (o : Option SharedReceives) → record x { srq = option_map (receives_after_poll cq srq []) o } ≡ record x { srq = o }
    by None = refl
    by (Some z) = refl

shared-step : (cq : CompletionQueue) (srq : ℕ) (c : Completion) (cs : List Completion) (x : SrqSlot) (b : Bool) → option_eq (λ a b. a == b) (source_of_completion cq c) (Some srq) ≡ b
    → shared_after cq srq (c ∷ cs) x ≡ shared_after cq srq cs (if b then shared_freed c x else x)
shared-step cq srq c cs x b is = by x.srq b is
  where
    freed : Option SharedReceives → Option SharedReceives
    freed o = option_map (after_receive_retire c.place) o

    by : (o : Option SharedReceives) (b : Bool) → option_eq (λ a b. a == b) (source_of_completion cq c) (Some srq) ≡ b
        → record x { srq = option_map (receives_after_poll cq srq (c ∷ cs)) o } ≡ shared_after cq srq cs (if b then record x { srq = freed o } else record x { srq = o })
    by None true is = refl
    by None false is = refl
    by (Some z) true is = ap (λ b. record x { srq = Some (receives_after_poll cq srq cs (if b then after_receive_retire c.place z else z)) }) is
    by (Some z) false is = ap (λ b. record x { srq = Some (receives_after_poll cq srq cs (if b then after_receive_retire c.place z else z)) }) is

-- a place of one shared receive queue of a domain is free again: what stands in the slot of another, or of the same
pub shared-place : (s : Slot) (c : Completion) (w : World) (t u : ℕ) (b : Bool) → (t == u) ≡ b
    → (after_freeing s (Some t) c w).srq (shared_at s u) ≡ (if b then shared_freed c (w.srq (shared_at s u)) else w.srq (shared_at s u))
shared-place s c w t u b e = ap (λ d. if d && (t == u) then shared_freed c (w.srq (shared_at s t)) else w.srq (shared_at s u)) (domain-refl s.domain)
    ∙ ap (λ d. if d then shared_freed c (w.srq (shared_at s t)) else w.srq (shared_at s u)) e ∙ same b e
  where
    same : (b : Bool) → (t == u) ≡ b
        → (if b then shared_freed c (w.srq (shared_at s t)) else w.srq (shared_at s u)) ≡ (if b then shared_freed c (w.srq (shared_at s u)) else w.srq (shared_at s u))
    same true e = ap (λ n. shared_freed c (w.srq (shared_at s n))) (eqb-true t u e)
    same false e = refl

-- a shared receive queue's slot, once completions were freed, one after another
pub shared-freed : (s : Slot) (cq : CompletionQueue) (cs : List Completion) (w : World) (srq : ℕ)
    → (after_freeing_all s (Some cq) cs w).srq (shared_at s srq) ≡ shared_after cq srq cs (w.srq (shared_at s srq))
shared-freed s cq [] w srq = sym (shared-none cq srq (w.srq (shared_at s srq)))
shared-freed s cq (c ∷ cs) w srq = by (λ v. shared-freed s cq cs v srq) (source_of_completion cq c) refl
  where
    at : Slot
    at = shared_at s srq

    by : ((v : World) → (after_freeing_all s (Some cq) cs v).srq at ≡ shared_after cq srq cs (v.srq at))
        → (o : Option ℕ) → source_of_completion cq c ≡ o → (after_freeing_all s (Some cq) cs (after_freeing s o c w)).srq at ≡ shared_after cq srq (c ∷ cs) (w.srq at)
    by again None is = again (after_freeing s None c w)
        ∙ sym (shared-step cq srq c cs (w.srq at) false (ap (λ o. option_eq (λ a b. a == b) o (Some srq)) is))
    by again (Some t) is = again (after_freeing s (Some t) c w) ∙ ap (shared_after cq srq cs) (shared-place s c w t srq (t == srq) refl)
        ∙ sym (shared-step cq srq c cs (w.srq at) (t == srq) (ap (λ o. option_eq (λ a b. a == b) o (Some srq)) is))

-- all things stay under other names
pub rest-freed : (s : Slot) (cq : CompletionQueue) (cs : List Completion) (w : World) (n : Name) → is_named_in (places_of s (Some cq) cs) n ≡ false
    → get (after_freeing_all s (Some cq) cs w) n ≡ get w n
rest-freed s cq [] w n other = refl
rest-freed s cq (c ∷ cs) w n other = by (λ v. rest-freed s cq cs v n) (source_of_completion cq c) (is_named_in (places_of s (Some cq) cs) n) refl other
  where
    one : (o : Option ℕ) → name_eq (place_of s o c) n ≡ false → get (after_freeing s o c w) n ≡ get w n
    one None e = put-leaves w (Queue_of c.queue) (slot_with (with_places_free c) (w.queue c.queue)) n e
    one (Some t) e = put-leaves w (Srq_of (shared_at s t)) (shared_freed c (w.srq (shared_at s t))) n e

    by : ((v : World) → is_named_in (places_of s (Some cq) cs) n ≡ false → get (after_freeing_all s (Some cq) cs v) n ≡ get v n)
        → (o : Option ℕ) (b : Bool) → is_named_in (places_of s (Some cq) cs) n ≡ b → (if b then true else name_eq (place_of s o c) n) ≡ false
        → get (after_freeing_all s (Some cq) cs (after_freeing s o c w)) n ≡ get w n
    by again o true is e = absurd (true≢false e)
    by again o false is e = again (after_freeing s o c w) is ∙ one o e

-- completion queues stay
pub cqs-freed : (s : Slot) (o : Option CompletionQueue) (cs : List Completion) (w : World) → (after_freeing_all s o cs w).cq ≡ w.cq
cqs-freed s o [] w = refl
cqs-freed s o (c ∷ cs) w = cqs-freed s o cs (after_freeing s (source_at o c) c w) ∙ one (source_at o c)
  where
    one : (o : Option ℕ) → (after_freeing s o c w).cq ≡ w.cq
    one None = refl
    one (Some t) = refl
