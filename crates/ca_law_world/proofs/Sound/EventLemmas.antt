-- Every verb keeps a world sound.
use Rattle.std.proofs.Common.{rules, ◌≡◌, ℕ, ◌-◌, ◌≤◌, nat_lt, arith, Bool, true, false, List, [], ◌∷◌, ◌++◌, Option, None, Some, IfSome, subst, ◌∙◌, ◌||◌, ◌==◌, not, ap, sym, true≢false, refl}
use Rattle.std.proofs.lemmas.Bool.{eqb-false, eqb-true, ltb-false, not-false, or_parts}
use Rattle.ca_base.specs.declared.limits.TheConstants.{MAX_CAPACITY}
use Rattle.ca_keys.specs.declared.names.DomainId.{DomainId}
use Rattle.ca_keys.specs.declared.names.QueueId.{QueueId}
use Rattle.ca_keys.specs.declared.names.Slot.{Slot}
use Rattle.ca_keys.specs.declared.place.Run.{Run}
use Rattle.ca_keys.specs.declared.rights.Rights.{Rights}
use Rattle.ca_base.specs.Configuration.{Configuration}
use Rattle.ca_base.specs.objects.CompletionQueue.{empty_cq}
use Rattle.ca_base.specs.objects.Domain.{Domain}
use Rattle.ca_base.specs.objects.QueuePair.{QueuePair, QueueSlot, NoQueue, Present}
use Rattle.ca_base.specs.objects.Region.{with_window_unbound}
use Rattle.ca_base.specs.objects.Window.{Binding, Window, after_window_allocation}
use Rattle.ca_model.specs.declared.answer.Answer.TheVariants as answers
use Rattle.ca_model.specs.machine.CompletionVerbs.{create_cq_plan, create_srq_plan, destroy_cq_plan, destroy_srq_plan}
use Rattle.ca_model.specs.machine.DomainVerbs.{alloc_pd_plan, dealloc_pd_plan}
use Rattle.ca_model.specs.machine.HostVerbs.{inject_plan, load_plan, store_plan}
use Rattle.ca_model.specs.machine.Plan.{◌:=◌, put_all}
use Rattle.ca_model.specs.machine.RegionVerbs.{alloc_mr_plan, dereg_mr_plan, reg_mr_plan}
use Rattle.ca_model.specs.machine.Row.{region_under}
use Rattle.ca_model.specs.machine.Step.{bytes_of_buffer}
use Rattle.ca_model.specs.machine.VerbAnswers.{Call, answer_mark}
use Rattle.ca_model.specs.machine.WindowVerbs.{alloc_mw_plan, dealloc_mw_plan, queue_updates}
use Rattle.ca_model.specs.machine.World.{World, Domain_of, Queue_of, Region_of, Window_of}
use Rattle.ca_model.specs.machine.Invariants.{IsBinding, IsCompletionQueue, IsWindow}
use Rattle.ca_model.specs.machine.Sound.{AreSettled, IsQueueOf, IsSoundWorld}
use Rattle.ca_law_world.proofs.Sound.EngineLemmas.{ends-inject-arrive}
use Rattle.ca_law_world.proofs.Sound.GoodLemmas.{IsLater, taken-same}
use Rattle.ca_law_world.proofs.Sound.ObjectLemmas.{made-receives, object-added, object-removed, vacated-window}
use Rattle.ca_law_world.proofs.Sound.RegionLemmas.{sound-registration}
use Rattle.ca_law_world.proofs.Sound.SettledLemmas.{cq-settled, queue-settled}
use Rattle.ca_law_world.proofs.Sound.TurnLemmas.{windows-queue}
use Rattle.ca_law_world.proofs.Sound.WorldLemmas.{AreQuiet, AreSound, EndsIn, IsGoodChange, quiet-good}
use Rattle.ca_law_world.proofs.Sound.PlanWalks.{binder_updates, deallocated, walk-dealloc_mw, walk-inject}

-- a refusal changes nothing
pub unchanged : (c : Configuration) (w : World) → IsSoundWorld c w → IsGoodChange c w []
unchanged c w sound = quiet-good c w [] sound (record {})

pub ends-alloc_pd : (c : Configuration) (w : World) (call : Call) (d : DomainId) → IsSoundWorld c w → EndsIn w (IsGoodChange c w) (alloc_pd_plan call d)
ends-alloc_pd c w call d sound = (λ is. unchanged c w sound, λ is. quiet-good c w _ sound ((record {}, λ none. absurd (true≢false none)), record {}))

pub ends-dealloc_pd : (c : Configuration) (w : World) (call : Call) (d : DomainId) → IsSoundWorld c w → EndsIn w (IsGoodChange c w) (dealloc_pd_plan call d)
ends-dealloc_pd c w call d sound = (
  λ is. unchanged c w sound,
  λ is. (λ is. unchanged c w sound, λ none. quiet-good c w _ sound ((record {}, λ free. omega (arith, ltb-false 0 (w.domain d).objects none)), record {})),
)

allocated : (d : Domain) → not d.allocated ≡ false → d.allocated ≡ true
allocated d e = not-false d.allocated e

pub ends-reg_mr : (c : Configuration) (w : World) (call : Call) (s : Slot) (at : Run) (rights : Rights) → IsSoundWorld c w → at.adapter ≡ s.domain.adapter
    → EndsIn w (IsGoodChange c w) (reg_mr_plan call s at (bytes_of_buffer c s.domain.adapter at.buffer) rights)
ends-reg_mr c w call s at rights sound own = (
  λ is. unchanged c w sound,
  λ there. (
    λ is. unchanged c w sound,
    λ vacant. (
      λ is. unchanged c w sound,
      λ some. (
        λ is. unchanged c w sound,
        λ within. (
          λ is. unchanged c w sound,
          λ right. quiet-good c w _ sound
              ((record {}, object-added (w.domain s.domain) (allocated (w.domain s.domain) there)), ((record {}, sound-registration c s at rights _ own some within), record {})),
        ),
      ),
    ),
  ),
)

pub ends-alloc_mr : (c : Configuration) (w : World) (call : Call) (s : Slot) (pages : ℕ) → IsSoundWorld c w → EndsIn w (IsGoodChange c w) (alloc_mr_plan call s pages)
ends-alloc_mr c w call s pages sound = search (rules, unchanged, quiet-good, object-added, allocated)

pub ends-dereg_mr : (c : Configuration) (w : World) (call : Call) (s : Slot) → IsSoundWorld c w → EndsIn w (IsGoodChange c w) (dereg_mr_plan call s)
ends-dereg_mr c w call s sound = search (rules, unchanged, quiet-good, object-removed (w.domain s.domain) (sound.things (Domain_of s.domain))) depth 9

allocated-window : (w : Window) (kind : ℕ) → IsWindow w → w.kind ≡ 0 → kind ≤ 2 → IsWindow (after_window_allocation kind w)
allocated-window w kind sound vacant few = record { kind = few; binding = by w.binding sound.binding }
  where
    queue : (o : Option QueueId) → IfSome o (λ q. w.kind ≡ 2) → (o ≡ None → w.kind ≡ 1) → ⊥
    queue None two one = omega (arith, one refl, vacant)
    queue (Some q) two one = omega (arith, two, vacant)

    by : (o : Option Binding) → IfSome o (IsBinding w.kind) → IfSome o (IsBinding kind)
    by None b = record {}
    by (Some b) s = absurd (queue b.queue s.queue s.no_queue)

pub ends-alloc_mw : (c : Configuration) (w : World) (call : Call) (s : Slot) (kind : ℕ) → IsSoundWorld c w → EndsIn w (IsGoodChange c w) (alloc_mw_plan call s kind)
ends-alloc_mw c w call s kind sound = (
  λ is. unchanged c w sound,
  λ there. (
    λ is. unchanged c w sound,
    λ vacant. (
      λ is. unchanged c w sound,
      λ kinds.
          quiet-good c w _ sound (
            (record {}, object-added (w.domain s.domain) (allocated (w.domain s.domain) there)),
            (
              (
                record {},
                (
                  (sound.things (Window_of s)).0,
                  allocated-window (w.window s) kind (sound.things (Window_of s)).1
                      (eqb-true (w.window s).kind 0 (not-false ((w.window s).kind == 0) vacant)) (few (kind == 1) refl (kind == 2) refl (not-false ((kind == 1) || (kind == 2)) kinds)),
                ),
              ),
              record {},
            ),
          ),
    ),
  ),
)
  where
    few : (a : Bool) → (kind == 1) ≡ a → (b : Bool) → (kind == 2) ≡ b → (a || b) ≡ true → kind ≤ 2
    few true e b f or = omega (arith, eqb-true kind 1 e)
    few false e true f or = omega (arith, eqb-true kind 2 f)
    few false e false f or = absurd (true≢false (sym or))

-- the queue pair of a window that is gone, behind quiet changes
binder-good : (c : Configuration) (w v : World) (q : QueueId) → IsSoundWorld c w → v.queue ≡ w.queue → v.cq ≡ w.cq
    → AreSound c (queue_updates q (w.queue q)) × AreSettled (put_all (queue_updates q (w.queue q)) v).queue (put_all (queue_updates q (w.queue q)) v).cq
binder-good c w v q sound queues cqs = by (w.queue q) refl (sound.things (Queue_of q))
  where
    same : AreSettled v.queue v.cq
    same = subst (λ f. AreSettled f v.cq) (sym queues) (subst (λ f. AreSettled w.queue f) (sym cqs) sound.settled)

    later : (p : QueuePair) (windows : ℕ) → IsLater p (record p { windows = windows })
    later p windows = record { queue = refl; domain = refl; send_cq = refl; recv_cq = refl; srq = refl; finished = omega arith; taken = taken-same p.receives }

    by : (s : QueueSlot) → w.queue q ≡ s → IsQueueOf q s → AreSound c (queue_updates q s) × AreSettled (put_all (queue_updates q s) v).queue (put_all (queue_updates q s) v).cq
    by (NoQueue incarnation timers) is one = (record {}, same)
    by (Present p) is one = (
      ((one.0, one.1, windows-queue p (p.windows - 1) one.2), record {}),
      queue-settled v.queue v.cq p (record p { windows = p.windows - 1 }) q same (ap (λ f. f q) queues ∙ is) (later p (p.windows - 1)),
    )

pub ends-dealloc_mw : (c : Configuration) (w : World) (call : Call) (s : Slot) → IsSoundWorld c w → EndsIn w (IsGoodChange c w) (dealloc_mw_plan call s)
ends-dealloc_mw c w call s sound = walk-dealloc_mw w (IsGoodChange c w) call s (unchanged c w sound) (quiet-good c w (deallocated w s) sound quiet) (λ b is. bound (region_under (w.window s) b) b.queue)
  where
    quiet : AreQuiet c (deallocated w s)
    quiet = (
      (record {}, object-removed (w.domain s.domain) (sound.things (Domain_of s.domain))),
      ((record {}, ((sound.things (Window_of s)).0, vacated-window (w.window s))), record {}),
    )

    before : Slot → World
    before at = put_all (deallocated w s ++ (Region_of at := with_window_unbound (w.region at)) ∷ []) w

    binder : (at : Slot) (o : Option QueueId) → AreSound c (binder_updates w o) × AreSettled (put_all (binder_updates w o) (before at)).queue (put_all (binder_updates w o) (before at)).cq
    binder at None = (record {}, sound.settled)
    binder at (Some q) = binder-good c w (before at) q sound refl refl

    bound : (at : Slot) (o : Option QueueId) → IsGoodChange c w (deallocated w s ++ (Region_of at := with_window_unbound (w.region at)) ∷ binder_updates w o)
    bound at o = record { things = (quiet.0.1, (quiet.1.0.1, (sound.things (Region_of at), (binder at o).0))); settled = (binder at o).1 }

pub ends-create_cq : (c : Configuration) (w : World) (call : Call) (s : Slot) (capacity : ℕ) → IsSoundWorld c w → EndsIn w (IsGoodChange c w) (create_cq_plan call s capacity)
ends-create_cq c w call s capacity sound = (
  λ is. unchanged c w sound,
  λ there. (
    λ is. unchanged c w sound,
    λ free. (
      λ is. unchanged c w sound,
      λ in_range. record {
        things = (object-added (w.domain s.domain) (allocated (w.domain s.domain) there), (range in_range, record {}));
        settled = cq-settled w.queue w.cq s (Some (empty_cq capacity)) sound.settled (record {});
      },
    ),
  ),
)
  where
    range : ((capacity == 0) || nat_lt MAX_CAPACITY capacity) ≡ false → IsCompletionQueue (empty_cq capacity)
    range e = by (or_parts (capacity == 0) (nat_lt MAX_CAPACITY capacity) e)
      where
        by : ((capacity == 0) ≡ false) × (nat_lt MAX_CAPACITY capacity ≡ false) → IsCompletionQueue (empty_cq capacity)
        by parts = record { some = omega (arith, eqb-false capacity 0 parts.0); capacity = ltb-false MAX_CAPACITY capacity parts.1 }

pub ends-destroy_cq : (c : Configuration) (w : World) (call : Call) (s : Slot) → IsSoundWorld c w → EndsIn w (IsGoodChange c w) (destroy_cq_plan call s)
ends-destroy_cq c w call s sound = (
  λ is. unchanged c w sound,
  λ there. (
    λ is. unchanged c w sound,
    λ free. record {
      things = (object-removed (w.domain s.domain) (sound.things (Domain_of s.domain)), (record {}, record {}));
      settled = cq-settled w.queue w.cq s None sound.settled (record {});
    },
  ),
)

pub ends-create_srq : (c : Configuration) (w : World) (call : Call) (s : Slot) (depth : ℕ) → IsSoundWorld c w → EndsIn w (IsGoodChange c w) (create_srq_plan call s depth)
ends-create_srq c w call s depth sound = search (rules, unchanged, quiet-good, object-added, allocated, made-receives) depth 9

pub ends-destroy_srq : (c : Configuration) (w : World) (call : Call) (s : Slot) → IsSoundWorld c w → EndsIn w (IsGoodChange c w) (destroy_srq_plan call s)
ends-destroy_srq c w call s sound = search (rules, unchanged, quiet-good, object-removed (w.domain s.domain) (sound.things (Domain_of s.domain))) depth 9

pub ends-store : (c : Configuration) (w : World) (call : Call) (at : Run) (n : ℕ) (bytes : List ℕ) → IsSoundWorld c w → EndsIn w (IsGoodChange c w) (store_plan call at n bytes)
ends-store c w call at n bytes sound = search (rules, unchanged)

pub ends-load : (c : Configuration) (w : World) (call : Call) (at : Run) (n : ℕ) → IsSoundWorld c w → EndsIn w (IsGoodChange c w) (load_plan call at n)
ends-load c w call at n sound = search (rules, unchanged)

pub ends-inject : (c : Configuration) (w : World) (call : Call) (q : QueueId) (bytes : List ℕ) → IsSoundWorld c w → EndsIn w (IsGoodChange c w) (inject_plan c call q bytes)
ends-inject c w call q bytes sound = walk-inject c w (IsGoodChange c w) call q bytes sound (unchanged c w sound)
    (λ p there. ends-inject-arrive c w p bytes None (answer_mark call answers.Fine ∷ []) sound there)
