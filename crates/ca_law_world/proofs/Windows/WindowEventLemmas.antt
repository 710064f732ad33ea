-- Every event keeps windows counted.
use Rattle.ca_base.specs.declared.change.State.TheVariants as states
use Rattle.ca_base.specs.objects.WorkQueue.{after_retire}
use Rattle.std.proofs.Common.{rules, ◌≡◌, ℕ, Bool, true, false, List, [], ◌∷◌, ◌++◌, Option, None, Some, IfSome, subst, ◌∙◌, if◌then◌else◌, refl, ◌+◌, ◌-◌, ◌≤◌, nat_lt, arith, ◌==◌, true≢false, take, ap, sym, ◌⊎◌, inl, inr, length}
use Rattle.std.proofs.lemmas.Bool.{not-false, ltb-false}
use Rattle.std.specs.Option.{option_and_then, option_map_or, option_map}
use Rattle.ca_keys.specs.declared.names.QueueId.{QueueId}
use Rattle.ca_base.specs.Configuration.{Configuration}
use Rattle.ca_base.specs.objects.QueuePair.{QueuePair, QueueSlot, NoQueue, Present, is_present, recv_cq_of, send_cq_of, with_all_flushed}
use Rattle.ca_base.specs.objects.SharedReceives.{SrqSlot, SharedReceives, after_receives_retire}
use Rattle.ca_model.specs.machine.Around.{Around, completions_to, srq_updates}
use Rattle.ca_model.specs.machine.Plan.{Plan, Stuck, Look, Finish, Update, ◌:=◌, Write, put_all, If, Read, perform, write_all}
use Rattle.ca_model.specs.machine.Row.{region_under}
use Rattle.ca_model.specs.machine.World.{World, Mailbox_of, Queue_of, put, Cq_of, Domain_of, Srq_of, Window_of, Name, Byte_at, Region_of, Thing, get, opening_world}
use Rattle.ca_model.specs.machine.Sound.{IsSoundWorld}
use Rattle.ca_law_world.proofs.Sound.SettledLemmas.{queue-path, slot-path}
use Rattle.ca_law_world.proofs.Sound.WorldLemmas.{EndsIn, around_in, shared_of}
use Rattle.ca_base.specs.declared.change.Change as state_change
use Rattle.ca_base.specs.declared.change.Change.TheVariants as changes
use Rattle.ca_base.specs.declared.completion.Completion.{Completion}
use Rattle.ca_keys.specs.declared.names.Slot.{Slot}
use Rattle.ca_base.specs.declared.request.RecvRequest.{RecvRequest}
use Rattle.ca_base.specs.declared.request.SendRequest.{SendRequest}
use Rattle.ca_keys.specs.Equal.{queue_eq, slot_eq}
use Rattle.ca_keys.specs.Numbers.{queue_of}
use Rattle.ca_base.specs.objects.CompletionQueue.{after_puts, after_polls}
use Rattle.ca_base.specs.objects.StateTable.{queue_after_change, state_eq}
use Rattle.ca_base.specs.objects.Window.{Window, after_draw, byte_drawn, Binding, after_deallocation}
use Rattle.ca_base.specs.objects.WorkQueue.{with_item}
use Rattle.ca_base.specs.Grants.{next_low}
use Rattle.ca_model.specs.machine.CompletionVerbs.{after_poll, poll_plan, slot_after_poll}
use Rattle.ca_model.specs.machine.PostingVerbs.{Posted_send, post_send_refusals, post_recv_refusals, after_flush, marks_of_flush, post_recv_plan, post_send_plan, post_srq_plan, with_send}
use Rattle.ca_model.specs.machine.QueuePairVerbs.{Creation, create_qp_plan, destroy_qp_plan, left_updates, modify_qp_plan, places_held, user_updates}
use Rattle.ca_model.specs.machine.VerbAnswers.{Call}
use Rattle.ca_keys.specs.declared.place.Run.{Run}
use Rattle.ca_keys.specs.declared.rights.Rights.{Rights}
use Rattle.ca_base.specs.objects.Region.{with_window_unbound, Region, grant_of_region, is_vacant_region, RegionState, NoRegion, Free, Registered, FastRegistered, has_no_region, grant_in_state}
use Rattle.ca_model.specs.machine.RegionVerbs.{alloc_mr_plan, dereg_mr_plan, reg_mr_plan}
use Rattle.ca_model.specs.machine.Step.{bytes_of_buffer, plan, run_of, step, verb_plan}
use Rattle.ca_model.specs.machine.WindowVerbs.{alloc_mw_plan, dealloc_mw_plan, queue_updates}
use Rattle.ca_keys.specs.Memory.{ByteMap, bytes_at}
use Rattle.ca_model.specs.declared.event.Event.{Event}
use Rattle.ca_model.specs.declared.event.Event.TheVariants as events
use Rattle.ca_model.specs.declared.verb.Verb.{Verb}
use Rattle.ca_model.specs.declared.verb.Verb.TheVariants as verbs
use Rattle.ca_model.specs.machine.Frame.{Afterwards}
use Rattle.ca_model.proofs.FrameLemmas.{after_write}
use Rattle.ca_law_world.specs.Bindings.{AreBound, IsBoundWorld, LiesIn, is_bound_by, windows_of}
use Rattle.ca_law_world.proofs.Windows.BindingLemmas.{IsUnused, kept-bound, moved-bound, one}
use Rattle.ca_law_world.proofs.Windows.WindowWorldLemmas.{Bounds, window-leaves}
use Rattle.ca_law_world.proofs.Windows.WindowTurnLemmas.{bound-deliver, bound-inject, bound-request, bound-respond, bound-timeout, bound-wake}
use Rattle.ca_law_world.proofs.Sound.PlanWalks.{binder_updates, changed_around, created, deallocated, destroyed, shared_beside, walk-call, walk-create, walk-dealloc_mw, walk-destroy, walk-modify, walk-places, walk-poll, walk-post_send, walk-present}

-- two worlds with the same windows and regions, in which queue pairs count the same windows
record AreEven (w u : World) : Type 0 where
  window : u.window ≡ w.window
  region : u.region ≡ w.region
  queues : (q : QueueId) → windows_of (u.queue q) ≡ windows_of (w.queue q)

-- a change that leaves these
abbrev IsEven : World → (n : Name) → Thing n → Type 0
IsEven w (Window_of s) t = ⊥
IsEven w (Region_of s) t = ⊥
IsEven w (Queue_of q) t = windows_of t ≡ windows_of (w.queue q)
IsEven w n t = Unit {0}

abbrev AllEven : World → List Update → Type 0
AllEven w [] = Unit {0}
AllEven w (x ∷ xs) = IsEven w x.name x.thing × AllEven w xs

even-put : (w u : World) (n : Name) (t : Thing n) → IsEven w n t → AreEven w u → AreEven w (put u n t)
even-put w u (Window_of s) t even same = absurd even
even-put w u (Region_of s) t even same = absurd even
even-put w u (Queue_of q) t even same = record { window = same.window; region = same.region; queues = λ name. by name (queue_eq q name) refl }
  where
    by : (name : QueueId) (b : Bool) → queue_eq q name ≡ b → windows_of (if b then t else u.queue name) ≡ windows_of (w.queue name)
    by name true e = even ∙ ap (λ m. windows_of (w.queue m)) (queue-path q name e)
    by name false e = same.queues name
even-put w u (Domain_of d) t even same = record { window = same.window; region = same.region; queues = same.queues }
even-put w u (Cq_of s) t even same = record { window = same.window; region = same.region; queues = same.queues }
even-put w u (Srq_of s) t even same = record { window = same.window; region = same.region; queues = same.queues }
even-put w u (Mailbox_of q) t even same = record { window = same.window; region = same.region; queues = same.queues }
even-put w u (Byte_at p) t even same = record { window = same.window; region = same.region; queues = same.queues }

even-puts : (w u : World) (xs : List Update) → AllEven w xs → AreEven w u → AreEven w (put_all xs u)
even-puts w u [] even same = same
even-puts w u (x ∷ xs) even same = even-puts w (put u x.name x.thing) xs even.1 (even-put w u x.name x.thing even.0 same)

even-append : (w : World) (xs ys : List Update) → AllEven w xs → AllEven w ys → AllEven w (xs ++ ys)
even-append w [] ys one other = other
even-append w (x ∷ xs) ys one other = (one.0, even-append w xs ys one.1 other)

-- even changes keep windows counted
even-bound : (w : World) (xs : List Update) → IsBoundWorld w → AllEven w xs → IsBoundWorld (put_all xs w)
even-bound w xs bound even = by (even-puts w w xs even (record { window = refl; region = refl; queues = λ q. refl }))
  where
    u : World
    u = put_all xs w

    by : AreEven w u → IsBoundWorld u
    by same = subst (λ f. AreBound f u.region u.queue) (sym same.window) (subst (λ f. AreBound w.window f u.queue) (sym same.region)
        (kept-bound w.window w.region w.region w.queue u.queue bound (λ r. inl (omega arith, refl)) (λ q. omega (arith, same.queues q))))

-- a region in whose slot no window was bound
region-bound : (w : World) (s : Slot) (x : Region) → IsBoundWorld w → IsUnused (w.region s) → IsBoundWorld (put w (Region_of s) x)
region-bound w s x bound unused = kept-bound w.window w.region _ w.queue w.queue bound (λ r. by r (slot_eq s r) refl) (λ q. omega arith)
  where
    by : (r : Slot) (b : Bool) → slot_eq s r ≡ b
        → (((w.region r).bound ≤ (if b then x else w.region r).bound) × (grant_of_region (if b then x else w.region r) ≡ grant_of_region (w.region r))) ⊎ IsUnused (w.region r)
    by r true e = inr (subst (λ t. IsUnused (w.region t)) (slot-path s r e) unused)
    by r false e = inl (omega arith, refl)

-- a window whose binding stays
same-window-bound : (w : World) (s : Slot) (kind drawn : ℕ) → IsBoundWorld w → IsBoundWorld (put w (Window_of s) (record (w.window s) { kind = kind; drawn = drawn }))
same-window-bound w s kind drawn bound = moved-bound w.window w.region w.region w.queue w.queue s (record (w.window s) { kind = kind; drawn = drawn }) bound
    (λ r. omega arith) (λ q. omega arith) (λ r. refl) (bound.inside s)

-- a window that is not bound any more, where it was not
no-window-bound : (w : World) (s : Slot) (x : Window) → IsBoundWorld w → x.binding ≡ None → IsBoundWorld (put w (Window_of s) x)
no-window-bound w s x bound none = moved-bound w.window w.region w.region w.queue w.queue s x bound
    (λ r. omega (arith, ap (λ o. one (option_map_or (λ c. slot_eq (region_under x c) r) o false)) none))
    (λ q. omega (arith, ap (λ o. one (option_map_or (λ c. option_map_or (λ p. queue_eq p q) c.queue false) o false)) none))
    (λ r. refl) (subst (λ o. IfSome o (λ c. LiesIn c (grant_of_region (w.region (region_under x c))))) (sym none) (record {}))

vacant-unused : (r : Region) → is_vacant_region r ≡ true → IsUnused r
vacant-unused r e = inl (by r.state e)
  where
    by : (s : RegionState) → has_no_region s ≡ true → grant_in_state s ≡ None
    by NoRegion e = refl
    by (Free pages) e = refl
    by (Registered g) e = absurd (true≢false (sym e))
    by (FastRegistered pages g) e = absurd (true≢false (sym e))

bound-reg_mr : (c : Configuration) (w : World) (call : Call) (s : Slot) (at : Run) (bytes : ℕ) (rights : Rights) → IsBoundWorld w → EndsIn w (Bounds w) (reg_mr_plan call s at bytes rights)
bound-reg_mr c w call s at bytes rights bound = (
  λ is. bound,
  λ there. (
    λ is. bound,
    λ vacant. (
      λ is. bound,
      λ some. (
        λ is. bound,
        λ within. (λ is. bound, λ right. region-bound w s _ bound (vacant-unused (w.region s) (not-false (is_vacant_region (w.region s)) vacant))),
      ),
    ),
  ),
)

bound-alloc_mr : (w : World) (call : Call) (s : Slot) (pages : ℕ) → IsBoundWorld w → EndsIn w (Bounds w) (alloc_mr_plan call s pages)
bound-alloc_mr w call s pages bound =
    (λ is. bound, λ there. (λ is. bound, λ vacant. (λ is. bound, λ range. region-bound w s _ bound (vacant-unused (w.region s) (not-false (is_vacant_region (w.region s)) vacant)))))

bound-dereg_mr : (w : World) (call : Call) (s : Slot) → IsBoundWorld w → EndsIn w (Bounds w) (dereg_mr_plan call s)
bound-dereg_mr w call s bound = (
  λ is. bound,
  λ there. (λ is. bound, λ free. region-bound w s _ bound (inr (omega (arith, ltb-false 0 (w.region s).bound free)))),
)

bound-alloc_mw : (w : World) (call : Call) (s : Slot) (kind : ℕ) → IsBoundWorld w → EndsIn w (Bounds w) (alloc_mw_plan call s kind)
bound-alloc_mw w call s kind bound =
    (λ is. bound, λ there. (λ is. bound, λ vacant. (λ is. bound, λ kinds. same-window-bound w s kind (w.window s).drawn bound)))

-- the queue pair of a type 2 window that is gone counts one window fewer
gone-counts : (w : World) (q : QueueId) (x : Window) (b : Binding) (v : World) → x.binding ≡ Some b → b.queue ≡ Some q → v.queue ≡ w.queue
    → (name : QueueId) → windows_of (w.queue name) ≤ windows_of ((put_all (queue_updates q (w.queue q)) v).queue name) + one (is_bound_by name x)
gone-counts w q x b v is through same name = by (w.queue q) refl
  where
    none : (v.queue name ≡ w.queue name) → windows_of (w.queue name) ≤ windows_of (v.queue name) + one (is_bound_by name x)
    none e = omega (arith, ap windows_of e)

    named : is_bound_by name x ≡ queue_eq q name
    named = ap (λ o. option_map_or (λ c. option_map_or (λ p. queue_eq p name) c.queue false) o false) is ∙ ap (λ o. option_map_or (λ p. queue_eq p name) o false) through

    at : (p : QueuePair) → w.queue q ≡ Present p → (z : Bool) → queue_eq q name ≡ z
        → windows_of (w.queue name) ≤ windows_of (if z then Present (record p { windows = p.windows - 1 }) else v.queue name) + one (is_bound_by name x)
    at p there true e = omega (arith, ap (λ m. windows_of (w.queue m)) (sym (queue-path q name e)), ap windows_of there, ap one (named ∙ e))
    at p there false e = none (ap (λ f. f name) same)

    by : (s : QueueSlot) → w.queue q ≡ s → windows_of (w.queue name) ≤ windows_of ((put_all (queue_updates q s) v).queue name) + one (is_bound_by name x)
    by (NoQueue incarnation timers) there = none (ap (λ f. f name) same)
    by (Present p) there = at p there (queue_eq q name) refl

-- updates of a queue pair leave windows and regions
gone-parts : (q : QueueId) (s : QueueSlot) (v : World) → ((put_all (queue_updates q s) v).window ≡ v.window) × ((put_all (queue_updates q s) v).region ≡ v.region)
gone-parts q (NoQueue incarnation timers) v = (refl, refl)
gone-parts q (Present p) v = (refl, refl)

bound-dealloc_mw : (w : World) (call : Call) (s : Slot) → IsBoundWorld w → EndsIn w (Bounds w) (dealloc_mw_plan call s)
bound-dealloc_mw w call s bound = walk-dealloc_mw w (Bounds w) call s bound (no-window-bound w s (after_deallocation x) bound refl) (λ b is. gone b is b.queue refl)
  where
    x : Window
    x = w.window s

    before : Slot → World
    before at = put_all (deallocated w s ++ (Region_of at := with_window_unbound (w.region at)) ∷ []) w

    left : (b : Binding) → x.binding ≡ Some b → (queues : QueueId → QueueSlot)
        → ((name : QueueId) → windows_of (w.queue name) ≤ windows_of (queues name) + one (is_bound_by name x)) → AreBound (before (region_under x b)).window (before (region_under x b)).region queues
    left b is queues counts = window-leaves w s (after_deallocation x) b queues bound is refl counts

    through : (b : Binding) → x.binding ≡ Some b → (q : QueueId) → b.queue ≡ Some q → IsBoundWorld (put_all (queue_updates q (w.queue q)) (before (region_under x b)))
    through b is q of = at (gone-parts q (w.queue q) (before (region_under x b)))
      where
        after : World
        after = put_all (queue_updates q (w.queue q)) (before (region_under x b))

        at : (after.window ≡ (before (region_under x b)).window) × (after.region ≡ (before (region_under x b)).region) → IsBoundWorld after
        at parts = subst (λ f. AreBound f after.region after.queue) (sym parts.0) (subst (λ f. AreBound (before (region_under x b)).window f after.queue) (sym parts.1)
            (left b is after.queue (λ name. gone-counts w q x b (before (region_under x b)) is of refl name)))

    gone : (b : Binding) → x.binding ≡ Some b → (o : Option QueueId) → b.queue ≡ o
        → Bounds w (deallocated w s ++ (Region_of (region_under x b) := with_window_unbound (w.region (region_under x b))) ∷ binder_updates w o)
    gone b is None of = left b is w.queue (λ name. omega arith)
    gone b is (Some q) of = through b is q of

-- the count of a queue pair that stands
counts-there : (w : World) (q p : QueuePair) → w.queue q.queue ≡ Present q → p.windows ≡ q.windows → windows_of (Present p) ≡ windows_of (w.queue q.queue)
counts-there w q p is same = same ∙ ap windows_of (sym is)

flush-windows : (q : QueuePair) → (after_flush q).windows ≡ q.windows
flush-windows q = by (state_eq q.state states.Error)
  where
    by : (b : Bool) → (if b then with_all_flushed q else q).windows ≡ q.windows
    by true = refl
    by false = refl

drawn-bound : (w : World) (s : Slot) → IsBoundWorld w → IsBoundWorld (put w (Window_of s) (after_draw (w.window s)))
drawn-bound w s bound = by ((w.window s).kind == 1)
  where
    by : (b : Bool) → IsBoundWorld (put w (Window_of s) (if b then record (w.window s) { drawn = next_low (w.window s).drawn } else w.window s))
    by true = same-window-bound w s (w.window s).kind (next_low (w.window s).drawn) bound
    by false = same-window-bound w s (w.window s).kind (w.window s).drawn bound

bound-posted : (w : World) (call : Call) (q : QueuePair) (request : SendRequest) (drawn : Option ℕ) (window : Slot) (more : List Update) → IsBoundWorld w → w.queue q.queue ≡ Present q
    → ((u : World) → IsBoundWorld u → u.window ≡ w.window → IsBoundWorld (put_all more u)) → EndsIn w (Bounds w) (Posted_send call q request drawn window more)
bound-posted w call q request drawn window more bound is on = walk-call w (Bounds w) call (post_send_refusals request q) (Finish (posted ++ more) [] []) bound
    (λ fails. on (put_all posted w) (even-bound w posted bound (counts-there w q (after_flush after) is (flush-windows after), (record {}, record {}))) refl)
  where
    after : QueuePair
    after = with_send request drawn q

    posted : List Update
    posted = (Queue_of q.queue := Present (after_flush after))
        ∷ (Cq_of (send_cq_of q) := option_map (after_puts (completions_to q q.send_cq (marks_of_flush after))) (w.cq (send_cq_of q))) ∷ []

bound-post_send : (c : Configuration) (w : World) (call : Call) (s : Slot) (request : SendRequest) → IsSoundWorld c w → IsBoundWorld w → EndsIn w (Bounds w) (post_send_plan call s request)
bound-post_send c w call s request sound bound = walk-post_send c w (Bounds w) call s request sound bound
    (λ q there. bound-posted w call q request None s [] bound there.present (λ u same-bound same. same-bound))
    (λ q at there. bound-posted w call q request (byte_drawn (w.window at)) at ((Window_of at := after_draw (w.window at)) ∷ []) bound there.present
    (λ u same-bound same. subst (λ f. IsBoundWorld (put u (Window_of at) (after_draw (f at)))) same (drawn-bound u at same-bound)))

bound-post_recv : (c : Configuration) (w : World) (call : Call) (s : Slot) (request : RecvRequest) → IsSoundWorld c w → IsBoundWorld w → EndsIn w (Bounds w) (post_recv_plan call s request)
bound-post_recv c w call s request sound bound = walk-present c w (Bounds w) call s _ sound bound (λ q there.
    walk-call w (Bounds w) call (post_recv_refusals request q) (Finish (posted q) [] []) bound
    (λ fails. even-bound w (posted q) bound (counts-there w q (after_flush (after q)) there.present (flush-windows (after q)), (record {}, record {}))))
  where
    after : QueuePair → QueuePair
    after q = record q { receives = option_map (with_item request) q.receives }

    posted : QueuePair → List Update
    posted q = (Queue_of q.queue := Present (after_flush (after q)))
        ∷ (Cq_of (recv_cq_of q) := option_map (after_puts (completions_to q q.recv_cq (marks_of_flush (after q)))) (w.cq (recv_cq_of q))) ∷ []

bound-post_srq : (w : World) (call : Call) (s : Slot) (request : RecvRequest) → IsBoundWorld w → EndsIn w (Bounds w) (post_srq_plan call s request)
bound-post_srq w call s request bound = search (rules, bound)

-- a shared receive queue with another value
srq-even : (w : World) (q : QueuePair) (a : Around) (f : SharedReceives → SharedReceives) → AllEven w (srq_updates q a f)
srq-even w q a f = search rules

change-windows : (change : state_change.Change) (q : QueuePair) → (queue_after_change change q).windows ≡ q.windows
change-windows changes.Init q = refl
change-windows (changes.Rtr peer incarnation psn mtu rnr_code) q = refl
change-windows (changes.Rts psn retry rnr_retry reads) q = refl
change-windows changes.Sqd q = refl
change-windows changes.Resume q = refl
change-windows changes.Error q = refl
change-windows changes.Reset q = refl

bound-modify_qp : (c : Configuration) (w : World) (call : Call) (s : Slot) (change : state_change.Change) → IsSoundWorld c w → IsBoundWorld w → EndsIn w (Bounds w) (modify_qp_plan c call s change)
bound-modify_qp c w call s change sound bound = walk-modify c w (Bounds w) call s change sound bound (λ q there fails.
    even-bound w ((Queue_of q.queue := Present (queue_after_change change q)) ∷ changed_around w q (around_in w q (shared_of w q)) change) bound
    (counts-there w q (queue_after_change change q) there.present (change-windows change q), by q (around_in w q (shared_of w q)) change))
  where
    by : (q : QueuePair) (a : Around) (change : state_change.Change) → AllEven w (changed_around w q a change)
    by q a changes.Error = (record {}, (record {}, record {}))
    by q a changes.Reset = (record {}, (record {}, (record {}, srq-even w q a (after_receives_retire (places_held q a)))))
    by q a (changes.Rtr peer incarnation psn mtu rnr_code) = (record {}, record {})
    by q a changes.Init = record {}
    by q a (changes.Rts psn retry rnr_retry reads) = record {}
    by q a changes.Sqd = record {}
    by q a changes.Resume = record {}

left-even : (w : World) (q : QueuePair) (a : Around) → AllEven w (left_updates q a)
left-even w q a = search rules

bound-destroy_qp : (c : Configuration) (w : World) (call : Call) (s : Slot) → IsSoundWorld c w → IsBoundWorld w → EndsIn w (Bounds w) (destroy_qp_plan call s)
bound-destroy_qp c w call s sound bound = walk-destroy c w (Bounds w) call s sound bound (λ q there free.
    even-bound w (destroyed w s q (around_in w q (shared_of w q))) bound
    (record {}, (sym (ap windows_of there.present ∙ zero-windows q free), (record {}, (record {}, (record {}, left-even w q (around_in w q (shared_of w q))))))))
  where
    zero-windows : (q : QueuePair) → nat_lt 0 q.windows ≡ false → q.windows ≡ 0
    zero-windows q free = omega (arith, ltb-false 0 q.windows free)

user-even : (w : World) (x : Creation) (o : Option SrqSlot) → AllEven w (user_updates x o)
user-even w x o = search rules

bound-create_qp : (c : Configuration) (w : World) (call : Call) (x : Creation) → IsBoundWorld w → EndsIn w (Bounds w) (create_qp_plan c call x)
bound-create_qp c w call x bound = walk-create c w (Bounds w) call x bound (λ send recv there vacant send-is recv-is depth.
    even-bound w (created w x send recv (shared_beside w x) (option_and_then (λ s. s.srq) (shared_beside w x))) bound
    (record {}, (sym (vacant-counts (w.queue (queue_of x.slot)) vacant), (record {}, (record {}, (record {}, user-even w x (shared_beside w x)))))))
  where
    vacant-counts : (s : QueueSlot) → is_present s ≡ false → windows_of s ≡ 0
    vacant-counts (NoQueue incarnation timers) e = refl
    vacant-counts (Present q) e = absurd (true≢false e)

poll-windows : (name : QueueId) (xs : List Completion) (q : QueuePair) → (after_poll name xs q).windows ≡ q.windows
poll-windows name [] q = refl
poll-windows name (x ∷ xs) q = poll-windows name xs next ∙ at (queue_eq x.queue name) x.receive
  where
    freed : Bool → QueuePair
    freed true = record q { receives = option_map (after_retire x.place) q.receives }
    freed false = record q { sends = after_retire x.place q.sends }

    next : QueuePair
    next = if queue_eq x.queue name then freed x.receive else q

    at : (b z : Bool) → (if b then freed z else q).windows ≡ q.windows
    at false z = refl
    at true true = refl
    at true false = refl

poll-slot-windows : (name : QueueId) (xs : List Completion) (s : QueueSlot) → windows_of (slot_after_poll name xs s) ≡ windows_of s
poll-slot-windows name xs (NoQueue incarnation timers) = refl
poll-slot-windows name xs (Present q) = poll-windows name xs q

bound-poll : (w : World) (call : Call) (s : Slot) (n least : ℕ) → IsBoundWorld w → EndsIn w (Bounds w) (poll_plan call s n least)
bound-poll w call s n least bound = walk-poll w (Bounds w) call s n least bound (λ cq is.
    walk-places w (Bounds w) (AllEven w) s cq (take n cq.waiting) (take n cq.waiting) _ (record {})
    (λ name us rest. (poll-slot-windows name (take n cq.waiting) (w.queue name), rest)) (λ at srq us rest. (record {}, rest))
    (λ us even. even-bound w ((Cq_of s := Some (after_polls (length (take n cq.waiting)) cq)) ∷ us) bound (record {}, even)))

-- every verb whose names are configured
bound-verb : (c : Configuration) (w : World) (call : Call) (verb : Verb) → IsSoundWorld c w → IsBoundWorld w → EndsIn w (Bounds w) (verb_plan c call verb)
bound-verb c w call (verbs.AllocPd domain) sound bound = (λ e. bound, λ a. bound)
bound-verb c w call (verbs.DeallocPd domain) sound bound = (λ e. bound, λ a. (λ e. bound, λ b. bound))
bound-verb c w call (verbs.RegMr slot buffer offset count rights) sound bound =
    bound-reg_mr c w call slot (run_of slot.domain.adapter buffer offset count) (bytes_of_buffer c slot.domain.adapter buffer) rights bound
bound-verb c w call (verbs.AllocMr slot pages) sound bound = bound-alloc_mr w call slot pages bound
bound-verb c w call (verbs.DeregMr slot) sound bound = bound-dereg_mr w call slot bound
bound-verb c w call (verbs.AllocMw slot kind) sound bound = bound-alloc_mw w call slot kind bound
bound-verb c w call (verbs.DeallocMw slot) sound bound = bound-dealloc_mw w call slot bound
bound-verb c w call (verbs.CreateCq slot capacity) sound bound =
    (λ e. bound, λ a. (λ e. bound, λ b. (λ e. bound, λ d. bound)))
bound-verb c w call (verbs.DestroyCq slot) sound bound = (λ e. bound, λ a. (λ e. bound, λ b. bound))
bound-verb c w call (verbs.CreateSrq slot depth) sound bound =
    (λ e. bound, λ a. (λ e. bound, λ b. (λ e. bound, λ d. bound)))
bound-verb c w call (verbs.DestroySrq slot) sound bound = (λ e. bound, λ a. (λ e. bound, λ b. bound))
bound-verb c w call (verbs.CreateQp slot send_cq recv_cq send_depth recv_depth srq) sound bound = bound-create_qp c w call (record {
  slot = slot;
  send_cq = send_cq;
  recv_cq = recv_cq;
  send_depth = send_depth;
  recv_depth = recv_depth;
  srq = srq;
}) bound
bound-verb c w call (verbs.ModifyQp slot change) sound bound = bound-modify_qp c w call slot change sound bound
bound-verb c w call (verbs.QueryQp slot) sound bound = walk-present c w (Bounds w) call slot _ sound bound (λ q there. bound)
bound-verb c w call (verbs.DestroyQp slot) sound bound = bound-destroy_qp c w call slot sound bound
bound-verb c w call (verbs.PostSend slot request) sound bound = bound-post_send c w call slot request sound bound
bound-verb c w call (verbs.PostRecv slot request) sound bound = bound-post_recv c w call slot request sound bound
bound-verb c w call (verbs.PostSrq slot request) sound bound = bound-post_srq w call slot request bound
bound-verb c w call (verbs.Poll slot n least) sound bound = bound-poll w call slot n least bound
bound-verb c w call (verbs.Store adapter buffer offset bytes) sound bound = (λ is. bound, λ range. (λ is. bound, λ within. bound))
bound-verb c w call (verbs.Load adapter buffer offset count) sound bound = (λ is. bound, λ range. (λ is. bound, λ within. bound))
bound-verb c w call (verbs.Inject queue bytes) sound bound = bound-inject c w call queue bytes sound bound

bound-plan : (c : Configuration) (w : World) (event : Event) → IsSoundWorld c w → IsBoundWorld w → EndsIn w (Bounds w) (plan c event)
bound-plan c w (events.Verb by verb) sound bound = (λ named. bound-verb c w (record { by = by; verb = verb }) verb sound bound, λ none. bound)
bound-plan c w (events.Request queue lot) sound bound = bound-request c w queue lot sound bound
bound-plan c w (events.Deliver queue index) sound bound = bound-deliver c w queue index sound bound
bound-plan c w (events.Respond queue lot) sound bound = bound-respond c w queue lot sound bound
bound-plan c w (events.Timeout queue hasten) sound bound = bound-timeout c w queue hasten sound bound
bound-plan c w (events.RnrWake queue) sound bound = bound-wake c w queue sound bound

write-bound : (xs : List Write) (w : World) → IsBoundWorld w → IsBoundWorld (write_all xs w)
write-bound [] w bound = bound
write-bound (x ∷ xs) w bound = write-bound xs (after_write x w) bound

perform-bound : (p : Plan) (w : World) → EndsIn w (Bounds w) p → Afterwards IsBoundWorld (perform w p)
perform-bound (Stuck reason) w ends = record {}
perform-bound (Look n k) w ends = perform-bound (k (get w n)) w ends
perform-bound (Read runs k) w ends = perform-bound (k (bytes_at w.byte runs)) w ends
perform-bound (If true p q) w ends = perform-bound p w (ends.0 refl)
perform-bound (If false p q) w ends = perform-bound q w (ends.1 refl)
perform-bound (Finish changes writes marks) w ends = write-bound writes (put_all changes w) ends

pub event-bound : (c : Configuration) (event : Event) (w : World) → IsSoundWorld c w → IsBoundWorld w → Afterwards IsBoundWorld (step c w event)
event-bound c event w sound bound = perform-bound (plan c event) w (bound-plan c w event sound bound)

pub opening-bound : (byte : ByteMap) → IsBoundWorld (opening_world byte)
opening-bound byte = record {
  regions = λ s. record { slots = []; few = omega arith; all = λ t is. absurd (true≢false (sym is)) };
  queues = λ q. record { slots = []; few = omega arith; all = λ t is. absurd (true≢false (sym is)) };
  inside = λ s. record {};
}
