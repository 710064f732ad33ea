-- The changes of state of a queue pair leave room, and what is emptied of it.
use Rattle.std.proofs.Common.{◌≡◌, ℕ, ◌==◌, ◌&&◌, ◌||◌, not, Bool, true, false, List, [], ◌∷◌, ◌++◌, map, filter, Option, None, Some, IfSome, refl, arith, sym, ◌∙◌, ap, subst, true≢false, if◌then◌else◌}
use Rattle.std.proofs.lemmas.Bool.{and_parts}
use Rattle.std.specs.Option.{option_map, option_map_or}
use Rattle.ca_base.specs.declared.change.Change as state_change
use Rattle.ca_base.specs.declared.change.Change.TheVariants as changes
use Rattle.ca_base.specs.declared.completion.Completion.{Completion}
use Rattle.ca_base.specs.declared.request.RecvRequest.{RecvRequest}
use Rattle.ca_keys.specs.declared.names.QueueId.{QueueId}
use Rattle.ca_keys.specs.declared.names.Slot.{Slot}
use Rattle.ca_base.specs.Configuration.{Configuration}
use Rattle.ca_keys.specs.Equal.{bool_eq, queue_eq, slot_eq}
use Rattle.ca_base.specs.objects.CompletionQueue.{CompletionQueue, receives_of, without_completions}
use Rattle.ca_base.specs.objects.QueuePair.{QueuePair, Present, after_reset, in_error, recv_cq_of, send_cq_of, srq_of, without_answers}
use Rattle.ca_base.specs.objects.SharedReceives.{SharedReceives, SrqSlot, after_receive_retire, after_receives_retire}
use Rattle.ca_base.specs.objects.StateTable.{queue_after_change}
use Rattle.ca_base.specs.objects.WorkQueue.{WorkQueue, empty_queue}
use Rattle.ca_model.specs.Past.{with_at}
use Rattle.ca_model.specs.machine.Around.{Around, cq_updates}
use Rattle.ca_model.specs.machine.Completions.{flush_marks}
use Rattle.ca_model.specs.machine.Places.{Ascend, IsInOrder, first_held, places_in_use, places_of_side}
use Rattle.ca_model.specs.machine.Plan.{Update, ◌:=◌}
use Rattle.ca_model.specs.machine.QueuePairVerbs
use Rattle.ca_model.specs.machine.QueuePairVerbs.{emptied_updates, modify_qp_plan, places_held}
use Rattle.ca_model.specs.machine.Row.{Effects, queue_and_marks}
use Rattle.ca_model.specs.machine.Sound.{IsSoundWorld}
use Rattle.ca_model.specs.machine.VerbAnswers.{Call}
use Rattle.ca_model.specs.machine.World.{World, Cq_of, Mailbox_of, Queue_of, Srq_of}
use Rattle.ca_law_world.proofs.Sound.PlanWalks.{changed_around, walk-modify}
use Rattle.ca_law_world.proofs.Sound.GoodLemmas.{IsGood, error-later, error-queue, flush-settled, later-same, settled-later, silent-later, silent-queue}
use Rattle.ca_law_world.proofs.Sound.OrderLemmas.{flush-order}
use Rattle.ca_law_world.proofs.Sound.SettledLemmas.{queue-path, queue-refl, slot-refl}
use Rattle.ca_law_world.proofs.Sound.WorldLemmas.{EndsIn, IsThere, around_in, shared_of}
use Rattle.ca_law_parts.specs.Room.{AreHeld, HasRoom, HaveRoom, Holder, IsInPlace, IsInSequence, depth_of, is_in, places_kept, rooms_of, taken_in, use_of, waits_in}
use Rattle.ca_law_parts.proofs.Room.RoomLists.{all-in, ascend-filter, in-filter, is_of, number-swap}
use Rattle.ca_law_parts.proofs.Room.FitLemmas.{receives-side}
use Rattle.ca_law_parts.proofs.Room.KeptLemmas.{local-places, queue-with-same, same-reserved, two-same, with-same}
use Rattle.ca_law_parts.proofs.Room.AdvanceLemmas.{no-taking, own-held, sound-named, turn-room, with-all}
use Rattle.ca_law_parts.proofs.Room.EngineRoomLemmas.{LeavesRoom}
use Rattle.ca_law_parts.proofs.Room.ObjectRoomLemmas.{pair-room}

-- the completions of one queue pair are gone, and those of others stay
others-stay : (name n : QueueId) (b : Bool) (xs : List Completion) → queue_eq name n ≡ false → places_of_side n b (filter (λ c. not (queue_eq c.queue name)) xs) ≡ places_of_side n b xs
others-stay name n b [] other = refl
others-stay name n b (x ∷ xs) other = by (queue_eq x.queue name) refl (is_of n b x) refl (others-stay name n b xs other)
  where
    rest : List Completion
    rest = filter (λ c. not (queue_eq c.queue name)) xs

    by : (g : Bool) → queue_eq x.queue name ≡ g → (z : Bool) → is_of n b x ≡ z → places_of_side n b rest ≡ places_of_side n b xs
        → places_of_side n b (if not g then x ∷ rest else rest) ≡ map (λ c. c.place) (if z then x ∷ filter (is_of n b) xs else filter (is_of n b) xs)
    by true e true f same = absurd (true≢false (sym (sym (ap (λ m. queue_eq m n) (queue-path x.queue name e)) ∙ (and_parts (queue_eq x.queue n) (bool_eq x.receive b) f).0) ∙ other))
    by true e false f same = same
    by false e true f same = ap (λ z. map (λ c. c.place) (if z then x ∷ filter (is_of n b) rest else filter (is_of n b) rest)) f ∙ ap (λ ys. x.place ∷ ys) same
    by false e false f same = ap (λ z. map (λ c. c.place) (if z then x ∷ filter (is_of n b) rest else filter (is_of n b) rest)) f ∙ same

own-gone : (name : QueueId) (b : Bool) (xs : List Completion) → places_of_side name b (filter (λ c. not (queue_eq c.queue name)) xs) ≡ []
own-gone name b [] = refl
own-gone name b (x ∷ xs) = by (queue_eq x.queue name) refl (own-gone name b xs)
  where
    rest : List Completion
    rest = filter (λ c. not (queue_eq c.queue name)) xs

    by : (g : Bool) → queue_eq x.queue name ≡ g → places_of_side name b rest ≡ [] → places_of_side name b (if not g then x ∷ rest else rest) ≡ []
    by true e gone = gone
    by false e gone = ap (λ z. map (λ c. c.place) (if z && bool_eq x.receive b then x ∷ filter (is_of name b) rest else filter (is_of name b) rest)) e ∙ gone

-- a completion queue that may be there, emptied of a queue pair's completions
pub record IsEmptied (name : QueueId) (v u : Option CompletionQueue) : Type 0 where
  pub others : (n : QueueId) (b : Bool) → queue_eq name n ≡ false → places_of_side n b (option_map_or (λ v. v.waiting) u []) ≡ places_of_side n b (option_map_or (λ v. v.waiting) v [])
  pub own : (b : Bool) → places_of_side name b (option_map_or (λ v. v.waiting) u []) ≡ []

pub without-emptied : (name : QueueId) (v : Option CompletionQueue) → IsEmptied name v (option_map (without_completions name) v)
without-emptied name None = record { others = λ n b other. refl; own = λ b. refl }
without-emptied name (Some v) = record { others = λ n b. others-stay name n b v.waiting; own = λ b. own-gone name b v.waiting }

-- places that are retired are no longer taken, and others are
retired-others : (ps : List ℕ) (s : SharedReceives) (x : ℕ) → is_in x ps ≡ false → is_in x s.taken ≡ true → is_in x (after_receives_retire ps s).taken ≡ true
retired-others [] s x apart is = is
retired-others (p ∷ ps) s x apart is =
    retired-others ps (after_receive_retire p s) x (or-behind (p == x) (is_in x ps) apart) (in-filter x p s.taken (number-swap p x (or-front (p == x) (is_in x ps) apart)) is)
  where
    or-front : (a b : Bool) → (a || b) ≡ false → a ≡ false
    or-front true b e = e
    or-front false b e = refl

    or-behind : (a b : Bool) → (a || b) ≡ false → b ≡ false
    or-behind true b e = absurd (true≢false e)
    or-behind false b e = e

retired-depth : (ps : List ℕ) (s : SharedReceives) → (after_receives_retire ps s).depth ≡ s.depth
retired-depth [] s = refl
retired-depth (p ∷ ps) s = retired-depth ps (after_receive_retire p s)

retired-sequence : (ps : List ℕ) (s : SharedReceives) → Ascend 0 s.next (s.taken ++ map (λ r. r.place) s.waiting)
    → Ascend 0 (after_receives_retire ps s).next ((after_receives_retire ps s).taken ++ map (λ r. r.place) (after_receives_retire ps s).waiting)
retired-sequence [] s all = all
retired-sequence (p ∷ ps) s all = retired-sequence ps (after_receive_retire p s) (ascend-filter 0 s.next (λ x. not (x == p)) s.taken (map (λ r. r.place) s.waiting) all)

-- the slot of a shared receive queue of which places are free again
abbrev pub retired_slot : List ℕ → ℕ → SrqSlot → SrqSlot
retired_slot ps users slot = record { srq = option_map (after_receives_retire ps) slot.srq; users = users }

pub slot-depth : (ps : List ℕ) (users : ℕ) (slot : SrqSlot) → depth_of (retired_slot ps users slot) ≡ depth_of slot
slot-depth ps users slot = by slot.srq
  where
    by : (o : Option SharedReceives) → option_map (λ s. s.depth) (option_map (after_receives_retire ps) o) ≡ option_map (λ s. s.depth) o
    by None = refl
    by (Some s) = ap Some (retired-depth ps s)

pub slot-sequence : (ps : List ℕ) (users : ℕ) (slot : SrqSlot) → IsInSequence slot → IsInSequence (retired_slot ps users slot)
slot-sequence ps users slot all = by slot.srq all
  where
    by : (o : Option SharedReceives) → IfSome o (λ s. Ascend 0 s.next (s.taken ++ map (λ r. r.place) s.waiting)) → IfSome (option_map (after_receives_retire ps) o) (λ s. Ascend 0 s.next (s.taken ++ map (λ r. r.place) s.waiting))
    by None all = record {}
    by (Some s) all = retired-sequence ps s all

pub slot-others : (ps : List ℕ) (users : ℕ) (slot : SrqSlot) (x : ℕ) → is_in x ps ≡ false → is_in x (taken_in slot) ≡ true → is_in x (taken_in (retired_slot ps users slot)) ≡ true
slot-others ps users slot x apart is = by slot.srq is
  where
    by : (o : Option SharedReceives) → is_in x (option_map_or (λ s. s.taken) o []) ≡ true → is_in x (option_map_or (λ s. s.taken) (option_map (after_receives_retire ps) o) []) ≡ true
    by None is = is
    by (Some s) is = retired-others ps s x apart is

-- the places that a queue pair holds are those that it keeps
pub held-are-kept : (w : World) (q : QueuePair) → places_held q (around_in w q (shared_of w q)) ≡ places_kept w.cq q
held-are-kept w q = ap (λ xs. xs ++ places_in_use q.responder.message) (by (w.cq (recv_cq_of q)))
  where
    by : (o : Option CompletionQueue) → option_map_or (receives_of q.queue) o [] ≡ places_of_side q.queue true (option_map_or (λ v. v.waiting) o [])
    by None = refl
    by (Some v) = receives-side q.queue v

-- a place that another queue pair holds is not among these
pub not-held : (w : World) (q : QueuePair) (t : ℕ) (n : QueueId) (x : ℕ) → (room : HasRoom w) → w.queue q.queue ≡ Present q → q.srq ≡ Some t → queue_eq q.queue n ≡ false → room.holder (srq_of q t) x ≡ n
    → is_in x (places_held q (around_in w q (shared_of w q))) ≡ false
not-held w q t n x room there is other held = by (is_in x (places_held q (around_in w q (shared_of w q)))) refl
  where
    by : (b : Bool) → is_in x (places_held q (around_in w q (shared_of w q))) ≡ b → b ≡ false
    by false e = refl
    by true e = absurd (true≢false (sym (sym (ap (queue_eq q.queue) (sym (all-in (λ y. (is_in y (taken_in (w.srq (srq_of q t))) ≡ true) × (room.holder (srq_of q t) y ≡ q.queue)) x (places_kept w.cq q)
        (own-held w.queue w.cq w.srq q t room there is).1 (ap (is_in x) (sym (held-are-kept w q)) ∙ e)).1 ∙ held)) ∙ queue-refl q.queue) ∙ other))

-- in every slot the value is one of these, or what it was
pub two-at : {V : Type 0} (P : V → Type 0) (f : Slot → V) (a b : Slot) (x y : V) → P x → P y → P (with_at slot_eq (with_at slot_eq f a x) b y a) × P (with_at slot_eq (with_at slot_eq f a x) b y b)
two-at P f a b x y one other = (first (slot_eq b a), subst (λ z. P (if z then y else with_at slot_eq f a x b)) (sym (slot-refl b)) other)
  where
    inner : P (with_at slot_eq f a x a)
    inner = subst (λ z. P (if z then x else f a)) (sym (slot-refl a)) one

    first : (z : Bool) → P (if z then y else with_at slot_eq f a x a)
    first true = other
    first false = inner

-- the queue pair after a reset is in place: nothing waits for it
reset-place : (cq : Slot → Option CompletionQueue) (srq : Slot → SrqSlot) (holder : Holder) (q : QueuePair) → places_of_side q.queue false (waits_in cq (send_cq_of q)) ≡ []
    → places_of_side q.queue true (waits_in cq (recv_cq_of q)) ≡ [] → IsInPlace cq srq holder (after_reset q)
reset-place cq srq holder q sends receives = record {
  sends = subst (Ascend 0 0) (sym sends) (omega arith);
  receives = own q.receives;
  shared = shared q.srq;
}
  where
    own : (o : Option (WorkQueue RecvRequest)) → IfSome (option_map (λ r. empty_queue r.depth) o) (λ r. Ascend r.first (first_held r None) (places_of_side q.queue true (waits_in cq (recv_cq_of q))))
    own None = record {}
    own (Some r) = subst (Ascend 0 0) (sym receives) (omega arith)

    shared : (o : Option ℕ) → IfSome o (λ t. AreHeld holder q.queue (srq_of q t) (taken_in (srq (srq_of q t))) (places_of_side q.queue true (waits_in cq (recv_cq_of q)) ++ []))
    shared None = record {}
    shared (Some t) = subst (AreHeld holder q.queue (srq_of q t) (taken_in (srq (srq_of q t)))) (sym (ap (λ xs. xs ++ []) receives)) (record {}, record {})

-- the changes of a reset
reset-room : (c : Configuration) (w : World) (q : QueuePair) → IsSoundWorld c w → HasRoom w → IsThere w q
    → LeavesRoom w ((Queue_of q.queue := Present (queue_after_change changes.Reset q))
    ∷ (Mailbox_of q.queue := QueuePairVerbs.emptied_mailbox (queue_after_change changes.Reset q).incarnation (w.mailbox q.queue)) ∷ emptied_updates q (around_in w q (shared_of w q)))
reset-room c w q sound room there = by q.srq refl
  where
    a : Around
    a = around_in w q (shared_of w q)

    ps : List ℕ
    ps = places_held q a

    x : Option CompletionQueue
    x = option_map (without_completions q.queue) (w.cq (send_cq_of q))

    y : Option CompletionQueue
    y = option_map (without_completions q.queue) (w.cq (recv_cq_of q))

    now : Slot → Option CompletionQueue
    now = with_at slot_eq (with_at slot_eq w.cq (send_cq_of q) x) (recv_cq_of q) y

    rooms : (o : Option CompletionQueue) → rooms_of (option_map (without_completions q.queue) o) ≡ rooms_of o
    rooms None = refl
    rooms (Some v) = refl

    emptied : WorkQueue RecvRequest → WorkQueue RecvRequest
    emptied r = empty_queue r.depth

    depth : (o : Option (WorkQueue RecvRequest)) → option_map (λ (r : WorkQueue RecvRequest). r.depth) (option_map emptied o) ≡ option_map (λ (r : WorkQueue RecvRequest). r.depth) o
    depth None = refl
    depth (Some r) = refl

    uses : use_of (Present (after_reset q)) ≡ use_of (Present q)
    uses = ap (λ d. Some (record { send_cq = send_cq_of q; recv_cq = recv_cq_of q; srq = option_map (srq_of q) q.srq; send_depth = q.sends.depth; recv_depth = d })) (depth q.receives)

    none : (b : Bool) → (places_of_side q.queue b (waits_in now (send_cq_of q)) ≡ []) × (places_of_side q.queue b (waits_in now (recv_cq_of q)) ≡ [])
    none b = two-at (λ o. places_of_side q.queue b (option_map_or (λ v. v.waiting) o []) ≡ []) w.cq (send_cq_of q) (recv_cq_of q) x y
        ((without-emptied q.queue (w.cq (send_cq_of q))).own b) ((without-emptied q.queue (w.cq (recv_cq_of q))).own b)

    after : (srq' : Slot → SrqSlot) → ((t : Slot) → depth_of (srq' t) ≡ depth_of (w.srq t)) → ((t : Slot) → (srq' t).users ≡ (w.srq t).users) → ((t : Slot) → IsInSequence (srq' t))
        → ((n : QueueId) → queue_eq q.queue n ≡ false → (t : Slot) (x : ℕ) → is_in x (taken_in (w.srq t)) ≡ true → room.holder t x ≡ n → is_in x (taken_in (srq' t)) ≡ true)
        → HaveRoom (with_at queue_eq w.queue q.queue (Present (after_reset q))) now srq'
    after srq' depths users sequence stay = record {
      reserved = same-reserved w.queue (with_at queue_eq w.queue q.queue (Present (after_reset q))) w.cq now w.srq srq' (record {
        uses = queue-with-same use_of w.queue q.queue (Present (after_reset q)) (uses ∙ ap use_of (sym there.present));
        rooms = two-same rooms_of w.cq (send_cq_of q) (recv_cq_of q) x y (rooms (w.cq (send_cq_of q))) (rooms (w.cq (recv_cq_of q)));
        depths = depths;
        users = users;
      }) room.reserved;
      sequence = sequence;
      holder = room.holder;
      places = local-places w.queue w.cq now w.srq srq' room.holder room.holder q.queue (Present (after_reset q)) (sound-named c w sound)
          (λ n other s b. two-same (λ o. places_of_side n b (option_map_or (λ v. v.waiting) o [])) w.cq (send_cq_of q) (recv_cq_of q) x y
          ((without-emptied q.queue (w.cq (send_cq_of q))).others n b other) ((without-emptied q.queue (w.cq (recv_cq_of q))).others n b other) s)
          (λ n other t x taken held. (stay n other t x taken held, held)) room.places (reset-place now srq' room.holder q (none false).0 (none true).1);
    }

    updates : Option ℕ → Option SrqSlot → List Update
    updates (Some srq) (Some slot) = (Srq_of (srq_of q srq) := record slot { srq = option_map (after_receives_retire ps) slot.srq }) ∷ []
    updates srq slot = []

    by : (o : Option ℕ) → q.srq ≡ o → LeavesRoom w ((Queue_of q.queue := Present (after_reset q)) ∷ (Mailbox_of q.queue := QueuePairVerbs.emptied_mailbox (queue_after_change changes.Reset q).incarnation (w.mailbox q.queue))
        ∷ (Cq_of (send_cq_of q) := x) ∷ (Cq_of (recv_cq_of q) := y) ∷ updates o (option_map (λ srq. w.srq (srq_of q srq)) o))
    by None is = after w.srq (λ t. refl) (λ t. refl) room.sequence (λ n other t x taken held. taken)
    by (Some t) is = after (with_at slot_eq w.srq (srq_of q t) (retired_slot ps (w.srq (srq_of q t)).users (w.srq (srq_of q t))))
        (with-same depth_of w.srq (srq_of q t) (retired_slot ps (w.srq (srq_of q t)).users (w.srq (srq_of q t))) (slot-depth ps (w.srq (srq_of q t)).users (w.srq (srq_of q t))))
        (with-same (λ slot. slot.users) w.srq (srq_of q t) (retired_slot ps (w.srq (srq_of q t)).users (w.srq (srq_of q t))) refl)
        (with-all (λ u slot. IsInSequence slot) w.srq (srq_of q t) (retired_slot ps (w.srq (srq_of q t)).users (w.srq (srq_of q t))) (slot-sequence ps (w.srq (srq_of q t)).users (w.srq (srq_of q t)) (room.sequence (srq_of q t))) room.sequence)
        (λ n other u z. with-all (λ u slot. is_in z (taken_in (w.srq u)) ≡ true → room.holder u z ≡ n → is_in z (taken_in slot) ≡ true) w.srq (srq_of q t) (retired_slot ps (w.srq (srq_of q t)).users (w.srq (srq_of q t)))
        (λ taken held. slot-others ps (w.srq (srq_of q t)).users (w.srq (srq_of q t)) z (not-held w q t n z room there.present is other held) taken) (λ u taken held. taken) u)

-- the changes of a move to Error: all that is posted completes
error-room : (c : Configuration) (w : World) (q : QueuePair) → IsSoundWorld c w → HasRoom w → IsThere w q
    → LeavesRoom w ((Queue_of q.queue := Present (queue_after_change changes.Error q)) ∷ cq_updates q (around_in w q (shared_of w q)) (flush_marks q))
error-room c w q sound room there = by (turn-room c w q e [] sound room there (no-taking _ q e good refl) (record {}))
  where
    e : Effects
    e = queue_and_marks (queue_after_change changes.Error q) (flush_marks q)

    flushed-order : IsInOrder q (queue_and_marks (in_error q) (flush_marks q)) → IsInOrder q e
    flushed-order o = record { sends = o.sends; done = o.done; own = o.own; held = o.held }

    good : IsGood q e
    good = record {
      sound = silent-queue (in_error q) (error-queue q there.sound);
      later = silent-later q (in_error q) (error-later q there.sound);
      settled = settled-later (in_error q) (without_answers (in_error q)) (flush_marks q) (silent-later (in_error q) (in_error q) (later-same (in_error q)))
          (flush-settled q there.sound.requester.finished (omega (arith, there.sound.requester.begun, there.sound.requester.waiting)) there.sound.receives there.sound.taken);
      order = flushed-order (flush-order q there.sound.requester.finished (omega (arith, there.sound.requester.begun, there.sound.requester.waiting)) there.sound.receives there.sound.taken);
    }

    by : LeavesRoom w ((Queue_of q.queue := Present (queue_after_change changes.Error q)) ∷ cq_updates q (around_in w q (shared_of w q)) (flush_marks q))
        → LeavesRoom w ((Queue_of q.queue := Present (queue_after_change changes.Error q)) ∷ cq_updates q (around_in w q (shared_of w q)) (flush_marks q))
    by room = room

pub room-modify_qp : (c : Configuration) (w : World) (call : Call) (s : Slot) (change : state_change.Change) → IsSoundWorld c w → HasRoom w → EndsIn w (LeavesRoom w) (modify_qp_plan c call s change)
room-modify_qp c w call s change sound room = walk-modify c w (LeavesRoom w) call s change sound room (λ q there fails. by q there change)
  where
    stays : (q p : QueuePair) → IsThere w q → use_of (Present p) ≡ use_of (Present q) → (IsInPlace w.cq w.srq room.holder q → IsInPlace w.cq w.srq room.holder p)
        → HaveRoom (with_at queue_eq w.queue q.queue (Present p)) w.cq w.srq
    stays q p there same place = pair-room w.queue w.cq w.srq q p room (sound-named c w sound) there.present same place

    by : (q : QueuePair) → IsThere w q → (change : state_change.Change) → LeavesRoom w ((Queue_of q.queue := Present (queue_after_change change q)) ∷ changed_around w q (around_in w q (shared_of w q)) change)
    by q there changes.Error = error-room c w q sound room there
    by q there changes.Reset = reset-room c w q sound room there
    by q there (changes.Rtr peer incarnation psn mtu rnr_code) = stays q (queue_after_change (changes.Rtr peer incarnation psn mtu rnr_code) q) there refl (λ place. record { sends = place.sends; receives = place.receives; shared = place.shared })
    by q there changes.Init = stays q (queue_after_change changes.Init q) there refl (λ place. record { sends = place.sends; receives = place.receives; shared = place.shared })
    by q there (changes.Rts psn retry rnr_retry reads) = stays q (queue_after_change (changes.Rts psn retry rnr_retry reads) q) there refl (λ place. record { sends = place.sends; receives = place.receives; shared = place.shared })
    by q there changes.Sqd = stays q (queue_after_change changes.Sqd q) there refl (λ place. record { sends = place.sends; receives = place.receives; shared = place.shared })
    by q there changes.Resume = stays q (queue_after_change changes.Resume q) there refl (λ place. record { sends = place.sends; receives = place.receives; shared = place.shared })
