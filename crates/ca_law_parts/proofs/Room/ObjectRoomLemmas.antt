-- The verbs on completion queues and shared receive queues, and those beside queue pairs, leave room.
use Rattle.std.proofs.Common.{◌≡◌, ℕ, suc, ◌-◌, ◌≤◌, nat_lt, Bool, true, false, List, [], ◌∷◌, ◌++◌, length, map, Option, None, Some, IfSome, is_some, is_none, refl, arith, sym, ◌∙◌, ap, subst, true≢false, append_assoc}
use Rattle.std.proofs.lemmas.Bool.{ltb-false}
use Rattle.std.proofs.lemmas.List.{map-append}
use Rattle.std.specs.List.{AllByRecursion, list_any}
use Rattle.std.specs.Option.{option_map, option_map_or}
use Rattle.ca_base.specs.declared.request.RecvRequest.{RecvRequest}
use Rattle.ca_base.specs.declared.reserve.Reservation.{Reservation}
use Rattle.ca_base.specs.declared.reserve.Reserve.{Reserve}
use Rattle.ca_base.specs.declared.reserve.Reserve.TheVariants.{Sends, Receives, Shared}
use Rattle.ca_keys.specs.declared.names.DomainId.{DomainId}
use Rattle.ca_keys.specs.declared.names.QueueId.{QueueId}
use Rattle.ca_keys.specs.declared.names.Slot.{Slot}
use Rattle.ca_keys.specs.declared.place.Run.{Run}
use Rattle.ca_keys.specs.declared.rights.Rights.{Rights}
use Rattle.ca_base.specs.Configuration.{Configuration}
use Rattle.ca_keys.specs.Equal.{queue_eq, slot_eq}
use Rattle.ca_base.specs.objects.CompletionQueue.{CompletionQueue, empty_cq, is_in_use, room_reserved}
use Rattle.ca_base.specs.objects.Domain.{without_object}
use Rattle.ca_base.specs.objects.QueuePair.{QueuePair, QueueSlot, NoQueue, Present, recv_cq_of, send_cq_of}
use Rattle.ca_base.specs.objects.Region.{with_window_unbound}
use Rattle.ca_base.specs.objects.SharedReceives.{SharedReceives, SrqSlot, after_receive_post, empty_receives, is_full_of_receives}
use Rattle.ca_base.specs.objects.Window.{after_deallocation}
use Rattle.ca_base.specs.declared.limits.TheConstants.{MAX_MESSAGE_BYTES}
use Rattle.ca_model.specs.Past.{with_at}
use Rattle.ca_model.specs.Requests.{list_length}
use Rattle.ca_model.specs.declared.answer.Answer.TheVariants as answers
use Rattle.ca_model.specs.declared.answer.Refusal.TheVariants.{NoSuch, QueueFull, TooLong}
use Rattle.ca_model.specs.machine.CompletionVerbs.{create_cq_plan, create_srq_plan, destroy_cq_plan, destroy_srq_plan}
use Rattle.ca_model.specs.machine.DomainVerbs.{alloc_pd_plan, dealloc_pd_plan}
use Rattle.ca_model.specs.machine.HostVerbs.{load_plan, store_plan}
use Rattle.ca_model.specs.machine.Places.{Ascend, places_of_side}
use Rattle.ca_model.specs.machine.Plan.{If, Plan, Update, ◌:=◌}
use Rattle.ca_model.specs.machine.PostingVerbs.{post_srq_plan}
use Rattle.ca_model.specs.machine.RegionVerbs.{alloc_mr_plan, dereg_mr_plan, reg_mr_plan}
use Rattle.ca_model.specs.machine.Row.{region_under}
use Rattle.ca_model.specs.machine.Sound.{IsSoundWorld, side_of}
use Rattle.ca_model.specs.machine.VerbAnswers.{Answer_plan, Call, Refuse_plan}
use Rattle.ca_model.specs.machine.WindowVerbs.{alloc_mw_plan, dealloc_mw_plan, queue_updates}
use Rattle.ca_model.specs.machine.World.{World, Cq_of, Domain_of, Region_of, Srq_of, Window_of}
use Rattle.ca_law_world.proofs.Sound.PlanWalks.{binder_updates, deallocated, walk-dealloc_mw}
use Rattle.ca_law_world.proofs.Sound.SettledLemmas.{slot-path}
use Rattle.ca_law_world.proofs.Sound.WorldLemmas.{EndsIn}
use Rattle.ca_law_parts.specs.Room.{AreUsers, HasRoom, HasSide, HaveRoom, IsDue, IsInPlace, IsInSequence, IsSlotInPlace, Use, Uses, depth_of, has_side, is_in, rooms_of, taken_in, use_of, waits_in}
use Rattle.ca_law_parts.proofs.Room.RoomLists.{all-map, ascend-append}
use Rattle.ca_law_parts.proofs.Room.FitLemmas.{side-empty}
use Rattle.ca_law_parts.proofs.Room.KeptLemmas.{local-places, queue-with-same, room-first, same-reserved, still-in-place, still-in-use, with-same}
use Rattle.ca_law_parts.proofs.Room.AdvanceLemmas.{AreNamed, sound-named, with-all}
use Rattle.ca_law_parts.proofs.Room.EngineRoomLemmas.{LeavesRoom}

pub room-alloc_pd : (w : World) (call : Call) (d : DomainId) → HasRoom w → EndsIn w (LeavesRoom w) (alloc_pd_plan call d)
room-alloc_pd w call d room = (λ is. room, λ is. room)

pub room-dealloc_pd : (w : World) (call : Call) (d : DomainId) → HasRoom w → EndsIn w (LeavesRoom w) (dealloc_pd_plan call d)
room-dealloc_pd w call d room = (λ is. room, λ is. (λ is. room, λ none. room))

pub room-reg_mr : (w : World) (call : Call) (s : Slot) (at : Run) (bytes : ℕ) (rights : Rights) → HasRoom w → EndsIn w (LeavesRoom w) (reg_mr_plan call s at bytes rights)
room-reg_mr w call s at bytes rights room = (λ is. room, λ there. (λ is. room, λ vacant. (λ is. room, λ some. (λ is. room, λ within. (λ is. room, λ right. room)))))

pub room-alloc_mr : (w : World) (call : Call) (s : Slot) (pages : ℕ) → HasRoom w → EndsIn w (LeavesRoom w) (alloc_mr_plan call s pages)
room-alloc_mr w call s pages room = (λ is. room, λ there. (λ is. room, λ vacant. (λ is. room, λ range. room)))

pub room-dereg_mr : (w : World) (call : Call) (s : Slot) → HasRoom w → EndsIn w (LeavesRoom w) (dereg_mr_plan call s)
room-dereg_mr w call s room = (λ is. room, λ there. (λ is. room, λ free. room))

pub room-alloc_mw : (w : World) (call : Call) (s : Slot) (kind : ℕ) → HasRoom w → EndsIn w (LeavesRoom w) (alloc_mw_plan call s kind)
room-alloc_mw w call s kind room = (λ is. room, λ there. (λ is. room, λ vacant. (λ is. room, λ kinds. room)))

pub room-store : (w : World) (call : Call) (at : Run) (n : ℕ) (bytes : List ℕ) → HasRoom w → EndsIn w (LeavesRoom w) (store_plan call at n bytes)
room-store w call at n bytes room = (λ is. room, λ range. (λ is. room, λ within. room))

pub room-load : (w : World) (call : Call) (at : Run) (n : ℕ) → HasRoom w → EndsIn w (LeavesRoom w) (load_plan call at n)
room-load w call at n room = (λ is. room, λ range. (λ is. room, λ within. room))

-- a queue pair with the same queues and depths, whose places stay
pub pair-room : (queue : QueueId → QueueSlot) (cq : Slot → Option CompletionQueue) (srq : Slot → SrqSlot) (q p : QueuePair) → (room : HaveRoom queue cq srq) → AreNamed queue → queue q.queue ≡ Present q
    → use_of (Present p) ≡ use_of (Present q) → (IsInPlace cq srq room.holder q → IsInPlace cq srq room.holder p) → HaveRoom (with_at queue_eq queue q.queue (Present p)) cq srq
pair-room queue cq srq q p room named there same place = record {
  reserved = same-reserved queue (with_at queue_eq queue q.queue (Present p)) cq cq srq srq
      (record { uses = queue-with-same use_of queue q.queue (Present p) (same ∙ ap use_of (sym there)); rooms = λ s. refl; depths = λ t. refl; users = λ t. refl }) room.reserved;
  sequence = room.sequence;
  holder = room.holder;
  places = local-places queue cq cq srq srq room.holder room.holder q.queue (Present p) named (λ n other s b. refl) (λ n other t x taken held. (taken, held)) room.places
      (place (subst (IsSlotInPlace cq srq room.holder) there (room.places q.queue)));
}

binder-room : (c : Configuration) (w : World) (o : Option QueueId) → IsSoundWorld c w → HasRoom w → LeavesRoom w (binder_updates w o)
binder-room c w None sound room = room
binder-room c w (Some q) sound room = by (w.queue q) refl
  where
    by : (s : QueueSlot) → w.queue q ≡ s → LeavesRoom w (queue_updates q s)
    by (NoQueue incarnation timers) is = room
    by (Present p) is = subst (λ n. HaveRoom (with_at queue_eq w.queue n (Present (record p { windows = p.windows - 1 }))) w.cq w.srq) (sound-named c w sound q p is)
        (pair-room w.queue w.cq w.srq p (record p { windows = p.windows - 1 }) room (sound-named c w sound) (ap w.queue (sound-named c w sound q p is) ∙ is) refl
        (λ place. record { sends = place.sends; receives = place.receives; shared = place.shared }))

pub room-dealloc_mw : (c : Configuration) (w : World) (call : Call) (s : Slot) → IsSoundWorld c w → HasRoom w → EndsIn w (LeavesRoom w) (dealloc_mw_plan call s)
room-dealloc_mw c w call s sound room = walk-dealloc_mw w (LeavesRoom w) call s room room
    (λ b is. unbound-room (region_under (w.window s) b) (binder_updates w b.queue) (binder-room c w b.queue sound room))
  where
    unbound-room : (at : Slot) (more : List Update) → LeavesRoom w more → LeavesRoom w (deallocated w s ++ (Region_of at := with_window_unbound (w.region at)) ∷ more)
    unbound-room at more leaves = room-first (Domain_of s.domain) (without_object (w.domain s.domain)) ((Window_of s := after_deallocation (w.window s)) ∷ (Region_of at := with_window_unbound (w.region at)) ∷ more) w (record {})
        (room-first (Window_of s) (after_deallocation (w.window s)) ((Region_of at := with_window_unbound (w.region at)) ∷ more) w (record {})
        (room-first (Region_of at) (with_window_unbound (w.region at)) more w (record {}) leaves))

pub if-map : {A : Type 0} (P Q : A → Type 0) → ((a : A) → P a → Q a) → (o : Option A) → IfSome o P → IfSome o Q
if-map P Q f None all = record {}
if-map P Q f (Some a) all = f a all

-- another completion queue in a slot: queue pairs and shared receive queues stay
pub queue-room : (queue : QueueId → QueueSlot) (cq : Slot → Option CompletionQueue) (srq : Slot → SrqSlot) (s : Slot) (v : Option CompletionQueue) → HaveRoom queue cq srq → AreNamed queue
    → IfSome (rooms_of v) (λ r. AllByRecursion (λ r. IsDue (λ n. use_of (queue n)) (λ t. depth_of (srq t)) s r.who r.room) r.reservations)
    → IfSome (rooms_of v) (λ r. room_reserved r.reservations ≤ r.capacity)
    → ((who : Reserve) → HasSide who (rooms_of (cq s)) → HasSide who (rooms_of v))
    → ((n : QueueId) (b : Bool) → places_of_side n b (option_map_or (λ v. v.waiting) v []) ≡ places_of_side n b (waits_in cq s))
    → HaveRoom queue (with_at slot_eq cq s v) srq
queue-room queue cq srq s v room named due within sides places = record {
  reserved = record {
    due = with-all (λ t o. IfSome (rooms_of o) (λ r. AllByRecursion (λ r. IsDue (λ n. use_of (queue n)) (λ t. depth_of (srq t)) t r.who r.room) r.reservations)) cq s v due room.reserved.due;
    within = with-all (λ t o. IfSome (rooms_of o) (λ r. room_reserved r.reservations ≤ r.capacity)) cq s v within room.reserved.within;
    sends = λ n. if-map (λ u. HasSide (Sends n) (rooms_of (cq u.send_cq))) (λ u. HasSide (Sends n) (rooms_of (now u.send_cq))) (λ u. side (Sends n) u.send_cq) (use_of (queue n)) (room.reserved.sends n);
    receives = λ n. if-map (λ u. HasSide (Receives n) (rooms_of (cq u.recv_cq))) (λ u. HasSide (Receives n) (rooms_of (now u.recv_cq))) (λ u. side (Receives n) u.recv_cq) (use_of (queue n)) (room.reserved.receives n);
    shared = room.reserved.shared;
    used = room.reserved.used;
  };
  sequence = room.sequence;
  holder = room.holder;
  places = λ n. by n (queue n) refl (room.places n);
}
  where
    now : Slot → Option CompletionQueue
    now = with_at slot_eq cq s v

    side : (who : Reserve) (t : Slot) → HasSide who (rooms_of (cq t)) → HasSide who (rooms_of (now t))
    side who = with-all (λ t o. HasSide who (rooms_of (cq t)) → HasSide who (rooms_of o)) cq s v (sides who) (λ t has. has)

    by : (n : QueueId) (z : QueueSlot) → queue n ≡ z → IsSlotInPlace cq srq room.holder z → IsSlotInPlace now srq room.holder z
    by n (NoQueue incarnation timers) is place = record {}
    by n (Present q) is place = still-in-place cq now srq srq room.holder room.holder q
        (λ t b. with-same (λ o. places_of_side q.queue b (option_map_or (λ v. v.waiting) o [])) cq s v (places q.queue b) t) (λ t x taken held. (taken, held)) place

pub room-create_cq : (c : Configuration) (w : World) (call : Call) (s : Slot) (capacity : ℕ) → IsSoundWorld c w → HasRoom w → EndsIn w (LeavesRoom w) (create_cq_plan call s capacity)
room-create_cq c w call s capacity sound room = (λ is. room, λ there. (λ is. room, λ free. (λ is. room, λ range. by (w.cq s) refl free)))
  where
    by : (o : Option CompletionQueue) → w.cq s ≡ o → is_some o ≡ false → LeavesRoom w ((Cq_of s := Some (empty_cq capacity)) ∷ [])
    by (Some v) is e = absurd (true≢false e)
    by None is e = queue-room w.queue w.cq w.srq s (Some (empty_cq capacity)) room (sound-named c w sound) (record {}) (omega arith)
        (λ who has. absurd (subst (λ o. HasSide who (rooms_of o)) is has)) (λ n b. ap (λ o. places_of_side n b (option_map_or (λ (v : CompletionQueue). v.waiting) o [])) (sym is))

pub room-destroy_cq : (c : Configuration) (w : World) (call : Call) (s : Slot) → IsSoundWorld c w → HasRoom w → EndsIn w (LeavesRoom w) (destroy_cq_plan call s)
room-destroy_cq c w call s sound room = (λ is. room, λ there. (λ is. room, λ free. by (w.cq s) refl there free))
  where
    by : (o : Option CompletionQueue) → w.cq s ≡ o → is_none o ≡ false → option_map_or is_in_use o false ≡ false → LeavesRoom w ((Cq_of s := None) ∷ [])
    by None is there free = absurd (true≢false there)
    by (Some v) is there free = queue-room w.queue w.cq w.srq s None room (sound-named c w sound) (record {}) (record {}) (λ who has. absurd (unused who has)) waits
      where
        none : (rs : List Reservation) → nat_lt 0 (length rs) ≡ false → (who : Reserve) → has_side who rs ≡ true → ⊥
        none [] e who has = true≢false (sym has)
        none (r ∷ rs) e who has = absurd (omega (arith, ltb-false 0 (length (r ∷ rs)) e))

        unused : (who : Reserve) → HasSide who (rooms_of (w.cq s)) → ⊥
        unused who has = none v.reservations free who (subst (λ o. HasSide who (rooms_of o)) is has)

        apart : (n : QueueId) (b : Bool) (q : QueuePair) → w.queue n ≡ Present q → (z : Bool) → slot_eq (side_of q b) s ≡ z → z ≡ false
        apart n b q here false e = refl
        apart n true q here true e = absurd (unused (Receives n) (subst (λ t. HasSide (Receives n) (rooms_of (w.cq t))) (slot-path (recv_cq_of q) s e)
            (subst (λ z. IfSome (use_of z) (λ u. HasSide (Receives n) (rooms_of (w.cq u.recv_cq)))) here (room.reserved.receives n))))
        apart n false q here true e = absurd (unused (Sends n) (subst (λ t. HasSide (Sends n) (rooms_of (w.cq t))) (slot-path (send_cq_of q) s e)
            (subst (λ z. IfSome (use_of z) (λ u. HasSide (Sends n) (rooms_of (w.cq u.send_cq)))) here (room.reserved.sends n))))

        waits : (n : QueueId) (b : Bool) → [] ≡ places_of_side n b (waits_in w.cq s)
        waits n b = sym (ap (λ o. places_of_side n b (option_map_or (λ (v : CompletionQueue). v.waiting) o [])) is ∙ side-empty c w s v n b sound is (λ q here. apart n b q here (slot_eq (side_of q b) s) refl))

-- a reservation stays due where depths stay
pub due-depths : (uses : QueueId → Option Use) (depths now : Slot → Option ℕ) (s : Slot) (who : Reserve) (room : ℕ)
    → ((n : QueueId) (t : Slot) → Uses t (uses n) → depths t ≡ Some room → now t ≡ Some room) → IsDue uses depths s who room → IsDue uses now s who room
due-depths uses depths now s (Sends n) room stay due = due
due-depths uses depths now s (Receives n) room stay due = due
due-depths uses depths now s (Shared t n) room stay due = by (uses n) (stay n) due
  where
    by : (u : Option Use) → ((t : Slot) → Uses t u → depths t ≡ Some room → now t ≡ Some room) → IsDue (λ m. u) depths s (Shared t n) room → IsDue (λ m. u) now s (Shared t n) room
    by None stay due = due
    by (Some u) stay due = (due.0, due.1, stay (record s { slot = t }) due.1 due.2)

-- another shared receive queue in a slot: completion queues and queue pairs stay
pub shared-room : (queue : QueueId → QueueSlot) (cq : Slot → Option CompletionQueue) (srq : Slot → SrqSlot) (s : Slot) (v : SrqSlot) → HaveRoom queue cq srq
    → v.users ≡ (srq s).users → IsInSequence v
    → ((n : QueueId) → Uses s (use_of (queue n)) → (depth_of v ≡ depth_of (srq s)) × ((x : ℕ) → is_in x (taken_in (srq s)) ≡ true → is_in x (taken_in v) ≡ true))
    → HaveRoom queue cq (with_at slot_eq srq s v)
shared-room queue cq srq s v room users sequence stay = record {
  reserved = record {
    due = λ t. if-map (λ r. AllByRecursion (λ r. IsDue uses (λ t. depth_of (srq t)) t r.who r.room) r.reservations) (λ r. AllByRecursion (λ r. IsDue uses (λ t. depth_of (now t)) t r.who r.room) r.reservations)
        (λ r. all-map (λ r. IsDue uses (λ t. depth_of (srq t)) t r.who r.room) (λ r. IsDue uses (λ t. depth_of (now t)) t r.who r.room)
        (λ r. due-depths uses (λ t. depth_of (srq t)) (λ t. depth_of (now t)) t r.who r.room (λ n t is e. depths n t is ∙ e)) r.reservations) (rooms_of (cq t)) (room.reserved.due t);
    within = room.reserved.within;
    sends = room.reserved.sends;
    receives = room.reserved.receives;
    shared = λ n. shared n (use_of (queue n)) refl (room.reserved.shared n);
    used = λ t. subst (AreUsers uses t) (sym (with-same (λ slot. slot.users) srq s v users t)) (room.reserved.used t);
  };
  sequence = with-all (λ t slot. IsInSequence slot) srq s v sequence room.sequence;
  holder = room.holder;
  places = λ n. by n (queue n) refl (room.places n);
}
  where
    uses : QueueId → Option Use
    uses n = use_of (queue n)

    now : Slot → SrqSlot
    now = with_at slot_eq srq s v

    depths : (n : QueueId) (t : Slot) → Uses t (uses n) → depth_of (now t) ≡ depth_of (srq t)
    depths n = with-all (λ t slot. Uses t (uses n) → depth_of slot ≡ depth_of (srq t)) srq s v (λ is. (stay n is).0) (λ t is. refl)

    taken : (n : QueueId) (t : Slot) → Uses t (uses n) → (x : ℕ) → is_in x (taken_in (srq t)) ≡ true → is_in x (taken_in (now t)) ≡ true
    taken n = with-all (λ t slot. Uses t (uses n) → (x : ℕ) → is_in x (taken_in (srq t)) ≡ true → is_in x (taken_in slot) ≡ true) srq s v (λ is. (stay n is).1) (λ t is x h. h)

    shared : (n : QueueId) (u : Option Use) → uses n ≡ u → IfSome u (λ u. IfSome u.srq (λ t. is_some (depth_of (srq t)) ≡ true)) → IfSome u (λ u. IfSome u.srq (λ t. is_some (depth_of (now t)) ≡ true))
    shared n None is all = record {}
    shared n (Some u) is all = at u.srq refl all
      where
        at : (o : Option Slot) → u.srq ≡ o → IfSome o (λ t. is_some (depth_of (srq t)) ≡ true) → IfSome o (λ t. is_some (depth_of (now t)) ≡ true)
        at None e all = record {}
        at (Some t) e all = ap is_some (depths n t (subst (Uses t) (sym is) e)) ∙ all

    by : (n : QueueId) (z : QueueSlot) → queue n ≡ z → IsSlotInPlace cq srq room.holder z → IsSlotInPlace cq now room.holder z
    by n (NoQueue incarnation timers) is place = record {}
    by n (Present q) is place = still-in-use cq cq srq now room.holder room.holder q (λ t b. refl) (λ t e x h held. (taken n t (subst (λ z. Uses t (use_of z)) (sym is) e) x h, held)) place

pub room-create_srq : (c : Configuration) (w : World) (call : Call) (s : Slot) (depth : ℕ) → IsSoundWorld c w → HasRoom w → EndsIn w (LeavesRoom w) (create_srq_plan call s depth)
room-create_srq c w call s depth sound room = (
  λ is. room,
  λ there. (
    λ is. room,
    λ free. (
      λ is. room,
      λ range.
          shared-room w.queue w.cq w.srq s (record (w.srq s) { srq = Some (empty_receives depth) }) room refl (omega arith) (λ n is. absurd (unused n is free)),
    ),
  ),
)
  where
    unused : (n : QueueId) → Uses s (use_of (w.queue n)) → is_some (w.srq s).srq ≡ false → ⊥
    unused n is free = by (use_of (w.queue n)) is (room.reserved.shared n)
      where
        none : (o : Option SharedReceives) → is_some o ≡ false → is_some (option_map (λ s. s.depth) o) ≡ false
        none None e = e
        none (Some s) e = e

        by : (u : Option Use) → Uses s u → IfSome u (λ u. IfSome u.srq (λ t. is_some (depth_of (w.srq t)) ≡ true)) → ⊥
        by None is all = is
        by (Some u) is all = true≢false (sym (subst (λ o. IfSome o (λ t. is_some (depth_of (w.srq t)) ≡ true)) is all) ∙ none (w.srq s).srq free)

pub room-destroy_srq : (c : Configuration) (w : World) (call : Call) (s : Slot) → HasRoom w → EndsIn w (LeavesRoom w) (destroy_srq_plan call s)
room-destroy_srq c w call s room = (
  λ is. room,
  λ there. (
    λ is. room,
    λ free.
        shared-room w.queue w.cq w.srq s (record (w.srq s) { srq = None }) room refl (record {}) (λ n is. absurd (unused n is (room.reserved.used s) free)),
  ),
)
  where
    unused : (n : QueueId) → Uses s (use_of (w.queue n)) → AreUsers (λ n. use_of (w.queue n)) s (w.srq s).users → nat_lt 0 (w.srq s).users ≡ false → ⊥
    unused n is used free = by used.names (omega (arith, used.few, ltb-false 0 (w.srq s).users free)) (used.all n is)
      where
        by : (names : List QueueId) → length names ≤ 0 → list_any (queue_eq n) names ≡ true → ⊥
        by [] few has = true≢false (sym has)
        by (m ∷ names) few has = absurd (omega (arith, few))

pub room-post_srq : (c : Configuration) (w : World) (call : Call) (s : Slot) (request : RecvRequest) → HasRoom w → EndsIn w (LeavesRoom w) (post_srq_plan call s request)
room-post_srq c w call s request room = by (w.srq s).srq refl
  where
    plan : Option SharedReceives → Plan
    plan None = Refuse_plan call NoSuch
    plan (Some srq) = If (nat_lt MAX_MESSAGE_BYTES (list_length request.list.items)) (Refuse_plan call TooLong) (If (is_full_of_receives srq) (Refuse_plan call QueueFull)
        (Answer_plan call (answers.Posted None) ((Srq_of s := record (w.srq s) { srq = Some (after_receive_post request srq) }) ∷ []) []))

    sequence : (srq : SharedReceives) → Ascend 0 srq.next (srq.taken ++ map (λ r. r.place) srq.waiting) → Ascend 0 (suc srq.next) (srq.taken ++ map (λ r. r.place) (srq.waiting ++ record { place = srq.next; receive = request } ∷ []))
    sequence srq all = subst (Ascend 0 (suc srq.next)) (append_assoc srq.taken (map (λ r. r.place) srq.waiting) (srq.next ∷ []) ∙ ap (λ xs. srq.taken ++ xs) (sym (map-append (λ r. r.place) srq.waiting (record { place = srq.next; receive = request } ∷ []))))
        (ascend-append 0 srq.next (suc srq.next) (srq.taken ++ map (λ r. r.place) srq.waiting) (srq.next ∷ []) all (omega arith, omega arith))

    by : (o : Option SharedReceives) → (w.srq s).srq ≡ o → EndsIn w (LeavesRoom w) (plan o)
    by None is = room
    by (Some srq) is = (
      λ e. room,
      λ short. (
        λ e. room,
        λ free. shared-room w.queue w.cq w.srq s (record (w.srq s) { srq = Some (after_receive_post request srq) }) room refl
            (sequence srq (subst (λ o. IfSome o (λ s. Ascend 0 s.next (s.taken ++ map (λ r. r.place) s.waiting))) is (room.sequence s)))
            (λ n uses. (ap (option_map (λ s. s.depth)) (sym is), λ x h. ap (λ o. is_in x (option_map_or (λ (s : SharedReceives). s.taken) o [])) (sym is) ∙ h)),
      ),
    )
