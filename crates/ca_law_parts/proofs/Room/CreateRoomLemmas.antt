-- A new queue pair leaves room: it reserves what can complete.
use Rattle.std.proofs.Common.{◌≡◌, ℕ, suc, ◌≤◌, ◌==◌, ◌&&◌, ◌||◌, not, Bool, true, false, List, [], ◌∷◌, ◌++◌, Option, None, Some, IfSome, is_some, is_none, refl, arith, sym, ◌∙◌, ap, ap₂, subst, true≢false, if◌then◌else◌}
use Rattle.std.proofs.lemmas.Bool.{eq-eqb, eqb-true, ltb-false, or_left, or_parts, or_right}
use Rattle.std.specs.List.{AllByRecursion, list_any}
use Rattle.std.specs.Option.{option_and_then, option_map, option_map_or}
use Rattle.ca_base.specs.declared.change.Field.TheVariants as fields
use Rattle.ca_base.specs.declared.request.RecvRequest.{RecvRequest}
use Rattle.ca_base.specs.declared.reserve.Reservation.{Reservation}
use Rattle.ca_base.specs.declared.reserve.Reserve.{Reserve}
use Rattle.ca_base.specs.declared.reserve.Reserve.TheVariants.{Sends, Receives, Shared}
use Rattle.ca_keys.specs.declared.names.QueueId.{QueueId}
use Rattle.ca_keys.specs.declared.names.Slot.{Slot}
use Rattle.ca_base.specs.Configuration.{Configuration}
use Rattle.ca_keys.specs.Equal.{bool_eq, queue_eq, slot_eq}
use Rattle.ca_keys.specs.Numbers.{queue_of}
use Rattle.ca_base.specs.objects.CompletionQueue.{CompletionQueue, after_reserve, is_for_sends, is_same_side, is_too_small, room_reserved, user_of, with_reservation}
use Rattle.ca_base.specs.objects.Domain.{with_object}
use Rattle.ca_base.specs.objects.Mailbox.{with_peer}
use Rattle.ca_base.specs.objects.QueuePair.{QueuePair, QueueSlot, NoQueue, Present, is_present, srq_of}
use Rattle.ca_base.specs.objects.SharedReceives.{SharedReceives, SrqSlot}
use Rattle.ca_base.specs.objects.WorkQueue.{WorkQueue, empty_queue}
use Rattle.ca_model.specs.Past.{with_at}
use Rattle.ca_model.specs.declared.answer.Answer.TheVariants as answers
use Rattle.ca_model.specs.declared.answer.Refusal.TheVariants.{CqTooSmall, NoSuch, OutOfRange}
use Rattle.ca_model.specs.machine.Places.{Ascend, first_held, places_of_side}
use Rattle.ca_model.specs.machine.Plan.{If, Look, Plan, Update, ◌:=◌}
use Rattle.ca_model.specs.machine.QueuePairVerbs.{Creation, With_shared, before_receives, beside, create_qp_plan, has_bad_depth, has_no_room, new_queue, receive_reserve, receive_room, send_reserved, user_updates}
use Rattle.ca_model.specs.machine.Sound.{IsSoundWorld}
use Rattle.ca_model.specs.machine.VerbAnswers.{Answer_plan, Call, Refuse_plan}
use Rattle.ca_model.specs.machine.World.{World, Cq_of, Domain_of, Mailbox_of, Queue_of, Srq_of}
use Rattle.ca_law_world.proofs.Sound.SettledLemmas.{queue-path, queue-refl, slot-path, slot-refl}
use Rattle.ca_law_world.proofs.Sound.WorldLemmas.{EndsIn}
use Rattle.ca_law_parts.specs.Room.{AreHeld, AreReserved, AreUsers, Has, HasRoom, HasSide, HaveRoom, IsDue, IsInPlace, IsInSequence, Use, Uses, depth_of, has_side, is_in, rooms_of, taken_in, use_of, waits_in}
use Rattle.ca_law_parts.proofs.Room.RoomLists.{all-map}
use Rattle.ca_law_parts.proofs.Room.FitLemmas.{side-empty, some-same}
use Rattle.ca_law_parts.proofs.Room.KeptLemmas.{local-places, two-same, with-same}
use Rattle.ca_law_parts.proofs.Room.AdvanceLemmas.{sound-named, with-all}
use Rattle.ca_law_parts.proofs.Room.EngineRoomLemmas.{LeavesRoom}
use Rattle.ca_law_parts.proofs.Room.ObjectRoomLemmas.{if-map}

-- one queue pair more
abbrev used : (QueueId → Option Use) → QueueId → Option Use → QueueId → Option Use
used uses name u n = if queue_eq name n then u else uses n

-- a reservation stays due where a vacant slot has a queue pair
due-more : (uses : QueueId → Option Use) (depths : Slot → Option ℕ) (name : QueueId) (new : Option Use) (s : Slot) (who : Reserve) (room : ℕ) → uses name ≡ None → IsDue uses depths s who room
    → IsDue (used uses name new) depths s who room
due-more uses depths name new s who room vacant due = by who due
  where
    keep : (P : Use → Type 0) (n : QueueId) → Has P (uses n) → Has P (used uses name new n)
    keep P n has = at (queue_eq name n) refl
      where
        at : (b : Bool) → queue_eq name n ≡ b → Has P (if b then new else uses n)
        at false e = has
        at true e = absurd (subst (Has P) (ap uses (sym (queue-path name n e)) ∙ vacant) has)

    by : (who : Reserve) → IsDue uses depths s who room → IsDue (used uses name new) depths s who room
    by (Sends n) due = keep (λ u. (u.send_cq ≡ s) × (u.send_depth ≡ room)) n due
    by (Receives n) due = keep (λ u. (u.recv_cq ≡ s) × (u.recv_depth ≡ Some room)) n due
    by (Shared t n) due = keep (λ u. (u.recv_cq ≡ s) × (u.srq ≡ Some (record s { slot = t })) × (depths (record s { slot = t }) ≡ Some room)) n due

all-more : (uses : QueueId → Option Use) (depths : Slot → Option ℕ) (name : QueueId) (new : Option Use) (s : Slot) (rs : List Reservation) → uses name ≡ None → AllByRecursion (λ r. IsDue uses depths s r.who r.room) rs
    → AllByRecursion (λ r. IsDue (used uses name new) depths s r.who r.room) rs
all-more uses depths name new s rs vacant due =
    all-map (λ r. IsDue uses depths s r.who r.room) (λ r. IsDue (used uses name new) depths s r.who r.room) (λ r. due-more uses depths name new s r.who r.room vacant) rs due

-- one user more, if it uses this shared receive queue
users-more : (uses : QueueId → Option Use) (name : QueueId) (new : Option Use) (t : Slot) (count : ℕ) → AreUsers uses t count → AreUsers (used uses name new) t (suc count)
users-more uses name new t count users = record { names = name ∷ users.names; few = omega (arith, users.few); all = λ n. by n (queue_eq name n) refl }
  where
    by : (n : QueueId) (b : Bool) → queue_eq name n ≡ b → Uses t (if b then new else uses n) → (queue_eq n name || list_any (queue_eq n) users.names) ≡ true
    by n true e is = or_left (queue_eq n name) (list_any (queue_eq n) users.names) (ap (queue_eq n) (queue-path name n e) ∙ queue-refl n)
    by n false e is = or_right (queue_eq n name) (list_any (queue_eq n) users.names) (users.all n is)

users-same : (uses : QueueId → Option Use) (name : QueueId) (new : Option Use) (t : Slot) (count : ℕ) → (Uses t new → ⊥) → AreUsers uses t count → AreUsers (used uses name new) t count
users-same uses name new t count apart users = record { names = users.names; few = users.few; all = λ n is. users.all n (by n (queue_eq name n) is) }
  where
    by : (n : QueueId) (b : Bool) → Uses t (if b then new else uses n) → Uses t (uses n)
    by n true is = absurd (apart is)
    by n false is = is

-- what the queue pair of a creation uses
abbrev new_use : Creation → Use
new_use x = record {
  send_cq = beside x.slot x.send_cq;
  recv_cq = beside x.slot x.recv_cq;
  srq = option_map (beside x.slot) x.srq;
  send_depth = x.send_depth;
  recv_depth = option_map_or (λ srq. None) x.srq (Some x.recv_depth);
}

-- each new reservation is of its side
same-side : (who : Reserve) (n : QueueId) → user_of who ≡ n → (b : Bool) → is_for_sends who ≡ b → (side : Reserve) → user_of side ≡ n → is_for_sends side ≡ b → is_same_side who side ≡ true
same-side who n one b two side three four = ap₂ (λ x y. x && y) (ap₂ queue_eq one three ∙ queue-refl n) (ap₂ bool_eq two four ∙ at b)
  where
    at : (b : Bool) → bool_eq b b ≡ true
    at true = refl
    at false = refl

-- what holds of each value of a function by its slot, where one value is another
with-else : {V : Type 0} (P : Slot → V → Type 0) (f : Slot → V) (at : Slot) (v : V) → P at v → ((s : Slot) → slot_eq at s ≡ false → P s (f s)) → (s : Slot) → P s (with_at slot_eq f at v s)
with-else P f at v here rest s = by (slot_eq at s) refl
  where
    by : (b : Bool) → slot_eq at s ≡ b → P s (if b then v else f s)
    by true e = subst (λ t. P t v) (slot-path at s e) here
    by false e = rest s e

-- the parts of a creation that is not refused
record IsMade (c : Configuration) (w : World) (x : Creation) (send recv : CompletionQueue) (shared : Option SrqSlot) : Type 0 where
  pub sound : IsSoundWorld c w
  pub room : HasRoom w
  pub vacant : use_of (w.queue (queue_of x.slot)) ≡ None
  pub send_is : w.cq (beside x.slot x.send_cq) ≡ Some send
  pub recv_is : w.cq (beside x.slot x.recv_cq) ≡ Some recv
  pub shared_is : shared ≡ option_map (λ srq. w.srq (beside x.slot srq)) x.srq
  pub named : (is_none (option_and_then (λ s. s.srq) shared) && not (is_none x.srq)) ≡ false
  pub fits : has_no_room x (option_and_then (λ s. s.srq) shared) send recv ≡ false

made-room : (c : Configuration) (w : World) (x : Creation) (send recv : CompletionQueue) (shared : Option SrqSlot) → IsMade c w x send recv shared
    → LeavesRoom w ((Domain_of x.slot.domain := with_object (w.domain x.slot.domain))
    ∷ (Queue_of (queue_of x.slot) := Present (new_queue x (w.queue (queue_of x.slot))))
    ∷ (Mailbox_of (queue_of x.slot) := with_peer (new_queue x (w.queue (queue_of x.slot))).incarnation None (w.mailbox (queue_of x.slot)))
    ∷ (Cq_of (beside x.slot x.send_cq) := Some (send_reserved x send))
    ∷ (Cq_of (beside x.slot x.recv_cq) := Some (after_reserve (receive_reserve x) (receive_room x (option_and_then (λ s. s.srq) shared)) (before_receives x send recv)))
    ∷ user_updates x shared)
made-room c w x send recv shared made = by x.srq refl shared made.shared_is
  where
    name : QueueId
    name = queue_of x.slot

    q : QueuePair
    q = new_queue x (w.queue name)

    S : Slot
    S = beside x.slot x.send_cq

    R : Slot
    R = beside x.slot x.recv_cq

    amount : ℕ
    amount = receive_room x (option_and_then (λ s. s.srq) shared)

    both : CompletionQueue
    both = after_reserve (receive_reserve x) amount (before_receives x send recv)

    inner : Slot → Option CompletionQueue
    inner = with_at slot_eq w.cq S (Some (send_reserved x send))

    now : Slot → Option CompletionQueue
    now = with_at slot_eq inner R (Some both)

    uses : QueueId → Option Use
    uses n = use_of (w.queue n)

    depths : Slot → Option ℕ
    depths t = depth_of (w.srq t)

    new : Option Use
    new = Some (new_use x)

    -- what the queue pair uses is this
    is-new : use_of (Present q) ≡ new
    is-new = at x.srq
      where
        own : Option ℕ → Option (WorkQueue RecvRequest)
        own None = Some (empty_queue x.recv_depth)
        own (Some srq) = None

        given : Option ℕ → Option Use
        given o = Some (record { send_cq = S; recv_cq = R; srq = option_map (beside x.slot) o; send_depth = x.send_depth; recv_depth = option_map (λ (r : WorkQueue RecvRequest). r.depth) (own o) })

        wanted : Option ℕ → Option Use
        wanted o = Some (record { send_cq = S; recv_cq = R; srq = option_map (beside x.slot) o; send_depth = x.send_depth; recv_depth = option_map_or (λ srq. None) o (Some x.recv_depth) })

        at : (o : Option ℕ) → given o ≡ wanted o
        at None = refl
        at (Some srq) = refl

    now-uses : (n : QueueId) → use_of (with_at queue_eq w.queue name (Present q) n) ≡ used uses name new n
    now-uses n = at (queue_eq name n)
      where
        at : (b : Bool) → use_of (if b then Present q else w.queue n) ≡ (if b then new else use_of (w.queue n))
        at true = is-new
        at false = refl

    has-new : (P : Use → Type 0) → P (new_use x) → Has P (used uses name new name)
    has-new P one = subst (λ b. Has P (if b then new else uses name)) (sym (queue-refl name)) one

    sends-due : IsDue (used uses name new) depths S (Sends name) x.send_depth
    sends-due = has-new (λ u. (u.send_cq ≡ S) × (u.send_depth ≡ x.send_depth)) (refl, refl)

    -- the room of the receives is due
    receives-due : (o : Option ℕ) → x.srq ≡ o → IsDue (used uses name new) depths R (option_map_or (λ srq. Shared srq name) o (Receives name)) amount
    receives-due None is = has-new (λ u. (u.recv_cq ≡ R) × (u.recv_depth ≡ Some amount)) (
      refl,
      ap (λ o. option_map_or (λ srq. None) o (Some x.recv_depth)) is ∙ ap Some (sym (ap (λ o. option_map_or (λ (s : SharedReceives). s.depth) (option_and_then (λ (s : SrqSlot). s.srq) o) x.recv_depth)
          (made.shared_is ∙ ap (option_map (λ srq. w.srq (beside x.slot srq))) is))),
    )
    receives-due (Some t) is = has-new (λ u. (u.recv_cq ≡ R) × (u.srq ≡ Some (beside x.slot t)) × (depths (beside x.slot t) ≡ Some amount)) (
      refl,
      ap (option_map (beside x.slot)) is,
      there (w.srq (beside x.slot t)).srq refl,
    )
      where
        slot : shared ≡ Some (w.srq (beside x.slot t))
        slot = made.shared_is ∙ ap (option_map (λ srq. w.srq (beside x.slot srq))) is

        there : (o : Option SharedReceives) → (w.srq (beside x.slot t)).srq ≡ o → option_map (λ (s : SharedReceives). s.depth) (w.srq (beside x.slot t)).srq ≡ Some amount
        there None e = absurd (true≢false (sym (ap₂ (λ a b. is_none a && not (is_none b)) (ap (option_and_then (λ (s : SrqSlot). s.srq)) slot ∙ e) is) ∙ made.named))
        there (Some s) e = ap (option_map (λ (s : SharedReceives). s.depth)) e
            ∙ ap Some (sym (ap (λ o. option_map_or (λ (s : SharedReceives). s.depth) o x.recv_depth) (ap (option_and_then (λ (s : SrqSlot). s.srq)) slot ∙ e)))

    Due : Slot → Option CompletionQueue → Type 0
    Due s o = IfSome (rooms_of o) (λ v. AllByRecursion (λ r. IsDue (used uses name new) depths s r.who r.room) v.reservations)

    old-due : (s : Slot) → Due s (w.cq s)
    old-due s = if-map (λ v. AllByRecursion (λ r. IsDue uses depths s r.who r.room) v.reservations) (λ v. AllByRecursion (λ r. IsDue (used uses name new) depths s r.who r.room) v.reservations)
        (λ v. all-more uses depths name new s v.reservations made.vacant) (rooms_of (w.cq s)) (made.room.reserved.due s)

    send-due : Due S (Some (send_reserved x send))
    send-due = (sends-due, subst (Due S) made.send_is (old-due S))

    fits-parts : (is_too_small (Sends name) x.send_depth send ≡ false) × (is_too_small (receive_reserve x) amount (before_receives x send recv) ≡ false)
    fits-parts = or_parts (is_too_small (Sends name) x.send_depth send) (is_too_small (receive_reserve x) amount (before_receives x send recv)) made.fits

    same-slot : (x.send_cq == x.recv_cq) ≡ true → S ≡ R
    same-slot e = ap (beside x.slot) (eqb-true x.send_cq x.recv_cq e)

    before-due : (b : Bool) → (x.send_cq == x.recv_cq) ≡ b → Due R (Some (if b then send_reserved x send else recv))
    before-due true e = subst (λ s. Due s (Some (send_reserved x send))) (same-slot e) send-due
    before-due false e = subst (Due R) made.recv_is (old-due R)

    both-due : Due R (Some both)
    both-due = (receives-due x.srq refl, before-due (x.send_cq == x.recv_cq) refl)

    due : (s : Slot) → Due s (now s)
    due = with-all Due inner R (Some both) both-due (with-all Due w.cq S (Some (send_reserved x send)) send-due old-due)

    Within : Option CompletionQueue → Type 0
    Within o = IfSome (rooms_of o) (λ v. room_reserved v.reservations ≤ v.capacity)

    capacity : (b : Bool) → (x.send_cq == x.recv_cq) ≡ b → (if b then send_reserved x send else recv).capacity ≡ (if b then send else recv).capacity
    capacity true e = refl
    capacity false e = refl

    within : (s : Slot) → Within (now s)
    within = with-all (λ s. Within) inner R (Some both) (ltb-false both.capacity (room_reserved both.reservations) fits-parts.1)
        (with-all (λ s. Within) w.cq S (Some (send_reserved x send)) (ltb-false send.capacity (room_reserved (with_reservation (Sends name) x.send_depth send.reservations)) fits-parts.0) made.room.reserved.within)

    Keeps : Reserve → Slot → Option CompletionQueue → Type 0
    Keeps who s o = HasSide who (rooms_of (w.cq s)) → HasSide who (rooms_of o)

    send-keeps : (who : Reserve) → Keeps who S (Some (send_reserved x send))
    send-keeps who has = or_right (is_same_side (Sends name) who) (has_side who send.reservations) (subst (λ o. HasSide who (rooms_of o)) made.send_is has)

    before-keeps : (who : Reserve) (b : Bool) → (x.send_cq == x.recv_cq) ≡ b → Keeps who R (Some (if b then send_reserved x send else recv))
    before-keeps who true e = subst (λ s. Keeps who s (Some (send_reserved x send))) (same-slot e) (send-keeps who)
    before-keeps who false e = λ has. subst (λ o. HasSide who (rooms_of o)) made.recv_is has

    both-keeps : (who : Reserve) → Keeps who R (Some both)
    both-keeps who has = or_right (is_same_side (receive_reserve x) who) (has_side who (before_receives x send recv).reservations) (before-keeps who (x.send_cq == x.recv_cq) refl has)

    keeps : (who : Reserve) (s : Slot) → Keeps who s (now s)
    keeps who = with-all (Keeps who) inner R (Some both) (both-keeps who) (with-all (Keeps who) w.cq S (Some (send_reserved x send)) (send-keeps who) (λ s has. has))

    -- the new queue pair's own sides
    own-receives : HasSide (Receives name) (rooms_of (now R))
    own-receives = subst (λ b. HasSide (Receives name) (rooms_of (if b then Some both else inner R))) (sym (slot-refl R))
        (or_left (is_same_side (receive_reserve x) (Receives name)) (has_side (Receives name) (before_receives x send recv).reservations) (at x.srq))
      where
        at : (o : Option ℕ) → is_same_side (option_map_or (λ srq. Shared srq name) o (Receives name)) (Receives name) ≡ true
        at None = same-side (Receives name) name refl false refl (Receives name) refl refl
        at (Some t) = same-side (Shared t name) name refl false refl (Receives name) refl refl

    own-sends : HasSide (Sends name) (rooms_of (now S))
    own-sends = at (slot_eq R S) refl
      where
        first : has_side (Sends name) (send_reserved x send).reservations ≡ true
        first = or_left (is_same_side (Sends name) (Sends name)) (has_side (Sends name) send.reservations) (same-side (Sends name) name refl true refl (Sends name) refl refl)

        before : (b : Bool) → (x.send_cq == x.recv_cq) ≡ b → R ≡ S → has_side (Sends name) (if b then send_reserved x send else recv).reservations ≡ true
        before true e same = first
        before false e same = absurd (true≢false (sym (eq-eqb x.send_cq x.recv_cq (sym (ap (λ s. s.slot) same))) ∙ e))

        at : (b : Bool) → slot_eq R S ≡ b → HasSide (Sends name) (rooms_of (if b then Some both else inner S))
        at true e = or_right (is_same_side (receive_reserve x) (Sends name)) (has_side (Sends name) (before_receives x send recv).reservations) (before (x.send_cq == x.recv_cq) refl (slot-path R S e))
        at false e = subst (λ b. HasSide (Sends name) (rooms_of (if b then Some (send_reserved x send) else w.cq S))) (sym (slot-refl S)) first

    each : (P : QueueId → Use → Type 0) (Q : QueueId → Use → Type 0) → ((n : QueueId) (u : Use) → P n u → Q n u) → ((n : QueueId) → IfSome (uses n) (P n)) → Q name (new_use x) → (n : QueueId) → IfSome (used uses name new n) (Q n)
    each P Q f all one n = at (queue_eq name n) refl
      where
        at : (b : Bool) → queue_eq name n ≡ b → IfSome (if b then new else uses n) (Q n)
        at true e = subst (λ m. Q m (new_use x)) (queue-path name n e) one
        at false e = if-map (P n) (Q n) (f n) (uses n) (all n)

    shared-stands : (o : Option ℕ) → x.srq ≡ o → IfSome (option_map (beside x.slot) o) (λ t. is_some (depths t) ≡ true)
    shared-stands None is = record {}
    shared-stands (Some t) is = at (receives-due (Some t) is)
      where
        at : IsDue (used uses name new) depths R (Shared t name) amount → is_some (depths (beside x.slot t)) ≡ true
        at one = of (used uses name new name) one
          where
            of : (u : Option Use) → IsDue (λ m. u) depths R (Shared t name) amount → is_some (depths (beside x.slot t)) ≡ true
            of None one = absurd one
            of (Some u) one = ap is_some one.2

    none-waits : (n : QueueId) (b : Bool) (s : Slot) → queue_eq name n ≡ true → places_of_side n b (waits_in w.cq s) ≡ []
    none-waits n b s e = at (w.cq s) refl
      where
        at : (o : Option CompletionQueue) → w.cq s ≡ o → places_of_side n b (option_map_or (λ v. v.waiting) o []) ≡ []
        at None is = refl
        at (Some v) is = side-empty c w s v n b made.sound is (λ p here. absurd (true≢false (ap is_some (sym (ap use_of here) ∙ (ap uses (sym (queue-path name n e)) ∙ made.vacant)))))

    sides : (n : QueueId) (s : Slot) (b : Bool) → places_of_side n b (waits_in now s) ≡ places_of_side n b (waits_in w.cq s)
    sides n s b = two-same (λ o. places_of_side n b (option_map_or (λ v. v.waiting) o [])) w.cq S R (Some (send_reserved x send)) (Some both)
        (ap (λ o. places_of_side n b (option_map_or (λ (v : CompletionQueue). v.waiting) o [])) (sym made.send_is)) (before (x.send_cq == x.recv_cq) refl) s
      where
        before : (z : Bool) → (x.send_cq == x.recv_cq) ≡ z → places_of_side n b (if z then send_reserved x send else recv).waiting ≡ places_of_side n b (waits_in w.cq R)
        before true e = ap (λ o. places_of_side n b (option_map_or (λ (v : CompletionQueue). v.waiting) o [])) (sym made.send_is) ∙ ap (λ s. places_of_side n b (waits_in w.cq s)) (same-slot e)
        before false e = ap (λ o. places_of_side n b (option_map_or (λ (v : CompletionQueue). v.waiting) o [])) (sym made.recv_is)

    empty : (b : Bool) (s : Slot) → places_of_side name b (waits_in now s) ≡ []
    empty b s = sides name s b ∙ none-waits name b s (queue-refl name)

    place : (srq' : Slot → SrqSlot) → IsInPlace now srq' made.room.holder q
    place srq' = record {
      sends = subst (Ascend 0 0) (sym (empty false S)) (omega arith);
      receives = own x.srq;
      shared = kept x.srq;
    }
      where
        queue : Option ℕ → Option (WorkQueue RecvRequest)
        queue None = Some (empty_queue x.recv_depth)
        queue (Some srq) = None

        own : (o : Option ℕ) → IfSome (queue o) (λ r. Ascend r.first (first_held r None) (places_of_side name true (waits_in now R)))
        own None = subst (Ascend 0 0) (sym (empty true R)) (omega arith)
        own (Some t) = record {}

        kept : (o : Option ℕ) → IfSome o (λ t. AreHeld made.room.holder name (srq_of q t) (taken_in (srq' (srq_of q t))) (places_of_side name true (waits_in now R) ++ []))
        kept None = record {}
        kept (Some t) = subst (AreHeld made.room.holder name (srq_of q t) (taken_in (srq' (srq_of q t)))) (sym (ap (λ xs. xs ++ []) (empty true R))) (record {}, record {})

    after : (srq' : Slot → SrqSlot) → ((t : Slot) → depth_of (srq' t) ≡ depth_of (w.srq t)) → ((t : Slot) → AreUsers (used uses name new) t (srq' t).users) → ((t : Slot) → IsInSequence (srq' t))
        → ((t : Slot) (z : ℕ) → is_in z (taken_in (w.srq t)) ≡ true → is_in z (taken_in (srq' t)) ≡ true)
        → HaveRoom (with_at queue_eq w.queue name (Present q)) now srq'
    after srq' same users sequence stay = record {
      reserved = subst (λ f. AreReserved f (λ s. rooms_of (now s)) (λ t. depth_of (srq' t)) (λ t. (srq' t).users)) (λ i. λ n. sym (now-uses n) i)
          (subst (λ f. AreReserved (used uses name new) (λ s. rooms_of (now s)) f (λ t. (srq' t).users)) (λ i. λ t. sym (same t) i) (record {
            due = due;
            within = within;
            sends = each (λ n u. HasSide (Sends n) (rooms_of (w.cq u.send_cq))) (λ n u. HasSide (Sends n) (rooms_of (now u.send_cq))) (λ n u. keeps (Sends n) u.send_cq) made.room.reserved.sends own-sends;
            receives = each (λ n u. HasSide (Receives n) (rooms_of (w.cq u.recv_cq))) (λ n u. HasSide (Receives n) (rooms_of (now u.recv_cq))) (λ n u. keeps (Receives n) u.recv_cq) made.room.reserved.receives own-receives;
            shared = each (λ n u. IfSome u.srq (λ t. is_some (depths t) ≡ true)) (λ n u. IfSome u.srq (λ t. is_some (depths t) ≡ true)) (λ n u all. all) made.room.reserved.shared (shared-stands x.srq refl);
            used = users;
          }));
      sequence = sequence;
      holder = made.room.holder;
      places = local-places w.queue w.cq now w.srq srq' made.room.holder made.room.holder name (Present q) (sound-named c w made.sound) (λ n other s b. sides n s b)
          (λ n other t z taken held. (stay t z taken, held)) made.room.places (place srq');
    }

    updates : Option ℕ → Option SrqSlot → List Update
    updates (Some srq) (Some slot) = (Srq_of (beside x.slot srq) := record slot { users = suc slot.users }) ∷ []
    updates srq slot = []

    by : (o : Option ℕ) → x.srq ≡ o → (t : Option SrqSlot) → t ≡ option_map (λ srq. w.srq (beside x.slot srq)) x.srq
        → LeavesRoom w ((Domain_of x.slot.domain := with_object (w.domain x.slot.domain)) ∷ (Queue_of name := Present q) ∷ (Mailbox_of name := with_peer q.incarnation None (w.mailbox name))
        ∷ (Cq_of S := Some (send_reserved x send)) ∷ (Cq_of R := Some both) ∷ updates o t)
    by None is t e = after w.srq (λ t. refl) (λ t. users-same uses name new t (w.srq t).users (λ u. absurd (true≢false (sym (ap is_some (sym (ap (option_map (beside x.slot)) is) ∙ u))))) (made.room.reserved.used t)) made.room.sequence (λ t z taken. taken)
    by (Some k) is None e = absurd (true≢false (sym (ap is_some (e ∙ ap (option_map (λ srq. w.srq (beside x.slot srq))) is))))
    by (Some k) is (Some slot) e = after (with_at slot_eq w.srq T (record slot { users = suc slot.users }))
        (with-same depth_of w.srq T (record slot { users = suc slot.users }) (ap depth_of same))
        (with-else (λ u v. AreUsers (used uses name new) u v.users) w.srq T (record slot { users = suc slot.users }) (subst (λ v. AreUsers (used uses name new) T (suc v.users)) (sym same) (users-more uses name new T (w.srq T).users (made.room.reserved.used T)))
        other)
        (with-all (λ u v. IsInSequence v) w.srq T (record slot { users = suc slot.users }) (subst IsInSequence (sym same) (made.room.sequence T)) made.room.sequence)
        (λ u z. with-all (λ u v. is_in z (taken_in (w.srq u)) ≡ true → is_in z (taken_in v) ≡ true) w.srq T (record slot { users = suc slot.users }) (λ taken. ap (λ (v : SrqSlot). is_in z (taken_in v)) same ∙ taken) (λ u taken. taken) u)
      where
        T : Slot
        T = beside x.slot k

        same : slot ≡ w.srq T
        same = some-same slot (w.srq T) (e ∙ ap (option_map (λ srq. w.srq (beside x.slot srq))) is)

        other : (u : Slot) → slot_eq T u ≡ false → AreUsers (used uses name new) u (w.srq u).users
        other u f = users-same uses name new u (w.srq u).users
            (λ is-used. true≢false (sym (slot-refl u) ∙ (ap (λ t. slot_eq t u) (sym (some-same T u (sym (ap (option_map (beside x.slot)) is) ∙ is-used))) ∙ f))) (made.room.reserved.used u)

pub room-create_qp : (c : Configuration) (w : World) (call : Call) (x : Creation) → IsSoundWorld c w → HasRoom w → EndsIn w (LeavesRoom w) (create_qp_plan c call x)
room-create_qp c w call x sound room = (
  λ is. room,
  λ there. (
    λ is. room,
    λ vacant. (
      λ has. ends-shared (λ shared is. cqs (free (w.queue queue) vacant) shared is (w.cq (beside x.slot x.send_cq)) refl (w.cq (beside x.slot x.recv_cq)) refl),
      λ none. room,
    ),
  ),
)
  where
    queue : QueueId
    queue = queue_of x.slot

    free : (s : QueueSlot) → is_present s ≡ false → use_of s ≡ None
    free (NoQueue incarnation timers) e = refl
    free (Present q) e = absurd (true≢false e)

    made : CompletionQueue → CompletionQueue → Option SrqSlot → Option SharedReceives → Plan
    made send recv srq shared = Answer_plan call (answers.Queue queue.number (new_queue x (w.queue queue)).incarnation)
        ((Domain_of x.slot.domain := with_object (w.domain x.slot.domain))
        ∷ (Queue_of queue := Present (new_queue x (w.queue queue)))
        ∷ (Mailbox_of queue := with_peer (new_queue x (w.queue queue)).incarnation None (w.mailbox queue))
        ∷ (Cq_of (beside x.slot x.send_cq) := Some (send_reserved x send))
        ∷ (Cq_of (beside x.slot x.recv_cq) := Some (after_reserve (receive_reserve x) (receive_room x shared) (before_receives x send recv)))
        ∷ user_updates x srq)
        []

    there_plan : Option CompletionQueue → Option CompletionQueue → Option SrqSlot → Option SharedReceives → Plan
    there_plan (Some send) (Some recv) srq shared = If (is_none shared && not (is_none x.srq)) (Refuse_plan call NoSuch)
        (If (has_bad_depth x) (Refuse_plan call (OutOfRange fields.Depth)) (If (has_no_room x shared send recv) (Refuse_plan call CqTooSmall) (made send recv srq shared)))
    there_plan send recv srq shared = Refuse_plan call NoSuch

    plan : Option SrqSlot → Option CompletionQueue → Option CompletionQueue → Plan
    plan shared send recv = there_plan send recv shared (option_and_then (λ s. s.srq) shared)

    ends-shared : ((shared : Option SrqSlot) → shared ≡ option_map (λ srq. w.srq (beside x.slot srq)) x.srq → EndsIn w (LeavesRoom w) (plan shared (w.cq (beside x.slot x.send_cq)) (w.cq (beside x.slot x.recv_cq))))
        → EndsIn w (LeavesRoom w) (With_shared x (λ shared. plan shared (w.cq (beside x.slot x.send_cq)) (w.cq (beside x.slot x.recv_cq))))
    ends-shared more = by x.srq refl
      where
        looks : Option ℕ → Plan
        looks None = plan None (w.cq (beside x.slot x.send_cq)) (w.cq (beside x.slot x.recv_cq))
        looks (Some srq) = Look (Srq_of (beside x.slot srq)) (λ slot. plan (Some slot) (w.cq (beside x.slot x.send_cq)) (w.cq (beside x.slot x.recv_cq)))

        by : (o : Option ℕ) → x.srq ≡ o → EndsIn w (LeavesRoom w) (looks o)
        by None is = more None (sym (ap (option_map (λ srq. w.srq (beside x.slot srq))) is))
        by (Some srq) is = more (Some (w.srq (beside x.slot srq))) (sym (ap (option_map (λ srq. w.srq (beside x.slot srq))) is))

    cqs : use_of (w.queue queue) ≡ None → (shared : Option SrqSlot) → shared ≡ option_map (λ srq. w.srq (beside x.slot srq)) x.srq
        → (send : Option CompletionQueue) → w.cq (beside x.slot x.send_cq) ≡ send → (recv : Option CompletionQueue) → w.cq (beside x.slot x.recv_cq) ≡ recv
        → EndsIn w (LeavesRoom w) (plan shared send recv)
    cqs vacant shared is None send-is recv recv-is = room
    cqs vacant shared is (Some send) send-is None recv-is = room
    cqs vacant shared is (Some send) send-is (Some recv) recv-is = (
      λ refused. room,
      λ named. (
        λ refused. room,
        λ depth. (
          λ refused. room,
          λ fits. made-room c w x send recv shared (record {
            sound = sound;
            room = room;
            vacant = vacant;
            send_is = send-is;
            recv_is = recv-is;
            shared_is = is;
            named = named;
            fits = fits;
          }),
        ),
      ),
    )
