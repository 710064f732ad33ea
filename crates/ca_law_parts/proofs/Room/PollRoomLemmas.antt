-- A poll leaves room: it frees the places of what it takes.
use Rattle.std.proofs.Common.{◌≡◌, ℕ, suc, zero, ◌==◌, ◌&&◌, ◌||◌, max, not, Bool, true, false, List, [], ◌∷◌, ◌++◌, length, map, take, drop, Option, None, Some, IfSome, is_some, is_none, refl, arith, sym, ◌∙◌, ap, ap₂, subst, true≢false, if◌then◌else◌, append_assoc}
use Rattle.std.proofs.lemmas.Bool.{eq-eqb, eqb-true, or_left, or_parts, or_right}
use Rattle.std.specs.List.{AllByRecursion, list_any}
use Rattle.std.specs.Option.{option_eq, option_map, option_map_or, option_or}
use Rattle.ca_base.specs.declared.completion.Completion.{Completion}
use Rattle.ca_base.specs.declared.request.RecvRequest.{RecvRequest}
use Rattle.ca_base.specs.declared.reserve.Reservation.{Reservation}
use Rattle.ca_base.specs.declared.reserve.Reserve.{Reserve}
use Rattle.ca_base.specs.declared.reserve.Reserve.TheVariants.{Sends, Receives, Shared}
use Rattle.ca_keys.specs.declared.names.QueueId.{QueueId}
use Rattle.ca_keys.specs.declared.names.Slot.{Slot}
use Rattle.ca_base.specs.Configuration.{Configuration}
use Rattle.ca_keys.specs.Equal.{bool_eq, queue_eq, slot_eq}
use Rattle.ca_base.specs.objects.CompletionQueue.{CompletionQueue, source_in, source_of, user_of}
use Rattle.ca_base.specs.objects.QueuePair.{QueuePair, QueueSlot, NoQueue, Present, recv_cq_of, send_cq_of, srq_of}
use Rattle.ca_base.specs.objects.SharedReceives.{SharedReceives, SrqSlot, after_receive_retire}
use Rattle.ca_base.specs.objects.WorkQueue.{WorkQueue, after_retire}
use Rattle.ca_model.specs.Past.{with_at}
use Rattle.ca_model.specs.machine.CompletionVerbs.{With_place, With_places, after_poll, poll_plan, receives_after_poll, slot_after_poll, source_of_completion}
use Rattle.ca_model.specs.machine.Places.{Ascend, first_held, places_in_use, places_of_side}
use Rattle.ca_model.specs.machine.Plan.{Plan, Look, Update, ◌:=◌, put_all}
use Rattle.ca_model.specs.machine.Sound.{IsSoundWorld, side_of}
use Rattle.ca_model.specs.machine.VerbAnswers.{Call}
use Rattle.ca_model.specs.machine.World.{World, Cq_of, Queue_of, Srq_of, put}
use Rattle.ca_cq.proofs.Rooms.{all-zip, none-of}
use Rattle.ca_law_world.proofs.Sound.PlanWalks.{walk-poll}
use Rattle.ca_law_world.proofs.Sound.SettledLemmas.{queue-path, queue-refl, slot-path, slot-refl}
use Rattle.ca_law_world.proofs.Sound.WorldLemmas.{EndsIn}
use Rattle.ca_law_parts.specs.Room.{AreDistinct, AreHeld, Has, HasRoom, HaveRoom, IsDue, IsInPlace, IsInSequence, IsSlotInPlace, Use, depth_of, is_in, places_kept, rooms_of, taken_in, use_of, waits_in}
use Rattle.ca_law_parts.proofs.Room.RoomLists.{all-behind, all-in, all-map, ascend-filter, ascend-lower, distinct-behind, in-append, in-filter, is_of, side-append}
use Rattle.ca_law_parts.proofs.Room.FitLemmas.{IsAt, TakesFrom, at-due, members, side-empty, some-same, sound-queue, user-held}
use Rattle.ca_law_parts.proofs.Room.KeptLemmas.{same-reserved, with-same}
use Rattle.ca_law_parts.proofs.Room.AdvanceLemmas.{sound-named}
use Rattle.ca_law_parts.proofs.Room.EngineRoomLemmas.{LeavesRoom}

-- a shared receive queue after a poll
abbrev slot_freed : CompletionQueue → List Completion → ℕ → SrqSlot → SrqSlot
slot_freed cq xs t slot = record slot { srq = option_map (receives_after_poll cq t xs) slot.srq }

-- what the taking of one completion frees, by its source
abbrev freed_by : World → Slot → CompletionQueue → List Completion → Completion → Option ℕ → Update
freed_by w s cq xs c None = (Queue_of c.queue := slot_after_poll c.queue xs (w.queue c.queue))
freed_by w s cq xs c (Some t) = (Srq_of (record { domain = s.domain; slot = t }) := slot_freed cq xs t (w.srq (record { domain = s.domain; slot = t })))

abbrev freed : World → Slot → CompletionQueue → List Completion → Completion → Update
freed w s cq xs c = freed_by w s cq xs c (source_of_completion cq c)

-- a poll ends in these changes
place-ends : (w : World) (P : List Update → Type 0) (s : Slot) (cq : CompletionQueue) (xs : List Completion) (c : Completion) (k : Update → Plan) → EndsIn w P (k (freed w s cq xs c))
    → EndsIn w P (With_place s cq xs c k)
place-ends w P s cq xs c k = by (source_of_completion cq c)
  where
    shared : ℕ → Slot
    shared srq = record { domain = s.domain; slot = srq }

    plan : Option ℕ → Plan
    plan None = Look (Queue_of c.queue) (λ slot. k (Queue_of c.queue := slot_after_poll c.queue xs slot))
    plan (Some srq) = Look (Srq_of (shared srq)) (λ slot. k (Srq_of (shared srq) := record slot { srq = option_map (receives_after_poll cq srq xs) slot.srq }))

    by : (o : Option ℕ) → EndsIn w P (k (freed_by w s cq xs c o)) → EndsIn w P (plan o)
    by None ends = ends
    by (Some t) ends = ends

places-end : (w : World) (P : List Update → Type 0) (s : Slot) (cq : CompletionQueue) (xs ys : List Completion) (k : List Update → Plan) → EndsIn w P (k (map (freed w s cq xs) ys))
    → EndsIn w P (With_places s cq xs ys k)
places-end w P s cq xs [] k ends = ends
places-end w P s cq xs (y ∷ ys) k ends =
    place-ends w P s cq xs y (λ u. With_places s cq xs ys (λ us. k (u ∷ us))) (places-end w P s cq xs ys (λ us. k (freed w s cq xs y ∷ us)) ends)

-- a completion frees its queue pair, or a shared receive queue
abbrev frees_queue : CompletionQueue → QueueId → Completion → Bool
frees_queue cq n c = is_none (source_of_completion cq c) && queue_eq c.queue n

abbrev frees_shared : CompletionQueue → Slot → Slot → Completion → Bool
frees_shared cq s T c = option_map_or (λ t. slot_eq (record { domain = s.domain; slot = t }) T) (source_of_completion cq c) false

chosen : {A : Type 0} (d h : Bool) (a v x y : A) → y ≡ (if h then a else x) → x ≡ (if d then a else v) → y ≡ (if d || h then a else v)
chosen true true a v x y one two = one
chosen true false a v x y one two = one ∙ two
chosen false true a v x y one two = one
chosen false false a v x y one two = one ∙ two

-- the queue pairs after these changes
queues-freed : (w : World) (s : Slot) (cq : CompletionQueue) (xs ys : List Completion) (v : World) (n : QueueId)
    → (put_all (map (freed w s cq xs) ys) v).queue n ≡ (if list_any (frees_queue cq n) ys then slot_after_poll n xs (w.queue n) else v.queue n)
queues-freed w s cq xs [] v n = refl
queues-freed w s cq xs (y ∷ ys) v n = chosen (frees_queue cq n y) (list_any (frees_queue cq n) ys) (slot_after_poll n xs (w.queue n)) (v.queue n) (next.queue n) _
    (queues-freed w s cq xs ys next n) (by (source_of_completion cq y))
  where
    next : World
    next = put v (freed w s cq xs y).name (freed w s cq xs y).thing

    at : (b : Bool) → queue_eq y.queue n ≡ b → (if b then slot_after_poll y.queue xs (w.queue y.queue) else v.queue n) ≡ (if b then slot_after_poll n xs (w.queue n) else v.queue n)
    at true e = ap (λ m. slot_after_poll m xs (w.queue m)) (queue-path y.queue n e)
    at false e = refl

    by : (o : Option ℕ) → (put v (freed_by w s cq xs y o).name (freed_by w s cq xs y o).thing).queue n ≡ (if is_none o && queue_eq y.queue n then slot_after_poll n xs (w.queue n) else v.queue n)
    by None = at (queue_eq y.queue n) refl
    by (Some t) = refl

-- the shared receive queues after them
shared-freed : (w : World) (s : Slot) (cq : CompletionQueue) (xs ys : List Completion) (v : World) (T : Slot)
    → (put_all (map (freed w s cq xs) ys) v).srq T ≡ (if list_any (frees_shared cq s T) ys then slot_freed cq xs T.slot (w.srq T) else v.srq T)
shared-freed w s cq xs [] v T = refl
shared-freed w s cq xs (y ∷ ys) v T = chosen (frees_shared cq s T y) (list_any (frees_shared cq s T) ys) (slot_freed cq xs T.slot (w.srq T)) (v.srq T) (next.srq T) _
    (shared-freed w s cq xs ys next T) (by (source_of_completion cq y))
  where
    next : World
    next = put v (freed w s cq xs y).name (freed w s cq xs y).thing

    at : (t : ℕ) (b : Bool) → slot_eq (record { domain = s.domain; slot = t }) T ≡ b
        → (if b then slot_freed cq xs t (w.srq (record { domain = s.domain; slot = t })) else v.srq T) ≡ (if b then slot_freed cq xs T.slot (w.srq T) else v.srq T)
    at t true e = ap (λ (S : Slot). slot_freed cq xs S.slot (w.srq S)) (slot-path (record { domain = s.domain; slot = t }) T e)
    at t false e = refl

    by : (o : Option ℕ) → (put v (freed_by w s cq xs y o).name (freed_by w s cq xs y o).thing).srq T
        ≡ (if option_map_or (λ t. slot_eq (record { domain = s.domain; slot = t }) T) o false then slot_freed cq xs T.slot (w.srq T) else v.srq T)
    by None = refl
    by (Some t) = at t (slot_eq (record { domain = s.domain; slot = t }) T) refl

cqs-freed : (w : World) (s : Slot) (cq : CompletionQueue) (xs ys : List Completion) (v : World) → (put_all (map (freed w s cq xs) ys) v).cq ≡ v.cq
cqs-freed w s cq xs [] v = refl
cqs-freed w s cq xs (y ∷ ys) v = cqs-freed w s cq xs ys (put v (freed w s cq xs y).name (freed w s cq xs y).thing) ∙ by (source_of_completion cq y)
  where
    by : (o : Option ℕ) → (put v (freed_by w s cq xs y o).name (freed_by w s cq xs y o).thing).cq ≡ v.cq
    by None = refl
    by (Some t) = refl

-- what a poll leaves of a queue pair as it was
record IsSameBeside (q p : QueuePair) : Type 0 where
  pub queue : p.queue ≡ q.queue
  pub send : send_cq_of p ≡ send_cq_of q
  pub recv : recv_cq_of p ≡ recv_cq_of q
  pub shared : (t : ℕ) → srq_of p t ≡ srq_of q t
  pub srq : p.srq ≡ q.srq
  pub oldest : p.requester.oldest ≡ q.requester.oldest
  pub message : p.responder.message ≡ q.responder.message
  pub uses : use_of (Present p) ≡ use_of (Present q)

-- one completion was taken
abbrev after_one : QueueId → Completion → QueuePair → QueuePair
after_one n c p = after_poll n (c ∷ []) p

one-beside : (n : QueueId) (c : Completion) (p : QueuePair) → IsSameBeside p (after_one n c p)
one-beside n c p = by (queue_eq c.queue n) c.receive
  where
    freed_pair : Bool → QueuePair
    freed_pair true = record p { receives = option_map (after_retire c.place) p.receives }
    freed_pair false = record p { sends = after_retire c.place p.sends }

    depth : (o : Option (WorkQueue RecvRequest)) → option_map (λ (r : WorkQueue RecvRequest). r.depth) (option_map (after_retire c.place) o) ≡ option_map (λ (r : WorkQueue RecvRequest). r.depth) o
    depth None = refl
    depth (Some r) = refl

    use_with : Option ℕ → Option Use
    use_with d = Some (record { send_cq = send_cq_of p; recv_cq = recv_cq_of p; srq = option_map (srq_of p) p.srq; send_depth = p.sends.depth; recv_depth = d })

    by : (g r : Bool) → IsSameBeside p (if g then freed_pair r else p)
    by false r = record { queue = refl; send = refl; recv = refl; shared = λ t. refl; srq = refl; oldest = refl; message = refl; uses = refl }
    by true false = record { queue = refl; send = refl; recv = refl; shared = λ t. refl; srq = refl; oldest = refl; message = refl; uses = refl }
    by true true = record { queue = refl; send = refl; recv = refl; shared = λ t. refl; srq = refl; oldest = refl; message = refl; uses = ap use_with (depth p.receives) }

poll-beside : (n : QueueId) (xs : List Completion) (p : QueuePair) → IsSameBeside p (after_poll n xs p)
poll-beside n [] p = record { queue = refl; send = refl; recv = refl; shared = λ t. refl; srq = refl; oldest = refl; message = refl; uses = refl }
poll-beside n (c ∷ cs) p = both (one-beside n c p) (poll-beside n cs (after_one n c p))
  where
    both : IsSameBeside p (after_one n c p) → IsSameBeside (after_one n c p) (after_poll n cs (after_one n c p)) → IsSameBeside p (after_poll n cs (after_one n c p))
    both one other = record {
      queue = other.queue ∙ one.queue;
      send = other.send ∙ one.send;
      recv = other.recv ∙ one.recv;
      shared = λ t. other.shared t ∙ one.shared t;
      srq = other.srq ∙ one.srq;
      oldest = other.oldest ∙ one.oldest;
      message = other.message ∙ one.message;
      uses = other.uses ∙ one.uses;
    }

flag-path : (a b : Bool) → bool_eq a b ≡ true → a ≡ b
flag-path true b e = sym e
flag-path false true e = absurd (true≢false (sym e))
flag-path false false e = refl

-- the sends that are taken free their places
one-sends : (n : QueueId) (c : Completion) (p : QueuePair) (high : ℕ) (ys : List ℕ) → Ascend p.sends.first high (places_of_side n false (c ∷ []) ++ ys) → Ascend (after_one n c p).sends.first high ys
one-sends n c p high ys = by (queue_eq c.queue n) c.receive
  where
    freed_pair : Bool → QueuePair
    freed_pair true = record p { receives = option_map (after_retire c.place) p.receives }
    freed_pair false = record p { sends = after_retire c.place p.sends }

    by : (g r : Bool) → Ascend p.sends.first high (map (λ c. c.place) (if g && bool_eq r false then c ∷ [] else []) ++ ys) → Ascend (if g then freed_pair r else p).sends.first high ys
    by false r all = all
    by true true all = all
    by true false all = ascend-lower (suc c.place) (max p.sends.first (suc c.place)) high ys (omega (arith, all.0)) all.1

poll-sends : (n : QueueId) (xs : List Completion) (p : QueuePair) (high : ℕ) (ys : List ℕ) → Ascend p.sends.first high (places_of_side n false xs ++ ys) → Ascend (after_poll n xs p).sends.first high ys
poll-sends n [] p high ys all = all
poll-sends n (c ∷ cs) p high ys all = poll-sends n cs (after_one n c p) high ys (one-sends n c p high (places_of_side n false cs ++ ys)
    (subst (Ascend p.sends.first high) (ap (λ zs. zs ++ ys) (side-append n false (c ∷ []) cs) ∙ append_assoc (places_of_side n false (c ∷ [])) (places_of_side n false cs) ys) all))

-- so do the receives of its own
abbrev OwnAscend : Option (WorkQueue RecvRequest) → (WorkQueue RecvRequest → ℕ) → List ℕ → Type 0
OwnAscend o high ys = IfSome o (λ r. Ascend r.first (high r) ys)

one-receives : (n : QueueId) (c : Completion) (p : QueuePair) (ys : List ℕ) → OwnAscend p.receives (λ r. first_held r p.responder.message) (places_of_side n true (c ∷ []) ++ ys)
    → OwnAscend (after_one n c p).receives (λ r. first_held r p.responder.message) ys
one-receives n c p ys = by (queue_eq c.queue n) c.receive
  where
    freed_pair : Bool → QueuePair
    freed_pair true = record p { receives = option_map (after_retire c.place) p.receives }
    freed_pair false = record p { sends = after_retire c.place p.sends }

    own : (o : Option (WorkQueue RecvRequest)) → OwnAscend o (λ r. first_held r p.responder.message) (c.place ∷ ys) → OwnAscend (option_map (after_retire c.place) o) (λ r. first_held r p.responder.message) ys
    own None all = record {}
    own (Some r) all = ascend-lower (suc c.place) (max r.first (suc c.place)) (first_held r p.responder.message) ys (omega (arith, all.0)) all.1

    by : (g r : Bool) → OwnAscend p.receives (λ r. first_held r p.responder.message) (map (λ c. c.place) (if g && bool_eq r true then c ∷ [] else []) ++ ys)
        → OwnAscend (if g then freed_pair r else p).receives (λ r. first_held r p.responder.message) ys
    by false r all = all
    by true false all = all
    by true true all = own p.receives all

poll-receives : (n : QueueId) (xs : List Completion) (p : QueuePair) (ys : List ℕ) → OwnAscend p.receives (λ r. first_held r p.responder.message) (places_of_side n true xs ++ ys)
    → OwnAscend (after_poll n xs p).receives (λ r. first_held r p.responder.message) ys
poll-receives n [] p ys all = all
poll-receives n (c ∷ cs) p ys all = subst (λ m. OwnAscend (after_poll n cs (after_one n c p)).receives (λ r. first_held r m) ys) (one-beside n c p).message
    (poll-receives n cs (after_one n c p) ys (subst (λ m. OwnAscend (after_one n c p).receives (λ r. first_held r m) (places_of_side n true cs ++ ys)) (sym (one-beside n c p).message)
    (one-receives n c p (places_of_side n true cs ++ ys)
    (subst (OwnAscend p.receives (λ r. first_held r p.responder.message)) (ap (λ zs. zs ++ ys) (side-append n true (c ∷ []) cs) ∙ append_assoc (places_of_side n true (c ∷ [])) (places_of_side n true cs) ys) all))))

-- a queue pair none of whose places a poll frees stays as it is
poll-none : (n : QueueId) (xs : List Completion) (p : QueuePair) → AllByRecursion (λ c. queue_eq c.queue n ≡ true → (c.receive ≡ true) × (p.receives ≡ None)) xs → after_poll n xs p ≡ p
poll-none n [] p all = refl
poll-none n (c ∷ cs) p all = ap (after_poll n cs) (by (queue_eq c.queue n) all.0 c.receive refl) ∙ poll-none n cs p all.1
  where
    freed_pair : Bool → QueuePair
    freed_pair true = record p { receives = option_map (after_retire c.place) p.receives }
    freed_pair false = record p { sends = after_retire c.place p.sends }

    by : (g : Bool) → (g ≡ true → (c.receive ≡ true) × (p.receives ≡ None)) → (r : Bool) → c.receive ≡ r → (if g then freed_pair r else p) ≡ p
    by false none r e = refl
    by true none true e = ap (λ o. record p { receives = o }) (ap (option_map (after_retire c.place)) (none refl).1 ∙ sym (none refl).1)
    by true none false e = absurd (true≢false (sym (none refl).0 ∙ e))

-- a shared receive queue after a poll
srq-depth : (cq : CompletionQueue) (t : ℕ) (xs : List Completion) (s : SharedReceives) → (receives_after_poll cq t xs s).depth ≡ s.depth
srq-depth cq t [] s = refl
srq-depth cq t (c ∷ cs) s = srq-depth cq t cs _ ∙ by (option_eq (λ a b. a == b) (source_of_completion cq c) (Some t))
  where
    by : (b : Bool) → (if b then after_receive_retire c.place s else s).depth ≡ s.depth
    by true = refl
    by false = refl

srq-sequence : (cq : CompletionQueue) (t : ℕ) (xs : List Completion) (s : SharedReceives) → Ascend 0 s.next (s.taken ++ map (λ r. r.place) s.waiting)
    → Ascend 0 (receives_after_poll cq t xs s).next ((receives_after_poll cq t xs s).taken ++ map (λ r. r.place) (receives_after_poll cq t xs s).waiting)
srq-sequence cq t [] s all = all
srq-sequence cq t (c ∷ cs) s all = srq-sequence cq t cs (if option_eq (λ a b. a == b) (source_of_completion cq c) (Some t) then after_receive_retire c.place s else s) (by (option_eq (λ a b. a == b) (source_of_completion cq c) (Some t)))
  where
    by : (b : Bool) → Ascend 0 (if b then after_receive_retire c.place s else s).next ((if b then after_receive_retire c.place s else s).taken ++ map (λ r. r.place) (if b then after_receive_retire c.place s else s).waiting)
    by true = ascend-filter 0 s.next (λ x. not (x == c.place)) s.taken (map (λ r. r.place) s.waiting) all
    by false = all

-- a place that none of these frees stays taken
srq-taken : (cq : CompletionQueue) (t : ℕ) (xs : List Completion) (s : SharedReceives) (x : ℕ) → AllByRecursion (λ c. source_of_completion cq c ≡ Some t → (x == c.place) ≡ false) xs
    → is_in x s.taken ≡ true → is_in x (receives_after_poll cq t xs s).taken ≡ true
srq-taken cq t [] s x all is = is
srq-taken cq t (c ∷ cs) s x all is = srq-taken cq t cs (if option_eq (λ a b. a == b) (source_of_completion cq c) (Some t) then after_receive_retire c.place s else s) x all.1
    (by (source_of_completion cq c) refl)
  where
    at : (u : ℕ) → source_of_completion cq c ≡ Some u → (b : Bool) → (u == t) ≡ b → is_in x (if b then after_receive_retire c.place s else s).taken ≡ true
    at u e true f = in-filter x c.place s.taken (all.0 (e ∙ ap Some (eqb-true u t f))) is
    at u e false f = is

    by : (o : Option ℕ) → source_of_completion cq c ≡ o → is_in x (if option_eq (λ a b. a == b) o (Some t) then after_receive_retire c.place s else s).taken ≡ true
    by None e = is
    by (Some u) e = at u e (u == t) refl

-- the source of a completion is that of a user
pub source-takes : (uses : QueueId → Option Use) (depths : Slot → Option ℕ) (s : Slot) (rs : List Reservation) (n : QueueId) (t : ℕ) → AllByRecursion (λ r. IsDue uses depths s r.who r.room) rs
    → source_in rs n ≡ Some t → TakesFrom s t (uses n)
source-takes uses depths s [] n t due is = absurd (true≢false (sym (ap is_some is)))
source-takes uses depths s (r ∷ rs) n t due is = by (queue_eq (user_of r.who) n) refl is (source-takes uses depths s rs n t due.1)
  where
    in-use : (k room : ℕ) (u : Option Use) → Has (λ u. (u.recv_cq ≡ s) × (u.srq ≡ Some (record s { slot = k })) × (depths (record s { slot = k }) ≡ Some room)) u → k ≡ t → TakesFrom s t u
    in-use k room None due same = absurd due
    in-use k room (Some u) due same = (due.0, due.1 ∙ ap (λ k. Some (record s { slot = k })) same)

    at : (who : Reserve) (room : ℕ) → user_of who ≡ n → IsDue uses depths s who room → option_or (source_of who) (source_in rs n) ≡ Some t → (source_in rs n ≡ Some t → TakesFrom s t (uses n)) → TakesFrom s t (uses n)
    at (Sends m) room of due is rest = rest is
    at (Receives m) room of due is rest = rest is
    at (Shared k m) room of due is rest = subst (λ m. TakesFrom s t (uses m)) of (in-use k room (uses m) due (some-same k t is))

    by : (b : Bool) → queue_eq (user_of r.who) n ≡ b → (if b then option_or (source_of r.who) (source_in rs n) else source_in rs n) ≡ Some t → (source_in rs n ≡ Some t → TakesFrom s t (uses n)) → TakesFrom s t (uses n)
    by true e is rest = at r.who r.room (queue-path (user_of r.who) n e) due.0 is rest
    by false e is rest = rest is

-- a queue pair that takes its receives of a shared receive queue has none of its own
pub takes-none : (c : Configuration) (w : World) (s : Slot) (t : ℕ) (n : QueueId) (q : QueuePair) → IsSoundWorld c w → w.queue n ≡ Present q
    → TakesFrom s t (use_of (w.queue n)) → q.receives ≡ None
takes-none c w s t n q sound is from = none q.receives ((sound-queue c w n q sound is).source ∙ own q.srq refl (ap is_some (subst (λ z. TakesFrom s t (use_of z)) is from).1))
  where
    own : (o : Option ℕ) → q.srq ≡ o → is_some (option_map (srq_of q) o) ≡ true → is_none q.srq ≡ false
    own None e has = absurd (true≢false (sym has))
    own (Some t) e has = ap is_none e

    none : (o : Option (WorkQueue RecvRequest)) → is_some o ≡ false → o ≡ None
    none None e = refl
    none (Some r) e = absurd (true≢false e)

-- a completion that has a source is of a receive
pub source-receive : (cq : CompletionQueue) (c : Completion) (t : ℕ) → source_of_completion cq c ≡ Some t → (c.receive ≡ true) × (source_in cq.reservations c.queue ≡ Some t)
source-receive cq c t is = by c.receive refl is
  where
    by : (b : Bool) → c.receive ≡ b → (if b then source_in cq.reservations c.queue else None) ≡ Some t → (c.receive ≡ true) × (source_in cq.reservations c.queue ≡ Some t)
    by true e is = (e, is)
    by false e is = absurd (true≢false (sym (ap is_some is)))

take-drop : {A : Type 0} (n : ℕ) (xs : List A) → take n xs ++ drop (length (take n xs)) xs ≡ xs
take-drop zero xs = refl
take-drop (suc n) [] = refl
take-drop (suc n) (x ∷ xs) = ap (λ ys. x ∷ ys) (take-drop n xs)

distinct-apart : (xs ys : List ℕ) (x : ℕ) → AreDistinct (xs ++ ys) → is_in x xs ≡ true → is_in x ys ≡ false
distinct-apart [] ys x distinct is = absurd (true≢false (sym is))
distinct-apart (z ∷ zs) ys x distinct is = by (z == x) refl is (distinct-apart zs ys x distinct.1)
  where
    by : (b : Bool) → (z == x) ≡ b → (b || is_in x zs) ≡ true → (is_in x zs ≡ true → is_in x ys ≡ false) → is_in x ys ≡ false
    by true e is rest = ap (λ y. is_in y ys) (sym (eqb-true z x e)) ∙ (or_parts (is_in z zs) (is_in z ys) (sym (in-append z zs ys) ∙ distinct.0)).1
    by false e is rest = rest is

all-self : (xs : List ℕ) → AllByRecursion (λ x. is_in x xs ≡ true) xs
all-self [] = record {}
all-self (x ∷ xs) = (or_left (x == x) (is_in x xs) (eq-eqb x x refl), all-map (λ y. is_in y xs ≡ true) (λ y. is_in y (x ∷ xs) ≡ true) (λ y is. or_right (x == y) (is_in y xs) is) xs (all-self xs))

none-before : (xs ys : List ℕ) → xs ++ ys ≡ [] → xs ≡ []
none-before [] ys e = refl
none-before (x ∷ xs) ys e = absurd (by (ap length e))
  where
    by : suc (length (xs ++ ys)) ≡ 0 → ⊥
    by e = absurd (omega (arith, e))

-- the completions that are taken, and those that are left
record IsTaken (c : Configuration) (w : World) (s : Slot) (cq : CompletionQueue) (xs rest : List Completion) : Type 0 where
  pub at : IsAt c w s cq
  pub split : cq.waiting ≡ xs ++ rest

-- a completion queue with what is left
abbrev left_in : World → Slot → CompletionQueue → List Completion → Slot → Option CompletionQueue
left_in w s cq rest = with_at slot_eq w.cq s (Some (record cq { waiting = rest }))

-- the places of a side are those that are taken, and those that are left
sides-split : (c : Configuration) (w : World) (s : Slot) (cq : CompletionQueue) (xs rest : List Completion) (q : QueuePair) (b : Bool) → IsTaken c w s cq xs rest → w.queue q.queue ≡ Present q
    → places_of_side q.queue b (waits_in w.cq (side_of q b)) ≡ places_of_side q.queue b xs ++ places_of_side q.queue b (waits_in (left_in w s cq rest) (side_of q b))
sides-split c w s cq xs rest q b taken there = by (slot_eq s (side_of q b)) refl
  where
    in-queue : QueueSlot → Slot
    in-queue (NoQueue incarnation timers) = s
    in-queue (Present p) = side_of p b

    swap : (z : Bool) → slot_eq (side_of q b) s ≡ z → slot_eq s (side_of q b) ≡ false → z ≡ false
    swap false e f = refl
    swap true e f = absurd (true≢false (sym (slot-refl s) ∙ (ap (slot_eq s) (sym (slot-path (side_of q b) s e)) ∙ f)))

    by : (z : Bool) → slot_eq s (side_of q b) ≡ z → places_of_side q.queue b (waits_in w.cq (side_of q b))
        ≡ places_of_side q.queue b xs ++ places_of_side q.queue b (option_map_or (λ v. v.waiting) (if z then Some (record cq { waiting = rest }) else w.cq (side_of q b)) [])
    by true e = ap (λ t. places_of_side q.queue b (waits_in w.cq t)) (sym (slot-path s (side_of q b) e)) ∙ (ap (λ o. places_of_side q.queue b (option_map_or (λ (v : CompletionQueue). v.waiting) o [])) taken.at.there
        ∙ (ap (places_of_side q.queue b) taken.split ∙ side-append q.queue b xs rest))
    by false e = ap (λ zs. zs ++ places_of_side q.queue b (waits_in w.cq (side_of q b))) (sym (none-before (places_of_side q.queue b xs) (places_of_side q.queue b rest)
        (sym (ap (places_of_side q.queue b) taken.split ∙ side-append q.queue b xs rest)
        ∙ side-empty c w s cq q.queue b taken.at.sound taken.at.there (λ p here. ap (λ z. slot_eq (in-queue z) s) (sym here ∙ there) ∙ swap (slot_eq (side_of q b) s) refl e))))

-- a completion that is taken of a shared receive queue is of a place that its queue pair holds
source-held : (c : Configuration) (w : World) (s : Slot) (cq : CompletionQueue) (xs rest : List Completion) (t : ℕ) (x : Completion) → (taken : IsTaken c w s cq xs rest)
    → is_in x.place (places_of_side x.queue true xs) ≡ true → source_of_completion cq x ≡ Some t → taken.at.room.holder (record s { slot = t }) x.place ≡ x.queue
source-held c w s cq xs rest t x taken member is = (all-in (λ y. (is_in y (taken_in (w.srq (record s { slot = t }))) ≡ true) × (taken.at.room.holder (record s { slot = t }) y ≡ x.queue)) x.place
    (places_of_side x.queue true cq.waiting)
    (user-held c w s cq t x.queue taken.at (source-takes (λ n. use_of (w.queue n)) (λ t. depth_of (w.srq t)) s cq.reservations x.queue t (at-due c w s cq taken.at) (source-receive cq x t is).1)).1
    (ap (λ zs. is_in x.place (places_of_side x.queue true zs)) taken.split ∙ (ap (is_in x.place) (side-append x.queue true xs rest)
    ∙ (in-append x.place (places_of_side x.queue true xs) (places_of_side x.queue true rest) ∙ or_left (is_in x.place (places_of_side x.queue true xs)) (is_in x.place (places_of_side x.queue true rest)) member)))).1

-- what is left of a queue pair's places is none of those that are freed
left-apart : (c : Configuration) (w : World) (s : Slot) (cq : CompletionQueue) (xs rest : List Completion) (n : QueueId) (T : Slot) (behind : List ℕ) (x : ℕ) → (taken : IsTaken c w s cq xs rest)
    → record s { slot = T.slot } ≡ T → AreDistinct (places_of_side n true xs ++ behind) → is_in x behind ≡ true → taken.at.room.holder T x ≡ n
    → AllByRecursion (λ c. source_of_completion cq c ≡ Some T.slot → (x == c.place) ≡ false) xs
left-apart c w s cq xs rest n T behind x taken same distinct is held = all-map
    (λ y. (n : QueueId) → is_of n true y ≡ true → is_in y.place (places_of_side n true xs) ≡ true)
    (λ y. source_of_completion cq y ≡ Some T.slot → (x == y.place) ≡ false) one xs (members xs)
  where
    one : (y : Completion) → ((n : QueueId) → is_of n true y ≡ true → is_in y.place (places_of_side n true xs) ≡ true) → source_of_completion cq y ≡ Some T.slot → (x == y.place) ≡ false
    one y member source = by (x == y.place) refl
      where
        own : is_in y.place (places_of_side y.queue true xs) ≡ true
        own = member y.queue (ap₂ (λ a b. a && bool_eq b true) (queue-refl y.queue) (source-receive cq y T.slot source).0)

        holds : taken.at.room.holder T y.place ≡ y.queue
        holds = ap (λ t. taken.at.room.holder t y.place) (sym same) ∙ source-held c w s cq xs rest T.slot y taken own source

        by : (b : Bool) → (x == y.place) ≡ b → b ≡ false
        by false e = refl
        by true e = absurd (true≢false (sym is ∙ distinct-apart (places_of_side n true xs) behind x distinct
            (ap (λ z. is_in z (places_of_side n true xs)) (eqb-true x y.place e) ∙ subst (λ m. is_in y.place (places_of_side m true xs) ≡ true) (sym holds ∙ (ap (taken.at.room.holder T) (sym (eqb-true x y.place e)) ∙ held)) own)))

-- a shared receive queue of which something is freed is of this domain
frees-domain : (cq : CompletionQueue) (s T : Slot) (xs : List Completion) → list_any (frees_shared cq s T) xs ≡ true → record s { slot = T.slot } ≡ T
frees-domain cq s T [] is = absurd (true≢false (sym is))
frees-domain cq s T (c ∷ cs) is = by (source_of_completion cq c) is (frees-domain cq s T cs)
  where
    at : (t : ℕ) (b : Bool) → slot_eq (record s { slot = t }) T ≡ b → (b || list_any (frees_shared cq s T) cs) ≡ true → (list_any (frees_shared cq s T) cs ≡ true → record s { slot = T.slot } ≡ T) → record s { slot = T.slot } ≡ T
    at t true e is rest = ap (λ (k : ℕ). record s { slot = k }) (sym (ap (λ (z : Slot). z.slot) (slot-path (record s { slot = t }) T e))) ∙ slot-path (record s { slot = t }) T e
    at t false e is rest = rest is

    by : (o : Option ℕ) → (option_map_or (λ t. slot_eq (record s { slot = t }) T) o false || list_any (frees_shared cq s T) cs) ≡ true → (list_any (frees_shared cq s T) cs ≡ true → record s { slot = T.slot } ≡ T) → record s { slot = T.slot } ≡ T
    by None is rest = rest is
    by (Some t) is rest = at t (slot_eq (record s { slot = t }) T) refl is rest

-- what holds of a shared receive queue after a poll
record IsFreedSlot (before after : SrqSlot) (cq : CompletionQueue) (t : ℕ) (xs : List Completion) : Type 0 where
  pub depth : depth_of after ≡ depth_of before
  pub users : after.users ≡ before.users
  pub sequence : IsInSequence before → IsInSequence after
  pub taken : (x : ℕ) → AllByRecursion (λ c. source_of_completion cq c ≡ Some t → (x == c.place) ≡ false) xs → is_in x (taken_in before) ≡ true → is_in x (taken_in after) ≡ true

slot-is-freed : (slot : SrqSlot) (cq : CompletionQueue) (t : ℕ) (xs : List Completion) → IsFreedSlot slot (slot_freed cq xs t slot) cq t xs
slot-is-freed slot cq t xs = record { depth = depth slot.srq; users = refl; sequence = sequence slot.srq; taken = λ x all. taken slot.srq x all }
  where
    depth : (o : Option SharedReceives) → option_map (λ (s : SharedReceives). s.depth) (option_map (receives_after_poll cq t xs) o) ≡ option_map (λ (s : SharedReceives). s.depth) o
    depth None = refl
    depth (Some s) = ap Some (srq-depth cq t xs s)

    sequence : (o : Option SharedReceives) → IfSome o (λ s. Ascend 0 s.next (s.taken ++ map (λ r. r.place) s.waiting)) → IfSome (option_map (receives_after_poll cq t xs) o) (λ s. Ascend 0 s.next (s.taken ++ map (λ r. r.place) s.waiting))
    sequence None all = record {}
    sequence (Some s) all = srq-sequence cq t xs s all

    taken : (o : Option SharedReceives) (x : ℕ) → AllByRecursion (λ c. source_of_completion cq c ≡ Some t → (x == c.place) ≡ false) xs → is_in x (option_map_or (λ s. s.taken) o []) ≡ true
        → is_in x (option_map_or (λ s. s.taken) (option_map (receives_after_poll cq t xs) o) []) ≡ true
    taken None x all is = is
    taken (Some s) x all is = srq-taken cq t xs s x all is

-- the world after a poll has room
polled-room : (c : Configuration) (w : World) (s : Slot) (cq : CompletionQueue) (xs rest : List Completion) → (taken : IsTaken c w s cq xs rest)
    → HasRoom (put_all (map (freed w s cq xs) xs) (put w (Cq_of s) (Some (record cq { waiting = rest }))))
polled-room c w s cq xs rest taken = subst (λ f. HaveRoom v.queue f v.srq) (sym (cqs-freed w s cq xs xs first)) (record {
  reserved = same-reserved w.queue v.queue w.cq now w.srq v.srq (record {
    uses = λ n. ap use_of (queue-is n) ∙ uses n (w.queue n);
    rooms = with-same rooms_of w.cq s (Some (record cq { waiting = rest })) (ap rooms_of (sym taken.at.there));
    depths = λ T. (shared T).depth;
    users = λ T. (shared T).users;
  }) room.reserved;
  sequence = λ T. (shared T).sequence (room.sequence T);
  holder = room.holder;
  places = λ n. subst (IsSlotInPlace now v.srq room.holder) (sym (queue-is n)) (places n (w.queue n) refl);
})
  where
    room : HasRoom w
    room = taken.at.room

    first : World
    first = put w (Cq_of s) (Some (record cq { waiting = rest }))

    v : World
    v = put_all (map (freed w s cq xs) xs) first

    now : Slot → Option CompletionQueue
    now = left_in w s cq rest

    -- a queue pair none of whose own places is freed
    not-freed : (n : QueueId) (q : QueuePair) → w.queue n ≡ Present q → AllByRecursion (λ c. frees_queue cq n c ≡ false) xs
        → AllByRecursion (λ c. queue_eq c.queue n ≡ true → (c.receive ≡ true) × (q.receives ≡ None)) xs
    not-freed n q is all = all-map (λ c. frees_queue cq n c ≡ false) (λ c. queue_eq c.queue n ≡ true → (c.receive ≡ true) × (q.receives ≡ None)) one xs all
      where
        one : (x : Completion) → frees_queue cq n x ≡ false → queue_eq x.queue n ≡ true → (x.receive ≡ true) × (q.receives ≡ None)
        one x e same = at (source_of_completion cq x) refl
          where
            at : (o : Option ℕ) → source_of_completion cq x ≡ o → (x.receive ≡ true) × (q.receives ≡ None)
            at None f = absurd (true≢false (sym (ap₂ (λ a b. is_none a && b) f same) ∙ e))
            at (Some t) f = (
              (source-receive cq x t f).0,
              takes-none c w s t n q taken.at.sound is (subst (λ m. TakesFrom s t (use_of (w.queue m))) (queue-path x.queue n same)
                  (source-takes (λ n. use_of (w.queue n)) (λ t. depth_of (w.srq t)) s cq.reservations x.queue t (at-due c w s cq taken.at) (source-receive cq x t f).1)),
            )

    same-slot : (n : QueueId) (z : QueueSlot) → w.queue n ≡ z → AllByRecursion (λ c. frees_queue cq n c ≡ false) xs → z ≡ slot_after_poll n xs z
    same-slot n (NoQueue incarnation timers) is all = refl
    same-slot n (Present q) is all = ap Present (sym (poll-none n xs q (not-freed n q is all)))

    queue-is : (n : QueueId) → v.queue n ≡ slot_after_poll n xs (w.queue n)
    queue-is n = queues-freed w s cq xs xs first n ∙ by (list_any (frees_queue cq n) xs) refl
      where
        by : (b : Bool) → list_any (frees_queue cq n) xs ≡ b → (if b then slot_after_poll n xs (w.queue n) else w.queue n) ≡ slot_after_poll n xs (w.queue n)
        by true e = refl
        by false e = same-slot n (w.queue n) refl (none-of (frees_queue cq n) xs e)

    uses : (n : QueueId) (z : QueueSlot) → use_of (slot_after_poll n xs z) ≡ use_of z
    uses n (NoQueue incarnation timers) = refl
    uses n (Present q) = (poll-beside n xs q).uses

    -- a shared receive queue after the poll, which is freed in part where it is of this domain
    shared : (T : Slot) → IsFreedSlot (w.srq T) (v.srq T) cq T.slot xs
    shared T = subst (λ z. IsFreedSlot (w.srq T) z cq T.slot xs) (sym (shared-freed w s cq xs xs first T)) (by (list_any (frees_shared cq s T) xs))
      where
        by : (b : Bool) → IsFreedSlot (w.srq T) (if b then slot_freed cq xs T.slot (w.srq T) else w.srq T) cq T.slot xs
        by true = slot-is-freed (w.srq T) cq T.slot xs
        by false = record { depth = refl; users = refl; sequence = λ all. all; taken = λ x all is. is }

    stays : (T : Slot) (x : ℕ) → (record s { slot = T.slot } ≡ T → AllByRecursion (λ c. source_of_completion cq c ≡ Some T.slot → (x == c.place) ≡ false) xs)
        → is_in x (taken_in (w.srq T)) ≡ true → is_in x (taken_in (v.srq T)) ≡ true
    stays T x apart is = by (list_any (frees_shared cq s T) xs) refl
      where
        by : (b : Bool) → list_any (frees_shared cq s T) xs ≡ b → is_in x (taken_in (v.srq T)) ≡ true
        by true e = (shared T).taken x (apart (frees-domain cq s T xs e)) is
        by false e = ap (λ z. is_in x (taken_in z)) (shared-freed w s cq xs xs first T ∙ ap (λ b. if b then slot_freed cq xs T.slot (w.srq T) else w.srq T) e) ∙ is

    -- a queue pair after the poll
    pair : (q : QueuePair) → w.queue q.queue ≡ Present q → IsInPlace w.cq w.srq room.holder q → IsInPlace now v.srq room.holder (after_poll q.queue xs q)
    pair q there place = by (poll-beside q.queue xs q)
      where
        p : QueuePair
        p = after_poll q.queue xs q

        by : IsSameBeside q p → IsInPlace now v.srq room.holder p
        by same = record {
          sends = subst (λ n. Ascend p.sends.first p.requester.oldest (places_of_side n false (waits_in now (send_cq_of p)))) (sym same.queue)
              (subst (λ t. Ascend p.sends.first p.requester.oldest (places_of_side q.queue false (waits_in now t))) (sym same.send)
              (subst (λ o. Ascend p.sends.first o (places_of_side q.queue false (waits_in now (send_cq_of q)))) (sym same.oldest)
              (poll-sends q.queue xs q q.requester.oldest (places_of_side q.queue false (waits_in now (send_cq_of q)))
              (subst (Ascend q.sends.first q.requester.oldest) (sides-split c w s cq xs rest q false taken there) place.sends))));
          receives = subst (λ n. IfSome p.receives (λ r. Ascend r.first (first_held r p.responder.message) (places_of_side n true (waits_in now (recv_cq_of p))))) (sym same.queue)
              (subst (λ t. IfSome p.receives (λ r. Ascend r.first (first_held r p.responder.message) (places_of_side q.queue true (waits_in now t)))) (sym same.recv)
              (subst (λ m. IfSome p.receives (λ r. Ascend r.first (first_held r m) (places_of_side q.queue true (waits_in now (recv_cq_of q))))) (sym same.message)
              (poll-receives q.queue xs q (places_of_side q.queue true (waits_in now (recv_cq_of q)))
              (subst (OwnAscend q.receives (λ r. first_held r q.responder.message)) (sides-split c w s cq xs rest q true taken there) place.receives))));
          shared = subst (λ o. IfSome o (λ t. AreHeld room.holder p.queue (srq_of p t) (taken_in (v.srq (srq_of p t))) (places_kept now p))) (sym same.srq) (held q.srq place.shared);
        }
          where
            behind : List ℕ
            behind = places_of_side q.queue true (waits_in now (recv_cq_of q)) ++ places_in_use q.responder.message

            kept : places_kept w.cq q ≡ places_of_side q.queue true xs ++ behind
            kept = ap (λ zs. zs ++ places_in_use q.responder.message) (sides-split c w s cq xs rest q true taken there)
                ∙ append_assoc (places_of_side q.queue true xs) (places_of_side q.queue true (waits_in now (recv_cq_of q))) (places_in_use q.responder.message)

            kept-now : places_kept now p ≡ behind
            kept-now = ap₂ (λ n t. places_of_side n true (waits_in now t) ++ places_in_use p.responder.message) same.queue same.recv
                ∙ ap (λ m. places_of_side q.queue true (waits_in now (recv_cq_of q)) ++ places_in_use m) same.message

            left : (T : Slot) → AreHeld room.holder q.queue T (taken_in (w.srq T)) (places_of_side q.queue true xs ++ behind) → AreHeld room.holder q.queue T (taken_in (v.srq T)) behind
            left T all = (
              distinct-behind (places_of_side q.queue true xs) behind all.0,
              all-zip (λ x. is_in x behind ≡ true) (λ x. (is_in x (taken_in (w.srq T)) ≡ true) × (room.holder T x ≡ q.queue)) (λ x. (is_in x (taken_in (v.srq T)) ≡ true) × (room.holder T x ≡ q.queue))
                  (λ x is two. (stays T x (λ domain. left-apart c w s cq xs rest q.queue T behind x taken domain all.0 is two.1) two.0, two.1)) behind (all-self behind)
                  (all-behind (λ x. (is_in x (taken_in (w.srq T)) ≡ true) × (room.holder T x ≡ q.queue)) (places_of_side q.queue true xs) behind all.1),
            )

            held : (o : Option ℕ) → IfSome o (λ t. AreHeld room.holder q.queue (srq_of q t) (taken_in (w.srq (srq_of q t))) (places_kept w.cq q))
                → IfSome o (λ t. AreHeld room.holder p.queue (srq_of p t) (taken_in (v.srq (srq_of p t))) (places_kept now p))
            held None all = record {}
            held (Some t) all = subst (λ n. AreHeld room.holder n (srq_of p t) (taken_in (v.srq (srq_of p t))) (places_kept now p)) (sym same.queue)
                (subst (λ T. AreHeld room.holder q.queue T (taken_in (v.srq T)) (places_kept now p)) (sym (same.shared t))
                (subst (AreHeld room.holder q.queue (srq_of q t) (taken_in (v.srq (srq_of q t)))) (sym kept-now)
                (left (srq_of q t) (subst (AreHeld room.holder q.queue (srq_of q t) (taken_in (w.srq (srq_of q t)))) kept all))))

    places : (n : QueueId) (z : QueueSlot) → w.queue n ≡ z → IsSlotInPlace now v.srq room.holder (slot_after_poll n xs z)
    places n (NoQueue incarnation timers) is = record {}
    places n (Present q) is = subst (λ m. IsInPlace now v.srq room.holder (after_poll m xs q)) named
        (pair q (ap w.queue named ∙ is) (subst (IsSlotInPlace w.cq w.srq room.holder) is (room.places n)))
      where
        named : q.queue ≡ n
        named = sound-named c w taken.at.sound n q is

pub room-poll : (c : Configuration) (w : World) (call : Call) (s : Slot) (n least : ℕ) → IsSoundWorld c w → HasRoom w → EndsIn w (LeavesRoom w) (poll_plan call s n least)
room-poll c w call s n least sound room = walk-poll w (LeavesRoom w) call s n least room (λ cq is.
    places-end w (LeavesRoom w) s cq (take n cq.waiting) (take n cq.waiting) _
    (polled-room c w s cq (take n cq.waiting) (drop (length (take n cq.waiting)) cq.waiting) (record { at = record { sound = sound; room = room; there = is }; split = sym (take-drop n cq.waiting) })))
