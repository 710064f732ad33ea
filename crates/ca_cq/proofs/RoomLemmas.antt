-- Lemmas on the room of reservations: where a completion's reservation has room left, the queue has. For proofs only.
use Rattle.std.proofs.Common.{◌≡◌, ℕ, ◌+◌, ◌<◌, ◌≤◌, ◌==◌, ◌&&◌, ◌||◌, Bool, true, false, List, [], ◌∷◌, filter, length, Option, None, Some, IfSome, is_some, if◌then◌else◌, refl, arith, sym, ◌∙◌, ap, ap₂, true≢false}
use Rattle.std.proofs.lemmas.Bool.{and_parts, eq-eqb, eqb-true}
use Rattle.std.specs.List.{AllByRecursion, list_any}
use Rattle.std.specs.Option.{option_map_or}
use Rattle.ca_base.specs.declared.completion.Completion.{Completion}
use Rattle.ca_keys.specs.declared.names.QueueId.{QueueId}
use Rattle.ca_base.specs.declared.reserve.Reserve.{Reserve}
use Rattle.ca_base.specs.declared.reserve.Reserve.TheVariants.{Sends, Receives, Shared}
use Rattle.ca_keys.specs.Equal.{queue_eq}
use Rattle.ca_base.specs.declared.reserve.Reservation.{Reservation}
use Rattle.ca_base.specs.objects.CompletionQueue.{CompletionQueue, is_shared_in, room_reserved, source_of}
use Rattle.ca_cq.specs.Room.{HaveRoomOf, IsReserved, counts_against, has_room_left, is_of_side, reservation_of, share_room}
use Rattle.ca_cq.proofs.Rooms.{HaveRoom, all-map, all-stay, below-rooms, has_any, has_left, or-right, rooms, within-rooms}

number-swap : (a b : ℕ) → (a == b) ≡ (b == a)
number-swap a b = by (a == b) refl (b == a) refl
  where
    by : (c : Bool) → (a == b) ≡ c → (d : Bool) → (b == a) ≡ d → c ≡ d
    by true e true f = refl
    by true e false f = absurd (true≢false (sym (eq-eqb b a (sym (eqb-true a b e))) ∙ f))
    by false e true f = absurd (true≢false (sym (eq-eqb a b (sym (eqb-true b a f))) ∙ e))
    by false e false f = refl

pub queue-path : (a b : QueueId) → queue_eq a b ≡ true → a ≡ b
queue-path a b same = λ i. record {
  adapter = eqb-true a.adapter b.adapter (and_parts (a.adapter == b.adapter) (a.number == b.number) same).0 i;
  number = eqb-true a.number b.number (and_parts (a.adapter == b.adapter) (a.number == b.number) same).1 i;
}

pub queue-refl : (a : QueueId) → queue_eq a a ≡ true
queue-refl a = ap₂ (λ x y. x && y) (eq-eqb a.adapter a.adapter refl) (eq-eqb a.number a.number refl)

pub queue-swap : (a b : QueueId) → queue_eq a b ≡ queue_eq b a
queue-swap a b = ap₂ (λ x y. x && y) (number-swap a.adapter b.adapter) (number-swap a.number b.number)

-- two reservations are for one shared receive queue
abbrev pub are_for_one : Reserve → Reserve → Bool
are_for_one (Sends queue) b = false
are_for_one (Receives queue) b = false
are_for_one (Shared s user) b = option_map_or (λ t. t == s) (source_of b) false

-- those for one shared receive queue have their room together
one-shares : (a b : Reserve) → are_for_one a b ≡ true → share_room a b ≡ true
one-shares (Sends queue) b one = absurd (true≢false (sym one))
one-shares (Receives queue) b one = absurd (true≢false (sym one))
one-shares (Shared s user) (Sends queue) one = absurd (true≢false (sym one))
one-shares (Shared s user) (Receives queue) one = absurd (true≢false (sym one))
one-shares (Shared s user) (Shared t other) one = number-swap s t ∙ one

pub one-swap : (a b : Reserve) → are_for_one a b ≡ are_for_one b a
one-swap (Sends p) (Sends q) = refl
one-swap (Sends p) (Receives q) = refl
one-swap (Sends p) (Shared s user) = refl
one-swap (Receives p) (Sends q) = refl
one-swap (Receives p) (Receives q) = refl
one-swap (Receives p) (Shared s user) = refl
one-swap (Shared s user) (Sends q) = refl
one-swap (Shared s user) (Receives q) = refl
one-swap (Shared s user) (Shared t other) = number-swap t s

pub one-agrees : (a b : Reserve) → are_for_one a b ≡ true → (c : Reserve) → are_for_one a c ≡ are_for_one b c
one-agrees (Sends queue) b one c = absurd (true≢false (sym one))
one-agrees (Receives queue) b one c = absurd (true≢false (sym one))
one-agrees (Shared s user) (Sends queue) one c = absurd (true≢false (sym one))
one-agrees (Shared s user) (Receives queue) one c = absurd (true≢false (sym one))
one-agrees (Shared s user) (Shared t other) one c =
    ap (λ n. option_map_or (λ m. m == n) (source_of c) false) (sym (eqb-true t s one))

share-refl : (a : Reserve) → share_room a a ≡ true
share-refl (Sends queue) = queue-refl queue
share-refl (Receives queue) = queue-refl queue
share-refl (Shared s user) = eq-eqb s s refl

pub share-swap : (a b : Reserve) → share_room a b ≡ share_room b a
share-swap (Sends p) (Sends q) = queue-swap p q
share-swap (Sends p) (Receives q) = refl
share-swap (Sends p) (Shared s user) = refl
share-swap (Receives p) (Sends q) = refl
share-swap (Receives p) (Receives q) = queue-swap p q
share-swap (Receives p) (Shared s user) = refl
share-swap (Shared s user) (Sends q) = refl
share-swap (Shared s user) (Receives q) = refl
share-swap (Shared s user) (Shared t other) = number-swap s t

pub share-agrees : (a b : Reserve) → share_room a b ≡ true → (c : Reserve) → share_room a c ≡ share_room b c
share-agrees (Sends p) (Sends q) same c = ap (λ (x : QueueId). share_room (Sends x) c) (queue-path p q same)
share-agrees (Sends p) (Receives q) same c = absurd (true≢false (sym same))
share-agrees (Sends p) (Shared s user) same c = absurd (true≢false (sym same))
share-agrees (Receives p) (Sends q) same c = absurd (true≢false (sym same))
share-agrees (Receives p) (Receives q) same c = ap (λ (x : QueueId). share_room (Receives x) c) (queue-path p q same)
share-agrees (Receives p) (Shared s user) same c = absurd (true≢false (sym same))
share-agrees (Shared s user) (Sends q) same c = absurd (true≢false (sym same))
share-agrees (Shared s user) (Receives q) same c = absurd (true≢false (sym same))
share-agrees (Shared s user) (Shared t other) same (Sends q) = refl
share-agrees (Shared s user) (Shared t other) same (Receives q) = refl
share-agrees (Shared s user) (Shared t other) same (Shared m third) = ap (λ n. n == m) (eqb-true s t same)

-- two reservations are for one shared receive queue, and how much room one has
abbrev pub one_source : Reservation → Reservation → Bool
one_source a b = are_for_one a.who b.who

abbrev pub room_of : Reservation → ℕ
room_of r = r.room

shared-any : (rs : List Reservation) (a : Reserve) → is_shared_in rs a ≡ list_any (λ o. are_for_one a o.who) rs
shared-any rs (Sends queue) = sym (none-pass rs)
  where
    none-pass : (xs : List Reservation) → list_any (λ o. false) xs ≡ false
    none-pass [] = refl
    none-pass (x ∷ xs) = none-pass xs
shared-any rs (Receives queue) = sym (none-pass rs)
  where
    none-pass : (xs : List Reservation) → list_any (λ o. false) xs ≡ false
    none-pass [] = refl
    none-pass (x ∷ xs) = none-pass xs
shared-any [] (Shared s user) = refl
shared-any (r ∷ rs) (Shared s user) = by r.who r.room (shared-any rs (Shared s user))
  where
    by : (who : Reserve) (room : ℕ) → is_shared_in rs (Shared s user) ≡ list_any (λ o. are_for_one (Shared s user) o.who) rs
        → is_shared_in (record { who = who; room = room } ∷ rs) (Shared s user) ≡ (are_for_one (Shared s user) who || list_any (λ o. are_for_one (Shared s user) o.who) rs)
    by (Sends q) room rest = rest
    by (Receives q) room rest = rest
    by (Shared t other) room rest = ap (λ b. (t == s) || b) rest

-- what is reserved is the rooms of the reservations
pub rooms-reserved : (rs : List Reservation) → room_reserved rs ≡ rooms one_source room_of rs
rooms-reserved [] = refl
rooms-reserved (r ∷ rs) = ap₂ (λ b n. (if b then 0 else r.room) + n) (shared-any rs r.who) (rooms-reserved rs)

-- what a completion counts against is the same of all that have their room together
pub counts-agree : (rs : List Reservation) (a b : Reserve) → share_room a b ≡ true → (c : Completion) → counts_against rs a c ≡ counts_against rs b c
counts-agree rs a b same c = by (reservation_of rs c)
  where
    by : (o : Option Reservation) → option_map_or (λ r. share_room r.who a) o false ≡ option_map_or (λ r. share_room r.who b) o false
    by None = refl
    by (Some r) = share-swap r.who a ∙ (share-agrees a b same r.who ∙ share-swap b r.who)

-- the reservation of a completion is one of them
pub own-any : (p : Reservation → Bool) (rs : List Reservation) (c : Completion) → option_map_or p (reservation_of rs c) false ≡ true → list_any p rs ≡ true
own-any p [] c is = is
own-any p (r ∷ rs) c is = by (is_of_side r.who c) is (own-any p rs c)
  where
    by : (b : Bool) → option_map_or p (if b then Some r else reservation_of rs c) false ≡ true → (option_map_or p (reservation_of rs c) false ≡ true → list_any p rs ≡ true) → (p r || list_any p rs) ≡ true
    by true is rest = ap (λ b. b || list_any p rs) is
    by false is rest = or-right (p r) (list_any p rs) (rest is)

pub own-all : (P : Reservation → Type 0) (rs : List Reservation) (c : Completion) → AllByRecursion P rs → IfSome (reservation_of rs c) P
own-all P [] c all = record {}
own-all P (r ∷ rs) c all = by (is_of_side r.who c) (own-all P rs c all.1)
  where
    by : (b : Bool) → IfSome (reservation_of rs c) P → IfSome (if b then Some r else reservation_of rs c) P
    by true rest = all.0
    by false rest = rest

-- each of them has its room together with one of them
each-shares : (rs : List Reservation) → AllByRecursion (λ r. list_any (λ x. share_room r.who x.who) rs ≡ true) rs
each-shares [] = record {}
each-shares (r ∷ rs) = (
  ap (λ b. b || list_any (λ x. share_room r.who x.who) rs) (share-refl r.who),
  all-map (λ o. list_any (λ x. share_room o.who x.who) rs ≡ true) (λ o. (share_room o.who r.who || list_any (λ x. share_room o.who x.who) rs) ≡ true) (λ o. or-right (share_room o.who r.who) (list_any (λ x. share_room o.who x.who) rs)) rs (each-shares rs),
)

-- a completion that has a reservation counts against one
has-one : (rs : List Reservation) (c : Completion) → is_some (reservation_of rs c) ≡ true → has_any (λ r. counts_against rs r.who) rs c ≡ true
has-one rs c standing = by (reservation_of rs c) standing (own-all (λ r. list_any (λ x. share_room r.who x.who) rs ≡ true) rs c (each-shares rs))
  where
    by : (o : Option Reservation) → is_some o ≡ true → IfSome o (λ r. list_any (λ x. share_room r.who x.who) rs ≡ true) → list_any (λ x. option_map_or (λ r. share_room r.who x.who) o false) rs ≡ true
    by None standing shares = absurd (true≢false (sym standing))
    by (Some r) standing shares = shares

-- reservations with one room say the same of it, so those for one shared receive queue do
pub alike-sources : (rs : List Reservation) → AllByRecursion (λ r. HaveRoomOf r.who r.room rs) rs → AllByRecursion (HaveRoom one_source room_of rs) rs
alike-sources rs alike =
    all-map (λ r. HaveRoomOf r.who r.room rs) (HaveRoom one_source room_of rs) (λ r. all-map (λ o. share_room r.who o.who ≡ true → o.room ≡ r.room) (λ o. one_source r o ≡ true → o.room ≡ r.room) (λ o h one. h (one-shares r.who o.who one)) rs) rs alike

-- where the reservation of a completion has room left, fewer wait than the capacity
pub room-left : (q : CompletionQueue) (c : Completion) → IsReserved q → has_room_left q c ≡ true → length q.waiting < q.capacity
room-left q c reserved left =
    omega (arith, reserved.rooms, rooms-reserved q.reservations, all-stay (has_any counted q.reservations) q.waiting (all-map (λ x. is_some (reservation_of q.reservations x) ≡ true) (λ x. has_any counted q.reservations x ≡ true) (has-one q.reservations) q.waiting reserved.standing), below)
  where
    counted : Reservation → Completion → Bool
    counted r = counts_against q.reservations r.who

    below : length (filter (has_any counted q.reservations) q.waiting) < rooms one_source room_of q.reservations
    below =
        below-rooms one_source counted room_of q.waiting (λ a b one. counts-agree q.reservations a.who b.who (one-shares a.who b.who one)) q.reservations (alike-sources q.reservations reserved.alike) reserved.within (own-any (has_left counted room_of q.waiting) q.reservations c left)

-- where every reservation has room for what waits, no more wait than the capacity
pub waiting-fits : (q : CompletionQueue) → IsReserved q → length q.waiting ≤ q.capacity
waiting-fits q reserved =
    omega (arith, reserved.rooms, rooms-reserved q.reservations, all-stay (has_any counted q.reservations) q.waiting (all-map (λ x. is_some (reservation_of q.reservations x) ≡ true) (λ x. has_any counted q.reservations x ≡ true) (has-one q.reservations) q.waiting reserved.standing), within)
  where
    counted : Reservation → Completion → Bool
    counted r = counts_against q.reservations r.who

    within : length (filter (has_any counted q.reservations) q.waiting) ≤ rooms one_source room_of q.reservations
    within =
        within-rooms one_source counted room_of q.waiting (λ a b one. counts-agree q.reservations a.who b.who (one-shares a.who b.who one)) q.reservations reserved.within
