-- Lemmas on what keeps the room of reservations: reservations, puts, polls, removals and releases. For proofs only.
use Rattle.std.proofs.Common.{◌≡◌, ℕ, ◌+◌, ◌≤◌, ◌&&◌, ◌||◌, nat_lt, Bool, true, false, not, List, [], ◌∷◌, ◌++◌, drop, filter, length, Option, None, Some, IfSome, is_some, if◌then◌else◌, refl, arith, sym, ◌∙◌, ap, ap₂, true≢false}
use Rattle.std.proofs.lemmas.Bool.{and_parts, ltb-false, ltb-true, not-true, or_parts}
use Rattle.std.specs.List.{AllByRecursion, list_any}
use Rattle.std.specs.Option.{option_map_or}
use Rattle.ca_base.specs.declared.completion.Completion.{Completion}
use Rattle.ca_keys.specs.declared.names.QueueId.{QueueId}
use Rattle.ca_base.specs.declared.reserve.Reserve.{Reserve}
use Rattle.ca_keys.specs.Equal.{bool_eq, queue_eq}
use Rattle.ca_base.specs.declared.reserve.Reservation.{Reservation}
use Rattle.ca_base.specs.objects.CompletionQueue.{CompletionQueue, after_polls, after_puts, after_release, after_reserve, is_for_sends, is_same_side, is_too_small, room_reserved, user_of, with_reservation, without_completions}
use Rattle.ca_cq.specs.Room.{HaveRoomOf, IsReserved, count_against, counts_against, has_room_left, is_new_side, is_of_side, is_polled_side, reservation_of, share_room}
use Rattle.ca_cq.proofs.Rooms.{all-append, all-drop, all-filter, all-map, all-of, all-zip, drop-fewer, fewer, filter-fewer, filter-rooms, nobody, none-of, one-more}
use Rattle.ca_cq.proofs.RoomLemmas.{alike-sources, counts-agree, one-agrees, one-swap, one_source, own-all, own-any, queue-path, queue-refl, queue-swap, room_of, rooms-reserved, share-swap}

-- a queue in which fewer wait, each of them among those before, and as few against each reservation
fewer-wait : (q : CompletionQueue) (waiting : List Completion) → IsReserved q
    → AllByRecursion (λ c. is_some (reservation_of q.reservations c) ≡ true) waiting
    → ((who : Reserve) → length (filter (counts_against q.reservations who) waiting) ≤ count_against q who)
    → IsReserved (record q { waiting = waiting })
fewer-wait q waiting reserved standing less = record {
  standing = standing;
  within = all-map (λ r. count_against q r.who ≤ r.room) (λ r. length (filter (counts_against q.reservations r.who) waiting) ≤ r.room) (λ r h. omega (arith, h, less r.who)) q.reservations reserved.within;
  alike = reserved.alike;
  rooms = reserved.rooms;
}

pub after-polls : (n : ℕ) (q : CompletionQueue) → IsReserved q → IsReserved (after_polls n q)
after-polls n q reserved =
    fewer-wait q (drop n q.waiting) reserved (all-drop (λ c. is_some (reservation_of q.reservations c) ≡ true) n q.waiting reserved.standing) (λ who. drop-fewer (counts_against q.reservations who) n q.waiting)

pub without-completions : (queue : QueueId) (q : CompletionQueue) → IsReserved q → IsReserved (without_completions queue q)
without-completions queue q reserved =
    fewer-wait q (filter others q.waiting) reserved (all-filter (λ c. is_some (reservation_of q.reservations c) ≡ true) others q.waiting reserved.standing) (λ who. filter-fewer (counts_against q.reservations who) others q.waiting)
  where
    others : Completion → Bool
    others c = not (queue_eq c.queue queue)

-- what counts against a reservation, with one completion more that has room left, is still no more than its room
count-with : (q : CompletionQueue) (c : Completion) → has_room_left q c ≡ true → (r : Reservation) → count_against q r.who ≤ r.room
    → IfSome (reservation_of q.reservations c) (λ own. share_room own.who r.who ≡ true → r.room ≡ own.room)
    → count_against (after_puts (c ∷ []) q) r.who ≤ r.room
count-with q c left r within alike =
    by (reservation_of q.reservations c) left alike (one-more (counts_against q.reservations r.who) q.waiting c)
  where
    by : (o : Option Reservation) → option_map_or (λ own. nat_lt (count_against q own.who) own.room) o false ≡ true → IfSome o (λ own. share_room own.who r.who ≡ true → r.room ≡ own.room)
        → length (filter (counts_against q.reservations r.who) (q.waiting ++ c ∷ [])) ≡ count_against q r.who + (if option_map_or (λ own. share_room own.who r.who) o false then 1 else 0)
        → length (filter (counts_against q.reservations r.who) (q.waiting ++ c ∷ [])) ≤ r.room
    by None left alike more = absurd (true≢false (sym left))
    by (Some own) left alike more = at (share_room own.who r.who) refl more
      where
        at : (b : Bool) → share_room own.who r.who ≡ b → length (filter (counts_against q.reservations r.who) (q.waiting ++ c ∷ [])) ≡ count_against q r.who + (if b then 1 else 0)
            → length (filter (counts_against q.reservations r.who) (q.waiting ++ c ∷ [])) ≤ r.room
        at true same more =
            omega (arith, more, alike same, ltb-true (count_against q own.who) own.room left, fewer (counts_against q.reservations r.who) (counts_against q.reservations own.who) q.waiting (all-of (λ x. counts_against q.reservations r.who x ≡ true → counts_against q.reservations own.who x ≡ true) (λ x is. counts-agree q.reservations own.who r.who same x ∙ is) q.waiting))
        at false same more = omega (arith, more, within)

pub after-put : (c : Completion) (q : CompletionQueue) → IsReserved q → has_room_left q c ≡ true → IsReserved (after_puts (c ∷ []) q)
after-put c q reserved left = record {
  standing = all-append (λ x. is_some (reservation_of q.reservations x) ≡ true) q.waiting (c ∷ []) reserved.standing (stands (reservation_of q.reservations c) left, record {});
  within = all-zip (λ r. count_against q r.who ≤ r.room) Alike (λ r. count_against (after_puts (c ∷ []) q) r.who ≤ r.room) (λ r h alike. count-with q c left r h alike) q.reservations reserved.within (each (reservation_of q.reservations c) (own-all (λ own. HaveRoomOf own.who own.room q.reservations) q.reservations c reserved.alike));
  alike = reserved.alike;
  rooms = reserved.rooms;
}
  where
    stands : (o : Option Reservation) → option_map_or (λ own. nat_lt (count_against q own.who) own.room) o false ≡ true → is_some o ≡ true
    stands None is = absurd (true≢false (sym is))
    stands (Some own) is = refl

    Alike : Reservation → Type 0
    Alike r = IfSome (reservation_of q.reservations c) (λ own. share_room own.who r.who ≡ true → r.room ≡ own.room)

    each : (o : Option Reservation) → IfSome o (λ own. HaveRoomOf own.who own.room q.reservations)
        → AllByRecursion (λ r. IfSome o (λ own. share_room own.who r.who ≡ true → r.room ≡ own.room)) q.reservations
    each None h = all-of (λ r. Unit {0}) (λ r. record {}) q.reservations
    each (Some own) h = h

bool-path : (a b : Bool) → bool_eq a b ≡ true → a ≡ b
bool-path true b same = sym same
bool-path false true same = absurd (true≢false (sym same))
bool-path false false same = refl

bool-swap : (a b : Bool) → bool_eq a b ≡ bool_eq b a
bool-swap true true = refl
bool-swap true false = refl
bool-swap false true = refl
bool-swap false false = refl

-- of which side a completion is tells with which sides that side is the same
side-of : (a b : Reserve) (c : Completion) → is_of_side a c ≡ true → is_same_side a b ≡ is_of_side b c
side-of a b c is = by (and_parts (queue_eq (user_of a) c.queue) (bool_eq (is_for_sends a) (not c.receive)) is)
  where
    by : (queue_eq (user_of a) c.queue ≡ true) × (bool_eq (is_for_sends a) (not c.receive) ≡ true) → is_same_side a b ≡ is_of_side b c
    by parts =
        ap₂ (λ u s. queue_eq u (user_of b) && bool_eq s (is_for_sends b)) (queue-path (user_of a) c.queue parts.0) (bool-path (is_for_sends a) (not c.receive) parts.1)
        ∙ ap₂ (λ x y. x && y) (queue-swap c.queue (user_of b)) (bool-swap (not c.receive) (is_for_sends b))

-- the completions that wait have the same reservations among others, so as many count against each
same-count : (rs others : List Reservation) (waiting : List Completion) → AllByRecursion (λ c. reservation_of others c ≡ reservation_of rs c) waiting
    → (who : Reserve) → length (filter (counts_against others who) waiting) ≤ length (filter (counts_against rs who) waiting)
same-count rs others waiting same who =
    fewer (counts_against others who) (counts_against rs who) waiting (all-map (λ c. reservation_of others c ≡ reservation_of rs c) (λ c. counts_against others who c ≡ true → counts_against rs who c ≡ true) (λ c h is. ap (λ o. option_map_or (λ r. share_room r.who who) o false) (sym h) ∙ is) waiting same)

same-standing : (rs others : List Reservation) (waiting : List Completion) → AllByRecursion (λ c. reservation_of others c ≡ reservation_of rs c) waiting
    → AllByRecursion (λ c. is_some (reservation_of rs c) ≡ true) waiting → AllByRecursion (λ c. is_some (reservation_of others c) ≡ true) waiting
same-standing rs others waiting same standing =
    all-zip (λ c. reservation_of others c ≡ reservation_of rs c) (λ c. is_some (reservation_of rs c) ≡ true) (λ c. is_some (reservation_of others c) ≡ true) (λ c h is. ap is_some h ∙ is) waiting same standing

-- a completion that has a reservation is of no side that has none
not-new : (who : Reserve) (rs : List Reservation) (c : Completion) → AllByRecursion (λ r. is_same_side r.who who ≡ false) rs → is_some (reservation_of rs c) ≡ true → is_of_side who c ≡ false
not-new who [] c apart standing = absurd (true≢false (sym standing))
not-new who (r ∷ rs) c apart standing = by (is_of_side r.who c) refl standing (not-new who rs c apart.1)
  where
    by : (b : Bool) → is_of_side r.who c ≡ b → is_some (if b then Some r else reservation_of rs c) ≡ true → (is_some (reservation_of rs c) ≡ true → is_of_side who c ≡ false) → is_of_side who c ≡ false
    by true e standing rest = sym (side-of r.who who c e) ∙ apart.0
    by false e standing rest = rest standing

-- where a reservation has its room together with others, as many count against it as against them
with-others : (q : CompletionQueue) (who : Reserve) (room : ℕ) (rs : List Reservation) → list_any (λ r. share_room r.who who) rs ≡ true
    → AllByRecursion (λ r. count_against q r.who ≤ r.room) rs → HaveRoomOf who room rs → count_against q who ≤ room
with-others q who room [] any within alike = absurd (true≢false (sym any))
with-others q who room (r ∷ rs) any within alike = by (share_room r.who who) refl any (λ any. with-others q who room rs any within.1 alike.1)
  where
    by : (b : Bool) → share_room r.who who ≡ b → (b || list_any (λ o. share_room o.who who) rs) ≡ true → (list_any (λ o. share_room o.who who) rs ≡ true → count_against q who ≤ room) → count_against q who ≤ room
    by true e any rest =
        omega (arith, within.0, alike.0 (share-swap who r.who ∙ e), fewer (counts_against q.reservations who) (counts_against q.reservations r.who) q.waiting (all-of (λ c. counts_against q.reservations who c ≡ true → counts_against q.reservations r.who c ≡ true) (λ c is. counts-agree q.reservations r.who who e c ∙ is) q.waiting))
    by false e any rest = rest any

-- and where with none, none counts against it
with-none : (q : CompletionQueue) (who : Reserve) → list_any (λ r. share_room r.who who) q.reservations ≡ false → count_against q who ≤ 0
with-none q who none =
    omega (arith, nobody q.waiting, fewer (counts_against q.reservations who) (λ c. false) q.waiting (all-of (λ c. counts_against q.reservations who c ≡ true → false ≡ true) (λ c is. sym none ∙ own-any (λ r. share_room r.who who) q.reservations c is) q.waiting))

new-count : (q : CompletionQueue) (who : Reserve) (room : ℕ) → AllByRecursion (λ r. count_against q r.who ≤ r.room) q.reservations → HaveRoomOf who room q.reservations → count_against q who ≤ room
new-count q who room within alike = by (list_any (λ r. share_room r.who who) q.reservations) refl
  where
    by : (b : Bool) → list_any (λ r. share_room r.who who) q.reservations ≡ b → count_against q who ≤ room
    by true e = with-others q who room q.reservations e within alike
    by false e = omega (arith, with-none q who e)

pub after-reserve : (who : Reserve) (room : ℕ) (q : CompletionQueue) → IsReserved q → is_new_side who q ≡ true → HaveRoomOf who room q.reservations
    → is_too_small who room q ≡ false → IsReserved (after_reserve who room q)
after-reserve who room q reserved new alike fits = record {
  standing = same-standing q.reservations rs q.waiting same reserved.standing;
  within = (omega (arith, same-count q.reservations rs q.waiting same who, new-count q who room reserved.within alike), all-map (λ r. count_against q r.who ≤ r.room) (λ r. length (filter (counts_against rs r.who) q.waiting) ≤ r.room) (λ r h. omega (arith, h, same-count q.reservations rs q.waiting same r.who)) q.reservations reserved.within);
  alike = ((λ h. refl, alike), all-zip (λ r. HaveRoomOf r.who r.room q.reservations) (λ r. share_room who r.who ≡ true → r.room ≡ room) (λ r. HaveRoomOf r.who r.room rs) (λ r h one. (λ is. sym (one (share-swap who r.who ∙ is)), h)) q.reservations reserved.alike alike);
  rooms = ltb-false q.capacity (room_reserved rs) fits;
}
  where
    rs : List Reservation
    rs = with_reservation who room q.reservations

    apart : AllByRecursion (λ r. is_same_side r.who who ≡ false) q.reservations
    apart = none-of (λ r. is_same_side r.who who) q.reservations (not-true (list_any (λ r. is_same_side r.who who) q.reservations) new)

    same : AllByRecursion (λ c. reservation_of rs c ≡ reservation_of q.reservations c) q.waiting
    same =
        all-map (λ c. is_some (reservation_of q.reservations c) ≡ true) (λ c. reservation_of rs c ≡ reservation_of q.reservations c) (λ c h. ap (λ b. if b then Some (record { who = who; room = room }) else reservation_of q.reservations c) (not-new who q.reservations c apart h)) q.waiting reserved.standing

-- a completion of another side than the one that is free again keeps its reservation
still-own : (who : Reserve) (rs : List Reservation) (c : Completion) → is_of_side who c ≡ false → reservation_of (filter (λ r. not (is_same_side r.who who)) rs) c ≡ reservation_of rs c
still-own who [] c other = refl
still-own who (r ∷ rs) c other = by (is_of_side r.who c) refl (is_same_side r.who who) refl (still-own who rs c other)
  where
    kept : List Reservation
    kept = filter (λ o. not (is_same_side o.who who)) rs

    by : (b : Bool) → is_of_side r.who c ≡ b → (d : Bool) → is_same_side r.who who ≡ d → reservation_of kept c ≡ reservation_of rs c
        → reservation_of (if not d then r ∷ kept else kept) c ≡ (if b then Some r else reservation_of rs c)
    by true e true f rest = absurd (true≢false (sym f ∙ (side-of r.who who c e ∙ other)))
    by true e false f rest = ap (λ b. if b then Some r else reservation_of kept c) e
    by false e true f rest = rest
    by false e false f rest = ap (λ b. if b then Some r else reservation_of kept c) e ∙ rest

pub after-release : (who : Reserve) (q : CompletionQueue) → IsReserved q → is_polled_side who q ≡ true → IsReserved (after_release who q)
after-release who q reserved polled = record {
  standing = same-standing q.reservations rs q.waiting same reserved.standing;
  within = all-filter (λ r. length (filter (counts_against rs r.who) q.waiting) ≤ r.room) stays q.reservations (all-map (λ r. count_against q r.who ≤ r.room) (λ r. length (filter (counts_against rs r.who) q.waiting) ≤ r.room) (λ r h. omega (arith, h, same-count q.reservations rs q.waiting same r.who)) q.reservations reserved.within);
  alike = all-filter (λ r. HaveRoomOf r.who r.room rs) stays q.reservations (all-map (λ r. HaveRoomOf r.who r.room q.reservations) (λ r. HaveRoomOf r.who r.room rs) (λ r. all-filter (λ o. share_room r.who o.who ≡ true → o.room ≡ r.room) stays q.reservations) q.reservations reserved.alike);
  rooms = omega (arith, reserved.rooms, rooms-reserved q.reservations, rooms-reserved rs, filter-rooms one_source room_of (λ a b. one-swap a.who b.who) (λ a b one c. one-agrees a.who b.who one c.who) stays [] q.reservations (alike-sources q.reservations reserved.alike));
}
  where
    stays : Reservation → Bool
    stays r = not (is_same_side r.who who)

    rs : List Reservation
    rs = filter stays q.reservations

    same : AllByRecursion (λ c. reservation_of rs c ≡ reservation_of q.reservations c) q.waiting
    same =
        all-map (λ c. is_of_side who c ≡ false) (λ c. reservation_of rs c ≡ reservation_of q.reservations c) (still-own who q.reservations) q.waiting (none-of (is_of_side who) q.waiting (not-true (list_any (is_of_side who) q.waiting) polled))

-- where each passes, the list stays
filter-stays : (p : Reservation → Bool) (rs : List Reservation) → AllByRecursion (λ r. p r ≡ true) rs → filter p rs ≡ rs
filter-stays p [] all = refl
filter-stays p (r ∷ rs) all = ap (λ b. if b then r ∷ filter p rs else filter p rs) all.0 ∙ ap (λ xs. r ∷ xs) (filter-stays p rs all.1)

-- reservations of which none is of a side stay where it is released
others-stay : (who : Reserve) (rs : List Reservation) → list_any (λ r. is_same_side r.who who) rs ≡ false → filter (λ r. not (is_same_side r.who who)) rs ≡ rs
others-stay who rs none = filter-stays (λ r. not (is_same_side r.who who)) rs
    (all-map (λ r. is_same_side r.who who ≡ false) (λ r. not (is_same_side r.who who) ≡ true) (λ r e. ap not e) rs (none-of (λ r. is_same_side r.who who) rs none))

same-refl : (who : Reserve) → is_same_side who who ≡ true
same-refl who = ap₂ (λ b c. b && c) (queue-refl (user_of who)) (at (is_for_sends who))
  where
    at : (b : Bool) → bool_eq b b ≡ true
    at true = refl
    at false = refl

-- a new side that is released leaves the queue as it was
pub release-undoes : (who : Reserve) (room : ℕ) (q : CompletionQueue) → is_new_side who q ≡ true → after_release who (after_reserve who room q) ≡ q
release-undoes who room q new = ap (λ rs. record q { reservations = rs })
    (ap (λ b. if not b then record { who = who; room = room } ∷ filter (λ r. not (is_same_side r.who who)) q.reservations else filter (λ r. not (is_same_side r.who who)) q.reservations) (same-refl who)
    ∙ others-stay who q.reservations (not-true (list_any (λ r. is_same_side r.who who) q.reservations) new))

pub latest-first : (a b : Reserve) (m n : ℕ) (q : CompletionQueue) → is_new_side a q ≡ true → is_new_side b (after_reserve a m q) ≡ true
    → after_release a (after_release b (after_reserve b n (after_reserve a m q))) ≡ q
latest-first a b m n q one other = ap (after_release a) (release-undoes b n (after_reserve a m q) other) ∙ release-undoes a m q one

same-swap : (a b : Reserve) → is_same_side a b ≡ is_same_side b a
same-swap a b = ap₂ (λ x y. x && y) (queue-swap (user_of a) (user_of b)) (bool-swap (is_for_sends a) (is_for_sends b))

pub latest-last : (a b : Reserve) (m n : ℕ) (q : CompletionQueue) → is_new_side a q ≡ true → is_new_side b (after_reserve a m q) ≡ true
    → after_release b (after_release a (after_reserve b n (after_reserve a m q))) ≡ q
latest-last a b m n q one other = ap (after_release b) (ap (λ c. record q { reservations = if not c then record { who = b; room = n } ∷ behind else behind }) (same-swap b a ∙ parts.0)
    ∙ ap (λ rs. record q { reservations = record { who = b; room = n } ∷ rs }) (ap (λ (v : CompletionQueue). v.reservations) (release-undoes a m q one)))
    ∙ release-undoes b n q (ap not parts.1)
  where
    behind : List Reservation
    behind = filter (λ r. not (is_same_side r.who a)) (with_reservation a m q.reservations)

    parts : (is_same_side a b ≡ false) × (list_any (λ r. is_same_side r.who b) q.reservations ≡ false)
    parts = or_parts (is_same_side a b) (list_any (λ r. is_same_side r.who b) q.reservations) (not-true (list_any (λ r. is_same_side r.who b) (with_reservation a m q.reservations)) other)
