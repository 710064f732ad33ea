-- A link in which a request that may be delivered lies 1,048,576 numbers below the expected one, of at most 1,052,672: the
-- requester sent 256 READs of the longest message at the smallest path MTU, one after the other, and each was answered whole.
use Rattle.std.proofs.Common.{◌≡◌, ℕ, zero, suc, ◌+◌, ◌-◌, ◌*◌, ◌%◌, ◌^◌, ◌<◌, ◌≤◌, max, List, [], ◌∷◌, slice_get, Option, None, Some, refl, sym, ap, subst, arith, lt-ltb, cond}
use Rattle.ca_psn.specs.Psn.{widened}
use Rattle.ca_connection.specs.Layout.{Direction, first, HasNumber, bytes_left, span, segments}
use Rattle.ca_connection.specs.Layout.Work.{Read}
use Rattle.ca_connection.specs.Link.{RequestPacket, Response, Acceptance, Responder, Link}
use Rattle.ca_connection.specs.Link.Response.{Data}
use Rattle.ca_connection.specs.Moves.{rest_of, Receives, Takes, MayArrive, Reached}
use Rattle.ca_connection.specs.Moves.Keeps.{none}
use Rattle.ca_connection.specs.Moves.Receives.{read as accept_read}
use Rattle.ca_connection.specs.Moves.Reception.{Accepted}
use Rattle.ca_connection.specs.Moves.Responds.{front}
use Rattle.ca_connection.specs.Moves.Takes.{read as take_bytes}
use Rattle.ca_connection.specs.Moves.Move.{send, respond, arrive, take}
use Rattle.ca_connection.specs.Moves.Reached.{begin, move}
use Rattle.ca_connection.proofs.NumberLemmas.{widened-exact}
use Rattle.ca_connection.proofs.SmallLinks.{link, packet}

abbrev reads : Direction
reads = record { psn = 0; mtu = 256; work = λ place. Read 1048576 }

-- the first number of the READ at this place
abbrev at : ℕ → ℕ
at p = 2 ^ 24 + 4096 * p

first-at : (p : ℕ) → first reads p ≡ at p
first-at zero = refl
first-at (suc p) = omega (arith, first-at p)

abbrev requests : ℕ → List (Option RequestPacket)
requests zero = []
requests (suc p) = packet (at p) p ∷ requests p

none_between : (n : ℕ) (p m : ℕ) → n ≤ m → m < n → ⊥
none_between n p m low high = omega arith

-- one response is sent and taken, and the READ goes on
one_response : (p n left cursor : ℕ) (sent : List (Option RequestPacket)) (responses : List (Option Response)) (acceptances : List Acceptance)
    → 2 ^ 24 ≤ n → HasNumber reads p n → n < cursor → 256 < left
    → Reached reads (link n cursor cursor (Data n left ∷ []) [] sent responses cursor n acceptances [])
    → (more : List (Option Response)) × Reached reads (link (n + 1) cursor cursor (Data (n + 1) (left - 256) ∷ []) [] sent more cursor (n + 1) acceptances [])
one_response p n left cursor sent responses acceptances low number below long r = (Some (Data n left) ∷ responses, taken)
  where
    rest : rest_of 256 (Data n left) [] ≡ Data (n + 1) (left - 256) ∷ []
    rest = ap (λ b. cond b (Data (n + 1) (left - 256) ∷ []) []) (lt-ltb 256 left long)

    top : max n (n + 1) ≡ n + 1
    top = omega arith

    answered : Reached reads (link n cursor cursor (Data (n + 1) (left - 256) ∷ []) [] sent (Some (Data n left) ∷ responses) cursor (n + 1) acceptances [])
    answered =
        subst (λ q. Reached reads (link n cursor cursor q [] sent (Some (Data n left) ∷ responses) cursor (n + 1) acceptances [])) rest
        (subst (λ t. Reached reads (link n cursor cursor (rest_of 256 (Data n left) []) [] sent (Some (Data n left) ∷ responses) cursor t acceptances [])) top
        (move r (respond (Data n left) (rest_of 256 (Data n left) []) None (front (Data n left) [] refl))))

    takes : Takes reads (Data n left) n (record { una = n; cursor = cursor }) (record { una = n + 1; cursor = cursor }) None
    takes = take_bytes n left p refl number refl (omega arith) below (λ q m from high names. absurd (none_between n q m from high))

    taken : Reached reads (link (n + 1) cursor cursor (Data (n + 1) (left - 256) ∷ []) [] sent (Some (Data n left) ∷ responses) cursor (n + 1) acceptances [])
    taken = move answered (take 0 (Data n left) (record { una = n + 1; cursor = cursor }) None (record { is = refl; recent = omega arith })
        (subst (λ w. Takes reads (Data n left) w (record { una = n; cursor = cursor }) (record { una = n + 1; cursor = cursor }) None) (sym (widened-exact n n (omega arith) (omega arith) (omega arith))) takes))

-- the last response, of a full payload, is sent and taken
last_response : (p n cursor : ℕ) (sent : List (Option RequestPacket)) (responses : List (Option Response)) (acceptances : List Acceptance)
    → 2 ^ 24 ≤ n → HasNumber reads p n → n + 1 ≡ cursor
    → Reached reads (link n cursor cursor (Data n 256 ∷ []) [] sent responses cursor n acceptances [])
    → (more : List (Option Response)) × Reached reads (link cursor cursor cursor [] [] sent more cursor cursor acceptances [])
last_response p n cursor sent responses acceptances low number end r = (Some (Data n 256) ∷ responses, taken)
  where
    top : max n (n + 1) ≡ cursor
    top = omega arith

    answered : Reached reads (link n cursor cursor [] [] sent (Some (Data n 256) ∷ responses) cursor cursor acceptances [])
    answered =
        subst (λ t. Reached reads (link n cursor cursor [] [] sent (Some (Data n 256) ∷ responses) cursor t acceptances [])) top
        (move r (respond (Data n 256) [] None (front (Data n 256) [] refl)))

    takes : Takes reads (Data n 256) n (record { una = n; cursor = cursor }) (record { una = n + 1; cursor = cursor }) None
    takes = take_bytes n 256 p refl number refl (omega arith) (omega arith) (λ q m from high names. absurd (none_between n q m from high))

    taken : Reached reads (link cursor cursor cursor [] [] sent (Some (Data n 256) ∷ responses) cursor cursor acceptances [])
    taken =
        subst (λ u. Reached reads (link u cursor cursor [] [] sent (Some (Data n 256) ∷ responses) cursor cursor acceptances [])) end
        (move answered (take 0 (Data n 256) (record { una = n + 1; cursor = cursor }) None (record { is = refl; recent = omega arith })
        (subst (λ w. Takes reads (Data n 256) w (record { una = n; cursor = cursor }) (record { una = n + 1; cursor = cursor }) None) (sym (widened-exact n n (omega arith) (omega arith) (omega arith))) takes)))

has-number : (p i : ℕ) → i < 4096 → HasNumber reads p (at p + i)
has-number p i below = record { from = omega (arith, first-at p); below = omega (arith, first-at p) }

-- the first i responses of a READ
some_responses : (p i : ℕ) (sent : List (Option RequestPacket)) (responses : List (Option Response)) (acceptances : List Acceptance) → i < 4096
    → Reached reads (link (at p) (at (suc p)) (at (suc p)) (Data (at p) 1048576 ∷ []) [] sent responses (at (suc p)) (at p) acceptances [])
    → (more : List (Option Response)) × Reached reads (link (at p + i) (at (suc p)) (at (suc p)) (Data (at p + i) (1048576 - 256 * i) ∷ []) [] sent more (at (suc p)) (at p + i) acceptances [])
some_responses p zero sent responses acceptances below r =
    (responses, subst (λ n. Reached reads (link n (at (suc p)) (at (suc p)) (Data n 1048576 ∷ []) [] sent responses (at (suc p)) n acceptances [])) (let e : at p ≡ at p + 0 = omega arith in e) r)
some_responses p (suc i) sent responses acceptances below r =
    let before = some_responses p i sent responses acceptances (omega arith) r in
    let next = one_response p (at p + i) (1048576 - 256 * i) (at (suc p)) sent before.0 acceptances (omega arith) (has-number p i (omega arith)) (omega arith) (omega arith) before.1 in
    let on : at p + i + 1 ≡ at p + suc i = omega arith in
    let rest : 1048576 - 256 * i - 256 ≡ 1048576 - 256 * suc i = omega arith in (
      next.0,
      subst (λ n. Reached reads (link n (at (suc p)) (at (suc p)) (Data n (1048576 - 256 * suc i) ∷ []) [] sent next.0 (at (suc p)) n acceptances [])) on
          (subst (λ left. Reached reads (link (at p + i + 1) (at (suc p)) (at (suc p)) (Data (at p + i + 1) left ∷ []) [] sent next.0 (at (suc p)) (at p + i + 1) acceptances [])) rest next.1),
    )

-- all responses of a READ
all_responses : (p : ℕ) (sent : List (Option RequestPacket)) (responses : List (Option Response)) (acceptances : List Acceptance)
    → Reached reads (link (at p) (at (suc p)) (at (suc p)) (Data (at p) 1048576 ∷ []) [] sent responses (at (suc p)) (at p) acceptances [])
    → (more : List (Option Response)) × Reached reads (link (at (suc p)) (at (suc p)) (at (suc p)) [] [] sent more (at (suc p)) (at (suc p)) acceptances [])
all_responses p sent responses acceptances r =
    let before = some_responses p 4095 sent responses acceptances (omega arith) r in
    last_response p (at p + 4095) (at (suc p)) sent before.0 acceptances (omega arith) (has-number p 4095 (omega arith)) (omega arith) before.1

-- what is reached once p READs are answered
record AllRead (p : ℕ) : Type 0 where
  responses : List (Option Response)
  acceptances : List Acceptance
  reached : Reached reads (link (at p) (at p) (at p) [] [] (requests p) responses (at p) (at p) acceptances [])

one_read : (p : ℕ) → AllRead p → AllRead (suc p)
one_read p a = let r = all_responses p (requests (suc p)) a.responses new accepted in record { responses = r.0; acceptances = new; reached = r.1 }
  where
    new : List Acceptance
    new = record { number = at p; place = p; found = 0 } ∷ a.acceptances

    asked : RequestPacket
    asked = record { number = at p; place = p }

    after : Responder
    after = record { expected = at p + span reads p (at p); queue = Data (at p) (bytes_left reads p (at p)) ∷ []; results = [] }

    exact : widened (at p) (at p % 2 ^ 24) ≡ at p
    exact = widened-exact (at p) (at p) (omega arith) (omega arith) (omega arith)

    all_left : bytes_left reads p (at p) ≡ 1048576
    all_left = omega (arith, first-at p)

    long : span reads p (at p) ≡ 4096
    long = ap (segments 256) all_left

    end : at p + span reads p (at p) ≡ at (suc p)
    end = omega (arith, long)

    top : max (at p) (at p + span reads p (at p)) ≡ at (suc p)
    top = omega (arith, long)

    number : HasNumber reads p (at p)
    number = record { from = omega (arith, first-at p); below = omega (arith, first-at p) }

    sent : Reached reads (link (at p) (at (suc p)) (at p) [] [] (requests (suc p)) a.responses (at (suc p)) (at p) a.acceptances [])
    sent =
        subst (λ c. Reached reads (link (at p) c (at p) [] [] (requests (suc p)) a.responses (at (suc p)) (at p) a.acceptances [])) end
        (subst (λ t. Reached reads (link (at p) (at p + span reads p (at p)) (at p) [] [] (requests (suc p)) a.responses t (at p) a.acceptances [])) top
        (move a.reached (send p (record { number = number; room = omega (arith, long) }) (omega (arith, long)))))

    accepted : Reached reads (link (at p) (at (suc p)) (at (suc p)) (Data (at p) 1048576 ∷ []) [] (requests (suc p)) a.responses (at (suc p)) (at p) (record { number = at p; place = p; found = 0 } ∷ a.acceptances) [])
    accepted =
        subst (λ left. Reached reads (link (at p) (at (suc p)) (at (suc p)) (Data (at p) left ∷ []) [] (requests (suc p)) a.responses (at (suc p)) (at p) new [])) all_left
        (subst (λ e. Reached reads (link (at p) (at (suc p)) e (Data (at p) (bytes_left reads p (at p)) ∷ []) [] (requests (suc p)) a.responses (at (suc p)) (at p) new [])) end
        (subst (λ n. Reached reads (link (at p) (at (suc p)) (at p + span reads p (at p)) (Data (at p) (bytes_left reads p (at p)) ∷ []) [] (requests (suc p)) a.responses (at (suc p)) (at p) (record { number = n; place = p; found = 0 } ∷ a.acceptances) [])) exact
        (move sent (arrive 0 asked after (Accepted 0) (record { is = refl; recent = omega arith })
        (subst (λ w. Receives reads asked w (record { expected = at p; queue = []; results = [] }) after (Accepted 0)) (sym exact) (accept_read refl refl none))))))

all_read : (p : ℕ) → AllRead p
all_read zero = record { responses = []; acceptances = []; reached = begin (omega arith) }
all_read (suc p) = one_read p (all_read p)

-- the first request, with k later ones
oldest : (k : ℕ) → slice_get (requests (suc k)) k ≡ Some (packet (2 ^ 24) 0)
oldest zero = refl
oldest (suc k) = oldest k

abbrev far : Link
far = link (at 256) (at 256) (at 256) [] [] (requests 256) (all_read 256).responses (at 256) (at 256) (all_read 256).acceptances []

is_reached : Reached reads far
is_reached = let a = all_read 256 in a.reached

may_arrive : MayArrive far 255 (record { number = 2 ^ 24; place = 0 })
may_arrive = record { is = oldest 255; recent = omega arith }

lies_far : far.responder.expected ≡ 2 ^ 24 + 1048576
lies_far = refl
