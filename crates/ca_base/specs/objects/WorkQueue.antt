-- A work queue: the requests that occupy it, by posting place. Contracts cite it.
use Rattle.std.specs.Prelude.{ℕ, suc, ◌+◌, ◌-◌, nat_le, nat_lt, max, Bool, if◌then◌else◌, List, [], ◌∷◌, ◌++◌, drop, length, Option, None, slice_get}

-- the depth, the posting place of the first request that occupies the queue, the requests from there on, and the place
-- of the next one to take
pub record WorkQueue (T : Type 0) : Type 0 where
  pub depth : ℕ
  pub first : ℕ
  pub items : List T
  pub next_taken : ℕ

-- a queue in which nothing was posted
abbrev pub empty_queue : {T : Type 0} → ℕ → WorkQueue T
empty_queue depth = record { depth = depth; first = 0; items = []; next_taken = 0 }

-- the place of the next request to be posted
abbrev pub next_place : {T : Type 0} → WorkQueue T → ℕ
next_place q = q.first + length q.items

-- all places are occupied
abbrev pub is_full : {T : Type 0} → WorkQueue T → Bool
is_full q = nat_le q.depth (length q.items)

-- how many places are occupied
abbrev pub occupied_count : {T : Type 0} → WorkQueue T → ℕ
occupied_count q = length q.items

-- the queue after a request was posted
abbrev pub with_item : {T : Type 0} → T → WorkQueue T → WorkQueue T
with_item x q = record q { items = q.items ++ x ∷ [] }

-- the requests from a place on
abbrev pub items_from : {T : Type 0} → ℕ → WorkQueue T → List T
items_from place q = drop (place - q.first) q.items

-- the request at an occupied place
abbrev pub item_at : {T : Type 0} → ℕ → WorkQueue T → Option T
item_at place q = if nat_lt place q.first then None else slice_get q.items (place - q.first)

-- how many requests wait to be taken
abbrev pub waiting_count : {T : Type 0} → WorkQueue T → ℕ
waiting_count q = next_place q - q.next_taken

-- the next request is taken; it stays readable
abbrev pub after_take : {T : Type 0} → WorkQueue T → WorkQueue T
after_take q = record q { next_taken = suc q.next_taken }

-- all requests are taken
abbrev pub with_all_taken : {T : Type 0} → WorkQueue T → WorkQueue T
with_all_taken q = record q { next_taken = next_place q }

-- all places up to this one are free again
abbrev pub after_retire : {T : Type 0} → ℕ → WorkQueue T → WorkQueue T
after_retire place q = record q { first = max q.first (suc place); items = drop (suc place - q.first) q.items }
