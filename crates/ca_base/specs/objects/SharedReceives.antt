-- A shared receive queue: the receives that wait, and the places of those that were taken and still occupy it. Contracts
-- cite it.
use Rattle.std.specs.Prelude.{ℕ, suc, ◌+◌, ◌==◌, nat_le, Bool, not, List, [], ◌∷◌, ◌++◌, drop, filter, length, map, take, Option, None, slice_get}
use Rattle.ca_base.specs.declared.request.PlacedReceive.{PlacedReceive}
use Rattle.ca_base.specs.declared.request.RecvRequest.{RecvRequest}

-- the depth, the place of the next receive to be posted, the receives that wait, and the places that were taken
pub record SharedReceives : Type 0 where
  pub depth : ℕ
  pub next : ℕ
  pub waiting : List PlacedReceive
  pub taken : List ℕ

-- the slot of a shared receive queue, and how many queue pairs use it
pub record SrqSlot : Type 0 where
  pub srq : Option SharedReceives
  pub users : ℕ

-- a slot before its first shared receive queue
abbrev pub vacant_srq : SrqSlot
vacant_srq = record { srq = None; users = 0 }

-- a queue in which nothing was posted
abbrev pub empty_receives : ℕ → SharedReceives
empty_receives depth = record { depth = depth; next = 0; waiting = []; taken = [] }

-- how many places are occupied
abbrev pub occupied_receives : SharedReceives → ℕ
occupied_receives s = length s.waiting + length s.taken

-- all places are occupied
abbrev pub is_full_of_receives : SharedReceives → Bool
is_full_of_receives s = nat_le s.depth (occupied_receives s)

-- a receive was posted
abbrev pub after_receive_post : RecvRequest → SharedReceives → SharedReceives
after_receive_post r s = record s {
  next = suc s.next;
  waiting = s.waiting ++ record { place = s.next; receive = r } ∷ [];
}

-- the receive that is taken next
abbrev pub first_receive : SharedReceives → Option PlacedReceive
first_receive s = slice_get s.waiting 0

-- the first receive was taken; its place stays occupied
abbrev pub after_receive_take : SharedReceives → SharedReceives
after_receive_take s = record s {
  waiting = drop 1 s.waiting;
  taken = s.taken ++ map (λ r. r.place) (take 1 s.waiting);
}

-- one place that was taken is free again
abbrev pub after_receive_retire : ℕ → SharedReceives → SharedReceives
after_receive_retire place s = record s { taken = filter (λ p. not (p == place)) s.taken }

-- all of these places are free again
abbrev pub after_receives_retire : List ℕ → SharedReceives → SharedReceives
after_receives_retire [] s = s
after_receives_retire (place ∷ places) s = after_receives_retire places (after_receive_retire place s)
