-- Posting places in order: those of completions, and of the receives that a queue pair holds. Laws cite it.
use Rattle.std.specs.Prelude.{◌≡◌, ℕ, suc, ◌&&◌, ◌≤◌, Bool, true, false, List, [], ◌∷◌, ◌++◌, filter, map, Option, None, Some}
use Rattle.std.specs.Option.{option_map_or}
use Rattle.ca_base.specs.declared.completion.Completion.{Completion}
use Rattle.ca_base.specs.declared.queue_numbers.Message.{Message}
use Rattle.ca_base.specs.declared.request.RecvRequest.{RecvRequest}
use Rattle.ca_keys.specs.declared.names.QueueId.{QueueId}
use Rattle.ca_keys.specs.Equal.{bool_eq, queue_eq}
use Rattle.ca_base.specs.objects.QueuePair.{QueuePair, receive_in_use}
use Rattle.ca_base.specs.objects.SharedReceives.{SharedReceives, first_receive}
use Rattle.ca_base.specs.objects.WorkQueue.{WorkQueue}
use Rattle.ca_model.specs.declared.mark.Mark.{Mark}
use Rattle.ca_model.specs.declared.mark.Mark.TheVariants as marks
use Rattle.ca_model.specs.machine.Row.{Effects}

-- places that ascend: none is below the first bound, and all are below the second
abbrev pub Ascend : ℕ → ℕ → List ℕ → Type 0
Ascend low high [] = low ≤ high
Ascend low high (x ∷ xs) = (low ≤ x) × Ascend (suc x) high xs

-- the places of a queue pair's completions among these: those of its receives, or of its sends
abbrev pub places_of_side : QueueId → Bool → List Completion → List ℕ
places_of_side queue receive cs = map (λ c. c.place) (filter (λ c. queue_eq c.queue queue && bool_eq c.receive receive) cs)

-- the completions among marks
abbrev pub completions_in : List Mark → List Completion
completions_in [] = []
completions_in (m ∷ ms) = by m ++ completions_in ms
  where
    by : Mark → List Completion
    by (marks.Done queue c cause) = c ∷ []
    by m = []

-- the places of the receives, or of the sends, that complete by these marks
abbrev pub places_done : Bool → List Mark → List ℕ
places_done receive ms = map (λ c. c.place) (filter (λ c. bool_eq c.receive receive) (completions_in ms))

-- the place of the receive that the message in progress holds
abbrev pub places_in_use : Option Message → List ℕ
places_in_use message = option_map_or (λ place. place ∷ []) (receive_in_use message) []

-- the first of a queue pair's own receives that has not completed: the one in use, or the next to be taken
abbrev pub first_held : WorkQueue RecvRequest → Option Message → ℕ
first_held r message = option_map_or (λ place. place) (receive_in_use message) r.next_taken

-- a queue pair's own receives complete in order, and only taking moves on
abbrev pub AreTakenInOrder : Option (WorkQueue RecvRequest) → Option (WorkQueue RecvRequest) → Option Message → Option Message → List Mark → Type 0
AreTakenInOrder None None before after ms = Unit {0}
AreTakenInOrder (Some a) (Some b) before after ms =
    (b ≡ record a { next_taken = b.next_taken }) × Ascend (first_held a before) (first_held b after) (places_done true ms)
AreTakenInOrder a b before after ms = ⊥

-- What a turn completes stands in order: sends from the oldest unfinished one on, and receives from the one in use on. It
-- posts nothing, and where it takes no shared receive, it completes none but the one in use.
pub record IsInOrder (q : QueuePair) (e : Effects) : Type 0 where
  pub sends : e.queue.sends ≡ q.sends
  pub done : Ascend q.requester.oldest e.queue.requester.oldest (places_done false e.marks)
  pub own : AreTakenInOrder q.receives e.queue.receives q.responder.message e.queue.responder.message e.marks
  pub held : q.receives ≡ None → e.takes_shared ≡ false
      → places_done true e.marks ++ places_in_use e.queue.responder.message ≡ places_in_use q.responder.message

-- what a turn takes from a shared receive queue, it completes or holds, behind the one in use
abbrev pub TakesInOrder : Option SharedReceives → QueuePair → Effects → Type 0
TakesInOrder shared q e = e.takes_shared ≡ true → (s : SharedReceives) → shared ≡ Some s
    → places_done true e.marks ++ places_in_use e.queue.responder.message
    ≡ places_in_use q.responder.message ++ option_map_or (λ r. r.place ∷ []) (first_receive s) []
