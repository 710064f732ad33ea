-- A queue pair at rest, and whom mailboxes accept. Contracts cite it.
use Rattle.std.specs.Prelude.{List, ◌≡◌, ◌⊎◌, ◌&&◌, Bool, true, false, [], Option, None, Some, is_none}
use Rattle.std.specs.List.{AllByRecursion}
use Rattle.std.specs.Option.{option_and_then}
use Rattle.ca_base.specs.declared.change.State.TheVariants as states
use Rattle.ca_base.specs.declared.correspondent.Correspondent.{Correspondent}
use Rattle.ca_base.specs.declared.limits.TheConstants.{MAX_RETRY}
use Rattle.ca_base.specs.objects.QueuePair.{QueuePair, QueueSlot, queue_in}
use Rattle.ca_keys.specs.declared.names.QueueId.{QueueId}
use Rattle.ca_model.specs.machine.Arrivals.{next_receive}
use Rattle.ca_model.specs.machine.Numbering.{begun_requests, unfinished_requests}
use Rattle.ca_model.specs.machine.Seen.{shared_receives}
use Rattle.ca_model.specs.machine.Sound.{HasFewPieces}
use Rattle.ca_model.specs.machine.Turns.{reaches_peer}
use Rattle.ca_model.specs.machine.World.{World}
use Rattle.ca_script_order.specs.OfScript.{BudgetSpent, Fine, Stalled, Status}
use Rattle.ca_script_lines.specs.declared.Line.{Line}
use Rattle.ca_script_lines.specs.declared.what.What.{What}
use Rattle.ca_script_lines.specs.declared.what.What.TheVariants as whats

-- ---- at rest

-- nothing that is posted is unfinished
abbrev pub AllFinished : QueuePair → Type 0
AllFinished q = unfinished_requests q ≡ []

-- the queue pair is drained: no request that has begun is unfinished, and in Sqd none begins
pub record IsDrained (q : QueuePair) : Type 0 where
  pub state : q.state ≡ states.Sqd
  pub begun : begun_requests q ≡ []

-- the queue pair of a slot has no receive to take
abbrev pub has_no_receive : World → QueueSlot → Bool
has_no_receive w slot = by (queue_in slot)
  where
    by : Option QueuePair → Bool
    by None = true
    by (Some p) = is_none (next_receive p (shared_receives w p))

-- each of the two named the other, and the peer has no receive to take
abbrev pub lacks_receive : World → QueuePair → Option Correspondent → Bool
lacks_receive w q None = false
lacks_receive w q (Some peer) =
    reaches_peer q peer (w.mailbox peer.queue) && has_no_receive w (w.queue peer.queue)

-- the queue pair waits after an RNR NAK, without a limit, for a receive that its connected peer does not have
pub record AwaitsReceive (w : World) (q : QueuePair) : Type 0 where
  pub waiting : q.requester.waiting ≡ true
  pub limit : q.requester.rnr_retry ≡ MAX_RETRY
  pub peer : lacks_receive w q q.peer ≡ true

-- at rest: nothing is unfinished; or it is drained; or it waits for a receive
abbrev pub IsAtRest : World → QueuePair → Type 0
IsAtRest w q = AllFinished q ⊎ (IsDrained q ⊎ AwaitsReceive w q)

-- ---- what comes up

-- each mailbox accepts the peer that its queue pair named, and nobody else
abbrev pub AcceptsPeers : World → Type 0
AcceptsPeers w = (q : QueueId) → (w.mailbox q).peer ≡ option_and_then (λ p. p.peer) (queue_in (w.queue q))

-- a line's verb can be made: the list of a request that it posts has as few pieces as its type allows
abbrev pub IsCallable : What → Type 0
IsCallable (whats.Verb verb) = HasFewPieces verb
IsCallable (whats.At t) = Unit {0}

-- so of all lines of consumers
abbrev pub AreCallable : List (List Line) → Type 0
AreCallable left = AllByRecursion (λ lines. AllByRecursion (λ line. IsCallable line.what) lines) left

-- a script's order ended for another cause than that all its events were made: it is fine, or a consumer stalled
abbrev pub IsQuietStatus : Status → Type 0
IsQuietStatus Fine = Unit {0}
IsQuietStatus (Stalled k number) = Unit {0}
IsQuietStatus (BudgetSpent n) = ⊥
