-- The receives with which a queue pair begins. For a private function's contract; it may be skipped.
use Rattle.std.specs.Prelude.{ℕ, Option, None, Some}
use Rattle.ca_base.specs.declared.request.RecvRequest.{RecvRequest}
use Rattle.ca_base.specs.objects.WorkQueue.{WorkQueue, empty_queue}

-- an empty queue of its own, where no shared receive queue is named
abbrev pub receives_at_start : ℕ → Option ℕ → Option (WorkQueue RecvRequest)
receives_at_start depth None = Some (empty_queue depth)
receives_at_start depth (Some srq) = None
