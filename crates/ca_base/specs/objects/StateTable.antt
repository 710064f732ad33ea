-- The state table of a queue pair: from which states a change leads, what refuses it, and what it makes of the queue
-- pair. Contracts cite it.
use Rattle.std.specs.Prelude.{ℕ, ◌+◌, ◌^◌, ◌==◌, ◌&&◌, ◌||◌, nat_le, nat_lt, Bool, true, false, not, List, [], ◌∷◌, ◌++◌, Some}
use Rattle.std.specs.List.{list_any}
use Rattle.ca_base.specs.declared.change.Change.{Change}
use Rattle.ca_base.specs.declared.change.Change.TheVariants as changes
use Rattle.ca_base.specs.declared.change.Field.TheVariants as fields
use Rattle.ca_base.specs.declared.change.ModifyRefusal.{ModifyRefusal}
use Rattle.ca_base.specs.declared.change.ModifyRefusal.TheVariants.{Transition, OutOfRange, WindowsBound}
use Rattle.ca_base.specs.declared.change.State.{State}
use Rattle.ca_base.specs.declared.change.State.TheVariants as states
use Rattle.ca_base.specs.declared.limits.TheConstants.{MAX_READS, MAX_RETRY, MAX_RNR_CODE}
use Rattle.ca_keys.specs.declared.names.QueueId.{QueueId}
use Rattle.ca_base.specs.Configuration.{Configuration}
use Rattle.ca_keys.specs.Equal.{queue_eq}
use Rattle.ca_base.specs.objects.QueuePair.{QueuePair, psn_base, after_reset, in_error, without_answers}
use Rattle.ca_base.specs.objects.Slices.{has_queue}

-- each state by a number of its own
abbrev pub state_number : State → ℕ
state_number states.Reset = 0
state_number states.Init = 1
state_number states.Rtr = 2
state_number states.Rts = 3
state_number states.Sqd = 4
state_number states.Error = 5

abbrev pub state_eq : State → State → Bool
state_eq a b = state_number a == state_number b

-- the state is among these
abbrev pub is_among : List State → State → Bool
is_among states s = list_any (state_eq s) states

-- from which states a change leads
abbrev pub allowed_from : Change → List State
allowed_from changes.Init = states.Reset ∷ []
allowed_from (changes.Rtr peer incarnation psn mtu rnr_code) = states.Init ∷ []
allowed_from (changes.Rts psn retry rnr_retry reads) = states.Rtr ∷ []
allowed_from changes.Sqd = states.Rts ∷ []
allowed_from changes.Resume = states.Sqd ∷ []
allowed_from changes.Error = states.Init ∷ states.Rtr ∷ states.Rts ∷ states.Sqd ∷ states.Error ∷ []
allowed_from changes.Reset =
    states.Reset ∷ states.Init ∷ states.Rtr ∷ states.Rts ∷ states.Sqd ∷ states.Error ∷ []

-- the path MTUs
abbrev pub is_path_mtu : ℕ → Bool
is_path_mtu mtu = (mtu == 256) || (mtu == 512) || (mtu == 1024) || (mtu == 2048) || (mtu == 4096)

-- which fields of a change are out of their range, in order
abbrev pub field_refusals : Configuration → QueueId → Change → List (Bool × ModifyRefusal)
field_refusals c queue (changes.Rtr peer incarnation psn mtu rnr_code) =
    (not (has_queue c peer) || queue_eq peer queue, OutOfRange fields.Peer)
    ∷ (incarnation == 0, OutOfRange fields.Incarnation)
    ∷ (nat_le (2 ^ 24) psn, OutOfRange fields.Psn)
    ∷ (not (is_path_mtu mtu), OutOfRange fields.Mtu)
    ∷ (nat_lt MAX_RNR_CODE rnr_code, OutOfRange fields.RnrCode)
    ∷ []
field_refusals c queue (changes.Rts psn retry rnr_retry reads) =
    (nat_le (2 ^ 24) psn, OutOfRange fields.Psn)
    ∷ (nat_lt MAX_RETRY retry, OutOfRange fields.Retry)
    ∷ (nat_lt MAX_RETRY rnr_retry, OutOfRange fields.RnrRetry)
    ∷ ((reads == 0) || nat_lt MAX_READS reads, OutOfRange fields.Reads)
    ∷ []
field_refusals c queue change = []

abbrev pub is_reset : Change → Bool
is_reset changes.Reset = true
is_reset change = false

-- why a change is refused, in order
abbrev pub modify_refusals : Configuration → QueuePair → Change → List (Bool × ModifyRefusal)
modify_refusals c q change =
    (not (is_among (allowed_from change) q.state), Transition)
    ∷ (field_refusals c q.queue change ++ ((is_reset change && nat_lt 0 q.windows, WindowsBound) ∷ []))

-- what a change makes of a queue pair
abbrev pub queue_after_change : Change → QueuePair → QueuePair
queue_after_change changes.Init q = record q { state = states.Init }
queue_after_change (changes.Rtr peer incarnation psn mtu rnr_code) q = record q {
  state = states.Rtr;
  peer = Some (record { queue = peer; incarnation = incarnation });
  responder = record q.responder { expected = psn_base + psn; mtu = mtu; rnr_code = rnr_code };
}
queue_after_change (changes.Rts psn retry rnr_retry reads) q = record q {
  state = states.Rts;
  requester = record q.requester {
    una = psn_base + psn;
    cursor = psn_base + psn;
    oldest_psn = psn_base + psn;
    retry = retry;
    rnr_retry = rnr_retry;
    reads = reads;
  };
}
queue_after_change changes.Sqd q = record q { state = states.Sqd }
queue_after_change changes.Resume q = record q { state = states.Rts }
queue_after_change changes.Error q = without_answers (in_error q)
queue_after_change changes.Reset q = after_reset q
