-- The state table of a queue pair: each change from each state, each field at both edges of its range, and what each
-- change makes. For proofs only.
use Rattle.std.proofs.Common.{◌≡◌, ◌^◌, ◌-◌, ◌+◌, List, [], ◌∷◌, map, Option, None, Some, refl}
use Rattle.ca_base.specs.declared.change.Change.{Change}
use Rattle.ca_base.specs.declared.change.Change.TheVariants as changes
use Rattle.ca_base.specs.declared.change.Field.{Field}
use Rattle.ca_base.specs.declared.change.Field.TheVariants as fields
use Rattle.ca_base.specs.declared.change.ModifyRefusal.{ModifyRefusal}
use Rattle.ca_base.specs.declared.change.ModifyRefusal.TheVariants.{OutOfRange, Transition, WindowsBound}
use Rattle.ca_base.specs.declared.change.State.{State}
use Rattle.ca_base.specs.declared.change.State.TheVariants as states
use Rattle.ca_base.specs.declared.queue_numbers.Queued.TheVariants as queued
use Rattle.ca_keys.specs.Refusals.{first_of}
use Rattle.ca_base.specs.objects.QueuePair.{QueuePair, psn_base}
use Rattle.ca_base.specs.objects.StateTable.{queue_after_change, modify_refusals}
use Rattle.ca_base.specs.objects.WorkQueue.{occupied_count}
use Rattle.ca_model.proofs.Literals.{q}
use Rattle.ca_model.proofs.Machine.Furnished.{pair, in_state, ready, send_of, signalled, with_posted, with_begun, with_answers}

-- what refuses a change
abbrev refusal : Change → QueuePair → Option ModifyRefusal
refusal change p = first_of (modify_refusals pair p change)

-- what refuses a change in each state: Reset, Init, Rtr, Rts, Sqd, Error
abbrev in_each_state : Change → List (Option ModifyRefusal)
in_each_state change =
    map (λ state. refusal change (in_state state))
    (states.Reset ∷ states.Init ∷ states.Rtr ∷ states.Rts ∷ states.Sqd ∷ states.Error ∷ [])

-- the change leads from this state, or not
abbrev yes : Option ModifyRefusal
yes = None

abbrev no : Option ModifyRefusal
no = Some Transition

abbrev rtr : Change
rtr = changes.Rtr (q 1 256) 1 0 256 0

abbrev rts : Change
rts = changes.Rts 0 0 0 1

-- from Reset, Init, Rtr, Rts, Sqd and Error
init : in_each_state changes.Init ≡ yes ∷ no ∷ no ∷ no ∷ no ∷ no ∷ []
init = refl

to_rtr : in_each_state rtr ≡ no ∷ yes ∷ no ∷ no ∷ no ∷ no ∷ []
to_rtr = refl

to_rts : in_each_state rts ≡ no ∷ no ∷ yes ∷ no ∷ no ∷ no ∷ []
to_rts = refl

sqd : in_each_state changes.Sqd ≡ no ∷ no ∷ no ∷ yes ∷ no ∷ no ∷ []
sqd = refl

resume : in_each_state changes.Resume ≡ no ∷ no ∷ no ∷ no ∷ yes ∷ no ∷ []
resume = refl

error : in_each_state changes.Error ≡ no ∷ yes ∷ yes ∷ yes ∷ yes ∷ yes ∷ []
error = refl

reset : in_each_state changes.Reset ≡ yes ∷ yes ∷ yes ∷ yes ∷ yes ∷ yes ∷ []
reset = refl

-- a change with what refuses it
record Case : Type 0 where
  change : Change
  refused : Option Field

infix 10 ◌⟶◌
abbrev ◌⟶◌ : Change → Option Field → Case
change ⟶ refused = record { change = change; refused = refused }

-- the field that refuses each change from this state
abbrev RefusedFrom : State → List Case → Type 0
RefusedFrom state cases =
    map (λ c. refusal c.change (in_state state)) cases ≡ map (λ c. by c.refused) cases
  where
    by : Option Field → Option ModifyRefusal
    by None = None
    by (Some field) = Some (OutOfRange field)

-- peer, incarnation, PSN, path MTU, RNR code; of two fields out of range the earlier is named
rtr_fields : RefusedFrom states.Init (
    (changes.Rtr (q 1 256) 1 0 256 0 ⟶ None)
    ∷ (changes.Rtr (q 1 515) 1 (2 ^ 24 - 1) 4096 31 ⟶ None)
    ∷ (changes.Rtr (q 0 257) 1 0 512 0 ⟶ None)
    ∷ (changes.Rtr (q 0 257) 1 0 1024 0 ⟶ None)
    ∷ (changes.Rtr (q 0 257) 1 0 2048 0 ⟶ None)
    ∷ (changes.Rtr (q 0 256) 0 0 256 0 ⟶ Some fields.Peer)
    ∷ (changes.Rtr (q 1 255) 0 0 256 0 ⟶ Some fields.Peer)
    ∷ (changes.Rtr (q 1 260) 1 0 256 0 ⟶ Some fields.Peer)
    ∷ (changes.Rtr (q 1 768) 1 0 256 0 ⟶ Some fields.Peer)
    ∷ (changes.Rtr (q 2 256) 1 0 256 0 ⟶ Some fields.Peer)
    ∷ (changes.Rtr (q 1 256) 0 (2 ^ 24) 256 0 ⟶ Some fields.Incarnation)
    ∷ (changes.Rtr (q 1 256) 1 (2 ^ 24) 255 0 ⟶ Some fields.Psn)
    ∷ (changes.Rtr (q 1 256) 1 0 255 32 ⟶ Some fields.Mtu)
    ∷ (changes.Rtr (q 1 256) 1 0 8192 0 ⟶ Some fields.Mtu)
    ∷ (changes.Rtr (q 1 256) 1 0 0 0 ⟶ Some fields.Mtu)
    ∷ (changes.Rtr (q 1 256) 1 0 256 32 ⟶ Some fields.RnrCode)
    ∷ [])
rtr_fields = refl

-- PSN, retry count, RNR retry count, bound of READs and atomics
rts_fields : RefusedFrom states.Rtr (
    (changes.Rts 0 0 0 1 ⟶ None)
    ∷ (changes.Rts (2 ^ 24 - 1) 7 7 16 ⟶ None)
    ∷ (changes.Rts (2 ^ 24) 8 0 1 ⟶ Some fields.Psn)
    ∷ (changes.Rts 0 8 8 1 ⟶ Some fields.Retry)
    ∷ (changes.Rts 0 0 8 0 ⟶ Some fields.RnrRetry)
    ∷ (changes.Rts 0 0 0 0 ⟶ Some fields.Reads)
    ∷ (changes.Rts 0 0 0 17 ⟶ Some fields.Reads)
    ∷ [])
rts_fields = refl

-- a type 2 window that is bound through the queue pair stands against Reset alone
reset_with_a_window : refusal changes.Reset (record ready { windows = 1 }) ≡ Some WindowsBound
reset_with_a_window = refl

error_with_a_window : refusal changes.Error (record ready { windows = 1 }) ≡ None
error_with_a_window = refl

-- a queue pair with a posted request that has begun, and an answer that waits
abbrev busy : QueuePair
busy = with_answers (queued.Ack psn_base ∷ []) (with_begun 1 1 (with_posted (signalled (send_of 8)) ready))

-- the expected PSN, the path MTU and the RNR code are those that Rtr names
after_rtr : (queue_after_change (changes.Rtr (q 1 256) 3 5 1024 7) (in_state states.Init)).responder
    ≡ record (in_state states.Init).responder { expected = psn_base + 5; mtu = 1024; rnr_code = 7 }
after_rtr = refl

peer_after_rtr : (queue_after_change (changes.Rtr (q 1 256) 3 5 1024 7) (in_state states.Init)).peer
    ≡ Some (record { queue = q 1 256; incarnation = 3 })
peer_after_rtr = refl

-- the next PSN, the retry counts and the bound of READs and atomics are those that Rts names
after_rts : (queue_after_change (changes.Rts 5 1 2 3) (in_state states.Rtr)).requester ≡ record (in_state states.Rtr).requester {
  una = psn_base + 5;
  cursor = psn_base + 5;
  oldest_psn = psn_base + 5;
  retry = 1;
  rnr_retry = 2;
  reads = 3;
}
after_rts = refl

-- Sqd and Resume change the state alone
after_sqd : queue_after_change changes.Sqd busy ≡ record busy { state = states.Sqd }
after_sqd = refl

after_resume : queue_after_change changes.Resume (record busy { state = states.Sqd }) ≡ busy
after_resume = refl

-- Error empties the response queue, and no request is unfinished
state_after_error : (queue_after_change changes.Error busy).state ≡ states.Error
state_after_error = refl

answers_after_error : (queue_after_change changes.Error busy).responder.answers ≡ []
answers_after_error = refl

oldest_after_error : (queue_after_change changes.Error busy).requester.oldest ≡ 1
oldest_after_error = refl

-- Reset empties queues and numbers; the incarnation rises by 1, and the count of timers stays
after_reset : (queue_after_change changes.Reset busy).incarnation ≡ 2
after_reset = refl

occupied_after_reset : occupied_count (queue_after_change changes.Reset busy).sends ≡ 0
occupied_after_reset = refl

peer_after_reset : (queue_after_change changes.Reset busy).peer ≡ None
peer_after_reset = refl

timers_after_reset : (queue_after_change changes.Reset (record busy { requester = record busy.requester { timers = 4 } })).requester.timers ≡ 4
timers_after_reset = refl
