-- Each call of the responder leaves a queue pair that comes up, over parts that fit each other.
use Rattle.std.proofs.Common.{◌<◌, ◌^◌, ◌≡◌, ℕ, Bool, true, false, List, [], ◌∷◌, Option, None, Some, Result, Ok, Err, refl, sym, subst, ap, ◌∙◌, IfSome, IsTrue, true≢false, length, slice_get, is_none, not, if◌then◌else◌}
use Rattle.std.specs.List.{AllByRecursion}
use Rattle.std.specs.Option.{option_map}
use Rattle.ca_model.specs.machine.Arrivals.{with_responder}
use Rattle.ca_keys.specs.declared.access.Ask.{Ask}
use Rattle.ca_base.specs.declared.change.State.TheVariants as states
use Rattle.ca_keys.specs.declared.memory.Memory.{Memory}
use Rattle.ca_base.specs.declared.queue_numbers.Queued.{Queued}
use Rattle.ca_base.specs.declared.step.Reason.{Reason}
use Rattle.ca_base.specs.declared.step.Reason.TheVariants as reasons
use Rattle.ca_base.specs.declared.step.Sent.{Sent}
use Rattle.ca_base.specs.declared.step.ActError.{ActError}
use Rattle.ca_base.specs.declared.step.ActError.TheVariants as steps
use Rattle.ca_keys.specs.Refusals.{first_of}
use Rattle.ca_base.specs.Sight.{Invalidation, Sight}
use Rattle.ca_base.specs.objects.QueuePair.{QueuePair}
use Rattle.ca_base.specs.objects.Region.{after_region_invalidation, RegionState, NoRegion, Free, Registered, FastRegistered, grant_in_state, state_after_invalidation}
use Rattle.ca_base.specs.objects.SharedReceives.{SharedReceives, after_receive_post, after_receive_take, is_full_of_receives}
use Rattle.ca_keys.specs.Numbers.{is_window_key}
use Rattle.ca_base.specs.objects.StateTable.{is_among}
use Rattle.ca_base.specs.objects.Window.{Binding}
use Rattle.ca_keys.specs.Memory.{runs_for}
use Rattle.ca_grant.specs.Access.{FitInBytes}
use Rattle.ca_grant.specs.Parts.{LiesWithin, grants_of_parts}
use Rattle.ca_law_world.proofs.Sound.ArrivalLemmas.{responder-queue}
use Rattle.ca_law_world.proofs.Sound.ObjectLemmas.{post-receive, take-receive}
use Rattle.ca_law_world.proofs.Sound.RespondLemmas.{arrival-good, respond-good}
use Rattle.ca_law_world.proofs.Sound.ResponseLemmas.{IsGoodEnding, IsGoodRow}
use Rattle.ca_base.specs.declared.request.RecvRequest.{RecvRequest}
use Rattle.ca_model.specs.declared.mark.Drop1.{Drop1}
use Rattle.ca_model.specs.declared.mark.Drop1.TheVariants as drops
use Rattle.ca_model.specs.machine.Delivery.{arrival_drops, packet_arrived}
use Rattle.ca_model.specs.machine.Invariants.{IsQueue, IsReceive, IsSharedReceives}
use Rattle.ca_model.specs.machine.Respond.{answer_turn, respond_row}
use Rattle.ca_model.specs.machine.Responses.{drop_effects}
use Rattle.ca_model.specs.machine.Row.{Ending, NotPossible, Does, Row, ending_of, plain_row}
use Rattle.ca_model.specs.Marks.{MarkList}
use Rattle.ca_responder_operations.specs.Taking.{IsArrival, ended_by, outcome_in, without_key}
use Rattle.ca_qp_rows.specs.Made.{IsTurn}
use Rattle.test_fixture_reach.specs.SmallLaws.{places-here}
use Rattle.test_fixture_reach.specs.SmallReach.{FitTogether, IsCounted, IsInBuffer, after_end_of, after_write_by}
use Rattle.test_fixture_reach.specs.declared.small_reach.SmallReach.{SmallReach}
use Rattle.test_fixture_requester.proofs.Kept.{ends-good, writes-keep}
use Rattle.test_fixture_requester.specs.Bed.{Stands}
use Rattle.test_fixture_requester.specs.declared.bed.Bed.{Bed}
use Rattle.ca_wire.proofs.PacketLaws.{packet_again}
use Rattle.ca_wire.specs.declared.wire_error.WireError.{WireError}
use Rattle.ca_wire.specs.Packet.{Fields, Spells}

-- the row of a request that is spelt so, and that the adapter does not drop, is good
pub request-good : (bytes : List ℕ) (p : Fields) (envelope : Option ℕ) (shared : Option SharedReceives) (q : QueuePair) → IsQueue q → IfSome shared IsSharedReceives
    → Spells bytes p → first_of (arrival_drops q p) ≡ None → IsGoodRow q (packet_arrived p envelope shared q)
request-good bytes p envelope shared q is all spelt taken =
    subst (IsGoodRow q) (ap row (packet_again bytes p spelt) ∙ ap (dropped p) taken) (arrival-good bytes envelope shared q is all)
  where
    dropped : Fields → Option Drop1 → Row
    dropped p (Some cause) = plain_row (Does (drop_effects q cause))
    dropped p None = packet_arrived p envelope shared q

    row : Result Fields WireError → Row
    row (Err error) = plain_row (Does (drop_effects q (drops.Wire error)))
    row (Ok p) = dropped p (first_of (arrival_drops q p))

-- the end of a key leaves parts that fit each other
end-keeps : (s : SmallReach) (i : Invalidation) → FitTogether s → FitTogether (after_end_of s i)
end-keeps s i fit = by (is_window_key i.key) refl
  where
    in-buffer : (st : RegionState) → IsInBuffer s (grant_in_state st) → IsInBuffer s (grant_in_state (state_after_invalidation st))
    in-buffer NoRegion h = h
    in-buffer (Free pages) h = h
    in-buffer (Registered g) h = h
    in-buffer (FastRegistered pages g) h = tt

    within : (st : RegionState) (b : Option Binding) → LiesWithin b (grant_in_state st) → LiesWithin b (grant_in_state (state_after_invalidation st))
    within NoRegion b h = h
    within (Free pages) b h = h
    within (Registered g) b h = h
    within (FastRegistered pages g) None h = tt
    within (FastRegistered pages g) (Some b) h = tt

    counted : (b : Option Binding) → IsCounted b s.region → IsCounted b (after_region_invalidation s.region)
    counted None h = h
    counted (Some b) h = h

    by : (b : Bool) → is_window_key i.key ≡ b → FitTogether (after_end_of s i)
    by true e = rw e (record { window = fit.window; region = fit.region; lies = tt; counted = tt })
    by false e = rw e (record {
      window = fit.window;
      region = in-buffer s.region.state fit.region;
      lies = within s.region.state s.window.binding fit.lies;
      counted = counted s.window.binding fit.counted;
    })

key-keeps : (o : Option Invalidation) (s : SmallReach) → FitTogether s → FitTogether (without_key after_end_of o s)
key-keeps None s fit = fit
key-keeps (Some i) s fit = end-keeps s i fit

-- the queue pair comes up, and the parts that are reached fit each other
pub record IsKept (q : QueuePair) (reach : SmallReach) : Type 0 where
  pub queue : IsQueue q
  pub parts : FitTogether reach

kept-by : (q r : QueuePair) (s t : SmallReach) → IsQueue r → FitTogether t → q ≡ r → s ≡ t → IsKept q s
kept-by q r s t queue parts e f = rw (e, f) (record { queue = queue; parts = parts })

arrival-ending-kept : (result : Result (Unit {0}) Memory) (ending : Ending) (ended : Option Invalidation) (q new : QueuePair) (before after : MarkList) (s t : SmallReach)
    (shared left : Option SharedReceives) → IsQueue q → FitTogether s → IsGoodEnding q ending
    → IsArrival after_write_by after_end_of result (record { ending = ending; ended = ended }) q new before after s t shared left → IsKept new t
arrival-ending-kept (Ok done) (Does e) ended q new before after s t shared left queue parts good h =
    kept-by new e.queue t _ good.sound (key-keeps ended _ (writes-keep e.writes s parts)) h.0.queue h.1.0
arrival-ending-kept (Ok done) (NotPossible reason) ended q new before after s t shared left queue parts good h = absurd h
arrival-ending-kept (Err memory) ending ended q new before after s t shared left queue parts good h = kept-by new q t s queue parts h.0.queue h.1.0

-- a request leaves a queue pair that comes up, over parts that fit each other
pub arrival_kept : (result : Result (Unit {0}) Memory) (sight : Sight) (row : Row) (q new : QueuePair) (before after : MarkList) (s t : SmallReach)
    (shared left : Option SharedReceives) → IsQueue q → FitTogether s → IsGoodRow q row
    → IsArrival after_write_by after_end_of result (outcome_in sight row) q new before after s t shared left → IsKept new t
arrival_kept result sight row q new before after s t shared left queue parts good h =
    arrival-ending-kept result (ending_of sight row) (ended_by sight row) q new before after s t shared left queue parts (ends-good q sight row good) h

-- the shared receive queue after a request is one that comes up, and its next place is the same
pub record IsTakenFrom (s t : SharedReceives) : Type 0 where
  pub sound : IsSharedReceives t
  pub next : t.next ≡ s.next

taken-from : (s : SharedReceives) → IsSharedReceives s → (b : Bool) → IfSome (if b then option_map after_receive_take (Some s) else Some s) (IsTakenFrom s)
taken-from s sound true = record { sound = take-receive s sound; next = refl }
taken-from s sound false = record { sound = sound; next = refl }

left-by : (s t : SharedReceives) (o : Option SharedReceives) → Some t ≡ o → IfSome o (IsTakenFrom s) → IsTakenFrom s t
left-by s t o e h = let P : Option SharedReceives → Type 0 = λ o. IfSome o (IsTakenFrom s) in subst P (sym e) h

shared-ending-kept : (result : Result (Unit {0}) Memory) (ending : Ending) (ended : Option Invalidation) (q new : QueuePair) (before after : MarkList) (x y : SmallReach)
    (s t : SharedReceives) → IsSharedReceives s
    → IsArrival after_write_by after_end_of result (record { ending = ending; ended = ended }) q new before after x y (Some s) (Some t) → IsTakenFrom s t
shared-ending-kept (Ok done) (Does e) ended q new before after x y s t sound h = left-by s t _ h.1.1 (taken-from s sound e.takes_shared)
shared-ending-kept (Ok done) (NotPossible reason) ended q new before after x y s t sound h = absurd h
shared-ending-kept (Err memory) ending ended q new before after x y s t sound h = left-by s t _ h.1.1 (record { sound = sound; next = refl })

-- a request leaves such a shared receive queue
pub shared_kept : (result : Result (Unit {0}) Memory) (sight : Sight) (row : Row) (q new : QueuePair) (before after : MarkList) (x y : SmallReach)
    (s t : SharedReceives) → IsSharedReceives s
    → IsArrival after_write_by after_end_of result (outcome_in sight row) q new before after x y (Some s) (Some t) → IsTakenFrom s t
shared_kept result sight row q new before after x y s t sound h =
    shared-ending-kept result (ending_of sight row) (ended_by sight row) q new before after x y s t sound h

-- the places of an ask by the region's own key lie in the buffer
pub store_fits : (s : SmallReach) (ask : Ask) → FitTogether s → ask.domain.adapter ≡ s.slot.domain.adapter → is_window_key ask.key ≡ false
    → FitInBytes (length s.buffer) (runs_for ask (grants_of_parts None (Some s.region)) ask.touch)
store_fits s ask fit adapter own = rw own at ((places-here s ask (record { parts = fit; adapter = adapter })).0)

-- without room nothing is asked for
pub asks_with : (room : Bool) (q : QueuePair) (P : Ask → Type 0) → AllByRecursion P (respond_row true q).asks → AllByRecursion P (respond_row room q).asks
asks_with true q P all = all
asks_with false q P all =
    by (is_among (states.Reset ∷ states.Init ∷ []) q.state) (is_none (slice_get q.responder.answers 0)) (slice_get q.responder.answers 0)
  where
    front : Option Reason → Option Queued → Row
    front (Some reason) answer = plain_row (NotPossible reason)
    front None None = plain_row (NotPossible reasons.Empty)
    front None (Some answer) = answer_turn q answer

    by : (idle none : Bool) (answer : Option Queued)
        → AllByRecursion P (front (first_of ((idle, reasons.State) ∷ (none, reasons.Empty) ∷ (true, reasons.NoRoom) ∷ [])) answer).asks
    by true none answer = tt
    by false true answer = tt
    by false false answer = tt

turn-ending-kept : (result : Result Sent ActError) (ending : Ending) (q new : QueuePair) (before after : MarkList) (s t : SmallReach) (out_before out_after : List ℕ)
    → IsQueue q → FitTogether s → IsGoodEnding q ending → IsTurn after_write_by result ending q new before after s t out_before out_after → IsKept new t
turn-ending-kept (Ok sent) (Does e) q new before after s t out_before out_after queue parts good h =
    kept-by new e.queue t _ good.sound (writes-keep e.writes s parts) h.1.0.queue h.1.1.0
turn-ending-kept (Ok sent) (NotPossible reason) q new before after s t out_before out_after queue parts good h = absurd h
turn-ending-kept (Err (steps.NotReady reason)) ending q new before after s t out_before out_after queue parts good h =
    kept-by new q t s queue parts h.1.0.queue h.1.1.0
turn-ending-kept (Err steps.Memory) ending q new before after s t out_before out_after queue parts good h = kept-by new q t s queue parts h.0.queue h.1.0

-- the responder's turn leaves a queue pair that comes up, over parts that fit each other
pub respond_kept : (result : Result Sent ActError) (sight : Sight) (room : Bool) (q new : QueuePair) (before after : MarkList) (s t : SmallReach) (out_before out_after : List ℕ)
    → IsQueue q → FitTogether s → IsTurn after_write_by result (ending_of sight (respond_row room q)) q new before after s t out_before out_after → IsKept new t
respond_kept result sight room q new before after s t out_before out_after queue parts h =
    turn-ending-kept result (ending_of sight (respond_row room q)) q new before after s t out_before out_after queue parts
    (ends-good q sight (respond_row room q) (respond-good room q queue)) h

pub posted_kept : (r : RecvRequest) (s t : SharedReceives) → IsSharedReceives s → IsReceive r → IsTrue (not (is_full_of_receives s)) → t ≡ after_receive_post r s
    → IsSharedReceives t
posted_kept r s t sound receive free same = rw same (post-receive r s sound receive (by (is_full_of_receives s) free))
  where
    by : (b : Bool) → IsTrue (not b) → b ≡ false
    by true h = absurd (true≢false (sym h))
    by false h = refl

pub stands_by : (b : Bed) → IsKept b.queue b.reach → Stands b
stands_by b kept = record { queue = kept.queue; reach = kept.parts }

-- a queue pair may have accepted any number of messages
pub msn_kept : (q : QueuePair) (msn : ℕ) → IsQueue q → msn < 2 ^ 24 → IsQueue (with_responder (record q.responder { msn = msn }) q)
msn_kept q msn is bits = responder-queue q (record q.responder { msn = msn }) is refl (record {
  base = is.responder.base;
  msn = bits;
  mtu = is.responder.mtu;
  rnr_code = is.responder.rnr_code;
  message = is.responder.message;
  answers = is.responder.answers;
  silent = is.responder.silent;
  empty = is.responder.empty;
}) is.taken
