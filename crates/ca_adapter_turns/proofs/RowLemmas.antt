-- The rows of the engines that send: they write nothing, take no receive and end no key, and without room they do nothing.
-- For proofs only.
use Rattle.std.proofs.Common.{◌≡◌, ℕ, ◌≤◌, refl, sym, subst, arith, Bool, true, false, not, ◌||◌, List, [], ◌∷◌, map, Option, None, Some, slice_get, is_none, if◌then◌else◌, true≢false}
use Rattle.std.specs.Option.{option_and_then}
use Rattle.ca_base.specs.declared.change.State.TheVariants as states
use Rattle.ca_base.specs.declared.correspondent.Correspondent.{Correspondent}
use Rattle.ca_base.specs.declared.denied_ask.DeniedAsk.{DeniedAsk}
use Rattle.ca_base.specs.declared.queue_numbers.Queued.{Queued}
use Rattle.ca_base.specs.declared.queue_numbers.Queued.TheVariants as queued
use Rattle.ca_base.specs.declared.refusals.OpRefusal.{OpRefusal}
use Rattle.ca_base.specs.declared.step.Reason.{Reason}
use Rattle.ca_base.specs.declared.step.Reason.TheVariants as reasons
use Rattle.ca_base.specs.Sight.{Sight, bytes_in, first_denied}
use Rattle.ca_base.specs.objects.Mailbox.{Mailbox, has_room, passes}
use Rattle.ca_base.specs.objects.QueuePair.{QueuePair, correspondent_of}
use Rattle.ca_base.specs.objects.StateTable.{is_among}
use Rattle.ca_keys.specs.Refusals.{first_of}
use Rattle.ca_model.specs.machine.Numbering.{Numbered}
use Rattle.ca_model.specs.machine.Requester.{denied_list_effects, is_outstanding, is_too_much, packet_asks, packet_row, sent_packet}
use Rattle.ca_model.specs.machine.Respond.{answer_turn, respond_refusals, respond_row}
use Rattle.ca_model.specs.machine.Row.{Does, Effects, Ending, NotPossible, Row, ending_of, plain_row}
use Rattle.ca_model.specs.machine.Turns.{has_room_for}
use Rattle.ca_requester.specs.ca_qp_rows.Asks.{touched_by}
use Rattle.ca_adapter_turns.specs.declared.sending.Sender.{Sender}
use Rattle.ca_adapter_turns.specs.declared.sending.Sender.TheVariants.{Requester, Responder}
use Rattle.ca_adapter_turns.specs.Senders.{CanSend, row_of}
use Rattle.ca_adapter_turns.specs.Stepped.{HasRoomFor}
use Rattle.ca_adapter_turns.proofs.SenderLemmas.{IsQuiet, Quietly, quiet-row}

-- a row that is not possible
stuck-quiet : (reason : Reason) → IsQuiet (plain_row (NotPossible reason))
stuck-quiet reason = quiet-row (plain_row (NotPossible reason)) refl (λ d. record {}) (λ bytes refusal. record {})

-- an answer writes nothing, takes no receive, and ends no key
respond-quiet : (room : Bool) (q : QueuePair) → IsQuiet (respond_row room q)
respond-quiet room q = by (first_of (respond_refusals room q)) (slice_get q.responder.answers 0)
  where
    front : Option Reason → Option Queued → Row
    front (Some reason) answer = plain_row (NotPossible reason)
    front None None = plain_row (NotPossible reasons.Empty)
    front None (Some answer) = answer_turn q answer

    turn : (a : Queued) → IsQuiet (answer_turn q a)
    turn (queued.Ack psn) = quiet-row _ refl (λ d. (refl, refl)) (λ bytes refusal. (refl, refl))
    turn (queued.Rnr psn) = quiet-row _ refl (λ d. (refl, refl)) (λ bytes refusal. (refl, refl))
    turn (queued.Nak psn code) = quiet-row _ refl (λ d. (refl, refl)) (λ bytes refusal. (refl, refl))
    turn (queued.Read psn key address left first envelope duplicate) = quiet-row _ refl (λ d. (refl, refl)) (λ bytes refusal. (refl, refl))
    turn (queued.Atomic psn found duplicate) = quiet-row _ refl (λ d. (refl, refl)) (λ bytes refusal. (refl, refl))

    by : (o : Option Reason) (a : Option Queued) → IsQuiet (front o a)
    by (Some reason) a = stuck-quiet reason
    by None None = stuck-quiet reasons.Empty
    by None (Some a) = turn a

-- and so does a packet of a request
quietly-if : (b : Bool) (x y : Ending) → Quietly x → Quietly y → Quietly (if b then x else y)
quietly-if true x y first second = first
quietly-if false x y first second = second

quiet-if : (b : Bool) (r s : Row) → IsQuiet r → IsQuiet s → IsQuiet (if b then r else s)
quiet-if true r s first second = first
quiet-if false r s first second = second

-- what is judged of a packet that is not too much, and what then is done
abbrev packet-judged : QueuePair → Bool → Numbered → Row
packet-judged q room n = record {
  asks = packet_asks q n;
  invalidation = None;
  denied = λ d. if is_outstanding q then NotPossible reasons.Outstanding else if not room then NotPossible reasons.NoRoom else Does (denied_list_effects q d);
  allowed = λ bytes refusal. if not room then NotPossible reasons.NoRoom else Does (sent_packet q n bytes);
}

packet-quiet : (room : Bool) (q : QueuePair) (n : Numbered) → IsQuiet (packet_row q room n)
packet-quiet room q n = quiet-if (is_too_much q n) (plain_row (NotPossible reasons.Outstanding)) (packet-judged q room n) (stuck-quiet reasons.Outstanding)
    (quiet-row (packet-judged q room n) refl
    (λ d. quietly-if (is_outstanding q) (NotPossible reasons.Outstanding) (if not room then NotPossible reasons.NoRoom else Does (denied_list_effects q d)) (record {})
    (quietly-if (not room) (NotPossible reasons.NoRoom) (Does (denied_list_effects q d)) (record {}) (refl, refl)))
    (λ bytes refusal. quietly-if (not room) (NotPossible reasons.NoRoom) (Does (sent_packet q n bytes)) (record {}) (refl, refl)))

-- a sender's row writes nothing, takes no receive, and ends no key
pub sender-quiet : (sender : Sender) (room : Bool) (q : QueuePair) → CanSend sender q → IsQuiet (row_of sender room q)
sender-quiet Responder room q can = respond-quiet room q
sender-quiet (Requester found) room q can = subst IsQuiet (sym (can.sending.row room)) (packet-quiet room q can.next.request)

-- with no room nothing is sent
abbrev IsStuck : Ending → Type 0
IsStuck (NotPossible reason) = Unit {0}
IsStuck (Does e) = ⊥

not-done : (x : Ending) (e : Effects) → IsStuck x → x ≡ Does e → ⊥
not-done x e stuck is = subst IsStuck is stuck

stuck-row : (row : Row) (s : Sight) (e : Effects) → ((d : DeniedAsk) → IsStuck (row.denied d)) → ((bytes : List (List ℕ)) (refusal : Option OpRefusal) → IsStuck (row.allowed bytes refusal))
    → ending_of s row ≡ Does e → ⊥
stuck-row row s e denied allowed = not-done (ending_of s row) e (by (first_denied s row.asks))
  where
    ending : Option DeniedAsk → Ending
    ending (Some d) = row.denied d
    ending None = row.allowed (map (bytes_in s) row.asks) (option_and_then s.refusal row.invalidation)

    by : (o : Option DeniedAsk) → IsStuck (ending o)
    by (Some d) = denied d
    by None = allowed (map (bytes_in s) row.asks) (option_and_then s.refusal row.invalidation)

stuck-if : (b : Bool) (x y : Ending) → IsStuck x → IsStuck y → IsStuck (if b then x else y)
stuck-if true x y first second = first
stuck-if false x y first second = second

respond-stuck : (q : QueuePair) (s : Sight) (e : Effects) → ending_of s (respond_row false q) ≡ Does e → ⊥
respond-stuck q s e = by (is_among (states.Reset ∷ states.Init ∷ []) q.state) (slice_get q.responder.answers 0)
  where
    front : Option Reason → Option Queued → Row
    front (Some reason) answer = plain_row (NotPossible reason)
    front None None = plain_row (NotPossible reasons.Empty)
    front None (Some answer) = answer_turn q answer

    by : (a : Bool) (o : Option Queued) → ending_of s (front (if a then Some reasons.State else if is_none o then Some reasons.Empty else Some reasons.NoRoom) o) ≡ Does e → ⊥
    by true o = not-done (NotPossible reasons.State) e (record {})
    by false None = not-done (NotPossible reasons.Empty) e (record {})
    by false (Some answer) = not-done (NotPossible reasons.NoRoom) e (record {})

packet-stuck : (q : QueuePair) (n : Numbered) (s : Sight) (e : Effects) → ending_of s (packet_row q false n) ≡ Does e → ⊥
packet-stuck q n s e = by (is_too_much q n)
  where
    by : (b : Bool) → ending_of s (if b then plain_row (NotPossible reasons.Outstanding) else packet-judged q false n) ≡ Does e → ⊥
    by true = not-done (NotPossible reasons.Outstanding) e (record {})
    by false = stuck-row (packet-judged q false n) s e
        (λ d. stuck-if (is_outstanding q) (NotPossible reasons.Outstanding) (NotPossible reasons.NoRoom) (record {}) (record {}))
        (λ bytes refusal. record {})

pub sender-roomy : (sender : Sender) (room : Bool) (q : QueuePair) (s : Sight) (e : Effects) → CanSend sender q → ending_of s (row_of sender room q) ≡ Does e → room ≡ true
sender-roomy sender true q s e can does = refl
sender-roomy Responder false q s e can does = absurd (respond-stuck q s e does)
sender-roomy (Requester found) false q s e can does =
    absurd (packet-stuck q can.next.request s e (subst (λ row. ending_of s row ≡ Does e) (can.sending.row false) does))

-- where there is room, there is room for what passes
pub roomy : (q : QueuePair) (p : Correspondent) (m : Mailbox) → has_room_for q p m ≡ true → HasRoomFor (correspondent_of q) p m
roomy q p m room path = by (passes (correspondent_of q) p.incarnation m) path room
  where
    by : (b : Bool) → b ≡ true → (not b || has_room m) ≡ true → has_room m ≡ true
    by true path room = room
    by false path room = absurd (true≢false (sym path))

-- with no room an answer asks for nothing
pub respond_touches : (room : Bool) (q : QueuePair) → touched_by (respond_row room q).asks ≤ touched_by (respond_row true q).asks
respond_touches true q = omega arith
respond_touches false q = by (is_among (states.Reset ∷ states.Init ∷ []) q.state) (slice_get q.responder.answers 0)
  where
    front : Option Reason → Option Queued → Row
    front (Some reason) answer = plain_row (NotPossible reason)
    front None None = plain_row (NotPossible reasons.Empty)
    front None (Some answer) = answer_turn q answer

    by : (a : Bool) (o : Option Queued)
        → touched_by (front (if a then Some reasons.State else if is_none o then Some reasons.Empty else Some reasons.NoRoom) o).asks
        ≤ touched_by (front (if a then Some reasons.State else if is_none o then Some reasons.Empty else None) o).asks
    by true o = omega arith
    by false None = omega arith
    by false (Some answer) = omega arith
