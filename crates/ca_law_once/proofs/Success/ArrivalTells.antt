-- What an arrival tells of successes of sends. For proofs only.
use Rattle.std.proofs.Common.{◌≡◌, ℕ, suc, ◌-◌, ◌%◌, ◌^◌, ◌==◌, ◌<◌, ◌≤◌, Bool, true, false, if◌then◌else◌, List, [], ◌∷◌, length, Option, None, Some, IfSome, is_some, Result, Ok, Err, refl, ap, sym, subst, ◌∙◌, arith, true≢false}
use Rattle.std.proofs.lemmas.List.{length-drop, length-take}
use Rattle.std.proofs.lemmas.Option.{same_Some}
use Rattle.std.specs.List.{AllByRecursion}
use Rattle.std.specs.Option.{option_map_or}
use Rattle.ca_base.specs.declared.completion.Completion.{Completion}
use Rattle.ca_base.specs.objects.QueuePair.{QueuePair}
use Rattle.ca_base.specs.objects.SharedReceives.{SharedReceives}
use Rattle.ca_base.specs.objects.WorkQueue.{items_from}
use Rattle.ca_connection.proofs.LayoutLemmas.{first-le}
use Rattle.ca_connection.specs.Layout.{Direction, first}
use Rattle.ca_connection.specs.Link.Response.{Found}
use Rattle.ca_keys.specs.Memory.{little_endian_bytes}
use Rattle.ca_keys.specs.Refusals.{first_of}
use Rattle.ca_law_world.proofs.Sound.GoodLemmas.{AreSettledMarks, IsSettledMark}
use Rattle.ca_law_world.proofs.Sound.NumberingLemmas.{length-numbers}
use Rattle.ca_law_world.specs.Steady.{EndsBehind, IsSteadyQueue}
use Rattle.ca_model.specs.Packets.{is_response}
use Rattle.ca_model.specs.Past.{is_send_success}
use Rattle.ca_model.specs.declared.mark.Drop1.{Drop1}
use Rattle.ca_model.specs.declared.mark.Drop1.TheVariants as drops
use Rattle.ca_model.specs.declared.mark.Mark.{Mark}
use Rattle.ca_model.specs.declared.mark.Mark.TheVariants as marks
use Rattle.ca_model.specs.machine.Delivery.{arrival_drops, arrival_row, packet_arrived}
use Rattle.ca_model.specs.machine.Duplicates.{request_row}
use Rattle.ca_model.specs.machine.Invariants.{IsQueue, is_sending}
use Rattle.ca_model.specs.machine.Numbering.{Numbered, begun_requests, unfinished_requests}
use Rattle.ca_model.specs.machine.Responses.{answer_bytes, drop_effects, response_psn, response_row}
use Rattle.ca_model.specs.machine.Row.{Does, Effects, Ending, NotPossible, Row, plain_row}
use Rattle.ca_wire.specs.Decoding.{packet_in}
use Rattle.ca_wire.specs.Packet.{Fields}
use Rattle.ca_wire.specs.Table.{shape_of}
use Rattle.ca_wire.specs.declared.opcode.TheConstants.{ATOMIC_ACKNOWLEDGE}
use Rattle.ca_wire.specs.declared.shape.Shape.{Shape}
use Rattle.ca_wire.specs.declared.wire_error.WireError.{WireError}
use Rattle.ca_psn.specs.Psn.{widened}
use Rattle.ca_law_once.proofs.Rows.ArrivalLemmas.{weaker}
use Rattle.ca_law_once.proofs.Rows.LayLemmas.{Lie, begun-lie}
use Rattle.ca_law_once.proofs.Rows.RequestRowLemmas.{plain}
use Rattle.ca_law_once.proofs.Rows.StayLemmas.{Stays, request-stays}
use Rattle.ca_law_once.proofs.Rows.StayLemmas.Stays.{still, ended}
use Rattle.ca_law_once.specs.Entries.{ResponseEntry, SpellsResponse}
use Rattle.ca_law_once.specs.Moves.{EndingLeads, RowLeads}
use Rattle.ca_law_once.specs.Sides.{IsLaid}
use Rattle.ca_law_once.proofs.Success.ResponseTells.{Finishes, Told, response-told}
use Rattle.ca_law_once.proofs.Success.ResultLemmas.{atomic-has-result, low-bytes}
use Rattle.ca_law_once.proofs.Success.SilentRows.{drop-silent, request-silent}
use Rattle.ca_law_once.proofs.Success.TellLemmas.{AllTell, AreSilent, silent-tell, success_of}
use Rattle.ca_law_once.specs.Lists.{ListFits}
use Rattle.ca_law_once.specs.Success.{bytes_put}

-- what an arrival tells of successes; and where the packet is the response of an atomic, and `una` goes beyond its number,
-- the bytes of its value are what was put into lists
pub record ArrivalTold (d : Direction) (q : QueuePair) (bytes : List ℕ) (e : Effects) : Type 0 where
  pub tells : AllTell q.queue (Finishes d q e.queue) e.marks
  pub puts : (n found : ℕ) → SpellsResponse (Found n found) bytes → widened q.requester.una (n % 2 ^ 24) < e.queue.requester.una → q.requester.una < e.queue.requester.una → bytes_put e.marks ≡ little_endian_bytes found

-- what is silent, and leaves `una`
silent-told : (d : Direction) (q : QueuePair) (bytes : List ℕ) (e : Effects) → AreSilent e.marks → e.queue.requester.una ≡ q.requester.una → ArrivalTold d q bytes e
silent-told d q bytes e silent same = record { tells = silent-tell q.queue (Finishes d q e.queue) e.marks silent; puts = λ n found spells above more. absurd (omega (arith, more, same)) }

-- the value of an ATOMIC Acknowledge
value-bytes : (bytes : List ℕ) (p : Fields) (n found : ℕ) → packet_in bytes ≡ Ok p → ResponseEntry (Found n found) p → answer_bytes p ≡ little_endian_bytes found
value-bytes bytes p n found is entry = ap (λ b. if b then little_endian_bytes (option_map_or (λ n. n) p.«result» 0) else p.payload) (ap (λ m. m == ATOMIC_ACKNOWLEDGE) entry.says.0)
    ∙ by p.«result» (atomic-has-result bytes p is entry.says.0) entry.says.1
  where
    by : (o : Option ℕ) → is_some o ≡ true → IfSome o (λ value. value ≡ found % 2 ^ 64) → little_endian_bytes (option_map_or (λ n. n) o 0) ≡ little_endian_bytes found
    by None there same = absurd (true≢false (sym there))
    by (Some value) there same = ap little_endian_bytes same ∙ low-bytes found

stays-una : (q p : QueuePair) → Stays q p → p.requester.una ≡ q.requester.una
stays-una q p (still requester sends state mtu) = ap (λ r. r.una) requester
stays-una q p (ended una cursor error mtu) = una

both-lead : (P Q : Effects → Type 0) (row : Row) → RowLeads P row → RowLeads Q row → RowLeads (λ e. P e × Q e) row
both-lead P Q row one other = record { denied = λ d. by (row.denied d) (one.denied d) (other.denied d); allowed = λ bytes refusal. by (row.allowed bytes refusal) (one.allowed bytes refusal) (other.allowed bytes refusal) }
  where
    by : (e : Ending) → EndingLeads P e → EndingLeads Q e → EndingLeads (λ e. P e × Q e) e
    by (NotPossible reason) a b = record {}
    by (Does e) a b = (a, b)

pub arrival-told : (d : Direction) (bytes : List ℕ) (envelope : Option ℕ) (shared : Option SharedReceives) (q : QueuePair) → IsQueue q → (is_sending q.state ≡ true → IsLaid d q) → AllByRecursion ListFits q.sends.items
    → RowLeads (ArrivalTold d q bytes) (arrival_row bytes envelope shared q)
arrival-told d bytes envelope shared q s laid lists = by (packet_in bytes) refl
  where
    P : Effects → Type 0
    P e = ArrivalTold d q bytes e

    dropped : (cause : Drop1) → ArrivalTold d q bytes (drop_effects q cause)
    dropped cause = silent-told d q bytes (drop_effects q cause) (drop-silent q cause) refl

    unless : Fields → Option Drop1 → Row
    unless p (Some cause) = plain_row (Does (drop_effects q cause))
    unless p None = packet_arrived p envelope shared q

    row : Result Fields WireError → Row
    row (Err error) = plain_row (Does (drop_effects q (drops.Wire error)))
    row (Ok p) = unless p (first_of (arrival_drops q p))

    shaped : Fields → Option Shape → Row
    shaped p (Some shape) = request_row p envelope shared shape q
    shaped p None = plain_row (Does (drop_effects q drops.State))

    request : (p : Fields) (o : Option Shape) → RowLeads (ArrivalTold d q bytes) (shaped p o)
    request p (Some shape) = weaker (λ e. AreSilent e.marks × Stays q e.queue) (ArrivalTold d q bytes) (request_row p envelope shared shape q) (λ e both. silent-told d q bytes e both.0 (stays-una q e.queue both.1))
        (both-lead (λ e. AreSilent e.marks) (λ e. Stays q e.queue) (request_row p envelope shared shape q) (request-silent p envelope shared shape q) (request-stays p envelope shared shape q))
    request p None = plain (ArrivalTold d q bytes) (drop_effects q drops.State) (dropped drops.State)

    response : (p : Fields) → packet_in bytes ≡ Ok p → (e : Effects) → Told d (response_psn q p) q p e → ArrivalTold d q bytes e
    response p is e told = record {
      tells = told.tells;
      puts = λ n found spells above more. let entry = (spells p is).1 in
          told.puts entry.says.0 (subst (λ m. widened q.requester.una m < e.queue.requester.una) (sym entry.psn) above) more ∙ value-bytes bytes p n found is entry;
    }

    arrived : (p : Fields) → packet_in bytes ≡ Ok p → (b : Bool) → RowLeads (ArrivalTold d q bytes) (if b then response_row p q else shaped p (shape_of p.opcode))
    arrived p is true = weaker (Told d (response_psn q p) q p) (ArrivalTold d q bytes) (response_row p q) (response p is) (response-told d q p s laid lists)
    arrived p is false = request p (shape_of p.opcode)

    of_packet : (p : Fields) → packet_in bytes ≡ Ok p → (o : Option Drop1) → RowLeads (ArrivalTold d q bytes) (unless p o)
    of_packet p is (Some cause) = plain (ArrivalTold d q bytes) (drop_effects q cause) (dropped cause)
    of_packet p is None = arrived p is (is_response p.opcode)

    by : (r : Result Fields WireError) → packet_in bytes ≡ r → RowLeads (ArrivalTold d q bytes) (row r)
    by (Err error) is = plain (ArrivalTold d q bytes) (drop_effects q (drops.Wire error)) (dropped (drops.Wire error))
    by (Ok p) is = of_packet p is (first_of (arrival_drops q p))

-- ---- whose completions they are

-- the completions of a turn are of its queue pair
pub own-tell : (q p : QueuePair) (ms : List Mark) → p.queue ≡ q.queue → AreSettledMarks p ms → AllTell q.queue (λ place. Unit {0}) ms
own-tell q p [] same settled = record {}
own-tell q p (m ∷ ms) same settled = (one m settled.0, own-tell q p ms same settled.1)
  where
    one : (m : Mark) → IsSettledMark p m → (x : Completion) → success_of m ≡ Some x → (x.queue ≡ q.queue) × Unit {0}
    one (marks.Done queue y cause) is x e = by (is_send_success y) e
      where
        by : (b : Bool) → (if b then Some y else None) ≡ Some x → (x.queue ≡ q.queue) × Unit {0}
        by true e = (ap (λ (z : Completion). z.queue) (sym (same_Some y x e)) ∙ is.0 ∙ same, record {})
        by false e = absurd (true≢false (sym (ap is_some e)))
    one (marks.Verb by verb answer) is x e = absurd (true≢false (sym (ap is_some e)))
    one (marks.Sent source target index request bytes) is x e = absurd (true≢false (sym (ap is_some e)))
    one (marks.Lost target index) is x e = absurd (true≢false (sym (ap is_some e)))
    one (marks.Granted g) is x e = absurd (true≢false (sym (ap is_some e)))
    one (marks.Revoked adapter key) is x e = absurd (true≢false (sym (ap is_some e)))
    one (marks.Remote queue domain envelope key kind address count verdict) is x e = absurd (true≢false (sym (ap is_some e)))
    one (marks.Local queue domain key kind address count verdict) is x e = absurd (true≢false (sym (ap is_some e)))
    one (marks.Stored place bytes) is x e = absurd (true≢false (sym (ap is_some e)))
    one (marks.Arrived target index) is x e = absurd (true≢false (sym (ap is_some e)))
    one (marks.Dropped target cause) is x e = absurd (true≢false (sym (ap is_some e)))
    one (marks.Timer queue silent) is x e = absurd (true≢false (sym (ap is_some e)))

-- ---- what finishes had begun and was unfinished

ends-first : (d : Direction) (una place : ℕ) (ns : List Numbered) → Lie d place ns → EndsBehind una ns → 0 < length ns → una < first d (suc place)
ends-first d una place [] lie ends some = absurd (omega (arith, some))
ends-first d una place (n ∷ ns) lie ends some = omega (arith, ends, lie.0.1.end, ap (λ k. first d (suc k)) lie.0.0)

-- so many are unfinished
unfinished-some : (q : QueuePair) → IsQueue q → (place : ℕ) → q.requester.oldest ≤ place → place < q.requester.next → 0 < length (unfinished_requests q)
unfinished-some q s place low high = omega (
  arith,
  low,
  high,
  s.requester.finished,
  s.requester.waiting,
  length-numbers q.responder.mtu q.requester.oldest q.requester.oldest_psn (items_from q.requester.oldest q.sends),
  length-drop (q.requester.oldest - q.sends.first) q.sends.items,
)

pub finishes-beyond : (d : Direction) (q p : QueuePair) (place : ℕ) → IsQueue q → IsSteadyQueue q → IsLaid d q → Finishes d q p place → q.requester.una < first d (suc place)
finishes-beyond d q p place s steady laid finishes = omega (
  arith,
  ends-first d q.requester.una q.requester.oldest (begun_requests q) (begun-lie d q laid) steady.ends
      (omega (arith, unfinished-some q s place finishes.0 finishes.1, finishes.0, finishes.1, length-take (q.requester.next - q.requester.oldest) (unfinished_requests q))),
  first-le d (suc q.requester.oldest) (suc place) (omega (arith, finishes.0)),
)

-- what finishes is of a queue pair that sends
pub finishes-sending : (d : Direction) (q p : QueuePair) (place : ℕ) → IsQueue q → IsSteadyQueue q → Finishes d q p place → is_sending q.state ≡ true
finishes-sending d q p place s steady finishes = by (is_sending q.state) refl
  where
    by : (b : Bool) → is_sending q.state ≡ b → b ≡ true
    by true is = refl
    by false is = absurd (omega (arith, unfinished-some q s place finishes.0 finishes.1, ap length (steady.unfinished is)))
