-- The READ responses that a queue pair sends: how many bytes they have, and which is the last. For proofs only.
use Rattle.std.proofs.Common.{◌≡◌, ℕ, ◌+◌, ◌%◌, ◌^◌, ◌<◌, ◌≤◌, ◌==◌, min, nat_le, Bool, true, false, if◌then◌else◌, List, [], ◌∷◌, length, map, Option, None, Some, IfSome, Ok, is_some, slice_get, refl, ap, sym, subst, ◌∙◌, arith, true≢false}
use Rattle.std.proofs.Common.{append-nil}
use Rattle.std.proofs.lemmas.Bool.{and_parts, eqb-true, leb-true, not-false}
use Rattle.std.proofs.lemmas.Option.{same_Some}
use Rattle.std.specs.List.{flat_map}
use Rattle.std.specs.Option.{option_and_then, option_map_or}
use Rattle.std.specs.Result.{result_ok}
use Rattle.ca_law_endings.proofs.LeadsLemmas.{comes}
use Rattle.ca_law_endings.specs.Runs.{Comes, Leads}
use Rattle.ca_law_carried.proofs.Accesses.EndLemmas.{RowSees, one-allowed}
use Rattle.ca_law_endings.proofs.Leading.{leads-from}
use Rattle.ca_base.specs.Configuration.{Configuration}
use Rattle.ca_base.specs.Sight.{Invalidation, Sight, bytes_in, denial_in, first_denied, runs_by_grant}
use Rattle.ca_base.specs.declared.denied_ask.DeniedAsk.{DeniedAsk}
use Rattle.ca_base.specs.declared.limits.TheConstants.{MAX_PAYLOAD_BYTES}
use Rattle.ca_base.specs.declared.queue_numbers.Queued.{Queued}
use Rattle.ca_base.specs.declared.queue_numbers.Queued.TheVariants as queued
use Rattle.ca_base.specs.declared.step.Reason.{Reason}
use Rattle.ca_base.specs.declared.step.Reason.TheVariants as reasons
use Rattle.ca_base.specs.objects.QueuePair.{QueuePair}
use Rattle.ca_base.specs.objects.Region.{grant_of_region}
use Rattle.ca_base.specs.objects.Slices.{names_region, slot_of_key}
use Rattle.ca_base.specs.objects.Window.{Binding, Window, grant_of_binding}
use Rattle.ca_law_carried.proofs.Carried.RespondEndLemmas.{small-path}
use Rattle.ca_law_carried.proofs.Carried.SpeltLemmas.{IsSpelt, shortened, spelt-again}
use Rattle.ca_law_caused.proofs.Link.SpeltLemmas.{read-no-acknowledge}
use Rattle.ca_law_keys.proofs.Judged.WholeLemmas.{IsWhole, bytes-count, part-whole, region-whole}
use Rattle.ca_keys.specs.Allowed.{covers, denial_under, denials, fits}
use Rattle.ca_keys.specs.Memory.{places_count}
use Rattle.ca_keys.specs.Refusals.{first_of}
use Rattle.ca_keys.specs.declared.access.Ask.{Ask}
use Rattle.ca_keys.specs.declared.grant.Grant.{Grant}
use Rattle.ca_keys.specs.declared.names.Slot.{Slot}
use Rattle.ca_law_world.proofs.Sound.TurnLemmas.{all-fail}
use Rattle.ca_law_world.proofs.Sound.WorldLemmas.{EndingDoes}
use Rattle.ca_law_world.specs.Bindings.{IsBoundWorld, LiesIn}
use Rattle.ca_model.specs.Packets.{answers_read, is_last_read_response}
use Rattle.ca_model.specs.declared.mark.Mark.{Mark}
use Rattle.ca_model.specs.declared.read_left.ReadLeft.{ReadLeft}
use Rattle.ca_model.specs.machine.Invariants.{IsQueue}
use Rattle.ca_model.specs.machine.Plan.{Plan, Update, Write}
use Rattle.ca_model.specs.machine.Requester.{peer_number, psn_bits}
use Rattle.ca_model.specs.machine.Respond.{answer_turn, is_last_response, nak_of, read_row, respond_refusals, respond_row, response_ask, response_segment}
use Rattle.ca_model.specs.machine.Row.{Does, Effects, Ending, NotPossible, Row, Row_plan, grant_if_fitting, grant_over, plain_row, region_under, unless_none}
use Rattle.ca_model.specs.machine.Seen.{asks_window, ending_changes, grant_in, perform_ending, refusal_in, sight_in, writes_in}
use Rattle.ca_model.proofs.PerformLemmas.{row-performs}
use Rattle.ca_model.specs.machine.Sound.{IsSoundWorld}
use Rattle.ca_model.specs.machine.World.{Region_of, World}
use Rattle.ca_wire.specs.Decoding.{packet_in}
use Rattle.ca_wire.specs.Packet.{Fields, spelling}
use Rattle.ca_wire.specs.Shapes.{ends}
use Rattle.ca_wire.specs.Table.{row_of}
use Rattle.ca_wire.specs.declared.opcode.TheConstants.{ATOMIC_ACKNOWLEDGE}
use Rattle.ca_wire.specs.declared.shape.Operation.{Operation}
use Rattle.ca_wire.specs.declared.shape.Operation.TheVariants.{ReadResponse}
use Rattle.ca_wire.specs.declared.shape.Position.{Position}
use Rattle.ca_wire.specs.declared.shape.Position.TheVariants.{First, Middle, Last, Only}
use Rattle.ca_law_once.proofs.Rows.EntryLemmas.{ack-spelt, found-spelt, nak-spelt, peer-fits}
use Rattle.ca_law_once.specs.Entries.{IfPacket}
use Rattle.ca_law_once.specs.Sides.{said}
use Rattle.ca_connection.specs.Link.Response.{Data}
use Rattle.ca_connection.specs.Link.NakReason.{RemoteAccessError as AccessReason}
use Rattle.ca_wire.proofs.BuilderLaws.{read_response_fits}
use Rattle.ca_wire.proofs.OperationLaws.{read_response_is}
use Rattle.ca_wire.specs.Builders.{read_response, read_response_aeth}
use Rattle.ca_wire.specs.Segment.{position_of}
use Rattle.ca_wire.specs.declared.segment.Segment.{Segment}
use Rattle.ca_wire.specs.declared.syndrome.NakCode.TheVariants as codes
use Rattle.ca_wire.specs.declared.syndrome.Syndrome.TheVariants as syndromes
use Rattle.ca_wire.specs.declared.syndrome.TheConstants.{UNLIMITED_CREDITS}

-- ---- rows that end no key, by what is seen

pub leads-sighted : (c : Configuration) (w : World) (P : World → List Mark → Type 0) (E : Effects → Type 0) (row : Row) (finish : Effects → List Update → List Write → Plan) → row.invalidation ≡ None → RowSees (sight_in c w) E row
    → ((e : Effects) (ws : List Write) → E e → Leads w P (finish e [] ws)) → Leads w P (Row_plan c row finish)
leads-sighted c w P E row finish none sees more = leads-from w P (Row_plan c row finish) (subst (Comes P) (sym (row-performs c w row finish)) (by (first_denied s row.asks) refl))
  where
    s : Sight
    s = sight_in c w

    changes : Option Invalidation → List Update
    changes o = option_map_or (λ i. unless_none (refusal_in c w i) (ending_changes c w i)) o []

    changed : Option DeniedAsk → List Update
    changed (Some d) = []
    changed None = changes row.invalidation

    end : Option DeniedAsk → Ending
    end (Some d) = row.denied d
    end None = row.allowed (map (bytes_in s) row.asks) (option_and_then (refusal_in c w) row.invalidation)

    ended : (e : Ending) → EndingDoes E e → Comes P (perform_ending w s finish [] e)
    ended (NotPossible reason) does = record {}
    ended (Does e) does = comes w P (finish e [] (writes_in s e.writes)) (more e (writes_in s e.writes) does)

    by : (d : Option DeniedAsk) → first_denied s row.asks ≡ d → Comes P (perform_ending w s finish (changed d) (end d))
    by (Some d) is = ended (row.denied d) (sees.denied d is)
    by None is = subst (λ o. Comes P (perform_ending w s finish (changes o) (row.allowed (map (bytes_in s) row.asks) (option_and_then (refusal_in c w) o)))) (sym none)
        (ended (row.allowed (map (bytes_in s) row.asks) None) (sees.allowed is None))

-- ---- bytes that are seen

-- the grant that an ask goes by is whole
grant-whole : (c : Configuration) (w : World) (ask : Ask) → IsSoundWorld c w → IsBoundWorld w → IfSome (grant_in c w ask) IsWhole
grant-whole c w ask sound bound = by (names_region c ask.domain ask.key) (asks_window c ask)
  where
    slot : Slot
    slot = slot_of_key ask.domain ask.key

    x : Window
    x = w.window slot

    of-region : (s : Slot) → IfSome (grant_of_region (w.region s)) IsWhole
    of-region s = at (grant_of_region (w.region s)) refl
      where
        at : (o : Option Grant) → grant_of_region (w.region s) ≡ o → IfSome o IsWhole
        at None e = record {}
        at (Some g) e = region-whole c s (w.region s).low (w.region s).state g (sound.things (Region_of s)) e

    fit : (o : Option Grant) → IfSome o IsWhole → IfSome (grant_if_fitting ask o) IsWhole
    fit None at = record {}
    fit (Some g) at = chosen (fits ask g)
      where
        chosen : (b : Bool) → IfSome (if b then Some g else None) IsWhole
        chosen true = at
        chosen false = record {}

    window : Option Binding → Option Grant
    window None = None
    window (Some b) = grant_if_fitting ask (grant_over x b (w.region (region_under x b)))

    over : Binding → Option Grant → Option Grant
    over b None = None
    over b (Some g) = Some (grant_of_binding x b g)

    lies : (b : Binding) (o : Option Grant) → LiesIn b o → IfSome o IsWhole → IfSome (over b o) IsWhole
    lies b None inside at = record {}
    lies b (Some g) inside at = part-whole g b.address b.length at inside.0 inside.1

    under : (o : Option Binding) → IfSome o (λ b. LiesIn b (grant_of_region (w.region (region_under x b)))) → IfSome (window o) IsWhole
    under None inside = record {}
    under (Some b) inside = fit (grant_over x b (w.region (region_under x b))) (lies b (grant_of_region (w.region (region_under x b))) inside (of-region (region_under x b)))

    by : (a z : Bool) → IfSome (if a then grant_if_fitting ask (grant_of_region (w.region slot)) else if z then window x.binding else None) IsWhole
    by true z = fit (grant_of_region (w.region slot)) (of-region slot)
    by false true = under x.binding (bound.inside slot)
    by false false = record {}

-- an ask that is allowed sees as many bytes as it touches
seen-whole : (c : Configuration) (w : World) (ask : Ask) → IsSoundWorld c w → IsBoundWorld w → denial_in (sight_in c w) ask ≡ None → (ask.length == 0) ≡ false → ask.touch ≤ ask.length → length (bytes_in (sight_in c w) ask) ≡ ask.touch
seen-whole c w ask sound bound allowed some few = bytes-count w.byte (runs_by_grant ask (grant_in c w ask))
    ∙ under (grant_in c w ask) (grant-whole c w ask sound bound) (sym (ap (λ b. if b then None else denial_under ask (grant_in c w ask)) some) ∙ allowed)
  where
    under : (o : Option Grant) → IfSome o IsWhole → denial_under ask o ≡ None → places_count (runs_by_grant ask o) ≡ ask.touch
    under None at denied = absurd (true≢false (ap is_some denied))
    under (Some g) at denied = part-whole g ask.address ask.touch at (leb-true g.address ask.address parts.0) (omega (arith, few, leb-true (ask.address + ask.length) (g.address + g.length) parts.1))
      where
        parts : (nat_le g.address ask.address ≡ true) × (nat_le (ask.address + ask.length) (g.address + g.length) ≡ true)
        parts = and_parts (nat_le g.address ask.address) (nat_le (ask.address + ask.length) (g.address + g.length)) (not-false (covers g ask) (all-fail (denials ask g) denied).1.1.0)

-- the bytes of a response are those of its segment
payload-count : (c : Configuration) (w : World) (q : QueuePair) (r : ReadLeft) → IsSoundWorld c w → IsBoundWorld w → first_denied (sight_in c w) (if r.left == 0 then [] else response_ask q r ∷ []) ≡ None
    → length (flat_map (λ b. b) (map (bytes_in (sight_in c w)) (if r.left == 0 then [] else response_ask q r ∷ []))) ≡ min q.responder.mtu r.left
payload-count c w q r sound bound allowed = by (r.left == 0) refl allowed
  where
    by : (b : Bool) → (r.left == 0) ≡ b → first_denied (sight_in c w) (if b then [] else response_ask q r ∷ []) ≡ None
        → length (flat_map (λ b. b) (map (bytes_in (sight_in c w)) (if b then [] else response_ask q r ∷ []))) ≡ min q.responder.mtu r.left
    by true e allowed = omega (arith, eqb-true r.left 0 e)
    by false e allowed = ap length (append-nil (bytes_in (sight_in c w) (response_ask q r)))
        ∙ seen-whole c w (response_ask q r) sound bound (one-allowed (sight_in c w) false (response_ask q r) allowed refl) e (omega arith)

-- ---- READ responses

-- what a READ response says, if bytes spell one
pub record SaysRead (psn left mtu : ℕ) (p : Fields) : Type 0 where
  pub psn_is : p.psn ≡ psn % 2 ^ 24
  pub count : length p.payload ≡ min mtu left
  pub last : is_last_read_response p.opcode ≡ nat_le left mtu

reading : (segment : Segment) (queue psn msn : ℕ) (payload : List ℕ) → queue < 2 ^ 24 → msn < 2 ^ 24 → length payload ≤ MAX_PAYLOAD_BYTES → IsSpelt (read_response segment queue (psn_bits psn) msn payload)
reading segment queue psn msn payload number messages few = record { well = read_response_fits segment queue (psn_bits psn) msn payload number (omega arith) messages few; pkey = omega arith; syndrome = by (position_of segment) }
  where
    by : (p : Position) → IfSome (read_response_aeth msn p) (λ a. a.syndrome < 2 ^ 8)
    by First = omega arith
    by Middle = record {}
    by Last = omega arith
    by Only = omega arith

abbrev lasts : Option Operation → Bool
lasts (Some (ReadResponse place)) = ends place
lasts operation = false

ends-so : (first last : Bool) → ends (position_of (response_segment first last)) ≡ last
ends-so true true = refl
ends-so true false = refl
ends-so false true = refl
ends-so false false = refl

response-says : (first last : Bool) (queue psn msn mtu left : ℕ) (payload : List ℕ) (p : Fields) → queue < 2 ^ 24 → msn < 2 ^ 24 → length payload ≤ MAX_PAYLOAD_BYTES → length payload ≡ min mtu left → last ≡ nat_le left mtu
    → packet_in (spelling (read_response (response_segment first last) queue (psn_bits psn) msn payload)) ≡ Ok p → SaysRead psn left mtu p
response-says first last queue psn msn mtu left payload p number messages few count end is = subst (SaysRead psn left mtu) same (record {
  psn_is = refl;
  count = count;
  last = ap lasts (read_response_is (position_of (response_segment first last))) ∙ ends-so first last ∙ end;
})
  where
    f : Fields
    f = read_response (response_segment first last) queue (psn_bits psn) msn payload

    same : shortened f ≡ p
    same = same_Some (shortened f) p (sym (spelt-again f (reading (response_segment first last) queue psn msn payload number messages few)) ∙ ap result_ok is)

-- ---- the responder's turn

-- it spells no READ response, or that of the READ at the front
pub data Reads (q : QueuePair) (e : Effects) : Type 0 where
  unread : IfPacket e.spelt (λ p. answers_read p.opcode ≡ false) → Reads q e
  at_front : (psn left : ℕ) (a : Queued) → slice_get q.responder.answers 0 ≡ Some a → said a ≡ Data psn left → IfPacket e.spelt (SaysRead psn left q.responder.mtu) → Reads q e

pub atomic-no-read : answers_read ATOMIC_ACKNOWLEDGE ≡ false
unfolding row_of
atomic-no-read = refl

plain-sees : (s : Sight) (E : Effects → Type 0) (e : Effects) → E e → RowSees s E (plain_row (Does e))
plain-sees s E e does = record { denied = λ d is. does; allowed = λ is refusal. does }

module _ (c : Configuration) (w : World) (q : QueuePair) (sound : IsSoundWorld c w) (bound : IsBoundWorld w) (queue : IsQueue q) where
  read-sees : (r : ReadLeft) (a : Queued) → slice_get q.responder.answers 0 ≡ Some a → said a ≡ Data r.psn r.left → RowSees (sight_in c w) (Reads q) (read_row q r)
  read-sees r a at is = record {
    denied = λ d denied. unread (λ p decodes. ap answers_read (nak-spelt (syndromes.Nak codes.RemoteAccessError) AccessReason (peer_number q) r.psn q.responder.msn (peer-fits q queue) queue.responder.msn tt refl p decodes).1.says.0 ∙ read-no-acknowledge);
    allowed = λ allowed refusal. at_front r.psn r.left a at is (λ p decodes. response-says r.first (is_last_response q r) (peer_number q) r.psn q.responder.msn q.responder.mtu r.left _ p (peer-fits q queue) queue.responder.msn
        (omega (arith, payload-count c w q r sound bound allowed, small-path q.responder.mtu queue.responder.mtu)) (payload-count c w q r sound bound allowed) refl decodes);
  }

  turn-sees : (a : Queued) → slice_get q.responder.answers 0 ≡ Some a → RowSees (sight_in c w) (Reads q) (answer_turn q a)
  turn-sees (queued.Ack psn) at = plain-sees (sight_in c w) (Reads q) _ (unread (λ p decodes. ap answers_read (ack-spelt (syndromes.Ack UNLIMITED_CREDITS) (peer_number q) psn q.responder.msn (peer-fits q queue) p decodes).1.says ∙ read-no-acknowledge))
  turn-sees (queued.Rnr psn) at = plain-sees (sight_in c w) (Reads q) _
      (unread (λ p decodes. ap answers_read (ack-spelt (syndromes.RnrNak q.responder.rnr_code) (peer_number q) psn q.responder.msn (peer-fits q queue) p decodes).1.says ∙ read-no-acknowledge))
  turn-sees (queued.Nak psn code) at = plain-sees (sight_in c w) (Reads q) _
      (unread (λ p decodes. ap answers_read (ack-spelt (syndromes.Nak (nak_of code)) (peer_number q) psn q.responder.msn (peer-fits q queue) p decodes).1.says ∙ read-no-acknowledge))
  turn-sees (queued.Read psn key address left begins envelope duplicate) at =
      read-sees (record { psn = psn; key = key; address = address; left = left; first = begins; envelope = envelope; duplicate = duplicate }) (queued.Read psn key address left begins envelope duplicate) at refl
  turn-sees (queued.Atomic psn found duplicate) at = plain-sees (sight_in c w) (Reads q) _
      (unread (λ p decodes. ap answers_read (found-spelt found (peer_number q) psn q.responder.msn (peer-fits q queue) p decodes).1.says.0 ∙ atomic-no-read))

  pub respond-sees : (room : Bool) → RowSees (sight_in c w) (Reads q) (respond_row room q)
  respond-sees room = by (first_of (respond_refusals room q)) (slice_get q.responder.answers 0) refl
    where
      stuck : (reason : Reason) → RowSees (sight_in c w) (Reads q) (plain_row (NotPossible reason))
      stuck reason = record { denied = λ d is. record {}; allowed = λ is refusal. record {} }

      row : Option Reason → Option Queued → Row
      row (Some reason) answer = plain_row (NotPossible reason)
      row None None = plain_row (NotPossible reasons.Empty)
      row None (Some answer) = answer_turn q answer

      by : (o : Option Reason) (a : Option Queued) → slice_get q.responder.answers 0 ≡ a → RowSees (sight_in c w) (Reads q) (row o a)
      by (Some reason) a at = stuck reason
      by None None at = stuck reasons.Empty
      by None (Some a) at = turn-sees a at

-- a responder's turn ends no key
turn-ends-none : (q : QueuePair) (a : Queued) → (answer_turn q a).invalidation ≡ None
turn-ends-none q (queued.Ack psn) = refl
turn-ends-none q (queued.Rnr psn) = refl
turn-ends-none q (queued.Nak psn code) = refl
turn-ends-none q (queued.Read psn key address left begins envelope duplicate) = refl
turn-ends-none q (queued.Atomic psn found duplicate) = refl

pub respond-ends-none : (room : Bool) (q : QueuePair) → (respond_row room q).invalidation ≡ None
respond-ends-none room q = by (first_of (respond_refusals room q)) (slice_get q.responder.answers 0)
  where
    row : Option Reason → Option Queued → Row
    row (Some reason) answer = plain_row (NotPossible reason)
    row None None = plain_row (NotPossible reasons.Empty)
    row None (Some answer) = answer_turn q answer

    by : (o : Option Reason) (a : Option Queued) → (row o a).invalidation ≡ None
    by (Some reason) a = refl
    by None None = refl
    by None (Some a) = turn-ends-none q a
