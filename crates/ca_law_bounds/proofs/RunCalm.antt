-- A history that follows the machine, with no injection and no RNR NAK sent, goes through calm worlds alone: what it sends
-- are packets, by what stands behind each. For proofs only.
use Rattle.std.proofs.Common.{◌≡◌, ℕ, ◌==◌, ◌&&◌, Bool, true, false, List, [], ◌∷◌, ◌++◌, Option, None, Some, is_some, refl, ap, sym, subst, ◌∙◌, true≢false}
use Rattle.std.proofs.lemmas.Bool.{and_parts}
use Rattle.std.specs.List.{AllByRecursion, list_all}
use Rattle.std.specs.Option.{option_map_or}
use Rattle.std.specs.Str.{bytes_eq}
use Rattle.ca_law_endings.specs.Agreement.{HoldsAlong}
use Rattle.ca_law_endings.specs.Runs.{Comes}
use Rattle.ca_base.specs.Configuration.{Configuration}
use Rattle.ca_base.specs.declared.change.Change as state_change
use Rattle.ca_base.specs.declared.change.Change.TheVariants as changes
use Rattle.ca_law_bounds.proofs.EventCalm.{event-calm, never-woken, opening-calm}
use Rattle.ca_law_bounds.proofs.MailLemmas.{all-behind}
use Rattle.ca_law_bounds.specs.CalmMail.{IsCalmWorld, IsWithoutInjection, IsNoWake, SendsNoRnrNak, SendsPacket}
use Rattle.ca_law_carried.proofs.Carried.EndEventLemmas.{causes-along}
use Rattle.ca_keys.specs.Memory.{ByteMap}
use Rattle.ca_keys.specs.Numbers.{queue_of}
use Rattle.ca_keys.specs.declared.names.QueueId.{QueueId}
use Rattle.ca_model.specs.Carried.{are_carried, has_its_cause, is_carried_at_end, is_of_request, is_of_responder, is_packet_of, is_respond_of, packet_index, read_responses}
use Rattle.ca_model.specs.Entries.{EntryValue}
use Rattle.ca_model.specs.Packets.{is_response, packet_of}
use Rattle.ca_model.specs.Past.{AtHand, Past, Posted, SentPacket, Start, after_change, after_entry, after_mark, after_marks, after_verb, at_begin, each_entry, each_mark, opening_past, posted_at, start_of}
use Rattle.ca_model.specs.declared.answer.Answer.{Answer}
use Rattle.ca_model.specs.declared.answer.Answer.TheVariants as answers
use Rattle.ca_model.specs.declared.event.Event.{Event}
use Rattle.ca_model.specs.declared.event.Event.TheVariants as events
use Rattle.ca_model.specs.declared.mark.Mark.{Mark}
use Rattle.ca_model.specs.declared.mark.Mark.TheVariants as marks
use Rattle.ca_model.specs.declared.verb.Verb.{Verb}
use Rattle.ca_model.specs.declared.verb.Verb.TheVariants as verbs
use Rattle.ca_model.specs.machine.Frame.{Afterwards}
use Rattle.ca_model.specs.machine.Plan.{Did}
use Rattle.ca_model.specs.machine.Run.{Follows}
use Rattle.ca_model.specs.machine.Sound.{AreLimited, CanBeMade}
use Rattle.ca_model.specs.machine.Step.{step}
use Rattle.ca_model.specs.machine.World.{World, opening_world}
use Rattle.ca_law_once.proofs.Once.RunLemmas.{Steps, Walk, walk-along}
use Rattle.ca_wire.specs.Packet.{Fields, spelling}
use Rattle.ca_law_lossless.specs.RowMail.{AreWholeDrops}

-- ---- what has its cause is a packet

abbrev IsPacketSent : SentPacket → Type 0
IsPacketSent s = is_some (packet_of s.bytes) ≡ true

cause-packet : (past : Past) (s : SentPacket) → has_its_cause past s ≡ true → IsPacketSent s
cause-packet past s cause = by (packet_of s.bytes) refl
  where
    of_responder : Option Fields → Bool
    of_responder o = option_map_or (λ p. is_response p.opcode && (p.queue == s.target.number) && bytes_eq s.bytes (spelling p)) o false

    of_request : ℕ → Option Fields → Option Start → Option Posted → Bool
    of_request place (Some p) (Some start) (Some posted) = is_packet_of past s posted p.psn (packet_index past s.source place start p.psn)
    of_request place p start posted = false

    none : packet_of s.bytes ≡ None → (o : Option ℕ) → option_map_or (is_of_request past s) o (is_of_responder past s) ≡ true → ⊥
    none is None all = true≢false (sym (and_parts (is_respond_of s.source past.at_hand.event) (of_responder (packet_of s.bytes)) all).1 ∙ ap of_responder is)
    none is (Some place) all = true≢false (sym all ∙ ap (λ o. of_request place o (start_of past s.source) (posted_at past s.source place)) is)

    by : (o : Option Fields) → packet_of s.bytes ≡ o → is_some (packet_of s.bytes) ≡ true
    by (Some p) is = ap is_some is
    by None is = absurd (none is s.request cause)

all-packets : (past : Past) (ss : List SentPacket) → list_all (has_its_cause past) ss ≡ true → AllByRecursion IsPacketSent ss
all-packets past [] all = tt
all-packets past (s ∷ ss) all = (cause-packet past s parts.0, all-packets past ss parts.1)
  where
    parts : (has_its_cause past s ≡ true) × (list_all (has_its_cause past) ss ≡ true)
    parts = and_parts (has_its_cause past s) (list_all (has_its_cause past) ss) all

-- ---- what an event sent is at hand at its end

change-at-hand : (name : QueueId) (change : state_change.Change) (p : Past) → (after_change name change p).at_hand ≡ p.at_hand
change-at-hand name changes.Error p = refl
change-at-hand name changes.Reset p = refl
change-at-hand name (changes.Rtr peer incarnation psn mtu rnr_code) p = refl
change-at-hand name changes.Init p = refl
change-at-hand name (changes.Rts psn retry rnr_retry reads) p = refl
change-at-hand name changes.Sqd p = refl
change-at-hand name changes.Resume p = refl

verb-at-hand : (verb : Verb) (answer : Answer) (p : Past) → (after_verb verb answer p).at_hand ≡ p.at_hand
verb-at-hand (verbs.CreateCq slot capacity) answers.Fine p = refl
verb-at-hand (verbs.CreateCq slot capacity) answer p = refl
verb-at-hand (verbs.CreateSrq slot depth) answers.Fine p = refl
verb-at-hand (verbs.CreateSrq slot depth) answer p = refl
verb-at-hand (verbs.CreateQp slot send_cq recv_cq send_depth recv_depth srq) (answers.Queue number incarnation) p = refl
verb-at-hand (verbs.CreateQp slot send_cq recv_cq send_depth recv_depth srq) answer p = refl
verb-at-hand (verbs.ModifyQp slot change) answers.Fine p = change-at-hand (queue_of slot) change p
verb-at-hand (verbs.ModifyQp slot change) answer p = refl
verb-at-hand (verbs.DestroyQp slot) answers.Fine p = refl
verb-at-hand (verbs.DestroyQp slot) answer p = refl
verb-at-hand (verbs.PostSend slot request) (answers.Posted key) p = refl
verb-at-hand (verbs.PostSend slot request) answer p = refl
verb-at-hand (verbs.PostRecv slot request) (answers.Posted key) p = refl
verb-at-hand (verbs.PostRecv slot request) answer p = refl
verb-at-hand (verbs.PostSrq slot request) (answers.Posted key) p = refl
verb-at-hand (verbs.PostSrq slot request) answer p = refl
verb-at-hand (verbs.Poll slot n least) (answers.Polled completions) p = refl
verb-at-hand (verbs.Poll slot n least) answer p = refl
verb-at-hand (verbs.Inject queue bytes) answers.Fine p = refl
verb-at-hand (verbs.Inject queue bytes) answer p = refl
verb-at-hand verb answer p = refl

all-before : {X : Type 0} (P : X → Type 0) (xs ys : List X) → AllByRecursion P (xs ++ ys) → AllByRecursion P xs
all-before P [] ys all = tt
all-before P (x ∷ xs) ys all = (all.0, all-before P xs ys all.1)

before-mark : (m : Mark) (r : Past) → AllByRecursion IsPacketSent (after_mark m r).at_hand.sent → AllByRecursion IsPacketSent r.at_hand.sent
before-mark (marks.Verb by verb answer) r all = subst (λ (h : AtHand). AllByRecursion IsPacketSent h.sent)
    (verb-at-hand verb answer (record r { at_hand = record r.at_hand { answered = Some (record { verb = verb; answer = answer }) } })) all
before-mark (marks.Granted g) r all = all
before-mark (marks.Revoked adapter key) r all = all
before-mark (marks.Remote queue domain envelope key kind address count verdict) r all = all
before-mark (marks.Local queue domain key kind address count verdict) r all = all
before-mark (marks.Stored place bytes) r all = all
before-mark (marks.Sent source target index request bytes) r all = all-before IsPacketSent r.at_hand.sent (record { source = source; target = target; request = request; bytes = bytes } ∷ []) all
before-mark (marks.Lost target None) r all = all
before-mark (marks.Lost target (Some index)) r all = all
before-mark (marks.Arrived target index) r all = all
before-mark (marks.Dropped target cause) r all = all
before-mark (marks.Timer queue silent) r all = all
before-mark (marks.Done queue x cause) r all = all

before-marks : (ms : List Mark) (r : Past) → AllByRecursion IsPacketSent (after_marks ms r).at_hand.sent → AllByRecursion IsPacketSent r.at_hand.sent
before-marks [] r all = all
before-marks (m ∷ ms) r all = before-mark m r (before-marks ms (after_mark m r) all)

marks-packets : (ms : List Mark) (r : Past) → AllByRecursion IsPacketSent (after_marks ms r).at_hand.sent → AllByRecursion SendsPacket ms
marks-packets [] r all = tt
marks-packets (m ∷ ms) r all = (one m (before-marks ms (after_mark m r) all), marks-packets ms (after_mark m r) all)
  where
    one : (m : Mark) → AllByRecursion IsPacketSent (after_mark m r).at_hand.sent → SendsPacket m
    one (marks.Sent source target index request bytes) all = (all-behind IsPacketSent r.at_hand.sent (record { source = source; target = target; request = request; bytes = bytes } ∷ []) all).0
    one (marks.Verb by verb answer) all = tt
    one (marks.Granted g) all = tt
    one (marks.Revoked adapter key) all = tt
    one (marks.Remote queue domain envelope key kind address count verdict) all = tt
    one (marks.Local queue domain key kind address count verdict) all = tt
    one (marks.Stored place bytes) all = tt
    one (marks.Lost target index) all = tt
    one (marks.Arrived target index) all = tt
    one (marks.Dropped target cause) all = tt
    one (marks.Timer queue silent) all = tt
    one (marks.Done queue x cause) all = tt

-- so where an event ends as it should, its packets are packets
end-packets : (ms : List Mark) (r : Past) → is_carried_at_end (after_marks ms r) ≡ true → AllByRecursion SendsPacket ms
end-packets ms r ended = marks-packets ms r (all-packets (after_marks ms r) (after_marks ms r).at_hand.sent
    (and_parts _ (list_all (has_its_cause (after_marks ms r)) (after_marks ms r).at_hand.sent) (and_parts _ (are_carried (after_marks ms r).at_hand.read_remotely (read_responses (after_marks ms r).at_hand.sent)) ended).0).1)

-- ---- all entries

never : (c : Configuration) (w v : World) (event : Event) (ms : List Mark) → IsCalmWorld w → step c w event ≡ Did v ms → IsNoWake event
never c w v (events.Verb by verb) ms calm is = tt
never c w v (events.Request n lot) ms calm is = tt
never c w v (events.Respond n lot) ms calm is = tt
never c w v (events.Deliver n index) ms calm is = tt
never c w v (events.Timeout n hasten) ms calm is = tt
never c w v (events.RnrWake n) ms calm is = subst (Comes (λ u ns. ⊥)) is (never-woken c w n calm)

-- what is asked of entries, and what they are then
abbrev pub AreAsked : List EntryValue → Type 0
AreAsked es = AllByRecursion (λ e. IsWithoutInjection e.event × AllByRecursion SendsNoRnrNak e.marks) es

abbrev pub AreSpared : List EntryValue → Type 0
AreSpared es = AllByRecursion (λ e. IsNoWake e.event × AreWholeDrops e.marks) es

along : (c : Configuration) (past : Past) (w : World) (es : List EntryValue) → Walk c past w es → each_entry (λ past mark. true) is_carried_at_end past es ≡ true → AreAsked es → IsCalmWorld w
    → HoldsAlong (λ past w. IsCalmWorld w) c past w es × AreSpared es
along c past w [] walk carried asked calm = (calm, tt)
along c past w (e ∷ es) walk carried asked calm = joined (along c (after_entry e past) v es walk.1.2 parts.1 asked.1 after.0)
  where
    v : World
    v = walk.1.0

    steps : Steps c past w e.event e.marks v
    steps = walk.1.1

    r : Past
    r = at_begin e.event past

    parts : ((each_mark (λ past mark. true) r e.marks && is_carried_at_end (after_marks e.marks r)) ≡ true) × (each_entry (λ past mark. true) is_carried_at_end (after_entry e past) es ≡ true)
    parts = and_parts (each_mark (λ past mark. true) r e.marks && is_carried_at_end (after_marks e.marks r)) (each_entry (λ past mark. true) is_carried_at_end (after_entry e past) es) carried

    after : IsCalmWorld v × AreWholeDrops e.marks
    after = subst (Comes (λ u ms. AllByRecursion SendsPacket ms → AllByRecursion SendsNoRnrNak ms → IsCalmWorld u × AreWholeDrops ms)) steps.comes
        (event-calm c w e.event walk.0.sound calm asked.0.0) (end-packets e.marks r (and_parts (each_mark (λ past mark. true) r e.marks) (is_carried_at_end (after_marks e.marks r)) parts.0).1) asked.0.1

    joined : HoldsAlong (λ past w. IsCalmWorld w) c (after_entry e past) v es × AreSpared es → HoldsAlong (λ past w. IsCalmWorld w) c past w (e ∷ es) × AreSpared (e ∷ es)
    joined rest = (
      (calm, subst (Afterwards (λ u. HoldsAlong (λ past w. IsCalmWorld w) c (after_entry e past) u es)) (sym steps.comes) rest.0),
      ((never c w v e.event e.marks calm steps.comes, after.1), rest.1),
    )

stays : (c : Configuration) (bytes : ByteMap) (es : List EntryValue) → AreLimited c → AllByRecursion (λ e. CanBeMade e.event) es → Follows c bytes es → AreAsked es
    → HoldsAlong (λ past w. IsCalmWorld w) c (opening_past bytes) (opening_world bytes) es × AreSpared es
stays c bytes es limited made follows asked = along c (opening_past bytes) (opening_world bytes) es (walk-along c bytes es limited made follows) (causes-along c bytes es limited made follows) asked (opening-calm bytes)

pub worlds-calm : (c : Configuration) (bytes : ByteMap) (es : List EntryValue) → AreLimited c → AllByRecursion (λ e. CanBeMade e.event) es → Follows c bytes es → AreAsked es
    → HoldsAlong (λ past w. IsCalmWorld w) c (opening_past bytes) (opening_world bytes) es
worlds-calm c bytes es limited made follows asked = (stays c bytes es limited made follows asked).0

pub entries-spared : (c : Configuration) (bytes : ByteMap) (es : List EntryValue) → AreLimited c → AllByRecursion (λ e. CanBeMade e.event) es → Follows c bytes es → AreAsked es → AreSpared es
entries-spared c bytes es limited made follows asked = (stays c bytes es limited made follows asked).1
