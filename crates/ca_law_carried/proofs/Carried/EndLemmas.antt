-- What an event leaves at hand of packets and reads, and how it ends. For proofs only.
use Rattle.std.proofs.Common.{Bool, List, None, Option, Some, [], ap, ap₂, false, if◌then◌else◌, refl, true, ℕ, ◌++◌, ◌∙◌, ◌∷◌, ◌≡◌}
use Rattle.std.specs.List.{list_all}
use Rattle.ca_base.specs.declared.correspondent.Correspondent.{Correspondent}
use Rattle.ca_base.specs.declared.lot.Lot.{Lot}
use Rattle.ca_base.specs.objects.Mailbox.{Mailbox, is_lost}
use Rattle.ca_base.specs.objects.QueuePair.{QueuePair}
use Rattle.ca_law_carried.proofs.Carried.AnsweredLemmas.{AreUnsent, IsUnsent}
use Rattle.ca_law_keys.proofs.Judged.JudgeLemmas.{both-true}
use Rattle.ca_keys.specs.Numbers.{queue_of}
use Rattle.ca_keys.specs.declared.names.QueueId.{QueueId}
use Rattle.ca_law_world.proofs.Sound.SettledLemmas.{queue-refl}
use Rattle.ca_model.specs.Carried.{are_carried, has_its_cause, is_carried_at_end, read_responses}
use Rattle.ca_model.specs.Past.{AtHand, Past, RemoteRead, SentPacket, after_change, after_mark, after_marks, after_verb, at_begin, without}
use Rattle.ca_model.specs.declared.answer.Answer.{Answer}
use Rattle.ca_model.specs.declared.event.Event.{Event}
use Rattle.ca_model.specs.declared.mark.Mark.{Mark}
use Rattle.ca_model.specs.declared.verb.Verb.{Verb}
use Rattle.ca_model.specs.machine.Turns.{Packet, reaches_peer, sent_marks}
use Rattle.ca_model.specs.declared.answer.Answer.TheVariants as answers
use Rattle.ca_base.specs.declared.change.Change.TheVariants as changes
use Rattle.ca_model.specs.declared.mark.Mark.TheVariants as marks
use Rattle.ca_base.specs.declared.change.Change as state_change
use Rattle.ca_model.specs.declared.verb.Verb.TheVariants as verbs

change-at-hand : (name : QueueId) (change : state_change.Change) (p : Past) → (after_change name change p).at_hand ≡ p.at_hand
change-at-hand name changes.Error p = refl
change-at-hand name changes.Reset p = refl
change-at-hand name (changes.Rtr peer incarnation psn mtu rnr_code) p = refl
change-at-hand name changes.Init p = refl
change-at-hand name (changes.Rts psn retry rnr_retry reads) p = refl
change-at-hand name changes.Sqd p = refl
change-at-hand name changes.Resume p = refl

verb-at-hand : (verb : Verb) (answer : Answer) (p : Past) → (after_verb verb answer p).at_hand ≡ p.at_hand
verb-at-hand (verbs.CreateCq slot capacity) answers.Fine p = refl
verb-at-hand (verbs.CreateCq slot capacity) answer p = refl
verb-at-hand (verbs.CreateSrq slot depth) answers.Fine p = refl
verb-at-hand (verbs.CreateSrq slot depth) answer p = refl
verb-at-hand (verbs.CreateQp slot send_cq recv_cq send_depth recv_depth srq) (answers.Queue number incarnation) p = refl
verb-at-hand (verbs.CreateQp slot send_cq recv_cq send_depth recv_depth srq) answer p = refl
verb-at-hand (verbs.ModifyQp slot change) answers.Fine p = change-at-hand (queue_of slot) change p
verb-at-hand (verbs.ModifyQp slot change) answer p = refl
verb-at-hand (verbs.DestroyQp slot) answers.Fine p = refl
verb-at-hand (verbs.DestroyQp slot) answer p = refl
verb-at-hand (verbs.PostSend slot request) (answers.Posted key) p = refl
verb-at-hand (verbs.PostSend slot request) answer p = refl
verb-at-hand (verbs.PostRecv slot request) (answers.Posted key) p = refl
verb-at-hand (verbs.PostRecv slot request) answer p = refl
verb-at-hand (verbs.PostSrq slot request) (answers.Posted key) p = refl
verb-at-hand (verbs.PostSrq slot request) answer p = refl
verb-at-hand (verbs.Poll slot n least) (answers.Polled completions) p = refl
verb-at-hand (verbs.Poll slot n least) answer p = refl
verb-at-hand (verbs.Inject queue bytes) answers.Fine p = refl
verb-at-hand (verbs.Inject queue bytes) answer p = refl
verb-at-hand verb answer p = refl

-- an event of which nothing is left at hand that was sent or read remotely
pub record IsBare (event : Event) (r : Past) : Type 0 where
  pub of : r.at_hand.event ≡ event
  pub sent : r.at_hand.sent ≡ []
  pub pathless : r.at_hand.pathless ≡ []
  pub reads : r.at_hand.read_remotely ≡ []

pub bare-begin : (event : Event) (past : Past) → IsBare event (at_begin event past)
bare-begin event past = record { of = refl; sent = refl; pathless = refl; reads = refl }

bare-one : (m : Mark) → IsUnsent m → (event : Event) (r : Past) → IsBare event r → IsBare event (after_mark m r)
bare-one (marks.Verb by verb answer) unsent event r bare = record {
  of = ap (λ (h : AtHand). h.event) same ∙ bare.of;
  sent = ap (λ (h : AtHand). h.sent) same ∙ bare.sent;
  pathless = ap (λ (h : AtHand). h.pathless) same ∙ bare.pathless;
  reads = ap (λ (h : AtHand). h.read_remotely) same ∙ bare.reads;
}
  where
    before : Past
    before = record r { at_hand = record r.at_hand { answered = Some (record { verb = verb; answer = answer }) } }

    same : (after_mark (marks.Verb by verb answer) r).at_hand ≡ before.at_hand
    same = verb-at-hand verb answer before
bare-one (marks.Granted g) unsent event r bare = record { of = bare.of; sent = bare.sent; pathless = bare.pathless; reads = bare.reads }
bare-one (marks.Revoked adapter key) unsent event r bare = record { of = bare.of; sent = bare.sent; pathless = bare.pathless; reads = bare.reads }
bare-one (marks.Stored place bytes) unsent event r bare = record { of = bare.of; sent = bare.sent; pathless = bare.pathless; reads = bare.reads }
bare-one (marks.Remote queue domain envelope key kind address count verdict) unsent event r bare = record {
  of = bare.of;
  sent = bare.sent;
  pathless = bare.pathless;
  reads = ap (λ o. r.at_hand.read_remotely ++ reads o) unsent ∙ ap (λ rs. rs ++ []) bare.reads;
}
  where
    reads : Option (List ℕ) → List RemoteRead
    reads None = []
    reads (Some bytes) = record { queue = queue; bytes = bytes } ∷ []
bare-one (marks.Local queue domain key kind address count verdict) unsent event r bare = record { of = bare.of; sent = bare.sent; pathless = bare.pathless; reads = bare.reads }
bare-one (marks.Sent source target index request bytes) unsent event r bare = absurd unsent
bare-one (marks.Lost target index) unsent event r bare = absurd unsent
bare-one (marks.Arrived target index) unsent event r bare = record { of = bare.of; sent = bare.sent; pathless = bare.pathless; reads = bare.reads }
bare-one (marks.Dropped target cause) unsent event r bare = record { of = bare.of; sent = bare.sent; pathless = bare.pathless; reads = bare.reads }
bare-one (marks.Timer queue silent) unsent event r bare = record { of = bare.of; sent = bare.sent; pathless = bare.pathless; reads = bare.reads }
bare-one (marks.Done queue x cause) unsent event r bare = record { of = bare.of; sent = bare.sent; pathless = bare.pathless; reads = bare.reads }

pub bare-marks : (ms : List Mark) → AreUnsent ms → (event : Event) (r : Past) → IsBare event r → IsBare event (after_marks ms r)
bare-marks [] unsent event r bare = bare
bare-marks (m ∷ ms) unsent event r bare = bare-marks ms unsent.1 event (after_mark m r) (bare-one m unsent.0 event r bare)

-- ---- endings

pub bare-end : (event : Event) (r : Past) → IsBare event r → is_carried_at_end r ≡ true
bare-end event r bare = both-true _ _ (both-true _ _ (ap (λ qs. is_none_left qs) bare.pathless) (ap (list_all (has_its_cause r)) bare.sent))
    (ap₂ (λ rs ss. are_carried rs (read_responses ss)) bare.reads bare.sent)
  where
    is_none_left : List QueueId → Bool
    is_none_left [] = true
    is_none_left (q ∷ qs) = false

-- an event with one packet
whole-end : (r : Past) (s : SentPacket) → r.at_hand.pathless ≡ [] → r.at_hand.sent ≡ s ∷ [] → has_its_cause r s ≡ true → are_carried r.at_hand.read_remotely (read_responses (s ∷ [])) ≡ true → is_carried_at_end r ≡ true
whole-end r s none one cause carried = both-true _ _ (both-true _ _ (ap (λ qs. is_none_left qs) none) (ap (list_all (has_its_cause r)) one ∙ both-true (has_its_cause r s) true cause refl))
    (ap (λ ss. are_carried r.at_hand.read_remotely (read_responses ss)) one ∙ carried)
  where
    is_none_left : List QueueId → Bool
    is_none_left [] = true
    is_none_left (q ∷ qs) = false

-- the packet that a queue pair sends to its peer
abbrev pub sent_by : QueuePair → Correspondent → Packet → SentPacket
sent_by q peer x = record { source = q.queue; target = peer.queue; request = x.request; bytes = x.bytes }

-- what a packet that is sent leaves at the end, behind other marks
pub sent-end : (q : QueuePair) (peer : Correspondent) (m : Mailbox) (lot : Lot) (x : Packet) (r : Past) → r.at_hand.pathless ≡ [] → r.at_hand.sent ≡ [] → has_its_cause r (sent_by q peer x) ≡ true
    → are_carried r.at_hand.read_remotely (read_responses (sent_by q peer x ∷ [])) ≡ true → is_carried_at_end (after_marks (sent_marks q peer m lot x) r) ≡ true
sent-end q peer m lot x r none sent cause carried = by (reaches_peer q peer m) (is_lost lot)
  where
    one : r.at_hand.sent ++ sent_by q peer x ∷ [] ≡ sent_by q peer x ∷ []
    one = ap (λ ss. ss ++ sent_by q peer x ∷ []) sent

    gone : without peer.queue (peer.queue ∷ r.at_hand.pathless) ≡ []
    gone = ap (λ b. if b then r.at_hand.pathless else peer.queue ∷ without peer.queue r.at_hand.pathless) (queue-refl peer.queue) ∙ none

    by : (b c : Bool) → is_carried_at_end (after_marks (if b
        then marks.Sent q.queue peer.queue (Some m.next) x.request x.bytes ∷ (if c then marks.Lost peer.queue (Some m.next) ∷ [] else [])
        else marks.Sent q.queue peer.queue None x.request x.bytes ∷ marks.Lost peer.queue None ∷ []) r) ≡ true
    by true true = whole-end (after_marks (marks.Sent q.queue peer.queue (Some m.next) x.request x.bytes ∷ marks.Lost peer.queue (Some m.next) ∷ []) r) (sent_by q peer x) none one cause carried
    by true false = whole-end (after_marks (marks.Sent q.queue peer.queue (Some m.next) x.request x.bytes ∷ []) r) (sent_by q peer x) none one cause carried
    by false c = whole-end (after_marks (marks.Sent q.queue peer.queue None x.request x.bytes ∷ marks.Lost peer.queue None ∷ []) r) (sent_by q peer x) gone one cause carried
