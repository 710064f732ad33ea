-- READ responses under way fit the numbers that the requester takes them for, and stay so as it goes on. For proofs only.
use Rattle.std.proofs.Common.{◌≡◌, ℕ, zero, suc, ◌+◌, ◌-◌, ◌%◌, ◌^◌, ◌≤◌, ◌==◌, min, nat_le, Bool, true, false, if◌then◌else◌, List, [], ◌∷◌, length, take, Option, None, Some, Ok, is_some, slice_get, refl, ap, sym, subst, ◌∙◌, arith, true≢false}
use Rattle.std.proofs.lemmas.Option.{same_Some, slice_get_within}
use Rattle.ca_base.specs.Configuration.{Configuration}
use Rattle.ca_base.specs.declared.change.State.{State}
use Rattle.ca_base.specs.declared.change.State.TheVariants as states
use Rattle.ca_base.specs.declared.correspondent.Correspondent.{Correspondent}
use Rattle.ca_base.specs.declared.limits.TheConstants.{KEPT_ENVELOPES}
use Rattle.ca_base.specs.declared.lot.Lot.{Lot}
use Rattle.ca_base.specs.declared.mail_envelope.MailEnvelope.{MailEnvelope}
use Rattle.ca_base.specs.objects.Mailbox.{Mailbox, after_send, with_delivery}
use Rattle.ca_base.specs.objects.QueuePair.{QueuePair, QueueSlot, Present, incarnation_of, is_present}
use Rattle.ca_base.specs.objects.StateTable.{state_eq}
use Rattle.ca_connection.proofs.NumberLemmas.{widened-exact}
use Rattle.ca_connection.proofs.OnceLemmas.{law-numbers, law-response-near}
use Rattle.ca_connection.specs.Invariant.{NumberFact}
use Rattle.ca_connection.specs.Layout.{Direction, HasNumber, bytes_left, start}
use Rattle.ca_connection.specs.Limits.{most_outstanding, response_distance}
use Rattle.ca_connection.specs.Link.{Link, Requester, Response, number_of}
use Rattle.ca_connection.specs.Once.{ResponseIsNear}
use Rattle.ca_model.specs.Packets.{answers_read, is_last_read_response, is_response}
use Rattle.ca_model.specs.machine.Invariants.{is_idle, is_sending}
use Rattle.ca_model.specs.machine.Sound.{IsSoundWorld}
use Rattle.ca_model.specs.machine.World.{Mailbox_of, World}
use Rattle.ca_wire.specs.Decoding.{packet_in}
use Rattle.ca_wire.specs.Packet.{Fields}
use Rattle.ca_wire.specs.Table.{operation_of}
use Rattle.ca_wire.specs.declared.shape.Operation.{Operation}
use Rattle.ca_wire.specs.declared.shape.Operation.TheVariants.{Request, ReadResponse, Acknowledge, AtomicAcknowledge}
use Rattle.ca_psn.specs.Psn.{widened}
use Rattle.ca_law_once.proofs.Ties.DeliverLemmas.{present-same}
use Rattle.ca_law_once.proofs.Ties.EntryLemmas.{EntryIs, entry-at}
use Rattle.ca_law_once.specs.Ties.{AreEntries, IsBefore, IsOver, IsPaired, IsTied, RequesterTie, SenderTie}
use Rattle.ca_law_once.specs.Ties.IsBefore.{sooner, unnamed}
use Rattle.ca_law_once.specs.Ties.IsOver.{later, vacant}
use Rattle.ca_law_once.specs.Ties.SenderTie.{before as sender_before, standing as sender_standing, gone as sender_gone}
use Rattle.ca_law_once.specs.Entries.{IfPacket, ResponseEntry, SpellsResponse, SpellsSomeRequest}
use Rattle.ca_law_once.specs.Beginnings.{AllBeginEmpty, SlotBeginsEmpty}

-- ---- what fits

-- the number beside which the requester of a queue pair reads PSNs
abbrev pub una_of : Direction → QueuePair → ℕ
una_of d q = if is_sending q.state then q.requester.una else start d

-- A READ response has as many bytes as a READ's segment from its number on, and is the last where no more are left.
pub record FitsRead (d : Direction) (place n : ℕ) (p : Fields) : Type 0 where
  pub count : length p.payload ≡ min d.mtu (bytes_left d place n)
  pub last : is_last_read_response p.opcode ≡ nat_le (bytes_left d place n) d.mtu

-- bytes under way, if they are a READ response, fit the number that they are taken for
abbrev pub FitsBytes : Direction → ℕ → List ℕ → Type 0
FitsBytes d una bytes = IfPacket bytes (λ p. answers_read p.opcode ≡ true → (place : ℕ) → HasNumber d place (widened una p.psn) → FitsRead d place (widened una p.psn) p)

-- the life that sends has named its peer, and is not in Error
pub record IsUp (d : Direction) (s r : Correspondent) (slot : QueueSlot) (q : QueuePair) : Type 0 where
  pub paired : IsPaired d s r slot q
  pub well : state_eq q.state states.Error ≡ false

-- all that is under way to it fits
abbrev pub ReadsFit : Direction → Correspondent → Correspondent → World → Type 0
ReadsFit d s r w = (q : QueuePair) → IsUp d s r (w.queue s.queue) q → (k : ℕ) (m : MailEnvelope) → slice_get (w.mailbox s.queue).envelopes k ≡ Some m → FitsBytes d (una_of d q) m.bytes

-- a READ response is a response
pub reads-respond : (opcode : ℕ) → answers_read opcode ≡ true → is_response opcode ≡ true
reads-respond opcode reads = by (operation_of opcode) reads
  where
    answers : Option Operation → Bool
    answers (Some (ReadResponse place)) = true
    answers operation = false

    responds : Option Operation → Bool
    responds (Some (Request shape)) = false
    responds (Some operation) = true
    responds None = false

    by : (o : Option Operation) → answers o ≡ true → responds o ≡ true
    by (Some (Request shape)) is = absurd (true≢false (sym is))
    by (Some (ReadResponse place)) is = refl
    by (Some Acknowledge) is = absurd (true≢false (sym is))
    by (Some AtomicAcknowledge) is = absurd (true≢false (sym is))
    by None is = absurd (true≢false (sym is))

-- bytes of a request fit anything
pub request-fits : (d : Direction) (una : ℕ) (bytes : List ℕ) → SpellsSomeRequest bytes → FitsBytes d una bytes
request-fits d una bytes spells p is reads = absurd (true≢false (sym (reads-respond p.opcode reads) ∙ spells p is))

-- ---- the life that sends, and its link

-- what a link says of it
pub record IsSender (d : Direction) (q : QueuePair) (m : Mailbox) (l : Link) : Type 0 where
  pub requester : RequesterTie d q l.requester
  pub entries : AreEntries SpellsResponse SpellsSomeRequest m.envelopes l.responses

not-before : (d : Direction) (life peer : Correspondent) (slot : QueueSlot) (q : QueuePair) → IsPaired d life peer slot q → IsBefore life slot → ⊥
not-before d life peer slot q paired (sooner less) = omega (arith, less, ap incarnation_of paired.present, paired.incarnation)
not-before d life peer slot q paired (unnamed t is same none) =
    true≢false (ap is_some (sym paired.names ∙ ap (λ (x : QueuePair). x.peer) (present-same q t (sym paired.present ∙ is)) ∙ none))

not-over : (d : Direction) (life peer : Correspondent) (slot : QueueSlot) (q : QueuePair) → IsPaired d life peer slot q → IsOver life slot → ⊥
not-over d life peer slot q paired (later more) = omega (arith, more, ap incarnation_of paired.present, paired.incarnation)
not-over d life peer slot q paired (vacant none same) = true≢false (sym (ap is_present paired.present) ∙ none)

sender-is : (d : Direction) (s r : Correspondent) (slot : QueueSlot) (m : Mailbox) (l : Link) (q : QueuePair) → IsPaired d s r slot q → SenderTie d s r slot m l.requester l.responses → IsSender d q m l
sender-is d s r slot m l q paired (sender_before is same none) = absurd (not-before d s r slot q paired is)
sender-is d s r slot m l q paired (sender_gone is none) = absurd (not-over d s r slot q paired is)
sender-is d s r slot m l q paired (sender_standing t own stood entries) =
    record { requester = subst (λ x. RequesterTie d x l.requester) (present-same t q (sym own.present ∙ paired.present)) stood; entries = entries }

pub tied-sender : (d : Direction) (s r : Correspondent) (w : World) (l : Link) (q : QueuePair) → IsTied d s r w l → IsPaired d s r (w.queue s.queue) q → IsSender d q (w.mailbox s.queue) l
tied-sender d s r w l q tied paired = sender-is d s r (w.queue s.queue) (w.mailbox s.queue) l q paired tied.sender

-- where it is not in Error, the link's `una` is that number
pub una-is : (d : Direction) (q : QueuePair) (x : Requester) → RequesterTie d q x → state_eq q.state states.Error ≡ false → (is_idle q.state ≡ true → ⊥) → x.una ≡ una_of d q
una-is d q x tie well up = by q.state refl
  where
    by : (t : State) → q.state ≡ t → x.una ≡ (if is_sending t then q.requester.una else start d)
    by states.Reset e = absurd (up (ap is_idle e))
    by states.Init e = absurd (up (ap is_idle e))
    by states.Rtr e = ap (λ (z : Requester). z.una) (tie.fresh e)
    by states.Rts e = ap (λ (z : Requester). z.una) (tie.sending (ap is_sending e))
    by states.Sqd e = ap (λ (z : Requester). z.una) (tie.sending (ap is_sending e))
    by states.Error e = absurd (true≢false (sym (ap (λ t. state_eq t states.Error) e) ∙ well))

-- a queue pair that has named a peer is not idle
pub named-up : (d : Direction) (s r : Correspondent) (w : World) (q : QueuePair) → AllBeginEmpty w → IsPaired d s r (w.queue s.queue) q → is_idle q.state ≡ true → ⊥
named-up d s r w q empty paired idle = true≢false (ap is_some (sym paired.names ∙ (subst SlotBeginsEmpty paired.present (empty.queues s.queue)).peer idle))

-- a response under way to it stands for one of the link, near that number
pub record IsNear (d : Direction) (l : Link) (una k : ℕ) (p : Fields) : Type 0 where
  pub response : Response
  pub is : slice_get l.responses k ≡ Some (Some response)
  pub entry : ResponseEntry response p
  pub exact : widened una p.psn ≡ number_of response
  pub low : una ≤ number_of response + response_distance
  pub high : number_of response ≤ una + most_outstanding
  pub base : start d ≤ una

pub near-of : (c : Configuration) (d : Direction) (s r : Correspondent) (w : World) (l : Link) (q : QueuePair) (k : ℕ) (m : MailEnvelope) (p : Fields) → IsSoundWorld c w → AllBeginEmpty w → IsTied d s r w l → IsUp d s r (w.queue s.queue) q
    → slice_get (w.mailbox s.queue).envelopes k ≡ Some m → packet_in m.bytes ≡ Ok p → is_response p.opcode ≡ true → IsNear d l (una_of d q) k p
near-of c d s r w l q k m p sound empty tied up at is response = by (slice_get l.responses k) refl (entry-at SpellsResponse SpellsSomeRequest box.envelopes l.responses k m own.entries at)
  where
    box : Mailbox
    box = w.mailbox s.queue

    own : IsSender d q box l
    own = tied-sender d s r w l q tied up.paired

    una : l.requester.una ≡ una_of d q
    una = una-is d q l.requester own.requester up.well (named-up d s r w q empty up.paired)

    numbers : NumberFact (start d) l.requester.una l.requester.cursor l.response_top l.responder.expected l.request_top
    numbers = law-numbers d l tied.reached

    by : (o : Option (Option Response)) → slice_get l.responses k ≡ o → EntryIs SpellsResponse SpellsSomeRequest o m.bytes → IsNear d l (una_of d q) k p
    by None e entry = absurd entry
    by (Some None) e entry = absurd (true≢false (sym response ∙ entry p is))
    by (Some (Some a)) e entry = record {
      response = a;
      is = e;
      entry = (entry p is).1;
      exact = ap (λ n. widened (una_of d q) n) (entry p is).1.psn ∙ ap (λ n. widened n (number_of a % 2 ^ 24)) (sym una) ∙ near.exact;
      low = omega (arith, near.low, una);
      high = omega (arith, near.high, una);
      base = omega (arith, numbers.low, una);
    }
      where
        near : ResponseIsNear l a
        near = law-response-near d l k a tied.reached (record { is = e; recent = omega (arith, (sound.things (Mailbox_of s.queue)).kept, slice_get_within box.envelopes k m at) })

-- the number stays so as `una` goes on
near-later : (d : Direction) (l : Link) (u v k : ℕ) (p : Fields) → IsNear d l u k p → u ≤ v → v ≤ u + most_outstanding → widened v p.psn ≡ widened u p.psn
near-later d l u v k p near low high = ap (widened v) near.entry.psn ∙ widened-exact v (number_of near.response) (omega (arith, near.base, low)) (omega (arith, near.low, high)) (omega (arith, near.high, low)) ∙ sym near.exact

fits-at : (d : Direction) (u v : ℕ) (bytes : List ℕ) → FitsBytes d u bytes → ((p : Fields) → packet_in bytes ≡ Ok p → is_response p.opcode ≡ true → widened v p.psn ≡ widened u p.psn) → FitsBytes d v bytes
fits-at d u v bytes fits same p is reads place number = subst (λ n. FitsRead d place n p) (sym e) (fits p is reads place (subst (HasNumber d place) e number))
  where
    e : widened v p.psn ≡ widened u p.psn
    e = same p is (reads-respond p.opcode reads)

-- ---- mailboxes

-- an envelope that was there before
pub record WasThere (es : List MailEnvelope) (k : ℕ) (m : MailEnvelope) : Type 0 where
  pub envelope : MailEnvelope
  pub at : slice_get es k ≡ Some envelope
  pub bytes : envelope.bytes ≡ m.bytes

abbrev pub SameMail : List MailEnvelope → List MailEnvelope → Type 0
SameMail es fs = (k : ℕ) (m : MailEnvelope) → slice_get fs k ≡ Some m → WasThere es k m

pub same-mail : (es : List MailEnvelope) → SameMail es es
same-mail es k m at = record { envelope = m; at = at; bytes = refl }

pub delivered-mail : (place : ℕ) (es : List MailEnvelope) → SameMail es (with_delivery place es)
delivered-mail place [] k m at = absurd (true≢false (sym (ap is_some at)))
delivered-mail place (e ∷ es) k m at = by (λ k at. delivered-mail (place - 1) es k m at) (place == 0) k at
  where
    by : ((k : ℕ) → slice_get (with_delivery (place - 1) es) k ≡ Some m → WasThere es k m) → (b : Bool) (k : ℕ) → slice_get (if b then record e { delivered = suc e.delivered } ∷ es else e ∷ with_delivery (place - 1) es) k ≡ Some m → WasThere (e ∷ es) k m
    by rest true zero at = record { envelope = e; at = refl; bytes = ap (λ (x : MailEnvelope). x.bytes) (same_Some (record e { delivered = suc e.delivered }) m at) }
    by rest true (suc k) at = record { envelope = m; at = at; bytes = refl }
    by rest false zero at = record { envelope = e; at = refl; bytes = ap (λ (x : MailEnvelope). x.bytes) (same_Some e m at) }
    by rest false (suc k) at = let was = rest k at in record { envelope = was.envelope; at = was.at; bytes = was.bytes }

get-taken : {A : Type 0} (n : ℕ) (xs : List A) (k : ℕ) (x : A) → slice_get (take n xs) k ≡ Some x → slice_get xs k ≡ Some x
get-taken zero xs k x is = absurd (true≢false (sym (ap is_some is)))
get-taken (suc n) [] k x is = absurd (true≢false (sym (ap is_some is)))
get-taken (suc n) (y ∷ ys) zero x is = is
get-taken (suc n) (y ∷ ys) (suc k) x is = get-taken n ys k x is

-- ---- changes

-- the queue pair of the life that sends goes on, and its mailbox has nothing new
pub fit-goes : (c : Configuration) (d : Direction) (s r : Correspondent) (w v : World) (l : Link) (q p : QueuePair) → IsSoundWorld c w → AllBeginEmpty w → IsTied d s r w l → w.queue s.queue ≡ Present q → v.queue s.queue ≡ Present p
    → SameMail (w.mailbox s.queue).envelopes (v.mailbox s.queue).envelopes
    → (IsUp d s r (Present p) p → IsUp d s r (Present q) q × ((una_of d q ≤ una_of d p) × (una_of d p ≤ una_of d q + most_outstanding))) → ReadsFit d s r w → ReadsFit d s r v
fit-goes c d s r w v l q p sound empty tied is goes mail more fits t up k m at = by (present-same p t (sym goes ∙ up.paired.present)) (mail k m at)
  where
    by : p ≡ t → WasThere (w.mailbox s.queue).envelopes k m → FitsBytes d (una_of d t) m.bytes
    by same was = subst (λ x. FitsBytes d (una_of d x) m.bytes) same (subst (FitsBytes d (una_of d p)) was.bytes
        (fits-at d (una_of d q) (una_of d p) was.envelope.bytes (fits q before k was.envelope was.at)
        (λ f decodes response. near-later d l (una_of d q) (una_of d p) k f (near-of c d s r w l q k was.envelope f sound empty tied before was.at decodes response) on.1.0 on.1.1)))
      where
        here : IsUp d s r (Present p) p
        here = subst (λ x. IsUp d s r x p) goes (subst (IsUp d s r (v.queue s.queue)) (sym same) up)

        on : IsUp d s r (Present q) q × ((una_of d q ≤ una_of d p) × (una_of d p ≤ una_of d q + most_outstanding))
        on = more here

        before : IsUp d s r (w.queue s.queue) q
        before = subst (λ x. IsUp d s r x q) (sym is) on.0

-- neither changes
pub fit-same : (d : Direction) (s r : Correspondent) (w v : World) → v.queue s.queue ≡ w.queue s.queue → v.mailbox s.queue ≡ w.mailbox s.queue → ReadsFit d s r w → ReadsFit d s r v
fit-same d s r w v queue mail fits q up k m at = fits q (subst (λ x. IsUp d s r x q) queue up) k m (ap (λ (x : Mailbox). slice_get x.envelopes k) (sym mail) ∙ at)

-- one envelope more that fits
pub fit-grown : (d : Direction) (s r : Correspondent) (w v : World) (lot : Lot) (bytes : List ℕ) → v.queue s.queue ≡ w.queue s.queue → v.mailbox s.queue ≡ after_send lot bytes (w.mailbox s.queue)
    → ((q : QueuePair) → IsUp d s r (w.queue s.queue) q → FitsBytes d (una_of d q) bytes) → ReadsFit d s r w → ReadsFit d s r v
fit-grown d s r w v lot bytes queue mail new fits q up k m at = by k (get-taken KEPT_ENVELOPES (e ∷ (w.mailbox s.queue).envelopes) k m (ap (λ (x : Mailbox). slice_get x.envelopes k) (sym mail) ∙ at))
  where
    e : MailEnvelope
    e = record { lot = lot; bytes = bytes; delivered = 0 }

    before : IsUp d s r (w.queue s.queue) q
    before = subst (λ x. IsUp d s r x q) queue up

    by : (k : ℕ) → slice_get (e ∷ (w.mailbox s.queue).envelopes) k ≡ Some m → FitsBytes d (una_of d q) m.bytes
    by zero at = subst (λ (x : MailEnvelope). FitsBytes d (una_of d q) x.bytes) (same_Some e m at) (new q before)
    by (suc k) at = fits q before k m at

-- nobody stands there who has named that peer
pub fit-nobody : (d : Direction) (s r : Correspondent) (v : World) → ((q : QueuePair) → IsUp d s r (v.queue s.queue) q → ⊥) → ReadsFit d s r v
fit-nobody d s r v none q up k m at = absurd (none q up)
