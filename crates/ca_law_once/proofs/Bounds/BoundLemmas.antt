-- The bounds on the numbers of a connection, from those of its link. For proofs only.
use Rattle.std.proofs.Common.{◌≡◌, ℕ, ◌%◌, ◌^◌, true, false, List, Option, None, Some, Ok, slice_get, refl, ap, sym, subst, ◌∙◌, arith, true≢false}
use Rattle.ca_base.specs.Configuration.{Configuration}
use Rattle.ca_base.specs.declared.correspondent.Correspondent.{Correspondent}
use Rattle.ca_base.specs.objects.Mailbox.{Mailbox, bytes_lent, later_than}
use Rattle.ca_base.specs.objects.QueuePair.{QueuePair, QueueSlot, incarnation_of}
use Rattle.ca_connection.proofs.OnceLemmas.{law-numbers, law-request-near, law-response-near}
use Rattle.ca_connection.specs.Invariant.{NumberFact}
use Rattle.ca_connection.specs.Layout.{Direction, start}
use Rattle.ca_connection.specs.Link.{Link, RequestPacket, Requester, Responder, Response, number_of}
use Rattle.ca_connection.specs.Once.{RequestIsNear, ResponseIsNear}
use Rattle.ca_model.specs.Packets.{is_response}
use Rattle.ca_model.specs.machine.Invariants.{is_sending}
use Rattle.ca_model.specs.machine.Sound.{IsSoundWorld}
use Rattle.ca_model.specs.machine.World.{Mailbox_of, World}
use Rattle.ca_wire.specs.Decoding.{packet_in}
use Rattle.ca_wire.specs.Packet.{Fields}
use Rattle.ca_psn.specs.Psn.{widened}
use Rattle.ca_law_once.proofs.Ties.DeliverLemmas.{present-same}
use Rattle.ca_law_once.proofs.Ties.EntryLemmas.{EntryIs, IsLent, entry-at, lent-envelope, lent-recent}
use Rattle.ca_law_once.specs.Ties.{AreEntries, IsBefore, IsOver, IsPaired, IsTied, ReceiverTie, RequesterTie, SenderTie}
use Rattle.ca_law_once.specs.Ties.IsBefore.{sooner, unnamed}
use Rattle.ca_law_once.specs.Ties.IsOver.{later, vacant}
use Rattle.ca_law_once.specs.Ties.ReceiverTie.{before as receiver_before, standing as receiver_standing, gone as receiver_gone}
use Rattle.ca_law_once.specs.Ties.SenderTie.{before as sender_before, standing as sender_standing, gone as sender_gone}
use Rattle.ca_law_once.specs.Bounds.{IsRequestSent, IsResponseSent}
use Rattle.ca_law_once.specs.Entries.{SpellsRequest, SpellsResponse, SpellsSomeRequest, SpellsSomeResponse}
use Rattle.ca_law_once.specs.Sides.{responder_in}
use Rattle.ca_base.specs.objects.QueuePair.{is_present}
use Rattle.std.specs.Prelude.{is_some}

-- a life that has named its peer has come, and is not over
not-before : (d : Direction) (life peer : Correspondent) (slot : QueueSlot) (q : QueuePair) → IsPaired d life peer slot q → IsBefore life slot → ⊥
not-before d life peer slot q paired (sooner less) = omega (arith, less, ap incarnation_of paired.present, paired.incarnation)
not-before d life peer slot q paired (unnamed t is same none) =
    true≢false (ap is_some (sym paired.names ∙ ap (λ (x : QueuePair). x.peer) (present-same q t (sym paired.present ∙ is)) ∙ none))

not-over : (d : Direction) (life peer : Correspondent) (slot : QueueSlot) (q : QueuePair) → IsPaired d life peer slot q → IsOver life slot → ⊥
not-over d life peer slot q paired (later more) = omega (arith, more, ap incarnation_of paired.present, paired.incarnation)
not-over d life peer slot q paired (vacant none same) = true≢false (sym (ap is_present paired.present) ∙ none)

-- what a link says of the life that receives
record IsReceiver (d : Direction) (q : QueuePair) (m : Mailbox) (l : Link) : Type 0 where
  responder : l.responder ≡ responder_in q
  entries : AreEntries (SpellsRequest d) SpellsSomeResponse m.envelopes l.requests

receiver-is : (d : Direction) (s r : Correspondent) (slot : QueueSlot) (m : Mailbox) (l : Link) (q : QueuePair) → IsPaired d r s slot q → ReceiverTie d s r slot m l.responder l.requests → IsReceiver d q m l
receiver-is d s r slot m l q paired (receiver_before is same none) = absurd (not-before d r s slot q paired is)
receiver-is d s r slot m l q paired (receiver_gone is none) = absurd (not-over d r s slot q paired is)
receiver-is d s r slot m l q paired (receiver_standing t own same entries) = record { responder = same ∙ ap responder_in (present-same t q (sym own.present ∙ paired.present)); entries = entries }

record IsSender (d : Direction) (q : QueuePair) (m : Mailbox) (l : Link) : Type 0 where
  requester : RequesterTie d q l.requester
  entries : AreEntries SpellsResponse SpellsSomeRequest m.envelopes l.responses

sender-is : (d : Direction) (s r : Correspondent) (slot : QueueSlot) (m : Mailbox) (l : Link) (q : QueuePair) → IsPaired d s r slot q → SenderTie d s r slot m l.requester l.responses → IsSender d q m l
sender-is d s r slot m l q paired (sender_before is same none) = absurd (not-before d s r slot q paired is)
sender-is d s r slot m l q paired (sender_gone is none) = absurd (not-over d s r slot q paired is)
sender-is d s r slot m l q paired (sender_standing t own stood entries) =
    record { requester = subst (λ x. RequesterTie d x l.requester) (present-same t q (sym own.present ∙ paired.present)) stood; entries = entries }

pub requests-sent : (d : Direction) (s r : Correspondent) (c : Configuration) (w : World) (l : Link) (q : QueuePair) (index : ℕ) (bytes : List ℕ) (p : Fields) → IsSoundWorld c w → IsTied d s r w l → IsPaired d r s (w.queue r.queue) q
    → bytes_lent index (w.mailbox r.queue) ≡ Some bytes → packet_in bytes ≡ Ok p → is_response p.opcode ≡ false → IsRequestSent q (w.mailbox r.queue) l index p
requests-sent d s r c w l q index bytes p sound tied paired lends is request = by (slice_get l.requests k) refl
    (subst (EntryIs (SpellsRequest d) SpellsSomeResponse (slice_get l.requests k)) lent.brings (entry-at (SpellsRequest d) SpellsSomeResponse m.envelopes l.requests k lent.envelope own.entries lent.at))
  where
    m : Mailbox
    m = w.mailbox r.queue

    k : ℕ
    k = later_than index m

    lent : IsLent index m bytes
    lent = lent-envelope index m bytes lends

    own : IsReceiver d q m l
    own = receiver-is d s r (w.queue r.queue) m l q paired tied.receiver

    by : (o : Option (Option RequestPacket)) → slice_get l.requests k ≡ o → EntryIs (SpellsRequest d) SpellsSomeResponse o bytes → IsRequestSent q m l index p
    by None at entry = absurd entry
    by (Some None) at entry = absurd (true≢false (sym (entry p is) ∙ request))
    by (Some (Some x)) at entry = record {
      packet = x;
      is = at;
      psn = psn;
      exact = ap (λ n. widened q.responder.expected n) psn ∙ ap (λ n. widened n (x.number % 2 ^ 24)) (sym expected) ∙ near.exact;
      low = omega (arith, near.low, expected);
      high = omega (arith, near.high, expected);
    }
      where
        psn : p.psn ≡ x.number % 2 ^ 24
        psn = (entry p is).entry.psn

        expected : l.responder.expected ≡ q.responder.expected
        expected = ap (λ (z : Responder). z.expected) own.responder

        near : RequestIsNear l x
        near = law-request-near d l k x tied.reached (record { is = at; recent = lent-recent index m bytes (sound.things (Mailbox_of r.queue)) lent })

pub responses-sent : (d : Direction) (s r : Correspondent) (c : Configuration) (w : World) (l : Link) (q : QueuePair) (index : ℕ) (bytes : List ℕ) (p : Fields) → IsSoundWorld c w → IsTied d s r w l → IsPaired d s r (w.queue s.queue) q
    → is_sending q.state ≡ true → bytes_lent index (w.mailbox s.queue) ≡ Some bytes → packet_in bytes ≡ Ok p → is_response p.opcode ≡ true → IsResponseSent q (w.mailbox s.queue) l index p
responses-sent d s r c w l q index bytes p sound tied paired sends lends is response = by (slice_get l.responses k) refl
    (subst (EntryIs SpellsResponse SpellsSomeRequest (slice_get l.responses k)) lent.brings (entry-at SpellsResponse SpellsSomeRequest m.envelopes l.responses k lent.envelope own.entries lent.at))
  where
    m : Mailbox
    m = w.mailbox s.queue

    k : ℕ
    k = later_than index m

    lent : IsLent index m bytes
    lent = lent-envelope index m bytes lends

    own : IsSender d q m l
    own = sender-is d s r (w.queue s.queue) m l q paired tied.sender

    by : (o : Option (Option Response)) → slice_get l.responses k ≡ o → EntryIs SpellsResponse SpellsSomeRequest o bytes → IsResponseSent q m l index p
    by None at entry = absurd entry
    by (Some None) at entry = absurd (true≢false (sym response ∙ entry p is))
    by (Some (Some a)) at entry = record {
      response = a;
      is = at;
      psn = psn;
      exact = ap (λ n. widened q.requester.una n) psn ∙ ap (λ n. widened n (number_of a % 2 ^ 24)) (sym una) ∙ near.exact;
      low = omega (arith, near.low, una);
      high = omega (arith, near.high, una);
    }
      where
        psn : p.psn ≡ number_of a % 2 ^ 24
        psn = (entry p is).1.psn

        una : l.requester.una ≡ q.requester.una
        una = ap (λ (z : Requester). z.una) (own.requester.sending sends)

        near : ResponseIsNear l a
        near = law-response-near d l k a tied.reached (record { is = at; recent = lent-recent index m bytes (sound.things (Mailbox_of s.queue)) lent })

pub ends-chain : (d : Direction) (s r : Correspondent) (w : World) (l : Link) (q p : QueuePair) → IsTied d s r w l → IsPaired d s r (w.queue s.queue) q → is_sending q.state ≡ true → IsPaired d r s (w.queue r.queue) p
    → NumberFact (start d) q.requester.una q.requester.cursor l.response_top p.responder.expected l.request_top
ends-chain d s r w l q p tied sender sends receiver = subst (λ (z : Responder). NumberFact (start d) q.requester.una q.requester.cursor l.response_top z.expected l.request_top) (receiver-is d s r (w.queue r.queue) (w.mailbox r.queue) l p receiver tied.receiver).responder
    (subst (λ (z : Requester). NumberFact (start d) z.una z.cursor l.response_top l.responder.expected l.request_top) ((sender-is d s r (w.queue s.queue) (w.mailbox s.queue) l q sender tied.sender).requester.sending sends) (law-numbers d l tied.reached))
