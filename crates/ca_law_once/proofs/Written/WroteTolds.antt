-- The packets that wrote, and those that a link accepted, after an event. For proofs only.
use Rattle.std.proofs.Common.{◌≡◌, ℕ, zero, suc, ◌+◌, ◌%◌, ◌^◌, ◌<◌, ◌==◌, ◌&&◌, ◌++◌, ◌⊎◌, inl, inr, arith, Bool, true, false, if◌then◌else◌, length, map, List, [], ◌∷◌, Option, None, Some, Result, Ok, Err, is_some, slice_get, refl, ap, ap₂, sym, subst, ◌∙◌, true≢false, replicate}
use Rattle.std.proofs.lemmas.Bool.{and_parts, eqb-true}
use Rattle.std.proofs.lemmas.Option.{same_Some}
use Rattle.std.specs.Option.{option_map_or}
use Rattle.ca_law_endings.proofs.InnerLemmas.{AreOwn}
use Rattle.ca_law_endings.specs.Agreement.{AreLatest, PathsAgree}
use Rattle.ca_law_carried.specs.Asked.{has_its_packet}
use Rattle.ca_base.specs.declared.correspondent.Correspondent.{Correspondent}
use Rattle.ca_base.specs.declared.mail_envelope.MailEnvelope.{MailEnvelope}
use Rattle.ca_base.specs.objects.Mailbox.{Mailbox, later_than}
use Rattle.ca_connection.specs.Layout.{Direction, is_write}
use Rattle.ca_connection.specs.Link.{Link, RequestPacket}
use Rattle.ca_connection.specs.Once.{numbers_at}
use Rattle.ca_keys.specs.Equal.{queue_eq}
use Rattle.ca_keys.specs.declared.names.QueueId.{QueueId}
use Rattle.ca_law_world.proofs.Sound.SettledLemmas.{queue-path, queue-refl}
use Rattle.ca_model.specs.Judged.{is_judged}
use Rattle.ca_model.specs.Packets.{packet_of}
use Rattle.ca_model.specs.Past.{Envelope, Past, after_mark, after_marks, at_begin, correspondent_eq, each_mark}
use Rattle.ca_model.specs.declared.event.Event.{Event}
use Rattle.ca_model.specs.declared.event.Event.TheVariants as events
use Rattle.ca_model.specs.declared.mark.Mark.{Mark}
use Rattle.ca_model.specs.declared.mark.Mark.TheVariants as marks
use Rattle.ca_model.specs.machine.World.{World}
use Rattle.ca_law_once.proofs.Once.ActedLemmas.{AreUnmet}
use Rattle.ca_law_once.proofs.Once.FoundTolds.{SentIn, among-some, entry-sent, lent-sent, same-number}
use Rattle.ca_law_once.proofs.Once.ShapeLemmas.{Delivers, Meets, own-unmet}
use Rattle.ca_law_once.specs.OnceTold.{IsTold, LiesThere}
use Rattle.ca_wire.specs.Decoding.{packet_in}
use Rattle.ca_wire.specs.Packet.{Fields}
use Rattle.ca_wire.specs.declared.wire_error.WireError.{WireError}
use Rattle.ca_law_once.proofs.Ties.EntryLemmas.{EntryIs, IsLent, entry-at, lent-envelope}
use Rattle.ca_law_once.specs.Ties.{AreEntries, ReceiverTie, TiedAfter, written_by_delivery, written_by_entry}
use Rattle.ca_law_once.specs.Ties.ReceiverTie.{before as receiver_before, standing as receiver_standing, gone as receiver_gone}
use Rattle.ca_law_once.specs.Entries.{SpellsRequest, SpellsSomeResponse}
use Rattle.ca_law_once.specs.Moves.{writes_told}
use Rattle.ca_law_once.specs.Agrees.{acted_by, written_by}
use Rattle.ca_law_once.proofs.Written.MarkLemmas.{MetAll, met-wrote, onto-none, onto-other, onto-own, unmet-wrote, wrote_onto}
use Rattle.ca_law_once.specs.WrittenTold.{AreWritten, psn_bits}
use Rattle.ca_law_once.specs.Written.{Writes, Wrote, psn_in, psns_at, writes_of_marks}

-- ---- events in which no packet arrives by an index

pub wrote-same : (d : Direction) (s r : Correspondent) (w v : World) (l : Link) (acted written : ℕ → List ℕ) (after : TiedAfter d s r w l acted written v) (ws new : Writes) → AreWritten d s ws l → new.wrote ≡ ws.wrote
    → ((place : ℕ) → written place ≡ []) → AreWritten d s new after.link
wrote-same d s r w v l acted written after ws new told same none place = ap (psns_at s place) same ∙ told place ∙ by (is_write (d.work place)) refl
  where
    by : (b : Bool) → is_write (d.work place) ≡ b → (if b then map psn_bits (numbers_at place l.acceptances) else []) ≡ (if b then map psn_bits (numbers_at place after.link.acceptances) else [])
    by true is = ap (map psn_bits) (sym (after.wrote place is ∙ ap (λ ns. ns ++ numbers_at place l.acceptances) (none place)))
    by false is = refl

-- ---- a delivery

-- the envelope at a place has the bytes that the mailbox has there
latest-bytes : (ms : List MailEnvelope) (es : List Envelope) (k : ℕ) (m : MailEnvelope) (e : Envelope) → AreLatest ms es → slice_get ms k ≡ Some m → slice_get es k ≡ Some e → e.bytes ≡ m.bytes
latest-bytes [] es k m e latest at there = absurd (true≢false (sym (ap is_some at)))
latest-bytes (x ∷ xs) [] k m e latest at there = absurd latest
latest-bytes (x ∷ xs) (y ∷ ys) zero m e latest at there = ap (λ (z : Envelope). z.bytes) (sym (same_Some y e there)) ∙ latest.0.bytes ∙ ap (λ (z : MailEnvelope). z.bytes) (same_Some x m at)
latest-bytes (x ∷ xs) (y ∷ ys) (suc k) m e latest at there = latest-bytes xs ys k m e latest.1 at there

-- the packet of an entry carries the PSN of its number
packet-psn : (d : Direction) (x : RequestPacket) (bytes : List ℕ) → SpellsRequest d x bytes → is_some (packet_of bytes) ≡ true → psn_in bytes ≡ psn_bits x.number
packet-psn d x bytes spells some = by (packet_in bytes) refl some
  where
    ok : Result Fields WireError → Option Fields
    ok (Ok p) = Some p
    ok (Err e) = None

    by : (o : Result Fields WireError) → packet_in bytes ≡ o → is_some (packet_of bytes) ≡ true → psn_in bytes ≡ psn_bits x.number
    by (Ok p) is there = ap (λ (o : Result Fields WireError). option_map_or (λ (p : Fields). p.psn) (ok o) 0) is ∙ (spells p is).entry.psn
    by (Err e) is there = absurd (true≢false (sym there ∙ ap (λ (o : Result Fields WireError). is_some (ok o)) is))

map-append : (xs ys : List ℕ) → map psn_bits (xs ++ ys) ≡ map psn_bits xs ++ map psn_bits ys
map-append [] ys = refl
map-append (x ∷ xs) ys = ap (λ zs. psn_bits x ∷ zs) (map-append xs ys)

map-replicate : (n x : ℕ) → map psn_bits (replicate n x) ≡ replicate n (psn_bits x)
map-replicate zero x = refl
map-replicate (suc n) x = ap (λ zs. psn_bits x ∷ zs) (map-replicate n x)

pub wrote-delivered : (d : Direction) (s r : Correspondent) (past : Past) (w v : World) (l : Link) (event : Event) (name : QueueId) (index : ℕ) (ms : List Mark) (acted : ℕ → List ℕ) (ws : Writes)
    (after : TiedAfter d s r w l acted (written_by_delivery r w l name index ms) v)
    → IsTold d s r past w l → PathsAgree past w → Delivers w name index ms → each_mark has_its_packet (at_begin event past) ms ≡ true → each_mark is_judged (at_begin event past) ms ≡ true → AreWritten d s ws l
    → AreWritten d s (writes_of_marks ms (at_begin event past) ws) after.link
wrote-delivered d s r past w v l event name index ms acted ws after told agree delivers carried judged before place =
    ap (psns_at s place) wrote ∙ by (queue_eq name r.queue) refl (correspondent_eq e.source s) refl
  where
    begin : Past
    begin = at_begin event past

    k : ℕ
    k = later_than index (w.mailbox name)

    sent : SentIn (past.envelopes name) index k
    sent = lent-sent past w name index delivers.bytes agree delivers.lent

    e : Envelope
    e = sent.envelope

    arrived : Past
    arrived = after_mark (marks.Arrived name (Some index)) begin

    n : ℕ
    n = writes_told ms

    all : MetAll e delivers.rest arrived ws
    all = met-wrote name index e delivers.rest arrived ws delivers.own (record { arrival = refl; sent = sent.sent })
        (subst (λ xs. each_mark has_its_packet begin xs ≡ true) delivers.are carried)
        (subst (λ xs. each_mark is_judged begin xs ≡ true) delivers.are judged)

    same_count : writes_told delivers.rest ≡ n
    same_count = sym (ap writes_told delivers.are)

    wrote : (writes_of_marks ms begin ws).wrote ≡ wrote_onto e n ws.wrote
    wrote = ap (λ xs. (writes_of_marks xs begin ws).wrote) delivers.are ∙ all.wrote ∙ ap (λ (m : ℕ). wrote_onto e m ws.wrote) same_count

    Goal : Type 0
    Goal = psns_at s place (wrote_onto e n ws.wrote) ≡ (if is_write (d.work place) then map psn_bits (numbers_at place after.link.acceptances) else [])

    -- nothing wrote for a request of the life that sends
    unchanged : psns_at s place (wrote_onto e n ws.wrote) ≡ psns_at s place ws.wrote → written_by_delivery r w l name index ms place ≡ [] → Goal
    unchanged same none = same ∙ before place ∙ at (is_write (d.work place)) refl
      where
        at : (b : Bool) → is_write (d.work place) ≡ b → (if b then map psn_bits (numbers_at place l.acceptances) else []) ≡ (if b then map psn_bits (numbers_at place after.link.acceptances) else [])
        at true is = ap (map psn_bits) (sym (after.wrote place is ∙ ap (λ ns. ns ++ numbers_at place l.acceptances) none))
        at false is = refl

    lies : correspondent_eq e.source s ≡ true → LiesThere r l.requests name k
    lies mine = told.alone name k e sent.at sent.uncut (path mine)
      where
        path : correspondent_eq e.source s ≡ true → e.source ≡ s
        path is = let parts = and_parts (queue_eq e.source.queue s.queue) (e.source.incarnation == s.incarnation) is in
            ap₂ (λ (q : QueueId) (i : ℕ). record { queue = q; incarnation = i }) (queue-path e.source.queue s.queue parts.0) (eqb-true e.source.incarnation s.incarnation parts.1)

    here : queue_eq name r.queue ≡ true → slice_get (past.envelopes r.queue) k ≡ Some e
    here is = ap (λ n. slice_get (past.envelopes n) k) (sym (queue-path name r.queue is)) ∙ sent.at

    written-here : queue_eq name r.queue ≡ true → (o : Option (Option RequestPacket)) → slice_get l.requests k ≡ o → written_by_delivery r w l name index ms place ≡ written_by_entry o n place
    written-here is o at = ap₂ (λ b x. if b then written_by_entry x n place else []) is at

    -- the packet of one of its requests was delivered
    changed : (x : RequestPacket) → queue_eq name r.queue ≡ true → slice_get l.requests k ≡ Some (Some x) → correspondent_eq e.source s ≡ true → Goal
    changed x is at mine = onto-own s place x.place e n ws.wrote mine (entry-sent s l.requests (past.envelopes r.queue) k (Some x) e told.sources at (here is)).1
        ∙ ap (λ ys. (if x.place == place then replicate n (psn_in e.bytes) else []) ++ ys) (before place) ∙ of (is_write (d.work place)) refl
      where
        lent : IsLent index (w.mailbox name) delivers.bytes
        lent = lent-envelope index (w.mailbox name) delivers.bytes delivers.lent

        at_r : slice_get (w.mailbox r.queue).envelopes k ≡ Some lent.envelope
        at_r = ap (λ q. slice_get (w.mailbox q).envelopes k) (sym (queue-path name r.queue is)) ∙ lent.at

        same_bytes : e.bytes ≡ lent.envelope.bytes
        same_bytes = latest-bytes (w.mailbox r.queue).envelopes (past.envelopes r.queue) k lent.envelope e (agree.latest r.queue) at_r (here is)

        spells : SpellsRequest d x e.bytes
        spells = subst (SpellsRequest d x) (sym same_bytes) (of_tie told.tied.receiver)
          where
            empty : l.requests ≡ [] → SpellsRequest d x lent.envelope.bytes
            empty none = absurd (true≢false (sym (ap is_some at) ∙ ap (λ xs. is_some (slice_get xs k)) none))

            of_tie : ReceiverTie d s r (w.queue r.queue) (w.mailbox r.queue) l.responder l.requests → SpellsRequest d x lent.envelope.bytes
            of_tie (receiver_before own responder none) = empty none
            of_tie (receiver_gone own none) = empty none
            of_tie (receiver_standing t paired own entries) = subst (λ o. EntryIs (SpellsRequest d) SpellsSomeResponse o lent.envelope.bytes) at
                (entry-at (SpellsRequest d) SpellsSomeResponse (w.mailbox r.queue).envelopes l.requests k lent.envelope entries at_r)

        same_psns : replicate n (psn_in e.bytes) ≡ replicate n (psn_bits x.number)
        same_psns = told_by all.packet
          where
            told_by : (writes_told delivers.rest ≡ 0) ⊎ (is_some (packet_of e.bytes) ≡ true) → replicate n (psn_in e.bytes) ≡ replicate n (psn_bits x.number)
            told_by (inl none) = ap (λ (m : ℕ). replicate m (psn_in e.bytes)) (sym same_count ∙ none) ∙ sym (ap (λ (m : ℕ). replicate m (psn_bits x.number)) (sym same_count ∙ none))
            told_by (inr some) = ap (replicate n) (packet-psn d x e.bytes spells some)

        new : List ℕ
        new = if x.place == place then replicate n x.number else []

        new_is : written_by_delivery r w l name index ms place ≡ new
        new_is = written-here is (Some (Some x)) at

        bits : (b : Bool) → (if b then replicate n (psn_in e.bytes) else []) ≡ map psn_bits (if b then replicate n x.number else [])
        bits true = same_psns ∙ sym (map-replicate n x.number)
        bits false = refl

        of : (b : Bool) → is_write (d.work place) ≡ b → (if x.place == place then replicate n (psn_in e.bytes) else []) ++ (if b then map psn_bits (numbers_at place l.acceptances) else [])
            ≡ (if b then map psn_bits (numbers_at place after.link.acceptances) else [])
        of true write = ap (λ ys. ys ++ map psn_bits (numbers_at place l.acceptances)) (bits (x.place == place)) ∙ sym (map-append new (numbers_at place l.acceptances))
            ∙ ap (map psn_bits) (sym (after.wrote place write ∙ ap (λ ns. ns ++ numbers_at place l.acceptances) new_is))
        of false none = ap (λ ys. ys ++ []) (bits (x.place == place) ∙ ap (map psn_bits) (sym new_is ∙ after.unwritten place none))

    -- the entry, by who sent its envelope
    entry : queue_eq name r.queue ≡ true → (b : Bool) → correspondent_eq e.source s ≡ b → (o : Option (Option RequestPacket)) → slice_get l.requests k ≡ o → Goal
    entry is true mine None at = absurd (among-some l.requests k (lies mine).among at)
    entry is false other None at = unchanged (onto-other s place e n ws.wrote other) (written-here is None at)
    entry is b whose (Some None) at = unchanged (ap (psns_at s place) (onto-none e n ws.wrote (entry-sent s l.requests (past.envelopes r.queue) k None e told.sources at (here is)))) (written-here is (Some None) at)
    entry is true mine (Some (Some x)) at = changed x is at mine
    entry is false other (Some (Some x)) at =
        absurd (true≢false (sym (ap (λ y. correspondent_eq y s) (entry-sent s l.requests (past.envelopes r.queue) k (Some x) e told.sources at (here is)).0 ∙ itself) ∙ other))
      where
        itself : correspondent_eq s s ≡ true
        itself = ap₂ (λ a b. a && b) (queue-refl s.queue) (same-number s.incarnation s.incarnation refl)

    by : (b : Bool) → queue_eq name r.queue ≡ b → (a : Bool) → correspondent_eq e.source s ≡ a → Goal
    by true is a whose = entry is a whose (slice_get l.requests k) refl
    by false not a whose = at a whose
      where
        nothing : written_by_delivery r w l name index ms place ≡ []
        nothing = ap (λ b. if b then written_by_entry (slice_get l.requests k) n place else []) not

        at : (a : Bool) → correspondent_eq e.source s ≡ a → Goal
        at true mine = absurd (true≢false (sym (ap (λ n. queue_eq n r.queue) (lies mine).at ∙ queue-refl r.queue) ∙ not))
        at false other = unchanged (onto-other s place e n ws.wrote other) nothing

-- ---- an event

pub event-wrote : (d : Direction) (s r : Correspondent) (past : Past) (w v : World) (l : Link) (event : Event) (ms : List Mark) (ws : Writes)
    (after : TiedAfter d s r w l (acted_by r w l event ms) (written_by r w l event ms) v)
    → IsTold d s r past w l → PathsAgree past w → Meets w event ms → each_mark has_its_packet (at_begin event past) ms ≡ true → each_mark is_judged (at_begin event past) ms ≡ true → AreWritten d s ws l
    → AreWritten d s (writes_of_marks ms (at_begin event past) ws) after.link
event-wrote d s r past w v l (events.Verb by verb) ms ws after told agree meets carried judged before =
    wrote-same d s r w v l _ _ after ws (writes_of_marks ms (at_begin (events.Verb by verb) past) ws) before (unmet-wrote ms (at_begin (events.Verb by verb) past) ws meets.0 (record {}) carried judged) (λ place. refl)
event-wrote d s r past w v l (events.Request queue lot) ms ws after told agree meets carried judged before =
    wrote-same d s r w v l _ _ after ws (writes_of_marks ms (at_begin (events.Request queue lot) past) ws) before (unmet-wrote ms (at_begin (events.Request queue lot) past) ws meets.0 (record {}) carried judged) (λ place. refl)
event-wrote d s r past w v l (events.Respond queue lot) ms ws after told agree meets carried judged before =
    wrote-same d s r w v l _ _ after ws (writes_of_marks ms (at_begin (events.Respond queue lot) past) ws) before (unmet-wrote ms (at_begin (events.Respond queue lot) past) ws meets.0 (record {}) carried judged) (λ place. refl)
event-wrote d s r past w v l (events.Timeout queue hasten) ms ws after told agree meets carried judged before =
    wrote-same d s r w v l _ _ after ws (writes_of_marks ms (at_begin (events.Timeout queue hasten) past) ws) before (unmet-wrote ms (at_begin (events.Timeout queue hasten) past) ws (own-unmet ms meets) (record {}) carried judged) (λ place. refl)
event-wrote d s r past w v l (events.RnrWake queue) ms ws after told agree meets carried judged before =
    wrote-same d s r w v l _ _ after ws (writes_of_marks ms (at_begin (events.RnrWake queue) past) ws) before (unmet-wrote ms (at_begin (events.RnrWake queue) past) ws (own-unmet ms meets) (record {}) carried judged) (λ place. refl)
event-wrote d s r past w v l (events.Deliver name index) ms ws after told agree meets carried judged before =
    wrote-delivered d s r past w v l (events.Deliver name index) name index ms _ ws after told agree meets carried judged before
