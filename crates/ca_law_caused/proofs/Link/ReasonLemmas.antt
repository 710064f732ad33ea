-- What changes of queue pairs and of mailboxes leave of the reasons of NAKs. For proofs only.
use Rattle.std.proofs.Common.{◌≡◌, ℕ, Bool, true, false, if◌then◌else◌, List, [], ◌∷◌, take, map, Option, None, Some, refl, sym, subst, ◌∙◌, zero, suc, ◌==◌, ◌-◌}
use Rattle.std.proofs.lemmas.Option.{same_Some}
use Rattle.std.specs.List.{AllByRecursion, list_any}
use Rattle.ca_law_keys.specs.Posts.{life}
use Rattle.ca_base.specs.declared.correspondent.Correspondent.{Correspondent}
use Rattle.ca_base.specs.declared.limits.TheConstants.{KEPT_ENVELOPES}
use Rattle.ca_base.specs.declared.lot.Lot.{Lot}
use Rattle.ca_base.specs.declared.mail_envelope.MailEnvelope.{MailEnvelope}
use Rattle.ca_base.specs.declared.queue_numbers.Queued.{Queued}
use Rattle.ca_base.specs.declared.queue_numbers.ResponderNumbers.{ResponderNumbers}
use Rattle.ca_base.specs.objects.Mailbox.{Mailbox, after_delivery, after_send, later_than, with_delivery}
use Rattle.ca_base.specs.objects.QueuePair.{QueuePair, QueueSlot, NoQueue, Present, correspondent_of}
use Rattle.ca_law_caused.proofs.Link.RowLemmas.{All}
use Rattle.ca_law_caused.specs.Refused.{BoxHasReasons, HasBefallen, HasReason, HaveReasons, SlotHasReasons, SpellReason}
use Rattle.ca_connection.specs.Link.{NakReason, Response}
use Rattle.ca_connection.specs.Link.NakReason.{PsnSequenceError, InvalidRequest, RemoteAccessError, RemoteOperationalError, ReceiverNotReady}
use Rattle.ca_connection.specs.Link.Response.{Ack, Nak, Data, Found}
use Rattle.ca_connection.specs.Moves.{Keeps}
use Rattle.ca_connection.specs.Moves.Keeps.{none as keeps_none, keep as keeps_one, leave as leaves_one}
use Rattle.ca_keys.specs.Equal.{queue_eq}
use Rattle.ca_keys.specs.declared.names.QueueId.{QueueId}
use Rattle.ca_law_world.proofs.Sound.SettledLemmas.{queue-path}
use Rattle.ca_model.specs.Caused.{makes_access_error, makes_invalid, makes_operational_error}
use Rattle.ca_model.specs.Past.{Fault, with_at}
use Rattle.ca_model.specs.machine.Turns.{Packet, reaches_peer}
use Rattle.ca_model.specs.machine.World.{World}
use Rattle.ca_law_once.proofs.Ties.SendLemmas.{boxes_after, reaches-parts}
use Rattle.ca_law_once.proofs.Rows.ForgetLemmas.{Forgets}
use Rattle.ca_law_once.specs.Sides.{said}
use Rattle.ca_law_once.proofs.Verbs.PairLemmas.{Replaces}

-- ---- more faults

abbrev pub More : List Fault → List Fault → Type 0
More fs gs = (test : Fault → Bool) → list_any test fs ≡ true → list_any test gs ≡ true

befallen-more : (fs gs : List Fault) → More fs gs → (reason : NakReason) → HasBefallen reason fs → HasBefallen reason gs
befallen-more fs gs more PsnSequenceError has = record {}
befallen-more fs gs more InvalidRequest has = more makes_invalid has
befallen-more fs gs more RemoteAccessError has = more makes_access_error has
befallen-more fs gs more RemoteOperationalError has = more makes_operational_error has
befallen-more fs gs more ReceiverNotReady has = record {}

has-more : (fs gs : List Fault) → More fs gs → (a : Response) → HasReason fs a → HasReason gs a
has-more fs gs more (Ack n) has = record {}
has-more fs gs more (Nak reason n) has = befallen-more fs gs more reason has
has-more fs gs more (Data n left) has = record {}
has-more fs gs more (Found n found) has = record {}

all-with-more : (fs gs : List Fault) → More fs gs → (xs : List Queued) → All fs xs → All gs xs
all-with-more fs gs more [] all = record {}
all-with-more fs gs more (a ∷ xs) all = (has-more fs gs more (said a) all.0, all-with-more fs gs more xs all.1)

spell-more : (fs gs : List Fault) → More fs gs → (es : List MailEnvelope) → AllByRecursion (λ e. SpellReason fs e.bytes) es → AllByRecursion (λ e. SpellReason gs e.bytes) es
spell-more fs gs more [] all = record {}
spell-more fs gs more (e ∷ es) all = (λ p is response code refuses. befallen-more fs gs more _ (all.0 p is response code refuses), spell-more fs gs more es all.1)

pub reasons-more : (fs gs : Correspondent → List Fault) (w : World) → ((l : Correspondent) → More (fs l) (gs l)) → HaveReasons fs w → HaveReasons gs w
reasons-more fs gs w more have = record { queues = λ n. slot n (w.queue n) (have.queues n); mail = λ n peer is. spell-more (fs peer) (gs peer) (more peer) (w.mailbox n).envelopes (have.mail n peer is) }
  where
    slot : (n : QueueId) (s : QueueSlot) → SlotHasReasons fs n s → SlotHasReasons gs n s
    slot n (NoQueue incarnation timers) has = record {}
    slot n (Present q) has = all-with-more (fs (life n q.incarnation)) (gs (life n q.incarnation)) (more (life n q.incarnation)) q.responder.answers has

-- ---- answers that wait

kept-said : (P : Response → Type 0) (xs ys : List Response) → Keeps xs ys → AllByRecursion P xs → AllByRecursion P ys
kept-said P [] [] keeps_none all = record {}
kept-said P [] (y ∷ ys) keeps all = elim keeps [ ]
kept-said P (x ∷ xs) (y ∷ ys) (keeps_one keeps) all = (all.0, kept-said P xs ys keeps all.1)
kept-said P (x ∷ xs) ys (leaves_one keeps) all = kept-said P xs ys keeps all.1

all-said : (fs : List Fault) (xs : List Queued) → All fs xs → AllByRecursion (HasReason fs) (map said xs)
all-said fs [] all = record {}
all-said fs (x ∷ xs) all = (all.0, all-said fs xs all.1)

said-all : (fs : List Fault) (xs : List Queued) → AllByRecursion (HasReason fs) (map said xs) → All fs xs
said-all fs [] all = record {}
said-all fs (x ∷ xs) all = (all.0, said-all fs xs all.1)

pub keeps-all : (fs : List Fault) (xs ys : List Queued) → Keeps (map said xs) (map said ys) → All fs xs → All fs ys
keeps-all fs xs ys keeps all = said-all fs ys (kept-said (HasReason fs) (map said xs) (map said ys) keeps (all-said fs xs all))

pub forgets-all : (fs : List Fault) (q p : QueuePair) → Forgets q p → All fs q.responder.answers → All fs p.responder.answers
forgets-all fs q p (Forgets.stays s) all = subst (λ (r : ResponderNumbers). All fs r.answers) (sym s.responder) all
forgets-all fs q p (Forgets.emptied expected none mtu saved state) all = subst (All fs) (sym none) (record {})

-- ---- changes

pub slot-of : (F : Correspondent → List Fault) (name : QueueId) (q p : QueuePair) → p.incarnation ≡ q.incarnation → ((fs : List Fault) → All fs q.responder.answers → All fs p.responder.answers) → SlotHasReasons F name (Present q)
    → SlotHasReasons F name (Present p)
slot-of F name q p same all has = subst (λ i. All (F (life name i)) p.responder.answers) (sym same) (all (F (life name q.incarnation)) has)

pub reasons-replaced : (F : Correspondent → List Fault) (w v : World) (name : QueueId) (slot : QueueSlot) (box : Mailbox) → HaveReasons F w → SlotHasReasons F name slot → BoxHasReasons F box → Replaces w name slot box v → HaveReasons F v
reasons-replaced F w v name slot box have own mail replaces = record { queues = λ n. queue n (queue_eq name n) refl; mail = λ n. at n (queue_eq name n) refl }
  where
    queue : (n : QueueId) (b : Bool) → queue_eq name n ≡ b → SlotHasReasons F n (v.queue n)
    queue n true e = subst (SlotHasReasons F n) (sym (replaces.here n e).0) (subst (λ k. SlotHasReasons F k slot) (queue-path name n e) own)
    queue n false e = subst (SlotHasReasons F n) (sym (replaces.elsewhere n e).0) (have.queues n)

    at : (n : QueueId) (b : Bool) → queue_eq name n ≡ b → BoxHasReasons F (v.mailbox n)
    at n true e = subst (BoxHasReasons F) (sym (replaces.here n e).1) mail
    at n false e = subst (BoxHasReasons F) (sym (replaces.elsewhere n e).1) (have.mail n)

pub reasons-found : (F : Correspondent → List Fault) (w : World) (name : QueueId) (q : QueuePair) → w.queue name ≡ Present q → HaveReasons F w → SlotHasReasons F name (Present q)
reasons-found F w name q is have = subst (SlotHasReasons F name) is (have.queues name)

-- a mailbox of which an envelope was delivered
delivered-all : (P : List ℕ → Type 0) (later : ℕ) (es : List MailEnvelope) → AllByRecursion (λ e. P e.bytes) es → AllByRecursion (λ e. P e.bytes) (with_delivery later es)
delivered-all P later [] all = record {}
delivered-all P later (e ∷ es) all = by (later == 0) (delivered-all P (later - 1) es all.1)
  where
    by : (b : Bool) → AllByRecursion (λ e. P e.bytes) (with_delivery (later - 1) es) → AllByRecursion (λ e. P e.bytes) (if b then record e { delivered = suc e.delivered } ∷ es else e ∷ with_delivery (later - 1) es)
    by true rest = all
    by false rest = (all.0, rest)

pub box-delivered : (F : Correspondent → List Fault) (index : ℕ) (m : Mailbox) → BoxHasReasons F m → BoxHasReasons F (after_delivery index m)
box-delivered F index m has peer is = delivered-all (SpellReason (F peer)) (later_than index m) m.envelopes (has peer is)

-- a mailbox with one more envelope
all-taken : {A : Type 0} (P : A → Type 0) (k : ℕ) (xs : List A) → AllByRecursion P xs → AllByRecursion P (take k xs)
all-taken P zero xs all = record {}
all-taken P (suc k) [] all = record {}
all-taken P (suc k) (x ∷ xs) all = (all.0, all-taken P k xs all.1)

box-grown : (F : Correspondent → List Fault) (lot : Lot) (bytes : List ℕ) (m : Mailbox) (peer : Correspondent) → m.peer ≡ Some peer → SpellReason (F peer) bytes → BoxHasReasons F m → BoxHasReasons F (after_send lot bytes m)
box-grown F lot bytes m peer accepts spells has other is = all-taken (λ e. SpellReason (F other) e.bytes) KEPT_ENVELOPES (record { lot = lot; bytes = bytes; delivered = 0 } ∷ m.envelopes)
    (subst (λ l. SpellReason (F l) bytes) (same_Some peer other (sym accepts ∙ is)) spells, has other is)

pub boxes-have : (F : Correspondent → List Fault) (w : World) (q : QueuePair) (p : Correspondent) (lot : Lot) (o : Option Packet) → ((x : Packet) → o ≡ Some x → SpellReason (F (correspondent_of q)) x.bytes) → HaveReasons F w
    → (n : QueueId) → BoxHasReasons F (boxes_after w q p lot o n)
boxes-have F w q p lot None spells have n = have.mail n
boxes-have F w q p lot (Some x) spells have n = by (reaches_peer q p (w.mailbox p.queue)) refl
  where
    grown : BoxHasReasons F (w.mailbox p.queue) → reaches_peer q p (w.mailbox p.queue) ≡ true → BoxHasReasons F (after_send lot x.bytes (w.mailbox p.queue))
    grown has reaches = box-grown F lot x.bytes (w.mailbox p.queue) (correspondent_of q) (reaches-parts q p (w.mailbox p.queue) reaches).1 (spells x refl) has

    at : reaches_peer q p (w.mailbox p.queue) ≡ true → (b : Bool) → BoxHasReasons F (if b then after_send lot x.bytes (w.mailbox p.queue) else w.mailbox n)
    at reaches true = grown (have.mail p.queue) reaches
    at reaches false = have.mail n

    by : (b : Bool) → reaches_peer q p (w.mailbox p.queue) ≡ b → BoxHasReasons F ((if b then with_at queue_eq w.mailbox p.queue (after_send lot x.bytes (w.mailbox p.queue)) else w.mailbox) n)
    by true e = at e (queue_eq p.queue n)
    by false e = have.mail n

-- one slot is put, and the mailboxes are these
pub reasons-put : (F : Correspondent → List Fault) (w v : World) (name : QueueId) (slot : QueueSlot) (boxes : QueueId → Mailbox) → HaveReasons F w → SlotHasReasons F name slot → ((n : QueueId) → BoxHasReasons F (boxes n))
    → v.queue ≡ with_at queue_eq w.queue name slot → v.mailbox ≡ boxes → HaveReasons F v
reasons-put F w v name slot boxes have own mail queues mailboxes = record {
  queues = λ n. subst (λ (f : QueueId → QueueSlot). SlotHasReasons F n (f n)) (sym queues) (at n (queue_eq name n) refl);
  mail = λ n. subst (λ (f : QueueId → Mailbox). BoxHasReasons F (f n)) (sym mailboxes) (mail n);
}
  where
    at : (n : QueueId) (b : Bool) → queue_eq name n ≡ b → SlotHasReasons F n (if b then slot else w.queue n)
    at n true e = subst (λ k. SlotHasReasons F k slot) (queue-path name n e) own
    at n false e = have.queues n

-- queue pairs and mailboxes are the same
pub reasons-same : (F : Correspondent → List Fault) (w v : World) → v.queue ≡ w.queue → v.mailbox ≡ w.mailbox → HaveReasons F w → HaveReasons F v
reasons-same F w v queues mailboxes have = record {
  queues = λ n. subst (λ (f : QueueId → QueueSlot). SlotHasReasons F n (f n)) (sym queues) (have.queues n);
  mail = λ n. subst (λ (f : QueueId → Mailbox). BoxHasReasons F (f n)) (sym mailboxes) (have.mail n);
}
