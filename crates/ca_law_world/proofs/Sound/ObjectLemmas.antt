-- What each change of an object keeps: shared receive queues, mailboxes, windows, domains, work queues.
use Rattle.std.proofs.Common.{zero, ◌≡◌, ℕ, suc, ◌+◌, ◌-◌, ◌≤◌, ◌<◌, nat_lt, arith, Bool, true, false, List, [], ◌∷◌, ◌++◌, length, drop, take, filter, map, Option, None, Some, IfSome, subst, ◌∙◌, ◌==◌, not, ap, sym, true≢false, if◌then◌else◌, refl}
use Rattle.std.proofs.lemmas.Bool.{and_parts, eqb-false, leb-false, ltb-true, ltb-false, or_parts}
use Rattle.std.proofs.lemmas.List.{length-append, length-take}
use Rattle.std.specs.List.{AllByRecursion}
use Rattle.std.specs.Option.{option_eq}
use Rattle.ca_base.specs.declared.completion.Completion.{Completion}
use Rattle.ca_base.specs.declared.limits.TheConstants.{KEPT_ENVELOPES, MAX_DEPTH, MAX_UNDELIVERED}
use Rattle.ca_base.specs.declared.lot.Lot.{Lot}
use Rattle.ca_keys.specs.declared.names.QueueId.{QueueId}
use Rattle.ca_base.specs.declared.request.RecvRequest.{RecvRequest}
use Rattle.ca_keys.specs.declared.rights.Rights.{Rights}
use Rattle.ca_base.specs.Grants.{next_low}
use Rattle.ca_base.specs.objects.CompletionQueue.{CompletionQueue}
use Rattle.ca_base.specs.objects.Domain.{Domain, with_object, without_object}
use Rattle.ca_base.specs.declared.correspondent.Correspondent.{Correspondent}
use Rattle.ca_base.specs.declared.mail_envelope.MailEnvelope.{MailEnvelope}
use Rattle.ca_base.specs.objects.Mailbox.{Mailbox, after_delivery, after_send, has_room, is_undelivered, later_than, undelivered_count, with_delivery, with_peer, without_envelopes}
use Rattle.ca_base.specs.declared.request.PlacedReceive.{PlacedReceive}
use Rattle.ca_base.specs.objects.SharedReceives.{SharedReceives, after_receive_post, after_receive_retire, after_receive_take, after_receives_retire, empty_receives, is_full_of_receives}
use Rattle.ca_base.specs.objects.Window.{Window, after_binding, after_deallocation, after_draw, without_binding}
use Rattle.ca_model.specs.machine.CompletionVerbs.{is_no_depth, receives_after_poll, source_of_completion}
use Rattle.ca_model.specs.machine.Invariants.{IsDomain, IsMailbox, IsReceive, IsSharedReceives, IsWindow}

IsPlaced : ℕ → PlacedReceive → Type 0
IsPlaced next r = IsReceive r.receive × (r.place < next)

pub take-receive : (s : SharedReceives) → IsSharedReceives s → IsSharedReceives (after_receive_take s)
take-receive s sound = record { some = sound.some; depth = sound.depth; room = room s.waiting sound.room; waiting = rest s.waiting sound.waiting }
  where
    room : (xs : List PlacedReceive) → length xs + length s.taken ≤ s.depth
        → length (drop 1 xs) + length (s.taken ++ map (λ r. r.place) (take 1 xs)) ≤ s.depth
    room [] le = omega (arith, le, length-append s.taken [])
    room (x ∷ xs) le = omega (arith, le, length-append s.taken (x.place ∷ []))

    rest : (xs : List PlacedReceive) → AllByRecursion (λ r. IsReceive r.receive × (r.place < s.next)) xs → AllByRecursion (λ r. IsReceive r.receive × (r.place < s.next)) (drop 1 xs)
    rest [] all = record {}
    rest (x ∷ xs) all = all.1

filter-length : {A : Type 0} (test : A → Bool) (xs : List A) → length (filter test xs) ≤ length xs
filter-length test [] = omega arith
filter-length test (x ∷ xs) = by (test x) (filter-length test xs)
  where
    by : (b : Bool) → length (filter test xs) ≤ length xs → length (if b then x ∷ filter test xs else filter test xs) ≤ suc (length xs)
    by true rest = omega (arith, rest)
    by false rest = omega (arith, rest)

pub retire-receive : (place : ℕ) (s : SharedReceives) → IsSharedReceives s → IsSharedReceives (after_receive_retire place s)
retire-receive place s sound = record {
  some = sound.some;
  depth = sound.depth;
  room = omega (arith, sound.room, filter-length (λ p. not (p == place)) s.taken);
  waiting = sound.waiting;
}

pub retire-receives : (places : List ℕ) (s : SharedReceives) → IsSharedReceives s → IsSharedReceives (after_receives_retire places s)
retire-receives [] s sound = sound
retire-receives (p ∷ ps) s sound = retire-receives ps (after_receive_retire p s) (retire-receive p s sound)

pub poll-receives : (cq : CompletionQueue) (srq : ℕ) (xs : List Completion) (s : SharedReceives) → IsSharedReceives s → IsSharedReceives (receives_after_poll cq srq xs s)
poll-receives cq srq [] s sound = sound
poll-receives cq srq (x ∷ xs) s sound =
    poll-receives cq srq xs (if option_eq (λ a b. a == b) (source_of_completion cq x) (Some srq) then after_receive_retire x.place s else s)
    (by (option_eq (λ a b. a == b) (source_of_completion cq x) (Some srq)))
  where
    by : (b : Bool) → IsSharedReceives (if b then after_receive_retire x.place s else s)
    by true = retire-receive x.place s sound
    by false = sound

pub post-receive : (r : RecvRequest) (s : SharedReceives) → IsSharedReceives s → IsReceive r → is_full_of_receives s ≡ false → IsSharedReceives (after_receive_post r s)
post-receive r s sound receive free = record {
  some = sound.some;
  depth = sound.depth;
  room = omega (arith, leb-false s.depth (length s.waiting + length s.taken) free, length-append s.waiting (record { place = s.next; receive = r } ∷ []));
  waiting = more s.waiting sound.waiting;
}
  where
    more : (xs : List PlacedReceive) → AllByRecursion (λ r. IsReceive r.receive × (r.place < s.next)) xs
        → AllByRecursion (λ r. IsReceive r.receive × (r.place < suc s.next)) (xs ++ record { place = s.next; receive = r } ∷ [])
    more [] all = ((receive, omega arith), record {})
    more (x ∷ xs) all = ((all.0.0, omega (arith, all.0.1)), more xs all.1)

pub depth-parts : (depth : ℕ) → is_no_depth depth ≡ false → (0 < depth) × (depth ≤ MAX_DEPTH)
depth-parts depth e = by (or_parts (depth == 0) (nat_lt MAX_DEPTH depth) e)
  where
    by : ((depth == 0) ≡ false) × (nat_lt MAX_DEPTH depth ≡ false) → (0 < depth) × (depth ≤ MAX_DEPTH)
    by parts = (omega (arith, eqb-false depth 0 parts.0), ltb-false MAX_DEPTH depth parts.1)

pub made-receives : (depth : ℕ) → is_no_depth depth ≡ false → IsSharedReceives (empty_receives depth)
made-receives depth e = record { some = (depth-parts depth e).0; depth = (depth-parts depth e).1; room = omega arith; waiting = record {} }

-- fewer of the first envelopes are undelivered
taken-undelivered : (k : ℕ) (es : List MailEnvelope) → undelivered_count (take k es) ≤ undelivered_count es
taken-undelivered zero es = omega arith
taken-undelivered (suc k) [] = omega arith
taken-undelivered (suc k) (e ∷ es) = by (is_undelivered e) (taken-undelivered k es)
  where
    by : (b : Bool) → undelivered_count (take k es) ≤ undelivered_count es
        → length (if b then e ∷ filter is_undelivered (take k es) else filter is_undelivered (take k es)) ≤ length (if b then e ∷ filter is_undelivered es else filter is_undelivered es)
    by true rest = omega (arith, rest)
    by false rest = rest

pub sent-mailbox : (lot : Lot) (bytes : List ℕ) (m : Mailbox) → IsMailbox m → has_room m ≡ true → IsMailbox (after_send lot bytes m)
sent-mailbox lot bytes m sound room = record {
  kept = omega (arith, length-take KEPT_ENVELOPES (new ∷ m.envelopes));
  came = omega (arith, length-take KEPT_ENVELOPES (new ∷ m.envelopes), sound.came);
  undelivered = omega (arith, taken-undelivered KEPT_ENVELOPES (new ∷ m.envelopes), one (is_undelivered new), few);
}
  where
    new : MailEnvelope
    new = record { lot = lot; bytes = bytes; delivered = 0 }

    few : undelivered_count m.envelopes < MAX_UNDELIVERED
    few = ltb-true (undelivered_count m.envelopes) MAX_UNDELIVERED (and_parts (nat_lt (undelivered_count m.envelopes) MAX_UNDELIVERED) _ room).0

    one : (b : Bool) → length (if b then new ∷ filter is_undelivered m.envelopes else filter is_undelivered m.envelopes) ≤ suc (undelivered_count m.envelopes)
    one true = omega arith
    one false = omega arith

delivered-length : (k : ℕ) (es : List MailEnvelope) → length (with_delivery k es) ≡ length es
delivered-length k [] = refl
delivered-length k (e ∷ es) = by (k == 0) (delivered-length (k - 1) es)
  where
    by : (b : Bool) → length (with_delivery (k - 1) es) ≡ length es → length (if b then record e { delivered = suc e.delivered } ∷ es else e ∷ with_delivery (k - 1) es) ≡ suc (length es)
    by true rest = refl
    by false rest = ap suc rest

delivered-fewer : (k : ℕ) (es : List MailEnvelope) → undelivered_count (with_delivery k es) ≤ undelivered_count es
delivered-fewer k [] = omega arith
delivered-fewer k (e ∷ es) = by (k == 0) (is_undelivered e) refl (delivered-fewer (k - 1) es)
  where
    count : Bool → MailEnvelope → List MailEnvelope → List MailEnvelope
    count b x xs = if b then x ∷ filter is_undelivered xs else filter is_undelivered xs

    once : MailEnvelope
    once = record e { delivered = suc e.delivered }

    more : (z : Bool) → is_undelivered e ≡ z → (b : Bool) → is_undelivered once ≡ b → length (count b once es) ≤ length (count z e es)
    more true f true g = omega arith
    more true f false g = omega arith
    more false f false g = omega arith
    more false f true g = absurd (omega (arith, ltb-true (suc e.delivered) _ g, ltb-false e.delivered _ f))

    by : (b z : Bool) → is_undelivered e ≡ z → undelivered_count (with_delivery (k - 1) es) ≤ undelivered_count es
        → undelivered_count (if b then once ∷ es else e ∷ with_delivery (k - 1) es) ≤ length (count z e es)
    by true z f rest = more z f (is_undelivered once) refl
    by false z f rest = subst (λ t. length (count t e (with_delivery (k - 1) es)) ≤ length (count z e es)) (sym f) (same z)
      where
        same : (z : Bool) → length (count z e (with_delivery (k - 1) es)) ≤ length (count z e es)
        same true = omega (arith, rest)
        same false = rest

pub delivered-mailbox : (index : ℕ) (m : Mailbox) → IsMailbox m → IsMailbox (after_delivery index m)
delivered-mailbox index m sound = record {
  kept = omega (arith, sound.kept, delivered-length (later_than index m) m.envelopes);
  came = omega (arith, sound.came, delivered-length (later_than index m) m.envelopes);
  undelivered = omega (arith, sound.undelivered, delivered-fewer (later_than index m) m.envelopes);
}

pub named-mailbox : (incarnation : ℕ) (peer : Option Correspondent) (m : Mailbox) → IsMailbox m → IsMailbox (with_peer incarnation peer m)
named-mailbox incarnation peer m sound = record { kept = sound.kept; came = sound.came; undelivered = sound.undelivered }

pub emptied-mailbox : (m : Mailbox) → IsMailbox (without_envelopes m)
emptied-mailbox m = record { kept = omega arith; came = omega arith; undelivered = omega arith }

pub unbound-window : (w : Window) → IsWindow w → IsWindow (without_binding w)
unbound-window w sound = record { kind = sound.kind; binding = record {} }

pub drawn-window : (w : Window) → IsWindow w → IsWindow (after_draw w)
drawn-window w sound = by (w.kind == 1)
  where
    by : (b : Bool) → IsWindow (if b then record w { drawn = next_low w.drawn } else w)
    by true = record { kind = sound.kind; binding = sound.binding }
    by false = sound

pub vacated-window : (w : Window) → IsWindow (after_deallocation w)
vacated-window w = record { kind = omega arith; binding = record {} }

pub bound-window : (low : ℕ) (queue : Option QueueId) (region address count : ℕ) (rights : Rights) (w : Window) → IsWindow w → (count == 0) ≡ false
    → IfSome queue (λ q. w.kind ≡ 2) → (queue ≡ None → w.kind ≡ 1) → IsWindow (after_binding low queue region address count rights w)
bound-window low queue region address count rights w sound some two one = record {
  kind = sound.kind;
  binding = record { some = omega (arith, eqb-false count 0 some); local_write = refl; window_bind = refl; queue = two; no_queue = one };
}

pub object-added : (d : Domain) → d.allocated ≡ true → IsDomain (with_object d)
object-added d e = λ none. absurd (true≢false (sym e ∙ none))

pub object-removed : (d : Domain) → IsDomain d → IsDomain (without_object d)
object-removed d sound = λ none. omega (arith, sound none)
