-- What keeps the agreement on paths: marks that tell of none, and changes that leave incarnations, peers and indices. For
-- proofs only.
use Rattle.std.proofs.Common.{◌≡◌, ℕ, Bool, true, false, if◌then◌else◌, List, [], ◌∷◌, ◌++◌, length, Option, None, Some, refl, sym, ap, subst, ◌∙◌}
use Rattle.std.specs.Option.{option_map}
use Rattle.ca_law_endings.specs.Agreement.{AreLatest, AreNumbered, PathsAgree, peer_in, peer_named}
use Rattle.ca_law_endings.proofs.InnerLemmas.{AreInner, IsInner, IsInnerMark}
use Rattle.ca_law_endings.proofs.LeadsLemmas.{AreAside, IsAsideName}
use Rattle.ca_base.specs.objects.Mailbox.{Mailbox}
use Rattle.ca_base.specs.objects.QueuePair.{QueuePair, Present, incarnation_of, srq_of}
use Rattle.ca_base.specs.objects.SharedReceives.{SrqSlot, after_receive_take}
use Rattle.ca_keys.specs.Equal.{queue_eq}
use Rattle.ca_keys.specs.Memory.{memory_after}
use Rattle.ca_keys.specs.declared.names.QueueId.{QueueId}
use Rattle.ca_model.specs.Past.{Envelope, Past, after_mark, after_marks, at_begin}
use Rattle.ca_model.specs.declared.event.Event.{Event}
use Rattle.ca_model.specs.declared.mark.Mark.{Mark}
use Rattle.ca_model.specs.declared.mark.Mark.TheVariants as marks
use Rattle.ca_model.specs.machine.Around.{Around, srq_updates, updates_of}
use Rattle.ca_model.specs.machine.Plan.{Update, ◌:=◌, Write, put_all, write_all}
use Rattle.ca_model.specs.machine.Row.{Effects}
use Rattle.ca_model.specs.machine.World.{World, Name, Domain_of, Region_of, Window_of, Cq_of, Srq_of, Queue_of, Mailbox_of, Byte_at, Thing, put}
use Rattle.ca_law_world.proofs.Sound.SettledLemmas.{queue-path}

-- two pasts that say the same of paths
pub record SamePaths (p r : Past) : Type 0 where
  pub incarnation : r.incarnation ≡ p.incarnation
  pub naming : r.naming ≡ p.naming
  pub envelopes : r.envelopes ≡ p.envelopes

pub same-past : (p : Past) → SamePaths p p
same-past p = record { incarnation = refl; naming = refl; envelopes = refl }

inner-mark : (m : Mark) → IsInnerMark m → (p r : Past) → SamePaths p r → SamePaths p (after_mark m r)
inner-mark (marks.Verb by verb answer) inner p r same = absurd inner
inner-mark (marks.Sent source target index request bytes) inner p r same = absurd inner
inner-mark (marks.Lost target index) inner p r same = absurd inner
inner-mark (marks.Granted g) inner p r same = record { incarnation = same.incarnation; naming = same.naming; envelopes = same.envelopes }
inner-mark (marks.Revoked adapter key) inner p r same = record { incarnation = same.incarnation; naming = same.naming; envelopes = same.envelopes }
inner-mark (marks.Remote queue domain envelope key kind address count verdict) inner p r same = record { incarnation = same.incarnation; naming = same.naming; envelopes = same.envelopes }
inner-mark (marks.Local queue domain key kind address count verdict) inner p r same = record { incarnation = same.incarnation; naming = same.naming; envelopes = same.envelopes }
inner-mark (marks.Stored place bytes) inner p r same = record { incarnation = same.incarnation; naming = same.naming; envelopes = same.envelopes }
inner-mark (marks.Arrived target index) inner p r same = record { incarnation = same.incarnation; naming = same.naming; envelopes = same.envelopes }
inner-mark (marks.Dropped target cause) inner p r same = record { incarnation = same.incarnation; naming = same.naming; envelopes = same.envelopes }
inner-mark (marks.Timer queue silent) inner p r same = record { incarnation = same.incarnation; naming = same.naming; envelopes = same.envelopes }
inner-mark (marks.Done queue x cause) inner p r same = record { incarnation = same.incarnation; naming = same.naming; envelopes = same.envelopes }

-- marks of rows tell of no path
pub inner-past : (ms : List Mark) → AreInner ms → (p r : Past) → SamePaths p r → SamePaths p (after_marks ms r)
inner-past [] inner p r same = same
inner-past (m ∷ ms) inner p r same = inner-past ms inner.1 p (after_mark m r) (inner-mark m inner.0 p r same)

pub marks-append : (ms ns : List Mark) (p : Past) → after_marks (ms ++ ns) p ≡ after_marks ns (after_marks ms p)
marks-append [] ns p = refl
marks-append (m ∷ ms) ns p = marks-append ms ns (after_mark m p)

-- a world with the incarnations, peers and indices of another, whose mailboxes keep what theirs keep
pub record KeepsPaths (w v : World) : Type 0 where
  pub incarnations : (n : QueueId) → incarnation_of (v.queue n) ≡ incarnation_of (w.queue n)
  pub peers : (n : QueueId) → peer_in (v.queue n) ≡ peer_in (w.queue n)
  pub owners : (n : QueueId) → (v.mailbox n).incarnation ≡ (w.mailbox n).incarnation
  pub accepted : (n : QueueId) → (v.mailbox n).peer ≡ (w.mailbox n).peer
  pub counts : (n : QueueId) → (v.mailbox n).next ≡ (w.mailbox n).next
  pub mail : (n : QueueId) (es : List Envelope) → AreLatest (w.mailbox n).envelopes es → AreLatest (v.mailbox n).envelopes es

pub same-world : (w : World) → KeepsPaths w w
same-world w = record { incarnations = λ n. refl; peers = λ n. refl; owners = λ n. refl; accepted = λ n. refl; counts = λ n. refl; mail = λ n es latest. latest }

-- a change that leaves them
abbrev pub IsKept : World → (n : Name) → Thing n → Type 0
IsKept w (Queue_of q) s = (incarnation_of s ≡ incarnation_of (w.queue q)) × (peer_in s ≡ peer_in (w.queue q))
IsKept w (Mailbox_of q) m = (m.incarnation ≡ (w.mailbox q).incarnation) × (m.peer ≡ (w.mailbox q).peer) × (m.next ≡ (w.mailbox q).next)
    × ((es : List Envelope) → AreLatest (w.mailbox q).envelopes es → AreLatest m.envelopes es)
IsKept w n x = Unit {0}

abbrev pub AreKept : World → List Update → Type 0
AreKept w [] = Unit {0}
AreKept w (x ∷ xs) = IsKept w x.name x.thing × AreKept w xs

-- a function from queue pairs with another value at one of them, seen by a view
viewed : {A B : Type 0} (view : A → B) (f g : QueueId → A) (q : QueueId) (x : A) → view x ≡ view (f q) → ((n : QueueId) → view (g n) ≡ view (f n)) → (n : QueueId) (b : Bool) → queue_eq q n ≡ b
    → view (if b then x else g n) ≡ view (f n)
viewed view f g q x one other n true e = one ∙ ap (λ m. view (f m)) (queue-path q n e)
viewed view f g q x one other n false e = other n

kept-put : (w v : World) (n : Name) (x : Thing n) → IsKept w n x → KeepsPaths w v → KeepsPaths w (put v n x)
kept-put w v (Queue_of q) x kept keeps = record {
  incarnations = λ n. viewed incarnation_of w.queue v.queue q x kept.0 keeps.incarnations n (queue_eq q n) refl;
  peers = λ n. viewed peer_in w.queue v.queue q x kept.1 keeps.peers n (queue_eq q n) refl;
  owners = keeps.owners;
  accepted = keeps.accepted;
  counts = keeps.counts;
  mail = keeps.mail;
}
kept-put w v (Mailbox_of q) x kept keeps = record {
  incarnations = keeps.incarnations;
  peers = keeps.peers;
  owners = λ n. viewed (λ (m : Mailbox). m.incarnation) w.mailbox v.mailbox q x kept.0 keeps.owners n (queue_eq q n) refl;
  accepted = λ n. viewed (λ (m : Mailbox). m.peer) w.mailbox v.mailbox q x kept.1 keeps.accepted n (queue_eq q n) refl;
  counts = λ n. viewed (λ (m : Mailbox). m.next) w.mailbox v.mailbox q x kept.2 keeps.counts n (queue_eq q n) refl;
  mail = λ n es. at n es (queue_eq q n) refl;
}
  where
    at : (n : QueueId) (es : List Envelope) (b : Bool) → queue_eq q n ≡ b → AreLatest (w.mailbox n).envelopes es → AreLatest (if b then x else v.mailbox n).envelopes es
    at n es true e latest = kept.3 es (subst (λ k. AreLatest (w.mailbox k).envelopes es) (sym (queue-path q n e)) latest)
    at n es false e latest = keeps.mail n es latest
kept-put w v (Domain_of d) x kept keeps = record { incarnations = keeps.incarnations; peers = keeps.peers; owners = keeps.owners; accepted = keeps.accepted; counts = keeps.counts; mail = keeps.mail }
kept-put w v (Region_of s) x kept keeps = record { incarnations = keeps.incarnations; peers = keeps.peers; owners = keeps.owners; accepted = keeps.accepted; counts = keeps.counts; mail = keeps.mail }
kept-put w v (Window_of s) x kept keeps = record { incarnations = keeps.incarnations; peers = keeps.peers; owners = keeps.owners; accepted = keeps.accepted; counts = keeps.counts; mail = keeps.mail }
kept-put w v (Cq_of s) x kept keeps = record { incarnations = keeps.incarnations; peers = keeps.peers; owners = keeps.owners; accepted = keeps.accepted; counts = keeps.counts; mail = keeps.mail }
kept-put w v (Srq_of s) x kept keeps = record { incarnations = keeps.incarnations; peers = keeps.peers; owners = keeps.owners; accepted = keeps.accepted; counts = keeps.counts; mail = keeps.mail }
kept-put w v (Byte_at p) x kept keeps = record { incarnations = keeps.incarnations; peers = keeps.peers; owners = keeps.owners; accepted = keeps.accepted; counts = keeps.counts; mail = keeps.mail }

pub kept-puts : (w v : World) (us : List Update) → AreKept w us → KeepsPaths w v → KeepsPaths w (put_all us v)
kept-puts w v [] kept keeps = keeps
kept-puts w v (u ∷ us) kept keeps = kept-puts w (put v u.name u.thing) us kept.1 (kept-put w v u.name u.thing kept.0 keeps)

pub kept-writes : (w : World) (ws : List Write) (v : World) → KeepsPaths w v → KeepsPaths w (write_all ws v)
kept-writes w [] v keeps = keeps
kept-writes w (x ∷ xs) v keeps = kept-writes w xs (record v { byte = memory_after v.byte x.runs x.bytes }) (record { incarnations = keeps.incarnations; peers = keeps.peers; owners = keeps.owners; accepted = keeps.accepted; counts = keeps.counts; mail = keeps.mail })

pub kept-append : (w : World) (us vs : List Update) → AreKept w us → AreKept w vs → AreKept w (us ++ vs)
kept-append w [] vs one other = other
kept-append w (u ∷ us) vs one other = (one.0, kept-append w us vs one.1 other)

pub puts-append : (us vs : List Update) (w : World) → put_all (us ++ vs) w ≡ put_all vs (put_all us w)
puts-append [] vs w = refl
puts-append (u ∷ us) vs w = puts-append us vs (put w u.name u.thing)

aside-one : (w : World) (n : Name) (x : Thing n) → IsAsideName n → IsKept w n x
aside-one w (Region_of s) x aside = record {}
aside-one w (Window_of s) x aside = record {}
aside-one w (Domain_of d) x aside = record {}
aside-one w (Cq_of s) x aside = record {}
aside-one w (Srq_of s) x aside = record {}
aside-one w (Byte_at p) x aside = record {}
aside-one w (Queue_of q) x aside = absurd aside
aside-one w (Mailbox_of q) x aside = absurd aside

pub kept-aside : (w : World) (us : List Update) → AreAside us → AreKept w us
kept-aside w [] aside = record {}
kept-aside w (u ∷ us) aside = (aside-one w u.name u.thing aside.0, kept-aside w us aside.1)

srq-kept : (w : World) (q : QueuePair) (a : Around) (b : Bool) → AreKept w (if b then srq_updates q a after_receive_take else [])
srq-kept w q a false = record {}
srq-kept w q a true = by q.srq a.shared
  where
    updates : Option ℕ → Option SrqSlot → List Update
    updates (Some srq) (Some slot) = (Srq_of (srq_of q srq) := record slot { srq = option_map after_receive_take slot.srq }) ∷ []
    updates srq slot = []

    by : (o : Option ℕ) (t : Option SrqSlot) → AreKept w (updates o t)
    by None t = record {}
    by (Some srq) None = record {}
    by (Some srq) (Some slot) = (record {}, record {})

-- what a turn's effects change
pub turn-kept : (w : World) (q : QueuePair) (a : Around) (e : Effects) → w.queue q.queue ≡ Present q → IsInner q e → AreKept w (updates_of q a e)
turn-kept w q a e is inner = (
  (inner.incarnation ∙ sym (ap incarnation_of is), inner.peer ∙ sym (ap peer_in is)),
  (record {}, (record {}, srq-kept w q a e.takes_shared)),
)

-- the agreement over a past and a world that say the same
pub agree-kept : (p r : Past) (w v : World) → SamePaths p r → KeepsPaths w v → PathsAgree p w → PathsAgree r v
agree-kept p r w v same keeps agree = record {
  incarnations = λ n. keeps.incarnations n ∙ agree.incarnations n ∙ ap (λ f. f n) (sym same.incarnation);
  peers = λ n. keeps.peers n ∙ agree.peers n ∙ ap (λ f. peer_named (f n)) (sym same.naming);
  owners = λ n. keeps.owners n ∙ agree.owners n ∙ ap (λ f. f n) (sym same.incarnation);
  accepted = λ n. keeps.accepted n ∙ agree.accepted n ∙ ap (λ f. peer_named (f n)) (sym same.naming);
  counts = λ n. keeps.counts n ∙ agree.counts n ∙ ap (λ f. length (f n)) (sym same.envelopes);
  numbered = λ n. subst (λ f. AreNumbered (f n)) (sym same.envelopes) (agree.numbered n);
  latest = λ n. keeps.mail n (r.envelopes n) (subst (λ f. AreLatest (w.mailbox n).envelopes (f n)) (sym same.envelopes) (agree.latest n));
}

pub begin-same : (p : Past) (event : Event) → SamePaths p (at_begin event p)
begin-same p event = record { incarnation = refl; naming = refl; envelopes = refl }
