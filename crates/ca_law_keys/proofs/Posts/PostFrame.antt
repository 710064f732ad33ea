-- What the agreement on posted requests reads and hears, and what leaves it. For proofs only.
use Rattle.std.proofs.Common.{◌≡◌, ℕ, Bool, true, false, if◌then◌else◌, List, [], ◌∷◌, ◌++◌, None, refl, sym, ap, subst, ◌∙◌, is_some, suc, true≢false}
use Rattle.ca_law_keys.specs.InForce.{slot_at}
use Rattle.ca_law_keys.specs.Posts.{AgreeInSlot, AgreeOnPosts, AgreeOnSends, PostsAgree}
use Rattle.ca_base.specs.declared.correspondent.Correspondent.{Correspondent}
use Rattle.ca_base.specs.objects.QueuePair.{QueuePair, Present}
use Rattle.ca_law_endings.proofs.Footprint.{AreOutside, AreUnheard, Frame, Kind, MarkKind, kept-marks, kind_of, kind_of_mark}
use Rattle.ca_keys.specs.Equal.{queue_eq, slot_eq}
use Rattle.ca_keys.specs.Memory.{memory_after}
use Rattle.ca_keys.specs.declared.names.QueueId.{QueueId}
use Rattle.ca_keys.specs.declared.names.Slot.{Slot}
use Rattle.ca_law_world.proofs.Sound.SettledLemmas.{queue-path, slot-path}
use Rattle.ca_model.specs.Past.{KeySlot, Past, Posted, after_mark, after_marks, at_begin, at_end, correspondent_eq, operation_performed, performed_at_end, present_incarnation, with_at}
use Rattle.ca_model.specs.declared.event.Event.{Event}
use Rattle.ca_model.specs.declared.event.Event.TheVariants as events
use Rattle.ca_model.specs.declared.mark.Mark.{Mark}
use Rattle.ca_model.specs.declared.mark.Mark.TheVariants as marks
use Rattle.ca_model.specs.machine.Plan.{Update, Write, put_all, write_all}
use Rattle.ca_model.specs.machine.World.{World, Name, Window_of, Queue_of, Thing, put}

abbrev pub reads : Kind → Bool
reads Kind.OfQueue = true
reads Kind.OfWindow = true
reads k = false

abbrev pub hears : MarkKind → Bool
hears MarkKind.Answered = true
hears k = false

-- ---- the past

-- two pasts that say the same of posted requests, and are of one event
pub record SamePosts (p r : Past) : Type 0 where
  pub incarnation : r.incarnation ≡ p.incarnation
  pub posted : r.posted ≡ p.posted
  pub performed : r.performed ≡ p.performed
  pub drawn : r.drawn ≡ p.drawn
  pub event : r.at_hand.event ≡ p.at_hand.event

pub same-posts : (p : Past) → SamePosts p p
same-posts p = record { incarnation = refl; posted = refl; performed = refl; drawn = refl; event = refl }

one-same : (m : Mark) → hears (kind_of_mark m) ≡ false → (p r : Past) → SamePosts p r → SamePosts p (after_mark m r)
one-same (marks.Verb by verb answer) un p r same = absurd (true≢false un)
one-same (marks.Lost target None) un p r same = record { incarnation = same.incarnation; posted = same.posted; performed = same.performed; drawn = same.drawn; event = same.event }
one-same m un p r same = record { incarnation = same.incarnation; posted = same.posted; performed = same.performed; drawn = same.drawn; event = same.event }

more-same : (ms : List Mark) → AreUnheard hears ms → (p r : Past) → SamePosts p r → SamePosts p (after_marks ms r)
more-same [] none p r same = same
more-same (m ∷ ms) none p r same = more-same ms none.1 p (after_mark m r) (one-same m none.0 p r same)

pub unheard-same : (ms : List Mark) → AreUnheard hears ms → (p : Past) → SamePosts p (after_marks ms p)
unheard-same ms none p = more-same ms none p p (same-posts p)

-- an event that is no turn of a requester
abbrev pub IsNoRequest : Event → Type 0
IsNoRequest (events.Request queue lot) = ⊥
IsNoRequest event = Unit {0}

-- as such an event ends, as many local operations were performed as before
quiet-end : (r : Past) (event : Event) → IsNoRequest event → r.at_hand.event ≡ event → performed_at_end r ≡ r.performed
quiet-end r event none is = ap (at r) is ∙ by event none
  where
    at : Past → Event → Correspondent → ℕ
    at past (events.Request queue lot) =
        if is_some (operation_performed past)
        then with_at correspondent_eq past.performed (present_incarnation past queue)
        (suc (past.performed (present_incarnation past queue)))
        else past.performed
    at past event = past.performed

    by : (event : Event) → IsNoRequest event → at r event ≡ r.performed
    by (events.Request queue lot) none = absurd none
    by event none = refl

-- ---- the world

-- a world whose queue pairs have what was posted to those of another, with the bytes that its windows drew
pub record KeepsPosts (w v : World) : Type 0 where
  pub sends : (n : QueueId) (ps : List Posted) (k : ℕ) → AgreeInSlot ps k (w.queue n) → AgreeInSlot ps k (v.queue n)
  pub drawn : (s : Slot) → (v.window s).drawn ≡ (w.window s).drawn

pub same-world : (w : World) → KeepsPosts w w
same-world w = record { sends = λ n ps k agree. agree; drawn = λ s. refl }

-- a change that leaves them
abbrev pub IsKept : World → (n : Name) → Thing n → Type 0
IsKept w (Queue_of q) s = (ps : List Posted) (k : ℕ) → AgreeInSlot ps k (w.queue q) → AgreeInSlot ps k s
IsKept w (Window_of s) x = x.drawn ≡ (w.window s).drawn
IsKept w n x = Unit {0}

abbrev pub AreKept : World → List Update → Type 0
AreKept w [] = Unit {0}
AreKept w (x ∷ xs) = IsKept w x.name x.thing × AreKept w xs

kept-put : (w v : World) (n : Name) (x : Thing n) → IsKept w n x → KeepsPosts w v → KeepsPosts w (put v n x)
kept-put w v (Queue_of q) x kept keeps = record { sends = λ n ps k. at n ps k (queue_eq q n) refl; drawn = keeps.drawn }
  where
    at : (n : QueueId) (ps : List Posted) (k : ℕ) (b : Bool) → queue_eq q n ≡ b → AgreeInSlot ps k (w.queue n) → AgreeInSlot ps k (if b then x else v.queue n)
    at n ps k true e agree = kept ps k (subst (λ m. AgreeInSlot ps k (w.queue m)) (sym (queue-path q n e)) agree)
    at n ps k false e agree = keeps.sends n ps k agree
kept-put w v (Window_of s) x kept keeps = record { sends = keeps.sends; drawn = λ t. at t (slot_eq s t) refl }
  where
    at : (t : Slot) (b : Bool) → slot_eq s t ≡ b → (if b then x else v.window t).drawn ≡ (w.window t).drawn
    at t true e = kept ∙ ap (λ u. (w.window u).drawn) (slot-path s t e)
    at t false e = keeps.drawn t
kept-put w v n x kept keeps = record { sends = keeps.sends; drawn = keeps.drawn }

pub kept-puts : (w v : World) (us : List Update) → AreKept w us → KeepsPosts w v → KeepsPosts w (put_all us v)
kept-puts w v [] kept keeps = keeps
kept-puts w v (u ∷ us) kept keeps = kept-puts w (put v u.name u.thing) us kept.1 (kept-put w v u.name u.thing kept.0 keeps)

kept-writes : (w : World) (ws : List Write) (v : World) → KeepsPosts w v → KeepsPosts w (write_all ws v)
kept-writes w [] v keeps = keeps
kept-writes w (x ∷ xs) v keeps = kept-writes w xs (record v { byte = memory_after v.byte x.runs x.bytes }) (record { sends = keeps.sends; drawn = keeps.drawn })

-- where such changes are put, and such writes
pub kept-world : (w : World) (us : List Update) (ws : List Write) → AreKept w us → KeepsPosts w (write_all ws (put_all us w))
kept-world w us ws kept = kept-writes w ws (put_all us w) (kept-puts w w us kept (same-world w))

pub kept-append : (w : World) (us vs : List Update) → AreKept w us → AreKept w vs → AreKept w (us ++ vs)
kept-append w [] vs one other = other
kept-append w (u ∷ us) vs one other = (one.0, kept-append w us vs one.1 other)

-- changes of no queue pair and of no window
pub outside-kept : (w : World) (us : List Update) → AreOutside reads us → AreKept w us
outside-kept w [] out = record {}
outside-kept w (u ∷ us) out = (by u.name u.thing out.0, outside-kept w us out.1)
  where
    by : (n : Name) (x : Thing n) → reads (kind_of n) ≡ false → IsKept w n x
    by (Queue_of q) x is = absurd (true≢false is)
    by (Window_of s) x is = absurd (true≢false is)
    by n x is = record {}

-- a queue pair in place of another
pub slot-kept : (w : World) (q p : QueuePair) → w.queue q.queue ≡ Present q → ((ps : List Posted) (k : ℕ) → AgreeOnSends ps k q → AgreeOnSends ps k p) → IsKept w (Queue_of q.queue) (Present p)
slot-kept w q p is goes = λ ps k agree. goes ps k (subst (AgreeInSlot ps k) is agree)

-- ---- both

pub agree-world : (i : QueueId → ℕ) (posted : Correspondent → List Posted) (performed : Correspondent → ℕ) (drawn : KeySlot → ℕ) (w v : World) → KeepsPosts w v
    → AgreeOnPosts i posted performed drawn w.queue w.window → AgreeOnPosts i posted performed drawn v.queue v.window
agree-world i posted performed drawn w v keeps agree = record {
  sends = λ q. keeps.sends q _ _ (agree.sends q);
  later = agree.later;
  drawn = λ k is. agree.drawn k is ∙ sym (keeps.drawn (slot_at k));
}

pub agree-fields : (p r : Past) (performed : Correspondent → ℕ) (w : World) → SamePosts p r → performed ≡ p.performed → PostsAgree p w → AgreeOnPosts r.incarnation r.posted performed r.drawn w.queue w.window
agree-fields p r performed w same is agree =
    subst (λ f. AgreeOnPosts f r.posted performed r.drawn w.queue w.window) (sym same.incarnation)
    (subst (λ f. AgreeOnPosts p.incarnation f performed r.drawn w.queue w.window) (sym same.posted)
    (subst (λ f. AgreeOnPosts p.incarnation p.posted f r.drawn w.queue w.window) (sym is)
    (subst (λ f. AgreeOnPosts p.incarnation p.posted p.performed f w.queue w.window) (sym same.drawn) agree)))

-- what an event that ends so leaves of the agreement
abbrev pub Agrees : Past → Event → World → List Mark → Type 0
Agrees past event v ms = PostsAgree (at_end (after_marks ms (at_begin event past))) v

-- what an event that is no turn of a requester has left so far
abbrev pub Left : Past → World → Type 0
Left p w = IsNoRequest p.at_hand.event × PostsAgree p w

pub left-end : (p : Past) (w : World) → Left p w → PostsAgree (at_end p) w
left-end p w left = agree-fields p p (performed_at_end p) w (same-posts p) (quiet-end p p.at_hand.event left.0 refl) left.1

pub left-frame : Frame Left reads hears
left-frame = record { put = puts; write = λ p w byte miss r. r; mark = heard }
  where
    puts : (p : Past) (w : World) (n : Name) (x : Thing n) → reads (kind_of n) ≡ false → Left p w → Left p (put w n x)
    puts p w (Queue_of q) x miss r = absurd (true≢false miss)
    puts p w (Window_of s) x miss r = absurd (true≢false miss)
    puts p w n x miss r = r

    heard : (p : Past) (w : World) (m : Mark) → hears (kind_of_mark m) ≡ false → Left p w → Left (after_mark m p) w
    heard p w m un r = (subst IsNoRequest (sym same.event) r.0, agree-fields p (after_mark m p) (after_mark m p).performed w same same.performed r.1)
      where
        same : SamePosts p (after_mark m p)
        same = one-same m un p p (same-posts p)

-- such an event ends with marks that answer no verb
pub told-end : (p : Past) (w : World) (ms : List Mark) → AreUnheard hears ms → Left p w → PostsAgree (at_end (after_marks ms p)) w
told-end p w ms un left = left-end (after_marks ms p) w (kept-marks Left reads hears left-frame p w ms un left)

-- and with changes that leave the agreement
pub kept : (w : World) (p : Past) (us : List Update) (ws : List Write) (ms : List Mark) → Left p w → AreKept w us → AreUnheard hears ms → PostsAgree (at_end (after_marks ms p)) (write_all ws (put_all us w))
kept w p us ws ms left keep un = told-end p (write_all ws (put_all us w)) ms un (left.0, agree-world p.incarnation p.posted p.performed p.drawn w (write_all ws (put_all us w)) (kept-world w us ws keep) left.1)
