-- What the marks of an event make of the envelopes that were sent, and of lives and peers. For proofs only.
use Rattle.std.proofs.Common.{◌≡◌, ℕ, zero, suc, ◌+◌, ◌<◌, ◌==◌, arith, Bool, true, false, if◌then◌else◌, length, List, [], ◌∷◌, Option, None, Some, is_some, slice_get, refl, ap, ap₂, sym, subst, ◌∙◌, true≢false}
use Rattle.std.proofs.lemmas.Bool.{and_parts}
use Rattle.std.proofs.lemmas.Option.{same_Some}
use Rattle.std.specs.Option.{option_eq}
use Rattle.ca_law_endings.specs.Indices.{has_its_index}
use Rattle.ca_base.specs.declared.correspondent.Correspondent.{Correspondent}
use Rattle.ca_connection.specs.Link.{RequestPacket}
use Rattle.ca_keys.specs.Equal.{queue_eq}
use Rattle.ca_keys.specs.declared.names.QueueId.{QueueId}
use Rattle.ca_law_world.proofs.Sound.SettledLemmas.{queue-path}
use Rattle.ca_model.specs.Carried.{has_path}
use Rattle.ca_model.specs.History.{ArePlain, IsPlain}
use Rattle.ca_model.specs.Past.{Envelope, Naming, Past, after_mark, after_marks, each_mark, present_incarnation, with_lost}
use Rattle.ca_model.specs.declared.mark.Mark.{Mark}
use Rattle.ca_model.specs.declared.mark.Mark.TheVariants as marks
use Rattle.ca_law_once.specs.OnceTold.{AreSentBy, IsSentBy}
use Rattle.ca_law_once.specs.Ties.{sent_to}

-- ---- one mark

-- What a mark makes of the envelopes of a queue pair: nothing, a loss, or one envelope more, of the packet that it tells of.
pub data OneMail (n : QueueId) (p : Past) (m : Mark) (after : List Envelope) : Type 0 where
  kept : after ≡ p.envelopes n → ((ms : List Mark) → sent_to n (m ∷ ms) ≡ sent_to n ms) → OneMail n p m after
  lost : (index : ℕ) → after ≡ with_lost index (p.envelopes n) → ((ms : List Mark) → sent_to n (m ∷ ms) ≡ sent_to n ms) → OneMail n p m after
  more : (source : QueueId) (request : Option ℕ) (e : Envelope) → after ≡ e ∷ p.envelopes n → ((ms : List Mark) → sent_to n (m ∷ ms) ≡ (source, request) ∷ sent_to n ms)
      → e.source ≡ present_incarnation p source → e.request ≡ request → (has_its_index p m ≡ true → has_path p source n ≡ true) → OneMail n p m after

pub one-mail : (n : QueueId) (p : Past) (m : Mark) → IsPlain m → OneMail n p m ((after_mark m p).envelopes n)
one-mail n p (marks.Verb by verb answer) plain = absurd plain
one-mail n p (marks.Granted g) plain = kept refl (λ ms. refl)
one-mail n p (marks.Revoked adapter key) plain = kept refl (λ ms. refl)
one-mail n p (marks.Remote queue domain envelope key kind address count verdict) plain = kept refl (λ ms. refl)
one-mail n p (marks.Local queue domain key kind address count verdict) plain = kept refl (λ ms. refl)
one-mail n p (marks.Stored place bytes) plain = kept refl (λ ms. refl)
one-mail n p (marks.Sent source target None request bytes) plain = kept refl (λ ms. refl)
one-mail n p (marks.Sent source target (Some index) request bytes) plain = by (queue_eq target n) refl
  where
    e : Envelope
    e = record { index = index; source = present_incarnation p source; request = request; bytes = bytes; lost = false; cut = false }

    next : (b : Bool) → has_path p source target ≡ b → option_eq (λ x y. x == y) (Some index) (if b then Some (length (p.envelopes target)) else None) ≡ true → b ≡ true
    next true is same = refl
    next false is same = absurd (true≢false (sym same))

    path : queue_eq target n ≡ true → has_its_index p (marks.Sent source target (Some index) request bytes) ≡ true → has_path p source n ≡ true
    path is indexed = ap (has_path p source) (sym (queue-path target n is)) ∙ next (has_path p source target) refl indexed

    by : (b : Bool) → queue_eq target n ≡ b → OneMail n p (marks.Sent source target (Some index) request bytes) (if queue_eq target n then e ∷ p.envelopes target else p.envelopes n)
    by true is = more source request e (ap (λ b. if b then e ∷ p.envelopes target else p.envelopes n) is ∙ ap (λ t. e ∷ p.envelopes t) (queue-path target n is))
        (λ ms. ap (λ b. told b ms) is) refl refl (path is)
      where
        told : Bool → List Mark → List (QueueId × Option ℕ)
        told b ms = if b then (source, request) ∷ sent_to n ms else sent_to n ms
    by false is = kept (ap (λ b. if b then e ∷ p.envelopes target else p.envelopes n) is) (λ ms. ap (λ b. told b ms) is)
      where
        told : Bool → List Mark → List (QueueId × Option ℕ)
        told b ms = if b then (source, request) ∷ sent_to n ms else sent_to n ms
one-mail n p (marks.Lost target None) plain = kept refl (λ ms. refl)
one-mail n p (marks.Lost target (Some index)) plain = by (queue_eq target n) refl
  where
    by : (b : Bool) → queue_eq target n ≡ b → OneMail n p (marks.Lost target (Some index)) (if queue_eq target n then with_lost index (p.envelopes target) else p.envelopes n)
    by true is = lost index (ap (λ b. if b then with_lost index (p.envelopes target) else p.envelopes n) is ∙ ap (λ t. with_lost index (p.envelopes t)) (queue-path target n is)) (λ ms. refl)
    by false is = kept (ap (λ b. if b then with_lost index (p.envelopes target) else p.envelopes n) is) (λ ms. refl)
one-mail n p (marks.Arrived target index) plain = kept refl (λ ms. refl)
one-mail n p (marks.Dropped target cause) plain = kept refl (λ ms. refl)
one-mail n p (marks.Timer queue silent) plain = kept refl (λ ms. refl)
one-mail n p (marks.Done queue x cause) plain = kept refl (λ ms. refl)

-- two pasts with the same lives and peers
pub record SameLives (p r : Past) : Type 0 where
  pub incarnation : r.incarnation ≡ p.incarnation
  pub naming : r.naming ≡ p.naming

pub one-life : (p : Past) (m : Mark) → IsPlain m → SameLives p (after_mark m p)
one-life p (marks.Verb by verb answer) plain = absurd plain
one-life p (marks.Granted g) plain = record { incarnation = refl; naming = refl }
one-life p (marks.Revoked adapter key) plain = record { incarnation = refl; naming = refl }
one-life p (marks.Remote queue domain envelope key kind address count verdict) plain = record { incarnation = refl; naming = refl }
one-life p (marks.Local queue domain key kind address count verdict) plain = record { incarnation = refl; naming = refl }
one-life p (marks.Stored place bytes) plain = record { incarnation = refl; naming = refl }
one-life p (marks.Sent source target index request bytes) plain = record { incarnation = refl; naming = refl }
one-life p (marks.Lost target None) plain = record { incarnation = refl; naming = refl }
one-life p (marks.Lost target (Some index)) plain = record { incarnation = refl; naming = refl }
one-life p (marks.Arrived target index) plain = record { incarnation = refl; naming = refl }
one-life p (marks.Dropped target cause) plain = record { incarnation = refl; naming = refl }
one-life p (marks.Timer queue silent) plain = record { incarnation = refl; naming = refl }
one-life p (marks.Done queue x cause) plain = record { incarnation = refl; naming = refl }

pub plain-lives : (ms : List Mark) (p : Past) → ArePlain ms → SameLives p (after_marks ms p)
plain-lives [] p plain = record { incarnation = refl; naming = refl }
plain-lives (m ∷ ms) p plain = let one = one-life p m plain.0 in let rest = plain-lives ms (after_mark m p) plain.1 in
    record { incarnation = rest.incarnation ∙ one.incarnation; naming = rest.naming ∙ one.naming }

-- ---- the envelopes of entries

lost-sources : (s : Correspondent) (index : ℕ) (xs : List (Option RequestPacket)) (es : List Envelope) → AreSentBy s xs es → AreSentBy s xs (with_lost index es)
lost-sources s index [] es sent = record {}
lost-sources s index (x ∷ xs) [] sent = absurd sent
lost-sources s index (x ∷ xs) (e ∷ es) sent = (by x (e.index == index) sent.0, lost-sources s index xs es sent.1)
  where
    by : (x : Option RequestPacket) (b : Bool) → IsSentBy s x e → IsSentBy s x (if b then record e { lost = true } else e)
    by None true one = one
    by None false one = one
    by (Some p) true one = one
    by (Some p) false one = one

is-more : List (QueueId × Option ℕ) → Bool
is-more [] = false
is-more (x ∷ xs) = true

nothing-sent : (source : QueueId) (request : Option ℕ) (xs : List (QueueId × Option ℕ)) → (source, request) ∷ xs ≡ [] → ⊥
unfolding is-more
nothing-sent source request xs is = true≢false (ap is-more is)

-- marks that send nothing to a queue pair
pub unsent-sources : (s : Correspondent) (n : QueueId) (xs : List (Option RequestPacket)) (ms : List Mark) (p : Past) → ArePlain ms → sent_to n ms ≡ [] → AreSentBy s xs (p.envelopes n)
    → AreSentBy s xs ((after_marks ms p).envelopes n)
unsent-sources s n xs [] p plain none sent = sent
unsent-sources s n xs (m ∷ ms) p plain none sent = by (one-mail n p m plain.0) (λ rest before. unsent-sources s n xs ms (after_mark m p) plain.1 rest before)
  where
    by : OneMail n p m ((after_mark m p).envelopes n) → (sent_to n ms ≡ [] → AreSentBy s xs ((after_mark m p).envelopes n) → AreSentBy s xs ((after_marks ms (after_mark m p)).envelopes n))
        → AreSentBy s xs ((after_marks ms (after_mark m p)).envelopes n)
    by (kept is told) go = go (sym (told ms) ∙ none) (subst (AreSentBy s xs) (sym is) sent)
    by (lost index is told) go = go (sym (told ms) ∙ none) (subst (AreSentBy s xs) (sym is) (lost-sources s index xs (p.envelopes n) sent))
    by (more source request e is told own of path) go = absurd (nothing-sent source request (sent_to n ms) (sym (told ms) ∙ none))

-- what an entry asks of the packet that is sent for it
abbrev pub IsEntryFor : Correspondent → Past → Option RequestPacket → QueueId → Option ℕ → Type 0
IsEntryFor s p None source request = request ≡ None
IsEntryFor s p (Some x) source request = (present_incarnation p source ≡ s) × (request ≡ Some x.place)

entry-after : (s : Correspondent) (p r : Past) (x : Option RequestPacket) (source : QueueId) (request : Option ℕ) → SameLives p r → IsEntryFor s p x source request → IsEntryFor s r x source request
entry-after s p r None source request same entry = entry
entry-after s p r (Some x) source request same entry = (ap (λ (f : QueueId → ℕ). record { queue = source; incarnation = f source }) same.incarnation ∙ entry.0, entry.1)

entry-of : (s : Correspondent) (p : Past) (x : Option RequestPacket) (source : QueueId) (request : Option ℕ) (e : Envelope) → IsEntryFor s p x source request → e.source ≡ present_incarnation p source → e.request ≡ request → IsSentBy s x e
entry-of s p None source request e entry own of = of ∙ entry
entry-of s p (Some x) source request e entry own of = (own ∙ entry.0, of ∙ entry.1)

first-source : QueueId → List (QueueId × Option ℕ) → QueueId
first-source d [] = d
first-source d (x ∷ xs) = x.0

first-request : Option ℕ → List (QueueId × Option ℕ) → Option ℕ
first-request d [] = d
first-request d (x ∷ xs) = x.1

others-sent : List (QueueId × Option ℕ) → List (QueueId × Option ℕ)
others-sent [] = []
others-sent (x ∷ xs) = xs

one-sent : (a b : QueueId) (f g : Option ℕ) (xs : List (QueueId × Option ℕ)) → (a, f) ∷ xs ≡ (b, g) ∷ [] → (a ≡ b) × (f ≡ g) × (xs ≡ [])
unfolding first-source first-request others-sent
one-sent a b f g xs is = (ap (first-source a) is, ap (first-request f) is, ap others-sent is)

-- marks that send one packet to a queue pair
pub sent-sources : (s : Correspondent) (n : QueueId) (x : Option RequestPacket) (xs : List (Option RequestPacket)) (source : QueueId) (request : Option ℕ) (ms : List Mark) (p : Past) → ArePlain ms
    → sent_to n ms ≡ (source, request) ∷ [] → IsEntryFor s p x source request → AreSentBy s xs (p.envelopes n) → AreSentBy s (x ∷ xs) ((after_marks ms p).envelopes n)
sent-sources s n x xs source request [] p plain one entry sent = absurd (nothing-sent source request [] (sym one))
sent-sources s n x xs source request (m ∷ ms) p plain one entry sent =
    by (one-mail n p m plain.0) (λ rest before. sent-sources s n x xs source request ms (after_mark m p) plain.1 rest (entry-after s p (after_mark m p) x source request (one-life p m plain.0) entry) before)
  where
    by : OneMail n p m ((after_mark m p).envelopes n)
        → (sent_to n ms ≡ (source, request) ∷ [] → AreSentBy s xs ((after_mark m p).envelopes n) → AreSentBy s (x ∷ xs) ((after_marks ms (after_mark m p)).envelopes n))
        → AreSentBy s (x ∷ xs) ((after_marks ms (after_mark m p)).envelopes n)
    by (kept is told) go = go (sym (told ms) ∙ one) (subst (AreSentBy s xs) (sym is) sent)
    by (lost index is told) go = go (sym (told ms) ∙ one) (subst (AreSentBy s xs) (sym is) (lost-sources s index xs (p.envelopes n) sent))
    by (more a f e is told own of path) go = let same = one-sent a source f request (sent_to n ms) (sym (told ms) ∙ one) in
        unsent-sources s n (x ∷ xs) ms (after_mark m p) plain.1 same.2
        (subst (AreSentBy s (x ∷ xs)) (sym is) (entry-of s p x source request e entry (own ∙ ap (present_incarnation p) same.0) (of ∙ same.1), sent))

-- ---- where an envelope comes from

-- An envelope that can still be delivered was there before, or was sent now, where a path led there.
pub data Origin (p : Past) (n : QueueId) (count k : ℕ) (e : Envelope) : Type 0 where
  old : (j : ℕ) (o : Envelope) → slice_get (p.envelopes n) j ≡ Some o → o.cut ≡ e.cut → o.source ≡ e.source → k ≡ count + j → Origin p n count k e
  new : k < count → present_incarnation p e.source.queue ≡ e.source → has_path p e.source.queue n ≡ true → Origin p n count k e

-- the envelope at a place, before it was lost
record Unlost (es : List Envelope) (j : ℕ) (e : Envelope) : Type 0 where
  was : Envelope
  at : slice_get es j ≡ Some was
  cut : was.cut ≡ e.cut
  source : was.source ≡ e.source

unlost : (index : ℕ) (es : List Envelope) (j : ℕ) (e : Envelope) → slice_get (with_lost index es) j ≡ Some e → Unlost es j e
unlost index [] j e at = absurd (true≢false (sym (ap is_some at)))
unlost index (x ∷ es) zero e at = by (x.index == index) (same_Some _ e at)
  where
    by : (b : Bool) → (if b then record x { lost = true } else x) ≡ e → Unlost (x ∷ es) zero e
    by true is = record { was = x; at = refl; cut = ap (λ (y : Envelope). y.cut) is; source = ap (λ (y : Envelope). y.source) is }
    by false is = record { was = x; at = refl; cut = ap (λ (y : Envelope). y.cut) is; source = ap (λ (y : Envelope). y.source) is }
unlost index (x ∷ es) (suc j) e at = let rest = unlost index es j e at in record { was = rest.was; at = rest.at; cut = rest.cut; source = rest.source }

path-before : (p r : Past) (a n : QueueId) → SameLives p r → has_path r a n ≡ has_path p a n
path-before p r a n same = ap₂ (path a n) same.incarnation same.naming
  where
    path : QueueId → QueueId → (QueueId → ℕ) → (QueueId → Option Naming) → Bool
    path a n lives names = has_path (record p { incarnation = lives; naming = names }) a n

pub origin : (n : QueueId) (ms : List Mark) (p : Past) (k : ℕ) (e : Envelope) → ArePlain ms → each_mark has_its_index p ms ≡ true → slice_get ((after_marks ms p).envelopes n) k ≡ Some e
    → Origin p n (length (sent_to n ms)) k e
origin n [] p k e plain indexed at = old k e at refl refl (omega arith)
origin n (m ∷ ms) p k e plain indexed at = by (one-mail n p m plain.0) (origin n ms r k e plain.1 parts.1 at)
  where
    r : Past
    r = after_mark m p

    parts : (has_its_index p m ≡ true) × (each_mark has_its_index r ms ≡ true)
    parts = and_parts (has_its_index p m) (each_mark has_its_index r ms) indexed

    lives : SameLives p r
    lives = one-life p m plain.0

    own-before : (a : QueueId) → present_incarnation r a ≡ present_incarnation p a
    own-before a = ap (λ (f : QueueId → ℕ). record { queue = a; incarnation = f a }) lives.incarnation

    by : OneMail n p m (r.envelopes n) → Origin r n (length (sent_to n ms)) k e → Origin p n (length (sent_to n (m ∷ ms))) k e
    by (kept is told) (new less own path) = new (omega (arith, less, ap length (told ms))) (sym (own-before e.source.queue) ∙ own) (sym (path-before p r e.source.queue n lives) ∙ path)
    by (lost index is told) (new less own path) = new (omega (arith, less, ap length (told ms))) (sym (own-before e.source.queue) ∙ own) (sym (path-before p r e.source.queue n lives) ∙ path)
    by (more a f x is told mine of leads) (new less own path) = new (omega (arith, less, ap length (told ms))) (sym (own-before e.source.queue) ∙ own) (sym (path-before p r e.source.queue n lives) ∙ path)
    by (kept is told) (old j o there cut source place) = old j o (ap (λ es. slice_get es j) (sym is) ∙ there) cut source (omega (arith, place, ap length (told ms)))
    by (lost index is told) (old j o there cut source place) = let was = unlost index (p.envelopes n) j o (ap (λ es. slice_get es j) (sym is) ∙ there) in
        old j was.was was.at (was.cut ∙ cut) (was.source ∙ source) (omega (arith, place, ap length (told ms)))
    by (more a f x is told mine of leads) (old zero o there cut source place) = new (omega (arith, place, ap length (told ms))) whole (ap (λ y. has_path p y n) from ∙ leads parts.0)
      where
        first : x ≡ o
        first = same_Some x o (ap (λ es. slice_get es zero) (sym is) ∙ there)

        sent-by : e.source ≡ present_incarnation p a
        sent-by = sym source ∙ ap (λ (y : Envelope). y.source) (sym first) ∙ mine

        from : e.source.queue ≡ a
        from = ap (λ (y : Correspondent). y.queue) sent-by

        whole : present_incarnation p e.source.queue ≡ e.source
        whole = ap (present_incarnation p) from ∙ sym sent-by
    by (more a f x is told mine of leads) (old (suc j) o there cut source place) = old j o (ap (λ es. slice_get es (suc j)) (sym is) ∙ there) cut source (omega (arith, place, ap length (told ms)))

-- how many there are
lost-length : (index : ℕ) (es : List Envelope) → length (with_lost index es) ≡ length es
lost-length index [] = refl
lost-length index (e ∷ es) = ap suc (lost-length index es)

pub sent-length : (n : QueueId) (ms : List Mark) (p : Past) → ArePlain ms → length ((after_marks ms p).envelopes n) ≡ length (sent_to n ms) + length (p.envelopes n)
sent-length n [] p plain = omega arith
sent-length n (m ∷ ms) p plain = by (one-mail n p m plain.0) (sent-length n ms (after_mark m p) plain.1)
  where
    by : OneMail n p m ((after_mark m p).envelopes n) → length ((after_marks ms (after_mark m p)).envelopes n) ≡ length (sent_to n ms) + length ((after_mark m p).envelopes n)
        → length ((after_marks ms (after_mark m p)).envelopes n) ≡ length (sent_to n (m ∷ ms)) + length (p.envelopes n)
    by (kept is told) rest = omega (arith, rest, ap length is, ap length (told ms))
    by (lost index is told) rest = omega (arith, rest, ap length is, lost-length index (p.envelopes n), ap length (told ms))
    by (more a f e is told own of path) rest = omega (arith, rest, ap length is, ap length (told ms))
