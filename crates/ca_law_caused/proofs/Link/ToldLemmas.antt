-- What it takes that a response is told of a request, and which events bring one. For proofs only.
use Rattle.std.proofs.Common.{◌≡◌, ℕ, ◌+◌, ◌-◌, ◌≤◌, ◌<◌, ◌&&◌, nat_le, nat_lt, Bool, true, false, if◌then◌else◌, List, [], ◌∷◌, take, sum_by, Option, None, Some, IfSome, is_some, refl, ap, sym, subst, ◌∙◌, true≢false}
use Rattle.std.proofs.lemmas.Bool.{and_parts, leb-true, ltb-true}
use Rattle.std.proofs.lemmas.Option.{same_Some}
use Rattle.std.specs.List.{AllByRecursion}
use Rattle.std.specs.Option.{option_and_then}
use Rattle.ca_law_endings.proofs.InnerLemmas.{AreOwn, IsOwnMark}
use Rattle.ca_law_keys.proofs.Posts.GrantLemmas.{both-true}
use Rattle.ca_base.specs.declared.completion.Completion.{Completion}
use Rattle.ca_base.specs.declared.refusals.OpRefusal.{OpRefusal}
use Rattle.ca_law_caused.specs.Causes.{completes_with_cause, has_own_cause}
use Rattle.ca_law_caused.proofs.Link.FaultLemmas.{Befall, mark-befall, with_arrival}
use Rattle.ca_law_caused.specs.Linked.{completes_so}
use Rattle.ca_base.specs.declared.completion.WcStatus.{WcStatus}
use Rattle.ca_keys.specs.Equal.{queue_eq}
use Rattle.ca_keys.specs.declared.names.QueueId.{QueueId}
use Rattle.ca_model.specs.Caused.{Told, told_at_hand}
use Rattle.ca_model.specs.Packets.{is_response, packet_of}
use Rattle.ca_model.specs.Past.{Arrival, Past, Posted, Start, after_mark, arrived_at_hand, each_mark, injected_bytes, mtu_of, packet_at, posted_at, present_incarnation, start_of, whole_start}
use Rattle.ca_model.specs.Progress.{Response, response_in}
use Rattle.ca_model.specs.Requests.{psns_of}
use Rattle.ca_model.specs.declared.event.Event.{Event}
use Rattle.ca_model.specs.declared.mark.Mark.{Mark}
use Rattle.ca_model.specs.declared.mark.Mark.TheVariants as marks
use Rattle.ca_law_once.proofs.Once.ActedLemmas.{AreUnmet, IsUnmetMark}
use Rattle.ca_law_once.proofs.Once.VerbLemmas.{SameHand, verb-hand}
use Rattle.ca_wire.specs.Packet.{Fields}
use Rattle.ca_psn.specs.Psn.{widened}

-- ---- what is told

-- what is told of a request by its parts
abbrev pub told_by : Option Fields → Option Start → Option Posted → ℕ → ℕ → List Posted → ℕ → Option Told
told_by o start posted una mtu ps place = by o start posted
  where
    first : Start → ℕ
    first start = whole_start start + sum_by (λ p. psns_of mtu p.request.op) (take place ps)

    psn : Fields → ℕ
    psn p = widened una p.psn

    told : Fields → Start → Posted → Option Response → Option Told
    told p start posted None = None
    told p start posted (Some response) =
        if nat_le (first start) (psn p) && nat_lt (psn p) (first start + psns_of mtu posted.request.op)
        then Some (record { packet = p; index = psn p - first start; response = response })
        else None

    by : Option Fields → Option Start → Option Posted → Option Told
    by (Some p) (Some start) (Some posted) = if is_response p.opcode then told p start posted (response_in p) else None
    by p start posted = None

-- what stands behind it
pub record IsToldSo (o : Option Fields) (s : Option Start) (r : Option Posted) (una mtu : ℕ) (ps : List Posted) (place : ℕ) (t : Told) : Type 0 where
  pub start : Start
  pub posted : Posted
  pub arrived : o ≡ Some t.packet
  pub begins : s ≡ Some start
  pub is : r ≡ Some posted
  pub response : is_response t.packet.opcode ≡ true
  pub says : response_in t.packet ≡ Some t.response
  pub low : whole_start start + sum_by (λ p. psns_of mtu p.request.op) (take place ps) ≤ widened una t.packet.psn
  pub high : widened una t.packet.psn < whole_start start + sum_by (λ p. psns_of mtu p.request.op) (take place ps) + psns_of mtu posted.request.op
  pub index : t.index ≡ widened una t.packet.psn - (whole_start start + sum_by (λ p. psns_of mtu p.request.op) (take place ps))

told-so : (o : Option Fields) (s : Option Start) (r : Option Posted) (una mtu : ℕ) (ps : List Posted) (place : ℕ) (t : Told) → told_by o s r una mtu ps place ≡ Some t → IsToldSo o s r una mtu ps place t
told-so None s r una mtu ps place t is = absurd (true≢false (sym (ap is_some is)))
told-so (Some p) None r una mtu ps place t is = absurd (true≢false (sym (ap is_some is)))
told-so (Some p) (Some start) None una mtu ps place t is = absurd (true≢false (sym (ap is_some is)))
told-so (Some p) (Some start) (Some posted) una mtu ps place t is = by (is_response p.opcode) refl (response_in p) refl (nat_le first psn && nat_lt psn (first + psns_of mtu posted.request.op)) refl is
  where
    first : ℕ
    first = whole_start start + sum_by (λ p. psns_of mtu p.request.op) (take place ps)

    psn : ℕ
    psn = widened una p.psn

    told : Bool → Option Response → Option Told
    told b None = None
    told b (Some response) = if b then Some (record { packet = p; index = psn - first; response = response }) else None

    by : (b : Bool) → is_response p.opcode ≡ b → (x : Option Response) → response_in p ≡ x → (c : Bool) → (nat_le first psn && nat_lt psn (first + psns_of mtu posted.request.op)) ≡ c
        → (if b then told c x else None) ≡ Some t → IsToldSo (Some p) (Some start) (Some posted) una mtu ps place t
    by false other x says c within is = absurd (true≢false (sym (ap is_some is)))
    by true well None says c within is = absurd (true≢false (sym (ap is_some is)))
    by true well (Some response) says false within is = absurd (true≢false (sym (ap is_some is)))
    by true well (Some response) says true within is = subst (IsToldSo (Some p) (Some start) (Some posted) una mtu ps place) (same_Some (record { packet = p; index = psn - first; response = response }) t is) (record {
      start = start;
      posted = posted;
      arrived = refl;
      begins = refl;
      is = refl;
      response = well;
      says = says;
      low = leb-true first psn (and_parts (nat_le first psn) _ within).0;
      high = ltb-true psn (first + psns_of mtu posted.request.op) (and_parts (nat_le first psn) _ within).1;
      index = refl;
    })

abbrev pub IsToldOf : Past → Completion → Told → Type 0
IsToldOf s x t = IsToldSo (arrived_at_hand s x.queue) (start_of s x.queue) (posted_at s x.queue x.place) (s.progress (present_incarnation s x.queue)).una (mtu_of s x.queue) (s.posted (present_incarnation s x.queue)) x.place t

pub told-of : (s : Past) (x : Completion) (t : Told) → told_at_hand s x ≡ Some t → IsToldOf s x t
told-of s x t is = told-so (arrived_at_hand s x.queue) (start_of s x.queue) (posted_at s x.queue x.place) (s.progress (present_incarnation s x.queue)).una (mtu_of s x.queue) (s.posted (present_incarnation s x.queue)) x.place t is

-- ---- marks behind an arrival

-- what they leave of a past
pub record Behind (p s : Past) : Type 0 where
  pub namings : s.namings ≡ p.namings
  pub starts : s.starts ≡ p.starts
  pub injected : s.injected ≡ p.injected
  pub naming : s.naming ≡ p.naming
  pub incarnation : s.incarnation ≡ p.incarnation
  pub posted : s.posted ≡ p.posted
  pub progress : s.progress ≡ p.progress
  pub envelopes : s.envelopes ≡ p.envelopes
  pub arrival : s.at_hand.arrival ≡ p.at_hand.arrival
  pub befall : Befall p s

pub behind-refl : (p : Past) → Behind p p
behind-refl p = record { namings = refl; starts = refl; injected = refl; naming = refl; incarnation = refl; posted = refl; progress = refl; envelopes = refl; arrival = refl; befall = λ l test is. is }

-- marks of rows are neither answers nor packets that are sent
behind-one : (m : Mark) (p s : Past) → IsOwnMark m → Behind p s → Behind p (after_mark m s)
behind-one (marks.Verb by verb answer) p s own b = absurd own
behind-one (marks.Sent source target index request bytes) p s own b = absurd own
behind-one (marks.Lost target index) p s own b = absurd own
behind-one (marks.Arrived target index) p s own b = absurd own
behind-one (marks.Granted g) p s own b = record { namings = b.namings; starts = b.starts; injected = b.injected; naming = b.naming; incarnation = b.incarnation; posted = b.posted; progress = b.progress; envelopes = b.envelopes; arrival = b.arrival; befall = λ l test is. mark-befall (marks.Granted g) s l test (b.befall l test is) }
behind-one (marks.Revoked adapter key) p s own b = record { namings = b.namings; starts = b.starts; injected = b.injected; naming = b.naming; incarnation = b.incarnation; posted = b.posted; progress = b.progress; envelopes = b.envelopes; arrival = b.arrival; befall = λ l test is. mark-befall (marks.Revoked adapter key) s l test (b.befall l test is) }
behind-one (marks.Remote queue domain envelope key kind address count verdict) p s own b = record { namings = b.namings; starts = b.starts; injected = b.injected; naming = b.naming; incarnation = b.incarnation; posted = b.posted; progress = b.progress; envelopes = b.envelopes; arrival = b.arrival; befall = λ l test is. mark-befall (marks.Remote queue domain envelope key kind address count verdict) s l test (b.befall l test is) }
behind-one (marks.Local queue domain key kind address count verdict) p s own b = record { namings = b.namings; starts = b.starts; injected = b.injected; naming = b.naming; incarnation = b.incarnation; posted = b.posted; progress = b.progress; envelopes = b.envelopes; arrival = b.arrival; befall = λ l test is. mark-befall (marks.Local queue domain key kind address count verdict) s l test (b.befall l test is) }
behind-one (marks.Stored place bytes) p s own b = record { namings = b.namings; starts = b.starts; injected = b.injected; naming = b.naming; incarnation = b.incarnation; posted = b.posted; progress = b.progress; envelopes = b.envelopes; arrival = b.arrival; befall = λ l test is. mark-befall (marks.Stored place bytes) s l test (b.befall l test is) }
behind-one (marks.Dropped target cause) p s own b = record { namings = b.namings; starts = b.starts; injected = b.injected; naming = b.naming; incarnation = b.incarnation; posted = b.posted; progress = b.progress; envelopes = b.envelopes; arrival = b.arrival; befall = λ l test is. mark-befall (marks.Dropped target cause) s l test (b.befall l test is) }
behind-one (marks.Timer queue silent) p s own b = record { namings = b.namings; starts = b.starts; injected = b.injected; naming = b.naming; incarnation = b.incarnation; posted = b.posted; progress = b.progress; envelopes = b.envelopes; arrival = b.arrival; befall = λ l test is. mark-befall (marks.Timer queue silent) s l test (b.befall l test is) }
behind-one (marks.Done queue x cause) p s own b = record { namings = b.namings; starts = b.starts; injected = b.injected; naming = b.naming; incarnation = b.incarnation; posted = b.posted; progress = b.progress; envelopes = b.envelopes; arrival = b.arrival; befall = λ l test is. mark-befall (marks.Done queue x cause) s l test (b.befall l test is) }

-- ---- tests of completions

-- a mark passes where its completion does
done-passes : (test : Past → Completion → WcStatus → Bool) (s : Past) (m : Mark) → completes_with_cause s m ≡ true
    → ((x : Completion) (cause : Option OpRefusal) → has_own_cause s x cause x.status ≡ true → test s x x.status ≡ true) → completes_so test s m ≡ true
done-passes test s (marks.Done queue x cause) own one = one x cause own
done-passes test s (marks.Verb by verb answer) own one = refl
done-passes test s (marks.Sent source target index request bytes) own one = refl
done-passes test s (marks.Lost target index) own one = refl
done-passes test s (marks.Arrived target index) own one = refl
done-passes test s (marks.Dropped target cause) own one = refl
done-passes test s (marks.Timer queue silent) own one = refl
done-passes test s (marks.Granted g) own one = refl
done-passes test s (marks.Revoked adapter key) own one = refl
done-passes test s (marks.Remote queue domain envelope key kind address count verdict) own one = refl
done-passes test s (marks.Local queue domain key kind address count verdict) own one = refl
done-passes test s (marks.Stored place bytes) own one = refl

-- marks that keep an invariant of the past pass where each completion does so under it
pub marks-follow : (I : Past → Type 0) (Is : Mark → Type 0) (test : Past → Completion → WcStatus → Bool) → ((m : Mark) (s : Past) → Is m → I s → I (after_mark m s))
    → ((s : Past) (x : Completion) (cause : Option OpRefusal) → I s → has_own_cause s x cause x.status ≡ true → test s x x.status ≡ true)
    → (ms : List Mark) (s : Past) → AllByRecursion Is ms → I s → each_mark completes_with_cause s ms ≡ true → each_mark (completes_so test) s ms ≡ true
marks-follow I Is test keeps one [] s all holds own = refl
marks-follow I Is test keeps one (m ∷ ms) s all holds own = both-true (completes_so test s m) _
    (done-passes test s m (and_parts (completes_with_cause s m) _ own).0 (λ x cause has. one s x cause holds has))
    (marks-follow I Is test keeps one ms (after_mark m s) all.1 (keeps m s all.0 holds) (and_parts (completes_with_cause s m) _ own).1)

own-all : (ms : List Mark) → AreOwn ms → AllByRecursion IsOwnMark ms
own-all [] own = record {}
own-all (m ∷ ms) own = (own.0, own-all ms own.1)

pub own-follow : (test : Past → Completion → WcStatus → Bool) (p : Past) → ((s : Past) (x : Completion) (cause : Option OpRefusal) → Behind p s → has_own_cause s x cause x.status ≡ true → test s x x.status ≡ true)
    → (ms : List Mark) → AreOwn ms → each_mark completes_with_cause p ms ≡ true → each_mark (completes_so test) p ms ≡ true
own-follow test p one ms own passes = marks-follow (Behind p) IsOwnMark test (λ m s is b. behind-one m p s is b) one ms p (own-all ms own) (behind-refl p) passes

-- ---- events in which no packet arrives

-- no packet arrived by an index
pub record Unheard (event : Event) (s : Past) : Type 0 where
  pub event_is : s.at_hand.event ≡ event
  pub arrival : IfSome s.at_hand.arrival (λ a. a.index ≡ None)

unheard-one : (event : Event) (m : Mark) (s : Past) → IsUnmetMark m → Unheard event s → Unheard event (after_mark m s)
unheard-one event (marks.Verb by verb answer) s unmet u = subst (λ h. Unheard event (record (after_mark (marks.Verb by verb answer) s) { at_hand = h })) (sym hand.hand) (record { event_is = u.event_is; arrival = u.arrival })
  where
    q : Past
    q = record s { at_hand = record s.at_hand { answered = Some (record { verb = verb; answer = answer }) } }

    hand : SameHand q (after_mark (marks.Verb by verb answer) s)
    hand = verb-hand verb answer q
unheard-one event (marks.Arrived target None) s unmet u = record { event_is = u.event_is; arrival = refl }
unheard-one event (marks.Arrived target (Some index)) s unmet u = absurd unmet
unheard-one event (marks.Lost target None) s unmet u = record { event_is = u.event_is; arrival = u.arrival }
unheard-one event (marks.Lost target (Some index)) s unmet u = record { event_is = u.event_is; arrival = u.arrival }
unheard-one event (marks.Sent source target index request bytes) s unmet u = record { event_is = u.event_is; arrival = u.arrival }
unheard-one event (marks.Granted g) s unmet u = record { event_is = u.event_is; arrival = u.arrival }
unheard-one event (marks.Revoked adapter key) s unmet u = record { event_is = u.event_is; arrival = u.arrival }
unheard-one event (marks.Remote queue domain envelope key kind address count verdict) s unmet u = record { event_is = u.event_is; arrival = u.arrival }
unheard-one event (marks.Local queue domain key kind address count verdict) s unmet u = record { event_is = u.event_is; arrival = u.arrival }
unheard-one event (marks.Stored place bytes) s unmet u = record { event_is = u.event_is; arrival = u.arrival }
unheard-one event (marks.Dropped target cause) s unmet u = record { event_is = u.event_is; arrival = u.arrival }
unheard-one event (marks.Timer queue silent) s unmet u = record { event_is = u.event_is; arrival = u.arrival }
unheard-one event (marks.Done queue x cause) s unmet u = record { event_is = u.event_is; arrival = u.arrival }

arrived-none : (s : Past) (n : QueueId) (o : Option Arrival) → IfSome o (λ a. a.index ≡ None) → injected_bytes s.at_hand.event ≡ None → arrived_at_hand (with_arrival o s) n ≡ None
arrived-none s n None is none = refl
arrived-none s n (Some a) is none = by s.at_hand.dropped (queue_eq a.target n)
  where
    by : (d b : Bool) → (if d then None else if b then packet_at s n a.index else None) ≡ None
    by true b = refl
    by false true = ap (packet_at s n) is ∙ ap (option_and_then packet_of) none
    by false false = refl

none-told : (s : Past) (x : Completion) → arrived_at_hand s x.queue ≡ None → told_at_hand s x ≡ None
none-told s x none = ap (λ o. told_by o (start_of s x.queue) (posted_at s x.queue x.place) (s.progress (present_incarnation s x.queue)).una (mtu_of s x.queue) (s.posted (present_incarnation s x.queue)) x.place) none

unmet-all : (ms : List Mark) → AreUnmet ms → AllByRecursion IsUnmetMark ms
unmet-all [] unmet = record {}
unmet-all (m ∷ ms) unmet = (unmet.0, unmet-all ms unmet.1)

-- in such an event nothing is told of a request
pub unmet-follow : (test : Past → Completion → WcStatus → Bool) (event : Event) (p : Past) → injected_bytes event ≡ None → Unheard event p
    → ((s : Past) (x : Completion) (cause : Option OpRefusal) → told_at_hand s x ≡ None → has_own_cause s x cause x.status ≡ true → test s x x.status ≡ true)
    → (ms : List Mark) → AreUnmet ms → each_mark completes_with_cause p ms ≡ true → each_mark (completes_so test) p ms ≡ true
unmet-follow test event p none unheard one ms unmet passes = marks-follow (Unheard event) IsUnmetMark test (λ m s is u. unheard-one event m s is u)
    (λ s x cause u own. one s x cause (none-told s x (arrived-none s x.queue s.at_hand.arrival u.arrival (ap injected_bytes u.event_is ∙ none))) own) ms p (unmet-all ms unmet) unheard passes
