-- Which atomics acted, by the marks of an event. For proofs only.
use Rattle.std.proofs.Common.{◌≡◌, ℕ, ◌%◌, ◌==◌, ◌&&◌, ◌++◌, Bool, true, false, if◌then◌else◌, List, [], ◌∷◌, Option, None, Some, refl, ap, ap₂, sym, subst, ◌∙◌, true≢false}
use Rattle.std.proofs.lemmas.Bool.{and_parts, eqb-true}
use Rattle.std.proofs.lemmas.List.{append-nil}
use Rattle.std.specs.Option.{option_eq, option_map_or}
use Rattle.ca_law_endings.proofs.InnerLemmas.{AreOwn, IsOwnMark}
use Rattle.ca_law_carried.specs.Asked.{has_its_packet}
use Rattle.ca_base.specs.declared.correspondent.Correspondent.{Correspondent}
use Rattle.ca_base.specs.declared.limits.TheConstants.{ATOMIC_BYTES}
use Rattle.ca_keys.specs.Equal.{queue_eq}
use Rattle.ca_keys.specs.Memory.{little_endian}
use Rattle.ca_keys.specs.declared.access.Ask.{Ask}
use Rattle.ca_keys.specs.declared.access.Kind.{Kind}
use Rattle.ca_keys.specs.declared.access.Kind.TheVariants as kinds
use Rattle.ca_keys.specs.declared.key.Key.{Key}
use Rattle.ca_keys.specs.declared.names.DomainId.{DomainId}
use Rattle.ca_keys.specs.declared.names.QueueId.{QueueId}
use Rattle.ca_keys.specs.declared.verdict.Verdict.TheVariants as verdicts
use Rattle.ca_law_world.proofs.Sound.SettledLemmas.{queue-path}
use Rattle.ca_model.specs.Carried.{arrived_so}
use Rattle.ca_model.specs.Judged.{held, is_allowed, is_judged, is_of_domain, puts}
use Rattle.ca_model.specs.Packets.{asks_atomic}
use Rattle.ca_model.specs.Past.{Acted, Arrival, Envelope, Past, acted_by, after_mark, after_marks, correspondent_eq, each_mark, envelope_sent, found_of, packet_at, remote_ask}
use Rattle.ca_model.specs.declared.mark.Mark.{Mark}
use Rattle.ca_model.specs.declared.mark.Mark.TheVariants as marks
use Rattle.ca_wire.specs.Packet.{Fields}
use Rattle.ca_wire.specs.declared.atomic_eth.AtomicEth.{AtomicEth}
use Rattle.ca_law_once.specs.Moves.{number_found, numbers_found}
use Rattle.ca_law_once.proofs.Once.VerbLemmas.{SameHand, verb-hand}

-- ---- a mark of an atomic that acted

-- an atomic that acted is of an atomic's kind, so the packet that it names arrived in its event
pub swap-arrived : (p : Past) (q : QueueId) (domain : DomainId) (envelope : Option ℕ) (key : Key) (kind : Kind) (address count found put : ℕ)
    → has_its_packet p (marks.Remote q domain envelope key kind address count (verdicts.Swapped found put)) ≡ true
    → is_judged p (marks.Remote q domain envelope key kind address count (verdicts.Swapped found put)) ≡ true → arrived_so p q envelope ≡ true
swap-arrived p q domain envelope key kinds.CmpSwap address count found put carried judged = (and_parts (arrived_so p q envelope) _ carried).0
swap-arrived p q domain envelope key kinds.FetchAdd address count found put carried judged = (and_parts (arrived_so p q envelope) _ carried).0
swap-arrived p q domain envelope key kinds.Write address count found put carried judged = (and_parts (arrived_so p q envelope) _ carried).0
swap-arrived p q domain envelope key kinds.Read address count found put carried judged = absurd (none (packet_at p q envelope) last)
  where
    ask : Ask
    ask = remote_ask q domain key kinds.Read address count

    before : Bool
    before = is_allowed p ask && (ask.length == ATOMIC_BYTES) && (ask.address % ATOMIC_BYTES == 0) && (little_endian (held p ask ATOMIC_BYTES) == found)

    last : option_map_or (puts ask found put) (packet_at p q envelope) false ≡ true
    last = (and_parts before (option_map_or (puts ask found put) (packet_at p q envelope) false)
        (and_parts (is_of_domain q domain) (before && option_map_or (puts ask found put) (packet_at p q envelope) false) judged).1).1

    never : (f : Fields) → puts (remote_ask q domain key kinds.Read address count) found put f ≡ true → ⊥
    never f is = by f.atomic (and_parts (asks_atomic kinds.Read f.opcode) (option_map_or (λ (a : AtomicEth). false) f.atomic false) is).1
      where
        by : (o : Option AtomicEth) → option_map_or (λ (a : AtomicEth). false) o false ≡ true → ⊥
        by None is = true≢false (sym is)
        by (Some a) is = true≢false (sym is)

    none : (o : Option Fields) → option_map_or (puts (remote_ask q domain key kinds.Read address count) found put) o false ≡ true → ⊥
    none None is = true≢false (sym is)
    none (Some f) is = never f is

-- ---- events in which no packet arrives by an index

-- no packet arrives by an index
abbrev pub IsUnmetMark : Mark → Type 0
IsUnmetMark (marks.Arrived target (Some index)) = ⊥
IsUnmetMark m = Unit {0}

abbrev pub AreUnmet : List Mark → Type 0
AreUnmet [] = Unit {0}
AreUnmet (m ∷ ms) = IsUnmetMark m × AreUnmet ms

-- no packet has arrived by an index
abbrev pub HasNotMet : Option Arrival → Type 0
HasNotMet None = Unit {0}
HasNotMet (Some a) = a.index ≡ None

pub unmet-arrived : (q : QueueId) (index : ℕ) (o : Option Arrival) → HasNotMet o → option_map_or (λ a. queue_eq a.target q && option_eq (λ m n. m == n) a.index (Some index)) o false ≡ true → ⊥
unmet-arrived q index None none is = true≢false (sym is)
unmet-arrived q index (Some a) none is =
    true≢false (sym (and_parts (queue_eq a.target q) _ is).1 ∙ ap (λ o. option_eq (λ m n. m == n) o (Some index)) none)

-- what a mark leaves of what is at hand, and of the atomics that acted
pub record StaysUnmet (p r : Past) : Type 0 where
  pub unmet : HasNotMet r.at_hand.arrival
  pub acted : r.acted ≡ p.acted

pub unmet-one : (p : Past) (m : Mark) → IsUnmetMark m → HasNotMet p.at_hand.arrival → has_its_packet p m ≡ true → is_judged p m ≡ true → StaysUnmet p (after_mark m p)
unmet-one p (marks.Verb by verb answer) free none carried judged = record { unmet = subst (λ o. HasNotMet o.arrival) (sym same.hand) none; acted = same.acted }
  where
    q : Past
    q = record p { at_hand = record p.at_hand { answered = Some (record { verb = verb; answer = answer }) } }

    same : SameHand q (after_mark (marks.Verb by verb answer) p)
    same = verb-hand verb answer q
unmet-one p (marks.Granted g) free none carried judged = record { unmet = none; acted = refl }
unmet-one p (marks.Revoked adapter key) free none carried judged = record { unmet = none; acted = refl }
unmet-one p (marks.Remote q domain envelope key kind address count (verdicts.Denied denial)) free none carried judged = record { unmet = none; acted = refl }
unmet-one p (marks.Remote q domain envelope key kind address count (verdicts.Read bytes)) free none carried judged = record { unmet = none; acted = refl }
unmet-one p (marks.Remote q domain envelope key kind address count (verdicts.Wrote bytes)) free none carried judged = record { unmet = none; acted = refl }
unmet-one p (marks.Remote q domain None key kind address count (verdicts.Swapped found put)) free none carried judged = record { unmet = none; acted = refl }
unmet-one p (marks.Remote q domain (Some index) key kind address count (verdicts.Swapped found put)) free none carried judged =
    absurd (unmet-arrived q index p.at_hand.arrival none (swap-arrived p q domain (Some index) key kind address count found put carried judged))
unmet-one p (marks.Local q domain key kind address count verdict) free none carried judged = record { unmet = none; acted = refl }
unmet-one p (marks.Stored place bytes) free none carried judged = record { unmet = none; acted = refl }
unmet-one p (marks.Sent source target index request bytes) free none carried judged = record { unmet = none; acted = refl }
unmet-one p (marks.Lost target None) free none carried judged = record { unmet = none; acted = refl }
unmet-one p (marks.Lost target (Some index)) free none carried judged = record { unmet = none; acted = refl }
unmet-one p (marks.Arrived target None) free none carried judged = record { unmet = refl; acted = refl }
unmet-one p (marks.Arrived target (Some index)) free none carried judged = absurd free
unmet-one p (marks.Dropped target cause) free none carried judged = record { unmet = none; acted = refl }
unmet-one p (marks.Timer queue silent) free none carried judged = record { unmet = none; acted = refl }
unmet-one p (marks.Done queue x cause) free none carried judged = record { unmet = none; acted = refl }

pub unmet-acted : (ms : List Mark) (p : Past) → AreUnmet ms → HasNotMet p.at_hand.arrival → each_mark has_its_packet p ms ≡ true → each_mark is_judged p ms ≡ true → (after_marks ms p).acted ≡ p.acted
unmet-acted [] p free none carried judged = refl
unmet-acted (m ∷ ms) p free none carried judged = unmet-acted ms (after_mark m p) free.1 one.unmet cs.1 js.1 ∙ one.acted
  where
    cs : (has_its_packet p m ≡ true) × (each_mark has_its_packet (after_mark m p) ms ≡ true)
    cs = and_parts (has_its_packet p m) (each_mark has_its_packet (after_mark m p) ms) carried

    js : (is_judged p m ≡ true) × (each_mark is_judged (after_mark m p) ms ≡ true)
    js = and_parts (is_judged p m) (each_mark is_judged (after_mark m p) ms) judged

    one : StaysUnmet p (after_mark m p)
    one = unmet-one p m free.0 none cs.0 js.0

-- ---- a delivery

-- the atomic that acts for an envelope, with the number that it found
abbrev pub acted_of : Envelope → ℕ → List Acted
acted_of e found = by e.source e.request
  where
    by : Correspondent → Option ℕ → List Acted
    by source None = []
    by source (Some place) = record { own = source; place = place; found = found } ∷ []

-- the atomics that acted, once these numbers were found for an envelope, one after the other
abbrev pub acted_onto : Envelope → List ℕ → List Acted → List Acted
acted_onto e [] acted = acted
acted_onto e (f ∷ fs) acted = acted_onto e fs (acted_of e f ++ acted)

-- the packet of this envelope has arrived
pub record HasMet (name : QueueId) (index : ℕ) (e : Envelope) (p : Past) : Type 0 where
  pub arrival : p.at_hand.arrival ≡ Some (record { target = name; index = Some index })
  pub sent : envelope_sent p name index ≡ Some e

sent-acted : (p : Past) (q : QueueId) (index found : ℕ) (e : Envelope) → envelope_sent p q index ≡ Some e → acted_by p q (Some index) found ≡ acted_of e found
sent-acted p q index found e is = ap (λ o. option_map_or (λ (e : Envelope). by e.source e.request) o []) is
  where
    by : Correspondent → Option ℕ → List Acted
    by source None = []
    by source (Some place) = record { own = source; place = place; found = found } ∷ []

same-number : (m n : ℕ) → (m == n) ≡ true → m ≡ n
same-number m n is = eqb-true m n is

pub met-index : (name q : QueueId) (index : ℕ) (envelope : Option ℕ) → (queue_eq name q && option_eq (λ m n. m == n) (Some index) envelope) ≡ true → (name ≡ q) × (envelope ≡ Some index)
met-index name q index None is = absurd (true≢false (sym (and_parts (queue_eq name q) false is).1))
met-index name q index (Some i) is = let parts = and_parts (queue_eq name q) (index == i) is in (queue-path name q parts.0, ap (λ n. Some n) (sym (same-number index i parts.1)))

pub record StaysMet (name : QueueId) (index : ℕ) (e : Envelope) (m : Mark) (p r : Past) : Type 0 where
  pub met : HasMet name index e r
  pub acted : r.acted ≡ acted_onto e (numbers_found (m ∷ [])) p.acted

pub met-one : (name : QueueId) (index : ℕ) (e : Envelope) (p : Past) (m : Mark) → IsOwnMark m → HasMet name index e p → has_its_packet p m ≡ true → is_judged p m ≡ true → StaysMet name index e m p (after_mark m p)
met-one name index e p (marks.Verb by verb answer) own met carried judged = absurd own
met-one name index e p (marks.Granted g) own met carried judged = record { met = record { arrival = met.arrival; sent = met.sent }; acted = refl }
met-one name index e p (marks.Revoked adapter key) own met carried judged = record { met = record { arrival = met.arrival; sent = met.sent }; acted = refl }
met-one name index e p (marks.Remote q domain envelope key kind address count (verdicts.Denied denial)) own met carried judged = record { met = record { arrival = met.arrival; sent = met.sent }; acted = refl }
met-one name index e p (marks.Remote q domain envelope key kind address count (verdicts.Read bytes)) own met carried judged = record { met = record { arrival = met.arrival; sent = met.sent }; acted = refl }
met-one name index e p (marks.Remote q domain envelope key kind address count (verdicts.Wrote bytes)) own met carried judged = record { met = record { arrival = met.arrival; sent = met.sent }; acted = refl }
met-one name index e p (marks.Remote q domain envelope key kind address count (verdicts.Swapped found put)) own met carried judged = record {
  met = record { arrival = met.arrival; sent = met.sent };
  acted = ap (λ xs. xs ++ p.acted) (ap₂ (λ n o. acted_by p n o found) (sym names.0) names.1 ∙ sent-acted p name index found e met.sent);
}
  where
    names : (name ≡ q) × (envelope ≡ Some index)
    names = met-index name q index envelope
        (sym (ap (λ o. option_map_or (λ (a : Arrival). queue_eq a.target q && option_eq (λ m n. m == n) a.index envelope) o false) met.arrival)
        ∙ swap-arrived p q domain envelope key kind address count found put carried judged)
met-one name index e p (marks.Local q domain key kind address count verdict) own met carried judged = record { met = record { arrival = met.arrival; sent = met.sent }; acted = refl }
met-one name index e p (marks.Stored place bytes) own met carried judged = record { met = record { arrival = met.arrival; sent = met.sent }; acted = refl }
met-one name index e p (marks.Sent source target i request bytes) own met carried judged = absurd own
met-one name index e p (marks.Lost target i) own met carried judged = absurd own
met-one name index e p (marks.Arrived target i) own met carried judged = absurd own
met-one name index e p (marks.Dropped target cause) own met carried judged = record { met = record { arrival = met.arrival; sent = met.sent }; acted = refl }
met-one name index e p (marks.Timer queue silent) own met carried judged = record { met = record { arrival = met.arrival; sent = met.sent }; acted = refl }
met-one name index e p (marks.Done queue x cause) own met carried judged = record { met = record { arrival = met.arrival; sent = met.sent }; acted = refl }

onto-append : (e : Envelope) (fs gs : List ℕ) (acted : List Acted) → acted_onto e gs (acted_onto e fs acted) ≡ acted_onto e (fs ++ gs) acted
onto-append e [] gs acted = refl
onto-append e (f ∷ fs) gs acted = onto-append e fs gs (acted_of e f ++ acted)

one-number : (m : Mark) (ms : List Mark) → numbers_found (m ∷ []) ++ numbers_found ms ≡ numbers_found (m ∷ ms)
one-number m ms = ap (λ xs. xs ++ numbers_found ms) (append-nil (number_found m))

pub met-acted : (name : QueueId) (index : ℕ) (e : Envelope) (ms : List Mark) (p : Past) → AreOwn ms → HasMet name index e p → each_mark has_its_packet p ms ≡ true → each_mark is_judged p ms ≡ true
    → (after_marks ms p).acted ≡ acted_onto e (numbers_found ms) p.acted
met-acted name index e [] p own met carried judged = refl
met-acted name index e (m ∷ ms) p own met carried judged = met-acted name index e ms (after_mark m p) own.1 one.met cs.1 js.1
    ∙ ap (acted_onto e (numbers_found ms)) one.acted ∙ onto-append e (numbers_found (m ∷ [])) (numbers_found ms) p.acted ∙ ap (λ fs. acted_onto e fs p.acted) (one-number m ms)
  where
    cs : (has_its_packet p m ≡ true) × (each_mark has_its_packet (after_mark m p) ms ≡ true)
    cs = and_parts (has_its_packet p m) (each_mark has_its_packet (after_mark m p) ms) carried

    js : (is_judged p m ≡ true) × (each_mark is_judged (after_mark m p) ms ≡ true)
    js = and_parts (is_judged p m) (each_mark is_judged (after_mark m p) ms) judged

    one : StaysMet name index e m p (after_mark m p)
    one = met-one name index e p m own.0 met cs.0 js.0

-- ---- the numbers that were found for a posted request

-- the same, by the list of atomics that acted
abbrev pub numbers_of : Correspondent → ℕ → List Acted → List ℕ
numbers_of own place [] = []
numbers_of own place (a ∷ rest) = if correspondent_eq a.own own && (a.place == place) then a.found ∷ numbers_of own place rest else numbers_of own place rest

of-list : (p : Past) (own : Correspondent) (place : ℕ) (acted : List Acted) → found_of (record p { acted = acted }) own place ≡ numbers_of own place acted
of-list p own place [] = refl
of-list p own place (a ∷ rest) = ap (λ xs. if correspondent_eq a.own own && (a.place == place) then a.found ∷ xs else xs) (of-list p own place rest)

pub found-is : (p : Past) (own : Correspondent) (place : ℕ) → found_of p own place ≡ numbers_of own place p.acted
found-is p own place = of-list p own place p.acted

-- numbers that were found for an envelope of no request, and of another life
pub none-onto : (e : Envelope) (fs : List ℕ) (acted : List Acted) → e.request ≡ None → acted_onto e fs acted ≡ acted
none-onto e [] acted none = refl
none-onto e (f ∷ fs) acted none = ap (acted_onto e fs) (ap (λ xs. xs ++ acted) (ap (by e.source) none)) ∙ none-onto e fs acted none
  where
    by : Correspondent → Option ℕ → List Acted
    by source None = []
    by source (Some place) = record { own = source; place = place; found = f } ∷ []

pub other-onto : (own : Correspondent) (place : ℕ) (e : Envelope) (fs : List ℕ) (acted : List Acted) → correspondent_eq e.source own ≡ false → numbers_of own place (acted_onto e fs acted) ≡ numbers_of own place acted
other-onto own place e [] acted other = refl
other-onto own place e (f ∷ fs) acted other = other-onto own place e fs (acted_of e f ++ acted) other ∙ by e.request
  where
    of : Option ℕ → List Acted
    of None = []
    of (Some n) = record { own = e.source; place = n; found = f } ∷ []

    by : (o : Option ℕ) → numbers_of own place (of o ++ acted) ≡ numbers_of own place acted
    by None = refl
    by (Some n) = ap (λ b. if b && (n == place) then f ∷ numbers_of own place acted else numbers_of own place acted) other

-- numbers put in front of others, one after the other
abbrev pub onto : List ℕ → List ℕ → List ℕ
onto [] ys = ys
onto (f ∷ fs) ys = onto fs (f ∷ ys)

pub own-onto : (own : Correspondent) (place x : ℕ) (e : Envelope) (fs : List ℕ) (acted : List Acted) → correspondent_eq e.source own ≡ true → e.request ≡ Some x
    → numbers_of own place (acted_onto e fs acted) ≡ onto (if x == place then fs else []) (numbers_of own place acted)
own-onto own place x e fs acted mine is = by (x == place) refl
  where
    of : ℕ → Option ℕ → List Acted
    of f None = []
    of f (Some n) = record { own = e.source; place = n; found = f } ∷ []

    head : (f : ℕ) (acted : List Acted) → numbers_of own place (acted_of e f ++ acted) ≡ (if x == place then f ∷ numbers_of own place acted else numbers_of own place acted)
    head f acted = ap (λ o. numbers_of own place (of f o ++ acted)) is ∙ ap (λ b. if b && (x == place) then f ∷ numbers_of own place acted else numbers_of own place acted) mine

    yes : (x == place) ≡ true → (fs : List ℕ) (acted : List Acted) → numbers_of own place (acted_onto e fs acted) ≡ onto fs (numbers_of own place acted)
    yes same [] acted = refl
    yes same (f ∷ fs) acted = yes same fs (acted_of e f ++ acted) ∙ ap (onto fs) (head f acted ∙ ap (λ b. if b then f ∷ numbers_of own place acted else numbers_of own place acted) same)

    no : (x == place) ≡ false → (fs : List ℕ) (acted : List Acted) → numbers_of own place (acted_onto e fs acted) ≡ numbers_of own place acted
    no other [] acted = refl
    no other (f ∷ fs) acted = no other fs (acted_of e f ++ acted) ∙ head f acted ∙ ap (λ b. if b then f ∷ numbers_of own place acted else numbers_of own place acted) other

    by : (b : Bool) → (x == place) ≡ b → numbers_of own place (acted_onto e fs acted) ≡ onto (if b then fs else []) (numbers_of own place acted)
    by true same = yes same fs acted
    by false other = no other fs acted
