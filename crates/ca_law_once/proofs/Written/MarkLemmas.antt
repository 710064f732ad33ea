-- Which packets wrote, by the marks of an event. For proofs only.
use Rattle.std.proofs.Common.{◌≡◌, ℕ, zero, suc, ◌==◌, ◌&&◌, ◌++◌, ◌⊎◌, inl, inr, Bool, true, false, if◌then◌else◌, List, [], ◌∷◌, Option, None, Some, is_some, refl, ap, ap₂, sym, subst, ◌∙◌, true≢false, arith, replicate}
use Rattle.std.proofs.lemmas.Bool.{and_parts}
use Rattle.std.specs.Option.{option_and_then, option_eq, option_map, option_map_or}
use Rattle.ca_law_endings.proofs.InnerLemmas.{AreOwn, IsOwnMark}
use Rattle.ca_law_carried.specs.Asked.{has_its_packet}
use Rattle.ca_base.specs.declared.correspondent.Correspondent.{Correspondent}
use Rattle.ca_keys.specs.Equal.{queue_eq}
use Rattle.ca_keys.specs.declared.access.Ask.{Ask}
use Rattle.ca_keys.specs.declared.access.Kind.{Kind}
use Rattle.ca_keys.specs.declared.access.Kind.TheVariants as kinds
use Rattle.ca_keys.specs.declared.key.Key.{Key}
use Rattle.ca_keys.specs.declared.names.DomainId.{DomainId}
use Rattle.ca_keys.specs.declared.names.QueueId.{QueueId}
use Rattle.ca_keys.specs.declared.verdict.Verdict.{Verdict}
use Rattle.ca_keys.specs.declared.verdict.Verdict.TheVariants as verdicts
use Rattle.ca_model.specs.Carried.{arrived_so, asks_for}
use Rattle.ca_model.specs.Judged.{is_allowed, is_fitting_size, is_judged, is_of_domain}
use Rattle.ca_model.specs.Packets.{packet_of}
use Rattle.ca_model.specs.Past.{Arrival, Envelope, Past, after_mark, after_marks, correspondent_eq, each_mark, envelope_sent, packet_at, remote_ask}
use Rattle.ca_model.specs.declared.mark.Mark.{Mark}
use Rattle.ca_model.specs.declared.mark.Mark.TheVariants as marks
use Rattle.ca_law_once.proofs.Once.ActedLemmas.{AreUnmet, HasMet, HasNotMet, IsUnmetMark, StaysMet, StaysUnmet, met-index, met-one, unmet-arrived, unmet-one}
use Rattle.ca_wire.specs.Packet.{Fields}
use Rattle.ca_law_once.specs.Moves.{is_remote_write, writes_told}
use Rattle.ca_law_once.specs.Written.{Writes, Wrote, psn_in, psns_at, writes_after, writes_of_marks, wrote_after, wrote_by, wrote_for, wrote_of}

-- ---- a mark of a write

some-of : {A : Type 0} (test : A → Bool) (o : Option A) → option_map_or test o false ≡ true → is_some o ≡ true
some-of test None is = absurd (true≢false (sym is))
some-of test (Some x) is = refl

-- a remote write names the packet that arrived in its event, and this is one
pub write-arrived : (p : Past) (q : QueueId) (domain : DomainId) (envelope : Option ℕ) (key : Key) (kind : Kind) (address count : ℕ) (bytes : List ℕ)
    → has_its_packet p (marks.Remote q domain envelope key kind address count (verdicts.Wrote bytes)) ≡ true
    → is_judged p (marks.Remote q domain envelope key kind address count (verdicts.Wrote bytes)) ≡ true
    → (arrived_so p q envelope ≡ true) × (is_some (packet_at p q envelope) ≡ true)
write-arrived p q domain envelope key kinds.Write address count bytes carried judged = let parts = and_parts (arrived_so p q envelope) _ carried in (parts.0, some-of _ (packet_at p q envelope) parts.1)
write-arrived p q domain envelope key kinds.CmpSwap address count bytes carried judged = let parts = and_parts (arrived_so p q envelope) _ carried in (parts.0, some-of _ (packet_at p q envelope) parts.1)
write-arrived p q domain envelope key kinds.FetchAdd address count bytes carried judged = let parts = and_parts (arrived_so p q envelope) _ carried in (parts.0, some-of _ (packet_at p q envelope) parts.1)
write-arrived p q domain envelope key kinds.Read address count bytes carried judged = absurd (true≢false (sym (and_parts (is_allowed p ask) false (and_parts (is_allowed p ask && false) (is_fitting_size ask bytes) verdict).0).1))
  where
    ask : Ask
    ask = remote_ask q domain key kinds.Read address count

    verdict : (is_allowed p ask && false && is_fitting_size ask bytes) ≡ true
    verdict = (and_parts (is_of_domain q domain) (is_allowed p ask && false && is_fitting_size ask bytes) judged).1

-- ---- events in which no packet arrives by an index

unmet-write : (p : Past) (m : Mark) (xs : List Wrote) → HasNotMet p.at_hand.arrival → has_its_packet p m ≡ true → is_judged p m ≡ true → wrote_after p m xs ≡ xs
unmet-write p (marks.Remote q domain None key kind address count (verdicts.Wrote bytes)) xs none carried judged = refl
unmet-write p (marks.Remote q domain (Some index) key kind address count (verdicts.Wrote bytes)) xs none carried judged =
    absurd (unmet-arrived q index p.at_hand.arrival none (write-arrived p q domain (Some index) key kind address count bytes carried judged).0)
unmet-write p (marks.Remote q domain envelope key kind address count (verdicts.Denied denial)) xs none carried judged = refl
unmet-write p (marks.Remote q domain envelope key kind address count (verdicts.Read bytes)) xs none carried judged = refl
unmet-write p (marks.Remote q domain envelope key kind address count (verdicts.Swapped found put)) xs none carried judged = refl
unmet-write p (marks.Verb by verb answer) xs none carried judged = refl
unmet-write p (marks.Granted g) xs none carried judged = refl
unmet-write p (marks.Revoked adapter key) xs none carried judged = refl
unmet-write p (marks.Local q domain key kind address count verdict) xs none carried judged = refl
unmet-write p (marks.Stored place bytes) xs none carried judged = refl
unmet-write p (marks.Sent source target index request bytes) xs none carried judged = refl
unmet-write p (marks.Lost target index) xs none carried judged = refl
unmet-write p (marks.Arrived target index) xs none carried judged = refl
unmet-write p (marks.Dropped target cause) xs none carried judged = refl
unmet-write p (marks.Timer queue silent) xs none carried judged = refl
unmet-write p (marks.Done queue x cause) xs none carried judged = refl

pub unmet-wrote : (ms : List Mark) (p : Past) (w : Writes) → AreUnmet ms → HasNotMet p.at_hand.arrival → each_mark has_its_packet p ms ≡ true → each_mark is_judged p ms ≡ true → (writes_of_marks ms p w).wrote ≡ w.wrote
unmet-wrote [] p w free none carried judged = refl
unmet-wrote (m ∷ ms) p w free none carried judged = unmet-wrote ms (after_mark m p) (writes_after p m w) free.1 one.unmet cs.1 js.1 ∙ unmet-write p m w.wrote none cs.0 js.0
  where
    cs : (has_its_packet p m ≡ true) × (each_mark has_its_packet (after_mark m p) ms ≡ true)
    cs = and_parts (has_its_packet p m) (each_mark has_its_packet (after_mark m p) ms) carried

    js : (is_judged p m ≡ true) × (each_mark is_judged (after_mark m p) ms ≡ true)
    js = and_parts (is_judged p m) (each_mark is_judged (after_mark m p) ms) judged

    one : StaysUnmet p (after_mark m p)
    one = unmet-one p m free.0 none cs.0 js.0

-- ---- a delivery

-- the writes, once the packet of an envelope wrote so many times
abbrev pub wrote_onto : Envelope → ℕ → List Wrote → List Wrote
wrote_onto e zero xs = xs
wrote_onto e (suc n) xs = wrote_onto e n (wrote_of e ++ xs)

-- what a mark tells of the packet that arrived: it wrote once, and is one; or it did not write
record MetOnce (e : Envelope) (m : Mark) (p : Past) (xs : List Wrote) : Type 0 where
  wrote : wrote_after p m xs ≡ wrote_onto e (writes_told (m ∷ [])) xs
  packet : (writes_told (m ∷ []) ≡ 0) ⊎ (is_some (packet_of e.bytes) ≡ true)

no-write : (e : Envelope) (m : Mark) (p : Past) (xs : List Wrote) → is_remote_write m ≡ false → wrote_after p m xs ≡ xs → MetOnce e m p xs
no-write e m p xs none same = record {
  wrote = same ∙ ap (λ (b : Bool). wrote_onto e (if b then suc zero else zero) xs) (sym none);
  packet = inl (ap (λ (b : Bool). if b then suc zero else zero) none);
}

met-write : (name : QueueId) (index : ℕ) (e : Envelope) (p : Past) (m : Mark) (xs : List Wrote) → HasMet name index e p → has_its_packet p m ≡ true → is_judged p m ≡ true → MetOnce e m p xs
met-write name index e p (marks.Remote q domain envelope key kind address count (verdicts.Wrote bytes)) xs met carried judged = record {
  wrote = ap (λ ys. ys ++ xs) (ap₂ (λ n o. wrote_by p n o) (sym names.0) names.1 ∙ ap (λ (o : Option Envelope). option_map_or (λ (e : Envelope). wrote_of e) o []) met.sent);
  packet = inr (ap (λ (o : Option Envelope). is_some (option_and_then packet_of (option_map (λ (e : Envelope). e.bytes) o))) (sym met.sent) ∙ ap₂ (λ n o. is_some (packet_at p n o)) names.0 (sym names.1) ∙ arrived.1);
}
  where
    arrived : (arrived_so p q envelope ≡ true) × (is_some (packet_at p q envelope) ≡ true)
    arrived = write-arrived p q domain envelope key kind address count bytes carried judged

    names : (name ≡ q) × (envelope ≡ Some index)
    names = met-index name q index envelope
        (sym (ap (λ o. option_map_or (λ (a : Arrival). queue_eq a.target q && option_eq (λ m n. m == n) a.index envelope) o false) met.arrival) ∙ arrived.0)
met-write name index e p (marks.Remote q domain envelope key kind address count (verdicts.Denied denial)) xs met carried judged = no-write e (marks.Remote q domain envelope key kind address count (verdicts.Denied denial)) p xs refl refl
met-write name index e p (marks.Remote q domain envelope key kind address count (verdicts.Read bytes)) xs met carried judged = no-write e (marks.Remote q domain envelope key kind address count (verdicts.Read bytes)) p xs refl refl
met-write name index e p (marks.Remote q domain envelope key kind address count (verdicts.Swapped found put)) xs met carried judged = no-write e (marks.Remote q domain envelope key kind address count (verdicts.Swapped found put)) p xs refl refl
met-write name index e p (marks.Verb by verb answer) xs met carried judged = no-write e (marks.Verb by verb answer) p xs refl refl
met-write name index e p (marks.Granted g) xs met carried judged = no-write e (marks.Granted g) p xs refl refl
met-write name index e p (marks.Revoked adapter key) xs met carried judged = no-write e (marks.Revoked adapter key) p xs refl refl
met-write name index e p (marks.Local q domain key kind address count verdict) xs met carried judged = no-write e (marks.Local q domain key kind address count verdict) p xs refl refl
met-write name index e p (marks.Stored place bytes) xs met carried judged = no-write e (marks.Stored place bytes) p xs refl refl
met-write name index e p (marks.Sent source target i request bytes) xs met carried judged = no-write e (marks.Sent source target i request bytes) p xs refl refl
met-write name index e p (marks.Lost target i) xs met carried judged = no-write e (marks.Lost target i) p xs refl refl
met-write name index e p (marks.Arrived target i) xs met carried judged = no-write e (marks.Arrived target i) p xs refl refl
met-write name index e p (marks.Dropped target cause) xs met carried judged = no-write e (marks.Dropped target cause) p xs refl refl
met-write name index e p (marks.Timer queue silent) xs met carried judged = no-write e (marks.Timer queue silent) p xs refl refl
met-write name index e p (marks.Done queue x cause) xs met carried judged = no-write e (marks.Done queue x cause) p xs refl refl

onto-more : (e : Envelope) (k : ℕ) (m : Mark) (xs : List Wrote) → wrote_onto e k (wrote_onto e (writes_told (m ∷ [])) xs) ≡ wrote_onto e (if is_remote_write m then suc k else k) xs
onto-more e k m xs = by (is_remote_write m)
  where
    by : (b : Bool) → wrote_onto e k (wrote_onto e (if b then suc zero else zero) xs) ≡ wrote_onto e (if b then suc k else k) xs
    by true = refl
    by false = refl

-- what the marks of a delivery tell of the packet that arrived
pub record MetAll (e : Envelope) (ms : List Mark) (p : Past) (w : Writes) : Type 0 where
  pub wrote : (writes_of_marks ms p w).wrote ≡ wrote_onto e (writes_told ms) w.wrote
  pub packet : (writes_told ms ≡ 0) ⊎ (is_some (packet_of e.bytes) ≡ true)

-- one mark, and the rest
met-both : (e : Envelope) (m : Mark) (ms : List Mark) (p : Past) (w : Writes) → MetOnce e m p w.wrote → MetAll e ms (after_mark m p) (writes_after p m w) → MetAll e (m ∷ ms) p w
met-both e m ms p w here rest = record {
  wrote = rest.wrote ∙ ap (wrote_onto e (writes_told ms)) here.wrote ∙ onto-more e (writes_told ms) m w.wrote;
  packet = both here.packet rest.packet;
}
  where
    count : (b : Bool) → (if b then suc zero else zero) ≡ zero → writes_told ms ≡ 0 → (if b then suc (writes_told ms) else writes_told ms) ≡ 0
    count true one none = absurd (omega (arith, one))
    count false one none = none

    both : (writes_told (m ∷ []) ≡ 0) ⊎ (is_some (packet_of e.bytes) ≡ true) → (writes_told ms ≡ 0) ⊎ (is_some (packet_of e.bytes) ≡ true) → (writes_told (m ∷ ms) ≡ 0) ⊎ (is_some (packet_of e.bytes) ≡ true)
    both (inr is) other = inr is
    both (inl none) (inr is) = inr is
    both (inl none) (inl nothing) = inl (count (is_remote_write m) none nothing)

pub met-wrote : (name : QueueId) (index : ℕ) (e : Envelope) (ms : List Mark) (p : Past) (w : Writes) → AreOwn ms → HasMet name index e p → each_mark has_its_packet p ms ≡ true → each_mark is_judged p ms ≡ true → MetAll e ms p w
met-wrote name index e [] p w own met carried judged = record { wrote = refl; packet = inl refl }
met-wrote name index e (m ∷ ms) p w own met carried judged =
    met-both e m ms p w (met-write name index e p m w.wrote met cs.0 js.0) (met-wrote name index e ms (after_mark m p) (writes_after p m w) own.1 one.met cs.1 js.1)
  where
    cs : (has_its_packet p m ≡ true) × (each_mark has_its_packet (after_mark m p) ms ≡ true)
    cs = and_parts (has_its_packet p m) (each_mark has_its_packet (after_mark m p) ms) carried

    js : (is_judged p m ≡ true) × (each_mark is_judged (after_mark m p) ms ≡ true)
    js = and_parts (is_judged p m) (each_mark is_judged (after_mark m p) ms) judged

    one : StaysMet name index e m p (after_mark m p)
    one = met-one name index e p m own.0 met cs.0 js.0

-- ---- the packets of one posted request

pub onto-none : (e : Envelope) (n : ℕ) (xs : List Wrote) → e.request ≡ None → wrote_onto e n xs ≡ xs
onto-none e zero xs none = refl
onto-none e (suc n) xs none = onto-none e n (wrote_of e ++ xs) none ∙ ap (λ (o : Option ℕ). wrote_for e.source o (psn_in e.bytes) ++ xs) none

pub onto-other : (own : Correspondent) (place : ℕ) (e : Envelope) (n : ℕ) (xs : List Wrote) → correspondent_eq e.source own ≡ false → psns_at own place (wrote_onto e n xs) ≡ psns_at own place xs
onto-other own place e zero xs other = refl
onto-other own place e (suc n) xs other = onto-other own place e n (wrote_of e ++ xs) other ∙ by e.request
  where
    by : (o : Option ℕ) → psns_at own place (wrote_for e.source o (psn_in e.bytes) ++ xs) ≡ psns_at own place xs
    by None = refl
    by (Some k) = ap (λ b. if b && (k == place) then psn_in e.bytes ∷ psns_at own place xs else psns_at own place xs) other

replicate-more : (n p : ℕ) (xs : List ℕ) → replicate n p ++ (p ∷ xs) ≡ p ∷ (replicate n p ++ xs)
replicate-more zero p xs = refl
replicate-more (suc n) p xs = ap (λ ys. p ∷ ys) (replicate-more n p xs)

pub onto-own : (own : Correspondent) (place x : ℕ) (e : Envelope) (n : ℕ) (xs : List Wrote) → correspondent_eq e.source own ≡ true → e.request ≡ Some x
    → psns_at own place (wrote_onto e n xs) ≡ (if x == place then replicate n (psn_in e.bytes) else []) ++ psns_at own place xs
onto-own own place x e n xs mine is = by (x == place) refl
  where
    psn : ℕ
    psn = psn_in e.bytes

    head : (xs : List Wrote) → psns_at own place (wrote_of e ++ xs) ≡ (if x == place then psn ∷ psns_at own place xs else psns_at own place xs)
    head xs = ap (λ (o : Option ℕ). psns_at own place (wrote_for e.source o psn ++ xs)) is ∙ ap (λ b. if b && (x == place) then psn ∷ psns_at own place xs else psns_at own place xs) mine

    yes : (x == place) ≡ true → (n : ℕ) (xs : List Wrote) → psns_at own place (wrote_onto e n xs) ≡ replicate n psn ++ psns_at own place xs
    yes same zero xs = refl
    yes same (suc n) xs = yes same n (wrote_of e ++ xs) ∙ ap (λ ys. replicate n psn ++ ys) (head xs ∙ ap (λ b. if b then psn ∷ psns_at own place xs else psns_at own place xs) same) ∙ replicate-more n psn (psns_at own place xs)

    no : (x == place) ≡ false → (n : ℕ) (xs : List Wrote) → psns_at own place (wrote_onto e n xs) ≡ psns_at own place xs
    no other zero xs = refl
    no other (suc n) xs = no other n (wrote_of e ++ xs) ∙ head xs ∙ ap (λ b. if b then psn ∷ psns_at own place xs else psns_at own place xs) other

    by : (b : Bool) → (x == place) ≡ b → psns_at own place (wrote_onto e n xs) ≡ (if b then replicate n psn else []) ++ psns_at own place xs
    by true same = yes same n xs
    by false other = no other n xs
