-- Marks of which each is judged rightly, by the grants and the bytes before them. For proofs only.
use Rattle.std.proofs.Common.{◌≡◌, ℕ, ◌+◌, ◌-◌, ◌≤◌, ◌==◌, ◌||◌, arith, nat_le, nat_lt, Bool, true, false, ◌&&◌, if◌then◌else◌, List, [], ◌∷◌, ◌++◌, length, map, take, drop, sum_by, Option, None, Some, is_none, is_some, refl, sym, ap, subst, true≢false, ◌∙◌, length-drop}
use Rattle.std.proofs.lemmas.Bool.{and_parts, eq-eqb}
use Rattle.std.proofs.lemmas.Bool.Decides.{nat_tests}
use Rattle.std.proofs.lemmas.List.{length-take-le}
use Rattle.std.proofs.lemmas.List.Sums.{sum_by-cons}
use Rattle.std.specs.List.{AllByRecursion}
use Rattle.std.specs.Option.{option_eq, option_map_or}
use Rattle.std.specs.Str.{bytes_eq}
use Rattle.ca_law_keys.proofs.Keys.CalmLemmas.{AreCalm, IsCalmMark}
use Rattle.ca_law_keys.proofs.Keys.PlainLemmas.{ArePlainMarks, IsPlainEffects}
use Rattle.ca_law_keys.proofs.Keys.ToldLemmas.{At, cut-most, touch-alike}
use Rattle.ca_law_keys.proofs.Judged.WholeLemmas.{AreWhole, bytes-count, cut-none, reached}
use Rattle.ca_keys.specs.Allowed.{denial_of, denial_under, grant_for}
use Rattle.ca_keys.specs.Equal.{denial_eq}
use Rattle.ca_keys.specs.Memory.{ByteMap, bytes_at, runs_at, runs_for}
use Rattle.ca_keys.specs.declared.access.Ask.{Ask}
use Rattle.ca_keys.specs.declared.access.Denial.{Denial}
use Rattle.ca_keys.specs.declared.access.Denial.TheVariants.{NoGrant, WrongQueue, NoRight, OutOfRange}
use Rattle.ca_keys.specs.declared.access.Kind.{Kind}
use Rattle.ca_keys.specs.declared.access.Kind.TheVariants as kinds
use Rattle.ca_keys.specs.declared.grant.Grant.{Grant}
use Rattle.ca_keys.specs.declared.key.Key.{Key}
use Rattle.ca_keys.specs.declared.names.DomainId.{DomainId}
use Rattle.ca_keys.specs.declared.names.QueueId.{QueueId}
use Rattle.ca_keys.specs.declared.verdict.Verdict.TheVariants as verdicts
use Rattle.ca_base.specs.Sight.{Sight, bytes_in, denial_by_grant, denial_in, first_denied, or_denied, runs_by_grant}
use Rattle.ca_base.specs.declared.denied_ask.DeniedAsk.{DeniedAsk}
use Rattle.ca_base.specs.declared.refusals.OpRefusal.{OpRefusal}
use Rattle.ca_base.specs.declared.request.Piece.{Piece}
use Rattle.ca_law_world.proofs.Sound.WorldLemmas.{EndingDoes}
use Rattle.ca_model.specs.Judged.{held, is_fitting_size, is_judged, is_of_domain, is_read_or_write}
use Rattle.ca_model.specs.Past.{Past, after_mark, after_marks, each_mark, local_ask, remote_ask}
use Rattle.ca_model.specs.declared.mark.Mark.{Mark}
use Rattle.ca_model.specs.declared.mark.Mark.TheVariants as marks
use Rattle.ca_model.specs.machine.Arrivals.{remote_mark}
use Rattle.ca_model.specs.machine.Numbering.{cut_list, list_asks, piece_ask}
use Rattle.ca_model.specs.machine.Requester.{local_denial, local_reads}
use Rattle.ca_model.specs.machine.Responses.{local_writes, writes_by}
use Rattle.ca_model.specs.machine.Row.{Ending, NotPossible, Does, Effects, Row, plain_row}

pub both-true : (a b : Bool) → a ≡ true → b ≡ true → (a && b) ≡ true
both-true true b one other = other
both-true false b one other = one

denial-refl : (d : Denial) → denial_eq d d ≡ true
denial-refl NoGrant = refl
denial-refl WrongQueue = refl
denial-refl NoRight = refl
denial-refl OutOfRange = refl

-- a past with these grants in force
abbrev pub With : List Grant → Past → Type 0
With g p = p.grants ≡ g

-- marks of which each is judged, from such pasts on
abbrev pub Judges : (Past → Type 0) → List Mark → Type 0
Judges I ms = (p : Past) → I p → each_mark is_judged p ms ≡ true

pub judges-append : (I : Past → Type 0) (g : List Grant) (ms ns : List Mark) → Judges I ms → ((p : Past) → I p → With g (after_marks ms p)) → Judges (With g) ns → Judges I (ms ++ ns)
judges-append I g ms ns one keeps other = λ p at. by ms p (one p at) (other (after_marks ms p) (keeps p at))
  where
    by : (ms : List Mark) (p : Past) → each_mark is_judged p ms ≡ true → each_mark is_judged (after_marks ms p) ns ≡ true → each_mark is_judged p (ms ++ ns) ≡ true
    by [] p one other = other
    by (m ∷ ms) p one other = both-true (is_judged p m) _ (and_parts (is_judged p m) (each_mark is_judged (after_mark m p) ms) one).0
        (by ms (after_mark m p) (and_parts (is_judged p m) (each_mark is_judged (after_mark m p) ms) one).1 other)

plain-one : (m : Mark) → ArePlainMarks (m ∷ []) → (p : Past) → is_judged p m ≡ true
plain-one (marks.Verb by verb answer) plain p = absurd plain.0
plain-one (marks.Granted x) plain p = absurd plain.0
plain-one (marks.Revoked adapter key) plain p = absurd plain.0
plain-one (marks.Stored place bytes) plain p = absurd plain.0
plain-one (marks.Remote queue domain envelope key kind address count verdict) plain p = absurd plain.0
plain-one (marks.Local queue domain key kind address count verdict) plain p = absurd plain.0
plain-one (marks.Sent source target index request bytes) plain p = refl
plain-one (marks.Lost target index) plain p = refl
plain-one (marks.Arrived target index) plain p = refl
plain-one (marks.Dropped target cause) plain p = refl
plain-one (marks.Timer queue silent) plain p = refl
plain-one (marks.Done queue x cause) plain p = refl

-- plain marks tell of nothing that is judged
pub plain-judged : (ms : List Mark) → ArePlainMarks ms → (p : Past) → each_mark is_judged p ms ≡ true
plain-judged [] plain p = refl
plain-judged (m ∷ ms) plain p = both-true (is_judged p m) _ (plain-one m (plain.0, record {}) p) (plain-judged ms plain.1 (after_mark m p))

calm-grants : (m : Mark) → IsCalmMark m → (p : Past) → (after_mark m p).grants ≡ p.grants
calm-grants (marks.Verb by verb answer) calm p = absurd calm
calm-grants (marks.Granted x) calm p = absurd calm
calm-grants (marks.Revoked adapter key) calm p = absurd calm
calm-grants (marks.Stored place bytes) calm p = absurd calm
calm-grants (marks.Remote queue domain envelope key kind address count (verdicts.Denied denial)) calm p = refl
calm-grants (marks.Remote queue domain envelope key kind address count (verdicts.Read bytes)) calm p = refl
calm-grants (marks.Remote queue domain envelope key kind address count (verdicts.Wrote bytes)) calm p = absurd calm
calm-grants (marks.Remote queue domain envelope key kind address count (verdicts.Swapped found put)) calm p = absurd calm
calm-grants (marks.Local queue domain key kind address count (verdicts.Denied denial)) calm p = refl
calm-grants (marks.Local queue domain key kind address count (verdicts.Read bytes)) calm p = refl
calm-grants (marks.Local queue domain key kind address count (verdicts.Wrote bytes)) calm p = absurd calm
calm-grants (marks.Local queue domain key kind address count (verdicts.Swapped found put)) calm p = absurd calm
calm-grants (marks.Sent source target index request bytes) calm p = refl
calm-grants (marks.Lost target None) calm p = refl
calm-grants (marks.Lost target (Some index)) calm p = refl
calm-grants (marks.Arrived target index) calm p = refl
calm-grants (marks.Dropped target cause) calm p = refl
calm-grants (marks.Timer queue silent) calm p = refl
calm-grants (marks.Done queue x cause) calm p = refl

pub calm-keeps : (g : List Grant) (ms : List Mark) → AreCalm ms → (p : Past) → With g p → With g (after_marks ms p)
calm-keeps g [] calm p at = at
calm-keeps g (m ∷ ms) calm p at = calm-keeps g ms calm.1 (after_mark m p) (calm-grants m calm.0 p ∙ at)

-- a sight by these grants, of these bytes
pub record Sees (s : Sight) (g : List Grant) (m : ByteMap) : Type 0 where
  pub grant : (ask : Ask) → s.grant ask ≡ grant_for ask g
  pub byte : s.byte ≡ m
  pub whole : AreWhole g

seen-denial : (s : Sight) (g : List Grant) (m : ByteMap) (ask : Ask) → Sees s g m → denial_in s ask ≡ denial_of ask g
seen-denial s g m ask sees = ap (denial_by_grant ask) (sees.grant ask)

pub seen-bytes : (s : Sight) (g : List Grant) (m : ByteMap) (ask : Ask) → Sees s g m → bytes_in s ask ≡ bytes_at m (runs_for ask g ask.touch)
seen-bytes s g m ask sees = λ i. bytes_at (sees.byte i) (runs_by_grant ask (sees.grant ask i))

-- the ask that is denied first is one of them, and denied so
one-denied : (s : Sight) (g : List Grant) (m : ByteMap) (P : Ask → Type 0) (asks : List Ask) (d : DeniedAsk) → Sees s g m → AllByRecursion P asks → first_denied s asks ≡ Some d
    → P d.ask × (denial_of d.ask g ≡ Some d.denial)
one-denied s g m P [] d sees all is = absurd (true≢false (sym (ap is_some is)))
one-denied s g m P (ask ∷ asks) d sees all is = by (denial_in s ask) refl is (one-denied s g m P asks d sees all.1)
  where
    of-ask : DeniedAsk → Option DeniedAsk → DeniedAsk
    of-ask x None = x
    of-ask x (Some y) = y

    by : (o : Option Denial) → denial_in s ask ≡ o → or_denied ask o (first_denied s asks) ≡ Some d → (first_denied s asks ≡ Some d → P d.ask × (denial_of d.ask g ≡ Some d.denial)) → P d.ask × (denial_of d.ask g ≡ Some d.denial)
    by None e is rest = rest is
    by (Some denial) e is rest = (subst (λ x. P x.ask) same all.0, subst (λ x. denial_of x.ask g ≡ Some x.denial) same (sym (seen-denial s g m ask sees) ∙ e))
      where
        same : record { ask = ask; denial = denial } ≡ d
        same = ap (of-ask d) is

pub none-denied : (s : Sight) (g : List Grant) (m : ByteMap) (asks : List Ask) → Sees s g m → first_denied s asks ≡ None → AllByRecursion (λ a. denial_of a g ≡ None) asks
none-denied s g m [] sees is = record {}
none-denied s g m (ask ∷ asks) sees is = by (denial_in s ask) refl is (none-denied s g m asks sees)
  where
    by : (o : Option Denial) → denial_in s ask ≡ o → or_denied ask o (first_denied s asks) ≡ None → (first_denied s asks ≡ None → AllByRecursion (λ a. denial_of a g ≡ None) asks)
        → (denial_of ask g ≡ None) × AllByRecursion (λ a. denial_of a g ≡ None) asks
    by None e is rest = (sym (seen-denial s g m ask sees) ∙ e, rest is)
    by (Some denial) e is rest = absurd (true≢false (ap is_some is))

-- an ask by an L_Key of a queue pair, as its mark tells it
abbrev IsLocalAsk : QueueId → DomainId → Kind → Ask → Type 0
IsLocalAsk queue domain kind a = (local_ask a.queue a.domain a.key a.kind a.address a.length ≡ a) × (a.queue ≡ queue) × (a.domain ≡ domain) × (a.kind ≡ kind)

pieces-local : (queue : QueueId) (domain : DomainId) (kind : Kind) (ps : List Piece) → AllByRecursion (IsLocalAsk queue domain kind) (map (piece_ask queue domain kind) ps)
pieces-local queue domain kind [] = record {}
pieces-local queue domain kind (p ∷ ps) = ((refl, refl, refl, refl), pieces-local queue domain kind ps)

right-denied : (o : Option Denial) (d : Denial) → o ≡ Some d → option_eq denial_eq o (Some d) ≡ true
right-denied o d is = ap (λ x. option_eq denial_eq x (Some d)) is ∙ denial-refl d

-- the mark of a piece that is denied
pub local-denied : (I : Past → Type 0) (s : Sight) (g : List Grant) (m : ByteMap) (queue : QueueId) (domain : DomainId) (kind : Kind) (skip count : ℕ) (ps : List Piece) (d : DeniedAsk) → ((p : Past) → I p → With g p)
    → is_of_domain queue domain ≡ true → is_read_or_write kind ≡ true → Sees s g m → first_denied s (list_asks queue domain kind skip count ps) ≡ Some d → Judges I (local_denial d ∷ [])
local-denied I s g m queue domain kind skip count ps d with own kinds sees is = λ p at. both-true (is_judged p (local_denial d)) true
    (both-true (is_of_domain d.ask.queue d.ask.domain && is_read_or_write d.ask.kind) _
    (both-true (is_of_domain d.ask.queue d.ask.domain) (is_read_or_write d.ask.kind) ((λ i. is_of_domain (found.0.1 i) (found.0.2 i)) ∙ own) (ap is_read_or_write found.0.3 ∙ kinds))
    (right-denied _ d.denial (ap (λ gs. denial_of (local_ask d.ask.queue d.ask.domain d.ask.key d.ask.kind d.ask.address d.ask.length) gs) (with p at) ∙ ap (λ a. denial_of a g) found.0.0 ∙ found.1))) refl
  where
    found : IsLocalAsk queue domain kind d.ask × (denial_of d.ask g ≡ Some d.denial)
    found = one-denied s g m (IsLocalAsk queue domain kind) (list_asks queue domain kind skip count ps) d sees (pieces-local queue domain kind (cut_list skip count ps)) is

same-sizes : (n : ℕ) → (nat_le n n && ((n == 0) || nat_lt 0 n)) ≡ true
same-sizes n = grind (arith, nat_tests)

-- as many bytes as are judged
whole-size : (ask : Ask) (bytes : List ℕ) → length bytes ≡ ask.length → is_fitting_size ask bytes ≡ true
whole-size ask bytes same = ap (λ n. nat_le n ask.length && ((ask.length == 0) || nat_lt 0 n)) same ∙ same-sizes ask.length

sum-more : (p : Piece) (ps : List Piece) → sum_by (λ p. p.length) (p ∷ ps) ≡ p.length + sum_by (λ p. p.length) ps
sum-more p ps = sum_by-cons (λ (p : Piece). p.length) p ps

-- bytes that are written by pieces of a list
pieces-written : (g : List Grant) (queue : QueueId) (domain : DomainId) (ps : List Piece) (bytes : List ℕ) → is_of_domain queue domain ≡ true → sum_by (λ p. p.length) ps ≤ length bytes
    → AllByRecursion (λ a. denial_of a g ≡ None) (map (piece_ask queue domain kinds.Write) ps) → Judges (With g) (local_writes (writes_by (map (piece_ask queue domain kinds.Write) ps) bytes))
pieces-written g queue domain [] bytes own most all = λ p at. refl
pieces-written g queue domain (x ∷ ps) bytes own most all = λ p at. both-true (is_judged p (mark x)) _
    (both-true (is_of_domain queue domain && true) _ (ap (λ b. b && true) own)
    (both-true (is_none (denial_of (ask x) p.grants) && true) (is_fitting_size (ask x) (take x.length bytes)) (ap (λ o. is_none o && true) (ap (denial_of (ask x)) at ∙ all.0))
    (whole-size (ask x) (take x.length bytes) (length-take-le x.length bytes (omega (arith, most, sum-more x ps))))))
    (pieces-written g queue domain ps (drop x.length bytes) own (omega (arith, most, length-drop x.length bytes, sum-more x ps)) all.1 (after_mark (mark x) p) at)
  where
    ask : Piece → Ask
    ask x = piece_ask queue domain kinds.Write x

    mark : Piece → Mark
    mark x = marks.Local queue domain x.key kinds.Write x.address x.length (verdicts.Wrote (take x.length bytes))

pub list-written : (g : List Grant) (queue : QueueId) (domain : DomainId) (skip : ℕ) (ps : List Piece) (bytes : List ℕ) → is_of_domain queue domain ≡ true
    → AllByRecursion (λ a. denial_of a g ≡ None) (list_asks queue domain kinds.Write skip (length bytes) ps) → Judges (With g) (local_writes (writes_by (list_asks queue domain kinds.Write skip (length bytes) ps) bytes))
list-written g queue domain skip ps bytes own all = pieces-written g queue domain (cut_list skip (length bytes) ps) bytes own (cut-most skip (length bytes) ps) all

pub written-keeps : (g : List Grant) (queue : QueueId) (domain : DomainId) (kind : Kind) (ps : List Piece) (bytes : List ℕ) (p : Past) → With g p → With g (after_marks (local_writes (writes_by (map (piece_ask queue domain kind) ps) bytes)) p)
written-keeps g queue domain kind [] bytes p at = at
written-keeps g queue domain kind (x ∷ ps) bytes p at = written-keeps g queue domain kind ps (drop x.length bytes) _ at

pub bytes-refl : (bs : List ℕ) → bytes_eq bs bs ≡ true
bytes-refl [] = refl
bytes-refl (b ∷ bs) = both-true (b == b) (bytes_eq bs bs) (eq-eqb b b refl) (bytes-refl bs)

-- what an access reads where it is allowed: what memory holds at all that it touches
pub read-right : (g : List Grant) (m : ByteMap) (ask : Ask) (touch : ℕ) (bytes : List ℕ) (p : Past) → AreWhole g → At g m p → denial_of ask g ≡ None → touch ≤ ask.length
    → ((ask.length == 0) || nat_lt 0 touch) ≡ true → bytes ≡ bytes_at m (runs_for ask g touch)
    → (is_fitting_size ask bytes ≡ true) × (bytes_eq bytes (held p ask (length bytes)) ≡ true)
read-right g m ask touch bytes p whole at allowed few some is = (
  ap (λ n. nat_le n ask.length && ((ask.length == 0) || nat_lt 0 n)) count ∙ both-true (nat_le touch ask.length) _ (fewer touch ask.length few) some,
  ap (bytes_eq bytes) (sym (is ∙ same)) ∙ bytes-refl bytes,
)
  where
    count : length bytes ≡ touch
    count = ap length is ∙ bytes-count m (runs_for ask g touch) ∙ reached g ask touch whole allowed few

    fewer : (a b : ℕ) → a ≤ b → nat_le a b ≡ true
    fewer a b few = grind (arith, nat_tests)

    same : bytes_at m (runs_for ask g touch) ≡ held p ask (length bytes)
    same = λ i. bytes_at (sym at.memory i) (runs_for ask (sym at.grants i) (sym count i))

-- pieces of a list that are read
pub list-read : (s : Sight) (g : List Grant) (m : ByteMap) (queue : QueueId) (domain : DomainId) (ps : List Piece) → is_of_domain queue domain ≡ true → Sees s g m
    → AllByRecursion (λ a. denial_of a g ≡ None) (map (piece_ask queue domain kinds.Read) ps) → Judges (At g m) (local_reads (map (piece_ask queue domain kinds.Read) ps) (map (bytes_in s) (map (piece_ask queue domain kinds.Read) ps)))
list-read s g m queue domain [] own sees all = λ p at. refl
list-read s g m queue domain (x ∷ ps) own sees all = λ p at. both-true (is_judged p mark) _
    (both-true (is_of_domain queue domain && true) _ (ap (λ b. b && true) own)
    (both-true ((is_none (denial_of ask p.grants) && true) && is_fitting_size ask bytes) _
    (both-true (is_none (denial_of ask p.grants) && true) (is_fitting_size ask bytes) (ap (λ o. is_none o && true) (ap (denial_of ask) at.grants ∙ all.0)) (right p at).0) (right p at).1))
    (list-read s g m queue domain ps own sees all.1 (after_mark mark p) (record { grants = at.grants; memory = at.memory }))
  where
    ask : Ask
    ask = piece_ask queue domain kinds.Read x

    bytes : List ℕ
    bytes = bytes_in s ask

    mark : Mark
    mark = marks.Local queue domain x.key kinds.Read x.address x.length (verdicts.Read bytes)

    right : (p : Past) → At g m p → (is_fitting_size ask bytes ≡ true) × (bytes_eq bytes (held p ask (length bytes)) ≡ true)
    right p at = read-right g m ask x.length bytes p sees.whole at all.0 (omega arith) (some x.length) (seen-bytes s g m ask sees)
      where
        some : (n : ℕ) → ((n == 0) || nat_lt 0 n) ≡ true
        some n = grind (arith, nat_tests)

-- how many bytes an ask touches decides nothing of its denial
touch-denial : (ask : Ask) (touch : ℕ) (g : List Grant) → denial_of (record ask { touch = touch }) g ≡ denial_of ask g
touch-denial ask touch g = ap (λ o. if ask.length == 0 then None else denial_under (record ask { touch = touch }) o) (touch-alike ask touch g) ∙ ap (λ (o : Option Denial). if ask.length == 0 then None else o) (by (grant_for ask g))
  where
    by : (o : Option Grant) → denial_under (record ask { touch = touch }) o ≡ denial_under ask o
    by None = refl
    by (Some x) = refl

-- an ask by an R_Key that is denied
pub remote-denied : (I : Past → Type 0) (s : Sight) (g : List Grant) (m : ByteMap) (queue : QueueId) (domain : DomainId) (key : Key) (kind : Kind) (address count touch : ℕ) (none : Bool) (envelope : Option ℕ) (d : DeniedAsk)
    → ((p : Past) → I p → With g p) → is_of_domain queue domain ≡ true → Sees s g m
    → first_denied s (if none then [] else record (remote_ask queue domain key kind address count) { touch = touch } ∷ []) ≡ Some d
    → Judges I (remote_mark d.ask envelope (verdicts.Denied d.denial) ∷ [])
remote-denied I s g m queue domain key kind address count touch true envelope d with own sees is = absurd (true≢false (sym (ap is_some is)))
remote-denied I s g m queue domain key kind address count touch false envelope d with own sees is = λ p at. both-true (is_judged p (remote_mark d.ask envelope (verdicts.Denied d.denial))) true
    (both-true (is_of_domain d.ask.queue d.ask.domain) _ (ap (λ (a : Ask). is_of_domain a.queue a.domain) (sym found.0) ∙ own)
    (right-denied _ d.denial (ap (λ gs. denial_of (remote_ask d.ask.queue d.ask.domain d.ask.key d.ask.kind d.ask.address d.ask.length) gs) (with p at)
    ∙ ap (λ (a : Ask). denial_of (remote_ask a.queue a.domain a.key a.kind a.address a.length) g) (sym found.0)
    ∙ sym (touch-denial (remote_ask queue domain key kind address count) touch g) ∙ ap (λ a. denial_of a g) found.0 ∙ found.1))) refl
  where
    ask : Ask
    ask = record (remote_ask queue domain key kind address count) { touch = touch }

    found : (ask ≡ d.ask) × (denial_of d.ask g ≡ Some d.denial)
    found = one-denied s g m (λ a. ask ≡ a) (ask ∷ []) d sees (refl, record {}) is

pub remote-allowed : (s : Sight) (g : List Grant) (m : ByteMap) (queue : QueueId) (domain : DomainId) (key : Key) (kind : Kind) (address count touch : ℕ) → Sees s g m
    → first_denied s (if count == 0 then [] else record (remote_ask queue domain key kind address count) { touch = touch } ∷ []) ≡ None
    → denial_of (remote_ask queue domain key kind address count) g ≡ None
remote-allowed s g m queue domain key kind address count touch sees is = by (count == 0) refl is
  where
    by : (b : Bool) → (count == 0) ≡ b → first_denied s (if b then [] else record (remote_ask queue domain key kind address count) { touch = touch } ∷ []) ≡ None
        → denial_of (remote_ask queue domain key kind address count) g ≡ None
    by true e is = ap (λ b. if b then None else denial_under (remote_ask queue domain key kind address count) (grant_for (remote_ask queue domain key kind address count) g)) e
    by false e is = sym (touch-denial (remote_ask queue domain key kind address count) touch g)
        ∙ (none-denied s g m (record (remote_ask queue domain key kind address count) { touch = touch } ∷ []) sees is).0

-- a row of whose marks each is judged
pub record RowJudged (s : Sight) (I : Past → Type 0) (row : Row) : Type 0 where
  pub denied : (d : DeniedAsk) → first_denied s row.asks ≡ Some d → EndingDoes (λ e. Judges I e.marks) (row.denied d)
  pub allowed : first_denied s row.asks ≡ None → (refusal : Option OpRefusal) → EndingDoes (λ e. Judges I e.marks) (row.allowed (map (bytes_in s) row.asks) refusal)

pub effects-judged : (I : Past → Type 0) (e : Effects) → IsPlainEffects e → Judges I e.marks
effects-judged I e plain = λ p at. plain-judged e.marks plain.marks p

pub plain-row : (s : Sight) (I : Past → Type 0) (e : Effects) → IsPlainEffects e → RowJudged s I (plain_row (Does e))
plain-row s I e plain = record { denied = λ d is. effects-judged I e plain; allowed = λ is refusal. effects-judged I e plain }

-- what is judged from more pasts on is judged from fewer
pub row-weaker : (s : Sight) (I J : Past → Type 0) (row : Row) → ((p : Past) → J p → I p) → RowJudged s I row → RowJudged s J row
row-weaker s I J row fewer judged = record { denied = λ d is. by (row.denied d) (judged.denied d is); allowed = λ is refusal. by (row.allowed (map (bytes_in s) row.asks) refusal) (judged.allowed is refusal) }
  where
    by : (e : Ending) → EndingDoes (λ e. Judges I e.marks) e → EndingDoes (λ e. Judges J e.marks) e
    by (NotPossible reason) does = record {}
    by (Does e) does = λ p at. does p (fewer p at)

-- an access of no bytes reads none
pub none-read : (g : List Grant) (m : ByteMap) (ask : Ask) → bytes_at m (runs_for ask g 0) ≡ []
none-read g m ask = by (grant_for ask g)
  where
    by : (o : Option Grant) → bytes_at m (option_map_or (λ h. runs_at h ask.address 0) o []) ≡ []
    by None = refl
    by (Some h) = ap (bytes_at m) (cut-none (ask.address - h.address) h.runs)
