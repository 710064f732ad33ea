-- What a past notes for good: who named whom, with which PSN lives begin, where packets were injected, and what was posted. For
-- proofs only.
use Rattle.std.proofs.Common.{◌≡◌, ℕ, zero, suc, ◌<◌, ◌⊎◌, inl, inr, ◌||◌, ◌++◌, Bool, true, false, if◌then◌else◌, length, List, [], ◌∷◌, Option, None, Some, is_some, slice_get, refl, ap, sym, subst, ◌∙◌, arith, true≢false}
use Rattle.std.proofs.lemmas.Bool.{and_parts}
use Rattle.std.specs.List.{list_all, list_any}
use Rattle.ca_base.specs.declared.change.Change.{Change}
use Rattle.ca_base.specs.declared.change.Change.TheVariants as changes
use Rattle.ca_base.specs.declared.correspondent.Correspondent.{Correspondent}
use Rattle.ca_keys.specs.Equal.{queue_eq}
use Rattle.ca_keys.specs.Numbers.{queue_of}
use Rattle.ca_keys.specs.declared.names.QueueId.{QueueId}
use Rattle.ca_law_world.proofs.Sound.SettledLemmas.{queue-path}
use Rattle.ca_model.specs.Entries.{EntryValue}
use Rattle.ca_model.specs.History.{ArePlain, IsPlain}
use Rattle.ca_model.specs.Past.{Naming, Past, Posted, Start, after_change, after_entries, after_entry, after_mark, after_marks, after_verb, at_begin, correspondent_eq, present_incarnation}
use Rattle.ca_model.specs.declared.answer.Answer.{Answer}
use Rattle.ca_model.specs.declared.answer.Answer.TheVariants as answers
use Rattle.ca_model.specs.declared.mark.Mark.{Mark}
use Rattle.ca_model.specs.declared.mark.Mark.TheVariants as marks
use Rattle.ca_model.specs.declared.verb.Verb.{Verb}
use Rattle.ca_model.specs.declared.verb.Verb.TheVariants as verbs
use Rattle.ca_law_once.proofs.Once.MailTolds.{correspondent-path}

-- ---- elements

-- an element of a list
abbrev pub Among : {A : Type 0} → A → List A → Type 0
Among x [] = ⊥
Among x (y ∷ ys) = (y ≡ x) ⊎ Among x ys

pub record Passes {A : Type 0} (test : A → Bool) (xs : List A) : Type 0 where
  pub one : A
  pub among : Among one xs
  pub is : test one ≡ true

pub any-passes : {A : Type 0} (test : A → Bool) (xs : List A) → list_any test xs ≡ true → Passes test xs
any-passes test [] is = absurd (true≢false (sym is))
any-passes test (x ∷ xs) is = by (test x) refl is (any-passes test xs)
  where
    by : (b : Bool) → test x ≡ b → (b || list_any test xs) ≡ true → (list_any test xs ≡ true → Passes test xs) → Passes test (x ∷ xs)
    by true e is rest = record { one = x; among = inl refl; is = e }
    by false e is rest = let later = rest is in record { one = later.one; among = inr later.among; is = later.is }

pub all-pass : {A : Type 0} (test : A → Bool) (xs : List A) (x : A) → list_all test xs ≡ true → Among x xs → test x ≡ true
all-pass test [] x all among = absurd among
all-pass test (y ∷ ys) x all (inl same) = ap test (sym same) ∙ (and_parts (test y) (list_all test ys) all).0
all-pass test (y ∷ ys) x all (inr later) = all-pass test ys x (and_parts (test y) (list_all test ys) all).1 later

pub none-passes : {A : Type 0} (test : A → Bool) (xs : List A) (x : A) → list_any test xs ≡ false → Among x xs → test x ≡ true → ⊥
none-passes test [] x none among is = among
none-passes test (y ∷ ys) x none among is = by (test y) refl none among (none-passes test ys x)
  where
    by : (b : Bool) → test y ≡ b → (b || list_any test ys) ≡ false → Among x (y ∷ ys) → (list_any test ys ≡ false → Among x ys → test x ≡ true → ⊥) → ⊥
    by true e none among rest = true≢false none
    by false e none (inl same) rest = true≢false (sym is ∙ ap test (sym same) ∙ e)
    by false e none (inr later) rest = rest none later is

-- ---- what is noted stays noted

pub record Grows (p r : Past) : Type 0 where
  pub namings : (x : Naming) → Among x p.namings → Among x r.namings
  pub starts : (x : Start) → Among x p.starts → Among x r.starts
  pub injected : (x : Correspondent) → Among x p.injected → Among x r.injected
  pub posted : (own : Correspondent) (k : ℕ) (x : Posted) → slice_get (p.posted own) k ≡ Some x → slice_get (r.posted own) k ≡ Some x

pub grows-same : (p : Past) → Grows p p
grows-same p = record { namings = λ x is. is; starts = λ x is. is; injected = λ x is. is; posted = λ own k x is. is }

pub grows-then : (p q r : Past) → Grows p q → Grows q r → Grows p r
grows-then p q r one other = record {
  namings = λ x is. other.namings x (one.namings x is);
  starts = λ x is. other.starts x (one.starts x is);
  injected = λ x is. other.injected x (one.injected x is);
  posted = λ own k x is. other.posted own k x (one.posted own k x is);
}

change-grows : (q : QueueId) (change : Change) (p : Past) → Grows p (after_change q change p)
change-grows q changes.Reset p = record { namings = λ x is. is; starts = λ x is. is; injected = λ x is. is; posted = λ own k x is. is }
change-grows q changes.Init p = record { namings = λ x is. is; starts = λ x is. is; injected = λ x is. is; posted = λ own k x is. is }
change-grows q (changes.Rtr peer incarnation psn mtu rnr_code) p = record { namings = λ x is. inr is; starts = λ x is. is; injected = λ x is. is; posted = λ own k x is. is }
change-grows q (changes.Rts psn retry rnr_retry reads) p = record { namings = λ x is. is; starts = λ x is. inr is; injected = λ x is. is; posted = λ own k x is. is }
change-grows q changes.Sqd p = record { namings = λ x is. is; starts = λ x is. is; injected = λ x is. is; posted = λ own k x is. is }
change-grows q changes.Resume p = record { namings = λ x is. is; starts = λ x is. is; injected = λ x is. is; posted = λ own k x is. is }
change-grows q changes.Error p = record { namings = λ x is. is; starts = λ x is. is; injected = λ x is. is; posted = λ own k x is. is }

append-get : {A : Type 0} (xs ys : List A) (k : ℕ) (x : A) → slice_get xs k ≡ Some x → slice_get (xs ++ ys) k ≡ Some x
append-get [] ys k x is = absurd (true≢false (sym (ap is_some is)))
append-get (y ∷ xs) ys zero x is = is
append-get (y ∷ xs) ys (suc k) x is = append-get xs ys k x is

pub last-get : {A : Type 0} (xs : List A) (x : A) → slice_get (xs ++ x ∷ []) (length xs) ≡ Some x
last-get [] x = refl
last-get (y ∷ xs) x = last-get xs x

-- a request that is posted
pub with-posted : (p : Past) (life own : Correspondent) (new x : Posted) (k : ℕ) → slice_get (p.posted own) k ≡ Some x
    → slice_get (if correspondent_eq life own then p.posted life ++ new ∷ [] else p.posted own) k ≡ Some x
with-posted p life own new x k is = by (correspondent_eq life own) refl
  where
    by : (b : Bool) → correspondent_eq life own ≡ b → slice_get (if b then p.posted life ++ new ∷ [] else p.posted own) k ≡ Some x
    by true e = append-get (p.posted life) (new ∷ []) k x (ap (λ y. slice_get (p.posted y) k) (correspondent-path life own e) ∙ is)
    by false e = is

verb-grows : (verb : Verb) (answer : Answer) (p : Past) → Grows p (after_verb verb answer p)
verb-grows (verbs.AllocPd domain) answer p = grows-same p
verb-grows (verbs.DeallocPd domain) answer p = grows-same p
verb-grows (verbs.RegMr slot buffer offset count rights) answer p = grows-same p
verb-grows (verbs.AllocMr slot pages) answer p = grows-same p
verb-grows (verbs.DeregMr slot) answer p = grows-same p
verb-grows (verbs.AllocMw slot kind) answer p = grows-same p
verb-grows (verbs.DeallocMw slot) answer p = grows-same p
verb-grows (verbs.CreateCq slot capacity) answers.Fine p = record { namings = λ x is. is; starts = λ x is. is; injected = λ x is. is; posted = λ own k x is. is }
verb-grows (verbs.CreateCq slot capacity) answer p = grows-same p
verb-grows (verbs.DestroyCq slot) answer p = grows-same p
verb-grows (verbs.CreateSrq slot depth) answers.Fine p = record { namings = λ x is. is; starts = λ x is. is; injected = λ x is. is; posted = λ own k x is. is }
verb-grows (verbs.CreateSrq slot depth) answer p = grows-same p
verb-grows (verbs.DestroySrq slot) answer p = grows-same p
verb-grows (verbs.CreateQp slot send_cq recv_cq send_depth recv_depth srq) (answers.Queue number incarnation) p = record { namings = λ x is. is; starts = λ x is. is; injected = λ x is. is; posted = λ own k x is. is }
verb-grows (verbs.CreateQp slot send_cq recv_cq send_depth recv_depth srq) answer p = grows-same p
verb-grows (verbs.ModifyQp slot change) answers.Fine p = change-grows (queue_of slot) change p
verb-grows (verbs.ModifyQp slot change) answer p = grows-same p
verb-grows (verbs.QueryQp slot) answer p = grows-same p
verb-grows (verbs.DestroyQp slot) answers.Fine p = record { namings = λ x is. is; starts = λ x is. is; injected = λ x is. is; posted = λ own k x is. is }
verb-grows (verbs.DestroyQp slot) answer p = grows-same p
verb-grows (verbs.PostSend slot request) (answers.Posted key) p = record {
  namings = λ x is. is;
  starts = λ x is. is;
  injected = λ x is. is;
  posted = λ own k x is. with-posted p (present_incarnation p (queue_of slot)) own _ x k is;
}
verb-grows (verbs.PostSend slot request) answer p = grows-same p
verb-grows (verbs.PostRecv slot request) (answers.Posted key) p = record { namings = λ x is. is; starts = λ x is. is; injected = λ x is. is; posted = λ own k x is. is }
verb-grows (verbs.PostRecv slot request) answer p = grows-same p
verb-grows (verbs.PostSrq slot request) (answers.Posted key) p = record { namings = λ x is. is; starts = λ x is. is; injected = λ x is. is; posted = λ own k x is. is }
verb-grows (verbs.PostSrq slot request) answer p = grows-same p
verb-grows (verbs.Poll slot count least) (answers.Polled completions) p = record { namings = λ x is. is; starts = λ x is. is; injected = λ x is. is; posted = λ own k x is. is }
verb-grows (verbs.Poll slot count least) answer p = grows-same p
verb-grows (verbs.Store adapter buffer offset bytes) answer p = grows-same p
verb-grows (verbs.Load adapter buffer offset count) answer p = grows-same p
verb-grows (verbs.Inject queue bytes) answers.Fine p = record { namings = λ x is. is; starts = λ x is. is; injected = λ x is. inr is; posted = λ own k x is. is }
verb-grows (verbs.Inject queue bytes) answer p = grows-same p

-- a mark that is no answer notes nothing
pub record SameNotes (p r : Past) : Type 0 where
  pub namings : r.namings ≡ p.namings
  pub starts : r.starts ≡ p.starts
  pub injected : r.injected ≡ p.injected
  pub posted : r.posted ≡ p.posted

pub plain-one : (m : Mark) (p : Past) → IsPlain m → SameNotes p (after_mark m p)
plain-one (marks.Verb by verb answer) p plain = absurd plain
plain-one (marks.Granted g) p plain = record { namings = refl; starts = refl; injected = refl; posted = refl }
plain-one (marks.Revoked adapter key) p plain = record { namings = refl; starts = refl; injected = refl; posted = refl }
plain-one (marks.Remote queue domain envelope key kind address count verdict) p plain = record { namings = refl; starts = refl; injected = refl; posted = refl }
plain-one (marks.Local queue domain key kind address count verdict) p plain = record { namings = refl; starts = refl; injected = refl; posted = refl }
plain-one (marks.Stored place bytes) p plain = record { namings = refl; starts = refl; injected = refl; posted = refl }
plain-one (marks.Sent source target index request bytes) p plain = record { namings = refl; starts = refl; injected = refl; posted = refl }
plain-one (marks.Lost target None) p plain = record { namings = refl; starts = refl; injected = refl; posted = refl }
plain-one (marks.Lost target (Some index)) p plain = record { namings = refl; starts = refl; injected = refl; posted = refl }
plain-one (marks.Arrived target index) p plain = record { namings = refl; starts = refl; injected = refl; posted = refl }
plain-one (marks.Dropped target cause) p plain = record { namings = refl; starts = refl; injected = refl; posted = refl }
plain-one (marks.Timer queue silent) p plain = record { namings = refl; starts = refl; injected = refl; posted = refl }
plain-one (marks.Done queue x cause) p plain = record { namings = refl; starts = refl; injected = refl; posted = refl }

notes-grow : (p r : Past) → SameNotes p r → Grows p r
notes-grow p r same = record {
  namings = λ x is. subst (Among x) (sym same.namings) is;
  starts = λ x is. subst (Among x) (sym same.starts) is;
  injected = λ x is. subst (Among x) (sym same.injected) is;
  posted = λ own k x is. ap (λ (f : Correspondent → List Posted). slice_get (f own) k) same.posted ∙ is;
}

pub plain-notes : (ms : List Mark) (p : Past) → ArePlain ms → SameNotes p (after_marks ms p)
plain-notes [] p plain = record { namings = refl; starts = refl; injected = refl; posted = refl }
plain-notes (m ∷ ms) p plain = let one = plain-one m p plain.0 in let rest = plain-notes ms (after_mark m p) plain.1 in record {
  namings = rest.namings ∙ one.namings;
  starts = rest.starts ∙ one.starts;
  injected = rest.injected ∙ one.injected;
  posted = rest.posted ∙ one.posted;
}

mark-grows : (m : Mark) (p : Past) → Grows p (after_mark m p)
mark-grows (marks.Verb by verb answer) p = record { namings = one.namings; starts = one.starts; injected = one.injected; posted = one.posted }
  where
    q : Past
    q = record p { at_hand = record p.at_hand { answered = Some (record { verb = verb; answer = answer }) } }

    one : Grows q (after_verb verb answer q)
    one = verb-grows verb answer q
mark-grows (marks.Granted g) p = notes-grow p (after_mark (marks.Granted g) p) (plain-one (marks.Granted g) p (record {}))
mark-grows (marks.Revoked adapter key) p = notes-grow p (after_mark (marks.Revoked adapter key) p) (plain-one (marks.Revoked adapter key) p (record {}))
mark-grows (marks.Remote queue domain envelope key kind address count verdict) p = notes-grow p (after_mark (marks.Remote queue domain envelope key kind address count verdict) p) (plain-one (marks.Remote queue domain envelope key kind address count verdict) p (record {}))
mark-grows (marks.Local queue domain key kind address count verdict) p = notes-grow p (after_mark (marks.Local queue domain key kind address count verdict) p) (plain-one (marks.Local queue domain key kind address count verdict) p (record {}))
mark-grows (marks.Stored place bytes) p = notes-grow p (after_mark (marks.Stored place bytes) p) (plain-one (marks.Stored place bytes) p (record {}))
mark-grows (marks.Sent source target index request bytes) p = notes-grow p (after_mark (marks.Sent source target index request bytes) p) (plain-one (marks.Sent source target index request bytes) p (record {}))
mark-grows (marks.Lost target index) p = notes-grow p (after_mark (marks.Lost target index) p) (plain-one (marks.Lost target index) p (record {}))
mark-grows (marks.Arrived target index) p = notes-grow p (after_mark (marks.Arrived target index) p) (plain-one (marks.Arrived target index) p (record {}))
mark-grows (marks.Dropped target cause) p = notes-grow p (after_mark (marks.Dropped target cause) p) (plain-one (marks.Dropped target cause) p (record {}))
mark-grows (marks.Timer queue silent) p = notes-grow p (after_mark (marks.Timer queue silent) p) (plain-one (marks.Timer queue silent) p (record {}))
mark-grows (marks.Done queue x cause) p = record { namings = λ x is. is; starts = λ x is. is; injected = λ x is. is; posted = λ own k x is. is }

pub marks-grow : (ms : List Mark) (p : Past) → Grows p (after_marks ms p)
marks-grow [] p = grows-same p
marks-grow (m ∷ ms) p = grows-then p (after_mark m p) (after_marks ms (after_mark m p)) (mark-grows m p) (marks-grow ms (after_mark m p))

pub entry-grows : (e : EntryValue) (p : Past) → Grows p (after_entry e p)
entry-grows e p = let one = marks-grow e.marks (at_begin e.event p) in record { namings = one.namings; starts = one.starts; injected = one.injected; posted = one.posted }

pub entries-grow : (es : List EntryValue) (p : Past) → Grows p (after_entries es p)
entries-grow [] p = grows-same p
entries-grow (e ∷ es) p = grows-then p (after_entry e p) (after_entries es (after_entry e p)) (entry-grows e p) (entries-grow es (after_entry e p))

-- ---- lives

-- the verb destroyed this queue pair
abbrev pub Destroys : QueueId → Verb → Answer → Type 0
Destroys n (verbs.DestroyQp slot) answers.Fine = queue_of slot ≡ n
Destroys n verb answer = ⊥

-- A later life comes; or the life and a peer that it has named stay; or it was destroyed.
pub data VerbLife (n : QueueId) (destroyed : Type 0) (p r : Past) : Type 0 where
  later : p.incarnation n < r.incarnation n → r.posted ≡ p.posted → VerbLife n destroyed p r
  stays : r.incarnation n ≡ p.incarnation n → (is_some (p.naming n) ≡ true → is_some (r.naming n) ≡ true) → VerbLife n destroyed p r
  ends : r.incarnation n ≡ p.incarnation n → destroyed → VerbLife n destroyed p r

change-life : (n q : QueueId) (change : Change) (p : Past) → VerbLife n ⊥ p (after_change q change p)
change-life n q changes.Reset p = by (queue_eq q n) refl
  where
    by : (b : Bool) → queue_eq q n ≡ b → VerbLife n ⊥ p (after_change q changes.Reset p)
    by true is = later (omega (arith, ap (λ b. if b then suc (p.incarnation q) else p.incarnation n) is, ap p.incarnation (queue-path q n is))) refl
    by false is = stays (ap (λ b. if b then suc (p.incarnation q) else p.incarnation n) is) (λ some. ap is_some (ap naming is) ∙ some)
      where
        naming : Bool → Option Naming
        naming b = if b then None else (if b then None else p.naming n)
change-life n q changes.Init p = stays refl (λ some. some)
change-life n q (changes.Rtr peer incarnation psn mtu rnr_code) p = stays refl (by (queue_eq q n))
  where
    named : Naming
    named = record { own = present_incarnation p q; peer = record { queue = peer; incarnation = incarnation }; psn = psn; mtu = mtu }

    by : (b : Bool) → is_some (p.naming n) ≡ true → is_some (if b then Some named else p.naming n) ≡ true
    by true some = refl
    by false some = some
change-life n q (changes.Rts psn retry rnr_retry reads) p = stays refl (λ some. some)
change-life n q changes.Sqd p = stays refl (λ some. some)
change-life n q changes.Resume p = stays refl (λ some. some)
change-life n q changes.Error p = stays refl (λ some. some)

life-as : (n : QueueId) (destroyed : Type 0) (p r : Past) → VerbLife n ⊥ p r → VerbLife n destroyed p r
life-as n destroyed p r (later more posted) = later more posted
life-as n destroyed p r (stays same some) = stays same some
life-as n destroyed p r (ends same none) = absurd none

pub verb-life : (n : QueueId) (verb : Verb) (answer : Answer) (p : Past) → VerbLife n (Destroys n verb answer) p (after_verb verb answer p)
verb-life n (verbs.AllocPd domain) answer p = stays refl (λ some. some)
verb-life n (verbs.DeallocPd domain) answer p = stays refl (λ some. some)
verb-life n (verbs.RegMr slot buffer offset count rights) answer p = stays refl (λ some. some)
verb-life n (verbs.AllocMr slot pages) answer p = stays refl (λ some. some)
verb-life n (verbs.DeregMr slot) answer p = stays refl (λ some. some)
verb-life n (verbs.AllocMw slot kind) answer p = stays refl (λ some. some)
verb-life n (verbs.DeallocMw slot) answer p = stays refl (λ some. some)
verb-life n (verbs.CreateCq slot capacity) answers.Fine p = stays refl (λ some. some)
verb-life n (verbs.CreateCq slot capacity) answer p = stays refl (λ some. some)
verb-life n (verbs.DestroyCq slot) answer p = stays refl (λ some. some)
verb-life n (verbs.CreateSrq slot depth) answers.Fine p = stays refl (λ some. some)
verb-life n (verbs.CreateSrq slot depth) answer p = stays refl (λ some. some)
verb-life n (verbs.DestroySrq slot) answer p = stays refl (λ some. some)
verb-life n (verbs.CreateQp slot send_cq recv_cq send_depth recv_depth srq) (answers.Queue number incarnation) p = by (queue_eq (queue_of slot) n) refl
  where
    q : QueueId
    q = queue_of slot

    by : (b : Bool) → queue_eq q n ≡ b → VerbLife n ⊥ p (after_verb (verbs.CreateQp slot send_cq recv_cq send_depth recv_depth srq) (answers.Queue number incarnation) p)
    by true is = later (omega (arith, ap (λ b. if b then suc (p.incarnation q) else p.incarnation n) is, ap p.incarnation (queue-path q n is))) refl
    by false is = stays (ap (λ b. if b then suc (p.incarnation q) else p.incarnation n) is) (λ some. ap is_some (ap naming is) ∙ some)
      where
        naming : Bool → Option Naming
        naming b = if b then None else p.naming n
verb-life n (verbs.CreateQp slot send_cq recv_cq send_depth recv_depth srq) answer p = stays refl (λ some. some)
verb-life n (verbs.ModifyQp slot change) answers.Fine p = change-life n (queue_of slot) change p
verb-life n (verbs.ModifyQp slot change) answer p = stays refl (λ some. some)
verb-life n (verbs.QueryQp slot) answer p = stays refl (λ some. some)
verb-life n (verbs.DestroyQp slot) answers.Fine p = by (queue_eq (queue_of slot) n) refl
  where
    q : QueueId
    q = queue_of slot

    by : (b : Bool) → queue_eq q n ≡ b → VerbLife n (q ≡ n) p (after_verb (verbs.DestroyQp slot) answers.Fine p)
    by true is = ends refl (queue-path q n is)
    by false is = stays refl (λ some. ap is_some (ap naming is) ∙ some)
      where
        naming : Bool → Option Naming
        naming b = if b then None else p.naming n
verb-life n (verbs.DestroyQp slot) answer p = stays refl (λ some. some)
verb-life n (verbs.PostSend slot request) (answers.Posted key) p = stays refl (λ some. some)
verb-life n (verbs.PostSend slot request) answer p = stays refl (λ some. some)
verb-life n (verbs.PostRecv slot request) (answers.Posted key) p = stays refl (λ some. some)
verb-life n (verbs.PostRecv slot request) answer p = stays refl (λ some. some)
verb-life n (verbs.PostSrq slot request) (answers.Posted key) p = stays refl (λ some. some)
verb-life n (verbs.PostSrq slot request) answer p = stays refl (λ some. some)
verb-life n (verbs.Poll slot count least) (answers.Polled completions) p = stays refl (λ some. some)
verb-life n (verbs.Poll slot count least) answer p = stays refl (λ some. some)
verb-life n (verbs.Store adapter buffer offset bytes) answer p = stays refl (λ some. some)
verb-life n (verbs.Load adapter buffer offset count) answer p = stays refl (λ some. some)
verb-life n (verbs.Inject queue bytes) answers.Fine p = stays refl (λ some. some)
verb-life n (verbs.Inject queue bytes) answer p = stays refl (λ some. some)
