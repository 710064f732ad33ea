-- What marks leave of remote accesses in progress, and what it is that effects carry. For proofs only.
use Rattle.std.proofs.Common.{Bool, List, None, Option, Some, [], ap, eqb-true, false, if◌then◌else◌, refl, subst, sym, true, ℕ, ◌&&◌, ◌++◌, ◌==◌, ◌||◌, ◌∙◌, ◌∷◌, ◌≡◌}
use Rattle.std.proofs.lemmas.Bool.{and_parts}
use Rattle.std.specs.List.{AllByRecursion, list_any}
use Rattle.std.specs.Option.{option_map_or}
use Rattle.ca_law_endings.proofs.PathChangeLemmas.{at-place}
use Rattle.ca_law_carried.proofs.Accesses.QuietLemmas.{AreUnheard, IsQuiet, IsUnheardMark}
use Rattle.ca_law_carried.specs.Accesses.{GoesOn, IsAsked}
use Rattle.ca_law_carried.specs.Asked.{has_its_packet, has_its_request}
use Rattle.ca_base.specs.declared.correspondent.Correspondent.{Correspondent}
use Rattle.ca_base.specs.objects.QueuePair.{QueuePair}
use Rattle.ca_law_keys.proofs.Judged.JudgeLemmas.{both-true}
use Rattle.ca_keys.specs.Equal.{queue_eq}
use Rattle.ca_keys.specs.declared.access.Ask.{Ask}
use Rattle.ca_keys.specs.declared.names.QueueId.{QueueId}
use Rattle.ca_keys.specs.declared.verdict.Verdict.{Verdict}
use Rattle.ca_law_world.proofs.Sound.SettledLemmas.{queue-path}
use Rattle.ca_model.specs.Past.{LatestWrite, Past, ReadRequest, after_mark, after_marks, after_remote, correspondent_eq, each_mark, latest_write_after, packet_at, present_incarnation, read_request_of, with_at}
use Rattle.ca_model.specs.declared.mark.Mark.{Mark}
use Rattle.ca_model.specs.machine.Row.{Effects}
use Rattle.ca_model.specs.declared.mark.Mark.TheVariants as marks

-- each remote access has its packet or its request
abbrev pub is_accessed : Past → Mark → Bool
is_accessed past m = has_its_packet past m && has_its_request past m

-- what marks leave of the latest write of a queue pair, and of what no access changes; requests are not forgotten
pub record Leaves (name : QueueId) (latest : Option LatestWrite) (p r : Past) : Type 0 where
  pub incarnation : r.incarnation ≡ p.incarnation
  pub naming : r.naming ≡ p.naming
  pub own : r.latest_write name ≡ latest
  pub others : (n : QueueId) → queue_eq name n ≡ false → r.latest_write n ≡ p.latest_write n
  pub requests : (l : Correspondent) (test : ReadRequest → Bool) → list_any test (p.read_requests l) ≡ true → list_any test (r.read_requests l) ≡ true

pub leaves-then : (name : QueueId) (a b : Option LatestWrite) (p r s : Past) → Leaves name a p r → Leaves name b r s → Leaves name b p s
leaves-then name a b p r s one other = record {
  incarnation = other.incarnation ∙ one.incarnation;
  naming = other.naming ∙ one.naming;
  own = other.own;
  others = λ n e. other.others n e ∙ one.others n e;
  requests = λ l test any. other.requests l test (one.requests l test any);
}

life-path : (a b : Correspondent) → correspondent_eq a b ≡ true → a ≡ b
life-path a b same = λ i. record { queue = queue-path a.queue b.queue parts.0 i; incarnation = eqb-true a.incarnation b.incarnation parts.1 i }
  where
    parts : (queue_eq a.queue b.queue ≡ true) × ((a.incarnation == b.incarnation) ≡ true)
    parts = and_parts (queue_eq a.queue b.queue) (a.incarnation == b.incarnation) same

any-more : (test : ReadRequest → Bool) (xs ys : List ReadRequest) → list_any test ys ≡ true → list_any test (xs ++ ys) ≡ true
any-more test [] ys any = any
any-more test (x ∷ xs) ys any = by (test x) (any-more test xs ys any)
  where
    by : (b : Bool) → list_any test (xs ++ ys) ≡ true → (b || list_any test (xs ++ ys)) ≡ true
    by true rest = refl
    by false rest = rest

-- a mark of no remote access
unheard-one : (name : QueueId) (latest : Option LatestWrite) (m : Mark) → IsUnheardMark m → (p : Past) → p.latest_write name ≡ latest → Leaves name latest p (after_mark m p)
unheard-one name latest (marks.Verb by verb answer) unheard p own = absurd unheard
unheard-one name latest (marks.Remote queue domain envelope key kind address count verdict) unheard p own = absurd unheard
unheard-one name latest (marks.Granted g) unheard p own = record { incarnation = refl; naming = refl; own = own; others = λ n e. refl; requests = λ l test any. any }
unheard-one name latest (marks.Revoked adapter key) unheard p own = record { incarnation = refl; naming = refl; own = own; others = λ n e. refl; requests = λ l test any. any }
unheard-one name latest (marks.Local queue domain key kind address count verdict) unheard p own = record { incarnation = refl; naming = refl; own = own; others = λ n e. refl; requests = λ l test any. any }
unheard-one name latest (marks.Stored place bytes) unheard p own = record { incarnation = refl; naming = refl; own = own; others = λ n e. refl; requests = λ l test any. any }
unheard-one name latest (marks.Sent source target index request bytes) unheard p own = record { incarnation = refl; naming = refl; own = own; others = λ n e. refl; requests = λ l test any. any }
unheard-one name latest (marks.Lost target None) unheard p own = record { incarnation = refl; naming = refl; own = own; others = λ n e. refl; requests = λ l test any. any }
unheard-one name latest (marks.Lost target (Some index)) unheard p own = record { incarnation = refl; naming = refl; own = own; others = λ n e. refl; requests = λ l test any. any }
unheard-one name latest (marks.Arrived target index) unheard p own = record {
  incarnation = refl;
  naming = refl;
  own = own;
  others = λ n e. refl;
  requests = λ l test any. at l test any (correspondent_eq (present_incarnation p target) l) refl;
}
  where
    new : List ReadRequest
    new = option_map_or (read_request_of index) (packet_at p target index) []

    at : (l : Correspondent) (test : ReadRequest → Bool) → list_any test (p.read_requests l) ≡ true → (b : Bool) → correspondent_eq (present_incarnation p target) l ≡ b
        → list_any test (if b then new ++ p.read_requests (present_incarnation p target) else p.read_requests l) ≡ true
    at l test any true e = any-more test new (p.read_requests (present_incarnation p target))
        (subst (λ k. list_any test (p.read_requests k) ≡ true) (sym (life-path (present_incarnation p target) l e)) any)
    at l test any false e = any
unheard-one name latest (marks.Dropped target cause) unheard p own = record { incarnation = refl; naming = refl; own = own; others = λ n e. refl; requests = λ l test any. any }
unheard-one name latest (marks.Timer queue silent) unheard p own = record { incarnation = refl; naming = refl; own = own; others = λ n e. refl; requests = λ l test any. any }
unheard-one name latest (marks.Done queue x cause) unheard p own = record { incarnation = refl; naming = refl; own = own; others = λ n e. refl; requests = λ l test any. any }

pub leaves-unheard : (name : QueueId) (latest : Option LatestWrite) (ms : List Mark) → AreUnheard ms → (p : Past) → p.latest_write name ≡ latest → Leaves name latest p (after_marks ms p)
leaves-unheard name latest [] unheard p own = record { incarnation = refl; naming = refl; own = own; others = λ n e. refl; requests = λ l test any. any }
leaves-unheard name latest (m ∷ ms) unheard p own = leaves-then name latest latest p (after_mark m p) (after_marks ms (after_mark m p)) one (leaves-unheard name latest ms unheard.1 (after_mark m p) one.own)
  where
    one : Leaves name latest p (after_mark m p)
    one = unheard-one name latest m unheard.0 p own

passes-one : (m : Mark) → IsUnheardMark m → (p : Past) → is_accessed p m ≡ true
passes-one (marks.Verb by verb answer) unheard p = refl
passes-one (marks.Remote queue domain envelope key kind address count verdict) unheard p = absurd unheard
passes-one (marks.Granted g) unheard p = refl
passes-one (marks.Revoked adapter key) unheard p = refl
passes-one (marks.Local queue domain key kind address count verdict) unheard p = refl
passes-one (marks.Stored place bytes) unheard p = refl
passes-one (marks.Sent source target index request bytes) unheard p = refl
passes-one (marks.Lost target index) unheard p = refl
passes-one (marks.Arrived target index) unheard p = refl
passes-one (marks.Dropped target cause) unheard p = refl
passes-one (marks.Timer queue silent) unheard p = refl
passes-one (marks.Done queue x cause) unheard p = refl

-- marks of no remote access pass
pub passes-unheard : (ms : List Mark) → AreUnheard ms → (p : Past) → each_mark is_accessed p ms ≡ true
passes-unheard [] unheard p = refl
passes-unheard (m ∷ ms) unheard p = both-true (is_accessed p m) _ (passes-one m unheard.0 p) (passes-unheard ms unheard.1 (after_mark m p))

-- marks that pass, before marks of no remote access
pub passes-append : (ms ns : List Mark) (p : Past) → each_mark is_accessed p ms ≡ true → AreUnheard ns → each_mark is_accessed p (ms ++ ns) ≡ true
passes-append [] ns p one unheard = passes-unheard ns unheard p
passes-append (m ∷ ms) ns p one unheard = both-true (is_accessed p m) _ (and_parts (is_accessed p m) (each_mark is_accessed (after_mark m p) ms) one).0
    (passes-append ms ns (after_mark m p) (and_parts (is_accessed p m) (each_mark is_accessed (after_mark m p) ms) one).1 unheard)

-- what effects leave of remote accesses: their marks pass, and what the queue pair has in progress agrees with its latest
-- write and with these requests
pub record IsCarried (name : QueueId) (size : ℕ) (rs : List ReadRequest) (e : Effects) (p : Past) : Type 0 where
  pub latest : Option LatestWrite
  pub passes : each_mark is_accessed p e.marks ≡ true
  pub leaves : Leaves name latest p (after_marks e.marks p)
  pub mtu : e.queue.responder.mtu ≡ size
  pub write : GoesOn e.queue.responder.message latest
  pub reads : AllByRecursion (IsAsked size rs) e.queue.responder.answers

-- the same, from such pasts on
abbrev pub Carries : (Past → Type 0) → QueuePair → List ReadRequest → Effects → Type 0
Carries I q rs e = (p : Past) → I p → IsCarried q.queue q.responder.mtu rs e p

pub quiet-carries : (I : Past → Type 0) (q : QueuePair) (l : Option LatestWrite) (rs : List ReadRequest) (e : Effects) → ((p : Past) → I p → p.latest_write q.queue ≡ l) → GoesOn q.responder.message l
    → AllByRecursion (IsAsked q.responder.mtu rs) q.responder.answers → IsQuiet l rs q e → Carries I q rs e
quiet-carries I q l rs e with write reads quiet = λ p at. record {
  latest = l;
  passes = passes-unheard e.marks quiet.marks p;
  leaves = leaves-unheard q.queue l e.marks quiet.marks p (with p at);
  mtu = quiet.less.mtu;
  write = quiet.less.write write;
  reads = quiet.less.reads reads;
}

-- an access of a queue pair, and marks behind it
pub leaves-remote : (q : QueuePair) (ask : Ask) (envelope : Option ℕ) (verdict : Verdict) (l latest : Option LatestWrite) (ms : List Mark) (p : Past) → ask.queue ≡ q.queue → p.latest_write q.queue ≡ l
    → latest_write_after ask verdict l ≡ latest → AreUnheard ms
    → Leaves q.queue latest p (after_marks ms (after_remote ask envelope verdict p))
leaves-remote q ask envelope verdict l latest ms p same own is unheard = leaves-then q.queue latest latest p r (after_marks ms r) one (leaves-unheard q.queue latest ms unheard r one.own)
  where
    r : Past
    r = after_remote ask envelope verdict p

    told : latest_write_after ask verdict (p.latest_write ask.queue) ≡ latest
    told = ap (λ n. latest_write_after ask verdict (p.latest_write n)) same ∙ ap (latest_write_after ask verdict) own ∙ is

    one : Leaves q.queue latest p r
    one = record {
      incarnation = refl;
      naming = refl;
      own = ap (λ n. with_at queue_eq p.latest_write n (latest_write_after ask verdict (p.latest_write ask.queue)) q.queue) same
          ∙ at-place p.latest_write q.queue (latest_write_after ask verdict (p.latest_write ask.queue)) ∙ told;
      others = λ n e. ap (λ b. if b then latest_write_after ask verdict (p.latest_write ask.queue) else p.latest_write n) (ap (λ k. queue_eq k n) same ∙ e);
      requests = λ l test any. any;
    }
