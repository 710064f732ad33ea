-- Atomics that completed with success, by the marks of an event. For proofs only.
use Rattle.std.proofs.Common.{◌≡◌, ℕ, ◌+◌, ◌<◌, ◌≤◌, ◌⊎◌, inl, inr, ◌&&◌, ◌==◌, ◌++◌, arith, Bool, true, false, if◌then◌else◌, length, map, List, [], ◌∷◌, Option, None, Some, is_some, slice_get, refl, ap, ap₂, sym, subst, ◌∙◌, true≢false}
use Rattle.std.proofs.lemmas.List.{append-nil}
use Rattle.std.specs.Option.{option_map_or}
use Rattle.ca_law_keys.specs.Posts.{PostsAgree}
use Rattle.ca_law_endings.specs.Agreement.{PathsAgree}
use Rattle.ca_base.specs.declared.completion.Completion.{Completion}
use Rattle.ca_base.specs.declared.correspondent.Correspondent.{Correspondent}
use Rattle.ca_base.specs.declared.request.SendOp.{SendOp}
use Rattle.ca_base.specs.declared.request.SendOp.TheVariants as ops
use Rattle.ca_connection.specs.Layout.{Direction, is_atomic}
use Rattle.ca_connection.specs.Link.{Link}
use Rattle.ca_law_keys.proofs.Judged.JudgeLemmas.{bytes-refl}
use Rattle.ca_keys.specs.Equal.{queue_eq}
use Rattle.ca_keys.specs.Memory.{little_endian_bytes}
use Rattle.ca_keys.specs.declared.names.QueueId.{QueueId}
use Rattle.ca_keys.specs.declared.verdict.Verdict.TheVariants as verdicts
use Rattle.ca_law_world.proofs.Sound.SettledLemmas.{queue-refl}
use Rattle.ca_model.specs.History.{ArePlain, IsPlain}
use Rattle.ca_model.specs.Once.{is_found_alone}
use Rattle.ca_model.specs.Past.{Acted, AtomicDone, Past, Posted, Succeeded, acted_by, after_mark, after_marks, at_end, atomic_done, correspondent_eq, found_of, is_send_success, posted_at, present_incarnation}
use Rattle.ca_model.specs.Past.{is_atomic as is_atomic_operation}
use Rattle.ca_model.specs.Requests.{operation_of}
use Rattle.ca_model.specs.declared.mark.Mark.{Mark}
use Rattle.ca_model.specs.declared.mark.Mark.TheVariants as marks
use Rattle.ca_model.specs.machine.World.{World}
use Rattle.ca_law_once.proofs.Once.ActedLemmas.{found-is, numbers_of}
use Rattle.ca_law_once.proofs.Once.MarkLemmas.{SameLives, one-life}
use Rattle.ca_law_once.proofs.Once.NoteLemmas.{Among, Grows, SameNotes, marks-grow, plain-one}
use Rattle.ca_law_once.proofs.Once.VerbLemmas.{SameHand, verb-hand}
use Rattle.ca_law_once.specs.Connections.{work_posted}
use Rattle.ca_law_once.specs.Success.{AreFound, IsFoundAndPut, IsSuccess, bytes_put, put_by}
use Rattle.ca_law_once.specs.Links.{found_at}
use Rattle.ca_law_once.specs.Sides.{work_of}
use Rattle.ca_law_once.specs.Agrees.{IsInLife}

pub append-assoc : {A : Type 0} (xs ys zs : List A) → (xs ++ ys) ++ zs ≡ xs ++ (ys ++ zs)
append-assoc [] ys zs = refl
append-assoc (x ∷ xs) ys zs = ap (λ r. x ∷ r) (append-assoc xs ys zs)

pub append-length : {A : Type 0} (xs ys : List A) → length (xs ++ ys) ≡ length xs + length ys
append-length [] ys = omega arith
append-length (x ∷ xs) ys = omega (arith, append-length xs ys)

-- ---- what marks add

-- What a mark adds to what is at hand, and to the atomics that acted.
record Adds (m : Mark) (p r : Past) : Type 0 where
  put : r.at_hand.put_locally ≡ p.at_hand.put_locally ++ put_by m
  more : List Acted
  acted : r.acted ≡ more ++ p.acted
  succeeded : r.succeeded ≡ p.succeeded

adds-nothing : (m : Mark) (p r : Past) → put_by m ≡ [] → r.at_hand.put_locally ≡ p.at_hand.put_locally → r.acted ≡ p.acted → r.succeeded ≡ p.succeeded → Adds m p r
adds-nothing m p r none put acted succeeded = record { put = put ∙ sym (append-nil p.at_hand.put_locally) ∙ ap (λ xs. p.at_hand.put_locally ++ xs) (sym none); more = []; acted = acted; succeeded = succeeded }

mark-adds : (m : Mark) (p : Past) → Adds m p (after_mark m p)
mark-adds (marks.Verb by verb answer) p = adds-nothing (marks.Verb by verb answer) p (after_mark (marks.Verb by verb answer) p) refl (ap (λ h. h.put_locally) same.hand) same.acted same.succeeded
  where
    q : Past
    q = record p { at_hand = record p.at_hand { answered = Some (record { verb = verb; answer = answer }) } }

    same : SameHand q (after_mark (marks.Verb by verb answer) p)
    same = verb-hand verb answer q
mark-adds (marks.Granted g) p = adds-nothing (marks.Granted g) p _ refl refl refl refl
mark-adds (marks.Revoked adapter key) p = adds-nothing (marks.Revoked adapter key) p _ refl refl refl refl
mark-adds (marks.Remote queue domain envelope key kind address count (verdicts.Denied denial)) p = adds-nothing (marks.Remote queue domain envelope key kind address count (verdicts.Denied denial)) p _ refl refl refl refl
mark-adds (marks.Remote queue domain envelope key kind address count (verdicts.Read bytes)) p = adds-nothing (marks.Remote queue domain envelope key kind address count (verdicts.Read bytes)) p _ refl refl refl refl
mark-adds (marks.Remote queue domain envelope key kind address count (verdicts.Wrote bytes)) p = adds-nothing (marks.Remote queue domain envelope key kind address count (verdicts.Wrote bytes)) p _ refl refl refl refl
mark-adds (marks.Remote queue domain envelope key kind address count (verdicts.Swapped found put)) p = record { put = sym (append-nil p.at_hand.put_locally); more = acted_by p queue envelope found; acted = refl; succeeded = refl }
mark-adds (marks.Local queue domain key kind address count (verdicts.Denied denial)) p = record { put = refl; more = []; acted = refl; succeeded = refl }
mark-adds (marks.Local queue domain key kind address count (verdicts.Read bytes)) p = record { put = refl; more = []; acted = refl; succeeded = refl }
mark-adds (marks.Local queue domain key kind address count (verdicts.Wrote bytes)) p = record { put = refl; more = []; acted = refl; succeeded = refl }
mark-adds (marks.Local queue domain key kind address count (verdicts.Swapped found put)) p = record { put = refl; more = []; acted = refl; succeeded = refl }
mark-adds (marks.Stored place bytes) p = adds-nothing (marks.Stored place bytes) p _ refl refl refl refl
mark-adds (marks.Sent source target index request bytes) p = adds-nothing (marks.Sent source target index request bytes) p _ refl refl refl refl
mark-adds (marks.Lost target None) p = adds-nothing (marks.Lost target None) p _ refl refl refl refl
mark-adds (marks.Lost target (Some index)) p = adds-nothing (marks.Lost target (Some index)) p _ refl refl refl refl
mark-adds (marks.Arrived target index) p = adds-nothing (marks.Arrived target index) p _ refl refl refl refl
mark-adds (marks.Dropped target cause) p = adds-nothing (marks.Dropped target cause) p _ refl refl refl refl
mark-adds (marks.Timer queue silent) p = adds-nothing (marks.Timer queue silent) p _ refl refl refl refl
mark-adds (marks.Done queue x cause) p = adds-nothing (marks.Done queue x cause) p _ refl refl refl refl

-- what all marks add
pub record AddAll (ms : List Mark) (p r : Past) : Type 0 where
  pub put : r.at_hand.put_locally ≡ p.at_hand.put_locally ++ bytes_put ms
  pub more : List Acted
  pub acted : r.acted ≡ more ++ p.acted
  pub succeeded : r.succeeded ≡ p.succeeded

pub marks-add : (ms : List Mark) (p : Past) → AddAll ms p (after_marks ms p)
marks-add [] p = record { put = sym (append-nil p.at_hand.put_locally); more = []; acted = refl; succeeded = refl }
marks-add (m ∷ ms) p = let one = mark-adds m p in let rest = marks-add ms (after_mark m p) in record {
  put = rest.put ∙ ap (λ xs. xs ++ bytes_put ms) one.put ∙ append-assoc p.at_hand.put_locally (put_by m) (bytes_put ms);
  more = rest.more ++ one.more;
  acted = rest.acted ∙ ap (λ xs. rest.more ++ xs) one.acted ∙ sym (append-assoc rest.more one.more p.acted);
  succeeded = rest.succeeded ∙ one.succeeded;
}

numbers-append : (own : Correspondent) (place : ℕ) (xs ys : List Acted) → numbers_of own place (xs ++ ys) ≡ numbers_of own place xs ++ numbers_of own place ys
numbers-append own place [] ys = refl
numbers-append own place (a ∷ xs) ys = by (correspondent_eq a.own own && (a.place == place)) (numbers-append own place xs ys)
  where
    by : (b : Bool) → numbers_of own place (xs ++ ys) ≡ numbers_of own place xs ++ numbers_of own place ys
        → (if b then a.found ∷ numbers_of own place (xs ++ ys) else numbers_of own place (xs ++ ys)) ≡ (if b then a.found ∷ numbers_of own place xs else numbers_of own place xs) ++ numbers_of own place ys
    by true rest = ap (λ r. a.found ∷ r) rest
    by false rest = rest

-- ---- an atomic's operation and its work

atomic-work : (op : SendOp) → is_atomic_operation (operation_of op) ≡ is_atomic (work_of op)
atomic-work (ops.Send list) = refl
atomic-work (ops.SendImm imm list) = refl
atomic-work (ops.SendInv key list) = refl
atomic-work (ops.Write address key list) = refl
atomic-work (ops.WriteImm address key imm list) = refl
atomic-work (ops.Read address key list) = refl
atomic-work (ops.CmpSwap address key compare swap list) = refl
atomic-work (ops.FetchAdd address key add list) = refl
atomic-work (ops.Bind1 window region address count rights) = refl
atomic-work (ops.Bind2 window region low address count rights) = refl
atomic-work (ops.FastReg region low buffer address count rights pages) = refl
atomic-work (ops.LocalInv key) = refl

-- ---- the atomics that complete in an event

-- what is known of an event, of a life that sends: the numbers that were found before it and after it, and the requests
pub record Completes (d : Direction) (s : Correspondent) (past : Past) (w : World) (l : Link) (end : Past) (last : Past) : Type 0 where
  pub paths : PathsAgree past w
  pub posts : PostsAgree past w
  pub before : (place : ℕ) → is_atomic (d.work place) ≡ true → numbers_of s place past.acted ≡ found_at place l.acceptances
  pub after : (place : ℕ) → is_atomic (d.work place) ≡ true → length (numbers_of s place last.acted) ≤ 1
  pub grows : Grows last end
  pub work : (place : ℕ) → d.work place ≡ work_posted (slice_get (end.posted s) place)

-- how a moment of the event stands to its beginning: each life is the same, or a later one, to which nothing was posted; and
-- the atomics that acted are some more
pub record Midst (past p : Past) : Type 0 where
  pub lives : (n : QueueId) → (p.incarnation n ≡ past.incarnation n) ⊎ ((past.incarnation n < p.incarnation n) × (p.posted ≡ past.posted))
  pub more : List Acted
  pub acted : p.acted ≡ more ++ past.acted

-- an atomic that completed with the one number that was found, which all marks of the event put into its list
pub record IsWell (a : AtomicDone) (all : List Mark) : Type 0 where
  pub found : ℕ
  pub alone : a.found ≡ found ∷ []
  pub put : bytes_put all ≡ little_endian_bytes found

pub midst-after : (past p : Past) (m : Mark) → IsPlain m → Midst past p → Midst past (after_mark m p)
midst-after past p m plain mid = record { lives = λ n. of n (mid.lives n); more = adds.more ++ mid.more; acted = adds.acted ∙ ap (λ xs. adds.more ++ xs) mid.acted ∙ sym (append-assoc adds.more mid.more past.acted) }
  where
    adds : Adds m p (after_mark m p)
    adds = mark-adds m p

    same : SameLives p (after_mark m p)
    same = one-life p m plain

    notes : SameNotes p (after_mark m p)
    notes = plain-one m p plain

    of : (n : QueueId) → (p.incarnation n ≡ past.incarnation n) ⊎ ((past.incarnation n < p.incarnation n) × (p.posted ≡ past.posted))
        → ((after_mark m p).incarnation n ≡ past.incarnation n) ⊎ ((past.incarnation n < (after_mark m p).incarnation n) × ((after_mark m p).posted ≡ past.posted))
    of n (inl is) = inl (ap (λ (f : QueueId → ℕ). f n) same.incarnation ∙ is)
    of n (inr is) = inr (omega (arith, is.0, ap (λ (f : QueueId → ℕ). f n) same.incarnation), notes.posted ∙ is.1)

-- one number before, at most one after, so one between
one-between : (xs ys : List ℕ) (found : ℕ) (zs : List ℕ) → zs ≡ found ∷ [] → length (xs ++ (ys ++ zs)) ≤ 1 → ys ++ zs ≡ found ∷ []
one-between xs [] found zs is few = is
one-between xs (y ∷ ys) found zs is few = absurd (omega (arith, few, append-length xs (y ∷ ys ++ zs), append-length ys zs, ap length is))

-- an atomic that a completion tells of
done-well : (d : Direction) (s : Correspondent) (past : Past) (w : World) (l : Link) (end last p : Past) (all : List Mark) (x : Completion) (a : AtomicDone) → Completes d s past w l end last → Midst past p
    → (more : List Acted) → last.acted ≡ more ++ p.acted → Grows p last → (is_send_success x ≡ true → IsInLife w s x.queue → IsSuccess d l x.place all)
    → a.own ≡ s → Among a (atomic_done p x) → IsWell a all
done-well d s past w l end last p all x a known mid more acted grows success own among = by (is_send_success x) refl (posted_at p x.queue x.place) refl among
  where
    done : AtomicDone
    done = record { own = present_incarnation p x.queue; place = x.place; found = found_of p (present_incarnation p x.queue) x.place }

    well : (q : Posted) → is_send_success x ≡ true → posted_at p x.queue x.place ≡ Some q → is_atomic_operation (operation_of q.request.op) ≡ true → done ≡ a → IsWell a all
    well q sent there operation is = record {
      found = told.found;
      alone = ap (λ (z : AtomicDone). z.found) (sym is) ∙ found-is p (present_incarnation p x.queue) x.place ∙ ap (λ y. numbers_of y x.place p.acted) own_is
          ∙ ap (numbers_of s x.place) mid.acted ∙ numbers-append s x.place mid.more past.acted
          ∙ one-between (numbers_of s x.place more) (numbers_of s x.place mid.more) told.found (numbers_of s x.place past.acted) (known.before x.place atomic ∙ told.alone) few;
      put = told.put;
    }
      where
        own_is : present_incarnation p x.queue ≡ s
        own_is = ap (λ (z : AtomicDone). z.own) is ∙ own

        posted_is : slice_get (p.posted s) x.place ≡ Some q
        posted_is = ap (λ y. slice_get (p.posted y) x.place) (sym own_is) ∙ there

        atomic : is_atomic (d.work x.place) ≡ true
        atomic = ap is_atomic (known.work x.place ∙ ap work_posted (known.grows.posted s x.place q (grows.posted s x.place q posted_is))) ∙ sym (atomic-work q.request.op) ∙ operation

        life : IsInLife w s x.queue
        life = record { named = ap (λ (y : Correspondent). queue_eq x.queue y.queue) (sym own_is) ∙ queue-refl x.queue; incarnation = known.paths.incarnations x.queue ∙ lived (mid.lives x.queue) }
          where
            lived : (p.incarnation x.queue ≡ past.incarnation x.queue) ⊎ ((past.incarnation x.queue < p.incarnation x.queue) × (p.posted ≡ past.posted)) → past.incarnation x.queue ≡ s.incarnation
            lived (inl same) = sym same ∙ ap (λ (y : Correspondent). y.incarnation) own_is
            lived (inr is) = absurd (true≢false (sym (ap is_some (sym (ap (λ (f : Correspondent → List Posted). slice_get (f (present_incarnation p x.queue)) x.place) is.1) ∙ there))
                ∙ ap (λ xs. is_some (slice_get xs x.place)) (known.posts.later x.queue (p.incarnation x.queue) is.0).0))

        told : IsFoundAndPut d l x.place all
        told = (success sent life).atomic atomic

        few : length (numbers_of s x.place more ++ (numbers_of s x.place mid.more ++ numbers_of s x.place past.acted)) ≤ 1
        few = subst (λ xs. length xs ≤ 1) (ap (numbers_of s x.place) acted ∙ numbers-append s x.place more p.acted
            ∙ ap (λ xs. numbers_of s x.place more ++ xs) (ap (numbers_of s x.place) mid.acted ∙ numbers-append s x.place mid.more past.acted)) (known.after x.place atomic)

    made : Bool → Bool → List AtomicDone
    made b c = if b && c then done ∷ [] else []

    by : (b : Bool) → is_send_success x ≡ b → (o : Option Posted) → posted_at p x.queue x.place ≡ o
        → Among a (if is_send_success x && option_map_or (λ q. is_atomic_operation (operation_of q.request.op)) (posted_at p x.queue x.place) false then done ∷ [] else []) → IsWell a all
    by false none o there among = absurd (subst (Among a) (ap (λ b. made b (option_map_or (λ (q : Posted). is_atomic_operation (operation_of q.request.op)) (posted_at p x.queue x.place) false)) none) among)
    by true sent None there among = absurd (subst (Among a) (ap₂ (λ b o. made b (option_map_or (λ (q : Posted). is_atomic_operation (operation_of q.request.op)) o false)) sent there) among)
    by true sent (Some q) there among = at (is_atomic_operation (operation_of q.request.op)) refl
        (subst (Among a) (ap₂ (λ b o. made b (option_map_or (λ (q : Posted). is_atomic_operation (operation_of q.request.op)) o false)) sent there) among)
      where
        at : (c : Bool) → is_atomic_operation (operation_of q.request.op) ≡ c → Among a (made true (is_atomic_operation (operation_of q.request.op))) → IsWell a all
        at false is among = absurd (subst (λ c. Among a (made true c)) is among)
        at true is among = one (subst (λ c. Among a (made true c)) is among)
          where
            one : Among a (done ∷ []) → IsWell a all
            one (inl same) = well q sent there is same
            one (inr none) = absurd none

pub among-append : {A : Type 0} (x : A) (xs ys : List A) → Among x (xs ++ ys) → Among x xs ⊎ Among x ys
among-append x [] ys among = inr among
among-append x (y ∷ xs) ys (inl same) = inl (inl same)
among-append x (y ∷ xs) ys (inr later) = by (among-append x xs ys later)
  where
    by : Among x xs ⊎ Among x ys → Among x (y ∷ xs) ⊎ Among x ys
    by (inl here) = inl (inr here)
    by (inr there) = inr there

-- each atomic at hand after the marks was at hand before, or completed well
pub atomics-well : (d : Direction) (s : Correspondent) (past : Past) (w : World) (l : Link) (end : Past) (all ms : List Mark) (p : Past) → Completes d s past w l end (after_marks ms p) → ArePlain ms → Midst past p
    → AreFound d s w l all ms → (a : AtomicDone) → a.own ≡ s → Among a (after_marks ms p).at_hand.atomics → Among a p.at_hand.atomics ⊎ IsWell a all
atomics-well d s past w l end all [] p known plain mid found a own among = inl among
atomics-well d s past w l end all (marks.Verb b verb answer ∷ ms) p known plain mid found a own among = absurd plain.0
atomics-well d s past w l end all (marks.Granted g ∷ ms) p known plain mid found a own among =
    atomics-well d s past w l end all ms (after_mark (marks.Granted g) p) known plain.1 (midst-after past p (marks.Granted g) plain.0 mid) found.1 a own among
atomics-well d s past w l end all (marks.Revoked adapter key ∷ ms) p known plain mid found a own among =
    atomics-well d s past w l end all ms (after_mark (marks.Revoked adapter key) p) known plain.1 (midst-after past p (marks.Revoked adapter key) plain.0 mid) found.1 a own among
atomics-well d s past w l end all (marks.Remote queue domain envelope key kind address count verdict ∷ ms) p known plain mid found a own among =
    atomics-well d s past w l end all ms (after_mark (marks.Remote queue domain envelope key kind address count verdict) p) known plain.1 (midst-after past p (marks.Remote queue domain envelope key kind address count verdict) plain.0 mid) found.1 a own among
atomics-well d s past w l end all (marks.Local queue domain key kind address count verdict ∷ ms) p known plain mid found a own among =
    atomics-well d s past w l end all ms (after_mark (marks.Local queue domain key kind address count verdict) p) known plain.1 (midst-after past p (marks.Local queue domain key kind address count verdict) plain.0 mid) found.1 a own among
atomics-well d s past w l end all (marks.Stored place bytes ∷ ms) p known plain mid found a own among =
    atomics-well d s past w l end all ms (after_mark (marks.Stored place bytes) p) known plain.1 (midst-after past p (marks.Stored place bytes) plain.0 mid) found.1 a own among
atomics-well d s past w l end all (marks.Sent source target index request bytes ∷ ms) p known plain mid found a own among =
    atomics-well d s past w l end all ms (after_mark (marks.Sent source target index request bytes) p) known plain.1 (midst-after past p (marks.Sent source target index request bytes) plain.0 mid) found.1 a own among
atomics-well d s past w l end all (marks.Lost target None ∷ ms) p known plain mid found a own among =
    atomics-well d s past w l end all ms (after_mark (marks.Lost target None) p) known plain.1 (midst-after past p (marks.Lost target None) plain.0 mid) found.1 a own among
atomics-well d s past w l end all (marks.Lost target (Some index) ∷ ms) p known plain mid found a own among =
    atomics-well d s past w l end all ms (after_mark (marks.Lost target (Some index)) p) known plain.1 (midst-after past p (marks.Lost target (Some index)) plain.0 mid) found.1 a own among
atomics-well d s past w l end all (marks.Arrived target index ∷ ms) p known plain mid found a own among =
    atomics-well d s past w l end all ms (after_mark (marks.Arrived target index) p) known plain.1 (midst-after past p (marks.Arrived target index) plain.0 mid) found.1 a own among
atomics-well d s past w l end all (marks.Dropped target cause ∷ ms) p known plain mid found a own among =
    atomics-well d s past w l end all ms (after_mark (marks.Dropped target cause) p) known plain.1 (midst-after past p (marks.Dropped target cause) plain.0 mid) found.1 a own among
atomics-well d s past w l end all (marks.Timer queue silent ∷ ms) p known plain mid found a own among =
    atomics-well d s past w l end all ms (after_mark (marks.Timer queue silent) p) known plain.1 (midst-after past p (marks.Timer queue silent) plain.0 mid) found.1 a own among
atomics-well d s past w l end all (marks.Done queue x cause ∷ ms) p known plain mid found a own among = by (atomics-well d s past w l end all ms (after_mark m p) known plain.1 (midst-after past p m plain.0 mid) found.1 a own among)
  where
    m : Mark
    m = marks.Done queue x cause

    adds : AddAll (m ∷ ms) p (after_marks (m ∷ ms) p)
    adds = marks-add (m ∷ ms) p

    split : Among a p.at_hand.atomics ⊎ Among a (atomic_done p x) → Among a p.at_hand.atomics ⊎ IsWell a all
    split (inl here) = inl here
    split (inr done) = inr (done-well d s past w l end (after_marks (m ∷ ms) p) p all x a known mid adds.more adds.acted (marks-grow (m ∷ ms) p) found.0 own done)

    by : Among a (after_mark m p).at_hand.atomics ⊎ IsWell a all → Among a p.at_hand.atomics ⊎ IsWell a all
    by (inr well) = inr well
    by (inl here) = split (among-append a p.at_hand.atomics (atomic_done p x) here)

-- ---- an entry

-- each atomic that completed with success in an event has the one number that was found, and its bytes
among-map : {A B : Type 0} (f : A → B) (xs : List A) (y : B) → Among y (map f xs) → (x : A) × Among x xs × (f x ≡ y)
among-map f [] y among = absurd among
among-map f (x ∷ xs) y (inl same) = (x, inl refl, same)
among-map f (x ∷ xs) y (inr later) = let rest = among-map f xs y later in (rest.0, inr rest.1, rest.2)

pub well-passes : (a : AtomicDone) (all : List Mark) → IsWell a all → is_found_alone a.found (bytes_put all) ≡ true
well-passes a all well = ap₂ is_found_alone well.alone well.put ∙ bytes-refl (little_endian_bytes well.found)

-- what was known of successes so far
abbrev pub AreWell : Correspondent → List Succeeded → Type 0
AreWell s xs = (x : Succeeded) → Among x xs → x.atomic.own ≡ s → is_found_alone x.atomic.found x.put ≡ true

pub succeeded-well : (s : Correspondent) (past last : Past) (all : List Mark) → last.at_hand.put_locally ≡ bytes_put all → last.succeeded ≡ past.succeeded → AreWell s past.succeeded
    → ((a : AtomicDone) → a.own ≡ s → Among a last.at_hand.atomics → IsWell a all) → AreWell s (at_end last).succeeded
succeeded-well s past last all put same before well x among own = by (among-append x (map one last.at_hand.atomics) last.succeeded among)
  where
    one : AtomicDone → Succeeded
    one a = record { atomic = a; put = last.at_hand.put_locally }

    by : Among x (map one last.at_hand.atomics) ⊎ Among x last.succeeded → is_found_alone x.atomic.found x.put ≡ true
    by (inl new) = let of = among-map one last.at_hand.atomics x new in
        ap (λ (y : Succeeded). is_found_alone y.atomic.found y.put) (sym of.2) ∙ ap (is_found_alone of.0.found) put
        ∙ well-passes of.0 all (well of.0 (ap (λ (y : Succeeded). y.atomic.own) of.2 ∙ own) of.1)
    by (inr old) = before x (subst (Among x) same old) own
