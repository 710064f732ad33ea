-- WRITEs that completed with success, by the marks of an event. For proofs only.
use Rattle.std.proofs.Common.{◌≡◌, ℕ, zero, suc, ◌+◌, ◌-◌, ◌<◌, ◌≤◌, min, ◌⊎◌, inl, inr, ◌&&◌, ◌==◌, ◌++◌, arith, Bool, true, false, if◌then◌else◌, length, map, List, [], ◌∷◌, Option, None, Some, is_some, slice_get, refl, ap, ap₂, sym, subst, ◌∙◌, true≢false}
use Rattle.std.specs.Option.{option_map_or}
use Rattle.ca_law_endings.proofs.FitLemmas.{plain}
use Rattle.ca_law_endings.proofs.InnerLemmas.{AreInner, own-inner}
use Rattle.ca_law_endings.specs.Agreement.{PathsAgree}
use Rattle.ca_base.specs.declared.completion.Completion.{Completion}
use Rattle.ca_base.specs.declared.correspondent.Correspondent.{Correspondent}
use Rattle.ca_base.specs.declared.request.SendOp.{SendOp}
use Rattle.ca_base.specs.declared.request.SendOp.TheVariants as ops
use Rattle.ca_connection.proofs.PassedLemmas.{law-in-order, law-passed}
use Rattle.ca_connection.specs.Layout.{Direction, Work, first, is_data, is_read, is_write, psns}
use Rattle.ca_connection.specs.Layout.Work.{Local, Send, Write, Read, Atomic}
use Rattle.ca_connection.specs.Link.{Link}
use Rattle.ca_connection.specs.Moves.{Reached}
use Rattle.ca_connection.specs.Once.{falling, numbers_at, passed}
use Rattle.ca_keys.specs.Equal.{queue_eq}
use Rattle.ca_keys.specs.declared.names.QueueId.{QueueId}
use Rattle.ca_keys.specs.declared.verdict.Verdict.TheVariants as verdicts
use Rattle.ca_law_world.proofs.Sound.SettledLemmas.{queue-refl}
use Rattle.ca_model.specs.History.{ArePlain, IsPlain}
use Rattle.ca_model.specs.Past.{Past, Posted, after_mark, after_marks, at_begin, correspondent_eq, is_send_success, posted_at, present_incarnation}
use Rattle.ca_model.specs.declared.answer.Answer.{Answer}
use Rattle.ca_model.specs.declared.event.Event.{Event}
use Rattle.ca_model.specs.declared.event.Event.TheVariants as events
use Rattle.ca_model.specs.declared.mark.Mark.{Mark}
use Rattle.ca_model.specs.declared.mark.Mark.TheVariants as marks
use Rattle.ca_model.specs.declared.verb.Verb.{Verb}
use Rattle.ca_model.specs.machine.World.{World}
use Rattle.ca_law_once.proofs.Once.NoteLemmas.{Among, Destroys, Grows, VerbLife, marks-grow, verb-life}
use Rattle.ca_law_once.proofs.Once.NoteLemmas.VerbLife.{later as life_later, stays as life_stays, ends as life_ends}
use Rattle.ca_law_once.proofs.Once.ShapeLemmas.{Meets}
use Rattle.ca_law_once.proofs.Once.SuccessLemmas.{Midst, among-append, append-assoc, append-length, midst-after}
use Rattle.ca_law_once.proofs.Once.VerbLemmas.{SameHand, verb-hand}
use Rattle.ca_law_once.specs.Connections.{work_posted}
use Rattle.ca_law_keys.specs.Posts.{PostsAgree}
use Rattle.ca_law_once.specs.Success.{AreFound, IsSuccess, SuccessIsFound}
use Rattle.ca_law_once.specs.Sides.{work_of}
use Rattle.ca_law_once.specs.Agrees.{IsInLife}
use Rattle.ca_law_once.specs.WrittenTold.{AreWritten, psn_bits}
use Rattle.ca_law_once.specs.Written.{WriteDone, Writes, Wrote, done_after, is_write_op, psns_at, write_done, writes_after, writes_of_marks, wrote_after, wrote_by}

-- ---- what marks add to the writes

-- some more in front
pub record More (xs ys : List Wrote) : Type 0 where
  pub more : List Wrote
  pub is : ys ≡ more ++ xs

pub one-more : (m : Mark) (p : Past) (xs : List Wrote) → More xs (wrote_after p m xs)
one-more (marks.Remote q domain envelope key kind address count (verdicts.Wrote bytes)) p xs = record { more = wrote_by p q envelope; is = refl }
one-more (marks.Remote q domain envelope key kind address count (verdicts.Denied denial)) p xs = record { more = []; is = refl }
one-more (marks.Remote q domain envelope key kind address count (verdicts.Read bytes)) p xs = record { more = []; is = refl }
one-more (marks.Remote q domain envelope key kind address count (verdicts.Swapped found put)) p xs = record { more = []; is = refl }
one-more (marks.Verb by verb answer) p xs = record { more = []; is = refl }
one-more (marks.Granted g) p xs = record { more = []; is = refl }
one-more (marks.Revoked adapter key) p xs = record { more = []; is = refl }
one-more (marks.Local q domain key kind address count verdict) p xs = record { more = []; is = refl }
one-more (marks.Stored place bytes) p xs = record { more = []; is = refl }
one-more (marks.Sent source target index request bytes) p xs = record { more = []; is = refl }
one-more (marks.Lost target index) p xs = record { more = []; is = refl }
one-more (marks.Arrived target index) p xs = record { more = []; is = refl }
one-more (marks.Dropped target cause) p xs = record { more = []; is = refl }
one-more (marks.Timer queue silent) p xs = record { more = []; is = refl }
one-more (marks.Done queue x cause) p xs = record { more = []; is = refl }

pub more-then : (xs ys zs : List Wrote) → More xs ys → More ys zs → More xs zs
more-then xs ys zs one two = record { more = two.more ++ one.more; is = two.is ∙ ap (λ t. two.more ++ t) one.is ∙ sym (append-assoc two.more one.more xs) }

pub all-more : (ms : List Mark) (p : Past) (w : Writes) → More w.wrote (writes_of_marks ms p w).wrote
all-more [] p w = record { more = []; is = refl }
all-more (m ∷ ms) p w = more-then w.wrote (wrote_after p m w.wrote) (writes_of_marks ms (after_mark m p) (writes_after p m w)).wrote (one-more m p w.wrote) (all-more ms (after_mark m p) (writes_after p m w))

pub psns-append : (own : Correspondent) (place : ℕ) (xs ys : List Wrote) → psns_at own place (xs ++ ys) ≡ psns_at own place xs ++ psns_at own place ys
psns-append own place [] ys = refl
psns-append own place (x ∷ xs) ys = by (correspondent_eq x.own own && (x.place == place)) (psns-append own place xs ys)
  where
    by : (b : Bool) → psns_at own place (xs ++ ys) ≡ psns_at own place xs ++ psns_at own place ys
        → (if b then x.psn ∷ psns_at own place (xs ++ ys) else psns_at own place (xs ++ ys)) ≡ (if b then x.psn ∷ psns_at own place xs else psns_at own place xs) ++ psns_at own place ys
    by true rest = ap (λ r. x.psn ∷ r) rest
    by false rest = rest

-- ---- kinds of requests

op-write : (op : SendOp) → is_write_op op ≡ is_write (work_of op)
op-write (ops.Send list) = refl
op-write (ops.SendImm imm list) = refl
op-write (ops.SendInv key list) = refl
op-write (ops.Write address key list) = refl
op-write (ops.WriteImm address key imm list) = refl
op-write (ops.Read address key list) = refl
op-write (ops.CmpSwap address key compare swap list) = refl
op-write (ops.FetchAdd address key add list) = refl
op-write (ops.Bind1 window region address count rights) = refl
op-write (ops.Bind2 window region low address count rights) = refl
op-write (ops.FastReg region low buffer address count rights pages) = refl
op-write (ops.LocalInv key) = refl

write-data : (w : Work) → is_write w ≡ true → is_data w ≡ true
write-data Local is = is
write-data (Send bytes) is = refl
write-data (Write bytes) is = refl
write-data (Read bytes) is = is
write-data Atomic is = is

pub write-no-read : (w : Work) → is_write w ≡ true → is_read w ≡ false
write-no-read Local is = refl
write-no-read (Send bytes) is = refl
write-no-read (Write bytes) is = refl
write-no-read (Read bytes) is = absurd (true≢false (sym is))
write-no-read Atomic is = refl

-- ---- the numbers of a request

pub falling-length : (low n : ℕ) → length (map psn_bits (falling low n)) ≡ n
falling-length low zero = refl
falling-length low (suc n) = ap suc (falling-length low n)

pub passed-few : (d : Direction) (place bound : ℕ) → passed d place bound ≤ psns d.mtu (d.work place)
passed-few d place bound = omega arith

-- the packets of a WRITE that a link accepted are no more than it has
pub accepted-few : (d : Direction) (l : Link) (place : ℕ) → Reached d l → is_write (d.work place) ≡ true → length (map psn_bits (numbers_at place l.acceptances)) ≤ psns d.mtu (d.work place)
accepted-few d l place reached write = omega (arith, ap (λ xs. length (map psn_bits xs)) (law-in-order d l place reached (write-no-read (d.work place) write)), falling-length (first d place) (passed d place l.responder.expected), passed-few d place l.responder.expected)

-- ---- the WRITEs that complete in an event

-- all packets of the WRITE wrote
abbrev pub IsFull : Direction → WriteDone → Type 0
IsFull d a = a.wrote ≡ map psn_bits (falling (first d a.place) (psns d.mtu (d.work a.place)))

-- what is known of an event, of a life that sends
pub record Known (d : Direction) (s : Correspondent) (past : Past) (w : World) (l : Link) (end last : Past) (before after : Writes) : Type 0 where
  pub paths : PathsAgree past w
  pub posts : PostsAgree past w
  pub reached : Reached d l
  pub written : AreWritten d s before l
  pub few : (place : ℕ) → is_write (d.work place) ≡ true → length (psns_at s place after.wrote) ≤ psns d.mtu (d.work place)
  pub grows : Grows last end
  pub work : (place : ℕ) → d.work place ≡ work_posted (slice_get (end.posted s) place)

-- all there before, and no more afterwards: so just these between
full-between : (xs ys zs full : List ℕ) → zs ≡ full → length (xs ++ (ys ++ zs)) ≤ length full → ys ++ zs ≡ full
full-between xs [] zs full is few = is
full-between xs (y ∷ ys) zs full is few = absurd (omega (arith, few, append-length xs (y ∷ ys ++ zs), append-length ys zs, ap length is))

done-full : (d : Direction) (s : Correspondent) (past : Past) (w : World) (l : Link) (end last p : Past) (before after here : Writes) (all : List Mark) (x : Completion) (a : WriteDone) → Known d s past w l end last before after → Midst past p
    → More before.wrote here.wrote → More here.wrote after.wrote → Grows p last → (is_send_success x ≡ true → IsInLife w s x.queue → IsSuccess d l x.place all)
    → a.own ≡ s → Among a (write_done p x here.wrote) → IsFull d a
done-full d s past w l end last p before after here all x a known mid since behind grows success own among = by (is_send_success x) refl (posted_at p x.queue x.place) refl
  where
    done : WriteDone
    done = record { own = present_incarnation p x.queue; place = x.place; wrote = psns_at (present_incarnation p x.queue) x.place here.wrote }

    full : (q : Posted) → is_send_success x ≡ true → posted_at p x.queue x.place ≡ Some q → is_write_op q.request.op ≡ true → done ≡ a → IsFull d a
    full q sent there operation is = ap (λ (z : WriteDone). z.wrote) (sym is) ∙ ap (λ y. psns_at y x.place here.wrote) own_is ∙ ap (psns_at s x.place) since.is ∙ psns-append s x.place since.more before.wrote
        ∙ full-between (psns_at s x.place behind.more) (psns_at s x.place since.more) (psns_at s x.place before.wrote) own_all accepted few ∙ ap (λ (z : WriteDone). map psn_bits (falling (first d z.place) (psns d.mtu (d.work z.place)))) is
      where
        own_is : present_incarnation p x.queue ≡ s
        own_is = ap (λ (z : WriteDone). z.own) is ∙ own

        posted_is : slice_get (p.posted s) x.place ≡ Some q
        posted_is = ap (λ y. slice_get (p.posted y) x.place) (sym own_is) ∙ there

        write : is_write (d.work x.place) ≡ true
        write = ap is_write (known.work x.place ∙ ap work_posted (known.grows.posted s x.place q (grows.posted s x.place q posted_is))) ∙ sym (op-write q.request.op) ∙ operation

        life : IsInLife w s x.queue
        life = record { named = ap (λ (y : Correspondent). queue_eq x.queue y.queue) (sym own_is) ∙ queue-refl x.queue; incarnation = known.paths.incarnations x.queue ∙ lived (mid.lives x.queue) }
          where
            lived : (p.incarnation x.queue ≡ past.incarnation x.queue) ⊎ ((past.incarnation x.queue < p.incarnation x.queue) × (p.posted ≡ past.posted)) → past.incarnation x.queue ≡ s.incarnation
            lived (inl same) = sym same ∙ ap (λ (y : Correspondent). y.incarnation) own_is
            lived (inr is) = absurd (true≢false (sym (ap is_some (sym (ap (λ (f : Correspondent → List Posted). slice_get (f (present_incarnation p x.queue)) x.place) is.1) ∙ there))
                ∙ ap (λ xs. is_some (slice_get xs x.place)) (known.posts.later x.queue (p.incarnation x.queue) is.0).0))

        own_all : List ℕ
        own_all = map psn_bits (falling (first d x.place) (psns d.mtu (d.work x.place)))

        below : first d (suc x.place) ≤ l.responder.expected
        below = (success sent life).passed (write-data (d.work x.place) write)

        accepted : psns_at s x.place before.wrote ≡ own_all
        accepted = known.written x.place ∙ ap (λ b. if b then map psn_bits (numbers_at x.place l.acceptances) else []) write
            ∙ ap (map psn_bits) (law-passed d l x.place known.reached (write-no-read (d.work x.place) write) below)

        few : length (psns_at s x.place behind.more ++ (psns_at s x.place since.more ++ psns_at s x.place before.wrote)) ≤ length own_all
        few = omega (
          arith,
          known.few x.place write,
          ap (λ xs. length (psns_at s x.place xs)) behind.is,
          ap length (psns-append s x.place behind.more here.wrote),
          ap (λ xs. length (psns_at s x.place behind.more ++ psns_at s x.place xs)) since.is,
          ap (λ xs. length (psns_at s x.place behind.more ++ xs)) (psns-append s x.place since.more before.wrote),
          falling-length (first d x.place) (psns d.mtu (d.work x.place)),
        )

    made : Bool → Bool → List WriteDone
    made b c = if b && c then done ∷ [] else []

    by : (b : Bool) → is_send_success x ≡ b → (o : Option Posted) → posted_at p x.queue x.place ≡ o → IsFull d a
    by false none o there = absurd (subst (Among a) (ap (λ b. made b (option_map_or (λ (q : Posted). is_write_op q.request.op) (posted_at p x.queue x.place) false)) none) among)
    by true sent None there = absurd (subst (Among a) (ap₂ (λ b o. made b (option_map_or (λ (q : Posted). is_write_op q.request.op) o false)) sent there) among)
    by true sent (Some q) there = at (is_write_op q.request.op) refl
        (subst (Among a) (ap₂ (λ b o. made b (option_map_or (λ (q : Posted). is_write_op q.request.op) o false)) sent there) among)
      where
        at : (c : Bool) → is_write_op q.request.op ≡ c → Among a (made true (is_write_op q.request.op)) → IsFull d a
        at false is among = absurd (subst (λ c. Among a (made true c)) is among)
        at true is among = one (subst (λ c. Among a (made true c)) is among)
          where
            one : Among a (done ∷ []) → IsFull d a
            one (inl same) = full q sent there is same
            one (inr none) = absurd none

-- one mark
one-done : (d : Direction) (s : Correspondent) (past : Past) (w : World) (l : Link) (end last p : Past) (before after here : Writes) (all : List Mark) (m : Mark) (a : WriteDone) → Known d s past w l end last before after → Midst past p
    → More before.wrote here.wrote → More here.wrote after.wrote → Grows p last → SuccessIsFound d s w l all m → a.own ≡ s → Among a (done_after p m here) → Among a here.done ⊎ IsFull d a
one-done d s past w l end last p before after here all (marks.Done queue x cause) a known mid since behind grows found own among = by (among-append a (write_done p x here.wrote) here.done among)
  where
    by : Among a (write_done p x here.wrote) ⊎ Among a here.done → Among a here.done ⊎ IsFull d a
    by (inl new) = inr (done-full d s past w l end last p before after here all x a known mid since behind grows found own new)
    by (inr old) = inl old
one-done d s past w l end last p before after here all (marks.Verb by verb answer) a known mid since behind grows found own among = inl among
one-done d s past w l end last p before after here all (marks.Granted g) a known mid since behind grows found own among = inl among
one-done d s past w l end last p before after here all (marks.Revoked adapter key) a known mid since behind grows found own among = inl among
one-done d s past w l end last p before after here all (marks.Remote queue domain envelope key kind address count verdict) a known mid since behind grows found own among = inl among
one-done d s past w l end last p before after here all (marks.Local queue domain key kind address count verdict) a known mid since behind grows found own among = inl among
one-done d s past w l end last p before after here all (marks.Stored place bytes) a known mid since behind grows found own among = inl among
one-done d s past w l end last p before after here all (marks.Sent source target index request bytes) a known mid since behind grows found own among = inl among
one-done d s past w l end last p before after here all (marks.Lost target index) a known mid since behind grows found own among = inl among
one-done d s past w l end last p before after here all (marks.Arrived target index) a known mid since behind grows found own among = inl among
one-done d s past w l end last p before after here all (marks.Dropped target cause) a known mid since behind grows found own among = inl among
one-done d s past w l end last p before after here all (marks.Timer queue silent) a known mid since behind grows found own among = inl among

-- each WRITE that completed in the marks was known before, or is full
dones-full : (d : Direction) (s : Correspondent) (past : Past) (w : World) (l : Link) (end : Past) (before here : Writes) (all ms : List Mark) (p : Past)
    → Known d s past w l end (after_marks ms p) before (writes_of_marks ms p here) → ArePlain ms → Midst past p → More before.wrote here.wrote
    → AreFound d s w l all ms → (a : WriteDone) → a.own ≡ s → Among a (writes_of_marks ms p here).done → Among a here.done ⊎ IsFull d a
dones-full d s past w l end before here all [] p known plain mid since found a own among = inl among
dones-full d s past w l end before here all (m ∷ ms) p known plain mid since found a own among =
    by (dones-full d s past w l end before (writes_after p m here) all ms (after_mark m p) known plain.1 (midst-after past p m plain.0 mid) (more-then before.wrote here.wrote (wrote_after p m here.wrote) since (one-more m p here.wrote)) found.1 a own among)
  where
    by : Among a (done_after p m here) ⊎ IsFull d a → Among a here.done ⊎ IsFull d a
    by (inr full) = inr full
    by (inl new) = one-done d s past w l end (after_marks (m ∷ ms) p) p before (writes_of_marks (m ∷ ms) p here) here all m a known mid since (all-more (m ∷ ms) p here) (marks-grow (m ∷ ms) p) found.0 own new

-- ---- an event

begin-midst : (past : Past) (event : Event) → Midst past (at_begin event past)
begin-midst past event = record { lives = λ n. inl refl; more = []; acted = refl }

no-more : (xs : List Wrote) → More xs xs
no-more xs = record { more = []; is = refl }

plain-done : (d : Direction) (s : Correspondent) (past : Past) (w : World) (l : Link) (end : Past) (event : Event) (ms : List Mark) (ws : Writes) → Known d s past w l end (after_marks ms (at_begin event past)) ws (writes_of_marks ms (at_begin event past) ws) → ArePlain ms
    → AreFound d s w l ms ms → (a : WriteDone) → a.own ≡ s → Among a (writes_of_marks ms (at_begin event past) ws).done → Among a ws.done ⊎ IsFull d a
plain-done d s past w l end event ms ws known plain found a own among = dones-full d s past w l end ws ws ms ms (at_begin event past) known plain (begin-midst past event) (no-more ws.wrote) found a own among

-- an answer, and marks behind it
verb-done : (d : Direction) (s : Correspondent) (past : Past) (w : World) (l : Link) (end : Past) (event : Event) (by : ℕ) (verb : Verb) (answer : Answer) (ms : List Mark) (ws : Writes)
    → Known d s past w l end (after_marks (marks.Verb by verb answer ∷ ms) (at_begin event past)) ws (writes_of_marks (marks.Verb by verb answer ∷ ms) (at_begin event past) ws) → AreInner ms → AreFound d s w l (marks.Verb by verb answer ∷ ms) ms
    → (a : WriteDone) → a.own ≡ s → Among a (writes_of_marks (marks.Verb by verb answer ∷ ms) (at_begin event past) ws).done → Among a ws.done ⊎ IsFull d a
verb-done d s past w l end event by verb answer ms ws known inner found a own among =
    dones-full d s past w l end ws (writes_after (at_begin event past) (marks.Verb by verb answer) ws) (marks.Verb by verb answer ∷ ms) ms one known (plain ms inner) mid (no-more ws.wrote) found a own among
  where
    q : Past
    q = record (at_begin event past) { at_hand = record (at_begin event past).at_hand { answered = Some (record { verb = verb; answer = answer }) } }

    one : Past
    one = after_mark (marks.Verb by verb answer) (at_begin event past)

    hand : SameHand q one
    hand = verb-hand verb answer q

    mid : Midst past one
    mid = record { lives = λ n. of n (verb-life n verb answer q); more = []; acted = hand.acted }
      where
        of : (n : QueueId) → VerbLife n (Destroys n verb answer) q one → (one.incarnation n ≡ past.incarnation n) ⊎ ((past.incarnation n < one.incarnation n) × (one.posted ≡ past.posted))
        of n (life_later more posted) = inr (more, posted)
        of n (life_stays is some) = inl is
        of n (life_ends is destroyed) = inl is

pub event-done : (d : Direction) (s : Correspondent) (past : Past) (w : World) (l : Link) (end : Past) (event : Event) (ms : List Mark) (ws : Writes) → Known d s past w l end (after_marks ms (at_begin event past)) ws (writes_of_marks ms (at_begin event past) ws) → Meets w event ms
    → AreFound d s w l ms ms → (a : WriteDone) → a.own ≡ s → Among a (writes_of_marks ms (at_begin event past) ws).done → Among a ws.done ⊎ IsFull d a
event-done d s past w l end (events.Verb by verb) [] ws known meets found = absurd meets.1
event-done d s past w l end (events.Verb by verb) (marks.Verb b other answer ∷ ms) ws known meets found = verb-done d s past w l end (events.Verb by verb) b other answer ms ws known meets.1.1 found.1
event-done d s past w l end (events.Verb by verb) (marks.Granted g ∷ ms) ws known meets found = absurd meets.1.0
event-done d s past w l end (events.Verb by verb) (marks.Revoked adapter key ∷ ms) ws known meets found = absurd meets.1.0
event-done d s past w l end (events.Verb by verb) (marks.Remote queue domain envelope key kind address count verdict ∷ ms) ws known meets found = absurd meets.1.0
event-done d s past w l end (events.Verb by verb) (marks.Local queue domain key kind address count verdict ∷ ms) ws known meets found = absurd meets.1.0
event-done d s past w l end (events.Verb by verb) (marks.Stored place bytes ∷ ms) ws known meets found = absurd meets.1.0
event-done d s past w l end (events.Verb by verb) (marks.Sent source target index request bytes ∷ ms) ws known meets found = absurd meets.1.0
event-done d s past w l end (events.Verb by verb) (marks.Lost target index ∷ ms) ws known meets found = absurd meets.1.0
event-done d s past w l end (events.Verb by verb) (marks.Arrived target index ∷ ms) ws known meets found = absurd meets.1.0
event-done d s past w l end (events.Verb by verb) (marks.Dropped target cause ∷ ms) ws known meets found = absurd meets.1.0
event-done d s past w l end (events.Verb by verb) (marks.Timer queue silent ∷ ms) ws known meets found = absurd meets.1.0
event-done d s past w l end (events.Verb by verb) (marks.Done queue x cause ∷ ms) ws known meets found = absurd meets.1.0
event-done d s past w l end (events.Request queue lot) ms ws known meets found = plain-done d s past w l end (events.Request queue lot) ms ws known meets.1 found
event-done d s past w l end (events.Respond queue lot) ms ws known meets found = plain-done d s past w l end (events.Respond queue lot) ms ws known meets.1 found
event-done d s past w l end (events.Timeout queue hasten) ms ws known meets found = plain-done d s past w l end (events.Timeout queue hasten) ms ws known (plain ms (own-inner ms meets)) found
event-done d s past w l end (events.RnrWake queue) ms ws known meets found = plain-done d s past w l end (events.RnrWake queue) ms ws known (plain ms (own-inner ms meets)) found
event-done d s past w l end (events.Deliver queue index) ms ws known meets found = plain-done d s past w l end (events.Deliver queue index) ms ws known
    (plain ms (subst AreInner (sym meets.are) (record {}, own-inner meets.rest meets.own))) found
