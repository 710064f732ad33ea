-- Along a history in which a group is closed, its queue pairs and mailboxes name and accept its own. For proofs only.
use Rattle.std.proofs.Common.{◌≡◌, ◌∙◌, ℕ, ◌&&◌, nat_lt, arith, Bool, true, false, not, List, [], ◌∷◌, ◌++◌, Option, None, Some, IfSome, if◌then◌else◌, ap, refl, subst, sym, true≢false}
use Rattle.std.proofs.lemmas.Bool.{le-ltb}
use Rattle.std.specs.List.{AllByRecursion, flat_map}
use Rattle.std.specs.Option.{option_map_or}
use Rattle.ca_law_endings.proofs.PathEventLemmas.{paths-along}
use Rattle.ca_law_endings.specs.Agreement.{HoldsAlong, PathsAgree, peer_in, peer_named}
use Rattle.ca_base.specs.Configuration.{Configuration}
use Rattle.ca_base.specs.declared.change.Change.{Change}
use Rattle.ca_base.specs.declared.change.Change.TheVariants as changes
use Rattle.ca_base.specs.objects.QueuePair.{NoQueue, Present, QueueSlot}
use Rattle.ca_isolation.specs.Groups.{Group, is_closed, is_queue_of, strays_by, strays_of}
use Rattle.ca_keys.specs.Equal.{queue_eq}
use Rattle.ca_keys.specs.Memory.{ByteMap}
use Rattle.ca_keys.specs.Numbers.{domain_of, queue_of}
use Rattle.ca_keys.specs.declared.names.QueueId.{QueueId}
use Rattle.ca_keys.specs.declared.names.Slot.{Slot}
use Rattle.ca_law_isolation.specs.Domains.{IsPeerOf, StaysWithin}
use Rattle.ca_law_isolation.proofs.TableLemmas.{Has}
use Rattle.ca_model.proofs.ThingLemmas.{queue-path}
use Rattle.ca_model.specs.Entries.{EntryValue}
use Rattle.ca_model.specs.Licensed.{is_empty}
use Rattle.ca_model.specs.Past.{Naming, Past, after_entry, after_mark, after_marks, after_verb, at_begin, opening_past, with_at}
use Rattle.ca_model.specs.declared.answer.Answer.{Answer}
use Rattle.ca_model.specs.declared.answer.Answer.TheVariants as answers
use Rattle.ca_model.specs.declared.mark.Mark.{Mark}
use Rattle.ca_model.specs.declared.mark.Mark.TheVariants as marks
use Rattle.ca_model.specs.declared.verb.Verb.{Verb}
use Rattle.ca_model.specs.declared.verb.Verb.TheVariants as verbs
use Rattle.ca_model.specs.machine.Frame.{Afterwards}
use Rattle.ca_model.specs.machine.Plan.{Did, NotReady, Outcome}
use Rattle.ca_model.specs.machine.Run.{Follows}
use Rattle.ca_model.specs.machine.Sound.{AreLimited, CanBeMade}
use Rattle.ca_model.specs.machine.Step.{step}
use Rattle.ca_model.specs.machine.World.{World, opening_world}

-- each queue pair of the group named one of the group
abbrev NamesWithin : Group → (QueueId → Option Naming) → Type 0
NamesWithin g naming = (q : QueueId) → Has g (domain_of q) → IfSome (naming q) (λ n. Has g (domain_of n.peer.queue))

named-anew : (g : Group) (naming : QueueId → Option Naming) (q : QueueId) (o : Option Naming) → NamesWithin g naming
    → (Has g (domain_of q) → IfSome o (λ n. Has g (domain_of n.peer.queue))) → NamesWithin g (with_at queue_eq naming q o)
named-anew g naming q o within one x has = by (queue_eq q x) refl
  where
    by : (b : Bool) → queue_eq q x ≡ b → IfSome (if b then o else naming x) (λ n. Has g (domain_of n.peer.queue))
    by true same = one (subst (λ (y : QueueId). Has g (domain_of y)) (sym (queue-path q x same)) has)
    by false other = within x has

unnamed : (g : Group) (naming : QueueId → Option Naming) (q : QueueId) → NamesWithin g naming → NamesWithin g (with_at queue_eq naming q None)
unnamed g naming q within = named-anew g naming q None within (λ has. record {})

-- a queue pair of the group, by the test
pub of-group : (g : Group) (q : QueueId) → is_queue_of g q ≡ true → Has g (domain_of q)
of-group g q is = by (nat_lt q.number 256) is
  where
    by : (b : Bool) → option_map_or g (if b then None else Some (domain_of q)) false ≡ true → Has g (domain_of q)
    by true none = absurd (true≢false (sym none))
    by false is = is

slot-of-group : (g : Group) (s : Slot) → Has g (domain_of (queue_of s)) → is_queue_of g (queue_of s) ≡ true
slot-of-group g s has = ap (λ b. option_map_or g (if b then None else Some (domain_of (queue_of s))) false) (le-ltb (queue_of s).number 256 (omega arith)) ∙ has

-- where the Rtr of a queue pair of the group is no stray, its peer is of the group
peer-within : (g : Group) (s : Slot) (peer : QueueId)
    → is_empty (if is_queue_of g (queue_of s) && not (is_queue_of g peer) then queue_of s ∷ [] else []) ≡ true → Has g (domain_of (queue_of s)) → Has g (domain_of peer)
peer-within g s peer none has = by (is_queue_of g peer) refl
  where
    none-here : (b : Bool) → is_queue_of g peer ≡ b → is_empty (if true && not b then queue_of s ∷ [] else []) ≡ true
    none-here b is = subst (λ x. is_empty (if true && not x then queue_of s ∷ [] else []) ≡ true) is
        (subst (λ x. is_empty (if x && not (is_queue_of g peer) then queue_of s ∷ [] else []) ≡ true) (slot-of-group g s has) none)

    by : (b : Bool) → is_queue_of g peer ≡ b → Has g (domain_of peer)
    by true is = of-group g peer is
    by false is = absurd (true≢false (sym (none-here false is)))

-- ---- marks

names-change : (g : Group) (by : ℕ) (s : Slot) (change : Change) (past : Past) → is_empty (strays_by g (marks.Verb by (verbs.ModifyQp s change) answers.Fine)) ≡ true → NamesWithin g past.naming
    → NamesWithin g (after_verb (verbs.ModifyQp s change) answers.Fine past).naming
names-change g by s changes.Reset past none within = unnamed g (with_at queue_eq past.naming (queue_of s) None) (queue_of s) (unnamed g past.naming (queue_of s) within)
names-change g by s changes.Init past none within = within
names-change g by s (changes.Rtr peer incarnation psn mtu rnr_code) past none within = named-anew g past.naming (queue_of s) _ within (peer-within g s peer none)
names-change g by s (changes.Rts psn retry rnr_retry reads) past none within = within
names-change g by s changes.Sqd past none within = within
names-change g by s changes.Resume past none within = within
names-change g by s changes.Error past none within = within

names-verb : (g : Group) (by : ℕ) (verb : Verb) (answer : Answer) (past : Past) → is_empty (strays_by g (marks.Verb by verb answer)) ≡ true → NamesWithin g past.naming
    → NamesWithin g (after_verb verb answer past).naming
names-verb g by (verbs.CreateQp slot send_cq recv_cq send_depth recv_depth srq) (answers.Queue number incarnation) past none within = unnamed g past.naming (queue_of slot) within
names-verb g by (verbs.ModifyQp slot change) answers.Fine past none within = names-change g by slot change past none within
names-verb g by (verbs.DestroyQp slot) answers.Fine past none within = unnamed g past.naming (queue_of slot) within
names-verb g by (verbs.CreateCq slot capacity) answers.Fine past none within = within
names-verb g by (verbs.CreateSrq slot depth) answers.Fine past none within = within
names-verb g by (verbs.PostSend slot request) (answers.Posted key) past none within = within
names-verb g by (verbs.PostRecv slot request) (answers.Posted key) past none within = within
names-verb g by (verbs.PostSrq slot request) (answers.Posted key) past none within = within
names-verb g by (verbs.Poll slot n least) (answers.Polled completions) past none within = within
names-verb g by (verbs.Inject queue bytes) answers.Fine past none within = within
names-verb g by verb answer past none within = within

names-mark : (g : Group) (m : Mark) (past : Past) → is_empty (strays_by g m) ≡ true → NamesWithin g past.naming → NamesWithin g (after_mark m past).naming
names-mark g (marks.Verb by verb answer) past none within =
    names-verb g by verb answer (record past { at_hand = record past.at_hand { answered = Some (record { verb = verb; answer = answer }) } }) none within
names-mark g (marks.Lost target (Some index)) past none within = within
names-mark g (marks.Lost target None) past none within = within
names-mark g m past none within = within

empty-parts : {A : Type 0} (xs ys : List A) → is_empty (xs ++ ys) ≡ true → (is_empty xs ≡ true) × (is_empty ys ≡ true)
empty-parts [] ys e = (refl, e)
empty-parts (x ∷ xs) ys e = absurd (true≢false (sym e))

names-marks : (g : Group) (ms : List Mark) (past : Past) → is_empty (flat_map (strays_by g) ms) ≡ true → NamesWithin g past.naming → NamesWithin g (after_marks ms past).naming
names-marks g [] past none within = within
names-marks g (m ∷ ms) past none within = names-marks g ms (after_mark m past) (empty-parts (strays_by g m) (flat_map (strays_by g) ms) none).1
    (names-mark g m past (empty-parts (strays_by g m) (flat_map (strays_by g) ms) none).0 within)

-- ---- histories

-- where past and world agree on paths, queue pairs and mailboxes are as the past tells
stays : (g : Group) (past : Past) (w : World) → NamesWithin g past.naming → PathsAgree past w → StaysWithin g w
stays g past w within agree = record {
  accepts = λ q has. subst (λ o. IfSome o (λ p. g (domain_of p.queue) ≡ true)) (sym (agree.accepted q)) (named (past.naming q) (within q has));
  peers = λ q has. by (w.queue q) (subst (λ o. IfSome o (λ p. g (domain_of p.queue) ≡ true)) (sym (agree.peers q)) (named (past.naming q) (within q has)));
}
  where
    named : (o : Option Naming) → IfSome o (λ n. Has g (domain_of n.peer.queue)) → IfSome (peer_named o) (λ p. g (domain_of p.queue) ≡ true)
    named None all = record {}
    named (Some n) all = all

    by : (s : QueueSlot) → IfSome (peer_in s) (λ p. g (domain_of p.queue) ≡ true) → IsPeerOf g s
    by (NoQueue incarnation timers) all = record {}
    by (Present q) all = all

along : (g : Group) (c : Configuration) (past : Past) (w : World) (es : List EntryValue) → is_closed g es ≡ true → NamesWithin g past.naming → HoldsAlong PathsAgree c past w es
    → HoldsAlong (λ past w. StaysWithin g w) c past w es
along g c past w [] closed within agree = stays g past w within agree
along g c past w (e ∷ es) closed within agree = (
  stays g past w within agree.0,
  by (step c w e.event) agree.1 (λ v rest. along g c (after_entry e past) v es (empty-parts (flat_map (strays_by g) e.marks) (strays_of g es) closed).1
      (names-marks g e.marks (at_begin e.event past) (empty-parts (flat_map (strays_by g) e.marks) (strays_of g es) closed).0 within) rest),
)
  where
    by : (o : Outcome) → Afterwards (λ v. HoldsAlong PathsAgree c (after_entry e past) v es) o
        → ((v : World) → HoldsAlong PathsAgree c (after_entry e past) v es → HoldsAlong (λ past w. StaysWithin g w) c (after_entry e past) v es)
        → Afterwards (λ v. HoldsAlong (λ past w. StaysWithin g w) c (after_entry e past) v es) o
    by (NotReady reason) rest more = record {}
    by (Did v ms) rest more = more v rest

pub closed-stays : (c : Configuration) (bytes : ByteMap) (es : List EntryValue) (g : Group) → AreLimited c → AllByRecursion (λ e. CanBeMade e.event) es → Follows c bytes es → is_closed g es ≡ true
    → HoldsAlong (λ past w. StaysWithin g w) c (opening_past bytes) (opening_world bytes) es
closed-stays c bytes es g limited made follows closed = along g c (opening_past bytes) (opening_world bytes) es closed (λ q has. record {}) (paths-along c bytes es limited made follows)
