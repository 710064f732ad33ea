-- The peer that a queue pair of a past has named is that of an Rtr of its present life. For proofs only.
use Rattle.std.proofs.Common.{◌≡◌, ℕ, suc, inl, inr, Bool, true, false, if◌then◌else◌, List, [], ◌∷◌, Option, None, Some, is_some, refl, ap, sym, ◌∙◌, true≢false}
use Rattle.std.proofs.lemmas.Option.{same_Some}
use Rattle.ca_base.specs.declared.change.Change.{Change}
use Rattle.ca_base.specs.declared.change.Change.TheVariants as changes
use Rattle.ca_keys.specs.Equal.{queue_eq}
use Rattle.ca_keys.specs.Numbers.{queue_of}
use Rattle.ca_keys.specs.declared.names.QueueId.{QueueId}
use Rattle.ca_law_world.proofs.Sound.SettledLemmas.{queue-path}
use Rattle.ca_model.specs.Entries.{EntryValue}
use Rattle.ca_model.specs.Past.{Naming, Past, after_change, after_entry, after_mark, after_marks, after_verb, at_begin, present_incarnation, with_at}
use Rattle.ca_model.specs.declared.answer.Answer.{Answer}
use Rattle.ca_model.specs.declared.answer.Answer.TheVariants as answers
use Rattle.ca_model.specs.declared.mark.Mark.{Mark}
use Rattle.ca_model.specs.declared.mark.Mark.TheVariants as marks
use Rattle.ca_model.specs.declared.verb.Verb.{Verb}
use Rattle.ca_model.specs.declared.verb.Verb.TheVariants as verbs
use Rattle.ca_law_once.proofs.Once.NoteLemmas.{Among}

pub record AreNamed (incarnation : QueueId → ℕ) (naming : QueueId → Option Naming) (namings : List Naming) : Type 0 where
  pub among : (n : QueueId) (x : Naming) → naming n ≡ Some x → Among x namings
  pub own : (n : QueueId) (x : Naming) → naming n ≡ Some x → x.own ≡ record { queue = n; incarnation = incarnation n }

abbrev pub PeersAreNamed : Past → Type 0
PeersAreNamed p = AreNamed p.incarnation p.naming p.namings

-- a queue pair that has named nobody now
forgets : (q : QueueId) (lives later : QueueId → ℕ) (naming : QueueId → Option Naming) (namings : List Naming) → ((n : QueueId) → queue_eq q n ≡ false → later n ≡ lives n) → AreNamed lives naming namings
    → AreNamed later (with_at queue_eq naming q None) namings
forgets q lives later naming namings keeps named = record { among = λ n x is. among n x (queue_eq q n) is; own = λ n x is. own n x (queue_eq q n) refl is }
  where
    among : (n : QueueId) (x : Naming) (b : Bool) → (if b then None else naming n) ≡ Some x → Among x namings
    among n x true is = absurd (true≢false (sym (ap is_some is)))
    among n x false is = named.among n x is

    own : (n : QueueId) (x : Naming) (b : Bool) → queue_eq q n ≡ b → (if b then None else naming n) ≡ Some x → x.own ≡ record { queue = n; incarnation = later n }
    own n x true e is = absurd (true≢false (sym (ap is_some is)))
    own n x false e is = named.own n x is ∙ ap (λ (i : ℕ). record { queue = n; incarnation = i }) (sym (keeps n e))

-- one that begins a new life
begins : (q : QueueId) (p : Past) (naming : QueueId → Option Naming) → AreNamed p.incarnation naming p.namings
    → AreNamed (with_at queue_eq p.incarnation q (suc (p.incarnation q))) (with_at queue_eq naming q None) p.namings
begins q p naming named = forgets q p.incarnation (with_at queue_eq p.incarnation q (suc (p.incarnation q))) naming p.namings
    (λ n e. ap (λ b. if b then suc (p.incarnation q) else p.incarnation n) e) named

-- one that names a peer
names : (q : QueueId) (p : Past) (new : Naming) → new.own ≡ present_incarnation p q → PeersAreNamed p → AreNamed p.incarnation (with_at queue_eq p.naming q (Some new)) (new ∷ p.namings)
names q p new is_own named = record { among = λ n x is. among n x (queue_eq q n) is; own = λ n x is. own n x (queue_eq q n) refl is }
  where
    among : (n : QueueId) (x : Naming) (b : Bool) → (if b then Some new else p.naming n) ≡ Some x → Among x (new ∷ p.namings)
    among n x true is = inl (same_Some new x is)
    among n x false is = inr (named.among n x is)

    own : (n : QueueId) (x : Naming) (b : Bool) → queue_eq q n ≡ b → (if b then Some new else p.naming n) ≡ Some x → x.own ≡ record { queue = n; incarnation = p.incarnation n }
    own n x true e is = ap (λ (y : Naming). y.own) (sym (same_Some new x is)) ∙ is_own ∙ ap (λ m. present_incarnation p m) (queue-path q n e)
    own n x false e is = named.own n x is

change-named : (q : QueueId) (change : Change) (p : Past) → PeersAreNamed p → PeersAreNamed (after_change q change p)
change-named q changes.Reset p named = begins q p (with_at queue_eq p.naming q None) (forgets q p.incarnation p.incarnation p.naming p.namings (λ n e. refl) named)
change-named q changes.Init p named = named
change-named q (changes.Rtr peer incarnation psn mtu rnr_code) p named =
    names q p (record { own = present_incarnation p q; peer = record { queue = peer; incarnation = incarnation }; psn = psn; mtu = mtu }) refl named
change-named q (changes.Rts psn retry rnr_retry reads) p named = named
change-named q changes.Sqd p named = named
change-named q changes.Resume p named = named
change-named q changes.Error p named = named

verb-named : (verb : Verb) (answer : Answer) (p : Past) → PeersAreNamed p → PeersAreNamed (after_verb verb answer p)
verb-named (verbs.AllocPd domain) answer p named = named
verb-named (verbs.DeallocPd domain) answer p named = named
verb-named (verbs.RegMr slot buffer offset count rights) answer p named = named
verb-named (verbs.AllocMr slot pages) answer p named = named
verb-named (verbs.DeregMr slot) answer p named = named
verb-named (verbs.AllocMw slot kind) answer p named = named
verb-named (verbs.DeallocMw slot) answer p named = named
verb-named (verbs.CreateCq slot capacity) answers.Fine p named = named
verb-named (verbs.CreateCq slot capacity) answer p named = named
verb-named (verbs.DestroyCq slot) answer p named = named
verb-named (verbs.CreateSrq slot depth) answers.Fine p named = named
verb-named (verbs.CreateSrq slot depth) answer p named = named
verb-named (verbs.DestroySrq slot) answer p named = named
verb-named (verbs.CreateQp slot send_cq recv_cq send_depth recv_depth srq) (answers.Queue number incarnation) p named = begins (queue_of slot) p p.naming named
verb-named (verbs.CreateQp slot send_cq recv_cq send_depth recv_depth srq) answer p named = named
verb-named (verbs.ModifyQp slot change) answers.Fine p named = change-named (queue_of slot) change p named
verb-named (verbs.ModifyQp slot change) answer p named = named
verb-named (verbs.QueryQp slot) answer p named = named
verb-named (verbs.DestroyQp slot) answers.Fine p named = forgets (queue_of slot) p.incarnation p.incarnation p.naming p.namings (λ n e. refl) named
verb-named (verbs.DestroyQp slot) answer p named = named
verb-named (verbs.PostSend slot request) (answers.Posted key) p named = named
verb-named (verbs.PostSend slot request) answer p named = named
verb-named (verbs.PostRecv slot request) (answers.Posted key) p named = named
verb-named (verbs.PostRecv slot request) answer p named = named
verb-named (verbs.PostSrq slot request) (answers.Posted key) p named = named
verb-named (verbs.PostSrq slot request) answer p named = named
verb-named (verbs.Poll slot count least) (answers.Polled completions) p named = named
verb-named (verbs.Poll slot count least) answer p named = named
verb-named (verbs.Store adapter buffer offset bytes) answer p named = named
verb-named (verbs.Load adapter buffer offset count) answer p named = named
verb-named (verbs.Inject queue bytes) answers.Fine p named = named
verb-named (verbs.Inject queue bytes) answer p named = named

mark-named : (m : Mark) (p : Past) → PeersAreNamed p → PeersAreNamed (after_mark m p)
mark-named (marks.Verb by verb answer) p named = verb-named verb answer (record p { at_hand = record p.at_hand { answered = Some (record { verb = verb; answer = answer }) } }) named
mark-named (marks.Granted g) p named = named
mark-named (marks.Revoked adapter key) p named = named
mark-named (marks.Remote queue domain envelope key kind address count verdict) p named = named
mark-named (marks.Local queue domain key kind address count verdict) p named = named
mark-named (marks.Stored place bytes) p named = named
mark-named (marks.Sent source target index request bytes) p named = named
mark-named (marks.Lost target None) p named = named
mark-named (marks.Lost target (Some index)) p named = named
mark-named (marks.Arrived target index) p named = named
mark-named (marks.Dropped target cause) p named = named
mark-named (marks.Timer queue silent) p named = named
mark-named (marks.Done queue x cause) p named = named

marks-named : (ms : List Mark) (p : Past) → PeersAreNamed p → PeersAreNamed (after_marks ms p)
marks-named [] p named = named
marks-named (m ∷ ms) p named = marks-named ms (after_mark m p) (mark-named m p named)

pub entry-named : (e : EntryValue) (p : Past) → PeersAreNamed p → PeersAreNamed (after_entry e p)
entry-named e p named = marks-named e.marks (at_begin e.event p) named
