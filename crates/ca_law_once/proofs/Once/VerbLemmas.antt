-- What the answer of a verb makes of the envelopes that were sent to a queue pair, of its life and of its peer. For proofs only.
use Rattle.std.proofs.Common.{◌≡◌, suc, ◌⊎◌, inl, inr, Bool, true, false, if◌then◌else◌, List, [], ◌∷◌, map, length, Option, None, Some, is_some, refl, ap, ap₂, ◌∙◌}
use Rattle.ca_base.specs.declared.change.Change.{Change}
use Rattle.ca_base.specs.declared.change.Change.TheVariants as changes
use Rattle.ca_base.specs.declared.correspondent.Correspondent.{Correspondent}
use Rattle.ca_connection.specs.Link.{RequestPacket}
use Rattle.ca_keys.specs.Equal.{queue_eq}
use Rattle.ca_keys.specs.Numbers.{queue_of}
use Rattle.ca_keys.specs.declared.names.QueueId.{QueueId}
use Rattle.ca_law_world.proofs.Sound.SettledLemmas.{queue-path}
use Rattle.ca_model.specs.Past.{Envelope, Naming, Past, after_change, after_verb, present_incarnation, with_cut}
use Rattle.ca_model.specs.declared.answer.Answer.{Answer}
use Rattle.ca_model.specs.declared.answer.Answer.TheVariants as answers
use Rattle.ca_model.specs.declared.verb.Verb.{Verb}
use Rattle.ca_model.specs.declared.verb.Verb.TheVariants as verbs
use Rattle.ca_law_once.specs.OnceTold.{AreSentBy, IsSentBy}

-- the verb made this queue pair
abbrev pub Makes : QueueId → Verb → Answer → Type 0
Makes n (verbs.CreateQp slot send_cq recv_cq send_depth recv_depth srq) (answers.Queue number incarnation) = queue_of slot ≡ n
Makes n verb answer = ⊥

-- What is left: the envelopes, the life and the peer, or another peer; or the envelopes are cut; or the queue pair was made.
pub data VerbMail (n : QueueId) (made : Type 0) (p r : Past) : Type 0 where
  kept : r.envelopes n ≡ p.envelopes n → r.incarnation n ≡ p.incarnation n → (r.naming n ≡ p.naming n) ⊎ (is_some (r.naming n) ≡ true) → VerbMail n made p r
  cut : r.envelopes n ≡ map with_cut (p.envelopes n) → VerbMail n made p r
  makes : r.envelopes n ≡ p.envelopes n → made → VerbMail n made p r

change-mail : (n : QueueId) (q : QueueId) (change : Change) (p : Past) → VerbMail n ⊥ p (after_change q change p)
change-mail n q changes.Reset p = by (queue_eq q n) refl
  where
    by : (b : Bool) → queue_eq q n ≡ b → VerbMail n ⊥ p (after_change q changes.Reset p)
    by true is = cut (ap (λ b. if b then map with_cut (p.envelopes q) else p.envelopes n) is ∙ ap (λ m. map with_cut (p.envelopes m)) (queue-path q n is))
    by false is = kept (ap (λ b. if b then map with_cut (p.envelopes q) else p.envelopes n) is) (ap (λ b. if b then suc (p.incarnation q) else p.incarnation n) is)
        (inl (ap₂ naming is is))
      where
        naming : Bool → Bool → Option Naming
        naming a b = if a then None else (if b then None else p.naming n)
change-mail n q changes.Init p = kept refl refl (inl refl)
change-mail n q (changes.Rtr peer incarnation psn mtu rnr_code) p = kept refl refl (by (queue_eq q n) refl)
  where
    named : Naming
    named = record { own = present_incarnation p q; peer = record { queue = peer; incarnation = incarnation }; psn = psn; mtu = mtu }

    by : (b : Bool) → queue_eq q n ≡ b → ((if queue_eq q n then Some named else p.naming n) ≡ p.naming n) ⊎ (is_some (if queue_eq q n then Some named else p.naming n) ≡ true)
    by true is = inr (ap (λ b. is_some (if b then Some named else p.naming n)) is)
    by false is = inl (ap (λ b. if b then Some named else p.naming n) is)
change-mail n q (changes.Rts psn retry rnr_retry reads) p = kept refl refl (inl refl)
change-mail n q changes.Sqd p = kept refl refl (inl refl)
change-mail n q changes.Resume p = kept refl refl (inl refl)
change-mail n q changes.Error p = kept refl refl (inl refl)

as-made : (n : QueueId) (made : Type 0) (p r : Past) → VerbMail n ⊥ p r → VerbMail n made p r
as-made n made p r (kept is life naming) = kept is life naming
as-made n made p r (cut is) = cut is
as-made n made p r (makes is none) = absurd none

pub verb-mail : (n : QueueId) (verb : Verb) (answer : Answer) (p : Past) → VerbMail n (Makes n verb answer) p (after_verb verb answer p)
verb-mail n (verbs.AllocPd domain) answer p = kept refl refl (inl refl)
verb-mail n (verbs.DeallocPd domain) answer p = kept refl refl (inl refl)
verb-mail n (verbs.RegMr slot buffer offset count rights) answer p = kept refl refl (inl refl)
verb-mail n (verbs.AllocMr slot pages) answer p = kept refl refl (inl refl)
verb-mail n (verbs.DeregMr slot) answer p = kept refl refl (inl refl)
verb-mail n (verbs.AllocMw slot kind) answer p = kept refl refl (inl refl)
verb-mail n (verbs.DeallocMw slot) answer p = kept refl refl (inl refl)
verb-mail n (verbs.CreateCq slot capacity) answers.Fine p = kept refl refl (inl refl)
verb-mail n (verbs.CreateCq slot capacity) answer p = kept refl refl (inl refl)
verb-mail n (verbs.DestroyCq slot) answer p = kept refl refl (inl refl)
verb-mail n (verbs.CreateSrq slot depth) answers.Fine p = kept refl refl (inl refl)
verb-mail n (verbs.CreateSrq slot depth) answer p = kept refl refl (inl refl)
verb-mail n (verbs.DestroySrq slot) answer p = kept refl refl (inl refl)
verb-mail n (verbs.CreateQp slot send_cq recv_cq send_depth recv_depth srq) (answers.Queue number incarnation) p = by (queue_eq (queue_of slot) n) refl
  where
    q : QueueId
    q = queue_of slot

    r : Past
    r = after_verb (verbs.CreateQp slot send_cq recv_cq send_depth recv_depth srq) (answers.Queue number incarnation) p

    by : (b : Bool) → queue_eq q n ≡ b → VerbMail n (q ≡ n) p r
    by true is = makes refl (queue-path q n is)
    by false is = kept refl (ap (λ b. if b then suc (p.incarnation q) else p.incarnation n) is) (inl (ap naming is))
      where
        naming : Bool → Option Naming
        naming b = if b then None else p.naming n
verb-mail n (verbs.CreateQp slot send_cq recv_cq send_depth recv_depth srq) answer p = kept refl refl (inl refl)
verb-mail n (verbs.ModifyQp slot change) answers.Fine p = as-made n ⊥ p (after_change (queue_of slot) change p) (change-mail n (queue_of slot) change p)
verb-mail n (verbs.ModifyQp slot change) answer p = kept refl refl (inl refl)
verb-mail n (verbs.QueryQp slot) answer p = kept refl refl (inl refl)
verb-mail n (verbs.DestroyQp slot) answers.Fine p = by (queue_eq (queue_of slot) n) refl
  where
    q : QueueId
    q = queue_of slot

    by : (b : Bool) → queue_eq q n ≡ b → VerbMail n ⊥ p (after_verb (verbs.DestroyQp slot) answers.Fine p)
    by true is = cut (ap (λ b. if b then map with_cut (p.envelopes q) else p.envelopes n) is ∙ ap (λ m. map with_cut (p.envelopes m)) (queue-path q n is))
    by false is = kept (ap (λ b. if b then map with_cut (p.envelopes q) else p.envelopes n) is) refl (inl (ap naming is))
      where
        naming : Bool → Option Naming
        naming b = if b then None else p.naming n
verb-mail n (verbs.DestroyQp slot) answer p = kept refl refl (inl refl)
verb-mail n (verbs.PostSend slot request) (answers.Posted key) p = kept refl refl (inl refl)
verb-mail n (verbs.PostSend slot request) answer p = kept refl refl (inl refl)
verb-mail n (verbs.PostRecv slot request) (answers.Posted key) p = kept refl refl (inl refl)
verb-mail n (verbs.PostRecv slot request) answer p = kept refl refl (inl refl)
verb-mail n (verbs.PostSrq slot request) (answers.Posted key) p = kept refl refl (inl refl)
verb-mail n (verbs.PostSrq slot request) answer p = kept refl refl (inl refl)
verb-mail n (verbs.Poll slot count least) (answers.Polled completions) p = kept refl refl (inl refl)
verb-mail n (verbs.Poll slot count least) answer p = kept refl refl (inl refl)
verb-mail n (verbs.Store adapter buffer offset bytes) answer p = kept refl refl (inl refl)
verb-mail n (verbs.Load adapter buffer offset count) answer p = kept refl refl (inl refl)
verb-mail n (verbs.Inject queue bytes) answers.Fine p = kept refl refl (inl refl)
verb-mail n (verbs.Inject queue bytes) answer p = kept refl refl (inl refl)

-- an answer leaves what is at hand, and the atomics that acted
pub record SameHand (p r : Past) : Type 0 where
  pub hand : r.at_hand ≡ p.at_hand
  pub acted : r.acted ≡ p.acted
  pub succeeded : r.succeeded ≡ p.succeeded

change-hand : (q : QueueId) (change : Change) (p : Past) → SameHand p (after_change q change p)
change-hand q changes.Reset p = record { hand = refl; acted = refl; succeeded = refl }
change-hand q changes.Init p = record { hand = refl; acted = refl; succeeded = refl }
change-hand q (changes.Rtr peer incarnation psn mtu rnr_code) p = record { hand = refl; acted = refl; succeeded = refl }
change-hand q (changes.Rts psn retry rnr_retry reads) p = record { hand = refl; acted = refl; succeeded = refl }
change-hand q changes.Sqd p = record { hand = refl; acted = refl; succeeded = refl }
change-hand q changes.Resume p = record { hand = refl; acted = refl; succeeded = refl }
change-hand q changes.Error p = record { hand = refl; acted = refl; succeeded = refl }

pub verb-hand : (verb : Verb) (answer : Answer) (p : Past) → SameHand p (after_verb verb answer p)
verb-hand (verbs.AllocPd domain) answer p = record { hand = refl; acted = refl; succeeded = refl }
verb-hand (verbs.DeallocPd domain) answer p = record { hand = refl; acted = refl; succeeded = refl }
verb-hand (verbs.RegMr slot buffer offset count rights) answer p = record { hand = refl; acted = refl; succeeded = refl }
verb-hand (verbs.AllocMr slot pages) answer p = record { hand = refl; acted = refl; succeeded = refl }
verb-hand (verbs.DeregMr slot) answer p = record { hand = refl; acted = refl; succeeded = refl }
verb-hand (verbs.AllocMw slot kind) answer p = record { hand = refl; acted = refl; succeeded = refl }
verb-hand (verbs.DeallocMw slot) answer p = record { hand = refl; acted = refl; succeeded = refl }
verb-hand (verbs.CreateCq slot capacity) answers.Fine p = record { hand = refl; acted = refl; succeeded = refl }
verb-hand (verbs.CreateCq slot capacity) answer p = record { hand = refl; acted = refl; succeeded = refl }
verb-hand (verbs.DestroyCq slot) answer p = record { hand = refl; acted = refl; succeeded = refl }
verb-hand (verbs.CreateSrq slot depth) answers.Fine p = record { hand = refl; acted = refl; succeeded = refl }
verb-hand (verbs.CreateSrq slot depth) answer p = record { hand = refl; acted = refl; succeeded = refl }
verb-hand (verbs.DestroySrq slot) answer p = record { hand = refl; acted = refl; succeeded = refl }
verb-hand (verbs.CreateQp slot send_cq recv_cq send_depth recv_depth srq) (answers.Queue number incarnation) p = record { hand = refl; acted = refl; succeeded = refl }
verb-hand (verbs.CreateQp slot send_cq recv_cq send_depth recv_depth srq) answer p = record { hand = refl; acted = refl; succeeded = refl }
verb-hand (verbs.ModifyQp slot change) answers.Fine p = change-hand (queue_of slot) change p
verb-hand (verbs.ModifyQp slot change) answer p = record { hand = refl; acted = refl; succeeded = refl }
verb-hand (verbs.QueryQp slot) answer p = record { hand = refl; acted = refl; succeeded = refl }
verb-hand (verbs.DestroyQp slot) answers.Fine p = record { hand = refl; acted = refl; succeeded = refl }
verb-hand (verbs.DestroyQp slot) answer p = record { hand = refl; acted = refl; succeeded = refl }
verb-hand (verbs.PostSend slot request) (answers.Posted key) p = record { hand = refl; acted = refl; succeeded = refl }
verb-hand (verbs.PostSend slot request) answer p = record { hand = refl; acted = refl; succeeded = refl }
verb-hand (verbs.PostRecv slot request) (answers.Posted key) p = record { hand = refl; acted = refl; succeeded = refl }
verb-hand (verbs.PostRecv slot request) answer p = record { hand = refl; acted = refl; succeeded = refl }
verb-hand (verbs.PostSrq slot request) (answers.Posted key) p = record { hand = refl; acted = refl; succeeded = refl }
verb-hand (verbs.PostSrq slot request) answer p = record { hand = refl; acted = refl; succeeded = refl }
verb-hand (verbs.Poll slot count least) (answers.Polled completions) p = record { hand = refl; acted = refl; succeeded = refl }
verb-hand (verbs.Poll slot count least) answer p = record { hand = refl; acted = refl; succeeded = refl }
verb-hand (verbs.Store adapter buffer offset bytes) answer p = record { hand = refl; acted = refl; succeeded = refl }
verb-hand (verbs.Load adapter buffer offset count) answer p = record { hand = refl; acted = refl; succeeded = refl }
verb-hand (verbs.Inject queue bytes) answers.Fine p = record { hand = refl; acted = refl; succeeded = refl }
verb-hand (verbs.Inject queue bytes) answer p = record { hand = refl; acted = refl; succeeded = refl }

-- envelopes that were cut are those of the same entries
pub cut-sources : (s : Correspondent) (xs : List (Option RequestPacket)) (es : List Envelope) → AreSentBy s xs es → AreSentBy s xs (map with_cut es)
cut-sources s [] es sent = record {}
cut-sources s (x ∷ xs) [] sent = absurd sent
cut-sources s (x ∷ xs) (e ∷ es) sent = (by x sent.0, cut-sources s xs es sent.1)
  where
    by : (x : Option RequestPacket) → IsSentBy s x e → IsSentBy s x (with_cut e)
    by None one = one
    by (Some p) one = one

pub cut-length : (es : List Envelope) → length (map with_cut es) ≡ length es
cut-length [] = refl
cut-length (e ∷ es) = ap suc (cut-length es)
