-- A life names one peer at most, for good. For proofs only.
use Rattle.std.proofs.Common.{◌≡◌, ℕ, ◌<◌, ◌≤◌, nat_lt, if◌then◌else◌, ◌⊎◌, inl, inr, Bool, true, false, List, ◌∷◌, Option, None, Some, is_some, refl, ap, ap₂, sym, subst, ◌∙◌, arith, true≢false}
use Rattle.std.proofs.lemmas.Bool.{ltb-false, ltb-true}
use Rattle.ca_law_endings.proofs.InnerLemmas.{AreInner}
use Rattle.ca_law_endings.proofs.FitLemmas.{plain}
use Rattle.ca_law_endings.specs.Agreement.{PathsAgree, peer_in, peer_named}
use Rattle.ca_base.specs.declared.change.Change.{Change}
use Rattle.ca_base.specs.declared.change.Change.TheVariants as changes
use Rattle.ca_base.specs.declared.correspondent.Correspondent.{Correspondent}
use Rattle.ca_base.specs.declared.limits.TheConstants.{MIN_PATH_MTU}
use Rattle.ca_base.specs.objects.QueuePair.{is_present}
use Rattle.ca_keys.specs.Equal.{queue_eq}
use Rattle.ca_keys.specs.Numbers.{queue_of}
use Rattle.ca_keys.specs.declared.names.QueueId.{QueueId}
use Rattle.ca_keys.specs.declared.names.Slot.{Slot}
use Rattle.ca_law_world.proofs.Sound.SettledLemmas.{queue-refl}
use Rattle.ca_model.specs.History.{ArePlain}
use Rattle.ca_model.specs.Past.{Naming, Past, after_change, after_marks, after_verb, at_begin, present_incarnation}
use Rattle.ca_model.specs.declared.answer.Answer.{Answer}
use Rattle.ca_model.specs.declared.answer.Answer.TheVariants as answers
use Rattle.ca_model.specs.declared.event.Event.{Event}
use Rattle.ca_model.specs.declared.mark.Mark.{Mark}
use Rattle.ca_model.specs.declared.mark.Mark.TheVariants as marks
use Rattle.ca_model.specs.declared.verb.Verb.{Verb}
use Rattle.ca_model.specs.declared.verb.Verb.TheVariants as verbs
use Rattle.ca_model.specs.machine.World.{World}
use Rattle.ca_law_once.proofs.Once.LastingLemmas.{Lasting}
use Rattle.ca_law_once.proofs.Once.MarkLemmas.{SameLives, plain-lives}
use Rattle.ca_law_once.proofs.Once.NoteLemmas.{Among, Destroys, SameNotes, VerbLife, plain-notes, verb-life}
use Rattle.ca_law_once.proofs.Once.NoteLemmas.VerbLife.{later as life_later, stays as life_stays, ends as life_ends}
use Rattle.ca_law_once.proofs.Once.RightLemmas.{IsGone, IsRight, NamesWell, gone-destroyed}

-- The life of an Rtr is before the present one; or it is that, and has a peer if it is there.
abbrev pub IsPast : Past → World → Correspondent → Type 0
IsPast p w own = (own.incarnation < p.incarnation own.queue)
    ⊎ ((own.incarnation ≡ p.incarnation own.queue) × (is_present (w.queue own.queue) ≡ true → is_some (peer_in (w.queue own.queue)) ≡ true))

-- An Rtr that succeeded names another queue pair, in an incarnation that there can be, with a path MTU.
pub record IsNaming (p : Past) (w : World) (x : Naming) : Type 0 where
  pub life : IsPast p w x.own
  pub some : 0 < x.peer.incarnation
  pub other : queue_eq x.peer.queue x.own.queue ≡ false
  pub mtu : MIN_PATH_MTU ≤ x.mtu

-- All do so, and no life has two.
pub record AreNamings (p : Past) (w : World) : Type 0 where
  pub each : (x : Naming) → Among x p.namings → IsNaming p w x
  pub unique : (x y : Naming) → Among x p.namings → Among y p.namings → x.own ≡ y.own → x ≡ y

-- what an event makes of the life of a queue pair
record LifeAfter (n : QueueId) (p r : Past) (v : World) : Type 0 where
  grows : p.incarnation n ≤ r.incarnation n
  keeps : r.incarnation n ≡ p.incarnation n → is_some (p.naming n) ≡ true → is_present (v.queue n) ≡ true → is_some (r.naming n) ≡ true

-- a life that was past is so afterwards
past-after : (p r : Past) (w v : World) (own : Correspondent) → PathsAgree p w → PathsAgree r v → Lasting w v → LifeAfter own.queue p r v → IsPast p w own → IsPast r v own
past-after p r w v own before after lasting life (inl less) = inl (omega (arith, less, life.grows))
past-after p r w v own before after lasting life (inr is) = by (nat_lt (p.incarnation n) (r.incarnation n)) refl
  where
    n : QueueId
    n = own.queue

    still : r.incarnation n ≡ p.incarnation n → is_present (v.queue n) ≡ true → is_some (peer_in (v.queue n)) ≡ true
    still same there = has (is_present (w.queue n)) refl
      where
        of : (o : Option Naming) → is_some (peer_named o) ≡ true → is_some o ≡ true
        of None some = some
        of (Some x) some = refl

        to : (o : Option Naming) → is_some o ≡ true → is_some (peer_named o) ≡ true
        to None some = some
        to (Some x) some = refl

        has : (b : Bool) → is_present (w.queue n) ≡ b → is_some (peer_in (v.queue n)) ≡ true
        has true was = ap is_some (after.peers n) ∙ to (r.naming n) (life.keeps same (of (p.naming n) (ap is_some (sym (before.peers n)) ∙ is.1 was)) there)
        has false none = absurd (omega (arith, lasting n none there, before.incarnations n, after.incarnations n, same))

    by : (b : Bool) → nat_lt (p.incarnation n) (r.incarnation n) ≡ b → IsPast r v own
    by true more = inl (omega (arith, ltb-true (p.incarnation n) (r.incarnation n) more, is.0))
    by false none = let same : r.incarnation n ≡ p.incarnation n = omega (arith, ltb-false (p.incarnation n) (r.incarnation n) none, life.grows) in inr (is.0 ∙ sym same, still same)

-- namings that are the same
same-namings : (p r : Past) (w v : World) → PathsAgree p w → PathsAgree r v → Lasting w v → ((n : QueueId) → LifeAfter n p r v) → r.namings ≡ p.namings → AreNamings p w → AreNamings r v
same-namings p r w v before after lasting life same names = record {
  each = λ x among. let old = names.each x (subst (Among x) same among) in record {
    life = past-after p r w v x.own before after lasting (life x.own.queue) old.life;
    some = old.some;
    other = old.other;
    mtu = old.mtu;
  };
  unique = λ x y one other. names.unique x y (subst (Among x) same one) (subst (Among y) same other);
}

-- one more
more-namings : (p r : Past) (w v : World) (new : Naming) → PathsAgree p w → PathsAgree r v → Lasting w v → ((n : QueueId) → LifeAfter n p r v) → r.namings ≡ new ∷ p.namings → IsNaming r v new
    → (IsPast p w new.own → ⊥) → AreNamings p w → AreNamings r v
more-namings p r w v new before after lasting life same is fresh names = record {
  each = λ x among. each x (subst (Among x) same among);
  unique = λ x y one other own. unique x y (subst (Among x) same one) (subst (Among y) same other) own;
}
  where
    each : (x : Naming) → Among x (new ∷ p.namings) → IsNaming r v x
    each x (inl here) = subst (IsNaming r v) here is
    each x (inr there) = let old = names.each x there in record {
      life = past-after p r w v x.own before after lasting (life x.own.queue) old.life;
      some = old.some;
      other = old.other;
      mtu = old.mtu;
    }

    strange : (x y : Naming) → new ≡ x → Among y p.namings → x.own ≡ y.own → ⊥
    strange x y here there own = fresh (subst (IsPast p w) (sym own ∙ ap (λ (z : Naming). z.own) (sym here)) (names.each y there).life)

    unique : (x y : Naming) → Among x (new ∷ p.namings) → Among y (new ∷ p.namings) → x.own ≡ y.own → x ≡ y
    unique x y (inl one) (inl other) own = sym one ∙ other
    unique x y (inl one) (inr other) own = absurd (strange x y one other own)
    unique x y (inr one) (inl other) own = absurd (strange y x other one (sym own))
    unique x y (inr one) (inr other) own = names.unique x y one other own

-- marks that are no answers
pub plain-namings : (past : Past) (w v : World) (event : Event) (ms : List Mark) → PathsAgree past w → PathsAgree (after_marks ms (at_begin event past)) v → Lasting w v → ArePlain ms → AreNamings past w
    → AreNamings (after_marks ms (at_begin event past)) v
plain-namings past w v event ms before after lasting plain names = same-namings past r w v before after lasting life (plain-notes ms (at_begin event past) plain).namings names
  where
    r : Past
    r = after_marks ms (at_begin event past)

    lives : SameLives (at_begin event past) r
    lives = plain-lives ms (at_begin event past) plain

    life : (n : QueueId) → LifeAfter n past r v
    life n = record {
      grows = omega (arith, ap (λ (f : QueueId → ℕ). f n) lives.incarnation);
      keeps = λ same some there. ap (λ (f : QueueId → Option Naming). is_some (f n)) lives.naming ∙ some;
    }

-- an answer, and marks behind it
pub verb-namings : (past : Past) (w v : World) (event : Event) (by : ℕ) (verb : Verb) (answer : Answer) (ms : List Mark) → PathsAgree past w → PathsAgree (after_marks (marks.Verb by verb answer ∷ ms) (at_begin event past)) v
    → Lasting w v → AreInner ms → IsRight w verb answer → IsGone v verb answer → AreNamings past w → AreNamings (after_marks (marks.Verb by verb answer ∷ ms) (at_begin event past)) v
verb-namings past w v event by verb answer ms before after lasting inner right gone names = noted verb answer refl refl right
  where
    q : Past
    q = record (at_begin event past) { at_hand = record (at_begin event past).at_hand { answered = Some (record { verb = verb; answer = answer }) } }

    one : Past
    one = after_verb verb answer q

    r : Past
    r = after_marks ms one

    lives : SameLives one r
    lives = plain-lives ms one (plain ms inner)

    notes : SameNotes one r
    notes = plain-notes ms one (plain ms inner)

    life : (n : QueueId) → LifeAfter n past r v
    life n = of (verb-life n verb answer q)
      where
        same : r.incarnation n ≡ one.incarnation n
        same = ap (λ (f : QueueId → ℕ). f n) lives.incarnation

        of : VerbLife n (Destroys n verb answer) q one → LifeAfter n past r v
        of (life_later more posted) = record { grows = omega (arith, same, more); keeps = λ e some there. absurd (omega (arith, e, same, more)) }
        of (life_stays is some) = record {
          grows = omega (arith, same, is);
          keeps = λ e had there. ap (λ (f : QueueId → Option Naming). is_some (f n)) lives.naming ∙ some had;
        }
        of (life_ends is destroyed) = record { grows = omega (arith, same, is); keeps = λ e had there. absurd (true≢false (sym there ∙ gone-destroyed v n verb answer gone destroyed)) }

    unnoted : one.namings ≡ past.namings → AreNamings r v
    unnoted is = same-namings past r w v before after lasting life (notes.namings ∙ is) names

    -- an Rtr
    named : (slot : Slot) (peer : QueueId) (incarnation psn mtu rnr_code : ℕ) → verb ≡ verbs.ModifyQp slot (changes.Rtr peer incarnation psn mtu rnr_code) → answer ≡ answers.Fine → NamesWell w (queue_of slot) peer incarnation mtu → AreNamings r v
    named slot peer incarnation psn mtu rnr_code verb_is answer_is well = more-namings past r w v new before after lasting life (notes.namings ∙ grown) (record {
      life = inr (lived, λ there. has);
      some = well.some;
      other = well.other;
      mtu = well.mtu_is;
    }) fresh names
      where
        n : QueueId
        n = queue_of slot

        new : Naming
        new = record { own = present_incarnation past n; peer = record { queue = peer; incarnation = incarnation }; psn = psn; mtu = mtu }

        one_is : one ≡ after_change n (changes.Rtr peer incarnation psn mtu rnr_code) q
        one_is = ap₂ (λ a b. after_verb a b q) verb_is answer_is

        grown : one.namings ≡ new ∷ past.namings
        grown = ap (λ (p : Past). p.namings) one_is

        lived : past.incarnation n ≡ r.incarnation n
        lived = sym (ap (λ (f : QueueId → ℕ). f n) lives.incarnation ∙ ap (λ (p : Past). p.incarnation n) one_is)

        here : is_some (r.naming n) ≡ true
        here = ap (λ (f : QueueId → Option Naming). is_some (f n)) lives.naming ∙ ap (λ (p : Past). is_some (p.naming n)) one_is
            ∙ ap (λ b. is_some (if b then Some new else past.naming n)) (queue-refl n)

        has : is_some (peer_in (v.queue n)) ≡ true
        has = ap is_some (after.peers n) ∙ of (r.naming n) here
          where
            of : (o : Option Naming) → is_some o ≡ true → is_some (peer_named o) ≡ true
            of None some = some
            of (Some x) some = refl

        fresh : IsPast past w new.own → ⊥
        fresh (inl less) = omega (arith, less)
        fresh (inr is) = true≢false (sym (is.1 well.present) ∙ ap is_some well.unnamed)

    changed : (slot : Slot) (change : Change) → verb ≡ verbs.ModifyQp slot change → answer ≡ answers.Fine → IsRight w (verbs.ModifyQp slot change) answers.Fine → AreNamings r v
    changed slot changes.Reset verb_is answer_is right = unnoted (ap₂ (λ a b. (after_verb a b q).namings) verb_is answer_is)
    changed slot changes.Init verb_is answer_is right = unnoted (ap₂ (λ a b. (after_verb a b q).namings) verb_is answer_is)
    changed slot (changes.Rtr peer incarnation psn mtu rnr_code) verb_is answer_is right = named slot peer incarnation psn mtu rnr_code verb_is answer_is right
    changed slot (changes.Rts psn retry rnr_retry reads) verb_is answer_is right = unnoted (ap₂ (λ a b. (after_verb a b q).namings) verb_is answer_is)
    changed slot changes.Sqd verb_is answer_is right = unnoted (ap₂ (λ a b. (after_verb a b q).namings) verb_is answer_is)
    changed slot changes.Resume verb_is answer_is right = unnoted (ap₂ (λ a b. (after_verb a b q).namings) verb_is answer_is)
    changed slot changes.Error verb_is answer_is right = unnoted (ap₂ (λ a b. (after_verb a b q).namings) verb_is answer_is)

    noted : (x : Verb) (a : Answer) → verb ≡ x → answer ≡ a → IsRight w x a → AreNamings r v
    noted (verbs.ModifyQp slot change) answers.Fine verb_is answer_is right = changed slot change verb_is answer_is right
    noted (verbs.ModifyQp slot change) answer verb_is answer_is right = unnoted (ap₂ (λ a b. (after_verb a b q).namings) verb_is answer_is)
    noted (verbs.AllocPd domain) answer verb_is answer_is right = unnoted (ap₂ (λ a b. (after_verb a b q).namings) verb_is answer_is)
    noted (verbs.DeallocPd domain) answer verb_is answer_is right = unnoted (ap₂ (λ a b. (after_verb a b q).namings) verb_is answer_is)
    noted (verbs.RegMr slot buffer offset count rights) answer verb_is answer_is right = unnoted (ap₂ (λ a b. (after_verb a b q).namings) verb_is answer_is)
    noted (verbs.AllocMr slot pages) answer verb_is answer_is right = unnoted (ap₂ (λ a b. (after_verb a b q).namings) verb_is answer_is)
    noted (verbs.DeregMr slot) answer verb_is answer_is right = unnoted (ap₂ (λ a b. (after_verb a b q).namings) verb_is answer_is)
    noted (verbs.AllocMw slot kind) answer verb_is answer_is right = unnoted (ap₂ (λ a b. (after_verb a b q).namings) verb_is answer_is)
    noted (verbs.DeallocMw slot) answer verb_is answer_is right = unnoted (ap₂ (λ a b. (after_verb a b q).namings) verb_is answer_is)
    noted (verbs.CreateCq slot capacity) answers.Fine verb_is answer_is right = unnoted (ap₂ (λ a b. (after_verb a b q).namings) verb_is answer_is)
    noted (verbs.CreateCq slot capacity) answer verb_is answer_is right = unnoted (ap₂ (λ a b. (after_verb a b q).namings) verb_is answer_is)
    noted (verbs.DestroyCq slot) answer verb_is answer_is right = unnoted (ap₂ (λ a b. (after_verb a b q).namings) verb_is answer_is)
    noted (verbs.CreateSrq slot depth) answers.Fine verb_is answer_is right = unnoted (ap₂ (λ a b. (after_verb a b q).namings) verb_is answer_is)
    noted (verbs.CreateSrq slot depth) answer verb_is answer_is right = unnoted (ap₂ (λ a b. (after_verb a b q).namings) verb_is answer_is)
    noted (verbs.DestroySrq slot) answer verb_is answer_is right = unnoted (ap₂ (λ a b. (after_verb a b q).namings) verb_is answer_is)
    noted (verbs.QueryQp slot) answer verb_is answer_is right = unnoted (ap₂ (λ a b. (after_verb a b q).namings) verb_is answer_is)
    noted (verbs.DestroyQp slot) answers.Fine verb_is answer_is right = unnoted (ap₂ (λ a b. (after_verb a b q).namings) verb_is answer_is)
    noted (verbs.DestroyQp slot) answer verb_is answer_is right = unnoted (ap₂ (λ a b. (after_verb a b q).namings) verb_is answer_is)
    noted (verbs.CreateQp slot send_cq recv_cq send_depth recv_depth srq) (answers.Queue number incarnation) verb_is answer_is right = unnoted (ap₂ (λ a b. (after_verb a b q).namings) verb_is answer_is)
    noted (verbs.CreateQp slot send_cq recv_cq send_depth recv_depth srq) answer verb_is answer_is right = unnoted (ap₂ (λ a b. (after_verb a b q).namings) verb_is answer_is)
    noted (verbs.PostSend slot request) (answers.Posted key) verb_is answer_is right = unnoted (ap₂ (λ a b. (after_verb a b q).namings) verb_is answer_is)
    noted (verbs.PostSend slot request) answer verb_is answer_is right = unnoted (ap₂ (λ a b. (after_verb a b q).namings) verb_is answer_is)
    noted (verbs.PostRecv slot request) (answers.Posted key) verb_is answer_is right = unnoted (ap₂ (λ a b. (after_verb a b q).namings) verb_is answer_is)
    noted (verbs.PostRecv slot request) answer verb_is answer_is right = unnoted (ap₂ (λ a b. (after_verb a b q).namings) verb_is answer_is)
    noted (verbs.PostSrq slot request) (answers.Posted key) verb_is answer_is right = unnoted (ap₂ (λ a b. (after_verb a b q).namings) verb_is answer_is)
    noted (verbs.PostSrq slot request) answer verb_is answer_is right = unnoted (ap₂ (λ a b. (after_verb a b q).namings) verb_is answer_is)
    noted (verbs.Poll slot n least) (answers.Polled completions) verb_is answer_is right = unnoted (ap₂ (λ a b. (after_verb a b q).namings) verb_is answer_is)
    noted (verbs.Poll slot n least) answer verb_is answer_is right = unnoted (ap₂ (λ a b. (after_verb a b q).namings) verb_is answer_is)
    noted (verbs.Store adapter buffer offset bytes) answer verb_is answer_is right = unnoted (ap₂ (λ a b. (after_verb a b q).namings) verb_is answer_is)
    noted (verbs.Load adapter buffer offset count) answer verb_is answer_is right = unnoted (ap₂ (λ a b. (after_verb a b q).namings) verb_is answer_is)
    noted (verbs.Inject queue bytes) answers.Fine verb_is answer_is right = unnoted (ap₂ (λ a b. (after_verb a b q).namings) verb_is answer_is)
    noted (verbs.Inject queue bytes) answer verb_is answer_is right = unnoted (ap₂ (λ a b. (after_verb a b q).namings) verb_is answer_is)
