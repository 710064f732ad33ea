-- What the plan of a poll does, once what its completions free was freed, one after another. For proofs only.
use Rattle.std.proofs.Common.{if◌then◌else◌, ◌≡◌, ◌==◌, ◌||◌, ◌∙◌, ◌+◌, ◌<◌, ◌≤◌, refl, sym, subst, ap, ap₂, arith, ℕ, nat_lt, Bool, false, List, [], ◌∷◌, ◌++◌, Option, None, Some, IfSome, Ok, drop, length, slice_get, take}
use Rattle.std.proofs.lemmas.Grind.{common_steps}
use Rattle.std.proofs.lemmas.Bool.Decides.{nat_tests}
use Rattle.std.proofs.lemmas.List.{length-take}
use Rattle.std.specs.Option.{option_map}
use Rattle.ca_base.specs.declared.change.Field.TheVariants as fields
use Rattle.ca_base.specs.declared.completion.Completion.{Completion}
use Rattle.ca_base.specs.declared.limits.TheConstants.{MAX_POLLED}
use Rattle.ca_base.specs.declared.step.Reason.TheVariants as reasons
use Rattle.ca_keys.specs.declared.names.Slot.{Slot}
use Rattle.ca_base.specs.objects.CompletionQueue.{CompletionQueue, after_polls, source_in}
use Rattle.ca_cq.proofs.Parts.{drop-next, take-at, take-more}
use Rattle.ca_model.specs.Marks.{MarkList}
use Rattle.ca_model.specs.declared.answer.Answer.TheVariants as answers
use Rattle.ca_model.specs.declared.answer.Refusal.TheVariants as refusals
use Rattle.ca_model.specs.machine.CompletionVerbs.{Poll_of, Take_plan, poll_plan}
use Rattle.ca_model.specs.machine.Frame.{AllPass}
use Rattle.ca_model.specs.machine.Plan.{Did, If, Stuck, perform, touches, ◌:=◌}
use Rattle.ca_model.specs.machine.VerbAnswers.{Answer_plan, Call, Refuse_plan, answer_mark}
use Rattle.ca_model.specs.machine.World.{Cq_of, Name, World}
use Rattle.ca_adapter_parts.specs.HeldView.{Holding, hold}
use Rattle.ca_adapter_acts.specs.Act.{IsAct}
use Rattle.ca_adapter_polls.specs.Polling.{AreApart, AreOfOwnPlaces, CanFreeAll, CanFreeEach, after_freeing_all, after_freeing, places_of, source_at}
use Rattle.ca_adapter_polls.proofs.FreeableLemmas.{taken-free}
use Rattle.ca_adapter_polls.proofs.TakingLemmas.{places-touched, polled_world, take-performs}
use Rattle.ca_adapter_polls.proofs.FreedLemmas.{cqs-freed}

pub one_taken : (k : ℕ) (cs : List Completion) → drop 1 (drop k cs) ≡ drop (k + 1) cs
one_taken k cs = drop-next k cs

pub one_listed : (k : ℕ) (cs : List Completion) (c : Completion) → slice_get cs k ≡ Some c → take k cs ++ c ∷ [] ≡ take (k + 1) cs
one_listed k cs c is = ap (λ xs. take k cs ++ xs) (sym (take-at k cs c is)) ∙ sym (take-more k cs)

-- where none is in front, none is listed
pub none_listed : (n : ℕ) (cs : List Completion) → slice_get cs 0 ≡ None → [] ≡ take n cs
none_listed n [] none = grind (arith, common_steps)
none_listed n (c ∷ cs) none = grind (arith, common_steps, none)

-- and one that is in front is the first
pub first_listed : (cs : List Completion) (c : Completion) → slice_get cs 0 ≡ Some c → c ∷ [] ≡ take 1 cs
first_listed cs c is = one_listed 0 cs c is

-- a completion of a send is of no shared receive queue
pub no_source : (o : Option CompletionQueue) (c : Completion) → c.receive ≡ false → source_at o c ≡ None
no_source None c is = refl
no_source (Some v) c is = ap (λ b. if b then source_in v.reservations c.queue else None) is

-- what is freed leaves completion queues
pub freed_keeps : (s : Slot) (o : Option ℕ) (c : Completion) (w : World) → (after_freeing s o c w).cq ≡ w.cq
freed_keeps s None c w = refl
freed_keeps s (Some srq) c w = refl

-- as many are asked for as may be, and as many wait as are asked for at least
record CanPoll (n least : ℕ) (cq : CompletionQueue) : Type 0 where
  pub some : 0 < n
  pub few : n ≤ MAX_POLLED
  pub within : least ≤ n
  pub waiting : least ≤ length (take n cq.waiting)

poll-is : (call : Call) (s : Slot) (n least : ℕ) (cq : CompletionQueue) → CanPoll n least cq
    → Poll_of call s n least (Some cq)
    ≡ If false (Refuse_plan call (refusals.OutOfRange fields.Length)) (If false (Stuck reasons.Empty) (Take_plan call s cq (take n cq.waiting)))
poll-is call s n least cq can = ap₂ (λ a b. If a (Refuse_plan call (refusals.OutOfRange fields.Length)) (If b (Stuck reasons.Empty) (Take_plan call s cq (take n cq.waiting)))) range enough
  where
    none : (n == 0) ≡ false
    none = let e = can.some in grind (arith, nat_tests, e)

    many : nat_lt MAX_POLLED n ≡ false
    many = let e = can.few in grind (arith, nat_tests, e)

    fewer : nat_lt n least ≡ false
    fewer = let e = can.within in grind (arith, nat_tests, e)

    range : ((n == 0) || nat_lt MAX_POLLED n || nat_lt n least) ≡ false
    range = rw (none, many, fewer) refl

    all : least ≤ length cq.waiting
    all = let e = length-take n cq.waiting in let l = can.waiting in grind (arith, e, l)

    enough : nat_lt (length cq.waiting) least ≡ false
    enough = grind (arith, nat_tests, all)

can-poll : (n least count : ℕ) (cq : CompletionQueue) (polled listed : List Completion) → 0 < n → n ≤ MAX_POLLED → least ≤ n → least ≤ count → count ≡ length listed → listed ≡ polled
    → polled ≡ take n cq.waiting → CanPoll n least cq
can-poll n least count cq polled listed some few within enough counts same took = record {
  some = some;
  few = few;
  within = within;
  waiting = subst (λ x. least ≤ x) (counts ∙ ap length (same ∙ took)) enough;
}

pub poll_places_held : (has : Name → Bool) (w : World) (call : Call) (s : Slot) (n least count : ℕ) (cq : CompletionQueue) (polled listed : List Completion)
    → w.cq s ≡ Some cq → 0 < n → n ≤ MAX_POLLED → least ≤ n → least ≤ count → count ≡ length listed → listed ≡ polled → polled ≡ take n cq.waiting
    → AllPass has (touches w (poll_plan call s n least)) → AllPass has (places_of s (w.cq s) listed)
poll_places_held has w call s n least count cq polled listed is some few within enough counts same took all =
    subst (λ o. AllPass has (places_of s o listed)) (sym is) (subst (λ cs. AllPass has (places_of s (Some cq) cs)) (sym (same ∙ took))
    (places-touched w s cq (take n cq.waiting) has (take n cq.waiting)
    (λ changes. Answer_plan call (answers.Polled (take n cq.waiting)) ((Cq_of s := Some (after_polls (length (take n cq.waiting)) cq)) ∷ changes) [])
    (subst (λ p. AllPass has (touches w p)) (poll-is call s n least cq (can-poll n least count cq polled listed some few within enough counts same took))
    (subst (λ o. AllPass has (touches w (Poll_of call s n least o))) is all.1))))

pub poll_can_free : (w : World) (s : Slot) (n : ℕ) (cq : CompletionQueue) (polled listed : List Completion) → w.cq s ≡ Some cq → listed ≡ polled → polled ≡ take n cq.waiting
    → IfSome (w.cq s) (CanFreeEach s w) → IfSome (w.cq s) AreOfOwnPlaces → CanFreeAll s (w.cq s) listed w
poll_can_free w s n cq polled listed is same took each own =
    subst (λ cs. CanFreeAll s (w.cq s) cs w) (sym (same ∙ took)) (subst (λ o. CanFreeAll s o (take n cq.waiting) w) (sym is)
    (taken-free s cq n cq.waiting w (subst (λ o. IfSome o (CanFreeEach s w)) is each) (subst (λ o. IfSome o AreOfOwnPlaces) is own)))

-- what completions free was freed, and they were taken: the plan is carried out
pub poll_acts : (h one two : Holding) (call : Call) (s : Slot) (n least count : ℕ) (cq : CompletionQueue) (polled listed : List Completion) (m : MarkList)
    → h.world.cq s ≡ Some cq → IfSome (h.world.cq s) (AreApart h.world)
    → 0 < n → n ≤ MAX_POLLED → least ≤ n → least ≤ count → count ≡ length listed → listed ≡ polled → polled ≡ take n cq.waiting
    → one ≡ record h { world = after_freeing_all s (h.world.cq s) listed h.world }
    → two ≡ hold one (Cq_of s) (option_map (after_polls count) (one.world.cq s))
    → m.marks ≡ answer_mark call (answers.Polled polled) ∷ []
    → IsAct (Ok m) (perform h.world (poll_plan call s n least)) h two
poll_acts h one two call s n least count cq polled listed m is apart some few within enough counts same took frees takes marks =
    subst (λ x. IsAct (Ok m) x h two) (sym performs) (marks, world)
  where
    performs : perform h.world (poll_plan call s n least) ≡ Did (polled_world h.world s cq polled) (answer_mark call (answers.Polled polled) ∷ [])
    performs = ap (λ o. perform h.world (Poll_of call s n least o)) is
        ∙ ap (perform h.world) (poll-is call s n least cq (can-poll n least count cq polled listed some few within enough counts same took))
        ∙ ap (λ cs. perform h.world (Take_plan call s cq cs)) (sym took)
        ∙ take-performs h.world s cq polled call (subst (λ o. IfSome o (AreApart h.world)) is apart)

    after : List Completion → Option CompletionQueue → World
    after cs o = after_freeing_all s o cs h.world

    world : two ≡ record h { world = polled_world h.world s cq polled }
    world = takes
        ∙ ap (λ x. hold x (Cq_of s) (option_map (after_polls count) (x.world.cq s))) frees
        ∙ ap (λ cs. hold (record h { world = after cs (h.world.cq s) }) (Cq_of s) (option_map (after_polls count) ((after cs (h.world.cq s)).cq s))) same
        ∙ ap (λ o. hold (record h { world = after polled o }) (Cq_of s) (option_map (after_polls count) ((after polled o).cq s))) is
        ∙ ap (λ f. hold (record h { world = after polled (Some cq) }) (Cq_of s) (option_map (after_polls count) (f s))) (cqs-freed s (Some cq) polled h.world)
        ∙ ap (λ o. hold (record h { world = after polled (Some cq) }) (Cq_of s) (option_map (after_polls count) o)) is
        ∙ ap (λ k. hold (record h { world = after polled (Some cq) }) (Cq_of s) (Some (after_polls k cq))) (counts ∙ ap length same)
