-- What the plan of a poll does with the completions that it takes. For proofs only.
use Rattle.std.proofs.Common.{◌≡◌, ◌∙◌, refl, sym, subst, ap, ℕ, Bool, true, false, List, [], ◌∷◌, Option, None, Some, length, if◌then◌else◌}
use Rattle.std.specs.Option.{option_map}
use Rattle.ca_base.specs.declared.completion.Completion.{Completion}
use Rattle.ca_keys.specs.declared.names.QueueId.{QueueId}
use Rattle.ca_keys.specs.declared.names.Slot.{Slot}
use Rattle.ca_base.specs.objects.CompletionQueue.{CompletionQueue, after_polls}
use Rattle.ca_base.specs.objects.QueuePair.{QueueSlot}
use Rattle.ca_base.specs.objects.SharedReceives.{SrqSlot}
use Rattle.ca_model.specs.declared.answer.Answer.TheVariants as answers
use Rattle.ca_model.specs.machine.CompletionVerbs.{Take_plan, With_places, receives_after_poll, slot_after_poll, source_of_completion}
use Rattle.ca_model.specs.machine.Frame.{AllPass, name_eq}
use Rattle.ca_model.specs.machine.Plan.{Did, Look, Plan, Update, perform, put_all, touches, ◌:=◌}
use Rattle.ca_model.specs.machine.VerbAnswers.{Answer_plan, Call, answer_mark}
use Rattle.ca_model.specs.machine.World.{Cq_of, Name, Queue_of, Srq_of, Thing, World, get, put}
use Rattle.ca_model.proofs.RestLemmas.{put-leaves}
use Rattle.ca_model.proofs.ThingLemmas.{is_named_in, name-path, put-names, put-there, same-worlds, updates_by}
use Rattle.ca_adapter_polls.specs.Polling.{AreApart, after_freeing_all, place_of, places_of, shared_at}
use Rattle.ca_adapter_polls.proofs.FreedLemmas.{queue-freed, rest-freed, shared-freed, shared_after}

-- what completions that are taken free, as the plan has it: each frees all that its queue pair or its shared receive queue
-- has among those that were polled
module _ (w : World) (s : Slot) (cq : CompletionQueue) (polled : List Completion) where
  places-perform : (f : (n : Name) → Thing n) → ((q : QueueId) → f (Queue_of q) ≡ slot_after_poll q polled (w.queue q))
      → ((srq : ℕ) → f (Srq_of (shared_at s srq)) ≡ shared_after cq srq polled (w.srq (shared_at s srq)))
      → (cs : List Completion) (k : List Update → Plan) → perform w (With_places s cq polled cs k) ≡ perform w (k (updates_by f (places_of s (Some cq) cs)))
  places-perform f queues shared [] k = refl
  places-perform f queues shared (c ∷ cs) k = by (places-perform f queues shared cs) (source_of_completion cq c)
    where
      on : Update → Plan
      on u = With_places s cq polled cs (λ us. k (u ∷ us))

      plan : Option ℕ → Plan
      plan None = Look (Queue_of c.queue) (λ slot. on (Queue_of c.queue := slot_after_poll c.queue polled slot))
      plan (Some srq) = Look (Srq_of (shared_at s srq)) (λ slot. on (Srq_of (shared_at s srq) := record slot { srq = option_map (receives_after_poll cq srq polled) slot.srq }))

      others : List Update
      others = updates_by f (places_of s (Some cq) cs)

      by : ((k : List Update → Plan) → perform w (With_places s cq polled cs k) ≡ perform w (k (updates_by f (places_of s (Some cq) cs))))
          → (o : Option ℕ) → perform w (plan o) ≡ perform w (k ((place_of s o c := f (place_of s o c)) ∷ others))
      by again None = again (λ us. k ((Queue_of c.queue := slot_after_poll c.queue polled (w.queue c.queue)) ∷ us))
          ∙ ap (λ (x : QueueSlot). perform w (k ((Queue_of c.queue := x) ∷ others))) (sym (queues c.queue))
      by again (Some srq) = again (λ us. k ((Srq_of (shared_at s srq) := shared_after cq srq polled (w.srq (shared_at s srq))) ∷ us))
          ∙ ap (λ (x : SrqSlot). perform w (k ((Srq_of (shared_at s srq) := x) ∷ others))) (sym (shared srq))

  pub places-touched : (has : Name → Bool) (cs : List Completion) (k : List Update → Plan) → AllPass has (touches w (With_places s cq polled cs k)) → AllPass has (places_of s (Some cq) cs)
  places-touched has [] k all = record {}
  places-touched has (c ∷ cs) k all = by (places-touched has cs) (source_of_completion cq c) all
    where
      on : Update → Plan
      on u = With_places s cq polled cs (λ us. k (u ∷ us))

      plan : Option ℕ → Plan
      plan None = Look (Queue_of c.queue) (λ slot. on (Queue_of c.queue := slot_after_poll c.queue polled slot))
      plan (Some srq) = Look (Srq_of (shared_at s srq)) (λ slot. on (Srq_of (shared_at s srq) := record slot { srq = option_map (receives_after_poll cq srq polled) slot.srq }))

      by : ((k : List Update → Plan) → AllPass has (touches w (With_places s cq polled cs k)) → AllPass has (places_of s (Some cq) cs))
          → (o : Option ℕ) → AllPass has (touches w (plan o)) → AllPass has (place_of s o c ∷ places_of s (Some cq) cs)
      by again None all = (all.0, again (λ us. k ((Queue_of c.queue := slot_after_poll c.queue polled (w.queue c.queue)) ∷ us)) all.1)
      by again (Some srq) all = (all.0, again (λ us. k ((Srq_of (shared_at s srq) := shared_after cq srq polled (w.srq (shared_at s srq))) ∷ us)) all.1)

  -- the completion queue without those that were polled
  abbrev pub left : Option CompletionQueue
  left = Some (after_polls (length polled) cq)

  -- the world after the poll
  abbrev pub polled_world : World
  polled_world = put (after_freeing_all s (Some cq) polled w) (Cq_of s) left

  poll-world : put_all (updates_by (get polled_world) (places_of s (Some cq) polled)) (put w (Cq_of s) left) ≡ polled_world
  poll-world = same-worlds (put_all (updates_by (get polled_world) (places_of s (Some cq) polled)) (put w (Cq_of s) left)) polled_world
      (λ n. put-names (get polled_world) (places_of s (Some cq) polled) (put w (Cq_of s) left) n ∙ by n (is_named_in (places_of s (Some cq) polled) n) refl)
    where
      rest : (n : Name) (b : Bool) → name_eq (Cq_of s) n ≡ b → is_named_in (places_of s (Some cq) polled) n ≡ false → get (put w (Cq_of s) left) n ≡ get polled_world n
      rest n true is other = subst (λ m. get (put w (Cq_of s) left) m ≡ get polled_world m) (name-path (Cq_of s) n is)
          (put-there w (Cq_of s) left ∙ sym (put-there (after_freeing_all s (Some cq) polled w) (Cq_of s) left))
      rest n false is other = put-leaves w (Cq_of s) left n is ∙ sym (rest-freed s cq polled w n other)
          ∙ sym (put-leaves (after_freeing_all s (Some cq) polled w) (Cq_of s) left n is)

      by : (n : Name) (b : Bool) → is_named_in (places_of s (Some cq) polled) n ≡ b → (if b then get polled_world n else get (put w (Cq_of s) left) n) ≡ get polled_world n
      by n true is = refl
      by n false is = rest n (name_eq (Cq_of s) n) refl is

  pub take-performs : (call : Call) → AreApart w cq
      → perform w (Take_plan call s cq polled) ≡ Did polled_world (answer_mark call (answers.Polled polled) ∷ [])
  take-performs call apart =
      places-perform (get polled_world) (λ q. queue-freed s cq polled w q (apart q)) (λ srq. shared-freed s cq polled w srq) polled
      (λ changes. Answer_plan call (answers.Polled polled) ((Cq_of s := left) ∷ changes) [])
      ∙ ap (λ v. Did v (answer_mark call (answers.Polled polled) ∷ [])) poll-world
