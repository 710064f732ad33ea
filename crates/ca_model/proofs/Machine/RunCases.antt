-- Short lists of verbs from an opening, with their answers: what each leaves for the next. For proofs only.
use Rattle.std.proofs.Common.{◌≡◌, ℕ, List, [], ◌∷◌, map, Option, None, Some, Result, Ok, Err, refl}
use Rattle.ca_base.specs.declared.change.Change.TheVariants as changes
use Rattle.ca_base.specs.declared.change.State.TheVariants as states
use Rattle.ca_base.specs.declared.step.Reason.{Reason}
use Rattle.ca_model.specs.declared.answer.Answer.{Answer}
use Rattle.ca_model.specs.declared.answer.Answer.TheVariants as answers
use Rattle.ca_model.specs.declared.answer.Refusal.TheVariants as refusals
use Rattle.ca_model.specs.declared.event.Event.TheVariants as events
use Rattle.ca_model.specs.declared.mark.Mark.{Mark}
use Rattle.ca_model.specs.declared.verb.Verb.TheVariants as verbs
use Rattle.ca_model.specs.machine.Run.{run}
use Rattle.ca_model.proofs.Literals.{d, s, k}
use Rattle.ca_model.proofs.Machine.AnsweredVerbs.{AnsweredVerb, ◌⟶◌, answer_in, refused}
use Rattle.ca_model.proofs.Machine.Furnished.{pair, all_rights, receive_of}

-- the answers of verbs
abbrev answers_of : Result (List (List Mark)) (ℕ × Reason) → List (Option Answer)
answers_of (Ok all) = map answer_in all
answers_of (Err stop) = []

-- from the opening on, each verb has its answer
abbrev Answered : List AnsweredVerb → Type 0
Answered cases = answers_of (run pair (map (λ c. events.Verb 0 c.verb) cases)) ≡ map (λ c. Some c.answer) cases

abbrev fine : Answer
fine = answers.Fine

-- a domain is in use as long as an object is there
domain_in_use : Answered (
    (verbs.AllocPd (d 0 0) ⟶ fine)
    ∷ (verbs.AllocPd (d 0 0) ⟶ refused refusals.DomainTaken)
    ∷ (verbs.CreateCq (s 0 0 0) 4 ⟶ fine)
    ∷ (verbs.AllocMw (s 0 0 0) 1 ⟶ fine)
    ∷ (verbs.DestroyCq (s 0 0 0) ⟶ fine)
    ∷ (verbs.DeallocPd (d 0 0) ⟶ refused refusals.DomainInUse)
    ∷ (verbs.DeallocMw (s 0 0 0) ⟶ fine)
    ∷ (verbs.DeallocPd (d 0 0) ⟶ fine)
    ∷ (verbs.DeallocPd (d 0 0) ⟶ refused refusals.NoDomain)
    ∷ [])
domain_in_use = refl

-- a refusal changes nothing
refused_without_trace : Answered (
    (verbs.AllocPd (d 0 0) ⟶ fine)
    ∷ (verbs.RegMr (s 0 0 0) 0 0 0 all_rights ⟶ refused refusals.Empty)
    ∷ (verbs.CreateQp (s 0 0 0) 0 0 1 1 None ⟶ refused refusals.NoSuch)
    ∷ (verbs.DeallocPd (d 0 0) ⟶ fine)
    ∷ [])
refused_without_trace = refl

-- each registration in a slot takes the next low byte
low_bytes : Answered (
    (verbs.AllocPd (d 0 1) ⟶ fine)
    ∷ (verbs.RegMr (s 0 1 2) 0 0 16 all_rights ⟶ answers.Key (k 16777729))
    ∷ (verbs.DeregMr (s 0 1 2) ⟶ fine)
    ∷ (verbs.RegMr (s 0 1 2) 0 0 16 all_rights ⟶ answers.Key (k 16777730))
    ∷ [])
low_bytes = refl

-- the numbers of queue pairs and their incarnations: a reset and a creation each take the next
incarnations : Answered (
    (verbs.AllocPd (d 0 0) ⟶ fine)
    ∷ (verbs.CreateCq (s 0 0 0) 4 ⟶ fine)
    ∷ (verbs.CreateQp (s 0 0 1) 0 0 2 2 None ⟶ answers.Queue 257 1)
    ∷ (verbs.ModifyQp (s 0 0 1) changes.Init ⟶ fine)
    ∷ (verbs.QueryQp (s 0 0 1) ⟶ answers.Query states.Init 1 0 0)
    ∷ (verbs.ModifyQp (s 0 0 1) changes.Reset ⟶ fine)
    ∷ (verbs.QueryQp (s 0 0 1) ⟶ answers.Query states.Reset 2 0 0)
    ∷ (verbs.DestroyQp (s 0 0 1) ⟶ fine)
    ∷ (verbs.CreateQp (s 0 0 1) 0 0 2 2 None ⟶ answers.Queue 257 3)
    ∷ [])
incarnations = refl

-- what a queue pair reserved is free once it is destroyed
reservations : Answered (
    (verbs.AllocPd (d 0 0) ⟶ fine)
    ∷ (verbs.CreateCq (s 0 0 0) 4 ⟶ fine)
    ∷ (verbs.CreateQp (s 0 0 0) 0 0 2 2 None ⟶ answers.Queue 256 1)
    ∷ (verbs.CreateQp (s 0 0 1) 0 0 1 1 None ⟶ refused refusals.CqTooSmall)
    ∷ (verbs.DestroyCq (s 0 0 0) ⟶ refused refusals.CqInUse)
    ∷ (verbs.DestroyQp (s 0 0 0) ⟶ fine)
    ∷ (verbs.CreateQp (s 0 0 1) 0 0 1 1 None ⟶ answers.Queue 257 1)
    ∷ (verbs.DestroyQp (s 0 0 1) ⟶ fine)
    ∷ (verbs.DestroyCq (s 0 0 0) ⟶ fine)
    ∷ [])
reservations = refl

-- a shared receive queue counts once in a completion queue, and is in use as long as a queue pair uses it
shared_receives : Answered (
    (verbs.AllocPd (d 0 0) ⟶ fine)
    ∷ (verbs.CreateCq (s 0 0 0) 4 ⟶ fine)
    ∷ (verbs.CreateSrq (s 0 0 0) 2 ⟶ fine)
    ∷ (verbs.CreateQp (s 0 0 0) 0 0 1 0 (Some 0) ⟶ answers.Queue 256 1)
    ∷ (verbs.CreateQp (s 0 0 1) 0 0 1 0 (Some 0) ⟶ answers.Queue 257 1)
    ∷ (verbs.CreateQp (s 0 0 2) 0 0 1 0 (Some 0) ⟶ refused refusals.CqTooSmall)
    ∷ (verbs.PostSrq (s 0 0 0) (receive_of 8) ⟶ answers.Posted None)
    ∷ (verbs.PostSrq (s 0 0 0) (receive_of 8) ⟶ answers.Posted None)
    ∷ (verbs.PostSrq (s 0 0 0) (receive_of 8) ⟶ refused refusals.QueueFull)
    ∷ (verbs.PostRecv (s 0 0 0) (receive_of 8) ⟶ refused refusals.HasSrq)
    ∷ (verbs.DestroyQp (s 0 0 0) ⟶ fine)
    ∷ (verbs.DestroySrq (s 0 0 0) ⟶ refused refusals.SrqInUse)
    ∷ (verbs.DestroyQp (s 0 0 1) ⟶ fine)
    ∷ (verbs.DestroySrq (s 0 0 0) ⟶ fine)
    ∷ [])
shared_receives = refl

-- a store is read back, and reaches no byte beside it
memory : Answered (
    (verbs.Store 0 0 2 (7 ∷ 8 ∷ []) ⟶ fine)
    ∷ (verbs.Load 0 0 1 4 ⟶ answers.Loaded (0 ∷ 7 ∷ 8 ∷ 0 ∷ []))
    ∷ (verbs.Load 1 0 1 4 ⟶ answers.Loaded (0 ∷ 0 ∷ 0 ∷ 0 ∷ []))
    ∷ [])
memory = refl
