-- Polls: what completes is behind what a link speaks of, and nothing else of a queue pair changes. For proofs only.
use Rattle.std.proofs.Common.{◌≡◌, ℕ, suc, ◌+◌, ◌-◌, max, ◌<◌, Bool, true, false, if◌then◌else◌, List, [], ◌∷◌, drop, take, Some, IfSome, refl, ap, sym, subst, ◌∙◌, arith}
use Rattle.std.proofs.lemmas.List.{drop-drop}
use Rattle.std.specs.List.{AllByRecursion}
use Rattle.std.specs.Option.{option_map}
use Rattle.ca_law_order.proofs.Polls.PlanLemmas.{AreFreed, IsFreed}
use Rattle.ca_base.specs.Configuration.{Configuration}
use Rattle.ca_base.specs.declared.completion.Completion.{Completion}
use Rattle.ca_base.specs.declared.queue_numbers.RequesterNumbers.{RequesterNumbers}
use Rattle.ca_base.specs.declared.request.PostedSend.{PostedSend}
use Rattle.ca_base.specs.objects.CompletionQueue.{CompletionQueue}
use Rattle.ca_base.specs.objects.QueuePair.{QueuePair, QueueSlot, NoQueue, Present}
use Rattle.ca_base.specs.objects.WorkQueue.{WorkQueue, after_retire, items_from}
use Rattle.ca_keys.specs.Equal.{queue_eq}
use Rattle.ca_keys.specs.declared.names.QueueId.{QueueId}
use Rattle.ca_keys.specs.declared.names.Slot.{Slot}
use Rattle.ca_law_world.proofs.Sound.PollLemmas.{all-finished, all-taken}
use Rattle.ca_law_world.proofs.Sound.SettledLemmas.{queue-path}
use Rattle.ca_model.specs.machine.CompletionVerbs.{after_poll, slot_after_poll}
use Rattle.ca_model.specs.machine.Plan.{Update, put_all}
use Rattle.ca_model.specs.machine.Sound.{IsFinished, IsSettled, IsSoundWorld}
use Rattle.ca_model.specs.machine.World.{Byte_at, Cq_of, Domain_of, Mailbox_of, Name, Queue_of, Region_of, Srq_of, Thing, Window_of, World, put}

-- a queue pair of which places before its oldest unfinished request are freed, and nothing else changes
pub record IsFreer (q p : QueuePair) : Type 0 where
  pub incarnation : p.incarnation ≡ q.incarnation
  pub peer : p.peer ≡ q.peer
  pub state : p.state ≡ q.state
  pub requester : p.requester ≡ q.requester
  pub responder : p.responder ≡ q.responder
  pub saved : p.saved ≡ q.saved
  pub items : items_from q.requester.oldest p.sends ≡ items_from q.requester.oldest q.sends
  pub gone : ℕ
  pub left : p.sends.items ≡ drop gone q.sends.items

same-freer : (q : QueuePair) → IsFreer q q
same-freer q = record { incarnation = refl; peer = refl; state = refl; requester = refl; responder = refl; saved = refl; items = refl; gone = 0; left = refl }

then-freer : (q p o : QueuePair) → IsFreer q p → IsFreer p o → IsFreer q o
then-freer q p o one other = record {
  incarnation = other.incarnation ∙ one.incarnation;
  peer = other.peer ∙ one.peer;
  state = other.state ∙ one.state;
  requester = other.requester ∙ one.requester;
  responder = other.responder ∙ one.responder;
  saved = other.saved ∙ one.saved;
  items = subst (λ (r : RequesterNumbers). items_from r.oldest o.sends ≡ items_from r.oldest p.sends) one.requester other.items ∙ one.items;
  gone = one.gone + other.gone;
  left = other.left ∙ ap (drop other.gone) one.left ∙ drop-drop other.gone one.gone q.sends.items;
}

-- from a place on, all is still there that is not freed
retire-items : (place oldest : ℕ) (s : WorkQueue PostedSend) → place < oldest → items_from oldest (after_retire place s) ≡ items_from oldest s
retire-items place oldest s less = drop-drop (oldest - max s.first (suc place)) (suc place - s.first) s.items
    ∙ ap (λ i. drop i s.items) {x = (suc place - s.first) + (oldest - max s.first (suc place))} {y = oldest - s.first} (omega (arith, less))

abbrev freed : QueuePair → Completion → Bool → QueuePair
freed q x true = record q { receives = option_map (after_retire x.place) q.receives }
freed q x false = record q { sends = after_retire x.place q.sends }

freed-one : (q : QueuePair) (x : Completion) (r : Bool) → IsFinished q r x.place → IsFreer q (freed q x r)
freed-one q x true finished = record { incarnation = refl; peer = refl; state = refl; requester = refl; responder = refl; saved = refl; items = refl; gone = 0; left = refl }
freed-one q x false finished = record {
  incarnation = refl;
  peer = refl;
  state = refl;
  requester = refl;
  responder = refl;
  saved = refl;
  items = retire-items x.place q.requester.oldest q.sends finished;
  gone = suc x.place - q.sends.first;
  left = refl;
}

pub polled-freer : (name : QueueId) (xs : List Completion) (q : QueuePair) → AllByRecursion (λ x. queue_eq x.queue name ≡ true → (x.receive ≡ false → x.place < q.requester.oldest)) xs → IsFreer q (after_poll name xs q)
polled-freer name [] q all = same-freer q
polled-freer name (x ∷ xs) q all = then-freer q (next (queue_eq x.queue name) x.receive) (after_poll name xs (next (queue_eq x.queue name) x.receive)) (one (queue_eq x.queue name) refl x.receive refl)
    (polled-freer name xs (next (queue_eq x.queue name) x.receive) (later (queue_eq x.queue name) x.receive))
  where
    next : Bool → Bool → QueuePair
    next b r = if b then freed q x r else q

    one : (b : Bool) → queue_eq x.queue name ≡ b → (r : Bool) → x.receive ≡ r → IsFreer q (next b r)
    one false is r e = same-freer q
    one true is true e = record { incarnation = refl; peer = refl; state = refl; requester = refl; responder = refl; saved = refl; items = refl; gone = 0; left = refl }
    one true is false e = freed-one q x false (all.0 is e)

    later : (b r : Bool) → AllByRecursion (λ y. queue_eq y.queue name ≡ true → (y.receive ≡ false → y.place < (next b r).requester.oldest)) xs
    later false r = all.1
    later true true = all.1
    later true false = all.1

-- what waits of a queue pair's sends is finished
sends-finished : (name : QueueId) (q : QueuePair) (xs : List Completion) → AllByRecursion (λ x. queue_eq x.queue name ≡ true → IsFinished q x.receive x.place) xs
    → AllByRecursion (λ x. queue_eq x.queue name ≡ true → (x.receive ≡ false → x.place < q.requester.oldest)) xs
sends-finished name q [] all = record {}
sends-finished name q (x ∷ xs) all = (λ is e. subst (λ r. IsFinished q r x.place) e (all.0 is), sends-finished name q xs all.1)

-- what stands in a slot after a poll
pub data IsFreerSlot (a b : QueueSlot) : Type 0 where
  untouched : b ≡ a → IsFreerSlot a b
  freer : (q p : QueuePair) → a ≡ Present q → b ≡ Present p → IsFreer q p → IsFreerSlot a b

slot-freer : (w : World) (s : Slot) (name : QueueId) (xs : List Completion) → AllByRecursion (λ x. IsSettled s (w.queue x.queue) x) xs → IsFreerSlot (w.queue name) (slot_after_poll name xs (w.queue name))
slot-freer w s name xs all = by (w.queue name) refl
  where
    by : (t : QueueSlot) → w.queue name ≡ t → IsFreerSlot t (slot_after_poll name xs t)
    by (NoQueue incarnation timers) is = untouched refl
    by (Present q) is = freer q (after_poll name xs q) refl refl (polled-freer name xs q (sends-finished name q xs (all-finished w s name q xs is all)))

-- all queue pairs stand so, and the mailboxes are the same
pub record AreFreer (w v : World) : Type 0 where
  pub queues : (n : QueueId) → IsFreerSlot (w.queue n) (v.queue n)
  pub mail : v.mailbox ≡ w.mailbox

pub freer-puts : (w : World) (s : Slot) (cq : CompletionQueue) (xs : List Completion) → AllByRecursion (λ x. IsSettled s (w.queue x.queue) x) xs → (us : List Update) (v : World) → AreFreed w cq xs us → AreFreer w v → AreFreer w (put_all us v)
freer-puts w s cq xs all [] v freed freers = freers
freer-puts w s cq xs all (u ∷ us) v freed freers = freer-puts w s cq xs all us (put v u.name u.thing) freed.1 (by u.name u.thing freed.0)
  where
    at : (name n : QueueId) (x : QueueSlot) → x ≡ slot_after_poll name xs (w.queue name) → (b : Bool) → queue_eq name n ≡ b → IsFreerSlot (w.queue n) (if b then x else v.queue n)
    at name n x is true e = subst (λ k. IsFreerSlot (w.queue k) x) (queue-path name n e) (subst (IsFreerSlot (w.queue name)) (sym is) (slot-freer w s name xs all))
    at name n x is false e = freers.queues n

    by : (n : Name) (x : Thing n) → IsFreed w cq xs n x → AreFreer w (put v n x)
    by (Queue_of q) x is = record { queues = λ n. at q n x is (queue_eq q n) refl; mail = freers.mail }
    by (Srq_of t) x is = record { queues = freers.queues; mail = freers.mail }
    by (Domain_of d) x is = absurd is
    by (Region_of t) x is = absurd is
    by (Window_of t) x is = absurd is
    by (Cq_of t) x is = absurd is
    by (Mailbox_of q) x is = absurd is
    by (Byte_at p) x is = absurd is

-- what a poll leaves
pub poll-freers : (c : Configuration) (w : World) (s : Slot) (cq : CompletionQueue) (n : ℕ) (us : List Update) (v : World) → IsSoundWorld c w → w.cq s ≡ Some cq → AreFreed w cq (take n cq.waiting) us → v.queue ≡ w.queue → v.mailbox ≡ w.mailbox
    → AreFreer w (put_all us v)
poll-freers c w s cq n us v sound is freed queue mail = freer-puts w s cq (take n cq.waiting)
    (all-taken (λ x. IsSettled s (w.queue x.queue) x) n cq.waiting (subst (λ o. IfSome o (λ y. AllByRecursion (λ x. IsSettled s (w.queue x.queue) x) y.waiting)) is (sound.settled s))) us v freed
    (record { queues = λ n. untouched (ap (λ (f : QueueId → QueueSlot). f n) queue); mail = mail })
