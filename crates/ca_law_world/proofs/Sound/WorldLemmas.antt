-- How plans end in a sound world: what they look at is sound, and what they change stays so.
use Rattle.std.proofs.Common.{◌≡◌, ℕ, arith, Bool, true, false, List, [], ◌∷◌, ◌++◌, Option, None, Some, IfSome, subst, ◌∙◌, ap, sym, if◌then◌else◌, refl, rules}
use Rattle.std.specs.Option.{option_map}
use Rattle.ca_keys.specs.declared.access.Ask.{Ask}
use Rattle.ca_keys.specs.declared.grant.Grant.{Grant}
use Rattle.ca_keys.specs.declared.names.QueueId.{QueueId}
use Rattle.ca_keys.specs.declared.names.Slot.{Slot}
use Rattle.ca_base.specs.declared.refusals.OpRefusal.{OpRefusal}
use Rattle.ca_base.specs.declared.step.Reason.{Reason}
use Rattle.ca_base.specs.Configuration.{Configuration}
use Rattle.ca_keys.specs.Memory.{bytes_at}
use Rattle.ca_base.specs.declared.denied_ask.DeniedAsk.{DeniedAsk}
use Rattle.ca_base.specs.Sight.{Invalidation, runs_by_grant}
use Rattle.ca_base.specs.objects.CompletionQueue.{CompletionQueue, after_puts}
use Rattle.ca_base.specs.objects.QueuePair.{QueuePair, QueueSlot, NoQueue, Present, recv_cq_of, send_cq_of, srq_of}
use Rattle.ca_base.specs.objects.Region.{RegionState, NoRegion, Free, Registered, FastRegistered, state_after_invalidation, with_window_unbound}
use Rattle.ca_base.specs.objects.SharedReceives.{SharedReceives, SrqSlot, after_receive_take}
use Rattle.ca_base.specs.objects.Slices.{slot_of_key, slot_of_queue}
use Rattle.ca_base.specs.objects.LocalRequest.{window_refusal}
use Rattle.ca_base.specs.objects.Window.{Binding, without_binding}
use Rattle.ca_keys.specs.Equal.{queue_eq, slot_eq}
use Rattle.ca_model.specs.Past.{with_at}
use Rattle.ca_model.specs.machine.Around.{Around, With_around, With_queue, completions_to, cq_updates, srq_updates, updates_of}
use Rattle.ca_model.specs.machine.Plan.{Plan, Stuck, Look, Read, If, Finish, Update, ◌:=◌, Write, put_all}
use Rattle.ca_model.specs.machine.Row.{Ending, NotPossible, Does, Effects, Row, Row_plan, End_plan, With_grant, With_grants, With_bytes, With_writes, With_invalidation, first_denied_by, region_under, unless_none}
use Rattle.ca_model.specs.machine.World.{World, Name, Domain_of, Region_of, Window_of, Cq_of, Srq_of, Queue_of, Mailbox_of, Byte_at, Thing, get, put}
use Rattle.ca_model.specs.machine.Invariants.{IsCompletionQueue, IsQueue, IsSharedReceives}
use Rattle.ca_model.specs.machine.Sound.{AreSettled, IsQueueOf, IsSoundWorld, IsSoundState, IsSoundThing}
use Rattle.ca_law_world.proofs.Sound.GoodLemmas.{IsGood}
use Rattle.ca_law_world.proofs.Sound.ObjectLemmas.{take-receive, unbound-window}
use Rattle.ca_law_world.proofs.Sound.ResponseLemmas.{IsGoodEnding, IsGoodRow}
use Rattle.ca_law_world.proofs.Sound.SettledLemmas.{turn-settled}

-- changes that put sound things
abbrev pub AreSound : Configuration → List Update → Type 0
AreSound c [] = Unit {0}
AreSound c (x ∷ xs) = IsSoundThing c x.name x.thing × AreSound c xs

-- changes that a world stays sound under
pub record IsGoodChange (c : Configuration) (w : World) (cs : List Update) : Type 0 where
  pub things : AreSound c cs
  pub settled : AreSettled (put_all cs w).queue (put_all cs w).cq

-- a plan that ends in a world with such changes, if it does not get stuck
abbrev pub EndsIn : World → (List Update → Type 0) → Plan → Type 0
EndsIn w P (Stuck reason) = Unit {0}
EndsIn w P (Look n k) = EndsIn w P (k (get w n))
EndsIn w P (Read runs k) = EndsIn w P (k (bytes_at w.byte runs))
EndsIn w P (If test p q) = (test ≡ true → EndsIn w P p) × (test ≡ false → EndsIn w P q)
EndsIn w P (Finish changes writes marks) = P changes

-- what an event changes beside queue pairs and completion queues
abbrev pub IsQuietName : Name → Type 0
IsQuietName (Queue_of q) = ⊥
IsQuietName (Cq_of s) = ⊥
IsQuietName n = Unit {0}

abbrev pub AreQuiet : Configuration → List Update → Type 0
AreQuiet c [] = Unit {0}
AreQuiet c (x ∷ xs) = (IsQuietName x.name × IsSoundThing c x.name x.thing) × AreQuiet c xs

pub quiet-sound : (c : Configuration) (cs : List Update) → AreQuiet c cs → AreSound c cs
quiet-sound c [] all = record {}
quiet-sound c (x ∷ xs) all = (all.0.1, quiet-sound c xs all.1)

pub sound-append : (c : Configuration) (xs ys : List Update) → AreSound c xs → AreSound c ys → AreSound c (xs ++ ys)
sound-append c [] ys one other = other
sound-append c (x ∷ xs) ys one other = (one.0, sound-append c xs ys one.1 other)

pub quiet-append : (c : Configuration) (xs ys : List Update) → AreQuiet c xs → AreQuiet c ys → AreQuiet c (xs ++ ys)
quiet-append c [] ys one other = other
quiet-append c (x ∷ xs) ys one other = (one.0, quiet-append c xs ys one.1 other)

-- quiet changes behind others leave queue pairs and completion queues
pub quiet-settled : (c : Configuration) (cs : List Update) (v : World) → AreQuiet c cs → AreSettled v.queue v.cq → AreSettled (put_all cs v).queue (put_all cs v).cq
quiet-settled c [] v all settled = settled
quiet-settled c (x ∷ xs) v all settled = by x.name x.thing all.0 (λ u same. quiet-settled c xs u all.1 same)
  where
    by : (n : Name) (t : Thing n) → IsQuietName n × IsSoundThing c n t → ((u : World) → AreSettled u.queue u.cq → AreSettled (put_all xs u).queue (put_all xs u).cq)
        → AreSettled (put_all xs (put v n t)).queue (put_all xs (put v n t)).cq
    by (Queue_of q) t quiet on = absurd quiet.0
    by (Cq_of s) t quiet on = absurd quiet.0
    by (Domain_of d) t quiet on = on (put v (Domain_of d) t) settled
    by (Region_of s) t quiet on = on (put v (Region_of s) t) settled
    by (Window_of s) t quiet on = on (put v (Window_of s) t) settled
    by (Srq_of s) t quiet on = on (put v (Srq_of s) t) settled
    by (Mailbox_of q) t quiet on = on (put v (Mailbox_of q) t) settled
    by (Byte_at p) t quiet on = on (put v (Byte_at p) t) settled

-- quiet changes alone
pub quiet-good : (c : Configuration) (w : World) (cs : List Update) → IsSoundWorld c w → AreQuiet c cs → IsGoodChange c w cs
quiet-good c w cs sound all = record { things = quiet-sound c cs all; settled = quiet-settled c cs w all sound.settled }

-- what stands around a queue pair in a world, with this shared receive queue
abbrev pub around_in : World → QueuePair → Option SrqSlot → Around
around_in w q shared = record { send = w.cq (send_cq_of q); recv = w.cq (recv_cq_of q); shared = shared }

-- the shared receive queue of a queue pair in a world
abbrev pub shared_of : World → QueuePair → Option SrqSlot
shared_of w q = option_map (λ srq. w.srq (srq_of q srq)) q.srq

-- a queue pair that stands in a sound world
pub record IsThere (w : World) (q : QueuePair) : Type 0 where
  pub present : w.queue q.queue ≡ Present q
  pub domain : q.domain ≡ (slot_of_queue q.queue).domain
  pub sound : IsQueue q

abbrev pub IsSoundShared : Option SrqSlot → Type 0
IsSoundShared shared = IfSome shared (λ slot. IfSome slot.srq IsSharedReceives)

pub sound-shared : (c : Configuration) (w : World) (q : QueuePair) → IsSoundWorld c w → IsSoundShared (shared_of w q)
sound-shared c w q sound = by q.srq
  where
    by : (o : Option ℕ) → IsSoundShared (option_map (λ srq. w.srq (srq_of q srq)) o)
    by None = record {}
    by (Some srq) = sound.things (Srq_of (srq_of q srq))

pub srq-quiet : (c : Configuration) (q : QueuePair) (a : Around) (f : SharedReceives → SharedReceives) → ((s : SharedReceives) → IsSharedReceives s → IsSharedReceives (f s))
    → IsSoundShared a.shared → AreQuiet c (srq_updates q a f)
srq-quiet c q a f keeps sound = by q.srq a.shared sound
  where
    updates : Option ℕ → Option SrqSlot → List Update
    updates (Some srq) (Some slot) = (Srq_of (srq_of q srq) := record slot { srq = option_map f slot.srq }) ∷ []
    updates srq slot = []

    mapped : (o : Option SharedReceives) → IfSome o IsSharedReceives → IfSome (option_map f o) IsSharedReceives
    mapped None s = record {}
    mapped (Some x) s = keeps x s

    by : (o : Option ℕ) (t : Option SrqSlot) → IsSoundShared t → AreQuiet c (updates o t)
    by None t s = record {}
    by (Some srq) None s = record {}
    by (Some srq) (Some slot) s = ((record {}, mapped slot.srq s), record {})

taken-quiet : (c : Configuration) (q : QueuePair) (a : Around) (b : Bool) → IsSoundShared a.shared → AreQuiet c (if b then srq_updates q a after_receive_take else [])
taken-quiet c q a true sound = srq-quiet c q a after_receive_take take-receive sound
taken-quiet c q a false sound = record {}

pub cq-sound : (f : CompletionQueue → CompletionQueue) (o : Option CompletionQueue) → ((q : CompletionQueue) → (f q).capacity ≡ q.capacity)
    → IfSome o IsCompletionQueue → IfSome (option_map f o) IsCompletionQueue
cq-sound f None same s = record {}
cq-sound f (Some q) same s = record { some = omega (arith, s.some, same q); capacity = omega (arith, s.capacity, same q) }

-- what an engine's turn changes: the queue pair goes on, its completion queues have what completed, and others are quiet
pub turn-good : (c : Configuration) (w v : World) (q : QueuePair) (e : Effects) (more : List Update) → IsSoundWorld c w → IsThere w q → v.queue ≡ w.queue → v.cq ≡ w.cq
    → IsGood q e → AreQuiet c more
    → AreSound c (updates_of q (around_in w q (shared_of w q)) e ++ more)
    × AreSettled (put_all (updates_of q (around_in w q (shared_of w q)) e ++ more) v).queue (put_all (updates_of q (around_in w q (shared_of w q)) e ++ more) v).cq
turn-good c w v q e more sound there queues cqs good quiet = (things, settled)
  where
    rest : List Update
    rest = (if e.takes_shared then srq_updates q (around_in w q (shared_of w q)) after_receive_take else []) ++ more

    rest-quiet : AreQuiet c rest
    rest-quiet = quiet-append c (if e.takes_shared then srq_updates q (around_in w q (shared_of w q)) after_receive_take else []) more
        (taken-quiet c q (around_in w q (shared_of w q)) e.takes_shared (sound-shared c w q sound)) quiet

    things : AreSound c (updates_of q (around_in w q (shared_of w q)) e ++ more)
    things = (
      (good.later.queue, good.later.domain ∙ there.domain, good.sound),
      (
        cq-sound _ (w.cq (send_cq_of q)) (λ q. refl) (sound.things (Cq_of (send_cq_of q))),
        (
          cq-sound _ (w.cq (recv_cq_of q)) (λ q. refl) (sound.things (Cq_of (recv_cq_of q))),
          quiet-sound c rest rest-quiet,
        ),
      ),
    )

    moved : World
    moved = put_all ((Queue_of q.queue := Present e.queue) ∷ cq_updates q (around_in w q (shared_of w q)) e.marks) v

    there-settled : AreSettled moved.queue moved.cq
    there-settled = subst (λ f. AreSettled (with_at queue_eq f q.queue (Present e.queue)) moved.cq) (sym queues)
        (subst (λ f. AreSettled (with_at queue_eq w.queue q.queue (Present e.queue))
        (with_at slot_eq (with_at slot_eq f (send_cq_of q) (option_map (after_puts (completions_to q q.send_cq e.marks)) (w.cq (send_cq_of q))))
        (recv_cq_of q) (option_map (after_puts (completions_to q q.recv_cq e.marks)) (w.cq (recv_cq_of q))))) (sym cqs)
        (turn-settled w.queue w.cq q e.queue e.marks sound.settled there.present good.later good.settled))

    settled : AreSettled (put_all (updates_of q (around_in w q (shared_of w q)) e ++ more) v).queue (put_all (updates_of q (around_in w q (shared_of w q)) e ++ more) v).cq
    settled = quiet-settled c rest moved rest-quiet there-settled

pub is-there : (w : World) (name : QueueId) (q : QueuePair) → w.queue name ≡ Present q → IsQueueOf name (Present q) → IsThere w q
is-there w name q is one = record { present = ap w.queue one.0 ∙ is; domain = one.1 ∙ ap (λ n. (slot_of_queue n).domain) (sym one.0); sound = one.2 }

-- looking for a queue pair finds one that stands in the world
pub ends-queue : (c : Configuration) (w : World) (P : List Update → Type 0) (name : QueueId) (r : Reason) (k : QueuePair → Plan) → IsSoundWorld c w
    → ((q : QueuePair) → IsThere w q → EndsIn w P (k q)) → EndsIn w P (With_queue c name r k)
ends-queue c w P name r k sound more = (λ has. by (w.queue name) refl (sound.things (Queue_of name)), λ none. record {})
  where
    plan : QueueSlot → Plan
    plan (NoQueue incarnation timers) = Stuck r
    plan (Present q) = k q

    by : (s : QueueSlot) → w.queue name ≡ s → IsQueueOf name s → EndsIn w P (plan s)
    by (NoQueue incarnation timers) is one = record {}
    by (Present q) is one = more q (is-there w name q is one)

pub ends-around : (w : World) (P : List Update → Type 0) (q : QueuePair) (k : Around → Plan) → EndsIn w P (k (around_in w q (shared_of w q))) → EndsIn w P (With_around q k)
ends-around w P q k ends = by q.srq ends
  where
    plan : Option CompletionQueue → Option CompletionQueue → Option ℕ → Plan
    plan send recv None = k (record { send = send; recv = recv; shared = None })
    plan send recv (Some srq) = Look (Srq_of (srq_of q srq)) (λ shared. k (record { send = send; recv = recv; shared = Some shared }))

    by : (o : Option ℕ) → EndsIn w P (k (around_in w q (option_map (λ srq. w.srq (srq_of q srq)) o))) → EndsIn w P (plan (w.cq (send_cq_of q)) (w.cq (recv_cq_of q)) o)
    by None ends = ends
    by (Some srq) ends = ends

pub ends-grant : (c : Configuration) (w : World) (P : List Update → Type 0) (ask : Ask) (k : Option Grant → Plan) → ((g : Option Grant) → EndsIn w P (k g)) → EndsIn w P (With_grant c ask k)
ends-grant c w P ask k more = search rules

pub ends-grants : (c : Configuration) (w : World) (P : List Update → Type 0) (asks : List Ask) (k : List (Option Grant) → Plan) → ((gs : List (Option Grant)) → EndsIn w P (k gs)) → EndsIn w P (With_grants c asks k)
ends-grants c w P [] k more = more []
ends-grants c w P (ask ∷ asks) k more =
    ends-grant c w P ask (λ g. With_grants c asks (λ gs. k (g ∷ gs))) (λ g. ends-grants c w P asks (λ gs. k (g ∷ gs)) (λ gs. more (g ∷ gs)))

pub ends-bytes : (w : World) (P : List Update → Type 0) (asks : List Ask) (gs : List (Option Grant)) (k : List (List ℕ) → Plan) → ((bs : List (List ℕ)) → EndsIn w P (k bs)) → EndsIn w P (With_bytes asks gs k)
ends-bytes w P [] gs k more = more []
ends-bytes w P (ask ∷ asks) [] k more = more []
ends-bytes w P (ask ∷ asks) (g ∷ gs) k more =
    ends-bytes w P asks gs (λ rest. k (bytes_at w.byte (runs_by_grant ask g) ∷ rest)) (λ rest. more (bytes_at w.byte (runs_by_grant ask g) ∷ rest))

pub ends-writes : (c : Configuration) (w : World) (P : List Update → Type 0) (xs : List (Ask × List ℕ)) (k : List Write → Plan) → ((ws : List Write) → EndsIn w P (k ws)) → EndsIn w P (With_writes c xs k)
ends-writes c w P [] k more = more []
ends-writes c w P (x ∷ xs) k more =
    ends-grant c w P x.0 (λ g. With_writes c xs (λ rest. k (record { runs = runs_by_grant x.0 g; bytes = x.1 } ∷ rest)))
    (λ g. ends-writes c w P xs _ (λ ws. more (record { runs = runs_by_grant x.0 g; bytes = x.1 } ∷ ws)))

invalidated-state : (c : Configuration) (s : Slot) (low : ℕ) (state : RegionState) → IsSoundState c s low state → IsSoundState c s low (state_after_invalidation state)
invalidated-state c s low NoRegion sound = sound
invalidated-state c s low (Free pages) sound = sound
invalidated-state c s low (Registered g) sound = sound
invalidated-state c s low (FastRegistered pages g) sound = record {}

pub ends-invalidation : (c : Configuration) (w : World) (P : List Update → Type 0) (i : Option Invalidation) (k : Option OpRefusal → List Update → Plan) → IsSoundWorld c w
    → ((r : Option OpRefusal) (cs : List Update) → AreQuiet c cs → EndsIn w P (k r cs)) → EndsIn w P (With_invalidation c i k)
ends-invalidation c w P None k sound more = more None [] (record {})
ends-invalidation c w P (Some i) k sound more = (
  λ named. more _ _ ((record {}, invalidated-state c slot (w.region slot).low (w.region slot).state (sound.things (Region_of slot))), record {}),
  λ none. (λ named. by (w.window slot).binding, λ none. more _ [] (record {})),
)
  where
    slot : Slot
    slot = slot_of_key i.domain i.key

    plan : Option Binding → Plan
    plan None = k (window_refusal i.key i.queue (w.window slot)) []
    plan (Some b) = Look (Region_of (region_under (w.window slot) b)) (λ region.
        k (window_refusal i.key i.queue (w.window slot))
        ((Window_of slot := without_binding (w.window slot)) ∷ (Region_of (region_under (w.window slot) b) := with_window_unbound region) ∷ []))

    by : (o : Option Binding) → EndsIn w P (plan o)
    by None = more _ [] (record {})
    by (Some b) = more _ _ (
      (record {}, ((sound.things (Window_of slot)).0, unbound-window (w.window slot) (sound.things (Window_of slot)).1)),
      ((record {}, sound.things (Region_of (region_under (w.window slot) b))), record {}),
    )

pub unless-quiet : (c : Configuration) (r : Option OpRefusal) (cs : List Update) → AreQuiet c cs → AreQuiet c (unless_none r cs)
unless-quiet c None cs quiet = quiet
unless-quiet c (Some r) cs quiet = record {}

-- what each ending of a row does
abbrev pub EndingDoes : (Effects → Type 0) → Ending → Type 0
EndingDoes E (NotPossible reason) = Unit {0}
EndingDoes E (Does e) = E e

pub record RowDoes (E : Effects → Type 0) (row : Row) : Type 0 where
  pub denied : (d : DeniedAsk) → EndingDoes E (row.denied d)
  pub allowed : (bytes : List (List ℕ)) (refusal : Option OpRefusal) → EndingDoes E (row.allowed bytes refusal)

ending-good : (q : QueuePair) (e : Ending) → IsGoodEnding q e → EndingDoes (IsGood q) e
ending-good q (NotPossible reason) good = record {}
ending-good q (Does e) good = good

pub row-does : (q : QueuePair) (row : Row) → IsGoodRow q row → RowDoes (IsGood q) row
row-does q row good = record {
  denied = λ d. ending-good q (row.denied d) (good.denied d);
  allowed = λ bytes refusal. ending-good q (row.allowed bytes refusal) (good.allowed bytes refusal);
}

-- a row's plan ends as its endings do, with what its invalidation changes
pub ends-row : (c : Configuration) (w : World) (P : List Update → Type 0) (E : Effects → Type 0) (row : Row) (finish : Effects → List Update → List Write → Plan) → IsSoundWorld c w
    → RowDoes E row → ((e : Effects) (cs : List Update) (ws : List Write) → E e → AreQuiet c cs → EndsIn w P (finish e cs ws)) → EndsIn w P (Row_plan c row finish)
ends-row c w P E row finish sound does more =
    ends-grants c w P row.asks _ (λ gs. by gs (first_denied_by row.asks gs))
  where
    ending : (cs : List Update) (e : Ending) → AreQuiet c cs → EndingDoes E e → EndsIn w P (End_plan c finish cs e)
    ending cs (NotPossible reason) quiet does = record {}
    ending cs (Does e) quiet does = ends-writes c w P e.writes (λ writes. finish e cs writes) (λ ws. more e cs ws does quiet)

    plan : List (Option Grant) → Option DeniedAsk → Plan
    plan gs (Some d) = End_plan c finish [] (row.denied d)
    plan gs None = With_bytes row.asks gs (λ bytes. With_invalidation c row.invalidation (λ refusal cs.
        End_plan c finish (unless_none refusal cs) (row.allowed bytes refusal)))

    by : (gs : List (Option Grant)) (d : Option DeniedAsk) → EndsIn w P (plan gs d)
    by gs (Some d) = ending [] (row.denied d) (record {}) (does.denied d)
    by gs None = ends-bytes w P row.asks gs (λ bytes. With_invalidation c row.invalidation (λ refusal cs. End_plan c finish (unless_none refusal cs) (row.allowed bytes refusal)))
        (λ bytes. ends-invalidation c w P row.invalidation (λ refusal cs. End_plan c finish (unless_none refusal cs) (row.allowed bytes refusal)) sound
        (λ refusal cs quiet. ending (unless_none refusal cs) (row.allowed bytes refusal) (unless-quiet c refusal cs quiet) (does.allowed bytes refusal)))
