-- Rules of plans that lead to worlds and marks: what every plan shares, and a row's plan. For proofs only.
use Rattle.std.proofs.Common.{◌≡◌, ℕ, Bool, true, false, List, [], ◌∷◌, Option, None, Some, refl, rules}
use Rattle.std.specs.Option.{option_map}
use Rattle.ca_law_endings.specs.Runs.{Comes, Leads}
use Rattle.ca_base.specs.Configuration.{Configuration}
use Rattle.ca_base.specs.Sight.{Invalidation, runs_by_grant}
use Rattle.ca_base.specs.declared.denied_ask.DeniedAsk.{DeniedAsk}
use Rattle.ca_base.specs.declared.refusals.OpRefusal.{OpRefusal}
use Rattle.ca_base.specs.declared.step.Reason.{Reason}
use Rattle.ca_base.specs.objects.CompletionQueue.{CompletionQueue}
use Rattle.ca_base.specs.objects.QueuePair.{QueuePair, QueueSlot, NoQueue, Present, recv_cq_of, send_cq_of, srq_of}
use Rattle.ca_base.specs.objects.LocalRequest.{window_refusal}
use Rattle.ca_base.specs.objects.Region.{with_window_unbound}
use Rattle.ca_base.specs.objects.Slices.{slot_of_key}
use Rattle.ca_base.specs.objects.Window.{Binding, without_binding}
use Rattle.ca_keys.specs.Memory.{bytes_at}
use Rattle.ca_keys.specs.declared.access.Ask.{Ask}
use Rattle.ca_keys.specs.declared.grant.Grant.{Grant}
use Rattle.ca_keys.specs.declared.names.QueueId.{QueueId}
use Rattle.ca_keys.specs.declared.names.Slot.{Slot}
use Rattle.ca_model.specs.declared.mark.Mark.{Mark}
use Rattle.ca_model.specs.machine.Around.{Around, With_around, With_queue}
use Rattle.ca_model.specs.machine.Plan.{Plan, Stuck, Look, Read, If, Finish, Update, ◌:=◌, Write, perform, unless_refused}
use Rattle.ca_model.specs.machine.Row.{Ending, NotPossible, Does, Effects, Row, Row_plan, End_plan, With_grant, With_grants, With_bytes, With_writes, With_invalidation, first_denied_by, region_under, unless_none}
use Rattle.ca_model.specs.machine.World.{World, Name, Region_of, Srq_of, Window_of, get}
use Rattle.ca_law_world.proofs.Sound.WorldLemmas.{EndingDoes, RowDoes, around_in, shared_of}

-- what a plan that leads somewhere comes to
pub comes : (w : World) (P : World → List Mark → Type 0) (p : Plan) → Leads w P p → Comes P (perform w p)
comes w P (Stuck reason) leads = record {}
comes w P (Look n k) leads = comes w P (k (get w n)) leads
comes w P (Read runs k) leads = comes w P (k (bytes_at w.byte runs)) leads
comes w P (If true p q) leads = comes w P p (leads.0 refl)
comes w P (If false p q) leads = comes w P q (leads.1 refl)
comes w P (Finish changes writes marks) leads = leads

-- where a plan leads to one thing it leads to what follows
pub leads-weaker : (w : World) (P Q : World → List Mark → Type 0) (p : Plan) → ((v : World) (ms : List Mark) → P v ms → Q v ms) → Leads w P p → Leads w Q p
leads-weaker w P Q (Stuck reason) follows leads = record {}
leads-weaker w P Q (Look n k) follows leads = leads-weaker w P Q (k (get w n)) follows leads
leads-weaker w P Q (Read runs k) follows leads = leads-weaker w P Q (k (bytes_at w.byte runs)) follows leads
leads-weaker w P Q (If test p q) follows leads = (λ is. leads-weaker w P Q p follows (leads.0 is), λ is. leads-weaker w P Q q follows (leads.1 is))
leads-weaker w P Q (Finish changes writes marks) follows leads = follows _ marks leads

pub leads-unless : {R : Type 0} (w : World) (P : World → List Mark → Type 0) (tests : List (Bool × R)) (refuse : R → Plan) (p : Plan) → ((r : R) → Leads w P (refuse r)) → Leads w P p
    → Leads w P (unless_refused tests refuse p)
leads-unless w P [] refuse p refused more = more
leads-unless w P (t ∷ ts) refuse p refused more = (λ is. refused t.1, λ is. leads-unless w P ts refuse p refused more)

pub leads-queue : (c : Configuration) (w : World) (P : World → List Mark → Type 0) (name : QueueId) (r : Reason) (k : QueuePair → Plan)
    → ((q : QueuePair) → w.queue name ≡ Present q → Leads w P (k q)) → Leads w P (With_queue c name r k)
leads-queue c w P name r k more = (λ has. by (w.queue name) refl, λ none. record {})
  where
    plan : QueueSlot → Plan
    plan (NoQueue incarnation timers) = Stuck r
    plan (Present q) = k q

    by : (s : QueueSlot) → w.queue name ≡ s → Leads w P (plan s)
    by (NoQueue incarnation timers) is = record {}
    by (Present q) is = more q is

pub leads-around : (w : World) (P : World → List Mark → Type 0) (q : QueuePair) (k : Around → Plan) → Leads w P (k (around_in w q (shared_of w q))) → Leads w P (With_around q k)
leads-around w P q k leads = by q.srq leads
  where
    plan : Option CompletionQueue → Option CompletionQueue → Option ℕ → Plan
    plan send recv None = k (record { send = send; recv = recv; shared = None })
    plan send recv (Some srq) = Look (Srq_of (srq_of q srq)) (λ shared. k (record { send = send; recv = recv; shared = Some shared }))

    by : (o : Option ℕ) → Leads w P (k (around_in w q (option_map (λ srq. w.srq (srq_of q srq)) o))) → Leads w P (plan (w.cq (send_cq_of q)) (w.cq (recv_cq_of q)) o)
    by None leads = leads
    by (Some srq) leads = leads

leads-grant : (c : Configuration) (w : World) (P : World → List Mark → Type 0) (ask : Ask) (k : Option Grant → Plan) → ((g : Option Grant) → Leads w P (k g)) → Leads w P (With_grant c ask k)
leads-grant c w P ask k more = search rules

leads-grants : (c : Configuration) (w : World) (P : World → List Mark → Type 0) (asks : List Ask) (k : List (Option Grant) → Plan) → ((gs : List (Option Grant)) → Leads w P (k gs))
    → Leads w P (With_grants c asks k)
leads-grants c w P [] k more = more []
leads-grants c w P (ask ∷ asks) k more =
    leads-grant c w P ask (λ g. With_grants c asks (λ gs. k (g ∷ gs))) (λ g. leads-grants c w P asks (λ gs. k (g ∷ gs)) (λ gs. more (g ∷ gs)))

leads-bytes : (w : World) (P : World → List Mark → Type 0) (asks : List Ask) (gs : List (Option Grant)) (k : List (List ℕ) → Plan) → ((bs : List (List ℕ)) → Leads w P (k bs))
    → Leads w P (With_bytes asks gs k)
leads-bytes w P [] gs k more = more []
leads-bytes w P (ask ∷ asks) [] k more = more []
leads-bytes w P (ask ∷ asks) (g ∷ gs) k more =
    leads-bytes w P asks gs (λ rest. k (bytes_at w.byte (runs_by_grant ask g) ∷ rest)) (λ rest. more (bytes_at w.byte (runs_by_grant ask g) ∷ rest))

leads-writes : (c : Configuration) (w : World) (P : World → List Mark → Type 0) (xs : List (Ask × List ℕ)) (k : List Write → Plan) → ((ws : List Write) → Leads w P (k ws))
    → Leads w P (With_writes c xs k)
leads-writes c w P [] k more = more []
leads-writes c w P (x ∷ xs) k more =
    leads-grant c w P x.0 (λ g. With_writes c xs (λ rest. k (record { runs = runs_by_grant x.0 g; bytes = x.1 } ∷ rest)))
    (λ g. leads-writes c w P xs _ (λ ws. more (record { runs = runs_by_grant x.0 g; bytes = x.1 } ∷ ws)))

-- changes of windows and regions alone
abbrev pub IsAsideName : Name → Type 0
IsAsideName (Region_of s) = Unit {0}
IsAsideName (Window_of s) = Unit {0}
IsAsideName n = ⊥

abbrev pub AreAside : List Update → Type 0
AreAside [] = Unit {0}
AreAside (x ∷ xs) = IsAsideName x.name × AreAside xs

leads-invalidation : (c : Configuration) (w : World) (P : World → List Mark → Type 0) (i : Option Invalidation) (k : Option OpRefusal → List Update → Plan)
    → ((r : Option OpRefusal) (cs : List Update) → AreAside cs → Leads w P (k r cs)) → Leads w P (With_invalidation c i k)
leads-invalidation c w P None k more = more None [] (record {})
leads-invalidation c w P (Some i) k more = (λ named. more _ _ (record {}, record {}), λ none. (λ named. by (w.window slot).binding, λ none. more _ [] (record {})))
  where
    slot : Slot
    slot = slot_of_key i.domain i.key

    plan : Option Binding → Plan
    plan None = k (window_refusal i.key i.queue (w.window slot)) []
    plan (Some b) = Look (Region_of (region_under (w.window slot) b)) (λ region.
        k (window_refusal i.key i.queue (w.window slot))
        ((Window_of slot := without_binding (w.window slot)) ∷ (Region_of (region_under (w.window slot) b) := with_window_unbound region) ∷ []))

    by : (o : Option Binding) → Leads w P (plan o)
    by None = more _ [] (record {})
    by (Some b) = more _ _ (record {}, (record {}, record {}))

pub unless-aside : (r : Option OpRefusal) (cs : List Update) → AreAside cs → AreAside (unless_none r cs)
unless-aside None cs aside = aside
unless-aside (Some r) cs aside = record {}

-- a row's plan leads where each of its endings does, with what the end of its key changes
pub leads-row : (c : Configuration) (w : World) (P : World → List Mark → Type 0) (E : Effects → Type 0) (row : Row) (finish : Effects → List Update → List Write → Plan) → RowDoes E row
    → ((e : Effects) (cs : List Update) (ws : List Write) → E e → AreAside cs → Leads w P (finish e cs ws)) → Leads w P (Row_plan c row finish)
leads-row c w P E row finish does more = leads-grants c w P row.asks _ (λ gs. by gs (first_denied_by row.asks gs))
  where
    ending : (cs : List Update) (e : Ending) → AreAside cs → EndingDoes E e → Leads w P (End_plan c finish cs e)
    ending cs (NotPossible reason) aside does = record {}
    ending cs (Does e) aside does = leads-writes c w P e.writes (λ writes. finish e cs writes) (λ ws. more e cs ws does aside)

    plan : List (Option Grant) → Option DeniedAsk → Plan
    plan gs (Some d) = End_plan c finish [] (row.denied d)
    plan gs None = With_bytes row.asks gs (λ bytes. With_invalidation c row.invalidation (λ refusal cs.
        End_plan c finish (unless_none refusal cs) (row.allowed bytes refusal)))

    by : (gs : List (Option Grant)) (d : Option DeniedAsk) → Leads w P (plan gs d)
    by gs (Some d) = ending [] (row.denied d) (record {}) (does.denied d)
    by gs None = leads-bytes w P row.asks gs (λ bytes. With_invalidation c row.invalidation (λ refusal cs. End_plan c finish (unless_none refusal cs) (row.allowed bytes refusal)))
        (λ bytes. leads-invalidation c w P row.invalidation (λ refusal cs. End_plan c finish (unless_none refusal cs) (row.allowed bytes refusal))
        (λ refusal cs aside. ending (unless_none refusal cs) (row.allowed bytes refusal) (unless-aside refusal cs aside) (does.allowed bytes refusal)))
