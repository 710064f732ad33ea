-- How looks, rows and changes of a plan are carried out in a world.
use Rattle.std.proofs.Common.{◌≡◌, ◌∙◌, ℕ, Bool, true, false, if◌then◌else◌, List, [], ◌∷◌, map, Option, None, Some, ap, refl}
use Rattle.std.specs.Option.{option_and_then, option_map, option_map_or}
use Rattle.ca_keys.specs.declared.access.Ask.{Ask}
use Rattle.ca_keys.specs.declared.grant.Grant.{Grant}
use Rattle.ca_keys.specs.declared.names.QueueId.{QueueId}
use Rattle.ca_keys.specs.declared.names.Slot.{Slot}
use Rattle.ca_base.specs.Configuration.{Configuration}
use Rattle.ca_base.specs.declared.denied_ask.DeniedAsk.{DeniedAsk}
use Rattle.ca_base.specs.declared.refusals.OpRefusal.{OpRefusal}
use Rattle.ca_base.specs.declared.step.Reason.{Reason}
use Rattle.ca_base.specs.Sight.{Invalidation, bytes_in, denial_in, first_denied, or_denied, runs_by_grant}
use Rattle.ca_base.specs.objects.CompletionQueue.{CompletionQueue}
use Rattle.ca_base.specs.objects.LocalRequest.{region_refusal, unnamed_refusal, window_refusal}
use Rattle.ca_base.specs.objects.QueuePair.{NoQueue, Present, QueuePair, QueueSlot, recv_cq_of, send_cq_of, srq_of}
use Rattle.ca_base.specs.objects.Region.{after_region_invalidation, grant_of_region, with_window_unbound}
use Rattle.ca_base.specs.objects.Slices.{has_queue, names_region, names_window, slot_of_key}
use Rattle.ca_base.specs.objects.Window.{Binding, Window, without_binding}
use Rattle.ca_model.specs.machine.Around.{Around, With_around, With_queue}
use Rattle.ca_model.specs.machine.Plan.{Look, NotReady, Plan, Stuck, Update, Write, perform, ◌:=◌}
use Rattle.ca_model.specs.machine.Row.{Does, Effects, Ending, End_plan, NotPossible, Row, Row_plan, ending_of, With_bytes, With_grant, With_grants, With_invalidation, With_writes, first_denied_by, grant_if_fitting, grant_over, region_under, unless_none}
use Rattle.ca_model.specs.machine.Seen.{asks_window, ending_changes, grant_in, perform_ending, refusal_in, row_changes, sight_in, writes_in}
use Rattle.ca_model.specs.machine.World.{Region_of, Srq_of, Window_of, World}

-- a queue pair that is there is looked at
pub queue-performs : (c : Configuration) (w : World) (name : QueueId) (reason : Reason) (k : QueuePair → Plan) (q : QueuePair) → has_queue c name ≡ true → w.queue name ≡ Present q
    → perform w (With_queue c name reason k) ≡ perform w (k q)
queue-performs c w name reason k q has is = ap (λ b. if b then perform w (by (w.queue name)) else NotReady reason) has ∙ ap (λ s. perform w (by s)) is
  where
    by : QueueSlot → Plan
    by (NoQueue incarnation timers) = Stuck reason
    by (Present q) = k q

-- what stands around a queue pair in a world
abbrev pub around_at : World → QueuePair → Around
around_at w q = record {
  send = w.cq (send_cq_of q);
  recv = w.cq (recv_cq_of q);
  shared = option_map (λ srq. w.srq (srq_of q srq)) q.srq;
}

-- what stands around a queue pair is looked at
pub around-performs : (w : World) (q : QueuePair) (k : Around → Plan) → perform w (With_around q k) ≡ perform w (k (around_at w q))
around-performs w q k = by q.srq
  where
    plan : Option CompletionQueue → Option CompletionQueue → Option ℕ → Plan
    plan send recv None = k (record { send = send; recv = recv; shared = None })
    plan send recv (Some srq) = Look (Srq_of (srq_of q srq)) (λ shared. k (record { send = send; recv = recv; shared = Some shared }))

    by : (o : Option ℕ) → perform w (plan (w.cq (send_cq_of q)) (w.cq (recv_cq_of q)) o)
        ≡ perform w (k (record { send = w.cq (send_cq_of q); recv = w.cq (recv_cq_of q); shared = option_map (λ srq. w.srq (srq_of q srq)) o }))
    by None = refl
    by (Some srq) = refl

-- the grant of an ask is looked for
grant-performs : (c : Configuration) (w : World) (ask : Ask) (k : Option Grant → Plan) → perform w (With_grant c ask k) ≡ perform w (k (grant_in c w ask))
grant-performs c w ask k = by (names_region c ask.domain ask.key) (asks_window c ask)
  where
    slot : Slot
    slot = slot_of_key ask.domain ask.key

    plan : Window → Option Binding → Plan
    plan window None = k None
    plan window (Some b) = Look (Region_of (region_under window b)) (λ region. k (grant_if_fitting ask (grant_over window b region)))

    grant : Window → Option Binding → Option Grant
    grant window None = None
    grant window (Some b) = grant_if_fitting ask (grant_over window b (w.region (region_under window b)))

    bound : (o : Option Binding) → perform w (plan (w.window slot) o) ≡ perform w (k (grant (w.window slot) o))
    bound None = refl
    bound (Some b) = refl

    by : (b z : Bool) → (if b then perform w (k (grant_if_fitting ask (grant_of_region (w.region slot)))) else if z then perform w (plan (w.window slot) (w.window slot).binding) else perform w (k None))
        ≡ perform w (k (if b then grant_if_fitting ask (grant_of_region (w.region slot)) else if z then grant (w.window slot) (w.window slot).binding else None))
    by true z = refl
    by false true = bound (w.window slot).binding
    by false false = refl

-- the grants of asks, in order
abbrev grants_in : Configuration → World → List Ask → List (Option Grant)
grants_in c w asks = map (grant_in c w) asks

grants-perform : (c : Configuration) (w : World) (asks : List Ask) (k : List (Option Grant) → Plan) → perform w (With_grants c asks k) ≡ perform w (k (grants_in c w asks))
grants-perform c w [] k = refl
grants-perform c w (ask ∷ asks) k = grant-performs c w ask (λ g. With_grants c asks (λ gs. k (g ∷ gs))) ∙ grants-perform c w asks (λ gs. k (grant_in c w ask ∷ gs))

-- what is denied by the grants is what is denied by the sight
denied-same : (c : Configuration) (w : World) (asks : List Ask) → first_denied_by asks (grants_in c w asks) ≡ first_denied (sight_in c w) asks
denied-same c w [] = refl
denied-same c w (ask ∷ asks) = ap (or_denied ask (denial_in (sight_in c w) ask)) (denied-same c w asks)

bytes-perform : (c : Configuration) (w : World) (asks : List Ask) (k : List (List ℕ) → Plan) → perform w (With_bytes asks (grants_in c w asks) k) ≡ perform w (k (map (bytes_in (sight_in c w)) asks))
bytes-perform c w [] k = refl
bytes-perform c w (ask ∷ asks) k = bytes-perform c w asks (λ rest. k (bytes_in (sight_in c w) ask ∷ rest))

writes-perform : (c : Configuration) (w : World) (xs : List (Ask × List ℕ)) (k : List Write → Plan) → perform w (With_writes c xs k) ≡ perform w (k (writes_in (sight_in c w) xs))
writes-perform c w [] k = refl
writes-perform c w (x ∷ xs) k = grant-performs c w x.0 (λ g. With_writes c xs (λ rest. k (record { runs = runs_by_grant x.0 g; bytes = x.1 } ∷ rest)))
    ∙ writes-perform c w xs (λ rest. k (record { runs = runs_by_grant x.0 (grant_in c w x.0); bytes = x.1 } ∷ rest))

ending-performs : (c : Configuration) (w : World) (finish : Effects → List Update → List Write → Plan) (changes : List Update) (e : Ending)
    → perform w (End_plan c finish changes e) ≡ perform_ending w (sight_in c w) finish changes e
ending-performs c w finish changes (NotPossible reason) = refl
ending-performs c w finish changes (Does e) = writes-perform c w e.writes (λ writes. finish e changes writes)

-- an invalidation is looked at, with what it changes
invalidation-performs : (c : Configuration) (w : World) (i : Invalidation) (rest : Option OpRefusal → List Update → Plan)
    → perform w (With_invalidation c (Some i) (λ refusal changes. rest refusal (unless_none refusal changes)))
    ≡ perform w (rest (refusal_in c w i) (unless_none (refusal_in c w i) (ending_changes c w i)))
invalidation-performs c w i rest = by (names_region c i.domain i.key) (names_window c i.domain i.key)
  where
    slot : Slot
    slot = slot_of_key i.domain i.key

    k : Option OpRefusal → List Update → Plan
    k refusal changes = rest refusal (unless_none refusal changes)

    refused : Option OpRefusal
    refused = window_refusal i.key i.queue (w.window slot)

    plan : Option Binding → Plan
    plan None = k refused []
    plan (Some b) = Look (Region_of (region_under (w.window slot) b)) (λ region.
        k refused ((Window_of slot := without_binding (w.window slot)) ∷ (Region_of (region_under (w.window slot) b) := with_window_unbound region) ∷ []))

    changed : Option Binding → List Update
    changed None = []
    changed (Some b) = (Window_of slot := without_binding (w.window slot)) ∷ (Region_of (region_under (w.window slot) b) := with_window_unbound (w.region (region_under (w.window slot) b))) ∷ []

    bound : (o : Option Binding) → perform w (plan o) ≡ perform w (k refused (changed o))
    bound None = refl
    bound (Some b) = refl

    by : (b z : Bool)
        → (if b then perform w (k (region_refusal i.key (w.region slot)) ((Region_of slot := after_region_invalidation (w.region slot)) ∷ []))
        else if z then perform w (plan (w.window slot).binding) else perform w (k (Some (unnamed_refusal i.key)) []))
        ≡ perform w (k (if b then region_refusal i.key (w.region slot) else if z then refused else Some (unnamed_refusal i.key))
        (if b then (Region_of slot := after_region_invalidation (w.region slot)) ∷ [] else if z then changed (w.window slot).binding else []))
    by true z = refl
    by false true = bound (w.window slot).binding
    by false false = refl

-- a row's plan does what the row does by what is seen in the world
pub row-performs : (c : Configuration) (w : World) (row : Row) (finish : Effects → List Update → List Write → Plan)
    → perform w (Row_plan c row finish) ≡ perform_ending w (sight_in c w) finish (row_changes c w row) (ending_of (sight_in c w) row)
row-performs c w row finish = grants-perform c w row.asks _ ∙ ap (λ d. perform w (plan d)) (denied-same c w row.asks) ∙ by (first_denied (sight_in c w) row.asks)
  where
    bytes_of : List (List ℕ)
    bytes_of = map (bytes_in (sight_in c w)) row.asks

    ending : Option Invalidation → List (List ℕ) → Plan
    ending i bytes = With_invalidation c i (λ refusal changes. End_plan c finish (unless_none refusal changes) (row.allowed bytes refusal))

    plan : Option DeniedAsk → Plan
    plan (Some d) = End_plan c finish [] (row.denied d)
    plan None = With_bytes row.asks (grants_in c w row.asks) (ending row.invalidation)

    changed : Option DeniedAsk → List Update
    changed (Some d) = []
    changed None = option_map_or (λ i. unless_none (refusal_in c w i) (ending_changes c w i)) row.invalidation []

    end : Option DeniedAsk → Ending
    end (Some d) = row.denied d
    end None = row.allowed bytes_of (option_and_then (refusal_in c w) row.invalidation)

    ends : (i : Option Invalidation) → perform w (ending i bytes_of)
        ≡ perform_ending w (sight_in c w) finish (option_map_or (λ i. unless_none (refusal_in c w i) (ending_changes c w i)) i []) (row.allowed bytes_of (option_and_then (refusal_in c w) i))
    ends None = ending-performs c w finish [] (row.allowed bytes_of None)
    ends (Some i) = invalidation-performs c w i (λ refusal changes. End_plan c finish changes (row.allowed bytes_of refusal))
        ∙ ending-performs c w finish (unless_none (refusal_in c w i) (ending_changes c w i)) (row.allowed bytes_of (refusal_in c w i))

    by : (d : Option DeniedAsk) → perform w (plan d) ≡ perform_ending w (sight_in c w) finish (changed d) (end d)
    by (Some d) = ending-performs c w finish [] (row.denied d)
    by None = bytes-perform c w row.asks (ending row.invalidation) ∙ ends row.invalidation
