-- What is seen of keys and memory in a world, and how a row ends there. Laws cite it.
use Rattle.std.specs.Prelude.{ℕ, Bool, false, if◌then◌else◌, List, [], ◌∷◌, Option, None, Some}
use Rattle.std.specs.Option.{option_and_then, option_map, option_map_or}
use Rattle.ca_keys.specs.declared.access.Ask.{Ask}
use Rattle.ca_keys.specs.declared.grant.Grant.{Grant}
use Rattle.ca_keys.specs.declared.names.Slot.{Slot}
use Rattle.ca_base.specs.Configuration.{Configuration}
use Rattle.ca_base.specs.declared.denied_ask.DeniedAsk.{DeniedAsk}
use Rattle.ca_base.specs.declared.refusals.OpRefusal.{OpRefusal}
use Rattle.ca_base.specs.Sight.{Invalidation, Sight, first_denied, runs_in}
use Rattle.ca_base.specs.objects.LocalRequest.{region_refusal, unnamed_refusal, window_refusal}
use Rattle.ca_base.specs.objects.Region.{after_region_invalidation, grant_of_region, with_window_unbound}
use Rattle.ca_base.specs.objects.QueuePair.{QueuePair, srq_of}
use Rattle.ca_base.specs.objects.SharedReceives.{SharedReceives}
use Rattle.ca_base.specs.objects.Slices.{names_region, names_window, slot_of_key}
use Rattle.ca_base.specs.objects.Window.{Binding, Window, without_binding}
use Rattle.ca_model.specs.machine.Plan.{NotReady, Outcome, Plan, Update, Write, perform, ◌:=◌}
use Rattle.ca_model.specs.machine.Row.{Does, Effects, Ending, NotPossible, Row, grant_if_fitting, grant_over, region_under, unless_none}
use Rattle.ca_model.specs.machine.World.{Region_of, Window_of, World}

-- the shared receive queue of a queue pair in a world, if it has one
abbrev pub shared_receives : World → QueuePair → Option SharedReceives
shared_receives w q = option_and_then (λ slot. slot.srq) (option_map (λ srq. w.srq (srq_of q srq)) q.srq)

-- an access's key names a window: it is no L_Key
abbrev pub asks_window : Configuration → Ask → Bool
asks_window c ask = if ask.local then false else names_window c ask.domain ask.key

-- the grant that an ask goes by in a world: that of the region which its key names, or of the window over the region of
-- its binding
abbrev pub grant_in : Configuration → World → Ask → Option Grant
grant_in c w ask =
    if names_region c ask.domain ask.key then grant_if_fitting ask (grant_of_region (w.region slot))
    else if asks_window c ask then by (w.window slot) (w.window slot).binding
    else None
  where
    slot : Slot
    slot = slot_of_key ask.domain ask.key

    by : Window → Option Binding → Option Grant
    by window None = None
    by window (Some b) = grant_if_fitting ask (grant_over window b (w.region (region_under window b)))

-- why an invalidation is refused in a world, if it is
abbrev pub refusal_in : Configuration → World → Invalidation → Option OpRefusal
refusal_in c w i =
    if names_region c i.domain i.key then region_refusal i.key (w.region (slot_of_key i.domain i.key))
    else if names_window c i.domain i.key then window_refusal i.key i.queue (w.window (slot_of_key i.domain i.key))
    else Some (unnamed_refusal i.key)

-- what is seen in a world
abbrev pub sight_in : Configuration → World → Sight
sight_in c w = record { grant = grant_in c w; byte = w.byte; refusal = refusal_in c w }

-- what an invalidation changes in a world, if it is not refused
abbrev pub ending_changes : Configuration → World → Invalidation → List Update
ending_changes c w i =
    if names_region c i.domain i.key then (Region_of slot := after_region_invalidation (w.region slot)) ∷ []
    else if names_window c i.domain i.key then by (w.window slot) (w.window slot).binding
    else []
  where
    slot : Slot
    slot = slot_of_key i.domain i.key

    by : Window → Option Binding → List Update
    by window None = []
    by window (Some b) =
        (Window_of slot := without_binding window)
        ∷ (Region_of (region_under window b) := with_window_unbound (w.region (region_under window b))) ∷ []

-- what the key that a row ends changes in a world: nothing where an ask is denied, or the invalidation refused
abbrev pub row_changes : Configuration → World → Row → List Update
row_changes c w row = by (first_denied (sight_in c w) row.asks)
  where
    by : Option DeniedAsk → List Update
    by (Some denied) = []
    by None = option_map_or (λ i. unless_none (refusal_in c w i) (ending_changes c w i)) row.invalidation []

-- where the bytes of writes go
abbrev pub writes_in : Sight → List (Ask × List ℕ) → List Write
writes_in s [] = []
writes_in s (x ∷ xs) = record { runs = runs_in s x.0; bytes = x.1 } ∷ writes_in s xs

-- a row ends so in a world: what comes behind it is performed, with what its key changed and where its bytes go
abbrev pub perform_ending : World → Sight → (Effects → List Update → List Write → Plan) → List Update → Ending → Outcome
perform_ending w s finish changes (NotPossible reason) = NotReady reason
perform_ending w s finish changes (Does e) = perform w (finish e changes (writes_in s e.writes))
