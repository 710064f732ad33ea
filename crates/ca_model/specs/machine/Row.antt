-- Rows: what an engine does with a queue pair, apart from the keys and the memory that it meets. Contracts cite it.
use Rattle.std.specs.Prelude.{ℕ, Bool, false, if◌then◌else◌, List, [], ◌∷◌, map, Option, None, Some, is_none}
use Rattle.std.specs.Option.{option_and_then}
use Rattle.ca_keys.specs.declared.access.Ask.{Ask}
use Rattle.ca_keys.specs.declared.grant.Grant.{Grant}
use Rattle.ca_keys.specs.declared.names.Slot.{Slot}
use Rattle.ca_base.specs.declared.refusals.OpRefusal.{OpRefusal}
use Rattle.ca_base.specs.declared.step.Reason.{Reason}
use Rattle.ca_base.specs.declared.step.Sent.{Sent}
use Rattle.ca_base.specs.declared.step.Sent.TheVariants.{Silent}
use Rattle.ca_keys.specs.Allowed.{grant_for}
use Rattle.ca_base.specs.Configuration.{Configuration}
use Rattle.ca_base.specs.declared.denied_ask.DeniedAsk.{DeniedAsk}
use Rattle.ca_base.specs.Sight.{Sight, Invalidation, or_denied, denial_by_grant, runs_by_grant, bytes_in, first_denied}
use Rattle.ca_base.specs.objects.LocalRequest.{region_refusal, window_refusal, unnamed_refusal}
use Rattle.ca_base.specs.objects.QueuePair.{QueuePair}
use Rattle.ca_base.specs.objects.Region.{Region, grant_of_region, after_region_invalidation, with_window_unbound}
use Rattle.ca_base.specs.objects.Slices.{names_region, names_window, slot_of_key}
use Rattle.ca_base.specs.objects.Window.{Window, Binding, grant_of_binding, without_binding}
use Rattle.ca_model.specs.declared.mark.Mark.{Mark}
use Rattle.ca_model.specs.machine.Plan.{Plan, Stuck, Look, Read, If, Update, ◌:=◌, Write}
use Rattle.ca_model.specs.machine.World.{Region_of, Window_of}

-- what an engine makes: the new queue pair, whether it takes the next receive of its shared receive queue, the marks,
-- the packet that it spells, and what it writes by which ask
pub record Effects : Type 0 where
  pub queue : QueuePair
  pub takes_shared : Bool
  pub marks : List Mark
  pub sent : Sent
  pub spelt : List ℕ
  pub writes : List (Ask × List ℕ)

-- a queue pair and marks, and nothing else
abbrev pub queue_and_marks : QueuePair → List Mark → Effects
queue_and_marks queue marks = record {
  queue = queue;
  takes_shared = false;
  marks = marks;
  sent = Silent;
  spelt = [];
  writes = [];
}

-- how a row ends
pub data Ending : Type 0 where
  NotPossible : Reason → Ending
  Does : Effects → Ending

-- A row: the asks that it makes, the key that it ends, if any; what it does where one of the asks is denied; and what it
-- does where all are allowed, with the bytes that each touches, and with the refusal of the invalidation, if it is
-- refused.
pub record Row : Type 0 where
  pub asks : List Ask
  pub invalidation : Option Invalidation
  pub denied : DeniedAsk → Ending
  pub allowed : List (List ℕ) → Option OpRefusal → Ending

-- a row that meets no key and no memory
abbrev pub plain_row : Ending → Row
plain_row ending = record {
  asks = [];
  invalidation = None;
  denied = λ denied. ending;
  allowed = λ bytes refusal. ending;
}

-- how a row ends, by what is seen of keys and memory
abbrev pub ending_of : Sight → Row → Ending
ending_of s row = by (first_denied s row.asks)
  where
    by : Option DeniedAsk → Ending
    by (Some denied) = row.denied denied
    by None = row.allowed (map (bytes_in s) row.asks) (option_and_then s.refusal row.invalidation)

-- the grant that an ask goes by, if this is the one of its key's slot
abbrev pub grant_if_fitting : Ask → Option Grant → Option Grant
grant_if_fitting ask None = None
grant_if_fitting ask (Some g) = grant_for ask (g ∷ [])

-- the grant of a window that is bound, over its region
abbrev pub grant_over : Window → Binding → Region → Option Grant
grant_over w b r = by (grant_of_region r)
  where
    by : Option Grant → Option Grant
    by None = None
    by (Some g) = Some (grant_of_binding w b g)

-- the slot of the region of a binding
abbrev pub region_under : Window → Binding → Slot
region_under w b = record { domain = w.slot.domain; slot = b.region }

-- Looks for the grant that an ask goes by: in the region that its key names, or in the window and the region of its
-- binding. A key of another domain or outside the slices names nothing, and no window is named by an L_Key.
abbrev pub With_grant : Configuration → Ask → (Option Grant → Plan) → Plan
With_grant c ask k =
    If (names_region c ask.domain ask.key) (Look (Region_of slot) (λ region. k (grant_if_fitting ask (grant_of_region region))))
    (If (if ask.local then false else names_window c ask.domain ask.key) (Look (Window_of slot) (λ window. by window window.binding))
    (k None))
  where
    slot : Slot
    slot = slot_of_key ask.domain ask.key

    by : Window → Option Binding → Plan
    by window None = k None
    by window (Some b) = Look (Region_of (region_under window b)) (λ region. k (grant_if_fitting ask (grant_over window b region)))

-- the same for all asks, in order
abbrev pub With_grants : Configuration → List Ask → (List (Option Grant) → Plan) → Plan
With_grants c [] k = k []
With_grants c (ask ∷ asks) k = With_grant c ask (λ grant. With_grants c asks (λ grants. k (grant ∷ grants)))

-- the first ask that is denied by its grant
abbrev pub first_denied_by : List Ask → List (Option Grant) → Option DeniedAsk
first_denied_by (ask ∷ asks) (grant ∷ grants) =
    or_denied ask (denial_by_grant ask grant) (first_denied_by asks grants)
first_denied_by asks grants = None

-- reads the bytes that each ask touches
abbrev pub With_bytes : List Ask → List (Option Grant) → (List (List ℕ) → Plan) → Plan
With_bytes (ask ∷ asks) (grant ∷ grants) k =
    Read (runs_by_grant ask grant) (λ bytes. With_bytes asks grants (λ rest. k (bytes ∷ rest)))
With_bytes asks grants k = k []

-- looks for why an invalidation is refused, and what it changes
abbrev pub With_invalidation : Configuration → Option Invalidation → (Option OpRefusal → List Update → Plan) → Plan
With_invalidation c None k = k None []
With_invalidation c (Some i) k =
    If (names_region c i.domain i.key) (Look (Region_of slot) (λ region.
    k (region_refusal i.key region) ((Region_of slot := after_region_invalidation region) ∷ [])))
    (If (names_window c i.domain i.key) (Look (Window_of slot) (λ window. by window window.binding))
    (k (Some (unnamed_refusal i.key)) []))
  where
    slot : Slot
    slot = slot_of_key i.domain i.key

    by : Window → Option Binding → Plan
    by window None = k (window_refusal i.key i.queue window) []
    by window (Some b) = Look (Region_of (region_under window b)) (λ region.
        k (window_refusal i.key i.queue window)
        ((Window_of slot := without_binding window) ∷ (Region_of (region_under window b) := with_window_unbound region) ∷ []))

-- looks for where the bytes of writes go
abbrev pub With_writes : Configuration → List (Ask × List ℕ) → (List Write → Plan) → Plan
With_writes c [] k = k []
With_writes c (x ∷ xs) k =
    With_grant c x.0 (λ grant. With_writes c xs (λ rest. k (record { runs = runs_by_grant x.0 grant; bytes = x.1 } ∷ rest)))

-- how a plan goes on with the ending of a row, with what its invalidation changed and where its bytes go
abbrev pub End_plan : Configuration → (Effects → List Update → List Write → Plan) → List Update → Ending → Plan
End_plan c finish changes (NotPossible reason) = Stuck reason
End_plan c finish changes (Does e) = With_writes c e.writes (λ writes. finish e changes writes)

-- what an invalidation changed, where it was not refused
abbrev pub unless_none : Option OpRefusal → List Update → List Update
unless_none refusal changes = if is_none refusal then changes else []

-- the plan of a row
abbrev pub Row_plan : Configuration → Row → (Effects → List Update → List Write → Plan) → Plan
Row_plan c row finish = With_grants c row.asks (λ grants. by grants (first_denied_by row.asks grants))
  where
    by : List (Option Grant) → Option DeniedAsk → Plan
    by grants (Some denied) = End_plan c finish [] (row.denied denied)
    by grants None = With_bytes row.asks grants (λ bytes. With_invalidation c row.invalidation (λ refusal changes.
        End_plan c finish (unless_none refusal changes) (row.allowed bytes refusal)))
