-- Bound windows: each lies in a region that is valid, and is counted by its region and by its queue pair. Laws cite it.
use Rattle.std.specs.Prelude.{◌≡◌, ◌⊎◌, ℕ, ◌+◌, ◌≤◌, ◌<◌, Bool, true, false, List, [], ◌∷◌, length, Option, None, Some, IfSome}
use Rattle.std.specs.Option.{option_map_or}
use Rattle.ca_keys.specs.declared.grant.Grant.{Grant}
use Rattle.ca_keys.specs.declared.names.QueueId.{QueueId}
use Rattle.ca_keys.specs.declared.names.Slot.{Slot}
use Rattle.ca_keys.specs.Equal.{queue_eq, slot_eq}
use Rattle.ca_base.specs.objects.QueuePair.{QueueSlot, NoQueue, Present}
use Rattle.ca_base.specs.objects.Region.{Region, grant_of_region}
use Rattle.ca_base.specs.objects.Window.{Binding, Window}
use Rattle.ca_model.specs.machine.Row.{region_under}
use Rattle.ca_model.specs.machine.World.{World}

-- the window is bound in the region of this slot
abbrev pub is_bound_in : Slot → Window → Bool
is_bound_in s w = option_map_or (λ b. slot_eq (region_under w b) s) w.binding false

-- the window is bound through this queue pair
abbrev pub is_bound_by : QueueId → Window → Bool
is_bound_by q w = option_map_or (λ b. option_map_or (λ p. queue_eq p q) b.queue false) w.binding false

abbrev pub IsOne : List Slot → Slot → Type 0
IsOne [] s = ⊥
IsOne (x ∷ xs) s = (s ≡ x) ⊎ IsOne xs s

-- no more windows pass a test than this count: they are among so many slots
pub record AreCounted (window : Slot → Window) (test : Window → Bool) (count : ℕ) : Type 0 where
  pub slots : List Slot
  pub few : length slots ≤ count
  pub all : (s : Slot) → test (window s) ≡ true → IsOne slots s

-- how many type 2 windows a queue pair's slot counts
abbrev pub windows_of : QueueSlot → ℕ
windows_of (NoQueue incarnation timers) = 0
windows_of (Present q) = q.windows

-- a binding's range lies in what its region grants
abbrev pub LiesIn : Binding → Option Grant → Type 0
LiesIn b None = ⊥
LiesIn b (Some g) = (g.address ≤ b.address) × (b.address + b.length ≤ g.address + g.length)

-- bound windows are counted, and lie in regions that are valid
pub record AreBound (window : Slot → Window) (region : Slot → Region) (queue : QueueId → QueueSlot) : Type 0 where
  pub regions : (s : Slot) → AreCounted window (is_bound_in s) (region s).bound
  pub queues : (q : QueueId) → AreCounted window (is_bound_by q) (windows_of (queue q))
  pub inside : (s : Slot) → IfSome (window s).binding (λ b. LiesIn b (grant_of_region (region (region_under (window s) b))))

-- a world in which they are
abbrev pub IsBoundWorld : World → Type 0
IsBoundWorld w = AreBound w.window w.region w.queue

-- a bound window is counted by its region, and by its queue pair if it is of type 2; and it lies in that region
pub record IsCounted (x : Window) (b : Binding) (region : Slot → Region) (queue : QueueId → QueueSlot) : Type 0 where
  pub by_region : 0 < (region (region_under x b)).bound
  pub by_queue : IfSome b.queue (λ q. 0 < windows_of (queue q))
  pub inside : LiesIn b (grant_of_region (region (region_under x b)))
