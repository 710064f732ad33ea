-- Changes of queue pairs, of what stands around them and of mailboxes stand apart from the changes and writes by keys. For
-- proofs only.
use Rattle.std.proofs.Common.{◌≡◌, ◌∙◌, refl, ap, Bool, true, false, if◌then◌else◌, List, [], ◌∷◌, Option, None, Some}
use Rattle.std.specs.Option.{option_map_or}
use Rattle.ca_base.specs.Configuration.{Configuration}
use Rattle.ca_base.specs.declared.denied_ask.DeniedAsk.{DeniedAsk}
use Rattle.ca_base.specs.declared.refusals.OpRefusal.{OpRefusal}
use Rattle.ca_base.specs.Sight.{Invalidation, first_denied}
use Rattle.ca_base.specs.objects.Region.{Region, after_region_invalidation, with_window_unbound}
use Rattle.ca_base.specs.objects.Slices.{names_region, names_window, slot_of_key}
use Rattle.ca_base.specs.objects.Window.{Binding, Window, without_binding}
use Rattle.ca_keys.specs.declared.names.Slot.{Slot}
use Rattle.ca_keys.specs.Memory.{ByteMap, memory_after}
use Rattle.ca_model.specs.machine.Plan.{Update, Write, put_all, write_all, ◌:=◌}
use Rattle.ca_model.specs.machine.Row.{Row, region_under, unless_none}
use Rattle.ca_model.specs.machine.Seen.{ending_changes, refusal_in, row_changes, sight_in}
use Rattle.ca_model.specs.machine.World.{Name, Domain_of, Region_of, Window_of, Cq_of, Srq_of, Queue_of, Mailbox_of, Byte_at, Thing, World, put}

-- a region or a window
abbrev pub IsByKey : Name → Type 0
IsByKey (Region_of s) = Unit {0}
IsByKey (Window_of s) = Unit {0}
IsByKey (Domain_of d) = ⊥
IsByKey (Cq_of s) = ⊥
IsByKey (Srq_of s) = ⊥
IsByKey (Queue_of q) = ⊥
IsByKey (Mailbox_of q) = ⊥
IsByKey (Byte_at p) = ⊥

abbrev pub AreByKey : List Update → Type 0
AreByKey [] = Unit {0}
AreByKey (u ∷ us) = IsByKey u.name × AreByKey us

-- a queue pair, a queue or a mailbox
abbrev pub IsAside : Name → Type 0
IsAside (Cq_of s) = Unit {0}
IsAside (Srq_of s) = Unit {0}
IsAside (Queue_of q) = Unit {0}
IsAside (Mailbox_of q) = Unit {0}
IsAside (Domain_of d) = ⊥
IsAside (Region_of s) = ⊥
IsAside (Window_of s) = ⊥
IsAside (Byte_at p) = ⊥

abbrev pub AreAside : List Update → Type 0
AreAside [] = Unit {0}
AreAside (u ∷ us) = IsAside u.name × AreAside us

-- what a row changes is by keys
pub row-by-key : (c : Configuration) (w : World) (row : Row) → AreByKey (row_changes c w row)
row-by-key c w row = at (first_denied (sight_in c w) row.asks)
  where
    slot : Invalidation → Slot
    slot i = slot_of_key i.domain i.key

    bound : (i : Invalidation) → Option Binding → List Update
    bound i None = []
    bound i (Some b) = (Window_of (slot i) := without_binding (w.window (slot i)))
        ∷ (Region_of (region_under (w.window (slot i)) b) := with_window_unbound (w.region (region_under (w.window (slot i)) b))) ∷ []

    window : (i : Invalidation) (o : Option Binding) → AreByKey (bound i o)
    window i None = record {}
    window i (Some b) = (record {}, (record {}, record {}))

    changes : (i : Invalidation) (b z : Bool) → AreByKey (if b then (Region_of (slot i) := after_region_invalidation (w.region (slot i))) ∷ [] else if z then bound i (w.window (slot i)).binding else [])
    changes i true z = (record {}, record {})
    changes i false true = window i (w.window (slot i)).binding
    changes i false false = record {}

    unless : (i : Invalidation) (o : Option OpRefusal) → AreByKey (unless_none o (ending_changes c w i))
    unless i None = changes i (names_region c i.domain i.key) (names_window c i.domain i.key)
    unless i (Some refusal) = record {}

    ended : (o : Option Invalidation) → AreByKey (option_map_or (λ i. unless_none (refusal_in c w i) (ending_changes c w i)) o [])
    ended None = record {}
    ended (Some i) = unless i (refusal_in c w i)

    changed : Option DeniedAsk → List Update
    changed (Some d) = []
    changed None = option_map_or (λ i. unless_none (refusal_in c w i) (ending_changes c w i)) row.invalidation []

    at : (d : Option DeniedAsk) → AreByKey (changed d)
    at (Some d) = record {}
    at None = ended row.invalidation

-- two changes of different kinds, in either order
beside-region : (m : Name) (x : Thing m) (s : Slot) (y : Region) (w : World) → IsAside m → put (put w m x) (Region_of s) y ≡ put (put w (Region_of s) y) m x
beside-region (Cq_of a) x s y w aside = refl
beside-region (Srq_of a) x s y w aside = refl
beside-region (Queue_of a) x s y w aside = refl
beside-region (Mailbox_of a) x s y w aside = refl
beside-region m x s y w aside = absurd aside

beside-window : (m : Name) (x : Thing m) (s : Slot) (y : Window) (w : World) → IsAside m → put (put w m x) (Window_of s) y ≡ put (put w (Window_of s) y) m x
beside-window (Cq_of a) x s y w aside = refl
beside-window (Srq_of a) x s y w aside = refl
beside-window (Queue_of a) x s y w aside = refl
beside-window (Mailbox_of a) x s y w aside = refl
beside-window m x s y w aside = absurd aside

beside : (m n : Name) (x : Thing m) (y : Thing n) (w : World) → IsAside m → IsByKey n → put (put w m x) n y ≡ put (put w n y) m x
beside m (Region_of s) x y w aside by-key = beside-region m x s y w aside
beside m (Window_of s) x y w aside by-key = beside-window m x s y w aside
beside m n x y w aside by-key = absurd by-key

-- a change and a write
beside-bytes : (m : Name) (x : Thing m) (f : ByteMap → ByteMap) (w : World) → IsAside m
    → record (put w m x) { byte = f (put w m x).byte } ≡ put (record w { byte = f w.byte }) m x
beside-bytes (Cq_of a) x f w aside = refl
beside-bytes (Srq_of a) x f w aside = refl
beside-bytes (Queue_of a) x f w aside = refl
beside-bytes (Mailbox_of a) x f w aside = refl
beside-bytes m x f w aside = absurd aside

one-put : (m : Name) (x : Thing m) (rs : List Update) (w : World) → IsAside m → AreByKey rs → put_all rs (put w m x) ≡ put (put_all rs w) m x
one-put m x [] w aside keys = refl
one-put m x (r ∷ rs) w aside keys = ap (put_all rs) (beside m r.name x r.thing w aside keys.0) ∙ one-put m x rs (put w r.name r.thing) aside keys.1

one-write : (m : Name) (x : Thing m) (ws : List Write) (w : World) → IsAside m → write_all ws (put w m x) ≡ put (write_all ws w) m x
one-write m x [] w aside = refl
one-write m x (y ∷ ys) w aside = ap (write_all ys) (beside-bytes m x (λ b. memory_after b y.runs y.bytes) w aside)
    ∙ one-write m x ys (record w { byte = memory_after w.byte y.runs y.bytes }) aside

-- all changes first, or what is changed and written by keys
pub aside-first : (us rs : List Update) (ws : List Write) (w : World) → AreAside us → AreByKey rs
    → write_all ws (put_all rs (put_all us w)) ≡ put_all us (write_all ws (put_all rs w))
aside-first [] rs ws w aside keys = refl
aside-first (u ∷ us) rs ws w aside keys = aside-first us rs ws (put w u.name u.thing) aside.1 keys
    ∙ ap (put_all us) (ap (write_all ws) (one-put u.name u.thing rs w aside.0 keys) ∙ one-write u.name u.thing ws (put_all rs w) aside.0)

-- what stands aside is as it was
pub keys-leave : {A : Type 0} (part : World → A) → ((w : World) (s : Slot) (y : Region) → part (put w (Region_of s) y) ≡ part w)
    → ((w : World) (s : Slot) (y : Window) → part (put w (Window_of s) y) ≡ part w) → ((w : World) (b : ByteMap) → part (record w { byte = b }) ≡ part w)
    → (rs : List Update) (ws : List Write) (w : World) → AreByKey rs → part (write_all ws (put_all rs w)) ≡ part w
keys-leave part region window byte rs ws w keys = written ws (put_all rs w) ∙ changed rs w keys
  where
    one : (n : Name) (y : Thing n) (w : World) → IsByKey n → part (put w n y) ≡ part w
    one (Region_of s) y w by-key = region w s y
    one (Window_of s) y w by-key = window w s y
    one n y w by-key = absurd by-key

    changed : (rs : List Update) (w : World) → AreByKey rs → part (put_all rs w) ≡ part w
    changed [] w keys = refl
    changed (r ∷ rs) w keys = changed rs (put w r.name r.thing) keys.1 ∙ one r.name r.thing w keys.0

    written : (ws : List Write) (w : World) → part (write_all ws w) ≡ part w
    written [] w = refl
    written (y ∷ ys) w = written ys (record w { byte = memory_after w.byte y.runs y.bytes }) ∙ byte w (memory_after w.byte y.runs y.bytes)
