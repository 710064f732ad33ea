-- What writes and the end of a key leave of the parts in hand is what the machine leaves of their small world. For proofs
-- only.
use Rattle.std.proofs.Common.{◌≡◌, ◌∙◌, refl, sym, ap, subst, ℕ, nat_lt, Bool, true, false, not, ◌&&◌, if◌then◌else◌, List, [], ◌∷◌, Option, None, Some, IfSome, is_some, length}
use Rattle.std.proofs.Math.Path.{fun_ext}
use Rattle.std.specs.Option.{option_map, option_map_or}
use Rattle.ca_keys.specs.declared.access.Ask.{Ask}
use Rattle.ca_keys.specs.declared.names.Slot.{Slot}
use Rattle.ca_keys.specs.declared.place.Run.{Run}
use Rattle.ca_keys.specs.Equal.{slot_eq}
use Rattle.ca_keys.specs.Memory.{ByteMap, memory_after}
use Rattle.ca_keys.specs.Numbers.{is_window_key}
use Rattle.ca_base.specs.Configuration.{Configuration}
use Rattle.ca_base.specs.Sight.{Invalidation, runs_in}
use Rattle.ca_base.specs.objects.LocalRequest.{region_refusal, unnamed_refusal, window_refusal}
use Rattle.ca_base.specs.objects.Region.{after_region_invalidation, vacant_region, with_window_unbound}
use Rattle.ca_base.specs.objects.Slices.{has_slot, is_key_of, names_region, names_window, slot_of_key}
use Rattle.ca_base.specs.objects.Window.{Binding, vacant_window, without_binding}
use Rattle.ca_model.specs.declared.part_name.PartName.{PartName}
use Rattle.ca_model.specs.declared.part_name.PartName.TheVariants as names
use Rattle.ca_model.specs.machine.Plan.{Update, Write, put_all, write_all, ◌:=◌}
use Rattle.ca_model.specs.machine.Row.{region_under}
use Rattle.ca_model.specs.machine.Seen.{ending_changes, writes_in}
use Rattle.ca_model.specs.machine.World.{Name, Domain_of, Region_of, Window_of, Cq_of, Srq_of, Queue_of, Mailbox_of, Byte_at, World}
use Rattle.ca_responder_operations.specs.ca_qp_rows.Made.{written_all}
use Rattle.ca_adapter_reach.specs.declared.shelf.Named.{Named}
use Rattle.ca_adapter_reach.specs.Shelved.{has_thing, thing_under}
use Rattle.ca_adapter_reach.specs.declared.reached.BufferId.{BufferId}
use Rattle.ca_adapter_reach.specs.declared.reached.Reached.{Reached}
use Rattle.ca_adapter_reach.specs.AtHand.{CanEnd, HasBytesAtHand, IsCounting}
use Rattle.ca_adapter_reach.specs.Changed.{after_end_of, after_write_by, put_buffers, with_runs, without_window_key}
use Rattle.ca_adapter_reach.specs.Changed as changed
use Rattle.ca_adapter_reach.specs.Laws.{few-places, runs-lengths, runs-seen, write_leaves_bytes, write_leaves_ends}
use Rattle.ca_adapter_reach.specs.Names.{buffer_eq, buffer_of}
use Rattle.ca_adapter_reach.specs.Seen.{byte_in, sight_of, slot_under}
use Rattle.ca_adapter_reach.proofs.EndLemmas.{counting_has, ended_under, unbound_refused}
use Rattle.ca_adapter_reach.proofs.GrantLemmas.{region_held, window_held}
use Rattle.ca_adapter_parts.specs.declared.held.Held.{Held}
use Rattle.ca_adapter_parts.specs.HeldView.{Holding, hold, holding, held_world, is_held_name, is_held_part, with_region, with_window}
use Rattle.ca_adapter_parts.proofs.HoldLemmas.{put_region, put_window}
use Rattle.ca_adapter_reach_laws.specs.Ties.{AreWritesAtHand, IsVacantOutside, with_reached}

-- other bytes in buffers, as many as they had
buffers-held : (h : Held) (buffers : List (Named BufferId (List ℕ))) (m : ByteMap) → byte_in buffers ≡ m
    → ((n : BufferId) → option_map length (thing_under buffer_eq n buffers) ≡ option_map length (thing_under buffer_eq n h.reached.buffers.things))
    → holding (with_reached h (put_buffers h.reached buffers)) ≡ record (holding h) { world = record (holding h).world { byte = m } }
unfolding holding
buffers-held h buffers m bytes lengths = λ i. record {
  world = record (held_world h) { byte = bytes i };
  has = fun_ext has i;
  parts = fun_ext parts i;
}
  where
    by-length : (k : ℕ) (o : Option (List ℕ)) → option_map_or (λ bytes. nat_lt k (length bytes)) o false ≡ option_map_or (nat_lt k) (option_map length o) false
    by-length k None = refl
    by-length k (Some bytes) = refl

    some-length : (o : Option (List ℕ)) → is_some o ≡ is_some (option_map length o)
    some-length None = refl
    some-length (Some bytes) = refl

    has : (n : Name) → is_held_name (with_reached h (put_buffers h.reached buffers)) n ≡ is_held_name h n
    has (Domain_of m) = refl
    has (Region_of m) = refl
    has (Window_of m) = refl
    has (Cq_of m) = refl
    has (Srq_of m) = refl
    has (Queue_of m) = refl
    has (Mailbox_of m) = refl
    has (Byte_at p) =
        by-length p.offset (thing_under buffer_eq (buffer_of p) buffers)
        ∙ ap (λ o. option_map_or (nat_lt p.offset) o false) (lengths (buffer_of p))
        ∙ sym (by-length p.offset (thing_under buffer_eq (buffer_of p) h.reached.buffers.things))

    parts : (p : PartName) → is_held_part (with_reached h (put_buffers h.reached buffers)) p ≡ is_held_part h p
    parts (names.Control m) = refl
    parts (names.Region m) = refl
    parts (names.Window m) = refl
    parts (names.Cq m) = refl
    parts (names.Srq m) = refl
    parts (names.Queue m) = refl
    parts (names.Mailbox m) = refl
    parts (names.Buffer a x) =
        some-length (thing_under buffer_eq (record { adapter = a; index = x }) buffers)
        ∙ ap is_some (lengths (record { adapter = a; index = x }))
        ∙ sym (some-length (thing_under buffer_eq (record { adapter = a; index = x }) h.reached.buffers.things))

-- what is written goes to the same places after other bytes were put in buffers
same-writes : (r : Reached) (buffers : List (Named BufferId (List ℕ))) (xs : List (Ask × List ℕ))
    → writes_in (sight_of (put_buffers r buffers)) xs ≡ writes_in (sight_of r) xs
same-writes r buffers [] = refl
same-writes r buffers (x ∷ xs) = ap (λ (ws : List Write). record { runs = runs_in (sight_of r) x.0; bytes = x.1 } ∷ ws) (same-writes r buffers xs)

-- writes stay possible after one
stay : (r : Reached) (x : Ask × List ℕ) → AreWritesAtHand r (x ∷ []) → (xs : List (Ask × List ℕ)) → AreWritesAtHand r xs → AreWritesAtHand (after_write_by r x.0 x.1) xs
stay r x can [] all = tt
stay r x can (y ∷ ys) all = ((write_leaves_bytes r x.0 x.1 can.0.0 can.0.1 y.0 all.0.0, all.0.1), stay r x can ys all.1)

one-held : (h : Held) (x : Ask × List ℕ) → HasBytesAtHand h.reached x.0 → length x.1 ≡ x.0.touch
    → holding (with_reached h (after_write_by h.reached x.0 x.1))
    ≡ record (holding h) { world = record (holding h).world { byte = memory_after (holding h).world.byte (runs_in (sight_of h.reached) x.0) x.1 } }
unfolding holding
one-held h x here count =
    let runs : List Run = runs_in (sight_of h.reached) x.0 in
    buffers-held h (with_runs runs x.1 h.reached.buffers.things) (memory_after (byte_in h.reached.buffers.things) runs x.1)
    (runs-seen runs h.reached.buffers.things x.1 here (few-places h.reached x.0 x.1 count))
    (runs-lengths runs h.reached.buffers.things x.1 here (few-places h.reached x.0 x.1 count))

-- what writes by asks leave is what the machine's writes leave
pub writes-held : (h : Held) (xs : List (Ask × List ℕ)) → AreWritesAtHand h.reached xs
    → holding (with_reached h (written_all after_write_by h.reached xs))
    ≡ record (holding h) { world = write_all (writes_in (sight_of h.reached) xs) (holding h).world }
writes-held h [] can = refl
writes-held h (x ∷ xs) can =
    let r : Reached = h.reached in
    let buffers : List (Named BufferId (List ℕ)) = with_runs (runs_in (sight_of r) x.0) x.1 r.buffers.things in
    let next : Held = with_reached h (put_buffers r buffers) in
    writes-held next xs (stay r x (can.0, tt) xs can.1)
    ∙ ap (λ (ws : List Write). record (holding next) { world = write_all ws (holding next).world }) (same-writes r buffers xs)
    ∙ ap (λ (held : Holding). record held { world = write_all (writes_in (sight_of r) xs) held.world }) (one-held h x can.0.0 can.0.1)

-- what the end of a key leaves is what the machine's changes leave
pub end-held : (c : Configuration) (h : Held) (i : Invalidation) → IsVacantOutside c (holding h).world → CanEnd h.reached i
    → (sight_of h.reached).refusal i ≡ None
    → holding (with_reached h (after_end_of h.reached i))
    ≡ record (holding h) { world = put_all (ending_changes c (holding h).world i) (holding h).world }
unfolding holding with_region with_window
end-held c h i out can accepted =
    by (is_window_key i.key) refl (is_key_of i.domain i.key) refl (has_slot c (λ a. a.regions) slot) refl (has_slot c (λ a. a.windows) slot) refl accepted
  where
    slot : Slot
    slot = slot_of_key i.domain i.key

    w : World
    w = held_world h

    changed-by : Option Binding → List Update
    changed-by None = []
    changed-by (Some b) =
        (Window_of slot := without_binding (w.window slot))
        ∷ (Region_of (region_under (w.window slot) b) := with_window_unbound (w.region (region_under (w.window slot) b))) ∷ []

    Left : Reached → List Update → Type 0
    Left r changes = holding (with_reached h r) ≡ record (holding h) { world = put_all changes (holding h).world }

    none-some : {A : Type 0} (a : A) (o : Option A) → o ≡ Some a → o ≡ None → ⊥
    none-some a o some none = cc

    window : window_refusal i.key i.queue (w.window slot) ≡ None → is_key_of i.domain i.key ≡ true → is_window_key i.key ≡ true
        → (o : Option Binding) → (w.window slot).binding ≡ o → Left (without_window_key h.reached slot (w.window slot)) (changed-by o)
    window accepted d k None e = absurd (unbound_refused i.key i.queue (w.window slot) e accepted)
    window accepted d k (Some b) e =
        let under : Slot = slot_under (w.window slot) b in
        let P : Reached → Type 0 = λ r. Left r (changed-by (Some b)) in
        let Q : Option Binding → Type 0 = λ o. IfSome o (λ b. IsCounting h.reached (slot_under (w.window slot) b)) in
        let has : has_thing slot_eq slot h.reached.windows.things ≡ true = window_held i.key i.queue slot (thing_under slot_eq slot h.reached.windows.things) accepted in
        let counts : IsCounting h.reached under = subst Q e (can.under d k) in
        subst P (ended_under h.reached slot (w.window slot) under (ap (option_map (slot_under (w.window slot))) e))
        (put_region (with_window h slot (without_binding (w.window slot))) under (with_window_unbound (w.region under)) (counting_has h.reached under counts)
        ∙ ap (λ (held : Holding). hold held (Region_of under) (with_window_unbound (w.region under))) (put_window h slot (without_binding (w.window slot)) has))

    by : (k : Bool) → is_window_key i.key ≡ k → (d : Bool) → is_key_of i.domain i.key ≡ d
        → (r : Bool) → has_slot c (λ a. a.regions) slot ≡ r → (x : Bool) → has_slot c (λ a. a.windows) slot ≡ x
        → (if not d then Some (unnamed_refusal i.key) else if k then window_refusal i.key i.queue (w.window slot) else region_refusal i.key (w.region slot)) ≡ None
        → Left (if not d then h.reached else if k then without_window_key h.reached slot (w.window slot)
        else changed.put_region h.reached slot (after_region_invalidation (w.region slot)))
        (if not k && d && r then (Region_of slot := after_region_invalidation (w.region slot)) ∷ []
        else if k && d && x then changed-by (w.window slot).binding else [])
    by k ek false ed r er x ex accepted = absurd (none-some (unnamed_refusal i.key) (Some (unnamed_refusal i.key)) refl accepted)
    by false ek true ed true er x ex accepted =
        put_region h slot (after_region_invalidation (w.region slot)) (region_held i.key (thing_under slot_eq slot h.reached.regions.things) accepted)
    by false ek true ed false er x ex accepted =
        absurd (none-some _ (region_refusal i.key vacant_region) refl (sym (ap (region_refusal i.key) (out.regions slot er)) ∙ accepted))
    by true ek true ed r er true ex accepted = window accepted ed ek (w.window slot).binding refl
    by true ek true ed r er false ex accepted =
        absurd (none-some _ (window_refusal i.key i.queue (vacant_window slot)) refl (sym (ap (window_refusal i.key i.queue) (out.windows slot ex)) ∙ accepted))

-- writes leave regions and windows as they were
ends : (r : Reached) (xs : List (Ask × List ℕ)) (i : Invalidation) → CanEnd r i → CanEnd (written_all after_write_by r xs) i
ends r [] i can = can
ends r (x ∷ xs) i can = ends (after_write_by r x.0 x.1) xs i (write_leaves_ends r x.0 x.1 i can)

refusals : (r : Reached) (xs : List (Ask × List ℕ)) (i : Invalidation) → (sight_of (written_all after_write_by r xs)).refusal i ≡ (sight_of r).refusal i
refusals r [] i = refl
refusals r (x ∷ xs) i = refusals (after_write_by r x.0 x.1) xs i

outside : (c : Configuration) (h : Held) (xs : List (Ask × List ℕ)) → IsVacantOutside c (holding h).world
    → IsVacantOutside c (holding (with_reached h (written_all after_write_by h.reached xs))).world
unfolding holding
outside c h [] out = out
outside c h (x ∷ xs) out = outside c (with_reached h (after_write_by h.reached x.0 x.1)) xs (record { regions = out.regions; windows = out.windows })

-- writes change bytes alone
write-bytes : (ws : List Write) (w : World) → write_all ws w ≡ record w { byte = (write_all ws w).byte }
write-bytes [] w = refl
write-bytes (x ∷ ws) w = write-bytes ws (record w { byte = memory_after w.byte x.runs x.bytes })

-- bytes are written the same where other things are
same-bytes : (ws : List Write) (v w : World) → v.byte ≡ w.byte → (write_all ws v).byte ≡ (write_all ws w).byte
same-bytes [] v w same = same
same-bytes (x ∷ ws) v w same = same-bytes ws (record v { byte = memory_after v.byte x.runs x.bytes }) (record w { byte = memory_after w.byte x.runs x.bytes })
    (ap (λ (m : ByteMap). memory_after m x.runs x.bytes) same)

-- the end of a key changes no byte, and bytes change nothing of it
over-bytes : (c : Configuration) (w : World) (i : Invalidation) (m : ByteMap)
    → put_all (ending_changes c (record w { byte = m }) i) (record w { byte = m }) ≡ record (put_all (ending_changes c w i) w) { byte = m }
over-bytes c w i m = by (names_region c i.domain i.key) (names_window c i.domain i.key) (w.window (slot_of_key i.domain i.key)).binding
  where
    slot : Slot
    slot = slot_of_key i.domain i.key

    changed-by : Option Binding → List Update
    changed-by None = []
    changed-by (Some b) =
        (Window_of slot := without_binding (w.window slot))
        ∷ (Region_of (region_under (w.window slot) b) := with_window_unbound (w.region (region_under (w.window slot) b))) ∷ []

    changes : Bool → Bool → Option Binding → List Update
    changes r x o = if r then (Region_of slot := after_region_invalidation (w.region slot)) ∷ [] else if x then changed-by o else []

    by : (r x : Bool) (o : Option Binding) → put_all (changes r x o) (record w { byte = m }) ≡ record (put_all (changes r x o) w) { byte = m }
    by true x o = refl
    by false true None = refl
    by false true (Some b) = refl
    by false false o = refl

kept-bytes : (c : Configuration) (w : World) (i : Invalidation) → (put_all (ending_changes c w i) w).byte ≡ w.byte
kept-bytes c w i = ap (λ (v : World). v.byte) (over-bytes c w i w.byte)

-- what writes and then the end of a key leave is what the machine's changes and then its writes leave
pub both-held : (c : Configuration) (h : Held) (xs : List (Ask × List ℕ)) (i : Invalidation) → IsVacantOutside c (holding h).world
    → AreWritesAtHand h.reached xs → CanEnd h.reached i → (sight_of h.reached).refusal i ≡ None
    → holding (with_reached h (after_end_of (written_all after_write_by h.reached xs) i))
    ≡ record (holding h) { world = write_all (writes_in (sight_of h.reached) xs) (put_all (ending_changes c (holding h).world i) (holding h).world) }
both-held c h xs i out can end accepted =
    let r : Reached = written_all after_write_by h.reached xs in
    let ws : List Write = writes_in (sight_of h.reached) xs in
    let next : Held = with_reached h r in
    let w : World = (holding h).world in
    let wrote : holding next ≡ record (holding h) { world = write_all ws w } = writes-held h xs can in
    end-held c next i (outside c h xs out) (ends h.reached xs i end) (refusals h.reached xs i ∙ accepted)
    ∙ ap (λ (held : Holding). record held { world = put_all (ending_changes c held.world i) held.world }) wrote
    ∙ ap (λ (v : World). record (holding h) { world = put_all (ending_changes c v i) v }) (write-bytes ws w)
    ∙ ap (λ (v : World). record (holding h) { world = v }) (over-bytes c w i (write_all ws w).byte)
    ∙ ap (λ (m : ByteMap). record (holding h) { world = record (put_all (ending_changes c w i) w) { byte = m } })
    (same-bytes ws w (put_all (ending_changes c w i) w) (sym (kept-bytes c w i)))
    ∙ ap (λ (v : World). record (holding h) { world = v }) (sym (write-bytes ws (put_all (ending_changes c w i) w)))
