-- The local operations of a send queue, and the invalidation that a packet asks for: where each is done, and each refusal
-- in its order. For proofs only.
use Rattle.std.proofs.Common.{◌≡◌, ℕ, ◌^◌, ◌-◌, List, [], ◌∷◌, ◌++◌, map, true, false, if◌then◌else◌, Option, None, Some, is_none, refl}
use Rattle.ca_base.specs.declared.lot.Lot.TheVariants as lots
use Rattle.ca_base.specs.declared.refusals.OpRefusal.{OpRefusal}
use Rattle.ca_base.specs.declared.refusals.OpRefusal.TheVariants.{Region, Window}
use Rattle.ca_base.specs.declared.refusals.RegionError.TheVariants as regions
use Rattle.ca_base.specs.declared.refusals.WindowError.TheVariants as windows
use Rattle.ca_base.specs.declared.request.SendOp.{SendOp}
use Rattle.ca_base.specs.declared.request.SendOp.TheVariants as ops
use Rattle.ca_keys.specs.declared.key.Key.{Key}
use Rattle.ca_keys.specs.declared.rights.Rights.{Rights}
use Rattle.ca_base.specs.objects.QueuePair.{Present, QueuePair}
use Rattle.ca_base.specs.objects.Region.{vacant_region, after_allocation, after_fast_registration, with_window_bound}
use Rattle.ca_base.specs.objects.Window.{vacant_window, after_binding, after_window_allocation}
use Rattle.ca_base.specs.objects.WorkQueue.{with_item}
use Rattle.ca_wire.specs.declared.requests.SendKind.TheVariants.{WithInvalidate}
use Rattle.ca_wire.specs.Builders.{send_packet}
use Rattle.ca_wire.specs.Decoding.{packet_in, front_at, bth_at, number_at, reth_from, atomic_from, aeth_from, number_from, payload_at, payload_behind, body_in}
use Rattle.ca_wire.specs.Packet.{be_bytes, packet_bytes, spelling}
use Rattle.ca_wire.specs.Table.{row_of}
use Rattle.ca_model.specs.declared.event.Event.TheVariants as events
use Rattle.ca_model.specs.declared.mark.Mark.{Mark}
use Rattle.ca_model.specs.declared.mark.Mark.TheVariants as marks
use Rattle.ca_model.specs.declared.verb.Verb.TheVariants as verbs
use Rattle.ca_model.specs.machine.Plan.{Update, ◌:=◌, Outcome, NotReady, Did, put_all}
use Rattle.ca_model.specs.machine.Step.{step}
use Rattle.ca_model.specs.machine.World.{Queue_of, Region_of, Window_of}
use Rattle.ca_model.proofs.Literals.{s, q, k, r}
use Rattle.ca_model.proofs.Machine.Furnished.{pair, region_with, furnished, ready, all_rights, registered, receive_of, signalled, with_received}

-- what the first completion among marks says: success, or the cause; no completion is no answer
abbrev cause_in : List Mark → Option (Option OpRefusal)
cause_in [] = None
cause_in (marks.Done queue c cause ∷ ms) = Some cause
cause_in (m ∷ ms) = cause_in ms

abbrev cause_of : Outcome → Option (Option OpRefusal)
cause_of (NotReady reason) = None
cause_of (Did w ms) = cause_in ms

-- the keys that marks revoke, in order
abbrev revoked_in : List Mark → List Key
revoked_in [] = []
revoked_in (marks.Revoked adapter key ∷ ms) = key ∷ revoked_in ms
revoked_in (m ∷ ms) = revoked_in ms

abbrev revoked_of : Outcome → List Key
revoked_of (NotReady reason) = []
revoked_of (Did w ms) = revoked_in ms

-- in the furnished world with these changes, the operation, posted with this byte, is performed
abbrev outcome : List Update → Option ℕ → SendOp → Outcome
outcome changes drawn op =
    step pair (put_all (changes ++ (Queue_of (q 0 256) := Present posted) ∷ []) furnished) (events.Request (q 0 256) lots.Pass)
  where
    posted : QueuePair
    posted = record ready { sends = with_item (record { request = signalled op; drawn = drawn }) ready.sends }

abbrev performed : List Update → Option ℕ → SendOp → Option (Option OpRefusal)
performed changes drawn op = cause_of (outcome changes drawn op)

-- an operation over changes of the furnished world, and why it is refused
record Case : Type 0 where
  changes : List Update
  op : SendOp
  cause : Option OpRefusal

abbrev case : List Update → SendOp → Option OpRefusal → Case
case changes op cause = record { changes = changes; op = op; cause = cause }

abbrev PerformedWith : Option ℕ → List Case → Type 0
PerformedWith drawn cases = map (λ c. performed c.changes drawn c.op) cases ≡ map (λ c. Some c.cause) cases

abbrev done : Option OpRefusal
done = None

abbrev without_bind : Rights
without_bind = r true true true true false

abbrev without_local_write : Rights
without_local_write = r false true false false true

abbrev remote_read : Rights
remote_read = r false true false false false

abbrev bind1 : ℕ → ℕ → ℕ → ℕ → Rights → SendOp
bind1 window key address count rights = ops.Bind1 window (k key) address count rights

abbrev bind2 : ℕ → ℕ → ℕ → ℕ → Rights → SendOp
bind2 window key address count rights = ops.Bind2 window (k key) 5 address count rights

-- a type 1 window, with the byte 1 that was drawn
bind_type_1 : PerformedWith (Some 1) (
    case [] (bind1 0 1 0x100000000 4096 all_rights) done
    ∷ case [] (bind1 0 1 0x100000ff8 8 all_rights) done
    -- a bind of no bytes asks nothing of a region
    ∷ case [] (bind1 0 9 0 0 all_rights) done
    ∷ case (region_with without_local_write) (bind1 0 1 0x100000000 8 remote_read) done
    ∷ case ((Window_of (s 0 0 0) := vacant_window (s 0 0 0)) ∷ []) (bind1 0 9 0x100000000 8 all_rights) (Some (Window windows.NoWindow))
    ∷ case [] (bind1 1 9 0x100000000 8 all_rights) (Some (Window windows.WrongType))
    -- another low byte, a free region, a vacant slot, one outside the slices, a window, another domain
    ∷ case [] (bind1 0 2 0 8 all_rights) (Some (Window windows.RegionNotValid))
    ∷ case [] (bind1 0 512 0 8 all_rights) (Some (Window windows.RegionNotValid))
    ∷ case [] (bind1 0 768 0 8 all_rights) (Some (Window windows.RegionNotValid))
    ∷ case [] (bind1 0 1025 0 8 all_rights) (Some (Window windows.RegionNotValid))
    ∷ case [] (bind1 0 0x800000 0 8 all_rights) (Some (Window windows.RegionNotValid))
    ∷ case [] (bind1 0 0x1000001 0 8 all_rights) (Some (Window windows.RegionNotValid))
    ∷ case (region_with without_bind) (bind1 0 1 0 8 all_rights) (Some (Window windows.NoBindRight))
    ∷ case (region_with without_local_write) (bind1 0 1 0 8 (r false false true false false)) (Some (Window windows.RightsNeedLocalWrite))
    ∷ case (region_with without_local_write) (bind1 0 1 0 8 (r false false false true false)) (Some (Window windows.RightsNeedLocalWrite))
    ∷ case [] (bind1 0 1 0xffffffff 8 all_rights) (Some (Window windows.OutsideRegion))
    ∷ case [] (bind1 0 1 0x100000ff9 8 all_rights) (Some (Window windows.OutsideRegion))
    ∷ [])
bind_type_1 = refl

-- without a drawn byte it is of the wrong type, whatever the window is by then
bind_type_1_without_a_byte : PerformedWith None (
    case [] (bind1 0 1 0x100000000 8 all_rights) (Some (Window windows.WrongType))
    ∷ case [] (bind1 2 1 0x100000000 8 all_rights) (Some (Window windows.WrongType))
    ∷ [])
bind_type_1_without_a_byte = refl

-- the window 1 of type 2, bound through a queue pair, under the low byte 5; the region 0 has it
abbrev bound_window : ℕ → List Update
bound_window number =
    (Window_of (s 0 0 1) := after_binding 5 (Some (q 0 number)) 0 0x100000000 8 all_rights (after_window_allocation 2 (vacant_window (s 0 0 1))))
    ∷ (Region_of (s 0 0 0) := with_window_bound (registered 0))
    ∷ []

bind_type_2 : PerformedWith None (
    case [] (bind2 1 1 0x100000000 4096 all_rights) done
    ∷ case [] (bind2 2 9 0 0 all_rights) (Some (Window windows.NoWindow))
    ∷ case [] (bind2 0 9 0 0 all_rights) (Some (Window windows.WrongType))
    ∷ case (bound_window 256) (bind2 1 9 0 0 all_rights) (Some (Window windows.StillBound))
    ∷ case [] (bind2 1 9 0 0 all_rights) (Some (Window windows.Empty))
    ∷ case [] (bind2 1 2 0 8 all_rights) (Some (Window windows.RegionNotValid))
    ∷ case (region_with without_bind) (bind2 1 1 0 8 all_rights) (Some (Window windows.NoBindRight))
    ∷ case (region_with without_local_write) (bind2 1 1 0 8 all_rights) (Some (Window windows.RightsNeedLocalWrite))
    ∷ case [] (bind2 1 1 0xffffffff 8 all_rights) (Some (Window windows.OutsideRegion))
    ∷ case [] (bind2 1 1 0x100000ff9 8 all_rights) (Some (Window windows.OutsideRegion))
    ∷ [])
bind_type_2 = refl

-- a fast registration under the low byte 5
abbrev fast : ℕ → ℕ → ℕ → ℕ → Rights → List ℕ → SendOp
fast region buffer address count rights pages = ops.FastReg region 5 buffer address count rights pages

abbrev remote_write_alone : Rights
remote_write_alone = r false false true false false

-- the region 2 is free for two pages
fast_registration : PerformedWith None (
    case [] (fast 2 0 0 4096 all_rights (0 ∷ [])) done
    ∷ case [] (fast 2 0 4088 8 all_rights (0 ∷ [])) done
    ∷ case [] (fast 2 0 (2 ^ 64 - 8) 8 all_rights (0 ∷ [])) done
    ∷ case [] (fast 0 0 0 0 remote_write_alone []) (Some (Region regions.NotFree))
    ∷ case [] (fast 3 0 0 0 remote_write_alone []) (Some (Region regions.NotFree))
    ∷ case [] (fast 2 0 0 0 remote_write_alone []) (Some (Region regions.RightsNeedLocalWrite))
    -- no bytes, past the end of all addresses, more pages than allocated, a page twice, too few pages, too many
    ∷ case [] (fast 2 0 0 0 all_rights []) (Some (Region regions.BadPages))
    ∷ case [] (fast 2 0 (2 ^ 64 - 8) 9 all_rights (0 ∷ [])) (Some (Region regions.BadPages))
    ∷ case [] (fast 2 0 0 12288 all_rights (0 ∷ 1 ∷ 2 ∷ [])) (Some (Region regions.BadPages))
    ∷ case [] (fast 2 0 0 8192 all_rights (0 ∷ 0 ∷ [])) (Some (Region regions.BadPages))
    ∷ case [] (fast 2 0 0 4097 all_rights (0 ∷ [])) (Some (Region regions.BadPages))
    ∷ case [] (fast 2 0 0 4096 all_rights (0 ∷ 1 ∷ [])) (Some (Region regions.BadPages))
    -- the buffer has one page, and the adapter has one buffer
    ∷ case [] (fast 2 0 0 1 all_rights (1 ∷ [])) (Some (Region regions.OutsideBuffer))
    ∷ case [] (fast 2 0 4089 8 all_rights (0 ∷ 1 ∷ [])) (Some (Region regions.OutsideBuffer))
    ∷ case [] (fast 2 1 0 8 all_rights (0 ∷ [])) (Some (Region regions.OutsideBuffer))
    ∷ [])
fast_registration = refl

-- a key, and why it is not invalidated
record Invalidated : Type 0 where
  changes : List Update
  key : ℕ
  cause : Option OpRefusal

abbrev invalidated : List Update → ℕ → Option OpRefusal → Invalidated
invalidated changes key cause = record { changes = changes; key = key; cause = cause }

-- the region 2 is fast-registered, with so many windows bound
abbrev fast_region : ℕ → List Update
fast_region bound =
    (Region_of (s 0 0 2) := record (after_fast_registration (s 0 0 2) 5 0 0 8 all_rights (0 ∷ []) (after_allocation 2 vacant_region)) { bound = bound })
    ∷ []

abbrev invalidations : List Invalidated
invalidations =
    invalidated (fast_region 0) 517 done
    ∷ invalidated (bound_window 256) 0x800105 done
    -- a region that is free, vacant, outside the slices, of another domain
    ∷ invalidated [] 512 (Some (Region regions.NotValid))
    ∷ invalidated [] 768 (Some (Region regions.NotValid))
    ∷ invalidated [] 1025 (Some (Region regions.NotValid))
    ∷ invalidated [] 0x1000001 (Some (Region regions.NotValid))
    ∷ invalidated [] 2 (Some (Region regions.KeyDiffers))
    ∷ invalidated (fast_region 1) 518 (Some (Region regions.KeyDiffers))
    ∷ invalidated [] 1 (Some (Region regions.NotFastRegistered))
    ∷ invalidated [] 257 (Some (Region regions.NotFastRegistered))
    ∷ invalidated (fast_region 1) 517 (Some (Region regions.WindowsBound))
    -- a window that is vacant, outside the slices, of another domain
    ∷ invalidated [] 0x800200 (Some (Window windows.NoWindow))
    ∷ invalidated [] 0x800401 (Some (Window windows.NoWindow))
    ∷ invalidated [] 0x1800001 (Some (Window windows.NoWindow))
    ∷ invalidated [] 0x800001 (Some (Window windows.Type1))
    ∷ invalidated [] 0x800100 (Some (Window windows.NotBound))
    ∷ invalidated (bound_window 258) 0x800106 (Some (Window windows.KeyDiffers))
    ∷ invalidated (bound_window 258) 0x800105 (Some (Window windows.WrongQueue))
    ∷ []

-- by a Local Invalidate
local_invalidate : map (λ i. performed i.changes None (ops.LocalInv (k i.key))) invalidations ≡ map (λ i. Some i.cause) invalidations
local_invalidate = refl

-- the key is revoked where that is done, and none where it is refused
local_invalidate_revokes : map (λ i. revoked_of (outcome i.changes None (ops.LocalInv (k i.key)))) invalidations
    ≡ map (λ i. if is_none i.cause then k i.key ∷ [] else []) invalidations
local_invalidate_revokes = refl

-- by a SEND with Invalidate that arrives, of which the receive completes
abbrev received : List Update → ℕ → Option (Option OpRefusal)
received changes key =
    cause_of (step pair (put_all (changes ++ (Queue_of (q 0 256) := Present (with_received (receive_of 8) ready)) ∷ []) furnished)
    (events.Verb 0 (verbs.Inject (q 0 256) (spelling (send_packet (WithInvalidate (k key)) (record { index = 0; count = 1 }) false 256 0 [])))))

send_with_invalidate : map (λ i. received i.changes i.key) invalidations ≡ map (λ i. Some i.cause) invalidations
unfolding row_of be_bytes packet_bytes number_at bth_at front_at reth_from atomic_from aeth_from number_from payload_at payload_behind body_in packet_in
send_with_invalidate = refl
