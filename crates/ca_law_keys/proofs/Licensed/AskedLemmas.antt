-- What a local operation grants is what it asked for. For proofs only.
use Rattle.std.proofs.Common.{◌≡◌, ℕ, ◌<◌, ◌==◌, ◌&&◌, Bool, true, false, not, if◌then◌else◌, [], Option, None, Some, IfSome, is_none, refl, sym, ap, subst, ◌∙◌, true≢false, arith}
use Rattle.std.specs.Option.{option_and_then, option_map, option_map_or}
use Rattle.ca_law_keys.specs.InForce.{AgreeOnGrants}
use Rattle.ca_law_endings.proofs.Operations.{done_by, named_in, named_if}
use Rattle.ca_base.specs.Configuration.{Configuration}
use Rattle.ca_base.specs.Grants.{grant_of_bind, grant_of_fast_registration}
use Rattle.ca_base.specs.declared.request.SendOp.{SendOp}
use Rattle.ca_base.specs.declared.request.SendOp.TheVariants as ops
use Rattle.ca_base.specs.objects.LocalRequest.{bind1_request_refusals, bind2_request_refusals, of_window}
use Rattle.ca_base.specs.objects.QueuePair.{QueuePair}
use Rattle.ca_base.specs.objects.Region.{grant_of_region}
use Rattle.ca_base.specs.objects.Slices.{names_region, slot_of_key, slot_of_queue}
use Rattle.ca_base.specs.objects.Window.{Window, binding_refusals}
use Rattle.ca_keys.specs.Equal.{grant_eq}
use Rattle.ca_keys.specs.Refusals.{AllFail}
use Rattle.ca_keys.specs.declared.grant.Grant.{Grant}
use Rattle.ca_keys.specs.declared.key.Key.{Key}
use Rattle.ca_keys.specs.declared.names.DomainId.{DomainId}
use Rattle.ca_keys.specs.declared.names.QueueId.{QueueId}
use Rattle.ca_keys.specs.declared.names.Slot.{Slot}
use Rattle.ca_keys.specs.declared.rights.Rights.{Rights}
use Rattle.ca_law_world.proofs.Sound.TurnLemmas.{all-fail}
use Rattle.ca_law_world.proofs.Sound.WorldLemmas.{IsThere}
use Rattle.ca_law_keys.proofs.Posts.GrantLemmas.{both-true}
use Rattle.ca_law_keys.proofs.Posts.GrantLemmas.{IsSeen, grant-refl, names-one, region-found, region-seen}
use Rattle.ca_model.specs.Licensed.{is_grant_of_bind, is_grant_of_operation, may_hold}
use Rattle.ca_model.specs.Past.{Past}
use Rattle.ca_model.specs.machine.LocalOperations.{bind_grant, region_slot, view_named, window_slot}
use Rattle.ca_model.specs.machine.Numbering.{Numbered}
use Rattle.ca_model.specs.machine.Sound.{IsSoundWorld}
use Rattle.ca_model.specs.machine.World.{World}

-- the slots that keys name are of half the key slots
key-small : (d : DomainId) (key : Key) → (slot_of_key d key).slot < 0x8000
key-small d key = omega arith

-- what a bind that is not refused grants
bind-asked : (c : Configuration) (p : Past) (w : World) (q : QueuePair) (windows : Slot → Window) (window low : ℕ) (queue : Option QueueId) (key : Key) (address count : ℕ) (rights : Rights) → IsSoundWorld c w → IsThere w q
    → AgreeOnGrants p.grants w.region windows → (count == 0) ≡ false → AllFail (of_window (binding_refusals (view_named key (named_in c w q key)) address count rights))
    → IfSome (bind_grant (window_slot q window) low queue (named_in c w q key) address count rights) (λ g. is_grant_of_bind p g (record { domain = (slot_of_queue q.queue).domain; slot = window }) low queue key address count rights ≡ true)
bind-asked c p w q windows window low queue key address count rights sound there agree some fails =
    subst (λ o. IfSome (option_map (λ g. grant_of_bind (window_slot q window) low queue g address count rights) o) (λ g. is_grant_of_bind p g (record { domain = (slot_of_queue q.queue).domain; slot = window }) low queue key address count rights ≡ true))
    (sym (ap (λ z. option_and_then (λ n. grant_of_region n.region) (named_if w q key z)) (names-one w q key address count rights (names_region c q.domain key) fails) ∙ seen.is))
    (subst (λ d. is_grant_of_bind p made (record { domain = d; slot = window }) low queue key address count rights ≡ true) there.domain
    (both-true _ _ (ap not some) (ap (λ o. option_map_or (λ r. may_hold r address count rights && grant_eq made (grant_of_bind (window_slot q window) low queue r address count rights)) o false)
    (region-found c w p.grants windows (slot_of_key q.domain key) q.domain key address count rights sound agree (key-small q.domain key) seen) ∙ both-true _ _ seen.holds (grant-refl made))))
  where
    seen : IsSeen w (slot_of_key q.domain key) q.domain key address count rights
    seen = region-seen c w q key address count rights (names_region c q.domain key) sound refl fails

    made : Grant
    made = grant_of_bind (window_slot q window) low queue seen.grant address count rights

-- what an operation that is not refused grants
pub operation-asked : (c : Configuration) (p : Past) (w : World) (q : QueuePair) (windows : Slot → Window) (n : Numbered) (op : SendOp) → IsSoundWorld c w → IsThere w q → AgreeOnGrants p.grants w.region windows
    → (done_by c w q n op).refusal ≡ None
    → IfSome (done_by c w q n op).marks.granted (λ g. is_grant_of_operation p g q.queue (record { place = n.place; request = record n.request { op = op }; drawn = n.drawn }) ≡ true)
operation-asked c p w q windows n (ops.Bind1 window key address count rights) sound there agree none = by n.drawn (count == 0) refl fails.0 fails.1.1.1
  where
    x : Window
    x = w.window (window_slot q window)

    fails : AllFail (bind1_request_refusals n.drawn (view_named key (named_in c w q key)) address count rights x)
    fails = all-fail (bind1_request_refusals n.drawn (view_named key (named_in c w q key)) address count rights x) none

    by : (o : Option ℕ) (b : Bool) → (count == 0) ≡ b → is_none o ≡ false → AllFail (of_window (if b then [] else binding_refusals (view_named key (named_in c w q key)) address count rights))
        → IfSome (if b then None else bind_grant (window_slot q window) (option_map_or (λ b. b) o 0) None (named_in c w q key) address count rights)
        (λ g. option_map_or (λ low. is_grant_of_bind p g (record { domain = (slot_of_queue q.queue).domain; slot = window }) low None key address count rights) o false ≡ true)
    by None b e drew fails = absurd (true≢false drew)
    by (Some low) true e drew fails = record {}
    by (Some low) false e drew fails = bind-asked c p w q windows window low None key address count rights sound there agree e fails
operation-asked c p w q windows n (ops.Bind2 window key low address count rights) sound there agree none =
    bind-asked c p w q windows window low (Some q.queue) key address count rights sound there agree fails.1.1.1.0 fails.1.1.1.1
  where
    fails : AllFail (bind2_request_refusals (view_named key (named_in c w q key)) address count rights (w.window (window_slot q window)))
    fails = all-fail (bind2_request_refusals (view_named key (named_in c w q key)) address count rights (w.window (window_slot q window))) none
operation-asked c p w q windows n (ops.FastReg region low buffer address count rights pages) sound there agree none =
    subst (λ d. grant_eq made (grant_of_fast_registration (record { domain = d; slot = region }) low buffer address count rights pages) ≡ true) there.domain (grant-refl made)
  where
    made : Grant
    made = grant_of_fast_registration (region_slot q region) low buffer address count rights pages
operation-asked c p w q windows n (ops.LocalInv key) sound there agree none = record {}
operation-asked c p w q windows n (ops.Send list) sound there agree none = record {}
operation-asked c p w q windows n (ops.SendImm imm list) sound there agree none = record {}
operation-asked c p w q windows n (ops.SendInv key list) sound there agree none = record {}
operation-asked c p w q windows n (ops.Write address key list) sound there agree none = record {}
operation-asked c p w q windows n (ops.WriteImm address key imm list) sound there agree none = record {}
operation-asked c p w q windows n (ops.Read address key list) sound there agree none = record {}
operation-asked c p w q windows n (ops.CmpSwap address key compare swap list) sound there agree none = record {}
operation-asked c p w q windows n (ops.FetchAdd address key add list) sound there agree none = record {}
