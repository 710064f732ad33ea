-- A bind over the parts in hand: they are as it asks, and what it makes is what it comes to. For proofs only.
use Rattle.std.proofs.Common.{◌≡◌, ◌∙◌, refl, sym, ap, subst, ℕ, suc, ◌%◌, ◌==◌, ◌<◌, Bool, true, false, not, if◌then◌else◌, List, [], ◌∷◌, ◌++◌, Option, None, Some, IfSome, IsSomeAnd, is_none, true≢false}
use Rattle.std.specs.Option.{option_and_then, option_map}
use Rattle.ca_adapter_turns.specs.ca_adapter_acts.Binders.{changed_by}
use Rattle.ca_adapter_local.proofs.BindLemmas.{IsFree, changes_by, free, left-changed, no-bytes, refusal-same}
use Rattle.ca_adapter_local.specs.Local.{byte_of, local_end}
use Rattle.ca_adapter_local.specs.Made.{IsMadeBy}
use Rattle.ca_adapter_local.specs.Parts.{AreBindParts, AreParts, has_region, region_at}
use Rattle.ca_adapter_local.specs.Site.{IsAtHand, IsBound, after_bind_at, apart_from, key_of, refusal_over, site_of, slot_named, window_of}
use Rattle.ca_adapter_local.specs.declared.bind.Site.{Site}
use Rattle.ca_base.specs.Configuration.{Configuration}
use Rattle.ca_base.specs.declared.queue_numbers.WindowCount.{WindowCount}
use Rattle.ca_base.specs.declared.request.SendOp.{SendOp}
use Rattle.ca_base.specs.declared.request.SendOp.TheVariants as ops
use Rattle.ca_base.specs.Grants.{grant_of_bind}
use Rattle.ca_base.specs.objects.LocalRequest.{bind1_request_refusals, view_by_key}
use Rattle.ca_base.specs.objects.QueuePair.{QueuePair}
use Rattle.ca_base.specs.objects.Region.{Region, grant_of_region}
use Rattle.ca_base.specs.objects.Slices.{names_region, slot_of_key}
use Rattle.ca_base.specs.objects.Window.{Binding, Window, after_bind1, after_binding, is_valid_view, without_binding}
use Rattle.ca_adapter_parts.specs.HeldView.{holding}
use Rattle.ca_adapter_parts.specs.declared.held.Held.{Held}
use Rattle.ca_adapter_reach.proofs.EndLemmas.{counting_has}
use Rattle.ca_adapter_reach.specs.AtHand.{IsCounting}
use Rattle.ca_adapter_reach.specs.Seen.{or_vacant, region_in, slot_under, window_in}
use Rattle.ca_adapter_reach.specs.declared.reached.Reached.{Reached}
use Rattle.ca_keys.specs.declared.key.Key.{Key}
use Rattle.ca_keys.specs.declared.names.Slot.{Slot}
use Rattle.ca_keys.specs.declared.rights.Rights.{Rights}
use Rattle.ca_keys.specs.Equal.{slot_eq}
use Rattle.ca_keys.specs.Numbers.{index_of}
use Rattle.ca_keys.specs.Refusals.{first_of}
use Rattle.ca_localops.specs.Errors.{FailsBy}
use Rattle.ca_localops.specs.Requests.{IsBind, request_of}
use Rattle.ca_localops.specs.declared.marks.Marks2.{Marks2}
use Rattle.ca_localops.specs.declared.marks.OpError.{OpError}
use Rattle.ca_localops.specs.declared.request.BindRequest.{BindRequest}
use Rattle.ca_model.proofs.ThingLemmas.{slot-path}
use Rattle.ca_model.specs.machine.LocalOperations.{PlacedRegion, former_updates, named_slot, named_updates, window_slot}
use Rattle.ca_model.specs.machine.Plan.{Update, ◌:=◌}
use Rattle.ca_model.specs.machine.World.{Window_of}
use Rattle.ca_adapter_turns.specs.ca_adapter_reach_laws.Ties.{with_reached}
use Rattle.ca_base.specs.objects.Region.{vacant_region}
use Rattle.ca_adapter_reach.specs.Shelved.{thing_under}

-- a region that is counted at
counting-in : (r : Reached) (s : Slot) → IsCounting r s → 0 < (region_in r s).bound
counting-in r s counts = by (thing_under slot_eq s r.regions.things) counts
  where
    by : (o : Option Region) → IsSomeAnd o (λ v. 0 < v.bound) → 0 < (or_vacant vacant_region o).bound
    by None none = absurd none
    by (Some v) some = some

-- the slots of a bind, by the one that is named and that of the window's binding
module _ (r : Reached) (x : Window) where
  abbrev at : Option Binding → Option Slot
  at o = option_map (slot_under x) o

  former-counts : (n : Option Slot) (o : Option Binding) → IfSome o (λ y. IsCounting r (slot_under x y)) → IfSome (apart_from n (at o)) (IsCounting r)
  former-counts None None counts = tt
  former-counts None (Some y) counts = counts
  former-counts (Some n) None counts = tt
  former-counts (Some n) (Some y) counts = by (slot_eq (slot_under x y) n)
    where
      by : (b : Bool) → IfSome (if b then None else Some (slot_under x y)) (IsCounting r)
      by true = tt
      by false = counts

  here-counts : (n : Option Slot) (o : Option Binding) → IfSome o (λ y. IsCounting r (slot_under x y)) → apart_from n (at o) ≡ None → not (is_none o) ≡ true
      → IsSomeAnd (region_at r n) (λ v. 0 < v.bound)
  here-counts n None counts apart is = absurd (true≢false (sym is))
  here-counts None (Some y) counts apart is = cc
  here-counts (Some n) (Some y) counts apart is = by (slot_eq (slot_under x y) n) refl apart
    where
      by : (b : Bool) → slot_eq (slot_under x y) n ≡ b → (if b then None else Some (slot_under x y)) ≡ None → 0 < (region_in r n).bound
      by true same apart = subst (λ s. 0 < (region_in r s).bound) (slot-path (slot_under x y) n same) (counting-in r (slot_under x y) counts)
      by false other apart = cc

slots-apart : (n o : Option Slot) (f m : Slot) → apart_from n o ≡ Some f → n ≡ Some m → slot_eq f m ≡ false
slots-apart None o f m first second = cc
slots-apart (Some n) None f m first second = cc
slots-apart (Some n) (Some g) f m first second = by (slot_eq g n) refl first
  where
    by : (b : Bool) → slot_eq g n ≡ b → (if b then None else Some g) ≡ Some f → slot_eq f m ≡ false
    by true same first = cc
    by false other first = let one : g ≡ f = cc in let two : n ≡ m = cc in ap (λ s. slot_eq s m) (sym one) ∙ ap (slot_eq g) (sym two) ∙ other

named-there : (c : Configuration) (r : Reached) (q : QueuePair) (key : Key) → (names_region c q.domain key ≡ true → has_region r (slot_of_key q.domain key) ≡ true)
    → IfSome (slot_named c q.domain key) (λ s. has_region r s ≡ true)
named-there c r q key named = by (names_region c q.domain key) named
  where
    by : (t : Bool) → (t ≡ true → has_region r (slot_of_key q.domain key) ≡ true) → IfSome (if t then Some (slot_of_key q.domain key) else None) (λ s. has_region r s ≡ true)
    by true named = named refl
    by false named = tt

site-there : (c : Configuration) (r : Reached) (q : QueuePair) (drawn : Option ℕ) (op : SendOp) → AreBindParts c r q (window_of op) (key_of op) → IsAtHand r (site_of c r q drawn op)
site-there c r q drawn op parts = record {
  window = parts.window;
  former = former-counts r (window_in r (window_slot q (window_of op))) (slot_named c q.domain (key_of op)) (window_in r (window_slot q (window_of op))).binding parts.former;
  named = named-there c r q (key_of op) parts.named;
  apart = λ f n first second. slots-apart (slot_named c q.domain (key_of op)) (option_map (slot_under (window_in r (window_slot q (window_of op)))) (window_in r (window_slot q (window_of op))).binding) f n first second;
  here = λ apart is. here-counts r (window_in r (window_slot q (window_of op))) (slot_named c q.domain (key_of op)) (window_in r (window_slot q (window_of op))).binding parts.former apart is;
}

-- where the parts of a bind are in hand, it may take place
pub parts-there : (c : Configuration) (r : Reached) (q : QueuePair) (op : SendOp) → IsBind op → AreParts c r q op → AreBindParts c r q (window_of op) (key_of op)
parts-there c r q (ops.Bind1 window key address count rights) is parts = parts
parts-there c r q (ops.Bind2 window key low address count rights) is parts = parts
parts-there c r q op is parts = absurd is

pub at-hand : (c : Configuration) (r : Reached) (q : QueuePair) (drawn : Option ℕ) (op : SendOp) → IsBind op → AreParts c r q op → IsAtHand r (site_of c r q drawn op)
at-hand c r q drawn op is parts = site-there c r q drawn op (parts-there c r q op is parts)

-- what a bind makes
module _ (c : Configuration) (h : Held) (q : QueuePair) (drawn : Option ℕ) (m : Marks2) (before after : WindowCount) (counted : before.count ≡ q.windows) (left : Reached) where
  abbrev pub r : Reached
  r = h.reached

  abbrev pub Bound : SendOp → Type 0
  Bound op = IsBound m (request_of op drawn q.queue) (window_in r (window_slot q (window_of op))) (region_at r (slot_named c q.domain (key_of op))) before after

  abbrev pub Left : SendOp → Type 0
  Left op = left ≡ after_bind_at r (site_of c r q drawn op) (request_of op drawn q.queue)

  abbrev pub Makes : SendOp → Type 0
  Makes op = IsMadeBy (record { marks = m; windows = after }) (local_end c (holding h).world q drawn op) h left

  held-under : (x : Window) (o : Option Binding) → IfSome o (λ y. IsCounting r (slot_under x y)) → IfSome o (λ y. has_region r (slot_under x y) ≡ true)
  held-under x None counts = tt
  held-under x (Some y) counts = counting_has r (slot_under x y) counts

  grants-view : (s : Slot) (t : Bool) → option_and_then grant_of_region (region_at r (if t then Some s else None))
      ≡ option_and_then (λ (n : PlacedRegion). grant_of_region n.region) (if t then Some (record { slot = s; region = region_in r s }) else None)
  grants-view s true = refl
  grants-view s false = refl

  module _ (window : ℕ) (key : Key) (address count : ℕ) (rights : Rights) (parts : AreBindParts c r q window key) where
    abbrev x : Window
    x = window_in r (window_slot q window)

    abbrev s : Slot
    s = slot_of_key q.domain key

    abbrev t : Bool
    t = names_region c q.domain key

    abbrev named : Bool → Option PlacedRegion
    named t = if t then Some (record { slot = s; region = region_in r s }) else None

    bind1-made : let op : SendOp = ops.Bind1 window key address count rights in Bound op → Left op → Makes op
    unfolding holding
    bind1-made bound is = record {
      accepted = sym (refusal-same c h q drawn (ops.Bind1 window key address count rights) tt) ∙ bound.accepted;
      revoked = bound.revoked;
      granted = bound.granted
          ∙ ap (λ slot. if count == 0 then None else option_map (λ g. grant_of_bind slot (byte_of drawn) None g address count rights) (option_and_then grant_of_region (region_at r (if t then Some s else None)))) parts.slot
          ∙ ap (λ o. if count == 0 then None else option_map (λ g. grant_of_bind (window_slot q window) (byte_of drawn) None g address count rights) o) (grants-view s t);
      windows = ap (λ w. w.count) bound.count ∙ counted;
      changed = ap (λ p. holding (with_reached h p)) is
          ∙ left-changed h (window_slot q window) s drawn q.queue (request_of (ops.Bind1 window key address count rights) drawn q.queue) parts.window t x.binding (count == 0) refl empty parts.named
          (held-under x x.binding parts.former)
          ∙ ap (λ v. changed_by ((Window_of (window_slot q window) := v) ∷ rest) (holding h)) (window-same t empty);
    }
      where
        empty : t ≡ false → (count == 0) ≡ true
        empty none = no-bytes drawn address count rights x
            (subst (λ t. first_of (bind1_request_refusals drawn (option_and_then (view_by_key key) (region_at r (if t then Some s else None))) address count rights x) ≡ None) none bound.accepted)

        rest : List Update
        rest = former_updates (option_map (λ y. record { slot = slot_under x y; region = region_in r (slot_under x y) }) x.binding)
            ++ (if count == 0 then [] else named_updates (option_map (λ y. record { slot = slot_under x y; region = region_in r (slot_under x y) }) x.binding) (named t))

        window-same : (t : Bool) → (t ≡ false → (count == 0) ≡ true)
            → after_bind1 (byte_of drawn) (index_of key % 0x8000) address count rights x ≡ after_bind1 (byte_of drawn) (named_slot (named t)) address count rights x
        window-same true empty = refl
        window-same false empty = ap (λ z. if z then without_binding x else after_binding (byte_of drawn) None (index_of key % 0x8000) address count rights x) (empty refl)
            ∙ sym (ap (λ z. if z then without_binding x else after_binding (byte_of drawn) None 0 address count rights x) (empty refl))

    bind2-made : (low : ℕ) → let op : SendOp = ops.Bind2 window key low address count rights in Bound op → Left op → Makes op
    unfolding holding
    bind2-made low bound is = record {
      accepted = sym (refusal-same c h q drawn (ops.Bind2 window key low address count rights) tt) ∙ bound.accepted;
      revoked = bound.revoked;
      granted = bound.granted
          ∙ ap (λ slot. if count == 0 then None else option_map (λ g. grant_of_bind slot low (Some q.queue) g address count rights) (option_and_then grant_of_region (region_at r (if t then Some s else None)))) parts.slot
          ∙ ap (λ o. if count == 0 then None else option_map (λ g. grant_of_bind (window_slot q window) low (Some q.queue) g address count rights) o) (grants-view s t)
          ∙ ap (λ z. if z then None else option_map (λ g. grant_of_bind (window_slot q window) low (Some q.queue) g address count rights) (option_and_then (λ (n : PlacedRegion). grant_of_region n.region) (named t))) so.some;
      windows = ap (λ w. w.count) bound.count ∙ ap suc counted;
      changed = ap (λ p. holding (with_reached h p)) is
          ∙ left-changed h (window_slot q window) s drawn q.queue (request_of (ops.Bind2 window key low address count rights) drawn q.queue) parts.window t x.binding (count == 0) refl
          (λ none. absurd (true≢false (sym valid ∙ none))) parts.named (held-under x x.binding parts.former)
          ∙ ap (λ o. changed_by (changes o (count == 0)) (holding h)) unbound
          ∙ ap (λ z. changed_by (changes None z) (holding h)) so.some
          ∙ ap (λ n. changed_by ((Window_of (window_slot q window) := after_binding low (Some q.queue) n address count rights x) ∷ named_updates None (named t)) (holding h))
          (sym (ap (λ t. named_slot (named t)) valid));
    }
      where
        so : IsFree x (option_and_then (view_by_key key) (region_at r (if t then Some s else None))) count
        so = free (option_and_then (view_by_key key) (region_at r (if t then Some s else None))) address count rights x bound.accepted

        changes : Option Binding → Bool → List Update
        changes o z = changes_by h (window_slot q window) s drawn q.queue (request_of (ops.Bind2 window key low address count rights) drawn q.queue) parts.window t o z

        valid : t ≡ true
        valid = by t so.valid
          where
            by : (t : Bool) → is_valid_view (option_and_then (view_by_key key) (region_at r (if t then Some s else None))) ≡ true → t ≡ true
            by true is = refl
            by false is = absurd (true≢false (sym is))

        unbound : x.binding ≡ None
        unbound = by x.binding so.unbound
          where
            by : (o : Option Binding) → is_none o ≡ true → o ≡ None
            by None is = refl
            by (Some y) is = absurd (true≢false (sym is))

  pub bind-made : (op : SendOp) → IsBind op → AreParts c r q op → Bound op → Left op → Makes op
  bind-made (ops.Bind1 window key address count rights) is parts bound left = bind1-made window key address count rights parts bound left
  bind-made (ops.Bind2 window key low address count rights) is parts bound left = bind2-made window key address count rights parts low bound left
  bind-made op is parts bound left = absurd is

-- a bind at its site
module _ (c : Configuration) (q : QueuePair) (drawn : Option ℕ) (op : SendOp) (is-bind : IsBind op) (site : Site) (h : Held) where
  abbrev pub request : BindRequest
  request = request_of op site.drawn site.queue

  pub bind-made-at : (r : Reached) (m : Marks2) (before after : WindowCount) (left : Reached) → before.count ≡ q.windows → site ≡ site_of c r q drawn op → AreParts c r q op
      → IsBound m request (window_in r site.window) (region_at r site.named) before after → left ≡ after_bind_at r site request → h.reached ≡ r
      → IsMadeBy (record { marks = m; windows = after }) (local_end c (holding h).world q drawn op) h left
  bind-made-at r m before after left counted is parts bound so same = bind-made c h q drawn m before after counted left op is-bind
      (subst (λ r. AreParts c r q op) (sym same) parts)
      (subst (λ s. IsBound m (request_of op s.drawn s.queue) (window_in h.reached s.window) (region_at h.reached s.named) before after) there
      (subst (λ r. IsBound m request (window_in r site.window) (region_at r site.named) before after) (sym same) bound))
      (so ∙ ap (λ r. after_bind_at r site request) (sym same) ∙ ap (λ s. after_bind_at h.reached s (request_of op s.drawn s.queue)) there)
    where
      there : site ≡ site_of c h.reached q drawn op
      there = is ∙ ap (λ r. site_of c r q drawn op) (sym same)

  pub bind-failed-at : (r : Reached) (error : OpError) (left : Reached) → site ≡ site_of c r q drawn op
      → FailsBy (refusal_over request (window_in r site.window) (region_at r site.named)) error → left ≡ r → h.reached ≡ r
      → FailsBy (local_end c (holding h).world q drawn op).refusal error × (left ≡ h.reached)
  bind-failed-at r error left is fails so same = (
    subst (λ o. FailsBy o error) (refusal-same c h q drawn op is-bind)
        (subst (λ s. FailsBy (refusal_over (request_of op s.drawn s.queue) (window_in h.reached s.window) (region_at h.reached s.named)) error)
        (is ∙ ap (λ r. site_of c r q drawn op) (sym same))
        (subst (λ r. FailsBy (refusal_over request (window_in r site.window) (region_at r site.named)) error) (sym same) fails)),
    so ∙ sym same,
  )
