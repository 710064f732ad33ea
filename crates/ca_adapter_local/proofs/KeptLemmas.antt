-- Parts in hand that a bind leaves as they were, and those that it keeps in hand. For proofs only.
use Rattle.std.proofs.Common.{◌≡◌, ◌∙◌, refl, sym, ap, subst, ℕ, ◌<◌, Bool, true, false, if◌then◌else◌, List, [], ◌∷◌, Option, None, Some, IfSome, Result, Ok, Err, OnErr, OnOk}
use Rattle.ca_adapter_local.specs.Parts.{has_region, region_at}
use Rattle.ca_adapter_local.specs.Site.{IsAtHand, after_bind}
use Rattle.ca_adapter_local.specs.declared.bind.Site.{Site}
use Rattle.ca_base.specs.objects.Region.{Region}
use Rattle.ca_base.specs.objects.Window.{Window}
use Rattle.ca_adapter_reach.proofs.EndLemmas.{counting_has}
use Rattle.ca_adapter_reach.proofs.GrantLemmas.{region_put}
use Rattle.ca_adapter_reach.specs.AtHand.{IsCounting}
use Rattle.ca_adapter_reach.specs.Changed.{put_region, put_window}
use Rattle.ca_adapter_reach.specs.Laws.{has-with, same_thing}
use Rattle.ca_adapter_reach.specs.Seen.{region_in, window_in}
use Rattle.ca_adapter_reach.specs.declared.reached.Reached.{Reached}
use Rattle.ca_keys.specs.declared.names.Slot.{Slot}
use Rattle.ca_keys.specs.Equal.{slot_eq}
use Rattle.ca_localops.specs.Binds.{named_after_bind, window_after_bind}
use Rattle.ca_localops.specs.declared.request.BindRequest.{BindRequest}
use Rattle.ca_model.proofs.ThingLemmas.{slot-path}
use Rattle.ca_adapter_reach.specs.declared.shelf.Named.{Named}
use Rattle.ca_adapter_reach.specs.Shelved.{thing_under, with_thing}

-- a region that is put where it stands
pub kept-region : (r : Reached) (s : Slot) (v y : Region) → Some y ≡ thing_under slot_eq s r.regions.things → v ≡ y → put_region r s v ≡ r
kept-region r s v y here same = ap (put_region r s) same
    ∙ ap (λ ys. record r { regions = record r.regions { things = ys } }) (same_thing slot_eq slot-path r.regions.things s y here)

-- a window and a region that are put where they stand
pub kept-both : {A E : Type 0} (result : Result A E) (r : Reached) (ws s : Slot) (v x : Window) (u y : Region)
    → Some x ≡ thing_under slot_eq ws r.windows.things → Some y ≡ thing_under slot_eq s r.regions.things
    → OnErr result (v ≡ x) → OnErr result (u ≡ y) → OnErr result (put_region (put_window r ws v) s u ≡ r)
kept-both (Ok done) r ws s v x u y there here first second = tt
kept-both (Err error) r ws s v x u y there here first second =
    ap (λ v. put_region (put_window r ws v) s u) first
    ∙ ap (λ u. put_region (put_window r ws x) s u) second
    ∙ ap (λ xs. put_region (record r { windows = record r.windows { things = xs } }) s y) (same_thing slot_eq slot-path r.windows.things ws x there)
    ∙ ap (λ ys. record r { regions = record r.regions { things = ys } }) (same_thing slot_eq slot-path r.regions.things s y here)

-- what is put twice under a name
with-twice : {T : Type 0} (xs : List (Named Slot T)) (n : Slot) (v w : T) → with_thing slot_eq n w (with_thing slot_eq n v xs) ≡ with_thing slot_eq n w xs
with-twice [] n v w = refl
with-twice (x ∷ xs) n v w = by (slot_eq x.name n) refl (with-twice xs n v w)
  where
    by : (b : Bool) → slot_eq x.name n ≡ b → with_thing slot_eq n w (with_thing slot_eq n v xs) ≡ with_thing slot_eq n w xs
        → with_thing slot_eq n w (if b then record x { thing = v } ∷ xs else x ∷ with_thing slot_eq n v xs) ≡ (if b then record x { thing = w } ∷ xs else x ∷ with_thing slot_eq n w xs)
    by true same again = rw same refl
    by false other again = rw other (ap (λ ys. x ∷ ys) again)

-- another region under a name that is in hand
module _ (r : Reached) (f : Slot) (v : Region) (there : has_region r f ≡ true) where
  pub still-there : (o : Option Slot) → IfSome o (λ s. has_region r s ≡ true) → IfSome o (λ s. has_region (put_region r f v) s ≡ true)
  still-there None here = tt
  still-there (Some s) here = has-with slot_eq slot-path r.regions.things f s v there ∙ here

  pub few-still : (m : ℕ) (o : Option Slot) → v.bound < m → ((s : Slot) → (region_in r s).bound < m) → IfSome (region_at (put_region r f v) o) (λ x. x.bound < m)
  few-still m None few room = tt
  few-still m (Some s) few room = subst (λ x. x.bound < m) (sym (region_put r f v there s)) (by (slot_eq f s))
    where
      by : (b : Bool) → (if b then v else region_in r s).bound < m
      by true = few
      by false = room s

  pub other-at : (o : Option Slot) → ((n : Slot) → o ≡ Some n → slot_eq f n ≡ false) → region_at (put_region r f v) o ≡ region_at r o
  other-at None apart = refl
  other-at (Some s) apart = ap Some (region_put r f v there s ∙ ap (λ b. if b then v else region_in r s) (apart s refl))

  pub undone : {A E : Type 0} (result : Result A E) (new : Reached) (left old : Region) → OnErr result (new ≡ put_region r f v) → OnErr result (left ≡ old)
      → Some old ≡ thing_under slot_eq f r.regions.things → OnErr result (put_region new f left ≡ r)
  undone (Ok done) new left old first second there = tt
  undone (Err error) new left old first second there =
      ap (λ n. put_region n f left) first
      ∙ ap (λ u. put_region (put_region r f v) f u) second
      ∙ ap (λ xs. record r { regions = record r.regions { things = xs } })
      (with-twice r.regions.things f v old ∙ same_thing slot_eq slot-path r.regions.things f old there)

  -- it stays in hand after a bind
  pub left-there : {A E : Type 0} (result : Result A E) (site : Site) (was : Bool) (b : BindRequest) (new : Reached)
      → OnOk result (new ≡ after_bind (put_region r f v) site was b) → OnErr result (new ≡ put_region r f v)
      → IfSome site.named (λ s. has_region r s ≡ true) → has_region new f ≡ true
  left-there (Err error) site was b new first second here = ap (λ n. has_region n f) second ∙ (still-there (Some f) there)
  left-there (Ok done) site was b new first second here = ap (λ n. has_region n f) first ∙ by site.named here
    where
      bound : Reached
      bound = put_window (put_region r f v) site.window (window_after_bind b (window_in r site.window))

      left : Option Slot → Reached
      left None = bound
      left (Some s) = put_region bound s (named_after_bind b.length was (region_in (put_region r f v) s))

      by : (o : Option Slot) → IfSome o (λ s. has_region r s ≡ true) → has_region (left o) f ≡ true
      by None here = still-there (Some f) there
      by (Some s) here = has-with slot_eq slot-path bound.regions.things s f (named_after_bind b.length was (region_in (put_region r f v) s)) (still-there (Some s) here)
          ∙ still-there (Some f) there

-- the former region of a site is in hand
pub former-there : (r : Reached) (site : Site) (f : Slot) → IsAtHand r site → site.former ≡ Some f → has_region r f ≡ true
former-there r site f at is = counting_has r f (subst (λ o. IfSome o (IsCounting r)) is at.former)
