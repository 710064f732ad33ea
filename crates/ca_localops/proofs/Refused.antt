-- Refusals of a region as those of a local operation. For proofs only.
use Rattle.std.proofs.Common.{◌≡◌, Bool, true, false, if◌then◌else◌, List, [], ◌∷◌, Option, Some, refl, ap}
use Rattle.std.specs.Option.{option_map}
use Rattle.ca_base.specs.declared.refusals.OpRefusal.TheVariants as refusals
use Rattle.ca_base.specs.declared.refusals.RegionError.{RegionError}
use Rattle.ca_base.specs.declared.refusals.WindowError.{WindowError}
use Rattle.ca_keys.specs.Refusals.{first_of}
use Rattle.ca_base.specs.objects.LocalRequest.{of_region, of_window}
use Rattle.ca_localops.specs.Errors.{FailsBy, error_of_registration}
use Rattle.ca_region.specs.Region.{RefusesBy}
use Rattle.ca_base.specs.declared.refusals.RegistrationError.{RegistrationError}
use Rattle.ca_base.specs.declared.refusals.RegistrationError.TheVariants as registrations

-- the first of a region's refusals is the first of them as those of a local operation
first-of-region : (tests : List (Bool × RegionError)) → first_of (of_region tests) ≡ option_map refusals.Region (first_of tests)
first-of-region [] = refl
first-of-region (t ∷ ts) = by t.0 (first-of-region ts)
  where
    by : (b : Bool) → first_of (of_region ts) ≡ option_map refusals.Region (first_of ts)
        → (if b then Some (refusals.Region t.1) else first_of (of_region ts)) ≡ option_map refusals.Region (if b then Some t.1 else first_of ts)
    by true rest = refl
    by false rest = rest

-- the same of a window's refusals
pub first-of-window : (tests : List (Bool × WindowError)) → first_of (of_window tests) ≡ option_map refusals.Window (first_of tests)
first-of-window [] = refl
first-of-window (t ∷ ts) = by t.0 (first-of-window ts)
  where
    by : (b : Bool) → first_of (of_window ts) ≡ option_map refusals.Window (first_of ts)
        → (if b then Some (refusals.Window t.1) else first_of (of_window ts)) ≡ option_map refusals.Window (if b then Some t.1 else first_of ts)
    by true rest = refl
    by false rest = rest

-- an error by a region's refusals is one by those of the local operation
fails-by : (first : Option RegionError) (e : RegistrationError) → RefusesBy first e → FailsBy (option_map refusals.Region first) (error_of_registration e)
fails-by first (registrations.Refused e) h = ap (option_map refusals.Region) h
fails-by first registrations.Memory h = ap (option_map refusals.Region) h

pub fails-by-region : (tests : List (Bool × RegionError)) (e : RegistrationError) → RefusesBy (first_of tests) e
    → FailsBy (first_of (of_region tests)) (error_of_registration e)
fails-by-region tests e h = rw (first-of-region tests) (fails-by (first_of tests) e h)
