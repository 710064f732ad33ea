-- The key check by what is seen of a window is that by its grant. For proofs only.
use Rattle.std.proofs.Common.{◌≡◌, ℕ, ◌+◌, ◌-◌, ◌<◌, ◌≤◌, true, [], ◌∷◌, Option, None, Some, refl, ap, ◌∙◌, arith}
use Rattle.std.proofs.lemmas.Bool.Decides.{nat_tests}
use Rattle.ca_keys.specs.declared.access.KeyUse.TheVariants.{RKey}
use Rattle.ca_keys.specs.declared.access.Ask.{Ask}
use Rattle.ca_keys.specs.declared.access.Kind.{Kind}
use Rattle.ca_keys.specs.declared.access.Kind.TheVariants as kinds
use Rattle.ca_keys.specs.declared.grant.Grant.{Grant}
use Rattle.ca_keys.specs.declared.rights.Rights.{Rights}
use Rattle.std.specs.Option.{option_map, option_map_or, option_and_then}
use Rattle.ca_keys.specs.Allowed.{suffice, fits, denial_of}
use Rattle.ca_base.specs.Grants.{remote_rights}
use Rattle.ca_keys.specs.Memory.{cut, runs_at, runs_for}
use Rattle.ca_base.specs.objects.Slices.{is_key_of}
use Rattle.ca_base.specs.objects.Window.{Window, Binding, key_of_window, grant_of_binding}
use Rattle.ca_grant.specs.KeySlot.{list_of_grant}
use Rattle.ca_grant.specs.Parts.{grant_of_bound, LiesWithin}
use Rattle.ca_grant.specs.Views.{denial_by_parts, fits_window}
use Rattle.ca_region.proofs.Cut.{cut-cut}
use Rattle.ca_window.specs.declared.view.WindowView.{WindowView}

-- for a remote ask only the remote rights count
suffice-remote : (rights : Rights) (kind : Kind) → suffice (remote_rights rights) RKey kind ≡ suffice rights RKey kind
suffice-remote rights kinds.Read = refl
suffice-remote rights kinds.Write = refl
suffice-remote rights kinds.CmpSwap = refl
suffice-remote rights kinds.FetchAdd = refl

-- what is seen of a window that is bound so
abbrev view_of_bound : Window → Binding → WindowView
view_of_bound w b = record { key = key_of_window w; queue = b.queue; address = b.address; length = b.length; rights = b.rights }

-- the denial by what is seen of the window is that by its grant
pub window-denial : (ask : Ask) (w : Window) (b : Binding) (g : Grant) → 0 < ask.length
    → is_key_of w.slot.domain (key_of_window w) ≡ true → w.slot.domain.adapter ≡ ask.domain.adapter
    → denial_by_parts (fits_window (view_of_bound w b) ask) b.queue b.rights b.address b.length ask
    ≡ denial_of ask (grant_of_binding w b g ∷ [])
window-denial ask w b g some named adapter = grind (arith, nat_tests, suffice-remote)

-- the places of a part of a window are the same part of its region's places
pub window-places : (ask : Ask) (w : Window) (b : Binding) (g : Grant) (n : ℕ) → g.address ≤ b.address → b.address ≤ ask.address
    → ask.address + n ≤ b.address + b.length
    → runs_at (grant_of_binding w b g) ask.address n ≡ runs_at g ask.address n
window-places ask w b g n begin from to =
    let together : b.address - g.address + (ask.address - b.address) ≡ ask.address - g.address = omega arith in
    cut-cut g.runs (b.address - g.address) b.length (ask.address - b.address) n (omega arith)
    ∙ ap (λ (k : ℕ). cut k n g.runs) together

-- some bytes are not allowed without a grant
none-allowed : (ask : Ask) → 0 < ask.length → denial_of ask [] ≡ None → ⊥
none-allowed ask some allowed = grind (arith, nat_tests)

-- a grant under which an ask is allowed fits it, and has its range
allowed-fits : (ask : Ask) (g : Grant) → 0 < ask.length → denial_of ask (g ∷ []) ≡ None → fits ask g ≡ true
allowed-fits ask g some allowed = grind (arith, nat_tests)

allowed-range : (ask : Ask) (g : Grant) → 0 < ask.length → denial_of ask (g ∷ []) ≡ None
    → (g.address ≤ ask.address) × (ask.address + ask.length ≤ g.address + g.length)
allowed-range ask g some allowed = (grind (arith, nat_tests), grind (arith, nat_tests))

-- where an ask is allowed by a window, it touches the same places of the window's region
pub window-runs : (ask : Ask) (w : Window) (region : Option Grant) (n : ℕ) → 0 < ask.length → n ≤ ask.length → LiesWithin w.binding region
    → denial_of ask (list_of_grant (grant_of_bound w region)) ≡ None
    → runs_for ask (list_of_grant (grant_of_bound w region)) n ≡ option_map_or (λ g. runs_at g ask.address n) region []
window-runs ask w region n some few = by w.binding region
  where
    bound : (b : Binding) (g : Grant) → (g.address ≤ b.address) × (b.address + b.length ≤ g.address + g.length)
        → denial_of ask (grant_of_binding w b g ∷ []) ≡ None → runs_for ask (grant_of_binding w b g ∷ []) n ≡ runs_at g ask.address n
    bound b g lies allowed =
        let range = allowed-range ask (grant_of_binding w b g) some allowed in
        rw (allowed-fits ask (grant_of_binding w b g) some allowed) (window-places ask w b g n lies.0 range.0 (omega arith))

    by : (b : Option Binding) (o : Option Grant) → LiesWithin b o
        → denial_of ask (list_of_grant (option_and_then (λ b. option_map (grant_of_binding w b) o) b)) ≡ None
        → runs_for ask (list_of_grant (option_and_then (λ b. option_map (grant_of_binding w b) o) b)) n
        ≡ option_map_or (λ g. runs_at g ask.address n) o []
    by None o lies allowed = absurd (none-allowed ask some allowed)
    by (Some b) None lies allowed = refl
    by (Some b) (Some g) lies allowed = bound b g lies allowed

pub ruleset windows = (window-denial)
