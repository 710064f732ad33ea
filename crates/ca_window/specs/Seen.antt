-- What a window shows and what it stands for, while it is bound. Contracts cite it.
use Rattle.std.specs.Prelude.{Option}
use Rattle.std.specs.Option.{option_map}
use Rattle.ca_base.specs.ca_keys.declared.grant.Grant.{Grant}
use Rattle.ca_base.specs.objects.Window.{Window, grant_of_binding, key_of_window}
use Rattle.ca_window.specs.declared.view.WindowView.{WindowView}

-- what others see of a bound window
abbrev pub view_of_window : Window → Option WindowView
view_of_window w =
    option_map (λ b. record { key = key_of_window w; queue = b.queue; address = b.address; length = b.length; rights = b.rights }) w.binding

-- the grant for which a bound window stands, over the grant of its region
abbrev pub grant_of_window : Window → Grant → Option Grant
grant_of_window w g = option_map (λ b. grant_of_binding w b g) w.binding
