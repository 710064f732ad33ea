-- What the fields of a window stand for. Contracts see it through the type.
use Rattle.std.specs.Prelude.{ℕ, ◌<◌}
use Rattle.std.specs.Option.{option_map}
use Rattle.ca_base.specs.objects.Window as windows
use Rattle.ca_window.specs.declared.binding.Binding.{Binding}
use Rattle.ca_window.specs.declared.window.Kind.{Kind}
use Rattle.ca_window.specs.declared.window.Kind.TheVariants.{Vacant, Type1, Type2}
use Rattle.ca_window.specs.declared.window.Window.TheInside.{Inside}

-- the type of a window as a number, 0 where the slot is vacant
abbrev pub kind_number : Kind → ℕ
kind_number Vacant = 0
kind_number Type1 = 1
kind_number Type2 = 2

abbrev pub binding_of : Binding → windows.Binding
binding_of b = record { region = b.region; queue = b.queue; address = b.address; length = b.length; rights = b.rights }

abbrev pub view_of : Inside → windows.Window
view_of w = record {
  slot = w.slot;
  kind = kind_number w.kind;
  low = w.low;
  drawn = w.drawn;
  binding = option_map binding_of w.binding;
}

-- the slot is one that window keys have a place for
abbrev pub IsWindow : Inside → Type 0
IsWindow w = w.slot.slot < 32768
