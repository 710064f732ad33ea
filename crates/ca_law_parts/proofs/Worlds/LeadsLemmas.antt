-- What every law on worlds says of an opening and of the world that an event leaves, joined. For proofs only.
use Rattle.std.proofs.Common.{ℕ, suc, ◌<◌, ◌-◌, ◌^◌, arith}
use Rattle.ca_base.specs.Configuration.{Configuration}
use Rattle.ca_keys.specs.Memory.{ByteMap}
use Rattle.ca_law_parts.proofs.Names.PlacedLemmas.{event-placed, opening-placed}
use Rattle.ca_law_parts.specs.Placed.{IsPlacedWorld}
use Rattle.ca_law_parts.proofs.Numbers.EventNumberLemmas.{event-within, opening-within}
use Rattle.ca_law_parts.specs.Raised.{IsWorldWithin}
use Rattle.ca_law_parts.proofs.Room.EventRoomLemmas.{event-room}
use Rattle.ca_law_parts.proofs.Room.RoomLemmas.{opening-room}
use Rattle.ca_law_parts.specs.Room.{HasRoom}
use Rattle.ca_law_world.proofs.Sound.SoundLemmas.{event-sound, opening-sound}
use Rattle.ca_law_world.proofs.Windows.WindowEventLemmas.{event-bound, opening-bound}
use Rattle.ca_law_world.specs.Bindings.{IsBoundWorld}
use Rattle.ca_model.specs.declared.event.Event.{Event}
use Rattle.ca_model.specs.machine.Frame.{Afterwards}
use Rattle.ca_model.specs.machine.Plan.{Outcome, NotReady, Did}
use Rattle.ca_model.specs.machine.Sound.{AreLimited, CanBeMade, IsSoundWorld}
use Rattle.ca_model.specs.machine.Step.{step}
use Rattle.ca_model.specs.machine.World.{World, opening_world}
use Rattle.ca_law_parts.specs.Worlds.{IsWorldAfter}

pub opening-after : (c : Configuration) (byte : ByteMap) → AreLimited c → IsWorldAfter c 0 (opening_world byte)
opening-after c byte limited = record {
  limited = limited;
  few = omega arith;
  sound = opening-sound c byte;
  counted = opening-bound byte;
  numbers = opening-within byte;
  placed = opening-placed c byte;
  room = opening-room byte;
}

-- what comes of an event is as each law says, and so as all of them say
joined : (c : Configuration) (n : ℕ) (o : Outcome) → AreLimited c → n < 2 ^ 32 - 1 → Afterwards (IsSoundWorld c) o → Afterwards IsBoundWorld o
    → Afterwards (IsWorldWithin n) o → Afterwards (IsPlacedWorld c) o → Afterwards HasRoom o → Afterwards (IsWorldAfter c n) o
joined c n (NotReady reason) limited few sound counted numbers placed room = record {}
joined c n (Did w ms) limited few sound counted numbers placed room = record {
  limited = limited;
  few = few;
  sound = sound;
  counted = counted;
  numbers = numbers;
  placed = placed;
  room = room;
}

pub after-event : (c : Configuration) (event : Event) (n : ℕ) (w : World) → suc n < 2 ^ 32 - 1 → CanBeMade event → IsWorldAfter c n w
    → Afterwards (IsWorldAfter c (suc n)) (step c w event)
after-event c event n w few can is = joined c (suc n) (step c w event) is.limited few
    (event-sound c event w is.limited is.sound can)
    (event-bound c event w is.sound is.counted)
    (event-within c event n w is.sound is.numbers)
    (event-placed c event w is.limited is.sound is.placed)
    (event-room c event w is.sound is.room can)
