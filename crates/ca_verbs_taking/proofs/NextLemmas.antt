-- A part that is held has its thing, and what is needed beside other needs. For proofs only.
use Rattle.std.proofs.Common.{◌≡◌, refl, sym, Bool, true, false, None, Some, if◌then◌else◌}
use Rattle.std.proofs.lemmas.Option.{none-some}
use Rattle.ca_adapter_parts.specs.declared.held.Held.{Held}
use Rattle.ca_adapter_parts.specs.HeldView.{holding}
use Rattle.ca_keys.specs.declared.names.QueueId.{QueueId}
use Rattle.ca_model.specs.declared.part_name.PartName.{PartName}
use Rattle.ca_model.specs.declared.part_name.PartName.TheVariants as names
use Rattle.ca_model.specs.machine.Parts.{By, Enough, Needs, Part, also, next_part, part_of}
use Rattle.ca_model.specs.machine.World.{World, Mailbox_of, Queue_of, get}

module _ (h : Held) where
  pub holds_queue : (q : QueueId) → (holding h).parts (names.Queue q) ≡ true → (holding h).has (Queue_of q) ≡ true
  unfolding holding
  holds_queue q is = is

  pub holds_mailbox : (q : QueueId) → (holding h).parts (names.Mailbox q) ≡ true → (holding h).has (Mailbox_of q) ≡ true
  unfolding holding
  holds_mailbox q is = is

pub ruleset holds = (holds_queue, holds_mailbox)

-- what is needed next of two needs, one behind the other
pub also_none : (held : PartName → Bool) (w : World) (a b : Needs) → next_part held w a ≡ None → next_part held w (also a b) ≡ next_part held w b
also_none held w Enough b is = refl
also_none held w (Part p more) b is = by (held p) is (also_none held w more b)
  where
    by : (z : Bool) → (if z then next_part held w more else Some p) ≡ None → (next_part held w more ≡ None → next_part held w (also more b) ≡ next_part held w b)
        → (if z then next_part held w (also more b) else Some p) ≡ next_part held w b
    by true is again = again is
    by false is again = absurd (none-some p (sym is))
also_none held w (By n decides) b is = by (held (part_of n)) is (also_none held w (decides (get w n)) b)
  where
    by : (z : Bool) → (if z then next_part held w (decides (get w n)) else Some (part_of n)) ≡ None
        → (next_part held w (decides (get w n)) ≡ None → next_part held w (also (decides (get w n)) b) ≡ next_part held w b)
        → (if z then next_part held w (also (decides (get w n)) b) else Some (part_of n)) ≡ next_part held w b
    by true is again = again is
    by false is again = absurd (none-some (part_of n) (sym is))

pub also_some : (held : PartName → Bool) (w : World) (a b : Needs) (p : PartName) → next_part held w a ≡ Some p → next_part held w (also a b) ≡ Some p
also_some held w Enough b p is = absurd (none-some p is)
also_some held w (Part x more) b p is = by (held x) is (also_some held w more b p)
  where
    by : (z : Bool) → (if z then next_part held w more else Some x) ≡ Some p → (next_part held w more ≡ Some p → next_part held w (also more b) ≡ Some p)
        → (if z then next_part held w (also more b) else Some x) ≡ Some p
    by true is again = again is
    by false is again = is
also_some held w (By n decides) b p is = by (held (part_of n)) is (also_some held w (decides (get w n)) b p)
  where
    by : (z : Bool) → (if z then next_part held w (decides (get w n)) else Some (part_of n)) ≡ Some p
        → (next_part held w (decides (get w n)) ≡ Some p → next_part held w (also (decides (get w n)) b) ≡ Some p)
        → (if z then next_part held w (also (decides (get w n)) b) else Some (part_of n)) ≡ Some p
    by true is again = again is
    by false is again = is
