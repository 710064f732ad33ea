-- The marks of an order tell the memory in which it ends. For proofs only.
use Rattle.std.proofs.Common.{◌≡◌, Bool, true, false, if◌then◌else◌, List, [], ◌∷◌, Option, None, Some, is_some, true≢false, sym, ap, subst}
use Rattle.ca_law_endings.specs.Agreement.{HoldsAlong}
use Rattle.ca_law_keys.proofs.Keys.KeyLaws.{keys-along}
use Rattle.ca_law_keys.specs.InForce.{KeysAgree}
use Rattle.ca_keys.specs.Memory.{zeros}
use Rattle.ca_model.specs.Entries.{EntryValue}
use Rattle.ca_model.specs.Past.{Past, after_entries, after_entry, opening_past}
use Rattle.ca_model.specs.machine.Frame.{Afterwards}
use Rattle.ca_model.specs.machine.Plan.{Did, NotReady, Outcome}
use Rattle.ca_model.specs.machine.Step.{step}
use Rattle.ca_model.specs.machine.World.{World}
use Rattle.ca_script_order.proofs.FollowLemmas.{order-follows}
use Rattle.ca_script_order.proofs.ScriptLemmas.{order-told}
use Rattle.ca_script_order.specs.OfScript.{Reach, may_stand, opening_reach, reach_by, reach_from}
use Rattle.ca_script_order.specs.Order.{ending, order}
use Rattle.ca_law_scripts.proofs.OrderLaws.EventLemmas.{order-made}
use Rattle.ca_law_scripts.specs.Limits.{KeepsToLimits}
use Rattle.ca_script.specs.Script.{ScriptValue}

-- the world to which entries lead, or else another
abbrev world_or : World → Option Reach → World
world_or w None = w
world_or w (Some h) = h.world

-- what holds along entries holds of the past that they leave and of the world to which they lead
at-the-end : (s : ScriptValue) (R : Past → World → Type 0) (es : List EntryValue) (past : Past) (g end : Reach) → HoldsAlong R s.config past g.world es
    → reach_from s g es ≡ Some end → R (after_entries es past) end.world
at-the-end s R [] past g end holds leads = subst (λ o. R past (world_or g.world o)) leads holds
at-the-end s R (e ∷ es) past g end holds leads =
    by (may_stand s g e.event) (step s.config g.world e.event) holds.1 leads (λ h more so. at-the-end s R es (after_entry e past) h end more so)
  where
    Holds : World → Type 0
    Holds v = HoldsAlong R s.config (after_entry e past) v es

    Goal : Type 0
    Goal = R (after_entries es (after_entry e past)) end.world

    by : (b : Bool) (o : Outcome) → Afterwards Holds o → (if b then reach_by g e.event o (λ h. reach_from s h es) else None) ≡ Some end
        → ((h : Reach) → Holds h.world → reach_from s h es ≡ Some end → Goal) → Goal
    by true (Did w ms) holds leads rest = rest _ holds leads
    by true (NotReady reason) holds leads rest = absurd (true≢false (sym (ap is_some leads)))
    by false o holds leads rest = absurd (true≢false (sym (ap is_some leads)))

pub order-memory : (s : ScriptValue) → KeepsToLimits s → (ending s).world.byte ≡ (after_entries (order s) (opening_past zeros)).memory
order-memory s keeps = (at-the-end s KeysAgree (order s) (opening_past zeros) (opening_reach s) _
    (keys-along s.config zeros (order s) keeps.limited (order-made s keeps.callable) (order-follows s)) (order-told s).of_script.stand).bytes
