-- From what marks tell to what a link found. For proofs only.
use Rattle.std.proofs.Common.{◌≡◌, ℕ, true, if◌then◌else◌, List, [], ◌∷◌, None, Some, ap, subst}
use Rattle.ca_base.specs.declared.completion.Completion.{Completion}
use Rattle.ca_base.specs.declared.correspondent.Correspondent.{Correspondent}
use Rattle.ca_connection.specs.Layout.{Direction}
use Rattle.ca_connection.specs.Link.{Link}
use Rattle.ca_keys.specs.declared.names.QueueId.{QueueId}
use Rattle.ca_model.specs.declared.mark.Mark.{Mark}
use Rattle.ca_model.specs.declared.mark.Mark.TheVariants as marks
use Rattle.ca_model.specs.machine.World.{World}
use Rattle.ca_law_once.proofs.Success.TellLemmas.{AllTell, AreSilent, silent-tell, success_of}
use Rattle.ca_law_once.specs.Success.{AreFound, IsSuccess, SuccessIsFound}
use Rattle.ca_law_once.specs.Agrees.{IsInLife}

module _ (d : Direction) (s : Correspondent) (w : World) (l : Link) (all : List Mark) (name : QueueId) (P : ℕ → Type 0) (finds : (place : ℕ) → P place → IsInLife w s name → IsSuccess d l place all) where
  one : (m : Mark) → ((x : Completion) → success_of m ≡ Some x → (x.queue ≡ name) × P x.place) → SuccessIsFound d s w l all m
  one (marks.Done queue x cause) tell = λ success life. let own = tell x (ap (λ b. if b then Some x else None) success) in finds x.place own.1 (subst (IsInLife w s) own.0 life)
  one (marks.Verb by verb answer) tell = record {}
  one (marks.Sent source target index request bytes) tell = record {}
  one (marks.Lost target index) tell = record {}
  one (marks.Granted g) tell = record {}
  one (marks.Revoked adapter key) tell = record {}
  one (marks.Remote queue domain envelope key kind address count verdict) tell = record {}
  one (marks.Local queue domain key kind address count verdict) tell = record {}
  one (marks.Stored place bytes) tell = record {}
  one (marks.Arrived target index) tell = record {}
  one (marks.Dropped target cause) tell = record {}
  one (marks.Timer queue silent) tell = record {}

  pub all-found : (ms : List Mark) → AllTell name P ms → AreFound d s w l all ms
  all-found [] tell = record {}
  all-found (m ∷ ms) tell = (one m tell.0, all-found ms tell.1)

-- marks that tell of no success
pub silent-found : (d : Direction) (s : Correspondent) (w : World) (l : Link) (all ms : List Mark) → AreSilent ms → AreFound d s w l all ms
silent-found d s w l all ms silent = all-found d s w l all s.queue (λ place. ⊥) (λ place none life. absurd none) ms (silent-tell s.queue (λ place. ⊥) ms silent)
