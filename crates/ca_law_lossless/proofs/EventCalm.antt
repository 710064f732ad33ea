-- Each event of calm weather keeps a world tied to a calm link. For proofs only.
use Rattle.std.proofs.Common.{◌≤◌, refl, ap, sym, true≢false}
use Rattle.ca_law_endings.specs.Runs.{Comes}
use Rattle.ca_base.specs.Configuration.{Configuration}
use Rattle.ca_base.specs.declared.correspondent.Correspondent.{Correspondent}
use Rattle.ca_base.specs.declared.limits.TheConstants.{MIN_PATH_MTU}
use Rattle.ca_base.specs.objects.QueuePair.{is_present}
use Rattle.ca_connection.specs.Layout.{Direction}
use Rattle.ca_connection.specs.Link.{Link}
use Rattle.ca_connection.specs.Moves.Reached.{begin}
use Rattle.ca_connection.proofs.CalmLemmas.{opening-calm}
use Rattle.ca_connection.specs.Calm.{CalmLink, calm_opening}
use Rattle.ca_keys.specs.Memory.{ByteMap}
use Rattle.ca_model.specs.declared.event.Event.{Event}
use Rattle.ca_model.specs.declared.event.Event.TheVariants as events
use Rattle.ca_model.specs.machine.Plan.{Outcome, NotReady, Did}
use Rattle.ca_model.specs.machine.Sound.{IsSoundWorld}
use Rattle.ca_model.specs.machine.Step.{step}
use Rattle.ca_model.specs.machine.World.{World, opening_world}
use Rattle.ca_law_once.specs.Ties.{IsTied, MailFollows}
use Rattle.ca_law_lossless.proofs.DeliverCalm.{deliver-calm}
use Rattle.ca_law_lossless.proofs.TurnCalm.{request-calm, respond-calm}
use Rattle.ca_law_lossless.proofs.VerbCalm.{verb-calm}
use Rattle.ca_law_lossless.specs.CalmEvents.{AreCalm, IsCalmEvent}
use Rattle.ca_law_lossless.specs.CalmTies.{CalmAfter, IsCalmlyTied}
use Rattle.ca_law_once.specs.Agrees.{AgreesWith}
use Rattle.ca_law_once.specs.Beginnings.{AllBeginEmpty}

pub opening-calmly : (d : Direction) (s r : Correspondent) (bytes : ByteMap) → MIN_PATH_MTU ≤ d.mtu → IsCalmlyTied d s r (opening_world bytes) (calm_opening d)
opening-calmly d s r bytes wide = record {
  reached = begin wide;
  calm = opening-calm d;
  sender = record {
    before = λ is. (refl, refl, refl);
    paired = λ t paired connected. absurd (true≢false (sym (ap is_present paired.present)));
  };
  receiver = record {
    before = λ is. (refl, refl, refl, refl);
    unnamed = λ t is none. absurd (true≢false (sym (ap is_present is)));
    paired = λ t paired. absurd (true≢false (sym (ap is_present paired.present)));
  };
}

agreed : (d : Direction) (s r : Correspondent) (w : World) (o : Outcome) → Comes (λ v ms. AreCalm ms → CalmAfter d s r w v) o → Comes (λ v ms. AreCalm ms → AgreesWith d s r w ms → CalmAfter d s r w v) o
agreed d s r w (NotReady reason) came = record {}
agreed d s r w (Did v ms) came = λ calm agrees. came calm

pub event-calm : (d : Direction) (s r : Correspondent) (c : Configuration) (w : World) (l : Link) (k : CalmLink) (event : Event) → IsSoundWorld c w → MailFollows w → AllBeginEmpty w → IsTied d s r w l → IsCalmlyTied d s r w k
    → IsCalmEvent w event → Comes (λ v ms. AreCalm ms → AgreesWith d s r w ms → CalmAfter d s r w v) (step c w event)
event-calm d s r c w l k (events.Verb by verb) sound follows empty tied calmly weather = verb-calm d s r c w l k sound empty tied calmly by verb weather
event-calm d s r c w l k (events.Request name lot) sound follows empty tied calmly weather = agreed d s r w (step c w (events.Request name lot)) (request-calm d s r c w l k name sound follows tied calmly lot weather)
event-calm d s r c w l k (events.Respond name lot) sound follows empty tied calmly weather = agreed d s r w (step c w (events.Respond name lot)) (respond-calm d s r c w l k name sound follows tied calmly lot weather)
event-calm d s r c w l k (events.Deliver name index) sound follows empty tied calmly weather = agreed d s r w (step c w (events.Deliver name index)) (deliver-calm d s r c w l k name index sound empty.mail tied calmly weather)
event-calm d s r c w l k (events.Timeout name hasten) sound follows empty tied calmly weather = absurd weather
event-calm d s r c w l k (events.RnrWake name) sound follows empty tied calmly weather = absurd weather
