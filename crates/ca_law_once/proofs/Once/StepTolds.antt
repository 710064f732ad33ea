-- What is told after an event. For proofs only.
use Rattle.std.proofs.Common.{◌≡◌, ℕ, true, List, [], ◌∷◌, refl, ap, sym, subst, ◌∙◌}
use Rattle.ca_law_endings.proofs.FitLemmas.{plain}
use Rattle.ca_law_endings.proofs.InnerLemmas.{AreInner, AreOwn, own-inner}
use Rattle.ca_law_carried.specs.Asked.{has_its_packet}
use Rattle.ca_base.specs.declared.correspondent.Correspondent.{Correspondent}
use Rattle.ca_connection.specs.Layout.{Direction}
use Rattle.ca_connection.specs.Link.{Link}
use Rattle.ca_model.specs.History.{ArePlain}
use Rattle.ca_model.specs.Judged.{is_judged}
use Rattle.ca_model.specs.Past.{Past, after_marks, at_begin, at_end, each_mark}
use Rattle.ca_model.specs.declared.event.Event.{Event}
use Rattle.ca_model.specs.declared.event.Event.TheVariants as events
use Rattle.ca_model.specs.declared.mark.Mark.{Mark}
use Rattle.ca_model.specs.declared.mark.Mark.TheVariants as marks
use Rattle.ca_model.specs.machine.World.{World}
use Rattle.ca_law_once.proofs.Once.ActedLemmas.{AreUnmet, unmet-acted}
use Rattle.ca_law_once.proofs.Once.FoundTolds.{found-delivered, found-same}
use Rattle.ca_law_once.proofs.Once.MailTolds.{Known, MailTold, silent-mail, turn-mail, verb-told}
use Rattle.ca_law_once.proofs.Once.RightLemmas.{AreRight, right-made}
use Rattle.ca_law_once.proofs.Once.ShapeLemmas.{Delivers, Meets, own-unmet}
use Rattle.ca_law_once.specs.OnceTold.{IsTold}
use Rattle.ca_law_once.proofs.Ties.TellLemmas.{own-unsent}
use Rattle.ca_law_once.specs.Ties.{TiedAfter, TurnAfter, sent_to}
use Rattle.ca_law_once.specs.Agrees.{acted_by, written_by}

-- what is known of an event beyond: how its marks are judged and carried, what they are, and what its answer found
pub record Marked (past : Past) (w : World) (event : Event) (ms : List Mark) : Type 0 where
  pub carried : each_mark has_its_packet (at_begin event past) ms ≡ true
  pub judged : each_mark is_judged (at_begin event past) ms ≡ true
  pub meets : Meets w event ms
  pub right : AreRight w ms

-- what an event makes of the ties: of a turn of the requester or responder its marks tell more
abbrev pub TiedFor : Direction → Correspondent → Correspondent → World → Link → Event → List Mark → World → Type 0
TiedFor d s r w l (events.Request queue lot) ms v = TurnAfter d s r w l ms v
TiedFor d s r w l (events.Respond queue lot) ms v = TurnAfter d s r w l ms v
TiedFor d s r w l event ms v = TiedAfter d s r w l (acted_by r w l event ms) (written_by r w l event ms) v

-- a link of which the same is told afterwards
pub record ToldAfter (d : Direction) (s r : Correspondent) (p : Past) (w : World) (l : Link) (acted written : ℕ → List ℕ) (v : World) : Type 0 where
  pub after : TiedAfter d s r w l acted written v
  pub told : IsTold d s r p v after.link

joined : (d : Direction) (s r : Correspondent) (past : Past) (w : World) (l : Link) (event : Event) (ms : List Mark) (v : World) (after : TiedAfter d s r w l (λ place. []) (λ place. []) v) → Known d s r past w l event ms v
    → Marked past w event ms → AreUnmet ms → MailTold s r (after_marks ms (at_begin event past)) after.link.requests → ToldAfter d s r (at_end (after_marks ms (at_begin event past))) w l (λ place. []) (λ place. []) v
joined d s r past w l event ms v after known marked unmet mail = record {
  after = after;
  told = record {
    tied = after.tied;
    sources = mail.sources;
    alone = mail.alone;
    found = found-same d s r past (after_marks ms (at_begin event past)) w v l (λ place. []) (λ place. []) after known.told (unmet-acted ms (at_begin event past) unmet (record {}) marked.carried marked.judged) (λ place. refl);
  };
}

-- marks of rows send nothing
silent-told : (d : Direction) (s r : Correspondent) (past : Past) (w : World) (l : Link) (event : Event) (ms : List Mark) (v : World) (after : TiedAfter d s r w l (λ place. []) (λ place. []) v) → Known d s r past w l event ms v
    → Marked past w event ms → AreOwn ms → ToldAfter d s r (at_end (after_marks ms (at_begin event past))) w l (λ place. []) (λ place. []) v
silent-told d s r past w l event ms v after known marked own = joined d s r past w l event ms v after known marked (own-unmet ms own)
    (silent-mail d s r past w l event ms v after.link.requests known (plain ms (own-inner ms own)) (λ n. own-unsent n ms own) after.requests)

turn-told : (d : Direction) (s r : Correspondent) (past : Past) (w : World) (l : Link) (event : Event) (ms : List Mark) (v : World) (turn : TurnAfter d s r w l ms v) → Known d s r past w l event ms v
    → Marked past w event ms → AreUnmet ms → ArePlain ms → ToldAfter d s r (at_end (after_marks ms (at_begin event past))) w l (λ place. []) (λ place. []) v
turn-told d s r past w l event ms v turn known marked unmet plain = joined d s r past w l event ms v turn.after known marked unmet (turn-mail d s r past w l event ms v turn known plain)

pub event-told : (d : Direction) (s r : Correspondent) (past : Past) (w : World) (l : Link) (event : Event) (ms : List Mark) (v : World) → Known d s r past w l event ms v → Marked past w event ms → TiedFor d s r w l event ms v
    → ToldAfter d s r (at_end (after_marks ms (at_begin event past))) w l (acted_by r w l event ms) (written_by r w l event ms) v
event-told d s r past w l (events.Verb by verb) [] v known marked after = absurd marked.meets.1
event-told d s r past w l (events.Verb by verb) (marks.Verb b other answer ∷ ms) v known marked after =
    joined d s r past w l (events.Verb by verb) (marks.Verb b other answer ∷ ms) v after known marked marked.meets.0
    (verb-told d s r past w l (events.Verb by verb) b other answer ms v after.link.requests known marked.meets.1.1 (λ made there. right-made w r.queue other answer marked.right made there) after.requests)
event-told d s r past w l (events.Verb by verb) (marks.Granted g ∷ ms) v known marked after = absurd marked.meets.1.0
event-told d s r past w l (events.Verb by verb) (marks.Revoked adapter key ∷ ms) v known marked after = absurd marked.meets.1.0
event-told d s r past w l (events.Verb by verb) (marks.Remote queue domain envelope key kind address count verdict ∷ ms) v known marked after = absurd marked.meets.1.0
event-told d s r past w l (events.Verb by verb) (marks.Local queue domain key kind address count verdict ∷ ms) v known marked after = absurd marked.meets.1.0
event-told d s r past w l (events.Verb by verb) (marks.Stored place bytes ∷ ms) v known marked after = absurd marked.meets.1.0
event-told d s r past w l (events.Verb by verb) (marks.Sent source target index request bytes ∷ ms) v known marked after = absurd marked.meets.1.0
event-told d s r past w l (events.Verb by verb) (marks.Lost target index ∷ ms) v known marked after = absurd marked.meets.1.0
event-told d s r past w l (events.Verb by verb) (marks.Arrived target index ∷ ms) v known marked after = absurd marked.meets.1.0
event-told d s r past w l (events.Verb by verb) (marks.Dropped target cause ∷ ms) v known marked after = absurd marked.meets.1.0
event-told d s r past w l (events.Verb by verb) (marks.Timer queue silent ∷ ms) v known marked after = absurd marked.meets.1.0
event-told d s r past w l (events.Verb by verb) (marks.Done queue x cause ∷ ms) v known marked after = absurd marked.meets.1.0
event-told d s r past w l (events.Request queue lot) ms v known marked after = turn-told d s r past w l (events.Request queue lot) ms v after known marked marked.meets.0 marked.meets.1
event-told d s r past w l (events.Respond queue lot) ms v known marked after = turn-told d s r past w l (events.Respond queue lot) ms v after known marked marked.meets.0 marked.meets.1
event-told d s r past w l (events.Timeout queue hasten) ms v known marked after = silent-told d s r past w l (events.Timeout queue hasten) ms v after known marked marked.meets
event-told d s r past w l (events.RnrWake queue) ms v known marked after = silent-told d s r past w l (events.RnrWake queue) ms v after known marked marked.meets
event-told d s r past w l (events.Deliver name index) ms v known marked after = record {
  after = after;
  told = record {
    tied = after.tied;
    sources = mail.sources;
    alone = mail.alone;
    found = found-delivered d s r past w v l (events.Deliver name index) name index ms after known.told known.paths marked.meets marked.carried marked.judged;
  };
}
  where
    delivers : Delivers w name index ms
    delivers = marked.meets

    inner : AreInner ms
    inner = subst AreInner (sym delivers.are) (record {}, own-inner delivers.rest delivers.own)

    mail : MailTold s r (after_marks ms (at_begin (events.Deliver name index) past)) after.link.requests
    mail = silent-mail d s r past w l (events.Deliver name index) ms v after.link.requests known (plain ms inner) (λ n. ap (sent_to n) delivers.are ∙ own-unsent n delivers.rest delivers.own) after.requests
