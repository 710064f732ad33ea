-- Verbs that change no queue pair and no mailbox keep a world tied to a link.
use Rattle.std.proofs.Common.{◌≡◌, ℕ, List, [], ap, refl, rules}
use Rattle.ca_law_endings.proofs.LeadsLemmas.{comes, leads-weaker}
use Rattle.ca_law_endings.specs.Runs.{Comes, Leads}
use Rattle.ca_base.specs.Configuration.{Configuration}
use Rattle.ca_base.specs.declared.correspondent.Correspondent.{Correspondent}
use Rattle.ca_base.specs.objects.Mailbox.{Mailbox}
use Rattle.ca_base.specs.objects.QueuePair.{QueueSlot}
use Rattle.ca_connection.specs.Layout.{Direction}
use Rattle.ca_connection.specs.Link.{Link}
use Rattle.ca_keys.specs.declared.names.QueueId.{QueueId}
use Rattle.ca_model.specs.declared.event.Event.TheVariants as events
use Rattle.ca_model.specs.declared.mark.Mark.{Mark}
use Rattle.ca_model.specs.declared.verb.Verb.{Verb}
use Rattle.ca_model.specs.declared.verb.Verb.TheVariants as verbs
use Rattle.ca_model.specs.machine.Step.{plan, step, verb_plan}
use Rattle.ca_model.specs.machine.VerbAnswers.{Call}
use Rattle.ca_model.specs.machine.World.{World}
use Rattle.ca_law_once.proofs.Ties.QuietLemmas.{joined-neither}
use Rattle.ca_law_once.specs.Ties.{IsTied, LeavesPairs, TiedAfter}

-- the queue pairs and the mailboxes of another world are the same
abbrev Leaves : World → World → List Mark → Type 0
Leaves w v ms = (v.queue ≡ w.queue) × (v.mailbox ≡ w.mailbox)

leaves-verb : (c : Configuration) (w : World) (call : Call) (verb : Verb) → LeavesPairs verb → (w.queue ≡ w.queue) × (w.mailbox ≡ w.mailbox) → Leads w (Leaves w) (verb_plan c call verb)
leaves-verb c w call (verbs.AllocPd domain) aside same = search (rules, same)
leaves-verb c w call (verbs.DeallocPd domain) aside same = search (rules, same)
leaves-verb c w call (verbs.RegMr slot buffer offset count rights) aside same = search (rules, same)
leaves-verb c w call (verbs.AllocMr slot pages) aside same = search (rules, same)
leaves-verb c w call (verbs.DeregMr slot) aside same = search (rules, same)
leaves-verb c w call (verbs.AllocMw slot kind) aside same = search (rules, same)
leaves-verb c w call (verbs.DeallocMw slot) aside same = absurd aside
leaves-verb c w call (verbs.CreateCq slot capacity) aside same = search (rules, same)
leaves-verb c w call (verbs.DestroyCq slot) aside same = search (rules, same)
leaves-verb c w call (verbs.CreateSrq slot depth) aside same = search (rules, same)
leaves-verb c w call (verbs.DestroySrq slot) aside same = search (rules, same)
leaves-verb c w call (verbs.CreateQp slot send_cq recv_cq send_depth recv_depth srq) aside same = absurd aside
leaves-verb c w call (verbs.ModifyQp slot change) aside same = absurd aside
leaves-verb c w call (verbs.QueryQp slot) aside same = search (rules, same)
leaves-verb c w call (verbs.DestroyQp slot) aside same = absurd aside
leaves-verb c w call (verbs.PostSend slot request) aside same = absurd aside
leaves-verb c w call (verbs.PostRecv slot request) aside same = absurd aside
leaves-verb c w call (verbs.PostSrq slot request) aside same = search (rules, same)
leaves-verb c w call (verbs.Poll slot n least) aside same = absurd aside
leaves-verb c w call (verbs.Store adapter buffer offset bytes) aside same = search (rules, same)
leaves-verb c w call (verbs.Load adapter buffer offset count) aside same = search (rules, same)
leaves-verb c w call (verbs.Inject queue bytes) aside same = absurd aside

pub aside-ties : (d : Direction) (s r : Correspondent) (c : Configuration) (w : World) (l : Link) (by : ℕ) (verb : Verb) → LeavesPairs verb → IsTied d s r w l
    → Comes (λ v ms. TiedAfter d s r w l (λ place. []) (λ place. []) v) (step c w (events.Verb by verb))
aside-ties d s r c w l by verb aside tied = comes w (λ v ms. TiedAfter d s r w l (λ place. []) (λ place. []) v) (plan c (events.Verb by verb))
    (leads-weaker w (Leaves w) (λ v ms. TiedAfter d s r w l (λ place. []) (λ place. []) v) (plan c (events.Verb by verb))
    (λ v ms same. joined-neither d s r w v l tied (ap (λ (f : QueueId → QueueSlot). f r.queue) same.0) (ap (λ (f : QueueId → Mailbox). f r.queue) same.1)
    (ap (λ (f : QueueId → QueueSlot). f s.queue) same.0) (ap (λ (f : QueueId → Mailbox). f s.queue) same.1))
    ((λ named. leaves-verb c w (record { by = by; verb = verb }) verb aside (refl, refl)), λ none. (refl, refl)))
