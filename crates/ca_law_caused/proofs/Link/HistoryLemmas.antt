-- Every history that follows the machine is Caused. For proofs only.
use Rattle.std.proofs.Common.{◌≡◌, true, List, [], ◌∷◌, refl}
use Rattle.std.proofs.lemmas.Bool.{and_parts}
use Rattle.std.specs.List.{AllByRecursion}
use Rattle.ca_law_keys.proofs.Posts.GrantLemmas.{both-true}
use Rattle.ca_base.specs.Configuration.{Configuration}
use Rattle.ca_base.specs.declared.completion.Completion.{Completion}
use Rattle.ca_base.specs.declared.completion.WcStatus.{WcStatus}
use Rattle.ca_base.specs.declared.completion.WcStatus.TheVariants as statuses
use Rattle.ca_law_caused.proofs.Caused.EventLemmas.{complete-with-causes}
use Rattle.ca_law_caused.proofs.Caused.RestLemmas.{causes-and-rest}
use Rattle.ca_law_caused.proofs.Link.MisfitLemmas.{answers-fit}
use Rattle.ca_law_caused.proofs.Link.PeerLemmas.{first-entry, peers-have-reasons}
use Rattle.ca_law_caused.specs.Linked.{completes_so, has_misfit_unclean, has_peers_reason}
use Rattle.ca_law_caused.proofs.Lists.HistoryLemmas.{complete-by-lists}
use Rattle.ca_law_caused.proofs.Lists.LinkLemmas.{lists-and-link}
use Rattle.ca_law_caused.specs.Listed.{DoHaveTheLink, completes_by_link, has_link_cause}
use Rattle.ca_keys.specs.Memory.{ByteMap}
use Rattle.ca_model.specs.Caused.{Caused}
use Rattle.ca_model.specs.Entries.{EntryValue}
use Rattle.ca_model.specs.Past.{Past, after_entry, after_mark, at_begin, each_entry, each_mark, opening_past}
use Rattle.ca_model.specs.declared.mark.Mark.{Mark}
use Rattle.ca_model.specs.declared.mark.Mark.TheVariants as marks
use Rattle.ca_model.specs.machine.Run.{Follows}
use Rattle.ca_model.specs.machine.Sound.{AreLimited, CanBeMade}

-- ---- the two causes that speak of the link

link-cause : (s : Past) (x : Completion) (status : WcStatus) → has_peers_reason s x status ≡ true → has_misfit_unclean s x status ≡ true → has_link_cause s x status ≡ true
link-cause s x statuses.RemoteInvalidRequest reason unclean = reason
link-cause s x statuses.RemoteAccess reason unclean = reason
link-cause s x statuses.RemoteOperation reason unclean = reason
link-cause s x statuses.BadResponse reason unclean = unclean
link-cause s x statuses.Success reason unclean = refl
link-cause s x statuses.LocalLength reason unclean = refl
link-cause s x statuses.LocalProtection reason unclean = refl
link-cause s x statuses.MemoryManagement reason unclean = refl
link-cause s x statuses.RetryExceeded reason unclean = refl
link-cause s x statuses.RnrRetryExceeded reason unclean = refl
link-cause s x statuses.Flushed reason unclean = refl

link-mark : (s : Past) (m : Mark) → completes_so has_peers_reason s m ≡ true → completes_so has_misfit_unclean s m ≡ true → completes_by_link s m ≡ true
link-mark s (marks.Done queue x cause) reason unclean = link-cause s x x.status reason unclean
link-mark s (marks.Verb by verb answer) reason unclean = refl
link-mark s (marks.Sent source target index request bytes) reason unclean = refl
link-mark s (marks.Lost target index) reason unclean = refl
link-mark s (marks.Arrived target index) reason unclean = refl
link-mark s (marks.Dropped target cause) reason unclean = refl
link-mark s (marks.Timer queue silent) reason unclean = refl
link-mark s (marks.Granted g) reason unclean = refl
link-mark s (marks.Revoked adapter key) reason unclean = refl
link-mark s (marks.Remote queue domain envelope key kind address count verdict) reason unclean = refl
link-mark s (marks.Local queue domain key kind address count verdict) reason unclean = refl
link-mark s (marks.Stored place bytes) reason unclean = refl

link-marks : (s : Past) (ms : List Mark) → each_mark (completes_so has_peers_reason) s ms ≡ true → each_mark (completes_so has_misfit_unclean) s ms ≡ true → each_mark completes_by_link s ms ≡ true
link-marks s [] reason unclean = refl
link-marks s (m ∷ ms) reason unclean = both-true (completes_by_link s m) _
    (link-mark s m (and_parts (completes_so has_peers_reason s m) _ reason).0 (and_parts (completes_so has_misfit_unclean s m) _ unclean).0)
    (link-marks (after_mark m s) ms (and_parts (completes_so has_peers_reason s m) _ reason).1 (and_parts (completes_so has_misfit_unclean s m) _ unclean).1)

link-entries : (past : Past) (es : List EntryValue) → each_entry (completes_so has_peers_reason) (λ p. true) past es ≡ true → each_entry (completes_so has_misfit_unclean) (λ p. true) past es ≡ true
    → each_entry completes_by_link (λ p. true) past es ≡ true
link-entries past [] reason unclean = refl
link-entries past (e ∷ es) reason unclean = let one = first-entry (completes_so has_peers_reason) past e es reason in let other = first-entry (completes_so has_misfit_unclean) past e es unclean in
    both-true _ _ (both-true (each_mark completes_by_link (at_begin e.event past) e.marks) true (link-marks (at_begin e.event past) e.marks one.0 other.0) refl) (link-entries (after_entry e past) es one.1 other.1)

-- ---- a history

pub have-the-link : (c : Configuration) (bytes : ByteMap) (es : List EntryValue) → AreLimited c → AllByRecursion (λ e. CanBeMade e.event) es → Follows c bytes es → DoHaveTheLink bytes es
have-the-link c bytes es limited made follows = link-entries (opening_past bytes) es (peers-have-reasons c bytes es limited made follows) (answers-fit c bytes es limited made follows)

pub caused-along : (c : Configuration) (bytes : ByteMap) (es : List EntryValue) → AreLimited c → AllByRecursion (λ e. CanBeMade e.event) es → Follows c bytes es → Caused bytes es
caused-along c bytes es limited made follows = causes-and-rest bytes es (complete-with-causes c bytes es limited made follows)
    (lists-and-link bytes es (complete-by-lists c bytes es limited made follows) (have-the-link c bytes es limited made follows))
