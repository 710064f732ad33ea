-- What comes of an answer: the marks of what is finished before it, of its bytes, and of what is finished behind it.
use Rattle.std.proofs.Common.{◌≡◌, ℕ, ◌+◌, ◌-◌, ◌≤◌, ◌<◌, get_or, suc, refl, sym, ap, subst, ◌∙◌, arith, List, [], ◌∷◌, ◌++◌, length, None, Some, Result, Ok, Err}
use Rattle.std.specs.List.{AllByRecursion}
use Rattle.ca_keys.specs.declared.access.Ask.{Ask}
use Rattle.ca_keys.specs.declared.access.Kind.TheVariants as kinds
use Rattle.ca_base.specs.Sight.{Sight, first_denied}
use Rattle.ca_base.specs.declared.completion.WcStatus.TheVariants.{LocalProtection}
use Rattle.ca_base.specs.declared.denied_ask.DeniedAsk.{DeniedAsk}
use Rattle.ca_base.specs.declared.limits.TheConstants.{MAX_PIECES}
use Rattle.ca_base.specs.declared.queue_numbers.RequesterNumbers.{RequesterNumbers}
use Rattle.ca_base.specs.objects.QueuePair.{QueuePair}
use Rattle.ca_requester_sends.specs.ca_grant.Reaching.{AreAtHand}
use Rattle.ca_model.specs.Marks.{MarkList}
use Rattle.ca_model.specs.declared.mark.Mark.{Mark}
use Rattle.ca_model.specs.declared.marks.TheConstants.{SPARE_MARKS}
use Rattle.ca_model.specs.machine.Acknowledgements.{failure_effects, progress_to, with_requester}
use Rattle.ca_model.specs.machine.Expected.{behind_marks}
use Rattle.ca_model.specs.machine.Numbering.{Numbered}
use Rattle.ca_model.specs.machine.Requester.{local_denial}
use Rattle.ca_model.specs.machine.Responses.{answer_asks, answer_bytes, local_writes, writes_by}
use Rattle.ca_model.specs.machine.Row.{Does, Effects, Ending, Row, ending_of}
use Rattle.ca_wire.specs.Packet.{Fields}
use Rattle.ca_requester.proofs.ResponseLemmas.{IsFitting}
use Rattle.ca_requester.specs.Progress.{IsProgress, numbers_behind}
use Rattle.ca_requester.specs.declared.progress.Acknowledged.{Acknowledged}
use Rattle.ca_requester.specs.Responses.{CanWriteBy, answer_effects, denied_effects}
use Rattle.ca_requester_sends.specs.ca_qp_rows.Asks.{AreAsksFor, IsGranted}
use Rattle.ca_requester_sends.proofs.of_ca_qp_rows.AskLemmas.{whole}
use Rattle.ca_requester_sends.proofs.of_ca_qp_rows.WriteLemmas.{can_write, marks-count}
use Rattle.ca_requester_sends.specs.ca_qp_rows.Made.{AreAdded, HasMade, IsMade, IsTaking}
use Rattle.ca_requester_sends.proofs.FinishedLemmas.{added_behind, few_finished}
use Rattle.ca_requester_sends.specs.Finished.{success_between}
use Rattle.ca_requester_sends.specs.Outcome.{effects_behind, failure_of}
use Rattle.ca_requester_sends.specs.declared.outcome.Outcome.TheVariants.{Fails}

-- in the room that was reserved come the completions of what is finished before an answer, the marks of its bytes, and the
-- completions of what is finished with it
pub has_answered : (q after : QueuePair) (psn : ℕ) (bytes : List ℕ) (asks : List Ask) (before numbers : RequesterNumbers)
    (old reserved one two new : MarkList) → IsProgress psn q.requester before q → IsProgress (suc psn) before numbers q
    → reserved.marks ≡ old.marks
    → numbers.oldest - q.requester.oldest + length asks + SPARE_MARKS ≤ reserved.room
    → AreAdded (success_between q.requester.oldest before.oldest q) reserved one → AreAdded (local_writes (writes_by asks bytes)) one two
    → AreAdded (success_between before.oldest numbers.oldest q) two new → after ≡ with_requester numbers q
    → HasMade (answer_effects psn bytes asks q) after old new
has_answered q after psn bytes asks before numbers old reserved one two new below progress same room a b c is = record {
  queue = is ∙ progress.queue ∙ ap (λ x. (progress_to (suc psn) x).queue) below.queue;
  marks =
      all.marks
      ∙ ap (λ ms. ms ++ (success_between q.requester.oldest before.oldest q ++ (written ++ success_between before.oldest numbers.oldest q))) same
      ∙ ap (λ ms. old.marks ++ (ms ++ (written ++ success_between before.oldest numbers.oldest q))) (sym below.finished)
      ∙ ap (λ ms. old.marks ++ ((progress_to psn q).marks ++ (written ++ ms))) behind;
  room = omega (
    arith,
    room,
    a.room,
    b.room,
    c.room,
    progress.later,
    below.later,
    marks-count asks bytes,
    few_finished q q.requester.oldest before.oldest,
    few_finished q before.oldest numbers.oldest,
  );
}
  where
    written : List Mark
    written = local_writes (writes_by asks bytes)

    all : AreAdded (success_between q.requester.oldest before.oldest q ++ (written ++ success_between before.oldest numbers.oldest q)) reserved new
    all = added_behind {before = reserved} {between = one} {after = new} a (added_behind {before = one} {between = two} {after = new} b c)

    behind : success_between before.oldest numbers.oldest q ≡ (progress_to (suc psn) (progress_to psn q).queue).marks
    behind = sym progress.finished ∙ ap (λ x. (progress_to (suc psn) x).marks) below.queue

-- the list of an answer's request is denied
pub denied_makes : (q : QueuePair) (psn : ℕ) (numbers : RequesterNumbers) (d : DeniedAsk) → IsProgress psn q.requester numbers q
    → effects_behind (local_denial d ∷ []) (Fails (failure_of numbers LocalProtection)) q ≡ denied_effects psn d q
denied_makes q psn numbers d progress =
    ap (λ x. behind_marks (success_between q.requester.oldest numbers.oldest q) (behind_marks (local_denial d ∷ []) (failure_effects LocalProtection None x)))
    progress.queue
    ∙ sym (ap (λ ms. behind_marks ms (behind_marks (local_denial d ∷ []) (failure_effects LocalProtection None (progress_to psn q).queue))) progress.finished)

-- what holds of all of some asks holds of the first
pub at-first : (P : Ask → Type 0) (d : Ask) (asks : List Ask) → 1 ≤ length asks → AllByRecursion P asks → P (get_or asks 0 d)
at-first P d asks some all = (subst (λ (xs : List Ask). AllByRecursion P xs) (sym (whole d asks some)) all).0

-- fewer asks than one are none
pub none-below : (asks : List Ask) → length asks < 1 → asks ≡ []
none-below [] few = refl
none-below (ask ∷ asks) few = grind (arith, few)

-- bytes may be written by the asks of a row, which are at hand and allowed
pub can_write_by : {S : Type 0} (sight : S → Sight) (judges touches : S → Ask → Type 0) (reach : S) (asks rows : List Ask) (bytes : List ℕ)
    → asks ≡ rows → AreAtHand sight judges touches reach rows → AreAsksFor kinds.Write (length bytes) asks
    → length asks ≤ MAX_PIECES → first_denied (sight reach) asks ≡ None → AllByRecursion (IsGranted (sight reach)) asks
    → CanWriteBy sight judges touches reach asks bytes
can_write_by sight judges touches reach asks rows bytes same at are few none granted = record {
  few = few;
  enough = are.touched;
  can = can_write sight judges touches reach asks bytes (subst (AllByRecursion (judges reach)) (sym same) at.keys)
      (subst (AllByRecursion (touches reach)) (sym same) (at.bytes (ap (first_denied (sight reach)) (sym same) ∙ none))) granted are;
}

-- the asks of an answer, behind what it acknowledges
asks-behind : (q : QueuePair) (psn : ℕ) (p : Fields) (n : Numbered) (numbers : RequesterNumbers) → IsProgress psn q.requester numbers q
    → answer_asks psn p q n ≡ answer_asks psn p (progress_to psn q).queue n
asks-behind q psn p n numbers progress = ap (λ x. answer_asks psn p x n) progress.queue

pub row_asks : (q : QueuePair) (psn : ℕ) (p : Fields) (a : Acknowledged) (n : Numbered) (row : Row) → IsFitting q psn p a n row
    → answer_asks psn p q n ≡ row.asks
row_asks q psn p a n row fit = asks-behind q psn p n (numbers_behind a q) fit.progress ∙ sym (ap (λ (r : Row). r.asks) fit.is)

-- how the row of an answer ends, where its list is denied and where it is not
pub ends_denied : (s : Sight) (q : QueuePair) (psn : ℕ) (p : Fields) (a : Acknowledged) (n : Numbered) (row : Row) (asks : List Ask) (d : DeniedAsk)
    → IsFitting q psn p a n row → asks ≡ answer_asks psn p q n → first_denied s asks ≡ Some d → ending_of s row ≡ Does (denied_effects a.until d q)
ends_denied s q psn p a n row asks d fit same denied =
    ap (ending_of s) fit.is
    ∙ rw (sym (ap (first_denied s) (same ∙ asks-behind q psn p n (numbers_behind a q) fit.progress)) ∙ denied) refl
    ∙ ap (λ u. Does (denied_effects u d q)) (sym fit.until)

pub ends_allowed : (s : Sight) (q : QueuePair) (psn : ℕ) (p : Fields) (a : Acknowledged) (n : Numbered) (row : Row) (asks : List Ask)
    → IsFitting q psn p a n row → asks ≡ answer_asks psn p q n → first_denied s asks ≡ None
    → ending_of s row ≡ Does (answer_effects a.until (answer_bytes p) asks q)
ends_allowed s q psn p a n row asks fit same none =
    ap (ending_of s) fit.is
    ∙ rw (sym (ap (first_denied s) (same ∙ asks-behind q psn p n (numbers_behind a q) fit.progress)) ∙ none) refl
    ∙ ap (λ (xs : List Ask). Does (answer_effects psn (answer_bytes p) xs q)) (sym (same ∙ asks-behind q psn p n (numbers_behind a q) fit.progress))
    ∙ ap (λ u. Does (answer_effects u (answer_bytes p) asks q)) (sym fit.until)

-- what was made is what a packet's row ends with
pub taken_plain : {S A E : Type 0} (written : S → Ask → List ℕ → S) (r : Result A E) (ending : Ending) (e : Effects) (q after : QueuePair) (old new : MarkList) (reach : S)
    → ending ≡ Does e → e.writes ≡ [] → IsMade r e q after old new → IsTaking written r ending q after old new reach reach
taken_plain written (Ok done) ending e q after old new reach is none made = rw is (made, rw none refl)
taken_plain written (Err error) ending e q after old new reach is none made = (made, refl)

pub taken_by : {S A E : Type 0} (written : S → Ask → List ℕ → S) (r : Result A E) (ending : Ending) (e : Effects) (q after : QueuePair) (old new : MarkList) (reach reached : S)
    → ending ≡ Does e → IsTaking written r (Does e) q after old new reach reached → IsTaking written r ending q after old new reach reached
taken_by written r ending e q after old new reach reached is made = rw is made
