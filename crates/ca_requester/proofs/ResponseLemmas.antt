-- What a response makes: the row of an acknowledgement that went on, and the request that an answer fits.
use Rattle.std.proofs.Common.{◌≡◌, ℕ, refl, subst, sym, ap, ◌∙◌, Bool, true, false, if◌then◌else◌, [], Option, None, Some}
use Rattle.std.specs.Option.{option_and_then}
use Rattle.ca_base.specs.declared.queue_numbers.RequesterNumbers.{RequesterNumbers}
use Rattle.ca_base.specs.declared.completion.WcStatus.TheVariants.{BadResponse}
use Rattle.ca_base.specs.objects.QueuePair.{QueuePair}
use Rattle.ca_wire.specs.Packet.{Fields}
use Rattle.ca_model.specs.machine.Acknowledgements.{acknowledgement_below, and_then, failure_effects, one_retry, progress_to}
use Rattle.ca_model.specs.machine.Expected.{behind_marks}
use Rattle.ca_model.specs.machine.Numbering.{Numbered, has_psn, request_at}
use Rattle.ca_model.specs.machine.Responses.{answer_row, fits_request, fitting_row, unless_back}
use Rattle.ca_model.specs.machine.Row.{Effects, Row, plain_row, Does}
use Rattle.ca_requester.specs.Progress.{IsAcknowledged, IsOldest, IsProgress, acknowledgement_of, if_has_psn, numbers_behind}
use Rattle.ca_requester.specs.Responses.{bad_answer_effects, if_fits}
use Rattle.ca_requester.specs.declared.progress.Acknowledged.{Acknowledged}
use Rattle.ca_requester_sends.proofs.OutcomeLemmas.{is_ahead}
use Rattle.ca_requester_sends.specs.Finished.{IsAhead, success_between}
use Rattle.ca_requester_sends.specs.Outcome.{IsUnder, Makes, effects_behind, failure_of, numbers_of}
use Rattle.ca_requester_sends.specs.declared.outcome.Outcome.{Outcome}
use Rattle.ca_requester_sends.specs.declared.outcome.Outcome.TheVariants.{Fails}

-- what is acknowledged completes, and then comes an outcome under the numbers behind it
makes-then : (q : QueuePair) (until : ℕ) (numbers : RequesterNumbers) (f : QueuePair → Effects) (o : Outcome)
    → IsProgress until q.requester numbers q → IsUnder numbers f o → effects_behind [] o q ≡ and_then (progress_to until q) f
makes-then q until numbers f o progress under =
    ap (λ x. behind_marks (success_between q.requester.oldest (numbers_of o).oldest q) x) (under.effects q)
    ∙ ap (λ x. behind_marks (success_between q.requester.oldest (numbers_of o).oldest q) (f x)) progress.queue
    ∙ sym (ap (λ ms. behind_marks ms (f (progress_to until q).queue))
    (progress.finished ∙ ap (λ place. success_between q.requester.oldest place q) (sym under.oldest)))

ahead-of : (q : QueuePair) (until : ℕ) (numbers : RequesterNumbers) (f : QueuePair → Effects) (o : Outcome)
    → IsProgress until q.requester numbers q → IsUnder numbers f o → IsAhead (numbers_of o).oldest q
ahead-of q until numbers f o progress under = is_ahead q numbers (numbers_of o).oldest progress.may under.oldest

-- the numbers are those behind an acknowledgement
under-numbers : (q : QueuePair) (a : Acknowledged) (numbers : RequesterNumbers) → numbers ≡ numbers_behind a q
    → IsProgress a.until q.requester (numbers_behind a q) q → IsProgress a.until q.requester numbers q
under-numbers q a numbers e progress = rw e progress

-- an implied NAK
pub makes_back : (q : QueuePair) (a : Acknowledged) (numbers : RequesterNumbers) (o : Outcome) → numbers ≡ numbers_behind a q
    → IsProgress a.until q.requester (numbers_behind a q) q → IsUnder numbers (one_retry a.until) o
    → Makes (acknowledgement_of true a.until q).effects q o
makes_back q a numbers o e progress under = record {
  ahead = ahead-of q a.until numbers (one_retry a.until) o (under-numbers q a numbers e progress) under;
  effects = makes-then q a.until numbers (one_retry a.until) o (under-numbers q a numbers e progress) under;
}

-- how an acknowledgement is, by whether it went back
by-back : (q : QueuePair) (psn : ℕ) (a : Acknowledged) (back : Bool) → IsAcknowledged psn q a → a.went_back ≡ back
    → acknowledgement_below psn q ≡ acknowledgement_of back a.until q
by-back q psn a back is e = is.makes ∙ ap (λ b. acknowledgement_of b a.until q) e

pub makes_unless : (q : QueuePair) (psn : ℕ) (a : Acknowledged) (f : QueuePair → Effects) (o : Outcome) → IsAcknowledged psn q a → a.went_back ≡ true
    → Makes (acknowledgement_of true a.until q).effects q o → Makes (unless_back (acknowledgement_below psn q) f) q o
makes_unless q psn a f o is back makes = record {
  ahead = makes.ahead;
  effects = makes.effects ∙ sym (ap (λ x. unless_back x f) (by-back q psn a true is back));
}

pub makes_on : (q : QueuePair) (psn : ℕ) (a : Acknowledged) (numbers : RequesterNumbers) (f : QueuePair → Effects) (o : Outcome)
    → IsAcknowledged psn q a → a.went_back ≡ false → numbers ≡ numbers_behind a q → IsUnder numbers f o
    → Makes (unless_back (acknowledgement_below psn q) f) q o
makes_on q psn a numbers f o is on e under = record {
  ahead = ahead-of q a.until numbers f o (under-numbers q a numbers e is.progress) under;
  effects =
      makes-then q a.until numbers f o (under-numbers q a numbers e is.progress) under
      ∙ sym (ap (λ x. unless_back x f) (by-back q psn a false is on));
}

-- an answer that does not fit its request
pub makes_bad : (q : QueuePair) (a : Acknowledged) (numbers : RequesterNumbers) (o : Outcome) → numbers ≡ numbers_behind a q
    → IsProgress a.until q.requester (numbers_behind a q) q → o ≡ Fails (failure_of numbers BadResponse) → Makes (bad_answer_effects a.until q) q o
makes_bad q a numbers o e progress fails = record {
  ahead = ahead-of q a.until numbers (failure_effects BadResponse None) o (under-numbers q a numbers e progress) under;
  effects = makes-then q a.until numbers (failure_effects BadResponse None) o (under-numbers q a numbers e progress) under;
}
  where
    under : IsUnder numbers (failure_effects BadResponse None) o
    under = rw fails (record { effects = λ q. refl; oldest = refl })

-- the row of an answer, by the request that it fits
abbrev fitted : ℕ → Fields → Effects → Option Numbered → Row
fitted psn p e (Some n) = answer_row psn p e n
fitted psn p e None = plain_row (Does (and_then e (failure_effects BadResponse None)))

by-fitting : (psn : ℕ) (p : Fields) (e : Effects) → fitting_row psn p (record { effects = e; went_back = false }) ≡ fitted psn p e (if_fits psn p e.queue (request_at psn e.queue))
by-fitting psn p e = by (request_at psn e.queue)
  where
    row : Option Numbered → Row
    row None = plain_row (Does (and_then e (failure_effects BadResponse None)))
    row (Some n) =
        if fits_request psn p e.queue n then answer_row psn p e n
        else plain_row (Does (and_then e (failure_effects BadResponse None)))

    one : (n : Numbered) (b : Bool) → (if b then answer_row psn p e n else plain_row (Does (and_then e (failure_effects BadResponse None))))
        ≡ fitted psn p e (if b then Some n else None)
    one n true = refl
    one n false = refl

    by : (n : Option Numbered) → row n ≡ fitted psn p e (option_and_then (λ n. if fits_request psn p e.queue n then Some n else None) n)
    by None = refl
    by (Some n) = one n (fits_request psn p e.queue n)

-- the row of an answer that is an implied NAK
pub row_back : (q : QueuePair) (psn : ℕ) (p : Fields) (a : Acknowledged) → IsAcknowledged psn q a → a.went_back ≡ true
    → fitting_row psn p (acknowledgement_below psn q) ≡ plain_row (Does (acknowledgement_of true a.until q).effects)
row_back q psn p a is back = ap (λ x. fitting_row psn p x) (by-back q psn a true is back)

-- the row of another answer, by the request that it fits
row-on : (q : QueuePair) (psn : ℕ) (p : Fields) (a : Acknowledged) (oldest o : Option Numbered) → IsAcknowledged psn q a → a.went_back ≡ false
    → IsOldest psn q a oldest → o ≡ if_fits psn p q (if_has_psn psn oldest)
    → fitting_row psn p (acknowledgement_below psn q) ≡ fitted psn p (progress_to psn q) o
row-on q psn p a oldest o is on old fits =
    ap (λ x. fitting_row psn p x) (by-back q psn a false is on ∙ ap (λ u. acknowledgement_of false u q) (is.on on))
    ∙ by-fitting psn p (progress_to psn q)
    ∙ sym (ap (λ x. fitted psn p (progress_to psn q) x)
    (fits ∙ ap (λ n. if_fits psn p q n) (old.has on) ∙ ap (λ x. if_fits psn p x (request_at psn x)) (is.progress.queue ∙ ap (λ u. (progress_to u q).queue) (is.on on))))

-- the row of an answer that does not fit its request
pub row_fails : (q : QueuePair) (psn : ℕ) (p : Fields) (a : Acknowledged) (oldest o : Option Numbered) → IsAcknowledged psn q a → a.went_back ≡ false
    → IsOldest psn q a oldest → o ≡ if_fits psn p q (if_has_psn psn oldest) → o ≡ None
    → fitting_row psn p (acknowledgement_below psn q) ≡ plain_row (Does (bad_answer_effects a.until q))
row_fails q psn p a oldest o is on old fits none =
    row-on q psn p a oldest o is on old fits
    ∙ ap (λ x. fitted psn p (progress_to psn q) x) none
    ∙ ap (λ u. plain_row (Does (bad_answer_effects u q))) (sym (is.on on))

-- an answer that fits its request, the oldest unfinished one, with the row that it is
pub record IsFitting (q : QueuePair) (psn : ℕ) (p : Fields) (a : Acknowledged) (n : Numbered) (row : Row) : Type 0 where
  pub progress : IsProgress psn q.requester (numbers_behind a q) q
  pub until : a.until ≡ psn
  pub is : row ≡ answer_row psn p (progress_to psn q) n

pub is_fit : (q : QueuePair) (psn : ℕ) (p : Fields) (a : Acknowledged) (oldest o : Option Numbered) (n : Numbered) → IsAcknowledged psn q a → a.went_back ≡ false
    → IsOldest psn q a oldest → o ≡ if_fits psn p q (if_has_psn psn oldest) → o ≡ Some n
    → IsFitting q psn p a n (fitting_row psn p (acknowledgement_below psn q))
is_fit q psn p a oldest o n is on old fits some = record {
  progress = subst (λ u. IsProgress u q.requester (numbers_behind a q) q) (is.on on) is.progress;
  until = is.on on;
  is = row-on q psn p a oldest o is on old fits ∙ ap (λ x. fitted psn p (progress_to psn q) x) some;
}

-- the oldest request, if it has a PSN and a response fits it
pub fits_all : (psn : ℕ) (p : Fields) (q : QueuePair) (n : Numbered) → has_psn psn n ≡ true → fits_request psn p q n ≡ true
    → Some n ≡ if_fits psn p q (if_has_psn psn (Some n))
fits_all psn p q n has fits = rw (has, fits) refl

pub fits_not : (psn : ℕ) (p : Fields) (q : QueuePair) (n : Numbered) → has_psn psn n ≡ true → fits_request psn p q n ≡ false
    → None ≡ if_fits psn p q (if_has_psn psn (Some n))
fits_not psn p q n has fits = rw (has, fits) refl

pub has_not : (psn : ℕ) (p : Fields) (q : QueuePair) (n : Numbered) → has_psn psn n ≡ false → None ≡ if_fits psn p q (if_has_psn psn (Some n))
has_not psn p q n has = rw has refl
