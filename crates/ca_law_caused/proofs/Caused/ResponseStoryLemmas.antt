-- The stories of failures and of responses. For proofs only.
use Rattle.std.proofs.Common.{◌≡◌, ℕ, suc, ◌≤◌, ◌<◌, ◌==◌, ◌&&◌, nat_le, nat_lt, Bool, true, false, not, if◌then◌else◌, List, [], ◌∷◌, ◌++◌, Option, None, Some, refl, ap, sym, subst, ◌∙◌, arith}
use Rattle.std.proofs.lemmas.Bool.Decides.{nat_tests}
use Rattle.std.proofs.lemmas.Bool.{and_parts, not-false}
use Rattle.std.proofs.lemmas.List.{append_assoc}
use Rattle.std.specs.List.{list_any}
use Rattle.std.specs.Option.{option_and_then}
use Rattle.std.specs.Prelude.{flat_map}
use Rattle.ca_base.specs.declared.change.State.TheVariants as states
use Rattle.ca_base.specs.declared.completion.WcStatus.{WcStatus}
use Rattle.ca_base.specs.declared.completion.WcStatus.TheVariants.{BadResponse, LocalProtection, RemoteAccess, RemoteInvalidRequest, RemoteOperation, RetryExceeded, RnrRetryExceeded}
use Rattle.ca_base.specs.declared.denied_ask.DeniedAsk.{DeniedAsk}
use Rattle.ca_base.specs.declared.limits.TheConstants.{MAX_RETRY}
use Rattle.ca_base.specs.declared.refusals.OpRefusal.{OpRefusal}
use Rattle.ca_base.specs.declared.request.PostedSend.{PostedSend}
use Rattle.ca_base.specs.objects.QueuePair.{QueuePair}
use Rattle.ca_base.specs.objects.StateTable.{is_among}
use Rattle.ca_law_caused.proofs.Caused.AskLemmas.{asked-by, is_by_list}
use Rattle.ca_law_caused.proofs.Caused.OldestLemmas.{HasOldest, IsFirst, IsUp, has-oldest, progress-up, request-oldest}
use Rattle.ca_law_caused.proofs.Caused.StoryLemmas.{AreCalm, Failing, Onward, Story, WhySend, calm-append, denials, drops, fails, flush-flushes, goes, on}
use Rattle.ca_law_caused.proofs.Caused.SuchLemmas.{RowSuch}
use Rattle.ca_keys.specs.Equal.{queue_eq}
use Rattle.ca_keys.specs.declared.access.Ask.{Ask}
use Rattle.ca_keys.specs.declared.access.Kind.TheVariants as kinds
use Rattle.ca_keys.specs.declared.names.QueueId.{QueueId}
use Rattle.ca_law_world.proofs.Sound.RequesterLemmas.{progress-after}
use Rattle.ca_law_world.proofs.Sound.ResponseLemmas.{IsBetween, unanswered-between}
use Rattle.ca_law_world.proofs.Sound.SettledLemmas.{queue-path}
use Rattle.ca_model.specs.Caused.{is_by_piece}
use Rattle.ca_model.specs.Requests.{list_of}
use Rattle.ca_model.specs.declared.mark.Drop1.{Drop1}
use Rattle.ca_model.specs.declared.mark.Drop1.TheVariants as drop_causes
use Rattle.ca_model.specs.declared.mark.Mark.{Mark}
use Rattle.ca_model.specs.machine.Acknowledgements.{Acknowledgement, acknowledgement_below, and_then, failure_effects, finished_marks, finished_requests, first_unanswered, one_retry, progress_to, with_cursor, with_requester, without_oldest}
use Rattle.ca_model.specs.machine.Completions.{failure_mark, flush_marks, success_marks}
use Rattle.ca_model.specs.machine.Numbering.{Numbered, begun_requests, request_at}
use Rattle.ca_model.specs.machine.Responses.{acknowledge_row, answer_asks, answer_bytes, answer_row, drop_effects, fits_request, fitting_row, is_outstanding_at, local_writes, nak_effects, response_psn, response_row, rnr_nak_effects, segment_at, unless_back, writes_by}
use Rattle.ca_model.specs.machine.Row.{Does, Effects, Row, plain_row, queue_and_marks}
use Rattle.ca_wire.specs.Packet.{Fields}
use Rattle.ca_wire.specs.declared.opcode.TheConstants.{ACKNOWLEDGE}
use Rattle.ca_wire.specs.Syndrome.{syndrome_in}
use Rattle.ca_wire.specs.declared.syndrome.NakCode.{NakCode}
use Rattle.ca_wire.specs.declared.syndrome.NakCode.TheVariants.{PsnSequenceError, InvalidRequest, RemoteAccessError, RemoteOperationalError}
use Rattle.ca_wire.specs.declared.syndrome.Syndrome.{Syndrome}
use Rattle.ca_wire.specs.declared.syndrome.Syndrome.TheVariants.{Ack, RnrNak, Nak}
use Rattle.ca_law_caused.proofs.Caused.KnownLemmas.{IsListed, IsOn, IsResponse, Known, Occasion, after-back, after-none, first_at, fits-same, fits_at, implied-same, is_fired, ops_of, progress_after}
use Rattle.ca_law_caused.proofs.Caused.OldestLemmas.{IsFirst, number-oldest, oldest-found, progress-on}
use Rattle.ca_law_caused.proofs.Caused.StoryLemmas.{GoesOn, IsDeniedBy, IsTold, WhySend}
use Rattle.ca_law_world.proofs.Sound.RequesterLemmas.{sending-not-fresh}
use Rattle.ca_model.specs.Packets.{is_response}
use Rattle.ca_model.specs.Progress.{Acknowledges, Answers, FindsNoReceive, Progress, Refuses, Response, acknowledged_below, counted, implied_nak, raised, response_in, response_of_syndrome, with_retry}
use Rattle.ca_model.specs.Requests.{psns_of}
use Rattle.ca_model.specs.machine.Invariants.{is_sending}
use Rattle.ca_psn.specs.Psn.{widened}
use Rattle.std.specs.Option.{option_map, option_and_then}
use Rattle.std.proofs.Common.{◌-◌, ap₂, true≢false}
use Rattle.ca_law_caused.proofs.Caused.KnownLemmas.{Arrives}

-- ---- effects and rows

abbrev pub StoryOf : Known → Occasion → QueuePair → Effects → Type 0
StoryOf k o q e = Story k o q e.queue e.marks

abbrev pub RowStory : Known → Occasion → QueuePair → Row → Type 0
RowStory k o q row = RowSuch (StoryOf k o q) row

pub cond-story : (k : Known) (o : Occasion) (q : QueuePair) (b : Bool) (e f : Effects) → (b ≡ true → StoryOf k o q e) → (b ≡ false → StoryOf k o q f) → StoryOf k o q (if b then e else f)
cond-story k o q true e f one other = one refl
cond-story k o q false e f one other = other refl

pub cond-row : (k : Known) (o : Occasion) (q : QueuePair) (b : Bool) (r s : Row) → (b ≡ true → RowStory k o q r) → (b ≡ false → RowStory k o q s) → RowStory k o q (if b then r else s)
cond-row k o q true r s one other = one refl
cond-row k o q false r s one other = other refl

pub plain : (k : Known) (o : Occasion) (q : QueuePair) (e : Effects) → StoryOf k o q e → RowStory k o q (plain_row (Does e))
plain k o q e does = record { denied = λ d among. does; allowed = λ bytes refusal named. does }

-- a queue pair as the event began, where nothing of its requester or of its path MTU is changed
pub same-on : (k : Known) (q p : QueuePair) → (is_sending q.state ≡ true → IsOn k k.before q) → p.state ≡ q.state → p.responder.mtu ≡ q.responder.mtu → p.requester ≡ q.requester → GoesOn k k.before q p
same-on k q p was state mtu requester = record {
  state = state;
  mtu = mtu;
  fresh = λ fresh. (ap (λ r. r.oldest) requester, ap (λ r. r.rnrs) requester);
  sends = λ sending. by (was sending);
}
  where
    by : IsOn k k.before q → IsOn k k.before p
    by on_q = record {
      una = ap (λ r. r.una) requester ∙ on_q.una;
      retries = ap (λ r. r.retries) requester ∙ on_q.retries;
      rnrs = ap (λ r. r.rnrs) requester ∙ on_q.rnrs;
      retry = ap (λ r. r.retry) requester ∙ on_q.retry;
      rnr_retry = ap (λ r. r.rnr_retry) requester ∙ on_q.rnr_retry;
      mtu = mtu ∙ on_q.mtu;
      first = ap (λ r. first_at k r.oldest) requester ∙ on_q.first ∙ ap (λ r. r.oldest_psn) (sym requester);
      patience = subst (λ r. nat_lt r.rnr_retry MAX_RETRY ≡ true → r.rnrs ≤ r.rnr_retry) (sym requester) on_q.patience;
    }

pub dropped : (k : Known) (o : Occasion) (q : QueuePair) (cause : Drop1) → is_fired o ≡ false → (is_sending q.state ≡ true → IsOn k k.before q) → StoryOf k o q (drop_effects q cause)
dropped k o q cause arrives was = drops cause arrives refl (same-on k q q was refl refl refl)

-- what goes on or fails, with the progress that the event leaves
abbrev pub OnwardOf : Known → Occasion → QueuePair → Effects → Type 0
OnwardOf k o q e = Onward k o (progress_after k o) q e.queue e.marks

-- it goes on or fails behind calm marks
pub behind-calm : (k : Known) (o : Occasion) (g : Progress) (q p : QueuePair) (ns ms : List Mark) → AreCalm q.queue ns → Onward k o g q p ms → Onward k o g q p (ns ++ ms)
behind-calm k o g q p ns ms calm (goes more so) = goes (calm-append q.queue ns ms calm more) so
behind-calm k o g q p ns ms calm (fails error f) = fails error (record {
  before = ns ++ f.before;
  denial = f.denial;
  place = f.place;
  item = f.item;
  status = f.status;
  cause = f.cause;
  behind = f.behind;
  calm = calm-append q.queue ns f.before calm f.calm;
  posted = f.posted;
  flushes = f.flushes;
  why = f.why;
  told = ap (λ xs. ns ++ xs) f.told ∙ sym (append_assoc ns f.before _);
})

-- the same of the queue pair as it was earlier in the event
pub record IsEarlier (q x : QueuePair) : Type 0 where
  pub queue : x.queue ≡ q.queue
  pub state : x.state ≡ q.state
  pub mtu : x.responder.mtu ≡ q.responder.mtu
  pub sending : is_sending q.state ≡ true

pub earlier : (k : Known) (o : Occasion) (g : Progress) (q x p : QueuePair) (ms : List Mark) → IsEarlier q x → Onward k o g x p ms → Onward k o g q p ms
earlier k o g q x p ms same (goes calm so) = goes (subst (λ n. AreCalm n ms) same.queue calm) (record {
  state = so.state ∙ same.state;
  mtu = so.mtu ∙ same.mtu;
  fresh = λ fresh. absurd (sending-not-fresh q.state same.sending fresh);
  sends = λ sending. so.sends (ap is_sending same.state ∙ sending);
})
earlier k o g q x p ms same (fails error f) = fails error (subst (λ n. Failing k o n ms) same.queue f)

-- ---- a failure

-- the oldest unfinished request fails, behind the denial of its list
pub failed : (k : Known) (o : Occasion) (g : Progress) (x : QueuePair) (denial : Option DeniedAsk) (status : WcStatus) (cause : Option OpRefusal) (item : PostedSend) → (first : IsFirst k.posted x item) → WhySend k o x.queue x.requester.oldest item denial cause status
    → Onward k o g x (failure_effects status cause x).queue (denials denial ++ (failure_effects status cause x).marks)
failed k o g x denial status cause item first why = fails refl (record {
  before = [];
  denial = denial;
  place = x.requester.oldest;
  item = item;
  status = status;
  cause = cause;
  behind = flush_marks (without_oldest x);
  calm = record {};
  posted = first.posted;
  flushes = flush-flushes (without_oldest x);
  why = why;
  told = ap (λ items. denials denial ++ told items) first.items;
})
  where
    told : List PostedSend → List Mark
    told [] = flush_marks x
    told (y ∷ ys) = failure_mark x.queue x.requester.oldest y.request status cause ∷ flush_marks (without_oldest x)

-- ---- progress

success-calm : (name : QueueId) (n : Numbered) → AreCalm name (success_marks name n.place n.request)
success-calm name n = by n.request.signalled
  where
    by : (b : Bool) → AreCalm name (if b then success_marks name n.place (record n.request { signalled = true }) else [])
    by true = ((refl, refl), record {})
    by false = record {}

pub finished-calm : (name : QueueId) (ns : List Numbered) → AreCalm name (flat_map (λ n. success_marks name n.place n.request) ns)
finished-calm name [] = record {}
finished-calm name (n ∷ ns) = calm-append name (success_marks name n.place n.request) _ (success-calm name n) (finished-calm name ns)

-- what progress leaves: the queue pair by its name, and calm marks
record IsProgress (psn : ℕ) (q : QueuePair) : Type 0 where
  name : (progress_to psn q).queue.queue ≡ q.queue
  calm : AreCalm q.queue (progress_to psn q).marks
  mtu : (progress_to psn q).queue.responder.mtu ≡ q.responder.mtu
  una : q.requester.una ≤ psn → (progress_to psn q).queue.requester.una ≡ psn

is-progress : (psn : ℕ) (q : QueuePair) → IsProgress psn q
is-progress psn q = record { mtu = kept (nat_lt q.requester.una psn); name = named (nat_lt q.requester.una psn); calm = calmed (nat_lt q.requester.una psn); una = λ low. una low (nat_lt q.requester.una psn) refl }
  where
    moved : Bool → QueuePair
    moved b = if b then with_requester (record q.requester { una = psn; retries = 0; rnrs = 0 }) q else q

    named : (b : Bool) → (moved b).queue ≡ q.queue
    named true = refl
    named false = refl

    kept : (b : Bool) → (moved b).responder.mtu ≡ q.responder.mtu
    kept true = refl
    kept false = refl

    calmed : (b : Bool) → AreCalm q.queue (finished_marks (moved b))
    calmed true = finished-calm q.queue (finished_requests (moved true))
    calmed false = finished-calm q.queue (finished_requests q)

    una : q.requester.una ≤ psn → (b : Bool) → nat_lt q.requester.una psn ≡ b → (moved b).requester.una ≡ psn
    una low true e = refl
    una low false e = same q.requester.una psn low e
      where
        same : (a b : ℕ) → a ≤ b → nat_lt a b ≡ false → a ≡ b
        same a b low e = grind (arith, nat_tests, low, e)

is-earlier : (psn : ℕ) (q : QueuePair) → is_sending q.state ≡ true → IsEarlier q (progress_to psn q).queue
is-earlier psn q sending = record { queue = (is-progress psn q).name; state = (progress-after psn q).state; mtu = (is-progress psn q).mtu; sending = sending }

-- what comes of a queue pair after progress
after-progress : (k : Known) (o : Occasion) (g : Progress) (psn : ℕ) (q p : QueuePair) (ms : List Mark) → is_sending q.state ≡ true → Onward k o g (progress_to psn q).queue p ms → Onward k o g q p ((progress_to psn q).marks ++ ms)
after-progress k o g psn q p ms sending more = behind-calm k o g q p (progress_to psn q).marks ms (is-progress psn q).calm (earlier k o g q (progress_to psn q).queue p ms (is-earlier psn q sending) more)

progressed : (k : Known) (o : Occasion) (g : Progress) (psn : ℕ) (q : QueuePair) → IsUp k g q → Onward k o (raised psn g) q (progress_to psn q).queue (progress_to psn q).marks
progressed k o g psn q up = goes (is-progress psn q).calm (record {
  state = (progress-after psn q).state;
  mtu = (is-progress psn q).mtu;
  fresh = λ fresh. absurd (sending-not-fresh q.state up.sending fresh);
  sends = λ sending. progress-on k g psn q up.ready up.on;
})

-- ---- retries

pub retried : (k : Known) (o : Occasion) (g : Progress) (psn : ℕ) (q : QueuePair) → IsUp k g q → q.requester.una < q.requester.cursor → progress_after k o ≡ with_retry g → OnwardOf k o q (one_retry psn q)
retried k o g psn q up less now = by (nat_le q.requester.retry q.requester.retries) refl
  where
    counted : QueuePair
    counted = with_requester (record q.requester { retries = suc q.requester.retries }) q

    old : HasOldest k.posted q
    old = has-oldest k g q up less

    first : IsFirst k.posted counted old.item
    first = record { rest = old.is.first.rest; items = old.is.first.items; posted = old.is.first.posted }

    reaches : nat_le q.requester.retry q.requester.retries ≡ true → (progress_after k o).retries ≡ suc k.retry
    reaches e = omega (arith, ap (λ (h : Progress). h.retries) now, up.on.retries, up.on.retry, up.sound.requester.retries up.sending, under q.requester.retry q.requester.retries e)
      where
        under : (a b : ℕ) → nat_le a b ≡ true → a ≤ b
        under a b e = grind (arith, nat_tests, e)

    by : (b : Bool) → nat_le q.requester.retry q.requester.retries ≡ b → OnwardOf k o q (if b then failure_effects RetryExceeded None counted else queue_and_marks (with_cursor psn counted) [])
    by true e = same (failed k o (progress_after k o) counted None RetryExceeded None old.item first (up.known, reaches e))
      where
        same : Onward k o (progress_after k o) counted (failure_effects RetryExceeded None counted).queue (failure_effects RetryExceeded None counted).marks → Onward k o (progress_after k o) q (failure_effects RetryExceeded None counted).queue (failure_effects RetryExceeded None counted).marks
        same more = earlier k o (progress_after k o) q counted _ _ (record { queue = refl; state = refl; mtu = refl; sending = up.sending }) more
    by false e = goes (record {}) (record {
      state = refl;
      mtu = refl;
      fresh = λ fresh. absurd (sending-not-fresh q.state up.sending fresh);
      sends = λ sending. subst (λ h. IsOn k h (with_cursor psn counted)) (sym now) (record {
        una = up.on.una;
        retries = ap suc up.on.retries;
        rnrs = up.on.rnrs;
        retry = up.on.retry;
        rnr_retry = up.on.rnr_retry;
        mtu = up.on.mtu;
        first = up.on.first;
        patience = up.on.patience;
      });
    })

-- a queue pair after progress to a PSN that is outstanding
outstanding-after : (psn : ℕ) (q : QueuePair) → q.requester.una ≤ psn → psn < q.requester.cursor → (progress_to psn q).queue.requester.una < (progress_to psn q).queue.requester.cursor
outstanding-after psn q low high = omega (arith, (is-progress psn q).una low, (progress-after psn q).cursor, high)

-- it goes back where a READ or an atomic was not answered
went-back : (k : Known) (o : Occasion) (g : Progress) (psn back : ℕ) (q : QueuePair) → IsUp k g q → psn ≤ q.requester.cursor → (q.requester.una ≤ back) × (back < psn) → progress_after k o ≡ with_retry (raised back g)
    → OnwardOf k o q (and_then (progress_to back q) (one_retry back))
went-back k o g psn back q up high between now = after-progress k o (progress_after k o) back q _ _ up.sending
    (retried k o (raised back g) back (progress_to back q).queue (progress-up k g back q up (omega (arith, high, between.1))) (outstanding-after back q between.0 (omega (arith, high, between.1))) now)

abbrev acknowledgement : ℕ → QueuePair → Option ℕ → Acknowledgement
acknowledgement psn q None = record { effects = progress_to psn q; went_back = false }
acknowledgement psn q (Some back) = record { effects = and_then (progress_to back q) (one_retry back); went_back = true }

-- a response to a queue pair, at a PSN that is outstanding
pub record IsAnswered (k : Known) (p : Fields) (response : Response) (psn : ℕ) (q : QueuePair) : Type 0 where
  pub up : IsUp k k.before q
  pub listed : IsListed k q
  pub says : IsResponse k p response psn
  pub low : q.requester.una ≤ psn
  pub high : psn < q.requester.cursor

-- which request it implies to be lost
implied : (k : Known) (p : Fields) (response : Response) (psn below : ℕ) (q : QueuePair) → IsAnswered k p response psn q → below ≤ suc psn → first_unanswered q.requester.una below (begun_requests q) ≡ implied_nak k.mtu k.before.una below k.begin (ops_of k)
implied k p response psn below q is low = implied-same k q below is.up.on is.listed (is.up.steady.oldest is.up.sending) (omega (arith, low, is.high, is.up.sound.begun is.up.sending))

-- an acknowledgement of all up to the PSN
acknowledged : (k : Known) (p : Fields) (psn : ℕ) (q : QueuePair) → IsAnswered k p Acknowledges psn q → OnwardOf k (Arrives p) q (acknowledgement_below (suc psn) q).effects
acknowledged k p psn q is = by (first_unanswered q.requester.una (suc psn) (begun_requests q)) (implied k p Acknowledges psn (suc psn) q is (omega arith)) (unanswered-between q.requester.una (suc psn) (begun_requests q))
  where
    by : (back : Option ℕ) → back ≡ implied_nak k.mtu k.before.una (suc psn) k.begin (ops_of k) → IsBetween q.requester.una (suc psn) back → OnwardOf k (Arrives p) q (acknowledgement (suc psn) q back).effects
    by None lost between = subst (λ h. Onward k (Arrives p) h q (progress_to (suc psn) q).queue (progress_to (suc psn) q).marks) (sym (after-none k p Acknowledges psn is.says (sym lost))) (progressed k (Arrives p) k.before (suc psn) q is.up)
    by (Some back) lost between = went-back k (Arrives p) k.before (suc psn) back q is.up (omega (arith, is.high)) between (after-back k p Acknowledges psn back is.says (sym lost))

-- what comes after all below the PSN is acknowledged, unless that goes back
unless-back : (k : Known) (p : Fields) (response : Response) (psn : ℕ) (q : QueuePair) (f : QueuePair → Effects) → IsAnswered k p response psn q → acknowledged_below psn response ≡ psn
    → (IsUp k (raised psn k.before) (progress_to psn q).queue → (progress_to psn q).queue.requester.una < (progress_to psn q).queue.requester.cursor → (progress_to psn q).queue.requester.una ≡ psn
    → progress_after k (Arrives p) ≡ counted psn response (raised psn k.before) → OnwardOf k (Arrives p) (progress_to psn q).queue (f (progress_to psn q).queue)) → OnwardOf k (Arrives p) q (unless_back (acknowledgement_below psn q) f)
unless-back k p response psn q f is below more = by (first_unanswered q.requester.una psn (begun_requests q)) (implied k p response psn psn q is (omega arith)) (unanswered-between q.requester.una psn (begun_requests q))
  where
    by : (back : Option ℕ) → back ≡ implied_nak k.mtu k.before.una psn k.begin (ops_of k) → IsBetween q.requester.una psn back → OnwardOf k (Arrives p) q (unless_back (acknowledgement psn q back) f)
    by None lost between = after-progress k (Arrives p) (progress_after k (Arrives p)) psn q _ _ is.up.sending (more (progress-up k k.before psn q is.up (omega (arith, is.high))) (outstanding-after psn q is.low is.high) ((is-progress psn q).una is.low)
        (after-none k p response psn is.says (ap (λ n. implied_nak k.mtu k.before.una n k.begin (ops_of k)) below ∙ sym lost) ∙ ap (λ n. counted psn response (raised n k.before)) below))
    by (Some back) lost between = went-back k (Arrives p) k.before psn back q is.up (omega (arith, is.high)) between
        (after-back k p response psn back is.says (ap (λ n. implied_nak k.mtu k.before.una n k.begin (ops_of k)) below ∙ sym lost))

-- ---- acknowledgements

rnr-story : (k : Known) (o : Occasion) (g : Progress) (psn : ℕ) (x : QueuePair) → IsUp k g x → x.requester.una < x.requester.cursor → progress_after k o ≡ record g { rnrs = suc g.rnrs } → OnwardOf k o x (rnr_nak_effects psn x)
rnr-story k o g psn x up less now = by (nat_lt x.requester.rnr_retry MAX_RETRY) (nat_le x.requester.rnr_retry x.requester.rnrs) refl refl
  where
    counted_x : QueuePair
    counted_x = with_requester (record x.requester { rnrs = suc x.requester.rnrs }) x

    after : QueuePair
    after = with_requester (record counted_x.requester { cursor = psn; waiting = true }) x

    old : HasOldest k.posted x
    old = has-oldest k g x up less

    first : IsFirst k.posted counted_x old.item
    first = record { rest = old.is.first.rest; items = old.is.first.items; posted = old.is.first.posted }

    onward : (nat_lt x.requester.rnr_retry MAX_RETRY ≡ true → suc x.requester.rnrs ≤ x.requester.rnr_retry) → OnwardOf k o x (queue_and_marks after [])
    onward patience = goes (record {}) (record {
      state = refl;
      mtu = refl;
      fresh = λ fresh. absurd (sending-not-fresh x.state up.sending fresh);
      sends = λ sending. subst (λ h. IsOn k h after) (sym now) (record {
        una = up.on.una;
        retries = up.on.retries;
        rnrs = ap suc up.on.rnrs;
        retry = up.on.retry;
        rnr_retry = up.on.rnr_retry;
        mtu = up.on.mtu;
        first = up.on.first;
        patience = patience;
      });
    })

    by : (b z : Bool) → nat_lt x.requester.rnr_retry MAX_RETRY ≡ b → nat_le x.requester.rnr_retry x.requester.rnrs ≡ z → OnwardOf k o x (if b && z then failure_effects RnrRetryExceeded None counted_x else queue_and_marks after [])
    by true true few most = earlier k o (progress_after k o) x counted_x _ _ (record { queue = refl; state = refl; mtu = refl; sending = up.sending })
        (failed k o (progress_after k o) counted_x None RnrRetryExceeded None old.item first
        (up.known, ap (λ n. nat_lt n MAX_RETRY) (sym up.on.rnr_retry) ∙ few, omega (arith, ap (λ (h : Progress). h.rnrs) now, up.on.rnrs, up.on.rnr_retry, up.on.patience few, under x.requester.rnr_retry x.requester.rnrs most)))
      where
        under : (a b : ℕ) → nat_le a b ≡ true → a ≤ b
        under a b e = grind (arith, nat_tests, e)
    by true false few most = onward (λ few. less_of x.requester.rnr_retry x.requester.rnrs most)
      where
        less_of : (a b : ℕ) → nat_le a b ≡ false → suc b ≤ a
        less_of a b e = grind (arith, nat_tests, e)
    by false z few most = onward (λ more. absurd (true≢false (sym more ∙ few)))

-- the oldest is the request that a response at the first PSN that is neither acknowledged nor answered speaks of
told-oldest : (k : Known) (p : Fields) (g : Progress) (response : Response) (psn : ℕ) (x : QueuePair) (old : HasOldest k.posted x) → IsUp k g x → x.requester.una ≡ psn → IsResponse k p response psn → IsTold k (Arrives p) x.requester.oldest old.item response
told-oldest k p g response psn x old up here says = record {
  packet = p;
  psn = psn;
  sending = up.known;
  arrives = refl;
  is = says;
  low = omega (arith, up.on.first, old.is.low, here);
  high = omega (arith, up.on.first, old.is.high, here, ap (λ m. psns_of m old.item.request.op) up.on.mtu);
}

-- a NAK asks again, or the request fails
nak-story : (k : Known) (p : Fields) (g : Progress) (psn : ℕ) (code : NakCode) (x : QueuePair) → IsUp k g x → x.requester.una < x.requester.cursor → x.requester.una ≡ psn → IsResponse k p (response_of_syndrome (Nak code)) psn
    → progress_after k (Arrives p) ≡ counted psn (response_of_syndrome (Nak code)) g → OnwardOf k (Arrives p) x (nak_effects psn code x)
nak-story k p g psn PsnSequenceError x up less here says now = retried k (Arrives p) g psn x up less now
nak-story k p g psn InvalidRequest x up less here says now = failed k (Arrives p) _ x None RemoteInvalidRequest None old.item old.is.first (told-oldest k p g (Refuses InvalidRequest) psn x old up here says)
  where
    old : HasOldest k.posted x
    old = has-oldest k g x up less
nak-story k p g psn RemoteAccessError x up less here says now = failed k (Arrives p) _ x None RemoteAccess None old.item old.is.first (told-oldest k p g (Refuses RemoteAccessError) psn x old up here says)
  where
    old : HasOldest k.posted x
    old = has-oldest k g x up less
nak-story k p g psn RemoteOperationalError x up less here says now = failed k (Arrives p) _ x None RemoteOperation None old.item old.is.first (told-oldest k p g (Refuses RemoteOperationalError) psn x old up here says)
  where
    old : HasOldest k.posted x
    old = has-oldest k g x up less

below-nak : (psn : ℕ) (code : NakCode) → acknowledged_below psn (response_of_syndrome (Nak code)) ≡ psn
below-nak psn PsnSequenceError = refl
below-nak psn InvalidRequest = refl
below-nak psn RemoteAccessError = refl
below-nak psn RemoteOperationalError = refl

acknowledge-story : (k : Known) (p : Fields) (psn : ℕ) (s : Option Syndrome) (q : QueuePair) → (is_sending q.state ≡ true → IsOn k k.before q) → ((x : Syndrome) → s ≡ Some x → IsAnswered k p (response_of_syndrome x) psn q) → StoryOf k (Arrives p) q (acknowledge_row psn s q)
acknowledge-story k p psn (Some (Ack credits)) q was is = on (acknowledged k p psn q (is (Ack credits) refl))
acknowledge-story k p psn (Some (RnrNak timer)) q was is = on (unless-back k p FindsNoReceive psn q (rnr_nak_effects psn) (is (RnrNak timer) refl) refl
    (λ up less here now. rnr-story k (Arrives p) (raised psn k.before) psn (progress_to psn q).queue up less now))
acknowledge-story k p psn (Some (Nak code)) q was is = on (unless-back k p (response_of_syndrome (Nak code)) psn q (nak_effects psn code) (is (Nak code) refl) (below-nak psn code)
    (λ up less here now. nak-story k p (raised psn k.before) psn code (progress_to psn q).queue up less here (is (Nak code) refl).says now))
acknowledge-story k p psn None q was is = dropped k (Arrives p) q drop_causes.Stale refl was

-- ---- answers

pub writes-calm : (name : QueueId) (xs : List (Ask × List ℕ)) → AreCalm name (local_writes xs)
writes-calm name [] = record {}
writes-calm name (x ∷ xs) = (record {}, writes-calm name xs)

-- a denied ask of the list of a request that is the oldest
pub denied-by : (name : QueueId) (y : PostedSend) (n : Numbered) (d : DeniedAsk) → n.request ≡ y.request → is_by_list name (list_of n.request.op) d.ask ≡ true → IsDeniedBy name y (Some d)
denied-by name y n d same is = (
  queue-path d.ask.queue name (and_parts (queue_eq d.ask.queue name) _ is).0,
  ap (λ r. list_any (is_by_piece d.ask) (list_of r.op)) (sym same) ∙ (and_parts (queue_eq d.ask.queue name) _ is).1,
)

-- a fitting answer of the oldest request
answer-story : (k : Known) (p : Fields) (psn : ℕ) (q : QueuePair) (n : Numbered) → IsAnswered k p Answers psn q → progress_after k (Arrives p) ≡ raised (suc psn) (raised psn k.before) → request_at psn (progress_to psn q).queue ≡ Some n
    → RowStory k (Arrives p) q (answer_row psn p (progress_to psn q) n)
answer-story k p psn q n is now at = record {
  denied = λ d among. on (after-progress k (Arrives p) (progress_after k (Arrives p)) psn q _ _ is.up.sending
      (failed k (Arrives p) (progress_after k (Arrives p)) x (Some d) LocalProtection None old.item old.is.first (denied-by x.queue old.item n d (request-oldest k.posted x old.item psn old.is (sym ((is-progress psn q).una is.low)) n at)
      (among (is_by_list x.queue (list_of n.request.op)) (asked-by x.queue x.domain kinds.Write (segment_at psn x n) _ (list_of n.request.op))))));
  allowed = λ bytes refusal named. on (after-progress k (Arrives p) (progress_after k (Arrives p)) psn q _ _ is.up.sending
      (behind-calm k (Arrives p) (progress_after k (Arrives p)) x (progress_to (suc psn) x).queue (local_writes writes) (progress_to (suc psn) x).marks (writes-calm x.queue writes)
      (subst (λ h. Onward k (Arrives p) h x (progress_to (suc psn) x).queue (progress_to (suc psn) x).marks) (sym now) (progressed k (Arrives p) (raised psn k.before) (suc psn) x up))));
}
  where
    x : QueuePair
    x = (progress_to psn q).queue

    up : IsUp k (raised psn k.before) x
    up = progress-up k k.before psn q is.up (omega (arith, is.high))

    writes : List (Ask × List ℕ)
    writes = writes_by (answer_asks psn p x n) (answer_bytes p)

    old : HasOldest k.posted x
    old = has-oldest k (raised psn k.before) x up (outstanding-after psn q is.low is.high)

fitting-story : (k : Known) (p : Fields) (psn : ℕ) (q : QueuePair) → IsAnswered k p Answers psn q → RowStory k (Arrives p) q (fitting_row psn p (acknowledgement_below psn q))
unfolding told-oldest
fitting-story k p psn q is = by (first_unanswered q.requester.una psn (begun_requests q)) (implied k p Answers psn psn q is (omega arith)) (unanswered-between q.requester.una psn (begun_requests q))
  where
    e : Effects
    e = progress_to psn q

    x : QueuePair
    x = e.queue

    up : IsUp k (raised psn k.before) x
    up = progress-up k k.before psn q is.up (omega (arith, is.high))

    old : HasOldest k.posted x
    old = has-oldest k (raised psn k.before) x up (outstanding-after psn q is.low is.high)

    here : x.requester.una ≡ psn
    here = (is-progress psn q).una is.low

    n : Numbered
    n = number-oldest x old.item

    found : request_at psn x ≡ Some n
    found = oldest-found k.posted x old.item psn old.is (sym here)

    misfit : fits_request psn p x n ≡ false → fits_at k.mtu old.item.request.op p (psn - first_at k x.requester.oldest) ≡ false
    misfit none = ap₂ (λ m f. fits_at m old.item.request.op p (psn - f)) (sym up.on.mtu) up.on.first ∙ sym (fits-same psn p x n is.says.is (omega (arith, old.is.low, here)) refl) ∙ none

    bad : fits_request psn p x n ≡ false → RowStory k (Arrives p) q (plain_row (Does (and_then e (failure_effects BadResponse None))))
    bad none = plain k (Arrives p) q _ (on (after-progress k (Arrives p) (progress_after k (Arrives p)) psn q _ _ is.up.sending
        (failed k (Arrives p) (progress_after k (Arrives p)) x None BadResponse None old.item old.is.first (record { told = told-oldest k p (raised psn k.before) Answers psn x old up here is.says; misfit = misfit none }))))

    row : Option Numbered → Row
    row None = plain_row (Does (and_then e (failure_effects BadResponse None)))
    row (Some n) =
        if fits_request psn p e.queue n then answer_row psn p e n
        else plain_row (Does (and_then e (failure_effects BadResponse None)))

    by : (back : Option ℕ) → back ≡ implied_nak k.mtu k.before.una psn k.begin (ops_of k) → IsBetween q.requester.una psn back → RowStory k (Arrives p) q (fitting_row psn p (acknowledgement psn q back))
    by None lost between = subst (λ o. RowStory k (Arrives p) q (row o)) (sym found) (cond-row k (Arrives p) q (fits_request psn p x n) _ _
        (λ fits. answer-story k p psn q n is (after-none k p Answers psn is.says (sym lost)) found) bad)
    by (Some back) lost between = plain k (Arrives p) q _ (on (went-back k (Arrives p) k.before psn back q is.up (omega (arith, is.high)) between (after-back k p Answers psn back is.says (sym lost))))

-- ---- responses

-- a response: it is dropped, or it speaks of what is outstanding
pub response-story : (k : Known) (p : Fields) (q : QueuePair) → is_response p.opcode ≡ true → (is_among (states.Rts ∷ states.Sqd ∷ []) q.state ≡ true → IsUp k k.before q × IsListed k q) → RowStory k (Arrives p) q (response_row p q)
response-story k p q response up = cond-row k o q (not (is_among (states.Rts ∷ states.Sqd ∷ []) q.state)) _ _ (λ none. plain k o q _ (dropped k o q drop_causes.State refl was))
    (λ sending. cond-row k o q (not (is_outstanding_at psn q)) _ _ (λ none. plain k o q _ (dropped k o q drop_causes.Stale refl was))
    (λ there. cond-row k o q (p.opcode == ACKNOWLEDGE) _ _
    (λ acks. plain k o q _ (acknowledge-story k p psn (option_and_then (λ a. syndrome_in a.syndrome) p.aeth) q was
    (λ x is. answered (response_of_syndrome x) (up (not-false _ sending)) there (ap (λ b. if b then option_map response_of_syndrome (option_and_then (λ a. syndrome_in a.syndrome) p.aeth) else Some Answers) acks ∙ ap (option_map response_of_syndrome) is))))
    (λ answers. fitting-story k p psn q (answered Answers (up (not-false _ sending)) there (ap (λ b. if b then option_map response_of_syndrome (option_and_then (λ a. syndrome_in a.syndrome) p.aeth) else Some Answers) answers)))))
  where
    o : Occasion
    o = Arrives p

    was : is_sending q.state ≡ true → IsOn k k.before q
    was sending = (up sending).0.on

    psn : ℕ
    psn = response_psn q p

    low : not (is_outstanding_at psn q) ≡ false → q.requester.una ≤ psn
    low there = less q.requester.una psn (and_parts (nat_le q.requester.una psn) _ (not-false _ there)).0
      where
        less : (a b : ℕ) → nat_le a b ≡ true → a ≤ b
        less a b e = grind (arith, nat_tests, e)

    high : not (is_outstanding_at psn q) ≡ false → psn < q.requester.cursor
    high there = less psn q.requester.cursor (and_parts (nat_le q.requester.una psn) _ (not-false _ there)).1
      where
        less : (a b : ℕ) → nat_lt a b ≡ true → a < b
        less a b e = grind (arith, nat_tests, e)

    answered : (r : Response) → IsUp k k.before q × IsListed k q → not (is_outstanding_at psn q) ≡ false → response_in p ≡ Some r → IsAnswered k p r psn q
    answered r up there says = record {
      up = up.0;
      listed = up.1;
      says = record { is = response; says = says; at = ap (λ u. widened u p.psn) (sym up.0.on.una) };
      low = low there;
      high = high there;
    }
