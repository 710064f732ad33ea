-- The causes that are told without the link, and the rest, are Caused. For proofs only.
use Rattle.std.proofs.Common.{◌≡◌, ◌&&◌, Bool, true, false, not, if◌then◌else◌, List, [], ◌∷◌, Option, refl}
use Rattle.std.proofs.lemmas.Bool.{and_parts}
use Rattle.std.specs.List.{list_any}
use Rattle.ca_keys.specs.Equal.{queue_eq}
use Rattle.ca_law_keys.proofs.Posts.GrantLemmas.{both-true}
use Rattle.ca_base.specs.declared.completion.Completion.{Completion}
use Rattle.ca_base.specs.declared.completion.WcStatus.{WcStatus}
use Rattle.ca_base.specs.declared.completion.WcStatus.TheVariants as statuses
use Rattle.ca_base.specs.declared.refusals.OpRefusal.{OpRefusal}
use Rattle.ca_law_caused.specs.Causes.{DoCompleteWithCauses, completes_with_cause, has_own_cause}
use Rattle.ca_law_caused.specs.Rest.{DoHaveTheRest, completes_with_rest, has_rest_of_cause}
use Rattle.ca_keys.specs.Memory.{ByteMap}
use Rattle.ca_model.specs.Caused.{Caused, has_cause, is_caused, is_denied_list}
use Rattle.ca_model.specs.Entries.{EntryValue}
use Rattle.ca_model.specs.Past.{Past, after_entry, after_mark, at_begin, each_entry, each_mark, opening_past}
use Rattle.ca_model.specs.declared.mark.Mark.{Mark}
use Rattle.ca_model.specs.declared.mark.Mark.TheVariants as marks

-- two of three, and the one between them
between : (a b c : Bool) → (a && b) ≡ true → c ≡ true → (a && c && b) ≡ true
between a b c two one = both-true (a && c) b (both-true a c (and_parts a b two).0 one) (and_parts a b two).1

-- ---- one completion

whole-cause : (past : Past) (c : Completion) (cause : Option OpRefusal) (status : WcStatus) → has_own_cause past c cause status ≡ true → has_rest_of_cause past c status ≡ true → has_cause past c cause status ≡ true
whole-cause past c cause statuses.Success own rest = refl
whole-cause past c cause statuses.LocalLength own rest = rest
whole-cause past c cause statuses.LocalProtection own rest = by c.receive own rest
  where
    by : (b : Bool) → (if b then list_any (λ ask. queue_eq ask.queue c.queue) past.at_hand.denied_locally else is_denied_list past c) ≡ true → (if b then is_denied_list past c else true) ≡ true → is_denied_list past c ≡ true
    by true own rest = rest
    by false own rest = own
whole-cause past c cause statuses.MemoryManagement own rest = own
whole-cause past c cause statuses.RemoteInvalidRequest own rest = both-true _ _ own rest
whole-cause past c cause statuses.RemoteAccess own rest = both-true _ _ own rest
whole-cause past c cause statuses.RemoteOperation own rest = both-true _ _ own rest
whole-cause past c cause statuses.RetryExceeded own rest = own
whole-cause past c cause statuses.RnrRetryExceeded own rest = own
whole-cause past c cause statuses.BadResponse own rest = between (not c.receive) _ _ own rest
whole-cause past c cause statuses.Flushed own rest = own

whole-mark : (past : Past) (m : Mark) → completes_with_cause past m ≡ true → completes_with_rest past m ≡ true → is_caused past m ≡ true
whole-mark past (marks.Done queue x cause) own rest = whole-cause past x cause x.status own rest
whole-mark past (marks.Verb by verb answer) own rest = refl
whole-mark past (marks.Sent source target index request bytes) own rest = refl
whole-mark past (marks.Lost target index) own rest = refl
whole-mark past (marks.Arrived target index) own rest = refl
whole-mark past (marks.Dropped target cause) own rest = refl
whole-mark past (marks.Timer queue silent) own rest = refl
whole-mark past (marks.Granted g) own rest = refl
whole-mark past (marks.Revoked adapter key) own rest = refl
whole-mark past (marks.Remote queue domain envelope key kind address count verdict) own rest = refl
whole-mark past (marks.Local queue domain key kind address count verdict) own rest = refl
whole-mark past (marks.Stored place bytes) own rest = refl

-- ---- a history

whole-marks : (past : Past) (ms : List Mark) → each_mark completes_with_cause past ms ≡ true → each_mark completes_with_rest past ms ≡ true → each_mark is_caused past ms ≡ true
whole-marks past [] own rest = refl
whole-marks past (m ∷ ms) own rest = both-true (is_caused past m) _ (whole-mark past m (and_parts (completes_with_cause past m) _ own).0 (and_parts (completes_with_rest past m) _ rest).0)
    (whole-marks (after_mark m past) ms (and_parts (completes_with_cause past m) _ own).1 (and_parts (completes_with_rest past m) _ rest).1)

whole-entries : (past : Past) (es : List EntryValue) → each_entry completes_with_cause (λ p. true) past es ≡ true → each_entry completes_with_rest (λ p. true) past es ≡ true → each_entry is_caused (λ p. true) past es ≡ true
whole-entries past [] own rest = refl
whole-entries past (e ∷ es) own rest = both-true (each_mark is_caused start e.marks && true) _
    (both-true (each_mark is_caused start e.marks) true (whole-marks start e.marks (first completes_with_cause own) (first completes_with_rest rest)) refl)
    (whole-entries (after_entry e past) es (and_parts (each_mark completes_with_cause start e.marks && true) _ own).1 (and_parts (each_mark completes_with_rest start e.marks && true) _ rest).1)
  where
    start : Past
    start = at_begin e.event past

    first : (test : Past → Mark → Bool) → each_entry test (λ p. true) past (e ∷ es) ≡ true → each_mark test start e.marks ≡ true
    first test all = (and_parts (each_mark test start e.marks) true (and_parts (each_mark test start e.marks && true) _ all).0).0

pub causes-and-rest : (bytes : ByteMap) (es : List EntryValue) → DoCompleteWithCauses bytes es → DoHaveTheRest bytes es → Caused bytes es
causes-and-rest bytes es own rest = whole-entries (opening_past bytes) es own rest
