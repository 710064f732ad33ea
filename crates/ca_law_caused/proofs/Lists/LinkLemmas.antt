-- What is told of lists and what is told of the link are the rest of Caused. For proofs only.
use Rattle.std.proofs.Common.{◌≡◌, ◌&&◌, Bool, true, List, [], ◌∷◌, refl}
use Rattle.std.proofs.lemmas.Bool.{and_parts}
use Rattle.ca_law_keys.proofs.Posts.GrantLemmas.{both-true}
use Rattle.ca_base.specs.declared.completion.Completion.{Completion}
use Rattle.ca_base.specs.declared.completion.WcStatus.{WcStatus}
use Rattle.ca_base.specs.declared.completion.WcStatus.TheVariants as statuses
use Rattle.ca_keys.specs.Memory.{ByteMap}
use Rattle.ca_model.specs.Entries.{EntryValue}
use Rattle.ca_model.specs.Past.{Past, after_entry, after_mark, at_begin, each_entry, each_mark, opening_past}
use Rattle.ca_model.specs.declared.mark.Mark.{Mark}
use Rattle.ca_model.specs.declared.mark.Mark.TheVariants as marks
use Rattle.ca_law_caused.specs.Rest.{DoHaveTheRest, completes_with_rest, has_rest_of_cause}
use Rattle.ca_law_caused.specs.Listed.{DoCompleteByLists, DoHaveTheLink, completes_by_link, completes_by_list, has_link_cause, has_list_cause}

whole-cause : (past : Past) (c : Completion) (status : WcStatus) → has_list_cause past c status ≡ true → has_link_cause past c status ≡ true → has_rest_of_cause past c status ≡ true
whole-cause past c statuses.Success own rest = refl
whole-cause past c statuses.LocalLength own rest = own
whole-cause past c statuses.LocalProtection own rest = own
whole-cause past c statuses.MemoryManagement own rest = refl
whole-cause past c statuses.RemoteInvalidRequest own rest = rest
whole-cause past c statuses.RemoteAccess own rest = rest
whole-cause past c statuses.RemoteOperation own rest = rest
whole-cause past c statuses.RetryExceeded own rest = refl
whole-cause past c statuses.RnrRetryExceeded own rest = refl
whole-cause past c statuses.BadResponse own rest = rest
whole-cause past c statuses.Flushed own rest = refl

whole-mark : (past : Past) (m : Mark) → completes_by_list past m ≡ true → completes_by_link past m ≡ true → completes_with_rest past m ≡ true
whole-mark past (marks.Done queue x cause) own rest = whole-cause past x x.status own rest
whole-mark past (marks.Verb by verb answer) own rest = refl
whole-mark past (marks.Sent source target index request bytes) own rest = refl
whole-mark past (marks.Lost target index) own rest = refl
whole-mark past (marks.Arrived target index) own rest = refl
whole-mark past (marks.Dropped target cause) own rest = refl
whole-mark past (marks.Timer queue silent) own rest = refl
whole-mark past (marks.Granted g) own rest = refl
whole-mark past (marks.Revoked adapter key) own rest = refl
whole-mark past (marks.Remote queue domain envelope key kind address count verdict) own rest = refl
whole-mark past (marks.Local queue domain key kind address count verdict) own rest = refl
whole-mark past (marks.Stored place bytes) own rest = refl

-- ---- a history

whole-marks : (past : Past) (ms : List Mark) → each_mark completes_by_list past ms ≡ true → each_mark completes_by_link past ms ≡ true → each_mark completes_with_rest past ms ≡ true
whole-marks past [] own rest = refl
whole-marks past (m ∷ ms) own rest = both-true (completes_with_rest past m) _ (whole-mark past m (and_parts (completes_by_list past m) _ own).0 (and_parts (completes_by_link past m) _ rest).0)
    (whole-marks (after_mark m past) ms (and_parts (completes_by_list past m) _ own).1 (and_parts (completes_by_link past m) _ rest).1)

whole-entries : (past : Past) (es : List EntryValue) → each_entry completes_by_list (λ p. true) past es ≡ true → each_entry completes_by_link (λ p. true) past es ≡ true → each_entry completes_with_rest (λ p. true) past es ≡ true
whole-entries past [] own rest = refl
whole-entries past (e ∷ es) own rest = both-true (each_mark completes_with_rest start e.marks && true) _
    (both-true (each_mark completes_with_rest start e.marks) true (whole-marks start e.marks (first completes_by_list own) (first completes_by_link rest)) refl)
    (whole-entries (after_entry e past) es (and_parts (each_mark completes_by_list start e.marks && true) _ own).1 (and_parts (each_mark completes_by_link start e.marks && true) _ rest).1)
  where
    start : Past
    start = at_begin e.event past

    first : (test : Past → Mark → Bool) → each_entry test (λ p. true) past (e ∷ es) ≡ true → each_mark test start e.marks ≡ true
    first test all = (and_parts (each_mark test start e.marks) true (and_parts (each_mark test start e.marks && true) _ all).0).0

pub lists-and-link : (bytes : ByteMap) (es : List EntryValue) → DoCompleteByLists bytes es → DoHaveTheLink bytes es → DoHaveTheRest bytes es
lists-and-link bytes es own rest = whole-entries (opening_past bytes) es own rest
