-- What a receipt says, of what a try made. For proofs only.
use Rattle.std.proofs.Common.{◌≡◌, ◌∙◌, refl, ap, ap₂, subst, sym, arith, ℕ, zero, suc, ◌<◌, Option, None, List, [], ◌∷◌, ◌++◌, length, Some, slice_get}
use Rattle.std.proofs.lemmas.List.{map-append}
use Rattle.std.specs.Option.{option_and_then}
use Rattle.ca_base.specs.declared.settings.Settings.{Settings}
use Rattle.ca_verbs_machine.specs.declared.asked.Asked.{Asked}
use Rattle.ca_verbs_machine.specs.declared.asked.Told.{Told}
use Rattle.ca_model.specs.Marks.{MarkList}
use Rattle.ca_model.specs.declared.entry.Entry.{Entry}
use Rattle.ca_model.specs.declared.event.Event.{Event}
use Rattle.ca_parts.proofs.Lists.{slice_get_last}
use Rattle.ca_parts.specs.Views.{joined_with}
use Rattle.ca_verbs_taking.specs.Holding.{Known}
use Rattle.ca_verbs.specs.Kept.{Kept, kept_of, told_by}
use Rattle.ca_verbs.specs.Passes.{IsReceipt, known_of}
use Rattle.ca_verbs.specs.Tried.{IsMade, told_of}
use Rattle.ca_verbs.specs.declared.pass.Pass.{Pass}
use Rattle.ca_verbs.specs.declared.pass.Receipt.{Receipt}

-- what stands in the front of a list
get-front : (xs ys : List Entry) (i : ℕ) → i < length xs → slice_get (xs ++ ys) i ≡ slice_get xs i
get-front [] ys i less = absurd (omega (arith, less))
get-front (x ∷ xs) ys zero less = refl
get-front (x ∷ xs) ys (suc i) less = get-front xs ys i (omega (arith, less))

-- the latest entry stays where others come behind
pub latest-front : (xs ys : List Entry) (o : Option ℕ) → ((i : ℕ) → o ≡ Some i → i < length xs) → option_and_then (slice_get (xs ++ ys)) o ≡ option_and_then (slice_get xs) o
latest-front xs ys None within = refl
latest-front xs ys (Some i) within = get-front xs ys i (within i refl)

-- an entry more is kept as contracts see it
pub kept-made : (key : Settings) (told : Told) (stamp : ℕ) (old new : Known) (entries : List Entry) (e : Entry) → IsMade key told stamp old new → kept_of entries ≡ told_by old.entries
    → ◌≡◌ {A = Kept} (e.stamp, e.event, e.marks.marks) (stamp, told.event, told.marks) → kept_of (entries ++ e ∷ []) ≡ told_by new.entries
kept-made key told stamp old new entries e made kept is = map-append (λ (x : Entry). (x.stamp, x.event, x.marks.marks)) entries (e ∷ [])
    ∙ ap₂ (λ (xs : List Kept) (x : Kept). xs ++ x ∷ []) kept is
    ∙ sym (ap told_by made.added ∙ map-append (λ (x : ℕ × Told). (x.0, x.1.event, x.1.marks)) old.entries ((stamp, told) ∷ []))

-- those of two passes are kept one behind the other
pub kept-joined : (xs ys : List Entry) (v w : Known) → kept_of xs ≡ told_by v.entries → kept_of ys ≡ told_by w.entries → kept_of (xs ++ ys) ≡ told_by (joined_with v w).entries
kept-joined xs ys v w first other = map-append (λ (x : Entry). (x.stamp, x.event, x.marks.marks)) xs ys
    ∙ ap₂ (λ (a b : List Kept). a ++ b) first other
    ∙ sym (map-append (λ (x : ℕ × Told). (x.0, x.1.event, x.1.marks)) v.entries w.entries)

pub receipt-of : (key : Settings) (asked made_for : Asked) (event made : Event) (r : Receipt) (old new : Pass) (mid : Known) (marks : MarkList) (entries : List Entry) (number place : ℕ)
    → IsMade key (told_of made_for made marks.marks) r.stamp mid (known_of new) → mid ≡ known_of old → made_for ≡ asked → made ≡ event → new.latest ≡ Some place → place ≡ length entries
    → new.entries.items ≡ entries ++ record { stamp = r.stamp; pass = number; event = made; marks = marks } ∷ [] → number ≡ (known_of old).first → entries ≡ old.entries.items → IsReceipt key asked event r old new
receipt-of key asked made_for event made r old new mid marks entries number place is same for_asked for_event latest at all first before = record {
  marks = marks.marks;
  made = subst (λ (v : Known). IsMade key (told_of asked event marks.marks) r.stamp v (known_of new)) same
      (subst (λ e. IsMade key (told_of asked e marks.marks) r.stamp mid (known_of new)) for_event
      (subst (λ a. IsMade key (told_of a made marks.marks) r.stamp mid (known_of new)) for_asked is));
  entry = record { stamp = r.stamp; pass = number; event = made; marks = marks };
  latest = ap (option_and_then (slice_get new.entries.items)) latest ∙ ap (λ es. slice_get es place) all ∙ slice_get_last entries (record { stamp = r.stamp; pass = number; event = made; marks = marks }) place at;
  stamp = refl;
  event_is = for_event;
  marks_are = refl;
  pass = first;
  kept = all ∙ ap (λ es. es ++ record { stamp = r.stamp; pass = number; event = made; marks = marks } ∷ []) before;
}
