-- The parts of Licensed are the whole. For proofs only.
use Rattle.std.proofs.Common.{◌≡◌, ◌&&◌, true, false, List, [], ◌∷◌, Option, None, Some, refl}
use Rattle.std.proofs.lemmas.Bool.{and_parts}
use Rattle.std.specs.List.{AllByRecursion}
use Rattle.std.specs.Option.{option_map_or}
use Rattle.ca_law_keys.proofs.Posts.GrantLemmas.{both-true}
use Rattle.ca_base.specs.Configuration.{Configuration}
use Rattle.ca_keys.specs.Memory.{ByteMap}
use Rattle.ca_keys.specs.declared.grant.Grant.{Grant}
use Rattle.ca_law_keys.proofs.Licensed.AloneLemmas.{alone-along}
use Rattle.ca_law_keys.proofs.Licensed.EffectEventLemmas.{effects-along}
use Rattle.ca_law_keys.proofs.Licensed.EndingLemmas.{fit-along, is_fit, is_well_ended}
use Rattle.ca_law_keys.proofs.Licensed.LieLemmas.{lie-along}
use Rattle.ca_law_keys.specs.Alone.{is_granted_alone}
use Rattle.ca_law_keys.specs.Ends.{is_unbound}
use Rattle.ca_law_keys.specs.Lie.{leaves_windows_lying}
use Rattle.ca_model.specs.Entries.{EntryValue}
use Rattle.ca_model.specs.Licensed.{Licensed, ends_at_hand, grant_with, is_effective_at_end, is_licensed}
use Rattle.ca_model.specs.Past.{Past, after_entry, after_mark, after_marks, at_begin, each_entry, each_mark, opening_past}
use Rattle.ca_model.specs.declared.mark.Mark.{Mark}
use Rattle.ca_model.specs.declared.mark.Mark.TheVariants as marks
use Rattle.ca_model.specs.machine.Run.{Follows}
use Rattle.ca_model.specs.machine.Sound.{AreLimited, CanBeMade}

ended : (p : Past) (o : Option Grant) → option_map_or (is_well_ended p) o false ≡ true → option_map_or (ends_at_hand p) o false ≡ true
ended p None fit = fit
ended p (Some g) fit = (and_parts (is_unbound p g) (ends_at_hand p g) fit).1

one-licensed : (m : Mark) (p : Past) → is_fit p m ≡ true → is_granted_alone p m ≡ true → leaves_windows_lying p m ≡ true → is_licensed p m ≡ true
one-licensed (marks.Granted g) p fit alone lie = both-true _ _ (both-true _ _ fit alone) lie
one-licensed (marks.Revoked adapter key) p fit alone lie = both-true _ _ (ended p (grant_with p adapter key) fit) lie
one-licensed m p fit alone lie = refl

marks-licensed : (ms : List Mark) (p : Past) → each_mark is_fit p ms ≡ true → each_mark is_granted_alone p ms ≡ true → each_mark leaves_windows_lying p ms ≡ true → each_mark is_licensed p ms ≡ true
marks-licensed [] p fit alone lie = refl
marks-licensed (m ∷ ms) p fit alone lie = both-true _ _ (one-licensed m p fits.0 alones.0 lies.0) (marks-licensed ms (after_mark m p) fits.1 alones.1 lies.1)
  where
    fits : (is_fit p m ≡ true) × (each_mark is_fit (after_mark m p) ms ≡ true)
    fits = and_parts (is_fit p m) (each_mark is_fit (after_mark m p) ms) fit

    alones : (is_granted_alone p m ≡ true) × (each_mark is_granted_alone (after_mark m p) ms ≡ true)
    alones = and_parts (is_granted_alone p m) (each_mark is_granted_alone (after_mark m p) ms) alone

    lies : (leaves_windows_lying p m ≡ true) × (each_mark leaves_windows_lying (after_mark m p) ms ≡ true)
    lies = and_parts (leaves_windows_lying p m) (each_mark leaves_windows_lying (after_mark m p) ms) lie

entries-licensed : (es : List EntryValue) (p : Past) → each_entry is_fit (λ past. true) p es ≡ true → each_entry is_granted_alone (λ past. true) p es ≡ true → each_entry leaves_windows_lying (λ past. true) p es ≡ true
    → each_entry (λ past mark. true) is_effective_at_end p es ≡ true → each_entry is_licensed is_effective_at_end p es ≡ true
entries-licensed [] p fit alone lie effective = refl
entries-licensed (e ∷ es) p fit alone lie effective = both-true _ _
    (both-true _ _ (marks-licensed e.marks start (and_parts (each_mark is_fit start e.marks) true fits.0).0 (and_parts (each_mark is_granted_alone start e.marks) true alones.0).0
    (and_parts (each_mark leaves_windows_lying start e.marks) true lies.0).0)
    (and_parts (each_mark (λ past mark. true) start e.marks) (is_effective_at_end (after_marks e.marks start)) effects.0).1)
    (entries-licensed es (after_entry e p) fits.1 alones.1 lies.1 effects.1)
  where
    start : Past
    start = at_begin e.event p

    fits : ((each_mark is_fit start e.marks && true) ≡ true) × (each_entry is_fit (λ past. true) (after_entry e p) es ≡ true)
    fits = and_parts (each_mark is_fit start e.marks && true) (each_entry is_fit (λ past. true) (after_entry e p) es) fit

    alones : ((each_mark is_granted_alone start e.marks && true) ≡ true) × (each_entry is_granted_alone (λ past. true) (after_entry e p) es ≡ true)
    alones = and_parts (each_mark is_granted_alone start e.marks && true) (each_entry is_granted_alone (λ past. true) (after_entry e p) es) alone

    lies : ((each_mark leaves_windows_lying start e.marks && true) ≡ true) × (each_entry leaves_windows_lying (λ past. true) (after_entry e p) es ≡ true)
    lies = and_parts (each_mark leaves_windows_lying start e.marks && true) (each_entry leaves_windows_lying (λ past. true) (after_entry e p) es) lie

    effects : ((each_mark (λ past mark. true) start e.marks && is_effective_at_end (after_marks e.marks start)) ≡ true) × (each_entry (λ past mark. true) is_effective_at_end (after_entry e p) es ≡ true)
    effects = and_parts (each_mark (λ past mark. true) start e.marks && is_effective_at_end (after_marks e.marks start)) (each_entry (λ past mark. true) is_effective_at_end (after_entry e p) es) effective

pub licensed-along : (c : Configuration) (bytes : ByteMap) (es : List EntryValue) → AreLimited c → AllByRecursion (λ e. CanBeMade e.event) es → Follows c bytes es → Licensed bytes es
licensed-along c bytes es limited made follows = entries-licensed es (opening_past bytes) (fit-along c bytes es limited made follows) (alone-along c bytes es limited made follows)
    (lie-along c bytes es limited made follows) (effects-along c bytes es limited made follows)
