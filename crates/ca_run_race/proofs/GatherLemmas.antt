-- What is left of a fabric that workers worked on, as a stage of the script. For proofs only.
use Rattle.std.proofs.Common.{◌≡◌, ◌∙◌, refl, sym, ap, subst, ℕ, zero, suc, ◌<◌, ◌≤◌, arith, true, false, true≢false, List, [], ◌∷◌, drop, length, map, reverse, sum_by, ◌^◌, Option, None, Some, is_some, slice_get, Ok}
use Rattle.std.proofs.lemmas.List.{length-drop, length-map, length-reverse, reverse-reverse}
use Rattle.std.proofs.lemmas.List.Sums.{sum_by-cons}
use Rattle.std.proofs.lemmas.Option.{slice_get-map}
use Rattle.std.specs.Option.{option_and_then, option_map, option_map_or}
use Rattle.ca_base.specs.Configuration.{Configuration, configuration_in, part_count}
use Rattle.ca_base.specs.declared.settings.Settings.{Settings}
use Rattle.ca_verbs_machine.specs.After.{IsUp, world_after}
use Rattle.ca_verbs_machine.specs.Meanings.{StandsFor}
use Rattle.ca_verbs_machine.specs.Places.{placed}
use Rattle.ca_verbs_machine.specs.Steps.{up-world}
use Rattle.ca_verbs_machine.specs.Values as values
use Rattle.ca_verbs_machine.specs.Values.{PartValue, value_of}
use Rattle.ca_verbs_machine.specs.declared.asked.Told.{Told}
use Rattle.ca_adapter_parts.specs.HeldView.{holding}
use Rattle.ca_adapter_parts.specs.Taking.{is_of_kind, nothing_held, world_with}
use Rattle.ca_adapter_parts.specs.declared.part.Part.{Part}
use Rattle.ca_keys.specs.Memory.{zeros}
use Rattle.ca_model.specs.Entries.{EntryValue, entry_of}
use Rattle.ca_model.specs.declared.entry.Entry.{Entry}
use Rattle.ca_model.specs.declared.event.Event.{Event}
use Rattle.ca_model.specs.declared.mark.Mark.{Mark}
use Rattle.ca_model.specs.declared.part_name.PartName.{PartName}
use Rattle.ca_model.specs.machine.Run.{Follows, run_over}
use Rattle.ca_model.specs.machine.World.{World, get}
use Rattle.ca_script_order.specs.OfScript.{LeadsTo}
use Rattle.ca_script_order.specs.Order.{Stage}
use Rattle.ca_parts.specs.Lists.{Has}
use Rattle.ca_model_places.proofs.AmongLemmas.{place-below}
use Rattle.ca_model_places.specs.Places.{place_of}
use Rattle.ca_run_race.specs.Raced.{IsGathered}
use Rattle.ca_verbs_scripts.specs.Work.{HasWorked, numbered, stage_after}
use Rattle.ca_script_run.specs.ca_adapter_store.Rows.{AreTogether, IsPartIn, IsRowOf, IsThere}
use Rattle.ca_script_run.specs.ca_adapter_store.declared.row.Row.{Row}
use Rattle.ca_script.specs.Script.{ScriptValue}
use Rattle.ca_script_lines.specs.declared.Line.{Line}
use Rattle.ca_script_run.specs.Progress.{IsAt, lines_behind}
use Rattle.ca_script_run.specs.declared.progress.Progress.{Progress}
use Rattle.ca_verbs.proofs.of_ca_verbs_taking.PartLemmas.{bytes-with, kind-of, value-with}
use Rattle.ca_verbs.specs.ca_verbs_taking.Holding.{Known}
use Rattle.ca_verbs.specs.Closing.{AreRemains, stamped_from}
use Rattle.ca_verbs.specs.Kept.{Kept, kept_of}
use Rattle.ca_verbs_machine.specs.ca_law_parts.Worlds.{IsWorldAfter}

-- ---- the parts as a row

same-some : {A : Type 0} (a b : A) → Some a ≡ Some b → a ≡ b
same-some a b is = ap (λ o. option_map_or (λ x. x) o a) is

within : {A : Type 0} (xs : List A) (i : ℕ) → i < length xs → is_some (slice_get xs i) ≡ true
within [] i less = absurd (omega (arith, less))
within (x ∷ xs) zero less = refl
within (x ∷ xs) (suc i) less = within xs i (omega (arith, less))

module _ (key : Settings) (log : List Told) (up : IsUp (configuration_in key) log) (parts : List Part) (shared : List PartValue) (are : map value_of parts ≡ shared)
    (count : length shared ≡ part_count (configuration_in key)) (stand : (k : ℕ) (x : PartValue) → slice_get shared k ≡ Some x → StandsFor key log k x) where
  abbrev c : Configuration
  c = configuration_in key

  abbrev world : World
  world = world_after c log

  part-in : (name : PartName) (n : ℕ) (part : Part) → place_of c name ≡ Some n → slice_get parts n ≡ Some part → IsPartIn c world name part
  part-in name n part at there = record {
    kind = kind;
    things = λ v o same. same-some (get (world_with name part v) o) (get world o) (sym (value-with name part v o kind same) ∙ is.things o same);
    whole = λ p same set. bytes-with name part p kind same ∙ is.whole p same set;
  }
    where
      value : slice_get shared n ≡ Some (value_of part)
      value = ap (λ (l : List PartValue). slice_get l n) (sym are) ∙ slice_get-map value_of parts n ∙ ap (option_map value_of) there

      is : values.IsPartIn c world name (value_of part)
      is = stand n (value_of part) value up name at

      kind : is_of_kind name part ≡ true
      kind = kind-of name part (get world) is.things

  there : (name : PartName) (n : ℕ) → place_of c name ≡ Some n → (o : Option Part) → slice_get parts n ≡ o → is_some o ≡ true → IsThere c world name o
  there name n at None is some = absurd (true≢false (sym some))
  there name n at (Some part) is some = part-in name n part at is

  at-home : (p : PartName) → (o : Option ℕ) → place_of c p ≡ o → is_some o ≡ true
      → (is_some (option_and_then (slice_get parts) o) ≡ true) × IsThere c world p (option_and_then (slice_get parts) o)
  at-home p None at some = absurd (true≢false (sym some))
  at-home p (Some n) at some =
      let reach : length parts ≡ part_count c = sym (length-map parts value_of) ∙ ap length are ∙ count in
      let less : n < length parts = subst (λ k. n < k) (sym reach) (place-below c p n up.limited at) in
      let has : is_some (slice_get parts n) ≡ true = within parts n less in
      (has, there p n at (slice_get parts n) refl has)

  together : AreTogether c world parts nothing_held
  together = record {
    places = λ p set. (at-home p (place_of c p) refl (placed c p up.limited set)).0;
    home = λ p set free. (at-home p (place_of c p) refl (placed c p up.limited set)).1;
    hand = λ p held. absurd (true≢false (sym held));
    shows = λ n held. absurd (true≢false (sym held));
    whole = λ p held set. absurd (true≢false (sym held));
  }

  pub row-of : (row : Row) → row.parts.items ≡ parts → configuration_in row.settings ≡ configuration_in key → holding row.held ≡ nothing_held → row.count ≡ length log
      → IsRowOf (configuration_in key) (world_after (configuration_in key) log) row
  row-of row same settings held counted = record {
    settings = settings;
    after = subst (λ (n : ℕ). IsWorldAfter c n world) (sym counted) (up-world c log up);
    together = subst (λ (ps : List Part). AreTogether c world ps (holding row.held)) (sym same) (subst (AreTogether c world parts) (sym held) together);
    empty = λ p. ap (λ h. h.parts p) held;
  }

-- ---- the entries as a history

events-kept : (j : List Entry) → map (λ (e : EntryValue). e.event) (map entry_of j) ≡ map (λ (k : Kept). k.1) (kept_of j)
events-kept [] = refl
events-kept (e ∷ es) = ap (λ (l : List Event). e.event ∷ l) (events-kept es)

events-stamped : (n : ℕ) (log : List Told) → map (λ (k : Kept). k.1) (stamped_from n log) ≡ map (λ (t : Told). t.event) log
events-stamped n [] = refl
events-stamped n (t ∷ ts) = ap (λ (l : List Event). t.event ∷ l) (events-stamped (suc n) ts)

length-stamped : (n : ℕ) (log : List Told) → length (stamped_from n log) ≡ length log
length-stamped n [] = refl
length-stamped n (t ∷ ts) = ap suc (length-stamped (suc n) ts)

events-of : (j : List Entry) → map (λ (e : EntryValue). e.event) (map entry_of j) ≡ map (λ (e : Entry). e.event) j
events-of [] = refl
events-of (e ∷ es) = ap (λ (l : List Event). e.event ∷ l) (events-of es)

marks-of : (j : List Entry) → map (λ (e : EntryValue). e.marks) (map entry_of j) ≡ map (λ (e : Entry). e.marks.marks) j
marks-of [] = refl
marks-of (e ∷ es) = ap (λ (l : List (List Mark)). e.marks.marks ∷ l) (marks-of es)

-- as many entries as the list of the machine has
pub as-many : (key : Settings) (v : Known) (j : List Entry) (shared : List PartValue) → (left : AreRemains key v j shared) → length j ≡ length left.history.log
as-many key v j shared left = sym (length-map j _) ∙ ap length left.history.kept ∙ length-stamped 0 left.history.log

pub few-entries : (key : Settings) (v : Known) (j : List Entry) (shared : List PartValue) → AreRemains key v j shared → length j < 2 ^ 32
few-entries key v j shared left = omega (arith, as-many key v j shared left, left.history.up.few)

-- no more lines are left than there were
fewer-left : (consumers : List (List Line)) (done : List ℕ) → sum_by (λ (lines : List Line). length lines) (lines_behind consumers done) ≤ sum_by (λ (lines : List Line). length lines) consumers
fewer-left [] done = omega arith
fewer-left (c ∷ cs) [] = omega arith
fewer-left (c ∷ cs) (d ∷ ds) = omega (
  arith,
  sum_by-cons (λ (lines : List Line). length lines) (drop d c) (lines_behind cs ds),
  sum_by-cons (λ (lines : List Line). length lines) c cs,
  length-drop d c,
  fewer-left cs ds,
)

-- ---- the stage

module _ (s : ScriptValue) (key : Settings) (settings : configuration_in key ≡ s.config) (v : Known) (j : List Entry) (shared : List PartValue) (left : AreRemains key v j shared)
    (done : List ℕ) (worked : HasWorked s v.entries (lines_behind s.consumers done))
    (in_list : (s : ScriptValue) (entries : List (ℕ × Told)) (log : List Told) (left : List (List Line)) → HasWorked s entries left
    → ((m : ℕ) (e : Told) → Has (m, e) entries → slice_get log m ≡ Some e) → ((m : ℕ) (e : Told) → slice_get log m ≡ Some e → Has (m, e) entries) → HasWorked s (numbered 0 log) left)
    (of_script : (s : ScriptValue) (log : List Told) (left : List (List Line)) (es : List EntryValue) → IsUp s.config log → HasWorked s (numbered 0 log) left
    → map (λ (e : EntryValue). e.event) es ≡ map (λ (e : Told). e.event) log → LeadsTo s es (stage_after s log es left))
    (p : Progress) (row_settings : configuration_in p.row.settings ≡ s.config) (parts : map value_of p.row.parts.items ≡ shared) (held : holding p.row.held ≡ nothing_held)
    (count : p.row.count ≡ length j) (history : p.history ≡ map entry_of j) (lines : p.done.items ≡ done) where
  abbrev log : List Told
  log = left.history.log

  abbrev es : List EntryValue
  es = map entry_of j

  up : IsUp s.config log
  up = subst (λ c. IsUp c log) settings left.history.up

  abbrev g : Stage
  g = stage_after s log es (lines_behind s.consumers done)

  events : map (λ (e : EntryValue). e.event) es ≡ map (λ (e : Told). e.event) log
  events = events-kept j ∙ ap (map (λ (k : Kept). k.1)) left.history.kept ∙ events-stamped 0 log

  leads : LeadsTo s es g
  leads = of_script s log (lines_behind s.consumers done) es up (in_list s v.entries log (lines_behind s.consumers done) worked left.history.receipts left.all) events

  follows : Follows s.config zeros es
  follows = ap (run_over s.config zeros) (events-of j) ∙ subst (λ c. run_over c zeros (map (λ (e : Entry). e.event) j) ≡ Ok (map (λ (e : Entry). e.marks.marks) j)) settings left.history.runs
      ∙ ap Ok (sym (marks-of j))

  row : IsRowOf s.config (world_after s.config log) p.row
  row = subst (λ c. IsRowOf c (world_after c log) p.row) settings
      (row-of key log left.history.up p.row.parts.items shared parts left.count left.stand p.row refl (row_settings ∙ sym settings) held (count ∙ as-many key v j shared left))

  at : IsAt s g p
  at = record {
    row = row;
    count = count ∙ as-many key v j shared left;
    numbered = length-reverse es ∙ length-map j entry_of ∙ as-many key v j shared left;
    past = history ∙ sym (reverse-reverse es);
    left = ap (lines_behind s.consumers) (sym lines);
  }

  pub gathered : IsGathered s p
  gathered = record {
    stage = g;
    at = at;
    reached = record {
      follows = subst (Follows s.config zeros) (sym (reverse-reverse es)) follows;
      leads = subst (λ (l : List EntryValue). LeadsTo s l g) (sym (reverse-reverse es)) leads;
      lines = fewer-left s.consumers done;
    };
  }
