use Rattle.std.proofs.Common.{◌≡◌, ◌++◌, List, length, map, refl, arith}
use Rattle.std.proofs.lemmas.Grind.{common_steps}
use Rattle.std.proofs.lemmas.List.Folds.{flat_map-map}
use Rattle.std.proofs.lemmas.List.{length-map}
use Rattle.std.specs.List.{flat_map}
use Rattle.ca_model.specs.declared.entry.Entry.{Entry}
use Rattle.ca_model.specs.Entries.{EntryValue, entry_of}
use Rattle.ca_trace.specs.Trace.{entry_text, end_text, text}
use Rattle.ca_trace.proofs.history.put_history.Goals as goal

-- the entries' lines and the last line are the text
text_of_entries : (entries : List Entry) (es : List EntryValue) → map entry_of entries ≡ es → flat_map (λ e. entry_text (entry_of e)) entries ++ end_text (length entries) ≡ text es
text_of_entries entries es e = rw (← e, flat_map-map entry_text entry_of entries, length-map) refl

pub returns-clause-ok : goal.returns-clause-ok
returns-clause-ok c =
    let whole = text_of_entries c.as_slice-entries.result.now c.args.h.now c.as_slice-entries.ensures.entries in
    rw (← whole) (grind (arith, common_steps))
