use Rattle.std.proofs.Common.{Option, subst}
use Rattle.std.specs.Prelude.{option_map}
use Rattle.ca_model.specs.declared.entry.Entry.{Entry}
use Rattle.ca_model.specs.Entries.{entry_of}
use Rattle.ca_trace_read.specs.Reader.{Takes}
use Rattle.ca_trace_read.proofs.ReadLemmas.{shown_entry}
use Rattle.ca_trace_read.proofs.whole.take_line.Goals as goal

pub push-requires : goal.push-requires
push-requires c =
    let taken = subst (λ (x : Option Entry). Takes c.args.reader.now c.args.line.now c.line.new.self (option_map entry_of x)) c.in-Some.is c.in_ok-entry.ensures.taken in
    shown_entry c.args.reader.now c.args.history.now c.args.line.now c.line.new.self.reading (entry_of c.in-Some.entry) c.requires taken.taken
