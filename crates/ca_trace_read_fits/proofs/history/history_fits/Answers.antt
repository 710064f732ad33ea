use Rattle.ca_trace_read_fits.proofs.HistoryLemmas.{entries_fit, few_entries}
use Rattle.ca_trace_read_fits.proofs.history.history_fits.Goals as goal

pub returns : goal.returns
returns c = record {
  history = c.as_slice-entries.ensures.well_formed;
  entries = entries_fit c.args.history.now c.as_slice-entries.result.now c.as_slice-entries.ensures.entries c.as_slice-entries.ensures.well_formed c.entries_hold.ensures;
  few = few_entries c.args.history.now c.as_slice-entries.result.now c.as_slice-entries.ensures.entries c.u64_fits.ensures;
}
