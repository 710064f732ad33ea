-- ReaderView: what the fields of a reader stand for.
use Rattle.ca_trace_read.specs.declared.reader.TraceReader.TheInside.{Inside}
use Rattle.ca_trace_read.specs.ReaderValue.{ReaderValue}
use Rattle.ca_trace_read.specs.ProgressView.{HasRoom, stage_of}

abbrev pub view_of : Inside → ReaderValue
view_of r = record { next = r.next; reading = record { count = r.count; stage = stage_of r.progress } }

abbrev pub IsSound : Inside → Type 0
IsSound r = HasRoom r.progress
