use Rattle.std.proofs.Common.{◌≡◌, ◌++◌, take}
use Rattle.std.specs.List.{flat_map}
use Rattle.ca_trace.specs.Trace.{reply_text}
use Rattle.ca_trace_output.proofs.text.put_replies.Given as goal

abbrev pub invariant-loop-reply : goal.invariant-loop-reply
invariant-loop-reply l = l.out.items ≡ l.initial.out.items ++ flat_map reply_text (take l.reply-index l.replies)
