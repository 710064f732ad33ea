use Rattle.ca_run_race.proofs.EntryLemmas.{may-push, pushed-more}
use Rattle.ca_run_race.proofs.gathering.history_of.Goals as goal

pub push-requires : goal.push-requires
push-requires c = may-push c.loop-entry.history c.loop-entry.entries.items c.pop.new.self.items c.args.entries.items c.in-Some.entry c.loop-entry.invariant c.in-Some.ensures.items c.requires

pub loop-entry-preserved : goal.loop-entry-preserved
loop-entry-preserved c = pushed-more c.loop-entry.history c.push.new.self c.loop-entry.entries.items c.pop.new.self.items c.args.entries.items c.in-Some.entry c.loop-entry.invariant c.in-Some.ensures.items
    c.in_ok-push.ensures.ok
