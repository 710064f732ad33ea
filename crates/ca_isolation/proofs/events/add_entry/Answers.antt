use Rattle.std.proofs.Common.{rules, map, subst}
use Rattle.ca_isolation.specs.Alone.{store_event, stretches_of_marks}
use Rattle.ca_isolation.specs.Groups.{group_of}
use Rattle.ca_isolation.proofs.FollowLemmas.{follows-other}
use Rattle.ca_isolation.proofs.PutLemmas.{when-ok}
use Rattle.ca_isolation.proofs.events.add_entry.Goals as goal
use Rattle.ca_isolation.specs.Cover.{covers}
use Rattle.ca_isolation.specs.Putting.{HasFollowed}
use Rattle.ca_model.specs.Entries.{entry_of}
use Rattle.ca_model.specs.Past.{after_marks, at_begin}

pub returns-else-is_own : goal.returns-else-is_own
returns-else-is_own c = when-ok c.add_stores.result
    (λ followed past are. follows-other (group_of c.args.group.now) (covers c.args.cover.now) past (entry_of c.args.entry.now) c.args.stores.now c.add_stores.new.stores c.add_stores.new.in_force.items (search rules)
    (subst (λ ms. HasFollowed (map store_event (stretches_of_marks (covers c.args.cover.now) (at_begin c.args.entry.now.event past) ms)) (after_marks ms (at_begin c.args.entry.now.event past)) c.args.stores.now c.add_stores.new.stores c.add_stores.new.in_force.items)
    c.as_slice-else-is_own.ensures (followed (at_begin c.args.entry.now.event past) are)))
    c.add_stores.ensures
