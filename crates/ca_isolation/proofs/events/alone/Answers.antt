use Rattle.std.proofs.Common.{List, [], ap, drop, map, refl, subst, sym}
use Rattle.std.proofs.lemmas.List.{drop_all}
use Rattle.ca_isolation.specs.Groups.{group_of}
use Rattle.ca_keys.specs.declared.grant.Grant.{Grant}
use Rattle.ca_keys.specs.declared.place.Run.{Run}
use Rattle.ca_isolation.proofs.FollowLemmas.{WalksTo, past_with, walks-first, walks-last, walks-more}
use Rattle.ca_isolation.proofs.events.alone.Goals as goal
use Rattle.ca_isolation.specs.Cover.{covers}
use Rattle.ca_isolation.specs.Putting.{HasFollowed, events_instead}
use Rattle.ca_model.specs.Entries.{EntryValue, entry_of}
use Rattle.ca_model.specs.Past.{after_entry, opening_past}
use Rattle.ca_model.specs.declared.event.Event.{Event}

pub loop-entry-init : goal.loop-entry-init
loop-entry-init c = (
  c.none-stores.ensures.front,
  λ bytes.
      subst (λ (ev : List Event). WalksTo (group_of c.args.group.now) (covers c.in_ok-cover.cover.items) (map entry_of c.as_slice-entries.result.now) (opening_past bytes) (map entry_of c.as_slice-entries.result.now) ev c.new-in_force.result.items)
      (sym c.none-stores.ensures.events)
      (subst (λ (gs : List Grant). WalksTo (group_of c.args.group.now) (covers c.in_ok-cover.cover.items) (map entry_of c.as_slice-entries.result.now) (opening_past bytes) (map entry_of c.as_slice-entries.result.now) [] gs)
      (sym c.new-in_force.ensures.items)
      (walks-first (group_of c.args.group.now) (covers c.in_ok-cover.cover.items) (map entry_of c.as_slice-entries.result.now) (opening_past bytes) refl)),
)

pub loop-entry-preserved : goal.loop-entry-preserved
loop-entry-preserved c = (
  (c.in_ok-add_entry.ensures (past_with c.loop-entry.in_force.items) refl).front,
  λ bytes. walks-more entry_of (group_of c.args.group.now) (covers c.in_ok-cover.cover.items) (map entry_of c.as_slice-entries.result.now) (opening_past bytes) c.as_slice-entries.result.now c.loop-entry.entry-index c.entry-item.result
      c.loop-entry.stores c.add_entry.new.stores c.loop-entry.in_force.items c.add_entry.new.in_force.items c.loop-entry-test.true c.entry-item.is
      (λ past are. subst (λ (rs : List Run). HasFollowed (events_instead (group_of c.args.group.now) (covers rs) past (entry_of c.entry-item.result)) (after_entry (entry_of c.entry-item.result) past) c.loop-entry.stores c.add_entry.new.stores c.add_entry.new.in_force.items)
      c.as_slice.ensures.value (c.in_ok-add_entry.ensures past are))
      (c.loop-entry.invariant.1 bytes),
)

pub returns : goal.returns
returns c = λ reach bytes. walks-last (group_of c.args.group.now) c.in_ok-cover.cover.items c.args.h.now bytes (map entry_of (drop c.loop-entry.entry-index c.as_slice-entries.result.now)) c.loop-entry.stores.events.items c.loop-entry.in_force.items
    (c.in_ok-cover.ensures.places reach) (ap (map entry_of) (drop_all c.loop-entry.entry-index c.as_slice-entries.result.now c.loop-entry-test.false))
    (subst (λ (es : List EntryValue). WalksTo (group_of c.args.group.now) (covers c.in_ok-cover.cover.items) es (opening_past bytes) (map entry_of (drop c.loop-entry.entry-index c.as_slice-entries.result.now)) c.loop-entry.stores.events.items c.loop-entry.in_force.items)
    c.as_slice-entries.ensures.entries (c.loop-entry.invariant.1 bytes))
