use Rattle.ca_base.specs.Configuration.{configuration_in}
use Rattle.ca_model.specs.declared.event.Event.TheVariants as events
use Rattle.ca_adapter.proofs.TurnLemmas.{of-event, turn_bound, turn_counts, turn_fits, turn_named, turn_suffices, turn_windows}
use Rattle.ca_adapter.proofs.events.act_held.Goals as goal

pub respond-requires-clause-suffices : goal.respond-requires-clause-suffices
respond-requires-clause-suffices c = turn_suffices (configuration_in c.args.settings.now) (events.Respond c.in-Respond.queue c.in-Respond.lot) c.args.held.now (of-event c.in-Respond.is c.requires.ready)

pub respond-requires-clause-named : goal.respond-requires-clause-named
respond-requires-clause-named c = turn_named (configuration_in c.args.settings.now) (events.Respond c.in-Respond.queue c.in-Respond.lot) c.args.held.now (of-event c.in-Respond.is c.requires.ready) c.in-Respond.queue

pub respond-requires-clause-fits : goal.respond-requires-clause-fits
respond-requires-clause-fits c = turn_fits (configuration_in c.args.settings.now) (events.Respond c.in-Respond.queue c.in-Respond.lot) c.args.held.now (of-event c.in-Respond.is c.requires.ready) (record {})

pub timeout-requires-clause-suffices : goal.timeout-requires-clause-suffices
timeout-requires-clause-suffices c = turn_suffices (configuration_in c.args.settings.now) (events.Timeout c.in-Timeout.queue c.in-Timeout.hasten) c.args.held.now (of-event c.in-Timeout.is c.requires.ready)

pub timeout-requires-clause-named : goal.timeout-requires-clause-named
timeout-requires-clause-named c = turn_named (configuration_in c.args.settings.now) (events.Timeout c.in-Timeout.queue c.in-Timeout.hasten) c.args.held.now (of-event c.in-Timeout.is c.requires.ready) c.in-Timeout.queue

pub timeout-requires-clause-fits : goal.timeout-requires-clause-fits
timeout-requires-clause-fits c = turn_fits (configuration_in c.args.settings.now) (events.Timeout c.in-Timeout.queue c.in-Timeout.hasten) c.args.held.now (of-event c.in-Timeout.is c.requires.ready) (record {})

pub rnr_wake-requires-clause-suffices : goal.rnr_wake-requires-clause-suffices
rnr_wake-requires-clause-suffices c = turn_suffices (configuration_in c.args.settings.now) (events.RnrWake c.in-RnrWake.queue) c.args.held.now (of-event c.in-RnrWake.is c.requires.ready)

pub rnr_wake-requires-clause-named : goal.rnr_wake-requires-clause-named
rnr_wake-requires-clause-named c = turn_named (configuration_in c.args.settings.now) (events.RnrWake c.in-RnrWake.queue) c.args.held.now (of-event c.in-RnrWake.is c.requires.ready) c.in-RnrWake.queue

pub deliver-requires-clause-suffices : goal.deliver-requires-clause-suffices
deliver-requires-clause-suffices c = turn_suffices (configuration_in c.args.settings.now) (events.Deliver c.in-Deliver.queue c.in-Deliver.index) c.args.held.now (of-event c.in-Deliver.is c.requires.ready)

pub deliver-requires-clause-needs : goal.deliver-requires-clause-needs
deliver-requires-clause-needs c = (of-event {e = events.Deliver c.in-Deliver.queue c.in-Deliver.index} c.in-Deliver.is c.requires.ready).next

pub deliver-requires-clause-count : goal.deliver-requires-clause-count
deliver-requires-clause-count c = turn_counts (configuration_in c.args.settings.now) c.args.event.now c.args.held.now c.requires.ready c.in-Deliver.queue c.in-Deliver.index

pub deliver-requires-clause-fits : goal.deliver-requires-clause-fits
deliver-requires-clause-fits c = turn_fits (configuration_in c.args.settings.now) (events.Deliver c.in-Deliver.queue c.in-Deliver.index) c.args.held.now (of-event c.in-Deliver.is c.requires.ready) (record {})

pub request-requires-clause-suffices : goal.request-requires-clause-suffices
request-requires-clause-suffices c = turn_suffices (configuration_in c.args.settings.now) (events.Request c.in-Request.queue c.in-Request.lot) c.args.held.now (of-event c.in-Request.is c.requires.ready)

pub request-requires-clause-named : goal.request-requires-clause-named
request-requires-clause-named c = turn_named (configuration_in c.args.settings.now) (events.Request c.in-Request.queue c.in-Request.lot) c.args.held.now (of-event c.in-Request.is c.requires.ready) c.in-Request.queue

pub request-requires-clause-few : goal.request-requires-clause-few
request-requires-clause-few c = turn_windows (configuration_in c.args.settings.now) (events.Request c.in-Request.queue c.in-Request.lot) c.args.held.now (of-event c.in-Request.is c.requires.ready) c.in-Request.queue

pub request-requires-clause-room : goal.request-requires-clause-room
request-requires-clause-room c = turn_bound (configuration_in c.args.settings.now) (events.Request c.in-Request.queue c.in-Request.lot) c.args.held.now (of-event c.in-Request.is c.requires.ready)

pub request-requires-clause-fits : goal.request-requires-clause-fits
request-requires-clause-fits c = turn_fits (configuration_in c.args.settings.now) (events.Request c.in-Request.queue c.in-Request.lot) c.args.held.now (of-event c.in-Request.is c.requires.ready) (record {})
