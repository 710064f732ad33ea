use Rattle.std.proofs.Common.{arith}
use Rattle.ca_base.specs.Configuration.{configuration_of}
use Rattle.ca_isolation.specs.Alone.{Isolated}
use Rattle.ca_law_caused.proofs.RelationLemmas.{relations-along}
use Rattle.ca_law_caused.specs.Relations.{HasRelations}
use Rattle.ca_law_isolation.proofs.AloneLemmas.{alone-goes}
use Rattle.ca_model.specs.machine.World.{opening_world}
use Rattle.ca_adapter_opening.specs.Opening.{opening_bytes}
use Rattle.ca_adapter_store.proofs.ReplayLemmas.{from_opening, is_lawful, makes_history}
use Rattle.ca_adapter_store.proofs.events.replay.Goals as goal

pub make_all-requires-clause-few : goal.make_all-requires-clause-few
make_all-requires-clause-few c = omega (arith, c.in_ok-row.ensures.count, c.requires.few)

pub returns-clause-run : goal.returns-clause-run
returns-clause-run c = from_opening (configuration_of c.args.opening.now.config)
    (opening_bytes (configuration_of c.args.opening.now.config) c.args.opening.now.contents) c.in_ok-row.row c.args.events.now c.make_all.result
    c.in_ok-row.ensures.count
    (c.make_all.ensures.run (configuration_of c.args.opening.now.config)
    (opening_world (opening_bytes (configuration_of c.args.opening.now.config) c.args.opening.now.contents)) c.in_ok-row.ensures.world)

pub returns-clause-history : goal.returns-clause-history
returns-clause-history c = makes_history (configuration_of c.args.opening.now.config)
    (opening_bytes (configuration_of c.args.opening.now.config) c.args.opening.now.contents) c.args.events.now c.make_all.result
    (from_opening (configuration_of c.args.opening.now.config)
    (opening_bytes (configuration_of c.args.opening.now.config) c.args.opening.now.contents) c.in_ok-row.row c.args.events.now c.make_all.result
    c.in_ok-row.ensures.count
    (c.make_all.ensures.run (configuration_of c.args.opening.now.config)
    (opening_world (opening_bytes (configuration_of c.args.opening.now.config) c.args.opening.now.contents)) c.in_ok-row.ensures.world))

pub returns-clause-lawful : goal.returns-clause-lawful
returns-clause-lawful c = is_lawful (λ c. HasRelations) relations-along (configuration_of c.args.opening.now.config)
    (opening_bytes (configuration_of c.args.opening.now.config) c.args.opening.now.contents) c.args.events.now c.make_all.result c.requires.limited
    (from_opening (configuration_of c.args.opening.now.config)
    (opening_bytes (configuration_of c.args.opening.now.config) c.args.opening.now.contents) c.in_ok-row.row c.args.events.now c.make_all.result
    c.in_ok-row.ensures.count
    (c.make_all.ensures.run (configuration_of c.args.opening.now.config)
    (opening_world (opening_bytes (configuration_of c.args.opening.now.config) c.args.opening.now.contents)) c.in_ok-row.ensures.world))
    c.make_all.ensures.made

pub returns-clause-isolated : goal.returns-clause-isolated
returns-clause-isolated c = is_lawful (λ c bytes es. Isolated c bytes es) alone-goes (configuration_of c.args.opening.now.config)
    (opening_bytes (configuration_of c.args.opening.now.config) c.args.opening.now.contents) c.args.events.now c.make_all.result c.requires.limited
    (from_opening (configuration_of c.args.opening.now.config)
    (opening_bytes (configuration_of c.args.opening.now.config) c.args.opening.now.contents) c.in_ok-row.row c.args.events.now c.make_all.result
    c.in_ok-row.ensures.count
    (c.make_all.ensures.run (configuration_of c.args.opening.now.config)
    (opening_world (opening_bytes (configuration_of c.args.opening.now.config) c.args.opening.now.contents)) c.in_ok-row.ensures.world))
    c.make_all.ensures.made
