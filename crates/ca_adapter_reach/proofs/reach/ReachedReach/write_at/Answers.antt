use Rattle.std.proofs.Common.{◌≡◌, List, ap, ◌∙◌}
use Rattle.ca_keys.specs.declared.place.Run.{Run}
use Rattle.ca_adapter_reach.specs.Changed.{after_write_by, put_buffers, with_runs}
use Rattle.ca_adapter_reach.specs.Laws.{write_is_seen}
use Rattle.ca_adapter_reach.specs.Seen.{sight_of}
use Rattle.ca_adapter_reach.proofs.reach.ReachedReach.write_at.Goals as goal

pub returns-clause-sees : goal.returns-clause-sees
returns-clause-sees c =
    let r = c.args.self.now in
    let put : c.write_span.new.reached ≡ after_write_by r c.args.ask.now c.args.bytes.now =
    c.write_span.ensures.put
    ∙ ap (λ (rs : List Run). put_buffers r (with_runs rs c.args.bytes.now r.buffers.things)) c.requires.found.places in
    ap sight_of put ∙ write_is_seen r c.args.ask.now c.args.bytes.now c.requires.bytes_at_hand c.requires.count
