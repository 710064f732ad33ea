use Rattle.std.proofs.Common.{length, false}
use Rattle.ca_isolation.proofs.PutLemmas.{bare-extent, fewer, put-bare, when-ok}
use Rattle.ca_isolation.proofs.stores.Stores.put_extent.Goals as goal
use Rattle.ca_isolation.specs.Extents.{bytes_of_extent, place_of}

pub returns-in-Bare : goal.returns-in-Bare
returns-in-Bare c = when-ok c.end.result (λ stored cover is. put-bare cover (place_of c.args.at) c.args.bytes.now c.args.self.now c.end.new.self c.requires.some stored
    (fewer cover false (place_of c.args.at) (length c.args.bytes.now) (bytes_of_extent c.args.extent) c.requires.within (bare-extent cover c.args.at c.args.extent _ c.in-Bare.is is))) c.end.ensures
