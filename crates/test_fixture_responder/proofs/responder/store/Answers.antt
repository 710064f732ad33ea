use Rattle.std.proofs.Common.{List, length, rules, subst, sym}
use Rattle.ca_keys.specs.declared.place.Run.{Run}
use Rattle.ca_grant.specs.Access.{FitInBytes}
use Rattle.test_fixture_responder.proofs.Kept.{store_fits}
use Rattle.test_fixture_responder.proofs.responder.store.Goals as goal

pub write_span-requires-clause-inside : goal.write_span-requires-clause-inside
write_span-requires-clause-inside c =
    let s = c.args.reach.now in
    let P : List Run → Type 0 = λ rs. FitInBytes (length s.buffer) rs in
    subst P (sym c.in-Ok.ensures.places) (store_fits s c.store_ask-ask.result
    (record { window = c.requires.window; region = c.requires.region; lies = c.requires.lies; counted = c.requires.counted })
    (search rules) (search rules))
