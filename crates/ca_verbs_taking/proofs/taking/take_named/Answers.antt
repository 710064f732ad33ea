use Rattle.std.proofs.Common.{◌≡◌, ◌<◌, ◌∙◌, arith, ap, is_some, subst, sym, true≢false}
use Rattle.ca_base.specs.Configuration.{configuration_in}
use Rattle.ca_base.specs.declared.settings.Settings.{Settings}
use Rattle.ca_parts.specs.Rows.{settings_of}
use Rattle.ca_model_places.proofs.AmongLemmas.{place-below}
use Rattle.ca_model_places.specs.Places.{place_of}
use Rattle.ca_verbs_taking.proofs.TakeLemmas as take
use Rattle.ca_verbs_taking.proofs.taking.take_named.Goals as goal

pub unreachable-requires : goal.unreachable-requires
unreachable-requires c = true≢false (sym (take.next-placed _ _ _ _ _ _ _ c.requires.amid.1 c.requires.next)
    ∙ ap is_some (ap (λ (k : Settings). place_of (configuration_in k) c.args.name) (sym c.settings.ensures) ∙ sym c.place.ensures ∙ c.in_default.is))

pub take_for-requires-clause-part : goal.take_for-requires-clause-part
take_for-requires-clause-part c = subst (λ k. c.in-Some.at < k) (sym c.requires.row) (place-below _ c.args.name c.in-Some.at c.requires.amid.1.limited
    (take.place-is _ _ c.args.name _ _ c.settings.ensures c.place.ensures c.in-Some.is))

pub take_for-requires-clause-may : goal.take_for-requires-clause-may
take_for-requires-clause-may c = take.may-take _ _ _ _ _ _ _ c.requires.amid.1 c.requires.next _ (take.place-is _ _ c.args.name _ _ c.settings.ensures c.place.ensures c.in-Some.is)

pub returns-in_default-take_for-clause-stopped : goal.returns-in_default-take_for-clause-stopped
returns-in_default-take_for-clause-stopped c = take.was-busy _ _ _ _ _ _ _ c.requires.amid.1 c.requires.next _ (take.place-is _ _ c.args.name _ _ c.settings.ensures c.place.ensures c.in-Some.is)
    _ c.in_default-take_for.ensures.busy c.in_default-take_for.ensures.not_alone c.in_default-take_for.ensures.refusal

pub give-requires-clause-in_hand : goal.give-requires-clause-in_hand
give-requires-clause-in_hand c = take.has-taken _ _ _ _ _ _ _ c.requires.amid.1 c.requires.next _ (take.place-is _ _ c.args.name _ _ c.settings.ensures c.place.ensures c.in-Some.is)
    _ _ _ _ _ c.in-Ok.ensures.took.0 c.in-Ok.ensures.took.1 c.look-n.ensures.noted c.look-n.ensures.sees

pub returns-then-n-from-clause-holding : goal.returns-then-n-from-clause-holding
returns-then-n-from-clause-holding c = take.still-holding _ _ _ _ _ _ _ c.requires.amid.1 c.requires.next _ (take.place-is _ _ c.args.name _ _ c.settings.ensures c.place.ensures c.in-Some.is)
    _ _ _ _ _ c.in-Ok.ensures.took.0 c.in-Ok.ensures.took.1 c.look-n.ensures.noted c.look-n.ensures.sees _ c.give.ensures.gave

pub returns-then-n-from-clause-stopped : goal.returns-then-n-from-clause-stopped
returns-then-n-from-clause-stopped c =
    let limit : c.from.result ≡ (settings_of c.args.parts.now).events = c.from.ensures ∙ ap (λ (k : Settings). k.events) c.settings.ensures in
    take.was-full _ _ _ _ _ _ _ c.requires.amid.1 c.requires.next _ (take.place-is _ _ c.args.name _ _ c.settings.ensures c.place.ensures c.in-Some.is)
    _ _ _ _ _ c.in-Ok.ensures.took.0 c.in-Ok.ensures.took.1 c.look-n.ensures.noted c.look-n.ensures.sees _ (omega (arith, limit, c.if-n-from.true)) c.give.ensures.gave

pub add-requires-clause-kind : goal.add-requires-clause-kind
add-requires-clause-kind c =
    let limit : c.from.result ≡ (settings_of c.args.parts.now).events = c.from.ensures ∙ ap (λ (k : Settings). k.events) c.settings.ensures in
    take.kind-taken _ _ _ _ _ _ _ c.requires.amid.1 c.requires.next _ (take.place-is _ _ c.args.name _ _ c.settings.ensures c.place.ensures c.in-Some.is)
    _ _ _ _ _ c.in-Ok.ensures.took.0 c.in-Ok.ensures.took.1 c.look-n.ensures.noted c.look-n.ensures.sees (omega (arith, limit, c.if-n-from.false)) _ c.into_part.ensures

pub add-requires-clause-free : goal.add-requires-clause-free
add-requires-clause-free c = take.next-free _ _ _ _ _ _ _ c.requires.amid.1 c.requires.next

pub add-requires-clause-room : goal.add-requires-clause-room
add-requires-clause-room c = take.next-room _ _ _ _ _ _ _ c.requires.amid.1 c.requires.next

pub push_reserved-requires : goal.push_reserved-requires
push_reserved-requires c = let few = take.next-few _ _ _ _ _ _ _ c.requires.amid.1 c.requires.next in let room = c.requires.amid.1.capacity in omega (arith, few, room)

pub returns-clause-holding : goal.returns-clause-holding
returns-clause-holding c =
    let limit : c.from.result ≡ (settings_of c.args.parts.now).events = c.from.ensures ∙ ap (λ (k : Settings). k.events) c.settings.ensures in
    take.holds-more _ _ _ _ _ _ _ c.requires.amid.1 c.requires.next _ (take.place-is _ _ c.args.name _ _ c.settings.ensures c.place.ensures c.in-Some.is)
    _ _ _ _ _ c.in-Ok.ensures.took.0 c.in-Ok.ensures.took.1 c.look-n.ensures.noted c.look-n.ensures.sees (omega (arith, limit, c.if-n-from.false)) _ c.into_part.ensures
    _ c.push_reserved.new.self c.add.ensures.held c.push_reserved.ensures.items

pub returns-clause-took : goal.returns-clause-took
returns-clause-took c =
    let limit : c.from.result ≡ (settings_of c.args.parts.now).events = c.from.ensures ∙ ap (λ (k : Settings). k.events) c.settings.ensures in
    let under : c.look-n.result < (settings_of c.args.parts.now).events = omega (arith, limit, c.if-n-from.false) in
    let place = take.place-is _ _ c.args.name _ _ c.settings.ensures c.place.ensures c.in-Some.is in (
      take.amid-more _ _ _ _ _ _ _ c.requires.amid.1 c.requires.next _ place
          _ _ _ _ _ c.in-Ok.ensures.took.0 c.in-Ok.ensures.took.1 c.look-n.ensures.noted c.look-n.ensures.sees under _ c.into_part.ensures
          _ c.push_reserved.new.self c.add.ensures.held c.push_reserved.ensures.items c.add.ensures.room (let same = c.push_reserved.ensures.capacity in let room = c.requires.amid.1.capacity in omega (arith, same, room)),
      take.took-more _ _ _ _ _ _ _ c.requires.amid.1 c.requires.next _ place
          _ _ _ _ _ c.in-Ok.ensures.took.0 c.in-Ok.ensures.took.1 c.look-n.ensures.noted c.look-n.ensures.sees under _ c.into_part.ensures
          _ c.push_reserved.new.self c.add.ensures.held c.push_reserved.ensures.items,
    )
