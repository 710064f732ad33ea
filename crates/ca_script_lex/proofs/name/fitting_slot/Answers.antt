use Rattle.ca_script_lex.proofs.FrontLemmas.{slot_is}
use Rattle.ca_script_lex.proofs.name.fitting_slot.Goals as goal

pub returns : goal.returns
returns c =
    let adapter = c.in_ok-adapter in
    let domain = c.in_ok-domain in
    let slot = c.in_ok-slot in
    slot_is adapter.adapter domain.domain slot.slot c.args.word.now adapter.rest.now domain.rest.now adapter.ensures.number adapter.ensures.high domain.ensures.number domain.ensures.high slot.ensures.number slot.ensures.value slot.ensures.high
