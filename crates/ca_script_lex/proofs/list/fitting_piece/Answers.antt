use Rattle.ca_script_lex.proofs.FrontLemmas.{piece_is}
use Rattle.ca_script_lex.proofs.list.fitting_piece.Goals as goal

pub returns : goal.returns
returns c =
    let key = c.in_ok-key in
    let address = c.in_ok-address in
    let count = c.in_ok-length in
    piece_is key.key address.address count.length c.args.word.now key.rest.now address.rest.now key.ensures.number key.ensures.high address.ensures.number address.ensures.high count.ensures.number count.ensures.value count.ensures.high
