use Rattle.std.proofs.Common.{arith, rules, sym}
use Rattle.ca_wire.proofs.DecoderLaws.{is_only, is_read, is_refused, found_so, only_so, taken_so, placed_so, no_header, no_body, whole_packet}
use Rattle.ca_wire.proofs.decoding.decode.Goals as goal

pub returns-in_err-bth-clause-value : goal.returns-in_err-bth-clause-value
returns-in_err-bth-clause-value c = is_read c.from_residual.result _ (no_header c.from_residual.result c.args.bytes.now c.in_err-bth.field-0.0 (search rules) c.in_err-bth.ensures.value)

pub returns-in_err-bth-clause-only : goal.returns-in_err-bth-clause-only
returns-in_err-bth-clause-only c = λ f s. is_only c.from_residual.result c.args.bytes.now f (no_header c.from_residual.result c.args.bytes.now c.in_err-bth.field-0.0 (search rules) c.in_err-bth.ensures.value) s

pub returns-in_err-bth-clause-refused : goal.returns-in_err-bth-clause-refused
returns-in_err-bth-clause-refused c = is_refused c.from_residual.result c.args.bytes.now (λ i. omega (arith, c.type_inv.bytes i)) (no_header c.from_residual.result c.args.bytes.now c.in_err-bth.field-0.0 (search rules) c.in_err-bth.ensures.value)

pub returns-in_err-headers-clause-value : goal.returns-in_err-headers-clause-value
returns-in_err-headers-clause-value c = is_read c.from_residual-in_err-headers.result _ (no_body c.from_residual-in_err-headers.result c.args.bytes.now c.in_ok-bth.rest.now c.in_ok-bth.bth c.in_err-headers.field-0.0 (search rules) c.in_ok-bth.ensures.value c.in_err-headers.ensures)

pub returns-in_err-headers-clause-only : goal.returns-in_err-headers-clause-only
returns-in_err-headers-clause-only c = λ f s. is_only c.from_residual-in_err-headers.result c.args.bytes.now f (no_body c.from_residual-in_err-headers.result c.args.bytes.now c.in_ok-bth.rest.now c.in_ok-bth.bth c.in_err-headers.field-0.0 (search rules) c.in_ok-bth.ensures.value c.in_err-headers.ensures) s

pub returns-in_err-headers-clause-refused : goal.returns-in_err-headers-clause-refused
returns-in_err-headers-clause-refused c = is_refused c.from_residual-in_err-headers.result c.args.bytes.now (λ i. omega (arith, c.type_inv.bytes i)) (no_body c.from_residual-in_err-headers.result c.args.bytes.now c.in_ok-bth.rest.now c.in_ok-bth.bth c.in_err-headers.field-0.0 (search rules) c.in_ok-bth.ensures.value c.in_err-headers.ensures)

pub returns-clause-value : goal.returns-clause-value
returns-clause-value c = sym (whole_packet c.args.bytes.now c.in_ok-bth.rest.now c.in_ok-bth.bth (c.in_ok-headers.headers, c.in_ok-headers.payload.now) c.in_ok-bth.ensures.value c.in_ok-headers.ensures)

pub returns-clause-found : goal.returns-clause-found
returns-clause-found c = found_so c.args.bytes.now _ (λ i. omega (arith, c.type_inv.bytes i)) (whole_packet c.args.bytes.now c.in_ok-bth.rest.now c.in_ok-bth.bth (c.in_ok-headers.headers, c.in_ok-headers.payload.now) c.in_ok-bth.ensures.value c.in_ok-headers.ensures)

pub returns-clause-only : goal.returns-clause-only
returns-clause-only c = λ f s. only_so c.args.bytes.now _ f (whole_packet c.args.bytes.now c.in_ok-bth.rest.now c.in_ok-bth.bth (c.in_ok-headers.headers, c.in_ok-headers.payload.now) c.in_ok-bth.ensures.value c.in_ok-headers.ensures) s

pub returns-clause-taken : goal.returns-clause-taken
returns-clause-taken c = taken_so c.args.bytes.now _ (λ i. omega (arith, c.type_inv.bytes i)) (whole_packet c.args.bytes.now c.in_ok-bth.rest.now c.in_ok-bth.bth (c.in_ok-headers.headers, c.in_ok-headers.payload.now) c.in_ok-bth.ensures.value c.in_ok-headers.ensures)

pub returns-clause-payload : goal.returns-clause-payload
returns-clause-payload c = placed_so c.args.bytes.now _ (λ i. omega (arith, c.type_inv.bytes i)) (whole_packet c.args.bytes.now c.in_ok-bth.rest.now c.in_ok-bth.bth (c.in_ok-headers.headers, c.in_ok-headers.payload.now) c.in_ok-bth.ensures.value c.in_ok-headers.ensures)
