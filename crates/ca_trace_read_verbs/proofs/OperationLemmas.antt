-- What a send request asks for is read from its words as what it is.
use Rattle.std.proofs.Common.{◌≡◌, ◌++◌, Some, refl}
use Rattle.ca_base.specs.declared.request.SendOp.{SendOp}
use Rattle.ca_base.specs.declared.request.SendOp.TheVariants as ops
use Rattle.ca_trace_lex.specs.ca_trace_print.Verbs.{operation_words}
use Rattle.ca_trace_lex.specs.ca_trace_print.Words.{words}
use Rattle.ca_trace_lex.specs.Fits.{AllFit}
use Rattle.ca_trace_lex.proofs.WordLemmas.{key_again, address_again, pages_again, pieces_again, rights_again}
use Rattle.ca_trace_lex.proofs.FieldLemmas.{u8, u16, u32, u64}
use Rattle.ca_trace_read_verbs.specs.Operations.{send_at, send_imm_at, send_inv_at, write_at, write_imm_at, read_at, cmp_swap_at, fetch_add_at, bind1_at, bind2_at, fast_reg_at, local_inv_at, local_at, operation_at}
use Rattle.ca_trace_lex.specs.Fields.{Words}

pub operation_again : (op : SendOp) (rest : Words) → AllFit (operation_words op) → operation_at (words (operation_words op) ++ rest) ≡ Some (op, rest)
unfolding operation_at local_at send_at send_imm_at send_inv_at write_at write_imm_at read_at cmp_swap_at fetch_add_at bind1_at bind2_at fast_reg_at local_inv_at
operation_again (ops.Send list) rest h = rw (pieces_again list.items h.1.0.0 h.1.0.1) refl
operation_again (ops.SendImm imm list) rest h = rw (u32 imm h.1.0, pieces_again list.items h.1.1.0.0 h.1.1.0.1) refl
operation_again (ops.SendInv key list) rest h = rw (key_again key h.1.0, pieces_again list.items h.1.1.0.0 h.1.1.0.1) refl
operation_again (ops.Write at key list) rest h = rw (address_again at h.1.0, key_again key h.1.1.0, pieces_again list.items h.1.1.1.0.0 h.1.1.1.0.1) refl
operation_again (ops.WriteImm at key imm list) rest h = rw (address_again at h.1.0, key_again key h.1.1.0, u32 imm h.1.1.1.0, pieces_again list.items h.1.1.1.1.0.0 h.1.1.1.1.0.1) refl
operation_again (ops.Read at key list) rest h = rw (address_again at h.1.0, key_again key h.1.1.0, pieces_again list.items h.1.1.1.0.0 h.1.1.1.0.1) refl
operation_again (ops.CmpSwap at key a b list) rest h = rw (address_again at h.1.0, key_again key h.1.1.0, u64 a h.1.1.1.0, u64 b h.1.1.1.1.0, pieces_again list.items h.1.1.1.1.1.0.0 h.1.1.1.1.1.0.1) refl
operation_again (ops.FetchAdd at key a list) rest h = rw (address_again at h.1.0, key_again key h.1.1.0, u64 a h.1.1.1.0, pieces_again list.items h.1.1.1.1.0.0 h.1.1.1.1.0.1) refl
operation_again (ops.Bind1 w region at n r) rest h = rw (u16 w h.1.0, key_again region h.1.1.0, address_again at h.1.1.1.0, u32 n h.1.1.1.1.0, rights_again r) refl
operation_again (ops.Bind2 w region low at n r) rest h = rw (u16 w h.1.0, key_again region h.1.1.0, u8 low h.1.1.1.0, address_again at h.1.1.1.1.0, u32 n h.1.1.1.1.1.0, rights_again r) refl
operation_again (ops.FastReg w low b at n r pages) rest h = rw (u16 w h.1.0, u8 low h.1.1.0, u16 b h.1.1.1.0, address_again at h.1.1.1.1.0, u32 n h.1.1.1.1.1.0, rights_again r, pages_again pages h.1.1.1.1.1.1.1.0) refl
operation_again (ops.LocalInv key) rest h = rw (key_again key h.1.0) refl
