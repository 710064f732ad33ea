-- Operations: what the words of a send request are read as, by the table that prints them. It is lenient: what is read
-- need not print so. Contracts cite it.
use Rattle.std.specs.Prelude.{ℕ, if◌then◌else◌, List, Option, Some, None, codes}
use Rattle.std.specs.Str.{bytes_eq}
use Rattle.ca_base.specs.declared.request.SendOp.{SendOp}
use Rattle.ca_base.specs.declared.request.SendOp.TheVariants as ops
use Rattle.ca_trace_lex.specs.Words.{◌>>=◌, next_of, field, key_in, address_in, list_in, pieces_in}
use Rattle.ca_trace_lex.specs.Fields.{Words, u8_in, u16_in, u32_in, u64_in, rights_at}

unfoldable pub send_at : Words → Option (SendOp × Words)
send_at ws = do
  list ← field pieces_in ws
  Some (ops.Send (record { items = list.0 }), list.1)

unfoldable pub send_imm_at : Words → Option (SendOp × Words)
send_imm_at ws = do
  imm ← field u32_in ws
  list ← field pieces_in imm.1
  Some (ops.SendImm imm.0 (record { items = list.0 }), list.1)

unfoldable pub send_inv_at : Words → Option (SendOp × Words)
send_inv_at ws = do
  key ← field key_in ws
  list ← field pieces_in key.1
  Some (ops.SendInv key.0 (record { items = list.0 }), list.1)

unfoldable pub write_at : Words → Option (SendOp × Words)
write_at ws = do
  address ← field address_in ws
  key ← field key_in address.1
  list ← field pieces_in key.1
  Some (ops.Write address.0 key.0 (record { items = list.0 }), list.1)

unfoldable pub write_imm_at : Words → Option (SendOp × Words)
write_imm_at ws = do
  address ← field address_in ws
  key ← field key_in address.1
  imm ← field u32_in key.1
  list ← field pieces_in imm.1
  Some (ops.WriteImm address.0 key.0 imm.0 (record { items = list.0 }), list.1)

unfoldable pub read_at : Words → Option (SendOp × Words)
read_at ws = do
  address ← field address_in ws
  key ← field key_in address.1
  list ← field pieces_in key.1
  Some (ops.Read address.0 key.0 (record { items = list.0 }), list.1)

unfoldable pub cmp_swap_at : Words → Option (SendOp × Words)
cmp_swap_at ws = do
  address ← field address_in ws
  key ← field key_in address.1
  compare ← field u64_in key.1
  swap ← field u64_in compare.1
  list ← field pieces_in swap.1
  Some (ops.CmpSwap address.0 key.0 compare.0 swap.0 (record { items = list.0 }), list.1)

unfoldable pub fetch_add_at : Words → Option (SendOp × Words)
fetch_add_at ws = do
  address ← field address_in ws
  key ← field key_in address.1
  add ← field u64_in key.1
  list ← field pieces_in add.1
  Some (ops.FetchAdd address.0 key.0 add.0 (record { items = list.0 }), list.1)

unfoldable pub bind1_at : Words → Option (SendOp × Words)
bind1_at ws = do
  window ← field u16_in ws
  region ← field key_in window.1
  address ← field address_in region.1
  count ← field u32_in address.1
  rights ← rights_at count.1
  Some (ops.Bind1 window.0 region.0 address.0 count.0 rights.0, rights.1)

unfoldable pub bind2_at : Words → Option (SendOp × Words)
bind2_at ws = do
  window ← field u16_in ws
  region ← field key_in window.1
  low ← field u8_in region.1
  address ← field address_in low.1
  count ← field u32_in address.1
  rights ← rights_at count.1
  Some (ops.Bind2 window.0 region.0 low.0 address.0 count.0 rights.0, rights.1)

unfoldable pub fast_reg_at : Words → Option (SendOp × Words)
fast_reg_at ws = do
  region ← field u16_in ws
  low ← field u8_in region.1
  buffer ← field u16_in low.1
  address ← field address_in buffer.1
  count ← field u32_in address.1
  rights ← rights_at count.1
  pages ← field (list_in u16_in) rights.1
  Some (ops.FastReg region.0 low.0 buffer.0 address.0 count.0 rights.0 pages.0, pages.1)

unfoldable pub local_inv_at : Words → Option (SendOp × Words)
local_inv_at ws = do
  key ← field key_in ws
  Some (ops.LocalInv key.0, key.1)

unfoldable pub local_at : List ℕ → Words → Option (SendOp × Words)
local_at name ws =
    if bytes_eq name (codes "bind1") then bind1_at ws
    else if bytes_eq name (codes "bind2") then bind2_at ws
    else if bytes_eq name (codes "fastreg") then fast_reg_at ws
    else if bytes_eq name (codes "inv") then local_inv_at ws
    else None

unfoldable pub operation_at : Words → Option (SendOp × Words)
operation_at ws = do
  name ← next_of ws
  if bytes_eq name.0 (codes "send") then send_at name.1
      else if bytes_eq name.0 (codes "sendimm") then send_imm_at name.1
      else if bytes_eq name.0 (codes "sendinv") then send_inv_at name.1
      else if bytes_eq name.0 (codes "write") then write_at name.1
      else if bytes_eq name.0 (codes "writeimm") then write_imm_at name.1
      else if bytes_eq name.0 (codes "read") then read_at name.1
      else if bytes_eq name.0 (codes "cas") then cmp_swap_at name.1
      else if bytes_eq name.0 (codes "add") then fetch_add_at name.1
      else local_at name.0 name.1
