-- Each verb of a trace is read in a script as itself.
use Rattle.std.proofs.Common.{◌≡◌, ℕ, ◌≤◌, Bool, true, false, eqb, not, ◌||◌, [], length, Ok, decimal, refl, sym, subst, arith, inl, inr}
use Rattle.std.proofs.lemmas.Bool.{cases_Bool, eqb-true, eq-eqb}
use Rattle.ca_base.specs.declared.change.Change.{Change}
use Rattle.ca_base.specs.declared.change.Change.TheVariants as changes
use Rattle.ca_base.specs.declared.request.SendOp.{SendOp}
use Rattle.ca_base.specs.declared.request.SendOp.TheVariants as ops
use Rattle.ca_keys.specs.declared.names.Slot.{Slot}
use Rattle.ca_model.specs.declared.verb.Verb.TheVariants as verbs
use Rattle.ca_trace_print.specs.Verbs.{change_words, operation_words, poll_words}
use Rattle.ca_trace_print.specs.Words.{words}
use Rattle.ca_trace_lex.specs.Fits.{AllFit}
use Rattle.ca_script_lines.specs.Grammar.{consumer_lines, object_lines, change_lines, work_lines, operations, local_operations, pd_row, unpd_row, reg_row, mr_row, dereg_row, mw_row, unmw_row, cq_row, uncq_row, srq_row, unsrq_row, qp_row, unqp_row, query_row, init_row, sqd_row, resume_row, error_row, reset_row, rtr_row, rts_row, post_row, recv_row, srecv_row, poll_row, wait_row, store_row, load_row, inject_row, send_row, send_imm_row, send_inv_row, write_row, write_imm_row, read_row, cmp_swap_row, fetch_add_row, bind1_row, bind2_row, fast_reg_row, local_inv_row}
use Rattle.ca_script_lex.specs.Words.{number}
use Rattle.ca_script_lines.specs.Rows.{read_table}
use Rattle.ca_script_lines.specs.declared.what.What.TheVariants as whats
use Rattle.ca_law_scripts.specs.Agreement.{VerbsAgree, names_pages}
use Rattle.ca_law_scripts.proofs.Lines.WordLemmas.{number_read, key_read, address_read, place_read, domain_read, queue_read, slot_read, optional_read, flags_read, rights_read, hex_read, pieces_read, pages_read}

u8 : (n : ℕ) → n ≤ 255 → number 0 255 (decimal n) ≡ Ok n
u8 n h = number_read n 255 h (omega arith)

u16 : (n : ℕ) → n ≤ 65535 → number 0 65535 (decimal n) ≡ Ok n
u16 n h = number_read n 65535 h (omega arith)

u32 : (n : ℕ) → n ≤ 4294967295 → number 0 4294967295 (decimal n) ≡ Ok n
u32 n h = number_read n 4294967295 h (omega arith)

u64 : (n : ℕ) → n ≤ 18446744073709551615 → number 0 18446744073709551615 (decimal n) ≡ Ok n
u64 n h = number_read n 18446744073709551615 h (omega arith)

operation_said : (op : SendOp) → AllFit (operation_words op) → names_pages op ≡ true → read_table operations (words (operation_words op)) ≡ Ok (op, [])
unfolding operations local_operations send_row send_imm_row send_inv_row write_row write_imm_row read_row cmp_swap_row fetch_add_row bind1_row bind2_row fast_reg_row local_inv_row
operation_said (ops.Send list) h p = rw (pieces_read list.items h.1.0.0 h.1.0.1) refl
operation_said (ops.SendImm imm list) h p = rw (u32 imm h.1.0, pieces_read list.items h.1.1.0.0 h.1.1.0.1) refl
operation_said (ops.SendInv key list) h p = rw (key_read key h.1.0, pieces_read list.items h.1.1.0.0 h.1.1.0.1) refl
operation_said (ops.Write at key list) h p = rw (address_read at h.1.0, key_read key h.1.1.0, pieces_read list.items h.1.1.1.0.0 h.1.1.1.0.1) refl
operation_said (ops.WriteImm at key imm list) h p = rw (address_read at h.1.0, key_read key h.1.1.0, u32 imm h.1.1.1.0, pieces_read list.items h.1.1.1.1.0.0 h.1.1.1.1.0.1) refl
operation_said (ops.Read at key list) h p = rw (address_read at h.1.0, key_read key h.1.1.0, pieces_read list.items h.1.1.1.0.0 h.1.1.1.0.1) refl
operation_said (ops.CmpSwap at key compare swap list) h p = rw (address_read at h.1.0, key_read key h.1.1.0, u64 compare h.1.1.1.0, u64 swap h.1.1.1.1.0, pieces_read list.items h.1.1.1.1.1.0.0 h.1.1.1.1.1.0.1) refl
operation_said (ops.FetchAdd at key add list) h p = rw (address_read at h.1.0, key_read key h.1.1.0, u64 add h.1.1.1.0, pieces_read list.items h.1.1.1.1.0.0 h.1.1.1.1.0.1) refl
operation_said (ops.Bind1 window key at count r) h p = rw (u16 window h.1.0, key_read key h.1.1.0, address_read at h.1.1.1.0, u32 count h.1.1.1.1.0, rights_read r) refl
operation_said (ops.Bind2 window key low at count r) h p = rw (u16 window h.1.0, key_read key h.1.1.0, u8 low h.1.1.1.0, address_read at h.1.1.1.1.0, u32 count h.1.1.1.1.1.0, rights_read r) refl
operation_said (ops.FastReg region low buffer at count r pages) h p = rw (u16 region h.1.0, u8 low h.1.1.0, u16 buffer h.1.1.1.0, address_read at h.1.1.1.1.0, u32 count h.1.1.1.1.1.0, rights_read r, pages_read pages (some_pages (eqb (length pages) 0) p) h.1.1.1.1.1.1.1.0) refl where
  some_pages : (b : Bool) → not b ≡ true → b ≡ false
  some_pages true h = absurd cc
  some_pages false h = refl
operation_said (ops.LocalInv key) h p = rw (key_read key h.1.0) refl

change_said : (s : Slot) (change : Change) → AllFit (change_words s change) → read_table consumer_lines (words (change_words s change)) ≡ Ok (whats.Verb (verbs.ModifyQp s change), [])
unfolding consumer_lines object_lines change_lines init_row sqd_row resume_row error_row reset_row rtr_row rts_row
change_said s changes.Reset h = rw (slot_read s h.1.0) refl
change_said s changes.Init h = rw (slot_read s h.1.0) refl
change_said s changes.Sqd h = rw (slot_read s h.1.0) refl
change_said s changes.Resume h = rw (slot_read s h.1.0) refl
change_said s changes.Error h = rw (slot_read s h.1.0) refl
change_said s (changes.Rtr peer i psn mtu code) h = rw (slot_read s h.1.0, queue_read peer h.1.1.0, u32 i h.1.1.1.0, u32 psn h.1.1.1.1.0, u16 mtu h.1.1.1.1.1.0, u8 code h.1.1.1.1.1.1.0) refl
change_said s (changes.Rts psn a b c) h = rw (slot_read s h.1.0, u32 psn h.1.1.0, u8 a h.1.1.1.0, u8 b h.1.1.1.1.0, u8 c h.1.1.1.1.1.0) refl

poll_none : (s : Slot) (n : ℕ) → AllFit (poll_words s n 0) → read_table consumer_lines (words (poll_words s n 0)) ≡ Ok (whats.Verb (verbs.Poll s n 0), [])
unfolding consumer_lines object_lines change_lines work_lines poll_row
poll_none s n h = rw (slot_read s h.1.0, u8 n h.1.1.0) refl

poll_all : (s : Slot) (n : ℕ) → eqb n 0 ≡ false → AllFit (poll_words s n n) → read_table consumer_lines (words (poll_words s n n)) ≡ Ok (whats.Verb (verbs.Poll s n n), [])
unfolding consumer_lines object_lines change_lines work_lines wait_row
poll_all s n some h =
    let same : eqb n n ≡ true = eq-eqb n n refl in
    let g = rw (some, same) at h in
    rw (some, same, slot_read s g.1.0, u8 n g.1.1.0) refl

poll_said : (s : Slot) (n least : ℕ) → AllFit (poll_words s n least) → (eqb least 0 || eqb least n) ≡ true → read_table consumer_lines (words (poll_words s n least)) ≡ Ok (whats.Verb (verbs.Poll s n least), [])
poll_said s n least h said =
    elim (cases_Bool (eqb least 0)) [
      | inl e ↦ subst (λ (l : ℕ). AllFit (poll_words s n l) → read_table consumer_lines (words (poll_words s n l)) ≡ Ok (whats.Verb (verbs.Poll s n l), [])) (sym (eqb-true least 0 e)) (poll_none s n) h
      | inr e ↦
          let same : least ≡ n = eqb-true least n (rw e at said) in
          subst (λ (l : ℕ). eqb l 0 ≡ false → AllFit (poll_words s n l) → read_table consumer_lines (words (poll_words s n l)) ≡ Ok (whats.Verb (verbs.Poll s n l), [])) (sym same) (poll_all s n) e h
    ]

pub verb_said : VerbsAgree
unfolding consumer_lines object_lines change_lines work_lines pd_row unpd_row reg_row mr_row dereg_row mw_row unmw_row cq_row uncq_row srq_row unsrq_row qp_row unqp_row query_row post_row recv_row srecv_row store_row load_row inject_row
verb_said (verbs.AllocPd d) h p = rw (domain_read d h.1.0) refl
verb_said (verbs.DeallocPd d) h p = rw (domain_read d h.1.0) refl
verb_said (verbs.RegMr s b o n r) h p = rw (slot_read s h.1.0, u16 b h.1.1.0, u32 o h.1.1.1.0, u32 n h.1.1.1.1.0, rights_read r) refl
verb_said (verbs.AllocMr s n) h p = rw (slot_read s h.1.0, u16 n h.1.1.0) refl
verb_said (verbs.DeregMr s) h p = rw (slot_read s h.1.0) refl
verb_said (verbs.AllocMw s n) h p = rw (slot_read s h.1.0, u8 n h.1.1.0) refl
verb_said (verbs.DeallocMw s) h p = rw (slot_read s h.1.0) refl
verb_said (verbs.CreateCq s n) h p = rw (slot_read s h.1.0, u16 n h.1.1.0) refl
verb_said (verbs.DestroyCq s) h p = rw (slot_read s h.1.0) refl
verb_said (verbs.CreateSrq s n) h p = rw (slot_read s h.1.0, u16 n h.1.1.0) refl
verb_said (verbs.DestroySrq s) h p = rw (slot_read s h.1.0) refl
verb_said (verbs.CreateQp s a b c d srq) h p = rw (slot_read s h.1.0, u16 a h.1.1.0, u16 b h.1.1.1.0, u16 c h.1.1.1.1.0, u16 d h.1.1.1.1.1.0, optional_read srq 65535 (omega arith) h.1.1.1.1.1.1.0) refl
verb_said (verbs.QueryQp s) h p = rw (slot_read s h.1.0) refl
verb_said (verbs.DestroyQp s) h p = rw (slot_read s h.1.0) refl
verb_said (verbs.PostRecv s r) h p = rw (slot_read s h.1.0, u64 r.id h.1.1.0, pieces_read r.list.items h.1.1.1.0.0 h.1.1.1.0.1) refl
verb_said (verbs.PostSrq s r) h p = rw (slot_read s h.1.0, u64 r.id h.1.1.0, pieces_read r.list.items h.1.1.1.0.0 h.1.1.1.0.1) refl
verb_said (verbs.Store a b o bs) h p = rw (place_read a b 255 65535 h.1.0.0 (omega arith) h.1.0.1 (omega arith), u32 o h.1.1.0, hex_read bs h.1.1.1.0) refl
verb_said (verbs.Load a b o n) h p = rw (place_read a b 255 65535 h.1.0.0 (omega arith) h.1.0.1 (omega arith), u32 o h.1.1.0, u32 n h.1.1.1.0) refl
verb_said (verbs.Inject q bs) h p = rw (queue_read q h.1.0, hex_read bs h.1.1.0) refl
verb_said (verbs.ModifyQp s change) h p = change_said s change h
verb_said (verbs.Poll s n least) h p = poll_said s n least h p
verb_said (verbs.PostSend s r) h p = rw (slot_read s h.1.0, u64 r.id h.1.1.0, flags_read r.signalled r.fence r.solicited, operation_said r.op h.1.1.1.1 p) refl
