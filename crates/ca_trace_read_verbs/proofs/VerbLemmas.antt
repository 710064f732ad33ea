-- A verb that is spelled is read as what it says.
use Rattle.std.proofs.Common.{◌≡◌, ℕ, ◌≤◌, eqb, ◌∷◌, ◌++◌, Some, decimal, refl, sym, ap, subst, ◌∙◌, arith, inl, inr}
use Rattle.std.specs.Prelude.{codes}
use Rattle.std.proofs.lemmas.Bool.{cases_Bool, eqb-true}
use Rattle.ca_base.specs.declared.change.Change.{Change}
use Rattle.ca_base.specs.declared.change.Change.TheVariants as changes
use Rattle.ca_keys.specs.declared.names.Slot.{Slot}
use Rattle.ca_model.specs.declared.verb.Verb.{Verb}
use Rattle.ca_model.specs.declared.verb.Verb.TheVariants as verbs
use Rattle.ca_keys.specs.Spelling.{slot_text}
use Rattle.ca_trace_lex.specs.ca_trace_print.Verbs.{change_words, poll_words, verb_words}
use Rattle.ca_trace_lex.specs.ca_trace_print.Words.{words}
use Rattle.ca_trace_lex.specs.Fits.{SlotFits, AllFit}
use Rattle.ca_trace_lex.proofs.WordLemmas.{place_again, domain_again, queue_again, slot_again, hex_again, perhaps_number_again, pieces_again, rights_again, flags_again, number_is_no_arrow}
use Rattle.ca_trace_read_verbs.specs.Verbs.{rtr_at, rts_at, plain_change_at, change_at, reg_at, qp_at, post_at, receive_at, least_at, poll_at, wait_at, store_at, load_at, inject_at, work_at, object_at, verb_at}
use Rattle.ca_trace_lex.specs.Fields.{Words}
use Rattle.ca_trace_lex.proofs.FieldLemmas.{u8, u16, u32, u64}
use Rattle.ca_trace_read_verbs.proofs.OperationLemmas.{operation_again}

change_again : (s : Slot) (change : Change) (rest : Words) → AllFit (change_words s change) → verb_at (words (change_words s change) ++ rest) ≡ Some (verbs.ModifyQp s change, rest)
unfolding verb_at object_at work_at change_at plain_change_at rtr_at rts_at
change_again s changes.Reset rest h = rw (slot_again s h.1.0) refl
change_again s changes.Init rest h = rw (slot_again s h.1.0) refl
change_again s changes.Sqd rest h = rw (slot_again s h.1.0) refl
change_again s changes.Resume rest h = rw (slot_again s h.1.0) refl
change_again s changes.Error rest h = rw (slot_again s h.1.0) refl
change_again s (changes.Rtr peer i psn mtu code) rest h = rw (slot_again s h.1.0, queue_again peer h.1.1.0, u32 i h.1.1.1.0, u32 psn h.1.1.1.1.0, u16 mtu h.1.1.1.1.1.0, u8 code h.1.1.1.1.1.1.0) refl
change_again s (changes.Rts psn a b c) rest h = rw (slot_again s h.1.0, u32 psn h.1.1.0, u8 a h.1.1.1.0, u8 b h.1.1.1.1.0, u8 c h.1.1.1.1.1.0) refl

poll_zero : (s : Slot) (n : ℕ) (rest : Words) → AllFit (poll_words s n 0) → verb_at (words (poll_words s n 0) ++ (codes "->" ∷ rest)) ≡ Some (verbs.Poll s n 0, codes "->" ∷ rest)
unfolding verb_at object_at work_at poll_at least_at
poll_zero s n rest h = rw (slot_again s h.1.0, u8 n h.1.1.0) refl

poll_wait : (s : Slot) (n : ℕ) (rest : Words) → SlotFits s → n ≤ 255 → verb_at (codes "wait" ∷ slot_text s ∷ decimal n ∷ codes "->" ∷ rest) ≡ Some (verbs.Poll s n n, codes "->" ∷ rest)
unfolding verb_at object_at work_at wait_at
poll_wait s n rest h g = rw (slot_again s h, u8 n g) refl

poll_least : (s : Slot) (n least : ℕ) (rest : Words) → SlotFits s → n ≤ 255 → least ≤ 255 → verb_at (codes "poll" ∷ slot_text s ∷ decimal n ∷ decimal least ∷ codes "->" ∷ rest) ≡ Some (verbs.Poll s n least, codes "->" ∷ rest)
unfolding verb_at object_at work_at poll_at least_at
poll_least s n least rest h g k = rw (slot_again s h, u8 n g, number_is_no_arrow least (omega arith), u8 least k) refl

poll_again : (s : Slot) (n least : ℕ) (rest : Words) → AllFit (poll_words s n least) → verb_at (words (poll_words s n least) ++ (codes "->" ∷ rest)) ≡ Some (verbs.Poll s n least, codes "->" ∷ rest)
poll_again s n least rest h =
    elim (cases_Bool (eqb least 0)) [
      | inl e ↦ subst (λ (l : ℕ). AllFit (poll_words s n l) → verb_at (words (poll_words s n l) ++ (codes "->" ∷ rest)) ≡ Some (verbs.Poll s n l, codes "->" ∷ rest)) (sym (eqb-true least 0 e)) (poll_zero s n rest) h
      | inr e ↦ elim (cases_Bool (eqb least n)) [
        | inl d ↦
            let g = rw (e, d) at h in
            rw (e, d) (poll_wait s n rest g.1.0 g.1.1.0 ∙ ap (λ (l : ℕ). Some (verbs.Poll s n l, codes "->" ∷ rest)) (sym (eqb-true least n d)))
        | inr d ↦
            let g = rw (e, d) at h in
            rw (e, d) (poll_least s n least rest g.1.0 g.1.1.0 g.1.1.1.0)
      ]
    ]

pub verb_again : (v : Verb) (rest : Words) → AllFit (verb_words v) → verb_at (words (verb_words v) ++ (codes "->" ∷ rest)) ≡ Some (v, codes "->" ∷ rest)
unfolding verb_at object_at work_at reg_at qp_at post_at receive_at store_at load_at inject_at
verb_again (verbs.AllocPd d) rest h = rw (domain_again d h.1.0) refl
verb_again (verbs.DeallocPd d) rest h = rw (domain_again d h.1.0) refl
verb_again (verbs.RegMr s b o n r) rest h = rw (slot_again s h.1.0, u16 b h.1.1.0, u32 o h.1.1.1.0, u32 n h.1.1.1.1.0, rights_again r) refl
verb_again (verbs.AllocMr s n) rest h = rw (slot_again s h.1.0, u16 n h.1.1.0) refl
verb_again (verbs.DeregMr s) rest h = rw (slot_again s h.1.0) refl
verb_again (verbs.AllocMw s n) rest h = rw (slot_again s h.1.0, u8 n h.1.1.0) refl
verb_again (verbs.DeallocMw s) rest h = rw (slot_again s h.1.0) refl
verb_again (verbs.CreateCq s n) rest h = rw (slot_again s h.1.0, u16 n h.1.1.0) refl
verb_again (verbs.DestroyCq s) rest h = rw (slot_again s h.1.0) refl
verb_again (verbs.CreateSrq s n) rest h = rw (slot_again s h.1.0, u16 n h.1.1.0) refl
verb_again (verbs.DestroySrq s) rest h = rw (slot_again s h.1.0) refl
verb_again (verbs.CreateQp s a b c d srq) rest h = rw (slot_again s h.1.0, u16 a h.1.1.0, u16 b h.1.1.1.0, u16 c h.1.1.1.1.0, u16 d h.1.1.1.1.1.0, perhaps_number_again 65535 srq (omega arith) h.1.1.1.1.1.1.0) refl
verb_again (verbs.QueryQp s) rest h = rw (slot_again s h.1.0) refl
verb_again (verbs.DestroyQp s) rest h = rw (slot_again s h.1.0) refl
verb_again (verbs.PostRecv s r) rest h = rw (slot_again s h.1.0, u64 r.id h.1.1.0, pieces_again r.list.items h.1.1.1.0.0 h.1.1.1.0.1) refl
verb_again (verbs.PostSrq s r) rest h = rw (slot_again s h.1.0, u64 r.id h.1.1.0, pieces_again r.list.items h.1.1.1.0.0 h.1.1.1.0.1) refl
verb_again (verbs.Store a b o bs) rest h = rw (place_again 65535 a b h.1.0.0 h.1.0.1 (omega arith), u32 o h.1.1.0, hex_again bs h.1.1.1.0) refl
verb_again (verbs.Load a b o n) rest h = rw (place_again 65535 a b h.1.0.0 h.1.0.1 (omega arith), u32 o h.1.1.0, u32 n h.1.1.1.0) refl
verb_again (verbs.Inject q bs) rest h = rw (queue_again q h.1.0, hex_again bs h.1.1.0) refl
verb_again (verbs.ModifyQp s change) rest h = change_again s change (codes "->" ∷ rest) h
verb_again (verbs.Poll s n least) rest h = poll_again s n least rest h
verb_again (verbs.PostSend s r) rest h =
    let flags = flags_again r.signalled r.fence r.solicited in
    rw (slot_again s h.1.0, u64 r.id h.1.1.0, operation_again r.op (codes "->" ∷ rest) h.1.1.1.1, flags.0, flags.1, flags.2) refl
