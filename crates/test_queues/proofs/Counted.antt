-- That an envelope which was just sent may be delivered. For proofs only.
use Rattle.std.proofs.Common.{◌≡◌, ℕ, suc, ◌-◌, List, not, true, nat_lt, IsTrue, arith}
use Rattle.std.proofs.lemmas.Grind.{common_steps}
use Rattle.ca_base.specs.declared.lot.Lot.{Lot}
use Rattle.ca_base.specs.objects.Mailbox.{Mailbox, after_send, is_lost}
use Rattle.ca_mailbox.specs.Counting.{is_countable}

pub counted : (m : Mailbox) (lot : Lot) (bytes : List ℕ) → IsTrue (not (is_lost lot)) → IsTrue (is_countable m.next (after_send lot bytes m))
counted m lot bytes h =
    let front : suc m.next - suc m.next ≡ 0 = omega arith in
    let kept : nat_lt m.next (suc m.next) ≡ true = grind arith in
    rw (kept, front) (grind (arith, common_steps, h))
