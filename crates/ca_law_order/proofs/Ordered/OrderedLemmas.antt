-- The parts of Ordered are the whole. For proofs only.
use Rattle.std.proofs.Common.{◌≡◌, ◌&&◌, Bool, true, false, if◌then◌else◌, List, [], ◌∷◌, refl}
use Rattle.std.proofs.lemmas.Bool.{and_parts}
use Rattle.std.specs.List.{AllByRecursion}
use Rattle.ca_law_order.proofs.Polls.PollEventLemmas.{polls-in-order}
use Rattle.ca_law_order.proofs.Polls.WaitLemmas.{both-true}
use Rattle.ca_law_order.specs.Polls.{is_poll_in_order}
use Rattle.ca_law_order.proofs.Receives.ReceiveEventLemmas.{receives-in-order}
use Rattle.ca_law_order.specs.Receives.{is_receive_done_in_order}
use Rattle.ca_law_order.proofs.Sends.SendEventLemmas.{sends-in-order}
use Rattle.ca_law_order.specs.InOrder.{completes_in_order}
use Rattle.ca_base.specs.Configuration.{Configuration}
use Rattle.ca_keys.specs.Memory.{ByteMap}
use Rattle.ca_model.specs.Entries.{EntryValue}
use Rattle.ca_model.specs.Ordered.{Ordered, is_ordered}
use Rattle.ca_model.specs.Past.{Past, after_entry, after_mark, at_begin, each_entry, each_mark, opening_past}
use Rattle.ca_model.specs.declared.mark.Mark.{Mark}
use Rattle.ca_model.specs.declared.mark.Mark.TheVariants as marks
use Rattle.ca_model.specs.machine.Run.{Follows}
use Rattle.ca_model.specs.machine.Sound.{AreLimited, CanBeMade}

-- a test of marks
abbrev Test : Type 0
Test = Past → Mark → Bool

-- what two tests say of a mark is what a third says of it
abbrev AreWhole : Test → Test → Test → Type 0
AreWhole one other whole = (p : Past) (m : Mark) → one p m ≡ true → other p m ≡ true → whole p m ≡ true

joined-marks : (one other whole : Test) → AreWhole one other whole → (p : Past) (ms : List Mark) → each_mark one p ms ≡ true → each_mark other p ms ≡ true → each_mark whole p ms ≡ true
joined-marks one other whole are p [] ones others = refl
joined-marks one other whole are p (m ∷ ms) ones others = both-true _ _ (are p m first.0 second.0) (joined-marks one other whole are (after_mark m p) ms first.1 second.1)
  where
    first : (one p m ≡ true) × (each_mark one (after_mark m p) ms ≡ true)
    first = and_parts (one p m) (each_mark one (after_mark m p) ms) ones

    second : (other p m ≡ true) × (each_mark other (after_mark m p) ms ≡ true)
    second = and_parts (other p m) (each_mark other (after_mark m p) ms) others

joined-entries : (one other whole : Test) → AreWhole one other whole → (p : Past) (es : List EntryValue) → each_entry one (λ past. true) p es ≡ true → each_entry other (λ past. true) p es ≡ true
    → each_entry whole (λ past. true) p es ≡ true
joined-entries one other whole are p [] ones others = refl
joined-entries one other whole are p (e ∷ es) ones others = both-true _ _
    (both-true _ _ (joined-marks one other whole are start e.marks (and_parts (each_mark one start e.marks) true first.0).0 (and_parts (each_mark other start e.marks) true second.0).0) refl)
    (joined-entries one other whole are (after_entry e p) es first.1 second.1)
  where
    start : Past
    start = at_begin e.event p

    first : ((each_mark one start e.marks && true) ≡ true) × (each_entry one (λ past. true) (after_entry e p) es ≡ true)
    first = and_parts (each_mark one start e.marks && true) (each_entry one (λ past. true) (after_entry e p) es) ones

    second : ((each_mark other start e.marks && true) ≡ true) × (each_entry other (λ past. true) (after_entry e p) es ≡ true)
    second = and_parts (each_mark other start e.marks && true) (each_entry other (λ past. true) (after_entry e p) es) others

-- sends and receives complete in order
is_done_in_order : Test
is_done_in_order p m = completes_in_order p m && is_receive_done_in_order p m

side : (receive send other : Bool) → (if receive then true else send) ≡ true → (if receive then other else true) ≡ true → (if receive then other else send) ≡ true
side true send other sends receives = receives
side false send other sends receives = sends

whole : AreWhole is_done_in_order is_poll_in_order is_ordered
unfolding is_done_in_order
whole p (marks.Verb by verb answer) done poll = poll
whole p (marks.Done queue completion cause) done poll = side completion.receive _ _ both.0 both.1
  where
    both : (completes_in_order p (marks.Done queue completion cause) ≡ true) × (is_receive_done_in_order p (marks.Done queue completion cause) ≡ true)
    both = and_parts (completes_in_order p (marks.Done queue completion cause)) (is_receive_done_in_order p (marks.Done queue completion cause)) done
whole p m done poll = refl

done : AreWhole completes_in_order is_receive_done_in_order is_done_in_order
unfolding is_done_in_order
done p m sends receives = both-true _ _ sends receives

pub ordered-along : (c : Configuration) (bytes : ByteMap) (es : List EntryValue) → AreLimited c → AllByRecursion (λ e. CanBeMade e.event) es → Follows c bytes es → Ordered bytes es
ordered-along c bytes es limited made follows = joined-entries is_done_in_order is_poll_in_order is_ordered whole (opening_past bytes) es
    (joined-entries completes_in_order is_receive_done_in_order is_done_in_order done (opening_past bytes) es (sends-in-order c bytes es limited made follows) (receives-in-order c bytes es limited made follows))
    (polls-in-order c bytes es limited made follows)
