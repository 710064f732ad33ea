-- What is known of turns in vain, by its flags. For proofs only.
use Rattle.std.proofs.Common.{Vec, ◌≡◌, ◌∙◌, ◌⊎◌, inl, inr, refl, sym, ap, subst, ℕ, zero, suc, ◌+◌, ◌-◌, ◌/◌, ◌%◌, ◌<◌, ◌≤◌, ◌||◌, arith, Bool, true, false, true≢false, List, [], ◌∷◌, drop, length, replicate, Option, None, Some, is_some, Result, Ok, Err, OnOk, slice_get, slice_set}
use Rattle.std.specs.declared.alloc.Global.{Global}
use Rattle.ca_base.specs.objects.Mailbox.{due}
use Rattle.ca_engine.specs.declared.offer.Offer.{Offer}
use Rattle.ca_engine.specs.declared.offer.Offer.TheVariants as offers
use Rattle.ca_adapter_store.specs.ca_adapter_parts.declared.part.QueueSlot.{QueueSlot}
use Rattle.ca_keys.specs.Equal.{queue_eq}
use Rattle.ca_keys.specs.declared.names.QueueId.{QueueId}
use Rattle.ca_model.proofs.ThingLemmas.{queue-path}
use Rattle.ca_model.specs.declared.part_name.PartName.{PartName}
use Rattle.ca_model.specs.declared.part_name.PartName.TheVariants as names
use Rattle.ca_model.specs.machine.Parts.{is_held, part_eq}
use Rattle.ca_model.specs.machine.World.{World}
use Rattle.ca_adapter_store.proofs.RestLemmas.{same_row}
use Rattle.ca_adapter_store.specs.Hand.{names_of}
use Rattle.ca_adapter_store.specs.Looks.{IsQueueIn}
use Rattle.ca_adapter_store.specs.Rest.{KeepsRest}
use Rattle.ca_adapter_store.specs.declared.hand.Taken.{Taken}
use Rattle.ca_adapter_store.specs.declared.row.Row.{Row}
use Rattle.ca_script_run.specs.Known.{AreKnown, AreKnownFrom, AreLeft, ComesTo, Forgets, IsLeft, KeepsKnown, is_set, part_of_turn, place_of_turn, start_of}
use Rattle.ca_script_run.specs.Vain.{IsIdle, Sees}
use Rattle.ca_script_run.specs.declared.known.Known.{Known}
use Rattle.ca_script_run.specs.declared.known.TheConstants.{BLOCK}
use Rattle.ca_base.specs.declared.step.Turn.{Turn}
use Rattle.ca_base.specs.declared.step.Turn.TheVariants as turns

-- ---- flags

-- a flag that is set was so before, or is the one
set-on : (flags : List Bool) (place n : ℕ) → is_set (slice_set flags place true) n ≡ true → (n ≡ place) ⊎ (is_set flags n ≡ true)
set-on [] place n on = inr on
set-on (x ∷ xs) zero zero on = inl refl
set-on (x ∷ xs) zero (suc n) on = inr on
set-on (x ∷ xs) (suc place) zero on = inr on
set-on (x ∷ xs) (suc place) (suc n) on = by (set-on xs place n on)
  where
    by : (n ≡ place) ⊎ (is_set xs n ≡ true) → (suc n ≡ suc place) ⊎ (is_set xs n ≡ true)
    by (inl same) = inl (ap suc same)
    by (inr before) = inr before

-- or it is another
pub set_off : (flags : List Bool) (place n : ℕ) → is_set (slice_set flags place false) n ≡ true → (is_set flags n ≡ true) × (n ≡ place → ⊥)
set_off [] place n on = absurd (true≢false (sym on))
set_off (x ∷ xs) zero zero on = absurd (true≢false (sym on))
set_off (x ∷ xs) zero (suc n) on = (on, λ same. omega (arith, same))
set_off (x ∷ xs) (suc place) zero on = (on, λ same. omega (arith, same))
set_off (x ∷ xs) (suc place) (suc n) on = ((set_off xs place n on).0, λ same. (set_off xs place n on).1 (omega (arith, same)))

none-set : (count place : ℕ) → is_set (replicate count false) place ≡ true → ⊥
none-set zero place on = true≢false (sym on)
none-set (suc count) zero on = true≢false (sym on)
none-set (suc count) (suc place) on = none-set count place on

-- where no flag is set nothing is known
pub nothing_known : (round : List Offer) (w : World) (k : Known) (n m : ℕ) → k.offers.items ≡ replicate n false → k.blocks.items ≡ replicate m false → AreKnown round w k
nothing_known round w k n m offers blocks = record {
  each = λ place on. absurd (none-set n place (sym (ap (λ xs. is_set xs place) offers) ∙ on));
  blocks = λ place on. absurd (none-set m (place / BLOCK) (sym (ap (λ xs. is_set xs (place / BLOCK)) blocks) ∙ on));
}

-- ---- what is noted

module _ (round : List Offer) (w : World) (k : Known) (known : AreKnown round w k) where
  -- a turn
  pub noted : (flags : Vec Bool Global) (place : ℕ) (turn : Turn) → flags.items ≡ slice_set k.offers.items place true
      → place_of_turn k.starts.items turn ≡ Some place → slice_get round place ≡ Some (offers.Turn turn) → IsIdle w turn → AreKnown round w (record k { offers = flags })
  noted flags place turn is placed offered idle = record {
    each = λ n on. by n (set-on k.offers.items place n (sym (ap (λ xs. is_set xs n) is) ∙ on));
    blocks = known.blocks;
  }
    where
      by : (n : ℕ) → (n ≡ place) ⊎ (is_set k.offers.items n ≡ true) → IsLeft k.starts.items round w [] [] n
      by n (inl same) = subst (IsLeft k.starts.items round w [] []) (sym same)
          (record { turn = turn; offered = offered; placed = placed; idle = idle; apart = λ free. free })
      by n (inr before) = known.each n before

  -- a block of which all is known
  pub block_noted : (flags : Vec Bool Global) (from upto : ℕ) → AreKnownFrom k.starts.items round w from upto → flags.items ≡ slice_set k.blocks.items (upto / BLOCK - 1) true
      → upto % BLOCK ≡ 0 → BLOCK ≤ upto → from ≤ upto - BLOCK → AreKnown round w (record k { blocks = flags })
  block_noted flags from upto between is ends most behind = record {
    each = known.each;
    blocks = λ n on. by n (set-on k.blocks.items (upto / BLOCK - 1) (n / BLOCK) (sym (ap (λ xs. is_set xs (n / BLOCK)) is) ∙ on));
  }
    where
      by : (n : ℕ) → (n / BLOCK ≡ upto / BLOCK - 1) ⊎ (is_set k.blocks.items (n / BLOCK) ≡ true) → IsLeft k.starts.items round w [] [] n
      by n (inl same) = between n (omega (arith, same, ends, most, behind)) (omega (arith, same, ends, most, behind))
      by n (inr before) = known.blocks n before

  -- ---- what is seen

  pub block_known : (place : ℕ) → place % BLOCK ≡ 0 → is_set k.blocks.items (place / BLOCK) ≡ true → AreKnownFrom k.starts.items round w place (place + BLOCK)
  block_known place begins on = λ n from upto.
      let same : n / BLOCK ≡ place / BLOCK = omega (arith, begins, from, upto) in
      known.blocks n (ap (is_set k.blocks.items) same ∙ on)

  pub one_known : (place : ℕ) → is_set k.offers.items place ≡ true → AreKnownFrom k.starts.items round w place (place + 1)
  one_known place on = λ n from upto. subst (IsLeft k.starts.items round w [] []) (omega (arith, from, upto)) (known.each place on)

pub none_known : (starts : List ℕ) (round : List Offer) (w : World) (place : ℕ) → AreKnownFrom starts round w place (place + 0)
none_known starts round w place = λ n from upto. absurd (omega (arith, from, upto))

-- ---- how far it is known

split : (n m : ℕ) → (n < m) ⊎ (m ≤ n)
split n zero = inr (omega arith)
split zero (suc m) = inl (omega arith)
split (suc n) (suc m) = by (split n m)
  where
    by : (n < m) ⊎ (m ≤ n) → (suc n < suc m) ⊎ (suc m ≤ suc n)
    by (inl less) = inl (omega (arith, less))
    by (inr most) = inr (omega (arith, most))

pub comes_nowhere : (place : ℕ) (k : Known) → ComesTo place place k k
comes_nowhere place k = record {
  starts = refl;
  within = omega arith;
  known = λ round w known. known;
  between = λ round w known n from upto. absurd (omega (arith, from, upto));
}

pub comes_on : (from upto more next : ℕ) (k l m : Known) → ComesTo from upto k l
    → ((round : List Offer) (w : World) → AreKnown round w l → AreKnownFrom l.starts.items round w upto (upto + more)) → upto ≤ next → next ≤ upto + more
    → m.starts ≡ l.starts
    → ((round : List Offer) (w : World) → AreKnown round w l → AreKnownFrom l.starts.items round w from next → AreKnown round w m)
    → ComesTo from next k m
comes_on from upto more next k l m comes seen least most starts marked = record {
  starts = starts ∙ comes.starts;
  within = omega (arith, least, comes.within);
  known = λ round w known. marked round w (comes.known round w known)
      (subst (λ s. AreKnownFrom s.items round w from next) (sym comes.starts) (all round w known));
  between = all;
}
  where
    all : (round : List Offer) (w : World) → AreKnown round w k → AreKnownFrom k.starts.items round w from next
    all round w known n first last = by (split n upto)
      where
        by : (n < upto) ⊎ (upto ≤ n) → IsLeft k.starts.items round w [] [] n
        by (inl less) = comes.between round w known n first less
        by (inr later) = subst (λ s. IsLeft s.items round w [] [] n) comes.starts (seen round w (comes.known round w known) n later (omega (arith, last, most)))

-- ---- what is forgotten

or-free : (a b : Bool) → a ≡ false → b ≡ false → (a || b) ≡ false
or-free true b is also = absurd (true≢false is)
or-free false b is also = also

abbrev some-of : ℕ → Option ℕ → ℕ
some-of n None = n
some-of n (Some m) = m

-- a turn at another place is of another mailbox
misses-mailbox : (starts : List ℕ) (q : QueueId) (n : ℕ) (turn : Turn) → place_of_turn starts turn ≡ Some n → (n ≡ start_of starts q → ⊥)
    → part_eq (names.Mailbox q) (part_of_turn turn) ≡ false
misses-mailbox starts q n (turns.Due p) placed other = by (queue_eq q p) refl
  where
    by : (b : Bool) → queue_eq q p ≡ b → b ≡ false
    by true same = absurd (other (sym (ap (some-of n) placed) ∙ ap (start_of starts) (sym (queue-path q p same))))
    by false same = refl
misses-mailbox starts q n (turns.Deliver p index) placed other = absurd (true≢false (sym (ap is_some placed)))
misses-mailbox starts q n (turns.Respond p) placed other = refl
misses-mailbox starts q n (turns.Request p) placed other = refl
misses-mailbox starts q n (turns.Timeout p) placed other = refl
misses-mailbox starts q n (turns.RnrWake p) placed other = refl

-- one at two other places is of another slot
misses-queue : (starts : List ℕ) (q : QueueId) (n : ℕ) (turn : Turn) → place_of_turn starts turn ≡ Some n → (n ≡ start_of starts q + 1 → ⊥) → (n ≡ start_of starts q + 2 → ⊥)
    → part_eq (names.Queue q) (part_of_turn turn) ≡ false
misses-queue starts q n (turns.Due p) placed one two = refl
misses-queue starts q n (turns.Deliver p index) placed one two = refl
misses-queue starts q n (turns.Respond p) placed one two = by (queue_eq q p) refl
  where
    by : (b : Bool) → queue_eq q p ≡ b → b ≡ false
    by true same = absurd (one (sym (ap (some-of n) placed) ∙ ap (λ r. start_of starts r + 1) (sym (queue-path q p same))))
    by false same = refl
misses-queue starts q n (turns.Request p) placed one two = by (queue_eq q p) refl
  where
    by : (b : Bool) → queue_eq q p ≡ b → b ≡ false
    by true same = absurd (two (sym (ap (some-of n) placed) ∙ ap (λ r. start_of starts r + 2) (sym (queue-path q p same))))
    by false same = refl
misses-queue starts q n (turns.Timeout p) placed one two = absurd (true≢false (sym (ap is_some placed)))
misses-queue starts q n (turns.RnrWake p) placed one two = absurd (true≢false (sym (ap is_some placed)))

-- no other part is one of a turn
misses-other : (name : PartName) (turn : Turn) → ((q : QueueId) → name ≡ names.Mailbox q → ⊥) → ((q : QueueId) → name ≡ names.Queue q → ⊥) → part_eq name (part_of_turn turn) ≡ false
misses-other name turn mailbox queue = of turn
  where
    slot : (name : PartName) → ((q : QueueId) → name ≡ names.Queue q → ⊥) → (p : QueueId) → part_eq name (names.Queue p) ≡ false
    slot (names.Control d) not p = refl
    slot (names.Region s) not p = refl
    slot (names.Window s) not p = refl
    slot (names.Cq s) not p = refl
    slot (names.Srq s) not p = refl
    slot (names.Queue q) not p = absurd (not q refl)
    slot (names.Mailbox q) not p = refl
    slot (names.Buffer a i) not p = refl

    mail : (name : PartName) → ((q : QueueId) → name ≡ names.Mailbox q → ⊥) → (p : QueueId) → part_eq name (names.Mailbox p) ≡ false
    mail (names.Control d) not p = refl
    mail (names.Region s) not p = refl
    mail (names.Window s) not p = refl
    mail (names.Cq s) not p = refl
    mail (names.Srq s) not p = refl
    mail (names.Queue q) not p = refl
    mail (names.Mailbox q) not p = absurd (not q refl)
    mail (names.Buffer a i) not p = refl

    of : (turn : Turn) → part_eq name (part_of_turn turn) ≡ false
    of (turns.Due p) = mail name mailbox p
    of (turns.Deliver p index) = mail name mailbox p
    of (turns.Respond p) = slot name queue p
    of (turns.Request p) = slot name queue p
    of (turns.Timeout p) = slot name queue p
    of (turns.RnrWake p) = slot name queue p

-- a turn of another part is left by one part less
left-more : (starts : List ℕ) (round : List Offer) (w : World) (name : PartName) (rest all : List PartName) (n : ℕ) (left : IsLeft starts round w (name ∷ rest) all n)
    → part_eq name (part_of_turn left.turn) ≡ false → IsLeft starts round w rest all n
left-more starts round w name rest all n left other = record {
  turn = left.turn;
  offered = left.offered;
  placed = left.placed;
  idle = left.idle;
  apart = λ free. left.apart (or-free (part_eq name (part_of_turn left.turn)) (is_held rest (part_of_turn left.turn)) other free);
}

module _ (round : List Offer) (w : World) (rest all : List PartName) where
  pub mailbox_forgotten : (q : QueueId) (k l : Known) → Forgets (start_of k.starts.items q) k l → AreLeft round w (names.Mailbox q ∷ rest) all k → AreLeft round w rest all l
  mailbox_forgotten q k l f known = record {
    each = λ n on. at n (known.each n (f.each n on).0) (f.each n on).1;
    blocks = λ n on. at n (known.blocks n (f.blocks n on).0) (f.blocks n on).1;
  }
    where
      at : (n : ℕ) → IsLeft k.starts.items round w (names.Mailbox q ∷ rest) all n → (n ≡ start_of k.starts.items q → ⊥) → IsLeft l.starts.items round w rest all n
      at n left other = subst (λ s. IsLeft s.items round w rest all n) (sym f.starts)
          (left-more k.starts.items round w (names.Mailbox q) rest all n left (misses-mailbox k.starts.items q n left.turn left.placed other))

  pub queue_forgotten : (q : QueueId) (k m l : Known) → Forgets (start_of k.starts.items q + 1) k m → Forgets (start_of k.starts.items q + 2) m l
      → AreLeft round w (names.Queue q ∷ rest) all k → AreLeft round w rest all l
  queue_forgotten q k m l f g known = record {
    each = λ n on. at n (known.each n (f.each n (g.each n on).0).0) (f.each n (g.each n on).0).1 (g.each n on).1;
    blocks = λ n on. at n (known.blocks n (f.blocks n (g.blocks n on).0).0) (f.blocks n (g.blocks n on).0).1 (g.blocks n on).1;
  }
    where
      at : (n : ℕ) → IsLeft k.starts.items round w (names.Queue q ∷ rest) all n → (n ≡ start_of k.starts.items q + 1 → ⊥) → (n ≡ start_of k.starts.items q + 2 → ⊥)
          → IsLeft l.starts.items round w rest all n
      at n left one two = subst (λ s. IsLeft s.items round w rest all n) (sym (g.starts ∙ f.starts))
          (left-more k.starts.items round w (names.Queue q) rest all n left (misses-queue k.starts.items q n left.turn left.placed one two))

  pub other_forgotten : (name : PartName) (k : Known) → ((q : QueueId) → name ≡ names.Mailbox q → ⊥) → ((q : QueueId) → name ≡ names.Queue q → ⊥)
      → AreLeft round w (name ∷ rest) all k → AreLeft round w rest all k
  other_forgotten name k mailbox queue known = record {
    each = λ n on. at n (known.each n on);
    blocks = λ n on. at n (known.blocks n on);
  }
    where
      at : (n : ℕ) → IsLeft k.starts.items round w (name ∷ rest) all n → IsLeft k.starts.items round w rest all n
      at n left = left-more k.starts.items round w name rest all n left (misses-other name left.turn mailbox queue)

-- before a part is forgotten none is left of them
pub left_first : (round : List Offer) (w : World) (all : List PartName) (k : Known) → AreKnown round w k → AreLeft round w all all k
left_first round w all k known = record {
  each = λ n on. at n (known.each n on);
  blocks = λ n on. at n (known.blocks n on);
}
  where
    at : (n : ℕ) → IsLeft k.starts.items round w [] [] n → IsLeft k.starts.items round w all all n
    at n left = record { turn = left.turn; offered = left.offered; placed = left.placed; idle = left.idle; apart = λ free. free }

-- ---- another world

sees-still : (P : Option QueueSlot → Type 0) (w v : World) (q : QueueId) → Sees P w q → v.queue q ≡ w.queue q → Sees P v q
sees-still P w v q s same = record { slot = s.slot; is = by s.slot s.is; such = s.such }
  where
    by : (o : Option QueueSlot) → IsQueueIn w q o → IsQueueIn v q o
    by None is = same ∙ is
    by (Some slot) is = is ∙ sym same

pub idle-still : (w v : World) (changed : List PartName) (turn : Turn) → KeepsRest changed w v → is_held changed (part_of_turn turn) ≡ false → IsIdle w turn → IsIdle v turn
idle-still w v changed (turns.Due q) keeps free idle = ap due (keeps.mailbox q free) ∙ idle
idle-still w v changed (turns.Deliver q index) keeps free idle = idle
idle-still w v changed (turns.Respond q) keeps free idle = sees-still _ w v q idle (keeps.queue q free)
idle-still w v changed (turns.Request q) keeps free idle = sees-still _ w v q idle (keeps.queue q free)
idle-still w v changed (turns.Timeout q) keeps free idle = sees-still _ w v q idle (keeps.queue q free)
idle-still w v changed (turns.RnrWake q) keeps free idle = sees-still _ w v q idle (keeps.queue q free)

-- what is left stays true of what is at other parts
pub left_still : (round : List Offer) (w v : World) (all : List PartName) (k : Known) → AreLeft round w [] all k → KeepsRest all w v → AreKnown round v k
left_still round w v all k known keeps = record {
  each = λ n on. at n (known.each n on);
  blocks = λ n on. at n (known.blocks n on);
}
  where
    at : (n : ℕ) → IsLeft k.starts.items round w [] all n → IsLeft k.starts.items round v [] [] n
    at n left = record {
      turn = left.turn;
      offered = left.offered;
      placed = left.placed;
      idle = idle-still w v all left.turn keeps (left.apart refl) left.idle;
      apart = λ free. free;
    }

-- all parts are forgotten
pub all_forgotten : (round : List Offer) (w v : World) (taken : List Taken) (count : ℕ) (k : Known) → length taken ≤ count
    → AreLeft round w (names_of (drop count taken)) (names_of taken) k → KeepsRest (names_of taken) w v → AreKnown round v k
all_forgotten round w v taken count k all known keeps = left_still round w v (names_of taken) k
    (subst (λ xs. AreLeft round w (names_of xs) (names_of taken) k) (none count taken all) known) keeps
  where
    none : (n : ℕ) (xs : List Taken) → length xs ≤ n → drop n xs ≡ []
    none zero [] most = refl
    none (suc n) [] most = refl
    none zero (x ∷ xs) most = absurd (omega (arith, most))
    none (suc n) (x ∷ xs) most = none n xs (omega (arith, most))

-- the same row
pub same_known : (round : List Offer) (row : Row) (k : Known) → KeepsKnown round row row k k
same_known round row k = λ c w v one other known. left_still round w v [] k known (same_row [] row c w v one other)

-- what follows from what holds where all went well
pub on_ok : {X E : Type 0} {P Q : Type 0} (r : Result X E) → (P → Q) → OnOk r P → OnOk r Q
on_ok (Ok x) f holds = f holds
on_ok (Err e) f holds = holds
