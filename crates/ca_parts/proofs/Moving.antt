-- A step that leaves the list of entries, and the entries, shares and ranges of all passes, keeps the facts of parts.
use Rattle.std.proofs.Common.{◌≡◌, ◌≢◌, ℕ, ◌+◌, ◌<◌, ⊎_elim, List, length, set, Option, slice_index, ap, ◌∙◌, subst, arith}
use mathlib.Core.Option.{some}
use mathlib.Core.Option as maybe
use lib.ListN.{get_elem?}
use Rattle.atomic_table.specs.Table.{State}
use Rattle.atomic_table.proofs.Lists.{at_set}
use Rattle.ca_parts.specs.declared.view.View.{View}
use Rattle.ca_parts.specs.Lists.{Has, times, total, numbers_of}
use Rattle.ca_parts.specs.Facts.{word_of, word_count, held, stamped, covers, late_or_fresh, IsPart, IsPass, FactsOfParts}
use Rattle.ca_parts.proofs.Totals.{total_set}

module _ {S E N T : Type 0} (needs : S → E → List (ℕ × T) → Option ℕ) (steps : S → List N → N → Type 0) (stands : S → List N → ℕ → T → Type 0) (key : S) where
  pub moved : (s : State (Option T) (View S E N T)) (f : FactsOfParts needs steps stands key s) (id : ℕ) (v w : View S E N T) → get_elem? s.views id ≡ some v
      → (words : List ℕ) (homes : List (maybe.Option (Option T)))
      → length words ≡ word_count (length homes) → slice_index words 0 ≡ slice_index s.words 0
      → w.share ≡ v.share → w.entries ≡ v.entries → w.first ≡ v.first → w.count ≡ v.count → w.late ≡ v.late → w.burnt ≡ v.burnt
      → ((k : ℕ) → k < length homes → (hands : ℕ) → hands + held k v ≡ total (held k) s.views + held k w → IsPart (stands key f.log) k (slice_index words (word_of k)) (get_elem? homes k) hands)
      → IsPass needs stands key f.log words homes w
      → ((j : ℕ) (u : View S E N T) → j ≢ id → get_elem? s.views j ≡ some u → IsPass needs stands key f.log words homes u)
      → FactsOfParts needs steps stands key record { words = words; homes = homes; views = set s.views id w }
  moved s f id v w at words homes shape clock share entries first count late burnt part mine others = record {
    log = f.log;
    follows = f.follows;
    shape = shape;
    clock = clock ∙ f.clock;
    part = λ k near. part k near (total (held k) (set s.views id w)) (total_set (held k) s.views id v w at);
    pass = λ j u e. ⊎_elim (λ (x : (j ≡ id) × (w ≡ u)). subst (λ (y : View S E N T). IsPass needs stands key f.log words homes y) x.1 mine) (λ (x : (j ≢ id) × (get_elem? s.views j ≡ some u)). others j u x.0 x.1) (at_set s.views id j w u e);
    once = λ n. let sum = total_set (stamped n) s.views id v w at in let same : stamped n w ≡ stamped n v = ap (λ (l : List (ℕ × N)). times n (numbers_of l)) entries in let was = f.once n in
        let now : total (stamped n) (set s.views id w) ≡ total (stamped n) s.views = omega arith in now ∙ was;
    shares = let sum = total_set (λ (u : View S E N T). u.share) s.views id v w at in let now : total (λ (u : View S E N T). u.share) (set s.views id w) ≡ total (λ (u : View S E N T). u.share) s.views = omega arith in now ∙ f.shares;
    ranges = λ n. let sum = total_set (covers n) s.views id v w at in let same : covers n w ≡ covers n v = cc in let was = f.ranges n in omega arith;
    late_once = let sum = total_set late_or_fresh s.views id v w at in let same : late_or_fresh w ≡ late_or_fresh v = cc in let was = f.late_once in omega arith;
    clock_ends = let sum = total_set (λ (u : View S E N T). u.late) s.views id v w at in let was = f.clock_ends in omega arith;
  }

  -- a pass whose parts' words and homes stay is as it was
  pub unaffected : (log : List N) (words words' : List ℕ) (homes homes' : List (maybe.Option (Option T))) (u : View S E N T) → IsPass needs stands key log words homes u
      → ((k : ℕ) (x : T) → Has (k, x) u.hand → k < length homes → (k < length homes') × (slice_index words' (word_of k) ≡ slice_index words (word_of k)) × (get_elem? homes' k ≡ get_elem? homes k))
      → IsPass needs stands key log words' homes' u
  unaffected log words words' homes homes' u p stay = record {
    in_hand = λ k x h. let old = p.in_hand k x h in let same = stay k x h old.0 in (same.0, same.1 ∙ old.1, old.2, λ out. same.2 ∙ old.3 out);
    out_of_home = p.out_of_home;
    in_order = p.in_order;
    entries_true = p.entries_true;
    notes_true = p.notes_true;
    looked_true = p.looked_true;
    burnt_true = p.burnt_true;
    room = p.room;
    spent = p.spent;
  }
