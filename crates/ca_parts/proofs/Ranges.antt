-- Passes split and join, and no share is above the whole: these steps keep the facts of parts.
use Rattle.std.proofs.Common.{◌≡◌, ◌≢◌, ℕ, zero, suc, ◌+◌, ◌-◌, ◌/◌, ◌<◌, ◌≤◌, ◌⊎◌, inl, inr, ⊎_elim, Bool, true, false, List, [], ◌∷◌, ◌++◌, set, Option, Some, None, sym, refl, ap, ◌∙◌, subst, arith}
use mathlib.Core.Option.{none, some, some-injective, some-ne-none}
use mathlib.Core.Option as maybe
use lib.ListN.{get_elem?}
use Rattle.atomic_table.specs.Table.{Allows, Splits, Joins, step, keeps}
use Rattle.atomic_table.proofs.Lists.{at_set}
use Rattle.ca_parts.specs.declared.view.View.{View}
use Rattle.ca_parts.specs.Lists.{Has, bit, below, times, total, numbers_of}
use Rattle.ca_parts.specs.Views.{lower_half, upper_half, joined_with, spent_view}
use Rattle.ca_parts.specs.Facts.{held, stamped, covers, late_or_fresh, IsPass, FactsOfParts}
use Rattle.ca_parts.specs.Told.{weighed}
use Rattle.ca_parts.proofs.Lists.{has_either, times_both, below_more, below_zero}
use Rattle.ca_parts.proofs.Totals.{total_set, total_last, total_one}
use Rattle.ca_parts.proofs.Moves.{in_mind, part_as}

at_end : {A : Type 0} (l : List A) (a b : A) (j : ℕ) → get_elem? (l ++ a ∷ []) j ≡ some b → (get_elem? l j ≡ some b) ⊎ (a ≡ b)
at_end [] a b zero e = inr (some-injective a b e)
at_end [] a b (suc j) e = absurd (some-ne-none b (sym e))
at_end (x ∷ xs) a b zero e = inl e
at_end (x ∷ xs) a b (suc j) e = at_end xs a b j e

module _ {S E N T : Type 0} (needs : S → E → List (ℕ × T) → Option ℕ) (steps : S → List N → N → Type 0) (stands : S → List N → ℕ → T → Type 0) (key : S) where
  -- a pass with nothing in hand and nothing kept
  pub bare : (log : List N) (words : List ℕ) (homes : List (maybe.Option (Option T))) (u : View S E N T) → u.hand ≡ [] → u.out ≡ None → u.entries ≡ [] → u.notes ≡ [] → u.looked ≡ None → u.burnt ≡ false → u.late ≡ 0 → u.count ≤ u.share → (u.count ≡ 0 → u.share ≡ 0)
      → IsPass needs stands key log words homes u
  bare log words homes u hand out entries notes looked burnt late room spent = record {
    in_hand = λ k x has. absurd (subst (λ (l : List (ℕ × T)). Has (k, x) l) hand has);
    out_of_home = λ k e. absurd (let a : u.out ≡ Some k = e in cc);
    in_order = λ _. inl hand;
    entries_true = λ n o has. absurd (subst (λ (l : List (ℕ × N)). Has (n, o) l) entries has);
    notes_true = λ n h has. absurd (subst (λ (l : List (ℕ × List (ℕ × T))). Has (n, h) l) notes has);
    looked_true = λ n e. absurd (let a : u.looked ≡ Some n = e in cc);
    burnt_true = λ e. absurd (let a : u.burnt ≡ true = e in cc);
    room = room;
    spent = λ z. record { no_share = spent z; no_part = hand; no_entry = entries; no_note = notes; none_late = late };
  }

  pub splits : (id : ℕ) (v : View S E N T) → 1 < v.count → Splits (FactsOfParts needs steps stands key) id v (lower_half v) (upper_half v)
  splits id v two s f at =
      let low : View S E N T = lower_half v in let high : View S E N T = upper_half v in let views : List (View S E N T) = set s.views id low in
      let p = f.pass id v at in let room = p.room in
      let both : (g : View S E N T → ℕ) → total g (views ++ high ∷ []) + g v ≡ (total g s.views + g low) + g high = λ g. let a = total_set g s.views id v low at in let b = total_last g views high in omega arith in
      record {
        log = f.log;
        follows = f.follows;
        shape = f.shape;
        clock = f.clock;
        part = λ k near. let sum = both (held k) in let same : total (held k) (views ++ high ∷ []) ≡ total (held k) s.views = omega arith in part_as (stands key f.log) k _ _ _ _ _ _ (f.part k near) refl refl same;
        pass = λ j u e. ⊎_elim
            (λ (old : get_elem? views j ≡ some u). ⊎_elim
            (λ (x : (j ≡ id) × (low ≡ u)). subst (λ (y : View S E N T). IsPass needs stands key f.log s.words s.homes y) x.1 record {
              in_hand = p.in_hand;
              out_of_home = p.out_of_home;
              in_order = p.in_order;
              entries_true = p.entries_true;
              notes_true = p.notes_true;
              looked_true = p.looked_true;
              burnt_true = p.burnt_true;
              room = omega arith;
              spent = λ z. absurd (omega arith);
            })
            (λ (x : (j ≢ id) × (get_elem? s.views j ≡ some u)). f.pass j u x.1) (at_set s.views id j low u old))
            (λ (e' : high ≡ u). subst (λ (y : View S E N T). IsPass needs stands key f.log s.words s.homes y) e'
            (bare f.log s.words s.homes high refl refl refl refl refl refl refl (omega arith) (λ z. absurd (omega arith))))
            (at_end views high u j e);
        once = λ n. let sum = both (stamped n) in let was = f.once n in let same : total (stamped n) (views ++ high ∷ []) ≡ total (stamped n) s.views = omega arith in same ∙ was;
        shares = let sum = both (λ (u : View S E N T). u.share) in let was = f.shares in omega arith;
        ranges = λ n. let sum = both (covers n) in let was = f.ranges n in
            let a = below_more n v.first (v.first + (v.count - v.count / 2)) (omega arith) in let b = below_more n (v.first + (v.count - v.count / 2)) (v.first + v.count) (omega arith) in
            let c : below n (v.first + v.count) ≡ below n ((v.first + (v.count - v.count / 2)) + v.count / 2) = ap (λ (m : ℕ). below n m) (omega arith) in omega arith;
        late_once = let sum = both late_or_fresh in let was = f.late_once in let b = bit_small v.burnt in omega arith;
        clock_ends = let sum = both (λ (u : View S E N T). u.late) in let was = f.clock_ends in omega arith;
      }
    where
      bit_small : (b : Bool) → bit b ≤ 1
      bit_small true = omega arith
      bit_small false = omega arith

  pub joins : (id other : ℕ) (v w : View S E N T) → 0 < v.count → w.hand ≡ [] → Joins (FactsOfParts needs steps stands key) id v other w (joined_with v w) spent_view
  joins id other v w some_number no_part s f at apart at_other =
      let one : View S E N T = joined_with v w in let gone : View S E N T = spent_view in let mid : List (View S E N T) = set s.views id one in let views : List (View S E N T) = set mid other gone in
      let at_w : get_elem? s.views other ≡ some w = ⊎_elim (λ (x : (other ≡ id) × (one ≡ w)). absurd (apart x.0)) (λ (x : (other ≢ id) × (get_elem? s.views other ≡ some w)). x.1) (at_set s.views id other one w at_other) in
      let p = f.pass id v at in let q = f.pass other w at_w in let room = p.room in
      let both : (g : View S E N T → ℕ) → (total g views + g w) + g v ≡ (total g s.views + g one) + g gone = λ g. let a = total_set g s.views id v one at in let b = total_set g mid other w gone at_other in omega arith in
      record {
        log = f.log;
        follows = f.follows;
        shape = f.shape;
        clock = f.clock;
        part = λ k near. let sum = both (held k) in let none_there : held k w ≡ 0 = ap (λ (l : List (ℕ × T)). times k (numbers_of l)) no_part in let same : total (held k) views ≡ total (held k) s.views = omega arith in part_as (stands key f.log) k _ _ _ _ _ _ (f.part k near) refl refl same;
        pass = λ j u e. ⊎_elim
            (λ (x : (j ≡ other) × (gone ≡ u)). subst (λ (y : View S E N T). IsPass needs stands key f.log s.words s.homes y) x.1 (bare f.log s.words s.homes gone refl refl refl refl refl refl refl (omega arith) (λ _. refl)))
            (λ (x : (j ≢ other) × (get_elem? mid j ≡ some u)). ⊎_elim
            (λ (y : (j ≡ id) × (one ≡ u)). subst (λ (z : View S E N T). IsPass needs stands key f.log s.words s.homes z) y.1 record {
              in_hand = p.in_hand;
              out_of_home = p.out_of_home;
              in_order = p.in_order;
              entries_true = λ n o has. ⊎_elim (λ (l : Has (n, o) v.entries). p.entries_true n o l) (λ (r : Has (n, o) w.entries). q.entries_true n o r) (has_either (n, o) v.entries w.entries has);
              notes_true = λ n h has. ⊎_elim (λ (l : Has (n, h) v.notes). p.notes_true n h l) (λ (r : Has (n, h) w.notes). q.notes_true n h r) (has_either (n, h) v.notes w.notes has);
              looked_true = p.looked_true;
              burnt_true = p.burnt_true;
              room = omega arith;
              spent = λ z. absurd (omega arith);
            })
            (λ (y : (j ≢ id) × (get_elem? s.views j ≡ some u)). f.pass j u y.1) (at_set s.views id j one u x.1))
            (at_set mid other j gone u e);
        once = λ n. let sum = both (stamped n) in let was = f.once n in let more = times_both n v.entries w.entries in let same : total (stamped n) views ≡ total (stamped n) s.views = omega arith in same ∙ was;
        shares = let sum = both (λ (u : View S E N T). u.share) in let was = f.shares in omega arith;
        ranges = λ n. let sum = both (covers n) in let was = f.ranges n in let z = below_zero n in omega arith;
        late_once = let sum = both late_or_fresh in let was = f.late_once in omega arith;
        clock_ends = let sum = both (λ (u : View S E N T). u.late) in let was = f.clock_ends in omega arith;
      }

  pub weighs : (slots id : ℕ) (v : View S E N T) → Allows (FactsOfParts needs steps stands key) slots id (v, []) 0 (λ n. n) (weighed (step slots 0 0 0 none) (v, []))
  weighs slots id v s f wide at bound = let all = f.shares in let mine = total_one (λ (u : View S E N T). u.share) s.views id v at in
      (v, keeps, tt, in_mind needs steps stands key s f id v v at refl refl refl refl refl refl refl (f.pass id v at) 0, (refl, omega arith))
