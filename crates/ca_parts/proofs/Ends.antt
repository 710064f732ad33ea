-- A row starts with the facts of parts, and what the last state of a row shows when it is closed.
use Rattle.std.proofs.Common.{◌≡◌, ◌≢◌, ℕ, zero, suc, ◌+◌, ◌<◌, ◌≤◌, Bool, true, false, set, slice_index_or, add-one, List, [], ◌∷◌, ◌++◌, map, length, replicate, take, Option, Some, None, slice_get, slice_index, sym, refl, ap, ◌∙◌, subst, arith}
use Rattle.std.proofs.lemmas.List.{map-append, get_or-set_same, get_or-set_other}
use Rattle.std.proofs.lemmas.Option.{slice_get_within}
use mathlib.Core.Option.{none, some, some-injective, some-ne-none}
use mathlib.Core.Option as maybe
use mathlib.Core.Logic.{dite}
use native.Mathlib.Decide.{ℕ_discrete}
use lib.ListN.{get_elem?, length-map, length-replicate, get_or-replicate}
use Rattle.ca_base.specs.declared.limits.TheConstants.{MAX_PASSES}
use Rattle.atomic_table.specs.Table.{State, opening, Final, Seen}
use Rattle.ca_parts.specs.declared.view.View.{View}
use Rattle.ca_parts.specs.Lists.{below, times, total, numbers_of}
use Rattle.ca_parts.specs.Views.{first_view}
use Rattle.ca_parts.specs.Facts.{word_of, word_count, held, stamped, IsPass, FactsOfParts}
use Rattle.ca_parts.specs.Calls.{IsWhole}
use Rattle.ca_parts.proofs.Lists.{below_zero, below_at_most}
use Rattle.ca_parts.proofs.Totals.{total_alone}
use Rattle.ca_parts.proofs.Moves.{others_spent}
use Rattle.ca_parts.proofs.Ranges.{bare}

at_home : {T : Type 0} (values : List T) (k : ℕ) → k < length values → (x : T) × (get_elem? (map some (map Some values)) k ≡ some (some (Some x))) × (slice_get values k ≡ Some x)
at_home [] k near = absurd (omega arith)
at_home (x ∷ xs) zero near = (x, refl, refl)
at_home (x ∷ xs) (suc k) near = at_home xs k (omega arith)

-- where the slots are the values, each in a Some
pub some_slot : {T : Type 0} (values : List T) (slots : List (Option T)) → map Some values ≡ slots → (k : ℕ) (x : T) → slice_get values k ≡ Some x → get_elem? slots k ≡ some (Some x)
some_slot {T} values slots is k x e = subst (λ (l : List (Option T)). get_elem? l k ≡ some (Some x)) is (here values k e)
  where
    here : (vs : List T) (i : ℕ) → slice_get vs i ≡ Some x → get_elem? (map Some vs) i ≡ some (Some x)
    here [] i d = absurd (let q : None ≡ Some x = d in cc)
    here (y ∷ ys) zero d = let same : y ≡ x = cc in ap (λ (z : T). some (Some z)) same
    here (y ∷ ys) (suc i) d = here ys i d

pub index_of : (xs : List ℕ) (i n : ℕ) → get_elem? xs i ≡ some n → n ≡ slice_index xs i
index_of [] i n e = absurd (some-ne-none n (sym e))
index_of (x ∷ xs) zero n e = sym (some-injective x n e)
index_of (x ∷ xs) (suc i) n e = index_of xs i n e

take_next : {A : Type 0} (xs : List A) (k : ℕ) (x : A) → get_elem? xs k ≡ some x → take (suc k) xs ≡ take k xs ++ x ∷ []
take_next [] k x e = absurd (some-ne-none x (sym e))
take_next (y ∷ ys) zero x e = ap (λ z. z ∷ []) (some-injective y x e)
take_next (y ∷ ys) (suc k) x e = ap (λ l. y ∷ l) (take_next ys k x e)

pub next_value : {T : Type 0} (values : List T) (slots : List (Option T)) (k : ℕ) (x : T) → map Some values ≡ take k slots → get_elem? slots k ≡ some (Some x) → map Some (values ++ x ∷ []) ≡ take (k + 1) slots
next_value values slots k x so_far e = map-append Some values (x ∷ []) ∙ (ap (λ l. l ++ Some x ∷ []) so_far ∙ (sym (take_next slots k (Some x) e) ∙ ap (λ n. take n slots) (sym (add-one k))))

-- one more place is emptied
pub still_full : (filled : List Bool) (k len : ℕ) → ((j : ℕ) → k ≤ j → j < len → slice_index_or filled j false ≡ true) → (j : ℕ) → k + 1 ≤ j → j < len → slice_index_or (set filled k false) j false ≡ true
still_full filled k len full j above inside = get_or-set_other filled k j false false (λ e. absurd (omega arith)) ∙ full j (omega arith) inside

pub more_empty : (filled : List Bool) (k : ℕ) → k < length filled → ((j : ℕ) → j < k → slice_index_or filled j false ≡ false) → (j : ℕ) → j < k + 1 → slice_index_or (set filled k false) j false ≡ false
more_empty filled k inside empty j near = dite (ℕ_discrete j k) (λ (e : j ≡ k). subst (λ (i : ℕ). slice_index_or (set filled k false) i false ≡ false) (sym e) (get_or-set_same filled k false false inside))
    (λ (ne : j ≢ k). get_or-set_other filled k j false false ne ∙ empty j (omega arith))

module _ {S E N T : Type 0} (needs : S → E → List (ℕ × T) → Option ℕ) (steps : S → List N → N → Type 0) (stands : S → List N → ℕ → T → Type 0) (key : S) where
  pub opens : (values : List T) (words : List ℕ) (slots : List (Option T)) → words ≡ replicate (word_count (length values)) 0 → slots ≡ map Some values → ((k : ℕ) (x : T) → slice_get values k ≡ Some x → stands key [] k x)
      → FactsOfParts needs steps stands key (opening words slots (first_view key))
  opens values words slots words_are slots_are stand =
      let ws : List ℕ = replicate (word_count (length values)) 0 in let homes : List (maybe.Option (Option T)) = map some (map Some values) in
      let wide : length homes ≡ length values = length-map (map Some values) some ∙ length-map values Some in let long : length ws ≡ word_count (length values) = length-replicate (word_count (length values)) 0 in
      let zero_at : (i : ℕ) → i < word_count (length values) → slice_index ws i ≡ 0 = λ i near. get_or-replicate (word_count (length values)) i 0 0 near in
      let p = bare needs steps stands key [] ws homes (first_view key) refl refl refl refl refl refl refl (omega arith) (λ z. absurd (omega arith)) in
      subst (λ (a : List ℕ). FactsOfParts needs steps stands key (opening a slots (first_view key))) (sym words_are)
      (subst (λ (b : List (Option T)). FactsOfParts needs steps stands key (opening ws b (first_view key))) (sym slots_are) record {
        log = [];
        follows = tt;
        shape = long ∙ ap word_count (sym wide);
        clock = zero_at 0 (omega arith);
        part = λ k near. let home = at_home values k (omega arith) in record { free = λ _. (omega arith, (home.0, home.1, stand k home.0 home.2)); taken = λ nz. absurd (nz (zero_at (word_of k) (omega arith))) };
        pass = only p;
        once = λ n. let z = below_zero n in omega arith;
        shares = omega arith;
        ranges = λ n. let z = below_at_most n (0 + MAX_PASSES) in omega arith;
        late_once = omega arith;
        clock_ends = omega arith;
      })
    where
      only : {ws : List ℕ} {homes : List (maybe.Option (Option T))} → IsPass needs stands key [] ws homes (first_view key) → (id : ℕ) (u : View S E N T) → get_elem? (first_view key ∷ []) id ≡ some u → IsPass needs stands key [] ws homes u
      only {ws} {homes} p zero u e = subst (λ (y : View S E N T). IsPass needs stands key [] ws homes y) (some-injective (first_view key) u e) p
      only p (suc i) u e = absurd (some-ne-none u (sym e))

  module _ (id : ℕ) (v : View S E N T) (words : List ℕ) (slots : List (Option T)) (last : Final (Seen (FactsOfParts needs steps stands key) id v) words slots) (full : v.share ≡ MAX_PASSES) (no_part : v.hand ≡ []) where
    abbrev s : State (Option T) (View S E N T)
    s = last.0

    abbrev f : FactsOfParts needs steps stands key s
    f = last.1.0

    abbrev at : get_elem? s.views id ≡ some v
    at = last.1.1

    -- every part is home
    home_of : (k : ℕ) → k < length s.homes → (x : T) × (get_elem? s.homes k ≡ some (some (Some x))) × stands key f.log k x
    home_of k near =
        let mine : total (held k) s.views ≡ held k v = total_alone (held k) s.views id v at (λ j u ne e. ap (λ (l : List (ℕ × T)). times k (numbers_of l)) (others_spent needs steps stands key s f id v at full j u ne e).no_part) in
        let none_here : held k v ≡ 0 = ap (λ (l : List (ℕ × T)). times k (numbers_of l)) no_part in
        let part = f.part k near in
        dite (ℕ_discrete (slice_index s.words (word_of k)) 0) (λ (z : slice_index s.words (word_of k) ≡ 0). (part.free z).1) (λ (nz : slice_index s.words (word_of k) ≢ 0). let one = part.taken nz in absurd (omega arith))

    pub slots_full : (k : ℕ) → k < length slots → (x : T) × (get_elem? slots k ≡ some (Some x))
    slots_full k near = let wide : length s.homes ≡ length slots = last.3 in let h = home_of k (omega arith) in (h.0, last.4 k (Some h.0) h.1)

    pub whole : (values : List T) → map Some values ≡ slots → IsWhole needs steps stands key (slice_index words 0) values v
    whole values are = let p = f.pass id v at in let clock : slice_index s.words 0 ≡ length f.log = f.clock in let wide : length s.homes ≡ length slots = last.3 in
        let n_is : length f.log ≡ slice_index words 0 = sym clock ∙ ap (λ (l : List ℕ). slice_index l 0) last.2 in record {
          log = f.log;
          length_is = n_is;
          follows = f.follows;
          values_stand = λ k x e. let inside = slice_get_within values k x e in let long : length values ≡ length slots = sym (length-map values Some) ∙ ap length are in let h = home_of k (omega arith) in
              let mine = some_slot values slots are k x e in let his = last.4 k (Some h.0) h.1 in
              let same : some (Some x) ≡ some (Some h.0) = sym mine ∙ his in let x_is : x ≡ h.0 = cc in subst (λ (y : T). stands key f.log k y) (sym x_is) h.2;
          entries_true = λ m entry has. let is = p.entries_true m entry has in let inside = slice_get_within f.log m entry is in (omega arith, is);
          entries_all = λ m. let mine : total (stamped m) s.views ≡ stamped m v = total_alone (stamped m) s.views id v at (λ j u ne e. ap (λ (l : List (ℕ × N)). times m (numbers_of l)) (others_spent needs steps stands key s f id v at full j u ne e).no_entry) in
              sym mine ∙ (f.once m ∙ ap (λ (n : ℕ). below m n) n_is);
          notes_true = λ m hand has. let is = p.notes_true m hand has in let near = is.0 in (omega arith, is.1);
        }
