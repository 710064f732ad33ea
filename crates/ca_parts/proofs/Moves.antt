-- A part is taken, refused or given, and its value goes out and home: each of these steps keeps the facts of parts.
use Rattle.std.proofs.Common.{◌≡◌, ◌≢◌, ℕ, ◌+◌, ◌<◌, ◌⊎◌, inl, inr, ⊎_elim, false, true≢false, List, [], ◌∷◌, length, set, Option, Some, None, slice_index, sym, refl, ap, ◌∙◌, subst, length-set, arith}
use Rattle.std.specs.Prelude.{◌==◌}
use Rattle.std.proofs.lemmas.List.{get_or-set_same, get_or-set_other, set-get_or}
use mathlib.Core.Option.{none, some}
use mathlib.Core.Option as maybe
use mathlib.Core.Logic.{dite}
use native.Mathlib.Decide.{ℕ_discrete}
use lib.ListN.{get_elem?}
use prog.Atomic.{either}
use Rattle.ca_base.specs.declared.limits.TheConstants.{MAX_PASSES}
use Rattle.atomic_table.specs.Table.{State, Act, Allows, Valid, step, stepped, carried_after, keeps, takes, gives}
use Rattle.atomic_table.proofs.Lists.{set_here, set_else, exchanged}
use Rattle.ca_parts.specs.declared.view.View.{View}
use Rattle.ca_parts.specs.Lists.{Has, times, total, numbers_of, without}
use Rattle.ca_parts.specs.Hands.{IsTakenFor}
use Rattle.ca_parts.specs.Views.{with_part, with_refusal, without_part}
use Rattle.ca_parts.specs.Facts.{word_of, word_count, held, IsPart, IsSpent, IsPass, FactsOfParts}
use Rattle.ca_parts.specs.Calls.{MayTake, WasTaken}
use Rattle.ca_parts.specs.Told.{sent_out, settled, took, shelved, fetched, gave}
use Rattle.ca_parts.proofs.Lists.{has_last, has_right, has_times, times_has, times_last, times_without, has_without, follows_last, bit_same, bit_other}
use Rattle.ca_parts.proofs.Totals.{total_one, total_two, total_alone}
use Rattle.ca_parts.proofs.Moving.{moved, unaffected}

pub part_as : {T : Type 0} (P : ℕ → T → Type 0) (k word word' : ℕ) (home home' : maybe.Option (maybe.Option (Option T))) (hands hands' : ℕ) → IsPart P k word home hands → word' ≡ word → home' ≡ home → hands' ≡ hands → IsPart P k word' home' hands'
part_as P k word word' home home' hands hands' p same_word same_home same_hands = record {
  free = λ z. let t = p.free (sym same_word ∙ z) in (same_hands ∙ t.0, (t.1.0, same_home ∙ t.1.1, t.1.2));
  taken = λ nz. same_hands ∙ p.taken (λ z. nz (same_word ∙ z));
}

module _ {S E N T : Type 0} (needs : S → E → List (ℕ × T) → Option ℕ) (steps : S → List N → N → Type 0) (stands : S → List N → ℕ → T → Type 0) (key : S) where
  -- a step that changes one part's word and home, and the hand of one pass at this part alone
  pub at_part : (s : State (Option T) (View S E N T)) (f : FactsOfParts needs steps stands key s) (id : ℕ) (v w : View S E N T) → get_elem? s.views id ≡ some v
      → (k n : ℕ) (h : maybe.Option (Option T)) → k < length s.homes
      → w.share ≡ v.share → w.entries ≡ v.entries → w.first ≡ v.first → w.count ≡ v.count → w.late ≡ v.late → w.burnt ≡ v.burnt
      → ((j : ℕ) → j ≢ k → held j w ≡ held j v)
      → ((j : ℕ) (u : View S E N T) → j ≢ id → get_elem? s.views j ≡ some u → held k u ≡ 0)
      → ((hands : ℕ) → hands + held k v ≡ total (held k) s.views + held k w → IsPart (stands key f.log) k n (some h) hands)
      → IsPass needs stands key f.log (set s.words (word_of k) n) (set s.homes k h) w
      → FactsOfParts needs steps stands key record { words = set s.words (word_of k) n; homes = set s.homes k h; views = set s.views id w }
  at_part s f id v w at k n h near share entries first count late burnt elsewhere alone here mine =
      let words : List ℕ = set s.words (word_of k) n in let homes : List (maybe.Option (Option T)) = set s.homes k h in
      let shape = f.shape in
      let wide : length homes ≡ length s.homes = length-set s.homes k h in
      moved needs steps stands key s f id v w at words homes
      (length-set s.words (word_of k) n ∙ (shape ∙ ap word_count (sym wide)))
      (get_or-set_other s.words (word_of k) 0 n 0 (λ q. absurd (omega arith)))
      share entries first count late burnt
      (λ j inside. dite (ℕ_discrete j k)
      (λ (e : j ≡ k). subst (λ (i : ℕ). (hands : ℕ) → hands + held i v ≡ total (held i) s.views + held i w → IsPart (stands key f.log) i (slice_index words (word_of i)) (get_elem? homes i) hands) (sym e)
      (λ hands sum. part_as (stands key f.log) k n (slice_index words (word_of k)) (some h) (get_elem? homes k) hands hands (here hands sum) (get_or-set_same s.words (word_of k) n 0 (omega arith)) (set_here s.homes k h near) refl))
      (λ (ne : j ≢ k). λ hands sum. let same = elsewhere j ne in let hands_are : hands ≡ total (held j) s.views = omega arith in let inside' : j < length s.homes = omega arith in
      part_as (stands key f.log) j (slice_index s.words (word_of j)) (slice_index words (word_of j)) (get_elem? s.homes j) (get_elem? homes j) (total (held j) s.views) hands (f.part j inside')
      (get_or-set_other s.words (word_of k) (word_of j) n 0 (λ q. ne (omega arith))) (set_else s.homes k j h ne) hands_are))
      mine
      (λ j u ne e. let no_hand = alone j u ne e in unaffected needs steps stands key f.log s.words words s.homes homes u (f.pass j u e)
      (λ i x has inside. let some_hand = has_times i x u.hand has in let apart : i ≢ k = λ q. absurd (let same : held i u ≡ held k u = ap (λ (m : ℕ). held m u) q in omega arith) in
      (omega arith, get_or-set_other s.words (word_of k) (word_of i) n 0 (λ q. apart (omega arith)), set_else s.homes k i h apart)))

  -- a part in hand is in no other, and its word is not free
  pub only_here : (s : State (Option T) (View S E N T)) (f : FactsOfParts needs steps stands key s) (id : ℕ) (v : View S E N T) → get_elem? s.views id ≡ some v → (k : ℕ) (x : T) → Has (k, x) v.hand
      → (total (held k) s.views ≡ 1) × (held k v ≡ 1) × ((j : ℕ) (u : View S E N T) → j ≢ id → get_elem? s.views j ≡ some u → held k u ≡ 0)
  only_here s f id v at k x has =
      let mine = (f.pass id v at).in_hand k x has in let named = mine.1 in
      let one : total (held k) s.views ≡ 1 = (f.part k mine.0).taken (λ z. absurd (omega arith)) in
      let some_hand = has_times k x v.hand has in let at_most = total_one (held k) s.views id v at in
      (one, omega arith, λ j u ne e. let two = total_two (held k) s.views id j v u ne at e in omega arith)

  -- what a pass has in hand beside the part k, after a step at k
  pub beside : (log : List N) (words : List ℕ) (homes : List (maybe.Option (Option T))) (v w : View S E N T) → IsPass needs stands key log words homes v → (k n : ℕ) (h : maybe.Option (Option T)) → w.first ≡ v.first
      → (j : ℕ) (y : T) → Has (j, y) v.hand → j ≢ k → (w.out ≢ Some j → v.out ≢ Some j)
      → (j < length (set homes k h)) × (slice_index (set words (word_of k) n) (word_of j) ≡ w.first + 1) × stands key log j y × (w.out ≢ Some j → get_elem? (set homes k h) j ≡ some (some None))
  beside log words homes v w p k n h first j y has ne out =
      let old = p.in_hand j y has in let near = old.0 in let wide = length-set homes k h in let named = old.1 in
      let stays : slice_index (set words (word_of k) n) (word_of j) ≡ slice_index words (word_of j) = get_or-set_other words (word_of k) (word_of j) n 0 (λ q. ne (omega arith)) in
      (omega arith, omega arith, old.2, λ o. set_else homes k j h ne ∙ old.3 (out o))

  -- what a pass that takes for an event has in hand is taken for it
  pub taken_for : (log : List N) (words : List ℕ) (homes : List (maybe.Option (Option T))) (v : View S E N T) → IsPass needs stands key log words homes v → (event : E) → (v.hand ≡ []) ⊎ ((v.giving ≡ false) × (v.event ≡ Some event)) → IsTakenFor needs key event v.hand
  taken_for log words homes v p event taking =
      let none_yet : v.hand ≡ [] → IsTakenFor needs key event v.hand = λ e. subst (λ (l : List (ℕ × T)). IsTakenFor needs key event l) (sym e) tt in
      ⊎_elim none_yet (λ (t : (v.giving ≡ false) × (v.event ≡ Some event)). ⊎_elim none_yet
      (λ (u : (other : E) × (v.event ≡ Some other) × IsTakenFor needs key other v.hand). let is : v.event ≡ Some u.0 = u.1 in let is' : v.event ≡ Some event = t.1 in let same : u.0 ≡ event = cc in subst (λ (o : E). IsTakenFor needs key o v.hand) same u.2)
      (p.in_order t.0)) taking

  -- a pass with the whole share is the only one
  pub others_spent : (s : State (Option T) (View S E N T)) (f : FactsOfParts needs steps stands key s) (id : ℕ) (v : View S E N T) → get_elem? s.views id ≡ some v → v.share ≡ MAX_PASSES
      → (j : ℕ) (u : View S E N T) → j ≢ id → get_elem? s.views j ≡ some u → IsSpent u
  others_spent s f id v at full j u ne e = let two = total_two (λ (w : View S E N T). w.share) s.views id j v u ne at e in let all = f.shares in let p = f.pass j u e in let room = p.room in p.spent (omega arith)

  -- a step that changes what a pass knows, and not its hand
  pub in_mind : (s : State (Option T) (View S E N T)) (f : FactsOfParts needs steps stands key s) (id : ℕ) (v w : View S E N T) → get_elem? s.views id ≡ some v
      → w.share ≡ v.share → w.entries ≡ v.entries → w.first ≡ v.first → w.count ≡ v.count → w.late ≡ v.late → w.burnt ≡ v.burnt → w.hand ≡ v.hand
      → IsPass needs stands key f.log s.words s.homes w → (i : ℕ)
      → FactsOfParts needs steps stands key record { words = set s.words i (slice_index s.words i); homes = s.homes; views = set s.views id w }
  in_mind s f id v w at share entries first count late burnt hand mine i = subst (λ (ws : List ℕ). FactsOfParts needs steps stands key record { words = ws; homes = s.homes; views = set s.views id w }) (sym (set-get_or s.words i 0))
      (moved needs steps stands key s f id v w at s.words s.homes f.shape refl share entries first count late burnt
      (λ k near hands sum. let same : held k w ≡ held k v = ap (λ (l : List (ℕ × T)). times k (numbers_of l)) hand in let hands_are : hands ≡ total (held k) s.views = omega arith in part_as (stands key f.log) k _ _ _ _ (total (held k) s.views) hands (f.part k near) refl refl hands_are)
      mine
      (λ j u ne e. f.pass j u e))

  module _ (slots id k : ℕ) (v : View S E N T) where
    -- the part is on its way out: its empty slot goes home
    pub shelves : v.out ≡ Some k → Allows (FactsOfParts needs steps stands key) slots id (v, (k, None) ∷ []) (word_of k) (λ n. n) (shelved (step slots (word_of k) 0 0 none) (v, (k, None) ∷ []))
    shelves out s f wide at bound =
        let p = f.pass id v at in let has = p.out_of_home k out in let mine = p.in_hand k has.0 has.1 in let named = mine.1 in let here = only_here s f id v at k has.0 has.1 in
        let n : ℕ = slice_index s.words (word_of k) in let w : View S E N T = settled v in let shape = f.shape in let near = mine.0 in (
          w,
          gives,
          tt,
          at_part s f id v w at k n (some None) near refl refl refl refl refl refl (λ j ne. refl) here.2
              (λ hands sum. record { free = λ z. absurd (omega arith); taken = λ nz. let one = here.0 in omega arith })
              record {
                in_hand = λ j y h. dite (ℕ_discrete j k)
                    (λ (e : j ≡ k). subst (λ (i : ℕ). Has (i, y) v.hand → (i < length (set s.homes k (some None))) × (slice_index (set s.words (word_of k) n) (word_of i) ≡ v.first + 1) × stands key f.log i y × (w.out ≢ Some i → get_elem? (set s.homes k (some None)) i ≡ some (some None))) (sym e)
                    (λ hk. let old = p.in_hand k y hk in let long = length-set s.homes k (some None) in (omega arith, get_or-set_same s.words (word_of k) n 0 (omega arith) ∙ old.1, old.2, λ o. set_here s.homes k (some None) near)) h)
                    (λ (ne : j ≢ k). beside f.log s.words s.homes v w p k n (some None) refl j y h ne (λ o q. let a : v.out ≡ Some k = out in let b : v.out ≡ Some j = q in let same : j ≡ k = cc in ne same));
                out_of_home = λ j e. absurd (let q : w.out ≡ Some j = e in cc);
                in_order = p.in_order;
                entries_true = p.entries_true;
                notes_true = p.notes_true;
                looked_true = p.looked_true;
                burnt_true = p.burnt_true;
                room = p.room;
                spent = λ z. let q = p.spent z in record { no_share = q.no_share; no_part = q.no_part; no_entry = q.no_entry; no_note = q.no_note; none_late = q.none_late };
              },
          refl,
        )

    -- the empty slot of a part in hand comes from its home
    pub fetches : (x : T) → Has (k, x) v.hand → v.out ≡ None → Allows (FactsOfParts needs steps stands key) slots id (v, []) (word_of k) (λ n. n) (fetched (step slots (word_of k) 0 0 none) (v, []))
    fetches x has out s f wide at bound =
        let p = f.pass id v at in let mine = p.in_hand k x has in let named = mine.1 in let here = only_here s f id v at k x has in
        let n : ℕ = slice_index s.words (word_of k) in let w : View S E N T = sent_out k v in let shape = f.shape in let near = mine.0 in
        let is_out : (j : ℕ) → v.out ≢ Some j = λ j q. absurd (let a : v.out ≡ Some j = q in let b : v.out ≡ None = out in cc) in (
          w,
          takes k None,
          mine.3 (is_out k),
          at_part s f id v w at k n none near refl refl refl refl refl refl (λ j ne. refl) here.2
              (λ hands sum. record { free = λ z. absurd (omega arith); taken = λ nz. let one = here.0 in omega arith })
              record {
                in_hand = λ j y h. dite (ℕ_discrete j k)
                    (λ (e : j ≡ k). subst (λ (i : ℕ). Has (i, y) v.hand → (i < length (set s.homes k none)) × (slice_index (set s.words (word_of k) n) (word_of i) ≡ v.first + 1) × stands key f.log i y × (w.out ≢ Some i → get_elem? (set s.homes k none) i ≡ some (some None))) (sym e)
                    (λ hk. let old = p.in_hand k y hk in let long = length-set s.homes k none in (omega arith, get_or-set_same s.words (word_of k) n 0 (omega arith) ∙ old.1, old.2, λ o. absurd (o refl))) h)
                    (λ (ne : j ≢ k). beside f.log s.words s.homes v w p k n none refl j y h ne (λ o. is_out j));
                out_of_home = λ j e. let q : w.out ≡ Some j = e in let same : k ≡ j = cc in (x, subst (λ (i : ℕ). Has (i, x) v.hand) same has);
                in_order = p.in_order;
                entries_true = p.entries_true;
                notes_true = p.notes_true;
                looked_true = p.looked_true;
                burnt_true = p.burnt_true;
                room = p.room;
                spent = λ z. let q = p.spent z in record { no_share = q.no_share; no_part = q.no_part; no_entry = q.no_entry; no_note = q.no_note; none_late = q.none_late };
              },
          λ j q. let same : k ≡ j = omega arith in ap (λ (i : ℕ). (sent_out i v, (i, None) ∷ [])) same,
        )

    -- the part is given back, with the value that it stands for
    pub gives_back : (x : T) → Has (k, x) v.hand → v.out ≡ Some k → Allows (FactsOfParts needs steps stands key) slots id (v, (k, Some x) ∷ []) (word_of k) (λ _. 0) (λ _. gave (step slots (word_of k) 0 0 none) (v, (k, Some x) ∷ []) 0)
    gives_back x has out s f wide at bound =
        let p = f.pass id v at in let mine = p.in_hand k x has in let here = only_here s f id v at k x has in
        let w : View S E N T = settled (without_part k v) in let shape = f.shape in let near = mine.0 in
        let left = times_without k k x v.hand has in let one_less = bit_same k k refl in let was = here.1 in
        let none_left : held k w ≡ 0 = omega arith in (
          w,
          gives,
          tt,
          at_part s f id v w at k 0 (some (Some x)) near refl refl refl refl refl refl
              (λ j ne. let rest = times_without j k x v.hand has in let other = bit_other j k ne in omega arith) here.2
              (λ hands sum. let one = here.0 in record { free = λ z. (omega arith, (x, refl, mine.2)); taken = λ nz. absurd (nz refl) })
              record {
                in_hand = λ j y h. let some_hand = has_times j y w.hand h in let ne : j ≢ k = λ q. absurd (let same : held j w ≡ held k w = ap (λ (m : ℕ). held m w) q in omega arith) in
                    beside f.log s.words s.homes v w p k 0 (some (Some x)) refl j y (has_without k (j, y) v.hand h) ne (λ o q. let a : v.out ≡ Some k = out in let b : v.out ≡ Some j = q in let same : j ≡ k = cc in ne same);
                out_of_home = λ j e. absurd (let q : w.out ≡ Some j = e in cc);
                in_order = λ e. absurd (true≢false e);
                entries_true = p.entries_true;
                notes_true = p.notes_true;
                looked_true = p.looked_true;
                burnt_true = p.burnt_true;
                room = p.room;
                spent = λ z. let q = p.spent z in record { no_share = q.no_share; no_part = ap (λ (l : List (ℕ × T)). without k l) q.no_part; no_entry = q.no_entry; no_note = q.no_note; none_late = q.none_late };
              },
          λ j q. let same : k ≡ j = omega arith in ap (λ (i : ℕ). (settled (without_part i v), [])) same,
        )

  -- the part is free and is taken, or its word is read as taken
  pub takes_or_not : (apart : (event : E) (hand : List (ℕ × T)) (k : ℕ) → IsTakenFor needs key event hand → needs key event hand ≡ Some k → (y : T) → ¬ Has (k, y) hand)
      → (slots id k name : ℕ) (v : View S E N T) (event : E) → k < slots → name ≡ v.first + 1 → v.settings ≡ Some key → v.out ≡ None → 0 < v.count → MayTake needs key event k v
      → Allows (FactsOfParts needs steps stands key) slots id (v, []) (word_of k) (λ n. either (n == 0) name n) (took needs steps stands (Some event) (step slots (word_of k) 0 name none) (v, []))
  takes_or_not apart slots id k name v event inside name_is settings out some_number may s f wide at bound =
      let p = f.pass id v at in let shape = f.shape in let near : k < length s.homes = omega arith in let part = f.part k near in
      let n : ℕ = slice_index s.words (word_of k) in
      exchanged n 0 name (λ (m : ℕ). (w : View S E N T) × (a : Act (Option T)) × Valid s.homes [] a × FactsOfParts needs steps stands key (stepped s (word_of k) m id [] w a) × took needs steps stands (Some event) (step slots (word_of k) 0 name none) (v, []) n (w, carried_after [] a))
      (λ (z : n ≡ 0).
      let free = part.free z in let x : T = free.1.0 in let w : View S E N T = sent_out k (with_part event k x v) in let nowhere = free.0 in
      let mine = total_one (held k) s.views id v at in let not_mine : held k v ≡ 0 = omega arith in
      let last = times_last k v.hand (k, x) in let one_more = bit_same k k refl in let one : held k w ≡ 1 = omega arith in
      let is_out : (j : ℕ) → v.out ≢ Some j = λ j q. absurd (let a : v.out ≡ Some j = q in let b : v.out ≡ None = out in cc) in (
        w,
        takes k (Some x),
        free.1.1,
        at_part s f id v w at k name none near refl refl refl refl refl refl
            (λ j ne. let more = times_last j v.hand (k, x) in let other = bit_other j k ne in omega arith)
            (λ j u ne e. let his = total_one (held k) s.views j u e in omega arith)
            (λ hands sum. record { free = λ q. absurd (omega arith); taken = λ nz. omega arith })
            record {
              in_hand = λ j y h. ⊎_elim
                  (λ (old : Has (j, y) v.hand). let some_hand = has_times j y v.hand old in let ne : j ≢ k = λ q. absurd (let same : held j v ≡ held k v = ap (λ (m : ℕ). held m v) q in omega arith) in beside f.log s.words s.homes v w p k name none refl j y old ne (λ o. is_out j))
                  (λ (e : (j, y) ≡ (k, x)). subst (λ (q : ℕ × T). (q.0 < length (set s.homes k none)) × (slice_index (set s.words (word_of k) name) (word_of q.0) ≡ v.first + 1) × stands key f.log q.0 q.1 × (w.out ≢ Some q.0 → get_elem? (set s.homes k none) q.0 ≡ some (some None))) (sym e)
                  (let long = length-set s.homes k none in (omega arith, get_or-set_same s.words (word_of k) name 0 (omega arith) ∙ name_is, free.1.2, λ o. absurd (o refl))))
                  (has_last (j, y) (k, x) v.hand h);
              out_of_home = λ j e. let q : w.out ≡ Some j = e in let same : k ≡ j = cc in (x, subst (λ (i : ℕ). Has (i, x) w.hand) same (has_right (k, x) v.hand ((k, x) ∷ []) (inl refl)));
              in_order = λ _. inr (event, refl, follows_last (λ before q. needs key event before ≡ Some q.0) [] v.hand (k, x) (taken_for f.log s.words s.homes v p event may.taking) may.next);
              entries_true = p.entries_true;
              notes_true = p.notes_true;
              looked_true = p.looked_true;
              burnt_true = p.burnt_true;
              room = p.room;
              spent = λ q. absurd (omega arith);
            },
        λ j q. let same : k ≡ j = omega arith in (
          λ _ e is. let event_is : event ≡ e = (let i : Some event ≡ Some e = is in cc) in (x, ap (λ (i : ℕ). sent_out i (with_part event i x v)) same ∙ ap (λ (o : E). sent_out j (with_part o j x v)) event_is, ap (λ (i : ℕ). (i, Some x) ∷ []) same),
          λ nz. absurd (nz z),
        ),
      ))
      (λ (nz : n ≢ 0).
      let w : View S E N T = with_refusal k v in (
        w,
        keeps,
        tt,
        in_mind s f id v w at refl refl refl refl refl refl refl
            record {
              in_hand = p.in_hand;
              out_of_home = p.out_of_home;
              in_order = p.in_order;
              entries_true = p.entries_true;
              notes_true = p.notes_true;
              looked_true = p.looked_true;
              burnt_true = p.burnt_true;
              room = p.room;
              spent = λ z. let q = p.spent z in record { no_share = q.no_share; no_part = q.no_part; no_entry = q.no_entry; no_note = q.no_note; none_late = q.none_late };
            }
            (word_of k),
        λ j q. let same : k ≡ j = omega arith in (
          λ z. absurd (nz z),
          λ _. (
            ap (λ (i : ℕ). (with_refusal i v, [])) same,
            (λ other is. let key_is : key ≡ other = (let a : v.settings ≡ Some key = settings in let b : v.settings ≡ Some other = is in cc) in
                subst (λ (c : S). WasTaken needs steps stands c j v) key_is (subst (λ (i : ℕ). WasTaken needs steps stands key i v) same record { state = s; facts = f; taken = nz; id = id; pass = at })),
            (λ full. let spent = others_spent s f id v at full in let one = part.taken nz in
                let mine : total (held k) s.views ≡ held k v = total_alone (held k) s.views id v at (λ i u ne e. ap (λ (l : List (ℕ × T)). times k (numbers_of l)) (spent i u ne e).no_part) in
                let has = times_has k v.hand (omega arith) in
                apart event v.hand k (taken_for f.log s.words s.homes v p event may.taking) may.next has.0 has.1),
          ),
        ),
      ))
