-- The clock is read, or an entry gets its stamp: both keep the facts of parts.
use Rattle.std.proofs.Common.{◌≡◌, ◌≢◌, ℕ, ◌+◌, ◌%◌, ◌^◌, ◌<◌, ◌≤◌, ◌⊎◌, inl, inr, ⊎_elim, Bool, true, false, true≢false, ◌||◌, List, [], ◌∷◌, ◌++◌, length, set, take, take_all, Option, Some, None, slice_index, sym, refl, ap, ◌∙◌, subst, length-set, length-append, le-leb, mod-eq_of_lt, arith}
use Rattle.std.specs.Prelude.{◌==◌}
use Rattle.std.proofs.lemmas.List.{get_or-set_same, get_or-set_other, take-append-le}
use Rattle.std.proofs.lemmas.Bool.Decides.{nat_tests}
use mathlib.Core.Option.{none, some}
use mathlib.Core.Logic.{dite}
use native.Mathlib.Decide.{dec_le}
use lib.ListN.{get_elem?}
use Rattle.ca_base.specs.declared.limits.TheConstants.{LATE_STAMP}
use Rattle.atomic_table.specs.Table.{State, Allows, step, keeps}
use Rattle.atomic_table.proofs.Lists.{at_set}
use Rattle.ca_parts.specs.declared.view.View.{View}
use Rattle.ca_parts.specs.Lists.{Has, bit, below, times, total, numbers_of}
use Rattle.ca_parts.specs.Hands.{AllStand, Suffices}
use Rattle.ca_parts.specs.Views.{is_late, with_look, with_entry}
use Rattle.ca_parts.specs.Facts.{word_of, held, stamped, covers, late_or_fresh, IsPass, FactsOfParts}
use Rattle.ca_parts.specs.Calls.{MayStamp, IsMoment, Sees}
use Rattle.ca_parts.specs.Told.{looked, stamped_as}
use Rattle.ca_parts.proofs.Lists.{has_last, has_times, times_has, times_last, follows_last, slice_get_left, slice_get_last, below_next}
use Rattle.ca_parts.proofs.Totals.{total_set, total_one, total_more}
use Rattle.ca_parts.proofs.Moves.{in_mind, taken_for, only_here}

pub late_cases : (n : ℕ) → ((is_late n ≡ true) × (LATE_STAMP ≤ n)) ⊎ ((is_late n ≡ false) × (n < LATE_STAMP))
late_cases n = dite (dec_le LATE_STAMP n) (λ (yes : LATE_STAMP ≤ n). inl (le-leb LATE_STAMP n yes, yes)) (λ (no : ¬ (LATE_STAMP ≤ n)). let less : n < LATE_STAMP = omega arith in inr (grind (arith, nat_tests), less))

or_left : (b c : Bool) → (b || c ≡ true) → c ≡ false → b ≡ true
or_left true c is isnt = refl
or_left false true is isnt = absurd (true≢false isnt)
or_left false false is isnt = is

not_true : (b : Bool) → ¬ (b ≡ true) → b ≡ false
not_true true isnt = absurd (isnt refl)
not_true false isnt = refl

bit_small : (b : Bool) → bit b ≤ 1
bit_small true = omega arith
bit_small false = omega arith

module _ {S E N T : Type 0} (needs : S → E → List (ℕ × T) → Option ℕ) (steps : S → List N → N → Type 0) (stands : S → List N → ℕ → T → Type 0) (key : S) where
  pub moment_at : (s : State (Option T) (View S E N T)) (f : FactsOfParts needs steps stands key s) (id : ℕ) (v : View S E N T) → get_elem? s.views id ≡ some v → v.settings ≡ Some key → (other : S) → v.settings ≡ Some other → IsMoment needs steps stands other (slice_index s.words 0) v
  moment_at s f id v at settings other is = let key_is : key ≡ other = (let a : v.settings ≡ Some key = settings in let b : v.settings ≡ Some other = is in cc) in
      subst (λ (c : S). IsMoment needs steps stands c (slice_index s.words 0) v) key_is record { state = s; facts = f; clock = refl; id = id; pass = at }

  pub looks : (slots id : ℕ) (v : View S E N T) → v.settings ≡ Some key → 0 < v.count → Allows (FactsOfParts needs steps stands key) slots id (v, []) 0 (λ n. n) (looked needs steps stands (step slots 0 0 0 none) (v, []))
  looks slots id v settings some_number s f wide at bound =
      let p = f.pass id v at in let n : ℕ = slice_index s.words 0 in let clock = f.clock in let w : View S E N T = with_look n v in (
        w,
        keeps,
        tt,
        in_mind needs steps stands key s f id v w at refl refl refl refl refl refl refl
            record {
              in_hand = p.in_hand;
              out_of_home = p.out_of_home;
              in_order = p.in_order;
              entries_true = p.entries_true;
              notes_true = λ m hand h. ⊎_elim (λ (old : Has (m, hand) v.notes). p.notes_true m hand old)
                  (λ (e : (m, hand) ≡ (n, v.hand)). subst (λ (q : ℕ × List (ℕ × T)). (q.0 ≤ length f.log) × AllStand (stands key (take q.0 f.log)) q.1) (sym e)
                  (omega arith, λ k x has. subst (λ (l : List N). stands key l k x) (sym (take_all n f.log (omega arith))) (p.in_hand k x has).2)) (has_last (m, hand) (n, v.hand) v.notes h);
              looked_true = λ m e. let is : w.looked ≡ Some m = e in let m_is : n ≡ m = cc in (omega arith, λ burnt. let late = p.burnt_true burnt in omega arith);
              burnt_true = p.burnt_true;
              room = p.room;
              spent = λ z. absurd (omega arith);
            } 0,
        (refl, moment_at s f id v at settings),
      )

  pub sees_of : (n : ℕ) (v : View S E N T) → IsMoment needs steps stands key n v → Sees needs steps stands key n v
  sees_of n v m = let f = m.facts in let p = f.pass m.id v m.pass in let clock = f.clock in let at_n = m.clock in record {
    log = f.log;
    length_is = sym clock ∙ at_n;
    follows = f.follows;
    hand_stands = λ k x has. (p.in_hand k x has).2;
    entries_true = λ i entry has. let is = p.entries_true i entry has in let inside = Rattle.std.proofs.lemmas.Option.slice_get_within f.log i entry is in (omega arith, is);
    notes_true = λ i hand has. let is = p.notes_true i hand has in let near = is.0 in (omega arith, is.1);
    look_before = λ i e. let near = (p.looked_true i e).0 in omega arith;
  }

  module _ (records : N → E → Type 0) (frame : (log : List N) (entry : N) (event : E) (hand : List (ℕ × T)) (k : ℕ) (x : T) → records entry event → Suffices needs key event hand → AllStand (stands key log) hand → steps key log entry → ((y : T) → ¬ Has (k, y) hand) → stands key log k x → stands key (log ++ entry ∷ []) k x) where
    module _ (s : State (Option T) (View S E N T)) (f : FactsOfParts needs steps stands key s) (id : ℕ) (v : View S E N T) (at : get_elem? s.views id ≡ some v) (entry : N) (news : List (ℕ × T)) (may : MayStamp records needs steps stands key entry news v) where
      suffices : Suffices needs key may.event v.hand
      suffices = (taken_for needs steps stands key f.log s.words s.homes v (f.pass id v at) may.event may.taking, may.all)

      all_stand : AllStand (stands key f.log) v.hand
      all_stand k x has = ((f.pass id v at).in_hand k x has).2

      -- what is in no hand of this pass stands for what it stood for
      pub stays : (k : ℕ) (x : T) → held k v ≡ 0 → stands key f.log k x → stands key (f.log ++ entry ∷ []) k x
      stays k x none_here was = frame f.log entry may.event v.hand k x may.recorded suffices all_stand (may.step f.log all_stand).0 (λ y has. absurd (let some_hand = has_times k y v.hand has in omega arith)) was

      same_hands : (k : ℕ) → times k (numbers_of news) ≡ held k v
      same_hands k = ap (λ (l : List ℕ). times k l) may.same_parts

      -- another pass, after the stamp
      others_stay : (words : List ℕ) → ((k : ℕ) → slice_index words (word_of k) ≡ slice_index s.words (word_of k)) → (j : ℕ) (u : View S E N T) → j ≢ id → get_elem? s.views j ≡ some u → IsPass needs stands key (f.log ++ entry ∷ []) words s.homes u
      others_stay words same j u ne e = let p = f.pass j u e in let long = length-append f.log (entry ∷ []) in record {
        in_hand = λ k x has. let old = p.in_hand k x has in let one = only_here needs steps stands key s f j u e k x has in let none_here = one.2 id v (λ q. ne (sym q)) at in (old.0, same k ∙ old.1, stays k x none_here old.2, old.3);
        out_of_home = p.out_of_home;
        in_order = p.in_order;
        entries_true = λ n o has. slice_get_left f.log (entry ∷ []) n o (p.entries_true n o has);
        notes_true = λ n hand has. let old = p.notes_true n hand has in let near : n ≤ length f.log = old.0 in (omega arith, λ k x h. subst (λ (l : List N). stands key l k x) (sym (take-append-le n f.log (entry ∷ []) near)) (old.1 k x h));
        looked_true = λ n is. let old = p.looked_true n is in let near = old.0 in (omega arith, old.1);
        burnt_true = λ is. let old = p.burnt_true is in omega arith;
        room = p.room;
        spent = p.spent;
      }

      -- this pass, after the stamp
      mine_after : (words : List ℕ) → ((k : ℕ) → slice_index words (word_of k) ≡ slice_index s.words (word_of k)) → (n : ℕ) → n ≡ length f.log → v.out ≡ None → 0 < v.count → IsPass needs stands key (f.log ++ entry ∷ []) words s.homes (with_entry entry news n v)
      mine_after words same n n_is out some_number = let p = f.pass id v at in let long = length-append f.log (entry ∷ []) in let w : View S E N T = with_entry entry news n v in
          let seen = may.looked in let seen_true = p.looked_true seen.0 seen.1 in let seen_before = seen_true.0 in let seen_early = seen.2 in record {
            in_hand = λ k x has. let some_news = has_times k x news has in let same_hand = same_hands k in let was = times_has k v.hand (omega arith) in let old = p.in_hand k was.0 was.1 in
                (old.0, same k ∙ old.1, (may.step f.log all_stand).1 k x has, old.3);
            out_of_home = λ k e. absurd (let a : v.out ≡ Some k = e in let b : v.out ≡ None = out in cc);
            in_order = λ e. absurd (true≢false e);
            entries_true = λ m o has. ⊎_elim (λ (old : Has (m, o) v.entries). slice_get_left f.log (entry ∷ []) m o (p.entries_true m o old))
                (λ (e : (m, o) ≡ (n, entry)). subst (λ (q : ℕ × N). Rattle.std.specs.List.slice_get (f.log ++ entry ∷ []) q.0 ≡ Some q.1) (sym e) (slice_get_last f.log entry n n_is)) (has_last (m, o) (n, entry) v.entries has);
            notes_true = λ m hand has. let old = p.notes_true m hand has in let near : m ≤ length f.log = old.0 in (omega arith, λ k x h. subst (λ (l : List N). stands key l k x) (sym (take-append-le m f.log (entry ∷ []) near)) (old.1 k x h));
            looked_true = λ m e. absurd (let q : w.looked ≡ Some m = e in cc);
            burnt_true = λ is. ⊎_elim (λ (late : (is_late n ≡ true) × (LATE_STAMP ≤ n)). let above = late.1 in let goal : LATE_STAMP < length (f.log ++ entry ∷ []) = omega arith in goal)
                (λ (early : (is_late n ≡ false) × (n < LATE_STAMP)). burnt_before is early.0 seen_true.1 seen_early) (late_cases n);
            room = p.room;
            spent = λ z. absurd (omega arith);
          }
        where
          burnt_before : (v.burnt || is_late n ≡ true) → is_late n ≡ false → (v.burnt ≡ true → LATE_STAMP ≤ may.looked.0) → may.looked.0 < LATE_STAMP → LATE_STAMP < length (f.log ++ entry ∷ [])
          burnt_before is early then less = absurd (let burnt : v.burnt ≡ true = or_left v.burnt (is_late n) is early in let above : LATE_STAMP ≤ may.looked.0 = then burnt in omega arith)

      not_burnt : v.burnt ≡ false
      not_burnt = not_true v.burnt (λ burnt. let seen = may.looked in let above = ((f.pass id v at).looked_true seen.0 seen.1).1 burnt in let early = seen.2 in absurd (omega arith))

      -- the stamp is far from the end of the clock
      small : slice_index s.words 0 + 1 < 2 ^ 64
      small = let clock = f.clock in let ends = f.clock_ends in let once = f.late_once in let less = total_more (λ (u : View S E N T). u.late) late_or_fresh s.views (λ u. omega arith) in omega arith

      pub stamps_facts : v.out ≡ None → 0 < v.count → (n m : ℕ) → n ≡ slice_index s.words 0 → m ≡ n + 1
          → FactsOfParts needs steps stands key record { words = set s.words 0 m; homes = s.homes; views = set s.views id (with_entry entry news n v) }
      stamps_facts out some_number n m n_is m_is =
          let w : View S E N T = with_entry entry news n v in let words : List ℕ = set s.words 0 m in let clock = f.clock in let log : List N = f.log ++ entry ∷ [] in
          let long = length-append f.log (entry ∷ []) in let n_log : n ≡ length f.log = n_is ∙ clock in let shape = f.shape in
          let same : (k : ℕ) → slice_index words (word_of k) ≡ slice_index s.words (word_of k) = λ k. get_or-set_other s.words 0 (word_of k) m 0 (λ q. absurd (omega arith)) in
          let late_bit : bit (is_late n) ≤ 1 = bit_small (is_late n) in
          record {
            log = log;
            follows = follows_last (steps key) [] f.log entry f.follows (may.step f.log all_stand).0;
            shape = length-set s.words 0 m ∙ shape;
            clock = get_or-set_same s.words 0 m 0 (omega arith) ∙ omega arith;
            part = λ k near. let old = f.part k near in let sum = total_set (held k) s.views id v w at in let hands = same_hands k in let total_same : total (held k) (set s.views id w) ≡ total (held k) s.views = omega arith in record {
              free = λ z. let t = old.free (sym (same k) ∙ z) in let nowhere = t.0 in let mine = total_one (held k) s.views id v at in (total_same ∙ t.0, (t.1.0, t.1.1, stays k t.1.0 (omega arith) t.1.2));
              taken = λ nz. total_same ∙ old.taken (λ z. nz (same k ∙ z));
            };
            pass = λ j u e. ⊎_elim (λ (x : (j ≡ id) × (w ≡ u)). subst (λ (y : View S E N T). IsPass needs stands key log words s.homes y) x.1 (mine_after words same n n_log out some_number))
                (λ (x : (j ≢ id) × (get_elem? s.views j ≡ some u)). others_stay words same j u x.0 x.1) (at_set s.views id j w u e);
            once = λ i. let sum = total_set (stamped i) s.views id v w at in let more = times_last i v.entries (n, entry) in let was = f.once i in let next = below_next i n in
                let now : total (stamped i) (set s.views id w) ≡ total (stamped i) s.views + bit (i == n) = omega arith in
                let at_log : below i (length f.log) ≡ below i n = ap (λ (q : ℕ). below i q) (sym n_log) in let at_next : below i (length log) ≡ below i (n + 1) = ap (λ (q : ℕ). below i q) (long ∙ omega arith) in omega arith;
            shares = let sum = total_set (λ (u : View S E N T). u.share) s.views id v w at in let now : total (λ (u : View S E N T). u.share) (set s.views id w) ≡ total (λ (u : View S E N T). u.share) s.views = omega arith in now ∙ f.shares;
            ranges = λ i. let sum = total_set (covers i) s.views id v w at in let was = f.ranges i in omega arith;
            late_once = let sum = total_set late_or_fresh s.views id v w at in let was = f.late_once in
                let burnt_now : bit w.burnt ≡ bit (is_late n) = ap (λ (b : Bool). bit (b || is_late n)) not_burnt in let burnt_then : bit v.burnt ≡ 0 = ap bit not_burnt in
                let same_count : late_or_fresh w ≡ late_or_fresh v = omega arith in omega arith;
            clock_ends = let sum = total_set (λ (u : View S E N T). u.late) s.views id v w at in let was = f.clock_ends in
                ⊎_elim (λ (late : (is_late n ≡ true) × (LATE_STAMP ≤ n)). let one : bit (is_late n) ≡ 1 = ap bit late.0 in let goal : length log ≤ LATE_STAMP + total (λ (u : View S E N T). u.late) (set s.views id w) = omega arith in goal)
                (λ (early : (is_late n ≡ false) × (n < LATE_STAMP)). let before = early.1 in let goal : length log ≤ LATE_STAMP + total (λ (u : View S E N T). u.late) (set s.views id w) = omega arith in goal) (late_cases n);
          }

      pub next_stamp : (slice_index s.words 0 + 1) % 2 ^ 64 ≡ slice_index s.words 0 + 1
      next_stamp = mod-eq_of_lt small

    pub stamps : (slots id : ℕ) (v : View S E N T) (entry : N) (news : List (ℕ × T)) → v.settings ≡ Some key → v.out ≡ None → 0 < v.count → MayStamp records needs steps stands key entry news v
        → Allows (FactsOfParts needs steps stands key) slots id (v, []) 0 (λ n. (n + 1) % 2 ^ 64) (stamped_as needs steps stands (Some (entry, news)) (step slots 0 1 0 none) (v, []))
    stamps slots id v entry news settings out some_number may s f wide at bound =
        let n : ℕ = slice_index s.words 0 in (
          with_entry entry news n v,
          keeps,
          tt,
          stamps_facts s f id v at entry news may out some_number n ((n + 1) % 2 ^ 64) refl (next_stamp s f id v at entry news may),
          (
            λ other others is. let same : ◌≡◌ {A = N × List (ℕ × T)} (entry, news) (other, others) = cc in let entry_is : entry ≡ other = ap (λ (q : N × List (ℕ × T)). q.0) same in let news_are : news ≡ others = ap (λ (q : N × List (ℕ × T)). q.1) same in
                ap (λ (o : N). (with_entry o news n v, [])) entry_is ∙ ap (λ (l : List (ℕ × T)). (with_entry other l n v, [])) news_are,
            moment_at s f id v at settings,
          ),
        )
