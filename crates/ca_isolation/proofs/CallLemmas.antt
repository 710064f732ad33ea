-- Lists that the calls go through: the first item of joined lists, and what a mark adds to the replies. For proofs only.
use Rattle.std.proofs.Common.{◌≡◌, ◌∙◌, ℕ, suc, ◌+◌, ◌<◌, arith, drop, length, slice_index_or, Bool, true, false, if◌then◌else◌, List, [], ◌∷◌, ◌++◌, filter, map, slice_get, is_none, is_some, Option, None, Some, ap, refl, sym, true≢false}
use Rattle.std.proofs.Math.Seq.{drop-cons}
use Rattle.std.specs.List.{flat_map, list_any}
use Rattle.std.specs.Option.{option_map_or}
use Rattle.ca_isolation.specs.Groups.{Group, domain_of_queue, group_of, is_of_domain, is_queue_of, is_reply, strays_by, strays_in, strays_of}
use Rattle.ca_keys.specs.Equal.{domain_eq}
use Rattle.ca_keys.specs.declared.names.DomainId.{DomainId}
use Rattle.ca_keys.specs.declared.names.QueueId.{QueueId}
use Rattle.ca_model.specs.Entries.{entry_of}
use Rattle.ca_model.specs.declared.entry.Entry.{Entry}
use Rattle.ca_model.specs.Licensed.{is_empty}
use Rattle.ca_model.specs.declared.mark.Mark.{Mark}

-- a queue pair is of a group where it is of one of its domains
pub any_queue : (ds : List DomainId) (q : QueueId) → list_any (λ d. is_of_domain d q) ds ≡ is_queue_of (group_of ds) q
any_queue ds q = by ds (domain_of_queue q)
  where
    by : (ds : List DomainId) (o : Option DomainId) → list_any (λ x. option_map_or (domain_eq x) o false) ds ≡ option_map_or (group_of ds) o false
    by ds (Some d) = refl
    by [] None = refl
    by (x ∷ ds) None = by ds None

-- the first item of joined lists
pub first_some : {A : Type 0} (xs ys : List A) (x : A) → slice_get xs 0 ≡ Some x → slice_get (xs ++ ys) 0 ≡ Some x
first_some [] ys x is = absurd (true≢false (sym (ap is_some is)))
first_some (y ∷ xs) ys x is = is

pub first_none : {A : Type 0} (xs ys : List A) → slice_get xs 0 ≡ None → slice_get (xs ++ ys) 0 ≡ slice_get ys 0
first_none [] ys is = refl
first_none (y ∷ xs) ys is = absurd (true≢false (ap is_some is))

-- a list is empty where it has no first item
pub empty-first : {A : Type 0} (xs : List A) → is_none (slice_get xs 0) ≡ is_empty xs
empty-first [] = refl
empty-first (x ∷ xs) = refl

-- a mark's reply stands before those of the marks behind it
pub reply-first : (m : Mark) (ms : List Mark) → filter is_reply (m ∷ []) ++ filter is_reply ms ≡ filter is_reply (m ∷ ms)
reply-first m ms = by (is_reply m)
  where
    by : (b : Bool) → (if b then m ∷ [] else []) ++ filter is_reply ms ≡ (if b then m ∷ filter is_reply ms else filter is_reply ms)
    by true = refl
    by false = refl

-- the queue pairs that strayed, of entries as they are kept
pub strays-kept : (group : Group) (es : List Entry) → flat_map (strays_in group) es ≡ strays_of group (map entry_of es)
unfolding strays_in
strays-kept group [] = refl
strays-kept group (e ∷ es) = ap (λ qs. flat_map (strays_by group) e.marks.marks ++ qs) (strays-kept group es)

-- where a loop stands: what the item there brings stands before what those behind it bring
pub front-of : {A B : Type 0} (f : A → List B) (xs : List A) (i : ℕ) (x : A) → i < length xs → x ≡ slice_index_or xs i x
    → slice_get (flat_map f (drop i xs)) 0 ≡ slice_get (f x ++ flat_map f (drop (i + 1) xs)) 0
front-of f xs i x less is = ap (λ ys. slice_get (flat_map f ys) 0) (drop-cons xs i x less ∙ (λ j. sym is j ∷ drop (later j) xs))
  where
    later : suc i ≡ i + 1
    later = omega arith
