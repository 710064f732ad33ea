-- Regions end where addresses end, or before: what rows and local operations change of them. For proofs only.
use Rattle.std.proofs.Common.{Bool, IfSome, List, None, Option, Some, [], ap, arith, false, if◌then◌else◌, is_some, leb-true, length, ltb-false, map, nat_le, nat_lt, not, refl, subst, suc, sym, true, true≢false, ℕ, ◌++◌, ◌+◌, ◌==◌, ◌^◌, ◌||◌, ◌∙◌, ◌∷◌, ◌≡◌, ◌≤◌}
use Rattle.std.proofs.lemmas.Bool.{and_parts, not-false, or_parts}
use Rattle.std.specs.Option.{option_and_then, option_map_or}
use Rattle.ca_law_endings.proofs.LeadsLemmas.{comes}
use Rattle.ca_law_endings.specs.Runs.{Comes, Leads}
use Rattle.ca_law_carried.proofs.Accesses.QuietLemmas.{IsQuiet, invalidate-quiet, less-same, operation-quiet}
use Rattle.ca_law_carried.specs.Accesses.{IsEnded, IsEndedWorld}
use Rattle.ca_law_endings.proofs.Leading.{leads-from}
use Rattle.ca_law_keys.proofs.Keys.ToldLemmas.{ended}
use Rattle.ca_base.specs.Configuration.{Configuration}
use Rattle.ca_base.specs.Sight.{Invalidation, Sight, bytes_in, denial_in, first_denied, or_denied}
use Rattle.ca_base.specs.declared.denied_ask.DeniedAsk.{DeniedAsk}
use Rattle.ca_base.specs.declared.refusals.OpRefusal.{OpRefusal}
use Rattle.ca_base.specs.declared.request.SendOp.{SendOp}
use Rattle.ca_base.specs.objects.LocalRequest.{fast_request_refusals}
use Rattle.ca_base.specs.objects.QueuePair.{QueuePair}
use Rattle.ca_base.specs.objects.Region.{FastRegistered, Free, NoRegion, Region, RegionState, Registered, after_region_invalidation, free_pages, grant_in_state, grant_of_region, has_repeat, pages_needed, state_after_invalidation, with_window_bound, with_window_unbound}
use Rattle.ca_base.specs.objects.Slices.{buffer_length, names_region, names_window, slot_of_key}
use Rattle.ca_base.specs.objects.Window.{Binding, Window, grant_of_binding, without_binding}
use Rattle.ca_keys.specs.Allowed.{covers, denial_under, denials, fits}
use Rattle.ca_keys.specs.Equal.{slot_eq}
use Rattle.ca_keys.specs.Refusals.{AllFail}
use Rattle.ca_keys.specs.declared.access.Ask.{Ask}
use Rattle.ca_keys.specs.declared.access.Denial.{Denial}
use Rattle.ca_keys.specs.declared.grant.Grant.{Grant}
use Rattle.ca_keys.specs.declared.key.Key.{Key}
use Rattle.ca_keys.specs.declared.names.DomainId.{DomainId}
use Rattle.ca_keys.specs.declared.names.Slot.{Slot}
use Rattle.ca_keys.specs.declared.rights.Rights.{Rights}
use Rattle.ca_law_world.proofs.Sound.TurnLemmas.{all-fail}
use Rattle.ca_law_world.proofs.Sound.WorldLemmas.{EndingDoes, RowDoes}
use Rattle.ca_law_world.specs.Bindings.{IsBoundWorld, LiesIn}
use Rattle.ca_model.proofs.PerformLemmas.{row-performs}
use Rattle.ca_model.specs.Past.{LatestWrite, ReadRequest}
use Rattle.ca_model.specs.declared.mark.Mark.{Mark}
use Rattle.ca_model.specs.machine.LocalOperations.{Bind1_plan, Bind2_plan, Finishing, Perform_op, PlacedRegion, With_former, With_named, bind1_changes, bind1_marks, bind1_refusal, bind2_changes, bind2_marks, bind2_refusal, drawn_by, fast_changes, fast_marks, fast_refusal, former_updates, invalidate_row, named_updates, operation_effects, region_slot, window_slot}
use Rattle.ca_model.specs.machine.Numbering.{Numbered}
use Rattle.ca_model.specs.machine.Plan.{Look, Plan, Update, Write, ◌:=◌}
use Rattle.ca_model.specs.machine.Row.{Does, Effects, Ending, NotPossible, Row, Row_plan, grant_if_fitting, grant_over, queue_and_marks, region_under, unless_none}
use Rattle.ca_model.specs.machine.Seen.{asks_window, ending_changes, grant_in, perform_ending, refusal_in, sight_in, writes_in}
use Rattle.ca_model.specs.machine.World.{Name, Region_of, Thing, Window_of, World}
use Rattle.ca_wire.specs.Packet.{follows}
use Rattle.ca_base.specs.declared.request.SendOp.TheVariants as ops
use Rattle.ca_keys.specs.Spelling.{rights_text as rights}

-- a change of a window, or of a region whose grant ends so
abbrev pub IsSafe : (n : Name) → Thing n → Type 0
IsSafe (Region_of s) r = IsEnded (grant_of_region r)
IsSafe (Window_of s) x = Unit {0}
IsSafe n x = ⊥

abbrev pub AreSafe : List Update → Type 0
AreSafe [] = Unit {0}
AreSafe (u ∷ us) = IsSafe u.name u.thing × AreSafe us

safe-append : (us vs : List Update) → AreSafe us → AreSafe vs → AreSafe (us ++ vs)
safe-append [] vs one other = other
safe-append (u ∷ us) vs one other = (one.0, safe-append us vs one.1 other)

unless-safe : (r : Option OpRefusal) (cs : List Update) → AreSafe cs → AreSafe (unless_none r cs)
unless-safe None cs safe = safe
unless-safe (Some r) cs safe = record {}

invalidated-ended : (s : RegionState) → IsEnded (grant_in_state s) → IsEnded (grant_in_state (state_after_invalidation s))
invalidated-ended NoRegion ended = ended
invalidated-ended (Free pages) ended = ended
invalidated-ended (Registered g) ended = ended
invalidated-ended (FastRegistered pages g) ended = record {}

-- what the end of a key changes
ending-safe : (c : Configuration) (w : World) (i : Invalidation) → IsEndedWorld w → AreSafe (ending_changes c w i)
ending-safe c w i ended = by (names_region c i.domain i.key) (names_window c i.domain i.key)
  where
    slot : Slot
    slot = slot_of_key i.domain i.key

    window : Option Binding → List Update
    window None = []
    window (Some b) =
        (Window_of slot := without_binding (w.window slot))
        ∷ (Region_of (region_under (w.window slot) b) := with_window_unbound (w.region (region_under (w.window slot) b))) ∷ []

    bound : (o : Option Binding) → AreSafe (window o)
    bound None = record {}
    bound (Some b) = (record {}, (ended (region_under (w.window slot) b), record {}))

    by : (a z : Bool) → AreSafe (if a then (Region_of slot := after_region_invalidation (w.region slot)) ∷ [] else if z then window (w.window slot).binding else [])
    by true z = (invalidated-ended (w.region slot).state (ended slot), record {})
    by false true = bound (w.window slot).binding
    by false false = record {}

-- a row of which this holds, by what is seen of keys and memory
pub record RowSees (s : Sight) (E : Effects → Type 0) (row : Row) : Type 0 where
  pub denied : (d : DeniedAsk) → first_denied s row.asks ≡ Some d → EndingDoes E (row.denied d)
  pub allowed : first_denied s row.asks ≡ None → (refusal : Option OpRefusal) → EndingDoes E (row.allowed (map (bytes_in s) row.asks) refusal)

pub ending-weaker : (E F : Effects → Type 0) (e : Ending) → ((x : Effects) → E x → F x) → EndingDoes E e → EndingDoes F e
ending-weaker E F (NotPossible reason) follows does = record {}
ending-weaker E F (Does e) follows does = follows e does

pub does-sees : (s : Sight) (E F : Effects → Type 0) (row : Row) → ((e : Effects) → E e → F e) → RowDoes E row → RowSees s F row
does-sees s E F row follows does = record {
  denied = λ d is. ending-weaker E F (row.denied d) follows (does.denied d);
  allowed = λ is refusal. ending-weaker E F (row.allowed (map (bytes_in s) row.asks) refusal) follows (does.allowed (map (bytes_in s) row.asks) refusal);
}

-- a row's plan leads where its endings do, with safe changes
pub leads-seen : (c : Configuration) (w : World) (P : World → List Mark → Type 0) (E : Effects → Type 0) (row : Row) (finish : Effects → List Update → List Write → Plan) → IsEndedWorld w → RowSees (sight_in c w) E row
    → ((e : Effects) (cs : List Update) (ws : List Write) → E e → AreSafe cs → Leads w P (finish e cs ws)) → Leads w P (Row_plan c row finish)
leads-seen c w P E row finish ended sees more = leads-from w P (Row_plan c row finish) (subst (Comes P) (sym (row-performs c w row finish)) (by (first_denied s row.asks) refl))
  where
    s : Sight
    s = sight_in c w

    changed : Option DeniedAsk → List Update
    changed (Some d) = []
    changed None = option_map_or (λ i. unless_none (refusal_in c w i) (ending_changes c w i)) row.invalidation []

    end : Option DeniedAsk → Ending
    end (Some d) = row.denied d
    end None = row.allowed (map (bytes_in s) row.asks) (option_and_then (refusal_in c w) row.invalidation)

    ends : (cs : List Update) (e : Ending) → AreSafe cs → EndingDoes E e → Comes P (perform_ending w s finish cs e)
    ends cs (NotPossible reason) safe does = record {}
    ends cs (Does e) safe does = comes w P (finish e cs (writes_in s e.writes)) (more e cs (writes_in s e.writes) does safe)

    gone : (o : Option Invalidation) → AreSafe (option_map_or (λ i. unless_none (refusal_in c w i) (ending_changes c w i)) o [])
    gone None = record {}
    gone (Some i) = unless-safe (refusal_in c w i) (ending_changes c w i) (ending-safe c w i ended)

    by : (d : Option DeniedAsk) → first_denied s row.asks ≡ d → Comes P (perform_ending w s finish (changed d) (end d))
    by (Some d) is = ends [] (row.denied d) (record {}) (sees.denied d is)
    by None is = ends (changed None) (end None) (gone row.invalidation) (sees.allowed is (option_and_then (refusal_in c w) row.invalidation))

-- ---- local operations

abbrev IsEndedPlace : Option PlacedRegion → Type 0
IsEndedPlace named = IfSome named (λ n. IsEnded (grant_of_region n.region))

leads-named : (c : Configuration) (w : World) (P : World → List Mark → Type 0) (d : DomainId) (key : Key) (k : Option PlacedRegion → Plan) → IsEndedWorld w
    → ((r : Option PlacedRegion) → IsEndedPlace r → Leads w P (k r)) → Leads w P (With_named c d key k)
leads-named c w P d key k ended more = (λ named. more (Some (record { slot = slot_of_key d key; region = w.region (slot_of_key d key) })) (ended (slot_of_key d key)), λ none. more None (record {}))

leads-former : (w : World) (P : World → List Mark → Type 0) (x : Window) (k : Option PlacedRegion → Plan) → IsEndedWorld w → ((r : Option PlacedRegion) → IsEndedPlace r → Leads w P (k r))
    → Leads w P (With_former x k)
leads-former w P x k ended more = by x.binding
  where
    former : Option Binding → Plan
    former None = k None
    former (Some b) = Look (Region_of (region_under x b)) (λ region. k (Some (record { slot = region_under x b; region = region })))

    by : (o : Option Binding) → Leads w P (former o)
    by None = more None (record {})
    by (Some b) = more (Some (record { slot = region_under x b; region = w.region (region_under x b) })) (ended (region_under x b))

former-safe : (former : Option PlacedRegion) → IsEndedPlace former → AreSafe (former_updates former)
former-safe None ended = record {}
former-safe (Some f) ended = (ended, record {})

named-safe : (former named : Option PlacedRegion) → IsEndedPlace named → AreSafe (named_updates former named)
named-safe former None ended = record {}
named-safe former (Some n) ended = (left (option_map_or (λ f. slot_eq f.slot n.slot) former false), record {})
  where
    left : (b : Bool) → IsEnded (grant_of_region (with_window_bound (if b then with_window_unbound n.region else n.region)))
    left true = ended
    left false = ended

-- how an operation's plan may go on
abbrev pub Performs_so : World → (World → List Mark → Type 0) → Option LatestWrite → List ReadRequest → QueuePair → Finishing → Type 0
Performs_so w P l rs q finish = (e : Effects) (cs : List Update) (ws : List Write) → IsQuiet l rs q e → AreSafe cs → Leads w P (finish e cs ws)

leads-bind1 : (c : Configuration) (w : World) (P : World → List Mark → Type 0) (l : Option LatestWrite) (rs : List ReadRequest) (q : QueuePair) (n : Numbered) (window : ℕ) (key : Key) (address count : ℕ) (rights : Rights)
    (finish : Finishing) → IsEndedWorld w → Performs_so w P l rs q finish → Leads w P (Bind1_plan c q n window key address count rights finish)
leads-bind1 c w P l rs q n window key address count rights finish ended more =
    leads-named c w P q.domain key (λ named. With_former x (λ former. ending named former)) ended (λ named place.
    leads-former w P x (λ former. ending named former) ended (λ former left.
    more (operation_effects q n q (bind1_marks q n window named address count rights x) (refusal named))
    (unless_none (refusal named) (bind1_changes (window_slot q window) (drawn_by n) x former named address count rights)) []
    (operation-quiet l rs q q n (bind1_marks q n window named address count rights x) (refusal named) refl)
    (unless-safe (refusal named) (bind1_changes (window_slot q window) (drawn_by n) x former named address count rights)
    (record {}, safe-append (former_updates former) (if count == 0 then [] else named_updates former named) (former-safe former left) (regions named former place (count == 0))))))
  where
    x : Window
    x = w.window (window_slot q window)

    refusal : Option PlacedRegion → Option OpRefusal
    refusal named = bind1_refusal n key named address count rights x

    regions : (named former : Option PlacedRegion) → IsEndedPlace named → (b : Bool) → AreSafe (if b then [] else named_updates former named)
    regions named former place true = record {}
    regions named former place false = named-safe former named place

    ending : Option PlacedRegion → Option PlacedRegion → Plan
    ending named former = finish (operation_effects q n q (bind1_marks q n window named address count rights x) (refusal named))
        (unless_none (refusal named) (bind1_changes (window_slot q window) (drawn_by n) x former named address count rights)) []

leads-bind2 : (c : Configuration) (w : World) (P : World → List Mark → Type 0) (l : Option LatestWrite) (rs : List ReadRequest) (q : QueuePair) (n : Numbered) (window : ℕ) (key : Key) (low address count : ℕ) (rights : Rights)
    (finish : Finishing) → IsEndedWorld w → Performs_so w P l rs q finish → Leads w P (Bind2_plan c q n window key low address count rights finish)
leads-bind2 c w P l rs q n window key low address count rights finish ended more =
    leads-named c w P q.domain key (λ named. With_former x (λ former. ending named)) ended (λ named place.
    leads-former w P x (λ former. ending named) ended (λ former left.
    more (operation_effects q n (record q { windows = suc q.windows }) (bind2_marks q window low named address count rights) (refusal named))
    (unless_none (refusal named) (bind2_changes (window_slot q window) low q.queue x named address count rights)) []
    (operation-quiet l rs q (record q { windows = suc q.windows }) n (bind2_marks q window low named address count rights) (refusal named) refl)
    (unless-safe (refusal named) (bind2_changes (window_slot q window) low q.queue x named address count rights) (record {}, named-safe None named place))))
  where
    x : Window
    x = w.window (window_slot q window)

    refusal : Option PlacedRegion → Option OpRefusal
    refusal named = bind2_refusal key named address count rights x

    ending : Option PlacedRegion → Plan
    ending named = finish (operation_effects q n (record q { windows = suc q.windows }) (bind2_marks q window low named address count rights) (refusal named))
        (unless_none (refusal named) (bind2_changes (window_slot q window) low q.queue x named address count rights)) []

-- a fast registration that is not refused ends where addresses end, or before
fast-safe : (c : Configuration) (q : QueuePair) (region low buffer address count : ℕ) (rights : Rights) (pages : List ℕ) (r : Region) (refusal : Option OpRefusal)
    → fast_refusal c q region buffer address count rights pages r ≡ refusal → AreSafe (unless_none refusal (fast_changes q region low buffer address count rights pages r))
fast-safe c q region low buffer address count rights pages r (Some refusal) e = record {}
fast-safe c q region low buffer address count rights pages r None e = (
  ltb-false (2 ^ 64) (address + count) (or_parts (count == 0) (nat_lt (2 ^ 64) (address + count))
      (or_parts ((count == 0) || nat_lt (2 ^ 64) (address + count)) (nat_lt (option_map_or (λ n. n) (free_pages r.state) 0) (length pages))
      (or_parts ((count == 0) || nat_lt (2 ^ 64) (address + count) || nat_lt (option_map_or (λ n. n) (free_pages r.state) 0) (length pages)) (has_repeat pages)
      (or_parts ((count == 0) || nat_lt (2 ^ 64) (address + count) || nat_lt (option_map_or (λ n. n) (free_pages r.state) 0) (length pages) || has_repeat pages) (not (length pages == pages_needed address count)) fails.1.1.0).0).0).0).1,
  record {},
)
  where
    fails : AllFail (fast_request_refusals (region_slot q region) buffer (buffer_length c q.domain.adapter buffer) address count rights pages r)
    fails = all-fail (fast_request_refusals (region_slot q region) buffer (buffer_length c q.domain.adapter buffer) address count rights pages r) e

nothing-quiet : (l : Option LatestWrite) (rs : List ReadRequest) (q : QueuePair) → IsQuiet l rs q (queue_and_marks q [])
nothing-quiet l rs q = record { less = less-same l rs q q refl; marks = record {} }

pub leads-performed : (c : Configuration) (w : World) (P : World → List Mark → Type 0) (l : Option LatestWrite) (rs : List ReadRequest) (q : QueuePair) (n : Numbered) (finish : Finishing) (op : SendOp) → IsEndedWorld w
    → Performs_so w P l rs q finish → Leads w P (Perform_op c q n finish op)
leads-performed c w P l rs q n finish (ops.Bind1 window key address count rights) ended more = leads-bind1 c w P l rs q n window key address count rights finish ended more
leads-performed c w P l rs q n finish (ops.Bind2 window key low address count rights) ended more = leads-bind2 c w P l rs q n window key low address count rights finish ended more
leads-performed c w P l rs q n finish (ops.FastReg region low buffer address count rights pages) ended more =
    more (operation_effects q n q (fast_marks q region low buffer address count rights pages) refusal)
    (unless_none refusal (fast_changes q region low buffer address count rights pages r)) []
    (operation-quiet l rs q q n (fast_marks q region low buffer address count rights pages) refusal refl)
    (fast-safe c q region low buffer address count rights pages r refusal refl)
  where
    r : Region
    r = w.region (region_slot q region)

    refusal : Option OpRefusal
    refusal = fast_refusal c q region buffer address count rights pages r
leads-performed c w P l rs q n finish (ops.LocalInv key) ended more = leads-seen c w P (IsQuiet l rs q) (invalidate_row q n key) finish ended
    (does-sees (sight_in c w) (IsQuiet l rs q) (IsQuiet l rs q) (invalidate_row q n key) (λ e quiet. quiet) (invalidate-quiet l rs q n key)) more
leads-performed c w P l rs q n finish (ops.Send list) ended more = more (queue_and_marks q []) [] [] (nothing-quiet l rs q) (record {})
leads-performed c w P l rs q n finish (ops.SendImm imm list) ended more = more (queue_and_marks q []) [] [] (nothing-quiet l rs q) (record {})
leads-performed c w P l rs q n finish (ops.SendInv key list) ended more = more (queue_and_marks q []) [] [] (nothing-quiet l rs q) (record {})
leads-performed c w P l rs q n finish (ops.Write address key list) ended more = more (queue_and_marks q []) [] [] (nothing-quiet l rs q) (record {})
leads-performed c w P l rs q n finish (ops.WriteImm address key imm list) ended more = more (queue_and_marks q []) [] [] (nothing-quiet l rs q) (record {})
leads-performed c w P l rs q n finish (ops.Read address key list) ended more = more (queue_and_marks q []) [] [] (nothing-quiet l rs q) (record {})
leads-performed c w P l rs q n finish (ops.CmpSwap address key compare swap list) ended more = more (queue_and_marks q []) [] [] (nothing-quiet l rs q) (record {})
leads-performed c w P l rs q n finish (ops.FetchAdd address key add list) ended more = more (queue_and_marks q []) [] [] (nothing-quiet l rs q) (record {})

-- ---- what asks reach

-- the grant that an ask goes by ends where addresses end, or before
pub grant-ended : (c : Configuration) (w : World) (ask : Ask) → IsEndedWorld w → IsBoundWorld w → IsEnded (grant_in c w ask)
grant-ended c w ask ended bound = by (names_region c ask.domain ask.key) (asks_window c ask)
  where
    slot : Slot
    slot = slot_of_key ask.domain ask.key

    x : Window
    x = w.window slot

    fit : (o : Option Grant) → IsEnded o → IsEnded (grant_if_fitting ask o)
    fit None at = record {}
    fit (Some g) at = chosen (fits ask g)
      where
        chosen : (b : Bool) → IsEnded (if b then Some g else None)
        chosen true = at
        chosen false = record {}

    window : Option Binding → Option Grant
    window None = None
    window (Some b) = grant_if_fitting ask (grant_over x b (w.region (region_under x b)))

    over : Binding → Option Grant → Option Grant
    over b None = None
    over b (Some g) = Some (grant_of_binding x b g)

    lies : (b : Binding) (o : Option Grant) → LiesIn b o → IsEnded o → IsEnded (over b o)
    lies b None inside at = record {}
    lies b (Some g) inside at = omega (arith, inside.1, at)

    under : (o : Option Binding) → IfSome o (λ b. LiesIn b (grant_of_region (w.region (region_under x b)))) → IsEnded (window o)
    under None inside = record {}
    under (Some b) inside = fit (grant_over x b (w.region (region_under x b))) (lies b (grant_of_region (w.region (region_under x b))) inside (ended (region_under x b)))

    by : (a z : Bool) → IsEnded (if a then grant_if_fitting ask (grant_of_region (w.region slot)) else if z then window x.binding else None)
    by true z = fit (grant_of_region (w.region slot)) (ended slot)
    by false true = under x.binding (bound.inside slot)
    by false false = record {}

-- what an ask for some bytes is allowed ends there too
pub allowed-ended : (c : Configuration) (w : World) (ask : Ask) → IsEndedWorld w → IsBoundWorld w → denial_in (sight_in c w) ask ≡ None → (ask.length == 0) ≡ false → ask.address + ask.length ≤ 2 ^ 64
allowed-ended c w ask ended bound allowed some = under (grant_in c w ask) (grant-ended c w ask ended bound) (sym (ap (λ b. if b then None else denial_under ask (grant_in c w ask)) some) ∙ allowed)
  where
    under : (o : Option Grant) → IsEnded o → denial_under ask o ≡ None → ask.address + ask.length ≤ 2 ^ 64
    under None at denied = absurd (true≢false (ap is_some denied))
    under (Some g) at denied = omega (
      arith,
      at,
      leb-true (ask.address + ask.length) (g.address + g.length)
          (and_parts (nat_le g.address ask.address) (nat_le (ask.address + ask.length) (g.address + g.length)) (not-false (covers g ask) (all-fail (denials ask g) denied).1.1.0)).1,
    )

-- the ask that is denied, where one is made
pub one-denied : (s : Sight) (none : Bool) (ask : Ask) (d : DeniedAsk) → first_denied s (if none then [] else ask ∷ []) ≡ Some d → d.ask ≡ ask
one-denied s true ask d is = absurd (true≢false (sym (ap is_some is)))
one-denied s false ask d is = by (denial_in s ask) is
  where
    of-ask : Option DeniedAsk → Ask
    of-ask None = ask
    of-ask (Some x) = x.ask

    by : (o : Option Denial) → or_denied ask o None ≡ Some d → d.ask ≡ ask
    by None is = absurd (true≢false (sym (ap is_some is)))
    by (Some denial) is = sym (ap of-ask is)

-- the ask that is allowed, where one is made
pub one-allowed : (s : Sight) (none : Bool) (ask : Ask) → first_denied s (if none then [] else ask ∷ []) ≡ None → none ≡ false → denial_in s ask ≡ None
one-allowed s true ask is some = absurd (true≢false some)
one-allowed s false ask is some = by (denial_in s ask) is
  where
    by : (o : Option Denial) → or_denied ask o None ≡ None → o ≡ None
    by None is = refl
    by (Some denial) is = absurd (true≢false (ap is_some is))
