-- Rows by what they tell of keys, for the laws above that are not proved over the endings yet. For proofs only.
use Rattle.std.proofs.Common.{◌≡◌, ℕ, List, [], ◌∷◌, ◌++◌, length, map, take, drop, Option, None, Some, IfSome, refl, sym, ap, subst, ◌∙◌}
use Rattle.std.specs.Option.{option_map, option_map_or}
use Rattle.ca_law_endings.proofs.LeadsLemmas.{comes}
use Rattle.ca_law_endings.specs.Runs.{Comes, Leads}
use Rattle.ca_law_endings.proofs.Leading.{leads-from}
use Rattle.ca_law_keys.proofs.Posts.GoingLemmas.{AreKeyless, EndKey, Goes, IsKeyless, RowGoes, TellOf, key_gone}
use Rattle.ca_law_keys.specs.Posts.{AgreeOnSends, as_posted}
use Rattle.ca_base.specs.Configuration.{Configuration}
use Rattle.ca_base.specs.Sight.{Invalidation, Sight, bytes_in, first_denied}
use Rattle.ca_base.specs.declared.denied_ask.DeniedAsk.{DeniedAsk}
use Rattle.ca_base.specs.declared.refusals.OpRefusal.{OpRefusal}
use Rattle.ca_base.specs.objects.QueuePair.{QueuePair}
use Rattle.ca_base.specs.objects.WorkQueue.{next_place}
use Rattle.ca_keys.specs.declared.key.Key.{Key}
use Rattle.ca_keys.specs.declared.names.QueueId.{QueueId}
use Rattle.ca_law_world.proofs.Sound.WorldLemmas.{EndingDoes}
use Rattle.ca_model.proofs.PerformLemmas.{row-performs}
use Rattle.ca_model.specs.Past.{Past, Posted, after_mark, after_marks, local_operations}
use Rattle.ca_model.specs.declared.mark.Mark.{Mark}
use Rattle.ca_model.specs.declared.mark.Mark.TheVariants as marks
use Rattle.ca_model.specs.machine.Plan.{Plan, Update, Write}
use Rattle.ca_model.specs.machine.Row.{Ending, NotPossible, Does, Effects, Row, Row_plan, unless_none}
use Rattle.ca_model.specs.machine.Seen.{ending_changes, perform_ending, refusal_in, sight_in, writes_in}
use Rattle.ca_model.specs.machine.World.{World}
use Rattle.std.specs.Option.{option_and_then}
use Rattle.ca_law_keys.proofs.Posts.PostFrame.{SamePosts}
pub use Rattle.ca_law_keys.proofs.Posts.PostFrame.{IsNoRequest, SamePosts, same-posts}

-- a mark that answers no verb
abbrev pub IsNoAnswer : Mark → Type 0
IsNoAnswer (marks.Verb by verb answer) = ⊥
IsNoAnswer m = Unit {0}

abbrev pub AreNoAnswers : List Mark → Type 0
AreNoAnswers [] = Unit {0}
AreNoAnswers (m ∷ ms) = IsNoAnswer m × AreNoAnswers ms

one-mark : (m : Mark) → IsNoAnswer m → (p r : Past) → SamePosts p r → SamePosts p (after_mark m r)
one-mark (marks.Verb by verb answer) none p r same = absurd none
one-mark (marks.Sent source target index request bytes) none p r same = record { incarnation = same.incarnation; posted = same.posted; performed = same.performed; drawn = same.drawn; event = same.event }
one-mark (marks.Lost target None) none p r same = record { incarnation = same.incarnation; posted = same.posted; performed = same.performed; drawn = same.drawn; event = same.event }
one-mark (marks.Lost target (Some index)) none p r same = record { incarnation = same.incarnation; posted = same.posted; performed = same.performed; drawn = same.drawn; event = same.event }
one-mark (marks.Granted g) none p r same = record { incarnation = same.incarnation; posted = same.posted; performed = same.performed; drawn = same.drawn; event = same.event }
one-mark (marks.Revoked adapter key) none p r same = record { incarnation = same.incarnation; posted = same.posted; performed = same.performed; drawn = same.drawn; event = same.event }
one-mark (marks.Remote queue domain envelope key kind address count verdict) none p r same = record { incarnation = same.incarnation; posted = same.posted; performed = same.performed; drawn = same.drawn; event = same.event }
one-mark (marks.Local queue domain key kind address count verdict) none p r same = record { incarnation = same.incarnation; posted = same.posted; performed = same.performed; drawn = same.drawn; event = same.event }
one-mark (marks.Stored place bytes) none p r same = record { incarnation = same.incarnation; posted = same.posted; performed = same.performed; drawn = same.drawn; event = same.event }
one-mark (marks.Arrived target index) none p r same = record { incarnation = same.incarnation; posted = same.posted; performed = same.performed; drawn = same.drawn; event = same.event }
one-mark (marks.Dropped target cause) none p r same = record { incarnation = same.incarnation; posted = same.posted; performed = same.performed; drawn = same.drawn; event = same.event }
one-mark (marks.Timer queue silent) none p r same = record { incarnation = same.incarnation; posted = same.posted; performed = same.performed; drawn = same.drawn; event = same.event }
one-mark (marks.Done queue x cause) none p r same = record { incarnation = same.incarnation; posted = same.posted; performed = same.performed; drawn = same.drawn; event = same.event }

pub no-answers : (ms : List Mark) → AreNoAnswers ms → (p r : Past) → SamePosts p r → SamePosts p (after_marks ms r)
no-answers [] none p r same = same
no-answers (m ∷ ms) none p r same = no-answers ms none.1 p (after_mark m r) (one-mark m none.0 p r same)

pub answers-append : (ms ns : List Mark) → AreNoAnswers ms → AreNoAnswers ns → AreNoAnswers (ms ++ ns)
answers-append [] ns one other = other
answers-append (m ∷ ms) ns one other = (one.0, answers-append ms ns one.1 other)

keyless-one : (name : QueueId) (sends : _) (ended : Option Key) (m : Mark) → IsKeyless name sends ended m → IsNoAnswer m
keyless-one name sends ended (marks.Verb by verb answer) one = one
keyless-one name sends ended (marks.Granted g) one = record {}
keyless-one name sends ended (marks.Revoked adapter k) one = record {}
keyless-one name sends ended (marks.Sent source target index request bytes) one = record {}
keyless-one name sends ended (marks.Lost target index) one = record {}
keyless-one name sends ended (marks.Arrived target index) one = record {}
keyless-one name sends ended (marks.Timer queue silent) one = record {}
keyless-one name sends ended (marks.Done queue x cause) one = record {}
keyless-one name sends ended (marks.Stored place bytes) one = record {}
keyless-one name sends ended (marks.Remote queue domain envelope k kind address count verdict) one = record {}
keyless-one name sends ended (marks.Local queue domain k kind address count verdict) one = record {}
keyless-one name sends ended (marks.Dropped target cause) one = record {}

pub keyless-no : (name : QueueId) (sends : _) (ended : Option Key) (ms : List Mark) → AreKeyless name sends ended ms → AreNoAnswers ms
keyless-no name sends ended [] all = record {}
keyless-no name sends ended (m ∷ ms) all = (keyless-one name sends ended m all.0, keyless-no name sends ended ms all.1)

end-no : (name : QueueId) (sends : _) (key : Key) (ms : List Mark) → EndKey name sends key ms → AreNoAnswers ms
end-no name sends key [] all = absurd all
end-no name sends key (marks.Revoked adapter k ∷ ms) all = (record {}, keyless-no name sends (Some key) ms all.2)
end-no name sends key (marks.Verb by verb answer ∷ ms) all = absurd all.0
end-no name sends key (marks.Granted g ∷ ms) all = absurd all.0
end-no name sends key (marks.Sent source target index request bytes ∷ ms) all = absurd all.0
end-no name sends key (marks.Lost target index ∷ ms) all = absurd all.0
end-no name sends key (marks.Arrived target index ∷ ms) all = absurd all.0
end-no name sends key (marks.Timer queue silent ∷ ms) all = absurd all.0
end-no name sends key (marks.Done queue x cause ∷ ms) all = (record {}, end-no name sends key ms all.1)
end-no name sends key (marks.Stored place bytes ∷ ms) all = (record {}, end-no name sends key ms all.1)
end-no name sends key (marks.Remote queue domain envelope k kind address count verdict ∷ ms) all = (record {}, end-no name sends key ms all.1)
end-no name sends key (marks.Local queue domain k kind address count verdict ∷ ms) all = (record {}, end-no name sends key ms all.1)
end-no name sends key (marks.Dropped target cause ∷ ms) all = (record {}, end-no name sends key ms all.1)

pub tells-no : (name : QueueId) (sends : _) (ended : Option Key) (ms : List Mark) → TellOf name sends ended ms → AreNoAnswers ms
tells-no name sends None ms all = keyless-no name sends None ms all
tells-no name sends (Some key) ms all = end-no name sends key ms all

pub goes-kept : (q : QueuePair) (ended : Option Key) (e : Effects) → Goes q ended e → (ps : List Posted) (k : ℕ) → AgreeOnSends ps k q → AgreeOnSends ps k e.queue
goes-kept q ended e goes ps k agree = record {
  places = agree.places;
  count = ap next_place goes.sends ∙ agree.count;
  items = subst (λ s. s.items ≡ map as_posted (drop s.first ps)) (sym goes.sends) agree.items;
  performed = λ x. agree.performed (goes.next x).0 ∙ ap (λ n. length (local_operations (take n ps))) (sym (goes.next x).1);
}

-- ---- rows

-- a row's plan leads where its effects do, with what its key changes
pub leads-ends : (c : Configuration) (w : World) (P : World → List Mark → Type 0) (E : Option Key → Effects → Type 0) (row : Row) (finish : Effects → List Update → List Write → Plan)
    → ((d : DeniedAsk) → EndingDoes (E None) (row.denied d)) → ((bytes : List (List ℕ)) (refusal : Option OpRefusal) → EndingDoes (E (key_gone row.invalidation refusal)) (row.allowed bytes refusal))
    → ((e : Effects) (i : Option Invalidation) (ws : List Write) → E (option_map (λ i. i.key) i) e → IfSome i (λ i. (row.invalidation ≡ Some i) × (refusal_in c w i ≡ None))
    → Leads w P (finish e (option_map_or (ending_changes c w) i []) ws))
    → Leads w P (Row_plan c row finish)
leads-ends c w P E row finish denied allowed more =
    leads-from w P (Row_plan c row finish) (subst (Comes P) (sym (row-performs c w row finish)) (by (first_denied s row.asks)))
  where
    s : Sight
    s = sight_in c w

    bytes : List (List ℕ)
    bytes = map (bytes_in s) row.asks

    changed : Option DeniedAsk → List Update
    changed (Some d) = []
    changed None = option_map_or (λ i. unless_none (refusal_in c w i) (ending_changes c w i)) row.invalidation []

    end : Option DeniedAsk → Ending
    end (Some d) = row.denied d
    end None = row.allowed bytes (option_and_then (refusal_in c w) row.invalidation)

    ends : (i : Option Invalidation) (e : Ending) → EndingDoes (E (option_map (λ i. i.key) i)) e → IfSome i (λ i. (row.invalidation ≡ Some i) × (refusal_in c w i ≡ None))
        → Comes P (perform_ending w s finish (option_map_or (ending_changes c w) i []) e)
    ends i (NotPossible reason) does is = record {}
    ends i (Does e) does is = comes w P (finish e (option_map_or (ending_changes c w) i []) (writes_in s e.writes)) (more e i (writes_in s e.writes) does is)

    refused : (i : Invalidation) → row.invalidation ≡ Some i → ((refusal : Option OpRefusal) → EndingDoes (E (key_gone (Some i) refusal)) (row.allowed bytes refusal))
        → (r : Option OpRefusal) → refusal_in c w i ≡ r → Comes P (perform_ending w s finish (unless_none r (ending_changes c w i)) (row.allowed bytes r))
    refused i own does None is = ends (Some i) (row.allowed bytes None) (does None) (own, is)
    refused i own does (Some cause) is = ends None (row.allowed bytes (Some cause)) (does (Some cause)) (record {})

    at : (i : Option Invalidation) → row.invalidation ≡ i → ((refusal : Option OpRefusal) → EndingDoes (E (key_gone i refusal)) (row.allowed bytes refusal))
        → Comes P (perform_ending w s finish (option_map_or (λ i. unless_none (refusal_in c w i) (ending_changes c w i)) i []) (row.allowed bytes (option_and_then (refusal_in c w) i)))
    at None own does = ends None (row.allowed bytes None) (does None) (record {})
    at (Some i) own does = refused i own does (refusal_in c w i) refl

    by : (d : Option DeniedAsk) → Comes P (perform_ending w s finish (changed d) (end d))
    by (Some d) = ends None (row.denied d) (denied d) (record {})
    by None = at row.invalidation refl (λ refusal. allowed bytes refusal)

pub leads-goes : (c : Configuration) (w : World) (P : World → List Mark → Type 0) (q : QueuePair) (row : Row) (finish : Effects → List Update → List Write → Plan) → RowGoes q row
    → ((e : Effects) (i : Option Invalidation) (ws : List Write) → Goes q (option_map (λ i. i.key) i) e → IfSome i (λ i. (row.invalidation ≡ Some i) × (refusal_in c w i ≡ None))
    → Leads w P (finish e (option_map_or (ending_changes c w) i []) ws))
    → Leads w P (Row_plan c row finish)
leads-goes c w P q row finish goes more = leads-ends c w P (Goes q) row finish goes.denied goes.allowed more
