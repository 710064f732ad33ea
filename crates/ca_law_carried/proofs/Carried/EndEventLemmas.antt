-- Every event of a history that follows the machine ends as the relation has it, and the machine is carried. For proofs only.
use Rattle.std.proofs.Common.{Bool, Err, List, Ok, [], ap, false, map, refl, subst, suc, true, true≢false, ℕ, ◌&&◌, ◌∷◌, ◌≡◌}
use Rattle.std.proofs.lemmas.Bool.{and_parts}
use Rattle.std.specs.List.{AllByRecursion}
use Rattle.ca_law_endings.proofs.ArrivalLemmas.{arrivals-along}
use Rattle.ca_law_endings.proofs.EventFitLemmas.{first-marks}
use Rattle.ca_law_endings.proofs.IndexLemmas.{indices-along}
use Rattle.ca_law_endings.proofs.LeadsLemmas.{comes, leads-weaker}
use Rattle.ca_law_endings.proofs.PathEventLemmas.{event-agrees, opening-agrees}
use Rattle.ca_law_endings.specs.Agreement.{PathsAgree}
use Rattle.ca_law_endings.specs.Arrivals.{arrives_as_sent}
use Rattle.ca_law_endings.specs.Indices.{has_its_index}
use Rattle.ca_law_endings.specs.Runs.{Comes, Leads}
use Rattle.ca_law_carried.proofs.Accesses.EventLemmas.{carried-along, event-accesses-agree, opening-accesses-agree, requests-along}
use Rattle.ca_law_carried.specs.Accesses.{AccessesAgree, IsEndedWorld}
use Rattle.ca_law_carried.specs.Asked.{has_its_request, is_carried_remote}
use Rattle.ca_law_keys.proofs.Keys.KeyLaws.{event-keys-agree, opening-keys-agree}
use Rattle.ca_law_keys.proofs.Keys.KeyFrame.{IsUp}
use Rattle.ca_law_keys.specs.InForce.{KeysAgree}
use Rattle.ca_law_keys.proofs.Posts.PostLaws.{event-posts-agree, opening-posts-agree}
use Rattle.ca_law_keys.specs.Posts.{PostsAgree}
use Rattle.ca_law_carried.proofs.Starts.StartEventLemmas.{event-starts-agree, opening-starts-agree}
use Rattle.ca_law_carried.specs.Starts.{StartsAgree}
use Rattle.ca_base.specs.Configuration.{Configuration}
use Rattle.ca_law_carried.proofs.Carried.AnsweredEventLemmas.{answered-along}
use Rattle.ca_law_carried.proofs.Carried.AnsweredLemmas.{IsNoTurn, IsReady, Still, still-event}
use Rattle.ca_law_carried.proofs.Carried.RequestEndLemmas.{ends-request, unsent-ends}
use Rattle.ca_law_carried.proofs.Carried.RespondEndLemmas.{Ends, EndsSo, IsWhole, ends-respond}
use Rattle.ca_law_carried.specs.Answered.{is_answered}
use Rattle.ca_law_carried.specs.Ended.{HaveTheirCauses}
use Rattle.ca_law_keys.proofs.Judged.JudgeLemmas.{both-true}
use Rattle.ca_keys.specs.Memory.{ByteMap}
use Rattle.ca_law_parts.proofs.Names.PlacedLemmas.{event-placed, opening-placed}
use Rattle.ca_law_parts.specs.Placed.{IsPlacedWorld}
use Rattle.ca_law_world.proofs.Sound.SoundLemmas.{event-sound, opening-sound}
use Rattle.ca_law_world.proofs.Steady.EventLemmas.{event-steady, opening-steady}
use Rattle.ca_law_world.specs.Steady.{IsSteadyWorld}
use Rattle.ca_law_world.proofs.Windows.WindowEventLemmas.{event-bound, opening-bound}
use Rattle.ca_law_world.specs.Bindings.{IsBoundWorld}
use Rattle.ca_model.specs.Carried.{Carried, is_carried, is_carried_at_end}
use Rattle.ca_model.specs.Entries.{EntryValue}
use Rattle.ca_model.specs.Past.{Past, after_entry, after_mark, after_marks, at_begin, at_end, each_entry, each_mark, opening_past}
use Rattle.ca_model.specs.declared.event.Event.{Event}
use Rattle.ca_model.specs.declared.mark.Mark.{Mark}
use Rattle.ca_model.specs.machine.Frame.{Afterwards}
use Rattle.ca_model.specs.machine.Plan.{Did, NotReady, Outcome}
use Rattle.ca_model.specs.machine.Run.{Follows, Ran, go_on, run_from}
use Rattle.ca_model.specs.machine.Sound.{AreLimited, CanBeMade, IsSoundWorld}
use Rattle.ca_model.specs.machine.Step.{plan, step}
use Rattle.ca_model.specs.machine.World.{World, opening_world}
use Rattle.ca_wire.specs.Packet.{follows}
use Rattle.ca_wire.specs.Shapes.{ends}
use Rattle.ca_model.specs.declared.event.Event.TheVariants as events
use Rattle.ca_model.specs.declared.mark.Mark.TheVariants as marks

still-ends : (c : Configuration) (past : Past) (w : World) (event : Event) → IsReady c past w → IsNoTurn event → Leads w (EndsSo past event) (plan c event)
still-ends c past w event ready none = leads-weaker w (Still past event) (EndsSo past event) (plan c event) (λ v ms still. unsent-ends past event ms still.1) (still-event c past w event ready none)

ends-event : (c : Configuration) (past : Past) (w : World) (event : Event) → IsWhole c past w → Leads w (EndsSo past event) (plan c event)
ends-event c past w (events.Verb by verb) whole = still-ends c past w (events.Verb by verb) whole.ready (record {})
ends-event c past w (events.Request queue lot) whole = ends-request c past w queue lot whole
ends-event c past w (events.Respond queue lot) whole = ends-respond c past w queue lot whole
ends-event c past w (events.Deliver queue index) whole = still-ends c past w (events.Deliver queue index) whole.ready (record {})
ends-event c past w (events.Timeout queue hasten) whole = still-ends c past w (events.Timeout queue hasten) whole.ready (record {})
ends-event c past w (events.RnrWake queue) whole = still-ends c past w (events.RnrWake queue) whole.ready (record {})

no-test : (ms : List Mark) (p : Past) → each_mark (λ past mark. true) p ms ≡ true
no-test [] p = refl
no-test (m ∷ ms) p = both-true true _ refl (no-test ms (after_mark m p))

along : (c : Configuration) (n : ℕ) (es : List EntryValue) (past : Past) (w : World) → AllByRecursion (λ e. CanBeMade e.event) es → IsWhole c past w → each_entry has_its_request (λ p. true) past es ≡ true
    → run_from c n w (map (λ e. e.event) es) ≡ Ok (map (λ e. e.marks) es) → each_entry (λ past mark. true) is_carried_at_end past es ≡ true
along c n [] past w made whole asked follows = refl
along c n (e ∷ es) past w made whole asked follows =
    by (step c w e.event) (comes w (EndsSo past e.event) (plan c e.event) (ends-event c past w e.event whole)) (event-agrees c past w e.event ready.sound ready.paths)
    (event-posts-agree c past w e.event up.limited ready.sound ready.steady ready.posts) (event-keys-agree c past w e.event up.limited up.sound up.placed up.bound up.agree)
    (event-accesses-agree c past w e.event up.limited up.sound up.bound whole.ended ready.paths whole.accesses) (event-starts-agree c past w e.event ready.sound ready.steady ready.posts whole.starts)
    (event-sound c e.event w up.limited ready.sound made.0) (event-steady c e.event w ready.sound ready.steady) (event-placed c e.event w up.limited up.sound up.placed) (event-bound c e.event w up.sound up.bound) follows
    (λ v next told. along c (suc n) es (after_entry e past) v made.1 next parts.1 told)
  where
    ready : IsReady c past w
    ready = whole.ready

    up : IsUp c past w
    up = whole.up

    parts : ((each_mark has_its_request (at_begin e.event past) e.marks && true) ≡ true) × (each_entry has_its_request (λ p. true) (after_entry e past) es ≡ true)
    parts = and_parts (each_mark has_its_request (at_begin e.event past) e.marks && true) (each_entry has_its_request (λ p. true) (after_entry e past) es) asked

    Rest : Type 0
    Rest = (v : World) → IsWhole c (after_entry e past) v → run_from c (suc n) v (map (λ e. e.event) es) ≡ Ok (map (λ e. e.marks) es) → each_entry (λ past mark. true) is_carried_at_end (after_entry e past) es ≡ true

    stopped : Ran → Bool
    stopped (Ok told) = false
    stopped (Err stop) = true

    same : (v : World) → KeysAgree (after_marks e.marks (at_begin e.event past)) v → KeysAgree (after_entry e past) v
    same v agree = agree

    by : (o : Outcome) → Comes (EndsSo past e.event) o → Comes (λ v ms. PathsAgree (after_marks ms (at_begin e.event past)) v) o → Comes (λ v ms. PostsAgree (at_end (after_marks ms (at_begin e.event past))) v) o
        → Comes (λ v ms. KeysAgree (after_marks ms (at_begin e.event past)) v) o → Comes (λ v ms. AccessesAgree (after_marks ms (at_begin e.event past)) v × IsEndedWorld v) o
        → Comes (λ v ms. StartsAgree (after_marks ms (at_begin e.event past)) v) o → Afterwards (IsSoundWorld c) o → Afterwards IsSteadyWorld o → Afterwards (IsPlacedWorld c) o → Afterwards IsBoundWorld o
        → go_on n o (λ v. run_from c (suc n) v (map (λ e. e.event) es)) ≡ Ok (e.marks ∷ map (λ e. e.marks) es) → Rest → each_entry (λ past mark. true) is_carried_at_end past (e ∷ es) ≡ true
    by (NotReady reason) ends paths posts keys accesses starts sound steady placed bound follows rest = absurd (true≢false (ap stopped follows))
    by (Did v ms) ends paths posts keys accesses starts sound steady placed bound follows rest = at (first-marks ms e.marks (run_from c (suc n) v (map (λ e. e.event) es)) (map (λ e. e.marks) es) follows)
      where
        at : (ms ≡ e.marks) × (run_from c (suc n) v (map (λ e. e.event) es) ≡ Ok (map (λ e. e.marks) es)) → each_entry (λ past mark. true) is_carried_at_end past (e ∷ es) ≡ true
        at told = both-true _ _ (both-true _ _ (no-test e.marks (at_begin e.event past)) (subst (λ xs. Ends past e.event xs) told.0 ends (and_parts (each_mark has_its_request (at_begin e.event past) e.marks) true parts.0).0))
            (rest v (record {
              ready = record {
                sound = sound;
                steady = steady;
                paths = subst (λ xs. PathsAgree (after_marks xs (at_begin e.event past)) v) told.0 paths;
                posts = subst (λ xs. PostsAgree (at_end (after_marks xs (at_begin e.event past))) v) told.0 posts;
              };
              up = record { limited = up.limited; sound = sound; placed = placed; bound = bound; agree = same v (subst (λ xs. KeysAgree (after_marks xs (at_begin e.event past)) v) told.0 keys) };
              ended = accesses.1;
              accesses = subst (λ xs. AccessesAgree (after_marks xs (at_begin e.event past)) v) told.0 accesses.0;
              starts = subst (λ xs. StartsAgree (after_marks xs (at_begin e.event past)) v) told.0 starts;
            }) told.1)

pub causes-along : (c : Configuration) (bytes : ByteMap) (es : List EntryValue) → AreLimited c → AllByRecursion (λ e. CanBeMade e.event) es → Follows c bytes es → HaveTheirCauses bytes es
causes-along c bytes es limited made follows = along c 0 es (opening_past bytes) (opening_world bytes) made (record {
  ready = record { sound = opening-sound c bytes; steady = opening-steady bytes; paths = opening-agrees bytes; posts = opening-posts-agree bytes };
  up = record { limited = limited; sound = opening-sound c bytes; placed = opening-placed c bytes; bound = opening-bound bytes; agree = opening-keys-agree bytes };
  ended = (opening-accesses-agree bytes).1;
  accesses = (opening-accesses-agree bytes).0;
  starts = opening-starts-agree bytes;
}) (requests-along c bytes es limited made follows) follows

-- ---- the whole relation

mark-carried : (p : Past) (m : Mark) → has_its_index p m ≡ true → arrives_as_sent p m ≡ true → is_carried_remote p m ≡ true → is_answered p m ≡ true → is_carried p m ≡ true
mark-carried p (marks.Arrived target index) sent arrived accessed answered = arrived
mark-carried p (marks.Sent source target index request bytes) sent arrived accessed answered = sent
mark-carried p (marks.Remote queue domain envelope key kind address count verdict) sent arrived accessed answered = accessed
mark-carried p (marks.Done queue x cause) sent arrived accessed answered = answered
mark-carried p (marks.Verb by verb answer) sent arrived accessed answered = refl
mark-carried p (marks.Granted g) sent arrived accessed answered = refl
mark-carried p (marks.Revoked adapter key) sent arrived accessed answered = refl
mark-carried p (marks.Local queue domain key kind address count verdict) sent arrived accessed answered = refl
mark-carried p (marks.Stored place bytes) sent arrived accessed answered = refl
mark-carried p (marks.Lost target index) sent arrived accessed answered = refl
mark-carried p (marks.Dropped target cause) sent arrived accessed answered = refl
mark-carried p (marks.Timer queue silent) sent arrived accessed answered = refl

marks-carried : (ms : List Mark) (p : Past) → each_mark has_its_index p ms ≡ true → each_mark arrives_as_sent p ms ≡ true → each_mark is_carried_remote p ms ≡ true → each_mark is_answered p ms ≡ true → each_mark is_carried p ms ≡ true
marks-carried [] p sent arrived accessed answered = refl
marks-carried (m ∷ ms) p sent arrived accessed answered = both-true (is_carried p m) _ (mark-carried p m (here has_its_index sent).0 (here arrives_as_sent arrived).0 (here is_carried_remote accessed).0 (here is_answered answered).0)
    (marks-carried ms (after_mark m p) (here has_its_index sent).1 (here arrives_as_sent arrived).1 (here is_carried_remote accessed).1 (here is_answered answered).1)
  where
    here : (test : Past → Mark → Bool) → each_mark test p (m ∷ ms) ≡ true → (test p m ≡ true) × (each_mark test (after_mark m p) ms ≡ true)
    here test all = and_parts (test p m) (each_mark test (after_mark m p) ms) all

entries-carried : (es : List EntryValue) (p : Past) → each_entry has_its_index (λ past. true) p es ≡ true → each_entry arrives_as_sent (λ past. true) p es ≡ true → each_entry is_carried_remote (λ past. true) p es ≡ true
    → each_entry is_answered (λ past. true) p es ≡ true → each_entry (λ past mark. true) is_carried_at_end p es ≡ true → each_entry is_carried is_carried_at_end p es ≡ true
entries-carried [] p sent arrived accessed answered ends = refl
entries-carried (e ∷ es) p sent arrived accessed answered ends = both-true _ _
    (both-true (each_mark is_carried (at_begin e.event p) e.marks) (is_carried_at_end (after_marks e.marks (at_begin e.event p)))
    (marks-carried e.marks (at_begin e.event p) (here has_its_index (λ past. true) sent).0.0 (here arrives_as_sent (λ past. true) arrived).0.0 (here is_carried_remote (λ past. true) accessed).0.0 (here is_answered (λ past. true) answered).0.0)
    (here (λ past mark. true) is_carried_at_end ends).0.1)
    (entries-carried es (after_entry e p) (here has_its_index (λ past. true) sent).1 (here arrives_as_sent (λ past. true) arrived).1 (here is_carried_remote (λ past. true) accessed).1 (here is_answered (λ past. true) answered).1
    (here (λ past mark. true) is_carried_at_end ends).1)
  where
    here : (test : Past → Mark → Bool) (ending : Past → Bool) → each_entry test ending p (e ∷ es) ≡ true
        → ((each_mark test (at_begin e.event p) e.marks ≡ true) × (ending (after_marks e.marks (at_begin e.event p)) ≡ true)) × (each_entry test ending (after_entry e p) es ≡ true)
    here test ending all = (and_parts (each_mark test (at_begin e.event p) e.marks) (ending (after_marks e.marks (at_begin e.event p))) parts.0, parts.1)
      where
        parts : ((each_mark test (at_begin e.event p) e.marks && ending (after_marks e.marks (at_begin e.event p))) ≡ true) × (each_entry test ending (after_entry e p) es ≡ true)
        parts = and_parts (each_mark test (at_begin e.event p) e.marks && ending (after_marks e.marks (at_begin e.event p))) (each_entry test ending (after_entry e p) es) all

pub whole-along : (c : Configuration) (bytes : ByteMap) (es : List EntryValue) → AreLimited c → AllByRecursion (λ e. CanBeMade e.event) es → Follows c bytes es → Carried bytes es
whole-along c bytes es limited made follows = entries-carried es (opening_past bytes) (indices-along c bytes es limited made follows) (arrivals-along c bytes es limited made follows)
    (carried-along c bytes es limited made follows) (answered-along c bytes es limited made follows) (causes-along c bytes es limited made follows)
