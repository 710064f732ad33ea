-- On a clean connection no answer misfits its request, in every history that follows the machine. For proofs only.
use Rattle.std.proofs.Common.{◌≡◌, ℕ, ◌+◌, ◌==◌, ◌&&◌, ◌||◌, ◌++◌, not, Bool, true, false, if◌then◌else◌, List, [], ◌∷◌, take, Option, None, Some, Result, Ok, Err, is_some, slice_get, sum_by, refl, ap, ap₂, sym, subst, ◌∙◌, arith, true≢false}
use Rattle.std.proofs.lemmas.Bool.{and_parts, eqb-true}
use Rattle.std.proofs.lemmas.Option.{same_Some}
use Rattle.std.specs.List.{AllByRecursion, find, list_all}
use Rattle.std.specs.Option.{option_map_or}
use Rattle.ca_law_endings.proofs.InnerLemmas.{IsInner, arrival-inner}
use Rattle.ca_law_endings.proofs.LeadsLemmas.{comes}
use Rattle.ca_law_endings.specs.Agreement.{peer_in}
use Rattle.ca_law_endings.specs.Runs.{Comes}
use Rattle.ca_law_keys.proofs.Posts.GrantLemmas.{both-true}
use Rattle.ca_law_keys.specs.Posts.{life}
use Rattle.ca_law_carried.proofs.Starts.StartEventLemmas.{event-starts-agree, opening-starts-agree}
use Rattle.ca_law_carried.specs.Starts.{AgreeOnStart, StartsAgree, StartsInSlot, start_in}
use Rattle.ca_base.specs.Configuration.{Configuration}
use Rattle.ca_base.specs.declared.change.State.{State}
use Rattle.ca_base.specs.declared.change.State.TheVariants as states
use Rattle.ca_base.specs.declared.completion.Completion.{Completion}
use Rattle.ca_base.specs.declared.completion.WcStatus.{WcStatus}
use Rattle.ca_base.specs.declared.completion.WcStatus.TheVariants as statuses
use Rattle.ca_base.specs.declared.correspondent.Correspondent.{Correspondent}
use Rattle.ca_base.specs.declared.refusals.OpRefusal.{OpRefusal}
use Rattle.ca_base.specs.objects.Mailbox.{later_than}
use Rattle.ca_base.specs.objects.QueuePair.{QueuePair, QueueSlot, NoQueue, Present, is_present}
use Rattle.ca_base.specs.objects.SharedReceives.{SharedReceives}
use Rattle.ca_base.specs.objects.StateTable.{is_among, state_eq}
use Rattle.ca_law_caused.proofs.Caused.EventLemmas.{complete-with-causes, event-causes-agree, opening-causes-agree}
use Rattle.ca_law_caused.proofs.Caused.SuchLemmas.{RowSuch, such-does}
use Rattle.ca_law_caused.specs.Causes.{completes_with_cause, has_own_cause, is_misfit}
use Rattle.ca_law_caused.specs.Explained.{CausesAgree, ExplainedInSlot, IsExplained, IsFollowed, queue_past}
use Rattle.ca_law_caused.proofs.Link.AnswerLemmas.{answer-fits, first-posted, is_answer}
use Rattle.ca_law_caused.proofs.Link.ArriveLemmas.{leads-delivery}
use Rattle.ca_law_caused.proofs.Link.EntryLemmas.{IsDelivered, entry-passes}
use Rattle.ca_law_caused.proofs.Link.FaultLemmas.{none-at}
use Rattle.ca_law_caused.proofs.Link.FitLemmas.{FitsBytes, FitsRead, IsNear, IsUp, ReadsFit, named-up, near-of, una_of}
use Rattle.ca_law_caused.proofs.Link.FitWalks.{event-reads-fit}
use Rattle.ca_law_caused.proofs.Link.PeerLemmas.{first-entry}
use Rattle.ca_law_caused.proofs.Link.PrefixLemmas.{Reaches, all-front, append-one, entries-more, front-runs, reaches-more}
use Rattle.ca_law_caused.proofs.Link.RowLemmas.{plainly, such-weaker}
use Rattle.ca_law_caused.specs.Linked.{DoCompleteSo, completes_so, has_misfit_unclean}
use Rattle.ca_connection.proofs.MoveLemmas.{mtu-some}
use Rattle.ca_connection.proofs.OnceLemmas.{law-fits}
use Rattle.ca_connection.specs.Layout.{Direction, HasNumber, first, psns, start}
use Rattle.ca_connection.specs.Link.{Link, Requester, Response, number_of, opening}
use Rattle.ca_keys.specs.Memory.{ByteMap}
use Rattle.ca_keys.specs.Refusals.{first_of}
use Rattle.ca_keys.specs.declared.names.QueueId.{QueueId}
use Rattle.ca_law_world.proofs.Windows.WindowEventLemmas.{event-bound, opening-bound}
use Rattle.ca_law_world.specs.Bindings.{IsBoundWorld}
use Rattle.ca_model.specs.Caused.{Told, is_fitting_answer, told_at_hand}
use Rattle.ca_model.specs.Entries.{EntryValue}
use Rattle.ca_model.specs.Once.{is_clean, is_clean_pair}
use Rattle.ca_model.specs.Packets.{answers_read}
use Rattle.ca_model.specs.Past.{Naming, Past, Posted, Start, after_entries, after_entry, after_mark, after_marks, at_begin, at_end, correspondent_eq, each_entry, each_mark, mtu_of, opening_past, posted_at, present_incarnation, whole_start}
use Rattle.ca_model.specs.Progress.{Progress}
use Rattle.ca_model.specs.Requests.{psns_of}
use Rattle.ca_model.specs.declared.event.Event.{Event}
use Rattle.ca_model.specs.declared.event.Event.TheVariants as events
use Rattle.ca_model.specs.declared.mark.Drop1.{Drop1}
use Rattle.ca_model.specs.declared.mark.Drop1.TheVariants as drops
use Rattle.ca_model.specs.declared.mark.Mark.{Mark}
use Rattle.ca_model.specs.declared.mark.Mark.TheVariants as marks
use Rattle.ca_model.specs.machine.Delivery.{arrival_drops, arrival_row, packet_arrived}
use Rattle.ca_model.specs.machine.Frame.{Afterwards}
use Rattle.ca_model.specs.machine.Invariants.{is_connected, is_fresh, is_idle, is_sending}
use Rattle.ca_model.specs.machine.Plan.{Did}
use Rattle.ca_model.specs.machine.Responses.{drop_effects}
use Rattle.ca_model.specs.machine.Row.{Does, Effects, Row, plain_row}
use Rattle.ca_model.specs.machine.Run.{Follows}
use Rattle.ca_model.specs.machine.Sound.{AreLimited, CanBeMade, IsSoundWorld}
use Rattle.ca_model.specs.machine.Step.{plan, step}
use Rattle.ca_model.specs.machine.World.{World, opening_world}
use Rattle.ca_law_once.proofs.Once.AgreeLemmas.{IsConnection, marks-agree}
use Rattle.ca_law_once.proofs.Once.NoteLemmas.{Among, Grows}
use Rattle.ca_law_once.proofs.Once.OnceLemmas.{EndOf, IsStarted, connection-started, end-of, entry-to-end, next-told}
use Rattle.ca_law_once.proofs.Once.RunLemmas.{Stands, Steps, Walk, walk-along}
use Rattle.ca_law_once.proofs.Once.StepTolds.{ToldAfter}
use Rattle.ca_law_once.specs.Connections.{direction_of, work_posted}
use Rattle.ca_law_once.specs.OnceTold.{IsTold}
use Rattle.ca_wire.specs.Decoding.{packet_in}
use Rattle.ca_wire.specs.Packet.{Fields}
use Rattle.ca_wire.specs.declared.packet.TheConstants.{DEFAULT_PKEY}
use Rattle.ca_wire.specs.declared.wire_error.WireError.{WireError}
use Rattle.ca_psn.specs.Psn.{widened}
use Rattle.ca_law_once.proofs.Ties.EntryLemmas.{IsLent, lent-envelope}
use Rattle.ca_law_once.proofs.Ties.FollowLemmas.{paths-follow}
use Rattle.ca_law_once.specs.Ties.{IsPaired, IsTied, SenderTie}
use Rattle.ca_law_once.specs.Ties.IsBefore.{sooner, unnamed}
use Rattle.ca_law_once.specs.Ties.IsOver.{later, vacant}
use Rattle.ca_law_once.specs.Ties.SenderTie.{before as sender_before, standing as sender_standing, gone as sender_gone}
use Rattle.ca_law_once.proofs.Rows.LayLemmas.{psns-of-work}
use Rattle.ca_law_once.specs.Sides.{work_of}
use Rattle.ca_law_once.specs.Agrees.{AgreesWith, acted_by, written_by}

-- ---- clean connections

-- A clean connection of a past, whose link stands in a world, and to which only fitting READ responses are under way.
record IsReady (past : Past) (w : World) (a b : Naming) : Type 0 where
  con : IsConnection past a b
  link : Link
  tied : IsTied (direction_of past a b) a.own b.own w link
  fits : ReadsFit (direction_of past a b) a.own b.own w

-- each clean connection of a past is so
abbrev AreReady : Past → World → Type 0
AreReady past w = (a b : Naming) → Among a past.namings → Among b past.namings → is_clean_pair past a b ≡ true → IsReady past w a b

ready-along : (c : Configuration) (end : Past) (a b : Naming) (es : List EntryValue) (past : Past) (w v : World) (l : Link) → IsConnection end a b → end ≡ after_entries es past → Reaches c past w es v
    → IsTold (direction_of end a b) a.own b.own past w l → IsBoundWorld w → ReadsFit (direction_of end a b) a.own b.own w → IsReady end v a b
ready-along c end a b [] past w v l con is reaches told bound fits = record {
  con = con;
  link = l;
  tied = subst (λ x. IsTied (direction_of end a b) a.own b.own x l) reaches told.tied;
  fits = subst (ReadsFit (direction_of end a b) a.own b.own) reaches fits;
}
ready-along c end a b (e ∷ es) past w v l con is reaches told bound fits = ready-along c end a b es (after_entry e past) u v next.after.link con is reaches.1.2 next.told
    (subst (Afterwards IsBoundWorld) steps.comes (event-bound c e.event w stands.sound bound))
    (subst (Comes (λ v ms. AgreesWith d a.own b.own w ms → ReadsFit d a.own b.own v)) steps.comes
    (event-reads-fit c d a.own b.own w l e.event stands.sound (paths-follow past w stands.paths) stands.empty bound told.tied fits)
    (marks-agree end a b con past w e.event stands.paths stands.posts e.marks grows))
  where
    d : Direction
    d = direction_of end a b

    u : World
    u = reaches.1.0

    stands : Stands c past w
    stands = reaches.0

    steps : Steps c past w e.event e.marks u
    steps = reaches.1.1

    grows : Grows (after_marks e.marks (at_begin e.event past)) end
    grows = entry-to-end end e es past is

    next : ToldAfter d a.own b.own (after_entry e past) w l (acted_by b.own w l e.event e.marks) (written_by b.own w l e.event e.marks) u
    next = next-told c end a b e past w u l con grows stands steps told

ready-at : (c : Configuration) (bytes : ByteMap) (es fs : List EntryValue) (w : World) → AreLimited c → AllByRecursion (λ e. CanBeMade e.event) (es ++ fs) → Follows c bytes (es ++ fs) → Reaches c (opening_past bytes) (opening_world bytes) es w
    → AreReady (after_entries es (opening_past bytes)) w
ready-at c bytes es fs w limited made follows reaches a b a_in b_in clean = ready-along c (after_entries es (opening_past bytes)) a b es (opening_past bytes) (opening_world bytes) w
    (opening (direction_of (after_entries es (opening_past bytes)) a b)) started.con refl reaches started.told (opening-bound bytes) (λ q up k m at. absurd (true≢false (sym (ap is_some at))))
  where
    started : IsStarted c bytes es a b
    started = connection-started c bytes es a b limited (all-front (λ (e : EntryValue). CanBeMade e.event) es fs made) (front-runs c 0 es fs (opening_world bytes) follows) a_in b_in clean

-- ---- in Error nothing completes

abbrev IsNoDone : Mark → Type 0
IsNoDone (marks.Done queue x cause) = ⊥
IsNoDone m = Unit {0}

no-done-passes : (test : Past → Completion → WcStatus → Bool) (ms : List Mark) (s : Past) → AllByRecursion IsNoDone ms → each_mark (completes_so test) s ms ≡ true
no-done-passes test [] s none = refl
no-done-passes test (marks.Done queue x cause ∷ ms) s none = absurd none.0
no-done-passes test (marks.Verb by verb answer ∷ ms) s none = no-done-passes test ms (after_mark (marks.Verb by verb answer) s) none.1
no-done-passes test (marks.Sent source target index request bytes ∷ ms) s none = no-done-passes test ms (after_mark (marks.Sent source target index request bytes) s) none.1
no-done-passes test (marks.Lost target index ∷ ms) s none = no-done-passes test ms (after_mark (marks.Lost target index) s) none.1
no-done-passes test (marks.Arrived target index ∷ ms) s none = no-done-passes test ms (after_mark (marks.Arrived target index) s) none.1
no-done-passes test (marks.Dropped target cause ∷ ms) s none = no-done-passes test ms (after_mark (marks.Dropped target cause) s) none.1
no-done-passes test (marks.Timer queue silent ∷ ms) s none = no-done-passes test ms (after_mark (marks.Timer queue silent) s) none.1
no-done-passes test (marks.Granted g ∷ ms) s none = no-done-passes test ms (after_mark (marks.Granted g) s) none.1
no-done-passes test (marks.Revoked adapter key ∷ ms) s none = no-done-passes test ms (after_mark (marks.Revoked adapter key) s) none.1
no-done-passes test (marks.Remote queue domain envelope key kind address count verdict ∷ ms) s none = no-done-passes test ms (after_mark (marks.Remote queue domain envelope key kind address count verdict) s) none.1
no-done-passes test (marks.Local queue domain key kind address count verdict ∷ ms) s none = no-done-passes test ms (after_mark (marks.Local queue domain key kind address count verdict) s) none.1
no-done-passes test (marks.Stored place bytes ∷ ms) s none = no-done-passes test ms (after_mark (marks.Stored place bytes) s) none.1

-- what stands in a slot is in Error
abbrev in_error : QueueSlot → Bool
in_error (NoQueue incarnation timers) = false
in_error (Present q) = state_eq q.state states.Error

-- a packet that arrives there completes nothing
abbrev IsQuiet : QueuePair → Effects → Type 0
IsQuiet q e = state_eq q.state states.Error ≡ true → AllByRecursion IsNoDone e.marks

error-drops : (q : QueuePair) (p : Fields) → state_eq q.state states.Error ≡ true → is_some (first_of (arrival_drops q p)) ≡ true
error-drops q p is = by (p.pkey == DEFAULT_PKEY) (p.queue == q.queue.number) q.state is
  where
    by : (a b : Bool) (s : State) → state_eq s states.Error ≡ true → is_some (first_of ((not a, drops.Partition) ∷ (not b, drops.Queue) ∷ (not (is_among (states.Rtr ∷ states.Rts ∷ states.Sqd ∷ []) s), drops.State) ∷ [])) ≡ true
    by false b s is = refl
    by true false s is = refl
    by true true states.Error is = refl
    by true true states.Reset is = refl
    by true true states.Init is = refl
    by true true states.Rtr is = absurd (true≢false (sym is))
    by true true states.Rts is = absurd (true≢false (sym is))
    by true true states.Sqd is = absurd (true≢false (sym is))

error-quiet : (bytes : List ℕ) (envelope : Option ℕ) (shared : Option SharedReceives) (q : QueuePair) → state_eq q.state states.Error ≡ true → RowSuch (IsQuiet q) (arrival_row bytes envelope shared q)
error-quiet bytes envelope shared q is = by (packet_in bytes)
  where
    quiet : (cause : Drop1) → RowSuch (IsQuiet q) (plain_row (Does (drop_effects q cause)))
    quiet cause = plainly (IsQuiet q) (drop_effects q cause) (λ e. (record {}, record {}))

    unless : Fields → Option Drop1 → Row
    unless p (Some cause) = plain_row (Does (drop_effects q cause))
    unless p None = packet_arrived p envelope shared q

    row : Result Fields WireError → Row
    row (Err error) = plain_row (Does (drop_effects q (drops.Wire error)))
    row (Ok p) = unless p (first_of (arrival_drops q p))

    dropped : (p : Fields) (o : Option Drop1) → is_some o ≡ true → RowSuch (IsQuiet q) (unless p o)
    dropped p (Some cause) some = quiet cause
    dropped p None some = absurd (true≢false (sym some))

    by : (r : Result Fields WireError) → RowSuch (IsQuiet q) (row r)
    by (Err error) = quiet (drops.Wire error)
    by (Ok p) = dropped p (first_of (arrival_drops q p)) (error-drops q p is)

arrival-quiet : (bytes : List ℕ) (envelope : Option ℕ) (shared : Option SharedReceives) (q : QueuePair) → RowSuch (IsQuiet q) (arrival_row bytes envelope shared q)
arrival-quiet bytes envelope shared q = by (state_eq q.state states.Error) refl
  where
    by : (b : Bool) → state_eq q.state states.Error ≡ b → RowSuch (IsQuiet q) (arrival_row bytes envelope shared q)
    by true is = error-quiet bytes envelope shared q is
    by false no_error = such-weaker (IsInner q) (IsQuiet q) (arrival_row bytes envelope shared q) (λ e inner is. absurd (true≢false (sym is ∙ no_error))) (such-does (IsInner q) _ (arrival-inner bytes envelope shared q))

delivery-quiet : (c : Configuration) (w : World) (name : QueueId) (index : ℕ) → IsSoundWorld c w → Comes (λ v ms. in_error (w.queue name) ≡ true → AllByRecursion IsNoDone ms) (step c w (events.Deliver name index))
delivery-quiet c w name index sound = comes w (λ v ms. in_error (w.queue name) ≡ true → AllByRecursion IsNoDone ms) (plan c (events.Deliver name index))
    (leads-delivery c w (λ v ms. in_error (w.queue name) ≡ true → AllByRecursion IsNoDone ms) (λ bytes q e. IsQuiet q e) name index sound
    (λ q bytes shared there lent. arrival-quiet bytes (Some index) shared q) (λ q bytes e v there lent quiet has error. (record {}, quiet (ap in_error (sym there.is) ∙ error))))

-- ---- the queue pair to which an answer is delivered

-- it has named its peer
record HasPaired (d : Direction) (s r : Correspondent) (slot : QueueSlot) : Type 0 where
  queue : QueuePair
  paired : IsPaired d s r slot queue

paired-of : (c : Configuration) (d : Direction) (past : Past) (w : World) (name : QueueId) (r : Correspondent) (index : ℕ) (bytes : List ℕ) (x : Requester) (y : List (Option Response)) → Stands c past w → IsLent index (w.mailbox name) bytes
    → SenderTie d (present_incarnation past name) r (w.queue name) (w.mailbox name) x y → HasPaired d (present_incarnation past name) r (w.queue name)
paired-of c d past w name r index bytes x y stands lent tie = by tie
  where
    some : peer_in (w.queue name) ≡ None → ⊥
    some none = none-at (w.mailbox name).envelopes (later_than index (w.mailbox name)) lent.envelope (stands.empty.mail name none) lent.at

    gone_slot : (slot : QueueSlot) → is_present slot ≡ false → peer_in slot ≡ None
    gone_slot (NoQueue incarnation timers) none = refl
    gone_slot (Present q) none = absurd (true≢false none)

    by : SenderTie d (present_incarnation past name) r (w.queue name) (w.mailbox name) x y → HasPaired d (present_incarnation past name) r (w.queue name)
    by (sender_before (sooner less) same none) = absurd (omega (arith, less, stands.paths.incarnations name))
    by (sender_before (unnamed t is own nobody) same none) = absurd (some (ap peer_in is ∙ nobody))
    by (sender_gone (later more) none) = absurd (omega (arith, more, stands.paths.incarnations name))
    by (sender_gone (vacant none same) silent) = absurd (some (gone_slot (w.queue name) none))
    by (sender_standing t own stood entries) = record { queue = t; paired = own }

-- ---- what the past tells of it

-- the first that passes a test passes another, where all that pass do
found-passes : {A : Type 0} (test pass : A → Bool) (xs : List A) (x : A) → find test xs ≡ Some x → list_all (λ x. not (test x) || pass x) xs ≡ true → pass x ≡ true
found-passes test pass [] x is all = absurd (true≢false (sym (ap is_some is)))
found-passes test pass (y ∷ ys) x is all = by (λ is all. found-passes test pass ys x is all) (test y) is all
  where
    by : (find test ys ≡ Some x → list_all (λ x. not (test x) || pass x) ys ≡ true → pass x ≡ true) → (b : Bool) → (if b then Some y else find test ys) ≡ Some x → ((not b || pass y) && list_all (λ x. not (test x) || pass x) ys) ≡ true → pass x ≡ true
    by rest true is all = ap pass (sym (same_Some y x is)) ∙ (and_parts (pass y) _ all).0
    by rest false is all = rest is all

-- a connection is clean in one past as in the other, of the same namings, beginnings and injections
clean-same : (p s : Past) (own : Correspondent) → s.namings ≡ p.namings → s.starts ≡ p.starts → s.injected ≡ p.injected → is_clean s own ≡ is_clean p own
clean-same p s own namings starts injected =
    ap (λ n. is_clean (record p { namings = n; starts = s.starts; injected = s.injected }) own) namings
    ∙ ap (λ z. is_clean (record p { starts = z; injected = s.injected }) own) starts
    ∙ ap (λ z. is_clean (record p { injected = z }) own) injected

-- what makes a misfit
record IsMisfit (s : Past) (x : Completion) (t : Told) (p : Posted) : Type 0 where
  answer : is_answer t.response ≡ true
  misfits : not (is_fitting_answer s x.queue p t) ≡ true

misfit-parts : (s : Past) (x : Completion) (t : Told) (p : Posted) → told_at_hand s x ≡ Some t → posted_at s x.queue x.place ≡ Some p → is_misfit s x ≡ true → IsMisfit s x t p
misfit-parts s x t p told posted misfit = record { answer = parts.0; misfits = parts.1 }
  where
    behind : (Told → Bool) → Option Told → Bool
    behind f o = option_map_or f o false

    whole : option_map_or (λ (t : Told). is_answer t.response && option_map_or (λ (p : Posted). not (is_fitting_answer s x.queue p t)) (posted_at s x.queue x.place) false) (told_at_hand s x) false ≡ true
    whole = (and_parts (not x.receive) _ misfit).1

    one : (is_answer t.response && option_map_or (λ (p : Posted). not (is_fitting_answer s x.queue p t)) (posted_at s x.queue x.place) false) ≡ true
    one = sym (ap (λ o. option_map_or (λ (t : Told). is_answer t.response && option_map_or (λ (p : Posted). not (is_fitting_answer s x.queue p t)) (posted_at s x.queue x.place) false) o false) told) ∙ whole

    parts : (is_answer t.response ≡ true) × (not (is_fitting_answer s x.queue p t) ≡ true)
    parts = and_parts (is_answer t.response) _ (sym (ap (λ o. is_answer t.response && option_map_or (λ (p : Posted). not (is_fitting_answer s x.queue p t)) o false) posted) ∙ one)

-- ---- no misfit

module _ (c : Configuration) (past : Past) (w : World) (stands : Stands c past w) (causes : CausesAgree past w) (begun : StartsAgree past w) (ready : AreReady past w) where
  misfit-not : (name : QueueId) (index : ℕ) (s : Past) (x : Completion) (t : Told) → IsDelivered past w name index s x t → in_error (w.queue name) ≡ false → told_at_hand s x ≡ Some t → is_misfit s x ≡ true
      → is_clean s (present_incarnation s x.queue) ≡ true → ⊥
  misfit-not name index s x t d well tells misfit clean = true≢false (sym parts.misfits ∙ ap not fits)
    where
      me : Correspondent
      me = present_incarnation past name

      own_same : present_incarnation s x.queue ≡ me
      own_same = ap (present_incarnation s) d.own ∙ ap (λ (f : QueueId → ℕ). life name (f name)) d.behind.incarnation

      ends : EndOf past me
      ends = end-of past me (sym (clean-same past s me d.behind.namings d.behind.starts d.behind.injected) ∙ ap (is_clean s) (sym own_same) ∙ clean)

      a : Naming
      a = ends.a

      b : Naming
      b = ends.b

      r : IsReady past w a b
      r = ready a b ends.a_in ends.b_in ends.clean

      dir : Direction
      dir = direction_of past a b

      l : Link
      l = r.link

      tied : IsTied dir me b.own w l
      tied = subst (λ o. IsTied dir o b.own w l) ends.own_is r.tied

      all_fit : ReadsFit dir me b.own w
      all_fit = subst (λ o. ReadsFit dir o b.own w) ends.own_is r.fits

      lent : IsLent index (w.mailbox name) d.bytes
      lent = lent-envelope index (w.mailbox name) d.bytes d.lent

      decodes : packet_in lent.envelope.bytes ≡ Ok t.packet
      decodes = ap packet_in lent.brings ∙ d.decodes

      has : HasPaired dir me b.own (w.queue name)
      has = paired-of c dir past w name b.own index d.bytes l.requester l.responses stands lent tied.sender

      q : QueuePair
      q = has.queue

      up : IsUp dir me b.own (w.queue name) q
      up = record { paired = has.paired; well = ap in_error (sym has.paired.present) ∙ well }

      near : IsNear dir l (una_of dir q) (later_than index (w.mailbox name)) t.packet
      near = near-of c dir me b.own w l q (later_than index (w.mailbox name)) lent.envelope t.packet stands.sound stands.empty tied up lent.at decodes d.told.response

      posted_same : s.posted (present_incarnation s x.queue) ≡ past.posted me
      posted_same = ap s.posted own_same ∙ ap (λ (f : Correspondent → List Posted). f me) d.behind.posted

      posted : Posted
      posted = d.told.posted

      posted_is : slice_get (past.posted me) x.place ≡ Some posted
      posted_is = ap (λ ps. slice_get ps x.place) (sym posted_same) ∙ d.told.is

      agreed : AgreeOnStart (start_in past.starts me) (past.posted me) q
      agreed = subst (StartsInSlot (start_in past.starts me) (past.posted me)) has.paired.present (begun name)

      sending : (is_sending q.state ≡ true) × (is_connected q.state ≡ true)
      sending = by q.state refl
        where
          idle : is_idle q.state ≡ true → ⊥
          idle = named-up dir me b.own w q stands.empty has.paired

          by : (z : State) → q.state ≡ z → (is_sending q.state ≡ true) × (is_connected q.state ≡ true)
          by states.Reset e = absurd (idle (ap is_idle e))
          by states.Init e = absurd (idle (ap is_idle e))
          by states.Rtr e = absurd (none-at (past.posted me) x.place posted (agreed.fresh (ap is_fresh e)) posted_is)
          by states.Rts e = (ap is_sending e, ap is_connected e)
          by states.Sqd e = (ap is_sending e, ap is_connected e)
          by states.Error e = absurd (true≢false (sym (ap (λ z. state_eq z states.Error) e) ∙ up.well))

      explained : IsExplained (queue_past past name) q
      explained = subst (ExplainedInSlot (queue_past past name)) has.paired.present (causes.slots name)

      followed : IsFollowed (queue_past past name) q
      followed = explained.sends sending.0

      una : una_of dir q ≡ q.requester.una
      una = ap (λ z. if z then q.requester.una else start dir) sending.0

      una_same : (s.progress (present_incarnation s x.queue)).una ≡ q.requester.una
      una_same = ap (λ o. (s.progress o).una) own_same ∙ ap (λ (f : Correspondent → Progress). (f me).una) d.behind.progress ∙ sym followed.una

      mtu_same : mtu_of s x.queue ≡ dir.mtu
      mtu_same = ap (mtu_of s) d.own ∙ ap (λ (f : QueueId → Option Naming). option_map_or (λ (n : Naming). n.mtu) (f name) 0) d.behind.naming ∙ explained.mtu sending.1 ∙ has.paired.mtu

      work : (k : ℕ) → dir.work k ≡ work_posted (slice_get (past.posted me) k)
      work k = ap (λ o. work_posted (slice_get (past.posted o) k)) ends.own_is

      work_is : dir.work x.place ≡ work_of posted.request.op
      work_is = work x.place ∙ ap work_posted posted_is

      begins : d.told.start.psn ≡ b.psn
      begins = eqb-true d.told.start.psn b.psn
          (found-passes (λ (z : Start). correspondent_eq z.own a.own) (λ (z : Start). z.psn == b.psn) past.starts d.told.start
          (ap (λ o. find (λ (z : Start). correspondent_eq z.own o) past.starts) (ends.own_is ∙ sym own_same) ∙ ap (find (λ (z : Start). correspondent_eq z.own (present_incarnation s x.queue))) (sym d.behind.starts) ∙ d.told.begins)
          r.con.begins)

      before : ℕ
      before = sum_by (λ (p : Posted). psns_of (mtu_of s x.queue) p.request.op) (take x.place (s.posted (present_incarnation s x.queue)))

      first_is : first dir x.place ≡ whole_start d.told.start + before
      first_is = omega (
        arith,
        first-posted dir (past.posted me) work x.place,
        ap₂ (λ m ps. sum_by (λ (p : Posted). psns_of m p.request.op) (take x.place ps)) mtu_same posted_same,
        begins,
      )

      number : ℕ
      number = number_of near.response

      psn : widened (s.progress (present_incarnation s x.queue)).una t.packet.psn ≡ number
      psn = ap (λ u. widened u t.packet.psn) (una_same ∙ sym una) ∙ near.exact

      count : psns dir.mtu (dir.work x.place) ≡ psns_of (mtu_of s x.queue) posted.request.op
      count = ap (psns dir.mtu) work_is ∙ sym (psns-of-work dir.mtu posted.request.op) ∙ ap (λ m. psns_of m posted.request.op) (sym mtu_same)

      has_number : HasNumber dir x.place number
      has_number = record { from = omega (arith, d.told.low, psn, first_is); below = omega (arith, d.told.high, psn, first_is, count) }

      fit : FitsBytes dir (una_of dir q) lent.envelope.bytes
      fit = all_fit q up (later_than index (w.mailbox name)) lent.envelope lent.at

      read : answers_read t.packet.opcode ≡ true → FitsRead dir x.place number t.packet
      read reads = subst (λ n. FitsRead dir x.place n t.packet) near.exact (fit t.packet decodes reads x.place (subst (HasNumber dir x.place) (sym near.exact) has_number))

      parts : IsMisfit s x t posted
      parts = misfit-parts s x t posted tells d.told.is misfit

      fits : is_fitting_answer s x.queue posted t ≡ true
      fits = answer-fits dir (mtu_of s x.queue) x.place t.index posted.request.op t.packet near.response t.response (record {
        says = near.entry.says;
        fits = law-fits dir l (later_than index (w.mailbox name)) x.place near.response tied.reached near.is has_number;
        work = work_is;
        mtu_is = mtu_same;
        some = mtu-some dir l tied.reached;
        number = has_number;
        index_is = omega (arith, d.told.index, psn, first_is);
        read = read;
      }) d.told.says parts.answer

  -- ---- an entry

  untold : (s : Past) (x : Completion) (cause : Option OpRefusal) (status : WcStatus) → told_at_hand s x ≡ None → has_own_cause s x cause status ≡ true → has_misfit_unclean s x status ≡ true
  untold s x cause statuses.BadResponse none own = absurd (true≢false (sym (and_parts (not x.receive) _ own).1
      ∙ ap (λ o. option_map_or (λ (t : Told). is_answer t.response && option_map_or (λ (p : Posted). not (is_fitting_answer s x.queue p t)) (posted_at s x.queue x.place) false) o false) none))
  untold s x cause statuses.Success none own = refl
  untold s x cause statuses.LocalLength none own = refl
  untold s x cause statuses.LocalProtection none own = refl
  untold s x cause statuses.MemoryManagement none own = refl
  untold s x cause statuses.RemoteInvalidRequest none own = refl
  untold s x cause statuses.RemoteAccess none own = refl
  untold s x cause statuses.RemoteOperation none own = refl
  untold s x cause statuses.RetryExceeded none own = refl
  untold s x cause statuses.RnrRetryExceeded none own = refl
  untold s x cause statuses.Flushed none own = refl

  unclean : (s : Past) (x : Completion) (status : WcStatus) → is_clean s (present_incarnation s x.queue) ≡ false → has_misfit_unclean s x status ≡ true
  unclean s x statuses.BadResponse none = ap not none
  unclean s x statuses.Success none = refl
  unclean s x statuses.LocalLength none = refl
  unclean s x statuses.LocalProtection none = refl
  unclean s x statuses.MemoryManagement none = refl
  unclean s x statuses.RemoteInvalidRequest none = refl
  unclean s x statuses.RemoteAccess none = refl
  unclean s x statuses.RemoteOperation none = refl
  unclean s x statuses.RetryExceeded none = refl
  unclean s x statuses.RnrRetryExceeded none = refl
  unclean s x statuses.Flushed none = refl

  delivered : (name : QueueId) (index : ℕ) (s : Past) (x : Completion) (cause : Option OpRefusal) (t : Told) (status : WcStatus) → in_error (w.queue name) ≡ false → IsDelivered past w name index s x t → told_at_hand s x ≡ Some t
      → has_own_cause s x cause status ≡ true → has_misfit_unclean s x status ≡ true
  delivered name index s x cause t statuses.BadResponse well d is own = by (is_clean s (present_incarnation s x.queue)) refl
    where
      by : (z : Bool) → is_clean s (present_incarnation s x.queue) ≡ z → not z ≡ true
      by true clean = absurd (misfit-not name index s x t d well is own clean)
      by false none = refl
  delivered name index s x cause t statuses.Success well d is own = refl
  delivered name index s x cause t statuses.LocalLength well d is own = refl
  delivered name index s x cause t statuses.LocalProtection well d is own = refl
  delivered name index s x cause t statuses.MemoryManagement well d is own = refl
  delivered name index s x cause t statuses.RemoteInvalidRequest well d is own = refl
  delivered name index s x cause t statuses.RemoteAccess well d is own = refl
  delivered name index s x cause t statuses.RemoteOperation well d is own = refl
  delivered name index s x cause t statuses.RetryExceeded well d is own = refl
  delivered name index s x cause t statuses.RnrRetryExceeded well d is own = refl
  delivered name index s x cause t statuses.Flushed well d is own = refl

  -- the event delivers a packet to a queue pair in Error
  abbrev is_closed : Event → Bool
  is_closed (events.Deliver name index) = in_error (w.queue name)
  is_closed event = false

  closed-passes : (event : Event) (ms : List Mark) (v : World) → step c w event ≡ Did v ms → is_closed event ≡ true → each_mark (completes_so has_misfit_unclean) (at_begin event past) ms ≡ true
  closed-passes (events.Deliver name index) ms v comes closed = no-done-passes has_misfit_unclean ms (at_begin (events.Deliver name index) past)
      (subst (Comes (λ v ms. in_error (w.queue name) ≡ true → AllByRecursion IsNoDone ms)) comes (delivery-quiet c w name index stands.sound) closed)
  closed-passes (events.Verb by verb) ms v comes closed = absurd (true≢false (sym closed))
  closed-passes (events.Request name lot) ms v comes closed = absurd (true≢false (sym closed))
  closed-passes (events.Respond name lot) ms v comes closed = absurd (true≢false (sym closed))
  closed-passes (events.Timeout name hasten) ms v comes closed = absurd (true≢false (sym closed))
  closed-passes (events.RnrWake name) ms v comes closed = absurd (true≢false (sym closed))

  entry-misfits : (event : Event) (ms : List Mark) (v : World) → Steps c past w event ms v → each_mark completes_with_cause (at_begin event past) ms ≡ true → each_mark (completes_so has_misfit_unclean) (at_begin event past) ms ≡ true
  entry-misfits event ms v steps own = by (is_closed event) refl
    where
      by : (z : Bool) → is_closed event ≡ z → each_mark (completes_so has_misfit_unclean) (at_begin event past) ms ≡ true
      by true closed = closed-passes event ms v steps.comes closed
      by false is_open = entry-passes c past w event ms v stands steps has_misfit_unclean (λ s x cause none has. untold s x cause x.status none has) (λ s x none. unclean s x x.status none)
          (λ name index is s x cause t d told has. delivered name index s x cause t x.status (ap is_closed (sym is) ∙ is_open) d told has) own

-- ---- a history

misfits-along : (c : Configuration) (bytes : ByteMap) (es fs : List EntryValue) (past : Past) (w : World) → AreLimited c → AllByRecursion (λ e. CanBeMade e.event) (es ++ fs) → Follows c bytes (es ++ fs)
    → past ≡ after_entries es (opening_past bytes) → Reaches c (opening_past bytes) (opening_world bytes) es w → Walk c past w fs → CausesAgree past w → StartsAgree past w
    → each_entry completes_with_cause (λ p. true) past fs ≡ true → each_entry (completes_so has_misfit_unclean) (λ p. true) past fs ≡ true
misfits-along c bytes es [] past w limited made follows is reaches walk causes begun own = refl
misfits-along c bytes es (e ∷ fs) past w limited made follows is reaches walk causes begun own = both-true _ _
    (both-true (each_mark (completes_so has_misfit_unclean) (at_begin e.event past) e.marks) true
    (entry-misfits c past w walk.0 causes begun (subst (λ p. AreReady p w) (sym is) (ready-at c bytes es (e ∷ fs) w limited made follows reaches)) e.event e.marks v steps (first-entry completes_with_cause past e fs own).0) refl)
    (misfits-along c bytes (es ++ (e ∷ [])) fs (after_entry e past) v limited (subst (AllByRecursion (λ (e : EntryValue). CanBeMade e.event)) (sym (append-one es e fs)) made) (subst (Follows c bytes) (sym (append-one es e fs)) follows)
    (ap (after_entry e) is ∙ sym (entries-more es e (opening_past bytes)))
    (reaches-more c es e (opening_past bytes) (opening_world bytes) w v reaches (subst (λ p. Stands c p w) is walk.0) (subst (λ p. Steps c p w e.event e.marks v) is steps)) walk.1.2
    (subst (Comes (λ v ms. CausesAgree (at_end (after_marks ms (at_begin e.event past))) v)) steps.comes (event-causes-agree c past w e.event walk.0.sound walk.0.steady walk.0.posts walk.0.paths causes))
    (subst (Comes (λ v ms. StartsAgree (after_marks ms (at_begin e.event past)) v)) steps.comes (event-starts-agree c past w e.event walk.0.sound walk.0.steady walk.0.posts begun))
    (first-entry completes_with_cause past e fs own).1)
  where
    v : World
    v = walk.1.0

    steps : Steps c past w e.event e.marks v
    steps = walk.1.1

-- on a clean connection of a history no answer misfits
pub answers-fit : (c : Configuration) (bytes : ByteMap) (es : List EntryValue) → AreLimited c → AllByRecursion (λ e. CanBeMade e.event) es → Follows c bytes es → DoCompleteSo has_misfit_unclean bytes es
answers-fit c bytes es limited made follows = misfits-along c bytes [] es (opening_past bytes) (opening_world bytes) limited made follows refl refl (walk-along c bytes es limited made follows)
    (opening-causes-agree bytes) (opening-starts-agree bytes) (complete-with-causes c bytes es limited made follows)
