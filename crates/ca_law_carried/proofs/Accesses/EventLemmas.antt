-- Every event keeps the agreement on accesses, and each remote access of a history is asked for. For proofs only.
use Rattle.std.proofs.Common.{Bool, Err, List, Ok, [], ap, false, map, refl, rules, subst, suc, true, true≢false, ℕ, ◌&&◌, ◌∷◌, ◌≡◌}
use Rattle.std.proofs.lemmas.Bool.{and_parts}
use Rattle.std.specs.List.{AllByRecursion}
use Rattle.ca_law_endings.proofs.EventFitLemmas.{first-marks}
use Rattle.ca_law_endings.proofs.LeadsLemmas.{comes}
use Rattle.ca_law_endings.proofs.PathEventLemmas.{event-agrees, opening-agrees}
use Rattle.ca_law_endings.proofs.PathVerbLemmas.{call_of}
use Rattle.ca_law_endings.specs.Agreement.{HoldsAlong, PathsAgree}
use Rattle.ca_law_endings.specs.Runs.{Comes, Leads}
use Rattle.ca_law_carried.proofs.Accesses.ArrivalLemmas.{right-deliver, right-inject}
use Rattle.ca_law_carried.proofs.Accesses.CarryLemmas.{is_accessed}
use Rattle.ca_law_carried.proofs.Accesses.ChangeLemmas.{right-create, right-destroy, right-modify}
use Rattle.ca_law_carried.proofs.Accesses.TurnLemmas.{IsMet, Right, right-request, right-respond, right-timeout, right-wake}
use Rattle.ca_law_carried.proofs.Accesses.VerbLemmas.{RightBy, right-alloc_mr, right-dealloc_mw, right-dereg_mr, right-poll, right-post_recv, right-post_send, right-reg_mr}
use Rattle.ca_law_carried.specs.Accesses.{AccessesAgree, IsEndedWorld}
use Rattle.ca_law_carried.specs.Asked.{AreCarriedAccesses, HaveTheirPackets, HaveTheirRequests, has_its_packet, has_its_request, is_carried_remote}
use Rattle.ca_law_keys.proofs.Keys.ToldLemmas.{ended}
use Rattle.ca_base.specs.Configuration.{Configuration}
use Rattle.ca_base.specs.objects.Slices.{has_slot}
use Rattle.ca_law_keys.proofs.Judged.JudgeLemmas.{both-true}
use Rattle.ca_keys.specs.Memory.{ByteMap}
use Rattle.ca_law_world.proofs.Sound.SoundLemmas.{event-sound, opening-sound}
use Rattle.ca_law_world.proofs.Windows.WindowEventLemmas.{event-bound, opening-bound}
use Rattle.ca_law_world.specs.Bindings.{IsBoundWorld}
use Rattle.ca_model.specs.Entries.{EntryValue}
use Rattle.ca_model.specs.Past.{Past, after_entry, after_mark, after_marks, at_begin, each_entry, each_mark, opening_past}
use Rattle.ca_model.specs.declared.answer.Refusal.TheVariants.{NoSuch}
use Rattle.ca_model.specs.declared.event.Event.{Event}
use Rattle.ca_model.specs.declared.mark.Mark.{Mark}
use Rattle.ca_model.specs.declared.verb.Verb.{Verb}
use Rattle.ca_model.specs.machine.Frame.{Afterwards}
use Rattle.ca_model.specs.machine.Plan.{Did, NotReady, Outcome}
use Rattle.ca_model.specs.machine.Run.{Follows, Ran, go_on, run_from}
use Rattle.ca_model.specs.machine.Sound.{AreLimited, CanBeMade, IsSoundWorld}
use Rattle.ca_model.specs.machine.Step.{has_buffer, is_named, plan, step, verb_plan}
use Rattle.ca_model.specs.machine.VerbAnswers.{Refuse_plan}
use Rattle.ca_model.specs.machine.World.{World, opening_world}
use Rattle.ca_wire.specs.Packet.{follows}
use Rattle.ca_model.specs.declared.event.Event.TheVariants as events
use Rattle.ca_keys.specs.declared.access.Kind.TheVariants as kinds
use Rattle.ca_model.specs.declared.mark.Mark.TheVariants as marks
use Rattle.ca_keys.specs.Spelling.{rights_text as rights}
use Rattle.ca_model.specs.declared.verb.Verb.TheVariants as verbs

right-verb : (c : Configuration) (past : Past) (w : World) (by : ℕ) (verb : Verb) → IsMet c past w → is_named c verb ≡ true → Leads w (RightBy past by verb) (verb_plan c (call_of by verb) verb)
right-verb c past w by (verbs.AllocPd domain) met named = search (rules, met.agree, met.ended)
right-verb c past w by (verbs.DeallocPd domain) met named = search (rules, met.agree, met.ended)
right-verb c past w by (verbs.RegMr slot buffer offset count rights) met named = right-reg_mr c past w by slot buffer offset count rights met
    (and_parts (has_slot c (λ a. a.regions) slot) (has_buffer c slot.domain.adapter buffer) named).1
right-verb c past w by (verbs.AllocMr slot pages) met named = right-alloc_mr c past w by slot pages met
right-verb c past w by (verbs.DeregMr slot) met named = right-dereg_mr c past w by slot met
right-verb c past w by (verbs.AllocMw slot kind) met named = search (rules, met.agree, met.ended)
right-verb c past w by (verbs.DeallocMw slot) met named = right-dealloc_mw c past w by slot met
right-verb c past w by (verbs.CreateCq slot capacity) met named = search (rules, met.agree, met.ended)
right-verb c past w by (verbs.DestroyCq slot) met named = search (rules, met.agree, met.ended)
right-verb c past w by (verbs.CreateSrq slot depth) met named = search (rules, met.agree, met.ended)
right-verb c past w by (verbs.DestroySrq slot) met named = search (rules, met.agree, met.ended)
right-verb c past w by (verbs.CreateQp slot send_cq recv_cq send_depth recv_depth srq) met named = right-create c past w by (record {
  slot = slot;
  send_cq = send_cq;
  recv_cq = recv_cq;
  send_depth = send_depth;
  recv_depth = recv_depth;
  srq = srq;
}) met
right-verb c past w by (verbs.ModifyQp slot change) met named = right-modify c past w by slot change met
right-verb c past w by (verbs.QueryQp slot) met named = search (rules, met.agree, met.ended)
right-verb c past w by (verbs.DestroyQp slot) met named = right-destroy c past w by slot met
right-verb c past w by (verbs.PostSend slot request) met named = right-post_send c past w by slot request met
right-verb c past w by (verbs.PostRecv slot request) met named = right-post_recv c past w by slot request met
right-verb c past w by (verbs.PostSrq slot request) met named = search (rules, met.agree, met.ended)
right-verb c past w by (verbs.Poll slot n least) met named = right-poll c past w by slot n least met
right-verb c past w by (verbs.Store adapter buffer offset bytes) met named = search (rules, met.agree, met.ended)
right-verb c past w by (verbs.Load adapter buffer offset count) met named = search (rules, met.agree, met.ended)
right-verb c past w by (verbs.Inject queue bytes) met named = right-inject c past w by queue bytes met

right-event : (c : Configuration) (past : Past) (w : World) (event : Event) → IsMet c past w → Leads w (Right past event) (plan c event)
right-event c past w (events.Verb by verb) met = (λ named. right-verb c past w by verb met named, λ none. refused verb)
  where
    -- a verb that is refused tells of no access
    refused : (verb : Verb) → Leads w (RightBy past by verb) (Refuse_plan (call_of by verb) NoSuch)
    refused (verbs.AllocPd domain) = (refl, (met.agree, met.ended))
    refused (verbs.DeallocPd domain) = (refl, (met.agree, met.ended))
    refused (verbs.RegMr slot buffer offset count rights) = (refl, (met.agree, met.ended))
    refused (verbs.AllocMr slot pages) = (refl, (met.agree, met.ended))
    refused (verbs.DeregMr slot) = (refl, (met.agree, met.ended))
    refused (verbs.AllocMw slot kind) = (refl, (met.agree, met.ended))
    refused (verbs.DeallocMw slot) = (refl, (met.agree, met.ended))
    refused (verbs.CreateCq slot capacity) = (refl, (met.agree, met.ended))
    refused (verbs.DestroyCq slot) = (refl, (met.agree, met.ended))
    refused (verbs.CreateSrq slot depth) = (refl, (met.agree, met.ended))
    refused (verbs.DestroySrq slot) = (refl, (met.agree, met.ended))
    refused (verbs.CreateQp slot send_cq recv_cq send_depth recv_depth srq) = (refl, (met.agree, met.ended))
    refused (verbs.ModifyQp slot change) = (refl, (met.agree, met.ended))
    refused (verbs.QueryQp slot) = (refl, (met.agree, met.ended))
    refused (verbs.DestroyQp slot) = (refl, (met.agree, met.ended))
    refused (verbs.PostSend slot request) = (refl, (met.agree, met.ended))
    refused (verbs.PostRecv slot request) = (refl, (met.agree, met.ended))
    refused (verbs.PostSrq slot request) = (refl, (met.agree, met.ended))
    refused (verbs.Poll slot n least) = (refl, (met.agree, met.ended))
    refused (verbs.Store adapter buffer offset bytes) = (refl, (met.agree, met.ended))
    refused (verbs.Load adapter buffer offset count) = (refl, (met.agree, met.ended))
    refused (verbs.Inject queue bytes) = (refl, (met.agree, met.ended))
right-event c past w (events.Request queue lot) met = right-request c past (events.Request queue lot) w queue lot met
right-event c past w (events.Respond queue lot) met = right-respond c past w queue lot met
right-event c past w (events.Deliver queue index) met = right-deliver c past (events.Deliver queue index) w queue index met
right-event c past w (events.Timeout queue hasten) met = right-timeout c past (events.Timeout queue hasten) w queue hasten met
right-event c past w (events.RnrWake queue) met = right-wake c past (events.RnrWake queue) w queue met

event-right : (c : Configuration) (past : Past) (w : World) (event : Event) → IsMet c past w → Comes (Right past event) (step c w event)
event-right c past w event met = comes w (Right past event) (plan c event) (right-event c past w event met)

comes-weaker : (P Q : World → List Mark → Type 0) (o : Outcome) → ((v : World) (ms : List Mark) → P v ms → Q v ms) → Comes P o → Comes Q o
comes-weaker P Q (NotReady reason) follows all = record {}
comes-weaker P Q (Did v ms) follows all = follows v ms all

-- the event's marks leave a past that agrees with the world that it leaves
pub event-accesses-agree : (c : Configuration) (past : Past) (w : World) (event : Event) → AreLimited c → IsSoundWorld c w → IsBoundWorld w → IsEndedWorld w → PathsAgree past w → AccessesAgree past w
    → Comes (λ v ms. AccessesAgree (after_marks ms (at_begin event past)) v × IsEndedWorld v) (step c w event)
event-accesses-agree c past w event limited sound bound ended paths agree = comes-weaker (Right past event) (λ v ms. AccessesAgree (after_marks ms (at_begin event past)) v × IsEndedWorld v) (step c w event) (λ v ms right. right.1)
    (event-right c past w event (record { limited = limited; sound = sound; bound = bound; ended = ended; paths = paths; agree = agree }))

pub opening-accesses-agree : (bytes : ByteMap) → AccessesAgree (opening_past bytes) (opening_world bytes) × IsEndedWorld (opening_world bytes)
opening-accesses-agree bytes = (λ q. record {}, λ s. record {})

-- ---- histories

-- the agreement along a history, and each access in it
along : (c : Configuration) (n : ℕ) (es : List EntryValue) (past : Past) (w : World) → AllByRecursion (λ e. CanBeMade e.event) es → IsMet c past w
    → run_from c n w (map (λ e. e.event) es) ≡ Ok (map (λ e. e.marks) es) → HoldsAlong AccessesAgree c past w es × (each_entry is_accessed (λ p. true) past es ≡ true)
along c n [] past w made met follows = (met.agree, refl)
along c n (e ∷ es) past w made met follows = behind (by (step c w e.event) (event-right c past w e.event met) (event-agrees c past w e.event met.sound met.paths) (event-sound c e.event w met.limited met.sound made.0) (event-bound c e.event w met.sound met.bound) follows
    (λ v next told. along c (suc n) es (after_entry e past) v made.1 next told))
  where
    Along : Type 0
    Along = Afterwards (λ v. HoldsAlong AccessesAgree c (after_entry e past) v es) (step c w e.event) × (each_entry is_accessed (λ p. true) past (e ∷ es) ≡ true)

    behind : Along → HoldsAlong AccessesAgree c past w (e ∷ es) × (each_entry is_accessed (λ p. true) past (e ∷ es) ≡ true)
    behind whole = ((met.agree, whole.0), whole.1)

    Rest : Type 0
    Rest = (v : World) → IsMet c (after_entry e past) v → run_from c (suc n) v (map (λ e. e.event) es) ≡ Ok (map (λ e. e.marks) es)
        → HoldsAlong AccessesAgree c (after_entry e past) v es × (each_entry is_accessed (λ p. true) (after_entry e past) es ≡ true)

    stopped : Ran → Bool
    stopped (Ok told) = false
    stopped (Err stop) = true

    by : (o : Outcome) → Comes (Right past e.event) o → Comes (λ v ms. PathsAgree (after_marks ms (at_begin e.event past)) v) o → Afterwards (IsSoundWorld c) o → Afterwards IsBoundWorld o
        → go_on n o (λ v. run_from c (suc n) v (map (λ e. e.event) es)) ≡ Ok (e.marks ∷ map (λ e. e.marks) es) → Rest
        → Afterwards (λ v. HoldsAlong AccessesAgree c (after_entry e past) v es) o × (each_entry is_accessed (λ p. true) past (e ∷ es) ≡ true)
    by (NotReady reason) right paths sound bound follows rest = absurd (true≢false (ap stopped follows))
    by (Did v ms) right paths sound bound follows rest = at (first-marks ms e.marks (run_from c (suc n) v (map (λ e. e.event) es)) (map (λ e. e.marks) es) follows)
      where
        at : (ms ≡ e.marks) × (run_from c (suc n) v (map (λ e. e.event) es) ≡ Ok (map (λ e. e.marks) es)) → HoldsAlong AccessesAgree c (after_entry e past) v es × (each_entry is_accessed (λ p. true) past (e ∷ es) ≡ true)
        at told = (on.0, both-true _ _ (both-true _ true here.0 refl) on.1)
          where
            here : Right past e.event v e.marks
            here = subst (λ xs. Right past e.event v xs) told.0 right

            on : HoldsAlong AccessesAgree c (after_entry e past) v es × (each_entry is_accessed (λ p. true) (after_entry e past) es ≡ true)
            on = rest v (record { limited = met.limited; sound = sound; bound = bound; ended = here.1.1; paths = subst (λ xs. PathsAgree (after_marks xs (at_begin e.event past)) v) told.0 paths; agree = here.1.0 }) told.1

accessed-along : (c : Configuration) (bytes : ByteMap) (es : List EntryValue) → AreLimited c → AllByRecursion (λ e. CanBeMade e.event) es → Follows c bytes es
    → HoldsAlong AccessesAgree c (opening_past bytes) (opening_world bytes) es × (each_entry is_accessed (λ p. true) (opening_past bytes) es ≡ true)
accessed-along c bytes es limited made follows = along c 0 es (opening_past bytes) (opening_world bytes) made
    (record { limited = limited; sound = opening-sound c bytes; bound = opening-bound bytes; ended = (opening-accesses-agree bytes).1; paths = opening-agrees bytes; agree = (opening-accesses-agree bytes).0 }) follows

pub accesses-along : (c : Configuration) (bytes : ByteMap) (es : List EntryValue) → AreLimited c → AllByRecursion (λ e. CanBeMade e.event) es → Follows c bytes es
    → HoldsAlong AccessesAgree c (opening_past bytes) (opening_world bytes) es
accesses-along c bytes es limited made follows = (accessed-along c bytes es limited made follows).0

-- ---- what tests say of others

marks-follow : (one other : Past → Mark → Bool) → ((p : Past) (m : Mark) → one p m ≡ true → other p m ≡ true) → (ms : List Mark) (p : Past) → each_mark one p ms ≡ true → each_mark other p ms ≡ true
marks-follow one other follows [] p all = refl
marks-follow one other follows (m ∷ ms) p all = both-true (other p m) _ (follows p m (and_parts (one p m) (each_mark one (after_mark m p) ms) all).0)
    (marks-follow one other follows ms (after_mark m p) (and_parts (one p m) (each_mark one (after_mark m p) ms) all).1)

entries-follow : (one other : Past → Mark → Bool) → ((p : Past) (m : Mark) → one p m ≡ true → other p m ≡ true) → (es : List EntryValue) (p : Past)
    → each_entry one (λ p. true) p es ≡ true → each_entry other (λ p. true) p es ≡ true
entries-follow one other follows [] p all = refl
entries-follow one other follows (e ∷ es) p all = both-true _ _ (both-true _ true (marks-follow one other follows e.marks (at_begin e.event p) here) refl) (entries-follow one other follows es (after_entry e p) parts.1)
  where
    parts : ((each_mark one (at_begin e.event p) e.marks && true) ≡ true) × (each_entry one (λ p. true) (after_entry e p) es ≡ true)
    parts = and_parts (each_mark one (at_begin e.event p) e.marks && true) (each_entry one (λ p. true) (after_entry e p) es) all

    here : each_mark one (at_begin e.event p) e.marks ≡ true
    here = (and_parts (each_mark one (at_begin e.event p) e.marks) true parts.0).0

pub packets-along : (c : Configuration) (bytes : ByteMap) (es : List EntryValue) → AreLimited c → AllByRecursion (λ e. CanBeMade e.event) es → Follows c bytes es → HaveTheirPackets bytes es
packets-along c bytes es limited made follows = entries-follow is_accessed has_its_packet (λ p m all. (and_parts (has_its_packet p m) (has_its_request p m) all).0) es (opening_past bytes) (accessed-along c bytes es limited made follows).1

pub requests-along : (c : Configuration) (bytes : ByteMap) (es : List EntryValue) → AreLimited c → AllByRecursion (λ e. CanBeMade e.event) es → Follows c bytes es → HaveTheirRequests bytes es
requests-along c bytes es limited made follows = entries-follow is_accessed has_its_request (λ p m all. (and_parts (has_its_packet p m) (has_its_request p m) all).1) es (opening_past bytes) (accessed-along c bytes es limited made follows).1

-- ---- packets and requests together

carried-one : (p : Past) (m : Mark) → is_accessed p m ≡ true → is_carried_remote p m ≡ true
carried-one p (marks.Remote queue domain envelope key kinds.Read address count verdict) all =
    (and_parts (has_its_packet p (marks.Remote queue domain envelope key kinds.Read address count verdict)) (has_its_request p (marks.Remote queue domain envelope key kinds.Read address count verdict)) all).1
carried-one p (marks.Remote queue domain envelope key kinds.Write address count verdict) all =
    (and_parts (has_its_packet p (marks.Remote queue domain envelope key kinds.Write address count verdict)) (has_its_request p (marks.Remote queue domain envelope key kinds.Write address count verdict)) all).0
carried-one p (marks.Remote queue domain envelope key kinds.CmpSwap address count verdict) all =
    (and_parts (has_its_packet p (marks.Remote queue domain envelope key kinds.CmpSwap address count verdict)) (has_its_request p (marks.Remote queue domain envelope key kinds.CmpSwap address count verdict)) all).0
carried-one p (marks.Remote queue domain envelope key kinds.FetchAdd address count verdict) all =
    (and_parts (has_its_packet p (marks.Remote queue domain envelope key kinds.FetchAdd address count verdict)) (has_its_request p (marks.Remote queue domain envelope key kinds.FetchAdd address count verdict)) all).0
carried-one p (marks.Verb by verb answer) all = refl
carried-one p (marks.Granted g) all = refl
carried-one p (marks.Revoked adapter key) all = refl
carried-one p (marks.Local queue domain key kind address count verdict) all = refl
carried-one p (marks.Stored place bytes) all = refl
carried-one p (marks.Sent source target index request bytes) all = refl
carried-one p (marks.Lost target index) all = refl
carried-one p (marks.Arrived target index) all = refl
carried-one p (marks.Dropped target cause) all = refl
carried-one p (marks.Timer queue silent) all = refl
carried-one p (marks.Done queue x cause) all = refl

marks-carried : (ms : List Mark) (p : Past) → each_mark is_accessed p ms ≡ true → each_mark is_carried_remote p ms ≡ true
marks-carried [] p all = refl
marks-carried (m ∷ ms) p all = both-true (is_carried_remote p m) _ (carried-one p m (and_parts (is_accessed p m) (each_mark is_accessed (after_mark m p) ms) all).0)
    (marks-carried ms (after_mark m p) (and_parts (is_accessed p m) (each_mark is_accessed (after_mark m p) ms) all).1)

entries-carried : (es : List EntryValue) (p : Past) → each_entry is_accessed (λ p. true) p es ≡ true → each_entry is_carried_remote (λ p. true) p es ≡ true
entries-carried [] p all = refl
entries-carried (e ∷ es) p all = both-true _ _ (both-true _ true (marks-carried e.marks (at_begin e.event p) here) refl) (entries-carried es (after_entry e p) parts.1)
  where
    parts : ((each_mark is_accessed (at_begin e.event p) e.marks && true) ≡ true) × (each_entry is_accessed (λ p. true) (after_entry e p) es ≡ true)
    parts = and_parts (each_mark is_accessed (at_begin e.event p) e.marks && true) (each_entry is_accessed (λ p. true) (after_entry e p) es) all

    here : each_mark is_accessed (at_begin e.event p) e.marks ≡ true
    here = (and_parts (each_mark is_accessed (at_begin e.event p) e.marks) true parts.0).0

pub carried-along : (c : Configuration) (bytes : ByteMap) (es : List EntryValue) → AreLimited c → AllByRecursion (λ e. CanBeMade e.event) es → Follows c bytes es → AreCarriedAccesses bytes es
carried-along c bytes es limited made follows = entries-carried es (opening_past bytes) (accessed-along c bytes es limited made follows).1
