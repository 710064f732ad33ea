-- Where every connection is clean, no requester goes back along a history in calm weather, and each delivery is of an
-- envelope that had none. For proofs only.
use Rattle.std.proofs.Common.{◌≡◌, ℕ, zero, suc, ◌≤◌, Bool, true, false, List, [], ◌∷◌, Option, None, Some, is_some, slice_get, refl, ap, sym, subst, ◌∙◌, arith, true≢false}
use Rattle.std.proofs.lemmas.Option.{same_Some}
use Rattle.std.specs.List.{AllByRecursion}
use Rattle.ca_law_endings.proofs.InnerLemmas.{IsInner, arrival-inner}
use Rattle.ca_law_endings.proofs.LeadsLemmas.{comes}
use Rattle.ca_law_endings.specs.Agreement.{PathsAgree, peer_in, peer_named}
use Rattle.ca_law_endings.specs.Runs.{Comes}
use Rattle.ca_base.specs.Configuration.{Configuration}
use Rattle.ca_base.specs.declared.change.State.{State}
use Rattle.ca_base.specs.declared.change.State.TheVariants as states
use Rattle.ca_base.specs.declared.correspondent.Correspondent.{Correspondent}
use Rattle.ca_base.specs.declared.lot.Lot.TheVariants.{Pass}
use Rattle.ca_base.specs.declared.mail_envelope.MailEnvelope.{MailEnvelope}
use Rattle.ca_base.specs.objects.Mailbox.{Mailbox, after_delivery, due, later_than}
use Rattle.ca_base.specs.objects.QueuePair.{QueuePair, QueueSlot, Present, correspondent_of, incarnation_of, is_present}
use Rattle.ca_base.specs.objects.SharedReceives.{SharedReceives}
use Rattle.ca_law_bounds.proofs.CalmAlong.{IsCalmlyTo, IsCalmlyTold, clean-back, entry-calm, opening-told}
use Rattle.ca_law_bounds.proofs.NamedLemmas.{PeersAreNamed, entry-named}
use Rattle.ca_law_bounds.specs.CalmRuns.{AreAllClean, DeliversOnce, IsCalmRun, LeadsOn, LeadsOnAlong, NoCursorGoesBack}
use Rattle.ca_connection.specs.Layout.{Direction}
use Rattle.ca_connection.specs.Link.{RequestPacket, Requester, Responder, Response}
use Rattle.ca_keys.specs.Memory.{ByteMap}
use Rattle.ca_keys.specs.declared.names.QueueId.{QueueId}
use Rattle.ca_law_world.proofs.Sound.SettledLemmas.{queue-refl}
use Rattle.ca_model.specs.Entries.{EntryValue}
use Rattle.ca_model.specs.Once.{is_clean, is_clean_pair}
use Rattle.ca_model.specs.Past.{Naming, Past, after_entries, after_entry, opening_past}
use Rattle.ca_model.specs.declared.event.Event.{Event}
use Rattle.ca_model.specs.declared.event.Event.TheVariants as events
use Rattle.ca_model.specs.declared.mark.Mark.{Mark}
use Rattle.ca_model.specs.machine.Delivery.{arrival_row, deliver_plan}
use Rattle.ca_model.specs.machine.Frame.{Afterwards}
use Rattle.ca_model.specs.machine.Invariants.{is_fresh, is_sending}
use Rattle.ca_model.specs.machine.Row.{Effects}
use Rattle.ca_model.specs.machine.Run.{Follows}
use Rattle.ca_model.specs.machine.Sound.{AreLimited, CanBeMade, IsSoundWorld}
use Rattle.ca_model.specs.machine.Step.{step}
use Rattle.ca_model.specs.machine.Turns.{reaches_peer}
use Rattle.ca_model.specs.machine.World.{Mailbox_of, World, opening_world}
use Rattle.ca_law_once.proofs.Once.NoteLemmas.{Among, Grows, all-pass, entries-grow}
use Rattle.ca_law_once.proofs.Once.OnceLemmas.{EndOf, connection-started, end-of, entry-to-end}
use Rattle.ca_law_once.proofs.Once.RunLemmas.{Stands, Steps, Walk, walk-along}
use Rattle.ca_law_once.specs.Connections.{direction_of}
use Rattle.ca_law_once.proofs.Ties.DeliverLemmas.{present-same}
use Rattle.ca_law_once.proofs.Ties.DeliverTies.{stands-changed}
use Rattle.ca_law_once.proofs.Ties.DeliverWalk.{Changes, Ends, ends-as, ends-do}
use Rattle.ca_law_once.proofs.Ties.EntryLemmas.{IsLent, lent-envelope}
use Rattle.ca_law_once.proofs.Ties.FollowLemmas.{paths-follow}
use Rattle.ca_law_once.proofs.Ties.SentTies.{path-leads}
use Rattle.ca_law_once.proofs.Ties.TimerLemmas.{IsFoundAt, found-at}
use Rattle.ca_law_once.specs.Ties.{IsPaired, MailFollows, ReceiverTie, SenderTie}
use Rattle.ca_law_once.specs.Ties.IsBefore.{sooner, unnamed}
use Rattle.ca_law_once.specs.Ties.IsOver.{later, vacant}
use Rattle.ca_law_once.specs.Ties.ReceiverTie.{before as receiver_before, standing as receiver_standing, gone as receiver_gone}
use Rattle.ca_law_once.specs.Ties.SenderTie.{before as sender_before, standing as sender_standing, gone as sender_gone}
use Rattle.ca_law_lossless.proofs.ArriveRows.{arrival-silent, stays-cursor}
use Rattle.ca_law_lossless.proofs.DeliverCalm.{leads-arrival}
use Rattle.ca_law_lossless.proofs.EndLemmas.{sending-connected}
use Rattle.ca_law_lossless.proofs.MailLemmas.{IsOldest, oldest}
use Rattle.ca_law_lossless.specs.CalmEvents.{IsCalmEvent}
use Rattle.ca_law_lossless.specs.CalmTies.{AreFresh, CursorGoesOn}
use Rattle.ca_law_once.proofs.Rows.StayLemmas.{Stays}
use Rattle.ca_law_once.specs.Beginnings.{AllBeginEmpty}
use Rattle.ca_law_bounds.specs.WorldWeights.{cursor_of}

-- every clean connection is told of, with its calm link
abbrev AllTold : Past → Past → World → Type 0
AllTold end past w = (a b : Naming) → Among a end.namings → Among b end.namings → is_clean_pair end a b ≡ true → IsCalmlyTold end past w a b

-- ---- a delivery

-- of an envelope among so many that had none
fresh-at : (k : ℕ) (es : List MailEnvelope) (e : MailEnvelope) → AreFresh (suc k) es → slice_get es k ≡ Some e → (e.lot ≡ Pass) × (e.delivered ≡ 0)
fresh-at k [] e fresh at = absurd fresh
fresh-at zero (x ∷ es) e fresh at = subst (λ (y : MailEnvelope). (y.lot ≡ Pass) × (y.delivered ≡ 0)) (same_Some x e at) fresh.0
fresh-at (suc k) (x ∷ es) e fresh at = fresh-at k es e fresh.1 at

delivers-once : (c : Configuration) (w : World) (name : QueueId) (index : ℕ) → IsSoundWorld c w → AllBeginEmpty w
    → ((q : QueuePair) (e : MailEnvelope) → IsFoundAt w name q → is_some q.peer ≡ true → slice_get (w.mailbox name).envelopes (later_than index (w.mailbox name)) ≡ Some e → (e.lot ≡ Pass) × (e.delivered ≡ 0))
    → Comes (λ v ms. NoCursorGoesBack w v → DeliversOnce w v name index) (step c w (events.Deliver name index))
delivers-once c w name index sound empty known = comes w P (deliver_plan c name index) (leads-arrival c w P name index sound
    (λ q bytes shared e v there lent ends changes back. at q bytes shared e v there (lent-envelope index m bytes lent) ends changes back))
  where
    m : Mailbox
    m = w.mailbox name

    P : World → List Mark → Type 0
    P v ms = NoCursorGoesBack w v → DeliversOnce w v name index

    at : (q : QueuePair) (bytes : List ℕ) (shared : Option SharedReceives) (e : Effects) (v : World) → IsFoundAt w name q → IsLent index m bytes → Ends (arrival_row bytes (Some index) shared q) e
        → Changes w name (Present e.queue) (after_delivery index m) v → NoCursorGoesBack w v → DeliversOnce w v name index
    at q bytes shared e v there lent ends changes back = record {
      fresh = record { envelope = lent.envelope; at = lent.at; pass = fresh.0; fresh = fresh.1 };
      cursor = subst (λ z. cursor_of z ≤ cursor_of (v.queue name)) (sym there.is) (subst (λ z. q.requester.cursor ≤ cursor_of z) (sym moved) (less (is_sending q.state) refl));
    }
      where
        moved : v.queue name ≡ Present e.queue
        moved = (stands-changed w v name name (Present e.queue) (after_delivery index m) changes (queue-refl name)).0

        inner : IsInner q e
        inner = ends-do (IsInner q) (arrival_row bytes (Some index) shared q) e ends (ends-as (IsInner q) (arrival_row bytes (Some index) shared q) (arrival-inner bytes (Some index) shared q))

        less : (b : Bool) → is_sending q.state ≡ b → q.requester.cursor ≤ e.queue.requester.cursor
        less true sending = back name q e.queue there.is moved inner.incarnation sending
        less false silent = omega (
          arith,
          stays-cursor q e.queue
              (ends-do (λ e. Stays q e.queue) (arrival_row bytes (Some index) shared q) e ends (arrival-silent bytes (Some index) shared q silent)),
        )

        named : (o : Option Correspondent) → q.peer ≡ o → is_some q.peer ≡ true
        named None none = absurd (true≢false (sym (ap is_some (sym (ap (λ es. slice_get es (later_than index m)) (empty.mail name (ap peer_in there.is ∙ none))) ∙ lent.at))))
        named (Some peer) is = ap is_some is

        fresh : (lent.envelope.lot ≡ Pass) × (lent.envelope.delivered ≡ 0)
        fresh = known q lent.envelope there (named q.peer refl) lent.at

-- ---- the connection of a queue pair that has a peer

record HasEnds (end : Past) (own : Correspondent) : Type 0 where
  a : Naming
  b : Naming
  a_in : Among a end.namings
  b_in : Among b end.namings
  own_is : a.own ≡ own
  clean : is_clean_pair end a b ≡ true

has-ends : (end past : Past) (w : World) (n : QueueId) (q : QueuePair) → AreAllClean end → Grows past end → PathsAgree past w → PeersAreNamed past → w.queue n ≡ Present q → is_some q.peer ≡ true
    → HasEnds end (record { queue = n; incarnation = q.incarnation })
has-ends end past w n q all grows paths named is some = by (past.naming n) refl
  where
    by : (o : Option Naming) → past.naming n ≡ o → HasEnds end (record { queue = n; incarnation = q.incarnation })
    by None none = absurd (true≢false (sym some ∙ ap is_some (ap peer_in (sym is) ∙ paths.peers n ∙ ap peer_named none)))
    by (Some x) has = record { a = ends.a; b = ends.b; a_in = ends.a_in; b_in = ends.b_in; own_is = ends.own_is ∙ own; clean = ends.clean }
      where
        ends : EndOf end x.own
        ends = end-of end x.own (all-pass (λ (a : Naming). is_clean end a.own) end.namings x all (grows.namings x (named.among n x has)))

        own : x.own ≡ record { queue = n; incarnation = q.incarnation }
        own = named.own n x has ∙ ap (λ (i : ℕ). record { queue = n; incarnation = i }) (sym (paths.incarnations n) ∙ ap incarnation_of is)

-- a life that stands there with a peer is paired
receiver-paired : (d : Direction) (s r : Correspondent) (slot : QueueSlot) (m : Mailbox) (responder : Responder) (requests : List (Option RequestPacket)) (q : QueuePair) → ReceiverTie d s r slot m responder requests → slot ≡ Present q
    → r.incarnation ≡ q.incarnation → is_some q.peer ≡ true → IsPaired d r s slot q
receiver-paired d s r slot m responder requests q (receiver_before (sooner less) is none) stands own some = absurd (omega (arith, less, ap incarnation_of stands, own))
receiver-paired d s r slot m responder requests q (receiver_before (unnamed t t_is t_own none) is nothing) stands own some = absurd (true≢false (sym some ∙ ap is_some (ap peer_in (sym stands ∙ t_is) ∙ none)))
receiver-paired d s r slot m responder requests q (receiver_gone (later more) none) stands own some = absurd (omega (arith, more, ap incarnation_of stands, own))
receiver-paired d s r slot m responder requests q (receiver_gone (vacant away same) none) stands own some = absurd (true≢false (ap is_present (sym stands) ∙ away))
receiver-paired d s r slot m responder requests q (receiver_standing t paired is entries) stands own some = subst (IsPaired d r s slot) (sym (present-same q t (sym stands ∙ paired.present))) paired

sender-paired : (d : Direction) (s r : Correspondent) (slot : QueueSlot) (m : Mailbox) (requester : Requester) (responses : List (Option Response)) (q : QueuePair) → SenderTie d s r slot m requester responses → slot ≡ Present q
    → s.incarnation ≡ q.incarnation → is_some q.peer ≡ true → IsPaired d s r slot q
sender-paired d s r slot m requester responses q (sender_before (sooner less) is none) stands own some = absurd (omega (arith, less, ap incarnation_of stands, own))
sender-paired d s r slot m requester responses q (sender_before (unnamed t t_is t_own none) is nothing) stands own some = absurd (true≢false (sym some ∙ ap is_some (ap peer_in (sym stands ∙ t_is) ∙ none)))
sender-paired d s r slot m requester responses q (sender_gone (later more) none) stands own some = absurd (omega (arith, more, ap incarnation_of stands, own))
sender-paired d s r slot m requester responses q (sender_gone (vacant away same) none) stands own some = absurd (true≢false (ap is_present (sym stands) ∙ away))
sender-paired d s r slot m requester responses q (sender_standing t paired tie entries) stands own some = subst (IsPaired d s r slot) (sym (present-same q t (sym stands ∙ paired.present))) paired

-- what lies at a queue pair that has a peer, where a delivery is due
due-fresh : (c : Configuration) (end past : Past) (w : World) (name : QueueId) (index : ℕ) (q : QueuePair) (e : MailEnvelope) → IsSoundWorld c w → due (w.mailbox name) ≡ Some index → w.queue name ≡ Present q → is_some q.peer ≡ true
    → HasEnds end (record { queue = name; incarnation = q.incarnation }) → AllTold end past w → slice_get (w.mailbox name).envelopes (later_than index (w.mailbox name)) ≡ Some e → (e.lot ≡ Pass) × (e.delivered ≡ 0)
due-fresh c end past w name index q e sound due_is is some ends told at = fresh-at old.rest (w.mailbox name).envelopes e (subst (λ n. AreFresh n (w.mailbox name).envelopes) old.count fresh)
    (ap (slice_get (w.mailbox name).envelopes) (sym old.place) ∙ at)
  where
    a : Naming
    a = ends.a

    b : Naming
    b = ends.b

    d : Direction
    d = direction_of end b a

    there : IsCalmlyTold end past w b a
    there = told b a ends.b_in ends.a_in (clean-back end a b (told a b ends.a_in ends.b_in ends.clean).con.mtu ends.clean)

    here : a.own.queue ≡ name
    here = ap (λ (x : Correspondent). x.queue) ends.own_is

    own : a.own.incarnation ≡ q.incarnation
    own = ap (λ (x : Correspondent). x.incarnation) ends.own_is

    stands : w.queue a.own.queue ≡ Present q
    stands = ap w.queue here ∙ is

    here_paired : IsPaired d a.own b.own (w.queue a.own.queue) q
    here_paired = receiver-paired d b.own a.own (w.queue a.own.queue) (w.mailbox a.own.queue) there.link.responder there.link.requests q there.told.tied.receiver stands own some

    fresh : AreFresh there.calm.requests (w.mailbox name).envelopes
    fresh = subst (λ n. AreFresh there.calm.requests (w.mailbox n).envelopes) here (there.tied.receiver.paired q here_paired).fresh

    old : IsOldest there.calm.requests index (w.mailbox name)
    old = oldest (w.mailbox name) there.calm.requests index (sound.things (Mailbox_of name)) fresh due_is

-- the peer to which a path leads from a queue pair has its path MTU
one-width : (end past : Past) (w : World) (name : QueueId) (q t : QueuePair) (p : Correspondent) → MailFollows w → w.queue name ≡ Present q → q.peer ≡ Some p → w.queue p.queue ≡ Present t
    → reaches_peer q p (w.mailbox p.queue) ≡ true → HasEnds end (record { queue = name; incarnation = q.incarnation }) → AllTold end past w → t.responder.mtu ≡ q.responder.mtu
one-width end past w name q t p follows is names t_is path ends told = received.mtu ∙ sym sends.mtu
  where
    a : Naming
    a = ends.a

    b : Naming
    b = ends.b

    d : Direction
    d = direction_of end a b

    there : IsCalmlyTold end past w a b
    there = told a b ends.a_in ends.b_in ends.clean

    leads : (incarnation_of (w.queue p.queue) ≡ p.incarnation) × (peer_in (w.queue p.queue) ≡ Some (correspondent_of q))
    leads = path-leads w q p follows path

    sends : IsPaired d a.own b.own (w.queue a.own.queue) q
    sends = sender-paired d a.own b.own (w.queue a.own.queue) (w.mailbox a.own.queue) there.link.requester there.link.responses q there.told.tied.sender
        (ap (λ (x : Correspondent). w.queue x.queue) ends.own_is ∙ is) (ap (λ (x : Correspondent). x.incarnation) ends.own_is) (ap is_some names)

    peer : b.own ≡ p
    peer = same_Some b.own p (sym sends.names ∙ names)

    received : IsPaired d b.own a.own (w.queue b.own.queue) t
    received = receiver-paired d a.own b.own (w.queue b.own.queue) (w.mailbox b.own.queue) there.link.responder there.link.requests t there.told.tied.receiver
        (ap (λ (x : Correspondent). w.queue x.queue) peer ∙ t_is) (ap (λ (x : Correspondent). x.incarnation) peer ∙ sym leads.0 ∙ ap incarnation_of t_is)
        (ap is_some (ap peer_in (sym t_is) ∙ leads.1))

-- ---- all entries

sending-begun : (t : State) → is_sending t ≡ true → is_fresh t ≡ false
sending-begun states.Reset is = absurd (true≢false (sym is))
sending-begun states.Init is = absurd (true≢false (sym is))
sending-begun states.Rtr is = absurd (true≢false (sym is))
sending-begun states.Rts is = refl
sending-begun states.Sqd is = refl
sending-begun states.Error is = absurd (true≢false (sym is))

go-along : (c : Configuration) (end : Past) (es : List EntryValue) (past : Past) (w : World) → AreAllClean end → end ≡ after_entries es past → Walk c past w es → PeersAreNamed past → AllTold end past w → IsCalmRun c w es
    → LeadsOnAlong c w es
go-along c end [] past w all is walk named told run = tt
go-along c end (e ∷ es) past w all is walk named told run = subst (Afterwards (λ u. LeadsOn w e.event u × LeadsOnAlong c u es)) (sym steps.comes)
    (on e.event refl, go-along c end es (after_entry e past) v all is walk.1.2 (entry-named e past named) (λ a b a_in b_in clean. (to a b a_in b_in clean).next) (subst (Afterwards (λ u. IsCalmRun c u es)) steps.comes run.2))
  where
    v : World
    v = walk.1.0

    stands : Stands c past w
    stands = walk.0

    steps : Steps c past w e.event e.marks v
    steps = walk.1.1

    grows : Grows past end
    grows = subst (Grows past) (sym is) (entries-grow (e ∷ es) past)

    to : (a b : Naming) → Among a end.namings → Among b end.namings → is_clean_pair end a b ≡ true → IsCalmlyTo end (after_entry e past) w v a b
    to a b a_in b_in clean = entry-calm c end a b e past w v (entry-to-end end e es past is) stands steps run.0 run.1 (told a b a_in b_in clean)

    back : NoCursorGoesBack w v
    back n q p q_is p_is same sending = subst (λ x. CursorGoesOn x w v) ends.own_is (to ends.a ends.b ends.a_in ends.b_in ends.clean).cursor q p q_is p_is refl same (sending-begun q.state sending)
      where
        ends : HasEnds end (record { queue = n; incarnation = q.incarnation })
        ends = has-ends end past w n q all grows stands.paths named q_is ((found-at c w n q stands.sound q_is).sound.connected (sending-connected q.state sending))

    on : (event : Event) → e.event ≡ event → LeadsOn w event v
    on (events.Verb by verb) event = back
    on (events.Request name lot) event = (
      back,
      λ q t p q_is names t_is path. one-width end past w name q t p (paths-follow past w stands.paths) q_is names t_is path
          (has-ends end past w name q all grows stands.paths named q_is (ap is_some names)) told,
    )
    on (events.Respond queue lot) event = back
    on (events.Timeout queue hasten) event = back
    on (events.RnrWake queue) event = back
    on (events.Deliver name index) event = (
      back,
      subst (Comes (λ u ms. NoCursorGoesBack w u → DeliversOnce w u name index)) (ap (step c w) (sym event) ∙ steps.comes)
          (delivers-once c w name index stands.sound stands.empty
          (λ q x there some at. due-fresh c end past w name index q x stands.sound (subst (IsCalmEvent w) event run.0) there.is some (has-ends end past w name q all grows stands.paths named there.is some) told at)) back,
    )

pub runs-lead-on : (c : Configuration) (bytes : ByteMap) (es : List EntryValue) → AreLimited c → AllByRecursion (λ e. CanBeMade e.event) es → Follows c bytes es → IsCalmRun c (opening_world bytes) es
    → AreAllClean (after_entries es (opening_past bytes)) → LeadsOnAlong c (opening_world bytes) es
runs-lead-on c bytes es limited made follows calm all = go-along c (after_entries es (opening_past bytes)) es (opening_past bytes) (opening_world bytes) all refl (walk-along c bytes es limited made follows)
    (record { among = λ n x is. absurd (true≢false (sym (ap is_some is))); own = λ n x is. absurd (true≢false (sym (ap is_some is))) })
    (λ a b a_in b_in clean. opening-told c bytes es a b (connection-started c bytes es a b limited made follows a_in b_in clean)) calm
