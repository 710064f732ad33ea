-- A turn that sends a packet: which mailbox gets it, and what the two ends of a direction say of it.
use Rattle.std.proofs.Common.{◌≡◌, ℕ, zero, suc, ◌-◌, ◌==◌, ◌&&◌, arith, Bool, true, false, if◌then◌else◌, List, [], ◌∷◌, ◌++◌, take, Option, None, Some, is_some, refl, ap, ap₂, sym, subst, ◌∙◌, true≢false}
use Rattle.std.proofs.lemmas.Bool.{and_parts, eqb-true}
use Rattle.std.proofs.lemmas.Bool.Decides.{nat_tests}
use Rattle.std.specs.Option.{option_map_or}
use Rattle.ca_law_endings.proofs.LeadsLemmas.{AreAside, leads-row}
use Rattle.ca_law_endings.specs.Agreement.{peer_in}
use Rattle.ca_law_endings.specs.Runs.{Leads}
use Rattle.ca_base.specs.Configuration.{Configuration}
use Rattle.ca_base.specs.declared.correspondent.Correspondent.{Correspondent}
use Rattle.ca_base.specs.declared.limits.TheConstants.{KEPT_ENVELOPES}
use Rattle.ca_base.specs.declared.lot.Lot.{Lot}
use Rattle.ca_base.specs.declared.mail_envelope.MailEnvelope.{MailEnvelope}
use Rattle.ca_base.specs.objects.Mailbox.{Mailbox, after_send}
use Rattle.ca_base.specs.objects.QueuePair.{QueuePair, QueueSlot, NoQueue, Present, correspondent_of, incarnation_of, is_present}
use Rattle.ca_connection.specs.Layout.{Direction}
use Rattle.ca_connection.specs.Link.{RequestPacket, Requester, Responder, Response}
use Rattle.ca_keys.specs.Equal.{queue_eq}
use Rattle.ca_keys.specs.declared.names.QueueId.{QueueId}
use Rattle.ca_law_world.proofs.Sound.SettledLemmas.{queue-path, queue-refl}
use Rattle.ca_law_world.proofs.Sound.WorldLemmas.{around_in, shared_of}
use Rattle.ca_model.specs.Past.{with_at}
use Rattle.ca_model.specs.declared.mark.Mark.{Mark}
use Rattle.ca_model.specs.machine.Around.{Around, updates_of}
use Rattle.ca_model.specs.machine.Plan.{Update, ◌:=◌, Write, put_all, write_all}
use Rattle.ca_model.specs.machine.Row.{Effects, Row, Row_plan}
use Rattle.ca_model.specs.machine.Turns.{Leave_plan, Packet, packet_sent, reaches_peer, sent_marks, sent_updates}
use Rattle.ca_model.specs.machine.World.{Mailbox_of, World}
use Rattle.ca_law_once.proofs.Ties.DeliverWalk.{Ends, Has, has-aside, has-turn, has-writes, puts-append, row-ends}
use Rattle.ca_law_once.specs.Ties.{AreEntries, IsBefore, IsOver, IsPaired, ReceiverTie, SenderTie}
use Rattle.ca_law_once.specs.Ties.IsBefore.{sooner, unnamed}
use Rattle.ca_law_once.specs.Ties.IsOver.{later, vacant}
use Rattle.ca_law_once.specs.Ties.ReceiverTie.{before as receiver_before, standing as receiver_standing, gone as receiver_gone}
use Rattle.ca_law_once.specs.Ties.SenderTie.{before as sender_before, standing as sender_standing, gone as sender_gone}
use Rattle.ca_law_once.specs.Entries.{SpellsRequest, SpellsResponse, SpellsSomeRequest, SpellsSomeResponse}

-- the mailboxes after a packet is sent, if one is
abbrev pub boxes_after : World → QueuePair → Correspondent → Lot → Option Packet → QueueId → Mailbox
boxes_after w q p lot None = w.mailbox
boxes_after w q p lot (Some x) =
    if reaches_peer q p (w.mailbox p.queue) then with_at queue_eq w.mailbox p.queue (after_send lot x.bytes (w.mailbox p.queue)) else w.mailbox

has-sent : (w v : World) (q : QueuePair) (p : Correspondent) (lot : Lot) (queues : QueueId → QueueSlot) (o : Option Packet) → Has queues w.mailbox v
    → Has queues (boxes_after w q p lot o) (put_all (option_map_or (sent_updates q p (w.mailbox p.queue) lot) o []) v)
has-sent w v q p lot queues None has = has
has-sent w v q p lot queues (Some x) has = by (reaches_peer q p (w.mailbox p.queue))
  where
    by : (b : Bool) → Has queues (if b then with_at queue_eq w.mailbox p.queue (after_send lot x.bytes (w.mailbox p.queue)) else w.mailbox)
        (put_all (if b then (Mailbox_of p.queue := after_send lot x.bytes (w.mailbox p.queue)) ∷ [] else []) v)
    by true = record { queue = has.queue; mailbox = ap (λ (f : QueueId → Mailbox). with_at queue_eq f p.queue (after_send lot x.bytes (w.mailbox p.queue))) has.mailbox }
    by false = has

-- a turn that may send changes the queue pair by an ending of its row, and the peer's mailbox
pub leads-left : (c : Configuration) (w : World) (P : World → List Mark → Type 0) (q : QueuePair) (p : Correspondent) (lot : Lot) (row : Row)
    → ((e : Effects) (v : World) (ms : List Mark) → Ends row e → Has (with_at queue_eq w.queue q.queue (Present e.queue)) (boxes_after w q p lot (packet_sent e)) v
    → ms ≡ e.marks ++ option_map_or (sent_marks q p (w.mailbox p.queue) lot) (packet_sent e) [] → P v ms) → Leads w P (Row_plan c row (Leave_plan q (around_in w q (shared_of w q)) p (w.mailbox p.queue) lot))
leads-left c w P q p lot row more = leads-row c w P (Ends row) row (Leave_plan q a p (w.mailbox p.queue) lot) (row-ends row) (λ e cs ws ends aside. ended e cs ws ends aside)
  where
    a : Around
    a = around_in w q (shared_of w q)

    sends : Effects → List Update
    sends e = option_map_or (sent_updates q p (w.mailbox p.queue) lot) (packet_sent e) []

    tells : Effects → List Mark
    tells e = option_map_or (sent_marks q p (w.mailbox p.queue) lot) (packet_sent e) []

    ended : (e : Effects) (cs : List Update) (ws : List Write) → Ends row e → AreAside cs → P (write_all ws (put_all (updates_of q a e ++ (cs ++ sends e)) w)) (e.marks ++ tells e)
    ended e cs ws ends aside = more e (write_all ws (put_all (updates_of q a e ++ (cs ++ sends e)) w)) (e.marks ++ tells e) ends
        (has-writes (with_at queue_eq w.queue q.queue (Present e.queue)) (boxes_after w q p lot (packet_sent e)) ws (put_all (updates_of q a e ++ (cs ++ sends e)) w)
        (subst (Has (with_at queue_eq w.queue q.queue (Present e.queue)) (boxes_after w q p lot (packet_sent e)))
        (sym (puts-append (updates_of q a e) (cs ++ sends e) w ∙ puts-append cs (sends e) (put_all (updates_of q a e) w)))
        (has-sent w (put_all cs (put_all (updates_of q a e) w)) q p lot (with_at queue_eq w.queue q.queue (Present e.queue)) (packet_sent e)
        (has-aside (with_at queue_eq w.queue q.queue (Present e.queue)) w.mailbox cs (put_all (updates_of q a e) w) aside (has-turn w q a e))))) refl

-- ---- paths

same-number : (n : ℕ) → (n == n) ≡ true
same-number n = grind (arith, nat_tests)

-- where a path leads to the peer, its mailbox has its incarnation and accepts the queue pair
pub reaches-parts : (q : QueuePair) (p : Correspondent) (m : Mailbox) → reaches_peer q p m ≡ true → (m.incarnation ≡ p.incarnation) × (m.peer ≡ Some (correspondent_of q))
reaches-parts q p m is = (eqb-true m.incarnation p.incarnation parts.0, by m.peer refl parts.1)
  where
    sender : Correspondent → Bool
    sender x = queue_eq x.queue q.queue && (x.incarnation == q.incarnation)

    parts : ((m.incarnation == p.incarnation) ≡ true) × (option_map_or sender m.peer false ≡ true)
    parts = and_parts (m.incarnation == p.incarnation) (option_map_or sender m.peer false) is

    by : (o : Option Correspondent) → m.peer ≡ o → option_map_or sender o false ≡ true → m.peer ≡ Some (correspondent_of q)
    by None e accepts = absurd (true≢false (sym accepts))
    by (Some x) e accepts = let both = and_parts (queue_eq x.queue q.queue) (x.incarnation == q.incarnation) accepts in
        e ∙ ap₂ (λ a b. Some (record { queue = a; incarnation = b })) (queue-path x.queue q.queue both.0) (eqb-true x.incarnation q.incarnation both.1)

-- and the other way round
pub reaches-back : (q : QueuePair) (p : Correspondent) (m : Mailbox) → m.incarnation ≡ p.incarnation → m.peer ≡ Some (correspondent_of q) → reaches_peer q p m ≡ true
reaches-back q p m incarnation peer = ap₂ (λ a b. (a == p.incarnation) && option_map_or sender b false) incarnation peer
    ∙ ap₂ (λ a b. a && b) (same-number p.incarnation) (ap₂ (λ a b. a && b) (queue-refl q.queue) (same-number q.incarnation))
  where
    sender : Correspondent → Bool
    sender x = queue_eq x.queue q.queue && (x.incarnation == q.incarnation)

-- ---- one envelope more

take-entries : {X : Type 0} (Own : X → List ℕ → Type 0) (Other : List ℕ → Type 0) (k : ℕ) (es : List MailEnvelope) (xs : List (Option X)) → AreEntries Own Other es xs → AreEntries Own Other (take k es) xs
take-entries Own Other zero es xs entries = record {}
take-entries Own Other (suc k) [] xs entries = record {}
take-entries Own Other (suc k) (m ∷ ms) [] entries = absurd entries
take-entries Own Other (suc k) (m ∷ ms) (None ∷ xs) entries = (entries.0, take-entries Own Other k ms xs entries.1)
take-entries Own Other (suc k) (m ∷ ms) (Some x ∷ xs) entries = (entries.0, take-entries Own Other k ms xs entries.1)

-- what the bytes of an entry spell
abbrev pub Spells : {X : Type 0} → (X → List ℕ → Type 0) → (List ℕ → Type 0) → Option X → List ℕ → Type 0
Spells Own Other None bytes = Other bytes
Spells Own Other (Some x) bytes = Own x bytes

more-entries : {X : Type 0} (Own : X → List ℕ → Type 0) (Other : List ℕ → Type 0) (lot : Lot) (bytes : List ℕ) (m : Mailbox) (o : Option X) (xs : List (Option X)) → Spells Own Other o bytes
    → AreEntries Own Other m.envelopes xs → AreEntries Own Other (after_send lot bytes m).envelopes (o ∷ xs)
more-entries Own Other lot bytes m None xs spells entries = (spells, take-entries Own Other (KEPT_ENVELOPES - 1) m.envelopes xs entries)
more-entries Own Other lot bytes m (Some x) xs spells entries = (spells, take-entries Own Other (KEPT_ENVELOPES - 1) m.envelopes xs entries)

-- a life that has come before, or is over, has no path to it
pub no-path-before : (life : Correspondent) (peer : Correspondent) (slot : QueueSlot) → IsBefore life slot → incarnation_of slot ≡ life.incarnation → peer_in slot ≡ Some peer → ⊥
no-path-before life peer slot (sooner less) incarnation named = omega (arith, less, incarnation)
no-path-before life peer slot (unnamed q is same none) incarnation named = true≢false (sym (ap is_some (sym (ap peer_in is ∙ none) ∙ named)))

pub no-path-over : (life : Correspondent) (peer : Correspondent) (slot : QueueSlot) → IsOver life slot → incarnation_of slot ≡ life.incarnation → peer_in slot ≡ Some peer → ⊥
no-path-over life peer slot (later more) incarnation named = omega (arith, more, incarnation)
no-path-over life peer slot (vacant none same) incarnation named = by slot none named
  where
    by : (t : QueueSlot) → is_present t ≡ false → peer_in t ≡ Some peer → ⊥
    by (NoQueue n timers) none named = true≢false (sym (ap is_some named))
    by (Present q) none named = true≢false none

-- the receiver's mailbox gets one envelope more where a path leads there, which it does only to a standing life
pub grown-receiver : (d : Direction) (s r : Correspondent) (slot : QueueSlot) (m : Mailbox) (responder : Responder) (requests : List (Option RequestPacket)) (lot : Lot) (bytes : List ℕ) (o : Option RequestPacket) (b : Bool)
    → (b ≡ true → (incarnation_of slot ≡ r.incarnation) × (peer_in slot ≡ Some s)) → Spells (SpellsRequest d) SpellsSomeResponse o bytes → ReceiverTie d s r slot m responder requests
    → ReceiverTie d s r slot (if b then after_send lot bytes m else m) responder (if b then o ∷ requests else requests)
grown-receiver d s r slot m responder requests lot bytes o false path spells tie = tie
grown-receiver d s r slot m responder requests lot bytes o true path spells (receiver_before is same none) = absurd (no-path-before r s slot is (path refl).0 (path refl).1)
grown-receiver d s r slot m responder requests lot bytes o true path spells (receiver_gone is none) = absurd (no-path-over r s slot is (path refl).0 (path refl).1)
grown-receiver d s r slot m responder requests lot bytes o true path spells (receiver_standing t paired same entries) =
    receiver_standing t paired same (more-entries (SpellsRequest d) SpellsSomeResponse lot bytes m o requests spells entries)

pub grown-sender : (d : Direction) (s r : Correspondent) (slot : QueueSlot) (m : Mailbox) (requester : Requester) (responses : List (Option Response)) (lot : Lot) (bytes : List ℕ) (o : Option Response) (b : Bool)
    → (b ≡ true → (incarnation_of slot ≡ s.incarnation) × (peer_in slot ≡ Some r)) → Spells SpellsResponse SpellsSomeRequest o bytes → SenderTie d s r slot m requester responses
    → SenderTie d s r slot (if b then after_send lot bytes m else m) requester (if b then o ∷ responses else responses)
grown-sender d s r slot m requester responses lot bytes o false path spells tie = tie
grown-sender d s r slot m requester responses lot bytes o true path spells (sender_before is same none) = absurd (no-path-before s r slot is (path refl).0 (path refl).1)
grown-sender d s r slot m requester responses lot bytes o true path spells (sender_gone is none) = absurd (no-path-over s r slot is (path refl).0 (path refl).1)
grown-sender d s r slot m requester responses lot bytes o true path spells (sender_standing t paired own entries) =
    sender_standing t paired own (more-entries SpellsResponse SpellsSomeRequest lot bytes m o responses spells entries)

-- where no path leads to it, nothing of this side is in the mailbox there
pub nowhere-receiver : (d : Direction) (s r : Correspondent) (slot : QueueSlot) (m : Mailbox) (responder : Responder) (requests : List (Option RequestPacket)) → ((t : QueuePair) → IsPaired d r s slot t → ⊥)
    → ReceiverTie d s r slot m responder requests → requests ≡ []
nowhere-receiver d s r slot m responder requests none (receiver_before is same empty) = empty
nowhere-receiver d s r slot m responder requests none (receiver_gone is empty) = empty
nowhere-receiver d s r slot m responder requests none (receiver_standing t paired same entries) = absurd (none t paired)

pub nowhere-sender : (d : Direction) (s r : Correspondent) (slot : QueueSlot) (m : Mailbox) (requester : Requester) (responses : List (Option Response)) → ((t : QueuePair) → IsPaired d s r slot t → ⊥)
    → SenderTie d s r slot m requester responses → responses ≡ []
nowhere-sender d s r slot m requester responses none (sender_before is same empty) = empty
nowhere-sender d s r slot m requester responses none (sender_gone is empty) = empty
nowhere-sender d s r slot m requester responses none (sender_standing t paired own entries) = absurd (none t paired)

-- a mailbox of which a standing life keeps what it had
pub boxed-receiver : (d : Direction) (s r : Correspondent) (slot : QueueSlot) (m box : Mailbox) (responder : Responder) (requests : List (Option RequestPacket)) → ((t : QueuePair) → IsPaired d r s slot t → box ≡ m)
    → ReceiverTie d s r slot m responder requests → ReceiverTie d s r slot box responder requests
boxed-receiver d s r slot m box responder requests same (receiver_before is own none) = receiver_before is own none
boxed-receiver d s r slot m box responder requests same (receiver_gone is none) = receiver_gone is none
boxed-receiver d s r slot m box responder requests same (receiver_standing t paired own entries) =
    receiver_standing t paired own (subst (λ (x : Mailbox). AreEntries (SpellsRequest d) SpellsSomeResponse x.envelopes requests) (sym (same t paired)) entries)

pub boxed-sender : (d : Direction) (s r : Correspondent) (slot : QueueSlot) (m box : Mailbox) (requester : Requester) (responses : List (Option Response)) → ((t : QueuePair) → IsPaired d s r slot t → box ≡ m)
    → SenderTie d s r slot m requester responses → SenderTie d s r slot box requester responses
boxed-sender d s r slot m box requester responses same (sender_before is own none) = sender_before is own none
boxed-sender d s r slot m box requester responses same (sender_gone is none) = sender_gone is none
boxed-sender d s r slot m box requester responses same (sender_standing t paired own entries) =
    sender_standing t paired own (subst (λ (x : Mailbox). AreEntries SpellsResponse SpellsSomeRequest x.envelopes responses) (sym (same t paired)) entries)
