-- What local operations, the requester's turn and the verbs touch lies in the table of parts.
use Rattle.std.proofs.Common.{◌≡◌, ℕ, suc, inl, inr, subst, sym, Bool, true, false, List, [], ◌++◌, Option, None, Some, IfSome, ◌==◌, not, if◌then◌else◌, refl}
use Rattle.ca_keys.specs.declared.key.Key.{Key}
use Rattle.ca_base.specs.declared.lot.Lot.{Lot}
use Rattle.ca_keys.specs.declared.names.DomainId.{DomainId}
use Rattle.ca_keys.specs.declared.names.QueueId.{QueueId}
use Rattle.ca_keys.specs.declared.names.Slot.{Slot}
use Rattle.ca_base.specs.declared.refusals.OpRefusal.{OpRefusal}
use Rattle.ca_base.specs.declared.request.SendOp.{SendOp}
use Rattle.ca_base.specs.declared.request.SendOp.TheVariants as ops
use Rattle.ca_keys.specs.declared.rights.Rights.{Rights}
use Rattle.ca_base.specs.declared.step.Reason.TheVariants as reasons
use Rattle.ca_base.specs.Configuration.{Configuration}
use Rattle.ca_base.specs.declared.correspondent.Correspondent.{Correspondent}
use Rattle.ca_base.specs.objects.QueuePair.{QueuePair}
use Rattle.ca_base.specs.objects.Slices.{names_region, slot_of_key}
use Rattle.ca_base.specs.objects.Window.{Binding, Window}
use Rattle.ca_model.specs.declared.event.Event.TheVariants as events
use Rattle.ca_model.specs.machine.Around.{With_around, updates_of}
use Rattle.ca_model.specs.machine.LocalOperations.{Bind1_plan, Bind2_plan, Finishing, Perform_op, PlacedRegion, With_former, With_named, bind1_changes, bind1_marks, bind1_refusal, bind2_changes, bind2_marks, bind2_refusal, drawn_by, fast_changes, fast_marks, fast_refusal, former_updates, invalidate_row, named_updates, operation_effects, region_slot, window_slot}
use Rattle.ca_model.specs.machine.Numbering.{Numbered}
use Rattle.ca_model.specs.machine.Plan.{Finish, Look, Plan, Update, Write, names_updated}
use Rattle.ca_model.specs.machine.Requester.{RequestTurn, Waits, Performs, Sends, denied_list_effects, is_outstanding, is_too_much, packet_asks, packet_row, sent_packet, turn_of}
use Rattle.ca_model.specs.machine.Row.{Does, Effects, NotPossible, Row, plain_row, queue_and_marks, region_under, unless_none}
use Rattle.ca_model.specs.machine.Turns.{Request_around, has_room_for, request_plan}
use Rattle.ca_model.specs.machine.World.{Region_of, World}
use Rattle.ca_model.specs.declared.part_name.PartName.{PartName}
use Rattle.ca_model.specs.declared.part_name.PartName.TheVariants as names
use Rattle.ca_model.specs.machine.Parts.{Enough, IsAmong, Needs, Part, around_needs, bind_needs, event_needs, listed, operation_needs, region_part, request_needs, row_needs, where_some, window_needs}
use Rattle.ca_model.specs.machine.Sound.{IsSoundWorld}
use Rattle.ca_law_parts.proofs.Parts.PartLemmas.{Given, In, Included, IsAround, around-given, around-in, around_parts, former-region, given-first, given-second, left-in, row-in, turn-in, updates-in}
use Rattle.ca_law_parts.proofs.Parts.TouchLemmas.{NamesIn, TouchesIn, WritesAt, unless-in, updated-append}
use Rattle.ca_law_world.proofs.Sound.WorldLemmas.{around_in, shared_of}
use Rattle.ca_law_parts.proofs.Parts.WriteLemmas.{invalidate-writes, packet-writes}

-- how an operation's plan may go on
abbrev GoesOn : World → List PartName → Finishing → Type 0
GoesOn w ps finish = (e : Effects) (cs : List Update) (ws : List Write) → NamesIn (In ps) (names_updated cs) → WritesAt (In ps) ws → TouchesIn w (In ps) (finish e cs ws)

abbrev PlacedIn : List PartName → Option PlacedRegion → Type 0
PlacedIn ps r = IfSome r (λ f. In ps (Region_of f.slot))

-- the region that a key names is among these parts
abbrev NamesGiven : Configuration → List PartName → DomainId → Key → Type 0
NamesGiven c ps d key = names_region c d key ≡ true → IsAmong ps (names.Region (slot_of_key d key))

named-in : (c : Configuration) (w : World) (ps : List PartName) (d : DomainId) (key : Key) (k : Option PlacedRegion → Plan) → NamesGiven c ps d key
    → ((r : Option PlacedRegion) → PlacedIn ps r → TouchesIn w (In ps) (k r)) → TouchesIn w (In ps) (With_named c d key k)
named-in c w ps d key k all more = (
  λ named. (all named, more (Some (record { slot = slot_of_key d key; region = w.region (slot_of_key d key) })) (all named)),
  λ none. more None (record {}),
)

former-in : (c : Configuration) (w : World) (ps : List PartName) (s : Slot) (k : Option PlacedRegion → Plan) → Given w ps (window_needs region_part s)
    → ((r : Option PlacedRegion) → PlacedIn ps r → TouchesIn w (In ps) (k r)) → TouchesIn w (In ps) (With_former (w.window s) k)
former-in c w ps s k inc more = by (w.window s).binding (former-region w ps s inc)
  where
    plan : Option Binding → Plan
    plan None = k None
    plan (Some b) = Look (Region_of (region_under (w.window s) b)) (λ region. k (Some (record { slot = region_under (w.window s) b; region = region })))

    by : (o : Option Binding) → IfSome o (λ b. IsAmong ps (names.Region (region_under (w.window s) b))) → TouchesIn w (In ps) (plan o)
    by None inc = more None (record {})
    by (Some b) among = (among, more (Some (record { slot = region_under (w.window s) b; region = w.region (region_under (w.window s) b) })) among)

former-updated : (ps : List PartName) (former : Option PlacedRegion) → PlacedIn ps former → NamesIn (In ps) (names_updated (former_updates former))
former-updated ps None placed = record {}
former-updated ps (Some f) placed = (placed, record {})

named-updated : (ps : List PartName) (former named : Option PlacedRegion) → PlacedIn ps named → NamesIn (In ps) (names_updated (named_updates former named))
named-updated ps former None placed = record {}
named-updated ps former (Some n) placed = (placed, record {})

bind1-in : (c : Configuration) (w : World) (ps : List PartName) (q : QueuePair) (n : Numbered) (window : ℕ) (key : Key) (address count : ℕ) (rights : Rights) (finish : Finishing)
    → NamesGiven c ps q.domain key → Given w ps (window_needs region_part (window_slot q window)) → GoesOn w ps finish
    → TouchesIn w (In ps) (Bind1_plan c q n window key address count rights finish)
bind1-in c w ps q n window key address count rights finish keys windows more = (
  windows (names.Window slot) (inl refl),
  named-in c w ps q.domain key (λ named. With_former x (λ former. ending named former)) keys (λ named named-there.
      former-in c w ps slot (λ former. ending named former) windows (λ former former-there.
      more (effects named) (unless_none (refusal named) (bind1_changes slot (drawn_by n) x former named address count rights)) []
      (unless-in (In ps) (refusal named) (bind1_changes slot (drawn_by n) x former named address count rights) (changed former named former-there named-there)) (record {}))),
)
  where
    slot : Slot
    slot = window_slot q window

    x : Window
    x = w.window slot

    refusal : Option PlacedRegion → Option OpRefusal
    refusal named = bind1_refusal n key named address count rights x

    effects : Option PlacedRegion → Effects
    effects named = operation_effects q n q (bind1_marks q n window named address count rights x) (refusal named)

    ending : Option PlacedRegion → Option PlacedRegion → Plan
    ending named former = finish (effects named) (unless_none (refusal named) (bind1_changes slot (drawn_by n) x former named address count rights)) []

    regions : (former named : Option PlacedRegion) (b : Bool) → PlacedIn ps named → NamesIn (In ps) (names_updated (if b then [] else named_updates former named))
    regions former named true there = record {}
    regions former named false there = named-updated ps former named there

    changed : (former named : Option PlacedRegion) → PlacedIn ps former → PlacedIn ps named
        → NamesIn (In ps) (names_updated (bind1_changes slot (drawn_by n) (w.window slot) former named address count rights))
    changed former named former-there named-there = (
      windows (names.Window slot) (inl refl),
      updated-append (In ps) (former_updates former) (if count == 0 then [] else named_updates former named) (former-updated ps former former-there) (regions former named (count == 0) named-there),
    )

bind2-in : (c : Configuration) (w : World) (ps : List PartName) (q : QueuePair) (n : Numbered) (window : ℕ) (key : Key) (low address count : ℕ) (rights : Rights) (finish : Finishing)
    → NamesGiven c ps q.domain key → Given w ps (window_needs region_part (window_slot q window)) → GoesOn w ps finish
    → TouchesIn w (In ps) (Bind2_plan c q n window key low address count rights finish)
bind2-in c w ps q n window key low address count rights finish keys windows more = (
  windows (names.Window slot) (inl refl),
  named-in c w ps q.domain key (λ named. With_former x (λ former. ending named)) keys (λ named named-there.
      former-in c w ps slot (λ former. ending named) windows (λ former former-there.
      more (effects named) (unless_none (refusal named) (bind2_changes slot low q.queue x named address count rights)) []
      (unless-in (In ps) (refusal named) (bind2_changes slot low q.queue x named address count rights)
      (windows (names.Window slot) (inl refl), named-updated ps None named named-there)) (record {}))),
)
  where
    slot : Slot
    slot = window_slot q window

    x : Window
    x = w.window slot

    refusal : Option PlacedRegion → Option OpRefusal
    refusal named = bind2_refusal key named address count rights x

    effects : Option PlacedRegion → Effects
    effects named = operation_effects q n (record q { windows = suc q.windows }) (bind2_marks q window low named address count rights) (refusal named)

    ending : Option PlacedRegion → Plan
    ending named = finish (effects named) (unless_none (refusal named) (bind2_changes slot low q.queue x named address count rights)) []

-- what a bind names is given
record BindGiven (c : Configuration) (w : World) (ps : List PartName) (q : QueuePair) (window : ℕ) (key : Key) : Type 0 where
  keys : NamesGiven c ps q.domain key
  windows : Given w ps (window_needs region_part (window_slot q window))

bind-given : (c : Configuration) (w : World) (ps : List PartName) (q : QueuePair) (window : ℕ) (key : Key) → Given w ps (bind_needs c q window key) → BindGiven c w ps q window key
bind-given c w ps q window key inc = record {
  keys = λ named. given-second w ps first (chosen (names_region c q.domain key)) inc (names.Region slot)
      (subst (λ b. IsAmong (listed w (chosen b)) (names.Region slot)) (sym named) (inl refl));
  windows = given-first w ps first (chosen (names_region c q.domain key)) inc;
}
  where
    slot : Slot
    slot = slot_of_key q.domain key

    first : Needs
    first = window_needs region_part (window_slot q window)

    chosen : Bool → Needs
    chosen b = if b then region_part slot else Enough

perform-in : (c : Configuration) (w : World) (ps : List PartName) (q : QueuePair) (n : Numbered) (finish : Finishing) (op : SendOp) → IsSoundWorld c w → Given w ps (operation_needs c q op)
    → GoesOn w ps finish → TouchesIn w (In ps) (Perform_op c q n finish op)
perform-in c w ps q n finish (ops.Bind1 window key address count rights) sound inc more = by (bind-given c w ps q window key inc)
  where
    by : BindGiven c w ps q window key → TouchesIn w (In ps) (Bind1_plan c q n window key address count rights finish)
    by all = bind1-in c w ps q n window key address count rights finish all.keys all.windows more
perform-in c w ps q n finish (ops.Bind2 window key low address count rights) sound inc more = by (bind-given c w ps q window key inc)
  where
    by : BindGiven c w ps q window key → TouchesIn w (In ps) (Bind2_plan c q n window key low address count rights finish)
    by all = bind2-in c w ps q n window key low address count rights finish all.keys all.windows more
perform-in c w ps q n finish (ops.FastReg region low buffer address count rights pages) sound inc more = (
  inc (names.Region (region_slot q region)) (inl refl),
  more (operation_effects q n q (fast_marks q region low buffer address count rights pages) refusal) (unless_none refusal changed) []
      (unless-in (In ps) refusal changed (inc (names.Region (region_slot q region)) (inl refl), record {})) (record {}),
)
  where
    refusal : Option OpRefusal
    refusal = fast_refusal c q region buffer address count rights pages (w.region (region_slot q region))

    changed : List Update
    changed = fast_changes q region low buffer address count rights pages (w.region (region_slot q region))
perform-in c w ps q n finish (ops.LocalInv key) sound inc more = row-in c w ps (invalidate_row q n key) finish sound (invalidate-writes q n key) inc more
perform-in c w ps q n finish (ops.Send list) sound inc more = more (queue_and_marks q []) [] [] (record {}) (record {})
perform-in c w ps q n finish (ops.SendImm imm list) sound inc more = more (queue_and_marks q []) [] [] (record {}) (record {})
perform-in c w ps q n finish (ops.SendInv key list) sound inc more = more (queue_and_marks q []) [] [] (record {}) (record {})
perform-in c w ps q n finish (ops.Write address key list) sound inc more = more (queue_and_marks q []) [] [] (record {}) (record {})
perform-in c w ps q n finish (ops.WriteImm address key imm list) sound inc more = more (queue_and_marks q []) [] [] (record {}) (record {})
perform-in c w ps q n finish (ops.Read address key list) sound inc more = more (queue_and_marks q []) [] [] (record {}) (record {})
perform-in c w ps q n finish (ops.CmpSwap address key compare swap list) sound inc more = more (queue_and_marks q []) [] [] (record {}) (record {})
perform-in c w ps q n finish (ops.FetchAdd address key add list) sound inc more = more (queue_and_marks q []) [] [] (record {}) (record {})

-- whether there is room changes nothing of what a packet asks for
pub packet-given : (c : Configuration) (w : World) (room : Bool) (q : QueuePair) (n : Numbered) (ps : List PartName) → Given w ps (row_needs c (packet_row q true n)) → Given w ps (row_needs c (packet_row q room n))
packet-given c w true q n ps inc = inc
packet-given c w false q n ps inc = by (is_too_much q n) inc
  where
    row : Bool → Row
    row room = record {
      asks = packet_asks q n;
      invalidation = None;
      denied = λ d.
          if is_outstanding q then NotPossible reasons.Outstanding
          else if not room then NotPossible reasons.NoRoom
          else Does (denied_list_effects q d);
      allowed = λ bytes refusal. if not room then NotPossible reasons.NoRoom else Does (sent_packet q n bytes);
    }

    by : (b : Bool) → Given w ps (row_needs c (if b then plain_row (NotPossible reasons.Outstanding) else row true))
        → Given w ps (row_needs c (if b then plain_row (NotPossible reasons.Outstanding) else row false))
    by true inc = inc
    by false inc = inc

pub request-in : (c : Configuration) (w : World) (ps : List PartName) (name : QueueId) (lot : Lot) → IsSoundWorld c w → Given w ps (event_needs c (events.Request name lot))
    → TouchesIn w (In ps) (request_plan c name lot)
request-in c w ps name lot sound inc = turn-in c w ps name reasons.State needs (λ q. With_around q (λ a. Request_around c lot q a q.peer (turn_of q))) sound inc
    (λ q queue given. at q queue (around-given w ps q (λ shared. request_needs c q (turn_of q)) given))
  where
    needs : QueuePair → Needs
    needs q = around_needs q (λ shared. request_needs c q (turn_of q))

    sends : QueuePair → Numbered → Correspondent → Needs
    sends q n p = Part (names.Mailbox p.queue) (row_needs c (packet_row q true n))

    sent : (q : QueuePair) (n : Numbered) (o : Option Correspondent) → IsAmong ps (names.Queue q.queue) → Included (around_parts q) ps → Given w ps (where_some (sends q n) o)
        → TouchesIn w (In ps) (Request_around c lot q (around_in w q (shared_of w q)) o (Sends n))
    sent q n None queue around all = record {}
    sent q n (Some peer) queue around all = (
      all (names.Mailbox peer.queue) (inl refl),
      left-in c w ps q peer lot (packet_row q (has_room_for q peer (w.mailbox peer.queue)) n) sound (packet-writes q (has_room_for q peer (w.mailbox peer.queue)) n)
          (packet-given c w (has_room_for q peer (w.mailbox peer.queue)) q n ps (λ p among. all p (inr among))) queue around (all (names.Mailbox peer.queue) (inl refl)),
    )

    turns : (q : QueuePair) (turn : RequestTurn) → IsAmong ps (names.Queue q.queue) → Included (around_parts q) ps → Given w ps (request_needs c q turn)
        → TouchesIn w (In ps) (Request_around c lot q (around_in w q (shared_of w q)) q.peer turn)
    turns q (Waits reason) queue around all = record {}
    turns q (Performs n) queue around all =
        perform-in c w ps q n (λ e changes writes. Finish (updates_of q (around_in w q (shared_of w q)) e ++ changes) writes e.marks) n.request.op sound all
        (λ e cs ws named at. (updates-in ps q (around_in w q (shared_of w q)) e cs queue around named, at))
    turns q (Sends n) queue around all = sent q n q.peer queue around all

    at : (q : QueuePair) → IsAmong ps (names.Queue q.queue) → IsAround w ps q (λ shared. request_needs c q (turn_of q))
        → TouchesIn w (In ps) (With_around q (λ a. Request_around c lot q a q.peer (turn_of q)))
    at q queue all = around-in w ps q (λ a. Request_around c lot q a q.peer (turn_of q)) all.around (turns q (turn_of q) queue all.around all.more)
