-- Packets and local operations, for the laws above that are not proved over the endings yet. For proofs only.
use Rattle.std.proofs.Common.{IfSome, ◌≡◌, ℕ, suc, ◌≤◌, ◌==◌, ◌||◌, Bool, true, false, not, if◌then◌else◌, List, [], ◌∷◌, ◌++◌, length, take, Option, None, Some, is_some, slice_get, refl, sym, ap, ap₂, subst, ◌∙◌, true≢false}
use Rattle.std.specs.Option.{option_map_or}
use Rattle.ca_law_endings.proofs.PathLemmas.{marks-append}
use Rattle.ca_law_endings.specs.Runs.{Leads}
use Rattle.ca_law_keys.proofs.Posts.GoingLemmas.{denied-goes, failure-goes, reads-keyless}
use Rattle.ca_law_keys.proofs.Posts.PlaceLemmas.{IsPostedAt, begins-next, item-posted, next-item, operations-same}
use Rattle.ca_law_keys.proofs.Posts.PostLemmas.{AreNoAnswers, IsNoAnswer, answers-append, goes-kept, keyless-no}
use Rattle.ca_law_keys.specs.Posts.{AgreeOnSends}
use Rattle.ca_base.specs.Configuration.{Configuration}
use Rattle.ca_base.specs.Sight.{Invalidation}
use Rattle.ca_base.specs.declared.completion.WcStatus.TheVariants.{LocalProtection}
use Rattle.ca_base.specs.declared.correspondent.Correspondent.{Correspondent}
use Rattle.ca_base.specs.declared.denied_ask.DeniedAsk.{DeniedAsk}
use Rattle.ca_base.specs.declared.lot.Lot.{Lot}
use Rattle.ca_base.specs.declared.refusals.OpRefusal.{OpRefusal}
use Rattle.ca_base.specs.declared.request.SendOp.{SendOp}
use Rattle.ca_base.specs.declared.request.SendOp.TheVariants as ops
use Rattle.ca_base.specs.declared.step.Reason.TheVariants as reasons
use Rattle.ca_base.specs.objects.LocalRequest.{LocalMarks, region_refusal, unnamed_refusal, window_refusal}
use Rattle.ca_base.specs.objects.Mailbox.{Mailbox, is_lost}
use Rattle.ca_base.specs.objects.QueuePair.{QueuePair}
use Rattle.ca_base.specs.objects.Region.{Region, with_window_unbound}
use Rattle.ca_base.specs.objects.LocalRequest.{window_refusal}
use Rattle.ca_base.specs.objects.Slices.{slot_of_key, names_window}
use Rattle.ca_base.specs.objects.Window.{Binding, Window, after_binding, without_binding, bound_key}
use Rattle.ca_keys.specs.declared.key.Key.{Key}
use Rattle.ca_keys.specs.declared.names.DomainId.{DomainId}
use Rattle.ca_keys.specs.declared.names.Slot.{Slot}
use Rattle.ca_law_world.proofs.Sound.TurnLemmas.{sends-parts}
use Rattle.ca_law_world.proofs.Sound.WorldLemmas.{EndingDoes, RowDoes}
use Rattle.ca_law_world.proofs.Steady.RowLemmas.{IsKept as IsKeptQueue}
use Rattle.ca_model.specs.Past.{Past, Posted, after_mark, after_marks, local_operations}
use Rattle.ca_model.specs.Requests.{is_local}
use Rattle.ca_model.specs.declared.mark.Mark.{Mark}
use Rattle.ca_model.specs.declared.mark.Mark.TheVariants as marks
use Rattle.ca_model.specs.machine.Acknowledgements.{failure_effects}
use Rattle.ca_model.specs.machine.Expected.{with_window_gone}
use Rattle.ca_model.specs.machine.LocalOperations.{Finishing, Perform_op, PlacedRegion, With_former, With_named, bind1_changes, bind1_marks, bind1_refusal, bind2_changes, bind2_marks, bind2_refusal, drawn_by, fast_changes, fast_marks, fast_refusal, former_updates, named_slot, named_updates, operation_effects, region_slot, window_slot}
use Rattle.ca_model.specs.machine.Numbering.{Numbered}
use Rattle.ca_model.specs.machine.Plan.{Plan, Look, Update, ◌:=◌}
use Rattle.ca_model.specs.machine.Requester.{Sends, begins, denied_list_effects, is_outstanding, is_too_much, local_denial, next_request, packet_asks, packet_row, sent_packet, turn_of, turn_refusals}
use Rattle.ca_model.specs.machine.Row.{Does, Effects, NotPossible, Row, With_invalidation, With_writes, plain_row, region_under, unless_none}
use Rattle.ca_model.specs.machine.Seen.{refusal_in}
use Rattle.ca_model.specs.machine.Turns.{Packet, packet_sent, reaches_peer, sent_marks}
use Rattle.ca_model.specs.machine.World.{Name, Queue_of, Region_of, Thing, Window_of, World}
use Rattle.ca_keys.specs.Refusals.{first_of}
use Rattle.ca_law_keys.proofs.Posts.PostMade.{IsLike, IsUsed, sent-used}
pub use Rattle.ca_law_keys.proofs.Posts.PostMade.{IsNextOperation, IsPosted, IsUsed, Performing, later-life, life-refl, next-posted, other-life, performed-some, sent-used, used-list, used-none}

pub sent-quiet : (q : QueuePair) (peer : Correspondent) (m : Mailbox) (lot : Lot) (o : Option Packet) → AreNoAnswers (option_map_or (sent_marks q peer m lot) o [])
sent-quiet q peer m lot None = record {}
sent-quiet q peer m lot (Some x) = by (reaches_peer q peer m) (is_lost lot)
  where
    by : (b z : Bool) → AreNoAnswers (if b
        then marks.Sent q.queue peer.queue (Some m.next) x.request x.bytes ∷ (if z then marks.Lost peer.queue (Some m.next) ∷ [] else [])
        else marks.Sent q.queue peer.queue None x.request x.bytes ∷ marks.Lost peer.queue None ∷ [])
    by true true = (record {}, (record {}, record {}))
    by true false = (record {}, record {})
    by false z = (record {}, (record {}, record {}))

used-listed : (ms : List Mark) → AreNoAnswers ms → (r : Past) → r.at_hand.used_list ≡ true → (after_marks ms r).at_hand.used_list ≡ true
used-listed [] quiet r is = is
used-listed (m ∷ ms) quiet r is = used-listed ms quiet.1 (after_mark m r) (by m quiet.0)
  where
    by : (m : Mark) → IsNoAnswer m → (after_mark m r).at_hand.used_list ≡ true
    by (marks.Verb consumer verb answer) q = absurd q
    by (marks.Sent source target index request bytes) q = is
    by (marks.Lost target None) q = is
    by (marks.Lost target (Some index)) q = is
    by (marks.Granted g) q = is
    by (marks.Revoked adapter key) q = is
    by (marks.Remote queue domain envelope key kind address count verdict) q = is
    by (marks.Local queue domain key kind address count verdict) q = refl
    by (marks.Stored place bytes) q = is
    by (marks.Arrived target index) q = is
    by (marks.Dropped target cause) q = is
    by (marks.Timer queue silent) q = is
    by (marks.Done queue x cause) q = is

-- what a packet's effects leave
pub record IsPacket (q : QueuePair) (peer : Correspondent) (m : Mailbox) (lot : Lot) (e : Effects) : Type 0 where
  pub goes : (ps : List Posted) (k : ℕ) → AgreeOnSends ps k q → AgreeOnSends ps k e.queue
  pub quiet : AreNoAnswers e.marks
  pub used : (r : Past) → IsUsed (after_marks (e.marks ++ option_map_or (sent_marks q peer m lot) (packet_sent e) []) r)

pub packet-is : (q : QueuePair) (peer : Correspondent) (m : Mailbox) (lot : Lot) (room : Bool) (n : Numbered) → IsKeptQueue q → q.requester.oldest ≤ q.requester.next → turn_of q ≡ Sends n
    → RowDoes (IsPacket q peer m lot) (packet_row q room n)
packet-is q peer m lot room n k begun turn = by (is_too_much q n)
  where
    row : Row
    row = record {
      asks = packet_asks q n;
      invalidation = None;
      denied = λ d.
          if is_outstanding q then NotPossible reasons.Outstanding
          else if not room then NotPossible reasons.NoRoom
          else Does (denied_list_effects q d);
      allowed = λ bytes refusal. if not room then NotPossible reasons.NoRoom else Does (sent_packet q n bytes);
    }

    failure : Effects
    failure = failure_effects LocalProtection None q

    fails : (d : DeniedAsk) → IsPacket q peer m lot (denied_list_effects q d)
    fails d = record {
      goes = goes-kept q None (denied_list_effects q d) (denied-goes q d);
      quiet = (record {}, keyless-no q.queue q.sends None failure.marks (failure-goes LocalProtection None q refl).marks);
      used = λ r. ap (λ b. b || is_some (slice_get (after_marks (failure.marks ++ []) (after_mark (local_denial d) r)).at_hand.sent 0))
          (used-listed (failure.marks ++ []) (answers-append failure.marks [] (keyless-no q.queue q.sends None failure.marks (failure-goes LocalProtection None q refl).marks) (record {})) (after_mark (local_denial d) r) refl);
    }

    denied : (d : DeniedAsk) (b z : Bool) → EndingDoes (IsPacket q peer m lot) (if b then NotPossible reasons.Outstanding else if not z then NotPossible reasons.NoRoom else Does (denied_list_effects q d))
    denied d true z = record {}
    denied d false true = fails d
    denied d false false = record {}

    -- the requests that have begun are one more, and it is no local operation
    counts : (ps : List Posted) (j : ℕ) → AgreeOnSends ps j q → (b : Bool) → begins q ≡ b
        → length (local_operations (take q.requester.next ps)) ≡ length (local_operations (take (if b then suc q.requester.next else q.requester.next) ps))
    counts ps j agree false e = refl
    counts ps j agree true e = sym (operations-same ps q.requester.next at.posted at.is (ap (λ x. is_local x.request.op) at.same ∙ parts.2))
      where
        parts : (first_of (turn_refusals q) ≡ None) × (next_request q ≡ Some n) × (is_local n.request.op ≡ false)
        parts = sends-parts (first_of (turn_refusals q)) (next_request q) n turn

        at : IsPostedAt ps q.requester.next (record { request = n.request; drawn = n.drawn })
        at = item-posted ps j q q.requester.next _ agree (next-item q n k begun (begins-next q n e parts.1)).item

    sends : (bytes : List (List ℕ)) → IsPacket q peer m lot (sent_packet q n bytes)
    sends bytes = record {
      goes = λ ps j agree. record { places = agree.places; count = agree.count; items = agree.items; performed = λ x. agree.performed x ∙ counts ps j agree (begins q) refl };
      quiet = keyless-no q.queue q.sends None _ (reads-keyless q.queue q.sends (packet_asks q n) bytes);
      used = λ r. subst IsUsed (sym (marks-append (sent_packet q n bytes).marks _ r)) (sent-used q peer m lot _ (after_marks (sent_packet q n bytes).marks r));
    }

    allowed : (bytes : List (List ℕ)) (z : Bool) → EndingDoes (IsPacket q peer m lot) (if not z then NotPossible reasons.NoRoom else Does (sent_packet q n bytes))
    allowed bytes true = sends bytes
    allowed bytes false = record {}

    by : (b : Bool) → RowDoes (IsPacket q peer m lot) (if b then plain_row (NotPossible reasons.Outstanding) else row)
    by true = record { denied = λ d. record {}; allowed = λ bytes refusal. record {} }
    by false = record { denied = λ d. denied d (is_outstanding q) room; allowed = λ bytes refusal. allowed bytes room }

-- ---- a local operation

-- changes of no queue pair, which leave the bytes that windows drew
abbrev pub IsDrawn : World → (n : Name) → Thing n → Type 0
IsDrawn w (Queue_of q) x = ⊥
IsDrawn w (Window_of s) x = x.drawn ≡ (w.window s).drawn
IsDrawn w n x = Unit {0}

abbrev pub AreDrawn : World → List Update → Type 0
AreDrawn w [] = Unit {0}
AreDrawn w (x ∷ xs) = IsDrawn w x.name x.thing × AreDrawn w xs

drawn-append : (w : World) (us vs : List Update) → AreDrawn w us → AreDrawn w vs → AreDrawn w (us ++ vs)
drawn-append w [] vs one other = other
drawn-append w (u ∷ us) vs one other = (one.0, drawn-append w us vs one.1 other)

-- what an operation revokes, where it is a Local Invalidate
abbrev pub Revokes : SendOp → LocalMarks → Type 0
Revokes (ops.LocalInv key) m = m.revoked ≡ Some key
Revokes op m = Unit {0}

-- how an operation's plan goes on
abbrev pub OperationGoes : (Key → Type 0) → World → (World → List Mark → Type 0) → QueuePair → Numbered → SendOp → Finishing → Type 0
OperationGoes R w P q n op finish = (after : QueuePair) (m : LocalMarks) (refusal : Option OpRefusal) (cs : List Update) → IsLike q after → Revokes op m → (refusal ≡ None → IfSome m.revoked R) → AreDrawn w cs → Leads w P (finish (operation_effects q n after m refusal) cs [])

leads-named : (c : Configuration) (w : World) (P : World → List Mark → Type 0) (d : DomainId) (key : Key) (k : Option PlacedRegion → Plan) → ((r : Option PlacedRegion) → Leads w P (k r)) → Leads w P (With_named c d key k)
leads-named c w P d key k more = (λ named. more (Some _), λ none. more None)

leads-former : (w : World) (P : World → List Mark → Type 0) (x : Window) (k : Option PlacedRegion → Plan) → ((r : Option PlacedRegion) → Leads w P (k r)) → Leads w P (With_former x k)
leads-former w P x k more = by x.binding
  where
    former : Option Binding → Plan
    former None = k None
    former (Some b) = Look (Region_of (region_under x b)) (λ region. k (Some (record { slot = region_under x b; region = region })))

    by : (o : Option Binding) → Leads w P (former o)
    by None = more None
    by (Some b) = more (Some (record { slot = region_under x b; region = w.region (region_under x b) }))

former-kept : (w : World) (former : Option PlacedRegion) → AreDrawn w (former_updates former)
former-kept w None = record {}
former-kept w (Some f) = (record {}, record {})

named-kept : (w : World) (former named : Option PlacedRegion) → AreDrawn w (named_updates former named)
named-kept w former None = record {}
named-kept w former (Some n) = (record {}, record {})

unless-kept : (w : World) (r : Option OpRefusal) (cs : List Update) → AreDrawn w cs → AreDrawn w (unless_none r cs)
unless-kept w None cs kept = kept
unless-kept w (Some cause) cs kept = record {}

like-same : (q : QueuePair) → IsLike q q
like-same q = record { queue = refl; sends = refl; state = refl }

-- an invalidation leaves the bytes that windows drew
leads-invalidation : (c : Configuration) (w : World) (P : World → List Mark → Type 0) (i : Invalidation) (k : Option OpRefusal → List Update → Plan)
    → ((r : Option OpRefusal) (cs : List Update) → (r ≡ None → refusal_in c w i ≡ None) → AreDrawn w cs → Leads w P (k r cs)) → Leads w P (With_invalidation c (Some i) k)
leads-invalidation c w P i k more = (
  λ named. more (region_refusal i.key (w.region slot)) _ (λ is. ap (λ b. pick b (names_window c i.domain i.key)) named ∙ is) (record {}, record {}),
  λ none. (
    λ named. by (ap₂ pick none named) (w.window slot).binding,
    λ other. more (Some (unnamed_refusal i.key)) [] (λ is. ap₂ pick none other ∙ is) (record {}),
  ),
)
  where
    slot : Slot
    slot = slot_of_key i.domain i.key

    plan : Option Binding → Plan
    plan None = k (window_refusal i.key i.queue (w.window slot)) []
    plan (Some b) = Look (Region_of (region_under (w.window slot) b)) (λ region.
        k (window_refusal i.key i.queue (w.window slot))
        ((Window_of slot := without_binding (w.window slot)) ∷ (Region_of (region_under (w.window slot) b) := with_window_unbound region) ∷ []))

    pick : Bool → Bool → Option OpRefusal
    pick r y = if r then region_refusal i.key (w.region slot) else if y then window_refusal i.key i.queue (w.window slot) else Some (unnamed_refusal i.key)

    by : refusal_in c w i ≡ window_refusal i.key i.queue (w.window slot) → (o : Option Binding) → Leads w P (plan o)
    by same None = more (window_refusal i.key i.queue (w.window slot)) [] (λ is. same ∙ is) (record {})
    by same (Some b) = more (window_refusal i.key i.queue (w.window slot)) _ (λ is. same ∙ is) (refl, (record {}, record {}))

-- a property of the key that an operation would end: of the key of the window that is bound, and of the key that is named
abbrev pub EndsSuch : (Key → Type 0) → Configuration → World → QueuePair → SendOp → Type 0
EndsSuch R c w q (ops.Bind1 window key address count rights) = IfSome (bound_key (w.window (window_slot q window))) R
EndsSuch R c w q (ops.LocalInv key) = refusal_in c w (record { queue = q.queue; domain = q.domain; key = key }) ≡ None → R key
EndsSuch R c w q op = Unit {0}

pub leads-perform : (R : Key → Type 0) (c : Configuration) (w : World) (P : World → List Mark → Type 0) (q : QueuePair) (n : Numbered) (finish : Finishing) (op : SendOp) → is_local op ≡ true → EndsSuch R c w q op
    → OperationGoes R w P q n op finish → Leads w P (Perform_op c q n finish op)
leads-perform R c w P q n finish (ops.Bind1 window key address count rights) local such more =
    leads-named c w P q.domain key (λ named. With_former x (λ former. ending named former)) (λ named. leads-former w P x (λ former. ending named former) (λ former.
    more q (bind1_marks q n window named address count rights x) (refusal named) (unless_none (refusal named) (bind1_changes (window_slot q window) (drawn_by n) x former named address count rights)) (like-same q) (record {}) (λ is. such)
    (unless-kept w (refusal named) (bind1_changes (window_slot q window) (drawn_by n) x former named address count rights)
    (bound (count == 0) named, drawn-append w (former_updates former) (if count == 0 then [] else named_updates former named) (former-kept w former) (regions named former (count == 0))))))
  where
    x : Window
    x = w.window (window_slot q window)

    refusal : Option PlacedRegion → Option OpRefusal
    refusal named = bind1_refusal n key named address count rights x

    bound : (b : Bool) (named : Option PlacedRegion) → (if b then without_binding x else after_binding (drawn_by n) None (named_slot named) address count rights x).drawn ≡ x.drawn
    bound true named = refl
    bound false named = refl

    regions : (named former : Option PlacedRegion) (b : Bool) → AreDrawn w (if b then [] else named_updates former named)
    regions named former true = record {}
    regions named former false = named-kept w former named

    ending : Option PlacedRegion → Option PlacedRegion → Plan
    ending named former = finish (operation_effects q n q (bind1_marks q n window named address count rights x) (refusal named))
        (unless_none (refusal named) (bind1_changes (window_slot q window) (drawn_by n) x former named address count rights)) []
leads-perform R c w P q n finish (ops.Bind2 window key low address count rights) local such more =
    leads-named c w P q.domain key (λ named. With_former x (λ former. ending named)) (λ named. leads-former w P x (λ former. ending named) (λ former.
    more (record q { windows = suc q.windows }) (bind2_marks q window low named address count rights) (refusal named)
    (unless_none (refusal named) (bind2_changes (window_slot q window) low q.queue x named address count rights)) (record { queue = refl; sends = refl; state = refl }) (record {}) (λ is. record {})
    (unless-kept w (refusal named) (bind2_changes (window_slot q window) low q.queue x named address count rights) (refl, named-kept w None named))))
  where
    x : Window
    x = w.window (window_slot q window)

    refusal : Option PlacedRegion → Option OpRefusal
    refusal named = bind2_refusal key named address count rights x

    ending : Option PlacedRegion → Plan
    ending named = finish (operation_effects q n (record q { windows = suc q.windows }) (bind2_marks q window low named address count rights) (refusal named))
        (unless_none (refusal named) (bind2_changes (window_slot q window) low q.queue x named address count rights)) []
leads-perform R c w P q n finish (ops.FastReg region low buffer address count rights pages) local such more =
    more q (fast_marks q region low buffer address count rights pages) refusal (unless_none refusal (fast_changes q region low buffer address count rights pages r)) (like-same q) (record {}) (λ is. record {})
    (unless-kept w refusal (fast_changes q region low buffer address count rights pages r) (record {}, record {}))
  where
    r : Region
    r = w.region (region_slot q region)

    refusal : Option OpRefusal
    refusal = fast_refusal c q region buffer address count rights pages r
leads-perform R c w P q n finish (ops.LocalInv key) local such more = leads-invalidation c w P gone (λ r cs. With_writes c (operation_effects q n (with_window_gone (Some gone) q) m r).writes (λ ws. finish (operation_effects q n (with_window_gone (Some gone) q) m r) (unless_none r cs) ws)) (λ r cs own kept. written r (unless_none r cs) own (unless-kept w r cs kept))
  where
    gone : Invalidation
    gone = record { queue = q.queue; domain = q.domain; key = key }

    m : LocalMarks
    m = record { revoked = Some key; granted = None }

    like : IsLike q (with_window_gone (Some gone) q)
    like = record { queue = refl; sends = refl; state = refl }

    written : (r : Option OpRefusal) (cs : List Update) → (r ≡ None → refusal_in c w gone ≡ None) → AreDrawn w cs
        → Leads w P (With_writes c (operation_effects q n (with_window_gone (Some gone) q) m r).writes (λ ws. finish (operation_effects q n (with_window_gone (Some gone) q) m r) cs ws))
    written None cs own kept = more (with_window_gone (Some gone) q) m None cs like refl (λ is. such (own is)) kept
    written (Some cause) cs own kept = more (with_window_gone (Some gone) q) m (Some cause) cs like refl (λ is. such (own is)) kept
leads-perform R c w P q n finish (ops.Send list) local such more = absurd (true≢false (sym local))
leads-perform R c w P q n finish (ops.SendImm imm list) local such more = absurd (true≢false (sym local))
leads-perform R c w P q n finish (ops.SendInv key list) local such more = absurd (true≢false (sym local))
leads-perform R c w P q n finish (ops.Write address key list) local such more = absurd (true≢false (sym local))
leads-perform R c w P q n finish (ops.WriteImm address key imm list) local such more = absurd (true≢false (sym local))
leads-perform R c w P q n finish (ops.Read address key list) local such more = absurd (true≢false (sym local))
leads-perform R c w P q n finish (ops.CmpSwap address key compare swap list) local such more = absurd (true≢false (sym local))
leads-perform R c w P q n finish (ops.FetchAdd address key add list) local such more = absurd (true≢false (sym local))

-- nothing is asked of the key
pub any-such : (c : Configuration) (w : World) (q : QueuePair) (op : SendOp) → EndsSuch (λ key. Unit {0}) c w q op
any-such c w q (ops.Bind1 window key address count rights) = by (bound_key (w.window (window_slot q window)))
  where
    by : (o : Option Key) → IfSome o (λ key. Unit {0})
    by None = record {}
    by (Some key) = record {}
any-such c w q (ops.LocalInv key) = λ is. record {}
any-such c w q (ops.Bind2 window key low address count rights) = record {}
any-such c w q (ops.FastReg region low buffer address count rights pages) = record {}
any-such c w q (ops.Send list) = record {}
any-such c w q (ops.SendImm imm list) = record {}
any-such c w q (ops.SendInv key list) = record {}
any-such c w q (ops.Write address key list) = record {}
any-such c w q (ops.WriteImm address key imm list) = record {}
any-such c w q (ops.Read address key list) = record {}
any-such c w q (ops.CmpSwap address key compare swap list) = record {}
any-such c w q (ops.FetchAdd address key add list) = record {}
