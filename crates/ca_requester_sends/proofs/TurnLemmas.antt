-- What a requester's turn does, by its kind.
use Rattle.std.proofs.Common.{◌≡◌, ℕ, ◌+◌, ◌-◌, ◌<◌, ◌≤◌, nat_lt, ◌||◌, min, max, arith, Bool, true, false, true≢false, refl, ap, ◌∙◌, if◌then◌else◌, List, [], ◌∷◌, ◌++◌, drop, map, length, suc, sum_by, take, None, Some, Result, Ok, Err}
use Rattle.std.proofs.Math.Seq.{take-append_seam}
use Rattle.std.proofs.lemmas.Bool.{le-ltb}
use Rattle.std.proofs.lemmas.Option.{same_Some}
use Rattle.std.proofs.lemmas.List.Sums.{sum_by-cons}
use Rattle.std.specs.List.{flat_map, list_any}
use Rattle.ca_keys.specs.declared.access.Ask.{Ask}
use Rattle.ca_base.specs.declared.limits.TheConstants.{MAX_OUTSTANDING_PACKETS, MAX_OUTSTANDING_PSNS}
use Rattle.ca_base.specs.declared.request.SendOp.{SendOp}
use Rattle.ca_base.specs.declared.request.SendOp.TheVariants as ops
use Rattle.ca_keys.specs.declared.verdict.Verdict.TheVariants as verdicts
use Rattle.ca_base.specs.Sight.{Sight, bytes_in}
use Rattle.ca_base.specs.declared.request.PostedSend.{PostedSend}
use Rattle.ca_base.specs.declared.step.Sent.{Sent}
use Rattle.ca_base.specs.declared.step.ActError.{ActError}
use Rattle.ca_base.specs.declared.step.ActError.TheVariants as steps
use Rattle.ca_model.specs.Marks.{MarkList}
use Rattle.ca_model.specs.machine.Row.{Ending, NotPossible, Does}
use Rattle.ca_qp_rows.specs.Made.{IsTurn}
use Rattle.ca_base.specs.objects.QueuePair.{QueuePair}
use Rattle.ca_base.specs.objects.WorkQueue.{item_at, items_from}
use Rattle.ca_model.specs.Requests.{is_local, psns_of}
use Rattle.ca_model.specs.declared.mark.Mark.{Mark}
use Rattle.ca_model.specs.machine.Invariants.{IsQueue, is_sending}
use Rattle.ca_model.specs.machine.Numbering.{Numbered, is_answered_op, is_read, numbers_of}
use Rattle.ca_model.specs.machine.Requester.{answers_between, end_of_packet, index_of_packet, is_too_much, local_reads, packets_between, psns_between}
use Rattle.ca_qp_rows.proofs.ReadLemmas.{behind_old, bytes_of_reads}
use Rattle.ca_qp_rows.specs.Asks.{bytes_read, mark_of, payload_of, read_marks, reads_by}
use Rattle.ca_requester_sends.specs.declared.numbering.Next.{Next}
use Rattle.ca_requester_sends.proofs.NumberingLemmas.{number_at}
use Rattle.ca_requester_sends.specs.Numbering.{IsNext, begun_from, numbers_from}
use Rattle.ca_requester_sends.specs.Packets.{IsPacket}
use Rattle.ca_requester_sends.specs.Turn.{IsFound, IsPosted}
use Rattle.ca_requester_sends.specs.declared.turn.Found.{Found}

-- the request at the place that was found is the one that it stands for
pub same_next : (q : QueuePair) (f : Found) (p : PostedSend) (next : Next) → Some p ≡ item_at f.place q.sends → IsFound q f next
    → record { request = number_at f.place f.first f.count p; begins = f.begins } ≡ next
same_next q f p next e is =
    let same : p ≡ record { request = next.request.request; drawn = next.request.drawn } =
    same_Some _ _ (e ∙ ap (λ (g : Found). item_at g.place q.sends) is.found ∙ is.sound.posted) in
    rw (same, is.found) refl

-- one is posted there
pub posted_there : (q : QueuePair) (f : Found) → IsPosted q f → None ≡ item_at f.place q.sends → ⊥
posted_there q f is e =
    let none : None ≡ Some _ = e ∙ ap (λ (g : Found). item_at g.place q.sends) is.is.found ∙ is.is.sound.posted in cc

-- a request that is no local operation takes a PSN at least
some-psns : (mtu : ℕ) (op : SendOp) → is_local op ≡ false → 0 < psns_of mtu op
some-psns mtu (ops.Send list) e = omega arith
some-psns mtu (ops.SendImm imm list) e = omega arith
some-psns mtu (ops.SendInv key list) e = omega arith
some-psns mtu (ops.Write address key list) e = omega arith
some-psns mtu (ops.WriteImm address key imm list) e = omega arith
some-psns mtu (ops.Read address key list) e = omega arith
some-psns mtu (ops.CmpSwap address key compare swap list) e = omega arith
some-psns mtu (ops.FetchAdd address key add list) e = omega arith
some-psns mtu (ops.Bind1 window region address count rights) e = absurd (true≢false e)
some-psns mtu (ops.Bind2 window region low address count rights) e = absurd (true≢false e)
some-psns mtu (ops.FastReg region low buffer address count rights pages) e = absurd (true≢false e)
some-psns mtu (ops.LocalInv key) e = absurd (true≢false e)

-- the next thing of a request that is no local operation is one of its packets
pub is_packet : (q : QueuePair) (next : Next) → IsQueue q → is_sending q.state ≡ true → IsNext q next → is_local next.request.request.op ≡ false
    → IsPacket q next.request
is_packet q next is sending it op = record { sound = it.sound; sent = op; index = by next.begins refl }
  where
    by : (b : Bool) → next.begins ≡ b → index_of_packet q next.request < next.request.count
    by false e = omega (arith, (it.within e).0, (it.within e).1)
    by true e = omega (arith, it.at_end e, is.begun sending, it.sound.counted, some-psns q.responder.mtu next.request.request.op op)

-- the marks of pieces that were read, as the requester's row has them
pub marks_read : (s : Sight) (asks : List Ask) → local_reads asks (map (bytes_in s) asks) ≡ read_marks (reads_by s asks)
marks_read s [] = refl
marks_read s (ask ∷ asks) = ap (λ ms. mark_of ask (verdicts.Read (bytes_in s ask)) ∷ ms) (marks_read s asks)

-- the payload, which the marks behind those that there were tell of, is what the asks bring
pub payload-read : (s : Sight) (asks : List Ask) (old new : List Mark) (count : ℕ) (payload : List ℕ) → count ≡ length old
    → new ≡ old ++ read_marks (reads_by s asks) → payload ≡ bytes_read (drop count new) → payload ≡ payload_of (reads_by s asks)
payload-read s asks old new count payload at e p =
    p
    ∙ ap (λ n. bytes_read (drop n new)) at
    ∙ ap bytes_read (behind_old old (read_marks (reads_by s asks)) new e)
    ∙ bytes_of_reads (reads_by s asks)

-- and those bytes are what the requester's row spells
pub reads-joined : (s : Sight) (asks : List Ask) → payload_of (reads_by s asks) ≡ flat_map (λ b. b) (map (bytes_in s) asks)
reads-joined s [] = refl
reads-joined s (ask ∷ asks) = ap (λ bs. bytes_in s ask ++ bs) (reads-joined s asks)

-- the marks that there were stand in front of those that were added
pub front_behind : (old more new : List Mark) → new ≡ old ++ more → take (length old) new ≡ old
front_behind old more new e = ap (take (length old)) e ∙ take-append_seam old more

-- no more PSNs of requests lie between two than there are
few-psns : (f : Numbered → ℕ) (una upto mtu place psn : ℕ) (ps : List PostedSend) → ((n : Numbered) → f n ≤ psns_between una upto n)
    → sum_by f (numbers_of mtu place psn ps) ≤ upto - max una psn
few-psns f una upto mtu place psn [] few = omega arith
few-psns f una upto mtu place psn (p ∷ ps) few =
    omega (
      arith,
      sum_by-cons f n (numbers_of mtu (suc place) (psn + psns_of mtu p.request.op) ps),
      few n,
      few-psns f una upto mtu (suc place) (psn + psns_of mtu p.request.op) ps few,
    )
  where
    n : Numbered
    n = number_at place psn (psns_of mtu p.request.op) p

at-most : (b : Bool) (n : ℕ) → (if b then min 1 n else n) ≤ n
at-most true n = omega arith
at-most false n = omega arith

at-most-one : (b : Bool) (n : ℕ) → (if b then min 1 n else 0) ≤ n
at-most-one true n = omega arith
at-most-one false n = omega arith

-- and no more request packets, and no more READs and atomics
pub few_packets : (q : QueuePair) (place psn una upto most : ℕ) → upto - max una psn ≤ most
    → nat_lt most (sum_by (packets_between una upto) (numbers_from place psn q)) ≡ false
few_packets q place psn una upto most le = le-ltb most (sum_by (packets_between una upto) (numbers_from place psn q))
    (omega (arith, le, few-psns (packets_between una upto) una upto q.responder.mtu place psn (items_from place q.sends) (λ n. at-most (is_read n.request.op) (psns_between una upto n))))

pub few_answers : (q : QueuePair) (place psn una upto most : ℕ) → upto - max una psn ≤ most
    → nat_lt most (sum_by (answers_between una upto) (numbers_from place psn q)) ≡ false
few_answers q place psn una upto most le = le-ltb most (sum_by (answers_between una upto) (numbers_from place psn q))
    (omega (arith, le, few-psns (answers_between una upto) una upto q.responder.mtu place psn (items_from place q.sends) (λ n. at-most-one (is_answered_op n.request.op) (psns_between una upto n))))

none-of-three : (a b c : Bool) → a ≡ false → b ≡ false → c ≡ false → (a || b || c) ≡ false
none-of-three a b c e f g = rw (e, f, g) refl

-- where no more PSNs lie there than READs may, too much does not
pub little : (q : QueuePair) (n : Numbered) → IsQueue q → end_of_packet q n - q.requester.una ≤ q.requester.reads → is_too_much q n ≡ false
little q n is le = none-of-three _ _ _
    (le-ltb MAX_OUTSTANDING_PSNS (upto - q.requester.una) (omega (arith, le, is.requester.reads)))
    (few_packets q q.requester.oldest q.requester.oldest_psn q.requester.una upto MAX_OUTSTANDING_PACKETS (omega (arith, le, is.requester.reads)))
    (few_answers q q.requester.oldest q.requester.oldest_psn q.requester.una upto q.requester.reads (omega (arith, le)))
  where
    upto : ℕ
    upto = end_of_packet q n

-- a turn from marks is one from others that are the same, whatever room there is
pub turn_before : {S : Type 0} (written : S → Ask → List ℕ → S) (r : Result Sent ActError) (ending : Ending) (q after : QueuePair) (old same new : MarkList)
    (reach reached : S) (out spelt : List ℕ) → same.marks ≡ old.marks
    → IsTurn written r ending q after same new reach reached out spelt → IsTurn written r ending q after old new reach reached out spelt
turn_before written (Ok sent) (Does e) q after old same new reach reached out spelt is t =
    (t.0, (record { queue = t.1.0.queue; marks = t.1.0.marks ∙ ap (λ ms. ms ++ e.marks) is; room = t.1.0.room }, t.1.1))
turn_before written (Ok sent) (NotPossible reason) q after old same new reach reached out spelt is t = t
turn_before written (Err (steps.NotReady reason)) ending q after old same new reach reached out spelt is t =
    (t.0, (record { queue = t.1.0.queue; marks = t.1.0.marks ∙ is }, t.1.1))
turn_before written (Err steps.Memory) ending q after old same new reach reached out spelt is t =
    (record { queue = t.0.queue; marks = t.0.marks ∙ is }, t.1)

-- whether one of the requests from a place on is a READ or an atomic, where the first is none
pub any_behind : (q : QueuePair) (place next psn more : ℕ) (n : Numbered) → next ≡ suc place → more ≡ psn + n.count → place < q.requester.next
    → numbers_from place psn q ≡ n ∷ numbers_from (suc place) (psn + n.count) q → is_answered_op n.request.op ≡ false
    → list_any (λ m. is_answered_op m.request.op) (begun_from next more q) ≡ list_any (λ m. is_answered_op m.request.op) (begun_from place psn q)
any_behind q place next psn more n one on before step other =
    let far : q.requester.next - place ≡ suc (q.requester.next - suc place) = omega (arith, before) in
    rw (one, on, step, far, other) refl
