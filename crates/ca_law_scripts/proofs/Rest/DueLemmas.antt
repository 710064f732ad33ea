-- What is undelivered at a queue pair can be delivered: an envelope is due, and its delivery is possible. For proofs only.
use Rattle.std.proofs.Common.{◌≡◌, ℕ, suc, ◌+◌, ◌-◌, ◌<◌, ◌≤◌, ◌&&◌, ◌||◌, Bool, true, false, not, nat_lt, if◌then◌else◌, List, [], ◌∷◌, ◌++◌, length, Option, None, Some, filter, slice_get, refl, ap, sym, ◌∙◌, subst, arith, true≢false}
use Rattle.std.proofs.lemmas.Bool.Decides.{nat_tests}
use Rattle.std.proofs.lemmas.Option.{same_Some}
use Rattle.std.specs.List.{list_any}
use Rattle.std.specs.Option.{option_and_then, option_or}
use Rattle.ca_base.specs.Configuration.{Configuration}
use Rattle.ca_base.specs.declared.lot.Lot.{Lot}
use Rattle.ca_base.specs.declared.lot.Lot.TheVariants.{Pass, Lose, Repeat, Hold}
use Rattle.ca_base.specs.declared.mail_envelope.MailEnvelope.{MailEnvelope}
use Rattle.ca_base.specs.declared.step.Reason.TheVariants as reasons
use Rattle.ca_base.specs.objects.Mailbox.{Mailbox, after_delivery, bytes_lent, due, due_from, deliveries, is_hold, is_lost, is_ready, is_undelivered, only_holds, undelivered_count}
use Rattle.ca_base.specs.objects.QueuePair.{QueuePair, QueueSlot, NoQueue, Present}
use Rattle.ca_base.specs.objects.Slices.{has_queue}
use Rattle.ca_keys.specs.declared.names.QueueId.{QueueId}
use Rattle.ca_model.proofs.PerformLemmas.{around-performs, around_at}
use Rattle.ca_model.specs.declared.mark.Mark.TheVariants as marks
use Rattle.ca_model.specs.machine.Around.{Around, shared_in, updates_of}
use Rattle.ca_model.specs.machine.Delivery.{Arrive, arrival_row, deliver_plan}
use Rattle.ca_model.specs.machine.Plan.{Finish, Look, NotReady, Plan, Stuck, Update, Write, perform, ◌:=◌}
use Rattle.ca_model.specs.machine.Row.{Effects, Row_plan}
use Rattle.ca_model.specs.machine.World.{Mailbox_of, Queue_of, World}
use Rattle.ca_law_scripts.proofs.Rest.HappensLemmas.{Happens, arrival-does, happens-row, is_done}

-- ---- an envelope is due

-- the envelope of an index before this one, with so many before it
record IsFound (es : List MailEnvelope) (next i : ℕ) : Type 0 where
  before : ℕ
  envelope : MailEnvelope
  at : slice_get es before ≡ Some envelope
  undelivered : is_undelivered envelope ≡ true
  number : i + suc before ≡ next

and-first : (a b : Bool) → (a && b) ≡ true → a ≡ true
and-first true b is = refl
and-first false b is = is

due-found : (all_held : Bool) (next later : ℕ) (es : List MailEnvelope) (i : ℕ) → length es ≤ next → due_from all_held next later es ≡ Some i → IsFound es next i
due-found all_held next later [] i short is = absurd cc
due-found all_held next later (e ∷ es) i short is =
    by (λ j so. due-found all_held (next - 1) (if nat_lt 0 e.delivered then suc later else later) es j (omega (arith, short)) so)
    (due_from all_held (next - 1) (if nat_lt 0 e.delivered then suc later else later) es) (is_undelivered e && is_ready all_held later e.lot) refl refl is
  where
    by : ((j : ℕ) → due_from all_held (next - 1) (if nat_lt 0 e.delivered then suc later else later) es ≡ Some j → IsFound es (next - 1) j)
        → (o : Option ℕ) (b : Bool) → due_from all_held (next - 1) (if nat_lt 0 e.delivered then suc later else later) es ≡ o → (is_undelivered e && is_ready all_held later e.lot) ≡ b
        → option_or o (if b then Some (next - 1) else None) ≡ Some i → IsFound (e ∷ es) next i
    by rest (Some j) b found ready is =
        let there : IsFound es (next - 1) j = rest j found
        in record {
          before = suc there.before;
          envelope = there.envelope;
          at = there.at;
          undelivered = there.undelivered;
          number = omega (arith, there.number, short, same_Some j i is);
        }
    by rest None true found ready is = record {
      before = 0;
      envelope = e;
      at = refl;
      undelivered = and-first (is_undelivered e) (is_ready all_held later e.lot) ready;
      number = omega (arith, short, same_Some (next - 1) i is);
    }
    by rest None false found ready is = absurd cc

-- an undelivered envelope that is no hold, or where all are holds
abbrev may_go : Bool → MailEnvelope → Bool
may_go all_held e = is_undelivered e && (all_held || not (is_hold e.lot))

go-ready : (all_held : Bool) (later : ℕ) (lot : Lot) → (all_held || not (is_hold lot)) ≡ true → is_ready all_held later lot ≡ true
go-ready all_held later Pass goes = refl
go-ready all_held later Lose goes = refl
go-ready all_held later (Repeat k) goes = refl
go-ready true later (Hold k) goes = refl
go-ready false later (Hold k) goes = absurd (true≢false (sym goes))

-- some envelope is due
record SomeDue (o : Option ℕ) : Type 0 where
  index : ℕ
  is : o ≡ Some index

due-some : (all_held : Bool) (next later : ℕ) (es : List MailEnvelope) → list_any (may_go all_held) es ≡ true → SomeDue (due_from all_held next later es)
due-some all_held next later [] goes = absurd (true≢false (sym goes))
due-some all_held next later (e ∷ es) goes =
    by (λ others. due-some all_held (next - 1) (if nat_lt 0 e.delivered then suc later else later) es others)
    (is_undelivered e) (all_held || not (is_hold e.lot)) refl refl (list_any (may_go all_held) es) refl goes
  where
    rest : Option ℕ
    rest = due_from all_held (next - 1) (if nat_lt 0 e.delivered then suc later else later) es

    behind : (b : Bool) → SomeDue rest → SomeDue (option_or rest (if b then Some (next - 1) else None))
    behind b there = record { index = there.index; is = ap (λ o. option_or o (if b then Some (next - 1) else None)) there.is }

    first : (o : Option ℕ) → SomeDue (option_or o (Some (next - 1)))
    first (Some j) = record { index = j; is = refl }
    first None = record { index = next - 1; is = refl }

    by : (list_any (may_go all_held) es ≡ true → SomeDue rest) → (a b : Bool) → is_undelivered e ≡ a → (all_held || not (is_hold e.lot)) ≡ b → (c : Bool) → list_any (may_go all_held) es ≡ c
        → ((a && b) || c) ≡ true → SomeDue (option_or rest (if is_undelivered e && is_ready all_held later e.lot then Some (next - 1) else None))
    by more a b undelivered goes true others is = behind (is_undelivered e && is_ready all_held later e.lot) (more others)
    by more true true undelivered goes false others is =
        subst (λ x. SomeDue (option_or rest (if x && is_ready all_held later e.lot then Some (next - 1) else None))) (sym undelivered)
        (subst (λ x. SomeDue (option_or rest (if x then Some (next - 1) else None))) (sym (go-ready all_held later e.lot goes)) (first rest))
    by more true false undelivered goes false others is = absurd (true≢false (sym is))
    by more false b undelivered goes false others is = absurd (true≢false (sym is))

any-undelivered : (es : List MailEnvelope) → 0 < undelivered_count es → list_any (λ e. is_undelivered e && true) es ≡ true
any-undelivered [] some = absurd (omega (arith, some))
any-undelivered (e ∷ es) some = by (λ more. any-undelivered es more) (is_undelivered e) some
  where
    by : (0 < undelivered_count es → list_any (λ e. is_undelivered e && true) es ≡ true) → (b : Bool) → 0 < length (if b then e ∷ filter is_undelivered es else filter is_undelivered es)
        → ((b && true) || list_any (λ e. is_undelivered e && true) es) ≡ true
    by rest true some = refl
    by rest false some = rest some

any-goes : (es : List MailEnvelope) → 0 < undelivered_count es → list_any (may_go (only_holds es)) es ≡ true
any-goes es some = by (list_any (λ e. is_undelivered e && not (is_hold e.lot)) es) refl
  where
    by : (b : Bool) → list_any (λ e. is_undelivered e && not (is_hold e.lot)) es ≡ b → list_any (may_go (not b)) es ≡ true
    by true is = is
    by false is = any-undelivered es some

-- an envelope is due, and its bytes can be delivered
pub record IsDue (m : Mailbox) : Type 0 where
  pub index : ℕ
  pub bytes : List ℕ
  pub due_is : due m ≡ Some index
  pub lent : bytes_lent index m ≡ Some bytes

not-lost : (e : MailEnvelope) → is_undelivered e ≡ true → is_lost e.lot ≡ false
not-lost e some = by e.lot some
  where
    by : (lot : Lot) → nat_lt e.delivered (deliveries lot) ≡ true → is_lost lot ≡ false
    by Pass some = refl
    by Lose some = absurd (grind (arith, nat_tests))
    by (Repeat k) some = refl
    by (Hold k) some = refl

pub undelivered-due : (m : Mailbox) → length m.envelopes ≤ m.next → 0 < undelivered_count m.envelopes → IsDue m
undelivered-due m came some = by (due-some (only_holds m.envelopes) m.next 0 m.envelopes (any-goes m.envelopes some))
  where
    lends : (i : ℕ) (f : IsFound m.envelopes m.next i) → bytes_lent i m ≡ Some f.envelope.bytes
    lends i f =
        let within : nat_lt i m.next ≡ true = grind (arith, nat_tests, f.number)
        in let back : m.next - suc i ≡ f.before = omega (arith, f.number)
        in ap (λ b. option_and_then (λ e. if is_lost e.lot then None else Some e.bytes) (if b then slice_get m.envelopes (m.next - suc i) else None)) within
        ∙ ap (λ k. option_and_then (λ e. if is_lost e.lot then None else Some e.bytes) (slice_get m.envelopes k)) back
        ∙ ap (λ o. option_and_then (λ e. if is_lost e.lot then None else Some e.bytes) o) f.at
        ∙ ap (λ b. if b then None else Some f.envelope.bytes) (not-lost f.envelope f.undelivered)

    by : SomeDue (due m) → IsDue m
    by one =
        let found : IsFound m.envelopes m.next one.index = due-found (only_holds m.envelopes) m.next 0 m.envelopes one.index came one.is
        in record { index = one.index; bytes = found.envelope.bytes; due_is = one.is; lent = lends one.index found }

-- ---- its delivery is possible

pub deliver-happens : (c : Configuration) (w : World) (name : QueueId) (index : ℕ) (q : QueuePair) (bytes : List ℕ) → has_queue c name ≡ true → w.queue name ≡ Present q
    → bytes_lent index (w.mailbox name) ≡ Some bytes → Happens w (deliver_plan c name index)
deliver-happens c w name index q bytes has there lends =
    ap (λ b. is_done (if b then perform w (lent (bytes_lent index m)) else NotReady reasons.NotKept)) has
    ∙ ap (λ o. is_done (perform w (lent o))) lends
    ∙ ap (λ s. is_done (perform w (at bytes s))) there
    ∙ ap is_done (around-performs w q (λ a. Row_plan c (arrival_row bytes (Some index) (shared_in a) q) (finish a)))
    ∙ happens-row c w (arrival_row bytes (Some index) (shared_in (around_at w q)) q) (finish (around_at w q)) (arrival-does bytes (Some index) (shared_in (around_at w q)) q) (λ e changes writes. refl)
  where
    m : Mailbox
    m = w.mailbox name

    finish : Around → Effects → List Update → List Write → Plan
    finish a e more writes = Finish ((Mailbox_of name := after_delivery index m) ∷ (updates_of q a e ++ more)) writes (marks.Arrived q.queue (Some index) ∷ e.marks)

    at : List ℕ → QueueSlot → Plan
    at bytes (NoQueue incarnation timers) = Stuck reasons.NotKept
    at bytes (Present queue) = Arrive c queue bytes (Some index) ((Mailbox_of name := after_delivery index m) ∷ []) []

    lent : Option (List ℕ) → Plan
    lent None = Stuck reasons.NotKept
    lent (Some bytes) = Look (Queue_of name) (at bytes)
