-- A delivery as one change of a queue pair and its mailbox, by an ending of the row that the bytes meet.
use Rattle.std.proofs.Common.{◌≡◌, ℕ, Bool, true, false, if◌then◌else◌, List, [], ◌∷◌, ◌++◌, Option, None, Some, refl, sym, subst}
use Rattle.std.specs.Option.{option_map}
use Rattle.ca_law_endings.proofs.LeadsLemmas.{AreAside, IsAsideName, leads-around, leads-row}
use Rattle.ca_law_endings.specs.Runs.{Leads}
use Rattle.ca_base.specs.Configuration.{Configuration}
use Rattle.ca_base.specs.declared.denied_ask.DeniedAsk.{DeniedAsk}
use Rattle.ca_base.specs.declared.refusals.OpRefusal.{OpRefusal}
use Rattle.ca_base.specs.declared.step.Reason.TheVariants as reasons
use Rattle.ca_base.specs.objects.Mailbox.{Mailbox, after_delivery, bytes_lent}
use Rattle.ca_base.specs.objects.QueuePair.{QueuePair, QueueSlot, NoQueue, Present, srq_of}
use Rattle.ca_base.specs.objects.SharedReceives.{SharedReceives, SrqSlot, after_receive_take}
use Rattle.ca_keys.specs.Equal.{queue_eq}
use Rattle.ca_keys.specs.Memory.{memory_after}
use Rattle.ca_keys.specs.declared.names.QueueId.{QueueId}
use Rattle.ca_law_world.proofs.Sound.WorldLemmas.{EndingDoes, RowDoes, around_in, shared_of}
use Rattle.ca_model.specs.Past.{with_at}
use Rattle.ca_model.specs.declared.mark.Mark.{Mark}
use Rattle.ca_model.specs.declared.mark.Mark.TheVariants as marks
use Rattle.ca_model.specs.machine.Around.{Around, shared_in, srq_updates, updates_of}
use Rattle.ca_model.specs.machine.Delivery.{Arrive, arrival_row, deliver_plan}
use Rattle.ca_model.specs.machine.Plan.{Plan, Stuck, Look, Finish, Update, ◌:=◌, Write, put_all, write_all}
use Rattle.ca_model.specs.machine.Row.{Does, Effects, Ending, NotPossible, Row, Row_plan}
use Rattle.ca_model.specs.machine.Sound.{IsQueueOf, IsSoundWorld}
use Rattle.ca_model.specs.machine.World.{Byte_at, Cq_of, Domain_of, Mailbox_of, Name, Queue_of, Region_of, Srq_of, Thing, Window_of, World, put}
use Rattle.ca_model.specs.machine.Invariants.{IsQueue}
use Rattle.ca_law_once.specs.Moves.{EndingLeads, RowLeads, numbers_found, writes_told}

-- an ending of a row
pub data Ends (row : Row) (e : Effects) : Type 0 where
  by_denial : (d : DeniedAsk) → row.denied d ≡ Does e → Ends row e
  by_leave : (bytes : List (List ℕ)) (refusal : Option OpRefusal) → row.allowed bytes refusal ≡ Does e → Ends row e

pub ends-do : (P : Effects → Type 0) (row : Row) (e : Effects) → Ends row e → RowLeads P row → P e
ends-do P row e (by_denial d is) leads = subst (EndingLeads P) is (leads.denied d)
ends-do P row e (by_leave bytes refusal is) leads = subst (EndingLeads P) is (leads.allowed bytes refusal)

-- every row ends by its endings
pub row-ends : (row : Row) → RowDoes (Ends row) row
row-ends row = record { denied = λ d. denied d (row.denied d) refl; allowed = λ bytes refusal. allowed bytes refusal (row.allowed bytes refusal) refl }
  where
    denied : (d : DeniedAsk) (e : Ending) → row.denied d ≡ e → EndingDoes (Ends row) e
    denied d (NotPossible reason) is = record {}
    denied d (Does e) is = by_denial d is

    allowed : (bytes : List (List ℕ)) (refusal : Option OpRefusal) (e : Ending) → row.allowed bytes refusal ≡ e → EndingDoes (Ends row) e
    allowed bytes refusal (NotPossible reason) is = record {}
    allowed bytes refusal (Does e) is = by_leave bytes refusal is

-- what holds of each ending by the words of another crate
pub ends-as : (P : Effects → Type 0) (row : Row) → RowDoes P row → RowLeads P row
ends-as P row does = record { denied = λ d. by (row.denied d) (does.denied d); allowed = λ bytes refusal. by (row.allowed bytes refusal) (does.allowed bytes refusal) }
  where
    by : (e : Ending) → EndingDoes P e → EndingLeads P e
    by (NotPossible reason) does = record {}
    by (Does e) does = does

-- ---- which queue pairs and mailboxes stand there

-- a world with these queue pairs and these mailboxes
pub record Has (queues : QueueId → QueueSlot) (boxes : QueueId → Mailbox) (v : World) : Type 0 where
  pub queue : v.queue ≡ queues
  pub mailbox : v.mailbox ≡ boxes

pub has-writes : (queues : QueueId → QueueSlot) (boxes : QueueId → Mailbox) (ws : List Write) (v : World) → Has queues boxes v → Has queues boxes (write_all ws v)
has-writes queues boxes [] v has = has
has-writes queues boxes (x ∷ xs) v has = has-writes queues boxes xs (record v { byte = memory_after v.byte x.runs x.bytes }) (record { queue = has.queue; mailbox = has.mailbox })

aside-one : (queues : QueueId → QueueSlot) (boxes : QueueId → Mailbox) (v : World) (n : Name) (x : Thing n) → IsAsideName n → Has queues boxes v → Has queues boxes (put v n x)
aside-one queues boxes v (Region_of s) x aside has = record { queue = has.queue; mailbox = has.mailbox }
aside-one queues boxes v (Window_of s) x aside has = record { queue = has.queue; mailbox = has.mailbox }
aside-one queues boxes v (Domain_of d) x aside has = absurd aside
aside-one queues boxes v (Cq_of s) x aside has = absurd aside
aside-one queues boxes v (Srq_of s) x aside has = absurd aside
aside-one queues boxes v (Byte_at p) x aside has = absurd aside
aside-one queues boxes v (Queue_of q) x aside has = absurd aside
aside-one queues boxes v (Mailbox_of q) x aside has = absurd aside

pub has-aside : (queues : QueueId → QueueSlot) (boxes : QueueId → Mailbox) (us : List Update) (v : World) → AreAside us → Has queues boxes v → Has queues boxes (put_all us v)
has-aside queues boxes [] v aside has = has
has-aside queues boxes (u ∷ us) v aside has = has-aside queues boxes us (put v u.name u.thing) aside.1 (aside-one queues boxes v u.name u.thing aside.0 has)

pub puts-append : (us vs : List Update) (w : World) → put_all (us ++ vs) w ≡ put_all vs (put_all us w)
puts-append [] vs w = refl
puts-append (u ∷ us) vs w = puts-append us vs (put w u.name u.thing)

has-srq : (queues : QueueId → QueueSlot) (boxes : QueueId → Mailbox) (q : QueuePair) (a : Around) (b : Bool) (v : World) → Has queues boxes v
    → Has queues boxes (put_all (if b then srq_updates q a after_receive_take else []) v)
has-srq queues boxes q a false v has = has
has-srq queues boxes q a true v has = by q.srq a.shared
  where
    updates : Option ℕ → Option SrqSlot → List Update
    updates (Some srq) (Some slot) = (Srq_of (srq_of q srq) := record slot { srq = option_map after_receive_take slot.srq }) ∷ []
    updates srq slot = []

    by : (o : Option ℕ) (t : Option SrqSlot) → Has queues boxes (put_all (updates o t) v)
    by None t = has
    by (Some srq) None = has
    by (Some srq) (Some slot) = record { queue = has.queue; mailbox = has.mailbox }

-- what effects change around a queue pair, and the queue pair itself
pub has-turn : (w : World) (q : QueuePair) (a : Around) (e : Effects) → Has (with_at queue_eq w.queue q.queue (Present e.queue)) w.mailbox (put_all (updates_of q a e) w)
has-turn w q a e = has-srq _ w.mailbox q a e.takes_shared _ (record { queue = refl; mailbox = refl })

-- a queue pair and a mailbox changed, and nothing else of queue pairs and mailboxes
abbrev pub Changes : World → QueueId → QueueSlot → Mailbox → World → Type 0
Changes w name slot m v = Has (with_at queue_eq w.queue name slot) (with_at queue_eq w.mailbox name m) v

-- a delivery changes the queue pair by an ending of its row, and counts in the mailbox
pub leads-deliver : (c : Configuration) (w : World) (P : World → List Mark → Type 0) (name : QueueId) (index : ℕ) → IsSoundWorld c w
    → ((q : QueuePair) (bytes : List ℕ) (shared : Option SharedReceives) (e : Effects) (v : World) (ms : List Mark) → w.queue name ≡ Present q → IsQueue q → bytes_lent index (w.mailbox name) ≡ Some bytes
    → Ends (arrival_row bytes (Some index) shared q) e → Changes w name (Present e.queue) (after_delivery index (w.mailbox name)) v → numbers_found ms ≡ numbers_found e.marks → writes_told ms ≡ writes_told e.marks → P v ms)
    → Leads w P (deliver_plan c name index)
leads-deliver c w P name index sound more = (λ has. lent (bytes_lent index m) refl, λ none. record {})
  where
    m : Mailbox
    m = w.mailbox name

    after : Mailbox
    after = after_delivery index m

    at : List ℕ → QueueSlot → Plan
    at bytes (NoQueue incarnation timers) = Stuck reasons.NotKept
    at bytes (Present q) = Arrive c q bytes (Some index) ((Mailbox_of name := after) ∷ []) []

    under_way : Option (List ℕ) → Plan
    under_way None = Stuck reasons.NotKept
    under_way (Some bytes) = Look (Queue_of name) (at bytes)

    arrives : (bytes : List ℕ) (q : QueuePair) → w.queue name ≡ Present q → bytes_lent index m ≡ Some bytes → Leads w P (Arrive c q bytes (Some index) ((Mailbox_of name := after) ∷ []) [])
    arrives bytes q is lent = leads-around w P q (λ a. Row_plan c (row a) (finish a)) (leads-row c w P (Ends (row a)) (row a) (finish a) (row-ends (row a)) (λ e cs ws ends aside. ended e cs ws ends aside))
      where
        a : Around
        a = around_in w q (shared_of w q)

        row : Around → Row
        row a = arrival_row bytes (Some index) (shared_in a) q

        finish : Around → Effects → List Update → List Write → Plan
        finish a e cs ws = Finish (((Mailbox_of name := after) ∷ []) ++ (updates_of q a e ++ cs)) ws ([] ++ marks.Arrived q.queue (Some index) ∷ e.marks)

        there : (q.queue ≡ name) × IsQueue q
        there = by (subst (IsQueueOf name) is (sound.things (Queue_of name)))
          where
            by : IsQueueOf name (Present q) → (q.queue ≡ name) × IsQueue q
            by s = (s.0, s.2)

        boxed : World
        boxed = put w (Mailbox_of name) after

        ended : (e : Effects) (cs : List Update) (ws : List Write) → Ends (row a) e → AreAside cs
            → P (write_all ws (put_all (updates_of q a e ++ cs) boxed)) (marks.Arrived q.queue (Some index) ∷ e.marks)
        ended e cs ws ends aside = more q bytes (shared_in a) e _ _ is there.1 lent ends
            (subst (λ n. Has (with_at queue_eq w.queue n (Present e.queue)) (with_at queue_eq w.mailbox name after) (write_all ws (put_all (updates_of q a e ++ cs) boxed))) there.0
            (has-writes _ _ ws (put_all (updates_of q a e ++ cs) boxed)
            (subst (Has (with_at queue_eq w.queue q.queue (Present e.queue)) (with_at queue_eq w.mailbox name after)) (sym (puts-append (updates_of q a e) cs boxed))
            (has-aside _ _ cs (put_all (updates_of q a e) boxed) aside (has-turn boxed q a e))))) refl refl

    slot : (bytes : List ℕ) → bytes_lent index m ≡ Some bytes → (s : QueueSlot) → w.queue name ≡ s → Leads w P (at bytes s)
    slot bytes lent (NoQueue incarnation timers) is = record {}
    slot bytes lent (Present q) is = arrives bytes q is lent

    lent : (o : Option (List ℕ)) → bytes_lent index m ≡ o → Leads w P (under_way o)
    lent None is = record {}
    lent (Some bytes) is = slot bytes is (w.queue name) refl
