-- An event of others leaves the things of a group as they were. For proofs only.
use Rattle.std.proofs.Common.{◌≡◌, ◌∙◌, ◌&&◌, ◌==◌, Bool, true, false, not, List, [], ◌∷◌, Option, None, Some, IfSome, ap, refl, subst, sym, true≢false}
use Rattle.std.proofs.lemmas.Bool.{and_parts}
use Rattle.std.specs.List.{AllByRecursion}
use Rattle.std.specs.Option.{option_map_or}
use Rattle.ca_base.specs.Configuration.{Configuration}
use Rattle.ca_base.specs.declared.correspondent.Correspondent.{Correspondent}
use Rattle.ca_base.specs.objects.Mailbox.{Mailbox}
use Rattle.ca_base.specs.objects.QueuePair.{correspondent_of}
use Rattle.ca_isolation.specs.Groups.{Group, event_domain, is_of}
use Rattle.ca_keys.specs.Equal.{queue_eq}
use Rattle.ca_keys.specs.Memory.{bytes_at}
use Rattle.ca_keys.specs.Numbers.{domain_of}
use Rattle.ca_keys.specs.declared.names.DomainId.{DomainId}
use Rattle.ca_keys.specs.declared.names.QueueId.{QueueId}
use Rattle.ca_law_isolation.proofs.OtherTurnLemmas.{AllOf, ReachWithin, request-ends-of, respond-ends-of, timeout-ends-of, wake-ends-of}
use Rattle.ca_law_isolation.proofs.TouchLemmas.{touches-of}
use Rattle.ca_law_isolation.specs.Domains.{AcceptsWithin, AreBoundBeside, IsEventOf, IsThingOf, is_thing_of, part_domain}
use Rattle.ca_law_world.proofs.Sound.WorldLemmas.{EndsIn}
use Rattle.ca_model.proofs.FrameLemmas.{after_write}
use Rattle.ca_model.proofs.RestLemmas.{event-leaves, put-leaves}
use Rattle.ca_model.proofs.ThingLemmas.{name-path, queue-path}
use Rattle.ca_model.specs.declared.event.Event.{Event}
use Rattle.ca_model.specs.declared.event.Event.TheVariants as events
use Rattle.ca_model.specs.machine.Frame.{Afterwards, IsNoneOf, LeavesRest, name_eq}
use Rattle.ca_model.specs.machine.Parts.{part_of}
use Rattle.ca_model.specs.machine.Plan.{Did, Finish, If, Look, NotReady, Outcome, Plan, Read, Stuck, Update, Write, perform, put_all, touches, write_all}
use Rattle.ca_model.specs.machine.Sound.{AreLimited, IsSoundWorld}
use Rattle.ca_model.specs.machine.Step.{plan, step}
use Rattle.ca_model.specs.machine.World.{Byte_at, Cq_of, Domain_of, Mailbox_of, Name, Queue_of, Region_of, Srq_of, Window_of, World, get, put}

-- all others
abbrev others : Group → Group
others g d = not (g d)

-- a world in which the things of a group are those of another
abbrev IsKept : Group → World → World → Type 0
IsKept g w v = (n : Name) → is_thing_of g n ≡ true → get v n ≡ get w n

both-false : (b : Bool) → not b ≡ true → b ≡ true → ⊥
both-false true e f = true≢false (sym e)
both-false false e f = true≢false (sym f)

-- no thing of the group is one of others
apart : (g : Group) (n : Name) → is_thing_of g n ≡ true → IsThingOf (others g) n → ⊥
apart g n own other = by (part_domain (part_of n)) own other
  where
    by : (o : Option DomainId) → option_map_or g o false ≡ true → IfSome o (λ d. not (g d) ≡ true) → ⊥
    by None own other = true≢false (sym own)
    by (Some d) own other = both-false (g d) other own

differs : (g : Group) (m n : Name) → is_thing_of g n ≡ true → IsThingOf (others g) m → name_eq m n ≡ false
differs g m n own other = by (name_eq m n) refl
  where
    by : (b : Bool) → name_eq m n ≡ b → b ≡ false
    by true same = absurd (apart g n own (subst (IsThingOf (others g)) (name-path m n same) other))
    by false same = refl

none-of : (g : Group) (ns : List Name) (n : Name) → is_thing_of g n ≡ true → AllByRecursion (IsThingOf (others g)) ns → IsNoneOf n ns
none-of g [] n own all = record {}
none-of g (m ∷ ms) n own all = (differs g m n own all.0, none-of g ms n own all.1)

-- an event that touches things of others alone
pub kept-untouched : (c : Configuration) (w : World) (event : Event) (g : Group) → AllByRecursion (IsThingOf (others g)) (touches w (plan c event)) → Afterwards (IsKept g w) (step c w event)
kept-untouched c w event g all = by (step c w event) (event-leaves c event w)
  where
    by : (o : Outcome) → LeavesRest (touches w (plan c event)) w o → Afterwards (IsKept g w) o
    by (NotReady reason) leaves = record {}
    by (Did v ms) leaves = λ n own. leaves n (none-of g (touches w (plan c event)) n own all)

-- changes of things of others alone
puts-kept : (g : Group) (cs : List Update) (w : World) (n : Name) → is_thing_of g n ≡ true → AllOf (others g) cs → get (put_all cs w) n ≡ get w n
puts-kept g [] w n own all = refl
puts-kept g (x ∷ xs) w n own all = puts-kept g xs (put w x.name x.thing) n own all.1 ∙ put-leaves w x.name x.thing n (differs g x.name n own all.0)

writes-kept : (g : Group) (xs : List Write) (w : World) (n : Name) → is_thing_of g n ≡ true → get (write_all xs w) n ≡ get w n
writes-kept g [] w n own = refl
writes-kept g (x ∷ xs) w n own = writes-kept g xs (after_write x w) n own ∙ by n own
  where
    by : (n : Name) → is_thing_of g n ≡ true → get (after_write x w) n ≡ get w n
    by (Domain_of d) own = refl
    by (Region_of s) own = refl
    by (Window_of s) own = refl
    by (Cq_of s) own = refl
    by (Srq_of s) own = refl
    by (Queue_of q) own = refl
    by (Mailbox_of q) own = refl
    by (Byte_at p) own = absurd (true≢false (sym own))

perform-kept : (g : Group) (p : Plan) (w : World) → EndsIn w (AllOf (others g)) p → Afterwards (IsKept g w) (perform w p)
perform-kept g (Stuck reason) w ends = record {}
perform-kept g (Look x k) w ends = perform-kept g (k (get w x)) w ends
perform-kept g (Read runs k) w ends = perform-kept g (k (bytes_at w.byte runs)) w ends
perform-kept g (If true p q) w ends = perform-kept g p w (ends.0 refl)
perform-kept g (If false p q) w ends = perform-kept g q w (ends.1 refl)
perform-kept g (Finish changes writes marks) w ends = λ n own. writes-kept g writes (put_all changes w) n own ∙ puts-kept g changes w n own ends

-- a queue pair of others reaches no mailbox of the group
reach-others : (g : Group) (w : World) → AcceptsWithin g w → ReachWithin (others g) w
reach-others g w accepts q own peer reaches = by (g (domain_of peer.queue)) refl
  where
    m : Mailbox
    m = w.mailbox peer.queue

    is_sender : Correspondent → Bool
    is_sender p = queue_eq p.queue q.queue && (p.incarnation == (correspondent_of q).incarnation)

    sender : (o : Option Correspondent) → IfSome o (λ p. g (domain_of p.queue) ≡ true) → option_map_or is_sender o false ≡ true → g (domain_of q.queue) ≡ true
    sender None all none = absurd (true≢false (sym none))
    sender (Some p) all same = subst (λ (x : QueueId). g (domain_of x) ≡ true)
        (queue-path p.queue q.queue (and_parts (queue_eq p.queue q.queue) (p.incarnation == (correspondent_of q).incarnation) same).0) all

    by : (b : Bool) → g (domain_of peer.queue) ≡ b → not b ≡ true
    by false is = refl
    by true is = absurd (both-false (g (domain_of q.queue)) own.number
        (sender m.peer (accepts peer.queue is) (and_parts (m.incarnation == peer.incarnation) (option_map_or is_sender m.peer false) reaches).1))

-- an event that is not of the group is of others, or of nobody
of-others : (g : Group) (event : Event) → is_of g event ≡ false → IsEventOf (others g) event
of-others g event = by (event_domain event)
  where
    by : (o : Option DomainId) → option_map_or g o false ≡ false → IfSome o (λ d. not (g d) ≡ true)
    by None is = record {}
    by (Some d) is = ap not is

pub others-keep : (c : Configuration) (w : World) (event : Event) (g : Group) → AreLimited c → IsSoundWorld c w → AreBoundBeside w → AcceptsWithin g w → is_of g event ≡ false
    → Afterwards (IsKept g w) (step c w event)
others-keep c w (events.Verb by verb) g limited sound beside accepts none =
    kept-untouched c w (events.Verb by verb) g (touches-of c w (events.Verb by verb) (others g) limited sound beside (of-others g (events.Verb by verb) none) (record {}))
others-keep c w (events.Deliver queue index) g limited sound beside accepts none =
    kept-untouched c w (events.Deliver queue index) g (touches-of c w (events.Deliver queue index) (others g) limited sound beside (of-others g (events.Deliver queue index) none) (record {}))
others-keep c w (events.Request queue lot) g limited sound beside accepts none =
    perform-kept g (plan c (events.Request queue lot)) w (request-ends-of c (others g) w queue lot sound (of-others g (events.Request queue lot) none) (reach-others g w accepts))
others-keep c w (events.Respond queue lot) g limited sound beside accepts none =
    perform-kept g (plan c (events.Respond queue lot)) w (respond-ends-of c (others g) w queue lot sound (of-others g (events.Respond queue lot) none) (reach-others g w accepts))
others-keep c w (events.Timeout queue hasten) g limited sound beside accepts none =
    perform-kept g (plan c (events.Timeout queue hasten)) w (timeout-ends-of c (others g) w queue hasten sound (of-others g (events.Timeout queue hasten) none))
others-keep c w (events.RnrWake queue) g limited sound beside accepts none =
    perform-kept g (plan c (events.RnrWake queue)) w (wake-ends-of c (others g) w queue sound (of-others g (events.RnrWake queue) none))
