-- What a plan depends on and what it leaves: by induction on the plan, with no event named.
use Rattle.std.proofs.Common.{◌≡◌, ℕ, suc, ◌-◌, ◌⊎◌, inl, inr, Bool, true, false, List, [], ◌∷◌, ◌++◌, map, drop, slice_index_or, if◌then◌else◌, Err, refl, ap, ap₂, ◌∙◌, subst}
use Rattle.ca_keys.specs.declared.place.Place.{Place}
use Rattle.ca_keys.specs.declared.place.Run.{Run}
use Rattle.ca_base.specs.Configuration.{Configuration}
use Rattle.ca_keys.specs.Equal.{domain_eq, place_eq, queue_eq, slot_eq}
use Rattle.ca_keys.specs.Memory.{ByteMap, bytes_at, is_in, memory_after, places_of}
use Rattle.ca_model.specs.declared.event.Event.{Event}
use Rattle.ca_model.specs.machine.Frame.{AllPass, Afterwards, SameAt, SameOutcome, SameOutcomeWhere, SameWhere, TouchesPass}
use Rattle.ca_model.specs.machine.Plan.{Update, Did, Finish, If, Look, NotReady, Outcome, Plan, Read, Stuck, Write, byte_names, perform, put_all, touches, write_all}
use Rattle.ca_model.specs.machine.Run.{Ran, go_on, run_from, with_marks}
use Rattle.ca_model.specs.machine.Step.{plan, step}
use Rattle.ca_model.specs.machine.World.{Byte_at, Cq_of, Domain_of, Mailbox_of, Name, Queue_of, Region_of, Srq_of, Thing, Window_of, World, get, put}

-- the things of all names that have a property are the same in two worlds
abbrev Agree : (Name → Type 0) → World → World → Type 0
Agree P v w = (n : Name) → P n → get v n ≡ get w n

-- all of these names have it
abbrev Within : (Name → Type 0) → List Name → Type 0
Within P [] = Unit {0}
Within P (n ∷ ns) = P n × Within P ns

-- two outcomes have one reason, or the same marks and worlds in which these things are the same
abbrev SameUnder : (Name → Type 0) → Outcome → Outcome → Type 0
SameUnder P (NotReady a) (NotReady b) = a ≡ b
SameUnder P (Did v ms) (Did w ns) = (ms ≡ ns) × Agree P v w
SameUnder P (NotReady a) (Did w ns) = ⊥
SameUnder P (Did v ms) (NotReady b) = ⊥

within-left : (P : Name → Type 0) (xs ys : List Name) → Within P (xs ++ ys) → Within P xs
within-left P [] ys all = record {}
within-left P (x ∷ xs) ys all = (all.0, within-left P xs ys all.1)

within-right : (P : Name → Type 0) (xs ys : List Name) → Within P (xs ++ ys) → Within P ys
within-right P [] ys all = all
within-right P (x ∷ xs) ys all = within-right P xs ys all.1

same-choice : {A : Type 0} {s t : A} (b : Bool) (x : A) → s ≡ t → (if b then x else s) ≡ (if b then x else t)
same-choice true x e = refl
same-choice false x e = e

-- the same change keeps what is the same
put-agree : (P : Name → Type 0) (v w : World) → Agree P v w → (n : Name) (x : Thing n) → Agree P (put v n x) (put w n x)
put-agree P v w agree (Domain_of d) x (Domain_of a) p = same-choice (domain_eq d a) x (agree (Domain_of a) p)
put-agree P v w agree (Region_of d) x (Region_of a) p = same-choice (slot_eq d a) x (agree (Region_of a) p)
put-agree P v w agree (Window_of d) x (Window_of a) p = same-choice (slot_eq d a) x (agree (Window_of a) p)
put-agree P v w agree (Cq_of d) x (Cq_of a) p = same-choice (slot_eq d a) x (agree (Cq_of a) p)
put-agree P v w agree (Srq_of d) x (Srq_of a) p = same-choice (slot_eq d a) x (agree (Srq_of a) p)
put-agree P v w agree (Queue_of d) x (Queue_of a) p = same-choice (queue_eq d a) x (agree (Queue_of a) p)
put-agree P v w agree (Mailbox_of d) x (Mailbox_of a) p = same-choice (queue_eq d a) x (agree (Mailbox_of a) p)
put-agree P v w agree (Byte_at d) x (Byte_at a) p = same-choice (place_eq d a) x (agree (Byte_at a) p)
put-agree P v w agree n x m p = agree m p

puts-agree : (P : Name → Type 0) (cs : List Update) (v w : World) → Agree P v w → Agree P (put_all cs v) (put_all cs w)
puts-agree P [] v w agree = agree
puts-agree P (c ∷ cs) v w agree =
    puts-agree P cs (put v c.name c.thing) (put w c.name c.thing) (put-agree P v w agree c.name c.thing)

memory-agree : (rs : List Run) (m k : ByteMap) (bytes : List ℕ) (p : Place) → m p ≡ k p → memory_after m rs bytes p ≡ memory_after k rs bytes p
memory-agree [] m k bytes p e = e
memory-agree (r ∷ rs) m k bytes p e =
    memory-agree rs (λ q. if is_in r q then slice_index_or bytes (q.offset - r.offset) 0 else m q)
    (λ q. if is_in r q then slice_index_or bytes (q.offset - r.offset) 0 else k q) (drop r.length bytes) p
    (same-choice (is_in r p) (slice_index_or bytes (p.offset - r.offset) 0) e)

abbrev pub after_write : Write → World → World
after_write x w = record w { byte = memory_after w.byte x.runs x.bytes }

write-agree : (P : Name → Type 0) (v w : World) (x : Write) → Agree P v w → Agree P (after_write x v) (after_write x w)
write-agree P v w x agree (Byte_at a) p = memory-agree x.runs v.byte w.byte x.bytes a (agree (Byte_at a) p)
write-agree P v w x agree n p = agree n p

writes-agree : (P : Name → Type 0) (xs : List Write) (v w : World) → Agree P v w → Agree P (write_all xs v) (write_all xs w)
writes-agree P [] v w agree = agree
writes-agree P (x ∷ xs) v w agree = writes-agree P xs (after_write x v) (after_write x w) (write-agree P v w x agree)

bytes-agree : (P : Name → Type 0) (v w : World) (places : List Place) → Agree P v w → Within P (map Byte_at places) → map v.byte places ≡ map w.byte places
bytes-agree P v w [] agree all = refl
bytes-agree P v w (p ∷ ps) agree all = ap₂ (λ b bs. b ∷ bs) (agree (Byte_at p) all.0) (bytes-agree P v w ps agree all.1)

-- what a plan makes depends on what it touches
perform-same : (P : Name → Type 0) (p : Plan) (v w : World) → Agree P v w → Within P (touches v p) → SameUnder P (perform v p) (perform w p)
perform-same P (Stuck reason) v w agree all = refl
perform-same P (Look n k) v w agree all =
    subst (λ x. SameUnder P (perform v (k (get v n))) (perform w (k x))) (agree n all.0) (perform-same P (k (get v n)) v w agree all.1)
perform-same P (Read runs k) v w agree all =
    subst (λ x. SameUnder P (perform v (k (bytes_at v.byte runs))) (perform w (k x)))
    (bytes-agree P v w (places_of runs) agree (within-left P (byte_names runs) _ all))
    (perform-same P (k (bytes_at v.byte runs)) v w agree (within-right P (byte_names runs) _ all))
perform-same P (If true p q) v w agree all = perform-same P p v w agree all
perform-same P (If false p q) v w agree all = perform-same P q v w agree all
perform-same P (Finish changes writes marks) v w agree all =
    (refl, writes-agree P writes (put_all changes v) (put_all changes w) (puts-agree P changes v w agree))

-- a name is one of these
abbrev Is : Name → List Name → Type 0
Is n [] = ⊥
Is n (m ∷ ms) = (m ≡ n) ⊎ Is n ms

same-is : (names : List Name) (v w : World) → SameAt names v w → (n : Name) → Is n names → get v n ≡ get w n
same-is [] v w same n is = absurd is
same-is (m ∷ ms) v w same n (inl e) = subst (λ n. get v n ≡ get w n) e same.0
same-is (m ∷ ms) v w same n (inr is) = same-is ms v w same.1 n is

within-more : (P Q : Name → Type 0) (names : List Name) → ((n : Name) → P n → Q n) → Within P names → Within Q names
within-more P Q [] f all = record {}
within-more P Q (n ∷ ns) f all = (f n all.0, within-more P Q ns f all.1)

within-is : (names : List Name) → Within (λ n. Is n names) names
within-is [] = record {}
within-is (n ∷ ns) = (inl refl, within-more (λ m. Is m ns) (λ m. Is m (n ∷ ns)) ns (λ m is. inr is) (within-is ns))

agree-same : (P : Name → Type 0) (names : List Name) (v w : World) → Within P names → Agree P v w → SameAt names v w
agree-same P [] v w all agree = record {}
agree-same P (n ∷ ns) v w all agree = (agree n all.0, agree-same P ns v w all.1 agree)

under-same : (names : List Name) (a b : Outcome) → SameUnder (λ n. Is n names) a b → SameOutcome names a b
under-same names (NotReady r) (NotReady s) same = same
under-same names (Did v ms) (Did w ns) same = (same.0, agree-same (λ n. Is n names) names v w (within-is names) same.1)
under-same names (NotReady r) (Did w ns) same = absurd same
under-same names (Did v ms) (NotReady s) same = absurd same

pub event-depends : (c : Configuration) (event : Event) (v w : World) → SameAt (touches v (plan c event)) v w
    → SameOutcome (touches v (plan c event)) (step c v event) (step c w event)
event-depends c event v w same =
    under-same (touches v (plan c event)) (step c v event) (step c w event)
    (perform-same (λ n. Is n (touches v (plan c event))) (plan c event) v w
    (same-is (touches v (plan c event)) v w same) (within-is (touches v (plan c event))))

-- a list of events
abbrev Passing : (Name → Bool) → Name → Type 0
Passing test n = test n ≡ true

within-pass : (test : Name → Bool) (names : List Name) → AllPass test names → Within (Passing test) names
within-pass test [] all = record {}
within-pass test (n ∷ ns) all = (all.0, within-pass test ns all.1)

goes-on : (P : Name → Type 0) (n : ℕ) (rest : World → Ran) (Q : World → Type 0) (a b : Outcome)
    → ((v w : World) → Agree P v w → Q v → rest v ≡ rest w)
    → SameUnder P a b → Afterwards Q a → go_on n a rest ≡ go_on n b rest
goes-on P n rest Q (NotReady r) (NotReady s) more same after = ap (λ r. Err (n, r)) same
goes-on P n rest Q (Did v ms) (Did w ns) more same after = ap₂ with_marks same.0 (more v w same.1 after)
goes-on P n rest Q (NotReady r) (Did w ns) more same after = absurd same
goes-on P n rest Q (Did v ms) (NotReady s) more same after = absurd same

pub events-depend : (test : Name → Bool) (c : Configuration) (n : ℕ) (events : List Event) (v w : World)
    → SameWhere test v w → TouchesPass test c v events → run_from c n v events ≡ run_from c n w events
events-depend test c n [] v w same pass = refl
events-depend test c n (event ∷ events) v w same pass =
    goes-on (Passing test) n (λ x. run_from c (suc n) x events) (λ x. TouchesPass test c x events) (step c v event) (step c w event)
    (λ x y agree touch. events-depend test c (suc n) events x y agree touch)
    (perform-same (Passing test) (plan c event) v w same (within-pass test (touches v (plan c event)) pass.0))
    pass.1

-- what an event makes of the things that pass a test, where all that it touches passes
pub event-agrees : (test : Name → Bool) (c : Configuration) (event : Event) (v w : World) → SameWhere test v w → AllPass test (touches v (plan c event))
    → SameOutcomeWhere test (step c v event) (step c w event)
event-agrees test c event v w same pass =
    by (step c v event) (step c w event) (perform-same (Passing test) (plan c event) v w same (within-pass test (touches v (plan c event)) pass))
  where
    by : (a b : Outcome) → SameUnder (Passing test) a b → SameOutcomeWhere test a b
    by (NotReady r) (NotReady s) same = same
    by (Did v ms) (Did w ns) same = same
    by (NotReady r) (Did w ns) same = absurd same
    by (Did v ms) (NotReady s) same = absurd same

touches-agree : (P : Name → Type 0) (p : Plan) (v w : World) → Agree P v w → Within P (touches v p) → touches v p ≡ touches w p
touches-agree P (Stuck reason) v w agree all = refl
touches-agree P (Look n k) v w agree all =
    ap (λ ns. n ∷ ns) (touches-agree P (k (get v n)) v w agree all.1 ∙ ap (λ x. touches w (k x)) (agree n all.0))
touches-agree P (Read runs k) v w agree all =
    ap (λ ns. byte_names runs ++ ns)
    (touches-agree P (k (bytes_at v.byte runs)) v w agree (within-right P (byte_names runs) _ all)
    ∙ ap (λ x. touches w (k x)) (bytes-agree P v w (places_of runs) agree (within-left P (byte_names runs) _ all)))
touches-agree P (If true p q) v w agree all = touches-agree P p v w agree all
touches-agree P (If false p q) v w agree all = touches-agree P q v w agree all
touches-agree P (Finish changes writes marks) v w agree all = refl

-- what an event touches is the same in both worlds
pub event-touches-same : (test : Name → Bool) (c : Configuration) (event : Event) (v w : World) → SameWhere test v w → AllPass test (touches v (plan c event))
    → touches v (plan c event) ≡ touches w (plan c event)
event-touches-same test c event v w same pass = touches-agree (Passing test) (plan c event) v w same (within-pass test (touches v (plan c event)) pass)
