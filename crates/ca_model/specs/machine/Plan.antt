-- Plans: what an event does, as a text that looks at things and then changes them. What it looks at, it names. Contracts
-- cite it.
use Rattle.std.specs.Prelude.{ℕ, Bool, if◌then◌else◌, List, [], ◌∷◌, ◌++◌, map}
use Rattle.ca_keys.specs.declared.place.Run.{Run}
use Rattle.ca_base.specs.declared.step.Reason.{Reason}
use Rattle.ca_keys.specs.Memory.{bytes_at, memory_after, places_of}
use Rattle.ca_model.specs.declared.mark.Mark.{Mark}
use Rattle.ca_model.specs.machine.World.{World, Name, Byte_at, Thing, get, put}

-- another thing under a name
pub record Update : Type 0 where
  pub name : Name
  pub thing : Thing name

infix 10 ◌:=◌
abbrev pub ◌:=◌ : (n : Name) → Thing n → Update
n := v = record { name = n; thing = v }

-- bytes for the places of runs
pub record Write : Type 0 where
  pub runs : List Run
  pub bytes : List ℕ

-- An event is not possible for a reason; or it looks at a thing, or reads the bytes of runs, and goes on with what it
-- saw; or it branches; or it is done, with these changes, writes and marks. All looks come before all changes.
pub data Plan : Type 0 where
  Stuck : Reason → Plan
  Look : (n : Name) → (Thing n → Plan) → Plan
  Read : List Run → (List ℕ → Plan) → Plan
  If : Bool → Plan → Plan → Plan
  Finish : List Update → List Write → List Mark → Plan

-- what comes of an event: it is not possible, or there is another world, and there are marks
pub data Outcome : Type 0 where
  NotReady : Reason → Outcome
  Did : World → List Mark → Outcome

-- all changes, in order
abbrev pub put_all : List Update → World → World
put_all [] w = w
put_all (c ∷ cs) w = put_all cs (put w c.name c.thing)

-- all writes, in order
abbrev pub write_all : List Write → World → World
write_all [] w = w
write_all (x ∷ xs) w = write_all xs (record w { byte = memory_after w.byte x.runs x.bytes })

-- what a plan does in a world
abbrev pub perform : World → Plan → Outcome
perform w (Stuck reason) = NotReady reason
perform w (Look n k) = perform w (k (get w n))
perform w (Read runs k) = perform w (k (bytes_at w.byte runs))
perform w (If test p q) = if test then perform w p else perform w q
perform w (Finish changes writes marks) = Did (write_all writes (put_all changes w)) marks

-- the names of the bytes of runs
abbrev pub byte_names : List Run → List Name
byte_names runs = map Byte_at (places_of runs)

-- the names that changes and writes touch
abbrev pub names_updated : List Update → List Name
names_updated [] = []
names_updated (c ∷ cs) = c.name ∷ names_updated cs

abbrev pub names_written : List Write → List Name
names_written [] = []
names_written (x ∷ xs) = byte_names x.runs ++ names_written xs

-- the names of all things that a plan looks at or changes in a world
abbrev pub touches : World → Plan → List Name
touches w (Stuck reason) = []
touches w (Look n k) = n ∷ touches w (k (get w n))
touches w (Read runs k) = byte_names runs ++ touches w (k (bytes_at w.byte runs))
touches w (If test p q) = if test then touches w p else touches w q
touches w (Finish changes writes marks) = names_updated changes ++ names_written writes

-- the first refusal that holds decides, and else the plan goes on
abbrev pub unless_refused : {R : Type 0} → List (Bool × R) → (R → Plan) → Plan → Plan
unless_refused [] refuse p = p
unless_refused (t ∷ ts) refuse p = If t.0 (refuse t.1) (unless_refused ts refuse p)
