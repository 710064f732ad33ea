-- The made script of a seed: two adapters whose four pairs of queue pairs are connected, and 200 requests of each of the
-- first adapter's, drawn from a generator. Contracts cite it.
use Rattle.std.specs.Prelude.{ℕ, zero, suc, ◌+◌, ◌-◌, ◌*◌, ◌/◌, ◌%◌, ◌==◌, true, false, if◌then◌else◌, List, [], ◌∷◌, ◌++◌, None}
use Rattle.rand_pcg.specs.Lcg.{Lcg, started, increment_of}
use Rattle.rand_pcg.specs.Pcg.{multiplier_64, pcg32}
use Rattle.ca_base.specs.declared.change.Change.TheVariants as changes
use Rattle.ca_base.specs.declared.limits.TheConstants.{MAX_EVENTS}
use Rattle.ca_base.specs.declared.request.Piece.{Piece}
use Rattle.ca_base.specs.declared.request.SendOp.{SendOp}
use Rattle.ca_base.specs.declared.request.SendOp.TheVariants as ops
use Rattle.ca_base.specs.Configuration.{Adapter}
use Rattle.ca_keys.specs.declared.key.Key.{Key}
use Rattle.ca_keys.specs.declared.names.Slot.{Slot}
use Rattle.ca_keys.specs.declared.rights.Rights.{Rights}
use Rattle.ca_mailbox.specs.declared.weather.Weather.TheVariants.{Seeded}
use Rattle.ca_model.specs.declared.verb.Verb.{Verb}
use Rattle.ca_model.specs.declared.verb.Verb.TheVariants as verbs
use Rattle.ca_script_lines.specs.declared.what.Line.{Line}
use Rattle.ca_script_lines.specs.declared.what.What.TheVariants as whats
use Rattle.ca_script.specs.Script.{ScriptValue}
use Rattle.ca_script.specs.Setup.{plain_adapter}

-- what a function gives for so many numbers from this one on
abbrev pub each_from : {Y : Type 0} → (ℕ → Y) → ℕ → ℕ → List Y
each_from f i zero = []
each_from f i (suc n) = f i ∷ each_from f (i + 1) n

-- ---- the generator

-- what the generator of a seed and a stream begins with; `pcg32` is the word that it gives next, and what it is then
abbrev pub generator : ℕ → ℕ → Lcg
generator seed stream = started 64 multiplier_64 seed (increment_of 64 stream)

-- ---- a pair

-- object 0 of a domain
abbrev pub first_slot : ℕ → ℕ → Slot
first_slot adapter domain = record { domain = record { adapter = adapter; domain = domain }; slot = 0 }

abbrev pub all_rights : Rights
all_rights = record { local_write = true; remote_read = true; remote_write = true; remote_atomic = true; window_bind = true }

-- one side of a pair: domain d of an adapter with its region of the buffer, its completion queue and its queue pair, which
-- is connected with that of the same domain of the other adapter
abbrev pub pair : ℕ → ℕ → List Verb
pair adapter d =
    let s = first_slot adapter d in
    verbs.AllocPd s.domain
    ∷ verbs.CreateCq s 8
    ∷ verbs.CreateQp s 0 0 4 4 None
    ∷ verbs.RegMr s 0 (16384 * d) 16384 all_rights
    ∷ verbs.ModifyQp s changes.Init
    ∷ verbs.ModifyQp s (changes.Rtr (record { adapter = 1 - adapter; number = 256 * (d + 1) }) 1 0 1024 12)
    ∷ verbs.ModifyQp s (changes.Rts 0 7 7 16)
    ∷ []

-- ---- requests

-- the key of region 0 of domain d, after its first registration
abbrev pub region_key : ℕ → Key
region_key d = record { 0 = 16777216 * d + 1 }

-- where the region of domain d begins
abbrev pub region_start : ℕ → ℕ
region_start d = 4294967296 + 16384 * d

-- the one piece of a request's list
abbrev pub piece : ℕ → ℕ → Piece
piece d count = record { address = region_start d + 8192; key = region_key d; length = count }

-- the length of a message, and where it lies in the peer's region, by the word that is drawn for it
abbrev pub message_length : ℕ → ℕ
message_length x = 1 + x / 4 % 2048

abbrev pub remote_address : ℕ → ℕ → ℕ
remote_address d x = region_start d + 8 * (x / 8192 % 512)

-- request i of domain d, by the word that is drawn for it
abbrev pub operation : ℕ → ℕ → ℕ → SendOp
operation d i x =
    if x % 4 == 0 then ops.Write (remote_address d x) (region_key d) (record { items = piece d (message_length x) ∷ [] })
    else if x % 4 == 1 then ops.Read (remote_address d x) (region_key d) (record { items = piece d (message_length x) ∷ [] })
    else if x % 4 == 2 then ops.FetchAdd (remote_address d x) (region_key d) (i + 1) (record { items = piece d 8 ∷ [] })
    else ops.CmpSwap (remote_address d x) (region_key d) 0 (i + 1) (record { items = piece d 8 ∷ [] })

abbrev pub post : ℕ → ℕ → ℕ → Verb
post d i x = verbs.PostSend (first_slot 0 d) (record { id = i; signalled = true; fence = false; solicited = false; op = operation d i x })

-- a wait for its completion
abbrev pub wait : ℕ → Verb
wait d = verbs.Poll (first_slot 0 d) 1 1

-- so many requests from number i on, each with its wait; each takes the next word of the generator
abbrev pub requests : ℕ → ℕ → ℕ → Lcg → List Verb
requests d i zero g = []
requests d i (suc n) g = post d i (pcg32 g).0 ∷ wait d ∷ requests d (i + 1) n (pcg32 g).1

-- ---- the script

-- the lines that call these verbs, from this number on
abbrev pub lines_from : ℕ → List Verb → List Line
lines_from number [] = []
lines_from number (v ∷ vs) = record { number = number; what = whats.Verb v } ∷ lines_from (number + 1) vs

-- the numbers are those of the script's text, with four setup lines first: `adapters`, two of `buffer`, and `weather`
abbrev pub active : ℕ → ℕ → List Line
active seed d = lines_from (5 + 407 * d) (pair 0 d ++ requests d 0 200 (generator seed d))

abbrev pub passive : ℕ → List Line
passive d = lines_from (1633 + 7 * d) (pair 1 d)

abbrev pub made_adapter : Adapter
made_adapter = record plain_adapter { buffers = 65536 ∷ [] }

unfoldable pub made_script : ℕ → ScriptValue
made_script seed = record {
  config = record { adapters = made_adapter ∷ made_adapter ∷ []; events = MAX_EVENTS };
  weather = Seeded seed;
  consumers = each_from (active seed) 0 4 ++ each_from passive 0 4;
}
