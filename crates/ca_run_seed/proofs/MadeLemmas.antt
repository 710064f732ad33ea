-- Made scripts keep to the limits. For proofs only.
use Rattle.std.proofs.Common.{ℕ, zero, suc, ◌+◌, ◌*◌, ◌%◌, ◌==◌, ◌≤◌, Bool, true, false, if◌then◌else◌, List, [], ◌∷◌, ◌++◌, length, refl, arith}
use Rattle.std.specs.List.{AllByRecursion}
use Rattle.rand_pcg.specs.Lcg.{Lcg}
use Rattle.rand_pcg.specs.Pcg.{pcg32}
use Rattle.ca_base.specs.declared.limits.TheConstants.{MAX_PIECES}
use Rattle.ca_base.specs.declared.request.SendOp.{SendOp}
use Rattle.ca_base.specs.declared.request.SendOp.TheVariants as ops
use Rattle.ca_script_seed.specs.Made.{active, each_from, generator, lines_from, made_adapter, made_script, message_length, operation, pair, passive, piece, region_key, remote_address, requests}
use Rattle.ca_run_seed.specs.Buffers.{HasTwoBuffers}
use Rattle.ca_model.specs.Requests.{list_of}
use Rattle.ca_model.specs.declared.verb.Verb.{Verb}
use Rattle.ca_model.specs.machine.Sound.{AreLimited, HasFewPieces, IsLimitedAdapter}
use Rattle.ca_law_scripts.specs.Limits.{KeepsToLimits}
use Rattle.ca_law_scripts.specs.Rest.{AreCallable, IsCallable}
use Rattle.ca_script_lines.specs.declared.Line.{Line}

-- ---- lists

all-append : {X : Type 0} (P : X → Type 0) (xs ys : List X) → AllByRecursion P xs → AllByRecursion P ys → AllByRecursion P (xs ++ ys)
all-append P [] ys all more = more
all-append P (x ∷ xs) ys all more = (all.0, all-append P xs ys all.1 more)

each-all : {Y : Type 0} (P : Y → Type 0) (f : ℕ → Y) (i n : ℕ) → ((d : ℕ) → P (f d)) → AllByRecursion P (each_from f i n)
each-all P f i zero all = record {}
each-all P f i (suc n) all = (all i, each-all P f (i + 1) n all)

-- ---- the configuration

adapter-limited : IsLimitedAdapter made_adapter
adapter-limited = record {
  buffers = omega arith;
  least_bytes = (omega arith, record {});
  bytes = (omega arith, record {});
  least_domains = omega arith;
  domains = omega arith;
  regions = omega arith;
  windows = omega arith;
  cqs = omega arith;
  srqs = omega arith;
  qps = omega arith;
}

pub made-limited : (seed : ℕ) → AreLimited (made_script seed).config
unfolding made_script
made-limited seed = record {
  least_count = omega arith;
  count = omega arith;
  adapters = (adapter-limited, (adapter-limited, record {}));
  bytes = omega arith;
  parts = omega arith;
  least_events = omega arith;
  events = omega arith;
}

pub made-buffers : (seed : ℕ) → HasTwoBuffers (made_script seed).config
unfolding made_script
made-buffers seed = record { adapter = made_adapter; size = 65536; both = refl; one = refl }

-- ---- the lines

-- the line of each verb can be made
abbrev AreLines : List Line → Type 0
AreLines lines = AllByRecursion (λ line. IsCallable line.what) lines

lines-callable : (n : ℕ) (vs : List Verb) → AllByRecursion HasFewPieces vs → AreLines (lines_from n vs)
lines-callable n [] all = record {}
lines-callable n (v ∷ vs) all = (all.0, lines-callable (n + 1) vs all.1)

pair-few : (adapter d : ℕ) → AllByRecursion HasFewPieces (pair adapter d)
pair-few adapter d = (record {}, (record {}, (record {}, (record {}, (record {}, (record {}, (record {}, record {})))))))

operation-few : (d i x : ℕ) → length (list_of (operation d i x)) ≤ MAX_PIECES
operation-few d i x = by (x % 4 == 0) (x % 4 == 1) (x % 4 == 2)
  where
    chosen : Bool → Bool → Bool → SendOp
    chosen a b c =
        if a then ops.Write (remote_address d x) (region_key d) (record { items = piece d (message_length x) ∷ [] })
        else if b then ops.Read (remote_address d x) (region_key d) (record { items = piece d (message_length x) ∷ [] })
        else if c then ops.FetchAdd (remote_address d x) (region_key d) (i + 1) (record { items = piece d 8 ∷ [] })
        else ops.CmpSwap (remote_address d x) (region_key d) 0 (i + 1) (record { items = piece d 8 ∷ [] })

    by : (a b c : Bool) → length (list_of (chosen a b c)) ≤ MAX_PIECES
    by true b c = omega arith
    by false true c = omega arith
    by false false true = omega arith
    by false false false = omega arith

requests-few : (d i n : ℕ) (g : Lcg) → AllByRecursion HasFewPieces (requests d i n g)
requests-few d i zero g = record {}
requests-few d i (suc n) g = (operation-few d i (pcg32 g).0, (record {}, requests-few d (i + 1) n (pcg32 g).1))

active-lines : (seed d : ℕ) → AreLines (active seed d)
active-lines seed d = lines-callable (5 + 407 * d) (pair 0 d ++ requests d 0 200 (generator seed d))
    (all-append HasFewPieces (pair 0 d) (requests d 0 200 (generator seed d)) (pair-few 0 d) (requests-few d 0 200 (generator seed d)))

passive-lines : (d : ℕ) → AreLines (passive d)
passive-lines d = lines-callable (1633 + 7 * d) (pair 1 d) (pair-few 1 d)

made-callable : (seed : ℕ) → AreCallable (made_script seed).consumers
unfolding made_script
made-callable seed = all-append AreLines (each_from (active seed) 0 4) (each_from passive 0 4)
    (each-all AreLines (active seed) 0 4 (active-lines seed)) (each-all AreLines passive 0 4 passive-lines)

pub made-keeps : (seed : ℕ) → KeepsToLimits (made_script seed)
made-keeps seed = record { limited = made-limited seed; callable = made-callable seed }
