-- Made scripts can be worked. For proofs only.
use Rattle.std.proofs.Common.{◌≡◌, ◌∙◌, ℕ, zero, suc, ◌+◌, ◌*◌, ◌^◌, ◌<◌, ◌≤◌, List, [], ◌∷◌, ◌++◌, length, length-append, sum_by, refl, ap, arith}
use Rattle.std.proofs.lemmas.List.Sums.{sum_by-append, sum_by-cons}
use Rattle.std.proofs.lemmas.Nat.{mul-le}
use Rattle.rand_pcg.specs.Lcg.{Lcg}
use Rattle.rand_pcg.specs.Pcg.{pcg32}
use Rattle.ca_base.specs.Configuration.{Configuration}
use Rattle.ca_base.specs.declared.limits.TheConstants.{MAX_EVENTS}
use Rattle.ca_script_run.specs.ca_engine.Offers.{offers_of_round, offers_of_timers}
use Rattle.ca_script_run.specs.ca_engine.Loop.{most_offers}
use Rattle.ca_script_seed.specs.Made.{active, each_from, generator, lines_from, made_adapter, made_script, pair, passive, requests}
use Rattle.ca_run_seed.proofs.MadeLemmas.{made-limited}
use Rattle.ca_model.specs.declared.verb.Verb.{Verb}
use Rattle.ca_script_order.specs.Order.{most_rounds}
use Rattle.ca_script_lines.specs.declared.Line.{Line}
use Rattle.ca_script_run.specs.Working.{IsWorkable}

-- ---- how many lines

lines-length : (n : ℕ) (vs : List Verb) → length (lines_from n vs) ≡ length vs
lines-length n [] = refl
lines-length n (v ∷ vs) = ap suc (lines-length (n + 1) vs)

requests-length : (d i n : ℕ) (g : Lcg) → length (requests d i n g) ≡ 2 * n
requests-length d i zero g = refl
requests-length d i (suc n) g = omega (arith, requests-length d (i + 1) n (pcg32 g).1)

active-length : (seed d : ℕ) → length (active seed d) ≡ 407
active-length seed d = lines-length (5 + 407 * d) (pair 0 d ++ requests d 0 200 (generator seed d))
    ∙ length-append (pair 0 d) (requests d 0 200 (generator seed d))
    ∙ ap (λ n. 7 + n) (requests-length d 0 200 (generator seed d))

passive-length : (d : ℕ) → length (passive d) ≡ 7
passive-length d = lines-length (1633 + 7 * d) (pair 1 d)

-- as many lists as were asked for
each-length : {Y : Type 0} (f : ℕ → Y) (i n : ℕ) → length (each_from f i n) ≡ n
each-length f i zero = refl
each-length f i (suc n) = ap suc (each-length f (i + 1) n)

-- what each list has of something, all have so often
pub each-sum : (h : List Line → ℕ) (f : ℕ → List Line) (k i n : ℕ) → ((d : ℕ) → h (f d) ≡ k) → sum_by h (each_from f i n) ≡ n * k
each-sum h f k i zero all = omega arith
each-sum h f k i (suc n) all = omega (arith, sum_by-cons h (f i) (each_from f (i + 1) n), all i, each-sum h f k (i + 1) n all)

made-lines : (seed : ℕ) → sum_by (λ lines. length lines) (made_script seed).consumers ≡ 1656
unfolding made_script
made-lines seed = omega (
  arith,
  sum_by-append (λ lines. length lines) (each_from (active seed) 0 4) (each_from passive 0 4),
  each-sum (λ lines. length lines) (active seed) 407 0 4 (active-length seed),
  each-sum (λ lines. length lines) passive 7 0 4 passive-length,
)

made-consumers : (seed : ℕ) → length (made_script seed).consumers ≡ 8
unfolding made_script
made-consumers seed = omega (arith, length-append (each_from (active seed) 0 4) (each_from passive 0 4), each-length (active seed) 0 4, each-length passive 0 4)

-- ---- how many offers

-- the configuration of every made script
made_configuration : Configuration
made_configuration = record { adapters = made_adapter ∷ made_adapter ∷ []; events = MAX_EVENTS }

made-config : (seed : ℕ) → (made_script seed).config ≡ made_configuration
unfolding made_script made_configuration
made-config seed = refl

-- 8 consumers, and five turns at each of 32 slots
made-offers : length (offers_of_round made_configuration 8) + length (offers_of_timers made_configuration) ≡ 168
unfolding made_configuration
made-offers = refl

made-rounds : (seed : ℕ) → most_rounds (made_script seed) ≤ 132729
made-rounds seed = omega (arith, (made-limited seed).events, made-lines seed)

made-most : (seed : ℕ) → most_offers (made_script seed) < 2 ^ 64
made-most seed =
    let offers : length (offers_of_round (made_script seed).config (length (made_script seed).consumers)) + length (offers_of_timers (made_script seed).config) ≡ 168 =
    ap (λ n. length (offers_of_round (made_script seed).config n) + length (offers_of_timers (made_script seed).config)) (made-consumers seed)
    ∙ ap (λ c. length (offers_of_round c 8) + length (offers_of_timers c)) (made-config seed)
    ∙ made-offers in
    let most = mul-le (most_rounds (made_script seed))
    (length (offers_of_round (made_script seed).config (length (made_script seed).consumers)) + length (offers_of_timers (made_script seed).config))
    132729 168 (made-rounds seed) (omega (arith, offers)) in
    omega (arith, most)

pub made-workable : (seed : ℕ) → IsWorkable (made_script seed)
made-workable seed = record { limited = made-limited seed; consumers = omega (arith, made-consumers seed); offers = made-most seed }
