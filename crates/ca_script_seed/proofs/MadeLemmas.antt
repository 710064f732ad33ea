-- Lists that are made item by item.
use Rattle.std.proofs.Common.{◌≡◌, ℕ, suc, ◌+◌, ◌-◌, ◌*◌, ◌<◌, ◌≤◌, List, [], ◌∷◌, ◌++◌, length, refl, sym, ap, ◌∙◌, arith, append_assoc}
use Rattle.rand_pcg.specs.Lcg.{Lcg}
use Rattle.rand_pcg.specs.Pcg.{pcg32}
use Rattle.ca_model.specs.declared.verb.Verb.{Verb}
use Rattle.std.proofs.lemmas.List.{append-nil}
use Rattle.ca_base.specs.Configuration.{Adapter}
use Rattle.ca_base.specs.declared.limits.TheConstants.{MAX_EVENTS}
use Rattle.ca_mailbox.specs.declared.weather.Weather.TheVariants.{Seeded}
use Rattle.ca_script.specs.Script.{ScriptValue}
use Rattle.ca_script_lines.specs.declared.what.Line.{Line}
use Rattle.ca_script_lines.specs.declared.what.What.TheVariants as whats
use Rattle.ca_script_seed.specs.Made.{each_from, pair, requests, generator, post, wait, lines_from, active, passive, made_adapter, made_script}

pub next_each : {Y : Type 0} (f : ℕ → Y) (i n : ℕ) → i < n → each_from f i (n - i) ≡ f i ∷ each_from f (i + 1) (n - (i + 1))
next_each f i n h =
    let one : n - i ≡ suc (n - (i + 1)) = omega arith in
    rw one refl

pub over_each : {Y : Type 0} (f : ℕ → Y) (i n : ℕ) → n ≤ i → each_from f i (n - i) ≡ []
over_each f i n h =
    let none : n - i ≡ 0 = omega arith in
    rw none refl

pub next_request : (d i n : ℕ) (g : Lcg) → i < n → requests d i (n - i) g ≡ post d i (pcg32 g).0 ∷ wait d ∷ requests d (i + 1) (n - (i + 1)) (pcg32 g).1
next_request d i n g h =
    let one : n - i ≡ suc (n - (i + 1)) = omega arith in
    rw one refl

pub over_request : (d i n : ℕ) (g : Lcg) → n ≤ i → requests d i (n - i) g ≡ []
over_request d i n g h =
    let none : n - i ≡ 0 = omega arith in
    rw none refl

-- the lines of verbs that follow others
pub lines_append : (n : ℕ) (vs ws : List Verb) → lines_from n (vs ++ ws) ≡ lines_from n vs ++ lines_from (n + length vs) ws
lines_append n [] ws = ap (λ (k : ℕ). lines_from k ws) (omega arith)
lines_append n (v ∷ vs) ws =
    let more : (n + 1) + length vs ≡ n + suc (length vs) = omega arith in
    rw (lines_append (n + 1) vs ws, more) refl

-- ---- one item more

pub each_step : {Y : Type 0} (f : ℕ → Y) (items new before : List Y) (x : Y) (i n : ℕ) → new ≡ items ++ x ∷ [] → x ≡ f i → i < n → items ++ each_from f i (n - i) ≡ before → new ++ each_from f (i + 1) (n - (i + 1)) ≡ before
each_step {Y} f items new before x i n e same h so_far =
    rw e (append_assoc items (x ∷ []) (each_from f (i + 1) (n - (i + 1)))
    ∙ ap (λ (y : Y). items ++ (y ∷ each_from f (i + 1) (n - (i + 1)))) same
    ∙ ap (λ (r : List Y). items ++ r) (sym (next_each f i n h))
    ∙ so_far)

two_more : {Y : Type 0} (items : List Y) (a b : Y) (rest : List Y) → ((items ++ a ∷ []) ++ b ∷ []) ++ rest ≡ items ++ (a ∷ b ∷ rest)
two_more items a b rest = append_assoc (items ++ a ∷ []) (b ∷ []) rest ∙ append_assoc items (a ∷ []) (b ∷ rest)

-- a request and its wait more
pub request_step : (d i n number : ℕ) (items mid new before : List Line) (a b : Line) (v w : Verb) (word : ℕ) (g after : Lcg) → mid ≡ items ++ a ∷ [] → new ≡ mid ++ b ∷ [] → a ≡ record { number = number + 2 * i; what = whats.Verb v } → v ≡ post d i word → b ≡ record { number = (number + 2 * i) + 1; what = whats.Verb w } → w ≡ wait d → word ≡ (pcg32 g).0 → after ≡ (pcg32 g).1 → i < n → items ++ lines_from (number + 2 * i) (requests d i (n - i) g) ≡ before → new ++ lines_from (number + 2 * (i + 1)) (requests d (i + 1) (n - (i + 1)) after) ≡ before
request_step d i n number items mid new before a b v w word g after em en ea ev eb ew drawn left h so_far =
    let rest = requests d (i + 1) (n - (i + 1)) (pcg32 g).1 in
    let count : number + 2 * (i + 1) ≡ ((number + 2 * i) + 1) + 1 = omega arith in
    let first : a ≡ record { number = number + 2 * i; what = whats.Verb (post d i (pcg32 g).0) } = ea ∙ ap (λ (u : Verb). record { number = number + 2 * i; what = whats.Verb u }) (ev ∙ ap (post d i) drawn) in
    let second : b ≡ record { number = (number + 2 * i) + 1; what = whats.Verb (wait d) } = eb ∙ ap (λ (u : Verb). record { number = (number + 2 * i) + 1; what = whats.Verb u }) ew in
    let left_is : lines_from (number + 2 * (i + 1)) (requests d (i + 1) (n - (i + 1)) after) ≡ lines_from (((number + 2 * i) + 1) + 1) rest =
    ap (λ (k : ℕ). lines_from k (requests d (i + 1) (n - (i + 1)) after)) count ∙ ap (λ (l : Lcg). lines_from (((number + 2 * i) + 1) + 1) (requests d (i + 1) (n - (i + 1)) l)) left in
    ap (λ (r : List Line). new ++ r) left_is
    ∙ ap (λ (l : List Line). l ++ lines_from (((number + 2 * i) + 1) + 1) rest) (en ∙ ap (λ (l : List Line). l ++ b ∷ []) em)
    ∙ two_more items a b (lines_from (((number + 2 * i) + 1) + 1) rest)
    ∙ ap (λ (l : Line). items ++ (l ∷ b ∷ lines_from (((number + 2 * i) + 1) + 1) rest)) first
    ∙ ap (λ (l : Line). items ++ (record { number = number + 2 * i; what = whats.Verb (post d i (pcg32 g).0) } ∷ l ∷ lines_from (((number + 2 * i) + 1) + 1) rest)) second
    ∙ ap (λ (vs : List Verb). items ++ lines_from (number + 2 * i) vs) (sym (next_request d i n g h))
    ∙ so_far

pub request_done : (d i n m : ℕ) (items before : List Line) (g : Lcg) → n ≤ i → items ++ lines_from m (requests d i (n - i) g) ≡ before → items ≡ before
request_done d i n m items before g h so_far =
    sym (append-nil items) ∙ ap (λ (vs : List Verb). items ++ lines_from m vs) (sym (over_request d i n g h)) ∙ so_far

pub request_begin : (d m : ℕ) (items : List Line) (g h : Lcg) → g ≡ h → items ++ lines_from (m + 2 * 0) (requests d 0 (200 - 0) g) ≡ items ++ lines_from m (requests d 0 200 h)
request_begin d m items g h e = ap (λ (l : Lcg). items ++ lines_from (m + 0) (requests d 0 200 l)) e ∙ ap (λ (k : ℕ). items ++ lines_from k (requests d 0 200 h)) (omega arith)

pub active_is : (seed d n : ℕ) (mine more made : List Line) → n ≡ 5 + 407 * d → mine ≡ lines_from n (pair 0 d) → more ≡ mine ++ lines_from (n + 7) (requests d 0 200 (generator seed d)) → made ≡ more → made ≡ active seed d
active_is seed d n mine more made number_is mine_is more_is made_is =
    made_is ∙ more_is
    ∙ ap (λ (l : List Line). l ++ lines_from (n + 7) (requests d 0 200 (generator seed d))) mine_is
    ∙ sym (lines_append n (pair 0 d) (requests d 0 200 (generator seed d)))
    ∙ ap (λ (k : ℕ). lines_from k (pair 0 d ++ requests d 0 200 (generator seed d))) number_is

pub script_is : (seed : ℕ) (adapters : List Adapter) (fresh some all made : List (List Line)) → adapters ≡ made_adapter ∷ made_adapter ∷ [] → fresh ≡ [] → some ≡ fresh ++ each_from (active seed) 0 4 → all ≡ some ++ each_from passive 0 4 → made ≡ all → ◌≡◌ {A = ScriptValue} (record { config = record { adapters = adapters; events = MAX_EVENTS }; weather = Seeded seed; consumers = made }) (made_script seed)
unfolding made_script
script_is seed adapters fresh some all made adapters_are none some_is all_is made_is =
    let lines : made ≡ each_from (active seed) 0 4 ++ each_from passive 0 4 = made_is ∙ all_is ∙ ap (λ (l : List (List Line)). l ++ each_from passive 0 4) (some_is ∙ ap (λ (l : List (List Line)). l ++ each_from (active seed) 0 4) none) in
    ap (λ (a : List Adapter). record { config = record { adapters = a; events = MAX_EVENTS }; weather = Seeded seed; consumers = made }) adapters_are
    ∙ ap (λ (l : List (List Line)). record { config = record { adapters = made_adapter ∷ made_adapter ∷ []; events = MAX_EVENTS }; weather = Seeded seed; consumers = l }) lines

pub ruleset steps = (next_each, over_each, next_request, over_request)
