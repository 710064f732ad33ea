-- How many requests made scripts post. For proofs only.
use Rattle.std.proofs.Common.{◌≡◌, ◌∙◌, ℕ, zero, suc, ◌+◌, ◌*◌, cond, List, ◌∷◌, refl, ap, arith}
use Rattle.std.proofs.lemmas.List.Sums.{sum_by-append, sum_by-cons}
use Rattle.std.specs.List.{count_by}
use Rattle.rand_pcg.specs.Lcg.{Lcg}
use Rattle.rand_pcg.specs.Pcg.{pcg32}
use Rattle.ca_script_seed.proofs.MadeLemmas.{lines_append}
use Rattle.ca_script_seed.specs.Made.{active, each_from, generator, lines_from, made_script, pair, passive, post, requests, wait}
use Rattle.ca_run_seed.proofs.WorkableLemmas.{each-sum}
use Rattle.ca_run_seed.specs.Requests.{is_post, requests_in}
use Rattle.ca_script_lines.specs.declared.Line.{Line}
use Rattle.ca_script_lines.specs.declared.what.What.TheVariants as whats

abbrev posts : List Line → ℕ
posts lines = count_by is_post lines

requests-posts : (d i n number : ℕ) (g : Lcg) → posts (lines_from number (requests d i n g)) ≡ n
requests-posts d i zero number g = refl
requests-posts d i (suc n) number g = omega (
  arith,
  sum_by-cons (λ line. cond (is_post line) 1 0) (record { number = number; what = whats.Verb (post d i (pcg32 g).0) })
      (record { number = number + 1; what = whats.Verb (wait d) } ∷ lines_from ((number + 1) + 1) (requests d (i + 1) n (pcg32 g).1)),
  sum_by-cons (λ line. cond (is_post line) 1 0) (record { number = number + 1; what = whats.Verb (wait d) }) (lines_from ((number + 1) + 1) (requests d (i + 1) n (pcg32 g).1)),
  requests-posts d (i + 1) n ((number + 1) + 1) (pcg32 g).1,
)

pair-posts : (number adapter d : ℕ) → posts (lines_from number (pair adapter d)) ≡ 0
pair-posts number adapter d = refl

active-posts : (seed d : ℕ) → posts (active seed d) ≡ 200
active-posts seed d =
    ap posts (lines_append (5 + 407 * d) (pair 0 d) (requests d 0 200 (generator seed d)))
    ∙ sum_by-append (λ line. cond (is_post line) 1 0) (lines_from (5 + 407 * d) (pair 0 d)) (lines_from ((5 + 407 * d) + 7) (requests d 0 200 (generator seed d)))
    ∙ ap (λ n. n + posts (lines_from ((5 + 407 * d) + 7) (requests d 0 200 (generator seed d)))) (pair-posts (5 + 407 * d) 0 d)
    ∙ ap (λ n. 0 + n) (requests-posts d 0 200 ((5 + 407 * d) + 7) (generator seed d))

pub made-requests : (seed : ℕ) → requests_in (made_script seed).consumers ≡ 800
unfolding made_script
made-requests seed = omega (
  arith,
  sum_by-append posts (each_from (active seed) 0 4) (each_from passive 0 4),
  each-sum posts (active seed) 200 0 4 (active-posts seed),
  each-sum posts passive 0 0 4 (λ d. pair-posts (1633 + 7 * d) 1 d),
)
