-- What stands at the end of a response queue.
use Rattle.std.proofs.Common.{◌≡◌, ℕ, zero, suc, ◌-◌, arith, refl, ap, List, [], ◌∷◌, ◌++◌, length, length-append, slice_set}
use Rattle.ca_base.specs.declared.queue_numbers.Queued.{Queued}

end-at : (n : ℕ) (ys : List Queued) (a b : Queued) → n ≡ length ys → slice_set (ys ++ a ∷ []) n b ≡ ys ++ b ∷ []
end-at zero [] a b e = refl
end-at (suc n) [] a b e = absurd (omega (arith, e))
end-at zero (y ∷ ys) a b e = absurd (omega (arith, e))
end-at (suc n) (y ∷ ys) a b e = ap (λ xs. y ∷ xs) (end-at n ys a b (omega (arith, e)))

-- the answer at the end is another one
pub end-set : (ys : List Queued) (a b : Queued) → slice_set (ys ++ a ∷ []) (length (ys ++ a ∷ []) - 1) b ≡ ys ++ b ∷ []
end-set ys a b = end-at (length (ys ++ a ∷ []) - 1) ys a b (omega (arith, length-append ys (a ∷ [])))
