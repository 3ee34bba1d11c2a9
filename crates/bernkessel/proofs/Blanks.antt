-- An array of a default value is all zeros.
use Rattle.std.proofs.Common.{◌≡◌, ℕ, ◌<◌, List, replicate, sym, ◌∙◌}
use Rattle.std.specs.Array.{AllOfLen}
use Rattle.std.proofs.lemmas.List.{ext_get_or, get_or-replicate, length-replicate}

pub zeros : (xs : List ℕ) (n : ℕ) → AllOfLen (λ x. x ≡ 0) xs n → xs ≡ replicate n 0
zeros xs n p =
    ext_get_or 0 xs (replicate n 0) (p.long ∙ sym (length-replicate n 0))
    (λ i l. let h : i < n = rw p.long at l in p.at i 0 h ∙ sym (get_or-replicate n i 0 0 h))
