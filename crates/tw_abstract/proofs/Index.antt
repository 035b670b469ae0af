-- The variable of a metavariable in a context with one more, the innermost.
use Rattle.std.proofs.Common.{◌≡◌, ℕ, zero, suc, List, [], ◌∷◌, ◌++◌, length, length-append, Option, Some, None, Bool, true, false, cond, ◌==◌, refl, sym, ap, ◌∙◌, arith}
use Rattle.std.proofs.lemmas.Bool.Decides.{Decides-eqb}
use Rattle.tw_abstract.specs.Positions.{first_of, index}

pub index_innermost : (ns : List ℕ) (n : ℕ) → index (ns ++ n ∷ []) n ≡ Some 0
index_innermost [] n = ap (λ b. cond b (Some zero) None) ((Decides-eqb n n).1 refl)
index_innermost (x ∷ ns) n = ap (λ r. first_of r (cond (x == n) (Some (length (ns ++ n ∷ []))) None)) (index_innermost ns n)

is_false : (b : Bool) → (b ≡ true → ⊥) → b ≡ false
is_false true k = absurd (k refl)
is_false false k = refl

-- what is not there isn't there with another one added
pub index_none : (ns : List ℕ) (n m : ℕ) → (m ≡ n → ⊥) → index ns m ≡ None → index (ns ++ n ∷ []) m ≡ None
index_none [] n m h e = ap (λ b. cond b (Some zero) None) (is_false (n == m) (λ t. h (sym ((Decides-eqb n m).0 t))))
index_none (x ∷ ns) n m h e = go (index_none ns n m h) (index ns m) refl (x == m) refl
  where
    go : (index ns m ≡ None → index (ns ++ n ∷ []) m ≡ None) → (r : Option ℕ) → index ns m ≡ r → (b : Bool) → (x == m) ≡ b → index (x ∷ (ns ++ n ∷ [])) m ≡ None
    go others (Some i) q b t = (let z : Some i ≡ None = ap (λ r. first_of r (cond (x == m) (Some (length ns)) None)) (sym q) ∙ e in cc)
    go others None q true t = (let z : Some (length ns) ≡ None = ap (λ b. cond b (Some (length ns)) None) (sym t) ∙ ap (λ r. first_of r (cond (x == m) (Some (length ns)) None)) (sym q) ∙ e in cc)
    go others None q false t = ap (λ r. first_of r (cond (x == m) (Some (length (ns ++ n ∷ []))) None)) (others q) ∙ ap (λ b. cond b (Some (length (ns ++ n ∷ []))) None) t

-- each of the others is one further out
pub index_outer : (ns : List ℕ) (n m i : ℕ) → (m ≡ n → ⊥) → index ns m ≡ Some i → index (ns ++ n ∷ []) m ≡ Some (suc i)
index_outer [] n m i h e = cc
index_outer (x ∷ ns) n m i h e = go (λ j. index_outer ns n m j h) (index ns m) refl (x == m) refl
  where
    go : ((j : ℕ) → index ns m ≡ Some j → index (ns ++ n ∷ []) m ≡ Some (suc j)) → (r : Option ℕ) → index ns m ≡ r → (b : Bool) → (x == m) ≡ b → index (x ∷ (ns ++ n ∷ [])) m ≡ Some (suc i)
    go others (Some j) q b t =
        let z : Some j ≡ Some i = ap (λ r. first_of r (cond (x == m) (Some (length ns)) None)) (sym q) ∙ e in
        ap (λ r. first_of r (cond (x == m) (Some (length (ns ++ n ∷ []))) None)) (others j q) ∙ (let w : j ≡ i = cc in ap (λ k. Some (suc k)) w)
    go others None q false t = (let z : None ≡ Some i = ap (λ b. cond b (Some (length ns)) None) (sym t) ∙ ap (λ r. first_of r (cond (x == m) (Some (length ns)) None)) (sym q) ∙ e in cc)
    go others None q true t =
        let z : Some (length ns) ≡ Some i = ap (λ b. cond b (Some (length ns)) None) (sym t) ∙ ap (λ r. first_of r (cond (x == m) (Some (length ns)) None)) (sym q) ∙ e in
        let l : length (ns ++ n ∷ []) ≡ suc (length ns) = omega (arith, length-append ns (n ∷ [])) in
        ap (λ r. first_of r (cond (x == m) (Some (length (ns ++ n ∷ []))) None)) (index_none ns n m h q) ∙ ap (λ b. cond b (Some (length (ns ++ n ∷ []))) None) t ∙ ap Some l ∙ (let w : length ns ≡ i = cc in ap (λ k. Some (suc k)) w)
