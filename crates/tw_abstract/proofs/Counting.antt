-- Different numbers below a bound: they are no more than the bound, and where they are as many, they are all below it.
use Rattle.std.proofs.Common.{◌≡◌, ℕ, zero, suc, ◌<◌, ◌≤◌, inl, inr, List, [], ◌∷◌, ◌++◌, length, Option, Some, None, refl, sym, ap, ◌∙◌, subst, arith}
use Rattle.lf.specs.Subordination.{Member}
use Rattle.tw_abstract.specs.Positions.{index}
use Rattle.tw_abstract.proofs.Choosing.{indexed_member, member_indexed}
use Rattle.tw_abstract.proofs.Lists.{at_most, member_either}
use Rattle.tw_abstract.proofs.Members.{place}
use Rattle.tw_putting.specs.Whole.{AreDistinct}

-- the numbers below n
abbrev below : ℕ → List ℕ
below zero = []
below (suc n) = n ∷ below n

below_count : (n : ℕ) → length (below n) ≡ n
below_count zero = refl
below_count (suc n) = ap suc (below_count n)

below_there : (n m : ℕ) → m < n → Member m (below n)
below_there zero m l = absurd (omega arith)
below_there (suc n) m l = elim (place n m l) [ inl q ↦ inl q | inr h ↦ inr (below_there n m h) ]

pub at_most_below : (n : ℕ) (ns : List ℕ) → AreDistinct ns → ((m : ℕ) → Member m ns → m < n) → length ns ≤ n
at_most_below n ns d h =
    let l : length ns ≤ length (below n) = at_most ns (below n) d (λ m i. below_there n m (h m i)) in
    let e : length (below n) ≡ n = below_count n in
    omega (arith, l, e)

pub all_below : (n : ℕ) (ns : List ℕ) → AreDistinct ns → ((m : ℕ) → Member m ns → m < n) → n ≤ length ns → (m : ℕ) → m < n → Member m ns
all_below n ns d h l m b = go (index ns m) refl
  where
    go : (r : Option ℕ) → index ns m ≡ r → Member m ns
    go (Some i) e = indexed_member ns m i e
    go None e =
        let no : Member m ns → ⊥ = λ i. (let (k, q) = member_indexed ns m i in let z : None ≡ Some k = sym e ∙ q in absurd cc) in
        let k : length (m ∷ ns) ≤ n = at_most_below n (m ∷ ns) (no, d) (λ j i. elim i [ inl q ↦ subst (λ x. x < n) (sym q) b | inr g ↦ h j g ]) in
        let c : length (m ∷ ns) ≡ suc (length ns) = refl in
        absurd (omega (arith, k, c, l))

pub distinct_joined : (xs ys : List ℕ) → AreDistinct xs → AreDistinct ys → ((m : ℕ) → Member m xs → Member m ys → ⊥) → AreDistinct (xs ++ ys)
distinct_joined [] ys d e h = e
distinct_joined (x ∷ xs) ys (f, d) e h = (λ i. elim (member_either xs ys x i) [ inl j ↦ f j | inr j ↦ h x (inl refl) j ], distinct_joined xs ys d e (λ m i. h m (inr i)))
