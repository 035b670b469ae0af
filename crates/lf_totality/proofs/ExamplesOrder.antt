-- The heads of addition and of copying, in order.
use Rattle.std.proofs.Common.{◌≡◌, ℕ, zero, suc, List, [], ◌∷◌, refl, sym, ap, ◌∙◌, subst, arith, inl, inr}
use Rattle.std.specs.Prelude.{Some}
use Rattle.lf.specs.Syntax.{LfType}
use Rattle.lf.specs.Variables.{target, onto}
use Rattle.lf.specs.Subordination.{Block, Member}
use Rattle.lf_cases.specs.Pattern.{Pattern}
use Rattle.lf_cases.specs.ClauseOrder.{StandsAt, ComesBefore, HasPlace, constant_place, entry_place, HavePlaces, one_head, next_head, AreHeadsInOrder}
use Rattle.lf_totality.specs.Examples.{Addition, addition_types, plus_z, plus_s, plus_heads, Copying, cp_lam, cp_app, copy_block, copy_heads, cp, exp, var}
use Rattle.lf_totality.specs.ExamplesReached.{head_of}
use Rattle.lf_totality.specs.ExamplesSplits.{HeadsAreOrdered}

some_type : {A B : LfType} → Some A ≡ Some B → A ≡ B
some_type e = cc

plus_ordered : AreHeadsInOrder Addition [] 1 plus_heads
plus_ordered = record {
  places = (0 ∷ 2 ∷ []) ∷ (0 ∷ 3 ∷ []) ∷ [];
  in_order = next_head (constant_place 2 plus_z.type refl refl) (inr (refl, inl (omega arith))) (one_head (constant_place 3 plus_s.type refl refl));
  every = every;
}
  where
    every : (p : Pattern) (r : List ℕ) → HasPlace Addition [] 1 p r → Member r ((0 ∷ 2 ∷ []) ∷ (0 ∷ 3 ∷ []) ∷ [])
    every p r (entry_place B w later E es e s t) = absurd s
    every p r (constant_place k U e t) = by k U e t
      where
        by : (k : ℕ) (U : LfType) → addition_types k ≡ Some U → target U ≡ 1 → Member (0 ∷ k ∷ []) ((0 ∷ 2 ∷ []) ∷ (0 ∷ 3 ∷ []) ∷ [])
        by zero U e t = let q : ◌≡◌ {A = ℕ} 0 1 = ap target (some_type e) ∙ t in absurd (omega arith)
        by (suc zero) U e t = let q : ◌≡◌ {A = ℕ} 0 1 = ap target (some_type e) ∙ t in absurd (omega arith)
        by (suc (suc zero)) U e t = inl refl
        by (suc (suc (suc zero))) U e t = inr (inl refl)
        by (suc (suc (suc (suc n)))) U e t = absurd cc

-- a head that is that of a constant has the number of a constant of this type
numbered : (k : ℕ) (U : LfType) → addition_types k ≡ Some U → U ≡ plus_s.type → k ≡ 3
numbered zero U e q = absurd (let z : addition_types 0 ≡ Some plus_s.type = e ∙ ap Some q in cc)
numbered (suc zero) U e q = absurd (let z : addition_types 1 ≡ Some plus_s.type = e ∙ ap Some q in cc)
numbered (suc (suc zero)) U e q = absurd (let z : addition_types 2 ≡ Some plus_s.type = e ∙ ap Some q in cc)
numbered (suc (suc (suc zero))) U e q = refl
numbered (suc (suc (suc (suc n)))) U e q = absurd cc

numbered_z : (k : ℕ) (U : LfType) → addition_types k ≡ Some U → U ≡ plus_z.type → k ≡ 2
numbered_z zero U e q = absurd (let z : addition_types 0 ≡ Some plus_z.type = e ∙ ap Some q in cc)
numbered_z (suc zero) U e q = absurd (let z : addition_types 1 ≡ Some plus_z.type = e ∙ ap Some q in cc)
numbered_z (suc (suc zero)) U e q = refl
numbered_z (suc (suc (suc zero))) U e q = absurd (let z : addition_types 3 ≡ Some plus_z.type = e ∙ ap Some q in cc)
numbered_z (suc (suc (suc (suc n)))) U e q = absurd cc

place_s : (p : Pattern) (r : List ℕ) → HasPlace Addition [] 1 p r → p ≡ head_of plus_s.type → r ≡ 0 ∷ 3 ∷ []
place_s p r (constant_place k U e t) q = ap (λ n. 0 ∷ n ∷ []) (numbered k U e (ap (λ x. x.clause.type) q))
place_s p r (entry_place B w later E es e s t) q = absurd s

place_z : (p : Pattern) (r : List ℕ) → HasPlace Addition [] 1 p r → p ≡ head_of plus_z.type → r ≡ 0 ∷ 2 ∷ []
place_z p r (constant_place k U e t) q = ap (λ n. 0 ∷ n ∷ []) (numbered_z k U e (ap (λ x. x.clause.type) q))
place_z p r (entry_place B w later E es e s t) q = absurd s

refused : AreHeadsInOrder Addition [] 1 (head_of plus_s.type ∷ head_of plus_z.type ∷ []) → ⊥
refused h = by h.places h.in_order
  where
    apart : ComesBefore (0 ∷ 3 ∷ []) (0 ∷ 2 ∷ []) → ⊥
    apart (inl l) = absurd (omega arith)
    apart (inr (e, inl l)) = absurd (omega arith)
    apart (inr (e, inr (q, c))) = absurd c

    by : (rs : List (List ℕ)) → HavePlaces Addition [] 1 (head_of plus_s.type ∷ head_of plus_z.type ∷ []) rs → ⊥
    by rs (next_head {r = r} {s = s} p c (one_head q)) = apart (subst (λ x. ComesBefore x (0 ∷ 2 ∷ [])) (place_s (head_of plus_s.type) r p refl) (subst (ComesBefore r) (place_z (head_of plus_z.type) s q refl) c))

pub heads_ordered : HeadsAreOrdered
heads_ordered = (plus_ordered, refused, next_head (constant_place 1 cp_lam.type refl refl) (inr (refl, inl (omega arith))) (next_head (constant_place 3 cp_app.type refl refl) (inl (omega arith)) (one_head (entry_place copy_block 0 [] (cp (var 0) (var 0)) (exp ∷ []) refl refl refl))))
