-- Worked rows of the definitions of goals, of free variables and of written kinds.
use Rattle.std.proofs.Common.{◌≡◌, ◌<◌, ℕ, List, [], ◌∷◌, None, codes, inl, inr, refl, arith}
use Rattle.lf.proofs.Checker.{check_type_sound, type_refused}
use Rattle.lf.proofs.ExampleSignature.{Σ₀, nat, v, vec}
use Rattle.lf.specs.Syntax.{LfType}
use Rattle.lf_elaboration.specs.Written as written
use Rattle.lf_elaboration.specs.Written.{WrittenKind, written_star}
use Rattle.tw_lexer.specs.declared.place.Place.{Place}
use Rattle.tw_parse.specs.Syntax.{application, identifier, pi, typed}
use Rattle.tw_signature.specs.Goal.{Goal}
use Rattle.tw_recon.specs.Families.{written_quantifiers}
use Rattle.tw_recon.specs.FreeNames.{free_names}
use Rattle.tw_recon.specs.Queries.{GoalIsWithin, IsCanonicalGoal}

-- vec N, over these variables, of which these are shown
abbrev of_length : List LfType → List ℕ → Goal
of_length variables shown = record { variables = variables; names = None ∷ []; shown = shown; proof = None; goal = vec (v 0) }

asked : IsCanonicalGoal Σ₀ (of_length (nat ∷ []) (0 ∷ []))
asked = record {
  context = (tt, check_type_sound Σ₀ [] nat refl);
  typed = check_type_sound Σ₀ (nat ∷ []) (vec (v 0)) refl;
  within = ((omega arith, tt), omega arith);
  name_each = refl;
  shown = λ i h. elim h as (λ _. i < 1) [ inl e ↦ omega (arith, e) | inr k ↦ absurd k ];
}

-- without its variable it is no type
over_nothing : IsCanonicalGoal Σ₀ (of_length [] []) → ⊥
over_nothing g = type_refused Σ₀ [] (vec (v 0)) refl g.typed

-- there is no variable 1
not_there : IsCanonicalGoal Σ₀ (of_length (nat ∷ []) (1 ∷ [])) → ⊥
not_there g = let h = g.shown 1 (inl refl) in omega (arith, h)

-- `vec N` is 2 deep
too_deep : GoalIsWithin 1 (of_length (nat ∷ []) []) → ⊥
too_deep (g, a) = omega (arith, a)

-- the place of a column
abbrev at : ℕ → Place
at column = record { line = 1; column = column }

-- of `{X:nat} q X Y` it is Y, at column 13
under_binder : free_names [] [] (pi (codes "X") (at 1) (typed (identifier (codes "nat") (at 4))) (application (application (identifier (codes "q") (at 9)) (identifier (codes "X") (at 11))) (identifier (codes "Y") (at 13))))
    ≡ record { name = codes "Y"; at = at 13 } ∷ []
under_binder = refl

-- of `{x:nat} vec x -> type` there are two, and none of `type`
two_written : (U : written.WrittenType) (d : written.WrittenDomain) → written_quantifiers (written.kind_quantified d (written.kind_arrow U written_star)) ≡ 2
two_written U d = refl

none_written : written_quantifiers written_star ≡ 1 → ⊥
none_written e = omega (arith, e)
