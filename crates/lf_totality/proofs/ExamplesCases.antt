-- The goals of addition and of copying, and a run of splits.
use Rattle.std.proofs.Common.{◌≡◌, ℕ, zero, suc, [], ◌∷◌, refl, sym, ap, ◌∙◌, subst, inl, inr, arith}
use Rattle.std.specs.Prelude.{Some}
use Rattle.lf.specs.Syntax.{Term, Spine, nil, app, base, LfType}
use Rattle.lf.specs.Substitution.{Image, keep, put, apply_image, reduce}
use Rattle.lf.specs.AtOnce.{in_front}
use Rattle.lf.specs.Typing.{Signature, HasType}
use Rattle.lf.specs.Worlds.{World}
use Rattle.lf.specs.Extension.{Extends}
use Rattle.lf.proofs.Eta.{reduce_nil}
use Rattle.lf_checks.specs.Marks.{input_places}
use Rattle.lf.specs.Variables.{target}
use Rattle.lf.specs.Subordination.{Member}
use Rattle.lf_checks.specs.Clause.{Clause, IsClause, from_constant, from_entry, constant_clause}
use Rattle.lf_cases.specs.Cover.{CoveredBy}
use Rattle.lf_cases.specs.Case.{Case}
use Rattle.lf_cases.specs.Pattern.{Known, FirstIs, of_constant, origin, head_pattern, OneCovers}
use Rattle.lf_cases.specs.Split.{HoldsDistinctly, OneHolds, IsLike, IsSplit, IsInstanceCase, Ends, at_leaf, by_split, no_case, next_case}
use Rattle.lf_cases.proofs.InputGoal.{clause_covers}
use Rattle.lf_totality.specs.Examples.{Addition, addition_marks, first_below_second, nat, successor, addition_types, plus_heads, plus_input_goal, plus_zero_case, plus_successor_case, PlusIsCoveredBySplits, PlusOutputGoal, CopyOutputGoal}
use Rattle.lf_totality.proofs.Addition.{S, NatForm, nat_form, inputs_case}
use Rattle.lf_cases.proofs.Split.{split_covers, first_moves}

pub plus_output_goal : PlusOutputGoal
plus_output_goal = refl

pub copy_output_goal : CopyOutputGoal
copy_output_goal = refl

some_type : {A B : LfType} → Some A ≡ Some B → A ≡ B
some_type e = cc

-- these heads are all that plus has
pub plus_every : (c : Clause) (i : IsClause Addition [] c) → target c.type ≡ 1 → Member (head_pattern c (origin i)) plus_heads
plus_every c (from_entry B later E es m e) t = absurd m
plus_every c (from_constant k U e) t = by k U e t
  where
    by : (k : ℕ) (U : LfType) → addition_types k ≡ Some U → target U ≡ 1 → Member (head_pattern (constant_clause U) (of_constant U)) plus_heads
    by zero U e t = let q : ◌≡◌ {A = ℕ} 0 1 = ap target (some_type e) ∙ t in absurd (omega arith)
    by (suc zero) U e t = let q : ◌≡◌ {A = ℕ} 0 1 = ap target (some_type e) ∙ t in absurd (omega arith)
    by (suc (suc zero)) U e t = inl (ap (λ V. head_pattern (constant_clause V) (of_constant V)) (sym (some_type e)))
    by (suc (suc (suc zero))) U e t = inr (inl (ap (λ V. head_pattern (constant_clause V) (of_constant V)) (sym (some_type e))))
    by (suc (suc (suc (suc n)))) U e t = absurd cc

-- what a value is that a case holds
value_is : (σ τ : ℕ → Image) (i : ℕ) (N M : Term) → σ ≡ τ → τ i ≡ put (base 0) N → M ≡ apply_image reduce (σ i) nil → M ≡ N
value_is σ τ i N M e f h = h ∙ ap (λ s. apply_image reduce (s i) nil) e ∙ ap (λ x. apply_image reduce x nil) f ∙ reduce_nil (base 0) N

module _ (Σ : Signature) (x : Extends S Addition Σ) {G : _} (w : World Σ [] S G) (F : Known) (σ0 : ℕ → Image) where
  abbrev covered : Spine → Type 0
  covered T = OneCovers w plus_heads (input_places (addition_marks 1)) F [] σ0 T

  by_clause : (T : Spine) → CoveredBy w (input_places (addition_marks 1)) 1 T → covered T
  by_clause T h = clause_covers Addition Σ S x w 1 refl plus_heads plus_every (input_places (addition_marks 1)) F σ0 T h

  split : (T : Spine) → HoldsDistinctly w plus_input_goal F σ0 T → OneHolds w (plus_zero_case ∷ plus_successor_case ∷ []) F σ0 T
  split nil h = absurd h.holds.has_arguments
  split (app M nil) h = absurd h.holds.has_arguments.1
  split (app M (app N nil)) h = absurd h.holds.has_arguments.1.1
  split (app M (app N (app P (app Q T)))) h = absurd h.holds.has_arguments.1.1
  split (app M (app N (app P nil))) h = by h.holds.values h.holds.is_ground h.holds.first h.holds.has_arguments
    where
      by : (σ : ℕ → Image) (g : Rattle.lf_cases.specs.Case.IsGroundInstance w plus_input_goal.items σ) → FirstIs w plus_input_goal.items σ g F → Rattle.lf_cases.specs.Case.HasArguments σ plus_input_goal.arguments (app M (app N (app P nil))) → OneHolds w (plus_zero_case ∷ plus_successor_case ∷ []) F σ0 (app M (app N (app P nil)))
      by σ (Y, τ, (X, υ, g, tx, e), ty, f) fi (a, (b, u)) =
          let m : M ≡ X = value_is σ (in_front (put (base 0) Y) (in_front (put (base 0) X) υ)) 1 X M (f ∙ ap (in_front (put (base 0) Y)) e) refl a in
          let n : N ≡ Y = value_is σ (in_front (put (base 0) Y) τ) 0 Y N f refl b in
          held (nat_form Σ x G w X tx) m n
        where
          held : NatForm Σ G X → M ≡ X → N ≡ Y → OneHolds w (plus_zero_case ∷ plus_successor_case ∷ []) F σ0 (app M (app N (app P nil)))
          held (inl q) m n = inl (record { holds = record { values = in_front (put (base 0) Y) keep; is_ground = (Y, keep, tt, ty, refl); first = first_moves w plus_input_goal.items plus_zero_case.items σ (in_front (put (base 0) Y) keep) (Y, τ, (X, υ, g, tx, e), ty, f) (Y, keep, tt, ty, refl) F tt fi; given = λ i K e. absurd cc; has_arguments = (m ∙ q, (n ∙ sym (reduce_nil (base 0) Y), tt)) }; is_distinct = tt })
          held (inr (X', q, t)) m n = inr (inl (record { holds = record { values = in_front (put (base 0) Y) (in_front (put (base 0) X') keep); is_ground = (Y, in_front (put (base 0) X') keep, (X', keep, tt, t, refl), ty, refl); first = first_moves w plus_input_goal.items plus_successor_case.items σ (in_front (put (base 0) Y) (in_front (put (base 0) X') keep)) (Y, τ, (X, υ, g, tx, e), ty, f) (Y, in_front (put (base 0) X') keep, (X', keep, tt, t, refl), ty, refl) F tt fi; given = λ i K e. absurd cc; has_arguments = (m ∙ q ∙ ap successor (sym (reduce_nil (base 0) X')), (n ∙ sym (reduce_nil (base 0) Y), tt)) }; is_distinct = tt }))

  zero_case : (T : Spine) → HoldsDistinctly w plus_zero_case F σ0 T → covered T
  zero_case nil h = absurd h.holds.has_arguments
  zero_case (app M nil) h = absurd h.holds.has_arguments.1
  zero_case (app M (app N nil)) h = absurd h.holds.has_arguments.1.1
  zero_case (app M (app N (app P (app Q T)))) h = absurd h.holds.has_arguments.1.1
  zero_case (app M (app N (app P nil))) h = by h.holds.values h.holds.is_ground h.holds.has_arguments
    where
      by : (σ : ℕ → Image) → Rattle.lf_cases.specs.Case.IsGroundInstance w plus_zero_case.items σ → Rattle.lf_cases.specs.Case.HasArguments σ plus_zero_case.arguments (app M (app N (app P nil))) → covered (app M (app N (app P nil)))
      by σ (Y, τ, g, ty, f) (a, (b, u)) = by_clause (app M (app N (app P nil))) (inputs_case Σ x G w (app M (app N (app P nil))) (subst (λ X. HasType Σ G X nat) (sym a) (nat, x.types_stay 0 nat refl, refl), (subst (λ X. HasType Σ G X nat) (sym (value_is σ (in_front (put (base 0) Y) τ) 0 Y N f refl b)) ty, tt)))

  successor_case : (T : Spine) → HoldsDistinctly w plus_successor_case F σ0 T → covered T
  successor_case nil h = absurd h.holds.has_arguments
  successor_case (app M nil) h = absurd h.holds.has_arguments.1
  successor_case (app M (app N nil)) h = absurd h.holds.has_arguments.1.1
  successor_case (app M (app N (app P (app Q T)))) h = absurd h.holds.has_arguments.1.1
  successor_case (app M (app N (app P nil))) h = by h.holds.values h.holds.is_ground h.holds.has_arguments
    where
      by : (σ : ℕ → Image) → Rattle.lf_cases.specs.Case.IsGroundInstance w plus_successor_case.items σ → Rattle.lf_cases.specs.Case.HasArguments σ plus_successor_case.arguments (app M (app N (app P nil))) → covered (app M (app N (app P nil)))
      by σ (Y, τ, (X, υ, g, tx, e), ty, f) (a, (b, u)) =
          let q : apply_image reduce (σ 1) nil ≡ X = value_is σ (in_front (put (base 0) Y) (in_front (put (base 0) X) υ)) 1 X (apply_image reduce (σ 1) nil) (f ∙ ap (in_front (put (base 0) Y)) e) refl refl in
          let t : HasType Σ G (successor X) nat = (Rattle.lf.specs.Syntax.pi nat nat, x.types_stay 1 (Rattle.lf.specs.Syntax.pi nat nat) refl, (tx, refl)) in
          by_clause (app M (app N (app P nil))) (inputs_case Σ x G w (app M (app N (app P nil))) (subst (λ Z. HasType Σ G Z nat) (sym (a ∙ ap successor q)) t, (subst (λ Z. HasType Σ G Z nat) (sym (value_is σ (in_front (put (base 0) Y) τ) 0 Y N f refl b)) ty, tt)))

plus_split : IsSplit Addition [] (first_below_second 1) plus_input_goal (plus_zero_case ∷ plus_successor_case ∷ [])
plus_split = record { like = like; holds = λ Σ x G w F σ T h. split Σ x w F σ T h }
  where
    like : (D : Case) → Member D (plus_zero_case ∷ plus_successor_case ∷ []) → IsLike plus_input_goal D
    like D (inl e) = subst (IsLike plus_input_goal) (sym e) (record { family = refl; places = refl; given = refl })
    like D (inr (inl e)) = subst (IsLike plus_input_goal) (sym e) (record { family = refl; places = refl; given = refl })
    like D (inr (inr e)) = absurd e

-- each of the two cases is an instance of a clause
pub plus_zero_covered : IsInstanceCase Addition [] (first_below_second 1) plus_heads plus_zero_case
plus_zero_covered Σ x G w F σ T h = zero_case Σ x w F σ T h

pub plus_successor_covered : IsInstanceCase Addition [] (first_below_second 1) plus_heads plus_successor_case
plus_successor_covered Σ x G w F σ T h = successor_case Σ x w F σ T h

plus_ends : Ends (IsInstanceCase Addition [] (first_below_second 1) plus_heads) (IsSplit Addition [] (first_below_second 1)) plus_input_goal
plus_ends = by_split (plus_zero_case ∷ plus_successor_case ∷ []) plus_split (next_case (at_leaf plus_zero_covered) (next_case (at_leaf plus_successor_covered) no_case))

pub plus_by_splits : PlusIsCoveredBySplits
plus_by_splits = (plus_split, plus_ends, split_covers Addition [] (first_below_second 1) plus_heads plus_input_goal tt plus_ends)
