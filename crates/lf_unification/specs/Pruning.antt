-- Pruning: a metavariable loses an argument that no typed unifier uses. It is bound to a new metavariable on the other arguments.
-- It is taken only where the new type is the old one without that argument, by renaming. The old type is read as it is declared: a
-- metavariable whose type mentions a bound one is renewed first, at its type with the bindings put in.
use Rattle.std.specs.Prelude.{◌≡◌, ℕ, List, [], ◌∷◌, Option, Some}
use Rattle.lf.specs.Syntax.{Skeleton, Spine, Term, LfType, atom, metavariable, rename_type, root, skeleton}
use Rattle.lf.specs.Typing.{TypeAt}
use Rattle.lf.specs.Variables.{onto}
use Rattle.lf_unification.specs.Inversion.{MustDrop, SameMetavariable}
use Rattle.lf_unification.specs.Offering.{pi_over}
use Rattle.lf_unification.specs.OpenTyping.{set_at, skeletons_of}
use Rattle.lf_unification.specs.Patterns.{InImage, Injective, PatternFits, beyond, context_under, lambdas_of, past, pattern, pattern_renaming}
use Rattle.lf_unification.specs.Rigid.{past_binders}
use Rattle.lf_unification.specs.Unifiers.{Store}

-- The context E' is a part of E: the renaming takes its variables to variables of E of the renamed types, and leaves what stands outside.
pub record IsPartOf (E' E : List LfType) (ρ : ℕ → ℕ) : Type 0 where
  pub outer : (i : ℕ) → ρ (beyond E' i) ≡ beyond E i
  pub types : (i : ℕ) (Y : LfType) → TypeAt (onto E' []) i Y → TypeAt (onto E []) (ρ i) (rename_type ρ Y)

-- the variables under the lambdas of the new type X', seen under those of the old type X, where `kept` are the arguments that stay
abbrev pub kept_renaming : LfType → LfType → List ℕ → ℕ → ℕ
kept_renaming X X' kept = pattern_renaming (skeleton X') kept (past (skeleton X))

-- The type of n without the argument that the variable `dropped` stands for, under the lambdas of n's value: the arguments and the
-- target that stay are those of the old type, renamed.
pub record PrunedType (Ψ : ℕ → Option LfType) (n dropped : ℕ) : Type 0 where
  pub local : List LfType
  pub family : ℕ
  pub indices : Spine
  pub declared : Ψ n ≡ Some (pi_over local (atom family indices))
  pub kept_local : List LfType
  pub kept_indices : Spine
  pub kept : List ℕ
  pub distinct : Injective (kept_renaming (pi_over local (atom family indices)) (pi_over kept_local (atom family kept_indices)) kept)
  pub places : (Γ : List Skeleton) → PatternFits (context_under (skeleton (pi_over local (atom family indices))) Γ) (skeleton (pi_over kept_local (atom family kept_indices))) kept
  pub part : IsPartOf kept_local local (kept_renaming (pi_over local (atom family indices)) (pi_over kept_local (atom family kept_indices)) kept)
  pub same_target : atom family indices ≡ rename_type (kept_renaming (pi_over local (atom family indices)) (pi_over kept_local (atom family kept_indices)) kept) (atom family kept_indices)
  pub others_stay : (i : ℕ) → (i ≡ dropped → ⊥) → InImage (kept_renaming (pi_over local (atom family indices)) (pi_over kept_local (atom family kept_indices)) kept) i
  pub is_lost : InImage (kept_renaming (pi_over local (atom family indices)) (pi_over kept_local (atom family kept_indices)) kept) dropped → ⊥

-- the new type
abbrev pub pruned_type : {Ψ : ℕ → Option LfType} {n dropped : ℕ} → PrunedType Ψ n dropped → LfType
pruned_type p = pi_over p.kept_local (atom p.family p.kept_indices)

-- the store after the pruning, with n' as the new metavariable
abbrev pub pruned_store : (s : Store) (n dropped : ℕ) → PrunedType s.metavariables n dropped → ℕ → Store
pruned_store s n dropped p n' = record {
  metavariables = set_at n' (Some (pi_over p.kept_local (atom p.family p.kept_indices))) s.metavariables;
  bindings = record { of = n; value = lambdas_of (skeleton (pi_over p.local (atom p.family p.indices))) (root (metavariable n') (pattern (skeleton (pi_over p.kept_local (atom p.family p.kept_indices))) p.kept)) } ∷ s.bindings;
  equations = s.equations;
}

-- A metavariable in N must lose an argument, and its type allows it.
pub record CanDrop (Ψ : ℕ → Option LfType) (D : List LfType) (t : Skeleton) (xs : List ℕ) (N : Term) : Type 0 where
  pub drop : MustDrop Ψ D t xs N
  pub dropped : ℕ
  pub is_place : pattern_renaming (skeletons_of Ψ drop.m) drop.ys (λ j. past_binders drop.depth (beyond D j)) dropped ≡ drop.bad
  pub pruned : PrunedType Ψ drop.m dropped

-- Both sides are m on patterns, which differ at an argument, and its type allows to lose this one.
pub record CanAgree (Ψ : ℕ → Option LfType) (D : List LfType) (m : ℕ) (xs : List ℕ) (N : Term) : Type 0 where
  pub same : SameMetavariable Ψ D m xs N
  pub dropped : ℕ
  pub differ : pattern_renaming (skeletons_of Ψ m) xs (beyond D) dropped ≡ pattern_renaming (skeletons_of Ψ m) same.ys (beyond D) dropped → ⊥
  pub pruned : PrunedType Ψ m dropped
