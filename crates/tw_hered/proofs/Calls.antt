-- What the public calls owe to the walks, and what the walks' results are.
use Rattle.std.proofs.Common.{◌≡◌, ℕ, ◌<◌, sym, ap, ◌∙◌, subst}
use Rattle.lf.specs.Syntax.{Term, Spine, LfType, Skeleton}
use Rattle.lf.specs.Substitution.{single, substitute, substitute_type, reduce}
use Rattle.lf.specs.Depth.{depth, type_depth}
use Rattle.lf.specs.Deep.{DeepSubstitution, DeepTypeSubstitution, DeepReduction}
use Rattle.lf.proofs.Deep.{deep_result, deep_type_result, deep_reduct}
use Rattle.lf_closures.specs.Environments.{Environment, outside, move_by, value_in, type_value_in, applied_in}
use Rattle.lf_closures.specs.Typing.{ClosureFits, TypeClosureFits, ClosureApplies}
use Rattle.lf_closures.proofs.Steps.{put_alone, put_alone_value, put_alone_fits, outside_applies, outside_value}
use Rattle.tw_hered.specs.Fits.{put_at, TermFits, TypeFits, Applies}

module _ (n : ℕ) (a : Skeleton) (N : Term) (e : Environment) (is : e ≡ put_alone n a N) where
  pub term_fits_in : (M : Term) → TermFits (put_at n a N) M → ClosureFits e M
  term_fits_in M f = subst (λ E. ClosureFits E M) (sym is) (record {
    heads = f.heads;
    context = f.context;
    target = f.target;
    term_skeleton = f.term_skeleton;
    environment_fits = put_alone_fits f.heads f.context f.target n a N f.substitution_typed;
    term_typed = f.term_typed;
  })

  pub type_fits_in : (A : LfType) → TypeFits (put_at n a N) A → TypeClosureFits e A
  type_fits_in A f = subst (λ E. TypeClosureFits E A) (sym is) (record {
    families = f.families;
    heads = f.heads;
    context = f.context;
    target = f.target;
    environment_fits = put_alone_fits f.heads f.context f.target n a N f.substitution_typed;
    type_typed = f.type_typed;
  })

  pub term_value_in : (M : Term) → value_in e M ≡ substitute reduce (put_at n a N) M
  term_value_in M = ap (λ E. value_in E M) is ∙ ap (λ σ. substitute reduce σ M) (put_alone_value n a N)

  pub type_value : (A : LfType) → type_value_in e A ≡ substitute_type reduce (put_at n a N) A
  type_value A = ap (λ E. type_value_in E A) is ∙ ap (λ σ. substitute_type reduce σ A) (put_alone_value n a N)

  -- a result that is too deep stands in a derivation
  pub deep_term_in : (k : ℕ) (M : Term) → TermFits (put_at n a N) M → k < depth (value_in e M) → DeepSubstitution k (put_at n a N) M
  deep_term_in k M f h = deep_result f.heads k f.context f.target (put_at n a N) f.substitution_typed M f.term_skeleton f.term_typed (subst (λ X. k < depth X) (term_value_in M) h)

  pub deep_type_in : (k : ℕ) (A : LfType) → TypeFits (put_at n a N) A → k < type_depth (type_value_in e A) → DeepTypeSubstitution k (put_at n a N) A
  deep_type_in k A f h = deep_type_result f.heads k f.context f.target (put_at n a N) f.substitution_typed f.families A f.type_typed (subst (λ X. k < type_depth X) (type_value A) h)

-- the newest variable
pub newest_type_fits : (a : Skeleton) (N : Term) (e : Environment) (A : LfType) → e ≡ put_alone 0 a N → TypeFits (single a N) A → TypeClosureFits e A
newest_type_fits a N e A is f = type_fits_in 0 a N e is A f

pub newest_type_value : (a : Skeleton) (N : Term) (e : Environment) (A : LfType) → e ≡ put_alone 0 a N → type_value_in e A ≡ substitute_type reduce (single a N) A
newest_type_value a N e A is = type_value 0 a N e is A

-- a term on a spine
module _ (a : Skeleton) (N : Term) (c : Environment) (S T : Spine) (is : c ≡ outside) (same : S ≡ T) where
  pub applies_in : Applies a N S → ClosureApplies a N (move_by 0 c) T c
  applies_in f = subst (λ E. ClosureApplies a N (move_by 0 E) T E) (sym is) (subst (λ X. ClosureApplies a N outside X outside) same (outside_applies f.heads f.context a N S f.family f.term_typed f.spine_typed))

  pub applied_value : applied_in a N (move_by 0 c) T c ≡ reduce a N S
  applied_value = ap (λ E. applied_in a N (move_by 0 E) T E) is ∙ sym (ap (λ X. applied_in a N outside X outside) same) ∙ outside_value a N S

  pub deep_applied_in : (k : ℕ) (R : Term) → R ≡ applied_in a N (move_by 0 c) T c → Applies a N S → k < depth R → DeepReduction k a N S
  deep_applied_in k R r f h = deep_reduct f.heads k f.context a N S f.family f.term_typed f.spine_typed (subst (λ X. k < depth X) (r ∙ applied_value) h)
