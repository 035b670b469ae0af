-- Cases whose arguments are free variables alone are typed: p X, with X : exp, also beside block variables; and f N Y, with Y : t N.
use Rattle.std.proofs.Common.{◌≡◌, ℕ, List, [], ◌∷◌, refl}
use Rattle.std.specs.Prelude.{Option, Some}
use Rattle.lf.specs.Syntax.{Spine, nil, LfType, atom, base, kind_pi, star, weaken}
use Rattle.lf.specs.Substitution.{Image, reduce, substitute_type}
use Rattle.lf.specs.Typing.{ImageHasType, IsTypedSubstitution, Signature, TypeAt}
use Rattle.lf.specs.Subordination.{Block}
use Rattle.lf_totality.specs.Examples.{var}
use Rattle.lf_totality.specs.ExamplesGroups.{on_one}
use Rattle.lf_coverage.proofs.UsedVariables.{types_of_one, types_of_two}
use Rattle.lf_numbered.specs.EntryConstants.{with_entries}
use Rattle.lf_numbered.specs.NumberedCase.{AreTypedBlockVariables, NumberedCase}
use Rattle.lf_numbered.specs.OwnTerms.{BlockVariable, blocks_of, own_terms, TypeOnOwnTerms}
use Rattle.lf_numbered.specs.TypedNumbered.{IsTypedNumberedCase}

-- A value of one variable, as [x] x of F : exp -> exp, is typed.
pub value_is_typed : (Σ : Signature) (A : LfType) (D : List LfType) (σ : ℕ → Image) → ImageHasType Σ D (σ 0) (substitute_type reduce σ (weaken A)) → IsTypedSubstitution Σ (A ∷ []) D σ
value_is_typed Σ A D σ h = types_of_one (λ i B. ImageHasType Σ D (σ i) (substitute_type reduce σ B)) A h

-- X : a
pub variable_on_own : (o : ℕ → Option Spine) (a i : ℕ) (A : LfType) → TypeAt (atom a nil ∷ []) i A → TypeOnOwnTerms o A
variable_on_own o a = types_of_one (λ i A. TypeOnOwnTerms o A) (atom a nil) tt

abbrev of_variable : ℕ → ℕ → List BlockVariable → NumberedCase
of_variable a p bs = record { blocks = bs; variables = atom a nil ∷ []; given = []; local = []; family = p; arguments = Some (var 0) ∷ [] }

pub variable_is_typed : (Σ : Signature) (first : ℕ) (W : List Block) (a p : ℕ) → Σ.kinds a ≡ Some star → (bs : List BlockVariable) → AreTypedBlockVariables (with_entries Σ first (blocks_of bs)) W (atom a nil ∷ []) (own_terms first bs) bs → IsTypedNumberedCase Σ first W (of_variable a p bs)
variable_is_typed Σ first W a p kind bs typed = record {
  variables = record { variables = (tt, (star, kind, tt)); on_own_terms = variable_on_own (own_terms first bs) a; blocks = typed };
  local = (tt, (star, kind, tt));
  local_on_own = tt;
  given = tt;
  given_on_own = tt;
  arguments = ((base a, (base a, refl, refl)), tt);
  arguments_on_own = (tt, tt);
}

-- N : a and Y : t N
abbrev of_index : ℕ → ℕ → ℕ → NumberedCase
of_index a t f = record { blocks = []; variables = on_one t (var 0) ∷ atom a nil ∷ []; given = []; local = []; family = f; arguments = Some (var 1) ∷ Some (var 0) ∷ [] }

pub index_is_typed : (Σ : Signature) (first : ℕ) (W : List Block) (a t f : ℕ) → Σ.kinds a ≡ Some star → Σ.kinds t ≡ Some (kind_pi (atom a nil) star) → IsTypedNumberedCase Σ first W (of_index a t f)
index_is_typed Σ first W a t f kind index_kind = record {
  variables = record { variables = ((tt, (star, kind, tt)), (_, index_kind, ((atom a nil, refl, refl), tt))); on_own_terms = types_of_two (λ i A. TypeOnOwnTerms (own_terms first []) A) (on_one t (var 0)) (atom a nil) (tt, tt) tt; blocks = tt };
  local = ((tt, (star, kind, tt)), (_, index_kind, ((atom a nil, refl, refl), tt)));
  local_on_own = tt;
  given = tt;
  given_on_own = tt;
  arguments = ((base a, (base a, refl, refl)), ((base t, (base t, refl, refl)), tt));
  arguments_on_own = (tt, (tt, tt));
}
