-- Legal extensions of a signature.
use Rattle.std.specs.Prelude.{◌≡◌, ℕ, Some, Bool, true}
use Rattle.lf.specs.Syntax.{LfType, Kind}
use Rattle.lf.specs.Typing.{Signature, IsSignature}
use Rattle.lf.specs.Variables.{target}

-- A legal extension over the set S of families: entries are appended, and none is a constant whose target is in S.
pub record Extends (S : ℕ → Bool) (Σ Σ' : Signature) : Type 0 where
  pub ok : IsSignature Σ'
  pub types_stay : (c : ℕ) (A : LfType) → Σ.types c ≡ Some A → Σ'.types c ≡ Some A
  pub kinds_stay : (a : ℕ) (K : Kind) → Σ.kinds a ≡ Some K → Σ'.kinds a ≡ Some K
  pub no_new : (c : ℕ) (A : LfType) → Σ'.types c ≡ Some A → S (target A) ≡ true → Σ.types c ≡ Some A
