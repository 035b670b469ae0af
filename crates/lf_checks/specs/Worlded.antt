-- Well-worlded clauses: local contexts of subgoals are sequences of instances of blocks, and callees know the caller's blocks.
use Rattle.std.specs.Prelude.{◌≡◌, ℕ, suc, List, [], ◌∷◌, Bool, true, false, ◌⊎◌}
use Rattle.lf.specs.Syntax.{LfType}
use Rattle.lf.specs.Substitution.{Image, keep, put}
use Rattle.lf.specs.Typing.{Signature, TypeAt}
use Rattle.lf.specs.Variables.{target, binders, onto, Values, everything, nothing}
use Rattle.lf.specs.Subordination.{Block, Member}
use Rattle.lf.specs.Worlds.{instance}
use Rattle.lf_checks.specs.Clause.{Clause, scope, among, IsSubgoal}
use Rattle.lf_checks.specs.Strict.{strict_type}

-- a value that is a term, and no variable that stands for itself
abbrev pub IsTerm : Image → Type 0
IsTerm (keep j) = ⊥
IsTerm (put a N) = Unit {0}

-- variable x, seen past a list of types
abbrev pub past_types : List LfType → ℕ → ℕ
past_types [] x = x
past_types (E ∷ es) x = suc (past_types es x)

-- each `some` variable has a strict occurrence in an entry's type, where the entries before it count as bound variables
abbrev pub IsStrictBlock : Block → Type 0
IsStrictBlock B = (x : ℕ) (A : LfType) → TypeAt B.some x A → (later : List LfType) × (E : LfType) × (es : List LfType) × (onto later (E ∷ es) ≡ B.entries) × (strict_type (among es) nothing (past_types es x) E ≡ true)

-- A sequence of instances of strict blocks of W over the context C. The `some` terms are typed in what precedes.
pub data IsSequence (Σ : Signature) (W : List Block) (C : List LfType) : List LfType → Type 0 where
  no_instance : IsSequence Σ W C []
  next_instance : {D : List LfType} (B : Block) (θ : ℕ → Image) → IsSequence Σ W C D → Member B W → IsStrictBlock B → Values Σ everything B.some (onto D C) θ → ((i : ℕ) (A : LfType) → TypeAt B.some i A → IsTerm (θ i)) → IsSequence Σ W C (onto (instance B.entries θ) D)

-- the local context of each subgoal is such a sequence
abbrev pub WellWorlded : Signature → List Block → Clause → Type 0
WellWorlded Σ W c = (i : ℕ) (A : LfType) → IsSubgoal c i A → IsSequence Σ W (scope c) (binders [] A)

-- Each block of the caller's worlds W is one of the callee's worlds V, or has no entry whose target is in T, the families below
-- the callee.
abbrev pub BlocksServe : List Block → List Block → (ℕ → Bool) → Type 0
BlocksServe W V T = (B : Block) → Member B W → Member B V ⊎ ((E : LfType) → Member E B.entries → T (target E) ≡ false)
