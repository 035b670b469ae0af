-- Cases with block variables by number as instances of patterns: of a constant's clause, or of a block's entry, which is the entry of one of the block
-- variables of the case. All is over the signature with entries.
use Rattle.std.specs.Prelude.{◌≡◌, ℕ, zero, List, [], ◌∷◌, Bool, true, Some}
use Rattle.lf.specs.Syntax.{Term, Spine, nil, app, LfType, Skeleton, skeleton}
use Rattle.lf.specs.Substitution.{Image, keep, put, substitute_type, reduce}
use Rattle.lf.specs.AtOnce.{in_front}
use Rattle.lf.specs.Typing.{Signature}
use Rattle.lf.specs.Variables.{target_arguments, Values}
use Rattle.lf.specs.Subordination.{Block}
use Rattle.lf_checks.specs.Clause.{Clause, scope}
use Rattle.lf_checks.specs.Ground.{UsesGoal}
use Rattle.lf_cases.specs.Case.{covered_places}
use Rattle.lf_cases.specs.Cover.{before, AgreesOutside, AreTerms}
use Rattle.lf_cases.specs.Pattern.{Origin, of_constant, of_entry, Pattern, given_at, ground_in}
use Rattle.lf_coverage.specs.Matching.{ArePlaces}
use Rattle.lf_numbered.specs.EntryConstants.{entry_images, with_entries}
use Rattle.lf_numbered.specs.NumberedCase.{NumberedCase}
use Rattle.lf_numbered.specs.NumberedInstance.{block_at, first_constant}
use Rattle.lf_numbered.specs.OwnTerms.{BlockVariable, blocks_of, own_terms, ImageOnOwnTerms}

-- the last of the arguments M and S, and those before it
abbrev pub last_of : Term → Spine → Term
last_of M nil = M
last_of M (app N S) = last_of N S

abbrev pub but_last : Term → Spine → Spine
but_last M nil = nil
but_last M (app N S) = app M (but_last N S)

-- The terms of a block variable, for the `some` variables that they stand for: the last term for the newest.
abbrev pub some_images : List LfType → Spine → ℕ → Image
some_images [] U = keep
some_images (A ∷ O) nil = keep
some_images (A ∷ O) (app M U) = in_front (put (skeleton A) (last_of M U)) (some_images O (but_last M U))

-- What the block variable of number k, of the block B on the terms U, gives the variables of its block: its constants to the entries, in front of U.
abbrev pub variable_images : ℕ → List BlockVariable → ℕ → Block → Spine → ℕ → Image
variable_images first bs k B U = entry_images (first_constant first (blocks_of bs) k) U B.entries (some_images B.some U)

-- What τ gives to what stands outside the clause: nothing stands outside a constant; for an entry it is given by a block variable of the case with its
-- block, and for the entry of the first block variable alone by that of number 0.
abbrev pub StandsByNumber : ℕ → NumberedCase → {c : Clause} → Origin c → Bool → (ℕ → Image) → Type 0
StandsByNumber first C (of_constant U) b τ = Unit {0}
StandsByNumber first C {c = c} (of_entry B later E es e) b τ = (k : ℕ) × (U : Spine) × (block_at C.blocks k ≡ Some (record { block = B; terms = U })) × (b ≡ true → k ≡ zero) × AgreesOutside c τ (before later (variable_images first C.blocks k B U))

-- The case is an instance of the pattern: typed terms, on own terms, for the variables of the clause that stand in the covered places, the given ones
-- where they are given, make the pattern's arguments there the case's; and each of these variables has a strict occurrence there or is ground before.
-- So cp b.x b.x is an instance of the entry u : cp x x of {x:exp} {u:cp x x}, by the block variable b.
pub record IsInstanceOfPattern (Σ : Signature) (first : ℕ) (C : NumberedCase) (p : Pattern) : Type 0 where
  pub used : ℕ → Bool
  pub values : ℕ → Image
  pub typed : Values (with_entries Σ first (blocks_of C.blocks)) used (scope p.clause) C.variables values
  pub on_own_terms : (i : ℕ) → used i ≡ true → ImageOnOwnTerms (own_terms first C.blocks) (values i)
  pub uses : UsesGoal used (covered_places C.arguments) p.type
  pub strict : UsesGoal (ground_in p (covered_places C.arguments) C.given) (covered_places C.arguments) p.type
  pub terms : AreTerms p.clause used values
  pub given : (i : ℕ) (M : Term) → used i ≡ true → given_at C.given i ≡ Some M → (a : Skeleton) × (values i ≡ put a M)
  pub stands : StandsByNumber first C p.origin p.at_first values
  pub same : ArePlaces C.arguments (target_arguments (substitute_type reduce values p.type))
