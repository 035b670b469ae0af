-- The store in which a case with block variables by number is unified with a pattern, of a constant or of an entry: whether they meet. Block variables of
-- one block may be one: then they have one constant for each entry, and their terms are equated.
use Rattle.std.specs.Prelude.{◌≡◌, ℕ, zero, suc, ◌⊎◌, List, [], ◌∷◌, length, Bool, true, false, cond, Option, Some, None}
use Rattle.lf.specs.Syntax.{Spine, LfType, Kind, kind_pi, star}
use Rattle.lf.specs.Substitution.{Image, keep, substitute_type, reduce}
use Rattle.lf.specs.AtOnce.{shift_by, lift_renaming_by}
use Rattle.lf.specs.Depth.{depth_limit}
use Rattle.lf.specs.Typing.{Signature}
use Rattle.lf.specs.Entries.{quantifiers}
use Rattle.lf.specs.Variables.{target_arguments, binders, onto, same_number}
use Rattle.lf.specs.Subordination.{Block}
use Rattle.lf_unification.specs.DeepEquations.{AreDeep}
use Rattle.lf_unification.specs.Lists.{followed}
use Rattle.lf_unification.specs.Offering.{spine_equations}
use Rattle.lf_unification.specs.Solving.{Left}
use Rattle.lf_unification.specs.Unifiers.{Equation, Store}
use Rattle.lf_checks.specs.Clause.{Clause, constant_clause, entry_clause}
use Rattle.lf_cases.specs.Cover.{before}
use Rattle.lf_cases.specs.Pattern.{Origin, of_constant, of_entry, Pattern}
use Rattle.lf_coverage.specs.MeetStore.{open_arguments, place_equations, given_equations}
use Rattle.lf_coverage.specs.SplitStore.{open_spine, open_locals, context_metavariables}
use Rattle.lf_numbered.specs.EntryConstants.{with_entries}
use Rattle.lf_numbered.specs.EntryPatterns.{variable_images}
use Rattle.lf_numbered.specs.EntryPatternsMatching.{placed_type}
use Rattle.lf_numbered.specs.NewBlock.{rename_all, with_new_block}
use Rattle.lf_numbered.specs.NumberedCase.{NumberedCase}
use Rattle.lf_numbered.specs.NumberedCallsMeeting.{SharesInstance}
use Rattle.lf_numbered.specs.NumberedInstance.{block_at, moved_constant, move_spine, move_types, move_all}
use Rattle.lf_numbered.specs.OwnTerms.{BlockVariable, blocks_of, terms_at, rename_blocks}

-- block variables with other constants in their terms
abbrev pub move_blocks : (ℕ → ℕ) → List BlockVariable → List BlockVariable
move_blocks γ [] = []
move_blocks γ (b ∷ bs) = record { block = b.block; terms = move_spine γ b.terms } ∷ move_blocks γ bs

-- π says which block variables of the case are one: the block variable k is that of the number π k, which has the same block and stays itself.
abbrev pub Identifies : NumberedCase → (ℕ → ℕ) → Type 0
Identifies C π = (k : ℕ) (b : BlockVariable) → block_at C.blocks k ≡ Some b → (c : BlockVariable) × (block_at C.blocks (π k) ≡ Some c) × (c.block ≡ b.block) × (π (π k) ≡ π k)

-- The case with the constants of the block variable π k in the place of those of k. So cp b.x c.x is cp b.x b.x, where c is b.
abbrev pub identified : ℕ → (ℕ → ℕ) → NumberedCase → NumberedCase
identified first π C =
    let γ : ℕ → ℕ = moved_constant first (blocks_of C.blocks) (blocks_of C.blocks) π in
    record { blocks = move_blocks γ C.blocks; variables = move_types γ C.variables; given = move_all γ C.given; local = move_types γ C.local; family = C.family; arguments = move_all γ C.arguments }

-- the kind of what takes `some` terms, the oldest first
abbrev pub some_kind : List LfType → Kind → Kind
some_kind [] K = K
some_kind (A ∷ O) K = some_kind O (kind_pi A K)

-- a block variable's terms are these
abbrev pub terms_equations : BlockVariable → Option Spine → List Equation
terms_equations b None = []
terms_equations b (Some U) = spine_equations [] (some_kind b.block.some star) (open_spine zero b.terms) (open_spine zero U)

-- Each block variable, from the number k on, that is another of the case has that one's terms.
abbrev pub identity_equations : (ℕ → ℕ) → List BlockVariable → ℕ → List BlockVariable → List Equation
identity_equations π bs k [] = []
identity_equations π bs k (b ∷ cs) = followed (cond (same_number (π k) k) [] (terms_equations b (terms_at bs (π k)))) (identity_equations π bs (suc k) cs)

-- Where the pattern is put: beside the case J, with φ for what stands outside its clause. A constant's is put beside the case itself; an entry's is that of
-- a block variable of the case, for the first block variable alone of z; or that of a new one, which stays itself.
pub data IsPutBeside (first : ℕ) (C : NumberedCase) (π : ℕ → ℕ) (b : Bool) : (c : Clause) → Origin c → NumberedCase → (ℕ → Image) → Type 0 where
  constant_beside : (U : LfType) → IsPutBeside first C π b (constant_clause U) (of_constant U) C keep
  entry_beside : (B : Block) (later : List LfType) (E : LfType) (es : List LfType) (e : onto later (E ∷ es) ≡ B.entries) (k : ℕ) (U : Spine) → block_at C.blocks k ≡ Some (record { block = B; terms = U }) → π k ≡ k → (b ≡ true → k ≡ π zero) → IsPutBeside first C π b (entry_clause B es E) (of_entry B later E es e) C (before later (variable_images first C.blocks k B U))
  new_beside : (B : Block) (later : List LfType) (E : LfType) (es : List LfType) (e : onto later (E ∷ es) ≡ B.entries) (U : Spine) → b ≡ false → π (length C.blocks) ≡ length C.blocks → block_at (with_new_block B C).blocks (length C.blocks) ≡ Some (record { block = B; terms = U }) → IsPutBeside first C π b (entry_clause B es E) (of_entry B later E es e) (with_new_block B C) (before later (variable_images first (with_new_block B C).blocks (length C.blocks) B U))

-- The variables of the clause itself and, behind them, those of the case J are metavariables. The terms of block variables that are one are equated, then
-- what is given, and then the arguments at the covered places, the case's on the left. K is the kind of the family.
abbrev pub meet_store_by_number : (ℕ → ℕ) → NumberedCase → Pattern → (ℕ → Image) → Kind → Store
meet_store_by_number π J p φ K =
    let X : List LfType = binders J.variables (substitute_type reduce φ p.clause.type) in
    let n : ℕ = quantifiers p.clause.type in
    let T : LfType = placed_type p φ in
    let D : List LfType = binders [] T in
    let bs : List BlockVariable = rename_blocks (shift_by n) J.blocks in
    record {
      metavariables = context_metavariables X;
      bindings = [];
      equations = followed (identity_equations π bs zero bs) (followed (given_equations X zero (rename_all (shift_by n) J.given)) (place_equations (open_locals D) (open_arguments (length D) (rename_all (lift_renaming_by (length J.local) (shift_by n)) J.arguments)) (open_spine (length D) (target_arguments T)) K));
    }

-- It is open whether they meet: for some way in which block variables are one, and some place of the pattern beside the case, unification over the
-- signature with entries leaves equations outside the pattern fragment, or they are deep.
pub record IsOpenByNumber (Σ : Signature) (first : ℕ) (C : NumberedCase) (p : Pattern) : Type 0 where
  pub kind : Kind
  pub of_family : Σ.kinds C.family ≡ Some kind
  pub numbers : ℕ → ℕ
  pub identifies : Identifies C numbers
  pub case : NumberedCase
  pub outer : ℕ → Image
  pub beside : IsPutBeside first (identified first numbers C) numbers p.at_first p.clause p.origin case outer
  pub undecided : AreDeep depth_limit (with_entries Σ first (blocks_of case.blocks)) (meet_store_by_number numbers case p outer kind) ⊎ ((after : Store) × Left (with_entries Σ first (blocks_of case.blocks)) (meet_store_by_number numbers case p outer kind) after)

-- The pattern meets the case: they share a typed instance, or it is open whether they do.
abbrev pub MeetsByNumber : Signature → ℕ → List Block → NumberedCase → Pattern → Type 0
MeetsByNumber Σ first W C p = SharesInstance Σ first W C p ⊎ IsOpenByNumber Σ first C p
