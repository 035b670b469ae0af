-- Terms that are put in one after the other, as a program does it: the types of entries' constants, and the clause of
-- an entry at a block variable.
use Rattle.std.specs.Prelude.{◌≡◌, ℕ, zero, suc, ◌+◌, ◌≤◌, List, [], ◌∷◌, ◌++◌, length, map, Option, None}
use Rattle.lf.specs.Syntax.{Term, Spine, constant, nil, app, LfType, Skeleton, rename, skeleton}
use Rattle.lf.specs.Substitution.{Image, keep, put, single, substitute_type, reduce}
use Rattle.lf.specs.SkeletonTyping.{HeadSkeletons, SubstitutionBySkeletons, TypeBySkeletons}
use Rattle.lf.specs.Skeletons.{constant_skeletons, context_skeletons}
use Rattle.lf.specs.AtOnce.{in_front, shift_by}
use Rattle.lf.specs.Eta.{eta_expand}
use Rattle.lf.specs.Typing.{Signature, IsContext, IsSignature, IsType, IsTypedSubstitution}
use Rattle.lf.specs.Variables.{binders, onto, target_arguments}
use Rattle.lf.specs.Subordination.{Block}
use Rattle.lf_checks.specs.Clause.{scope}
use Rattle.lf_cases.specs.Candidates.{given_images, with_given}
use Rattle.lf_cases.specs.Case.{Case, as_term, items_context}
use Rattle.lf_cases.specs.Cover.{before}
use Rattle.lf_cases.specs.Pattern.{Pattern}
use Rattle.lf_unification.specs.Offering.{local_arguments, pi_over}
use Rattle.lf_coverage.specs.Leaf.{IsTypedPattern}
use Rattle.lf_numbered.specs.EntryConstants.{entry_constant_type, entry_images}
use Rattle.lf_numbered.specs.EntryPatterns.{but_last, last_of, some_images}
use Rattle.lf_numbered.specs.NumberedCase.{AreSomeTerms}

-- Terms for the newest variables, with their skeletons, the newest first. They stand over what is behind all these
-- variables.
abbrev pub put_at_once : List (Skeleton × Term) → ℕ → Image
put_at_once [] = keep
put_at_once (x ∷ xs) = in_front (put x.0 x.1) (put_at_once xs)

-- The newest variable is the first. Its term moves past the variables that are left, so that none of these is taken for
-- one of the term's own: y and s z in d 0 1 give d y (s z).
abbrev pub put_one_by_one : List (Skeleton × Term) → LfType → LfType
put_one_by_one [] A = A
put_one_by_one (x ∷ xs) A = put_one_by_one xs (substitute_type reduce (single x.0 (rename (shift_by (length xs)) x.1)) A)

abbrev pub skeletons_put : List (Skeleton × Term) → List Skeleton
skeletons_put xs = map (λ (x : Skeleton × Term). x.0) xs

-- Where all have their skeletons this is the same.
abbrev pub OneByOneIsAtOnce : Type 0
OneByOneIsAtOnce = (φ : ℕ → Option Skeleton) (κ : HeadSkeletons) (Δ : List Skeleton) (xs : List (Skeleton × Term)) → SubstitutionBySkeletons κ (skeletons_put xs ++ Δ) Δ (put_at_once xs) → (A : LfType) → TypeBySkeletons φ κ (skeletons_put xs ++ Δ) A → put_one_by_one xs A ≡ substitute_type reduce (put_at_once xs) A

-- What stands for each variable of a context, as a term: a variable that stays is its eta-long form.
abbrev pub all_put : List LfType → (ℕ → Image) → List (Skeleton × Term)
all_put [] σ = []
all_put (A ∷ G) σ = (skeleton A, as_term (skeleton A) (σ zero)) ∷ all_put G (λ i. σ (suc i))

-- So any substitution of all variables of a type is made by terms that are put in one after the other.
abbrev pub SubstitutionIsPut : Type 0
SubstitutionIsPut = (Σ : Signature) (G : List LfType) (Δ : List Skeleton) (σ : ℕ → Image) → SubstitutionBySkeletons (constant_skeletons Σ) (context_skeletons G) Δ σ → (A : LfType) → IsType Σ G A → substitute_type reduce σ A ≡ put_one_by_one (all_put G σ) A

-- So the given terms of a case are put into a pattern: where each has its variable's skeleton, the pattern's arguments are
-- those of its type with these terms, and the variables that stay, put in one after the other.
abbrev pub GivenIsPut : Type 0
GivenIsPut = (Σ : Signature) (Δ : List Skeleton) (C : Case) (p : Pattern) → IsTypedPattern Σ p → SubstitutionBySkeletons (constant_skeletons Σ) (context_skeletons (scope p.clause)) Δ (given_images (scope p.clause) C.given (length (items_context C.items))) → with_given C p.clause (binders [] p.type) (target_arguments p.type) ≡ target_arguments (put_one_by_one (all_put (scope p.clause) (given_images (scope p.clause) C.given (length (items_context C.items)))) p.type)

-- The constants of these entries of a block variable on the terms U stand in front of further terms. U itself is for
-- the `some` variables.
abbrev pub entries_put : ℕ → Spine → List LfType → List (Skeleton × Term) → List (Skeleton × Term)
entries_put n U [] xs = xs
entries_put n U (E ∷ es) xs = (skeleton E, eta_expand (skeleton E) (constant (n + length es)) U) ∷ entries_put n U es xs

abbrev pub some_put : List LfType → Spine → List (Skeleton × Term)
some_put [] U = []
some_put (A ∷ O) nil = []
some_put (A ∷ O) (app M U) = (skeleton A, last_of M U) ∷ some_put O (but_last M U)

-- The type of an entry's constant is made so: in the entry's type the constants of the entries before it, on the `some`
-- variables, are put in, and it is closed over these.
abbrev pub EntryTypeIsPut : Type 0
EntryTypeIsPut = (Σ : Signature) → IsSignature Σ → (n : ℕ) → ((c : ℕ) → n ≤ c → Σ.types c ≡ None) → (O : List LfType) (E : LfType) (es : List LfType) → IsContext Σ (onto (E ∷ es) O) → entry_constant_type n O es E ≡ pi_over O (put_one_by_one (entries_put n (local_arguments O) es []) E)

-- So is what stands behind the entries before an entry, where a block variable on the terms U, whose first constant is
-- n, stands for what is outside it.
abbrev pub PlacedTypeIsPut : Type 0
PlacedTypeIsPut = (Σ : Signature) → IsSignature Σ → (X : List LfType) (n : ℕ) (B : Block) (later : List LfType) (E : LfType) (es : List LfType) → onto later (E ∷ es) ≡ B.entries → (U : Spine) → AreSomeTerms Σ X B.some U → IsTypedSubstitution Σ (onto es B.some) X (before later (entry_images n U B.entries (some_images B.some U))) → (A : LfType) → IsType Σ (onto es B.some) A → substitute_type reduce (before later (entry_images n U B.entries (some_images B.some U))) A ≡ put_one_by_one (entries_put n U es (some_put B.some U)) A
