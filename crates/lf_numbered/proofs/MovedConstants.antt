-- Terms, entries, contexts and block variables whose constants are moved: what stays of them, and what is typed by skeletons.
use Rattle.std.proofs.Common.{◌≡◌, ℕ, zero, suc, ◌+◌, List, [], ◌∷◌, length, refl, sym, ap, ap₂, ◌∙◌}
use Rattle.std.specs.Prelude.{Option, Some, None}
use Rattle.lf.specs.Syntax.{constant, variable, metavariable, Term, Spine, lambda, root, nil, app, LfType, Kind, pi, atom, Skeleton, base, arrow, skeleton, rename_spine, weaken}
use Rattle.lf.specs.Substitution.{Image, put, lift}
use Rattle.lf.specs.SkeletonTyping.{TermSkeleton, SpineSkeleton}
use Rattle.lf.specs.Skeletons.{constant_skeletons, context_skeletons, type_skeleton}
use Rattle.lf.specs.Eta.{add_last, eta_expand}
use Rattle.lf.specs.Typing.{Signature, TypeAt, IsContext}
use Rattle.lf.specs.Variables.{target_arguments, onto}
use Rattle.lf.specs.Worlds.{lift_over}
use Rattle.lf_cases.specs.Pattern.{given_at}
use Rattle.lf_unification.specs.Offering.{pi_over, local_arguments}
use Rattle.lf_coverage.specs.Heads.{HaveSkeletons}
use Rattle.lf_coverage.proofs.Parts.{some_same}
use Rattle.lf_numbered.specs.EntryConstants.{entry_images}
use Rattle.lf_numbered.specs.EntryPatterns.{last_of, but_last, some_images}
use Rattle.lf_numbered.specs.NumberedCallsStores.{move_blocks}
use Rattle.lf_numbered.specs.NumberedInstance.{block_at, move, move_all, move_spine, move_type, move_types}
use Rattle.lf_numbered.specs.OwnTerms.{BlockVariable, blocks_of}
use Rattle.lf_numbered.specs.WritingRoom.{move_image, move_kind}
use Rattle.lf_numbered.proofs.Reading.{IsOld}
use Rattle.lf_numbered.proofs.WritingGap.{add_moved, long_moved, same_old}
use Rattle.lf_numbered.proofs.WritingMove.{lift_moved, move_spine_renamed, move_type_renamed, moved_is_type, skeleton_moved}
use mathlib.Core.Path.{fun_ext}

-- eta-long terms and entries with other constants
pub head_moved : (γ : ℕ → ℕ) (a : Skeleton) (c : ℕ) (T : Spine) → move γ (eta_expand a (constant c) T) ≡ eta_expand a (constant (γ c)) (move_spine γ T)
head_moved γ (base k) c T = refl
head_moved γ (arrow a b) c T = ap lambda (head_moved γ b c (add_last (rename_spine suc T) (eta_expand a (variable zero) nil)) ∙ ap (eta_expand b (constant (γ c))) (add_moved γ (rename_spine suc T) (eta_expand a (variable zero) nil) ∙ ap₂ add_last (move_spine_renamed γ suc T) (long_moved γ a zero nil)))

pub locals_moved : (γ : ℕ → ℕ) (D : List LfType) → move_spine γ (local_arguments D) ≡ local_arguments D
locals_moved γ [] = refl
locals_moved γ (A ∷ D) = add_moved γ (rename_spine suc (local_arguments D)) (eta_expand (skeleton A) (variable zero) nil) ∙ ap₂ add_last (move_spine_renamed γ suc (local_arguments D) ∙ ap (rename_spine suc) (locals_moved γ D)) (long_moved γ (skeleton A) zero nil)

-- the images of entries, on other terms and in front of other images
pub images_moved : (γ : ℕ → ℕ) (m n : ℕ) (U : Spine) (υ : ℕ → Image) (es : List LfType) → ((later : List LfType) (F : LfType) (ds : List LfType) → onto later (F ∷ ds) ≡ es → γ (m + length ds) ≡ n + length ds) → (i : ℕ) → move_image γ (entry_images m U es υ i) ≡ entry_images n (move_spine γ U) es (λ j. move_image γ (υ j)) i
images_moved γ m n U υ [] h i = refl
images_moved γ m n U υ (F ∷ ds) h zero = ap (put (skeleton F)) (head_moved γ (skeleton F) (m + length ds) U ∙ ap (λ c. eta_expand (skeleton F) (constant c) (move_spine γ U)) (h [] F ds refl))
images_moved γ m n U υ (F ∷ ds) h (suc i) = images_moved γ m n U υ ds (λ later G gs e. h (F ∷ later) G gs (ap (λ L. F ∷ L) e)) i

-- the terms of a block variable for the `some` variables of its block
last_moved : (γ : ℕ → ℕ) (M : Term) (S : Spine) → move γ (last_of M S) ≡ last_of (move γ M) (move_spine γ S)
last_moved γ M nil = refl
last_moved γ M (app N S) = last_moved γ N S

others_moved : (γ : ℕ → ℕ) (M : Term) (S : Spine) → move_spine γ (but_last M S) ≡ but_last (move γ M) (move_spine γ S)
others_moved γ M nil = refl
others_moved γ M (app N S) = ap (app (move γ M)) (others_moved γ N S)

some_images_moved : (γ : ℕ → ℕ) (O : List LfType) (U : Spine) (i : ℕ) → move_image γ (some_images O U i) ≡ some_images O (move_spine γ U) i
some_images_moved γ [] U i = refl
some_images_moved γ (A ∷ O) nil i = refl
some_images_moved γ (A ∷ O) (app M U) zero = ap (put (skeleton A)) (last_moved γ M U)
some_images_moved γ (A ∷ O) (app M U) (suc i) = some_images_moved γ O (but_last M U) i ∙ ap (λ V. some_images O V i) (others_moved γ M U)

-- what a block variable gives the variables of its block, moved
pub block_images_moved : (γ : ℕ → ℕ) (m n : ℕ) (U : Spine) (O es : List LfType) → ((later : List LfType) (F : LfType) (ds : List LfType) → onto later (F ∷ ds) ≡ es → γ (m + length ds) ≡ n + length ds) → (i : ℕ) → move_image γ (entry_images m U es (some_images O U) i) ≡ entry_images n (move_spine γ U) es (some_images O (move_spine γ U)) i
block_images_moved γ m n U O es h i = images_moved γ m n U (some_images O U) es h i ∙ ap (λ υ. entry_images n (move_spine γ U) es υ i) (fun_ext (some_images_moved γ O U))

-- parts of a block's context
pub pis_moved : (Σ : Signature) (γ : ℕ → ℕ) → ((c : ℕ) → IsOld Σ c → γ c ≡ c) → (O : List LfType) (P : LfType) → IsContext Σ O → move_type γ (pi_over O P) ≡ pi_over O (move_type γ P)
pis_moved Σ γ old [] P c = refl
pis_moved Σ γ old (A ∷ O) P (c, a) = pis_moved Σ γ old O (pi A P) c ∙ ap (λ B. pi_over O (pi B (move_type γ P))) (same_old Σ γ O A old a)

pub later_context : (Σ : Signature) (later X O : List LfType) → IsContext Σ (onto (onto later X) O) → IsContext Σ (onto X O)
later_context Σ [] X O c = c
later_context Σ (F ∷ later) X O (c, a) = later_context Σ later X O c

pub onto_twice : (xs : List LfType) (E : LfType) (bs X : List LfType) → onto (onto xs (E ∷ bs)) X ≡ onto xs (E ∷ onto bs X)
onto_twice [] E bs X = refl
onto_twice (A ∷ xs) E bs X = ap (λ L. A ∷ L) (onto_twice xs E bs X)

-- contexts
pub context_old : (Σ : Signature) (γ : ℕ → ℕ) → ((c : ℕ) → IsOld Σ c → γ c ≡ c) → (G : List LfType) → IsContext Σ G → move_types γ G ≡ G
context_old Σ γ old [] c = refl
context_old Σ γ old (A ∷ G) (c, a) = ap₂ (λ B H. B ∷ H) (same_old Σ γ G A old a) (context_old Σ γ old G c)

pub onto_moved : (γ : ℕ → ℕ) (D X : List LfType) → move_types γ (onto D X) ≡ onto (move_types γ D) (move_types γ X)
onto_moved γ [] X = refl
onto_moved γ (A ∷ D) X = ap (λ L. move_type γ A ∷ L) (onto_moved γ D X)

pub length_moved : (γ : ℕ → ℕ) (D : List LfType) → length (move_types γ D) ≡ length D
length_moved γ [] = refl
length_moved γ (A ∷ D) = ap suc (length_moved γ D)

pub contexts_kept : (γ : ℕ → ℕ) (X : List LfType) → context_skeletons (move_types γ X) ≡ context_skeletons X
contexts_kept γ [] = refl
contexts_kept γ (A ∷ X) = ap₂ (λ a Γ. a ∷ Γ) (skeleton_moved γ A) (contexts_kept γ X)

pub type_from : (γ : ℕ → ℕ) (X : List LfType) (i : ℕ) (B : LfType) → TypeAt (move_types γ X) i B → (A : LfType) × TypeAt X i A × (B ≡ move_type γ A)
type_from γ [] i B g = absurd g
type_from γ (X ∷ Xs) zero B e = (weaken X, refl, e ∙ sym (move_type_renamed γ suc X))
type_from γ (X ∷ Xs) (suc i) B (C, g, e) = let (A, h, q) = type_from γ Xs i C g in (weaken A, (A, h, refl), e ∙ ap weaken q ∙ sym (move_type_renamed γ suc A))

pub lifts_moved : (γ : ℕ → ℕ) (L : List LfType) (σ : ℕ → Image) → (λ i. move_image γ (lift_over L σ i)) ≡ lift_over L (λ i. move_image γ (σ i))
lifts_moved γ [] σ = refl
lifts_moved γ (A ∷ L) σ = fun_ext (λ i. sym (lift_moved γ (lift_over L σ) i)) ∙ ap lift (lifts_moved γ L σ)

pub arguments_moved : (γ : ℕ → ℕ) (A : LfType) → target_arguments (move_type γ A) ≡ move_spine γ (target_arguments A)
arguments_moved γ (pi A B) = arguments_moved γ B
arguments_moved γ (atom a S) = refl

-- what is given, moved
pub given_moved : (γ : ℕ → ℕ) (Ms : List (Option Term)) (i : ℕ) (N : Term) → given_at (move_all γ Ms) i ≡ Some N → (M : Term) × (given_at Ms i ≡ Some M) × (N ≡ move γ M)
given_moved γ [] i N e = absurd cc
given_moved γ (Some M ∷ Ms) zero N e = (M, refl, sym (some_same e))
given_moved γ (None ∷ Ms) zero N e = absurd cc
given_moved γ (Some M ∷ Ms) (suc i) N e = given_moved γ Ms i N e
given_moved γ (None ∷ Ms) (suc i) N e = given_moved γ Ms i N e

-- block variables
pub blocks_stay : (γ : ℕ → ℕ) (bs : List BlockVariable) → blocks_of (move_blocks γ bs) ≡ blocks_of bs
blocks_stay γ [] = refl
blocks_stay γ (b ∷ bs) = ap (λ Bs. b.block ∷ Bs) (blocks_stay γ bs)

pub moved_at : (γ : ℕ → ℕ) (bs : List BlockVariable) (k : ℕ) (b : BlockVariable) → block_at bs k ≡ Some b → block_at (move_blocks γ bs) k ≡ Some (record { block = b.block; terms = move_spine γ b.terms })
moved_at γ [] k b e = absurd cc
moved_at γ (d ∷ bs) zero b e = ap (λ (c : BlockVariable). Some (record { block = c.block; terms = move_spine γ c.terms })) (some_same e)
moved_at γ (d ∷ bs) (suc k) b e = moved_at γ bs k b e

pub moved_from : (γ : ℕ → ℕ) (bs : List BlockVariable) (k : ℕ) (d : BlockVariable) → block_at (move_blocks γ bs) k ≡ Some d → (b : BlockVariable) × (block_at bs k ≡ Some b) × (d ≡ record { block = b.block; terms = move_spine γ b.terms })
moved_from γ [] k d e = absurd cc
moved_from γ (b ∷ bs) zero d e = (b, refl, sym (some_same e))
moved_from γ (b ∷ bs) (suc k) d e = moved_from γ bs k d e

-- Skeletons are kept where constants' types are.
module _ (γ : ℕ → ℕ) (Σ Σ₂ : Signature) (ts : (c : ℕ) (A : LfType) → Σ.types c ≡ Some A → Σ₂.types (γ c) ≡ Some (move_type γ A)) where
  pub constant_kept : (c : ℕ) (t : Skeleton) (y : Option LfType) → Σ.types c ≡ y → type_skeleton y ≡ Some t → type_skeleton (Σ₂.types (γ c)) ≡ Some t
  constant_kept c t None e q = absurd cc
  constant_kept c t (Some A) e q = ap type_skeleton (ts c A e) ∙ ap Some (skeleton_moved γ A) ∙ q

  mutual
    pub term_kept : (Γ : List Skeleton) (M : Term) (t : Skeleton) → TermSkeleton (constant_skeletons Σ) Γ M t → TermSkeleton (constant_skeletons Σ₂) Γ (move γ M) t
    term_kept Γ (lambda M) (arrow a b) m = term_kept (a ∷ Γ) M b m
    term_kept Γ (lambda M) (base d) m = absurd m
    term_kept Γ (root (constant c) S) (arrow a b) m = absurd m
    term_kept Γ (root (variable i) S) (arrow a b) m = absurd m
    term_kept Γ (root (metavariable i) S) (arrow a b) m = absurd m
    term_kept Γ (root (constant c) S) (base d) (t, g, s) = (t, constant_kept c t (Σ.types c) refl g, spine_kept Γ S t (base d) s)
    term_kept Γ (root (variable i) S) (base d) (t, g, s) = (t, g, spine_kept Γ S t (base d) s)
    term_kept Γ (root (metavariable m) S) (base d) (t, g, s) = (t, g, spine_kept Γ S t (base d) s)

    pub spine_kept : (Γ : List Skeleton) (S : Spine) (t u : Skeleton) → SpineSkeleton (constant_skeletons Σ) Γ S t u → SpineSkeleton (constant_skeletons Σ₂) Γ (move_spine γ S) t u
    spine_kept Γ nil t u s = s
    spine_kept Γ (app M S) (arrow a b) u (m, s) = (term_kept Γ M a m, spine_kept Γ S b u s)
    spine_kept Γ (app M S) (base d) u s = absurd s

  pub all_kept : (Γ : List Skeleton) (Ms : List (Option Term)) → HaveSkeletons (constant_skeletons Σ) Γ Ms → HaveSkeletons (constant_skeletons Σ₂) Γ (move_all γ Ms)
  all_kept Γ [] h = tt
  all_kept Γ (Some M ∷ Ms) ((a, m), h) = ((a, term_kept Γ M a m), all_kept Γ Ms h)
  all_kept Γ (None ∷ Ms) h = all_kept Γ Ms h

-- a context with other constants is one
pub context_moved : (γ : ℕ → ℕ) (Σ Σ₂ : Signature) → ((c : ℕ) (A : LfType) → Σ.types c ≡ Some A → Σ₂.types (γ c) ≡ Some (move_type γ A)) → ((a : ℕ) (K : Kind) → Σ.kinds a ≡ Some K → Σ₂.kinds a ≡ Some (move_kind γ K)) → (G : List LfType) → IsContext Σ G → IsContext Σ₂ (move_types γ G)
context_moved γ Σ Σ₂ ts ks [] c = tt
context_moved γ Σ Σ₂ ts ks (A ∷ G) (c, a) = (context_moved γ Σ Σ₂ ts ks G c, moved_is_type γ Σ Σ₂ ts ks G A a)
