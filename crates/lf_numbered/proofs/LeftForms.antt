-- Values behind a head's items, and the form that the head of a store's equation has under lambdas when it is filled.
use Rattle.std.proofs.Common.{◌≡◌, ℕ, zero, suc, List, [], ◌∷◌, ◌+◌, ◌<◌, length, Option, Some, None, refl, sym, ap, ap₂, ◌∙◌, subst, arith}
use Rattle.std.specs.Prelude.{Bool}
use Rattle.lf.specs.Syntax.{Head, constant, metavariable, variable, Term, Spine, app, arrow, base, lambda, nil, root, LfType, Skeleton, atom, pi, rename_head}
use Rattle.lf.specs.Substitution.{Image, keep, put, substitute_spine, reduce}
use Rattle.lf.specs.AtOnce.{shift_by}
use Rattle.lf.specs.Eta.{lambdas}
use Rattle.lf.specs.SkeletonTyping.{HeadSkeletons, SpineSkeleton, TermSkeleton}
use Rattle.lf.specs.Typing.{Signature}
use Rattle.lf.specs.Subordination.{Block}
use Rattle.lf.specs.Worlds.{World}
use Rattle.lf.proofs.Renaming.{substitute_renamed_spine}
use Rattle.lf_unification.specs.Filling.{fill, moved}
use Rattle.lf_cases.specs.Case.{Item, free_variable, items_context}
use Rattle.lf_cases.specs.OutputGoal.{renumber}
use Rattle.lf_cases.specs.Raised.{first_mask, other_masks, raise_by}
use Rattle.lf_cases.specs.Reached.{arguments_count, head_items}
use Rattle.lf_coverage.specs.SplitStore.{open_spine, open_term, open_variable}
use Rattle.lf_coverage.proofs.Parts.{none_some, suc_same}
use Rattle.lf_coverage.proofs.ResultType.{next_count, next_type}
use Rattle.lf_numbered.specs.EntryConstants.{EntryConstant, entry_constant}
use Rattle.lf_numbered.specs.LeftUnifiers.{read_head}
use Rattle.lf_numbered.specs.NumberedCase.{AreGroundValues, AreInstances}
use Rattle.lf_numbered.specs.OwnTerms.{BlockVariable, rename_blocks}
use Rattle.lf_numbered.specs.Reading.{entry_reading, read, read_constant, read_entry, read_spine, variable_past, weaken_read}
use Rattle.lf_numbered.proofs.ReadValues.{reading_next}
use Rattle.lf_numbered.proofs.Reading.{read_spine_renamed, rename_read, weakened_read}
use mathlib.Core.Path.{fun_ext}

-- Of the values of a head's items those behind them are values of the items before.
pub stripped : (Σ : Signature) (G : List LfType) (f : ℕ → ℕ → Option (ℕ × ℕ)) (ks : List (List Bool)) (D : List LfType) (n : ℕ) (A : LfType) (I : List Item) (τ : ℕ → Image) → arguments_count A ≡ n → AreGroundValues Σ G f (items_context (head_items ks D n A I)) τ → AreGroundValues Σ G f (items_context I) (λ i. τ (i + n)) × (length (items_context (head_items ks D n A I)) ≡ length (items_context I) + n)
stripped Σ G f ks D zero A I τ e v = (subst (AreGroundValues Σ G f (items_context I)) (fun_ext (λ i. ap τ (none i))) v, none (length (items_context I)))
  where
    none : (i : ℕ) → i ≡ i + 0
    none i = omega arith
stripped Σ G f ks D (suc n) (atom a S) I τ e v = absurd (no e)
  where
    no : zero ≡ suc n → ⊥
    no e = omega arith
stripped Σ G f ks D (suc n) (pi A B) I τ e v =
    let ((N, υ, u, m, q), l) = stripped Σ G f (other_masks ks) (renumber suc D) n (next_type ks D A B) (free_variable (raise_by (first_mask ks) D A) ∷ I) τ (next_count ks D A B ∙ suc_same e) v in
    (subst (AreGroundValues Σ G f (items_context I)) (fun_ext (λ i. sym (ap (λ g. g (suc i)) q) ∙ ap τ (next i n))) u, l ∙ more (length (items_context I)) n)
  where
    next : (i n : ℕ) → suc i + n ≡ i + suc n
    next i n = omega arith

    more : (m n : ℕ) → suc m + n ≡ m + suc n
    more m n = omega arith

pub shifted_reading : (first : ℕ) (Bs : List Block) (θ : ℕ → ℕ → Image) (n k c : ℕ) → entry_reading first Bs θ (n + k) c ≡ rename_read (shift_by k) (entry_reading first Bs θ n c)
shifted_reading first Bs θ n k c = at (entry_constant zero first Bs c)
  where
    sums : (v n k : ℕ) → v + (n + k) ≡ (v + n) + k
    sums v n k = omega arith

    at : (y : Option EntryConstant) → read_entry θ (n + k) y ≡ rename_read (shift_by k) (read_entry θ n y)
    at None = refl
    at (Some e) = by (θ e.number e.place)
      where
        by : (a : Image) → Some (length e.block.some, variable_past (n + k) a) ≡ rename_read (shift_by k) (Some (length e.block.some, variable_past n a))
        by (keep v) = ap (λ u. Some (length e.block.some, u)) (sums v n k)
        by (put a N) = refl

pub instances_before : {Σ : Signature} {W : List Block} {S : ℕ → Bool} {G : List LfType} (w : World Σ W S G) (f f' : ℕ → Option (ℕ × ℕ)) (k : ℕ) → ((c : ℕ) → f' c ≡ rename_read (shift_by k) (f c)) → (τ : ℕ → Image) (θ : ℕ → ℕ → Image) (j : ℕ) (bs : List BlockVariable) → AreInstances w f' τ θ j (rename_blocks (shift_by k) bs) → AreInstances w f (λ i. τ (i + k)) θ j bs
instances_before w f f' k h τ θ j [] t = tt
instances_before w f f' k h τ θ j (b ∷ bs) (i, e, t) = (i, e ∙ ap (substitute_spine reduce τ) (read_spine_renamed f f' (shift_by k) b.terms h) ∙ substitute_renamed_spine reduce τ (shift_by k) (read_spine f b.terms), instances_before w f f' k h τ θ (suc j) bs t)

-- The form of a filled term with a head under lambdas
module _ (μ : ℕ → Skeleton) (first : ℕ) (Bs : List Block) (θ : ℕ → ℕ → Image) where
  next_reading : (j : ℕ) → (λ c. weaken_read (entry_reading first Bs θ j c)) ≡ entry_reading first Bs θ (suc j)
  next_reading j = fun_ext (λ c. weakened_read (entry_reading first Bs θ j c) ∙ sym (reading_next first Bs θ j c))

  pub constant_form : (β : ℕ → Option Term) (n j k c : ℕ) (S : Spine) → (T : Spine) × (fill μ β (read (entry_reading first Bs θ j) (open_term k (lambdas n (root (constant c) S)))) ≡ lambdas n (root (read_head (entry_reading first Bs θ (n + j) c) c) T))
  constant_form β zero j k c S = let (T, e) = by (entry_reading first Bs θ j c) in (T, e ∙ ap (λ m. root (read_head (entry_reading first Bs θ m c) c) T) (none j))
    where
      none : (j : ℕ) → j ≡ 0 + j
      none j = omega arith

      by : (y : Option (ℕ × ℕ)) → (T : Spine) × (fill μ β (read_constant y c (read_spine (entry_reading first Bs θ j) (open_spine k S))) ≡ root (read_head y c) T)
      by None = (_, refl)
      by (Some (n, v)) = (_, refl)
  constant_form β (suc n) j k c S =
      let (T, e) = constant_form (moved suc β) n (suc j) (suc k) c S in
      (T, ap lambda (ap (λ f. fill μ (moved suc β) (read f (open_term (suc k) (lambdas n (root (constant c) S))))) (next_reading j) ∙ e) ∙ ap (λ m. lambda (lambdas n (root (read_head (entry_reading first Bs θ m c) c) T))) (next n j))
    where
      next : (n j : ℕ) → n + suc j ≡ suc n + j
      next n j = omega arith

  near_variable : (k i : ℕ) → i < k → open_variable k i ≡ variable i
  near_variable zero i l = absurd (no l)
    where
      no : i < zero → ⊥
      no l = omega (arith, l)
  near_variable (suc k) zero l = refl
  near_variable (suc k) (suc i) l = ap (rename_head suc) (near_variable k i (omega (arith, l)))

  pub variable_form : (β : ℕ → Option Term) (n j k i : ℕ) (S : Spine) → i < n + k → (T : Spine) × (fill μ β (read (entry_reading first Bs θ j) (open_term k (lambdas n (root (variable i) S)))) ≡ lambdas n (root (variable i) T))
  variable_form β zero j k i S l = (_, ap (λ h. fill μ β (read (entry_reading first Bs θ j) (root h (open_spine k S)))) (near_variable k i (omega (arith, l))))
  variable_form β (suc n) j k i S l =
      let (T, e) = variable_form (moved suc β) n (suc j) (suc k) i S (subst (λ m. i < m) (next n k) l) in
      (T, ap lambda (ap (λ f. fill μ (moved suc β) (read f (open_term (suc k) (lambdas n (root (variable i) S))))) (next_reading j) ∙ e))
    where
      next : (n k : ℕ) → suc n + k ≡ n + suc k
      next n k = omega arith

-- A term without constants, with metavariables for what stands outside, is read as itself.
abbrev NoConstant : Head → Type 0
NoConstant (constant c) = ⊥
NoConstant (variable i) = Unit {0}
NoConstant (metavariable m) = Unit {0}

none_opened : (k i : ℕ) → NoConstant (open_variable k i)
none_opened zero i = tt
none_opened (suc k) zero = tt
none_opened (suc k) (suc i) = by (open_variable k i) (none_opened k i)
  where
    by : (h : Head) → NoConstant h → NoConstant (rename_head suc h)
    by (constant c) n = n
    by (variable i) n = n
    by (metavariable m) n = n

root_read : (f : ℕ → Option (ℕ × ℕ)) (h : Head) (S : Spine) → NoConstant h → read f (root h S) ≡ root h (read_spine f S)
root_read f (constant c) S n = absurd n
root_read f (variable i) S n = refl
root_read f (metavariable m) S n = refl

abbrev pub no_heads : HeadSkeletons
no_heads = record { constant_skeleton = λ c. None; metavariable_skeleton = λ m. None }

mutual
  pub opened_read : (k : ℕ) (f : ℕ → Option (ℕ × ℕ)) (Γ : List Skeleton) (M : Term) (t : Skeleton) → TermSkeleton no_heads Γ M t → read f (open_term k M) ≡ open_term k M
  opened_read k f Γ (lambda M) (arrow a b) m = ap lambda (opened_read (suc k) (λ c. weaken_read (f c)) (a ∷ Γ) M b m)
  opened_read k f Γ (lambda M) (base c) m = absurd m
  opened_read k f Γ (root h S) (arrow a b) m = absurd m
  opened_read k f Γ (root (constant c) S) (base d) (t, e, m) = absurd (none_some e)
  opened_read k f Γ (root (variable i) S) (base d) (t, e, m) = root_read f (open_variable k i) (open_spine k S) (none_opened k i) ∙ ap (root (open_variable k i)) (opened_spine_read k f Γ S t (base d) m)
  opened_read k f Γ (root (metavariable n) S) (base d) (t, e, m) = absurd (none_some e)

  opened_spine_read : (k : ℕ) (f : ℕ → Option (ℕ × ℕ)) (Γ : List Skeleton) (S : Spine) (t u : Skeleton) → SpineSkeleton no_heads Γ S t u → read_spine f (open_spine k S) ≡ open_spine k S
  opened_spine_read k f Γ nil t u m = refl
  opened_spine_read k f Γ (app M S) (arrow a b) u (m, n) = ap₂ app (opened_read k f Γ M a m) (opened_spine_read k f Γ S b u n)
  opened_spine_read k f Γ (app M S) (base d) u m = absurd m
