-- A head that is applied to terms already, on its new variables: the items are typed, and it has the type that is left.
use Rattle.std.proofs.Common.{◌≡◌, ℕ, ◌+◌, List, [], ◌∷◌, length, refl, sym, ap, ◌∙◌, subst, arith}
use Rattle.std.specs.Prelude.{Bool}
use Rattle.lf.specs.Syntax.{Head, Term, Spine, lambda, root, LfType, pi, atom, rename_head, rename_spine, rename_type}
use Rattle.lf.specs.AtOnce.{shift_by, lift_renaming_by}
use Rattle.lf.specs.Eta.{append, lambdas}
use Rattle.lf.specs.Typing.{Signature, TypeAt, HasType, IsTypedRenaming, SpineType, IsType, IsContext, IsSignature}
use Rattle.lf.specs.Variables.{target, target_arguments, onto}
use Rattle.lf.specs.Subordination.{Block, AreTypedBlocks}
use Rattle.lf.proofs.TypeLaws.{renamings_compose_type}
use Rattle.lf.proofs.Weakening.{declared_is_type}
use Rattle.lf_unification.specs.Offering.{pi_over}
use Rattle.lf_cases.specs.Case.{Item, items_context}
use Rattle.lf_cases.specs.OutputGoal.{renumber}
use Rattle.lf_cases.specs.Missing.{AreTypedItems}
use Rattle.lf_cases.specs.Reached.{arguments_count, head_masks, head_spine, taken, split_items}
use Rattle.lf_cases.proofs.Assemble.{binders_typed}
use Rattle.lf_cases.proofs.OutputItems.{length_renumber}
use Rattle.lf_totality.proofs.RaisedOutputs.{binders_over}
use Rattle.lf_coverage.specs.Heads.{result_type, term_type}
use Rattle.lf_coverage.specs.AppliedStore.{applied_term}
use Rattle.lf_coverage.proofs.GivenValues.{local_renames}
use Rattle.lf_coverage.proofs.ItemsContext.{items_are_context}
use Rattle.lf_coverage.proofs.Leaf.{lambdas_inside}
use Rattle.lf_coverage.proofs.Meeting.{binders_renumbered}
use Rattle.lf_coverage.proofs.RaisedTyped.{HeadTyped, head_is_typed}
use Rattle.lf_coverage.proofs.ResultType.{result_atom}
use Rattle.lf_coverage.proofs.SolvedCase.{behind_types}
use mathlib.Core.Path.{fun_ext}

has_lambdas : (Σ : Signature) (D G : List LfType) (M : Term) (P : LfType) → HasType Σ (onto D G) M P → HasType Σ G (lambdas (length D) M) (pi_over D P)
has_lambdas Σ [] G M P m = m
has_lambdas Σ (A ∷ D) G M P m = subst (λ N. HasType Σ G N (pi_over D (pi A P))) (lambdas_inside (length D) M) (has_lambdas Σ D G (lambda M) (pi A P) m)

-- The head h on the terms U has the type A under the variables that x takes: so it has in each context to which these move, before further arguments.
abbrev pub AppliesTo : Signature → List LfType → Head → Spine → LfType → Type 0
AppliesTo Σ D h U A = (G : List LfType) (l : ℕ → ℕ) → IsTypedRenaming D G l → (S : Spine) (a : ℕ) (T : Spine) → SpineType Σ G S (rename_type l A) (atom a T) → HasType Σ G (root (rename_head l h) (append (rename_spine l U) S)) (atom a T)

module _ (Σ : Signature) (ok : IsSignature Σ) (W : List Block) (typed : AreTypedBlocks Σ W) (below : ℕ → ℕ → Bool) (x : ℕ) (X : LfType) (J : List Item) (n : ℕ) (h : Head) (H : Spine) (A : LfType) (tj : AreTypedItems Σ W J) (at : TypeAt (items_context J) (x + n) (rename_type (shift_by n) X)) (ta : IsType Σ (onto (taken (rename_type (shift_by n) X)) (items_context J)) A) (same_target : target A ≡ target X) (applied : AppliesTo Σ (onto (taken (rename_type (shift_by n) X)) (items_context J)) h H A) where
  abbrev c : ℕ
  c = arguments_count A

  abbrev D0 : List LfType
  D0 = taken (rename_type (shift_by n) X)

  abbrev ks : List (List Bool)
  ks = head_masks below (taken (rename_type (shift_by n) X)) (arguments_count A) A

  abbrev P : List Item
  P = split_items below X J n A

  abbrev C : List LfType
  C = items_context (split_items below X J n A)

  abbrev R : LfType
  R = result_type ks (taken (rename_type (shift_by n) X)) (arguments_count A) A

  abbrev X2 : LfType
  X2 = rename_type (shift_by (n + arguments_count A)) X

  abbrev D : List LfType
  D = taken (rename_type (shift_by (n + arguments_count A)) X)

  cj : IsContext Σ (items_context J)
  cj = items_are_context Σ ok W typed J tj

  pub cd : IsContext Σ (onto D0 (items_context J))
  cd = subst (IsContext Σ) (binders_over [] (rename_type (shift_by n) X) (items_context J)) (binders_typed Σ ok (rename_type (shift_by n) X) (items_context J) cj (declared_is_type Σ ok (items_context J) (x + n) (rename_type (shift_by n) X) cj at))

  pub made : HeadTyped Σ ok W typed ks D0 c A J
  made = head_is_typed Σ ok W typed below c D0 A J tj cd ta refl

  -- the items are typed
  pub applied_items : AreTypedItems Σ W P
  applied_items = made.items

  pub applied_context : IsContext Σ C
  applied_context = items_are_context Σ ok W typed P made.items

  -- x and its type among them
  pub applied_place : TypeAt C (x + (n + c)) X2
  applied_place = subst (λ k. TypeAt C k X2) (sums x n c) (subst (TypeAt C ((x + n) + c)) (renamings_compose_type (shift_by c) (shift_by n) X ∙ ap (λ ρ. rename_type ρ X) (fun_ext (λ j. sums j n c))) (behind_types ks D0 c A J refl (x + n) (rename_type (shift_by n) X) at))
    where
      sums : (i n c : ℕ) → (i + n) + c ≡ i + (n + c)
      sums i n c = omega arith

  pub locals_moved : renumber (shift_by c) D0 ≡ D
  locals_moved = sym (binders_renumbered (shift_by c) [] (rename_type (shift_by n) X)) ∙ ap taken (renamings_compose_type (shift_by c) (shift_by n) X ∙ ap (λ ρ. rename_type ρ X) (fun_ext (λ j. sums j n c)))
    where
      sums : (i n c : ℕ) → (i + n) + c ≡ i + (n + c)
      sums i n c = omega arith

  behind : (i : ℕ) (V : LfType) → TypeAt (items_context J) i V → TypeAt C (i + c) (rename_type (shift_by c) V)
  behind i V g = behind_types ks D0 c A J refl i V g

  -- the head on its new variables has the type that is left
  pub term_typed : HasType Σ C (applied_term below D0 h H A) (term_type below X n A)
  term_typed =
      let l : ℕ → ℕ = lift_renaming_by (length D0) (shift_by c) in
      let S : Spine = head_spine ks D0 A in
      let G : List LfType = onto (renumber (shift_by c) D0) C in
      let e : R ≡ atom (target A) (target_arguments R) = result_atom Σ ks c D0 A refl in
      let r0 : HasType Σ G (root (rename_head l h) (append (rename_spine l H) S)) (atom (target A) (target_arguments R)) = applied G l (local_renames Σ ok D0 (items_context J) C (shift_by c) behind) S (target A) (target_arguments R) (subst (SpineType Σ G S (rename_type l A)) e made.arguments) in
      let r1 : HasType Σ G (root (rename_head l h) (append (rename_spine l H) S)) R = subst (HasType Σ G (root (rename_head l h) (append (rename_spine l H) S))) (sym e) r0 in
      subst (λ L. HasType Σ C (applied_term below D0 h H A) (pi_over L R)) locals_moved (subst (λ k. HasType Σ C (lambdas k (root (rename_head l h) (append (rename_spine l H) S))) (pi_over (renumber (shift_by c) D0) R)) (length_renumber (shift_by c) D0) (has_lambdas Σ (renumber (shift_by c) D0) C (root (rename_head l h) (append (rename_spine l H) S)) R r1))
