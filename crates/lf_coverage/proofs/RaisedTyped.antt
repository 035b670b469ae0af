-- Raised types are types, and the new variables of a head are typed: so its items are, its arguments, and the type that is left.
use Rattle.std.proofs.Common.{◌≡◌, ℕ, zero, suc, ◌+◌, List, [], ◌∷◌, length, refl, sym, ap, ap₂, ◌∙◌, subst, arith}
use Rattle.std.specs.Prelude.{Bool, true, false}
use Rattle.lf.specs.Syntax.{variable, Term, Spine, nil, app, LfType, pi, atom, skeleton, weaken, rename_spine, rename_type, lift_renaming}
use Rattle.lf.specs.Substitution.{keep, single, substitute_type, reduce}
use Rattle.lf.specs.Skeletons.{constant_skeletons, family_skeletons, context_skeletons}
use Rattle.lf.specs.AtOnce.{shift_by, lift_renaming_by}
use Rattle.lf.specs.Eta.{add_last, eta_long}
use Rattle.lf.specs.Typing.{Signature, TypeAt, HasType, SpineType, IsType, IsContext, IsSignature, IsTypedRenaming, instantiate_type}
use Rattle.lf.specs.Variables.{target, onto, hide, everything, UsesType, at_variable, IsTypedRenamingOn}
use Rattle.lf.specs.Subordination.{Block, AreTypedBlocks}
use Rattle.lf.proofs.Agreement.{agree_on_type}
use Rattle.lf.proofs.EtaTyping.{eta_long_has_type}
use Rattle.lf.proofs.Partial.{uses_type_all}
use Rattle.lf.proofs.Strength.{rename_instance}
use Rattle.lf.proofs.Substitution.{skeleton_context_of, single_substitution_typed, substitution_keeps_types}
use Rattle.lf.proofs.ToSkeletons.{type_by_skeletons}
use Rattle.lf.proofs.TypeLaws.{skeleton_renamed, renamings_compose_type, substitution_as_renaming_type, substitute_identity_type}
use Rattle.lf.proofs.Uses.{uses_type_renamed}
use Rattle.lf.proofs.Weakening.{weakening_renames, renames_under_binder, renaming_keeps_spine_typing, renaming_keeps_types}
use Rattle.lf.proofs.Renaming.{up_up}
use Rattle.lf_unification.proofs.EtaTyped.{expand_typed, substituted_self_type}
use Rattle.lf_unification.proofs.ToSkeletons.{type_by_skeletons as all_by_skeletons}
use Rattle.lf_cases.specs.Case.{Item, free_variable, items_context}
use Rattle.lf_cases.specs.OutputGoal.{renumber, over_item, raised_variable}
use Rattle.lf_cases.specs.Raised.{raise_by, locals_by, raised_over}
use Rattle.lf_cases.specs.Missing.{AreTypedItems}
use Rattle.lf_cases.specs.Reached.{arguments_count, head_masks, head_items, head_spine}
use Rattle.lf_cases.proofs.OutputItems.{length_renumber}
use Rattle.lf_cases.proofs.Raised.{CanBeRaised, can_raise, rename_identity_type}
use Rattle.lf_coverage.specs.Heads.{result_type}
use Rattle.lf_coverage.proofs.Forms.{far_type, no_shift_type, shift_type_next}
use Rattle.lf_coverage.proofs.GivenValues.{local_renames, local_context}
use Rattle.lf_coverage.proofs.InputTyped.{renamed_type}
use Rattle.lf_coverage.proofs.ItemsContext.{items_are_context}
use Rattle.lf_coverage.proofs.Parts.{suc_same}
use Rattle.lf_coverage.proofs.ResultType.{low_moved, variable_moved, next_spine, next_count}
use Rattle.lf_coverage.proofs.SolvedCase.{behind_types}
use mathlib.Core.Path.{fun_ext}

abbrev pub but_newest : ℕ → Bool
but_newest = hide everything

-- what doesn't use the newest variable comes back from where it is left out
pub out_and_back : (B : LfType) → UsesType but_newest B → weaken (rename_type (at_variable zero) B) ≡ B
out_and_back B u =
    renamings_compose_type suc (at_variable zero) B
    ∙ sym (substitution_as_renaming_type reduce (λ i. suc (at_variable zero i)) B)
    ∙ agree_on_type reduce but_newest (λ i. keep (suc (at_variable zero i))) keep B same u
    ∙ substitute_identity_type reduce B
  where
    same : (i : ℕ) → but_newest i ≡ true → keep (suc (at_variable zero i)) ≡ keep i
    same zero e = absurd cc
    same (suc i) e = refl

out_renames : (A : LfType) (C : List LfType) → IsTypedRenamingOn but_newest (A ∷ C) C (at_variable zero)
out_renames A C zero X e u = absurd cc
out_renames A C (suc i) X (B, g, e) u = subst (TypeAt C i) (sym (ap (rename_type (at_variable zero)) e ∙ renamings_compose_type (at_variable zero) suc B ∙ rename_identity_type B)) g

closed_out : (A : LfType) (C : List LfType) (i : ℕ) (X : LfType) → TypeAt (A ∷ C) i X → but_newest i ≡ true → UsesType but_newest X
closed_out A C zero X e u = absurd cc
closed_out A C (suc i) X (B, g, e) u = subst (UsesType but_newest) (sym e) (uses_type_renamed (λ j. true) but_newest suc B (λ j v. refl) (uses_type_all (λ j. true) B (λ j. refl)))

-- a shift by none, under binders
pub lift_none : (n : ℕ) → lift_renaming_by n (shift_by 0) ≡ (λ i. i)
lift_none zero = fun_ext none
  where
    none : (i : ℕ) → i + 0 ≡ i
    none i = omega arith
lift_none (suc n) = ap lift_renaming (lift_none n) ∙ fun_ext stay
  where
    stay : (i : ℕ) → lift_renaming (λ j. j) i ≡ i
    stay zero = refl
    stay (suc i) = refl

spine_last : (Σ : Signature) (G : List LfType) (S : Spine) (N : Term) (A B C : LfType) → SpineType Σ G S A (pi B C) → HasType Σ G N B → SpineType Σ G (add_last S N) A (instantiate_type B N C)
spine_last Σ G nil N A B C e n = subst (λ X. SpineType Σ G (app N nil) X (instantiate_type B N C)) (sym e) (n, refl)
spine_last Σ G (app M S) N (pi A A') B C (m, s) n = (m, spine_last Σ G S N (instantiate_type A M A') B C s n)
spine_last Σ G (app M S) N (atom a T) B C s n = absurd s

module _ (Σ : Signature) (ok : IsSignature Σ) (W : List Block) (typed : AreTypedBlocks Σ W) where
  -- a raised type
  pub raised_is_type : (ks : List Bool) (D G : List LfType) (B : LfType) → IsContext Σ (onto D G) → IsType Σ (onto D G) B → CanBeRaised ks D B → IsType Σ G (raise_by ks D B)
  raised_is_type ks [] G B c t r = t
  raised_is_type [] (A ∷ D) G B c t r = absurd r
  raised_is_type (true ∷ ks) (A ∷ D) G B c t r = raised_is_type ks D G (pi A B) c.0 (c.1, t) r
  raised_is_type (false ∷ ks) (A ∷ D) G B c t (u, r) = raised_is_type ks D G (rename_type (at_variable zero) B) c.0 (renamed_type Σ ok W typed but_newest (A ∷ onto D G) (onto D G) (at_variable zero) B c c.0 (out_renames A (onto D G)) (closed_out A (onto D G)) t u) r

  -- the local variables that are chosen take it to the type
  locals_typed : (ks : List Bool) (D G : List LfType) (B : LfType) → IsContext Σ (onto D G) → IsType Σ (onto D G) B → CanBeRaised ks D B → SpineType Σ (onto D G) (locals_by ks D) (rename_type (shift_by (length D)) (raise_by ks D B)) B
  locals_typed ks [] G B c t r = no_shift_type B
  locals_typed [] (A ∷ D) G B c t r = absurd r
  locals_typed (true ∷ ks) (A ∷ D) G B c t r =
      let C : List LfType = onto D G in
      let R : LfType = raise_by ks D (pi A B) in
      let s : SpineType Σ (A ∷ C) (rename_spine suc (locals_by ks D)) (weaken (rename_type (shift_by (length D)) R)) (weaken (pi A B)) = renaming_keeps_spine_typing Σ ok C (A ∷ C) suc (locals_by ks D) (rename_type (shift_by (length D)) R) (pi A B) (weakening_renames C A) (locals_typed ks D G (pi A B) c.0 (c.1, t) r) in
      let x : HasType Σ (A ∷ C) (eta_long (skeleton A) (variable zero)) (weaken A) = subst (λ a. HasType Σ (A ∷ C) (eta_long a (variable zero)) (weaken A)) (skeleton_renamed suc A) (eta_long_has_type Σ ok (A ∷ C) (variable zero) (weaken A) c refl) in
      let e : instantiate_type (weaken A) (eta_long (skeleton A) (variable zero)) (rename_type (lift_renaming suc) B) ≡ B = ap (λ a. substitute_type reduce (single a (eta_long (skeleton A) (variable zero))) (rename_type (lift_renaming suc) B)) (skeleton_renamed suc A) ∙ substituted_self_type (family_skeletons Σ) (constant_skeletons Σ) (skeleton A) (context_skeletons C) B (type_by_skeletons Σ (A ∷ C) B t) in
      subst (λ Z. SpineType Σ (A ∷ C) (add_last (rename_spine suc (locals_by ks D)) (eta_long (skeleton A) (variable zero))) Z B) (sym (shift_type_next (length D) R)) (subst (SpineType Σ (A ∷ C) (add_last (rename_spine suc (locals_by ks D)) (eta_long (skeleton A) (variable zero))) (weaken (rename_type (shift_by (length D)) R))) e (spine_last Σ (A ∷ C) (rename_spine suc (locals_by ks D)) (eta_long (skeleton A) (variable zero)) (weaken (rename_type (shift_by (length D)) R)) (weaken A) (rename_type (lift_renaming suc) B) s x))
  locals_typed (false ∷ ks) (A ∷ D) G B c t (u, r) =
      let C : List LfType = onto D G in
      let B' : LfType = rename_type (at_variable zero) B in
      let R : LfType = raise_by ks D B' in
      let s : SpineType Σ (A ∷ C) (rename_spine suc (locals_by ks D)) (weaken (rename_type (shift_by (length D)) R)) (weaken B') = renaming_keeps_spine_typing Σ ok C (A ∷ C) suc (locals_by ks D) (rename_type (shift_by (length D)) R) B' (weakening_renames C A) (locals_typed ks D G B' c.0 (renamed_type Σ ok W typed but_newest (A ∷ C) C (at_variable zero) B c c.0 (out_renames A C) (closed_out A C) t u) r) in
      subst (λ Z. SpineType Σ (A ∷ C) (rename_spine suc (locals_by ks D)) Z B) (sym (shift_type_next (length D) R)) (subst (SpineType Σ (A ∷ C) (rename_spine suc (locals_by ks D)) (weaken (rename_type (shift_by (length D)) R))) (out_and_back B u) s)

  -- a raised variable, in a context past that of its type
  pub raised_typed : (ks : List Bool) (D G X : List LfType) (ρ : ℕ → ℕ) (B : LfType) (n : ℕ) → IsContext Σ (onto D G) → IsType Σ (onto D G) B → CanBeRaised ks D B → IsTypedRenaming G X ρ → IsContext Σ X → TypeAt X n (rename_type ρ (raise_by ks D B)) → HasType Σ (onto (renumber ρ D) X) (raised_variable ks D B n) (rename_type (lift_renaming_by (length D) ρ) B)
  raised_typed ks D G X ρ B n c t r q cx at =
      let H : List LfType = onto (renumber ρ D) X in
      let l : ℕ → ℕ = lift_renaming_by (length D) ρ in
      let R : LfType = raise_by ks D B in
      let w : IsTypedRenaming (onto D G) H l = local_renames Σ ok D G X ρ q in
      let s0 : SpineType Σ H (rename_spine l (locals_by ks D)) (rename_type l (rename_type (shift_by (length D)) R)) (rename_type l B) = renaming_keeps_spine_typing Σ ok (onto D G) H l (locals_by ks D) (rename_type (shift_by (length D)) R) B w (locals_typed ks D G B c t r) in
      let e : rename_type l (rename_type (shift_by (length D)) R) ≡ rename_type (shift_by (length D)) (rename_type ρ R) = renamings_compose_type l (shift_by (length D)) R ∙ ap (λ f. rename_type f R) (fun_ext (Rattle.lf_coverage.proofs.Forms.renaming_far (length D) ρ)) ∙ sym (renamings_compose_type (shift_by (length D)) ρ R) in
      let s : SpineType Σ H (locals_by ks D) (rename_type (shift_by (length D)) (rename_type ρ R)) (rename_type l B) = subst (λ S. SpineType Σ H S (rename_type (shift_by (length D)) (rename_type ρ R)) (rename_type l B)) (low_moved ks D ρ) (subst (λ Z. SpineType Σ H (rename_spine l (locals_by ks D)) Z (rename_type l B)) e s0) in
      let k : TypeAt H (n + length D) (rename_type (shift_by (length D)) (rename_type ρ R)) = subst (λ j. TypeAt H (n + j) (rename_type (shift_by j) (rename_type ρ R))) (length_renumber ρ D) (far_type (renumber ρ D) X n (rename_type ρ R) at) in
      expand_typed Σ (λ m. Rattle.lf.specs.Syntax.base zero) ok (skeleton B) H (variable (n + length D)) (locals_by ks D) (rename_type (shift_by (length D)) (rename_type ρ R)) (rename_type l B) (sym (skeleton_renamed l B)) (all_by_skeletons Σ (λ m. Rattle.lf.specs.Syntax.base zero) H (rename_type l B) (renaming_keeps_types Σ ok (onto D G) H l B w t)) k s

  -- moving a local context twice
  pub renumber_twice : (ρ τ : ℕ → ℕ) (D : List LfType) → renumber ρ (renumber τ D) ≡ renumber (λ i. ρ (τ i)) D
  renumber_twice ρ τ [] = refl
  renumber_twice ρ τ (A ∷ D) = ap₂ ◌∷◌ (ap (λ n. rename_type (lift_renaming_by n ρ) (rename_type (lift_renaming_by (length D) τ) A)) (length_renumber τ D) ∙ renamings_compose_type (lift_renaming_by (length D) ρ) (lift_renaming_by (length D) τ) A ∙ ap (λ f. rename_type f A) (lift_twice (length D) ρ τ)) (renumber_twice ρ τ D)
    where
      lift_twice : (n : ℕ) (ρ τ : ℕ → ℕ) → (λ i. lift_renaming_by n ρ (lift_renaming_by n τ i)) ≡ lift_renaming_by n (λ i. ρ (τ i))
      lift_twice zero ρ τ = refl
      lift_twice (suc n) ρ τ = fun_ext (up_up (lift_renaming_by n ρ) (lift_renaming_by n τ)) ∙ ap lift_renaming (lift_twice n ρ τ)

  renumber_none : (D : List LfType) → renumber (shift_by 0) D ≡ D
  renumber_none [] = refl
  renumber_none (A ∷ D) = ap₂ ◌∷◌ (ap (λ f. rename_type f A) (lift_none (length D)) ∙ rename_identity_type A) (renumber_none D)

  pub lift_sum : (n k : ℕ) → (λ i. lift_renaming_by n (shift_by k) (lift_renaming_by n suc i)) ≡ lift_renaming_by n (shift_by (suc k))
  lift_sum zero k = fun_ext (λ i. next i k)
    where
      next : (i k : ℕ) → suc i + k ≡ i + suc k
      next i k = omega arith
  lift_sum (suc n) k = fun_ext (up_up (lift_renaming_by n (shift_by k)) (lift_renaming_by n suc)) ∙ ap lift_renaming (lift_sum n k)

  -- What is known of a head of this type under the local context D: its items are typed, and in the context of these its arguments, which take its
  -- type to the one that is left.
  pub record HeadTyped (ks : List (List Bool)) (D : List LfType) (n : ℕ) (A : LfType) (I : List Item) : Type 0 where
    pub items : AreTypedItems Σ W (head_items ks D n A I)
    pub result : IsType Σ (onto (renumber (shift_by n) D) (items_context (head_items ks D n A I))) (result_type ks D n A)
    pub arguments : SpineType Σ (onto (renumber (shift_by n) D) (items_context (head_items ks D n A I))) (head_spine ks D A) (rename_type (lift_renaming_by (length D) (shift_by n)) A) (result_type ks D n A)

  pub head_is_typed : (below : ℕ → ℕ → Bool) (n : ℕ) (D : List LfType) (A : LfType) (I : List Item) → AreTypedItems Σ W I → IsContext Σ (onto D (items_context I)) → IsType Σ (onto D (items_context I)) A → arguments_count A ≡ n → HeadTyped (head_masks below D n A) D n A I
  head_is_typed below zero D (atom a S) I ti c t e = record {
    items = ti;
    result = subst (λ L. IsType Σ (onto L (items_context I)) (atom a S)) (sym (renumber_none D)) t;
    arguments = ap (λ f. rename_type f (atom a S)) (lift_none (length D)) ∙ rename_identity_type (atom a S);
  }
  head_is_typed below zero D (pi A B) I ti c t e = absurd (no e)
    where
      no : suc (arguments_count B) ≡ zero → ⊥
      no e = omega arith
  head_is_typed below (suc n) D (atom a S) I ti c t e = absurd (no e)
    where
      no : zero ≡ suc n → ⊥
      no e = omega arith
  head_is_typed below (suc n) D (pi A B) I ti c (ta, tb) e =
      let G : List LfType = items_context I in
      let k : List Bool = raised_over (below (target A)) D A in
      let r : CanBeRaised k D A = can_raise (below (target A)) D A in
      let Z : LfType = raise_by k D A in
      let J : List Item = free_variable Z ∷ I in
      let X : List LfType = Z ∷ G in
      let D1 : List LfType = renumber suc D in
      let N : Term = raised_variable k D A zero in
      let l : ℕ → ℕ = over_item D in
      let H : List LfType = onto D1 X in
      let tz : IsType Σ G Z = raised_is_type k D G A c ta r in
      let tj : AreTypedItems Σ W J = (ti, tz) in
      let cg : IsContext Σ G = items_are_context Σ ok W typed I ti in
      let w : IsTypedRenaming G X suc = weakening_renames G Z in
      let ch : IsContext Σ H = local_context Σ ok D G X suc w c (cg, tz) in
      let nt : HasType Σ H N (rename_type l A) = raised_typed k D G X suc A zero c ta r w (cg, tz) refl in
      let B1 : LfType = rename_type (lift_renaming l) B in
      let wl : IsTypedRenaming (onto D G) H l = local_renames Σ ok D G X suc w in
      let ta1 : IsType Σ H (rename_type l A) = renaming_keeps_types Σ ok (onto D G) H l A wl ta in
      let tb1 : IsType Σ (rename_type l A ∷ H) B1 = renaming_keeps_types Σ ok (A ∷ onto D G) (rename_type l A ∷ H) (lift_renaming l) B (renames_under_binder (onto D G) H l A wl) tb in
      let A1 : LfType = instantiate_type A N B1 in
      let same_skeleton : skeleton (rename_type l A) ≡ skeleton A = skeleton_renamed l A in
      let t1 : IsType Σ H A1 = subst (λ a. IsType Σ H (substitute_type reduce (single a N) B1)) same_skeleton (substitution_keeps_types Σ ok (rename_type l A ∷ H) H (single (skeleton (rename_type l A)) N) B1 (single_substitution_typed Σ ok H (rename_type l A) N (skeleton_context_of Σ ok H ch) (type_by_skeletons Σ H (rename_type l A) ta1) nt) tb1) in
      let ks : List (List Bool) = k ∷ head_masks below D1 n A1 in
      let e1 : arguments_count A1 ≡ n = next_count ks D A B ∙ suc_same e in
      let ih : HeadTyped (head_masks below D1 n A1) D1 n A1 J = head_is_typed below n D1 A1 J tj ch t1 e1 in
      let P : List Item = head_items (head_masks below D1 n A1) D1 n A1 J in
      let Y : List LfType = items_context P in
      let dd : renumber (shift_by n) D1 ≡ renumber (shift_by (suc n)) D = renumber_twice (shift_by n) suc D ∙ ap (λ f. renumber f D) (fun_ext (λ i. next i n)) in
      let m : ℕ → ℕ = lift_renaming_by (length D) (shift_by (suc n)) in
      let at : TypeAt Y n (rename_type (shift_by (suc n)) Z) = subst (TypeAt Y n) (renamings_compose_type (shift_by n) suc Z ∙ ap (λ f. rename_type f Z) (fun_ext (λ i. next i n))) (subst (λ j. TypeAt Y j (rename_type (shift_by n) (weaken Z))) (none n) (behind_types (head_masks below D1 n A1) D1 n A1 J e1 zero (weaken Z) refl)) in
      let behind : IsTypedRenaming G Y (shift_by (suc n)) = λ i V g. subst (TypeAt Y (i + suc n)) (renamings_compose_type (shift_by n) suc V ∙ ap (λ f. rename_type f V) (fun_ext (λ j. next j n))) (subst (λ j. TypeAt Y j (rename_type (shift_by n) (weaken V))) (next i n) (behind_types (head_masks below D1 n A1) D1 n A1 J e1 (suc i) (weaken V) (V, g, refl))) in
      let cy : IsContext Σ Y = items_are_context Σ ok W typed P ih.items in
      let nt2 : HasType Σ (onto (renumber (shift_by (suc n)) D) Y) (raised_variable k D A n) (rename_type m A) = raised_typed k D G Y (shift_by (suc n)) A n c ta r behind cy at in
      let R : LfType = result_type (head_masks below D1 n A1) D1 n A1 in
      let ts : SpineType Σ (onto (renumber (shift_by (suc n)) D) Y) (head_spine (head_masks below D1 n A1) D1 A1) (rename_type (lift_renaming_by (length D1) (shift_by n)) A1) R = subst (λ L. SpineType Σ (onto L Y) (head_spine (head_masks below D1 n A1) D1 A1) (rename_type (lift_renaming_by (length D1) (shift_by n)) A1) R) dd ih.arguments in
      let te : rename_type (lift_renaming_by (length D1) (shift_by n)) A1 ≡ instantiate_type (rename_type m A) (raised_variable k D A n) (rename_type (lift_renaming m) B) =
      ap (λ j. rename_type (lift_renaming_by j (shift_by n)) A1) (length_renumber suc D)
      ∙ rename_instance (lift_renaming_by (length D) (shift_by n)) A N B1
      ∙ ap₂ (λ M T. substitute_type reduce (single (skeleton (rename_type (lift_renaming_by (length D) (shift_by n)) A)) M) T) (variable_moved k D A zero n ∙ ap (raised_variable k D A) (none n)) (renamings_compose_type (lift_renaming (lift_renaming_by (length D) (shift_by n))) (lift_renaming l) B ∙ ap (λ f. rename_type f B) (fun_ext (up_up (lift_renaming_by (length D) (shift_by n)) l) ∙ ap lift_renaming (lift_sum (length D) n)))
      ∙ ap (λ a. substitute_type reduce (single a (raised_variable k D A n)) (rename_type (lift_renaming m) B)) (skeleton_renamed (lift_renaming_by (length D) (shift_by n)) A ∙ sym (skeleton_renamed m A)) in
      let ts2 : SpineType Σ (onto (renumber (shift_by (suc n)) D) Y) (head_spine (head_masks below D1 n A1) D B) (instantiate_type (rename_type m A) (raised_variable k D A n) (rename_type (lift_renaming m) B)) R = subst (λ T. SpineType Σ (onto (renumber (shift_by (suc n)) D) Y) (head_spine (head_masks below D1 n A1) D B) T R) te (subst (λ S. SpineType Σ (onto (renumber (shift_by (suc n)) D) Y) S (rename_type (lift_renaming_by (length D1) (shift_by n)) A1) R) (next_spine ks D A B) ts) in
      record {
        items = ih.items;
        result = subst (λ L. IsType Σ (onto L Y) R) dd ih.result;
        arguments = (subst (λ j. HasType Σ (onto (renumber (shift_by (suc n)) D) Y) (raised_variable k D A j) (rename_type m A)) (sym (suc_same e)) nt2, subst (λ j. SpineType Σ (onto (renumber (shift_by (suc n)) D) Y) (head_spine (head_masks below D1 n A1) D B) (instantiate_type (rename_type m A) (raised_variable k D A j) (rename_type (lift_renaming m) B)) R) (sym (suc_same e)) ts2);
      }
    where
      next : (i n : ℕ) → suc i + n ≡ i + suc n
      next i n = omega arith

      none : (n : ℕ) → 0 + n ≡ n
      none n = omega arith
