-- Typed items, block variables among them, are a typed instance of themselves.
use Rattle.std.proofs.Common.{◌≡◌, ℕ, zero, suc, ◌+◌, ◌<◌, List, [], ◌∷◌, length, inl, inr, refl, sym, ap, ◌∙◌, subst, arith}
use Rattle.std.specs.Prelude.{true, ◌⊎◌}
use Rattle.lf.specs.Syntax.{variable, Term, nil, LfType, Skeleton, skeleton, weaken, rename, rename_type}
use Rattle.lf.specs.AtOnce.{in_front, shift_by}
use Rattle.lf.specs.Eta.{eta_long}
use Rattle.lf.specs.Substitution.{Image, keep, put, rename_image, substitute_image, substitute_type, reduce, after}
use Rattle.lf.specs.SkeletonTyping.{SubstitutionBySkeletons}
use Rattle.lf.specs.Skeletons.{constant_skeletons, context_skeletons}
use Rattle.lf.specs.Typing.{Signature, TypeAt, ImageHasType, HasType, IsTypedRenaming, IsSignature}
use Rattle.lf.specs.Variables.{onto, everything}
use Rattle.lf.specs.Subordination.{Block, AreTypedBlocks}
use Rattle.lf.specs.Worlds.{lift_over, instance}
use Rattle.lf.proofs.Eta.{rename_eta_expand}
use Rattle.lf.proofs.EtaTyping.{eta_long_has_type}
use Rattle.lf.proofs.Partial.{uses_type_all}
use Rattle.lf.proofs.Renaming.{reduction_is_natural, rename_substituted, renamings_compose}
use Rattle.lf.proofs.ToSkeletons.{typed_has_skeleton}
use Rattle.lf.proofs.TypeLaws.{rename_substituted_type, skeleton_renamed, skeleton_substituted, substitute_identity_type}
use Rattle.lf.proofs.Weakening.{renaming_keeps_typing}
use Rattle.lf_checks.specs.Clause.{among}
use Rattle.lf_cases.specs.Case.{Item, free_variable, block_variable, items_context, entries_in_front, behind_entries, as_term}
use Rattle.lf_cases.specs.Missing.{AreTypedItems, BlockAmong, IsTypedInstance}
use Rattle.lf_cases.specs.Reached.{LeavesAll}
use Rattle.lf_cases.proofs.OutputItems.{length_instance}
use Rattle.lf_cases.proofs.Raised.{rename_identity}
use Rattle.lf_coverage.proofs.Carried.{like_type}
use Rattle.lf_coverage.proofs.Forms.{far_type, lift_over_near}
use Rattle.lf_coverage.proofs.ItemsContext.{items_are_context}
use Rattle.lf_coverage.proofs.Leaf.{leaves_terms}
use Rattle.lf_coverage.proofs.Meeting.{which_type}
use Rattle.lf_coverage.proofs.SameInstance.{front_entry, front_behind}
use Rattle.lf_coverage.proofs.Transfer.{instance_fits}
use mathlib.Core.Path.{fun_ext}

-- values moved by a renaming
abbrev moved : (ℕ → ℕ) → (ℕ → Image) → ℕ → Image
moved ρ σ i = rename_image ρ (σ i)

pub moved_term : (ρ : ℕ → ℕ) (a : Skeleton) (x : Image) → as_term a (rename_image ρ x) ≡ rename ρ (as_term a x)
moved_term ρ a (keep i) = sym (rename_eta_expand ρ a (variable i) nil)
moved_term ρ a (put b N) = refl

moved_after : (ρ : ℕ → ℕ) (τ : ℕ → Image) (x : Image) → substitute_image (moved ρ τ) x ≡ rename_image ρ (substitute_image τ x)
moved_after ρ τ (keep i) = refl
moved_after ρ τ (put b N) = ap (put b) (sym (rename_substituted reduce reduction_is_natural ρ τ N))

moved_front : (ρ : ℕ → ℕ) (x : Image) (τ : ℕ → Image) (i : ℕ) → moved ρ (in_front x τ) i ≡ in_front (rename_image ρ x) (moved ρ τ) i
moved_front ρ x τ zero = refl
moved_front ρ x τ (suc i) = refl

moved_entries : (ρ : ℕ → ℕ) (es : List LfType) (θ τ : ℕ → Image) (i : ℕ) → moved ρ (entries_in_front es θ τ) i ≡ entries_in_front es (moved ρ θ) (moved ρ τ) i
moved_entries ρ [] θ τ i = refl
moved_entries ρ (E ∷ es) θ τ zero = refl
moved_entries ρ (E ∷ es) θ τ (suc i) = moved_entries ρ es (λ j. θ (suc j)) τ i

moved_behind : (ρ : ℕ → ℕ) (es : List LfType) (θ : ℕ → Image) (i : ℕ) → behind_entries es (moved ρ θ) i ≡ rename_image ρ (behind_entries es θ i)
moved_behind ρ [] θ i = refl
moved_behind ρ (E ∷ es) θ i = moved_behind ρ es (λ j. θ (suc j)) i

-- a typed instance over items is one over items to which these are moved
module _ (Σ : Signature) (ok : IsSignature Σ) (J K : List Item) (ρ : ℕ → ℕ) (types : IsTypedRenaming (items_context J) (items_context K) ρ) (blocks : (B : Block) (θ : ℕ → Image) → BlockAmong J B θ → BlockAmong K B (λ i. rename_image ρ (θ i))) where
  instance_moved : (I : List Item) (σ : ℕ → Image) → IsTypedInstance Σ J I σ → IsTypedInstance Σ K I (λ i. rename_image ρ (σ i))
  instance_moved [] σ g = tt
  instance_moved (free_variable A ∷ I) σ (N, τ, g, t, e) = (rename ρ N, moved ρ τ, instance_moved I τ g, subst (HasType Σ (items_context K) (rename ρ N)) (rename_substituted_type reduce reduction_is_natural ρ τ A) (renaming_keeps_typing Σ ok (items_context J) (items_context K) ρ N (substitute_type reduce τ A) types t), ap (moved ρ) e ∙ fun_ext (moved_front ρ (put (skeleton A) N) τ))
  instance_moved (block_variable B υ ∷ I) σ (θ, τ, g, b, s, e) = (moved ρ θ, moved ρ τ, instance_moved I τ g, blocks B θ b, same, ap (moved ρ) e ∙ fun_ext (moved_entries ρ B.entries θ τ))
    where
      same : (i : ℕ) (A : LfType) → TypeAt B.some i A → as_term (skeleton A) (behind_entries B.entries (moved ρ θ) i) ≡ as_term (skeleton A) (after (moved ρ τ) υ i)
      same i A h =
          ap (as_term (skeleton A)) (moved_behind ρ B.entries θ i)
          ∙ moved_term ρ (skeleton A) (behind_entries B.entries θ i)
          ∙ ap (rename ρ) (s i A h)
          ∙ sym (moved_term ρ (skeleton A) (after τ υ i))
          ∙ sym (ap (as_term (skeleton A)) (moved_after ρ τ (υ i)))

-- the `some` terms of a block variable, behind its entries
behind_lifted : (es : List LfType) (υ : ℕ → Image) (i : ℕ) → behind_entries es (lift_over es υ) i ≡ rename_image (shift_by (length es)) (υ i)
behind_lifted [] υ i = none (υ i)
  where
    zero_more : (i : ℕ) → i ≡ i + 0
    zero_more i = omega arith

    none : (x : Image) → x ≡ rename_image (shift_by 0) x
    none (keep j) = ap keep (zero_more j)
    none (put b N) = ap (put b) (sym (rename_identity N) ∙ ap (λ f. rename f N) (fun_ext zero_more))
behind_lifted (E ∷ es) υ i = moved_behind suc es (lift_over es υ) i ∙ ap (rename_image suc) (behind_lifted es υ i) ∙ once (υ i)
  where
    one_more : (j : ℕ) → suc (j + length es) ≡ j + suc (length es)
    one_more j = omega arith

    once : (x : Image) → rename_image suc (rename_image (shift_by (length es)) x) ≡ rename_image (shift_by (suc (length es))) x
    once (keep j) = ap keep (one_more j)
    once (put b N) = ap (put b) (renamings_compose suc (shift_by (length es)) N ∙ ap (λ f. rename f N) (fun_ext one_more))

entry_at : (es : List LfType) (υ : ℕ → Image) (i : ℕ) (A : LfType) → TypeAt (instance es υ) i A → (among es i ≡ true) × (i < length es)
entry_at [] υ i A g = absurd g
entry_at (E ∷ es) υ zero A g = (refl, omega arith)
entry_at (E ∷ es) υ (suc i) A (X, g, e) = let (a, l) = entry_at es υ i X g in (a, omega arith)

module _ (Σ : Signature) (ok : IsSignature Σ) (W : List Block) (typed : AreTypedBlocks Σ W) where
  with_free : (A : LfType) (I : List Item) → AreTypedItems Σ W (free_variable A ∷ I) → ((σ : ℕ → Image) × IsTypedInstance Σ I I σ × LeavesAll I σ) → (σ : ℕ → Image) × IsTypedInstance Σ (free_variable A ∷ I) (free_variable A ∷ I) σ × LeavesAll (free_variable A ∷ I) σ
  with_free A I (a, t) (τ, g, l) =
      let G : List LfType = items_context I in
      let N : Term = eta_long (skeleton A) (variable zero) in
      let f : SubstitutionBySkeletons (constant_skeletons Σ) (context_skeletons (items_context I)) (context_skeletons (items_context I)) τ = instance_fits Σ ok W I a I τ g in
      let stays : substitute_type reduce τ A ≡ A = like_type Σ G (context_skeletons G) everything τ keep f (λ i s h. h) (λ i X h u. l i X h) A t (uses_type_all everything A (λ i. refl)) ∙ substitute_identity_type reduce A in
      let q : weaken A ≡ substitute_type reduce (moved suc τ) A = ap weaken (sym stays) ∙ rename_substituted_type reduce reduction_is_natural suc τ A in
      let n : HasType Σ (A ∷ G) N (weaken A) = subst (λ s. HasType Σ (A ∷ G) (eta_long s (variable zero)) (weaken A)) (skeleton_renamed suc A) (eta_long_has_type Σ ok (A ∷ G) (variable zero) (weaken A) (items_are_context Σ ok W typed I a, t) refl) in
      (in_front (put (skeleton A) N) (moved suc τ), (N, moved suc τ, instance_moved Σ ok I (free_variable A ∷ I) suc (λ i X h. (X, h, refl)) (λ B θ b. (θ, b, refl)) I τ g, subst (HasType Σ (A ∷ G) N) q n, refl), leaves)
    where
      leaves : LeavesAll (free_variable A ∷ I) (in_front (put (skeleton A) (eta_long (skeleton A) (variable zero))) (moved suc τ))
      leaves zero X e = ap (λ s. eta_long s (variable zero)) (sym (skeleton_renamed suc A) ∙ ap skeleton (sym e))
      leaves (suc i) X (Y, h, e) =
          let s : skeleton X ≡ skeleton Y = ap skeleton e ∙ skeleton_renamed suc Y in
          ap (λ z. as_term z (rename_image suc (τ i))) s ∙ moved_term suc (skeleton Y) (τ i) ∙ ap (rename suc) (l i Y h) ∙ sym (moved_term suc (skeleton Y) (keep i)) ∙ ap (λ z. as_term z (keep (suc i))) (sym s)

  with_block : (B : Block) (υ : ℕ → Image) (I : List Item) → AreTypedItems Σ W (block_variable B υ ∷ I) → ((σ : ℕ → Image) × IsTypedInstance Σ I I σ × LeavesAll I σ) → (σ : ℕ → Image) × IsTypedInstance Σ (block_variable B υ ∷ I) (block_variable B υ ∷ I) σ × LeavesAll (block_variable B υ ∷ I) σ
  with_block B υ I (a, m, v) (τ, g, l) = (entries_in_front B.entries (lift_over B.entries υ) (moved (shift_by (length B.entries)) τ), (lift_over B.entries υ, moved (shift_by (length B.entries)) τ, instance_moved Σ ok I (block_variable B υ ∷ I) (shift_by (length B.entries)) types (λ C θ b. inr (θ, b, refl)) I τ g, inl (refl, refl), same, refl), leaves)
    where
      ρ : ℕ → ℕ
      ρ = shift_by (length B.entries)

      types : IsTypedRenaming (items_context I) (onto (instance B.entries υ) (items_context I)) (shift_by (length B.entries))
      types i X h = subst (λ n. TypeAt (onto (instance B.entries υ) (items_context I)) (i + n) (rename_type (shift_by n) X)) (length_instance B.entries υ) (far_type (instance B.entries υ) (items_context I) i X h)

      f : SubstitutionBySkeletons (constant_skeletons Σ) (context_skeletons (items_context I)) (context_skeletons (items_context I)) τ
      f = instance_fits Σ ok W I a I τ g

      -- a `some` term stays
      stays : (A : LfType) (x : Image) → ImageHasType Σ (items_context I) x (substitute_type reduce υ A) → as_term (skeleton A) (substitute_image τ x) ≡ as_term (skeleton A) x
      stays A (keep j) h = subst (λ s. as_term s (τ j) ≡ as_term s (keep j)) (skeleton_substituted reduce υ A) (l j (substitute_type reduce υ A) h)
      stays A (put b N) (e, n) = leaves_terms Σ I τ f l N (skeleton (substitute_type reduce υ A)) (typed_has_skeleton Σ (items_context I) N (substitute_type reduce υ A) n)

      same : (i : ℕ) (A : LfType) → TypeAt B.some i A → as_term (skeleton A) (behind_entries B.entries (lift_over B.entries υ) i) ≡ as_term (skeleton A) (after (moved (shift_by (length B.entries)) τ) υ i)
      same i A h =
          ap (as_term (skeleton A)) (behind_lifted B.entries υ i)
          ∙ moved_term (shift_by (length B.entries)) (skeleton A) (υ i)
          ∙ ap (rename (shift_by (length B.entries))) (sym (stays A (υ i) (v.typed i A h refl)))
          ∙ sym (moved_term (shift_by (length B.entries)) (skeleton A) (after τ υ i))
          ∙ sym (ap (as_term (skeleton A)) (moved_after (shift_by (length B.entries)) τ (υ i)))

      leaves : LeavesAll (block_variable B υ ∷ I) (entries_in_front B.entries (lift_over B.entries υ) (moved (shift_by (length B.entries)) τ))
      leaves i A h = by (which_type (instance B.entries υ) (items_context I) i A h)
        where
          σ : ℕ → Image
          σ = entries_in_front B.entries (lift_over B.entries υ) (moved (shift_by (length B.entries)) τ)

          by : TypeAt (instance B.entries υ) i A ⊎ ((k : ℕ) × (X : LfType) × TypeAt (items_context I) k X × (i ≡ k + length (instance B.entries υ)) × (A ≡ rename_type (shift_by (length (instance B.entries υ))) X)) → as_term (skeleton A) (σ i) ≡ as_term (skeleton A) (keep i)
          by (inl x) = let (e, n) = entry_at B.entries υ i A x in ap (as_term (skeleton A)) (front_entry B.entries (lift_over B.entries υ) (moved (shift_by (length B.entries)) τ) i e ∙ lift_over_near B.entries υ i n)
          by (inr (k, X, x, e, q)) =
              let p : i ≡ k + length B.entries = e ∙ ap (λ n. k + n) (length_instance B.entries υ) in
              let s : skeleton A ≡ skeleton X = ap skeleton q ∙ skeleton_renamed (shift_by (length (instance B.entries υ))) X in
              ap (λ z. as_term z (σ i)) s
              ∙ ap (as_term (skeleton X)) (ap σ p ∙ front_behind B.entries (lift_over B.entries υ) (moved (shift_by (length B.entries)) τ) k)
              ∙ moved_term (shift_by (length B.entries)) (skeleton X) (τ k)
              ∙ ap (rename (shift_by (length B.entries))) (l k X x)
              ∙ sym (moved_term (shift_by (length B.entries)) (skeleton X) (keep k))
              ∙ ap (λ j. as_term (skeleton X) (keep j)) (sym p)
              ∙ ap (λ z. as_term z (keep i)) (sym s)

  -- The lemma
  pub items_stay : (I : List Item) → AreTypedItems Σ W I → (σ : ℕ → Image) × IsTypedInstance Σ I I σ × LeavesAll I σ
  items_stay [] a = (keep, tt, λ i A g. absurd g)
  items_stay (free_variable A ∷ I) a = with_free A I a (items_stay I a.0)
  items_stay (block_variable B υ ∷ I) a = with_block B υ I a (items_stay I a.0)
