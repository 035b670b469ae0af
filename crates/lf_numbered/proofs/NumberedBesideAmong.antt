-- The own block variable of an entry stands among the items of the goal of outputs: how far its variables have moved.
use Rattle.std.proofs.Common.{◌≡◌, ℕ, zero, suc, ◌+◌, List, [], ◌∷◌, length, inl, refl, sym, ap, ◌∙◌, subst, arith}
use Rattle.std.specs.Prelude.{Bool, true, false, cond}
use Rattle.lf.specs.Syntax.{Term, Spine, nil, app, LfType, Kind, kind_pi, star, skeleton, lift_renaming, rename_spine, rename_type, rename_kind}
use Rattle.lf.specs.Substitution.{Image, keep, lift, single, substitute_kind, reduce}
use Rattle.lf.specs.AtOnce.{lift_renaming_by}
use Rattle.lf.specs.Typing.{Signature, SpineFitsKind, instantiate_kind}
use Rattle.lf.specs.Variables.{target, target_arguments, binders, onto}
use Rattle.lf.specs.Subordination.{Block}
use Rattle.lf_checks.specs.Marks.{Mark, output_places}
use Rattle.lf_cases.specs.Case.{Item, free_variable, block_variable, past_place, chosen_count}
use Rattle.lf_cases.specs.Missing.{BlockAmong}
use Rattle.lf_cases.specs.OutputGoal.{closed_over, free_variables, goal_masks, goal_number, kept_items, kept_number, output_goal, output_items, outside_items, outside_number, over_item, raised_variable, renumber}
use Rattle.lf_cases.specs.Pattern.{of_entry}
use Rattle.lf_cases.specs.Raised.{raise_by, first_mask, other_masks}
use Rattle.lf_cases.proofs.OutputItems.{count_substituted}
use Rattle.lf_coverage.proofs.KeptTyped.{lift_same}
use mathlib.Core.Path.{fun_ext}

-- There is an argument for each place of the kind.
abbrev pub HasPlaces : List Bool → Spine → Kind → Type 0
HasPlaces [] S K = Unit {0}
HasPlaces (b ∷ m) S star = Unit {0}
HasPlaces (b ∷ m) nil (kind_pi A K) = ⊥
HasPlaces (b ∷ m) (app M S) (kind_pi A K) = HasPlaces m S K

places_substituted : (σ : ℕ → Image) (m : List Bool) (S : Spine) (K : Kind) → HasPlaces m S K → HasPlaces m S (substitute_kind reduce σ K)
places_substituted σ [] S K h = tt
places_substituted σ (b ∷ m) S star h = tt
places_substituted σ (b ∷ m) nil (kind_pi A K) h = absurd h
places_substituted σ (b ∷ m) (app M S) (kind_pi A K) h = places_substituted (lift σ) m S K h

places_back : (σ : ℕ → Image) (m : List Bool) (S : Spine) (K : Kind) → HasPlaces m S (substitute_kind reduce σ K) → HasPlaces m S K
places_back σ [] S K h = tt
places_back σ (b ∷ m) S star h = tt
places_back σ (b ∷ m) nil (kind_pi A K) h = absurd h
places_back σ (b ∷ m) (app M S) (kind_pi A K) h = places_back (lift σ) m S K h

places_renamed : (ρ : ℕ → ℕ) (m : List Bool) (S : Spine) (K : Kind) → HasPlaces m S K → HasPlaces m S (rename_kind ρ K)
places_renamed ρ [] S K h = tt
places_renamed ρ (b ∷ m) S star h = tt
places_renamed ρ (b ∷ m) nil (kind_pi A K) h = absurd h
places_renamed ρ (b ∷ m) (app M S) (kind_pi A K) h = places_renamed (lift_renaming ρ) m S K h

pub terms_renamed : (ρ : ℕ → ℕ) (m : List Bool) (S : Spine) (K : Kind) → HasPlaces m S K → HasPlaces m (rename_spine ρ S) K
terms_renamed ρ [] S K h = tt
terms_renamed ρ (b ∷ m) S star h = tt
terms_renamed ρ (b ∷ m) nil (kind_pi A K) h = absurd h
terms_renamed ρ (b ∷ m) (app M S) (kind_pi A K) h = terms_renamed ρ m S K h

pub fitting_has_places : (Σ : Signature) (G : List LfType) (m : List Bool) (S : Spine) (K : Kind) → SpineFitsKind Σ G S K → HasPlaces m S K
fitting_has_places Σ G [] S K h = tt
fitting_has_places Σ G (b ∷ m) S star h = tt
fitting_has_places Σ G (b ∷ m) nil (kind_pi A K) h = absurd h
fitting_has_places Σ G (b ∷ m) (app M S) (kind_pi A K) (t, h) = places_back (single (skeleton A) M) m S K (fitting_has_places Σ G m S (instantiate_kind A M K) h)

count_moved : (ρ : ℕ → ℕ) (m : List Bool) (K : Kind) → chosen_count m (rename_kind ρ K) ≡ chosen_count m K
count_moved ρ [] K = refl
count_moved ρ (b ∷ m) star = refl
count_moved ρ (true ∷ m) (kind_pi A K) = ap suc (count_moved (lift_renaming ρ) m K)
count_moved ρ (false ∷ m) (kind_pi A K) = count_moved (lift_renaming ρ) m K

-- what stands behind a context
abbrev pub far : List LfType → ℕ → ℕ
far [] k = k
far (A ∷ D) k = suc (far D k)

module _ (B : Block) where
  -- its variables are n further out
  abbrev pub Moved : List Item → (ℕ → ℕ) → ℕ → Type 0
  Moved I f n = BlockAmong I B (λ i. keep (f i + n))

  moved_one : (A : LfType) (I : List Item) (f : ℕ → ℕ) (n : ℕ) → Moved I f n → Moved (free_variable A ∷ I) f (suc n)
  moved_one A I f n b = ((λ i. keep (f i + n)), b, fun_ext (λ i. ap keep (next (f i) n)))
    where
      next : (a n : ℕ) → a + suc n ≡ suc (a + n)
      next a n = omega arith

  -- past the variables of the clause
  past_kept : (V : ℕ → Bool) (D : List LfType) (ρ : ℕ → ℕ) (I : List Item) (f : ℕ → ℕ) → Moved I f 0 → (n : ℕ) × ((k : ℕ) → kept_number V D ρ (far D k) ≡ ρ k + n) × Moved (kept_items V D ρ I) f n
  past_kept V [] ρ I f b = (0, (λ k. none (ρ k)), b)
    where
      none : (a : ℕ) → a ≡ a + 0
      none a = omega arith
  past_kept V (A ∷ D) ρ I f b = let (n, h, k) = past_kept (λ j. V (suc j)) D ρ I f b in by (V zero) n h k
    where
      by : (v : Bool) (n : ℕ) → ((k : ℕ) → kept_number (λ j. V (suc j)) D ρ (far D k) ≡ ρ k + n) → Moved (kept_items (λ j. V (suc j)) D ρ I) f n → (l : ℕ) × ((k : ℕ) → cond v (lift_renaming (kept_number (λ j. V (suc j)) D ρ)) (past_place (kept_number (λ j. V (suc j)) D ρ)) (suc (far D k)) ≡ ρ k + l) × Moved (cond v (free_variable (rename_type (kept_number (λ j. V (suc j)) D ρ) A) ∷ kept_items (λ j. V (suc j)) D ρ I) (kept_items (λ j. V (suc j)) D ρ I)) f l
      by true n h k = (suc n, (λ j. ap suc (h j) ∙ next (ρ j) n), moved_one (rename_type (kept_number (λ j. V (suc j)) D ρ) A) (kept_items (λ j. V (suc j)) D ρ I) f n k)
        where
          next : (a n : ℕ) → suc (a + n) ≡ a + suc n
          next a n = omega arith
      by false n h k = (n, h, k)

  -- past the outputs
  past_outputs : (ks : List (List Bool)) (D : List LfType) (m : List Bool) (S : Spine) (K : Kind) (I : List Item) (f : ℕ → ℕ) (n : ℕ) → HasPlaces m S K → Moved I f n → Moved (output_items ks D m S K I) f (n + chosen_count m K)
  past_outputs ks D [] S K I f n h b = subst (Moved I f) (none n) b
    where
      none : (n : ℕ) → n ≡ n + 0
      none n = omega arith
  past_outputs ks D (c ∷ m) nil (kind_pi A K) I f n h b = absurd h
  past_outputs ks D (c ∷ m) nil star I f n h b = subst (Moved I f) (none n) b
    where
      none : (n : ℕ) → n ≡ n + 0
      none n = omega arith
  past_outputs ks D (c ∷ m) (app M S) star I f n h b = subst (Moved I f) (none n) b
    where
      none : (n : ℕ) → n ≡ n + 0
      none n = omega arith
  past_outputs ks D (false ∷ m) (app M S) (kind_pi A K) I f n h b =
      subst (λ l. Moved (output_items ks D m S (instantiate_kind A M K) I) f (n + l)) (count_substituted m (single (skeleton A) M) K)
      (past_outputs ks D m S (instantiate_kind A M K) I f n (places_substituted (single (skeleton A) M) m S K h) b)
  past_outputs ks D (true ∷ m) (app M S) (kind_pi A K) I f n h b =
      let N : Term = raised_variable (first_mask ks) D A zero in
      let K1 : Kind = rename_kind (lift_renaming (over_item D)) K in
      let K2 : Kind = instantiate_kind A N K1 in
      let S1 : Spine = rename_spine (over_item D) S in
      let J : List Item = free_variable (raise_by (first_mask ks) D A) ∷ I in
      let e : chosen_count m K2 ≡ chosen_count m K = count_substituted m (single (skeleton A) N) K1 ∙ count_moved (lift_renaming (over_item D)) m K in
      let p : HasPlaces m S1 K2 = places_substituted (single (skeleton A) N) m S1 K1 (places_renamed (lift_renaming (over_item D)) m S1 K (terms_renamed (over_item D) m S K h)) in
      subst (λ l. Moved (output_items (other_masks ks) (renumber suc D) m S1 K2 J) f l) (ap (λ l. suc n + l) e ∙ next n (chosen_count m K))
      (past_outputs (other_masks ks) (renumber suc D) m S1 K2 J f (suc n) p (moved_one (raise_by (first_mask ks) D A) I f n b))
    where
      next : (a n : ℕ) → suc a + n ≡ a + suc n
      next a n = omega arith

  -- it stands among them
  own_stands : Moved (block_variable B keep ∷ free_variables B.some) (λ i. i) 0
  own_stands = inl (refl, fun_ext (λ i. ap keep (none i) ∙ ap (λ f. f i) (sym (lift_same B.entries))))
    where
      none : (a : ℕ) → a + 0 ≡ a
      none a = omega arith

  -- How far all has moved in the goal: what stands outside as far as the variables of the block.
  pub goal_moved : (below : ℕ → ℕ → Bool) (m : ℕ → List Mark) (later : List LfType) (E : LfType) (es : List LfType) (e : onto later (E ∷ es) ≡ B.entries) (U : ℕ → Bool) (A : LfType) (K : Kind) → HasPlaces (output_places (m (target A))) (target_arguments A) K → (n : ℕ) × ((k : ℕ) → goal_number (of_entry B later E es e) (closed_over (binders [] E) U) (far (binders [] E) k) + chosen_count (output_places (m (target A))) K ≡ (k + suc (length later)) + n) × BlockAmong (output_goal below m (of_entry B later E es e) U A K).items B (λ i. keep (i + n))
  goal_moved below m later E es e U A K h =
      let o = of_entry B later E es e in
      let V : ℕ → Bool = closed_over (binders [] E) U in
      let ρ : ℕ → ℕ = goal_number (of_entry B later E es e) V in
      let (n, g, b) = past_kept V (binders [] E) (outside_number o) (outside_items o) (λ i. i) own_stands in
      let c : ℕ = chosen_count (output_places (m (target A))) K in
      (n + c, (λ k. ap (λ x. x + c) (g k) ∙ sum (k + suc (length later)) n c), past_outputs (goal_masks below m o V A K) (renumber ρ (binders [] A)) (output_places (m (target A))) (rename_spine (lift_renaming_by (length (binders [] A)) ρ) (target_arguments A)) K (kept_items V (binders [] E) (outside_number o) (outside_items o)) (λ i. i) n (terms_renamed (lift_renaming_by (length (binders [] A)) ρ) (output_places (m (target A))) (target_arguments A) K h) b)
    where
      sum : (a b c : ℕ) → (a + b) + c ≡ a + (b + c)
      sum a b c = omega arith
