-- Unification of a case may be done under any numbers of its metavariables.
use Rattle.std.proofs.Common.{◌≡◌, ℕ, zero, ◌+◌, ◌⊎◌, List, [], ◌∷◌, length, inl, inr, refl, sym, ap, ap₂, ◌∙◌, subst, arith}
use Rattle.std.specs.Prelude.{Bool, Option, Some, None}
use Rattle.lf.specs.Depth.{depth_limit}
use Rattle.lf.specs.Subordination.{Block, AreTypedBlocks, Member}
use Rattle.lf.specs.AtOnce.{shift_by}
use Rattle.lf.specs.Skeletons.{constant_skeletons, context_skeletons}
use Rattle.lf.specs.Substitution.{Image}
use Rattle.lf.specs.Syntax.{Head, Term, LfType, Kind, rename_type}
use Rattle.lf.specs.Typing.{Signature, IsSignature, TypeAt}
use Rattle.lf.specs.Variables.{onto, target}
use Rattle.lf.specs.Worlds.{instance, lift_over}
use Rattle.lf.proofs.Closed.{Agree}
use Rattle.lf.proofs.ToSkeletons.{skeleton_has_variable}
use Rattle.lf_unification.specs.DeepEquations.{AreDeep}
use Rattle.lf_unification.specs.Dependency.{ListedMetavariable, free_context}
use Rattle.lf_unification.specs.OpenTyping.{Declares, skeletons_of}
use Rattle.lf_unification.specs.Solving.{IsWellFormed, Left, LeftOver, Solved}
use Rattle.lf_unification.specs.Unifiers.{Equation, Store}
use Rattle.lf_cases.specs.Case.{Item, Case, items_context}
use Rattle.lf_cases.specs.Missing.{put_in}
use Rattle.lf_cases.specs.OutputGoal.{free_variables}
use Rattle.lf_cases.specs.Reached.{arguments_count, head_items, head_masks, taken, split_items, IsSplitBy, SplitHead, constant_head, bound_head, entry_head, new_entry_head}
use Rattle.lf_cases.specs.Split.{HasNoBlockVariable}
use Rattle.lf_coverage.specs.Heads.{HaveSkeletons, IsTypedCase}
use Rattle.lf_coverage.specs.MeetStore.{meet_store}
use Rattle.lf_coverage.specs.Renumbering.{AgreeOn, Renumbering, undone, renumbered_type, renumbered_equation, renumbered_equations, renumbered_order, renumbered_types, renumbered_store}
use Rattle.lf_coverage.specs.RenumberingLaws.{FoundUnderNumbers, LeftIsOutsideUnderNumbers, NeverGivesNoCaseUnderNumbers, NeverIsApartUnderNumbers, OpenUnderNumbers, SolvedIsSplitUnderNumbers, SolvedSharesInstanceUnderNumbers, TooDeepUnderNumbers, solved_case_at}
use Rattle.lf_coverage.specs.SplitStore.{answer_values, context_metavariables, open_some, open_type, solved_case, split_store}
use Rattle.lf_coverage.specs.TooDeep.{deep_equations}
use Rattle.lf_coverage.specs.TypedLocal.{HasTypedLocal}
use Rattle.lf_coverage.proofs.NoCase.{never_gives_no_case}
use Rattle.lf_coverage.proofs.RenumberedDeep.{deep_under_numbers}
use Rattle.lf_coverage.proofs.RenumberedLeft.{left_over, shown_is}
use Rattle.lf_coverage.proofs.RenumberedSolving.{left_under_numbers, same_case, solved_under_numbers}
use Rattle.lf_coverage.proofs.RenumberedStores.{member_of, never_under_numbers, well_formed}
use Rattle.lf_coverage.proofs.RenumberedBack.{declared_at, returned_equation, returned_store}
use Rattle.lf_coverage.proofs.RenumberedTyping.{declared_back}
use Rattle.lf_coverage.proofs.SolvedCase.{behind_types}
use Rattle.lf_coverage.proofs.StayTyped.{instance_agree}
use Rattle.lf_coverage.proofs.StoreSolution.{looked_up}
use Rattle.lf_coverage.proofs.Transfer.{same_in}
use Rattle.lf_coverage.proofs.TypedCases.{meet_store_is_ready, never_is_apart_beside, solved_is_split, solved_shares_instance, split_store_is_ready}

module _ (Σ : Signature) (ok : IsSignature Σ) (π : Renumbering) (before : Store) (w : IsWellFormed Σ before) where
  -- what undoes a renumbering on the renumbered metavariables agrees with it on these
  agree_back : (ρ : Renumbering) → AgreeOn (renumbered_types π before.metavariables) (undone π) ρ → AgreeOn before.metavariables π (undone ρ)
  agree_back ρ a m A e = ap ρ.back (sym (a (π.to m) (renumbered_type π.to A) (declared_at π before.metavariables m A e) ∙ π.back_to m)) ∙ ρ.back_to (π.to m)

  -- what is solved under the numbers π
  pub solved_back : (after : Store) (s : Solved Σ (renumbered_store π before) after) → (ρ : Renumbering) × AgreeOn before.metavariables π (undone ρ) × (t : Solved Σ before (renumbered_store ρ after)) × (t.well_formed.order ≡ renumbered_order ρ.to s.well_formed.order)
  solved_back after s =
      let (ρ, a, t, q) = solved_under_numbers Σ ok (undone π) (renumbered_store π before) after (well_formed Σ ok π before w) s in
      let (u, r) = subst (λ x. (t : Solved Σ x (renumbered_store ρ after)) × (t.well_formed.order ≡ renumbered_order ρ.to s.well_formed.order)) (returned_store π before) (t, q) in
      (ρ, agree_back ρ a, u, r)

  -- what is left under the numbers π; the given metavariables are those of the store
  pub left_back : (after : Store) → Left Σ (renumbered_store π before) after → (ρ : Renumbering) × AgreeOn before.metavariables π (undone ρ) × ((m : ℕ) → Declares (renumbered_types π before.metavariables) m → Declares before.metavariables (ρ.to m)) × Left Σ before (renumbered_store ρ after)
  left_back after l =
      let (ρ, a, t) = left_under_numbers Σ ok (undone π) (renumbered_store π before) after (well_formed Σ ok π before w) l in (
        ρ,
        agree_back ρ a,
        (λ m (A, e). let (B, q, r) = declared_back π before.metavariables m A e in (B, ap before.metavariables (a m A e) ∙ q)),
        subst (λ x. Left Σ x (renumbered_store ρ after)) (returned_store π before) t,
      )

  -- what is shown of an equation that is left
  pub shown_back : (after : Store) → Left Σ (renumbered_store π before) after → (e : Equation) → Member e after.equations → (o : LeftOver (renumbered_types π before.metavariables) after e) → (ρ : Renumbering) × AgreeOn before.metavariables π ρ × (there : Store) × Left Σ before there × (d : Equation) × Member d there.equations × (p : LeftOver before.metavariables there d) × (o.shown ≡ renumbered_equation ρ.to p.shown)
  shown_back after l e m o =
      let (ρ, a, d, t) = left_back after l in (
        undone ρ,
        a,
        renumbered_store ρ after,
        t,
        renumbered_equation ρ.to e,
        member_of (renumbered_equation ρ.to) (renumbered_equations ρ.to) (λ y ys. refl) e after.equations m,
        left_over ρ (renumbered_types π before.metavariables) before.metavariables d after e o,
        sym (ap (renumbered_equation ρ.back) (shown_is ρ (renumbered_types π before.metavariables) before.metavariables d after e o) ∙ returned_equation ρ o.shown),
      )

-- The case is read alike where the numbers agree on the variables in scope.
module _ (Σ : Signature) (W : List Block) (C : Case) (tc : IsTypedCase Σ W C) (tl : HasTypedLocal Σ C) where
  terms_alike : (Γ : List LfType) (σ τ : ℕ → Image) → Agree Γ σ τ → (Ms : List (Option Term)) → HaveSkeletons (constant_skeletons Σ) (context_skeletons Γ) Ms → put_in σ Ms ≡ put_in τ Ms
  terms_alike Γ σ τ h [] k = refl
  terms_alike Γ σ τ h (Some M ∷ Ms) ((t, m), k) = ap₂ (λ N Ns. Some N ∷ Ns) (same_in (constant_skeletons Σ) (context_skeletons Γ) σ τ (λ i u z. let (B, b, e) = skeleton_has_variable Γ i u z in h i B b) M t m) (terms_alike Γ σ τ h Ms k)
  terms_alike Γ σ τ h (None ∷ Ms) k = ap (λ Ns. None ∷ Ns) (terms_alike Γ σ τ h Ms k)

  pub read_alike : (s : Store) (order : List ListedMetavariable) (f g : ℕ → ℕ) → ((i : ℕ) (B : LfType) → TypeAt (items_context C.items) i B → f i ≡ g i) → solved_case_at C f s order ≡ solved_case_at C g s order
  read_alike s order f g h = ap₂ (λ Ms L. with_given Ms L (put_in (lift_over C.local σ) C.arguments)) (terms_alike (items_context C.items) σ τ agrees C.given tc.given) locals.0 ∙ ap (with_given (put_in τ C.given) (instance C.local τ)) (terms_alike (onto C.local (items_context C.items)) (lift_over C.local σ) (lift_over C.local τ) locals.1 C.arguments tc.arguments)
    where
      σ : ℕ → Image
      σ i = answer_values s order (f i)

      τ : ℕ → Image
      τ i = answer_values s order (g i)

      agrees : Agree (items_context C.items) (λ i. answer_values s order (f i)) (λ i. answer_values s order (g i))
      agrees i B b = ap (answer_values s order) (h i B b)

      locals : (instance C.local (λ i. answer_values s order (f i)) ≡ instance C.local (λ i. answer_values s order (g i))) × Agree (onto C.local (items_context C.items)) (lift_over C.local (λ i. answer_values s order (f i))) (lift_over C.local (λ i. answer_values s order (g i)))
      locals = instance_agree Σ C.local (items_context C.items) (λ i. answer_values s order (f i)) (λ i. answer_values s order (g i)) tl (λ i B b. ap (answer_values s order) (h i B b))

      with_given : List (Option Term) → List LfType → List (Option Term) → Case
      with_given Ms L Ns = record { items = free_variables (free_context (skeletons_of s.metavariables) order); given = Ms; local = L; family = C.family; arguments = Ns }

-- The variables of a case are metavariables of its store.
pub declared_there : (Σ : Signature) (W : List Block) (below : ℕ → ℕ → Bool) (I : List Item) (X : LfType) (J : List Item) (n : ℕ) (h : Head) (A : LfType) → SplitHead Σ W I X J n h A → HasNoBlockVariable J → (i : ℕ) (B : LfType) → TypeAt (items_context I) i B → (Y : LfType) × (context_metavariables (items_context (split_items below X J n A)) (i + (n + arguments_count A)) ≡ Some Y)
declared_there Σ W below I X J n h A sh nj i B b = by sh nj
  where
    at : (ks : List (List Bool)) (D : List LfType) (A : LfType) → (Y : LfType) × (context_metavariables (items_context (head_items ks D (arguments_count A) A I)) (i + arguments_count A) ≡ Some Y)
    at ks D A = (open_type zero (rename_type (shift_by (arguments_count A)) B), ap open_some (looked_up (items_context (head_items ks D (arguments_count A) A I)) (i + arguments_count A) (rename_type (shift_by (arguments_count A)) B) (behind_types ks D (arguments_count A) A I refl i B b)))

    none : (n : ℕ) → i + n ≡ i + (0 + n)
    none n = omega arith

    here : (A : LfType) → (Y : LfType) × (context_metavariables (items_context (split_items below X I 0 A)) (i + (0 + arguments_count A)) ≡ Some Y)
    here A = subst (λ k. (Y : LfType) × (context_metavariables (items_context (split_items below X I 0 A)) k ≡ Some Y)) (none (arguments_count A)) (at (head_masks below (taken (rename_type (shift_by 0) X)) (arguments_count A) A) (taken (rename_type (shift_by 0) X)) A)

    by : {J : List Item} {n : ℕ} {h : Head} {A : LfType} → SplitHead Σ W I X J n h A → HasNoBlockVariable J → (Y : LfType) × (context_metavariables (items_context (split_items below X J n A)) (i + (n + arguments_count A)) ≡ Some Y)
    by (constant_head k U e t) nj = here U
    by (bound_head j U l k t) nj = here U
    by (entry_head j U k f t) nj = here (rename_type (shift_by (length (taken X))) U)
    by (new_entry_head E j U m l k t) nj = absurd nj

-- the case that is read off in the numbers π is that of the theory's store
module _ (Σ : Signature) (ok : IsSignature Σ) (W : List Block) (typed : AreTypedBlocks Σ W) (below : ℕ → ℕ → Bool) (C : Case) (tc : IsTypedCase Σ W C) (tl : HasTypedLocal Σ C) (x : ℕ) (X : LfType) (at : TypeAt (items_context C.items) x X) (J : List Item) (n : ℕ) (h : Head) (A : LfType) (sh : SplitHead Σ W C.items X J n h A) (nj : HasNoBlockVariable J) (K : Kind) (e : Σ.kinds (target X) ≡ Some K) (π : Renumbering) where
  ready : IsWellFormed Σ (split_store below x X J n h A K)
  ready = (split_store_is_ready Σ ok W typed below C tc x X at J n h A sh K e).1

  pub solved_there : (after : Store) (s : Solved Σ (renumbered_store π (split_store below x X J n h A K)) after) → (there : Store) × (t : Solved Σ (split_store below x X J n h A K) there) × (solved_case_at C (λ i. π.to (i + (n + arguments_count A))) after s.well_formed.order ≡ solved_case C (n + arguments_count A) there t.well_formed.order)
  solved_there after s =
      let (ρ, a, t, q) = solved_back Σ ok π (split_store below x X J n h A K) ready after s in
      let same : solved_case_at C (λ i. ρ.back (i + (n + arguments_count A))) after s.well_formed.order ≡ solved_case_at C (λ i. π.to (i + (n + arguments_count A))) after s.well_formed.order = read_alike Σ W C tc tl after s.well_formed.order (λ i. ρ.back (i + (n + arguments_count A))) (λ i. π.to (i + (n + arguments_count A))) (λ i B b. let (Y, d) = declared_there Σ W below C.items X J n h A sh nj i B b in a (i + (n + arguments_count A)) Y d) in
      (renumbered_store ρ after, t, sym (ap (solved_case C (n + arguments_count A) (renumbered_store ρ after)) q ∙ same_case Σ ok ρ after s.well_formed s.none_left C (n + arguments_count A) ∙ same))

pub found_under_numbers : FoundUnderNumbers
found_under_numbers Σ ok W typed below C tc tl x X at h sh nj K e π = (
  (λ n. (never_under_numbers Σ ok π (split_store below x X h.items h.moved h.head h.type K)).1 n),
  λ after s. solved_there Σ ok W typed below C tc tl x X at h.items h.moved h.head h.type sh nj K e π after s,
)

pub never_gives_no_case_under_numbers : NeverGivesNoCaseUnderNumbers
never_gives_no_case_under_numbers Σ ok W typed below C tc x X at J n h A sh nj K π never = never_gives_no_case Σ ok W typed below C tc x X at J n h A sh nj K ((never_under_numbers Σ ok π (split_store below x X J n h A K)).1 never)

pub solved_is_split_under_numbers : SolvedIsSplitUnderNumbers
solved_is_split_under_numbers Σ ok W typed below C tc tl x X at J n h A sh nj K e π after s =
    let (there, t, q) = solved_there Σ ok W typed below C tc tl x X at J n h A sh nj K e π after s in
    subst (IsSplitBy Σ W below C x X J n h A) (sym q) (solved_is_split Σ ok W typed below C tc x X at J n h A sh nj K there t)

pub left_is_outside_under_numbers : LeftIsOutsideUnderNumbers
left_is_outside_under_numbers Σ ok W typed below C tc x X at J n h A sh nj K k π after l e m o =
    let (ρ, a, there, t, d, i, p, q) = shown_back Σ ok π (split_store below x X J n h A K) (split_store_is_ready Σ ok W typed below C tc x X at J n h A sh K k).1 after l e m o in
    (ρ, a, p.shown, q, record { type = X; at = at; offer = record { items = J; moved = n; head = h; type = A }; is_head = sh; no_block = nj; kind = K; of_family = k; after = there; left = t; equation = d; listed = i; left_over = p; is_shown = refl })

pub too_deep_under_numbers : TooDeepUnderNumbers
too_deep_under_numbers Σ ok W below C x X at J n h A sh nj K k π d = deep_equations X J n h A K at sh nj k ((deep_under_numbers depth_limit Σ ok π (split_store below x X J n h A K)).1 d)

pub never_is_apart_under_numbers : NeverIsApartUnderNumbers
never_is_apart_under_numbers Σ ok W typed C nc p tp i tb K e π never = never_is_apart_beside Σ ok W typed C nc p tp i tb K e ((never_under_numbers Σ ok π (meet_store C p K)).1 never)

pub solved_shares_instance_under_numbers : SolvedSharesInstanceUnderNumbers
solved_shares_instance_under_numbers Σ ok W typed C nc p tp i tb K e π after s =
    let (ρ, a, t, q) = solved_back Σ ok π (meet_store C p K) (meet_store_is_ready Σ ok W typed C p tp tb K e) after s in
    solved_shares_instance Σ ok W typed C nc p tp i tb K e (renumbered_store ρ after) t

pub open_under_numbers : OpenUnderNumbers
open_under_numbers Σ ok W typed C nc p tp i tb K e π h = record { kind = K; of_family = e; no_block = nc; of_a_constant = i; undecided = by h }
  where
    by : AreDeep depth_limit Σ (renumbered_store π (meet_store C p K)) ⊎ ((after : Store) × Left Σ (renumbered_store π (meet_store C p K)) after) → AreDeep depth_limit Σ (meet_store C p K) ⊎ ((after : Store) × Left Σ (meet_store C p K) after)
    by (inl d) = inl ((deep_under_numbers depth_limit Σ ok π (meet_store C p K)).1 d)
    by (inr (after, l)) = let (ρ, a, d, t) = left_back Σ ok π (meet_store C p K) (meet_store_is_ready Σ ok W typed C p tp tb K e) after l in inr (renumbered_store ρ after, t)
