-- A whole run with a block, split by split.
use Rattle.std.proofs.Common.{◌≡◌, ℕ, zero, suc, List, [], ◌∷◌, refl, sym, ap, ◌∙◌, subst, inl, inr}
use Rattle.std.specs.Prelude.{Bool, true, Option}
use Rattle.lf.specs.Syntax.{Head, Term, constant, variable, lambda, nil, LfType, pi, base, arrow, star}
use Rattle.lf.specs.AtOnce.{in_front}
use Rattle.lf.specs.Skeletons.{constant_skeletons, context_skeletons}
use Rattle.lf.specs.Substitution.{Image, keep, put, apply_image, substitute, reduce, after}
use Rattle.lf.specs.Typing.{Signature, TypeAt, HasType}
use Rattle.lf.specs.Subordination.{Member}
use Rattle.lf.specs.Worlds.{World, lift_over}
use Rattle.lf.proofs.ToSkeletons.{typed_has_skeleton}
use Rattle.lf_cases.specs.Case.{Item, Case, free_variable, as_term, entries_in_front, items_context, IsGroundInstance}
use Rattle.lf_cases.specs.Missing.{AreTypedItems, IsTypedInstance}
use Rattle.lf_cases.specs.Reached.{SplitHead, with_block}
use Rattle.lf_totality.specs.Examples.{Copying, applied_to, application, block_case, copy_block, exp, first_below_second, function, lam, var}
use Rattle.lf_totality.specs.ExamplesReached.{cp_lam_case}
use Rattle.lf_coverage.specs.Examples.{copy_offers}
use Rattle.lf_coverage.specs.ExamplesCopying.{copy_worlds, copy_goal, copy_app_case, copy_cases}
use Rattle.lf_coverage.specs.HeadOrder.{Offer}
use Rattle.lf_coverage.specs.Heads.{ArgumentsAreBelow, IsSplitBelow, GivesCase, IsHeadSplit, Keeps}
use Rattle.lf_coverage.specs.Listed.{Listed, no_offer, with_case}
use Rattle.lf_coverage.proofs.ExamplesGiven.{PutsIn, gives_case}
use Rattle.lf_coverage.proofs.ExamplesOrder.{copy_heads_in_order}
use Rattle.lf_coverage.proofs.StoreSolution.{value_at}

-- X is the term lam E
abbrev pub lam_values : ℕ → Image
lam_values = in_front (put (arrow (base 0) (base 0)) (lambda (applied_to 1 0))) (in_front (put (base 0) (lam (applied_to 1 0))) keep)

abbrev pub lam_items : List Item
lam_items = free_variable function ∷ free_variable exp ∷ []

-- what makes X this head gives all that the case gives under the value of E
pub lam_same : (Σ : Signature) (G : List LfType) (H X : Term) (τ υ ρ : ℕ → Image) → HasType Σ G H function → τ ≡ in_front (put (arrow (base 0) (base 0)) H) υ → υ ≡ in_front (put (base 0) X) ρ → as_term (base 0) (τ 1) ≡ substitute reduce τ (lam (applied_to 1 0)) → (i : ℕ) (A : LfType) → TypeAt (items_context lam_items) i A → τ i ≡ after (in_front (put (arrow (base 0) (base 0)) H) keep) lam_values i
lam_same Σ G H X τ υ ρ h e d s zero A q = ap (λ k. k 0) e ∙ ap (put (arrow (base 0) (base 0))) (sym (value_at (constant_skeletons Σ) (context_skeletons G) (arrow (base 0) (base 0)) (in_front (put (arrow (base 0) (base 0)) H) keep) 0 (refl, typed_has_skeleton Σ G H function h)))
lam_same Σ G H X τ υ ρ h e d s (suc zero) A q =
    let p : τ 1 ≡ put (base 0) X = ap (λ k. k 1) e ∙ ap (λ k. k 0) d in
    let f : substitute reduce τ (lam (applied_to 1 0)) ≡ substitute reduce (in_front (put (arrow (base 0) (base 0)) H) keep) (lam (applied_to 1 0)) = ap (λ k. substitute reduce k (lam (applied_to 1 0))) e in
    p ∙ ap (put (base 0)) (sym (ap (as_term (base 0)) p) ∙ s ∙ f)
lam_same Σ G H X τ υ ρ h e d s (suc (suc i)) A (B, (C, q, r), r') = absurd q

-- X is the term app M N
abbrev pub app_values : ℕ → Image
app_values = in_front (put (base 0) (var 0)) (in_front (put (base 0) (var 1)) (in_front (put (base 0) (application (var 1) (var 0))) keep))

abbrev pub app_items : List Item
app_items = free_variable exp ∷ free_variable exp ∷ free_variable exp ∷ []

abbrev pub two_terms : Term → Term → ℕ → Image
two_terms M N = in_front (put (base 0) N) (in_front (put (base 0) M) keep)

pub app_same : (M N X : Term) (τ υ χ ρ : ℕ → Image) → τ ≡ in_front (put (base 0) N) υ → υ ≡ in_front (put (base 0) M) χ → χ ≡ in_front (put (base 0) X) ρ → as_term (base 0) (τ 2) ≡ substitute reduce τ (application (var 1) (var 0)) → (i : ℕ) (A : LfType) → TypeAt (items_context app_items) i A → τ i ≡ after (two_terms M N) app_values i
app_same M N X τ υ χ ρ e d c s zero A q = ap (λ k. k 0) e
app_same M N X τ υ χ ρ e d c s (suc zero) A q = ap (λ k. k 1) e ∙ ap (λ k. k 0) d
app_same M N X τ υ χ ρ e d c s (suc (suc zero)) A q =
    let p : τ 2 ≡ put (base 0) X = ap (λ k. k 2) e ∙ ap (λ k. k 1) d ∙ ap (λ k. k 0) c in
    let f : substitute reduce τ (application (var 1) (var 0)) ≡ substitute reduce (two_terms M N) (application (var 1) (var 0)) = ap (λ k. substitute reduce k (application (var 1) (var 0))) (e ∙ ap (in_front (put (base 0) N)) d) in
    p ∙ ap (put (base 0)) (sym (ap (as_term (base 0)) p) ∙ s ∙ f)
app_same M N X τ υ χ ρ e d c s (suc (suc (suc i))) A (B, (C, (D, q, r), r'), r'') = absurd q

-- X is the entry x of a new block variable
abbrev pub entry_items : List Item
entry_items = with_block copy_block (free_variable exp ∷ [])

abbrev pub whole : ℕ → Image
whole = lift_over copy_block.entries keep

abbrev pub entry_values : ℕ → Image
entry_values = entries_in_front copy_block.entries whole (in_front (put (base 0) (var 1)) keep)

pub entry_same : (X : Term) (θ τ υ ρ : ℕ → Image) → τ ≡ entries_in_front copy_block.entries θ υ → υ ≡ in_front (put (base 0) X) ρ → as_term (base 0) (τ 2) ≡ substitute reduce τ (var 1) → (i : ℕ) (A : LfType) → TypeAt (items_context entry_items) i A → τ i ≡ after (entries_in_front copy_block.entries θ keep) entry_values i
entry_same X θ τ υ ρ e d s zero A q = ap (λ k. k 0) e
entry_same X θ τ υ ρ e d s (suc zero) A q = ap (λ k. k 1) e
entry_same X θ τ υ ρ e d s (suc (suc zero)) A q =
    let p : τ 2 ≡ put (base 0) X = ap (λ k. k 2) e ∙ ap (λ k. k 0) d in
    let f : substitute reduce τ (var 1) ≡ apply_image reduce (θ 1) nil = ap (λ k. apply_image reduce (k 1) nil) e in
    p ∙ ap (put (base 0)) (sym (ap (as_term (base 0)) p) ∙ s ∙ f)
entry_same X θ τ υ ρ e d s (suc (suc (suc i))) A (B, (C, (D, q, r), r'), r'') = absurd q

-- typings
pub lam_typed : HasType Copying (function ∷ []) (lam (applied_to 1 0)) exp
lam_typed = (pi function exp, refl, ((function, (function, refl, refl), ((exp, refl, refl), refl)), refl))

pub app_typed : HasType Copying (exp ∷ exp ∷ []) (application (var 1) (var 0)) exp
app_typed = (pi exp (pi exp exp), refl, ((exp, (exp, refl, refl), refl), ((exp, refl, refl), refl)))

pub lam_items_typed : AreTypedItems Copying copy_worlds cp_lam_case.items
lam_items_typed = (tt, ((star, refl, tt), (star, refl, tt)))

pub app_items_typed : AreTypedItems Copying copy_worlds copy_app_case.items
app_items_typed = ((tt, (star, refl, tt)), (star, refl, tt))

pub block_items_typed : AreTypedItems Copying copy_worlds block_case.items
block_items_typed = (tt, inl refl, record { typed = λ i A g u. absurd g; closed = λ i A g u. absurd g })

pub lam_instance : IsTypedInstance Copying cp_lam_case.items lam_items lam_values
lam_instance = (lambda (applied_to 1 0), in_front (put (base 0) (lam (applied_to 1 0))) keep, (lam (applied_to 1 0), keep, tt, lam_typed, refl), (function, (function, refl, refl), ((exp, refl, refl), refl)), refl)

pub app_instance : IsTypedInstance Copying copy_app_case.items app_items app_values
app_instance = (var 0, in_front (put (base 0) (var 1)) (in_front (put (base 0) (application (var 1) (var 0))) keep), (var 1, in_front (put (base 0) (application (var 1) (var 0))) keep, (application (var 1) (var 0), keep, tt, app_typed, refl), (exp, (exp, refl, refl), refl), refl), (exp, refl, refl), refl)

pub entry_instance : IsTypedInstance Copying block_case.items entry_items entry_values
entry_instance = (whole, in_front (put (base 0) (var 1)) keep, (var 1, keep, tt, (exp, (exp, refl, refl), refl), refl), inl (refl, refl), (λ i A g. absurd g), refl)

-- the cases that the heads make
abbrev pub lam_made : PutsIn Copying copy_worlds first_below_second copy_goal exp (free_variable exp ∷ []) 0 (pi function exp) cp_lam_case
lam_made = record { values = lam_values; typed_items = lam_items_typed; is_instance = lam_instance; given = refl; local = refl; family = refl; arguments = refl }

abbrev pub app_made : PutsIn Copying copy_worlds first_below_second copy_goal exp (free_variable exp ∷ []) 0 (pi exp (pi exp exp)) copy_app_case
app_made = record { values = app_values; typed_items = app_items_typed; is_instance = app_instance; given = refl; local = refl; family = refl; arguments = refl }

abbrev pub entry_made : PutsIn Copying copy_worlds first_below_second copy_goal exp entry_items 2 exp block_case
entry_made = record { values = entry_values; typed_items = block_items_typed; is_instance = entry_instance; given = refl; local = refl; family = refl; arguments = refl }

-- the types of the three heads
below_of : (J : List Item) (n : ℕ) (h : Head) (A : LfType) → Member (record { items = J; moved = n; head = h; type = A }) copy_offers → ArgumentsAreBelow first_below_second A
below_of J n h A (inl e) = subst (ArgumentsAreBelow first_below_second) (sym (ap (λ o. o.type) e)) ((refl, refl), tt)
below_of J n h A (inr (inl e)) = subst (ArgumentsAreBelow first_below_second) (sym (ap (λ o. o.type) e)) (refl, (refl, tt))
below_of J n h A (inr (inr (inl e))) = subst (ArgumentsAreBelow first_below_second) (sym (ap (λ o. o.type) e)) tt
below_of J n h A (inr (inr (inr e))) = absurd e

pub copy_below : (J : List Item) (n : ℕ) (h : Head) (A : LfType) → SplitHead Copying copy_worlds copy_goal.items exp J n h A → ArgumentsAreBelow first_below_second A
copy_below J n h A s = below_of J n h A (copy_heads_in_order.0.every J n h A s)

-- they are offered to the goal, whatever is answered to them
abbrev pub copy_answered : {Answer : LfType → Offer → Option Case → Type 0} {Cs : List Case} → Listed (Answer exp) copy_offers Cs → IsSplitBelow Copying copy_worlds first_below_second Answer copy_goal 0 Cs
copy_answered l = record { answered = record { type = exp; at = refl; is_free = refl; offers = copy_offers; are_offers = copy_heads_in_order.0; in_order = copy_heads_in_order.1; listed = l }; takes_below = tt; arguments_below = copy_below }

module _ (S : ℕ → Bool) where
  module _ (Σ : Signature) {G : List LfType} (w : World Σ copy_worlds S G) where
    keeps_lam : (τ : ℕ → Image) (g : IsGroundInstance w lam_items τ) → as_term (base 0) (τ 1) ≡ substitute reduce τ (lam (applied_to 1 0)) → Keeps w lam_items τ g cp_lam_case.items lam_values
    keeps_lam τ (H, υ, (X, ρ, t, hx, d), hh, e) s = record {
      new_values = in_front (put (arrow (base 0) (base 0)) H) keep;
      is_ground = (H, keep, tt, hh, refl);
      is_distinct = tt;
      first_stays = λ B θ f. f;
      same = lam_same Σ G H X τ υ ρ hh e d s;
    }

    keeps_app : (τ : ℕ → Image) (g : IsGroundInstance w app_items τ) → as_term (base 0) (τ 2) ≡ substitute reduce τ (application (var 1) (var 0)) → Keeps w app_items τ g copy_app_case.items app_values
    keeps_app τ (N, υ, (M, χ, (X, ρ, t, hx, c), hm, d), hn, e) s = record {
      new_values = two_terms M N;
      is_ground = (N, in_front (put (base 0) M) keep, (M, keep, tt, hm, refl), hn, refl);
      is_distinct = tt;
      first_stays = λ B θ f. f;
      same = app_same M N X τ υ χ ρ e d c s;
    }

    keeps_entry : (τ : ℕ → Image) (g : IsGroundInstance w entry_items τ) → as_term (base 0) (τ 2) ≡ substitute reduce τ (var 1) → Keeps w entry_items τ g block_case.items entry_values
    keeps_entry τ (θ, υ, (X, ρ, t, hx, d), b, o, e) s = record {
      new_values = entries_in_front copy_block.entries θ keep;
      is_ground = (θ, keep, tt, b, (λ i A g. absurd g), refl);
      is_distinct = ((λ f. f), tt);
      first_stays = λ B φ f. f;
      same = entry_same X θ τ υ ρ e d s;
    }

  pub lam_given : GivesCase Copying copy_worlds S first_below_second copy_goal 0 exp (free_variable exp ∷ []) 0 (constant 0) (pi function exp) cp_lam_case
  lam_given = gives_case lam_made 0 (constant 0) S (λ Σ x G w τ t. keeps_lam Σ w τ t.is_ground t.same)

  pub app_given : GivesCase Copying copy_worlds S first_below_second copy_goal 0 exp (free_variable exp ∷ []) 0 (constant 2) (pi exp (pi exp exp)) copy_app_case
  app_given = gives_case app_made 0 (constant 2) S (λ Σ x G w τ t. keeps_app Σ w τ t.is_ground t.same)

  pub entry_given : GivesCase Copying copy_worlds S first_below_second copy_goal 0 exp entry_items 2 (variable 1) exp block_case
  entry_given = gives_case entry_made 0 (variable 1) S (λ Σ x G w τ t. keeps_entry Σ w τ t.is_ground t.same)

  pub copy_split : S 0 ≡ true → IsHeadSplit Copying copy_worlds S first_below_second copy_goal 0 copy_cases
  copy_split z = record { split = copy_answered (with_case lam_given (with_case app_given (with_case entry_given no_offer))); families = z }
