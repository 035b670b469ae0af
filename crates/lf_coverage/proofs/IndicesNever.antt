-- Over families without indices no equation of patterns is left over.
use Rattle.std.proofs.Common.{◌≡◌, ℕ, zero, suc, ◌⊎◌, List, [], ◌∷◌, inl, inr, refl, sym, ap, ◌∙◌, subst}
use Rattle.std.specs.Prelude.{Bool, Option, Some, None}
use Rattle.lf.specs.Syntax.{metavariable, Term, Spine, nil, app, LfType, pi, atom, star, lift_renaming, rename_spine, rename_type, weaken}
use Rattle.lf.specs.Typing.{Signature, TypeAt, IsSignature, IsType, IsContext, SpineFitsKind}
use Rattle.lf.specs.Variables.{FamiliesIn, onto, target}
use Rattle.lf.proofs.Weakening.{declared_is_type}
use Rattle.lf_unification.specs.Offering.{pi_over}
use Rattle.lf_unification.specs.OpenTyping.{MetavariablesIn, set_at}
use Rattle.lf_unification.specs.Pruning.{PrunedType, kept_renaming, pruned_type}
use Rattle.lf_unification.specs.Putting.{PutsInSpine, PutsInType, Unbound, put_in_argument, put_in_atom, put_in_pi, put_nowhere}
use Rattle.lf_unification.specs.Steps.{Step, next_equation, put_bindings, drop_equal, open_lambdas, equal_heads, bind, prune_inside, prune_both, renew, Run, no_step, then_run}
use Rattle.lf_unification.specs.Unifiers.{Binding, Store}
use Rattle.lf_unification.proofs.Agree.{set_here, set_cases}
use Rattle.lf_unification.proofs.Putting.{put_unbound}
use Rattle.lf_cases.specs.Case.{items_context}
use Rattle.lf_cases.specs.Reached.{split_items}
use Rattle.lf_coverage.specs.IndicesLeft.{EquationIsHeld}
use Rattle.lf_coverage.specs.IndicesNever.{RunNeverLeaves}
use Rattle.lf_coverage.specs.PatternRuns.{HaveNoIndices}
use Rattle.lf_coverage.specs.PatternStores.{IsPatternStore, TypesArePatterns}
use Rattle.lf_coverage.specs.SplitStore.{AllFamiliesIn, context_metavariables, open_some, open_spine, open_type, split_store, type_in}
use Rattle.lf_coverage.proofs.Families.{split_items_keep_families}
use Rattle.lf_coverage.proofs.IndicesLeft.{equation_held, shown_is_pattern}
use Rattle.lf_coverage.proofs.IndicesPlain.{never_held}
use Rattle.lf_coverage.proofs.IndicesPruned.{AllPlain, PlainType, plain_kept}
use Rattle.lf_coverage.proofs.ItemsContext.{items_are_context}
use Rattle.lf_coverage.proofs.PatternRuns.{input_run_kept, kind_one, plain_types, split_store_is_pattern, target_in}
use Rattle.lf_coverage.proofs.PatternSteps.{run_keeps}
use Rattle.lf_coverage.proofs.SplitReady.{split_items_typed}
use Rattle.lf_coverage.proofs.StoreSolution.{families_at, found_type}

-- the types that are declared
abbrev pub TypesPlain : (ℕ → Option LfType) → Type 0
TypesPlain Ψ = (m : ℕ) (A : LfType) → Ψ m ≡ Some A → PlainType A

-- solving keeps such types
plain_back : (ρ : ℕ → ℕ) (A : LfType) → PlainType (rename_type ρ A) → PlainType A
plain_back ρ (pi A B) (a, b) = (plain_back ρ A a, plain_back (lift_renaming ρ) B b)
plain_back ρ (atom a S) e = by S e
  where
    by : (S : Spine) → rename_spine ρ S ≡ nil → S ≡ nil
    by nil e = refl
    by (app M S) e = absurd cc

plain_put : {Ψ : ℕ → Option LfType} {bs : List Binding} {k : ℕ} {A A' : LfType} → PutsInType Ψ bs k A A' → PlainType A → PlainType A'
plain_put {Ψ = Ψ} {bs = bs} (put_in_atom {k = k} {S = S} {S' = S'} s) e = by s e
  where
    by : {S S' : Spine} → PutsInSpine Ψ bs k S S' → S ≡ nil → S' ≡ nil
    by put_nowhere e = refl
    by (put_in_argument q s) e = absurd cc
plain_put (put_in_pi a b) (p, q) = (plain_put a p, plain_put b q)

over_plain : (L : List LfType) (P : LfType) → PlainType (pi_over L P) → AllPlain L × PlainType P
over_plain [] P h = (tt, h)
over_plain (A ∷ L) P h = let (l, (a, p)) = over_plain L (pi A P) h in ((a, l), p)

plain_over : (L : List LfType) (P : LfType) → AllPlain L → PlainType P → PlainType (pi_over L P)
plain_over [] P l p = p
plain_over (A ∷ L) P (a, l) p = plain_over L (pi A P) l (a, p)

plain_at : (L : List LfType) → AllPlain L → (i : ℕ) (Y : LfType) → TypeAt (onto L []) i Y → PlainType Y
plain_at [] l i Y g = absurd g
plain_at (A ∷ L) (a, l) zero Y e = subst PlainType (sym e) (plain_kept suc A a)
plain_at (A ∷ L) (a, l) (suc i) Y (B, g, e) = subst PlainType (sym e) (plain_kept suc B (plain_at L l i B g))

plain_from : (L : List LfType) → ((i : ℕ) (Y : LfType) → TypeAt (onto L []) i Y → PlainType Y) → AllPlain L
plain_from [] h = tt
plain_from (A ∷ L) h = (plain_back suc A (h zero (weaken A) refl), plain_from L (λ i B g. plain_back suc B (h (suc i) (weaken B) (B, g, refl))))

pruned_plain : (Ψ : ℕ → Option LfType) (n dropped : ℕ) (p : PrunedType Ψ n dropped) → PlainType (pi_over p.local (atom p.family p.indices)) → PlainType (pruned_type p)
pruned_plain Ψ n dropped p h =
    let ρ : ℕ → ℕ = kept_renaming (pi_over p.local (atom p.family p.indices)) (pi_over p.kept_local (atom p.family p.kept_indices)) p.kept in
    let (l, a) = over_plain p.local (atom p.family p.indices) h in
    plain_over p.kept_local (atom p.family p.kept_indices) (plain_from p.kept_local (λ i Y g. plain_back ρ Y (plain_at p.local l (ρ i) (rename_type ρ Y) (p.part.types i Y g)))) (plain_back ρ (atom p.family p.kept_indices) (subst PlainType p.same_target a))

plain_grow : (Ψ : ℕ → Option LfType) (n : ℕ) (X : LfType) → TypesPlain Ψ → PlainType X → TypesPlain (set_at n (Some X) Ψ)
plain_grow Ψ n X h x m A e = by (set_cases n (Some X) Ψ m)
  where
    one : {P Q : LfType} → Some P ≡ Some Q → P ≡ Q
    one q = cc

    by : (m ≡ n) ⊎ (set_at n (Some X) Ψ m ≡ Ψ m) → PlainType A
    by (inl q) = subst PlainType (one (sym (set_here n (Some X) Ψ) ∙ ap (set_at n (Some X) Ψ) (sym q) ∙ e)) x
    by (inr q) = h m A (sym q ∙ e)

module _ (Σ : Signature) where
  step_plain : {s s' : Store} → Step Σ s s' → TypesPlain s.metavariables → TypesPlain s'.metavariables
  step_plain (next_equation es e fs) x = x
  step_plain (put_bindings p q) x = x
  step_plain drop_equal x = x
  step_plain open_lambdas x = x
  step_plain (equal_heads g A r k) x = x
  step_plain (bind side D m xs N C e u p b) x = x
  step_plain (prune_inside {Ψ = Ψ} side D m xs N C e i p u n sc) x = plain_grow Ψ n (pruned_type p.pruned) x (pruned_plain Ψ p.drop.m p.dropped p.pruned (x p.drop.m _ p.pruned.declared))
  step_plain (prune_both {Ψ = Ψ} side D m xs N C e i p u n sc) x = plain_grow Ψ n (pruned_type p.pruned) x (pruned_plain Ψ m p.dropped p.pruned (x m _ p.pruned.declared))
  step_plain (renew {Ψ = Ψ} {bs = bs} m A A' e u o p n sc) x = plain_grow Ψ n A' x (plain_put p (x m A e))

  run_plain : {s s' : Store} → Run Σ s s' → TypesPlain s.metavariables → TypesPlain s'.metavariables
  run_plain no_step x = x
  run_plain (then_run p r) x = run_plain r (step_plain p x)

-- the items' types are such
module _ (Σ : Signature) (S : ℕ → Bool) (none : HaveNoIndices Σ S) where
  opened_plain : (k : ℕ) (G : List LfType) (A : LfType) → IsType Σ G A → FamiliesIn S A → PlainType (open_type k A)
  opened_plain k G (pi A B) (a, b) (f, g) = (opened_plain k G A a f, opened_plain (suc k) (A ∷ G) B b g)
  opened_plain k G (atom a T) (K, e, s) f = by T (subst (SpineFitsKind Σ G T) (kind_one (sym e ∙ none a f)) s)
    where
      by : (T : Spine) → SpineFitsKind Σ G T star → open_spine k T ≡ nil
      by nil s = refl
      by (app M T) s = absurd s

  items_plain : (G : List LfType) → IsSignature Σ → IsContext Σ G → AllFamiliesIn S G → TypesPlain (context_metavariables G)
  items_plain G ok c f m A e = by (type_in G m) refl e
    where
      one : {P Q : LfType} → Some P ≡ Some Q → P ≡ Q
      one q = cc

      by : (y : Option LfType) → type_in G m ≡ y → open_some y ≡ Some A → PlainType A
      by None q e = absurd cc
      by (Some X) q e = let g : TypeAt G m X = found_type G m X q in subst PlainType (one e) (opened_plain zero G X (declared_is_type Σ ok G m X c g) (families_at S G f m X g))

pub run_never_leaves : RunNeverLeaves
run_never_leaves Σ ok W typed below test S sc none a m K e c f D r x shown l =
    let (td, (fd, nd, pd)) = input_run_kept Σ ok W typed below test S sc none a m K e c f D r in
    let P : List LfType = items_context (split_items below l.type l.offer.items l.offer.moved l.offer.type) in
    let fx : FamiliesIn S l.type = families_at S (items_context D.items) fd x l.type l.at in
    let star_is : l.kind ≡ star = kind_one (sym l.of_family ∙ none (target l.type) (target_in Σ ok W typed below S sc none l.type fx)) in
    let fp : AllFamiliesIn S P = split_items_keep_families Σ W S sc below D.items fd x l.type l.at l.offer.items l.offer.moved l.offer.head l.offer.type l.is_head l.no_block in
    let cp : IsContext Σ P = items_are_context Σ ok W typed (split_items below l.type l.offer.items l.offer.moved l.offer.type) (split_items_typed Σ ok W typed below D.items td.items x l.type l.at l.offer.items l.offer.moved l.offer.head l.offer.type l.is_head) in
    let before : Store = split_store below x l.type l.offer.items l.offer.moved l.offer.head l.offer.type l.kind in
    let st : IsPatternStore Σ before = split_store_is_pattern Σ ok W typed below S sc none D td x l.type l.at l.offer.items l.offer.moved l.offer.head l.offer.type l.is_head l.no_block l.kind star_is in
    let tp : TypesArePatterns Σ before.metavariables = plain_types Σ S none P ok cp fp in
    let (sp, ap) = run_keeps Σ l.left.run st tp in
    let plain : TypesPlain l.after.metavariables = run_plain Σ l.left.run (items_plain Σ S none P ok cp fp) in
    let (p, q) = shown_is_pattern Σ l.after sp before.metavariables l.equation l.listed l.left_over in
    let h : EquationIsHeld l.after.metavariables l.after.bindings l.left_over.shown = equation_held Σ l.after.metavariables l.after.bindings l.left_over.shown (Rattle.lf.specs.Syntax.skeleton l.equation.of_type) p q l.left_over.outside in
    never_held l.after.metavariables l.after.bindings h.other (λ k z. plain k) (other_unbound l.after l.left_over.shown.left l.left_over.shown.right h.other (put_unbound l.left_over.put_left) (put_unbound l.left_over.put_right) h.sides) l.left_over.shown.local h.metavariable (plain h.metavariable) h.variables h.is_pattern h.held
  where
    other_unbound : (after : Store) (M N : Term) {P Q : Term} (O : Term) → MetavariablesIn (Unbound after.bindings) M → MetavariablesIn (Unbound after.bindings) N → ((M ≡ P) × (N ≡ O)) ⊎ ((N ≡ Q) × (M ≡ O)) → MetavariablesIn (Unbound after.bindings) O
    other_unbound after M N O u v (inl (d, e)) = subst (MetavariablesIn (Unbound after.bindings)) e v
    other_unbound after M N O u v (inr (d, e)) = subst (MetavariablesIn (Unbound after.bindings)) e u
