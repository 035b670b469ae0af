-- Patterns, what inversion finds and what can be bound or pruned go along with new numbers for metavariables.
use Rattle.std.proofs.Common.{◌≡◌, ℕ, ◌⊎◌, List, [], ◌∷◌, Bool, inl, inr, sym, ap, ap₂, ◌∙◌, subst}
use Rattle.std.specs.Prelude.{Option, Some}
use Rattle.std.specs.Option.{option_map}
use Rattle.lf.specs.Syntax.{metavariable, Term, root, LfType, atom, Skeleton, skeleton, rename, rename_type}
use Rattle.lf.specs.Typing.{TypeAt}
use Rattle.lf.specs.Variables.{onto}
use Rattle.lf_unification.specs.Inversion.{Allowed, Inverted, IsPattern, MustDrop, NeverInverted, OccursRigid, SameMetavariable}
use Rattle.lf_unification.specs.Offering.{pi_over}
use Rattle.lf_unification.specs.OpenTyping.{MetavariablesInType, set_at, skeletons_of}
use Rattle.lf_unification.specs.Outside.{CanBind, Holds, ValuesIn}
use Rattle.lf_unification.specs.Patterns.{InImage, Injective, PatternFits, beyond, context_under, lambdas_of, past, pattern, pattern_renaming}
use Rattle.lf_unification.specs.Pruning.{CanAgree, CanDrop, IsPartOf, PrunedType, kept_renaming, pruned_store}
use Rattle.lf_unification.specs.Rigid.{Rigid, past_binders}
use Rattle.lf_unification.specs.Steps.{on_pattern}
use Rattle.lf_unification.specs.Unifiers.{Binding, Equation, Store}
use Rattle.lf_unification.proofs.Agree.{set_here}
use Rattle.lf_unification.proofs.Offer.{decide, set_other}
use Rattle.lf_coverage.specs.Renumbering.{Renumbering, renumbered, renumbered_spine, renumbered_type, renumbered_locals, renumbered_equations, renumbered_bindings, renumbered_types, renumbered_store}
use Rattle.lf_coverage.proofs.RenumberedBack.{declared_at, skeleton_at}
use Rattle.lf_coverage.proofs.RenumberedRules.{beyond_at, beyond_same, pis_over, pis_skeleton, rigid, under_binders}
use Rattle.lf_coverage.proofs.RenumberedSyntax.{pattern_renumbered, renamed, renamed_type, under_lambdas}
use Rattle.lf_coverage.proofs.RenumberedTyping.{declared_back, in_renumbered, in_renumbered_type, local_same, onto_nothing, type_at, type_at_back}
use mathlib.Core.Path.{fun_ext}

-- stores that have the same parts
abbrev pub store_of : (ℕ → Option LfType) → List Binding → List Equation → Store
store_of Ψ bs es = record { metavariables = Ψ; bindings = bs; equations = es }

pub store_same : {Ψ Φ : ℕ → Option LfType} {bs cs : List Binding} {es fs : List Equation} → Ψ ≡ Φ → bs ≡ cs → es ≡ fs → store_of Ψ bs es ≡ store_of Φ cs fs
store_same {Ψ} {Φ} {bs} {cs} {es} {fs} p q r = ap (λ x. store_of x bs es) p ∙ ap (λ x. store_of Φ x es) q ∙ ap (store_of Φ cs) r

module _ (π : Renumbering) where
  pub set_types : (n : ℕ) (X : LfType) (Ψ : ℕ → Option LfType) → renumbered_types π (set_at n (Some X) Ψ) ≡ set_at (π.to n) (Some (renumbered_type π.to X)) (renumbered_types π Ψ)
  set_types n X Ψ = fun_ext (λ k. each k (decide k (π.to n)))
    where
      each : (k : ℕ) → (k ≡ π.to n) ⊎ (k ≡ π.to n → ⊥) → renumbered_types π (set_at n (Some X) Ψ) k ≡ set_at (π.to n) (Some (renumbered_type π.to X)) (renumbered_types π Ψ) k
      each k (inl e) = ap (λ j. option_map (renumbered_type π.to) (set_at n (Some X) Ψ j)) (ap π.back e ∙ π.back_to n) ∙ ap (option_map (renumbered_type π.to)) (set_here n (Some X) Ψ) ∙ sym (ap (set_at (π.to n) (Some (renumbered_type π.to X)) (renumbered_types π Ψ)) e ∙ set_here (π.to n) (Some (renumbered_type π.to X)) (renumbered_types π Ψ))
      each k (inr h) = ap (option_map (renumbered_type π.to)) (set_other n (Some X) Ψ (π.back k) (λ e. h (sym (π.to_back k) ∙ ap π.to e))) ∙ sym (set_other (π.to n) (Some (renumbered_type π.to X)) (renumbered_types π Ψ) k h)

  module _ (Ψ : ℕ → Option LfType) where
    abbrev Φ₁ : ℕ → Option LfType
    Φ₁ = renumbered_types π Ψ

    pub pattern_is : (m : ℕ) (xs : List ℕ) → renumbered π.to (on_pattern Ψ m xs) ≡ on_pattern Φ₁ (π.to m) xs
    pattern_is m xs = ap (root (metavariable (π.to m))) (pattern_renumbered π.to (skeletons_of Ψ m) xs ∙ ap (λ t. pattern t xs) (sym (skeleton_at π Ψ m)))

    pub is_pattern : (D : List LfType) (m : ℕ) (xs : List ℕ) → IsPattern D (skeletons_of Ψ m) xs → IsPattern (renumbered_locals π.to D) (skeletons_of Φ₁ (π.to m)) xs
    is_pattern D m xs p = subst (λ t. IsPattern (renumbered_locals π.to D) t xs) (sym (skeleton_at π Ψ m)) (record {
      places = λ Γ. subst (λ Δ. PatternFits Δ (skeletons_of Ψ m) xs) (sym (local_same π.to D Γ)) (p.places Γ);
      distinct = subst (λ b. Injective (pattern_renaming (skeletons_of Ψ m) xs b)) (sym (beyond_same π.to D)) p.distinct;
    })

    pub renaming_same : (D : List LfType) (m : ℕ) (xs : List ℕ) → pattern_renaming (skeletons_of Φ₁ (π.to m)) xs (beyond (renumbered_locals π.to D)) ≡ pattern_renaming (skeletons_of Ψ m) xs (beyond D)
    renaming_same D m xs = ap₂ (λ t b. pattern_renaming t xs b) (skeleton_at π Ψ m) (beyond_same π.to D)

    abbrev pub inverted : (D : List LfType) (m : ℕ) (xs : List ℕ) (N : Term) → Inverted Ψ D (skeletons_of Ψ m) xs N → Inverted Φ₁ (renumbered_locals π.to D) (skeletons_of Φ₁ (π.to m)) xs (renumbered π.to N)
    inverted D m xs N i = record { inversion = renumbered π.to i.inversion; is = ap (λ ρ. rename ρ (renumbered π.to i.inversion)) (renaming_same D m xs) ∙ sym (renamed π.to (pattern_renaming (skeletons_of Ψ m) xs (beyond D)) i.inversion) ∙ ap (renumbered π.to) i.is }

    pub allowed_same : (D : List LfType) (m : ℕ) (xs : List ℕ) (k i : ℕ) → Allowed (renumbered_locals π.to D) (skeletons_of Φ₁ (π.to m)) xs k i ≡ Allowed D (skeletons_of Ψ m) xs k i
    allowed_same D m xs k i = ap₂ (λ t b. LiftedBy t b) (skeleton_at π Ψ m) (beyond_same π.to D)
      where
        LiftedBy : Skeleton → (ℕ → ℕ) → Type 0
        LiftedBy t b = Rattle.lf_unification.specs.Rigid.LiftedSetBy k (InImage (pattern_renaming t xs b)) i

    pub never_inverted : (D : List LfType) (m : ℕ) (xs : List ℕ) (N : Term) → NeverInverted Ψ D (skeletons_of Ψ m) xs N → NeverInverted Φ₁ (renumbered_locals π.to D) (skeletons_of Φ₁ (π.to m)) xs (renumbered π.to N)
    never_inverted D m xs N n = record { depth = n.depth; bad = n.bad; spine = renumbered_spine π.to n.spine; at = rigid π.to n.at; is_bad = λ a. n.is_bad (subst (λ X. X) (allowed_same D m xs n.depth n.bad) a) }

    pub rigid_pattern : (m : ℕ) (ys : List ℕ) (k : ℕ) (N : Term) → Rigid (on_pattern Ψ m ys) k N → Rigid (on_pattern Φ₁ (π.to m) ys) k (renumbered π.to N)
    rigid_pattern m ys k N r = subst (λ P. Rigid P k (renumbered π.to N)) (pattern_is m ys) (rigid π.to r)

    abbrev must_drop : (D : List LfType) (m : ℕ) (xs : List ℕ) (N : Term) → MustDrop Ψ D (skeletons_of Ψ m) xs N → MustDrop Φ₁ (renumbered_locals π.to D) (skeletons_of Φ₁ (π.to m)) xs (renumbered π.to N)
    must_drop D m xs N d = record {
      m = π.to d.m;
      depth = d.depth;
      context = renumbered_locals π.to d.context;
      context_is = under_binders π.to D d.depth d.context d.context_is;
      ys = d.ys;
      is_pattern = is_pattern d.context d.m d.ys d.is_pattern;
      at = rigid_pattern d.m d.ys d.depth N d.at;
      place = d.place;
      bad = d.bad;
      nth = d.nth;
      is_bad = λ a. d.is_bad (subst (λ X. X) (allowed_same D m xs d.depth d.bad) a);
      last = λ j y l e. subst (λ X. X) (sym (allowed_same D m xs d.depth y)) (d.last j y l e);
    }

    pub occurs_rigid : (D : List LfType) (m : ℕ) (xs : List ℕ) (N : Term) → OccursRigid Ψ D m xs N → OccursRigid Φ₁ (renumbered_locals π.to D) (π.to m) xs (renumbered π.to N)
    occurs_rigid D m xs N o = record {
      depth = o.depth;
      context = renumbered_locals π.to o.context;
      context_is = under_binders π.to D o.depth o.context o.context_is;
      ys = o.ys;
      is_pattern = is_pattern o.context m o.ys o.is_pattern;
      at = rigid_pattern m o.ys o.depth N o.at;
      inside = λ e. o.inside (sym (Rattle.lf_coverage.proofs.RenumberedBack.returned π N) ∙ ap (renumbered π.back) (e ∙ sym (pattern_is m o.ys)) ∙ Rattle.lf_coverage.proofs.RenumberedBack.returned π (on_pattern Ψ m o.ys));
    }

    abbrev same_metavariable : (D : List LfType) (m : ℕ) (xs : List ℕ) (N : Term) → SameMetavariable Ψ D m xs N → SameMetavariable Φ₁ (renumbered_locals π.to D) (π.to m) xs (renumbered π.to N)
    same_metavariable D m xs N s = record { ys = s.ys; is_pattern = is_pattern D m s.ys s.is_pattern; is = ap (renumbered π.to) s.is ∙ pattern_is m s.ys }

    -- the type without an argument
    module _ (n dropped : ℕ) (p : PrunedType Ψ n dropped) where
      abbrev X : LfType
      X = pi_over p.local (atom p.family p.indices)

      abbrev X' : LfType
      X' = pi_over p.kept_local (atom p.family p.kept_indices)

      abbrev Y : LfType
      Y = pi_over (renumbered_locals π.to p.local) (atom p.family (renumbered_spine π.to p.indices))

      abbrev Y' : LfType
      Y' = pi_over (renumbered_locals π.to p.kept_local) (atom p.family (renumbered_spine π.to p.kept_indices))

      pub kept_same : kept_renaming X X' p.kept ≡ kept_renaming Y Y' p.kept
      kept_same = ap₂ (λ t u. pattern_renaming t p.kept (past u)) (sym (pis_skeleton π.to p.kept_local p.family p.kept_indices)) (sym (pis_skeleton π.to p.local p.family p.indices))

      pub part : IsPartOf (renumbered_locals π.to p.kept_local) (renumbered_locals π.to p.local) (kept_renaming X X' p.kept)
      part = record {
        outer = λ i. ap (kept_renaming X X' p.kept) (beyond_at π.to p.kept_local i) ∙ p.part.outer i ∙ sym (beyond_at π.to p.local i);
        types = λ i A h.
            let (B, k, e) = type_at_back π.to (onto p.kept_local []) i A (subst (λ E. TypeAt E i A) (onto_nothing π.to p.kept_local) h) in
            subst (λ E. TypeAt E (kept_renaming X X' p.kept i) (rename_type (kept_renaming X X' p.kept) A)) (sym (onto_nothing π.to p.local)) (subst (TypeAt (renumbered_locals π.to (onto p.local [])) (kept_renaming X X' p.kept i)) (renamed_type π.to (kept_renaming X X' p.kept) B ∙ ap (rename_type (kept_renaming X X' p.kept)) e) (type_at π.to (onto p.local []) (kept_renaming X X' p.kept i) (rename_type (kept_renaming X X' p.kept) B) (p.part.types i B k)));
      }

      abbrev pub pruned_type_of : PrunedType Φ₁ (π.to n) dropped
      pruned_type_of = record {
        local = renumbered_locals π.to p.local;
        family = p.family;
        indices = renumbered_spine π.to p.indices;
        declared = declared_at π Ψ n X p.declared ∙ ap Some (pis_over π.to p.local (atom p.family p.indices));
        kept_local = renumbered_locals π.to p.kept_local;
        kept_indices = renumbered_spine π.to p.kept_indices;
        kept = p.kept;
        distinct = subst Injective kept_same p.distinct;
        places = λ Γ. subst (λ t. PatternFits (context_under t Γ) (skeleton Y') p.kept) (sym (pis_skeleton π.to p.local p.family p.indices)) (subst (λ t. PatternFits (context_under (skeleton X) Γ) t p.kept) (sym (pis_skeleton π.to p.kept_local p.family p.kept_indices)) (p.places Γ));
        part = subst (IsPartOf (renumbered_locals π.to p.kept_local) (renumbered_locals π.to p.local)) kept_same part;
        same_target = subst (λ ρ. atom p.family (renumbered_spine π.to p.indices) ≡ rename_type ρ (atom p.family (renumbered_spine π.to p.kept_indices))) kept_same (ap (renumbered_type π.to) p.same_target ∙ renamed_type π.to (kept_renaming X X' p.kept) (atom p.family p.kept_indices));
        others_stay = λ i h. subst (λ ρ. InImage ρ i) kept_same (p.others_stay i h);
        is_lost = λ h. p.is_lost (subst (λ ρ. InImage ρ dropped) (sym kept_same) h);
      }

      pub pruned_same : (es : List Equation) (bs : List Binding) (fs : List Equation) (n' : ℕ) → renumbered_equations π.to es ≡ fs → renumbered_store π (pruned_store (record { metavariables = Ψ; bindings = bs; equations = es }) n dropped p n') ≡ pruned_store (record { metavariables = Φ₁; bindings = renumbered_bindings π.to bs; equations = fs }) (π.to n) dropped pruned_type_of (π.to n')
      pruned_same es bs fs n' e = store_same
          (set_types n' X' Ψ ∙ ap (λ A. set_at (π.to n') (Some A) Φ₁) (pis_over π.to p.kept_local (atom p.family p.kept_indices)))
          (ap (λ N. record { of = π.to n; value = N } ∷ renumbered_bindings π.to bs) (under_lambdas π.to (skeleton X) (root (metavariable n') (pattern (skeleton X') p.kept)) ∙ ap₂ (λ t T. lambdas_of t (root (metavariable (π.to n')) T)) (sym (pis_skeleton π.to p.local p.family p.indices)) (pattern_renumbered π.to (skeleton X') p.kept ∙ ap (λ t. pattern t p.kept) (sym (pis_skeleton π.to p.kept_local p.family p.kept_indices)))))
          e

    abbrev pub can_drop : (D : List LfType) (m : ℕ) (xs : List ℕ) (N : Term) → CanDrop Ψ D (skeletons_of Ψ m) xs N → CanDrop Φ₁ (renumbered_locals π.to D) (skeletons_of Φ₁ (π.to m)) xs (renumbered π.to N)
    can_drop D m xs N c = record {
      drop = must_drop D m xs N c.drop;
      dropped = c.dropped;
      is_place = ap₂ (λ t b. pattern_renaming t c.drop.ys (λ j. past_binders c.drop.depth (b j)) c.dropped) (skeleton_at π Ψ c.drop.m) (beyond_same π.to D) ∙ c.is_place;
      pruned = pruned_type_of c.drop.m c.dropped c.pruned;
    }

    abbrev pub can_agree : (D : List LfType) (m : ℕ) (xs : List ℕ) (N : Term) → CanAgree Ψ D m xs N → CanAgree Φ₁ (renumbered_locals π.to D) (π.to m) xs (renumbered π.to N)
    can_agree D m xs N c = record {
      same = same_metavariable D m xs N c.same;
      dropped = c.dropped;
      differ = λ e. c.differ (sym (ap (λ ρ. ρ c.dropped) (renaming_same D m xs)) ∙ e ∙ ap (λ ρ. ρ c.dropped) (renaming_same D m c.same.ys));
      pruned = pruned_type_of m c.dropped c.pruned;
    }

    -- what a binding avoids
    pub values_avoid : (reached : ℕ → Bool) (bs : List Binding) → ValuesIn (λ k. Holds (reached k)) bs → ValuesIn (λ k. Holds (reached (π.back k))) (renumbered_bindings π.to bs)
    values_avoid reached [] v = v
    values_avoid reached (b ∷ bs) (v, w) = ((λ h. in_renumbered (λ k. Holds (reached k)) (λ k. Holds (reached (π.back k))) π.to (λ m x. subst (λ k. Holds (reached k)) (sym (π.back_to m)) x) b.value (v (subst (λ k. Holds (reached k)) (π.back_to b.of) h))), values_avoid reached bs w)

    abbrev pub can_bind : (bs : List Binding) (D : List LfType) (m : ℕ) (xs : List ℕ) (N : Term) → CanBind Ψ bs D m xs N → CanBind Φ₁ (renumbered_bindings π.to bs) (renumbered_locals π.to D) (π.to m) xs (renumbered π.to N)
    can_bind bs D m xs N c = record {
      inverted = inverted D m xs N c.inverted;
      reached = λ k. c.reached (π.back k);
      avoids = (
        (λ k A h e. let (B, q, r) = declared_back π Ψ k A e in subst (MetavariablesInType (λ j. Holds (c.reached (π.back j)))) r (in_renumbered_type (λ j. Holds (c.reached j)) (λ j. Holds (c.reached (π.back j))) π.to (λ j x. subst (λ i. Holds (c.reached i)) (sym (π.back_to j)) x) B (c.avoids.0 (π.back k) B h q))),
        values_avoid c.reached bs c.avoids.1,
        (λ h. c.avoids.2 (subst (λ k. Holds (c.reached k)) (π.back_to m) h)),
      );
      within = in_renumbered (λ j. Holds (c.reached j)) (λ j. Holds (c.reached (π.back j))) π.to (λ j x. subst (λ i. Holds (c.reached i)) (sym (π.back_to j)) x) N c.within;
    }
