-- A legal extension over S adds no term of a type within S.
use Rattle.std.proofs.Common.{◌≡◌, ℕ, zero, suc, List, ◌∷◌, Some, Bool, true, sym, ap, ◌∙◌, subst}
use Rattle.lf.specs.Syntax.{constant, variable, metavariable, Term, Spine, lambda, root, nil, app, LfType, pi, atom, skeleton}
use Rattle.lf.specs.Substitution.{single, reduce}
use Rattle.lf.specs.Typing.{Signature, instantiate_type, HasType, SpineType}
use Rattle.lf.specs.Variables.{target, FamiliesIn}
use Rattle.lf.specs.Subordination.{Block, SelfContained}
use Rattle.lf.specs.Extension.{Extends}
use Rattle.lf.specs.Worlds.{World}
use Rattle.lf.proofs.Target.{target_of, target_renamed}
use Rattle.lf.proofs.Strength.{families_renamed, families_substituted}
use Rattle.lf.proofs.Strengthening.{TypesIn, world_types}

some_inj : {X : Type 0} {x y : X} → Some x ≡ Some y → x ≡ y
some_inj e = cc

pub spine_target : (Σ : Signature) (G : List LfType) (T : Spine) (A C : LfType) → SpineType Σ G T A C → target A ≡ target C
spine_target Σ G nil A C e = ap target e
spine_target Σ G (app M T) (pi A B) C (m, r) = sym (target_of reduce (single (skeleton A) M) B) ∙ spine_target Σ G T (instantiate_type A M B) C r
spine_target Σ G (app M T) (atom a U) C r = absurd r

module _ (Σ Σ' : Signature) (W : List Block) (S : ℕ → Bool) (x : Extends S Σ Σ') (c : SelfContained Σ W S) where
  pub SelfContained-extends : SelfContained Σ' W S
  SelfContained-extends = record {
    declared = λ a s. let (K, g) = c.declared a s in (K, x.kinds_stay a K g);
    kinds_in = λ a K h s. let (K', g) = c.declared a s in c.kinds_in a K (g ∙ ap Some (some_inj (sym (x.kinds_stay a K' g) ∙ h))) s;
    types_in = λ k A h s. c.types_in k A (x.no_new k A h s) s;
    entries_in = c.entries_in;
  }

  push : (G : List LfType) (A : LfType) → FamiliesIn S A → TypesIn S G → TypesIn S (A ∷ G)
  push G A a g zero X h s = subst (FamiliesIn S) (sym h) (families_renamed S suc A a)
  push G A a g (suc i) X (C, h, f) s = subst (FamiliesIn S) (sym f) (families_renamed S suc C (g i C h (subst (λ f. S f ≡ true) (ap target f ∙ target_renamed suc C) s)))

  mutual
    pub conserve : (G : List LfType) (M : Term) (A : LfType) → TypesIn S G → FamiliesIn S A → HasType Σ' G M A → HasType Σ G M A
    conserve G (lambda M) (pi A B) g (a, b) m = conserve (A ∷ G) M B (push G A a g) b m
    conserve G (lambda M) (atom a T) g w m = m
    conserve G (root h U) (pi A B) g w m = m
    conserve G (root (constant k) U) (atom a T) g w (A, h, s) =
        let t : S (target A) ≡ true = subst (λ f. S f ≡ true) (sym (spine_target Σ' G U A (atom a T) s)) w in
        let o : Σ.types k ≡ Some A = x.no_new k A h t in
        (A, o, conserve_spine G U A (atom a T) g (c.types_in k A o t) s)
    conserve G (root (metavariable m) U) (atom a T) g w (A, h, s) = absurd h
    conserve G (root (variable i) U) (atom a T) g w (A, h, s) =
        (A, h, conserve_spine G U A (atom a T) g (g i A h (subst (λ f. S f ≡ true) (sym (spine_target Σ' G U A (atom a T) s)) w)) s)

    pub conserve_spine : (G : List LfType) (U : Spine) (A C : LfType) → TypesIn S G → FamiliesIn S A → SpineType Σ' G U A C → SpineType Σ G U A C
    conserve_spine G nil A C g w s = s
    conserve_spine G (app M U) (pi A B) C g (a, b) (m, s) = (conserve G M A g a m, conserve_spine G U (instantiate_type A M B) C g (families_substituted S reduce (single (skeleton A) M) B b) s)
    conserve_spine G (app M U) (atom a T) C g w s = s

  -- THE theorem: what is typed within S in a context of the extension's worlds is typed over the first signature
  pub conservative : (G : List LfType) → World Σ' W S G → (M : Term) (A : LfType) → FamiliesIn S A → HasType Σ' G M A → HasType Σ G M A
  conservative G w M A a m = conserve G M A (world_types Σ' W S S (λ f s. s) c.entries_in w) a m
