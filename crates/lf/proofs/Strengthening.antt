-- The strengthening lemma of totality: in a legal extension over S, and a context of W beside S, a term in whose type only families of
-- a self-contained set T within S occur uses only variables whose families are in T: so no single variable, and of the local
-- variables only those whose families are below its own.
use Rattle.std.proofs.Common.{◌≡◌, ℕ, zero, suc, List, ◌∷◌, refl, sym, ap, ◌∙◌, subst, inl, inr, true≢false}
use Rattle.std.specs.Prelude.{Bool, true}
use Rattle.lf.specs.Syntax.{Term, LfType}
use Rattle.lf.specs.Substitution.{Image, substitute_type, reduce}
use Rattle.lf.specs.Typing.{Signature, TypeAt, HasType}
use Rattle.lf.specs.Variables.{target, FamiliesIn, Uses, Within}
use Rattle.lf.specs.Subordination.{Block, Member, Below, below_through, SelfContained, IsBelowTest}
use Rattle.lf.specs.Worlds.{World, OpenInstance, no_variables, single_variable, whole_instance, begin_instance, next_entry, single_beside}
use Rattle.lf.specs.Extension.{Extends}
use Rattle.lf.proofs.Target.{target_of}
use Rattle.lf.proofs.Target.{target_renamed}
use Rattle.lf.proofs.Strength.{families_renamed, families_substituted, uses_only}

-- in a context of worlds, the types of the variables of T have only families of T
abbrev pub TypesIn : (ℕ → Bool) → List LfType → Type 0
TypesIn T G = (i : ℕ) (A : LfType) → TypeAt G i A → T (target A) ≡ true → FamiliesIn T A

types_push : (T : ℕ → Bool) (G : List LfType) (X : LfType) → (T (target X) ≡ true → FamiliesIn T X) → TypesIn T G → TypesIn T (X ∷ G)
types_push T G X x h zero A e t = subst (FamiliesIn T) (sym e) (families_renamed T suc X (x (subst (λ f. T f ≡ true) (ap target e ∙ target_renamed suc X) t)))
types_push T G X x h (suc i) A (C, g, e) t = subst (FamiliesIn T) (sym e) (families_renamed T suc C (h i C g (subst (λ f. T f ≡ true) (ap target e ∙ target_renamed suc C) t)))

module _ (Σ : Signature) (W : List Block) (S T : ℕ → Bool) (less : Within T S) (entries_in : (B : Block) (E : LfType) → Member B W → Member E B.entries → T (target E) ≡ true → FamiliesIn T E) where
  mutual
    pub world_types : {G : List LfType} → World Σ W S G → TypesIn T G
    world_types no_variables i A g t = absurd g
    world_types (single_variable {G = G} {A = X} w x n) i A g t = types_push T G X (λ q. absurd (true≢false (sym (less (target X) q) ∙ n))) (world_types w) i A g t
    world_types (whole_instance B m e o) i A g t = open_types (λ E j. entries_in B E m (subst (Member E) e j)) o i A g t

    open_types : {B : Block} {G es : List LfType} {θ : ℕ → Image} → ((E : LfType) → Member E es → T (target E) ≡ true → FamiliesIn T E) → OpenInstance Σ W S B G es θ → TypesIn T G
    open_types h (begin_instance w v) i A g t = world_types w i A g t
    open_types h (next_entry {G = G} {θ = θ} E o x) i A g t = types_push T G (substitute_type reduce θ E) (λ q. families_substituted T reduce θ E (h E (inl refl) (subst (λ f. T f ≡ true) (target_of reduce θ E) q))) (open_types (λ F j. h F (inr j)) o) i A g t
    open_types h (single_beside {G = G} {A = X} o x n) i A g t = types_push T G X (λ q. absurd (true≢false (sym (less (target X) q) ∙ n))) (open_types h o) i A g t

-- THE lemma
pub strengthening : (Σ Σ' : Signature) (W : List Block) (S T : ℕ → Bool) → Within T S → SelfContained Σ W T → Extends S Σ Σ' → (G : List LfType) → World Σ' W S G → (U : ℕ → Bool) → ((i : ℕ) (A : LfType) → TypeAt G i A → T (target A) ≡ true → U i ≡ true) → (M : Term) (A : LfType) → FamiliesIn T A → HasType Σ' G M A → Uses U M
strengthening Σ Σ' W S T less sc x G w U h M A f m = uses_only Σ' T (λ c B e t. sc.types_in c B (x.no_new c B e (less (target B) t)) t) U G M A (λ i B g t. (h i B g t, world_types Σ' W S T less sc.entries_in w i B g t)) f m

-- at the families below one family o, which is below a
pub strengthening_below : (Σ Σ' : Signature) (W : List Block) (S T : ℕ → Bool) (a o : ℕ) → IsBelowTest Σ W S a → IsBelowTest Σ W T o → SelfContained Σ W T → Below Σ W o a → Extends S Σ Σ' → (G : List LfType) → World Σ' W S G → (U : ℕ → Bool) → ((i : ℕ) (A : LfType) → TypeAt G i A → T (target A) ≡ true → U i ≡ true) → (M : Term) (A : LfType) → FamiliesIn T A → HasType Σ' G M A → Uses U M
strengthening_below Σ Σ' W S T a o s t sc p x G w U h M A f m = strengthening Σ Σ' W S T (λ f q. (s f).1 (below_through ((t f).0 q) p)) sc x G w U h M A f m
