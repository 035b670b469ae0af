-- Contexts of worlds: they are typed; they serve for a callee.
use Rattle.std.proofs.Common.{◌≡◌, ℕ, List, refl, sym, ap, ◌∙◌, subst, inl, inr, true≢false}
use Rattle.std.specs.Prelude.{◌⊎◌, Bool, true, false}
use Rattle.lf.specs.Syntax.{LfType}
use Rattle.lf.specs.Substitution.{Image, reduce}
use Rattle.lf.specs.Typing.{Signature, IsContext}
use Rattle.lf.specs.Variables.{target, Within}
use Rattle.lf.specs.Subordination.{Block, Member}
use Rattle.lf.specs.Worlds.{World, OpenInstance, no_variables, single_variable, whole_instance, begin_instance, next_entry, single_beside}
use Rattle.lf.proofs.Target.{target_of}

-- a context of worlds is typed
mutual
  pub world_is_context : {Σ : Signature} {W : List Block} {S : ℕ → Bool} {G : List LfType} → World Σ W S G → IsContext Σ G
  world_is_context no_variables = tt
  world_is_context (single_variable w t n) = (world_is_context w, t)
  world_is_context (whole_instance B i e o) = Open-ok o

  pub Open-ok : {Σ : Signature} {W : List Block} {S : ℕ → Bool} {B : Block} {G es : List LfType} {θ : ℕ → Image} → OpenInstance Σ W S B G es θ → IsContext Σ G
  Open-ok (begin_instance w v) = world_is_context w
  Open-ok (next_entry E o t) = (Open-ok o, t)
  Open-ok (single_beside o t n) = (Open-ok o, t)

-- outside the greater set is outside the lesser
pub outside_within : (S T : ℕ → Bool) (f : ℕ) → Within T S → S f ≡ false → T f ≡ false
outside_within S T f less n = go (T f) refl
  where
    go : (b : Bool) → T f ≡ b → b ≡ false
    go true e = absurd (true≢false (sym (less f e) ∙ n))
    go false e = refl

-- A context of W beside S is one of V beside T, where T lies in S, and each block of W is one of V or has no entry in T.
module _ (Σ : Signature) (W V : List Block) (S T : ℕ → Bool) (less : Within T S) (fits : (B : Block) → Member B W → Member B V ⊎ ((E : LfType) → Member E B.entries → T (target E) ≡ false)) where
  closed_up : {G es : List LfType} {θ : ℕ → Image} (B : Block) → es ≡ B.entries → OpenInstance Σ V T B G es θ → (((E : LfType) → Member E es → T (target E) ≡ false) → World Σ V T G) → Member B V ⊎ ((E : LfType) → Member E B.entries → T (target E) ≡ false) → World Σ V T G
  closed_up B e o f (inl i) = whole_instance B i e o
  closed_up B e o f (inr n) = f (λ E i. n E (subst (Member E) e i))

  mutual
    pub world_for_callee : {G : List LfType} → World Σ W S G → World Σ V T G
    world_for_callee no_variables = no_variables
    world_for_callee (single_variable w t n) = single_variable (world_for_callee w) t (outside_within S T _ less n)
    world_for_callee (whole_instance B i e o) = closed_up B e (Open-callee o) (λ k. Open-single k o) (fits B i)

    Open-callee : {B : Block} {G es : List LfType} {θ : ℕ → Image} → OpenInstance Σ W S B G es θ → OpenInstance Σ V T B G es θ
    Open-callee (begin_instance w v) = begin_instance (world_for_callee w) v
    Open-callee (next_entry E o t) = next_entry E (Open-callee o) t
    Open-callee (single_beside o t n) = single_beside (Open-callee o) t (outside_within S T _ less n)

    Open-single : {B : Block} {G es : List LfType} {θ : ℕ → Image} → ((E : LfType) → Member E es → T (target E) ≡ false) → OpenInstance Σ W S B G es θ → World Σ V T G
    Open-single k (begin_instance w v) = world_for_callee w
    Open-single k (next_entry E o t) = single_variable (Open-single (λ F i. k F (inr i)) o) t (ap T (target_of reduce _ E) ∙ k E (inl refl))
    Open-single k (single_beside o t n) = single_variable (Open-single k o) t (outside_within S T _ less n)
