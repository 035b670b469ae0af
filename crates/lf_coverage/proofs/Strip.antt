-- A context without the variables whose families are outside a self-contained set: over the first signature, what is typed in the extension by
-- families of the set is typed there.
use Rattle.std.proofs.Common.{◌≡◌, ℕ, zero, suc, List, [], ◌∷◌, refl, sym, ap, ◌∙◌, subst, true≢false}
use Rattle.std.specs.Prelude.{Bool, true, false, cond}
use Rattle.lf.specs.Syntax.{Term, Spine, nil, app, LfType, Kind, pi, atom, kind_pi, star, skeleton, weaken, rename, rename_spine, rename_type, rename_kind, lift_renaming}
use Rattle.lf.specs.Substitution.{keep, single, substitute_kind, reduce}
use Rattle.lf.specs.Typing.{Signature, TypeAt, HasType, SpineFitsKind, IsType, IsContext, IsSignature, IsTypedRenaming, instantiate_kind}
use Rattle.lf.specs.Variables.{target, FamiliesIn, KindFamiliesIn, under, Uses, UsesSpine, UsesType, IsTypedRenamingOn}
use Rattle.lf.specs.Subordination.{Block, SelfContained}
use Rattle.lf.specs.Extension.{Extends}
use Rattle.lf.proofs.Agreement.{agree_on, agree_on_type}
use Rattle.lf.proofs.Closed.{closed_kind_renamed}
use Rattle.lf.proofs.Conservativity.{SelfContained-extends, conserve}
use Rattle.lf.proofs.ExtensionTyping.{extension_keeps_typing}
use Rattle.lf.proofs.Renaming.{renamings_compose, substitute_identity}
use Rattle.lf.proofs.Strength.{families_renamed, families_substituted, uses_only, Rich, strengthening_keeps_typing}
use Rattle.lf.proofs.Strengthening.{TypesIn}
use Rattle.lf.proofs.Target.{target_renamed}
use Rattle.lf.proofs.TypeLaws.{renamings_compose_type, rename_weakened, rename_single_kind, skeleton_renamed, substitution_as_renaming, substitution_as_renaming_type, substitute_identity_type}
use Rattle.lf.proofs.Weakening.{renaming_keeps_typing}
use Rattle.lf_cases.specs.Case.{past_place}
use Rattle.lf_coverage.proofs.Parts.{some_same}

-- the variables whose families are in the set
abbrev pub in_set : (ℕ → Bool) → List LfType → ℕ → Bool
in_set S [] i = false
in_set S (A ∷ G) zero = S (target A)
in_set S (A ∷ G) (suc i) = in_set S G i

-- the number of a variable without the others, and back
abbrev pub out_of : (ℕ → Bool) → List LfType → ℕ → ℕ
out_of S [] = λ i. i
out_of S (A ∷ G) = cond (S (target A)) (lift_renaming (out_of S G)) (past_place (out_of S G))

abbrev pub into : (ℕ → Bool) → List LfType → ℕ → ℕ
into S [] = λ i. i
into S (A ∷ G) = cond (S (target A)) (lift_renaming (into S G)) (λ i. suc (into S G i))

-- the context without the others
abbrev pub strip : (ℕ → Bool) → List LfType → List LfType
strip S [] = []
strip S (A ∷ G) = cond (S (target A)) (rename_type (out_of S G) A ∷ strip S G) (strip S G)

pub into_out : (S : ℕ → Bool) (G : List LfType) (i : ℕ) → in_set S G i ≡ true → into S G (out_of S G i) ≡ i
into_out S [] i e = absurd (true≢false (sym e))
into_out S (A ∷ G) i e = by (S (target A)) refl i e (λ k. into_out S G k)
  where
    by : (b : Bool) → S (target A) ≡ b → (i : ℕ) → in_set S (A ∷ G) i ≡ true → ((k : ℕ) → in_set S G k ≡ true → into S G (out_of S G k) ≡ k) → cond b (lift_renaming (into S G)) (λ i. suc (into S G i)) (cond b (lift_renaming (out_of S G)) (past_place (out_of S G)) i) ≡ i
    by true q zero e h = refl
    by true q (suc i) e h = ap suc (h i e)
    by false q zero e h = absurd (true≢false (sym e ∙ q))
    by false q (suc i) e h = ap suc (h i e)

-- there and back
pub renamed_back : (S : ℕ → Bool) (G : List LfType) (M : Term) → Uses (in_set S G) M → rename (into S G) (rename (out_of S G) M) ≡ M
renamed_back S G M u = renamings_compose (into S G) (out_of S G) M ∙ sym (substitution_as_renaming reduce (λ i. into S G (out_of S G i)) M) ∙ agree_on reduce (in_set S G) (λ i. keep (into S G (out_of S G i))) keep M (λ i e. ap keep (into_out S G i e)) u ∙ substitute_identity reduce M

renamed_back_type : (S : ℕ → Bool) (G : List LfType) (A : LfType) → UsesType (in_set S G) A → rename_type (into S G) (rename_type (out_of S G) A) ≡ A
renamed_back_type S G A u = renamings_compose_type (into S G) (out_of S G) A ∙ sym (substitution_as_renaming_type reduce (λ i. into S G (out_of S G i)) A) ∙ agree_on_type reduce (in_set S G) (λ i. keep (into S G (out_of S G i))) keep A (λ i e. ap keep (into_out S G i e)) u ∙ substitute_identity_type reduce A

-- the variables of the set keep their types
pub out_typed : (S : ℕ → Bool) (G : List LfType) → IsTypedRenamingOn (in_set S G) G (strip S G) (out_of S G)
out_typed S [] i A g u = absurd g
out_typed S (X ∷ G) i A g u = by (S (target X)) refl i A g u (λ k B h v. out_typed S G k B h v)
  where
    by : (b : Bool) → S (target X) ≡ b → (i : ℕ) (A : LfType) → TypeAt (X ∷ G) i A → in_set S (X ∷ G) i ≡ true → IsTypedRenamingOn (in_set S G) G (strip S G) (out_of S G) → TypeAt (cond b (rename_type (out_of S G) X ∷ strip S G) (strip S G)) (cond b (lift_renaming (out_of S G)) (past_place (out_of S G)) i) (rename_type (cond b (lift_renaming (out_of S G)) (past_place (out_of S G))) A)
    by true q zero A e u h = ap (rename_type (lift_renaming (out_of S G))) e ∙ rename_weakened (out_of S G) X
    by true q (suc i) A (C, g, e) u h = (rename_type (out_of S G) C, h i C g u, ap (rename_type (lift_renaming (out_of S G))) e ∙ rename_weakened (out_of S G) C)
    by false q zero A e u h = absurd (true≢false (sym u ∙ q))
    by false q (suc i) A (C, g, e) u h = subst (TypeAt (strip S G) (out_of S G i)) (sym (ap (rename_type (past_place (out_of S G))) e ∙ renamings_compose_type (past_place (out_of S G)) suc C)) (h i C g u)

pub under_binder : (U : ℕ → Bool) (G D : List LfType) (ρ : ℕ → ℕ) (B : LfType) → IsTypedRenamingOn U G D ρ → IsTypedRenamingOn (under U) (B ∷ G) (rename_type ρ B ∷ D) (lift_renaming ρ)
under_binder U G D ρ B h zero A e u = ap (rename_type (lift_renaming ρ)) e ∙ rename_weakened ρ B
under_binder U G D ρ B h (suc i) A (C, g, e) u = (rename_type ρ C, h i C g u, ap (rename_type (lift_renaming ρ)) e ∙ rename_weakened ρ C)

rich_push : (S U : ℕ → Bool) (G : List LfType) (B : LfType) → FamiliesIn S B → Rich S U G → Rich S (under U) (B ∷ G)
rich_push S U G B b h zero A e s = (refl, subst (FamiliesIn S) (sym e) (families_renamed S suc B b))
rich_push S U G B b h (suc i) A (C, g, e) s = let (u, f) = h i C g (ap S (sym (ap target e ∙ target_renamed suc C)) ∙ s) in (u, subst (FamiliesIn S) (sym e) (families_renamed S suc C f))

-- types in the smaller context
module _ (Σ : Signature) (ok : IsSignature Σ) where
  kind_strengthened : (U : ℕ → Bool) (G D : List LfType) (ρ : ℕ → ℕ) (T : Spine) (K : Kind) → IsTypedRenamingOn U G D ρ → UsesSpine U T → SpineFitsKind Σ G T K → SpineFitsKind Σ D (rename_spine ρ T) (rename_kind ρ K)
  kind_strengthened U G D ρ nil (kind_pi A K) w u s = absurd s
  kind_strengthened U G D ρ nil star w u s = tt
  kind_strengthened U G D ρ (app M T) (kind_pi A K) w (u, v) (m, s) = (strengthening_keeps_typing Σ ok U G D ρ M A w u m, subst (SpineFitsKind Σ D (rename_spine ρ T)) (rename_single_kind ρ (skeleton A) M K ∙ ap (λ t. substitute_kind reduce (single t (rename ρ M)) (rename_kind (lift_renaming ρ) K)) (sym (skeleton_renamed ρ A))) (kind_strengthened U G D ρ T (instantiate_kind A M K) w v s))
  kind_strengthened U G D ρ (app M T) star w u s = absurd s

  type_strengthened : (U : ℕ → Bool) (G D : List LfType) (ρ : ℕ → ℕ) (A : LfType) → IsTypedRenamingOn U G D ρ → UsesType U A → IsType Σ G A → IsType Σ D (rename_type ρ A)
  type_strengthened U G D ρ (pi A B) w (u, v) (a, b) = (type_strengthened U G D ρ A w u a, type_strengthened (under U) (A ∷ G) (rename_type ρ A ∷ D) (lift_renaming ρ) B (under_binder U G D ρ A w) v b)
  type_strengthened U G D ρ (atom a T) w u (K, e, s) = (K, e, subst (SpineFitsKind Σ D (rename_spine ρ T)) (closed_kind_renamed Σ ρ K (ok.kinds_ok a K e)) (kind_strengthened U G D ρ T K w u s))

pub kind_substituted : (S : ℕ → Bool) (A : LfType) (M : Term) (K : Kind) → KindFamiliesIn S K → KindFamiliesIn S (instantiate_kind A M K)
kind_substituted S A M K h = by (single (skeleton A) M) K h
  where
    by : (σ : ℕ → Rattle.lf.specs.Substitution.Image) (K : Kind) → KindFamiliesIn S K → KindFamiliesIn S (substitute_kind reduce σ K)
    by σ (kind_pi A K) (a, k) = (families_substituted S reduce σ A a, by (Rattle.lf.specs.Substitution.lift σ) K k)
    by σ star k = tt

module _ (Σ Σ' : Signature) (W : List Block) (S : ℕ → Bool) (x : Extends S Σ Σ') (c : SelfContained Σ W S) where
  c' : SelfContained Σ' W S
  c' = SelfContained-extends Σ Σ' W S x c

  push : (G : List LfType) (A : LfType) → FamiliesIn S A → TypesIn S G → TypesIn S (A ∷ G)
  push G A a g zero X h s = subst (FamiliesIn S) (sym h) (families_renamed S suc A a)
  push G A a g (suc i) X (C, h, f) s = subst (FamiliesIn S) (sym f) (families_renamed S suc C (g i C h (subst (λ f. S f ≡ true) (ap target f ∙ target_renamed suc C) s)))

  -- a type by families of the set uses variables of the set alone
  places_use : (U : ℕ → Bool) (G : List LfType) (T : Spine) (K : Kind) → Rich S U G → KindFamiliesIn S K → SpineFitsKind Σ' G T K → UsesSpine U T
  places_use U G nil K h k s = tt
  places_use U G (app M T) (kind_pi A K) h (a, k) (m, s) = (uses_only Σ' S (c'.types_in) U G M A h a m, places_use U G T (instantiate_kind A M K) h (kind_substituted S A M K k) s)
  places_use U G (app M T) star h k s = absurd s

  pub type_uses : (U : ℕ → Bool) (G : List LfType) (A : LfType) → Rich S U G → FamiliesIn S A → IsType Σ' G A → UsesType U A
  type_uses U G (pi A B) h (a, b) (t, u) = (type_uses U G A h a t, type_uses (under U) (A ∷ G) B (rich_push S U G A a h) b u)
  type_uses U G (atom a T) h f (K, e, s) = places_use U G T K h (c'.kinds_in a K e f) s

  -- and it is a type over the first signature
  places_conserved : (G : List LfType) (T : Spine) (K : Kind) → TypesIn S G → KindFamiliesIn S K → SpineFitsKind Σ' G T K → SpineFitsKind Σ G T K
  places_conserved G nil (kind_pi A K) g k s = absurd s
  places_conserved G nil star g k s = tt
  places_conserved G (app M T) (kind_pi A K) g (a, k) (m, s) = (conserve Σ Σ' W S x c G M A g a m, places_conserved G T (instantiate_kind A M K) g (kind_substituted S A M K k) s)
  places_conserved G (app M T) star g k s = absurd s

  type_conserved : (G : List LfType) (A : LfType) → TypesIn S G → FamiliesIn S A → IsType Σ' G A → IsType Σ G A
  type_conserved G (pi A B) g (a, b) (t, u) = (type_conserved G A g a t, type_conserved (A ∷ G) B (push G A a g) b u)
  type_conserved G (atom a T) g f (K, e, s) =
      let (L, l) = c.declared a f in
      let q : K ≡ L = some_same (sym e ∙ x.kinds_stay a L l) in
      (L, l, places_conserved G T L g (c.kinds_in a L l f) (subst (SpineFitsKind Σ' G T) q s))

  rich : (G : List LfType) → TypesIn S G → Rich S (in_set S G) G
  rich G h i A g t = (in_at G i A g t, h i A g t)
    where
      in_at : (G : List LfType) (i : ℕ) (A : LfType) → TypeAt G i A → S (target A) ≡ true → in_set S G i ≡ true
      in_at [] i A g t = absurd g
      in_at (X ∷ G) zero A e t = ap S (sym (ap target e ∙ target_renamed suc X)) ∙ t
      in_at (X ∷ G) (suc i) A (C, g, e) t = in_at G i C g (ap S (sym (ap target e ∙ target_renamed suc C)) ∙ t)

  tail_types : (X : LfType) (G : List LfType) → TypesIn S (X ∷ G) → TypesIn S G
  tail_types X G h i A g t = unrenamed suc A (h (suc i) (weaken A) (A, g, refl) (ap S (target_renamed suc A) ∙ t))
    where
      unrenamed : (ρ : ℕ → ℕ) (A : LfType) → FamiliesIn S (rename_type ρ A) → FamiliesIn S A
      unrenamed ρ (pi A B) (a, b) = (unrenamed ρ A a, unrenamed (lift_renaming ρ) B b)
      unrenamed ρ (atom a T) h = h

  first_type : (X : LfType) (G : List LfType) → TypesIn S (X ∷ G) → S (target X) ≡ true → FamiliesIn S X
  first_type X G h t = unrenamed suc X (h zero (weaken X) refl (ap S (target_renamed suc X) ∙ t))
    where
      unrenamed : (ρ : ℕ → ℕ) (A : LfType) → FamiliesIn S (rename_type ρ A) → FamiliesIn S A
      unrenamed ρ (pi A B) (a, b) = (unrenamed ρ A a, unrenamed (lift_renaming ρ) B b)
      unrenamed ρ (atom a T) h = h

  stripped_types : (G : List LfType) → TypesIn S G → TypesIn S (strip S G)
  stripped_types [] h = λ i A g t. absurd g
  stripped_types (X ∷ G) h = by (S (target X)) refl (stripped_types G (tail_types X G h))
    where
      by : (b : Bool) → S (target X) ≡ b → TypesIn S (strip S G) → TypesIn S (cond b (rename_type (out_of S G) X ∷ strip S G) (strip S G))
      by true q r = push (strip S G) (rename_type (out_of S G) X) (families_renamed S (out_of S G) X (first_type X G h q)) r
      by false q r = r

  -- The smaller context is one over the first signature, and a part of the whole.
  pub stripped : (G : List LfType) → IsContext Σ' G → TypesIn S G → IsContext Σ (strip S G) × IsTypedRenaming (strip S G) G (into S G)
  stripped [] k h = (tt, λ i A g. absurd g)
  stripped (X ∷ G) (k, t) h = by (S (target X)) refl (stripped G k (tail_types X G h))
    where
      by : (b : Bool) → S (target X) ≡ b → IsContext Σ (strip S G) × IsTypedRenaming (strip S G) G (into S G) → IsContext Σ (cond b (rename_type (out_of S G) X ∷ strip S G) (strip S G)) × IsTypedRenaming (cond b (rename_type (out_of S G) X ∷ strip S G) (strip S G)) (X ∷ G) (cond b (lift_renaming (into S G)) (λ i. suc (into S G i)))
      by false q (d, r) = (d, λ i A g. (rename_type (into S G) A, r i A g, sym (renamings_compose_type suc (into S G) A)))
      by true q (d, r) =
          let f : FamiliesIn S X = first_type X G h q in
          let u : UsesType (in_set S G) X = type_uses (in_set S G) G X (rich G (tail_types X G h)) f t in
          let s : IsType Σ' (strip S G) (rename_type (out_of S G) X) = type_strengthened Σ' x.ok (in_set S G) G (strip S G) (out_of S G) X (out_typed S G) u t in
          ((d, type_conserved (strip S G) (rename_type (out_of S G) X) (stripped_types G (tail_types X G h)) (families_renamed S (out_of S G) X f) s), place u r)
        where
          place : UsesType (in_set S G) X → IsTypedRenaming (strip S G) G (into S G) → IsTypedRenaming (rename_type (out_of S G) X ∷ strip S G) (X ∷ G) (lift_renaming (into S G))
          place u r zero A e = ap (rename_type (lift_renaming (into S G))) e ∙ rename_weakened (into S G) (rename_type (out_of S G) X) ∙ ap weaken (renamed_back_type S G X u)
          place u r (suc i) A (C, g, e) = (rename_type (into S G) C, r i C g, ap (rename_type (lift_renaming (into S G))) e ∙ rename_weakened (into S G) C)

  -- So are terms of its families.
  pub term_stripped : (G : List LfType) → TypesIn S G → (N : Term) (A : LfType) → FamiliesIn S A → HasType Σ' G N A → HasType Σ (strip S G) (rename (out_of S G) N) (rename_type (out_of S G) A) × (rename (into S G) (rename (out_of S G) N) ≡ N)
  term_stripped G h N A f n =
      let u : Uses (in_set S G) N = uses_only Σ' S (c'.types_in) (in_set S G) G N A (rich G h) f n in
      (conserve Σ Σ' W S x c (strip S G) (rename (out_of S G) N) (rename_type (out_of S G) A) (stripped_types G h) (families_renamed S (out_of S G) A f) (strengthening_keeps_typing Σ' x.ok (in_set S G) G (strip S G) (out_of S G) N A (out_typed S G) u n), renamed_back S G N u)

  -- and back
  pub term_back : (G : List LfType) → IsContext Σ' G → TypesIn S G → (N : Term) (A : LfType) → HasType Σ (strip S G) N A → HasType Σ' G (rename (into S G) N) (rename_type (into S G) A)
  term_back G k h N A n = renaming_keeps_typing Σ' x.ok (strip S G) G (into S G) N A ((stripped G k h).1) (extension_keeps_typing S Σ Σ' x (strip S G) N A n)
