-- The arguments of a head use only the variables whose families are below their own.
use Rattle.std.proofs.Common.{◌≡◌, ℕ, zero, suc, List, [], ◌∷◌, sym, ap, ◌∙◌, subst}
use Rattle.std.specs.Prelude.{Bool, true}
use Rattle.lf.specs.Syntax.{Spine, nil, app, LfType, pi, atom, Kind, kind_pi, star, skeleton}
use Rattle.lf.specs.Substitution.{Image, single, lift, substitute_type, reduce}
use Rattle.lf.specs.Typing.{Signature, SpineType, IsType, IsContext, instantiate_type}
use Rattle.lf.specs.Variables.{target, onto, binders, FamiliesIn, KindFamiliesIn, Within}
use Rattle.lf.specs.Subordination.{Block, SelfContained}
use Rattle.lf.specs.Worlds.{World}
use Rattle.lf.specs.Extension.{Extends}
use Rattle.lf.proofs.Conservativity.{SelfContained-extends}
use Rattle.lf.proofs.ExtensionTyping.{extension_over_less}
use Rattle.lf.proofs.Strength.{families_renamed, families_substituted, family_target}
use Rattle.lf.proofs.Strengthening.{TypesIn, world_types}
use Rattle.lf.proofs.Substitution.{instance_is_type}
use Rattle.lf.proofs.Target.{target_renamed, target_of}
use Rattle.lf_checks.specs.Below.{IsSubordination}
use Rattle.lf_checks.specs.Marks.{output_places}
use Rattle.lf_checks.specs.Tests.{both}
use Rattle.lf_cases.specs.Raised.{LowPlaces, low}
use Rattle.lf.proofs.Agreement.{uses_within}
use Rattle.lf.proofs.Checker.{both_of}
use Rattle.lf_checks.proofs.EtaTest.{both_l, both_r}
use Rattle.lf_cases.specs.Reached.{arguments_count}
use Rattle.lf_cases.proofs.Raised.{uses_low}
use Rattle.lf_coverage.specs.Heads.{ArgumentsAreBelow}
use Rattle.lf_coverage.proofs.HeadItems.{type_kind, outputs, kind_substituted, count_substituted}
use Rattle.lf_coverage.proofs.Parts.{suc_same}

pub families_within : (S T : ℕ → Bool) → Within S T → (A : LfType) → FamiliesIn S A → FamiliesIn T A
families_within S T w (pi A B) (a, b) = (families_within S T w A a, families_within S T w B b)
families_within S T w (atom a U) h = w a h

pub below_substituted : (below : ℕ → ℕ → Bool) (σ : ℕ → Image) (A : LfType) → ArgumentsAreBelow below A → ArgumentsAreBelow below (substitute_type reduce σ A)
below_substituted below σ (pi A B) (a, b) = (subst (λ t. FamiliesIn (below t) (substitute_type reduce σ A)) (sym (target_of reduce σ A)) (families_substituted (below (target A)) reduce σ A a), below_substituted below (lift σ) B b)
below_substituted below σ (atom a T) h = tt

module _ (Σ : Signature) (W : List Block) (below : ℕ → ℕ → Bool) (s : IsSubordination Σ W below) (Low : ℕ → Bool) (sc : SelfContained Σ W Low) (Σ' : Signature) (x : Extends Low Σ Σ') where
  -- the families of the set that are below g
  abbrev pub part : ℕ → ℕ → Bool
  part g a = both (Low a) (below g a)

  pub part_low : (g : ℕ) → Within (part g) Low
  part_low g a e = both_l (Low a) (below g a) e

  part_below : (g : ℕ) → Within (part g) (below g)
  part_below g a e = both_r (Low a) (below g a) e

  part_through : (g f : ℕ) → part g f ≡ true → Within (part f) (part g)
  part_through g f e a h = both_of (Low a) (below g a) (part_low f a h) (s.through g f (part_below g f e) a (part_below f a h))

  pub part_itself : (g : ℕ) → Low g ≡ true → part g g ≡ true
  part_itself g b = both_of (Low g) (below g g) b (s.itself g)

  in_part : (g : ℕ) (A : LfType) → FamiliesIn Low A → FamiliesIn (below g) A → FamiliesIn (part g) A
  in_part g (pi A B) (a, b) (c, d) = (in_part g A a c, in_part g B b d)
  in_part g (atom a S) h k = both_of (Low a) (below g a) h k

  kind_in_part : (g : ℕ) (K : Kind) → KindFamiliesIn Low K → KindFamiliesIn (below g) K → KindFamiliesIn (part g) K
  kind_in_part g (kind_pi A K) (a, b) (c, d) = (in_part g A a c, kind_in_part g K b d)
  kind_in_part g star h k = tt

  part_contained : (g : ℕ) → Low g ≡ true → SelfContained Σ W (part g)
  part_contained g b =
      let sg : SelfContained Σ W (below g) = s.self_contained g (sc.declared g b) in
      record {
        declared = λ a e. sc.declared a (part_low g a e);
        kinds_in = λ a K k e. kind_in_part g K (sc.kinds_in a K k (part_low g a e)) (sg.kinds_in a K k (part_below g a e));
        types_in = λ c A k e. in_part g A (sc.types_in c A k (part_low g (target A) e)) (sg.types_in c A k (part_below g (target A) e));
        entries_in = λ B E m k e. in_part g E (sc.entries_in B E m k (part_low g (target E) e)) (sg.entries_in B E m k (part_below g (target E) e));
      }

  -- the types in a context of worlds, and those of the variables that a type takes
  abbrev pub AllTypesIn : List LfType → Type 0
  AllTypesIn G = (g : ℕ) → Low g ≡ true → TypesIn (part g) G

  pub context_types : {G : List LfType} → World Σ' W Low G → AllTypesIn G
  context_types w g b i A h = world_types Σ' W Low (part g) (part_low g) ((part_contained g b).entries_in) w i A h

  pub local_types : (X : LfType) (G : List LfType) → FamiliesIn Low X → ArgumentsAreBelow below X → AllTypesIn G → AllTypesIn (binders G X)
  local_types (pi A B) G (l, k) (a, b) h = local_types B (A ∷ G) k b newer
    where
      newer : (g : ℕ) → Low g ≡ true → TypesIn (part g) (A ∷ G)
      newer g c zero Y e t =
          let t' : part g (target A) ≡ true = ap (part g) (sym (ap target e ∙ target_renamed suc A)) ∙ t in
          subst (FamiliesIn (part g)) (sym e) (families_renamed (part g) suc A (families_within (part (target A)) (part g) (part_through g (target A) t') A (in_part (target A) A l a)))
      newer g c (suc i) Y (C, k, e) t = subst (FamiliesIn (part g)) (sym e) (families_renamed (part g) suc C (h g c i C k (ap (part g) (sym (ap target e ∙ target_renamed suc C)) ∙ t)))
  local_types (atom a T) G l b h = h

  -- what uses the variables of a part uses those that are below
  low_within : (g : ℕ) (D : List LfType) → Within (low (part g) D) (low (below g) D)
  low_within g [] i e = e
  low_within g (A ∷ D) zero e = part_below g (target A) e
  low_within g (A ∷ D) (suc i) e = low_within g D i e

  -- The lemma
  pub spine_low : (D G : List LfType) → IsContext Σ' (onto D G) → AllTypesIn (onto D G) → (n : ℕ) (S : Spine) (A : LfType) (a : ℕ) (T : Spine) → FamiliesIn Low A → ArgumentsAreBelow below A → IsType Σ' (onto D G) A → SpineType Σ' (onto D G) S A (atom a T) → arguments_count A ≡ n → LowPlaces below D (output_places (outputs n)) S (type_kind A)
  spine_low D G c h zero S A a T fa ba ta st e = tt
  spine_low D G c h (suc n) nil A a T fa ba ta st e = tt
  spine_low D G c h (suc n) (app M S) (pi A B) a T (fa, fb) (ba, bb) (ta, tb) (m, st) e =
      let b : Low (target A) ≡ true = family_target Low A fa in
      let g : ℕ = target A in
      let σ : ℕ → Image = single (skeleton A) M in (
        uses_within (low (part g) D) (low (below g) D) M (low_within g D) (uses_low Σ' x.ok W (part g) (SelfContained-extends Σ Σ' W (part g) (extension_over_less Low (part g) Σ Σ' (part_low g) x) (part_contained g b)) D G (h g b) M A (in_part g A fa ba) m),
        subst (LowPlaces below D (output_places (outputs n)) S) (kind_substituted σ B)
            (spine_low D G c h n S (instantiate_type A M B) a T (families_substituted Low reduce σ B fb) (below_substituted below σ B bb) (instance_is_type Σ' x.ok (onto D G) A M B c ta tb m) st (count_substituted σ B ∙ suc_same e)),
      )
  spine_low D G c h (suc n) (app M S) (atom b U) a T fa ba ta st e = absurd st

  -- The same where it is not asked that the type is one.
  pub spine_uses_low : (D G : List LfType) → AllTypesIn (onto D G) → (n : ℕ) (S : Spine) (A : LfType) (a : ℕ) (T : Spine) → FamiliesIn Low A → ArgumentsAreBelow below A → SpineType Σ' (onto D G) S A (atom a T) → arguments_count A ≡ n → LowPlaces below D (output_places (outputs n)) S (type_kind A)
  spine_uses_low D G h zero S A a T fa ba st e = tt
  spine_uses_low D G h (suc n) nil A a T fa ba st e = tt
  spine_uses_low D G h (suc n) (app M S) (pi A B) a T (fa, fb) (ba, bb) (m, st) e =
      let b : Low (target A) ≡ true = family_target Low A fa in
      let g : ℕ = target A in
      let σ : ℕ → Image = single (skeleton A) M in (
        uses_within (low (part g) D) (low (below g) D) M (low_within g D) (uses_low Σ' x.ok W (part g) (SelfContained-extends Σ Σ' W (part g) (extension_over_less Low (part g) Σ Σ' (part_low g) x) (part_contained g b)) D G (h g b) M A (in_part g A fa ba) m),
        subst (LowPlaces below D (output_places (outputs n)) S) (kind_substituted σ B) (spine_uses_low D G h n S (instantiate_type A M B) a T (families_substituted Low reduce σ B fb) (below_substituted below σ B bb) st (count_substituted σ B ∙ suc_same e)),
      )
  spine_uses_low D G h (suc n) (app M S) (atom b U) a T fa ba st e = absurd st
