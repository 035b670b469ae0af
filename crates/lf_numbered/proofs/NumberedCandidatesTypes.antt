-- Types whose own family is in a set, with those of the arguments whose own family is.
use Rattle.std.proofs.Common.{◌≡◌, ℕ, zero, suc, List, ◌∷◌, sym, ap, ◌∙◌, subst}
use Rattle.std.specs.Prelude.{Bool, true}
use Rattle.lf.specs.Syntax.{LfType, pi, atom, skeleton}
use Rattle.lf.specs.Typing.{Signature}
use Rattle.lf.specs.Variables.{target, binders, FamiliesIn, Within}
use Rattle.lf.specs.Subordination.{Block, SelfContained}
use Rattle.lf.specs.Extension.{Extends}
use Rattle.lf.proofs.Strength.{families_renamed}
use Rattle.lf.proofs.Strengthening.{TypesIn}
use Rattle.lf.proofs.Target.{target_renamed}
use Rattle.lf_checks.specs.Below.{IsSubordination}
use Rattle.lf.proofs.Checker.{both_of}
use Rattle.lf_checks.proofs.EtaTest.{both_l, both_r}
use Rattle.lf_coverage.specs.Heads.{ArgumentsAreBelow}
use Rattle.lf_coverage.proofs.HeadRaised.{AllTypesIn, families_within, part, part_low}
use Rattle.lf_coverage.proofs.Parts.{first_same, second_same, no_arrow}
use Rattle.lf_numbered.specs.NumberedBeside.{TakesIn}
use Rattle.lf_numbered.proofs.WritingLow.{base_same, families_same, skeleton_target, target_is}

pub takes_in_target : (S : ℕ → Bool) (A : LfType) → TakesIn S A → S (target A) ≡ true
takes_in_target S (pi A B) (a, b) = takes_in_target S B b
takes_in_target S (atom a T) h = h

pub families_take : (S : ℕ → Bool) (A : LfType) → FamiliesIn S A → TakesIn S A
families_take S (pi A B) (a, b) = ((λ e. a), families_take S B b)
families_take S (atom a T) h = h

pub takes_same : (S : ℕ → Bool) (A B : LfType) → skeleton A ≡ skeleton B → TakesIn S A → TakesIn S B
takes_same S (pi A B) (pi C D) e (a, b) = ((λ t. families_same S A C (first_same e) (a (ap S (target_is A ∙ ap skeleton_target (first_same e) ∙ sym (target_is C)) ∙ t))), takes_same S B D (second_same e) b)
takes_same S (pi A B) (atom c T) e h = absurd (no_arrow e)
takes_same S (atom a T) (pi C D) e h = absurd (no_arrow (sym e))
takes_same S (atom a T) (atom c U) e h = subst (λ d. S d ≡ true) (base_same e) h

-- a type that takes arguments, one whose own family is in the set
module _ (Σ : Signature) (W : List Block) (below : ℕ → ℕ → Bool) (s : IsSubordination Σ W below) (Low : ℕ → Bool) (sc : SelfContained Σ W Low) (Σ' : Signature) (x : Extends Low Σ Σ') where
  in_part : (g : ℕ) (A : LfType) → FamiliesIn Low A → FamiliesIn (below g) A → FamiliesIn (part Σ W below s Low sc Σ' x g) A
  in_part g (pi A B) (a, b) (c, d) = (in_part g A a c, in_part g B b d)
  in_part g (atom a S) h k = both_of (Low a) (below g a) h k

  through : (g f : ℕ) → part Σ W below s Low sc Σ' x g f ≡ true → Within (part Σ W below s Low sc Σ' x f) (part Σ W below s Low sc Σ' x g)
  through g f e a h = both_of (Low a) (below g a) (both_l (Low a) (below f a) h) (s.through g f (both_r (Low f) (below g f) e) a (both_r (Low a) (below f a) h))

  pub local_types_taken : (X : LfType) (G : List LfType) → TakesIn Low X → ArgumentsAreBelow below X → AllTypesIn Σ W below s Low sc Σ' x G → AllTypesIn Σ W below s Low sc Σ' x (binders G X)
  local_types_taken (pi A B) G (l, k) (a, b) h = local_types_taken B (A ∷ G) k b newer
    where
      newer : (g : ℕ) → Low g ≡ true → TypesIn (part Σ W below s Low sc Σ' x g) (A ∷ G)
      newer g c zero Y e t =
          let P : ℕ → Bool = part Σ W below s Low sc Σ' x g in
          let t' : P (target A) ≡ true = ap P (sym (ap target e ∙ target_renamed suc A)) ∙ t in
          let low : Low (target A) ≡ true = part_low Σ W below s Low sc Σ' x g (target A) t' in
          subst (FamiliesIn P) (sym e) (families_renamed P suc A (families_within (part Σ W below s Low sc Σ' x (target A)) P (through g (target A) t') A (in_part (target A) A (l low) a)))
      newer g c (suc i) Y (C, k, e) t =
          let P : ℕ → Bool = part Σ W below s Low sc Σ' x g in
          subst (FamiliesIn P) (sym e) (families_renamed P suc C (h g c i C k (ap P (sym (ap target e ∙ target_renamed suc C)) ∙ t)))
  local_types_taken (atom a T) G l b h = h
