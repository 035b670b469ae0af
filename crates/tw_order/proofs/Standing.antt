-- The parts of a typed term are typed.
use Rattle.std.proofs.Common.{◌≡◌, ℕ, zero, suc, List, ◌∷◌, Bool, refl, sym, ap, ◌∙◌, subst}
use Rattle.lf.specs.Substitution.{reduce}
use Rattle.lf.specs.Syntax.{Head, constant, variable, metavariable, Term, Spine, lambda, root, nil, app, LfType, pi, atom, weaken, rename, rename_type}
use Rattle.lf.specs.Typing.{HeadHasType, IsTypedRenaming, Signature, SpineType, TypeAt, instantiate_type}
use Rattle.lf.specs.Variables.{at_variable}
use Rattle.lf.proofs.Decidability.{head_unique}
use Rattle.lf.proofs.Regular.{head_type}
use Rattle.lf.proofs.Substitution.{instance_is_type}
use Rattle.lf.proofs.TypeLaws.{renamings_compose_type, substitute_identity_type, substitution_as_renaming_type}
use Rattle.lf.proofs.Weakening.{renaming_keeps_types, renaming_keeps_typing}
use Rattle.tw_kernel.proofs.Spines.{argument_fits}
use Rattle.tw_order.specs.Taking.{IsPassable, RootStands, SpineStands, Takes, TermStands, type_past}

module _ (Σ : Signature) (C : List LfType) where
  pub root_stands : (h : Head) (S : Spine) (A : LfType) → TermStands Σ C (root h S) A → RootStands Σ C h S
  root_stands h S (pi A B) t = absurd t.typed
  root_stands h S (atom a T) t = let (H, k, s) = t.typed in record { signature = t.signature; context = t.context; head = H; has_type = k; result = atom a T; typed = s }

  pub passable_head : (R : ℕ → Bool) (h : Head) (A : LfType) → IsPassable Σ C R h A → HeadHasType Σ C h A
  passable_head R (constant c) A p = p
  passable_head R (variable i) A p = p.1
  passable_head R (metavariable m) A p = absurd p

  pub spine_stands : (R : ℕ → Bool) (h : Head) (S : Spine) (A : LfType) → IsPassable Σ C R h A → RootStands Σ C h S → SpineStands Σ C S A
  spine_stands R h S A p r =
      let k = passable_head R h A p in
      let e : r.head ≡ A = head_unique Σ C h r.head A r.has_type k in
      record { signature = r.signature; context = r.context; is_type = head_type Σ r.signature C h A r.context k; result = r.result; typed = subst (λ T. SpineType Σ C S T r.result) e r.typed }

  pub spine_first : (N : Term) (S : Spine) (T : LfType) → SpineStands Σ C (app N S) T → SpineStands Σ C (app N nil) T
  spine_first N S (pi A B) s = record { signature = s.signature; context = s.context; is_type = s.is_type; result = instantiate_type A N B; typed = (s.typed.0, refl) }
  spine_first N S (atom a T) s = absurd s.typed

  pub spine_rest : (N : Term) (S : Spine) (T : LfType) → SpineStands Σ C (app N S) T → SpineStands Σ C S (type_past N T)
  spine_rest N S (pi A B) s = record { signature = s.signature; context = s.context; is_type = instance_is_type Σ s.signature C A N B s.context s.is_type.0 s.is_type.1 s.typed.0; result = s.result; typed = s.typed.1 }
  spine_rest N S (atom a T) s = absurd s.typed

  pub spine_takes : (N : Term) (S : Spine) (T : LfType) → SpineStands Σ C (app N S) T → Takes T N
  spine_takes N S (pi A B) s = argument_fits Σ C N A B s.is_type s.typed.0
  spine_takes N S (atom a T) s = absurd s.typed

  pub first_stands : (N : Term) (S : Spine) (A B : LfType) → SpineStands Σ C (app N S) (pi A B) → TermStands Σ C N A
  first_stands N S A B s = record { signature = s.signature; context = s.context; is_type = s.is_type.0; typed = s.typed.0 }

  renamed_identity : (A : LfType) → rename_type (λ i. i) A ≡ A
  renamed_identity A = sym (substitution_as_renaming_type reduce (λ i. i) A) ∙ substitute_identity_type reduce A

  put_weakened : (y : ℕ) (A : LfType) → rename_type (at_variable y) (weaken A) ≡ A
  put_weakened y A = renamings_compose_type (at_variable y) suc A ∙ renamed_identity A

  put_renames : (A : LfType) (y : ℕ) → TypeAt C y A → IsTypedRenaming (A ∷ C) C (at_variable y)
  put_renames A y t zero X e = subst (TypeAt C y) (sym (ap (rename_type (at_variable y)) e ∙ put_weakened y A)) t
  put_renames A y t (suc i) X (Y, u, e) = subst (TypeAt C i) (sym (ap (rename_type (at_variable y)) e ∙ put_weakened y Y)) u

  pub body_stands : (N : Term) (A B : LfType) (y : ℕ) → TermStands Σ C (lambda N) (pi A B) → TypeAt C y A → TermStands Σ C (rename (at_variable y) N) (rename_type (at_variable y) B)
  body_stands N A B y s t =
      let w = put_renames A y t in
      record { signature = s.signature; context = s.context; is_type = renaming_keeps_types Σ s.signature (A ∷ C) C (at_variable y) B w s.is_type.1; typed = renaming_keeps_typing Σ s.signature (A ∷ C) C (at_variable y) N B w s.typed }
