-- Arguments at places, and their types.
use Rattle.std.proofs.Common.{◌≡◌, ℕ, zero, suc, ◌+◌, ◌-◌, ◌<◌, ◌≤◌, length, List, [], ◌∷◌, Bool, true, false, Option, Some, None, refl, sym, ap, ap₂, ◌∙◌, subst, arith}
use Rattle.std.specs.Borrow.{Bor}
use Rattle.std.specs.List.{HoldsAt}
use Rattle.std.specs.Prelude.{slice_get, option_map, Decides, MatchOption, ◌↔◌}
use Rattle.lf.specs.AtOnce.{shift_by}
use Rattle.lf.specs.Entries.{quantifiers}
use Rattle.lf.specs.Syntax.{Term, Spine, nil, app, LfType, pi, atom, Kind, kind_pi, star, skeleton}
use Rattle.lf.specs.Typing.{HasType, IsContext, IsKind, IsSignature, IsType, Signature, SpineFitsKind, TypeAt, instantiate_kind}
use Rattle.lf.specs.Substitution.{single}
use Rattle.lf.specs.Variables.{target, target_arguments}
use Rattle.lf.proofs.Decidability.{variable_type_unique}
use Rattle.lf.proofs.Regular.{substitution_keeps_kinds}
use Rattle.lf.proofs.Substitution.{single_substitution_typed, skeleton_context_of, family_kind}
use Rattle.lf.proofs.ToSkeletons.{type_by_skeletons}
use Rattle.lf_checks.specs.Descent.{past_quantifiers}
use Rattle.lf_checks.specs.Order.{argument_at, place_type}
use Rattle.tw_kernel.proofs.KindSpines.{argument_fits}
use Rattle.tw_terms.specs.View.{args_of, term_of}
use Rattle.tw_terms.specs.declared.canonical.Term.{Term as RustTerm}
use Rattle.tw_order.specs.Places.{AtomStands, FamilyTakes, IsPlaceType, KindTakesAll, SamePlace, SmallerPlace, domain_of}
use Rattle.tw_order.specs.Smaller.{IsSmaller}
use Rattle.tw_order.specs.declared.scope.Scope.{Scope}
use Rattle.tw_order.specs.Taking.{KindTakes, TermStands, kind_past}
use Rattle.tw_order.proofs.Deciding.{decided_as, decided_no}
use mathlib.Core.Path.{fun_ext}

pub argument_found : (ts : List RustTerm) (k : ℕ) → argument_at (suc k) (args_of ts) ≡ option_map term_of (slice_get ts k)
argument_found [] k = refl
argument_found (t ∷ ts) zero = refl
argument_found (t ∷ ts) (suc k) = argument_found ts k

-- What `get` tells of a place.
found_or : (ts : List RustTerm) (k : ℕ) (o : Option RustTerm) → MatchOption o (length ts ≤ k) (λ x. (k < length ts) × HoldsAt (λ y. x ≡ y) ts k) → o ≡ slice_get ts k
found_or [] k None h = refl
found_or [] k (Some x) h = absurd (omega (arith, h.0))
found_or (t ∷ ts) zero None h = absurd (omega (arith, h))
found_or (t ∷ ts) zero (Some x) h = let q : x ≡ t = h.1 x in ap Some q
found_or (t ∷ ts) (suc k) None h = found_or ts k None (omega (arith, h))
found_or (t ∷ ts) (suc k) (Some x) h = found_or ts k (Some x) (omega (arith, h.0), h.1)

pub argument_got : (ts us : List RustTerm) (S : Spine) (i : ℕ) (o : Option (Bor RustTerm)) → (i ≡ 0 → ⊥) → us ≡ ts → args_of ts ≡ S → MatchOption o (length us ≤ i - 1) (λ x. (i - 1 < length us) × HoldsAt (λ y. x.now ≡ y) us (i - 1)) → option_map (λ m. term_of m.now) o ≡ argument_at i S
argument_got ts us S i o n u e h = values o ∙ ap (option_map term_of) (found_or us (i - 1) (option_map (λ x. x.now) o) (by o h)) ∙ ap (λ xs. option_map term_of (slice_get xs (i - 1))) u ∙ sym (argument_found ts (i - 1)) ∙ ap₂ argument_at (let q : suc (i - 1) ≡ i = omega (arith, n) in q) e
  where
    values : (o : Option (Bor RustTerm)) → option_map (λ m. term_of m.now) o ≡ option_map term_of (option_map (λ x. x.now) o)
    values None = refl
    values (Some x) = refl

    by : (o : Option (Bor RustTerm)) → MatchOption o (length us ≤ i - 1) (λ x. (i - 1 < length us) × HoldsAt (λ y. x.now ≡ y) us (i - 1)) → MatchOption (option_map (λ x. x.now) o) (length us ≤ i - 1) (λ x. (i - 1 < length us) × HoldsAt (λ y. x ≡ y) us (i - 1))
    by None h = h
    by (Some x) h = h

-- a variable of one type has no other
pub type_decided : (b : Bool) (G : List LfType) (i : ℕ) (A B : LfType) → TypeAt G i A → ((b ≡ true) ↔ (A ≡ B)) → Decides b (TypeAt G i B)
type_decided b G i A B t d = ((λ e. subst (TypeAt G i) (d.0 e) t), λ u. d.1 (variable_type_unique G i A B t u))

-- under the quantifiers of a type
past_is : (A : LfType) (ρ : ℕ → ℕ) (i : ℕ) → past_quantifiers A ρ i ≡ ρ i + quantifiers A
past_is (pi A B) ρ i = let h = past_is B (λ j. suc (ρ j)) i in h ∙ omega arith
past_is (atom a S) ρ i = omega arith

pub past_shift : (A : LfType) → past_quantifiers A (λ i. i) ≡ shift_by (quantifiers A)
past_shift A = fun_ext (past_is A (λ i. i))

-- Two places.
pub same_place : (b : Bool) (S H : Spine) (i j : ℕ) (M N : Term) → argument_at i S ≡ Some M → argument_at j H ≡ Some N → ((b ≡ true) ↔ (M ≡ N)) → Decides b (SamePlace S H i j)
same_place b S H i j M N e f d = ((λ t. (M, e, f ∙ ap Some (sym (d.0 t)))), λ (X, p, q). d.1 (one (sym e ∙ p) ∙ one (sym q ∙ f)))
  where
    one : {A : Type 0} {x y : A} → Some x ≡ Some y → x ≡ y
    one q = cc

pub no_first : (S H : Spine) (i j : ℕ) → argument_at i S ≡ None → Decides false (SamePlace S H i j)
no_first S H i j e = decided_no (λ (X, p, q). none (sym e ∙ p))
  where
    none : {x : Term} → None ≡ Some x → ⊥
    none q = cc

pub no_second : (S H : Spine) (i j : ℕ) → argument_at j H ≡ None → Decides false (SamePlace S H i j)
no_second S H i j e = decided_no (λ (X, p, q). none (sym e ∙ q))
  where
    none : {x : Term} → None ≡ Some x → ⊥
    none q = cc

-- Kinds.
pub place_next : (i : ℕ) (N : Term) (S : Spine) (K : Kind) → place_type (suc (suc i)) (app N S) K ≡ place_type (suc i) S (kind_past N K)
place_next i N S (kind_pi A K) = refl
place_next i N nil star = refl
place_next i N (app M S) star = refl

pub place_first : (N : Term) (S : Spine) (K : Kind) → place_type 1 (app N S) K ≡ domain_of K
place_first N S (kind_pi A K) = refl
place_first N S star = refl

-- one place further
pub kind_step : (n n' : ℕ) (R W : Spine) (M : Term) (K L : Kind) (P : Option LfType) → R ≡ app M W → (n ≡ 1 → ⊥) → 0 < n → n' ≡ n - 1 → L ≡ kind_past M K → place_type n R K ≡ P → KindTakesAll K R → (0 < n') × (place_type n' W L ≡ P) × KindTakesAll L W
kind_step zero n' R W M K L P r u l e k p t = absurd (omega (arith, l))
kind_step (suc zero) n' R W M K L P r u l e k p t = absurd (u refl)
kind_step (suc (suc n)) n' R W M K L P r u l e k p t =
    let q : suc n ≡ n' = omega (arith, e) in
    let v : KindTakesAll (kind_past M K) W = (subst (KindTakesAll K) r t).1 in
    (omega (arith, e), ap₂ (λ i X. place_type i W X) (sym q) k ∙ sym (place_next n M W K) ∙ ap (λ X. place_type (suc (suc n)) X K) (sym r) ∙ p, subst (λ X. KindTakesAll X W) (sym k) v)

pub kind_first : (R W : Spine) (M : Term) (K : Kind) → R ≡ app M W → KindTakesAll K R → KindTakes K M
kind_first R W M K r t = (subst (KindTakesAll K) r t).0

pub kind_end : (n : ℕ) (R : Spine) (K : Kind) (P : Option LfType) → R ≡ nil → 0 < n → place_type n R K ≡ P → None ≡ P
kind_end zero R K P r l e = absurd (omega (arith, l))
kind_end (suc n) R K P r l e = ap (λ X. place_type (suc n) X K) (sym r) ∙ e

module _ (Σ : Signature) (C : List LfType) (ok : IsSignature Σ) (g : IsContext Σ C) where
  kind_after : (N : Term) (A : LfType) (K : Kind) → IsKind Σ C (kind_pi A K) → HasType Σ C N A → IsKind Σ C (instantiate_kind A N K)
  kind_after N A K (a, k) m = substitution_keeps_kinds Σ ok (A ∷ C) C (single (skeleton A) N) K (single_substitution_typed Σ ok C A N (skeleton_context_of Σ ok C g) (type_by_skeletons Σ C A a) m) k

  pub takes_all : (S : Spine) (K : Kind) → IsKind Σ C K → SpineFitsKind Σ C S K → KindTakesAll K S
  takes_all nil K k s = tt
  takes_all (app N S) star k s = absurd s
  takes_all (app N S) (kind_pi A K) k (m, s) = (argument_fits Σ C N A K k m, takes_all S (instantiate_kind A N K) (kind_after N A K k m) s)

  pub place_stands : (j : ℕ) (S : Spine) (K : Kind) (N : Term) (X : LfType) → IsKind Σ C K → SpineFitsKind Σ C S K → argument_at j S ≡ Some N → place_type j S K ≡ Some X → TermStands Σ C N X
  place_stands zero S K N X k s e f = absurd cc
  place_stands (suc j) nil K N X k s e f = absurd cc
  place_stands (suc j) (app M S) star N X k s e f = absurd s
  place_stands (suc zero) (app M S) (kind_pi A K) N X k s e f =
      let p : M ≡ N = cc in let q : A ≡ X = cc in
      subst (λ Y. TermStands Σ C N Y) q (subst (λ Y. TermStands Σ C Y A) p (record { signature = ok; context = g; is_type = k.0; typed = s.0 }))
  place_stands (suc (suc j)) (app M S) (kind_pi A K) N X k s e f = place_stands (suc j) S (instantiate_kind A M K) N X (kind_after M A K k s.0) s.1 e f

-- Atoms.
atom_kind : (Σ : Signature) (C : List LfType) (a : ℕ) (S : Spine) → IsType Σ C (atom a S) → (K : Kind) → Σ.kinds a ≡ Some K → SpineFitsKind Σ C S K
atom_kind Σ C a S (L, e, s) K f = subst (SpineFitsKind Σ C S) (one (sym e ∙ f)) s
  where
    one : {A : Type 0} {x y : A} → Some x ≡ Some y → x ≡ y
    one q = cc

module _ (Σ : Signature) (C : List LfType) (a : ℕ) (S : Spine) (x : AtomStands Σ C (atom a S)) where
  pub atom_takes : FamilyTakes Σ (atom a S)
  atom_takes K e = takes_all Σ C x.signature x.context S K (family_kind Σ x.signature C a K e) (atom_kind Σ C a S x.is_type K e)

  pub atom_place : (j : ℕ) (N : Term) (X : LfType) → argument_at j S ≡ Some N → IsPlaceType Σ (atom a S) j X → TermStands Σ C N X
  atom_place j N X e (K, k, f) = place_stands Σ C x.signature x.context j S K N X (family_kind Σ x.signature C a K k) (atom_kind Σ C a S x.is_type K k) e f

-- The same of the atom at the end of a type.
module _ (Σ : Signature) (C : List LfType) (H : LfType) (x : AtomStands Σ C H) where
  at_end : AtomStands Σ C (atom (target H) (target_arguments H))
  at_end = record { signature = x.signature; context = x.context; is_type = x.is_type }

  pub family_takes : FamilyTakes Σ H
  family_takes = atom_takes Σ C (target H) (target_arguments H) at_end

  pub place_typed : (j : ℕ) (N : Term) (X : LfType) → argument_at j (target_arguments H) ≡ Some N → IsPlaceType Σ H j X → TermStands Σ C N X
  place_typed j N X e p = atom_place Σ C (target H) (target_arguments H) at_end j N X e p

module _ (Σ : Signature) (s : Scope) (A H : LfType) (i j : ℕ) where
  pub no_place : ((X : LfType) → IsPlaceType Σ H j X → ⊥) → Decides false (SmallerPlace Σ s (target H) (target_arguments A) (target_arguments H) i j)
  no_place n = decided_no (λ (M, N, e, f, K, k, X, q, h). n X (K, k, q))

  pub smaller_place : (b : Bool) (M N : Term) (X : LfType) → argument_at i (target_arguments A) ≡ Some M → argument_at j (target_arguments H) ≡ Some N → IsPlaceType Σ H j X → Decides b (IsSmaller Σ s M N X) → Decides b (SmallerPlace Σ s (target H) (target_arguments A) (target_arguments H) i j)
  smaller_place b M N X e f (K, k, q) d = decided_as b (λ h. (M, N, e, f, K, k, X, q, h)) back d
    where
      one : {A : Type 0} {x y : A} → Some x ≡ Some y → x ≡ y
      one q = cc

      back : SmallerPlace Σ s (target H) (target_arguments A) (target_arguments H) i j → IsSmaller Σ s M N X
      back (M', N', e', f', K', k', X', q', h) =
          let m : M' ≡ M = one (sym e' ∙ e) in
          let n : N' ≡ N = one (sym f' ∙ f) in
          let l : K' ≡ K = one (sym k' ∙ k) in
          let y : X' ≡ X = one (sym q' ∙ ap (place_type j (target_arguments H)) l ∙ q) in
          subst (IsSmaller Σ s M N) y (subst (λ Z. IsSmaller Σ s M Z X') n (subst (λ Z. IsSmaller Σ s Z N' X') m h))
