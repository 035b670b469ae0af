-- Open terms that a filling puts on own terms: each entry constant begins with arguments that the filling makes its own terms.
use Rattle.std.proofs.Common.{◌≡◌, ℕ, zero, suc, List, [], ◌∷◌, Option, Some, None, refl, sym, ap, ap₂, ◌∙◌, subst}
use Rattle.lf.specs.Syntax.{constant, variable, metavariable, Term, Spine, lambda, root, nil, app, LfType, pi, atom, Skeleton, base, arrow, lift_renaming, rename, rename_spine, rename_type, rename_head, Head}
use Rattle.lf.specs.Eta.{add_last, append, eta_expand}
use Rattle.lf_unification.specs.Filling.{fill, fill_metavariable, fill_spine, fill_type, moved, rename_value}
use Rattle.lf_unification.specs.OpenTyping.{MetavariablesIn, MetavariablesInSpine, MetavariablesInType}
use Rattle.lf_unification.specs.Patterns.{Injective, pattern}
use Rattle.lf_unification.proofs.Filling.{fill_rename_spine, moved_up}
use Rattle.lf_unification.proofs.Inverse.{rename_injective_spine, up_injective}
use Rattle.lf_numbered.specs.OwnTerms.{weaken_own, BeginsWith, OnOwnTerms, SpineOnOwnTerms, TypeOnOwnTerms}
use Rattle.lf_numbered.proofs.OwnTerms.{own_as_renamed, own_renamed, reduce_own, rename_own, rename_under as weaken_renamed, rename_append}
use mathlib.Core.Path.{fun_ext}

pub fill_append : (μ : ℕ → Skeleton) (β : ℕ → Option Term) (U T : Spine) → fill_spine μ β (append U T) ≡ append (fill_spine μ β U) (fill_spine μ β T)
fill_append μ β nil T = refl
fill_append μ β (app M U) T = ap (app (fill μ β M)) (fill_append μ β U T)

pub head_same : {M N : Term} {S T : Spine} → app M S ≡ app N T → M ≡ N
head_same e = cc

pub tail_same : {M N : Term} {S T : Spine} → app M S ≡ app N T → S ≡ T
tail_same e = cc

pub nil_not_app : {M : Term} {S : Spine} → nil ≡ app M S → ⊥
nil_not_app e = cc

-- the first arguments of a renamed spine are renamed
split_renamed : (ρ : ℕ → ℕ) (S R T : Spine) → rename_spine ρ S ≡ append R T → (R0 : Spine) × (T0 : Spine) × (S ≡ append R0 T0) × (R ≡ rename_spine ρ R0)
split_renamed ρ S nil T e = (nil, S, refl, refl)
split_renamed ρ nil (app N R) T e = absurd (nil_not_app e)
split_renamed ρ (app M S) (app N R) T e = let (R0, T0, f, g) = split_renamed ρ S R T (tail_same e) in (app M R0, T0, ap (app M) f, ap₂ app (sym (head_same e)) g)

-- a value on own terms, if there is one
abbrev pub ValueOnOwnTerms : (ℕ → Option Spine) → Option Term → Type 0
ValueOnOwnTerms o None = Unit {0}
ValueOnOwnTerms o (Some N) = OnOwnTerms o N

pub value_under : (o : ℕ → Option Spine) (x : Option Term) → ValueOnOwnTerms o x → ValueOnOwnTerms (λ c. weaken_own (o c)) (rename_value suc x)
value_under o None v = v
value_under o (Some N) v = own_renamed o (λ c. weaken_own (o c)) suc N (λ c. own_as_renamed (o c)) v

module _ (μ : ℕ → Skeleton) where
  abbrev pub BeginsUpTo : (ℕ → Option Term) → Option Spine → Spine → Type 0
  BeginsUpTo β None S = Unit {0}
  BeginsUpTo β (Some V) S = (R : Spine) × (T : Spine) × (S ≡ append R T) × (fill_spine μ β R ≡ V)

  abbrev mutual
    pub Owned : (ℕ → Option Spine) → (ℕ → Option Term) → Term → Type 0
    Owned o β (lambda M) = Owned (λ c. weaken_own (o c)) (moved suc β) M
    Owned o β (root (constant c) S) = BeginsUpTo β (o c) S × SpineOwned o β S
    Owned o β (root (variable i) S) = SpineOwned o β S
    Owned o β (root (metavariable m) S) = SpineOwned o β S

    pub SpineOwned : (ℕ → Option Spine) → (ℕ → Option Term) → Spine → Type 0
    SpineOwned o β nil = Unit {0}
    SpineOwned o β (app M S) = Owned o β M × SpineOwned o β S

  abbrev pub TypeOwned : (ℕ → Option Spine) → (ℕ → Option Term) → LfType → Type 0
  TypeOwned o β (pi A B) = TypeOwned o β A × TypeOwned (λ c. weaken_own (o c)) (moved suc β) B
  TypeOwned o β (atom a S) = SpineOwned o β S

  -- Filled, they are on own terms, where the values are.
  begins_filled : (β : ℕ → Option Term) (u : Option Spine) (S : Spine) → BeginsUpTo β u S → BeginsWith u (fill_spine μ β S)
  begins_filled β None S b = tt
  begins_filled β (Some V) S (R, T, e, f) = (fill_spine μ β T, ap (fill_spine μ β) e ∙ fill_append μ β R T ∙ ap (λ Z. append Z (fill_spine μ β T)) f)

  at_value : (o : ℕ → Option Spine) (a : Skeleton) (m : ℕ) (x : Option Term) (S : Spine) → ValueOnOwnTerms o x → SpineOnOwnTerms o S → OnOwnTerms o (fill_metavariable a m x S)
  at_value o a m None S v s = s
  at_value o a m (Some N) S v s = reduce_own a o N S v s

  module _ (V : ℕ → Type 0) where
    mutual
      pub own_filled : (o : ℕ → Option Spine) (β : ℕ → Option Term) (M : Term) → ((m : ℕ) → V m → ValueOnOwnTerms o (β m)) → MetavariablesIn V M → Owned o β M → OnOwnTerms o (fill μ β M)
      own_filled o β (lambda M) h i m = own_filled (λ c. weaken_own (o c)) (moved suc β) M (λ n v. value_under o (β n) (h n v)) i m
      own_filled o β (root (constant c) S) h i (b, s) = (begins_filled β (o c) S b, spine_filled o β S h i s)
      own_filled o β (root (variable j) S) h i s = spine_filled o β S h i s
      own_filled o β (root (metavariable m) S) h (v, i) s = at_value o (μ m) m (β m) (fill_spine μ β S) (h m v) (spine_filled o β S h i s)

      pub spine_filled : (o : ℕ → Option Spine) (β : ℕ → Option Term) (S : Spine) → ((m : ℕ) → V m → ValueOnOwnTerms o (β m)) → MetavariablesInSpine V S → SpineOwned o β S → SpineOnOwnTerms o (fill_spine μ β S)
      spine_filled o β nil h i s = s
      spine_filled o β (app M S) h (i, j) (m, s) = (own_filled o β M h i m, spine_filled o β S h j s)

    pub type_filled : (o : ℕ → Option Spine) (β : ℕ → Option Term) (A : LfType) → ((m : ℕ) → V m → ValueOnOwnTerms o (β m)) → MetavariablesInType V A → TypeOwned o β A → TypeOnOwnTerms o (fill_type μ β A)
    type_filled o β (pi A B) h (i, j) (a, b) = (type_filled o β A h i a, type_filled (λ c. weaken_own (o c)) (moved suc β) B (λ n v. value_under o (β n) (h n v)) j b)
    type_filled o β (atom a S) h i s = spine_filled o β S h i s

  -- Renaming, forth and back: own terms and filling are renamed too.
  record Moved (o o' : ℕ → Option Spine) (β β' : ℕ → Option Term) (ρ : ℕ → ℕ) : Type 0 where
    own : (c : ℕ) → o' c ≡ rename_own ρ (o c)
    values : (m : ℕ) → β' m ≡ rename_value ρ (β m)

  moved_under : (o o' : ℕ → Option Spine) (β β' : ℕ → Option Term) (ρ : ℕ → ℕ) → Moved o o' β β' ρ → Moved (λ c. weaken_own (o c)) (λ c. weaken_own (o' c)) (moved suc β) (moved suc β') (lift_renaming ρ)
  moved_under o o' β β' ρ w = record { own = λ c. ap weaken_own (w.own c) ∙ weaken_renamed ρ (o c); values = λ m. ap (rename_value suc) (w.values m) ∙ sym (moved_up ρ (β m)) }

  begins_moved : (β β' : ℕ → Option Term) (ρ : ℕ → ℕ) (u u' : Option Spine) (S : Spine) → ((m : ℕ) → β' m ≡ rename_value ρ (β m)) → u' ≡ rename_own ρ u → BeginsUpTo β u S → BeginsUpTo β' u' (rename_spine ρ S)
  begins_moved β β' ρ None u' S h e b = subst (λ z. BeginsUpTo β' z (rename_spine ρ S)) (sym e) tt
  begins_moved β β' ρ (Some V) u' S h e (R, T, f, g) =
      let b : β' ≡ moved ρ β = fun_ext h in
      subst (λ z. BeginsUpTo β' z (rename_spine ρ S)) (sym e) (rename_spine ρ R, rename_spine ρ T, ap (rename_spine ρ) f ∙ rename_append ρ R T, ap (λ k. fill_spine μ k (rename_spine ρ R)) b ∙ sym (fill_rename_spine μ ρ β R) ∙ ap (rename_spine ρ) g)

  begins_back : (β β' : ℕ → Option Term) (ρ : ℕ → ℕ) (u u' : Option Spine) (S : Spine) → Injective ρ → ((m : ℕ) → β' m ≡ rename_value ρ (β m)) → u' ≡ rename_own ρ u → BeginsUpTo β' u' (rename_spine ρ S) → BeginsUpTo β u S
  begins_back β β' ρ None u' S i h e b = tt
  begins_back β β' ρ (Some V) u' S i h e b0 =
      let (R, T, f, g) : BeginsUpTo β' (Some (rename_spine ρ V)) (rename_spine ρ S) = subst (λ z. BeginsUpTo β' z (rename_spine ρ S)) e b0 in
      let (R0, T0, p, q) = split_renamed ρ S R T f in
      let b : β' ≡ moved ρ β = fun_ext h in
      (R0, T0, p, rename_injective_spine ρ i (fill_spine μ β R0) V (fill_rename_spine μ ρ β R0 ∙ ap (λ k. fill_spine μ k (rename_spine ρ R0)) (sym b) ∙ ap (fill_spine μ β') (sym q) ∙ g))

  mutual
    owned_moved : (o o' : ℕ → Option Spine) (β β' : ℕ → Option Term) (ρ : ℕ → ℕ) (M : Term) → Moved o o' β β' ρ → Owned o β M → Owned o' β' (rename ρ M)
    owned_moved o o' β β' ρ (lambda M) w m = owned_moved (λ c. weaken_own (o c)) (λ c. weaken_own (o' c)) (moved suc β) (moved suc β') (lift_renaming ρ) M (moved_under o o' β β' ρ w) m
    owned_moved o o' β β' ρ (root (constant c) S) w (b, s) = (begins_moved β β' ρ (o c) (o' c) S w.values (w.own c) b, spine_moved o o' β β' ρ S w s)
    owned_moved o o' β β' ρ (root (variable i) S) w s = spine_moved o o' β β' ρ S w s
    owned_moved o o' β β' ρ (root (metavariable m) S) w s = spine_moved o o' β β' ρ S w s

    spine_moved : (o o' : ℕ → Option Spine) (β β' : ℕ → Option Term) (ρ : ℕ → ℕ) (S : Spine) → Moved o o' β β' ρ → SpineOwned o β S → SpineOwned o' β' (rename_spine ρ S)
    spine_moved o o' β β' ρ nil w s = s
    spine_moved o o' β β' ρ (app M S) w (m, s) = (owned_moved o o' β β' ρ M w m, spine_moved o o' β β' ρ S w s)

  mutual
    owned_back : (o o' : ℕ → Option Spine) (β β' : ℕ → Option Term) (ρ : ℕ → ℕ) (M : Term) → Injective ρ → Moved o o' β β' ρ → Owned o' β' (rename ρ M) → Owned o β M
    owned_back o o' β β' ρ (lambda M) i w m = owned_back (λ c. weaken_own (o c)) (λ c. weaken_own (o' c)) (moved suc β) (moved suc β') (lift_renaming ρ) M (up_injective ρ i) (moved_under o o' β β' ρ w) m
    owned_back o o' β β' ρ (root (constant c) S) i w (b, s) = (begins_back β β' ρ (o c) (o' c) S i w.values (w.own c) b, spine_back o o' β β' ρ S i w s)
    owned_back o o' β β' ρ (root (variable j) S) i w s = spine_back o o' β β' ρ S i w s
    owned_back o o' β β' ρ (root (metavariable m) S) i w s = spine_back o o' β β' ρ S i w s

    spine_back : (o o' : ℕ → Option Spine) (β β' : ℕ → Option Term) (ρ : ℕ → ℕ) (S : Spine) → Injective ρ → Moved o o' β β' ρ → SpineOwned o' β' (rename_spine ρ S) → SpineOwned o β S
    spine_back o o' β β' ρ nil i w s = s
    spine_back o o' β β' ρ (app M S) i w (m, s) = (owned_back o o' β β' ρ M i w m, spine_back o o' β β' ρ S i w s)

  pub owned_renamed : (o o' : ℕ → Option Spine) (β β' : ℕ → Option Term) (ρ : ℕ → ℕ) (M : Term) → ((c : ℕ) → o' c ≡ rename_own ρ (o c)) → ((m : ℕ) → β' m ≡ rename_value ρ (β m)) → Owned o β M → Owned o' β' (rename ρ M)
  owned_renamed o o' β β' ρ M g h m = owned_moved o o' β β' ρ M (record { own = g; values = h }) m

  pub owned_unrenamed : (o o' : ℕ → Option Spine) (β β' : ℕ → Option Term) (ρ : ℕ → ℕ) (M : Term) → Injective ρ → ((c : ℕ) → o' c ≡ rename_own ρ (o c)) → ((m : ℕ) → β' m ≡ rename_value ρ (β m)) → Owned o' β' (rename ρ M) → Owned o β M
  owned_unrenamed o o' β β' ρ M i g h m = owned_back o o' β β' ρ M i (record { own = g; values = h }) m

  type_moved : (o o' : ℕ → Option Spine) (β β' : ℕ → Option Term) (ρ : ℕ → ℕ) (A : LfType) → Moved o o' β β' ρ → TypeOwned o β A → TypeOwned o' β' (rename_type ρ A)
  type_moved o o' β β' ρ (pi A B) w (a, b) = (type_moved o o' β β' ρ A w a, type_moved (λ c. weaken_own (o c)) (λ c. weaken_own (o' c)) (moved suc β) (moved suc β') (lift_renaming ρ) B (moved_under o o' β β' ρ w) b)
  type_moved o o' β β' ρ (atom a S) w s = spine_moved o o' β β' ρ S w s

  type_back : (o o' : ℕ → Option Spine) (β β' : ℕ → Option Term) (ρ : ℕ → ℕ) (A : LfType) → Injective ρ → Moved o o' β β' ρ → TypeOwned o' β' (rename_type ρ A) → TypeOwned o β A
  type_back o o' β β' ρ (pi A B) i w (a, b) = (type_back o o' β β' ρ A i w a, type_back (λ c. weaken_own (o c)) (λ c. weaken_own (o' c)) (moved suc β) (moved suc β') (lift_renaming ρ) B (up_injective ρ i) (moved_under o o' β β' ρ w) b)
  type_back o o' β β' ρ (atom a S) i w s = spine_back o o' β β' ρ S i w s

  pub type_owned_renamed : (o o' : ℕ → Option Spine) (β β' : ℕ → Option Term) (ρ : ℕ → ℕ) (A : LfType) → ((c : ℕ) → o' c ≡ rename_own ρ (o c)) → ((m : ℕ) → β' m ≡ rename_value ρ (β m)) → TypeOwned o β A → TypeOwned o' β' (rename_type ρ A)
  type_owned_renamed o o' β β' ρ A g h a = type_moved o o' β β' ρ A (record { own = g; values = h }) a

  pub type_owned_unrenamed : (o o' : ℕ → Option Spine) (β β' : ℕ → Option Term) (ρ : ℕ → ℕ) (A : LfType) → Injective ρ → ((c : ℕ) → o' c ≡ rename_own ρ (o c)) → ((m : ℕ) → β' m ≡ rename_value ρ (β m)) → TypeOwned o' β' (rename_type ρ A) → TypeOwned o β A
  type_owned_unrenamed o o' β β' ρ A i g h a = type_back o o' β β' ρ A i (record { own = g; values = h }) a

  -- Eta-long forms of variables and metavariables have no constants of their own.
  abbrev pub IsFlexible : Head → Type 0
  IsFlexible (constant c) = ⊥
  IsFlexible (variable i) = Unit {0}
  IsFlexible (metavariable m) = Unit {0}

  spine_added : (o : ℕ → Option Spine) (β : ℕ → Option Term) (S : Spine) (N : Term) → SpineOwned o β S → Owned o β N → SpineOwned o β (add_last S N)
  spine_added o β nil N s n = (n, tt)
  spine_added o β (app M S) N (m, s) n = (m, spine_added o β S N s n)

  pub at_head : (o : ℕ → Option Spine) (β : ℕ → Option Term) (h : Head) (S : Spine) → IsFlexible h → SpineOwned o β S → Owned o β (root h S)
  at_head o β (constant c) S f s = absurd f
  at_head o β (variable i) S f s = s
  at_head o β (metavariable m) S f s = s

  pub flexible_renamed : (ρ : ℕ → ℕ) (h : Head) → IsFlexible h → IsFlexible (rename_head ρ h)
  flexible_renamed ρ (constant c) f = f
  flexible_renamed ρ (variable i) f = f
  flexible_renamed ρ (metavariable m) f = f

  pub expand_owned : (a : Skeleton) (o : ℕ → Option Spine) (β : ℕ → Option Term) (h : Head) (S : Spine) → IsFlexible h → SpineOwned o β S → Owned o β (eta_expand a h S)
  expand_owned (base c) o β h S f s = at_head o β h S f s
  expand_owned (arrow a b) o β h S f s =
      let o' : ℕ → Option Spine = λ c. weaken_own (o c) in
      let w : Moved o o' β (moved suc β) suc = record { own = λ c. own_as_renamed (o c); values = λ m. refl } in
      expand_owned b o' (moved suc β) (rename_head suc h) (add_last (rename_spine suc S) (eta_expand a (variable zero) nil)) (flexible_renamed suc h f) (spine_added o' (moved suc β) (rename_spine suc S) (eta_expand a (variable zero) nil) (spine_moved o o' β (moved suc β) suc S w s) (expand_owned a o' (moved suc β) (variable zero) nil tt tt))

  pub pattern_owned : (t : Skeleton) (o : ℕ → Option Spine) (β : ℕ → Option Term) (xs : List ℕ) → SpineOwned o β (pattern t xs)
  pattern_owned (base c) o β xs = tt
  pattern_owned (arrow a b) o β [] = tt
  pattern_owned (arrow a b) o β (x ∷ xs) = (expand_owned a o β (variable x) nil tt tt, pattern_owned b o β xs)
