-- Decomposition keeps the typing of equations; steps compose.
use Rattle.std.proofs.Common.{◌≡◌, ℕ, suc, List, [], ◌∷◌, Option, Some, refl, sym, ap, ap₂, ◌∙◌, subst}
use Rattle.lf.specs.Substitution.{reduce, single}
use Rattle.lf.specs.Skeletons.{context_skeletons, family_skeletons}
use Rattle.lf.specs.Syntax.{Skeleton, Spine, Term, LfType, app, arrow, atom, nil, pi, skeleton}
use Rattle.lf.specs.Typing.{TypeAt, IsSignature, Signature, instantiate_type}
use Rattle.lf.specs.Variables.{onto}
use Rattle.lf_unification.specs.Filling.{fill, fill_type, moved}
use Rattle.lf_unification.specs.OpenTyping.{OpenSpineType, OpenHasType, TypesAgree, skeletons_of, weaken_past, under_locals}
use Rattle.lf_unification.specs.Patterns.{local_skeletons}
use Rattle.lf_unification.specs.Offering.{argument_equations}
use Rattle.lf_unification.specs.Skeletons.{TotalSkeletons, as_head_skeletons, total_skeletons}
use Rattle.lf_unification.specs.Unifiers.{KeepsUnifiers}
use Rattle.lf_unification.specs.Unifiers.{Equation, MostGeneral, SolvesAll, Store}
use Rattle.lf.proofs.SkeletonTypes.{single_type_by_skeletons}
use Rattle.lf.proofs.TypeLaws.{skeleton_substituted}
use Rattle.lf_unification.proofs.Eta.{rename_id, rename_id_type}
use Rattle.lf_unification.proofs.Filling.{SkeletonsFill, fill_instance}
use Rattle.lf_unification.proofs.Offer.{β₁}
use Rattle.lf_unification.proofs.OpenRenamingBack.{Known, OpenHasType-unrename, AllSkeletonsUpTo, SkeletonsUpTo, values_under}

-- steps compose, and a run of steps gives what is most general
pub keeps_unifiers_refl : (Σ : Signature) (G : List LfType) (s : Store) → KeepsUnifiers Σ G s s
keeps_unifiers_refl Σ G s = record { grows = λ m A e. e; sound = λ F β u. (β, λ m A e. refl, u); complete = λ F β u. (β, λ m A e. refl, u) }

pub keeps_unifiers_then : (Σ : Signature) (G : List LfType) (s s' s'' : Store) → KeepsUnifiers Σ G s s' → KeepsUnifiers Σ G s' s'' → KeepsUnifiers Σ G s s''
keeps_unifiers_then Σ G s s' s'' p q = record {
  grows = λ m A e. q.grows m A (p.grows m A e);
  sound = λ F β u. let (β₁, x₁, u₁) = q.sound F β u in let (β₂, x₂, u₂) = p.sound F β₁ u₁ in (β₂, λ m A e. x₁ m A (p.grows m A e) ∙ x₂ m A e, u₂);
  complete = λ F β u. let (β₁, x₁, u₁) = p.complete F β u in let (β₂, x₂, u₂) = q.complete F β₁ u₁ in (β₂, λ m A e. x₂ m A (p.grows m A e) ∙ x₁ m A e, u₂);
}

pub most_general : (Σ : Signature) (G : List LfType) (Ψ : ℕ → Option LfType) (es : List Equation) (s : Store) → KeepsUnifiers Σ G (record { metavariables = Ψ; bindings = []; equations = es }) s → MostGeneral Σ G Ψ es s
most_general Σ G Ψ es s p = record {
  sound = λ F β u. let (β₁, x, v) = p.sound F β u in (β₁, x, v.0, v.1.1);
  complete = λ F β w u. p.complete F β (w, (tt, u));
}

module _ (Σ : Signature) (ok : IsSignature Σ) (G : List LfType) (Ψ : ℕ → Option LfType) (U : (ℕ → Option Term) → Type 0) (skeletons_U : (β : ℕ → Option Term) → U β → SkeletonsUpTo Σ ok G Ψ U β) (metavariables_skeletons : (D : List LfType) (m : ℕ) (B : LfType) → Ψ m ≡ Some B → AllSkeletonsUpTo Σ ok G Ψ U skeletons_U D (weaken_past D B)) (D : List LfType) (here : (i : ℕ) (X : LfType) → TypeAt (onto D G) i X → AllSkeletonsUpTo Σ ok G Ψ U skeletons_U D X) where
  abbrev μ : ℕ → Skeleton
  μ = skeletons_of Ψ

  abbrev κ : TotalSkeletons
  κ = total_skeletons Σ μ

  abbrev Same : LfType → LfType → Type 0
  Same A B = TypesAgree Σ G Ψ U D A B

  abbrev Ok : LfType → Type 0
  Ok A = AllSkeletonsUpTo Σ ok G Ψ U skeletons_U D A

  pub known_id : Known Σ ok G Ψ U skeletons_U D D (λ i. i)
  known_id = record {
    moves = record { distinct = λ i j e. e; outer = λ i. refl; types = λ i X g. (X, g, subst (λ Z. Same Z X) (sym (rename_id_type X)) (refl, λ β u. refl)) };
    here = here;
    there = λ i Y g. subst Ok (sym (rename_id_type Y)) (here i Y g);
  }

  -- conversion
  pub OpenHasType-convert : (N : Term) (A B : LfType) → Ok A → Ok B → Same A B → OpenHasType Σ G Ψ U D N B → OpenHasType Σ G Ψ U D N A
  OpenHasType-convert N A B a b s n = OpenHasType-unrename Σ ok G Ψ U skeletons_U metavariables_skeletons D D (λ i. i) N A B known_id (subst Ok (sym (rename_id_type A)) a) b (subst (λ Z. Same Z B) (sym (rename_id_type A)) s) (subst (λ M. OpenHasType Σ G Ψ U D M B) (sym (rename_id N)) n)

  abbrev pub Typed : List Equation → Type 0
  Typed [] = Unit {0}
  Typed (e ∷ es) = OpenHasType Σ G Ψ U e.local e.left e.of_type × OpenHasType Σ G Ψ U e.local e.right e.of_type × Typed es

  pub same_next : (A B X Y : LfType) (M N : Term) → Ok (pi A B) → Ok (pi X Y) → OpenHasType Σ G Ψ U D M A → OpenHasType Σ G Ψ U D N X → Same (pi A B) (pi X Y) → ((β : ℕ → Option Term) → U β → fill μ (under_locals D β) M ≡ fill μ (under_locals D β) N) → Same (instantiate_type A M B) (instantiate_type X N Y)
  same_next A B X Y M N a x m n (e, f) h = (
    skeleton_substituted reduce (single (skeleton A) M) B ∙ (let q : skeleton B ≡ skeleton Y = cc in q) ∙ sym (skeleton_substituted reduce (single (skeleton X) N) Y),
    λ β u.
        let w : SkeletonsUpTo Σ ok G Ψ U β = skeletons_U β u in
        let Γ : List Skeleton = local_skeletons D (context_skeletons w.free) in
        let g : SkeletonsFill κ Γ (under_locals D β) = values_under Σ ok G Ψ U D β (context_skeletons w.free) w.values in
        let r : pi (fill_type μ (under_locals D β) A) (fill_type μ (moved suc (under_locals D β)) B) ≡ pi (fill_type μ (under_locals D β) X) (fill_type μ (moved suc (under_locals D β)) Y) = f β u in
        let p : fill_type μ (under_locals D β) A ≡ fill_type μ (under_locals D β) X = cc in
        let q : fill_type μ (moved suc (under_locals D β)) B ≡ fill_type μ (moved suc (under_locals D β)) Y = cc in
        fill_instance κ (family_skeletons Σ) Γ (under_locals D β) A M B g (w.terms D M A m) (a β u).1 ∙ ap (λ M. instantiate_type (fill_type μ (under_locals D β) A) M (fill_type μ (moved suc (under_locals D β)) B)) (h β u) ∙ ap₂ (λ z y. instantiate_type z (fill μ (under_locals D β) N) y) p q ∙ sym (fill_instance κ (family_skeletons Σ) Γ (under_locals D β) X N Y g (w.terms D N X n) (x β u).1),
  )

  pub next_ok : (A B : LfType) (M : Term) → OpenHasType Σ G Ψ U D M A → Ok (pi A B) → Ok (instantiate_type A M B)
  next_ok A B M m a β u = single_type_by_skeletons (family_skeletons Σ) (as_head_skeletons κ) (skeleton A) (local_skeletons D (context_skeletons (skeletons_U β u).free)) M B ((skeletons_U β u).terms D M A m) (a β u).1

  -- THE theorem: the equations of the arguments are typed up to their own unifiers
  pub arguments_typed : (X Y : LfType) (S T : Spine) (C C' : LfType) → Ok X → Ok Y → Same X Y → OpenSpineType Σ G Ψ U D S X C → OpenSpineType Σ G Ψ U D T Y C' → ((β : ℕ → Option Term) → U β → SolvesAll μ β (argument_equations D X S T)) → Typed (argument_equations D X S T)
  arguments_typed (pi X X') (pi Y Y') (app M S) (app N T) C C' x y s (m, p) (n, q) h =
      let s₀ : Same X Y = ((let e : arrow (skeleton X) (skeleton X') ≡ arrow (skeleton Y) (skeleton Y') = s.0 in let o : skeleton X ≡ skeleton Y = cc in o), λ β u. let r : pi (fill_type μ (under_locals D β) X) (fill_type μ (moved suc (under_locals D β)) X') ≡ pi (fill_type μ (under_locals D β) Y) (fill_type μ (moved suc (under_locals D β)) Y') = s.1 β u in cc) in
      let n' : OpenHasType Σ G Ψ U D N X = OpenHasType-convert N X Y (λ β u. (x β u).0) (λ β u. (y β u).0) s₀ n in
      (m, n', arguments_typed (instantiate_type X M X') (instantiate_type Y N Y') S T C C' (next_ok X X' M m x) (next_ok Y Y' N n y) (same_next X X' Y Y' M N x y m n s (λ β u. (h β u).0)) p q (λ β u. (h β u).1))
  arguments_typed (pi X X') (atom a V) (app M S) (app N T) C C' x y s (m, p) q h = absurd q
  arguments_typed (pi X X') Y (app M S) nil C C' x y s p q h = tt
  arguments_typed (pi X X') Y nil T C C' x y s p q h = tt
  arguments_typed (atom a V) Y S T C C' x y s p q h = tt
