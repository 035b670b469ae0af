-- A type without an argument is a pruned type, and where there is a pruned type there is one without the argument.
use Rattle.std.proofs.Common.{◌≡◌, ℕ, zero, suc, ◌+◌, ◌-◌, ◌<◌, ◌≤◌, List, [], ◌∷◌, length, Option, Some, ◌⊎◌, inl, inr, refl, sym, ap, ap₂, ◌∙◌, subst, arith}
use mathlib.Core.Path.{fun_ext}
use Rattle.std.specs.Prelude.{nat_lt, true, false}
use Rattle.lf.specs.AtOnce.{lift_renaming_by, shift_by}
use Rattle.lf.specs.Eta.{arity}
use Rattle.lf.specs.Syntax.{LfType, atom, pi, rename_spine, rename_type, skeleton, lift_renaming, weaken}
use Rattle.lf.specs.Typing.{TypeAt}
use Rattle.lf.specs.Variables.{binders, onto, target, target_arguments}
use Rattle.lf.proofs.Decidability.{variable_type_unique}
use Rattle.lf.proofs.TypeLaws.{rename_weakened, renamings_compose_type, skeleton_renamed}
use Rattle.lf_unification.specs.Offering.{pi_over}
use Rattle.lf_unification.specs.Patterns.{FreeVariablesInSpine, InImage, Injective, LiftedSet, PatternFits, beyond, context_under, pattern, pattern_renaming, past}
use Rattle.lf_unification.specs.Pruning.{IsPartOf, PrunedType, kept_renaming, pruned_type}
use Rattle.lf_unification.proofs.BindTyped.{at_or_outer, at_outer}
use Rattle.lf_unification.proofs.Eta.{rename_id_type}
use Rattle.lf_unification.proofs.Inverse.{FreeVariablesInSpine-weaker, only_back_spine, only_rename_spine, unrename_spine}
use Rattle.lf_unification.proofs.Within.{FreeVariablesInType, only_weaker_type}
use Rattle.tw_prune.proofs.Options.{lt_tells}
use Rattle.tw_prune.proofs.Tables.{beyond_is, lift_high, lift_injective, lift_low}
use Rattle.tw_prune.proofs.Without.{IsWithout, kept_fit, kept_of, kept_renaming_is, skeleton_without, without_skeleton}

-- E is E' with one more type behind the v newest, which are moved over it
abbrev pub Inserted : ℕ → List LfType → List LfType → Type 0
Inserted zero E' [] = ⊥
Inserted zero E' (A ∷ E) = E ≡ E'
Inserted (suc v) [] E = ⊥
Inserted (suc v) (B' ∷ E') [] = ⊥
Inserted (suc v) (B' ∷ E') (B ∷ E) = (B ≡ rename_type (lift_renaming_by v suc) B') × Inserted v E' E

inserted_type : (v : ℕ) (E' E : List LfType) → Inserted v E' E → (i : ℕ) (Y : LfType) → TypeAt (onto E' []) i Y → TypeAt (onto E []) (lift_renaming_by v suc i) (rename_type (lift_renaming_by v suc) Y)
inserted_type zero E' [] s i Y g = absurd s
inserted_type zero E' (A ∷ E) s i Y g = (Y, subst (λ F. TypeAt (onto F []) i Y) (sym s) g, refl)
inserted_type (suc v) [] E s i Y g = absurd s
inserted_type (suc v) (B' ∷ E') [] s i Y g = absurd s
inserted_type (suc v) (B' ∷ E') (B ∷ E) (e, s) zero Y g = ap (rename_type (lift_renaming_by (suc v) suc)) g ∙ rename_weakened (lift_renaming_by v suc) B' ∙ ap weaken (sym e)
inserted_type (suc v) (B' ∷ E') (B ∷ E) (e, s) (suc i) Y (C, g, f) = (rename_type (lift_renaming_by v suc) C, inserted_type v E' E s i C g, ap (rename_type (lift_renaming_by (suc v) suc)) f ∙ rename_weakened (lift_renaming_by v suc) C)

inserted_length : (v : ℕ) (E' E : List LfType) → Inserted v E' E → (length E ≡ length E' + 1) × (v ≤ length E')
inserted_length zero E' [] s = absurd s
inserted_length zero E' (A ∷ E) s = let e : length E ≡ length E' = ap length s in (omega (arith, e), omega arith)
inserted_length (suc v) [] E s = absurd s
inserted_length (suc v) (B' ∷ E') [] s = absurd s
inserted_length (suc v) (B' ∷ E') (B ∷ E) (e, s) = let (p, q) = inserted_length v E' E s in (omega (arith, p), omega (arith, q))

-- under the quantifiers of a type that is moved
pub record Under (w : ℕ) (E' E : List LfType) (Z' Z : LfType) : Type 0 where
  pub inserted : Inserted w (binders E' Z') (binders E Z)
  pub same_family : target Z ≡ target Z'
  pub arguments : target_arguments Z ≡ rename_spine (lift_renaming_by w suc) (target_arguments Z')

under_quantifiers : (v : ℕ) (E' E : List LfType) (Z : LfType) (w : ℕ) → Inserted v E' E → w ≡ v + arity (skeleton Z) → Under w E' E Z (rename_type (lift_renaming_by v suc) Z)
under_quantifiers v E' E (pi A B) w s e =
    let q : w ≡ suc v + arity (skeleton B) = omega (arith, e) in
    let u = under_quantifiers (suc v) (A ∷ E') (rename_type (lift_renaming_by v suc) A ∷ E) B w (refl, s) q in
    record { inserted = u.inserted; same_family = u.same_family; arguments = u.arguments }
under_quantifiers v E' E (atom a S) w s e =
    let q : v ≡ w = omega (arith, e) in
    record { inserted = subst (λ x. Inserted x E' E) q s; same_family = refl; arguments = ap (λ x. rename_spine (lift_renaming_by x suc) S) q }

-- and of a type without an argument
without_under : (k : ℕ) (G : List LfType) (X Y : LfType) (v : ℕ) → IsWithout k X Y → v + k + 1 ≡ arity (skeleton X) → Under v G G Y X
without_under k G (atom a S) Y v w e = absurd w
without_under zero G (pi A B) Y v w e =
    let s : arity (skeleton B) ≡ arity (skeleton Y) = ap arity (ap skeleton (sym w) ∙ skeleton_renamed suc Y) in
    let q : v ≡ 0 + arity (skeleton Y) = omega (arith, s, e) in
    let u : Under v G (A ∷ G) Y (rename_type suc Y) = under_quantifiers zero G (A ∷ G) Y v refl q in
    let u' : Under v G (A ∷ G) Y B = subst (λ Z. Under v G (A ∷ G) Y Z) w u in
    record { inserted = u'.inserted; same_family = u'.same_family; arguments = u'.arguments }
without_under (suc k) G (pi A B) (atom a S) v w e = absurd w
without_under (suc k) G (pi A B) (pi A' B') v (p, w) e =
    let u = without_under k (A ∷ G) B B' v w (omega (arith, e)) in
    let i : Inserted v (binders (A' ∷ G) B') (binders (A ∷ G) B) = subst (λ C. Inserted v (binders (C ∷ G) B') (binders (A ∷ G) B)) (sym p) u.inserted in
    record { inserted = i; same_family = u.same_family; arguments = u.arguments }

-- a type, by its quantifiers and its target
pub pi_over_binders : (G : List LfType) (X : LfType) → pi_over (binders G X) (atom (target X) (target_arguments X)) ≡ pi_over G X
pi_over_binders G (pi A B) = pi_over_binders (A ∷ G) B
pi_over_binders G (atom a S) = refl

-- the renaming of the pruned type
module _ (k : ℕ) (X Y : LfType) (v : ℕ) (w : IsWithout k X Y) (e : v + k + 1 ≡ arity (skeleton X)) where
  abbrev ρ : ℕ → ℕ
  ρ = lift_renaming_by v suc

  abbrev kept : List ℕ
  kept = kept_of k (skeleton X)

  abbrev old : LfType
  old = pi_over (binders [] X) (atom (target X) (target_arguments X))

  abbrev new : LfType
  new = pi_over (binders [] Y) (atom (target X) (target_arguments Y))

  under_it : Under v [] [] Y X
  under_it = without_under k [] X Y v w e

  old_is : old ≡ X
  old_is = pi_over_binders [] X

  new_is : new ≡ Y
  new_is = ap (λ a. pi_over (binders [] Y) (atom a (target_arguments Y))) under_it.same_family ∙ pi_over_binders [] Y

  new_skeleton : skeleton new ≡ without_skeleton k (skeleton X)
  new_skeleton = ap skeleton new_is ∙ skeleton_without k X Y w

  renaming_is : kept_renaming old new kept ≡ ρ
  renaming_is = ap₂ (λ t u. pattern_renaming t kept (past u)) new_skeleton (ap skeleton old_is) ∙ kept_renaming_is k (skeleton X) v e

  part_of : IsPartOf (binders [] Y) (binders [] X) ρ
  part_of = record { outer = outer; types = inserted_type v (binders [] Y) (binders [] X) under_it.inserted }
    where
      outer : (i : ℕ) → ρ (beyond (binders [] Y) i) ≡ beyond (binders [] X) i
      outer i =
          let (l, m) = inserted_length v (binders [] Y) (binders [] X) under_it.inserted in
          let a = beyond_is (binders [] Y) i in
          let b = beyond_is (binders [] X) i in
          let z : beyond (binders [] Y) i ≡ (beyond (binders [] Y) i - v) + v = omega (arith, a, m) in
          let y : suc (beyond (binders [] Y) i - v) + v ≡ beyond (binders [] X) i = omega (arith, a, b, l, m) in
          ap ρ z ∙ lift_high v suc (beyond (binders [] Y) i - v) ∙ y

  suc_injective : Injective suc
  suc_injective i j q = cc

  stay : (i : ℕ) → (i ≡ v → ⊥) → InImage ρ i
  stay i n = go (lt_tells i v)
    where
      go : ((nat_lt i v ≡ true) × (i < v)) ⊎ ((nat_lt i v ≡ false) × (v ≤ i)) → InImage ρ i
      go (inl (f, l)) = (i, lift_low v suc i l)
      go (inr (f, l)) =
          let m : v < i = above n l in
          let z : suc (i - 1 - v) + v ≡ i = omega arith in
          ((i - 1 - v) + v, lift_high v suc (i - 1 - v) ∙ z)
        where
          above : (i ≡ v → ⊥) → v ≤ i → v < i
          above n l = at (lt_tells v i)
            where
              at : ((nat_lt v i ≡ true) × (v < i)) ⊎ ((nat_lt v i ≡ false) × (i ≤ v)) → v < i
              at (inl (f, h)) = h
              at (inr (f, h)) = absurd (n (omega arith))

  lost : InImage ρ v → ⊥
  lost (j, f) = go (lt_tells j v)
    where
      go : ((nat_lt j v ≡ true) × (j < v)) ⊎ ((nat_lt j v ≡ false) × (v ≤ j)) → ⊥
      go (inl (g, l)) = let q : j ≡ v = sym (lift_low v suc j l) ∙ f in omega (arith, q, l)
      go (inr (g, l)) =
          let z : (j - v) + v ≡ j = omega arith in
          let q : suc (j - v) + v ≡ v = sym (lift_high v suc (j - v)) ∙ ap ρ z ∙ f in
          omega (arith, q)

  pub pruned_of : (Ψ : ℕ → Option LfType) (n : ℕ) → Ψ n ≡ Some X → PrunedType Ψ n v
  pruned_of Ψ n d = record {
    local = binders [] X;
    family = target X;
    indices = target_arguments X;
    declared = d ∙ ap Some (sym old_is);
    kept_local = binders [] Y;
    kept_indices = target_arguments Y;
    kept = kept;
    distinct = subst Injective (sym renaming_is) (lift_injective v suc suc_injective);
    places = λ Γ. subst (λ u. PatternFits (context_under (skeleton old) Γ) u kept) (sym new_skeleton) (subst (λ u. PatternFits (context_under u Γ) (without_skeleton k (skeleton X)) kept) (sym (ap skeleton old_is)) (kept_fit k (skeleton X) Γ));
    part = subst (IsPartOf (binders [] Y) (binders [] X)) (sym renaming_is) part_of;
    same_target = ap (atom (target X)) (under_it.arguments ∙ ap (λ f. rename_spine f (target_arguments Y)) (sym renaming_is));
    others_stay = λ i h. subst (λ f. InImage f i) (sym renaming_is) (stay i h);
    is_lost = λ h. lost (subst (λ f. InImage f v) renaming_is h);
  }

  pub pruned_is : (Ψ : ℕ → Option LfType) (n : ℕ) (d : Ψ n ≡ Some X) → pruned_type (pruned_of Ψ n d) ≡ Y
  unfolding pruned_of
  pruned_is Ψ n d = new_is

  pub pruned_pattern : (Ψ : ℕ → Option LfType) (n : ℕ) (d : Ψ n ≡ Some X) → pattern (skeleton (pruned_type (pruned_of Ψ n d))) (pruned_of Ψ n d).kept ≡ pattern (without_skeleton k (skeleton X)) kept
  unfolding pruned_of
  pruned_pattern Ψ n d = ap (λ t. pattern t kept) new_skeleton

-- Where there is a pruned type, nothing after the argument mentions it.
abbrev Not : ℕ → ℕ → Type 0
Not w i = i ≡ w → ⊥

only_back_type : (P : ℕ → Type 0) (σ : ℕ → ℕ) (A : LfType) → FreeVariablesInType P (rename_type σ A) → FreeVariablesInType (λ i. P (σ i)) A
only_back_type P σ (pi A B) (a, b) = (only_back_type P σ A a, only_weaker_type (λ i. LiftedSet P (lift_renaming σ i)) (LiftedSet (λ i. P (σ i))) push B (only_back_type (LiftedSet P) (lift_renaming σ) B b))
  where
    push : (i : ℕ) → LiftedSet P (lift_renaming σ i) → LiftedSet (λ j. P (σ j)) i
    push zero p = p
    push (suc i) p = p
only_back_type P σ (atom a S) s = only_back_spine P σ S s

only_rename_type : (σ : ℕ → ℕ) (A : LfType) → FreeVariablesInType (InImage σ) (rename_type σ A)
only_rename_type σ (pi A B) = (only_rename_type σ A, only_weaker_type (InImage (lift_renaming σ)) (LiftedSet (InImage σ)) push (rename_type (lift_renaming σ) B) (only_rename_type (lift_renaming σ) B))
  where
    push : (i : ℕ) → InImage (lift_renaming σ) i → LiftedSet (InImage σ) i
    push zero p = tt
    push (suc i) (zero, f) = cc
    push (suc i) (suc j, f) = (j, (let q : σ j ≡ i = cc in q))
only_rename_type σ (atom a S) = only_rename_spine σ S

unrename_whole_type : (σ : ℕ → ℕ) (A : LfType) → FreeVariablesInType (InImage σ) A → (B : LfType) × (rename_type σ B ≡ A)
unrename_whole_type σ (pi A B) (a, b) =
    let (A', f) = unrename_whole_type σ A a in
    let (B', g) = unrename_whole_type (lift_renaming σ) B (only_weaker_type (LiftedSet (InImage σ)) (InImage (lift_renaming σ)) push B b) in
    (pi A' B', ap₂ pi f g)
  where
    push : (i : ℕ) → LiftedSet (InImage σ) i → InImage (lift_renaming σ) i
    push zero p = (zero, refl)
    push (suc i) (j, f) = (suc j, ap suc f)
unrename_whole_type σ (atom a S) s = let (R, f) = unrename_spine σ S s in (atom a R, ap (atom a) f)

-- a type of the context, under the quantifiers of a type
at_under : (Z : LfType) (E : List LfType) (i : ℕ) (C : LfType) → TypeAt E i C → (C' : LfType) × TypeAt (binders E Z) (i + arity (skeleton Z)) C' × (C' ≡ rename_type (shift_by (arity (skeleton Z))) C)
at_under (pi A B) E i C g =
    let (C', h, f) = at_under B (A ∷ E) (suc i) (weaken C) (C, g, refl) in
    let z : suc i + arity (skeleton B) ≡ i + suc (arity (skeleton B)) = omega arith in
    (C', subst (λ x. TypeAt (binders (A ∷ E) B) x C') z h, f ∙ renamings_compose_type (shift_by (arity (skeleton B))) suc C ∙ ap (λ f. rename_type f C) (fun_ext shifted))
  where
    shifted : (x : ℕ) → shift_by (arity (skeleton B)) (suc x) ≡ shift_by (suc (arity (skeleton B))) x
    shifted x = omega arith
at_under (atom a S) E i C g =
    let z : i ≡ i + 0 = omega arith in
    (C, subst (λ x. TypeAt E x C) z g, sym (rename_id_type C) ∙ ap (λ f. rename_type f C) (fun_ext none))
  where
    none : (x : ℕ) → x ≡ shift_by 0 x
    none x = omega arith

not_pushed : (w i : ℕ) → Not (suc w) i → LiftedSet (Not w) i
not_pushed w zero n = tt
not_pushed w (suc i) n = λ f. n (ap suc f)

free_in : (Z : LfType) (E : List LfType) (w u : ℕ) → u ≡ w + arity (skeleton Z) → ((i : ℕ) (A : LfType) → TypeAt (binders E Z) i A → (i ≡ u → ⊥) → FreeVariablesInType (Not u) A) → FreeVariablesInSpine (Not u) (target_arguments Z) → FreeVariablesInType (Not w) Z
free_in (pi A B) E w u e types goal =
    let q : u ≡ suc w + arity (skeleton B) = omega (arith, e) in
    let b : FreeVariablesInType (Not (suc w)) B = free_in B (A ∷ E) (suc w) u q types goal in
    let (C, h, f) = at_under B (A ∷ E) 0 (weaken A) refl in
    let n : 0 + arity (skeleton B) ≡ u → ⊥ = λ x. omega (arith, x, e) in
    let c : FreeVariablesInType (Not u) (rename_type (shift_by (arity (skeleton B))) (weaken A)) = subst (FreeVariablesInType (Not u)) f (types (0 + arity (skeleton B)) C h n) in
    let a : FreeVariablesInType (λ i. Not u (shift_by (arity (skeleton B)) (suc i))) A = only_back_type (λ i. Not u (shift_by (arity (skeleton B)) i)) suc A (only_back_type (Not u) (shift_by (arity (skeleton B))) (weaken A) c) in
    (only_weaker_type (λ i. Not u (shift_by (arity (skeleton B)) (suc i))) (Not w) (λ i n x. n (omega (arith, x, e))) A a, only_weaker_type (Not (suc w)) (LiftedSet (Not w)) (not_pushed w) B b)
free_in (atom a S) E w u e types goal = let q : u ≡ w = omega (arith, e) in subst (λ x. FreeVariablesInSpine (Not x) S) q goal

without_at : (k : ℕ) (X : LfType) (E : List LfType) (v : ℕ) → v + k + 1 ≡ arity (skeleton X) → ((i : ℕ) (A : LfType) → TypeAt (binders E X) i A → (i ≡ v → ⊥) → FreeVariablesInType (Not v) A) → FreeVariablesInSpine (Not v) (target_arguments X) → (Y : LfType) × IsWithout k X Y
without_at k (atom a S) E v e types goal = absurd (omega arith)
without_at zero (pi A B) E v e types goal =
    let q : v ≡ 0 + arity (skeleton B) = omega (arith, e) in
    let b : FreeVariablesInType (Not 0) B = free_in B (A ∷ E) 0 v q types goal in
    unrename_whole_type suc B (only_weaker_type (Not 0) (InImage suc) from B b)
  where
    from : (i : ℕ) → Not 0 i → InImage suc i
    from zero n = absurd (n refl)
    from (suc i) n = (i, refl)
without_at (suc k) (pi A B) E v e types goal =
    let (Y, w) = without_at k B (A ∷ E) v (omega (arith, e)) types goal in
    (pi A Y, (refl, w))

binders_over : (G D : List LfType) (P : LfType) → binders G (pi_over D P) ≡ binders (onto D G) P
binders_over G [] P = refl
binders_over G (A ∷ D) P = binders_over G D (pi A P)

arguments_of_over : (D : List LfType) (P : LfType) → target_arguments (pi_over D P) ≡ target_arguments P
arguments_of_over [] P = refl
arguments_of_over (A ∷ D) P = arguments_of_over D (pi A P)

abbrev renaming_of : {Ψ : ℕ → Option LfType} {n v : ℕ} → PrunedType Ψ n v → ℕ → ℕ
renaming_of p = kept_renaming (pi_over p.local (atom p.family p.indices)) (pi_over p.kept_local (atom p.family p.kept_indices)) p.kept

pub pruned_without : (k : ℕ) (X : LfType) (v : ℕ) (Ψ : ℕ → Option LfType) (n : ℕ) → v + k + 1 ≡ arity (skeleton X) → Ψ n ≡ Some X → PrunedType Ψ n v → (Y : LfType) × IsWithout k X Y
pruned_without k X v Ψ n e d p = without_at k X [] v e types goal
  where
    is : X ≡ pi_over p.local (atom p.family p.indices)
    is = let q : Some X ≡ Some (pi_over p.local (atom p.family p.indices)) = sym d ∙ p.declared in cc

    context_is : binders [] X ≡ onto p.local []
    context_is = ap (binders []) is ∙ binders_over [] p.local (atom p.family p.indices)

    not_lost : (i : ℕ) → InImage (renaming_of p) i → Not v i
    not_lost i m q = p.is_lost (subst (InImage (renaming_of p)) q m)

    types : (i : ℕ) (A : LfType) → TypeAt (binders [] X) i A → (i ≡ v → ⊥) → FreeVariablesInType (Not v) A
    types i A g n = go (p.others_stay i n)
      where
        g' : TypeAt (onto p.local []) i A
        g' = subst (λ E. TypeAt E i A) context_is g

        go : InImage (renaming_of p) i → FreeVariablesInType (Not v) A
        go (j, f) = at (at_or_outer p.kept_local [] j)
          where
            at : ((Y : LfType) × TypeAt (onto p.kept_local []) j Y) ⊎ ((o : ℕ) × (j ≡ beyond p.kept_local o)) → FreeVariablesInType (Not v) A
            at (inl (Y, h)) =
                let r : rename_type (renaming_of p) Y ≡ A = variable_type_unique (onto p.local []) i (rename_type (renaming_of p) Y) A (subst (λ x. TypeAt (onto p.local []) x (rename_type (renaming_of p) Y)) f (p.part.types j Y h)) g' in
                only_weaker_type (InImage (renaming_of p)) (Not v) not_lost A (subst (FreeVariablesInType (InImage (renaming_of p))) r (only_rename_type (renaming_of p) Y))
            at (inr (o, h)) =
                let r : beyond p.local o ≡ i = sym (p.part.outer o) ∙ ap (renaming_of p) (sym h) ∙ f in
                absurd (at_outer p.local [] o A (subst (λ x. TypeAt (onto p.local []) x A) (sym r) g')).1

    goal : FreeVariablesInSpine (Not v) (target_arguments X)
    goal =
        let q : target_arguments X ≡ p.indices = ap target_arguments is ∙ arguments_of_over p.local (atom p.family p.indices) in
        let r : p.indices ≡ rename_spine (renaming_of p) p.kept_indices = ap target_arguments p.same_target in
        subst (FreeVariablesInSpine (Not v)) (sym (q ∙ r)) (FreeVariablesInSpine-weaker (InImage (renaming_of p)) (Not v) not_lost (rename_spine (renaming_of p) p.kept_indices) (only_rename_spine (renaming_of p) p.kept_indices))
