-- What the walks find, in the terms of unification.
use Rattle.std.proofs.Common.{◌≡◌, ℕ, zero, suc, ◌+◌, ◌-◌, ◌<◌, ◌≤◌, List, [], ◌∷◌, length, Option, Some, None, ◌⊎◌, inl, inr, refl, sym, ap, ◌∙◌, subst, arith}
use mathlib.Core.Path.{fun_ext}
use Rattle.std.proofs.Common.{Vec, Global, drop, map}
use Rattle.std.specs.Prelude.{IfSome, option_map}
use Rattle.std.specs.Prelude.{◌++◌, true, false, slice_get, nat_lt, nat_eq, if◌then◌else◌}
use Rattle.std.proofs.lemmas.Bool.Decides.{eqb_tells}
use Rattle.lf.specs.Eta.{arity}
use Rattle.lf.specs.Subordination.{Member}
use Rattle.lf.specs.Syntax.{LfType, Skeleton, Spine, Term, arrow, base, metavariable, root}
use Rattle.lf_unification.specs.Inversion.{ElementAt, Inversion, Inverted as HasInversion, IsPattern, IsUnderBinders, MustDrop, NeverInverted, is_flexible, is_inverted, is_never}
use Rattle.lf_unification.specs.OpenTyping.{skeletons_of}
use Rattle.lf_unification.specs.Patterns.{FreeVariablesInSpine, InImage, Injective, PatternFits, beyond, local_skeletons, pattern, pattern_renaming}
use Rattle.lf_unification.specs.Rigid.{LiftedSetBy, Rigid, past_binders}
use Rattle.lf_unification.proofs.Total.{inversion_total, must_drop}
use Rattle.tw_prune.specs.Losing.{AreDifferences, DropsVariableOfPlace}
use Rattle.tw_prune.specs.Meaning.{AreLosses, HasEachLoss, HoldsBad, IsHindered, IsInversion}
use Rattle.tw_prune.specs.Recognition.{HasEachPattern, IsPatternOf}
use Rattle.tw_prune.specs.Standing.{IsVariableOfPlace, StandsIn}
use Rattle.tw_prune.specs.Tables.{IsTableOf}
use Rattle.tw_prune.specs.Walks.{Table, differences_from, distinct_variables, escapes, losses_in, unrenamed}
use Rattle.tw_prune.specs.View.{loss_of}
use Rattle.tw_prune.specs.declared.drops.Loss.{Loss}
use Rattle.tw_prune.proofs.Dropping.{LosesAt, losses_found, losses_sound, member_append, member_left, member_right, under_length}
use Rattle.tw_prune.proofs.Escaping.{escapes_at, escapes_found}
use Rattle.tw_prune.proofs.Options.{lt_tells}
use Rattle.tw_prune.proofs.Recognizing.{pattern_found, pattern_recognized}
use Rattle.tw_prune.proofs.Tables.{beyond_is, get_below, get_some_below, in_pattern_at, past_pattern, table_inverse}
use Rattle.tw_prune.proofs.Unrenaming.{unrenamed_back, unrenamed_sound}

-- patterns
pub found_means : (inner : ℕ) (S : Spine) (xs : List ℕ) → distinct_variables inner S ≡ Some xs → IsPatternOf inner S xs
found_means inner S xs e κ D outer t c l s =
    let (p, is) = pattern_found κ D outer S t c xs s (subst (λ n. distinct_variables n S ≡ Some xs) (sym l) e) in
    (p, record { count = l; is_pattern = is })

pub each_means : (inner : ℕ) (S : Spine) (answer : Option (List ℕ)) → answer ≡ distinct_variables inner S → HasEachPattern inner S answer
each_means inner S answer e D t ys st q =
    e ∙ ap (distinct_variables inner) q ∙ subst (λ n. distinct_variables n (pattern t ys) ≡ Some ys) st.count (pattern_recognized D t ys st.is_pattern)

-- inversion
module _ (inner : ℕ) (xs : List ℕ) (N : Term) (T : Table) (table : IsTableOf xs inner T) where
  pub inverted_means : (B : Term) → unrenamed T 0 N ≡ Some B → IsInversion inner xs N B
  inverted_means B e = record {
    is = λ D t st. unrenamed_sound T (pattern_renaming t xs (beyond D)) (table_inverse xs inner T table D t st) 0 N B e;
    only = λ D t st C f.
        let g : unrenamed T 0 N ≡ Some C = subst (λ X. unrenamed T 0 X ≡ Some C) f (unrenamed_back T (pattern_renaming t xs (beyond D)) (table_inverse xs inner T table D t st) st.is_pattern.distinct 0 C) in
        let h : Some C ≡ Some B = sym g ∙ e in
        cc;
  }

  pub never_means : escapes T 0 N ≡ true → (Ψ : ℕ → Option LfType) (D : List LfType) (t : Skeleton) → StandsIn inner D t xs → NeverInverted Ψ D t xs N
  never_means e Ψ D t st =
      let r = escapes_at T (pattern_renaming t xs (beyond D)) (table_inverse xs inner T table D t st) 0 N e in
      let q : r.total ≡ r.depth = (let s = r.sum in omega (arith, s)) in
      record { depth = r.depth; bad = r.bad; spine = r.spine; at = r.at; is_bad = subst (λ k. LiftedSetBy k (InImage (pattern_renaming t xs (beyond D))) r.bad → ⊥) q r.is_bad }

  pub hindered_means : unrenamed T 0 N ≡ None → escapes T 0 N ≡ false → IsHindered inner xs N
  hindered_means e f = record { not_inverted = not_inverted; not_never = not_never }
    where
      not_inverted : (Ψ : ℕ → Option LfType) (D : List LfType) (t : Skeleton) → StandsIn inner D t xs → HasInversion Ψ D t xs N → ⊥
      not_inverted Ψ D t st i =
          let g : unrenamed T 0 N ≡ Some i.inversion = subst (λ X. unrenamed T 0 X ≡ Some i.inversion) i.is (unrenamed_back T (pattern_renaming t xs (beyond D)) (table_inverse xs inner T table D t st) st.is_pattern.distinct 0 i.inversion) in
          let h : None ≡ Some i.inversion = sym e ∙ g in
          cc

      not_never : (Ψ : ℕ → Option LfType) (D : List LfType) (t : Skeleton) → StandsIn inner D t xs → NeverInverted Ψ D t xs N → ⊥
      not_never Ψ D t st n =
          let z : n.depth ≡ 0 + n.depth = omega arith in
          let g : escapes T 0 N ≡ true = escapes_found T (pattern_renaming t xs (beyond D)) (table_inverse xs inner T table D t st) 0 n.depth n.bad n.spine refl n.at z n.is_bad in
          let h : false ≡ true = sym f ∙ g in
          cc

  pub losses_mean : (losses : List (ℕ × ℕ)) → losses ≡ losses_in T 0 N → AreLosses inner xs N losses
  losses_mean losses e Ψ D t st h m place l =
      let r : LosesAt Ψ D T (pattern_renaming t xs (beyond D)) (table_inverse xs inner T table D t st) (table.size ∙ sym st.count) 0 N m place
      = losses_sound Ψ D T (pattern_renaming t xs (beyond D)) (table_inverse xs inner T table D t st) (table.size ∙ sym st.count) h.constants h.outer N 0 D h.of_skeleton m place refl h.typed (subst (Member (m, place)) e l) in
      let q : r.total ≡ r.depth = (let s = r.sum in omega (arith, s)) in
      record {
        drop = record {
          m = m;
          depth = r.depth;
          context = r.context;
          context_is = subst (λ k. IsUnderBinders D k r.context) q r.context_is;
          ys = r.ys;
          is_pattern = r.is_pattern;
          at = r.at;
          place = place;
          bad = r.bad;
          nth = r.nth;
          is_bad = subst (λ k. LiftedSetBy k (InImage (pattern_renaming t xs (beyond D))) r.bad → ⊥) q r.is_bad;
          last = λ j y x n. subst (λ k. LiftedSetBy k (InImage (pattern_renaming t xs (beyond D))) y) q (r.last j y x n);
        };
        of = refl;
        at = refl;
      }

  pub each_loss_means : (losses : List (ℕ × ℕ)) → losses ≡ losses_in T 0 N → HasEachLoss inner xs N losses
  each_loss_means losses e Ψ D t st d =
      let z : d.depth ≡ 0 + d.depth = omega arith in
      subst (Member (d.m, d.place)) (sym e) (losses_found Ψ D T (pattern_renaming t xs (beyond D)) (table_inverse xs inner T table D t st) (table.size ∙ sym st.count) d.m d.place d.ys d.depth d.context d.context_is d.is_pattern d.bad d.nth d.is_bad d.last 0 refl d.at z)

  pub outside_means : unrenamed T 0 N ≡ None → escapes T 0 N ≡ false → [] ≡ losses_in T 0 N → (Ψ : ℕ → Option LfType) (D : List LfType) (t : Skeleton) → StandsIn inner D t xs → (MustDrop Ψ D t xs N → ⊥) × HoldsBad Ψ D t xs N
  outside_means e f g Ψ D t st = (no_drop, go (inversion_total Ψ D t xs N))
    where
      no_drop : MustDrop Ψ D t xs N → ⊥
      no_drop d = each_loss_means [] g Ψ D t st d

      go : Inversion Ψ D t xs N → HoldsBad Ψ D t xs N
      go (is_inverted i) = absurd ((hindered_means e f).not_inverted Ψ D t st i)
      go (is_never n) = absurd ((hindered_means e f).not_never Ψ D t st n)
      go (is_flexible depth m S at h) = record { m = m; depth = depth; arguments = S; at = at; holds = h; no_pattern = no_pattern }
        where
          no_pattern : (E : List LfType) (ys : List ℕ) → IsUnderBinders D depth E → IsPattern E (skeletons_of Ψ m) ys → S ≡ pattern (skeletons_of Ψ m) ys → ⊥
          no_pattern E ys u is q = no_drop (must_drop Ψ D t xs N depth m E ys u is (subst (λ X. Rigid (root (metavariable m) X) depth N) q at) (subst (λ X. FreeVariablesInSpine (LiftedSetBy depth (InImage (pattern_renaming t xs (beyond D)))) X → ⊥) q h))

-- the variable of a place
fits_length : (Δ : List Skeleton) (t : Skeleton) (xs : List ℕ) → PatternFits Δ t xs → length xs ≡ arity t
fits_length Δ (base c) [] p = refl
fits_length Δ (base c) (x ∷ xs) p = absurd p
fits_length Δ (arrow a b) [] p = absurd p
fits_length Δ (arrow a b) (x ∷ xs) p = let e = fits_length Δ b xs p.1 in omega (arith, e)

get_element : (xs : List ℕ) (k x : ℕ) → ElementAt xs k x → slice_get xs k ≡ Some x
get_element [] k x e = absurd e
get_element (y ∷ ys) zero x e = ap Some e
get_element (y ∷ ys) (suc k) x e = get_element ys k x e

past_binders_is : (k i : ℕ) → past_binders k i ≡ i + k
past_binders_is zero i = omega arith
past_binders_is (suc k) i = let e = past_binders_is k (suc i) in omega (arith, e)

pub drops_variable : DropsVariableOfPlace
drops_variable Ψ D t xs N d dropped = (forth, back dropped)
  where
    fits : PatternFits (local_skeletons d.context []) (skeletons_of Ψ d.m) d.ys
    fits = d.is_pattern.places []

    back : (v : ℕ) → IsVariableOfPlace (skeletons_of Ψ d.m) d.place v → pattern_renaming (skeletons_of Ψ d.m) d.ys (λ j. past_binders d.depth (beyond D j)) v ≡ d.bad
    back v e =
        let l = fits_length (local_skeletons d.context []) (skeletons_of Ψ d.m) d.ys fits in
        in_pattern_at (local_skeletons d.context []) (skeletons_of Ψ d.m) d.ys (λ j. past_binders d.depth (beyond D j)) d.place v d.bad fits (omega (arith, e, l)) (get_element d.ys d.place d.bad d.nth)

    same : (j : ℕ) → beyond d.context j ≡ past_binders d.depth (beyond D j)
    same j =
        let a = beyond_is d.context j in
        let b = beyond_is D j in
        let c = past_binders_is d.depth (beyond D j) in
        let l = under_length D d.depth d.context d.context_is in
        omega (arith, a, b, c, l)

    distinct : Injective (pattern_renaming (skeletons_of Ψ d.m) d.ys (λ j. past_binders d.depth (beyond D j)))
    distinct = subst (λ τ. Injective (pattern_renaming (skeletons_of Ψ d.m) d.ys τ)) (fun_ext same) d.is_pattern.distinct

    forth : pattern_renaming (skeletons_of Ψ d.m) d.ys (λ j. past_binders d.depth (beyond D j)) dropped ≡ d.bad → IsVariableOfPlace (skeletons_of Ψ d.m) d.place dropped
    forth e =
        let l = fits_length (local_skeletons d.context []) (skeletons_of Ψ d.m) d.ys fits in
        let b = get_some_below d.ys d.place d.bad (get_element d.ys d.place d.bad d.nth) in
        let v : (arity (skeletons_of Ψ d.m) - 1 - d.place) + d.place + 1 ≡ arity (skeletons_of Ψ d.m) = omega (arith, l, b) in
        let q : dropped ≡ arity (skeletons_of Ψ d.m) - 1 - d.place = distinct dropped (arity (skeletons_of Ψ d.m) - 1 - d.place) (e ∙ sym (back (arity (skeletons_of Ψ d.m) - 1 - d.place) v)) in
        omega (arith, q, v)

-- differences
pub record DifferAt (xs ys : List ℕ) (from place : ℕ) : Type 0 where
  pub index : ℕ
  pub sum : place ≡ from + index
  pub left : ℕ
  pub right : ℕ
  pub left_is : slice_get xs index ≡ Some left
  pub right_is : slice_get ys index ≡ Some right
  pub differ : left ≡ right → ⊥

differ_at : (from : ℕ) (xs ys : List ℕ) (place : ℕ) → Member place (differences_from from xs ys) → DifferAt xs ys from place
differ_at from [] ys place m = absurd m
differ_at from (x ∷ xs) [] place m = absurd m
differ_at from (x ∷ xs) (y ∷ ys) place m = go (eqb_tells x y) (member_append place (if nat_eq x y then [] else (from ∷ [])) (differences_from (from + 1) xs ys) m) (differ_at (from + 1) xs ys place)
  where
    here : (nat_eq x y ≡ false) → (x ≡ y → ⊥) → Member place (if nat_eq x y then [] else (from ∷ [])) → DifferAt (x ∷ xs) (y ∷ ys) from place
    here e n h = at (subst (Member place) (ap (λ b. if b then [] else (from ∷ [])) e) h)
      where
        at : Member place (from ∷ []) → DifferAt (x ∷ xs) (y ∷ ys) from place
        at (inl q) = record { index = 0; sum = omega (arith, q); left = x; right = y; left_is = refl; right_is = refl; differ = n }
        at (inr q) = absurd q

    go : ((nat_eq x y ≡ true) × (x ≡ y)) ⊎ ((nat_eq x y ≡ false) × (x ≡ y → ⊥)) → Member place (if nat_eq x y then [] else (from ∷ [])) ⊎ Member place (differences_from (from + 1) xs ys) → (Member place (differences_from (from + 1) xs ys) → DifferAt xs ys (from + 1) place) → DifferAt (x ∷ xs) (y ∷ ys) from place
    go s (inr h) rest = let r = rest h in record { index = suc r.index; sum = (let q = r.sum in omega (arith, q)); left = r.left; right = r.right; left_is = r.left_is; right_is = r.right_is; differ = r.differ }
    go (inl (e, q)) (inl h) rest = absurd (subst (Member place) (ap (λ b. if b then [] else (from ∷ [])) e) h)
    go (inr (e, n)) (inl h) rest = here e n h

at_differ : (from : ℕ) (xs ys : List ℕ) (k x y : ℕ) → slice_get xs k ≡ Some x → slice_get ys k ≡ Some y → (x ≡ y → ⊥) → Member (from + k) (differences_from from xs ys)
at_differ from [] ys k x y e f n = cc
at_differ from (z ∷ xs) [] k x y e f n = cc
at_differ from (z ∷ xs) (w ∷ ys) zero x y e f n = go (eqb_tells z w)
  where
    go : ((nat_eq z w ≡ true) × (z ≡ w)) ⊎ ((nat_eq z w ≡ false) × (z ≡ w → ⊥)) → Member (from + 0) ((if nat_eq z w then [] else (from ∷ [])) ++ differences_from (from + 1) xs ys)
    go (inl (g, q)) = let a : z ≡ x = cc in let b : w ≡ y = cc in absurd (n (sym a ∙ q ∙ b))
    go (inr (g, q)) =
        let l : from + 0 ≡ from = omega arith in
        member_left (from + 0) (if nat_eq z w then [] else (from ∷ [])) (differences_from (from + 1) xs ys) (subst (Member (from + 0)) (sym (ap (λ b. if b then [] else (from ∷ [])) g)) (inl l))
at_differ from (z ∷ xs) (w ∷ ys) (suc k) x y e f n =
    let l : (from + 1) + k ≡ from + suc k = omega arith in
    member_right (from + suc k) (if nat_eq z w then [] else (from ∷ [])) (differences_from (from + 1) xs ys) (subst (λ p. Member p (differences_from (from + 1) xs ys)) l (at_differ (from + 1) xs ys k x y e f n))

pub differences_mean : (xs ys places : List ℕ) → places ≡ differences_from 0 xs ys → AreDifferences xs ys places
differences_mean xs ys places e D t p q dropped = (forth, λ r. back r.0 r.1 r.2)
  where
    fits : PatternFits (local_skeletons D []) t xs
    fits = p.places []

    fits' : PatternFits (local_skeletons D []) t ys
    fits' = q.places []

    length_is : length xs ≡ arity t
    length_is = fits_length (local_skeletons D []) t xs fits

    length_is' : length ys ≡ arity t
    length_is' = fits_length (local_skeletons D []) t ys fits'

    forth : (pattern_renaming t xs (beyond D) dropped ≡ pattern_renaming t ys (beyond D) dropped → ⊥) → (place : ℕ) × Member place places × IsVariableOfPlace t place dropped
    forth n = go (lt_tells dropped (arity t))
      where
        go : ((nat_lt dropped (arity t) ≡ true) × (dropped < arity t)) ⊎ ((nat_lt dropped (arity t) ≡ false) × (arity t ≤ dropped)) → (place : ℕ) × Member place places × IsVariableOfPlace t place dropped
        go (inl (_, l)) =
            let k : ℕ = arity t - 1 - dropped in
            let (x, g) = get_below xs (arity t - 1 - dropped) (omega (arith, length_is, l)) in
            let (y, h) = get_below ys (arity t - 1 - dropped) (omega (arith, length_is', l)) in
            let a : pattern_renaming t xs (beyond D) dropped ≡ x = in_pattern_at (local_skeletons D []) t xs (beyond D) (arity t - 1 - dropped) dropped x fits (omega (arith, length_is, l)) g in
            let b : pattern_renaming t ys (beyond D) dropped ≡ y = in_pattern_at (local_skeletons D []) t ys (beyond D) (arity t - 1 - dropped) dropped y fits' (omega (arith, length_is', l)) h in
            let z : 0 + (arity t - 1 - dropped) ≡ arity t - 1 - dropped = omega arith in
            (arity t - 1 - dropped, subst (Member (arity t - 1 - dropped)) (sym e) (subst (λ i. Member i (differences_from 0 xs ys)) z (at_differ 0 xs ys (arity t - 1 - dropped) x y g h (λ f. n (a ∙ f ∙ sym b)))), omega (arith, l))
        go (inr (_, l)) =
            let u : dropped ≡ (dropped - arity t) + length xs = omega (arith, length_is, l) in
            let v : (dropped - arity t) + length ys ≡ dropped = omega (arith, length_is', l) in
            absurd (n (ap (pattern_renaming t xs (beyond D)) u ∙ past_pattern (local_skeletons D []) t xs (beyond D) (dropped - arity t) fits ∙ sym (past_pattern (local_skeletons D []) t ys (beyond D) (dropped - arity t) fits') ∙ ap (pattern_renaming t ys (beyond D)) v))

    back : (place : ℕ) → Member place places → IsVariableOfPlace t place dropped → pattern_renaming t xs (beyond D) dropped ≡ pattern_renaming t ys (beyond D) dropped → ⊥
    back place m v f =
        let r = differ_at 0 xs ys place (subst (Member place) e m) in
        let s = r.sum in
        let a : pattern_renaming t xs (beyond D) dropped ≡ r.left = in_pattern_at (local_skeletons D []) t xs (beyond D) r.index dropped r.left fits (omega (arith, length_is, v, s)) r.left_is in
        let b : pattern_renaming t ys (beyond D) dropped ≡ r.right = in_pattern_at (local_skeletons D []) t ys (beyond D) r.index dropped r.right fits' (omega (arith, length_is', v, s)) r.right_is in
        r.differ (sym a ∙ f ∙ b)

-- answers that a function returns
pub found_in_result : (inner : ℕ) (S : Spine) (o : Option (Vec ℕ Global)) → option_map (λ xs. xs.items) o ≡ distinct_variables inner S → IfSome o (λ xs. IsPatternOf inner S xs.items)
found_in_result inner S None e = tt
found_in_result inner S (Some xs) e = found_means inner S xs.items (sym e)

pub first_loss : (ls : List Loss) (l : Loss) → slice_get ls 0 ≡ Some l → Member (loss_of l) (map loss_of ls)
first_loss [] l e = cc
first_loss (x ∷ ls) l e = inl (let q : x ≡ l = cc in ap loss_of (sym q))

pub no_loss : (ls : List Loss) → slice_get ls 0 ≡ None → [] ≡ map loss_of ls
no_loss [] e = refl
no_loss (x ∷ ls) e = cc

-- where the second list ends
drop_none : (i : ℕ) (ys : List ℕ) → slice_get ys i ≡ None → drop i ys ≡ []
drop_none zero [] e = refl
drop_none (suc i) [] e = refl
drop_none zero (y ∷ ys) e = cc
drop_none (suc i) (y ∷ ys) e = drop_none i ys e

pub differences_end : (p i : ℕ) (xs ys : List ℕ) → slice_get ys i ≡ None → differences_from p xs (drop i ys) ≡ []
differences_end p i xs ys e = ap (differences_from p xs) (drop_none i ys e) ∙ go xs
  where
    go : (xs : List ℕ) → differences_from p xs [] ≡ []
    go [] = refl
    go (x ∷ xs) = refl
