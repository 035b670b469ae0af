-- Arguments of kinds, one after another, and the equations between two rows of them.
use Rattle.std.proofs.Common.{◌≡◌, ℕ, suc, ◌+◌, ◌<◌, ◌≤◌, List, [], ◌∷◌, ◌++◌, drop, get_or, length, map, refl, sym, ap, ap₂, ◌∙◌, subst, arith, add-one, drop-cons, false, true, nat_lt}
use Rattle.std.proofs.lemmas.Bool.Decides.{nat_tests}
use Rattle.std.proofs.lemmas.List.{drop_all, map-append}
use Rattle.lf.specs.SkeletonTyping.{SpineSkeleton}
use Rattle.lf.specs.Substitution.{Image, reduce, single, substitute_kind, substitute_type}
use Rattle.lf.specs.Syntax.{Kind, LfType, Skeleton, Spine, Term, app, kind_pi, kind_skeleton, nil, skeleton, star}
use Rattle.lf.specs.Typing.{instantiate_kind}
use Rattle.lf.proofs.SkeletonTypes.{single_kind_by_skeletons}
use Rattle.lf.proofs.SkeletonTyping.{lift_by_skeletons, single_by_skeletons}
use Rattle.lf.proofs.ToSkeletons.{kind_skeleton_substituted}
use Rattle.lf_elaboration.specs.State.{differing, unless_same}
use Rattle.lf_elaboration.proofs.Differing.{different_sides, same_side, same_sides}
use Rattle.lf_unification.specs.Lists.{followed}
use Rattle.lf_unification.specs.Offering.{spine_equations}
use Rattle.lf_unification.specs.Patterns.{local_skeletons}
use Rattle.lf_unification.specs.Unifiers.{Equation}
use Rattle.tw_hered.specs.Fits.{KindFits, TypeFits, put_at}
use Rattle.tw_metas.specs.View.{equation_of}
use Rattle.tw_metas.specs.declared.equation.Equation.{Equation as TwEquation}
use Rattle.tw_terms.specs.OpenView.{open_args_of, open_term_of}
use Rattle.tw_terms.specs.declared.open_terms.Open.{Open}
use Rattle.tw_open.specs.Indices.{IndicesFit, TakesBoth, wanted_of}
use Rattle.tw_open.specs.declared.indices.Wanted.{Wanted}
use Rattle.tw_open.specs.declared.indices.Wanted.TheVariants.{Differing, Every}

-- a kind, part by part
pub domain_fits : (σ : ℕ → Image) (K L : Kind) (A : LfType) → K ≡ kind_pi A L → KindFits σ K → TypeFits σ A
domain_fits σ K L A e f = let g : KindFits σ (kind_pi A L) = subst (KindFits σ) e f in record {
  families = g.families;
  heads = g.heads;
  context = g.context;
  target = g.target;
  substitution_typed = g.substitution_typed;
  type_typed = g.kind_typed.0;
}

pub inner_fits : (n m : ℕ) (a : Skeleton) (N : Term) (K L : Kind) (A : LfType) → m ≡ n + 1 → K ≡ kind_pi A L → KindFits (put_at n a N) K → KindFits (put_at m a N) L
inner_fits n m a N K L A q e f =
    let g : KindFits (put_at n a N) (kind_pi A L) = subst (KindFits (put_at n a N)) e f in
    subst (λ k. KindFits (put_at k a N) L) (sym q) (subst (λ k. KindFits (put_at k a N) L) (sym (add_one n)) (record {
      families = g.families;
      heads = g.heads;
      context = skeleton A ∷ g.context;
      target = skeleton A ∷ g.target;
      substitution_typed = lift_by_skeletons g.heads (skeleton A) g.context g.target (put_at n a N) g.substitution_typed;
      kind_typed = g.kind_typed.1;
    }))
  where
    add_one : (k : ℕ) → k + 1 ≡ suc k
    add_one k = omega arith

-- put into a kind, part by part
pub put_in_kind : (n m : ℕ) (a : Skeleton) (N : Term) (K L : Kind) (A X : LfType) (Y : Kind) → m ≡ n + 1 → K ≡ kind_pi A L → X ≡ substitute_type reduce (put_at n a N) A → Y ≡ substitute_kind reduce (put_at m a N) L → kind_pi X Y ≡ substitute_kind reduce (put_at n a N) K
put_in_kind n m a N K L A X Y q e x y =
    let one : n + 1 ≡ suc n = omega arith in
    ap₂ kind_pi x (y ∙ ap (λ k. substitute_kind reduce (put_at k a N) L) (q ∙ one)) ∙ sym (ap (substitute_kind reduce (put_at n a N)) e)

-- the first argument, and those behind it
pub first_fits : (D : List LfType) (K : Kind) (M : Term) (S T : Spine) → S ≡ app M T → IndicesFit D K S → IndicesFit D K (app M nil)
first_fits D K M S T e f = go K (subst (IndicesFit D K) e f)
  where
    go : (L : Kind) → IndicesFit D L (app M T) → IndicesFit D L (app M nil)
    go (kind_pi A L) g = record {
      families = g.families;
      heads = g.heads;
      family = g.family;
      result = kind_skeleton g.family L;
      kind_typed = g.kind_typed;
      spine_typed = (g.spine_typed.0, refl);
    }
    go star g = absurd g.spine_typed

pub range_takes : (D : List LfType) (K L : Kind) (A : LfType) (M : Term) → K ≡ kind_pi A L → IndicesFit D K (app M nil) → KindFits (put_at 0 (skeleton A) M) L
range_takes D K L A M e f =
    let g : IndicesFit D (kind_pi A L) (app M nil) = subst (λ X. IndicesFit D X (app M nil)) e f in
    record {
      families = g.families;
      heads = g.heads;
      context = skeleton A ∷ local_skeletons D [];
      target = local_skeletons D [];
      substitution_typed = single_by_skeletons g.heads (skeleton A) (local_skeletons D []) M g.spine_typed.0;
      kind_typed = g.kind_typed.1;
    }

pub others_fit : (w : Wanted) (D : List LfType) (K L : Kind) (M N : Term) (old new : List Equation) (S T : Spine) → S ≡ app M T → TakesBoth w D K M N L old new → IndicesFit D K S → IndicesFit D L T
others_fit w D K L M N old new S T e o f =
    let g : IndicesFit D (kind_pi o.domain o.range) (app M T) = subst (λ X. IndicesFit D X (app M T)) o.is (subst (IndicesFit D K) e f) in
    subst (λ X. IndicesFit D X T) (sym o.left_over) (record {
      families = g.families;
      heads = g.heads;
      family = g.family;
      result = g.result;
      kind_typed = single_kind_by_skeletons g.families g.heads (skeleton o.domain) (local_skeletons D []) M o.range g.spine_typed.0 g.kind_typed.1;
      spine_typed = subst (λ x. SpineSkeleton g.heads (local_skeletons D []) T x g.result) (sym (kind_skeleton_substituted g.family reduce (single (skeleton o.domain) M) o.range)) g.spine_typed.1;
    })

-- lists of equations behind one another
pub followed_after : (xs ys zs : List Equation) → followed (followed xs ys) zs ≡ followed xs (followed ys zs)
followed_after [] ys zs = refl
followed_after (x ∷ xs) ys zs = ap (λ l. x ∷ l) (followed_after xs ys zs)

pub followed_none : (xs : List Equation) → followed xs [] ≡ xs
followed_none [] = refl
followed_none (x ∷ xs) = ap (λ l. x ∷ l) (followed_none xs)

followed_appends : (xs ys : List Equation) → xs ++ ys ≡ followed xs ys
followed_appends [] ys = refl
followed_appends (x ∷ xs) ys = ap (λ l. x ∷ l) (followed_appends xs ys)

pub pushed_equation : (old new : List TwEquation) (d : TwEquation) → new ≡ old ++ d ∷ [] → map equation_of new ≡ followed (map equation_of old) (equation_of d ∷ [])
pushed_equation old new d p = ap (map equation_of) p ∙ map-append equation_of old (d ∷ []) ∙ followed_appends (map equation_of old) (equation_of d ∷ [])

-- those that are wanted
first_differs : (e : Equation) (es : List Equation) → differing (e ∷ es) ≡ followed (differing (e ∷ [])) (differing es)
first_differs e es = by (same_sides e)
  where
    by : (d : Dec (e.left ≡ e.right)) → unless_same d e (differing es) ≡ followed (unless_same d e []) (differing es)
    by (yes q) = refl
    by (no n) = refl

first_wanted : (w : Wanted) (e : Equation) (es : List Equation) → wanted_of w (e ∷ es) ≡ followed (wanted_of w (e ∷ [])) (wanted_of w es)
first_wanted Every e es = refl
first_wanted Differing e es = first_differs e es

none_wanted : (w : Wanted) → wanted_of w [] ≡ []
none_wanted Every = refl
none_wanted Differing = refl

pub same_unwanted : (e : Equation) (es : List Equation) → e.left ≡ e.right → es ≡ followed es (differing (e ∷ []))
same_unwanted e es q = sym (ap (followed es) (same_side e [] q) ∙ followed_none es)

pub other_wanted : (e : Equation) (old new : List Equation) → (e.left ≡ e.right → ⊥) → new ≡ followed old (e ∷ []) → new ≡ followed old (differing (e ∷ []))
other_wanted e old new n q = q ∙ ap (followed old) (sym (different_sides e [] n))

-- one argument more; `whole` are the equations in the end
pub one_equation_more : (w : Wanted) (D : List LfType) (K L : Kind) (M N : Term) (S T U V : Spine) (old new whole : List Equation) → U ≡ app M S → V ≡ app N T → TakesBoth w D K M N L old new
    → whole ≡ followed old (wanted_of w (spine_equations D K U V)) → whole ≡ followed new (wanted_of w (spine_equations D L S T))
one_equation_more w D K L M N S T U V old new whole u v o q =
    let e : Equation = record { local = D; left = M; right = N; of_type = o.domain } in
    let es : List Equation = spine_equations D (instantiate_kind o.domain M o.range) S T in
    q ∙ ap₂ (λ (X Y : Spine). followed old (wanted_of w (spine_equations D K X Y))) u v
    ∙ ap (λ k. followed old (wanted_of w (spine_equations D k (app M S) (app N T)))) o.is
    ∙ ap (followed old) (first_wanted w e es)
    ∙ sym (followed_after old (wanted_of w (e ∷ [])) (wanted_of w es))
    ∙ ap₂ (λ (l : List Equation) (k : Kind). followed l (wanted_of w (spine_equations D k S T))) (sym o.added) (sym o.left_over)

no_lefts : (D : List LfType) (K : Kind) (T : Spine) → spine_equations D K nil T ≡ []
no_lefts D (kind_pi A K) T = refl
no_lefts D star T = refl

no_rights : (D : List LfType) (K : Kind) (M : Term) (S : Spine) → spine_equations D K (app M S) nil ≡ []
no_rights D (kind_pi A K) M S = refl
no_rights D star M S = refl

ended : (w : Wanted) (found es whole : List Equation) → es ≡ [] → whole ≡ followed found (wanted_of w es) → found ≡ whole
ended w found es whole e q = sym (q ∙ ap (λ l. followed found (wanted_of w l)) e ∙ ap (followed found) (none_wanted w) ∙ followed_none found)

pub left_ends : (w : Wanted) (D : List LfType) (K : Kind) (S T : Spine) (found whole : List Equation) → S ≡ nil → whole ≡ followed found (wanted_of w (spine_equations D K S T)) → found ≡ whole
left_ends w D K S T found whole e q = ended w found (spine_equations D K S T) whole (ap (λ X. spine_equations D K X T) e ∙ no_lefts D K T) q

pub right_ends : (w : Wanted) (D : List LfType) (K : Kind) (M : Term) (R S T : Spine) (found whole : List Equation) → S ≡ app M R → T ≡ nil → whole ≡ followed found (wanted_of w (spine_equations D K S T)) → found ≡ whole
right_ends w D K M R S T found whole e f q = ended w found (spine_equations D K S T) whole (ap₂ (spine_equations D K) e f ∙ no_rights D K M R) q

pub kind_ends : (w : Wanted) (D : List LfType) (K : Kind) (S T : Spine) (old new : List TwEquation) (whole : List Equation) → K ≡ star → new ≡ old → whole ≡ followed (map equation_of old) (wanted_of w (spine_equations D K S T)) → map equation_of new ≡ whole
kind_ends w D K S T old new whole e n q = ap (map equation_of) n ∙ ended w (map equation_of old) (spine_equations D K S T) whole (ap (λ k. spine_equations D k S T) e) q

-- the arguments from one on
pub arguments_from : (ts us : List Open) (i : ℕ) (x : Open) → us ≡ ts → i < length us → x ≡ get_or us i x → open_args_of (drop i ts) ≡ app (open_term_of x) (open_args_of (drop (i + 1) ts))
arguments_from ts us i x e h q = subst (λ l. open_args_of (drop i l) ≡ app (open_term_of x) (open_args_of (drop (i + 1) l))) e (rw (add-one, drop-cons us i x) (ap (λ y. app (open_term_of y) (open_args_of (drop (suc i) us))) (sym q)))

pub no_arguments_from : (ts : List Open) (i : ℕ) → length ts ≤ i → open_args_of (drop i ts) ≡ nil
no_arguments_from ts i h = ap open_args_of (drop_all i ts h)

pub not_below : (i n : ℕ) → false ≡ nat_lt i n → n ≤ i
not_below i n e = grind (arith, nat_tests)

pub surely_below : (i n : ℕ) → true ≡ nat_lt i n → i < n
surely_below i n e = grind (arith, nat_tests)
