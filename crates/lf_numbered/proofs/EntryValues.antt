-- The terms of a block variable, and its entries on them: typed, substituted, read.
use Rattle.std.proofs.Common.{◌≡◌, ℕ, zero, suc, List, [], ◌∷◌, length, ◌+◌, ◌≤◌, Option, Some, refl, sym, ap, ap₂, ◌∙◌, subst, arith}
use Rattle.lf.specs.Syntax.{constant, variable, Term, Spine, lambda, nil, app, LfType, pi, Skeleton, base, arrow, skeleton, rename_spine, weaken}
use Rattle.lf.specs.Substitution.{Image, keep, put, lift, single, substitute, substitute_spine, substitute_image, substitute_type, reduce, after}
use Rattle.lf.specs.AtOnce.{in_front}
use Rattle.lf.specs.Eta.{add_last, eta_expand, eta_long}
use Rattle.lf.specs.SkeletonTyping.{HeadSkeletons, TermSkeleton, ImageSkeleton, SubstitutionBySkeletons}
use Rattle.lf.specs.Skeletons.{constant_skeletons, family_skeletons, context_skeletons}
use Rattle.lf.specs.Typing.{Signature, TypeAt, ImageHasType, IsTypedSubstitution, HasType, SpineType, instantiate_type, IsType, IsContext, IsSignature}
use Rattle.lf.proofs.Closed.{closed_type_substituted}
use Rattle.lf.proofs.Composition.{around_image}
use Rattle.lf.proofs.Eta.{substitute_eta_expand}
use Rattle.lf.proofs.Renaming.{substitute_renamed_spine}
use Rattle.lf.proofs.SkeletonTyping.{lift_by_skeletons, single_by_skeletons}
use Rattle.lf.proofs.SkeletonTypes.{substitutions_compose_type}
use Rattle.lf.proofs.Substitution.{typed_substitution_by_skeletons}
use Rattle.lf.proofs.ToSkeletons.{typed_has_skeleton, type_by_skeletons}
use Rattle.lf.proofs.TypeLaws.{skeleton_renamed, skeleton_substituted, substitute_renamed_type}
use Rattle.lf_unification.specs.Offering.{pi_over, local_arguments}
use Rattle.lf_checks.specs.ModeForms.{argument_count}
use Rattle.lf_cases.specs.Case.{as_term}
use Rattle.lf_cases.proofs.LongValues.{long_at, long_same, term_typed, value_of_long}
use Rattle.lf_coverage.proofs.HeadItems.{length_renamed as count_renamed}
use Rattle.lf_coverage.proofs.GroundTyped.{behind_one}
use Rattle.lf_numbered.specs.EntryConstants.{entry_images}
use Rattle.lf_numbered.specs.OwnTerms.{OnOwnTerms, SpineOnOwnTerms}
use Rattle.lf_numbered.specs.Reading.{drop_arguments, weaken_read, read_constant, read, read_spine}
use Rattle.lf_numbered.specs.NumberedCase.{some_spine}
use Rattle.lf_numbered.proofs.EntrySignature.{add_typed}
use Rattle.lf_numbered.proofs.Reading.{under_read, weakened_read, drop_renamed, read_spine_renamed, read_image}
use Rattle.lf_numbered.proofs.ReadSkeletons.{count_read}
use mathlib.Core.Path.{fun_ext}

-- Arguments at the end
count_add : (S : Spine) (N : Term) → argument_count (add_last S N) ≡ suc (argument_count S)
count_add nil N = refl
count_add (app M S) N = ap suc (count_add S N)

drop_add : (k : ℕ) (S : Spine) (N : Term) → k ≤ argument_count S → drop_arguments k (add_last S N) ≡ add_last (drop_arguments k S) N
drop_add zero S N l = refl
drop_add (suc k) nil N l = absurd (omega (arith, l))
drop_add (suc k) (app M S) N l = drop_add k S N (omega (arith, l))

drop_all : (S : Spine) → drop_arguments (argument_count S) S ≡ nil
drop_all nil = refl
drop_all (app M S) = drop_all S

pub read_add : (f : ℕ → Option (ℕ × ℕ)) (S : Spine) (N : Term) → read_spine f (add_last S N) ≡ add_last (read_spine f S) (read f N)
read_add f nil N = refl
read_add f (app M S) N = ap (app (read f M)) (read_add f S N)

pub put_add : (σ : ℕ → Image) (S : Spine) (N : Term) → substitute_spine reduce σ (add_last S N) ≡ add_last (substitute_spine reduce σ S) (substitute reduce σ N)
put_add σ nil N = refl
put_add σ (app M S) N = ap (app (substitute reduce σ M)) (put_add σ S N)

-- Eta-long forms, read
pub read_long : (f : ℕ → Option (ℕ × ℕ)) (a : Skeleton) (j : ℕ) (T : Spine) → read f (eta_expand a (variable j) T) ≡ eta_expand a (variable j) (read_spine f T)
read_long f (base c) j T = refl
read_long f (arrow a b) j T =
    let X : Term = eta_expand a (variable zero) nil in
    ap lambda (read_long (under_read f) b (suc j) (add_last (rename_spine suc T) X) ∙ ap (eta_expand b (variable (suc j))) (read_add (under_read f) (rename_spine suc T) X ∙ ap₂ add_last (read_spine_renamed f (under_read f) suc T (λ c. weakened_read (f c))) (read_long (under_read f) a zero nil)))

pub read_long_constant : (f : ℕ → Option (ℕ × ℕ)) (a : Skeleton) (c k v : ℕ) (T : Spine) → f c ≡ Some (k, v) → k ≤ argument_count T → read f (eta_expand a (constant c) T) ≡ eta_expand a (variable v) (drop_arguments k (read_spine f T))
read_long_constant f (base d) c k v T e l = ap (λ x. read_constant x c (read_spine f T)) e
read_long_constant f (arrow a b) c k v T e l =
    let X : Term = eta_expand a (variable zero) nil in
    let m : k ≤ argument_count (add_last (rename_spine suc T) X) = let p = count_add (rename_spine suc T) X in let q = count_renamed suc T in omega (arith, l) in
    let n : k ≤ argument_count (rename_spine suc (read_spine f T)) = let p = count_renamed suc (read_spine f T) in let q = count_read f T in omega (arith, l) in
    ap lambda (read_long_constant (under_read f) b c k (suc v) (add_last (rename_spine suc T) X) (ap weaken_read e) m ∙ ap (eta_expand b (variable (suc v)))
    (ap (drop_arguments k) (read_add (under_read f) (rename_spine suc T) X ∙ ap₂ add_last (read_spine_renamed f (under_read f) suc T (λ d. weakened_read (f d))) (read_long (under_read f) a zero nil))
    ∙ drop_add k (rename_spine suc (read_spine f T)) X n
    ∙ ap (λ Z. add_last Z X) (drop_renamed suc k (read_spine f T))))

-- on just the own terms nothing is left
pub read_entry_long : (f : ℕ → Option (ℕ × ℕ)) (a : Skeleton) (c v : ℕ) (U : Spine) → f c ≡ Some (argument_count U, v) → read f (eta_expand a (constant c) U) ≡ eta_long a (variable v)
read_entry_long f a c v U e = read_long_constant f a c (argument_count U) v U e (omega arith) ∙ ap (eta_expand a (variable v)) (ap (λ k. drop_arguments k (read_spine f U)) (sym (count_read f U)) ∙ drop_all (read_spine f U))

pub read_as_term : (f : ℕ → Option (ℕ × ℕ)) (a : Skeleton) (x : Image) → read f (as_term a x) ≡ as_term a (read_image f x)
read_as_term f a (keep j) = read_long f a j nil
read_as_term f a (put b N) = refl

-- Spines of values
pub count_some : (O : List LfType) (υ : ℕ → Image) → argument_count (some_spine O υ) ≡ length O
count_some [] υ = refl
count_some (A ∷ O) υ = count_add (some_spine O (λ i. υ (suc i))) (as_term (skeleton A) (υ zero)) ∙ ap suc (count_some O (λ i. υ (suc i)))

pub read_some : (f : ℕ → Option (ℕ × ℕ)) (O : List LfType) (υ : ℕ → Image) → read_spine f (some_spine O υ) ≡ some_spine O (λ i. read_image f (υ i))
read_some f [] υ = refl
read_some f (A ∷ O) υ = read_add f (some_spine O (λ i. υ (suc i))) (as_term (skeleton A) (υ zero)) ∙ ap₂ add_last (read_some f O (λ i. υ (suc i))) (read_as_term f (skeleton A) (υ zero))

-- equal ones have equal values
add_same : (S T : Spine) (M N : Term) → argument_count S ≡ argument_count T → add_last S M ≡ add_last T N → (S ≡ T) × (M ≡ N)
add_same nil nil M N l e = (refl, cc)
add_same nil (app P T) M N l e = absurd cc
add_same (app P S) nil M N l e = absurd cc
add_same (app P S) (app Q T) M N l e =
    let p : P ≡ Q = cc in
    let q : add_last S M ≡ add_last T N = cc in
    let r : argument_count S ≡ argument_count T = omega (arith, l) in
    let (i, j) = add_same S T M N r q in
    (ap₂ app p i, j)

pub some_terms_same : (O : List LfType) (υ ω : ℕ → Image) → some_spine O υ ≡ some_spine O ω → (i : ℕ) (A : LfType) → TypeAt O i A → as_term (skeleton A) (υ i) ≡ as_term (skeleton A) (ω i)
some_terms_same [] υ ω e i A g = absurd g
some_terms_same (B ∷ O) υ ω e i A g = at i A g
    (add_same (some_spine O (λ j. υ (suc j))) (some_spine O (λ j. ω (suc j))) (as_term (skeleton B) (υ zero)) (as_term (skeleton B) (ω zero)) (count_some O (λ j. υ (suc j)) ∙ sym (count_some O (λ j. ω (suc j)))) e)
    (λ q. some_terms_same O (λ j. υ (suc j)) (λ j. ω (suc j)) q)
  where
    at : (i : ℕ) (A : LfType) → TypeAt (B ∷ O) i A → (some_spine O (λ j. υ (suc j)) ≡ some_spine O (λ j. ω (suc j))) × (as_term (skeleton B) (υ zero) ≡ as_term (skeleton B) (ω zero)) → (some_spine O (λ j. υ (suc j)) ≡ some_spine O (λ j. ω (suc j)) → (i : ℕ) (A : LfType) → TypeAt O i A → as_term (skeleton A) (υ (suc i)) ≡ as_term (skeleton A) (ω (suc i))) → as_term (skeleton A) (υ i) ≡ as_term (skeleton A) (ω i)
    at zero A e (p, q) ih = ap (λ a. as_term a (υ zero)) (ap skeleton e ∙ skeleton_renamed suc B) ∙ q ∙ ap (λ a. as_term a (ω zero)) (sym (ap skeleton e ∙ skeleton_renamed suc B))
    at (suc i) A (D, g, e) (p, q) ih = ap (λ a. as_term a (υ (suc i))) (ap skeleton e ∙ skeleton_renamed suc D) ∙ ih p i D g ∙ ap (λ a. as_term a (ω (suc i))) (sym (ap skeleton e ∙ skeleton_renamed suc D))

pub some_equal : (O : List LfType) (υ ω : ℕ → Image) → ((i : ℕ) (A : LfType) → TypeAt O i A → as_term (skeleton A) (υ i) ≡ as_term (skeleton A) (ω i)) → some_spine O υ ≡ some_spine O ω
some_equal [] υ ω h = refl
some_equal (A ∷ O) υ ω h = ap₂ add_last
    (some_equal O (λ i. υ (suc i)) (λ i. ω (suc i)) (λ i B g. ap (λ a. as_term a (υ (suc i))) (sym (skeleton_renamed suc B)) ∙ h (suc i) (weaken B) (B, g, refl) ∙ ap (λ a. as_term a (ω (suc i))) (skeleton_renamed suc B)))
    (ap (λ a. as_term a (υ zero)) (sym (skeleton_renamed suc A)) ∙ h zero (weaken A) refl ∙ ap (λ a. as_term a (ω zero)) (skeleton_renamed suc A))

-- each value on own terms
own_of_add : (o : ℕ → Option Spine) (S : Spine) (N : Term) → SpineOnOwnTerms o (add_last S N) → SpineOnOwnTerms o S × OnOwnTerms o N
own_of_add o nil N (n, s) = (tt, n)
own_of_add o (app M S) N (m, s) = let (p, q) = own_of_add o S N s in ((m, p), q)

pub some_own : (o : ℕ → Option Spine) (O : List LfType) (υ : ℕ → Image) → SpineOnOwnTerms o (some_spine O υ) → (i : ℕ) (A : LfType) → TypeAt O i A → OnOwnTerms o (as_term (skeleton A) (υ i))
some_own o [] υ s i A g = absurd g
some_own o (B ∷ O) υ s zero A e = subst (λ a. OnOwnTerms o (as_term a (υ zero))) (sym (ap skeleton e ∙ skeleton_renamed suc B)) (own_of_add o (some_spine O (λ j. υ (suc j))) (as_term (skeleton B) (υ zero)) s).1
some_own o (B ∷ O) υ s (suc i) A (D, g, e) = subst (λ a. OnOwnTerms o (as_term a (υ (suc i)))) (sym (ap skeleton e ∙ skeleton_renamed suc D)) (some_own o O (λ j. υ (suc j)) (own_of_add o (some_spine O (λ j. υ (suc j))) (as_term (skeleton B) (υ zero)) s).0 i D g)

module _ (κ : HeadSkeletons) where
  pub put_term : (Θ Δ : List Skeleton) (σ : ℕ → Image) → SubstitutionBySkeletons κ Θ Δ σ → (a : Skeleton) (x : Image) → ImageSkeleton κ Θ x a → substitute reduce σ (as_term a x) ≡ as_term a (substitute_image σ x)
  put_term Θ Δ σ s a (keep j) g = value_of_long κ Δ a σ j (σ j) refl (s j a g)
  put_term Θ Δ σ s a (put b N) g = refl

  -- values put into all
  pub put_some : (O : List LfType) (Θ Δ : List Skeleton) (η σ : ℕ → Image) → SubstitutionBySkeletons κ (context_skeletons O) Θ η → SubstitutionBySkeletons κ Θ Δ σ → substitute_spine reduce σ (some_spine O η) ≡ some_spine O (after σ η)
  put_some [] Θ Δ η σ e s = refl
  put_some (A ∷ O) Θ Δ η σ e s = put_add σ (some_spine O (λ i. η (suc i))) (as_term (skeleton A) (η zero)) ∙ ap₂ add_last (put_some O Θ Δ (λ i. η (suc i)) σ (λ i. e (suc i)) s) (put_term Θ Δ σ s (skeleton A) (η zero) (e zero (skeleton A) refl))

  pub put_locals : (O : List LfType) (Δ : List Skeleton) (υ : ℕ → Image) → SubstitutionBySkeletons κ (context_skeletons O) Δ υ → substitute_spine reduce υ (local_arguments O) ≡ some_spine O υ
  put_locals [] Δ υ s = refl
  put_locals (A ∷ O) Δ υ s = put_add υ (rename_spine suc (local_arguments O)) (eta_long (skeleton A) (variable zero)) ∙ ap₂ add_last (substitute_renamed_spine reduce υ suc (local_arguments O) ∙ put_locals O Δ (λ i. υ (suc i)) (λ i. s (suc i))) (value_of_long κ Δ (skeleton A) υ zero (υ zero) refl (s zero (skeleton A) refl))

-- the entries on the local variables, and then on values
pub after_entries : (n : ℕ) (U V : Spine) (es : List LfType) (υ ω : ℕ → Image) → substitute_spine reduce ω U ≡ V → (i : ℕ) → after ω (entry_images n U es υ) i ≡ entry_images n V es (after ω υ) i
after_entries n U V [] υ ω e i = refl
after_entries n U V (E ∷ es) υ ω e zero = ap (put (skeleton E)) (substitute_eta_expand ω (skeleton E) (constant (n + length es)) (constant (n + length es)) U refl ∙ ap (eta_expand (skeleton E) (constant (n + length es))) e)
after_entries n U V (E ∷ es) υ ω e (suc i) = after_entries n U V es υ ω e i

-- A constant whose type is closed over some variables, on typed values of these
module _ (Σ : Signature) (ok : IsSignature Σ) where
  pub some_typed : (X : List LfType) → IsContext Σ X → (O : List LfType) (T : LfType) (υ : ℕ → Image) → IsContext Σ O → IsType Σ O T → IsTypedSubstitution Σ O X υ → SpineType Σ X (some_spine O υ) (pi_over O T) (substitute_type reduce υ T)
  some_typed X cx [] T υ c t s = sym (closed_type_substituted Σ reduce υ T t)
  some_typed X cx (A ∷ O) T υ (c, a) t s =
      let ω : ℕ → Image = λ i. υ (suc i) in
      let N : Term = as_term (skeleton A) (υ zero) in
      let κ = constant_skeletons Σ in
      let Γ : List Skeleton = context_skeletons O in
      let Δ : List Skeleton = context_skeletons X in
      let sω : IsTypedSubstitution Σ O X ω = behind_one Σ ok [] (λ B i. absurd i) O X A υ s in
      let kω : SubstitutionBySkeletons κ Γ Δ ω = typed_substitution_by_skeletons Σ ok O X ω sω in
      let kυ : SubstitutionBySkeletons κ (skeleton A ∷ Γ) Δ υ = typed_substitution_by_skeletons Σ ok (A ∷ O) X υ s in
      let A' : LfType = substitute_type reduce ω A in
      let n : HasType Σ X N A' = term_typed Σ ok X cx (skeleton A) (υ zero) A' (skeleton_substituted reduce ω A) (subst (ImageHasType Σ X (υ zero)) (substitute_renamed_type reduce υ suc A) (s zero (weaken A) refl)) in
      let nk : TermSkeleton κ Δ N (skeleton A) = subst (TermSkeleton κ Δ N) (skeleton_substituted reduce ω A) (typed_has_skeleton Σ X N A' n) in
      let tk = type_by_skeletons Σ (A ∷ O) T t in
      let ψ : ℕ → Image = in_front (put (skeleton A) N) ω in
      let kψ : SubstitutionBySkeletons κ (skeleton A ∷ Γ) Δ ψ = front ω (skeleton A) N Γ Δ kω nk in
      let one : instantiate_type A' N (substitute_type reduce (lift ω) T) ≡ substitute_type reduce ψ T =
      ap (λ b. substitute_type reduce (single b N) (substitute_type reduce (lift ω) T)) (skeleton_substituted reduce ω A)
      ∙ substitutions_compose_type (family_skeletons Σ) κ (skeleton A ∷ Γ) (skeleton A ∷ Δ) Δ (lift ω) (single (skeleton A) N) T (lift_by_skeletons κ (skeleton A) Γ Δ ω kω) (single_by_skeletons κ (skeleton A) Δ N nk) tk
      ∙ ap (λ ρ. substitute_type reduce ρ T) (fun_ext (around ω (skeleton A) N)) in
      let two : substitute_type reduce ψ T ≡ substitute_type reduce υ T =
      sym (long_same κ (family_skeletons Σ) [] (A ∷ O) Δ ψ T kψ tk)
      ∙ ap (λ ρ. substitute_type reduce ρ T) (fun_ext (long_front υ N))
      ∙ long_same κ (family_skeletons Σ) [] (A ∷ O) Δ υ T kυ tk in
      subst (SpineType Σ X (add_last (some_spine O ω) N) (pi_over O (pi A T))) (one ∙ two) (add_typed Σ X (some_spine O ω) N (pi_over O (pi A T)) A' (substitute_type reduce (lift ω) T) (some_typed X cx O (pi A T) ω c (a, t) sω) n)
    where
      front : (ω : ℕ → Image) (a : Skeleton) (N : Term) (Γ Δ : List Skeleton) → SubstitutionBySkeletons (constant_skeletons Σ) Γ Δ ω → TermSkeleton (constant_skeletons Σ) Δ N a → SubstitutionBySkeletons (constant_skeletons Σ) (a ∷ Γ) Δ (in_front (put a N) ω)
      front ω a N Γ Δ k n zero t e = (e, n)
      front ω a N Γ Δ k n (suc i) t g = k i t g

      around : (ω : ℕ → Image) (a : Skeleton) (N : Term) (i : ℕ) → after (single a N) (lift ω) i ≡ in_front (put a N) ω i
      around ω a N zero = refl
      around ω a N (suc i) = sym (around_image a N (ω i))

      long_front : (υ : ℕ → Image) (N : Term) (i : ℕ) → long_at (A ∷ O) (in_front (put (skeleton A) (as_term (skeleton A) (υ zero))) (λ j. υ (suc j))) i ≡ long_at (A ∷ O) υ i
      long_front υ N zero = refl
      long_front υ N (suc i) = refl
