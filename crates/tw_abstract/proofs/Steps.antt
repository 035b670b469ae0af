-- The steps of the walks.
use Rattle.std.proofs.Common.{◌≡◌, ℕ, suc, ◌+◌, ◌<◌, ◌≤◌, List, [], ◌∷◌, ◌++◌, length, get_or, drop, map, Option, Some, None, refl, ap, ap₂, sym, ◌∙◌, subst, add-one, drop-cons}
use Rattle.std.proofs.Math.ListN.{drop_of_length-le}
use Rattle.std.proofs.lemmas.List.{map-append}
use Rattle.std.specs.Option.{option_map}
use Rattle.lf.specs.Syntax.{Head, LfType, Spine, Term, app, atom, lambda, nil, pi, root}
use Rattle.tw_terms.specs.OpenView.{open_args_of, open_term_of}
use Rattle.tw_terms.specs.View.{spine_from, term_of}
use Rattle.tw_terms.specs.declared.canonical.Term as canonical
use Rattle.tw_terms.specs.declared.open_terms.Open.{Open}
use Rattle.tw_abstract.specs.Generalizing.{both, generalized, generalized_head, generalized_spine, generalized_type}

-- these arguments before those of a spine
abbrev pub before : List Term → Spine → Spine
before [] S = S
before (M ∷ Ms) S = app M (before Ms S)

pub nothing_before : (Ms : List Term) → before Ms nil ≡ spine_from Ms
nothing_before [] = refl
nothing_before (M ∷ Ms) = ap (app M) (nothing_before Ms)

pub one_before : (Ms : List Term) (N : Term) (S : Spine) → before (Ms ++ N ∷ []) S ≡ before Ms (app N S)
one_before [] N S = refl
one_before (M ∷ Ms) N S = ap (app M) (one_before Ms N S)

pub moved_on : (done : List Term) (N : Term) (r : Option Spine) → option_map (before done) (both (λ N T. app N T) (Some N) r) ≡ option_map (before (done ++ N ∷ [])) r
moved_on done N None = refl
moved_on done N (Some S) = ap Some (sym (one_before done N S))

module _ (index : ℕ → Option ℕ) where
  pub none_at_lambda : {A : Type 0} (f : A → Term) (k n : ℕ) (T M : Term) (r : Option A) → T ≡ lambda M → n ≡ suc k → option_map f r ≡ generalized index n M → r ≡ None → None ≡ generalized index k T
  none_at_lambda f k n T M r e i g h =
      let t : None ≡ generalized index (suc k) M = subst (λ x. option_map f x ≡ generalized index (suc k) M) h (subst (λ x. option_map f r ≡ generalized index x M) i g) in
      subst (λ X. None ≡ generalized index k X) (sym e) (ap (option_map (λ N. lambda N)) t)

  pub some_at_lambda : {A : Type 0} (f : A → Term) (k n : ℕ) (T M X : Term) (r : Option A) (b : A) → T ≡ lambda M → n ≡ suc k → option_map f r ≡ generalized index n M → r ≡ Some b → X ≡ lambda (f b) → Some X ≡ generalized index k T
  some_at_lambda f k n T M X r b e i g h x =
      let t : Some (f b) ≡ generalized index (suc k) M = subst (λ x. option_map f x ≡ generalized index (suc k) M) h (subst (λ x. option_map f r ≡ generalized index x M) i g) in
      ap Some x ∙ subst (λ X. Some (lambda (f b)) ≡ generalized index k X) (sym e) (ap (option_map (λ N. lambda N)) t)

  pub none_at_head : {A : Type 0} (f : A → Head) (k : ℕ) (T : Term) (h : Head) (S : Spine) (r : Option A) → T ≡ root h S → option_map f r ≡ generalized_head index k h → r ≡ None → None ≡ generalized index k T
  none_at_head f k T h S r e g i =
      let t : None ≡ generalized_head index k h = subst (λ x. option_map f x ≡ generalized_head index k h) i g in
      subst (λ X. None ≡ generalized index k X) (sym e) (ap (λ x. both (λ g T. root g T) x (generalized_spine index k S)) t)

  pub none_at_spine : {A B : Type 0} (f : A → Head) (f' : B → Spine) (k : ℕ) (T : Term) (h : Head) (S : Spine) (r : Option A) (b : A) (r' : Option B) → T ≡ root h S → option_map f r ≡ generalized_head index k h → r ≡ Some b → option_map f' r' ≡ generalized_spine index k S → r' ≡ None → None ≡ generalized index k T
  none_at_spine f f' k T h S r b r' e g i g' i' =
      let t : Some (f b) ≡ generalized_head index k h = subst (λ x. option_map f x ≡ generalized_head index k h) i g in
      let t' : None ≡ generalized_spine index k S = subst (λ x. option_map f' x ≡ generalized_spine index k S) i' g' in
      subst (λ X. None ≡ generalized index k X) (sym e) (ap₂ (both (λ g T. root g T)) t t')

  pub some_at_root : {A B : Type 0} (f : A → Head) (f' : B → Spine) (k : ℕ) (T X : Term) (h : Head) (S : Spine) (r : Option A) (b : A) (r' : Option B) (b' : B) → T ≡ root h S → option_map f r ≡ generalized_head index k h → r ≡ Some b → option_map f' r' ≡ generalized_spine index k S → r' ≡ Some b' → X ≡ root (f b) (f' b') → Some X ≡ generalized index k T
  some_at_root f f' k T X h S r b r' b' e g i g' i' x =
      let t : Some (f b) ≡ generalized_head index k h = subst (λ x. option_map f x ≡ generalized_head index k h) i g in
      let t' : Some (f' b') ≡ generalized_spine index k S = subst (λ x. option_map f' x ≡ generalized_spine index k S) i' g' in
      ap Some x ∙ subst (λ X. Some (root (f b) (f' b')) ≡ generalized index k X) (sym e) (ap₂ (both (λ g T. root g T)) t t')

  pub none_at_domain : {A : Type 0} (f : A → LfType) (k : ℕ) (T A₁ B₁ : LfType) (r : Option A) → T ≡ pi A₁ B₁ → option_map f r ≡ generalized_type index k A₁ → r ≡ None → None ≡ generalized_type index k T
  none_at_domain f k T A₁ B₁ r e g i =
      let t : None ≡ generalized_type index k A₁ = subst (λ x. option_map f x ≡ generalized_type index k A₁) i g in
      subst (λ X. None ≡ generalized_type index k X) (sym e) (ap (λ x. both (λ C D. pi C D) x (generalized_type index (suc k) B₁)) t)

  pub none_at_range : {A : Type 0} (f : A → LfType) (k n : ℕ) (T A₁ B₁ : LfType) (r : Option A) (b : A) (r' : Option A) → T ≡ pi A₁ B₁ → n ≡ suc k → option_map f r ≡ generalized_type index k A₁ → r ≡ Some b → option_map f r' ≡ generalized_type index n B₁ → r' ≡ None → None ≡ generalized_type index k T
  none_at_range f k n T A₁ B₁ r b r' e j g i g' i' =
      let t : Some (f b) ≡ generalized_type index k A₁ = subst (λ x. option_map f x ≡ generalized_type index k A₁) i g in
      let t' : None ≡ generalized_type index (suc k) B₁ = subst (λ x. option_map f x ≡ generalized_type index (suc k) B₁) i' (subst (λ x. option_map f r' ≡ generalized_type index x B₁) j g') in
      subst (λ X. None ≡ generalized_type index k X) (sym e) (ap₂ (both (λ C D. pi C D)) t t')

  pub some_at_pi : {A : Type 0} (f : A → LfType) (k n : ℕ) (T X A₁ B₁ : LfType) (r : Option A) (b : A) (r' : Option A) (b' : A) → T ≡ pi A₁ B₁ → n ≡ suc k → option_map f r ≡ generalized_type index k A₁ → r ≡ Some b → option_map f r' ≡ generalized_type index n B₁ → r' ≡ Some b' → X ≡ pi (f b) (f b') → Some X ≡ generalized_type index k T
  some_at_pi f k n T X A₁ B₁ r b r' b' e j g i g' i' x =
      let t : Some (f b) ≡ generalized_type index k A₁ = subst (λ x. option_map f x ≡ generalized_type index k A₁) i g in
      let t' : Some (f b') ≡ generalized_type index (suc k) B₁ = subst (λ x. option_map f x ≡ generalized_type index (suc k) B₁) i' (subst (λ x. option_map f r' ≡ generalized_type index x B₁) j g') in
      ap Some x ∙ subst (λ X. Some (pi (f b) (f b')) ≡ generalized_type index k X) (sym e) (ap₂ (both (λ C D. pi C D)) t t')

  -- one argument more
  one_more_argument : (k : ℕ) (whole : Option Spine) (done : List Term) (M N : Term) (rest : Spine) → whole ≡ option_map (before done) (generalized_spine index k (app M rest)) → Some N ≡ generalized index k M → whole ≡ option_map (before (done ++ N ∷ [])) (generalized_spine index k rest)
  one_more_argument k whole done M N rest e g =
      let P : Option Term → Type 0 = λ x. whole ≡ option_map (before done) (both (λ N T. app N T) x (generalized_spine index k rest)) in
      subst P (sym g) e ∙ moved_on done N (generalized_spine index k rest)

  pub next_argument : (k i : ℕ) (ts : List Open) (x : Open) (done done' : List canonical.Term) (r : Option canonical.Term) (a : canonical.Term) (whole : Option Spine) → i < length ts → x ≡ get_or ts i x → whole ≡ option_map (before (map term_of done)) (generalized_spine index k (open_args_of (drop i ts))) → option_map term_of r ≡ generalized index k (open_term_of x) → r ≡ Some a → done' ≡ done ++ a ∷ [] → whole ≡ option_map (before (map term_of done')) (generalized_spine index k (open_args_of (drop (i + 1) ts)))
  next_argument k i ts x done done' r a whole h is e g q d =
      let rest : open_args_of (drop i ts) ≡ app (open_term_of x) (open_args_of (drop (i + 1) ts)) = ap open_args_of (drop-cons ts i x h) ∙ ap₂ (λ y n. app (open_term_of y) (open_args_of (drop n ts))) (sym is) (sym (add-one i)) in
      let e' = subst (λ S. whole ≡ option_map (before (map term_of done)) (generalized_spine index k S)) rest e in
      let g' : Some (term_of a) ≡ generalized index k (open_term_of x) = subst (λ y. option_map term_of y ≡ generalized index k (open_term_of x)) q g in
      let all : map term_of done' ≡ map term_of done ++ term_of a ∷ [] = ap (map term_of) d ∙ map-append term_of done (a ∷ []) in
      one_more_argument k whole (map term_of done) (open_term_of x) (term_of a) (open_args_of (drop (i + 1) ts)) e' g' ∙ ap (λ Ms. option_map (before Ms) (generalized_spine index k (open_args_of (drop (i + 1) ts)))) (sym all)

  -- all arguments are made
  pub all_arguments : (k i : ℕ) (ts : List Open) (whole : Option Spine) (done : List Term) (X : Spine) → length ts ≤ i → whole ≡ option_map (before done) (generalized_spine index k (open_args_of (drop i ts))) → X ≡ spine_from done → Some X ≡ whole
  all_arguments k i ts whole done X h e x =
      ap Some (x ∙ sym (nothing_before done)) ∙ sym (subst (λ S. whole ≡ option_map (before done) (generalized_spine index k (open_args_of S))) (drop_of_length-le ts h) e)

  -- an atom
  pub some_at_atom : {A : Type 0} (f : A → Spine) (k a : ℕ) (T X : LfType) (S : Spine) (r : Option A) (b : A) → T ≡ atom a S → option_map f r ≡ generalized_spine index k S → r ≡ Some b → X ≡ atom a (f b) → Some X ≡ generalized_type index k T
  some_at_atom f k a T X S r b e g i x =
      let t : Some (f b) ≡ generalized_spine index k S = subst (λ y. option_map f y ≡ generalized_spine index k S) i g in
      ap Some x ∙ subst (λ Y. Some (atom a (f b)) ≡ generalized_type index k Y) (sym e) (ap (option_map (λ T. atom a T)) t)
