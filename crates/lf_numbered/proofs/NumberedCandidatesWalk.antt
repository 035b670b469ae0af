-- A walk through a text of a case by number and one of a pattern, by skeletons: what is known of each candidate.
use Rattle.std.proofs.Common.{◌≡◌, ℕ, zero, suc, List, [], ◌∷◌, refl, sym, ap, ◌∙◌, subst, true≢false}
use Rattle.std.specs.Prelude.{Bool, true, false, cond, Option, Some, None}
use Rattle.lf.specs.Syntax.{constant, variable, metavariable, Term, Spine, lambda, root, nil, app, Skeleton, base, arrow}
use Rattle.lf.specs.SkeletonTyping.{HeadSkeletons, SkeletonAt, SpineSkeleton, TermSkeleton}
use Rattle.lf.specs.Variables.{hide, under}
use Rattle.lf_checks.specs.Strict.{head_variable, is_bound, lower, pattern_arguments, with_seen}
use Rattle.lf_checks.proofs.EtaTest.{both_l, both_r}
use Rattle.lf_cases.specs.Candidates.{candidates, candidates_spine, counted, is_rigid}
use Rattle.lf_coverage.proofs.Abstracted.{expanded_back}
use Rattle.lf_coverage.proofs.EachCandidate.{Each, each_chosen, each_counted, each_none, each_then}
use Rattle.lf_coverage.proofs.EtaArguments.{bound_argument}
use Rattle.lf_numbered.specs.Reading.{drop_arguments, read, read_constant, read_spine, weaken_read}
use Rattle.lf_numbered.proofs.NumberedCandidatesRead.{Elsewhere, read_eta, weaken_none, weaken_some}
use Rattle.lf_numbered.proofs.WritingLow.{skeleton_target}

-- A fact of skeletons that those under whose heads the walk goes have: `Own` is asked of a head's own family.
module _ (κ : HeadSkeletons) (Own : ℕ → Bool) (In : Skeleton → Type 0) (parts : (a b : Skeleton) → In (arrow a b) → In a × In b) (own : (t : Skeleton) → In t → Own (skeleton_target t) ≡ true) where
  -- what is left behind the first arguments has it
  abbrev pub InBehind : ℕ → Skeleton → Type 0
  InBehind zero t = In t
  InBehind (suc m) (arrow a b) = InBehind m b
  InBehind (suc m) (base c) = ⊥

  -- The own family is one, and each argument whose own family is one has the fact.
  abbrev pub Takes : Skeleton → Type 0
  Takes (arrow a b) = (Own (skeleton_target a) ≡ true → In a) × Takes b
  Takes (base c) = Own c ≡ true

  -- what a constant is read as, by its skeleton
  abbrev pub ConstantsIn : (ℕ → Option (ℕ × ℕ)) → Type 0
  ConstantsIn f = (c : ℕ) (t : Skeleton) → κ.constant_skeleton c ≡ Some t → Own (skeleton_target t) ≡ true → (f c ≡ None → In t) × ((m v : ℕ) → f c ≡ Some (m, v) → InBehind m t)

  -- Variables of F under n binders are the case's; the others have the fact where their own family is one. The skeletons of Δ are of what may stand in the text.
  abbrev pub Good : (ℕ → Type 0) → (ℕ → Bool) → ℕ → List Skeleton → Type 0
  Good P F n Γ = (i : ℕ) (t : Skeleton) → SkeletonAt Γ i t → F i ≡ true → (x : ℕ) → lower n i ≡ Some x → Takes t → P x

  abbrev pub Other : (ℕ → Bool) → List Skeleton → List Skeleton → Type 0
  Other F Γ Δ = (i : ℕ) (t u : Skeleton) → SkeletonAt Γ i t → SkeletonAt Δ i u → F i ≡ false → Own (skeleton_target t) ≡ true → In t

  spine_target : (Γ : List Skeleton) (S : Spine) (t u : Skeleton) → SpineSkeleton κ Γ S t u → skeleton_target t ≡ skeleton_target u
  spine_target Γ nil t u e = ap skeleton_target e
  spine_target Γ (app M S) (arrow a b) u (m, s) = spine_target Γ S b u s
  spine_target Γ (app M S) (base c) u s = absurd s

  -- A variable on bound variables takes these.
  module _ (B F : ℕ → Bool) (Γ Δ : List Skeleton) (f : ℕ → Option (ℕ × ℕ)) (apart : (i : ℕ) → B i ≡ true → F i ≡ false) (other : Other F Γ Δ) (far : Elsewhere f B) where
    pub on_bound : (seen : List ℕ) (S : Spine) (t u : Skeleton) (d d2 : ℕ) → pattern_arguments B seen (read_spine f S) ≡ true → SpineSkeleton κ Γ S t (base d) → SpineSkeleton κ Δ S u (base d2) → Own d ≡ true → Takes t
    on_bound seen nil (base c) u d d2 e s s2 o = subst (λ z. Own z ≡ true) (sym (ap skeleton_target s)) o
    on_bound seen nil (arrow a b) u d d2 e s s2 o = absurd cc
    on_bound seen (app M S) (base c) u d d2 e s s2 o = absurd s
    on_bound seen (app M S) (arrow a b) (base c) d d2 e s s2 o = absurd s2
    on_bound seen (app M S) (arrow a b) (arrow a2 b2) d d2 e (m, s) (m2, s2) o =
        let h : Option ℕ = head_variable zero (read f M) in
        let (y, k, q, by, ns, r) = bound_argument B seen (read f M) h (both_l (is_bound B seen (read f M) h) (pattern_arguments B (with_seen h seen) (read_spine f S)) e) in
        let p = read_eta f B far M k y by r in
        let (v, g, z, w) = expanded_back κ k a Γ (variable y) nil (subst (λ N. TermSkeleton κ Γ N a) p m) in
        let (v2, g2, z2, w2) = expanded_back κ k a2 Δ (variable y) nil (subst (λ N. TermSkeleton κ Δ N a2) p m2) in
        ((λ own_a. other y a v2 (subst (SkeletonAt Γ y) z g) g2 (apart y by) own_a), on_bound (with_seen h seen) S b b2 d d2 (both_r (is_bound B seen (read f M) h) (pattern_arguments B (with_seen h seen) (read_spine f S)) e) s s2 o)

  -- All that is known of variables on the way, for n binders of which B has the variables.
  pub record Way (P : ℕ → Type 0) (B F : ℕ → Bool) (n : ℕ) (Γ Δ : List Skeleton) (f : ℕ → Option (ℕ × ℕ)) : Type 0 where
    pub good : Good P F n Γ
    pub other : Other F Γ Δ
    pub apart : (i : ℕ) → B i ≡ true → F i ≡ false
    pub far : Elsewhere f B
    pub not_free : Elsewhere f F
    pub constants : ConstantsIn f

  module _ (P : ℕ → Type 0) where
    way_under : (B F : ℕ → Bool) (n : ℕ) (Γ Δ : List Skeleton) (f : ℕ → Option (ℕ × ℕ)) (a b : Skeleton) → (Own (skeleton_target a) ≡ true → In a) → Way P B F n Γ Δ f → Way P (under B) (hide F) (suc n) (a ∷ Γ) (b ∷ Δ) (λ c. weaken_read (f c))
    way_under B F n Γ Δ f a b k w = record { good = good; other = other; apart = apart; far = far; not_free = not_free; constants = constants }
      where
        good : Good P (hide F) (suc n) (a ∷ Γ)
        good zero t g e x q h = absurd (true≢false (sym e))
        good (suc i) t g e x q h = w.good i t g e x q h

        other : Other (hide F) (a ∷ Γ) (b ∷ Δ)
        other zero t u g h e o = subst In g (k (subst (λ z. Own (skeleton_target z) ≡ true) (sym g) o))
        other (suc i) t u g h e o = w.other i t u g h e o

        apart : (i : ℕ) → under B i ≡ true → hide F i ≡ false
        apart zero e = refl
        apart (suc i) e = w.apart i e

        far : Elsewhere (λ c. weaken_read (f c)) (under B)
        far c m v e = let (u, p, q) = weaken_some (f c) m v e in ap (under B) q ∙ w.far c m u p

        not_free : Elsewhere (λ c. weaken_read (f c)) (hide F)
        not_free c m v e = let (u, p, q) = weaken_some (f c) m v e in ap (hide F) q ∙ w.not_free c m u p

        constants : ConstantsIn (λ c. weaken_read (f c))
        constants c t e o = ((λ z. (w.constants c t e o).0 (weaken_none (f c) z)), λ m v z. let (u, p, q) = weaken_some (f c) m v z in (w.constants c t e o).1 m u p)

    from_constant : (B F Q : ℕ → Bool) (n : ℕ) (Γ Δ : List Skeleton) (f : ℕ → Option (ℕ × ℕ)) → Way P B F n Γ Δ f → (d : ℕ) (S : Spine) (N : Term) (y : Option (ℕ × ℕ)) → f d ≡ y → (t : Skeleton) → ((f d ≡ None → In t) × ((m v : ℕ) → f d ≡ Some (m, v) → InBehind m t)) → ((T : Spine) → In t → Each P (candidates_spine B F Q n (read_spine f S) T)) → ((m : ℕ) (T : Spine) → InBehind m t → Each P (candidates_spine B F Q n (drop_arguments m (read_spine f S)) T)) → Each P (candidates B F Q n (read_constant y d (read_spine f S)) N)
    from_constant B F Q n Γ Δ f w d S (lambda N) None e t k whole left = each_none P
    from_constant B F Q n Γ Δ f w d S (lambda N) (Some (m, v)) e t k whole left = each_none P
    from_constant B F Q n Γ Δ f w d S (root g T) None e t k whole left = each_chosen P (is_rigid Q g) (candidates_spine B F Q n (read_spine f S) T) [] (λ q. whole T (k.0 e)) (λ q. each_none P)
    from_constant B F Q n Γ Δ f w d S (root g T) (Some (m, v)) e t k whole left =
        let R : Spine = drop_arguments m (read_spine f S) in
        each_chosen P (is_rigid Q g) (cond (F v) (counted (pattern_arguments B [] R) (lower n v)) (candidates_spine B F Q n R T)) []
        (λ q. each_chosen P (F v) (counted (pattern_arguments B [] R) (lower n v)) (candidates_spine B F Q n R T) (λ r. absurd (true≢false (sym r ∙ w.not_free d m v e))) (λ r. left m T (k.1 m v e)))
        (λ q. each_none P)

    mutual
      pub from_term : (B F Q : ℕ → Bool) (n : ℕ) (Γ Δ : List Skeleton) (f : ℕ → Option (ℕ × ℕ)) → Way P B F n Γ Δ f → (M N : Term) (t u : Skeleton) → In t → TermSkeleton κ Γ M t → TermSkeleton κ Δ M u → Each P (candidates B F Q n (read f M) N)
      from_term B F Q n Γ Δ f w (lambda M) (lambda N) (arrow a b) (arrow a2 b2) h m k =
          let (ha, hb) = parts a b h in
          from_term (under B) (hide F) (hide Q) (suc n) (a ∷ Γ) (a2 ∷ Δ) (λ c. weaken_read (f c)) (way_under B F n Γ Δ f a a2 (λ o. ha) w) M N b b2 hb m k
      from_term B F Q n Γ Δ f w (lambda M) (lambda N) (arrow a b) (base d) h m k = absurd k
      from_term B F Q n Γ Δ f w (lambda M) (lambda N) (base c) u h m k = absurd m
      from_term B F Q n Γ Δ f w (lambda M) (root g T) t u h m k = each_none P
      from_term B F Q n Γ Δ f w (root g S) N (arrow a b) u h m k = absurd m
      from_term B F Q n Γ Δ f w (root g S) N (base c) (arrow a b) h m k = absurd k
      from_term B F Q n Γ Δ f w (root (constant d) S) N (base c) (base c2) h (t, e, s) (t2, e2, s2) =
          let o : Own (skeleton_target t) ≡ true = subst (λ z. Own z ≡ true) (sym (spine_target Γ S t (base c) s)) (own (base c) h) in
          from_constant B F Q n Γ Δ f w d S N (f d) refl t (w.constants d t e o) (λ T k. from_spine B F Q n Γ Δ f w zero S T t t2 (base c) (base c2) k s s2) (λ m T k. from_spine B F Q n Γ Δ f w m S T t t2 (base c) (base c2) k s s2)
      from_term B F Q n Γ Δ f w (root (metavariable d) S) (lambda N) (base c) (base c2) h m k = each_none P
      from_term B F Q n Γ Δ f w (root (metavariable d) S) (root g T) (base c) (base c2) h m k = each_none P
      from_term B F Q n Γ Δ f w (root (variable i) S) (lambda N) (base c) (base c2) h m k = each_none P
      from_term B F Q n Γ Δ f w (root (variable i) S) (root g T) (base c) (base c2) h (t, e, s) (t2, e2, s2) =
          let o : Own (skeleton_target t) ≡ true = subst (λ z. Own z ≡ true) (sym (spine_target Γ S t (base c) s)) (own (base c) h) in
          each_chosen P (is_rigid Q g) (cond (F i) (counted (pattern_arguments B [] (read_spine f S)) (lower n i)) (candidates_spine B F Q n (read_spine f S) T)) []
          (λ q. each_chosen P (F i) (counted (pattern_arguments B [] (read_spine f S)) (lower n i)) (candidates_spine B F Q n (read_spine f S) T)
          (λ r. each_counted P (pattern_arguments B [] (read_spine f S)) (lower n i) (λ z x y. w.good i t e r x y (on_bound B F Γ Δ f w.apart w.other w.far [] S t t2 c c2 z s s2 (own (base c) h))))
          (λ r. from_spine B F Q n Γ Δ f w zero S T t t2 (base c) (base c2) (w.other i t t2 e e2 r o) s s2))
          (λ q. each_none P)

      from_spine : (B F Q : ℕ → Bool) (n : ℕ) (Γ Δ : List Skeleton) (f : ℕ → Option (ℕ × ℕ)) → Way P B F n Γ Δ f → (k : ℕ) (S T : Spine) (t t2 u u2 : Skeleton) → InBehind k t → SpineSkeleton κ Γ S t u → SpineSkeleton κ Δ S t2 u2 → Each P (candidates_spine B F Q n (drop_arguments k (read_spine f S)) T)
      from_spine B F Q n Γ Δ f w zero nil T t t2 u u2 h s s2 = each_none P
      from_spine B F Q n Γ Δ f w zero (app M S) nil t t2 u u2 h s s2 = each_none P
      from_spine B F Q n Γ Δ f w zero (app M S) (app N T) (base c) t2 u u2 h s s2 = absurd s
      from_spine B F Q n Γ Δ f w zero (app M S) (app N T) (arrow a b) (base c) u u2 h s s2 = absurd s2
      from_spine B F Q n Γ Δ f w zero (app M S) (app N T) (arrow a b) (arrow a2 b2) u u2 h (m, s) (m2, s2) =
          let (ha, hb) = parts a b h in
          each_then P (candidates B F Q n (read f M) N) (candidates_spine B F Q n (read_spine f S) T) (from_term B F Q n Γ Δ f w M N a a2 ha m m2) (from_spine B F Q n Γ Δ f w zero S T b b2 u u2 hb s s2)
      from_spine B F Q n Γ Δ f w (suc k) nil T t t2 u u2 h s s2 = each_none P
      from_spine B F Q n Γ Δ f w (suc k) (app M S) T (base c) t2 u u2 h s s2 = absurd h
      from_spine B F Q n Γ Δ f w (suc k) (app M S) T (arrow a b) (base c) u u2 h s s2 = absurd s2
      from_spine B F Q n Γ Δ f w (suc k) (app M S) T (arrow a b) (arrow a2 b2) u u2 h (m, s) (m2, s2) = from_spine B F Q n Γ Δ f w k S T b b2 u u2 h s s2
