-- Each typed unifier of a well-formed store without equations comes from its answer by values of the answer's free variables.
use Rattle.std.proofs.Common.{◌≡◌, ℕ, zero, suc, List, [], ◌∷◌, inl, inr, refl, sym, ap, ap₂, ◌∙◌, subst}
use Rattle.std.specs.Prelude.{Option, Some, None, ◌⊎◌}
use Rattle.lf.specs.Syntax.{Term, LfType, Skeleton, skeleton, nil, app, kind_pi, star, rename, rename_type}
use Rattle.lf.proofs.SkeletonTyping.{substitution_keeps_skeletons}
use Rattle.lf.specs.Substitution.{Image, keep, put, substitute, substitute_type, reduce}
use Rattle.lf.specs.SkeletonTyping.{TermSkeleton, SubstitutionBySkeletons}
use Rattle.lf.specs.Skeletons.{context_skeletons, family_skeletons}
use Rattle.lf.specs.AtOnce.{in_front}
use Rattle.lf.specs.Subordination.{Member}
use Rattle.lf.specs.Typing.{Signature, TypeAt, HasType, ImageHasType, IsTypedSubstitution, IsSignature}
use Rattle.lf.proofs.Eta.{eta_both, reduce_nil}
use Rattle.lf.proofs.Renaming.{substitute_renamed, substitute_identity}
use Rattle.lf.proofs.TypeLaws.{skeleton_renamed, skeleton_substituted, substitute_renamed_type, substitute_identity_type}
use Rattle.lf_unification.specs.Dependency.{ListedMetavariable, IsListed, IsDependencyOrder, ValueIsOrdered, free_context, values}
use Rattle.lf_unification.specs.Filling.{fill, fill_type, moved, rename_value}
use Rattle.lf_unification.specs.OpenTyping.{MetavariablesIn, MetavariablesInType, OpenHasType, OpenIsType, IsInstance, ValueHasType, skeletons_of, set_at}
use Rattle.lf_unification.specs.Patterns.{eta_variable}
use Rattle.lf_unification.specs.Skeletons.{TotalSkeletons, as_head_skeletons, total_skeletons}
use Rattle.lf_unification.specs.Solving.{ValuesAreBindings}
use Rattle.lf_unification.specs.Unifiers.{Binding, Respects}
use Rattle.lf_unification.proofs.Agree.{fill_agree, fill_agree_type, set_here}
use Rattle.lf_unification.proofs.Filling.{Filled, ValueHasSkeleton, fill_image, substituted_option, fill_substituted, fill_substituted_type, skeleton_fill}
use Rattle.lf_unification.proofs.Generic.{stage, open_skeletons_type, open_skeletons_kind}
use Rattle.lf_unification.proofs.Offer.{set_other}
use Rattle.lf_unification.proofs.OpenSound.{fill_typed}
use Rattle.lf_unification.proofs.ToSkeletons.{typed_has_skeleton}

-- A term that each renaming leaves as it is stays under each substitution.
closed_stays : (N : Term) → ((ρ : ℕ → ℕ) → rename ρ N ≡ N) → (σ : ℕ → Image) → substitute reduce σ N ≡ N
closed_stays N c σ =
    ap (substitute reduce σ) (sym (c suc)) ∙ substitute_renamed reduce σ suc N ∙ sym (substitute_renamed reduce (in_front (keep zero) (λ i. σ (suc i))) suc N) ∙ ap (substitute reduce (in_front (keep zero) (λ i. σ (suc i)))) (c suc ∙ sym (c (λ i. zero)))
    ∙ substitute_renamed reduce (in_front (keep zero) (λ i. σ (suc i))) (λ i. zero) N ∙ sym (substitute_renamed reduce keep (λ i. zero) N) ∙ ap (substitute reduce keep) (c (λ i. zero)) ∙ substitute_identity reduce N

closed_type_stays : (A : LfType) → ((ρ : ℕ → ℕ) → rename_type ρ A ≡ A) → (σ : ℕ → Image) → substitute_type reduce σ A ≡ A
closed_type_stays A c σ =
    ap (substitute_type reduce σ) (sym (c suc)) ∙ substitute_renamed_type reduce σ suc A ∙ sym (substitute_renamed_type reduce (in_front (keep zero) (λ i. σ (suc i))) suc A) ∙ ap (substitute_type reduce (in_front (keep zero) (λ i. σ (suc i)))) (c suc ∙ sym (c (λ i. zero)))
    ∙ substitute_renamed_type reduce (in_front (keep zero) (λ i. σ (suc i))) (λ i. zero) A ∙ sym (substitute_renamed_type reduce keep (λ i. zero) A) ∙ ap (substitute_type reduce keep) (c (λ i. zero)) ∙ substitute_identity_type reduce A

some_same : {A : Type 0} {x y : A} → Some x ≡ Some y → x ≡ y
some_same e = cc

-- the filling's values are terms typed by skeletons without metavariables
module _ (Σ : Signature) (ok : IsSignature Σ) (Ψ : ℕ → Option LfType) (U : (ℕ → Option Term) → Type 0) (F : List LfType) (β : ℕ → Option Term) (inst : IsInstance Σ [] Ψ F β) (bs : List Binding) (respects : Respects (skeletons_of Ψ) β bs) where
  abbrev pub μ : ℕ → Skeleton
  μ = skeletons_of Ψ

  abbrev κ : TotalSkeletons
  κ = total_skeletons Σ (skeletons_of Ψ)

  -- the value of a declared metavariable
  declared_value : (m : ℕ) (A : LfType) → Ψ m ≡ Some A → (N : Term) × (β m ≡ Some N) × HasType Σ F N (fill_type (skeletons_of Ψ) β A)
  declared_value m A d = by (Ψ m) (β m) d refl (inst.typed m)
    where
      by : (x : Option LfType) (y : Option Term) → x ≡ Some A → β m ≡ y → ValueHasType Σ F (skeletons_of Ψ) β x y → (N : Term) × (β m ≡ Some N) × HasType Σ F N (fill_type (skeletons_of Ψ) β A)
      by None y e q v = absurd cc
      by (Some B) None e q v = absurd v
      by (Some B) (Some N) e q v = (N, q, subst (λ X. HasType Σ F N (fill_type (skeletons_of Ψ) β X)) (some_same e) v)

  -- the values that stand for the answer's variables
  abbrev value_image : Skeleton → Option Term → Image
  value_image a None = keep zero
  value_image a (Some N) = put a N

  abbrev add_image : Option Term → Image → (ℕ → Image) → ℕ → Image
  add_image None x ρ = in_front x ρ
  add_image (Some N) x ρ = ρ

  abbrev pub answer_images : List ListedMetavariable → ℕ → Image
  answer_images [] = keep
  answer_images (it ∷ is) = add_image it.value (value_image (skeleton it.of_type) (β it.of)) (answer_images is)

  -- the part of the filling that comes from the answer
  abbrev from_answer : List ListedMetavariable → ℕ → Option Term
  from_answer is m = substituted_option (answer_images is) (values (skeletons_of Ψ) is m)

  -- What is known of a part of the order.
  pub record Part (is : List ListedMetavariable) : Type 0 where
    pub same : (m : ℕ) → IsListed is m → β m ≡ substituted_option (answer_images is) (values (skeletons_of Ψ) is m)
    pub fits : SubstitutionBySkeletons (as_head_skeletons (total_skeletons Σ (skeletons_of Ψ))) (context_skeletons (free_context (skeletons_of Ψ) is)) (context_skeletons F) (answer_images is)
    pub plain : (γ : ℕ → Option Term) (i : ℕ) → answer_images is i ≡ fill_image (skeletons_of Ψ) γ (answer_images is i)
    pub typed : IsTypedSubstitution Σ (free_context (skeletons_of Ψ) is) F (answer_images is)
    pub terms : (i : ℕ) (A : LfType) → TypeAt (free_context (skeletons_of Ψ) is) i A → (N : Term) × (answer_images is i ≡ put (skeleton A) N)

  value_fits : (Γ : List Skeleton) (ρ : ℕ → Image) → SubstitutionBySkeletons (as_head_skeletons (total_skeletons Σ (skeletons_of Ψ))) Γ (context_skeletons F) ρ → (y : Option Term) (a : Skeleton) → ValueHasSkeleton (total_skeletons Σ (skeletons_of Ψ)) Γ y a → ValueHasSkeleton (total_skeletons Σ (skeletons_of Ψ)) (context_skeletons F) (substituted_option ρ y) a
  value_fits Γ ρ s None a v = v
  value_fits Γ ρ s (Some N) a v = substitution_keeps_skeletons (as_head_skeletons (total_skeletons Σ (skeletons_of Ψ))) Γ (context_skeletons F) ρ N a s v

  module _ (is : List ListedMetavariable) (o : IsDependencyOrder Σ Ψ U is) (p : Part is) where
    filled : Filled (total_skeletons Σ (skeletons_of Ψ)) (context_skeletons (free_context (skeletons_of Ψ) is)) (context_skeletons F) (values (skeletons_of Ψ) is) (from_answer is) (answer_images is) (answer_images is)
    filled = record {
      by_skeletons = p.fits;
      by_skeletons' = p.fits;
      fillings = (stage Σ (skeletons_of Ψ) ok Ψ U is o).by_skeletons;
      fillings' = λ m. value_fits (context_skeletons (free_context (skeletons_of Ψ) is)) (answer_images is) p.fits (values (skeletons_of Ψ) is m) (skeletons_of Ψ m) ((stage Σ (skeletons_of Ψ) ok Ψ U is o).by_skeletons m);
      images = p.plain (from_answer is);
      values = λ m. refl;
    }

    -- what a closed type and a closed term become
    type_from : (A : LfType) → MetavariablesInType (IsListed is) A → OpenIsType Σ [] Ψ U [] A → ((ρ : ℕ → ℕ) → rename_type ρ A ≡ A) → fill_type (skeletons_of Ψ) β A ≡ substitute_type reduce (answer_images is) (fill_type (skeletons_of Ψ) (values (skeletons_of Ψ) is) A)
    type_from A i t c =
        fill_agree_type (IsListed is) (skeletons_of Ψ) (skeletons_of Ψ) (λ m v. refl) β (from_answer is) A p.same i
        ∙ ap (fill_type (skeletons_of Ψ) (from_answer is)) (sym (closed_type_stays A c (answer_images is)))
        ∙ fill_substituted_type (total_skeletons Σ (skeletons_of Ψ)) (family_skeletons Σ) (context_skeletons (free_context (skeletons_of Ψ) is)) (context_skeletons F) (values (skeletons_of Ψ) is) (from_answer is) (answer_images is) (answer_images is) A filled (open_skeletons_type Σ (skeletons_of Ψ) ok Ψ U [] (context_skeletons (free_context (skeletons_of Ψ) is)) A t)

    term_from : (N : Term) (A : LfType) → MetavariablesIn (IsListed is) N → OpenHasType Σ [] Ψ U [] N A → ((ρ : ℕ → ℕ) → rename ρ N ≡ N) → fill (skeletons_of Ψ) β N ≡ substitute reduce (answer_images is) (fill (skeletons_of Ψ) (values (skeletons_of Ψ) is) N)
    term_from N A i t c =
        fill_agree (IsListed is) (skeletons_of Ψ) (skeletons_of Ψ) (λ m v. refl) β (from_answer is) N p.same i
        ∙ ap (fill (skeletons_of Ψ) (from_answer is)) (sym (closed_stays N c (answer_images is)))
        ∙ fill_substituted (total_skeletons Σ (skeletons_of Ψ)) (context_skeletons (free_context (skeletons_of Ψ) is)) (context_skeletons F) (values (skeletons_of Ψ) is) (from_answer is) (answer_images is) (answer_images is) N (skeleton A) filled (open_skeletons_kind Σ (skeletons_of Ψ) ok Ψ U 0 [] (context_skeletons (free_context (skeletons_of Ψ) is)) (app N nil) (kind_pi A star) (t, tt)).0

  moved_back : (x : Image) (ρ : ℕ → Image) (y : Option Term) → substituted_option ρ y ≡ substituted_option (in_front x ρ) (rename_value suc y)
  moved_back x ρ None = refl
  moved_back x ρ (Some N) = ap Some (sym (substitute_renamed reduce (in_front x ρ) suc N))

  -- a metavariable without a value: a variable more
  free_part : (is : List ListedMetavariable) (n : ℕ) (A : LfType) → (o : IsDependencyOrder Σ Ψ U is) → Part is → Ψ n ≡ Some A → (IsListed is n → ⊥) → MetavariablesInType (IsListed is) A → OpenIsType Σ [] Ψ U [] A → ((ρ : ℕ → ℕ) → rename_type ρ A ≡ A) → Part (record { of = n; of_type = A; value = None } ∷ is)
  free_part is n A o p d out i t c =
      let a : Skeleton = skeleton A in
      let X : LfType = fill_type (skeletons_of Ψ) (values (skeletons_of Ψ) is) A in
      let ρ : ℕ → Image = answer_images is in
      let (V, e, v) = declared_value n A d in
      let h : (m : ℕ) → value_image a (β n) ≡ put a V = λ m. ap (value_image a) e in
      let ρ' : ℕ → Image = in_front (put a V) ρ in
      let q : in_front (value_image a (β n)) ρ ≡ ρ' = ap (λ x. in_front x ρ) (ap (value_image a) e) in
      let v' : HasType Σ F V (substitute_type reduce ρ X) = subst (HasType Σ F V) (type_from is o p A i t c) v in
      let sv : TermSkeleton (as_head_skeletons (total_skeletons Σ (skeletons_of Ψ))) (context_skeletons F) V a = subst (TermSkeleton (as_head_skeletons (total_skeletons Σ (skeletons_of Ψ))) (context_skeletons F) V) (skeleton_fill (skeletons_of Ψ) β A) (typed_has_skeleton Σ (skeletons_of Ψ) F V (fill_type (skeletons_of Ψ) β A) v) in
      let sx : skeleton X ≡ a = skeleton_fill (skeletons_of Ψ) (values (skeletons_of Ψ) is) A in
      let β1 : ℕ → Option Term = set_at n (Some (eta_variable a zero)) (moved suc (values (skeletons_of Ψ) is)) in
      record {
        same = λ m l. by_listed is n A p out V e sv m l;
        fits = subst (λ f. SubstitutionBySkeletons (as_head_skeletons (total_skeletons Σ (skeletons_of Ψ))) (skeleton X ∷ context_skeletons (free_context (skeletons_of Ψ) is)) (context_skeletons F) f) (sym q) (fits_front (skeleton X) a V ρ sx sv p.fits);
        plain = λ γ j. subst (λ f. f j ≡ fill_image (skeletons_of Ψ) γ (f j)) (sym q) (plain_front γ a V (fill_type (skeletons_of Ψ) β A) v ρ (p.plain γ) j);
        typed = subst (IsTypedSubstitution Σ (X ∷ free_context (skeletons_of Ψ) is) F) (sym q) (typed_front X a V ρ (skeleton_substituted reduce ρ X ∙ sx) v' p.typed);
        terms = λ j B g. subst (λ f. (N : Term) × (f j ≡ put (skeleton B) N)) (sym q) (terms_front X a V ρ sx p.terms j B g);
      }
    where
      fits_front : (b a : Skeleton) (V : Term) (ρ : ℕ → Image) → b ≡ a → TermSkeleton (as_head_skeletons (total_skeletons Σ (skeletons_of Ψ))) (context_skeletons F) V a → SubstitutionBySkeletons (as_head_skeletons (total_skeletons Σ (skeletons_of Ψ))) (context_skeletons (free_context (skeletons_of Ψ) is)) (context_skeletons F) ρ → SubstitutionBySkeletons (as_head_skeletons (total_skeletons Σ (skeletons_of Ψ))) (b ∷ context_skeletons (free_context (skeletons_of Ψ) is)) (context_skeletons F) (in_front (put a V) ρ)
      fits_front b a V ρ e s f zero u g = (sym e ∙ g, s)
      fits_front b a V ρ e s f (suc j) u g = f j u g

      plain_front : (γ : ℕ → Option Term) (a : Skeleton) (V : Term) (Y : LfType) → HasType Σ F V Y → (ρ : ℕ → Image) → ((j : ℕ) → ρ j ≡ fill_image (skeletons_of Ψ) γ (ρ j)) → (j : ℕ) → in_front (put a V) ρ j ≡ fill_image (skeletons_of Ψ) γ (in_front (put a V) ρ j)
      plain_front γ a V Y v ρ f zero = ap (put a) (sym (fill_typed Σ (skeletons_of Ψ) F γ V Y v))
      plain_front γ a V Y v ρ f (suc j) = f j

      typed_front : (X : LfType) (a : Skeleton) (V : Term) (ρ : ℕ → Image) → skeleton (substitute_type reduce ρ X) ≡ a → HasType Σ F V (substitute_type reduce ρ X) → IsTypedSubstitution Σ (free_context (skeletons_of Ψ) is) F ρ → IsTypedSubstitution Σ (X ∷ free_context (skeletons_of Ψ) is) F (in_front (put a V) ρ)
      typed_front X a V ρ k v f zero B e = subst (ImageHasType Σ F (put a V)) (sym (ap (substitute_type reduce (in_front (put a V) ρ)) e ∙ substitute_renamed_type reduce (in_front (put a V) ρ) suc X)) (k, v)
      typed_front X a V ρ k v f (suc j) B (D, g, e) = subst (ImageHasType Σ F (ρ j)) (sym (ap (substitute_type reduce (in_front (put a V) ρ)) e ∙ substitute_renamed_type reduce (in_front (put a V) ρ) suc D)) (f j D g)

      terms_front : (X : LfType) (a : Skeleton) (V : Term) (ρ : ℕ → Image) → skeleton X ≡ a → ((i : ℕ) (A : LfType) → TypeAt (free_context (skeletons_of Ψ) is) i A → (N : Term) × (ρ i ≡ put (skeleton A) N)) → (j : ℕ) (B : LfType) → TypeAt (X ∷ free_context (skeletons_of Ψ) is) j B → (N : Term) × (in_front (put a V) ρ j ≡ put (skeleton B) N)
      terms_front X a V ρ k f zero B e = (V, ap (λ b. put b V) (sym (ap skeleton e ∙ skeleton_renamed suc X ∙ k)))
      terms_front X a V ρ k f (suc j) B (D, g, e) = let (N, q) = f j D g in (N, q ∙ ap (λ b. put b N) (sym (ap skeleton e ∙ skeleton_renamed suc D)))

      by_listed : (is : List ListedMetavariable) (n : ℕ) (A : LfType) → Part is → (IsListed is n → ⊥) → (V : Term) → β n ≡ Some V → TermSkeleton (as_head_skeletons (total_skeletons Σ (skeletons_of Ψ))) (context_skeletons F) V (skeleton A) → (m : ℕ) → (m ≡ n) ⊎ IsListed is m → β m ≡ substituted_option (in_front (value_image (skeleton A) (β n)) (answer_images is)) (set_at n (Some (eta_variable (skeleton A) zero)) (moved suc (values (skeletons_of Ψ) is)) m)
      by_listed is n A p out V e sv m (inl r) =
          ap β r ∙ e
          ∙ ap Some (sym ((eta_both (as_head_skeletons (total_skeletons Σ (skeletons_of Ψ))) (skeleton A)).1 (context_skeletons F) (in_front (put (skeleton A) V) (answer_images is)) zero (skeleton A) V nil refl sv refl ∙ reduce_nil (skeleton A) V))
          ∙ ap₂ (λ x y. substituted_option (in_front x (answer_images is)) y) (sym (ap (value_image (skeleton A)) e)) (sym (ap (set_at n (Some (eta_variable (skeleton A) zero)) (moved suc (values (skeletons_of Ψ) is))) r ∙ set_here n (Some (eta_variable (skeleton A) zero)) (moved suc (values (skeletons_of Ψ) is))))
      by_listed is n A p out V e sv m (inr l) =
          p.same m l
          ∙ moved_back (value_image (skeleton A) (β n)) (answer_images is) (values (skeletons_of Ψ) is m)
          ∙ ap (substituted_option (in_front (value_image (skeleton A) (β n)) (answer_images is))) (sym (set_other n (Some (eta_variable (skeleton A) zero)) (moved suc (values (skeletons_of Ψ) is)) m (λ q. out (subst (IsListed is) q l))))

  -- the value of a binding
  bound_value : (cs : List Binding) → Respects (skeletons_of Ψ) β cs → (n : ℕ) (N : Term) → Member (record { of = n; value = N }) cs → β n ≡ Some (fill (skeletons_of Ψ) β N)
  bound_value [] r n N i = absurd i
  bound_value (b ∷ cs) (e, r) n N (inl q) = ap (λ x. β x.of) q ∙ e ∙ ap (λ x. Some (fill (skeletons_of Ψ) β x.value)) (sym q)
  bound_value (b ∷ cs) (e, r) n N (inr i) = bound_value cs r n N i

  -- a metavariable with a value
  bound_part : (is : List ListedMetavariable) (n : ℕ) (A : LfType) (N : Term) → (o : IsDependencyOrder Σ Ψ U is) → Part is → (IsListed is n → ⊥) → Member (record { of = n; value = N }) bs → MetavariablesIn (IsListed is) N → OpenHasType Σ [] Ψ U [] N A → ((ρ : ℕ → ℕ) → rename ρ N ≡ N) → Part (record { of = n; of_type = A; value = Some N } ∷ is)
  bound_part is n A N o p out b i t c = record {
    same = λ m l. by m l;
    fits = p.fits;
    plain = p.plain;
    typed = p.typed;
    terms = p.terms;
  }
    where
      by : (m : ℕ) → (m ≡ n) ⊎ IsListed is m → β m ≡ substituted_option (answer_images is) (set_at n (Some (fill (skeletons_of Ψ) (values (skeletons_of Ψ) is) N)) (values (skeletons_of Ψ) is) m)
      by m (inl r) = ap β r ∙ bound_value bs respects n N b ∙ ap Some (term_from is o p N A i t c) ∙ ap (substituted_option (answer_images is)) (sym (ap (set_at n (Some (fill (skeletons_of Ψ) (values (skeletons_of Ψ) is) N)) (values (skeletons_of Ψ) is)) r ∙ set_here n (Some (fill (skeletons_of Ψ) (values (skeletons_of Ψ) is) N)) (values (skeletons_of Ψ) is)))
      by m (inr l) = p.same m l ∙ ap (substituted_option (answer_images is)) (sym (set_other n (Some (fill (skeletons_of Ψ) (values (skeletons_of Ψ) is) N)) (values (skeletons_of Ψ) is) m (λ q. out (subst (IsListed is) q l))))

  -- The lemma
  pub part : (is : List ListedMetavariable) → IsDependencyOrder Σ Ψ U is → ValuesAreBindings bs is → Part is
  part [] o v = record { same = λ m l. absurd l; fits = λ i t g. absurd g; plain = λ γ i. refl; typed = λ i A g. absurd g; terms = λ i A g. absurd g }
  part (it ∷ is) o (v, vs) = go it.value o.6 v (part is o.0 vs)
    where
      go : (x : Option Term) → ValueIsOrdered Σ Ψ U is it.of_type x → ((N : Term) → x ≡ Some N → Member (record { of = it.of; value = N }) bs) → Part is → Part (record { of = it.of; of_type = it.of_type; value = x } ∷ is)
      go None w b p = free_part is it.of it.of_type o.0 p o.1 o.2 o.3 o.4 o.5
      go (Some N) w b p = bound_part is it.of it.of_type N o.0 p o.2 (b N refl) w.0 w.1 w.2
